-- Tags: a law of the words holds of the plan.
use Rattle.std.proofs.Common.{Bool, false}
use Rattle.swc_ecma_codegen_laws.specs.Breaks.{is_mark, is_break}
use Rattle.swc_ecma_codegen_laws.proofs.OfSteps.{is_other}
use Rattle.std.proofs.Common.{refl}
use Rattle.std.specs.Prelude.{List, ℕ, codes, None}
use Rattle.swc_ecma_codegen_common.specs.declared.positions.Span.{Span}
use Rattle.swc_ecma_codegen_spans.specs.Spans.{dummy_span}
use Rattle.swc_ecma_codegen_grammar.specs.declared.kinds.Kind.TheVariants.{Close, JsxName, JsxText, JsxOpen}
use Rattle.swc_ecma_codegen_text_writer.specs.Sheet.{Punct, StrLit, Symbol}
use Rattle.swc_ecma_codegen_tokens.specs.Run as run
use Rattle.swc_ecma_codegen_tokens.specs.Run.{Part, step, Guard}
use Rattle.swc_ecma_codegen_laws.proofs.OfSteps.{OfSteps}
use Rattle.swc_ecma_codegen_tokens.specs.Tags.{close, tag_symbol, tag_name, jsx_text, child_open}
use Rattle.swc_ecma_codegen_laws.proofs.StepsOfWords.{commit_pending_semi_holds, leading_comments_holds, start_of_holds}

pub close_holds : {holds : Bool → Part → Type 0} (words : OfSteps holds) (bounded : Bool) → holds bounded close
unfolding close is_other is_mark is_break
close_holds words bounded = words.and_then bounded (words.step bounded (Guard (codes ">")) refl) (words.step bounded (run.Token Close (Punct None (codes ">"))) refl)

pub tag_symbol_holds : {holds : Bool → Part → Type 0} (words : OfSteps holds) (bounded : Bool) (span : Span) (t : List ℕ) → holds bounded (tag_symbol span t)
unfolding tag_symbol is_other is_mark is_break
tag_symbol_holds words bounded span t = words.and_then bounded (words.step bounded (Guard t) refl) (words.and_then bounded (start_of_holds words bounded span) (words.step bounded (run.Token JsxName (Symbol dummy_span t)) refl))

pub tag_name_holds : {holds : Bool → Part → Type 0} (words : OfSteps holds) (bounded : Bool) (span : Span) (t : List ℕ) → holds bounded (tag_name span t)
unfolding tag_name
tag_name_holds words bounded span t = words.and_then bounded (leading_comments_holds words bounded span.lo) (words.and_then bounded (commit_pending_semi_holds words bounded) (tag_symbol_holds words bounded span t))

pub jsx_text_holds : {holds : Bool → Part → Type 0} (words : OfSteps holds) (bounded : Bool) (span : Span) (t : List ℕ) → holds bounded (jsx_text span t)
unfolding jsx_text is_other is_mark is_break
jsx_text_holds words bounded span t = words.step bounded (run.Token JsxText (StrLit span t)) refl

pub child_open_holds : {holds : Bool → Part → Type 0} (words : OfSteps holds) (t : List ℕ) → holds false (child_open t)
unfolding child_open
child_open_holds words t = words.enclosed (run.Token JsxOpen (Punct None t)) refl refl
