-- PrivateNames: a law of the words holds of the plan.
use Rattle.std.proofs.Common.{Bool}
use Rattle.swc_ecma_codegen_laws.specs.Breaks.{is_mark, is_break}
use Rattle.swc_ecma_codegen_laws.proofs.OfSteps.{is_other}
use Rattle.std.proofs.Common.{refl}
use Rattle.std.specs.Prelude.{ℕ, if◌then◌else◌, List, [], ◌∷◌, codes, None}
use Rattle.swc_ecma_codegen_common.specs.declared.positions.Span.{Span}
use Rattle.swc_ecma_codegen_spans.specs.Spans.{dummy_span}
use Rattle.swc_ecma_codegen_grammar.specs.declared.kinds.Kind.TheVariants.{PrivateName}
use Rattle.swc_ecma_codegen_grammar.specs.ValidNames.{turned}
use Rattle.swc_ecma_codegen_text_writer.specs.Sheet.{Symbol, Punct}
use Rattle.swc_ecma_codegen_tokens.specs.declared.refusals.Unprintable.TheVariants.{NameOutOfTarget}
use Rattle.swc_ecma_codegen_tokens.specs.Run.{Part, step, Guard, Plain, Ends, Remake, refuse, has_backslash}
use Rattle.swc_ecma_codegen_tokens.specs.Targets.{wants_escapes, in_ascii, is_out_name}
use Rattle.swc_ecma_codegen_laws.proofs.OfSteps.{OfSteps, either_at}
use Rattle.swc_ecma_codegen_tokens.specs.PrivateNames.{private_spelling, hashed, private_token, private_symbol, spelled_private, valid_private, private_text, private_name}
use Rattle.swc_ecma_codegen_laws.proofs.StepsOfWords.{end_of_holds, leading_comments_holds, start_of_holds}

pub hashed_holds : {holds : Bool → Part → Type 0} (words : OfSteps holds) (bounded : Bool) (t : List ℕ) → holds bounded (hashed t)
unfolding hashed is_other is_mark is_break
hashed_holds words bounded t = words.step bounded (Ends ((PrivateName, private_spelling t) ∷ []) (Symbol dummy_span t)) refl

pub private_token_holds : {holds : Bool → Part → Type 0} (words : OfSteps holds) (bounded : Bool) (span : Span) (t : List ℕ) → holds bounded (private_token span t)
unfolding private_token is_other is_mark is_break
private_token_holds words bounded span t = words.and_then bounded (words.step bounded (Guard (codes "#")) refl) (words.and_then bounded (words.step bounded (Plain (Punct None (codes "#"))) refl) (words.and_then bounded (start_of_holds words bounded span) (hashed_holds words bounded t)))

pub private_symbol_holds : {holds : Bool → Part → Type 0} (words : OfSteps holds) (bounded : Bool) (span : Span) (t : List ℕ) → holds bounded (private_symbol span t)
unfolding private_symbol is_other is_mark is_break
private_symbol_holds words bounded span t = words.and_then bounded (words.step bounded (Guard (codes "#")) refl) (words.and_then bounded (start_of_holds words bounded span) (private_token_holds words bounded span t))

pub spelled_private_holds : {holds : Bool → Part → Type 0} (words : OfSteps holds) (bounded : Bool) (span : Span) (t : List ℕ) → holds bounded (spelled_private span t)
unfolding spelled_private is_other is_mark is_break
spelled_private_holds words bounded span t = words.by_env bounded (λ now rest env. if is_out_name now.config t then refuse NameOutOfTarget rest env else step (Remake (wants_escapes now.config t)) (private_symbol span (in_ascii now.config t) rest) env) (λ now. (either_at words bounded (is_out_name now.config t) (words.refuse bounded NameOutOfTarget) (words.and_then bounded (words.step bounded (Remake (wants_escapes now.config t)) refl) (private_symbol_holds words bounded span (in_ascii now.config t)))))

pub valid_private_holds : {holds : Bool → Part → Type 0} (words : OfSteps holds) (bounded : Bool) (span : Span) (name : List ℕ) → holds bounded (valid_private span name)
unfolding valid_private is_other is_mark is_break
valid_private_holds words bounded span name = words.and_then bounded (words.step bounded (Remake (has_backslash name)) refl) (spelled_private_holds words bounded span (turned name))

pub private_text_holds : {holds : Bool → Part → Type 0} (words : OfSteps holds) (bounded : Bool) (span : Span) (name : List ℕ) → holds bounded (private_text span name)
unfolding private_text
private_text_holds words bounded span name = words.by_env bounded (λ now rest env. if now.keeps_invalid then spelled_private span name rest env else valid_private span name rest env) (λ now. (either_at words bounded now.keeps_invalid (spelled_private_holds words bounded span name) (valid_private_holds words bounded span name)))

pub private_name_holds : {holds : Bool → Part → Type 0} (words : OfSteps holds) (bounded : Bool) (span : Span) (name : List ℕ) → holds bounded (private_name span name)
unfolding private_name
private_name_holds words bounded span name = words.and_then bounded (leading_comments_holds words bounded span.lo) (words.and_then bounded (private_text_holds words bounded span name) (end_of_holds words bounded span))
