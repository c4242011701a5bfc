-- Attributes: a law of the words holds of the plan.
use Rattle.swc_ecma_codegen_laws.specs.Breaks.{is_mark, is_break}
use Rattle.swc_ecma_codegen_laws.proofs.OfSteps.{is_other}
use Rattle.std.proofs.Common.{refl}
use Rattle.std.specs.Prelude.{ℕ, Bool, is_none, List}
use Rattle.swc_ecma_codegen_common.specs.declared.positions.Span.{Span}
use Rattle.swc_ecma_codegen_spans.specs.Spans.{dummy_span}
use Rattle.swc_ecma_codegen_tree.specs.declared.lits.JSXText.{JSXText}
use Rattle.swc_ecma_codegen_tree.specs.declared.lits.Str.{Str}
use Rattle.swc_ecma_codegen_grammar.specs.declared.kinds.Kind.TheVariants.{JsxString}
use Rattle.swc_ecma_codegen_grammar.specs.JsxPhrases.{jsx_spelling, text_spelling}
use Rattle.swc_ecma_codegen_text_writer.specs.Sheet.{StrLit}
use Rattle.swc_ecma_codegen_tokens.specs.Run as run
use Rattle.swc_ecma_codegen_tokens.specs.Run.{Part, step, Guard, Remake, refuse}
use Rattle.swc_ecma_codegen_tokens.specs.declared.refusals.Unprintable.TheVariants.{BadShape}
use Rattle.swc_ecma_codegen_laws.proofs.OfSteps.{OfSteps, either}
use Rattle.swc_ecma_codegen_tokens.specs.Attributes.{has_no_text, attribute_token, attribute_by, spelled_string, attribute_string, jsx_text_node, jsx_text_lit}
use Rattle.swc_ecma_codegen_laws.proofs.StepsOfLiterals.{begun_holds, settled_begun_holds}
use Rattle.swc_ecma_codegen_laws.proofs.StepsOfTags.{jsx_text_holds}

pub attribute_token_holds : {holds : Bool → Part → Type 0} (words : OfSteps holds) (bounded : Bool) (t : List ℕ) → holds bounded (attribute_token t)
unfolding attribute_token is_other is_mark is_break
attribute_token_holds words bounded t = words.and_then bounded (words.step bounded (Guard t) refl) (words.step bounded (run.Token JsxString (StrLit dummy_span t)) refl)

pub attribute_by_holds : {holds : Bool → Part → Type 0} (words : OfSteps holds) (bounded : Bool) (span : Span) (t : List ℕ) → holds bounded (attribute_by span t)
unfolding attribute_by
attribute_by_holds words bounded span t = words.and_then bounded (begun_holds words bounded span t) (words.and_then bounded (settled_begun_holds words bounded span t) (attribute_token_holds words bounded t))

pub spelled_string_holds : {holds : Bool → Part → Type 0} (words : OfSteps holds) (bounded : Bool) (n : Str) → holds bounded (spelled_string n)
unfolding spelled_string is_other is_mark is_break
spelled_string_holds words bounded n = words.and_then bounded (words.step bounded (Remake (is_none n.raw)) refl) (attribute_by_holds words bounded n.span (jsx_spelling n.value n.raw))

pub attribute_string_holds : {holds : Bool → Part → Type 0} (words : OfSteps holds) (bounded : Bool) (n : Str) → holds bounded (attribute_string n)
unfolding attribute_string
attribute_string_holds words bounded n = either words bounded (has_no_text n) (words.refuse bounded BadShape) (spelled_string_holds words bounded n)

pub jsx_text_node_holds : {holds : Bool → Part → Type 0} (words : OfSteps holds) (bounded : Bool) (n : JSXText) → holds bounded (jsx_text_node n)
jsx_text_node_holds words bounded n = jsx_text_holds words bounded n.span (text_spelling n)

pub jsx_text_lit_holds : {holds : Bool → Part → Type 0} (words : OfSteps holds) (bounded : Bool) (n : JSXText) → holds bounded (jsx_text_lit n)
unfolding jsx_text_lit
jsx_text_lit_holds words bounded n = words.and_then bounded (begun_holds words bounded n.span (text_spelling n)) (jsx_text_node_holds words bounded n)
