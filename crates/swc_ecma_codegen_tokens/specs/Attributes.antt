-- The parts of strings of attributes, and of text between tags.
use Rattle.std.specs.Prelude.{ℕ, Bool, ◌&&◌, if◌then◌else◌, is_none, List, string_bytes}
use Rattle.swc_ecma_codegen_common.specs.declared.positions.Span.{Span}
use Rattle.swc_ecma_codegen_spans.specs.Spans.{dummy_span}
use Rattle.swc_ecma_codegen_tree.specs.declared.lits.JSXText.{JSXText}
use Rattle.swc_ecma_codegen_tree.specs.declared.lits.Str.{Str}
use Rattle.swc_ecma_codegen_grammar.specs.declared.kinds.Kind.TheVariants.{JsxString}
use Rattle.swc_ecma_codegen_grammar.specs.JsxPhrases.{holds, jsx_spelling, text_spelling}
use Rattle.swc_ecma_codegen_text_writer.specs.Sheet.{StrLit}
use Rattle.swc_ecma_codegen_tokens.specs.Run as run
use Rattle.swc_ecma_codegen_tokens.specs.Run.{Part, step, Guard, Remake, refuse}
use Rattle.swc_ecma_codegen_tokens.specs.Literals.{begun, settled_begun}
use Rattle.swc_ecma_codegen_tokens.specs.Tags.{jsx_text}
use Rattle.swc_ecma_codegen_tokens.specs.declared.refusals.Unprintable.TheVariants.{BadShape}

-- ---- strings of attributes: there are no escapes

-- neither quotes can stand round it: it has no raw, and its value holds both
abbrev pub has_no_text : Str → Bool
has_no_text n = is_none n.raw && (holds 34 (string_bytes n.value) && holds 39 (string_bytes n.value))

unfoldable pub attribute_token : List ℕ → Part
attribute_token t rest = step (Guard t) (step (run.Token JsxString (StrLit dummy_span t)) rest)

-- A string by this text: it begins as a literal first.
unfoldable pub attribute_by : Span → List ℕ → Part
attribute_by span t rest = begun span t (settled_begun span t (attribute_token t rest))

-- its raw as it is, else its value in quotes, which is made anew
unfoldable pub spelled_string : Str → Part
spelled_string n rest = step (Remake (is_none n.raw)) (attribute_by n.span (jsx_spelling n.value n.raw) rest)

unfoldable pub attribute_string : Str → Part
attribute_string n rest = if has_no_text n then refuse BadShape rest else spelled_string n rest

-- ---- text between tags

abbrev pub jsx_text_node : JSXText → Part
jsx_text_node n = jsx_text n.span (text_spelling n)

-- as a literal, which begins as others do
unfoldable pub jsx_text_lit : JSXText → Part
jsx_text_lit n rest = begun n.span (text_spelling n) (jsx_text_node n rest)
