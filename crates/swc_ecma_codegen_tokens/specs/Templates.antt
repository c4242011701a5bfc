-- What is written of the parts of templates. ECMA-262, section 12.9.6; `emit_quasi` of swc, and what it does for a tagged template.
use Rattle.std.specs.Prelude.{ℕ, ◌==◌, Bool, not, ◌&&◌, ◌||◌, false, if◌then◌else◌, List, [], ◌∷◌, None, string_bytes}
use Rattle.std.specs.Str.{chars, encode_utf8_all}
use Rattle.swc_ecma_codegen_common.specs.declared.positions.Span.{Span}
use Rattle.swc_ecma_codegen_tree.specs.declared.exprs.TplElement.{TplElement}
use Rattle.swc_ecma_codegen_spans.specs.Spans.{dummy_span}
use Rattle.swc_ecma_codegen_grammar.specs.declared.kinds.TemplatePart.{TemplatePart}
use Rattle.swc_ecma_codegen_grammar.specs.Texts.{begins}
use Rattle.swc_ecma_codegen_grammar.specs.Templates.{part_end}
use Rattle.swc_ecma_codegen_grammar.specs.TemplatePhrases.{part_kind, part_begin, part_text}
use Rattle.swc_ecma_codegen_text_writer.specs.Sheet.{StrLit, Punct}
use Rattle.swc_ecma_codegen_settings.specs.declared.config.Config.{Config}
use Rattle.swc_ecma_codegen_literals.specs.AsciiNames.{is_ascii_text}
use Rattle.swc_ecma_codegen_literals.specs.TemplateTexts.{template_text}
use Rattle.swc_ecma_codegen_literals.specs.ValidNames.{has_byte}
use Rattle.swc_ecma_codegen_tokens.specs.Run.{Part, step, Guard, Plain, Ends, Remake}
use Rattle.swc_ecma_codegen_tokens.specs.Words.{start_of, end_of}

-- CR LF and CR as LF
unfoldable pub with_line_feeds : List ℕ → List ℕ
with_line_feeds [] = []
with_line_feeds (c ∷ cs) = if c == 13 then (if begins (10 ∷ []) cs then with_line_feeds cs else 10 ∷ with_line_feeds cs) else c ∷ with_line_feeds cs

-- an escape that isn't needed goes, and what isn't ASCII is escaped where the settings ask for that
unfoldable pub is_respelled : Config → List ℕ → Bool
is_respelled config raw = config.minify || (config.ascii_only && not (is_ascii_text raw))

-- the text of a part of a template without a tag
unfoldable pub cooked_chars : Config → List ℕ → List ℕ
cooked_chars config raw = if is_respelled config raw then template_text config.ascii_only (chars raw) else with_line_feeds (chars raw)

abbrev pub cooked_text : Config → List ℕ → List ℕ
cooked_text config raw = encode_utf8_all (cooked_chars config raw)

-- it may be another than its raw
unfoldable pub makes_cooked : Config → List ℕ → Bool
makes_cooked config raw = is_respelled config raw || has_byte 13 raw

-- The call of that text. One of a template with a tag stands as it is in the tree.
unfoldable pub inside : Bool → List ℕ → Part
inside tagged t rest = if tagged then step (Ends [] (StrLit dummy_span t)) rest else step (Plain (StrLit dummy_span t)) rest

-- between two positions
unfoldable pub placed_inside : Bool → Span → List ℕ → Part
placed_inside tagged span t rest = start_of span (inside tagged t (end_of span rest))

-- the back quote before the first part, and the `}` before a later one
unfoldable pub opened : Bool → Part
opened first rest = step (Plain (Punct None (part_begin first))) rest

-- `${`, or the back quote, with which it ends
unfoldable pub closed : Bool → TemplatePart → List ℕ → Part
closed first part t rest = step (Ends ((part_kind first part, part_text first part t) ∷ []) (Punct None (part_end part))) rest

-- a part of a template by this text: one token
unfoldable pub part_by : Bool → TemplatePart → Span → List ℕ → Part
part_by first part span t rest = step (Guard (part_begin first)) (opened first (placed_inside part.tagged span t (closed first part t rest)))

-- a part by its raw, or by what that stands for
unfoldable pub cooked_part : Bool → TemplatePart → TplElement → Part
cooked_part first part n rest env =
    step (Remake (makes_cooked env.config (string_bytes n.raw))) (part_by first part n.span (cooked_text env.config (string_bytes n.raw)) rest) env

unfoldable pub tpl_element : Bool → TemplatePart → TplElement → Part
tpl_element first part n rest = if part.tagged then part_by first part n.span (string_bytes n.raw) rest else cooked_part first part n rest

-- What is written of a part by itself, which is no token: its text, as in a template without a tag, and no mark round it.
unfoldable pub quasi : TplElement → Part
quasi n rest env =
    step (Remake (makes_cooked env.config (string_bytes n.raw))) (placed_inside false n.span (cooked_text env.config (string_bytes n.raw)) rest) env
