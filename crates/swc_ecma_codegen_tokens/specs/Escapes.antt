-- What of a tree may take memory.
use Rattle.std.specs.Prelude.{Bool, true, false, not, ◌||◌}
use Rattle.swc_ecma_codegen_grammar.specs.Phrases.{Phrase, Never, Nothing, One, NameOf, KeyOf, PrivateOf, TagNameOf, Then, CommaBefore, OptionalParentheses, Chosen}
use Rattle.swc_ecma_codegen_grammar.specs.declared.kinds.Kind.{Kind}
use Rattle.swc_ecma_codegen_grammar.specs.declared.kinds.Kind.TheVariants.{Number, BigInt, Str, JsxString, Template, TemplateRest}
use Rattle.swc_ecma_codegen_grammar.specs.ValidNames.{turned}
use Rattle.swc_ecma_codegen_settings.specs.declared.config.Config.{Config}
use Rattle.swc_ecma_codegen_tokens.specs.Run.{has_backslash}
use Rattle.swc_ecma_codegen_tokens.specs.Targets.{wants_escapes}

-- a literal whose text may be another than its raw
unfoldable pub is_spelled_anew : Kind → Bool
is_spelled_anew Number = true
is_spelled_anew BigInt = true
is_spelled_anew Str = true
is_spelled_anew JsxString = true
is_spelled_anew (Template part) = not part.tagged
is_spelled_anew (TemplateRest part) = not part.tagged
is_spelled_anew kind = false

-- A name of the tree holds a backslash, or isn't ASCII where the settings ask for that, or a string, a number, a big integer or a
-- template stands in it: only the text of such is made anew, in memory. And where a comma is an option, the source text is asked for it,
-- which may take memory too.
unfoldable pub may_make_text : Config → Phrase → Bool
may_make_text config Never = false
may_make_text config Nothing = false
may_make_text config (One x) = is_spelled_anew x.kind
may_make_text config (NameOf at bytes) = has_backslash bytes || wants_escapes config (turned bytes)
may_make_text config (KeyOf at bytes) = has_backslash bytes || wants_escapes config (turned bytes)
may_make_text config (PrivateOf bytes) = has_backslash bytes || wants_escapes config (turned bytes)
may_make_text config (TagNameOf at bytes) = false
may_make_text config (Then a b) = may_make_text config a || may_make_text config b
may_make_text config (CommaBefore close) = true
may_make_text config (OptionalParentheses round a) = may_make_text config a
may_make_text config (Chosen choice) = false
