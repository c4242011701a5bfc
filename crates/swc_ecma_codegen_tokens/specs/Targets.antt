-- How names are spelled in ASCII, and which can't be so spelled for a target.
use Rattle.std.specs.Prelude.{ℕ, Bool, true, false, not, ◌&&◌, ◌||◌, if◌then◌else◌, List}
use Rattle.std.specs.Str.{chars}
use Rattle.swc_ecma_codegen_grammar.specs.Phrases.{Phrase, Never, Nothing, One, NameOf, KeyOf, PrivateOf, TagNameOf, Then, CommaBefore, OptionalParentheses, Chosen, NameSort, Plain, Key, Tag, PlacedName}
use Rattle.swc_ecma_codegen_grammar.specs.ValidNames.{turned}
use Rattle.swc_ecma_codegen_settings.specs.declared.config.Config.{Config}
use Rattle.swc_ecma_codegen_literals.specs.AsciiNames.{is_ascii_text, is_out_of_target, ascii_name}

-- A text of a name is made anew in ASCII.
unfoldable pub wants_escapes : Config → List ℕ → Bool
wants_escapes config t = config.ascii_only && not (is_ascii_text t)

-- a text of a name, in ASCII where the settings ask for that: `\u00e9`
unfoldable pub in_ascii : Config → List ℕ → List ℕ
in_ascii config t = if wants_escapes config t then ascii_name false config.target (chars t) else t

-- In ASCII no escape of a name stands for one of its characters: for one above U+FFFF, up to ECMAScript 5.
unfoldable pub is_out_name : Config → List ℕ → Bool
is_out_name config t = config.ascii_only && is_out_of_target false config.target (chars t)

-- what is written of a name of the tree
unfoldable pub written_name : Config → List ℕ → List ℕ
written_name config bytes = in_ascii config (turned bytes)

-- The same of a key: `"\xe9"` in ASCII, which no target refuses.
unfoldable pub written_key : Config → List ℕ → List ℕ
written_key config bytes = if wants_escapes config (turned bytes) then ascii_name true config.target (chars (turned bytes)) else turned bytes

-- by the sort of a name: one in a tag is written as it is
unfoldable pub written_by : Config → NameSort → List ℕ → List ℕ
written_by config Plain bytes = written_name config bytes
written_by config Key bytes = written_key config bytes
written_by config Tag bytes = bytes

-- what is written of a name
unfoldable pub written_as : Config → PlacedName → List ℕ
written_as config x = written_by config x.sort x.bytes

-- Some name of the tree can't be written under these settings.
unfoldable pub is_out : Config → Phrase → Bool
is_out config Never = false
is_out config Nothing = false
is_out config (One x) = false
is_out config (NameOf at bytes) = is_out_name config (turned bytes)
is_out config (KeyOf at bytes) = false
is_out config (PrivateOf bytes) = is_out_name config (turned bytes)
is_out config (TagNameOf at bytes) = false
is_out config (Then a b) = is_out config a || is_out config b
is_out config (CommaBefore close) = false
is_out config (OptionalParentheses round a) = is_out config a
is_out config (Chosen choice) = false
