-- How the names of a tree are spelled, and which of them are well-formed.
use Rattle.std.specs.Prelude.{ℕ, Bool, List, ◌&&◌}
use Rattle.std.specs.Str.{chars, is_utf8}
use Rattle.swc_ecma_codegen_grammar.specs.Jsx.{is_jsx_name}
use Rattle.swc_ecma_codegen_grammar.specs.Names.{is_name}
use Rattle.swc_ecma_codegen_grammar.specs.ValidNames.{turned}

-- the characters of its UTF-8 bytes
unfoldable pub spelled_name : List ℕ → List ℕ
spelled_name bytes = chars (turned bytes)

-- a name is one name token
unfoldable pub is_well_formed_name : List ℕ → Bool
is_well_formed_name bytes = is_utf8 (turned bytes) && is_name (spelled_name bytes)

-- a name in a tag is one token: it has no escapes
unfoldable pub is_well_formed_tag_name : List ℕ → Bool
is_well_formed_tag_name bytes = is_utf8 bytes && is_jsx_name (chars bytes)
