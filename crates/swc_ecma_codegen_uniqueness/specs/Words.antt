-- Words of the grammar that are names as well, and which the tokens round them tell: `get` is a word in `{ get a() {} }`, and a name in `{ get: a }`.
use Rattle.std.specs.Prelude.{ℕ, List, [], ◌∷◌, codes, if◌then◌else◌}
use Rattle.swc_ecma_codegen_grammar.specs.declared.kinds.Kind.{Kind}
use Rattle.swc_ecma_codegen_grammar.specs.declared.kinds.Kind.TheVariants as kinds
use Rattle.swc_ecma_codegen_grammar.specs.Tokens.{Token, Value, Characters, name, word}
use Rattle.swc_ecma_codegen_syntax.specs.NameForms.{is_one_of}
use Rattle.swc_ecma_codegen_uniqueness.specs.ParseTrees.{ParseTree, End, Read, Optional, Node}

-- `from` of an import, `of` of a `for`, `target` of `new.target`
abbrev pub contextual_words : List (List ℕ)
contextual_words =
    codes "as" ∷ codes "from" ∷ codes "get" ∷ codes "meta" ∷ codes "of" ∷ codes "set" ∷ codes "static" ∷ codes "target" ∷ []

-- such a word as the name of the same letters, and any other token as it is
unfoldable pub named_by : Kind → Value → Token
named_by kinds.Word (Characters text) = if is_one_of contextual_words text then name text else word text
named_by kind v = record { kind = kind; value = v }

abbrev pub as_name : Token → Token
as_name t = named_by t.kind t.value

-- each of a list, and of a parse tree
unfoldable pub as_names : List Token → List Token
as_names [] = []
as_names (t ∷ ts) = as_name t ∷ as_names ts

unfoldable pub with_names : ParseTree → ParseTree
with_names End = End
with_names (Read t rest) = Read (as_name t) (with_names rest)
with_names (Optional t rest) = Optional (as_name t) (with_names rest)
with_names (Node variant inside rest) = Node variant (with_names inside) (with_names rest)
