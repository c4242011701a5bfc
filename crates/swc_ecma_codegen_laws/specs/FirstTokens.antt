-- Tokens by the character that they begin with.
use Rattle.std.specs.Prelude.{Bool, true, false}
use Rattle.swc_ecma_codegen_grammar.specs.declared.kinds.Kind.{Kind}
use Rattle.swc_ecma_codegen_grammar.specs.declared.kinds.Kind.TheVariants.{Word, Name, Number, BigInt}

-- words, names and numbers begin with a character that a name may hold, and so may become one with a word before them
unfoldable pub joins_a_word : Kind → Bool
joins_a_word Word = true
joins_a_word Name = true
joins_a_word Number = true
joins_a_word BigInt = true
joins_a_word kind = false
