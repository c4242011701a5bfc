-- String literals. ECMA-262, sections 12.9.4 and B.1.2.
use Rattle.std.specs.Prelude.{ℕ, Bool, true, List}
use Rattle.std.specs.Option.{is_some}
use Rattle.swc_ecma_codegen_grammar.specs.StringValues.{string_value}

-- A text is a string literal: it has a value. As in scripts that aren't strict, it may have octal escapes.
unfoldable pub is_string : List ℕ → Bool
is_string text = is_some (string_value true text)
