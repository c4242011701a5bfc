-- Decimal integers: a dot after one would belong to it. ECMA-262, sections 12.9.3 and B.1.1.
use Rattle.std.specs.Prelude.{ℕ, Bool, true, false, not, List, [], ◌∷◌, ◌&&◌, ◌==◌, if◌then◌else◌}
use Rattle.swc_ecma_codegen_grammar.specs.Chars.{is_digit}
use Rattle.swc_ecma_codegen_grammar.specs.Numbers.{is_octal}

-- digits, with single underscores between: `due` says that a digit must come
unfoldable pub digits : Bool → List ℕ → Bool
digits due [] = not due
digits due (c ∷ cs) = if is_digit c then digits false cs else ((c == 95) && (not due && digits true cs))

-- digits after a leading zero and another, which aren't all `octal`
unfoldable pub decimal : Bool → List ℕ → Bool
decimal octal [] = not octal
decimal octal (c ∷ cs) = is_digit c && decimal (octal && is_octal c) cs

-- what may stand after a leading zero
unfoldable pub after_zero : List ℕ → Bool
after_zero [] = true
after_zero (c ∷ cs) = is_digit c && decimal (is_octal c) cs

unfoldable pub is_integer : List ℕ → Bool
is_integer [] = false
is_integer (c ∷ cs) = if c == 48 then after_zero cs else (is_digit c && digits false cs)
