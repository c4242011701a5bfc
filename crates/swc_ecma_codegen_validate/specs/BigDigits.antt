-- The digits of a big integer, as a spelling has them. ECMA-262, section 12.9.3.
use Rattle.std.specs.Prelude.{ℕ, Bool, true, false, not, List, [], ◌∷◌, ◌&&◌, ◌==◌, drop, if◌then◌else◌}
use Rattle.swc_ecma_codegen_tree.specs.declared.lits.Radix.{Radix}
use Rattle.swc_ecma_codegen_tree.specs.declared.lits.Radix.TheVariants.{Binary, Octal, Decimal, Hex}
use Rattle.swc_ecma_codegen_grammar.specs.LitPhrases.{is_digit_of}
use Rattle.swc_ecma_codegen_grammar.specs.Numbers.{is_either}
use Rattle.swc_ecma_codegen_grammar.specs.Texts.{begins, is_empty}

-- `0` and this character come before the digits of a radix
unfoldable pub is_prefix : Radix → ℕ → Bool
is_prefix Binary c = is_either 98 66 c
is_prefix Octal c = is_either 111 79 c
is_prefix Decimal c = false
is_prefix Hex c = is_either 120 88 c

-- These digits follow, with single `_` between, and then `n`: `F_Fn` for `FF`. `due` says that a digit must come.
unfoldable pub follow : Radix → Bool → List ℕ → List ℕ → Bool
follow radix due [] digits = false
follow radix due (c ∷ cs) digits =
    if is_digit_of radix c then (begins (c ∷ []) digits && follow radix false cs (drop 1 digits))
    else if c == 95 then (not due && follow radix true cs digits)
    else ((c == 110) && (not due && (is_empty cs && is_empty digits)))

-- the same, with the prefix of a radix before them: `0xF_Fn`
unfoldable pub follow_prefix : Radix → List ℕ → List ℕ → Bool
follow_prefix radix [] digits = false
follow_prefix radix (c ∷ []) digits = false
follow_prefix radix (c ∷ p ∷ cs) digits = (c == 48) && (is_prefix radix p && follow radix true cs digits)
