-- The suffix of a numeric literal is its last character.
use Rattle.std.proofs.Common.{◌≡◌, ℕ, ◌==◌, false, List, [], ◌∷◌, refl}
use Rattle.swc_ecma_codegen_grammar.specs.Numbers.{has_suffix}
use Rattle.swc_ecma_codegen_validate.specs.Suffixes.{ends_with_n}

after_some : (c : ℕ) (cs : List ℕ) → has_suffix (c ∷ cs) ≡ ends_with_n (c == 110) cs
unfolding has_suffix ends_with_n
after_some c [] = refl
after_some c (d ∷ cs) = after_some d cs

pub suffix_last : (text : List ℕ) → has_suffix text ≡ ends_with_n false text
unfolding has_suffix ends_with_n
suffix_last [] = refl
suffix_last (c ∷ cs) = after_some c cs
