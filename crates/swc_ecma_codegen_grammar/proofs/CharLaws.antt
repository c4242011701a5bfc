-- Which characters go on with a name.
use Rattle.std.proofs.Common.{arith, inl, inr, nat_le, nat_lt, subst, sym, true, ℕ, ◌<◌, ◌==◌, ◌||◌, ◌∙◌, ◌≡◌, ◌≤◌}
use Rattle.std.proofs.lemmas.Bool.{and_parts, cond-true, eqb-true, leb-true, lt-ltb, or_cases, or_left, or_right}
use Rattle.swc_ecma_codegen_grammar.specs.Chars.{is_digit, is_letter, is_part}
use Rattle.swc_ecma_codegen_grammar.specs.Numbers.{is_either}
use Rattle.unicode_ident.specs.Ident.{is_xid_continue}

-- a digit and the letters of numbers are name characters
pub part_below : (c : ℕ) → c < 128 → (((is_letter c || is_digit c) || (c == 36)) || (c == 95)) ≡ true → is_part c ≡ true
unfolding is_part
part_below c l h = cond-true (nat_lt c 128) (((is_letter c || is_digit c) || (c == 36)) || (c == 95)) ((is_xid_continue c || (c == 8204)) || (c == 8205)) (lt-ltb c 128 l) ∙ h

pub digit_part : (c : ℕ) → is_digit c ≡ true → is_part c ≡ true
unfolding is_digit
digit_part c h =
    let p = and_parts (nat_le 48 c) (nat_le c 57) h in
    let l : c ≤ 57 = leb-true c 57 p.1 in
    part_below c (omega arith) (or_left _ _ (or_left _ _ (or_right (is_letter c) _ h)))

pub same_part : (a c : ℕ) → is_part a ≡ true → (c == a) ≡ true → is_part c ≡ true
same_part a c h e = subst (λ z. is_part z ≡ true) (sym (eqb-true c a e)) h

pub either_part : (a b c : ℕ) → is_part a ≡ true → is_part b ≡ true → is_either a b c ≡ true → is_part c ≡ true
unfolding is_either
either_part a b c h k e = elim (or_cases (c == a) (c == b) e) [ inl x ↦ same_part a c h x | inr x ↦ same_part b c k x ]
