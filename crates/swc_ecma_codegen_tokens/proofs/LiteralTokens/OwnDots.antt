-- A decimal integer with a dot of its own is a number of the same value: `1.` is 1.
use Rattle.std.proofs.Common.{◌≡◌, ℕ, ◌+◌, ◌*◌, Bool, true, false, not, cond, List, [], ◌∷◌, ◌++◌, ◌&&◌, ◌==◌, codes, inl, inr, refl, sym, ap, ◌∙◌}
use Rattle.std.specs.Char.{digit_value}
use Rattle.std.proofs.lemmas.Bool.{and_from, and_parts, cases_Bool, eqb-true, not_from_false, true≢false}
use Rattle.swc_ecma_codegen_grammar.specs.Chars.{begins_digit, is_digit}
use Rattle.swc_ecma_codegen_grammar.specs.Numbers.{has_suffix, is_either, is_hex, is_number, is_numeric, is_octal, takes_dot}
use Rattle.swc_ecma_codegen_grammar.specs.NumberValues.{all_octal, decimal_value, digits_after, exponent_value, fraction_value, numeric_value, over_ten, times_ten, zero_value}
use Rattle.swc_ecma_codegen_literals.specs.Integers.{after_zero, decimal, digits, is_integer}
use Rattle.swc_ecma_codegen_literals.proofs.Integers.{integer_takes_dot}

dot : List ℕ
dot = 46 ∷ []

-- ---- its value, part by part

digits_dot : (r n : ℕ) (cs : List ℕ) → digits_after r n (cs ++ dot) ≡ digits_after r n cs
unfolding dot digits_after is_hex is_digit
digits_dot r n [] = refl
digits_dot r n (c ∷ cs) = λ i. cond (is_hex c) (digits_dot r (n * r + digit_value c) cs i) (digits_dot r n cs i)

exponent_dot : (n places : ℕ) (cs : List ℕ) → exponent_value n places (cs ++ dot) ≡ exponent_value n places cs
unfolding dot exponent_value over_ten digits_after is_hex is_digit
exponent_dot n places [] = refl
exponent_dot n places (c ∷ cs) = λ i. cond (c == 45) (over_ten n (places + digits_dot 10 0 cs i)) (record { whole = n; tens = digits_dot 10 0 (c ∷ cs) i; tenths = places })

fraction_dot : (n places : ℕ) (cs : List ℕ) → fraction_value n places (cs ++ dot) ≡ fraction_value n places cs
unfolding dot fraction_value is_either is_digit
fraction_dot n places [] = refl
fraction_dot n places (c ∷ cs) =
    λ i. cond (is_digit c) (fraction_dot (n * 10 + digit_value c) (places + 1) cs i) (cond (is_either 101 69 c) (exponent_dot n places cs i) (fraction_dot n places cs i))

decimal_dot : (n : ℕ) (cs : List ℕ) → decimal_value n (cs ++ dot) ≡ decimal_value n cs
unfolding dot decimal_value fraction_value over_ten times_ten is_either is_digit
decimal_dot n [] = refl
decimal_dot n (c ∷ cs) =
    λ i. cond (is_digit c) (decimal_dot (n * 10 + digit_value c) cs i) (cond (c == 46) (fraction_dot n 0 cs i) (cond (is_either 101 69 c) (exponent_dot n 0 cs i) (decimal_dot n cs i)))

-- ---- after a zero: a decimal, since not all digits are octal

and_none : (a : Bool) → (a && false) ≡ false
and_none true = refl
and_none false = refl

octal_dot : (cs : List ℕ) → all_octal (cs ++ dot) ≡ false
unfolding dot all_octal is_octal
octal_dot [] = refl
octal_dot (c ∷ cs) = ap (λ x. is_octal c && x) (octal_dot cs) ∙ and_none (is_octal c)

and_assoc : (a b c : Bool) → (a && (b && c)) ≡ ((a && b) && c)
and_assoc true b c = refl
and_assoc false b c = refl

false_of_not : (b : Bool) → not b ≡ true → (b && true) ≡ false
false_of_not true h = absurd (true≢false (sym h))
false_of_not false h = refl

no_octal : (octal : Bool) (cs : List ℕ) → decimal octal cs ≡ true → (octal && all_octal cs) ≡ false
unfolding decimal all_octal
no_octal octal [] h = false_of_not octal h
no_octal octal (c ∷ cs) h = and_assoc octal (is_octal c) (all_octal cs) ∙ no_octal (octal && is_octal c) cs (and_parts (is_digit c) (decimal (octal && is_octal c) cs) h).1

zero_dot : (cs : List ℕ) → after_zero cs ≡ true → zero_value (cs ++ dot) ≡ zero_value cs
unfolding dot zero_value after_zero all_octal decimal_value fraction_value over_ten times_ten is_either is_octal is_digit
zero_dot [] h = refl
zero_dot (c ∷ cs) h =
    let old : (is_octal c && all_octal cs) ≡ false = no_octal (is_octal c) cs (and_parts (is_digit c) (decimal (is_octal c) cs) h).1 in
    let same : (is_octal c && all_octal (cs ++ dot)) ≡ (is_octal c && all_octal cs) = octal_dot (c ∷ cs) ∙ sym old in
    λ i. cond (is_either 120 88 c) (times_ten (digits_dot 16 0 cs i) 0)
    (cond (is_either 111 79 c) (times_ten (digits_dot 8 0 cs i) 0)
    (cond (is_either 98 66 c) (times_ten (digits_dot 2 0 cs i) 0) (cond (same i) (times_ten (digits_dot 8 0 (c ∷ cs) i) 0) (decimal_dot 0 (c ∷ cs) i))))

chosen_dot : (b : Bool) (c : ℕ) (cs : List ℕ) → cond b (after_zero cs) (is_digit c && digits false cs) ≡ true → cond b (zero_value (cs ++ dot)) (decimal_value 0 (c ∷ (cs ++ dot))) ≡ cond b (zero_value cs) (decimal_value 0 (c ∷ cs))
chosen_dot true c cs h = zero_dot cs h
chosen_dot false c cs h = decimal_dot 0 (c ∷ cs)

integer_dot : (t : List ℕ) → is_integer t ≡ true → numeric_value (t ++ dot) ≡ numeric_value t
unfolding numeric_value is_integer
integer_dot [] h = absurd (true≢false (sym h))
integer_dot (c ∷ cs) h = chosen_dot (c == 48) c cs h

-- ---- the whole

suffix_dot : (t : List ℕ) → has_suffix (t ++ dot) ≡ false
unfolding dot has_suffix
suffix_dot [] = refl
suffix_dot (c ∷ []) = refl
suffix_dot (c ∷ d ∷ cs) = suffix_dot (d ∷ cs)

pub dotted_is_number : (t : List ℕ) → takes_dot t ≡ true → is_number (t ++ codes ".") ≡ true
unfolding dot takes_dot is_number
dotted_is_number t h = and_from (is_numeric (t ++ dot)) (not (has_suffix (t ++ dot))) h (not_from_false (has_suffix (t ++ dot)) (suffix_dot t))

pub dotted_same : (t : List ℕ) → takes_dot t ≡ true → numeric_value (t ++ codes ".") ≡ numeric_value t
unfolding dot
dotted_same t h = integer_dot t (sym (integer_takes_dot t) ∙ h)

-- a number that takes a dot begins with a digit
integer_first : (t : List ℕ) → is_integer t ≡ true → begins_digit t ≡ true
unfolding is_integer begins_digit is_digit
integer_first [] h = absurd (true≢false (sym h))
integer_first (c ∷ cs) h = elim (cases_Bool (c == 48)) [
  | inl e ↦ ap is_digit (eqb-true c 48 e)
  | inr e ↦ (and_parts (is_digit c) (digits false cs) (sym (ap (λ b. cond b (after_zero cs) (is_digit c && digits false cs)) e) ∙ h)).0
]

pub dotted_begins : (t : List ℕ) → takes_dot t ≡ true → begins_digit t ≡ true
dotted_begins t h = integer_first t (sym (integer_takes_dot t) ∙ h)
