-- The digits of a number are `0`, or neither begin nor end with a zero.
use Rattle.std.proofs.Common.{◌≡◌, ℕ, zero, suc, ◌+◌, ◌-◌, ◌*◌, ◌^◌, ℤ, pos, negsuc, true, false, not, ◌&&◌, ◌||◌, ◌==◌, nat_le, int_le, List, [], ◌∷◌, Option, None, Some, length, refl, sym, ap, ◌∙◌, inl, inr, ◌⊎◌, arith, codes, get_or, eq-eqb}
use Rattle.std.proofs.Math.Nat.{le-mul_of_pos_right, zero-mul}
use Rattle.std.proofs.lemmas.Bool.{and_parts, eqb-true, false≢true, true≢false, leb-true, not-true, or_cases}
use Rattle.std.proofs.lemmas.Bool.Decides.{Decides-int_eq}
use Rattle.std.proofs.lemmas.Str.{chars-IsAscii}
use Rattle.std.specs.Char.{is_ascii_digit}
use Rattle.std.specs.List.{list_all, slice_index}
use Rattle.std.specs.Ordering.{int_eq}
use Rattle.std.specs.Str.{IsAscii, bytes_eq, chars}
use Rattle.std.specs.Str.Parse.{digits_value}
use Rattle.swc_ecma_codegen_common.specs.DecimalParts.{is_decimal, is_significand}
use Rattle.swc_ecma_codegen_grammar.specs.Chars.{is_digit}
use Rattle.swc_ecma_codegen_grammar.specs.DecimalValues.{size_value}
use Rattle.swc_ecma_codegen_grammar.specs.LitPhrases.{is_same_number}
use Rattle.swc_ecma_codegen_grammar.specs.NumberValues.{MathValue, SameValue, decimal_value, exact_value, exponent_value, over_ten, times_ten}
use Rattle.swc_ecma_codegen_grammar.specs.Texts.{begins}
use Rattle.swc_ecma_codegen_validate.proofs.DigitForms.{power_some, zero_there, zero_back}
use Rattle.swc_ecma_codegen_validate.proofs.MantissaLaws.{decimal_form, exponent_tens, exponent_tenths, exponent_whole, mantissa_digits, same_digits, same_tests, value_back, value_there}
use Rattle.swc_ecma_codegen_validate.specs.Mantissas.{after_dot, after_mark, balanced, ends_in_some, mantissa, stripped, zeros_after}

-- digits without a zero first or last
pub record IsLean (d : ℕ) (ds : List ℕ) : Type 0 where
  pub digits : list_all is_digit (d ∷ ds) ≡ true
  pub first : (d == 48) ≡ false
  pub last : ends_in_some (d ∷ ds) ≡ true

last_some : (d : ℕ) (ds : List ℕ) → (get_or (d ∷ ds) (length ds) 0 == 48) ≡ false → ends_in_some (d ∷ ds) ≡ true
unfolding ends_in_some
last_some d [] h = ap not h
last_some d (e ∷ ds) h = last_some e ds h

lean : (d : ℕ) (ds : List ℕ) → is_significand (d ∷ ds) ≡ true → IsLean d ds
unfolding is_significand is_digit
lean d ds h =
    let last = slice_index (d ∷ ds) (length (d ∷ ds) - 1) in
    let p1 = and_parts (((not (length (d ∷ ds) == 0) && nat_le (length (d ∷ ds)) 800) && not (d == 48)) && not (last == 48)) (list_all is_ascii_digit (d ∷ ds)) h in
    let p2 = and_parts ((not (length (d ∷ ds) == 0) && nat_le (length (d ∷ ds)) 800) && not (d == 48)) (not (last == 48)) p1.0 in
    let p3 = and_parts (not (length (d ∷ ds) == 0) && nat_le (length (d ∷ ds)) 800) (not (d == 48)) p2.0 in
    let place : length (d ∷ ds) - 1 ≡ length ds = omega arith in
    record { digits = p1.1; first = not-true (d == 48) p3.1; last = last_some d ds (ap (λ i. get_or (d ∷ ds) i 0 == 48) (sym place) ∙ not-true (last == 48) p2.1) }

zero_digits : (ds : List ℕ) → bytes_eq ds (codes "0") ≡ true → ds ≡ codes "0"
zero_digits [] h = absurd (false≢true h)
zero_digits (c ∷ []) h = ap (λ x. x ∷ []) (eqb-true c 48 (and_parts (c == 48) true h).0)
zero_digits (c ∷ d ∷ ds) h = absurd (false≢true (and_parts (c == 48) false h).1)

no_digits : is_significand [] ≡ true → ⊥
unfolding is_significand
no_digits h = false≢true h

-- a number is zero, or has such digits
zero_or_lean : (ds : List ℕ) (e : ℤ) → is_decimal ds e ≡ true → ((ds ≡ codes "0") × (e ≡ pos 0)) ⊎ (is_significand ds ≡ true)
unfolding is_decimal
zero_or_lean ds e h =
    let p = and_parts (int_le (negsuc 1099) e && int_le e (pos 1100)) (is_significand ds || (bytes_eq ds (codes "0") && int_eq e (pos 0))) h in
    elim (or_cases (is_significand ds) (bytes_eq ds (codes "0") && int_eq e (pos 0)) p.1) [
      | inl a ↦ inr a
      | inr b ↦ let q = and_parts (bytes_eq ds (codes "0")) (int_eq e (pos 0)) b in inl (zero_digits ds q.0, (Decides-int_eq e (pos 0)).0 q.1)
    ]

pub normal_zero : (ds : List ℕ) (e : ℤ) → is_decimal ds e ≡ true → begins (48 ∷ []) ds ≡ true → (ds ≡ codes "0") × (e ≡ pos 0)
unfolding begins
normal_zero [] e h z = absurd (false≢true z)
normal_zero (d ∷ ds) e h z = elim (zero_or_lean (d ∷ ds) e h) [
  | inl nought ↦ nought
  | inr some ↦ absurd (true≢false (sym (eq-eqb d 48 (sym (eqb-true 48 d (and_parts (48 == d) true z).0))) ∙ (lean d ds some).first))
]

pub normal_lean : (ds : List ℕ) (e : ℤ) → is_decimal ds e ≡ true → begins (48 ∷ []) ds ≡ false → (d : ℕ) × (more : List ℕ) × (ds ≡ d ∷ more) × IsLean d more
unfolding begins
normal_lean [] e h z = elim (zero_or_lean [] e h) [
  | inl nought ↦ let none : [] ≡ codes "0" = nought.0 in absurd (cc)
  | inr some ↦ absurd (no_digits some)
]
normal_lean (d ∷ ds) e h z = elim (zero_or_lean (d ∷ ds) e h) [
  | inl nought ↦ let same : d ∷ ds ≡ codes "0" = nought.0 in let first : d ≡ 48 = cc in absurd (false≢true (sym z ∙ ap (λ b. b && true) (eq-eqb 48 d (sym first))))
  | inr some ↦ (d, ds, refl, lean d ds some)
]

-- ---- the digits are ASCII

ascii : (ds : List ℕ) → list_all is_digit ds ≡ true → IsAscii ds
unfolding is_digit
ascii [] h i = omega arith
ascii (d ∷ ds) h zero = let p = and_parts (is_digit d) (list_all is_digit ds) h in omega (arith, leb-true d 57 (and_parts (nat_le 48 d) (nat_le d 57) p.0).1)
ascii (d ∷ ds) h (suc i) = ascii ds (and_parts (is_digit d) (list_all is_digit ds) h).1 i

pub normal_digits : (ds : List ℕ) (e : ℤ) → is_decimal ds e ≡ true → list_all is_digit ds ≡ true
unfolding is_digit
normal_digits [] e h = refl
normal_digits (d ∷ ds) e h = elim (zero_or_lean (d ∷ ds) e h) [
  | inl nought ↦ ap (list_all is_digit) nought.0
  | inr some ↦ (lean d ds some).digits
]

pub normal_characters : (ds : List ℕ) (e : ℤ) → is_decimal ds e ≡ true → chars ds ≡ ds
normal_characters ds e h = chars-IsAscii ds (ascii ds (normal_digits ds e h))

-- ---- a decimal literal beside a number

pub size_whole : (ds : List ℕ) (e : ℤ) → (size_value ds e).whole ≡ digits_value 10 ds
unfolding size_value times_ten over_ten
size_whole ds (pos n) = refl
size_whole ds (negsuc n) = refl

literal_whole : (t : List ℕ) → (decimal_value 0 t).whole ≡ digits_value 10 (mantissa t)
literal_whole t = ap (λ (v : MathValue). v.whole) (decimal_form 0 t) ∙ exponent_whole (digits_value 10 (mantissa t)) (length (mantissa (after_dot t))) (after_mark t)

literal_tens : (t : List ℕ) → (decimal_value 0 t).tens ≡ (exponent_value 0 0 (after_mark t)).tens
literal_tens t = ap (λ (v : MathValue). v.tens) (decimal_form 0 t) ∙ exponent_tens (digits_value 10 (mantissa t)) (length (mantissa (after_dot t))) (after_mark t)

literal_tenths : (t : List ℕ) → (decimal_value 0 t).tenths ≡ length (mantissa (after_dot t)) + (exponent_value 0 0 (after_mark t)).tenths
literal_tenths t = ap (λ (v : MathValue). v.tenths) (decimal_form 0 t) ∙ exponent_tenths (digits_value 10 (mantissa t)) (length (mantissa (after_dot t))) (after_mark t)

-- not zero: zeros after its digits make up for the powers of ten
lean_size : (ds : List ℕ) (e : ℤ) (t : List ℕ) → is_decimal ds e ≡ true → begins (48 ∷ []) ds ≡ false → is_same_number (exact_value (decimal_value 0 t)) (exact_value (size_value ds e)) ≡ balanced (zeros_after ds (stripped (mantissa t))) ((decimal_value 0 t).tens + (size_value ds e).tenths) ((size_value ds e).tens + (decimal_value 0 t).tenths)
lean_size ds e t h z =
    let n = normal_lean ds e h z in
    let l = n.3 in
    rw n.2 (same_digits (decimal_value 0 t) (size_value (n.0 ∷ n.1) e) (mantissa t) n.1 n.0 (mantissa_digits t) l.digits l.first l.last (literal_whole t) (size_whole (n.0 ∷ n.1) e))

pub lean_none : (ds : List ℕ) (e : ℤ) (t : List ℕ) → is_decimal ds e ≡ true → begins (48 ∷ []) ds ≡ false → zeros_after ds (stripped (mantissa t)) ≡ None → is_same_number (exact_value (decimal_value 0 t)) (exact_value (size_value ds e)) ≡ false
unfolding balanced
lean_none ds e t h z none = lean_size ds e t h z ∙ rw none refl

pub lean_some : (ds : List ℕ) (e : ℤ) (t : List ℕ) (k : ℕ) → is_decimal ds e ≡ true → begins (48 ∷ []) ds ≡ false → zeros_after ds (stripped (mantissa t)) ≡ Some k → is_same_number (exact_value (decimal_value 0 t)) (exact_value (size_value ds e)) ≡ (k + (size_value ds e).tenths + (exponent_value 0 0 (after_mark t)).tens == length (mantissa (after_dot t)) + (size_value ds e).tens + (exponent_value 0 0 (after_mark t)).tenths)
unfolding balanced
lean_some ds e t k h z some =
    let low : k + ((decimal_value 0 t).tens + (size_value ds e).tenths) ≡ k + (size_value ds e).tenths + (exponent_value 0 0 (after_mark t)).tens = omega (arith, literal_tens t) in
    let high : (size_value ds e).tens + (decimal_value 0 t).tenths ≡ length (mantissa (after_dot t)) + (size_value ds e).tens + (exponent_value 0 0 (after_mark t)).tenths = omega (arith, literal_tenths t) in
    lean_size ds e t h z ∙ (ap (λ o. balanced o ((decimal_value 0 t).tens + (size_value ds e).tenths) ((size_value ds e).tens + (decimal_value 0 t).tenths)) some ∙ (ap (λ n. n == (size_value ds e).tens + (decimal_value 0 t).tenths) low ∙ ap (λ n. k + (size_value ds e).tenths + (exponent_value 0 0 (after_mark t)).tens == n) high))

no_length : (xs : List ℕ) → (length xs == 0) ≡ true → xs ≡ []
no_length [] h = refl
no_length (x ∷ xs) h = absurd (omega (arith, eqb-true (length (x ∷ xs)) 0 h))

-- zero: all digits are zeros
same_zero : (u v : MathValue) (xs : List ℕ) → list_all is_digit xs ≡ true → u.whole ≡ digits_value 10 xs → v.whole ≡ 0 → is_same_number (exact_value u) (exact_value v) ≡ (length (stripped xs) == 0)
unfolding SameValue
same_zero u v xs h p q = same_tests _ _ there back
  where
    there : is_same_number (exact_value u) (exact_value v) ≡ true → (length (stripped xs) == 0) ≡ true
    there same =
        let e : u.whole * 10 ^ (u.tens + v.tenths) ≡ 0 = value_there u v same ∙ (ap (λ n. n * 10 ^ (v.tens + u.tenths)) q ∙ zero-mul (10 ^ (v.tens + u.tenths))) in
        let none : u.whole ≡ 0 = omega (arith, e, le-mul_of_pos_right u.whole (power_some (u.tens + v.tenths))) in
        ap (λ (l : List ℕ). length l == 0) (zero_there xs h (sym p ∙ none))

    back : (length (stripped xs) == 0) ≡ true → is_same_number (exact_value u) (exact_value v) ≡ true
    back none =
        let zero : u.whole ≡ 0 = p ∙ zero_back xs (no_length (stripped xs) none) in
        value_back u v (ap (λ n. n * 10 ^ (u.tens + v.tenths)) zero ∙ (zero-mul (10 ^ (u.tens + v.tenths)) ∙ sym (ap (λ n. n * 10 ^ (v.tens + u.tenths)) q ∙ zero-mul (10 ^ (v.tens + u.tenths)))))

pub zero_size : (ds : List ℕ) (e : ℤ) (t : List ℕ) → is_decimal ds e ≡ true → begins (48 ∷ []) ds ≡ true → is_same_number (exact_value (decimal_value 0 t)) (exact_value (size_value ds e)) ≡ (length (stripped (mantissa t)) == 0)
zero_size ds e t h z = same_zero (decimal_value 0 t) (size_value ds e) (mantissa t) (mantissa_digits t) (literal_whole t) (size_whole ds e ∙ ap (digits_value 10) (normal_zero ds e h z).0)

-- ---- what was found of a text is what is said of its characters

pub zeros_found : (ds bytes xs ys : List ℕ) (o : Option ℕ) → o ≡ zeros_after (chars bytes) xs → chars bytes ≡ ds → xs ≡ ys → zeros_after ds ys ≡ o
zeros_found ds bytes xs ys o h e f = ap (λ d. zeros_after d ys) (sym e) ∙ (ap (zeros_after (chars bytes)) (sym f) ∙ sym h)

pub same_sums : (k t t2 p p2 n n2 : ℕ) (m m2 : List ℕ) → t ≡ t2 → p ≡ p2 → n ≡ n2 → m ≡ m2 → (k + t + (exponent_value 0 0 m).tens == p + n + (exponent_value 0 0 m).tenths) ≡ (k + t2 + (exponent_value 0 0 m2).tens == p2 + n2 + (exponent_value 0 0 m2).tenths)
same_sums k t t2 p p2 n n2 m m2 a b c d = rw (a, b, c, d) refl
