-- A decimal literal stands for its digits, its places after the dot, and its exponent.
use Rattle.std.proofs.Common.{◌≡◌, ℕ, suc, ◌+◌, ◌*◌, ◌^◌, Bool, true, false, ◌&&◌, ◌==◌, List, [], ◌∷◌, Option, None, Some, length, cond, refl, sym, ap, ◌∙◌, inl, inr, arith, eq-eqb, subst, zero-add, drop}
use Rattle.std.proofs.Math.Nat.{add-zero}
use Rattle.std.proofs.lemmas.Bool.{cases_Bool, and_from, and_parts, eqb-true, true≢false}
use Rattle.std.specs.Char.{digit_value}
use Rattle.std.specs.List.{list_all}
use Rattle.std.specs.Str.Parse.{digits_value, digits_value_after}
use Rattle.swc_ecma_codegen_grammar.proofs.NumberForms.{same_form, same_by_form}
use Rattle.swc_ecma_codegen_grammar.specs.Chars.{is_digit}
use Rattle.swc_ecma_codegen_grammar.specs.LitPhrases.{is_same_number}
use Rattle.swc_ecma_codegen_grammar.specs.Numbers.{is_either}
use Rattle.swc_ecma_codegen_grammar.specs.NumberValues.{DecimalFraction, MathValue, SameValue, decimal_value, exact_value, exponent_value, fraction_value, digits_after, over_ten, times_ten}
use Rattle.swc_ecma_codegen_grammar.specs.Texts.{begins}
use Rattle.swc_ecma_codegen_validate.proofs.DigitForms.{digits_there, digits_back}
use Rattle.swc_ecma_codegen_validate.specs.Mantissas.{after_dot, after_mark, balanced, ends_in_some, mantissa, stripped, zeros_after}

-- ---- a literal by its parts

fraction_form : (n places : ℕ) (cs : List ℕ) → fraction_value n places cs ≡ exponent_value (digits_value_after 10 n (mantissa cs)) (places + length (mantissa cs)) (after_mark cs)
unfolding fraction_value exponent_value mantissa after_mark
fraction_form n places [] = ap (over_ten n) (sym (add-zero places))
fraction_form n places (c ∷ cs) = elim (cases_Bool (is_digit c)) [
  | inl d ↦
      let more : places + 1 + length (mantissa cs) ≡ places + suc (length (mantissa cs)) = omega arith in
      rw d (fraction_form (n * 10 + digit_value c) (places + 1) cs ∙ ap (λ p. exponent_value (digits_value_after 10 (n * 10 + digit_value c) (mantissa cs)) p (after_mark cs)) more)
  | inr d ↦ elim (cases_Bool (is_either 101 69 c)) [
    | inl e ↦ rw (d, e) (ap (λ p. exponent_value n p cs) (sym (add-zero places)))
    | inr e ↦ rw (d, e) (fraction_form n places cs)
  ]
]

dot_is_no_mark : (c : ℕ) → (c == 46) ≡ true → is_either 101 69 c ≡ false
unfolding is_either
dot_is_no_mark c h = subst (λ (x : ℕ). is_either 101 69 x ≡ false) (sym (eqb-true c 46 h)) refl

pub decimal_form : (n : ℕ) (cs : List ℕ) → decimal_value n cs ≡ exponent_value (digits_value_after 10 n (mantissa cs)) (length (mantissa (after_dot cs))) (after_mark cs)
unfolding decimal_value exponent_value mantissa after_dot after_mark times_ten over_ten
decimal_form n [] = refl
decimal_form n (c ∷ cs) = elim (cases_Bool (is_digit c)) [
  | inl d ↦ rw d (decimal_form (n * 10 + digit_value c) cs)
  | inr d ↦ elim (cases_Bool (c == 46)) [
    | inl dot ↦ let e = dot_is_no_mark c dot in rw (d, dot, e) (fraction_form n 0 cs ∙ ap (λ p. exponent_value (digits_value_after 10 n (mantissa cs)) p (after_mark cs)) (zero-add (length (mantissa cs))))
    | inr dot ↦ elim (cases_Bool (is_either 101 69 c)) [
      | inl e ↦ rw (d, dot, e) refl
      | inr e ↦ rw (d, dot, e) (decimal_form n cs)
    ]
  ]
]

pub mantissa_digits : (cs : List ℕ) → list_all is_digit (mantissa cs) ≡ true
unfolding mantissa
mantissa_digits [] = refl
mantissa_digits (c ∷ cs) = elim (cases_Bool (is_digit c)) [
  | inl d ↦ rw d (and_from (is_digit c) _ d (mantissa_digits cs))
  | inr d ↦ elim (cases_Bool (is_either 101 69 c)) [
    | inl e ↦ rw (d, e) refl
    | inr e ↦ rw (d, e) (mantissa_digits cs)
  ]
]

-- the parts of an exponent
pub exponent_whole : (n places : ℕ) (t : List ℕ) → (exponent_value n places t).whole ≡ n
unfolding exponent_value over_ten
exponent_whole n places [] = refl
exponent_whole n places (c ∷ cs) = choice (c == 45)
  where
    choice : (b : Bool) → (cond b (over_ten n (places + digits_after 10 0 cs)) (record { whole = n; tens = digits_after 10 0 (c ∷ cs); tenths = places })).whole ≡ n
    choice true = refl
    choice false = refl

pub exponent_tens : (n places : ℕ) (t : List ℕ) → (exponent_value n places t).tens ≡ (exponent_value 0 0 t).tens
unfolding exponent_value over_ten
exponent_tens n places [] = refl
exponent_tens n places (c ∷ cs) = elim (cases_Bool (c == 45)) [ inl h ↦ rw h refl | inr h ↦ rw h refl ]

pub exponent_tenths : (n places : ℕ) (t : List ℕ) → (exponent_value n places t).tenths ≡ places + (exponent_value 0 0 t).tenths
unfolding exponent_value over_ten
exponent_tenths n places [] = sym (add-zero places)
exponent_tenths n places (c ∷ cs) = elim (cases_Bool (c == 45)) [ inl h ↦ rw h (omega arith) | inr h ↦ rw h (sym (add-zero places)) ]

pub swapped : (a b : ℕ) → (a == b) ≡ (b == a)
swapped a b = elim (cases_Bool (a == b)) [
  | inl h ↦ h ∙ sym (eq-eqb b a (sym (eqb-true a b h)))
  | inr h ↦ elim (cases_Bool (b == a)) [ inl k ↦ absurd (true≢false (sym (eq-eqb a b (sym (eqb-true b a k))) ∙ h)) | inr k ↦ h ∙ sym k ]
]

-- an exponent with `-`, and one without
pub negative_power : (low high : ℕ) (t power : List ℕ) → begins (45 ∷ []) t ≡ true → power ≡ drop 1 t → (low == high + digits_after 10 0 power) ≡ (low + (exponent_value 0 0 t).tens == high + (exponent_value 0 0 t).tenths)
unfolding begins exponent_value over_ten digits_after
negative_power low high [] power h e = absurd (true≢false (sym h))
negative_power low high (c ∷ cs) power h e =
    let minus : (c == 45) ≡ true = swapped c 45 ∙ (and_parts (45 == c) true h).0 in
    rw (minus, e) (ap (λ n. n == high + digits_after 10 0 cs) (sym (add-zero low)) ∙ ap (λ n. low + 0 == high + n) (sym (zero-add (digits_after 10 0 cs))))

pub positive_power : (low high : ℕ) (t : List ℕ) → begins (45 ∷ []) t ≡ false → (high == low + digits_after 10 0 t) ≡ (low + (exponent_value 0 0 t).tens == high + (exponent_value 0 0 t).tenths)
unfolding begins exponent_value over_ten digits_after
positive_power low high [] h = swapped high _ ∙ ap (λ n. low + 0 == n) (sym (add-zero high))
positive_power low high (c ∷ cs) h =
    let other : (c == 45) ≡ false = swapped c 45 ∙ choice (45 == c) h in
    swapped high _ ∙ rw other (ap (λ n. low + digits_after 10 0 (c ∷ cs) == n) (sym (add-zero high)))
  where
    choice : (b : Bool) → (b && true) ≡ false → b ≡ false
    choice true k = k
    choice false k = k

-- ---- the same number

of_parts : (d e p q : ℕ) → d ≡ e → p ≡ q → ◌≡◌ {A = DecimalFraction} (record { digits = d; places = p }) (record { digits = e; places = q })
of_parts d e p q h k = ap (λ x. record { digits = x; places = p }) h ∙ ap (λ x. record { digits = e; places = x }) k

form_there : (a b : DecimalFraction) → is_same_number a b ≡ true → a ≡ b
unfolding is_same_number
form_there a b h =
    let p = and_parts (a.digits == b.digits) (a.places == b.places) h in
    of_parts a.digits b.digits a.places b.places (eqb-true a.digits b.digits p.0) (eqb-true a.places b.places p.1)

form_back : (a b : DecimalFraction) → a ≡ b → is_same_number a b ≡ true
unfolding is_same_number
form_back a b e = and_from _ _ (eq-eqb a.digits b.digits (ap (λ (f : DecimalFraction). f.digits) e)) (eq-eqb a.places b.places (ap (λ (f : DecimalFraction). f.places) e))

pub value_there : (u v : MathValue) → is_same_number (exact_value u) (exact_value v) ≡ true → SameValue u v
value_there u v h = same_by_form u v (form_there (exact_value u) (exact_value v) h)

pub value_back : (u v : MathValue) → SameValue u v → is_same_number (exact_value u) (exact_value v) ≡ true
value_back u v h = form_back (exact_value u) (exact_value v) (same_form u v h)

pub same_tests : (a b : Bool) → (a ≡ true → b ≡ true) → (b ≡ true → a ≡ true) → a ≡ b
same_tests true b h k = sym (h refl)
same_tests false true h k = absurd (true≢false (sym (k refl)))
same_tests false false h k = refl

-- ---- digits times powers of ten

balanced_zeros : (o : Option ℕ) (a b : ℕ) → balanced o a b ≡ true → (k : ℕ) × (o ≡ Some k) × (k + a ≡ b)
unfolding balanced
balanced_zeros None a b h = absurd (true≢false (sym h))
balanced_zeros (Some k) a b h = (k, refl, eqb-true (k + a) b h)

pub same_digits : (u v : MathValue) (xs ds : List ℕ) (d : ℕ) → list_all is_digit xs ≡ true → list_all is_digit (d ∷ ds) ≡ true → (d == 48) ≡ false → ends_in_some (d ∷ ds) ≡ true → u.whole ≡ digits_value 10 xs → v.whole ≡ digits_value 10 (d ∷ ds) → is_same_number (exact_value u) (exact_value v) ≡ balanced (zeros_after (d ∷ ds) (stripped xs)) (u.tens + v.tenths) (v.tens + u.tenths)
unfolding SameValue balanced
same_digits u v xs ds d h g z l p q = same_tests _ _ there back
  where
    there : is_same_number (exact_value u) (exact_value v) ≡ true → balanced (zeros_after (d ∷ ds) (stripped xs)) (u.tens + v.tenths) (v.tens + u.tenths) ≡ true
    there same =
        let e : digits_value 10 xs * 10 ^ (u.tens + v.tenths) ≡ digits_value 10 (d ∷ ds) * 10 ^ (v.tens + u.tenths) =
        ap (λ n. n * 10 ^ (u.tens + v.tenths)) (sym p) ∙ (value_there u v same ∙ ap (λ n. n * 10 ^ (v.tens + u.tenths)) q)
        in
        let r = digits_there xs ds d (u.tens + v.tenths) (v.tens + u.tenths) h g z l e in
        rw r.1 (eq-eqb _ _ r.2)

    back : balanced (zeros_after (d ∷ ds) (stripped xs)) (u.tens + v.tenths) (v.tens + u.tenths) ≡ true → is_same_number (exact_value u) (exact_value v) ≡ true
    back even =
        let r = balanced_zeros _ _ _ even in
        value_back u v (ap (λ n. n * 10 ^ (u.tens + v.tenths)) p ∙ (digits_back xs (d ∷ ds) (u.tens + v.tenths) (v.tens + u.tenths) r.0 r.1 r.2 ∙ ap (λ n. n * 10 ^ (v.tens + u.tenths)) (sym q)))
