-- Whole numbers beside the size of a decimal number.
use Rattle.std.proofs.Common.{◌≡◌, ℕ, suc, ◌+◌, ◌-◌, ◌*◌, ◌%◌, ◌^◌, ◌<◌, ◌≤◌, ℤ, pos, negsuc, Bool, true, false, ◌&&◌, ◌==◌, nat_lt, List, [], ◌∷◌, drop, refl, sym, ap, ◌∙◌, arith, inl, inr}
use Rattle.std.proofs.Math.Nat.{le-mul_of_pos_right, mul-one, mul_assoc, pow-succ'}
use Rattle.std.proofs.lemmas.Bool.{and_parts, eqb-true, false≢true, ne_eqb, not-true, cases_Bool}
use Rattle.std.proofs.lemmas.Bool.Decides.{nat_tests}
use Rattle.std.specs.Char.{digit_value}
use Rattle.std.specs.List.{list_all}
use Rattle.std.specs.Str.{chars}
use Rattle.std.specs.Str.Parse.{digits_value, digits_value_after}
use Rattle.swc_ecma_codegen_common.specs.DecimalParts.{is_decimal}
use Rattle.swc_ecma_codegen_grammar.specs.Chars.{is_digit}
use Rattle.swc_ecma_codegen_grammar.specs.DecimalValues.{size_value}
use Rattle.swc_ecma_codegen_grammar.specs.LitPhrases.{is_compared, is_in_decimal, is_in_radix, is_same_number}
use Rattle.swc_ecma_codegen_grammar.specs.Numbers.{is_hex}
use Rattle.swc_ecma_codegen_grammar.specs.NumberValues.{DecimalFraction, decimal_value, digits_after, exact_value, lowest, numeric_value, over_ten, times_ten, zero_value}
use Rattle.swc_ecma_codegen_grammar.specs.Texts.{begins}
use Rattle.swc_ecma_codegen_validate.proofs.DigitForms.{first_digit, power_some}
use Rattle.swc_ecma_codegen_validate.proofs.MantissaLaws.{swapped}
use Rattle.swc_ecma_codegen_validate.proofs.NormalDecimals.{normal_characters, normal_digits, normal_lean, normal_zero}
use Rattle.swc_ecma_codegen_validate.specs.Mantissas.{ends_in_some}

-- ---- powers of ten

-- one power less, and ten times more
pub one_power : (n value left : ℕ) → n ≡ value * 10 ^ left → 0 < left → n ≡ value * 10 * 10 ^ (left - 1)
one_power n value left e h =
    let next : suc (left - 1) ≡ left = omega arith in
    e ∙ (ap (λ k. value * 10 ^ k) (sym next) ∙ (ap (λ p. value * p) (pow-succ' 10 (left - 1)) ∙ sym (mul_assoc value 10 (10 ^ (left - 1)))))

pub no_power : (n value left : ℕ) → n ≡ value * 10 ^ left → left ≤ 0 → n ≡ value
no_power n value left e h = let none : left ≡ 0 = omega arith in e ∙ (ap (λ k. value * 10 ^ k) none ∙ mul-one value)

pub too_large : (n value left limit : ℕ) → n ≡ value * 10 ^ left → 0 < left → limit ≤ value * 10 → limit ≤ n
too_large n value left limit e h l = omega (arith, l, one_power n value left e h, le-mul_of_pos_right (value * 10) (power_some (left - 1)))

-- ---- digits

digit_hex : (c : ℕ) → is_digit c ≡ true → is_hex c ≡ true
unfolding is_hex
digit_hex c h = rw h refl

digits_run : (n : ℕ) (ds : List ℕ) → list_all is_digit ds ≡ true → digits_after 10 n ds ≡ digits_value_after 10 n ds
unfolding digits_after
digits_run n [] h = refl
digits_run n (d ∷ ds) h = let p = and_parts (is_digit d) (list_all is_digit ds) h in rw (digit_hex d p.0) (digits_run (n * 10 + digit_value d) ds p.1)

-- what ends in no zero isn't divided by ten
last_digit : (n d : ℕ) (ds : List ℕ) → list_all is_digit (d ∷ ds) ≡ true → ends_in_some (d ∷ ds) ≡ true → (digits_value_after 10 n (d ∷ ds) % 10 == 0) ≡ false
unfolding ends_in_some
last_digit n d [] h l =
    let p = first_digit d (and_parts (is_digit d) true h).0 (not-true (d == 48) l) in
    ne_eqb ((n * 10 + digit_value d) % 10) 0 (λ e. omega (arith, e, p.0, p.1))
last_digit n d (e ∷ ds) h l = last_digit (n * 10 + digit_value d) e ds (and_parts (is_digit d) (list_all is_digit (e ∷ ds)) h).1 l

-- ---- a whole number beside the size of a decimal number

and_true : (b : Bool) → (b && true) ≡ b
and_true true = refl
and_true false = refl

and_false : (b : Bool) → (b && false) ≡ false
and_false true = refl
and_false false = refl

-- a size without a fraction
same_whole : (ds : List ℕ) (e : ℤ) (n : ℕ) → (size_value ds e).tenths ≤ 0 → is_same_number (exact_value (times_ten n 0)) (exact_value (size_value ds e)) ≡ (n == digits_value 10 ds * 10 ^ (size_value ds e).tens)
unfolding size_value times_ten over_ten exact_value lowest is_same_number
same_whole ds (pos k) n h = and_true (n * 10 ^ 0 == digits_value 10 ds * 10 ^ k) ∙ ap (λ m. m == digits_value 10 ds * 10 ^ k) (mul-one n)
same_whole ds (negsuc k) n h = absurd (omega (arith, h))

no_part : (k : ℕ) → (0 == suc k) ≡ false
no_part k = grind (arith, nat_tests)

-- a size with a fraction is no whole number
same_part : (ds : List ℕ) (e : ℤ) (n : ℕ) → is_decimal ds e ≡ true → 0 < (size_value ds e).tenths → is_same_number (exact_value (times_ten n 0)) (exact_value (size_value ds e)) ≡ false
unfolding size_value times_ten over_ten exact_value lowest is_same_number
same_part ds (pos k) n h some = absurd (omega (arith, some))
same_part ds (negsuc k) n h some = elim (cases_Bool (begins (48 ∷ []) ds)) [
  | inl z ↦ let whole : negsuc k ≡ pos 0 = (normal_zero ds (negsuc k) h z).1 in absurd (cc)
  | inr z ↦
      let m = normal_lean ds (negsuc k) h z in
      let l = m.3 in
      let rest : (digits_value 10 (m.0 ∷ m.1) * 10 ^ 0 % 10 == 0) ≡ false = ap (λ v. v % 10 == 0) (mul-one (digits_value 10 (m.0 ∷ m.1))) ∙ last_digit 0 m.0 m.1 l.digits l.last in
      rw (m.2, rest, no_part k) (and_false _)
]

-- ---- a number in another radix

pub radix_too_large : (x limit : ℕ) (b : Bool) → limit ≤ x → (nat_lt x limit && b) ≡ false
radix_too_large x limit b h = let no : nat_lt x limit ≡ false = grind (arith, nat_tests) in rw no refl

pub radix_held : (x limit : ℕ) (b : Bool) → x < limit → (nat_lt x limit && b) ≡ b
radix_held x limit b h = let yes : nat_lt x limit ≡ true = grind (arith, nat_tests) in rw yes refl

pub part_size : (ds : List ℕ) (e : ℤ) (x t : ℕ) → is_decimal ds e ≡ true → t ≡ (size_value ds e).tenths → 0 < t → is_same_number (exact_value (times_ten x 0)) (exact_value (size_value ds e)) ≡ false
part_size ds e x t h p some = same_part ds e x h (omega (arith, p, some))

pub whole_size : (ds : List ℕ) (e : ℤ) (x t size : ℕ) → t ≡ (size_value ds e).tenths → t ≤ 0 → size ≡ digits_value 10 ds * 10 ^ (size_value ds e).tens → is_same_number (exact_value (times_ten x 0)) (exact_value (size_value ds e)) ≡ (x == size)
whole_size ds e x t size p none s = same_whole ds e x (omega (arith, p, none)) ∙ ap (λ m. x == m) (sym s)

pub over_size : (ds : List ℕ) (e : ℤ) (x t limit : ℕ) → t ≡ (size_value ds e).tenths → t ≤ 0 → x < limit → limit ≤ digits_value 10 ds * 10 ^ (size_value ds e).tens → is_same_number (exact_value (times_ten x 0)) (exact_value (size_value ds e)) ≡ false
over_size ds e x t limit p none less l = same_whole ds e x (omega (arith, p, none)) ∙ ne_eqb x _ (λ same. omega (arith, same, l, less))

-- the digits of a number are held, or too many
pub digits_whole : (ds : List ℕ) (e : ℤ) → is_decimal ds e ≡ true → digits_after 10 0 (chars ds) ≡ digits_value 10 ds
digits_whole ds e h = ap (digits_after 10 0) (normal_characters ds e h) ∙ digits_run 0 ds (normal_digits ds e h)

over_power : (n limit t : ℕ) → limit ≤ n → limit ≤ n * 10 ^ t
over_power n limit t h = omega (arith, h, le-mul_of_pos_right n (power_some t))

-- what was found of the digits of a number
pub size_found : (ds bytes : List ℕ) (e : ℤ) (size digits t : ℕ) → is_decimal ds e ≡ true → size ≡ digits * 10 ^ t → digits ≡ digits_after 10 0 (chars bytes) → bytes ≡ ds → t ≡ (size_value ds e).tens → size ≡ digits_value 10 ds * 10 ^ (size_value ds e).tens
size_found ds bytes e size digits t h s d b p =
    let value : digits ≡ digits_value 10 ds = d ∙ (ap (λ bs. digits_after 10 0 (chars bs)) b ∙ digits_whole ds e h) in
    s ∙ (ap (λ n. n * 10 ^ t) value ∙ ap (λ n. digits_value 10 ds * 10 ^ n) p)

pub digits_over : (ds bytes : List ℕ) (e : ℤ) (limit : ℕ) → is_decimal ds e ≡ true → limit ≤ digits_after 10 0 (chars bytes) → bytes ≡ ds → limit ≤ digits_value 10 ds * 10 ^ (size_value ds e).tens
digits_over ds bytes e limit h l b = over_power (digits_value 10 ds) limit (size_value ds e).tens (omega (arith, l, ap (λ bs. digits_after 10 0 (chars bs)) b ∙ digits_whole ds e h))

-- ---- which numbers are compared

zero_text : (text : List ℕ) → begins (48 ∷ []) text ≡ true → text ≡ 48 ∷ drop 1 text
unfolding begins
zero_text [] h = absurd (false≢true h)
zero_text (c ∷ cs) h = ap (λ x. x ∷ cs) (sym (eqb-true 48 c (and_parts (48 == c) true h).0))

-- with a zero first, in another radix
radix_text : (cs : List ℕ) (x : ℕ) (size : DecimalFraction) → is_in_radix cs ≡ true → zero_value cs ≡ times_ten x 0 → (is_compared (48 ∷ cs) && is_same_number (exact_value (numeric_value (48 ∷ cs))) size) ≡ (nat_lt x (2 ^ 128) && is_same_number (exact_value (times_ten x 0)) size)
unfolding is_compared is_in_decimal numeric_value times_ten
radix_text cs x size r v = rw (r, v) refl

decimal_text : (cs : List ℕ) (size : DecimalFraction) → is_in_radix cs ≡ false → zero_value cs ≡ decimal_value 0 cs → (is_compared (48 ∷ cs) && is_same_number (exact_value (numeric_value (48 ∷ cs))) size) ≡ is_same_number (exact_value (decimal_value 0 cs)) size
unfolding is_compared is_in_decimal numeric_value
decimal_text cs size r v = rw (r, v) refl

pub compared_radix : (text t : List ℕ) (x : ℕ) (size : DecimalFraction) → begins (48 ∷ []) text ≡ true → t ≡ drop 1 text → is_in_radix t ≡ true → zero_value t ≡ times_ten x 0 → (is_compared text && is_same_number (exact_value (numeric_value text)) size) ≡ (nat_lt x (2 ^ 128) && is_same_number (exact_value (times_ten x 0)) size)
compared_radix text t x size h e r v = ap (λ s. is_compared s && is_same_number (exact_value (numeric_value s)) size) (zero_text text h ∙ ap (λ cs. 48 ∷ cs) (sym e)) ∙ radix_text t x size r v

pub compared_zero : (text t : List ℕ) (size : DecimalFraction) → begins (48 ∷ []) text ≡ true → t ≡ drop 1 text → is_in_radix t ≡ false → zero_value t ≡ decimal_value 0 t → (is_compared text && is_same_number (exact_value (numeric_value text)) size) ≡ is_same_number (exact_value (decimal_value 0 t)) size
compared_zero text t size h e r v = ap (λ s. is_compared s && is_same_number (exact_value (numeric_value s)) size) (zero_text text h ∙ ap (λ cs. 48 ∷ cs) (sym e)) ∙ decimal_text t size r v

pub compared_decimal : (text : List ℕ) (size : DecimalFraction) → begins (48 ∷ []) text ≡ false → (is_compared text && is_same_number (exact_value (numeric_value text)) size) ≡ is_same_number (exact_value (decimal_value 0 text)) size
unfolding is_compared is_in_decimal numeric_value begins decimal_value
compared_decimal [] size h = refl
compared_decimal (c ∷ cs) size h = let other : (c == 48) ≡ false = swapped c 48 ∙ (sym (and_true (48 == c)) ∙ h) in rw other refl
