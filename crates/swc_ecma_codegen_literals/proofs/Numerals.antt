-- Runs of digits: their shape and their value in a numeric literal.
use Rattle.std.proofs.Common.{◌≡◌, ℕ, zero, suc, ◌+◌, ◌-◌, ◌*◌, ◌^◌, ◌<◌, ◌≤◌, Bool, true, false, ◌&&◌, List, [], ◌∷◌, ◌++◌, ◌==◌, nat_le, length, replicate, refl, sym, ap, ◌∙◌, arith, inl, inr}
use Rattle.std.specs.Char.{digit_value}
use Rattle.std.specs.List.{list_all}
use Rattle.std.specs.Fmt.{digits, decimal}
use Rattle.std.specs.Str.Parse.{digits_value, digits_value_after, AllDigits, IsNumeral}
use Rattle.std.proofs.Math.Nat.{pow-succ', mul_assoc, add-zero, mul-one}
use Rattle.std.proofs.lemmas.Bool.{and_parts, and_from, le-leb, leb-true, cases_lt, lt-ltb, le-ltb, or_left, or_right, ne_eqb}
use Rattle.std.proofs.lemmas.Str.Parse.{digit_from_value}
use Rattle.std.proofs.lemmas.Fmt.{decimal_is_IsNumeral, digits_is_IsNumeral}
use Rattle.swc_ecma_codegen_grammar.specs.Chars.{is_digit}
use Rattle.swc_ecma_codegen_grammar.specs.Numbers.{is_hex, is_either, integer, fraction, power, exponent, radix}
use Rattle.swc_ecma_codegen_grammar.specs.NumberValues.{digits_after, fraction_value, decimal_value}

-- a run of digits goes on: an integer
pub integer_run : (ds rest : List ℕ) → list_all is_digit ds ≡ true → integer false (ds ++ rest) ≡ integer false rest
unfolding integer
integer_run [] rest h = refl
integer_run (d ∷ ds) rest h = let p = and_parts (is_digit d) (list_all is_digit ds) h in rw p.0 (integer_run ds rest p.1)

-- a fraction
pub fraction_run : (ds : List ℕ) → list_all is_digit ds ≡ true → fraction true false ds ≡ true
unfolding fraction
fraction_run [] h = refl
fraction_run (d ∷ ds) h = let p = and_parts (is_digit d) (list_all is_digit ds) h in rw p.0 (fraction_run ds p.1)

pub fraction_start : (joins due : Bool) (ds : List ℕ) → list_all is_digit ds ≡ true → 0 < length ds → fraction joins due ds ≡ true
unfolding fraction
fraction_start joins due [] h l = absurd (omega (arith, l))
fraction_start joins due (d ∷ ds) h l = let p = and_parts (is_digit d) (list_all is_digit ds) h in rw p.0 (fraction_run ds p.1)

-- an exponent
power_run : (ds : List ℕ) → list_all is_digit ds ≡ true → power false ds ≡ true
unfolding power
power_run [] h = refl
power_run (d ∷ ds) h = let p = and_parts (is_digit d) (list_all is_digit ds) h in rw p.0 (power_run ds p.1)

pub power_start : (ds : List ℕ) → list_all is_digit ds ≡ true → 0 < length ds → power true ds ≡ true
unfolding power
power_start [] h l = absurd (omega (arith, l))
power_start (d ∷ ds) h l = let p = and_parts (is_digit d) (list_all is_digit ds) h in rw p.0 (power_run ds p.1)

digit_no_sign : (d : ℕ) → is_digit d ≡ true → is_either 43 45 d ≡ false
unfolding is_digit is_either
digit_no_sign d h =
    let p : 48 ≤ d = leb-true 48 d (and_parts (nat_le 48 d) (nat_le d 57) h).0 in
    let x : (d == 43) ≡ false = ne_eqb d 43 (λ e. omega (arith, e, p)) in
    let y : (d == 45) ≡ false = ne_eqb d 45 (λ e. omega (arith, e, p)) in
    rw (x, y) refl

pub exponent_run : (ds : List ℕ) → list_all is_digit ds ≡ true → 0 < length ds → exponent ds ≡ true
unfolding exponent
exponent_run [] h l = absurd (omega (arith, l))
exponent_run (d ∷ ds) h l = let p = and_parts (is_digit d) (list_all is_digit ds) h in rw (digit_no_sign d p.0, p.0) (power_run ds p.1)

-- hexadecimal digits
radix_run : (ds : List ℕ) → list_all is_hex ds ≡ true → radix is_hex false ds ≡ true
unfolding radix
radix_run [] h = refl
radix_run (d ∷ ds) h = let p = and_parts (is_hex d) (list_all is_hex ds) h in rw p.0 (radix_run ds p.1)

pub radix_start : (ds : List ℕ) → list_all is_hex ds ≡ true → 0 < length ds → radix is_hex true ds ≡ true
unfolding radix
radix_start [] h l = absurd (omega (arith, l))
radix_start (d ∷ ds) h l = let p = and_parts (is_hex d) (list_all is_hex ds) h in rw p.0 (radix_run ds p.1)

-- the values of these runs
pub decimal_value_run : (n : ℕ) (ds rest : List ℕ) → list_all is_digit ds ≡ true → decimal_value n (ds ++ rest) ≡ decimal_value (digits_value_after 10 n ds) rest
unfolding decimal_value
decimal_value_run n [] rest h = refl
decimal_value_run n (d ∷ ds) rest h = let p = and_parts (is_digit d) (list_all is_digit ds) h in rw p.0 (decimal_value_run (n * 10 + digit_value d) ds rest p.1)

pub fraction_value_run : (n k : ℕ) (ds rest : List ℕ) → list_all is_digit ds ≡ true → fraction_value n k (ds ++ rest) ≡ fraction_value (digits_value_after 10 n ds) (k + length ds) rest
unfolding fraction_value
fraction_value_run n k [] rest h = rw add-zero refl
fraction_value_run n k (d ∷ ds) rest h =
    let p = and_parts (is_digit d) (list_all is_digit ds) h in
    let e : k + 1 + length ds ≡ k + suc (length ds) = omega arith in
    rw p.0 (fraction_value_run (n * 10 + digit_value d) (k + 1) ds rest p.1 ∙ ap (λ m. fraction_value (digits_value_after 10 n (d ∷ ds)) m rest) e)

pub digits_after_run : (r n : ℕ) (ds : List ℕ) → list_all is_hex ds ≡ true → digits_after r n ds ≡ digits_value_after r n ds
unfolding digits_after
digits_after_run r n [] h = refl
digits_after_run r n (d ∷ ds) h = let p = and_parts (is_hex d) (list_all is_hex ds) h in rw p.0 (digits_after_run r (n * r + digit_value d) ds p.1)

pub value_append : (r n : ℕ) (xs ys : List ℕ) → digits_value_after r n (xs ++ ys) ≡ digits_value_after r (digits_value_after r n xs) ys
value_append r n [] ys = refl
value_append r n (x ∷ xs) ys = value_append r (n * r + digit_value x) xs ys

-- zeros
pub zeros_are_digits : (n : ℕ) → list_all is_digit (replicate n 48) ≡ true
unfolding is_digit
zeros_are_digits zero = refl
zeros_are_digits (suc n) = zeros_are_digits n

pub zeros_value : (n k : ℕ) → digits_value_after 10 n (replicate k 48) ≡ n * 10 ^ k
zeros_value n zero = sym (mul-one n)
zeros_value n (suc k) = zeros_value (n * 10 + 0) k ∙ rw (pow-succ', add-zero, mul_assoc) refl

pub digits_hex : (ds : List ℕ) → list_all is_digit ds ≡ true → list_all is_hex ds ≡ true
unfolding is_hex
digits_hex [] h = refl
digits_hex (d ∷ ds) h = let p = and_parts (is_digit d) (list_all is_digit ds) h in and_from (is_hex d) (list_all is_hex ds) (or_left (is_digit d) _ p.0) (digits_hex ds p.1)

-- what `{}` writes of a number
all_from_numeral : (ds : List ℕ) → AllDigits 10 ds → list_all is_digit ds ≡ true
unfolding is_digit
all_from_numeral [] h = refl
all_from_numeral (d ∷ ds) h =
    let r = digit_from_value d h.0 in
    and_from (nat_le 48 d && nat_le d 57) (list_all is_digit ds) (and_from (nat_le 48 d) (nat_le d 57) (le-leb 48 d r.0) (le-leb d 57 r.1)) (all_from_numeral ds h.1)

pub record Writes (radix n : ℕ) (is_one : ℕ → Bool) (text : List ℕ) : Type 0 where
  pub each : list_all is_one text ≡ true
  pub some : 0 < length text
  pub value : digits_value radix text ≡ n

pub decimal_writes : (n : ℕ) → n < 2 ^ 64 → Writes 10 n is_digit (decimal n)
decimal_writes n l =
    let h : IsNumeral 10 (decimal n) × (digits_value 10 (decimal n) ≡ n) = decimal_is_IsNumeral n l in
    record { each = all_from_numeral (decimal n) h.0.1; some = h.0.0; value = h.1 }

-- the digit values of a hexadecimal digit
pub hex_from_value : (d : ℕ) → digit_value d < 16 → is_hex d ≡ true
unfolding is_hex is_digit
hex_from_value d h =
    elim (cases_lt d 48) [
      | inl a ↦ absurd (let h1 : 36 < 16 = (rw (lt-ltb d 48 a) at h) in omega arith)
      | inr a ↦ elim (cases_lt d 58) [
        | inl b ↦ or_left (nat_le 48 d && nat_le d 57) _ (and_from (nat_le 48 d) (nat_le d 57) (le-leb 48 d a) (le-leb d 57 (omega arith)))
        | inr b ↦ elim (cases_lt d 65) [
          | inl e ↦ absurd (let h1 : 36 < 16 = (rw (le-ltb d 48 a, le-ltb d 58 b, lt-ltb d 65 e) at h) in omega arith)
          | inr e ↦ elim (cases_lt d 91) [
            | inl f ↦
                let h1 : d - 55 < 16 = (rw (le-ltb d 48 a, le-ltb d 58 b, le-ltb d 65 e, lt-ltb d 91 f) at h) in
                or_right (nat_le 48 d && nat_le d 57) _ (or_left (nat_le 65 d && nat_le d 70) _ (and_from (nat_le 65 d) (nat_le d 70) (le-leb 65 d e) (le-leb d 70 (omega arith))))
            | inr f ↦ elim (cases_lt d 97) [
              | inl g ↦ absurd (let h1 : 36 < 16 = (rw (le-ltb d 48 a, le-ltb d 58 b, le-ltb d 65 e, le-ltb d 91 f, lt-ltb d 97 g) at h) in omega arith)
              | inr g ↦ elim (cases_lt d 123) [
                | inl i ↦
                    let h1 : d - 87 < 16 = (rw (le-ltb d 48 a, le-ltb d 58 b, le-ltb d 65 e, le-ltb d 91 f, le-ltb d 97 g, lt-ltb d 123 i) at h) in
                    or_right (nat_le 48 d && nat_le d 57) _ (or_right (nat_le 65 d && nat_le d 70) _ (and_from (nat_le 97 d) (nat_le d 102) (le-leb 97 d g) (le-leb d 102 (omega arith))))
                | inr i ↦ absurd (let h1 : 36 < 16 = (rw (le-ltb d 48 a, le-ltb d 58 b, le-ltb d 65 e, le-ltb d 91 f, le-ltb d 97 g, le-ltb d 123 i) at h) in omega arith)
              ]
            ]
          ]
        ]
      ]
    ]

all_hex : (ds : List ℕ) → AllDigits 16 ds → list_all is_hex ds ≡ true
all_hex [] h = refl
all_hex (d ∷ ds) h = and_from (is_hex d) (list_all is_hex ds) (hex_from_value d h.0) (all_hex ds h.1)

pub hex_writes : (n : ℕ) → n < 2 ^ 64 → Writes 16 n is_hex (digits 16 false n)
hex_writes n l =
    let big : n < 16 ^ 64 = omega (arith, l) in
    let h : IsNumeral 16 (digits 16 false n) × (digits_value 16 (digits 16 false n) ≡ n) = digits_is_IsNumeral 16 false (omega arith) (omega arith) n big in
    record { each = all_hex (digits 16 false n) h.0.1; some = h.0.0; value = h.1 }
