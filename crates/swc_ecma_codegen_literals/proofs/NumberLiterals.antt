-- The texts of a decimal number are numeric literals of its value.
use Rattle.std.proofs.Common.{◌≡◌, ℕ, zero, suc, ◌+◌, ◌-◌, ◌*◌, ◌^◌, ◌<◌, ◌≤◌, ℤ, pos, negsuc, Bool, true, false, not, ◌&&◌, ◌||◌, List, [], ◌∷◌, ◌++◌, ◌==◌, nat_le, nat_lt, length, slice_index, replicate, take, drop, refl, sym, ap, ◌∙◌, subst, arith, inl, inr, if◌then◌else◌, append-nil, Option, Some, None, codes, length-append, ◌⊎◌, int_le}
use Rattle.std.specs.Char.{is_ascii_digit}
use Rattle.std.specs.List.{list_all}
use Rattle.std.specs.Option.{option_map}
use Rattle.std.specs.Fmt.{digits, decimal}
use Rattle.std.specs.Str.{bytes_eq, IsAscii}
use Rattle.std.specs.Str.Parse.{digits_value, digits_value_after}
use Rattle.std.specs.Ordering.{int_eq}
use Rattle.std.proofs.lemmas.Bool.Decides.{Decides-int_eq}
use Rattle.std.proofs.Math.Nat.{mul-one, zero-mul, zero-add, add-zero}
use Rattle.std.proofs.lemmas.Bool.{and_parts, and_from, leb-true, lt-ltb, ltb-true, or_cases, ne_eqb, false≢true, eqb-true, not_from_false, not-true, cases_Bool, ltb-false}
use Rattle.std.proofs.lemmas.List.{length-replicate, length-drop, take-append-drop}
use Rattle.std.proofs.lemmas.List.Folds.{list_all-append}
use Rattle.swc_ecma_codegen_grammar.specs.Chars.{is_digit}
use Rattle.swc_ecma_codegen_grammar.specs.Numbers.{is_hex, is_either, is_octal, integer, fraction, exponent, after_zero, is_numeric, has_suffix}
use Rattle.swc_ecma_codegen_common.specs.DecimalParts.{is_significand, is_decimal}
use Rattle.swc_ecma_codegen_grammar.specs.NumberValues.{MathValue, times_ten, over_ten, SameValue, digits_after, exponent_value, fraction_value, decimal_value, all_octal, zero_value, numeric_value}
use Rattle.swc_ecma_codegen_grammar.specs.DecimalValues.{size_value}
use Rattle.swc_ecma_codegen_literals.specs.NumberTexts.{with_point, plain_size, short_whole, short_fraction, short_size, whole_size, hexadecimal_size, shorter_size, minified_size}
use Rattle.swc_ecma_codegen_literals.proofs.Numerals.{integer_run, fraction_start, power_start, exponent_run, radix_start, decimal_value_run, fraction_value_run, digits_after_run, value_append, zeros_are_digits, zeros_value, digits_hex, decimal_writes, hex_writes}

-- characters of a number: ASCII, and no suffix `n`
abbrev pub is_fine : ℕ → Bool
is_fine c = nat_lt c 128 && not (c == 110)

pub all_weaker : (p q : ℕ → Bool) → ((c : ℕ) → p c ≡ true → q c ≡ true) → (xs : List ℕ) → list_all p xs ≡ true → list_all q xs ≡ true
all_weaker p q w [] h = refl
all_weaker p q w (x ∷ xs) h = let s = and_parts (p x) (list_all p xs) h in and_from (q x) (list_all q xs) (w x s.0) (all_weaker p q w xs s.1)

fine_between : (c a b : ℕ) → a ≤ c → c ≤ b → b < 110 → is_fine c ≡ true
fine_between c a b l h u = and_from (nat_lt c 128) (not (c == 110)) (lt-ltb c 128 (omega arith)) (not_from_false (c == 110) (ne_eqb c 110 (λ e. omega arith)))

digit_fine : (c : ℕ) → is_digit c ≡ true → is_fine c ≡ true
unfolding is_digit
digit_fine c h = let p = and_parts (nat_le 48 c) (nat_le c 57) h in fine_between c 48 57 (leb-true 48 c p.0) (leb-true c 57 p.1) (omega arith)

hex_fine : (c : ℕ) → is_hex c ≡ true → is_fine c ≡ true
unfolding is_hex
hex_fine c h =
    elim (or_cases (is_digit c) ((nat_le 65 c && nat_le c 70) || (nat_le 97 c && nat_le c 102)) h) [
      | inl d ↦ digit_fine c d
      | inr d ↦ elim (or_cases (nat_le 65 c && nat_le c 70) (nat_le 97 c && nat_le c 102) d) [
        | inl u ↦ let p = and_parts (nat_le 65 c) (nat_le c 70) u in fine_between c 65 70 (leb-true 65 c p.0) (leb-true c 70 p.1) (omega arith)
        | inr u ↦ let p = and_parts (nat_le 97 c) (nat_le c 102) u in fine_between c 97 102 (leb-true 97 c p.0) (leb-true c 102 p.1) (omega arith)
      ]
    ]

pub fine_suffix : (t : List ℕ) → list_all is_fine t ≡ true → has_suffix t ≡ false
unfolding has_suffix
fine_suffix [] h = refl
fine_suffix (c ∷ []) h = not-true (c == 110) (and_parts (nat_lt c 128) (not (c == 110)) (and_parts (is_fine c) true h).0).1
fine_suffix (c ∷ d ∷ cs) h = fine_suffix (d ∷ cs) (and_parts (is_fine c) (list_all is_fine (d ∷ cs)) h).1

pub fine_ascii : (t : List ℕ) → list_all is_fine t ≡ true → IsAscii t
fine_ascii [] h i = omega arith
fine_ascii (c ∷ cs) h zero = ltb-true c 128 (and_parts (nat_lt c 128) (not (c == 110)) (and_parts (is_fine c) (list_all is_fine cs) h).0).0
fine_ascii (c ∷ cs) h (suc i) = fine_ascii cs (and_parts (is_fine c) (list_all is_fine cs) h).1 i

fine_append : (xs ys : List ℕ) → list_all is_fine xs ≡ true → list_all is_fine ys ≡ true → list_all is_fine (xs ++ ys) ≡ true
fine_append xs ys h g = list_all-append is_fine xs ys ∙ and_from (list_all is_fine xs) (list_all is_fine ys) h g

pub digits_append : (xs ys : List ℕ) → list_all is_digit xs ≡ true → list_all is_digit ys ≡ true → list_all is_digit (xs ++ ys) ≡ true
digits_append xs ys h g = list_all-append is_digit xs ys ∙ and_from (list_all is_digit xs) (list_all is_digit ys) h g

pub digits_fine : (t : List ℕ) → list_all is_digit t ≡ true → list_all is_fine t ≡ true
digits_fine t h = all_weaker is_digit is_fine digit_fine t h

-- a numeric literal of a value, of these characters
pub record Reads (text : List ℕ) (v : MathValue) : Type 0 where
  pub fine : list_all is_fine text ≡ true
  pub numeric : is_numeric text ≡ true
  pub value : numeric_value text ≡ v

-- digits that a decimal literal may begin with
abbrev Leads : List ℕ → Type 0
Leads [] = ⊥
Leads (c ∷ cs) = ((c == 48) ≡ false) × (list_all is_digit (c ∷ cs) ≡ true)

leads_digits : (ds : List ℕ) → Leads ds → list_all is_digit ds ≡ true
leads_digits [] h = absurd h
leads_digits (c ∷ cs) h = h.1

leads_numeric : (ds rest : List ℕ) → Leads ds → is_numeric (ds ++ rest) ≡ integer false rest
unfolding is_numeric
leads_numeric [] rest h = absurd h
leads_numeric (c ∷ cs) rest h = let p = and_parts (is_digit c) (list_all is_digit cs) h.1 in rw (h.0, p.0) (integer_run cs rest p.1)

leads_value : (ds rest : List ℕ) → Leads ds → numeric_value (ds ++ rest) ≡ decimal_value (digits_value 10 ds) rest
unfolding numeric_value
leads_value [] rest h = absurd h
leads_value (c ∷ cs) rest h = rw h.0 (decimal_value_run 0 (c ∷ cs) rest h.1)

leads_take : (ds : List ℕ) (n : ℕ) → Leads ds → 0 < n → Leads (take n ds)
leads_take [] n h l = absurd h
leads_take (c ∷ cs) zero h l = absurd (omega (arith, l))
leads_take (c ∷ cs) (suc n) h l = let p = and_parts (is_digit c) (list_all is_digit cs) h.1 in (h.0, and_from (is_digit c) (list_all is_digit (take n cs)) p.0 (digits_take n cs p.1))
  where
    digits_take : (n : ℕ) (ds : List ℕ) → list_all is_digit ds ≡ true → list_all is_digit (take n ds) ≡ true
    digits_take zero ds h = refl
    digits_take (suc n) [] h = refl
    digits_take (suc n) (d ∷ ds) h = let p = and_parts (is_digit d) (list_all is_digit ds) h in and_from (is_digit d) (list_all is_digit (take n ds)) p.0 (digits_take n ds p.1)

digits_drop : (n : ℕ) (ds : List ℕ) → list_all is_digit ds ≡ true → list_all is_digit (drop n ds) ≡ true
digits_drop zero ds h = h
digits_drop (suc n) [] h = refl
digits_drop (suc n) (d ∷ ds) h = digits_drop n ds (and_parts (is_digit d) (list_all is_digit ds) h).1

-- `12000`
whole_reads : (ds : List ℕ) (n : ℕ) → Leads ds → Reads (ds ++ replicate n 48) (times_ten (digits_value 10 ds * 10 ^ n) 0)
unfolding integer decimal_value
whole_reads ds n h =
    let z = zeros_are_digits n in
    let i : integer false (replicate n 48) ≡ true = (let r = integer_run (replicate n 48) [] z in rw append-nil at r) in
    let v : decimal_value (digits_value 10 ds) (replicate n 48) ≡ times_ten (digits_value 10 ds * 10 ^ n) 0 =
    (let r = decimal_value_run (digits_value 10 ds) (replicate n 48) [] z in (rw append-nil at r) ∙ ap (λ m. times_ten m 0) (zeros_value (digits_value 10 ds) n)) in
    record {
      fine = fine_append ds (replicate n 48) (digits_fine ds (leads_digits ds h)) (digits_fine (replicate n 48) z);
      numeric = leads_numeric ds (replicate n 48) h ∙ i;
      value = leads_value ds (replicate n 48) h ∙ v;
    }

fraction_digits : (ds : List ℕ) → list_all is_digit ds ≡ true → fraction false false ds ≡ true
unfolding fraction
fraction_digits [] h = refl
fraction_digits (d ∷ ds) h = fraction_start false false (d ∷ ds) h (omega arith)

fraction_value_all : (n k : ℕ) (ds : List ℕ) → list_all is_digit ds ≡ true → fraction_value n k ds ≡ over_ten (digits_value_after 10 n ds) (k + length ds)
unfolding fraction_value
fraction_value_all n k ds h = let r = fraction_value_run n k ds [] h in rw append-nil at r

-- `1.2`
point_reads : (front back : List ℕ) → Leads front → list_all is_digit back ≡ true → Reads (front ++ (codes "." ++ back)) (over_ten (digits_value 10 (front ++ back)) (length back))
unfolding integer decimal_value is_digit is_either
point_reads front back h g = record {
  fine = fine_append front (codes "." ++ back) (digits_fine front (leads_digits front h)) (fine_append (codes ".") back refl (digits_fine back g));
  numeric = leads_numeric front (codes "." ++ back) h ∙ fraction_digits back g;
  value = leads_value front (codes "." ++ back) h ∙ (fraction_value_all (digits_value 10 front) 0 back g ∙ rw (zero-add, value_append 10 0 front back) refl);
}

-- `0.0012`
zero_point_reads : (ds : List ℕ) → list_all is_digit ds ≡ true → Reads (codes "0." ++ ds) (over_ten (digits_value 10 ds) (length ds))
unfolding is_numeric after_zero numeric_value zero_value all_octal is_octal decimal_value is_digit is_either
zero_point_reads ds h = record {
  fine = fine_append (codes "0.") ds refl (digits_fine ds h);
  numeric = fraction_digits ds h;
  value = fraction_value_all 0 0 ds h ∙ rw zero-add refl;
}

-- `.0012`
point_first_reads : (ds : List ℕ) → list_all is_digit ds ≡ true → 0 < length ds → Reads (codes "." ++ ds) (over_ten (digits_value 10 ds) (length ds))
unfolding is_numeric numeric_value decimal_value is_digit is_either
point_first_reads ds h l = record {
  fine = fine_append (codes ".") ds refl (digits_fine ds h);
  numeric = fraction_start false true ds h l;
  value = fraction_value_all 0 0 ds h ∙ rw zero-add refl;
}

no_minus : (d : ℕ) → is_digit d ≡ true → (d == 45) ≡ false
unfolding is_digit
no_minus d h = let p : 48 ≤ d = leb-true 48 d (and_parts (nat_le 48 d) (nat_le d 57) h).0 in ne_eqb d 45 (λ e. omega (arith, e, p))

exponent_value_digits : (n : ℕ) (ds : List ℕ) → list_all is_digit ds ≡ true → 0 < length ds → exponent_value n 0 ds ≡ times_ten n (digits_value 10 ds)
unfolding exponent_value times_ten
exponent_value_digits n [] h l = absurd (omega (arith, l))
exponent_value_digits n (d ∷ ds) h l =
    let p = and_parts (is_digit d) (list_all is_digit ds) h in
    rw (no_minus d p.0, digits_after_run 10 0 (d ∷ ds) (digits_hex (d ∷ ds) h)) refl

-- `12e3`
power_reads : (ds : List ℕ) (n : ℕ) → Leads ds → n < 2 ^ 64 → Reads (ds ++ (codes "e" ++ decimal n)) (times_ten (digits_value 10 ds) n)
unfolding integer decimal_value is_digit is_either
power_reads ds n h l =
    let w = decimal_writes n l in
    record {
      fine = fine_append ds (codes "e" ++ decimal n) (digits_fine ds (leads_digits ds h)) (fine_append (codes "e") (decimal n) refl (digits_fine (decimal n) w.each));
      numeric = leads_numeric ds (codes "e" ++ decimal n) h ∙ exponent_run (decimal n) w.each w.some;
      value = leads_value ds (codes "e" ++ decimal n) h ∙ (exponent_value_digits (digits_value 10 ds) (decimal n) w.each w.some ∙ ap (λ m. times_ten (digits_value 10 ds) m) w.value);
    }

-- `12e-6`
power_down_reads : (ds : List ℕ) (n : ℕ) → Leads ds → n < 2 ^ 64 → Reads (ds ++ (codes "e-" ++ decimal n)) (over_ten (digits_value 10 ds) n)
unfolding integer decimal_value exponent exponent_value is_digit is_either
power_down_reads ds n h l =
    let w = decimal_writes n l in
    record {
      fine = fine_append ds (codes "e-" ++ decimal n) (digits_fine ds (leads_digits ds h)) (fine_append (codes "e-") (decimal n) refl (digits_fine (decimal n) w.each));
      numeric = leads_numeric ds (codes "e-" ++ decimal n) h ∙ power_start (decimal n) w.each w.some;
      value = leads_value ds (codes "e-" ++ decimal n) h ∙ ap (λ m. over_ten (digits_value 10 ds) m) (zero-add (digits_after 10 0 (decimal n)) ∙ (digits_after_run 10 0 (decimal n) (digits_hex (decimal n) w.each) ∙ w.value));
    }

-- `0xff`
hexadecimal_reads : (n : ℕ) → n < 2 ^ 64 → Reads (codes "0x" ++ digits 16 false n) (times_ten n 0)
unfolding is_numeric after_zero numeric_value zero_value is_digit is_either
hexadecimal_reads n l =
    let w = hex_writes n l in
    record {
      fine = fine_append (codes "0x") (digits 16 false n) refl (all_weaker is_hex is_fine hex_fine (digits 16 false n) w.each);
      numeric = radix_start (digits 16 false n) w.each w.some;
      value = ap (λ m. times_ten m 0) (digits_after_run 16 0 (digits 16 false n) w.each ∙ w.value);
    }

-- `0`
zero_reads : Reads (codes "0") (times_ten 0 0)
unfolding is_numeric after_zero numeric_value zero_value
zero_reads = record { fine = refl; numeric = refl; value = refl }

-- a literal of the number v
pub record Spells (text : List ℕ) (v : MathValue) : Type 0 where
  pub fine : list_all is_fine text ≡ true
  pub numeric : is_numeric text ≡ true
  pub same : SameValue (numeric_value text) v

spells : (text : List ℕ) (u v : MathValue) → Reads text u → SameValue u v → Spells text v
spells text u v r s = record { fine = r.fine; numeric = r.numeric; same = subst (λ w. SameValue w v) (sym r.value) s }

same_value : (v : MathValue) → SameValue v v
unfolding SameValue
same_value v = refl

same_whole : (n k : ℕ) → SameValue (times_ten (n * 10 ^ k) 0) (times_ten n k)
unfolding SameValue times_ten
same_whole n k = rw (add-zero, mul-one) refl

-- the digits and the exponent of a decimal number: `0`, or digits that begin with another
significand_leads : (ds : List ℕ) → is_significand ds ≡ true → Leads ds
unfolding is_significand is_digit
significand_leads [] h = absurd (false≢true h)
significand_leads (c ∷ cs) h =
    let last = slice_index (c ∷ cs) (length (c ∷ cs) - 1) in
    let p1 = and_parts (((not (length (c ∷ cs) == 0) && nat_le (length (c ∷ cs)) 800) && not (c == 48)) && not (last == 48)) (list_all is_ascii_digit (c ∷ cs)) h in
    let p2 = and_parts ((not (length (c ∷ cs) == 0) && nat_le (length (c ∷ cs)) 800) && not (c == 48)) (not (last == 48)) p1.0 in
    let p3 = and_parts (not (length (c ∷ cs) == 0) && nat_le (length (c ∷ cs)) 800) (not (c == 48)) p2.0 in
    (not-true (c == 48) p3.1, p1.1)

zero_digits : (ds : List ℕ) → bytes_eq ds (codes "0") ≡ true → ds ≡ codes "0"
zero_digits [] h = absurd (false≢true h)
zero_digits (c ∷ []) h = ap (λ x. x ∷ []) (eqb-true c 48 (and_parts (c == 48) true h).0)
zero_digits (c ∷ d ∷ ds) h = absurd (false≢true (and_parts (c == 48) false h).1)

zero_exponent : (e : ℤ) → int_eq e (pos 0) ≡ true → e ≡ pos 0
zero_exponent e h = (Decides-int_eq e (pos 0)).0 h

decimal_cases : (ds : List ℕ) (e : ℤ) → is_decimal ds e ≡ true → (Leads ds) ⊎ ((ds ≡ codes "0") × (e ≡ pos 0))
unfolding is_decimal
decimal_cases ds e h =
    let p = and_parts (int_le (negsuc 1099) e && int_le e (pos 1100)) (is_significand ds || (bytes_eq ds (codes "0") && int_eq e (pos 0))) h in
    elim (or_cases (is_significand ds) (bytes_eq ds (codes "0") && int_eq e (pos 0)) p.1) [
      | inl a ↦ inl (significand_leads ds a)
      | inr b ↦ let q = and_parts (bytes_eq ds (codes "0")) (int_eq e (pos 0)) b in inr (zero_digits ds q.0, zero_exponent e q.1)
    ]

pub decimal_all : (ds : List ℕ) (e : ℤ) → is_decimal ds e ≡ true → list_all is_digit ds ≡ true
unfolding is_digit
decimal_all ds e h = elim (decimal_cases ds e h) [ inl l ↦ leads_digits ds l | inr z ↦ rw (z.0) refl ]

pub decimal_some : (ds : List ℕ) (e : ℤ) → is_decimal ds e ≡ true → 0 < length ds
decimal_some ds e h = elim (decimal_cases ds e h) [ inl l ↦ leads_some ds l | inr z ↦ rw (z.0) (omega arith) ]
  where
    leads_some : (ds : List ℕ) → Leads ds → 0 < length ds
    leads_some [] l = absurd l
    leads_some (c ∷ cs) l = omega arith

up_to_1100 : (ds : List ℕ) (n : ℕ) → is_decimal ds (pos n) ≡ true → n ≤ 1100
unfolding is_decimal
up_to_1100 ds n h =
    let p = and_parts (int_le (negsuc 1099) (pos n) && int_le (pos n) (pos 1100)) (is_significand ds || (bytes_eq ds (codes "0") && int_eq (pos n) (pos 0))) h in
    let q : int_le (pos n) (pos 1100) ≡ true = (and_parts (int_le (negsuc 1099) (pos n)) (int_le (pos n) (pos 1100)) p.0).1 in
    leb-true n 1100 q

down_to_1100 : (ds : List ℕ) (n : ℕ) → is_decimal ds (negsuc n) ≡ true → n ≤ 1099
unfolding is_decimal
down_to_1100 ds n h =
    let p = and_parts (int_le (negsuc 1099) (negsuc n) && int_le (negsuc n) (pos 1100)) (is_significand ds || (bytes_eq ds (codes "0") && int_eq (negsuc n) (pos 0))) h in
    let q : int_le (negsuc 1099) (negsuc n) ≡ true = (and_parts (int_le (negsuc 1099) (negsuc n)) (int_le (negsuc n) (pos 1100)) p.0).0 in
    leb-true n 1099 q

zeros_digits_value : (k : ℕ) (ds : List ℕ) → digits_value 10 (replicate k 48 ++ ds) ≡ digits_value 10 ds
zeros_digits_value k ds = value_append 10 0 (replicate k 48) ds ∙ ap (λ m. digits_value_after 10 m ds) (zeros_value 0 k ∙ zero-mul (10 ^ k))

-- all digits
with_point_spells : (ds : List ℕ) (n : ℕ) → Leads ds → 0 < n → Spells (with_point ds n) (over_ten (digits_value 10 ds) n)
unfolding with_point
with_point_spells ds n h l = elim (cases_Bool (nat_lt n (length ds))) [
  | inl t ↦ rw t (inside (ltb-true n (length ds) t))
  | inr f ↦ rw f (outside (ltb-false n (length ds) f))
]
  where
    inside : n < length ds → Spells (take (length ds - n) ds ++ (codes "." ++ drop (length ds - n) ds)) (over_ten (digits_value 10 ds) n)
    inside b =
        let r = point_reads (take (length ds - n) ds) (drop (length ds - n) ds) (leads_take ds (length ds - n) h (omega arith)) (digits_drop (length ds - n) ds (leads_digits ds h)) in
        let places : length (drop (length ds - n) ds) ≡ n = length-drop (length ds - n) ds ∙ omega (arith, b) in
        let v : over_ten (digits_value 10 (take (length ds - n) ds ++ drop (length ds - n) ds)) (length (drop (length ds - n) ds)) ≡ over_ten (digits_value 10 ds) n = rw (take-append-drop (length ds - n) ds, places) refl in
        spells _ _ _ r (subst (λ w. SameValue w (over_ten (digits_value 10 ds) n)) (sym v) (same_value _))

    outside : length ds ≤ n → Spells (codes "0." ++ (replicate (n - length ds) 48 ++ ds)) (over_ten (digits_value 10 ds) n)
    outside b =
        let all = replicate (n - length ds) 48 ++ ds in
        let r = zero_point_reads all (digits_append (replicate (n - length ds) 48) ds (zeros_are_digits (n - length ds)) (leads_digits ds h)) in
        let places : length all ≡ n = length-append (replicate (n - length ds) 48) ds ∙ rw (length-replicate {A = ℕ} (n - length ds) 48) (omega (arith, b)) in
        let v : over_ten (digits_value 10 all) (length all) ≡ over_ten (digits_value 10 ds) n = rw (zeros_digits_value (n - length ds) ds, places) refl in
        spells _ _ _ r (subst (λ w. SameValue w (over_ten (digits_value 10 ds) n)) (sym v) (same_value _))

zero_spells : Spells (plain_size (codes "0") (pos 0)) (size_value (codes "0") (pos 0))
unfolding plain_size size_value
zero_spells = spells (codes "0") (times_ten 0 0) (times_ten 0 0) zero_reads (same_value (times_ten 0 0))

plain_spells_nonzero : (ds : List ℕ) (e : ℤ) → Leads ds → Spells (plain_size ds e) (size_value ds e)
unfolding plain_size size_value
plain_spells_nonzero ds (pos n) h = spells _ _ _ (whole_reads ds n h) (same_whole (digits_value 10 ds) n)
plain_spells_nonzero ds (negsuc n) h = with_point_spells ds (suc n) h (omega arith)

pub plain_spells : (ds : List ℕ) (e : ℤ) → is_decimal ds e ≡ true → Spells (plain_size ds e) (size_value ds e)
plain_spells ds e h = elim (decimal_cases ds e h) [
  | inl l ↦ plain_spells_nonzero ds e l
  | inr z ↦ subst (λ x. Spells (plain_size ds x) (size_value ds x)) (sym z.1) (subst (λ x. Spells (plain_size x (pos 0)) (size_value x (pos 0))) (sym z.0) zero_spells)
]

-- P holds of the text, where there is one
abbrev OnText : (List ℕ → Type 0) → Option (List ℕ) → Type 0
OnText P None = Unit {0}
OnText P (Some text) = P text

on_text_if : (P : List ℕ → Type 0) (b : Bool) (text : List ℕ) → (b ≡ true → P text) → OnText P (if b then Some text else None)
on_text_if P true text h = h refl
on_text_if P false text h = tt

shorter_keeps : (P : List ℕ → Type 0) (o : Option (List ℕ)) (other : List ℕ) → OnText P o → P other → P (shorter_size o other)
unfolding shorter_size
shorter_keeps P None other h g = g
shorter_keeps P (Some text) other h g = elim (nat_lt (length text) (length other)) as (λ b. P (if b then text else other)) [ true ↦ h | false ↦ g ]

short_whole_spells : (ds : List ℕ) (n : ℕ) → Leads ds → n ≤ 1100 → OnText (λ text. Spells text (times_ten (digits_value 10 ds) n)) (short_whole ds n)
unfolding short_whole
short_whole_spells ds n h l = on_text_if (λ text. Spells text (times_ten (digits_value 10 ds) n)) (nat_le 3 n) (ds ++ (codes "e" ++ decimal n)) (λ _. spells _ _ _ (power_reads ds n h (omega arith)) (same_value _))

short_fraction_spells : (negative : Bool) (ds : List ℕ) (n : ℕ) → Leads ds → 0 < n → n ≤ 1100 → OnText (λ text. Spells text (over_ten (digits_value 10 ds) n)) (short_fraction negative ds n)
unfolding short_fraction
short_fraction_spells negative ds n h s l = elim (cases_Bool (nat_lt n (length ds))) [
  | inl t ↦ rw t tt
  | inr f ↦ rw f (choice (not negative && nat_le 3 (n - length ds)) (ltb-false n (length ds) f))
]
  where
    choice : (b : Bool) → length ds ≤ n → OnText (λ text. Spells text (over_ten (digits_value 10 ds) n)) (if b then Some (ds ++ (codes "e-" ++ decimal n)) else Some (codes "." ++ (replicate (n - length ds) 48 ++ ds)))
    choice true b = spells _ _ _ (power_down_reads ds n h (omega arith)) (same_value _)
    choice false b =
        let all = replicate (n - length ds) 48 ++ ds in
        let places : length all ≡ n = length-append (replicate (n - length ds) 48) ds ∙ rw (length-replicate {A = ℕ} (n - length ds) 48) (omega (arith, b)) in
        let r = point_first_reads all (digits_append (replicate (n - length ds) 48) ds (zeros_are_digits (n - length ds)) (leads_digits ds h)) (omega arith) in
        let v : over_ten (digits_value 10 all) (length all) ≡ over_ten (digits_value 10 ds) n = rw (zeros_digits_value (n - length ds) ds, places) refl in
        spells _ _ _ r (subst (λ w. SameValue w (over_ten (digits_value 10 ds) n)) (sym v) (same_value _))

short_spells_nonzero : (negative : Bool) (ds : List ℕ) (e : ℤ) → Leads ds → is_decimal ds e ≡ true → OnText (λ text. Spells text (size_value ds e)) (short_size negative ds e)
unfolding short_size size_value
short_spells_nonzero negative ds (pos n) h d = short_whole_spells ds n h (up_to_1100 ds n d)
short_spells_nonzero negative ds (negsuc n) h d = let l = down_to_1100 ds n d in short_fraction_spells negative ds (suc n) h (omega arith) (omega (arith, l))

no_short_zero : (negative : Bool) (ds : List ℕ) (v : MathValue) → OnText (λ text. Spells text v) (short_size negative ds (pos 0))
unfolding short_size short_whole
no_short_zero negative ds v = tt

short_spells : (negative : Bool) (ds : List ℕ) (e : ℤ) → is_decimal ds e ≡ true → OnText (λ text. Spells text (size_value ds e)) (short_size negative ds e)
short_spells negative ds e d = elim (decimal_cases ds e d) [
  | inl l ↦ short_spells_nonzero negative ds e l d
  | inr z ↦ subst (λ x. OnText (λ text. Spells text (size_value ds x)) (short_size negative ds x)) (sym z.1) (no_short_zero negative ds (size_value ds (pos 0)))
]

hexadecimal_spells : (ds : List ℕ) (e : ℤ) → OnText (λ text. Spells text (size_value ds e)) (hexadecimal_size ds e)
unfolding hexadecimal_size whole_size size_value
hexadecimal_spells ds (pos n) = choice (nat_le (digits_value 10 ds * 10 ^ n) (2 ^ 63)) refl
  where
    choice : (b : Bool) → nat_le (digits_value 10 ds * 10 ^ n) (2 ^ 63) ≡ b → OnText (λ text. Spells text (times_ten (digits_value 10 ds) n)) (option_map (λ size. codes "0x" ++ digits 16 false size) (if b then Some (digits_value 10 ds * 10 ^ n) else None))
    choice true e =
        let size = digits_value 10 ds * 10 ^ n in
        let l : size ≤ 2 ^ 63 = leb-true size (2 ^ 63) e in
        spells _ _ _ (hexadecimal_reads size (omega (arith, l))) (same_whole (digits_value 10 ds) n)
    choice false e = tt
hexadecimal_spells ds (negsuc n) = tt

pub minified_spells : (negative : Bool) (ds : List ℕ) (e : ℤ) → is_decimal ds e ≡ true → Spells (minified_size negative ds e) (size_value ds e)
unfolding minified_size
minified_spells negative ds e d =
    let P : List ℕ → Type 0 = λ text. Spells text (size_value ds e) in
    shorter_keeps P (short_size negative ds e) (shorter_size (hexadecimal_size ds e) (plain_size ds e)) (short_spells negative ds e d)
    (shorter_keeps P (hexadecimal_size ds e) (plain_size ds e) (hexadecimal_spells ds e) (plain_spells ds e d))
