-- Each number has one form in decimal digits, without zeros before it.
use Rattle.std.proofs.Common.{◌≡◌, ℕ, zero, suc, ◌+◌, ◌*◌, ◌^◌, ◌<◌, ◌≤◌, true, false, not, ◌==◌, nat_le, List, [], ◌∷◌, ◌++◌, Option, None, Some, length, replicate, refl, sym, ap, ◌∙◌, inl, inr, ◌⊎◌, arith, cond, eq-eqb}
use Rattle.std.proofs.Math.Nat.{add-zero, mul_assoc, le-mul_of_pos_right, mul-one, pow-suc, pow-succ', zero-mul}
use Rattle.std.proofs.lemmas.Bool.{cases_Bool, and_parts, and_from, cases_lt, cases_order, leb-true, true≢false, eqb-true}
use Rattle.std.proofs.lemmas.Bool.Decides.{nat_tests}
use Rattle.std.proofs.lemmas.List.{length-replicate}
use Rattle.std.proofs.lemmas.Nat.{pow-add}
use Rattle.std.proofs.lemmas.Str.{digit_value_digit}
use Rattle.std.specs.Char.{digit_value}
use Rattle.std.specs.List.{list_all}
use Rattle.std.specs.Str.Parse.{digits_value, digits_value_after}
use Rattle.swc_ecma_codegen_grammar.specs.Chars.{is_digit}
use Rattle.swc_ecma_codegen_validate.specs.Mantissas.{stripped, one_more, zeros_after, ends_in_some}

-- ---- one digit

pub digit_plus : (c : ℕ) → is_digit c ≡ true → (digit_value c + 48 ≡ c) × (c ≤ 57)
unfolding is_digit
digit_plus c h =
    let p = and_parts (nat_le 48 c) (nat_le c 57) h in
    (digit_value_digit c (leb-true 48 c p.0, leb-true c 57 p.1), leb-true c 57 p.1)

-- ---- runs of digits

pub value_append : (n : ℕ) (xs ys : List ℕ) → digits_value_after 10 n (xs ++ ys) ≡ digits_value_after 10 (digits_value_after 10 n xs) ys
value_append n [] ys = refl
value_append n (x ∷ xs) ys = value_append (n * 10 + digit_value x) xs ys

pub zeros_value : (n k : ℕ) → digits_value_after 10 n (replicate k 48) ≡ n * 10 ^ k
zeros_value n zero = sym (mul-one n)
zeros_value n (suc k) = zeros_value (n * 10 + 0) k ∙ rw (pow-succ', add-zero, mul_assoc) refl

zeros_are_digits : (n : ℕ) → list_all is_digit (replicate n 48) ≡ true
unfolding is_digit
zeros_are_digits zero = refl
zeros_are_digits (suc n) = zeros_are_digits n

digits_append : (xs ys : List ℕ) → list_all is_digit xs ≡ true → list_all is_digit ys ≡ true → list_all is_digit (xs ++ ys) ≡ true
digits_append [] ys h k = k
digits_append (x ∷ xs) ys h k = let p = and_parts (is_digit x) (list_all is_digit xs) h in and_from _ _ p.0 (digits_append xs ys p.1 k)

pub value_grows : (n : ℕ) (xs : List ℕ) → n ≤ digits_value_after 10 n xs
value_grows n [] = omega arith
value_grows n (x ∷ xs) = let more = value_grows (n * 10 + digit_value x) xs in omega arith

-- ---- one form

-- as many digits of one number are the same
same_digits : (xs ys : List ℕ) (m n : ℕ) → list_all is_digit xs ≡ true → list_all is_digit ys ≡ true → length xs ≡ length ys → digits_value_after 10 m xs ≡ digits_value_after 10 n ys → (m ≡ n) × (xs ≡ ys)
same_digits [] [] m n h k l e = (e, refl)
same_digits [] (y ∷ ys) m n h k l e = absurd (omega arith)
same_digits (x ∷ xs) [] m n h k l e = absurd (omega arith)
same_digits (x ∷ xs) (y ∷ ys) m n h k l e =
    let p = and_parts (is_digit x) (list_all is_digit xs) h in
    let q = and_parts (is_digit y) (list_all is_digit ys) k in
    let d = digit_plus x p.0 in
    let f = digit_plus y q.0 in
    let shorter : length xs ≡ length ys = omega arith in
    let r = same_digits xs ys (m * 10 + digit_value x) (n * 10 + digit_value y) p.1 q.1 shorter e in
    let first : m ≡ n = omega (arith, r.0, d.0, d.1, f.0, f.1) in
    let digit : x ≡ y = omega (arith, r.0, d.0, d.1, f.0, f.1) in
    (first, ap (λ z. z ∷ xs) digit ∙ ap (λ zs. y ∷ zs) r.1)

-- more digits make a larger number
more_digits : (xs ys : List ℕ) (m n : ℕ) → list_all is_digit xs ≡ true → list_all is_digit ys ≡ true → 1 ≤ m → n ≤ 9 → length ys < length xs → digits_value_after 10 m xs ≡ digits_value_after 10 n ys → ⊥
more_digits [] ys m n h k some small l e = omega arith
more_digits (x ∷ xs) ys m n h k some small l e =
    let p = and_parts (is_digit x) (list_all is_digit xs) h in
    elim (cases_lt (length ys) (length xs)) [
      | inl less ↦ more_digits xs ys (m * 10 + digit_value x) n p.1 k (omega arith) small less e
      | inr more ↦ let r = same_digits xs ys (m * 10 + digit_value x) n p.1 k (omega arith) e in omega (arith, r.0)
    ]

pub first_digit : (x : ℕ) → is_digit x ≡ true → (x == 48) ≡ false → (1 ≤ digit_value x) × (digit_value x ≤ 9)
first_digit x h z =
    let d = digit_plus x h in
    let other : 1 ≤ digit_value x = grind (arith, nat_tests, d.0) in
    (other, omega (arith, d.0, d.1))

-- digits of one number that begin with no zero are the same
unique_digits : (x y : ℕ) (xs ys : List ℕ) → list_all is_digit (x ∷ xs) ≡ true → list_all is_digit (y ∷ ys) ≡ true → (x == 48) ≡ false → (y == 48) ≡ false → digits_value 10 (x ∷ xs) ≡ digits_value 10 (y ∷ ys) → x ∷ xs ≡ y ∷ ys
unique_digits x y xs ys h k u v e =
    let p = and_parts (is_digit x) (list_all is_digit xs) h in
    let q = and_parts (is_digit y) (list_all is_digit ys) k in
    let d = first_digit x p.0 u in
    let f = first_digit y q.0 v in
    elim (cases_order (length xs) (length ys)) [
      | inl same ↦ (same_digits (x ∷ xs) (y ∷ ys) 0 0 h k (ap suc same) e).1
      | inr other ↦ elim other [
        | inl less ↦ absurd (more_digits ys xs (0 * 10 + digit_value y) (0 * 10 + digit_value x) q.1 p.1 (omega (arith, f.0)) (omega (arith, d.1)) less (sym e))
        | inr more ↦ absurd (more_digits xs ys (0 * 10 + digit_value x) (0 * 10 + digit_value y) p.1 q.1 (omega (arith, d.0)) (omega (arith, f.1)) more e)
      ]
    ]

-- ---- zeros before and after

pub strip_value : (xs : List ℕ) → digits_value 10 (stripped xs) ≡ digits_value 10 xs
unfolding stripped
strip_value [] = refl
strip_value (x ∷ xs) = elim (cases_Bool (x == 48)) [
  | inl z ↦ rw z (strip_value xs ∙ ap (λ d. digits_value_after 10 (0 * 10 + digit_value d) xs) (sym (eqb-true x 48 z)))
  | inr z ↦ rw z refl
]

strip_digits : (xs : List ℕ) → list_all is_digit xs ≡ true → list_all is_digit (stripped xs) ≡ true
unfolding stripped
strip_digits [] h = refl
strip_digits (x ∷ xs) h = elim (cases_Bool (x == 48)) [
  | inl z ↦ rw z (strip_digits xs (and_parts (is_digit x) _ h).1)
  | inr z ↦ rw z h
]

-- no zero is left before them
strip_first : (xs : List ℕ) → (stripped xs ≡ []) ⊎ ((y : ℕ) × (ys : List ℕ) × (stripped xs ≡ y ∷ ys) × ((y == 48) ≡ false))
unfolding stripped
strip_first [] = inl refl
strip_first (x ∷ xs) = elim (cases_Bool (x == 48)) [
  | inl z ↦ rw z (strip_first xs)
  | inr z ↦ inr (x, xs, rw z refl, z)
]

-- one more than a number
more_form : (o : Option ℕ) (k : ℕ) → one_more o ≡ Some k → (j : ℕ) × (o ≡ Some j) × (suc j ≡ k)
unfolding one_more
more_form None k h = absurd (cc)
more_form (Some j) k h = (j, refl, cc)

zeros_form : (ds xs : List ℕ) (k : ℕ) → zeros_after ds xs ≡ Some k → xs ≡ ds ++ replicate k 48
unfolding zeros_after
zeros_form [] [] k h = let e : 0 ≡ k = cc in ap (λ n. replicate n 48) e
zeros_form [] (x ∷ xs) k h = elim (cases_Bool (x == 48)) [
  | inl z ↦
      let m = more_form (zeros_after [] xs) k (rw z at h) in
      ap (λ l. x ∷ l) (zeros_form [] xs m.0 m.1) ∙ (ap (λ y. y ∷ replicate m.0 48) (eqb-true x 48 z) ∙ ap (λ n. replicate n 48) m.2)
  | inr z ↦ let e : None ≡ Some k = rw z at h in absurd (cc)
]
zeros_form (d ∷ ds) [] k h = absurd (cc)
zeros_form (d ∷ ds) (x ∷ xs) k h = elim (cases_Bool (x == d)) [
  | inl z ↦ ap (λ l. x ∷ l) (zeros_form ds xs k (rw z at h)) ∙ ap (λ y. y ∷ (ds ++ replicate k 48)) (eqb-true x d z)
  | inr z ↦ let e : None ≡ Some k = rw z at h in absurd (cc)
]

-- zeros alone aren't digits that end in another
no_zeros : (d : ℕ) (ds : List ℕ) (a b : ℕ) → ends_in_some (d ∷ ds) ≡ true → replicate a 48 ≡ d ∷ (ds ++ replicate b 48) → ⊥
unfolding ends_in_some
no_zeros d ds zero b h e = cc
no_zeros d [] (suc a) b h e = let z : d ≡ 48 = cc in true≢false (sym h ∙ ap (λ x. not (x == 48)) z)
no_zeros d (f ∷ ds) (suc a) b h e = let rest : replicate a 48 ≡ f ∷ (ds ++ replicate b 48) = cc in no_zeros f ds a b h rest

later : (d : ℕ) (ds : List ℕ) → ends_in_some (d ∷ ds) ≡ true → ends_in_some ds ≡ true
unfolding ends_in_some
later d [] h = refl
later d (e ∷ ds) h = h

-- where digits with zeros after them are the same, one of them has the other's digits
cut : (ds xs : List ℕ) (a b : ℕ) → ends_in_some ds ≡ true → xs ++ replicate a 48 ≡ ds ++ replicate b 48 → (k : ℕ) × (zeros_after ds xs ≡ Some k) × (k + a ≡ b)
unfolding zeros_after one_more
cut [] [] a b h e = (0, refl, omega (arith, sym (length-replicate a 48) ∙ (ap length e ∙ length-replicate b 48)))
cut [] (x ∷ xs) a zero h e = absurd (cc)
cut [] (x ∷ xs) a (suc b) h e =
    let z : x ≡ 48 = cc in
    let rest : xs ++ replicate a 48 ≡ replicate b 48 = cc in
    let r = cut [] xs a b h rest in
    (suc r.0, ap (λ y. cond (y == 48) (one_more (zeros_after [] xs)) None) z ∙ ap one_more r.1, omega (arith, r.2))
cut (d ∷ ds) [] a b h e = absurd (no_zeros d ds a b h e)
cut (d ∷ ds) (x ∷ xs) a b h e =
    let z : x ≡ d = cc in
    let rest : xs ++ replicate a 48 ≡ ds ++ replicate b 48 = cc in
    let r = cut ds xs a b (later d ds h) rest in
    (r.0, ap (λ t. cond t (zeros_after ds xs) None) (eq-eqb x d z) ∙ r.1, r.2)

pub power_some : (n : ℕ) → 0 < 10 ^ n
power_some zero = omega arith
power_some (suc n) = rw (pow-suc 10 n) (omega (arith, power_some n))

-- digits of the same number, but for zeros
pub digits_there : (xs ds : List ℕ) (d : ℕ) (a b : ℕ) → list_all is_digit xs ≡ true → list_all is_digit (d ∷ ds) ≡ true → (d == 48) ≡ false → ends_in_some (d ∷ ds) ≡ true → digits_value 10 xs * 10 ^ a ≡ digits_value 10 (d ∷ ds) * 10 ^ b → (k : ℕ) × (zeros_after (d ∷ ds) (stripped xs) ≡ Some k) × (k + a ≡ b)
digits_there xs ds d a b h g z l e = elim (strip_first xs) [
  | inl none ↦
      let zero_value : digits_value 10 xs ≡ 0 = sym (strip_value xs) ∙ ap (digits_value 10) none in
      let some : 1 ≤ digits_value 10 (d ∷ ds) = omega (arith, value_grows (0 * 10 + digit_value d) ds, (first_digit d (and_parts (is_digit d) _ g).0 z).0) in
      let product : 0 ≡ digits_value 10 (d ∷ ds) * 10 ^ b = sym (zero-mul (10 ^ a)) ∙ (ap (λ n. n * 10 ^ a) (sym zero_value) ∙ e) in
      absurd (omega (arith, product, some, le-mul_of_pos_right (digits_value 10 (d ∷ ds)) (power_some b)))
  | inr (y, ys, form, other) ↦
      let same : digits_value 10 ((y ∷ ys) ++ replicate a 48) ≡ digits_value 10 ((d ∷ ds) ++ replicate b 48) =
      value_append 0 (y ∷ ys) (replicate a 48) ∙ (zeros_value (digits_value 10 (y ∷ ys)) a ∙ (ap (λ n. n * 10 ^ a) (ap (digits_value 10) (sym form) ∙ strip_value xs)
      ∙ (e ∙ sym (value_append 0 (d ∷ ds) (replicate b 48) ∙ zeros_value (digits_value 10 (d ∷ ds)) b))))
      in
      let some : list_all is_digit (y ∷ ys) ≡ true = ap (list_all is_digit) (sym form) ∙ strip_digits xs h in
      let lists = unique_digits y d (ys ++ replicate a 48) (ds ++ replicate b 48) (digits_append (y ∷ ys) (replicate a 48) some (zeros_are_digits a)) (digits_append (d ∷ ds) (replicate b 48) g (zeros_are_digits b)) other z same in
      let r = cut (d ∷ ds) (y ∷ ys) a b l lists in
      (r.0, ap (zeros_after (d ∷ ds)) form ∙ r.1, r.2)
]

pub digits_back : (xs ds : List ℕ) (a b k : ℕ) → zeros_after ds (stripped xs) ≡ Some k → k + a ≡ b → digits_value 10 xs * 10 ^ a ≡ digits_value 10 ds * 10 ^ b
digits_back xs ds a b k h e =
    let value : digits_value 10 xs ≡ digits_value 10 ds * 10 ^ k =
    sym (strip_value xs) ∙ (ap (digits_value 10) (zeros_form ds (stripped xs) k h) ∙ (value_append 0 ds (replicate k 48) ∙ zeros_value (digits_value 10 ds) k))
    in
    rw (value, ← e, pow-add 10 k a, mul_assoc (digits_value 10 ds) (10 ^ k) (10 ^ a)) refl

-- what has no digit but zeros is zero
pub zero_there : (xs : List ℕ) → list_all is_digit xs ≡ true → digits_value 10 xs ≡ 0 → stripped xs ≡ []
zero_there xs h e = elim (strip_first xs) [
  | inl none ↦ none
  | inr (y, ys, form, other) ↦
      let some : is_digit y ≡ true = (and_parts (is_digit y) _ (ap (list_all is_digit) (sym form) ∙ strip_digits xs h)).0 in
      let value : digits_value 10 (y ∷ ys) ≡ 0 = ap (digits_value 10) (sym form) ∙ (strip_value xs ∙ e) in
      absurd (omega (arith, value, value_grows (0 * 10 + digit_value y) ys, (first_digit y some other).0))
]

pub zero_back : (xs : List ℕ) → stripped xs ≡ [] → digits_value 10 xs ≡ 0
zero_back xs e = sym (strip_value xs) ∙ ap (digits_value 10) e
