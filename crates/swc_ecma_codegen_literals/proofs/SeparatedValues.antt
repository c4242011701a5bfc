-- A number without `_` is worth as much: its value, its radix, its digits and its suffix.
use Rattle.std.proofs.Common.{Bool, List, [], ap, cond, false, inl, inr, not, refl, subst, sym, true, ℕ, ◌*◌, ◌+◌, ◌&&◌, ◌==◌, ◌||◌, ◌∙◌, ◌∷◌, ◌≡◌, if◌then◌else◌, drop}
use Rattle.std.proofs.lemmas.Bool.{and_from, and_parts, cases_Bool, cond-false, cond-true, eqb-true, false≢true, ne_eqb, or_cases, or_from, or_left, or_right}
use Rattle.std.specs.Char.{digit_value}
use Rattle.swc_ecma_codegen_grammar.specs.Chars.{is_digit}
use Rattle.swc_ecma_codegen_grammar.specs.Texts.{is_empty}
use Rattle.swc_ecma_codegen_grammar.specs.Numbers.{after_zero, big_digits, digits_in, exponent, fraction, has_suffix, integer, is_big_integer, is_binary, is_either, is_hex, is_number, is_numeric, is_octal, legacy, power, radix, radix_of}
use Rattle.swc_ecma_codegen_grammar.specs.NumberValues.{MathValue, all_octal, decimal_value, digits_after, exponent_value, fraction_value, numeric_value, over_ten, times_ten, zero_value}
use Rattle.swc_ecma_codegen_literals.specs.Separators.{without_underscores}
use Rattle.swc_ecma_codegen_literals.proofs.SeparatedNumbers.{digit_stays, dropped, either_stays, ends_in_underscore, if_cases, kept, numeric_end, numeric_without, one_stays}

-- `_` is no hexadecimal digit
no_hex : (c : ℕ) → (c == 95) ≡ true → is_hex c ≡ false
unfolding is_hex is_digit
no_hex c h = ap is_hex (eqb-true c 95 h)

-- digits
pub digits_without : (r n : ℕ) (t : List ℕ) → digits_after r n (without_underscores t) ≡ digits_after r n t
unfolding digits_after
digits_without r n [] = refl
digits_without r n (c ∷ cs) = elim (cases_Bool (c == 95)) [
  | inl y ↦ ap (digits_after r n) (dropped c cs y) ∙ (digits_without r n cs ∙ sym (cond-false (is_hex c) (digits_after r (n * r + digit_value c) cs) (digits_after r n cs) (no_hex c y)))
  | inr f ↦ ap (digits_after r n) (kept c cs f) ∙ (λ i. cond (is_hex c) (digits_without r (n * r + digit_value c) cs i) (digits_without r n cs i))
]

-- an exponent
exponent_no_95 : (c : ℕ) (cs : List ℕ) → exponent (c ∷ cs) ≡ true → (c == 95) ≡ false
unfolding exponent is_either
exponent_no_95 c cs h = elim (if_cases (is_either 43 45 c) (power true cs) (is_digit c && power false cs) h) [
  | inl p ↦ either_stays 43 45 c refl p.0
  | inr p ↦ digit_stays c (and_parts (is_digit c) (power false cs) p.1).0
]

exponent_same : (n places : ℕ) (t : List ℕ) → exponent t ≡ true → exponent_value n places (without_underscores t) ≡ exponent_value n places t
unfolding exponent_value
exponent_same n places [] h = refl
exponent_same n places (c ∷ cs) h =
    let stays = kept c cs (exponent_no_95 c cs h) in
    let digits = ap (digits_after 10 0) (sym stays) ∙ digits_without 10 0 (c ∷ cs) in
    ap (exponent_value n places) stays
    ∙ (λ i. cond (c == 45) (over_ten n (places + digits_without 10 0 cs i)) (record { whole = n; tens = digits i; tenths = places }))

-- two choices by one test
first_same : (b : Bool) (x y u v : MathValue) → b ≡ true → x ≡ u → cond b x y ≡ cond b u v
first_same b x y u v e h = cond-true b x y e ∙ (h ∙ sym (cond-true b u v e))

second_same : (b : Bool) (x y u v : MathValue) → b ≡ false → y ≡ v → cond b x y ≡ cond b u v
second_same b x y u v e h = cond-false b x y e ∙ (h ∙ sym (cond-false b u v e))

-- a fraction
fraction_same : (joins due : Bool) (n places : ℕ) (t : List ℕ) → fraction joins due t ≡ true → fraction_value n places (without_underscores t) ≡ fraction_value n places t
unfolding fraction fraction_value is_either
fraction_same joins due n places [] h = refl
fraction_same joins due n places (c ∷ cs) h = elim (if_cases (is_digit c) (fraction true false cs) _ h) [
  | inl p ↦ ap (fraction_value n places) (kept c cs (digit_stays c p.0)) ∙ first_same (is_digit c) _ _ _ _ p.0 (fraction_same true false (n * 10 + digit_value c) (places + 1) cs p.1)
  | inr p ↦ elim (if_cases (is_either 101 69 c) (not due && exponent cs) ((c == 95) && (joins && fraction false true cs)) p.1) [
    | inl q ↦
        ap (fraction_value n places) (kept c cs (either_stays 101 69 c refl q.0))
        ∙ second_same (is_digit c) _ _ _ _ p.0 (first_same (is_either 101 69 c) _ _ _ _ q.0 (exponent_same n places cs (and_parts (not due) (exponent cs) q.1).1))
    | inr q ↦
        let r = and_parts (c == 95) (joins && fraction false true cs) q.1 in
        ap (fraction_value n places) (dropped c cs r.0)
        ∙ (fraction_same false true n places cs (and_parts joins (fraction false true cs) r.1).1
        ∙ sym (cond-false (is_digit c) _ _ p.0 ∙ cond-false (is_either 101 69 c) _ _ q.0))
  ]
]

-- an integer, and what may come after it
empty_same : (n : ℕ) (cs : List ℕ) → is_empty cs ≡ true → decimal_value n (without_underscores cs) ≡ decimal_value n cs
unfolding is_empty
empty_same n [] h = refl
empty_same n (c ∷ cs) h = absurd (false≢true h)

integer_same : (due : Bool) (n : ℕ) (t : List ℕ) → integer due t ≡ true → decimal_value n (without_underscores t) ≡ decimal_value n t
unfolding integer decimal_value is_either
integer_same due n [] h = refl
integer_same due n (c ∷ cs) h = elim (if_cases (is_digit c) (integer false cs) _ h) [
  | inl p ↦ ap (decimal_value n) (kept c cs (digit_stays c p.0)) ∙ first_same (is_digit c) _ _ _ _ p.0 (integer_same false (n * 10 + digit_value c) cs p.1)
  | inr p ↦ elim (if_cases (c == 95) (not due && integer true cs) _ p.1) [
    | inl q ↦
        ap (decimal_value n) (dropped c cs q.0)
        ∙ (integer_same true n cs (and_parts (not due) (integer true cs) q.1).1
        ∙ sym (cond-false (is_digit c) _ _ p.0 ∙ (cond-false (c == 46) _ _ (ap (λ x. x == 46) (eqb-true c 95 q.0)) ∙ cond-false (is_either 101 69 c) _ _ (ap (is_either 101 69) (eqb-true c 95 q.0)))))
    | inr q ↦ ap (decimal_value n) (kept c cs q.0) ∙ second_same (is_digit c) _ _ _ _ p.0 (elim (if_cases (c == 46) (not due && fraction false false cs) _ q.1) [
      | inl r ↦ first_same (c == 46) _ _ _ _ r.0 (fraction_same false false n 0 cs (and_parts (not due) (fraction false false cs) r.1).1)
      | inr r ↦ second_same (c == 46) _ _ _ _ r.0 (elim (if_cases (is_either 101 69 c) (not due && exponent cs) ((c == 110) && (not due && is_empty cs)) r.1) [
        | inl s ↦ first_same (is_either 101 69 c) _ _ _ _ s.0 (exponent_same n 0 cs (and_parts (not due) (exponent cs) s.1).1)
        | inr s ↦ second_same (is_either 101 69 c) _ _ _ _ s.0 (empty_same n cs (and_parts (not due) (is_empty cs) (and_parts (c == 110) (not due && is_empty cs) s.1).1).1)
      ])
    ])
  ]
]

-- digits after a leading zero
legacy_same : (octal : Bool) (n : ℕ) (t : List ℕ) → legacy octal t ≡ true → decimal_value n (without_underscores t) ≡ decimal_value n t
unfolding legacy decimal_value is_either
legacy_same octal n [] h = refl
legacy_same octal n (c ∷ cs) h = elim (if_cases (is_digit c) (legacy (octal && is_octal c) cs) _ h) [
  | inl p ↦ ap (decimal_value n) (kept c cs (digit_stays c p.0)) ∙ first_same (is_digit c) _ _ _ _ p.0 (legacy_same (octal && is_octal c) (n * 10 + digit_value c) cs p.1)
  | inr p ↦ elim (if_cases (c == 46) (not octal && fraction false false cs) (is_either 101 69 c && (not octal && exponent cs)) p.1) [
    | inl q ↦ ap (decimal_value n) (kept c cs (one_stays 46 c refl q.0)) ∙ second_same (is_digit c) _ _ _ _ p.0 (first_same (c == 46) _ _ _ _ q.0 (fraction_same false false n 0 cs (and_parts (not octal) (fraction false false cs) q.1).1))
    | inr q ↦
        let r = and_parts (is_either 101 69 c) (not octal && exponent cs) q.1 in
        ap (decimal_value n) (kept c cs (either_stays 101 69 c refl r.0)) ∙ second_same (is_digit c) _ _ _ _ p.0 (second_same (c == 46) _ _ _ _ q.0 (first_same (is_either 101 69 c) _ _ _ _ r.0 (exponent_same n 0 cs (and_parts (not octal) (exponent cs) r.1).1)))
  ]
]

-- a text that begins with no octal digit
neither : (c : ℕ) (x y : Bool) → is_octal c ≡ false → (is_octal c && x) ≡ (is_octal c && y)
neither c x y h = ap (λ b. b && x) h ∙ sym (ap (λ b. b && y) h)

no_octal_either : (a b c : ℕ) → is_octal a ≡ false → is_octal b ≡ false → is_either a b c ≡ true → is_octal c ≡ false
unfolding is_either
no_octal_either a b c h k e = elim (or_cases (c == a) (c == b) e) [
  | inl x ↦ ap is_octal (eqb-true c a x) ∙ h
  | inr x ↦ ap is_octal (eqb-true c b x) ∙ k
]

octal_same : (octal : Bool) (t : List ℕ) → legacy octal t ≡ true → all_octal (without_underscores t) ≡ all_octal t
unfolding legacy all_octal is_either is_octal
octal_same octal [] h = refl
octal_same octal (c ∷ cs) h = elim (if_cases (is_digit c) (legacy (octal && is_octal c) cs) _ h) [
  | inl p ↦ ap all_octal (kept c cs (digit_stays c p.0)) ∙ ap (λ b. is_octal c && b) (octal_same (octal && is_octal c) cs p.1)
  | inr p ↦ elim (if_cases (c == 46) (not octal && fraction false false cs) (is_either 101 69 c && (not octal && exponent cs)) p.1) [
    | inl q ↦ ap all_octal (kept c cs (one_stays 46 c refl q.0)) ∙ neither c (all_octal (without_underscores cs)) (all_octal cs) (ap is_octal (eqb-true c 46 q.0))
    | inr q ↦
        let r = and_parts (is_either 101 69 c) (not octal && exponent cs) q.1 in
        ap all_octal (kept c cs (either_stays 101 69 c refl r.0)) ∙ neither c (all_octal (without_underscores cs)) (all_octal cs) (no_octal_either 101 69 c refl refl r.0)
  ]
]

-- after a zero: a letter that gives the radix
by_letter : (x o b : Bool) (hex octal binary rest hex' octal' binary' rest' : MathValue) → hex ≡ hex' → octal ≡ octal' → binary ≡ binary' → (x || (o || b)) ≡ true →
    cond x hex (cond o octal (cond b binary rest)) ≡ cond x hex' (cond o octal' (cond b binary' rest'))
by_letter true o b hex octal binary rest hex' octal' binary' rest' h k l e = h
by_letter false true b hex octal binary rest hex' octal' binary' rest' h k l e = k
by_letter false false true hex octal binary rest hex' octal' binary' rest' h k l e = l
by_letter false false false hex octal binary rest hex' octal' binary' rest' h k l e = absurd (false≢true e)

zero_letter : (c : ℕ) (cs : List ℕ) → (c == 95) ≡ false → (is_either 120 88 c || (is_either 111 79 c || is_either 98 66 c)) ≡ true → zero_value (without_underscores (c ∷ cs)) ≡ zero_value (c ∷ cs)
unfolding zero_value
zero_letter c cs n h =
    let hex = ap (λ m. times_ten m 0) (digits_without 16 0 cs) in
    let octal = ap (λ m. times_ten m 0) (digits_without 8 0 cs) in
    let binary = ap (λ m. times_ten m 0) (digits_without 2 0 cs) in
    ap zero_value (kept c cs n) ∙ by_letter (is_either 120 88 c) (is_either 111 79 c) (is_either 98 66 c) _ _ _ _ _ _ _ _ hex octal binary h

-- anything else: a decimal, or octal digits
zero_plain : (c : ℕ) (cs : List ℕ) → (c == 95) ≡ false → all_octal (c ∷ without_underscores cs) ≡ all_octal (c ∷ cs) → decimal_value 0 (c ∷ without_underscores cs) ≡ decimal_value 0 (c ∷ cs) → zero_value (without_underscores (c ∷ cs)) ≡ zero_value (c ∷ cs)
unfolding zero_value
zero_plain c cs n old value =
    let early = ap (digits_after 8 0) (sym (kept c cs n)) ∙ digits_without 8 0 (c ∷ cs) in
    ap zero_value (kept c cs n)
    ∙ (λ i. cond (is_either 120 88 c) (times_ten (digits_without 16 0 cs i) 0) (cond (is_either 111 79 c) (times_ten (digits_without 8 0 cs i) 0) (cond (is_either 98 66 c) (times_ten (digits_without 2 0 cs i) 0) (cond (old i) (times_ten (early i) 0) (value i)))))

zero_same : (t : List ℕ) → after_zero t ≡ true → zero_value (without_underscores t) ≡ zero_value t
unfolding after_zero all_octal decimal_value is_either is_octal is_digit
zero_same [] h = refl
zero_same (c ∷ cs) h = elim (if_cases (is_digit c) (legacy (is_octal c) cs) _ h) [
  | inl p ↦ zero_plain c cs (digit_stays c p.0) (ap (λ b. is_octal c && b) (octal_same (is_octal c) cs p.1)) (first_same (is_digit c) _ _ _ _ p.0 (legacy_same (is_octal c) (0 * 10 + digit_value c) cs p.1))
  | inr p ↦ elim (if_cases (c == 46) (fraction false false cs) _ p.1) [
    | inl q ↦ zero_plain c cs (one_stays 46 c refl q.0) (neither c _ _ (ap is_octal (eqb-true c 46 q.0))) (second_same (is_digit c) _ _ _ _ p.0 (first_same (c == 46) _ _ _ _ q.0 (fraction_same false false 0 0 cs q.1)))
    | inr q ↦ elim (if_cases (is_either 101 69 c) (exponent cs) _ q.1) [
      | inl r ↦ zero_plain c cs (either_stays 101 69 c refl r.0) (neither c _ _ (no_octal_either 101 69 c refl refl r.0)) (second_same (is_digit c) _ _ _ _ p.0 (second_same (c == 46) _ _ _ _ q.0 (first_same (is_either 101 69 c) _ _ _ _ r.0 (exponent_same 0 0 cs r.1))))
      | inr r ↦ elim (if_cases (is_either 120 88 c) (radix is_hex true cs) _ r.1) [
        | inl s ↦ zero_letter c cs (either_stays 120 88 c refl s.0) (or_left (is_either 120 88 c) _ s.0)
        | inr s ↦ elim (if_cases (is_either 111 79 c) (radix is_octal true cs) _ s.1) [
          | inl u ↦ zero_letter c cs (either_stays 111 79 c refl u.0) (or_right (is_either 120 88 c) _ (or_left (is_either 111 79 c) _ u.0))
          | inr u ↦ elim (if_cases (is_either 98 66 c) (radix is_binary true cs) ((c == 110) && is_empty cs) u.1) [
            | inl v ↦ zero_letter c cs (either_stays 98 66 c refl v.0) (or_right (is_either 120 88 c) _ (or_right (is_either 111 79 c) _ v.0))
            | inr v ↦
                let e = and_parts (c == 110) (is_empty cs) v.1 in
                zero_plain c cs (one_stays 110 c refl e.0) (neither c _ _ (ap is_octal (eqb-true c 110 e.0))) (second_same (is_digit c) _ _ _ _ p.0 (second_same (c == 46) _ _ _ _ q.0 (second_same (is_either 101 69 c) _ _ _ _ r.0 (empty_same 0 cs e.1))))
          ]
        ]
      ]
    ]
  ]
]

-- a numeric literal
pub numeric_same : (t : List ℕ) → is_numeric t ≡ true → numeric_value (without_underscores t) ≡ numeric_value t
unfolding is_numeric numeric_value decimal_value is_digit is_either
numeric_same [] h = absurd (false≢true h)
numeric_same (c ∷ cs) h = elim (if_cases (c == 48) (after_zero cs) _ h) [
  | inl p ↦ ap numeric_value (kept c cs (one_stays 48 c refl p.0)) ∙ first_same (c == 48) _ _ _ _ p.0 (zero_same cs p.1)
  | inr p ↦ elim (if_cases (is_digit c) (integer false cs) ((c == 46) && fraction false true cs) p.1) [
    | inl q ↦ ap numeric_value (kept c cs (digit_stays c q.0)) ∙ second_same (c == 48) _ _ _ _ p.0 (first_same (is_digit c) _ _ _ _ q.0 (integer_same false (0 * 10 + digit_value c) cs q.1))
    | inr q ↦
        let r = and_parts (c == 46) (fraction false true cs) q.1 in
        ap numeric_value (kept c cs (one_stays 46 c refl r.0)) ∙ second_same (c == 48) _ _ _ _ p.0 (second_same (is_digit c) _ _ _ _ q.0 (first_same (c == 46) _ _ _ _ r.0 (fraction_same false true 0 0 cs r.1)))
  ]
]

-- the suffix: of a text that doesn't end with `_`
suffix_on : (c : ℕ) (t u : List ℕ) → (is_empty t ≡ is_empty u) → has_suffix t ≡ has_suffix u → has_suffix (c ∷ t) ≡ has_suffix (c ∷ u)
unfolding has_suffix is_empty
suffix_on c [] [] e h = refl
suffix_on c [] (d ∷ u) e h = absurd (false≢true (sym e))
suffix_on c (d ∷ t) [] e h = absurd (false≢true e)
suffix_on c (d ∷ t) (f ∷ u) e h = h

some_without : (t : List ℕ) → ends_in_underscore t ≡ false → is_empty (without_underscores t) ≡ is_empty t
unfolding ends_in_underscore is_empty
some_without [] h = refl
some_without (c ∷ []) h = ap is_empty (kept c [] h)
some_without (c ∷ d ∷ cs) h = elim (cases_Bool (c == 95)) [
  | inl y ↦ ap is_empty (dropped c (d ∷ cs) y) ∙ some_without (d ∷ cs) h
  | inr n ↦ ap is_empty (kept c (d ∷ cs) n)
]

suffix_without : (t : List ℕ) → ends_in_underscore t ≡ false → has_suffix (without_underscores t) ≡ has_suffix t
unfolding ends_in_underscore has_suffix
suffix_without [] h = refl
suffix_without (c ∷ []) h = ap has_suffix (kept c [] h)
suffix_without (c ∷ d ∷ cs) h = elim (cases_Bool (c == 95)) [
  | inl y ↦ ap has_suffix (dropped c (d ∷ cs) y) ∙ suffix_without (d ∷ cs) h
  | inr n ↦ ap has_suffix (kept c (d ∷ cs) n) ∙ suffix_on c (without_underscores (d ∷ cs)) (d ∷ cs) (some_without (d ∷ cs) h) (suffix_without (d ∷ cs) h)
]

pub numeric_suffix : (t : List ℕ) → is_numeric t ≡ true → has_suffix (without_underscores t) ≡ has_suffix t
numeric_suffix t h = suffix_without t (numeric_end t h)

pub number_without : (t : List ℕ) → is_number t ≡ true → is_number (without_underscores t) ≡ true
unfolding is_number
number_without t h =
    let p = and_parts (is_numeric t) (not (has_suffix t)) h in
    and_from (is_numeric (without_underscores t)) _ (numeric_without t p.0) (ap not (numeric_suffix t p.0) ∙ p.1)

pub number_same : (t : List ℕ) → is_number t ≡ true → numeric_value (without_underscores t) ≡ numeric_value t
unfolding is_number
number_same t h = numeric_same t (and_parts (is_numeric t) (not (has_suffix t)) h).0

pub big_without : (t : List ℕ) → is_big_integer t ≡ true → is_big_integer (without_underscores t) ≡ true
unfolding is_big_integer
big_without t h =
    let p = and_parts (is_numeric t) (has_suffix t) h in
    and_from (is_numeric (without_underscores t)) _ (numeric_without t p.0) (numeric_suffix t p.0 ∙ p.1)

-- the radix: `_` stands after a digit of a decimal, and before one
joined_integer : (c : ℕ) (cs : List ℕ) → is_numeric (c ∷ 95 ∷ cs) ≡ true → integer true cs ≡ true
unfolding is_numeric after_zero integer fraction is_digit is_either
joined_integer c cs h = elim (if_cases (c == 48) false _ h) [
  | inl p ↦ absurd (false≢true p.1)
  | inr p ↦ elim (if_cases (is_digit c) (integer true cs) ((c == 46) && false) p.1) [
    | inl q ↦ q.1
    | inr q ↦ absurd (false≢true (and_parts (c == 46) false q.1).1)
  ]
]

due_digit : (e : ℕ) (es : List ℕ) → integer true (e ∷ es) ≡ true → is_digit e ≡ true
unfolding integer
due_digit e es h = elim (if_cases (is_digit e) (integer false es) _ h) [
  | inl p ↦ p.0
  | inr p ↦ elim (if_cases (e == 95) false _ p.1) [
    | inl q ↦ absurd (false≢true q.1)
    | inr q ↦ elim (if_cases (e == 46) false _ q.1) [
      | inl r ↦ absurd (false≢true r.1)
      | inr r ↦ elim (if_cases (is_either 101 69 e) false ((e == 110) && false) r.1) [
        | inl s ↦ absurd (false≢true s.1)
        | inr s ↦ absurd (false≢true (and_parts (e == 110) false s.1).1)
      ]
    ]
  ]
]

digit_letter : (a b e : ℕ) → is_digit a ≡ false → is_digit b ≡ false → is_digit e ≡ true → is_either a b e ≡ false
unfolding is_either
digit_letter a b e m n h = or_from (e == a) (e == b) (ne_eqb e a (λ x. false≢true (sym m ∙ (ap is_digit (sym x) ∙ h)))) (ne_eqb e b (λ x. false≢true (sym n ∙ (ap is_digit (sym x) ∙ h))))

decimal_radix : (c e : ℕ) (es : List ℕ) → is_digit e ≡ true → radix_of (c ∷ e ∷ es) ≡ 10
unfolding radix_of is_digit
decimal_radix c e es h =
    cond-false (is_either 120 88 e) _ _ (digit_letter 120 88 e refl refl h)
    ∙ (cond-false (is_either 111 79 e) _ _ (digit_letter 111 79 e refl refl h) ∙ cond-false (is_either 98 66 e) _ _ (digit_letter 98 66 e refl refl h))

-- where `_` comes second
joined_radix : (c : ℕ) (cs : List ℕ) → integer true cs ≡ true → radix_of (c ∷ without_underscores cs) ≡ 10
unfolding integer
joined_radix c [] h = absurd (false≢true h)
joined_radix c (e ∷ es) h =
    let d = due_digit e es h in
    ap (λ x. radix_of (c ∷ x)) (kept e es (digit_stays e d)) ∙ decimal_radix c e (without_underscores es) d

first_stays : (c : ℕ) (cs : List ℕ) → is_numeric (c ∷ cs) ≡ true → (c == 95) ≡ false
unfolding is_numeric is_digit
first_stays c cs h = elim (if_cases (c == 48) (after_zero cs) _ h) [
  | inl p ↦ one_stays 48 c refl p.0
  | inr p ↦ elim (if_cases (is_digit c) (integer false cs) ((c == 46) && fraction false true cs) p.1) [
    | inl q ↦ digit_stays c q.0
    | inr q ↦ one_stays 46 c refl (and_parts (c == 46) (fraction false true cs) q.1).0
  ]
]

underscore_radix : (c : ℕ) (cs : List ℕ) → radix_of (c ∷ 95 ∷ cs) ≡ 10
unfolding radix_of is_either
underscore_radix c cs = refl

-- the first two characters stay, or the second is `_` and both texts are decimal
pub data Second (c d : ℕ) (cs : List ℕ) : Type 0 where
  Both : (stay : without_underscores (c ∷ d ∷ cs) ≡ c ∷ d ∷ without_underscores cs) → Second c d cs
  Tens : (here : radix_of (c ∷ d ∷ cs) ≡ 10) → (there : radix_of (without_underscores (c ∷ d ∷ cs)) ≡ 10) → Second c d cs

second : (c d : ℕ) (cs : List ℕ) → is_numeric (c ∷ d ∷ cs) ≡ true → Second c d cs
second c d cs h =
    let k = kept c (d ∷ cs) (first_stays c (d ∷ cs) h) in
    elim (cases_Bool (d == 95)) [
      | inl y ↦
          let at : is_numeric (c ∷ 95 ∷ cs) ≡ true = subst (λ x. is_numeric (c ∷ x ∷ cs) ≡ true) (eqb-true d 95 y) h in
          Tens (ap (λ x. radix_of (c ∷ x ∷ cs)) (eqb-true d 95 y) ∙ underscore_radix c cs) (ap radix_of k ∙ (ap (λ x. radix_of (c ∷ x)) (dropped d cs y) ∙ joined_radix c cs (joined_integer c cs at)))
      | inr n ↦ Both (k ∙ ap (λ x. c ∷ x) (kept d cs n))
    ]

pub radix_same : (t : List ℕ) → is_numeric t ≡ true → radix_of (without_underscores t) ≡ radix_of t
unfolding radix_of
radix_same [] h = refl
radix_same (c ∷ []) h = ap radix_of (kept c [] (first_stays c [] h))
radix_same (c ∷ d ∷ cs) h = by_second (second c d cs h)
  where
    by_second : Second c d cs → radix_of (without_underscores (c ∷ d ∷ cs)) ≡ radix_of (c ∷ d ∷ cs)
    by_second (Both stay) = ap radix_of stay
    by_second (Tens here there) = there ∙ sym here

-- the digits
pub digits_in_without : (t : List ℕ) → digits_in (without_underscores t) ≡ digits_in t
unfolding digits_in
digits_in_without [] = refl
digits_in_without (c ∷ cs) = elim (cases_Bool (c == 95)) [
  | inl y ↦ ap digits_in (dropped c cs y) ∙ (digits_in_without cs ∙ sym (cond-true ((c == 95) || (c == 110)) _ _ (or_left (c == 95) _ y)))
  | inr n ↦ ap digits_in (kept c cs n) ∙ (λ i. cond ((c == 95) || (c == 110)) (digits_in_without cs i) (c ∷ digits_in_without cs i))
]

tens_digits : (t : List ℕ) → radix_of t ≡ 10 → big_digits t ≡ digits_in t
unfolding big_digits
tens_digits t h = ap (λ r. digits_in (if r == 10 then t else drop 2 t)) h

both_digits : (c d : ℕ) (cs : List ℕ) → big_digits (c ∷ d ∷ without_underscores cs) ≡ big_digits (c ∷ d ∷ cs)
unfolding big_digits radix_of digits_in
both_digits c d cs = choice (radix_of (c ∷ d ∷ cs) == 10)
  where
    choice : (b : Bool) → digits_in (if b then (c ∷ d ∷ without_underscores cs) else drop 2 (c ∷ d ∷ without_underscores cs)) ≡ digits_in (if b then (c ∷ d ∷ cs) else drop 2 (c ∷ d ∷ cs))
    choice true = λ i. cond ((c == 95) || (c == 110)) (tail i) (c ∷ tail i)
      where
        tail : digits_in (d ∷ without_underscores cs) ≡ digits_in (d ∷ cs)
        tail = λ i. cond ((d == 95) || (d == 110)) (digits_in_without cs i) (d ∷ digits_in_without cs i)
    choice false = digits_in_without cs

pub big_digits_same : (t : List ℕ) → is_numeric t ≡ true → big_digits (without_underscores t) ≡ big_digits t
big_digits_same [] h = refl
big_digits_same (c ∷ []) h = ap big_digits (kept c [] (first_stays c [] h))
big_digits_same (c ∷ d ∷ cs) h = by_second (second c d cs h)
  where
    by_second : Second c d cs → big_digits (without_underscores (c ∷ d ∷ cs)) ≡ big_digits (c ∷ d ∷ cs)
    by_second (Both stay) = ap big_digits stay ∙ both_digits c d cs
    by_second (Tens here there) = tens_digits (without_underscores (c ∷ d ∷ cs)) there ∙ (digits_in_without (c ∷ d ∷ cs) ∙ sym (tens_digits (c ∷ d ∷ cs) here))

pub big_same : (t : List ℕ) → is_big_integer t ≡ true → is_numeric t ≡ true
unfolding is_big_integer
big_same t h = (and_parts (is_numeric t) (has_suffix t) h).0
