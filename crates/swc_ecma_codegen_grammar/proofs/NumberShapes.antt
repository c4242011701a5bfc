-- What may go on after a number: a name character, or a dot.
use Rattle.std.proofs.Common.{Bool, List, [], arith, false, inl, inr, nat_le, not, refl, subst, sym, true, ℕ, ◌&&◌, ◌++◌, ◌<◌, ◌==◌, ◌||◌, ◌∙◌, ◌∷◌, ◌≡◌, ◌≤◌, ◌⊎◌}
use Rattle.std.proofs.lemmas.Bool.{and_from, and_parts, and_right, eqb-true, false_from_ne_true, le-leb, leb-true, or_cases, or_left, or_right, true≢false}
use Rattle.swc_ecma_codegen_grammar.proofs.CharLaws.{digit_part, either_part, part_below, same_part}
use Rattle.swc_ecma_codegen_grammar.proofs.Conditions.{and_both, else_so, empty_more, if_both, if_either, if_same, then_so}
use Rattle.swc_ecma_codegen_grammar.proofs.Tables.{each}
use Rattle.swc_ecma_codegen_grammar.specs.Chars.{begins_digit, is_digit, is_letter, is_part}
use Rattle.swc_ecma_codegen_grammar.specs.Numbers.{after_zero, exponent, fraction, has_suffix, integer, is_big_integer, is_binary, is_either, is_hex, is_number, is_numeric, is_octal, legacy, power, radix, takes_dot}
use Rattle.swc_ecma_codegen_grammar.specs.Texts.{is_empty}

octal_part : (c : ℕ) → is_octal c ≡ true → is_part c ≡ true
unfolding is_octal is_digit
octal_part c h =
    let p = and_parts (nat_le 48 c) (nat_le c 55) h in
    let l : c ≤ 55 = leb-true c 55 p.1 in
    digit_part c (and_from (nat_le 48 c) (nat_le c 57) p.0 (le-leb c 57 (omega arith)))

letter_part : (c : ℕ) → c < 128 → is_letter c ≡ true → is_part c ≡ true
letter_part c l h = part_below c l (or_left _ _ (or_left _ _ (or_left (is_letter c) (is_digit c) h)))

hex_part : (c : ℕ) → is_hex c ≡ true → is_part c ≡ true
unfolding is_hex is_letter
hex_part c h =
    elim (or_cases (is_digit c) ((nat_le 65 c && nat_le c 70) || (nat_le 97 c && nat_le c 102)) h) [
      | inl d ↦ digit_part c d
      | inr d ↦ elim (or_cases (nat_le 65 c && nat_le c 70) (nat_le 97 c && nat_le c 102) d)
          [ inl u ↦ upper u | inr v ↦ lower v ]
    ]
  where
    upper : (nat_le 65 c && nat_le c 70) ≡ true → is_part c ≡ true
    upper u = let p = and_parts (nat_le 65 c) (nat_le c 70) u in let l : c ≤ 70 = leb-true c 70 p.1 in letter_part c (omega arith) (or_left _ _ (and_from (nat_le 65 c) (nat_le c 90) p.0 (le-leb c 90 (omega arith))))

    lower : (nat_le 97 c && nat_le c 102) ≡ true → is_part c ≡ true
    lower u = let p = and_parts (nat_le 97 c) (nat_le c 102) u in let l : c ≤ 102 = leb-true c 102 p.1 in letter_part c (omega arith) (or_right (nat_le 65 c && nat_le c 90) _ (and_from (nat_le 97 c) (nat_le c 122) p.0 (le-leb c 122 (omega arith))))

binary_part : (c : ℕ) → is_binary c ≡ true → is_part c ≡ true
unfolding is_binary is_part is_letter is_digit
binary_part c h = elim (or_cases (c == 48) (c == 49) h) [ inl x ↦ same_part 48 c refl x | inr x ↦ same_part 49 c refl x ]

part_95 : is_part 95 ≡ true
unfolding is_part is_letter is_digit
part_95 = refl

part_101 : is_part 101 ≡ true
unfolding is_part is_letter is_digit
part_101 = refl

part_69 : is_part 69 ≡ true
unfolding is_part is_letter is_digit
part_69 = refl

part_110 : is_part 110 ≡ true
unfolding is_part is_letter is_digit
part_110 = refl

power_more : (due : Bool) (t : List ℕ) (c : ℕ) (m : List ℕ) → power due t ≡ true → power due (t ++ c ∷ m) ≡ true → is_part c ≡ true
unfolding power
power_more due [] c m h k =
    elim (if_either (is_digit c) (power false m) ((c == 95) && (not due && power true m)) k)
    [ inl p ↦ digit_part c p.0 | inr p ↦ same_part 95 c part_95 (and_parts (c == 95) (not due && power true m) p).0 ]
power_more due (d ∷ t) c m h k =
    elim (if_both (is_digit d) (power false t) ((d == 95) && (not due && power true t)) (power false (t ++ c ∷ m)) ((d == 95) && (not due && power true (t ++ c ∷ m))) h k) [
      | inl p ↦ power_more false t c m p.0 p.1
      | inr p ↦
          let r = and_both (d == 95) (not due && power true t) (not due && power true (t ++ c ∷ m)) p.0 p.1 in
          let s = and_both (not due) (power true t) (power true (t ++ c ∷ m)) r.0 r.1 in
          power_more true t c m s.0 s.1
    ]

exponent_more : (t : List ℕ) (c : ℕ) (m : List ℕ) → exponent t ≡ true → exponent (t ++ c ∷ m) ≡ true → is_part c ≡ true
unfolding exponent
exponent_more [] c m h k = absurd (true≢false (sym h))
exponent_more (d ∷ t) c m h k =
    elim (if_both (is_either 43 45 d) (power true t) (is_digit d && power false t) (power true (t ++ c ∷ m)) (is_digit d && power false (t ++ c ∷ m)) h k) [
      | inl p ↦ power_more true t c m p.0 p.1
      | inr p ↦ let r = and_both (is_digit d) (power false t) (power false (t ++ c ∷ m)) p.0 p.1 in power_more false t c m r.0 r.1
    ]

fraction_more : (joins due : Bool) (t : List ℕ) (c : ℕ) (m : List ℕ) → fraction joins due t ≡ true → fraction joins due (t ++ c ∷ m) ≡ true → is_part c ≡ true
unfolding fraction
fraction_more joins due [] c m h k =
    elim (if_either (is_digit c) (fraction true false m) _ k) [
      | inl p ↦ digit_part c p.0
      | inr p ↦ elim (if_either (is_either 101 69 c) (not due && exponent m) ((c == 95) && (joins && fraction false true m)) p) [
        | inl q ↦ either_part 101 69 c part_101 part_69 q.0
        | inr q ↦ same_part 95 c part_95 (and_parts (c == 95) (joins && fraction false true m) q).0
      ]
    ]
fraction_more joins due (d ∷ t) c m h k =
    elim (if_both (is_digit d) (fraction true false t) _ (fraction true false (t ++ c ∷ m)) _ h k) [
      | inl p ↦ fraction_more true false t c m p.0 p.1
      | inr p ↦ elim (if_both (is_either 101 69 d) (not due && exponent t) ((d == 95) && (joins && fraction false true t)) (not due && exponent (t ++ c ∷ m)) ((d == 95) && (joins && fraction false true (t ++ c ∷ m))) p.0 p.1) [
        | inl q ↦ let r = and_both (not due) (exponent t) (exponent (t ++ c ∷ m)) q.0 q.1 in exponent_more t c m r.0 r.1
        | inr q ↦
            let r = and_both (d == 95) (joins && fraction false true t) (joins && fraction false true (t ++ c ∷ m)) q.0 q.1 in
            let s = and_both joins (fraction false true t) (fraction false true (t ++ c ∷ m)) r.0 r.1 in
            fraction_more false true t c m s.0 s.1
      ]
    ]

radix_more : (among : ℕ → Bool) (each : (c : ℕ) → among c ≡ true → is_part c ≡ true) (due : Bool) (t : List ℕ) (c : ℕ) (m : List ℕ) → radix among due t ≡ true → radix among due (t ++ c ∷ m) ≡ true → is_part c ≡ true
unfolding radix
radix_more among each due [] c m h k =
    elim (if_either (among c) (radix among false m) _ k) [
      | inl p ↦ each c p.0
      | inr p ↦ elim (if_either (c == 95) (not due && radix among true m) ((c == 110) && (not due && is_empty m)) p) [
        | inl q ↦ same_part 95 c part_95 q.0
        | inr q ↦ same_part 110 c part_110 (and_parts (c == 110) (not due && is_empty m) q).0
      ]
    ]
radix_more among each due (d ∷ t) c m h k =
    elim (if_both (among d) (radix among false t) _ (radix among false (t ++ c ∷ m)) _ h k) [
      | inl p ↦ radix_more among each false t c m p.0 p.1
      | inr p ↦ elim (if_both (d == 95) (not due && radix among true t) ((d == 110) && (not due && is_empty t)) (not due && radix among true (t ++ c ∷ m)) ((d == 110) && (not due && is_empty (t ++ c ∷ m))) p.0 p.1) [
        | inl q ↦ let r = and_both (not due) (radix among true t) (radix among true (t ++ c ∷ m)) q.0 q.1 in radix_more among each true t c m r.0 r.1
        | inr q ↦ absurd (empty_more t c m (and_parts (not due) (is_empty (t ++ c ∷ m)) (and_parts (d == 110) (not due && is_empty (t ++ c ∷ m)) q.1).1).1)
      ]
    ]

-- what goes on after a number is a name character, or a dot that a dot alone could be
abbrev Goes : ℕ → Type 0 → Type 0
Goes c P = (is_part c ≡ true) ⊎ ((c ≡ 46) × P)

goes_map : (c : ℕ) (P Q : Type 0) → (P → Q) → Goes c P → Goes c Q
goes_map c P Q f (inl h) = inl h
goes_map c P Q f (inr h) = inr (h.0, f h.1)

integer_more : (due : Bool) (t : List ℕ) (c : ℕ) (m : List ℕ) → integer due t ≡ true → integer due (t ++ c ∷ m) ≡ true → Goes c (integer due (t ++ 46 ∷ []) ≡ true)
unfolding integer fraction is_digit is_either
integer_more due [] c m h k =
    elim (if_either (is_digit c) (integer false m) _ k) [
      | inl p ↦ inl (digit_part c p.0)
      | inr p ↦ elim (if_either (c == 95) (not due && integer true m) _ p) [
        | inl q ↦ inl (same_part 95 c part_95 q.0)
        | inr q ↦ elim (if_either (c == 46) (not due && fraction false false m) _ q) [
          | inl r ↦ inr (eqb-true c 46 r.0, and_from (not due) true h refl)
          | inr r ↦ elim (if_either (is_either 101 69 c) (not due && exponent m) ((c == 110) && (not due && is_empty m)) r) [
            | inl s ↦ inl (either_part 101 69 c part_101 part_69 s.0)
            | inr s ↦ inl (same_part 110 c part_110 (and_parts (c == 110) (not due && is_empty m) s).0)
          ]
        ]
      ]
    ]
integer_more due (d ∷ t) c m h k =
    elim (if_same (is_digit d) (integer false t) _ (integer false (t ++ c ∷ m)) _ h k) [
      | inl p ↦ goes_map c _ _ (then_so (is_digit d) (integer false (t ++ 46 ∷ [])) _ p.0) (integer_more false t c m p.1 p.2)
      | inr p ↦ elim (if_same (d == 95) (not due && integer true t) _ (not due && integer true (t ++ c ∷ m)) _ p.1 p.2) [
        | inl q ↦
            let r = and_parts (not due) (integer true t) q.1 in
            let s = and_parts (not due) (integer true (t ++ c ∷ m)) q.2 in
            goes_map c _ _ (λ z. else_so (is_digit d) _ _ p.0 (then_so (d == 95) _ _ q.0 (and_from (not due) (integer true (t ++ 46 ∷ [])) r.0 z))) (integer_more true t c m r.1 s.1)
        | inr q ↦ elim (if_both (d == 46) (not due && fraction false false t) _ (not due && fraction false false (t ++ c ∷ m)) _ q.1 q.2) [
          | inl r ↦ let s = and_both (not due) (fraction false false t) (fraction false false (t ++ c ∷ m)) r.0 r.1 in inl (fraction_more false false t c m s.0 s.1)
          | inr r ↦ elim (if_both (is_either 101 69 d) (not due && exponent t) ((d == 110) && (not due && is_empty t)) (not due && exponent (t ++ c ∷ m)) ((d == 110) && (not due && is_empty (t ++ c ∷ m))) r.0 r.1) [
            | inl s ↦ let z = and_both (not due) (exponent t) (exponent (t ++ c ∷ m)) s.0 s.1 in inl (exponent_more t c m z.0 z.1)
            | inr s ↦ absurd (empty_more t c m (and_parts (not due) (is_empty (t ++ c ∷ m)) (and_parts (d == 110) (not due && is_empty (t ++ c ∷ m)) s.1).1).1)
          ]
        ]
      ]
    ]

part_120 : is_part 120 ≡ true
unfolding is_part is_letter is_digit
part_120 = refl

part_88 : is_part 88 ≡ true
unfolding is_part is_letter is_digit
part_88 = refl

part_111 : is_part 111 ≡ true
unfolding is_part is_letter is_digit
part_111 = refl

part_79 : is_part 79 ≡ true
unfolding is_part is_letter is_digit
part_79 = refl

part_98 : is_part 98 ≡ true
unfolding is_part is_letter is_digit
part_98 = refl

part_66 : is_part 66 ≡ true
unfolding is_part is_letter is_digit
part_66 = refl

legacy_more : (octal : Bool) (t : List ℕ) (c : ℕ) (m : List ℕ) → legacy octal t ≡ true → legacy octal (t ++ c ∷ m) ≡ true → Goes c (legacy octal (t ++ 46 ∷ []) ≡ true)
unfolding legacy fraction is_digit is_either
legacy_more octal [] c m h k =
    elim (if_either (is_digit c) (legacy (octal && is_octal c) m) _ k) [
      | inl p ↦ inl (digit_part c p.0)
      | inr p ↦ elim (if_either (c == 46) (not octal && fraction false false m) (is_either 101 69 c && (not octal && exponent m)) p) [
        | inl q ↦ inr (eqb-true c 46 q.0, and_from (not octal) true (and_parts (not octal) (fraction false false m) q.1).0 refl)
        | inr q ↦ inl (either_part 101 69 c part_101 part_69 (and_parts (is_either 101 69 c) (not octal && exponent m) q).0)
      ]
    ]
legacy_more octal (d ∷ t) c m h k =
    elim (if_same (is_digit d) (legacy (octal && is_octal d) t) _ (legacy (octal && is_octal d) (t ++ c ∷ m)) _ h k) [
      | inl p ↦ goes_map c _ _ (then_so (is_digit d) (legacy (octal && is_octal d) (t ++ 46 ∷ [])) _ p.0) (legacy_more (octal && is_octal d) t c m p.1 p.2)
      | inr p ↦ elim (if_both (d == 46) (not octal && fraction false false t) (is_either 101 69 d && (not octal && exponent t)) (not octal && fraction false false (t ++ c ∷ m)) (is_either 101 69 d && (not octal && exponent (t ++ c ∷ m))) p.1 p.2) [
        | inl q ↦ let s = and_both (not octal) (fraction false false t) (fraction false false (t ++ c ∷ m)) q.0 q.1 in inl (fraction_more false false t c m s.0 s.1)
        | inr q ↦
            let r = and_both (is_either 101 69 d) (not octal && exponent t) (not octal && exponent (t ++ c ∷ m)) q.0 q.1 in
            let s = and_both (not octal) (exponent t) (exponent (t ++ c ∷ m)) r.0 r.1 in
            inl (exponent_more t c m s.0 s.1)
      ]
    ]

zero_more : (t : List ℕ) (c : ℕ) (m : List ℕ) → after_zero t ≡ true → after_zero (t ++ c ∷ m) ≡ true → Goes c (after_zero (t ++ 46 ∷ []) ≡ true)
unfolding after_zero fraction is_digit is_either
zero_more [] c m h k =
    elim (if_either (is_digit c) (legacy (is_octal c) m) _ k) [
      | inl p ↦ inl (digit_part c p.0)
      | inr p ↦ elim (if_either (c == 46) (fraction false false m) _ p) [
        | inl q ↦ inr (eqb-true c 46 q.0, refl)
        | inr q ↦ elim (if_either (is_either 101 69 c) (exponent m) _ q) [
          | inl r ↦ inl (either_part 101 69 c part_101 part_69 r.0)
          | inr r ↦ elim (if_either (is_either 120 88 c) (radix is_hex true m) _ r) [
            | inl s ↦ inl (either_part 120 88 c part_120 part_88 s.0)
            | inr s ↦ elim (if_either (is_either 111 79 c) (radix is_octal true m) _ s) [
              | inl u ↦ inl (either_part 111 79 c part_111 part_79 u.0)
              | inr u ↦ elim (if_either (is_either 98 66 c) (radix is_binary true m) ((c == 110) && is_empty m) u) [
                | inl v ↦ inl (either_part 98 66 c part_98 part_66 v.0)
                | inr v ↦ inl (same_part 110 c part_110 (and_parts (c == 110) (is_empty m) v).0)
              ]
            ]
          ]
        ]
      ]
    ]
zero_more (d ∷ t) c m h k =
    elim (if_same (is_digit d) (legacy (is_octal d) t) _ (legacy (is_octal d) (t ++ c ∷ m)) _ h k) [
      | inl p ↦ goes_map c _ _ (then_so (is_digit d) (legacy (is_octal d) (t ++ 46 ∷ [])) _ p.0) (legacy_more (is_octal d) t c m p.1 p.2)
      | inr p ↦ elim (if_both (d == 46) (fraction false false t) _ (fraction false false (t ++ c ∷ m)) _ p.1 p.2) [
        | inl q ↦ inl (fraction_more false false t c m q.0 q.1)
        | inr q ↦ elim (if_both (is_either 101 69 d) (exponent t) _ (exponent (t ++ c ∷ m)) _ q.0 q.1) [
          | inl r ↦ inl (exponent_more t c m r.0 r.1)
          | inr r ↦ elim (if_both (is_either 120 88 d) (radix is_hex true t) _ (radix is_hex true (t ++ c ∷ m)) _ r.0 r.1) [
            | inl s ↦ inl (radix_more is_hex hex_part true t c m s.0 s.1)
            | inr s ↦ elim (if_both (is_either 111 79 d) (radix is_octal true t) _ (radix is_octal true (t ++ c ∷ m)) _ s.0 s.1) [
              | inl u ↦ inl (radix_more is_octal octal_part true t c m u.0 u.1)
              | inr u ↦ elim (if_both (is_either 98 66 d) (radix is_binary true t) ((d == 110) && is_empty t) (radix is_binary true (t ++ c ∷ m)) ((d == 110) && is_empty (t ++ c ∷ m)) u.0 u.1) [
                | inl v ↦ inl (radix_more is_binary binary_part true t c m v.0 v.1)
                | inr v ↦ absurd (empty_more t c m (and_parts (d == 110) (is_empty (t ++ c ∷ m)) v.1).1)
              ]
            ]
          ]
        ]
      ]
    ]

-- what goes on after a numeric literal
pub number_more : (t : List ℕ) (c : ℕ) (m : List ℕ) → is_numeric t ≡ true → is_numeric (t ++ c ∷ m) ≡ true → (is_part c ≡ true) ⊎ ((c ≡ 46) × (takes_dot t ≡ true))
unfolding is_numeric takes_dot
number_more [] c m h k = absurd (true≢false (sym h))
number_more (d ∷ t) c m h k =
    elim (if_same (d == 48) (after_zero t) _ (after_zero (t ++ c ∷ m)) _ h k) [
      | inl p ↦ goes_map c _ _ (then_so (d == 48) (after_zero (t ++ 46 ∷ [])) _ p.0) (zero_more t c m p.1 p.2)
      | inr p ↦ elim (if_same (is_digit d) (integer false t) ((d == 46) && fraction false true t) (integer false (t ++ c ∷ m)) ((d == 46) && fraction false true (t ++ c ∷ m)) p.1 p.2) [
        | inl q ↦ goes_map c _ _ (λ z. else_so (d == 48) _ _ p.0 (then_so (is_digit d) (integer false (t ++ 46 ∷ [])) _ q.0 z)) (integer_more false t c m q.1 q.2)
        | inr q ↦ let r = and_both (d == 46) (fraction false true t) (fraction false true (t ++ c ∷ m)) q.1 q.2 in inl (fraction_more false true t c m r.0 r.1)
      ]
    ]

pub number_numeric : (t : List ℕ) → is_number t ≡ true → is_numeric t ≡ true
unfolding is_number
number_numeric t h = (and_parts (is_numeric t) (not (has_suffix t)) h).0

pub big_numeric : (t : List ℕ) → is_big_integer t ≡ true → is_numeric t ≡ true
unfolding is_big_integer
big_numeric t h = (and_parts (is_numeric t) (has_suffix t) h).0

-- a number begins with a digit, or with a dot before one
pub fraction_digit : (n : List ℕ) → fraction false true n ≡ true → begins_digit n ≡ true
unfolding fraction begins_digit
fraction_digit [] h = h
fraction_digit (c ∷ n) h =
    elim (if_either (is_digit c) (fraction true false n) _ h) [
      | inl p ↦ p.0
      | inr p ↦ elim (if_either (is_either 101 69 c) false ((c == 95) && false) p) [
        | inl q ↦ absurd (true≢false (sym q.1))
        | inr q ↦ absurd (true≢false (sym (and_parts (c == 95) false q).1))
      ]
    ]

pub number_head : (c : ℕ) (n : List ℕ) → is_numeric (c ∷ n) ≡ true → (is_digit c || ((c == 46) && begins_digit n)) ≡ true
unfolding is_numeric is_digit
number_head c n h =
    elim (if_either (c == 48) _ _ h) [
      | inl p ↦ or_left (is_digit c) _ (subst (λ z. is_digit z ≡ true) (sym (eqb-true c 48 p.0)) refl)
      | inr p ↦ elim (if_either (is_digit c) _ ((c == 46) && fraction false true n) p) [
        | inl q ↦ or_left (is_digit c) _ q.0
        | inr q ↦
            let r = and_parts (c == 46) (fraction false true n) q in
            or_right (is_digit c) _ (and_from (c == 46) (begins_digit n) r.0 (fraction_digit n r.1))
      ]
    ]

pub some_number : is_numeric [] ≡ true → ⊥
unfolding is_numeric
some_number h = true≢false (sym h)

lone_dot : is_numeric (46 ∷ []) ≡ false
unfolding is_numeric fraction is_digit
lone_dot = refl

-- a dot alone is no number
pub dot_number : (d : ℕ) (n : List ℕ) (c : ℕ) → is_numeric (d ∷ n) ≡ true → ((d == 46) && (is_empty n && is_digit c)) ≡ false
unfolding is_empty
dot_number d [] c h = false_from_ne_true _ (λ e. let z : is_numeric (46 ∷ []) ≡ true = subst (λ z. is_numeric (z ∷ []) ≡ true) (eqb-true d 46 (and_parts (d == 46) (is_digit c) e).0) h in true≢false (sym z ∙ lone_dot))
dot_number d (x ∷ n) c h = and_right (d == 46) _ refl
