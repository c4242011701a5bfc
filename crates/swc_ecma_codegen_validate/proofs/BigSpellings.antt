-- What spells a big integer.
use Rattle.std.proofs.Common.{◌≡◌, ℕ, Bool, true, false, not, ◌&&◌, ◌==◌, cond, List, [], ◌∷◌, drop, refl, sym, ap, ◌∙◌, inl, inr, arith, subst, codes}
use Rattle.std.proofs.lemmas.Bool.{cases_Bool, and_parts, true≢false, eqb-true, or_cases, or_from, and_from}
use Rattle.std.proofs.lemmas.Bool.Decides.{nat_tests}
use Rattle.std.proofs.lemmas.Grind.{common_steps}
use Rattle.std.specs.List.{list_all}
use Rattle.swc_ecma_codegen_tree.specs.declared.lits.Radix.{Radix}
use Rattle.swc_ecma_codegen_tree.specs.declared.lits.Radix.TheVariants.{Binary, Octal, Decimal, Hex}
use Rattle.swc_ecma_codegen_grammar.specs.Chars.{is_digit}
use Rattle.swc_ecma_codegen_grammar.specs.LitPhrases.{are_digits, has_no_leading_zero, is_digit_of, radix_number, spells_digits}
use Rattle.swc_ecma_codegen_grammar.specs.Numbers.{radix, integer, fraction, after_zero, is_numeric, is_big_integer, has_suffix, digits_in, big_digits, radix_of, is_either, is_hex, is_octal, is_binary}
use Rattle.swc_ecma_codegen_grammar.specs.Texts.{is_empty, is_same, begins}
use Rattle.swc_ecma_codegen_validate.specs.BigDigits.{follow, follow_prefix, is_prefix}

and_false : (b : Bool) → (b && false) ≡ false
and_false true = refl
and_false false = refl

-- a digit is neither `_` nor `n`
no_digit : (r : Radix) (c d : ℕ) → is_digit_of r d ≡ false → is_digit_of r c ≡ true → (c == d) ≡ false
no_digit r c d h k = elim (cases_Bool (c == d)) [
  | inl e ↦ absurd (true≢false (sym k ∙ ap (is_digit_of r) (eqb-true c d e) ∙ h))
  | inr e ↦ e
]

no_join : (r : Radix) → is_digit_of r 95 ≡ false
unfolding is_digit_of is_digit is_hex is_octal is_binary
no_join Binary = refl
no_join Octal = refl
no_join Decimal = refl
no_join Hex = refl

no_suffix : (r : Radix) → is_digit_of r 110 ≡ false
unfolding is_digit_of is_digit is_hex is_octal is_binary
no_suffix Binary = refl
no_suffix Octal = refl
no_suffix Decimal = refl
no_suffix Hex = refl

suffix_after : (c : ℕ) (cs : List ℕ) → (c == 110) ≡ false → has_suffix (c ∷ cs) ≡ has_suffix cs
unfolding has_suffix
suffix_after c [] h = h
suffix_after c (d ∷ cs) h = refl

-- what a spelling asks of the characters after its prefix
abbrev after_prefix : Radix → Bool → List ℕ → List ℕ → Bool
after_prefix r due cs ds = radix (is_digit_of r) due cs && (has_suffix cs && is_same (digits_in cs) ds)

first_same : (c : ℕ) (cs ds : List ℕ) → is_same (c ∷ cs) ds ≡ (begins (c ∷ []) ds && is_same cs (drop 1 ds))
unfolding is_same begins
first_same c cs [] = refl
first_same c cs (d ∷ ds) = ap (λ b. b && is_same cs ds) (one (c == d))
  where
    one : (b : Bool) → b ≡ (b && true)
    one true = refl
    one false = refl

swapped : (a b x y : Bool) → (a && (b && (x && y))) ≡ (x && (a && (b && y)))
swapped true true x y = refl
swapped true false true y = refl
swapped true false false y = refl
swapped false b true y = refl
swapped false b false y = refl

moved : (n a b : Bool) → ((n && a) && b) ≡ (n && (a && b))
moved true a b = refl
moved false a b = refl

by_digit : (r : Radix) (due : Bool) (c : ℕ) (cs ds : List ℕ) → is_digit_of r c ≡ true → after_prefix r due (c ∷ cs) ds ≡ (begins (c ∷ []) ds && after_prefix r false cs (drop 1 ds))
unfolding radix digits_in
by_digit r due c cs ds h =
    let join = no_digit r c 95 (no_join r) h in
    let last = no_digit r c 110 (no_suffix r) h in
    rw (h, join, last, suffix_after c cs last, first_same c (digits_in cs) ds) (swapped (radix (is_digit_of r) false cs) (has_suffix cs) (begins (c ∷ []) ds) (is_same (digits_in cs) (drop 1 ds)))

by_join : (r : Radix) (due : Bool) (c : ℕ) (cs ds : List ℕ) → is_digit_of r c ≡ false → (c == 95) ≡ true → after_prefix r due (c ∷ cs) ds ≡ (not due && after_prefix r true cs ds)
unfolding radix digits_in
by_join r due c cs ds h e =
    let last : (c == 110) ≡ false = ap (λ x. x == 110) (eqb-true c 95 e) in
    rw (h, e, suffix_after c cs last) (moved (not due) (radix (is_digit_of r) true cs) _)

last_same : (due : Bool) (cs ds : List ℕ) → ((not due && is_empty cs) && (has_suffix (110 ∷ cs) && is_same (digits_in cs) ds)) ≡ (not due && (is_empty cs && is_empty ds))
unfolding is_empty has_suffix is_same digits_in
last_same true cs ds = refl
last_same false [] [] = refl
last_same false [] (d ∷ ds) = refl
last_same false (c ∷ cs) ds = refl

by_last : (r : Radix) (due : Bool) (c : ℕ) (cs ds : List ℕ) → is_digit_of r c ≡ false → (c == 95) ≡ false → after_prefix r due (c ∷ cs) ds ≡ ((c == 110) && (not due && (is_empty cs && is_empty ds)))
unfolding radix digits_in
by_last r due c cs ds h e = elim (cases_Bool (c == 110)) [
  | inl last ↦ rw (h, eqb-true c 110 last) (last_same due cs ds)
  | inr last ↦ rw (h, e, last) refl
]

-- the reading of a spelling, character by character
pub follows : (r : Radix) (due : Bool) (cs ds : List ℕ) → after_prefix r due cs ds ≡ follow r due cs ds
unfolding radix has_suffix follow
follows r due [] ds = and_false (not due)
follows r due (c ∷ cs) ds = elim (cases_Bool (is_digit_of r c)) [
  | inl h ↦ by_digit r due c cs ds h ∙ rw h (ap (λ b. begins (c ∷ []) ds && b) (follows r false cs (drop 1 ds)))
  | inr h ↦ elim (cases_Bool (c == 95)) [
    | inl e ↦ by_join r due c cs ds h e ∙ rw (h, e) (ap (λ b. not due && b) (follows r true cs ds))
    | inr e ↦ by_last r due c cs ds h e ∙ rw (h, e) refl
  ]
]

-- ---- `0n`

pub zero_by_parts : (text : List ℕ) → is_same text (codes "0n") ≡ (begins (48 ∷ []) text && (begins (110 ∷ []) (drop 1 text) && is_empty (drop 1 (drop 1 text))))
unfolding is_same begins is_empty
zero_by_parts [] = refl
zero_by_parts (c ∷ []) = grind (arith, common_steps)
zero_by_parts (c ∷ d ∷ []) = grind (arith, common_steps)
zero_by_parts (c ∷ d ∷ e ∷ text) = grind (arith, common_steps)

-- ---- with a prefix

grouped : (z d e r h s : Bool) → ((cond z r (cond d false (e && false)) && h) && (true && s)) ≡ (z && (r && (h && s)))
grouped true d e true h s = refl
grouped true d e false h s = refl
grouped false true e r h s = refl
grouped false false true r h s = refl
grouped false false false r h s = refl

-- what the letter of a prefix makes of the rest
record IsLetter (r : Radix) (p : ℕ) : Type 0 where
  digits : (cs : List ℕ) → after_zero (p ∷ cs) ≡ radix (is_digit_of r) true cs
  whole : (cs : List ℕ) → integer false (p ∷ cs) ≡ false
  part : (cs : List ℕ) → fraction false true (p ∷ cs) ≡ false
  last : (p == 110) ≡ false
  number : (z : ℕ) (cs : List ℕ) → (radix_of (z ∷ p ∷ cs) == radix_number r) ≡ true
  rest : (z : ℕ) (cs : List ℕ) → big_digits (z ∷ p ∷ cs) ≡ digits_in cs

by_letter : (r : Radix) (z p : ℕ) (cs ds : List ℕ) → IsLetter r p → spells_digits r ds (z ∷ p ∷ cs) ≡ ((z == 48) && follow r true cs ds)
unfolding spells_digits is_big_integer is_numeric has_suffix
by_letter r z p cs ds l =
    rw (l.digits cs, l.whole cs, l.part cs, suffix_after p cs l.last, l.number z cs, l.rest z cs)
    (grouped (z == 48) (is_digit z) (z == 46) _ (has_suffix cs) (is_same (digits_in cs) ds) ∙ ap (λ b. (z == 48) && b) (follows r true cs ds))

letter_x : IsLetter Hex 120
unfolding after_zero integer fraction radix_of big_digits radix_number is_digit_of is_digit is_either
letter_x = record { digits = λ cs. refl; whole = λ cs. refl; part = λ cs. refl; last = refl; number = λ z cs. refl; rest = λ z cs. refl }

letter_X : IsLetter Hex 88
unfolding after_zero integer fraction radix_of big_digits radix_number is_digit_of is_digit is_either
letter_X = record { digits = λ cs. refl; whole = λ cs. refl; part = λ cs. refl; last = refl; number = λ z cs. refl; rest = λ z cs. refl }

letter_o : IsLetter Octal 111
unfolding after_zero integer fraction radix_of big_digits radix_number is_digit_of is_digit is_either
letter_o = record { digits = λ cs. refl; whole = λ cs. refl; part = λ cs. refl; last = refl; number = λ z cs. refl; rest = λ z cs. refl }

letter_O : IsLetter Octal 79
unfolding after_zero integer fraction radix_of big_digits radix_number is_digit_of is_digit is_either
letter_O = record { digits = λ cs. refl; whole = λ cs. refl; part = λ cs. refl; last = refl; number = λ z cs. refl; rest = λ z cs. refl }

letter_b : IsLetter Binary 98
unfolding after_zero integer fraction radix_of big_digits radix_number is_digit_of is_digit is_either
letter_b = record { digits = λ cs. refl; whole = λ cs. refl; part = λ cs. refl; last = refl; number = λ z cs. refl; rest = λ z cs. refl }

letter_B : IsLetter Binary 66
unfolding after_zero integer fraction radix_of big_digits radix_number is_digit_of is_digit is_either
letter_B = record { digits = λ cs. refl; whole = λ cs. refl; part = λ cs. refl; last = refl; number = λ z cs. refl; rest = λ z cs. refl }

either : (r : Radix) (a b p : ℕ) → IsLetter r a → IsLetter r b → is_either a b p ≡ true → IsLetter r p
unfolding is_either
either r a b p k l h = elim (or_cases (p == a) (p == b) h) [
  | inl e ↦ subst (IsLetter r) (sym (eqb-true p a e)) k
  | inr e ↦ subst (IsLetter r) (sym (eqb-true p b e)) l
]

letter : (r : Radix) (p : ℕ) → is_prefix r p ≡ true → IsLetter r p
unfolding is_prefix
letter Binary p h = either Binary 98 66 p letter_b letter_B h
letter Octal p h = either Octal 111 79 p letter_o letter_O h
letter Decimal p h = absurd (true≢false (sym h))
letter Hex p h = either Hex 120 88 p letter_x letter_X h

-- another radix has another number
other_radix : (r : Radix) (z p : ℕ) (cs : List ℕ) → (radix_number r == 10) ≡ false → is_prefix r p ≡ false → (radix_of (z ∷ p ∷ cs) == radix_number r) ≡ false
unfolding is_prefix radix_of radix_number
other_radix Binary z p cs n h = choice (is_either 120 88 p) (is_either 111 79 p) (is_either 98 66 p) h
  where
    choice : (a b c : Bool) → c ≡ false → (cond a 16 (cond b 8 (cond c 2 10)) == 2) ≡ false
    choice true b c e = refl
    choice false true c e = refl
    choice false false true e = absurd (true≢false e)
    choice false false false e = refl
other_radix Octal z p cs n h = choice (is_either 120 88 p) (is_either 111 79 p) (is_either 98 66 p) h
  where
    choice : (a b c : Bool) → b ≡ false → (cond a 16 (cond b 8 (cond c 2 10)) == 8) ≡ false
    choice true b c e = refl
    choice false true c e = absurd (true≢false e)
    choice false false true e = refl
    choice false false false e = refl
other_radix Decimal z p cs n h = absurd (true≢false n)
other_radix Hex z p cs n h = choice (is_either 120 88 p) (is_either 111 79 p) (is_either 98 66 p) h
  where
    choice : (a b c : Bool) → a ≡ false → (cond a 16 (cond b 8 (cond c 2 10)) == 16) ≡ false
    choice true b c e = absurd (true≢false e)
    choice false true c e = refl
    choice false false true e = refl
    choice false false false e = refl

short_radix : (r : Radix) → (radix_number r == 10) ≡ false → (10 == radix_number r) ≡ false
unfolding radix_number
short_radix Binary n = refl
short_radix Octal n = refl
short_radix Decimal n = n
short_radix Hex n = refl

-- what spells digits of a radix with a prefix
pub follows_prefix : (r : Radix) (ds text : List ℕ) → (radix_number r == 10) ≡ false → spells_digits r ds text ≡ follow_prefix r text ds
unfolding spells_digits is_big_integer is_numeric radix_of follow_prefix
follows_prefix r ds [] n = refl
follows_prefix r ds (z ∷ []) n = rw (short_radix r n) (and_false _)
follows_prefix r ds (z ∷ p ∷ cs) n = elim (cases_Bool (is_prefix r p)) [
  | inl h ↦ by_letter r z p cs ds (letter r p h) ∙ rw h refl
  | inr h ↦ rw (other_radix r z p cs n h, h, and_false (is_big_integer (z ∷ p ∷ cs))) (sym (and_false (z == 48)))
]

-- ---- in decimal

same_tests : (a b : Bool) → (a ≡ true → b ≡ true) → (b ≡ true → a ≡ true) → a ≡ b
same_tests true b h k = sym (h refl)
same_tests false true h k = absurd (true≢false (sym (k refl)))
same_tests false false h k = refl

-- what is none of these digits doesn't come first
first_digit : (c : ℕ) (cs ds : List ℕ) → list_all is_digit ds ≡ true → is_same (c ∷ cs) ds ≡ true → is_digit c ≡ true
unfolding is_same
first_digit c cs [] a e = absurd (true≢false (sym e))
first_digit c cs (d ∷ ds) a e = ap is_digit (eqb-true c d (and_parts (c == d) _ e).0) ∙ (and_parts (is_digit d) _ a).0

other_digits : (c : ℕ) (cs ds : List ℕ) → list_all is_digit ds ≡ true → is_same (c ∷ cs) ds ≡ true → list_all is_digit (drop 1 ds) ≡ true × (is_same cs (drop 1 ds) ≡ true)
unfolding is_same
other_digits c cs [] a e = absurd (true≢false (sym e))
other_digits c cs (d ∷ ds) a e = ((and_parts (is_digit d) _ a).1, (and_parts (c == d) _ e).1)

digit_kept : (c : ℕ) (cs : List ℕ) → (c == 95) ≡ false → (c == 110) ≡ false → digits_in (c ∷ cs) ≡ c ∷ digits_in cs
unfolding digits_in
digit_kept c cs h k = rw (h, k) refl

plain_digit : (c d : ℕ) → is_digit d ≡ false → is_digit c ≡ true → (c == d) ≡ false
unfolding is_digit_of
plain_digit c d h k = no_digit Decimal c d h k

suffix_digits : (due : Bool) (c : ℕ) (cs : List ℕ) → c ≡ 110 → integer due (c ∷ cs) ≡ radix is_digit due (c ∷ cs)
unfolding integer radix is_digit is_either
suffix_digits due c cs l = subst (λ (x : ℕ). integer due (x ∷ cs) ≡ radix is_digit due (x ∷ cs)) (sym l) refl

-- an integer of these digits and a suffix has no dot and no exponent
integer_radix : (due : Bool) (cs ds : List ℕ) → list_all is_digit ds ≡ true → is_same (digits_in cs) ds ≡ true → integer due cs ≡ true → radix is_digit due cs ≡ true
unfolding integer radix digits_in is_digit is_either
integer_radix due [] ds a e h = h
integer_radix due (c ∷ cs) ds a e h = elim (cases_Bool (is_digit c)) [
  | inl k ↦
      let f = rw (digit_kept c cs (plain_digit c 95 refl k) (plain_digit c 110 refl k)) at e in
      let p = other_digits c (digits_in cs) ds a f in
      let g = rw k at h in
      rw k (integer_radix false cs (drop 1 ds) p.0 p.1 g)
  | inr k ↦ elim (cases_Bool (c == 95)) [
    | inl j ↦
        let g = and_parts (not due) (integer true cs) (rw (k, j) at h) in
        rw (k, j) (and_from (not due) _ g.0 (integer_radix true cs ds a (rw j at e) g.1))
    | inr j ↦ elim (cases_Bool (c == 110)) [
      | inl l ↦ sym (suffix_digits due c cs (eqb-true c 110 l)) ∙ h
      | inr l ↦ absurd (true≢false (sym (first_digit c (digits_in cs) ds a (rw (digit_kept c cs j l) at e)) ∙ k))
    ]
  ]
]

radix_integer : (due : Bool) (cs : List ℕ) → radix is_digit due cs ≡ true → integer due cs ≡ true
unfolding integer radix
radix_integer due [] h = h
radix_integer due (c ∷ cs) h = elim (cases_Bool (is_digit c)) [
  | inl k ↦ rw k (radix_integer false cs (rw k at h))
  | inr k ↦ elim (cases_Bool (c == 95)) [
    | inl j ↦ let g = and_parts (not due) (radix is_digit true cs) (rw (k, j) at h) in rw (k, j) (and_from (not due) _ g.0 (radix_integer true cs g.1))
    | inr j ↦ suffix_digits due c cs (eqb-true c 110 (and_parts (c == 110) _ (rw (k, j) at h)).0) ∙ h
  ]
]

plain_letter : (a b c : ℕ) → is_digit a ≡ false → is_digit b ≡ false → is_digit c ≡ true → is_either a b c ≡ false
unfolding is_either
plain_letter a b c h k l = or_from (c == a) (c == b) (plain_digit c a h l) (plain_digit c b k l)

letterless : (c : ℕ) (cs : List ℕ) → radix is_digit false cs ≡ true → (radix_of (c ∷ cs) == 10) ≡ true
unfolding radix radix_of is_digit is_either
letterless c [] h = refl
letterless c (d ∷ cs) h = elim (cases_Bool (is_digit d)) [
  | inl k ↦ rw (plain_letter 120 88 d refl refl k, plain_letter 111 79 d refl refl k, plain_letter 98 66 d refl refl k) refl
  | inr k ↦ elim (cases_Bool (d == 95)) [
    | inl j ↦ subst (λ (x : ℕ). (radix_of (c ∷ x ∷ cs) == 10) ≡ true) (sym (eqb-true d 95 j)) refl
    | inr j ↦ subst (λ (x : ℕ). (radix_of (c ∷ x ∷ cs) == 10) ≡ true) (sym (eqb-true d 110 (and_parts (d == 110) _ (rw (k, j) at h)).0)) refl
  ]
]

-- a number that has these digits and a suffix, the first not zero, is a decimal integer
numeric_radix : (d : ℕ) (ds text : List ℕ) → (d == 48) ≡ false → list_all is_digit (d ∷ ds) ≡ true → is_same (digits_in text) (d ∷ ds) ≡ true → is_numeric text ≡ true → radix is_digit true text ≡ true
unfolding is_numeric radix is_digit digits_in is_same
numeric_radix d ds [] z a e h = absurd (true≢false (sym h))
numeric_radix d ds (c ∷ cs) z a e h = elim (cases_Bool (is_digit c)) [
  | inl k ↦
      let f = rw (digit_kept c cs (plain_digit c 95 refl k) (plain_digit c 110 refl k)) at e in
      let p = and_parts (c == d) (is_same (digits_in cs) ds) f in
      let some : (c == 48) ≡ false = ap (λ x. x == 48) (eqb-true c d p.0) ∙ z in
      rw k (integer_radix false cs ds (and_parts (is_digit d) _ a).1 p.1 (rw (some, k) at h))
  | inr k ↦
      let nought : (c == 48) ≡ false = other_digit c 48 refl k in
      let dot = and_parts (c == 46) _ (rw (nought, k) at h) in
      let f : is_same (46 ∷ digits_in cs) (d ∷ ds) ≡ true = subst (λ (x : ℕ). is_same (digits_in (x ∷ cs)) (d ∷ ds) ≡ true) (eqb-true c 46 dot.0) e in
      absurd (true≢false (sym (first_digit 46 (digits_in cs) (d ∷ ds) a f)))
]
  where
    other_digit : (x y : ℕ) → is_digit y ≡ true → is_digit x ≡ false → (x == y) ≡ false
    other_digit x y m n = elim (cases_Bool (x == y)) [ inl j ↦ absurd (true≢false (sym m ∙ (ap is_digit (sym (eqb-true x y j)) ∙ n))) | inr j ↦ j ]

record IsDecimal (text : List ℕ) : Type 0 where
  numeric : is_numeric text ≡ true
  number : (radix_of text == 10) ≡ true

radix_numeric : (d : ℕ) (ds text : List ℕ) → (d == 48) ≡ false → is_same (digits_in text) (d ∷ ds) ≡ true → radix is_digit true text ≡ true → IsDecimal text
unfolding is_numeric radix digits_in is_same is_digit
radix_numeric d ds [] z e h = absurd (true≢false (sym h))
radix_numeric d ds (c ∷ cs) z e h = elim (cases_Bool (is_digit c)) [
  | inl k ↦
      let f = rw (digit_kept c cs (plain_digit c 95 refl k) (plain_digit c 110 refl k)) at e in
      let p = and_parts (c == d) (is_same (digits_in cs) ds) f in
      let some : (c == 48) ≡ false = ap (λ x. x == 48) (eqb-true c d p.0) ∙ z in
      let g = rw k at h in
      record { numeric = rw (some, k) (radix_integer false cs g); number = letterless c cs g }
  | inr k ↦ absurd (never (c == 95) (c == 110) (rw k at h))
]
  where
    never : (j l : Bool) → (cond j false (l && false)) ≡ true → ⊥
    never true l m = true≢false (sym m)
    never false true m = true≢false (sym m)
    never false false m = true≢false (sym m)

decimal_there : (d : ℕ) (ds text : List ℕ) → (d == 48) ≡ false → list_all is_digit (d ∷ ds) ≡ true → spells_digits Decimal (d ∷ ds) text ≡ true → after_prefix Decimal true text (d ∷ ds) ≡ true
unfolding spells_digits is_big_integer big_digits radix_number is_digit_of
decimal_there d ds text z a h =
    let p = and_parts (is_numeric text && has_suffix text) _ h in
    let q = and_parts (is_numeric text) _ p.0 in
    let n = and_parts (radix_of text == 10) _ p.1 in
    let e : is_same (digits_in text) (d ∷ ds) ≡ true = rw n.0 at n.1 in
    and_from _ _ (numeric_radix d ds text z a e q.0) (and_from _ _ q.1 e)

decimal_back : (d : ℕ) (ds text : List ℕ) → (d == 48) ≡ false → after_prefix Decimal true text (d ∷ ds) ≡ true → spells_digits Decimal (d ∷ ds) text ≡ true
unfolding spells_digits is_big_integer big_digits radix_number is_digit_of
decimal_back d ds text z h =
    let p = and_parts (radix is_digit true text) _ h in
    let q = and_parts (has_suffix text) _ p.1 in
    let n = radix_numeric d ds text z q.1 p.0 in
    and_from _ _ (and_from _ _ n.numeric q.0) (and_from _ _ n.number (rw n.number q.1))

-- what spells decimal digits, the first not zero
follows_decimal : (d : ℕ) (ds text : List ℕ) → (d == 48) ≡ false → list_all is_digit (d ∷ ds) ≡ true → spells_digits Decimal (d ∷ ds) text ≡ follow Decimal true text (d ∷ ds)
follows_decimal d ds text z a = same_tests _ _ (decimal_there d ds text z a) (decimal_back d ds text z) ∙ follows Decimal true text (d ∷ ds)

-- ---- `0n`

none : (t : List ℕ) → is_empty t ≡ true → is_same t [] ≡ true
unfolding is_empty is_same
none [] m = refl
none (x ∷ t) m = m

zero_only : (cs : List ℕ) → after_zero cs ≡ true → has_suffix (48 ∷ cs) ≡ true → is_same (digits_in cs) [] ≡ true → is_same cs (110 ∷ []) ≡ true
unfolding after_zero has_suffix digits_in is_same is_digit is_either
zero_only [] h k e = absurd (true≢false (sym k))
zero_only (c ∷ cs) h k e = elim (cases_Bool (c == 95)) [
  | inl j ↦ absurd (true≢false (sym (subst (λ (x : ℕ). after_zero (x ∷ cs) ≡ true) (eqb-true c 95 j) h)))
  | inr j ↦ elim (cases_Bool (c == 110)) [
    | inl l ↦ rw l (none cs (subst (λ (x : ℕ). after_zero (x ∷ cs) ≡ true) (eqb-true c 110 l) h))
    | inr l ↦ absurd (true≢false (sym (rw (j, l) at e)))
  ]
]

-- no other number has the one digit `0`
digit_zero : (x : ℕ) (t : List ℕ) → is_digit x ≡ true → is_same (digits_in (x ∷ t)) (48 ∷ []) ≡ true → (x == 48) ≡ true
unfolding is_same is_digit
digit_zero x t k e = (and_parts (x == 48) _ (rw (digit_kept x t (plain_digit x 95 refl k) (plain_digit x 110 refl k)) at e)).0

dot_zero : (x : ℕ) (t : List ℕ) → (x == 46) ≡ true → is_same (digits_in (x ∷ t)) (48 ∷ []) ≡ true → ⊥
unfolding is_same digits_in
dot_zero x t k e = true≢false (sym (subst (λ (y : ℕ). is_same (digits_in (y ∷ t)) (48 ∷ []) ≡ true) (eqb-true x 46 k) e))

zero_there : (text : List ℕ) → is_numeric text ≡ true → has_suffix text ≡ true → is_same (digits_in text) (48 ∷ []) ≡ true → is_same text (codes "0n") ≡ true
unfolding is_numeric digits_in is_same
zero_there [] h k e = absurd (true≢false (sym h))
zero_there (c ∷ cs) h k e = elim (cases_Bool (c == 48)) [
  | inl j ↦
      let zero = eqb-true c 48 j in
      let e0 : is_same (digits_in (48 ∷ cs)) (48 ∷ []) ≡ true = subst (λ (x : ℕ). is_same (digits_in (x ∷ cs)) (48 ∷ []) ≡ true) zero e in
      let k0 : has_suffix (48 ∷ cs) ≡ true = subst (λ (x : ℕ). has_suffix (x ∷ cs) ≡ true) zero k in
      rw j (zero_only cs (rw j at h) k0 e0)
  | inr j ↦ elim (cases_Bool (is_digit c)) [
    | inl d ↦ absurd (true≢false (sym (digit_zero c cs d e) ∙ j))
    | inr d ↦ absurd (dot_zero c cs (and_parts (c == 46) _ (rw (j, d) at h)).0 e)
  ]
]

-- a text is another
is_text : (s t : List ℕ) → is_same s t ≡ true → s ≡ t
unfolding is_same
is_text [] [] h = refl
is_text [] (d ∷ t) h = absurd (true≢false (sym h))
is_text (c ∷ s) [] h = absurd (true≢false (sym h))
is_text (c ∷ s) (d ∷ t) h = let p = and_parts (c == d) (is_same s t) h in ap (λ x. x ∷ s) (eqb-true c d p.0) ∙ ap (λ x. d ∷ x) (is_text s t p.1)

zero_first : (text : List ℕ) → spells_digits Decimal (48 ∷ []) text ≡ true → is_same text (codes "0n") ≡ true
unfolding spells_digits is_big_integer big_digits radix_number
zero_first text h =
    let p = and_parts (is_numeric text && has_suffix text) _ h in
    let q = and_parts (is_numeric text) _ p.0 in
    let n = and_parts (radix_of text == 10) _ p.1 in
    zero_there text q.0 q.1 (rw n.0 at n.1)

zero_spelled : spells_digits Decimal (48 ∷ []) (codes "0n") ≡ true
unfolding spells_digits is_big_integer big_digits radix_number is_numeric after_zero has_suffix radix_of digits_in is_same is_empty is_digit is_either
zero_spelled = refl

zero_spells : (text : List ℕ) → spells_digits Decimal (48 ∷ []) text ≡ is_same text (codes "0n")
zero_spells text = same_tests _ _ (zero_first text) (λ h. ap (spells_digits Decimal (48 ∷ [])) (is_text text (codes "0n") h) ∙ zero_spelled)

-- ---- any digits

-- decimal digits that begin with a zero are `0`
pub spells_zero : (r : Radix) (ds text : List ℕ) → r ≡ Decimal → are_digits r ds ≡ true → begins (48 ∷ []) ds ≡ true → spells_digits r ds text ≡ is_same text (codes "0n")
unfolding are_digits has_no_leading_zero begins is_empty is_digit_of
spells_zero r [] text e a z = absurd (true≢false (sym z))
spells_zero r (d ∷ ds) text e a z =
    let zero = eqb-true 48 d (and_parts (48 == d) true z).0 in
    let b : are_digits Decimal (48 ∷ ds) ≡ true = subst (λ (x : ℕ). are_digits Decimal (x ∷ ds) ≡ true) (sym zero) (subst (λ (x : Radix). are_digits x (d ∷ ds) ≡ true) e a) in
    let one = no_more ds (and_parts (list_all is_digit (48 ∷ ds)) _ b).1 in
    rw (e, ← zero, one) (zero_spells text)
  where
    no_more : (xs : List ℕ) → is_empty xs ≡ true → xs ≡ []
    no_more [] h = refl
    no_more (x ∷ xs) h = absurd (true≢false (sym h))

pub follows_digits : (r : Radix) (ds text : List ℕ) → r ≡ Decimal → are_digits r ds ≡ true → begins (48 ∷ []) ds ≡ false → spells_digits r ds text ≡ follow r true text ds
unfolding are_digits begins is_empty is_digit_of
follows_digits r [] text e a z = absurd (true≢false (sym (subst (λ (x : Radix). are_digits x [] ≡ true) e a)))
follows_digits r (d ∷ ds) text e a z =
    let b : are_digits Decimal (d ∷ ds) ≡ true = subst (λ (x : Radix). are_digits x (d ∷ ds) ≡ true) e a in
    rw e (follows_decimal d ds text (grind (arith, nat_tests)) (and_parts (list_all is_digit (d ∷ ds)) _ b).0)

pub spells_with_prefix : (r : Radix) (ds text : List ℕ) → (r ≡ Decimal → ⊥) → spells_digits r ds text ≡ follow_prefix r text ds
unfolding radix_number
spells_with_prefix Binary ds text h = follows_prefix Binary ds text refl
spells_with_prefix Octal ds text h = follows_prefix Octal ds text refl
spells_with_prefix Decimal ds text h = absurd (h refl)
spells_with_prefix Hex ds text h = follows_prefix Hex ds text refl
