-- A number without `_` is a number.
use Rattle.std.proofs.Common.{Bool, List, [], ap, cond, false, inl, inr, not, refl, sym, true, ℕ, ◌&&◌, ◌==◌, ◌∙◌, ◌∷◌, ◌≡◌, ◌⊎◌}
use Rattle.std.proofs.lemmas.Bool.{and_from, and_parts, false≢true, ne_eqb}
use Rattle.swc_ecma_codegen_grammar.specs.Chars.{is_digit}
use Rattle.swc_ecma_codegen_grammar.specs.Texts.{is_empty}
use Rattle.swc_ecma_codegen_grammar.specs.Numbers.{after_zero, exponent, fraction, integer, is_binary, is_either, is_hex, is_numeric, is_octal, legacy, power, radix}
use Rattle.swc_ecma_codegen_literals.specs.Separators.{without_underscores}
use Rattle.swc_ecma_codegen_grammar.proofs.Conditions.{else_so, then_so}

-- ---- a text by its first character

pub kept : (c : ℕ) (cs : List ℕ) → (c == 95) ≡ false → without_underscores (c ∷ cs) ≡ c ∷ without_underscores cs
kept c cs h = ap (λ b. cond (not b) (c ∷ without_underscores cs) (without_underscores cs)) h

pub dropped : (c : ℕ) (cs : List ℕ) → (c == 95) ≡ true → without_underscores (c ∷ cs) ≡ without_underscores cs
dropped c cs h = ap (λ b. cond (not b) (c ∷ without_underscores cs) (without_underscores cs)) h

-- a character of which a test holds that `_` fails: it stays
pub none_such : (p : ℕ → Bool) (c : ℕ) → p 95 ≡ false → p c ≡ true → (c == 95) ≡ false
none_such p c n h = ne_eqb c 95 (λ e. false≢true (sym n ∙ (ap p (sym e) ∙ h)))

pub digit_stays : (c : ℕ) → is_digit c ≡ true → (c == 95) ≡ false
unfolding is_digit
digit_stays c h = none_such is_digit c refl h

pub either_stays : (a b c : ℕ) → is_either a b 95 ≡ false → is_either a b c ≡ true → (c == 95) ≡ false
either_stays a b c n h = none_such (is_either a b) c n h

pub one_stays : (a c : ℕ) → (95 == a) ≡ false → (c == a) ≡ true → (c == 95) ≡ false
one_stays a c n h = none_such (λ x. x == a) c n h

-- a choice by one test, with the test
pub if_cases : (b x y : Bool) → cond b x y ≡ true → ((b ≡ true) × (x ≡ true)) ⊎ ((b ≡ false) × (y ≡ true))
if_cases true x y h = inl (refl, h)
if_cases false x y h = inr (refl, h)

-- ---- a text that ends with `_`

unfoldable pub ends_in_underscore : List ℕ → Bool
ends_in_underscore [] = false
ends_in_underscore (c ∷ []) = c == 95
ends_in_underscore (c ∷ d ∷ cs) = ends_in_underscore (d ∷ cs)

end_step : (c : ℕ) (cs : List ℕ) → (c == 95) ≡ false → ends_in_underscore cs ≡ false → ends_in_underscore (c ∷ cs) ≡ false
unfolding ends_in_underscore
end_step c [] h k = h
end_step c (d ∷ cs) h k = k

-- after `_` there is more, where a test that the empty text fails holds of it
end_due : (f : List ℕ → Bool) (c : ℕ) (cs : List ℕ) → f [] ≡ false → f cs ≡ true → ends_in_underscore cs ≡ false → ends_in_underscore (c ∷ cs) ≡ false
unfolding ends_in_underscore
end_due f c [] n h k = absurd (false≢true (sym n ∙ h))
end_due f c (d ∷ cs) n h k = k

-- ---- each part of a number: without `_` it passes the same test, and `_` doesn't stand at its end

pub record Stays (test : List ℕ → Bool) (t : List ℕ) : Type 0 where
  pub shape : test (without_underscores t) ≡ true
  pub end : ends_in_underscore t ≡ false

stays_nil : (test : List ℕ → Bool) → test [] ≡ true → Stays test []
unfolding ends_in_underscore
stays_nil test h = record { shape = h; end = refl }

-- a character that stays, and then what a test says of the rest
stays_on : (test later : List ℕ → Bool) (c : ℕ) (cs : List ℕ) → (c == 95) ≡ false → (later (without_underscores cs) ≡ true → test (c ∷ without_underscores cs) ≡ true) → Stays later cs → Stays test (c ∷ cs)
stays_on test later c cs n f s = record { shape = ap test (kept c cs n) ∙ f s.shape; end = end_step c cs n s.end }

-- `_`, after which more must come
stays_joined : (test later : List ℕ → Bool) (c : ℕ) (cs : List ℕ) → (c == 95) ≡ true → later [] ≡ false → later cs ≡ true → (later (without_underscores cs) ≡ true → test (without_underscores cs) ≡ true) → Stays later cs → Stays test (c ∷ cs)
stays_joined test later c cs e n h f s = record { shape = ap test (dropped c cs e) ∙ f s.shape; end = end_due later c cs n h s.end }

-- the digits of an exponent
power_lower : (due : Bool) (t : List ℕ) → power true t ≡ true → power due t ≡ true
unfolding power
power_lower true t h = h
power_lower false [] h = refl
power_lower false (c ∷ cs) h = elim (if_cases (is_digit c) (power false cs) ((c == 95) && false) h) [
  | inl p ↦ then_so (is_digit c) (power false cs) _ p.0 p.1
  | inr p ↦ absurd (false≢true (and_parts (c == 95) false p.1).1)
]

power_stays : (due : Bool) (t : List ℕ) → power due t ≡ true → Stays (power due) t
unfolding power
power_stays due [] h = stays_nil (power due) h
power_stays due (c ∷ cs) h = elim (if_cases (is_digit c) (power false cs) ((c == 95) && (not due && power true cs)) h) [
  | inl p ↦ stays_on (power due) (power false) c cs (digit_stays c p.0) (then_so (is_digit c) (power false (without_underscores cs)) _ p.0) (power_stays false cs p.1)
  | inr p ↦
      let q = and_parts (c == 95) (not due && power true cs) p.1 in
      let r = and_parts (not due) (power true cs) q.1 in
      stays_joined (power due) (power true) c cs q.0 refl r.1 (power_lower due (without_underscores cs)) (power_stays true cs r.1)
]

exponent_stays : (t : List ℕ) → exponent t ≡ true → Stays exponent t
unfolding exponent is_either
exponent_stays [] h = absurd (false≢true h)
exponent_stays (c ∷ cs) h = elim (if_cases (is_either 43 45 c) (power true cs) (is_digit c && power false cs) h) [
  | inl p ↦ stays_on exponent (power true) c cs (either_stays 43 45 c refl p.0) (then_so (is_either 43 45 c) (power true (without_underscores cs)) _ p.0) (power_stays true cs p.1)
  | inr p ↦
      let q = and_parts (is_digit c) (power false cs) p.1 in
      stays_on exponent (power false) c cs (digit_stays c q.0) (λ s. else_so (is_either 43 45 c) _ _ p.0 (and_from (is_digit c) (power false (without_underscores cs)) q.0 s)) (power_stays false cs q.1)
]

-- a fraction
fraction_lower : (joins due : Bool) (t : List ℕ) → fraction false true t ≡ true → fraction joins due t ≡ true
unfolding fraction
fraction_lower joins due [] h = absurd (false≢true h)
fraction_lower joins due (c ∷ cs) h = elim (if_cases (is_digit c) (fraction true false cs) _ h) [
  | inl p ↦ then_so (is_digit c) (fraction true false cs) _ p.0 p.1
  | inr p ↦ elim (if_cases (is_either 101 69 c) false ((c == 95) && false) p.1) [
    | inl q ↦ absurd (false≢true q.1)
    | inr q ↦ absurd (false≢true (and_parts (c == 95) false q.1).1)
  ]
]

fraction_stays : (joins due : Bool) (t : List ℕ) → fraction joins due t ≡ true → Stays (fraction joins due) t
unfolding fraction is_either
fraction_stays joins due [] h = stays_nil (fraction joins due) h
fraction_stays joins due (c ∷ cs) h = elim (if_cases (is_digit c) (fraction true false cs) _ h) [
  | inl p ↦ stays_on (fraction joins due) (fraction true false) c cs (digit_stays c p.0) (then_so (is_digit c) (fraction true false (without_underscores cs)) _ p.0) (fraction_stays true false cs p.1)
  | inr p ↦ elim (if_cases (is_either 101 69 c) (not due && exponent cs) ((c == 95) && (joins && fraction false true cs)) p.1) [
    | inl q ↦
        let r = and_parts (not due) (exponent cs) q.1 in
        stays_on (fraction joins due) exponent c cs (either_stays 101 69 c refl q.0) (λ s. else_so (is_digit c) _ _ p.0 (then_so (is_either 101 69 c) (not due && exponent (without_underscores cs)) _ q.0 (and_from (not due) (exponent (without_underscores cs)) r.0 s))) (exponent_stays cs r.1)
    | inr q ↦
        let r = and_parts (c == 95) (joins && fraction false true cs) q.1 in
        let s = and_parts joins (fraction false true cs) r.1 in
        stays_joined (fraction joins due) (fraction false true) c cs r.0 refl s.1 (fraction_lower joins due (without_underscores cs)) (fraction_stays false true cs s.1)
  ]
]

-- the suffix `n`, after which nothing comes
suffix_stays : (test : List ℕ → Bool) (c : ℕ) (cs : List ℕ) → (c == 110) ≡ true → is_empty cs ≡ true → (is_empty (without_underscores cs) ≡ true → test (c ∷ without_underscores cs) ≡ true) → Stays test (c ∷ cs)
unfolding is_empty
suffix_stays test c [] e h f = stays_on test is_empty c [] (one_stays 110 c refl e) f (stays_nil is_empty refl)
suffix_stays test c (d ∷ cs) e h f = absurd (false≢true h)

-- an integer
integer_lower : (due : Bool) (t : List ℕ) → integer true t ≡ true → integer due t ≡ true
unfolding integer
integer_lower true t h = h
integer_lower false [] h = refl
integer_lower false (c ∷ cs) h = elim (if_cases (is_digit c) (integer false cs) _ h) [
  | inl p ↦ then_so (is_digit c) (integer false cs) _ p.0 p.1
  | inr p ↦ elim (if_cases (c == 95) false _ p.1) [
    | inl q ↦ absurd (false≢true q.1)
    | inr q ↦ elim (if_cases (c == 46) false _ q.1) [
      | inl r ↦ absurd (false≢true r.1)
      | inr r ↦ elim (if_cases (is_either 101 69 c) false ((c == 110) && false) r.1) [
        | inl s ↦ absurd (false≢true s.1)
        | inr s ↦ absurd (false≢true (and_parts (c == 110) false s.1).1)
      ]
    ]
  ]
]

pub integer_stays : (due : Bool) (t : List ℕ) → integer due t ≡ true → Stays (integer due) t
unfolding integer is_either
integer_stays due [] h = stays_nil (integer due) h
integer_stays due (c ∷ cs) h = elim (if_cases (is_digit c) (integer false cs) _ h) [
  | inl p ↦ stays_on (integer due) (integer false) c cs (digit_stays c p.0) (then_so (is_digit c) (integer false (without_underscores cs)) _ p.0) (integer_stays false cs p.1)
  | inr p ↦ elim (if_cases (c == 95) (not due && integer true cs) _ p.1) [
    | inl q ↦
        let r = and_parts (not due) (integer true cs) q.1 in
        stays_joined (integer due) (integer true) c cs q.0 refl r.1 (integer_lower due (without_underscores cs)) (integer_stays true cs r.1)
    | inr q ↦ elim (if_cases (c == 46) (not due && fraction false false cs) _ q.1) [
      | inl r ↦
          let s = and_parts (not due) (fraction false false cs) r.1 in
          stays_on (integer due) (fraction false false) c cs q.0 (λ x. else_so (is_digit c) _ _ p.0 (else_so (c == 95) _ _ q.0 (then_so (c == 46) (not due && fraction false false (without_underscores cs)) _ r.0 (and_from (not due) (fraction false false (without_underscores cs)) s.0 x)))) (fraction_stays false false cs s.1)
      | inr r ↦ elim (if_cases (is_either 101 69 c) (not due && exponent cs) ((c == 110) && (not due && is_empty cs)) r.1) [
        | inl s ↦
            let u = and_parts (not due) (exponent cs) s.1 in
            stays_on (integer due) exponent c cs q.0 (λ x. else_so (is_digit c) _ _ p.0 (else_so (c == 95) _ _ q.0 (else_so (c == 46) _ _ r.0 (then_so (is_either 101 69 c) (not due && exponent (without_underscores cs)) _ s.0 (and_from (not due) (exponent (without_underscores cs)) u.0 x))))) (exponent_stays cs u.1)
        | inr s ↦
            let u = and_parts (c == 110) (not due && is_empty cs) s.1 in
            let v = and_parts (not due) (is_empty cs) u.1 in
            suffix_stays (integer due) c cs u.0 v.1 (λ x. else_so (is_digit c) _ _ p.0 (else_so (c == 95) _ _ q.0 (else_so (c == 46) _ _ r.0 (else_so (is_either 101 69 c) _ _ s.0 (and_from (c == 110) (not due && is_empty (without_underscores cs)) u.0 (and_from (not due) (is_empty (without_underscores cs)) v.0 x))))))
      ]
    ]
  ]
]

-- the digits after `0x`, `0o` or `0b`
radix_lower : (among : ℕ → Bool) (due : Bool) (t : List ℕ) → radix among true t ≡ true → radix among due t ≡ true
unfolding radix
radix_lower among true t h = h
radix_lower among false [] h = refl
radix_lower among false (c ∷ cs) h = elim (if_cases (among c) (radix among false cs) _ h) [
  | inl p ↦ then_so (among c) (radix among false cs) _ p.0 p.1
  | inr p ↦ elim (if_cases (c == 95) false ((c == 110) && false) p.1) [
    | inl q ↦ absurd (false≢true q.1)
    | inr q ↦ absurd (false≢true (and_parts (c == 110) false q.1).1)
  ]
]

radix_stays : (among : ℕ → Bool) (due : Bool) (t : List ℕ) → among 95 ≡ false → radix among due t ≡ true → Stays (radix among due) t
unfolding radix
radix_stays among due [] n h = stays_nil (radix among due) h
radix_stays among due (c ∷ cs) n h = elim (if_cases (among c) (radix among false cs) _ h) [
  | inl p ↦ stays_on (radix among due) (radix among false) c cs (none_such among c n p.0) (then_so (among c) (radix among false (without_underscores cs)) _ p.0) (radix_stays among false cs n p.1)
  | inr p ↦ elim (if_cases (c == 95) (not due && radix among true cs) ((c == 110) && (not due && is_empty cs)) p.1) [
    | inl q ↦
        let r = and_parts (not due) (radix among true cs) q.1 in
        stays_joined (radix among due) (radix among true) c cs q.0 refl r.1 (radix_lower among due (without_underscores cs)) (radix_stays among true cs n r.1)
    | inr q ↦
        let r = and_parts (c == 110) (not due && is_empty cs) q.1 in
        let s = and_parts (not due) (is_empty cs) r.1 in
        suffix_stays (radix among due) c cs r.0 s.1 (λ x. else_so (among c) _ _ p.0 (else_so (c == 95) _ _ q.0 (and_from (c == 110) (not due && is_empty (without_underscores cs)) r.0 (and_from (not due) (is_empty (without_underscores cs)) s.0 x))))
  ]
]

-- the digits after a leading zero
legacy_stays : (octal : Bool) (t : List ℕ) → legacy octal t ≡ true → Stays (legacy octal) t
unfolding legacy is_either
legacy_stays octal [] h = stays_nil (legacy octal) h
legacy_stays octal (c ∷ cs) h = elim (if_cases (is_digit c) (legacy (octal && is_octal c) cs) _ h) [
  | inl p ↦ stays_on (legacy octal) (legacy (octal && is_octal c)) c cs (digit_stays c p.0) (then_so (is_digit c) (legacy (octal && is_octal c) (without_underscores cs)) _ p.0) (legacy_stays (octal && is_octal c) cs p.1)
  | inr p ↦ elim (if_cases (c == 46) (not octal && fraction false false cs) (is_either 101 69 c && (not octal && exponent cs)) p.1) [
    | inl q ↦
        let r = and_parts (not octal) (fraction false false cs) q.1 in
        stays_on (legacy octal) (fraction false false) c cs (one_stays 46 c refl q.0) (λ x. else_so (is_digit c) _ _ p.0 (then_so (c == 46) (not octal && fraction false false (without_underscores cs)) _ q.0 (and_from (not octal) (fraction false false (without_underscores cs)) r.0 x))) (fraction_stays false false cs r.1)
    | inr q ↦
        let r = and_parts (is_either 101 69 c) (not octal && exponent cs) q.1 in
        let s = and_parts (not octal) (exponent cs) r.1 in
        stays_on (legacy octal) exponent c cs (either_stays 101 69 c refl r.0) (λ x. else_so (is_digit c) _ _ p.0 (else_so (c == 46) _ _ q.0 (and_from (is_either 101 69 c) (not octal && exponent (without_underscores cs)) r.0 (and_from (not octal) (exponent (without_underscores cs)) s.0 x)))) (exponent_stays cs s.1)
  ]
]

zero_stays : (t : List ℕ) → after_zero t ≡ true → Stays after_zero t
unfolding after_zero is_either is_hex is_octal is_binary is_digit
zero_stays [] h = stays_nil after_zero refl
zero_stays (c ∷ cs) h = elim (if_cases (is_digit c) (legacy (is_octal c) cs) _ h) [
  | inl p ↦ stays_on after_zero (legacy (is_octal c)) c cs (digit_stays c p.0) (then_so (is_digit c) (legacy (is_octal c) (without_underscores cs)) _ p.0) (legacy_stays (is_octal c) cs p.1)
  | inr p ↦ elim (if_cases (c == 46) (fraction false false cs) _ p.1) [
    | inl q ↦ stays_on after_zero (fraction false false) c cs (one_stays 46 c refl q.0) (λ x. else_so (is_digit c) _ _ p.0 (then_so (c == 46) (fraction false false (without_underscores cs)) _ q.0 x)) (fraction_stays false false cs q.1)
    | inr q ↦ elim (if_cases (is_either 101 69 c) (exponent cs) _ q.1) [
      | inl r ↦ stays_on after_zero exponent c cs (either_stays 101 69 c refl r.0) (λ x. else_so (is_digit c) _ _ p.0 (else_so (c == 46) _ _ q.0 (then_so (is_either 101 69 c) (exponent (without_underscores cs)) _ r.0 x))) (exponent_stays cs r.1)
      | inr r ↦ elim (if_cases (is_either 120 88 c) (radix is_hex true cs) _ r.1) [
        | inl s ↦ stays_on after_zero (radix is_hex true) c cs (either_stays 120 88 c refl s.0) (λ x. else_so (is_digit c) _ _ p.0 (else_so (c == 46) _ _ q.0 (else_so (is_either 101 69 c) _ _ r.0 (then_so (is_either 120 88 c) (radix is_hex true (without_underscores cs)) _ s.0 x)))) (radix_stays is_hex true cs refl s.1)
        | inr s ↦ elim (if_cases (is_either 111 79 c) (radix is_octal true cs) _ s.1) [
          | inl u ↦ stays_on after_zero (radix is_octal true) c cs (either_stays 111 79 c refl u.0) (λ x. else_so (is_digit c) _ _ p.0 (else_so (c == 46) _ _ q.0 (else_so (is_either 101 69 c) _ _ r.0 (else_so (is_either 120 88 c) _ _ s.0 (then_so (is_either 111 79 c) (radix is_octal true (without_underscores cs)) _ u.0 x))))) (radix_stays is_octal true cs refl u.1)
          | inr u ↦ elim (if_cases (is_either 98 66 c) (radix is_binary true cs) ((c == 110) && is_empty cs) u.1) [
            | inl v ↦ stays_on after_zero (radix is_binary true) c cs (either_stays 98 66 c refl v.0) (λ x. else_so (is_digit c) _ _ p.0 (else_so (c == 46) _ _ q.0 (else_so (is_either 101 69 c) _ _ r.0 (else_so (is_either 120 88 c) _ _ s.0 (else_so (is_either 111 79 c) _ _ u.0 (then_so (is_either 98 66 c) (radix is_binary true (without_underscores cs)) _ v.0 x)))))) (radix_stays is_binary true cs refl v.1)
            | inr v ↦
                let e = and_parts (c == 110) (is_empty cs) v.1 in
                suffix_stays after_zero c cs e.0 e.1 (λ x. else_so (is_digit c) _ _ p.0 (else_so (c == 46) _ _ q.0 (else_so (is_either 101 69 c) _ _ r.0 (else_so (is_either 120 88 c) _ _ s.0 (else_so (is_either 111 79 c) _ _ u.0 (else_so (is_either 98 66 c) _ _ v.0 (and_from (c == 110) (is_empty (without_underscores cs)) e.0 x)))))))
          ]
        ]
      ]
    ]
  ]
]

-- a numeric literal
numeric_stays : (t : List ℕ) → is_numeric t ≡ true → Stays is_numeric t
unfolding is_numeric is_digit
numeric_stays [] h = absurd (false≢true h)
numeric_stays (c ∷ cs) h = elim (if_cases (c == 48) (after_zero cs) _ h) [
  | inl p ↦ stays_on is_numeric after_zero c cs (one_stays 48 c refl p.0) (then_so (c == 48) (after_zero (without_underscores cs)) _ p.0) (zero_stays cs p.1)
  | inr p ↦ elim (if_cases (is_digit c) (integer false cs) ((c == 46) && fraction false true cs) p.1) [
    | inl q ↦ stays_on is_numeric (integer false) c cs (digit_stays c q.0) (λ x. else_so (c == 48) _ _ p.0 (then_so (is_digit c) (integer false (without_underscores cs)) _ q.0 x)) (integer_stays false cs q.1)
    | inr q ↦
        let r = and_parts (c == 46) (fraction false true cs) q.1 in
        stays_on is_numeric (fraction false true) c cs (one_stays 46 c refl r.0) (λ x. else_so (c == 48) _ _ p.0 (else_so (is_digit c) _ _ q.0 (and_from (c == 46) (fraction false true (without_underscores cs)) r.0 x))) (fraction_stays false true cs r.1)
  ]
]

pub numeric_without : (t : List ℕ) → is_numeric t ≡ true → is_numeric (without_underscores t) ≡ true
numeric_without t h = (numeric_stays t h).shape

pub numeric_end : (t : List ℕ) → is_numeric t ≡ true → ends_in_underscore t ≡ false
numeric_end t h = (numeric_stays t h).end
