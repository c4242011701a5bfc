-- The names of the grammar and their characters, by the decoder of NameDecoder.
use Rattle.std.proofs.Common.{Bool, List, None, Option, Some, [], arith, false, if◌then◌else◌, inl, inr, nat_le, nat_lt, refl, sym, ap, true, ℕ, ◌&&◌, ◌*◌, ◌+◌, ◌<◌, ◌==◌, ◌∙◌, ◌∷◌, ◌≡◌, ◌≤◌}
use Rattle.std.proofs.lemmas.Bool.{and_from, and_parts, cases_Bool, false_from_ne_true, false≢true, le-leb, leb-false, leb-true, lt-ltb, or_left, or_right}
use Rattle.std.specs.Char.{digit_value}
use Rattle.std.specs.List.{list_all}
use lib.Utf8.{scalar, scalar_cases, scalars}
use Rattle.swc_ecma_codegen_grammar.specs.Chars.{is_digit, is_scalar}
use Rattle.swc_ecma_codegen_grammar.specs.Names as names
use Rattle.swc_ecma_codegen_grammar.specs.Names.{all_part, fits, fits_code, is_name, is_word, name_value}
use Rattle.swc_ecma_codegen_grammar.specs.Numbers.{is_hex}
use Rattle.swc_ecma_codegen_grammar.specs.StringValues.{before}
use Rattle.swc_ecma_codegen_grammar.specs.declared.names.Place.{Place}
use Rattle.swc_ecma_codegen_grammar.specs.declared.names.Place.TheVariants.{Between, Braced, Escaped, One, Three, Two, Unicode}
use Rattle.swc_ecma_codegen_grammar.specs.declared.units.Place as strings
use Rattle.swc_ecma_codegen_grammar.specs.declared.units.Place.TheVariants as units
use Rattle.swc_ecma_codegen_literals.proofs.NameDecoder.{name_characters, name_rest}
use Rattle.swc_ecma_codegen_literals.proofs.StringReads.{hex_not}

-- the place of the decoder
abbrev place_of : Place → strings.Place
place_of Between = units.Between
place_of Escaped = units.Escaped
place_of Unicode = units.Unicode
place_of (One value) = units.Due 3 value
place_of (Two value) = units.Due 2 value
place_of (Three value) = units.Due 1 value
place_of (Braced some value) = units.Braced some value

-- a value that a code point may begin with
abbrev InRange : Place → Type 0
InRange Between = Unit {0}
InRange Escaped = Unit {0}
InRange Unicode = Unit {0}
InRange (One value) = Unit {0}
InRange (Two value) = Unit {0}
InRange (Three value) = Unit {0}
InRange (Braced some value) = value ≤ 1114111

-- what a decoded rest must be, to be one of a name
abbrev shape : Bool → List ℕ → Bool
shape true ds = is_word ds
shape false ds = all_part ds

abbrev checks : Bool → Option (List ℕ) → Bool
checks first None = false
checks first (Some ds) = shape first ds && list_all is_scalar ds

rearranged : (a b p s : Bool) → ((a && b) && (p && s)) ≡ ((b && p) && (a && s))
rearranged true true p s = refl
rearranged true false p s = refl
rearranged false true true s = refl
rearranged false true false s = refl
rearranged false false p s = refl

no : (b : Bool) → (b && false) ≡ false
no true = refl
no false = refl

-- one more character in front
in_front : (first : Bool) (c : ℕ) (o : Option (List ℕ)) → (fits_code first c && checks false o) ≡ checks first (before (c ∷ []) o)
unfolding before fits_code fits is_word all_part
in_front first c None = no (fits_code first c)
in_front true c (Some ds) = rearranged (is_scalar c) (fits true c) (all_part ds) (list_all is_scalar ds)
in_front false c (Some ds) = rearranged (is_scalar c) (fits false c) (all_part ds) (list_all is_scalar ds)

-- no digit makes a value small again
too_large : (some : Bool) (value : ℕ) (cs : List ℕ) → 1114111 < value → name_rest (units.Braced some value) cs ≡ None
unfolding name_rest
too_large some value [] l = refl
too_large some value (c ∷ cs) l =
    let big : nat_le value 1114111 ≡ false = false_from_ne_true _ (λ h. let m = leb-true value 1114111 h in omega (arith, m, l)) in
    elim (cases_Bool (is_hex c)) [
      | inl h ↦ rw h (too_large true (value * 16 + digit_value c) cs (omega (arith, l)))
      | inr n ↦ rw (n, big, no some, no (c == 125)) refl
    ]

scalar_is : (c : ℕ) → scalar c ≡ true → is_scalar c ≡ true
unfolding is_scalar
scalar_is c s = elim (scalar_cases c s) [
  | inl l ↦ or_left _ _ (lt-ltb c 55296 l)
  | inr g ↦ or_right (nat_lt c 55296) _ (and_from (nat_le 57344 c) (nat_le c 1114111) (le-leb 57344 c g.0) (le-leb c 1114111 (omega (arith, g.1))))
]

-- ---- which texts are names

plain_checks : (first : Bool) (c : ℕ) (cs : List ℕ) → (c == 92) ≡ false → is_scalar c ≡ true → names.name_rest false Between cs ≡ checks false (name_rest units.Between cs) → names.name_rest first Between (c ∷ cs) ≡ checks first (name_rest units.Between (c ∷ cs))
unfolding name_rest names.name_rest fits_code
plain_checks first c cs n s h =
    let e : (is_scalar c && fits first c) ≡ fits first c = rw s refl in
    rw (n, h) (ap (λ b. b && checks false (name_rest units.Between cs)) (sym e) ∙ in_front first c (name_rest units.Between cs))

last_checks : (first : Bool) (value c : ℕ) (cs : List ℕ) → names.name_rest false Between cs ≡ checks false (name_rest units.Between cs) → names.name_rest first (Three value) (c ∷ cs) ≡ checks first (name_rest (units.Due 1 value) (c ∷ cs))
unfolding name_rest names.name_rest
last_checks first value c cs h = elim (cases_Bool (is_hex c)) [ inl e ↦ rw (e, h) (in_front first (value * 16 + digit_value c) (name_rest units.Between cs)) | inr e ↦ rw e refl ]

digit_checks : (first some : Bool) (value c : ℕ) (cs : List ℕ) → is_hex c ≡ true → (value * 16 + digit_value c ≤ 1114111 → names.name_rest first (Braced true (value * 16 + digit_value c)) cs ≡ checks first (name_rest (units.Braced true (value * 16 + digit_value c)) cs)) →
    names.name_rest first (Braced some value) (c ∷ cs) ≡ checks first (name_rest (units.Braced some value) (c ∷ cs))
unfolding name_rest names.name_rest
digit_checks first some value c cs e h =
    let more = value * 16 + digit_value c in
    elim (cases_Bool (nat_le more 1114111)) [
      | inl l ↦ rw (e, l) (h (leb-true more 1114111 l))
      | inr l ↦ rw (e, l) (sym (ap (checks first) (too_large true more cs (leb-false more 1114111 l))))
    ]

close_checks : (first some : Bool) (value c : ℕ) (cs : List ℕ) → is_hex c ≡ false → value ≤ 1114111 → names.name_rest false Between cs ≡ checks false (name_rest units.Between cs) → names.name_rest first (Braced some value) (c ∷ cs) ≡ checks first (name_rest (units.Braced some value) (c ∷ cs))
unfolding name_rest names.name_rest
close_checks first some value c cs e l h = rw (e, le-leb value 1114111 l, h) (cases (c == 125) some)
  where
    cases : (closes some : Bool) → ((closes && some) && (fits_code first value && checks false (name_rest units.Between cs))) ≡ checks first (if closes && (some && true) then before (value ∷ []) (name_rest units.Between cs) else None)
    cases true true = in_front first value (name_rest units.Between cs)
    cases true false = refl
    cases false some = refl

checked : (first : Bool) (place : Place) (cs : List ℕ) → InRange place → scalars cs ≡ true → names.name_rest first place cs ≡ checks first (name_rest (place_of place) cs)
unfolding name_rest names.name_rest all_part is_word
checked true Between [] r s = refl
checked false Between [] r s = refl
checked first Escaped [] r s = refl
checked first Unicode [] r s = refl
checked first (One value) [] r s = refl
checked first (Two value) [] r s = refl
checked first (Three value) [] r s = refl
checked first (Braced some value) [] r s = refl
checked first Between (c ∷ cs) r s =
    let p = and_parts (scalar c) (scalars cs) s in
    elim (cases_Bool (c == 92)) [
      | inl e ↦ rw e (checked first Escaped cs tt p.1)
      | inr e ↦ plain_checks first c cs e (scalar_is c p.0) (checked false Between cs tt p.1)
    ]
checked first Escaped (c ∷ cs) r s =
    let p = and_parts (scalar c) (scalars cs) s in
    elim (cases_Bool (c == 117)) [ inl e ↦ rw e (checked first Unicode cs tt p.1) | inr e ↦ rw e refl ]
checked first Unicode (c ∷ cs) r s =
    let p = and_parts (scalar c) (scalars cs) s in
    elim (cases_Bool (c == 123)) [
      | inl e ↦ rw e (checked first (Braced false 0) cs (omega arith) p.1)
      | inr n ↦ elim (cases_Bool (is_hex c)) [ inl e ↦ rw (n, e) (checked first (One (digit_value c)) cs tt p.1) | inr e ↦ rw (n, e) refl ]
    ]
checked first (One value) (c ∷ cs) r s =
    let p = and_parts (scalar c) (scalars cs) s in
    elim (cases_Bool (is_hex c)) [ inl e ↦ rw e (checked first (Two (value * 16 + digit_value c)) cs tt p.1) | inr e ↦ rw e refl ]
checked first (Two value) (c ∷ cs) r s =
    let p = and_parts (scalar c) (scalars cs) s in
    elim (cases_Bool (is_hex c)) [ inl e ↦ rw e (checked first (Three (value * 16 + digit_value c)) cs tt p.1) | inr e ↦ rw e refl ]
checked first (Three value) (c ∷ cs) r s = last_checks first value c cs (checked false Between cs tt (and_parts (scalar c) (scalars cs) s).1)
checked first (Braced some value) (c ∷ cs) r s =
    let p = and_parts (scalar c) (scalars cs) s in
    elim (cases_Bool (is_hex c)) [
      | inl e ↦ digit_checks first some value c cs e (λ l. checked first (Braced true (value * 16 + digit_value c)) cs l p.1)
      | inr e ↦ close_checks first some value c cs e r (checked false Between cs tt p.1)
    ]

-- ---- what names stand for

none_some : (ds : List ℕ) → ◌≡◌ {A = Option (List ℕ)} None (Some ds) → ⊥
none_some ds e = cc

-- the characters of a rest that the decoder reads
front_value : (c : ℕ) (o : Option (List ℕ)) (ds rest : List ℕ) → before (c ∷ []) o ≡ Some ds → ((more : List ℕ) → o ≡ Some more → rest ≡ more) → c ∷ rest ≡ ds
unfolding before
front_value c None ds rest h k = absurd (none_some ds h)
front_value c (Some more) ds rest h k = ap (λ x. c ∷ x) (k more refl) ∙ cc

no_end : is_hex 125 ≡ false
unfolding is_hex is_digit
no_end = refl

value : (place : Place) (cs ds : List ℕ) → name_rest (place_of place) cs ≡ Some ds → names.name_characters place cs ≡ ds
unfolding name_rest names.name_characters
value Between [] ds h = cc
value Escaped [] ds h = absurd (none_some ds h)
value Unicode [] ds h = absurd (none_some ds h)
value (One n) [] ds h = absurd (none_some ds h)
value (Two n) [] ds h = absurd (none_some ds h)
value (Three n) [] ds h = absurd (none_some ds h)
value (Braced some n) [] ds h = absurd (none_some ds h)
value Between (c ∷ cs) ds h = elim (cases_Bool (c == 92)) [
  | inl e ↦ rw e (value Escaped cs ds (rw e at h))
  | inr e ↦ rw e (front_value c (name_rest units.Between cs) ds (names.name_characters Between cs) (rw e at h) (λ more k. value Between cs more k))
]
value Escaped (c ∷ cs) ds h = elim (cases_Bool (c == 117)) [ inl e ↦ value Unicode cs ds (rw e at h) | inr e ↦ absurd (none_some ds (rw e at h)) ]
value Unicode (c ∷ cs) ds h = elim (cases_Bool (c == 123)) [
  | inl e ↦ rw e (value (Braced false 0) cs ds (rw e at h))
  | inr n ↦ elim (cases_Bool (is_hex c)) [ inl e ↦ rw n (value (One (digit_value c)) cs ds (rw (n, e) at h)) | inr e ↦ absurd (none_some ds (rw (n, e) at h)) ]
]
value (One n) (c ∷ cs) ds h = elim (cases_Bool (is_hex c)) [ inl e ↦ value (Two (n * 16 + digit_value c)) cs ds (rw e at h) | inr e ↦ absurd (none_some ds (rw e at h)) ]
value (Two n) (c ∷ cs) ds h = elim (cases_Bool (is_hex c)) [ inl e ↦ value (Three (n * 16 + digit_value c)) cs ds (rw e at h) | inr e ↦ absurd (none_some ds (rw e at h)) ]
value (Three n) (c ∷ cs) ds h = elim (cases_Bool (is_hex c)) [
  | inl e ↦ front_value (n * 16 + digit_value c) (name_rest units.Between cs) ds (names.name_characters Between cs) (rw e at h) (λ more k. value Between cs more k)
  | inr e ↦ absurd (none_some ds (rw e at h))
]
value (Braced some n) (c ∷ cs) ds h = elim (cases_Bool (is_hex c)) [
  | inl e ↦ rw (hex_not c 125 e no_end) (value (Braced true (n * 16 + digit_value c)) cs ds (rw e at h))
  | inr k ↦ elim (cases_Bool ((c == 125) && (some && nat_le n 1114111))) [
    | inl w ↦ rw ((and_parts (c == 125) (some && nat_le n 1114111) w).0) (front_value n (name_rest units.Between cs) ds (names.name_characters Between cs) (rw (k, w) at h) (λ more q. value Between cs more q))
    | inr w ↦ absurd (none_some ds (rw (k, w) at h))
  ]
]

-- ---- both

pub named_word : (text : List ℕ) → scalars text ≡ true → is_name text ≡ true → (name_characters text ≡ Some (name_value text)) × (is_word (name_value text) ≡ true)
unfolding is_name name_value
named_word text s h = by_value (name_characters text) refl (sym (checked true Between text tt s) ∙ h)
  where
    by_value : (o : Option (List ℕ)) → name_characters text ≡ o → checks true o ≡ true → (name_characters text ≡ Some (names.name_characters Between text)) × (is_word (names.name_characters Between text) ≡ true)
    by_value None e w = absurd (false≢true w)
    by_value (Some ds) e w =
        let same : names.name_characters Between text ≡ ds = value Between text ds e in
        rw same (e, (and_parts (is_word ds) (list_all is_scalar ds) w).0)

-- Texts that are decoded alike are names alike, and stand for the same.
pub same_name : (a b : List ℕ) → scalars a ≡ true → scalars b ≡ true → name_characters a ≡ name_characters b → is_name a ≡ is_name b
unfolding is_name
same_name a b s t h = checked true Between a tt s ∙ (ap (checks true) h ∙ sym (checked true Between b tt t))

pub same_value : (a b : List ℕ) → scalars b ≡ true → name_characters a ≡ name_characters b → is_name b ≡ true → name_value a ≡ name_value b
unfolding name_value
same_value a b t h n = value Between a (name_value b) (h ∙ (named_word b t n).0)
