-- A key in quotes is one string of the units of the name's characters.
use Rattle.std.proofs.Common.{◌≡◌, ℕ, zero, suc, ◌+◌, ◌*◌, ◌<◌, ◌≤◌, Bool, true, false, not, ◌&&◌, ◌==◌, List, [], ◌∷◌, ◌++◌, nat_lt, nat_le, refl, sym, ap, ◌∙◌, subst, arith, inl, inr, if◌then◌else◌, Option, Some, None, append_assoc}
use Rattle.std.specs.Char.{digit_value}
use Rattle.std.specs.List.{list_all}
use Rattle.std.proofs.lemmas.Bool.{cases_lt, cases_Bool, lt-ltb, le-ltb, and_from, and_parts, or_from, not-true, not_from_false, ne_eqb, eqb-true, false≢true}
use lib.Utf8.{scalars, scalar}
use Rattle.swc_ecma_codegen_common.specs.declared.versions.EsVersion.{EsVersion}
use Rattle.swc_ecma_codegen_grammar.specs.Chars.{is_digit, is_letter, is_part, is_start, is_quote}
use Rattle.swc_ecma_codegen_grammar.specs.Names.{all_part, is_word}
use Rattle.swc_ecma_codegen_grammar.specs.Numbers.{is_hex, is_either}
use Rattle.swc_ecma_codegen_grammar.specs.Texts.{is_empty}
use Rattle.swc_ecma_codegen_grammar.specs.CodeUnits.{utf16, all_utf16}
use Rattle.swc_ecma_codegen_grammar.specs.declared.units.Place.{Place}
use Rattle.swc_ecma_codegen_grammar.specs.declared.units.Place.TheVariants.{Between, Escaped, Due, Unicode, Braced, Octal, Continued}
use Rattle.swc_ecma_codegen_grammar.specs.StringValues.{before, string_rest, string_value}
use Rattle.swc_ecma_codegen_literals.specs.StringTexts.{code_escape}
use Rattle.swc_ecma_codegen_literals.proofs.NameDecoder.{name_rest, name_characters}
use Rattle.swc_ecma_codegen_literals.specs.AsciiNames.{lower_unit_escape, name_escape, name_escapes}
use Rattle.swc_ecma_codegen_literals.proofs.SpelledTexts.{scalar_bound}
use Rattle.swc_ecma_codegen_literals.proofs.StringReads.{IsQuote, Read, escapes, unit_opens, braced_opens, utf16_small, code_escape_reads}
use Rattle.swc_ecma_codegen_literals.proofs.StringUnits.{Bare, bare_reads, hex_value_small}
use Rattle.swc_ecma_codegen_literals.proofs.NameReads.{lost_wide, is_between}

-- a character that no quote, no backslash and no line end is
abbrev clean : ℕ → Bool
clean c = not (c == 34) && (not (c == 92) && (not (c == 10) && not (c == 13)))

double : IsQuote 34
unfolding IsQuote
double = inl refl

-- what a text in quotes reads as
abbrev Reading : Place → List ℕ → List ℕ → Type 0
Reading place text cs = Read 34 place text ≡ Some (all_utf16 cs)

-- the places of a name, with values that four digits have
abbrev Fits : Place → Type 0
Fits Between = Unit {0}
Fits Escaped = Unit {0}
Fits (Due zero v) = ⊥
Fits (Due (suc zero) v) = v < 4096
Fits (Due (suc (suc zero)) v) = v < 256
Fits (Due (suc (suc (suc zero))) v) = v < 16
Fits (Due (suc (suc (suc (suc n)))) v) = ⊥
Fits Unicode = Unit {0}
Fits (Braced s v) = Unit {0}
Fits (Octal m v) = ⊥
Fits Continued = ⊥

-- Of the rest of a name: what is read of it, and of its text in quotes.
abbrev Rest : List ℕ → List ℕ → Type 0
Rest cs text = (place : Place) (ds : List ℕ) → Fits place → name_rest place cs ≡ Some ds → list_all clean ds ≡ true → Reading place text ds

-- a character before the rest of a name
record Before (c : ℕ) (rest : Option (List ℕ)) (ds : List ℕ) : Type 0 where
  more : List ℕ
  reads : rest ≡ Some more
  is_clean : clean c ≡ true
  are_clean : list_all clean more ≡ true
  units : all_utf16 ds ≡ utf16 c ++ all_utf16 more

none_some : (ds : List ℕ) → ◌≡◌ {A = Option (List ℕ)} None (Some ds) → ⊥
none_some ds e = cc

before_some : (c : ℕ) (rest : Option (List ℕ)) (ds : List ℕ) → before (c ∷ []) rest ≡ Some ds → list_all clean ds ≡ true → Before c rest ds
unfolding before all_utf16
before_some c None ds h a = absurd (none_some ds h)
before_some c (Some more) ds h a =
    let e : c ∷ more ≡ ds = cc in
    let p = and_parts (clean c) (list_all clean more) (ap (list_all clean) e ∙ a) in
    record { more = more; reads = refl; is_clean = p.0; are_clean = p.1; units = ap all_utf16 (sym e) }

clean_bare : (c : ℕ) → clean c ≡ true → Bare 34 c
unfolding is_either
clean_bare c h =
    let p = and_parts (not (c == 34)) (not (c == 92) && (not (c == 10) && not (c == 13))) h in
    let q = and_parts (not (c == 92)) (not (c == 10) && not (c == 13)) p.1 in
    let r = and_parts (not (c == 10)) (not (c == 13)) q.1 in
    record { no_quote = not-true (c == 34) p.0; no_backslash = not-true (c == 92) q.0; no_line_end = or_from (c == 10) (c == 13) (not-true (c == 10) r.0) (not-true (c == 13) r.1) }

units_before : (c : ℕ) (rest : Option (List ℕ)) (ds text : List ℕ) (b : Before c rest ds) → Read 34 Between text ≡ Some (all_utf16 b.more) → before (utf16 c) (Read 34 Between text) ≡ Some (all_utf16 ds)
unfolding before
units_before c rest ds text b r = ap (λ o. before (utf16 c) o) r ∙ ap Some (sym b.units)

-- between characters
name_between : (c : ℕ) (cs : List ℕ) → (c == 92) ≡ false → name_rest Between (c ∷ cs) ≡ before (c ∷ []) (name_rest Between cs)
unfolding name_rest
name_between c cs n = rw n refl

name_opens : (cs : List ℕ) → name_rest Between (92 ∷ cs) ≡ name_rest Escaped cs
unfolding name_rest
name_opens cs = refl

low_between : (c : ℕ) (cs text ds : List ℕ) → Rest cs text → name_rest Between (c ∷ cs) ≡ Some ds → list_all clean ds ≡ true → Reading Between (c ∷ text) ds
low_between c cs text ds r h a = elim (cases_Bool (c == 92)) [
  | inl y ↦
      let e : c ≡ 92 = eqb-true c 92 y in
      let k = r Escaped ds tt (sym (ap (λ x. name_rest Between (x ∷ cs)) e ∙ name_opens cs) ∙ h) a in
      ap (λ x. Read 34 Between (x ∷ text)) e ∙ (escapes 34 text double ∙ k)
  | inr n ↦
      let b = before_some c (name_rest Between cs) ds (sym (name_between c cs n) ∙ h) a in
      let k = r Between b.more tt b.reads b.are_clean in
      bare_reads 34 c text (clean_bare c b.is_clean) ∙ units_before c (name_rest Between cs) ds text b k
]

-- inside an escape
name_escaped : (c : ℕ) (cs ds : List ℕ) → name_rest Escaped (c ∷ cs) ≡ Some ds → (c ≡ 117) × (name_rest Unicode cs ≡ Some ds)
unfolding name_rest
name_escaped c cs ds h = elim (cases_Bool (c == 117)) [
  | inl y ↦ (eqb-true c 117 y, rw y at h)
  | inr n ↦ absurd (none_some ds (rw n at h))
]

low_escaped : (c : ℕ) (cs text ds : List ℕ) → Rest cs text → name_rest Escaped (c ∷ cs) ≡ Some ds → list_all clean ds ≡ true → Reading Escaped (c ∷ text) ds
low_escaped c cs text ds r h a =
    let p = name_escaped c cs ds h in
    let k = r Unicode ds tt p.1 a in
    ap (λ x. Read 34 Escaped (x ∷ text)) p.0 ∙ (unit_opens 34 text ∙ k)

-- a digit of an escape, or no name
due_digit : (n v c : ℕ) (cs ds : List ℕ) → name_rest (Due n v) (c ∷ cs) ≡ Some ds → is_hex c ≡ true
unfolding name_rest
due_digit zero v c cs ds h = absurd (none_some ds h)
due_digit (suc zero) v c cs ds h = elim (cases_Bool (is_hex c)) [ inl y ↦ y | inr n ↦ absurd (none_some ds (rw n at h)) ]
due_digit (suc (suc m)) v c cs ds h = elim (cases_Bool (is_hex c)) [ inl y ↦ y | inr n ↦ absurd (none_some ds (rw n at h)) ]

name_due : (n v c : ℕ) (cs : List ℕ) → is_hex c ≡ true → name_rest (Due (suc (suc n)) v) (c ∷ cs) ≡ name_rest (Due (suc n) (v * 16 + digit_value c)) cs
unfolding name_rest
name_due n v c cs h = rw h refl

name_last : (v c : ℕ) (cs : List ℕ) → is_hex c ≡ true → name_rest (Due 1 v) (c ∷ cs) ≡ before ((v * 16 + digit_value c) ∷ []) (name_rest Between cs)
unfolding name_rest
name_last v c cs h = rw h refl

read_due : (n v c : ℕ) (t : List ℕ) → is_hex c ≡ true → Read 34 (Due (suc (suc n)) v) (c ∷ t) ≡ Read 34 (Due (suc n) (v * 16 + digit_value c)) t
unfolding string_rest
read_due n v c t h = rw h refl

read_last : (v c : ℕ) (t : List ℕ) → is_hex c ≡ true → Read 34 (Due 1 v) (c ∷ t) ≡ before ((v * 16 + digit_value c) ∷ []) (Read 34 Between t)
unfolding string_rest
read_last v c t h = rw h refl

due_next : (n v c : ℕ) (cs text ds : List ℕ) → Rest cs text → Fits (Due (suc n) (v * 16 + digit_value c)) → is_hex c ≡ true → name_rest (Due (suc (suc n)) v) (c ∷ cs) ≡ Some ds → list_all clean ds ≡ true → Reading (Due (suc (suc n)) v) (c ∷ text) ds
due_next n v c cs text ds r f x h a =
    let k = r (Due (suc n) (v * 16 + digit_value c)) ds f (sym (name_due n v c cs x) ∙ h) a in
    read_due n v c text x ∙ k

due_done : (v c : ℕ) (cs text ds : List ℕ) → Rest cs text → v < 4096 → is_hex c ≡ true → name_rest (Due 1 v) (c ∷ cs) ≡ Some ds → list_all clean ds ≡ true → Reading (Due 1 v) (c ∷ text) ds
due_done v c cs text ds r l x h a =
    let u = v * 16 + digit_value c in
    let s = hex_value_small c x in
    let b = before_some (v * 16 + digit_value c) (name_rest Between cs) ds (sym (name_last v c cs x) ∙ h) a in
    let k = r Between b.more tt b.reads b.are_clean in
    read_last v c text x ∙ (ap (λ us. before us (Read 34 Between text)) (sym (utf16_small u (omega arith))) ∙ units_before u (name_rest Between cs) ds text b k)

low_due : (n v c : ℕ) (cs text ds : List ℕ) → Rest cs text → Fits (Due n v) → name_rest (Due n v) (c ∷ cs) ≡ Some ds → list_all clean ds ≡ true → Reading (Due n v) (c ∷ text) ds
low_due zero v c cs text ds r f h a = absurd f
low_due (suc zero) v c cs text ds r f h a = due_done v c cs text ds r f (due_digit 1 v c cs ds h) h a
low_due (suc (suc zero)) v c cs text ds r f h a =
    let x = due_digit 2 v c cs ds h in
    let s = hex_value_small c x in
    due_next 0 v c cs text ds r (omega (arith, f)) x h a
low_due (suc (suc (suc zero))) v c cs text ds r f h a =
    let x = due_digit 3 v c cs ds h in
    let s = hex_value_small c x in
    due_next 1 v c cs text ds r (omega (arith, f)) x h a
low_due (suc (suc (suc (suc n)))) v c cs text ds r f h a = absurd f

name_braces : (cs : List ℕ) → name_rest Unicode (123 ∷ cs) ≡ name_rest (Braced false 0) cs
unfolding name_rest
name_braces cs = refl

name_unit : (c : ℕ) (cs : List ℕ) → (c == 123) ≡ false → is_hex c ≡ true → name_rest Unicode (c ∷ cs) ≡ name_rest (Due 3 (digit_value c)) cs
unfolding name_rest
name_unit c cs n h = rw (n, h) refl

name_no_unit : (c : ℕ) (cs : List ℕ) → (c == 123) ≡ false → is_hex c ≡ false → name_rest Unicode (c ∷ cs) ≡ None
unfolding name_rest
name_no_unit c cs n h = rw (n, h) refl

read_unit : (c : ℕ) (t : List ℕ) → (c == 123) ≡ false → is_hex c ≡ true → Read 34 Unicode (c ∷ t) ≡ Read 34 (Due 3 (digit_value c)) t
unfolding string_rest
read_unit c t n h = rw (n, h) refl

low_unicode : (c : ℕ) (cs text ds : List ℕ) → Rest cs text → name_rest Unicode (c ∷ cs) ≡ Some ds → list_all clean ds ≡ true → Reading Unicode (c ∷ text) ds
low_unicode c cs text ds r h a = elim (cases_Bool (c == 123)) [
  | inl y ↦
      let e : c ≡ 123 = eqb-true c 123 y in
      let k = r (Braced false 0) ds tt (sym (ap (λ x. name_rest Unicode (x ∷ cs)) e ∙ name_braces cs) ∙ h) a in
      ap (λ x. Read 34 Unicode (x ∷ text)) e ∙ (braced_opens 34 text ∙ k)
  | inr n ↦ elim (cases_Bool (is_hex c)) [
    | inl x ↦
        let s = hex_value_small c x in
        let k = r (Due 3 (digit_value c)) ds s (sym (name_unit c cs n x) ∙ h) a in
        read_unit c text n x ∙ k
    | inr m ↦ absurd (none_some ds (sym (name_no_unit c cs n m) ∙ h))
  ]
]

name_digit : (s : Bool) (v c : ℕ) (cs : List ℕ) → is_hex c ≡ true → name_rest (Braced s v) (c ∷ cs) ≡ name_rest (Braced true (v * 16 + digit_value c)) cs
unfolding name_rest
name_digit s v c cs h = rw h refl

name_brace : (s : Bool) (v c : ℕ) (cs : List ℕ) → is_hex c ≡ false → ((c == 125) && (s && nat_le v 1114111)) ≡ true → name_rest (Braced s v) (c ∷ cs) ≡ before (v ∷ []) (name_rest Between cs)
unfolding name_rest
name_brace s v c cs n h = rw (n, h) refl

name_no_brace : (s : Bool) (v c : ℕ) (cs : List ℕ) → is_hex c ≡ false → ((c == 125) && (s && nat_le v 1114111)) ≡ false → name_rest (Braced s v) (c ∷ cs) ≡ None
unfolding name_rest
name_no_brace s v c cs n h = rw (n, h) refl

read_digit : (s : Bool) (v c : ℕ) (t : List ℕ) → is_hex c ≡ true → Read 34 (Braced s v) (c ∷ t) ≡ Read 34 (Braced true (v * 16 + digit_value c)) t
unfolding string_rest
read_digit s v c t h = rw h refl

read_brace : (s : Bool) (v c : ℕ) (t : List ℕ) → is_hex c ≡ false → ((c == 125) && (s && nat_le v 1114111)) ≡ true → Read 34 (Braced s v) (c ∷ t) ≡ before (utf16 v) (Read 34 Between t)
unfolding string_rest
read_brace s v c t n h = rw (n, h) refl

low_braced : (s : Bool) (v c : ℕ) (cs text ds : List ℕ) → Rest cs text → name_rest (Braced s v) (c ∷ cs) ≡ Some ds → list_all clean ds ≡ true → Reading (Braced s v) (c ∷ text) ds
low_braced s v c cs text ds r h a = elim (cases_Bool (is_hex c)) [
  | inl x ↦
      let k = r (Braced true (v * 16 + digit_value c)) ds tt (sym (name_digit s v c cs x) ∙ h) a in
      read_digit s v c text x ∙ k
  | inr n ↦ elim (cases_Bool ((c == 125) && (s && nat_le v 1114111))) [
    | inl y ↦
        let b = before_some v (name_rest Between cs) ds (sym (name_brace s v c cs n y) ∙ h) a in
        let k = r Between b.more tt b.reads b.are_clean in
        read_brace s v c text n y ∙ units_before v (name_rest Between cs) ds text b k
    | inr m ↦ absurd (none_some ds (sym (name_no_brace s v c cs n m) ∙ h))
  ]
]

low_reads : (place : Place) (c : ℕ) (cs text ds : List ℕ) → Rest cs text → Fits place → name_rest place (c ∷ cs) ≡ Some ds → list_all clean ds ≡ true → Reading place (c ∷ text) ds
low_reads Between c cs text ds r f h a = low_between c cs text ds r h a
low_reads Escaped c cs text ds r f h a = low_escaped c cs text ds r h a
low_reads (Due n v) c cs text ds r f h a = low_due n v c cs text ds r f h a
low_reads Unicode c cs text ds r f h a = low_unicode c cs text ds r h a
low_reads (Braced s v) c cs text ds r f h a = low_braced s v c cs text ds r h a
low_reads (Octal m v) c cs text ds r f h a = absurd f
low_reads Continued c cs text ds r f h a = absurd f

-- a character that is escaped
wide_code : (v : EsVersion) (c : ℕ) → 127 ≤ c → name_escape true v c ≡ code_escape v c
unfolding name_escape
wide_code v c g = rw (le-ltb c 127 g) (by_test (nat_lt c 256))
  where
    by_test : (b : Bool) → (if b && false then lower_unit_escape c else code_escape v c) ≡ code_escape v c
    by_test true = refl
    by_test false = refl

wide_between : (v : EsVersion) (c : ℕ) (cs text ds : List ℕ) → 127 ≤ c → c < 1114112 → Rest cs text → name_rest Between (c ∷ cs) ≡ Some ds → list_all clean ds ≡ true → Reading Between (name_escape true v c ++ text) ds
wide_between v c cs text ds g l r h a =
    let b = before_some c (name_rest Between cs) ds (sym (name_between c cs (ne_eqb c 92 (λ e. omega arith))) ∙ h) a in
    let k = r Between b.more tt b.reads b.are_clean in
    ap (λ x. Read 34 Between (x ++ text)) (wide_code v c g) ∙ (code_escape_reads 34 v c text double l ∙ units_before c (name_rest Between cs) ds text b k)

low_code : (v : EsVersion) (c : ℕ) → c < 127 → name_escape true v c ≡ c ∷ []
unfolding name_escape
low_code v c l = rw (lt-ltb c 127 l) refl

one_reads : (v : EsVersion) (place : Place) (c : ℕ) (cs text ds : List ℕ) → c < 1114112 → Rest cs text → Fits place → name_rest place (c ∷ cs) ≡ Some ds → list_all clean ds ≡ true → Reading place (name_escape true v c ++ text) ds
one_reads v place c cs text ds l r f h a = elim (cases_lt c 127) [
  | inl s ↦ subst (λ x. Reading place (x ++ text) ds) (sym (low_code v c s)) (low_reads place c cs text ds r f h a)
  | inr g ↦ elim (is_between place) [
    | inl e ↦ subst (λ p. Reading p (name_escape true v c ++ text) ds) (sym e) (wide_between v c cs text ds g l r (ap (λ p. name_rest p (c ∷ cs)) (sym e) ∙ h) a)
    | inr n ↦ absurd (none_some ds (sym (lost_wide c cs place g n) ∙ h))
  ]
]

-- at the end of a name
name_ends : (place : Place) (ds : List ℕ) → name_rest place [] ≡ Some ds → (place ≡ Between) × (ds ≡ [])
unfolding name_rest
name_ends Between ds h = (refl, cc)
name_ends Escaped ds h = absurd (none_some ds h)
name_ends (Due n v) ds h = absurd (none_some ds h)
name_ends Unicode ds h = absurd (none_some ds h)
name_ends (Braced s v) ds h = absurd (none_some ds h)
name_ends (Octal m v) ds h = absurd (none_some ds h)
name_ends Continued ds h = absurd (none_some ds h)

no_more : Reading Between (34 ∷ []) []
unfolding string_rest is_empty all_utf16
no_more = refl

at_end : (place : Place) (ds : List ℕ) → name_rest place [] ≡ Some ds → Reading place (34 ∷ []) ds
at_end place ds h =
    let e = name_ends place ds h in
    subst (λ p. Reading p (34 ∷ []) ds) (sym e.0) (subst (λ x. Reading Between (34 ∷ []) x) (sym e.1) no_more)

key_rest : (v : EsVersion) (cs : List ℕ) → scalars cs ≡ true → Rest cs (name_escapes true v cs ++ 34 ∷ [])
unfolding name_escapes
key_rest v [] s place ds f h a = at_end place ds h
key_rest v (c ∷ cs) s place ds f h a =
    let p = and_parts (scalar c) (scalars cs) s in
    subst (λ x. Reading place x ds) (sym (append_assoc (name_escape true v c) (name_escapes true v cs) (34 ∷ [])))
    (one_reads v place c cs (name_escapes true v cs ++ 34 ∷ []) ds (scalar_bound c p.0) (λ q es g i b. key_rest v cs p.1 q es g i b) f h a)

-- the characters of a word
none_of : (p : ℕ → Bool) (c : ℕ) → p c ≡ true → p 34 ≡ false → p 92 ≡ false → p 10 ≡ false → p 13 ≡ false → clean c ≡ true
none_of p c h i j k l =
    and_from (not (c == 34)) (not (c == 92) && (not (c == 10) && not (c == 13))) (other 34 i)
    (and_from (not (c == 92)) (not (c == 10) && not (c == 13)) (other 92 j) (and_from (not (c == 10)) (not (c == 13)) (other 10 k) (other 13 l)))
  where
    other : (a : ℕ) → p a ≡ false → not (c == a) ≡ true
    other a n = not_from_false (c == a) (ne_eqb c a (λ e. false≢true (sym n ∙ (ap p (sym e) ∙ h))))

start_clean : (c : ℕ) → is_start c ≡ true → clean c ≡ true
unfolding is_start is_letter
start_clean c h = none_of is_start c h refl refl refl refl

part_clean : (c : ℕ) → is_part c ≡ true → clean c ≡ true
unfolding is_part is_letter is_digit
part_clean c h = none_of is_part c h refl refl refl refl

parts_clean : (cs : List ℕ) → all_part cs ≡ true → list_all clean cs ≡ true
unfolding all_part
parts_clean [] h = refl
parts_clean (c ∷ cs) h = let p = and_parts (is_part c) (all_part cs) h in and_from (clean c) (list_all clean cs) (part_clean c p.0) (parts_clean cs p.1)

word_clean : (cs : List ℕ) → is_word cs ≡ true → list_all clean cs ≡ true
unfolding is_word
word_clean [] h = refl
word_clean (c ∷ cs) h = let p = and_parts (is_start c) (all_part cs) h in and_from (clean c) (list_all clean cs) (start_clean c p.0) (parts_clean cs p.1)

pub key_value : (v : EsVersion) (text ds : List ℕ) → scalars text ≡ true → name_characters text ≡ Some ds → is_word ds ≡ true → string_value false (34 ∷ (name_escapes true v text ++ 34 ∷ [])) ≡ Some (all_utf16 ds)
unfolding string_value is_quote
key_value v text ds s h w = key_rest v text s Between ds tt h (word_clean ds w)
