-- A name in ASCII has the characters of the name that it was made of.
use Rattle.std.proofs.Common.{◌≡◌, ℕ, zero, suc, ◌+◌, ◌*◌, ◌/◌, ◌%◌, ◌^◌, ◌<◌, ◌≤◌, Bool, true, false, not, ◌&&◌, ◌||◌, ◌==◌, List, [], ◌∷◌, ◌++◌, length, nat_lt, nat_le, refl, sym, ap, ◌∙◌, subst, arith, inl, inr, if◌then◌else◌, codes, None, append_assoc, ◌⊎◌}
use Rattle.std.specs.Char.{digit_value}
use Rattle.std.specs.Fmt.{digit_glyph, digits}
use Rattle.std.specs.List.{list_all}
use Rattle.std.specs.Str.Parse.{digits_value, digits_value_after, AllDigits, IsNumeral}
use Rattle.std.proofs.lemmas.Fmt.{digits_is_IsNumeral}
use Rattle.std.proofs.lemmas.Bool.{cases_lt, cases_Bool, lt-ltb, le-ltb, le-leb, leb-true, and_from, and_parts, or_parts, or_right, ne_eqb, not-true, false≢true, false_from_ne_true}
use lib.Utf8.{scalars, scalar}
use Rattle.swc_ecma_codegen_common.specs.declared.versions.EsVersion.{EsVersion}
use Rattle.swc_ecma_codegen_grammar.specs.Chars.{is_digit}
use Rattle.swc_ecma_codegen_grammar.specs.Numbers.{is_hex}
use Rattle.swc_ecma_codegen_grammar.specs.declared.units.Place.{Place}
use Rattle.swc_ecma_codegen_grammar.specs.declared.units.Place.TheVariants.{Between, Escaped, Due, Unicode, Braced, Octal, Continued}
use Rattle.swc_ecma_codegen_grammar.specs.StringValues.{before}
use Rattle.swc_ecma_codegen_literals.specs.StringTexts.{up_to_es5, code_escape, hex_escape, unit_escape, pair_escape, braced_escape}
use Rattle.swc_ecma_codegen_literals.proofs.NameDecoder.{name_rest}
use Rattle.swc_ecma_codegen_literals.specs.AsciiNames.{lower_unit_escape, name_escape, name_escapes, wants_quotes}
use Rattle.swc_ecma_codegen_literals.proofs.EscapeTexts.{glyph_hex, chosen}
use Rattle.swc_ecma_codegen_literals.proofs.Numerals.{hex_from_value}
use Rattle.swc_ecma_codegen_literals.proofs.SpelledTexts.{scalar_bound}
use Rattle.swc_ecma_codegen_literals.proofs.StringReads.{glyph_value, hex_not, no_brace}

-- a backslash begins an escape
opens : (t : List ℕ) → name_rest Between (92 ∷ 117 ∷ t) ≡ name_rest Unicode t
unfolding name_rest
opens t = refl

-- digits that are due
due_more : (n value : ℕ) (t : List ℕ) (upper : Bool) (d : ℕ) → d < 16 → name_rest (Due (suc (suc n)) value) (digit_glyph upper d ∷ t) ≡ name_rest (Due (suc n) (value * 16 + d)) t
unfolding name_rest
due_more n value t upper d l = rw (glyph_hex upper d l, glyph_value upper d l) refl

due_last : (value : ℕ) (t : List ℕ) (upper : Bool) (d : ℕ) → d < 16 → name_rest (Due 1 value) (digit_glyph upper d ∷ t) ≡ before ((value * 16 + d) ∷ []) (name_rest Between t)
unfolding name_rest
due_last value t upper d l = rw (glyph_hex upper d l, glyph_value upper d l) refl

unit_starts : (t : List ℕ) (upper : Bool) (d : ℕ) → d < 16 → name_rest Unicode (digit_glyph upper d ∷ t) ≡ name_rest (Due 3 d) t
unfolding name_rest
unit_starts t upper d l = rw (hex_not (digit_glyph upper d) 123 (glyph_hex upper d l) no_brace, glyph_hex upper d l, glyph_value upper d l) refl

four_digits : (upper : Bool) (a b c d value : ℕ) (t : List ℕ) → a < 16 → b < 16 → c < 16 → d < 16 → ((a * 16 + b) * 16 + c) * 16 + d ≡ value →
    name_rest Between (92 ∷ 117 ∷ digit_glyph upper a ∷ digit_glyph upper b ∷ digit_glyph upper c ∷ digit_glyph upper d ∷ t) ≡ before (value ∷ []) (name_rest Between t)
four_digits upper a b c d value t k l m n e =
    opens (digit_glyph upper a ∷ digit_glyph upper b ∷ digit_glyph upper c ∷ digit_glyph upper d ∷ t) ∙
    (unit_starts (digit_glyph upper b ∷ digit_glyph upper c ∷ digit_glyph upper d ∷ t) upper a k ∙
    (due_more 1 a (digit_glyph upper c ∷ digit_glyph upper d ∷ t) upper b l ∙
    (due_more 0 (a * 16 + b) (digit_glyph upper d ∷ t) upper c m ∙
    (due_last ((a * 16 + b) * 16 + c) t upper d n ∙ ap (λ u. before (u ∷ []) (name_rest Between t)) e))))

unit_name : (c : ℕ) (t : List ℕ) → c < 65536 → name_rest Between (unit_escape c ++ t) ≡ before (c ∷ []) (name_rest Between t)
unfolding unit_escape
unit_name c t l = four_digits true (c / 4096) (c / 256 % 16) (c / 16 % 16) (c % 16) c t (omega arith) (omega arith) (omega arith) (omega arith) (omega arith)

lower_name : (c : ℕ) (t : List ℕ) → c < 256 → name_rest Between (lower_unit_escape c ++ t) ≡ before (c ∷ []) (name_rest Between t)
unfolding lower_unit_escape
lower_name c t l = four_digits false 0 0 (c / 16) (c % 16) c t (omega arith) (omega arith) (omega arith) (omega arith) (omega arith)

-- digits in braces
or_no : (b : Bool) → (b || false) ≡ b
or_no true = refl
or_no false = refl

braced_run : (value : ℕ) (some : Bool) (ds t : List ℕ) → AllDigits 16 ds → name_rest (Braced some value) (ds ++ t) ≡ name_rest (Braced (some || nat_lt 0 (length ds)) (digits_value_after 16 value ds)) t
unfolding name_rest
braced_run value some [] t h = rw (or_no some) refl
braced_run value some (d ∷ ds) t h =
    let e : (some || nat_lt 0 (suc (length ds))) ≡ true = or_right some (nat_lt 0 (suc (length ds))) (lt-ltb 0 (suc (length ds)) (omega arith)) in
    rw (hex_from_value d h.0, e) (braced_run (value * 16 + digit_value d) true ds t h.1)

braced_ends : (value : ℕ) (t : List ℕ) → value ≤ 1114111 → name_rest (Braced true value) (125 ∷ t) ≡ before (value ∷ []) (name_rest Between t)
unfolding name_rest is_hex is_digit
braced_ends value t l = rw (le-leb value 1114111 l) refl

braced_opens : (t : List ℕ) → name_rest Unicode (123 ∷ t) ≡ name_rest (Braced false 0) t
unfolding name_rest
braced_opens t = refl

braced_name : (c : ℕ) (t : List ℕ) → c < 1114112 → name_rest Between (braced_escape c ++ t) ≡ before (c ∷ []) (name_rest Between t)
unfolding braced_escape
braced_name c t l =
    let big : c < 16 ^ 64 = omega (arith, l) in
    let ds = digits 16 true c in
    let n : IsNumeral 16 ds × (digits_value 16 ds ≡ c) = digits_is_IsNumeral 16 true (omega arith) (omega arith) c big in
    let e : codes "\\u{" ++ (ds ++ codes "}") ++ t ≡ 92 ∷ 117 ∷ 123 ∷ (ds ++ 125 ∷ t) = ap (λ x. 92 ∷ 117 ∷ 123 ∷ x) (append_assoc ds (codes "}") t) in
    ap (λ x. name_rest Between x) e ∙
    (opens (123 ∷ (ds ++ 125 ∷ t)) ∙
    (braced_opens (ds ++ 125 ∷ t) ∙
    (braced_run 0 false ds (125 ∷ t) n.0.1 ∙
    (ap (λ b. name_rest (Braced b (digits_value 16 ds)) (125 ∷ t)) (lt-ltb 0 (length ds) n.0.0) ∙
    (ap (λ v. name_rest (Braced true v) (125 ∷ t)) n.1 ∙
    braced_ends c t (omega arith))))))

-- one character that an escape of a name can stand for
abbrev pub fits : Bool → EsVersion → ℕ → Bool
fits key v c = not (if key then wants_quotes v c else (nat_le 65536 c && up_to_es5 v))

not_old : (key : Bool) (v : EsVersion) (c : ℕ) → 65536 ≤ c → fits key v c ≡ true → up_to_es5 v ≡ false
unfolding wants_quotes
not_old true v c g f = let p = or_parts (nat_le 127 c && nat_lt c 256) (nat_le 65536 c && up_to_es5 v) (not-true ((nat_le 127 c && nat_lt c 256) || (nat_le 65536 c && up_to_es5 v)) f) in sym (ap (λ b. b && up_to_es5 v) (le-leb 65536 c g)) ∙ p.1
not_old false v c g f = sym (ap (λ b. b && up_to_es5 v) (le-leb 65536 c g)) ∙ not-true (nat_le 65536 c && up_to_es5 v) f

not_low : (key : Bool) (v : EsVersion) (c : ℕ) → 127 ≤ c → c < 256 → fits key v c ≡ true → key ≡ false
unfolding wants_quotes
not_low false v c g l f = refl
not_low true v c g l f =
    let p = or_parts (nat_le 127 c && nat_lt c 256) (nat_le 65536 c && up_to_es5 v) (not-true ((nat_le 127 c && nat_lt c 256) || (nat_le 65536 c && up_to_es5 v)) f) in
    absurd (false≢true (sym p.0 ∙ and_from (nat_le 127 c) (nat_lt c 256) (le-leb 127 c g) (lt-ltb c 256 l)))

stands_low : (key : Bool) (v : EsVersion) (c : ℕ) → c < 127 → name_escape key v c ≡ c ∷ []
unfolding name_escape
stands_low key v c l = rw (lt-ltb c 127 l) refl

-- an escape that `P` holds of
pub escape_cases : (P : List ℕ → Type 0) (key : Bool) (v : EsVersion) (c : ℕ) → 127 ≤ c → (c < 256 → key ≡ false → P (lower_unit_escape c)) → (c < 256 → key ≡ true → P (hex_escape c)) → (256 ≤ c → c < 65536 → P (unit_escape c)) →
    (65536 ≤ c → up_to_es5 v ≡ true → P (pair_escape c)) → (65536 ≤ c → up_to_es5 v ≡ false → P (braced_escape c)) → P (name_escape key v c)
unfolding name_escape code_escape
escape_cases P key v c g lower hex unit pair braced = rw (le-ltb c 127 g) (elim (cases_lt c 256) [
  | inl l ↦ rw (lt-ltb c 256 l) (by_key key (lower l) (hex l))
  | inr m ↦ rw (le-ltb c 256 m) (elim (cases_lt c 65536) [
    | inl l ↦ rw (lt-ltb c 65536 l) (unit m l)
    | inr w ↦ rw (le-ltb c 65536 w) (chosen P (up_to_es5 v) (pair_escape c) (braced_escape c) (pair w) (braced w))
  ])
])
  where
    by_key : (k : Bool) → (k ≡ false → P (lower_unit_escape c)) → (k ≡ true → P (hex_escape c)) → P (if not k then lower_unit_escape c else hex_escape c)
    by_key true f h = h refl
    by_key false f h = f refl

escaped_name : (key : Bool) (v : EsVersion) (c : ℕ) (t : List ℕ) → 127 ≤ c → c < 1114112 → fits key v c ≡ true → name_rest Between (name_escape key v c ++ t) ≡ before (c ∷ []) (name_rest Between t)
escaped_name key v c t g l f =
    escape_cases (λ x. name_rest Between (x ++ t) ≡ before (c ∷ []) (name_rest Between t)) key v c g
    (λ s _. lower_name c t s) (λ s k. absurd (false≢true (sym (not_low key v c g s f) ∙ k))) (λ _ s. unit_name c t s)
    (λ w o. absurd (false≢true (sym (not_old key v c w f) ∙ o))) (λ _ _. braced_name c t l)

-- nothing is read of other characters inside an escape
pub lost_name : (a : ℕ) (t : List ℕ) (place : Place) → is_hex a ≡ false → (a == 117) ≡ false → (a == 123) ≡ false → (a == 125) ≡ false → (place ≡ Between → ⊥) → name_rest place (a ∷ t) ≡ None
unfolding name_rest
lost_name a t Between h i j k n = absurd (n refl)
lost_name a t Escaped h i j k n = rw i refl
lost_name a t (Due zero v) h i j k n = refl
lost_name a t (Due (suc zero) v) h i j k n = rw h refl
lost_name a t (Due (suc (suc m)) v) h i j k n = rw h refl
lost_name a t Unicode h i j k n = rw (j, h) refl
lost_name a t (Braced s v) h i j k n = rw (h, k) refl
lost_name a t (Octal m v) h i j k n = refl
lost_name a t Continued h i j k n = refl

hex_backslash : is_hex 92 ≡ false
unfolding is_hex is_digit
hex_backslash = refl

pub wide_hex : (c : ℕ) → 127 ≤ c → is_hex c ≡ false
unfolding is_hex is_digit
wide_hex c g = false_from_ne_true _ (λ h. too_high h)
  where
    too_high : ((nat_le 48 c && nat_le c 57) || ((nat_le 65 c && nat_le c 70) || (nat_le 97 c && nat_le c 102))) ≡ true → ⊥
    too_high h =
        let n : (a : ℕ) → a < 127 → nat_le c a ≡ false = λ a l. false_from_ne_true (nat_le c a) (λ e. let m = leb-true c a e in omega (arith, m, l, g)) in
        false≢true (sym (rw (n 57 (omega arith), n 70 (omega arith), n 102 (omega arith), and_no (nat_le 48 c), and_no (nat_le 65 c), and_no (nat_le 97 c)) refl) ∙ h)
      where
        and_no : (b : Bool) → (b && false) ≡ false
        and_no true = refl
        and_no false = refl

pub lost_wide : (c : ℕ) (t : List ℕ) (place : Place) → 127 ≤ c → (place ≡ Between → ⊥) → name_rest place (c ∷ t) ≡ None
lost_wide c t place g n = lost_name c t place (wide_hex c g) (ne_eqb c 117 (λ e. omega arith)) (ne_eqb c 123 (λ e. omega arith)) (ne_eqb c 125 (λ e. omega arith)) n

lost_escape : (key : Bool) (v : EsVersion) (c : ℕ) (t : List ℕ) (place : Place) → 127 ≤ c → (place ≡ Between → ⊥) → name_rest place (name_escape key v c ++ t) ≡ None
unfolding lower_unit_escape hex_escape unit_escape pair_escape braced_escape
lost_escape key v c t place g n =
    let lost : (x : List ℕ) → name_rest place (92 ∷ x) ≡ None = λ x. lost_name 92 x place hex_backslash refl refl refl n in
    escape_cases (λ x. name_rest place (x ++ t) ≡ None) key v c g (λ _ _. lost _) (λ _ _. lost _) (λ _ _. lost _) (λ _ _. lost _) (λ _ _. lost _)

-- a character before texts that are read alike
alike : (place : Place) (c : ℕ) (x y : List ℕ) → ((p : Place) → name_rest p x ≡ name_rest p y) → name_rest place (c ∷ x) ≡ name_rest place (c ∷ y)
unfolding name_rest
alike Between c x y h = elim (cases_Bool (c == 92)) [ inl e ↦ rw e (h Escaped) | inr e ↦ rw e (ap (λ o. before (c ∷ []) o) (h Between)) ]
alike Escaped c x y h = elim (cases_Bool (c == 117)) [ inl e ↦ rw e (h Unicode) | inr e ↦ rw e refl ]
alike (Due zero v) c x y h = refl
alike (Due (suc zero) v) c x y h = elim (cases_Bool (is_hex c)) [ inl e ↦ rw e (ap (λ o. before ((v * 16 + digit_value c) ∷ []) o) (h Between)) | inr e ↦ rw e refl ]
alike (Due (suc (suc n)) v) c x y h = elim (cases_Bool (is_hex c)) [ inl e ↦ rw e (h (Due (suc n) (v * 16 + digit_value c))) | inr e ↦ rw e refl ]
alike Unicode c x y h = elim (cases_Bool (c == 123)) [
  | inl e ↦ rw e (h (Braced false 0))
  | inr n ↦ elim (cases_Bool (is_hex c)) [ inl e ↦ rw (n, e) (h (Due 3 (digit_value c))) | inr e ↦ rw (n, e) refl ]
]
alike (Braced s v) c x y h = elim (cases_Bool (is_hex c)) [
  | inl e ↦ rw e (h (Braced true (v * 16 + digit_value c)))
  | inr n ↦ elim (cases_Bool ((c == 125) && (s && nat_le v 1114111))) [ inl e ↦ rw (n, e) (ap (λ o. before (v ∷ []) o) (h Between)) | inr e ↦ rw (n, e) refl ]
]
alike (Octal m v) c x y h = refl
alike Continued c x y h = refl

plain_name : (c : ℕ) (t : List ℕ) → 127 ≤ c → name_rest Between (c ∷ t) ≡ before (c ∷ []) (name_rest Between t)
unfolding name_rest
plain_name c t g = rw (ne_eqb c 92 (λ e. omega arith)) refl

pub is_between : (place : Place) → (place ≡ Between) ⊎ (place ≡ Between → ⊥)
is_between Between = inl refl
is_between Escaped = inr (λ e. cc)
is_between (Due n v) = inr (λ e. cc)
is_between Unicode = inr (λ e. cc)
is_between (Braced s v) = inr (λ e. cc)
is_between (Octal m v) = inr (λ e. cc)
is_between Continued = inr (λ e. cc)

one_named : (key : Bool) (v : EsVersion) (place : Place) (c : ℕ) (cs rest : List ℕ) → c < 1114112 → fits key v c ≡ true → ((p : Place) → name_rest p rest ≡ name_rest p cs) → name_rest place (name_escape key v c ++ rest) ≡ name_rest place (c ∷ cs)
one_named key v place c cs rest l f h = elim (cases_lt c 127) [
  | inl s ↦ ap (λ x. name_rest place (x ++ rest)) (stands_low key v c s) ∙ alike place c rest cs h
  | inr g ↦ elim (is_between place) [
    | inl e ↦ subst (λ p. name_rest p (name_escape key v c ++ rest) ≡ name_rest p (c ∷ cs)) (sym e) (escaped_name key v c rest g l f ∙ (ap (λ o. before (c ∷ []) o) (h Between) ∙ sym (plain_name c cs g)))
    | inr n ↦ lost_escape key v c rest place g n ∙ sym (lost_wide c cs place g n)
  ]
]

pub named : (key : Bool) (v : EsVersion) (cs : List ℕ) → scalars cs ≡ true → list_all (fits key v) cs ≡ true → (place : Place) → name_rest place (name_escapes key v cs) ≡ name_rest place cs
unfolding name_escapes
named key v [] s f place = refl
named key v (c ∷ cs) s f place =
    let p = and_parts (scalar c) (scalars cs) s in
    let q = and_parts (fits key v c) (list_all (fits key v) cs) f in
    one_named key v place c cs (name_escapes key v cs) (scalar_bound c p.0) q.0 (λ r. named key v cs p.1 q.1 r)
