-- A text that has a cooked value is the inside of one part of a template.
use Rattle.std.proofs.Common.{◌≡◌, ℕ, zero, suc, ◌+◌, ◌-◌, ◌*◌, ◌≤◌, Bool, true, false, not, ◌&&◌, ◌||◌, ◌==◌, List, [], ◌∷◌, ◌++◌, length, take, nat_le, refl, sym, ap, ◌∙◌, arith, inl, inr, if◌then◌else◌, codes, Some, None}
use Rattle.std.specs.Char.{digit_value}
use Rattle.std.proofs.Math.Seq.{take-append_seam}
use Rattle.std.proofs.lemmas.List.{length-append}
use Rattle.std.proofs.lemmas.Bool.{cases_Bool, or_right, and_parts, and_from, ne_eqb, eqb-true, false≢true}
use Rattle.swc_ecma_codegen_grammar.specs.Chars.{is_digit, begins_digit}
use Rattle.swc_ecma_codegen_grammar.specs.Numbers.{is_hex}
use Rattle.swc_ecma_codegen_grammar.specs.declared.kinds.TemplatePart.{TemplatePart}
use Rattle.swc_ecma_codegen_grammar.specs.Templates.{ends_template, before_end, part_end, goes_on_as, is_template, is_template_rest, IsInsidePart}
use Rattle.swc_ecma_codegen_grammar.specs.Texts.{begins, is_empty, is_same}
use Rattle.swc_ecma_codegen_grammar.specs.CodeUnits.{utf16}
use Rattle.swc_ecma_codegen_grammar.specs.declared.units.Place.{Place}
use Rattle.swc_ecma_codegen_grammar.specs.declared.units.Place.TheVariants.{Between, Escaped, Due, Unicode, Braced, Octal, Continued}
use Rattle.swc_ecma_codegen_grammar.specs.StringValues.{before, single_escape}
use Rattle.swc_ecma_codegen_grammar.specs.TemplateValues.{cooked_rest, cooked_value}
use Rattle.swc_ecma_codegen_literals.proofs.TemplateReads.{has, rest_has, when, unless}
use Rattle.swc_ecma_codegen_literals.proofs.TemplateCooks.{Inside, is_inner, inner_char}

abbrev end : Bool → List ℕ
end o = if o then codes "${" else codes "`"

abbrev escaped : Place → Bool
escaped Escaped = true
escaped place = false

abbrev is_read : Place → Bool
is_read Between = true
is_read Escaped = true
is_read (Due n v) = true
is_read Unicode = true
is_read (Braced s v) = true
is_read (Octal m v) = false
is_read Continued = false

-- the rest of a part, from a place of its text on
abbrev Ends : Bool → List ℕ → Type 0
Ends o text = (place : Place) → is_read place ≡ true → has (cooked_rest place text) ≡ true → ends_template o (escaped place) (text ++ end o) ≡ true

end_ends : (o : Bool) → ends_template o false (end o) ≡ true
unfolding ends_template is_empty begins is_same
end_ends true = refl
end_ends false = refl

begins_before : (o : Bool) (cs : List ℕ) → begins (123 ∷ []) (cs ++ end o) ≡ begins (123 ∷ []) cs
unfolding begins
begins_before true [] = refl
begins_before false [] = refl
begins_before o (c ∷ cs) = refl

text_ends : (o : Bool) (c : ℕ) (cs : List ℕ) → (c == 96) ≡ false → ((c == 36) && begins (123 ∷ []) cs) ≡ false → ends_template o false ((c ∷ cs) ++ end o) ≡ ends_template o (c == 92) (cs ++ end o)
unfolding ends_template
text_ends o c cs n d = rw (n, ap (λ b. (c == 36) && b) (begins_before o cs) ∙ d) refl

escape_ends : (o : Bool) (c : ℕ) (cs : List ℕ) → ends_template o true ((c ∷ cs) ++ end o) ≡ ends_template o false (cs ++ end o)
unfolding ends_template
escape_ends o c cs = refl

inner_ends : (o : Bool) (c : ℕ) (cs : List ℕ) → Inside c → ends_template o false ((c ∷ cs) ++ end o) ≡ ends_template o false (cs ++ end o)
inner_ends o c cs x =
    let l = x.low in
    let d : (c == 36) ≡ false = ne_eqb c 36 (λ e. omega (arith, e, l)) in
    text_ends o c cs (ne_eqb c 96 x.no_quote) (ap (λ b. b && begins (123 ∷ []) cs) d) ∙ ap (λ b. ends_template o b (cs ++ end o)) (ne_eqb c 92 x.no_backslash)

between_ends : (o : Bool) (c : ℕ) (cs : List ℕ) → has (cooked_rest Between (c ∷ cs)) ≡ true → Ends o cs → ends_template o false ((c ∷ cs) ++ end o) ≡ true
unfolding cooked_rest
between_ends o c cs h i =
    let p = unless (c == 96) (if (c == 36) && begins (123 ∷ []) cs then None else if c == 92 then cooked_rest Escaped cs else if c == 13 then (if begins (10 ∷ []) cs then cooked_rest Between cs else before (10 ∷ []) (cooked_rest Between cs)) else before (utf16 c) (cooked_rest Between cs)) h in
    let q = unless ((c == 36) && begins (123 ∷ []) cs) (if c == 92 then cooked_rest Escaped cs else if c == 13 then (if begins (10 ∷ []) cs then cooked_rest Between cs else before (10 ∷ []) (cooked_rest Between cs)) else before (utf16 c) (cooked_rest Between cs)) p.1 in
    text_ends o c cs p.0 q.0 ∙ by_slash (c == 92) (c == 13) (begins (10 ∷ []) cs) q.1
  where
    by_slash : (slash return feed : Bool) → has (if slash then cooked_rest Escaped cs else if return then (if feed then cooked_rest Between cs else before (10 ∷ []) (cooked_rest Between cs)) else before (utf16 c) (cooked_rest Between cs)) ≡ true → ends_template o slash (cs ++ end o) ≡ true
    by_slash true return feed k = i Escaped refl k
    by_slash false true true k = i Between refl k
    by_slash false true false k = i Between refl (rest_has (10 ∷ []) (cooked_rest Between cs) k)
    by_slash false false feed k = i Between refl (rest_has (utf16 c) (cooked_rest Between cs) k)

inner_on : (place : Place) (o : Bool) (c : ℕ) (cs : List ℕ) → is_inner place ≡ true → has (cooked_rest place (c ∷ cs)) ≡ true → Ends o cs → ends_template o false (cs ++ end o) ≡ true
unfolding cooked_rest
inner_on Between o c cs p h i = absurd (false≢true p)
inner_on Escaped o c cs p h i = absurd (false≢true p)
inner_on (Due zero v) o c cs p h i = absurd (false≢true h)
inner_on (Due (suc zero) v) o c cs p h i = i Between refl (rest_has ((v * 16 + digit_value c) ∷ []) (cooked_rest Between cs) (when (is_hex c) (before ((v * 16 + digit_value c) ∷ []) (cooked_rest Between cs)) h).1)
inner_on (Due (suc (suc n)) v) o c cs p h i = i (Due (suc n) (v * 16 + digit_value c)) refl (when (is_hex c) (cooked_rest (Due (suc n) (v * 16 + digit_value c)) cs) h).1
inner_on Unicode o c cs p h i = elim (cases_Bool (c == 123)) [
  | inl y ↦ i (Braced false 0) refl (rw y at h)
  | inr n ↦ i (Due 3 (digit_value c)) refl (when (is_hex c) (cooked_rest (Due 3 (digit_value c)) cs) (rw n at h)).1
]
inner_on (Braced s v) o c cs p h i = elim (cases_Bool (is_hex c)) [
  | inl y ↦ i (Braced true (v * 16 + digit_value c)) refl (rw y at h)
  | inr n ↦ i Between refl (rest_has (utf16 v) (cooked_rest Between cs) (when ((c == 125) && (s && nat_le v 1114111)) (before (utf16 v) (cooked_rest Between cs)) (rw n at h)).1)
]
inner_on (Octal m v) o c cs p h i = absurd (false≢true p)
inner_on Continued o c cs p h i = absurd (false≢true p)

-- after a backslash, but for CR LF
escaped_on : (o : Bool) (c : ℕ) (cs : List ℕ) → ((c == 13) && begins (10 ∷ []) cs) ≡ false → has (cooked_rest Escaped (c ∷ cs)) ≡ true → Ends o cs → ends_template o false (cs ++ end o) ≡ true
unfolding cooked_rest
escaped_on o c cs n h i = by_tests (c == 120) (c == 117) ((c == 48) && not (begins_digit cs)) (is_digit c) (c == 13) (begins (10 ∷ []) cs) ((c == 10) || ((c == 8232) || (c == 8233))) n h
  where
    by_tests : (x u z digit return feed line : Bool) → (return && feed) ≡ false → has (if x then cooked_rest (Due 2 0) cs else if u then cooked_rest Unicode cs else if z then before (0 ∷ []) (cooked_rest Between cs) else if digit then None else if return then cooked_rest (if feed then Continued else Between) cs else if line then cooked_rest Between cs else before (utf16 (single_escape c)) (cooked_rest Between cs)) ≡ true → ends_template o false (cs ++ end o) ≡ true
    by_tests true u z digit return feed line n k = i (Due 2 0) refl k
    by_tests false true z digit return feed line n k = i Unicode refl k
    by_tests false false true digit return feed line n k = i Between refl (rest_has (0 ∷ []) (cooked_rest Between cs) k)
    by_tests false false false true return feed line n k = absurd (false≢true k)
    by_tests false false false false true true line n k = absurd (false≢true (sym n))
    by_tests false false false false true false line n k = i Between refl k
    by_tests false false false false false feed true n k = i Between refl k
    by_tests false false false false false feed false n k = i Between refl (rest_has (utf16 (single_escape c)) (cooked_rest Between cs) k)

-- CR LF after a backslash
feed_reads : (ds : List ℕ) → cooked_rest Escaped (13 ∷ 10 ∷ ds) ≡ cooked_rest Between ds
unfolding cooked_rest is_digit begins
feed_reads ds = refl

feed_ends : (o : Bool) (ds : List ℕ) → ends_template o false ((10 ∷ ds) ++ end o) ≡ ends_template o false (ds ++ end o)
unfolding ends_template
feed_ends o ds = refl

feed_on : (o : Bool) (c : ℕ) (cs : List ℕ) → ((c == 13) && begins (10 ∷ []) cs) ≡ true → has (cooked_rest Escaped (c ∷ cs)) ≡ true → ((d : ℕ) (ds : List ℕ) → cs ≡ d ∷ ds → Ends o ds) → ends_template o false (cs ++ end o) ≡ true
unfolding begins
feed_on o c [] y h i = absurd (false≢true ((and_parts (c == 13) false y).1))
feed_on o c (d ∷ ds) y h i =
    let p = and_parts (c == 13) ((10 == d) && true) y in
    let c_is : c ≡ 13 = eqb-true c 13 p.0 in
    let d_is : 10 ≡ d = eqb-true 10 d (and_parts (10 == d) true p.1).0 in
    let k : has (cooked_rest Between ds) ≡ true = ap has (sym (ap (λ x. cooked_rest Escaped (c ∷ x ∷ ds)) (sym d_is) ∙ (ap (λ x. cooked_rest Escaped (x ∷ 10 ∷ ds)) c_is ∙ feed_reads ds))) ∙ h in
    ap (λ x. ends_template o false ((x ∷ ds) ++ end o)) (sym d_is) ∙ (feed_ends o ds ∙ i d ds refl Between refl k)

none_ends : (o : Bool) → Ends o []
unfolding cooked_rest
none_ends o Between p h = end_ends o
none_ends o Escaped p h = absurd (false≢true h)
none_ends o (Due n v) p h = absurd (false≢true h)
none_ends o Unicode p h = absurd (false≢true h)
none_ends o (Braced s v) p h = absurd (false≢true h)
none_ends o (Octal m v) p h = absurd (false≢true h)
none_ends o Continued p h = absurd (false≢true h)

place_ends : (place : Place) (o : Bool) (c : ℕ) (cs : List ℕ) → Ends o cs → ((d : ℕ) (ds : List ℕ) → cs ≡ d ∷ ds → Ends o ds) → is_read place ≡ true → has (cooked_rest place (c ∷ cs)) ≡ true → ends_template o (escaped place) ((c ∷ cs) ++ end o) ≡ true
place_ends Between o c cs i j p h = between_ends o c cs h i
place_ends Escaped o c cs i j p h = escape_ends o c cs ∙ (elim (cases_Bool ((c == 13) && begins (10 ∷ []) cs)) [ inl y ↦ feed_on o c cs y h j | inr n ↦ escaped_on o c cs n h i ])
place_ends (Due n v) o c cs i j p h = inner_ends o c cs (inner_char (Due n v) c cs refl h) ∙ inner_on (Due n v) o c cs refl h i
place_ends Unicode o c cs i j p h = inner_ends o c cs (inner_char Unicode c cs refl h) ∙ inner_on Unicode o c cs refl h i
place_ends (Braced s v) o c cs i j p h = inner_ends o c cs (inner_char (Braced s v) c cs refl h) ∙ inner_on (Braced s v) o c cs refl h i
place_ends (Octal m v) o c cs i j p h = absurd (false≢true p)
place_ends Continued o c cs i j p h = absurd (false≢true p)

all_end : (n : ℕ) (o : Bool) (text : List ℕ) → length text ≤ n → Ends o text
all_end n o [] l = none_ends o
all_end zero o (c ∷ cs) l = absurd (omega (arith, l))
all_end (suc n) o (c ∷ cs) l =
    λ place p h. place_ends place o c cs (all_end n o cs (omega (arith, l))) (λ d ds e. all_end n o ds (tail_le d ds e l)) p h
  where
    tail_le : (d : ℕ) (ds : List ℕ) → cs ≡ d ∷ ds → length (c ∷ cs) ≤ suc n → length ds ≤ n
    tail_le d ds e m = let k : length cs ≡ suc (length ds) = ap length e in omega (arith, k, m)

-- a text stands before the end that was put after it
pub text_before : (part : TemplatePart) (text : List ℕ) → before_end part (text ++ part_end part) ≡ text
unfolding before_end
text_before part text =
    let l : length (text ++ part_end part) ≡ length text + length (part_end part) = length-append text (part_end part) in
    let e : length (text ++ part_end part) - length (part_end part) ≡ length text = omega (arith, l) in
    ap (λ n. take n (text ++ part_end part)) e ∙ take-append_seam text (part_end part)

pub value_inside : (text units : List ℕ) → cooked_value text ≡ Some units → IsInsidePart text
unfolding is_template is_template_rest goes_on_as part_end
value_inside text units e = λ part.
    let h = all_end (length text) part.opens text (omega arith) Between refl (ap has e) in
    let c : has (cooked_value (before_end part (text ++ end part.opens))) ≡ true = ap (λ t. has (cooked_value t)) (text_before part text) ∙ ap has e in
    let g = and_from _ (part.tagged || has (cooked_value (before_end part (text ++ end part.opens)))) h (or_right part.tagged _ c) in
    (and_from true _ refl g, and_from true _ refl g)
