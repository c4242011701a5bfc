-- A string for inline scripts reads as the string that it was made of.
use Rattle.std.proofs.Common.{◌≡◌, ℕ, zero, suc, ◌+◌, ◌*◌, ◌<◌, ◌≤◌, Bool, true, false, not, ◌&&◌, ◌||◌, ◌==◌, List, [], ◌∷◌, nat_le, refl, sym, ap, ◌∙◌, arith, inl, inr, if◌then◌else◌, Option, None}
use Rattle.std.specs.Char.{digit_value}
use Rattle.std.proofs.lemmas.Bool.{cases_Bool, and_parts, or_from, or_parts, eqb-true, ne_eqb, not-true, false≢true}
use Rattle.swc_ecma_codegen_grammar.specs.Chars.{is_digit, begins_digit}
use Rattle.swc_ecma_codegen_grammar.specs.Numbers.{is_hex, is_octal, is_either}
use Rattle.swc_ecma_codegen_grammar.specs.Texts.{is_empty}
use Rattle.swc_ecma_codegen_grammar.specs.CodeUnits.{utf16, begins_like}
use Rattle.swc_ecma_codegen_grammar.specs.declared.units.Place.{Place}
use Rattle.swc_ecma_codegen_grammar.specs.declared.units.Place.TheVariants.{Between, Escaped, Due, Unicode, Braced, Octal, Continued}
use Rattle.swc_ecma_codegen_grammar.specs.StringValues.{before, single_escape, string_rest}
use Rattle.swc_ecma_codegen_literals.specs.InlineScripts.{is_tag_end, script_end, dashes_after, mark_text, marked}
use Rattle.swc_ecma_codegen_literals.proofs.StringReads.{IsQuote, Read, escapes, hex_not}
use Rattle.swc_ecma_codegen_literals.proofs.InlineMarks.{Mark, Stands, Opens, Ends, Closes, view, marked_nil, marked_as}

-- What an escape begins with after its backslash: no `<`, no `>`, no CR.
abbrev pub fine : ℕ → Bool
fine c = not ((c == 60) || ((c == 62) || (c == 13)))

-- each escape of a text begins so
unfoldable pub all_fine : Bool → List ℕ → Bool
all_fine escaped [] = true
all_fine true (c ∷ cs) = fine c && all_fine false cs
all_fine false (c ∷ cs) = all_fine (c == 92) cs

fine_parts : (c : ℕ) → fine c ≡ true → ((c == 60) ≡ false) × ((c == 62) ≡ false) × ((c == 13) ≡ false)
fine_parts c h =
    let p = or_parts (c == 60) ((c == 62) || (c == 13)) (not-true ((c == 60) || ((c == 62) || (c == 13))) h) in
    let q = or_parts (c == 62) (c == 13) p.1 in
    (p.0, q.0, q.1)

-- a character that isn't `<` or `>` stands
pub other_stands : (d c : ℕ) (cs : List ℕ) → (c == 60) ≡ false → (c == 62) ≡ false → marked d (c ∷ cs) ≡ c ∷ marked (dashes_after d c) cs
unfolding mark_text
other_stands d c cs n m = marked_as d c cs None (rw (n, m) refl)

slash_stands : (cs : List ℕ) → begins_like script_end cs ≡ true → (rest : List ℕ) × (cs ≡ 47 ∷ rest) × (marked 0 cs ≡ 47 ∷ marked 0 rest)
unfolding begins_like script_end
slash_stands [] h = absurd (false≢true h)
slash_stands (c ∷ cs) h =
    let e : c ≡ 47 = eqb-true c 47 (and_parts (c == 47) (begins_like (is_either 115 83 ∷ is_either 99 67 ∷ is_either 114 82 ∷ is_either 105 73 ∷ is_either 112 80 ∷ is_either 116 84 ∷ is_tag_end ∷ []) cs) h).0 in
    (cs, ap (λ x. x ∷ cs) e, ap (λ x. marked 0 (x ∷ cs)) e ∙ other_stands 0 47 cs refl refl)

-- the first character of what follows
same_digit : (d : ℕ) (cs : List ℕ) → begins_digit (marked d cs) ≡ begins_digit cs
unfolding begins_digit is_digit
same_digit d [] = ap begins_digit (marked_nil d)
same_digit d (c ∷ cs) = by_view (view d c cs)
  where
    by_view : Mark d c cs → begins_digit (marked d (c ∷ cs)) ≡ (nat_le 48 c && nat_le c 57)
    by_view (Stands m e o n l) = ap begins_digit e
    by_view (Opens i g m e) = ap begins_digit e ∙ rw i refl
    by_view (Ends i g m e) = ap begins_digit e ∙ rw i refl
    by_view (Closes i g m e) = ap begins_digit e ∙ rw i refl

same_empty : (d : ℕ) (cs : List ℕ) → is_empty (marked d cs) ≡ is_empty cs
unfolding is_empty
same_empty d [] = ap is_empty (marked_nil d)
same_empty d (c ∷ cs) = by_view (view d c cs)
  where
    by_view : Mark d c cs → is_empty (marked d (c ∷ cs)) ≡ false
    by_view (Stands m e o n l) = ap is_empty e
    by_view (Opens i g m e) = ap is_empty e
    by_view (Ends i g m e) = ap is_empty e
    by_view (Closes i g m e) = ap is_empty e

-- `<` and `>` are no quotes
no_angle : (q a : ℕ) → IsQuote q → 40 ≤ a → (a == q) ≡ false
unfolding IsQuote
no_angle q a h l = ne_eqb a q (λ e. elim h [ inl i ↦ omega (arith, i, e, l) | inr i ↦ omega (arith, i, e, l) ])

-- the places that a text is read from
abbrev pub Simple : Place → Type 0
Simple Between = Unit {0}
Simple Escaped = Unit {0}
Simple (Due n v) = Unit {0}
Simple Unicode = Unit {0}
Simple (Braced s v) = Unit {0}
Simple (Octal m v) = ⊥
Simple Continued = ⊥

abbrev pub is_escaped : Place → Bool
is_escaped Between = false
is_escaped Escaped = true
is_escaped (Due n v) = false
is_escaped Unicode = false
is_escaped (Braced s v) = false
is_escaped (Octal m v) = false
is_escaped Continued = false

abbrev Same : ℕ → List ℕ → Type 0
Same q cs = (d : ℕ) (place : Place) → Simple place → all_fine (is_escaped place) cs ≡ true → Read q place (marked d cs) ≡ Read q place cs

-- between characters
between_form : (q c : ℕ) (x y : List ℕ) → is_empty x ≡ is_empty y → ((c == 92) ≡ true → Read q Escaped x ≡ Read q Escaped y) → ((c == 92) ≡ false → Read q Between x ≡ Read q Between y) → Read q Between (c ∷ x) ≡ Read q Between (c ∷ y)
unfolding string_rest
between_form q c x y e f g = elim (cases_Bool (c == q)) [
  | inl h ↦ rw (h, e) refl
  | inr n ↦ elim (cases_Bool (c == 92)) [
    | inl h ↦ rw (n, h) (f h)
    | inr m ↦ rw (n, m) (ap (λ t. if is_either 10 13 c then None else before (utf16 c) t) (g m))
  ]
]

angle_reads : (q a : ℕ) (cs : List ℕ) → IsQuote q → 40 ≤ a → (a == 92) ≡ false → is_either 10 13 a ≡ false → Read q Between (a ∷ cs) ≡ before (utf16 a) (Read q Between cs)
unfolding string_rest
angle_reads q a cs h l n m = rw (no_angle q a h l, n, m) refl

no_ends : (a : ℕ) → 40 ≤ a → is_either 10 13 a ≡ false
unfolding is_either
no_ends a l = or_from (a == 10) (a == 13) (ne_eqb a 10 (λ e. omega (arith, e, l))) (ne_eqb a 13 (λ e. omega (arith, e, l)))

open_reads : (q : ℕ) (t : List ℕ) → IsQuote q → Read q Between (92 ∷ 120 ∷ 51 ∷ 99 ∷ t) ≡ before (utf16 60) (Read q Between t)
unfolding string_rest is_hex is_digit utf16
open_reads q t h = escapes q (120 ∷ 51 ∷ 99 ∷ t) h

close_reads : (q : ℕ) (t : List ℕ) → IsQuote q → Read q Between (92 ∷ 120 ∷ 51 ∷ 101 ∷ t) ≡ before (utf16 62) (Read q Between t)
unfolding string_rest is_hex is_digit utf16
close_reads q t h = escapes q (120 ∷ 51 ∷ 101 ∷ t) h

slash_reads : (q : ℕ) (t : List ℕ) → IsQuote q → Read q Escaped (47 ∷ t) ≡ Read q Between (47 ∷ t)
unfolding string_rest is_octal is_digit is_either single_escape
slash_reads q t h = rw (no_angle q 47 h (omega arith)) refl

end_reads : (q d : ℕ) (cs : List ℕ) → IsQuote q → begins_like script_end cs ≡ true → Read q Between (60 ∷ 92 ∷ marked 0 cs) ≡ before (utf16 60) (Read q Between (marked 0 cs))
end_reads q d cs h g =
    let s = slash_stands cs g in
    angle_reads q 60 (92 ∷ marked 0 cs) h (omega arith) refl (no_ends 60 (omega arith)) ∙
    ap (λ t. before (utf16 60) t) (escapes q (marked 0 cs) h ∙ (ap (λ t. Read q Escaped t) s.2 ∙ (slash_reads q (marked 0 s.0) h ∙ ap (λ t. Read q Between t) (sym s.2))))

fine_between : (c : ℕ) (cs : List ℕ) (b : Bool) → (c == 92) ≡ b → all_fine false (c ∷ cs) ≡ true → all_fine b cs ≡ true
unfolding all_fine
fine_between c cs b e h = ap (λ x. all_fine x cs) (sym e) ∙ h

between_step : (q d c : ℕ) (cs : List ℕ) → IsQuote q → Same q cs → all_fine false (c ∷ cs) ≡ true → Read q Between (marked d (c ∷ cs)) ≡ Read q Between (c ∷ cs)
between_step q d c cs h r b = by_view (view d c cs)
  where
    mark : (a : ℕ) → 60 ≤ a → a < 92 → c ≡ a → before (utf16 a) (Read q Between (marked 0 cs)) ≡ Read q Between (c ∷ cs)
    mark a l k i =
        let n : (a == 92) ≡ false = ne_eqb a 92 (λ e. omega arith) in
        let f : all_fine false cs ≡ true = fine_between c cs false (ap (λ x. x == 92) i ∙ n) b in
        ap (λ t. before (utf16 a) t) (r 0 Between tt f) ∙ (sym (angle_reads q a cs h (omega arith) n (no_ends a (omega arith))) ∙ ap (λ x. Read q Between (x ∷ cs)) (sym i))

    by_view : Mark d c cs → Read q Between (marked d (c ∷ cs)) ≡ Read q Between (c ∷ cs)
    by_view (Stands m e o n l) =
        ap (λ t. Read q Between t) e ∙
        between_form q c (marked (dashes_after d c) cs) cs (same_empty (dashes_after d c) cs)
        (λ y. r (dashes_after d c) Escaped tt (fine_between c cs true y b)) (λ y. r (dashes_after d c) Between tt (fine_between c cs false y b))
    by_view (Opens i g m e) = ap (λ t. Read q Between t) e ∙ (open_reads q (marked 0 cs) h ∙ mark 60 (omega arith) (omega arith) i)
    by_view (Ends i g m e) = ap (λ t. Read q Between t) e ∙ (end_reads q d cs h g ∙ mark 60 (omega arith) (omega arith) i)
    by_view (Closes i g m e) = ap (λ t. Read q Between t) e ∙ (close_reads q (marked 0 cs) h ∙ mark 62 (omega arith) (omega arith) i)

-- after a backslash
abbrev escape_form : ℕ → Bool → Option (List ℕ) → Option (List ℕ) → Option (List ℕ) → Option (List ℕ)
escape_form c digit due unicode between =
    if c == 120 then due
    else if c == 117 then unicode
    else if (c == 48) && not digit then before (0 ∷ []) between
    else if is_octal c then None
    else if is_digit c then None
    else if (c == 10) || ((c == 8232) || (c == 8233)) then between
    else before (utf16 (single_escape c)) between

escaped_form : (q c : ℕ) (x : List ℕ) → (c == 13) ≡ false → Read q Escaped (c ∷ x) ≡ escape_form c (begins_digit x) (Read q (Due 2 0) x) (Read q Unicode x) (Read q Between x)
unfolding string_rest
escaped_form q c x h = rw h refl

escaped_step : (q d c : ℕ) (cs : List ℕ) → Same q cs → all_fine true (c ∷ cs) ≡ true → Read q Escaped (marked d (c ∷ cs)) ≡ Read q Escaped (c ∷ cs)
unfolding all_fine
escaped_step q d c cs r b =
    let p = and_parts (fine c) (all_fine false cs) b in
    let f = fine_parts c p.0 in
    let n = dashes_after d c in
    let x = marked (dashes_after d c) cs in
    ap (λ t. Read q Escaped t) (other_stands d c cs f.0 f.1) ∙
    (escaped_form q c (marked (dashes_after d c) cs) f.2 ∙
    (ap (λ g. escape_form c g (Read q (Due 2 0) x) (Read q Unicode x) (Read q Between x)) (same_digit n cs) ∙
    (ap (λ t. escape_form c (begins_digit cs) t (Read q Unicode x) (Read q Between x)) (r n (Due 2 0) tt p.1) ∙
    (ap (λ t. escape_form c (begins_digit cs) (Read q (Due 2 0) cs) t (Read q Between x)) (r n Unicode tt p.1) ∙
    (ap (λ t. escape_form c (begins_digit cs) (Read q (Due 2 0) cs) (Read q Unicode cs) t) (r n Between tt p.1) ∙
    sym (escaped_form q c cs f.2))))))

-- inside an escape
data Inside : Place → Type 0 where
  InDue : (n v : ℕ) → Inside (Due n v)
  InUnicode : Inside Unicode
  InBraces : (s : Bool) (v : ℕ) → Inside (Braced s v)

-- nothing is read of `<`, `>` or a backslash there
lost : (q a : ℕ) (t : List ℕ) (place : Place) → Inside place → is_hex a ≡ false → (a == 123) ≡ false → (a == 125) ≡ false → Read q place (a ∷ t) ≡ None
unfolding string_rest
lost q a t (Due zero v) (InDue n w) h i j = refl
lost q a t (Due (suc zero) v) (InDue n w) h i j = rw h refl
lost q a t (Due (suc (suc n)) v) (InDue m w) h i j = rw h refl
lost q a t Unicode InUnicode h i j = rw (i, h) refl
lost q a t (Braced s v) (InBraces r w) h i j = rw (h, j) refl
lost q a t Between k h i j = elim k [ ]
lost q a t Escaped k h i j = elim k [ ]
lost q a t (Octal m v) k h i j = elim k [ ]
lost q a t Continued k h i j = elim k [ ]

hex_less : is_hex 60 ≡ false
unfolding is_hex is_digit
hex_less = refl

hex_more : is_hex 62 ≡ false
unfolding is_hex is_digit
hex_more = refl

hex_backslash : is_hex 92 ≡ false
unfolding is_hex is_digit
hex_backslash = refl

-- where the characters of a place are read alike
due_same : (q n v c : ℕ) (x y : List ℕ) → (is_hex c ≡ true → (place : Place) → Simple place → is_escaped place ≡ false → Read q place x ≡ Read q place y) → Read q (Due n v) (c ∷ x) ≡ Read q (Due n v) (c ∷ y)
unfolding string_rest
due_same q zero v c x y r = refl
due_same q (suc zero) v c x y r = elim (cases_Bool (is_hex c)) [ inl h ↦ rw h (ap (λ t. before ((v * 16 + digit_value c) ∷ []) t) (r h Between tt refl)) | inr n ↦ rw n refl ]
due_same q (suc (suc n)) v c x y r = elim (cases_Bool (is_hex c)) [ inl h ↦ rw h (r h (Due (suc n) (v * 16 + digit_value c)) tt refl) | inr m ↦ rw m refl ]

unicode_same : (q c : ℕ) (x y : List ℕ) → ((c == 92) ≡ false → (place : Place) → Simple place → is_escaped place ≡ false → Read q place x ≡ Read q place y) → Read q Unicode (c ∷ x) ≡ Read q Unicode (c ∷ y)
unfolding string_rest
unicode_same q c x y r = elim (cases_Bool (c == 123)) [
  | inl h ↦ rw h (r (brace c h) (Braced false 0) tt refl)
  | inr n ↦ elim (cases_Bool (is_hex c)) [ inl h ↦ rw (n, h) (r (hex_not c 92 h hex_backslash) (Due 3 (digit_value c)) tt refl) | inr m ↦ rw (n, m) refl ]
]
  where
    brace : (c : ℕ) → (c == 123) ≡ true → (c == 92) ≡ false
    brace c h = let e = eqb-true c 123 h in ne_eqb c 92 (λ f. omega arith)

braced_same : (q v c : ℕ) (s : Bool) (x y : List ℕ) → ((c == 92) ≡ false → (place : Place) → Simple place → is_escaped place ≡ false → Read q place x ≡ Read q place y) → Read q (Braced s v) (c ∷ x) ≡ Read q (Braced s v) (c ∷ y)
unfolding string_rest
braced_same q v c s x y r = elim (cases_Bool (is_hex c)) [
  | inl h ↦ rw h (r (hex_not c 92 h hex_backslash) (Braced true (v * 16 + digit_value c)) tt refl)
  | inr n ↦ elim (cases_Bool ((c == 125) && (s && nat_le v 1114111))) [
    | inl h ↦ rw (n, h) (ap (λ t. before (utf16 v) t) (r (brace c (and_parts (c == 125) (s && nat_le v 1114111) h).0) Between tt refl))
    | inr m ↦ rw (n, m) refl
  ]
]
  where
    brace : (c : ℕ) → (c == 125) ≡ true → (c == 92) ≡ false
    brace c h = let e = eqb-true c 125 h in ne_eqb c 92 (λ f. omega arith)

inside_same : (q c : ℕ) (x y : List ℕ) (place : Place) → Inside place → ((c == 92) ≡ false → (place : Place) → Simple place → is_escaped place ≡ false → Read q place x ≡ Read q place y) → Read q place (c ∷ x) ≡ Read q place (c ∷ y)
inside_same q c x y (Due n v) (InDue m w) r = due_same q n v c x y (λ h. r (hex_not c 92 h hex_backslash))
inside_same q c x y Unicode InUnicode r = unicode_same q c x y r
inside_same q c x y (Braced s v) (InBraces t w) r = braced_same q v c s x y r
inside_same q c x y Between k r = elim k [ ]
inside_same q c x y Escaped k r = elim k [ ]
inside_same q c x y (Octal m v) k r = elim k [ ]
inside_same q c x y Continued k r = elim k [ ]

inside_step : (q d c : ℕ) (cs : List ℕ) (place : Place) → Inside place → Same q cs → all_fine false (c ∷ cs) ≡ true → Read q place (marked d (c ∷ cs)) ≡ Read q place (c ∷ cs)
inside_step q d c cs place k r b = by_view (view d c cs)
  where
    gone : (a : ℕ) → is_hex a ≡ false → (a == 123) ≡ false → (a == 125) ≡ false → c ≡ a → None ≡ Read q place (c ∷ cs)
    gone a h i j e = sym (ap (λ x. Read q place (x ∷ cs)) e ∙ lost q a cs place k h i j)

    by_view : Mark d c cs → Read q place (marked d (c ∷ cs)) ≡ Read q place (c ∷ cs)
    by_view (Stands m e o n l) =
        ap (λ t. Read q place t) e ∙
        inside_same q c (marked (dashes_after d c) cs) cs place k (λ y p s f. r (dashes_after d c) p s (ap (λ x. all_fine x cs) f ∙ fine_between c cs false y b))
    by_view (Opens i g m e) = ap (λ t. Read q place t) e ∙ (lost q 92 (120 ∷ 51 ∷ 99 ∷ marked 0 cs) place k hex_backslash refl refl ∙ gone 60 hex_less refl refl i)
    by_view (Ends i g m e) = ap (λ t. Read q place t) e ∙ (lost q 60 (92 ∷ marked 0 cs) place k hex_less refl refl ∙ gone 60 hex_less refl refl i)
    by_view (Closes i g m e) = ap (λ t. Read q place t) e ∙ (lost q 92 (120 ∷ 51 ∷ 101 ∷ marked 0 cs) place k hex_backslash refl refl ∙ gone 62 hex_more refl refl i)

one_reads : (q d c : ℕ) (cs : List ℕ) (place : Place) → IsQuote q → Same q cs → Simple place → all_fine (is_escaped place) (c ∷ cs) ≡ true → Read q place (marked d (c ∷ cs)) ≡ Read q place (c ∷ cs)
one_reads q d c cs Between h r s b = between_step q d c cs h r b
one_reads q d c cs Escaped h r s b = escaped_step q d c cs r b
one_reads q d c cs (Due n v) h r s b = inside_step q d c cs (Due n v) (InDue n v) r b
one_reads q d c cs Unicode h r s b = inside_step q d c cs Unicode InUnicode r b
one_reads q d c cs (Braced t v) h r s b = inside_step q d c cs (Braced t v) (InBraces t v) r b
one_reads q d c cs (Octal m v) h r s b = absurd s
one_reads q d c cs Continued h r s b = absurd s

pub marked_reads : (q : ℕ) (cs : List ℕ) → IsQuote q → (d : ℕ) (place : Place) → Simple place → all_fine (is_escaped place) cs ≡ true → Read q place (marked d cs) ≡ Read q place cs
marked_reads q [] h d place s b = ap (λ t. Read q place t) (marked_nil d)
marked_reads q (c ∷ cs) h d place s b = one_reads q d c cs place h (λ n p k f. marked_reads q cs h n p k f) s b
