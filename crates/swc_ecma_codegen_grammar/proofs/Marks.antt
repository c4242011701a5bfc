-- What is found in the table of punctuators, and in that of what opens a comment.
use Rattle.std.proofs.Common.{Bool, List, [], codes, false, inl, inr, not, refl, subst, sym, true, ℕ, ◌&&◌, ◌++◌, ◌==◌, ◌||◌, ◌∙◌, ◌∷◌, ◌≡◌}
use Rattle.std.proofs.lemmas.Bool.{and_parts, eqb-true, false_from_ne_true, not-true, or_cases, or_parts, true≢false}
use Rattle.swc_ecma_codegen_grammar.proofs.CharLaws.{digit_part}
use Rattle.swc_ecma_codegen_grammar.proofs.NameShapes.{starts_name}
use Rattle.swc_ecma_codegen_grammar.proofs.Tables.{begins_append, each, each_at, each_begins, eq_of_same}
use Rattle.swc_ecma_codegen_grammar.specs.Chars.{begins_digit, is_blank, is_digit, is_letter, is_part, is_quote, is_start}
use Rattle.swc_ecma_codegen_grammar.specs.LongestMatch.{openers}
use Rattle.swc_ecma_codegen_grammar.specs.Punctuators.{is_punctuator, punctuators}
use Rattle.swc_ecma_codegen_grammar.specs.Texts.{begins, is_among, is_same, some_begins}

-- the characters of punctuators
unfoldable is_mark : ℕ → Bool
is_mark c = not ((is_part c || starts_name c) || (is_blank c || (is_quote c || ((c == 96) || (c == 35)))))

unfoldable all_mark : List ℕ → Bool
all_mark [] = true
all_mark (c ∷ cs) = is_mark c && all_mark cs

unfoldable is_some : List ℕ → Bool
is_some [] = false
is_some (c ∷ cs) = true

marks : each (λ p. is_some p && all_mark p) punctuators ≡ true
unfolding each is_some all_mark is_mark starts_name is_part is_start is_letter is_digit is_blank is_quote punctuators
marks = refl

all_marks : (t : List ℕ) → is_among t punctuators ≡ true → (is_some t && all_mark t) ≡ true
all_marks t h = each_at (λ p. is_some p && all_mark p) t punctuators marks h

-- no name, blank or backslash begins with the character of a punctuator
pub record NoName (c : ℕ) : Type 0 where
  pub part : is_part c ≡ false
  pub start : starts_name c ≡ false
  pub blank : is_blank c ≡ false
  pub quote : is_quote c ≡ false
  pub tick : (c == 96) ≡ false
  pub hash : (c == 35) ≡ false

mark_says : (c : ℕ) → is_mark c ≡ true → NoName c
unfolding is_mark
mark_says c h =
    let o = or_parts (is_part c || starts_name c) _ (not-true _ h) in
    let a = or_parts (is_part c) _ o.0 in
    let b = or_parts (is_blank c) (is_quote c || ((c == 96) || (c == 35))) o.1 in
    let d = or_parts (is_quote c) ((c == 96) || (c == 35)) b.1 in
    let e = or_parts (c == 96) (c == 35) d.1 in
    record { part = a.0; start = a.1; blank = b.0; quote = d.0; tick = e.0; hash = e.1 }

no_digit_next : (cs : List ℕ) → all_mark cs ≡ true → begins_digit cs ≡ false
unfolding all_mark begins_digit
no_digit_next [] h = refl
no_digit_next (c ∷ cs) h = false_from_ne_true _ (λ d. true≢false (sym (digit_part c d) ∙ (mark_says c (and_parts (is_mark c) (all_mark cs) h).0).part))

-- a punctuator has a first character
pub mark_head : (t : List ℕ) → is_among t punctuators ≡ true → (c : ℕ) × (cs : List ℕ) × (t ≡ c ∷ cs) × NoName c × (begins_digit cs ≡ false)
unfolding is_some all_mark
mark_head [] h = absurd (let m = all_marks [] h in cc)
mark_head (c ∷ cs) h = let m = and_parts (is_mark c) (all_mark cs) (all_marks (c ∷ cs) h) in (c, cs, refl, mark_says c m.0, no_digit_next cs m.1)

next_mark : (t : List ℕ) (c : ℕ) (p : List ℕ) → begins (t ++ c ∷ []) p ≡ true → all_mark p ≡ true → is_mark c ≡ true
unfolding begins all_mark
next_mark [] c [] h m = absurd (cc)
next_mark [] c (d ∷ ds) h m = rw (eqb-true c d (and_parts (c == d) _ h).0) (and_parts (is_mark d) _ m).0
next_mark (x ∷ xs) c [] h m = absurd (cc)
next_mark (x ∷ xs) c (d ∷ ds) h m = next_mark xs c ds (and_parts (x == d) _ h).1 (and_parts (is_mark d) _ m).1

-- what makes a punctuator longer is no name character and no blank
pub grows_says : (t : List ℕ) (c : ℕ) → some_begins (t ++ c ∷ []) punctuators ≡ true → NoName c
grows_says t c h =
    let found = each_begins (λ p. is_some p && all_mark p) (t ++ c ∷ []) punctuators marks h in
    mark_says c (next_mark t c found.0 found.2 (and_parts (is_some found.0) _ found.1).1)

-- `?.` begins no other punctuator
choice_mark : each (λ p. not (begins (codes "?.") p) || is_same p (codes "?.")) punctuators ≡ true
unfolding each begins is_same punctuators
choice_mark = refl

pub choice_alone : (m : List ℕ) → is_among (codes "?." ++ m) punctuators ≡ true → m ≡ []
choice_alone m h =
    let q = each_at (λ p. not (begins (codes "?.") p) || is_same p (codes "?.")) (codes "?." ++ m) punctuators choice_mark h in
    let e : codes "?." ++ m ≡ codes "?." =
    elim (or_cases _ _ q) [ inl other ↦ absurd (let f = not-true _ other in let t = begins_append (codes "?.") m in true≢false (sym t ∙ f)) | inr same ↦ eq_of_same _ _ same ] in
    cc

-- one of the four that open a comment
pub opener_cases : (P : List ℕ → Type 0) (o : List ℕ) → is_among o openers ≡ true → P (codes "//") → P (codes "/*") → P (codes "<!--") → P (codes "-->") → P o
unfolding is_among openers
opener_cases P o h a b c d =
    elim (or_cases _ _ h) [
      | inl e ↦ subst P (sym (eq_of_same o (codes "//") e)) a
      | inr h1 ↦ elim (or_cases _ _ h1) [
        | inl e ↦ subst P (sym (eq_of_same o (codes "/*") e)) b
        | inr h2 ↦ elim (or_cases _ _ h2) [
          | inl e ↦ subst P (sym (eq_of_same o (codes "<!--") e)) c
          | inr h3 ↦ elim (or_cases _ _ h3) [
            | inl e ↦ subst P (sym (eq_of_same o (codes "-->") e)) d
            | inr h4 ↦ absurd (cc)
          ]
        ]
      ]
    ]

pub punctuator_among : (t : List ℕ) → is_punctuator t ≡ true → is_among t punctuators ≡ true
unfolding is_punctuator
punctuator_among t h = h

pub some_punctuator : is_punctuator [] ≡ true → ⊥
unfolding is_punctuator is_among punctuators is_same
some_punctuator h = true≢false (sym h)

-- the semicolon that ends a statement is one
pub ending_punctuator : (t : List ℕ) → is_same t (codes ";") ≡ true → is_punctuator t ≡ true
unfolding is_punctuator is_among punctuators is_same
ending_punctuator t h = subst (λ z. is_among z punctuators ≡ true) (sym (eq_of_same t (codes ";") h)) refl
