-- What may go on after the tokens of JSX.
use Rattle.std.proofs.Common.{List, [], codes, inl, inr, not, refl, subst, sym, true, ℕ, ◌++◌, ◌==◌, ◌||◌, ◌∷◌, ◌≡◌}
use Rattle.std.proofs.lemmas.Bool.{and_parts, or_cases, true≢false}
use Rattle.swc_ecma_codegen_grammar.proofs.Conditions.{empty_more, if_both}
use Rattle.swc_ecma_codegen_grammar.proofs.Tables.{eq_of_same}
use Rattle.swc_ecma_codegen_grammar.specs.Chars.{is_part, is_quote, is_start}
use Rattle.swc_ecma_codegen_grammar.specs.Jsx.{all_bare, all_tag, ends_jsx_string, is_bare, is_jsx_name, is_jsx_open, is_jsx_string, is_jsx_text}
use Rattle.swc_ecma_codegen_grammar.specs.Punctuators.{is_punctuator, punctuators}
use Rattle.swc_ecma_codegen_grammar.specs.Texts.{is_among, is_empty, is_same}

ends_once : (q : ℕ) (t : List ℕ) (c : ℕ) (m : List ℕ) → ends_jsx_string q t ≡ true → ends_jsx_string q (t ++ c ∷ m) ≡ true → ⊥
unfolding ends_jsx_string
ends_once q [] c m h k = true≢false (sym h)
ends_once q (d ∷ t) c m h k =
    elim (if_both (d == q) (is_empty t) (ends_jsx_string q t) (is_empty (t ++ c ∷ m)) (ends_jsx_string q (t ++ c ∷ m)) h k)
    [ inl r ↦ empty_more t c m r.1 | inr r ↦ ends_once q t c m r.0 r.1 ]

pub jsx_string_once : (t : List ℕ) (c : ℕ) (m : List ℕ) → is_jsx_string t ≡ true → is_jsx_string (t ++ c ∷ m) ≡ true → ⊥
unfolding is_jsx_string
jsx_string_once [] c m h k = true≢false (sym h)
jsx_string_once (q ∷ t) c m h k = ends_once q t c m (and_parts (is_quote q) (ends_jsx_string q t) h).1 (and_parts (is_quote q) (ends_jsx_string q (t ++ c ∷ m)) k).1

pub jsx_string_head : (c : ℕ) (n : List ℕ) → is_jsx_string (c ∷ n) ≡ true → is_quote c ≡ true
unfolding is_jsx_string
jsx_string_head c n h = (and_parts (is_quote c) _ h).0

pub some_jsx_string : is_jsx_string [] ≡ true → ⊥
unfolding is_jsx_string
some_jsx_string h = true≢false (sym h)

next_tag : (t : List ℕ) (c : ℕ) (m : List ℕ) → all_tag (t ++ c ∷ m) ≡ true → (is_part c || (45 == c)) ≡ true
unfolding all_tag
next_tag [] c m h = (and_parts (is_part c || (45 == c)) (all_tag m) h).0
next_tag (x ∷ xs) c m h = next_tag xs c m (and_parts (is_part x || (45 == x)) (all_tag (xs ++ c ∷ m)) h).1

pub jsx_name_more : (t : List ℕ) (c : ℕ) (m : List ℕ) → is_jsx_name t ≡ true → is_jsx_name (t ++ c ∷ m) ≡ true → (is_part c || (45 == c)) ≡ true
unfolding is_jsx_name
jsx_name_more [] c m h k = absurd (true≢false (sym h))
jsx_name_more (x ∷ xs) c m h k = next_tag xs c m (and_parts (is_start x) (all_tag (xs ++ c ∷ m)) k).1

pub jsx_name_head : (c : ℕ) (n : List ℕ) → is_jsx_name (c ∷ n) ≡ true → is_start c ≡ true
unfolding is_jsx_name
jsx_name_head c n h = (and_parts (is_start c) _ h).0

pub some_jsx_name : is_jsx_name [] ≡ true → ⊥
unfolding is_jsx_name
some_jsx_name h = true≢false (sym h)

next_bare : (t : List ℕ) (c : ℕ) (m : List ℕ) → all_bare (t ++ c ∷ m) ≡ true → is_bare c ≡ true
unfolding all_bare
next_bare [] c m h = (and_parts (is_bare c) (all_bare m) h).0
next_bare (x ∷ xs) c m h = next_bare xs c m (and_parts (is_bare x) (all_bare (xs ++ c ∷ m)) h).1

pub jsx_text_more : (t : List ℕ) (c : ℕ) (m : List ℕ) → is_jsx_text (t ++ c ∷ m) ≡ true → is_bare c ≡ true
unfolding is_jsx_text
jsx_text_more t c m h = next_bare t c m (and_parts (not (is_empty (t ++ c ∷ m))) (all_bare (t ++ c ∷ m)) h).1

pub some_jsx_text : is_jsx_text [] ≡ true → ⊥
unfolding is_jsx_text is_empty
some_jsx_text h = true≢false (sym h)

pub jsx_open_punctuator : (t : List ℕ) → is_jsx_open t ≡ true → is_punctuator t ≡ true
unfolding is_jsx_open is_punctuator is_among punctuators is_same
jsx_open_punctuator t h =
    elim (or_cases _ _ h) [
      | inl e ↦ subst (λ z. is_among z punctuators ≡ true) (sym (eq_of_same t (codes "{") e)) refl
      | inr f ↦ elim (or_cases _ _ f) [
        | inl e ↦ subst (λ z. is_among z punctuators ≡ true) (sym (eq_of_same t (codes "<") e)) refl
        | inr e ↦ absurd (true≢false (sym e))
      ]
    ]
