-- What may go on after a name or a word, and how they begin.
use Rattle.std.proofs.Common.{Bool, List, [], false, inl, inr, nat_le, refl, subst, sym, true, ℕ, ◌&&◌, ◌*◌, ◌++◌, ◌+◌, ◌==◌, ◌||◌, ◌∙◌, ◌∷◌, ◌≡◌}
use Rattle.std.proofs.lemmas.Bool.{and_from, and_parts, cond-false, eqb-true, false_from_ne_true, or_left, or_right, true≢false}
use Rattle.std.specs.Char.{digit_value}
use Rattle.swc_ecma_codegen_grammar.proofs.Conditions.{and_both, if_both, if_either}
use Rattle.swc_ecma_codegen_grammar.specs.Chars.{is_digit, is_letter, is_part, is_start}
use Rattle.swc_ecma_codegen_grammar.specs.Numbers.{is_hex}
use Rattle.swc_ecma_codegen_grammar.specs.declared.names.Place.{Place}
use Rattle.swc_ecma_codegen_grammar.specs.declared.names.Place.TheVariants.{Between, Braced, Escaped, One, Three, Two, Unicode}
use Rattle.swc_ecma_codegen_grammar.specs.Names.{all_part, fits, fits_code, is_name, is_private_name, is_word, name_rest}

-- a character that goes on with a name, or the backslash of an escape
unfoldable pub goes_on_name : ℕ → Bool
goes_on_name c = is_part c || (c == 92)

-- a character that begins a name, or the backslash of an escape
unfoldable pub starts_name : ℕ → Bool
starts_name c = is_start c || (c == 92)

rest_more : (first : Bool) (p : Place) (t : List ℕ) (c : ℕ) (m : List ℕ) → name_rest first p t ≡ true → name_rest first p (t ++ c ∷ m) ≡ true → goes_on_name c ≡ true
unfolding name_rest goes_on_name fits
rest_more true Between [] c m h k = absurd (true≢false (sym h))
rest_more false Between [] c m h k =
    elim (if_either (c == 92) _ _ k) [
      | inl e ↦ or_right (is_part c) (c == 92) e.0
      | inr r ↦ or_left (is_part c) (c == 92) (and_parts (is_part c) _ r).0
    ]
rest_more first Between (d ∷ t) c m h k =
    elim (if_both (d == 92) _ _ _ _ h k) [
      | inl r ↦ rest_more first Escaped t c m r.0 r.1
      | inr r ↦ let s = and_both (fits first d) _ _ r.0 r.1 in rest_more false Between t c m s.0 s.1
    ]
rest_more first Escaped [] c m h k = absurd (true≢false (sym h))
rest_more first Escaped (d ∷ t) c m h k = let r = and_both (d == 117) _ _ h k in rest_more first Unicode t c m r.0 r.1
rest_more first Unicode [] c m h k = absurd (true≢false (sym h))
rest_more first Unicode (d ∷ t) c m h k =
    elim (if_both (d == 123) _ _ _ _ h k) [
      | inl r ↦ rest_more first (Braced false 0) t c m r.0 r.1
      | inr r ↦ let s = and_both (is_hex d) _ _ r.0 r.1 in rest_more first (One (digit_value d)) t c m s.0 s.1
    ]
rest_more first (One v) [] c m h k = absurd (true≢false (sym h))
rest_more first (One v) (d ∷ t) c m h k = let r = and_both (is_hex d) _ _ h k in rest_more first (Two (v * 16 + digit_value d)) t c m r.0 r.1
rest_more first (Two v) [] c m h k = absurd (true≢false (sym h))
rest_more first (Two v) (d ∷ t) c m h k = let r = and_both (is_hex d) _ _ h k in rest_more first (Three (v * 16 + digit_value d)) t c m r.0 r.1
rest_more first (Three v) [] c m h k = absurd (true≢false (sym h))
rest_more first (Three v) (d ∷ t) c m h k =
    let r = and_both (is_hex d) _ _ h k in
    let s = and_both (fits_code first (v * 16 + digit_value d)) _ _ r.0 r.1 in
    rest_more false Between t c m s.0 s.1
rest_more first (Braced some v) [] c m h k = absurd (true≢false (sym h))
rest_more first (Braced some v) (d ∷ t) c m h k =
    elim (if_both (is_hex d) _ _ _ _ h k) [
      | inl r ↦ let s = and_both (nat_le (v * 16 + digit_value d) 1114111) _ _ r.0 r.1 in rest_more first (Braced true (v * 16 + digit_value d)) t c m s.0 s.1
      | inr r ↦
          let s = and_both ((d == 125) && some) _ _ r.0 r.1 in
          let u = and_both (fits_code first v) _ _ s.0 s.1 in
          rest_more false Between t c m u.0 u.1
    ]

pub name_more : (t : List ℕ) (c : ℕ) (m : List ℕ) → is_name t ≡ true → is_name (t ++ c ∷ m) ≡ true → goes_on_name c ≡ true
unfolding is_name
name_more t c m h k = rest_more true Between t c m h k

-- a word is a name without escapes
part_plain : (c : ℕ) → is_part c ≡ true → (c == 92) ≡ false
unfolding is_part is_letter is_digit
part_plain c h = false_from_ne_true _ (λ e. true≢false (sym h ∙ subst (λ z. is_part z ≡ false) (sym (eqb-true c 92 e)) refl))

start_plain : (c : ℕ) → is_start c ≡ true → (c == 92) ≡ false
unfolding is_start is_letter
start_plain c h = false_from_ne_true _ (λ e. true≢false (sym h ∙ subst (λ z. is_start z ≡ false) (sym (eqb-true c 92 e)) refl))

all_rest : (t : List ℕ) → all_part t ≡ true → name_rest false Between t ≡ true
unfolding all_part name_rest fits
all_rest [] h = refl
all_rest (c ∷ t) h =
    let p = and_parts (is_part c) _ h in
    cond-false (c == 92) _ _ (part_plain c p.0) ∙ and_from (is_part c) _ p.0 (all_rest t p.1)

pub word_name : (t : List ℕ) → is_word t ≡ true → is_name t ≡ true
unfolding is_word is_name name_rest fits
word_name [] h = h
word_name (c ∷ t) h =
    let p = and_parts (is_start c) _ h in
    cond-false (c == 92) _ _ (start_plain c p.0) ∙ and_from (is_start c) _ p.0 (all_rest t p.1)

pub name_head : (c : ℕ) (n : List ℕ) → is_name (c ∷ n) ≡ true → starts_name c ≡ true
unfolding is_name name_rest fits starts_name
name_head c n h =
    elim (if_either (c == 92) _ _ h) [
      | inl e ↦ or_right (is_start c) (c == 92) e.0
      | inr r ↦ or_left (is_start c) (c == 92) (and_parts (is_start c) _ r).0
    ]

pub some_name : is_name [] ≡ true → ⊥
unfolding is_name name_rest
some_name h = true≢false (sym h)

pub some_word : is_word [] ≡ true → ⊥
unfolding is_word
some_word h = true≢false (sym h)

pub private_head : (c : ℕ) (n : List ℕ) → is_private_name (c ∷ n) ≡ true → ((c == 35) ≡ true) × (is_name n ≡ true)
unfolding is_private_name
private_head c n h = and_parts (c == 35) (is_name n) h

pub some_private : is_private_name [] ≡ true → ⊥
unfolding is_private_name
some_private h = true≢false (sym h)

pub private_more : (t : List ℕ) (c : ℕ) (m : List ℕ) → is_private_name t ≡ true → is_private_name (t ++ c ∷ m) ≡ true → goes_on_name c ≡ true
private_more [] c m h k = absurd (some_private h)
private_more (d ∷ n) c m h k = name_more n c m (private_head d n h).1 (private_head d (n ++ c ∷ m) k).1
