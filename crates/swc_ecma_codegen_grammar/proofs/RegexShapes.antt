-- What may go on after a regular expression: a name character.
use Rattle.std.proofs.Common.{Bool, List, [], ap, false, inl, inr, not, sym, true, ℕ, ◌&&◌, ◌++◌, ◌==◌, ◌||◌, ◌∷◌, ◌≡◌}
use Rattle.std.proofs.lemmas.Bool.{and_parts, eqb-true, not-true, or_parts, true≢false}
use Rattle.swc_ecma_codegen_grammar.proofs.Conditions.{and_both, if_both}
use Rattle.swc_ecma_codegen_grammar.specs.Chars.{is_line_end, is_part}
use Rattle.swc_ecma_codegen_grammar.specs.Names.{all_part}
use Rattle.swc_ecma_codegen_grammar.specs.RegularExpressions.{class_after, ends_regex, is_regex, regex_body}

-- a regular expression ends after its flags
next_flag : (t : List ℕ) (c : ℕ) (m : List ℕ) → all_part (t ++ c ∷ m) ≡ true → is_part c ≡ true
unfolding all_part
next_flag [] c m h = (and_parts (is_part c) (all_part m) h).0
next_flag (x ∷ xs) c m h = next_flag xs c m (and_parts (is_part x) (all_part (xs ++ c ∷ m)) h).1

regex_more : (k e : Bool) (t : List ℕ) (c : ℕ) (m : List ℕ) → ends_regex k e t ≡ true → ends_regex k e (t ++ c ∷ m) ≡ true → is_part c ≡ true
unfolding ends_regex
regex_more k true [] c m h j = absurd (true≢false (sym h))
regex_more k false [] c m h j = absurd (true≢false (sym h))
regex_more k true (d ∷ t) c m h j =
    let r = and_both (not (is_line_end d)) (ends_regex k false t) (ends_regex k false (t ++ c ∷ m)) h j in
    regex_more k false t c m r.0 r.1
regex_more k false (d ∷ t) c m h j =
    elim (if_both ((d == 47) && not k) (all_part t) (not (is_line_end d) && ends_regex (class_after k d) (d == 92) t) (all_part (t ++ c ∷ m)) (not (is_line_end d) && ends_regex (class_after k d) (d == 92) (t ++ c ∷ m)) h j) [
      | inl p ↦ next_flag t c m p.1
      | inr p ↦ let r = and_both (not (is_line_end d)) (ends_regex (class_after k d) (d == 92) t) (ends_regex (class_after k d) (d == 92) (t ++ c ∷ m)) p.0 p.1 in regex_more (class_after k d) (d == 92) t c m r.0 r.1
    ]

pub regex_flags : (t : List ℕ) (c : ℕ) (m : List ℕ) → is_regex t ≡ true → is_regex (t ++ c ∷ m) ≡ true → is_part c ≡ true
unfolding is_regex regex_body ends_regex
regex_flags [] c m h k = absurd (true≢false (sym h))
regex_flags (a ∷ []) c m h k = absurd (true≢false (sym (and_parts (a == 47) _ h).1))
regex_flags (a ∷ b ∷ t) c m h k =
    let r = and_both (a == 47) _ _ h k in
    let s = and_both (not ((b == 42) || (b == 47))) _ _ r.0 r.1 in
    regex_more false false (b ∷ t) c m s.0 s.1

pub some_regex : is_regex [] ≡ true → ⊥
unfolding is_regex
some_regex h = true≢false (sym h)

-- it begins with `/` and neither `/` nor `*`
pub regex_head : (t : List ℕ) → is_regex t ≡ true → (b : ℕ) × (n : List ℕ) × (t ≡ 47 ∷ b ∷ n) × ((b == 42) ≡ false) × ((b == 47) ≡ false)
unfolding is_regex regex_body
regex_head [] h = absurd (true≢false (sym h))
regex_head (a ∷ []) h = absurd (true≢false (sym (and_parts (a == 47) false h).1))
regex_head (a ∷ b ∷ n) h =
    let p = and_parts (a == 47) _ h in
    let q = or_parts (b == 42) (b == 47) (not-true _ (and_parts (not ((b == 42) || (b == 47))) _ p.1).0) in
    (b, n, ap (λ z. z ∷ b ∷ n) (eqb-true a 47 p.0), q.0, q.1)
