-- Line ends: a step over a character, their order, and which of them stand between two places.
use Rattle.std.proofs.Common.{◌≡◌, ◌∙◌, ℕ, zero, suc, ◌+◌, ◌-◌, ◌<◌, ◌≤◌, Bool, true, false, ◌&&◌, cond, List, [], ◌∷◌, ◌++◌, length, get_or, leb, ltb, min, max, sym, ap, inl, inr, arith, append_assoc, append-nil, length-append}
use Rattle.std.specs.Char.{encode_utf8, len_utf8}
use Rattle.std.specs.List.{All, list_any}
use Rattle.std.specs.List.Sorted.{IsNonDecreasing, IsPartitionPoint}
use Rattle.std.specs.Str.{IsUtf8, chars, encode_utf8_all}
use Rattle.std.proofs.lemmas.List.Elements.{All-nil, All-cons, All-weaker, All-from_get_or}
use Rattle.std.proofs.lemmas.List.Folds.{list_any_none, list_any_at}
use Rattle.std.proofs.lemmas.Bool.{cases_lt}
use Rattle.std.proofs.lemmas.Bool.Decides.{nat_tests}
use Rattle.std.proofs.lemmas.Str.{encodes-chars, length-encode, len_utf8_bounds}
use Rattle.swc_ecma_codegen_source.specs.SourceTexts.{ends_line, line_ends, is_between}

-- a text is as long as its first character and what follows
pub length_past_char : (rest more : List ℕ) (c : ℕ) → IsUtf8 rest → IsUtf8 more → chars rest ≡ c ∷ chars more → length rest ≡ len_utf8 c + length more
length_past_char rest more c u v e =
    let whole : rest ≡ encode_utf8 c ++ more = sym (encodes-chars rest u) ∙ (ap encode_utf8_all e ∙ ap (λ r. encode_utf8 c ++ r) (encodes-chars more v)) in
    ap length whole ∙ (length-append (encode_utf8 c) more ∙ ap (λ n. n + length more) (length-encode c))

-- the place behind a character, from the length of what follows
behind_char : (rest more : List ℕ) (c n : ℕ) → length rest ≡ len_utf8 c + length more → length rest ≤ n → (n - length rest) + len_utf8 c ≡ n - length more
behind_char rest more c n e h = omega arith

-- the line ends so far, and those of what follows a character that ends a line, or that doesn't
pub ends_found : (found all rest more : List ℕ) (c n : ℕ) → IsUtf8 rest → IsUtf8 more → chars rest ≡ c ∷ chars more → length rest ≤ n → ends_line c (chars more) ≡ true → all ≡ found ++ line_ends (n - length rest) (chars rest) → all ≡ (found ++ (n - length more) ∷ []) ++ line_ends (n - length more) (chars more)
unfolding line_ends
ends_found found all rest more c n u v e h b g =
    let far : (n - length rest) + len_utf8 c ≡ n - length more = behind_char rest more c n (length_past_char rest more c u v e) h in
    g ∙ (ap (λ cs. found ++ line_ends (n - length rest) cs) e ∙ (ap (λ z. found ++ cond z (((n - length rest) + len_utf8 c) ∷ line_ends ((n - length rest) + len_utf8 c) (chars more)) (line_ends ((n - length rest) + len_utf8 c) (chars more))) b
    ∙ (ap (λ p. found ++ (p ∷ line_ends p (chars more))) far ∙ sym (append_assoc found ((n - length more) ∷ []) (line_ends (n - length more) (chars more))))))

pub ends_passed : (found all rest more : List ℕ) (c n : ℕ) → IsUtf8 rest → IsUtf8 more → chars rest ≡ c ∷ chars more → length rest ≤ n → ends_line c (chars more) ≡ false → all ≡ found ++ line_ends (n - length rest) (chars rest) → all ≡ found ++ line_ends (n - length more) (chars more)
unfolding line_ends
ends_passed found all rest more c n u v e h b g =
    let far : (n - length rest) + len_utf8 c ≡ n - length more = behind_char rest more c n (length_past_char rest more c u v e) h in
    g ∙ (ap (λ cs. found ++ line_ends (n - length rest) cs) e ∙ (ap (λ z. found ++ cond z (((n - length rest) + len_utf8 c) ∷ line_ends ((n - length rest) + len_utf8 c) (chars more)) (line_ends ((n - length rest) + len_utf8 c) (chars more))) b
    ∙ ap (λ p. found ++ line_ends p (chars more)) far))

-- the last step: nothing follows
pub ends_whole : (found all rest : List ℕ) (n : ℕ) → chars rest ≡ [] → all ≡ found ++ line_ends (n - length rest) (chars rest) → all ≡ found
unfolding line_ends
ends_whole found all rest n e g = g ∙ (ap (λ cs. found ++ line_ends (n - length rest) cs) e ∙ append-nil found)

-- a list with a least number before others in order is in order
least_first : (x : ℕ) (xs : List ℕ) → All (λ y. x < y) xs → IsNonDecreasing xs → IsNonDecreasing (x ∷ xs)
least_first x xs a h zero zero d le lt = omega arith
least_first x xs a h zero (suc j) d le lt = let far : x < get_or xs j d = a j d (omega arith) in omega arith
least_first x xs a h (suc i) zero d le lt = absurd (omega arith)
least_first x xs a h (suc i) (suc j) d le lt = h i j d (omega arith) (omega arith)

-- all line ends are behind the place that the text begins at
ends_behind : (at : ℕ) (cs : List ℕ) → All (λ end. at < end) (line_ends at cs)
unfolding line_ends
ends_behind at [] = All-nil (λ end. at < end)
ends_behind at (c ∷ cs) =
    let next : ℕ = at + len_utf8 c in
    let wide : 1 ≤ len_utf8 c = (len_utf8_bounds c).0 in
    let ahead : at < next = omega arith in
    let later : All (λ end. at < end) (line_ends next cs) = All-weaker (λ end. next < end) (λ end. at < end) (λ x (p : next < x). omega arith) (line_ends next cs) (ends_behind next cs) in
    elim (ends_line c cs) as (λ b. All (λ end. at < end) (cond b (next ∷ line_ends next cs) (line_ends next cs)))
    [ true ↦ All-cons (λ end. at < end) next (line_ends next cs) ahead later | false ↦ later ]

-- line ends stand in order
pub ends_rise : (at : ℕ) (cs : List ℕ) → IsNonDecreasing (line_ends at cs)
unfolding line_ends
ends_rise at [] = λ i j d le lt. absurd (omega arith)
ends_rise at (c ∷ cs) =
    let next : ℕ = at + len_utf8 c in
    elim (ends_line c cs) as (λ b. IsNonDecreasing (cond b (next ∷ line_ends next cs) (line_ends next cs)))
    [ true ↦ least_first next (line_ends next cs) (ends_behind next cs) (ends_rise next cs) | false ↦ ends_rise next cs ]

-- ---- whether a line end, by the place behind it, is between two places

past_both : (low high end : ℕ) → high < end → (ltb low end && leb end high) ≡ false
past_both low high end h = grind (arith, nat_tests)

before_both : (low high end : ℕ) → leb end low ≡ true → (ltb low end && leb end high) ≡ false
before_both low high end h = grind (arith, nat_tests)

past_first : (low high end : ℕ) → leb end low ≡ false → end ≤ high → (ltb low end && leb end high) ≡ true
past_first low high end h k = grind (arith, nat_tests)

is_past : (high end : ℕ) → high < end → leb end high ≡ false
is_past high end h = grind (arith, nat_tests)

is_within : (high end : ℕ) → end ≤ high → leb end high ≡ true
is_within high end h = grind (arith, nat_tests)

-- of line ends in order those before `next` are at the first place or before it, and those from there on behind it
abbrev pub Parts : ℕ → List ℕ → ℕ → Type 0
Parts low ends next = IsPartitionPoint (λ end. leb end low ≡ true) (λ end. leb end low ≡ false) ends next

-- no line end is behind the first place
pub none_between : (left right next : ℕ) (ends : List ℕ) → Parts (min left right) ends next → length ends ≤ next → false ≡ list_any (is_between left right) ends
unfolding is_between
none_between left right next ends parts end =
    sym (list_any_none (λ x. ltb (min left right) x && leb x (max left right)) ends
    (λ k d lt. before_both (min left right) (max left right) (get_or ends k d) (parts.0 k d (omega arith) (omega arith))))

-- the first one behind the first place tells of all
pub first_between : (left right next end : ℕ) (ends : List ℕ) → IsNonDecreasing ends → Parts (min left right) ends next → next < length ends → end ≡ get_or ends next end → leb end (max left right) ≡ list_any (is_between left right) ends
unfolding is_between
first_between left right next end ends rise parts within item =
    let low : ℕ = min left right in
    let high : ℕ = max left right in
    let p : ℕ → Bool = λ x. ltb low x && leb x high in
    let past : leb (get_or ends next end) low ≡ false = parts.1 next end (omega arith) within in
    elim (cases_lt high end) [
      | inl far ↦ is_past high end far ∙ sym (list_any_none p ends (All-from_get_or (λ x. p x ≡ false) ends end (λ k lt.
          elim (cases_lt k next) [
            | inl before ↦ before_both low high (get_or ends k end) (parts.0 k end (omega arith) before)
            | inr after ↦ let later : get_or ends next end ≤ get_or ends k end = rise next k end after lt in
                let beyond : high < get_or ends k end = omega arith in past_both low high (get_or ends k end) beyond
          ])))
      | inr near ↦ is_within high end near ∙ sym (list_any_at p ends next end within (past_first low high (get_or ends next end) past (omega arith)))
    ]
