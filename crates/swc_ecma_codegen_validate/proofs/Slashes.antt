-- The slash that ends the body of a regular expression.
use Rattle.std.proofs.Common.{◌≡◌, ℕ, Bool, true, false, not, ◌&&◌, ◌||◌, ◌==◌, cond, List, [], ◌∷◌, ◌++◌, refl, sym, ap, ◌∙◌}
use Rattle.std.proofs.lemmas.Bool.{and_parts, true≢false}
use Rattle.swc_ecma_codegen_grammar.specs.Chars.{is_line_end, is_part, is_letter, is_digit}
use Rattle.swc_ecma_codegen_grammar.specs.LitPhrases.{regex_text, is_regex_of}
use Rattle.swc_ecma_codegen_grammar.specs.Names.{all_part}
use Rattle.swc_ecma_codegen_grammar.specs.RegularExpressions.{is_regex, regex_body, ends_regex, class_after}

-- no flag is a slash
no_flag : is_part 47 ≡ false
unfolding is_part is_letter is_digit
no_flag = refl

false_after : (b : Bool) → (b && false) ≡ false
false_after true = refl
false_after false = refl

pub slash_ends : (rest : List ℕ) → all_part (rest ++ 47 ∷ []) ≡ false
unfolding all_part
slash_ends [] = ap (λ b. b && true) no_flag
slash_ends (c ∷ cs) = ap (λ b. is_part c && b) (slash_ends cs) ∙ false_after (is_part c)

-- After a body that its slash ends, flags follow.
flags_follow : (i e : Bool) (body flags : List ℕ) → ends_regex i e (body ++ 47 ∷ []) ≡ true → ends_regex i e (body ++ 47 ∷ flags) ≡ all_part flags
unfolding ends_regex is_line_end
flags_follow i true [] flags h = absurd (true≢false (sym h))
flags_follow true false [] flags h = absurd (true≢false (sym h))
flags_follow false false [] flags h = refl
flags_follow i true (c ∷ cs) flags h =
    let p = and_parts (not (is_line_end c)) _ h in
    ap (λ b. b && ends_regex i false (cs ++ 47 ∷ flags)) p.0 ∙ flags_follow i false cs flags p.1
flags_follow i false (c ∷ cs) flags h = choice ((c == 47) && not i) _ _ _ _ _ _ h (slash_ends cs) (flags_follow (class_after i c) (c == 92) cs flags)
  where
    choice : (b a x y f g r : Bool) → (cond b a (x && f)) ≡ true → a ≡ false → (f ≡ true → g ≡ r) → cond b y (x && g) ≡ r
    choice true a x y f g r k none more = absurd (true≢false (sym k ∙ none))
    choice false a x y f g r k none more = let p = and_parts x f k in ap (λ b. b && g) p.0 ∙ more p.1

-- a body begins with no `*`
pub starts : (c : ℕ) (cs : List ℕ) → is_regex (regex_text (c ∷ cs) []) ≡ (not (c == 42) && ends_regex false false (c ∷ (cs ++ 47 ∷ [])))
unfolding is_regex regex_text regex_body ends_regex
starts c cs = choice (c == 42) (c == 47) _ _ (slash_ends cs)
  where
    choice : (s b a x : Bool) → a ≡ false → (not (s || b) && cond (b && true) a x) ≡ (not s && cond (b && true) a x)
    choice true b a x none = refl
    choice false true a x none = sym none
    choice false false a x none = refl

and_same : (a b c : Bool) → (a ≡ true → b ≡ c) → (a && b) ≡ (a && c)
and_same true b c h = h refl
and_same false b c h = refl

-- A body and flags make one token of both, each by itself.
pub by_parts : (body flags : List ℕ) → is_regex_of body flags ≡ (is_regex (regex_text body []) && all_part flags)
unfolding is_regex_of regex_text is_regex regex_body
by_parts [] flags = refl
by_parts (c ∷ cs) flags = and_same _ _ _ (λ h. let p = and_parts (not ((c == 42) || (c == 47))) _ h in ap (λ b. b && ends_regex false false (c ∷ (cs ++ 47 ∷ flags))) p.0 ∙ flags_follow false false (c ∷ cs) flags p.1)
