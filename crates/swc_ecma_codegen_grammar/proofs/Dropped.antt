-- A semicolon that is left out before `}`, `;` or the end brings no two tokens together, and what is left are the other
-- tokens.
use Rattle.std.proofs.Common.{Bool, List, [], ap, ap₂, codes, cond, false, inl, inr, not, refl, subst, sym, true, ℕ, ◌&&◌, ◌++◌, ◌==◌, ◌||◌, ◌∙◌, ◌∷◌, ◌≡◌}
use Rattle.std.proofs.lemmas.Bool.{and_left, and_parts, and_right, cond-false, eqb-true, false_from_ne_true, not-true, or_cases, or_from, true≢false}
use Rattle.swc_ecma_codegen_grammar.proofs.HashbangShapes.{hashbang_head}
use Rattle.swc_ecma_codegen_grammar.proofs.Heads.{some_text}
use Rattle.swc_ecma_codegen_grammar.proofs.JsxShapes.{jsx_name_head, jsx_string_head}
use Rattle.swc_ecma_codegen_grammar.proofs.Marks.{punctuator_among}
use Rattle.swc_ecma_codegen_grammar.proofs.NameShapes.{name_head, private_head, starts_name, word_name}
use Rattle.swc_ecma_codegen_grammar.proofs.NumberShapes.{big_numeric, number_head, number_numeric}
use Rattle.swc_ecma_codegen_grammar.proofs.Reading.{reads, broken_stays}
use Rattle.swc_ecma_codegen_grammar.proofs.RegexShapes.{regex_head}
use Rattle.swc_ecma_codegen_grammar.proofs.StringShapes.{string_head}
use Rattle.swc_ecma_codegen_grammar.proofs.Tables.{blank_ne, each, each_at, each_begins}
use Rattle.swc_ecma_codegen_grammar.proofs.TemplateShapes.{template_head}
use Rattle.swc_ecma_codegen_grammar.specs.Chars.{begins_digit, is_blank, is_digit, is_letter, is_line_end, is_part, is_quote, is_start, is_one_line}
use Rattle.swc_ecma_codegen_grammar.specs.Endings.{IsAtEnd, IsReduced, ends, is_end}
use Rattle.swc_ecma_codegen_grammar.specs.GapRules.{Separated, IntegerEnd, PreviousToken, LessBang, LineEnd, Mark, MayBegin, Start, TagNameEnd, TextEnd, Whole, WordEnd, allows, ends_line, ends_text, fuses, grows, holds_child, last_after, last_after_gap, mark_after, mark_fuses}
use Rattle.swc_ecma_codegen_grammar.specs.Jsx.{is_jsx_open}
use Rattle.swc_ecma_codegen_grammar.specs.Numbers.{takes_dot}
use Rattle.swc_ecma_codegen_grammar.specs.Parts.{Gap, IsEnding, NoneFuse, Own, Part, Reduced, remarks_in, text_of, tokens_of, Joint, Break, begins_break, OfLine, OnLine, PastLine, AtJoint, Broken, walk, over_own, over_gap, over_joint, is_broken, KeepsLines}
use Rattle.swc_ecma_codegen_grammar.specs.Punctuators.{punctuators}
use Rattle.swc_ecma_codegen_grammar.specs.Reads.{Reads, is_child}
use Rattle.swc_ecma_codegen_grammar.specs.RegularExpressions.{is_regex}
use Rattle.swc_ecma_codegen_grammar.specs.Texts.{begins, is_among, is_same}
use Rattle.swc_ecma_codegen_grammar.specs.Tokens.{ending, has_shape, token_of, value_of}
use Rattle.swc_ecma_codegen_grammar.specs.Trivia.{Blank, BlockOf, LineOf, Piece, all_pieces, is_piece, piece_text, pieces_text}
use Rattle.swc_ecma_codegen_grammar.specs.declared.kinds.Kind.{Kind}
use Rattle.swc_ecma_codegen_grammar.specs.declared.kinds.Kind.TheVariants.{BigInt, Close, Ending, Hashbang, JsxName, JsxOpen, JsxString, JsxText, Name, Number, PrivateName, Punctuator, Regex, Str, Template, TemplateRest, Word, SameLine}

-- `}` and `;` go on with no punctuator
unfoldable tail_quiet : List ℕ → Bool
tail_quiet [] = true
tail_quiet (c ∷ cs) = not ((c == 125) || (c == 59)) && tail_quiet cs

unfoldable is_quiet : List ℕ → Bool
is_quiet [] = true
is_quiet (c ∷ cs) = tail_quiet cs

quiet_marks : each is_quiet punctuators ≡ true
unfolding each is_quiet tail_quiet punctuators
quiet_marks = refl

tail_next : (m : List ℕ) (c : ℕ) (p : List ℕ) → begins (m ++ c ∷ []) p ≡ true → tail_quiet p ≡ true → ((c == 125) || (c == 59)) ≡ false
unfolding begins tail_quiet
tail_next [] c [] h q = absurd (true≢false (sym h))
tail_next [] c (d ∷ ds) h q = subst (λ z. ((z == 125) || (z == 59)) ≡ false) (sym (eqb-true c d (and_parts (c == d) true h).0)) (not-true _ (and_parts (not ((d == 125) || (d == 59))) (tail_quiet ds) q).0)
tail_next (x ∷ m) c [] h q = absurd (true≢false (sym h))
tail_next (x ∷ m) c (d ∷ ds) h q = tail_next m c ds (and_parts (x == d) (begins (m ++ c ∷ []) ds) h).1 (and_parts (not ((d == 125) || (d == 59))) (tail_quiet ds) q).1

quiet_next : (a : ℕ) (m : List ℕ) (c : ℕ) (p : List ℕ) → begins (a ∷ (m ++ c ∷ [])) p ≡ true → is_quiet p ≡ true → ((c == 125) || (c == 59)) ≡ false
unfolding begins is_quiet
quiet_next a m c [] h q = absurd (true≢false (sym h))
quiet_next a m c (d ∷ ds) h q = tail_next m c ds (and_parts (a == d) (begins (m ++ c ∷ []) ds) h).1 q

no_growth : (a : ℕ) (m : List ℕ) (c : ℕ) → ((c == 125) || (c == 59)) ≡ true → grows (a ∷ m) c ≡ false
unfolding grows
no_growth a m c h = false_from_ne_true _ (λ g. let f = each_begins is_quiet (a ∷ (m ++ c ∷ [])) punctuators quiet_marks g in true≢false (sym h ∙ quiet_next a m c f.0 f.2 f.1))

-- what no ending passes
ending_ne : (P : ℕ → Bool) (c : ℕ) → ((c == 125) || (c == 59)) ≡ true → P 125 ≡ false → P 59 ≡ false → P c ≡ false
ending_ne P c h a b = elim (or_cases (c == 125) (c == 59) h) [ inl x ↦ subst (λ z. P z ≡ false) (sym (eqb-true c 125 x)) a | inr x ↦ subst (λ z. P z ≡ false) (sym (eqb-true c 59 x)) b ]

mark_quiet : (a : ℕ) (m : List ℕ) (c : ℕ) (n : List ℕ) → ((c == 125) || (c == 59)) ≡ true → mark_fuses (a ∷ m) c n ≡ false
unfolding mark_fuses is_digit
mark_quiet a m c n h =
    or_from _ _ (and_left (grows (a ∷ m) c) _ (no_growth a m c h))
    (or_from _ _ (and_right (is_same (a ∷ m) (codes ".") || is_same (a ∷ m) (codes "?.")) (is_digit c) (ending_ne is_digit c h refl refl))
    (or_from _ _ (and_right (is_same (a ∷ m) (codes "--")) (c == 62) (ending_ne (λ c. c == 62) c h refl refl))
    (and_right (is_same (a ∷ m) (codes "/")) ((c == 47) || (c == 42)) (ending_ne (λ c. (c == 47) || (c == 42)) c h refl refl))))

-- a punctuator that was written last is some text
unfoldable IsReal : PreviousToken → Type 0
IsReal (Mark m) = m ≡ [] → ⊥
IsReal Start = Unit {0}
IsReal Separated = Unit {0}
IsReal WordEnd = Unit {0}
IsReal IntegerEnd = Unit {0}
IsReal LessBang = Unit {0}
IsReal Whole = Unit {0}
IsReal TextEnd = Unit {0}
IsReal TagNameEnd = Unit {0}
IsReal LineEnd = Unit {0}

quiet : (k : PreviousToken) (c : ℕ) (n : List ℕ) → IsReal k → ((c == 125) || (c == 59)) ≡ true → fuses k (c ∷ n) ≡ false
unfolding fuses IsReal begins is_part is_letter is_digit
quiet Start c n r h = refl
quiet Separated c n r h = refl
quiet WordEnd c n r h = ending_ne (λ c. is_part c || (c == 92)) c h refl refl
quiet IntegerEnd c n r h = ending_ne (λ c. (is_part c || (c == 92)) || (c == 46)) c h refl refl
quiet (Mark []) c n r h = absurd (r refl)
quiet (Mark (a ∷ m)) c n r h = mark_quiet a m c n h
quiet LessBang c n r h = or_from _ _ (mark_quiet 33 [] c n h) (ending_ne (λ c. begins (codes "--") (c ∷ n)) c h refl refl)
quiet Whole c n r h = refl
quiet TextEnd c n r h = refl
quiet TagNameEnd c n r h = ending_ne (λ c. is_part c || (c == 92)) c h refl refl
quiet LineEnd c n r h = refl

-- where a semicolon may follow, an ending may
ending_allowed : (k : PreviousToken) (c : ℕ) (n : List ℕ) → allows k (codes ";") ≡ true → ((c == 125) || (c == 59)) ≡ true → allows k (c ∷ n) ≡ true
unfolding allows ends_text ends_line begins is_line_end
ending_allowed Start c n a h = refl
ending_allowed Separated c n a h = refl
ending_allowed WordEnd c n a h = refl
ending_allowed IntegerEnd c n a h = refl
ending_allowed (Mark m) c n a h = refl
ending_allowed LessBang c n a h = refl
ending_allowed Whole c n a h = refl
ending_allowed TextEnd c n a h = absurd (true≢false (sym a))
ending_allowed TagNameEnd c n a h = ap not (ending_ne (λ c. begins (codes "-") (c ∷ n)) c h refl refl)
ending_allowed LineEnd c n a h = absurd (true≢false (sym a))

-- and a line may be ended
line_allowed : (k : PreviousToken) → allows k (codes ";") ≡ true → allows k (10 ∷ []) ≡ true
unfolding allows ends_text ends_line begins is_line_end
line_allowed Start a = refl
line_allowed Separated a = refl
line_allowed WordEnd a = refl
line_allowed IntegerEnd a = refl
line_allowed (Mark m) a = refl
line_allowed LessBang a = refl
line_allowed Whole a = refl
line_allowed TextEnd a = absurd (true≢false (sym a))
line_allowed TagNameEnd a = refl
line_allowed LineEnd a = refl

end_allowed : (k : PreviousToken) → allows k (codes ";") ≡ true → allows k [] ≡ true
unfolding allows ends_text ends_line begins is_line_end
end_allowed Start a = refl
end_allowed Separated a = refl
end_allowed WordEnd a = refl
end_allowed IntegerEnd a = refl
end_allowed (Mark m) a = refl
end_allowed LessBang a = refl
end_allowed Whole a = refl
end_allowed TextEnd a = absurd (true≢false (sym a))
end_allowed TagNameEnd a = refl
end_allowed LineEnd a = absurd (true≢false (sym a))

-- an ending is the same last token, whatever came before
mark_ending : (k : PreviousToken) (c : ℕ) (n : List ℕ) → ((c == 125) || (c == 59)) ≡ true → mark_after k (c ∷ n) ≡ Mark (c ∷ n)
unfolding mark_after is_same
mark_ending Start c n h = refl
mark_ending Separated c n h = refl
mark_ending WordEnd c n h = refl
mark_ending IntegerEnd c n h = refl
mark_ending LessBang c n h = refl
mark_ending Whole c n h = refl
mark_ending TextEnd c n h = refl
mark_ending TagNameEnd c n h = refl
mark_ending LineEnd c n h = refl
mark_ending (Mark m) c n h = cond-false (is_same m (codes "<") && ((c == 33) && is_same n [])) LessBang (Mark (c ∷ n)) (and_right (is_same m (codes "<")) _ (and_left (c == 33) (is_same n []) (ending_ne (λ c. c == 33) c h refl refl)))

last_ending : (k l : PreviousToken) (y : Kind) (c : ℕ) (n : List ℕ) → ((c == 125) || (c == 59)) ≡ true → last_after l y (c ∷ n) ≡ last_after k y (c ∷ n)
unfolding last_after
last_ending k l Punctuator c n h = mark_ending l c n h ∙ sym (mark_ending k c n h)
last_ending k l Ending c n h = mark_ending l c n h ∙ sym (mark_ending k c n h)
last_ending k l JsxOpen c n h = mark_ending l c n h ∙ sym (mark_ending k c n h)
last_ending k l Word c n h = refl
last_ending k l Name c n h = refl
last_ending k l PrivateName c n h = refl
last_ending k l Number c n h = refl
last_ending k l BigInt c n h = refl
last_ending k l Str c n h = refl
last_ending k l Regex c n h = refl
last_ending k l (Template o) c n h = refl
last_ending k l (TemplateRest o) c n h = refl
last_ending k l Close c n h = refl
last_ending k l JsxName c n h = refl
last_ending k l JsxString c n h = refl
last_ending k l JsxText c n h = refl
last_ending k l Hashbang c n h = refl
last_ending k l SameLine c n h = refl

-- the last token after a token is real
real_case : (b : Bool) (c : ℕ) (n : List ℕ) → IsReal (cond b LessBang (Mark (c ∷ n)))
unfolding IsReal
real_case true c n = tt
real_case false c n = λ e. cc

real_some : (c : ℕ) (n : List ℕ) → IsReal (Mark (c ∷ n))
unfolding IsReal
real_some c n = λ e. cc

real_mark : (k : PreviousToken) (c : ℕ) (n : List ℕ) → IsReal (mark_after k (c ∷ n))
unfolding mark_after
real_mark Start c n = real_some c n
real_mark Separated c n = real_some c n
real_mark WordEnd c n = real_some c n
real_mark IntegerEnd c n = real_some c n
real_mark LessBang c n = real_some c n
real_mark Whole c n = real_some c n
real_mark TextEnd c n = real_some c n
real_mark TagNameEnd c n = real_some c n
real_mark LineEnd c n = real_some c n
real_mark (Mark m) c n = real_case (is_same m (codes "<") && is_same (c ∷ n) (codes "!")) c n

real_number : (b : Bool) → IsReal (cond b IntegerEnd WordEnd)
unfolding IsReal
real_number true = tt
real_number false = tt

real_own : (k : PreviousToken) (x : Kind) (t : List ℕ) → has_shape x t ≡ true → IsReal (last_after k x t)
unfolding last_after IsReal
real_own k Punctuator [] h = absurd (some_text Punctuator h)
real_own k Punctuator (c ∷ n) h = real_mark k c n
real_own k Ending [] h = absurd (some_text Ending h)
real_own k Ending (c ∷ n) h = real_mark k c n
real_own k JsxOpen [] h = absurd (some_text JsxOpen h)
real_own k JsxOpen (c ∷ n) h = real_mark k c n
real_own k Number t h = real_number (takes_dot t)
real_own k BigInt t h = real_number (takes_dot t)
real_own k Word t h = tt
real_own k Name t h = tt
real_own k PrivateName t h = tt
real_own k Str t h = tt
real_own k Regex t h = tt
real_own k (Template o) t h = tt
real_own k (TemplateRest o) t h = tt
real_own k Close t h = tt
real_own k JsxName t h = tt
real_own k JsxString t h = tt
real_own k JsxText t h = tt
real_own k Hashbang t h = tt
real_own k SameLine t h = tt

real_gap : (k : PreviousToken) (ps : List Piece) → IsReal k → IsReal (last_after_gap k ps)
unfolding last_after_gap IsReal
real_gap k [] r = r
real_gap k (p ∷ ps) r = tt

semi_holds_none : holds_child (Mark (codes ";")) ≡ false
unfolding holds_child is_same
semi_holds_none = refl

semi_is_no_start : Mark (codes ";") ≡ Start → ⊥
semi_is_no_start e = cc

-- what may begin after a semicolon may begin anywhere
begins_anywhere : (k : PreviousToken) (y : Kind) → MayBegin (Mark (codes ";")) y → MayBegin k y
begins_anywhere k y b = record {
  child = λ c. absurd (true≢false (sym (b.child c) ∙ semi_holds_none));
  first = λ c. absurd (semi_is_no_start (b.first c));
}

ending_char : (c : ℕ) (n : List ℕ) → (begins (codes "}") (c ∷ n) || begins (codes ";") (c ∷ n)) ≡ true → ((c == 125) || (c == 59)) ≡ true
unfolding begins
ending_char c n h =
    elim (or_cases ((125 == c) && true) ((59 == c) && true) h) [
      | inl x ↦ subst (λ z. ((z == 125) || (z == 59)) ≡ true) (eqb-true 125 c (and_parts (125 == c) true x).0) refl
      | inr x ↦ subst (λ z. ((z == 125) || (z == 59)) ≡ true) (eqb-true 59 c (and_parts (59 == c) true x).0) refl
    ]

drop_semi : (k : PreviousToken) (xs : List Part) → IsReal k → allows k (codes ";") ≡ true → NoneFuse (mark_after k (codes ";")) xs → IsEnding xs → NoneFuse k xs
unfolding NoneFuse IsEnding
drop_semi k [] r a h e = end_allowed k a
drop_semi k (Gap ps ∷ xs) r a h e = absurd e
drop_semi k (Joint ∷ xs) r a h e = absurd e
drop_semi k (Break ∷ xs) r a h e = (line_allowed k a, drop_semi k xs r a h.1 e, h.2)
drop_semi k (Own y [] ∷ xs) r a h e = absurd (some_text y h.0)
drop_semi k (Own y (c ∷ n) ∷ xs) r a h e =
    let i = ending_char c n e in (
      h.0,
      quiet k c n r i,
      begins_anywhere k y (subst (λ z. MayBegin z y) (mark_ending k 59 [] refl) h.2),
      ending_allowed k c n a i,
      subst (λ z. NoneFuse z xs) (last_ending k (mark_after k (codes ";")) y c n i) h.4,
    )

semi_parts : (k : PreviousToken) (x : Kind) (t : List ℕ) (xs : List Part) → Own x t ≡ Own Ending (codes ";") → (allows k t ≡ true) → NoneFuse (last_after k x t) xs → (allows k (codes ";") ≡ true) × NoneFuse (mark_after k (codes ";")) xs
unfolding last_after
semi_parts k x t xs e a h =
    let f : x ≡ Ending = cc e in
    let g : t ≡ codes ";" = cc e in
    (subst (λ z. allows k z ≡ true) g a, subst (λ z. NoneFuse (last_after k Ending z) xs) g (subst (λ z. NoneFuse (last_after k z t) xs) f h))

apart_is_real : IsReal Separated
unfolding IsReal
apart_is_real = tt

reduced_fuses : (xs ys : List Part) (k : PreviousToken) → IsReal k → NoneFuse k xs → Reduced xs ys → NoneFuse k ys
unfolding NoneFuse Reduced
reduced_fuses [] ys k r h e = let P : List Part → Type 0 = λ z. NoneFuse k z in subst P (sym e) h
reduced_fuses (Gap ps ∷ xs) ys k r h (inl e) =
    let P : List Part → Type 0 = λ z. NoneFuse k z in
    subst P (sym e.1) (h.0, h.1, h.2, reduced_fuses xs e.0 (last_after_gap k ps) (real_gap k ps r) h.3 e.2)
reduced_fuses (Gap ps ∷ xs) ys k r h (inr (inl e)) = absurd (cc e.0)
reduced_fuses (Gap ps ∷ xs) ys k r h (inr (inr e)) = absurd (cc e.0)
reduced_fuses (Joint ∷ xs) ys k r h (inl e) =
    let P : List Part → Type 0 = λ z. NoneFuse k z in
    subst P (sym e.1) (reduced_fuses xs e.0 k r h e.2)
reduced_fuses (Joint ∷ xs) ys k r h (inr (inl e)) = absurd (cc e.0)
reduced_fuses (Joint ∷ xs) ys k r h (inr (inr e)) = absurd (cc e.0)
reduced_fuses (Break ∷ xs) ys k r h (inl e) =
    let P : List Part → Type 0 = λ z. NoneFuse k z in
    subst P (sym e.1) (h.0, reduced_fuses xs e.0 k r h.1 e.2, reduced_fuses xs e.0 Separated apart_is_real h.2 e.2)
reduced_fuses (Break ∷ xs) ys k r h (inr (inl e)) = absurd (cc e.0)
reduced_fuses (Break ∷ xs) ys k r h (inr (inr e)) = reduced_fuses xs ys k r h.1 e.1
reduced_fuses (Own x t ∷ xs) ys k r h (inl e) =
    let P : List Part → Type 0 = λ z. NoneFuse k z in
    subst P (sym e.1) (h.0, h.1, h.2, h.3, reduced_fuses xs e.0 (last_after k x t) (real_own k x t h.0) h.4 e.2)
reduced_fuses (Own x t ∷ xs) ys k r h (inr (inl e)) =
    let p = semi_parts k x t xs e.0 h.3 h.4 in
    reduced_fuses xs ys k r (drop_semi k xs r p.0 p.1 e.1) e.3
reduced_fuses (Own x t ∷ xs) ys k r h (inr (inr e)) = absurd (cc e.0)

start_is_real : IsReal Start
unfolding IsReal
start_is_real = tt

-- no two of what is left become one
pub none_fuse_reduced : (xs ys : List Part) → NoneFuse Start xs → Reduced xs ys → NoneFuse Start ys
none_fuse_reduced xs ys h e = reduced_fuses xs ys Start start_is_real h e

-- ---- where lines end

own_again : (w : OfLine) → over_own (over_own w) ≡ over_own w
unfolding over_own
own_again OnLine = refl
own_again PastLine = refl
own_again AtJoint = refl
own_again Broken = refl

whole_before : (w : OfLine) → is_broken (over_own w) ≡ false → is_broken w ≡ false
unfolding over_own is_broken
whole_before OnLine h = refl
whole_before PastLine h = refl
whole_before AtJoint h = refl
whole_before Broken h = h

-- where a line may end, none need
gap_first : (o : Bool) (xs : List Part) → (is_broken (walk PastLine xs) ≡ false → is_broken (walk OnLine xs) ≡ false) → is_broken (walk (over_gap o PastLine) xs) ≡ false → is_broken (walk (over_gap o OnLine) xs) ≡ false
unfolding over_gap
gap_first true xs f h = f h
gap_first false xs f h = h

past_first : (xs : List Part) → is_broken (walk PastLine xs) ≡ false → is_broken (walk OnLine xs) ≡ false
unfolding walk over_gap over_own over_joint is_broken
past_first [] h = refl
past_first (Gap ps ∷ xs) h = gap_first (is_one_line (pieces_text ps)) xs (λ k. past_first xs k) h
past_first (Own x t ∷ xs) h = h
past_first (Joint ∷ xs) h = absurd (true≢false (sym (broken_stays xs) ∙ h))
past_first (Break ∷ xs) h = h

pub none_ends : (xs : List Part) (w : OfLine) → is_broken (walk (over_gap false w) xs) ≡ false → is_broken (walk w xs) ≡ false
unfolding over_gap
none_ends xs OnLine h = past_first xs h
none_ends xs PastLine h = h
none_ends xs AtJoint h = absurd (true≢false (sym (broken_stays xs) ∙ h))
none_ends xs Broken h = h

-- what a dropped semicolon stood before is a token, or nothing, behind places where a line may be ended
own_before : (w : OfLine) (xs : List Part) → is_broken (walk (over_own (over_own w)) xs) ≡ false → is_broken (walk (over_own w) xs) ≡ false
own_before w xs h = subst (λ z. is_broken (walk z xs) ≡ false) (own_again w) h

kept_break : (zs : List Part) → begins_break (Break ∷ zs) ≡ false → ⊥
unfolding begins_break
kept_break zs e = true≢false e

-- where parts lead from here, or from behind a semicolon that is dropped
unfoldable LeadsOn : Bool → OfLine → List Part → List Part → Type 0
LeadsOn false w xs ys = is_broken (walk w xs) ≡ false
LeadsOn true w xs ys = IsEnding xs × (begins_break ys ≡ false) × (is_broken (walk (over_own w) xs) ≡ false)

keeps_on : (xs ys : List Part) (b : Bool) (w : OfLine) → Reduced xs ys → LeadsOn b w xs ys → is_broken (walk w ys) ≡ false
unfolding walk Reduced LeadsOn IsEnding
keeps_on [] ys false w e h = subst (λ (z : List Part). is_broken (walk w z) ≡ false) (sym e) h
keeps_on [] ys true w e h = subst (λ (z : List Part). is_broken (walk w z) ≡ false) (sym e) (whole_before w h.2)
keeps_on (Gap ps ∷ xs) ys true w e h = absurd h.0
keeps_on (Gap ps ∷ xs) ys false w (inl e) h = subst (λ (z : List Part). is_broken (walk w z) ≡ false) (sym e.1) (keeps_on xs e.0 false (over_gap (is_one_line (pieces_text ps)) w) e.2 h)
keeps_on (Gap ps ∷ xs) ys false w (inr (inl e)) h = absurd (cc e.0)
keeps_on (Gap ps ∷ xs) ys false w (inr (inr e)) h = absurd (cc e.0)
keeps_on (Joint ∷ xs) ys true w e h = absurd h.0
keeps_on (Joint ∷ xs) ys false w (inl e) h = subst (λ (z : List Part). is_broken (walk w z) ≡ false) (sym e.1) (keeps_on xs e.0 false (over_joint w) e.2 h)
keeps_on (Joint ∷ xs) ys false w (inr (inl e)) h = absurd (cc e.0)
keeps_on (Joint ∷ xs) ys false w (inr (inr e)) h = absurd (cc e.0)
keeps_on (Break ∷ xs) ys false w (inl e) h = subst (λ (z : List Part). is_broken (walk w z) ≡ false) (sym e.1) (keeps_on xs e.0 false (over_gap false w) e.2 h)
keeps_on (Break ∷ xs) ys true w (inl e) h = absurd (kept_break e.0 (sym (ap begins_break e.1) ∙ h.1))
keeps_on (Break ∷ xs) ys b w (inr (inl e)) h = absurd (cc e.0)
keeps_on (Break ∷ xs) ys false w (inr (inr e)) h = keeps_on xs ys false w e.1 (none_ends xs w h)
keeps_on (Break ∷ xs) ys true w (inr (inr e)) h = keeps_on xs ys true w e.1 (h.0, h.1, none_ends xs (over_own w) h.2)
keeps_on (Own x t ∷ xs) ys false w (inl e) h = subst (λ (z : List Part). is_broken (walk w z) ≡ false) (sym e.1) (keeps_on xs e.0 false (over_own w) e.2 h)
keeps_on (Own x t ∷ xs) ys true w (inl e) h = subst (λ (z : List Part). is_broken (walk w z) ≡ false) (sym e.1) (keeps_on xs e.0 false (over_own w) e.2 (own_before w xs h.2))
keeps_on (Own x t ∷ xs) ys false w (inr (inl e)) h = keeps_on xs ys true w e.3 (e.1, e.2, h)
keeps_on (Own x t ∷ xs) ys true w (inr (inl e)) h = keeps_on xs ys true w e.3 (e.1, e.2, own_before w xs h.2)
keeps_on (Own x t ∷ xs) ys b w (inr (inr e)) h = absurd (cc e.0)

-- no line ends where none may, where none did before
pub keeps_reduced : (xs ys : List Part) (w : OfLine) → Reduced xs ys → is_broken (walk w xs) ≡ false → is_broken (walk w ys) ≡ false
unfolding LeadsOn
keeps_reduced xs ys w e h = keeps_on xs ys false w e h

-- what is left reads as the tokens that are left
pub reads_reduced : (xs ys : List Part) → NoneFuse Start xs → KeepsLines xs → Reduced xs ys → Reads (text_of ys) (tokens_of ys) (remarks_in ys)
reads_reduced xs ys h l e = reads ys (none_fuse_reduced xs ys h e) (keeps_reduced xs ys OnLine e l)

-- ---- the tokens that are left

no_end : (P : ℕ → Bool) (c : ℕ) → ((c == 125) || (c == 59)) ≡ true → P c ≡ true → P 125 ≡ false → P 59 ≡ false → ⊥
no_end P c i h a b = true≢false (sym h ∙ ending_ne P c i a b)

-- no longer punctuator begins with `}` or `;`
unfoldable is_lone : List ℕ → Bool
is_lone p = not (begins (codes "}") p || begins (codes ";") p) || (is_same p (codes "}") || is_same p (codes ";"))

lone_marks : each is_lone punctuators ≡ true
unfolding each is_lone begins is_same punctuators
lone_marks = refl

mark_ends : (t : List ℕ) → is_among t punctuators ≡ true → (begins (codes "}") t || begins (codes ";") t) ≡ true → (is_same t (codes "}") || is_same t (codes ";")) ≡ true
unfolding is_lone
mark_ends t h e =
    elim (or_cases (not (begins (codes "}") t || begins (codes ";") t)) (is_same t (codes "}") || is_same t (codes ";")) (each_at is_lone t punctuators lone_marks h)) [
      | inl n ↦ absurd (true≢false (sym e ∙ not-true _ n))
      | inr s ↦ s
    ]

regex_begins : (c : ℕ) (n : List ℕ) → is_regex (c ∷ n) ≡ true → (c == 47) ≡ true
regex_begins c n h = let r = regex_head (c ∷ n) h in let e : c ≡ 47 = cc r.2 in subst (λ z. (z == 47) ≡ true) (sym e) refl

-- a token that stands after a semicolon, and begins with `}` or `;`
token_ends : (x : Kind) (c : ℕ) (n : List ℕ) → has_shape x (c ∷ n) ≡ true → MayBegin (Mark (codes ";")) x → (begins (codes "}") (c ∷ n) || begins (codes ";") (c ∷ n)) ≡ true → ends (token_of x (c ∷ n)) ≡ true
unfolding has_shape ends is_end token_of value_of starts_name is_start is_letter is_digit is_quote is_jsx_open is_among is_same is_child
token_ends Punctuator c n h m e = mark_ends (c ∷ n) (punctuator_among (c ∷ n) h) e
token_ends Ending c n h m e = refl
token_ends (TemplateRest o) c n h m e = refl
token_ends Word c n h m e = absurd (no_end starts_name c (ending_char c n e) (name_head c n (word_name (c ∷ n) h)) refl refl)
token_ends Name c n h m e = absurd (no_end starts_name c (ending_char c n e) (name_head c n h) refl refl)
token_ends PrivateName c n h m e = absurd (no_end (λ c. c == 35) c (ending_char c n e) (private_head c n h).0 refl refl)
token_ends Number c n h m e = absurd (no_end (λ c. is_digit c || ((c == 46) && begins_digit n)) c (ending_char c n e) (number_head c n (number_numeric (c ∷ n) h)) refl refl)
token_ends BigInt c n h m e = absurd (no_end (λ c. is_digit c || ((c == 46) && begins_digit n)) c (ending_char c n e) (number_head c n (big_numeric (c ∷ n) h)) refl refl)
token_ends Str c n h m e = absurd (no_end is_quote c (ending_char c n e) (string_head c n h) refl refl)
token_ends Regex c n h m e = absurd (no_end (λ c. c == 47) c (ending_char c n e) (regex_begins c n h) refl refl)
token_ends (Template o) c n h m e = absurd (no_end (λ c. c == 96) c (ending_char c n e) (template_head o c n h) refl refl)
token_ends Close c n h m e = absurd (no_end (λ c. is_same (c ∷ n) (codes ">")) c (ending_char c n e) h refl refl)
token_ends JsxName c n h m e = absurd (no_end is_start c (ending_char c n e) (jsx_name_head c n h) refl refl)
token_ends JsxString c n h m e = absurd (no_end is_quote c (ending_char c n e) (jsx_string_head c n h) refl refl)
token_ends JsxText c n h m e = absurd (true≢false (sym (m.child refl) ∙ semi_holds_none))
token_ends JsxOpen c n h m e = absurd (no_end (λ c. is_jsx_open (c ∷ n)) c (ending_char c n e) h refl refl)
token_ends Hashbang c n h m e = absurd (no_end (λ c. c == 35) c (ending_char c n e) (hashbang_head c n h) refl refl)
token_ends SameLine c n h m e = absurd (true≢false (sym h))

semi_token : (x : Kind) (t : List ℕ) → Own x t ≡ Own Ending (codes ";") → token_of x t ≡ ending
unfolding token_of value_of ending
semi_token x t e =
    let f : x ≡ Ending = cc e in
    let g : t ≡ codes ";" = cc e in
    ap₂ token_of f g

ends_after : (k : PreviousToken) (xs : List Part) → NoneFuse (mark_after k (codes ";")) xs → IsEnding xs → IsAtEnd (tokens_of xs)
unfolding NoneFuse IsEnding IsAtEnd tokens_of
ends_after k [] h e = tt
ends_after k (Gap ps ∷ xs) h e = absurd e
ends_after k (Joint ∷ xs) h e = absurd e
ends_after k (Break ∷ xs) h e = ends_after k xs h.1 e
ends_after k (Own y [] ∷ xs) h e = absurd (some_text y h.0)
ends_after k (Own y (c ∷ n) ∷ xs) h e = token_ends y c n h.0 (subst (λ z. MayBegin z y) (mark_ending k 59 [] refl) h.2) e

reduced_tokens : (xs ys : List Part) (k : PreviousToken) → NoneFuse k xs → Reduced xs ys → IsReduced (tokens_of xs) (tokens_of ys)
unfolding NoneFuse Reduced IsReduced tokens_of
reduced_tokens [] ys k h e = ap tokens_of e
reduced_tokens (Gap ps ∷ xs) ys k h (inl e) = subst (λ z. IsReduced (tokens_of xs) z) (sym (ap tokens_of e.1)) (reduced_tokens xs e.0 (last_after_gap k ps) h.3 e.2)
reduced_tokens (Gap ps ∷ xs) ys k h (inr (inl e)) = absurd (cc e.0)
reduced_tokens (Gap ps ∷ xs) ys k h (inr (inr e)) = absurd (cc e.0)
reduced_tokens (Joint ∷ xs) ys k h (inl e) = inl (tokens_of e.0, ap tokens_of e.1, reduced_tokens xs e.0 k h e.2)
reduced_tokens (Joint ∷ xs) ys k h (inr (inl e)) = absurd (cc e.0)
reduced_tokens (Joint ∷ xs) ys k h (inr (inr e)) = absurd (cc e.0)
reduced_tokens (Break ∷ xs) ys k h (inl e) = subst (λ z. IsReduced (tokens_of xs) z) (sym (ap tokens_of e.1)) (reduced_tokens xs e.0 k h.1 e.2)
reduced_tokens (Break ∷ xs) ys k h (inr (inl e)) = absurd (cc e.0)
reduced_tokens (Break ∷ xs) ys k h (inr (inr e)) = reduced_tokens xs ys k h.1 e.1
reduced_tokens (Own x t ∷ xs) ys k h (inl e) = inl (tokens_of e.0, ap tokens_of e.1, reduced_tokens xs e.0 (last_after k x t) h.4 e.2)
reduced_tokens (Own x t ∷ xs) ys k h (inr (inl e)) = inr (semi_token x t e.0, ends_after k xs (semi_parts k x t xs e.0 h.3 h.4).1 e.1, reduced_tokens xs ys (last_after k x t) h.4 e.3)
reduced_tokens (Own x t ∷ xs) ys k h (inr (inr e)) = absurd (cc e.0)

-- what is left are the tokens but for some ending semicolons, which aren't needed where they stand
pub tokens_reduced : (xs ys : List Part) → NoneFuse Start xs → Reduced xs ys → IsReduced (tokens_of xs) (tokens_of ys)
tokens_reduced xs ys h e = reduced_tokens xs ys Start h e

-- ---- laws of dropping

-- what begins with a token goes on beginning with one
pub own_first : (x : Kind) (t : List ℕ) (xs ys : List Part) → Reduced (Own x t ∷ xs) ys → begins_break ys ≡ false
unfolding Reduced begins_break
own_first x t xs ys (inl e) = ap begins_break e.1
own_first x t xs ys (inr (inl e)) = e.2
own_first x t xs ys (inr (inr e)) = absurd (cc e.0)

-- nothing need be dropped
pub reduced_same : (xs : List Part) → Reduced xs xs
unfolding Reduced
reduced_same [] = refl
reduced_same (x ∷ xs) = inl (xs, refl, reduced_same xs)

-- what stands before stays
pub reduced_after : (zs xs ys : List Part) → Reduced xs ys → Reduced (zs ++ xs) (zs ++ ys)
unfolding Reduced
reduced_after [] xs ys h = h
reduced_after (z ∷ zs) xs ys h = inl (zs ++ ys, refl, reduced_after zs xs ys h)

text_goes_on : (ps : List Piece) → all_pieces ps ≡ true → ends_text (pieces_text ps) ≡ false
unfolding ends_text all_pieces is_piece pieces_text piece_text
text_goes_on [] h = refl
text_goes_on (Blank c ∷ ps) h = blank_ne (λ c. (c == 123) || (c == 60)) c (and_parts (is_blank c) (all_pieces ps) h).0 refl refl refl refl
text_goes_on (BlockOf t ∷ ps) h = refl
text_goes_on (LineOf t c ∷ ps) h = refl

-- where a gap may stand, nothing may
end_for_gap : (k : PreviousToken) (ps : List Piece) → all_pieces ps ≡ true → allows k (pieces_text ps) ≡ true → allows k [] ≡ true
unfolding allows ends_line begins
end_for_gap Start ps h a = refl
end_for_gap Separated ps h a = refl
end_for_gap WordEnd ps h a = refl
end_for_gap IntegerEnd ps h a = refl
end_for_gap (Mark m) ps h a = refl
end_for_gap LessBang ps h a = refl
end_for_gap Whole ps h a = refl
end_for_gap TextEnd ps h a = absurd (true≢false (sym a ∙ text_goes_on ps h))
end_for_gap TagNameEnd ps h a = refl
end_for_gap LineEnd ps h a = refl

-- a gap at the end may go
pub without_last_gap : (k : PreviousToken) (xs : List Part) (ps : List Piece) → NoneFuse k (xs ++ Gap ps ∷ []) → NoneFuse k xs
unfolding NoneFuse
without_last_gap k [] ps h = end_for_gap k ps h.0 h.2
without_last_gap k (Gap qs ∷ xs) ps h = (h.0, h.1, h.2, without_last_gap (last_after_gap k qs) xs ps h.3)
without_last_gap k (Joint ∷ xs) ps h = without_last_gap k xs ps h
without_last_gap k (Break ∷ xs) ps h = (h.0, without_last_gap k xs ps h.1, without_last_gap Separated xs ps h.2)
without_last_gap k (Own x t ∷ xs) ps h = (h.0, h.1, h.2, h.3, without_last_gap (last_after k x t) xs ps h.4)
