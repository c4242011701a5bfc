-- Line ends that are put where a line may be ended leave the tokens as they are.
use Rattle.std.proofs.Common.{◌≡◌, inl, inr, ℕ, Bool, true, false, not, List, [], ◌∷◌, ◌++◌, codes, refl, sym, ◌∙◌, ap, subst, cond, ◌&&◌, append_assoc}
use Rattle.std.proofs.lemmas.Bool.{or_parts, true≢false, not-true}
use Rattle.swc_ecma_codegen_grammar.specs.declared.kinds.Kind.{Kind}
use Rattle.swc_ecma_codegen_grammar.specs.declared.kinds.Kind.TheVariants.{Word, Name, PrivateName, Punctuator, Ending, Number, BigInt, Str, Regex, Template, TemplateRest, Close, JsxName, JsxString, JsxText, JsxOpen, Hashbang, SameLine}
use Rattle.swc_ecma_codegen_grammar.specs.Chars.{is_one_line, is_line_end, is_blank}
use Rattle.swc_ecma_codegen_grammar.specs.Texts.{is_same, begins}
use Rattle.swc_ecma_codegen_grammar.specs.Tokens.{token_of, same_line}
use Rattle.swc_ecma_codegen_grammar.specs.Trivia.{Piece, is_piece, piece_text, pieces_text, all_pieces, remarks_of}
use Rattle.swc_ecma_codegen_grammar.specs.Reads.{Reads}
use Rattle.swc_ecma_codegen_grammar.specs.Numbers.{takes_dot}
use Rattle.swc_ecma_codegen_grammar.specs.GapRules.{PreviousToken, Start, Separated, WordEnd, IntegerEnd, Mark, LessBang, Whole, TextEnd, TagNameEnd, LineEnd, fuses, mark_fuses, allows, ends_text, ends_line, mark_after, last_after, last_after_gap, holds_child, MayBegin}
use Rattle.swc_ecma_codegen_grammar.specs.Parts.{Part, Gap, Own, Joint, Break, text_of, tokens_of, remarks_in, NoneFuse, OfLine, OnLine, over_gap, over_own, over_joint, walk, is_broken, KeepsLines}
use Rattle.swc_ecma_codegen_grammar.specs.LineEnds.{IsNewLine, may_end, LineEnded, segments, ended_text, segments_in}
use Rattle.swc_ecma_codegen_grammar.proofs.Reading.{blank_fuses, reads}
use Rattle.swc_ecma_codegen_grammar.proofs.Dropped.{none_ends}
use Rattle.swc_ecma_codegen_grammar.proofs.Tables.{eq_of_same}

-- ---- what was written last, with and without a line end

-- The second allows all that the first does: they are the same, or the second is a line end behind what may end a line, or `!` by itself.
data Later : PreviousToken → PreviousToken → Type 0 where
  same : (k : PreviousToken) → Later k k
  ended : (k : PreviousToken) → may_end k ≡ true → Later k Separated
  bang : Later LessBang (Mark (codes "!"))

end_child : (k : PreviousToken) → may_end k ≡ true → holds_child k ≡ false
unfolding may_end holds_child
end_child WordEnd h = refl
end_child (Mark t) h = not-true (is_same t (codes "}")) h
end_child LessBang h = refl
end_child k h = absurd (true≢false (sym h))

end_start : (k : PreviousToken) → may_end k ≡ true → k ≡ Start → ⊥
unfolding may_end
end_start k h e = true≢false (sym h ∙ ap may_end e)

end_allows : (k : PreviousToken) (t : List ℕ) → may_end k ≡ true → allows k t ≡ true
unfolding may_end allows
end_allows WordEnd t h = refl
end_allows (Mark m) t h = refl
end_allows LessBang t h = refl
end_allows k t h = absurd (true≢false (sym h))

apart_alone : (t : List ℕ) → fuses Separated t ≡ false
unfolding fuses
apart_alone [] = refl
apart_alone (c ∷ n) = refl

bang_fuses : (t : List ℕ) → fuses LessBang t ≡ false → fuses (Mark (codes "!")) t ≡ false
unfolding fuses
bang_fuses [] h = refl
bang_fuses (c ∷ n) h = (or_parts (mark_fuses (codes "!") c n) (begins (codes "--") (c ∷ n)) h).0

later_fuses : (k j : PreviousToken) (t : List ℕ) → Later k j → fuses k t ≡ false → fuses j t ≡ false
later_fuses k j t (same i) h = h
later_fuses k j t (ended i p) h = apart_alone t
later_fuses k j t bang h = bang_fuses t h

later_allows : (k j : PreviousToken) (t : List ℕ) → Later k j → allows k t ≡ true → allows j t ≡ true
unfolding allows
later_allows k j t (same i) h = h
later_allows k j t (ended i p) h = refl
later_allows k j t bang h = refl

bang_start : LessBang ≡ Start → ⊥
bang_start e = cc

later_begins : (k j : PreviousToken) (x : Kind) → Later k j → MayBegin k x → MayBegin j x
unfolding holds_child
later_begins k j x (same i) h = h
later_begins k j x (ended i p) h = record { child = λ e. absurd (true≢false (sym (h.child e) ∙ end_child i p)); first = λ e. absurd (end_start i p (h.first e)) }
later_begins k j x bang h = record { child = λ e. absurd (true≢false (sym (h.child e))); first = λ e. absurd (bang_start (h.first e)) }

later_gap : (k j : PreviousToken) (ps : List Piece) → Later k j → Later (last_after_gap k ps) (last_after_gap j ps)
unfolding last_after_gap
later_gap k j [] h = h
later_gap k j (p ∷ ps) h = same Separated

mark_later : (b c : Bool) (t : List ℕ) → (c ≡ true → t ≡ codes "!") → Later (cond (b && c) LessBang (Mark t)) (Mark t)
mark_later true true t h = subst (λ z. Later LessBang (Mark z)) (sym (h refl)) bang
mark_later true false t h = same (Mark t)
mark_later false c t h = same (Mark t)

end_mark : (k : PreviousToken) (t : List ℕ) → may_end k ≡ true → Later (mark_after k t) (Mark t)
unfolding may_end mark_after
end_mark WordEnd t h = same (Mark t)
end_mark LessBang t h = same (Mark t)
end_mark (Mark m) t h = mark_later (is_same m (codes "<")) (is_same t (codes "!")) t (λ e. eq_of_same t (codes "!") e)
end_mark k t h = absurd (true≢false (sym h))

bang_mark : (t : List ℕ) → mark_after (Mark (codes "!")) t ≡ Mark t
unfolding mark_after is_same
bang_mark t = refl

later_mark : (k j : PreviousToken) (t : List ℕ) → Later k j → Later (mark_after k t) (mark_after j t)
unfolding mark_after
later_mark k j t (same i) = same (mark_after i t)
later_mark k j t (ended i p) = end_mark i t p
later_mark k j t bang = subst (λ z. Later (Mark t) z) (sym (bang_mark t)) (same (Mark t))

later_after : (k j : PreviousToken) (x : Kind) (t : List ℕ) → Later k j → Later (last_after k x t) (last_after j x t)
unfolding last_after
later_after k j Punctuator t h = later_mark k j t h
later_after k j Ending t h = later_mark k j t h
later_after k j JsxOpen t h = later_mark k j t h
later_after k j Word t h = same WordEnd
later_after k j Name t h = same WordEnd
later_after k j PrivateName t h = same WordEnd
later_after k j Number t h = same (cond (takes_dot t) IntegerEnd WordEnd)
later_after k j BigInt t h = same (cond (takes_dot t) IntegerEnd WordEnd)
later_after k j Str t h = same Whole
later_after k j Regex t h = same WordEnd
later_after k j (Template o) t h = same Whole
later_after k j (TemplateRest o) t h = same Whole
later_after k j Close t h = same Whole
later_after k j JsxName t h = same TagNameEnd
later_after k j JsxString t h = same Whole
later_after k j JsxText t h = same TextEnd
later_after k j Hashbang t h = same LineEnd
later_after k j SameLine t h = same Separated

-- ---- where a line may be ended

mark_case : (b c : Bool) (t : List ℕ) → is_same t (codes "}") ≡ false → may_end (cond (b && c) LessBang (Mark t)) ≡ true
unfolding may_end
mark_case true true t h = refl
mark_case true false t h = ap not h
mark_case false c t h = ap not h

-- behind a punctuator other than `}`
pub mark_may_end : (k : PreviousToken) (t : List ℕ) → is_same t (codes "}") ≡ false → may_end (mark_after k t) ≡ true
unfolding mark_after may_end
mark_may_end (Mark m) t h = mark_case (is_same m (codes "<")) (is_same t (codes "!")) t h
mark_may_end Start t h = ap not h
mark_may_end Separated t h = ap not h
mark_may_end WordEnd t h = ap not h
mark_may_end IntegerEnd t h = ap not h
mark_may_end LessBang t h = ap not h
mark_may_end Whole t h = ap not h
mark_may_end TextEnd t h = ap not h
mark_may_end TagNameEnd t h = ap not h
mark_may_end LineEnd t h = ap not h

none_later : (xs : List Part) (k j : PreviousToken) → Later k j → NoneFuse k xs → NoneFuse j xs
unfolding NoneFuse
none_later [] k j r h = later_allows k j [] r h
none_later (Gap ps ∷ xs) k j r h = (h.0, later_fuses k j (pieces_text ps) r h.1, later_allows k j (pieces_text ps) r h.2, none_later xs (last_after_gap k ps) (last_after_gap j ps) (later_gap k j ps r) h.3)
none_later (Joint ∷ xs) k j r h = none_later xs k j r h
none_later (Break ∷ xs) k j r h = (later_allows k j (10 ∷ []) r h.0, none_later xs k j r h.1, h.2)
none_later (Own x t ∷ xs) k j r h = (h.0, later_fuses k j t r h.1, later_begins k j x r h.2, later_allows k j t r h.3, none_later xs (last_after k x t) (last_after j x t) (later_after k j x t r) h.4)

-- behind such a token
pub may_break : (k : PreviousToken) (xs : List Part) → may_end k ≡ true → NoneFuse k xs → NoneFuse k (Break ∷ xs)
unfolding NoneFuse
may_break k xs e h = (end_allows k (10 ∷ []) e, h, none_later xs k Separated (ended k e) h)

-- ---- no two tokens become one

line_pieces : (line : List Piece) → IsNewLine line → all_pieces line ≡ true
unfolding all_pieces is_piece is_blank
line_pieces line (inl e) = ap all_pieces e
line_pieces line (inr e) = ap all_pieces e

line_alone : (line : List Piece) (k : PreviousToken) → IsNewLine line → fuses k (pieces_text line) ≡ false
unfolding pieces_text piece_text is_blank
line_alone line k (inl e) = ap (λ z. fuses k (pieces_text z)) e ∙ blank_fuses k 10 [] refl
line_alone line k (inr e) = ap (λ z. fuses k (pieces_text z)) e ∙ blank_fuses k 13 (10 ∷ []) refl

-- where LF may follow, CR and LF may
both_allowed : (k : PreviousToken) → allows k (10 ∷ []) ≡ true → allows k (13 ∷ 10 ∷ []) ≡ true
unfolding allows ends_text ends_line is_line_end begins
both_allowed Start a = refl
both_allowed Separated a = refl
both_allowed WordEnd a = refl
both_allowed IntegerEnd a = refl
both_allowed (Mark m) a = refl
both_allowed LessBang a = refl
both_allowed Whole a = refl
both_allowed TextEnd a = absurd (true≢false (sym a))
both_allowed TagNameEnd a = refl
both_allowed LineEnd a = refl

line_allowed : (line : List Piece) (k : PreviousToken) → IsNewLine line → allows k (10 ∷ []) ≡ true → allows k (pieces_text line) ≡ true
unfolding pieces_text piece_text
line_allowed line k (inl e) a = ap (λ z. allows k (pieces_text z)) e ∙ a
line_allowed line k (inr e) a = ap (λ z. allows k (pieces_text z)) e ∙ both_allowed k a

line_apart : (line : List Piece) (k : PreviousToken) → IsNewLine line → last_after_gap k line ≡ Separated
unfolding last_after_gap
line_apart line k (inl e) = ap (last_after_gap k) e
line_apart line k (inr e) = ap (last_after_gap k) e

line_breaks : (line : List Piece) → IsNewLine line → is_one_line (pieces_text line) ≡ false
unfolding pieces_text piece_text is_one_line is_line_end
line_breaks line (inl e) = ap (λ z. is_one_line (pieces_text z)) e
line_breaks line (inr e) = ap (λ z. is_one_line (pieces_text z)) e

none_ended : (line : List Piece) → IsNewLine line → (xs ys : List Part) (k : PreviousToken) → NoneFuse k xs → LineEnded line xs ys → NoneFuse k ys
unfolding NoneFuse LineEnded
none_ended line l [] ys k h e = subst (λ z. NoneFuse k z) (sym e) h
none_ended line l (Gap ps ∷ xs) ys k h e = subst (λ z. NoneFuse k z) (sym e.1) (h.0, h.1, h.2, none_ended line l xs e.0 (last_after_gap k ps) h.3 e.2)
none_ended line l (Own x t ∷ xs) ys k h e = subst (λ z. NoneFuse k z) (sym e.1) (h.0, h.1, h.2, h.3, none_ended line l xs e.0 (last_after k x t) h.4 e.2)
none_ended line l (Joint ∷ xs) ys k h e = subst (λ z. NoneFuse k z) (sym e.1) (none_ended line l xs e.0 k h e.2)
none_ended line l (Break ∷ xs) ys k h (inl e) = none_ended line l xs ys k h.1 e
none_ended line l (Break ∷ xs) ys k h (inr e) =
    let rest : NoneFuse Separated e.0 = none_ended line l xs e.0 Separated h.2 e.2 in
    subst (λ z. NoneFuse k z) (sym e.1) (line_pieces line l, line_alone line k l, line_allowed line k l h.0, subst (λ z. NoneFuse z e.0) (sym (line_apart line k l)) rest)

-- ---- no line ends where none may

keeps_ended : (line : List Piece) → IsNewLine line → (xs ys : List Part) (w : OfLine) → LineEnded line xs ys → is_broken (walk w xs) ≡ false → is_broken (walk w ys) ≡ false
unfolding walk LineEnded
keeps_ended line l [] ys w e h = subst (λ (z : List Part). is_broken (walk w z) ≡ false) (sym e) h
keeps_ended line l (Gap ps ∷ xs) ys w e h = subst (λ (z : List Part). is_broken (walk w z) ≡ false) (sym e.1) (keeps_ended line l xs e.0 (over_gap (is_one_line (pieces_text ps)) w) e.2 h)
keeps_ended line l (Own x t ∷ xs) ys w e h = subst (λ (z : List Part). is_broken (walk w z) ≡ false) (sym e.1) (keeps_ended line l xs e.0 (over_own w) e.2 h)
keeps_ended line l (Joint ∷ xs) ys w e h = subst (λ (z : List Part). is_broken (walk w z) ≡ false) (sym e.1) (keeps_ended line l xs e.0 (over_joint w) e.2 h)
keeps_ended line l (Break ∷ xs) ys w (inl e) h = keeps_ended line l xs ys w e (none_ends xs w h)
keeps_ended line l (Break ∷ xs) ys w (inr e) h =
    subst (λ (z : List Part). is_broken (walk w z) ≡ false) (sym e.1)
    (keeps_ended line l xs e.0 _ e.2 (subst (λ o. is_broken (walk (over_gap o w) xs) ≡ false) (sym (line_breaks line l)) h))

-- ---- the tokens are the same

line_remarks : (line : List Piece) → IsNewLine line → remarks_of line ≡ []
unfolding remarks_of
line_remarks line (inl e) = ap remarks_of e
line_remarks line (inr e) = ap remarks_of e

tokens_ended : (line : List Piece) (xs ys : List Part) → LineEnded line xs ys → tokens_of ys ≡ tokens_of xs
unfolding LineEnded tokens_of
tokens_ended line [] ys e = ap tokens_of e
tokens_ended line (Gap ps ∷ xs) ys e = ap tokens_of e.1 ∙ tokens_ended line xs e.0 e.2
tokens_ended line (Own x t ∷ xs) ys e = ap tokens_of e.1 ∙ ap (λ z. token_of x t ∷ z) (tokens_ended line xs e.0 e.2)
tokens_ended line (Joint ∷ xs) ys e = ap tokens_of e.1 ∙ ap (λ z. same_line ∷ z) (tokens_ended line xs e.0 e.2)
tokens_ended line (Break ∷ xs) ys (inl e) = tokens_ended line xs ys e
tokens_ended line (Break ∷ xs) ys (inr e) = ap tokens_of e.1 ∙ tokens_ended line xs e.0 e.2

remarks_ended : (line : List Piece) → IsNewLine line → (xs ys : List Part) → LineEnded line xs ys → remarks_in ys ≡ remarks_in xs
unfolding LineEnded remarks_in
remarks_ended line l [] ys e = ap remarks_in e
remarks_ended line l (Gap ps ∷ xs) ys e = ap remarks_in e.1 ∙ ap (λ z. remarks_of ps ++ z) (remarks_ended line l xs e.0 e.2)
remarks_ended line l (Own x t ∷ xs) ys e = ap remarks_in e.1 ∙ remarks_ended line l xs e.0 e.2
remarks_ended line l (Joint ∷ xs) ys e = ap remarks_in e.1 ∙ remarks_ended line l xs e.0 e.2
remarks_ended line l (Break ∷ xs) ys (inl e) = remarks_ended line l xs ys e
remarks_ended line l (Break ∷ xs) ys (inr e) = ap remarks_in e.1 ∙ (ap (λ z. z ++ remarks_in e.0) (line_remarks line l) ∙ remarks_ended line l xs e.0 e.2)

pub reads_line_ended : (line : List Piece) (xs ys : List Part) → IsNewLine line → NoneFuse Start xs → KeepsLines xs → LineEnded line xs ys → Reads (text_of ys) (tokens_of xs) (remarks_in xs)
reads_line_ended line xs ys l h k e =
    subst (λ z. Reads (text_of ys) z (remarks_in xs)) (tokens_ended line xs ys e)
    (subst (λ z. Reads (text_of ys) (tokens_of ys) z) (remarks_ended line l xs ys e)
    (reads ys (none_ended line l xs ys Start h e) (keeps_ended line l xs ys OnLine e k)))

-- ---- segments of a text

no_segments : (ps : List (Bool × List ℕ)) → segments_in ps ≡ [] → ps ≡ []
unfolding segments_in
no_segments [] e = refl
no_segments (p ∷ ps) e = absurd (nothing e)
  where
    nothing : segments_in (p ∷ ps) ≡ [] → ⊥
    nothing e = cc

some_segment : (xs : List Part) (begun : List ℕ) → segments xs begun ≡ [] → ⊥
unfolding segments
some_segment [] begun e = cc
some_segment (Gap ps ∷ xs) begun e = some_segment xs (begun ++ pieces_text ps) e
some_segment (Own x t ∷ xs) begun e = some_segment xs (begun ++ t) e
some_segment (Joint ∷ xs) begun e = some_segment xs begun e
some_segment (Break ∷ xs) begun e = cc

abbrev Parted : List Piece → List Part → List ℕ → List ℕ → List (Bool × List ℕ) → Type 0
Parted line xs begun c ps = (ys : List Part) × LineEnded line xs ys × (begun ++ text_of ys ≡ c ++ ended_text (pieces_text line) ps)

parted_last : (line : List Piece) (begun c : List ℕ) (ps : List (Bool × List ℕ)) → segments [] begun ≡ (c ∷ segments_in ps) → Parted line [] begun c ps
unfolding segments LineEnded text_of ended_text
parted_last line begun c ps e =
    let first : c ≡ begun = cc in
    let none : segments_in ps ≡ [] = cc in
    ([], refl, ap (λ z. z ++ []) (sym first) ∙ ap (λ z. c ++ ended_text (pieces_text line) z) (sym (no_segments ps none)))

parted_gap : (line : List Piece) (qs : List Piece) (xs : List Part) (begun c : List ℕ) (ps : List (Bool × List ℕ)) → Parted line xs (begun ++ pieces_text qs) c ps → Parted line (Gap qs ∷ xs) begun c ps
unfolding LineEnded text_of
parted_gap line qs xs begun c ps h = (Gap qs ∷ h.0, (h.0, refl, h.1), sym (append_assoc begun (pieces_text qs) (text_of h.0)) ∙ h.2)

parted_own : (line : List Piece) (x : Kind) (t : List ℕ) (xs : List Part) (begun c : List ℕ) (ps : List (Bool × List ℕ)) → Parted line xs (begun ++ t) c ps → Parted line (Own x t ∷ xs) begun c ps
unfolding LineEnded text_of
parted_own line x t xs begun c ps h = (Own x t ∷ h.0, (h.0, refl, h.1), sym (append_assoc begun t (text_of h.0)) ∙ h.2)

parted_joint : (line : List Piece) (xs : List Part) (begun c : List ℕ) (ps : List (Bool × List ℕ)) → Parted line xs begun c ps → Parted line (Joint ∷ xs) begun c ps
unfolding LineEnded text_of
parted_joint line xs begun c ps h = (Joint ∷ h.0, (h.0, refl, h.1), h.2)

parted_break : (line : List Piece) (xs : List Part) (begun c s : List ℕ) (b : Bool) (ps : List (Bool × List ℕ)) → begun ≡ c → Parted line xs [] s ps → Parted line (Break ∷ xs) begun c ((b, s) ∷ ps)
unfolding LineEnded text_of ended_text
parted_break line xs begun c s true ps e h = (Gap line ∷ h.0, inr (h.0, refl, h.1), ap (λ z. z ++ (pieces_text line ++ text_of h.0)) e ∙ ap (λ z. c ++ (pieces_text line ++ z)) h.2)
parted_break line xs begun c s false ps e h = (h.0, inl h.1, ap (λ z. z ++ text_of h.0) e ∙ ap (λ z. c ++ z) h.2)

parted : (line : List Piece) (xs : List Part) (begun c : List ℕ) (ps : List (Bool × List ℕ)) → segments xs begun ≡ (c ∷ segments_in ps) → Parted line xs begun c ps
unfolding segments segments_in
parted line [] begun c ps e = parted_last line begun c ps e
parted line (Gap qs ∷ xs) begun c ps e = parted_gap line qs xs begun c ps (parted line xs (begun ++ pieces_text qs) c ps e)
parted line (Own x t ∷ xs) begun c ps e = parted_own line x t xs begun c ps (parted line xs (begun ++ t) c ps e)
parted line (Joint ∷ xs) begun c ps e = parted_joint line xs begun c ps (parted line xs begun c ps e)
parted line (Break ∷ xs) begun c [] e =
    let none : segments xs [] ≡ [] = cc in
    absurd (some_segment xs [] none)
parted line (Break ∷ xs) begun c ((b, s) ∷ ps) e =
    let first : begun ≡ c = cc in
    let rest : segments xs [] ≡ (s ∷ segments_in ps) = cc in
    parted_break line xs begun c s b ps first (parted line xs [] s ps rest)

-- whatever is ended of them, it reads the same
pub reads_cut : (line : List Piece) (xs : List Part) (c : List ℕ) (ps : List (Bool × List ℕ)) → IsNewLine line → NoneFuse Start xs → KeepsLines xs → segments xs [] ≡ (c ∷ segments_in ps) → Reads (c ++ ended_text (pieces_text line) ps) (tokens_of xs) (remarks_in xs)
reads_cut line xs c ps l h k e =
    let q : Parted line xs [] c ps = parted line xs [] c ps e in
    subst (λ z. Reads z (tokens_of xs) (remarks_in xs)) q.2 (reads_line_ended line xs q.0 l h k q.1)
