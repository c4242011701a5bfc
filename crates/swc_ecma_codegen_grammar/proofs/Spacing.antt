-- The second pass leaves no two tokens that become one, and no other tokens or comments.
use Rattle.std.proofs.Common.{Bool, List, [], ap, codes, cond, false, refl, subst, sym, true, ℕ, ◌&&◌, ◌++◌, ◌∙◌, ◌∷◌, ◌≡◌}
use Rattle.std.proofs.lemmas.Bool.{and_right, cond-false, true≢false}
use Rattle.swc_ecma_codegen_grammar.proofs.Reading.{blank_fuses, reads}
use Rattle.swc_ecma_codegen_grammar.proofs.Tables.{eq_of_same}
use Rattle.swc_ecma_codegen_grammar.specs.Chars.{is_blank, is_one_line, is_line_end}
use Rattle.swc_ecma_codegen_grammar.specs.GapRules.{Separated, IntegerEnd, PreviousToken, LessBang, LineEnd, Mark, MayBegin, Start, TagNameEnd, TextEnd, Whole, WordEnd, allows, fuses, grows, holds_child, is_choice, last_after, last_after_gap, mark_after, mark_fuses}
use Rattle.swc_ecma_codegen_grammar.specs.Numbers.{takes_dot}
use Rattle.swc_ecma_codegen_grammar.specs.Parts.{AllSpelled, AtStart, Before, Elsewhere, Gap, InLine, InTagName, InText, NoneFuse, Own, Part, TagEnd, before, before_gap, is_between_tags, remarks_in, spaced, text_of, tokens_of, wants, Joint, Break, OfLine, OnLine, walk, over_own, over_gap, over_joint, is_broken, KeepsLines}
use Rattle.swc_ecma_codegen_grammar.specs.Punctuators.{punctuators}
use Rattle.swc_ecma_codegen_grammar.specs.Reads.{Reads, is_child, is_hashbang_kind}
use Rattle.swc_ecma_codegen_grammar.specs.Texts.{begins, is_same, some_begins}
use Rattle.swc_ecma_codegen_grammar.specs.Tokens.{has_shape, token_of, same_line}
use Rattle.swc_ecma_codegen_grammar.specs.Trivia.{Blank, Piece, all_pieces, is_piece, piece_text, pieces_text, remarks_of}
use Rattle.swc_ecma_codegen_grammar.specs.declared.kinds.Kind.{Kind}
use Rattle.swc_ecma_codegen_grammar.specs.declared.kinds.Kind.TheVariants.{BigInt, Close, Ending, Hashbang, JsxName, JsxOpen, JsxString, JsxText, Name, Number, PrivateName, Punctuator, Regex, Str, Template, TemplateRest, Word, SameLine}

-- the last token, and what may stand there
record Fits (b : Before) (k : PreviousToken) : Type 0 where
  tags : is_between_tags b ≡ true → holds_child k ≡ true
  start : b ≡ AtStart → k ≡ Start
  follows : (t : List ℕ) → wants b t ≡ true → allows k t ≡ true

elsewhere_is_no_start : Elsewhere ≡ AtStart → ⊥
elsewhere_is_no_start e = cc

elsewhere : (k : PreviousToken) → ((t : List ℕ) → allows k t ≡ true) → Fits Elsewhere k
unfolding is_between_tags
elsewhere k n = record { tags = λ e. absurd (true≢false (sym e)); start = λ e. absurd (elsewhere_is_no_start e); follows = λ t h. n t }

mark_allows : (k : PreviousToken) (m t : List ℕ) → allows (mark_after k m) t ≡ true
unfolding mark_after allows
mark_allows Start m t = refl
mark_allows Separated m t = refl
mark_allows WordEnd m t = refl
mark_allows IntegerEnd m t = refl
mark_allows LessBang m t = refl
mark_allows Whole m t = refl
mark_allows TextEnd m t = refl
mark_allows TagNameEnd m t = refl
mark_allows LineEnd m t = refl
mark_allows (Mark l) m t = one (is_same l (codes "<") && is_same m (codes "!"))
  where
    one : (b : Bool) → allows (cond b LessBang (Mark m)) t ≡ true
    one true = refl
    one false = refl

brace_after : (k : PreviousToken) → mark_after k (codes "}") ≡ Mark (codes "}")
unfolding mark_after is_same
brace_after Start = refl
brace_after Separated = refl
brace_after WordEnd = refl
brace_after IntegerEnd = refl
brace_after LessBang = refl
brace_after Whole = refl
brace_after TextEnd = refl
brace_after TagNameEnd = refl
brace_after LineEnd = refl
brace_after (Mark m) = cond-false (is_same m (codes "<") && false) LessBang (Mark (codes "}")) (and_right (is_same m (codes "<")) false refl)

brace_holds : holds_child (Mark (codes "}")) ≡ true
unfolding holds_child is_same
brace_holds = refl

tag_end_is_no_start : TagEnd ≡ AtStart → ⊥
tag_end_is_no_start e = cc

tag_name_is_no_start : InTagName ≡ AtStart → ⊥
tag_name_is_no_start e = cc

text_is_no_start : InText ≡ AtStart → ⊥
text_is_no_start e = cc

line_is_no_start : InLine ≡ AtStart → ⊥
line_is_no_start e = cc

-- after a punctuator: the end of a container, or elsewhere
fits_mark : (b : Bool) (k : PreviousToken) (t : List ℕ) → (b ≡ true → t ≡ codes "}") → Fits (cond b TagEnd Elsewhere) (mark_after k t)
unfolding is_between_tags wants
fits_mark false k t h = elsewhere (mark_after k t) (mark_allows k t)
fits_mark true k t h =
    let e : mark_after k t ≡ Mark (codes "}") = ap (mark_after k) (h refl) ∙ brace_after k in
    record { tags = λ f. ap holds_child e ∙ brace_holds; start = λ f. absurd (tag_end_is_no_start f); follows = λ u f. mark_allows k t u }

number_allows : (b : Bool) (t : List ℕ) → allows (cond b IntegerEnd WordEnd) t ≡ true
unfolding allows
number_allows true t = refl
number_allows false t = refl

fits_own : (k : PreviousToken) (x : Kind) (t : List ℕ) → Fits (before x t) (last_after k x t)
unfolding before last_after wants allows is_between_tags holds_child
fits_own k Word t = elsewhere WordEnd (λ u. refl)
fits_own k Name t = elsewhere WordEnd (λ u. refl)
fits_own k PrivateName t = elsewhere WordEnd (λ u. refl)
fits_own k Punctuator t = fits_mark (is_same t (codes "}")) k t (eq_of_same t (codes "}"))
fits_own k Ending t = elsewhere (mark_after k t) (mark_allows k t)
fits_own k Number t = elsewhere (cond (takes_dot t) IntegerEnd WordEnd) (number_allows (takes_dot t))
fits_own k BigInt t = elsewhere (cond (takes_dot t) IntegerEnd WordEnd) (number_allows (takes_dot t))
fits_own k Str t = elsewhere Whole (λ u. refl)
fits_own k Regex t = elsewhere WordEnd (λ u. refl)
fits_own k (Template o) t = elsewhere Whole (λ u. refl)
fits_own k (TemplateRest o) t = elsewhere Whole (λ u. refl)
fits_own k Close t = record { tags = λ e. refl; start = λ e. absurd (tag_end_is_no_start e); follows = λ u h. refl }
fits_own k JsxName t = record { tags = λ e. absurd (true≢false (sym e)); start = λ e. absurd (tag_name_is_no_start e); follows = λ u h. h }
fits_own k JsxString t = elsewhere Whole (λ u. refl)
fits_own k JsxText t = record { tags = λ e. refl; start = λ e. absurd (text_is_no_start e); follows = λ u h. h }
fits_own k JsxOpen t = elsewhere (mark_after k t) (mark_allows k t)
fits_own k SameLine t = elsewhere Separated (λ u. refl)
fits_own k Hashbang t = record { tags = λ e. absurd (true≢false (sym e)); start = λ e. absurd (line_is_no_start e); follows = λ u h. h }

apart_allows : (t : List ℕ) → allows Separated t ≡ true
unfolding allows
apart_allows t = refl

brace_alone : (t : List ℕ) → fuses (Mark (codes "}")) t ≡ false
unfolding fuses mark_fuses grows some_begins begins punctuators is_same is_choice
brace_alone [] = refl
brace_alone (c ∷ n) = refl

apart_alone : (t : List ℕ) → fuses Separated t ≡ false
unfolding fuses
apart_alone [] = refl
apart_alone (c ∷ n) = refl

nothing_alone : (k : PreviousToken) → fuses k (pieces_text []) ≡ false
unfolding fuses pieces_text
nothing_alone k = refl

start_alone : (t : List ℕ) → fuses Start t ≡ false
unfolding fuses
start_alone [] = refl
start_alone (c ∷ n) = refl

-- no blank is due where a child of JSX may begin
child_alone : (k : PreviousToken) (t : List ℕ) → holds_child k ≡ true → fuses k t ≡ false
unfolding holds_child fuses
child_alone k [] h = refl
child_alone Whole (c ∷ n) h = refl
child_alone TextEnd (c ∷ n) h = refl
child_alone (Mark m) (c ∷ n) h = subst (λ z. fuses (Mark z) (c ∷ n) ≡ false) (sym (eq_of_same m (codes "}") h)) (brace_alone (c ∷ n))
child_alone k (c ∷ n) h = absurd (cc)

-- where a blank is due, neither a child of JSX nor a hashbang begins
no_blank : (b : Before) (k : PreviousToken) (x : Kind) (t : List ℕ) → Fits b k → (is_child x ≡ true → is_between_tags b ≡ true) → (is_hashbang_kind x ≡ true → b ≡ AtStart) → fuses k t ≡ true → MayBegin Separated x
no_blank b k x t f g s e = record {
  child = λ c. absurd (true≢false (sym e ∙ child_alone k t (f.tags (g c))));
  first = λ c. absurd (true≢false (sym e ∙ subst (λ z. fuses z t ≡ false) (sym (f.start (s c))) (start_alone t)));
}

blank_piece : all_pieces (Blank 32 ∷ []) ≡ true
unfolding all_pieces is_piece is_blank
blank_piece = refl

blank_apart : (k : PreviousToken) → fuses k (pieces_text (Blank 32 ∷ [])) ≡ false
unfolding pieces_text piece_text is_blank
blank_apart k = blank_fuses k 32 [] refl

-- a blank is allowed wherever one is due
blank_allowed : (k : PreviousToken) (t : List ℕ) → fuses k t ≡ true → allows k (pieces_text (Blank 32 ∷ [])) ≡ true
unfolding fuses allows pieces_text piece_text begins
blank_allowed k [] e = absurd (true≢false (sym e))
blank_allowed Start (c ∷ n) e = refl
blank_allowed Separated (c ∷ n) e = refl
blank_allowed WordEnd (c ∷ n) e = refl
blank_allowed IntegerEnd (c ∷ n) e = refl
blank_allowed (Mark m) (c ∷ n) e = refl
blank_allowed LessBang (c ∷ n) e = refl
blank_allowed Whole (c ∷ n) e = refl
blank_allowed TextEnd (c ∷ n) e = absurd (true≢false (sym e))
blank_allowed TagNameEnd (c ∷ n) e = refl
blank_allowed LineEnd (c ∷ n) e = absurd (true≢false (sym e))

apart_gap : (k : PreviousToken) (ps : List Piece) (xs : List Part) → all_pieces ps ≡ true → NoneFuse (last_after_gap Separated ps) (spaced (last_after_gap Separated ps) xs) → NoneFuse (last_after_gap k (Blank 32 ∷ [])) (Gap ps ∷ spaced (last_after_gap Separated ps) xs)
unfolding NoneFuse last_after_gap allows
apart_gap k ps xs a h = (a, apart_alone (pieces_text ps), refl, h)

own_case : (b : Before) (k : PreviousToken) (x : Kind) (t : List ℕ) (xs : List Part) (c : Bool) → fuses k t ≡ c → Fits b k → has_shape x t ≡ true → (is_child x ≡ true → is_between_tags b ≡ true) → (is_hashbang_kind x ≡ true → b ≡ AtStart) → (wants b t ≡ true)
    → ((l : PreviousToken) → Fits (before x t) l → NoneFuse l (spaced l xs))
    → NoneFuse k (cond c (Gap (Blank 32 ∷ []) ∷ Own x t ∷ spaced (last_after Separated x t) xs) (Own x t ∷ spaced (last_after k x t) xs))
unfolding NoneFuse last_after_gap allows
own_case b k x t xs true e f s g i n h = (blank_piece, blank_apart k, blank_allowed k t e, (s, apart_alone t, no_blank b k x t f g i e, refl, h (last_after Separated x t) (fits_own Separated x t)))
own_case b k x t xs false e f s g i n h = (s, e, record { child = λ c. f.tags (g c); first = λ c. f.start (i c) }, f.follows t n, h (last_after k x t) (fits_own k x t))

fits_gap : (b : Before) (k : PreviousToken) (ps : List Piece) → Fits b k → Fits (before_gap b ps) (last_after_gap k ps)
unfolding before_gap last_after_gap
fits_gap b k [] f = f
fits_gap b k (p ∷ ps) f = elsewhere Separated (λ u. apart_allows u)

fits_apart : (b : Before) (k : PreviousToken) (ps : List Piece) → fuses k (pieces_text ps) ≡ true → Fits (before_gap b ps) (last_after_gap Separated ps)
unfolding before_gap last_after_gap
fits_apart b k [] e = absurd (true≢false (sym e ∙ nothing_alone k))
fits_apart b k (p ∷ ps) e = elsewhere Separated (λ u. apart_allows u)

gap_case : (b : Before) (k : PreviousToken) (ps : List Piece) (xs : List Part) (c : Bool) → fuses k (pieces_text ps) ≡ c → Fits b k → all_pieces ps ≡ true → wants b (pieces_text ps) ≡ true
    → ((l : PreviousToken) → Fits (before_gap b ps) l → NoneFuse l (spaced l xs))
    → NoneFuse k (cond c (Gap (Blank 32 ∷ []) ∷ Gap ps ∷ spaced (last_after_gap Separated ps) xs) (Gap ps ∷ spaced (last_after_gap k ps) xs))
unfolding NoneFuse
gap_case b k ps xs true e f a n h = (blank_piece, blank_apart k, blank_allowed k (pieces_text ps) e, apart_gap k ps xs a (h (last_after_gap Separated ps) (fits_apart b k ps e)))
gap_case b k ps xs false e f a n h = (a, e, f.follows (pieces_text ps) n, h (last_after_gap k ps) (fits_gap b k ps f))

spaced_fuses : (xs : List Part) (b : Before) (k : PreviousToken) → AllSpelled b xs → Fits b k → NoneFuse k (spaced k xs)
unfolding AllSpelled spaced NoneFuse
spaced_fuses [] b k h f = f.follows [] h
spaced_fuses (Gap ps ∷ xs) b k h f = gap_case b k ps xs (fuses k (pieces_text ps)) refl f h.0 h.1 (λ l g. spaced_fuses xs (before_gap b ps) l h.2 g)
spaced_fuses (Joint ∷ xs) b k h f = spaced_fuses xs b k h f
spaced_fuses (Break ∷ xs) b k h f = absurd h
spaced_fuses (Own x t ∷ xs) b k h f = own_case b k x t xs (fuses k t) refl f h.0 h.1 h.2 h.3 (λ l g. spaced_fuses xs (before x t) l h.4 g)

own_same : (k : PreviousToken) (x : Kind) (t : List ℕ) (xs : List Part) (c : Bool) → ((l : PreviousToken) → (tokens_of (spaced l xs) ≡ tokens_of xs) × (remarks_in (spaced l xs) ≡ remarks_in xs))
    → (tokens_of (cond c (Gap (Blank 32 ∷ []) ∷ Own x t ∷ spaced (last_after Separated x t) xs) (Own x t ∷ spaced (last_after k x t) xs)) ≡ token_of x t ∷ tokens_of xs)
    × (remarks_in (cond c (Gap (Blank 32 ∷ []) ∷ Own x t ∷ spaced (last_after Separated x t) xs) (Own x t ∷ spaced (last_after k x t) xs)) ≡ remarks_in xs)
unfolding tokens_of remarks_in remarks_of
own_same k x t xs true h = (ap (λ z. token_of x t ∷ z) (h (last_after Separated x t)).0, (h (last_after Separated x t)).1)
own_same k x t xs false h = (ap (λ z. token_of x t ∷ z) (h (last_after k x t)).0, (h (last_after k x t)).1)

gap_same : (k : PreviousToken) (ps : List Piece) (xs : List Part) (c : Bool) → ((l : PreviousToken) → (tokens_of (spaced l xs) ≡ tokens_of xs) × (remarks_in (spaced l xs) ≡ remarks_in xs))
    → (tokens_of (cond c (Gap (Blank 32 ∷ []) ∷ Gap ps ∷ spaced (last_after_gap Separated ps) xs) (Gap ps ∷ spaced (last_after_gap k ps) xs)) ≡ tokens_of xs)
    × (remarks_in (cond c (Gap (Blank 32 ∷ []) ∷ Gap ps ∷ spaced (last_after_gap Separated ps) xs) (Gap ps ∷ spaced (last_after_gap k ps) xs)) ≡ remarks_of ps ++ remarks_in xs)
unfolding tokens_of remarks_in remarks_of
gap_same k ps xs true h = ((h (last_after_gap Separated ps)).0, ap (λ z. remarks_of ps ++ z) (h (last_after_gap Separated ps)).1)
gap_same k ps xs false h = ((h (last_after_gap k ps)).0, ap (λ z. remarks_of ps ++ z) (h (last_after_gap k ps)).1)

pub spaced_same : (xs : List Part) (k : PreviousToken) → (tokens_of (spaced k xs) ≡ tokens_of xs) × (remarks_in (spaced k xs) ≡ remarks_in xs)
unfolding tokens_of remarks_in spaced
spaced_same [] k = (refl, refl)
spaced_same (Gap ps ∷ xs) k = gap_same k ps xs (fuses k (pieces_text ps)) (λ l. spaced_same xs l)
spaced_same (Joint ∷ xs) k = let r = spaced_same xs k in (ap (λ z. same_line ∷ z) r.0, r.1)
spaced_same (Break ∷ xs) k = spaced_same xs k
spaced_same (Own x t ∷ xs) k = own_same k x t xs (fuses k t) (λ l. spaced_same xs l)

-- a blank ends no line
own_walk : (k : PreviousToken) (x : Kind) (t : List ℕ) (xs : List Part) (c : Bool) (w : OfLine) → ((l : PreviousToken) (v : OfLine) → walk v (spaced l xs) ≡ walk v xs) → walk w (cond c (Gap (Blank 32 ∷ []) ∷ Own x t ∷ spaced (last_after Separated x t) xs) (Own x t ∷ spaced (last_after k x t) xs)) ≡ walk (over_own w) xs
unfolding walk over_gap is_one_line is_line_end pieces_text piece_text
own_walk k x t xs true w h = h (last_after Separated x t) (over_own w)
own_walk k x t xs false w h = h (last_after k x t) (over_own w)

gap_walk : (k : PreviousToken) (ps : List Piece) (xs : List Part) (c : Bool) (w : OfLine) → ((l : PreviousToken) (v : OfLine) → walk v (spaced l xs) ≡ walk v xs) → walk w (cond c (Gap (Blank 32 ∷ []) ∷ Gap ps ∷ spaced (last_after_gap Separated ps) xs) (Gap ps ∷ spaced (last_after_gap k ps) xs)) ≡ walk w (Gap ps ∷ xs)
unfolding walk over_gap is_one_line is_line_end pieces_text piece_text
gap_walk k ps xs true w h = h (last_after_gap Separated ps) _
gap_walk k ps xs false w h = h (last_after_gap k ps) _

spaced_walk : (xs : List Part) (k : PreviousToken) (w : OfLine) → walk w (spaced k xs) ≡ walk w xs
unfolding walk spaced
spaced_walk [] k w = refl
spaced_walk (Gap ps ∷ xs) k w = gap_walk k ps xs (fuses k (pieces_text ps)) w (λ l v. spaced_walk xs l v)
spaced_walk (Joint ∷ xs) k w = spaced_walk xs k (over_joint w)
spaced_walk (Break ∷ xs) k w = spaced_walk xs k (over_gap false w)
spaced_walk (Own x t ∷ xs) k w = own_walk k x t xs (fuses k t) w (λ l v. spaced_walk xs l v)

start_fits : Fits AtStart Start
unfolding is_between_tags wants allows
start_fits = record { tags = λ e. absurd (true≢false (sym e)); start = λ e. refl; follows = λ t h. refl }

-- what the second pass leaves reads as the tokens, with the comments between
pub reads_spaced : (xs : List Part) → AllSpelled AtStart xs → KeepsLines xs → Reads (text_of (spaced Start xs)) (tokens_of xs) (remarks_in xs)
reads_spaced xs h l =
    let s = spaced_same xs Start in
    subst (λ z. Reads (text_of (spaced Start xs)) (tokens_of xs) z) s.1
    (subst (λ z. Reads (text_of (spaced Start xs)) z (remarks_in (spaced Start xs))) s.0
    (reads (spaced Start xs) (spaced_fuses xs AtStart Start h start_fits) (ap is_broken (spaced_walk xs Start OnLine) ∙ l)))
