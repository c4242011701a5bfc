-- A text in which no two tokens become one reads as its tokens.
use Rattle.std.proofs.Common.{Bool, List, [], ap, append_assoc, codes, cond, false, inl, inr, not, refl, subst, sym, true, ℕ, ◌&&◌, ◌++◌, ◌==◌, ◌||◌, ◌∙◌, ◌∷◌, ◌≡◌}
use Rattle.std.proofs.lemmas.Bool.{and_from, and_left, and_parts, and_right, eqb-true, false_from_ne_true, or_cases, or_from, or_left, or_parts, or_right, true≢false}
use Rattle.swc_ecma_codegen_grammar.proofs.Conditions.{at_eq, same_line_unspelled}
use Rattle.swc_ecma_codegen_grammar.proofs.Heads.{AsClose, AsMark, AsRegex, AsText, HasHead, Head, Plain, has_head, head_of, is_plain, plain_ne, some_text}
use Rattle.swc_ecma_codegen_grammar.proofs.Longest.{longest}
use Rattle.swc_ecma_codegen_grammar.proofs.MarkMatch.{mark_ready}
use Rattle.swc_ecma_codegen_grammar.proofs.Marks.{grows_says}
use Rattle.swc_ecma_codegen_grammar.proofs.NameShapes.{starts_name}
use Rattle.swc_ecma_codegen_grammar.proofs.RegexShapes.{regex_head}
use Rattle.swc_ecma_codegen_grammar.proofs.Tables.{blank_ne}
use Rattle.swc_ecma_codegen_grammar.specs.Chars.{begins_digit, is_blank, is_digit, is_letter, is_part, is_quote, is_start, is_one_line, is_line_end}
use Rattle.swc_ecma_codegen_grammar.specs.GapRules.{Separated, IntegerEnd, PreviousToken, LessBang, LineEnd, Mark, MayBegin, Ready, Start, TagNameEnd, TextEnd, Whole, WordEnd, allows, ends_line, ends_text, fuses, grows, holds_child, is_choice, last_after, last_after_gap, mark_after, mark_fuses}
use Rattle.swc_ecma_codegen_grammar.specs.Numbers.{takes_dot}
use Rattle.swc_ecma_codegen_grammar.specs.Parts.{Gap, NoneFuse, Own, Part, remarks_in, text_of, tokens_of, Joint, Break, OfLine, OnLine, PastLine, AtJoint, Broken, walk, over_own, over_gap, over_joint, is_broken, KeepsLines}
use Rattle.swc_ecma_codegen_grammar.specs.Punctuators.{punctuators}
use Rattle.swc_ecma_codegen_grammar.specs.Reads.{Reads, ReadsOn, is_child, is_close_by, is_hashbang_kind, is_same_line}
use Rattle.swc_ecma_codegen_grammar.specs.RegularExpressions.{is_regex}
use Rattle.swc_ecma_codegen_grammar.specs.Texts.{begins, is_among, is_same, some_begins}
use Rattle.swc_ecma_codegen_grammar.specs.Tokens.{Token, has_shape, token_of, same_line}
use Rattle.swc_ecma_codegen_grammar.specs.Trivia.{Blank, Block, BlockOf, Line, LineOf, Piece, Remark, Trivia, all_pieces, is_piece, piece_text, pieces_text, remarks_of}
use Rattle.swc_ecma_codegen_grammar.specs.declared.kinds.Kind.{Kind}
use Rattle.swc_ecma_codegen_grammar.specs.declared.kinds.Kind.TheVariants.{BigInt, Close, Ending, Hashbang, JsxName, JsxOpen, JsxString, JsxText, Name, Number, PrivateName, Punctuator, Regex, Str, Template, TemplateRest, Word, SameLine}

-- trivia
pub no_trivia : Trivia [] []
unfolding all_pieces pieces_text remarks_of
no_trivia = record { pieces = []; each = refl; is_text = refl; are_remarks = refl }

pub each_append : (ps qs : List Piece) → all_pieces ps ≡ true → all_pieces qs ≡ true → all_pieces (ps ++ qs) ≡ true
unfolding all_pieces
each_append [] qs h k = k
each_append (p ∷ ps) qs h k = let r = and_parts (is_piece p) (all_pieces ps) h in and_from (is_piece p) (all_pieces (ps ++ qs)) r.0 (each_append ps qs r.1 k)

pub text_append : (ps qs : List Piece) → pieces_text (ps ++ qs) ≡ pieces_text ps ++ pieces_text qs
unfolding pieces_text
text_append [] qs = refl
text_append (p ∷ ps) qs = ap (λ z. piece_text p ++ z) (text_append ps qs) ∙ sym (append_assoc (piece_text p) (pieces_text ps) (pieces_text qs))

pub remarks_append : (ps qs : List Piece) → remarks_of (ps ++ qs) ≡ remarks_of ps ++ remarks_of qs
unfolding remarks_of
remarks_append [] qs = refl
remarks_append (Blank c ∷ ps) qs = remarks_append ps qs
remarks_append (BlockOf t ∷ ps) qs = ap (λ z. Block t ∷ z) (remarks_append ps qs)
remarks_append (LineOf t c ∷ ps) qs = ap (λ z. Line t ∷ z) (remarks_append ps qs)

pub more_trivia : (ps : List Piece) (text : List ℕ) (cs : List Remark) → all_pieces ps ≡ true → Trivia text cs → Trivia (pieces_text ps ++ text) (remarks_of ps ++ cs)
more_trivia ps text cs h t = record {
  pieces = ps ++ t.pieces;
  each = each_append ps t.pieces h t.each;
  is_text = ap (λ z. pieces_text ps ++ z) t.is_text ∙ sym (text_append ps t.pieces);
  are_remarks = ap (λ z. remarks_of ps ++ z) t.are_remarks ∙ sym (remarks_append ps t.pieces);
}

pub one_line_append : (a b : List ℕ) → is_one_line a ≡ true → is_one_line b ≡ true → is_one_line (a ++ b) ≡ true
unfolding is_one_line
one_line_append [] b h k = k
one_line_append (c ∷ cs) b h k = let p = and_parts (not (is_line_end c)) (is_one_line cs) h in and_from (not (is_line_end c)) (is_one_line (cs ++ b)) p.0 (one_line_append cs b p.1 k)

-- neither a child of JSX nor a hashbang comes first
unfoldable pub NoneCloseBy : List Token → Type 0
NoneCloseBy [] = Unit {0}
NoneCloseBy (x ∷ xs) = (is_close_by x.kind ≡ true → ⊥) × (x ≡ same_line → NoneCloseBy xs)

hashbang_close_by : (x : Kind) → is_hashbang_kind x ≡ true → is_close_by x ≡ true
unfolding is_close_by
hashbang_close_by x h = or_right (is_child x) (is_hashbang_kind x) h

-- `[no LineTerminator here]` comes first
unfoldable leads_same : List Token → Bool
leads_same [] = false
leads_same (x ∷ xs) = is_same_line x.kind

same_leads : (x : Token) (xs : List Token) → x ≡ same_line → leads_same (x ∷ xs) ≡ true
unfolding leads_same is_same_line same_line
same_leads x xs e = ap (λ z. is_same_line z.kind) e

reads_gap : (first joined f : Bool) (ps : List Piece) (text : List ℕ) (xs : List Token) (cs : List Remark) → all_pieces ps ≡ true → NoneCloseBy xs → ((joined || leads_same xs) ≡ true → is_one_line (pieces_text ps) ≡ true) → ReadsOn f joined text xs cs
    → ReadsOn first joined (pieces_text ps ++ text) xs (remarks_of ps ++ cs)
unfolding ReadsOn NoneCloseBy
reads_gap first joined f ps text [] cs h n o r = more_trivia ps text cs h r
reads_gap first joined f ps text (x ∷ xs) cs h n o (inl r) = inl (r.0, reads_gap first true f ps text xs cs h (n.1 r.0) (λ e. o (or_right joined _ (same_leads x xs r.0))) r.1)
reads_gap first joined f ps text (x ∷ xs) cs h n o (inr r) = inr (
  pieces_text ps ++ r.0,
  r.1,
  r.2,
  remarks_of ps ++ r.3,
  r.4,
  ap (λ z. pieces_text ps ++ z) r.5 ∙ sym (append_assoc (pieces_text ps) r.0 (r.1 ++ r.2)),
  more_trivia ps r.0 r.3 h r.6,
  (λ e. absurd (n.0 e)),
  (λ e. absurd (n.0 (hashbang_close_by x.kind e))),
  (λ e. one_line_append (pieces_text ps) r.0 (o (or_left joined _ e)) (r.9 e)),
  r.10,
  r.11,
  ap (λ z. remarks_of ps ++ z) r.12 ∙ sym (append_assoc (remarks_of ps) r.3 r.4),
)

apart_stays : (ps : List Piece) → last_after_gap Separated ps ≡ Separated
unfolding last_after_gap
apart_stays [] = refl
apart_stays (p ∷ ps) = refl

apart_is_no_start : Separated ≡ Start → ⊥
apart_is_no_start e = cc

none_apart : (x : Kind) → MayBegin Separated x → is_close_by x ≡ true → ⊥
unfolding is_close_by holds_child
none_apart x b e =
    elim (or_cases (is_child x) (is_hashbang_kind x) e) [
      | inl c ↦ true≢false (sym (b.child c))
      | inr h ↦ apart_is_no_start (b.first h)
    ]

joint_apart : is_close_by same_line.kind ≡ true → ⊥
unfolding is_close_by is_child is_hashbang_kind same_line
joint_apart e = true≢false (sym e)

kind_same : (x : Token) → x ≡ same_line → x.kind ≡ SameLine
unfolding same_line
kind_same x e = ap (λ (z : Token). z.kind) e

none_close_by : (xs : List Part) → NoneFuse Separated xs → NoneCloseBy (tokens_of xs)
unfolding NoneCloseBy tokens_of NoneFuse token_of
none_close_by [] h = tt
none_close_by (Joint ∷ xs) h = (joint_apart, λ e. none_close_by xs h)
none_close_by (Break ∷ xs) h = none_close_by xs h.1
none_close_by (Gap ps ∷ xs) h = none_close_by xs (subst (λ k. NoneFuse k xs) (apart_stays ps) h.3)
none_close_by (Own x t ∷ xs) h = (none_apart x h.2, λ e. absurd (same_line_unspelled t (subst (λ (z : Kind). has_shape z t ≡ true) (kind_same (token_of x t) e) h.0)))

no_growth : (t : List ℕ) (c : ℕ) → is_blank c ≡ true → grows t c ≡ false
unfolding grows
no_growth t c h = false_from_ne_true _ (λ g. true≢false (sym h ∙ (grows_says t c g).blank))

blank_mark : (t : List ℕ) (c : ℕ) (n : List ℕ) → is_blank c ≡ true → mark_fuses t c n ≡ false
unfolding mark_fuses is_digit
blank_mark t c n h =
    or_from _ _ (and_left _ _ (no_growth t c h))
    (or_from _ _ (and_right _ _ (blank_ne is_digit c h refl refl refl refl))
    (or_from _ _ (and_right _ _ (blank_ne (λ c. c == 62) c h refl refl refl refl))
    (and_right _ _ (blank_ne (λ c. (c == 47) || (c == 42)) c h refl refl refl refl))))

pub blank_fuses : (k : PreviousToken) (c : ℕ) (n : List ℕ) → is_blank c ≡ true → fuses k (c ∷ n) ≡ false
unfolding fuses begins is_part is_letter is_digit
blank_fuses Start c n h = refl
blank_fuses Separated c n h = refl
blank_fuses WordEnd c n h = blank_ne (λ c. is_part c || (c == 92)) c h refl refl refl refl
blank_fuses IntegerEnd c n h = blank_ne (λ c. (is_part c || (c == 92)) || (c == 46)) c h refl refl refl refl
blank_fuses (Mark t) c n h = blank_mark t c n h
blank_fuses LessBang c n h = or_from _ _ (blank_mark (codes "!") c n h) (blank_ne (λ c. begins (codes "--") (c ∷ n)) c h refl refl refl refl)
blank_fuses Whole c n h = refl
blank_fuses TextEnd c n h = refl
blank_fuses TagNameEnd c n h = blank_ne (λ c. is_part c || (c == 92)) c h refl refl refl refl
blank_fuses LineEnd c n h = refl

-- what more there is of the next token doesn't matter, but for `--` after `<!`
more_digit : (n rest : List ℕ) → begins_digit n ≡ true → begins_digit (n ++ rest) ≡ true
unfolding begins_digit
more_digit [] rest h = absurd (true≢false (sym h))
more_digit (c ∷ n) rest h = h

weaker : (g x y z : Bool) → ((g && not x) || z) ≡ false → (x ≡ true → y ≡ true) → ((g && not y) || z) ≡ false
weaker false x y z h k = h
weaker true true y z h k = rw (k refl) h
weaker true false y z h k = absurd (true≢false h)

more_choice : (t : List ℕ) (c : ℕ) (n rest : List ℕ) → is_choice t c n ≡ true → is_choice t c (n ++ rest) ≡ true
unfolding is_choice
more_choice t c n rest e =
    let a = and_parts (is_same t (codes "?")) _ e in
    let b = and_parts (c == 46) _ a.1 in
    and_from (is_same t (codes "?")) _ a.0 (and_from (c == 46) _ b.0 (more_digit n rest b.1))

more_mark : (t : List ℕ) (c : ℕ) (n rest : List ℕ) → mark_fuses t c n ≡ false → mark_fuses t c (n ++ rest) ≡ false
unfolding mark_fuses
more_mark t c n rest h = weaker (grows t c) (is_choice t c n) (is_choice t c (n ++ rest)) _ h (more_choice t c n rest)

dashes_mark : (t rest : List ℕ) → is_among t punctuators ≡ true → begins (codes "--") t ≡ false → fuses (Mark t) rest ≡ false → begins (codes "--") (t ++ rest) ≡ true → ⊥
unfolding begins fuses mark_fuses grows some_begins punctuators is_same is_choice is_among
dashes_mark [] rest p d f h = true≢false (sym p)
dashes_mark (a ∷ []) [] p d f h = true≢false (sym (and_parts (45 == a) _ h).1)
dashes_mark (a ∷ []) (b ∷ n) p d f h =
    let x = and_parts (45 == a) _ h in
    let y = and_parts (45 == b) _ x.1 in
    true≢false (at_eq (λ b. fuses (Mark (codes "-")) (b ∷ n) ≡ false) 45 b y.0 (at_eq (λ a. fuses (Mark (a ∷ [])) (b ∷ n) ≡ false) 45 a x.0 f))
dashes_mark (a ∷ b ∷ t) rest p d f h = true≢false (sym h ∙ d)

bang_mark : (t rest : List ℕ) → is_among t punctuators ≡ true → (t ≡ codes "!" → begins (codes "--") rest ≡ false) → begins (codes "!--") (t ++ rest) ≡ true → ⊥
unfolding begins punctuators is_same is_among
bang_mark [] rest p f h = true≢false (sym p)
bang_mark (a ∷ []) rest p f h =
    let x = and_parts (33 == a) _ h in
    true≢false (sym x.1 ∙ f (ap (λ z. z ∷ []) (sym (eqb-true 33 a x.0))))
bang_mark (a ∷ b ∷ t) rest p f h =
    let x = and_parts (33 == a) _ h in
    let y = and_parts (45 == b) _ x.1 in
    true≢false (sym (at_eq (λ b. is_among (33 ∷ b ∷ t) punctuators ≡ true) 45 b y.0 (at_eq (λ a. is_among (a ∷ b ∷ t) punctuators ≡ true) 33 a x.0 p)))

-- the first character of what is neither a punctuator nor text between tags
dashes_ne : (c d : ℕ) (cs n : List ℕ) → (c == d) ≡ false → begins (c ∷ cs) (d ∷ n) ≡ false
unfolding begins
dashes_ne c d cs n h = and_left (c == d) _ h

plain_apart : (c : ℕ) (cs t rest : List ℕ) → is_plain c ≡ false → HasHead t → begins (c ∷ cs) (t ++ rest) ≡ false
plain_apart c cs t rest f (has_head d n e h) = subst (λ z. begins (c ∷ cs) (z ++ rest) ≡ false) (sym e) (dashes_ne c d cs (n ++ rest) (plain_ne c d f h))

regex_apart : (c : ℕ) (cs t rest : List ℕ) → (c == 47) ≡ false → is_regex t ≡ true → begins (c ∷ cs) (t ++ rest) ≡ false
regex_apart c cs t rest f h = let r = regex_head t h in subst (λ z. begins (c ∷ cs) (z ++ rest) ≡ false) (sym r.2) (dashes_ne c 47 cs (r.0 ∷ (r.1 ++ rest)) f)

close_apart : (c : ℕ) (cs t rest : List ℕ) → (c == 62) ≡ false → t ≡ codes ">" → begins (c ∷ cs) (t ++ rest) ≡ false
close_apart c cs t rest f e = subst (λ z. begins (c ∷ cs) (z ++ rest) ≡ false) (sym e) (dashes_ne c 62 cs rest f)

-- what is said of a token is said of what it begins
token_apart : (c : ℕ) (cs : List ℕ) (x : Kind) (t rest : List ℕ) → is_plain c ≡ false → (c == 47) ≡ false → (c == 62) ≡ false → Head x t → (x ≡ JsxText → ⊥) → (is_among t punctuators ≡ true → ((k : PreviousToken) → last_after k x t ≡ mark_after k t) → begins (c ∷ cs) (t ++ rest) ≡ false) → begins (c ∷ cs) (t ++ rest) ≡ false
token_apart c cs x t rest f a b (Plain h) n m = plain_apart c cs t rest f h
token_apart c cs x t rest f a b (AsMark h e) n m = m h e
token_apart c cs x t rest f a b (AsRegex h) n m = regex_apart c cs t rest a h
token_apart c cs x t rest f a b (AsText h) n m = absurd (n h)
token_apart c cs x t rest f a b (AsClose h) n m = close_apart c cs t rest b h

plain_45 : is_plain 45 ≡ false
unfolding is_plain starts_name is_start is_letter is_digit is_quote
plain_45 = refl

plain_33 : is_plain 33 ≡ false
unfolding is_plain starts_name is_start is_letter is_digit is_quote
plain_33 = refl

-- text between tags begins nowhere else
no_text : (k : PreviousToken) (x : Kind) → holds_child k ≡ false → MayBegin k x → x ≡ JsxText → ⊥
unfolding is_child
no_text k x h b e = true≢false (sym (b.child (ap is_child e)) ∙ h)

bang_holds_none : holds_child LessBang ≡ false
unfolding holds_child
bang_holds_none = refl

less_holds_none : holds_child (Mark (codes "<")) ≡ false
unfolding holds_child is_same
less_holds_none = refl

dashes : (x : Kind) (t rest : List ℕ) → has_shape x t ≡ true → MayBegin LessBang x → begins (codes "--") t ≡ false → Ready (last_after LessBang x t) rest → begins (codes "--") (t ++ rest) ≡ false
dashes x t rest h b d r =
    token_apart 45 (codes "-") x t rest plain_45 refl refl (head_of x t h) (no_text LessBang x bang_holds_none b)
    (λ p e. false_from_ne_true _ (dashes_mark t rest p d (mark_ready LessBang t rest (subst (λ k. Ready k rest) (e LessBang) r)).apart))

less_bang : (rest t : List ℕ) → Ready (mark_after (Mark (codes "<")) t) rest → t ≡ codes "!" → begins (codes "--") rest ≡ false
unfolding mark_after is_same fuses begins
less_bang [] t r e = refl
less_bang (c ∷ n) t r e = (or_parts (mark_fuses (codes "!") c n) _ (subst (λ z. Ready (mark_after (Mark (codes "<")) z) (c ∷ n)) e r).apart).1

bangs : (x : Kind) (t rest : List ℕ) → has_shape x t ≡ true → MayBegin (Mark (codes "<")) x → Ready (last_after (Mark (codes "<")) x t) rest → begins (codes "!--") (t ++ rest) ≡ false
bangs x t rest h b r =
    token_apart 33 (codes "--") x t rest plain_33 refl refl (head_of x t h) (no_text (Mark (codes "<")) x less_holds_none b)
    (λ p e. false_from_ne_true _ (bang_mark t rest p (less_bang rest t (subst (λ k. Ready k rest) (e (Mark (codes "<"))) r))))

-- nothing more becomes one where the beginning doesn't
more_fuses : (k : PreviousToken) (c : ℕ) (n rest : List ℕ) → fuses k (c ∷ n) ≡ false → (k ≡ LessBang → begins (codes "--") (c ∷ (n ++ rest)) ≡ false) → fuses k (c ∷ (n ++ rest)) ≡ false
unfolding fuses
more_fuses Start c n rest f h = refl
more_fuses Separated c n rest f h = refl
more_fuses WordEnd c n rest f h = f
more_fuses IntegerEnd c n rest f h = f
more_fuses (Mark m) c n rest f h = more_mark m c n rest f
more_fuses LessBang c n rest f h = or_from _ _ (more_mark (codes "!") c n rest (or_parts (mark_fuses (codes "!") c n) _ f).0) (h refl)
more_fuses Whole c n rest f h = refl
more_fuses TextEnd c n rest f h = refl
more_fuses TagNameEnd c n rest f h = f
more_fuses LineEnd c n rest f h = refl

not_dashes : (c : ℕ) (n : List ℕ) → fuses LessBang (c ∷ n) ≡ false → begins (codes "--") (c ∷ n) ≡ false
unfolding fuses
not_dashes c n f = (or_parts (mark_fuses (codes "!") c n) _ f).1

allows_more : (k : PreviousToken) (c : ℕ) (n rest : List ℕ) → allows k (c ∷ n) ≡ true → allows k (c ∷ (n ++ rest)) ≡ true
unfolding allows ends_text ends_line begins
allows_more Start c n rest h = refl
allows_more Separated c n rest h = refl
allows_more WordEnd c n rest h = refl
allows_more IntegerEnd c n rest h = refl
allows_more (Mark m) c n rest h = refl
allows_more LessBang c n rest h = refl
allows_more Whole c n rest h = refl
allows_more TextEnd c n rest h = h
allows_more TagNameEnd c n rest h = h
allows_more LineEnd c n rest h = h

own_ready : (k : PreviousToken) (x : Kind) (t rest : List ℕ) → has_shape x t ≡ true → fuses k t ≡ false → MayBegin k x → allows k t ≡ true → Ready (last_after k x t) rest → Ready k (t ++ rest)
own_ready k x [] rest s f b g r = absurd (some_text x s)
own_ready k x (c ∷ n) rest s f b g r = record {
  apart = more_fuses k c n rest f (λ e. dashes x (c ∷ n) rest s (subst (λ z. MayBegin z x) e b) (not_dashes c n (subst (λ z. fuses z (c ∷ n) ≡ false) e f)) (subst (λ z. Ready (last_after z x (c ∷ n)) rest) e r));
  no_html = λ e. bangs x (c ∷ n) rest s (subst (λ z. MayBegin z x) e b) (subst (λ z. Ready (last_after z x (c ∷ n)) rest) e r);
  allowed = allows_more k c n rest g;
}

-- blanks and comments begin neither `--` nor `!--`
data GapHead (t : List ℕ) : Type 0 where
  gap_head : (c : ℕ) (n : List ℕ) → t ≡ c ∷ n → (45 == c) ≡ false → (33 == c) ≡ false → GapHead t

gap_begins : (p : Piece) (ps : List Piece) → is_piece p ≡ true → GapHead (pieces_text (p ∷ ps))
unfolding is_piece pieces_text piece_text
gap_begins (Blank c) ps h = gap_head c (pieces_text ps) refl (blank_ne (λ c. 45 == c) c h refl refl refl refl) (blank_ne (λ c. 33 == c) c h refl refl refl refl)
gap_begins (BlockOf t) ps h = gap_head 47 (42 ∷ ((t ++ codes "*/") ++ pieces_text ps)) refl refl refl
gap_begins (LineOf t c) ps h = gap_head 47 (47 ∷ ((t ++ c ∷ []) ++ pieces_text ps)) refl refl refl

gap_ready_at : (k : PreviousToken) (t rest : List ℕ) → GapHead t → fuses k t ≡ false → allows k t ≡ true → Ready k (t ++ rest)
gap_ready_at k t rest (gap_head c n e a b) f g =
    subst (λ z. Ready k (z ++ rest)) (sym e) (record {
      apart = more_fuses k c n rest (subst (λ z. fuses k z ≡ false) e f) (λ x. dashes_ne 45 c (codes "-") (n ++ rest) a);
      no_html = λ x. dashes_ne 33 c (codes "--") (n ++ rest) b;
      allowed = allows_more k c n rest (subst (λ z. allows k z ≡ true) e g);
    })

nothing_begins : (c : ℕ) (cs : List ℕ) → begins (c ∷ cs) [] ≡ false
unfolding begins
nothing_begins c cs = refl

nothing_fuses : (k : PreviousToken) → fuses k [] ≡ false
unfolding fuses
nothing_fuses k = refl

no_gap : (k : PreviousToken) (xs : List Part) → NoneFuse (last_after_gap k []) xs → NoneFuse k xs
unfolding last_after_gap
no_gap k xs h = h

after_gap : (k : PreviousToken) (p : Piece) (ps : List Piece) (xs : List Part) → NoneFuse (last_after_gap k (p ∷ ps)) xs → NoneFuse Separated xs
unfolding last_after_gap
after_gap k p ps xs h = h

no_line : (w : OfLine) (xs : List Part) → is_broken (walk w (Gap [] ∷ xs)) ≡ false → is_broken (walk w xs) ≡ false
unfolding walk over_gap is_one_line pieces_text
no_line w xs h = h

ready_past : (k : PreviousToken) (t : List ℕ) → Ready k t → Ready k (pieces_text [] ++ t)
unfolding pieces_text
ready_past k t h = h

reads_past : (f j : Bool) (t : List ℕ) (xs : List Token) (cs : List Remark) → ReadsOn f j t xs cs → ReadsOn f j (pieces_text [] ++ t) xs (remarks_of [] ++ cs)
unfolding pieces_text remarks_of
reads_past f j t xs cs h = h

piece_first : (p : Piece) (ps : List Piece) → all_pieces (p ∷ ps) ≡ true → is_piece p ≡ true
unfolding all_pieces
piece_first p ps h = (and_parts (is_piece p) (all_pieces ps) h).0

-- the text of parts doesn't become one with what comes before
pub ready : (k : PreviousToken) (xs : List Part) → NoneFuse k xs → Ready k (text_of xs)
unfolding NoneFuse text_of
ready k [] h = record { apart = nothing_fuses k; no_html = λ e. nothing_begins 33 (codes "--"); allowed = h }
ready k (Gap [] ∷ xs) h = ready_past k (text_of xs) (ready k xs (no_gap k xs h.3))
ready k (Gap (p ∷ ps) ∷ xs) h = gap_ready_at k (pieces_text (p ∷ ps)) (text_of xs) (gap_begins p ps (piece_first p ps h.0)) h.1 h.2
ready k (Joint ∷ xs) h = ready k xs h
ready k (Break ∷ xs) h = ready k xs h.1
ready k (Own x t ∷ xs) h = own_ready k x t (text_of xs) h.0 h.1 h.2 h.3 (ready (last_after k x t) xs h.4)

-- nothing was written yet
unfoldable pub is_start_of : PreviousToken → Bool
is_start_of Start = true
is_start_of k = false

mark_no_start : (k : PreviousToken) (t : List ℕ) → is_start_of (mark_after k t) ≡ false
unfolding mark_after is_start_of
mark_no_start Start t = refl
mark_no_start Separated t = refl
mark_no_start WordEnd t = refl
mark_no_start IntegerEnd t = refl
mark_no_start LessBang t = refl
mark_no_start Whole t = refl
mark_no_start TextEnd t = refl
mark_no_start TagNameEnd t = refl
mark_no_start LineEnd t = refl
mark_no_start (Mark m) t = one (is_same m (codes "<") && is_same t (codes "!"))
  where
    one : (b : Bool) → is_start_of (cond b LessBang (Mark t)) ≡ false
    one true = refl
    one false = refl

number_no_start : (b : Bool) → is_start_of (cond b IntegerEnd WordEnd) ≡ false
unfolding is_start_of
number_no_start true = refl
number_no_start false = refl

no_start : (k : PreviousToken) (x : Kind) (t : List ℕ) → is_start_of (last_after k x t) ≡ false
unfolding last_after is_start_of
no_start k Punctuator t = mark_no_start k t
no_start k Ending t = mark_no_start k t
no_start k JsxOpen t = mark_no_start k t
no_start k Number t = number_no_start (takes_dot t)
no_start k BigInt t = number_no_start (takes_dot t)
no_start k Word t = refl
no_start k Name t = refl
no_start k PrivateName t = refl
no_start k Str t = refl
no_start k Regex t = refl
no_start k (Template o) t = refl
no_start k (TemplateRest o) t = refl
no_start k Close t = refl
no_start k JsxName t = refl
no_start k JsxString t = refl
no_start k JsxText t = refl
no_start k Hashbang t = refl
no_start k SameLine t = refl

first_start : (k : PreviousToken) → k ≡ Start → is_start_of k ≡ true
unfolding is_start_of
first_start k e = subst (λ z. is_start_of z ≡ true) (sym e) refl

-- `[no LineTerminator here]` stands right before
unfoldable pub is_joint : OfLine → Bool
is_joint AtJoint = true
is_joint w = false

gap_broken : (o : Bool) → over_gap o Broken ≡ Broken
unfolding over_gap
gap_broken true = refl
gap_broken false = refl

pub broken_stays : (xs : List Part) → is_broken (walk Broken xs) ≡ true
unfolding walk is_broken over_own over_joint
broken_stays [] = refl
broken_stays (Gap ps ∷ xs) = subst (λ w. is_broken (walk w xs) ≡ true) (sym (gap_broken (is_one_line (pieces_text ps)))) (broken_stays xs)
broken_stays (Own x t ∷ xs) = broken_stays xs
broken_stays (Joint ∷ xs) = broken_stays xs
broken_stays (Break ∷ xs) = subst (λ w. is_broken (walk w xs) ≡ true) (sym (gap_broken false)) (broken_stays xs)

gap_joint : (o : Bool) (w : OfLine) (xs : List Part) → is_broken (walk (over_gap o w) xs) ≡ false → is_joint (over_gap o w) ≡ is_joint w
unfolding is_joint over_gap
gap_joint true w xs h = refl
gap_joint false OnLine xs h = refl
gap_joint false PastLine xs h = refl
gap_joint false AtJoint xs h = absurd (true≢false (sym (broken_stays xs) ∙ h))
gap_joint false Broken xs h = refl

own_joint : (w : OfLine) → is_joint (over_own w) ≡ false
unfolding is_joint over_own
own_joint OnLine = refl
own_joint PastLine = refl
own_joint AtJoint = refl
own_joint Broken = refl

joint_joint : (w : OfLine) (xs : List Part) → is_broken (walk (over_joint w) xs) ≡ false → is_joint (over_joint w) ≡ true
unfolding is_joint over_joint
joint_joint OnLine xs h = refl
joint_joint AtJoint xs h = refl
joint_joint PastLine xs h = absurd (true≢false (sym (broken_stays xs) ∙ h))
joint_joint Broken xs h = absurd (true≢false (sym (broken_stays xs) ∙ h))

past_gap : (o : Bool) → over_gap o PastLine ≡ PastLine
unfolding over_gap
past_gap true = refl
past_gap false = refl

own_leads : (x : Kind) (t : List ℕ) → is_same_line x ≡ true → has_shape x t ≡ true → ⊥
unfolding is_same_line
own_leads SameLine t l s = same_line_unspelled t s
own_leads x t l s = true≢false (sym l)

-- past the end of a line nothing is joined
past_leads : (k : PreviousToken) (xs : List Part) → NoneFuse k xs → leads_same (tokens_of xs) ≡ true → is_broken (walk PastLine xs) ≡ true
unfolding NoneFuse leads_same tokens_of walk over_joint token_of
past_leads k [] h l = absurd (true≢false (sym l))
past_leads k (Gap ps ∷ xs) h l = subst (λ w. is_broken (walk w xs) ≡ true) (sym (past_gap (is_one_line (pieces_text ps)))) (past_leads (last_after_gap k ps) xs h.3 l)
past_leads k (Own x t ∷ xs) h l = absurd (own_leads x t l h.0)
past_leads k (Joint ∷ xs) h l = broken_stays xs
past_leads k (Break ∷ xs) h l = subst (λ w. is_broken (walk w xs) ≡ true) (sym (past_gap false)) (past_leads k xs h.1 l)

-- so a gap before what is joined holds no line terminator
one_line_due : (o : Bool) (w : OfLine) (k : PreviousToken) (xs : List Part) → NoneFuse k xs → is_broken (walk (over_gap o w) xs) ≡ false → (is_joint w || leads_same (tokens_of xs)) ≡ true → o ≡ true
unfolding is_joint over_gap
one_line_due true w k xs n h l = refl
one_line_due false OnLine k xs n h l = absurd (true≢false (sym (past_leads k xs n l) ∙ h))
one_line_due false PastLine k xs n h l = absurd (true≢false (sym (past_leads k xs n l) ∙ h))
one_line_due false AtJoint k xs n h l = absurd (true≢false (sym (broken_stays xs) ∙ h))
one_line_due false Broken k xs n h l = absurd (true≢false (sym (broken_stays xs) ∙ h))

-- a text in which no two tokens become one, and no line ends where none may, reads as its tokens
pub reads_on : (k : PreviousToken) (w : OfLine) (xs : List Part) → NoneFuse k xs → is_broken (walk w xs) ≡ false → ReadsOn (is_start_of k) (is_joint w) (text_of xs) (tokens_of xs) (remarks_in xs)
unfolding ReadsOn NoneFuse text_of tokens_of remarks_in token_of walk over_gap is_one_line
reads_on k w [] h b = no_trivia
reads_on k w (Gap [] ∷ xs) h b = reads_past (is_start_of k) (is_joint w) (text_of xs) (tokens_of xs) (remarks_in xs) (reads_on k w xs (no_gap k xs h.3) (no_line w xs b))
reads_on k w (Gap (p ∷ ps) ∷ xs) h b =
    let n = after_gap k p ps xs h.3 in
    let o : Bool = is_one_line (pieces_text (p ∷ ps)) in
    reads_gap (is_start_of k) (is_joint w) (is_start_of Separated) (p ∷ ps) (text_of xs) (tokens_of xs) (remarks_in xs) h.0 (none_close_by xs n) (one_line_due o w Separated xs n b)
    (subst (λ j. ReadsOn (is_start_of Separated) j (text_of xs) (tokens_of xs) (remarks_in xs)) (gap_joint o w xs b) (reads_on Separated (over_gap o w) xs n b))
reads_on k w (Joint ∷ xs) h b = inl (refl, subst (λ j. ReadsOn (is_start_of k) j (text_of xs) (tokens_of xs) (remarks_in xs)) (joint_joint w xs b) (reads_on k (over_joint w) xs h b))
reads_on k w (Break ∷ xs) h b = subst (λ j. ReadsOn (is_start_of k) j (text_of xs) (tokens_of xs) (remarks_in xs)) (gap_joint false w xs b) (reads_on k (over_gap false w) xs h.1 b)
reads_on k w (Own x t ∷ xs) h b =
    let next = last_after k x t in inr (
      [],
      t,
      text_of xs,
      [],
      remarks_in xs,
      refl,
      no_trivia,
      (λ e. refl),
      (λ e. first_start k (h.2.first e)),
      (λ e. refl),
      longest k x t (text_of xs) h.0 (ready next xs h.4),
      subst (λ f. ReadsOn f false (text_of xs) (tokens_of xs) (remarks_in xs)) (no_start k x t) (subst (λ j. ReadsOn (is_start_of next) j (text_of xs) (tokens_of xs) (remarks_in xs)) (own_joint w) (reads_on next (over_own w) xs h.4 b)),
      refl,
    )

pub reads : (xs : List Part) → NoneFuse Start xs → KeepsLines xs → Reads (text_of xs) (tokens_of xs) (remarks_in xs)
unfolding Reads is_start_of is_joint
reads xs h b = reads_on Start OnLine xs h b
