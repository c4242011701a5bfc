-- Tokens of JSX: what stands before each, and what may come next.
use Rattle.std.proofs.Common.{◌≡◌, ℕ, Bool, true, false, not, cond, ◌&&◌, ◌==◌, List, [], ◌∷◌, ◌++◌, Option, None, codes, refl, sym, ap, ◌∙◌, subst, append-nil, inl, inr}
use Rattle.std.specs.List.{repeat}
use Rattle.std.specs.Str.{chars, IsUtf8}
use Rattle.std.proofs.lemmas.Bool.{and_parts, cases_Bool, eqb-true, true≢false}
use Rattle.std.proofs.lemmas.Str.{chars-append, IsUtf8-append}
use Rattle.swc_ecma_codegen_common.specs.declared.positions.BytePos.{BytePos}
use Rattle.swc_ecma_codegen_common.specs.declared.positions.Span.{Span}
use Rattle.swc_ecma_codegen_grammar.specs.declared.kinds.Kind.{Kind}
use Rattle.swc_ecma_codegen_grammar.specs.declared.kinds.Kind.TheVariants.{Punctuator, Close, JsxName, JsxText, JsxOpen}
use Rattle.swc_ecma_codegen_grammar.specs.Chars.{is_start, is_letter}
use Rattle.swc_ecma_codegen_grammar.specs.Jsx.{is_jsx_name, all_tag}
use Rattle.swc_ecma_codegen_grammar.specs.Tokens.{has_shape, token_of}
use Rattle.swc_ecma_codegen_grammar.specs.Texts.{begins, is_same, some_begins}
use Rattle.swc_ecma_codegen_grammar.specs.Punctuators.{punctuators}
use Rattle.swc_ecma_codegen_grammar.specs.Trivia.{piece_text, pieces_text, all_pieces, remarks_of}
use Rattle.swc_ecma_codegen_grammar.specs.Reads.{is_child, is_hashbang_kind}
use Rattle.swc_ecma_codegen_grammar.specs.GapRules.{PreviousToken, Start, Separated, Mark, LessBang, Whole, TextEnd, fuses, mark_fuses, grows, allows, ends_text, mark_after, last_after, last_after_gap, holds_child}
use Rattle.swc_ecma_codegen_grammar.specs.Parts as parts
use Rattle.swc_ecma_codegen_grammar.specs.Parts.{Gap, Own, tokens_of, remarks_in, NoneFuse}
use Rattle.swc_ecma_codegen_grammar.proofs.Tables.{eq_of_same}
use Rattle.swc_ecma_codegen_grammar.proofs.Reading.{blank_fuses}
use Rattle.swc_ecma_codegen_text_writer.proofs.Stays.{settled_stays}
use Rattle.swc_ecma_codegen_text_writer.specs.Sheet.{Sheet, Space, StrLit, Punct, holds_semicolons, written, literal_written, pointed, settled, dropped, before_punct, is_ending, effect, fills_lines}
use Rattle.swc_ecma_codegen_tokens.specs.Run.{State, Guard, Token, put, spelling, text_of, after_token}
use Rattle.swc_ecma_codegen_tokens.specs.Written.{IsLineEnd, is_indent, all_indent, is_free, holds_one, AtRest, RestsAt, Takes, TakesChild, Spot, Anything, Between, InText, InName}
use Rattle.swc_ecma_codegen_tokens.proofs.Emission.PendingSemi.{front, front_of, written_semicolons, in_line, settled_none, unheld_settled, dropped_none}
use Rattle.swc_ecma_codegen_tokens.proofs.Gaps.AfterBlanks.{apart_alone, after_indent, nothing_fuses}
use Rattle.swc_ecma_codegen_tokens.proofs.Gaps.Indented.{indent_append, indent_repeat, indent_blank, indent_utf8, indent_chars, blanks, blanks_text, blanks_pieces, blanks_remarks}
use Rattle.swc_ecma_codegen_tokens.proofs.Filling.Shapes.{whole, open_, fits_own, fits_indent, fits_text}
use Rattle.swc_ecma_codegen_tokens.proofs.Reading.Texts.{Adds, adds_written, adds_literal}
use Rattle.swc_ecma_codegen_tokens.proofs.Gaps.Spots.{dashless, taking, lays_ends, lays_narrower}
use Rattle.swc_ecma_codegen_text_writer.proofs.Cuts.{grows_as}
use Rattle.swc_ecma_codegen_tokens.proofs.Filling.Cuts.{cuts_whole}
use Rattle.swc_ecma_codegen_tokens.proofs.Reading.Laid.{LaysTo, lays_then, lays_nothing, laid_out}
use Rattle.swc_ecma_codegen_tokens.proofs.Gaps.Written.{lays_settled, settle, settle_named, lays_named_position, front_indent, still_none, still_holds, at_text}
use Rattle.swc_ecma_codegen_tokens.proofs.Reading.TokenLays.{Spelled, spelled_close, mark_allows, lays_punct, after_guard, free_last, own_none, own_put, punct_put}

-- a text is a token of a kind, whatever may come next
pub record IsToken (kind : Kind) (t : List ℕ) : Type 0 where
  pub utf8 : IsUtf8 t
  pub same : chars t ≡ spelling kind t
  pub shape : has_shape kind (spelling kind t) ≡ true
  pub no_hashbang : is_hashbang_kind kind ≡ true → ⊥
  pub some : t ≡ [] → ⊥

pub from_spelled : {kind : Kind} {t : List ℕ} → Spelled kind t → IsToken kind t
from_spelled h = record { utf8 = h.utf8; same = h.same; shape = h.shape; no_hashbang = h.no_hashbang; some = h.some }

-- ---- a token, where nothing is held back

free_allows : (k : PreviousToken) → is_free k ≡ true → (t : List ℕ) → allows k t ≡ true
unfolding is_free allows
free_allows Start e t = refl
free_allows Separated e t = refl
free_allows k e t = absurd (true≢false (sym e))

apart_allows : (t : List ℕ) → allows Separated t ≡ true
unfolding allows
apart_allows t = refl

token_fits : (kind : Kind) (t : List ℕ) (k : PreviousToken) (more : List parts.Part) → IsToken kind t → (is_child kind ≡ true → ⊥) → fuses k (chars t) ≡ false → allows k (spelling kind t) ≡ true → NoneFuse (last_after k kind (spelling kind t)) more → NoneFuse k (Own kind (spelling kind t) ∷ more)
unfolding NoneFuse
token_fits kind t k more p c f a n = (p.shape, ap (λ z. fuses k z) (sym p.same) ∙ f, record { child = λ e. absurd (c e); first = λ e. absurd (p.no_hashbang e) }, a, n)

behind_nothing : (k : PreviousToken) (xs : List parts.Part) → allows k [] ≡ true → NoneFuse k xs → NoneFuse k (Gap (blanks []) ∷ xs)
unfolding NoneFuse blanks last_after_gap pieces_text all_pieces
behind_nothing k xs a n = (refl, nothing_fuses k, a, n)

pub token_apart : (b : Bool) (kind : Kind) (t : List ℕ) (s : State) (more : List parts.Part) → (b ≡ true → is_free s.last ≡ true) → all_indent s.sheet.indent_text ≡ true → IsToken kind t → (is_child kind ≡ true → ⊥) → fuses s.last (chars t) ≡ false → allows s.last [] ≡ true → allows s.last (spelling kind t) ≡ true → NoneFuse (last_after s.last kind (spelling kind t)) more → NoneFuse s.last (Gap (blanks (front_of b s.sheet)) ∷ Own kind (spelling kind t) ∷ more)
token_apart true kind t s more free i p c f e a n =
    after_indent s.last (repeat s.sheet.indentation s.sheet.indent_text) (Own kind (spelling kind t) ∷ more) (indent_repeat s.sheet.indentation s.sheet.indent_text i) (free refl) (free_allows s.last (free refl))
    (token_fits kind t Separated more p c (apart_alone (chars t)) (apart_allows (spelling kind t)) (subst (λ k. NoneFuse k more) (free_last s.last kind (spelling kind t) (free refl)) n))
token_apart false kind t s more free i p c f e a n = behind_nothing s.last (Own kind (spelling kind t) ∷ more) e (token_fits kind t s.last more p c f a n)

rest_added : {w : Spot} (t : List ℕ) (s b : State) → all_indent s.sheet.indent_text ≡ true → IsLineEnd s.sheet.line_end → fills_lines s.sheet.lines ≡ false → Adds t s.sheet b.sheet → Takes w b → RestsAt w b
rest_added t s b i l n h k = record {
  indent_text = subst (λ z. all_indent z ≡ true) (sym h.indent_text) i;
  line_end = subst (λ z. IsLineEnd z) (sym h.line_end) l;
  flowing = h.fills ∙ n;
  free = λ o e. absurd (true≢false (sym e ∙ h.in_line));
  allowed = k;
}

pub laid_chars : (u t : List ℕ) (kind : Kind) → all_indent u ≡ true → chars t ≡ spelling kind t → chars (u ++ t) ≡ parts.text_of (Gap (blanks u) ∷ Own kind (spelling kind t) ∷ [])
unfolding parts.text_of
laid_chars u t kind h same =
    chars-append u t (indent_utf8 u h)
    ∙ ap (λ z. z ++ chars t) (indent_chars _ h ∙ sym (blanks_text u))
    ∙ ap (λ z. pieces_text (blanks u) ++ z) (same ∙ sym (append-nil (spelling kind t)))

token_lays : {v : Spot} (w : Spot) (kind : Kind) (t : List ℕ) (s b : State) → IsToken kind t → (is_child kind ≡ true → ⊥) → fuses s.last (chars t) ≡ false → holds_one s.sheet.semicolons ≡ false → RestsAt v s → allows s.last [] ≡ true → allows s.last (spelling kind t) ≡ true → Adds t s.sheet b.sheet → b.last ≡ last_after s.last kind (spelling kind t) → Takes w b → LaysTo w whole (token_of kind (spelling kind t) ∷ []) [] s b
unfolding tokens_of remarks_in
token_lays w kind t s b p c f o r e a h last k =
    let i = front_indent s.sheet r.indent_text in
    let out : List parts.Part = Gap (blanks (front s.sheet)) ∷ Own kind (spelling kind t) ∷ [] in
    record {
      out = out;
      laid = out;
      bytes = front s.sheet ++ t;
      text = h.text;
      utf8 = IsUtf8-append (front s.sheet) t (indent_utf8 _ i) p.utf8;
      spells = laid_chars (front s.sheet) t kind i p.same;
      tokens = refl;
      remarks = append-nil (remarks_of (blanks (front s.sheet))) ∙ blanks_remarks _;
      apart = λ z more n. token_apart s.sheet.at_line_start kind t s more (r.free o) r.indent_text p c f e a (subst (λ x. NoneFuse x more) last n);
      reduces = λ more ys d. laid_out s b out more ys o (ap holds_one h.semicolons ∙ o) d;
      holds = ap holds_semicolons h.semicolons;
      whole = λ z. refl;
      cuts = cuts_whole out (front s.sheet ++ t) s.sheet b.sheet refl (IsUtf8-append (front s.sheet) t (indent_utf8 _ i) p.utf8) (laid_chars (front s.sheet) t kind i p.same) h.grows;
      rest = rest_added t s b r.indent_text r.line_end r.flowing h k;
      fits = λ z. fits_text (front s.sheet) kind (spelling kind t) i;
    }

-- behind what is held back
token_settled : {v : Spot} (w : Spot) (kind : Kind) (t : List ℕ) (s b : State) → IsToken kind t → (is_child kind ≡ true → ⊥) → fuses s.last (chars t) ≡ false → RestsAt v s → RestsAt v (settle s) → allows s.last [] ≡ true → allows s.last (spelling kind t) ≡ true → Adds t (settled s.sheet) b.sheet → b.last ≡ last_after s.last kind (spelling kind t) → Takes w b → LaysTo w whole (token_of kind (spelling kind t) ∷ []) [] s b
token_settled w kind t s b p c f r q e a h last k = lays_settled s b _ r (token_lays w kind t (settle s) b p c f (settled_none s.sheet) q e a h last k)

written_adds : (span : Option Span) (t : List ℕ) (s : Sheet) → (t ≡ [] → ⊥) → fills_lines s.lines ≡ false → Adds t s (written span t s)
written_adds span [] s some n = absurd (some refl)
written_adds span (c ∷ cs) s some n = adds_written span c cs s n

literal_adds : (span : Span) (t : List ℕ) (s : Sheet) → (t ≡ [] → ⊥) → fills_lines s.lines ≡ false → Adds t s (literal_written span t s)
literal_adds span [] s some n = absurd (some refl)
literal_adds span (c ∷ cs) s some n = adds_literal span c cs s n

mark_adds : (t : List ℕ) (s : Sheet) → is_ending t ≡ false → (t ≡ [] → ⊥) → fills_lines s.lines ≡ false → Adds t (settled s) (written None t (before_punct t s))
unfolding before_punct
mark_adds t s e some n = subst (λ z. Adds t (settled s) (written None t (cond z (record s { semicolons = dropped s.semicolons }) (settled s)))) (sym e) (written_adds None t (settled s) some ((settled_stays s).fills ∙ n))

-- ---- a name in a tag, and what stands behind it

pub nothing_dashless : begins (codes "-") [] ≡ false
unfolding begins
nothing_dashless = refl

blank_named : (k : PreviousToken) (u : List ℕ) (xs : List parts.Part) → all_indent (u ++ codes " ") ≡ true → ((t : List ℕ) → begins (codes "-") t ≡ false → allows k t ≡ true) → NoneFuse Separated xs → NoneFuse k (Gap (blanks (u ++ codes " ")) ∷ xs)
unfolding NoneFuse blanks last_after_gap pieces_text piece_text all_indent
blank_named k [] xs h a n =
    let p = and_parts (is_indent 32) (all_indent []) h in
    (blanks_pieces (codes " ") h, blank_fuses k 32 [] (indent_blank 32 p.0), a (codes " ") (dashless 32 [] p.0), n)
blank_named k (c ∷ cs) xs h a n =
    let p = and_parts (is_indent c) (all_indent (cs ++ codes " ")) h in
    (blanks_pieces (c ∷ (cs ++ codes " ")) h, blank_fuses k c (pieces_text (blanks (cs ++ codes " "))) (indent_blank c p.0), a (c ∷ pieces_text (blanks (cs ++ codes " "))) (dashless c (pieces_text (blanks (cs ++ codes " "))) p.0), n)

named_blank_here : (s : State) → holds_one s.sheet.semicolons ≡ false → RestsAt InName s → LaysTo Anything open_ [] [] s (record s { sheet = written None (codes " ") s.sheet; last = Separated })
unfolding parts.text_of tokens_of remarks_in all_indent is_indent allows
named_blank_here s o r =
    let h : all_indent (front s.sheet ++ codes " ") ≡ true = indent_append (front s.sheet) (codes " ") (front_indent s.sheet r.indent_text) refl in
    let there : State = record s { sheet = written None (codes " ") s.sheet; last = Separated } in
    let w = adds_written None 32 [] s.sheet r.flowing in
    let gap : List parts.Part = Gap (blanks (front s.sheet ++ codes " ")) ∷ [] in
    let same : chars (front s.sheet ++ codes " ") ≡ parts.text_of gap = indent_chars _ h ∙ sym (blanks_text _) ∙ sym (append-nil (pieces_text (blanks (front s.sheet ++ codes " ")))) in
    record {
      out = gap;
      laid = gap;
      bytes = front s.sheet ++ codes " ";
      text = w.text;
      utf8 = indent_utf8 _ h;
      spells = same;
      tokens = refl;
      remarks = append-nil (remarks_of (blanks (front s.sheet ++ codes " "))) ∙ blanks_remarks _;
      apart = λ e more n. blank_named s.last (front s.sheet) more h r.allowed n;
      reduces = λ more ys d. laid_out s there (Gap (blanks (front s.sheet ++ codes " ")) ∷ []) more ys o (still_none None (codes " ") s.sheet o) d;
      holds = still_holds None (codes " ") s.sheet;
      whole = λ e. refl;
      cuts = cuts_whole gap (front s.sheet ++ codes " ") s.sheet there.sheet refl (indent_utf8 _ h) same w.grows;
      rest = at_text None 32 [] s Separated (λ t. refl) r.indent_text r.line_end r.flowing;
      fits = λ t. fits_indent (front s.sheet ++ codes " ") h;
    }

-- a blank behind a name
pub lays_named_blank : (s : State) → RestsAt InName s → LaysTo Anything open_ [] [] s (record s { sheet = effect Space s.sheet; last = Separated })
unfolding effect
lays_named_blank s r = lays_settled s _ [] r (named_blank_here (settle s) (settled_none s.sheet) (settle_named s r))

blank_put : Bool → State → State
blank_put b s = cond b (record s { sheet = effect Space s.sheet; last = Separated }) s

named_guard_case : (b : Bool) (s : State) → RestsAt InName s → LaysTo InName open_ [] [] s (blank_put b s)
unfolding blank_put
named_guard_case true s r = lays_narrower Anything InName s _ refl (lays_named_blank s r)
named_guard_case false s r = lays_nothing s r

pub named_guard : (t : List ℕ) (s : State) → RestsAt InName s → LaysTo InName open_ [] [] s (put (Guard t) s)
unfolding put blank_put
named_guard t s r = named_guard_case (fuses s.last (chars t)) s r

-- a name in a tag begins with no dash
start_dashless : (c : ℕ) (n : List ℕ) → is_start c ≡ true → begins (codes "-") (c ∷ n) ≡ false
unfolding begins
start_dashless c n h = elim (cases_Bool (45 == c)) [
  | inl e ↦ absurd (true≢false (sym (subst (λ z. is_start z ≡ true) (sym (eqb-true 45 c e)) h) ∙ (unfold is_start is_letter in refl)))
  | inr e ↦ ap (λ b. b && true) e
]

jsx_dashless : (t : List ℕ) → is_jsx_name t ≡ true → begins (codes "-") t ≡ false
unfolding is_jsx_name
jsx_dashless [] h = absurd (true≢false (sym h))
jsx_dashless (c ∷ cs) h = start_dashless c cs (and_parts (is_start c) (all_tag cs) h).0

pub name_dashless : (t : List ℕ) → IsToken JsxName t → begins (codes "-") (spelling JsxName t) ≡ false
unfolding has_shape
name_dashless t p = jsx_dashless (spelling JsxName t) p.shape

-- the call of a name, at which nothing fuses
tag_call : (span : Option Span) (t : List ℕ) (s : State) → IsToken JsxName t → fuses s.last (chars t) ≡ false → RestsAt InName s → LaysTo InName whole (token_of JsxName (spelling JsxName t) ∷ []) [] s (own_put JsxName span t s)
unfolding own_put last_after allows is_child
tag_call span t s p f r =
    let q = settle_named s r in
    token_settled InName JsxName t s (own_put JsxName span t s) p (λ e. true≢false (sym e)) f r q (q.allowed [] nothing_dashless) (q.allowed (spelling JsxName t) (name_dashless t p)) (written_adds span t (settled s.sheet) p.some q.flowing) refl (λ u e. ap not e)

-- a name, with the blank that is due
pub lays_tag_name : (span : Option Span) (t : List ℕ) (s : State) → IsToken JsxName t → RestsAt InName s → LaysTo InName whole (token_of JsxName (spelling JsxName t) ∷ []) [] s (own_put JsxName span t (put (Guard t) s))
lays_tag_name span t s p r =
    let there : State = put (Guard t) s in
    let g = named_guard t s r in
    lays_then [] (token_of JsxName (spelling JsxName t) ∷ []) s there (own_put JsxName span t there) g (tag_call span t there p (after_guard t s) g.rest)

-- and with its position, which is recorded behind the blank
pub lays_tag_placed : (pos : BytePos) (span : Option Span) (t : List ℕ) (s : State) → IsToken JsxName t → RestsAt InName s → LaysTo InName whole (token_of JsxName (spelling JsxName t) ∷ []) [] s (own_put JsxName span t (record (put (Guard t) s) { sheet = pointed pos (put (Guard t) s).sheet }))
lays_tag_placed pos span t s p r =
    let there : State = put (Guard t) s in
    let noted : State = record there { sheet = pointed pos there.sheet } in
    let g = named_guard t s r in
    let n = lays_named_position pos there g.rest in
    lays_then [] (token_of JsxName (spelling JsxName t) ∷ []) s there (own_put JsxName span t noted) g
    (lays_then [] (token_of JsxName (spelling JsxName t) ∷ []) there noted (own_put JsxName span t noted) n (tag_call span t noted p (after_guard t s) n.rest))

-- a punctuator behind a name, which begins with no dash
pub lays_named_mark : (t : List ℕ) (s : State) → is_ending t ≡ false → begins (codes "-") t ≡ false → Spelled Punctuator t → RestsAt InName s → LaysTo Anything whole (token_of Punctuator (spelling Punctuator t) ∷ []) [] s (punct_put None t (put (Guard t) s))
unfolding punct_put spelling is_child
lays_named_mark t s e d p r =
    let there : State = put (Guard t) s in
    let g = named_guard t s r in
    let q = settle_named there g.rest in
    lays_then [] (token_of Punctuator t ∷ []) s there (punct_put None t there) g
    (token_settled Anything Punctuator t there (punct_put None t there) (from_spelled p) (λ z. true≢false (sym z)) (after_guard t s) g.rest q (q.allowed [] nothing_dashless) (q.allowed t d) (mark_adds t there.sheet e p.some g.rest.flowing) refl (λ u. p.allowed there.last u))

-- the `>` that closes a tag, behind which a child may stand
pub lays_tag_end : (s : State) → RestsAt InName s → LaysTo Between whole (token_of Close (spelling Close (codes ">")) ∷ []) [] s (own_put Close None (codes ">") (put (Guard (codes ">")) s))
unfolding own_put last_after allows is_child holds_child begins spelling chars lib.Utf8.encode
lays_tag_end s r =
    let t : List ℕ = codes ">" in
    let there : State = put (Guard t) s in
    let g = named_guard t s r in
    let q = settle_named there g.rest in
    lays_then [] (token_of Close (spelling Close t) ∷ []) s there (own_put Close None t there) g
    (token_settled Between Close t there (own_put Close None t there) (from_spelled spelled_close) (λ z. true≢false (sym z)) (after_guard t s) g.rest q (q.allowed [] refl) (q.allowed (spelling Close t) refl) (written_adds None t (settled there.sheet) spelled_close.some q.flowing) refl
    (record { child = refl; nothing_held = own_none Close None t there; in_line = in_line None 62 [] (settled there.sheet) }, λ u. refl))

-- ---- children

-- no blank is due before one
child_alone : (k : PreviousToken) → holds_child k ≡ true → (t : List ℕ) → fuses k t ≡ false
unfolding holds_child fuses
child_alone k h [] = refl
child_alone Whole h (c ∷ n) = refl
child_alone TextEnd h (c ∷ n) = refl
child_alone (Mark m) h (c ∷ n) = subst (λ z. mark_fuses z c n ≡ false) (sym (eq_of_same m (codes "}") h)) (unfold mark_fuses grows some_begins begins is_same punctuators in refl)
child_alone k h (c ∷ n) = absurd (true≢false (sym h))

child_fits : (kind : Kind) (t : List ℕ) (k : PreviousToken) (more : List parts.Part) → IsToken kind t → holds_child k ≡ true → allows k (spelling kind t) ≡ true → NoneFuse (last_after k kind (spelling kind t)) more → NoneFuse k (Own kind (spelling kind t) ∷ more)
unfolding NoneFuse
child_fits kind t k more p c a n = (p.shape, child_alone k c (spelling kind t), record { child = λ e. c; first = λ e. absurd (p.no_hashbang e) }, a, n)

child_lays : {v : Spot} (w : Spot) (kind : Kind) (t : List ℕ) (s b : State) → IsToken kind t → TakesChild s → RestsAt v s → allows s.last (spelling kind t) ≡ true → Adds t s.sheet b.sheet → b.last ≡ last_after s.last kind (spelling kind t) → Takes w b → LaysTo w whole (token_of kind (spelling kind t) ∷ []) [] s b
unfolding tokens_of remarks_in parts.text_of
child_lays w kind t s b p c r a h last k =
    let out : List parts.Part = Own kind (spelling kind t) ∷ [] in
    record {
      out = out;
      laid = out;
      bytes = t;
      text = h.text ∙ ap (λ z. s.sheet.text ++ (front_of z s.sheet ++ t)) c.in_line;
      utf8 = p.utf8;
      spells = p.same ∙ sym (append-nil (spelling kind t));
      tokens = refl;
      remarks = refl;
      apart = λ z more n. child_fits kind t s.last more p c.child a (subst (λ x. NoneFuse x more) last n);
      reduces = λ more ys d. laid_out s b out more ys c.nothing_held (ap holds_one h.semicolons ∙ c.nothing_held) d;
      holds = ap holds_semicolons h.semicolons;
      whole = λ z. refl;
      cuts = cuts_whole out t s.sheet b.sheet refl p.utf8 (p.same ∙ sym (append-nil (spelling kind t))) (grows_as (front s.sheet ++ t) t s.sheet b.sheet (ap (λ z. front_of z s.sheet ++ t) c.in_line) h.grows);
      rest = rest_added t s b r.indent_text r.line_end r.flowing h k;
      fits = λ z. fits_own kind (spelling kind t);
    }

-- the text between tags
pub lays_jsx_text : (span : Span) (t : List ℕ) (s : State) → IsToken JsxText t → RestsAt Between s → LaysTo InText whole (token_of JsxText (spelling JsxText t) ∷ []) [] s (put (Token JsxText (StrLit span t)) s)
unfolding put effect text_of after_token last_after allows holds_child
lays_jsx_text span t s p r =
    let c = r.allowed.0 in
    let b : State = put (Token JsxText (StrLit span t)) s in
    let h : Adds t s.sheet b.sheet = subst (λ z. Adds t s.sheet (literal_written span t z)) (sym (unheld_settled s.sheet c.nothing_held)) (literal_adds span t s.sheet p.some r.flowing) in
    child_lays InText JsxText t s b p c r (r.allowed.1 (spelling JsxText t)) h refl (record { child = refl; nothing_held = ap holds_one h.semicolons ∙ c.nothing_held; in_line = h.in_line }, λ u e. e)

-- what begins another child, or a closing tag
pub lays_child_open : (t : List ℕ) (s : State) → IsToken JsxOpen t → ends_text (spelling JsxOpen t) ≡ true → is_ending t ≡ false → RestsAt InText s → LaysTo Anything whole (token_of JsxOpen (spelling JsxOpen t) ∷ []) [] s (put (Token JsxOpen (Punct None t)) s)
unfolding put effect text_of after_token last_after
lays_child_open t s p o e r =
    let c = r.allowed.0 in
    let b : State = put (Token JsxOpen (Punct None t)) s in
    let h : Adds t s.sheet b.sheet = subst (λ z. Adds t z b.sheet) (unheld_settled s.sheet c.nothing_held) (mark_adds t s.sheet e p.some r.flowing) in
    child_lays Anything JsxOpen t s b p c r (r.allowed.1 (spelling JsxOpen t) o) h refl (λ u. mark_allows s.last (spelling JsxOpen t) u)

-- ---- the end of a container

brace_case : (b : Bool) → holds_child (cond (b && false) LessBang (Mark (codes "}"))) ≡ true
unfolding holds_child is_same
brace_case true = refl
brace_case false = refl

brace_holds : (k : PreviousToken) → holds_child (mark_after k (codes "}")) ≡ true
unfolding mark_after holds_child is_same
brace_holds (Mark t) = brace_case (is_same t (codes "<"))
brace_holds k = refl

brace_none : (s : Sheet) → holds_one (written None (codes "}") (before_punct (codes "}") s)).semicolons ≡ false
unfolding before_punct is_ending
brace_none s = ap holds_one (written_semicolons None (codes "}") (record s { semicolons = dropped s.semicolons })) ∙ dropped_none s.semicolons

-- a child may stand behind it
pub lays_brace_end : (s : State) → Spelled Punctuator (codes "}") → AtRest s → LaysTo Between whole (token_of Punctuator (spelling Punctuator (codes "}")) ∷ []) [] s (punct_put None (codes "}") (put (Guard (codes "}")) s))
unfolding punct_put last_after spelling
lays_brace_end s p r =
    let there : State = put (Guard (codes "}")) s in
    lays_ends Between s (punct_put None (codes "}") there)
    (λ q. taking Between (punct_put None (codes "}") there) (record { child = brace_holds there.last; nothing_held = brace_none there.sheet; in_line = in_line None 125 [] (before_punct (codes "}") there.sheet) }, q.allowed) q)
    (lays_punct None (codes "}") s p r)
