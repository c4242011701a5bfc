-- Texts of several tokens, and tokens of several calls.
use Rattle.std.proofs.Common.{◌≡◌, ℕ, Bool, true, false, cond, ◌&&◌, List, [], ◌∷◌, ◌++◌, Option, None, codes, refl, sym, ap, ◌∙◌, subst, append_assoc, append-nil, inl, inr}
use Rattle.std.specs.List.{repeat}
use Rattle.std.specs.Str.{chars, is_utf8, IsUtf8}
use Rattle.std.proofs.lemmas.Bool.{true≢false}
use Rattle.std.proofs.lemmas.Str.{chars-append, IsUtf8-append}
use Rattle.swc_ecma_codegen_common.specs.declared.positions.Span.{Span}
use Rattle.swc_ecma_codegen_grammar.specs.declared.kinds.Kind.{Kind}
use Rattle.swc_ecma_codegen_grammar.specs.declared.kinds.Kind.TheVariants.{Punctuator, Ending}
use Rattle.swc_ecma_codegen_grammar.specs.Texts.{begins, is_same, is_among}
use Rattle.swc_ecma_codegen_grammar.specs.Punctuators.{is_punctuator, punctuators}
use Rattle.swc_ecma_codegen_grammar.specs.Trivia.{pieces_text, remarks_of}
use Rattle.swc_ecma_codegen_grammar.specs.GapRules.{PreviousToken, Start, Separated, Mark, fuses, allows, last_after, mark_after}
use Rattle.swc_ecma_codegen_grammar.specs.Parts as parts
use Rattle.swc_ecma_codegen_grammar.specs.Parts.{Gap, Own, tokens_of, remarks_in, IsEnding, NoneFuse, begins_break, Reduced}
use Rattle.swc_ecma_codegen_grammar.proofs.Dropped.{reduced_after}
use Rattle.swc_ecma_codegen_text_writer.specs.Sheet.{Sheet, Semicolons, HoldsNone, HoldsOne, holds_semicolons, recorded, written, literal_written, fills_lines}
use Rattle.swc_ecma_codegen_text_writer.proofs.Sheets.{written_same}
use Rattle.swc_ecma_codegen_text_writer.proofs.Stays.{written_stays, recorded_stays}
use Rattle.swc_ecma_codegen_text_writer.proofs.Cuts.{GrowsBy, grows_then, grows_as, grows_first, grows_last, recorded_grows, written_grows}
use Rattle.swc_ecma_codegen_tokens.specs.Run.{State, spelling, after_token, after_tokens}
use Rattle.swc_ecma_codegen_tokens.specs.Written.{IsLineEnd, all_indent, is_free, holds_one, keeps_break, AtRest}
use Rattle.swc_ecma_codegen_tokens.proofs.Gaps.AfterBlanks.{apart_alone, after_indent, in_a_line}
use Rattle.swc_ecma_codegen_tokens.proofs.Emission.PendingSemi.{front, front_of, recorded_keeps, written_text, written_semicolons, in_line}
use Rattle.swc_ecma_codegen_tokens.proofs.Gaps.Indented.{indent_repeat, indent_utf8, indent_chars, blanks, blanks_text, blanks_remarks}
use Rattle.swc_ecma_codegen_tokens.proofs.Gaps.NoPunctuator.{dash_same}
use Rattle.swc_ecma_codegen_tokens.proofs.Filling.Shapes.{whole, Fits, fits_indent, fits_then, fits_own as fits_one_own}
use Rattle.swc_ecma_codegen_tokens.proofs.Filling.Cuts.{is_unbroken, cuts_whole, break_if, past_break, ending_past}
use Rattle.swc_ecma_codegen_tokens.proofs.Reading.Laid.{held_of, Lays, laid_out}
use Rattle.swc_ecma_codegen_tokens.proofs.Gaps.Written.{front_indent, apart_open}
use Rattle.swc_ecma_codegen_tokens.proofs.Reading.TokenLays.{Spelled, spelled_mark, mark_allows, free_last, own_fits}

-- ---- what calls add to a sheet

-- A text is added, at a line's start behind its indentation, and nothing else that matters for what is read changes.
pub record Adds (t : List ℕ) (a b : Sheet) : Type 0 where
  pub text : b.text ≡ a.text ++ (front a ++ t)
  pub grows : GrowsBy (front a ++ t) a b
  pub semicolons : b.semicolons ≡ a.semicolons
  pub in_line : b.at_line_start ≡ false
  pub indent_text : b.indent_text ≡ a.indent_text
  pub line_end : b.line_end ≡ a.line_end
  pub fills : fills_lines b.lines ≡ fills_lines a.lines

pub adds_written : (span : Option Span) (c : ℕ) (cs : List ℕ) (s : Sheet) → fills_lines s.lines ≡ false → Adds (c ∷ cs) s (written span (c ∷ cs) s)
adds_written span c cs s n = record {
  text = written_text span c cs s n;
  grows = written_grows span c cs s;
  semicolons = written_semicolons span (c ∷ cs) s;
  in_line = in_line span c cs s;
  indent_text = (written_same span (c ∷ cs) s).indent_text;
  line_end = (written_same span (c ∷ cs) s).line_end;
  fills = (written_stays span (c ∷ cs) s).fills;
}

pub adds_literal : (span : Span) (c : ℕ) (cs : List ℕ) (s : Sheet) → fills_lines s.lines ≡ false → Adds (c ∷ cs) s (literal_written span (c ∷ cs) s)
unfolding literal_written
adds_literal span c cs s n =
    let there : Sheet = recorded span.lo s in
    let after : Sheet = written None (c ∷ cs) there in
    let h = adds_written None c cs there ((recorded_stays span.lo s).fills ∙ n) in
    record {
      grows = grows_last (front s ++ c ∷ cs) s after (recorded span.hi after)
          (grows_first (front s ++ c ∷ cs) s there after (recorded_grows span.lo s) (grows_as (front there ++ c ∷ cs) (front s ++ c ∷ cs) there after (recorded_keeps (λ z. front z ++ c ∷ cs) (λ z x l. refl) span.lo s) h.grows))
          (recorded_grows span.hi after);
      text = recorded_keeps (λ z. z.text) (λ z x l. refl) span.hi after ∙ h.text ∙ recorded_keeps (λ z. z.text ++ (front z ++ (c ∷ cs))) (λ z x l. refl) span.lo s;
      semicolons = recorded_keeps (λ z. z.semicolons) (λ z x l. refl) span.hi after ∙ h.semicolons ∙ recorded_keeps (λ z. z.semicolons) (λ z x l. refl) span.lo s;
      in_line = recorded_keeps (λ z. z.at_line_start) (λ z x l. refl) span.hi after ∙ h.in_line;
      indent_text = recorded_keeps (λ z. z.indent_text) (λ z x l. refl) span.hi after ∙ h.indent_text ∙ recorded_keeps (λ z. z.indent_text) (λ z x l. refl) span.lo s;
      line_end = recorded_keeps (λ z. z.line_end) (λ z x l. refl) span.hi after ∙ h.line_end ∙ recorded_keeps (λ z. z.line_end) (λ z x l. refl) span.lo s;
      fills = (recorded_stays span.hi after).fills ∙ h.fills ∙ (recorded_stays span.lo s).fills;
    }

-- one text after another
pub adds_more : (t u : List ℕ) (a b c : Sheet) → Adds t a b → Adds u b c → Adds (t ++ u) a c
adds_more t u a b c h k = record {
  grows = grows_as ((front a ++ t) ++ (front b ++ u)) (front a ++ (t ++ u)) a c (ap (λ z. (front a ++ t) ++ (front_of z b ++ u)) h.in_line ∙ append_assoc (front a) t u) (grows_then (front a ++ t) (front b ++ u) a b c h.grows k.grows);
  text = k.text ∙ ap (λ z. z ++ (front b ++ u)) h.text ∙ ap (λ z. (a.text ++ (front a ++ t)) ++ (front_of z b ++ u)) h.in_line ∙ append_assoc a.text (front a ++ t) u ∙ ap (λ z. a.text ++ z) (append_assoc (front a) t u);
  semicolons = k.semicolons ∙ h.semicolons;
  in_line = k.in_line;
  indent_text = k.indent_text ∙ h.indent_text;
  line_end = k.line_end ∙ h.line_end;
  fills = k.fills ∙ h.fills;
}

-- ---- texts of tokens

-- tokens by their kinds and spellings, as parts
unfoldable pub owns : List (Kind × List ℕ) → List parts.Part
owns [] = []
owns (x ∷ xs) = Own x.0 (spelling x.0 x.1) ∷ owns xs

owns_remarks : (xs : List (Kind × List ℕ)) → remarks_in (owns xs) ≡ []
unfolding owns remarks_in
owns_remarks [] = refl
owns_remarks (x ∷ xs) = owns_remarks xs

-- A text is these tokens, which may follow any other.
pub record SpelledAs (xs : List (Kind × List ℕ)) (t : List ℕ) : Type 0 where
  pub utf8 : IsUtf8 t
  pub same : chars t ≡ parts.text_of (owns xs)
  pub fits : (k : PreviousToken) (more : List parts.Part) → fuses k (chars t) ≡ false → ((u : List ℕ) → allows k u ≡ true) → NoneFuse (after_tokens xs k) more → NoneFuse k (owns xs ++ more)
  pub free : (k : PreviousToken) → is_free k ≡ true → after_tokens xs k ≡ after_tokens xs Separated
  pub allowed : (k : PreviousToken) (u : List ℕ) → allows (after_tokens xs k) u ≡ true

-- one token
pub spelled_one : (kind : Kind) (t : List ℕ) → Spelled kind t → SpelledAs ((kind, t) ∷ []) t
unfolding owns after_tokens after_token parts.text_of
spelled_one kind t p = record {
  utf8 = p.utf8;
  same = p.same ∙ sym (append-nil (spelling kind t));
  fits = λ k more f a n. own_fits kind t k more p f a n;
  free = λ k e. free_last k kind (spelling kind t) e;
  allowed = λ k u. p.allowed k u;
}

pub minus_is_mark : Spelled Punctuator (codes "-")
unfolding is_punctuator is_among is_same punctuators chars is_utf8 lib.Utf8.encode
minus_is_mark = spelled_mark (codes "-") refl refl refl

pub minus_chars : chars (codes "-") ≡ codes "-"
unfolding chars lib.Utf8.encode
minus_chars = refl

no_bang : (b : Bool) (x y : PreviousToken) → cond (b && false) x y ≡ y
no_bang true x y = refl
no_bang false x y = refl

-- whatever stands before it, a minus sign is one
after_minus : (k : PreviousToken) → mark_after k (codes "-") ≡ Mark (codes "-")
unfolding mark_after is_same
after_minus (Mark l) = no_bang _ _ _
after_minus k = refl

-- a minus sign, and a token that doesn't fuse with it: `-5`
pub spelled_signed : (kind : Kind) (t : List ℕ) → Spelled kind t → fuses (Mark (codes "-")) (chars t) ≡ false → begins (codes "-") (chars t) ≡ false → SpelledAs ((Punctuator, codes "-") ∷ (kind, t) ∷ []) (codes "-" ++ t)
unfolding owns after_tokens after_token parts.text_of last_after spelling begins
spelled_signed kind t p f g =
    let whole : chars (codes "-" ++ t) ≡ codes "-" ++ chars t = chars-append (codes "-") t minus_is_mark.utf8 ∙ ap (λ z. z ++ chars t) minus_chars in
    record {
      utf8 = IsUtf8-append (codes "-") t minus_is_mark.utf8 p.utf8;
      same = whole ∙ ap (λ z. codes "-" ++ z) (p.same ∙ sym (append-nil (spelling kind t)));
      fits = λ k more e a n.
          let apart : fuses k (chars (codes "-")) ≡ false = ap (fuses k) minus_chars ∙ dash_same k [] (chars t) (sym g) ∙ ap (fuses k) (sym whole) ∙ e in
          own_fits Punctuator (codes "-") k (Own kind (spelling kind t) ∷ more) minus_is_mark apart a
          (own_fits kind t (mark_after k (codes "-")) more p (ap (λ z. fuses z (chars t)) (after_minus k) ∙ f) (λ u. mark_allows k (codes "-") u) n);
      free = λ k e. ap (λ z. last_after z kind (spelling kind t)) (after_minus k ∙ sym (after_minus Separated));
      allowed = λ k u. p.allowed (mark_after k (codes "-")) u;
    }

-- ---- what is laid

texts_apart : (b : Bool) (xs : List (Kind × List ℕ)) (t : List ℕ) (s : State) (more : List parts.Part) → s.sheet.at_line_start ≡ b → holds_one s.sheet.semicolons ≡ false → SpelledAs xs t → fuses s.last (chars t) ≡ false → AtRest s → NoneFuse (after_tokens xs s.last) more → NoneFuse s.last (Gap (blanks (front_of b s.sheet)) ∷ (owns xs ++ more))
texts_apart true xs t s more e o p f r n =
    after_indent s.last (repeat s.sheet.indentation s.sheet.indent_text) (owns xs ++ more) (indent_repeat s.sheet.indentation s.sheet.indent_text r.indent_text) (r.free o e) r.allowed
    (p.fits Separated more (apart_alone (chars t)) apart_open (subst (λ k. NoneFuse k more) (p.free s.last (r.free o e)) n))
texts_apart false xs t s more e o p f r n = in_a_line s.last (owns xs ++ more) r.allowed (p.fits s.last more f r.allowed n)

-- a text is a token at least
start_is_not_apart : Start ≡ Separated → ⊥
start_is_not_apart e = cc

no_tokens : (t : List ℕ) → SpelledAs [] t → ⊥
unfolding after_tokens is_free
no_tokens t p = start_is_not_apart (p.free Start refl)

fits_owns : (x : Kind × List ℕ) (xs : List (Kind × List ℕ)) → Fits whole (owns (x ∷ xs))
unfolding owns
fits_owns x [] = fits_one_own x.0 (spelling x.0 x.1)
fits_owns x (y ∷ ys) = fits_then (Own x.0 (spelling x.0 x.1) ∷ []) (owns (y ∷ ys)) (fits_one_own x.0 (spelling x.0 x.1)) (fits_owns y ys)

fits_texts : (u : List ℕ) (xs : List (Kind × List ℕ)) (t : List ℕ) → all_indent u ≡ true → SpelledAs xs t → Fits whole (Gap (blanks u) ∷ owns xs)
fits_texts u [] t h p = absurd (no_tokens t p)
fits_texts u (x ∷ xs) t h p = fits_then (Gap (blanks u) ∷ []) (owns (x ∷ xs)) (fits_indent u h) (fits_owns x xs)

owns_unbroken : (xs : List (Kind × List ℕ)) → is_unbroken (owns xs) ≡ true
unfolding owns
owns_unbroken [] = refl
owns_unbroken (x ∷ xs) = owns_unbroken xs

-- tokens of a text that was added, where no semicolon is held back
pub lays_texts : (xs : List (Kind × List ℕ)) (t : List ℕ) (s b : State) → SpelledAs xs t → fuses s.last (chars t) ≡ false → holds_one s.sheet.semicolons ≡ false → AtRest s → Adds t s.sheet b.sheet → b.last ≡ after_tokens xs s.last → Lays (tokens_of (owns xs)) s b
unfolding tokens_of remarks_in parts.text_of
lays_texts xs t s b p f o r h last =
    let i = front_indent s.sheet r.indent_text in
    let out : List parts.Part = Gap (blanks (front s.sheet)) ∷ owns xs in
    let utf8 : IsUtf8 (front s.sheet ++ t) = IsUtf8-append (front s.sheet) t (indent_utf8 _ i) p.utf8 in
    let same : chars (front s.sheet ++ t) ≡ parts.text_of out =
    chars-append (front s.sheet) t (indent_utf8 _ i) ∙ ap (λ z. z ++ chars t) (indent_chars _ i ∙ sym (blanks_text (front s.sheet))) ∙ ap (λ z. pieces_text (blanks (front s.sheet)) ++ z) p.same in
    record {
      out = out;
      laid = out;
      bytes = front s.sheet ++ t;
      text = h.text;
      utf8 = utf8;
      spells = same;
      tokens = refl;
      remarks = ap (λ z. remarks_of (blanks (front s.sheet)) ++ z) (owns_remarks xs) ∙ append-nil (remarks_of (blanks (front s.sheet))) ∙ blanks_remarks _;
      apart = λ e more n. texts_apart s.sheet.at_line_start xs t s more refl o p f r (subst (λ k. NoneFuse k more) last n);
      reduces = λ more ys d. laid_out s b out more ys o (ap holds_one h.semicolons ∙ o) d;
      holds = ap holds_semicolons h.semicolons;
      whole = λ e. refl;
      cuts = cuts_whole out (front s.sheet ++ t) s.sheet b.sheet (owns_unbroken xs) utf8 same h.grows;
      rest = record {
        indent_text = subst (λ z. all_indent z ≡ true) (sym h.indent_text) r.indent_text;
        line_end = subst (λ z. IsLineEnd z) (sym h.line_end) r.line_end;
        flowing = h.fills ∙ r.flowing;
        free = λ o e. absurd (true≢false (sym e ∙ h.in_line));
        allowed = λ u. ap (λ k. allows k u) last ∙ p.allowed s.last u;
      };
      fits = λ e. fits_texts (front s.sheet) xs t i p;
    }

fits_some : (xs : List (Kind × List ℕ)) (t : List ℕ) → SpelledAs xs t → Fits whole (owns xs)
fits_some [] t p = absurd (no_tokens t p)
fits_some (x ∷ xs) t p = fits_owns x xs

some_first : (xs : List (Kind × List ℕ)) (t : List ℕ) (ys : List parts.Part) → SpelledAs xs t → begins_break (owns xs ++ ys) ≡ false
unfolding owns begins_break
some_first [] t ys p = absurd (no_tokens t p)
some_first (x ∷ xs) t ys p = refl

-- it is lost: tokens stand where it would
lost_reduces : (x : Semicolons) {span : Option Span} {allowed : Bool} → HoldsOne span allowed ≡ x → (u : List ℕ) (out xs ys : List parts.Part) (s : Sheet) → u ≡ front s → IsEnding (out ++ xs) → begins_break (out ++ ys) ≡ false → Reduced xs ys → Reduced (held_of (holds_one x) (keeps_break x) s ++ (out ++ xs)) (Gap (blanks u) ∷ (out ++ ys))
unfolding holds_one keeps_break Reduced
lost_reduces x {allowed = kept} e u out xs ys s f n o r =
    subst (λ z. Reduced (held_of (holds_one z) (keeps_break z) s ++ (out ++ xs)) (Gap (blanks u) ∷ (out ++ ys))) e
    (subst (λ z. Reduced (Gap (blanks z) ∷ Own Ending (codes ";") ∷ (break_if kept ++ (out ++ xs))) (Gap (blanks u) ∷ (out ++ ys))) f
    (inl (out ++ ys, refl, inr (inl (refl, ending_past kept (out ++ xs) n, o, past_break kept (out ++ xs) (out ++ ys) (reduced_after out xs ys r))))))

-- tokens of a text that was added in place of a semicolon that was held back
pub lost_texts : {span : Option Span} {allowed : Bool} (xs : List (Kind × List ℕ)) (t : List ℕ) (s b : State) → HoldsOne span allowed ≡ s.sheet.semicolons → ((more : List parts.Part) → IsEnding (owns xs ++ more)) → SpelledAs xs t → fuses s.last (chars t) ≡ false → AtRest s → Adds t (record s.sheet { semicolons = HoldsNone }) b.sheet → b.last ≡ after_tokens xs s.last → Lays (tokens_of (owns xs)) s b
unfolding tokens_of remarks_in parts.text_of holds_one
lost_texts xs t s b e ending p f r h last =
    let there : Sheet = record s.sheet { semicolons = HoldsNone } in
    let i = front_indent there r.indent_text in
    let none : holds_one b.sheet.semicolons ≡ false = ap holds_one h.semicolons in
    let laid : List parts.Part = Gap (blanks (front there)) ∷ owns xs in
    let utf8 : IsUtf8 (front there ++ t) = IsUtf8-append (front there) t (indent_utf8 _ i) p.utf8 in
    let same : chars (front there ++ t) ≡ parts.text_of laid =
    chars-append (front there) t (indent_utf8 _ i) ∙ ap (λ z. z ++ chars t) (indent_chars _ i ∙ sym (blanks_text (front there))) ∙ ap (λ z. pieces_text (blanks (front there)) ++ z) p.same in
    record {
      out = owns xs;
      laid = laid;
      bytes = front there ++ t;
      text = h.text;
      utf8 = utf8;
      spells = same;
      tokens = refl;
      remarks = ap (λ z. remarks_of (blanks (front there)) ++ z) (owns_remarks xs) ∙ append-nil (remarks_of (blanks (front there))) ∙ blanks_remarks _;
      apart = λ k more n. p.fits s.last more f r.allowed (subst (λ z. NoneFuse z more) last n);
      reduces = λ more ys d. lost_reduces s.sheet.semicolons e (front there) (owns xs) more ys s.sheet refl (ending more) (some_first xs t ys p) (subst (λ z. Reduced (held_of z (keeps_break b.sheet.semicolons) b.sheet ++ more) ys) none d);
      holds = ap holds_semicolons h.semicolons ∙ ap holds_semicolons e;
      whole = λ w. absurd (true≢false (ap holds_semicolons e ∙ w));
      cuts = cuts_whole laid (front there ++ t) s.sheet b.sheet (owns_unbroken xs) utf8 same h.grows;
      rest = record {
        indent_text = subst (λ z. all_indent z ≡ true) (sym h.indent_text) r.indent_text;
        line_end = subst (λ z. IsLineEnd z) (sym h.line_end) r.line_end;
        flowing = h.fills ∙ r.flowing;
        free = λ o k. absurd (true≢false (sym k ∙ h.in_line));
        allowed = λ u. ap (λ k. allows k u) last ∙ p.allowed s.last u;
      };
      fits = λ k. fits_some xs t p;
    }
