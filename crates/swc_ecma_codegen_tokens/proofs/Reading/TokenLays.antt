-- What the calls of a token write, with the blank that is due before it.
use Rattle.std.proofs.Common.{◌≡◌, ℕ, Bool, true, false, cond, List, [], ◌∷◌, ◌++◌, Option, codes, refl, sym, ap, ◌∙◌, subst, append-nil, inl, inr, ◌==◌, ◌||◌}
use Rattle.std.specs.List.{repeat}
use Rattle.std.specs.Str.{chars, is_utf8, IsUtf8}
use Rattle.std.proofs.lemmas.Bool.{eqb-true, or_cases, true≢false}
use Rattle.std.proofs.lemmas.Str.{chars-nil, chars-append, IsUtf8-nil, IsUtf8-append, IsUtf8-from_is_utf8}
use Rattle.swc_ecma_codegen_grammar.specs.declared.kinds.Kind.{Kind}
use Rattle.swc_ecma_codegen_grammar.specs.declared.kinds.Kind.TheVariants.{Word, Name, Punctuator, Ending, Close}
use Rattle.swc_ecma_codegen_grammar.specs.Tokens as lexical
use Rattle.swc_ecma_codegen_grammar.specs.Tokens.{has_shape, token_of}
use Rattle.swc_ecma_codegen_grammar.specs.Names.{is_word, is_name, name_rest}
use Rattle.swc_ecma_codegen_grammar.specs.Punctuators.{is_punctuator, punctuators}
use Rattle.swc_ecma_codegen_grammar.specs.Texts.{begins, is_same, is_among}
use Rattle.swc_ecma_codegen_grammar.specs.Trivia.{pieces_text, remarks_of}
use Rattle.swc_ecma_codegen_grammar.specs.Reads.{is_child, is_hashbang_kind}
use Rattle.swc_ecma_codegen_grammar.specs.GapRules.{PreviousToken, Start, Separated, Mark, LessBang, fuses, allows, mark_after, last_after}
use Rattle.swc_ecma_codegen_grammar.specs.Parts as parts
use Rattle.swc_ecma_codegen_grammar.specs.Parts.{Gap, Own, tokens_of, remarks_in, NoneFuse}
use Rattle.swc_ecma_codegen_common.specs.declared.positions.BytePos.{BytePos}
use Rattle.swc_ecma_codegen_common.specs.declared.positions.Span.{Span}
use Rattle.swc_ecma_codegen_grammar.specs.Parts.{Reduced, IsEnding, begins_break}
use Rattle.swc_ecma_codegen_grammar.proofs.Dropped.{own_first}
use Rattle.swc_ecma_codegen_text_writer.proofs.Cuts.{written_grows}
use Rattle.swc_ecma_codegen_text_writer.specs.Sheet.{Sheet, Semicolons, AtOnce, HoldsNone, HoldsOne, holds_semicolons, Space, written, pointed, settled, semicolon_by, dropped, before_punct, is_ending, effect}
use Rattle.swc_ecma_codegen_tokens.specs.Run.{State, Guard, put, spelling}
use Rattle.swc_ecma_codegen_tokens.specs.Written.{all_indent, is_free, holds_one, keeps_break, AtRest}
use Rattle.swc_ecma_codegen_tokens.proofs.Emission.PendingSemi.{front_of, front, written_text, settled_none}
use Rattle.swc_ecma_codegen_tokens.proofs.Gaps.AfterBlanks.{apart_alone, same_after, after_indent, in_a_line}
use Rattle.swc_ecma_codegen_tokens.proofs.Filling.Shapes.{whole, open_, joining, joined, join, fits_own, fits_text}
use Rattle.swc_ecma_codegen_tokens.proofs.Gaps.Indented.{indent_repeat, indent_utf8, indent_chars, blanks, blanks_text, blanks_remarks}
use Rattle.swc_ecma_codegen_tokens.proofs.Filling.Cuts.{cuts_whole, cuts_same, past_break, ending_past}
use Rattle.swc_ecma_codegen_tokens.proofs.Reading.Laid.{held_of, LaysAt, Lays, lays_then, laid_out, lays_nothing, lays_joint}
use Rattle.swc_ecma_codegen_tokens.proofs.Gaps.Written.{front_indent, at_text, still_none, still_holds, settle, settle_rest, lays_settled, lays_position, lays_blank, apart_open, semicolon_gap, semicolon_utf8}

-- a text is a token of a kind, which may follow any other
pub record Spelled (kind : Kind) (t : List ℕ) : Type 0 where
  pub utf8 : IsUtf8 t
  pub same : chars t ≡ spelling kind t
  pub shape : has_shape kind (spelling kind t) ≡ true
  pub no_child : is_child kind ≡ true → ⊥
  pub no_hashbang : is_hashbang_kind kind ≡ true → ⊥
  pub allowed : (k : PreviousToken) (u : List ℕ) → allows (last_after k kind (spelling kind t)) u ≡ true
  pub some : t ≡ [] → ⊥

pub spelled_word : (t : List ℕ) → is_utf8 t ≡ true → is_word (chars t) ≡ true → Spelled Word t
unfolding spelling has_shape is_child is_hashbang_kind last_after allows is_word
spelled_word t u h = record {
  utf8 = IsUtf8-from_is_utf8 t u;
  same = refl;
  shape = h;
  no_child = λ e. true≢false (sym e);
  no_hashbang = λ e. true≢false (sym e);
  allowed = λ k v. refl;
  some = λ e. true≢false (sym h ∙ ap (λ z. is_word (chars z)) e ∙ ap is_word chars-nil);
}

pub spelled_name : (t : List ℕ) → is_utf8 t ≡ true → is_name (chars t) ≡ true → Spelled Name t
unfolding spelling has_shape is_child is_hashbang_kind last_after allows is_word is_name name_rest
spelled_name t u h = record {
  utf8 = IsUtf8-from_is_utf8 t u;
  same = refl;
  shape = h;
  no_child = λ e. true≢false (sym e);
  no_hashbang = λ e. true≢false (sym e);
  allowed = λ k v. refl;
  some = λ e. true≢false (sym h ∙ ap (λ z. is_name (chars z)) e ∙ ap is_name chars-nil);
}

less_bang_allows : (b : Bool) (m t : List ℕ) → allows (cond b LessBang (Mark m)) t ≡ true
unfolding allows
less_bang_allows true m t = refl
less_bang_allows false m t = refl

pub mark_allows : (k : PreviousToken) (m t : List ℕ) → allows (mark_after k m) t ≡ true
unfolding mark_after allows is_same
mark_allows (Mark l) m t = less_bang_allows _ m t
mark_allows k m t = refl

nothing_is_no_mark : is_punctuator [] ≡ false
unfolding is_punctuator is_among is_same punctuators
nothing_is_no_mark = refl

pub spelled_mark : (t : List ℕ) → is_utf8 t ≡ true → chars t ≡ t → is_punctuator t ≡ true → Spelled Punctuator t
unfolding spelling has_shape is_child is_hashbang_kind last_after
spelled_mark t u e h = record {
  utf8 = IsUtf8-from_is_utf8 t u;
  same = e;
  shape = h;
  no_child = λ e. true≢false (sym e);
  no_hashbang = λ e. true≢false (sym e);
  allowed = λ k v. mark_allows k t v;
  some = λ e. true≢false (sym h ∙ ap is_punctuator e ∙ nothing_is_no_mark);
}

pub spelled_ending : Spelled Ending (codes ";")
unfolding spelling has_shape is_child is_hashbang_kind last_after is_same chars lib.Utf8.encode
spelled_ending = record {
  utf8 = semicolon_utf8;
  same = refl;
  shape = refl;
  no_child = λ e. true≢false (sym e);
  no_hashbang = λ e. true≢false (sym e);
  allowed = λ k v. mark_allows k (codes ";") v;
  some = λ e. cc;
}

pub spelled_close : Spelled Close (codes ">")
unfolding spelling has_shape is_child is_hashbang_kind last_after allows is_same chars is_utf8 lib.Utf8.encode
spelled_close = record {
  utf8 = IsUtf8-from_is_utf8 (codes ">") refl;
  same = refl;
  shape = refl;
  no_child = λ e. true≢false (sym e);
  no_hashbang = λ e. true≢false (sym e);
  allowed = λ k v. refl;
  some = λ e. cc;
}

-- the last token after one of a kind
abbrev pub after : Kind → List ℕ → State → PreviousToken
after kind t s = last_after s.last kind (spelling kind t)

-- a token by one call, where nothing is held back
own_here : Kind → Option Span → List ℕ → State → State
own_here kind span t s = record s { sheet = written span t s.sheet; last = after kind t s }

-- a token by one call, after a semicolon that is held back
unfoldable pub own_put : Kind → Option Span → List ℕ → State → State
own_put kind span t s = record s { sheet = written span t (settled s.sheet); last = after kind t s }

-- a punctuator by one call
unfoldable pub punct_put : Option Span → List ℕ → State → State
punct_put span t s = record s { sheet = written span t (before_punct t s.sheet); last = after Punctuator t s }

-- a semicolon that ends a statement, by one call
unfoldable pub semi_put : Option Span → State → State
semi_put span s = record s { sheet = semicolon_by s.sheet.semicolons span s.sheet; last = after Ending (codes ";") s }

pub free_last : (k : PreviousToken) (kind : Kind) (t : List ℕ) → is_free k ≡ true → last_after k kind t ≡ last_after Separated kind t
unfolding is_free
free_last Start kind t e = sym (same_after kind t)
free_last Separated kind t e = refl
free_last k kind t e = absurd (true≢false (sym e))

-- a token, which may stand after what is there
pub own_fits : (kind : Kind) (t : List ℕ) (k : PreviousToken) (more : List parts.Part) → Spelled kind t → fuses k (chars t) ≡ false → ((u : List ℕ) → allows k u ≡ true) → NoneFuse (last_after k kind (spelling kind t)) more → NoneFuse k (Own kind (spelling kind t) ∷ more)
unfolding NoneFuse
own_fits kind t k more p f a n = (p.shape, ap (λ z. fuses k z) (sym p.same) ∙ f, record { child = λ e. absurd (p.no_child e); first = λ e. absurd (p.no_hashbang e) }, a (spelling kind t), n)

pub own_apart : (b : Bool) (kind : Kind) (t : List ℕ) (s : State) (more : List parts.Part) → s.sheet.at_line_start ≡ b → holds_one s.sheet.semicolons ≡ false → Spelled kind t → fuses s.last (chars t) ≡ false → AtRest s → NoneFuse (last_after s.last kind (spelling kind t)) more → NoneFuse s.last (Gap (blanks (front_of b s.sheet)) ∷ Own kind (spelling kind t) ∷ more)
own_apart true kind t s more e o p f r n =
    let u = repeat s.sheet.indentation s.sheet.indent_text in
    after_indent s.last u (Own kind (spelling kind t) ∷ more) (indent_repeat s.sheet.indentation s.sheet.indent_text r.indent_text) (r.free o e) r.allowed
    (own_fits kind t Separated more p (apart_alone (chars t)) apart_open (subst (λ k. NoneFuse k more) (free_last s.last kind (spelling kind t) (r.free o e)) n))
own_apart false kind t s more e o p f r n = in_a_line s.last (Own kind (spelling kind t) ∷ more) r.allowed (own_fits kind t s.last more p f r.allowed n)

-- a text after the indentation of its line
pub laid_text : (u t : List ℕ) (kind : Kind) → all_indent u ≡ true → Spelled kind t → chars (u ++ t) ≡ parts.text_of (Gap (blanks u) ∷ Own kind (spelling kind t) ∷ [])
unfolding parts.text_of
laid_text u t kind h p =
    chars-append u t (indent_utf8 u h)
    ∙ ap (λ z. z ++ chars t) (indent_chars _ h ∙ sym (blanks_text u))
    ∙ ap (λ z. pieces_text (blanks u) ++ z) (p.same ∙ sym (append-nil (spelling kind t)))

lays_here : (kind : Kind) (span : Option Span) (t : List ℕ) (s : State) → Spelled kind t → fuses s.last (chars t) ≡ false → holds_one s.sheet.semicolons ≡ false → AtRest s → Lays (token_of kind (spelling kind t) ∷ []) s (own_here kind span t s)
unfolding own_here tokens_of remarks_in
lays_here kind span [] s p f o r = absurd (p.some refl)
lays_here kind span (c ∷ cs) s p f o r =
    let h = front_indent s.sheet r.indent_text in
    let parts_here : List parts.Part = Gap (blanks (front s.sheet)) ∷ Own kind (spelling kind (c ∷ cs)) ∷ [] in
    record {
      out = parts_here;
      laid = parts_here;
      bytes = front s.sheet ++ c ∷ cs;
      text = written_text span c cs s.sheet r.flowing;
      utf8 = IsUtf8-append (front s.sheet) (c ∷ cs) (indent_utf8 _ h) p.utf8;
      spells = laid_text (front s.sheet) (c ∷ cs) kind h p;
      tokens = refl;
      remarks = append-nil (remarks_of (blanks (front s.sheet))) ∙ blanks_remarks _;
      apart = λ e more n. own_apart s.sheet.at_line_start kind (c ∷ cs) s more refl o p f r n;
      reduces = λ more ys d. laid_out s (own_here kind span (c ∷ cs) s) parts_here more ys o (still_none span (c ∷ cs) s.sheet o) d;
      holds = still_holds span (c ∷ cs) s.sheet;
      whole = λ e. refl;
      cuts = cuts_whole parts_here (front s.sheet ++ c ∷ cs) s.sheet (written span (c ∷ cs) s.sheet) refl (IsUtf8-append (front s.sheet) (c ∷ cs) (indent_utf8 _ h) p.utf8) (laid_text (front s.sheet) (c ∷ cs) kind h p) (written_grows span c cs s.sheet);
      rest = at_text span c cs s (after kind (c ∷ cs) s) (p.allowed s.last) r.indent_text r.line_end r.flowing;
      fits = λ e. fits_text (front s.sheet) kind (spelling kind (c ∷ cs)) h;
    }

lays_own : (kind : Kind) (span : Option Span) (t : List ℕ) (s : State) → Spelled kind t → fuses s.last (chars t) ≡ false → AtRest s → Lays (token_of kind (spelling kind t) ∷ []) s (own_put kind span t s)
unfolding own_put own_here
lays_own kind span t s p f r = lays_settled s _ _ r (lays_here kind span t (settle s) p f (settled_none s.sheet) (settle_rest s r))

-- behind `[no LineTerminator here]`
lays_joint_here : (kind : Kind) (span : Option Span) (t : List ℕ) (s : State) → Spelled kind t → fuses s.last (chars t) ≡ false → holds_one s.sheet.semicolons ≡ false → AtRest s → LaysAt joined (lexical.same_line ∷ token_of kind (spelling kind t) ∷ []) s (own_here kind span t s)
lays_joint_here kind span t s p f o r = (lays_then (lexical.same_line ∷ []) (token_of kind (spelling kind t) ∷ []) s s (own_here kind span t s) (lays_joint s o r) (lays_here kind span t s p f o r))

-- ---- a punctuator before which a semicolon that is held back isn't needed

-- it is lost: `}` stands where it would
drops_reduces : (x : Semicolons) {span : Option Span} {allowed : Bool} → HoldsOne span allowed ≡ x → (u t : List ℕ) (xs ys : List parts.Part) (s : Sheet) → u ≡ front s → IsEnding (Own Punctuator t ∷ xs) → Reduced xs ys → Reduced (held_of (holds_one x) (keeps_break x) s ++ Own Punctuator t ∷ xs) (Gap (blanks u) ∷ Own Punctuator t ∷ ys)
unfolding holds_one keeps_break Reduced semicolon_gap begins_break
drops_reduces x {allowed = kept} e u t xs ys s f n r =
    let rest : Reduced (Own Punctuator t ∷ xs) (Own Punctuator t ∷ ys) = inl (ys, refl, r) in
    subst (λ z. Reduced (held_of (holds_one z) (keeps_break z) s ++ Own Punctuator t ∷ xs) (Gap (blanks u) ∷ Own Punctuator t ∷ ys)) e
    (subst (λ z. Reduced (semicolon_gap kept z ++ Own Punctuator t ∷ xs) (Gap (blanks u) ∷ Own Punctuator t ∷ ys)) f
    (inl (Own Punctuator t ∷ ys, refl, inr (inl (refl, ending_past kept (Own Punctuator t ∷ xs) n, refl, past_break kept (Own Punctuator t ∷ xs) (Own Punctuator t ∷ ys) rest)))))

ending_chars : (c : ℕ) → ((c == 125) || (c == 59)) ≡ true → (begins (codes "}") (c ∷ []) || begins (codes ";") (c ∷ [])) ≡ true
unfolding begins
ending_chars c h = elim (or_cases (c == 125) (c == 59) h) [
  | inl x ↦ subst (λ z. (begins (codes "}") (z ∷ []) || begins (codes ";") (z ∷ [])) ≡ true) (sym (eqb-true c 125 x)) refl
  | inr x ↦ subst (λ z. (begins (codes "}") (z ∷ []) || begins (codes ";") (z ∷ [])) ≡ true) (sym (eqb-true c 59 x)) refl
]

ending_begins : (t : List ℕ) (xs : List parts.Part) → is_ending t ≡ true → IsEnding (Own Punctuator t ∷ xs)
unfolding is_ending IsEnding begins
ending_begins [] xs h = absurd (true≢false (sym h))
ending_begins (c ∷ []) xs h = ending_chars c h
ending_begins (c ∷ d ∷ cs) xs h = absurd (true≢false (sym h))

lost_here : (held_span span : Option Span) (kept : Bool) (t : List ℕ) (s : State) → HoldsOne held_span kept ≡ s.sheet.semicolons → is_ending t ≡ true → Spelled Punctuator t → fuses s.last (chars t) ≡ false → AtRest s → Lays (token_of Punctuator (spelling Punctuator t) ∷ []) s (own_here Punctuator span t (record s { sheet = record s.sheet { semicolons = HoldsNone } }))
unfolding own_here tokens_of remarks_in spelling holds_one
lost_here held_span span kept [] s e i p f r = absurd (p.some refl)
lost_here held_span span kept (c ∷ cs) s e i p f r =
    let there : Sheet = record s.sheet { semicolons = HoldsNone } in
    let h = front_indent there r.indent_text in
    let q : holds_one (written span (c ∷ cs) there).semicolons ≡ false = still_none span (c ∷ cs) there refl in
    record {
      out = Own Punctuator (c ∷ cs) ∷ [];
      laid = Gap (blanks (front there)) ∷ Own Punctuator (c ∷ cs) ∷ [];
      bytes = front there ++ c ∷ cs;
      text = written_text span c cs there r.flowing;
      utf8 = IsUtf8-append (front there) (c ∷ cs) (indent_utf8 _ h) p.utf8;
      spells = laid_text (front there) (c ∷ cs) Punctuator h p;
      tokens = refl;
      remarks = append-nil (remarks_of (blanks (front there))) ∙ blanks_remarks _;
      apart = λ e more n. own_fits Punctuator (c ∷ cs) s.last more p f r.allowed n;
      reduces = λ more ys d. drops_reduces s.sheet.semicolons e (front there) (c ∷ cs) more ys s.sheet refl (ending_begins (c ∷ cs) more i) (subst (λ z. Reduced (held_of z (keeps_break (written span (c ∷ cs) there).semicolons) (written span (c ∷ cs) there) ++ more) ys) q d);
      holds = still_holds span (c ∷ cs) there ∙ ap holds_semicolons e;
      whole = λ w. absurd (true≢false (ap holds_semicolons e ∙ w));
      cuts = cuts_whole (Gap (blanks (front there)) ∷ Own Punctuator (c ∷ cs) ∷ []) (front there ++ c ∷ cs) s.sheet (written span (c ∷ cs) there) refl (IsUtf8-append (front there) (c ∷ cs) (indent_utf8 _ h) p.utf8) (laid_text (front there) (c ∷ cs) Punctuator h p) (written_grows span c cs there);
      rest = at_text span c cs (record s { sheet = there }) (after Punctuator (c ∷ cs) s) (p.allowed s.last) r.indent_text r.line_end r.flowing;
      fits = λ e. fits_own Punctuator (c ∷ cs);
    }

lost : (x : Semicolons) (span : Option Span) (t : List ℕ) (s : State) → x ≡ s.sheet.semicolons → is_ending t ≡ true → Spelled Punctuator t → fuses s.last (chars t) ≡ false → AtRest s → Lays (token_of Punctuator (spelling Punctuator t) ∷ []) s (own_here Punctuator span t (record s { sheet = record s.sheet { semicolons = dropped x } }))
unfolding dropped
lost AtOnce span t s e i p f r = subst (λ z. Lays (token_of Punctuator (spelling Punctuator t) ∷ []) s (own_here Punctuator span t (record s { sheet = record s.sheet { semicolons = z } }))) (sym e) (lays_here Punctuator span t s p f (unfold holds_one in ap holds_one (sym e)) r)
lost HoldsNone span t s e i p f r = subst (λ z. Lays (token_of Punctuator (spelling Punctuator t) ∷ []) s (own_here Punctuator span t (record s { sheet = record s.sheet { semicolons = z } }))) (sym e) (lays_here Punctuator span t s p f (unfold holds_one in ap holds_one (sym e)) r)
lost (HoldsOne held_span kept) span t s e i p f r = lost_here held_span span kept t s e i p f r

punct_case : (b : Bool) (span : Option Span) (t : List ℕ) (s : State) → is_ending t ≡ b → Spelled Punctuator t → fuses s.last (chars t) ≡ false → AtRest s → Lays (token_of Punctuator (spelling Punctuator t) ∷ []) s (own_here Punctuator span t (record s { sheet = cond b (record s.sheet { semicolons = dropped s.sheet.semicolons }) (settled s.sheet) }))
unfolding own_here
punct_case true span t s e p f r = lost s.sheet.semicolons span t s refl e p f r
punct_case false span t s e p f r = lays_settled s _ _ r (lays_here Punctuator span t (settle s) p f (settled_none s.sheet) (settle_rest s r))

lays_punct_own : (span : Option Span) (t : List ℕ) (s : State) → Spelled Punctuator t → fuses s.last (chars t) ≡ false → AtRest s → Lays (token_of Punctuator (spelling Punctuator t) ∷ []) s (punct_put span t s)
unfolding punct_put before_punct own_here
lays_punct_own span t s p f r = punct_case (is_ending t) span t s refl p f r

-- ---- a semicolon that ends a statement

at_hold : (span : Option Span) (s : State) → AtRest s → AtRest (record s { sheet = record s.sheet { semicolons = HoldsOne span false }; last = after Ending (codes ";") s })
unfolding holds_one
at_hold span s r = record { indent_text = r.indent_text; line_end = r.line_end; flowing = r.flowing; free = λ o e. absurd (true≢false o); allowed = spelled_ending.allowed s.last }

-- it is held back
holds_back : (span : Option Span) (s : State) → holds_one s.sheet.semicolons ≡ false → holds_semicolons s.sheet.semicolons ≡ true → fuses s.last (chars (codes ";")) ≡ false → AtRest s → Lays (token_of Ending (spelling Ending (codes ";")) ∷ []) s (record s { sheet = record s.sheet { semicolons = HoldsOne span false }; last = after Ending (codes ";") s })
unfolding parts.text_of tokens_of remarks_in holds_one keeps_break spelling
holds_back span s o h f r = record {
  out = Gap (blanks (front s.sheet)) ∷ Own Ending (codes ";") ∷ [];
  fits = λ e. fits_text (front s.sheet) Ending (codes ";") (front_indent s.sheet r.indent_text);
  laid = [];
  bytes = [];
  text = sym (append-nil s.sheet.text);
  utf8 = IsUtf8-nil;
  spells = chars-nil;
  tokens = refl;
  remarks = refl;
  apart = λ e more n. own_apart s.sheet.at_line_start Ending (codes ";") s more refl o spelled_ending f r n;
  reduces = λ more ys d. subst (λ z. Reduced (held_of z (keeps_break s.sheet.semicolons) s.sheet ++ (Gap (blanks (front s.sheet)) ∷ Own Ending (codes ";") ∷ more)) ys) (sym o) d;
  holds = sym h;
  whole = λ w. absurd (true≢false (sym h ∙ w));
  cuts = cuts_same s.sheet (record s.sheet { semicolons = HoldsOne span false }) refl;
  rest = at_hold span s r;
}

-- one that was held is lost: a semicolon stands where it would
semicolon_ends : (more : List parts.Part) → IsEnding (Own Ending (codes ";") ∷ more)
unfolding IsEnding begins
semicolon_ends more = refl

replaces : (kept : Bool) (u : List ℕ) (more ys : List parts.Part) → Reduced (semicolon_gap false u ++ more) ys → Reduced (semicolon_gap kept u ++ (Own Ending (codes ";") ∷ more)) ys
unfolding semicolon_gap Reduced
replaces kept u more ys (inl k) =
    let next : List parts.Part = Own Ending (codes ";") ∷ more in
    inl (k.0, k.1, inr (inl (refl, ending_past kept next (semicolon_ends more), own_first Ending (codes ";") more k.0 k.2, past_break kept next k.0 k.2)))
replaces kept u more ys (inr (inl k)) = absurd (cc k.0)
replaces kept u more ys (inr (inr k)) = absurd (cc k.0)

replaces_reduces : (x : Semicolons) {span : Option Span} {allowed : Bool} → HoldsOne span allowed ≡ x → (u : List ℕ) (more ys : List parts.Part) (s : Sheet) → u ≡ front s → Reduced (semicolon_gap false u ++ more) ys → Reduced (held_of (holds_one x) (keeps_break x) s ++ (Own Ending (codes ";") ∷ more)) ys
unfolding holds_one keeps_break semicolon_gap
replaces_reduces x {allowed = kept} e u more ys s f r =
    subst (λ z. Reduced (held_of (holds_one z) (keeps_break z) s ++ (Own Ending (codes ";") ∷ more)) ys) e
    (subst (λ z. Reduced (semicolon_gap kept z ++ (Own Ending (codes ";") ∷ more)) ys) f (replaces kept u more ys r))

holds_another : (held_span span : Option Span) (kept : Bool) (s : State) → HoldsOne held_span kept ≡ s.sheet.semicolons → fuses s.last (chars (codes ";")) ≡ false → AtRest s → Lays (token_of Ending (spelling Ending (codes ";")) ∷ []) s (record s { sheet = record s.sheet { semicolons = HoldsOne span false }; last = after Ending (codes ";") s })
unfolding parts.text_of tokens_of remarks_in holds_one keeps_break spelling semicolon_gap
holds_another held_span span kept s e f r = record {
  out = Own Ending (codes ";") ∷ [];
  fits = λ e. fits_own Ending (codes ";");
  laid = [];
  bytes = [];
  text = sym (append-nil s.sheet.text);
  utf8 = IsUtf8-nil;
  spells = chars-nil;
  tokens = refl;
  remarks = refl;
  apart = λ e more n. own_fits Ending (codes ";") s.last more spelled_ending f r.allowed n;
  reduces = λ more ys d. replaces_reduces s.sheet.semicolons e (front s.sheet) more ys s.sheet refl d;
  holds = ap holds_semicolons e;
  whole = λ w. absurd (true≢false (ap holds_semicolons e ∙ w));
  cuts = cuts_same s.sheet (record s.sheet { semicolons = HoldsOne span false }) refl;
  rest = at_hold span s r;
}

semi_case : (x : Semicolons) (span : Option Span) (s : State) → x ≡ s.sheet.semicolons → fuses s.last (chars (codes ";")) ≡ false → AtRest s → Lays (token_of Ending (spelling Ending (codes ";")) ∷ []) s (record s { sheet = semicolon_by x span s.sheet; last = after Ending (codes ";") s })
unfolding semicolon_by holds_one own_here
semi_case AtOnce span s e f r = lays_here Ending span (codes ";") s spelled_ending f (ap holds_one (sym e)) r
semi_case HoldsNone span s e f r = holds_back span s (ap holds_one (sym e)) (ap holds_semicolons (sym e)) f r
semi_case (HoldsOne held_span kept) span s e f r = holds_another held_span span kept s e f r

lays_semi_own : (span : Option Span) (s : State) → fuses s.last (chars (codes ";")) ≡ false → AtRest s → Lays (token_of Ending (spelling Ending (codes ";")) ∷ []) s (semi_put span s)
unfolding semi_put
lays_semi_own span s f r = semi_case s.sheet.semicolons span s refl f r

-- the blank that is due before a text
guard_put : Bool → State → State
guard_put b s = cond b (record s { sheet = effect Space s.sheet; last = Separated }) s

guard_case : (b : Bool) (s : State) → AtRest s → LaysAt open_ [] s (guard_put b s)
unfolding guard_put
guard_case true s r = lays_blank s r
guard_case false s r = lays_nothing s r

pub lays_guard : (t : List ℕ) (s : State) → AtRest s → LaysAt open_ [] s (put (Guard t) s)
unfolding put guard_put
lays_guard t s r = guard_case (fuses s.last (chars t)) s r

passed_case : (b : Bool) (t : List ℕ) (s : State) → fuses s.last (chars t) ≡ b → fuses (guard_put b s).last (chars t) ≡ false
unfolding guard_put
passed_case true t s e = apart_alone (chars t)
passed_case false t s e = e

pub after_guard : (t : List ℕ) (s : State) → fuses (put (Guard t) s).last (chars t) ≡ false
unfolding put guard_put
after_guard t s = passed_case (fuses s.last (chars t)) t s refl

-- the same behind `[no LineTerminator here]`
lays_joint_own : (kind : Kind) (span : Option Span) (t : List ℕ) (s : State) → Spelled kind t → fuses s.last (chars t) ≡ false → AtRest s → LaysAt joined (lexical.same_line ∷ token_of kind (spelling kind t) ∷ []) s (own_put kind span t s)
unfolding own_put own_here
lays_joint_own kind span t s p f r = lays_settled s _ _ r (lays_joint_here kind span t (settle s) p f (settled_none s.sheet) (settle_rest s r))

joint_case : (b : Bool) (span : Option Span) (t : List ℕ) (s : State) → b ≡ false → Spelled Punctuator t → fuses s.last (chars t) ≡ false → AtRest s → LaysAt joined (lexical.same_line ∷ token_of Punctuator (spelling Punctuator t) ∷ []) s (own_here Punctuator span t (record s { sheet = cond b (record s.sheet { semicolons = dropped s.sheet.semicolons }) (settled s.sheet) }))
unfolding own_here
joint_case true span t s e p f r = absurd (true≢false e)
joint_case false span t s e p f r = lays_settled s _ _ r (lays_joint_here Punctuator span t (settle s) p f (settled_none s.sheet) (settle_rest s r))

lays_joint_mark : (span : Option Span) (t : List ℕ) (s : State) → is_ending t ≡ false → Spelled Punctuator t → fuses s.last (chars t) ≡ false → AtRest s → LaysAt joined (lexical.same_line ∷ token_of Punctuator (spelling Punctuator t) ∷ []) s (punct_put span t s)
unfolding punct_put before_punct own_here
lays_joint_mark span t s e p f r = joint_case (is_ending t) span t s e p f r

pub lays_joint_token : (kind : Kind) (span : Option Span) (t : List ℕ) (s : State) → Spelled kind t → AtRest s → LaysAt joined (lexical.same_line ∷ token_of kind (spelling kind t) ∷ []) s (own_put kind span t (put (Guard t) s))
lays_joint_token kind span t s p r =
    let g = lays_guard t s r in
    lays_then [] (lexical.same_line ∷ token_of kind (spelling kind t) ∷ []) s (put (Guard t) s) (own_put kind span t (put (Guard t) s)) g (lays_joint_own kind span t (put (Guard t) s) p (after_guard t s) g.rest)

pub lays_joint_punct : (span : Option Span) (t : List ℕ) (s : State) → is_ending t ≡ false → Spelled Punctuator t → AtRest s → LaysAt joined (lexical.same_line ∷ token_of Punctuator (spelling Punctuator t) ∷ []) s (punct_put span t (put (Guard t) s))
lays_joint_punct span t s e p r =
    let g = lays_guard t s r in
    lays_then [] (lexical.same_line ∷ token_of Punctuator (spelling Punctuator t) ∷ []) s (put (Guard t) s) (punct_put span t (put (Guard t) s)) g (lays_joint_mark span t (put (Guard t) s) e p (after_guard t s) g.rest)

-- a token by one call, with that blank
pub lays_token : (kind : Kind) (span : Option Span) (t : List ℕ) (s : State) → Spelled kind t → AtRest s → Lays (token_of kind (spelling kind t) ∷ []) s (own_put kind span t (put (Guard t) s))
lays_token kind span t s p r =
    let g = lays_guard t s r in
    lays_then [] (token_of kind (spelling kind t) ∷ []) s (put (Guard t) s) (own_put kind span t (put (Guard t) s)) g (lays_own kind span t (put (Guard t) s) p (after_guard t s) g.rest)

pub lays_punct : (span : Option Span) (t : List ℕ) (s : State) → Spelled Punctuator t → AtRest s → Lays (token_of Punctuator (spelling Punctuator t) ∷ []) s (punct_put span t (put (Guard t) s))
lays_punct span t s p r =
    let g = lays_guard t s r in
    lays_then [] (token_of Punctuator (spelling Punctuator t) ∷ []) s (put (Guard t) s) (punct_put span t (put (Guard t) s)) g (lays_punct_own span t (put (Guard t) s) p (after_guard t s) g.rest)

pub lays_semi : (span : Option Span) (s : State) → AtRest s → Lays (token_of Ending (spelling Ending (codes ";")) ∷ []) s (semi_put span (put (Guard (codes ";")) s))
lays_semi span s r =
    let g = lays_guard (codes ";") s r in
    lays_then [] (token_of Ending (spelling Ending (codes ";")) ∷ []) s (put (Guard (codes ";")) s) (semi_put span (put (Guard (codes ";")) s)) g (lays_semi_own span (put (Guard (codes ";")) s) (after_guard (codes ";") s) g.rest)

-- a token, and `[no LineTerminator here]`
pub own_none : (kind : Kind) (span : Option Span) (t : List ℕ) (s : State) → holds_one (own_put kind span t s).sheet.semicolons ≡ false
unfolding own_put
own_none kind span t s = still_none span t (settled s.sheet) (settled_none s.sheet)

pub lays_token_joint : (kind : Kind) (span : Option Span) (t : List ℕ) (s : State) → Spelled kind t → AtRest s → LaysAt (join whole joining) (token_of kind (spelling kind t) ∷ lexical.same_line ∷ []) s (own_put kind span t (put (Guard t) s))
lays_token_joint kind span t s p r =
    let l = lays_token kind span t s p r in
    let there : State = own_put kind span t (put (Guard t) s) in
    lays_then (token_of kind (spelling kind t) ∷ []) (lexical.same_line ∷ []) s there there l (lays_joint there (own_none kind span t (put (Guard t) s)) l.rest)

-- a token by one call, with that blank and a position after it
pub lays_placed : (pos : BytePos) (kind : Kind) (span : Option Span) (t : List ℕ) (s : State) → Spelled kind t → AtRest s → Lays (token_of kind (spelling kind t) ∷ []) s (own_put kind span t (record (put (Guard t) s) { sheet = pointed pos (put (Guard t) s).sheet }))
lays_placed pos kind span t s p r =
    let there : State = put (Guard t) s in
    let noted : State = record there { sheet = pointed pos there.sheet } in
    let g = lays_guard t s r in
    let q = lays_position pos there g.rest in
    lays_then [] (token_of kind (spelling kind t) ∷ []) s there (own_put kind span t noted) g
    (lays_then [] (token_of kind (spelling kind t) ∷ []) there noted (own_put kind span t noted) q (lays_own kind span t noted p (after_guard t s) q.rest))
