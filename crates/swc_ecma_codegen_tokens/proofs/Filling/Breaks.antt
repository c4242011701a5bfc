-- Allowed breaks: behind a token that was written, or kept with a semicolon that is held back.
use Rattle.std.proofs.Common.{◌≡◌, ℕ, Bool, true, false, List, [], ◌∷◌, ◌++◌, Option, codes, refl, sym, ap, ◌∙◌, subst, append-nil}
use Rattle.std.proofs.lemmas.Bool.{true≢false}
use Rattle.std.proofs.lemmas.Str.{chars-nil, IsUtf8-nil}
use Rattle.swc_ecma_codegen_common.specs.declared.positions.Span.{Span}
use Rattle.swc_ecma_codegen_grammar.specs.declared.kinds.Kind.TheVariants.{Word, Punctuator, Ending}
use Rattle.swc_ecma_codegen_grammar.specs.GapRules.{last_after}
use Rattle.swc_ecma_codegen_grammar.specs.LineEnds.{may_end}
use Rattle.swc_ecma_codegen_grammar.specs.Parts as parts
use Rattle.swc_ecma_codegen_grammar.specs.Parts.{Break, Reduced, tokens_of, remarks_in}
use Rattle.swc_ecma_codegen_grammar.specs.Texts.{is_same}
use Rattle.swc_ecma_codegen_grammar.specs.Tokens.{token_of}
use Rattle.swc_ecma_codegen_grammar.proofs.LineEnds.{may_break, mark_may_end}
use Rattle.swc_ecma_codegen_text_writer.specs.Sheet.{Semicolons, AtOnce, HoldsNone, HoldsOne, holds_semicolons, AllowBreak, allowed, allowed_at, passed_on, effect}
use Rattle.swc_ecma_codegen_text_writer.proofs.Flows.{allowed_out}
use Rattle.swc_ecma_codegen_text_writer.proofs.Stays.{passed_stays}
use Rattle.swc_ecma_codegen_tokens.specs.Run.{State, Guard, Plain, put, after_plain, spelling}
use Rattle.swc_ecma_codegen_tokens.specs.Written.{IsLineEnd, all_indent, holds_one, keeps_break, AtRest}
use Rattle.swc_ecma_codegen_tokens.proofs.Filling.Cuts.{cuts_break, cuts_same}
use Rattle.swc_ecma_codegen_tokens.proofs.Reading.Laid.{held_of, LaysAt, lays_then, laid_out}
use Rattle.swc_ecma_codegen_tokens.proofs.Filling.Shapes.{loose, ended, fits_break, fits_nothing, fits_wider}
use Rattle.swc_ecma_codegen_tokens.proofs.Reading.TokenLays.{Spelled, own_put, punct_put, semi_put, lays_token, lays_punct, lays_semi}

-- where no semicolon is held back
allowed_here : (s : State) → holds_one s.sheet.semicolons ≡ false → AtRest s → may_end s.last ≡ true → LaysAt loose [] s (record s { sheet = allowed s.sheet })
unfolding parts.text_of tokens_of remarks_in passed_on
allowed_here s o r m =
    let there : State = record s { sheet = allowed s.sheet } in
    let none : holds_one there.sheet.semicolons ≡ holds_one s.sheet.semicolons = allowed_out (λ z. holds_one z.semicolons) (λ z l. refl) s.sheet r.flowing in
    record {
      out = Break ∷ [];
      laid = Break ∷ [];
      bytes = [];
      text = allowed_out (λ z. z.text) (λ z l. refl) s.sheet r.flowing ∙ sym (append-nil s.sheet.text);
      utf8 = IsUtf8-nil;
      spells = chars-nil;
      tokens = refl;
      remarks = refl;
      apart = λ e more n. may_break s.last more m n;
      reduces = λ more ys d. laid_out s there (Break ∷ []) more ys o (none ∙ o) d;
      holds = allowed_out (λ z. holds_semicolons z.semicolons) (λ z l. refl) s.sheet r.flowing;
      whole = λ e. refl;
      cuts = cuts_break s.sheet;
      rest = record {
        indent_text = ap all_indent (allowed_out (λ z. z.indent_text) (λ z l. refl) s.sheet r.flowing) ∙ r.indent_text;
        line_end = subst IsLineEnd (sym (allowed_out (λ z. z.line_end) (λ z l. refl) s.sheet r.flowing)) r.line_end;
        flowing = (passed_stays true s.sheet).fills ∙ r.flowing;
        free = λ h e. r.free (sym none ∙ h) (sym (allowed_out (λ z. z.at_line_start) (λ z l. refl) s.sheet r.flowing) ∙ e);
        allowed = r.allowed;
      };
      fits = λ e. fits_break;
    }

-- kept with one that is; a second one in the same place does nothing
kept_here : (span : Option Span) (kept : Bool) (s : State) → HoldsOne span kept ≡ s.sheet.semicolons → AtRest s → may_end s.last ≡ true → LaysAt loose [] s (record s { sheet = record s.sheet { semicolons = HoldsOne span true } })
unfolding parts.text_of tokens_of remarks_in holds_one keeps_break
kept_here span false s e r m = record {
  out = Break ∷ [];
  laid = [];
  bytes = [];
  text = sym (append-nil s.sheet.text);
  utf8 = IsUtf8-nil;
  spells = chars-nil;
  tokens = refl;
  remarks = refl;
  apart = λ k more n. may_break s.last more m n;
  reduces = λ more ys d. subst (λ z. Reduced (held_of (holds_one z) (keeps_break z) s.sheet ++ Break ∷ more) ys) e d;
  holds = ap holds_semicolons e;
  whole = λ w. absurd (true≢false (ap holds_semicolons e ∙ w));
  cuts = cuts_same s.sheet (record s.sheet { semicolons = HoldsOne span true }) refl;
  rest = record { indent_text = r.indent_text; line_end = r.line_end; flowing = r.flowing; free = λ h k. absurd (true≢false h); allowed = r.allowed };
  fits = λ k. fits_break;
}
kept_here span true s e r m = record {
  out = [];
  laid = [];
  bytes = [];
  text = sym (append-nil s.sheet.text);
  utf8 = IsUtf8-nil;
  spells = chars-nil;
  tokens = refl;
  remarks = refl;
  apart = λ k more n. n;
  reduces = λ more ys d. subst (λ z. Reduced (held_of (holds_one z) (keeps_break z) s.sheet ++ more) ys) e d;
  holds = ap holds_semicolons e;
  whole = λ w. absurd (true≢false (ap holds_semicolons e ∙ w));
  cuts = cuts_same s.sheet (record s.sheet { semicolons = HoldsOne span true }) refl;
  rest = record { indent_text = r.indent_text; line_end = r.line_end; flowing = r.flowing; free = λ h k. absurd (true≢false h); allowed = r.allowed };
  fits = λ k. fits_wider loose refl fits_nothing;
}

break_case : (x : Semicolons) (s : State) → x ≡ s.sheet.semicolons → AtRest s → may_end s.last ≡ true → LaysAt loose [] s (record s { sheet = allowed_at x s.sheet })
unfolding allowed_at holds_one
break_case AtOnce s e r m = allowed_here s (ap holds_one (sym e)) r m
break_case HoldsNone s e r m = allowed_here s (ap holds_one (sym e)) r m
break_case (HoldsOne span kept) s e r m = kept_here span kept s e r m

-- an allowed break, behind what a line may be ended behind
pub lays_break : (s : State) → AtRest s → may_end s.last ≡ true → LaysAt loose [] s (put (Plain AllowBreak) s)
unfolding put effect after_plain
lays_break s r m = break_case s.sheet.semicolons s refl r m

-- ---- right behind a token

word_may_end : (s : State) (t : List ℕ) → may_end (last_after s.last Word t) ≡ true
unfolding last_after may_end
word_may_end s t = refl

-- a word: `a in` LF `b`
pub lays_word_break : (span : Option Span) (t : List ℕ) (s : State) → Spelled Word t → AtRest s → LaysAt ended (token_of Word (spelling Word t) ∷ []) s (put (Plain AllowBreak) (own_put Word span t (put (Guard t) s)))
unfolding own_put
lays_word_break span t s p r =
    let there : State = own_put Word span t (put (Guard t) s) in
    let l = lays_token Word span t s p r in
    lays_then (token_of Word (spelling Word t) ∷ []) [] s there (put (Plain AllowBreak) there) l (lays_break there l.rest (word_may_end (put (Guard t) s) (spelling Word t)))

mark_last : (s : State) (t : List ℕ) → is_same t (codes "}") ≡ false → may_end (last_after s.last Punctuator t) ≡ true
unfolding last_after
mark_last s t h = mark_may_end s.last t h

-- an operator that is a punctuator: `a+` LF `b`
pub lays_operator_break : (span : Option Span) (t : List ℕ) (s : State) → is_same (spelling Punctuator t) (codes "}") ≡ false → Spelled Punctuator t → AtRest s → LaysAt ended (token_of Punctuator (spelling Punctuator t) ∷ []) s (put (Plain AllowBreak) (own_put Punctuator span t (put (Guard t) s)))
unfolding own_put
lays_operator_break span t s h p r =
    let there : State = own_put Punctuator span t (put (Guard t) s) in
    let l = lays_token Punctuator span t s p r in
    lays_then (token_of Punctuator (spelling Punctuator t) ∷ []) [] s there (put (Plain AllowBreak) there) l (lays_break there l.rest (mark_last (put (Guard t) s) (spelling Punctuator t) h))

-- another one: `(` LF `a,` LF `b)`
pub lays_punct_break : (span : Option Span) (t : List ℕ) (s : State) → is_same (spelling Punctuator t) (codes "}") ≡ false → Spelled Punctuator t → AtRest s → LaysAt ended (token_of Punctuator (spelling Punctuator t) ∷ []) s (put (Plain AllowBreak) (punct_put span t (put (Guard t) s)))
unfolding punct_put
lays_punct_break span t s h p r =
    let there : State = punct_put span t (put (Guard t) s) in
    let l = lays_punct span t s p r in
    lays_then (token_of Punctuator (spelling Punctuator t) ∷ []) [] s there (put (Plain AllowBreak) there) l (lays_break there l.rest (mark_last (put (Guard t) s) (spelling Punctuator t) h))

semi_last : (s : State) → may_end (last_after s.last Ending (codes ";")) ≡ true
unfolding last_after is_same
semi_last s = mark_may_end s.last (codes ";") refl

-- a semicolon that ends a statement, written or held back: `a;` LF `b`
pub lays_semi_break : (span : Option Span) (s : State) → AtRest s → LaysAt ended (token_of Ending (spelling Ending (codes ";")) ∷ []) s (put (Plain AllowBreak) (semi_put span (put (Guard (codes ";")) s)))
unfolding semi_put spelling
lays_semi_break span s r =
    let there : State = semi_put span (put (Guard (codes ";")) s) in
    let l = lays_semi span s r in
    lays_then (token_of Ending (spelling Ending (codes ";")) ∷ []) [] s there (put (Plain AllowBreak) there) l (lays_break there l.rest (semi_last (put (Guard (codes ";")) s)))
