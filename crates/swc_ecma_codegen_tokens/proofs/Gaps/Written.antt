-- What steps write between tokens: blanks, line ends, and semicolons that were held back.
use Rattle.std.proofs.Common.{◌≡◌, ℕ, Bool, true, false, cond, List, [], ◌∷◌, ◌++◌, Option, None, codes, refl, sym, ap, ◌∙◌, subst, append_assoc, append-nil, inl, inr}
use Rattle.std.specs.Str.{chars, is_utf8, IsUtf8}
use Rattle.std.proofs.lemmas.Bool.{true≢false}
use Rattle.std.proofs.lemmas.Str.{chars-nil, chars-append, IsUtf8-nil, IsUtf8-append, IsUtf8-from_is_utf8}
use Rattle.swc_ecma_codegen_grammar.specs.declared.kinds.Kind.TheVariants.{Ending}
use Rattle.swc_ecma_codegen_grammar.specs.Tokens as lexical
use Rattle.swc_ecma_codegen_grammar.specs.Chars.{is_blank}
use Rattle.swc_ecma_codegen_grammar.specs.Trivia.{Remark, Blank, is_piece, piece_text, pieces_text, all_pieces, remarks_of}
use Rattle.swc_ecma_codegen_grammar.specs.GapRules.{PreviousToken, Separated, allows, last_after_gap}
use Rattle.swc_ecma_codegen_grammar.specs.Parts as parts
use Rattle.swc_ecma_codegen_grammar.specs.Parts.{Gap, Own, tokens_of, remarks_in, NoneFuse}
use Rattle.swc_ecma_codegen_grammar.proofs.Reading.{blank_fuses}
use Rattle.swc_ecma_codegen_common.specs.declared.positions.BytePos.{BytePos}
use Rattle.swc_ecma_codegen_common.specs.declared.positions.Span.{Span}
use Rattle.swc_ecma_codegen_grammar.specs.Parts.{Reduced}
use Rattle.swc_ecma_codegen_grammar.proofs.Dropped.{reduced_after}
use Rattle.swc_ecma_codegen_text_writer.proofs.Semicolons.{out_keeps}
use Rattle.swc_ecma_codegen_text_writer.proofs.Flows.{appended_leaves, appended_text, passed_out}
use Rattle.swc_ecma_codegen_text_writer.proofs.Cuts.{grows_same, grows_as, appended_grows, written_grows, pointed_grows}
use Rattle.swc_ecma_codegen_text_writer.specs.Sheet.{Sheet, Semicolons, AtOnce, HoldsNone, HoldsOne, holds_semicolons, Space, Line, appended, written, ended, pointed, settled, settled_by, effect, fills_lines, passed_on}
use Rattle.swc_ecma_codegen_text_writer.proofs.Sheets.{written_same, pointed_alike, alike_same, appended_alike}
use Rattle.swc_ecma_codegen_text_writer.proofs.Stays.{written_stays, pointed_stays, passed_stays, appended_stays}
use Rattle.swc_ecma_codegen_tokens.specs.Run.{State}
use Rattle.swc_ecma_codegen_tokens.specs.Written.{IsLineEnd, is_indent, all_indent, is_free, holds_one, keeps_break, AtRest, RestsAt, Takes, Spot, InName}
use Rattle.swc_ecma_codegen_tokens.proofs.Emission.PendingSemi.{front_of, front, written_text, in_line, written_semicolons, pointed_keeps, settled_none}
use Rattle.swc_ecma_codegen_tokens.proofs.Gaps.AfterBlanks.{free_apart, blank_apart}
use Rattle.swc_ecma_codegen_tokens.proofs.Filling.Shapes.{Shape, open_, loose, fits_wider, fits_nothing, fits_indent, fits_end}
use Rattle.swc_ecma_codegen_tokens.proofs.Gaps.Indented.{indent_append, indent_repeat, indent_utf8, indent_chars, blanks, blanks_text, blanks_remarks}
use Rattle.swc_ecma_codegen_tokens.proofs.Filling.Cuts.{Cuts, cuts_then, cuts_whole, cuts_same, cuts_passed, break_if, break_text, break_remarks}
use Rattle.swc_ecma_codegen_tokens.proofs.Reading.Laid.{held_of, held, Enters, LaysTo, LaysAt, laid_out, lays_same, lays_nothing}

-- ---- texts, and the indentation at a line's start

pub front_indent : (s : Sheet) → all_indent s.indent_text ≡ true → all_indent (front s) ≡ true
unfolding all_indent
front_indent s h = elim s.at_line_start as (λ b. all_indent (front_of b s) ≡ true) [ true ↦ indent_repeat s.indentation s.indent_text h | false ↦ refl ]

pub at_text : (span : Option Span) (c : ℕ) (cs : List ℕ) (s : State) (k : PreviousToken) → ((t : List ℕ) → allows k t ≡ true) → all_indent s.sheet.indent_text ≡ true → IsLineEnd s.sheet.line_end → fills_lines s.sheet.lines ≡ false → AtRest (record s { sheet = written span (c ∷ cs) s.sheet; last = k })
at_text span c cs s k h i l n = record {
  indent_text = subst (λ z. all_indent z ≡ true) (sym (written_same span (c ∷ cs) s.sheet).indent_text) i;
  line_end = subst (λ z. IsLineEnd z) (sym (written_same span (c ∷ cs) s.sheet).line_end) l;
  flowing = (written_stays span (c ∷ cs) s.sheet).fills ∙ n;
  free = λ o e. absurd (true≢false (sym e ∙ in_line span c cs s.sheet));
  allowed = h;
}

-- nothing is held before a text, nor after it
pub still_none : (span : Option Span) (t : List ℕ) (s : Sheet) → holds_one s.semicolons ≡ false → holds_one (written span t s).semicolons ≡ false
still_none span t s h = ap holds_one (written_semicolons span t s) ∙ h

pub still_holds : (span : Option Span) (t : List ℕ) (s : Sheet) → holds_semicolons (written span t s).semicolons ≡ holds_semicolons s.semicolons
still_holds span t s = ap holds_semicolons (written_semicolons span t s)

-- ---- a semicolon that is held back goes out

-- the sheet after one, and after a break that was kept with it
abbrev out : Option Span → Bool → Sheet → Sheet
out span allowed s = passed_on allowed (written span (codes ";") (record s { semicolons = HoldsNone }))

out_fills : (span : Option Span) (s : Sheet) → fills_lines s.lines ≡ false → fills_lines (written span (codes ";") (record s { semicolons = HoldsNone })).lines ≡ false
out_fills span s h = (written_stays span (codes ";") (record s { semicolons = HoldsNone })).fills ∙ h

out_text : (span : Option Span) (allowed : Bool) (s : Sheet) → fills_lines s.lines ≡ false → (out span allowed s).text ≡ s.text ++ (front s ++ codes ";")
out_text span allowed s h = passed_out (λ z. z.text) (λ z l. refl) allowed _ (out_fills span s h) ∙ written_text span 59 [] (record s { semicolons = HoldsNone }) h

out_in_line : (span : Option Span) (allowed : Bool) (s : Sheet) → fills_lines s.lines ≡ false → (out span allowed s).at_line_start ≡ false
out_in_line span allowed s h = passed_out (λ z. z.at_line_start) (λ z l. refl) allowed _ (out_fills span s h) ∙ in_line span 59 [] (record s { semicolons = HoldsNone })

out_indent : (span : Option Span) (allowed : Bool) (s : Sheet) → fills_lines s.lines ≡ false → (out span allowed s).indent_text ≡ s.indent_text
out_indent span allowed s h = passed_out (λ z. z.indent_text) (λ z l. refl) allowed _ (out_fills span s h) ∙ (written_same span (codes ";") (record s { semicolons = HoldsNone })).indent_text

out_line_end : (span : Option Span) (allowed : Bool) (s : Sheet) → fills_lines s.lines ≡ false → (out span allowed s).line_end ≡ s.line_end
out_line_end span allowed s h = passed_out (λ z. z.line_end) (λ z l. refl) allowed _ (out_fills span s h) ∙ (written_same span (codes ";") (record s { semicolons = HoldsNone })).line_end

out_flows : (span : Option Span) (allowed : Bool) (s : Sheet) → fills_lines s.lines ≡ false → fills_lines (out span allowed s).lines ≡ false
out_flows span allowed s h = (passed_stays allowed _).fills ∙ out_fills span s h

abbrev pub settle : State → State
settle s = record s { sheet = settled s.sheet }

settle_by : Semicolons → State → State
settle_by x s = record s { sheet = settled_by x s.sheet }

settled_at : (x : Semicolons) (s : State) → x ≡ s.sheet.semicolons → AtRest s → AtRest (settle_by x s)
unfolding settled_by settle_by
settled_at AtOnce s e r = r
settled_at HoldsNone s e r = r
settled_at (HoldsOne span allowed) s e r = record {
  indent_text = subst (λ z. all_indent z ≡ true) (sym (out_indent span allowed s.sheet r.flowing)) r.indent_text;
  line_end = subst (λ z. IsLineEnd z) (sym (out_line_end span allowed s.sheet r.flowing)) r.line_end;
  flowing = out_flows span allowed s.sheet r.flowing;
  free = λ o e. absurd (true≢false (sym e ∙ out_in_line span allowed s.sheet r.flowing));
  allowed = r.allowed;
}

pub settle_rest : (s : State) → AtRest s → AtRest (settle s)
unfolding settle_by
settle_rest s r = settled_at s.sheet.semicolons s refl r

named_at : (x : Semicolons) (s : State) → x ≡ s.sheet.semicolons → RestsAt InName s → RestsAt InName (settle_by x s)
unfolding settled_by settle_by
named_at AtOnce s e r = r
named_at HoldsNone s e r = r
named_at (HoldsOne span allowed) s e r = record {
  indent_text = subst (λ z. all_indent z ≡ true) (sym (out_indent span allowed s.sheet r.flowing)) r.indent_text;
  line_end = subst (λ z. IsLineEnd z) (sym (out_line_end span allowed s.sheet r.flowing)) r.line_end;
  flowing = out_flows span allowed s.sheet r.flowing;
  free = λ o e. absurd (true≢false (sym e ∙ out_in_line span allowed s.sheet r.flowing));
  allowed = r.allowed;
}

-- the same behind a name in a tag
pub settle_named : (s : State) → RestsAt InName s → RestsAt InName (settle s)
unfolding settle_by
settle_named s r = named_at s.sheet.semicolons s refl r

-- it, and the break that was kept with it
unfoldable pub semicolon_gap : Bool → List ℕ → List parts.Part
semicolon_gap kept u = Gap (blanks u) ∷ Own Ending (codes ";") ∷ break_if kept

semicolon_chars : chars (codes ";") ≡ codes ";"
unfolding chars lib.Utf8.encode
semicolon_chars = refl

pub semicolon_utf8 : IsUtf8 (codes ";")
unfolding chars is_utf8 lib.Utf8.encode
semicolon_utf8 = IsUtf8-from_is_utf8 (codes ";") refl

settles_spells : (kept : Bool) (u bytes : List ℕ) (laid : List parts.Part) → all_indent u ≡ true → chars bytes ≡ parts.text_of laid → chars ((u ++ codes ";") ++ bytes) ≡ parts.text_of (semicolon_gap kept u ++ laid)
unfolding semicolon_gap parts.text_of
settles_spells kept u bytes laid h e =
    chars-append (u ++ codes ";") bytes (IsUtf8-append u (codes ";") (indent_utf8 u h) semicolon_utf8)
    ∙ ap (λ z. z ++ chars bytes) (chars-append u (codes ";") (indent_utf8 u h) ∙ ap (λ z. z ++ chars (codes ";")) (indent_chars u h ∙ sym (blanks_text u)) ∙ ap (λ z. pieces_text (blanks u) ++ z) semicolon_chars)
    ∙ ap (λ z. (pieces_text (blanks u) ++ codes ";") ++ z) (e ∙ sym (break_text kept laid))
    ∙ append_assoc (pieces_text (blanks u)) (codes ";") (parts.text_of (break_if kept ++ laid))

settles_remarks : {rs : List Remark} (kept : Bool) (u : List ℕ) (laid : List parts.Part) → remarks_in laid ≡ rs → remarks_in (semicolon_gap kept u ++ laid) ≡ rs
unfolding semicolon_gap remarks_in
settles_remarks kept u laid h = ap (λ z. z ++ remarks_in (break_if kept ++ laid)) (blanks_remarks u) ∙ (break_remarks kept laid ∙ h)

settles_reduces : (x : Semicolons) {span : Option Span} {kept : Bool} → HoldsOne span kept ≡ x → (u : List ℕ) (xs ys : List parts.Part) (s : Sheet) → u ≡ front s → Reduced xs ys → Reduced (held_of (holds_one x) (keeps_break x) s ++ xs) (semicolon_gap kept u ++ ys)
unfolding semicolon_gap holds_one keeps_break
settles_reduces x {kept = kept} e u xs ys s f r =
    subst (λ z. Reduced (held_of (holds_one z) (keeps_break z) s ++ xs) (semicolon_gap kept u ++ ys)) e
    (subst (λ z. Reduced (semicolon_gap kept z ++ xs) (semicolon_gap kept u ++ ys)) f (reduced_after (semicolon_gap kept u) xs ys r))

-- where one is held back there was something
settled_enters : {span : Option Span} {allowed : Bool} (i : Shape) (s b : State) → HoldsOne span allowed ≡ s.sheet.semicolons → Enters i s → Enters i b
unfolding holds_one
settled_enters i s b e (inl k) = inl k
settled_enters i s b e (inr k) = absurd (true≢false (ap holds_one e ∙ k.1.nothing_held))

-- it is cut where the break stands
out_cuts : (span : Option Span) (kept : Bool) (s : Sheet) → all_indent s.indent_text ≡ true → Cuts (semicolon_gap kept (front s)) s (out span kept s)
unfolding semicolon_gap parts.text_of
out_cuts span kept s i =
    let h = front_indent s i in
    let there : Sheet = record s { semicolons = HoldsNone } in
    let after : Sheet = written span (codes ";") there in
    let gap : List parts.Part = Gap (blanks (front s)) ∷ Own Ending (codes ";") ∷ [] in
    let utf8 : IsUtf8 (front s ++ codes ";") = IsUtf8-append (front s) (codes ";") (indent_utf8 _ h) semicolon_utf8 in
    let same : chars (front s ++ codes ";") ≡ parts.text_of gap =
    chars-append (front s) (codes ";") (indent_utf8 _ h) ∙ ap (λ z. z ++ chars (codes ";")) (indent_chars _ h ∙ sym (blanks_text (front s))) ∙ ap (λ z. pieces_text (blanks (front s)) ++ z) semicolon_chars in
    cuts_then gap (break_if kept) s after (passed_on kept after) (cuts_whole gap (front s ++ codes ";") s after refl utf8 same (written_grows span 59 [] there)) (cuts_passed kept after)

-- it stands before what is laid from there
settles : {i : Shape} {rs : List Remark} {v w : Spot} (x : Semicolons) (s b : State) (ts : List lexical.Token) → x ≡ s.sheet.semicolons → RestsAt v s → LaysTo w i ts rs (settle_by x s) b → LaysTo w i ts rs s b
unfolding settle_by settled_by holds_one semicolon_gap
settles AtOnce s b ts e r l = l
settles HoldsNone s b ts e r l = l
settles {i} (HoldsOne span allowed) s b ts e r l =
    let there : Sheet = record s.sheet { semicolons = HoldsNone } in
    let h = front_indent there r.indent_text in
    let u : List ℕ = front there ++ codes ";" in
    let after : Sheet = out span allowed s.sheet in
    let q : holds_one after.semicolons ≡ false = ap holds_one (out_keeps span allowed s.sheet) in
    let gap : List parts.Part = semicolon_gap allowed (front there) in
    record {
      out = l.out;
      laid = gap ++ l.laid;
      bytes = u ++ l.bytes;
      text = l.text ∙ ap (λ z. z ++ l.bytes) (out_text span allowed s.sheet r.flowing) ∙ append_assoc s.sheet.text u l.bytes;
      utf8 = IsUtf8-append u l.bytes (IsUtf8-append (front there) (codes ";") (indent_utf8 _ h) semicolon_utf8) l.utf8;
      spells = settles_spells allowed (front there) l.bytes l.laid h l.spells;
      tokens = l.tokens;
      remarks = settles_remarks allowed (front there) l.laid l.remarks;
      apart = λ k. l.apart (settled_enters i s _ e k);
      reduces = λ more ys d. subst (λ z. Reduced (held s.sheet ++ (l.out ++ more)) z) (sym (append_assoc gap l.laid ys)) (settles_reduces s.sheet.semicolons e (front there) (l.out ++ more) (l.laid ++ ys) s.sheet refl (subst (λ z. Reduced (held_of z (keeps_break after.semicolons) after ++ (l.out ++ more)) (l.laid ++ ys)) q (l.reduces more ys d)));
      holds = l.holds ∙ ap holds_semicolons (out_keeps span allowed s.sheet) ∙ ap holds_semicolons e;
      whole = λ w. absurd (true≢false (ap holds_semicolons e ∙ w));
      cuts = cuts_then gap l.laid s.sheet after b.sheet (out_cuts span allowed s.sheet r.indent_text) l.cuts;
      rest = l.rest;
      fits = l.fits;
    }

pub lays_settled : {i : Shape} {rs : List Remark} {v w : Spot} (s b : State) (ts : List lexical.Token) → RestsAt v s → LaysTo w i ts rs (settle s) b → LaysTo w i ts rs s b
unfolding settle_by
lays_settled s b ts r l = settles s.sheet.semicolons s b ts refl r l

-- a semicolon that is held back is written
pub lays_commit : (s : State) → AtRest s → LaysAt open_ [] s (settle s)
lays_commit s r = lays_settled s (settle s) [] r (lays_nothing (settle s) (settle_rest s r))

-- later lines are indented otherwise
pub lays_level : (n : ℕ) (s : State) → AtRest s → LaysAt open_ [] s (record s { sheet = record (settled s.sheet) { indentation = n } })
lays_level n s r =
    let there : State = settle s in
    let after : State = record there { sheet = record there.sheet { indentation = n } } in
    let none = settled_none s.sheet in
    let q = settle_rest s r in
    let same : held after.sheet ≡ held there.sheet = ap (λ z. held_of z (keeps_break after.sheet.semicolons) after.sheet) none ∙ sym (ap (λ z. held_of z (keeps_break there.sheet.semicolons) there.sheet) none) in
    lays_settled s after [] r (lays_same there after refl refl same refl (grows_same there.sheet after.sheet refl) (record { indent_text = q.indent_text; line_end = q.line_end; flowing = q.flowing; free = q.free; allowed = q.allowed }))

-- a position that is noted
position_lays : {v : Spot} (pos : BytePos) (s : State) → Takes v (record s { sheet = pointed pos s.sheet }) → RestsAt v s → LaysTo v open_ [] [] s (record s { sheet = pointed pos s.sheet })
position_lays pos s k r =
    let p = alike_same s.sheet (pointed pos s.sheet) (pointed_alike pos s.sheet) in
    lays_same s (record s { sheet = pointed pos s.sheet }) (pointed_keeps (λ z. z.text) (λ z x l. refl) (λ z x. refl) pos s.sheet) refl
    (pointed_keeps (λ z. held z) (λ z x l. refl) (λ z x. refl) pos s.sheet) p.holds (pointed_grows pos s.sheet)
    (record {
      indent_text = subst (λ z. all_indent z ≡ true) (sym p.indent_text) r.indent_text;
      line_end = subst (λ z. IsLineEnd z) (sym p.line_end) r.line_end;
      flowing = (pointed_stays pos s.sheet).fills ∙ r.flowing;
      free = λ o e. r.free (sym (pointed_keeps (λ z. holds_one z.semicolons) (λ z x l. refl) (λ z x. refl) pos s.sheet) ∙ o) (sym (pointed_keeps (λ z. z.at_line_start) (λ z x l. refl) (λ z x. refl) pos s.sheet) ∙ e);
      allowed = k;
    })

pub lays_position : (pos : BytePos) (s : State) → AtRest s → LaysAt open_ [] s (record s { sheet = pointed pos s.sheet })
lays_position pos s r = position_lays pos s r.allowed r

-- the same behind a name in a tag; and a semicolon that is held back
pub lays_named_position : (pos : BytePos) (s : State) → RestsAt InName s → LaysTo InName open_ [] [] s (record s { sheet = pointed pos s.sheet })
lays_named_position pos s r = position_lays pos s r.allowed r

pub lays_named_commit : (s : State) → RestsAt InName s → LaysTo InName open_ [] [] s (settle s)
lays_named_commit s r = lays_settled s (settle s) [] r (lays_nothing (settle s) (settle_named s r))

-- ---- blanks and line ends, where nothing is held back

-- a blank
blank_here : (s : State) → holds_one s.sheet.semicolons ≡ false → AtRest s → LaysAt open_ [] s (record s { sheet = written None (codes " ") s.sheet; last = Separated })
unfolding parts.text_of tokens_of remarks_in NoneFuse all_indent is_indent allows
blank_here s o r =
    let h : all_indent (front s.sheet ++ codes " ") ≡ true = indent_append (front s.sheet) (codes " ") (front_indent s.sheet r.indent_text) refl in
    let there : State = record s { sheet = written None (codes " ") s.sheet; last = Separated } in
    let gap : List parts.Part = Gap (blanks (front s.sheet ++ codes " ")) ∷ [] in
    let same : chars (front s.sheet ++ codes " ") ≡ parts.text_of gap = indent_chars _ h ∙ sym (blanks_text _) ∙ sym (append-nil (pieces_text (blanks (front s.sheet ++ codes " ")))) in
    record {
      out = gap;
      laid = gap;
      bytes = front s.sheet ++ codes " ";
      text = written_text None 32 [] s.sheet r.flowing;
      utf8 = indent_utf8 _ h;
      spells = same;
      tokens = refl;
      remarks = append-nil (remarks_of (blanks (front s.sheet ++ codes " "))) ∙ blanks_remarks _;
      apart = λ e more n. blank_apart s.last (front s.sheet) more h r.allowed n;
      reduces = λ more ys d. laid_out s there (Gap (blanks (front s.sheet ++ codes " ")) ∷ []) more ys o (still_none None (codes " ") s.sheet o) d;
      holds = still_holds None (codes " ") s.sheet;
      whole = λ e. refl;
      cuts = cuts_whole gap (front s.sheet ++ codes " ") s.sheet there.sheet refl (indent_utf8 _ h) same (written_grows None 32 [] s.sheet);
      rest = at_text None 32 [] s Separated (λ t. refl) r.indent_text r.line_end r.flowing;
      fits = λ t. fits_indent (front s.sheet ++ codes " ") h;
    }

pub lays_blank : (s : State) → AtRest s → LaysAt open_ [] s (record s { sheet = effect Space s.sheet; last = Separated })
unfolding effect
lays_blank s r = lays_settled s _ [] r (blank_here (settle s) (settled_none s.sheet) (settle_rest s r))

line_put : Bool → State → State
line_put b s = record s { sheet = cond b (record s.sheet { pending = None }) (record (appended s.sheet.line_end s.sheet) { at_line_start = true }); last = Separated }

pub apart_open : (t : List ℕ) → allows Separated t ≡ true
unfolding allows
apart_open t = refl

line_rest : (s : State) → AtRest s → AtRest (line_put false s)
unfolding line_put is_free
line_rest s r =
    let a = alike_same _ _ (appended_alike s.sheet.line_end s.sheet) in
    record {
      indent_text = subst (λ z. all_indent z ≡ true) (sym a.indent_text) r.indent_text;
      line_end = subst (λ z. IsLineEnd z) (sym a.line_end) r.line_end;
      flowing = (appended_stays s.sheet.line_end s.sheet).fills ∙ r.flowing;
      free = λ o e. refl;
      allowed = apart_open;
    }

line_semicolons : (s : State) → (appended s.sheet.line_end s.sheet).semicolons ≡ s.sheet.semicolons
line_semicolons s = appended_leaves (λ z. z.semicolons) (λ z t p l. refl) s.sheet.line_end s.sheet

-- a line end by its bytes
lays_end : (s : State) → holds_one s.sheet.semicolons ≡ false → AtRest s → IsLineEnd s.sheet.line_end → LaysAt loose [] s (line_put false s)
unfolding line_put parts.text_of tokens_of remarks_in NoneFuse last_after_gap pieces_text piece_text all_pieces is_piece is_blank remarks_of chars is_utf8 lib.Utf8.encode
lays_end s o r (inl e) = record {
  out = Gap (Blank 10 ∷ []) ∷ [];
  laid = Gap (Blank 10 ∷ []) ∷ [];
  bytes = 10 ∷ [];
  text = appended_text s.sheet.line_end s.sheet r.flowing ∙ ap (λ z. s.sheet.text ++ z) e;
  utf8 = IsUtf8-from_is_utf8 (10 ∷ []) refl;
  spells = refl;
  tokens = refl;
  remarks = refl;
  apart = λ e more n. (refl, blank_fuses s.last 10 [] refl, r.allowed (10 ∷ []), n);
  reduces = λ more ys d. laid_out s (line_put false s) (Gap (Blank 10 ∷ []) ∷ []) more ys o (ap holds_one (line_semicolons s) ∙ o) d;
  holds = ap holds_semicolons (line_semicolons s);
  whole = λ e. refl;
  cuts = cuts_whole (Gap (Blank 10 ∷ []) ∷ []) (10 ∷ []) s.sheet (line_put false s).sheet refl (IsUtf8-from_is_utf8 (10 ∷ []) refl) refl (grows_as s.sheet.line_end (10 ∷ []) s.sheet (line_put false s).sheet e (appended_grows s.sheet.line_end s.sheet));
  rest = line_rest s r;
  fits = λ t. fits_end _;
}
lays_end s o r (inr e) = record {
  out = Gap (Blank 13 ∷ Blank 10 ∷ []) ∷ [];
  laid = Gap (Blank 13 ∷ Blank 10 ∷ []) ∷ [];
  bytes = 13 ∷ 10 ∷ [];
  text = appended_text s.sheet.line_end s.sheet r.flowing ∙ ap (λ z. s.sheet.text ++ z) e;
  utf8 = IsUtf8-from_is_utf8 (13 ∷ 10 ∷ []) refl;
  spells = refl;
  tokens = refl;
  remarks = refl;
  apart = λ e more n. (refl, blank_fuses s.last 13 (10 ∷ []) refl, r.allowed (13 ∷ 10 ∷ []), n);
  reduces = λ more ys d. laid_out s (line_put false s) (Gap (Blank 13 ∷ Blank 10 ∷ []) ∷ []) more ys o (ap holds_one (line_semicolons s) ∙ o) d;
  holds = ap holds_semicolons (line_semicolons s);
  whole = λ e. refl;
  cuts = cuts_whole (Gap (Blank 13 ∷ Blank 10 ∷ []) ∷ []) (13 ∷ 10 ∷ []) s.sheet (line_put false s).sheet refl (IsUtf8-from_is_utf8 (13 ∷ 10 ∷ []) refl) refl (grows_as s.sheet.line_end (13 ∷ 10 ∷ []) s.sheet (line_put false s).sheet e (appended_grows s.sheet.line_end s.sheet));
  rest = line_rest s r;
  fits = λ t. fits_end _;
}

line_case : (b : Bool) (s : State) → s.sheet.at_line_start ≡ b → holds_one s.sheet.semicolons ≡ false → AtRest s → LaysAt loose [] s (line_put b s)
unfolding line_put parts.text_of tokens_of remarks_in is_free
line_case true s e o r = record {
  out = [];
  laid = [];
  bytes = [];
  text = sym (append-nil s.sheet.text);
  utf8 = IsUtf8-nil;
  spells = chars-nil;
  tokens = refl;
  remarks = refl;
  apart = λ k more n. free_apart s.last (r.free o e) more n;
  reduces = λ more ys d. laid_out s (line_put true s) [] more ys o o d;
  holds = refl;
  whole = λ e. refl;
  cuts = cuts_same s.sheet (line_put true s).sheet refl;
  rest = record { indent_text = r.indent_text; line_end = r.line_end; flowing = r.flowing; free = λ o z. refl; allowed = apart_open };
  fits = λ t. fits_wider loose refl fits_nothing;
}
line_case false s e o r = lays_end s o r r.line_end

line_here : (s : State) → holds_one s.sheet.semicolons ≡ false → AtRest s → LaysAt loose [] s (record s { sheet = ended s.sheet; last = Separated })
unfolding ended line_put
line_here s o r = line_case s.sheet.at_line_start s refl o r

-- the line ends, unless at a line's start
pub lays_line : (s : State) → AtRest s → LaysAt loose [] s (record s { sheet = effect Line s.sheet; last = Separated })
unfolding effect
lays_line s r = lays_settled s _ [] r (line_here (settle s) (settled_none s.sheet) (settle_rest s r))
