-- What is written of a hashbang is what it reads as, where nothing was written.
use Rattle.std.proofs.Common.{◌≡◌, ℕ, Bool, true, false, cond, not, ◌&&◌, ◌||◌, ◌==◌, List, [], ◌∷◌, ◌++◌, codes, None, refl, sym, ap, ◌∙◌, subst, append_assoc, append-nil, inl, inr, arith}
use Rattle.std.specs.Str.{chars, is_utf8, IsUtf8}
use Rattle.std.proofs.lemmas.Bool.{or_left, not_from_false, false_from_ne_true, true≢false}
use Rattle.std.proofs.lemmas.Str.{chars-append, IsUtf8-append, IsUtf8-from_is_utf8}
use Rattle.swc_ecma_codegen_common.specs.declared.positions.BytePos.{BytePos}
use Rattle.swc_ecma_codegen_spans.specs.Spans.{dummy_span}
use Rattle.swc_ecma_codegen_grammar.specs.declared.kinds.Kind.TheVariants.{Hashbang}
use Rattle.swc_ecma_codegen_grammar.specs.Chars.{is_blank, is_line_end, is_one_line}
use Rattle.swc_ecma_codegen_grammar.specs.Hashbangs.{is_hashbang}
use Rattle.swc_ecma_codegen_grammar.specs.Texts.{begins}
use Rattle.swc_ecma_codegen_grammar.specs.Tokens as lexical
use Rattle.swc_ecma_codegen_grammar.specs.Tokens.{token_of, value_of, has_shape}
use Rattle.swc_ecma_codegen_grammar.specs.Reads.{is_child, is_hashbang_kind}
use Rattle.swc_ecma_codegen_grammar.specs.Trivia.{Remark, Piece, Blank, is_piece, piece_text, all_pieces, pieces_text, remarks_of}
use Rattle.swc_ecma_codegen_grammar.specs.GapRules.{PreviousToken, Start, Separated, LineEnd, fuses, allows, ends_line, last_after, last_after_gap}
use Rattle.swc_ecma_codegen_grammar.specs.Parts as parts
use Rattle.swc_ecma_codegen_grammar.specs.Parts.{Gap, Own, tokens_of, remarks_in, NoneFuse, Reduced}
use Rattle.swc_ecma_codegen_grammar.specs.Phrases.{One, where_}
use Rattle.swc_ecma_codegen_text_writer.specs.Places.{Place}
use Rattle.swc_ecma_codegen_text_writer.proofs.Flows.{appended_leaves, appended_text}
use Rattle.swc_ecma_codegen_text_writer.specs.Sheet.{Sheet, StrLit, Punct, Position, Line, holds_semicolons, effect, written, literal_written, ended, appended, pointed, settled, before_punct, is_ending, Flow, fills_lines}
use Rattle.swc_ecma_codegen_text_writer.proofs.Sheets.{pointed_alike, alike_same}
use Rattle.swc_ecma_codegen_text_writer.proofs.Stays.{appended_stays, settled_stays}
use Rattle.swc_ecma_codegen_literals.specs.AsciiNames.{is_ascii_text}
use Rattle.swc_ecma_codegen_tokens.specs.Ascii.{is_kept_piece, is_other_piece, is_kept_end, is_other_end, is_other_value, keeps_other, are_ascii, keeps_tokens, are_ascii_or_kept}
use Rattle.swc_ecma_codegen_tokens.specs.Literals.{hashbang}
use Rattle.swc_ecma_codegen_tokens.specs.Run.{at_maps, maps_after, after_step, taken_in, taken_by, spoken, Env, Part, State, Step, Plain, Ends, put, run, step, next, text_of, after_plain, makes_text}
use Rattle.swc_ecma_codegen_tokens.specs.Scripts.{is_str, is_string_call}
use Rattle.swc_ecma_codegen_tokens.specs.Words.{line_end, position}
use Rattle.swc_ecma_codegen_tokens.specs.Written.{IsLineEnd, AtRest, all_indent, holds_one, is_free}
use Rattle.swc_ecma_codegen_tokens.proofs.Gaps.AfterBlanks.{start_alone}
use Rattle.swc_ecma_codegen_tokens.proofs.Emission.StepAscii.{HandsOverAscii, has_string, hands_ascii, hands_then}
use Rattle.swc_ecma_codegen_tokens.proofs.Emission.PendingSemi.{front, pointed_keeps, settled_none}
use Rattle.swc_ecma_codegen_tokens.proofs.Gaps.Indented.{blanks, blanks_text, blanks_remarks, indent_utf8, indent_chars}
use Rattle.swc_ecma_codegen_tokens.proofs.Emission.Levels.{levels, rise}
use Rattle.swc_ecma_codegen_tokens.proofs.LiteralTokens.LiteralParts.{still_settled}
use Rattle.swc_ecma_codegen_tokens.proofs.LiteralTokens.NumeralTexts.{ascii_by_chars}
use Rattle.swc_ecma_codegen_tokens.proofs.Reading.Phrased.{PrintsAt, prints_one, prints_where}
use Rattle.swc_ecma_codegen_tokens.proofs.Reading.Printed.{takes_none, makes_silently, MakesAt, chain, no_text}
use Rattle.swc_ecma_codegen_tokens.proofs.Filling.Shapes.{Shape, first_line, Fits, fits_then, fits_wider, fits_text, fits_end}
use Rattle.swc_ecma_codegen_tokens.proofs.Reading.Texts.{Adds, adds_written, adds_literal, adds_more}
use Rattle.swc_ecma_codegen_text_writer.proofs.Cuts.{grows_as, grows_then, appended_grows, pointed_grows}
use Rattle.swc_ecma_codegen_tokens.proofs.Filling.Cuts.{cuts_then, cuts_whole, cuts_none}
use Rattle.swc_ecma_codegen_tokens.proofs.Reading.Laid.{LaysWith, LaysAt, IsFirst, Enters, held, laid_out}
use Rattle.swc_ecma_codegen_tokens.proofs.Gaps.Written.{front_indent, apart_open, settle, settle_rest, lays_settled, lays_position}

-- ---- the end of a line

-- LF, or CR and LF, as what stands between
record EndsLine (e : List ℕ) : Type 0 where
  pub pieces : List Piece
  pub closed : all_pieces pieces ≡ true
  pub none_fuse : fuses LineEnd (pieces_text pieces) ≡ false
  pub allowed : allows LineEnd (pieces_text pieces) ≡ true
  pub after : last_after_gap LineEnd pieces ≡ Separated
  pub utf8 : IsUtf8 e
  pub same : chars e ≡ pieces_text pieces
  pub no_remarks : remarks_of pieces ≡ []

line_pieces : (e : List ℕ) → IsLineEnd e → EndsLine e
unfolding all_pieces is_piece is_blank is_line_end pieces_text piece_text fuses allows ends_line last_after_gap remarks_of chars is_utf8 lib.Utf8.encode
line_pieces e (inl h) = subst EndsLine (sym h) (record { pieces = Blank 10 ∷ []; closed = refl; none_fuse = refl; allowed = refl; after = refl; utf8 = IsUtf8-from_is_utf8 (10 ∷ []) refl; same = refl; no_remarks = refl })
line_pieces e (inr h) = subst EndsLine (sym h) (record { pieces = Blank 13 ∷ Blank 10 ∷ []; closed = refl; none_fuse = refl; allowed = refl; after = refl; utf8 = IsUtf8-from_is_utf8 (13 ∷ 10 ∷ []) refl; same = refl; no_remarks = refl })

-- ---- the text

mark_utf8 : IsUtf8 (codes "#!")
unfolding chars is_utf8 lib.Utf8.encode
mark_utf8 = IsUtf8-from_is_utf8 (codes "#!") refl

mark_chars : chars (codes "#!") ≡ codes "#!"
unfolding chars lib.Utf8.encode
mark_chars = refl

line_chars : (t : List ℕ) → chars (codes "#!" ++ t) ≡ codes "#!" ++ chars t
line_chars t = chars-append (codes "#!") t mark_utf8 ∙ ap (λ z. z ++ chars t) mark_chars

line_shape : (t : List ℕ) → is_one_line t ≡ true → has_shape Hashbang (codes "#!" ++ t) ≡ true
unfolding has_shape is_hashbang begins is_one_line is_line_end
line_shape t h = h

-- ---- what is laid

laid_line : (t : List ℕ) (s : Sheet) → IsUtf8 t → all_indent (front s) ≡ true → (l : EndsLine s.line_end) → chars ((front s ++ t) ++ s.line_end) ≡ parts.text_of (Gap (blanks (front s)) ∷ Own Hashbang (chars t) ∷ Gap l.pieces ∷ [])
unfolding parts.text_of
laid_line t s u i l =
    chars-append (front s ++ t) s.line_end (IsUtf8-append (front s) t (indent_utf8 _ i) u)
    ∙ ap (λ z. z ++ chars s.line_end) (chars-append (front s) t (indent_utf8 _ i) ∙ ap (λ z. z ++ chars t) (indent_chars _ i ∙ sym (blanks_text (front s))))
    ∙ ap (λ z. (pieces_text (blanks (front s)) ++ chars t) ++ z) (l.same ∙ sym (append-nil (pieces_text l.pieces)))
    ∙ append_assoc (pieces_text (blanks (front s))) (chars t) (pieces_text l.pieces ++ [])

-- nothing stands before it
line_apart : (t : List ℕ) (s : State) (more : List parts.Part) → has_shape Hashbang (chars t) ≡ true → (l : EndsLine s.sheet.line_end) → IsFirst s → NoneFuse Separated more → NoneFuse s.last (Gap (blanks (front s.sheet)) ∷ Own Hashbang (chars t) ∷ Gap l.pieces ∷ more)
unfolding NoneFuse last_after last_after_gap pieces_text all_pieces fuses allows blanks is_child is_hashbang_kind
line_apart t s more p l f n =
    let P : PreviousToken → List Piece → Type 0 = λ k u. NoneFuse k (Gap u ∷ Own Hashbang (chars t) ∷ Gap l.pieces ∷ more) in
    let rest : NoneFuse LineEnd (Gap l.pieces ∷ more) = (l.closed, l.none_fuse, l.allowed, subst (λ k. NoneFuse k more) (sym l.after) n) in
    subst (λ k. P k (blanks (front s.sheet))) (sym f.nothing_written)
    (subst (λ z. P Start (blanks z)) (sym f.at_margin) (refl, refl, refl, (p, start_alone (chars t), record { child = λ e. absurd (true≢false (sym e)); first = λ e. refl }, refl, rest)))

line_enters : (s : State) → Enters first_line s → IsFirst s
line_enters s (inl e) = absurd (true≢false (sym e))
line_enters s (inr k) = k.1

line_fits : (u t : List ℕ) (pieces : List Piece) → all_indent u ≡ true → Fits first_line (Gap (blanks u) ∷ Own Hashbang t ∷ Gap pieces ∷ [])
line_fits u t pieces h = fits_wider first_line refl (fits_then (Gap (blanks u) ∷ Own Hashbang t ∷ []) (Gap pieces ∷ []) (fits_text u Hashbang t h) (fits_end pieces))

ended_here : (s : Sheet) → s.at_line_start ≡ false → ended s ≡ record (appended s.line_end s) { at_line_start = true }
unfolding ended
ended_here s h = ap (λ b. cond b (record s { pending = None }) (record (appended s.line_end s) { at_line_start = true })) h

line_leaves : {A : Type 0} (f : Sheet → A) → ((s : Sheet) (t : List ℕ) (p : Place) (l : Flow) → f (record s { text = t; place = p; lines = l }) ≡ f s) → (m : Sheet) → f (appended m.line_end m) ≡ f m
line_leaves f k m = appended_leaves f k m.line_end m

-- a hashbang that was added, and the end of its line, where no semicolon is held back
line_lays : (t : List ℕ) (s : State) (m : Sheet) → IsUtf8 t → has_shape Hashbang (chars t) ≡ true → holds_one s.sheet.semicolons ≡ false → AtRest s → Adds t s.sheet m → LaysAt first_line (token_of Hashbang (chars t) ∷ []) s (record s { sheet = record (appended m.line_end m) { at_line_start = true }; last = Separated })
unfolding tokens_of remarks_in parts.text_of is_free
line_lays t s m u p o r h =
    let i = front_indent s.sheet r.indent_text in
    let l = line_pieces s.sheet.line_end r.line_end in
    let b : State = record s { sheet = record (appended m.line_end m) { at_line_start = true }; last = Separated } in
    let out : List parts.Part = Gap (blanks (front s.sheet)) ∷ Own Hashbang (chars t) ∷ Gap l.pieces ∷ [] in
    let utf8 : IsUtf8 ((front s.sheet ++ t) ++ s.sheet.line_end) = IsUtf8-append (front s.sheet ++ t) s.sheet.line_end (IsUtf8-append (front s.sheet) t (indent_utf8 _ i) u) l.utf8 in
    record {
      out = out;
      laid = out;
      bytes = (front s.sheet ++ t) ++ s.sheet.line_end;
      text = appended_text m.line_end m (h.fills ∙ r.flowing) ∙ ap (λ z. m.text ++ z) h.line_end ∙ ap (λ z. z ++ s.sheet.line_end) h.text ∙ append_assoc s.sheet.text (front s.sheet ++ t) s.sheet.line_end;
      utf8 = utf8;
      spells = laid_line t s.sheet u i l;
      tokens = refl;
      remarks = ap (λ z. remarks_of (blanks (front s.sheet)) ++ (z ++ [])) l.no_remarks ∙ append-nil (remarks_of (blanks (front s.sheet))) ∙ blanks_remarks _;
      apart = λ e more n. line_apart t s more p l (line_enters s e) n;
      reduces = λ more ys d. laid_out s b out more ys o (ap holds_one (line_leaves (λ z. z.semicolons) (λ z t p l. refl) m ∙ h.semicolons) ∙ o) d;
      holds = ap holds_semicolons (line_leaves (λ z. z.semicolons) (λ z t p l. refl) m ∙ h.semicolons);
      whole = λ e. refl;
      cuts = cuts_whole out ((front s.sheet ++ t) ++ s.sheet.line_end) s.sheet b.sheet refl utf8 (laid_line t s.sheet u i l)
          (grows_as ((front s.sheet ++ t) ++ m.line_end) ((front s.sheet ++ t) ++ s.sheet.line_end) s.sheet b.sheet (ap (λ z. (front s.sheet ++ t) ++ z) h.line_end)
          (grows_then (front s.sheet ++ t) m.line_end s.sheet m (appended m.line_end m) h.grows (appended_grows m.line_end m)));
      rest = record {
        indent_text = subst (λ z. all_indent z ≡ true) (sym (line_leaves (λ z. z.indent_text) (λ z t p l. refl) m ∙ h.indent_text)) r.indent_text;
        line_end = subst (λ z. IsLineEnd z) (sym (line_leaves (λ z. z.line_end) (λ z t p l. refl) m ∙ h.line_end)) r.line_end;
        free = λ o e. refl;
        allowed = apart_open;
        flowing = (appended_stays m.line_end m).fills ∙ h.fills ∙ r.flowing;
      };
      fits = λ e. line_fits (front s.sheet) (chars t) l.pieces i;
    }

-- ---- the calls

-- a literal more, or none
literal_more : (t u : List ℕ) (a b : Sheet) → fills_lines a.lines ≡ false → Adds t a b → Adds (t ++ u) a (literal_written dummy_span u b)
unfolding literal_written
literal_more t [] a b n h = subst (λ z. Adds z a b) (sym (append-nil t)) h
literal_more t (c ∷ cs) a b n h = adds_more t (c ∷ cs) a b _ h (adds_literal dummy_span c cs b (h.fills ∙ n))

calls_sheet : List ℕ → Sheet → Sheet
calls_sheet t s = literal_written dummy_span t (settled (written None (codes "#!") (settled s)))

calls_add : (t : List ℕ) (s : Sheet) → fills_lines s.lines ≡ false → Adds (codes "#!" ++ t) (settled s) (calls_sheet t s)
unfolding calls_sheet
calls_add t s n =
    let a : Sheet = settled s in
    let still = (settled_stays s).fills ∙ n in
    let b : Sheet = written None (codes "#!") a in
    let h : Adds (codes "#!") a b = adds_written None 35 (33 ∷ []) a still in
    literal_more (codes "#!") t a (settled b) still (subst (λ z. Adds (codes "#!") a z) (sym (still_settled (codes "#!") a b (settled_none s) h)) h)

unfoldable pub hashbang_steps : List ℕ → List Step
hashbang_steps t = Plain (Punct None (codes "#!")) ∷ Ends ((Hashbang, codes "#!" ++ t) ∷ []) (StrLit dummy_span t) ∷ Plain Line ∷ []

pub calls_lay : (t : List ℕ) (s : State) → IsUtf8 t → is_one_line (chars t) ≡ true → AtRest s → LaysAt first_line (token_of Hashbang (codes "#!" ++ chars t) ∷ []) s (run (hashbang_steps t) s)
unfolding hashbang_steps calls_sheet run put effect text_of after_plain before_punct is_ending
calls_lay t s u h r =
    let m : Sheet = calls_sheet t s.sheet in
    let a : Adds (codes "#!" ++ t) (settled s.sheet) m = calls_add t s.sheet r.flowing in
    let end : ended (settled m) ≡ record (appended m.line_end m) { at_line_start = true } =
    ap ended (still_settled (codes "#!" ++ t) (settled s.sheet) m (settled_none s.sheet) a) ∙ ended_here m a.in_line in
    let P : List ℕ → Sheet → Type 0 = λ x z. LaysAt first_line (token_of Hashbang x ∷ []) s (record s { sheet = z; last = Separated }) in
    let shape = ap (has_shape Hashbang) (line_chars t) ∙ line_shape (chars t) h in
    subst (λ z. P (codes "#!" ++ chars t) z) (sym end)
    (subst (λ x. P x (record (appended m.line_end m) { at_line_start = true })) (line_chars t)
    (lays_settled s _ _ r (line_lays (codes "#!" ++ t) (settle s) m (IsUtf8-append (codes "#!") t mark_utf8 u) shape (settled_none s.sheet) (settle_rest s r) a)))

-- it stands as it is
kept_line : (b : Bool) → ((b || true) && true) ≡ true
kept_line true = refl
kept_line false = refl

line_hands : (env : Env) (t : List ℕ) → IsUtf8 t → HandsOverAscii env (hashbang_steps t) (token_of Hashbang (codes "#!" ++ chars t) ∷ [])
unfolding hashbang_steps are_ascii_or_kept has_string is_string_call keeps_other is_other_piece is_kept_piece is_other_end is_kept_end is_hashbang_kind text_of keeps_tokens is_other_value token_of value_of
line_hands env t u = record {
  ascii = λ e. kept_line (is_ascii_text t);
  keeps = λ n. or_left (not (is_ascii_text (chars t))) false (not_from_false (is_ascii_text (chars t)) (false_from_ne_true (is_ascii_text (chars t)) (λ a. true≢false (sym n ∙ ap (λ z. not z || false) (ascii_by_chars t u a)))));
  strings = no_text;
}

writes_hashbang : (env : Env) (t : List ℕ) → IsUtf8 t → is_one_line (chars t) ≡ true → MakesAt first_line env (hashbang t) (token_of Hashbang (codes "#!" ++ chars t) ∷ []) false
unfolding hashbang hashbang_steps line_end step chain makes_text levels rise takes_none maps_after after_step
writes_hashbang env t u h = makes_silently env (hashbang t) (hashbang_steps t) _ refl (λ maps rest. refl) (λ s r. calls_lay t s u h r) (λ e. e) (omega arith) (line_hands env t u)

-- ---- a position before it

pointed_enters : (i : Shape) (pos : BytePos) (s : State) → Enters i s → Enters i (record s { sheet = pointed pos s.sheet })
pointed_enters i pos s (inl e) = inl e
pointed_enters i pos s (inr k) = inr (
  k.0,
  record {
    nothing_written = k.1.nothing_written;
    nothing_held = pointed_keeps (λ z. holds_one z.semicolons) (λ z x l. refl) (λ z x. refl) pos s.sheet ∙ k.1.nothing_held;
    at_margin = pointed_keeps (λ z. front z) (λ z x l. refl) (λ z x. refl) pos s.sheet ∙ k.1.at_margin;
  },
)

lays_pointed : {i : Shape} {rs : List Remark} (pos : BytePos) (s b : State) (ts : List lexical.Token) → LaysWith i ts rs (record s { sheet = pointed pos s.sheet }) b → LaysWith i ts rs s b
lays_pointed {i} pos s b ts l =
    let p = alike_same s.sheet (pointed pos s.sheet) (pointed_alike pos s.sheet) in
    record {
      out = l.out;
      laid = l.laid;
      bytes = l.bytes;
      text = l.text ∙ ap (λ z. z ++ l.bytes) (pointed_keeps (λ z. z.text) (λ z x l. refl) (λ z x. refl) pos s.sheet);
      utf8 = l.utf8;
      spells = l.spells;
      tokens = l.tokens;
      remarks = l.remarks;
      apart = λ e. l.apart (pointed_enters i pos s e);
      reduces = λ more ys d. subst (λ z. Reduced (z ++ (l.out ++ more)) (l.laid ++ ys)) (pointed_keeps (λ z. held z) (λ z x l. refl) (λ z x. refl) pos s.sheet) (l.reduces more ys d);
      holds = l.holds ∙ p.holds;
      whole = λ e. l.whole (p.holds ∙ e);
      cuts = cuts_then [] l.laid s.sheet (pointed pos s.sheet) b.sheet (cuts_none s.sheet (pointed pos s.sheet) (pointed_grows pos s.sheet)) l.cuts;
      rest = l.rest;
      fits = l.fits;
    }

placed_case : {i : Shape} (env : Env) (pos : BytePos) (none : Bool) (p : Part) (ts : List lexical.Token) {a : Bool} → MakesAt i env p ts a → MakesAt i env (λ rest. cond none (p rest) (step (Plain (Position pos)) (p rest))) ts a
unfolding step chain run put effect text_of after_plain makes_text levels rise are_ascii has_string is_string_call maps_after after_step taken_in taken_by spoken
placed_case env pos true p ts h = h
placed_case env pos false p ts h = record {
  from = λ maps.
      let x = h.from maps in
      record {
        steps = Plain (Position pos) ∷ x.steps;
        is_steps = λ rest. ap (λ z. next (Plain (Position pos)) z) (x.is_steps rest);
        lays = λ s r c. lays_pointed pos s _ ts (x.lays (record s { sheet = pointed pos s.sheet }) (lays_position pos s r).rest c);
        remakes = x.remakes;
        inner = x.inner;
        deep = let d = x.deep in omega (arith, d);
        hands = hands_then (hands_ascii (at_maps maps env) (Plain (Position pos) ∷ []) [] refl no_text) x.hands;
        comment_texts = x.comment_texts;
      };
}

-- wherever a part may stand, it may with a position before it
pub placed_makes : {i : Shape} (env : Env) (pos : BytePos) (p : Part) (ts : List lexical.Token) {a : Bool} → MakesAt i env p ts a → MakesAt i env (λ rest. position pos (p rest)) ts a
unfolding position
placed_makes env pos p ts h = placed_case env pos (pos.0 == 0) p ts h

-- ---- what it reads as

pub prints_hashbang : (env : Env) (t : List ℕ) (p : Part) → IsUtf8 t → ((made : MakesAt first_line env (hashbang t) (token_of Hashbang (codes "#!" ++ chars t) ∷ []) false) → MakesAt first_line env p (token_of Hashbang (codes "#!" ++ chars t) ∷ []) false) → PrintsAt first_line env p (where_ (is_one_line (chars t)) (One (token_of Hashbang (codes "#!" ++ chars t))))
unfolding token_of is_str
prints_hashbang env t p u h = prints_where (is_one_line (chars t)) (λ w. prints_one env p (token_of Hashbang (codes "#!" ++ chars t)) (h (writes_hashbang env t u w)) refl)
