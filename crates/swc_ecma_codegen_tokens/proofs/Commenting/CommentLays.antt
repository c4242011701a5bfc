-- What the calls of a comment write: one piece between tokens.
use Rattle.std.proofs.Common.{◌≡◌, ℕ, true, false, cond, List, [], ◌∷◌, ◌++◌, None, codes, refl, sym, ap, ◌∙◌, subst, append_assoc, append-nil, inl, inr, ◌&&◌, ◌||◌, not}
use Rattle.std.specs.Str.{chars, is_utf8, IsUtf8}
use Rattle.std.proofs.lemmas.Bool.{and_parts, and_from, true≢false}
use Rattle.std.proofs.lemmas.Str.{chars-append, IsUtf8-append, IsUtf8-from_is_utf8}
use Rattle.swc_ecma_codegen_common.specs.declared.positions.BytePos.{BytePos}
use Rattle.swc_ecma_codegen_grammar.specs.Chars.{is_blank, is_one_line, is_line_end}
use Rattle.swc_ecma_codegen_grammar.specs.Texts.{begins}
use Rattle.swc_ecma_codegen_grammar.specs.Trivia as trivia
use Rattle.swc_ecma_codegen_grammar.specs.Trivia.{Remark, Piece, Blank, BlockOf, LineOf, is_open, is_piece, piece_text, pieces_text, all_pieces, remarks_of}
use Rattle.swc_ecma_codegen_grammar.specs.GapRules.{PreviousToken, Start, Separated, WordEnd, IntegerEnd, Mark, LessBang, Whole, TextEnd, TagNameEnd, LineEnd, fuses, mark_fuses, is_choice, allows, last_after_gap}
use Rattle.swc_ecma_codegen_grammar.specs.Parts as parts
use Rattle.swc_ecma_codegen_grammar.specs.Parts.{Gap, NoneFuse, tokens_of, remarks_in, walk}
use Rattle.swc_ecma_codegen_grammar.proofs.Reading.{blank_fuses}
use Rattle.swc_ecma_codegen_text_writer.specs.Places.{Place}
use Rattle.swc_ecma_codegen_text_writer.proofs.Cuts.{GrowsBy, grows_same, grows_then, grows_as, appended_grows, written_grows, pointed_grows}
use Rattle.swc_ecma_codegen_tokens.proofs.Filling.Cuts.{cuts_whole}
use Rattle.swc_ecma_codegen_text_writer.proofs.Flows.{appended_leaves, appended_text}
use Rattle.swc_ecma_codegen_text_writer.specs.Sheet.{Sheet, Comment, Line, Position, holds_semicolons, appended, written, ended, pointed, settled, effect, fills_lines, Flow}
use Rattle.swc_ecma_codegen_text_writer.proofs.Sheets.{written_same, pointed_alike, alike_same}
use Rattle.swc_ecma_codegen_text_writer.proofs.Stays.{written_stays, pointed_stays, appended_stays}
use Rattle.swc_ecma_codegen_grammar.specs.Comments.{all_tame, is_tame}
use Rattle.swc_ecma_codegen_tokens.specs.Run.{State, Guard, Plain, CommentText, put, after_plain}
use Rattle.swc_ecma_codegen_tokens.specs.Written.{IsLineEnd, all_indent, is_indent, is_free, holds_one, AtRest, RestsAt, Spot, InName}
use Rattle.swc_ecma_codegen_tokens.proofs.Emission.PendingSemi.{front_of, front, written_text, in_line, written_semicolons, pointed_keeps, settled_none, unheld_settled}
use Rattle.swc_ecma_codegen_tokens.proofs.Filling.Shapes.{open_, fits_blank}
use Rattle.swc_ecma_codegen_tokens.proofs.Gaps.Indented.{indent_utf8, indent_chars, indent_blank, indent_one_line, blanks, blanks_text, blanks_pieces}
use Rattle.swc_ecma_codegen_tokens.proofs.Reading.Laid.{LaysWith, lays_then, laid_out}
use Rattle.swc_ecma_codegen_tokens.proofs.Gaps.Written.{lays_settled, lays_blank, front_indent, settle, settle_named, apart_open}
use Rattle.swc_ecma_codegen_tokens.proofs.Reading.TokenLays.{after_guard}
use Rattle.swc_ecma_codegen_tokens.proofs.Gaps.Spots.{dashless}
use Rattle.swc_ecma_codegen_tokens.proofs.Jsx.TagLays.{named_guard}

-- ---- pieces one after the other

pieces_append : (xs ys : List Piece) → pieces_text (xs ++ ys) ≡ pieces_text xs ++ pieces_text ys
unfolding pieces_text
pieces_append [] ys = refl
pieces_append (x ∷ xs) ys = ap (λ z. piece_text x ++ z) (pieces_append xs ys) ∙ sym (append_assoc (piece_text x) (pieces_text xs) (pieces_text ys))

all_append : (xs ys : List Piece) → all_pieces xs ≡ true → all_pieces ys ≡ true → all_pieces (xs ++ ys) ≡ true
unfolding all_pieces
all_append [] ys h k = k
all_append (x ∷ xs) ys h k = let p = and_parts (is_piece x) (all_pieces xs) h in and_from (is_piece x) (all_pieces (xs ++ ys)) p.0 (all_append xs ys p.1 k)

-- behind indentation
behind_remarks : (u : List ℕ) (ps : List Piece) → remarks_of (blanks u ++ ps) ≡ remarks_of ps
unfolding blanks remarks_of
behind_remarks [] ps = refl
behind_remarks (c ∷ cs) ps = behind_remarks cs ps

behind_last : (k : PreviousToken) (u : List ℕ) (p : Piece) (ps : List Piece) → last_after_gap k (blanks u ++ p ∷ ps) ≡ Separated
unfolding blanks last_after_gap
behind_last k [] p ps = refl
behind_last k (c ∷ cs) p ps = refl

one_line_append : (t u : List ℕ) → is_one_line t ≡ true → is_one_line u ≡ true → is_one_line (t ++ u) ≡ true
unfolding is_one_line
one_line_append [] u h k = k
one_line_append (c ∷ cs) u h k = let p = and_parts (not (is_line_end c)) (is_one_line cs) h in and_from (not (is_line_end c)) (is_one_line (cs ++ u)) p.0 (one_line_append cs u p.1 k)

-- ---- what a comment fuses with: its two first characters say it

slash_mark : (t : List ℕ) (m n : List ℕ) → mark_fuses t 47 m ≡ mark_fuses t 47 n
unfolding mark_fuses is_choice
slash_mark t m n = refl

slash_fuses : (k : PreviousToken) (m n : List ℕ) → fuses k (47 ∷ m) ≡ fuses k (47 ∷ n)
unfolding fuses begins
slash_fuses Start m n = refl
slash_fuses Separated m n = refl
slash_fuses WordEnd m n = refl
slash_fuses IntegerEnd m n = refl
slash_fuses (Mark t) m n = slash_mark t m n
slash_fuses LessBang m n = ap (λ z. z || false) (slash_mark (codes "!") m n)
slash_fuses Whole m n = refl
slash_fuses TextEnd m n = refl
slash_fuses TagNameEnd m n = refl
slash_fuses LineEnd m n = refl

behind_fuses : (k : PreviousToken) (u m n : List ℕ) (ps : List Piece) → all_indent u ≡ true → pieces_text ps ≡ 47 ∷ n → fuses k (47 ∷ m) ≡ false → fuses k (pieces_text (blanks u ++ ps)) ≡ false
unfolding blanks pieces_text piece_text all_indent
behind_fuses k [] m n ps h e f = ap (fuses k) e ∙ slash_fuses k n m ∙ f
behind_fuses k (c ∷ cs) m n ps h e f = blank_fuses k c (pieces_text (blanks cs ++ ps)) (indent_blank c (and_parts (is_indent c) (all_indent cs) h).0)

-- it begins with no dash
slash_dashless : (n : List ℕ) → begins (codes "-") (47 ∷ n) ≡ false
unfolding begins
slash_dashless n = refl

behind_dashless : (u n : List ℕ) (ps : List Piece) → all_indent u ≡ true → pieces_text ps ≡ 47 ∷ n → begins (codes "-") (pieces_text (blanks u ++ ps)) ≡ false
unfolding blanks pieces_text piece_text all_indent
behind_dashless [] n ps h e = ap (begins (codes "-")) e ∙ slash_dashless n
behind_dashless (c ∷ cs) n ps h e = dashless c (pieces_text (blanks cs ++ ps)) (and_parts (is_indent c) (all_indent cs) h).0

-- ---- calls within a line

-- From one state to another a text was written, and the line goes on; nothing is held back.
pub record Adds (t : List ℕ) (a b : State) : Type 0 where
  pub text : b.sheet.text ≡ a.sheet.text ++ t
  pub grows : GrowsBy t a.sheet b.sheet
  pub in_line : b.sheet.at_line_start ≡ false
  pub none_held : holds_one b.sheet.semicolons ≡ false
  pub holds : holds_semicolons b.sheet.semicolons ≡ holds_semicolons a.sheet.semicolons
  pub indent_text : b.sheet.indent_text ≡ a.sheet.indent_text
  pub line_end : b.sheet.line_end ≡ a.sheet.line_end
  pub fills : fills_lines b.sheet.lines ≡ fills_lines a.sheet.lines
  pub last : b.last ≡ Separated

adds_then : (t u : List ℕ) (a b c : State) → Adds t a b → Adds u b c → Adds (t ++ u) a c
adds_then t u a b c h k = record {
  text = k.text ∙ ap (λ z. z ++ u) h.text ∙ append_assoc a.sheet.text t u;
  grows = grows_then t u a.sheet b.sheet c.sheet h.grows k.grows;
  in_line = k.in_line;
  none_held = k.none_held;
  holds = k.holds ∙ h.holds;
  indent_text = k.indent_text ∙ h.indent_text;
  line_end = k.line_end ∙ h.line_end;
  fills = k.fills ∙ h.fills;
  last = k.last;
}

said : List ℕ → State → State
said t s = record s { sheet = written None t s.sheet; last = Separated }

-- the first of them, behind the indentation of its line
adds_first : (c : ℕ) (cs : List ℕ) (s : State) → holds_one s.sheet.semicolons ≡ false → fills_lines s.sheet.lines ≡ false → Adds (front s.sheet ++ c ∷ cs) s (said (c ∷ cs) s)
unfolding said
adds_first c cs s o n = record {
  text = written_text None c cs s.sheet n;
  grows = written_grows None c cs s.sheet;
  in_line = in_line None c cs s.sheet;
  none_held = ap holds_one (written_semicolons None (c ∷ cs) s.sheet) ∙ o;
  holds = ap holds_semicolons (written_semicolons None (c ∷ cs) s.sheet);
  indent_text = (written_same None (c ∷ cs) s.sheet).indent_text;
  line_end = (written_same None (c ∷ cs) s.sheet).line_end;
  fills = (written_stays None (c ∷ cs) s.sheet).fills;
  last = refl;
}

-- a later one
adds_later : (t : List ℕ) (s : State) → s.sheet.at_line_start ≡ false → holds_one s.sheet.semicolons ≡ false → fills_lines s.sheet.lines ≡ false → Adds t s (said t s)
unfolding said written
adds_later [] s e o n = record { text = sym (append-nil s.sheet.text); grows = grows_same s.sheet s.sheet refl; in_line = e; none_held = o; holds = refl; indent_text = refl; line_end = refl; fills = refl; last = refl }
adds_later (c ∷ cs) s e o n = let P : List ℕ → Type 0 = λ z. Adds (z ++ c ∷ cs) s (said (c ∷ cs) s) in subst P (ap (λ b. front_of b s.sheet) e) (adds_first c cs s o n)

-- by its call
call_said : (t : List ℕ) (s : State) → holds_one s.sheet.semicolons ≡ false → said t s ≡ put (CommentText t) s
unfolding said put effect
call_said t s o = ap (λ (z : Sheet). record s { sheet = written None t z; last = Separated }) (sym (unheld_settled s.sheet o))

piece_said : (t : List ℕ) (s : State) → put (Plain (Comment t)) s ≡ put (CommentText t) s
unfolding put after_plain
piece_said t s = refl

pub adds_text : (t : List ℕ) (s : State) → s.sheet.at_line_start ≡ false → holds_one s.sheet.semicolons ≡ false → fills_lines s.sheet.lines ≡ false → Adds t s (put (CommentText t) s)
adds_text t s e o n = subst (λ (z : State). Adds t s z) (call_said t s o) (adds_later t s e o n)

pub adds_piece : (t : List ℕ) (s : State) → s.sheet.at_line_start ≡ false → holds_one s.sheet.semicolons ≡ false → fills_lines s.sheet.lines ≡ false → Adds t s (put (Plain (Comment t)) s)
adds_piece t s e o n = subst (λ (z : State). Adds t s z) (sym (piece_said t s)) (adds_text t s e o n)

pub adds_opening : (c : ℕ) (cs : List ℕ) (s : State) → holds_one s.sheet.semicolons ≡ false → fills_lines s.sheet.lines ≡ false → Adds (front s.sheet ++ c ∷ cs) s (put (Plain (Comment (c ∷ cs))) s)
adds_opening c cs s o n = subst (λ (z : State). Adds (front s.sheet ++ c ∷ cs) s z) (call_said (c ∷ cs) s o ∙ sym (piece_said (c ∷ cs) s)) (adds_first c cs s o n)

-- a position
pub adds_position : (pos : BytePos) (s : State) → s.sheet.at_line_start ≡ false → holds_one s.sheet.semicolons ≡ false → s.last ≡ Separated → Adds [] s (put (Plain (Position pos)) s)
unfolding put effect after_plain
adds_position pos s e o l =
    let p = alike_same s.sheet (pointed pos s.sheet) (pointed_alike pos s.sheet) in
    record {
      text = pointed_keeps (λ z. z.text) (λ z x l. refl) (λ z x. refl) pos s.sheet ∙ sym (append-nil s.sheet.text);
      grows = pointed_grows pos s.sheet;
      in_line = pointed_keeps (λ z. z.at_line_start) (λ z x l. refl) (λ z x. refl) pos s.sheet ∙ e;
      none_held = pointed_keeps (λ z. holds_one z.semicolons) (λ z x l. refl) (λ z x. refl) pos s.sheet ∙ o;
      holds = p.holds;
      indent_text = p.indent_text;
      line_end = p.line_end;
      fills = (pointed_stays pos s.sheet).fills;
      last = l;
    }

-- ---- a comment is one gap

comment_gap : (ps : List Piece) (bytes : List ℕ) (rs : List Remark) (s b : State) → b.sheet.text ≡ s.sheet.text ++ bytes → GrowsBy bytes s.sheet b.sheet → IsUtf8 bytes → chars bytes ≡ pieces_text ps → all_pieces ps ≡ true → remarks_of ps ≡ rs → fuses s.last (pieces_text ps) ≡ false → last_after_gap s.last ps ≡ Separated → b.last ≡ Separated → holds_one s.sheet.semicolons ≡ false → holds_one b.sheet.semicolons ≡ false → holds_semicolons b.sheet.semicolons ≡ holds_semicolons s.sheet.semicolons → allows s.last (pieces_text ps) ≡ true → AtRest b → (all_tame rs ≡ true → is_one_line (pieces_text ps) ≡ true) → LaysWith open_ [] rs s b
unfolding parts.text_of tokens_of remarks_in NoneFuse walk
comment_gap ps bytes rs s b t d u c g m f k l o q h a r w = record {
  out = Gap ps ∷ [];
  laid = Gap ps ∷ [];
  bytes = bytes;
  text = t;
  utf8 = u;
  spells = c ∙ sym (append-nil (pieces_text ps));
  tokens = refl;
  remarks = append-nil (remarks_of ps) ∙ m;
  apart = λ e more n. (g, f, a, subst (λ z. NoneFuse z more) (l ∙ sym k) n);
  reduces = λ more ys e. laid_out s b (Gap ps ∷ []) more ys o q e;
  holds = h;
  whole = λ e. refl;
  cuts = cuts_whole (Gap ps ∷ []) bytes s.sheet b.sheet refl u (c ∙ sym (append-nil (pieces_text ps))) d;
  rest = r;
  fits = λ e. fits_blank (pieces_text ps) (w e) (λ v. refl);
}

apart_after : {v : Spot} (s b : State) (t : List ℕ) → RestsAt v s → Adds t s b → AtRest b
unfolding allows
apart_after s b t r h = record {
  indent_text = ap all_indent h.indent_text ∙ r.indent_text;
  line_end = subst (λ z. IsLineEnd z) (sym h.line_end) r.line_end;
  flowing = h.fills ∙ r.flowing;
  free = λ o e. absurd (true≢false (sym e ∙ h.in_line));
  allowed = λ t. ap (λ k. allows k t) h.last;
}

-- text between what opens and closes a comment
pub block_text : List ℕ → List ℕ
block_text t = codes "/*" ++ (t ++ codes "*/")

slash_utf8 : IsUtf8 (codes "/*")
unfolding chars is_utf8 lib.Utf8.encode
slash_utf8 = IsUtf8-from_is_utf8 (codes "/*") refl

star_utf8 : IsUtf8 (codes "*/")
unfolding chars is_utf8 lib.Utf8.encode
star_utf8 = IsUtf8-from_is_utf8 (codes "*/") refl

slashes_utf8 : IsUtf8 (codes "//")
unfolding chars is_utf8 lib.Utf8.encode
slashes_utf8 = IsUtf8-from_is_utf8 (codes "//") refl

open_chars : chars (codes "/*") ≡ codes "/*"
unfolding chars lib.Utf8.encode
open_chars = refl

close_chars : chars (codes "*/") ≡ codes "*/"
unfolding chars lib.Utf8.encode
close_chars = refl

slashes_chars : chars (codes "//") ≡ codes "//"
unfolding chars lib.Utf8.encode
slashes_chars = refl

three_utf8 : (t u v : List ℕ) → IsUtf8 t → IsUtf8 u → IsUtf8 v → IsUtf8 (t ++ (u ++ v))
three_utf8 t u v h k l = IsUtf8-append t (u ++ v) h (IsUtf8-append u v k l)

three_chars : (t u v : List ℕ) → IsUtf8 t → IsUtf8 u → chars (t ++ (u ++ v)) ≡ chars t ++ (chars u ++ chars v)
three_chars t u v h k = chars-append t (u ++ v) h ∙ ap (λ z. chars t ++ z) (chars-append u v k)

block_pieces : List ℕ → List ℕ → List Piece
block_pieces u t = blanks u ++ BlockOf (chars t) ∷ []

block_spelled : (u t : List ℕ) → all_indent u ≡ true → IsUtf8 t → chars (u ++ block_text t) ≡ pieces_text (block_pieces u t)
unfolding block_text block_pieces pieces_text piece_text
block_spelled u t h k =
    chars-append u (block_text t) (indent_utf8 u h)
    ∙ ap (λ z. z ++ chars (block_text t)) (indent_chars u h ∙ sym (blanks_text u))
    ∙ ap (λ z. pieces_text (blanks u) ++ z) (three_chars (codes "/*") t (codes "*/") slash_utf8 k ∙ ap (λ z. z ++ (chars t ++ chars (codes "*/"))) open_chars ∙ ap (λ z. codes "/*" ++ (chars t ++ z)) close_chars ∙ sym (append-nil (codes "/*" ++ (chars t ++ codes "*/"))))
    ∙ sym (pieces_append (blanks u) (BlockOf (chars t) ∷ []))

block_line : (t : List ℕ) → is_one_line t ≡ true → is_one_line (codes "/*" ++ (t ++ codes "*/")) ≡ true
unfolding is_one_line is_line_end
block_line t h = one_line_append (codes "/*") (t ++ codes "*/") refl (one_line_append t (codes "*/") h refl)

block_tame : (u t : List ℕ) → all_indent u ≡ true → is_one_line (chars t) ≡ true → is_one_line (pieces_text (block_pieces u t)) ≡ true
unfolding block_pieces pieces_text piece_text
block_tame u t h k =
    ap is_one_line (pieces_append (blanks u) (BlockOf (chars t) ∷ []))
    ∙ one_line_append (pieces_text (blanks u)) ((codes "/*" ++ (chars t ++ codes "*/")) ++ []) (indent_one_line u h) (ap is_one_line (append-nil (codes "/*" ++ (chars t ++ codes "*/"))) ∙ block_line (chars t) k)

pub block_lays : (t : List ℕ) (s b : State) → IsUtf8 t → is_open (chars t) ≡ true → fuses s.last (codes "/*") ≡ false → holds_one s.sheet.semicolons ≡ false → RestsAt InName s → Adds (front s.sheet ++ block_text t) s b → LaysWith open_ [] (trivia.Block (chars t) ∷ []) s b
unfolding block_pieces all_pieces is_piece remarks_of all_tame is_tame pieces_text piece_text block_text
block_lays t s b k i f o r h =
    let u : List ℕ = front s.sheet in
    let q = front_indent s.sheet r.indent_text in
    comment_gap (block_pieces u t) (u ++ block_text t) (trivia.Block (chars t) ∷ []) s b h.text h.grows (IsUtf8-append u (block_text t) (indent_utf8 u q) (three_utf8 (codes "/*") t (codes "*/") slash_utf8 k star_utf8)) (block_spelled u t q k)
    (all_append (blanks u) (BlockOf (chars t) ∷ []) (blanks_pieces u q) (and_from (is_open (chars t)) true i refl)) (behind_remarks u (BlockOf (chars t) ∷ []))
    (behind_fuses s.last u (42 ∷ []) _ (BlockOf (chars t) ∷ []) q refl f) (behind_last s.last u (BlockOf (chars t)) []) h.last o h.none_held h.holds (r.allowed _ (behind_dashless u _ (BlockOf (chars t) ∷ []) q refl)) (apart_after s b _ r h)
    (λ e. block_tame u t q (and_parts (is_one_line (chars t)) true e).0)

-- ---- a comment up to the end of its line

pub end_piece : List ℕ → List ℕ → List Piece
end_piece t [] = []
end_piece t (c ∷ cs) = LineOf t c ∷ blanks cs

line_pieces : List ℕ → List ℕ → List ℕ → List Piece
line_pieces u t e = blanks u ++ end_piece (chars t) e

line_text : List ℕ → List ℕ → List ℕ
line_text t e = codes "//" ++ (t ++ e)

-- the line ends behind it
ended_line : (s : State) → s.sheet.at_line_start ≡ false → holds_one s.sheet.semicolons ≡ false → put (Plain Line) s ≡ record s { sheet = record (appended s.sheet.line_end s.sheet) { at_line_start = true }; last = Separated }
unfolding put effect after_plain ended
ended_line s e o =
    ap (λ (z : Sheet). record s { sheet = cond z.at_line_start (record z { pending = None }) (record (appended z.line_end z) { at_line_start = true }); last = Separated }) (unheld_settled s.sheet o)
    ∙ ap (λ b. record s { sheet = cond b (record s.sheet { pending = None }) (record (appended s.sheet.line_end s.sheet) { at_line_start = true }); last = Separated }) e

end_utf8 : (e : List ℕ) → IsLineEnd e → IsUtf8 e
unfolding chars is_utf8 lib.Utf8.encode
end_utf8 e (inl h) = subst IsUtf8 (sym h) (IsUtf8-from_is_utf8 (10 ∷ []) refl)
end_utf8 e (inr h) = subst IsUtf8 (sym h) (IsUtf8-from_is_utf8 (13 ∷ 10 ∷ []) refl)

end_chars : (e : List ℕ) → IsLineEnd e → chars e ≡ e
unfolding chars lib.Utf8.encode
end_chars e (inl h) = ap chars h ∙ sym h
end_chars e (inr h) = ap chars h ∙ sym h

-- what the pieces of its line's end are
pub record EndsWell (t e : List ℕ) : Type 0 where
  pub text : pieces_text (end_piece t e) ≡ codes "//" ++ (t ++ e)
  pub each : is_one_line t ≡ true → all_pieces (end_piece t e) ≡ true
  pub remarks : remarks_of (end_piece t e) ≡ trivia.Line t ∷ []
  pub last : (k : PreviousToken) (u : List ℕ) → last_after_gap k (blanks u ++ end_piece t e) ≡ Separated

end_well : (t e : List ℕ) → IsLineEnd e → EndsWell t e
unfolding end_piece blanks pieces_text piece_text all_pieces is_piece is_line_end is_blank remarks_of
end_well t e (inl h) = subst (λ z. EndsWell t z) (sym h) (record {
  text = append-nil (codes "//" ++ (t ++ 10 ∷ []));
  each = λ o. and_from (is_one_line t && true) true (and_from (is_one_line t) true o refl) refl;
  remarks = refl;
  last = λ k u. behind_last k u (LineOf t 10) [];
})
end_well t e (inr h) = subst (λ z. EndsWell t z) (sym h) (record {
  text = append_assoc (codes "//") (t ++ 13 ∷ []) (10 ∷ []) ∙ ap (λ z. codes "//" ++ z) (append_assoc t (13 ∷ []) (10 ∷ []));
  each = λ o. and_from (is_one_line t && true) true (and_from (is_one_line t) true o refl) refl;
  remarks = refl;
  last = λ k u. behind_last k u (LineOf t 13) (Blank 10 ∷ []);
})

line_spelled : (u t e : List ℕ) → all_indent u ≡ true → IsUtf8 t → IsLineEnd e → chars (u ++ line_text t e) ≡ pieces_text (line_pieces u t e)
unfolding line_text line_pieces
line_spelled u t e h k l =
    chars-append u (line_text t e) (indent_utf8 u h)
    ∙ ap (λ z. z ++ chars (line_text t e)) (indent_chars u h ∙ sym (blanks_text u))
    ∙ ap (λ z. pieces_text (blanks u) ++ z) (three_chars (codes "//") t e slashes_utf8 k ∙ ap (λ z. z ++ (chars t ++ chars e)) slashes_chars ∙ ap (λ z. codes "//" ++ (chars t ++ z)) (end_chars e l) ∙ sym (end_well (chars t) e l).text)
    ∙ sym (pieces_append (blanks u) (end_piece (chars t) e))

line_leaves : {A : Type 0} (f : Sheet → A) → ((s : Sheet) (t : List ℕ) (p : Place) (l : Flow) → f (record s { text = t; place = p; lines = l }) ≡ f s) → (b : State) → f (appended b.sheet.line_end b.sheet) ≡ f b.sheet
line_leaves f k b = appended_leaves f k b.sheet.line_end b.sheet

line_rest : {v : Spot} (s b : State) (t : List ℕ) → RestsAt v s → Adds t s b → AtRest (record b { sheet = record (appended b.sheet.line_end b.sheet) { at_line_start = true }; last = Separated })
unfolding is_free
line_rest s b t r h = record {
  indent_text = ap all_indent (line_leaves (λ z. z.indent_text) (λ z t p l. refl) b ∙ h.indent_text) ∙ r.indent_text;
  line_end = subst (λ z. IsLineEnd z) (sym (line_leaves (λ z. z.line_end) (λ z t p l. refl) b ∙ h.line_end)) r.line_end;
  flowing = (appended_stays b.sheet.line_end b.sheet).fills ∙ h.fills ∙ r.flowing;
  free = λ o e. refl;
  allowed = apart_open;
}

line_closed : (t : List ℕ) (s m : State) → IsUtf8 t → is_one_line (chars t) ≡ true → fuses s.last (codes "//") ≡ false → holds_one s.sheet.semicolons ≡ false → RestsAt InName s → Adds (front s.sheet ++ (codes "//" ++ t)) s m → LaysWith open_ [] (trivia.Line (chars t) ∷ []) s (record m { sheet = record (appended m.sheet.line_end m.sheet) { at_line_start = true }; last = Separated })
unfolding line_text line_pieces all_tame is_tame
line_closed t s m k i f o r h =
    let u : List ℕ = front s.sheet in
    let e : List ℕ = s.sheet.line_end in
    let q = front_indent s.sheet r.indent_text in
    let w = end_well (chars t) e r.line_end in
    comment_gap (line_pieces u t e) (u ++ line_text t e) (trivia.Line (chars t) ∷ []) s _
    (appended_text m.sheet.line_end m.sheet (h.fills ∙ r.flowing) ∙ ap (λ z. m.sheet.text ++ z) h.line_end ∙ ap (λ z. z ++ e) h.text ∙ append_assoc s.sheet.text (u ++ (codes "//" ++ t)) e ∙ ap (λ z. s.sheet.text ++ z) (append_assoc u (codes "//" ++ t) e ∙ ap (λ z. u ++ z) (append_assoc (codes "//") t e)))
    (grows_as ((u ++ (codes "//" ++ t)) ++ m.sheet.line_end) (u ++ (codes "//" ++ (t ++ e))) s.sheet (appended m.sheet.line_end m.sheet)
    (ap (λ z. (u ++ (codes "//" ++ t)) ++ z) h.line_end ∙ append_assoc u (codes "//" ++ t) e ∙ ap (λ z. u ++ z) (append_assoc (codes "//") t e))
    (grows_then (u ++ (codes "//" ++ t)) m.sheet.line_end s.sheet m.sheet (appended m.sheet.line_end m.sheet) h.grows (appended_grows m.sheet.line_end m.sheet)))
    (IsUtf8-append u (line_text t e) (indent_utf8 u q) (three_utf8 (codes "//") t e slashes_utf8 k (end_utf8 e r.line_end))) (line_spelled u t e q k r.line_end)
    (all_append (blanks u) (end_piece (chars t) e) (blanks_pieces u q) (w.each i)) (behind_remarks u (end_piece (chars t) e) ∙ w.remarks)
    (behind_fuses s.last u (47 ∷ []) _ (end_piece (chars t) e) q w.text f) (w.last s.last u) refl o (line_leaves (λ z. holds_one z.semicolons) (λ z t p l. refl) m ∙ h.none_held) (line_leaves (λ z. holds_semicolons z.semicolons) (λ z t p l. refl) m ∙ h.holds) (r.allowed _ (behind_dashless u _ (end_piece (chars t) e) q w.text)) (line_rest s m _ r h)
    (λ z. absurd (true≢false (sym z)))

pub line_lays : (t : List ℕ) (s m : State) → IsUtf8 t → is_one_line (chars t) ≡ true → fuses s.last (codes "//") ≡ false → holds_one s.sheet.semicolons ≡ false → RestsAt InName s → Adds (front s.sheet ++ (codes "//" ++ t)) s m → LaysWith open_ [] (trivia.Line (chars t) ∷ []) s (put (Plain Line) m)
line_lays t s m k i f o r h = subst (λ (z : State). LaysWith open_ [] (trivia.Line (chars t) ∷ []) s z) (sym (ended_line m h.in_line h.none_held)) (line_closed t s m k i f o r h)

-- ---- the calls of a comment, one after the other

-- what opens it, and its text
adds_opened : (x y : ℕ) (t : List ℕ) (s : State) → holds_one s.sheet.semicolons ≡ false → fills_lines s.sheet.lines ≡ false → Adds (front s.sheet ++ (x ∷ y ∷ t)) s (put (CommentText t) (put (Plain (Comment (x ∷ y ∷ []))) s))
adds_opened x y t s o n =
    let there : State = put (Plain (Comment (x ∷ y ∷ []))) s in
    let h = adds_opening x (y ∷ []) s o n in
    let P : List ℕ → Type 0 = λ z. Adds z s (put (CommentText t) there) in
    subst P (append_assoc (front s.sheet) (x ∷ y ∷ []) t) (adds_then _ t s there _ h (adds_text t there h.in_line h.none_held (h.fills ∙ n)))

-- and a position
adds_noted : (pos : BytePos) (t : List ℕ) (s b : State) → Adds t s b → Adds t s (put (Plain (Position pos)) b)
adds_noted pos t s b h = let P : List ℕ → Type 0 = λ z. Adds z s (put (Plain (Position pos)) b) in subst P (append-nil t) (adds_then t [] s b _ h (adds_position pos b h.in_line h.none_held h.last))

-- and what closes it
adds_closed : (u t : List ℕ) (s b : State) → fills_lines s.sheet.lines ≡ false → Adds (u ++ (codes "/*" ++ t)) s b → Adds (u ++ block_text t) s (put (Plain (Comment (codes "*/"))) b)
unfolding block_text
adds_closed u t s b n h =
    let P : List ℕ → Type 0 = λ z. Adds z s (put (Plain (Comment (codes "*/"))) b) in
    subst P (append_assoc u (codes "/*" ++ t) (codes "*/") ∙ ap (λ z. u ++ z) (append_assoc (codes "/*") t (codes "*/"))) (adds_then _ (codes "*/") s b _ h (adds_piece (codes "*/") b h.in_line h.none_held (h.fills ∙ n)))

-- a semicolon that is held back is written before it
opens_settled : (t : List ℕ) (s : State) → put (Plain (Comment t)) (settle s) ≡ put (Plain (Comment t)) s
unfolding put effect after_plain
opens_settled t s = ap (λ (z : Sheet). record s { sheet = written None t z; last = Separated }) (unheld_settled (settled s.sheet) (settled_none s.sheet))

-- behind the blank that is due, where nothing is held back
guarded : {rs : List Remark} (g : List ℕ) (s b : State) → chars g ≡ g → RestsAt InName s → ((m : State) → m ≡ settle (put (Guard g) s) → RestsAt InName m → holds_one m.sheet.semicolons ≡ false → fuses m.last g ≡ false → LaysWith open_ [] rs m b) → LaysWith open_ [] rs s b
guarded g s b e r f =
    let there : State = put (Guard g) s in
    let l = named_guard g s r in
    lays_then [] [] s there b l (lays_settled there b [] l.rest (f (settle there) refl (settle_named there l.rest) (settled_none there.sheet) (ap (fuses there.last) (sym e) ∙ after_guard g s)))

-- `// a`
line_from : (t : List ℕ) (m : State) → IsUtf8 t → is_one_line (chars t) ≡ true → RestsAt InName m → holds_one m.sheet.semicolons ≡ false → fuses m.last (codes "//") ≡ false → LaysWith open_ [] (trivia.Line (chars t) ∷ []) m (put (Plain Line) (put (CommentText t) (put (Plain (Comment (codes "//"))) m)))
line_from t m k i r o f = line_lays t m _ k i f o r (adds_opened 47 47 t m o r.flowing)

line_noted : (pos : BytePos) (t : List ℕ) (m : State) → IsUtf8 t → is_one_line (chars t) ≡ true → RestsAt InName m → holds_one m.sheet.semicolons ≡ false → fuses m.last (codes "//") ≡ false → LaysWith open_ [] (trivia.Line (chars t) ∷ []) m (put (Plain Line) (put (Plain (Position pos)) (put (CommentText t) (put (Plain (Comment (codes "//"))) m))))
line_noted pos t m k i r o f = line_lays t m _ k i f o r (adds_noted pos _ m _ (adds_opened 47 47 t m o r.flowing))

pub lays_line_comment : (t : List ℕ) (s : State) → IsUtf8 t → is_one_line (chars t) ≡ true → RestsAt InName s → LaysWith open_ [] (trivia.Line (chars t) ∷ []) s (put (Plain Line) (put (CommentText t) (put (Plain (Comment (codes "//"))) (put (Guard (codes "//")) s))))
lays_line_comment t s k i r = guarded (codes "//") s _ slashes_chars r (λ m e q o f.
    let there : State = put (Guard (codes "//")) s in
    let P : State → Type 0 = λ z. LaysWith open_ [] (trivia.Line (chars t) ∷ []) m (put (Plain Line) (put (CommentText t) z)) in
    subst P (ap (put (Plain (Comment (codes "//")))) e ∙ opens_settled (codes "//") there) (line_from t m k i q o f))

pub lays_line_noted : (pos : BytePos) (t : List ℕ) (s : State) → IsUtf8 t → is_one_line (chars t) ≡ true → RestsAt InName s → LaysWith open_ [] (trivia.Line (chars t) ∷ []) s (put (Plain Line) (put (Plain (Position pos)) (put (CommentText t) (put (Plain (Comment (codes "//"))) (put (Guard (codes "//")) s)))))
lays_line_noted pos t s k i r = guarded (codes "//") s _ slashes_chars r (λ m e q o f.
    let there : State = put (Guard (codes "//")) s in
    let P : State → Type 0 = λ z. LaysWith open_ [] (trivia.Line (chars t) ∷ []) m (put (Plain Line) (put (Plain (Position pos)) (put (CommentText t) z))) in
    subst P (ap (put (Plain (Comment (codes "//")))) e ∙ opens_settled (codes "//") there) (line_noted pos t m k i q o f))

-- `/* a */`
block_from : (t : List ℕ) (m : State) → IsUtf8 t → is_open (chars t) ≡ true → RestsAt InName m → holds_one m.sheet.semicolons ≡ false → fuses m.last (codes "/*") ≡ false → LaysWith open_ [] (trivia.Block (chars t) ∷ []) m (put (Plain (Comment (codes "*/"))) (put (CommentText t) (put (Plain (Comment (codes "/*"))) m)))
block_from t m k i r o f = block_lays t m _ k i f o r (adds_closed (front m.sheet) t m _ r.flowing (adds_opened 47 42 t m o r.flowing))

block_noted : (pos : BytePos) (t : List ℕ) (m : State) → IsUtf8 t → is_open (chars t) ≡ true → RestsAt InName m → holds_one m.sheet.semicolons ≡ false → fuses m.last (codes "/*") ≡ false → LaysWith open_ [] (trivia.Block (chars t) ∷ []) m (put (Plain (Comment (codes "*/"))) (put (Plain (Position pos)) (put (CommentText t) (put (Plain (Comment (codes "/*"))) m))))
block_noted pos t m k i r o f = block_lays t m _ k i f o r (adds_closed (front m.sheet) t m _ r.flowing (adds_noted pos _ m _ (adds_opened 47 42 t m o r.flowing)))

pub lays_block_comment : (t : List ℕ) (s : State) → IsUtf8 t → is_open (chars t) ≡ true → RestsAt InName s → LaysWith open_ [] (trivia.Block (chars t) ∷ []) s (put (Plain (Comment (codes "*/"))) (put (CommentText t) (put (Plain (Comment (codes "/*"))) (put (Guard (codes "/*")) s))))
lays_block_comment t s k i r = guarded (codes "/*") s _ open_chars r (λ m e q o f.
    let there : State = put (Guard (codes "/*")) s in
    let P : State → Type 0 = λ z. LaysWith open_ [] (trivia.Block (chars t) ∷ []) m (put (Plain (Comment (codes "*/"))) (put (CommentText t) z)) in
    subst P (ap (put (Plain (Comment (codes "/*")))) e ∙ opens_settled (codes "/*") there) (block_from t m k i q o f))

pub lays_block_noted : (pos : BytePos) (t : List ℕ) (s : State) → IsUtf8 t → is_open (chars t) ≡ true → RestsAt InName s → LaysWith open_ [] (trivia.Block (chars t) ∷ []) s (put (Plain (Comment (codes "*/"))) (put (Plain (Position pos)) (put (CommentText t) (put (Plain (Comment (codes "/*"))) (put (Guard (codes "/*")) s)))))
lays_block_noted pos t s k i r = guarded (codes "/*") s _ open_chars r (λ m e q o f.
    let there : State = put (Guard (codes "/*")) s in
    let P : State → Type 0 = λ z. LaysWith open_ [] (trivia.Block (chars t) ∷ []) m (put (Plain (Comment (codes "*/"))) (put (Plain (Position pos)) (put (CommentText t) z))) in
    subst P (ap (put (Plain (Comment (codes "/*")))) e ∙ opens_settled (codes "/*") there) (block_noted pos t m k i q o f))

-- the blank before a comment
pub lays_comment_blank : (s : State) → AtRest s → LaysWith open_ [] [] s (put (Plain (Comment (codes " "))) s)
unfolding put effect after_plain
lays_comment_blank s r = lays_blank s r
