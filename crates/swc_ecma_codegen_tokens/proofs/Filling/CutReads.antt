-- What a text reads as that was cut where breaks are allowed, with line ends at some of these places.
use Rattle.std.proofs.Common.{◌≡◌, ℕ, Bool, true, false, cond, List, [], ◌∷◌, ◌++◌, refl, sym, ap, ◌∙◌, subst, append_assoc, inl, inr}
use Rattle.std.specs.Str.{chars, is_utf8, IsUtf8}
use Rattle.std.proofs.lemmas.Str.{chars-nil, chars-append, IsUtf8-nil, IsUtf8-append, IsUtf8-from_is_utf8}
use Rattle.swc_ecma_codegen_grammar.specs.LineEnds.{IsNewLine, segments, ended_text, segments_in}
use Rattle.swc_ecma_codegen_grammar.specs.Parts.{tokens_of, remarks_in}
use Rattle.swc_ecma_codegen_grammar.specs.Phrases.{Phrase, Generates}
use Rattle.swc_ecma_codegen_grammar.specs.Reads.{Reads}
use Rattle.swc_ecma_codegen_grammar.specs.Tokens as lexical
use Rattle.swc_ecma_codegen_grammar.specs.Trivia.{Remark, Piece, Blank, piece_text, pieces_text}
use Rattle.swc_ecma_codegen_grammar.proofs.LineEnds.{reads_cut}
use Rattle.swc_ecma_codegen_text_writer.specs.Filling as filling
use Rattle.swc_ecma_codegen_text_writer.specs.Filling.{segments_of, part_text}
use Rattle.swc_ecma_codegen_text_writer.specs.Runs.{texts_in}
use Rattle.swc_ecma_codegen_text_writer.specs.Sheet.{Segment, no_segment, text_in, Cutting, holds_semicolons}
use Rattle.swc_ecma_codegen_settings.specs.declared.config.Config.{Config}
use Rattle.swc_ecma_codegen_tokens.specs.Run.{State}
use Rattle.swc_ecma_codegen_tokens.specs.Settings.{settings_of}
use Rattle.swc_ecma_codegen_tokens.specs.Written.{IsLineEnd, IsNew, IsAtMargin, ReadsAs, without_joints}
use Rattle.swc_ecma_codegen_tokens.proofs.Filling.Cuts.{AreUtf8, decoded, whole_segments}
use Rattle.swc_ecma_codegen_tokens.proofs.Filling.Jointless.{cut_without}
use Rattle.swc_ecma_codegen_tokens.proofs.Reading.Laid.{LaysWith}
use Rattle.swc_ecma_codegen_tokens.proofs.Reading.Phrased.{laid_alone}
use Rattle.swc_ecma_codegen_tokens.proofs.Filling.Shapes.{unbroken_at}

-- ---- bytes and characters

-- each of some texts, as characters
unfoldable pub each_chars : List (List ℕ) → List (List ℕ)
each_chars [] = []
each_chars (t ∷ ts) = chars t ∷ each_chars ts

unfoldable pub EachUtf8 : List (List ℕ) → Type 0
EachUtf8 [] = Unit {0}
EachUtf8 (t ∷ ts) = IsUtf8 t × EachUtf8 ts

pub decoded_texts : (gs : List Segment) → decoded gs ≡ each_chars (texts_in gs)
unfolding decoded each_chars texts_in
decoded_texts [] = refl
decoded_texts (g ∷ gs) = ap (λ z. chars (text_in g) ∷ z) (decoded_texts gs)

pub utf8_texts : (gs : List Segment) → AreUtf8 gs → EachUtf8 (texts_in gs)
unfolding AreUtf8 EachUtf8 texts_in
utf8_texts [] h = tt
utf8_texts (g ∷ gs) h = (h.0, utf8_texts gs h.1)

-- segments with line ends before some of them
unfoldable pub as_chars : List filling.Part → List (Bool × List ℕ)
as_chars [] = []
as_chars (x ∷ xs) = (x.ended, chars x.segment) ∷ as_chars xs

pub segments_as_chars : (xs : List filling.Part) → segments_in (as_chars xs) ≡ each_chars (segments_of xs)
unfolding segments_in as_chars each_chars segments_of
segments_as_chars [] = refl
segments_as_chars (x ∷ xs) = ap (λ z. chars x.segment ∷ z) (segments_as_chars xs)

pub line_utf8 : (e : List ℕ) → IsLineEnd e → IsUtf8 e
unfolding chars is_utf8 lib.Utf8.encode
line_utf8 e (inl h) = subst IsUtf8 (sym h) (IsUtf8-from_is_utf8 (10 ∷ []) refl)
line_utf8 e (inr h) = subst IsUtf8 (sym h) (IsUtf8-from_is_utf8 (13 ∷ 10 ∷ []) refl)

line_chars : (e : List ℕ) → IsLineEnd e → chars e ≡ e
unfolding chars lib.Utf8.encode
line_chars e (inl h) = ap chars h ∙ sym h
line_chars e (inr h) = ap chars h ∙ sym h

part_utf8 : (e : List ℕ) (b : Bool) (t : List ℕ) → IsUtf8 e → IsUtf8 t → IsUtf8 (part_text e b t)
unfolding part_text
part_utf8 e true t h k = IsUtf8-append e t h k
part_utf8 e false t h k = k

part_chars : (e : List ℕ) (b : Bool) (t : List ℕ) → IsUtf8 e → chars (part_text e b t) ≡ cond b (chars e) [] ++ chars t
unfolding part_text
part_chars e true t h = chars-append e t h
part_chars e false t h = refl

filled_utf8 : (e : List ℕ) (xs : List filling.Part) → IsUtf8 e → EachUtf8 (segments_of xs) → IsUtf8 (filling.text_of e xs)
unfolding EachUtf8 segments_of filling.text_of
filled_utf8 e [] h k = IsUtf8-nil
filled_utf8 e (x ∷ xs) h k = IsUtf8-append (part_text e x.ended x.segment) (filling.text_of e xs) (part_utf8 e x.ended x.segment h k.0) (filled_utf8 e xs h k.1)

pub filled_chars : (e : List ℕ) (xs : List filling.Part) → IsLineEnd e → EachUtf8 (segments_of xs) → chars (filling.text_of e xs) ≡ ended_text e (as_chars xs)
unfolding EachUtf8 segments_of filling.text_of as_chars ended_text
filled_chars e [] h k = chars-nil
filled_chars e (x ∷ xs) h k =
    let u = line_utf8 e h in
    chars-append (part_text e x.ended x.segment) (filling.text_of e xs) (part_utf8 e x.ended x.segment u k.0)
    ∙ ap (λ z. z ++ chars (filling.text_of e xs)) (part_chars e x.ended x.segment u)
    ∙ ap (λ z. (cond x.ended z [] ++ chars x.segment) ++ chars (filling.text_of e xs)) (line_chars e h)
    ∙ ap (λ z. (cond x.ended e [] ++ chars x.segment) ++ z) (filled_chars e xs h k.1)
    ∙ append_assoc (cond x.ended e []) (chars x.segment) (ended_text e (as_chars xs))

-- a line end of a writer, as one of the grammar
pub record AsLine (e : List ℕ) : Type 0 where
  pub line : List Piece
  pub is_line : IsNewLine line
  pub text : pieces_text line ≡ e

pub as_line : (e : List ℕ) → IsLineEnd e → AsLine e
unfolding pieces_text piece_text
as_line e (inl h) = record { line = Blank 10 ∷ []; is_line = inl refl; text = sym h }
as_line e (inr h) = record { line = Blank 13 ∷ Blank 10 ∷ []; is_line = inr refl; text = sym h }

-- ---- the whole text

-- a text that reads as these tokens, those of what was asked for
pub record CutReading (config : Config) (holds : Bool) (f : Phrase) (rs : List Remark) (text : List ℕ) (ts : List lexical.Token) : Type 0 where
  pub reading : ReadsAs config holds f rs text
  pub tokens : reading.tokens ≡ ts

-- An emission over a sheet that is cut: with line ends before any of its segments but the first, its text reads as without.
pub cut_reads : {rs : List Remark} (anywhere : Bool) (config : Config) (f : Phrase) (ts : List lexical.Token) (a b : State) → Generates (settings_of config) f ts → IsNew a → (anywhere ≡ false → IsAtMargin a) → LaysWith (unbroken_at anywhere) ts rs a b →
    (done : List Segment) (begun : Segment) → a.sheet.lines ≡ Cutting [] no_segment → b.sheet.lines ≡ Cutting done begun → (first : List ℕ) (xs : List filling.Part) → texts_in (done ++ (begun ∷ [])) ≡ (first ∷ segments_of xs) →
    CutReading config (holds_semicolons a.sheet.semicolons) f rs (first ++ filling.text_of a.sheet.line_end xs) ts
unfolding each_chars EachUtf8
cut_reads {rs} anywhere config f ts a b g n m l done begun i o first xs e =
    let alone = laid_alone anywhere ts a b n m l in
    let s = whole_segments l.laid done begun b.sheet.lines (l.cuts [] no_segment i) o in
    let end : List ℕ = a.sheet.line_end in
    let line = as_line end n.line_end in
    let each : EachUtf8 (first ∷ segments_of xs) = subst EachUtf8 e (utf8_texts (done ++ (begun ∷ [])) s.utf8) in
    let cuts : segments l.laid [] ≡ (chars first ∷ segments_in (as_chars xs)) = s.same ∙ decoded_texts (done ++ (begun ∷ [])) ∙ ap each_chars e ∙ ap (λ z. chars first ∷ z) (sym (segments_as_chars xs)) in
    let same : chars first ++ ended_text (pieces_text line.line) (as_chars xs) ≡ chars (first ++ filling.text_of end xs) =
    ap (λ z. chars first ++ ended_text z (as_chars xs)) line.text ∙ ap (λ z. chars first ++ z) (sym (filled_chars end xs n.line_end each.1)) ∙ sym (chars-append first (filling.text_of end xs) each.0) in
    record {
      tokens = refl;
      reading = record {
        utf8 = IsUtf8-append first (filling.text_of end xs) each.0 (filled_utf8 end xs (line_utf8 end n.line_end) each.1);
        tokens = ts;
        is_list = g;
        written = tokens_of l.laid;
        reduced = alone.reduced;
        whole = λ h. ap tokens_of (l.whole h) ∙ l.tokens;
        reads = subst (λ z. Reads (chars (first ++ filling.text_of end xs)) (without_joints (tokens_of l.laid)) z) l.remarks
            (subst (λ z. Reads z (without_joints (tokens_of l.laid)) (remarks_in l.laid)) same (cut_without line.line l.laid (chars first) (as_chars xs) line.is_line alone.apart cuts));
        keeps_lines = λ t. subst (λ z. Reads (chars (first ++ filling.text_of end xs)) (tokens_of l.laid) z) l.remarks
            (subst (λ z. Reads z (tokens_of l.laid) (remarks_in l.laid)) same (reads_cut line.line l.laid (chars first) (as_chars xs) line.is_line alone.apart (alone.lines t) cuts));
      };
    }
