-- Where names stand in a text with a greatest line length.
use Rattle.std.proofs.Common.{◌≡◌, ℕ, Bool, true, false, List, [], ◌∷◌, ◌++◌, refl, sym, ap, ◌∙◌, subst, append_assoc, append-nil, inl, inr, ◌==◌}
use Rattle.std.specs.Str.{chars}
use Rattle.std.proofs.lemmas.Bool.{cases_Bool, eqb-true}
use Rattle.std.proofs.lemmas.Str.{chars-append}
use Rattle.swc_ecma_codegen_common.specs.declared.positions.BytePos.{BytePos}
use Rattle.swc_ecma_codegen_grammar.specs.GapRules.{Start}
use Rattle.swc_ecma_codegen_grammar.specs.LineEnds.{segments, ended_text, segments_in}
use Rattle.swc_ecma_codegen_grammar.specs.Parts as parts
use Rattle.swc_ecma_codegen_grammar.specs.Parts.{NoneFuse, tokens_of, remarks_in}
use Rattle.swc_ecma_codegen_grammar.specs.Phrases.{PlacedName}
use Rattle.swc_ecma_codegen_grammar.specs.Reads.{Reads}
use Rattle.swc_ecma_codegen_grammar.specs.Tokens.{Token}
use Rattle.swc_ecma_codegen_grammar.specs.Trivia.{pieces_text}
use Rattle.swc_ecma_codegen_text_writer.specs.Filling as filling
use Rattle.swc_ecma_codegen_text_writer.specs.Filling.{segments_of, text_of, part_text}
use Rattle.swc_ecma_codegen_text_writer.specs.Places.{Place, after_text}
use Rattle.swc_ecma_codegen_text_writer.specs.Runs.{texts_in, segments_released, cut_from_here}
use Rattle.swc_ecma_codegen_text_writer.specs.Sheet.{Sheet, Pair, Segment, with_text, text_in, notes_text, Cutting, has_pair, pair_at, ends_before, released, line_ended, segment_released}
use Rattle.swc_ecma_codegen_text_writer.proofs.Added.{Adds, adds_nothing, adds_then, adds_same, segment_adds}
use Rattle.swc_ecma_codegen_text_writer.proofs.Cuts.{GoOn, still_last, followed, Longer, NoteAt, longer_text}
use Rattle.swc_ecma_codegen_text_writer.proofs.Noted.{kept_pairs, position_has}
use Rattle.swc_ecma_codegen_text_writer.proofs.Reaching.{after_both}
use Rattle.swc_ecma_codegen_text_writer.proofs.Released.{released_parts, parts_add, parts_segments, released_append, texts_append, segments_append}
use Rattle.swc_ecma_codegen_text_writer.proofs.Twins.{text-more}
use Rattle.swc_ecma_codegen_settings.specs.declared.config.Config.{Config}
use Rattle.swc_ecma_codegen_tokens.specs.Named.{IsRecorded, StandsAfter}
use Rattle.swc_ecma_codegen_tokens.specs.Targets.{written_as}
use Rattle.swc_ecma_codegen_tokens.specs.Written.{IsLineEnd, without_joints}
use Rattle.swc_ecma_codegen_tokens.proofs.Filling.CutReads.{each_chars, EachUtf8, decoded_texts, utf8_texts, as_chars, segments_as_chars, filled_chars, as_line}
use Rattle.swc_ecma_codegen_tokens.proofs.Filling.CutStanding.{CutHere, StandsHere}
use Rattle.swc_ecma_codegen_tokens.proofs.Filling.Cuts.{AreUtf8, decoded}
use Rattle.swc_ecma_codegen_tokens.proofs.Filling.Jointless.{cut_without}

-- ---- the segment of a name, among all

pub record Among (done : List Segment) (begun : Segment) (all : List Segment) : Type 0 where
  pub segment : Segment
  pub later : List Segment
  pub split : all ≡ done ++ (segment ∷ later)
  pub longer : Longer begun segment

pub among : (done : List Segment) (begun : Segment) (ds : List Segment) (last : Segment) → GoOn done begun (Cutting ds last) → Among done begun (ds ++ (last ∷ []))
among done begun ds last (still_last held l k) =
    let f : ds ≡ done = cc l in
    let e : last ≡ held = cc l in
    record { segment = last; later = []; split = ap (λ z. z ++ (last ∷ [])) f; longer = subst (λ z. Longer begun z) (sym e) k }
among done begun ds last (followed g gs held l k) =
    let f : ds ≡ done ++ (g ∷ gs) = cc l in
    record { segment = g; later = gs ++ (last ∷ []); split = ap (λ z. z ++ (last ∷ [])) f ∙ append_assoc done (g ∷ gs) (last ∷ []); longer = k }

-- ---- what goes out before it

parts_both : (e : List ℕ) (xs ys : List filling.Part) → text_of e (xs ++ ys) ≡ text_of e xs ++ text_of e ys
unfolding text_of
parts_both e [] ys = refl
parts_both e (x ∷ xs) ys = ap (λ z. part_text e x.ended x.segment ++ z) (parts_both e xs ys) ∙ sym (append_assoc (part_text e x.ended x.segment) (text_of e xs) (text_of e ys))

one_segment : (x : filling.Part) → segments_of (x ∷ []) ≡ x.segment ∷ []
unfolding segments_of
one_segment x = refl

one_text : (e : List ℕ) (x : filling.Part) → text_of e (x ∷ []) ≡ part_text e x.ended x.segment
unfolding text_of
one_text e x = append-nil (part_text e x.ended x.segment)

one_in : (t : Segment) → texts_in (t ∷ []) ≡ text_in t ∷ []
unfolding texts_in
one_in t = refl

-- Some segments went out, and their text, with a text of the next one behind it, reads as the parts whose segments they are.
record Front (max : ℕ) (old : Sheet) (done : List Segment) : Type 0 where
  so_far : Sheet
  first : Bool
  text : List ℕ
  adds : Adds text old so_far
  goes_on : (g : Segment) (gs : List Segment) → segments_released max true (done ++ (g ∷ gs)) old ≡ segments_released max false gs (segment_released max first g so_far)
  reads :
      (g : Segment) (t : List ℕ) (laid : List parts.Part) → NoneFuse Start laid → EachUtf8 (texts_in done ++ (t ∷ [])) → segments laid [] ≡ each_chars (texts_in done ++ (t ∷ [])) →
      Reads (chars (text ++ part_text old.line_end (ends_before max first g so_far) t)) (without_joints (tokens_of laid)) (remarks_in laid)

front_none : (max : ℕ) (old : Sheet) → IsLineEnd old.line_end → Front max old []
unfolding segments_released texts_in each_chars EachUtf8 part_text ends_before segments_in ended_text
front_none max old e = record {
  so_far = old;
  first = true;
  text = [];
  adds = adds_nothing old;
  goes_on = λ g gs. refl;
  reads = λ g t laid n u h.
      let line = as_line old.line_end e in
      subst (λ z. Reads z (without_joints (tokens_of laid)) (remarks_in laid)) (append-nil (chars t)) (cut_without line.line laid (chars t) [] line.is_line n h);
}

front_first : (max : ℕ) (d : Segment) (old : Sheet) → Adds (text_in d) old (segment_released max true d old)
unfolding ends_before part_text
front_first max d old = segment_adds max true d old

front_some : (max : ℕ) (old : Sheet) (d : Segment) (ds : List Segment) → IsLineEnd old.line_end → Front max old (d ∷ ds)
unfolding segments_released texts_in each_chars EachUtf8
front_some max old d ds e =
    let there : Sheet = segment_released max true d old in
    let next : Sheet = segments_released max false ds there in
    let xs : List filling.Part = released_parts max ds there in
    let a : Adds (text_in d) old there = front_first max d old in
    let b : Adds (text_of old.line_end xs) there next = adds_same (text_of old.line_end xs) there next (ap (λ z. text_of z xs) a.line_end) (parts_add max ds there) in
    record {
      so_far = next;
      first = false;
      text = text_in d ++ text_of old.line_end xs;
      adds = adds_then old there next a b;
      goes_on = λ g gs. released_append max ds (g ∷ gs) there;
      reads = λ g t laid n u h.
          let end : List ℕ = old.line_end in
          let line = as_line end e in
          let last : filling.Part = record { ended = ends_before max false g next; segment = t } in
          let ys : List filling.Part = xs ++ (last ∷ []) in
          let is_ys : segments_of ys ≡ texts_in ds ++ (t ∷ []) = segments_append xs (last ∷ []) ∙ ap (λ z. segments_of xs ++ z) (one_segment last) ∙ ap (λ z. z ++ (t ∷ [])) (parts_segments max ds there) in
          let each : EachUtf8 (segments_of ys) = subst EachUtf8 (sym is_ys) u.1 in
          let cuts : segments laid [] ≡ (chars (text_in d) ∷ segments_in (as_chars ys)) = h ∙ ap (λ z. chars (text_in d) ∷ z) (ap each_chars (sym is_ys) ∙ sym (segments_as_chars ys)) in
          let spelled : chars (text_in d) ++ ended_text (pieces_text line.line) (as_chars ys) ≡ chars (text_in d ++ text_of end ys) =
          ap (λ z. chars (text_in d) ++ ended_text z (as_chars ys)) line.text ∙ ap (λ z. chars (text_in d) ++ z) (sym (filled_chars end ys e each)) ∙ sym (chars-append (text_in d) (text_of end ys) u.0) in
          let whole : text_in d ++ text_of end ys ≡ (text_in d ++ text_of end xs) ++ part_text end last.ended t =
          ap (λ z. text_in d ++ z) (parts_both end xs (last ∷ []) ∙ ap (λ z. text_of end xs ++ z) (one_text end last)) ∙ sym (append_assoc (text_in d) (text_of end xs) (part_text end last.ended t)) in
          subst (λ z. Reads (chars z) (without_joints (tokens_of laid)) (remarks_in laid)) whole
          (subst (λ z. Reads z (without_joints (tokens_of laid)) (remarks_in laid)) spelled (cut_without line.line laid (chars (text_in d)) (as_chars ys) line.is_line n cuts));
    }

front_of : (max : ℕ) (old : Sheet) (done : List Segment) → IsLineEnd old.line_end → Front max old done
front_of max old [] e = front_none max old e
front_of max old (d ∷ ds) e = front_some max old d ds e

-- ---- the name

pub part_more : (e : List ℕ) (b : Bool) (t u : List ℕ) → part_text e b (t ++ u) ≡ part_text e b t ++ u
unfolding part_text
part_more e true t u = sym (append_assoc e t u)
part_more e false t u = refl

-- the place behind a line end, if any, and a text
pub ended_place : (b : Bool) (t : List ℕ) (s : Sheet) → after_text t (line_ended b s).place ≡ after_text (part_text s.line_end b t) s.place
unfolding line_ended released part_text
ended_place true t s = sym (after_both s.line_end t s.place)
ended_place false t s = refl

-- a position that is noted in a segment is recorded where it stands
pub note_recorded : (max : ℕ) (first : Bool) (pos : BytePos) (g : Segment) (gs : List Segment) (before : List ℕ) (s : Sheet) → (pos.0 == 0) ≡ false → NoteAt pos g before →
    has_pair (pair_at pos (after_text before (line_ended (ends_before max first g s) s).place)) (segments_released max false gs (segment_released max first g s)).pairs ≡ true
note_recorded max first pos g gs before s n h =
    let P : Segment → Type 0 = λ z. has_pair (pair_at pos (after_text (notes_text h.some ++ h.text) (line_ended (ends_before max first z s) s).place)) (segment_released max first z s).pairs ≡ true in
    let there : P g = subst (λ z. P (record { noted = z; rest = g.rest })) (sym h.noted) (position_has max first h.some h.more h.text g.rest pos s n) in
    kept_pairs max false gs (segment_released max first g s) _ (subst (λ z. has_pair (pair_at pos (after_text z (line_ended (ends_before max first g s) s).place)) (segment_released max first g s).pairs ≡ true) (sym h.is_before) there)

-- A name that stands in the segments of a sheet that was cut stands in the text that has these, with a greatest line length.
pub filled_name : (max : ℕ) (config : Config) (old cut new : Sheet) (ds : List Segment) (last : Segment) (us : List Token) (token : Token) (x : PlacedName) → IsLineEnd old.line_end → cut.lines ≡ Cutting ds last →
    new.text ≡ (segments_released max true (ds ++ (last ∷ [])) old).text → new.pairs ≡ (segments_released max true (ds ++ (last ∷ [])) old).pairs →
    StandsHere config (cut_from_here old) cut us token x → StandsAfter config old new us token x
filled_name max config old cut new ds last us token x e lines is_released pairs s =
    let name : List ℕ = written_as config x in
    let h : CutHere x name s.stands.written token s.stands.remarks cut = s.cut refl in
    let q : Among h.done (with_text name h.held) (ds ++ (last ∷ [])) = among h.done (with_text name h.held) ds last (subst (λ z. GoOn h.done (with_text name h.held) z) lines h.goes_on) in
    let f : Front max old h.done = front_of max old h.done e in
    let g : Segment = q.segment in
    let b : Bool = ends_before max f.first g f.so_far in
    let held : List ℕ = text_in h.held in
    let before : List ℕ = f.text ++ part_text old.line_end b held in
    let there : Sheet = segment_released max f.first g f.so_far in
    let all : Sheet = segments_released max false q.later there in
    let is_all : segments_released max true (ds ++ (last ∷ [])) old ≡ all = ap (λ z. segments_released max true z old) q.split ∙ f.goes_on g q.later in
    let a = segment_adds max f.first g f.so_far in
    let r = parts_add max q.later there in
    let rest : List ℕ = text_of there.line_end (released_parts max q.later there) in
    let in_g : text_in g ≡ held ++ (name ++ q.longer.added) = q.longer.text ∙ ap (λ z. z ++ q.longer.added) (text-more h.held name) ∙ append_assoc held name q.longer.added in
    let part : part_text f.so_far.line_end b (text_in g) ≡ part_text old.line_end b held ++ (name ++ q.longer.added) = ap (λ z. part_text z b (text_in g)) f.adds.line_end ∙ ap (part_text old.line_end b) in_g ∙ part_more old.line_end b held (name ++ q.longer.added) in
    let whole : Adds (f.text ++ (part_text f.so_far.line_end b (text_in g) ++ rest)) old all = adds_then old f.so_far all f.adds (adds_then f.so_far there all a r) in
    let spelled : f.text ++ (part_text f.so_far.line_end b (text_in g) ++ rest) ≡ before ++ (name ++ (q.longer.added ++ rest)) =
    ap (λ z. f.text ++ (z ++ rest)) part
    ∙ ap (λ z. f.text ++ z) (append_assoc (part_text old.line_end b held) (name ++ q.longer.added) rest ∙ ap (λ z. part_text old.line_end b held ++ z) (append_assoc name q.longer.added rest))
    ∙ sym (append_assoc f.text (part_text old.line_end b held) (name ++ (q.longer.added ++ rest))) in
    let note : NoteAt x.at h.held held → NoteAt x.at g held = λ n. q.longer.notes x.at held ((longer_text name h.held).notes x.at held n) in
    let place : after_text held (line_ended b f.so_far).place ≡ after_text before old.place =
    ended_place b held f.so_far ∙ ap (λ z. after_text (part_text z b held) f.so_far.place) f.adds.line_end ∙ ap (after_text (part_text old.line_end b held)) f.adds.place ∙ sym (after_both f.text (part_text old.line_end b held) old.place) in
    let recorded : IsRecorded x.at (after_text before old.place) all.pairs =
    elim (cases_Bool (x.at.0 == 0)) [
      | inl z ↦ inl (eqb-true x.at.0 0 z)
      | inr z ↦
          elim h.noted [
            | inl y ↦ inl y
            | inr n ↦ inr (subst (λ (p : Place). has_pair (pair_at x.at p) all.pairs ≡ true) place (note_recorded max f.first x.at g q.later held f.so_far z (note n)))
          ]
    ] in
    let texts : (t : Segment) → decoded (h.done ++ (t ∷ [])) ≡ each_chars (texts_in h.done ++ (text_in t ∷ [])) = λ t. decoded_texts (h.done ++ (t ∷ [])) ∙ ap each_chars (texts_append h.done (t ∷ []) ∙ ap (λ z. texts_in h.done ++ z) (one_in t)) in
    let each : (t : Segment) → AreUtf8 (h.done ++ (t ∷ [])) → EachUtf8 (texts_in h.done ++ (text_in t ∷ [])) = λ t u. subst EachUtf8 (texts_append h.done (t ∷ []) ∙ ap (λ z. texts_in h.done ++ z) (one_in t)) (utf8_texts (h.done ++ (t ∷ [])) u) in
    let reads_before = f.reads g held h.laid h.apart (each h.held h.utf8) (h.same ∙ texts h.held) in
    let reads_with = f.reads g (text_in (with_text name h.held)) h.laid_with h.apart_with (each (with_text name h.held) h.utf8_with) (h.same_with ∙ texts (with_text name h.held)) in
    let with_name : f.text ++ part_text old.line_end b (text_in (with_text name h.held)) ≡ before ++ name =
    ap (λ z. f.text ++ part_text old.line_end b z) (text-more h.held name) ∙ ap (λ z. f.text ++ z) (part_more old.line_end b held name) ∙ sym (append_assoc f.text (part_text old.line_end b held) name) in
    record {
      before = before;
      rest = q.longer.added ++ rest;
      is_text = is_released ∙ ap (λ (z : Sheet). z.text) is_all ∙ whole.text ∙ ap (λ z. old.text ++ z) spelled;
      written = s.stands.written;
      reduced = s.stands.reduced;
      whole = s.stands.whole;
      remarks = s.stands.remarks;
      reads_before = subst (λ z. Reads (chars before) (without_joints z) s.stands.remarks) h.tokens (subst (λ z. Reads (chars before) (without_joints (tokens_of h.laid)) z) h.said reads_before);
      reads = subst (λ z. Reads (chars z) (without_joints (s.stands.written ++ (token ∷ []))) s.stands.remarks) with_name
          (subst (λ z. Reads (chars (f.text ++ part_text old.line_end b (text_in (with_text name h.held)))) (without_joints z) s.stands.remarks) h.tokens_with
          (subst (λ z. Reads (chars (f.text ++ part_text old.line_end b (text_in (with_text name h.held)))) (without_joints (tokens_of h.laid_with)) z) h.said_with reads_with));
      recorded = subst (λ (z : List Pair). IsRecorded x.at (after_text before old.place) z) (sym (pairs ∙ ap (λ (z : Sheet). z.pairs) is_all)) recorded;
    }
