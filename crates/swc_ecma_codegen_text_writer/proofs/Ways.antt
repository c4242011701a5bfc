-- What calls leave alone: from a sheet to that after a call only text is written, or held.
use Rattle.std.proofs.Common.{◌≡◌, ℕ, Bool, true, false, ◌||◌, ◌==◌, List, [], ◌∷◌, ◌++◌, refl, sym, ◌∙◌, ap, cond, codes, Option, Some, None}
use Rattle.std.specs.List.{repeat}
use Rattle.swc_ecma_codegen_common.specs.declared.positions.BytePos.{BytePos}
use Rattle.swc_ecma_codegen_common.specs.declared.positions.Span.{Span}
use Rattle.swc_ecma_codegen_text_writer.specs.Contents.{IsPrefix}
use Rattle.swc_ecma_codegen_text_writer.specs.Places.{after_text}
use Rattle.swc_ecma_codegen_text_writer.proofs.Sheets.{front_refl, front_append, front_trans, placed_on}
use Rattle.swc_ecma_codegen_text_writer.specs.Sheet.{Sheet, Semicolons, AtOnce, HoldsNone, HoldsOne, Flow, Flowing, Filling, Cutting, fills_lines, Segment, no_segment, released, noted, notes_released, line_ended, ends_before, segment_released, allowed_by, allowed, passed_on, appended_by, recorded_by, is_recorded, appended, indented, with_pair, has_pair, pair_at, recorded, start_recorded, end_recorded, pending_recorded, started, written, literal_written, ended, settled_by, settled}
use Rattle.swc_ecma_codegen_text_writer.proofs.Commuting.{holding, begun}

-- ---- texts and pairs grow

-- from the first sheet to the second only text was written, or held
pub record Way (a b : Sheet) : Type 0 where
  pub text : IsPrefix a.text b.text
  pub place : b.place ≡ after_text text.0 a.place
  pub pairs : IsPrefix a.pairs b.pairs
  pub fills : fills_lines b.lines ≡ fills_lines a.lines
  pub same : b ≡ record a { text = b.text; at_line_start = b.at_line_start; semicolons = b.semicolons; pairs = b.pairs; pending = b.pending; place = b.place; lines = b.lines }

way_refl : (a : Sheet) → Way a a
way_refl a = record { text = front_refl a.text; place = unfold after_text in refl; pairs = front_refl a.pairs; fills = refl; same = refl }

pub way_trans : (a b c : Sheet) → Way a b → Way b c → Way a c
way_trans a b c h k =
    record {
      text = front_trans a.text b.text c.text h.text k.text;
      place = placed_on h.text.0 k.text.0 a.place b.place c.place h.place k.place;
      pairs = front_trans a.pairs b.pairs c.pairs h.pairs k.pairs;
      fills = k.fills ∙ h.fills;
      same = k.same ∙ ap (λ (s : Sheet). record s { text = c.text; at_line_start = c.at_line_start; semicolons = c.semicolons; pairs = c.pairs; pending = c.pending; place = c.place; lines = c.lines }) h.same;
    }

with_pair_grows : (x : BytePos) (s : Sheet) → IsPrefix s.pairs (with_pair x s.place s.pairs)
unfolding with_pair
with_pair_grows x s =
    elim ((x.0 == 0) || has_pair (pair_at x s.place) s.pairs) as (λ b. IsPrefix s.pairs (cond b s.pairs (s.pairs ++ (pair_at x s.place ∷ []))))
    [ true ↦ front_refl s.pairs | false ↦ front_append s.pairs _ ]

-- another start of a line, other semicolons, another pending position and other lines, filled or not as before
pub alike_way : (b : Bool) (q : Semicolons) (p : Option BytePos) (s : Sheet) → Way s (record s { at_line_start = b; semicolons = q; pending = p })
alike_way b q p s = record { text = front_refl s.text; place = unfold after_text in refl; pairs = front_refl s.pairs; fills = refl; same = refl }

lines_way : (l : Flow) (s : Sheet) → fills_lines l ≡ fills_lines s.lines → Way s (record s { lines = l })
lines_way l s h = record { text = front_refl s.text; place = unfold after_text in refl; pairs = front_refl s.pairs; fills = h; same = refl }

noted_way : (pos : BytePos) (s : Sheet) → Way s (noted pos s)
unfolding noted
noted_way pos s = record { text = front_refl s.text; place = unfold after_text in refl; pairs = with_pair_grows pos s; fills = refl; same = refl }

released_way : (t : List ℕ) (s : Sheet) → Way s (released t s)
unfolding released
released_way t s = record { text = front_append s.text t; place = refl; pairs = front_refl s.pairs; fills = refl; same = refl }

noted_lines : (pos : BytePos) (s : Sheet) → (noted pos s).lines ≡ s.lines
unfolding noted
noted_lines pos s = refl

released_lines : (t : List ℕ) (s : Sheet) → (released t s).lines ≡ s.lines
unfolding released
released_lines t s = refl

recorded_by_way : (l : Flow) (pos : BytePos) (s : Sheet) → l ≡ s.lines → Way s (recorded_by l pos s)
unfolding recorded_by
recorded_by_way Flowing pos s h = noted_way pos s
recorded_by_way (Filling max first g) pos s h = lines_way _ s (ap fills_lines h)
recorded_by_way (Cutting done begun) pos s h = way_trans _ _ _ (noted_way pos s) (lines_way _ (noted pos s) (ap fills_lines (h ∙ sym (noted_lines pos s))))

recorded_way : (pos : BytePos) (s : Sheet) → Way s (recorded pos s)
unfolding recorded
recorded_way pos s =
    elim (is_recorded pos s) as (λ b. Way s (cond b (recorded_by s.lines pos s) s)) [ true ↦ recorded_by_way s.lines pos s refl | false ↦ way_refl s ]

start_way : (span : Option Span) (s : Sheet) → Way s (start_recorded span s)
unfolding start_recorded
start_way None s = way_refl s
start_way (Some span) s = recorded_way span.lo s

end_way : (span : Option Span) (s : Sheet) → Way s (end_recorded span s)
unfolding end_recorded
end_way None s = way_refl s
end_way (Some span) s = recorded_way span.hi s

appended_by_way : (l : Flow) (t : List ℕ) (s : Sheet) → l ≡ s.lines → Way s (appended_by l t s)
unfolding appended_by
appended_by_way Flowing t s h = released_way t s
appended_by_way (Filling max first g) t s h = lines_way _ s (ap fills_lines h)
appended_by_way (Cutting done begun) t s h = way_trans _ _ _ (released_way t s) (lines_way _ (released t s) (ap fills_lines (h ∙ sym (released_lines t s))))

appended_way : (t : List ℕ) (s : Sheet) → Way s (appended t s)
unfolding appended
appended_way t s = appended_by_way s.lines t s refl

pending_way : (p : Option BytePos) (s : Sheet) → Way s (pending_recorded p s)
unfolding pending_recorded
pending_way None s = way_refl s
pending_way (Some pos) s = way_trans _ _ _ (alike_way s.at_line_start s.semicolons None s) (recorded_way pos (record s { pending = None }))

begun_way : (s : Sheet) → Way s (begun s)
unfolding indented
begun_way s = let a : Sheet = appended (repeat s.indentation s.indent_text) s in way_trans _ _ _ (appended_way (repeat s.indentation s.indent_text) s) (alike_way false a.semicolons a.pending a)

started_way : (s : Sheet) → Way s (started s)
unfolding started
started_way s =
    elim s.at_line_start as (λ b. Way s (cond b (pending_recorded s.pending (begun s)) s))
    [ true ↦ way_trans _ _ _ (begun_way s) (pending_way s.pending (begun s)) | false ↦ way_refl s ]

pub written_way : (span : Option Span) (t : List ℕ) (s : Sheet) → Way s (written span t s)
unfolding written
written_way span [] s = way_refl s
written_way span (c ∷ cs) s =
    let begin = way_trans _ _ _ (started_way s) (start_way span (started s)) in
    let out = way_trans _ _ _ begin (appended_way (c ∷ cs) (start_recorded span (started s))) in
    way_trans _ _ _ out (end_way span (appended (c ∷ cs) (start_recorded span (started s))))

pub literal_way : (span : Span) (t : List ℕ) (s : Sheet) → Way s (literal_written span t s)
unfolding literal_written
literal_way span [] s = way_refl s
literal_way span (c ∷ cs) s =
    let out = way_trans _ _ _ (recorded_way span.lo s) (written_way None (c ∷ cs) (recorded span.lo s)) in
    way_trans _ _ _ out (recorded_way span.hi (written None (c ∷ cs) (recorded span.lo s)))

pub ended_way : (s : Sheet) → Way s (ended s)
unfolding ended
ended_way s =
    elim s.at_line_start as (λ b. Way s (cond b (record s { pending = None }) (record (appended s.line_end s) { at_line_start = true }))) [
      | true ↦ alike_way s.at_line_start s.semicolons None s
      | false ↦ way_trans _ _ _ (appended_way s.line_end s) (alike_way true (appended s.line_end s).semicolons (appended s.line_end s).pending (appended s.line_end s))
    ]

-- a segment goes out
notes_way : (xs : List (List ℕ × BytePos)) (s : Sheet) → Way s (notes_released xs s)
unfolding notes_released
notes_way [] s = way_refl s
notes_way (x ∷ xs) s = way_trans _ _ _ (way_trans _ _ _ (released_way x.0 s) (noted_way x.1 (released x.0 s))) (notes_way xs (noted x.1 (released x.0 s)))

line_way : (b : Bool) (s : Sheet) → Way s (line_ended b s)
unfolding line_ended
line_way true s = released_way s.line_end s
line_way false s = way_refl s

segment_way : (max : ℕ) (first : Bool) (g : Segment) (s : Sheet) → Way s (segment_released max first g s)
unfolding segment_released
segment_way max first g s =
    let a : Sheet = line_ended (ends_before max first g s) s in
    way_trans _ _ _ (line_way (ends_before max first g s) s) (way_trans _ _ _ (notes_way g.noted a) (released_way g.rest (notes_released g.noted a)))

allowed_by_way : (l : Flow) (s : Sheet) → l ≡ s.lines → Way s (allowed_by l s)
unfolding allowed_by
allowed_by_way Flowing s h = way_refl s
allowed_by_way (Filling max first g) s h =
    let a : Sheet = segment_released max first g s in
    let k : Way s a = segment_way max first g s in
    way_trans _ _ _ k (lines_way (Filling max false no_segment) a (ap fills_lines h ∙ sym k.fills))
allowed_by_way (Cutting done begun) s h = lines_way _ s (ap fills_lines h)

allowed_way : (s : Sheet) → Way s (allowed s)
unfolding allowed
allowed_way s = allowed_by_way s.lines s refl

pub passed_way : (b : Bool) (s : Sheet) → Way s (passed_on b s)
unfolding passed_on
passed_way true s = allowed_way s
passed_way false s = way_refl s

settled_by_way : (q : Semicolons) (s : Sheet) → Way s (settled_by q s)
unfolding settled_by
settled_by_way AtOnce s = way_refl s
settled_by_way HoldsNone s = way_refl s
settled_by_way (HoldsOne span allowed) s =
    let w : Sheet = written span (codes ";") (holding HoldsNone s) in
    way_trans _ _ _ (way_trans _ _ _ (alike_way s.at_line_start HoldsNone s.pending s) (written_way span (codes ";") (holding HoldsNone s))) (passed_way allowed w)

pub settled_way : (s : Sheet) → Way s (settled s)
settled_way s = settled_by_way s.semicolons s
