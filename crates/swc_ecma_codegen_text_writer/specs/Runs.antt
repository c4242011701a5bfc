-- What a run of calls writes with a greatest line length, and without.
use Rattle.std.specs.Prelude.{◌≡◌, ℕ, ◌≤◌, Bool, true, false, List, [], ◌∷◌, ◌++◌, ◌&&◌}
use Rattle.swc_ecma_codegen_text_writer.specs.Places.{after_text}
use Rattle.swc_ecma_codegen_text_writer.specs.Filling.{Part, segments_of, joined, text_of, IsBounded, IsNeeded, last_line}
use Rattle.swc_ecma_codegen_text_writer.specs.Sheet.{Item, BeginLines, EndLines, Sheet, Segment, no_segment, Cutting, text_in, segment_released, effects}

-- lines neither begin nor end at such a call
abbrev pub is_inner : Item → Bool
is_inner (BeginLines max) = false
is_inner EndLines = false
is_inner x = true

unfoldable pub are_inner : List Item → Bool
are_inner [] = true
are_inner (x ∷ xs) = is_inner x && are_inner xs

-- the calls between the begin and the end of lines
unfoldable pub within_lines : ℕ → List Item → List Item
within_lines max calls = BeginLines max ∷ (calls ++ (EndLines ∷ []))

-- the same sheet, whose text is cut where breaks are allowed
abbrev pub cut_from_here : Sheet → Sheet
cut_from_here s = record s { lines = Cutting [] no_segment }

-- the texts of some segments
unfoldable pub texts_in : List Segment → List (List ℕ)
texts_in [] = []
texts_in (g ∷ gs) = text_in g ∷ texts_in gs

-- segments go out, each with the positions in it, and a line end before it where it is due
unfoldable pub segments_released : ℕ → Bool → List Segment → Sheet → Sheet
segments_released max first [] s = s
segments_released max first (g ∷ gs) s = segments_released max false gs (segment_released max first g s)

-- Some calls lead from a sheet to another with a greatest line length, and to a third without. Both texts have the same segments,
-- those that the calls cut at the allowed breaks. With the setting a line end stands at some of these, and nowhere else; each line
-- has at most so many units, or no allowed break within; a line end is put only before a segment whose first line has no room in
-- the line so far; and no other choice of allowed breaks that bounds the lines so has fewer line ends. In all but text, places and
-- pairs the sheets are the same.
pub record FillsLines (max : ℕ) (calls : List Item) (old plain new : Sheet) : Type 0 where
  pub done : List Segment
  pub begun : Segment
  pub cut : (effects calls (cut_from_here old)).lines ≡ Cutting done begun
  pub first : List ℕ
  pub parts : List Part
  pub segments : texts_in (done ++ (begun ∷ [])) ≡ first ∷ segments_of parts
  -- each goes out, and each position is recorded where it stands in its segment
  pub released : new.text ≡ (segments_released max true (done ++ (begun ∷ [])) old).text
  pub pairs : new.pairs ≡ (segments_released max true (done ++ (begun ∷ [])) old).pairs
  pub plain_text : plain.text ≡ old.text ++ (first ++ joined (segments_of parts))
  pub text : new.text ≡ old.text ++ (first ++ text_of old.line_end parts)
  pub place : new.place ≡ after_text (first ++ text_of old.line_end parts) old.place
  pub bounded : IsBounded max old.line_end (after_text first old.place) parts
  pub needed : IsNeeded max old.line_end (after_text first old.place) parts
  pub fewest :
      (old.place.after_cr ≡ true → old.place.column ≡ 0) → (others : List Part) → segments_of others ≡ segments_of parts →
      IsBounded max old.line_end (after_text first old.place) others →
      last_line (first ++ text_of old.line_end parts) old.place ≤ last_line (first ++ text_of old.line_end others) old.place
  pub same : new ≡ record plain { text = new.text; place = new.place; pairs = new.pairs }
