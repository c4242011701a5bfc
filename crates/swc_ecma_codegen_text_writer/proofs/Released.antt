-- Segments that go out, with the line ends between them.
use Rattle.std.proofs.Common.{◌≡◌, ℕ, false, List, [], ◌∷◌, ◌++◌, refl, ap}
use Rattle.swc_ecma_codegen_text_writer.specs.Filling.{Part, segments_of, text_of}
use Rattle.swc_ecma_codegen_text_writer.specs.Runs.{texts_in, segments_released}
use Rattle.swc_ecma_codegen_text_writer.specs.Sheet.{Sheet, Segment, text_in, ends_before, segment_released}
use Rattle.swc_ecma_codegen_text_writer.proofs.Added.{Adds, adds_nothing, adds_then, adds_same, segment_adds}

-- segments that come after others, each with whether a line end goes out before it
unfoldable pub released_parts : ℕ → List Segment → Sheet → List Part
released_parts max [] s = []
released_parts max (g ∷ gs) s = record { ended = ends_before max false g s; segment = text_in g } ∷ released_parts max gs (segment_released max false g s)

pub parts_add : (max : ℕ) (gs : List Segment) (s : Sheet) → Adds (text_of s.line_end (released_parts max gs s)) s (segments_released max false gs s)
unfolding released_parts text_of segments_released
parts_add max [] s = adds_nothing s
parts_add max (g ∷ gs) s =
    let there : Sheet = segment_released max false g s in
    let first = segment_adds max false g s in
    adds_then s there (segments_released max false gs there) first
    (adds_same (text_of s.line_end (released_parts max gs there)) there (segments_released max false gs there) (ap (λ z. text_of z (released_parts max gs there)) first.line_end) (parts_add max gs there))

pub parts_segments : (max : ℕ) (gs : List Segment) (s : Sheet) → segments_of (released_parts max gs s) ≡ texts_in gs
unfolding released_parts segments_of texts_in
parts_segments max [] s = refl
parts_segments max (g ∷ gs) s = ap (λ z. text_in g ∷ z) (parts_segments max gs (segment_released max false g s))

pub released_append : (max : ℕ) (xs ys : List Segment) (s : Sheet) → segments_released max false (xs ++ ys) s ≡ segments_released max false ys (segments_released max false xs s)
unfolding segments_released
released_append max [] ys s = refl
released_append max (x ∷ xs) ys s = released_append max xs ys (segment_released max false x s)

pub texts_append : (xs ys : List Segment) → texts_in (xs ++ ys) ≡ texts_in xs ++ texts_in ys
unfolding texts_in
texts_append [] ys = refl
texts_append (x ∷ xs) ys = ap (λ z. text_in x ∷ z) (texts_append xs ys)

pub segments_append : (xs ys : List Part) → segments_of (xs ++ ys) ≡ segments_of xs ++ segments_of ys
unfolding segments_of
segments_append [] ys = refl
segments_append (x ∷ xs) ys = ap (λ z. x.segment ∷ z) (segments_append xs ys)
