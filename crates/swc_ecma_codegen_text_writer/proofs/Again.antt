-- A second allowed break in the same place.
use Rattle.std.proofs.Common.{◌≡◌, ℕ, Bool, false, [], append-nil, refl, sym, ◌∙◌, ap, nat_lt}
use Rattle.std.proofs.lemmas.Bool.{and_right}
use Rattle.swc_ecma_codegen_text_writer.specs.Places.{after_text}
use Rattle.swc_ecma_codegen_text_writer.specs.Filling.{first_units, is_due}
use Rattle.swc_ecma_codegen_text_writer.specs.Sheet.{Sheet, Segment, no_segment, Filling, released, notes_released, notes_text, text_in, ends_before, line_ended, segment_released, allowed_by, allowed}

nothing_due : (max column : ℕ) → is_due max column (first_units []) ≡ false
unfolding is_due first_units
nothing_due max column = and_right (nat_lt 0 column) false refl

nothing_sent : (s : Sheet) → released [] s ≡ s
unfolding released after_text
nothing_sent s = ap (λ t. record s { text = t }) (append-nil s.text)

same_case : (b : Bool) (s : Sheet) → b ≡ false → line_ended b s ≡ s
unfolding line_ended
same_case b s h = ap (λ z. line_ended z s) h

no_segment_sent : (max : ℕ) (s : Sheet) → segment_released max false no_segment s ≡ s
unfolding segment_released notes_released ends_before text_in notes_text
no_segment_sent max s = ap (released []) (same_case (is_due max s.place.column (first_units [])) s (nothing_due max s.place.column)) ∙ nothing_sent s

pub allowed_again : (s : Sheet) (max : ℕ) (first : Bool) (g : Segment) → s.lines ≡ Filling max first g → allowed (allowed s) ≡ allowed s
unfolding allowed allowed_by
allowed_again s max first g h =
    let w : Sheet = record (segment_released max first g s) { lines = Filling max false no_segment } in
    let e : allowed s ≡ w = ap (λ l. allowed_by l s) h in
    ap allowed e ∙ (ap (λ (z : Sheet). record z { lines = Filling max false no_segment }) (no_segment_sent max w) ∙ sym e)
