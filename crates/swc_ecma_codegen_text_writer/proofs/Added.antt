-- What goes out from one sheet to another.
use Rattle.std.proofs.Common.{◌≡◌, ℕ, Bool, true, false, List, [], ◌∷◌, ◌++◌, refl, sym, ◌∙◌, ap, subst, append_assoc, append-nil}
use Rattle.swc_ecma_codegen_common.specs.declared.positions.BytePos.{BytePos}
use Rattle.swc_ecma_codegen_text_writer.specs.Places.{after_text}
use Rattle.swc_ecma_codegen_text_writer.specs.Filling.{part_text}
use Rattle.swc_ecma_codegen_text_writer.proofs.Reaching.{after_both}
use Rattle.swc_ecma_codegen_text_writer.specs.Sheet.{Sheet, Segment, released, noted, notes_released, notes_text, text_in, ends_before, line_ended, segment_released}

-- so much text goes out
pub record Adds (t : List ℕ) (a b : Sheet) : Type 0 where
  pub text : b.text ≡ a.text ++ t
  pub place : b.place ≡ after_text t a.place
  pub line_end : b.line_end ≡ a.line_end

pub adds_nothing : (a : Sheet) → Adds [] a a
unfolding after_text
adds_nothing a = record { text = sym (append-nil a.text); place = refl; line_end = refl }

pub adds_then : {t u : List ℕ} (a b c : Sheet) → Adds t a b → Adds u b c → Adds (t ++ u) a c
adds_then {t} {u} a b c h k = record {
  text = k.text ∙ (ap (λ z. z ++ u) h.text ∙ append_assoc a.text t u);
  place = k.place ∙ (ap (after_text u) h.place ∙ sym (after_both t u a.place));
  line_end = k.line_end ∙ h.line_end;
}

pub adds_same : {t : List ℕ} (u : List ℕ) (a b : Sheet) → t ≡ u → Adds t a b → Adds u a b
adds_same u a b e h = subst (λ z. Adds z a b) e h

pub sent_adds : (t : List ℕ) (s : Sheet) → Adds t s (released t s)
unfolding released
sent_adds t s = record { text = refl; place = refl; line_end = refl }

noted_adds : (pos : BytePos) (a b : Sheet) {t : List ℕ} → Adds t a b → Adds t a (noted pos b)
unfolding noted
noted_adds pos a b h = record { text = h.text; place = h.place; line_end = h.line_end }

pub notes_adds : (xs : List (List ℕ × BytePos)) (s : Sheet) → Adds (notes_text xs) s (notes_released xs s)
unfolding notes_text notes_released
notes_adds [] s = adds_nothing s
notes_adds (x ∷ xs) s = adds_then s (noted x.1 (released x.0 s)) _ (noted_adds x.1 s (released x.0 s) (sent_adds x.0 s)) (notes_adds xs (noted x.1 (released x.0 s)))

line_adds : (b : Bool) (t : List ℕ) (s c : Sheet) → Adds t (line_ended b s) c → Adds (part_text s.line_end b t) s c
unfolding line_ended part_text
line_adds true t s c h = adds_then s (released s.line_end s) c (sent_adds s.line_end s) h
line_adds false t s c h = h

pub segment_adds : (max : ℕ) (first : Bool) (g : Segment) (s : Sheet) → Adds (part_text s.line_end (ends_before max first g s) (text_in g)) s (segment_released max first g s)
unfolding segment_released text_in
segment_adds max first g s =
    let b : Sheet = line_ended (ends_before max first g s) s in
    line_adds (ends_before max first g s) (notes_text g.noted ++ g.rest) s _ (adds_then b (notes_released g.noted b) _ (notes_adds g.noted b) (sent_adds g.rest (notes_released g.noted b)))
