-- What is held goes out where it stands.
use Rattle.std.proofs.Common.{◌≡◌, Bool, true, false, Result, sym, ◌∙◌, ap, subst, Option, Some, None, IfSome, string_bytes}
use Rattle.swc_ecma_codegen_text_writer.specs.declared.held.Held.{Held}
use Rattle.swc_ecma_codegen_text_writer.specs.Held.{flow_of, segment_in}
use Rattle.swc_ecma_codegen_text_writer.specs.InPlace.{GoesInLine, IsHeldInLine, held_released}
use Rattle.swc_ecma_codegen_text_writer.specs.Sheet.{Sheet, Segment, no_segment, Filling, released, ends_before, line_ended, segment_released, allowed_by, allowed}
use Rattle.swc_ecma_codegen_text_writer.proofs.Noting.{bare-released}
use Rattle.swc_ecma_codegen_text_writer.proofs.Sheets.{Alike, alike_refl, alike_trans, released_alike, other_lines, line_alike}
use Rattle.swc_ecma_codegen_text_writer.proofs.Stays.{line_stays}
use Rattle.swc_ecma_codegen_text_writer.proofs.Steps.{reaches_to, reaches_then}
use Rattle.swc_ecma_codegen_text_writer.specs.View.{Reaches}
use Rattle.swc_ecma_codegen_common.specs.declared.errors.Refusal.{Refusal}

pub in_line_some : (x : Option Held) (h : Held) (s : Sheet) → x ≡ Some h → IsHeldInLine x s → IsHeldInLine (Some h) s
in_line_some x h s e g = subst (λ z. IsHeldInLine z s) e g

pub in_line_nowhere : (x : Option Held) (s : Sheet) → x ≡ None → IsHeldInLine x s → ⊥
unfolding IsHeldInLine
in_line_nowhere x s e g = subst (λ z. IsHeldInLine z s) e g

pub in_line_goes : (due : Bool) (x : Option Held) (s : Sheet) → GoesInLine due x s → IsHeldInLine x s
unfolding GoesInLine
in_line_goes due None s g = absurd g
in_line_goes due (Some h) s g = g.0

-- the same after a way that changed nothing of it
pub in_line_still : (x y : Option Held) (s t : Sheet) → y ≡ x → t.keeps_positions ≡ s.keeps_positions → IsHeldInLine x s → IsHeldInLine y t
unfolding IsHeldInLine
in_line_still None y s t e k g = absurd g
in_line_still (Some h) y s t e k g = subst (λ z. IsHeldInLine z t) (sym e) (g.0, k ∙ g.1)

pub some_in_line : (r : Option Bool) (x : Option Held) (h : Held) (s : Sheet) → x ≡ Some h → IfSome r (λ due. GoesInLine due (Some h) s) → IfSome r (λ due. GoesInLine due x s)
some_in_line None x h s e g = g
some_in_line (Some b) x h s e g = subst (λ z. GoesInLine b z s) (sym e) g

pub released_some : (x : Option Held) (h : Held) (s : Sheet) → x ≡ Some h → record (released (string_bytes h.segment.text) s) { lines = Filling h.max false no_segment } ≡ held_released x s
unfolding held_released
released_some x h s e = ap (λ z. held_released z s) (sym e)

pub held_alike : (x : Option Held) (s : Sheet) → Alike s (held_released x s)
unfolding held_released
held_alike None s = alike_refl s
held_alike (Some h) s = alike_trans s (released (string_bytes h.segment.text) s) _ (released_alike (string_bytes h.segment.text) s) (other_lines _ _)

pub allowed_in_line : (due : Bool) (x : Option Held) (s t : Sheet) → s.lines ≡ flow_of x → GoesInLine due x s → t ≡ line_ended due s → held_released x t ≡ allowed s
unfolding GoesInLine held_released allowed allowed_by segment_released
allowed_in_line due None s t l g e = absurd g
allowed_in_line due (Some h) s t l g e =
    let text = string_bytes h.segment.text in
    let x : Segment = segment_in h.segment in
    let out : released text t ≡ segment_released h.max h.first x s =
    ap (released text) (e ∙ ap (λ b. line_ended b s) (sym g.1.1))
    ∙ bare-released text h.segment.notes.items (line_ended (ends_before h.max h.first x s) s) g.1.0 in
    ap (λ (z : Sheet). record z { lines = Filling h.max false no_segment }) out
    ∙ sym (ap (λ f. allowed_by f s) l)

-- after a line end
pub in_next_line : (x y : Option Held) (s t c : Sheet) (r : Result (Unit {0}) Refusal) → s.lines ≡ flow_of x → GoesInLine true x s → y ≡ x → t ≡ line_ended true s → Reaches (held_released y t) t c r → Reaches (allowed s) s c r
in_next_line x y s t c r l g h e k =
    reaches_then (allowed s) s t c (line_ended true s) r e (line_alike true s) (line_stays true s)
    (λ f. reaches_to (held_released y t) (allowed s) t c r (ap (λ z. held_released z t) h ∙ allowed_in_line true x s t l g f) k)
