-- Where no positions are kept, what records one does nothing, also where an earlier call was refused.
use Rattle.std.proofs.Common.{◌≡◌, ◌-◌, true, false, ◌&&◌, ◌==◌, not, cond, Some, Result, refl, ap}
use Rattle.swc_ecma_codegen_common.specs.declared.errors.Refusal.{Refusal}
use Rattle.swc_ecma_codegen_common.specs.declared.positions.BytePos.{BytePos}
use Rattle.swc_ecma_codegen_text_writer.specs.Sheet.{Sheet, Position, effect, pointed, recorded, recorded_by}
use Rattle.swc_ecma_codegen_tokens.specs.Run.{State, Part, Plan, Plain, Follows, put, after_plain, step}
use Rattle.swc_ecma_codegen_tokens.specs.Words.{position, position_before}
use Rattle.swc_ecma_codegen_tokens.proofs.Commenting.NoComments.{idle}

-- Where no positions are kept, a part does nothing.
abbrev pub IsUnkept : Part → Type 0
IsUnkept part = (rest : Plan) (a c : State) (r : Result (Unit {0}) Refusal) → a.sheet.keeps_positions ≡ false → Follows rest a c r → Follows (part rest) a c r

unrecorded : (pos : BytePos) (s : Sheet) → s.keeps_positions ≡ false → pointed pos s ≡ s
unfolding pointed recorded
unrecorded pos s h = ap (λ b. cond (b && s.at_line_start) (record s { pending = Some pos }) (cond (b && not (pos.0 == 0)) (recorded_by s.lines pos s) s)) h

same_state : (pos : BytePos) (a : State) → a.sheet.keeps_positions ≡ false → put (Plain (Position pos)) a ≡ a
unfolding put effect after_plain
same_state pos a h = ap (λ (z : Sheet). record a { sheet = z }) (unrecorded pos a.sheet h)

pub unkept_position : (pos : BytePos) → IsUnkept (position pos)
unfolding position
unkept_position pos rest a c r none h = elim (pos.0 == 0) as (λ z. Follows (cond z rest (step (Plain (Position pos)) rest)) a c r) [
  | true ↦ h
  | false ↦ idle a.failed (Plain (Position pos)) rest a c r refl (same_state pos a none) h
]

pub unkept_position_before : (pos : BytePos) → IsUnkept (position_before pos)
unfolding position_before
unkept_position_before pos rest a c r none h =
    let before : BytePos = record { 0 = pos.0 - 1 } in
    elim (pos.0 == 0) as (λ z. Follows (cond z rest (step (Plain (Position before)) rest)) a c r) [
      | true ↦ h
      | false ↦ idle a.failed (Plain (Position before)) rest a c r refl (same_state before a none) h
    ]
