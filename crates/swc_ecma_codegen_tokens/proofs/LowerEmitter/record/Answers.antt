use Rattle.std.proofs.Common.{◌≡◌, false, ◌&&◌, ◌==◌, not, cond, Some, rules, refl, sym, ap, ◌∙◌}
use Rattle.swc_ecma_codegen_common.specs.declared.positions.BytePos.{BytePos}
use Rattle.swc_ecma_codegen_text_writer.specs.Sheet.{Sheet, Position, effect, pointed, recorded, recorded_by}
use Rattle.swc_ecma_codegen_tokens.specs.Run.{State, Plain, put, after_plain}
use Rattle.swc_ecma_codegen_tokens.proofs.Emission.Emitting.{does_failed, does_step}
use Rattle.swc_ecma_codegen_tokens.proofs.LowerEmitter.record.Goals as goal

pub returns-then-self-clause-items : goal.returns-then-self-clause-items
returns-then-self-clause-items g c = λ lines maps rest. does_failed _ _ c.if-self.true lines maps

-- without positions its call would change nothing
unrecorded : (pos : BytePos) (s : Sheet) → s.keeps_positions ≡ false → s ≡ pointed pos s
unfolding pointed recorded
unrecorded pos s h = sym (ap (λ b. cond (b && s.at_line_start) (record s { pending = Some pos }) (cond (b && not (pos.0 == 0)) (recorded_by s.lines pos s) s)) h)

same_state : (pos : BytePos) (a : State) → a.sheet.keeps_positions ≡ false → a ≡ put (Plain (Position pos)) a
unfolding put effect after_plain
same_state pos a h = ap (λ z. record a { sheet = z }) (unrecorded pos a.sheet h)

pub returns-then-not-care_about_srcmap-clause-items : goal.returns-then-not-care_about_srcmap-clause-items
returns-then-not-care_about_srcmap-clause-items g c =
    let none : c.care_about_srcmap.result ≡ false = search rules in
    does_step (Plain (Position c.args.pos)) _ _ refl c.if-self.false (same_state c.args.pos _ (sym c.care_about_srcmap.ensures ∙ none))
