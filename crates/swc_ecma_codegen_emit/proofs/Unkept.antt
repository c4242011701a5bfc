-- Where no positions are kept, what records one isn't called.
use Rattle.std.proofs.Common.{◌≡◌, ℕ, Bool, false, Option, Some, None, sym, ◌∙◌}
use Rattle.swc_ecma_codegen_common.specs.declared.errors.Refusal.{Refusal}
use Rattle.swc_ecma_codegen_common.specs.declared.positions.BytePos.{BytePos}
use Rattle.swc_ecma_codegen_tokens.specs.Run.{Part, Plan}
use Rattle.swc_ecma_codegen_tokens.specs.Words.{position, position_before}
use Rattle.swc_ecma_codegen_tokens.proofs.Emission.NoPositions.{IsUnkept, unkept_position, unkept_position_before}
use Rattle.swc_ecma_codegen_emit.specs.Standing.{Standing, outcome, Leads, LeadsAfter, Makes}

leads_on : (old : Option Refusal) (level : ℕ) (part : Part) (rest : Plan) (a c : Standing) → IsUnkept part → a.state.sheet.keeps_positions ≡ false → LeadsAfter old level rest a c → LeadsAfter old level (part rest) a c
unfolding LeadsAfter
leads_on None level part rest a c s m h = (s rest a.state c.state (outcome c.refusal) m h.0, h.1)
leads_on (Some e) level part rest a c s m h = h

unkept : (part : Part) (a : Standing) → IsUnkept part → a.state.sheet.keeps_positions ≡ false → Makes part a a
unfolding Leads
unkept part a s m = λ level rest c k. leads_on a.refusal level part rest a c s m k

-- the writer says that it keeps none
pub no_position : (pos : BytePos) (a : Standing) (kept : Bool) → kept ≡ a.state.sheet.keeps_positions → kept ≡ false → Makes (position pos) a a
no_position pos a kept says none = unkept (position pos) a (unkept_position pos) (sym says ∙ none)

pub no_position_before : (pos : BytePos) (a : Standing) (kept : Bool) → kept ≡ a.state.sheet.keeps_positions → kept ≡ false → Makes (position_before pos) a a
no_position_before pos a kept says none = unkept (position_before pos) a (unkept_position_before pos) (sym says ∙ none)
