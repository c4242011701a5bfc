-- Lines of a greatest length.
use Rattle.std.specs.Prelude.{◌≡◌, ℕ, Some}
use Rattle.swc_ecma_codegen_text_writer.specs.Runs.{FillsLines}
use Rattle.swc_ecma_codegen_text_writer.specs.Sheet.{Sheet, Flowing}
use Rattle.swc_ecma_codegen_tokens.specs.Calls.{calls_of}
use Rattle.swc_ecma_codegen_tokens.specs.Run.{Part, State, printed, steps_in, steps_of, with_max_line}
use Rattle.swc_ecma_codegen_tokens.specs.Written.{IsLineEnd}
use Rattle.swc_ecma_codegen_emit.specs.declared.nodes.Context.TheVariants.{Plain}
use Rattle.swc_ecma_codegen_emit.specs.Places.{Place, Whole}

-- Lines can be filled: none are yet, and the writer's end with LF, or with CR and LF.
pub record CanFill (s : State) : Type 0 where
  pub flows : s.sheet.lines ≡ Flowing
  pub line_end : IsLineEnd s.sheet.line_end

-- what is written of a node where lines may be ended, and none begin: a break that is allowed does nothing then
abbrev pub unfilled : ℕ → (Place → Part) → Part
unfilled max items = with_max_line (Some max) (items (Whole Plain))

-- With a greatest length of lines, what is written of a node is the same but for line ends, which fill its lines: each has at most `max`
-- units or holds no break, none is ended that the next piece would fit, and no other choice of breaks has fewer lines.
abbrev pub FillsLinesOf : ℕ → (Place → Part) → State → Sheet → Type 0
FillsLinesOf max items a new = FillsLines max (calls_of (steps_of (steps_in (unfilled max items) a)) a.last) a.sheet (printed (unfilled max items) a).sheet new
