use Rattle.std.proofs.Common.{ap}
use Rattle.swc_ecma_codegen_tokens.specs.Run.{State, Follows}
use Rattle.swc_ecma_codegen_runs.proofs.texts.print_by.Goals as goal

-- the steps that were made are those of the tree
pub returns-in-Ok-clause-sheet : goal.returns-in-Ok-clause-sheet
unfolding Follows
returns-in-Ok-clause-sheet g c = ap (λ (s : State). s.sheet) c.in-Ok.ensures.items.1
