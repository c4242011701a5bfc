use Rattle.std.proofs.Common.{true, ◌∙◌, ap}
use Rattle.swc_ecma_codegen_syntax.specs.Verdicts.{full, holds}
use Rattle.swc_ecma_codegen_syntax.proofs.Wholes.{sound, complete, exactly}
use Rattle.swc_ecma_codegen_syntax.proofs.recursion.keeps_structure_expr.Goals as goal

pub returns-clause-sound : goal.returns-clause-sound
returns-clause-sound g c = sound (full true) c.args.place c.args.parameters (g.N.WholeTree.expr_in c.args.expr.now) c.is_derivation.result (c.is_derivation.ensures ∙ ap (holds true) c.verdict_expr.ensures)

pub returns-clause-complete : goal.returns-clause-complete
returns-clause-complete g c = complete (full true) c.args.place c.args.parameters (g.N.WholeTree.expr_in c.args.expr.now) c.is_derivation.result (c.is_derivation.ensures ∙ ap (holds true) c.verdict_expr.ensures)

pub returns-clause-exactly : goal.returns-clause-exactly
returns-clause-exactly g c = exactly (full true) c.args.place c.args.parameters (g.N.WholeTree.expr_in c.args.expr.now) c.is_derivation.result (c.is_derivation.ensures ∙ ap (holds true) c.verdict_expr.ensures)
