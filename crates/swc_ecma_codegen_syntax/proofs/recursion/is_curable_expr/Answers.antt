use Rattle.std.proofs.Common.{false, ◌∙◌, ap}
use Rattle.swc_ecma_codegen_syntax.specs.Verdicts.{full, holds}
use Rattle.swc_ecma_codegen_syntax.proofs.Wholes.{sound, complete, exactly}
use Rattle.swc_ecma_codegen_syntax.proofs.recursion.is_curable_expr.Goals as goal

pub returns-clause-sound : goal.returns-clause-sound
returns-clause-sound g c = sound (full false) c.args.place c.args.parameters (g.N.WholeTree.expr_in c.args.expr.now) c.is_curable.result (c.is_curable.ensures ∙ ap (holds false) c.verdict_expr.ensures)

pub returns-clause-complete : goal.returns-clause-complete
returns-clause-complete g c = complete (full false) c.args.place c.args.parameters (g.N.WholeTree.expr_in c.args.expr.now) c.is_curable.result (c.is_curable.ensures ∙ ap (holds false) c.verdict_expr.ensures)

pub returns-clause-exactly : goal.returns-clause-exactly
returns-clause-exactly g c = exactly (full false) c.args.place c.args.parameters (g.N.WholeTree.expr_in c.args.expr.now) c.is_curable.result (c.is_curable.ensures ∙ ap (holds false) c.verdict_expr.ensures)
