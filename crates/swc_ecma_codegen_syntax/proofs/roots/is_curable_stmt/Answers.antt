use Rattle.std.proofs.Common.{false, ◌∙◌, ap}
use Rattle.swc_ecma_codegen_syntax.specs.Verdicts.{full, holds}
use Rattle.swc_ecma_codegen_syntax.proofs.RootLaws.{stmt_sound, stmt_complete, stmt_exactly}
use Rattle.swc_ecma_codegen_syntax.proofs.roots.is_curable_stmt.Goals as goal

pub returns-clause-sound : goal.returns-clause-sound
returns-clause-sound g c = stmt_sound (full false) c.args.place c.args.parameters (g.N.WholeTree.stmt_in c.args.stmt.now) c.is_curable.result (c.is_curable.ensures ∙ ap (holds false) c.verdict_stmt.ensures)

pub returns-clause-complete : goal.returns-clause-complete
returns-clause-complete g c = stmt_complete (full false) c.args.place c.args.parameters (g.N.WholeTree.stmt_in c.args.stmt.now) c.is_curable.result (c.is_curable.ensures ∙ ap (holds false) c.verdict_stmt.ensures)

pub returns-clause-exactly : goal.returns-clause-exactly
returns-clause-exactly g c = stmt_exactly (full false) c.args.place c.args.parameters (g.N.WholeTree.stmt_in c.args.stmt.now) c.is_curable.result (c.is_curable.ensures ∙ ap (holds false) c.verdict_stmt.ensures)
