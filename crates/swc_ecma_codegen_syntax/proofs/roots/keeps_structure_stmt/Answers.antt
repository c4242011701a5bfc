use Rattle.std.proofs.Common.{true, ◌∙◌, ap}
use Rattle.swc_ecma_codegen_syntax.specs.Verdicts.{full, holds}
use Rattle.swc_ecma_codegen_syntax.proofs.RootLaws.{stmt_sound, stmt_complete, stmt_exactly}
use Rattle.swc_ecma_codegen_syntax.proofs.roots.keeps_structure_stmt.Goals as goal

pub returns-clause-sound : goal.returns-clause-sound
returns-clause-sound g c = stmt_sound (full true) c.args.place c.args.parameters (g.N.WholeTree.stmt_in c.args.stmt.now) c.is_derivation.result (c.is_derivation.ensures ∙ ap (holds true) c.verdict_stmt.ensures)

pub returns-clause-complete : goal.returns-clause-complete
returns-clause-complete g c = stmt_complete (full true) c.args.place c.args.parameters (g.N.WholeTree.stmt_in c.args.stmt.now) c.is_derivation.result (c.is_derivation.ensures ∙ ap (holds true) c.verdict_stmt.ensures)

pub returns-clause-exactly : goal.returns-clause-exactly
returns-clause-exactly g c = stmt_exactly (full true) c.args.place c.args.parameters (g.N.WholeTree.stmt_in c.args.stmt.now) c.is_derivation.result (c.is_derivation.ensures ∙ ap (holds true) c.verdict_stmt.ensures)
