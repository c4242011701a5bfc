use Rattle.std.proofs.Common.{false, ◌∙◌, ap}
use Rattle.swc_ecma_codegen_syntax.specs.Verdicts.{full, holds}
use Rattle.swc_ecma_codegen_syntax.proofs.RootLaws.{program_sound, program_complete, program_exactly}
use Rattle.swc_ecma_codegen_syntax.proofs.roots.is_curable.Goals as goal

pub returns-clause-sound : goal.returns-clause-sound
returns-clause-sound g c = program_sound (full false) (g.N.WholeTree.program_in c.args.program.now) c.is_curable.result (c.is_curable.ensures ∙ ap (holds false) c.verdict.ensures)

pub returns-clause-complete : goal.returns-clause-complete
returns-clause-complete g c = program_complete (full false) (g.N.WholeTree.program_in c.args.program.now) c.is_curable.result (c.is_curable.ensures ∙ ap (holds false) c.verdict.ensures)

pub returns-clause-exactly : goal.returns-clause-exactly
returns-clause-exactly g c = program_exactly (full false) (g.N.WholeTree.program_in c.args.program.now) c.is_curable.result (c.is_curable.ensures ∙ ap (holds false) c.verdict.ensures)
