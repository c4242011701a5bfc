use Rattle.std.proofs.Common.{true, ◌∙◌, ap}
use Rattle.swc_ecma_codegen_syntax.specs.Verdicts.{full, holds}
use Rattle.swc_ecma_codegen_syntax.proofs.RootLaws.{program_sound, program_complete, program_exactly, program_read}
use Rattle.swc_ecma_codegen_syntax.proofs.roots.keeps_structure.Goals as goal

pub returns-clause-sound : goal.returns-clause-sound
returns-clause-sound g c = program_sound (full true) (g.N.WholeTree.program_in c.args.program.now) c.is_derivation.result (c.is_derivation.ensures ∙ ap (holds true) c.verdict.ensures)

pub returns-clause-read : goal.returns-clause-read
returns-clause-read g c = program_read (full true) (g.N.WholeTree.program_in c.args.program.now)

pub returns-clause-complete : goal.returns-clause-complete
returns-clause-complete g c = program_complete (full true) (g.N.WholeTree.program_in c.args.program.now) c.is_derivation.result (c.is_derivation.ensures ∙ ap (holds true) c.verdict.ensures)

pub returns-clause-exactly : goal.returns-clause-exactly
returns-clause-exactly g c = program_exactly (full true) (g.N.WholeTree.program_in c.args.program.now) c.is_derivation.result (c.is_derivation.ensures ∙ ap (holds true) c.verdict.ensures)
