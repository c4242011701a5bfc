use Rattle.std.proofs.Common.{true, ◌∙◌, ap}
use Rattle.swc_ecma_codegen_syntax.specs.Verdicts.{full, holds}
use Rattle.swc_ecma_codegen_syntax.proofs.Wholes.{pat_sound, pat_complete, pat_exactly}
use Rattle.swc_ecma_codegen_syntax.proofs.recursion.keeps_structure_pat.Goals as goal

pub returns-clause-sound : goal.returns-clause-sound
returns-clause-sound g c = pat_sound (full true) c.args.place c.args.parameters (g.N.WholeTree.pat_in c.args.pat.now) c.is_derivation.result (c.is_derivation.ensures ∙ ap (holds true) c.verdict_pat.ensures)

pub returns-clause-complete : goal.returns-clause-complete
returns-clause-complete g c = pat_complete (full true) c.args.place c.args.parameters (g.N.WholeTree.pat_in c.args.pat.now) c.is_derivation.result (c.is_derivation.ensures ∙ ap (holds true) c.verdict_pat.ensures)

pub returns-clause-exactly : goal.returns-clause-exactly
returns-clause-exactly g c = pat_exactly (full true) c.args.place c.args.parameters (g.N.WholeTree.pat_in c.args.pat.now) c.is_derivation.result (c.is_derivation.ensures ∙ ap (holds true) c.verdict_pat.ensures)
