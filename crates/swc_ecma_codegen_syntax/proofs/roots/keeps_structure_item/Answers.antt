use Rattle.std.proofs.Common.{true, ◌∙◌, ap}
use Rattle.swc_ecma_codegen_syntax.specs.Verdicts.{full, holds}
use Rattle.swc_ecma_codegen_syntax.proofs.RootLaws.{item_sound, item_complete, item_exactly}
use Rattle.swc_ecma_codegen_syntax.proofs.roots.keeps_structure_item.Goals as goal

pub returns-clause-sound : goal.returns-clause-sound
returns-clause-sound g c = item_sound (full true) c.args.parameters (g.N.WholeTree.item_in c.args.item.now) c.is_derivation.result (c.is_derivation.ensures ∙ ap (holds true) c.verdict_item.ensures)

pub returns-clause-complete : goal.returns-clause-complete
returns-clause-complete g c = item_complete (full true) c.args.parameters (g.N.WholeTree.item_in c.args.item.now) c.is_derivation.result (c.is_derivation.ensures ∙ ap (holds true) c.verdict_item.ensures)

pub returns-clause-exactly : goal.returns-clause-exactly
returns-clause-exactly g c = item_exactly (full true) c.args.parameters (g.N.WholeTree.item_in c.args.item.now) c.is_derivation.result (c.is_derivation.ensures ∙ ap (holds true) c.verdict_item.ensures)
