use Rattle.std.proofs.Common.{false, ◌∙◌, ap}
use Rattle.swc_ecma_codegen_syntax.specs.Verdicts.{full, holds}
use Rattle.swc_ecma_codegen_syntax.proofs.RootLaws.{item_sound, item_complete, item_exactly}
use Rattle.swc_ecma_codegen_syntax.proofs.roots.is_curable_item.Goals as goal

pub returns-clause-sound : goal.returns-clause-sound
returns-clause-sound g c = item_sound (full false) c.args.parameters (g.N.WholeTree.item_in c.args.item.now) c.is_curable.result (c.is_curable.ensures ∙ ap (holds false) c.verdict_item.ensures)

pub returns-clause-complete : goal.returns-clause-complete
returns-clause-complete g c = item_complete (full false) c.args.parameters (g.N.WholeTree.item_in c.args.item.now) c.is_curable.result (c.is_curable.ensures ∙ ap (holds false) c.verdict_item.ensures)

pub returns-clause-exactly : goal.returns-clause-exactly
returns-clause-exactly g c = item_exactly (full false) c.args.parameters (g.N.WholeTree.item_in c.args.item.now) c.is_curable.result (c.is_curable.ensures ∙ ap (holds false) c.verdict_item.ensures)
