use Rattle.std.proofs.lemmas.Result.{on_ok_weaker}
use Rattle.swc_ecma_codegen_visit.proofs.MapLaws.{program_left}
use Rattle.swc_ecma_codegen_visit.proofs.changes.change_nodes.Goals as goal

pub returns : goal.returns
returns g c = on_ok_weaker c.change_program.result (program_left g.C.ChangeNode.step c.args.program.now c.change_program.new.program) c.change_program.ensures
