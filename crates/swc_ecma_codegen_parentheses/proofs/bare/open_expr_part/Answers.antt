use Rattle.std.proofs.lemmas.Result.{on_ok_weaker}
use Rattle.swc_ecma_codegen_parentheses.proofs.OtherNodes.{other_expr_part}
use Rattle.swc_ecma_codegen_parentheses.proofs.bare.open_expr_part.Goals as goal

pub returns-in_default : goal.returns-in_default
returns-in_default g c = on_ok_weaker c.open_values.result (other_expr_part g.N.Opens.opened g.N.Opens.property c.args.part.now c.open_values.new.node c.in_default.not-Pat c.in_default.not-AssignTarget) c.open_values.ensures
