use Rattle.std.proofs.lemmas.Result.{on_ok_weaker}
use Rattle.swc_ecma_codegen_parentheses.proofs.OtherNodes.{other_pat}
use Rattle.swc_ecma_codegen_parentheses.proofs.bare.open_pat.Goals as goal

pub returns-in_default : goal.returns-in_default
returns-in_default g c = on_ok_weaker c.open_values.result (other_pat g.N.Opens.opened c.args.pat.now c.open_values.new.node c.in_default.not-Expr) c.open_values.ensures
