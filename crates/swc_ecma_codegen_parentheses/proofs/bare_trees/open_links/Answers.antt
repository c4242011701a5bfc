use Rattle.std.proofs.lemmas.Result.{on_ok_weaker}
use Rattle.swc_ecma_codegen_parentheses.proofs.OtherNodes.{other_node}
use Rattle.swc_ecma_codegen_parentheses.proofs.bare_trees.open_links.Goals as goal

pub returns-in_default : goal.returns-in_default
returns-in_default c = on_ok_weaker c.open_values.result
    (other_node c.args.node.now c.open_values.new.node c.in_default.not-Stmt c.in_default.not-ExprPart c.in_default.not-StmtPart c.in_default.not-TsPart) c.open_values.ensures
