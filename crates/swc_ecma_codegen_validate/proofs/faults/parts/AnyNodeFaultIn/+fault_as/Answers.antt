-- What a node finds is what its sort finds, in whole trees.
use Rattle.swc_ecma_codegen_validate.proofs.Depths.{of_expr, of_stmt, of_member, of_expr_part, of_stmt_part, of_jsx_part, of_ts_part}
use Rattle.swc_ecma_codegen_validate.proofs.faults.parts.AnyNodeFaultIn.+fault_as.Goals as goal

pub returns-in-Expr : goal.returns-in-Expr
returns-in-Expr t c = rw c.in-Expr.is (of_expr c.in-Expr.node c.args.role c.expr_fault.result c.expr_fault.ensures)

pub returns-in-Stmt : goal.returns-in-Stmt
returns-in-Stmt t c = rw c.in-Stmt.is (of_stmt c.in-Stmt.node c.args.role c.stmt_fault.result c.stmt_fault.ensures)

pub returns-in-MemberExpr : goal.returns-in-MemberExpr
returns-in-MemberExpr t c = rw c.in-MemberExpr.is (of_member c.in-MemberExpr.node c.args.role c.member_fault.result c.member_fault.ensures)

pub returns-in-ExprPart : goal.returns-in-ExprPart
returns-in-ExprPart t c = rw c.in-ExprPart.is (of_expr_part c.in-ExprPart.node c.args.role c.expr_part_fault.result c.expr_part_fault.ensures)

pub returns-in-StmtPart : goal.returns-in-StmtPart
returns-in-StmtPart t c = rw c.in-StmtPart.is (of_stmt_part c.in-StmtPart.node c.args.role c.stmt_part_fault.result c.stmt_part_fault.ensures)

pub returns-in-JSXPart : goal.returns-in-JSXPart
returns-in-JSXPart t c = rw c.in-JSXPart.is (of_jsx_part c.in-JSXPart.node c.args.role c.jsx_part_fault.result c.jsx_part_fault.ensures)

pub returns-in-TsPart : goal.returns-in-TsPart
returns-in-TsPart t c = rw c.in-TsPart.is (of_ts_part c.in-TsPart.node c.args.role c.ts_part_fault.result c.ts_part_fault.ensures)
