-- What a node answers is what the word of its sort says, and false of a sort that has none.
use Rattle.std.proofs.Common.{sym, ◌∙◌, ap}
use Rattle.swc_ecma_codegen_settings.specs.Starts.{any_starts}
use Rattle.swc_ecma_codegen_settings.proofs.Begins.{any_starts_expr, any_starts_stmt, any_starts_member_expr, any_starts_expr_part, any_starts_stmt_part, starts_of_other}
use Rattle.swc_ecma_codegen_settings.proofs.starts.AnyNodeStartsWithAlphaNum.+starts_with_alpha_num.Goals as goal

pub returns-in-Expr : goal.returns-in-Expr
returns-in-Expr t c = c.starts_with_alpha_num.ensures ∙ sym (any_starts_expr c.in-Expr.node) ∙ ap any_starts (sym c.in-Expr.is)

pub returns-in-Stmt : goal.returns-in-Stmt
returns-in-Stmt t c = c.starts_with_alpha_num-in-Stmt.ensures ∙ sym (any_starts_stmt c.in-Stmt.node) ∙ ap any_starts (sym c.in-Stmt.is)

pub returns-in-MemberExpr : goal.returns-in-MemberExpr
returns-in-MemberExpr t c = c.starts_with_alpha_num-in-MemberExpr.ensures ∙ sym (any_starts_member_expr c.in-MemberExpr.node) ∙ ap any_starts (sym c.in-MemberExpr.is)

pub returns-in-ExprPart : goal.returns-in-ExprPart
returns-in-ExprPart t c = c.starts_with_alpha_num-in-ExprPart.ensures ∙ sym (any_starts_expr_part c.in-ExprPart.node) ∙ ap any_starts (sym c.in-ExprPart.is)

pub returns-in-StmtPart : goal.returns-in-StmtPart
returns-in-StmtPart t c = c.starts_with_alpha_num-in-StmtPart.ensures ∙ sym (any_starts_stmt_part c.in-StmtPart.node) ∙ ap any_starts (sym c.in-StmtPart.is)

pub returns-in_default : goal.returns-in_default
returns-in_default t c = starts_of_other c.args.self.now c.in_default.not-Expr c.in_default.not-Stmt c.in_default.not-MemberExpr c.in_default.not-ExprPart c.in_default.not-StmtPart
