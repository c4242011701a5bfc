-- The node of a sum, where it is of one sort.
use Rattle.std.specs.Prelude.{Option, Some, None}
use Rattle.swc_ecma_codegen_tree.specs.declared.sums.Sorted.{Sorted}
use Rattle.swc_ecma_codegen_tree.specs.declared.sums.Sorted.TheVariants as sorted

-- where it is an expression
abbrev pub expr_at : {E S M X Y J T : Type 0} → Sorted E S M X Y J T → Option E
expr_at (sorted.Expr n) = Some n
expr_at _ = None

-- where it is a statement
abbrev pub stmt_at : {E S M X Y J T : Type 0} → Sorted E S M X Y J T → Option S
stmt_at (sorted.Stmt n) = Some n
stmt_at _ = None

-- where it is a member expression
abbrev pub member_expr_at : {E S M X Y J T : Type 0} → Sorted E S M X Y J T → Option M
member_expr_at (sorted.MemberExpr n) = Some n
member_expr_at _ = None

-- where it is a part of an expression
abbrev pub expr_part_at : {E S M X Y J T : Type 0} → Sorted E S M X Y J T → Option X
expr_part_at (sorted.ExprPart n) = Some n
expr_part_at _ = None

-- where it is a part of a statement
abbrev pub stmt_part_at : {E S M X Y J T : Type 0} → Sorted E S M X Y J T → Option Y
stmt_part_at (sorted.StmtPart n) = Some n
stmt_part_at _ = None

-- where it is a part of JSX
abbrev pub jsx_part_at : {E S M X Y J T : Type 0} → Sorted E S M X Y J T → Option J
jsx_part_at (sorted.JSXPart n) = Some n
jsx_part_at _ = None

-- where it is a part of TypeScript
abbrev pub ts_part_at : {E S M X Y J T : Type 0} → Sorted E S M X Y J T → Option T
ts_part_at (sorted.TsPart n) = Some n
ts_part_at _ = None
