-- Trees that are the same but for parentheses, and blocks.
use Rattle.std.specs.Prelude.{ℕ, ⊤, Option}
use Rattle.std.specs.Option.{option_and_then}
use Rattle.swc_ecma_codegen_tree.specs.declared.links.AnyNode.{AnyNode}
use Rattle.swc_ecma_codegen_tree.specs.declared.exprs.Expr.{Expr}
use Rattle.swc_ecma_codegen_tree.specs.declared.stmts.BlockStmt.{BlockStmt}
use Rattle.swc_ecma_codegen_tree.specs.declared.stmts.Stmt.{Stmt}
use Rattle.swc_ecma_codegen_tree.specs.declared.programs.ModuleItem.{ModuleItem}
use Rattle.swc_ecma_codegen_tree.specs.declared.programs.Program.{Program}
use Rattle.swc_ecma_codegen_tree.specs.LinkTargets.{block_stmt_in, sorted_in}
use Rattle.swc_ecma_codegen_tree.specs.SortedNodes.{expr_at, stmt_at, member_expr_at, expr_part_at, stmt_part_at, jsx_part_at}
use Rattle.swc_ecma_codegen_spans.specs.Spans.{any_span}
use Rattle.swc_ecma_codegen_syntax.specs.declared.nonterminals.Nonterminal.{Nonterminal}
use Rattle.swc_ecma_codegen_syntax.specs.declared.parameters.Parameters.{Parameters}
use Rattle.swc_ecma_codegen_syntax.specs.NodeForms.{summary_of}
use Rattle.swc_ecma_codegen_parentheses.specs.declared.mends.Usage.{Usage}
use Rattle.swc_ecma_codegen_parentheses.specs.declared.mends.Usage.TheVariants.{Part}
use Rattle.swc_ecma_codegen_parentheses.specs.declared.roots.Unmended.{Unmended}
use Rattle.swc_ecma_codegen_parentheses.specs.declared.roots.Unmended.TheVariants.{Left, TooDeep}
use Rattle.swc_ecma_codegen_parentheses.specs.Enclosed.{SameExpr, SameStmt}
use Rattle.swc_ecma_codegen_parentheses.specs.Operands.{free}
use Rattle.swc_ecma_codegen_parentheses.specs.SameModules.{same_module_item, same_program}
use Rattle.swc_ecma_codegen_parentheses.specs.Whole.{AddedHeld, SameHeld, SamePart, same_to}

-- the expression, and the block, that a link holds
abbrev pub expr_in : AnyNode → Option (Expr AnyNode)
expr_in n = expr_at (sorted_in n)

abbrev pub block_in : AnyNode → Option (BlockStmt AnyNode)
block_in n = option_and_then block_stmt_in (stmt_part_at (sorted_in n))

-- what two links hold, a part that is the same but for what the links in it hold
abbrev pub same_part : (Usage → AnyNode → AnyNode → Type 0) → Usage → AnyNode → AnyNode → Type 0
same_part = SamePart (λ n. expr_part_at (sorted_in n)) (λ n. stmt_part_at (sorted_in n)) (λ n. member_expr_at (sorted_in n)) (λ n. jsx_part_at (sorted_in n))

-- what two links hold, the same but for parentheses, and blocks, by what is said of the links in it
abbrev pub added : (Usage → AnyNode → AnyNode → Type 0) → Usage → AnyNode → AnyNode → Type 0
added = SameHeld (AddedHeld summary_of expr_in (λ n. expr_part_at (sorted_in n)) (λ n. stmt_part_at (sorted_in n)) (λ n. stmt_at (sorted_in n)) any_span) same_part

-- of an expression where this nonterminal with these parameters stands
abbrev pub SameExprTree : Nonterminal → Parameters → Expr AnyNode → Expr AnyNode → Type 0
SameExprTree place c n r = (depth : ℕ) × SameExpr summary_of expr_in any_span (same_to added depth) (Part place (free c)) n r

abbrev pub SameStmtTree : Stmt AnyNode → Stmt AnyNode → Type 0
SameStmtTree n r = (depth : ℕ) × SameStmt block_in any_span (same_to added depth) n r

abbrev pub SameItemTree : ModuleItem AnyNode → ModuleItem AnyNode → Type 0
SameItemTree n r = (depth : ℕ) × same_module_item (same_to added depth) n r

abbrev pub SameProgramTree : Program AnyNode → Program AnyNode → Type 0
SameProgramTree n r = (depth : ℕ) × same_program (same_to added depth) n r

-- what is said of the tree that is given back though parentheses are missing
unfoldable pub IfLeft : {T : Type 0} → Unmended T → (T → Type 0) → Type 0
IfLeft (Left r) P = P r
IfLeft e P = ⊤

-- what is said of the tree that is given back since it is too deep
unfoldable pub IfTooDeep : {T : Type 0} → Unmended T → (T → Type 0) → Type 0
IfTooDeep (TooDeep r) P = P r
IfTooDeep e P = ⊤
