-- The whole tree: the same but for parentheses, and blocks. Where a node is found in what a link holds, the parameters say.
use Rattle.std.specs.Prelude.{◌≡◌, ℕ, zero, suc, Option}
use Rattle.std.specs.Option.{option_and_then}
use Rattle.swc_ecma_codegen_common.specs.declared.positions.Span.{Span}
use Rattle.swc_ecma_codegen_tree.specs.declared.exprs.Expr.{Expr}
use Rattle.swc_ecma_codegen_tree.specs.declared.exprs.MemberExpr.{MemberExpr}
use Rattle.swc_ecma_codegen_tree.specs.declared.stmts.Stmt.{Stmt}
use Rattle.swc_ecma_codegen_tree.specs.declared.parts.ExprPart.{ExprPart}
use Rattle.swc_ecma_codegen_tree.specs.declared.parts.JSXPart.{JSXPart}
use Rattle.swc_ecma_codegen_tree.specs.declared.parts.StmtPart.{StmtPart}
use Rattle.swc_ecma_codegen_tree.specs.LinkTargets.{assign_target_in, block_stmt_in, class_in, class_member_in, decl_in, function_in, jsx_element_in, jsx_fragment_in, module_decl_in, opt_call_in, pat_in, prop_name_in, tpl_in, var_decl_in}
use Rattle.swc_ecma_codegen_grammar.specs.declared.roles.Role.{Role}
use Rattle.swc_ecma_codegen_syntax.specs.declared.parameters.Parameters.{Parameters}
use Rattle.swc_ecma_codegen_syntax.specs.Summary.{Summary}
use Rattle.swc_ecma_codegen_parentheses.specs.declared.mends.Usage.{Usage}
use Rattle.swc_ecma_codegen_parentheses.specs.Enclosed.{SameExpr, SamePat, SameStmt}
use Rattle.swc_ecma_codegen_parentheses.specs.Lent.{Lent}
use Rattle.swc_ecma_codegen_parentheses.specs.Operands.{declared_in_head, stands_in, within}
use Rattle.swc_ecma_codegen_parentheses.specs.declared.operands.Context.{Context}
use Rattle.swc_ecma_codegen_parentheses.specs.SamePats.{same_assign_target, same_pat}
use Rattle.swc_ecma_codegen_parentheses.specs.SameExprs.{same_member_expr, same_opt_call, same_tpl}
use Rattle.swc_ecma_codegen_parentheses.specs.SameObjects.{same_prop_name}
use Rattle.swc_ecma_codegen_parentheses.specs.SameDecls.{same_decl, same_function, same_var_decl}
use Rattle.swc_ecma_codegen_parentheses.specs.SameClasses.{same_class, same_class_member}
use Rattle.swc_ecma_codegen_parentheses.specs.SameStmts.{same_block_stmt}
use Rattle.swc_ecma_codegen_parentheses.specs.SameModules.{same_module_decl}
use Rattle.swc_ecma_codegen_parentheses.specs.SameJsx.{same_jsx_element, same_jsx_fragment}

module _ {X : Type 0} (expr_part_in : X → Option (ExprPart X)) (stmt_part_in : X → Option (StmtPart X)) (member_expr_in : X → Option (MemberExpr X)) (jsx_part_in : X → Option (JSXPart X)) where
  -- Both are nodes of one sort, the same but for what their links hold. A link of a chain stands where the chain does.
  pub data SamePart (m : Usage → X → X → Type 0) (usage : Usage) (n r : X) : Type 0 where
    pat : Lent (λ a. option_and_then pat_in (expr_part_in a)) (same_pat m) n r → SamePart m usage n r
    tpl : Lent (λ a. option_and_then tpl_in (expr_part_in a)) (same_tpl m) n r → SamePart m usage n r
    prop_name : Lent (λ a. option_and_then prop_name_in (expr_part_in a)) (same_prop_name m) n r → SamePart m usage n r
    member_expr : (at : Context) → stands_in usage at → Lent member_expr_in (same_member_expr (λ u. m (within at u))) n r → SamePart m usage n r
    opt_call : (at : Context) → stands_in usage at → Lent (λ a. option_and_then opt_call_in (expr_part_in a)) (same_opt_call (λ u. m (within at u))) n r → SamePart m usage n r
    function : Lent (λ a. option_and_then function_in (stmt_part_in a)) (same_function m) n r → SamePart m usage n r
    class : Lent (λ a. option_and_then class_in (stmt_part_in a)) (same_class m) n r → SamePart m usage n r
    block_stmt : Lent (λ a. option_and_then block_stmt_in (stmt_part_in a)) (same_block_stmt m) n r → SamePart m usage n r
    decl : Lent (λ a. option_and_then decl_in (stmt_part_in a)) (same_decl m) n r → SamePart m usage n r
    module_decl : Lent (λ a. option_and_then module_decl_in (stmt_part_in a)) (same_module_decl m) n r → SamePart m usage n r
    var_decl : Lent (λ a. option_and_then var_decl_in (stmt_part_in a)) (same_var_decl (λ u. m (within declared_in_head u))) n r → SamePart m usage n r
    class_member : Lent (λ a. option_and_then class_member_in (stmt_part_in a)) (same_class_member m) n r → SamePart m usage n r
    jsx_element : Lent (λ a. option_and_then jsx_element_in (jsx_part_in a)) (same_jsx_element m) n r → SamePart m usage n r
    jsx_fragment : Lent (λ a. option_and_then jsx_fragment_in (jsx_part_in a)) (same_jsx_fragment m) n r → SamePart m usage n r

module _ {X : Type 0} (f : X → Role → Parameters → Summary) (expr_in : X → Option (Expr X)) (expr_part_in : X → Option (ExprPart X)) (stmt_part_in : X → Option (StmtPart X)) (stmt_in : X → Option (Stmt X)) (place : X → Span) where
  -- Both are expressions, patterns, statements, or targets, the same but for what their links hold, and for parentheses round an expression or a name and
  -- a block round an `if`; or what is held stays.
  pub data AddedHeld (m : Usage → X → X → Type 0) (usage : Usage) (n r : X) : Type 0 where
    expr : Lent expr_in (SameExpr f expr_in place m usage) n r → AddedHeld m usage n r
    stmt : Lent stmt_in (SameStmt (λ a. option_and_then block_stmt_in (stmt_part_in a)) place m) n r → AddedHeld m usage n r
    assign_target : (at : Context) → stands_in usage at → Lent (λ a. option_and_then assign_target_in (expr_part_in a)) (same_assign_target (λ u. m (within at u))) n r → AddedHeld m usage n r
    pattern : Lent (λ a. option_and_then pat_in (expr_part_in a)) (SamePat expr_in m usage) n r → AddedHeld m usage n r
    kept : n ≡ r → AddedHeld m usage n r

-- They are changed in a way of their own, or they are a part that is the same but for what its links hold.
pub data SameHeld {X : Type 0} (own : (Usage → X → X → Type 0) → Usage → X → X → Type 0) (part : (Usage → X → X → Type 0) → Usage → X → X → Type 0) (m : Usage → X → X → Type 0) (usage : Usage) (n r : X) : Type 0 where
  changed : own m usage n r → SameHeld own part m usage n r
  as_part : part m usage n r → SameHeld own part m usage n r

-- Down to a depth; below it no link is another one.
unfoldable pub same_to : {X : Type 0} → ((Usage → X → X → Type 0) → Usage → X → X → Type 0) → ℕ → Usage → X → X → Type 0
same_to held zero usage n r = ⊥
same_to held (suc depth) usage n r = held (same_to held depth) usage n r
