-- What a node is whose links hold something else, in whatever way it isn't one of those that are changed in a way of their own.
use Rattle.std.proofs.Common.{◌≡◌, ◌≢◌, refl, sym, ap, ◌∙◌, Option}
use Rattle.swc_ecma_codegen_tree.specs.declared.links.AnyNode.{AnyNode, AnyNode-F, out-AnyNode, roll-AnyNode}
use Rattle.swc_ecma_codegen_tree.specs.declared.links.AnyNode.TheOpen as nodes
use Rattle.swc_ecma_codegen_tree.specs.declared.links.AnyNode.TheVariants as whole
use Rattle.swc_ecma_codegen_tree.specs.declared.links.AnyNode.TheViews.{roll-out-AnyNode}
use Rattle.swc_ecma_codegen_tree.specs.declared.links.Link.{Link}
use Rattle.swc_ecma_codegen_tree.specs.declared.parts.ExprPart.{ExprPart}
use Rattle.swc_ecma_codegen_tree.specs.declared.parts.ExprPart.TheVariants as expr_parts
use Rattle.swc_ecma_codegen_tree.specs.declared.parts.StmtPart.{StmtPart}
use Rattle.swc_ecma_codegen_tree.specs.declared.parts.StmtPart.TheVariants as stmt_parts
use Rattle.swc_ecma_codegen_tree.specs.declared.parts.TsPart.{TsPart}
use Rattle.swc_ecma_codegen_tree.specs.declared.parts.TsPart.TheVariants as ts_parts
use Rattle.swc_ecma_codegen_tree.specs.declared.pats.AssignTarget.{AssignTarget}
use Rattle.swc_ecma_codegen_tree.specs.declared.pats.Pat.{Pat}
use Rattle.swc_ecma_codegen_tree.specs.declared.pats.Pat.TheVariants as pats
use Rattle.swc_ecma_codegen_tree.specs.declared.sorts.ToExpr.{ToExpr}
use Rattle.swc_ecma_codegen_tree.specs.declared.stmts.BlockStmt.{BlockStmt}
use Rattle.swc_ecma_codegen_tree.specs.declared.stmts.ExprStmt.{ExprStmt}
use Rattle.swc_ecma_codegen_tree.specs.declared.stmts.Stmt.{Stmt}
use Rattle.swc_ecma_codegen_tree.specs.declared.stmts.Stmt.TheVariants as stmts
use Rattle.swc_ecma_codegen_tree.specs.declared.ts_decls.TsModuleBlock.{TsModuleBlock}
use Rattle.swc_ecma_codegen_tree.specs.declared.ts_decls.TsNamespaceBody.{TsNamespaceBody}
use Rattle.swc_ecma_codegen_tree.specs.declared.ts_decls.TsNamespaceBody.TheVariants as namespace_bodies
use Rattle.swc_ecma_codegen_visit.specs.Mapped.{map_layer, map_node}
use Rattle.swc_ecma_codegen_visit.specs.MappedModules.{map_ts_namespace_body}
use Rattle.swc_ecma_codegen_visit.specs.MappedParts.{map_expr_part, map_stmt_part, map_ts_part}
use Rattle.swc_ecma_codegen_visit.specs.MappedPats.{map_assign_target, map_pat}
use Rattle.swc_ecma_codegen_visit.specs.MappedStmts.{map_stmt}
use Rattle.swc_ecma_codegen_visit.proofs.MapLaws.{layer_kept, node_kept, stmt_kept}
use Rattle.swc_ecma_codegen_parentheses.specs.declared.opens.Standing.{Standing}
use Rattle.swc_ecma_codegen_parentheses.specs.declared.opens.Standing.TheVariants.{Value}
use Rattle.swc_ecma_codegen_parentheses.specs.Bare.{bare_layer, open_expr_part, open_namespace_body, open_pat, open_stmt, open_stmt_part, open_ts_part, opened_node}

-- ---- what has the same names and holds the same is the same

abbrev expr_part_of : {X : Type 0} → ExprPart X → AnyNode-F X → ExprPart X
expr_part_of other (nodes.ExprPart n) = n
expr_part_of other n = other

abbrev stmt_part_of : {X : Type 0} → StmtPart X → AnyNode-F X → StmtPart X
stmt_part_of other (nodes.StmtPart n) = n
stmt_part_of other n = other

abbrev ts_part_of : {X : Type 0} → TsPart X → AnyNode-F X → TsPart X
ts_part_of other (nodes.TsPart n) = n
ts_part_of other n = other

abbrev pat_of : {X : Type 0} → Pat X → ExprPart X → Pat X
pat_of other (expr_parts.Pat n) = n
pat_of other n = other

abbrev target_of : {X : Type 0} → AssignTarget X → ExprPart X → AssignTarget X
target_of other (expr_parts.AssignTarget n) = n
target_of other n = other

abbrev body_of : {X : Type 0} → TsNamespaceBody X → TsPart X → TsNamespaceBody X
body_of other (ts_parts.TsNamespaceBody n) = n
body_of other n = other

expr_part_kept : {X : Type 0} (n : ExprPart X) → map_expr_part (λ x. x) (λ x. x) n ≡ n
expr_part_kept n = ap (expr_part_of n) (layer_kept (nodes.ExprPart n))

stmt_part_kept : {X : Type 0} (n : StmtPart X) → map_stmt_part (λ x. x) (λ x. x) n ≡ n
stmt_part_kept n = ap (stmt_part_of n) (layer_kept (nodes.StmtPart n))

ts_part_kept : {X : Type 0} (n : TsPart X) → map_ts_part (λ x. x) (λ x. x) n ≡ n
ts_part_kept n = ap (ts_part_of n) (layer_kept (nodes.TsPart n))

pat_kept : {X : Type 0} (n : Pat X) → map_pat (λ x. x) (λ x. x) n ≡ n
pat_kept n = ap (pat_of n) (expr_part_kept (expr_parts.Pat n))

target_kept : {X : Type 0} (n : AssignTarget X) → map_assign_target (λ x. x) (λ x. x) n ≡ n
target_kept n = ap (target_of n) (expr_part_kept (expr_parts.AssignTarget n))

body_kept : {X : Type 0} (n : TsNamespaceBody X) → map_ts_namespace_body (λ x. x) (λ x. x) n ≡ n
body_kept n = ap (body_of n) (ts_part_kept (ts_parts.TsNamespaceBody n))

pub target_left : {X : Type 0} (f : X → X) (n m : AssignTarget X) → map_assign_target (λ x. x) f n ≡ map_assign_target (λ x. x) (λ x. x) m → m ≡ map_assign_target (λ x. x) f n
target_left f n m same = sym (target_kept m) ∙ sym same

-- ---- nodes whose links hold values

module _ {X : Type 0} (open_as : Standing → X → X) where
  pub other_stmt : (n m : Stmt X) → ((x : ExprStmt X) → n ≢ stmts.Expr x)
      → map_stmt (λ x. x) (open_as Value) n ≡ map_stmt (λ x. x) (λ x. x) m → m ≡ open_stmt open_as n
  other_stmt (stmts.Expr x) m never same = absurd (never x refl)
  other_stmt n m never same = sym (stmt_kept m) ∙ sym same

  pub other_pat : (n m : Pat X) → ((x : Link ToExpr X) → n ≢ pats.Expr x)
      → map_pat (λ x. x) (open_as Value) n ≡ map_pat (λ x. x) (λ x. x) m → m ≡ open_pat open_as n
  other_pat (pats.Expr x) m never same = absurd (never x refl)
  other_pat n m never same = sym (pat_kept m) ∙ sym same

  pub other_stmt_part : (n m : StmtPart X) → ((x : BlockStmt X) → n ≢ stmt_parts.BlockStmt x)
      → map_stmt_part (λ x. x) (open_as Value) n ≡ map_stmt_part (λ x. x) (λ x. x) m → m ≡ open_stmt_part open_as n
  other_stmt_part (stmt_parts.BlockStmt x) m never same = absurd (never x refl)
  other_stmt_part n m never same = sym (stmt_part_kept m) ∙ sym same

  pub other_body : (n m : TsNamespaceBody X) → ((x : TsModuleBlock X) → n ≢ namespace_bodies.TsModuleBlock x)
      → map_ts_namespace_body (λ x. x) (open_as Value) n ≡ map_ts_namespace_body (λ x. x) (λ x. x) m → m ≡ open_namespace_body open_as n
  other_body (namespace_bodies.TsModuleBlock x) m never same = absurd (never x refl)
  other_body n m never same = sym (body_kept m) ∙ sym same

  pub other_ts_part : (n m : TsPart X) → ((x : TsNamespaceBody X) → n ≢ ts_parts.TsNamespaceBody x)
      → map_ts_part (λ x. x) (open_as Value) n ≡ map_ts_part (λ x. x) (λ x. x) m → m ≡ open_ts_part open_as n
  other_ts_part (ts_parts.TsNamespaceBody x) m never same = absurd (never x refl)
  other_ts_part n m never same = sym (ts_part_kept m) ∙ sym same

  pub other_expr_part : (property : X → Option (AssignTarget X)) (n m : ExprPart X)
      → ((x : Pat X) → n ≢ expr_parts.Pat x) → ((x : AssignTarget X) → n ≢ expr_parts.AssignTarget x)
      → map_expr_part (λ x. x) (open_as Value) n ≡ map_expr_part (λ x. x) (λ x. x) m → m ≡ open_expr_part open_as property n
  other_expr_part property (expr_parts.Pat x) m no_pat no_target same = absurd (no_pat x refl)
  other_expr_part property (expr_parts.AssignTarget x) m no_pat no_target same = absurd (no_target x refl)
  other_expr_part property n m no_pat no_target same = sym (expr_part_kept m) ∙ sym same

other_layer : (n : AnyNode-F AnyNode) → ((x : Stmt AnyNode) → n ≢ nodes.Stmt x) → ((x : ExprPart AnyNode) → n ≢ nodes.ExprPart x)
    → ((x : StmtPart AnyNode) → n ≢ nodes.StmtPart x) → ((x : TsPart AnyNode) → n ≢ nodes.TsPart x)
    → map_layer (λ x. x) (opened_node Value) n ≡ bare_layer n
unfolding bare_layer
other_layer (nodes.Stmt x) no_stmt _ _ _ = absurd (no_stmt x refl)
other_layer (nodes.ExprPart x) _ no_expr_part _ _ = absurd (no_expr_part x refl)
other_layer (nodes.StmtPart x) _ _ no_stmt_part _ = absurd (no_stmt_part x refl)
other_layer (nodes.TsPart x) _ _ _ no_ts_part = absurd (no_ts_part x refl)
other_layer n _ _ _ _ = refl

pub other_node : (n m : AnyNode) → ((x : Stmt AnyNode) → n ≢ whole.Stmt x) → ((x : ExprPart AnyNode) → n ≢ whole.ExprPart x)
    → ((x : StmtPart AnyNode) → n ≢ whole.StmtPart x) → ((x : TsPart AnyNode) → n ≢ whole.TsPart x)
    → map_node (λ x. x) (opened_node Value) n ≡ map_node (λ x. x) (λ x. x) m → m ≡ roll-AnyNode (bare_layer (out-AnyNode n))
other_node n m no_stmt no_expr_part no_stmt_part no_ts_part same = sym (node_kept m) ∙ sym same ∙ ap roll-AnyNode (other_layer (out-AnyNode n)
    (λ x is. no_stmt x (sym (roll-out-AnyNode n) ∙ ap roll-AnyNode is ∙ whole.rolls-Stmt x))
    (λ x is. no_expr_part x (sym (roll-out-AnyNode n) ∙ ap roll-AnyNode is ∙ whole.rolls-ExprPart x))
    (λ x is. no_stmt_part x (sym (roll-out-AnyNode n) ∙ ap roll-AnyNode is ∙ whole.rolls-StmtPart x))
    (λ x is. no_ts_part x (sym (roll-out-AnyNode n) ∙ ap roll-AnyNode is ∙ whole.rolls-TsPart x)))
