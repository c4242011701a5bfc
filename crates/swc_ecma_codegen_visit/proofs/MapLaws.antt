-- What a change of every name or every node comes to: laws of the map by cases, for whoever writes a change.
use Rattle.std.proofs.Common.{◌≡◌, refl, sym, ap, ◌∙◌}
use Rattle.swc_ecma_codegen_tree.specs.declared.idents.Ident.{Ident}
use Rattle.swc_ecma_codegen_tree.specs.declared.links.AnyNode.{AnyNode, AnyNode-F, map-AnyNode, out-AnyNode, roll-AnyNode, fold-AnyNode}
use Rattle.swc_ecma_codegen_tree.specs.declared.links.AnyNode.TheOpen as nodes
use Rattle.swc_ecma_codegen_tree.specs.declared.links.AnyNode.TheFolds.{fold_out-AnyNode}
use Rattle.swc_ecma_codegen_tree.specs.declared.links.AnyNode.TheViews.{roll-out-AnyNode, out-roll-AnyNode}
use Rattle.swc_ecma_codegen_tree.specs.declared.links.AnyNode.TheShapes.{former-AnyNode-Expr-0, former-AnyNode-Stmt-0, former-AnyNode-MemberExpr-0, former-AnyNode-ExprPart-0, former-AnyNode-StmtPart-0, former-AnyNode-JSXPart-0, former-AnyNode-TsPart-0}
use mathlib.Core.Former.{map-id}
use Rattle.swc_ecma_codegen_tree.specs.declared.exprs.Expr.{Expr}
use Rattle.swc_ecma_codegen_tree.specs.declared.stmts.Stmt.{Stmt}
use Rattle.swc_ecma_codegen_tree.specs.declared.programs.ModuleItem.{ModuleItem}
use Rattle.swc_ecma_codegen_tree.specs.declared.programs.ModuleItem.TheVariants as module_items
use Rattle.swc_ecma_codegen_tree.specs.declared.programs.Program.{Program}
use Rattle.swc_ecma_codegen_tree.specs.declared.programs.Program.TheVariants as programs
use Rattle.swc_ecma_codegen_visit.specs.Mapped.{map_layer, map_node}
use Rattle.swc_ecma_codegen_visit.specs.MappedExprs.{map_expr}
use Rattle.swc_ecma_codegen_visit.specs.MappedStmts.{map_stmt}
use Rattle.swc_ecma_codegen_visit.specs.MappedModules.{map_module_item, map_program}
use Rattle.swc_ecma_codegen_visit.specs.Changed.{each_ident, each_node, with_nodes}
use Rattle.swc_ecma_codegen_visit.proofs.Rules.{vec_kept}
use Rattle.swc_ecma_codegen_visit.proofs.Layers.{layer_same}
use Rattle.swc_ecma_codegen_visit.proofs.FusedLayers.{layer_fused}

-- ---- what has the same names and holds the same is the same

derived_kept : {X : Type 0} (n : AnyNode-F X) → map-AnyNode X X (λ x. x) n ≡ n
derived_kept {X} (nodes.Expr n) = ap nodes.Expr (map-id former-AnyNode-Expr-0 X n)
derived_kept {X} (nodes.Stmt n) = ap nodes.Stmt (map-id former-AnyNode-Stmt-0 X n)
derived_kept {X} (nodes.MemberExpr n) = ap nodes.MemberExpr (map-id former-AnyNode-MemberExpr-0 X n)
derived_kept {X} (nodes.ExprPart n) = ap nodes.ExprPart (map-id former-AnyNode-ExprPart-0 X n)
derived_kept {X} (nodes.StmtPart n) = ap nodes.StmtPart (map-id former-AnyNode-StmtPart-0 X n)
derived_kept {X} (nodes.JSXPart n) = ap nodes.JSXPart (map-id former-AnyNode-JSXPart-0 X n)
derived_kept {X} (nodes.TsPart n) = ap nodes.TsPart (map-id former-AnyNode-TsPart-0 X n)

pub layer_kept : {X : Type 0} (n : AnyNode-F X) → map_layer (λ x. x) (λ x. x) n ≡ n
layer_kept n = layer_same (λ x. x) n ∙ derived_kept n

pub node_kept : (n : AnyNode) → map_node (λ x. x) (λ x. x) n ≡ n
node_kept n = ap roll-AnyNode (layer_kept (out-AnyNode n)) ∙ roll-out-AnyNode n

abbrev stmt_of : {X : Type 0} → Stmt X → AnyNode-F X → Stmt X
stmt_of other (nodes.Stmt n) = n
stmt_of other n = other

abbrev expr_of : {X : Type 0} → Expr X → AnyNode-F X → Expr X
expr_of other (nodes.Expr n) = n
expr_of other n = other

pub expr_kept : {X : Type 0} (n : Expr X) → map_expr (λ x. x) (λ x. x) n ≡ n
expr_kept n = ap (expr_of n) (layer_kept (nodes.Expr n))

pub stmt_kept : {X : Type 0} (n : Stmt X) → map_stmt (λ x. x) (λ x. x) n ≡ n
stmt_kept n = ap (stmt_of n) (layer_kept (nodes.Stmt n))

pub item_kept : {X : Type 0} (n : ModuleItem X) → map_module_item (λ x. x) (λ x. x) n ≡ n
item_kept (module_items.ModuleDecl n) = refl
item_kept (module_items.Stmt n) = ap module_items.Stmt (stmt_kept n)

pub program_kept : {X : Type 0} (n : Program X) → map_program (λ x. x) (λ x. x) n ≡ n
program_kept (programs.Module n) = ap (λ v. programs.Module (record n { body = v })) (vec_kept item_kept n.body)
program_kept (programs.Script n) = ap (λ v. programs.Script (record n { body = v })) (vec_kept stmt_kept n.body)

pub same_node : (n m : AnyNode) → map_node (λ x. x) (λ x. x) n ≡ map_node (λ x. x) (λ x. x) m → n ≡ m
same_node n m same = sym (node_kept n) ∙ same ∙ node_kept m

pub same_expr : (n m : Expr AnyNode) → map_expr (λ x. x) (λ x. x) n ≡ map_expr (λ x. x) (λ x. x) m → m ≡ n
same_expr n m same = sym (expr_kept m) ∙ sym same ∙ expr_kept n

pub same_stmt : (n m : Stmt AnyNode) → map_stmt (λ x. x) (λ x. x) n ≡ map_stmt (λ x. x) (λ x. x) m → m ≡ n
same_stmt n m same = sym (stmt_kept m) ∙ sym same ∙ stmt_kept n

pub same_item : (n m : ModuleItem AnyNode) → map_module_item (λ x. x) (λ x. x) n ≡ map_module_item (λ x. x) (λ x. x) m → m ≡ n
same_item n m same = sym (item_kept m) ∙ sym same ∙ item_kept n

pub same_program : (n m : Program AnyNode) → map_program (λ x. x) (λ x. x) n ≡ map_program (λ x. x) (λ x. x) m → m ≡ n
same_program n m same = sym (program_kept m) ∙ sym same ∙ program_kept n

-- ---- what a step makes of each node, once its links hold what it made of what they held

pub fold_layer : (step : AnyNode-F AnyNode → AnyNode) (n : AnyNode)
    → fold-AnyNode AnyNode step n ≡ step (map_layer (λ x. x) (fold-AnyNode AnyNode step) (out-AnyNode n))
fold_layer step n = fold_out-AnyNode AnyNode step n ∙ ap step (sym (layer_same (fold-AnyNode AnyNode step) (out-AnyNode n)))

layers_met : (g h : Ident → Ident) (f k : AnyNode → AnyNode) (n m : AnyNode)
    → map_node g f n ≡ map_node h k m → map_layer g f (out-AnyNode n) ≡ map_layer h k (out-AnyNode m)
layers_met g h f k n m same =
    sym (out-roll-AnyNode (map_layer g f (out-AnyNode n))) ∙ ap out-AnyNode same ∙ out-roll-AnyNode (map_layer h k (out-AnyNode m))

-- where all links hold what the step made, the node is still to be stepped
pub step_left : (step : AnyNode-F AnyNode → AnyNode) (n m : AnyNode)
    → map_node (λ x. x) (each_node step) n ≡ map_node (λ x. x) (λ x. x) m → each_node step n ≡ step (out-AnyNode m)
unfolding each_node
step_left step n m same = fold_layer step n
    ∙ ap step (layers_met (λ x. x) (λ x. x) (fold-AnyNode AnyNode step) (λ x. x) n m same ∙ layer_kept (out-AnyNode m))

-- where one step made of what links held what another makes of what they hold
pub steps_left : (step other : AnyNode-F AnyNode → AnyNode) (n m : AnyNode)
    → map_node (λ x. x) (each_node step) n ≡ map_node (λ x. x) (each_node other) m → each_node step n ≡ step (map_layer (λ x. x) (each_node other) (out-AnyNode m))
unfolding each_node
steps_left step other n m same = fold_layer step n
    ∙ ap step (layers_met (λ x. x) (λ x. x) (fold-AnyNode AnyNode step) (fold-AnyNode AnyNode other) n m same)

pub program_left : (step : AnyNode-F AnyNode → AnyNode) (n m : Program AnyNode)
    → map_program (λ x. x) (each_node step) n ≡ map_program (λ x. x) (λ x. x) m → m ≡ with_nodes step n
program_left step n m same = sym (program_kept m) ∙ sym same

-- ---- each name

-- a node with `g` of each name below it, and of its own
pub each_ident_at : (g : Ident → Ident) (n : AnyNode) → each_ident g n ≡ map_node g (each_ident g) n
unfolding each_ident
each_ident_at g n = fold_layer (λ l. roll-AnyNode (map_layer g (λ x. x) l)) n
    ∙ ap roll-AnyNode (layer_fused g (λ x. x) (λ x. x) (each_ident g) (out-AnyNode n))

pub idents_left : (g h : Ident → Ident) (n m : AnyNode) → map_node g (each_ident g) n ≡ map_node h (each_ident h) m → each_ident g n ≡ each_ident h m
idents_left g h n m same = each_ident_at g n ∙ same ∙ sym (each_ident_at h m)
