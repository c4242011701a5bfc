-- Trees without their parentheses.
use Rattle.std.specs.Prelude.{◌≡◌, Bool, true, false, not, if◌then◌else◌, Option, Some, None}
use Rattle.std.specs.Option.{is_some, option_and_then, unwrap_or}
use Rattle.std.specs.formers.vec.Vec.{mapped as vec_mapped}
use Rattle.swc_ecma_codegen_tree.specs.declared.links.AnyNode.{AnyNode, AnyNode-F, out-AnyNode, roll-AnyNode}
use Rattle.swc_ecma_codegen_tree.specs.declared.links.AnyNode.TheOpen as nodes
use Rattle.swc_ecma_codegen_tree.specs.declared.exprs.Expr.{Expr}
use Rattle.swc_ecma_codegen_tree.specs.declared.exprs.Expr.TheVariants as exprs
use Rattle.swc_ecma_codegen_tree.specs.declared.lits.Lit.TheVariants as lits
use Rattle.swc_ecma_codegen_tree.specs.declared.parts.ExprPart.{ExprPart}
use Rattle.swc_ecma_codegen_tree.specs.declared.parts.ExprPart.TheVariants as expr_parts
use Rattle.swc_ecma_codegen_tree.specs.declared.parts.StmtPart.{StmtPart}
use Rattle.swc_ecma_codegen_tree.specs.declared.parts.StmtPart.TheVariants as stmt_parts
use Rattle.swc_ecma_codegen_tree.specs.declared.parts.TsPart.{TsPart}
use Rattle.swc_ecma_codegen_tree.specs.declared.parts.TsPart.TheVariants as ts_parts
use Rattle.swc_ecma_codegen_tree.specs.declared.pats.AssignTarget.{AssignTarget}
use Rattle.swc_ecma_codegen_tree.specs.declared.pats.AssignTarget.TheVariants as assign_targets
use Rattle.swc_ecma_codegen_tree.specs.declared.pats.Pat.{Pat}
use Rattle.swc_ecma_codegen_tree.specs.declared.pats.Pat.TheVariants as pats
use Rattle.swc_ecma_codegen_tree.specs.declared.pats.SimpleAssignTarget.TheVariants as simple_assign_targets
use Rattle.swc_ecma_codegen_tree.specs.declared.programs.ModuleItem.{ModuleItem}
use Rattle.swc_ecma_codegen_tree.specs.declared.programs.ModuleItem.TheVariants as module_items
use Rattle.swc_ecma_codegen_tree.specs.declared.programs.Program.{Program}
use Rattle.swc_ecma_codegen_tree.specs.declared.programs.Program.TheVariants as programs
use Rattle.swc_ecma_codegen_tree.specs.declared.stmts.Stmt.{Stmt}
use Rattle.swc_ecma_codegen_tree.specs.declared.stmts.Stmt.TheVariants as stmts
use Rattle.swc_ecma_codegen_tree.specs.declared.ts_decls.TsNamespaceBody.{TsNamespaceBody}
use Rattle.swc_ecma_codegen_tree.specs.declared.ts_decls.TsNamespaceBody.TheVariants as namespace_bodies
use Rattle.swc_ecma_codegen_tree.specs.LinkTargets.{sorted_in}
use Rattle.swc_ecma_codegen_tree.specs.SortedNodes.{expr_at}
use Rattle.swc_ecma_codegen_visit.specs.Changed.{each_node}
use Rattle.swc_ecma_codegen_visit.specs.Mapped.{map_layer}
use Rattle.swc_ecma_codegen_visit.specs.MappedExprs.{map_expr}
use Rattle.swc_ecma_codegen_visit.specs.MappedModules.{map_module_item, map_program, map_ts_namespace_body}
use Rattle.swc_ecma_codegen_visit.specs.MappedParts.{map_expr_part, map_stmt_part, map_ts_part}
use Rattle.swc_ecma_codegen_visit.specs.MappedPats.{map_assign_target, map_pat}
use Rattle.swc_ecma_codegen_visit.specs.MappedStmts.{map_expr_stmt, map_stmt}
use Rattle.swc_ecma_codegen_visit.specs.Mapping.{map_link}
use Rattle.swc_ecma_codegen_parentheses.specs.declared.opens.Standing.{Standing}
use Rattle.swc_ecma_codegen_parentheses.specs.declared.opens.Standing.TheVariants.{Value, Statement, Target}

-- ---- which pairs stay

-- a string, which as a statement is a directive, section 11.2.1
abbrev pub is_string : {X : Type 0} → Expr X → Bool
is_string (exprs.Lit (lits.Str s)) = true
is_string n = false

-- the target that a property is, `a.b` or `super.b`
abbrev pub target_of : {X : Type 0} → Expr X → Option (AssignTarget X)
target_of (exprs.Member n) = Some (assign_targets.Simple (simple_assign_targets.Member n))
target_of (exprs.SuperProp n) = Some (assign_targets.Simple (simple_assign_targets.SuperProp n))
target_of n = None

abbrev pub is_property : {X : Type 0} → Expr X → Bool
is_property n = is_some (target_of n)

-- Whether a pair stays by what stands in it: the statement `("use strict");` is no directive; and `(a) = function () {}` gives the function no name,
-- section 13.15.2, where `(a.b) = c` is `a.b = c`.
abbrev pub stays : {X : Type 0} → Standing → Option (Expr X) → Bool
stays Statement (Some inside) = is_string inside
stays Target (Some inside) = not (is_property inside)
stays standing inside = false

-- ---- what one link holds

-- the expression, and the property as a target, that is held
abbrev pub expr_in : AnyNode → Option (Expr AnyNode)
expr_in n = expr_at (sorted_in n)

abbrev pub property_in : AnyNode → Option (AssignTarget AnyNode)
property_in n = option_and_then target_of (expr_in n)

-- what is held, out of the pair of parentheses that it is, unless that stays
unfoldable pub opened : Standing → AnyNode-F AnyNode → AnyNode
opened standing (nodes.Expr (exprs.Paren pair)) = if stays standing (expr_in pair.expr.node.value) then roll-AnyNode (nodes.Expr (exprs.Paren pair)) else pair.expr.node.value
opened standing n = roll-AnyNode n

abbrev pub opened_node : Standing → AnyNode → AnyNode
opened_node standing n = opened standing (out-AnyNode n)

-- ---- what the links of a node hold: `open_as` of it, by how it stands there

module _ {X : Type 0} (open_as : Standing → X → X) where
  abbrev pub open_stmt : Stmt X → Stmt X
  open_stmt (stmts.Expr n) = stmts.Expr (map_expr_stmt (λ x. x) (open_as Statement) n)
  open_stmt n = map_stmt (λ x. x) (open_as Value) n

  abbrev pub open_item : ModuleItem X → ModuleItem X
  open_item (module_items.Stmt n) = module_items.Stmt (open_stmt n)
  open_item n = map_module_item (λ x. x) (open_as Value) n

  abbrev pub open_program : Program X → Program X
  open_program (programs.Module n) = programs.Module (record n { body = vec_mapped open_item n.body })
  open_program (programs.Script n) = programs.Script (record n { body = vec_mapped open_stmt n.body })

  abbrev pub open_stmt_part : StmtPart X → StmtPart X
  open_stmt_part (stmt_parts.BlockStmt n) = stmt_parts.BlockStmt (record n { stmts = vec_mapped open_stmt n.stmts })
  open_stmt_part n = map_stmt_part (λ x. x) (open_as Value) n

  abbrev pub open_namespace_body : TsNamespaceBody X → TsNamespaceBody X
  open_namespace_body (namespace_bodies.TsModuleBlock n) = namespace_bodies.TsModuleBlock (record n { body = vec_mapped open_item n.body })
  open_namespace_body n = map_ts_namespace_body (λ x. x) (open_as Value) n

  abbrev pub open_ts_part : TsPart X → TsPart X
  open_ts_part (ts_parts.TsNamespaceBody n) = ts_parts.TsNamespaceBody (open_namespace_body n)
  open_ts_part n = map_ts_part (λ x. x) (open_as Value) n

  abbrev pub open_pat : Pat X → Pat X
  open_pat (pats.Expr link) = pats.Expr (map_link (open_as Target) link)
  open_pat n = map_pat (λ x. x) (open_as Value) n

-- a target, out of its pair if that holds a property
abbrev pub property_out : {X : Type 0} → (X → Option (AssignTarget X)) → AssignTarget X → AssignTarget X
property_out property (assign_targets.Simple (simple_assign_targets.Paren pair)) = unwrap_or (property pair.expr.node.value) (assign_targets.Simple (simple_assign_targets.Paren pair))
property_out property n = n

module _ {X : Type 0} (open_as : Standing → X → X) (property : X → Option (AssignTarget X)) where
  abbrev pub open_target : AssignTarget X → AssignTarget X
  open_target n = property_out property (map_assign_target (λ x. x) (open_as Value) n)

  abbrev pub open_expr_part : ExprPart X → ExprPart X
  open_expr_part (expr_parts.Pat n) = expr_parts.Pat (open_pat open_as n)
  open_expr_part (expr_parts.AssignTarget n) = expr_parts.AssignTarget (open_target n)
  open_expr_part n = map_expr_part (λ x. x) (open_as Value) n

-- ---- the whole tree

-- one node, where what its links hold is open
unfoldable pub bare_layer : AnyNode-F AnyNode → AnyNode-F AnyNode
bare_layer (nodes.Stmt n) = nodes.Stmt (open_stmt opened_node n)
bare_layer (nodes.ExprPart n) = nodes.ExprPart (open_expr_part opened_node property_in n)
bare_layer (nodes.StmtPart n) = nodes.StmtPart (open_stmt_part opened_node n)
bare_layer (nodes.TsPart n) = nodes.TsPart (open_ts_part opened_node n)
bare_layer n = map_layer (λ x. x) (opened_node Value) n

-- a node, where what its links hold is open, and what the links of these hold, and so on
abbrev pub bare_below : AnyNode → AnyNode
bare_below = each_node (λ n. roll-AnyNode (bare_layer n))

abbrev pub bare_program : Program AnyNode → Program AnyNode
bare_program n = open_program opened_node (map_program (λ x. x) bare_below n)

abbrev pub bare_item : ModuleItem AnyNode → ModuleItem AnyNode
bare_item n = open_item opened_node (map_module_item (λ x. x) bare_below n)

abbrev pub bare_stmt : Stmt AnyNode → Stmt AnyNode
bare_stmt n = open_stmt opened_node (map_stmt (λ x. x) bare_below n)

-- an expression, out of its pair too
abbrev pub out_of_pair : {X : Type 0} → (X → Option (Expr X)) → Expr X → Expr X
out_of_pair expr_in (exprs.Paren pair) = unwrap_or (expr_in pair.expr.node.value) (exprs.Paren pair)
out_of_pair expr_in n = n

abbrev pub bare_expr : Expr AnyNode → Expr AnyNode
bare_expr n = out_of_pair expr_in (map_expr (λ x. x) (opened_node Value) (map_expr (λ x. x) bare_below n))

-- ---- no other pair

-- no pair, or one that stays
abbrev pub stands : Standing → AnyNode-F AnyNode → Bool
stands standing (nodes.Expr (exprs.Paren pair)) = stays standing (expr_in pair.expr.node.value)
stands standing n = true
