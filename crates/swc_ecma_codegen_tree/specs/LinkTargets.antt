-- The node of each sort that a link holds.
use Rattle.std.specs.Prelude.{Option, Some, None}
use Rattle.swc_ecma_codegen_tree.specs.declared.links.AnyNode.{AnyNode, AnyNode-F, out-AnyNode}
use Rattle.swc_ecma_codegen_tree.specs.declared.links.AnyNode.TheOpen as nodes
use Rattle.swc_ecma_codegen_tree.specs.declared.sums.Sorted.{Sorted}
use Rattle.swc_ecma_codegen_tree.specs.declared.sums.Sorted.TheVariants as sorted
use Rattle.swc_ecma_codegen_tree.specs.declared.parts.ExprPart.{ExprPart}
use Rattle.swc_ecma_codegen_tree.specs.declared.parts.ExprPart.TheVariants as expr_parts
use Rattle.swc_ecma_codegen_tree.specs.declared.parts.StmtPart.{StmtPart}
use Rattle.swc_ecma_codegen_tree.specs.declared.parts.StmtPart.TheVariants as stmt_parts
use Rattle.swc_ecma_codegen_tree.specs.declared.parts.JSXPart.{JSXPart}
use Rattle.swc_ecma_codegen_tree.specs.declared.parts.JSXPart.TheVariants as jsx_parts
use Rattle.swc_ecma_codegen_tree.specs.declared.parts.TsPart.{TsPart}
use Rattle.swc_ecma_codegen_tree.specs.declared.parts.TsPart.TheVariants as ts_parts
use Rattle.swc_ecma_codegen_tree.specs.declared.exprs.Expr.{Expr}
use Rattle.swc_ecma_codegen_tree.specs.declared.stmts.Stmt.{Stmt}
use Rattle.swc_ecma_codegen_tree.specs.declared.exprs.MemberExpr.{MemberExpr}
use Rattle.swc_ecma_codegen_tree.specs.declared.pats.Pat.{Pat}
use Rattle.swc_ecma_codegen_tree.specs.declared.exprs.Tpl.{Tpl}
use Rattle.swc_ecma_codegen_tree.specs.declared.exprs.ObjectLit.{ObjectLit}
use Rattle.swc_ecma_codegen_tree.specs.declared.exprs.PropName.{PropName}
use Rattle.swc_ecma_codegen_tree.specs.declared.exprs.OptCall.{OptCall}
use Rattle.swc_ecma_codegen_tree.specs.declared.pats.AssignTarget.{AssignTarget}
use Rattle.swc_ecma_codegen_tree.specs.declared.decls.Function.{Function}
use Rattle.swc_ecma_codegen_tree.specs.declared.classes.Class.{Class}
use Rattle.swc_ecma_codegen_tree.specs.declared.stmts.BlockStmt.{BlockStmt}
use Rattle.swc_ecma_codegen_tree.specs.declared.decls.Decl.{Decl}
use Rattle.swc_ecma_codegen_tree.specs.declared.programs.ModuleDecl.{ModuleDecl}
use Rattle.swc_ecma_codegen_tree.specs.declared.decls.VarDecl.{VarDecl}
use Rattle.swc_ecma_codegen_tree.specs.declared.classes.ClassMember.{ClassMember}
use Rattle.swc_ecma_codegen_tree.specs.declared.jsx.JSXElement.{JSXElement}
use Rattle.swc_ecma_codegen_tree.specs.declared.jsx.JSXFragment.{JSXFragment}
use Rattle.swc_ecma_codegen_tree.specs.declared.jsx.JSXObject.{JSXObject}
use Rattle.swc_ecma_codegen_tree.specs.declared.ts_members.TsInterfaceBody.{TsInterfaceBody}
use Rattle.swc_ecma_codegen_tree.specs.declared.ts_types.TsType.{TsType}
use Rattle.swc_ecma_codegen_tree.specs.declared.ts_decls.TsNamespaceBody.{TsNamespaceBody}
use Rattle.swc_ecma_codegen_tree.specs.declared.ts_types.TsTypeAnn.{TsTypeAnn}
use Rattle.swc_ecma_codegen_tree.specs.declared.ts_types.TsTypeParamDecl.{TsTypeParamDecl}
use Rattle.swc_ecma_codegen_tree.specs.declared.ts_types.TsTypeParamInstantiation.{TsTypeParamInstantiation}
use Rattle.swc_ecma_codegen_tree.specs.declared.ts_types.TsFnParam.{TsFnParam}
use Rattle.swc_ecma_codegen_tree.specs.declared.ts_types.TsEntityName.{TsEntityName}

-- what a link holds, by its sort
abbrev pub sorted_at : AnyNode-F AnyNode → Sorted (Expr AnyNode) (Stmt AnyNode) (MemberExpr AnyNode) (ExprPart AnyNode) (StmtPart AnyNode) (JSXPart AnyNode) (TsPart AnyNode)
sorted_at (nodes.Expr n) = sorted.Expr n
sorted_at (nodes.Stmt n) = sorted.Stmt n
sorted_at (nodes.MemberExpr n) = sorted.MemberExpr n
sorted_at (nodes.ExprPart n) = sorted.ExprPart n
sorted_at (nodes.StmtPart n) = sorted.StmtPart n
sorted_at (nodes.JSXPart n) = sorted.JSXPart n
sorted_at (nodes.TsPart n) = sorted.TsPart n

abbrev pub sorted_in : AnyNode → Sorted (Expr AnyNode) (Stmt AnyNode) (MemberExpr AnyNode) (ExprPart AnyNode) (StmtPart AnyNode) (JSXPart AnyNode) (TsPart AnyNode)
sorted_in n = sorted_at (out-AnyNode n)

-- the part of an expression, where it is of one sort
abbrev pub pat_in : {N : Type 0} → ExprPart N → Option (Pat N)
pat_in (expr_parts.Pat n) = Some n
pat_in _ = None

abbrev pub tpl_in : {N : Type 0} → ExprPart N → Option (Tpl N)
tpl_in (expr_parts.Tpl n) = Some n
tpl_in _ = None

abbrev pub object_lit_in : {N : Type 0} → ExprPart N → Option (ObjectLit N)
object_lit_in (expr_parts.ObjectLit n) = Some n
object_lit_in _ = None

abbrev pub prop_name_in : {N : Type 0} → ExprPart N → Option (PropName N)
prop_name_in (expr_parts.PropName n) = Some n
prop_name_in _ = None

abbrev pub opt_call_in : {N : Type 0} → ExprPart N → Option (OptCall N)
opt_call_in (expr_parts.OptCall n) = Some n
opt_call_in _ = None

abbrev pub assign_target_in : {N : Type 0} → ExprPart N → Option (AssignTarget N)
assign_target_in (expr_parts.AssignTarget n) = Some n
assign_target_in _ = None

-- the part of a statement, where it is of one sort
abbrev pub function_in : {N : Type 0} → StmtPart N → Option (Function N)
function_in (stmt_parts.Function n) = Some n.value
function_in _ = None

abbrev pub class_in : {N : Type 0} → StmtPart N → Option (Class N)
class_in (stmt_parts.Class n) = Some n.value
class_in _ = None

abbrev pub block_stmt_in : {N : Type 0} → StmtPart N → Option (BlockStmt N)
block_stmt_in (stmt_parts.BlockStmt n) = Some n
block_stmt_in _ = None

abbrev pub decl_in : {N : Type 0} → StmtPart N → Option (Decl N)
decl_in (stmt_parts.Decl n) = Some n
decl_in _ = None

abbrev pub module_decl_in : {N : Type 0} → StmtPart N → Option (ModuleDecl N)
module_decl_in (stmt_parts.ModuleDecl n) = Some n.value
module_decl_in _ = None

abbrev pub var_decl_in : {N : Type 0} → StmtPart N → Option (VarDecl N)
var_decl_in (stmt_parts.VarDecl n) = Some n
var_decl_in _ = None

abbrev pub class_member_in : {N : Type 0} → StmtPart N → Option (ClassMember N)
class_member_in (stmt_parts.ClassMember n) = Some n.value
class_member_in _ = None

-- the part of JSX, where it is of one sort
abbrev pub jsx_element_in : {N : Type 0} → JSXPart N → Option (JSXElement N)
jsx_element_in (jsx_parts.JSXElement n) = Some n.value
jsx_element_in _ = None

abbrev pub jsx_fragment_in : {N : Type 0} → JSXPart N → Option (JSXFragment N)
jsx_fragment_in (jsx_parts.JSXFragment n) = Some n
jsx_fragment_in _ = None

abbrev pub jsx_object_in : {N : Type 0} → JSXPart N → Option (JSXObject N)
jsx_object_in (jsx_parts.JSXObject n) = Some n
jsx_object_in _ = None

-- the part of TypeScript, where it is of one sort
abbrev pub ts_type_in : {N : Type 0} → TsPart N → Option (TsType N)
ts_type_in (ts_parts.TsType n) = Some n
ts_type_in _ = None

abbrev pub ts_namespace_body_in : {N : Type 0} → TsPart N → Option (TsNamespaceBody N)
ts_namespace_body_in (ts_parts.TsNamespaceBody n) = Some n
ts_namespace_body_in _ = None

abbrev pub ts_type_ann_in : {N : Type 0} → TsPart N → Option (TsTypeAnn N)
ts_type_ann_in (ts_parts.TsTypeAnn n) = Some n
ts_type_ann_in _ = None

abbrev pub ts_type_param_decl_in : {N : Type 0} → TsPart N → Option (TsTypeParamDecl N)
ts_type_param_decl_in (ts_parts.TsTypeParamDecl n) = Some n
ts_type_param_decl_in _ = None

abbrev pub ts_type_param_instantiation_in : {N : Type 0} → TsPart N → Option (TsTypeParamInstantiation N)
ts_type_param_instantiation_in (ts_parts.TsTypeParamInstantiation n) = Some n
ts_type_param_instantiation_in _ = None

abbrev pub ts_fn_param_in : {N : Type 0} → TsPart N → Option (TsFnParam N)
ts_fn_param_in (ts_parts.TsFnParam n) = Some n
ts_fn_param_in _ = None

abbrev pub ts_interface_body_in : {N : Type 0} → TsPart N → Option (TsInterfaceBody N)
ts_interface_body_in (ts_parts.TsInterfaceBody n) = Some n
ts_interface_body_in _ = None

abbrev pub ts_entity_name_in : {N : Type 0} → TsPart N → Option (TsEntityName N)
ts_entity_name_in (ts_parts.TsEntityName n) = Some n
ts_entity_name_in _ = None
