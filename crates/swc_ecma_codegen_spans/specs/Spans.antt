-- Where each node stands.
use Rattle.std.specs.Prelude.{Option, Some, None}
use Rattle.swc_ecma_codegen_common.specs.declared.positions.Span.{Span}
use Rattle.swc_ecma_codegen_tree.specs.declared.links.AnyNode.{AnyNode, AnyNode-F, fold-AnyNode}
use Rattle.swc_ecma_codegen_tree.specs.declared.links.AnyNode.TheOpen as nodes
use Rattle.swc_ecma_codegen_tree.specs.declared.idents.BindingIdent.{BindingIdent}
use Rattle.swc_ecma_codegen_tree.specs.declared.decls.ClassDecl.{ClassDecl}
use Rattle.swc_ecma_codegen_tree.specs.declared.decls.FnDecl.{FnDecl}
use Rattle.swc_ecma_codegen_tree.specs.declared.pats.KeyValuePatProp.{KeyValuePatProp}
use Rattle.swc_ecma_codegen_tree.specs.declared.exprs.ExprOrSpread.{ExprOrSpread}
use Rattle.swc_ecma_codegen_tree.specs.declared.exprs.SpreadElement.{SpreadElement}
use Rattle.swc_ecma_codegen_tree.specs.declared.exprs.KeyValueProp.{KeyValueProp}
use Rattle.swc_ecma_codegen_tree.specs.declared.exprs.AssignProp.{AssignProp}
use Rattle.swc_ecma_codegen_tree.specs.declared.exprs.MethodProp.{MethodProp}
use Rattle.swc_ecma_codegen_tree.specs.declared.exprs.FnExpr.{FnExpr}
use Rattle.swc_ecma_codegen_tree.specs.declared.exprs.ClassExpr.{ClassExpr}
use Rattle.swc_ecma_codegen_tree.specs.declared.jsx.JSXMemberExpr.{JSXMemberExpr}
use Rattle.swc_ecma_codegen_tree.specs.declared.jsx.JSXNamespacedName.{JSXNamespacedName}
use Rattle.swc_ecma_codegen_tree.specs.declared.programs.Program.{Program}
use Rattle.swc_ecma_codegen_tree.specs.declared.programs.Program.TheVariants as programs
use Rattle.swc_ecma_codegen_tree.specs.declared.programs.ModuleItem.{ModuleItem}
use Rattle.swc_ecma_codegen_tree.specs.declared.programs.ModuleItem.TheVariants as module_items
use Rattle.swc_ecma_codegen_tree.specs.declared.programs.ModuleDecl.{ModuleDecl}
use Rattle.swc_ecma_codegen_tree.specs.declared.programs.ModuleDecl.TheVariants as module_decls
use Rattle.swc_ecma_codegen_tree.specs.declared.modules.ImportSpecifier.{ImportSpecifier}
use Rattle.swc_ecma_codegen_tree.specs.declared.modules.ImportSpecifier.TheVariants as import_specifiers
use Rattle.swc_ecma_codegen_tree.specs.declared.modules.ExportSpecifier.{ExportSpecifier}
use Rattle.swc_ecma_codegen_tree.specs.declared.modules.ExportSpecifier.TheVariants as export_specifiers
use Rattle.swc_ecma_codegen_tree.specs.declared.modules.ModuleExportName.{ModuleExportName}
use Rattle.swc_ecma_codegen_tree.specs.declared.modules.ModuleExportName.TheVariants as module_export_names
use Rattle.swc_ecma_codegen_tree.specs.declared.modules.DefaultDecl.{DefaultDecl}
use Rattle.swc_ecma_codegen_tree.specs.declared.modules.DefaultDecl.TheVariants as default_decls
use Rattle.swc_ecma_codegen_tree.specs.declared.stmts.Stmt.{Stmt}
use Rattle.swc_ecma_codegen_tree.specs.declared.stmts.Stmt.TheVariants as stmts
use Rattle.swc_ecma_codegen_tree.specs.declared.stmts.ForHead.{ForHead}
use Rattle.swc_ecma_codegen_tree.specs.declared.stmts.ForHead.TheVariants as for_heads
use Rattle.swc_ecma_codegen_tree.specs.declared.stmts.VarDeclOrExpr.{VarDeclOrExpr}
use Rattle.swc_ecma_codegen_tree.specs.declared.stmts.VarDeclOrExpr.TheVariants as var_decl_or_exprs
use Rattle.swc_ecma_codegen_tree.specs.declared.decls.Decl.{Decl}
use Rattle.swc_ecma_codegen_tree.specs.declared.decls.Decl.TheVariants as decls
use Rattle.swc_ecma_codegen_tree.specs.declared.classes.ClassMember.{ClassMember}
use Rattle.swc_ecma_codegen_tree.specs.declared.classes.ClassMember.TheVariants as class_members
use Rattle.swc_ecma_codegen_tree.specs.declared.classes.ParamOrTsParamProp.{ParamOrTsParamProp}
use Rattle.swc_ecma_codegen_tree.specs.declared.classes.ParamOrTsParamProp.TheVariants as param_or_ts_param_props
use Rattle.swc_ecma_codegen_tree.specs.declared.classes.TsParamPropParam.{TsParamPropParam}
use Rattle.swc_ecma_codegen_tree.specs.declared.classes.TsParamPropParam.TheVariants as ts_param_prop_params
use Rattle.swc_ecma_codegen_tree.specs.declared.classes.Key.{Key}
use Rattle.swc_ecma_codegen_tree.specs.declared.classes.Key.TheVariants as keys
use Rattle.swc_ecma_codegen_tree.specs.declared.pats.Pat.{Pat}
use Rattle.swc_ecma_codegen_tree.specs.declared.pats.Pat.TheVariants as pats
use Rattle.swc_ecma_codegen_tree.specs.declared.pats.ObjectPatProp.{ObjectPatProp}
use Rattle.swc_ecma_codegen_tree.specs.declared.pats.ObjectPatProp.TheVariants as object_pat_props
use Rattle.swc_ecma_codegen_tree.specs.declared.pats.AssignTarget.{AssignTarget}
use Rattle.swc_ecma_codegen_tree.specs.declared.pats.AssignTarget.TheVariants as assign_targets
use Rattle.swc_ecma_codegen_tree.specs.declared.pats.AssignTargetPat.{AssignTargetPat}
use Rattle.swc_ecma_codegen_tree.specs.declared.pats.AssignTargetPat.TheVariants as assign_target_pats
use Rattle.swc_ecma_codegen_tree.specs.declared.pats.SimpleAssignTarget.{SimpleAssignTarget}
use Rattle.swc_ecma_codegen_tree.specs.declared.pats.SimpleAssignTarget.TheVariants as simple_assign_targets
use Rattle.swc_ecma_codegen_tree.specs.declared.exprs.Expr.{Expr}
use Rattle.swc_ecma_codegen_tree.specs.declared.exprs.Expr.TheVariants as exprs
use Rattle.swc_ecma_codegen_tree.specs.declared.exprs.PropOrSpread.{PropOrSpread}
use Rattle.swc_ecma_codegen_tree.specs.declared.exprs.PropOrSpread.TheVariants as prop_or_spreads
use Rattle.swc_ecma_codegen_tree.specs.declared.exprs.Prop.{Prop}
use Rattle.swc_ecma_codegen_tree.specs.declared.exprs.Prop.TheVariants as props
use Rattle.swc_ecma_codegen_tree.specs.declared.exprs.PropName.{PropName}
use Rattle.swc_ecma_codegen_tree.specs.declared.exprs.PropName.TheVariants as prop_names
use Rattle.swc_ecma_codegen_tree.specs.declared.exprs.MemberProp.{MemberProp}
use Rattle.swc_ecma_codegen_tree.specs.declared.exprs.MemberProp.TheVariants as member_props
use Rattle.swc_ecma_codegen_tree.specs.declared.exprs.SuperProp.{SuperProp}
use Rattle.swc_ecma_codegen_tree.specs.declared.exprs.SuperProp.TheVariants as super_props
use Rattle.swc_ecma_codegen_tree.specs.declared.exprs.Callee.{Callee}
use Rattle.swc_ecma_codegen_tree.specs.declared.exprs.Callee.TheVariants as callees
use Rattle.swc_ecma_codegen_tree.specs.declared.exprs.OptChainBase.{OptChainBase}
use Rattle.swc_ecma_codegen_tree.specs.declared.exprs.OptChainBase.TheVariants as opt_chain_bases
use Rattle.swc_ecma_codegen_tree.specs.declared.exprs.BlockStmtOrExpr.{BlockStmtOrExpr}
use Rattle.swc_ecma_codegen_tree.specs.declared.exprs.BlockStmtOrExpr.TheVariants as block_stmt_or_exprs
use Rattle.swc_ecma_codegen_tree.specs.declared.lits.Lit.{Lit}
use Rattle.swc_ecma_codegen_tree.specs.declared.lits.Lit.TheVariants as lits
use Rattle.swc_ecma_codegen_tree.specs.declared.jsx.JSXElementName.{JSXElementName}
use Rattle.swc_ecma_codegen_tree.specs.declared.jsx.JSXElementName.TheVariants as jsx_element_names
use Rattle.swc_ecma_codegen_tree.specs.declared.jsx.JSXObject.{JSXObject}
use Rattle.swc_ecma_codegen_tree.specs.declared.jsx.JSXObject.TheVariants as jsx_objects
use Rattle.swc_ecma_codegen_tree.specs.declared.jsx.JSXAttrOrSpread.{JSXAttrOrSpread}
use Rattle.swc_ecma_codegen_tree.specs.declared.jsx.JSXAttrOrSpread.TheVariants as jsx_attr_or_spreads
use Rattle.swc_ecma_codegen_tree.specs.declared.jsx.JSXAttrName.{JSXAttrName}
use Rattle.swc_ecma_codegen_tree.specs.declared.jsx.JSXAttrName.TheVariants as jsx_attr_names
use Rattle.swc_ecma_codegen_tree.specs.declared.jsx.JSXAttrValue.{JSXAttrValue}
use Rattle.swc_ecma_codegen_tree.specs.declared.jsx.JSXAttrValue.TheVariants as jsx_attr_values
use Rattle.swc_ecma_codegen_tree.specs.declared.jsx.JSXElementChild.{JSXElementChild}
use Rattle.swc_ecma_codegen_tree.specs.declared.jsx.JSXElementChild.TheVariants as jsx_element_childs
use Rattle.swc_ecma_codegen_tree.specs.declared.jsx.JSXExpr.{JSXExpr}
use Rattle.swc_ecma_codegen_tree.specs.declared.jsx.JSXExpr.TheVariants as jsx_exprs
use Rattle.swc_ecma_codegen_tree.specs.declared.ts_types.TsFnOrConstructorType.{TsFnOrConstructorType}
use Rattle.swc_ecma_codegen_tree.specs.declared.ts_types.TsFnOrConstructorType.TheVariants as ts_fn_or_constructor_types
use Rattle.swc_ecma_codegen_tree.specs.declared.ts_types.TsUnionOrIntersectionType.{TsUnionOrIntersectionType}
use Rattle.swc_ecma_codegen_tree.specs.declared.ts_types.TsUnionOrIntersectionType.TheVariants as ts_union_or_intersection_types
use Rattle.swc_ecma_codegen_tree.specs.declared.ts_types.TsThisTypeOrIdent.{TsThisTypeOrIdent}
use Rattle.swc_ecma_codegen_tree.specs.declared.ts_types.TsThisTypeOrIdent.TheVariants as ts_this_type_or_idents
use Rattle.swc_ecma_codegen_tree.specs.declared.ts_types.TsLit.{TsLit}
use Rattle.swc_ecma_codegen_tree.specs.declared.ts_types.TsLit.TheVariants as ts_lits
use Rattle.swc_ecma_codegen_tree.specs.declared.ts_types.TsTypeQueryExpr.{TsTypeQueryExpr}
use Rattle.swc_ecma_codegen_tree.specs.declared.ts_types.TsTypeQueryExpr.TheVariants as ts_type_query_exprs
use Rattle.swc_ecma_codegen_tree.specs.declared.ts_types.TsEntityName.{TsEntityName}
use Rattle.swc_ecma_codegen_tree.specs.declared.ts_types.TsEntityName.TheVariants as ts_entity_names
use Rattle.swc_ecma_codegen_tree.specs.declared.ts_types.TsFnParam.{TsFnParam}
use Rattle.swc_ecma_codegen_tree.specs.declared.ts_types.TsFnParam.TheVariants as ts_fn_params
use Rattle.swc_ecma_codegen_tree.specs.declared.ts_members.TsTypeElement.{TsTypeElement}
use Rattle.swc_ecma_codegen_tree.specs.declared.ts_members.TsTypeElement.TheVariants as ts_type_elements
use Rattle.swc_ecma_codegen_tree.specs.declared.ts_decls.TsEnumMemberId.{TsEnumMemberId}
use Rattle.swc_ecma_codegen_tree.specs.declared.ts_decls.TsEnumMemberId.TheVariants as ts_enum_member_ids
use Rattle.swc_ecma_codegen_tree.specs.declared.ts_decls.TsModuleName.{TsModuleName}
use Rattle.swc_ecma_codegen_tree.specs.declared.ts_decls.TsModuleName.TheVariants as ts_module_names
use Rattle.swc_ecma_codegen_tree.specs.declared.ts_decls.TsNamespaceBody.{TsNamespaceBody}
use Rattle.swc_ecma_codegen_tree.specs.declared.ts_decls.TsNamespaceBody.TheVariants as ts_namespace_bodys
use Rattle.swc_ecma_codegen_tree.specs.declared.ts_decls.TsModuleRef.{TsModuleRef}
use Rattle.swc_ecma_codegen_tree.specs.declared.ts_decls.TsModuleRef.TheVariants as ts_module_refs
use Rattle.swc_ecma_codegen_tree.specs.declared.ts_types.TsType.{TsType}
use Rattle.swc_ecma_codegen_tree.specs.declared.ts_types.TsType.TheVariants as ts_types
use Rattle.swc_ecma_codegen_tree.specs.declared.parts.ExprPart.{ExprPart}
use Rattle.swc_ecma_codegen_tree.specs.declared.parts.ExprPart.TheVariants as expr_parts
use Rattle.swc_ecma_codegen_tree.specs.declared.parts.StmtPart.{StmtPart}
use Rattle.swc_ecma_codegen_tree.specs.declared.parts.StmtPart.TheVariants as stmt_parts
use Rattle.swc_ecma_codegen_tree.specs.declared.parts.JSXPart.{JSXPart}
use Rattle.swc_ecma_codegen_tree.specs.declared.parts.JSXPart.TheVariants as jsx_parts
use Rattle.swc_ecma_codegen_tree.specs.declared.parts.TsPart.{TsPart}
use Rattle.swc_ecma_codegen_tree.specs.declared.parts.TsPart.TheVariants as ts_parts

-- no place
abbrev pub dummy_span : Span
dummy_span = record { lo = record { 0 = 0 }; hi = record { 0 = 0 } }

-- what isn't there stands nowhere
unfoldable pub option_span : {A : Type 0} → (A → Span) → Option A → Span
option_span f (Some n) = f n
option_span f None = dummy_span

-- from the first's start to the second's end
abbrev pub between : Span → Span → Span
between a b = record { lo = a.lo; hi = b.hi }

-- where there is a first, from its start
abbrev pub from_first : Option Span → Span → Span
from_first (Some a) b = between a b
from_first None b = b

-- An enum stands where its value does. `f` says where what a link holds stands.
unfoldable pub binding_ident_span : {X : Type 0} → BindingIdent X → Span
binding_ident_span n = n.id.span

unfoldable pub class_decl_span : {X : Type 0} → (X → Span) → ClassDecl X → Span
class_decl_span f n = f n.class.node.value

unfoldable pub fn_decl_span : {X : Type 0} → (X → Span) → FnDecl X → Span
fn_decl_span f n = f n.function.node.value

unfoldable pub prop_name_span : {X : Type 0} → PropName X → Span
prop_name_span (prop_names.Ident n) = n.span
prop_name_span (prop_names.Str n) = n.value.span
prop_name_span (prop_names.Num n) = n.value.span
prop_name_span (prop_names.BigInt n) = n.value.span
prop_name_span (prop_names.Computed n) = n.span

unfoldable pub key_value_pat_prop_span : {X : Type 0} → (X → Span) → KeyValuePatProp X → Span
key_value_pat_prop_span f n = between (prop_name_span n.key) (f n.value.node.value)

unfoldable pub expr_or_spread_span : {X : Type 0} → (X → Span) → ExprOrSpread X → Span
expr_or_spread_span f n = from_first n.spread (f n.expr.node.value)

unfoldable pub spread_element_span : {X : Type 0} → (X → Span) → SpreadElement X → Span
spread_element_span f n = between n.dot3_token (f n.expr.node.value)

unfoldable pub key_value_prop_span : {X : Type 0} → (X → Span) → KeyValueProp X → Span
key_value_prop_span f n = between (prop_name_span n.key) (f n.value.node.value)

unfoldable pub assign_prop_span : {X : Type 0} → (X → Span) → AssignProp X → Span
assign_prop_span f n = between n.key.span (f n.value.node.value)

unfoldable pub method_prop_span : {X : Type 0} → (X → Span) → MethodProp X → Span
method_prop_span f n = between (prop_name_span n.key) (f n.function.node.value)

unfoldable pub fn_expr_span : {X : Type 0} → (X → Span) → FnExpr X → Span
fn_expr_span f n = f n.function.node.value

unfoldable pub class_expr_span : {X : Type 0} → (X → Span) → ClassExpr X → Span
class_expr_span f n = f n.class.node.value

unfoldable pub jsx_member_expr_span : {X : Type 0} → (X → Span) → JSXMemberExpr X → Span
jsx_member_expr_span f n = between (f n.obj.node.value) n.prop.span

unfoldable pub jsx_namespaced_name_span : JSXNamespacedName → Span
jsx_namespaced_name_span n = between n.ns.span n.name.span

unfoldable pub program_span : {X : Type 0} → Program X → Span
program_span (programs.Module n) = n.span
program_span (programs.Script n) = n.span

unfoldable pub module_decl_span : {X : Type 0} → ModuleDecl X → Span
module_decl_span (module_decls.Import n) = n.span
module_decl_span (module_decls.ExportDecl n) = n.span
module_decl_span (module_decls.ExportNamed n) = n.span
module_decl_span (module_decls.ExportDefaultDecl n) = n.span
module_decl_span (module_decls.ExportDefaultExpr n) = n.span
module_decl_span (module_decls.ExportAll n) = n.span
module_decl_span (module_decls.TsImportEquals n) = n.span
module_decl_span (module_decls.TsExportAssignment n) = n.span
module_decl_span (module_decls.TsNamespaceExport n) = n.span

unfoldable pub import_specifier_span : ImportSpecifier → Span
import_specifier_span (import_specifiers.Named n) = n.span
import_specifier_span (import_specifiers.Default n) = n.span
import_specifier_span (import_specifiers.Namespace n) = n.span

unfoldable pub export_specifier_span : ExportSpecifier → Span
export_specifier_span (export_specifiers.Namespace n) = n.span
export_specifier_span (export_specifiers.Default n) = n.span
export_specifier_span (export_specifiers.Named n) = n.span

unfoldable pub module_export_name_span : ModuleExportName → Span
module_export_name_span (module_export_names.Ident n) = n.span
module_export_name_span (module_export_names.Str n) = n.span

unfoldable pub default_decl_span : {X : Type 0} → (X → Span) → DefaultDecl X → Span
default_decl_span f (default_decls.Class n) = class_expr_span f n
default_decl_span f (default_decls.Fn n) = fn_expr_span f n
default_decl_span f (default_decls.TsInterfaceDecl n) = n.span

unfoldable pub decl_span : {X : Type 0} → (X → Span) → Decl X → Span
decl_span f (decls.Class n) = class_decl_span f n
decl_span f (decls.Fn n) = fn_decl_span f n
decl_span f (decls.Var n) = n.span
decl_span f (decls.Using n) = n.span
decl_span f (decls.TsInterface n) = n.value.span
decl_span f (decls.TsTypeAlias n) = n.value.span
decl_span f (decls.TsEnum n) = n.value.span
decl_span f (decls.TsModule n) = n.value.span

unfoldable pub stmt_span : {X : Type 0} → (X → Span) → Stmt X → Span
stmt_span f (stmts.Block n) = f n.node.value
stmt_span f (stmts.Empty n) = n.span
stmt_span f (stmts.Debugger n) = n.span
stmt_span f (stmts.With n) = n.span
stmt_span f (stmts.Return n) = n.span
stmt_span f (stmts.Labeled n) = n.span
stmt_span f (stmts.Break n) = n.span
stmt_span f (stmts.Continue n) = n.span
stmt_span f (stmts.If n) = n.span
stmt_span f (stmts.Switch n) = n.span
stmt_span f (stmts.Throw n) = n.span
stmt_span f (stmts.Try n) = n.span
stmt_span f (stmts.While n) = n.span
stmt_span f (stmts.DoWhile n) = n.span
stmt_span f (stmts.For n) = n.span
stmt_span f (stmts.ForIn n) = n.span
stmt_span f (stmts.ForOf n) = n.span
stmt_span f (stmts.Decl n) = decl_span f n
stmt_span f (stmts.Expr n) = n.span

unfoldable pub module_item_span : {X : Type 0} → (X → Span) → ModuleItem X → Span
module_item_span f (module_items.ModuleDecl n) = f n.node.value
module_item_span f (module_items.Stmt n) = stmt_span f n

unfoldable pub for_head_span : {X : Type 0} → (X → Span) → ForHead X → Span
for_head_span f (for_heads.VarDecl n) = f n.node.value
for_head_span f (for_heads.UsingDecl n) = n.value.span
for_head_span f (for_heads.Pat n) = f n.node.value

unfoldable pub var_decl_or_expr_span : {X : Type 0} → (X → Span) → VarDeclOrExpr X → Span
var_decl_or_expr_span f (var_decl_or_exprs.VarDecl n) = f n.node.value
var_decl_or_expr_span f (var_decl_or_exprs.Expr n) = f n.node.value

unfoldable pub class_member_span : {X : Type 0} → ClassMember X → Span
class_member_span (class_members.Constructor n) = n.span
class_member_span (class_members.Method n) = n.span
class_member_span (class_members.PrivateMethod n) = n.span
class_member_span (class_members.ClassProp n) = n.span
class_member_span (class_members.PrivateProp n) = n.span
class_member_span (class_members.TsIndexSignature n) = n.span
class_member_span (class_members.Empty n) = n.span
class_member_span (class_members.StaticBlock n) = n.span
class_member_span (class_members.AutoAccessor n) = n.span

unfoldable pub param_or_ts_param_prop_span : {X : Type 0} → ParamOrTsParamProp X → Span
param_or_ts_param_prop_span (param_or_ts_param_props.TsParamProp n) = n.span
param_or_ts_param_prop_span (param_or_ts_param_props.Param n) = n.span

unfoldable pub ts_param_prop_param_span : {X : Type 0} → TsParamPropParam X → Span
ts_param_prop_param_span (ts_param_prop_params.Ident n) = binding_ident_span n
ts_param_prop_param_span (ts_param_prop_params.Assign n) = n.span

unfoldable pub key_span : {X : Type 0} → (X → Span) → Key X → Span
key_span f (keys.Private n) = n.span
key_span f (keys.Public n) = f n.node.value

unfoldable pub pat_span : {X : Type 0} → (X → Span) → Pat X → Span
pat_span f (pats.Ident n) = binding_ident_span n
pat_span f (pats.Array n) = n.span
pat_span f (pats.Rest n) = n.span
pat_span f (pats.Object n) = n.span
pat_span f (pats.Assign n) = n.span
pat_span f (pats.Invalid n) = n.span
pat_span f (pats.Expr n) = f n.node.value

unfoldable pub object_pat_prop_span : {X : Type 0} → (X → Span) → ObjectPatProp X → Span
object_pat_prop_span f (object_pat_props.KeyValue n) = key_value_pat_prop_span f n
object_pat_prop_span f (object_pat_props.Assign n) = n.span
object_pat_prop_span f (object_pat_props.Rest n) = n.span

unfoldable pub simple_assign_target_span : {X : Type 0} → (X → Span) → SimpleAssignTarget X → Span
simple_assign_target_span f (simple_assign_targets.Ident n) = binding_ident_span n
simple_assign_target_span f (simple_assign_targets.Member n) = n.span
simple_assign_target_span f (simple_assign_targets.SuperProp n) = n.span
simple_assign_target_span f (simple_assign_targets.Paren n) = n.span
simple_assign_target_span f (simple_assign_targets.OptChain n) = n.span
simple_assign_target_span f (simple_assign_targets.TsAs n) = n.span
simple_assign_target_span f (simple_assign_targets.TsSatisfies n) = n.span
simple_assign_target_span f (simple_assign_targets.TsNonNull n) = n.span
simple_assign_target_span f (simple_assign_targets.TsTypeAssertion n) = n.span
simple_assign_target_span f (simple_assign_targets.TsInstantiation n) = n.span
simple_assign_target_span f (simple_assign_targets.Invalid n) = n.span

unfoldable pub assign_target_pat_span : {X : Type 0} → AssignTargetPat X → Span
assign_target_pat_span (assign_target_pats.Array n) = n.span
assign_target_pat_span (assign_target_pats.Object n) = n.span
assign_target_pat_span (assign_target_pats.Invalid n) = n.span

unfoldable pub assign_target_span : {X : Type 0} → (X → Span) → AssignTarget X → Span
assign_target_span f (assign_targets.Simple n) = simple_assign_target_span f n
assign_target_span f (assign_targets.Pat n) = assign_target_pat_span n

unfoldable pub lit_span : Lit → Span
lit_span (lits.Str n) = n.span
lit_span (lits.Bool n) = n.span
lit_span (lits.Null n) = n.span
lit_span (lits.Num n) = n.value.span
lit_span (lits.BigInt n) = n.value.span
lit_span (lits.Regex n) = n.span
lit_span (lits.JSXText n) = n.span

unfoldable pub expr_span : {X : Type 0} → (X → Span) → Expr X → Span
expr_span f (exprs.This n) = n.span
expr_span f (exprs.Array n) = n.span
expr_span f (exprs.Object n) = n.span
expr_span f (exprs.Fn n) = fn_expr_span f n
expr_span f (exprs.Unary n) = n.span
expr_span f (exprs.Update n) = n.span
expr_span f (exprs.Bin n) = n.span
expr_span f (exprs.Assign n) = n.span
expr_span f (exprs.Member n) = n.span
expr_span f (exprs.SuperProp n) = n.span
expr_span f (exprs.Cond n) = n.span
expr_span f (exprs.Call n) = n.span
expr_span f (exprs.New n) = n.span
expr_span f (exprs.Seq n) = n.span
expr_span f (exprs.Ident n) = n.span
expr_span f (exprs.Lit n) = lit_span n
expr_span f (exprs.Tpl n) = f n.node.value
expr_span f (exprs.TaggedTpl n) = n.span
expr_span f (exprs.Arrow n) = n.value.span
expr_span f (exprs.Class n) = class_expr_span f n
expr_span f (exprs.Yield n) = n.span
expr_span f (exprs.MetaProp n) = n.span
expr_span f (exprs.Await n) = n.span
expr_span f (exprs.Paren n) = n.span
expr_span f (exprs.JSXMember n) = jsx_member_expr_span f n
expr_span f (exprs.JSXNamespacedName n) = jsx_namespaced_name_span n
expr_span f (exprs.JSXEmpty n) = n.span
expr_span f (exprs.JSXElement n) = f n.node.value
expr_span f (exprs.JSXFragment n) = f n.node.value
expr_span f (exprs.TsTypeAssertion n) = n.span
expr_span f (exprs.TsConstAssertion n) = n.span
expr_span f (exprs.TsNonNull n) = n.span
expr_span f (exprs.TsAs n) = n.span
expr_span f (exprs.TsInstantiation n) = n.span
expr_span f (exprs.TsSatisfies n) = n.span
expr_span f (exprs.PrivateName n) = n.span
expr_span f (exprs.OptChain n) = n.span
expr_span f (exprs.Invalid n) = n.span

unfoldable pub prop_span : {X : Type 0} → (X → Span) → Prop X → Span
prop_span f (props.Shorthand n) = n.span
prop_span f (props.KeyValue n) = key_value_prop_span f n
prop_span f (props.Assign n) = assign_prop_span f n
prop_span f (props.Getter n) = n.span
prop_span f (props.Setter n) = n.span
prop_span f (props.Method n) = method_prop_span f n

unfoldable pub prop_or_spread_span : {X : Type 0} → (X → Span) → PropOrSpread X → Span
prop_or_spread_span f (prop_or_spreads.Spread n) = spread_element_span f n
prop_or_spread_span f (prop_or_spreads.Prop n) = prop_span f n

unfoldable pub member_prop_span : {X : Type 0} → MemberProp X → Span
member_prop_span (member_props.Ident n) = n.span
member_prop_span (member_props.PrivateName n) = n.span
member_prop_span (member_props.Computed n) = n.span

unfoldable pub super_prop_span : {X : Type 0} → SuperProp X → Span
super_prop_span (super_props.Ident n) = n.span
super_prop_span (super_props.Computed n) = n.span

unfoldable pub callee_span : {X : Type 0} → (X → Span) → Callee X → Span
callee_span f (callees.Super n) = n.span
callee_span f (callees.Import n) = n.span
callee_span f (callees.Expr n) = f n.node.value

unfoldable pub opt_chain_base_span : {X : Type 0} → (X → Span) → OptChainBase X → Span
opt_chain_base_span f (opt_chain_bases.Member n) = f n.node.value
opt_chain_base_span f (opt_chain_bases.Call n) = f n.node.value

unfoldable pub block_stmt_or_expr_span : {X : Type 0} → (X → Span) → BlockStmtOrExpr X → Span
block_stmt_or_expr_span f (block_stmt_or_exprs.BlockStmt n) = f n.node.value
block_stmt_or_expr_span f (block_stmt_or_exprs.Expr n) = f n.node.value

unfoldable pub jsx_element_name_span : {X : Type 0} → (X → Span) → JSXElementName X → Span
jsx_element_name_span f (jsx_element_names.Ident n) = n.span
jsx_element_name_span f (jsx_element_names.JSXMemberExpr n) = jsx_member_expr_span f n
jsx_element_name_span f (jsx_element_names.JSXNamespacedName n) = jsx_namespaced_name_span n

unfoldable pub jsx_object_span : {X : Type 0} → (X → Span) → JSXObject X → Span
jsx_object_span f (jsx_objects.JSXMemberExpr n) = jsx_member_expr_span f n
jsx_object_span f (jsx_objects.Ident n) = n.span

unfoldable pub jsx_attr_or_spread_span : {X : Type 0} → (X → Span) → JSXAttrOrSpread X → Span
jsx_attr_or_spread_span f (jsx_attr_or_spreads.JSXAttr n) = n.span
jsx_attr_or_spread_span f (jsx_attr_or_spreads.SpreadElement n) = spread_element_span f n

unfoldable pub jsx_attr_name_span : JSXAttrName → Span
jsx_attr_name_span (jsx_attr_names.Ident n) = n.span
jsx_attr_name_span (jsx_attr_names.JSXNamespacedName n) = jsx_namespaced_name_span n

unfoldable pub jsx_attr_value_span : {X : Type 0} → (X → Span) → JSXAttrValue X → Span
jsx_attr_value_span f (jsx_attr_values.Lit n) = lit_span n
jsx_attr_value_span f (jsx_attr_values.JSXExprContainer n) = n.span
jsx_attr_value_span f (jsx_attr_values.JSXElement n) = f n.node.value
jsx_attr_value_span f (jsx_attr_values.JSXFragment n) = f n.node.value

unfoldable pub jsx_element_child_span : {X : Type 0} → (X → Span) → JSXElementChild X → Span
jsx_element_child_span f (jsx_element_childs.JSXText n) = n.span
jsx_element_child_span f (jsx_element_childs.JSXExprContainer n) = n.span
jsx_element_child_span f (jsx_element_childs.JSXSpreadChild n) = n.span
jsx_element_child_span f (jsx_element_childs.JSXElement n) = f n.node.value
jsx_element_child_span f (jsx_element_childs.JSXFragment n) = f n.node.value

unfoldable pub jsx_expr_span : {X : Type 0} → (X → Span) → JSXExpr X → Span
jsx_expr_span f (jsx_exprs.JSXEmptyExpr n) = n.span
jsx_expr_span f (jsx_exprs.Expr n) = f n.node.value

unfoldable pub ts_fn_or_constructor_type_span : {X : Type 0} → TsFnOrConstructorType X → Span
ts_fn_or_constructor_type_span (ts_fn_or_constructor_types.TsFnType n) = n.span
ts_fn_or_constructor_type_span (ts_fn_or_constructor_types.TsConstructorType n) = n.span

unfoldable pub ts_union_or_intersection_type_span : {X : Type 0} → TsUnionOrIntersectionType X → Span
ts_union_or_intersection_type_span (ts_union_or_intersection_types.TsUnionType n) = n.span
ts_union_or_intersection_type_span (ts_union_or_intersection_types.TsIntersectionType n) = n.span

unfoldable pub ts_this_type_or_ident_span : TsThisTypeOrIdent → Span
ts_this_type_or_ident_span (ts_this_type_or_idents.TsThisType n) = n.span
ts_this_type_or_ident_span (ts_this_type_or_idents.Ident n) = n.span

unfoldable pub ts_lit_span : {X : Type 0} → TsLit X → Span
ts_lit_span (ts_lits.Number n) = n.span
ts_lit_span (ts_lits.Str n) = n.span
ts_lit_span (ts_lits.Bool n) = n.span
ts_lit_span (ts_lits.BigInt n) = n.span
ts_lit_span (ts_lits.Tpl n) = n.span

unfoldable pub ts_type_query_expr_span : {X : Type 0} → (X → Span) → TsTypeQueryExpr X → Span
ts_type_query_expr_span f (ts_type_query_exprs.TsEntityName n) = f n.node.value
ts_type_query_expr_span f (ts_type_query_exprs.Import n) = n.span

unfoldable pub ts_entity_name_span : {X : Type 0} → TsEntityName X → Span
ts_entity_name_span (ts_entity_names.TsQualifiedName n) = n.span
ts_entity_name_span (ts_entity_names.Ident n) = n.span

unfoldable pub ts_fn_param_span : {X : Type 0} → TsFnParam X → Span
ts_fn_param_span (ts_fn_params.Ident n) = binding_ident_span n
ts_fn_param_span (ts_fn_params.Array n) = n.span
ts_fn_param_span (ts_fn_params.Rest n) = n.span
ts_fn_param_span (ts_fn_params.Object n) = n.span

unfoldable pub ts_type_element_span : {X : Type 0} → TsTypeElement X → Span
ts_type_element_span (ts_type_elements.TsCallSignatureDecl n) = n.span
ts_type_element_span (ts_type_elements.TsConstructSignatureDecl n) = n.span
ts_type_element_span (ts_type_elements.TsPropertySignature n) = n.span
ts_type_element_span (ts_type_elements.TsGetterSignature n) = n.span
ts_type_element_span (ts_type_elements.TsSetterSignature n) = n.span
ts_type_element_span (ts_type_elements.TsMethodSignature n) = n.span
ts_type_element_span (ts_type_elements.TsIndexSignature n) = n.span

unfoldable pub ts_enum_member_id_span : TsEnumMemberId → Span
ts_enum_member_id_span (ts_enum_member_ids.Ident n) = n.span
ts_enum_member_id_span (ts_enum_member_ids.Str n) = n.span

unfoldable pub ts_module_name_span : TsModuleName → Span
ts_module_name_span (ts_module_names.Ident n) = n.span
ts_module_name_span (ts_module_names.Str n) = n.span

unfoldable pub ts_namespace_body_span : {X : Type 0} → TsNamespaceBody X → Span
ts_namespace_body_span (ts_namespace_bodys.TsModuleBlock n) = n.span
ts_namespace_body_span (ts_namespace_bodys.TsNamespaceDecl n) = n.span

unfoldable pub ts_module_ref_span : {X : Type 0} → (X → Span) → TsModuleRef X → Span
ts_module_ref_span f (ts_module_refs.TsEntityName n) = f n.node.value
ts_module_ref_span f (ts_module_refs.TsExternalModuleRef n) = n.span

unfoldable pub ts_type_span : {X : Type 0} → TsType X → Span
ts_type_span (ts_types.TsKeywordType n) = n.span
ts_type_span (ts_types.TsThisType n) = n.span
ts_type_span (ts_types.TsFnOrConstructorType n) = ts_fn_or_constructor_type_span n.value
ts_type_span (ts_types.TsTypeRef n) = n.span
ts_type_span (ts_types.TsTypeQuery n) = n.value.span
ts_type_span (ts_types.TsTypeLit n) = n.span
ts_type_span (ts_types.TsArrayType n) = n.span
ts_type_span (ts_types.TsTupleType n) = n.span
ts_type_span (ts_types.TsOptionalType n) = n.span
ts_type_span (ts_types.TsRestType n) = n.span
ts_type_span (ts_types.TsUnionOrIntersectionType n) = ts_union_or_intersection_type_span n
ts_type_span (ts_types.TsConditionalType n) = n.span
ts_type_span (ts_types.TsInferType n) = n.value.span
ts_type_span (ts_types.TsParenthesizedType n) = n.span
ts_type_span (ts_types.TsTypeOperator n) = n.span
ts_type_span (ts_types.TsIndexedAccessType n) = n.span
ts_type_span (ts_types.TsMappedType n) = n.value.span
ts_type_span (ts_types.TsLitType n) = n.value.span
ts_type_span (ts_types.TsTypePredicate n) = n.value.span
ts_type_span (ts_types.TsImportType n) = n.value.span

-- what a link holds besides expressions, statements and member expressions stands where its value does
unfoldable pub expr_part_span : {X : Type 0} → (X → Span) → ExprPart X → Span
expr_part_span f (expr_parts.Pat n) = pat_span f n
expr_part_span f (expr_parts.Tpl n) = n.span
expr_part_span f (expr_parts.ObjectLit n) = n.span
expr_part_span f (expr_parts.PropName n) = prop_name_span n
expr_part_span f (expr_parts.OptCall n) = n.span
expr_part_span f (expr_parts.AssignTarget n) = assign_target_span f n

unfoldable pub stmt_part_span : {X : Type 0} → (X → Span) → StmtPart X → Span
stmt_part_span f (stmt_parts.Function n) = n.value.span
stmt_part_span f (stmt_parts.Class n) = n.value.span
stmt_part_span f (stmt_parts.BlockStmt n) = n.span
stmt_part_span f (stmt_parts.Decl n) = decl_span f n
stmt_part_span f (stmt_parts.ModuleDecl n) = module_decl_span n.value
stmt_part_span f (stmt_parts.VarDecl n) = n.span
stmt_part_span f (stmt_parts.ClassMember n) = class_member_span n.value

unfoldable pub jsx_part_span : {X : Type 0} → (X → Span) → JSXPart X → Span
jsx_part_span f (jsx_parts.JSXElement n) = n.value.span
jsx_part_span f (jsx_parts.JSXFragment n) = n.span
jsx_part_span f (jsx_parts.JSXObject n) = jsx_object_span f n

unfoldable pub ts_part_span : {X : Type 0} → (X → Span) → TsPart X → Span
ts_part_span f (ts_parts.TsType n) = ts_type_span n
ts_part_span f (ts_parts.TsNamespaceBody n) = ts_namespace_body_span n
ts_part_span f (ts_parts.TsTypeAnn n) = n.span
ts_part_span f (ts_parts.TsTypeParamDecl n) = n.span
ts_part_span f (ts_parts.TsTypeParamInstantiation n) = n.span
ts_part_span f (ts_parts.TsFnParam n) = ts_fn_param_span n
ts_part_span f (ts_parts.TsInterfaceBody n) = n.span
ts_part_span f (ts_parts.TsEntityName n) = ts_entity_name_span n

-- one node, where f says where what its links hold stands
unfoldable pub node_span : {X : Type 0} → (X → Span) → AnyNode-F X → Span
node_span f (nodes.Expr n) = expr_span f n
node_span f (nodes.Stmt n) = stmt_span f n
node_span f (nodes.MemberExpr n) = n.span
node_span f (nodes.ExprPart n) = expr_part_span f n
node_span f (nodes.StmtPart n) = stmt_part_span f n
node_span f (nodes.JSXPart n) = jsx_part_span f n
node_span f (nodes.TsPart n) = ts_part_span f n

-- a whole node
unfoldable pub any_span : AnyNode → Span
any_span = fold-AnyNode Span (node_span (λ known. known))
