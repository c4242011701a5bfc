-- Where a whole node stands, by its sort.
use Rattle.std.proofs.Common.{◌≡◌, refl, sym, ◌∙◌, ap, Box, Global}
use Rattle.swc_ecma_codegen_common.specs.declared.positions.Span.{Span}
use Rattle.swc_ecma_codegen_tree.specs.declared.links.AnyNode.{AnyNode, AnyNode-F, map-AnyNode, roll-AnyNode}
use Rattle.swc_ecma_codegen_tree.specs.declared.links.AnyNode.TheOpen as nodes
use Rattle.swc_ecma_codegen_tree.specs.declared.links.AnyNode.TheVariants as whole
use Rattle.swc_ecma_codegen_tree.specs.declared.links.AnyNode.TheFolds.{fold-roll-AnyNode}
use Rattle.swc_ecma_codegen_tree.specs.declared.pats.AssignTarget.{AssignTarget}
use Rattle.swc_ecma_codegen_tree.specs.declared.stmts.BlockStmt.{BlockStmt}
use Rattle.swc_ecma_codegen_tree.specs.declared.classes.Class.{Class}
use Rattle.swc_ecma_codegen_tree.specs.declared.classes.ClassMember.{ClassMember}
use Rattle.swc_ecma_codegen_tree.specs.declared.decls.Decl.{Decl}
use Rattle.swc_ecma_codegen_tree.specs.declared.exprs.Expr.{Expr}
use Rattle.swc_ecma_codegen_tree.specs.declared.decls.Function.{Function}
use Rattle.swc_ecma_codegen_tree.specs.declared.jsx.JSXElement.{JSXElement}
use Rattle.swc_ecma_codegen_tree.specs.declared.jsx.JSXFragment.{JSXFragment}
use Rattle.swc_ecma_codegen_tree.specs.declared.jsx.JSXObject.{JSXObject}
use Rattle.swc_ecma_codegen_tree.specs.declared.exprs.MemberExpr.{MemberExpr}
use Rattle.swc_ecma_codegen_tree.specs.declared.programs.ModuleDecl.{ModuleDecl}
use Rattle.swc_ecma_codegen_tree.specs.declared.exprs.ObjectLit.{ObjectLit}
use Rattle.swc_ecma_codegen_tree.specs.declared.exprs.OptCall.{OptCall}
use Rattle.swc_ecma_codegen_tree.specs.declared.pats.Pat.{Pat}
use Rattle.swc_ecma_codegen_tree.specs.declared.exprs.PropName.{PropName}
use Rattle.swc_ecma_codegen_tree.specs.declared.stmts.Stmt.{Stmt}
use Rattle.swc_ecma_codegen_tree.specs.declared.exprs.Tpl.{Tpl}
use Rattle.swc_ecma_codegen_tree.specs.declared.ts_members.TsInterfaceBody.{TsInterfaceBody}
use Rattle.swc_ecma_codegen_tree.specs.declared.ts_types.TsEntityName.{TsEntityName}
use Rattle.swc_ecma_codegen_tree.specs.declared.ts_types.TsFnOrConstructorType.{TsFnOrConstructorType}
use Rattle.swc_ecma_codegen_tree.specs.declared.ts_types.TsFnParam.{TsFnParam}
use Rattle.swc_ecma_codegen_tree.specs.declared.ts_decls.TsNamespaceBody.{TsNamespaceBody}
use Rattle.swc_ecma_codegen_tree.specs.declared.ts_types.TsType.{TsType}
use Rattle.swc_ecma_codegen_tree.specs.declared.ts_types.TsTypeAnn.{TsTypeAnn}
use Rattle.swc_ecma_codegen_tree.specs.declared.ts_types.TsTypeParamDecl.{TsTypeParamDecl}
use Rattle.swc_ecma_codegen_tree.specs.declared.ts_types.TsTypeParamInstantiation.{TsTypeParamInstantiation}
use Rattle.swc_ecma_codegen_tree.specs.declared.ts_types.TsUnionOrIntersectionType.{TsUnionOrIntersectionType}
use Rattle.swc_ecma_codegen_tree.specs.declared.decls.VarDecl.{VarDecl}
use Rattle.swc_ecma_codegen_tree.specs.declared.pats.AssignTarget.TheVariants as assign_targets
use Rattle.swc_ecma_codegen_tree.specs.declared.pats.AssignTargetPat.TheVariants as assign_target_pats
use Rattle.swc_ecma_codegen_tree.specs.declared.classes.ClassMember.TheVariants as class_members
use Rattle.swc_ecma_codegen_tree.specs.declared.decls.Decl.TheVariants as decls
use Rattle.swc_ecma_codegen_tree.specs.declared.exprs.Expr.TheVariants as exprs
use Rattle.swc_ecma_codegen_tree.specs.declared.jsx.JSXObject.TheVariants as jsx_objects
use Rattle.swc_ecma_codegen_tree.specs.declared.programs.ModuleDecl.TheVariants as module_decls
use Rattle.swc_ecma_codegen_tree.specs.declared.pats.Pat.TheVariants as pats
use Rattle.swc_ecma_codegen_tree.specs.declared.exprs.PropName.TheVariants as prop_names
use Rattle.swc_ecma_codegen_tree.specs.declared.pats.SimpleAssignTarget.TheVariants as simple_assign_targets
use Rattle.swc_ecma_codegen_tree.specs.declared.stmts.Stmt.TheVariants as stmts
use Rattle.swc_ecma_codegen_tree.specs.declared.ts_types.TsEntityName.TheVariants as ts_entity_names
use Rattle.swc_ecma_codegen_tree.specs.declared.ts_types.TsFnOrConstructorType.TheVariants as ts_fn_or_constructor_types
use Rattle.swc_ecma_codegen_tree.specs.declared.ts_types.TsFnParam.TheVariants as ts_fn_params
use Rattle.swc_ecma_codegen_tree.specs.declared.ts_decls.TsNamespaceBody.TheVariants as ts_namespace_bodys
use Rattle.swc_ecma_codegen_tree.specs.declared.ts_types.TsType.TheVariants as ts_types
use Rattle.swc_ecma_codegen_tree.specs.declared.ts_types.TsUnionOrIntersectionType.TheVariants as ts_union_or_intersection_types
use Rattle.swc_ecma_codegen_tree.specs.declared.parts.ExprPart.{ExprPart}
use Rattle.swc_ecma_codegen_tree.specs.declared.parts.ExprPart.TheVariants as expr_parts
use Rattle.swc_ecma_codegen_tree.specs.declared.parts.StmtPart.{StmtPart}
use Rattle.swc_ecma_codegen_tree.specs.declared.parts.StmtPart.TheVariants as stmt_parts
use Rattle.swc_ecma_codegen_tree.specs.declared.parts.JSXPart.{JSXPart}
use Rattle.swc_ecma_codegen_tree.specs.declared.parts.JSXPart.TheVariants as jsx_parts
use Rattle.swc_ecma_codegen_tree.specs.declared.parts.TsPart.{TsPart}
use Rattle.swc_ecma_codegen_tree.specs.declared.parts.TsPart.TheVariants as ts_parts
use Rattle.std.specs.Box.{with_value}
use Rattle.swc_ecma_codegen_spans.specs.Spans.{assign_target_pat_span, assign_target_span, binding_ident_span, class_decl_span, class_expr_span, class_member_span, decl_span, expr_span, fn_decl_span, fn_expr_span, jsx_member_expr_span, jsx_namespaced_name_span, jsx_object_span, lit_span, module_decl_span, pat_span, prop_name_span, simple_assign_target_span, stmt_span, ts_entity_name_span, ts_fn_or_constructor_type_span, ts_fn_param_span, ts_namespace_body_span, ts_type_span, ts_union_or_intersection_type_span, node_span, any_span, expr_part_span, stmt_part_span, jsx_part_span, ts_part_span}

known_of : AnyNode-F AnyNode → AnyNode-F Span
known_of = map-AnyNode AnyNode Span any_span

expr_known : (n : Expr AnyNode) → node_span (λ known. known) (known_of (nodes.Expr n)) ≡ expr_span any_span n
unfolding node_span known_of expr_span fn_expr_span lit_span class_expr_span jsx_member_expr_span jsx_namespaced_name_span
expr_known (exprs.This n) = refl
expr_known (exprs.Array n) = refl
expr_known (exprs.Object n) = refl
expr_known (exprs.Fn n) = refl
expr_known (exprs.Unary n) = refl
expr_known (exprs.Update n) = refl
expr_known (exprs.Bin n) = refl
expr_known (exprs.Assign n) = refl
expr_known (exprs.Member n) = refl
expr_known (exprs.SuperProp n) = refl
expr_known (exprs.Cond n) = refl
expr_known (exprs.Call n) = refl
expr_known (exprs.New n) = refl
expr_known (exprs.Seq n) = refl
expr_known (exprs.Ident n) = refl
expr_known (exprs.Lit n) = refl
expr_known (exprs.Tpl n) = refl
expr_known (exprs.TaggedTpl n) = refl
expr_known (exprs.Arrow n) = refl
expr_known (exprs.Class n) = refl
expr_known (exprs.Yield n) = refl
expr_known (exprs.MetaProp n) = refl
expr_known (exprs.Await n) = refl
expr_known (exprs.Paren n) = refl
expr_known (exprs.JSXMember n) = refl
expr_known (exprs.JSXNamespacedName n) = refl
expr_known (exprs.JSXEmpty n) = refl
expr_known (exprs.JSXElement n) = refl
expr_known (exprs.JSXFragment n) = refl
expr_known (exprs.TsTypeAssertion n) = refl
expr_known (exprs.TsConstAssertion n) = refl
expr_known (exprs.TsNonNull n) = refl
expr_known (exprs.TsAs n) = refl
expr_known (exprs.TsInstantiation n) = refl
expr_known (exprs.TsSatisfies n) = refl
expr_known (exprs.PrivateName n) = refl
expr_known (exprs.OptChain n) = refl
expr_known (exprs.Invalid n) = refl

decl_known : (n : Decl AnyNode) → node_span (λ known. known) (known_of (nodes.StmtPart (stmt_parts.Decl n))) ≡ decl_span any_span n
unfolding node_span known_of stmt_part_span decl_span class_decl_span fn_decl_span
decl_known (decls.Class n) = refl
decl_known (decls.Fn n) = refl
decl_known (decls.Var n) = refl
decl_known (decls.Using n) = refl
decl_known (decls.TsInterface n) = refl
decl_known (decls.TsTypeAlias n) = refl
decl_known (decls.TsEnum n) = refl
decl_known (decls.TsModule n) = refl

stmt_known : (n : Stmt AnyNode) → node_span (λ known. known) (known_of (nodes.Stmt n)) ≡ stmt_span any_span n
unfolding node_span known_of stmt_span stmt_part_span
stmt_known (stmts.Block n) = refl
stmt_known (stmts.Empty n) = refl
stmt_known (stmts.Debugger n) = refl
stmt_known (stmts.With n) = refl
stmt_known (stmts.Return n) = refl
stmt_known (stmts.Labeled n) = refl
stmt_known (stmts.Break n) = refl
stmt_known (stmts.Continue n) = refl
stmt_known (stmts.If n) = refl
stmt_known (stmts.Switch n) = refl
stmt_known (stmts.Throw n) = refl
stmt_known (stmts.Try n) = refl
stmt_known (stmts.While n) = refl
stmt_known (stmts.DoWhile n) = refl
stmt_known (stmts.For n) = refl
stmt_known (stmts.ForIn n) = refl
stmt_known (stmts.ForOf n) = refl
stmt_known (stmts.Decl n) = decl_known n
stmt_known (stmts.Expr n) = refl

pat_known : (n : Pat AnyNode) → node_span (λ known. known) (known_of (nodes.ExprPart (expr_parts.Pat n))) ≡ pat_span any_span n
unfolding node_span known_of expr_part_span pat_span binding_ident_span
pat_known (pats.Ident n) = refl
pat_known (pats.Array n) = refl
pat_known (pats.Rest n) = refl
pat_known (pats.Object n) = refl
pat_known (pats.Assign n) = refl
pat_known (pats.Invalid n) = refl
pat_known (pats.Expr n) = refl

function_type_known : (b : (Box (TsFnOrConstructorType AnyNode) Global)) (n : TsFnOrConstructorType AnyNode) → node_span (λ known. known) (known_of (nodes.TsPart (ts_parts.TsType (ts_types.TsFnOrConstructorType (with_value b n))))) ≡ ts_fn_or_constructor_type_span n
unfolding node_span known_of ts_part_span ts_type_span ts_fn_or_constructor_type_span
function_type_known b (ts_fn_or_constructor_types.TsFnType n) = refl
function_type_known b (ts_fn_or_constructor_types.TsConstructorType n) = refl

ts_type_known : (n : TsType AnyNode) → node_span (λ known. known) (known_of (nodes.TsPart (ts_parts.TsType n))) ≡ ts_type_span n
unfolding node_span known_of ts_part_span ts_type_span ts_fn_or_constructor_type_span ts_union_or_intersection_type_span
ts_type_known (ts_types.TsKeywordType n) = refl
ts_type_known (ts_types.TsThisType n) = refl
ts_type_known (ts_types.TsFnOrConstructorType n) = function_type_known n n.value
ts_type_known (ts_types.TsTypeRef n) = refl
ts_type_known (ts_types.TsTypeQuery n) = refl
ts_type_known (ts_types.TsTypeLit n) = refl
ts_type_known (ts_types.TsArrayType n) = refl
ts_type_known (ts_types.TsTupleType n) = refl
ts_type_known (ts_types.TsOptionalType n) = refl
ts_type_known (ts_types.TsRestType n) = refl
ts_type_known (ts_types.TsUnionOrIntersectionType (ts_union_or_intersection_types.TsUnionType n)) = refl
ts_type_known (ts_types.TsUnionOrIntersectionType (ts_union_or_intersection_types.TsIntersectionType n)) = refl
ts_type_known (ts_types.TsConditionalType n) = refl
ts_type_known (ts_types.TsInferType n) = refl
ts_type_known (ts_types.TsParenthesizedType n) = refl
ts_type_known (ts_types.TsTypeOperator n) = refl
ts_type_known (ts_types.TsIndexedAccessType n) = refl
ts_type_known (ts_types.TsMappedType n) = refl
ts_type_known (ts_types.TsLitType n) = refl
ts_type_known (ts_types.TsTypePredicate n) = refl
ts_type_known (ts_types.TsImportType n) = refl

ts_namespace_body_known : (n : TsNamespaceBody AnyNode) → node_span (λ known. known) (known_of (nodes.TsPart (ts_parts.TsNamespaceBody n))) ≡ ts_namespace_body_span n
unfolding node_span known_of ts_part_span ts_namespace_body_span
ts_namespace_body_known (ts_namespace_bodys.TsModuleBlock n) = refl
ts_namespace_body_known (ts_namespace_bodys.TsNamespaceDecl n) = refl

ts_type_ann_known : (n : TsTypeAnn AnyNode) → node_span (λ known. known) (known_of (nodes.TsPart (ts_parts.TsTypeAnn n))) ≡ n.span
unfolding node_span known_of ts_part_span
ts_type_ann_known n = refl

ts_type_param_decl_known : (n : TsTypeParamDecl AnyNode) → node_span (λ known. known) (known_of (nodes.TsPart (ts_parts.TsTypeParamDecl n))) ≡ n.span
unfolding node_span known_of ts_part_span
ts_type_param_decl_known n = refl

ts_type_param_instantiation_known : (n : TsTypeParamInstantiation AnyNode) → node_span (λ known. known) (known_of (nodes.TsPart (ts_parts.TsTypeParamInstantiation n))) ≡ n.span
unfolding node_span known_of ts_part_span
ts_type_param_instantiation_known n = refl

function_known : (b : (Box (Function AnyNode) Global)) (n : Function AnyNode) → node_span (λ known. known) (known_of (nodes.StmtPart (stmt_parts.Function (with_value b n)))) ≡ n.span
unfolding node_span known_of stmt_part_span
function_known b n = refl

class_known : (b : (Box (Class AnyNode) Global)) (n : Class AnyNode) → node_span (λ known. known) (known_of (nodes.StmtPart (stmt_parts.Class (with_value b n)))) ≡ n.span
unfolding node_span known_of stmt_part_span
class_known b n = refl

tpl_known : (n : Tpl AnyNode) → node_span (λ known. known) (known_of (nodes.ExprPart (expr_parts.Tpl n))) ≡ n.span
unfolding node_span known_of expr_part_span
tpl_known n = refl

block_stmt_known : (n : BlockStmt AnyNode) → node_span (λ known. known) (known_of (nodes.StmtPart (stmt_parts.BlockStmt n))) ≡ n.span
unfolding node_span known_of stmt_part_span
block_stmt_known n = refl

module_decl_known : (b : (Box (ModuleDecl AnyNode) Global)) (n : ModuleDecl AnyNode) → node_span (λ known. known) (known_of (nodes.StmtPart (stmt_parts.ModuleDecl (with_value b n)))) ≡ module_decl_span n
unfolding node_span known_of stmt_part_span module_decl_span
module_decl_known b (module_decls.Import n) = refl
module_decl_known b (module_decls.ExportDecl n) = refl
module_decl_known b (module_decls.ExportNamed n) = refl
module_decl_known b (module_decls.ExportDefaultDecl n) = refl
module_decl_known b (module_decls.ExportDefaultExpr n) = refl
module_decl_known b (module_decls.ExportAll n) = refl
module_decl_known b (module_decls.TsImportEquals n) = refl
module_decl_known b (module_decls.TsExportAssignment n) = refl
module_decl_known b (module_decls.TsNamespaceExport n) = refl

object_lit_known : (n : ObjectLit AnyNode) → node_span (λ known. known) (known_of (nodes.ExprPart (expr_parts.ObjectLit n))) ≡ n.span
unfolding node_span known_of expr_part_span
object_lit_known n = refl

prop_name_known : (n : PropName AnyNode) → node_span (λ known. known) (known_of (nodes.ExprPart (expr_parts.PropName n))) ≡ prop_name_span n
unfolding node_span known_of expr_part_span prop_name_span
prop_name_known (prop_names.Ident n) = refl
prop_name_known (prop_names.Str n) = refl
prop_name_known (prop_names.Num n) = refl
prop_name_known (prop_names.BigInt n) = refl
prop_name_known (prop_names.Computed n) = refl

var_decl_known : (n : VarDecl AnyNode) → node_span (λ known. known) (known_of (nodes.StmtPart (stmt_parts.VarDecl n))) ≡ n.span
unfolding node_span known_of stmt_part_span
var_decl_known n = refl

ts_fn_param_known : (n : TsFnParam AnyNode) → node_span (λ known. known) (known_of (nodes.TsPart (ts_parts.TsFnParam n))) ≡ ts_fn_param_span n
unfolding node_span known_of ts_part_span ts_fn_param_span binding_ident_span
ts_fn_param_known (ts_fn_params.Ident n) = refl
ts_fn_param_known (ts_fn_params.Array n) = refl
ts_fn_param_known (ts_fn_params.Rest n) = refl
ts_fn_param_known (ts_fn_params.Object n) = refl

class_member_known : (b : (Box (ClassMember AnyNode) Global)) (n : ClassMember AnyNode) → node_span (λ known. known) (known_of (nodes.StmtPart (stmt_parts.ClassMember (with_value b n)))) ≡ class_member_span n
unfolding node_span known_of stmt_part_span class_member_span
class_member_known b (class_members.Constructor n) = refl
class_member_known b (class_members.Method n) = refl
class_member_known b (class_members.PrivateMethod n) = refl
class_member_known b (class_members.ClassProp n) = refl
class_member_known b (class_members.PrivateProp n) = refl
class_member_known b (class_members.TsIndexSignature n) = refl
class_member_known b (class_members.Empty n) = refl
class_member_known b (class_members.StaticBlock n) = refl
class_member_known b (class_members.AutoAccessor n) = refl

jsx_element_known : (b : (Box (JSXElement AnyNode) Global)) (n : JSXElement AnyNode) → node_span (λ known. known) (known_of (nodes.JSXPart (jsx_parts.JSXElement (with_value b n)))) ≡ n.span
unfolding node_span known_of jsx_part_span
jsx_element_known b n = refl

jsx_fragment_known : (n : JSXFragment AnyNode) → node_span (λ known. known) (known_of (nodes.JSXPart (jsx_parts.JSXFragment n))) ≡ n.span
unfolding node_span known_of jsx_part_span
jsx_fragment_known n = refl

ts_interface_body_known : (n : TsInterfaceBody AnyNode) → node_span (λ known. known) (known_of (nodes.TsPart (ts_parts.TsInterfaceBody n))) ≡ n.span
unfolding node_span known_of ts_part_span
ts_interface_body_known n = refl

member_expr_known : (n : MemberExpr AnyNode) → node_span (λ known. known) (known_of (nodes.MemberExpr n)) ≡ n.span
unfolding node_span known_of
member_expr_known n = refl

opt_call_known : (n : OptCall AnyNode) → node_span (λ known. known) (known_of (nodes.ExprPart (expr_parts.OptCall n))) ≡ n.span
unfolding node_span known_of expr_part_span
opt_call_known n = refl

assign_target_known : (n : AssignTarget AnyNode) → node_span (λ known. known) (known_of (nodes.ExprPart (expr_parts.AssignTarget n))) ≡ assign_target_span any_span n
unfolding node_span known_of expr_part_span assign_target_span simple_assign_target_span binding_ident_span assign_target_pat_span
assign_target_known (assign_targets.Simple (simple_assign_targets.Ident n)) = refl
assign_target_known (assign_targets.Simple (simple_assign_targets.Member n)) = refl
assign_target_known (assign_targets.Simple (simple_assign_targets.SuperProp n)) = refl
assign_target_known (assign_targets.Simple (simple_assign_targets.Paren n)) = refl
assign_target_known (assign_targets.Simple (simple_assign_targets.OptChain n)) = refl
assign_target_known (assign_targets.Simple (simple_assign_targets.TsAs n)) = refl
assign_target_known (assign_targets.Simple (simple_assign_targets.TsSatisfies n)) = refl
assign_target_known (assign_targets.Simple (simple_assign_targets.TsNonNull n)) = refl
assign_target_known (assign_targets.Simple (simple_assign_targets.TsTypeAssertion n)) = refl
assign_target_known (assign_targets.Simple (simple_assign_targets.TsInstantiation n)) = refl
assign_target_known (assign_targets.Simple (simple_assign_targets.Invalid n)) = refl
assign_target_known (assign_targets.Pat (assign_target_pats.Array n)) = refl
assign_target_known (assign_targets.Pat (assign_target_pats.Object n)) = refl
assign_target_known (assign_targets.Pat (assign_target_pats.Invalid n)) = refl

ts_entity_name_known : (n : TsEntityName AnyNode) → node_span (λ known. known) (known_of (nodes.TsPart (ts_parts.TsEntityName n))) ≡ ts_entity_name_span n
unfolding node_span known_of ts_part_span ts_entity_name_span
ts_entity_name_known (ts_entity_names.TsQualifiedName n) = refl
ts_entity_name_known (ts_entity_names.Ident n) = refl

jsx_object_known : (n : JSXObject AnyNode) → node_span (λ known. known) (known_of (nodes.JSXPart (jsx_parts.JSXObject n))) ≡ jsx_object_span any_span n
unfolding node_span known_of jsx_part_span jsx_object_span jsx_member_expr_span
jsx_object_known (jsx_objects.JSXMemberExpr n) = refl
jsx_object_known (jsx_objects.Ident n) = refl

expr_part_known : (n : ExprPart AnyNode) → node_span (λ known. known) (known_of (nodes.ExprPart n)) ≡ expr_part_span any_span n
unfolding node_span known_of expr_part_span
expr_part_known (expr_parts.Pat n) = pat_known n
expr_part_known (expr_parts.Tpl n) = tpl_known n
expr_part_known (expr_parts.ObjectLit n) = object_lit_known n
expr_part_known (expr_parts.PropName n) = prop_name_known n
expr_part_known (expr_parts.OptCall n) = opt_call_known n
expr_part_known (expr_parts.AssignTarget n) = assign_target_known n

stmt_part_known : (n : StmtPart AnyNode) → node_span (λ known. known) (known_of (nodes.StmtPart n)) ≡ stmt_part_span any_span n
unfolding node_span known_of stmt_part_span
stmt_part_known (stmt_parts.Function n) = function_known n n.value
stmt_part_known (stmt_parts.Class n) = class_known n n.value
stmt_part_known (stmt_parts.BlockStmt n) = block_stmt_known n
stmt_part_known (stmt_parts.Decl n) = decl_known n
stmt_part_known (stmt_parts.ModuleDecl n) = module_decl_known n n.value
stmt_part_known (stmt_parts.VarDecl n) = var_decl_known n
stmt_part_known (stmt_parts.ClassMember n) = class_member_known n n.value

jsx_part_known : (n : JSXPart AnyNode) → node_span (λ known. known) (known_of (nodes.JSXPart n)) ≡ jsx_part_span any_span n
unfolding node_span known_of jsx_part_span
jsx_part_known (jsx_parts.JSXElement n) = jsx_element_known n n.value
jsx_part_known (jsx_parts.JSXFragment n) = jsx_fragment_known n
jsx_part_known (jsx_parts.JSXObject n) = jsx_object_known n

ts_part_known : (n : TsPart AnyNode) → node_span (λ known. known) (known_of (nodes.TsPart n)) ≡ ts_part_span any_span n
unfolding node_span known_of ts_part_span
ts_part_known (ts_parts.TsType n) = ts_type_known n
ts_part_known (ts_parts.TsNamespaceBody n) = ts_namespace_body_known n
ts_part_known (ts_parts.TsTypeAnn n) = ts_type_ann_known n
ts_part_known (ts_parts.TsTypeParamDecl n) = ts_type_param_decl_known n
ts_part_known (ts_parts.TsTypeParamInstantiation n) = ts_type_param_instantiation_known n
ts_part_known (ts_parts.TsFnParam n) = ts_fn_param_known n
ts_part_known (ts_parts.TsInterfaceBody n) = ts_interface_body_known n
ts_part_known (ts_parts.TsEntityName n) = ts_entity_name_known n

layer_known : (n : AnyNode-F AnyNode) → node_span (λ known. known) (known_of n) ≡ node_span any_span n
unfolding node_span known_of
layer_known (nodes.Expr n) = expr_known n
layer_known (nodes.Stmt n) = stmt_known n
layer_known (nodes.MemberExpr n) = member_expr_known n
layer_known (nodes.ExprPart n) = expr_part_known n
layer_known (nodes.StmtPart n) = stmt_part_known n
layer_known (nodes.JSXPart n) = jsx_part_known n
layer_known (nodes.TsPart n) = ts_part_known n

span_of_layer : (n : AnyNode-F AnyNode) → any_span (roll-AnyNode n) ≡ node_span any_span n
unfolding any_span known_of
span_of_layer n = fold-roll-AnyNode Span (node_span (λ known. known)) n ∙ layer_known n

pub any_span_expr : (n : Expr AnyNode) → any_span (whole.Expr n) ≡ expr_span any_span n
unfolding node_span
any_span_expr n = ap any_span (sym (whole.rolls-Expr n)) ∙ span_of_layer (nodes.Expr n)

pub any_span_stmt : (n : Stmt AnyNode) → any_span (whole.Stmt n) ≡ stmt_span any_span n
unfolding node_span
any_span_stmt n = ap any_span (sym (whole.rolls-Stmt n)) ∙ span_of_layer (nodes.Stmt n)

pub any_span_member_expr : (n : MemberExpr AnyNode) → any_span (whole.MemberExpr n) ≡ n.span
unfolding node_span
any_span_member_expr n = ap any_span (sym (whole.rolls-MemberExpr n)) ∙ span_of_layer (nodes.MemberExpr n)

pub any_span_expr_part : (n : ExprPart AnyNode) → any_span (whole.ExprPart n) ≡ expr_part_span any_span n
unfolding node_span
any_span_expr_part n = ap any_span (sym (whole.rolls-ExprPart n)) ∙ span_of_layer (nodes.ExprPart n)

pub any_span_stmt_part : (n : StmtPart AnyNode) → any_span (whole.StmtPart n) ≡ stmt_part_span any_span n
unfolding node_span
any_span_stmt_part n = ap any_span (sym (whole.rolls-StmtPart n)) ∙ span_of_layer (nodes.StmtPart n)

pub any_span_jsx_part : (n : JSXPart AnyNode) → any_span (whole.JSXPart n) ≡ jsx_part_span any_span n
unfolding node_span
any_span_jsx_part n = ap any_span (sym (whole.rolls-JSXPart n)) ∙ span_of_layer (nodes.JSXPart n)

pub any_span_ts_part : (n : TsPart AnyNode) → any_span (whole.TsPart n) ≡ ts_part_span any_span n
unfolding node_span
any_span_ts_part n = ap any_span (sym (whole.rolls-TsPart n)) ∙ span_of_layer (nodes.TsPart n)
