-- The rules of a whole tree.
use Rattle.std.specs.Prelude.{ℕ, suc, zero, true, false, not, codes, map}
use Rattle.swc_ecma_codegen_tree.specs.declared.exprs.Expr.{Expr}
use Rattle.swc_ecma_codegen_tree.specs.declared.exprs.MemberExpr.{MemberExpr}
use Rattle.swc_ecma_codegen_tree.specs.declared.links.AnyNode.{AnyNode}
use Rattle.swc_ecma_codegen_tree.specs.declared.parts.ExprPart.{ExprPart}
use Rattle.swc_ecma_codegen_tree.specs.declared.parts.JSXPart.{JSXPart}
use Rattle.swc_ecma_codegen_tree.specs.declared.parts.StmtPart.{StmtPart}
use Rattle.swc_ecma_codegen_tree.specs.declared.parts.TsPart.{TsPart}
use Rattle.swc_ecma_codegen_tree.specs.declared.stmts.Stmt.{Stmt}
use Rattle.swc_ecma_codegen_tree.specs.declared.ts_decls.TsModuleBlock.{TsModuleBlock}
use Rattle.swc_ecma_codegen_tree.specs.declared.ts_decls.TsNamespaceBody.{TsNamespaceBody}
use Rattle.swc_ecma_codegen_tree.specs.declared.ts_decls.TsNamespaceBody.TheVariants as ts_namespace_bodys
use Rattle.swc_ecma_codegen_tree.specs.declared.exprs.Expr.TheVariants as exprs
use Rattle.swc_ecma_codegen_tree.specs.declared.parts.ExprPart.TheVariants as expr_parts
use Rattle.swc_ecma_codegen_tree.specs.declared.parts.StmtPart.TheVariants as stmt_parts
use Rattle.swc_ecma_codegen_tree.specs.declared.parts.JSXPart.TheVariants as jsx_parts
use Rattle.swc_ecma_codegen_tree.specs.declared.parts.TsPart.TheVariants as ts_parts
use Rattle.swc_ecma_codegen_grammar.specs.declared.roles.Role.{Role}
use Rattle.swc_ecma_codegen_grammar.specs.declared.roles.Role.TheVariants.{AccessorTail, Annotation, AnyType, AssignmentTarget, Block, Callee, ChainCall, ChainMember, Child, ClassHead, ClassTail, ClassWord, Declaration, DottedBody, Element, EntityName, ExportedHead, ExportedTail, Expression, FieldValue, Function, FunctionHead, InterfaceBody, Member, MemberExpression, MethodDecorators, MethodHead, MethodTail, ModuleDeclaration, NamespaceBody, ObjectLiteral, Pattern, PropertyName, SignatureParameter, Statement, TagObject, TaggedTemplate, Template, TypeArguments, TypeParameters, VariableDeclaration}
use Rattle.swc_ecma_codegen_tree.specs.declared.links.AnyNode.{AnyNode, AnyNode-F, out-AnyNode}
use Rattle.swc_ecma_codegen_tree.specs.declared.links.AnyNode.TheOpen as nodes
use Rattle.swc_ecma_codegen_tree.specs.declared.programs.Program.{Program}
use Rattle.swc_ecma_codegen_validate.specs.declared.faults.Fault.{Fault}
use Rattle.swc_ecma_codegen_validate.specs.Rules.{Rules, Free, Each, ◌&◌, rule, not_here, at, link, leaf, findings, Findings, place_of}
use Rattle.swc_ecma_codegen_validate.specs.NameRules.{ident, private_name, lit}
use Rattle.swc_ecma_codegen_validate.specs.ExprRules.{this_expr, unary_expr, update_expr, bin_expr, member_expr, super_prop_expr, meta_prop_expr, assign_expr, yield_expr, await_expr, cond_expr, seq_expr, paren_expr, array_lit, call_expr, new_expr, opt_call, prop_name, object_lit, tagged_tpl, tpl, opt_chain_expr}
use Rattle.swc_ecma_codegen_validate.specs.TsRules.{ts_as_expr, ts_const_assertion, ts_satisfies_expr, ts_non_null_expr, ts_type_assertion, ts_instantiation, ts_interface_body}
use Rattle.swc_ecma_codegen_validate.specs.PatRules.{pat, assign_target}
use Rattle.swc_ecma_codegen_validate.specs.TypeRules.{ts_entity_name, ts_type_param_instantiation, ts_type_param_decl, ts_fn_param, ts_type, ts_type_ann}
use Rattle.swc_ecma_codegen_validate.specs.DeclRules.{function, fn_expr, arrow_expr, var_decl, decl, class, class_expr, class_member, method_tail, accessor_tail, method_decorators, class_head, exported_head, exported_tail}
use Rattle.swc_ecma_codegen_validate.specs.JsxRules.{jsx_object, jsx_element, jsx_fragment}
use Rattle.swc_ecma_codegen_validate.specs.StmtRules.{stmt, block_stmt, module_item, program, module_decl}

unfoldable pub expr : {X : Type 0} → Expr X → Rules X
expr (exprs.This n) = leaf (this_expr n)
expr (exprs.Array n) = array_lit n
expr (exprs.Object n) = object_lit n
expr (exprs.Fn n) = fn_expr n
expr (exprs.Unary n) = unary_expr n
expr (exprs.Update n) = update_expr n
expr (exprs.Bin n) = bin_expr n
expr (exprs.Assign n) = assign_expr n
expr (exprs.Member n) = member_expr n
expr (exprs.SuperProp n) = super_prop_expr n
expr (exprs.Cond n) = cond_expr n
expr (exprs.Call n) = call_expr n
expr (exprs.New n) = new_expr n
expr (exprs.Seq n) = seq_expr n
expr (exprs.Ident n) = leaf (ident n)
expr (exprs.Lit n) = leaf (lit n)
expr (exprs.Tpl n) = link n Template
expr (exprs.TaggedTpl n) = tagged_tpl n
expr (exprs.Arrow n) = arrow_expr n.value
expr (exprs.Class n) = class_expr n
expr (exprs.Yield n) = yield_expr n
expr (exprs.MetaProp n) = leaf (meta_prop_expr n)
expr (exprs.Await n) = await_expr n
expr (exprs.Paren n) = paren_expr n
expr (exprs.JSXMember n) = not_here
expr (exprs.JSXNamespacedName n) = not_here
expr (exprs.JSXEmpty n) = not_here
expr (exprs.JSXElement n) = link n Element
expr (exprs.JSXFragment n) = link n Element
expr (exprs.TsTypeAssertion n) = ts_type_assertion n
expr (exprs.TsConstAssertion n) = ts_const_assertion n
expr (exprs.TsNonNull n) = ts_non_null_expr n
expr (exprs.TsAs n) = ts_as_expr n
expr (exprs.TsInstantiation n) = ts_instantiation n
expr (exprs.TsSatisfies n) = ts_satisfies_expr n
expr (exprs.PrivateName n) = leaf (private_name n)
expr (exprs.OptChain n) = opt_chain_expr n
expr (exprs.Invalid n) = not_here

unfoldable pub ts_module_block : {X : Type 0} → TsModuleBlock X → Rules X
ts_module_block n = at (codes "body") (Each n.body.items module_item)

unfoldable pub ts_namespace_body : {X : Type 0} → TsNamespaceBody X → Rules X
ts_namespace_body (ts_namespace_bodys.TsModuleBlock n) = ts_module_block n
ts_namespace_body (ts_namespace_bodys.TsNamespaceDecl n) = not_here

-- a body behind the name of its namespace: `{}` or `.b {}`
unfoldable pub dotted_body : {X : Type 0} → TsNamespaceBody X → Rules X
dotted_body (ts_namespace_bodys.TsModuleBlock n) = ts_module_block n
dotted_body (ts_namespace_bodys.TsNamespaceDecl n) = rule (not n.declare) (codes "a further name of a namespace has `declare`") & at (codes "id") (leaf (ident n.id)) & at (codes "body") (link n.body DottedBody)

-- ---- what a link holds, in its role: a node of another sort has no place there

unfoldable pub expr_part : {X : Type 0} → ExprPart X → Role → Rules X
expr_part (expr_parts.Pat n) Pattern = pat n
expr_part (expr_parts.Tpl n) Template = tpl false n
expr_part (expr_parts.Tpl n) TaggedTemplate = tpl true n
expr_part (expr_parts.ObjectLit n) ObjectLiteral = object_lit n
expr_part (expr_parts.PropName n) PropertyName = prop_name n
expr_part (expr_parts.OptCall n) (ChainCall optional) = opt_call n
expr_part (expr_parts.AssignTarget n) AssignmentTarget = assign_target n
expr_part n role = not_here

unfoldable pub stmt_part : {X : Type 0} → StmtPart X → Role → Rules X
stmt_part (stmt_parts.Function n) Function = function n.value
stmt_part (stmt_parts.Function n) FunctionHead = Free
stmt_part (stmt_parts.Function n) MethodHead = Free
stmt_part (stmt_parts.Function n) MethodDecorators = method_decorators n.value
stmt_part (stmt_parts.Function n) MethodTail = method_tail n.value
stmt_part (stmt_parts.Function n) AccessorTail = accessor_tail n.value
stmt_part (stmt_parts.Class n) ClassHead = class_head n.value
stmt_part (stmt_parts.Class n) ClassWord = Free
stmt_part (stmt_parts.Class n) ClassTail = class n.value
stmt_part (stmt_parts.ClassMember n) Member = class_member n.value
stmt_part (stmt_parts.BlockStmt n) Block = block_stmt n
stmt_part (stmt_parts.Decl n) Declaration = decl n
stmt_part (stmt_parts.Decl n) ExportedHead = exported_head n
stmt_part (stmt_parts.Decl n) ExportedTail = exported_tail n
stmt_part (stmt_parts.ModuleDecl n) ModuleDeclaration = module_decl n.value
stmt_part (stmt_parts.VarDecl n) VariableDeclaration = var_decl n
stmt_part n role = not_here

unfoldable pub jsx_part : {X : Type 0} → JSXPart X → Role → Rules X
jsx_part (jsx_parts.JSXElement n) Element = jsx_element n.value
jsx_part (jsx_parts.JSXElement n) Child = jsx_element n.value
jsx_part (jsx_parts.JSXFragment n) Element = jsx_fragment n
jsx_part (jsx_parts.JSXFragment n) Child = jsx_fragment n
jsx_part (jsx_parts.JSXObject n) TagObject = jsx_object n
jsx_part n role = not_here

unfoldable pub ts_part : {X : Type 0} → TsPart X → Role → Rules X
ts_part (ts_parts.TsType n) AnyType = ts_type n
ts_part (ts_parts.TsTypeAnn n) Annotation = ts_type_ann n
ts_part (ts_parts.TsTypeParamDecl n) TypeParameters = ts_type_param_decl n
ts_part (ts_parts.TsTypeParamInstantiation n) TypeArguments = ts_type_param_instantiation n
ts_part (ts_parts.TsFnParam n) SignatureParameter = ts_fn_param n
ts_part (ts_parts.TsInterfaceBody n) InterfaceBody = ts_interface_body n
ts_part (ts_parts.TsEntityName n) EntityName = ts_entity_name n
ts_part (ts_parts.TsNamespaceBody n) NamespaceBody = ts_namespace_body n
ts_part (ts_parts.TsNamespaceBody n) DottedBody = dotted_body n
ts_part n role = not_here

-- an expression, a statement and `a.b`
unfoldable pub expr_in_role : {X : Type 0} → Expr X → Role → Rules X
expr_in_role n Expression = expr n
expr_in_role n Callee = expr n
expr_in_role n FieldValue = expr n
expr_in_role n role = not_here

unfoldable pub stmt_in_role : {X : Type 0} → Stmt X → Role → Rules X
stmt_in_role n Statement = stmt n
stmt_in_role n role = not_here

unfoldable pub member_in_role : {X : Type 0} → MemberExpr X → Role → Rules X
member_in_role n MemberExpression = member_expr n
member_in_role n (ChainMember optional) = member_expr n
member_in_role n role = not_here

unfoldable pub node : {X : Type 0} → AnyNode-F X → Role → Rules X
node (nodes.Expr n) role = expr_in_role n role
node (nodes.Stmt n) role = stmt_in_role n role
node (nodes.MemberExpr n) role = member_in_role n role
node (nodes.ExprPart n) role = expr_part n role
node (nodes.StmtPart n) role = stmt_part n role
node (nodes.JSXPart n) role = jsx_part n role
node (nodes.TsPart n) role = ts_part n role

-- ---- what is found in a whole tree

-- in this many nodes below one another, at most
unfoldable pub found_within : ℕ → AnyNode → Role → Findings
found_within zero n role = record { first = λ path words. ⊥; none = ⊥ }
found_within (suc depth) n role = findings (found_within depth) (node (out-AnyNode n) role)

-- in a node, and in all below it
unfoldable pub found_in : AnyNode → Role → Findings
found_in n role = record {
  first = λ path words. (depth : ℕ) × (found_within depth n role).first path words;
  none = (depth : ℕ) × (found_within depth n role).none;
}

-- in a program
unfoldable pub found_in_program : Program AnyNode → Findings
found_in_program p = findings found_in (program p)

-- What is told of a program: the path to the first rule that is broken in it, and the words of that rule.
abbrev pub IsTold : Program AnyNode → Fault → Type 0
IsTold p fault = (found_in_program p).first (map place_of fault.path.items) fault.rule.now
