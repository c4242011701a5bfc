-- Maps of what stands in the sums of sorts: of each type, over names and what links hold as something else. Made by scripts/dev/make-visit-files.
use Rattle.swc_ecma_codegen_tree.specs.declared.parts.ExprPart.{ExprPart}
use Rattle.swc_ecma_codegen_tree.specs.declared.idents.Ident.{Ident}
use Rattle.swc_ecma_codegen_tree.specs.declared.parts.JSXPart.{JSXPart}
use Rattle.swc_ecma_codegen_tree.specs.declared.parts.StmtPart.{StmtPart}
use Rattle.swc_ecma_codegen_tree.specs.declared.parts.TsPart.{TsPart}
use Rattle.swc_ecma_codegen_tree.specs.declared.parts.ExprPart.TheVariants as expr_parts
use Rattle.swc_ecma_codegen_tree.specs.declared.parts.JSXPart.TheVariants as jsx_parts
use Rattle.swc_ecma_codegen_tree.specs.declared.parts.StmtPart.TheVariants as stmt_parts
use Rattle.swc_ecma_codegen_tree.specs.declared.parts.TsPart.TheVariants as ts_parts
use Rattle.swc_ecma_codegen_visit.specs.Mapping.{map_box}
use Rattle.swc_ecma_codegen_visit.specs.MappedExprs.{map_object_lit, map_opt_call, map_prop_name, map_tpl}
use Rattle.swc_ecma_codegen_visit.specs.MappedJsx.{map_jsx_element, map_jsx_fragment, map_jsx_object}
use Rattle.swc_ecma_codegen_visit.specs.MappedPats.{map_assign_target, map_pat}
use Rattle.swc_ecma_codegen_visit.specs.MappedTsTypes.{map_ts_entity_name, map_ts_fn_param, map_ts_interface_body, map_ts_type}
use Rattle.swc_ecma_codegen_visit.specs.MappedTsTypes.{map_ts_type_ann, map_ts_type_param_decl, map_ts_type_param_instantiation}
use Rattle.swc_ecma_codegen_visit.specs.MappedDecls.{map_decl, map_function, map_var_decl}
use Rattle.swc_ecma_codegen_visit.specs.MappedClasses.{map_class, map_class_member}
use Rattle.swc_ecma_codegen_visit.specs.MappedStmts.{map_block_stmt}
use Rattle.swc_ecma_codegen_visit.specs.MappedModules.{map_module_decl, map_ts_namespace_body}

abbrev pub map_expr_part : {X : Type 0} → (Ident → Ident) → (X → X) → ExprPart X → ExprPart X
map_expr_part g f (expr_parts.Pat n) = expr_parts.Pat (map_pat g f n)
map_expr_part g f (expr_parts.Tpl n) = expr_parts.Tpl (map_tpl g f n)
map_expr_part g f (expr_parts.ObjectLit n) = expr_parts.ObjectLit (map_object_lit g f n)
map_expr_part g f (expr_parts.PropName n) = expr_parts.PropName (map_prop_name g f n)
map_expr_part g f (expr_parts.OptCall n) = expr_parts.OptCall (map_opt_call g f n)
map_expr_part g f (expr_parts.AssignTarget n) = expr_parts.AssignTarget (map_assign_target g f n)

abbrev pub map_stmt_part : {X : Type 0} → (Ident → Ident) → (X → X) → StmtPart X → StmtPart X
map_stmt_part g f (stmt_parts.Function n) = stmt_parts.Function (map_box (map_function g f) n)
map_stmt_part g f (stmt_parts.Class n) = stmt_parts.Class (map_box (map_class g f) n)
map_stmt_part g f (stmt_parts.BlockStmt n) = stmt_parts.BlockStmt (map_block_stmt g f n)
map_stmt_part g f (stmt_parts.Decl n) = stmt_parts.Decl (map_decl g f n)
map_stmt_part g f (stmt_parts.ModuleDecl n) = stmt_parts.ModuleDecl (map_box (map_module_decl g f) n)
map_stmt_part g f (stmt_parts.VarDecl n) = stmt_parts.VarDecl (map_var_decl g f n)
map_stmt_part g f (stmt_parts.ClassMember n) = stmt_parts.ClassMember (map_box (map_class_member g f) n)

abbrev pub map_jsx_part : {X : Type 0} → (Ident → Ident) → (X → X) → JSXPart X → JSXPart X
map_jsx_part g f (jsx_parts.JSXElement n) = jsx_parts.JSXElement (map_box (map_jsx_element g f) n)
map_jsx_part g f (jsx_parts.JSXFragment n) = jsx_parts.JSXFragment (map_jsx_fragment g f n)
map_jsx_part g f (jsx_parts.JSXObject n) = jsx_parts.JSXObject (map_jsx_object g f n)

abbrev pub map_ts_part : {X : Type 0} → (Ident → Ident) → (X → X) → TsPart X → TsPart X
map_ts_part g f (ts_parts.TsType n) = ts_parts.TsType (map_ts_type g f n)
map_ts_part g f (ts_parts.TsNamespaceBody n) = ts_parts.TsNamespaceBody (map_ts_namespace_body g f n)
map_ts_part g f (ts_parts.TsTypeAnn n) = ts_parts.TsTypeAnn (map_ts_type_ann g f n)
map_ts_part g f (ts_parts.TsTypeParamDecl n) = ts_parts.TsTypeParamDecl (map_ts_type_param_decl g f n)
map_ts_part g f (ts_parts.TsTypeParamInstantiation n) = ts_parts.TsTypeParamInstantiation (map_ts_type_param_instantiation g f n)
map_ts_part g f (ts_parts.TsFnParam n) = ts_parts.TsFnParam (map_ts_fn_param g f n)
map_ts_part g f (ts_parts.TsInterfaceBody n) = ts_parts.TsInterfaceBody (map_ts_interface_body g f n)
map_ts_part g f (ts_parts.TsEntityName n) = ts_parts.TsEntityName (map_ts_entity_name g f n)
