-- One map of what stands in the sums of sorts behind another is one map. Made by scripts/dev/make-visit-files.
use Rattle.std.proofs.Common.{◌≡◌, ap}
use Rattle.swc_ecma_codegen_tree.specs.declared.parts.ExprPart.{ExprPart}
use Rattle.swc_ecma_codegen_tree.specs.declared.idents.Ident.{Ident}
use Rattle.swc_ecma_codegen_tree.specs.declared.parts.JSXPart.{JSXPart}
use Rattle.swc_ecma_codegen_tree.specs.declared.parts.StmtPart.{StmtPart}
use Rattle.swc_ecma_codegen_tree.specs.declared.parts.TsPart.{TsPart}
use Rattle.swc_ecma_codegen_tree.specs.declared.parts.ExprPart.TheVariants as expr_parts
use Rattle.swc_ecma_codegen_tree.specs.declared.parts.JSXPart.TheVariants as jsx_parts
use Rattle.swc_ecma_codegen_tree.specs.declared.parts.StmtPart.TheVariants as stmt_parts
use Rattle.swc_ecma_codegen_tree.specs.declared.parts.TsPart.TheVariants as ts_parts
use Rattle.swc_ecma_codegen_visit.specs.MappedJsx.{map_jsx_element}
use Rattle.swc_ecma_codegen_visit.specs.MappedDecls.{map_function}
use Rattle.swc_ecma_codegen_visit.specs.MappedClasses.{map_class, map_class_member}
use Rattle.swc_ecma_codegen_visit.specs.MappedModules.{map_module_decl}
use Rattle.swc_ecma_codegen_visit.specs.MappedParts.{map_expr_part, map_jsx_part, map_stmt_part, map_ts_part}
use Rattle.swc_ecma_codegen_visit.proofs.Fused.{box_fused}
use Rattle.swc_ecma_codegen_visit.proofs.FusedExprs.{fused_object_lit, fused_opt_call, fused_prop_name, fused_tpl}
use Rattle.swc_ecma_codegen_visit.proofs.FusedJsx.{fused_jsx_element, fused_jsx_fragment, fused_jsx_object}
use Rattle.swc_ecma_codegen_visit.proofs.FusedPats.{fused_assign_target, fused_pat}
use Rattle.swc_ecma_codegen_visit.proofs.FusedTsTypes.{fused_ts_entity_name, fused_ts_fn_param, fused_ts_interface_body, fused_ts_type}
use Rattle.swc_ecma_codegen_visit.proofs.FusedTsTypes.{fused_ts_type_ann, fused_ts_type_param_decl, fused_ts_type_param_instantiation}
use Rattle.swc_ecma_codegen_visit.proofs.FusedDecls.{fused_decl, fused_function, fused_var_decl}
use Rattle.swc_ecma_codegen_visit.proofs.FusedClasses.{fused_class, fused_class_member}
use Rattle.swc_ecma_codegen_visit.proofs.FusedStmts.{fused_block_stmt}
use Rattle.swc_ecma_codegen_visit.proofs.FusedModules.{fused_module_decl, fused_ts_namespace_body}

pub fused_expr_part : {X : Type 0} (g h : Ident → Ident) (f k : X → X) (n : ExprPart X) → map_expr_part g f (map_expr_part h k n) ≡
    map_expr_part (λ x. g (h x)) (λ x. f (k x)) n
fused_expr_part g h f k (expr_parts.Pat n) = ap expr_parts.Pat ((fused_pat g h f k) n)
fused_expr_part g h f k (expr_parts.Tpl n) = ap expr_parts.Tpl ((fused_tpl g h f k) n)
fused_expr_part g h f k (expr_parts.ObjectLit n) = ap expr_parts.ObjectLit ((fused_object_lit g h f k) n)
fused_expr_part g h f k (expr_parts.PropName n) = ap expr_parts.PropName ((fused_prop_name g h f k) n)
fused_expr_part g h f k (expr_parts.OptCall n) = ap expr_parts.OptCall ((fused_opt_call g h f k) n)
fused_expr_part g h f k (expr_parts.AssignTarget n) = ap expr_parts.AssignTarget ((fused_assign_target g h f k) n)

pub fused_stmt_part : {X : Type 0} (g h : Ident → Ident) (f k : X → X) (n : StmtPart X) → map_stmt_part g f (map_stmt_part h k n) ≡
    map_stmt_part (λ x. g (h x)) (λ x. f (k x)) n
fused_stmt_part g h f k (stmt_parts.Function n) = ap stmt_parts.Function ((box_fused (map_function g f) (map_function h k) (map_function (λ
    x. g (h x)) (λ x. f (k x))) (fused_function g h f k)) n)
fused_stmt_part g h f k (stmt_parts.Class n) = ap stmt_parts.Class ((box_fused (map_class g f) (map_class h k) (map_class (λ x. g (h x)) (λ
    x. f (k x))) (fused_class g h f k)) n)
fused_stmt_part g h f k (stmt_parts.BlockStmt n) = ap stmt_parts.BlockStmt ((fused_block_stmt g h f k) n)
fused_stmt_part g h f k (stmt_parts.Decl n) = ap stmt_parts.Decl ((fused_decl g h f k) n)
fused_stmt_part g h f k (stmt_parts.ModuleDecl n) = ap stmt_parts.ModuleDecl ((box_fused (map_module_decl g f) (map_module_decl h k)
    (map_module_decl (λ x. g (h x)) (λ x. f (k x))) (fused_module_decl g h f k)) n)
fused_stmt_part g h f k (stmt_parts.VarDecl n) = ap stmt_parts.VarDecl ((fused_var_decl g h f k) n)
fused_stmt_part g h f k (stmt_parts.ClassMember n) = ap stmt_parts.ClassMember ((box_fused (map_class_member g f) (map_class_member h k)
    (map_class_member (λ x. g (h x)) (λ x. f (k x))) (fused_class_member g h f k)) n)

pub fused_jsx_part : {X : Type 0} (g h : Ident → Ident) (f k : X → X) (n : JSXPart X) → map_jsx_part g f (map_jsx_part h k n) ≡ map_jsx_part
    (λ x. g (h x)) (λ x. f (k x)) n
fused_jsx_part g h f k (jsx_parts.JSXElement n) = ap jsx_parts.JSXElement ((box_fused (map_jsx_element g f) (map_jsx_element h k)
    (map_jsx_element (λ x. g (h x)) (λ x. f (k x))) (fused_jsx_element g h f k)) n)
fused_jsx_part g h f k (jsx_parts.JSXFragment n) = ap jsx_parts.JSXFragment ((fused_jsx_fragment g h f k) n)
fused_jsx_part g h f k (jsx_parts.JSXObject n) = ap jsx_parts.JSXObject ((fused_jsx_object g h f k) n)

pub fused_ts_part : {X : Type 0} (g h : Ident → Ident) (f k : X → X) (n : TsPart X) → map_ts_part g f (map_ts_part h k n) ≡ map_ts_part (λ
    x. g (h x)) (λ x. f (k x)) n
fused_ts_part g h f k (ts_parts.TsType n) = ap ts_parts.TsType ((fused_ts_type g h f k) n)
fused_ts_part g h f k (ts_parts.TsNamespaceBody n) = ap ts_parts.TsNamespaceBody ((fused_ts_namespace_body g h f k) n)
fused_ts_part g h f k (ts_parts.TsTypeAnn n) = ap ts_parts.TsTypeAnn ((fused_ts_type_ann g h f k) n)
fused_ts_part g h f k (ts_parts.TsTypeParamDecl n) = ap ts_parts.TsTypeParamDecl ((fused_ts_type_param_decl g h f k) n)
fused_ts_part g h f k (ts_parts.TsTypeParamInstantiation n) = ap ts_parts.TsTypeParamInstantiation ((fused_ts_type_param_instantiation g h f
    k) n)
fused_ts_part g h f k (ts_parts.TsFnParam n) = ap ts_parts.TsFnParam ((fused_ts_fn_param g h f k) n)
fused_ts_part g h f k (ts_parts.TsInterfaceBody n) = ap ts_parts.TsInterfaceBody ((fused_ts_interface_body g h f k) n)
fused_ts_part g h f k (ts_parts.TsEntityName n) = ap ts_parts.TsEntityName ((fused_ts_entity_name g h f k) n)
