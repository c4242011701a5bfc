-- Where the map of what stands in the sums of sorts is another map of the same type, with names as they are. Made by scripts/dev/make-visit-files.
use Rattle.std.proofs.Common.{◌≡◌, ap, ◌∙◌}
use Rattle.std.specs.Prelude.{Box}
use Rattle.std.specs.declared.alloc.Global.{Global}
use Rattle.swc_ecma_codegen_tree.specs.declared.pats.AssignTarget.{AssignTarget}
use Rattle.swc_ecma_codegen_tree.specs.declared.stmts.BlockStmt.{BlockStmt}
use Rattle.swc_ecma_codegen_tree.specs.declared.classes.Class.{Class}
use Rattle.swc_ecma_codegen_tree.specs.declared.classes.ClassMember.{ClassMember}
use Rattle.swc_ecma_codegen_tree.specs.declared.decls.Decl.{Decl}
use Rattle.swc_ecma_codegen_tree.specs.declared.parts.ExprPart.{ExprPart}
use Rattle.swc_ecma_codegen_tree.specs.declared.decls.Function.{Function}
use Rattle.swc_ecma_codegen_tree.specs.declared.jsx.JSXElement.{JSXElement}
use Rattle.swc_ecma_codegen_tree.specs.declared.jsx.JSXFragment.{JSXFragment}
use Rattle.swc_ecma_codegen_tree.specs.declared.jsx.JSXObject.{JSXObject}
use Rattle.swc_ecma_codegen_tree.specs.declared.parts.JSXPart.{JSXPart}
use Rattle.swc_ecma_codegen_tree.specs.declared.programs.ModuleDecl.{ModuleDecl}
use Rattle.swc_ecma_codegen_tree.specs.declared.exprs.ObjectLit.{ObjectLit}
use Rattle.swc_ecma_codegen_tree.specs.declared.exprs.OptCall.{OptCall}
use Rattle.swc_ecma_codegen_tree.specs.declared.pats.Pat.{Pat}
use Rattle.swc_ecma_codegen_tree.specs.declared.exprs.PropName.{PropName}
use Rattle.swc_ecma_codegen_tree.specs.declared.parts.StmtPart.{StmtPart}
use Rattle.swc_ecma_codegen_tree.specs.declared.exprs.Tpl.{Tpl}
use Rattle.swc_ecma_codegen_tree.specs.declared.ts_types.TsEntityName.{TsEntityName}
use Rattle.swc_ecma_codegen_tree.specs.declared.ts_types.TsFnParam.{TsFnParam}
use Rattle.swc_ecma_codegen_tree.specs.declared.ts_members.TsInterfaceBody.{TsInterfaceBody}
use Rattle.swc_ecma_codegen_tree.specs.declared.ts_decls.TsNamespaceBody.{TsNamespaceBody}
use Rattle.swc_ecma_codegen_tree.specs.declared.parts.TsPart.{TsPart}
use Rattle.swc_ecma_codegen_tree.specs.declared.ts_types.TsType.{TsType}
use Rattle.swc_ecma_codegen_tree.specs.declared.ts_types.TsTypeAnn.{TsTypeAnn}
use Rattle.swc_ecma_codegen_tree.specs.declared.ts_types.TsTypeParamDecl.{TsTypeParamDecl}
use Rattle.swc_ecma_codegen_tree.specs.declared.ts_types.TsTypeParamInstantiation.{TsTypeParamInstantiation}
use Rattle.swc_ecma_codegen_tree.specs.declared.decls.VarDecl.{VarDecl}
use Rattle.swc_ecma_codegen_tree.specs.declared.parts.ExprPart.TheVariants as expr_parts
use Rattle.swc_ecma_codegen_tree.specs.declared.parts.JSXPart.TheVariants as jsx_parts
use Rattle.swc_ecma_codegen_tree.specs.declared.parts.StmtPart.TheVariants as stmt_parts
use Rattle.swc_ecma_codegen_tree.specs.declared.parts.TsPart.TheVariants as ts_parts
use Rattle.swc_ecma_codegen_visit.specs.Mapping.{map_box}
use Rattle.swc_ecma_codegen_visit.specs.MappedExprs.{map_object_lit, map_opt_call, map_prop_name, map_tpl}
use Rattle.swc_ecma_codegen_visit.specs.MappedJsx.{map_jsx_element, map_jsx_fragment, map_jsx_object}
use Rattle.swc_ecma_codegen_visit.specs.MappedPats.{map_assign_target, map_pat}
use Rattle.swc_ecma_codegen_visit.specs.MappedTsTypes.{map_ts_entity_name, map_ts_fn_param, map_ts_interface_body, map_ts_type}
use Rattle.swc_ecma_codegen_visit.specs.MappedTsTypes.{map_ts_type_ann, map_ts_type_param_decl, map_ts_type_param_instantiation}
use Rattle.swc_ecma_codegen_visit.specs.MappedDecls.{map_decl, map_function, map_var_decl}
use Rattle.swc_ecma_codegen_visit.specs.MappedClasses.{map_class, map_class_member}
use Rattle.swc_ecma_codegen_visit.specs.MappedStmts.{map_block_stmt}
use Rattle.swc_ecma_codegen_visit.specs.MappedModules.{map_module_decl, map_ts_namespace_body}
use Rattle.swc_ecma_codegen_visit.specs.MappedParts.{map_expr_part, map_jsx_part, map_stmt_part, map_ts_part}

pub in_expr_part : {X : Type 0} (f : X → X) (D : ExprPart X → ExprPart X) {to_Pat : Pat X → Pat X}
    {to_ObjectLit : ObjectLit X → ObjectLit X} {to_PropName : PropName X → PropName X} {to_OptCall : OptCall X → OptCall X}
    {to_AssignTarget : AssignTarget X → AssignTarget X} → ((n : Pat X) → expr_parts.Pat (to_Pat n) ≡ D (expr_parts.Pat n)) → ((n : Pat X) →
    map_pat (λ x. x) f n ≡ to_Pat n) → ((n : Tpl X) → expr_parts.Tpl (map_tpl (λ x. x) f n) ≡ D (expr_parts.Tpl n)) → ((n : ObjectLit X) →
    expr_parts.ObjectLit (to_ObjectLit n) ≡ D (expr_parts.ObjectLit n)) → ((n : ObjectLit X) → map_object_lit (λ x. x) f n ≡ to_ObjectLit n)
    → ((n : PropName X) → expr_parts.PropName (to_PropName n) ≡ D (expr_parts.PropName n)) → ((n : PropName X) → map_prop_name (λ x. x) f n
    ≡ to_PropName n) → ((n : OptCall X) → expr_parts.OptCall (to_OptCall n) ≡ D (expr_parts.OptCall n)) → ((n : OptCall X) → map_opt_call (λ
    x. x) f n ≡ to_OptCall n) → ((n : AssignTarget X) → expr_parts.AssignTarget (to_AssignTarget n) ≡ D (expr_parts.AssignTarget n)) → ((n :
    AssignTarget X) → map_assign_target (λ x. x) f n ≡ to_AssignTarget n) → (n : ExprPart X) → map_expr_part (λ x. x) f n ≡ D n
in_expr_part f D is_Pat at_Pat is_Tpl is_ObjectLit at_ObjectLit is_PropName at_PropName is_OptCall at_OptCall is_AssignTarget
    at_AssignTarget (expr_parts.Pat n) = ap expr_parts.Pat (at_Pat n) ∙ is_Pat n
in_expr_part f D is_Pat at_Pat is_Tpl is_ObjectLit at_ObjectLit is_PropName at_PropName is_OptCall at_OptCall is_AssignTarget
    at_AssignTarget (expr_parts.Tpl n) = is_Tpl n
in_expr_part f D is_Pat at_Pat is_Tpl is_ObjectLit at_ObjectLit is_PropName at_PropName is_OptCall at_OptCall is_AssignTarget
    at_AssignTarget (expr_parts.ObjectLit n) = ap expr_parts.ObjectLit (at_ObjectLit n) ∙ is_ObjectLit n
in_expr_part f D is_Pat at_Pat is_Tpl is_ObjectLit at_ObjectLit is_PropName at_PropName is_OptCall at_OptCall is_AssignTarget
    at_AssignTarget (expr_parts.PropName n) = ap expr_parts.PropName (at_PropName n) ∙ is_PropName n
in_expr_part f D is_Pat at_Pat is_Tpl is_ObjectLit at_ObjectLit is_PropName at_PropName is_OptCall at_OptCall is_AssignTarget
    at_AssignTarget (expr_parts.OptCall n) = ap expr_parts.OptCall (at_OptCall n) ∙ is_OptCall n
in_expr_part f D is_Pat at_Pat is_Tpl is_ObjectLit at_ObjectLit is_PropName at_PropName is_OptCall at_OptCall is_AssignTarget
    at_AssignTarget (expr_parts.AssignTarget n) = ap expr_parts.AssignTarget (at_AssignTarget n) ∙ is_AssignTarget n

pub in_stmt_part : {X : Type 0} (f : X → X) (D : StmtPart X → StmtPart X) {to_Function : Box (Function X) Global → Box (Function X) Global}
    {to_Class : Box (Class X) Global → Box (Class X) Global} {to_BlockStmt : BlockStmt X → BlockStmt X} {to_Decl : Decl X → Decl X}
    {to_ModuleDecl : Box (ModuleDecl X) Global → Box (ModuleDecl X) Global} {to_VarDecl : VarDecl X → VarDecl X}
    {to_ClassMember : Box (ClassMember X) Global → Box (ClassMember X) Global} → ((n : Box (Function X) Global) → stmt_parts.Function
    (to_Function n) ≡ D (stmt_parts.Function n)) → ((n : Box (Function X) Global) → map_box (map_function (λ x. x) f) n ≡ to_Function n) →
    ((n : Box (Class X) Global) → stmt_parts.Class (to_Class n) ≡ D (stmt_parts.Class n)) → ((n : Box (Class X) Global) → map_box (map_class
    (λ x. x) f) n ≡ to_Class n) → ((n : BlockStmt X) → stmt_parts.BlockStmt (to_BlockStmt n) ≡ D (stmt_parts.BlockStmt n)) → ((n : BlockStmt
    X) → map_block_stmt (λ x. x) f n ≡ to_BlockStmt n) → ((n : Decl X) → stmt_parts.Decl (to_Decl n) ≡ D (stmt_parts.Decl n)) → ((n : Decl
    X) → map_decl (λ x. x) f n ≡ to_Decl n) → ((n : Box (ModuleDecl X) Global) → stmt_parts.ModuleDecl (to_ModuleDecl n) ≡ D
    (stmt_parts.ModuleDecl n)) → ((n : Box (ModuleDecl X) Global) → map_box (map_module_decl (λ x. x) f) n ≡ to_ModuleDecl n) → ((n :
    VarDecl X) → stmt_parts.VarDecl (to_VarDecl n) ≡ D (stmt_parts.VarDecl n)) → ((n : VarDecl X) → map_var_decl (λ x. x) f n ≡ to_VarDecl
    n) → ((n : Box (ClassMember X) Global) → stmt_parts.ClassMember (to_ClassMember n) ≡ D (stmt_parts.ClassMember n)) → ((n : Box
    (ClassMember X) Global) → map_box (map_class_member (λ x. x) f) n ≡ to_ClassMember n) → (n : StmtPart X) → map_stmt_part (λ x. x) f n ≡
    D n
in_stmt_part f D is_Function at_Function is_Class at_Class is_BlockStmt at_BlockStmt is_Decl at_Decl is_ModuleDecl at_ModuleDecl is_VarDecl
    at_VarDecl is_ClassMember at_ClassMember (stmt_parts.Function n) = ap stmt_parts.Function (at_Function n) ∙ is_Function n
in_stmt_part f D is_Function at_Function is_Class at_Class is_BlockStmt at_BlockStmt is_Decl at_Decl is_ModuleDecl at_ModuleDecl is_VarDecl
    at_VarDecl is_ClassMember at_ClassMember (stmt_parts.Class n) = ap stmt_parts.Class (at_Class n) ∙ is_Class n
in_stmt_part f D is_Function at_Function is_Class at_Class is_BlockStmt at_BlockStmt is_Decl at_Decl is_ModuleDecl at_ModuleDecl is_VarDecl
    at_VarDecl is_ClassMember at_ClassMember (stmt_parts.BlockStmt n) = ap stmt_parts.BlockStmt (at_BlockStmt n) ∙ is_BlockStmt n
in_stmt_part f D is_Function at_Function is_Class at_Class is_BlockStmt at_BlockStmt is_Decl at_Decl is_ModuleDecl at_ModuleDecl is_VarDecl
    at_VarDecl is_ClassMember at_ClassMember (stmt_parts.Decl n) = ap stmt_parts.Decl (at_Decl n) ∙ is_Decl n
in_stmt_part f D is_Function at_Function is_Class at_Class is_BlockStmt at_BlockStmt is_Decl at_Decl is_ModuleDecl at_ModuleDecl is_VarDecl
    at_VarDecl is_ClassMember at_ClassMember (stmt_parts.ModuleDecl n) = ap stmt_parts.ModuleDecl (at_ModuleDecl n) ∙ is_ModuleDecl n
in_stmt_part f D is_Function at_Function is_Class at_Class is_BlockStmt at_BlockStmt is_Decl at_Decl is_ModuleDecl at_ModuleDecl is_VarDecl
    at_VarDecl is_ClassMember at_ClassMember (stmt_parts.VarDecl n) = ap stmt_parts.VarDecl (at_VarDecl n) ∙ is_VarDecl n
in_stmt_part f D is_Function at_Function is_Class at_Class is_BlockStmt at_BlockStmt is_Decl at_Decl is_ModuleDecl at_ModuleDecl is_VarDecl
    at_VarDecl is_ClassMember at_ClassMember (stmt_parts.ClassMember n) = ap stmt_parts.ClassMember (at_ClassMember n) ∙ is_ClassMember n

pub in_jsx_part : {X : Type 0} (f : X → X) (D : JSXPart X → JSXPart X)
    {to_JSXElement : Box (JSXElement X) Global → Box (JSXElement X) Global} {to_JSXFragment : JSXFragment X → JSXFragment X}
    {to_JSXObject : JSXObject X → JSXObject X} → ((n : Box (JSXElement X) Global) → jsx_parts.JSXElement (to_JSXElement n) ≡ D
    (jsx_parts.JSXElement n)) → ((n : Box (JSXElement X) Global) → map_box (map_jsx_element (λ x. x) f) n ≡ to_JSXElement n) → ((n :
    JSXFragment X) → jsx_parts.JSXFragment (to_JSXFragment n) ≡ D (jsx_parts.JSXFragment n)) → ((n : JSXFragment X) → map_jsx_fragment (λ x.
    x) f n ≡ to_JSXFragment n) → ((n : JSXObject X) → jsx_parts.JSXObject (to_JSXObject n) ≡ D (jsx_parts.JSXObject n)) → ((n : JSXObject X)
    → map_jsx_object (λ x. x) f n ≡ to_JSXObject n) → (n : JSXPart X) → map_jsx_part (λ x. x) f n ≡ D n
in_jsx_part f D is_JSXElement at_JSXElement is_JSXFragment at_JSXFragment is_JSXObject at_JSXObject (jsx_parts.JSXElement n) = ap
    jsx_parts.JSXElement (at_JSXElement n) ∙ is_JSXElement n
in_jsx_part f D is_JSXElement at_JSXElement is_JSXFragment at_JSXFragment is_JSXObject at_JSXObject (jsx_parts.JSXFragment n) = ap
    jsx_parts.JSXFragment (at_JSXFragment n) ∙ is_JSXFragment n
in_jsx_part f D is_JSXElement at_JSXElement is_JSXFragment at_JSXFragment is_JSXObject at_JSXObject (jsx_parts.JSXObject n) = ap
    jsx_parts.JSXObject (at_JSXObject n) ∙ is_JSXObject n

pub in_ts_part : {X : Type 0} (f : X → X) (D : TsPart X → TsPart X) {to_TsType : TsType X → TsType X}
    {to_TsNamespaceBody : TsNamespaceBody X → TsNamespaceBody X} {to_TsTypeAnn : TsTypeAnn X → TsTypeAnn X}
    {to_TsTypeParamDecl : TsTypeParamDecl X → TsTypeParamDecl X} {to_TsFnParam : TsFnParam X → TsFnParam X}
    {to_TsInterfaceBody : TsInterfaceBody X → TsInterfaceBody X} {to_TsEntityName : TsEntityName X → TsEntityName X} → ((n : TsType X) →
    ts_parts.TsType (to_TsType n) ≡ D (ts_parts.TsType n)) → ((n : TsType X) → map_ts_type (λ x. x) f n ≡ to_TsType n) → ((n :
    TsNamespaceBody X) → ts_parts.TsNamespaceBody (to_TsNamespaceBody n) ≡ D (ts_parts.TsNamespaceBody n)) → ((n : TsNamespaceBody X) →
    map_ts_namespace_body (λ x. x) f n ≡ to_TsNamespaceBody n) → ((n : TsTypeAnn X) → ts_parts.TsTypeAnn (to_TsTypeAnn n) ≡ D
    (ts_parts.TsTypeAnn n)) → ((n : TsTypeAnn X) → map_ts_type_ann (λ x. x) f n ≡ to_TsTypeAnn n) → ((n : TsTypeParamDecl X) →
    ts_parts.TsTypeParamDecl (to_TsTypeParamDecl n) ≡ D (ts_parts.TsTypeParamDecl n)) → ((n : TsTypeParamDecl X) → map_ts_type_param_decl (λ
    x. x) f n ≡ to_TsTypeParamDecl n) → ((n : TsTypeParamInstantiation X) → ts_parts.TsTypeParamInstantiation
    (map_ts_type_param_instantiation (λ x. x) f n) ≡ D (ts_parts.TsTypeParamInstantiation n)) → ((n : TsFnParam X) → ts_parts.TsFnParam
    (to_TsFnParam n) ≡ D (ts_parts.TsFnParam n)) → ((n : TsFnParam X) → map_ts_fn_param (λ x. x) f n ≡ to_TsFnParam n) → ((n :
    TsInterfaceBody X) → ts_parts.TsInterfaceBody (to_TsInterfaceBody n) ≡ D (ts_parts.TsInterfaceBody n)) → ((n : TsInterfaceBody X) →
    map_ts_interface_body (λ x. x) f n ≡ to_TsInterfaceBody n) → ((n : TsEntityName X) → ts_parts.TsEntityName (to_TsEntityName n) ≡ D
    (ts_parts.TsEntityName n)) → ((n : TsEntityName X) → map_ts_entity_name (λ x. x) f n ≡ to_TsEntityName n) → (n : TsPart X) → map_ts_part
    (λ x. x) f n ≡ D n
in_ts_part f D is_TsType at_TsType is_TsNamespaceBody at_TsNamespaceBody is_TsTypeAnn at_TsTypeAnn is_TsTypeParamDecl at_TsTypeParamDecl
    is_TsTypeParamInstantiation is_TsFnParam at_TsFnParam is_TsInterfaceBody at_TsInterfaceBody is_TsEntityName at_TsEntityName
    (ts_parts.TsType n) = ap ts_parts.TsType (at_TsType n) ∙ is_TsType n
in_ts_part f D is_TsType at_TsType is_TsNamespaceBody at_TsNamespaceBody is_TsTypeAnn at_TsTypeAnn is_TsTypeParamDecl at_TsTypeParamDecl
    is_TsTypeParamInstantiation is_TsFnParam at_TsFnParam is_TsInterfaceBody at_TsInterfaceBody is_TsEntityName at_TsEntityName
    (ts_parts.TsNamespaceBody n) = ap ts_parts.TsNamespaceBody (at_TsNamespaceBody n) ∙ is_TsNamespaceBody n
in_ts_part f D is_TsType at_TsType is_TsNamespaceBody at_TsNamespaceBody is_TsTypeAnn at_TsTypeAnn is_TsTypeParamDecl at_TsTypeParamDecl
    is_TsTypeParamInstantiation is_TsFnParam at_TsFnParam is_TsInterfaceBody at_TsInterfaceBody is_TsEntityName at_TsEntityName
    (ts_parts.TsTypeAnn n) = ap ts_parts.TsTypeAnn (at_TsTypeAnn n) ∙ is_TsTypeAnn n
in_ts_part f D is_TsType at_TsType is_TsNamespaceBody at_TsNamespaceBody is_TsTypeAnn at_TsTypeAnn is_TsTypeParamDecl at_TsTypeParamDecl
    is_TsTypeParamInstantiation is_TsFnParam at_TsFnParam is_TsInterfaceBody at_TsInterfaceBody is_TsEntityName at_TsEntityName
    (ts_parts.TsTypeParamDecl n) = ap ts_parts.TsTypeParamDecl (at_TsTypeParamDecl n) ∙ is_TsTypeParamDecl n
in_ts_part f D is_TsType at_TsType is_TsNamespaceBody at_TsNamespaceBody is_TsTypeAnn at_TsTypeAnn is_TsTypeParamDecl at_TsTypeParamDecl
    is_TsTypeParamInstantiation is_TsFnParam at_TsFnParam is_TsInterfaceBody at_TsInterfaceBody is_TsEntityName at_TsEntityName
    (ts_parts.TsTypeParamInstantiation n) = is_TsTypeParamInstantiation n
in_ts_part f D is_TsType at_TsType is_TsNamespaceBody at_TsNamespaceBody is_TsTypeAnn at_TsTypeAnn is_TsTypeParamDecl at_TsTypeParamDecl
    is_TsTypeParamInstantiation is_TsFnParam at_TsFnParam is_TsInterfaceBody at_TsInterfaceBody is_TsEntityName at_TsEntityName
    (ts_parts.TsFnParam n) = ap ts_parts.TsFnParam (at_TsFnParam n) ∙ is_TsFnParam n
in_ts_part f D is_TsType at_TsType is_TsNamespaceBody at_TsNamespaceBody is_TsTypeAnn at_TsTypeAnn is_TsTypeParamDecl at_TsTypeParamDecl
    is_TsTypeParamInstantiation is_TsFnParam at_TsFnParam is_TsInterfaceBody at_TsInterfaceBody is_TsEntityName at_TsEntityName
    (ts_parts.TsInterfaceBody n) = ap ts_parts.TsInterfaceBody (at_TsInterfaceBody n) ∙ is_TsInterfaceBody n
in_ts_part f D is_TsType at_TsType is_TsNamespaceBody at_TsNamespaceBody is_TsTypeAnn at_TsTypeAnn is_TsTypeParamDecl at_TsTypeParamDecl
    is_TsTypeParamInstantiation is_TsFnParam at_TsFnParam is_TsInterfaceBody at_TsInterfaceBody is_TsEntityName at_TsEntityName
    (ts_parts.TsEntityName n) = ap ts_parts.TsEntityName (at_TsEntityName n) ∙ is_TsEntityName n
