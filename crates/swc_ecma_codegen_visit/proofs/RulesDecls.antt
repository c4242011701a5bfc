-- Where the map of declarations and functions is another map of the same type, with names as they are. Made by scripts/dev/make-visit-files.
use Rattle.std.proofs.Common.{◌≡◌, ap, ◌∙◌, Option}
use Rattle.std.specs.Prelude.{Box}
use Rattle.std.specs.declared.alloc.Global.{Global}
use Rattle.std.specs.declared.vec.Vec.{Vec}
use Rattle.std.specs.formers.vec.Vec.{mapped as vec_mapped}
use Rattle.swc_ecma_codegen_tree.specs.declared.decls.ClassDecl.{ClassDecl}
use Rattle.swc_ecma_codegen_tree.specs.declared.decls.Decl.{Decl}
use Rattle.swc_ecma_codegen_tree.specs.declared.decls.FnDecl.{FnDecl}
use Rattle.swc_ecma_codegen_tree.specs.declared.decls.Function.{Function}
use Rattle.swc_ecma_codegen_tree.specs.declared.decls.Param.{Param}
use Rattle.swc_ecma_codegen_tree.specs.declared.pats.Pat.{Pat}
use Rattle.swc_ecma_codegen_tree.specs.declared.ts_decls.TsEnumDecl.{TsEnumDecl}
use Rattle.swc_ecma_codegen_tree.specs.declared.ts_decls.TsInterfaceDecl.{TsInterfaceDecl}
use Rattle.swc_ecma_codegen_tree.specs.declared.ts_decls.TsModuleDecl.{TsModuleDecl}
use Rattle.swc_ecma_codegen_tree.specs.declared.ts_decls.TsTypeAliasDecl.{TsTypeAliasDecl}
use Rattle.swc_ecma_codegen_tree.specs.declared.decls.UsingDecl.{UsingDecl}
use Rattle.swc_ecma_codegen_tree.specs.declared.decls.VarDecl.{VarDecl}
use Rattle.swc_ecma_codegen_tree.specs.declared.decls.VarDeclarator.{VarDeclarator}
use Rattle.swc_ecma_codegen_tree.specs.declared.decls.Decl.TheVariants as decls
use Rattle.swc_ecma_codegen_tree.specs.Links.{BlockStmtBox, ExprBox, TsTypeAnnBox, TsTypeParamDeclBox}
use Rattle.swc_ecma_codegen_visit.specs.Mapping.{map_box, map_link, map_option}
use Rattle.swc_ecma_codegen_visit.specs.MappedPats.{map_pat}
use Rattle.swc_ecma_codegen_visit.specs.MappedTsDecls.{map_ts_enum_decl, map_ts_interface_decl, map_ts_module_decl, map_ts_type_alias_decl}
use Rattle.swc_ecma_codegen_visit.specs.MappedDecls.{map_class_decl, map_decl, map_decorator, map_fn_decl, map_function, map_param}
use Rattle.swc_ecma_codegen_visit.specs.MappedDecls.{map_using_decl, map_var_decl, map_var_declarator}

pub in_param : {X : Type 0} (f : X → X) (D : Param X → Param X) {to_a : Pat X → Pat X} → ((n : Param X) (a : Pat X) → record n
    { decorators = vec_mapped (map_decorator (λ x. x) f) n.decorators; pat = to_a a } ≡ D (record n { pat = a })) → ((x : Pat X) → map_pat
    (λ x. x) f x ≡ to_a x) → (n : Param X) → map_param (λ x. x) f n ≡ D n
in_param f D is at_a n = (λ i. record n { decorators = vec_mapped (map_decorator (λ x. x) f) n.decorators; pat = at_a n.pat i }) ∙ is n
    n.pat

pub in_var_declarator : {X : Type 0} (f : X → X) (D : VarDeclarator X → VarDeclarator X) {to_a : Pat X → Pat X}
    {to_b : Option (ExprBox X) → Option (ExprBox X)} → ((n : VarDeclarator X) (a : Pat X) (b : Option (ExprBox X)) → record n
    { name = to_a a; init = to_b b } ≡ D (record n { name = a; init = b })) → ((x : Pat X) → map_pat (λ x. x) f x ≡ to_a x) → ((x : Option
    (ExprBox X)) → map_option (map_link f) x ≡ to_b x) → (n : VarDeclarator X) → map_var_declarator (λ x. x) f n ≡ D n
in_var_declarator f D is at_a at_b n = (λ i. record n { name = at_a n.name i; init = at_b n.init i }) ∙ is n n.name n.init

pub in_var_decl : {X : Type 0} (f : X → X) (D : VarDecl X → VarDecl X) {to_a : Vec (VarDeclarator X) Global → Vec (VarDeclarator X) Global}
    → ((n : VarDecl X) (a : Vec (VarDeclarator X) Global) → record n { decls = to_a a } ≡ D (record n { decls = a })) → ((x : Vec
    (VarDeclarator X) Global) → vec_mapped (map_var_declarator (λ x. x) f) x ≡ to_a x) → (n : VarDecl X) → map_var_decl (λ x. x) f n ≡ D n
in_var_decl f D is at_a n = (λ i. record n { decls = at_a n.decls i }) ∙ is n n.decls

pub in_using_decl : {X : Type 0} (f : X → X) (D : UsingDecl X → UsingDecl X)
    {to_a : Vec (VarDeclarator X) Global → Vec (VarDeclarator X) Global} → ((n : UsingDecl X) (a : Vec (VarDeclarator X) Global) → record n
    { decls = to_a a } ≡ D (record n { decls = a })) → ((x : Vec (VarDeclarator X) Global) → vec_mapped (map_var_declarator (λ x. x) f) x ≡
    to_a x) → (n : UsingDecl X) → map_using_decl (λ x. x) f n ≡ D n
in_using_decl f D is at_a n = (λ i. record n { decls = at_a n.decls i }) ∙ is n n.decls

pub in_decl : {X : Type 0} (f : X → X) (D : Decl X → Decl X) {to_Var : VarDecl X → VarDecl X} {to_Using : UsingDecl X → UsingDecl X}
    {to_TsInterface : Box (TsInterfaceDecl X) Global → Box (TsInterfaceDecl X) Global}
    {to_TsTypeAlias : Box (TsTypeAliasDecl X) Global → Box (TsTypeAliasDecl X) Global}
    {to_TsEnum : Box (TsEnumDecl X) Global → Box (TsEnumDecl X) Global}
    {to_TsModule : Box (TsModuleDecl X) Global → Box (TsModuleDecl X) Global} → ((n : ClassDecl X) → decls.Class (map_class_decl (λ x. x) f
    n) ≡ D (decls.Class n)) → ((n : FnDecl X) → decls.Fn (map_fn_decl (λ x. x) f n) ≡ D (decls.Fn n)) → ((n : VarDecl X) → decls.Var (to_Var
    n) ≡ D (decls.Var n)) → ((n : VarDecl X) → map_var_decl (λ x. x) f n ≡ to_Var n) → ((n : UsingDecl X) → decls.Using (to_Using n) ≡ D
    (decls.Using n)) → ((n : UsingDecl X) → map_using_decl (λ x. x) f n ≡ to_Using n) → ((n : Box (TsInterfaceDecl X) Global) →
    decls.TsInterface (to_TsInterface n) ≡ D (decls.TsInterface n)) → ((n : Box (TsInterfaceDecl X) Global) → map_box (map_ts_interface_decl
    (λ x. x) f) n ≡ to_TsInterface n) → ((n : Box (TsTypeAliasDecl X) Global) → decls.TsTypeAlias (to_TsTypeAlias n) ≡ D (decls.TsTypeAlias
    n)) → ((n : Box (TsTypeAliasDecl X) Global) → map_box (map_ts_type_alias_decl (λ x. x) f) n ≡ to_TsTypeAlias n) → ((n : Box (TsEnumDecl
    X) Global) → decls.TsEnum (to_TsEnum n) ≡ D (decls.TsEnum n)) → ((n : Box (TsEnumDecl X) Global) → map_box (map_ts_enum_decl (λ x. x) f)
    n ≡ to_TsEnum n) → ((n : Box (TsModuleDecl X) Global) → decls.TsModule (to_TsModule n) ≡ D (decls.TsModule n)) → ((n : Box (TsModuleDecl
    X) Global) → map_box (map_ts_module_decl (λ x. x) f) n ≡ to_TsModule n) → (n : Decl X) → map_decl (λ x. x) f n ≡ D n
in_decl f D is_Class is_Fn is_Var at_Var is_Using at_Using is_TsInterface at_TsInterface is_TsTypeAlias at_TsTypeAlias is_TsEnum at_TsEnum
    is_TsModule at_TsModule (decls.Class n) = is_Class n
in_decl f D is_Class is_Fn is_Var at_Var is_Using at_Using is_TsInterface at_TsInterface is_TsTypeAlias at_TsTypeAlias is_TsEnum at_TsEnum
    is_TsModule at_TsModule (decls.Fn n) = is_Fn n
in_decl f D is_Class is_Fn is_Var at_Var is_Using at_Using is_TsInterface at_TsInterface is_TsTypeAlias at_TsTypeAlias is_TsEnum at_TsEnum
    is_TsModule at_TsModule (decls.Var n) = ap decls.Var (at_Var n) ∙ is_Var n
in_decl f D is_Class is_Fn is_Var at_Var is_Using at_Using is_TsInterface at_TsInterface is_TsTypeAlias at_TsTypeAlias is_TsEnum at_TsEnum
    is_TsModule at_TsModule (decls.Using n) = ap decls.Using (at_Using n) ∙ is_Using n
in_decl f D is_Class is_Fn is_Var at_Var is_Using at_Using is_TsInterface at_TsInterface is_TsTypeAlias at_TsTypeAlias is_TsEnum at_TsEnum
    is_TsModule at_TsModule (decls.TsInterface n) = ap decls.TsInterface (at_TsInterface n) ∙ is_TsInterface n
in_decl f D is_Class is_Fn is_Var at_Var is_Using at_Using is_TsInterface at_TsInterface is_TsTypeAlias at_TsTypeAlias is_TsEnum at_TsEnum
    is_TsModule at_TsModule (decls.TsTypeAlias n) = ap decls.TsTypeAlias (at_TsTypeAlias n) ∙ is_TsTypeAlias n
in_decl f D is_Class is_Fn is_Var at_Var is_Using at_Using is_TsInterface at_TsInterface is_TsTypeAlias at_TsTypeAlias is_TsEnum at_TsEnum
    is_TsModule at_TsModule (decls.TsEnum n) = ap decls.TsEnum (at_TsEnum n) ∙ is_TsEnum n
in_decl f D is_Class is_Fn is_Var at_Var is_Using at_Using is_TsInterface at_TsInterface is_TsTypeAlias at_TsTypeAlias is_TsEnum at_TsEnum
    is_TsModule at_TsModule (decls.TsModule n) = ap decls.TsModule (at_TsModule n) ∙ is_TsModule n

pub in_function : {X : Type 0} (f : X → X) (D : Function X → Function X) {to_a : Vec (Param X) Global → Vec (Param X) Global}
    {to_b : Option (BlockStmtBox X) → Option (BlockStmtBox X)} {to_c : Option (TsTypeParamDeclBox X) → Option (TsTypeParamDeclBox X)}
    {to_d : Option (TsTypeAnnBox X) → Option (TsTypeAnnBox X)} → ((n : Function X) (a : Vec (Param X) Global) (b : Option (BlockStmtBox X))
    (c : Option (TsTypeParamDeclBox X)) (d : Option (TsTypeAnnBox X)) → record n
    { params = to_a a; decorators = vec_mapped (map_decorator (λ x. x) f) n.decorators; body = to_b b; type_params = to_c c; return_type = to_d d }
    ≡ D (record n { params = a; body = b; type_params = c; return_type = d })) → ((x : Vec (Param X) Global) → vec_mapped (map_param (λ x.
    x) f) x ≡ to_a x) → ((x : Option (BlockStmtBox X)) → map_option (map_link f) x ≡ to_b x) → ((x : Option (TsTypeParamDeclBox X)) →
    map_option (map_link f) x ≡ to_c x) → ((x : Option (TsTypeAnnBox X)) → map_option (map_link f) x ≡ to_d x) → (n : Function X) →
    map_function (λ x. x) f n ≡ D n
in_function f D is at_a at_b at_c at_d n = (λ i. record n
    { params = at_a n.params i; decorators = vec_mapped (map_decorator (λ x. x) f) n.decorators; body = at_b n.body i; type_params = at_c n.type_params i; return_type = at_d n.return_type i })
    ∙ is n n.params n.body n.type_params n.return_type
