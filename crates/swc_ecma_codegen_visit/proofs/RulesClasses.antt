-- Where the map of classes and their members is another map of the same type, with names as they are. Made by scripts/dev/make-visit-files.
use Rattle.std.proofs.Common.{◌≡◌, ap, ◌∙◌, Option}
use Rattle.std.specs.declared.alloc.Global.{Global}
use Rattle.std.specs.declared.vec.Vec.{Vec}
use Rattle.std.specs.formers.vec.Vec.{mapped as vec_mapped}
use Rattle.swc_ecma_codegen_tree.specs.declared.pats.AssignPat.{AssignPat}
use Rattle.swc_ecma_codegen_tree.specs.declared.classes.AutoAccessor.{AutoAccessor}
use Rattle.swc_ecma_codegen_tree.specs.declared.idents.BindingIdent.{BindingIdent}
use Rattle.swc_ecma_codegen_tree.specs.declared.classes.Class.{Class}
use Rattle.swc_ecma_codegen_tree.specs.declared.classes.ClassMember.{ClassMember}
use Rattle.swc_ecma_codegen_tree.specs.declared.classes.ClassMethod.{ClassMethod}
use Rattle.swc_ecma_codegen_tree.specs.declared.classes.ClassProp.{ClassProp}
use Rattle.swc_ecma_codegen_tree.specs.declared.classes.Constructor.{Constructor}
use Rattle.swc_ecma_codegen_tree.specs.declared.stmts.EmptyStmt.{EmptyStmt}
use Rattle.swc_ecma_codegen_tree.specs.declared.classes.Key.{Key}
use Rattle.swc_ecma_codegen_tree.specs.declared.decls.Param.{Param}
use Rattle.swc_ecma_codegen_tree.specs.declared.classes.ParamOrTsParamProp.{ParamOrTsParamProp}
use Rattle.swc_ecma_codegen_tree.specs.declared.classes.PrivateMethod.{PrivateMethod}
use Rattle.swc_ecma_codegen_tree.specs.declared.idents.PrivateName.{PrivateName}
use Rattle.swc_ecma_codegen_tree.specs.declared.classes.PrivateProp.{PrivateProp}
use Rattle.swc_ecma_codegen_tree.specs.declared.classes.StaticBlock.{StaticBlock}
use Rattle.swc_ecma_codegen_tree.specs.declared.ts_decls.TsExprWithTypeArgs.{TsExprWithTypeArgs}
use Rattle.swc_ecma_codegen_tree.specs.declared.ts_members.TsIndexSignature.{TsIndexSignature}
use Rattle.swc_ecma_codegen_tree.specs.declared.classes.TsParamProp.{TsParamProp}
use Rattle.swc_ecma_codegen_tree.specs.declared.classes.TsParamPropParam.{TsParamPropParam}
use Rattle.swc_ecma_codegen_tree.specs.declared.classes.ClassMember.TheVariants as class_members
use Rattle.swc_ecma_codegen_tree.specs.declared.classes.Key.TheVariants as keys
use Rattle.swc_ecma_codegen_tree.specs.declared.classes.ParamOrTsParamProp.TheVariants as param_or_ts_param_props
use Rattle.swc_ecma_codegen_tree.specs.declared.classes.TsParamPropParam.TheVariants as ts_param_prop_params
use Rattle.swc_ecma_codegen_tree.specs.Links.{BlockStmtBox, ExprBox, PropNameBox, TsTypeAnnBox, TsTypeParamDeclBox}
use Rattle.swc_ecma_codegen_tree.specs.Links.{TsTypeParamInstantiationBox}
use Rattle.swc_ecma_codegen_visit.specs.Mapping.{map_link, map_option}
use Rattle.swc_ecma_codegen_visit.specs.MappedIdents.{map_binding_ident}
use Rattle.swc_ecma_codegen_visit.specs.MappedPats.{map_assign_pat}
use Rattle.swc_ecma_codegen_visit.specs.MappedTsTypes.{map_ts_index_signature}
use Rattle.swc_ecma_codegen_visit.specs.MappedTsDecls.{map_ts_expr_with_type_args}
use Rattle.swc_ecma_codegen_visit.specs.MappedDecls.{map_decorator, map_param}
use Rattle.swc_ecma_codegen_visit.specs.MappedClasses.{map_auto_accessor, map_class, map_class_member, map_class_method, map_class_prop}
use Rattle.swc_ecma_codegen_visit.specs.MappedClasses.{map_constructor, map_key, map_param_or_ts_param_prop, map_private_method}
use Rattle.swc_ecma_codegen_visit.specs.MappedClasses.{map_private_prop, map_static_block, map_ts_param_prop, map_ts_param_prop_param}

pub in_class : {X : Type 0} (f : X → X) (D : Class X → Class X) {to_a : Option (ExprBox X) → Option (ExprBox X)}
    {to_b : Option (TsTypeParamDeclBox X) → Option (TsTypeParamDeclBox X)}
    {to_c : Option (TsTypeParamInstantiationBox X) → Option (TsTypeParamInstantiationBox X)}
    {to_d : Vec (TsExprWithTypeArgs X) Global → Vec (TsExprWithTypeArgs X) Global} → ((n : Class X) (a : Option (ExprBox X)) (b : Option
    (TsTypeParamDeclBox X)) (c : Option (TsTypeParamInstantiationBox X)) (d : Vec (TsExprWithTypeArgs X) Global) → record n
    { decorators = vec_mapped (map_decorator (λ x. x) f) n.decorators; body = vec_mapped (map_link f) n.body; super_class = to_a a; type_params = to_b b; super_type_params = to_c c; implements = to_d d }
    ≡ D (record n { super_class = a; type_params = b; super_type_params = c; implements = d })) → ((x : Option (ExprBox X)) → map_option
    (map_link f) x ≡ to_a x) → ((x : Option (TsTypeParamDeclBox X)) → map_option (map_link f) x ≡ to_b x) → ((x : Option
    (TsTypeParamInstantiationBox X)) → map_option (map_link f) x ≡ to_c x) → ((x : Vec (TsExprWithTypeArgs X) Global) → vec_mapped
    (map_ts_expr_with_type_args (λ x. x) f) x ≡ to_d x) → (n : Class X) → map_class (λ x. x) f n ≡ D n
in_class f D is at_a at_b at_c at_d n = (λ i. record n
    { decorators = vec_mapped (map_decorator (λ x. x) f) n.decorators; body = vec_mapped (map_link f) n.body; super_class = at_a n.super_class i; type_params = at_b n.type_params i; super_type_params = at_c n.super_type_params i; implements = at_d n.implements i })
    ∙ is n n.super_class n.type_params n.super_type_params n.implements

pub in_ts_param_prop_param : {X : Type 0} (f : X → X) (D : TsParamPropParam X → TsParamPropParam X)
    {to_Ident : BindingIdent X → BindingIdent X} → ((n : BindingIdent X) → ts_param_prop_params.Ident (to_Ident n) ≡ D
    (ts_param_prop_params.Ident n)) → ((n : BindingIdent X) → map_binding_ident (λ x. x) f n ≡ to_Ident n) → ((n : AssignPat X) →
    ts_param_prop_params.Assign (map_assign_pat (λ x. x) f n) ≡ D (ts_param_prop_params.Assign n)) → (n : TsParamPropParam X) →
    map_ts_param_prop_param (λ x. x) f n ≡ D n
in_ts_param_prop_param f D is_Ident at_Ident is_Assign (ts_param_prop_params.Ident n) = ap ts_param_prop_params.Ident (at_Ident n) ∙
    is_Ident n
in_ts_param_prop_param f D is_Ident at_Ident is_Assign (ts_param_prop_params.Assign n) = is_Assign n

pub in_ts_param_prop : {X : Type 0} (f : X → X) (D : TsParamProp X → TsParamProp X) {to_a : TsParamPropParam X → TsParamPropParam X} → ((n :
    TsParamProp X) (a : TsParamPropParam X) → record n { decorators = vec_mapped (map_decorator (λ x. x) f) n.decorators; param = to_a a } ≡
    D (record n { param = a })) → ((x : TsParamPropParam X) → map_ts_param_prop_param (λ x. x) f x ≡ to_a x) → (n : TsParamProp X) →
    map_ts_param_prop (λ x. x) f n ≡ D n
in_ts_param_prop f D is at_a n = (λ i. record n { decorators = vec_mapped (map_decorator (λ x. x) f) n.decorators; param = at_a n.param i })
    ∙ is n n.param

pub in_param_or_ts_param_prop : {X : Type 0} (f : X → X) (D : ParamOrTsParamProp X → ParamOrTsParamProp X)
    {to_TsParamProp : TsParamProp X → TsParamProp X} {to_Param : Param X → Param X} → ((n : TsParamProp X) →
    param_or_ts_param_props.TsParamProp (to_TsParamProp n) ≡ D (param_or_ts_param_props.TsParamProp n)) → ((n : TsParamProp X) →
    map_ts_param_prop (λ x. x) f n ≡ to_TsParamProp n) → ((n : Param X) → param_or_ts_param_props.Param (to_Param n) ≡ D
    (param_or_ts_param_props.Param n)) → ((n : Param X) → map_param (λ x. x) f n ≡ to_Param n) → (n : ParamOrTsParamProp X) →
    map_param_or_ts_param_prop (λ x. x) f n ≡ D n
in_param_or_ts_param_prop f D is_TsParamProp at_TsParamProp is_Param at_Param (param_or_ts_param_props.TsParamProp n) = ap
    param_or_ts_param_props.TsParamProp (at_TsParamProp n) ∙ is_TsParamProp n
in_param_or_ts_param_prop f D is_TsParamProp at_TsParamProp is_Param at_Param (param_or_ts_param_props.Param n) = ap
    param_or_ts_param_props.Param (at_Param n) ∙ is_Param n

pub in_constructor : {X : Type 0} (f : X → X) (D : Constructor X → Constructor X)
    {to_a : Vec (ParamOrTsParamProp X) Global → Vec (ParamOrTsParamProp X) Global}
    {to_b : Option (BlockStmtBox X) → Option (BlockStmtBox X)} → ((n : Constructor X) (a : Vec (ParamOrTsParamProp X) Global) (b : Option
    (BlockStmtBox X)) → record n { params = to_a a; body = to_b b } ≡ D (record n { params = a; body = b })) → ((x : Vec (ParamOrTsParamProp
    X) Global) → vec_mapped (map_param_or_ts_param_prop (λ x. x) f) x ≡ to_a x) → ((x : Option (BlockStmtBox X)) → map_option (map_link f) x
    ≡ to_b x) → (n : Constructor X) → map_constructor (λ x. x) f n ≡ D n
in_constructor f D is at_a at_b n = (λ i. record n { params = at_a n.params i; body = at_b n.body i }) ∙ is n n.params n.body

pub in_class_prop : {X : Type 0} (f : X → X) (D : ClassProp X → ClassProp X) {to_a : Option (ExprBox X) → Option (ExprBox X)}
    {to_b : Option (TsTypeAnnBox X) → Option (TsTypeAnnBox X)} → ((n : ClassProp X) (a : Option (ExprBox X)) (b : Option (TsTypeAnnBox X)) →
    record n { key = map_link f n.key; value = to_a a; type_ann = to_b b; decorators = vec_mapped (map_decorator (λ x. x) f) n.decorators }
    ≡ D (record n { value = a; type_ann = b })) → ((x : Option (ExprBox X)) → map_option (map_link f) x ≡ to_a x) → ((x : Option
    (TsTypeAnnBox X)) → map_option (map_link f) x ≡ to_b x) → (n : ClassProp X) → map_class_prop (λ x. x) f n ≡ D n
in_class_prop f D is at_a at_b n = (λ i. record n
    { key = map_link f n.key; value = at_a n.value i; type_ann = at_b n.type_ann i; decorators = vec_mapped (map_decorator (λ x. x) f) n.decorators })
    ∙ is n n.value n.type_ann

pub in_private_prop : {X : Type 0} (f : X → X) (D : PrivateProp X → PrivateProp X) {to_a : Option (ExprBox X) → Option (ExprBox X)}
    {to_b : Option (TsTypeAnnBox X) → Option (TsTypeAnnBox X)} → ((n : PrivateProp X) (a : Option (ExprBox X)) (b : Option (TsTypeAnnBox X))
    → record n { value = to_a a; type_ann = to_b b; decorators = vec_mapped (map_decorator (λ x. x) f) n.decorators } ≡ D (record n
    { value = a; type_ann = b })) → ((x : Option (ExprBox X)) → map_option (map_link f) x ≡ to_a x) → ((x : Option (TsTypeAnnBox X)) →
    map_option (map_link f) x ≡ to_b x) → (n : PrivateProp X) → map_private_prop (λ x. x) f n ≡ D n
in_private_prop f D is at_a at_b n = (λ i. record n
    { value = at_a n.value i; type_ann = at_b n.type_ann i; decorators = vec_mapped (map_decorator (λ x. x) f) n.decorators }) ∙ is n
    n.value n.type_ann

pub in_key : {X : Type 0} (f : X → X) (D : Key X → Key X) → ((n : PrivateName) → keys.Private n ≡ D (keys.Private n)) → ((n : PropNameBox X)
    → keys.Public (map_link f n) ≡ D (keys.Public n)) → (n : Key X) → map_key (λ x. x) f n ≡ D n
in_key f D is_Private is_Public (keys.Private n) = is_Private n
in_key f D is_Private is_Public (keys.Public n) = is_Public n

pub in_auto_accessor : {X : Type 0} (f : X → X) (D : AutoAccessor X → AutoAccessor X) {to_a : Key X → Key X}
    {to_b : Option (ExprBox X) → Option (ExprBox X)} {to_c : Option (TsTypeAnnBox X) → Option (TsTypeAnnBox X)} → ((n : AutoAccessor X) (a :
    Key X) (b : Option (ExprBox X)) (c : Option (TsTypeAnnBox X)) → record n
    { key = to_a a; value = to_b b; type_ann = to_c c; decorators = vec_mapped (map_decorator (λ x. x) f) n.decorators } ≡ D (record n
    { key = a; value = b; type_ann = c })) → ((x : Key X) → map_key (λ x. x) f x ≡ to_a x) → ((x : Option (ExprBox X)) → map_option
    (map_link f) x ≡ to_b x) → ((x : Option (TsTypeAnnBox X)) → map_option (map_link f) x ≡ to_c x) → (n : AutoAccessor X) →
    map_auto_accessor (λ x. x) f n ≡ D n
in_auto_accessor f D is at_a at_b at_c n = (λ i. record n
    { key = at_a n.key i; value = at_b n.value i; type_ann = at_c n.type_ann i; decorators = vec_mapped (map_decorator (λ x. x) f) n.decorators })
    ∙ is n n.key n.value n.type_ann

pub in_class_member : {X : Type 0} (f : X → X) (D : ClassMember X → ClassMember X) {to_Constructor : Constructor X → Constructor X}
    {to_ClassProp : ClassProp X → ClassProp X} {to_PrivateProp : PrivateProp X → PrivateProp X}
    {to_TsIndexSignature : TsIndexSignature X → TsIndexSignature X} {to_AutoAccessor : AutoAccessor X → AutoAccessor X} → ((n : Constructor
    X) → class_members.Constructor (to_Constructor n) ≡ D (class_members.Constructor n)) → ((n : Constructor X) → map_constructor (λ x. x) f
    n ≡ to_Constructor n) → ((n : ClassMethod X) → class_members.Method (map_class_method (λ x. x) f n) ≡ D (class_members.Method n)) → ((n
    : PrivateMethod X) → class_members.PrivateMethod (map_private_method (λ x. x) f n) ≡ D (class_members.PrivateMethod n)) → ((n :
    ClassProp X) → class_members.ClassProp (to_ClassProp n) ≡ D (class_members.ClassProp n)) → ((n : ClassProp X) → map_class_prop (λ x. x)
    f n ≡ to_ClassProp n) → ((n : PrivateProp X) → class_members.PrivateProp (to_PrivateProp n) ≡ D (class_members.PrivateProp n)) → ((n :
    PrivateProp X) → map_private_prop (λ x. x) f n ≡ to_PrivateProp n) → ((n : TsIndexSignature X) → class_members.TsIndexSignature
    (to_TsIndexSignature n) ≡ D (class_members.TsIndexSignature n)) → ((n : TsIndexSignature X) → map_ts_index_signature (λ x. x) f n ≡
    to_TsIndexSignature n) → ((n : EmptyStmt) → class_members.Empty n ≡ D (class_members.Empty n)) → ((n : StaticBlock X) →
    class_members.StaticBlock (map_static_block (λ x. x) f n) ≡ D (class_members.StaticBlock n)) → ((n : AutoAccessor X) →
    class_members.AutoAccessor (to_AutoAccessor n) ≡ D (class_members.AutoAccessor n)) → ((n : AutoAccessor X) → map_auto_accessor (λ x. x)
    f n ≡ to_AutoAccessor n) → (n : ClassMember X) → map_class_member (λ x. x) f n ≡ D n
in_class_member f D is_Constructor at_Constructor is_Method is_PrivateMethod is_ClassProp at_ClassProp is_PrivateProp at_PrivateProp
    is_TsIndexSignature at_TsIndexSignature is_Empty is_StaticBlock is_AutoAccessor at_AutoAccessor (class_members.Constructor n) = ap
    class_members.Constructor (at_Constructor n) ∙ is_Constructor n
in_class_member f D is_Constructor at_Constructor is_Method is_PrivateMethod is_ClassProp at_ClassProp is_PrivateProp at_PrivateProp
    is_TsIndexSignature at_TsIndexSignature is_Empty is_StaticBlock is_AutoAccessor at_AutoAccessor (class_members.Method n) = is_Method n
in_class_member f D is_Constructor at_Constructor is_Method is_PrivateMethod is_ClassProp at_ClassProp is_PrivateProp at_PrivateProp
    is_TsIndexSignature at_TsIndexSignature is_Empty is_StaticBlock is_AutoAccessor at_AutoAccessor (class_members.PrivateMethod n) =
    is_PrivateMethod n
in_class_member f D is_Constructor at_Constructor is_Method is_PrivateMethod is_ClassProp at_ClassProp is_PrivateProp at_PrivateProp
    is_TsIndexSignature at_TsIndexSignature is_Empty is_StaticBlock is_AutoAccessor at_AutoAccessor (class_members.ClassProp n) = ap
    class_members.ClassProp (at_ClassProp n) ∙ is_ClassProp n
in_class_member f D is_Constructor at_Constructor is_Method is_PrivateMethod is_ClassProp at_ClassProp is_PrivateProp at_PrivateProp
    is_TsIndexSignature at_TsIndexSignature is_Empty is_StaticBlock is_AutoAccessor at_AutoAccessor (class_members.PrivateProp n) = ap
    class_members.PrivateProp (at_PrivateProp n) ∙ is_PrivateProp n
in_class_member f D is_Constructor at_Constructor is_Method is_PrivateMethod is_ClassProp at_ClassProp is_PrivateProp at_PrivateProp
    is_TsIndexSignature at_TsIndexSignature is_Empty is_StaticBlock is_AutoAccessor at_AutoAccessor (class_members.TsIndexSignature n) = ap
    class_members.TsIndexSignature (at_TsIndexSignature n) ∙ is_TsIndexSignature n
in_class_member f D is_Constructor at_Constructor is_Method is_PrivateMethod is_ClassProp at_ClassProp is_PrivateProp at_PrivateProp
    is_TsIndexSignature at_TsIndexSignature is_Empty is_StaticBlock is_AutoAccessor at_AutoAccessor (class_members.Empty n) = is_Empty n
in_class_member f D is_Constructor at_Constructor is_Method is_PrivateMethod is_ClassProp at_ClassProp is_PrivateProp at_PrivateProp
    is_TsIndexSignature at_TsIndexSignature is_Empty is_StaticBlock is_AutoAccessor at_AutoAccessor (class_members.StaticBlock n) =
    is_StaticBlock n
in_class_member f D is_Constructor at_Constructor is_Method is_PrivateMethod is_ClassProp at_ClassProp is_PrivateProp at_PrivateProp
    is_TsIndexSignature at_TsIndexSignature is_Empty is_StaticBlock is_AutoAccessor at_AutoAccessor (class_members.AutoAccessor n) = ap
    class_members.AutoAccessor (at_AutoAccessor n) ∙ is_AutoAccessor n
