-- One map of classes and their members behind another is one map. Made by scripts/dev/make-visit-files.
use Rattle.std.proofs.Common.{◌≡◌, refl, ap}
use Rattle.swc_ecma_codegen_tree.specs.declared.classes.AutoAccessor.{AutoAccessor}
use Rattle.swc_ecma_codegen_tree.specs.declared.classes.Class.{Class}
use Rattle.swc_ecma_codegen_tree.specs.declared.classes.ClassMember.{ClassMember}
use Rattle.swc_ecma_codegen_tree.specs.declared.classes.ClassProp.{ClassProp}
use Rattle.swc_ecma_codegen_tree.specs.declared.classes.Constructor.{Constructor}
use Rattle.swc_ecma_codegen_tree.specs.declared.idents.Ident.{Ident}
use Rattle.swc_ecma_codegen_tree.specs.declared.classes.Key.{Key}
use Rattle.swc_ecma_codegen_tree.specs.declared.classes.ParamOrTsParamProp.{ParamOrTsParamProp}
use Rattle.swc_ecma_codegen_tree.specs.declared.classes.PrivateProp.{PrivateProp}
use Rattle.swc_ecma_codegen_tree.specs.declared.classes.TsParamProp.{TsParamProp}
use Rattle.swc_ecma_codegen_tree.specs.declared.classes.TsParamPropParam.{TsParamPropParam}
use Rattle.swc_ecma_codegen_tree.specs.declared.classes.ClassMember.TheVariants as class_members
use Rattle.swc_ecma_codegen_tree.specs.declared.classes.Key.TheVariants as keys
use Rattle.swc_ecma_codegen_tree.specs.declared.classes.ParamOrTsParamProp.TheVariants as param_or_ts_param_props
use Rattle.swc_ecma_codegen_tree.specs.declared.classes.TsParamPropParam.TheVariants as ts_param_prop_params
use Rattle.swc_ecma_codegen_visit.specs.Mapping.{map_link}
use Rattle.swc_ecma_codegen_visit.specs.MappedTsDecls.{map_ts_expr_with_type_args}
use Rattle.swc_ecma_codegen_visit.specs.MappedDecls.{map_decorator}
use Rattle.swc_ecma_codegen_visit.specs.MappedClasses.{map_auto_accessor, map_class, map_class_member, map_class_prop, map_constructor}
use Rattle.swc_ecma_codegen_visit.specs.MappedClasses.{map_key, map_param_or_ts_param_prop, map_private_prop, map_ts_param_prop}
use Rattle.swc_ecma_codegen_visit.specs.MappedClasses.{map_ts_param_prop_param}
use Rattle.swc_ecma_codegen_visit.proofs.Fused.{option_fused, vec_fused}
use Rattle.swc_ecma_codegen_visit.proofs.FusedIdents.{fused_binding_ident}
use Rattle.swc_ecma_codegen_visit.proofs.FusedTsTypes.{fused_ts_index_signature}
use Rattle.swc_ecma_codegen_visit.proofs.FusedTsDecls.{fused_ts_expr_with_type_args}
use Rattle.swc_ecma_codegen_visit.proofs.FusedDecls.{fused_param}

pub fused_class : {X : Type 0} (g h : Ident → Ident) (f k : X → X) (n : Class X) → map_class g f (map_class h k n) ≡ map_class (λ x. g (h
    x)) (λ x. f (k x)) n
fused_class g h f k n = λ i. record n {
  decorators = (vec_fused (map_decorator g f) (map_decorator h k) (map_decorator (λ x. g (h x)) (λ x. f (k x))) (λ x. refl)) n.decorators i;
  body = (vec_fused (map_link f) (map_link k) (map_link (λ x. f (k x))) (λ x. refl)) n.body i;
  super_class = (option_fused (map_link f) (map_link k) (map_link (λ x. f (k x))) (λ x. refl)) n.super_class i;
  type_params = (option_fused (map_link f) (map_link k) (map_link (λ x. f (k x))) (λ x. refl)) n.type_params i;
  super_type_params = (option_fused (map_link f) (map_link k) (map_link (λ x. f (k x))) (λ x. refl)) n.super_type_params i;
  implements = (vec_fused (map_ts_expr_with_type_args g f) (map_ts_expr_with_type_args h k) (map_ts_expr_with_type_args (λ x. g (h x)) (λ x. f (k x))) (fused_ts_expr_with_type_args g h f k)) n.implements i;
}

pub fused_ts_param_prop_param : {X : Type 0} (g h : Ident → Ident) (f k : X → X) (n : TsParamPropParam X) → map_ts_param_prop_param g f
    (map_ts_param_prop_param h k n) ≡ map_ts_param_prop_param (λ x. g (h x)) (λ x. f (k x)) n
fused_ts_param_prop_param g h f k (ts_param_prop_params.Ident n) = ap ts_param_prop_params.Ident ((fused_binding_ident g h f k) n)
fused_ts_param_prop_param g h f k (ts_param_prop_params.Assign n) = refl

pub fused_ts_param_prop : {X : Type 0} (g h : Ident → Ident) (f k : X → X) (n : TsParamProp X) → map_ts_param_prop g f (map_ts_param_prop h
    k n) ≡ map_ts_param_prop (λ x. g (h x)) (λ x. f (k x)) n
fused_ts_param_prop g h f k n = λ i. record n {
  decorators = (vec_fused (map_decorator g f) (map_decorator h k) (map_decorator (λ x. g (h x)) (λ x. f (k x))) (λ x. refl)) n.decorators i;
  param = (fused_ts_param_prop_param g h f k) n.param i;
}

pub fused_param_or_ts_param_prop : {X : Type 0} (g h : Ident → Ident) (f k : X → X) (n : ParamOrTsParamProp X) → map_param_or_ts_param_prop
    g f (map_param_or_ts_param_prop h k n) ≡ map_param_or_ts_param_prop (λ x. g (h x)) (λ x. f (k x)) n
fused_param_or_ts_param_prop g h f k (param_or_ts_param_props.TsParamProp n) = ap param_or_ts_param_props.TsParamProp ((fused_ts_param_prop
    g h f k) n)
fused_param_or_ts_param_prop g h f k (param_or_ts_param_props.Param n) = ap param_or_ts_param_props.Param ((fused_param g h f k) n)

pub fused_constructor : {X : Type 0} (g h : Ident → Ident) (f k : X → X) (n : Constructor X) → map_constructor g f (map_constructor h k n) ≡
    map_constructor (λ x. g (h x)) (λ x. f (k x)) n
fused_constructor g h f k n = λ i. record n {
  params = (vec_fused (map_param_or_ts_param_prop g f) (map_param_or_ts_param_prop h k) (map_param_or_ts_param_prop (λ x. g (h x)) (λ x. f (k x))) (fused_param_or_ts_param_prop g h f k)) n.params i;
  body = (option_fused (map_link f) (map_link k) (map_link (λ x. f (k x))) (λ x. refl)) n.body i;
}

pub fused_class_prop : {X : Type 0} (g h : Ident → Ident) (f k : X → X) (n : ClassProp X) → map_class_prop g f (map_class_prop h k n) ≡
    map_class_prop (λ x. g (h x)) (λ x. f (k x)) n
fused_class_prop g h f k n = λ i. record n {
  key = map_link (λ x. f (k x)) n.key;
  value = (option_fused (map_link f) (map_link k) (map_link (λ x. f (k x))) (λ x. refl)) n.value i;
  type_ann = (option_fused (map_link f) (map_link k) (map_link (λ x. f (k x))) (λ x. refl)) n.type_ann i;
  decorators = (vec_fused (map_decorator g f) (map_decorator h k) (map_decorator (λ x. g (h x)) (λ x. f (k x))) (λ x. refl)) n.decorators i;
}

pub fused_private_prop : {X : Type 0} (g h : Ident → Ident) (f k : X → X) (n : PrivateProp X) → map_private_prop g f (map_private_prop h k
    n) ≡ map_private_prop (λ x. g (h x)) (λ x. f (k x)) n
fused_private_prop g h f k n = λ i. record n {
  value = (option_fused (map_link f) (map_link k) (map_link (λ x. f (k x))) (λ x. refl)) n.value i;
  type_ann = (option_fused (map_link f) (map_link k) (map_link (λ x. f (k x))) (λ x. refl)) n.type_ann i;
  decorators = (vec_fused (map_decorator g f) (map_decorator h k) (map_decorator (λ x. g (h x)) (λ x. f (k x))) (λ x. refl)) n.decorators i;
}

pub fused_key : {X : Type 0} (g h : Ident → Ident) (f k : X → X) (n : Key X) → map_key g f (map_key h k n) ≡ map_key (λ x. g (h x)) (λ x. f
    (k x)) n
fused_key g h f k (keys.Private n) = refl
fused_key g h f k (keys.Public n) = refl

pub fused_auto_accessor : {X : Type 0} (g h : Ident → Ident) (f k : X → X) (n : AutoAccessor X) → map_auto_accessor g f (map_auto_accessor h
    k n) ≡ map_auto_accessor (λ x. g (h x)) (λ x. f (k x)) n
fused_auto_accessor g h f k n = λ i. record n {
  key = (fused_key g h f k) n.key i;
  value = (option_fused (map_link f) (map_link k) (map_link (λ x. f (k x))) (λ x. refl)) n.value i;
  type_ann = (option_fused (map_link f) (map_link k) (map_link (λ x. f (k x))) (λ x. refl)) n.type_ann i;
  decorators = (vec_fused (map_decorator g f) (map_decorator h k) (map_decorator (λ x. g (h x)) (λ x. f (k x))) (λ x. refl)) n.decorators i;
}

pub fused_class_member : {X : Type 0} (g h : Ident → Ident) (f k : X → X) (n : ClassMember X) → map_class_member g f (map_class_member h k
    n) ≡ map_class_member (λ x. g (h x)) (λ x. f (k x)) n
fused_class_member g h f k (class_members.Constructor n) = ap class_members.Constructor ((fused_constructor g h f k) n)
fused_class_member g h f k (class_members.Method n) = refl
fused_class_member g h f k (class_members.PrivateMethod n) = refl
fused_class_member g h f k (class_members.ClassProp n) = ap class_members.ClassProp ((fused_class_prop g h f k) n)
fused_class_member g h f k (class_members.PrivateProp n) = ap class_members.PrivateProp ((fused_private_prop g h f k) n)
fused_class_member g h f k (class_members.TsIndexSignature n) = ap class_members.TsIndexSignature ((fused_ts_index_signature g h f k) n)
fused_class_member g h f k (class_members.Empty n) = refl
fused_class_member g h f k (class_members.StaticBlock n) = refl
fused_class_member g h f k (class_members.AutoAccessor n) = ap class_members.AutoAccessor ((fused_auto_accessor g h f k) n)
