-- Maps of classes and their members: of each type, over names and what links hold as something else. Made by scripts/dev/make-visit-files.
use Rattle.std.specs.formers.vec.Vec.{mapped as vec_mapped}
use Rattle.swc_ecma_codegen_tree.specs.declared.classes.AutoAccessor.{AutoAccessor}
use Rattle.swc_ecma_codegen_tree.specs.declared.classes.Class.{Class}
use Rattle.swc_ecma_codegen_tree.specs.declared.classes.ClassMember.{ClassMember}
use Rattle.swc_ecma_codegen_tree.specs.declared.classes.ClassMethod.{ClassMethod}
use Rattle.swc_ecma_codegen_tree.specs.declared.classes.ClassProp.{ClassProp}
use Rattle.swc_ecma_codegen_tree.specs.declared.classes.Constructor.{Constructor}
use Rattle.swc_ecma_codegen_tree.specs.declared.idents.Ident.{Ident}
use Rattle.swc_ecma_codegen_tree.specs.declared.classes.Key.{Key}
use Rattle.swc_ecma_codegen_tree.specs.declared.classes.ParamOrTsParamProp.{ParamOrTsParamProp}
use Rattle.swc_ecma_codegen_tree.specs.declared.classes.PrivateMethod.{PrivateMethod}
use Rattle.swc_ecma_codegen_tree.specs.declared.classes.PrivateProp.{PrivateProp}
use Rattle.swc_ecma_codegen_tree.specs.declared.classes.StaticBlock.{StaticBlock}
use Rattle.swc_ecma_codegen_tree.specs.declared.classes.TsParamProp.{TsParamProp}
use Rattle.swc_ecma_codegen_tree.specs.declared.classes.TsParamPropParam.{TsParamPropParam}
use Rattle.swc_ecma_codegen_tree.specs.declared.classes.ClassMember.TheVariants as class_members
use Rattle.swc_ecma_codegen_tree.specs.declared.classes.Key.TheVariants as keys
use Rattle.swc_ecma_codegen_tree.specs.declared.classes.ParamOrTsParamProp.TheVariants as param_or_ts_param_props
use Rattle.swc_ecma_codegen_tree.specs.declared.classes.TsParamPropParam.TheVariants as ts_param_prop_params
use Rattle.swc_ecma_codegen_visit.specs.Mapping.{map_link, map_option}
use Rattle.swc_ecma_codegen_visit.specs.MappedIdents.{map_binding_ident}
use Rattle.swc_ecma_codegen_visit.specs.MappedPats.{map_assign_pat}
use Rattle.swc_ecma_codegen_visit.specs.MappedTsTypes.{map_ts_index_signature}
use Rattle.swc_ecma_codegen_visit.specs.MappedTsDecls.{map_ts_expr_with_type_args}
use Rattle.swc_ecma_codegen_visit.specs.MappedDecls.{map_decorator, map_param}

abbrev pub map_class : {X : Type 0} → (Ident → Ident) → (X → X) → Class X → Class X
map_class g f n = record n {
  decorators = vec_mapped (map_decorator g f) n.decorators;
  body = vec_mapped (map_link f) n.body;
  super_class = map_option (map_link f) n.super_class;
  type_params = map_option (map_link f) n.type_params;
  super_type_params = map_option (map_link f) n.super_type_params;
  implements = vec_mapped (map_ts_expr_with_type_args g f) n.implements;
}

abbrev pub map_ts_param_prop_param : {X : Type 0} → (Ident → Ident) → (X → X) → TsParamPropParam X → TsParamPropParam X
map_ts_param_prop_param g f (ts_param_prop_params.Ident n) = ts_param_prop_params.Ident (map_binding_ident g f n)
map_ts_param_prop_param g f (ts_param_prop_params.Assign n) = ts_param_prop_params.Assign (map_assign_pat g f n)

abbrev pub map_ts_param_prop : {X : Type 0} → (Ident → Ident) → (X → X) → TsParamProp X → TsParamProp X
map_ts_param_prop g f n = record n { decorators = vec_mapped (map_decorator g f) n.decorators; param = map_ts_param_prop_param g f n.param }

abbrev pub map_param_or_ts_param_prop : {X : Type 0} → (Ident → Ident) → (X → X) → ParamOrTsParamProp X → ParamOrTsParamProp X
map_param_or_ts_param_prop g f (param_or_ts_param_props.TsParamProp n) = param_or_ts_param_props.TsParamProp (map_ts_param_prop g f n)
map_param_or_ts_param_prop g f (param_or_ts_param_props.Param n) = param_or_ts_param_props.Param (map_param g f n)

abbrev pub map_constructor : {X : Type 0} → (Ident → Ident) → (X → X) → Constructor X → Constructor X
map_constructor g f n = record n { params = vec_mapped (map_param_or_ts_param_prop g f) n.params; body = map_option (map_link f) n.body }

abbrev pub map_class_method : {X : Type 0} → (Ident → Ident) → (X → X) → ClassMethod X → ClassMethod X
map_class_method g f n = record n { key = map_link f n.key; function = map_link f n.function }

abbrev pub map_private_method : {X : Type 0} → (Ident → Ident) → (X → X) → PrivateMethod X → PrivateMethod X
map_private_method g f n = record n { function = map_link f n.function }

abbrev pub map_class_prop : {X : Type 0} → (Ident → Ident) → (X → X) → ClassProp X → ClassProp X
map_class_prop g f n = record n {
  key = map_link f n.key;
  value = map_option (map_link f) n.value;
  type_ann = map_option (map_link f) n.type_ann;
  decorators = vec_mapped (map_decorator g f) n.decorators;
}

abbrev pub map_private_prop : {X : Type 0} → (Ident → Ident) → (X → X) → PrivateProp X → PrivateProp X
map_private_prop g f n = record n {
  value = map_option (map_link f) n.value;
  type_ann = map_option (map_link f) n.type_ann;
  decorators = vec_mapped (map_decorator g f) n.decorators;
}

abbrev pub map_static_block : {X : Type 0} → (Ident → Ident) → (X → X) → StaticBlock X → StaticBlock X
map_static_block g f n = record n { body = map_link f n.body }

abbrev pub map_key : {X : Type 0} → (Ident → Ident) → (X → X) → Key X → Key X
map_key g f (keys.Private n) = keys.Private n
map_key g f (keys.Public n) = keys.Public (map_link f n)

abbrev pub map_auto_accessor : {X : Type 0} → (Ident → Ident) → (X → X) → AutoAccessor X → AutoAccessor X
map_auto_accessor g f n = record n {
  key = map_key g f n.key;
  value = map_option (map_link f) n.value;
  type_ann = map_option (map_link f) n.type_ann;
  decorators = vec_mapped (map_decorator g f) n.decorators;
}

abbrev pub map_class_member : {X : Type 0} → (Ident → Ident) → (X → X) → ClassMember X → ClassMember X
map_class_member g f (class_members.Constructor n) = class_members.Constructor (map_constructor g f n)
map_class_member g f (class_members.Method n) = class_members.Method (map_class_method g f n)
map_class_member g f (class_members.PrivateMethod n) = class_members.PrivateMethod (map_private_method g f n)
map_class_member g f (class_members.ClassProp n) = class_members.ClassProp (map_class_prop g f n)
map_class_member g f (class_members.PrivateProp n) = class_members.PrivateProp (map_private_prop g f n)
map_class_member g f (class_members.TsIndexSignature n) = class_members.TsIndexSignature (map_ts_index_signature g f n)
map_class_member g f (class_members.Empty n) = class_members.Empty n
map_class_member g f (class_members.StaticBlock n) = class_members.StaticBlock (map_static_block g f n)
map_class_member g f (class_members.AutoAccessor n) = class_members.AutoAccessor (map_auto_accessor g f n)
