-- Classes that are the same but for what their links hold: that stands in the relation `m`.
use Rattle.std.specs.Prelude.{◌≡◌}
use Rattle.swc_ecma_codegen_tree.specs.declared.classes.AutoAccessor.{AutoAccessor}
use Rattle.swc_ecma_codegen_tree.specs.declared.classes.Class.{Class}
use Rattle.swc_ecma_codegen_tree.specs.declared.classes.ClassMember.{ClassMember}
use Rattle.swc_ecma_codegen_tree.specs.declared.classes.ClassMember.TheVariants as class_members
use Rattle.swc_ecma_codegen_tree.specs.declared.classes.ClassMethod.{ClassMethod}
use Rattle.swc_ecma_codegen_tree.specs.declared.classes.ClassProp.{ClassProp}
use Rattle.swc_ecma_codegen_tree.specs.declared.classes.Constructor.{Constructor}
use Rattle.swc_ecma_codegen_tree.specs.declared.classes.Key.{Key}
use Rattle.swc_ecma_codegen_tree.specs.declared.classes.Key.TheVariants as keys
use Rattle.swc_ecma_codegen_tree.specs.declared.classes.ParamOrTsParamProp.{ParamOrTsParamProp}
use Rattle.swc_ecma_codegen_tree.specs.declared.classes.ParamOrTsParamProp.TheVariants as param_or_ts_param_props
use Rattle.swc_ecma_codegen_tree.specs.declared.classes.PrivateMethod.{PrivateMethod}
use Rattle.swc_ecma_codegen_tree.specs.declared.classes.PrivateProp.{PrivateProp}
use Rattle.swc_ecma_codegen_tree.specs.declared.classes.StaticBlock.{StaticBlock}
use Rattle.swc_ecma_codegen_tree.specs.declared.classes.TsParamProp.{TsParamProp}
use Rattle.swc_ecma_codegen_tree.specs.declared.classes.TsParamPropParam.{TsParamPropParam}
use Rattle.swc_ecma_codegen_tree.specs.declared.classes.TsParamPropParam.TheVariants as ts_param_prop_params
use Rattle.swc_ecma_codegen_parentheses.specs.declared.mends.Usage.{Usage}
use Rattle.swc_ecma_codegen_syntax.specs.declared.nonterminals.Nonterminal.TheVariants as nt
use Rattle.swc_ecma_codegen_parentheses.specs.Lists.{Pairwise, bracketed, linked, optionally}
use Rattle.swc_ecma_codegen_parentheses.specs.SameDecls.{same_decorators, same_param}
use Rattle.swc_ecma_codegen_parentheses.specs.SamePats.{same_assign_pat}

unfoldable pub same_class : {X : Type 0} → (Usage → X → X → Type 0) → Class X → Class X → Type 0
same_class m n r =
    (r ≡ record n { decorators = r.decorators; body = r.body; super_class = r.super_class }) × (same_decorators m n.decorators.items r.decorators.items ×
    (Pairwise (linked m) n.body.items r.body.items × optionally (bracketed nt.LeftHandSideExpression m) n.super_class r.super_class))

unfoldable pub same_ts_param_prop_param : {X : Type 0} → (Usage → X → X → Type 0) → TsParamPropParam X → TsParamPropParam X → Type 0
same_ts_param_prop_param m (ts_param_prop_params.Assign n) (ts_param_prop_params.Assign r) = same_assign_pat m n r
same_ts_param_prop_param m n r = n ≡ r

unfoldable pub same_ts_param_prop : {X : Type 0} → (Usage → X → X → Type 0) → TsParamProp X → TsParamProp X → Type 0
same_ts_param_prop m n r =
    (r ≡ record n { decorators = r.decorators; param = r.param }) × (same_decorators m n.decorators.items r.decorators.items ×
    same_ts_param_prop_param m n.param r.param)

unfoldable pub same_param_or_ts_param_prop : {X : Type 0} → (Usage → X → X → Type 0) → ParamOrTsParamProp X → ParamOrTsParamProp X → Type 0
same_param_or_ts_param_prop m (param_or_ts_param_props.Param n) (param_or_ts_param_props.Param r) = same_param m n r
same_param_or_ts_param_prop m (param_or_ts_param_props.TsParamProp n) (param_or_ts_param_props.TsParamProp r) = same_ts_param_prop m n r
same_param_or_ts_param_prop m n r = ⊥

unfoldable pub same_constructor : {X : Type 0} → (Usage → X → X → Type 0) → Constructor X → Constructor X → Type 0
same_constructor m n r =
    (r ≡ record n { params = r.params; body = r.body }) × (Pairwise (same_param_or_ts_param_prop m) n.params.items r.params.items ×
    optionally (linked m) n.body r.body)

unfoldable pub same_class_method : {X : Type 0} → (Usage → X → X → Type 0) → ClassMethod X → ClassMethod X → Type 0
same_class_method m n r = (r ≡ record n { key = r.key; function = r.function }) × (linked m n.key r.key × linked m n.function r.function)

unfoldable pub same_private_method : {X : Type 0} → (Usage → X → X → Type 0) → PrivateMethod X → PrivateMethod X → Type 0
same_private_method m n r = (r ≡ record n { function = r.function }) × linked m n.function r.function

unfoldable pub same_class_prop : {X : Type 0} → (Usage → X → X → Type 0) → ClassProp X → ClassProp X → Type 0
same_class_prop m n r =
    (r ≡ record n { key = r.key; value = r.value; decorators = r.decorators }) × (same_decorators m n.decorators.items r.decorators.items ×
    (linked m n.key r.key × optionally (bracketed nt.AssignmentExpression m) n.value r.value))

unfoldable pub same_private_prop : {X : Type 0} → (Usage → X → X → Type 0) → PrivateProp X → PrivateProp X → Type 0
same_private_prop m n r =
    (r ≡ record n { value = r.value; decorators = r.decorators }) × (same_decorators m n.decorators.items r.decorators.items ×
    optionally (bracketed nt.AssignmentExpression m) n.value r.value)

unfoldable pub same_static_block : {X : Type 0} → (Usage → X → X → Type 0) → StaticBlock X → StaticBlock X → Type 0
same_static_block m n r = (r ≡ record n { body = r.body }) × linked m n.body r.body

unfoldable pub same_key : {X : Type 0} → (Usage → X → X → Type 0) → Key X → Key X → Type 0
same_key m (keys.Public n) (keys.Public r) = linked m n r
same_key m n r = n ≡ r

unfoldable pub same_auto_accessor : {X : Type 0} → (Usage → X → X → Type 0) → AutoAccessor X → AutoAccessor X → Type 0
same_auto_accessor m n r =
    (r ≡ record n { key = r.key; value = r.value; decorators = r.decorators }) × (same_decorators m n.decorators.items r.decorators.items ×
    (same_key m n.key r.key × optionally (bracketed nt.AssignmentExpression m) n.value r.value))

unfoldable pub same_class_member : {X : Type 0} → (Usage → X → X → Type 0) → ClassMember X → ClassMember X → Type 0
same_class_member m (class_members.Constructor n) (class_members.Constructor r) = same_constructor m n r
same_class_member m (class_members.Method n) (class_members.Method r) = same_class_method m n r
same_class_member m (class_members.PrivateMethod n) (class_members.PrivateMethod r) = same_private_method m n r
same_class_member m (class_members.ClassProp n) (class_members.ClassProp r) = same_class_prop m n r
same_class_member m (class_members.PrivateProp n) (class_members.PrivateProp r) = same_private_prop m n r
same_class_member m (class_members.StaticBlock n) (class_members.StaticBlock r) = same_static_block m n r
same_class_member m (class_members.AutoAccessor n) (class_members.AutoAccessor r) = same_auto_accessor m n r
same_class_member m n r = n ≡ r
