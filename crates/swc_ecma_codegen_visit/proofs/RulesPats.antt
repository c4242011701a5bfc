-- Where the map of patterns is another map of the same type, with names as they are. Made by scripts/dev/make-visit-files.
use Rattle.std.proofs.Common.{◌≡◌, ap, ◌∙◌, Option}
use Rattle.std.specs.declared.alloc.Global.{Global}
use Rattle.std.specs.declared.vec.Vec.{Vec}
use Rattle.std.specs.formers.vec.Vec.{mapped as vec_mapped}
use Rattle.swc_ecma_codegen_tree.specs.declared.pats.ArrayPat.{ArrayPat}
use Rattle.swc_ecma_codegen_tree.specs.declared.pats.AssignPat.{AssignPat}
use Rattle.swc_ecma_codegen_tree.specs.declared.pats.AssignPatProp.{AssignPatProp}
use Rattle.swc_ecma_codegen_tree.specs.declared.pats.AssignTarget.{AssignTarget}
use Rattle.swc_ecma_codegen_tree.specs.declared.pats.AssignTargetPat.{AssignTargetPat}
use Rattle.swc_ecma_codegen_tree.specs.declared.idents.BindingIdent.{BindingIdent}
use Rattle.swc_ecma_codegen_tree.specs.declared.idents.Invalid.{Invalid}
use Rattle.swc_ecma_codegen_tree.specs.declared.pats.KeyValuePatProp.{KeyValuePatProp}
use Rattle.swc_ecma_codegen_tree.specs.declared.exprs.MemberExpr.{MemberExpr}
use Rattle.swc_ecma_codegen_tree.specs.declared.pats.ObjectPat.{ObjectPat}
use Rattle.swc_ecma_codegen_tree.specs.declared.pats.ObjectPatProp.{ObjectPatProp}
use Rattle.swc_ecma_codegen_tree.specs.declared.exprs.OptChainExpr.{OptChainExpr}
use Rattle.swc_ecma_codegen_tree.specs.declared.exprs.ParenExpr.{ParenExpr}
use Rattle.swc_ecma_codegen_tree.specs.declared.pats.Pat.{Pat}
use Rattle.swc_ecma_codegen_tree.specs.declared.exprs.PropName.{PropName}
use Rattle.swc_ecma_codegen_tree.specs.declared.pats.RestPat.{RestPat}
use Rattle.swc_ecma_codegen_tree.specs.declared.pats.SimpleAssignTarget.{SimpleAssignTarget}
use Rattle.swc_ecma_codegen_tree.specs.declared.exprs.SuperPropExpr.{SuperPropExpr}
use Rattle.swc_ecma_codegen_tree.specs.declared.ts_exprs.TsAsExpr.{TsAsExpr}
use Rattle.swc_ecma_codegen_tree.specs.declared.ts_exprs.TsInstantiation.{TsInstantiation}
use Rattle.swc_ecma_codegen_tree.specs.declared.ts_exprs.TsNonNullExpr.{TsNonNullExpr}
use Rattle.swc_ecma_codegen_tree.specs.declared.ts_exprs.TsSatisfiesExpr.{TsSatisfiesExpr}
use Rattle.swc_ecma_codegen_tree.specs.declared.ts_exprs.TsTypeAssertion.{TsTypeAssertion}
use Rattle.swc_ecma_codegen_tree.specs.declared.pats.AssignTarget.TheVariants as assign_targets
use Rattle.swc_ecma_codegen_tree.specs.declared.pats.AssignTargetPat.TheVariants as assign_target_pats
use Rattle.swc_ecma_codegen_tree.specs.declared.pats.ObjectPatProp.TheVariants as object_pat_props
use Rattle.swc_ecma_codegen_tree.specs.declared.pats.Pat.TheVariants as pats
use Rattle.swc_ecma_codegen_tree.specs.declared.pats.SimpleAssignTarget.TheVariants as simple_assign_targets
use Rattle.swc_ecma_codegen_tree.specs.Links.{ExprBox, PatBox, TsTypeAnnBox}
use Rattle.swc_ecma_codegen_visit.specs.Mapping.{map_link, map_option}
use Rattle.swc_ecma_codegen_visit.specs.MappedIdents.{map_binding_ident}
use Rattle.swc_ecma_codegen_visit.specs.MappedExprs.{map_member_expr, map_opt_chain_expr, map_paren_expr, map_prop_name}
use Rattle.swc_ecma_codegen_visit.specs.MappedExprs.{map_super_prop_expr, map_ts_as_expr, map_ts_instantiation, map_ts_non_null_expr}
use Rattle.swc_ecma_codegen_visit.specs.MappedExprs.{map_ts_satisfies_expr, map_ts_type_assertion}
use Rattle.swc_ecma_codegen_visit.specs.MappedPats.{map_array_pat, map_assign_pat, map_assign_pat_prop, map_assign_target}
use Rattle.swc_ecma_codegen_visit.specs.MappedPats.{map_assign_target_pat, map_key_value_pat_prop, map_object_pat, map_object_pat_prop}
use Rattle.swc_ecma_codegen_visit.specs.MappedPats.{map_pat, map_rest_pat, map_simple_assign_target}

pub in_array_pat : {X : Type 0} (f : X → X) (D : ArrayPat X → ArrayPat X)
    {to_a : Vec (Option (PatBox X)) Global → Vec (Option (PatBox X)) Global} {to_b : Option (TsTypeAnnBox X) → Option (TsTypeAnnBox X)} →
    ((n : ArrayPat X) (a : Vec (Option (PatBox X)) Global) (b : Option (TsTypeAnnBox X)) → record n { elems = to_a a; type_ann = to_b b } ≡
    D (record n { elems = a; type_ann = b })) → ((x : Vec (Option (PatBox X)) Global) → vec_mapped (map_option (map_link f)) x ≡ to_a x) →
    ((x : Option (TsTypeAnnBox X)) → map_option (map_link f) x ≡ to_b x) → (n : ArrayPat X) → map_array_pat (λ x. x) f n ≡ D n
in_array_pat f D is at_a at_b n = (λ i. record n { elems = at_a n.elems i; type_ann = at_b n.type_ann i }) ∙ is n n.elems n.type_ann

pub in_rest_pat : {X : Type 0} (f : X → X) (D : RestPat X → RestPat X) {to_a : Option (TsTypeAnnBox X) → Option (TsTypeAnnBox X)} → ((n :
    RestPat X) (a : Option (TsTypeAnnBox X)) → record n { arg = map_link f n.arg; type_ann = to_a a } ≡ D (record n { type_ann = a })) → ((x
    : Option (TsTypeAnnBox X)) → map_option (map_link f) x ≡ to_a x) → (n : RestPat X) → map_rest_pat (λ x. x) f n ≡ D n
in_rest_pat f D is at_a n = (λ i. record n { arg = map_link f n.arg; type_ann = at_a n.type_ann i }) ∙ is n n.type_ann

pub in_key_value_pat_prop : {X : Type 0} (f : X → X) (D : KeyValuePatProp X → KeyValuePatProp X) {to_a : PropName X → PropName X} → ((n :
    KeyValuePatProp X) (a : PropName X) → record n { key = to_a a; value = map_link f n.value } ≡ D (record n { key = a })) → ((x : PropName
    X) → map_prop_name (λ x. x) f x ≡ to_a x) → (n : KeyValuePatProp X) → map_key_value_pat_prop (λ x. x) f n ≡ D n
in_key_value_pat_prop f D is at_a n = (λ i. record n { key = at_a n.key i; value = map_link f n.value }) ∙ is n n.key

pub in_assign_pat_prop : {X : Type 0} (f : X → X) (D : AssignPatProp X → AssignPatProp X) {to_a : BindingIdent X → BindingIdent X}
    {to_b : Option (ExprBox X) → Option (ExprBox X)} → ((n : AssignPatProp X) (a : BindingIdent X) (b : Option (ExprBox X)) → record n
    { key = to_a a; value = to_b b } ≡ D (record n { key = a; value = b })) → ((x : BindingIdent X) → map_binding_ident (λ x. x) f x ≡ to_a
    x) → ((x : Option (ExprBox X)) → map_option (map_link f) x ≡ to_b x) → (n : AssignPatProp X) → map_assign_pat_prop (λ x. x) f n ≡ D n
in_assign_pat_prop f D is at_a at_b n = (λ i. record n { key = at_a n.key i; value = at_b n.value i }) ∙ is n n.key n.value

pub in_object_pat_prop : {X : Type 0} (f : X → X) (D : ObjectPatProp X → ObjectPatProp X)
    {to_KeyValue : KeyValuePatProp X → KeyValuePatProp X} {to_Assign : AssignPatProp X → AssignPatProp X} {to_Rest : RestPat X → RestPat X}
    → ((n : KeyValuePatProp X) → object_pat_props.KeyValue (to_KeyValue n) ≡ D (object_pat_props.KeyValue n)) → ((n : KeyValuePatProp X) →
    map_key_value_pat_prop (λ x. x) f n ≡ to_KeyValue n) → ((n : AssignPatProp X) → object_pat_props.Assign (to_Assign n) ≡ D
    (object_pat_props.Assign n)) → ((n : AssignPatProp X) → map_assign_pat_prop (λ x. x) f n ≡ to_Assign n) → ((n : RestPat X) →
    object_pat_props.Rest (to_Rest n) ≡ D (object_pat_props.Rest n)) → ((n : RestPat X) → map_rest_pat (λ x. x) f n ≡ to_Rest n) → (n :
    ObjectPatProp X) → map_object_pat_prop (λ x. x) f n ≡ D n
in_object_pat_prop f D is_KeyValue at_KeyValue is_Assign at_Assign is_Rest at_Rest (object_pat_props.KeyValue n) = ap
    object_pat_props.KeyValue (at_KeyValue n) ∙ is_KeyValue n
in_object_pat_prop f D is_KeyValue at_KeyValue is_Assign at_Assign is_Rest at_Rest (object_pat_props.Assign n) = ap object_pat_props.Assign
    (at_Assign n) ∙ is_Assign n
in_object_pat_prop f D is_KeyValue at_KeyValue is_Assign at_Assign is_Rest at_Rest (object_pat_props.Rest n) = ap object_pat_props.Rest
    (at_Rest n) ∙ is_Rest n

pub in_object_pat : {X : Type 0} (f : X → X) (D : ObjectPat X → ObjectPat X)
    {to_a : Vec (ObjectPatProp X) Global → Vec (ObjectPatProp X) Global} {to_b : Option (TsTypeAnnBox X) → Option (TsTypeAnnBox X)} → ((n :
    ObjectPat X) (a : Vec (ObjectPatProp X) Global) (b : Option (TsTypeAnnBox X)) → record n { props = to_a a; type_ann = to_b b } ≡ D
    (record n { props = a; type_ann = b })) → ((x : Vec (ObjectPatProp X) Global) → vec_mapped (map_object_pat_prop (λ x. x) f) x ≡ to_a x)
    → ((x : Option (TsTypeAnnBox X)) → map_option (map_link f) x ≡ to_b x) → (n : ObjectPat X) → map_object_pat (λ x. x) f n ≡ D n
in_object_pat f D is at_a at_b n = (λ i. record n { props = at_a n.props i; type_ann = at_b n.type_ann i }) ∙ is n n.props n.type_ann

pub in_pat : {X : Type 0} (f : X → X) (D : Pat X → Pat X) {to_Ident : BindingIdent X → BindingIdent X} {to_Array : ArrayPat X → ArrayPat X}
    {to_Rest : RestPat X → RestPat X} {to_Object : ObjectPat X → ObjectPat X} → ((n : BindingIdent X) → pats.Ident (to_Ident n) ≡ D
    (pats.Ident n)) → ((n : BindingIdent X) → map_binding_ident (λ x. x) f n ≡ to_Ident n) → ((n : ArrayPat X) → pats.Array (to_Array n) ≡ D
    (pats.Array n)) → ((n : ArrayPat X) → map_array_pat (λ x. x) f n ≡ to_Array n) → ((n : RestPat X) → pats.Rest (to_Rest n) ≡ D (pats.Rest
    n)) → ((n : RestPat X) → map_rest_pat (λ x. x) f n ≡ to_Rest n) → ((n : ObjectPat X) → pats.Object (to_Object n) ≡ D (pats.Object n)) →
    ((n : ObjectPat X) → map_object_pat (λ x. x) f n ≡ to_Object n) → ((n : AssignPat X) → pats.Assign (map_assign_pat (λ x. x) f n) ≡ D
    (pats.Assign n)) → ((n : Invalid) → pats.Invalid n ≡ D (pats.Invalid n)) → ((n : ExprBox X) → pats.Expr (map_link f n) ≡ D (pats.Expr
    n)) → (n : Pat X) → map_pat (λ x. x) f n ≡ D n
in_pat f D is_Ident at_Ident is_Array at_Array is_Rest at_Rest is_Object at_Object is_Assign is_Invalid is_Expr (pats.Ident n) = ap
    pats.Ident (at_Ident n) ∙ is_Ident n
in_pat f D is_Ident at_Ident is_Array at_Array is_Rest at_Rest is_Object at_Object is_Assign is_Invalid is_Expr (pats.Array n) = ap
    pats.Array (at_Array n) ∙ is_Array n
in_pat f D is_Ident at_Ident is_Array at_Array is_Rest at_Rest is_Object at_Object is_Assign is_Invalid is_Expr (pats.Rest n) = ap pats.Rest
    (at_Rest n) ∙ is_Rest n
in_pat f D is_Ident at_Ident is_Array at_Array is_Rest at_Rest is_Object at_Object is_Assign is_Invalid is_Expr (pats.Object n) = ap
    pats.Object (at_Object n) ∙ is_Object n
in_pat f D is_Ident at_Ident is_Array at_Array is_Rest at_Rest is_Object at_Object is_Assign is_Invalid is_Expr (pats.Assign n) = is_Assign
    n
in_pat f D is_Ident at_Ident is_Array at_Array is_Rest at_Rest is_Object at_Object is_Assign is_Invalid is_Expr (pats.Invalid n) =
    is_Invalid n
in_pat f D is_Ident at_Ident is_Array at_Array is_Rest at_Rest is_Object at_Object is_Assign is_Invalid is_Expr (pats.Expr n) = is_Expr n

pub in_simple_assign_target : {X : Type 0} (f : X → X) (D : SimpleAssignTarget X → SimpleAssignTarget X)
    {to_Ident : BindingIdent X → BindingIdent X} {to_Member : MemberExpr X → MemberExpr X}
    {to_SuperProp : SuperPropExpr X → SuperPropExpr X} {to_OptChain : OptChainExpr X → OptChainExpr X} → ((n : BindingIdent X) →
    simple_assign_targets.Ident (to_Ident n) ≡ D (simple_assign_targets.Ident n)) → ((n : BindingIdent X) → map_binding_ident (λ x. x) f n ≡
    to_Ident n) → ((n : MemberExpr X) → simple_assign_targets.Member (to_Member n) ≡ D (simple_assign_targets.Member n)) → ((n : MemberExpr
    X) → map_member_expr (λ x. x) f n ≡ to_Member n) → ((n : SuperPropExpr X) → simple_assign_targets.SuperProp (to_SuperProp n) ≡ D
    (simple_assign_targets.SuperProp n)) → ((n : SuperPropExpr X) → map_super_prop_expr (λ x. x) f n ≡ to_SuperProp n) → ((n : ParenExpr X)
    → simple_assign_targets.Paren (map_paren_expr (λ x. x) f n) ≡ D (simple_assign_targets.Paren n)) → ((n : OptChainExpr X) →
    simple_assign_targets.OptChain (to_OptChain n) ≡ D (simple_assign_targets.OptChain n)) → ((n : OptChainExpr X) → map_opt_chain_expr (λ
    x. x) f n ≡ to_OptChain n) → ((n : TsAsExpr X) → simple_assign_targets.TsAs (map_ts_as_expr (λ x. x) f n) ≡ D
    (simple_assign_targets.TsAs n)) → ((n : TsSatisfiesExpr X) → simple_assign_targets.TsSatisfies (map_ts_satisfies_expr (λ x. x) f n) ≡ D
    (simple_assign_targets.TsSatisfies n)) → ((n : TsNonNullExpr X) → simple_assign_targets.TsNonNull (map_ts_non_null_expr (λ x. x) f n) ≡
    D (simple_assign_targets.TsNonNull n)) → ((n : TsTypeAssertion X) → simple_assign_targets.TsTypeAssertion (map_ts_type_assertion (λ x.
    x) f n) ≡ D (simple_assign_targets.TsTypeAssertion n)) → ((n : TsInstantiation X) → simple_assign_targets.TsInstantiation
    (map_ts_instantiation (λ x. x) f n) ≡ D (simple_assign_targets.TsInstantiation n)) → ((n : Invalid) → simple_assign_targets.Invalid n ≡
    D (simple_assign_targets.Invalid n)) → (n : SimpleAssignTarget X) → map_simple_assign_target (λ x. x) f n ≡ D n
in_simple_assign_target f D is_Ident at_Ident is_Member at_Member is_SuperProp at_SuperProp is_Paren is_OptChain at_OptChain is_TsAs
    is_TsSatisfies is_TsNonNull is_TsTypeAssertion is_TsInstantiation is_Invalid (simple_assign_targets.Ident n) = ap
    simple_assign_targets.Ident (at_Ident n) ∙ is_Ident n
in_simple_assign_target f D is_Ident at_Ident is_Member at_Member is_SuperProp at_SuperProp is_Paren is_OptChain at_OptChain is_TsAs
    is_TsSatisfies is_TsNonNull is_TsTypeAssertion is_TsInstantiation is_Invalid (simple_assign_targets.Member n) = ap
    simple_assign_targets.Member (at_Member n) ∙ is_Member n
in_simple_assign_target f D is_Ident at_Ident is_Member at_Member is_SuperProp at_SuperProp is_Paren is_OptChain at_OptChain is_TsAs
    is_TsSatisfies is_TsNonNull is_TsTypeAssertion is_TsInstantiation is_Invalid (simple_assign_targets.SuperProp n) = ap
    simple_assign_targets.SuperProp (at_SuperProp n) ∙ is_SuperProp n
in_simple_assign_target f D is_Ident at_Ident is_Member at_Member is_SuperProp at_SuperProp is_Paren is_OptChain at_OptChain is_TsAs
    is_TsSatisfies is_TsNonNull is_TsTypeAssertion is_TsInstantiation is_Invalid (simple_assign_targets.Paren n) = is_Paren n
in_simple_assign_target f D is_Ident at_Ident is_Member at_Member is_SuperProp at_SuperProp is_Paren is_OptChain at_OptChain is_TsAs
    is_TsSatisfies is_TsNonNull is_TsTypeAssertion is_TsInstantiation is_Invalid (simple_assign_targets.OptChain n) = ap
    simple_assign_targets.OptChain (at_OptChain n) ∙ is_OptChain n
in_simple_assign_target f D is_Ident at_Ident is_Member at_Member is_SuperProp at_SuperProp is_Paren is_OptChain at_OptChain is_TsAs
    is_TsSatisfies is_TsNonNull is_TsTypeAssertion is_TsInstantiation is_Invalid (simple_assign_targets.TsAs n) = is_TsAs n
in_simple_assign_target f D is_Ident at_Ident is_Member at_Member is_SuperProp at_SuperProp is_Paren is_OptChain at_OptChain is_TsAs
    is_TsSatisfies is_TsNonNull is_TsTypeAssertion is_TsInstantiation is_Invalid (simple_assign_targets.TsSatisfies n) = is_TsSatisfies n
in_simple_assign_target f D is_Ident at_Ident is_Member at_Member is_SuperProp at_SuperProp is_Paren is_OptChain at_OptChain is_TsAs
    is_TsSatisfies is_TsNonNull is_TsTypeAssertion is_TsInstantiation is_Invalid (simple_assign_targets.TsNonNull n) = is_TsNonNull n
in_simple_assign_target f D is_Ident at_Ident is_Member at_Member is_SuperProp at_SuperProp is_Paren is_OptChain at_OptChain is_TsAs
    is_TsSatisfies is_TsNonNull is_TsTypeAssertion is_TsInstantiation is_Invalid (simple_assign_targets.TsTypeAssertion n) =
    is_TsTypeAssertion n
in_simple_assign_target f D is_Ident at_Ident is_Member at_Member is_SuperProp at_SuperProp is_Paren is_OptChain at_OptChain is_TsAs
    is_TsSatisfies is_TsNonNull is_TsTypeAssertion is_TsInstantiation is_Invalid (simple_assign_targets.TsInstantiation n) =
    is_TsInstantiation n
in_simple_assign_target f D is_Ident at_Ident is_Member at_Member is_SuperProp at_SuperProp is_Paren is_OptChain at_OptChain is_TsAs
    is_TsSatisfies is_TsNonNull is_TsTypeAssertion is_TsInstantiation is_Invalid (simple_assign_targets.Invalid n) = is_Invalid n

pub in_assign_target_pat : {X : Type 0} (f : X → X) (D : AssignTargetPat X → AssignTargetPat X) {to_Array : ArrayPat X → ArrayPat X}
    {to_Object : ObjectPat X → ObjectPat X} → ((n : ArrayPat X) → assign_target_pats.Array (to_Array n) ≡ D (assign_target_pats.Array n)) →
    ((n : ArrayPat X) → map_array_pat (λ x. x) f n ≡ to_Array n) → ((n : ObjectPat X) → assign_target_pats.Object (to_Object n) ≡ D
    (assign_target_pats.Object n)) → ((n : ObjectPat X) → map_object_pat (λ x. x) f n ≡ to_Object n) → ((n : Invalid) →
    assign_target_pats.Invalid n ≡ D (assign_target_pats.Invalid n)) → (n : AssignTargetPat X) → map_assign_target_pat (λ x. x) f n ≡ D n
in_assign_target_pat f D is_Array at_Array is_Object at_Object is_Invalid (assign_target_pats.Array n) = ap assign_target_pats.Array
    (at_Array n) ∙ is_Array n
in_assign_target_pat f D is_Array at_Array is_Object at_Object is_Invalid (assign_target_pats.Object n) = ap assign_target_pats.Object
    (at_Object n) ∙ is_Object n
in_assign_target_pat f D is_Array at_Array is_Object at_Object is_Invalid (assign_target_pats.Invalid n) = is_Invalid n

pub in_assign_target : {X : Type 0} (f : X → X) (D : AssignTarget X → AssignTarget X)
    {to_Simple : SimpleAssignTarget X → SimpleAssignTarget X} {to_Pat : AssignTargetPat X → AssignTargetPat X} → ((n : SimpleAssignTarget X)
    → assign_targets.Simple (to_Simple n) ≡ D (assign_targets.Simple n)) → ((n : SimpleAssignTarget X) → map_simple_assign_target (λ x. x) f
    n ≡ to_Simple n) → ((n : AssignTargetPat X) → assign_targets.Pat (to_Pat n) ≡ D (assign_targets.Pat n)) → ((n : AssignTargetPat X) →
    map_assign_target_pat (λ x. x) f n ≡ to_Pat n) → (n : AssignTarget X) → map_assign_target (λ x. x) f n ≡ D n
in_assign_target f D is_Simple at_Simple is_Pat at_Pat (assign_targets.Simple n) = ap assign_targets.Simple (at_Simple n) ∙ is_Simple n
in_assign_target f D is_Simple at_Simple is_Pat at_Pat (assign_targets.Pat n) = ap assign_targets.Pat (at_Pat n) ∙ is_Pat n
