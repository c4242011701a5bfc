-- Where the map of expressions is another map of the same type, with names as they are. Made by scripts/dev/make-visit-files.
use Rattle.std.proofs.Common.{◌≡◌, ap, ◌∙◌, Option}
use Rattle.std.specs.Prelude.{Box}
use Rattle.std.specs.declared.alloc.Global.{Global}
use Rattle.std.specs.declared.vec.Vec.{Vec}
use Rattle.std.specs.formers.vec.Vec.{mapped as vec_mapped}
use Rattle.swc_ecma_codegen_tree.specs.declared.exprs.ArrayLit.{ArrayLit}
use Rattle.swc_ecma_codegen_tree.specs.declared.exprs.ArrowExpr.{ArrowExpr}
use Rattle.swc_ecma_codegen_tree.specs.declared.exprs.AssignExpr.{AssignExpr}
use Rattle.swc_ecma_codegen_tree.specs.declared.exprs.AssignProp.{AssignProp}
use Rattle.swc_ecma_codegen_tree.specs.declared.exprs.AwaitExpr.{AwaitExpr}
use Rattle.swc_ecma_codegen_tree.specs.declared.lits.BigInt.{BigInt}
use Rattle.swc_ecma_codegen_tree.specs.declared.exprs.BinExpr.{BinExpr}
use Rattle.swc_ecma_codegen_tree.specs.declared.exprs.BlockStmtOrExpr.{BlockStmtOrExpr}
use Rattle.swc_ecma_codegen_tree.specs.declared.exprs.CallExpr.{CallExpr}
use Rattle.swc_ecma_codegen_tree.specs.declared.exprs.Callee.{Callee}
use Rattle.swc_ecma_codegen_tree.specs.declared.exprs.ClassExpr.{ClassExpr}
use Rattle.swc_ecma_codegen_tree.specs.declared.exprs.ComputedPropName.{ComputedPropName}
use Rattle.swc_ecma_codegen_tree.specs.declared.exprs.CondExpr.{CondExpr}
use Rattle.swc_ecma_codegen_tree.specs.declared.exprs.Expr.{Expr}
use Rattle.swc_ecma_codegen_tree.specs.declared.exprs.ExprOrSpread.{ExprOrSpread}
use Rattle.swc_ecma_codegen_tree.specs.declared.exprs.FnExpr.{FnExpr}
use Rattle.swc_ecma_codegen_tree.specs.declared.exprs.GetterProp.{GetterProp}
use Rattle.swc_ecma_codegen_tree.specs.declared.idents.Ident.{Ident}
use Rattle.swc_ecma_codegen_tree.specs.declared.idents.IdentName.{IdentName}
use Rattle.swc_ecma_codegen_tree.specs.declared.exprs.Import.{Import}
use Rattle.swc_ecma_codegen_tree.specs.declared.idents.Invalid.{Invalid}
use Rattle.swc_ecma_codegen_tree.specs.declared.jsx.JSXEmptyExpr.{JSXEmptyExpr}
use Rattle.swc_ecma_codegen_tree.specs.declared.jsx.JSXMemberExpr.{JSXMemberExpr}
use Rattle.swc_ecma_codegen_tree.specs.declared.jsx.JSXNamespacedName.{JSXNamespacedName}
use Rattle.swc_ecma_codegen_tree.specs.declared.exprs.KeyValueProp.{KeyValueProp}
use Rattle.swc_ecma_codegen_tree.specs.declared.lits.Lit.{Lit}
use Rattle.swc_ecma_codegen_tree.specs.declared.exprs.MemberExpr.{MemberExpr}
use Rattle.swc_ecma_codegen_tree.specs.declared.exprs.MemberProp.{MemberProp}
use Rattle.swc_ecma_codegen_tree.specs.declared.exprs.MetaPropExpr.{MetaPropExpr}
use Rattle.swc_ecma_codegen_tree.specs.declared.exprs.MethodProp.{MethodProp}
use Rattle.swc_ecma_codegen_tree.specs.declared.exprs.NewExpr.{NewExpr}
use Rattle.swc_ecma_codegen_tree.specs.declared.lits.Number.{Number}
use Rattle.swc_ecma_codegen_tree.specs.declared.exprs.ObjectLit.{ObjectLit}
use Rattle.swc_ecma_codegen_tree.specs.declared.exprs.OptCall.{OptCall}
use Rattle.swc_ecma_codegen_tree.specs.declared.exprs.OptChainBase.{OptChainBase}
use Rattle.swc_ecma_codegen_tree.specs.declared.exprs.OptChainExpr.{OptChainExpr}
use Rattle.swc_ecma_codegen_tree.specs.declared.exprs.ParenExpr.{ParenExpr}
use Rattle.swc_ecma_codegen_tree.specs.declared.idents.PrivateName.{PrivateName}
use Rattle.swc_ecma_codegen_tree.specs.declared.exprs.Prop.{Prop}
use Rattle.swc_ecma_codegen_tree.specs.declared.exprs.PropName.{PropName}
use Rattle.swc_ecma_codegen_tree.specs.declared.exprs.PropOrSpread.{PropOrSpread}
use Rattle.swc_ecma_codegen_tree.specs.declared.exprs.SeqExpr.{SeqExpr}
use Rattle.swc_ecma_codegen_tree.specs.declared.exprs.SetterProp.{SetterProp}
use Rattle.swc_ecma_codegen_tree.specs.declared.exprs.SpreadElement.{SpreadElement}
use Rattle.swc_ecma_codegen_tree.specs.declared.lits.Str.{Str}
use Rattle.swc_ecma_codegen_tree.specs.declared.exprs.Super.{Super}
use Rattle.swc_ecma_codegen_tree.specs.declared.exprs.SuperProp.{SuperProp}
use Rattle.swc_ecma_codegen_tree.specs.declared.exprs.SuperPropExpr.{SuperPropExpr}
use Rattle.swc_ecma_codegen_tree.specs.declared.exprs.TaggedTpl.{TaggedTpl}
use Rattle.swc_ecma_codegen_tree.specs.declared.exprs.ThisExpr.{ThisExpr}
use Rattle.swc_ecma_codegen_tree.specs.declared.ts_exprs.TsAsExpr.{TsAsExpr}
use Rattle.swc_ecma_codegen_tree.specs.declared.ts_exprs.TsConstAssertion.{TsConstAssertion}
use Rattle.swc_ecma_codegen_tree.specs.declared.ts_exprs.TsInstantiation.{TsInstantiation}
use Rattle.swc_ecma_codegen_tree.specs.declared.ts_exprs.TsNonNullExpr.{TsNonNullExpr}
use Rattle.swc_ecma_codegen_tree.specs.declared.ts_exprs.TsSatisfiesExpr.{TsSatisfiesExpr}
use Rattle.swc_ecma_codegen_tree.specs.declared.ts_exprs.TsTypeAssertion.{TsTypeAssertion}
use Rattle.swc_ecma_codegen_tree.specs.declared.exprs.UnaryExpr.{UnaryExpr}
use Rattle.swc_ecma_codegen_tree.specs.declared.exprs.UpdateExpr.{UpdateExpr}
use Rattle.swc_ecma_codegen_tree.specs.declared.exprs.YieldExpr.{YieldExpr}
use Rattle.swc_ecma_codegen_tree.specs.declared.exprs.BlockStmtOrExpr.TheVariants as block_stmt_or_exprs
use Rattle.swc_ecma_codegen_tree.specs.declared.exprs.Callee.TheVariants as callees
use Rattle.swc_ecma_codegen_tree.specs.declared.exprs.Expr.TheVariants as exprs
use Rattle.swc_ecma_codegen_tree.specs.declared.exprs.MemberProp.TheVariants as member_props
use Rattle.swc_ecma_codegen_tree.specs.declared.exprs.OptChainBase.TheVariants as opt_chain_bases
use Rattle.swc_ecma_codegen_tree.specs.declared.exprs.Prop.TheVariants as props
use Rattle.swc_ecma_codegen_tree.specs.declared.exprs.PropName.TheVariants as prop_names
use Rattle.swc_ecma_codegen_tree.specs.declared.exprs.PropOrSpread.TheVariants as prop_or_spreads
use Rattle.swc_ecma_codegen_tree.specs.declared.exprs.SuperProp.TheVariants as super_props
use Rattle.swc_ecma_codegen_tree.specs.Links.{BlockStmtBox, ExprBox, JSXElementBox, JSXFragmentBox, MemberExprBox, OptCallBox, PatBox}
use Rattle.swc_ecma_codegen_tree.specs.Links.{TplBox, TsTypeAnnBox, TsTypeParamDeclBox, TsTypeParamInstantiationBox}
use Rattle.swc_ecma_codegen_visit.specs.Mapping.{map_box, map_link, map_option}
use Rattle.swc_ecma_codegen_visit.specs.MappedExprs.{map_array_lit, map_arrow_expr, map_assign_expr, map_assign_prop, map_await_expr}
use Rattle.swc_ecma_codegen_visit.specs.MappedExprs.{map_bin_expr, map_block_stmt_or_expr, map_call_expr, map_callee, map_class_expr}
use Rattle.swc_ecma_codegen_visit.specs.MappedExprs.{map_computed_prop_name, map_cond_expr, map_expr, map_expr_or_spread, map_fn_expr}
use Rattle.swc_ecma_codegen_visit.specs.MappedExprs.{map_getter_prop, map_jsx_member_expr, map_key_value_prop, map_member_expr}
use Rattle.swc_ecma_codegen_visit.specs.MappedExprs.{map_member_prop, map_method_prop, map_new_expr, map_object_lit, map_opt_call}
use Rattle.swc_ecma_codegen_visit.specs.MappedExprs.{map_opt_chain_base, map_opt_chain_expr, map_paren_expr, map_prop, map_prop_name}
use Rattle.swc_ecma_codegen_visit.specs.MappedExprs.{map_prop_or_spread, map_seq_expr, map_setter_prop, map_spread_element, map_super_prop}
use Rattle.swc_ecma_codegen_visit.specs.MappedExprs.{map_super_prop_expr, map_tagged_tpl, map_ts_as_expr, map_ts_const_assertion}
use Rattle.swc_ecma_codegen_visit.specs.MappedExprs.{map_ts_instantiation, map_ts_non_null_expr, map_ts_satisfies_expr}
use Rattle.swc_ecma_codegen_visit.specs.MappedExprs.{map_ts_type_assertion, map_unary_expr, map_update_expr, map_yield_expr}

pub in_prop_name : {X : Type 0} (f : X → X) (D : PropName X → PropName X) → ((n : IdentName) → prop_names.Ident n ≡ D (prop_names.Ident n))
    → ((n : Box Str Global) → prop_names.Str n ≡ D (prop_names.Str n)) → ((n : Box Number Global) → prop_names.Num n ≡ D (prop_names.Num n))
    → ((n : Box BigInt Global) → prop_names.BigInt n ≡ D (prop_names.BigInt n)) → ((n : ComputedPropName X) → prop_names.Computed
    (map_computed_prop_name (λ x. x) f n) ≡ D (prop_names.Computed n)) → (n : PropName X) → map_prop_name (λ x. x) f n ≡ D n
in_prop_name f D is_Ident is_Str is_Num is_BigInt is_Computed (prop_names.Ident n) = is_Ident n
in_prop_name f D is_Ident is_Str is_Num is_BigInt is_Computed (prop_names.Str n) = is_Str n
in_prop_name f D is_Ident is_Str is_Num is_BigInt is_Computed (prop_names.Num n) = is_Num n
in_prop_name f D is_Ident is_Str is_Num is_BigInt is_Computed (prop_names.BigInt n) = is_BigInt n
in_prop_name f D is_Ident is_Str is_Num is_BigInt is_Computed (prop_names.Computed n) = is_Computed n

pub in_array_lit : {X : Type 0} (f : X → X) (D : ArrayLit X → ArrayLit X)
    {to_a : Vec (Option (ExprOrSpread X)) Global → Vec (Option (ExprOrSpread X)) Global} → ((n : ArrayLit X) (a : Vec (Option (ExprOrSpread
    X)) Global) → record n { elems = to_a a } ≡ D (record n { elems = a })) → ((x : Vec (Option (ExprOrSpread X)) Global) → vec_mapped
    (map_option (map_expr_or_spread (λ x. x) f)) x ≡ to_a x) → (n : ArrayLit X) → map_array_lit (λ x. x) f n ≡ D n
in_array_lit f D is at_a n = (λ i. record n { elems = at_a n.elems i }) ∙ is n n.elems

pub in_key_value_prop : {X : Type 0} (f : X → X) (D : KeyValueProp X → KeyValueProp X) {to_a : PropName X → PropName X} → ((n : KeyValueProp
    X) (a : PropName X) → record n { key = to_a a; value = map_link f n.value } ≡ D (record n { key = a })) → ((x : PropName X) →
    map_prop_name (λ x. x) f x ≡ to_a x) → (n : KeyValueProp X) → map_key_value_prop (λ x. x) f n ≡ D n
in_key_value_prop f D is at_a n = (λ i. record n { key = at_a n.key i; value = map_link f n.value }) ∙ is n n.key

pub in_getter_prop : {X : Type 0} (f : X → X) (D : GetterProp X → GetterProp X) {to_a : Option (TsTypeAnnBox X) → Option (TsTypeAnnBox X)}
    {to_b : Option (BlockStmtBox X) → Option (BlockStmtBox X)} → ((n : GetterProp X) (a : Option (TsTypeAnnBox X)) (b : Option (BlockStmtBox
    X)) → record n { key = map_link f n.key; type_ann = to_a a; body = to_b b } ≡ D (record n { type_ann = a; body = b })) → ((x : Option
    (TsTypeAnnBox X)) → map_option (map_link f) x ≡ to_a x) → ((x : Option (BlockStmtBox X)) → map_option (map_link f) x ≡ to_b x) → (n :
    GetterProp X) → map_getter_prop (λ x. x) f n ≡ D n
in_getter_prop f D is at_a at_b n = (λ i. record n { key = map_link f n.key; type_ann = at_a n.type_ann i; body = at_b n.body i }) ∙ is n
    n.type_ann n.body

pub in_setter_prop : {X : Type 0} (f : X → X) (D : SetterProp X → SetterProp X) {to_a : Option (PatBox X) → Option (PatBox X)}
    {to_b : Option (BlockStmtBox X) → Option (BlockStmtBox X)} → ((n : SetterProp X) (a : Option (PatBox X)) (b : Option (BlockStmtBox X)) →
    record n { key = map_link f n.key; this_param = to_a a; param = map_link f n.param; body = to_b b } ≡ D (record n
    { this_param = a; body = b })) → ((x : Option (PatBox X)) → map_option (map_link f) x ≡ to_a x) → ((x : Option (BlockStmtBox X)) →
    map_option (map_link f) x ≡ to_b x) → (n : SetterProp X) → map_setter_prop (λ x. x) f n ≡ D n
in_setter_prop f D is at_a at_b n = (λ i. record n
    { key = map_link f n.key; this_param = at_a n.this_param i; param = map_link f n.param; body = at_b n.body i }) ∙ is n n.this_param
    n.body

pub in_method_prop : {X : Type 0} (f : X → X) (D : MethodProp X → MethodProp X) {to_a : PropName X → PropName X} → ((n : MethodProp X) (a :
    PropName X) → record n { key = to_a a; function = map_link f n.function } ≡ D (record n { key = a })) → ((x : PropName X) →
    map_prop_name (λ x. x) f x ≡ to_a x) → (n : MethodProp X) → map_method_prop (λ x. x) f n ≡ D n
in_method_prop f D is at_a n = (λ i. record n { key = at_a n.key i; function = map_link f n.function }) ∙ is n n.key

pub in_prop : {X : Type 0} (f : X → X) (D : Prop X → Prop X) {to_KeyValue : KeyValueProp X → KeyValueProp X}
    {to_Getter : GetterProp X → GetterProp X} {to_Setter : SetterProp X → SetterProp X} {to_Method : MethodProp X → MethodProp X} → ((n :
    Ident) → props.Shorthand n ≡ D (props.Shorthand n)) → ((n : KeyValueProp X) → props.KeyValue (to_KeyValue n) ≡ D (props.KeyValue n)) →
    ((n : KeyValueProp X) → map_key_value_prop (λ x. x) f n ≡ to_KeyValue n) → ((n : AssignProp X) → props.Assign (map_assign_prop (λ x. x)
    f n) ≡ D (props.Assign n)) → ((n : GetterProp X) → props.Getter (to_Getter n) ≡ D (props.Getter n)) → ((n : GetterProp X) →
    map_getter_prop (λ x. x) f n ≡ to_Getter n) → ((n : SetterProp X) → props.Setter (to_Setter n) ≡ D (props.Setter n)) → ((n : SetterProp
    X) → map_setter_prop (λ x. x) f n ≡ to_Setter n) → ((n : MethodProp X) → props.Method (to_Method n) ≡ D (props.Method n)) → ((n :
    MethodProp X) → map_method_prop (λ x. x) f n ≡ to_Method n) → (n : Prop X) → map_prop (λ x. x) f n ≡ D n
in_prop f D is_Shorthand is_KeyValue at_KeyValue is_Assign is_Getter at_Getter is_Setter at_Setter is_Method at_Method (props.Shorthand n) =
    is_Shorthand n
in_prop f D is_Shorthand is_KeyValue at_KeyValue is_Assign is_Getter at_Getter is_Setter at_Setter is_Method at_Method (props.KeyValue n) =
    ap props.KeyValue (at_KeyValue n) ∙ is_KeyValue n
in_prop f D is_Shorthand is_KeyValue at_KeyValue is_Assign is_Getter at_Getter is_Setter at_Setter is_Method at_Method (props.Assign n) =
    is_Assign n
in_prop f D is_Shorthand is_KeyValue at_KeyValue is_Assign is_Getter at_Getter is_Setter at_Setter is_Method at_Method (props.Getter n) = ap
    props.Getter (at_Getter n) ∙ is_Getter n
in_prop f D is_Shorthand is_KeyValue at_KeyValue is_Assign is_Getter at_Getter is_Setter at_Setter is_Method at_Method (props.Setter n) = ap
    props.Setter (at_Setter n) ∙ is_Setter n
in_prop f D is_Shorthand is_KeyValue at_KeyValue is_Assign is_Getter at_Getter is_Setter at_Setter is_Method at_Method (props.Method n) = ap
    props.Method (at_Method n) ∙ is_Method n

pub in_prop_or_spread : {X : Type 0} (f : X → X) (D : PropOrSpread X → PropOrSpread X) {to_Prop : Prop X → Prop X} → ((n : SpreadElement X)
    → prop_or_spreads.Spread (map_spread_element (λ x. x) f n) ≡ D (prop_or_spreads.Spread n)) → ((n : Prop X) → prop_or_spreads.Prop
    (to_Prop n) ≡ D (prop_or_spreads.Prop n)) → ((n : Prop X) → map_prop (λ x. x) f n ≡ to_Prop n) → (n : PropOrSpread X) →
    map_prop_or_spread (λ x. x) f n ≡ D n
in_prop_or_spread f D is_Spread is_Prop at_Prop (prop_or_spreads.Spread n) = is_Spread n
in_prop_or_spread f D is_Spread is_Prop at_Prop (prop_or_spreads.Prop n) = ap prop_or_spreads.Prop (at_Prop n) ∙ is_Prop n

pub in_object_lit : {X : Type 0} (f : X → X) (D : ObjectLit X → ObjectLit X)
    {to_a : Vec (PropOrSpread X) Global → Vec (PropOrSpread X) Global} → ((n : ObjectLit X) (a : Vec (PropOrSpread X) Global) → record n
    { props = to_a a } ≡ D (record n { props = a })) → ((x : Vec (PropOrSpread X) Global) → vec_mapped (map_prop_or_spread (λ x. x) f) x ≡
    to_a x) → (n : ObjectLit X) → map_object_lit (λ x. x) f n ≡ D n
in_object_lit f D is at_a n = (λ i. record n { props = at_a n.props i }) ∙ is n n.props

pub in_fn_expr : {X : Type 0} (f : X → X) (D : FnExpr X → FnExpr X) {to_a : Option Ident → Option Ident} → ((n : FnExpr X) (a : Option
    Ident) → record n { ident = to_a a; function = map_link f n.function } ≡ D (record n { ident = a })) → ((x : Option Ident) → map_option
    (λ x. x) x ≡ to_a x) → (n : FnExpr X) → map_fn_expr (λ x. x) f n ≡ D n
in_fn_expr f D is at_a n = (λ i. record n { ident = at_a n.ident i; function = map_link f n.function }) ∙ is n n.ident

pub in_member_prop : {X : Type 0} (f : X → X) (D : MemberProp X → MemberProp X) → ((n : IdentName) → member_props.Ident n ≡ D
    (member_props.Ident n)) → ((n : PrivateName) → member_props.PrivateName n ≡ D (member_props.PrivateName n)) → ((n : ComputedPropName X)
    → member_props.Computed (map_computed_prop_name (λ x. x) f n) ≡ D (member_props.Computed n)) → (n : MemberProp X) → map_member_prop (λ
    x. x) f n ≡ D n
in_member_prop f D is_Ident is_PrivateName is_Computed (member_props.Ident n) = is_Ident n
in_member_prop f D is_Ident is_PrivateName is_Computed (member_props.PrivateName n) = is_PrivateName n
in_member_prop f D is_Ident is_PrivateName is_Computed (member_props.Computed n) = is_Computed n

pub in_member_expr : {X : Type 0} (f : X → X) (D : MemberExpr X → MemberExpr X) {to_a : MemberProp X → MemberProp X} → ((n : MemberExpr X)
    (a : MemberProp X) → record n { obj = map_link f n.obj; prop = to_a a } ≡ D (record n { prop = a })) → ((x : MemberProp X) →
    map_member_prop (λ x. x) f x ≡ to_a x) → (n : MemberExpr X) → map_member_expr (λ x. x) f n ≡ D n
in_member_expr f D is at_a n = (λ i. record n { obj = map_link f n.obj; prop = at_a n.prop i }) ∙ is n n.prop

pub in_super_prop : {X : Type 0} (f : X → X) (D : SuperProp X → SuperProp X) → ((n : IdentName) → super_props.Ident n ≡ D (super_props.Ident
    n)) → ((n : ComputedPropName X) → super_props.Computed (map_computed_prop_name (λ x. x) f n) ≡ D (super_props.Computed n)) → (n :
    SuperProp X) → map_super_prop (λ x. x) f n ≡ D n
in_super_prop f D is_Ident is_Computed (super_props.Ident n) = is_Ident n
in_super_prop f D is_Ident is_Computed (super_props.Computed n) = is_Computed n

pub in_super_prop_expr : {X : Type 0} (f : X → X) (D : SuperPropExpr X → SuperPropExpr X) {to_a : SuperProp X → SuperProp X} → ((n :
    SuperPropExpr X) (a : SuperProp X) → record n { prop = to_a a } ≡ D (record n { prop = a })) → ((x : SuperProp X) → map_super_prop (λ x.
    x) f x ≡ to_a x) → (n : SuperPropExpr X) → map_super_prop_expr (λ x. x) f n ≡ D n
in_super_prop_expr f D is at_a n = (λ i. record n { prop = at_a n.prop i }) ∙ is n n.prop

pub in_callee : {X : Type 0} (f : X → X) (D : Callee X → Callee X) → ((n : Super) → callees.Super n ≡ D (callees.Super n)) → ((n : Import) →
    callees.Import n ≡ D (callees.Import n)) → ((n : ExprBox X) → callees.Expr (map_link f n) ≡ D (callees.Expr n)) → (n : Callee X) →
    map_callee (λ x. x) f n ≡ D n
in_callee f D is_Super is_Import is_Expr (callees.Super n) = is_Super n
in_callee f D is_Super is_Import is_Expr (callees.Import n) = is_Import n
in_callee f D is_Super is_Import is_Expr (callees.Expr n) = is_Expr n

pub in_call_expr : {X : Type 0} (f : X → X) (D : CallExpr X → CallExpr X) {to_a : Callee X → Callee X}
    {to_b : Option (TsTypeParamInstantiationBox X) → Option (TsTypeParamInstantiationBox X)} → ((n : CallExpr X) (a : Callee X) (b : Option
    (TsTypeParamInstantiationBox X)) → record n
    { callee = to_a a; args = vec_mapped (map_expr_or_spread (λ x. x) f) n.args; type_args = to_b b } ≡ D (record n
    { callee = a; type_args = b })) → ((x : Callee X) → map_callee (λ x. x) f x ≡ to_a x) → ((x : Option (TsTypeParamInstantiationBox X)) →
    map_option (map_link f) x ≡ to_b x) → (n : CallExpr X) → map_call_expr (λ x. x) f n ≡ D n
in_call_expr f D is at_a at_b n = (λ i. record n
    { callee = at_a n.callee i; args = vec_mapped (map_expr_or_spread (λ x. x) f) n.args; type_args = at_b n.type_args i }) ∙ is n n.callee
    n.type_args

pub in_new_expr : {X : Type 0} (f : X → X) (D : NewExpr X → NewExpr X)
    {to_a : Option (Vec (ExprOrSpread X) Global) → Option (Vec (ExprOrSpread X) Global)}
    {to_b : Option (TsTypeParamInstantiationBox X) → Option (TsTypeParamInstantiationBox X)} → ((n : NewExpr X) (a : Option (Vec
    (ExprOrSpread X) Global)) (b : Option (TsTypeParamInstantiationBox X)) → record n
    { callee = map_link f n.callee; args = to_a a; type_args = to_b b } ≡ D (record n { args = a; type_args = b })) → ((x : Option (Vec
    (ExprOrSpread X) Global)) → map_option (vec_mapped (map_expr_or_spread (λ x. x) f)) x ≡ to_a x) → ((x : Option
    (TsTypeParamInstantiationBox X)) → map_option (map_link f) x ≡ to_b x) → (n : NewExpr X) → map_new_expr (λ x. x) f n ≡ D n
in_new_expr f D is at_a at_b n = (λ i. record n { callee = map_link f n.callee; args = at_a n.args i; type_args = at_b n.type_args i }) ∙ is
    n n.args n.type_args

pub in_tagged_tpl : {X : Type 0} (f : X → X) (D : TaggedTpl X → TaggedTpl X)
    {to_a : Option (TsTypeParamInstantiationBox X) → Option (TsTypeParamInstantiationBox X)} → ((n : TaggedTpl X) (a : Option
    (TsTypeParamInstantiationBox X)) → record n { tag = map_link f n.tag; type_params = to_a a; tpl = map_link f n.tpl } ≡ D (record n
    { type_params = a })) → ((x : Option (TsTypeParamInstantiationBox X)) → map_option (map_link f) x ≡ to_a x) → (n : TaggedTpl X) →
    map_tagged_tpl (λ x. x) f n ≡ D n
in_tagged_tpl f D is at_a n = (λ i. record n { tag = map_link f n.tag; type_params = at_a n.type_params i; tpl = map_link f n.tpl }) ∙ is n
    n.type_params

pub in_block_stmt_or_expr : {X : Type 0} (f : X → X) (D : BlockStmtOrExpr X → BlockStmtOrExpr X) → ((n : BlockStmtBox X) →
    block_stmt_or_exprs.BlockStmt (map_link f n) ≡ D (block_stmt_or_exprs.BlockStmt n)) → ((n : ExprBox X) → block_stmt_or_exprs.Expr
    (map_link f n) ≡ D (block_stmt_or_exprs.Expr n)) → (n : BlockStmtOrExpr X) → map_block_stmt_or_expr (λ x. x) f n ≡ D n
in_block_stmt_or_expr f D is_BlockStmt is_Expr (block_stmt_or_exprs.BlockStmt n) = is_BlockStmt n
in_block_stmt_or_expr f D is_BlockStmt is_Expr (block_stmt_or_exprs.Expr n) = is_Expr n

pub in_arrow_expr : {X : Type 0} (f : X → X) (D : ArrowExpr X → ArrowExpr X) {to_a : BlockStmtOrExpr X → BlockStmtOrExpr X}
    {to_b : Option (TsTypeParamDeclBox X) → Option (TsTypeParamDeclBox X)} {to_c : Option (TsTypeAnnBox X) → Option (TsTypeAnnBox X)} → ((n
    : ArrowExpr X) (a : BlockStmtOrExpr X) (b : Option (TsTypeParamDeclBox X)) (c : Option (TsTypeAnnBox X)) → record n
    { params = vec_mapped (map_link f) n.params; body = to_a a; type_params = to_b b; return_type = to_c c } ≡ D (record n
    { body = a; type_params = b; return_type = c })) → ((x : BlockStmtOrExpr X) → map_block_stmt_or_expr (λ x. x) f x ≡ to_a x) → ((x :
    Option (TsTypeParamDeclBox X)) → map_option (map_link f) x ≡ to_b x) → ((x : Option (TsTypeAnnBox X)) → map_option (map_link f) x ≡ to_c
    x) → (n : ArrowExpr X) → map_arrow_expr (λ x. x) f n ≡ D n
in_arrow_expr f D is at_a at_b at_c n = (λ i. record n
    { params = vec_mapped (map_link f) n.params; body = at_a n.body i; type_params = at_b n.type_params i; return_type = at_c n.return_type i })
    ∙ is n n.body n.type_params n.return_type

pub in_class_expr : {X : Type 0} (f : X → X) (D : ClassExpr X → ClassExpr X) {to_a : Option Ident → Option Ident} → ((n : ClassExpr X) (a :
    Option Ident) → record n { ident = to_a a; class = map_link f n.class } ≡ D (record n { ident = a })) → ((x : Option Ident) → map_option
    (λ x. x) x ≡ to_a x) → (n : ClassExpr X) → map_class_expr (λ x. x) f n ≡ D n
in_class_expr f D is at_a n = (λ i. record n { ident = at_a n.ident i; class = map_link f n.class }) ∙ is n n.ident

pub in_yield_expr : {X : Type 0} (f : X → X) (D : YieldExpr X → YieldExpr X) {to_a : Option (ExprBox X) → Option (ExprBox X)} → ((n :
    YieldExpr X) (a : Option (ExprBox X)) → record n { arg = to_a a } ≡ D (record n { arg = a })) → ((x : Option (ExprBox X)) → map_option
    (map_link f) x ≡ to_a x) → (n : YieldExpr X) → map_yield_expr (λ x. x) f n ≡ D n
in_yield_expr f D is at_a n = (λ i. record n { arg = at_a n.arg i }) ∙ is n n.arg

pub in_opt_chain_base : {X : Type 0} (f : X → X) (D : OptChainBase X → OptChainBase X) → ((n : MemberExprBox X) → opt_chain_bases.Member
    (map_link f n) ≡ D (opt_chain_bases.Member n)) → ((n : OptCallBox X) → opt_chain_bases.Call (map_link f n) ≡ D (opt_chain_bases.Call n))
    → (n : OptChainBase X) → map_opt_chain_base (λ x. x) f n ≡ D n
in_opt_chain_base f D is_Member is_Call (opt_chain_bases.Member n) = is_Member n
in_opt_chain_base f D is_Member is_Call (opt_chain_bases.Call n) = is_Call n

pub in_opt_chain_expr : {X : Type 0} (f : X → X) (D : OptChainExpr X → OptChainExpr X) {to_a : OptChainBase X → OptChainBase X} → ((n :
    OptChainExpr X) (a : OptChainBase X) → record n { base = to_a a } ≡ D (record n { base = a })) → ((x : OptChainBase X) →
    map_opt_chain_base (λ x. x) f x ≡ to_a x) → (n : OptChainExpr X) → map_opt_chain_expr (λ x. x) f n ≡ D n
in_opt_chain_expr f D is at_a n = (λ i. record n { base = at_a n.base i }) ∙ is n n.base

pub in_expr : {X : Type 0} (f : X → X) (D : Expr X → Expr X) {to_Array : ArrayLit X → ArrayLit X} {to_Object : ObjectLit X → ObjectLit X}
    {to_Fn : FnExpr X → FnExpr X} {to_Member : MemberExpr X → MemberExpr X} {to_SuperProp : SuperPropExpr X → SuperPropExpr X}
    {to_Call : CallExpr X → CallExpr X} {to_New : NewExpr X → NewExpr X} {to_TaggedTpl : TaggedTpl X → TaggedTpl X}
    {to_Arrow : Box (ArrowExpr X) Global → Box (ArrowExpr X) Global} {to_Class : ClassExpr X → ClassExpr X}
    {to_Yield : YieldExpr X → YieldExpr X} {to_OptChain : OptChainExpr X → OptChainExpr X} → ((n : ThisExpr) → exprs.This n ≡ D (exprs.This
    n)) → ((n : ArrayLit X) → exprs.Array (to_Array n) ≡ D (exprs.Array n)) → ((n : ArrayLit X) → map_array_lit (λ x. x) f n ≡ to_Array n) →
    ((n : ObjectLit X) → exprs.Object (to_Object n) ≡ D (exprs.Object n)) → ((n : ObjectLit X) → map_object_lit (λ x. x) f n ≡ to_Object n)
    → ((n : FnExpr X) → exprs.Fn (to_Fn n) ≡ D (exprs.Fn n)) → ((n : FnExpr X) → map_fn_expr (λ x. x) f n ≡ to_Fn n) → ((n : UnaryExpr X) →
    exprs.Unary (map_unary_expr (λ x. x) f n) ≡ D (exprs.Unary n)) → ((n : UpdateExpr X) → exprs.Update (map_update_expr (λ x. x) f n) ≡ D
    (exprs.Update n)) → ((n : BinExpr X) → exprs.Bin (map_bin_expr (λ x. x) f n) ≡ D (exprs.Bin n)) → ((n : AssignExpr X) → exprs.Assign
    (map_assign_expr (λ x. x) f n) ≡ D (exprs.Assign n)) → ((n : MemberExpr X) → exprs.Member (to_Member n) ≡ D (exprs.Member n)) → ((n :
    MemberExpr X) → map_member_expr (λ x. x) f n ≡ to_Member n) → ((n : SuperPropExpr X) → exprs.SuperProp (to_SuperProp n) ≡ D
    (exprs.SuperProp n)) → ((n : SuperPropExpr X) → map_super_prop_expr (λ x. x) f n ≡ to_SuperProp n) → ((n : CondExpr X) → exprs.Cond
    (map_cond_expr (λ x. x) f n) ≡ D (exprs.Cond n)) → ((n : CallExpr X) → exprs.Call (to_Call n) ≡ D (exprs.Call n)) → ((n : CallExpr X) →
    map_call_expr (λ x. x) f n ≡ to_Call n) → ((n : NewExpr X) → exprs.New (to_New n) ≡ D (exprs.New n)) → ((n : NewExpr X) → map_new_expr
    (λ x. x) f n ≡ to_New n) → ((n : SeqExpr X) → exprs.Seq (map_seq_expr (λ x. x) f n) ≡ D (exprs.Seq n)) → ((n : Ident) → exprs.Ident n ≡
    D (exprs.Ident n)) → ((n : Lit) → exprs.Lit n ≡ D (exprs.Lit n)) → ((n : TplBox X) → exprs.Tpl (map_link f n) ≡ D (exprs.Tpl n)) → ((n :
    TaggedTpl X) → exprs.TaggedTpl (to_TaggedTpl n) ≡ D (exprs.TaggedTpl n)) → ((n : TaggedTpl X) → map_tagged_tpl (λ x. x) f n ≡
    to_TaggedTpl n) → ((n : Box (ArrowExpr X) Global) → exprs.Arrow (to_Arrow n) ≡ D (exprs.Arrow n)) → ((n : Box (ArrowExpr X) Global) →
    map_box (map_arrow_expr (λ x. x) f) n ≡ to_Arrow n) → ((n : ClassExpr X) → exprs.Class (to_Class n) ≡ D (exprs.Class n)) → ((n :
    ClassExpr X) → map_class_expr (λ x. x) f n ≡ to_Class n) → ((n : YieldExpr X) → exprs.Yield (to_Yield n) ≡ D (exprs.Yield n)) → ((n :
    YieldExpr X) → map_yield_expr (λ x. x) f n ≡ to_Yield n) → ((n : MetaPropExpr) → exprs.MetaProp n ≡ D (exprs.MetaProp n)) → ((n :
    AwaitExpr X) → exprs.Await (map_await_expr (λ x. x) f n) ≡ D (exprs.Await n)) → ((n : ParenExpr X) → exprs.Paren (map_paren_expr (λ x.
    x) f n) ≡ D (exprs.Paren n)) → ((n : JSXMemberExpr X) → exprs.JSXMember (map_jsx_member_expr (λ x. x) f n) ≡ D (exprs.JSXMember n)) →
    ((n : JSXNamespacedName) → exprs.JSXNamespacedName n ≡ D (exprs.JSXNamespacedName n)) → ((n : JSXEmptyExpr) → exprs.JSXEmpty n ≡ D
    (exprs.JSXEmpty n)) → ((n : JSXElementBox X) → exprs.JSXElement (map_link f n) ≡ D (exprs.JSXElement n)) → ((n : JSXFragmentBox X) →
    exprs.JSXFragment (map_link f n) ≡ D (exprs.JSXFragment n)) → ((n : TsTypeAssertion X) → exprs.TsTypeAssertion (map_ts_type_assertion (λ
    x. x) f n) ≡ D (exprs.TsTypeAssertion n)) → ((n : TsConstAssertion X) → exprs.TsConstAssertion (map_ts_const_assertion (λ x. x) f n) ≡ D
    (exprs.TsConstAssertion n)) → ((n : TsNonNullExpr X) → exprs.TsNonNull (map_ts_non_null_expr (λ x. x) f n) ≡ D (exprs.TsNonNull n)) →
    ((n : TsAsExpr X) → exprs.TsAs (map_ts_as_expr (λ x. x) f n) ≡ D (exprs.TsAs n)) → ((n : TsInstantiation X) → exprs.TsInstantiation
    (map_ts_instantiation (λ x. x) f n) ≡ D (exprs.TsInstantiation n)) → ((n : TsSatisfiesExpr X) → exprs.TsSatisfies (map_ts_satisfies_expr
    (λ x. x) f n) ≡ D (exprs.TsSatisfies n)) → ((n : PrivateName) → exprs.PrivateName n ≡ D (exprs.PrivateName n)) → ((n : OptChainExpr X) →
    exprs.OptChain (to_OptChain n) ≡ D (exprs.OptChain n)) → ((n : OptChainExpr X) → map_opt_chain_expr (λ x. x) f n ≡ to_OptChain n) → ((n
    : Invalid) → exprs.Invalid n ≡ D (exprs.Invalid n)) → (n : Expr X) → map_expr (λ x. x) f n ≡ D n
in_expr f D is_This is_Array at_Array is_Object at_Object is_Fn at_Fn is_Unary is_Update is_Bin is_Assign is_Member at_Member is_SuperProp
    at_SuperProp is_Cond is_Call at_Call is_New at_New is_Seq is_Ident is_Lit is_Tpl is_TaggedTpl at_TaggedTpl is_Arrow at_Arrow is_Class
    at_Class is_Yield at_Yield is_MetaProp is_Await is_Paren is_JSXMember is_JSXNamespacedName is_JSXEmpty is_JSXElement is_JSXFragment
    is_TsTypeAssertion is_TsConstAssertion is_TsNonNull is_TsAs is_TsInstantiation is_TsSatisfies is_PrivateName is_OptChain at_OptChain
    is_Invalid (exprs.This n) = is_This n
in_expr f D is_This is_Array at_Array is_Object at_Object is_Fn at_Fn is_Unary is_Update is_Bin is_Assign is_Member at_Member is_SuperProp
    at_SuperProp is_Cond is_Call at_Call is_New at_New is_Seq is_Ident is_Lit is_Tpl is_TaggedTpl at_TaggedTpl is_Arrow at_Arrow is_Class
    at_Class is_Yield at_Yield is_MetaProp is_Await is_Paren is_JSXMember is_JSXNamespacedName is_JSXEmpty is_JSXElement is_JSXFragment
    is_TsTypeAssertion is_TsConstAssertion is_TsNonNull is_TsAs is_TsInstantiation is_TsSatisfies is_PrivateName is_OptChain at_OptChain
    is_Invalid (exprs.Array n) = ap exprs.Array (at_Array n) ∙ is_Array n
in_expr f D is_This is_Array at_Array is_Object at_Object is_Fn at_Fn is_Unary is_Update is_Bin is_Assign is_Member at_Member is_SuperProp
    at_SuperProp is_Cond is_Call at_Call is_New at_New is_Seq is_Ident is_Lit is_Tpl is_TaggedTpl at_TaggedTpl is_Arrow at_Arrow is_Class
    at_Class is_Yield at_Yield is_MetaProp is_Await is_Paren is_JSXMember is_JSXNamespacedName is_JSXEmpty is_JSXElement is_JSXFragment
    is_TsTypeAssertion is_TsConstAssertion is_TsNonNull is_TsAs is_TsInstantiation is_TsSatisfies is_PrivateName is_OptChain at_OptChain
    is_Invalid (exprs.Object n) = ap exprs.Object (at_Object n) ∙ is_Object n
in_expr f D is_This is_Array at_Array is_Object at_Object is_Fn at_Fn is_Unary is_Update is_Bin is_Assign is_Member at_Member is_SuperProp
    at_SuperProp is_Cond is_Call at_Call is_New at_New is_Seq is_Ident is_Lit is_Tpl is_TaggedTpl at_TaggedTpl is_Arrow at_Arrow is_Class
    at_Class is_Yield at_Yield is_MetaProp is_Await is_Paren is_JSXMember is_JSXNamespacedName is_JSXEmpty is_JSXElement is_JSXFragment
    is_TsTypeAssertion is_TsConstAssertion is_TsNonNull is_TsAs is_TsInstantiation is_TsSatisfies is_PrivateName is_OptChain at_OptChain
    is_Invalid (exprs.Fn n) = ap exprs.Fn (at_Fn n) ∙ is_Fn n
in_expr f D is_This is_Array at_Array is_Object at_Object is_Fn at_Fn is_Unary is_Update is_Bin is_Assign is_Member at_Member is_SuperProp
    at_SuperProp is_Cond is_Call at_Call is_New at_New is_Seq is_Ident is_Lit is_Tpl is_TaggedTpl at_TaggedTpl is_Arrow at_Arrow is_Class
    at_Class is_Yield at_Yield is_MetaProp is_Await is_Paren is_JSXMember is_JSXNamespacedName is_JSXEmpty is_JSXElement is_JSXFragment
    is_TsTypeAssertion is_TsConstAssertion is_TsNonNull is_TsAs is_TsInstantiation is_TsSatisfies is_PrivateName is_OptChain at_OptChain
    is_Invalid (exprs.Unary n) = is_Unary n
in_expr f D is_This is_Array at_Array is_Object at_Object is_Fn at_Fn is_Unary is_Update is_Bin is_Assign is_Member at_Member is_SuperProp
    at_SuperProp is_Cond is_Call at_Call is_New at_New is_Seq is_Ident is_Lit is_Tpl is_TaggedTpl at_TaggedTpl is_Arrow at_Arrow is_Class
    at_Class is_Yield at_Yield is_MetaProp is_Await is_Paren is_JSXMember is_JSXNamespacedName is_JSXEmpty is_JSXElement is_JSXFragment
    is_TsTypeAssertion is_TsConstAssertion is_TsNonNull is_TsAs is_TsInstantiation is_TsSatisfies is_PrivateName is_OptChain at_OptChain
    is_Invalid (exprs.Update n) = is_Update n
in_expr f D is_This is_Array at_Array is_Object at_Object is_Fn at_Fn is_Unary is_Update is_Bin is_Assign is_Member at_Member is_SuperProp
    at_SuperProp is_Cond is_Call at_Call is_New at_New is_Seq is_Ident is_Lit is_Tpl is_TaggedTpl at_TaggedTpl is_Arrow at_Arrow is_Class
    at_Class is_Yield at_Yield is_MetaProp is_Await is_Paren is_JSXMember is_JSXNamespacedName is_JSXEmpty is_JSXElement is_JSXFragment
    is_TsTypeAssertion is_TsConstAssertion is_TsNonNull is_TsAs is_TsInstantiation is_TsSatisfies is_PrivateName is_OptChain at_OptChain
    is_Invalid (exprs.Bin n) = is_Bin n
in_expr f D is_This is_Array at_Array is_Object at_Object is_Fn at_Fn is_Unary is_Update is_Bin is_Assign is_Member at_Member is_SuperProp
    at_SuperProp is_Cond is_Call at_Call is_New at_New is_Seq is_Ident is_Lit is_Tpl is_TaggedTpl at_TaggedTpl is_Arrow at_Arrow is_Class
    at_Class is_Yield at_Yield is_MetaProp is_Await is_Paren is_JSXMember is_JSXNamespacedName is_JSXEmpty is_JSXElement is_JSXFragment
    is_TsTypeAssertion is_TsConstAssertion is_TsNonNull is_TsAs is_TsInstantiation is_TsSatisfies is_PrivateName is_OptChain at_OptChain
    is_Invalid (exprs.Assign n) = is_Assign n
in_expr f D is_This is_Array at_Array is_Object at_Object is_Fn at_Fn is_Unary is_Update is_Bin is_Assign is_Member at_Member is_SuperProp
    at_SuperProp is_Cond is_Call at_Call is_New at_New is_Seq is_Ident is_Lit is_Tpl is_TaggedTpl at_TaggedTpl is_Arrow at_Arrow is_Class
    at_Class is_Yield at_Yield is_MetaProp is_Await is_Paren is_JSXMember is_JSXNamespacedName is_JSXEmpty is_JSXElement is_JSXFragment
    is_TsTypeAssertion is_TsConstAssertion is_TsNonNull is_TsAs is_TsInstantiation is_TsSatisfies is_PrivateName is_OptChain at_OptChain
    is_Invalid (exprs.Member n) = ap exprs.Member (at_Member n) ∙ is_Member n
in_expr f D is_This is_Array at_Array is_Object at_Object is_Fn at_Fn is_Unary is_Update is_Bin is_Assign is_Member at_Member is_SuperProp
    at_SuperProp is_Cond is_Call at_Call is_New at_New is_Seq is_Ident is_Lit is_Tpl is_TaggedTpl at_TaggedTpl is_Arrow at_Arrow is_Class
    at_Class is_Yield at_Yield is_MetaProp is_Await is_Paren is_JSXMember is_JSXNamespacedName is_JSXEmpty is_JSXElement is_JSXFragment
    is_TsTypeAssertion is_TsConstAssertion is_TsNonNull is_TsAs is_TsInstantiation is_TsSatisfies is_PrivateName is_OptChain at_OptChain
    is_Invalid (exprs.SuperProp n) = ap exprs.SuperProp (at_SuperProp n) ∙ is_SuperProp n
in_expr f D is_This is_Array at_Array is_Object at_Object is_Fn at_Fn is_Unary is_Update is_Bin is_Assign is_Member at_Member is_SuperProp
    at_SuperProp is_Cond is_Call at_Call is_New at_New is_Seq is_Ident is_Lit is_Tpl is_TaggedTpl at_TaggedTpl is_Arrow at_Arrow is_Class
    at_Class is_Yield at_Yield is_MetaProp is_Await is_Paren is_JSXMember is_JSXNamespacedName is_JSXEmpty is_JSXElement is_JSXFragment
    is_TsTypeAssertion is_TsConstAssertion is_TsNonNull is_TsAs is_TsInstantiation is_TsSatisfies is_PrivateName is_OptChain at_OptChain
    is_Invalid (exprs.Cond n) = is_Cond n
in_expr f D is_This is_Array at_Array is_Object at_Object is_Fn at_Fn is_Unary is_Update is_Bin is_Assign is_Member at_Member is_SuperProp
    at_SuperProp is_Cond is_Call at_Call is_New at_New is_Seq is_Ident is_Lit is_Tpl is_TaggedTpl at_TaggedTpl is_Arrow at_Arrow is_Class
    at_Class is_Yield at_Yield is_MetaProp is_Await is_Paren is_JSXMember is_JSXNamespacedName is_JSXEmpty is_JSXElement is_JSXFragment
    is_TsTypeAssertion is_TsConstAssertion is_TsNonNull is_TsAs is_TsInstantiation is_TsSatisfies is_PrivateName is_OptChain at_OptChain
    is_Invalid (exprs.Call n) = ap exprs.Call (at_Call n) ∙ is_Call n
in_expr f D is_This is_Array at_Array is_Object at_Object is_Fn at_Fn is_Unary is_Update is_Bin is_Assign is_Member at_Member is_SuperProp
    at_SuperProp is_Cond is_Call at_Call is_New at_New is_Seq is_Ident is_Lit is_Tpl is_TaggedTpl at_TaggedTpl is_Arrow at_Arrow is_Class
    at_Class is_Yield at_Yield is_MetaProp is_Await is_Paren is_JSXMember is_JSXNamespacedName is_JSXEmpty is_JSXElement is_JSXFragment
    is_TsTypeAssertion is_TsConstAssertion is_TsNonNull is_TsAs is_TsInstantiation is_TsSatisfies is_PrivateName is_OptChain at_OptChain
    is_Invalid (exprs.New n) = ap exprs.New (at_New n) ∙ is_New n
in_expr f D is_This is_Array at_Array is_Object at_Object is_Fn at_Fn is_Unary is_Update is_Bin is_Assign is_Member at_Member is_SuperProp
    at_SuperProp is_Cond is_Call at_Call is_New at_New is_Seq is_Ident is_Lit is_Tpl is_TaggedTpl at_TaggedTpl is_Arrow at_Arrow is_Class
    at_Class is_Yield at_Yield is_MetaProp is_Await is_Paren is_JSXMember is_JSXNamespacedName is_JSXEmpty is_JSXElement is_JSXFragment
    is_TsTypeAssertion is_TsConstAssertion is_TsNonNull is_TsAs is_TsInstantiation is_TsSatisfies is_PrivateName is_OptChain at_OptChain
    is_Invalid (exprs.Seq n) = is_Seq n
in_expr f D is_This is_Array at_Array is_Object at_Object is_Fn at_Fn is_Unary is_Update is_Bin is_Assign is_Member at_Member is_SuperProp
    at_SuperProp is_Cond is_Call at_Call is_New at_New is_Seq is_Ident is_Lit is_Tpl is_TaggedTpl at_TaggedTpl is_Arrow at_Arrow is_Class
    at_Class is_Yield at_Yield is_MetaProp is_Await is_Paren is_JSXMember is_JSXNamespacedName is_JSXEmpty is_JSXElement is_JSXFragment
    is_TsTypeAssertion is_TsConstAssertion is_TsNonNull is_TsAs is_TsInstantiation is_TsSatisfies is_PrivateName is_OptChain at_OptChain
    is_Invalid (exprs.Ident n) = is_Ident n
in_expr f D is_This is_Array at_Array is_Object at_Object is_Fn at_Fn is_Unary is_Update is_Bin is_Assign is_Member at_Member is_SuperProp
    at_SuperProp is_Cond is_Call at_Call is_New at_New is_Seq is_Ident is_Lit is_Tpl is_TaggedTpl at_TaggedTpl is_Arrow at_Arrow is_Class
    at_Class is_Yield at_Yield is_MetaProp is_Await is_Paren is_JSXMember is_JSXNamespacedName is_JSXEmpty is_JSXElement is_JSXFragment
    is_TsTypeAssertion is_TsConstAssertion is_TsNonNull is_TsAs is_TsInstantiation is_TsSatisfies is_PrivateName is_OptChain at_OptChain
    is_Invalid (exprs.Lit n) = is_Lit n
in_expr f D is_This is_Array at_Array is_Object at_Object is_Fn at_Fn is_Unary is_Update is_Bin is_Assign is_Member at_Member is_SuperProp
    at_SuperProp is_Cond is_Call at_Call is_New at_New is_Seq is_Ident is_Lit is_Tpl is_TaggedTpl at_TaggedTpl is_Arrow at_Arrow is_Class
    at_Class is_Yield at_Yield is_MetaProp is_Await is_Paren is_JSXMember is_JSXNamespacedName is_JSXEmpty is_JSXElement is_JSXFragment
    is_TsTypeAssertion is_TsConstAssertion is_TsNonNull is_TsAs is_TsInstantiation is_TsSatisfies is_PrivateName is_OptChain at_OptChain
    is_Invalid (exprs.Tpl n) = is_Tpl n
in_expr f D is_This is_Array at_Array is_Object at_Object is_Fn at_Fn is_Unary is_Update is_Bin is_Assign is_Member at_Member is_SuperProp
    at_SuperProp is_Cond is_Call at_Call is_New at_New is_Seq is_Ident is_Lit is_Tpl is_TaggedTpl at_TaggedTpl is_Arrow at_Arrow is_Class
    at_Class is_Yield at_Yield is_MetaProp is_Await is_Paren is_JSXMember is_JSXNamespacedName is_JSXEmpty is_JSXElement is_JSXFragment
    is_TsTypeAssertion is_TsConstAssertion is_TsNonNull is_TsAs is_TsInstantiation is_TsSatisfies is_PrivateName is_OptChain at_OptChain
    is_Invalid (exprs.TaggedTpl n) = ap exprs.TaggedTpl (at_TaggedTpl n) ∙ is_TaggedTpl n
in_expr f D is_This is_Array at_Array is_Object at_Object is_Fn at_Fn is_Unary is_Update is_Bin is_Assign is_Member at_Member is_SuperProp
    at_SuperProp is_Cond is_Call at_Call is_New at_New is_Seq is_Ident is_Lit is_Tpl is_TaggedTpl at_TaggedTpl is_Arrow at_Arrow is_Class
    at_Class is_Yield at_Yield is_MetaProp is_Await is_Paren is_JSXMember is_JSXNamespacedName is_JSXEmpty is_JSXElement is_JSXFragment
    is_TsTypeAssertion is_TsConstAssertion is_TsNonNull is_TsAs is_TsInstantiation is_TsSatisfies is_PrivateName is_OptChain at_OptChain
    is_Invalid (exprs.Arrow n) = ap exprs.Arrow (at_Arrow n) ∙ is_Arrow n
in_expr f D is_This is_Array at_Array is_Object at_Object is_Fn at_Fn is_Unary is_Update is_Bin is_Assign is_Member at_Member is_SuperProp
    at_SuperProp is_Cond is_Call at_Call is_New at_New is_Seq is_Ident is_Lit is_Tpl is_TaggedTpl at_TaggedTpl is_Arrow at_Arrow is_Class
    at_Class is_Yield at_Yield is_MetaProp is_Await is_Paren is_JSXMember is_JSXNamespacedName is_JSXEmpty is_JSXElement is_JSXFragment
    is_TsTypeAssertion is_TsConstAssertion is_TsNonNull is_TsAs is_TsInstantiation is_TsSatisfies is_PrivateName is_OptChain at_OptChain
    is_Invalid (exprs.Class n) = ap exprs.Class (at_Class n) ∙ is_Class n
in_expr f D is_This is_Array at_Array is_Object at_Object is_Fn at_Fn is_Unary is_Update is_Bin is_Assign is_Member at_Member is_SuperProp
    at_SuperProp is_Cond is_Call at_Call is_New at_New is_Seq is_Ident is_Lit is_Tpl is_TaggedTpl at_TaggedTpl is_Arrow at_Arrow is_Class
    at_Class is_Yield at_Yield is_MetaProp is_Await is_Paren is_JSXMember is_JSXNamespacedName is_JSXEmpty is_JSXElement is_JSXFragment
    is_TsTypeAssertion is_TsConstAssertion is_TsNonNull is_TsAs is_TsInstantiation is_TsSatisfies is_PrivateName is_OptChain at_OptChain
    is_Invalid (exprs.Yield n) = ap exprs.Yield (at_Yield n) ∙ is_Yield n
in_expr f D is_This is_Array at_Array is_Object at_Object is_Fn at_Fn is_Unary is_Update is_Bin is_Assign is_Member at_Member is_SuperProp
    at_SuperProp is_Cond is_Call at_Call is_New at_New is_Seq is_Ident is_Lit is_Tpl is_TaggedTpl at_TaggedTpl is_Arrow at_Arrow is_Class
    at_Class is_Yield at_Yield is_MetaProp is_Await is_Paren is_JSXMember is_JSXNamespacedName is_JSXEmpty is_JSXElement is_JSXFragment
    is_TsTypeAssertion is_TsConstAssertion is_TsNonNull is_TsAs is_TsInstantiation is_TsSatisfies is_PrivateName is_OptChain at_OptChain
    is_Invalid (exprs.MetaProp n) = is_MetaProp n
in_expr f D is_This is_Array at_Array is_Object at_Object is_Fn at_Fn is_Unary is_Update is_Bin is_Assign is_Member at_Member is_SuperProp
    at_SuperProp is_Cond is_Call at_Call is_New at_New is_Seq is_Ident is_Lit is_Tpl is_TaggedTpl at_TaggedTpl is_Arrow at_Arrow is_Class
    at_Class is_Yield at_Yield is_MetaProp is_Await is_Paren is_JSXMember is_JSXNamespacedName is_JSXEmpty is_JSXElement is_JSXFragment
    is_TsTypeAssertion is_TsConstAssertion is_TsNonNull is_TsAs is_TsInstantiation is_TsSatisfies is_PrivateName is_OptChain at_OptChain
    is_Invalid (exprs.Await n) = is_Await n
in_expr f D is_This is_Array at_Array is_Object at_Object is_Fn at_Fn is_Unary is_Update is_Bin is_Assign is_Member at_Member is_SuperProp
    at_SuperProp is_Cond is_Call at_Call is_New at_New is_Seq is_Ident is_Lit is_Tpl is_TaggedTpl at_TaggedTpl is_Arrow at_Arrow is_Class
    at_Class is_Yield at_Yield is_MetaProp is_Await is_Paren is_JSXMember is_JSXNamespacedName is_JSXEmpty is_JSXElement is_JSXFragment
    is_TsTypeAssertion is_TsConstAssertion is_TsNonNull is_TsAs is_TsInstantiation is_TsSatisfies is_PrivateName is_OptChain at_OptChain
    is_Invalid (exprs.Paren n) = is_Paren n
in_expr f D is_This is_Array at_Array is_Object at_Object is_Fn at_Fn is_Unary is_Update is_Bin is_Assign is_Member at_Member is_SuperProp
    at_SuperProp is_Cond is_Call at_Call is_New at_New is_Seq is_Ident is_Lit is_Tpl is_TaggedTpl at_TaggedTpl is_Arrow at_Arrow is_Class
    at_Class is_Yield at_Yield is_MetaProp is_Await is_Paren is_JSXMember is_JSXNamespacedName is_JSXEmpty is_JSXElement is_JSXFragment
    is_TsTypeAssertion is_TsConstAssertion is_TsNonNull is_TsAs is_TsInstantiation is_TsSatisfies is_PrivateName is_OptChain at_OptChain
    is_Invalid (exprs.JSXMember n) = is_JSXMember n
in_expr f D is_This is_Array at_Array is_Object at_Object is_Fn at_Fn is_Unary is_Update is_Bin is_Assign is_Member at_Member is_SuperProp
    at_SuperProp is_Cond is_Call at_Call is_New at_New is_Seq is_Ident is_Lit is_Tpl is_TaggedTpl at_TaggedTpl is_Arrow at_Arrow is_Class
    at_Class is_Yield at_Yield is_MetaProp is_Await is_Paren is_JSXMember is_JSXNamespacedName is_JSXEmpty is_JSXElement is_JSXFragment
    is_TsTypeAssertion is_TsConstAssertion is_TsNonNull is_TsAs is_TsInstantiation is_TsSatisfies is_PrivateName is_OptChain at_OptChain
    is_Invalid (exprs.JSXNamespacedName n) = is_JSXNamespacedName n
in_expr f D is_This is_Array at_Array is_Object at_Object is_Fn at_Fn is_Unary is_Update is_Bin is_Assign is_Member at_Member is_SuperProp
    at_SuperProp is_Cond is_Call at_Call is_New at_New is_Seq is_Ident is_Lit is_Tpl is_TaggedTpl at_TaggedTpl is_Arrow at_Arrow is_Class
    at_Class is_Yield at_Yield is_MetaProp is_Await is_Paren is_JSXMember is_JSXNamespacedName is_JSXEmpty is_JSXElement is_JSXFragment
    is_TsTypeAssertion is_TsConstAssertion is_TsNonNull is_TsAs is_TsInstantiation is_TsSatisfies is_PrivateName is_OptChain at_OptChain
    is_Invalid (exprs.JSXEmpty n) = is_JSXEmpty n
in_expr f D is_This is_Array at_Array is_Object at_Object is_Fn at_Fn is_Unary is_Update is_Bin is_Assign is_Member at_Member is_SuperProp
    at_SuperProp is_Cond is_Call at_Call is_New at_New is_Seq is_Ident is_Lit is_Tpl is_TaggedTpl at_TaggedTpl is_Arrow at_Arrow is_Class
    at_Class is_Yield at_Yield is_MetaProp is_Await is_Paren is_JSXMember is_JSXNamespacedName is_JSXEmpty is_JSXElement is_JSXFragment
    is_TsTypeAssertion is_TsConstAssertion is_TsNonNull is_TsAs is_TsInstantiation is_TsSatisfies is_PrivateName is_OptChain at_OptChain
    is_Invalid (exprs.JSXElement n) = is_JSXElement n
in_expr f D is_This is_Array at_Array is_Object at_Object is_Fn at_Fn is_Unary is_Update is_Bin is_Assign is_Member at_Member is_SuperProp
    at_SuperProp is_Cond is_Call at_Call is_New at_New is_Seq is_Ident is_Lit is_Tpl is_TaggedTpl at_TaggedTpl is_Arrow at_Arrow is_Class
    at_Class is_Yield at_Yield is_MetaProp is_Await is_Paren is_JSXMember is_JSXNamespacedName is_JSXEmpty is_JSXElement is_JSXFragment
    is_TsTypeAssertion is_TsConstAssertion is_TsNonNull is_TsAs is_TsInstantiation is_TsSatisfies is_PrivateName is_OptChain at_OptChain
    is_Invalid (exprs.JSXFragment n) = is_JSXFragment n
in_expr f D is_This is_Array at_Array is_Object at_Object is_Fn at_Fn is_Unary is_Update is_Bin is_Assign is_Member at_Member is_SuperProp
    at_SuperProp is_Cond is_Call at_Call is_New at_New is_Seq is_Ident is_Lit is_Tpl is_TaggedTpl at_TaggedTpl is_Arrow at_Arrow is_Class
    at_Class is_Yield at_Yield is_MetaProp is_Await is_Paren is_JSXMember is_JSXNamespacedName is_JSXEmpty is_JSXElement is_JSXFragment
    is_TsTypeAssertion is_TsConstAssertion is_TsNonNull is_TsAs is_TsInstantiation is_TsSatisfies is_PrivateName is_OptChain at_OptChain
    is_Invalid (exprs.TsTypeAssertion n) = is_TsTypeAssertion n
in_expr f D is_This is_Array at_Array is_Object at_Object is_Fn at_Fn is_Unary is_Update is_Bin is_Assign is_Member at_Member is_SuperProp
    at_SuperProp is_Cond is_Call at_Call is_New at_New is_Seq is_Ident is_Lit is_Tpl is_TaggedTpl at_TaggedTpl is_Arrow at_Arrow is_Class
    at_Class is_Yield at_Yield is_MetaProp is_Await is_Paren is_JSXMember is_JSXNamespacedName is_JSXEmpty is_JSXElement is_JSXFragment
    is_TsTypeAssertion is_TsConstAssertion is_TsNonNull is_TsAs is_TsInstantiation is_TsSatisfies is_PrivateName is_OptChain at_OptChain
    is_Invalid (exprs.TsConstAssertion n) = is_TsConstAssertion n
in_expr f D is_This is_Array at_Array is_Object at_Object is_Fn at_Fn is_Unary is_Update is_Bin is_Assign is_Member at_Member is_SuperProp
    at_SuperProp is_Cond is_Call at_Call is_New at_New is_Seq is_Ident is_Lit is_Tpl is_TaggedTpl at_TaggedTpl is_Arrow at_Arrow is_Class
    at_Class is_Yield at_Yield is_MetaProp is_Await is_Paren is_JSXMember is_JSXNamespacedName is_JSXEmpty is_JSXElement is_JSXFragment
    is_TsTypeAssertion is_TsConstAssertion is_TsNonNull is_TsAs is_TsInstantiation is_TsSatisfies is_PrivateName is_OptChain at_OptChain
    is_Invalid (exprs.TsNonNull n) = is_TsNonNull n
in_expr f D is_This is_Array at_Array is_Object at_Object is_Fn at_Fn is_Unary is_Update is_Bin is_Assign is_Member at_Member is_SuperProp
    at_SuperProp is_Cond is_Call at_Call is_New at_New is_Seq is_Ident is_Lit is_Tpl is_TaggedTpl at_TaggedTpl is_Arrow at_Arrow is_Class
    at_Class is_Yield at_Yield is_MetaProp is_Await is_Paren is_JSXMember is_JSXNamespacedName is_JSXEmpty is_JSXElement is_JSXFragment
    is_TsTypeAssertion is_TsConstAssertion is_TsNonNull is_TsAs is_TsInstantiation is_TsSatisfies is_PrivateName is_OptChain at_OptChain
    is_Invalid (exprs.TsAs n) = is_TsAs n
in_expr f D is_This is_Array at_Array is_Object at_Object is_Fn at_Fn is_Unary is_Update is_Bin is_Assign is_Member at_Member is_SuperProp
    at_SuperProp is_Cond is_Call at_Call is_New at_New is_Seq is_Ident is_Lit is_Tpl is_TaggedTpl at_TaggedTpl is_Arrow at_Arrow is_Class
    at_Class is_Yield at_Yield is_MetaProp is_Await is_Paren is_JSXMember is_JSXNamespacedName is_JSXEmpty is_JSXElement is_JSXFragment
    is_TsTypeAssertion is_TsConstAssertion is_TsNonNull is_TsAs is_TsInstantiation is_TsSatisfies is_PrivateName is_OptChain at_OptChain
    is_Invalid (exprs.TsInstantiation n) = is_TsInstantiation n
in_expr f D is_This is_Array at_Array is_Object at_Object is_Fn at_Fn is_Unary is_Update is_Bin is_Assign is_Member at_Member is_SuperProp
    at_SuperProp is_Cond is_Call at_Call is_New at_New is_Seq is_Ident is_Lit is_Tpl is_TaggedTpl at_TaggedTpl is_Arrow at_Arrow is_Class
    at_Class is_Yield at_Yield is_MetaProp is_Await is_Paren is_JSXMember is_JSXNamespacedName is_JSXEmpty is_JSXElement is_JSXFragment
    is_TsTypeAssertion is_TsConstAssertion is_TsNonNull is_TsAs is_TsInstantiation is_TsSatisfies is_PrivateName is_OptChain at_OptChain
    is_Invalid (exprs.TsSatisfies n) = is_TsSatisfies n
in_expr f D is_This is_Array at_Array is_Object at_Object is_Fn at_Fn is_Unary is_Update is_Bin is_Assign is_Member at_Member is_SuperProp
    at_SuperProp is_Cond is_Call at_Call is_New at_New is_Seq is_Ident is_Lit is_Tpl is_TaggedTpl at_TaggedTpl is_Arrow at_Arrow is_Class
    at_Class is_Yield at_Yield is_MetaProp is_Await is_Paren is_JSXMember is_JSXNamespacedName is_JSXEmpty is_JSXElement is_JSXFragment
    is_TsTypeAssertion is_TsConstAssertion is_TsNonNull is_TsAs is_TsInstantiation is_TsSatisfies is_PrivateName is_OptChain at_OptChain
    is_Invalid (exprs.PrivateName n) = is_PrivateName n
in_expr f D is_This is_Array at_Array is_Object at_Object is_Fn at_Fn is_Unary is_Update is_Bin is_Assign is_Member at_Member is_SuperProp
    at_SuperProp is_Cond is_Call at_Call is_New at_New is_Seq is_Ident is_Lit is_Tpl is_TaggedTpl at_TaggedTpl is_Arrow at_Arrow is_Class
    at_Class is_Yield at_Yield is_MetaProp is_Await is_Paren is_JSXMember is_JSXNamespacedName is_JSXEmpty is_JSXElement is_JSXFragment
    is_TsTypeAssertion is_TsConstAssertion is_TsNonNull is_TsAs is_TsInstantiation is_TsSatisfies is_PrivateName is_OptChain at_OptChain
    is_Invalid (exprs.OptChain n) = ap exprs.OptChain (at_OptChain n) ∙ is_OptChain n
in_expr f D is_This is_Array at_Array is_Object at_Object is_Fn at_Fn is_Unary is_Update is_Bin is_Assign is_Member at_Member is_SuperProp
    at_SuperProp is_Cond is_Call at_Call is_New at_New is_Seq is_Ident is_Lit is_Tpl is_TaggedTpl at_TaggedTpl is_Arrow at_Arrow is_Class
    at_Class is_Yield at_Yield is_MetaProp is_Await is_Paren is_JSXMember is_JSXNamespacedName is_JSXEmpty is_JSXElement is_JSXFragment
    is_TsTypeAssertion is_TsConstAssertion is_TsNonNull is_TsAs is_TsInstantiation is_TsSatisfies is_PrivateName is_OptChain at_OptChain
    is_Invalid (exprs.Invalid n) = is_Invalid n

pub in_opt_call : {X : Type 0} (f : X → X) (D : OptCall X → OptCall X)
    {to_a : Option (TsTypeParamInstantiationBox X) → Option (TsTypeParamInstantiationBox X)} → ((n : OptCall X) (a : Option
    (TsTypeParamInstantiationBox X)) → record n
    { callee = map_link f n.callee; args = vec_mapped (map_expr_or_spread (λ x. x) f) n.args; type_args = to_a a } ≡ D (record n
    { type_args = a })) → ((x : Option (TsTypeParamInstantiationBox X)) → map_option (map_link f) x ≡ to_a x) → (n : OptCall X) →
    map_opt_call (λ x. x) f n ≡ D n
in_opt_call f D is at_a n = (λ i. record n
    { callee = map_link f n.callee; args = vec_mapped (map_expr_or_spread (λ x. x) f) n.args; type_args = at_a n.type_args i }) ∙ is n
    n.type_args
