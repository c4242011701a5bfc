-- The rules of expressions.
use Rattle.std.specs.Prelude.{Bool, not, ◌==◌, length, List, codes}
use Rattle.swc_ecma_codegen_tree.specs.declared.exprs.ArrayLit.{ArrayLit}
use Rattle.swc_ecma_codegen_tree.specs.declared.exprs.AssignExpr.{AssignExpr}
use Rattle.swc_ecma_codegen_tree.specs.declared.exprs.AssignProp.{AssignProp}
use Rattle.swc_ecma_codegen_tree.specs.declared.exprs.AwaitExpr.{AwaitExpr}
use Rattle.swc_ecma_codegen_tree.specs.declared.exprs.BinExpr.{BinExpr}
use Rattle.swc_ecma_codegen_tree.specs.declared.exprs.CallExpr.{CallExpr}
use Rattle.swc_ecma_codegen_tree.specs.declared.exprs.Callee.{Callee}
use Rattle.swc_ecma_codegen_tree.specs.declared.exprs.ComputedPropName.{ComputedPropName}
use Rattle.swc_ecma_codegen_tree.specs.declared.exprs.CondExpr.{CondExpr}
use Rattle.swc_ecma_codegen_tree.specs.declared.exprs.ExprOrSpread.{ExprOrSpread}
use Rattle.swc_ecma_codegen_tree.specs.declared.exprs.GetterProp.{GetterProp}
use Rattle.swc_ecma_codegen_tree.specs.declared.exprs.KeyValueProp.{KeyValueProp}
use Rattle.swc_ecma_codegen_tree.specs.declared.exprs.MemberExpr.{MemberExpr}
use Rattle.swc_ecma_codegen_tree.specs.declared.exprs.MemberProp.{MemberProp}
use Rattle.swc_ecma_codegen_tree.specs.declared.exprs.MetaPropExpr.{MetaPropExpr}
use Rattle.swc_ecma_codegen_tree.specs.declared.exprs.MethodProp.{MethodProp}
use Rattle.swc_ecma_codegen_tree.specs.declared.exprs.NewExpr.{NewExpr}
use Rattle.swc_ecma_codegen_tree.specs.declared.exprs.ObjectLit.{ObjectLit}
use Rattle.swc_ecma_codegen_tree.specs.declared.exprs.OptCall.{OptCall}
use Rattle.swc_ecma_codegen_tree.specs.declared.exprs.OptChainBase.{OptChainBase}
use Rattle.swc_ecma_codegen_tree.specs.declared.exprs.OptChainExpr.{OptChainExpr}
use Rattle.swc_ecma_codegen_tree.specs.declared.exprs.ParenExpr.{ParenExpr}
use Rattle.swc_ecma_codegen_tree.specs.declared.exprs.Prop.{Prop}
use Rattle.swc_ecma_codegen_tree.specs.declared.exprs.PropName.{PropName}
use Rattle.swc_ecma_codegen_tree.specs.declared.exprs.PropOrSpread.{PropOrSpread}
use Rattle.swc_ecma_codegen_tree.specs.declared.exprs.SeqExpr.{SeqExpr}
use Rattle.swc_ecma_codegen_tree.specs.declared.exprs.SetterProp.{SetterProp}
use Rattle.swc_ecma_codegen_tree.specs.declared.exprs.SpreadElement.{SpreadElement}
use Rattle.swc_ecma_codegen_tree.specs.declared.exprs.SuperProp.{SuperProp}
use Rattle.swc_ecma_codegen_tree.specs.declared.exprs.SuperPropExpr.{SuperPropExpr}
use Rattle.swc_ecma_codegen_tree.specs.declared.exprs.TaggedTpl.{TaggedTpl}
use Rattle.swc_ecma_codegen_tree.specs.declared.exprs.ThisExpr.{ThisExpr}
use Rattle.swc_ecma_codegen_tree.specs.declared.exprs.Tpl.{Tpl}
use Rattle.swc_ecma_codegen_tree.specs.declared.exprs.TplElement.{TplElement}
use Rattle.swc_ecma_codegen_tree.specs.declared.exprs.UnaryExpr.{UnaryExpr}
use Rattle.swc_ecma_codegen_tree.specs.declared.exprs.UpdateExpr.{UpdateExpr}
use Rattle.swc_ecma_codegen_tree.specs.declared.exprs.YieldExpr.{YieldExpr}
use Rattle.swc_ecma_codegen_tree.specs.declared.exprs.PropOrSpread.TheVariants as prop_or_spreads
use Rattle.swc_ecma_codegen_tree.specs.declared.exprs.Prop.TheVariants as props
use Rattle.swc_ecma_codegen_tree.specs.declared.exprs.PropName.TheVariants as prop_names
use Rattle.swc_ecma_codegen_tree.specs.declared.exprs.MemberProp.TheVariants as member_props
use Rattle.swc_ecma_codegen_tree.specs.declared.exprs.SuperProp.TheVariants as super_props
use Rattle.swc_ecma_codegen_tree.specs.declared.exprs.Callee.TheVariants as callees
use Rattle.swc_ecma_codegen_tree.specs.declared.exprs.OptChainBase.TheVariants as opt_chain_bases
use Rattle.swc_ecma_codegen_grammar.specs.declared.roles.Role.TheVariants as roles
use Rattle.swc_ecma_codegen_grammar.specs.declared.roles.Role.TheVariants.{Annotation, AssignmentTarget, Block, ChainCall, ChainMember, Expression, Function, Pattern, PropertyName, TaggedTemplate, TypeArguments}
use Rattle.swc_ecma_codegen_grammar.specs.TemplatePhrases.{is_counted}
use Rattle.swc_ecma_codegen_validate.specs.TemplateStates.{is_element}
use Rattle.swc_ecma_codegen_validate.specs.Rules.{by_rule, Rules, Free, Each, Optional, Found, ◌&◌, rule, at, link, leaf, Findings}
use Rattle.swc_ecma_codegen_validate.specs.NameRules.{ident, ident_name, private_name, str_lit, number, big_int}

-- a part of a template, with a tag or without
abbrev pub element : Bool → TplElement → Findings
element tagged n = by_rule (is_element tagged n) (codes "a part of a template holds what would end it, or a malformed escape")

-- all of them
unfoldable pub elements : {X : Type 0} → Bool → List TplElement → Rules X
elements tagged quasis = at (codes "quasis") (Each quasis (λ x. Found (element tagged x)))

unfoldable pub tpl : {X : Type 0} → Bool → Tpl X → Rules X
tpl tagged n = rule (is_counted n.exprs.items n.quasis.items) (codes "a template hasn't one part more than expressions") & elements tagged n.quasis.items & at (codes "exprs") (Each n.exprs.items (λ x. link x Expression))

unfoldable pub chain_base : {X : Type 0} → Bool → OptChainBase X → Rules X
chain_base optional (opt_chain_bases.Member n) = link n (ChainMember optional)
chain_base optional (opt_chain_bases.Call n) = link n (ChainCall optional)

unfoldable pub opt_chain_expr : {X : Type 0} → OptChainExpr X → Rules X
opt_chain_expr n = at (codes "base") (chain_base n.optional n.base)

unfoldable pub this_expr : ThisExpr → Rules ⊥
this_expr n = Free

unfoldable pub unary_expr : {X : Type 0} → UnaryExpr X → Rules X
unary_expr n = at (codes "arg") (link n.arg Expression)

unfoldable pub update_expr : {X : Type 0} → UpdateExpr X → Rules X
update_expr n = at (codes "arg") (link n.arg Expression)

unfoldable pub bin_expr : {X : Type 0} → BinExpr X → Rules X
bin_expr n = at (codes "left") (link n.left Expression) & at (codes "right") (link n.right Expression)

unfoldable pub computed_prop_name : {X : Type 0} → ComputedPropName X → Rules X
computed_prop_name n = at (codes "expr") (link n.expr Expression)

unfoldable pub member_prop : {X : Type 0} → MemberProp X → Rules X
member_prop (member_props.Ident n) = leaf (ident_name n)
member_prop (member_props.PrivateName n) = leaf (private_name n)
member_prop (member_props.Computed n) = computed_prop_name n

unfoldable pub member_expr : {X : Type 0} → MemberExpr X → Rules X
member_expr n = at (codes "obj") (link n.obj roles.Callee) & at (codes "prop") (member_prop n.prop)

unfoldable pub super_prop : {X : Type 0} → SuperProp X → Rules X
super_prop (super_props.Ident n) = leaf (ident_name n)
super_prop (super_props.Computed n) = computed_prop_name n

unfoldable pub super_prop_expr : {X : Type 0} → SuperPropExpr X → Rules X
super_prop_expr n = at (codes "prop") (super_prop n.prop)

unfoldable pub spread_element : {X : Type 0} → SpreadElement X → Rules X
spread_element n = at (codes "expr") (link n.expr Expression)

unfoldable pub meta_prop_expr : MetaPropExpr → Rules ⊥
meta_prop_expr n = Free

unfoldable pub assign_expr : {X : Type 0} → AssignExpr X → Rules X
assign_expr n = at (codes "left") (link n.left AssignmentTarget) & at (codes "right") (link n.right Expression)

unfoldable pub yield_expr : {X : Type 0} → YieldExpr X → Rules X
yield_expr n = at (codes "arg") (Optional n.arg (λ x. link x Expression))

unfoldable pub await_expr : {X : Type 0} → AwaitExpr X → Rules X
await_expr n = at (codes "arg") (link n.arg Expression)

unfoldable pub cond_expr : {X : Type 0} → CondExpr X → Rules X
cond_expr n = at (codes "test") (link n.test Expression) & at (codes "cons") (link n.cons Expression) & at (codes "alt") (link n.alt Expression)

unfoldable pub seq_expr : {X : Type 0} → SeqExpr X → Rules X
seq_expr n = rule (not (length n.exprs.items == 0)) (codes "a sequence has no expression") & at (codes "exprs") (Each n.exprs.items (λ x. link x Expression))

unfoldable pub paren_expr : {X : Type 0} → ParenExpr X → Rules X
paren_expr n = at (codes "expr") (link n.expr Expression)

unfoldable pub expr_or_spread : {X : Type 0} → ExprOrSpread X → Rules X
expr_or_spread n = at (codes "expr") (link n.expr Expression)

unfoldable pub array_lit : {X : Type 0} → ArrayLit X → Rules X
array_lit n = at (codes "elems") (Each n.elems.items (λ x. Optional x expr_or_spread))

unfoldable pub callee : {X : Type 0} → Callee X → Rules X
callee (callees.Super n) = Free
callee (callees.Import n) = Free
callee (callees.Expr n) = link n roles.Callee

unfoldable pub call_expr : {X : Type 0} → CallExpr X → Rules X
call_expr n = at (codes "callee") (callee n.callee) & at (codes "type_args") (Optional n.type_args (λ x. link x TypeArguments)) & at (codes "args") (Each n.args.items expr_or_spread)

unfoldable pub new_expr : {X : Type 0} → NewExpr X → Rules X
new_expr n = at (codes "callee") (link n.callee Expression) & at (codes "type_args") (Optional n.type_args (λ x. link x TypeArguments)) & at (codes "args") (Optional n.args (λ x. Each x.items expr_or_spread))

unfoldable pub opt_call : {X : Type 0} → OptCall X → Rules X
opt_call n = at (codes "callee") (link n.callee roles.Callee) & at (codes "type_args") (Optional n.type_args (λ x. link x TypeArguments)) & at (codes "args") (Each n.args.items expr_or_spread)

unfoldable pub prop_name : {X : Type 0} → PropName X → Rules X
prop_name (prop_names.Ident n) = leaf (ident_name n)
prop_name (prop_names.Str n) = leaf (str_lit n.value)
prop_name (prop_names.Num n) = leaf (number n.value)
prop_name (prop_names.BigInt n) = leaf (big_int n.value)
prop_name (prop_names.Computed n) = computed_prop_name n

unfoldable pub key_value_prop : {X : Type 0} → KeyValueProp X → Rules X
key_value_prop n = at (codes "key") (prop_name n.key) & at (codes "value") (link n.value Expression)

unfoldable pub assign_prop : {X : Type 0} → AssignProp X → Rules X
assign_prop n = at (codes "key") (leaf (ident n.key)) & at (codes "value") (link n.value Expression)

unfoldable pub getter_prop : {X : Type 0} → GetterProp X → Rules X
getter_prop n = at (codes "key") (link n.key PropertyName) & at (codes "type_ann") (Optional n.type_ann (λ x. link x Annotation)) & at (codes "body") (Optional n.body (λ x. link x Block))

unfoldable pub setter_prop : {X : Type 0} → SetterProp X → Rules X
setter_prop n = at (codes "key") (link n.key PropertyName) & at (codes "this_param") (Optional n.this_param (λ x. link x Pattern)) & at (codes "param") (link n.param Pattern) & at (codes "body") (Optional n.body (λ x. link x Block))

unfoldable pub method_prop : {X : Type 0} → MethodProp X → Rules X
method_prop n = at (codes "key") (prop_name n.key) & at (codes "function") (link n.function Function)

unfoldable pub prop : {X : Type 0} → Prop X → Rules X
prop (props.Shorthand n) = leaf (ident n)
prop (props.KeyValue n) = key_value_prop n
prop (props.Assign n) = assign_prop n
prop (props.Getter n) = getter_prop n
prop (props.Setter n) = setter_prop n
prop (props.Method n) = method_prop n

unfoldable pub prop_or_spread : {X : Type 0} → PropOrSpread X → Rules X
prop_or_spread (prop_or_spreads.Spread n) = spread_element n
prop_or_spread (prop_or_spreads.Prop n) = prop n

unfoldable pub object_lit : {X : Type 0} → ObjectLit X → Rules X
object_lit n = at (codes "props") (Each n.props.items prop_or_spread)

unfoldable pub tagged_tpl : {X : Type 0} → TaggedTpl X → Rules X
tagged_tpl n = at (codes "tag") (link n.tag roles.Callee) & at (codes "type_params") (Optional n.type_params (λ x. link x TypeArguments)) & at (codes "tpl") (link n.tpl TaggedTemplate)
