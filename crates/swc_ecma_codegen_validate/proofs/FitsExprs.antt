-- The same of expressions and their parts.
use Rattle.std.proofs.Common.{◌≡◌, ℕ, suc, Bool, true, false, List, [], ◌∷◌, Option, Some, None, refl}
use Rattle.swc_ecma_codegen_tree.specs.declared.exprs.ArrayLit.{ArrayLit}
use Rattle.swc_ecma_codegen_tree.specs.declared.exprs.AssignExpr.{AssignExpr}
use Rattle.swc_ecma_codegen_tree.specs.declared.exprs.AssignProp.{AssignProp}
use Rattle.swc_ecma_codegen_tree.specs.declared.exprs.AwaitExpr.{AwaitExpr}
use Rattle.swc_ecma_codegen_tree.specs.declared.exprs.BinExpr.{BinExpr}
use Rattle.swc_ecma_codegen_tree.specs.declared.exprs.CallExpr.{CallExpr}
use Rattle.swc_ecma_codegen_tree.specs.declared.exprs.Callee.{Callee}
use Rattle.swc_ecma_codegen_tree.specs.declared.exprs.ComputedPropName.{ComputedPropName}
use Rattle.swc_ecma_codegen_tree.specs.declared.exprs.CondExpr.{CondExpr}
use Rattle.swc_ecma_codegen_tree.specs.declared.exprs.ExprOrSpread.{ExprOrSpread}
use Rattle.swc_ecma_codegen_tree.specs.declared.exprs.GetterProp.{GetterProp}
use Rattle.swc_ecma_codegen_tree.specs.declared.exprs.KeyValueProp.{KeyValueProp}
use Rattle.swc_ecma_codegen_tree.specs.declared.exprs.MemberExpr.{MemberExpr}
use Rattle.swc_ecma_codegen_tree.specs.declared.exprs.MemberProp.{MemberProp}
use Rattle.swc_ecma_codegen_tree.specs.declared.exprs.MetaPropExpr.{MetaPropExpr}
use Rattle.swc_ecma_codegen_tree.specs.declared.exprs.MethodProp.{MethodProp}
use Rattle.swc_ecma_codegen_tree.specs.declared.exprs.NewExpr.{NewExpr}
use Rattle.swc_ecma_codegen_tree.specs.declared.exprs.ObjectLit.{ObjectLit}
use Rattle.swc_ecma_codegen_tree.specs.declared.exprs.OptCall.{OptCall}
use Rattle.swc_ecma_codegen_tree.specs.declared.exprs.OptChainBase.{OptChainBase}
use Rattle.swc_ecma_codegen_tree.specs.declared.exprs.OptChainExpr.{OptChainExpr}
use Rattle.swc_ecma_codegen_tree.specs.declared.exprs.ParenExpr.{ParenExpr}
use Rattle.swc_ecma_codegen_tree.specs.declared.exprs.Prop.{Prop}
use Rattle.swc_ecma_codegen_tree.specs.declared.exprs.PropName.{PropName}
use Rattle.swc_ecma_codegen_tree.specs.declared.exprs.PropOrSpread.{PropOrSpread}
use Rattle.swc_ecma_codegen_tree.specs.declared.exprs.SeqExpr.{SeqExpr}
use Rattle.swc_ecma_codegen_tree.specs.declared.exprs.SetterProp.{SetterProp}
use Rattle.swc_ecma_codegen_tree.specs.declared.exprs.SpreadElement.{SpreadElement}
use Rattle.swc_ecma_codegen_tree.specs.declared.exprs.SuperProp.{SuperProp}
use Rattle.swc_ecma_codegen_tree.specs.declared.exprs.SuperPropExpr.{SuperPropExpr}
use Rattle.swc_ecma_codegen_tree.specs.declared.exprs.TaggedTpl.{TaggedTpl}
use Rattle.swc_ecma_codegen_tree.specs.declared.exprs.ThisExpr.{ThisExpr}
use Rattle.swc_ecma_codegen_tree.specs.declared.exprs.Tpl.{Tpl}
use Rattle.swc_ecma_codegen_tree.specs.declared.exprs.TplElement.{TplElement}
use Rattle.swc_ecma_codegen_tree.specs.declared.exprs.UnaryExpr.{UnaryExpr}
use Rattle.swc_ecma_codegen_tree.specs.declared.exprs.UpdateExpr.{UpdateExpr}
use Rattle.swc_ecma_codegen_tree.specs.declared.exprs.YieldExpr.{YieldExpr}
use Rattle.swc_ecma_codegen_tree.specs.declared.exprs.PropOrSpread.TheVariants as prop_or_spreads
use Rattle.swc_ecma_codegen_tree.specs.declared.exprs.Prop.TheVariants as props
use Rattle.swc_ecma_codegen_tree.specs.declared.exprs.PropName.TheVariants as prop_names
use Rattle.swc_ecma_codegen_tree.specs.declared.exprs.MemberProp.TheVariants as member_props
use Rattle.swc_ecma_codegen_tree.specs.declared.exprs.SuperProp.TheVariants as super_props
use Rattle.swc_ecma_codegen_tree.specs.declared.exprs.Callee.TheVariants as callees
use Rattle.swc_ecma_codegen_tree.specs.declared.exprs.OptChainBase.TheVariants as opt_chain_bases
use Rattle.swc_ecma_codegen_validate.specs.TemplateStates.{all_elements}
use Rattle.std.specs.declared.vec.Vec.{Vec}
use Rattle.swc_ecma_codegen_grammar.specs.declared.roles.Role.{Role}
use Rattle.swc_ecma_codegen_grammar.specs.declared.roles.Role.TheVariants.{Annotation, AssignmentTarget, ChainCall, ChainMember, Expression, Function, Pattern, PropertyName, TaggedTemplate, TypeArguments}
use Rattle.swc_ecma_codegen_grammar.specs.declared.roles.Role.TheVariants as roles
use Rattle.swc_ecma_codegen_grammar.specs.CallPhrases.{array_lit, call_expr, callee, chain_call, expr_or_spread, new_arguments, new_expr}
use Rattle.swc_ecma_codegen_grammar.specs.ElementPhrases.{element}
use Rattle.swc_ecma_codegen_grammar.specs.ExprPhrases.{assign_expr, await_expr, bin_expr, chain_base, cond_expr, member_expr, member_prop, meta_prop_expr, opt_chain_expr, paren_expr, seq_expr, super_prop, super_prop_expr, this_expr, unary_expr, update_expr, yield_expr}
use Rattle.swc_ecma_codegen_grammar.specs.KeyPhrases.{computed_prop_name, prop_name}
use Rattle.swc_ecma_codegen_grammar.specs.NamePhrases.{ident_name}
use Rattle.swc_ecma_codegen_grammar.specs.Phrases.{Phrase, is_possible}
use Rattle.swc_ecma_codegen_grammar.specs.PropPhrases.{assign_prop, getter_prop, key_value_prop, method_prop, object_lit, prop, prop_or_spread, setter_prop, spread_element}
use Rattle.swc_ecma_codegen_grammar.specs.TemplatePhrases.{tagged_tpl, tpl}
use Rattle.swc_ecma_codegen_validate.specs.ExprRules as rules
use Rattle.swc_ecma_codegen_validate.specs.Rules.{Findings, findings, no_links, in_each, in_some}
use Rattle.swc_ecma_codegen_validate.proofs.Fitting.{Held, each_fits, some_fits, either_fits, yield_arg_fits, optional_body_fits}
use Rattle.swc_ecma_codegen_validate.proofs.FitsNames.{big_int_fits, ident_fits, ident_name_fits, number_fits, private_name_fits, str_lit_fits}
use Rattle.swc_ecma_codegen_validate.proofs.CallsPossible.{array_lit_possible, call_possible, chain_call_possible, import_possible, listed_arguments_possible, new_possible, spread_possible as callsPossible_spread_possible}
use Rattle.swc_ecma_codegen_validate.proofs.Lists.{some_or_never}
use Rattle.swc_ecma_codegen_validate.proofs.Possible.{meta_prop_possible, yield_possible}
use Rattle.swc_ecma_codegen_validate.proofs.PropsPossible.{getter_possible, object_lit_possible, setter_possible}
use Rattle.swc_ecma_codegen_validate.proofs.TemplatesPossible.{tagged_possible, tpl_possible}

-- parts of templates
pub elements_fit : (i : ℕ) (tagged : Bool) (xs : List TplElement) → (in_each (rules.element tagged) i xs).none → all_elements tagged xs ≡ true
unfolding in_each all_elements
elements_fit i tagged [] h = refl
elements_fit i tagged (x ∷ xs) h = simp (h.0, elements_fit (suc i) tagged xs h.1)

pub this_expr_fits : (n : ThisExpr) → (findings no_links (rules.this_expr n)).none → is_possible (this_expr n) ≡ true
unfolding findings rules.this_expr this_expr is_possible
this_expr_fits n h = refl

pub meta_prop_expr_fits : (n : MetaPropExpr) → (findings no_links (rules.meta_prop_expr n)).none → is_possible (meta_prop_expr n) ≡ true
unfolding findings rules.meta_prop_expr meta_prop_expr
meta_prop_expr_fits n h = simp (meta_prop_possible)

module _ {X : Type 0} (f : X → Role → Findings) (g : X → Role → Phrase) (held : Held f g) where
  pub tpl_fits : (tagged : Bool) (n : Tpl X) → (findings f (rules.tpl tagged n)).none → is_possible (tpl g tagged n) ≡ true
  unfolding findings rules.tpl rules.elements
  tpl_fits tagged n h = simp (tpl_possible, h.0, elements_fit 0 tagged n.quasis.items h.1.0, each_fits _ _ _ n.exprs.items h.1.1 (λ x. held.node x.node.value Expression))

  pub chain_base_fits : (optional : Bool) (n : OptChainBase X) → (findings f (rules.chain_base optional n)).none → is_possible (chain_base g optional n) ≡ true
  unfolding findings rules.chain_base chain_base
  chain_base_fits optional (opt_chain_bases.Member n) h = held.node n.node.value (ChainMember optional) h
  chain_base_fits optional (opt_chain_bases.Call n) h = held.node n.node.value (ChainCall optional) h

  pub opt_chain_expr_fits : (n : OptChainExpr X) → (findings f (rules.opt_chain_expr n)).none → is_possible (opt_chain_expr g n) ≡ true
  unfolding findings rules.opt_chain_expr opt_chain_expr
  opt_chain_expr_fits n h = chain_base_fits n.optional n.base h

  pub unary_expr_fits : (n : UnaryExpr X) → (findings f (rules.unary_expr n)).none → is_possible (unary_expr g n) ≡ true
  unfolding findings rules.unary_expr unary_expr is_possible
  unary_expr_fits n h = simp (held.node n.arg.node.value Expression h)

  pub update_expr_fits : (n : UpdateExpr X) → (findings f (rules.update_expr n)).none → is_possible (update_expr g n) ≡ true
  unfolding findings rules.update_expr update_expr is_possible
  update_expr_fits n h = either_fits n.prefix _ _ (simp (held.node n.arg.node.value Expression h)) (simp (held.node n.arg.node.value Expression h))

  pub bin_expr_fits : (n : BinExpr X) → (findings f (rules.bin_expr n)).none → is_possible (bin_expr g n) ≡ true
  unfolding findings rules.bin_expr bin_expr is_possible
  bin_expr_fits n h = simp (held.node n.left.node.value Expression h.0, held.node n.right.node.value Expression h.1)

  pub computed_prop_name_fits : (n : ComputedPropName X) → (findings f (rules.computed_prop_name n)).none → is_possible (computed_prop_name g n) ≡ true
  unfolding findings rules.computed_prop_name computed_prop_name is_possible
  computed_prop_name_fits n h = simp (held.node n.expr.node.value Expression h)

  pub member_prop_fits : (n : MemberProp X) → (findings f (rules.member_prop n)).none → is_possible (member_prop g n) ≡ true
  unfolding findings rules.member_prop member_prop is_possible
  member_prop_fits (member_props.Ident n) h = simp (ident_name_fits n h)
  member_prop_fits (member_props.PrivateName n) h = simp (private_name_fits n h)
  member_prop_fits (member_props.Computed n) h = simp (computed_prop_name_fits n h)

  pub member_expr_fits : (n : MemberExpr X) → (findings f (rules.member_expr n)).none → is_possible (member_expr g n) ≡ true
  unfolding findings rules.member_expr member_expr is_possible
  member_expr_fits n h = simp (held.node n.obj.node.value roles.Callee h.0, member_prop_fits n.prop h.1)

  pub super_prop_fits : (n : SuperProp X) → (findings f (rules.super_prop n)).none → is_possible (super_prop g n) ≡ true
  unfolding findings rules.super_prop super_prop is_possible
  super_prop_fits (super_props.Ident n) h = simp (ident_name_fits n h)
  super_prop_fits (super_props.Computed n) h = simp (computed_prop_name_fits n h)

  pub super_prop_expr_fits : (n : SuperPropExpr X) → (findings f (rules.super_prop_expr n)).none → is_possible (super_prop_expr g n) ≡ true
  unfolding findings rules.super_prop_expr super_prop_expr is_possible
  super_prop_expr_fits n h = simp (super_prop_fits n.prop h)

  pub spread_element_fits : (n : SpreadElement X) → (findings f (rules.spread_element n)).none → is_possible (spread_element g n) ≡ true
  unfolding findings rules.spread_element spread_element is_possible
  spread_element_fits n h = simp (held.node n.expr.node.value Expression h)

  pub assign_expr_fits : (n : AssignExpr X) → (findings f (rules.assign_expr n)).none → is_possible (assign_expr g n) ≡ true
  unfolding findings rules.assign_expr assign_expr is_possible
  assign_expr_fits n h = simp (held.node n.left.node.value AssignmentTarget h.0, held.node n.right.node.value Expression h.1)

  pub yield_expr_fits : (n : YieldExpr X) → (findings f (rules.yield_expr n)).none → is_possible (yield_expr g n) ≡ true
  unfolding findings rules.yield_expr yield_expr is_possible
  yield_expr_fits n h = simp (yield_possible, yield_arg_fits f g held n.arg h)

  pub await_expr_fits : (n : AwaitExpr X) → (findings f (rules.await_expr n)).none → is_possible (await_expr g n) ≡ true
  unfolding findings rules.await_expr await_expr is_possible
  await_expr_fits n h = simp (held.node n.arg.node.value Expression h)

  pub cond_expr_fits : (n : CondExpr X) → (findings f (rules.cond_expr n)).none → is_possible (cond_expr g n) ≡ true
  unfolding findings rules.cond_expr cond_expr is_possible
  cond_expr_fits n h = simp (held.node n.test.node.value Expression h.0, held.node n.cons.node.value Expression h.1.0, held.node n.alt.node.value Expression h.1.1)

  pub seq_expr_fits : (n : SeqExpr X) → (findings f (rules.seq_expr n)).none → is_possible (seq_expr g n) ≡ true
  unfolding findings rules.seq_expr seq_expr
  seq_expr_fits n h = simp (some_or_never, h.0, each_fits _ _ _ n.exprs.items h.1 (λ x. held.node x.node.value Expression))

  pub paren_expr_fits : (n : ParenExpr X) → (findings f (rules.paren_expr n)).none → is_possible (paren_expr g n) ≡ true
  unfolding findings rules.paren_expr paren_expr is_possible
  paren_expr_fits n h = simp (held.node n.expr.node.value Expression h)

  pub expr_or_spread_fits : (n : ExprOrSpread X) → (findings f (rules.expr_or_spread n)).none → is_possible (expr_or_spread g n) ≡ true
  unfolding findings rules.expr_or_spread expr_or_spread is_possible
  expr_or_spread_fits n h = simp (callsPossible_spread_possible, held.node n.expr.node.value Expression h)

  pub array_lit_fits : (n : ArrayLit X) → (findings f (rules.array_lit n)).none → is_possible (array_lit g n) ≡ true
  unfolding findings rules.array_lit
  array_lit_fits n h = simp (array_lit_possible, each_fits _ (element (expr_or_spread g)) _ n.elems.items h (λ x r. some_fits _ (expr_or_spread g) x r expr_or_spread_fits))

  pub callee_fits : (n : Callee X) → (findings f (rules.callee n)).none → is_possible (callee g n) ≡ true
  unfolding findings rules.callee callee is_possible
  callee_fits (callees.Super n) h = refl
  callee_fits (callees.Import n) h = simp (import_possible)
  callee_fits (callees.Expr n) h = simp (held.node n.node.value roles.Callee h)

  pub call_expr_fits : (n : CallExpr X) → (findings f (rules.call_expr n)).none → is_possible (call_expr g n) ≡ true
  unfolding findings rules.call_expr
  call_expr_fits n h = simp (call_possible, callee_fits n.callee h.0, some_fits _ _ n.type_args h.1.0 (λ x. held.node x.node.value TypeArguments), each_fits _ (expr_or_spread g) _ n.args.items h.1.1 expr_or_spread_fits)

  pub new_arguments_fits : {Z : Type 0} (o : Option (Vec (ExprOrSpread X) Z)) → (in_some {A = Vec (ExprOrSpread X) Z} (λ x. in_each (λ y. findings f (rules.expr_or_spread y)) 0 x.items) o).none → is_possible (new_arguments g false o) ≡ true
  unfolding in_some new_arguments is_possible
  new_arguments_fits None h = refl
  new_arguments_fits (Some xs) h = simp (listed_arguments_possible g false xs.items, each_fits _ (expr_or_spread g) _ xs.items h expr_or_spread_fits)

  pub new_expr_fits : (n : NewExpr X) → (findings f (rules.new_expr n)).none → is_possible (new_expr g false n) ≡ true
  unfolding findings rules.new_expr
  new_expr_fits n h = simp (new_possible, held.node n.callee.node.value Expression h.0, some_fits _ _ n.type_args h.1.0 (λ x. held.node x.node.value TypeArguments), new_arguments_fits n.args h.1.1)

  pub opt_call_fits : (optional : Bool) (n : OptCall X) → (findings f (rules.opt_call n)).none → is_possible (chain_call g optional n) ≡ true
  unfolding findings rules.opt_call
  opt_call_fits optional n h = simp (chain_call_possible, held.node n.callee.node.value roles.Callee h.0, some_fits _ _ n.type_args h.1.0 (λ x. held.node x.node.value TypeArguments), each_fits _ (expr_or_spread g) _ n.args.items h.1.1 expr_or_spread_fits)

  pub prop_name_fits : (n : PropName X) → (findings f (rules.prop_name n)).none → is_possible (prop_name g n) ≡ true
  unfolding findings rules.prop_name prop_name ident_name is_possible
  prop_name_fits (prop_names.Ident n) h = simp (ident_name_fits n h)
  prop_name_fits (prop_names.Str n) h = simp (str_lit_fits n.value h)
  prop_name_fits (prop_names.Num n) h = simp (number_fits n.value h)
  prop_name_fits (prop_names.BigInt n) h = simp (big_int_fits n.value h)
  prop_name_fits (prop_names.Computed n) h = simp (computed_prop_name_fits n h)

  pub key_value_prop_fits : (n : KeyValueProp X) → (findings f (rules.key_value_prop n)).none → is_possible (key_value_prop g n) ≡ true
  unfolding findings rules.key_value_prop key_value_prop is_possible
  key_value_prop_fits n h = simp (prop_name_fits n.key h.0, held.node n.value.node.value Expression h.1)

  pub assign_prop_fits : (n : AssignProp X) → (findings f (rules.assign_prop n)).none → is_possible (assign_prop g n) ≡ true
  unfolding findings rules.assign_prop assign_prop is_possible
  assign_prop_fits n h = simp (ident_fits n.key h.0, held.node n.value.node.value Expression h.1)

  pub getter_prop_fits : (n : GetterProp X) → (findings f (rules.getter_prop n)).none → is_possible (getter_prop g n) ≡ true
  unfolding findings rules.getter_prop
  getter_prop_fits n h = simp (getter_possible, held.node n.key.node.value PropertyName h.0, some_fits _ _ n.type_ann h.1.0 (λ x. held.node x.node.value Annotation), optional_body_fits f g held n.body h.1.1)

  pub setter_prop_fits : (n : SetterProp X) → (findings f (rules.setter_prop n)).none → is_possible (setter_prop g n) ≡ true
  unfolding findings rules.setter_prop
  setter_prop_fits n h = simp (setter_possible, held.node n.key.node.value PropertyName h.0, some_fits _ _ n.this_param h.1.0 (λ x. held.node x.node.value Pattern), held.node n.param.node.value Pattern h.1.1.0, optional_body_fits f g held n.body h.1.1.1)

  pub method_prop_fits : (n : MethodProp X) → (findings f (rules.method_prop n)).none → is_possible (method_prop g n) ≡ true
  unfolding findings rules.method_prop method_prop is_possible
  method_prop_fits n h = simp (held.method_head n.function.node.value h.1, prop_name_fits n.key h.0, held.node n.function.node.value Function h.1)

  pub prop_fits : (n : Prop X) → (findings f (rules.prop n)).none → is_possible (prop g n) ≡ true
  unfolding findings rules.prop prop
  prop_fits (props.Shorthand n) h = simp (ident_fits n h)
  prop_fits (props.KeyValue n) h = simp (key_value_prop_fits n h)
  prop_fits (props.Assign n) h = simp (assign_prop_fits n h)
  prop_fits (props.Getter n) h = simp (getter_prop_fits n h)
  prop_fits (props.Setter n) h = simp (setter_prop_fits n h)
  prop_fits (props.Method n) h = simp (method_prop_fits n h)

  pub prop_or_spread_fits : (n : PropOrSpread X) → (findings f (rules.prop_or_spread n)).none → is_possible (prop_or_spread g n) ≡ true
  unfolding findings rules.prop_or_spread prop_or_spread
  prop_or_spread_fits (prop_or_spreads.Spread n) h = simp (spread_element_fits n h)
  prop_or_spread_fits (prop_or_spreads.Prop n) h = simp (prop_fits n h)

  pub object_lit_fits : (n : ObjectLit X) → (findings f (rules.object_lit n)).none → is_possible (object_lit g n) ≡ true
  unfolding findings rules.object_lit
  object_lit_fits n h = simp (object_lit_possible, each_fits _ (prop_or_spread g) _ n.props.items h prop_or_spread_fits)

  pub tagged_tpl_fits : (n : TaggedTpl X) → (findings f (rules.tagged_tpl n)).none → is_possible (tagged_tpl g n) ≡ true
  unfolding findings rules.tagged_tpl
  tagged_tpl_fits n h = simp (tagged_possible, held.node n.tag.node.value roles.Callee h.0, some_fits _ _ n.type_params h.1.0 (λ x. held.node x.node.value TypeArguments), held.node n.tpl.node.value TaggedTemplate h.1.1)
