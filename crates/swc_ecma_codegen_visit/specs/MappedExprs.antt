-- Maps of expressions: of each type, over names and what links hold as something else. Made by scripts/dev/make-visit-files.
use Rattle.std.specs.formers.vec.Vec.{mapped as vec_mapped}
use Rattle.swc_ecma_codegen_tree.specs.declared.exprs.ArrayLit.{ArrayLit}
use Rattle.swc_ecma_codegen_tree.specs.declared.exprs.ArrowExpr.{ArrowExpr}
use Rattle.swc_ecma_codegen_tree.specs.declared.exprs.AssignExpr.{AssignExpr}
use Rattle.swc_ecma_codegen_tree.specs.declared.exprs.AssignProp.{AssignProp}
use Rattle.swc_ecma_codegen_tree.specs.declared.exprs.AwaitExpr.{AwaitExpr}
use Rattle.swc_ecma_codegen_tree.specs.declared.exprs.BinExpr.{BinExpr}
use Rattle.swc_ecma_codegen_tree.specs.declared.exprs.BlockStmtOrExpr.{BlockStmtOrExpr}
use Rattle.swc_ecma_codegen_tree.specs.declared.exprs.CallExpr.{CallExpr}
use Rattle.swc_ecma_codegen_tree.specs.declared.exprs.Callee.{Callee}
use Rattle.swc_ecma_codegen_tree.specs.declared.exprs.ClassExpr.{ClassExpr}
use Rattle.swc_ecma_codegen_tree.specs.declared.exprs.ComputedPropName.{ComputedPropName}
use Rattle.swc_ecma_codegen_tree.specs.declared.exprs.CondExpr.{CondExpr}
use Rattle.swc_ecma_codegen_tree.specs.declared.exprs.Expr.{Expr}
use Rattle.swc_ecma_codegen_tree.specs.declared.exprs.ExprOrSpread.{ExprOrSpread}
use Rattle.swc_ecma_codegen_tree.specs.declared.exprs.FnExpr.{FnExpr}
use Rattle.swc_ecma_codegen_tree.specs.declared.exprs.GetterProp.{GetterProp}
use Rattle.swc_ecma_codegen_tree.specs.declared.idents.Ident.{Ident}
use Rattle.swc_ecma_codegen_tree.specs.declared.jsx.JSXMemberExpr.{JSXMemberExpr}
use Rattle.swc_ecma_codegen_tree.specs.declared.exprs.KeyValueProp.{KeyValueProp}
use Rattle.swc_ecma_codegen_tree.specs.declared.exprs.MemberExpr.{MemberExpr}
use Rattle.swc_ecma_codegen_tree.specs.declared.exprs.MemberProp.{MemberProp}
use Rattle.swc_ecma_codegen_tree.specs.declared.exprs.MethodProp.{MethodProp}
use Rattle.swc_ecma_codegen_tree.specs.declared.exprs.NewExpr.{NewExpr}
use Rattle.swc_ecma_codegen_tree.specs.declared.exprs.ObjectLit.{ObjectLit}
use Rattle.swc_ecma_codegen_tree.specs.declared.exprs.OptCall.{OptCall}
use Rattle.swc_ecma_codegen_tree.specs.declared.exprs.OptChainBase.{OptChainBase}
use Rattle.swc_ecma_codegen_tree.specs.declared.exprs.OptChainExpr.{OptChainExpr}
use Rattle.swc_ecma_codegen_tree.specs.declared.exprs.ParenExpr.{ParenExpr}
use Rattle.swc_ecma_codegen_tree.specs.declared.exprs.Prop.{Prop}
use Rattle.swc_ecma_codegen_tree.specs.declared.exprs.PropName.{PropName}
use Rattle.swc_ecma_codegen_tree.specs.declared.exprs.PropOrSpread.{PropOrSpread}
use Rattle.swc_ecma_codegen_tree.specs.declared.exprs.SeqExpr.{SeqExpr}
use Rattle.swc_ecma_codegen_tree.specs.declared.exprs.SetterProp.{SetterProp}
use Rattle.swc_ecma_codegen_tree.specs.declared.exprs.SpreadElement.{SpreadElement}
use Rattle.swc_ecma_codegen_tree.specs.declared.exprs.SuperProp.{SuperProp}
use Rattle.swc_ecma_codegen_tree.specs.declared.exprs.SuperPropExpr.{SuperPropExpr}
use Rattle.swc_ecma_codegen_tree.specs.declared.exprs.TaggedTpl.{TaggedTpl}
use Rattle.swc_ecma_codegen_tree.specs.declared.exprs.Tpl.{Tpl}
use Rattle.swc_ecma_codegen_tree.specs.declared.ts_exprs.TsAsExpr.{TsAsExpr}
use Rattle.swc_ecma_codegen_tree.specs.declared.ts_exprs.TsConstAssertion.{TsConstAssertion}
use Rattle.swc_ecma_codegen_tree.specs.declared.ts_exprs.TsInstantiation.{TsInstantiation}
use Rattle.swc_ecma_codegen_tree.specs.declared.ts_exprs.TsNonNullExpr.{TsNonNullExpr}
use Rattle.swc_ecma_codegen_tree.specs.declared.ts_exprs.TsSatisfiesExpr.{TsSatisfiesExpr}
use Rattle.swc_ecma_codegen_tree.specs.declared.ts_exprs.TsTypeAssertion.{TsTypeAssertion}
use Rattle.swc_ecma_codegen_tree.specs.declared.exprs.UnaryExpr.{UnaryExpr}
use Rattle.swc_ecma_codegen_tree.specs.declared.exprs.UpdateExpr.{UpdateExpr}
use Rattle.swc_ecma_codegen_tree.specs.declared.exprs.YieldExpr.{YieldExpr}
use Rattle.swc_ecma_codegen_tree.specs.declared.exprs.BlockStmtOrExpr.TheVariants as block_stmt_or_exprs
use Rattle.swc_ecma_codegen_tree.specs.declared.exprs.Callee.TheVariants as callees
use Rattle.swc_ecma_codegen_tree.specs.declared.exprs.Expr.TheVariants as exprs
use Rattle.swc_ecma_codegen_tree.specs.declared.exprs.MemberProp.TheVariants as member_props
use Rattle.swc_ecma_codegen_tree.specs.declared.exprs.OptChainBase.TheVariants as opt_chain_bases
use Rattle.swc_ecma_codegen_tree.specs.declared.exprs.Prop.TheVariants as props
use Rattle.swc_ecma_codegen_tree.specs.declared.exprs.PropName.TheVariants as prop_names
use Rattle.swc_ecma_codegen_tree.specs.declared.exprs.PropOrSpread.TheVariants as prop_or_spreads
use Rattle.swc_ecma_codegen_tree.specs.declared.exprs.SuperProp.TheVariants as super_props
use Rattle.swc_ecma_codegen_visit.specs.Mapping.{map_box, map_link, map_option}

abbrev pub map_computed_prop_name : {X : Type 0} → (Ident → Ident) → (X → X) → ComputedPropName X → ComputedPropName X
map_computed_prop_name g f n = record n { expr = map_link f n.expr }

abbrev pub map_prop_name : {X : Type 0} → (Ident → Ident) → (X → X) → PropName X → PropName X
map_prop_name g f (prop_names.Ident n) = prop_names.Ident n
map_prop_name g f (prop_names.Str n) = prop_names.Str n
map_prop_name g f (prop_names.Num n) = prop_names.Num n
map_prop_name g f (prop_names.BigInt n) = prop_names.BigInt n
map_prop_name g f (prop_names.Computed n) = prop_names.Computed (map_computed_prop_name g f n)

abbrev pub map_expr_or_spread : {X : Type 0} → (Ident → Ident) → (X → X) → ExprOrSpread X → ExprOrSpread X
map_expr_or_spread g f n = record n { expr = map_link f n.expr }

abbrev pub map_array_lit : {X : Type 0} → (Ident → Ident) → (X → X) → ArrayLit X → ArrayLit X
map_array_lit g f n = record n { elems = vec_mapped (map_option (map_expr_or_spread g f)) n.elems }

abbrev pub map_spread_element : {X : Type 0} → (Ident → Ident) → (X → X) → SpreadElement X → SpreadElement X
map_spread_element g f n = record n { expr = map_link f n.expr }

abbrev pub map_key_value_prop : {X : Type 0} → (Ident → Ident) → (X → X) → KeyValueProp X → KeyValueProp X
map_key_value_prop g f n = record n { key = map_prop_name g f n.key; value = map_link f n.value }

abbrev pub map_assign_prop : {X : Type 0} → (Ident → Ident) → (X → X) → AssignProp X → AssignProp X
map_assign_prop g f n = record n { key = g n.key; value = map_link f n.value }

abbrev pub map_getter_prop : {X : Type 0} → (Ident → Ident) → (X → X) → GetterProp X → GetterProp X
map_getter_prop g f n = record n {
  key = map_link f n.key;
  type_ann = map_option (map_link f) n.type_ann;
  body = map_option (map_link f) n.body;
}

abbrev pub map_setter_prop : {X : Type 0} → (Ident → Ident) → (X → X) → SetterProp X → SetterProp X
map_setter_prop g f n = record n {
  key = map_link f n.key;
  this_param = map_option (map_link f) n.this_param;
  param = map_link f n.param;
  body = map_option (map_link f) n.body;
}

abbrev pub map_method_prop : {X : Type 0} → (Ident → Ident) → (X → X) → MethodProp X → MethodProp X
map_method_prop g f n = record n { key = map_prop_name g f n.key; function = map_link f n.function }

abbrev pub map_prop : {X : Type 0} → (Ident → Ident) → (X → X) → Prop X → Prop X
map_prop g f (props.Shorthand n) = props.Shorthand (g n)
map_prop g f (props.KeyValue n) = props.KeyValue (map_key_value_prop g f n)
map_prop g f (props.Assign n) = props.Assign (map_assign_prop g f n)
map_prop g f (props.Getter n) = props.Getter (map_getter_prop g f n)
map_prop g f (props.Setter n) = props.Setter (map_setter_prop g f n)
map_prop g f (props.Method n) = props.Method (map_method_prop g f n)

abbrev pub map_prop_or_spread : {X : Type 0} → (Ident → Ident) → (X → X) → PropOrSpread X → PropOrSpread X
map_prop_or_spread g f (prop_or_spreads.Spread n) = prop_or_spreads.Spread (map_spread_element g f n)
map_prop_or_spread g f (prop_or_spreads.Prop n) = prop_or_spreads.Prop (map_prop g f n)

abbrev pub map_object_lit : {X : Type 0} → (Ident → Ident) → (X → X) → ObjectLit X → ObjectLit X
map_object_lit g f n = record n { props = vec_mapped (map_prop_or_spread g f) n.props }

abbrev pub map_fn_expr : {X : Type 0} → (Ident → Ident) → (X → X) → FnExpr X → FnExpr X
map_fn_expr g f n = record n { ident = map_option g n.ident; function = map_link f n.function }

abbrev pub map_unary_expr : {X : Type 0} → (Ident → Ident) → (X → X) → UnaryExpr X → UnaryExpr X
map_unary_expr g f n = record n { arg = map_link f n.arg }

abbrev pub map_update_expr : {X : Type 0} → (Ident → Ident) → (X → X) → UpdateExpr X → UpdateExpr X
map_update_expr g f n = record n { arg = map_link f n.arg }

abbrev pub map_bin_expr : {X : Type 0} → (Ident → Ident) → (X → X) → BinExpr X → BinExpr X
map_bin_expr g f n = record n { left = map_link f n.left; right = map_link f n.right }

abbrev pub map_assign_expr : {X : Type 0} → (Ident → Ident) → (X → X) → AssignExpr X → AssignExpr X
map_assign_expr g f n = record n { left = map_link f n.left; right = map_link f n.right }

abbrev pub map_member_prop : {X : Type 0} → (Ident → Ident) → (X → X) → MemberProp X → MemberProp X
map_member_prop g f (member_props.Ident n) = member_props.Ident n
map_member_prop g f (member_props.PrivateName n) = member_props.PrivateName n
map_member_prop g f (member_props.Computed n) = member_props.Computed (map_computed_prop_name g f n)

abbrev pub map_member_expr : {X : Type 0} → (Ident → Ident) → (X → X) → MemberExpr X → MemberExpr X
map_member_expr g f n = record n { obj = map_link f n.obj; prop = map_member_prop g f n.prop }

abbrev pub map_super_prop : {X : Type 0} → (Ident → Ident) → (X → X) → SuperProp X → SuperProp X
map_super_prop g f (super_props.Ident n) = super_props.Ident n
map_super_prop g f (super_props.Computed n) = super_props.Computed (map_computed_prop_name g f n)

abbrev pub map_super_prop_expr : {X : Type 0} → (Ident → Ident) → (X → X) → SuperPropExpr X → SuperPropExpr X
map_super_prop_expr g f n = record n { prop = map_super_prop g f n.prop }

abbrev pub map_cond_expr : {X : Type 0} → (Ident → Ident) → (X → X) → CondExpr X → CondExpr X
map_cond_expr g f n = record n { test = map_link f n.test; cons = map_link f n.cons; alt = map_link f n.alt }

abbrev pub map_callee : {X : Type 0} → (Ident → Ident) → (X → X) → Callee X → Callee X
map_callee g f (callees.Super n) = callees.Super n
map_callee g f (callees.Import n) = callees.Import n
map_callee g f (callees.Expr n) = callees.Expr (map_link f n)

abbrev pub map_call_expr : {X : Type 0} → (Ident → Ident) → (X → X) → CallExpr X → CallExpr X
map_call_expr g f n = record n {
  callee = map_callee g f n.callee;
  args = vec_mapped (map_expr_or_spread g f) n.args;
  type_args = map_option (map_link f) n.type_args;
}

abbrev pub map_new_expr : {X : Type 0} → (Ident → Ident) → (X → X) → NewExpr X → NewExpr X
map_new_expr g f n = record n {
  callee = map_link f n.callee;
  args = map_option (vec_mapped (map_expr_or_spread g f)) n.args;
  type_args = map_option (map_link f) n.type_args;
}

abbrev pub map_seq_expr : {X : Type 0} → (Ident → Ident) → (X → X) → SeqExpr X → SeqExpr X
map_seq_expr g f n = record n { exprs = vec_mapped (map_link f) n.exprs }

abbrev pub map_tagged_tpl : {X : Type 0} → (Ident → Ident) → (X → X) → TaggedTpl X → TaggedTpl X
map_tagged_tpl g f n = record n { tag = map_link f n.tag; type_params = map_option (map_link f) n.type_params; tpl = map_link f n.tpl }

abbrev pub map_block_stmt_or_expr : {X : Type 0} → (Ident → Ident) → (X → X) → BlockStmtOrExpr X → BlockStmtOrExpr X
map_block_stmt_or_expr g f (block_stmt_or_exprs.BlockStmt n) = block_stmt_or_exprs.BlockStmt (map_link f n)
map_block_stmt_or_expr g f (block_stmt_or_exprs.Expr n) = block_stmt_or_exprs.Expr (map_link f n)

abbrev pub map_arrow_expr : {X : Type 0} → (Ident → Ident) → (X → X) → ArrowExpr X → ArrowExpr X
map_arrow_expr g f n = record n {
  params = vec_mapped (map_link f) n.params;
  body = map_block_stmt_or_expr g f n.body;
  type_params = map_option (map_link f) n.type_params;
  return_type = map_option (map_link f) n.return_type;
}

abbrev pub map_class_expr : {X : Type 0} → (Ident → Ident) → (X → X) → ClassExpr X → ClassExpr X
map_class_expr g f n = record n { ident = map_option g n.ident; class = map_link f n.class }

abbrev pub map_yield_expr : {X : Type 0} → (Ident → Ident) → (X → X) → YieldExpr X → YieldExpr X
map_yield_expr g f n = record n { arg = map_option (map_link f) n.arg }

abbrev pub map_await_expr : {X : Type 0} → (Ident → Ident) → (X → X) → AwaitExpr X → AwaitExpr X
map_await_expr g f n = record n { arg = map_link f n.arg }

abbrev pub map_paren_expr : {X : Type 0} → (Ident → Ident) → (X → X) → ParenExpr X → ParenExpr X
map_paren_expr g f n = record n { expr = map_link f n.expr }

abbrev pub map_jsx_member_expr : {X : Type 0} → (Ident → Ident) → (X → X) → JSXMemberExpr X → JSXMemberExpr X
map_jsx_member_expr g f n = record n { obj = map_link f n.obj }

abbrev pub map_ts_type_assertion : {X : Type 0} → (Ident → Ident) → (X → X) → TsTypeAssertion X → TsTypeAssertion X
map_ts_type_assertion g f n = record n { expr = map_link f n.expr; type_ann = map_link f n.type_ann }

abbrev pub map_ts_const_assertion : {X : Type 0} → (Ident → Ident) → (X → X) → TsConstAssertion X → TsConstAssertion X
map_ts_const_assertion g f n = record n { expr = map_link f n.expr }

abbrev pub map_ts_non_null_expr : {X : Type 0} → (Ident → Ident) → (X → X) → TsNonNullExpr X → TsNonNullExpr X
map_ts_non_null_expr g f n = record n { expr = map_link f n.expr }

abbrev pub map_ts_as_expr : {X : Type 0} → (Ident → Ident) → (X → X) → TsAsExpr X → TsAsExpr X
map_ts_as_expr g f n = record n { expr = map_link f n.expr; type_ann = map_link f n.type_ann }

abbrev pub map_ts_instantiation : {X : Type 0} → (Ident → Ident) → (X → X) → TsInstantiation X → TsInstantiation X
map_ts_instantiation g f n = record n { expr = map_link f n.expr; type_args = map_link f n.type_args }

abbrev pub map_ts_satisfies_expr : {X : Type 0} → (Ident → Ident) → (X → X) → TsSatisfiesExpr X → TsSatisfiesExpr X
map_ts_satisfies_expr g f n = record n { expr = map_link f n.expr; type_ann = map_link f n.type_ann }

abbrev pub map_opt_chain_base : {X : Type 0} → (Ident → Ident) → (X → X) → OptChainBase X → OptChainBase X
map_opt_chain_base g f (opt_chain_bases.Member n) = opt_chain_bases.Member (map_link f n)
map_opt_chain_base g f (opt_chain_bases.Call n) = opt_chain_bases.Call (map_link f n)

abbrev pub map_opt_chain_expr : {X : Type 0} → (Ident → Ident) → (X → X) → OptChainExpr X → OptChainExpr X
map_opt_chain_expr g f n = record n { base = map_opt_chain_base g f n.base }

abbrev pub map_expr : {X : Type 0} → (Ident → Ident) → (X → X) → Expr X → Expr X
map_expr g f (exprs.This n) = exprs.This n
map_expr g f (exprs.Array n) = exprs.Array (map_array_lit g f n)
map_expr g f (exprs.Object n) = exprs.Object (map_object_lit g f n)
map_expr g f (exprs.Fn n) = exprs.Fn (map_fn_expr g f n)
map_expr g f (exprs.Unary n) = exprs.Unary (map_unary_expr g f n)
map_expr g f (exprs.Update n) = exprs.Update (map_update_expr g f n)
map_expr g f (exprs.Bin n) = exprs.Bin (map_bin_expr g f n)
map_expr g f (exprs.Assign n) = exprs.Assign (map_assign_expr g f n)
map_expr g f (exprs.Member n) = exprs.Member (map_member_expr g f n)
map_expr g f (exprs.SuperProp n) = exprs.SuperProp (map_super_prop_expr g f n)
map_expr g f (exprs.Cond n) = exprs.Cond (map_cond_expr g f n)
map_expr g f (exprs.Call n) = exprs.Call (map_call_expr g f n)
map_expr g f (exprs.New n) = exprs.New (map_new_expr g f n)
map_expr g f (exprs.Seq n) = exprs.Seq (map_seq_expr g f n)
map_expr g f (exprs.Ident n) = exprs.Ident (g n)
map_expr g f (exprs.Lit n) = exprs.Lit n
map_expr g f (exprs.Tpl n) = exprs.Tpl (map_link f n)
map_expr g f (exprs.TaggedTpl n) = exprs.TaggedTpl (map_tagged_tpl g f n)
map_expr g f (exprs.Arrow n) = exprs.Arrow (map_box (map_arrow_expr g f) n)
map_expr g f (exprs.Class n) = exprs.Class (map_class_expr g f n)
map_expr g f (exprs.Yield n) = exprs.Yield (map_yield_expr g f n)
map_expr g f (exprs.MetaProp n) = exprs.MetaProp n
map_expr g f (exprs.Await n) = exprs.Await (map_await_expr g f n)
map_expr g f (exprs.Paren n) = exprs.Paren (map_paren_expr g f n)
map_expr g f (exprs.JSXMember n) = exprs.JSXMember (map_jsx_member_expr g f n)
map_expr g f (exprs.JSXNamespacedName n) = exprs.JSXNamespacedName n
map_expr g f (exprs.JSXEmpty n) = exprs.JSXEmpty n
map_expr g f (exprs.JSXElement n) = exprs.JSXElement (map_link f n)
map_expr g f (exprs.JSXFragment n) = exprs.JSXFragment (map_link f n)
map_expr g f (exprs.TsTypeAssertion n) = exprs.TsTypeAssertion (map_ts_type_assertion g f n)
map_expr g f (exprs.TsConstAssertion n) = exprs.TsConstAssertion (map_ts_const_assertion g f n)
map_expr g f (exprs.TsNonNull n) = exprs.TsNonNull (map_ts_non_null_expr g f n)
map_expr g f (exprs.TsAs n) = exprs.TsAs (map_ts_as_expr g f n)
map_expr g f (exprs.TsInstantiation n) = exprs.TsInstantiation (map_ts_instantiation g f n)
map_expr g f (exprs.TsSatisfies n) = exprs.TsSatisfies (map_ts_satisfies_expr g f n)
map_expr g f (exprs.PrivateName n) = exprs.PrivateName n
map_expr g f (exprs.OptChain n) = exprs.OptChain (map_opt_chain_expr g f n)
map_expr g f (exprs.Invalid n) = exprs.Invalid n

abbrev pub map_opt_call : {X : Type 0} → (Ident → Ident) → (X → X) → OptCall X → OptCall X
map_opt_call g f n = record n {
  callee = map_link f n.callee;
  args = vec_mapped (map_expr_or_spread g f) n.args;
  type_args = map_option (map_link f) n.type_args;
}

abbrev pub map_tpl : {X : Type 0} → (Ident → Ident) → (X → X) → Tpl X → Tpl X
map_tpl g f n = record n { exprs = vec_mapped (map_link f) n.exprs }
