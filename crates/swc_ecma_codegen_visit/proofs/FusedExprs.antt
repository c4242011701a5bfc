-- One map of expressions behind another is one map. Made by scripts/dev/make-visit-files.
use Rattle.std.proofs.Common.{◌≡◌, refl, ap}
use Rattle.std.specs.formers.vec.Vec.{mapped as vec_mapped}
use Rattle.swc_ecma_codegen_tree.specs.declared.exprs.ArrayLit.{ArrayLit}
use Rattle.swc_ecma_codegen_tree.specs.declared.exprs.ArrowExpr.{ArrowExpr}
use Rattle.swc_ecma_codegen_tree.specs.declared.exprs.BlockStmtOrExpr.{BlockStmtOrExpr}
use Rattle.swc_ecma_codegen_tree.specs.declared.exprs.CallExpr.{CallExpr}
use Rattle.swc_ecma_codegen_tree.specs.declared.exprs.Callee.{Callee}
use Rattle.swc_ecma_codegen_tree.specs.declared.exprs.ClassExpr.{ClassExpr}
use Rattle.swc_ecma_codegen_tree.specs.declared.exprs.Expr.{Expr}
use Rattle.swc_ecma_codegen_tree.specs.declared.exprs.FnExpr.{FnExpr}
use Rattle.swc_ecma_codegen_tree.specs.declared.exprs.GetterProp.{GetterProp}
use Rattle.swc_ecma_codegen_tree.specs.declared.idents.Ident.{Ident}
use Rattle.swc_ecma_codegen_tree.specs.declared.exprs.KeyValueProp.{KeyValueProp}
use Rattle.swc_ecma_codegen_tree.specs.declared.exprs.MemberExpr.{MemberExpr}
use Rattle.swc_ecma_codegen_tree.specs.declared.exprs.MemberProp.{MemberProp}
use Rattle.swc_ecma_codegen_tree.specs.declared.exprs.MethodProp.{MethodProp}
use Rattle.swc_ecma_codegen_tree.specs.declared.exprs.NewExpr.{NewExpr}
use Rattle.swc_ecma_codegen_tree.specs.declared.exprs.ObjectLit.{ObjectLit}
use Rattle.swc_ecma_codegen_tree.specs.declared.exprs.OptCall.{OptCall}
use Rattle.swc_ecma_codegen_tree.specs.declared.exprs.OptChainBase.{OptChainBase}
use Rattle.swc_ecma_codegen_tree.specs.declared.exprs.OptChainExpr.{OptChainExpr}
use Rattle.swc_ecma_codegen_tree.specs.declared.exprs.Prop.{Prop}
use Rattle.swc_ecma_codegen_tree.specs.declared.exprs.PropName.{PropName}
use Rattle.swc_ecma_codegen_tree.specs.declared.exprs.PropOrSpread.{PropOrSpread}
use Rattle.swc_ecma_codegen_tree.specs.declared.exprs.SeqExpr.{SeqExpr}
use Rattle.swc_ecma_codegen_tree.specs.declared.exprs.SetterProp.{SetterProp}
use Rattle.swc_ecma_codegen_tree.specs.declared.exprs.SuperProp.{SuperProp}
use Rattle.swc_ecma_codegen_tree.specs.declared.exprs.SuperPropExpr.{SuperPropExpr}
use Rattle.swc_ecma_codegen_tree.specs.declared.exprs.TaggedTpl.{TaggedTpl}
use Rattle.swc_ecma_codegen_tree.specs.declared.exprs.Tpl.{Tpl}
use Rattle.swc_ecma_codegen_tree.specs.declared.exprs.YieldExpr.{YieldExpr}
use Rattle.swc_ecma_codegen_tree.specs.declared.exprs.BlockStmtOrExpr.TheVariants as block_stmt_or_exprs
use Rattle.swc_ecma_codegen_tree.specs.declared.exprs.Callee.TheVariants as callees
use Rattle.swc_ecma_codegen_tree.specs.declared.exprs.Expr.TheVariants as exprs
use Rattle.swc_ecma_codegen_tree.specs.declared.exprs.MemberProp.TheVariants as member_props
use Rattle.swc_ecma_codegen_tree.specs.declared.exprs.OptChainBase.TheVariants as opt_chain_bases
use Rattle.swc_ecma_codegen_tree.specs.declared.exprs.Prop.TheVariants as props
use Rattle.swc_ecma_codegen_tree.specs.declared.exprs.PropName.TheVariants as prop_names
use Rattle.swc_ecma_codegen_tree.specs.declared.exprs.PropOrSpread.TheVariants as prop_or_spreads
use Rattle.swc_ecma_codegen_tree.specs.declared.exprs.SuperProp.TheVariants as super_props
use Rattle.swc_ecma_codegen_visit.specs.Mapping.{map_link, map_option}
use Rattle.swc_ecma_codegen_visit.specs.MappedExprs.{map_array_lit, map_arrow_expr, map_block_stmt_or_expr, map_call_expr, map_callee}
use Rattle.swc_ecma_codegen_visit.specs.MappedExprs.{map_class_expr, map_expr, map_expr_or_spread, map_fn_expr, map_getter_prop}
use Rattle.swc_ecma_codegen_visit.specs.MappedExprs.{map_key_value_prop, map_member_expr, map_member_prop, map_method_prop, map_new_expr}
use Rattle.swc_ecma_codegen_visit.specs.MappedExprs.{map_object_lit, map_opt_call, map_opt_chain_base, map_opt_chain_expr, map_prop}
use Rattle.swc_ecma_codegen_visit.specs.MappedExprs.{map_prop_name, map_prop_or_spread, map_seq_expr, map_setter_prop, map_super_prop}
use Rattle.swc_ecma_codegen_visit.specs.MappedExprs.{map_super_prop_expr, map_tagged_tpl, map_tpl, map_yield_expr}
use Rattle.swc_ecma_codegen_visit.proofs.Fused.{box_fused, option_fused, vec_fused}

pub fused_prop_name : {X : Type 0} (g h : Ident → Ident) (f k : X → X) (n : PropName X) → map_prop_name g f (map_prop_name h k n) ≡
    map_prop_name (λ x. g (h x)) (λ x. f (k x)) n
fused_prop_name g h f k (prop_names.Ident n) = refl
fused_prop_name g h f k (prop_names.Str n) = refl
fused_prop_name g h f k (prop_names.Num n) = refl
fused_prop_name g h f k (prop_names.BigInt n) = refl
fused_prop_name g h f k (prop_names.Computed n) = refl

pub fused_array_lit : {X : Type 0} (g h : Ident → Ident) (f k : X → X) (n : ArrayLit X) → map_array_lit g f (map_array_lit h k n) ≡
    map_array_lit (λ x. g (h x)) (λ x. f (k x)) n
fused_array_lit g h f k n = λ i. record n {
  elems = (vec_fused (map_option (map_expr_or_spread g f)) (map_option (map_expr_or_spread h k)) (map_option (map_expr_or_spread (λ x. g (h x)) (λ x. f (k x)))) (option_fused (map_expr_or_spread g f) (map_expr_or_spread h k) (map_expr_or_spread (λ x. g (h x)) (λ x. f (k x))) (λ x. refl))) n.elems i;
}

pub fused_key_value_prop : {X : Type 0} (g h : Ident → Ident) (f k : X → X) (n : KeyValueProp X) → map_key_value_prop g f
    (map_key_value_prop h k n) ≡ map_key_value_prop (λ x. g (h x)) (λ x. f (k x)) n
fused_key_value_prop g h f k n = λ i. record n { key = (fused_prop_name g h f k) n.key i; value = map_link (λ x. f (k x)) n.value }

pub fused_getter_prop : {X : Type 0} (g h : Ident → Ident) (f k : X → X) (n : GetterProp X) → map_getter_prop g f (map_getter_prop h k n) ≡
    map_getter_prop (λ x. g (h x)) (λ x. f (k x)) n
fused_getter_prop g h f k n = λ i. record n {
  key = map_link (λ x. f (k x)) n.key;
  type_ann = (option_fused (map_link f) (map_link k) (map_link (λ x. f (k x))) (λ x. refl)) n.type_ann i;
  body = (option_fused (map_link f) (map_link k) (map_link (λ x. f (k x))) (λ x. refl)) n.body i;
}

pub fused_setter_prop : {X : Type 0} (g h : Ident → Ident) (f k : X → X) (n : SetterProp X) → map_setter_prop g f (map_setter_prop h k n) ≡
    map_setter_prop (λ x. g (h x)) (λ x. f (k x)) n
fused_setter_prop g h f k n = λ i. record n {
  key = map_link (λ x. f (k x)) n.key;
  this_param = (option_fused (map_link f) (map_link k) (map_link (λ x. f (k x))) (λ x. refl)) n.this_param i;
  param = map_link (λ x. f (k x)) n.param;
  body = (option_fused (map_link f) (map_link k) (map_link (λ x. f (k x))) (λ x. refl)) n.body i;
}

pub fused_method_prop : {X : Type 0} (g h : Ident → Ident) (f k : X → X) (n : MethodProp X) → map_method_prop g f (map_method_prop h k n) ≡
    map_method_prop (λ x. g (h x)) (λ x. f (k x)) n
fused_method_prop g h f k n = λ i. record n { key = (fused_prop_name g h f k) n.key i; function = map_link (λ x. f (k x)) n.function }

pub fused_prop : {X : Type 0} (g h : Ident → Ident) (f k : X → X) (n : Prop X) → map_prop g f (map_prop h k n) ≡ map_prop (λ x. g (h x)) (λ
    x. f (k x)) n
fused_prop g h f k (props.Shorthand n) = refl
fused_prop g h f k (props.KeyValue n) = ap props.KeyValue ((fused_key_value_prop g h f k) n)
fused_prop g h f k (props.Assign n) = refl
fused_prop g h f k (props.Getter n) = ap props.Getter ((fused_getter_prop g h f k) n)
fused_prop g h f k (props.Setter n) = ap props.Setter ((fused_setter_prop g h f k) n)
fused_prop g h f k (props.Method n) = ap props.Method ((fused_method_prop g h f k) n)

pub fused_prop_or_spread : {X : Type 0} (g h : Ident → Ident) (f k : X → X) (n : PropOrSpread X) → map_prop_or_spread g f
    (map_prop_or_spread h k n) ≡ map_prop_or_spread (λ x. g (h x)) (λ x. f (k x)) n
fused_prop_or_spread g h f k (prop_or_spreads.Spread n) = refl
fused_prop_or_spread g h f k (prop_or_spreads.Prop n) = ap prop_or_spreads.Prop ((fused_prop g h f k) n)

pub fused_object_lit : {X : Type 0} (g h : Ident → Ident) (f k : X → X) (n : ObjectLit X) → map_object_lit g f (map_object_lit h k n) ≡
    map_object_lit (λ x. g (h x)) (λ x. f (k x)) n
fused_object_lit g h f k n = λ i. record n {
  props = (vec_fused (map_prop_or_spread g f) (map_prop_or_spread h k) (map_prop_or_spread (λ x. g (h x)) (λ x. f (k x))) (fused_prop_or_spread g h f k)) n.props i;
}

pub fused_fn_expr : {X : Type 0} (g h : Ident → Ident) (f k : X → X) (n : FnExpr X) → map_fn_expr g f (map_fn_expr h k n) ≡ map_fn_expr (λ
    x. g (h x)) (λ x. f (k x)) n
fused_fn_expr g h f k n = λ i. record n {
  ident = (option_fused g h (λ x. g (h x)) (λ x. refl)) n.ident i;
  function = map_link (λ x. f (k x)) n.function;
}

pub fused_member_prop : {X : Type 0} (g h : Ident → Ident) (f k : X → X) (n : MemberProp X) → map_member_prop g f (map_member_prop h k n) ≡
    map_member_prop (λ x. g (h x)) (λ x. f (k x)) n
fused_member_prop g h f k (member_props.Ident n) = refl
fused_member_prop g h f k (member_props.PrivateName n) = refl
fused_member_prop g h f k (member_props.Computed n) = refl

pub fused_member_expr : {X : Type 0} (g h : Ident → Ident) (f k : X → X) (n : MemberExpr X) → map_member_expr g f (map_member_expr h k n) ≡
    map_member_expr (λ x. g (h x)) (λ x. f (k x)) n
fused_member_expr g h f k n = λ i. record n { obj = map_link (λ x. f (k x)) n.obj; prop = (fused_member_prop g h f k) n.prop i }

pub fused_super_prop : {X : Type 0} (g h : Ident → Ident) (f k : X → X) (n : SuperProp X) → map_super_prop g f (map_super_prop h k n) ≡
    map_super_prop (λ x. g (h x)) (λ x. f (k x)) n
fused_super_prop g h f k (super_props.Ident n) = refl
fused_super_prop g h f k (super_props.Computed n) = refl

pub fused_super_prop_expr : {X : Type 0} (g h : Ident → Ident) (f k : X → X) (n : SuperPropExpr X) → map_super_prop_expr g f
    (map_super_prop_expr h k n) ≡ map_super_prop_expr (λ x. g (h x)) (λ x. f (k x)) n
fused_super_prop_expr g h f k n = λ i. record n { prop = (fused_super_prop g h f k) n.prop i }

pub fused_callee : {X : Type 0} (g h : Ident → Ident) (f k : X → X) (n : Callee X) → map_callee g f (map_callee h k n) ≡ map_callee (λ x. g
    (h x)) (λ x. f (k x)) n
fused_callee g h f k (callees.Super n) = refl
fused_callee g h f k (callees.Import n) = refl
fused_callee g h f k (callees.Expr n) = refl

pub fused_call_expr : {X : Type 0} (g h : Ident → Ident) (f k : X → X) (n : CallExpr X) → map_call_expr g f (map_call_expr h k n) ≡
    map_call_expr (λ x. g (h x)) (λ x. f (k x)) n
fused_call_expr g h f k n = λ i. record n {
  callee = (fused_callee g h f k) n.callee i;
  args = (vec_fused (map_expr_or_spread g f) (map_expr_or_spread h k) (map_expr_or_spread (λ x. g (h x)) (λ x. f (k x))) (λ x. refl)) n.args i;
  type_args = (option_fused (map_link f) (map_link k) (map_link (λ x. f (k x))) (λ x. refl)) n.type_args i;
}

pub fused_new_expr : {X : Type 0} (g h : Ident → Ident) (f k : X → X) (n : NewExpr X) → map_new_expr g f (map_new_expr h k n) ≡ map_new_expr
    (λ x. g (h x)) (λ x. f (k x)) n
fused_new_expr g h f k n = λ i. record n {
  callee = map_link (λ x. f (k x)) n.callee;
  args = (option_fused (vec_mapped (map_expr_or_spread g f)) (vec_mapped (map_expr_or_spread h k)) (vec_mapped (map_expr_or_spread (λ x. g (h x)) (λ x. f (k x)))) (vec_fused (map_expr_or_spread g f) (map_expr_or_spread h k) (map_expr_or_spread (λ x. g (h x)) (λ x. f (k x))) (λ x. refl))) n.args i;
  type_args = (option_fused (map_link f) (map_link k) (map_link (λ x. f (k x))) (λ x. refl)) n.type_args i;
}

pub fused_seq_expr : {X : Type 0} (g h : Ident → Ident) (f k : X → X) (n : SeqExpr X) → map_seq_expr g f (map_seq_expr h k n) ≡ map_seq_expr
    (λ x. g (h x)) (λ x. f (k x)) n
fused_seq_expr g h f k n = λ i. record n { exprs = (vec_fused (map_link f) (map_link k) (map_link (λ x. f (k x))) (λ x. refl)) n.exprs i }

pub fused_tagged_tpl : {X : Type 0} (g h : Ident → Ident) (f k : X → X) (n : TaggedTpl X) → map_tagged_tpl g f (map_tagged_tpl h k n) ≡
    map_tagged_tpl (λ x. g (h x)) (λ x. f (k x)) n
fused_tagged_tpl g h f k n = λ i. record n {
  tag = map_link (λ x. f (k x)) n.tag;
  type_params = (option_fused (map_link f) (map_link k) (map_link (λ x. f (k x))) (λ x. refl)) n.type_params i;
  tpl = map_link (λ x. f (k x)) n.tpl;
}

pub fused_block_stmt_or_expr : {X : Type 0} (g h : Ident → Ident) (f k : X → X) (n : BlockStmtOrExpr X) → map_block_stmt_or_expr g f
    (map_block_stmt_or_expr h k n) ≡ map_block_stmt_or_expr (λ x. g (h x)) (λ x. f (k x)) n
fused_block_stmt_or_expr g h f k (block_stmt_or_exprs.BlockStmt n) = refl
fused_block_stmt_or_expr g h f k (block_stmt_or_exprs.Expr n) = refl

pub fused_arrow_expr : {X : Type 0} (g h : Ident → Ident) (f k : X → X) (n : ArrowExpr X) → map_arrow_expr g f (map_arrow_expr h k n) ≡
    map_arrow_expr (λ x. g (h x)) (λ x. f (k x)) n
fused_arrow_expr g h f k n = λ i. record n {
  params = (vec_fused (map_link f) (map_link k) (map_link (λ x. f (k x))) (λ x. refl)) n.params i;
  body = (fused_block_stmt_or_expr g h f k) n.body i;
  type_params = (option_fused (map_link f) (map_link k) (map_link (λ x. f (k x))) (λ x. refl)) n.type_params i;
  return_type = (option_fused (map_link f) (map_link k) (map_link (λ x. f (k x))) (λ x. refl)) n.return_type i;
}

pub fused_class_expr : {X : Type 0} (g h : Ident → Ident) (f k : X → X) (n : ClassExpr X) → map_class_expr g f (map_class_expr h k n) ≡
    map_class_expr (λ x. g (h x)) (λ x. f (k x)) n
fused_class_expr g h f k n = λ i. record n {
  ident = (option_fused g h (λ x. g (h x)) (λ x. refl)) n.ident i;
  class = map_link (λ x. f (k x)) n.class;
}

pub fused_yield_expr : {X : Type 0} (g h : Ident → Ident) (f k : X → X) (n : YieldExpr X) → map_yield_expr g f (map_yield_expr h k n) ≡
    map_yield_expr (λ x. g (h x)) (λ x. f (k x)) n
fused_yield_expr g h f k n = λ i. record n { arg = (option_fused (map_link f) (map_link k) (map_link (λ x. f (k x))) (λ x. refl)) n.arg i }

pub fused_opt_chain_base : {X : Type 0} (g h : Ident → Ident) (f k : X → X) (n : OptChainBase X) → map_opt_chain_base g f
    (map_opt_chain_base h k n) ≡ map_opt_chain_base (λ x. g (h x)) (λ x. f (k x)) n
fused_opt_chain_base g h f k (opt_chain_bases.Member n) = refl
fused_opt_chain_base g h f k (opt_chain_bases.Call n) = refl

pub fused_opt_chain_expr : {X : Type 0} (g h : Ident → Ident) (f k : X → X) (n : OptChainExpr X) → map_opt_chain_expr g f
    (map_opt_chain_expr h k n) ≡ map_opt_chain_expr (λ x. g (h x)) (λ x. f (k x)) n
fused_opt_chain_expr g h f k n = λ i. record n { base = (fused_opt_chain_base g h f k) n.base i }

pub fused_expr : {X : Type 0} (g h : Ident → Ident) (f k : X → X) (n : Expr X) → map_expr g f (map_expr h k n) ≡ map_expr (λ x. g (h x)) (λ
    x. f (k x)) n
fused_expr g h f k (exprs.This n) = refl
fused_expr g h f k (exprs.Array n) = ap exprs.Array ((fused_array_lit g h f k) n)
fused_expr g h f k (exprs.Object n) = ap exprs.Object ((fused_object_lit g h f k) n)
fused_expr g h f k (exprs.Fn n) = ap exprs.Fn ((fused_fn_expr g h f k) n)
fused_expr g h f k (exprs.Unary n) = refl
fused_expr g h f k (exprs.Update n) = refl
fused_expr g h f k (exprs.Bin n) = refl
fused_expr g h f k (exprs.Assign n) = refl
fused_expr g h f k (exprs.Member n) = ap exprs.Member ((fused_member_expr g h f k) n)
fused_expr g h f k (exprs.SuperProp n) = ap exprs.SuperProp ((fused_super_prop_expr g h f k) n)
fused_expr g h f k (exprs.Cond n) = refl
fused_expr g h f k (exprs.Call n) = ap exprs.Call ((fused_call_expr g h f k) n)
fused_expr g h f k (exprs.New n) = ap exprs.New ((fused_new_expr g h f k) n)
fused_expr g h f k (exprs.Seq n) = ap exprs.Seq ((fused_seq_expr g h f k) n)
fused_expr g h f k (exprs.Ident n) = refl
fused_expr g h f k (exprs.Lit n) = refl
fused_expr g h f k (exprs.Tpl n) = refl
fused_expr g h f k (exprs.TaggedTpl n) = ap exprs.TaggedTpl ((fused_tagged_tpl g h f k) n)
fused_expr g h f k (exprs.Arrow n) = ap exprs.Arrow ((box_fused (map_arrow_expr g f) (map_arrow_expr h k) (map_arrow_expr (λ x. g (h x)) (λ
    x. f (k x))) (fused_arrow_expr g h f k)) n)
fused_expr g h f k (exprs.Class n) = ap exprs.Class ((fused_class_expr g h f k) n)
fused_expr g h f k (exprs.Yield n) = ap exprs.Yield ((fused_yield_expr g h f k) n)
fused_expr g h f k (exprs.MetaProp n) = refl
fused_expr g h f k (exprs.Await n) = refl
fused_expr g h f k (exprs.Paren n) = refl
fused_expr g h f k (exprs.JSXMember n) = refl
fused_expr g h f k (exprs.JSXNamespacedName n) = refl
fused_expr g h f k (exprs.JSXEmpty n) = refl
fused_expr g h f k (exprs.JSXElement n) = refl
fused_expr g h f k (exprs.JSXFragment n) = refl
fused_expr g h f k (exprs.TsTypeAssertion n) = refl
fused_expr g h f k (exprs.TsConstAssertion n) = refl
fused_expr g h f k (exprs.TsNonNull n) = refl
fused_expr g h f k (exprs.TsAs n) = refl
fused_expr g h f k (exprs.TsInstantiation n) = refl
fused_expr g h f k (exprs.TsSatisfies n) = refl
fused_expr g h f k (exprs.PrivateName n) = refl
fused_expr g h f k (exprs.OptChain n) = ap exprs.OptChain ((fused_opt_chain_expr g h f k) n)
fused_expr g h f k (exprs.Invalid n) = refl

pub fused_opt_call : {X : Type 0} (g h : Ident → Ident) (f k : X → X) (n : OptCall X) → map_opt_call g f (map_opt_call h k n) ≡ map_opt_call
    (λ x. g (h x)) (λ x. f (k x)) n
fused_opt_call g h f k n = λ i. record n {
  callee = map_link (λ x. f (k x)) n.callee;
  args = (vec_fused (map_expr_or_spread g f) (map_expr_or_spread h k) (map_expr_or_spread (λ x. g (h x)) (λ x. f (k x))) (λ x. refl)) n.args i;
  type_args = (option_fused (map_link f) (map_link k) (map_link (λ x. f (k x))) (λ x. refl)) n.type_args i;
}

pub fused_tpl : {X : Type 0} (g h : Ident → Ident) (f k : X → X) (n : Tpl X) → map_tpl g f (map_tpl h k n) ≡ map_tpl (λ x. g (h x)) (λ x. f
    (k x)) n
fused_tpl g h f k n = λ i. record n { exprs = (vec_fused (map_link f) (map_link k) (map_link (λ x. f (k x))) (λ x. refl)) n.exprs i }
