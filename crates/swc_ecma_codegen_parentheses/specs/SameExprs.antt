-- Expressions that are the same but for what their links hold: that stands in the relation `m`.
use Rattle.std.specs.Prelude.{◌≡◌, Bool, true, false, Box, List, [], ◌∷◌, Option, Some, None, if◌then◌else◌}
use Rattle.std.specs.declared.vec.Vec.{Vec}
use Rattle.std.specs.declared.alloc.Global.{Global}
use Rattle.swc_ecma_codegen_tree.specs.declared.exprs.ArrayLit.{ArrayLit}
use Rattle.swc_ecma_codegen_tree.specs.declared.exprs.ArrowExpr.{ArrowExpr}
use Rattle.swc_ecma_codegen_tree.specs.declared.exprs.AssignExpr.{AssignExpr}
use Rattle.swc_ecma_codegen_tree.specs.declared.exprs.AwaitExpr.{AwaitExpr}
use Rattle.swc_ecma_codegen_tree.specs.declared.exprs.BinExpr.{BinExpr}
use Rattle.swc_ecma_codegen_tree.specs.declared.exprs.BlockStmtOrExpr.{BlockStmtOrExpr}
use Rattle.swc_ecma_codegen_tree.specs.declared.exprs.BlockStmtOrExpr.TheVariants as block_stmt_or_exprs
use Rattle.swc_ecma_codegen_tree.specs.declared.exprs.CallExpr.{CallExpr}
use Rattle.swc_ecma_codegen_tree.specs.declared.exprs.Callee.{Callee}
use Rattle.swc_ecma_codegen_tree.specs.declared.exprs.Callee.TheVariants as callees
use Rattle.swc_ecma_codegen_tree.specs.declared.exprs.ClassExpr.{ClassExpr}
use Rattle.swc_ecma_codegen_tree.specs.declared.exprs.CondExpr.{CondExpr}
use Rattle.swc_ecma_codegen_tree.specs.declared.exprs.Expr.{Expr}
use Rattle.swc_ecma_codegen_tree.specs.declared.exprs.Expr.TheVariants as exprs
use Rattle.swc_ecma_codegen_tree.specs.declared.exprs.ExprOrSpread.{ExprOrSpread}
use Rattle.swc_ecma_codegen_tree.specs.declared.exprs.FnExpr.{FnExpr}
use Rattle.swc_ecma_codegen_tree.specs.declared.exprs.MemberExpr.{MemberExpr}
use Rattle.swc_ecma_codegen_tree.specs.declared.exprs.MemberProp.{MemberProp}
use Rattle.swc_ecma_codegen_tree.specs.declared.exprs.MemberProp.TheVariants as member_props
use Rattle.swc_ecma_codegen_tree.specs.declared.exprs.NewExpr.{NewExpr}
use Rattle.swc_ecma_codegen_tree.specs.declared.exprs.OptCall.{OptCall}
use Rattle.swc_ecma_codegen_tree.specs.declared.exprs.OptChainBase.{OptChainBase}
use Rattle.swc_ecma_codegen_tree.specs.declared.exprs.OptChainBase.TheVariants as opt_chain_bases
use Rattle.swc_ecma_codegen_tree.specs.declared.exprs.OptChainExpr.{OptChainExpr}
use Rattle.swc_ecma_codegen_tree.specs.declared.exprs.ParenExpr.{ParenExpr}
use Rattle.swc_ecma_codegen_tree.specs.declared.exprs.SeqExpr.{SeqExpr}
use Rattle.swc_ecma_codegen_tree.specs.declared.exprs.SuperProp.{SuperProp}
use Rattle.swc_ecma_codegen_tree.specs.declared.exprs.SuperProp.TheVariants as super_props
use Rattle.swc_ecma_codegen_tree.specs.declared.exprs.SuperPropExpr.{SuperPropExpr}
use Rattle.swc_ecma_codegen_tree.specs.declared.exprs.TaggedTpl.{TaggedTpl}
use Rattle.swc_ecma_codegen_tree.specs.declared.exprs.Tpl.{Tpl}
use Rattle.swc_ecma_codegen_tree.specs.declared.exprs.UnaryExpr.{UnaryExpr}
use Rattle.swc_ecma_codegen_tree.specs.declared.exprs.UpdateExpr.{UpdateExpr}
use Rattle.swc_ecma_codegen_tree.specs.declared.exprs.YieldExpr.{YieldExpr}
use Rattle.swc_ecma_codegen_tree.specs.declared.exprs.ObjectLit.{ObjectLit}
use Rattle.swc_ecma_codegen_tree.specs.declared.links.Link.{Link}
use Rattle.swc_ecma_codegen_tree.specs.Links.{ExprBox, JSXElementBox, JSXFragmentBox, TplBox}
use Rattle.swc_ecma_codegen_tree.specs.declared.ts_exprs.TsAsExpr.{TsAsExpr}
use Rattle.swc_ecma_codegen_tree.specs.declared.ts_exprs.TsConstAssertion.{TsConstAssertion}
use Rattle.swc_ecma_codegen_tree.specs.declared.ts_exprs.TsInstantiation.{TsInstantiation}
use Rattle.swc_ecma_codegen_tree.specs.declared.ts_exprs.TsNonNullExpr.{TsNonNullExpr}
use Rattle.swc_ecma_codegen_tree.specs.declared.ts_exprs.TsSatisfiesExpr.{TsSatisfiesExpr}
use Rattle.swc_ecma_codegen_tree.specs.declared.ts_exprs.TsTypeAssertion.{TsTypeAssertion}
use Rattle.swc_ecma_codegen_parentheses.specs.declared.mends.Usage.{Usage}
use Rattle.swc_ecma_codegen_parentheses.specs.declared.mends.Usage.TheVariants as usages
use Rattle.swc_ecma_codegen_parentheses.specs.declared.operands.Operand.{Operand}
use Rattle.swc_ecma_codegen_parentheses.specs.declared.operands.Operand.TheVariants as operands
use Rattle.swc_ecma_codegen_syntax.specs.declared.nonterminals.Nonterminal.TheVariants as nt
use Rattle.swc_ecma_codegen_parentheses.specs.Lists.{Pairwise, bracketed, linked, linked_as, optionally}
use Rattle.swc_ecma_codegen_parentheses.specs.SameObjects.{same_computed_prop_name, same_object_lit}
use Rattle.swc_ecma_codegen_parentheses.specs.SameTsExprs.{same_ts_as_expr, same_ts_const_assertion, same_ts_instantiation, same_ts_non_null_expr, same_ts_satisfies_expr, same_ts_type_assertion}

unfoldable pub same_expr_or_spread : {X : Type 0} → (Usage → X → X → Type 0) → ExprOrSpread X → ExprOrSpread X → Type 0
same_expr_or_spread m n r = (r ≡ record n { expr = r.expr }) × bracketed nt.AssignmentExpression m n.expr r.expr

unfoldable pub same_array_lit : {X : Type 0} → (Usage → X → X → Type 0) → ArrayLit X → ArrayLit X → Type 0
same_array_lit m n r = (r ≡ record n { elems = r.elems }) × Pairwise (optionally (same_expr_or_spread m)) n.elems.items r.elems.items

unfoldable pub same_fn_expr : {X : Type 0} → (Usage → X → X → Type 0) → FnExpr X → FnExpr X → Type 0
same_fn_expr m n r = (r ≡ record n { function = r.function }) × linked m n.function r.function

-- what two links hold that are used as an operand
abbrev pub operand : {X : Type 0} → Operand → (Usage → X → X → Type 0) → ExprBox X → ExprBox X → Type 0
operand which m n r = linked_as (usages.Operand which) m n r

-- as the operand of `++` or `--`
abbrev pub update_operand : Bool → Operand
update_operand prefix = if prefix then operands.Prefix else operands.Postfix

unfoldable pub same_unary_expr : {X : Type 0} → (Usage → X → X → Type 0) → UnaryExpr X → UnaryExpr X → Type 0
same_unary_expr m n r = (r ≡ record n { arg = r.arg }) × operand operands.Unary m n.arg r.arg

unfoldable pub same_update_expr : {X : Type 0} → (Usage → X → X → Type 0) → UpdateExpr X → UpdateExpr X → Type 0
same_update_expr m n r = (r ≡ record n { arg = r.arg }) × operand (update_operand n.prefix) m n.arg r.arg

unfoldable pub same_bin_expr : {X : Type 0} → (Usage → X → X → Type 0) → BinExpr X → BinExpr X → Type 0
same_bin_expr m n r =
    (r ≡ record n { left = r.left; right = r.right }) × (operand (operands.Left n.op) m n.left r.left × operand (operands.Right n.op) m n.right r.right)

unfoldable pub same_assign_expr : {X : Type 0} → (Usage → X → X → Type 0) → AssignExpr X → AssignExpr X → Type 0
same_assign_expr m n r =
    (r ≡ record n { left = r.left; right = r.right }) × (linked_as (usages.Operand operands.Assigned) m n.left r.left × operand operands.Last m n.right r.right)

unfoldable pub same_member_prop : {X : Type 0} → (Usage → X → X → Type 0) → MemberProp X → MemberProp X → Type 0
same_member_prop m (member_props.Computed n) (member_props.Computed r) = same_computed_prop_name nt.Expression m n r
same_member_prop m n r = n ≡ r

-- as the object of a property
unfoldable pub object_operand : {X : Type 0} → MemberProp X → Operand
object_operand (member_props.Computed n) = operands.Indexed
object_operand n = operands.Called

unfoldable pub same_member_expr : {X : Type 0} → (Usage → X → X → Type 0) → MemberExpr X → MemberExpr X → Type 0
same_member_expr m n r = (r ≡ record n { obj = r.obj; prop = r.prop }) × (operand (object_operand n.prop) m n.obj r.obj × same_member_prop m n.prop r.prop)

unfoldable pub same_super_prop : {X : Type 0} → (Usage → X → X → Type 0) → SuperProp X → SuperProp X → Type 0
same_super_prop m (super_props.Computed n) (super_props.Computed r) = same_computed_prop_name nt.Expression m n r
same_super_prop m n r = n ≡ r

unfoldable pub same_super_prop_expr : {X : Type 0} → (Usage → X → X → Type 0) → SuperPropExpr X → SuperPropExpr X → Type 0
same_super_prop_expr m n r = (r ≡ record n { prop = r.prop }) × same_super_prop m n.prop r.prop

unfoldable pub same_cond_expr : {X : Type 0} → (Usage → X → X → Type 0) → CondExpr X → CondExpr X → Type 0
same_cond_expr m n r =
    (r ≡ record n { test = r.test; cons = r.cons; alt = r.alt })
    × (operand operands.Test m n.test r.test × (operand operands.Branch m n.cons r.cons × operand operands.Last m n.alt r.alt))

unfoldable pub same_callee : {X : Type 0} → (Usage → X → X → Type 0) → Callee X → Callee X → Type 0
same_callee m (callees.Expr n) (callees.Expr r) = operand operands.Called m n r
same_callee m n r = n ≡ r

unfoldable pub same_call_expr : {X : Type 0} → (Usage → X → X → Type 0) → CallExpr X → CallExpr X → Type 0
same_call_expr m n r =
    (r ≡ record n { callee = r.callee; args = r.args }) × (same_callee m n.callee r.callee × Pairwise (same_expr_or_spread m) n.args.items r.args.items)

-- as what `new` calls, by the arguments
unfoldable pub called_with : {A : Type 0} → List A → Operand
called_with [] = operands.NewEmpty
called_with (x ∷ xs) = operands.NewCalled

unfoldable pub new_operand : {A : Type 0} → Option (Vec A Global) → Operand
new_operand None = operands.New
new_operand (Some args) = called_with args.items

unfoldable pub same_new_expr : {X : Type 0} → (Usage → X → X → Type 0) → NewExpr X → NewExpr X → Type 0
same_new_expr m n r =
    (r ≡ record n { callee = r.callee; args = r.args }) × (operand (new_operand n.args) m n.callee r.callee × optionally (λ a b. Pairwise (same_expr_or_spread m) a.items b.items) n.args r.args)

unfoldable pub same_seq_expr : {X : Type 0} → (Usage → X → X → Type 0) → SeqExpr X → SeqExpr X → Type 0
same_seq_expr m n r = (r ≡ record n { exprs = r.exprs }) × Pairwise (operand operands.Each m) n.exprs.items r.exprs.items

unfoldable pub same_tagged_tpl : {X : Type 0} → (Usage → X → X → Type 0) → TaggedTpl X → TaggedTpl X → Type 0
same_tagged_tpl m n r = (r ≡ record n { tag = r.tag; tpl = r.tpl }) × (operand operands.Called m n.tag r.tag × linked m n.tpl r.tpl)

unfoldable pub same_block_stmt_or_expr : {X : Type 0} → (Usage → X → X → Type 0) → BlockStmtOrExpr X → BlockStmtOrExpr X → Type 0
same_block_stmt_or_expr m (block_stmt_or_exprs.BlockStmt n) (block_stmt_or_exprs.BlockStmt r) = linked m n r
same_block_stmt_or_expr m (block_stmt_or_exprs.Expr n) (block_stmt_or_exprs.Expr r) = operand operands.Body m n r
same_block_stmt_or_expr m n r = ⊥

unfoldable pub same_arrow_expr : {X : Type 0} → (Usage → X → X → Type 0) → ArrowExpr X → ArrowExpr X → Type 0
same_arrow_expr m n r =
    (r ≡ record n { params = r.params; body = r.body }) × (Pairwise (linked m) n.params.items r.params.items × same_block_stmt_or_expr m n.body r.body)

unfoldable pub same_class_expr : {X : Type 0} → (Usage → X → X → Type 0) → ClassExpr X → ClassExpr X → Type 0
same_class_expr m n r = (r ≡ record n { class = r.class }) × linked m n.class r.class

unfoldable pub same_yield_expr : {X : Type 0} → (Usage → X → X → Type 0) → YieldExpr X → YieldExpr X → Type 0
same_yield_expr m n r = (r ≡ record n { arg = r.arg }) × optionally (operand operands.Last m) n.arg r.arg

unfoldable pub same_await_expr : {X : Type 0} → (Usage → X → X → Type 0) → AwaitExpr X → AwaitExpr X → Type 0
same_await_expr m n r = (r ≡ record n { arg = r.arg }) × operand operands.Unary m n.arg r.arg

unfoldable pub same_paren_expr : {X : Type 0} → (Usage → X → X → Type 0) → ParenExpr X → ParenExpr X → Type 0
same_paren_expr m n r = (r ≡ record n { expr = r.expr }) × operand operands.Inside m n.expr r.expr

-- what two links hold that are links of a chain
abbrev pub chain_link : {K X : Type 0} → Bool → (Usage → X → X → Type 0) → Link K X → Link K X → Type 0
chain_link optional m n r = linked_as (usages.Operand (operands.Chain optional)) m n r

unfoldable pub same_opt_chain_base : {X : Type 0} → Bool → (Usage → X → X → Type 0) → OptChainBase X → OptChainBase X → Type 0
same_opt_chain_base optional m (opt_chain_bases.Member n) (opt_chain_bases.Member r) = chain_link optional m n r
same_opt_chain_base optional m (opt_chain_bases.Call n) (opt_chain_bases.Call r) = chain_link optional m n r
same_opt_chain_base optional m n r = ⊥

unfoldable pub same_opt_chain_expr : {X : Type 0} → (Usage → X → X → Type 0) → OptChainExpr X → OptChainExpr X → Type 0
same_opt_chain_expr m n r = (r ≡ record n { base = r.base }) × same_opt_chain_base n.optional m n.base r.base

-- an expression in which no other stands
abbrev pub is_leaf_expr : {X : Type 0} → Expr X → Bool
is_leaf_expr (exprs.This n) = true
is_leaf_expr (exprs.Ident n) = true
is_leaf_expr (exprs.Lit n) = true
is_leaf_expr (exprs.MetaProp n) = true
is_leaf_expr (exprs.JSXMember n) = true
is_leaf_expr (exprs.JSXNamespacedName n) = true
is_leaf_expr (exprs.JSXEmpty n) = true
is_leaf_expr (exprs.PrivateName n) = true
is_leaf_expr (exprs.Invalid n) = true
is_leaf_expr n = false

-- of one variant; what no other expression stands in is the same
pub data same_expr {X : Type 0} (m : Usage → X → X → Type 0) (n r : Expr X) : Type 0 where
  unchanged : is_leaf_expr n ≡ true → n ≡ r → same_expr m n r
  array : (a b : ArrayLit X) → n ≡ exprs.Array a → r ≡ exprs.Array b → same_array_lit m a b → same_expr m n r
  object : (a b : ObjectLit X) → n ≡ exprs.Object a → r ≡ exprs.Object b → same_object_lit m a b → same_expr m n r
  fn : (a b : FnExpr X) → n ≡ exprs.Fn a → r ≡ exprs.Fn b → same_fn_expr m a b → same_expr m n r
  unary : (a b : UnaryExpr X) → n ≡ exprs.Unary a → r ≡ exprs.Unary b → same_unary_expr m a b → same_expr m n r
  update : (a b : UpdateExpr X) → n ≡ exprs.Update a → r ≡ exprs.Update b → same_update_expr m a b → same_expr m n r
  bin : (a b : BinExpr X) → n ≡ exprs.Bin a → r ≡ exprs.Bin b → same_bin_expr m a b → same_expr m n r
  assign : (a b : AssignExpr X) → n ≡ exprs.Assign a → r ≡ exprs.Assign b → same_assign_expr m a b → same_expr m n r
  member : (a b : MemberExpr X) → n ≡ exprs.Member a → r ≡ exprs.Member b → same_member_expr m a b → same_expr m n r
  super_prop : (a b : SuperPropExpr X) → n ≡ exprs.SuperProp a → r ≡ exprs.SuperProp b → same_super_prop_expr m a b → same_expr m n r
  cond : (a b : CondExpr X) → n ≡ exprs.Cond a → r ≡ exprs.Cond b → same_cond_expr m a b → same_expr m n r
  call : (a b : CallExpr X) → n ≡ exprs.Call a → r ≡ exprs.Call b → same_call_expr m a b → same_expr m n r
  new : (a b : NewExpr X) → n ≡ exprs.New a → r ≡ exprs.New b → same_new_expr m a b → same_expr m n r
  seq : (a b : SeqExpr X) → n ≡ exprs.Seq a → r ≡ exprs.Seq b → same_seq_expr m a b → same_expr m n r
  tpl : (a b : TplBox X) → n ≡ exprs.Tpl a → r ≡ exprs.Tpl b → linked m a b → same_expr m n r
  tagged_tpl : (a b : TaggedTpl X) → n ≡ exprs.TaggedTpl a → r ≡ exprs.TaggedTpl b → same_tagged_tpl m a b → same_expr m n r
  arrow : (a b : Box (ArrowExpr X) Global) → n ≡ exprs.Arrow a → r ≡ exprs.Arrow b → same_arrow_expr m a.value b.value → same_expr m n r
  class : (a b : ClassExpr X) → n ≡ exprs.Class a → r ≡ exprs.Class b → same_class_expr m a b → same_expr m n r
  yield : (a b : YieldExpr X) → n ≡ exprs.Yield a → r ≡ exprs.Yield b → same_yield_expr m a b → same_expr m n r
  await : (a b : AwaitExpr X) → n ≡ exprs.Await a → r ≡ exprs.Await b → same_await_expr m a b → same_expr m n r
  paren : (a b : ParenExpr X) → n ≡ exprs.Paren a → r ≡ exprs.Paren b → same_paren_expr m a b → same_expr m n r
  jsx_element : (a b : JSXElementBox X) → n ≡ exprs.JSXElement a → r ≡ exprs.JSXElement b → linked m a b → same_expr m n r
  jsx_fragment : (a b : JSXFragmentBox X) → n ≡ exprs.JSXFragment a → r ≡ exprs.JSXFragment b → linked m a b → same_expr m n r
  opt_chain : (a b : OptChainExpr X) → n ≡ exprs.OptChain a → r ≡ exprs.OptChain b → same_opt_chain_expr m a b → same_expr m n r
  ts_type_assertion : (a b : TsTypeAssertion X) → n ≡ exprs.TsTypeAssertion a → r ≡ exprs.TsTypeAssertion b → same_ts_type_assertion m a b → same_expr m n r
  ts_const_assertion : (a b : TsConstAssertion X) → n ≡ exprs.TsConstAssertion a → r ≡ exprs.TsConstAssertion b → same_ts_const_assertion m a b → same_expr m n r
  ts_non_null : (a b : TsNonNullExpr X) → n ≡ exprs.TsNonNull a → r ≡ exprs.TsNonNull b → same_ts_non_null_expr m a b → same_expr m n r
  ts_as : (a b : TsAsExpr X) → n ≡ exprs.TsAs a → r ≡ exprs.TsAs b → same_ts_as_expr m a b → same_expr m n r
  ts_instantiation : (a b : TsInstantiation X) → n ≡ exprs.TsInstantiation a → r ≡ exprs.TsInstantiation b → same_ts_instantiation m a b → same_expr m n r
  ts_satisfies : (a b : TsSatisfiesExpr X) → n ≡ exprs.TsSatisfies a → r ≡ exprs.TsSatisfies b → same_ts_satisfies_expr m a b → same_expr m n r

unfoldable pub same_opt_call : {X : Type 0} → (Usage → X → X → Type 0) → OptCall X → OptCall X → Type 0
same_opt_call m n r =
    (r ≡ record n { callee = r.callee; args = r.args }) × (operand operands.Called m n.callee r.callee × Pairwise (same_expr_or_spread m) n.args.items r.args.items)

unfoldable pub same_tpl : {X : Type 0} → (Usage → X → X → Type 0) → Tpl X → Tpl X → Type 0
same_tpl m n r = (r ≡ record n { exprs = r.exprs }) × Pairwise (bracketed nt.Expression m) n.exprs.items r.exprs.items
