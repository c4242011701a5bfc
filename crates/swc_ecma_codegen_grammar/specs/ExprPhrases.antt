-- Expressions: one production a node. `f` says what is read of what a link holds, in its role.
use Rattle.std.specs.Prelude.{if◌then◌else◌, Bool, true, false, map, codes, Option, Some, None}
use Rattle.swc_ecma_codegen_common.specs.Operators.{assign_text, binary_text, unary_text, update_text}
use Rattle.swc_ecma_codegen_common.specs.declared.operators.AssignOp.{AssignOp}
use Rattle.swc_ecma_codegen_common.specs.declared.operators.BinaryOp.{BinaryOp}
use Rattle.swc_ecma_codegen_common.specs.declared.operators.BinaryOp.TheVariants as binary
use Rattle.swc_ecma_codegen_common.specs.declared.operators.UnaryOp.{UnaryOp}
use Rattle.swc_ecma_codegen_common.specs.declared.operators.UnaryOp.TheVariants as unary
use Rattle.swc_ecma_codegen_common.specs.declared.operators.UpdateOp.{UpdateOp}
use Rattle.swc_ecma_codegen_tree.specs.Links.{ExprBox}
use Rattle.swc_ecma_codegen_tree.specs.declared.exprs.Expr.{Expr}
use Rattle.swc_ecma_codegen_tree.specs.declared.exprs.Expr.TheVariants as exprs
use Rattle.swc_ecma_codegen_tree.specs.declared.exprs.ThisExpr.{ThisExpr}
use Rattle.swc_ecma_codegen_tree.specs.declared.exprs.UnaryExpr.{UnaryExpr}
use Rattle.swc_ecma_codegen_tree.specs.declared.exprs.UpdateExpr.{UpdateExpr}
use Rattle.swc_ecma_codegen_tree.specs.declared.exprs.BinExpr.{BinExpr}
use Rattle.swc_ecma_codegen_tree.specs.declared.exprs.MemberExpr.{MemberExpr}
use Rattle.swc_ecma_codegen_tree.specs.declared.exprs.MemberProp.{MemberProp}
use Rattle.swc_ecma_codegen_tree.specs.declared.exprs.MemberProp.TheVariants as member_props
use Rattle.swc_ecma_codegen_tree.specs.declared.exprs.AssignExpr.{AssignExpr}
use Rattle.swc_ecma_codegen_tree.specs.declared.exprs.SuperPropExpr.{SuperPropExpr}
use Rattle.swc_ecma_codegen_tree.specs.declared.exprs.SuperProp.{SuperProp}
use Rattle.swc_ecma_codegen_tree.specs.declared.exprs.SuperProp.TheVariants as super_props
use Rattle.swc_ecma_codegen_tree.specs.declared.exprs.OptChainExpr.{OptChainExpr}
use Rattle.swc_ecma_codegen_tree.specs.declared.exprs.OptChainBase.{OptChainBase}
use Rattle.swc_ecma_codegen_tree.specs.declared.exprs.OptChainBase.TheVariants as chain_bases
use Rattle.swc_ecma_codegen_tree.specs.declared.exprs.MetaPropExpr.{MetaPropExpr}
use Rattle.swc_ecma_codegen_tree.specs.declared.exprs.MetaPropKind.{MetaPropKind}
use Rattle.swc_ecma_codegen_tree.specs.declared.exprs.MetaPropKind.TheVariants as meta_props
use Rattle.swc_ecma_codegen_tree.specs.declared.exprs.YieldExpr.{YieldExpr}
use Rattle.swc_ecma_codegen_tree.specs.declared.exprs.AwaitExpr.{AwaitExpr}
use Rattle.swc_ecma_codegen_tree.specs.declared.exprs.CondExpr.{CondExpr}
use Rattle.swc_ecma_codegen_tree.specs.declared.exprs.SeqExpr.{SeqExpr}
use Rattle.swc_ecma_codegen_tree.specs.declared.exprs.ParenExpr.{ParenExpr}
use Rattle.swc_ecma_codegen_grammar.specs.Phrases.{Phrase, Never, Nothing, One, OptionalParentheses, Argument, ◌>◌, word, mark, some_listed, same_line}
use Rattle.swc_ecma_codegen_grammar.specs.Tokens.{Token}
use Rattle.swc_ecma_codegen_grammar.specs.Tokens as tokens
use Rattle.swc_ecma_codegen_grammar.specs.declared.roles.Role.{Role}
use Rattle.swc_ecma_codegen_grammar.specs.declared.roles.Role.TheVariants.{Expression, ChainMember, AssignmentTarget, ChainCall, Template, Element}
use Rattle.swc_ecma_codegen_grammar.specs.FunctionPhrases.{fn_expr, arrow_expr}
use Rattle.swc_ecma_codegen_grammar.specs.PropPhrases.{object_lit}
use Rattle.swc_ecma_codegen_grammar.specs.TemplatePhrases.{tagged_tpl}
use Rattle.swc_ecma_codegen_grammar.specs.ClassPhrases.{class_expr}
use Rattle.swc_ecma_codegen_grammar.specs.CallPhrases.{callee_at, array_lit, call_expr, new_expr}
use Rattle.swc_ecma_codegen_grammar.specs.KeyPhrases.{computed_prop_name}
use Rattle.swc_ecma_codegen_grammar.specs.LitPhrases.{lit}
use Rattle.swc_ecma_codegen_grammar.specs.NamePhrases.{ident, ident_name, private_name}
use Rattle.swc_ecma_codegen_grammar.specs.TsExprPhrases.{ts_as_expr, ts_const_assertion, ts_satisfies_expr, ts_non_null_expr, ts_type_assertion, ts_instantiation}

-- an expression that a link holds
abbrev pub expr_at : {X : Type 0} → (X → Role → Phrase) → ExprBox X → Phrase
expr_at f n = f n.node.value Expression

-- ECMA-262, section 13.2.1
unfoldable pub this_expr : ThisExpr → Phrase
this_expr n = word (codes "this")

-- the operators: words and punctuators
unfoldable pub unary_op : UnaryOp → Token
unary_op unary.TypeOf = tokens.word (unary_text unary.TypeOf)
unary_op unary.Void = tokens.word (unary_text unary.Void)
unary_op unary.Delete = tokens.word (unary_text unary.Delete)
unary_op op = tokens.punctuator (unary_text op)

unfoldable pub update_op : UpdateOp → Token
update_op op = tokens.punctuator (update_text op)

unfoldable pub binary_op : BinaryOp → Token
binary_op binary.In = tokens.word (binary_text binary.In)
binary_op binary.InstanceOf = tokens.word (binary_text binary.InstanceOf)
binary_op op = tokens.punctuator (binary_text op)

-- section 13.5
unfoldable pub unary_expr : {X : Type 0} → (X → Role → Phrase) → UnaryExpr X → Phrase
unary_expr f n = One (unary_op n.op) > expr_at f n.arg

-- section 13.4
unfoldable pub update_expr : {X : Type 0} → (X → Role → Phrase) → UpdateExpr X → Phrase
update_expr f n = if n.prefix then One (update_op n.op) > expr_at f n.arg else (expr_at f n.arg > same_line > One (update_op n.op))

-- sections 13.6 to 13.13
unfoldable pub bin_expr : {X : Type 0} → (X → Role → Phrase) → BinExpr X → Phrase
bin_expr f n = expr_at f n.left > One (binary_op n.op) > expr_at f n.right

-- section 13.3.2
unfoldable pub member_prop : {X : Type 0} → (X → Role → Phrase) → MemberProp X → Phrase
member_prop f (member_props.Ident n) = mark (codes ".") > ident_name n
member_prop f (member_props.PrivateName n) = mark (codes ".") > private_name n
member_prop f (member_props.Computed n) = computed_prop_name f n

unfoldable pub member_expr : {X : Type 0} → (X → Role → Phrase) → MemberExpr X → Phrase
member_expr f n = callee_at f n.obj > member_prop f n.prop

-- section 13.3.7: `super.a`, `super[a]`
unfoldable pub super_prop : {X : Type 0} → (X → Role → Phrase) → SuperProp X → Phrase
super_prop f (super_props.Ident n) = mark (codes ".") > ident_name n
super_prop f (super_props.Computed n) = computed_prop_name f n

unfoldable pub super_prop_expr : {X : Type 0} → (X → Role → Phrase) → SuperPropExpr X → Phrase
super_prop_expr f n = word (codes "super") > super_prop f n.prop

-- section 13.3.9: `a?.b` and `a?.[b]`; `.c` and `[c]` of `a?.b.c` and `a?.b[c]`
unfoldable pub chain_mark : {X : Type 0} → Bool → MemberProp X → Phrase
chain_mark true n = mark (codes "?.")
chain_mark false (member_props.Computed n) = Nothing
chain_mark false n = mark (codes ".")

unfoldable pub chain_prop : {X : Type 0} → (X → Role → Phrase) → MemberProp X → Phrase
chain_prop f (member_props.Ident n) = ident_name n
chain_prop f (member_props.PrivateName n) = private_name n
chain_prop f (member_props.Computed n) = computed_prop_name f n

unfoldable pub chain_member : {X : Type 0} → (X → Role → Phrase) → Bool → MemberExpr X → Phrase
chain_member f optional n = callee_at f n.obj > chain_mark optional n.prop > chain_prop f n.prop

unfoldable pub chain_base : {X : Type 0} → (X → Role → Phrase) → Bool → OptChainBase X → Phrase
chain_base f optional (chain_bases.Member n) = f n.node.value (ChainMember optional)
chain_base f optional (chain_bases.Call n) = f n.node.value (ChainCall optional)

unfoldable pub opt_chain_expr : {X : Type 0} → (X → Role → Phrase) → OptChainExpr X → Phrase
opt_chain_expr f n = chain_base f n.optional n.base

-- section 13.3.12: three tokens
unfoldable pub meta_prop : MetaPropKind → Phrase
meta_prop meta_props.NewTarget = word (codes "new") > mark (codes ".") > word (codes "target")
meta_prop meta_props.ImportMeta = word (codes "import") > mark (codes ".") > word (codes "meta")

unfoldable pub meta_prop_expr : MetaPropExpr → Phrase
meta_prop_expr n = meta_prop n.kind

-- section 13.15
unfoldable pub assign_op : AssignOp → Token
assign_op op = tokens.punctuator (assign_text op)

unfoldable pub assign_expr : {X : Type 0} → (X → Role → Phrase) → AssignExpr X → Phrase
assign_expr f n = f n.left.node.value AssignmentTarget > One (assign_op n.op) > expr_at f n.right

-- section 15.5: `yield`, `yield a`, `yield* a`; parentheses may stand round the argument
unfoldable pub yield_arg : {X : Type 0} → (X → Role → Phrase) → Option (ExprBox X) → Phrase
yield_arg f None = Nothing
yield_arg f (Some arg) = OptionalParentheses Argument (expr_at f arg)

-- no line may end between `yield` and what belongs to it
unfoldable pub yield_rest : {X : Type 0} → (X → Role → Phrase) → Bool → Option (ExprBox X) → Phrase
yield_rest f true arg = same_line > mark (codes "*") > yield_arg f arg
yield_rest f false None = Nothing
yield_rest f false (Some arg) = same_line > OptionalParentheses Argument (expr_at f arg)

unfoldable pub yield_expr : {X : Type 0} → (X → Role → Phrase) → YieldExpr X → Phrase
yield_expr f n = word (codes "yield") > yield_rest f n.delegate n.arg

-- section 15.8
unfoldable pub await_expr : {X : Type 0} → (X → Role → Phrase) → AwaitExpr X → Phrase
await_expr f n = word (codes "await") > expr_at f n.arg

-- section 13.14
unfoldable pub cond_expr : {X : Type 0} → (X → Role → Phrase) → CondExpr X → Phrase
cond_expr f n = expr_at f n.test > mark (codes "?") > expr_at f n.cons > mark (codes ":") > expr_at f n.alt

-- section 13.16: of one expression at least
unfoldable pub seq_expr : {X : Type 0} → (X → Role → Phrase) → SeqExpr X → Phrase
seq_expr f n = some_listed (codes ",") (map (expr_at f) n.exprs.items)

-- section 13.2.9
unfoldable pub paren_expr : {X : Type 0} → (X → Role → Phrase) → ParenExpr X → Phrase
paren_expr f n = mark (codes "(") > expr_at f n.expr > mark (codes ")")

unfoldable pub expr : {X : Type 0} → (X → Role → Phrase) → Expr X → Phrase
expr f (exprs.This n) = this_expr n
expr f (exprs.Object n) = object_lit f n
expr f (exprs.Fn n) = fn_expr f n
expr f (exprs.Array n) = array_lit f n
expr f (exprs.Unary n) = unary_expr f n
expr f (exprs.Update n) = update_expr f n
expr f (exprs.Bin n) = bin_expr f n
expr f (exprs.Assign n) = assign_expr f n
expr f (exprs.Member n) = member_expr f n
expr f (exprs.SuperProp n) = super_prop_expr f n
expr f (exprs.Cond n) = cond_expr f n
expr f (exprs.Call n) = call_expr f n
expr f (exprs.New n) = new_expr f false n
expr f (exprs.Seq n) = seq_expr f n
expr f (exprs.Ident n) = ident n
expr f (exprs.Lit n) = lit n
expr f (exprs.Tpl n) = f n.node.value Template
expr f (exprs.TaggedTpl n) = tagged_tpl f n
expr f (exprs.Arrow n) = arrow_expr f n.value
expr f (exprs.Class n) = class_expr f n
expr f (exprs.Yield n) = yield_expr f n
expr f (exprs.MetaProp n) = meta_prop_expr n
expr f (exprs.Await n) = await_expr f n
expr f (exprs.Paren n) = paren_expr f n
expr f (exprs.PrivateName n) = private_name n
expr f (exprs.OptChain n) = opt_chain_expr f n
expr f (exprs.JSXElement n) = f n.node.value Element
expr f (exprs.JSXFragment n) = f n.node.value Element
expr f (exprs.TsAs n) = ts_as_expr f n
expr f (exprs.TsConstAssertion n) = ts_const_assertion f n
expr f (exprs.TsSatisfies n) = ts_satisfies_expr f n
expr f (exprs.TsNonNull n) = ts_non_null_expr f n
expr f (exprs.TsTypeAssertion n) = ts_type_assertion f n
expr f (exprs.TsInstantiation n) = ts_instantiation f n
-- a name and a part of JSX are no expressions
expr f n = Never

-- the same where `new A()` keeps its parentheses, as it does as a callee, or doesn't
unfoldable pub expr_in : {X : Type 0} → (X → Role → Phrase) → Bool → Expr X → Phrase
expr_in f keeps (exprs.New n) = new_expr f keeps n
expr_in f keeps n = expr f n
