-- Exprs: a law of the words holds of the plan.
use Rattle.std.specs.Prelude.{ℕ, ◌-◌, ◌==◌, Bool, true, false, if◌then◌else◌, List, codes, Option, Some, None, string_bytes}
use Rattle.swc_ecma_codegen_common.specs.declared.positions.BytePos.{BytePos}
use Rattle.swc_ecma_codegen_common.specs.declared.positions.Span.{Span}
use Rattle.swc_ecma_codegen_tree.specs.declared.idents.Ident.{Ident}
use Rattle.swc_ecma_codegen_tree.specs.declared.idents.IdentName.{IdentName}
use Rattle.swc_ecma_codegen_tree.specs.declared.idents.PrivateName.{PrivateName}
use Rattle.swc_ecma_codegen_common.specs.declared.operators.UnaryOp.{UnaryOp}
use Rattle.swc_ecma_codegen_tree.specs.Links.{ExprBox}
use Rattle.swc_ecma_codegen_tree.specs.declared.exprs.ThisExpr as this_expr
use Rattle.swc_ecma_codegen_tree.specs.declared.exprs.UnaryExpr.{UnaryExpr}
use Rattle.swc_ecma_codegen_tree.specs.declared.exprs.UpdateExpr.{UpdateExpr}
use Rattle.swc_ecma_codegen_tree.specs.declared.exprs.BinExpr.{BinExpr}
use Rattle.swc_ecma_codegen_tree.specs.declared.exprs.MemberExpr.{MemberExpr}
use Rattle.swc_ecma_codegen_tree.specs.declared.exprs.MemberProp.{MemberProp}
use Rattle.swc_ecma_codegen_tree.specs.declared.exprs.MemberProp.TheVariants as member_props
use Rattle.swc_ecma_codegen_tree.specs.declared.exprs.ComputedPropName.{ComputedPropName}
use Rattle.swc_ecma_codegen_tree.specs.declared.exprs.AssignExpr.{AssignExpr}
use Rattle.swc_ecma_codegen_tree.specs.declared.exprs.SuperPropExpr.{SuperPropExpr}
use Rattle.swc_ecma_codegen_tree.specs.declared.exprs.SuperProp.{SuperProp}
use Rattle.swc_ecma_codegen_tree.specs.declared.exprs.SuperProp.TheVariants as super_props
use Rattle.swc_ecma_codegen_tree.specs.declared.exprs.OptChainExpr.{OptChainExpr}
use Rattle.swc_ecma_codegen_tree.specs.declared.exprs.OptChainBase.{OptChainBase}
use Rattle.swc_ecma_codegen_tree.specs.declared.exprs.OptChainBase.TheVariants as chain_bases
use Rattle.swc_ecma_codegen_tree.specs.declared.exprs.MetaPropExpr.{MetaPropExpr}
use Rattle.swc_ecma_codegen_tree.specs.declared.exprs.MetaPropKind.{MetaPropKind}
use Rattle.swc_ecma_codegen_tree.specs.declared.exprs.MetaPropKind.TheVariants as meta_props
use Rattle.swc_ecma_codegen_tree.specs.declared.exprs.YieldExpr.{YieldExpr}
use Rattle.swc_ecma_codegen_tree.specs.declared.exprs.AwaitExpr.{AwaitExpr}
use Rattle.swc_ecma_codegen_tree.specs.declared.exprs.SpreadElement.{SpreadElement}
use Rattle.swc_ecma_codegen_tree.specs.declared.exprs.CondExpr.{CondExpr}
use Rattle.swc_ecma_codegen_tree.specs.declared.exprs.SeqExpr.{SeqExpr}
use Rattle.swc_ecma_codegen_tree.specs.declared.exprs.ParenExpr.{ParenExpr}
use Rattle.swc_ecma_codegen_common.specs.Operators.{unary_text}
use Rattle.swc_ecma_codegen_spans.specs.Spans.{spread_element_span}
use Rattle.swc_ecma_codegen_settings.specs.Starts as starts
use Rattle.swc_ecma_codegen_tokens.specs.Run.{Part}
use Rattle.swc_ecma_codegen_emit.specs.declared.nodes.Context.{Context}
use Rattle.swc_ecma_codegen_emit.specs.declared.nodes.Context.TheVariants.{Plain, LeftOperand, Callee, Chain, OptionalChain}
use Rattle.swc_ecma_codegen_emit.specs.Places.{Whole, chain}
use Rattle.swc_ecma_codegen_emit.specs.Answers.{Answers, place_of}
use Rattle.swc_ecma_codegen_emit.specs.Operands.{operand_space}
use Rattle.swc_ecma_codegen_emit.specs.Exprs.{before_op, after_op}
use Rattle.swc_ecma_codegen_laws.proofs.OfWords.{OfWords, Known, asks_in, items_in, either, optional_parentheses_hold}
use Rattle.swc_ecma_codegen_emit.specs.Exprs.{blank, space_if, spaced_punct, opened, ident, ident_name, private_name, this, unary_op, unary_gap, unary, update_parts, update, bin_operator, bin_trailing, bin_opened, bin, comments_before, computed_prop_name, member_prop, object_place, member, super_prop, super_prop_expr, chain_mark, chain_prop, chain_member, member_at, chain_base, opt_chain, meta_prop, meta_prop_expr, assign, yield_argument_in, yield_argument, yield_arg, yield_expr, spread_element, await_expr, choice, held, seq, paren}
use Rattle.swc_ecma_codegen_laws.proofs.CallsLifted.{super_keyword_holds}
use Rattle.swc_ecma_codegen_laws.proofs.ListsLifted.{listed_holds}

pub blank_holds : {holds : Bool → Part → Type 0} (words : OfWords holds) (bounded : Bool) (needed : Bool) → holds bounded (blank needed)
unfolding blank
blank_holds words bounded needed = either words bounded needed (words.space bounded) (words.formatting_space bounded)

pub space_if_holds : {holds : Bool → Part → Type 0} (words : OfWords holds) (bounded : Bool) (needed : Bool) → holds bounded (space_if needed)
unfolding space_if
space_if_holds words bounded needed = either words bounded needed (words.space bounded) (words.none bounded)

pub spaced_punct_holds : {holds : Bool → Part → Type 0} (words : OfWords holds) (bounded : Bool) (t : List ℕ) → holds bounded (spaced_punct t)
unfolding spaced_punct
spaced_punct_holds words bounded t = words.and_then bounded (words.formatting_space bounded) (words.and_then bounded (words.punct bounded t) (words.formatting_space bounded))

pub opened_holds : {holds : Bool → Part → Type 0} (words : OfWords holds) (bounded : Bool) (span : Span) → holds bounded (opened span)
unfolding opened
opened_holds words bounded span = words.and_then bounded (words.leading_comments bounded span.lo) (words.position bounded span.lo)

pub ident_holds : {holds : Bool → Part → Type 0} (words : OfWords holds) (bounded : Bool) (n : Ident) → holds bounded (ident n)
unfolding ident
ident_holds words bounded n = words.name bounded n.span (string_bytes n.sym) n.optional

pub ident_name_holds : {holds : Bool → Part → Type 0} (words : OfWords holds) (bounded : Bool) (n : IdentName) → holds bounded (ident_name n)
unfolding ident_name
ident_name_holds words bounded n = words.name bounded n.span (string_bytes n.sym) false

pub private_name_holds : {holds : Bool → Part → Type 0} (words : OfWords holds) (bounded : Bool) (n : PrivateName) → holds bounded (private_name n)
unfolding private_name
private_name_holds words bounded n = words.private_name bounded n.span (string_bytes n.name)

pub this_holds : {holds : Bool → Part → Type 0} (words : OfWords holds) (bounded : Bool) (n : this_expr.ThisExpr) → holds bounded (this n)
unfolding this
this_holds words bounded n = words.and_then bounded (words.leading_comments bounded n.span.lo) (words.keyword bounded (Some n.span) (codes "this"))

pub unary_op_holds : {holds : Bool → Part → Type 0} (words : OfWords holds) (bounded : Bool) (op : UnaryOp) → holds bounded (unary_op op)
unfolding unary_op
unary_op_holds words bounded op = either words bounded (starts.is_word_op op) (words.keyword bounded None (unary_text op)) (words.punct bounded (unary_text op))

pub unary_gap_holds : {holds : Bool → Part → Type 0} (words : OfWords holds) (bounded : Bool) (op : UnaryOp) (arg : Answers) → holds bounded (unary_gap op arg)
unfolding unary_gap
unary_gap_holds words bounded op arg = either words bounded (starts.is_word_op op) (blank_holds words bounded arg.starts) (space_if_holds words bounded (operand_space op arg.kind))

pub unary_holds : {X : Type 0} {holds : Bool → Part → Type 0} (known : Known holds X) (bounded : Bool) (n : UnaryExpr X) → holds bounded (unary (asks_in known) (items_in known) n)
unfolding unary
unary_holds known bounded n = known.words.and_then bounded (opened_holds known.words bounded n.span) (known.words.and_then bounded (unary_op_holds known.words bounded n.op) (known.words.and_then bounded (unary_gap_holds known.words bounded n.op ((asks_in known) n.arg.node.value)) (known.law bounded n.arg.node.value (Whole Plain))))

pub update_parts_holds : {X : Type 0} {holds : Bool → Part → Type 0} (known : Known holds X) (bounded : Bool) (n : UpdateExpr X) → holds bounded (update_parts (items_in known) n)
unfolding update_parts
update_parts_holds known bounded n = either known.words bounded n.prefix (known.words.and_then bounded (known.words.update_operator bounded n.op) (known.law bounded n.arg.node.value (Whole Plain))) (known.words.and_then bounded (known.law bounded n.arg.node.value (Whole Plain)) (known.words.update_operator bounded n.op))

pub update_holds : {X : Type 0} {holds : Bool → Part → Type 0} (known : Known holds X) (bounded : Bool) (n : UpdateExpr X) → holds bounded (update (items_in known) n)
unfolding update
update_holds known bounded n = known.words.and_then bounded (opened_holds known.words bounded n.span) (update_parts_holds known bounded n)

pub bin_operator_holds : {X : Type 0} {holds : Bool → Part → Type 0} (known : Known holds X) (bounded : Bool) (n : BinExpr X) → holds bounded (bin_operator (asks_in known) n)
unfolding bin_operator
bin_operator_holds known bounded n =
    known.words.and_then bounded (blank_holds known.words bounded (before_op n.op (asks_in known n.left.node.value)))
    (known.words.and_then bounded (known.words.binary bounded n.op) (blank_holds known.words bounded (after_op n.op (asks_in known n.right.node.value))))

pub bin_trailing_holds : {X : Type 0} {holds : Bool → Part → Type 0} (known : Known holds X) (bounded : Bool) (n : BinExpr X) → holds bounded (bin_trailing (asks_in known) (items_in known) n)
unfolding bin_trailing
bin_trailing_holds known bounded n = known.words.and_then bounded (bin_operator_holds known bounded n) (known.law bounded n.right.node.value (Whole Plain))

pub bin_opened_holds : {holds : Bool → Part → Type 0} (words : OfWords holds) (bounded : Bool) (context : Context) (span : Span) → holds bounded (bin_opened context span)
unfolding bin_opened
bin_opened_holds words bounded LeftOperand span = words.none bounded
bin_opened_holds words bounded context span = opened_holds words bounded span

pub bin_holds : {X : Type 0} {holds : Bool → Part → Type 0} (known : Known holds X) (bounded : Bool) (n : BinExpr X) (context : Context) → holds bounded (bin (asks_in known) (items_in known) n context)
unfolding bin
bin_holds known bounded n context = known.words.and_then bounded (bin_opened_holds known.words bounded context n.span) (known.words.and_then bounded (known.law bounded n.left.node.value (Whole LeftOperand)) (bin_trailing_holds known bounded n))

pub comments_before_holds : {holds : Bool → Part → Type 0} (words : OfWords holds) (bounded : Bool) (pos : BytePos) → holds bounded (comments_before pos)
unfolding comments_before
comments_before_holds words bounded pos = either words bounded (pos.0 == 0) (words.none bounded) (words.leading_comments bounded (record { 0 = pos.0 - 1 }))

pub computed_prop_name_holds : {X : Type 0} {holds : Bool → Part → Type 0} (known : Known holds X) (bounded : Bool) (n : ComputedPropName X) → holds bounded (computed_prop_name (items_in known) n)
unfolding computed_prop_name
computed_prop_name_holds known bounded n = known.words.and_then bounded (known.words.position bounded n.span.lo) (known.words.and_then bounded (known.words.punct bounded (codes "[")) (known.words.and_then bounded (known.law bounded n.expr.node.value (Whole Plain)) (known.words.and_then bounded (known.words.punct bounded (codes "]")) (known.words.position bounded n.span.hi))))

pub member_prop_holds : {X : Type 0} {holds : Bool → Part → Type 0} (known : Known holds X) (bounded : Bool) (x1 : MemberProp X) → holds bounded (member_prop (items_in known) x1)
unfolding member_prop
member_prop_holds known bounded (member_props.Ident n) = known.words.and_then bounded (comments_before_holds known.words bounded n.span.lo) (known.words.and_then bounded (known.words.punct bounded (codes ".")) (ident_name_holds known.words bounded n))
member_prop_holds known bounded (member_props.PrivateName n) = known.words.and_then bounded (comments_before_holds known.words bounded n.span.lo) (known.words.and_then bounded (known.words.punct bounded (codes ".")) (private_name_holds known.words bounded n))
member_prop_holds known bounded (member_props.Computed n) = computed_prop_name_holds known bounded n

pub member_holds : {X : Type 0} {holds : Bool → Part → Type 0} (known : Known holds X) (bounded : Bool) (n : MemberExpr X) → holds bounded (member (items_in known) n)
unfolding member
member_holds known bounded n = known.words.and_then bounded (opened_holds known.words bounded n.span) (known.words.and_then bounded (known.law bounded n.obj.node.value (Whole (object_place n.prop))) (known.words.and_then bounded (member_prop_holds known bounded n.prop) (known.words.position bounded n.span.hi)))

pub super_prop_holds : {X : Type 0} {holds : Bool → Part → Type 0} (known : Known holds X) (bounded : Bool) (x1 : SuperProp X) → holds bounded (super_prop (items_in known) x1)
unfolding super_prop
super_prop_holds known bounded (super_props.Ident n) = known.words.and_then bounded (comments_before_holds known.words bounded n.span.lo) (known.words.and_then bounded (known.words.punct bounded (codes ".")) (ident_name_holds known.words bounded n))
super_prop_holds known bounded (super_props.Computed n) = computed_prop_name_holds known bounded n

pub super_prop_expr_holds : {X : Type 0} {holds : Bool → Part → Type 0} (known : Known holds X) (bounded : Bool) (n : SuperPropExpr X) → holds bounded (super_prop_expr (items_in known) n)
unfolding super_prop_expr
super_prop_expr_holds known bounded n = known.words.and_then bounded (opened_holds known.words bounded n.span) (known.words.and_then bounded (super_keyword_holds known.words bounded n.obj) (super_prop_holds known bounded n.prop))

pub chain_mark_holds : {X : Type 0} {holds : Bool → Part → Type 0} (known : Known holds X) (bounded : Bool) (x0 : Bool) (n : MemberProp X) → holds bounded (chain_mark x0 n)
unfolding chain_mark
chain_mark_holds known bounded true n = known.words.punct bounded (codes "?.")
chain_mark_holds known bounded false (member_props.Computed n) = known.words.none bounded
chain_mark_holds known bounded false n = known.words.punct bounded (codes ".")

pub chain_prop_holds : {X : Type 0} {holds : Bool → Part → Type 0} (known : Known holds X) (bounded : Bool) (x1 : MemberProp X) → holds bounded (chain_prop (items_in known) x1)
unfolding chain_prop
chain_prop_holds known bounded (member_props.Ident n) = ident_name_holds known.words bounded n
chain_prop_holds known bounded (member_props.PrivateName n) = private_name_holds known.words bounded n
chain_prop_holds known bounded (member_props.Computed n) = computed_prop_name_holds known bounded n

pub chain_member_holds : {X : Type 0} {holds : Bool → Part → Type 0} (known : Known holds X) (bounded : Bool) (optional : Bool) (n : MemberExpr X) → holds bounded (chain_member (items_in known) optional n)
unfolding chain_member
chain_member_holds known bounded optional n = known.words.and_then bounded (known.law bounded n.obj.node.value (Whole Callee)) (known.words.and_then bounded (chain_mark_holds known bounded optional n.prop) (chain_prop_holds known bounded n.prop))

pub member_at_holds : {X : Type 0} {holds : Bool → Part → Type 0} (known : Known holds X) (bounded : Bool) (n : MemberExpr X) (context : Context) → holds bounded (member_at (items_in known) n context)
unfolding member_at
member_at_holds known bounded n Chain = chain_member_holds known bounded false n
member_at_holds known bounded n OptionalChain = chain_member_holds known bounded true n
member_at_holds known bounded n context = member_holds known bounded n

pub chain_base_holds : {X : Type 0} {holds : Bool → Part → Type 0} (known : Known holds X) (bounded : Bool) (optional : Bool) (x2 : OptChainBase X) → holds bounded (chain_base (items_in known) optional x2)
unfolding chain_base
chain_base_holds known bounded optional (chain_bases.Member n) = known.law bounded n.node.value (Whole (chain optional))
chain_base_holds known bounded optional (chain_bases.Call n) = known.law bounded n.node.value (Whole (chain optional))

pub opt_chain_holds : {X : Type 0} {holds : Bool → Part → Type 0} (known : Known holds X) (bounded : Bool) (n : OptChainExpr X) → holds bounded (opt_chain (items_in known) n)
unfolding opt_chain
opt_chain_holds known bounded n = known.words.and_then bounded (known.words.leading_comments bounded n.span.lo) (chain_base_holds known bounded n.optional n.base)

pub meta_prop_holds : {holds : Bool → Part → Type 0} (words : OfWords holds) (bounded : Bool) (x0 : MetaPropKind) → holds bounded (meta_prop x0)
unfolding meta_prop
meta_prop_holds words bounded meta_props.NewTarget = words.and_then bounded (words.keyword bounded None (codes "new")) (words.and_then bounded (words.punct bounded (codes ".")) (words.keyword bounded None (codes "target")))
meta_prop_holds words bounded meta_props.ImportMeta = words.and_then bounded (words.keyword bounded None (codes "import")) (words.and_then bounded (words.punct bounded (codes ".")) (words.keyword bounded None (codes "meta")))

pub meta_prop_expr_holds : {holds : Bool → Part → Type 0} (words : OfWords holds) (bounded : Bool) (n : MetaPropExpr) → holds bounded (meta_prop_expr n)
unfolding meta_prop_expr
meta_prop_expr_holds words bounded n = words.and_then bounded (opened_holds words bounded n.span) (meta_prop_holds words bounded n.kind)

pub assign_holds : {X : Type 0} {holds : Bool → Part → Type 0} (known : Known holds X) (bounded : Bool) (n : AssignExpr X) → holds bounded (assign (items_in known) n)
unfolding assign
assign_holds known bounded n = known.words.and_then bounded (known.words.leading_comments bounded n.span.lo) (known.words.and_then bounded (known.law bounded n.left.node.value (Whole Plain)) (known.words.and_then bounded (known.words.formatting_space bounded) (known.words.and_then bounded (known.words.assign_operator bounded n.op) (known.words.and_then bounded (known.words.formatting_space bounded) (known.law bounded n.right.node.value (Whole Plain))))))

pub yield_argument_in_holds : {X : Type 0} {holds : Bool → Part → Type 0} (known : Known holds X) (bounded : Bool) (delegate : Bool) (x : X) (x4 : Bool) → holds bounded (yield_argument_in (asks_in known) (items_in known) delegate x x4)
unfolding yield_argument_in
yield_argument_in_holds known bounded delegate x true = optional_parentheses_hold known.words bounded true ((items_in known) x (Whole Plain)) (known.law bounded x (Whole Plain))
yield_argument_in_holds known bounded delegate x false = known.words.and_then bounded (blank_holds known.words bounded (if delegate then false else ((asks_in known) x).starts)) (known.law bounded x (Whole Plain))

pub yield_argument_holds : {X : Type 0} {holds : Bool → Part → Type 0} (known : Known holds X) (bounded : Bool) (delegate : Bool) (x : X) → holds bounded (yield_argument (asks_in known) (items_in known) delegate x)
unfolding yield_argument
yield_argument_holds known bounded delegate x = known.words.by_maps bounded (λ maps. yield_argument_in (asks_in known) (items_in known) delegate x (((asks_in known) x).breaks maps)) (λ maps. (yield_argument_in_holds known bounded delegate x (((asks_in known) x).breaks maps)))

pub yield_arg_holds : {X : Type 0} {holds : Bool → Part → Type 0} (known : Known holds X) (bounded : Bool) (delegate : Bool) (x3 : Option (ExprBox X)) → holds bounded (yield_arg (asks_in known) (items_in known) delegate x3)
unfolding yield_arg
yield_arg_holds known bounded delegate None = known.words.none bounded
yield_arg_holds known bounded delegate (Some n) = yield_argument_holds known bounded delegate n.node.value

pub yield_expr_holds : {X : Type 0} {holds : Bool → Part → Type 0} (known : Known holds X) (bounded : Bool) (n : YieldExpr X) → holds bounded (yield_expr (asks_in known) (items_in known) n)
unfolding yield_expr
yield_expr_holds known bounded n = known.words.and_then bounded (opened_holds known.words bounded n.span) (known.words.and_then bounded (known.words.yield_word bounded n.delegate) (yield_arg_holds known bounded n.delegate n.arg))

pub spread_element_holds : {X : Type 0} {holds : Bool → Part → Type 0} (known : Known holds X) (bounded : Bool) (n : SpreadElement X) → holds bounded (spread_element (asks_in known) (items_in known) n)
unfolding spread_element
spread_element_holds known bounded n = known.words.and_then bounded (opened_holds known.words bounded (spread_element_span (place_of (asks_in known)) n)) (known.words.and_then bounded (known.words.punct bounded (codes "...")) (known.words.and_then bounded (known.law bounded n.expr.node.value (Whole Plain)) (known.words.position bounded (spread_element_span (place_of (asks_in known)) n).hi)))

pub await_expr_holds : {X : Type 0} {holds : Bool → Part → Type 0} (known : Known holds X) (bounded : Bool) (n : AwaitExpr X) → holds bounded (await_expr (items_in known) n)
unfolding await_expr
await_expr_holds known bounded n = known.words.and_then bounded (opened_holds known.words bounded n.span) (known.words.and_then bounded (known.words.keyword bounded None (codes "await")) (known.words.and_then bounded (known.words.space bounded) (known.law bounded n.arg.node.value (Whole Plain))))

pub choice_holds : {X : Type 0} {holds : Bool → Part → Type 0} (known : Known holds X) (bounded : Bool) (n : CondExpr X) → holds bounded (choice (items_in known) n)
unfolding choice
choice_holds known bounded n = known.words.and_then bounded (opened_holds known.words bounded n.span) (known.words.and_then bounded (known.law bounded n.test.node.value (Whole Plain)) (known.words.and_then bounded (spaced_punct_holds known.words bounded (codes "?")) (known.words.and_then bounded (known.law bounded n.cons.node.value (Whole Plain)) (known.words.and_then bounded (spaced_punct_holds known.words bounded (codes ":")) (known.law bounded n.alt.node.value (Whole Plain))))))

pub seq_holds : {X : Type 0} {holds : Bool → Part → Type 0} (known : Known holds X) (bounded : Bool) (n : SeqExpr X) → holds bounded (seq (items_in known) n)
unfolding seq
seq_holds known bounded n = known.words.and_then bounded (opened_holds known.words bounded n.span) (listed_holds known.words bounded (held (items_in known)) (λ x. (known.law bounded x.node.value (Whole Plain))) true n.exprs.items)

pub paren_holds : {X : Type 0} {holds : Bool → Part → Type 0} (known : Known holds X) (bounded : Bool) (n : ParenExpr X) → holds bounded (paren (items_in known) n)
unfolding paren
paren_holds known bounded n = known.words.and_then bounded (known.words.commit_pending_semi bounded) (known.words.and_then bounded (opened_holds known.words bounded n.span) (known.words.and_then bounded (known.words.punct bounded (codes "(")) (known.words.and_then bounded (known.law bounded n.expr.node.value (Whole Plain)) (known.words.and_then bounded (known.words.last_of bounded n.span) (known.words.punct bounded (codes ")"))))))
