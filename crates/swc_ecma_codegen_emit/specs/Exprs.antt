-- What is written of expressions, one word a type. A word is generic in what a link holds, X. It takes what is known of that:
-- `asks` says what it answers, `items` what is written of it, where its parent puts it.
use Rattle.std.specs.Prelude.{ℕ, ◌-◌, ◌==◌, Bool, true, false, if◌then◌else◌, List, codes, Option, Some, None, string_bytes}
use Rattle.swc_ecma_codegen_common.specs.declared.positions.BytePos.{BytePos}
use Rattle.swc_ecma_codegen_common.specs.declared.positions.Span.{Span}
use Rattle.swc_ecma_codegen_tree.specs.declared.idents.Ident.{Ident}
use Rattle.swc_ecma_codegen_tree.specs.declared.idents.IdentName.{IdentName}
use Rattle.swc_ecma_codegen_tree.specs.declared.idents.PrivateName.{PrivateName}
use Rattle.swc_ecma_codegen_common.specs.declared.operators.UnaryOp.{UnaryOp}
use Rattle.swc_ecma_codegen_common.specs.declared.operators.BinaryOp.{BinaryOp}
use Rattle.swc_ecma_codegen_tree.specs.Links.{ExprBox}
use Rattle.swc_ecma_codegen_tree.specs.declared.exprs.ThisExpr as this_expr
use Rattle.swc_ecma_codegen_tree.specs.declared.exprs.UnaryExpr.{UnaryExpr}
use Rattle.swc_ecma_codegen_tree.specs.declared.exprs.UpdateExpr.{UpdateExpr}
use Rattle.swc_ecma_codegen_tree.specs.declared.exprs.BinExpr.{BinExpr}
use Rattle.swc_ecma_codegen_tree.specs.declared.exprs.MemberExpr.{MemberExpr}
use Rattle.swc_ecma_codegen_tree.specs.declared.exprs.MemberProp.{MemberProp}
use Rattle.swc_ecma_codegen_tree.specs.declared.exprs.MemberProp.TheVariants as member_props
use Rattle.swc_ecma_codegen_tree.specs.declared.exprs.ComputedPropName.{ComputedPropName}
use Rattle.swc_ecma_codegen_tree.specs.declared.exprs.AssignExpr.{AssignExpr}
use Rattle.swc_ecma_codegen_tree.specs.declared.exprs.SuperPropExpr.{SuperPropExpr}
use Rattle.swc_ecma_codegen_tree.specs.declared.exprs.SuperProp.{SuperProp}
use Rattle.swc_ecma_codegen_tree.specs.declared.exprs.SuperProp.TheVariants as super_props
use Rattle.swc_ecma_codegen_tree.specs.declared.exprs.OptChainExpr.{OptChainExpr}
use Rattle.swc_ecma_codegen_tree.specs.declared.exprs.OptChainBase.{OptChainBase}
use Rattle.swc_ecma_codegen_tree.specs.declared.exprs.OptChainBase.TheVariants as chain_bases
use Rattle.swc_ecma_codegen_tree.specs.declared.exprs.MetaPropExpr.{MetaPropExpr}
use Rattle.swc_ecma_codegen_tree.specs.declared.exprs.MetaPropKind.{MetaPropKind}
use Rattle.swc_ecma_codegen_tree.specs.declared.exprs.MetaPropKind.TheVariants as meta_props
use Rattle.swc_ecma_codegen_tree.specs.declared.exprs.YieldExpr.{YieldExpr}
use Rattle.swc_ecma_codegen_tree.specs.declared.exprs.AwaitExpr.{AwaitExpr}
use Rattle.swc_ecma_codegen_tree.specs.declared.exprs.SpreadElement.{SpreadElement}
use Rattle.swc_ecma_codegen_tree.specs.declared.exprs.CondExpr.{CondExpr}
use Rattle.swc_ecma_codegen_tree.specs.declared.exprs.SeqExpr.{SeqExpr}
use Rattle.swc_ecma_codegen_tree.specs.declared.exprs.ParenExpr.{ParenExpr}
use Rattle.swc_ecma_codegen_common.specs.Operators.{assign_text, unary_text, binary_text, update_text}
use Rattle.swc_ecma_codegen_spans.specs.Spans.{spread_element_span}
use Rattle.swc_ecma_codegen_settings.specs.Starts as starts
use Rattle.swc_ecma_codegen_tokens.specs.PrivateNames as names
use Rattle.swc_ecma_codegen_tokens.specs.Run.{Part}
use Rattle.swc_ecma_codegen_tokens.specs.Choices.{optional_parentheses}
use Rattle.swc_ecma_codegen_tokens.specs.Words.{allow_break, by_maps, keyword, operator, word_operator, punct, space, formatting_space, commit_pending_semi, start_of, end_of, last_of, leading_comments, name}
use Rattle.swc_ecma_codegen_emit.specs.declared.nodes.Context.{Context}
use Rattle.swc_ecma_codegen_emit.specs.declared.nodes.Context.TheVariants.{Plain, LeftOperand, Object, DottedObject, Callee, Chain, OptionalChain}
use Rattle.swc_ecma_codegen_emit.specs.Places.{Place, Whole, chain}
use Rattle.swc_ecma_codegen_emit.specs.Answers.{Answers, place_of}
use Rattle.swc_ecma_codegen_emit.specs.Operands.{is_word_op, space_after, operand_space}
use Rattle.swc_ecma_codegen_emit.specs.Calls.{super_keyword}
use Rattle.swc_ecma_codegen_emit.specs.Lists.{listed}

-- one blank where it is needed, else what the settings want
unfoldable pub blank : Bool → Part
blank needed rest = if needed then space rest else formatting_space rest

-- one blank where it is needed
unfoldable pub space_if : Bool → Part
space_if needed rest = if needed then space rest else rest

-- a punctuator between two blanks, unless minified: ` ? `; and an operator: ` = `
unfoldable pub spaced_punct : List ℕ → Part
spaced_punct t rest = formatting_space (punct t (formatting_space rest))

unfoldable pub formatted_operator : List ℕ → Part
formatted_operator t rest = formatting_space (operator t (formatting_space rest))

-- the comments before a node, and its start
unfoldable pub opened : Span → Part
opened span rest = leading_comments span.lo (start_of span rest)

unfoldable pub ident : Ident → Part
ident n rest = name n.span (string_bytes n.sym) n.optional rest

unfoldable pub ident_name : IdentName → Part
ident_name n rest = name n.span (string_bytes n.sym) false rest

-- `#a`
unfoldable pub private_name : PrivateName → Part
private_name n rest = names.private_name n.span (string_bytes n.name) rest

unfoldable pub this : this_expr.ThisExpr → Part
this n rest = leading_comments n.span.lo (keyword (Some n.span) (codes "this") rest)

-- `typeof`, `void` and `delete` are words
unfoldable pub unary_op : UnaryOp → Part
unary_op op rest = if starts.is_word_op op then keyword None (unary_text op) rest else punct (unary_text op) rest

-- `typeof a`, `typeof(a)`, `- -a`, `-a`
unfoldable pub unary_gap : UnaryOp → Answers → Part
unary_gap op arg rest = if starts.is_word_op op then blank arg.starts rest else space_if (operand_space op arg.kind) rest

unfoldable pub unary : {X : Type 0} → (X → Answers) → (X → Place → Part) → UnaryExpr X → Part
unary asks items n rest = opened n.span (unary_op n.op (unary_gap n.op (asks n.arg.node.value) (items n.arg.node.value (Whole Plain) rest)))

-- `++a`, `a++`
unfoldable pub update_parts : {X : Type 0} → (X → Place → Part) → UpdateExpr X → Part
update_parts items n rest = if n.prefix then operator (update_text n.op) (items n.arg.node.value (Whole Plain) rest) else items n.arg.node.value (Whole Plain) (operator (update_text n.op) rest)

unfoldable pub update : {X : Type 0} → (X → Place → Part) → UpdateExpr X → Part
update items n rest = opened n.span (update_parts items n rest)

-- `in` and `instanceof` are words
unfoldable pub binary_op : BinaryOp → Part
binary_op op rest = if is_word_op op then word_operator (binary_text op) rest else operator (binary_text op) rest

-- a blank is due before an operator
unfoldable pub before_op : BinaryOp → Answers → Bool
before_op op left = if is_word_op op then left.ends else space_after left.kind op

-- a blank is due after an operator
unfoldable pub after_op : BinaryOp → Answers → Bool
after_op op right = if is_word_op op then right.starts else right.space op

-- the operator with the blanks beside it, behind which a line may be ended
unfoldable pub bin_operator : {X : Type 0} → (X → Answers) → BinExpr X → Part
bin_operator asks n rest =
    blank (before_op n.op (asks n.left.node.value))
    (binary_op n.op (allow_break (blank (after_op n.op (asks n.right.node.value)) rest)))

-- the same minified: `a+b`, `a in b`
unfoldable pub tight_operator : {X : Type 0} → (X → Answers) → BinExpr X → Part
tight_operator asks n rest =
    space_if (before_op n.op (asks n.left.node.value))
    (binary_op n.op (allow_break (space_if (after_op n.op (asks n.right.node.value)) rest)))

-- the same with blanks: `a + b`
unfoldable pub spaced_operator : BinaryOp → Part
spaced_operator op rest = space (binary_op op (space rest))

unfoldable pub word_between : List ℕ → Part
word_between t rest = space (word_operator t (space rest))

-- the operator and the right operand
unfoldable pub bin_trailing : {X : Type 0} → (X → Answers) → (X → Place → Part) → BinExpr X → Part
bin_trailing asks items n rest = bin_operator asks n (items n.right.node.value (Whole Plain) rest)

-- an inner left operand has no comments before it, and its start isn't recorded
unfoldable pub bin_opened : Context → Span → Part
bin_opened LeftOperand span rest = rest
bin_opened context span rest = opened span rest

unfoldable pub bin : {X : Type 0} → (X → Answers) → (X → Place → Part) → BinExpr X → Context → Part
bin asks items n context rest = bin_opened context n.span (items n.left.node.value (Whole LeftOperand) (bin_trailing asks items n rest))

-- the comments at the position before one
unfoldable pub comments_before : BytePos → Part
comments_before pos rest = if pos.0 == 0 then rest else leading_comments (record { 0 = pos.0 - 1 }) rest

unfoldable pub computed_prop_name : {X : Type 0} → (X → Place → Part) → ComputedPropName X → Part
computed_prop_name items n rest = start_of n.span (punct (codes "[") (items n.expr.node.value (Whole Plain) (punct (codes "]") (end_of n.span rest))))

-- `.b`, `[b]`
unfoldable pub member_prop : {X : Type 0} → (X → Place → Part) → MemberProp X → Part
member_prop items (member_props.Ident n) rest = comments_before n.span.lo (punct (codes ".") (ident_name n rest))
member_prop items (member_props.PrivateName n) rest = comments_before n.span.lo (punct (codes ".") (private_name n rest))
member_prop items (member_props.Computed n) rest = computed_prop_name items n rest

-- the context of the object before it
unfoldable pub object_place : {X : Type 0} → MemberProp X → Context
object_place (member_props.Ident n) = DottedObject n.span.lo
object_place (member_props.PrivateName n) = DottedObject n.span.lo
object_place (member_props.Computed n) = Object

unfoldable pub member : {X : Type 0} → (X → Place → Part) → MemberExpr X → Part
member items n rest = opened n.span (items n.obj.node.value (Whole (object_place n.prop)) (member_prop items n.prop (end_of n.span rest)))

-- `.a`, `[a]`
unfoldable pub super_prop : {X : Type 0} → (X → Place → Part) → SuperProp X → Part
super_prop items (super_props.Ident n) rest = comments_before n.span.lo (punct (codes ".") (ident_name n rest))
super_prop items (super_props.Computed n) rest = computed_prop_name items n rest

unfoldable pub super_prop_expr : {X : Type 0} → (X → Place → Part) → SuperPropExpr X → Part
super_prop_expr items n rest = opened n.span (super_keyword n.obj (super_prop items n.prop rest))

-- `?.` of `a?.b` and `a?.[b]`, `.` of `.c` in `a?.b.c`, nothing before `[c]` in `a?.b[c]`
unfoldable pub chain_mark : {X : Type 0} → Bool → MemberProp X → Part
chain_mark true n rest = punct (codes "?.") rest
chain_mark false (member_props.Computed n) rest = rest
chain_mark false n rest = punct (codes ".") rest

unfoldable pub chain_prop : {X : Type 0} → (X → Place → Part) → MemberProp X → Part
chain_prop items (member_props.Ident n) rest = ident_name n rest
chain_prop items (member_props.PrivateName n) rest = private_name n rest
chain_prop items (member_props.Computed n) rest = computed_prop_name items n rest

-- A member of an optional chain has neither comments nor positions of its own.
unfoldable pub chain_member : {X : Type 0} → (X → Place → Part) → Bool → MemberExpr X → Part
chain_member items optional n rest = items n.obj.node.value (Whole Callee) (chain_mark optional n.prop (chain_prop items n.prop rest))

-- a member where it stands
unfoldable pub member_at : {X : Type 0} → (X → Place → Part) → MemberExpr X → Context → Part
member_at items n Chain rest = chain_member items false n rest
member_at items n OptionalChain rest = chain_member items true n rest
member_at items n context rest = member items n rest

unfoldable pub chain_base : {X : Type 0} → (X → Place → Part) → Bool → OptChainBase X → Part
chain_base items optional (chain_bases.Member n) rest = items n.node.value (Whole (chain optional)) rest
chain_base items optional (chain_bases.Call n) rest = items n.node.value (Whole (chain optional)) rest

unfoldable pub opt_chain : {X : Type 0} → (X → Place → Part) → OptChainExpr X → Part
opt_chain items n rest = leading_comments n.span.lo (chain_base items n.optional n.base rest)

-- `new.target` and `import.meta` are three tokens; swc writes them by one call
unfoldable pub meta_prop : MetaPropKind → Part
meta_prop meta_props.NewTarget rest = keyword None (codes "new") (punct (codes ".") (keyword None (codes "target") rest))
meta_prop meta_props.ImportMeta rest = keyword None (codes "import") (punct (codes ".") (keyword None (codes "meta") rest))

unfoldable pub meta_prop_expr : MetaPropExpr → Part
meta_prop_expr n rest = opened n.span (meta_prop n.kind rest)

-- `a = b`, minified `a=b`; where it begins isn't recorded
unfoldable pub assign : {X : Type 0} → (X → Place → Part) → AssignExpr X → Part
assign items n rest =
    leading_comments n.span.lo
    (items n.left.node.value (Whole Plain)
    (formatting_space (operator (assign_text n.op) (formatting_space (items n.right.node.value (Whole Plain) rest)))))

-- `*` of `yield* a`
unfoldable pub yield_star : Bool → Part
yield_star delegate rest = if delegate then operator (codes "*") rest else rest

unfoldable pub yield_argument_in : {X : Type 0} → (X → Answers) → (X → Place → Part) → Bool → X → Bool → Part
yield_argument_in asks items delegate x true rest = optional_parentheses true (items x (Whole Plain)) rest
yield_argument_in asks items delegate x false rest = blank (if delegate then false else (asks x).starts) (items x (Whole Plain) rest)

-- its argument, in parentheses where a line ends in or after a comment before it
unfoldable pub yield_argument : {X : Type 0} → (X → Answers) → (X → Place → Part) → Bool → X → Part
yield_argument asks items delegate x = by_maps (λ maps. yield_argument_in asks items delegate x ((asks x).breaks maps))

-- `yield a`, minified `yield[a]` and `yield*a`
unfoldable pub yield_arg : {X : Type 0} → (X → Answers) → (X → Place → Part) → Bool → Option (ExprBox X) → Part
yield_arg asks items delegate None rest = rest
yield_arg asks items delegate (Some n) rest = yield_argument asks items delegate n.node.value rest

unfoldable pub yield_expr : {X : Type 0} → (X → Answers) → (X → Place → Part) → YieldExpr X → Part
yield_expr asks items n rest = opened n.span (keyword None (codes "yield") (yield_star n.delegate (yield_arg asks items n.delegate n.arg rest)))

-- `...a` of `{ ...a }`
unfoldable pub spread_element : {X : Type 0} → (X → Answers) → (X → Place → Part) → SpreadElement X → Part
spread_element asks items n rest =
    opened (spread_element_span (place_of asks) n)
    (punct (codes "...") (items n.expr.node.value (Whole Plain) (end_of (spread_element_span (place_of asks) n) rest)))

-- a blank always: `await (a)`
unfoldable pub await_expr : {X : Type 0} → (X → Place → Part) → AwaitExpr X → Part
await_expr items n rest = opened n.span (keyword None (codes "await") (space (items n.arg.node.value (Whole Plain) rest)))

unfoldable pub choice : {X : Type 0} → (X → Place → Part) → CondExpr X → Part
choice items n rest =
    opened n.span
    (items n.test.node.value (Whole Plain) (spaced_punct (codes "?")
    (items n.cons.node.value (Whole Plain) (spaced_punct (codes ":") (items n.alt.node.value (Whole Plain) rest)))))

-- what a link holds
abbrev pub held : {X : Type 0} → (X → Place → Part) → ExprBox X → Part
held items n = items n.node.value (Whole Plain)

unfoldable pub seq : {X : Type 0} → (X → Place → Part) → SeqExpr X → Part
seq items n rest = opened n.span (listed (held items) true n.exprs.items rest)

unfoldable pub paren : {X : Type 0} → (X → Place → Part) → ParenExpr X → Part
paren items n rest = commit_pending_semi (opened n.span (punct (codes "(") (items n.expr.node.value (Whole Plain) (last_of n.span (punct (codes ")") rest)))))
