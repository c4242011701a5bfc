-- Expressions: one production a node, with nonterminals. ECMA-262, section 13.
use Rattle.std.specs.Prelude.{Bool, true, false, ◌||◌, not, codes, Option, Some, None, if◌then◌else◌}
use Rattle.swc_ecma_codegen_common.specs.declared.operators.BinaryOp.{BinaryOp}
use Rattle.swc_ecma_codegen_common.specs.declared.operators.BinaryOp.TheVariants as binary
use Rattle.swc_ecma_codegen_common.specs.declared.operators.AssignOp.{AssignOp}
use Rattle.swc_ecma_codegen_common.specs.declared.operators.AssignOp.TheVariants as assign
use Rattle.swc_ecma_codegen_tree.specs.Links.{ExprBox}
use Rattle.swc_ecma_codegen_tree.specs.declared.exprs.Expr.{Expr}
use Rattle.swc_ecma_codegen_tree.specs.declared.exprs.Expr.TheVariants as exprs
use Rattle.swc_ecma_codegen_tree.specs.declared.exprs.UnaryExpr.{UnaryExpr}
use Rattle.swc_ecma_codegen_tree.specs.declared.exprs.UpdateExpr.{UpdateExpr}
use Rattle.swc_ecma_codegen_tree.specs.declared.exprs.BinExpr.{BinExpr}
use Rattle.swc_ecma_codegen_tree.specs.declared.exprs.AssignExpr.{AssignExpr}
use Rattle.swc_ecma_codegen_tree.specs.declared.exprs.YieldExpr.{YieldExpr}
use Rattle.swc_ecma_codegen_tree.specs.declared.exprs.AwaitExpr.{AwaitExpr}
use Rattle.swc_ecma_codegen_tree.specs.declared.exprs.CondExpr.{CondExpr}
use Rattle.swc_ecma_codegen_tree.specs.declared.exprs.SeqExpr.{SeqExpr}
use Rattle.swc_ecma_codegen_tree.specs.declared.exprs.ParenExpr.{ParenExpr}
use Rattle.swc_ecma_codegen_grammar.specs.Phrases.{Never, Nothing, One, word, mark, same_line}
use Rattle.swc_ecma_codegen_grammar.specs.ExprPhrases.{this_expr, unary_op, update_op, binary_op, assign_op, meta_prop_expr}
use Rattle.swc_ecma_codegen_grammar.specs.NamePhrases.{private_name}
use Rattle.swc_ecma_codegen_grammar.specs.declared.roles.Role.TheVariants.{AssignmentTarget, Template, Element}
use Rattle.swc_ecma_codegen_syntax.specs.declared.nonterminals.Nonterminal.{Nonterminal}
use Rattle.swc_ecma_codegen_syntax.specs.declared.nonterminals.Nonterminal.TheVariants as nt
use Rattle.swc_ecma_codegen_syntax.specs.declared.parameters.Parameters.{Parameters}
use Rattle.swc_ecma_codegen_syntax.specs.Parameters.{with_in, to_end, before_operator, may_yield, may_await}
use Rattle.swc_ecma_codegen_syntax.specs.Forms.{Form, Fixed, Part, Simple, Provided, Bare, ByPlace, ByRule, ByScope, ◌⇢◌, some_listed}
use Rattle.swc_ecma_codegen_syntax.specs.NameForms.{name_form, lit_form}
use Rattle.swc_ecma_codegen_syntax.specs.MemberForms.{expr_part, member_form, super_prop_form, tagged_form, opt_chain_form}
use Rattle.swc_ecma_codegen_syntax.specs.CallForms.{array_form, call_form, new_form, new_nonterminal}
use Rattle.swc_ecma_codegen_syntax.specs.ObjectForms.{object_form}
use Rattle.swc_ecma_codegen_syntax.specs.FunctionForms.{fn_expr_form, arrow_form}
use Rattle.swc_ecma_codegen_syntax.specs.ClassForms.{class_expr_form}

-- 13.5: UnaryExpression : delete UnaryExpression, .. , ! UnaryExpression
unfoldable pub unary_form : {X : Type 0} → Parameters → UnaryExpr X → Form X
unary_form c n = Fixed (One (unary_op n.op)) ⇢ expr_part nt.UnaryExpression (to_end c) n.arg

-- 13.4: LeftHandSideExpression ++, ++ UnaryExpression, whose AssignmentTargetType is simple
unfoldable pub update_form : {X : Type 0} → Parameters → UpdateExpr X → Form X
update_form c n =
    if n.prefix then Fixed (One (update_op n.op)) ⇢ Simple true nt.UnaryExpression (with_in c) n.arg.node.value
    else (Simple true nt.LeftHandSideExpression (with_in c) n.arg.node.value ⇢ Fixed same_line ⇢ Fixed (One (update_op n.op)))

-- 13.6 to 13.13: the nonterminal of each operator, and of its operands
unfoldable pub binary_nonterminal : BinaryOp → Nonterminal
binary_nonterminal binary.Exp = nt.ExponentiationExpression
binary_nonterminal binary.Mul = nt.MultiplicativeExpression
binary_nonterminal binary.Div = nt.MultiplicativeExpression
binary_nonterminal binary.Mod = nt.MultiplicativeExpression
binary_nonterminal binary.Add = nt.AdditiveExpression
binary_nonterminal binary.Sub = nt.AdditiveExpression
binary_nonterminal binary.LShift = nt.ShiftExpression
binary_nonterminal binary.RShift = nt.ShiftExpression
binary_nonterminal binary.ZeroFillRShift = nt.ShiftExpression
binary_nonterminal binary.Lt = nt.RelationalExpression
binary_nonterminal binary.Gt = nt.RelationalExpression
binary_nonterminal binary.LtEq = nt.RelationalExpression
binary_nonterminal binary.GtEq = nt.RelationalExpression
binary_nonterminal binary.InstanceOf = nt.RelationalExpression
binary_nonterminal binary.In = nt.RelationalExpression
binary_nonterminal binary.EqEq = nt.EqualityExpression
binary_nonterminal binary.NotEq = nt.EqualityExpression
binary_nonterminal binary.EqEqEq = nt.EqualityExpression
binary_nonterminal binary.NotEqEq = nt.EqualityExpression
binary_nonterminal binary.BitAnd = nt.BitwiseAndExpression
binary_nonterminal binary.BitXor = nt.BitwiseXorExpression
binary_nonterminal binary.BitOr = nt.BitwiseOrExpression
binary_nonterminal binary.LogicalAnd = nt.LogicalAndExpression
binary_nonterminal binary.LogicalOr = nt.LogicalOrExpression
binary_nonterminal binary.NullishCoalescing = nt.CoalesceExpression

-- UpdateExpression ** ExponentiationExpression; CoalesceExpressionHead ?? BitwiseORExpression; PrivateIdentifier in ShiftExpression; the
-- others are left recursive: AdditiveExpression + MultiplicativeExpression
unfoldable pub left_nonterminal : BinaryOp → Nonterminal
left_nonterminal binary.Exp = nt.UpdateExpression
left_nonterminal binary.NullishCoalescing = nt.CoalesceExpressionHead
left_nonterminal binary.In = nt.InLeft
left_nonterminal op = binary_nonterminal op

unfoldable pub right_nonterminal : BinaryOp → Nonterminal
right_nonterminal binary.Exp = nt.ExponentiationExpression
right_nonterminal binary.Mul = nt.ExponentiationExpression
right_nonterminal binary.Div = nt.ExponentiationExpression
right_nonterminal binary.Mod = nt.ExponentiationExpression
right_nonterminal binary.Add = nt.MultiplicativeExpression
right_nonterminal binary.Sub = nt.MultiplicativeExpression
right_nonterminal binary.LShift = nt.AdditiveExpression
right_nonterminal binary.RShift = nt.AdditiveExpression
right_nonterminal binary.ZeroFillRShift = nt.AdditiveExpression
right_nonterminal binary.Lt = nt.ShiftExpression
right_nonterminal binary.Gt = nt.ShiftExpression
right_nonterminal binary.LtEq = nt.ShiftExpression
right_nonterminal binary.GtEq = nt.ShiftExpression
right_nonterminal binary.InstanceOf = nt.ShiftExpression
right_nonterminal binary.In = nt.ShiftExpression
right_nonterminal binary.EqEq = nt.RelationalExpression
right_nonterminal binary.NotEq = nt.RelationalExpression
right_nonterminal binary.EqEqEq = nt.RelationalExpression
right_nonterminal binary.NotEqEq = nt.RelationalExpression
right_nonterminal binary.BitAnd = nt.EqualityExpression
right_nonterminal binary.BitXor = nt.BitwiseAndExpression
right_nonterminal binary.BitOr = nt.BitwiseXorExpression
right_nonterminal binary.LogicalAnd = nt.BitwiseOrExpression
right_nonterminal binary.LogicalOr = nt.LogicalAndExpression
right_nonterminal binary.NullishCoalescing = nt.BitwiseOrExpression

-- `in` is an operator under [+In]
unfoldable pub is_in : BinaryOp → Bool
is_in binary.In = true
is_in op = false

unfoldable pub is_less : BinaryOp → Bool
is_less binary.Lt = true
is_less op = false

unfoldable pub bin_form : {X : Type 0} → Parameters → BinExpr X → Form X
bin_form c n =
    Provided ByPlace (not (is_in n.op) || c.has_in)
    (expr_part (left_nonterminal n.op) (before_operator (is_less n.op) c) n.left ⇢ Fixed (One (binary_op n.op)) ⇢ expr_part (right_nonterminal n.op) c n.right)

-- 13.14: ShortCircuitExpression ? AssignmentExpression[+In] : AssignmentExpression
unfoldable pub cond_form : {X : Type 0} → Parameters → CondExpr X → Form X
cond_form c n =
    expr_part nt.ShortCircuitExpression c n.test ⇢ Fixed (mark (codes "?")) ⇢ expr_part nt.AssignmentExpression (with_in c) n.cons
    ⇢ Fixed (mark (codes ":")) ⇢ expr_part nt.AssignmentExpression c n.alt

-- 13.15: LeftHandSideExpression = AssignmentExpression, with other operators, and `=` behind an AssignmentPattern
unfoldable pub target_of : AssignOp → Nonterminal
target_of assign.Assign = nt.AssignmentTarget
target_of op = nt.LeftHandSideExpression

unfoldable pub assign_form : {X : Type 0} → Parameters → AssignExpr X → Form X
assign_form c n =
    Part (target_of n.op) (with_in c) AssignmentTarget n.left.node.value ⇢ Fixed (One (assign_op n.op)) ⇢ expr_part nt.AssignmentExpression c n.right

-- 15.5: yield, yield AssignmentExpression, yield * AssignmentExpression
unfoldable pub yield_arg_form : {X : Type 0} → Parameters → Option (ExprBox X) → Form X
yield_arg_form c None = Provided ByRule false (Fixed Nothing)
yield_arg_form c (Some arg) = Bare (expr_part nt.AssignmentExpression c arg)

unfoldable pub yield_rest_form : {X : Type 0} → Parameters → Bool → Option (ExprBox X) → Form X
yield_rest_form c true arg = Fixed same_line ⇢ Fixed (mark (codes "*")) ⇢ yield_arg_form c arg
yield_rest_form c false None = Fixed Nothing
yield_rest_form c false (Some arg) = Fixed same_line ⇢ Bare (expr_part nt.AssignmentExpression c arg)

unfoldable pub yield_form : {X : Type 0} → Parameters → YieldExpr X → Form X
yield_form c n = Provided ByRule (may_yield c) (Fixed (word (codes "yield")) ⇢ yield_rest_form c n.delegate n.arg)

-- 15.8: await UnaryExpression
unfoldable pub await_form : {X : Type 0} → Parameters → AwaitExpr X → Form X
await_form c n = Provided ByRule (may_await c) (Fixed (word (codes "await")) ⇢ expr_part nt.UnaryExpression (to_end c) n.arg)

-- 13.16: Expression , AssignmentExpression
unfoldable pub seq_form : {X : Type 0} → Parameters → SeqExpr X → Form X
seq_form c n = some_listed (codes ",") (expr_part nt.AssignmentExpression c) n.exprs.items

-- 13.2.9: ( Expression )
unfoldable pub paren_form : {X : Type 0} → Parameters → ParenExpr X → Form X
paren_form c n = Fixed (mark (codes "(")) ⇢ expr_part nt.Expression (with_in c) n.expr ⇢ Fixed (mark (codes ")"))

-- What a member and a tag are: a CallExpression where what stands before them is one, and otherwise a MemberExpression.
abbrev pub call_or_member : Bool → Nonterminal
call_or_member called = if called then nt.CallExpression else nt.MemberExpression

-- The nonterminal whose production derives a node; `keeps` says that it is called, or has a property.
unfoldable pub expr_nonterminal : {X : Type 0} → Bool → Bool → Parameters → Expr X → Nonterminal
expr_nonterminal keeps called c (exprs.Unary n) = nt.UnaryExpression
expr_nonterminal keeps called c (exprs.Update n) = nt.UpdateExpression
expr_nonterminal keeps called c (exprs.Bin n) = binary_nonterminal n.op
expr_nonterminal keeps called c (exprs.Assign n) = nt.AssignmentExpression
expr_nonterminal keeps called c (exprs.Member n) = call_or_member called
expr_nonterminal keeps called c (exprs.SuperProp n) = nt.MemberExpression
expr_nonterminal keeps called c (exprs.Cond n) = nt.ConditionalExpression
expr_nonterminal keeps called c (exprs.Call n) = nt.CallExpression
expr_nonterminal keeps called c (exprs.New n) = new_nonterminal c keeps n
expr_nonterminal keeps called c (exprs.Seq n) = nt.Expression
expr_nonterminal keeps called c (exprs.TaggedTpl n) = call_or_member called
expr_nonterminal keeps called c (exprs.Yield n) = nt.AssignmentExpression
expr_nonterminal keeps called c (exprs.Await n) = nt.UnaryExpression
expr_nonterminal keeps called c (exprs.MetaProp n) = nt.MemberExpression
expr_nonterminal keeps called c (exprs.OptChain n) = nt.OptionalExpression
expr_nonterminal keeps called c (exprs.PrivateName n) = nt.PrivateIdentifier
expr_nonterminal keeps called c (exprs.Arrow n) = nt.AssignmentExpression
expr_nonterminal keeps called c n = nt.PrimaryExpression

-- The production. No element of JSX stands right before the operator `<`, as parsers have it. TypeScript has none here.
unfoldable pub expr_form : {X : Type 0} → Bool → Bool → Parameters → Expr X → Form X
expr_form keeps called c (exprs.This n) = Fixed (this_expr n)
expr_form keeps called c (exprs.Array n) = array_form c n
expr_form keeps called c (exprs.Object n) = object_form c n
expr_form keeps called c (exprs.Unary n) = unary_form c n
expr_form keeps called c (exprs.Update n) = update_form c n
expr_form keeps called c (exprs.Bin n) = bin_form c n
expr_form keeps called c (exprs.Assign n) = assign_form c n
expr_form keeps called c (exprs.Member n) = member_form (call_or_member called) c n
expr_form keeps called c (exprs.SuperProp n) = super_prop_form c n
expr_form keeps called c (exprs.Cond n) = cond_form c n
expr_form keeps called c (exprs.Call n) = call_form c n
expr_form keeps called c (exprs.New n) = new_form c keeps n
expr_form keeps called c (exprs.Seq n) = seq_form c n
expr_form keeps called c (exprs.Ident n) = name_form c n
expr_form keeps called c (exprs.Lit n) = lit_form n
expr_form keeps called c (exprs.Tpl n) = Part nt.TemplateLiteral (with_in c) Template n.node.value
expr_form keeps called c (exprs.TaggedTpl n) = tagged_form (call_or_member called) c n
expr_form keeps called c (exprs.Yield n) = yield_form c n
expr_form keeps called c (exprs.MetaProp n) = Fixed (meta_prop_expr n)
expr_form keeps called c (exprs.Await n) = await_form c n
expr_form keeps called c (exprs.Paren n) = paren_form c n
expr_form keeps called c (exprs.PrivateName n) = Fixed (private_name n)
expr_form keeps called c (exprs.OptChain n) = opt_chain_form c n
expr_form keeps called c (exprs.JSXElement n) = Provided ByPlace (not c.before_less) (Part nt.JSXElement (with_in c) Element n.node.value)
expr_form keeps called c (exprs.JSXFragment n) = Provided ByPlace (not c.before_less) (Part nt.JSXElement (with_in c) Element n.node.value)
expr_form keeps called c (exprs.Fn n) = fn_expr_form c n
expr_form keeps called c (exprs.Arrow n) = arrow_form c n.value
expr_form keeps called c (exprs.Class n) = class_expr_form c n
expr_form keeps called c n = Provided ByScope false (Fixed Never)
