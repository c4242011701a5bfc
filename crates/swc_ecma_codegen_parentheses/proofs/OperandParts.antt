-- Operands as the productions have them, section 13: where each stands, and what the text of the whole begins with. Without `()` left away: a minified
-- `new A()` has the nonterminals of `new A`.
use Rattle.std.proofs.Common.{◌≡◌, Bool, true, false, ◌||◌, not, ap, codes, List, [], ◌∷◌, Option, Some, None, Vec, Global, if◌then◌else◌, refl}
use Rattle.swc_ecma_codegen_tree.specs.Links.{ExprBox}
use Rattle.swc_ecma_codegen_tree.specs.declared.exprs.Expr.TheVariants as exprs
use Rattle.swc_ecma_codegen_tree.specs.declared.exprs.AssignExpr.{AssignExpr}
use Rattle.swc_ecma_codegen_tree.specs.declared.exprs.AwaitExpr.{AwaitExpr}
use Rattle.swc_ecma_codegen_tree.specs.declared.exprs.BinExpr.{BinExpr}
use Rattle.swc_ecma_codegen_tree.specs.declared.exprs.CondExpr.{CondExpr}
use Rattle.swc_ecma_codegen_tree.specs.declared.exprs.Callee.TheVariants as callees
use Rattle.swc_ecma_codegen_tree.specs.declared.exprs.ExprOrSpread.{ExprOrSpread}
use Rattle.swc_ecma_codegen_tree.specs.declared.exprs.MemberExpr.{MemberExpr}
use Rattle.swc_ecma_codegen_tree.specs.declared.exprs.NewExpr.{NewExpr}
use Rattle.swc_ecma_codegen_tree.specs.declared.exprs.OptCall.{OptCall}
use Rattle.swc_ecma_codegen_tree.specs.declared.exprs.ParenExpr.{ParenExpr}
use Rattle.swc_ecma_codegen_tree.specs.declared.pats.SimpleAssignTarget.TheVariants as simple_targets
use Rattle.swc_ecma_codegen_tree.specs.declared.exprs.UnaryExpr.{UnaryExpr}
use Rattle.swc_ecma_codegen_tree.specs.declared.exprs.UpdateExpr.{UpdateExpr}
use Rattle.swc_ecma_codegen_grammar.specs.Phrases.{One, mark, same_line, word}
use Rattle.swc_ecma_codegen_grammar.specs.CallPhrases.{call_mark}
use Rattle.swc_ecma_codegen_grammar.specs.ExprPhrases.{assign_op, binary_op, chain_mark, unary_op, update_op}
use Rattle.swc_ecma_codegen_grammar.specs.declared.roles.Role.{Role}
use Rattle.swc_ecma_codegen_grammar.specs.declared.roles.Role.TheVariants.{AssignmentTarget, Expression}
use Rattle.swc_ecma_codegen_syntax.specs.declared.lookahead.Beginning.{Beginning}
use Rattle.swc_ecma_codegen_syntax.specs.declared.parameters.Parameters.{Parameters}
use Rattle.swc_ecma_codegen_syntax.specs.Beginnings.{expr_begins, goes_on, goes_on_in_line, update_begins}
use Rattle.swc_ecma_codegen_syntax.specs.ExprForms.{assign_form, await_form, bin_form, cond_form, is_in, paren_form, target_of, unary_form, update_form}
use Rattle.swc_ecma_codegen_syntax.specs.Forms.{ByPlace, ByRule, Fixed, Form, Part, Provided, Simple, ◌⇢◌}
use Rattle.swc_ecma_codegen_syntax.specs.CallForms.{arguments_form, callee_form, chain_call_form, drops_arguments, has_arguments, new_nonterminal}
use Rattle.swc_ecma_codegen_syntax.specs.MemberForms.{callee_part, chain_member_form, chain_prop_form, expr_part, member_form, prop_form, type_args_form}
use Rattle.swc_ecma_codegen_syntax.specs.TargetForms.{simple_target_form}
use Rattle.swc_ecma_codegen_syntax.specs.declared.nonterminals.Nonterminal.{Nonterminal}
use Rattle.swc_ecma_codegen_syntax.specs.declared.nonterminals.Nonterminal.TheVariants as nt
use Rattle.swc_ecma_codegen_syntax.specs.Parameters.{may_await, with_in}
use Rattle.swc_ecma_codegen_parentheses.specs.declared.operands.Operand.{Operand}
use Rattle.swc_ecma_codegen_parentheses.specs.declared.operands.Operand.TheVariants.{Branch, Called, Inside, Last, Left, New, Postfix, Prefix, Right, Test, Unary}
use Rattle.swc_ecma_codegen_parentheses.specs.Operands.{object_nonterminal, operand_nonterminal, operand_parameters}
use Rattle.swc_ecma_codegen_parentheses.specs.SameExprs.{called_with, new_operand}

-- an operand of a node under these parameters, and one whose AssignmentTargetType is simple
abbrev operand_part : {X : Type 0} → Operand → Parameters → ExprBox X → Form X
operand_part operand c n = expr_part (operand_nonterminal operand) (operand_parameters operand c) n

abbrev simple_part : {X : Type 0} → Operand → Parameters → ExprBox X → Form X
simple_part operand c n = Simple true (operand_nonterminal operand) (operand_parameters operand c) n.node.value

pub unary_operand : {X : Type 0} (c : Parameters) (n : UnaryExpr X) → unary_form c n ≡ (Fixed (One (unary_op n.op)) ⇢ operand_part Unary c n.arg)
unfolding unary_form operand_nonterminal operand_parameters
unary_operand c n = refl

pub update_operand : {X : Type 0} (c : Parameters) (n : UpdateExpr X) →
    update_form c n ≡ (if n.prefix then Fixed (One (update_op n.op)) ⇢ simple_part Prefix c n.arg else (simple_part Postfix c n.arg ⇢ Fixed same_line ⇢ Fixed (One (update_op n.op))))
unfolding update_form operand_nonterminal operand_parameters
update_operand c n = refl

pub bin_operands : {X : Type 0} (c : Parameters) (n : BinExpr X) →
    bin_form c n ≡ Provided ByPlace (not (is_in n.op) || c.has_in) (operand_part (Left n.op) c n.left ⇢ Fixed (One (binary_op n.op)) ⇢ operand_part (Right n.op) c n.right)
unfolding bin_form operand_nonterminal operand_parameters
bin_operands c n = refl

pub cond_operands : {X : Type 0} (c : Parameters) (n : CondExpr X) →
    cond_form c n ≡ (operand_part Test c n.test ⇢ Fixed (mark (codes "?")) ⇢ operand_part Branch c n.cons ⇢ Fixed (mark (codes ":")) ⇢ operand_part Last c n.alt)
unfolding cond_form operand_nonterminal operand_parameters
cond_operands c n = refl

pub assign_operand : {X : Type 0} (c : Parameters) (n : AssignExpr X) →
    assign_form c n ≡ (Part (target_of n.op) (with_in c) AssignmentTarget n.left.node.value ⇢ Fixed (One (assign_op n.op)) ⇢ operand_part Last c n.right)
unfolding assign_form operand_nonterminal operand_parameters
assign_operand c n = refl

pub await_operand : {X : Type 0} (c : Parameters) (n : AwaitExpr X) → await_form c n ≡ Provided ByRule (may_await c) (Fixed (word (codes "await")) ⇢ operand_part Unary c n.arg)
unfolding await_form operand_nonterminal operand_parameters
await_operand c n = refl

pub paren_operand : {X : Type 0} (c : Parameters) (n : ParenExpr X) → paren_form c n ≡ (Fixed (mark (codes "(")) ⇢ operand_part Inside c n.expr ⇢ Fixed (mark (codes ")")))
unfolding paren_form operand_nonterminal operand_parameters
paren_operand c n = refl

-- what is called or has a property
abbrev called_part : {X : Type 0} → Option Bool → Parameters → ExprBox X → Form X
called_part chain c n = callee_part (object_nonterminal chain) (operand_parameters Called c) n

pub callee_operand : {X : Type 0} (c : Parameters) (n : ExprBox X) (args : List (ExprOrSpread X)) → callee_form c (callees.Expr n) args ≡ called_part None c n
unfolding callee_form object_nonterminal operand_parameters
callee_operand c n args = refl

pub target_object : {X : Type 0} (c : Parameters) (n : MemberExpr X) → simple_target_form c (simple_targets.Member n) ≡ (called_part None c n.obj ⇢ prop_form c n.prop)
unfolding simple_target_form member_form object_nonterminal operand_parameters
target_object c n = refl

pub chain_object : {X : Type 0} (c : Parameters) (optional : Bool) (n : MemberExpr X) →
    chain_member_form c optional n ≡ (called_part (Some optional) c n.obj ⇢ Fixed (chain_mark optional n.prop) ⇢ chain_prop_form c n.prop)
unfolding chain_member_form object_nonterminal operand_parameters
chain_object c optional n = refl

pub chain_callee : {X : Type 0} (c : Parameters) (optional : Bool) (n : OptCall X) →
    chain_call_form c optional n ≡ (called_part (Some optional) c n.callee ⇢ Fixed (call_mark optional) ⇢ type_args_form c n.type_args ⇢ arguments_form c n.args.items)
unfolding chain_call_form object_nonterminal operand_parameters
chain_callee c optional n = refl

-- what `new` calls, where it isn't minified
abbrev new_place : Operand → Nonterminal
new_place New = nt.NewExpression
new_place operand = nt.MemberExpression

new_place_of : {A : Type 0} (drops : Bool) (xs : List A) → drops ≡ false → (if not drops then nt.MemberExpression else nt.NewExpression) ≡ new_place (called_with xs)
unfolding called_with
new_place_of drops [] is = ap (λ d. if not d then nt.MemberExpression else nt.NewExpression) is
new_place_of drops (x ∷ xs) is = ap (λ d. if not d then nt.MemberExpression else nt.NewExpression) is

drops_none : {X : Type 0} (c : Parameters) (keeps : Bool) (xs : List (ExprOrSpread X)) → c.minify ≡ false → drops_arguments c keeps xs ≡ false
unfolding drops_arguments
drops_none c true xs is = refl
drops_none c false [] is = is
drops_none c false (x ∷ xs) is = refl

new_place_by : {X : Type 0} (c : Parameters) (keeps : Bool) (args : Option (Vec (ExprOrSpread X) Global)) → c.minify ≡ false → (if has_arguments c keeps args then nt.MemberExpression else nt.NewExpression) ≡ new_place (new_operand args)
unfolding has_arguments new_operand
new_place_by c keeps None is = refl
new_place_by c keeps (Some xs) is = new_place_of (drops_arguments c keeps xs.items) xs.items (drops_none c keeps xs.items is)

pub new_callee : {X : Type 0} (c : Parameters) (keeps : Bool) (n : NewExpr X) → c.minify ≡ false → new_nonterminal c keeps n ≡ new_place (new_operand n.args)
unfolding new_nonterminal
new_callee c keeps n is = new_place_by c keeps n.args is

-- what the text of the whole begins with
pub bin_begins : {X : Type 0} (f : X → Role → Beginning) (n : BinExpr X) → expr_begins f (exprs.Bin n) ≡ goes_on (f n.left.node.value Expression)
unfolding expr_begins
bin_begins f n = refl

pub cond_begins : {X : Type 0} (f : X → Role → Beginning) (n : CondExpr X) → expr_begins f (exprs.Cond n) ≡ goes_on (f n.test.node.value Expression)
unfolding expr_begins
cond_begins f n = refl
