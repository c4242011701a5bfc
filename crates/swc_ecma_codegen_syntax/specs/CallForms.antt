-- Arrays, calls and `new`: one production a node, with nonterminals.
use Rattle.std.specs.Prelude.{Bool, true, false, ◌&&◌, ◌||◌, not, ◌==◌, is_some, codes, List, [], ◌∷◌, length, Option, Some, None, if◌then◌else◌}
use Rattle.std.specs.declared.vec.Vec.{Vec}
use Rattle.swc_ecma_codegen_tree.specs.declared.modules.ImportPhase.{ImportPhase}
use Rattle.swc_ecma_codegen_tree.specs.declared.modules.ImportPhase.TheVariants as phases
use Rattle.swc_ecma_codegen_tree.specs.declared.exprs.ArrayLit.{ArrayLit}
use Rattle.swc_ecma_codegen_tree.specs.declared.exprs.ExprOrSpread.{ExprOrSpread}
use Rattle.swc_ecma_codegen_tree.specs.declared.exprs.CallExpr.{CallExpr}
use Rattle.swc_ecma_codegen_tree.specs.declared.exprs.Callee.{Callee}
use Rattle.swc_ecma_codegen_tree.specs.declared.exprs.Callee.TheVariants as callees
use Rattle.swc_ecma_codegen_tree.specs.declared.exprs.NewExpr.{NewExpr}
use Rattle.swc_ecma_codegen_tree.specs.declared.exprs.OptCall.{OptCall}
use Rattle.swc_ecma_codegen_grammar.specs.Phrases.{Nothing, Chosen, EmptyArguments, word, mark}
use Rattle.swc_ecma_codegen_grammar.specs.CallPhrases.{spread_mark, import_callee, call_mark}
use Rattle.swc_ecma_codegen_grammar.specs.ElementPhrases.{last_is_hole}
use Rattle.swc_ecma_codegen_syntax.specs.declared.nonterminals.Nonterminal.{Nonterminal}
use Rattle.swc_ecma_codegen_syntax.specs.declared.nonterminals.Nonterminal.TheVariants as nt
use Rattle.swc_ecma_codegen_syntax.specs.declared.parameters.Parameters.{Parameters}
use Rattle.swc_ecma_codegen_syntax.specs.Parameters.{with_in, to_end}
use Rattle.swc_ecma_codegen_syntax.specs.Forms.{Form, Fixed, Provided, ByRule, ByScope, ◌⇢◌, listed, element}
use Rattle.swc_ecma_codegen_syntax.specs.MemberForms.{expr_part, callee_part, type_args_form, chained}

-- 13.3.8: AssignmentExpression[+In], with `...` or without
unfoldable pub argument_form : {X : Type 0} → Parameters → ExprOrSpread X → Form X
argument_form c n = Fixed (spread_mark n.spread) ⇢ expr_part nt.AssignmentExpression (with_in c) n.expr

-- 13.2.4: an ArrayLiteral, whose last comma is one of a hole
unfoldable pub elements_form : {X : Type 0} → Parameters → Bool → List (Option (ExprOrSpread X)) → Form X
elements_form c true xs = listed (codes ",") (element (argument_form c)) xs ⇢ Fixed (mark (codes ","))
elements_form c false xs = listed (codes ",") (element (argument_form c)) xs

unfoldable pub array_form : {X : Type 0} → Parameters → ArrayLit X → Form X
array_form c n = Fixed (mark (codes "[")) ⇢ elements_form c (last_is_hole n.elems.items) n.elems.items ⇢ Fixed (mark (codes "]"))

-- 13.3.8
unfoldable pub arguments_form : {X : Type 0} → Parameters → List (ExprOrSpread X) → Form X
arguments_form c xs = Fixed (mark (codes "(")) ⇢ listed (codes ",") (argument_form c) xs ⇢ Fixed (mark (codes ")"))

-- 13.3.10: ImportCall, of one argument, or two with attributes (ECMA-262, 2025), and no spread. `import.source` is a proposal.
unfoldable pub no_spread : {X : Type 0} → List (ExprOrSpread X) → Bool
no_spread [] = true
no_spread (x ∷ xs) = not (is_some x.spread) && no_spread xs

unfoldable pub is_evaluation : ImportPhase → Bool
is_evaluation phases.Evaluation = true
is_evaluation phase = false

unfoldable pub are_import_arguments : {X : Type 0} → List (ExprOrSpread X) → Bool
are_import_arguments xs = (length xs == 1 || length xs == 2) && no_spread xs

-- 13.3.6: CoverCallExpression, SuperCall, ImportCall, and CallExpression Arguments
unfoldable pub callee_form : {X : Type 0} → Parameters → Callee X → List (ExprOrSpread X) → Form X
callee_form c (callees.Super n) args = Fixed (word (codes "super"))
callee_form c (callees.Import n) args =
    Provided ByRule (are_import_arguments args) (Provided ByScope (is_evaluation n.phase) (Fixed (import_callee n)))
callee_form c (callees.Expr n) args = callee_part nt.CallOrMember (with_in c) n

unfoldable pub call_form : {X : Type 0} → Parameters → CallExpr X → Form X
call_form c n = callee_form c n.callee n.args.items ⇢ type_args_form c n.type_args ⇢ arguments_form c n.args.items

-- 13.3.5: NewExpression : new NewExpression; MemberExpression : new MemberExpression Arguments. An emission that minifies leaves `()`
-- away but where `keeps` says that they stay, as in `new A().b`.
unfoldable pub drops_arguments : {X : Type 0} → Parameters → Bool → List (ExprOrSpread X) → Bool
drops_arguments c true xs = false
drops_arguments c false [] = c.minify
drops_arguments c false (x ∷ xs) = false

unfoldable pub has_arguments : {X Z : Type 0} → Parameters → Bool → Option (Vec (ExprOrSpread X) Z) → Bool
has_arguments c keeps None = false
has_arguments c keeps (Some xs) = not (drops_arguments c keeps xs.items)

unfoldable pub new_nonterminal : {X : Type 0} → Parameters → Bool → NewExpr X → Nonterminal
new_nonterminal c keeps n = if has_arguments c keeps n.args then nt.MemberExpression else nt.NewExpression

-- without arguments what is called ends the expression
unfoldable pub new_parameters : {X : Type 0} → Parameters → Bool → NewExpr X → Parameters
new_parameters c keeps n = if has_arguments c keeps n.args then with_in c else to_end c

unfoldable pub listed_form : {X : Type 0} → Parameters → Bool → List (ExprOrSpread X) → Form X
listed_form c false [] = Fixed (Chosen EmptyArguments)
listed_form c keeps xs = arguments_form c xs

unfoldable pub new_arguments_form : {X Z : Type 0} → Parameters → Bool → Option (Vec (ExprOrSpread X) Z) → Form X
new_arguments_form c keeps None = Fixed Nothing
new_arguments_form c keeps (Some xs) = listed_form c keeps xs.items

unfoldable pub new_form : {X : Type 0} → Parameters → Bool → NewExpr X → Form X
new_form c keeps n =
    Fixed (word (codes "new")) ⇢ expr_part (new_nonterminal c keeps n) (new_parameters c keeps n) n.callee ⇢ type_args_form c n.type_args
    ⇢ new_arguments_form c keeps n.args

-- 13.3.9: `a?.(b)`, and `(c)` of `a?.b(c)`
unfoldable pub chain_call_form : {X : Type 0} → Parameters → Bool → OptCall X → Form X
chain_call_form c optional n =
    callee_part (chained optional) (with_in c) n.callee ⇢ Fixed (call_mark optional) ⇢ type_args_form c n.type_args ⇢ arguments_form c n.args.items
