-- Functions: one production a node, with nonterminals. ECMA-262, sections 15.1 to 15.6, 15.8 and 15.9.
use Rattle.std.specs.Prelude.{Bool, true, false, not, codes, string_bytes, bytes_eq, List, [], ◌∷◌, Option, Some, None, if◌then◌else◌}
use Rattle.swc_ecma_codegen_tree.specs.Links.{BlockStmtBox, PatBox, TsTypeParamDeclBox}
use Rattle.swc_ecma_codegen_tree.specs.declared.decls.Decorator.{Decorator}
use Rattle.swc_ecma_codegen_tree.specs.declared.decls.FnDecl.{FnDecl}
use Rattle.swc_ecma_codegen_tree.specs.declared.decls.Function as functions
use Rattle.swc_ecma_codegen_tree.specs.declared.decls.Param.{Param}
use Rattle.swc_ecma_codegen_tree.specs.declared.exprs.ArrowExpr.{ArrowExpr}
use Rattle.swc_ecma_codegen_tree.specs.declared.exprs.BlockStmtOrExpr.{BlockStmtOrExpr}
use Rattle.swc_ecma_codegen_tree.specs.declared.exprs.BlockStmtOrExpr.TheVariants as bodies
use Rattle.swc_ecma_codegen_tree.specs.declared.exprs.FnExpr.{FnExpr}
use Rattle.swc_ecma_codegen_tree.specs.declared.idents.Ident.{Ident}
use Rattle.swc_ecma_codegen_tree.specs.declared.pats.Pat.{Pat}
use Rattle.swc_ecma_codegen_grammar.specs.Phrases.{Never, Nothing, word, mark, same_line, ending}
use Rattle.swc_ecma_codegen_grammar.specs.FunctionPhrases.{is_some_listed, word_if, is_typed_arrow}
use Rattle.swc_ecma_codegen_grammar.specs.TsDeclPhrases.{declare_word}
use Rattle.swc_ecma_codegen_grammar.specs.declared.roles.Role.TheVariants.{Block, Expression, Function, FunctionHead, TypeParameters}
use Rattle.swc_ecma_codegen_syntax.specs.declared.lookahead.Lookahead.TheVariants.{BodyStart}
use Rattle.swc_ecma_codegen_syntax.specs.declared.nonterminals.Nonterminal.{Nonterminal}
use Rattle.swc_ecma_codegen_syntax.specs.declared.nonterminals.Nonterminal.TheVariants as nt
use Rattle.swc_ecma_codegen_syntax.specs.declared.parameters.Parameters.{Parameters}
use Rattle.swc_ecma_codegen_syntax.specs.Nonterminals.{takes}
use Rattle.swc_ecma_codegen_syntax.specs.Parameters.{with_in, of_parameters, of_function, of_function_name, of_arrow_parameters, of_arrow_value, of_arrow_block}
use Rattle.swc_ecma_codegen_syntax.specs.declared.verdicts.Shape.TheVariants as shapes
use Rattle.swc_ecma_codegen_syntax.specs.Forms.{Form, Fixed, Part, Shaped, Restricted, Lone, Provided, Cure, ByRule, ByScope, ◌⇢◌, in_order, ending_listed}
use Rattle.swc_ecma_codegen_syntax.specs.NameForms.{name_form, is_assignable}
use Rattle.swc_ecma_codegen_syntax.specs.MemberForms.{expr_part, annotation_form}
use Rattle.swc_ecma_codegen_syntax.specs.PatForms.{pat_form, pat_nonterminal, pat_part}

-- types have no production here
unfoldable pub type_params_form : {X : Type 0} → Parameters → Option (TsTypeParamDeclBox X) → Form X
type_params_form c None = Fixed Nothing
type_params_form c (Some n) = Provided ByScope false (Part nt.Uncovered c TypeParameters n.node.value)

-- A proposal, decorators: `@a.b`, `@a.b(c)`, `@(a)`. What is none of these stands in parentheses.
unfoldable pub decorator_form : {X : Type 0} → Parameters → Decorator X → Form X
decorator_form c n = Fixed (mark (codes "@")) ⇢ Shaped shapes.Decorator nt.LeftHandSideExpression (with_in c) Expression n.expr.node.value

-- DecoratorList, of which the core has none; those of a parameter are of TypeScript
unfoldable pub decorators_form : {X : Type 0} → Cure → Parameters → List (Decorator X) → Form X
decorators_form cure c ns = Provided cure (not (is_some_listed ns)) (in_order (decorator_form c) ns)

-- 13.1: BindingIdentifier, which in strict code is neither `eval` nor `arguments`
unfoldable pub bound_name_form : {X : Type 0} → Parameters → Ident → Form X
bound_name_form c n = Provided ByRule (is_assignable c.is_strict (string_bytes n.sym)) (name_form c n)

unfoldable pub optional_name_form : {X : Type 0} → Parameters → Option Ident → Form X
optional_name_form c None = Fixed Nothing
optional_name_form c (Some n) = bound_name_form c n

-- ---- parameters and bodies

-- a pattern that no link holds, without a comma before its closing mark
unfoldable pub pat_in : {X : Type 0} → Nonterminal → Parameters → Pat X → Form X
pat_in place c n = Provided ByRule (takes place (pat_nonterminal n)) (pat_form false c n)

-- 15.1: FormalParameter. Decorators of one are of TypeScript.
unfoldable pub param_form : {X : Type 0} → Parameters → Nonterminal → Param X → Form X
param_form c place n = decorators_form ByScope c n.decorators.items ⇢ pat_in place c n.pat

-- FormalParameters: the last may be a rest
abbrev pub params_form : {X : Type 0} → Parameters → List (Param X) → Form X
params_form c ns = ending_listed (param_form c) ns

-- { FunctionBody }; without one TypeScript declares a function
abbrev pub block_body : {X : Type 0} → Parameters → BlockStmtBox X → Form X
block_body c n = Part nt.Block c Block n.node.value

unfoldable pub body_form : {X : Type 0} → Parameters → Option (BlockStmtBox X) → Form X
body_form c None = Provided ByScope false (Fixed ending)
body_form c (Some n) = block_body c n

-- `( FormalParameters ) { FunctionBody }`, under [Yield] in a generator, [Await] in an async function, and [Return]
abbrev pub own_of : {X : Type 0} → Parameters → functions.Function X → Parameters
own_of c n = of_function n.is_generator n.is_async c

abbrev pub parameters_of : {X : Type 0} → Parameters → functions.Function X → Parameters
parameters_of c n = of_parameters n.is_generator n.is_async c

unfoldable pub rest_of_function : {X : Type 0} → Parameters → functions.Function X → Form X
rest_of_function c n =
    type_params_form c n.type_params ⇢ Fixed (mark (codes "(")) ⇢ params_form (parameters_of c n) n.params.items ⇢ Fixed (mark (codes ")"))
    ⇢ annotation_form c n.return_type ⇢ body_form (own_of c n) n.body

-- Only methods of classes have decorators.
unfoldable pub function_form : {X : Type 0} → Parameters → functions.Function X → Form X
function_form c n = if is_some_listed n.decorators.items then Provided ByRule false (Fixed Never) else rest_of_function c n

-- ---- declarations and expressions

-- 15.2, 15.5, 15.6, 15.8: `function`, `function *`, `async function`, `async function *`
unfoldable pub function_head_nonterminal : Bool → Bool → Nonterminal
function_head_nonterminal false false = nt.FunctionHead
function_head_nonterminal true false = nt.GeneratorHead
function_head_nonterminal false true = nt.AsyncFunctionHead
function_head_nonterminal true true = nt.AsyncGeneratorHead

-- BindingIdentifier of a function expression is `yield` in no generator, and `await` in no async function.
unfoldable pub head_before : Option Ident → Nonterminal
head_before None = nt.AnyFunctionHead
head_before (Some n) =
    if bytes_eq (string_bytes n.sym) (codes "yield") then nt.HeadWithoutYield
    else (if bytes_eq (string_bytes n.sym) (codes "await") then nt.HeadWithoutAwait else nt.AnyFunctionHead)

unfoldable pub fn_expr_form : {X : Type 0} → Parameters → FnExpr X → Form X
fn_expr_form c n =
    Part (head_before n.ident) c FunctionHead n.function.node.value ⇢ optional_name_form (of_function_name c) n.ident
    ⇢ Part nt.FunctionTail c Function n.function.node.value

-- a declaration behind `export default`, which may have no name
unfoldable pub fn_default_form : {X : Type 0} → Parameters → FnExpr X → Form X
fn_default_form c n =
    Part nt.AnyFunctionHead c FunctionHead n.function.node.value ⇢ optional_name_form c n.ident ⇢ Part nt.FunctionTail c Function n.function.node.value

-- what a link of a declaration may hold: where a label stands before it, a FunctionDeclaration alone
unfoldable pub fn_decl_form : {X : Type 0} → Nonterminal → Parameters → FnDecl X → Form X
fn_decl_form head c n =
    Provided ByScope (not n.declare) (Fixed (declare_word n.declare)) ⇢ Part head c FunctionHead n.function.node.value ⇢ bound_name_form c n.ident
    ⇢ Part nt.FunctionTail c Function n.function.node.value

-- ---- arrow functions

-- ArrowParameters: a name alone needs no parentheses but between types
unfoldable pub arrow_params_form : {X : Type 0} → Parameters → Bool → List (PatBox X) → Form X
arrow_params_form c false (n ∷ []) = Lone nt.LastElement c n.node.value
arrow_params_form c typed ns = Fixed (mark (codes "(")) ⇢ ending_listed (λ place n. pat_part place c n) ns ⇢ Fixed (mark (codes ")"))

-- ConciseBody : [lookahead ≠ `{`] ExpressionBody, { FunctionBody }
unfoldable pub arrow_body_form : {X : Type 0} → Parameters → Bool → BlockStmtOrExpr X → Form X
arrow_body_form c is_async (bodies.BlockStmt n) = block_body (of_arrow_block is_async c) n
arrow_body_form c is_async (bodies.Expr n) = Restricted BodyStart nt.AssignmentExpression (of_arrow_value is_async c) false n.node.value

unfoldable pub async_form : {X : Type 0} → Bool → Form X → Form X
async_form true a = Fixed (word (codes "async")) ⇢ Fixed same_line ⇢ a
async_form false a = a

-- 15.3: ArrowParameters => ConciseBody; 15.9: async ArrowFormalParameters => AsyncConciseBody. None is a generator.
unfoldable pub arrow_form : {X : Type 0} → Parameters → ArrowExpr X → Form X
arrow_form c n =
    async_form n.is_async
    (Provided ByRule (not n.is_generator) (Fixed (word_if n.is_generator (mark (codes "*")))) ⇢ type_params_form c n.type_params
    ⇢ arrow_params_form (of_arrow_parameters n.is_async c) (is_typed_arrow n) n.params.items ⇢ annotation_form c n.return_type
    ⇢ Fixed same_line ⇢ Fixed (mark (codes "=>")) ⇢ arrow_body_form c n.is_async n.body)
