-- Functions: one production a node. `f` says what is read of what a link holds, in its role.
use Rattle.std.specs.Prelude.{Bool, true, false, ◌||◌, is_some, if◌then◌else◌, List, [], ◌∷◌, map, codes, Option, Some, None}
use Rattle.swc_ecma_codegen_tree.specs.Links.{BlockStmtBox, FunctionBox, PatBox}
use Rattle.swc_ecma_codegen_tree.specs.declared.decls.Decorator.{Decorator}
use Rattle.swc_ecma_codegen_tree.specs.declared.decls.Param.{Param}
use Rattle.swc_ecma_codegen_tree.specs.declared.decls.Function as functions
use Rattle.swc_ecma_codegen_tree.specs.declared.exprs.FnExpr.{FnExpr}
use Rattle.swc_ecma_codegen_tree.specs.declared.exprs.ArrowExpr.{ArrowExpr}
use Rattle.swc_ecma_codegen_tree.specs.declared.exprs.BlockStmtOrExpr.{BlockStmtOrExpr}
use Rattle.swc_ecma_codegen_tree.specs.declared.exprs.BlockStmtOrExpr.TheVariants as bodies
use Rattle.swc_ecma_codegen_tree.specs.declared.idents.Ident.{Ident}
use Rattle.swc_ecma_codegen_grammar.specs.Phrases.{Phrase, Never, Nothing, OptionalParentheses, Parameter, ◌>◌, word, mark, ending, listed, in_order, same_line}
use Rattle.swc_ecma_codegen_grammar.specs.AnnotationPhrases.{annotation, type_params}
use Rattle.swc_ecma_codegen_grammar.specs.NamePhrases.{ident}
use Rattle.swc_ecma_codegen_grammar.specs.PatPhrases.{value_at, pat_at, pat}
use Rattle.swc_ecma_codegen_grammar.specs.declared.roles.Role.{Role}
use Rattle.swc_ecma_codegen_grammar.specs.declared.roles.Role.TheVariants.{PlainParameter, Function, FunctionHead, Block}

-- a block, and a function, that a link holds
abbrev pub block_at : {X : Type 0} → (X → Role → Phrase) → BlockStmtBox X → Phrase
block_at f n = f n.node.value Block

abbrev pub function_at : {X : Type 0} → (X → Role → Phrase) → FunctionBox X → Phrase
function_at f n = f n.node.value Function

-- a word or a mark, where there is one
unfoldable pub word_if : Bool → Phrase → Phrase
word_if true phrase = phrase
word_if false phrase = Nothing

-- behind `async`, where it is so, with no line end between
unfoldable pub after_async : Bool → Phrase → Phrase
after_async true phrase = word (codes "async") > same_line > phrase
after_async false phrase = phrase

-- there is something in a list
unfoldable pub is_some_listed : {A : Type 0} → List A → Bool
is_some_listed [] = false
is_some_listed (x ∷ xs) = true

-- a proposal: `@a`
unfoldable pub decorator : {X : Type 0} → (X → Role → Phrase) → Decorator X → Phrase
decorator f n = mark (codes "@") > value_at f n.expr

-- ECMA-262, section 15.1: `@a b`
unfoldable pub param : {X : Type 0} → (X → Role → Phrase) → Param X → Phrase
param f n = in_order (map (decorator f) n.decorators.items) > pat f n.pat

-- `{ a; }`, or the semicolon in its place
unfoldable pub function_body : {X : Type 0} → (X → Role → Phrase) → Option (BlockStmtBox X) → Phrase
function_body f None = ending
function_body f (Some n) = block_at f n

-- section 15.2: `<A>(a): B { c; }`. Only methods of classes have decorators.
unfoldable pub function : {X : Type 0} → (X → Role → Phrase) → functions.Function X → Phrase
function f n =
    if is_some_listed n.decorators.items then Never
    else (type_params f n.type_params > mark (codes "(") > listed (codes ",") (map (param f) n.params.items) > mark (codes ")") > annotation f n.return_type > function_body f n.body)

-- sections 15.2, 15.5, 15.6 and 15.8: `function`, `function*`, `async function`, `async function*`
unfoldable pub function_head : {X : Type 0} → functions.Function X → Phrase
function_head n = after_async n.is_async (word (codes "function") > word_if n.is_generator (mark (codes "*")))

-- sections 15.4 to 15.6 and 15.8: `async *` of a method, or a part of it
unfoldable pub method_head : {X : Type 0} → functions.Function X → Phrase
method_head n = after_async n.is_async (word_if n.is_generator (mark (codes "*")))

-- a name, where there is one
unfoldable pub optional_name : Option Ident → Phrase
optional_name None = Nothing
optional_name (Some n) = ident n

unfoldable pub fn_expr : {X : Type 0} → (X → Role → Phrase) → FnExpr X → Phrase
fn_expr f n = f n.function.node.value FunctionHead > optional_name n.ident > function_at f n.function

-- no tree stands here
unfoldable pub is_never : Phrase → Bool
is_never Never = true
is_never phrase = false

-- `a` or `(a)`, where a name stands alone; else `([a])`
unfoldable pub only_parameter : {X : Type 0} → (X → Role → Phrase) → PatBox X → Phrase
only_parameter f n =
    if is_never (f n.node.value PlainParameter) then mark (codes "(") > pat_at f n > mark (codes ")")
    else OptionalParentheses Parameter (pat_at f n)

-- types around the parameters: before them their own parameters, and behind them that of the result
abbrev pub is_typed_arrow : {X : Type 0} → ArrowExpr X → Bool
is_typed_arrow n = is_some n.type_params || is_some n.return_type

-- a name alone needs no parentheses but between types
unfoldable pub arrow_parameters : {X : Type 0} → (X → Role → Phrase) → Bool → List (PatBox X) → Phrase
arrow_parameters f false (n ∷ []) = only_parameter f n
arrow_parameters f typed ns = mark (codes "(") > listed (codes ",") (map (pat_at f) ns) > mark (codes ")")

unfoldable pub arrow_body : {X : Type 0} → (X → Role → Phrase) → BlockStmtOrExpr X → Phrase
arrow_body f (bodies.BlockStmt n) = block_at f n
arrow_body f (bodies.Expr n) = value_at f n

-- sections 15.3 and 15.9: `a => b`, `<A>(a): B => c`; no source text spells a generator
unfoldable pub arrow_expr : {X : Type 0} → (X → Role → Phrase) → ArrowExpr X → Phrase
arrow_expr f n =
    after_async n.is_async
    (word_if n.is_generator (mark (codes "*")) > type_params f n.type_params > arrow_parameters f (is_typed_arrow n) n.params.items
    > annotation f n.return_type > same_line > mark (codes "=>") > arrow_body f n.body)
