-- What is written of functions as expressions.
use Rattle.std.specs.Prelude.{ℕ, ◌&&◌, not, Bool, true, false, if◌then◌else◌, List, [], ◌∷◌, map, codes, string_bytes, Option, Some, None}
use Rattle.swc_ecma_codegen_tree.specs.Links.{PatBox, TsTypeAnnBox}
use Rattle.swc_ecma_codegen_tree.specs.declared.exprs.FnExpr.{FnExpr}
use Rattle.swc_ecma_codegen_tree.specs.declared.exprs.ArrowExpr.{ArrowExpr}
use Rattle.swc_ecma_codegen_tree.specs.declared.exprs.BlockStmtOrExpr.{BlockStmtOrExpr}
use Rattle.swc_ecma_codegen_tree.specs.declared.exprs.BlockStmtOrExpr.TheVariants as bodies
use Rattle.swc_ecma_codegen_tree.specs.declared.idents.Ident.{Ident}
use Rattle.swc_ecma_codegen_tokens.specs.Run.{Part, when_minified, no_part}
use Rattle.swc_ecma_codegen_tokens.specs.Lists.{ListChild, list, deeper, shallower}
use Rattle.swc_ecma_codegen_tokens.specs.Words.{by_maps, keyword, punct, space, formatting_space, commit_pending_semi, start_of, leading_comments, name}
use Rattle.swc_ecma_codegen_emit.specs.declared.nodes.Context.{Context}
use Rattle.swc_ecma_codegen_emit.specs.declared.nodes.Context.TheVariants.{Plain, Body}
use Rattle.swc_ecma_codegen_emit.specs.declared.nodes.Piece.TheVariants.{FunctionHead}
use Rattle.swc_ecma_codegen_emit.specs.Places.{Place, Whole, Only, function_tail}
use Rattle.swc_ecma_codegen_emit.specs.declared.patterns.PatternKind.{PatternKind}
use Rattle.swc_ecma_codegen_emit.specs.declared.patterns.PatternKind.TheVariants.{PlainName, Name}
use Rattle.swc_ecma_codegen_emit.specs.Answers.{Answers}
use Rattle.swc_ecma_codegen_emit.specs.Commented.{has_comment_after}
use Rattle.swc_ecma_codegen_grammar.specs.CommentMaps.{Maps}
use Rattle.swc_ecma_codegen_grammar.specs.FunctionPhrases.{is_typed_arrow}
use Rattle.swc_ecma_codegen_common.specs.declared.positions.Span.{Span}
use Rattle.swc_ecma_codegen_emit.specs.Annotations.{type_params}
use Rattle.swc_ecma_codegen_emit.specs.Lists.{child_of}

-- `CommaListElements`
abbrev pub comma_list_format : ℕ
comma_list_format = 272

-- `*`, where it is so
unfoldable pub star : Bool → Part
star wanted rest = if wanted then punct (codes "*") rest else rest

-- a blank and a name, where there is one
unfoldable pub optional_name : Option Ident → Part
optional_name None rest = rest
optional_name (Some n) rest = space (name n.span (string_bytes n.sym) n.optional rest)

unfoldable pub fn_expr : {X : Type 0} → (X → Answers) → (X → Place → Part) → FnExpr X → Context → Part
fn_expr asks items n context rest =
    let function = n.function.node.value in
    leading_comments (asks function).place.lo
    (commit_pending_semi
    (start_of (asks function).place (items function (Only FunctionHead) (optional_name n.ident (items function (function_tail context) rest)))))

-- ---- arrow functions

-- a name alone, and a name with or without a type
unfoldable pub is_plain : PatternKind → Bool
is_plain PlainName = true
is_plain kind = false

unfoldable pub is_name : PatternKind → Bool
is_name PlainName = true
is_name Name = true
is_name kind = false

-- there is one parameter, and it is such
unfoldable pub is_only : {X : Type 0} → (PatternKind → Bool) → (X → Answers) → List (PatBox X) → Bool
is_only test asks (n ∷ []) = test (asks n.node.value).pattern
is_only test asks ns = false

-- `async`, and a blank before a name: `async a => b`, `async(a, b) => c`
unfoldable pub async_arrow : Bool → Bool → Part
async_arrow wanted named rest = if wanted then keyword None (codes "async") (if named then space rest else formatting_space rest) else rest

-- a parenthesis, which isn't there round a name alone where the settings are to minify
unfoldable pub parenthesis : Bool → List ℕ → Part
parenthesis plain t rest = if plain then when_minified no_part (punct t) rest else punct t rest

-- the only parameter has a comment after it
unfoldable pub has_comment_behind : {X : Type 0} → (X → Answers) → List (PatBox X) → Maps → Bool
has_comment_behind asks (n ∷ []) = has_comment_after (asks n.node.value).place
has_comment_behind asks ns = λ maps. false

-- the parameters of an arrow function, with commas between
abbrev pub arrow_children : {X : Type 0} → (X → Answers) → (X → Place → Part) → ArrowExpr X → List ListChild
arrow_children asks items n = map (child_of (λ p. (asks p.node.value).place) (λ p place. items p.node.value place)) n.params.items

abbrev pub arrow_list : {X : Type 0} → (X → Answers) → (X → Place → Part) → ArrowExpr X → Part
arrow_list asks items n = list comma_list_format n.span (arrow_children asks items n)

unfoldable pub arrow_within : Bool → Span → List ListChild → Part
arrow_within plain span cs rest = parenthesis plain (codes "(") (list comma_list_format span cs (parenthesis plain (codes ")") rest))

-- `(a, b)`, `a`; between types a name alone has parentheses too
unfoldable pub arrow_parameters : {X : Type 0} → (X → Answers) → (X → Place → Part) → ArrowExpr X → Part
arrow_parameters asks items n = by_maps (λ maps. arrow_within (not (is_typed_arrow n) && (is_only is_plain asks n.params.items && not (has_comment_behind asks n.params.items maps))) n.span (arrow_children asks items n))

-- an expression is indented, whatever the settings
unfoldable pub arrow_body : {X : Type 0} → (X → Place → Part) → BlockStmtOrExpr X → Part
arrow_body items (bodies.BlockStmt n) rest = items n.node.value (Whole Body) rest
arrow_body items (bodies.Expr n) rest = deeper (items n.node.value (Whole Plain) (shallower rest))

-- `: A ` of `(a): A => b`
unfoldable pub arrow_result : {X : Type 0} → (X → Place → Part) → Option (TsTypeAnnBox X) → Part
arrow_result items None rest = rest
arrow_result items (Some n) rest = punct (codes ":") (formatting_space (items n.node.value (Whole Plain) (formatting_space rest)))

-- `async <A>(a, b): B => c`
unfoldable pub arrow_expr : {X : Type 0} → (X → Answers) → (X → Place → Part) → ArrowExpr X → Part
arrow_expr asks items n rest =
    leading_comments n.span.lo
    (start_of n.span
    (async_arrow n.is_async (is_only is_name asks n.params.items)
    (star n.is_generator
    (type_params items n.type_params
    (arrow_parameters asks items n (arrow_result items n.return_type (punct (codes "=>") (arrow_body items n.body rest))))))))
