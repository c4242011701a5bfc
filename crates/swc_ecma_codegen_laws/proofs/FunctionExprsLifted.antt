-- FunctionExprs: a law of the words holds of the plan.
use Rattle.swc_ecma_codegen_laws.proofs.Children.{children_hold}
use Rattle.swc_ecma_codegen_laws.proofs.Children.{ChildrenHold}
use Rattle.std.specs.Prelude.{◌&&◌, not, Bool, true, false, codes, string_bytes, Option, Some, None}
use Rattle.swc_ecma_codegen_tree.specs.Links.{TsTypeAnnBox}
use Rattle.swc_ecma_codegen_tree.specs.declared.exprs.FnExpr.{FnExpr}
use Rattle.swc_ecma_codegen_tree.specs.declared.exprs.ArrowExpr.{ArrowExpr}
use Rattle.swc_ecma_codegen_tree.specs.declared.exprs.BlockStmtOrExpr.{BlockStmtOrExpr}
use Rattle.swc_ecma_codegen_tree.specs.declared.exprs.BlockStmtOrExpr.TheVariants as bodies
use Rattle.swc_ecma_codegen_tree.specs.declared.idents.Ident.{Ident}
use Rattle.swc_ecma_codegen_tokens.specs.Run.{Part}
use Rattle.swc_ecma_codegen_emit.specs.declared.nodes.Context.{Context}
use Rattle.swc_ecma_codegen_emit.specs.declared.nodes.Context.TheVariants.{Plain, Body}
use Rattle.swc_ecma_codegen_emit.specs.declared.nodes.Piece.TheVariants.{FunctionHead}
use Rattle.swc_ecma_codegen_emit.specs.Places.{Place, Whole, Only, function_tail}
use Rattle.swc_ecma_codegen_emit.specs.Answers.{Answers}
use Rattle.swc_ecma_codegen_grammar.specs.FunctionPhrases.{is_typed_arrow}
use Rattle.std.proofs.Common.{◌≡◌, ◌||◌, is_some, refl}
use Rattle.swc_ecma_codegen_emit.specs.FunctionExprs.{is_only, is_name, is_plain, has_comment_behind}
use Rattle.swc_ecma_codegen_tokens.specs.Run.{Plan}
use Rattle.swc_ecma_codegen_laws.proofs.OfWords.{OfWords, Known, asks_in, items_in, either}
use Rattle.swc_ecma_codegen_emit.specs.FunctionExprs.{star, optional_name, fn_expr, async_arrow, arrow_children, arrow_parameters, arrow_body, arrow_result, arrow_expr}
use Rattle.swc_ecma_codegen_laws.proofs.AnnotationsLifted.{type_params_holds}
use Rattle.swc_ecma_codegen_laws.proofs.OneName.{middle, only_name}

pub star_holds : {holds : Bool → Part → Type 0} (words : OfWords holds) (bounded : Bool) (wanted : Bool) → holds bounded (star wanted)
unfolding star
star_holds words bounded wanted = either words bounded wanted (words.punct bounded (codes "*")) (words.none bounded)

pub optional_name_holds : {holds : Bool → Part → Type 0} (words : OfWords holds) (bounded : Bool) (x0 : Option Ident) → holds bounded (optional_name x0)
unfolding optional_name
optional_name_holds words bounded None = words.none bounded
optional_name_holds words bounded (Some n) = words.and_then bounded (words.space bounded) (words.name bounded n.span (string_bytes n.sym) n.optional)

pub fn_expr_holds : {X : Type 0} {holds : Bool → Part → Type 0} (known : Known holds X) (bounded : Bool) (n : FnExpr X) (context : Context) → holds bounded (fn_expr (asks_in known) (items_in known) n context)
unfolding fn_expr
fn_expr_holds known bounded n context = known.words.and_then bounded (known.words.leading_comments bounded ((asks_in known) n.function.node.value).place.lo) (known.words.and_then bounded (known.words.commit_pending_semi bounded) (known.words.and_then bounded (known.words.position bounded ((asks_in known) n.function.node.value).place.lo) (known.words.and_then bounded (known.law bounded n.function.node.value (Only FunctionHead)) (known.words.and_then bounded (optional_name_holds known.words bounded n.ident) (known.law bounded n.function.node.value (function_tail context))))))

pub async_arrow_holds : {holds : Bool → Part → Type 0} (words : OfWords holds) (bounded : Bool) (wanted : Bool) (named : Bool) → holds bounded (async_arrow wanted named)
unfolding async_arrow
async_arrow_holds words bounded wanted named = either words bounded wanted (words.and_then bounded (words.keyword bounded None (codes "async")) (either words bounded named (words.space bounded) (words.formatting_space bounded))) (words.none bounded)

pub arrow_children_holds : {X : Type 0} {holds : Bool → Part → Type 0} (known : Known holds X) (bounded : Bool) (n : ArrowExpr X) → ChildrenHold holds bounded (arrow_children (asks_in known) (items_in known) n)
arrow_children_holds known bounded n = children_hold _ _ (λ p. ((asks_in known) p.node.value).place) (λ p place. (items_in known) p.node.value place) (λ p. (known.law bounded p.node.value (Whole Plain))) n.params.items

pub arrow_body_holds : {X : Type 0} {holds : Bool → Part → Type 0} (known : Known holds X) (bounded : Bool) (x1 : BlockStmtOrExpr X) → holds bounded (arrow_body (items_in known) x1)
unfolding arrow_body
arrow_body_holds known bounded (bodies.BlockStmt n) = known.law bounded n.node.value (Whole Body)
arrow_body_holds known bounded (bodies.Expr n) = known.words.and_then bounded (known.words.deeper bounded) (known.words.and_then bounded (known.law bounded n.node.value (Whole Plain)) (known.words.shallower bounded))

pub arrow_result_holds : {X : Type 0} {holds : Bool → Part → Type 0} (known : Known holds X) (bounded : Bool) (x1 : Option (TsTypeAnnBox X)) → holds bounded (arrow_result (items_in known) x1)
unfolding arrow_result
arrow_result_holds known bounded None = known.words.none bounded
arrow_result_holds known bounded (Some n) = known.words.and_then bounded (known.words.punct bounded (codes ":")) (known.words.and_then bounded (known.words.formatting_space bounded) (known.words.and_then bounded (known.law bounded n.node.value (Whole Plain)) (known.words.formatting_space bounded)))

-- a name without parentheses has no type behind it
bare_result : {X : Type 0} (items : X → Place → Part) (params more : Bool) (o : Option (TsTypeAnnBox X)) → (not (params || is_some o) && more) ≡ true → (rest : Plan) → arrow_result items o rest ≡ rest
unfolding arrow_result
bare_result items params more None h rest = refl
bare_result items true more (Some n) h rest = absurd (cc)
bare_result items false more (Some n) h rest = absurd (cc)

pub arrow_expr_holds : {X : Type 0} {holds : Bool → Part → Type 0} (known : Known holds X) (bounded : Bool) (n : ArrowExpr X) → holds bounded (arrow_expr (asks_in known) (items_in known) n)
unfolding arrow_expr arrow_parameters
arrow_expr_holds {X} known bounded n =
    let asks : X → Answers = asks_in known in
    let items : X → Place → Part = items_in known in
    known.words.and_then bounded (known.words.leading_comments bounded n.span.lo)
    (known.words.and_then bounded (known.words.position bounded n.span.lo)
    (known.words.and_then bounded (async_arrow_holds known.words bounded n.is_async (is_only is_name asks n.params.items))
    (known.words.and_then bounded (star_holds known.words bounded n.is_generator)
    (known.words.and_then bounded (type_params_holds known bounded n.type_params)
    (known.words.and_then bounded
    (known.words.arrow bounded (λ maps. not (is_typed_arrow n) && (is_only is_plain asks n.params.items && not (has_comment_behind asks n.params.items maps))) n.span (arrow_children asks items n) (arrow_result items n.return_type) (arrow_children_holds known bounded n) (arrow_result_holds known bounded n.return_type)
    (λ maps h rest. bare_result items (is_some n.type_params) (is_only is_plain asks n.params.items && not (has_comment_behind asks n.params.items maps)) n.return_type h rest)
    (λ maps h. only_name known.node n.params.items (middle (not (is_typed_arrow n)) (is_only is_plain asks n.params.items) (not (has_comment_behind asks n.params.items maps)) h)))
    (arrow_body_holds known bounded n.body))))))
