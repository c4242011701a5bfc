-- What is written of expressions of TypeScript.
use Rattle.std.specs.Prelude.{codes, None}
use Rattle.swc_ecma_codegen_tree.specs.declared.ts_exprs.TsAsExpr.{TsAsExpr}
use Rattle.swc_ecma_codegen_tree.specs.declared.ts_exprs.TsConstAssertion.{TsConstAssertion}
use Rattle.swc_ecma_codegen_tree.specs.declared.ts_exprs.TsInstantiation.{TsInstantiation}
use Rattle.swc_ecma_codegen_tree.specs.declared.ts_exprs.TsNonNullExpr.{TsNonNullExpr}
use Rattle.swc_ecma_codegen_tree.specs.declared.ts_exprs.TsSatisfiesExpr.{TsSatisfiesExpr}
use Rattle.swc_ecma_codegen_tree.specs.declared.ts_exprs.TsTypeAssertion.{TsTypeAssertion}
use Rattle.swc_ecma_codegen_tokens.specs.Run.{Part}
use Rattle.swc_ecma_codegen_tokens.specs.Tags.{close}
use Rattle.swc_ecma_codegen_tokens.specs.Words.{keyword, punct, space, leading_comments}
use Rattle.swc_ecma_codegen_emit.specs.declared.nodes.Context.TheVariants.{Plain}
use Rattle.swc_ecma_codegen_emit.specs.Places.{Place, Whole}
use Rattle.swc_ecma_codegen_emit.specs.Types.{type_at}

-- `a as B`
unfoldable pub ts_as_expr : {X : Type 0} → (X → Place → Part) → TsAsExpr X → Part
ts_as_expr items n rest =
    leading_comments n.span.lo (items n.expr.node.value (Whole Plain) (space (keyword None (codes "as") (space (type_at items n.type_ann rest)))))

-- `a as const`
unfoldable pub ts_const_assertion : {X : Type 0} → (X → Place → Part) → TsConstAssertion X → Part
ts_const_assertion items n rest =
    leading_comments n.span.lo (items n.expr.node.value (Whole Plain) (space (keyword None (codes "as") (space (keyword None (codes "const") rest)))))

-- `a satisfies B`
unfoldable pub ts_satisfies_expr : {X : Type 0} → (X → Place → Part) → TsSatisfiesExpr X → Part
ts_satisfies_expr items n rest =
    leading_comments n.span.lo (items n.expr.node.value (Whole Plain) (space (keyword None (codes "satisfies") (space (type_at items n.type_ann rest)))))

-- `a!`
unfoldable pub ts_non_null_expr : {X : Type 0} → (X → Place → Part) → TsNonNullExpr X → Part
ts_non_null_expr items n rest = leading_comments n.span.lo (items n.expr.node.value (Whole Plain) (punct (codes "!") rest))

-- `<B>a`
unfoldable pub ts_type_assertion : {X : Type 0} → (X → Place → Part) → TsTypeAssertion X → Part
ts_type_assertion items n rest =
    leading_comments n.span.lo (punct (codes "<") (type_at items n.type_ann (close (items n.expr.node.value (Whole Plain) rest))))

-- `a<B>`
unfoldable pub ts_instantiation : {X : Type 0} → (X → Place → Part) → TsInstantiation X → Part
ts_instantiation items n rest = leading_comments n.span.lo (items n.expr.node.value (Whole Plain) (items n.type_args.node.value (Whole Plain) rest))
