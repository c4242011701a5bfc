-- TsExprs: a law of the words holds of the plan.
use Rattle.std.proofs.Common.{Bool}
use Rattle.std.specs.Prelude.{codes, None}
use Rattle.swc_ecma_codegen_tree.specs.declared.ts_exprs.TsAsExpr.{TsAsExpr}
use Rattle.swc_ecma_codegen_tree.specs.declared.ts_exprs.TsConstAssertion.{TsConstAssertion}
use Rattle.swc_ecma_codegen_tree.specs.declared.ts_exprs.TsInstantiation.{TsInstantiation}
use Rattle.swc_ecma_codegen_tree.specs.declared.ts_exprs.TsNonNullExpr.{TsNonNullExpr}
use Rattle.swc_ecma_codegen_tree.specs.declared.ts_exprs.TsSatisfiesExpr.{TsSatisfiesExpr}
use Rattle.swc_ecma_codegen_tree.specs.declared.ts_exprs.TsTypeAssertion.{TsTypeAssertion}
use Rattle.swc_ecma_codegen_tokens.specs.Run.{Part}
use Rattle.swc_ecma_codegen_emit.specs.declared.nodes.Context.TheVariants.{Plain}
use Rattle.swc_ecma_codegen_emit.specs.Places.{Whole}
use Rattle.swc_ecma_codegen_laws.proofs.OfWords.{Known, items_in}
use Rattle.swc_ecma_codegen_emit.specs.TsExprs.{ts_as_expr, ts_const_assertion, ts_satisfies_expr, ts_non_null_expr, ts_type_assertion, ts_instantiation}
use Rattle.swc_ecma_codegen_laws.proofs.TypesLifted.{type_at_holds}

pub ts_as_expr_holds : {X : Type 0} {holds : Bool → Part → Type 0} (known : Known holds X) (bounded : Bool) (n : TsAsExpr X) → holds bounded (ts_as_expr (items_in known) n)
unfolding ts_as_expr
ts_as_expr_holds known bounded n = known.words.and_then bounded (known.words.leading_comments bounded n.span.lo) (known.words.and_then bounded (known.law bounded n.expr.node.value (Whole Plain)) (known.words.and_then bounded (known.words.space bounded) (known.words.and_then bounded (known.words.keyword bounded None (codes "as")) (known.words.and_then bounded (known.words.space bounded) (type_at_holds known bounded n.type_ann)))))

pub ts_const_assertion_holds : {X : Type 0} {holds : Bool → Part → Type 0} (known : Known holds X) (bounded : Bool) (n : TsConstAssertion X) → holds bounded (ts_const_assertion (items_in known) n)
unfolding ts_const_assertion
ts_const_assertion_holds known bounded n = known.words.and_then bounded (known.words.leading_comments bounded n.span.lo) (known.words.and_then bounded (known.law bounded n.expr.node.value (Whole Plain)) (known.words.and_then bounded (known.words.space bounded) (known.words.and_then bounded (known.words.keyword bounded None (codes "as")) (known.words.and_then bounded (known.words.space bounded) (known.words.keyword bounded None (codes "const"))))))

pub ts_satisfies_expr_holds : {X : Type 0} {holds : Bool → Part → Type 0} (known : Known holds X) (bounded : Bool) (n : TsSatisfiesExpr X) → holds bounded (ts_satisfies_expr (items_in known) n)
unfolding ts_satisfies_expr
ts_satisfies_expr_holds known bounded n = known.words.and_then bounded (known.words.leading_comments bounded n.span.lo) (known.words.and_then bounded (known.law bounded n.expr.node.value (Whole Plain)) (known.words.and_then bounded (known.words.space bounded) (known.words.and_then bounded (known.words.keyword bounded None (codes "satisfies")) (known.words.and_then bounded (known.words.space bounded) (type_at_holds known bounded n.type_ann)))))

pub ts_non_null_expr_holds : {X : Type 0} {holds : Bool → Part → Type 0} (known : Known holds X) (bounded : Bool) (n : TsNonNullExpr X) → holds bounded (ts_non_null_expr (items_in known) n)
unfolding ts_non_null_expr
ts_non_null_expr_holds known bounded n = known.words.and_then bounded (known.words.leading_comments bounded n.span.lo) (known.words.and_then bounded (known.law bounded n.expr.node.value (Whole Plain)) (known.words.punct bounded (codes "!")))

pub ts_type_assertion_holds : {X : Type 0} {holds : Bool → Part → Type 0} (known : Known holds X) (bounded : Bool) (n : TsTypeAssertion X) → holds bounded (ts_type_assertion (items_in known) n)
unfolding ts_type_assertion
ts_type_assertion_holds known bounded n = known.words.and_then bounded (known.words.leading_comments bounded n.span.lo) (known.words.and_then bounded (known.words.punct bounded (codes "<")) (known.words.and_then bounded (type_at_holds known bounded n.type_ann) (known.words.and_then bounded (known.words.close bounded) (known.law bounded n.expr.node.value (Whole Plain)))))

pub ts_instantiation_holds : {X : Type 0} {holds : Bool → Part → Type 0} (known : Known holds X) (bounded : Bool) (n : TsInstantiation X) → holds bounded (ts_instantiation (items_in known) n)
unfolding ts_instantiation
ts_instantiation_holds known bounded n = known.words.and_then bounded (known.words.leading_comments bounded n.span.lo) (known.words.and_then bounded (known.law bounded n.expr.node.value (Whole Plain)) (known.law bounded n.type_args.node.value (Whole Plain)))
