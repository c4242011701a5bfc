-- Expressions of TypeScript that are the same but for what their links hold: that stands in the relation `m`.
use Rattle.std.specs.Prelude.{◌≡◌}
use Rattle.swc_ecma_codegen_tree.specs.declared.ts_exprs.TsAsExpr.{TsAsExpr}
use Rattle.swc_ecma_codegen_tree.specs.declared.ts_exprs.TsConstAssertion.{TsConstAssertion}
use Rattle.swc_ecma_codegen_tree.specs.declared.ts_exprs.TsInstantiation.{TsInstantiation}
use Rattle.swc_ecma_codegen_tree.specs.declared.ts_exprs.TsNonNullExpr.{TsNonNullExpr}
use Rattle.swc_ecma_codegen_tree.specs.declared.ts_exprs.TsSatisfiesExpr.{TsSatisfiesExpr}
use Rattle.swc_ecma_codegen_tree.specs.declared.ts_exprs.TsTypeAssertion.{TsTypeAssertion}
use Rattle.swc_ecma_codegen_parentheses.specs.declared.mends.Usage.{Usage}
use Rattle.swc_ecma_codegen_parentheses.specs.Lists.{linked}

unfoldable pub same_ts_as_expr : {X : Type 0} → (Usage → X → X → Type 0) → TsAsExpr X → TsAsExpr X → Type 0
same_ts_as_expr m n r = (r ≡ record n { expr = r.expr }) × linked m n.expr r.expr

unfoldable pub same_ts_satisfies_expr : {X : Type 0} → (Usage → X → X → Type 0) → TsSatisfiesExpr X → TsSatisfiesExpr X → Type 0
same_ts_satisfies_expr m n r = (r ≡ record n { expr = r.expr }) × linked m n.expr r.expr

unfoldable pub same_ts_non_null_expr : {X : Type 0} → (Usage → X → X → Type 0) → TsNonNullExpr X → TsNonNullExpr X → Type 0
same_ts_non_null_expr m n r = (r ≡ record n { expr = r.expr }) × linked m n.expr r.expr

unfoldable pub same_ts_type_assertion : {X : Type 0} → (Usage → X → X → Type 0) → TsTypeAssertion X → TsTypeAssertion X → Type 0
same_ts_type_assertion m n r = (r ≡ record n { expr = r.expr }) × linked m n.expr r.expr

unfoldable pub same_ts_const_assertion : {X : Type 0} → (Usage → X → X → Type 0) → TsConstAssertion X → TsConstAssertion X → Type 0
same_ts_const_assertion m n r = (r ≡ record n { expr = r.expr }) × linked m n.expr r.expr

unfoldable pub same_ts_instantiation : {X : Type 0} → (Usage → X → X → Type 0) → TsInstantiation X → TsInstantiation X → Type 0
same_ts_instantiation m n r = (r ≡ record n { expr = r.expr }) × linked m n.expr r.expr
