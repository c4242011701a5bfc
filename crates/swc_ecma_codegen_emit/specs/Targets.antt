-- What is written of what is assigned to.
use Rattle.swc_ecma_codegen_tree.specs.declared.pats.AssignTarget.{AssignTarget}
use Rattle.swc_ecma_codegen_tree.specs.declared.pats.AssignTarget.TheVariants as targets
use Rattle.swc_ecma_codegen_tree.specs.declared.pats.SimpleAssignTarget.{SimpleAssignTarget}
use Rattle.swc_ecma_codegen_tree.specs.declared.pats.SimpleAssignTarget.TheVariants as simple_targets
use Rattle.swc_ecma_codegen_tokens.specs.Run.{Part}
use Rattle.swc_ecma_codegen_emit.specs.Places.{Place}
use Rattle.swc_ecma_codegen_emit.specs.Answers.{Answers}
use Rattle.swc_ecma_codegen_emit.specs.Exprs.{member, super_prop_expr, paren, opt_chain}
use Rattle.swc_ecma_codegen_emit.specs.Lists.{unsupported}
use Rattle.swc_ecma_codegen_emit.specs.Names.{binding_ident}
use Rattle.swc_ecma_codegen_emit.specs.Pats.{assign_target_pat}
use Rattle.swc_ecma_codegen_emit.specs.TsExprs.{ts_as_expr, ts_satisfies_expr, ts_non_null_expr, ts_type_assertion, ts_instantiation}

-- `a`, `a.b`, `super.a`, `(a)`, `a as B`, `a!`
unfoldable pub simple_assign_target : {X : Type 0} → (X → Place → Part) → SimpleAssignTarget X → Part
simple_assign_target items (simple_targets.Ident n) rest = binding_ident items n rest
simple_assign_target items (simple_targets.Member n) rest = member items n rest
simple_assign_target items (simple_targets.SuperProp n) rest = super_prop_expr items n rest
simple_assign_target items (simple_targets.Paren n) rest = paren items n rest
simple_assign_target items (simple_targets.OptChain n) rest = opt_chain items n rest
simple_assign_target items (simple_targets.TsAs n) rest = ts_as_expr items n rest
simple_assign_target items (simple_targets.TsSatisfies n) rest = ts_satisfies_expr items n rest
simple_assign_target items (simple_targets.TsNonNull n) rest = ts_non_null_expr items n rest
simple_assign_target items (simple_targets.TsTypeAssertion n) rest = ts_type_assertion items n rest
simple_assign_target items (simple_targets.TsInstantiation n) rest = ts_instantiation items n rest
simple_assign_target items (simple_targets.Invalid n) rest = unsupported rest

unfoldable pub assign_target : {X : Type 0} → (X → Answers) → (X → Place → Part) → AssignTarget X → Part
assign_target asks items (targets.Simple n) rest = simple_assign_target items n rest
assign_target asks items (targets.Pat n) rest = assign_target_pat asks items n rest
