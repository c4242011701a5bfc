-- Targets: a law of the words holds of the plan.
use Rattle.std.proofs.Common.{Bool}
use Rattle.swc_ecma_codegen_tree.specs.declared.pats.AssignTarget.{AssignTarget}
use Rattle.swc_ecma_codegen_tree.specs.declared.pats.AssignTarget.TheVariants as targets
use Rattle.swc_ecma_codegen_tree.specs.declared.pats.SimpleAssignTarget.{SimpleAssignTarget}
use Rattle.swc_ecma_codegen_tree.specs.declared.pats.SimpleAssignTarget.TheVariants as simple_targets
use Rattle.swc_ecma_codegen_tokens.specs.Run.{Part}
use Rattle.swc_ecma_codegen_emit.specs.Lists.{unsupported}
use Rattle.swc_ecma_codegen_laws.proofs.OfWords.{Known, asks_in, items_in}
use Rattle.swc_ecma_codegen_tokens.specs.declared.refusals.Unprintable.TheVariants as unprintable
use Rattle.swc_ecma_codegen_emit.specs.Targets.{simple_assign_target, assign_target}
use Rattle.swc_ecma_codegen_laws.proofs.ExprsLifted.{member_holds, opt_chain_holds, paren_holds, super_prop_expr_holds}
use Rattle.swc_ecma_codegen_laws.proofs.NamesLifted.{binding_ident_holds}
use Rattle.swc_ecma_codegen_laws.proofs.PatsLifted.{assign_target_pat_holds}
use Rattle.swc_ecma_codegen_laws.proofs.TsExprsLifted.{ts_as_expr_holds, ts_instantiation_holds, ts_non_null_expr_holds, ts_satisfies_expr_holds, ts_type_assertion_holds}

pub simple_assign_target_holds : {X : Type 0} {holds : Bool → Part → Type 0} (known : Known holds X) (bounded : Bool) (x1 : SimpleAssignTarget X) → holds bounded (simple_assign_target (items_in known) x1)
unfolding simple_assign_target unsupported
simple_assign_target_holds known bounded (simple_targets.Ident n) = binding_ident_holds known bounded n
simple_assign_target_holds known bounded (simple_targets.Member n) = member_holds known bounded n
simple_assign_target_holds known bounded (simple_targets.SuperProp n) = super_prop_expr_holds known bounded n
simple_assign_target_holds known bounded (simple_targets.Paren n) = paren_holds known bounded n
simple_assign_target_holds known bounded (simple_targets.OptChain n) = opt_chain_holds known bounded n
simple_assign_target_holds known bounded (simple_targets.TsAs n) = ts_as_expr_holds known bounded n
simple_assign_target_holds known bounded (simple_targets.TsSatisfies n) = ts_satisfies_expr_holds known bounded n
simple_assign_target_holds known bounded (simple_targets.TsNonNull n) = ts_non_null_expr_holds known bounded n
simple_assign_target_holds known bounded (simple_targets.TsTypeAssertion n) = ts_type_assertion_holds known bounded n
simple_assign_target_holds known bounded (simple_targets.TsInstantiation n) = ts_instantiation_holds known bounded n
simple_assign_target_holds known bounded (simple_targets.Invalid n) = known.words.refuse bounded unprintable.UnsupportedNode

pub assign_target_holds : {X : Type 0} {holds : Bool → Part → Type 0} (known : Known holds X) (bounded : Bool) (x2 : AssignTarget X) → holds bounded (assign_target (asks_in known) (items_in known) x2)
unfolding assign_target
assign_target_holds known bounded (targets.Simple n) = simple_assign_target_holds known bounded n
assign_target_holds known bounded (targets.Pat n) = assign_target_pat_holds known bounded n
