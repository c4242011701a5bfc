-- What is written of what is assigned to is what it reads as.
use Rattle.swc_ecma_codegen_tree.specs.declared.pats.AssignTarget.{AssignTarget}
use Rattle.swc_ecma_codegen_tree.specs.declared.pats.AssignTarget.TheVariants as targets
use Rattle.swc_ecma_codegen_tree.specs.declared.pats.SimpleAssignTarget.{SimpleAssignTarget}
use Rattle.swc_ecma_codegen_tree.specs.declared.pats.SimpleAssignTarget.TheVariants as simple_targets
use Rattle.swc_ecma_codegen_grammar.specs.AssignPhrases as lists
use Rattle.swc_ecma_codegen_tokens.proofs.Reading.Phrased.{Prints, prints_never}
use Rattle.swc_ecma_codegen_emit.specs.Targets as words
use Rattle.swc_ecma_codegen_emit.proofs.Linked.{Linked}
use Rattle.swc_ecma_codegen_emit.proofs.NameParts.{binding_ident_prints}
use Rattle.swc_ecma_codegen_emit.proofs.PatParts.{assign_target_pat_prints}
use Rattle.swc_ecma_codegen_emit.proofs.TsExprParts.{as_prints, satisfies_prints, non_null_prints, type_assertion_prints, instantiation_prints}
use Rattle.swc_ecma_codegen_emit.proofs.ExprParts.{member_prints, super_prop_expr_prints, paren_prints, opt_chain_prints}

simple_prints : {X : Type 0} (l : Linked X) (n : SimpleAssignTarget X) → Prints l.env (words.simple_assign_target l.items n) (lists.simple_assign_target l.reads n)
unfolding words.simple_assign_target lists.simple_assign_target
simple_prints l (simple_targets.Ident n) = binding_ident_prints l n
simple_prints l (simple_targets.Member n) = member_prints l n
simple_prints l (simple_targets.SuperProp n) = super_prop_expr_prints l n
simple_prints l (simple_targets.Paren n) = paren_prints l n
simple_prints l (simple_targets.OptChain n) = opt_chain_prints l n
simple_prints l (simple_targets.TsAs n) = as_prints l n
simple_prints l (simple_targets.TsSatisfies n) = satisfies_prints l n
simple_prints l (simple_targets.TsNonNull n) = non_null_prints l n
simple_prints l (simple_targets.TsTypeAssertion n) = type_assertion_prints l n
simple_prints l (simple_targets.TsInstantiation n) = instantiation_prints l n
simple_prints l (simple_targets.Invalid n) = prints_never

pub assign_target_prints : {X : Type 0} (l : Linked X) (n : AssignTarget X) → Prints l.env (words.assign_target l.asks l.items n) (lists.assign_target l.reads n)
unfolding words.assign_target lists.assign_target
assign_target_prints l (targets.Simple n) = simple_prints l n
assign_target_prints l (targets.Pat n) = assign_target_pat_prints l n
