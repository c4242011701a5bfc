-- What is assigned to. ECMA-262, section 13.15.
use Rattle.swc_ecma_codegen_tree.specs.declared.pats.AssignTarget.{AssignTarget}
use Rattle.swc_ecma_codegen_tree.specs.declared.pats.AssignTarget.TheVariants as targets
use Rattle.swc_ecma_codegen_tree.specs.declared.pats.SimpleAssignTarget.{SimpleAssignTarget}
use Rattle.swc_ecma_codegen_tree.specs.declared.pats.SimpleAssignTarget.TheVariants as simple_targets
use Rattle.swc_ecma_codegen_grammar.specs.Phrases.{Phrase, Never}
use Rattle.swc_ecma_codegen_grammar.specs.declared.roles.Role.{Role}
use Rattle.swc_ecma_codegen_grammar.specs.NamePhrases.{binding_ident}
use Rattle.swc_ecma_codegen_grammar.specs.PatPhrases.{assign_target_pat}
use Rattle.swc_ecma_codegen_grammar.specs.ExprPhrases.{member_expr, super_prop_expr, paren_expr, opt_chain_expr}
use Rattle.swc_ecma_codegen_grammar.specs.TsExprPhrases.{ts_as_expr, ts_satisfies_expr, ts_non_null_expr, ts_type_assertion, ts_instantiation}

-- `a`, `a.b`, `super.a`, `(a)`; in TypeScript `a as B`, `a!` and the others too
unfoldable pub simple_assign_target : {X : Type 0} → (X → Role → Phrase) → SimpleAssignTarget X → Phrase
simple_assign_target f (simple_targets.Ident n) = binding_ident f n
simple_assign_target f (simple_targets.Member n) = member_expr f n
simple_assign_target f (simple_targets.SuperProp n) = super_prop_expr f n
simple_assign_target f (simple_targets.Paren n) = paren_expr f n
simple_assign_target f (simple_targets.OptChain n) = opt_chain_expr f n
simple_assign_target f (simple_targets.TsAs n) = ts_as_expr f n
simple_assign_target f (simple_targets.TsSatisfies n) = ts_satisfies_expr f n
simple_assign_target f (simple_targets.TsNonNull n) = ts_non_null_expr f n
simple_assign_target f (simple_targets.TsTypeAssertion n) = ts_type_assertion f n
simple_assign_target f (simple_targets.TsInstantiation n) = ts_instantiation f n
simple_assign_target f (simple_targets.Invalid n) = Never

unfoldable pub assign_target : {X : Type 0} → (X → Role → Phrase) → AssignTarget X → Phrase
assign_target f (targets.Simple n) = simple_assign_target f n
assign_target f (targets.Pat n) = assign_target_pat f n
