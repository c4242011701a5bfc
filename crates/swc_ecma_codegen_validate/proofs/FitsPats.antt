-- The same of patterns, and of what is assigned to.
use Rattle.std.proofs.Common.{◌≡◌, true, sym}
use Rattle.std.proofs.lemmas.Bool.{true≢false}
use Rattle.swc_ecma_codegen_tree.specs.declared.pats.ArrayPat.{ArrayPat}
use Rattle.swc_ecma_codegen_tree.specs.declared.pats.AssignPat.{AssignPat}
use Rattle.swc_ecma_codegen_tree.specs.declared.pats.AssignPatProp.{AssignPatProp}
use Rattle.swc_ecma_codegen_tree.specs.declared.pats.AssignTarget.{AssignTarget}
use Rattle.swc_ecma_codegen_tree.specs.declared.pats.AssignTargetPat.{AssignTargetPat}
use Rattle.swc_ecma_codegen_tree.specs.declared.pats.KeyValuePatProp.{KeyValuePatProp}
use Rattle.swc_ecma_codegen_tree.specs.declared.pats.ObjectPat.{ObjectPat}
use Rattle.swc_ecma_codegen_tree.specs.declared.pats.ObjectPatProp.{ObjectPatProp}
use Rattle.swc_ecma_codegen_tree.specs.declared.pats.Pat.{Pat}
use Rattle.swc_ecma_codegen_tree.specs.declared.pats.RestPat.{RestPat}
use Rattle.swc_ecma_codegen_tree.specs.declared.pats.SimpleAssignTarget.{SimpleAssignTarget}
use Rattle.swc_ecma_codegen_tree.specs.declared.pats.Pat.TheVariants as pats
use Rattle.swc_ecma_codegen_tree.specs.declared.pats.ObjectPatProp.TheVariants as object_pat_props
use Rattle.swc_ecma_codegen_tree.specs.declared.pats.AssignTarget.TheVariants as assign_targets
use Rattle.swc_ecma_codegen_tree.specs.declared.pats.AssignTargetPat.TheVariants as assign_target_pats
use Rattle.swc_ecma_codegen_tree.specs.declared.pats.SimpleAssignTarget.TheVariants as simple_assign_targets
use Rattle.swc_ecma_codegen_grammar.specs.declared.roles.Role.{Role}
use Rattle.swc_ecma_codegen_grammar.specs.declared.roles.Role.TheVariants.{Annotation, Expression, Pattern}
use Rattle.swc_ecma_codegen_grammar.specs.AssignPhrases.{assign_target, simple_assign_target}
use Rattle.swc_ecma_codegen_grammar.specs.ElementPhrases.{element}
use Rattle.swc_ecma_codegen_grammar.specs.PatPhrases.{array_pat, assign_pat, assign_pat_prop, assign_target_pat, key_value_pat_prop, object_pat, object_pat_prop, pat, pat_at, rest_pat}
use Rattle.swc_ecma_codegen_grammar.specs.Phrases.{Phrase, is_possible}
use Rattle.swc_ecma_codegen_validate.specs.PatRules as rules
use Rattle.swc_ecma_codegen_validate.specs.Rules.{Findings, findings}
use Rattle.swc_ecma_codegen_validate.proofs.Fitting.{Held, each_fits, some_fits, initializer_fits}
use Rattle.swc_ecma_codegen_validate.proofs.FitsNames.{binding_ident_fits}
use Rattle.swc_ecma_codegen_validate.proofs.FitsExprs.{member_expr_fits, opt_chain_expr_fits, paren_expr_fits, prop_name_fits, super_prop_expr_fits}
use Rattle.swc_ecma_codegen_validate.proofs.FitsTs.{ts_as_expr_fits, ts_instantiation_fits, ts_non_null_expr_fits, ts_satisfies_expr_fits, ts_type_assertion_fits}
use Rattle.swc_ecma_codegen_validate.proofs.PatsPossible.{array_pat_possible, object_pat_possible, rest_pat_possible}

module _ {X : Type 0} (f : X → Role → Findings) (g : X → Role → Phrase) (held : Held f g) where
  pub array_pat_fits : (n : ArrayPat X) → (findings f (rules.array_pat n)).none → is_possible (array_pat g n) ≡ true
  unfolding findings rules.array_pat
  array_pat_fits n h = simp (array_pat_possible, each_fits _ (element (pat_at g)) _ n.elems.items h.0 (λ x r. some_fits _ (pat_at g) x r (λ y. held.node y.node.value Pattern)), some_fits _ _ n.type_ann h.1 (λ x. held.node x.node.value Annotation))

  pub rest_pat_fits : (n : RestPat X) → (findings f (rules.rest_pat n)).none → is_possible (rest_pat g n) ≡ true
  unfolding findings rules.rest_pat
  rest_pat_fits n h = simp (rest_pat_possible, held.node n.arg.node.value Pattern h.0, some_fits _ _ n.type_ann h.1 (λ x. held.node x.node.value Annotation))

  pub assign_pat_fits : (n : AssignPat X) → (findings f (rules.assign_pat n)).none → is_possible (assign_pat g n) ≡ true
  unfolding findings rules.assign_pat assign_pat is_possible
  assign_pat_fits n h = simp (held.node n.left.node.value Pattern h.0, held.node n.right.node.value Expression h.1)

  pub key_value_pat_prop_fits : (n : KeyValuePatProp X) → (findings f (rules.key_value_pat_prop n)).none → is_possible (key_value_pat_prop g n) ≡ true
  unfolding findings rules.key_value_pat_prop key_value_pat_prop is_possible
  key_value_pat_prop_fits n h = simp (prop_name_fits f g held n.key h.0, held.node n.value.node.value Pattern h.1)

  pub assign_pat_prop_fits : (n : AssignPatProp X) → (findings f (rules.assign_pat_prop n)).none → is_possible (assign_pat_prop g n) ≡ true
  unfolding findings rules.assign_pat_prop assign_pat_prop is_possible
  assign_pat_prop_fits n h = simp (binding_ident_fits f g held n.key h.0, initializer_fits f g held n.value h.1)

  pub object_pat_prop_fits : (n : ObjectPatProp X) → (findings f (rules.object_pat_prop n)).none → is_possible (object_pat_prop g n) ≡ true
  unfolding findings rules.object_pat_prop object_pat_prop
  object_pat_prop_fits (object_pat_props.KeyValue n) h = simp (key_value_pat_prop_fits n h)
  object_pat_prop_fits (object_pat_props.Assign n) h = simp (assign_pat_prop_fits n h)
  object_pat_prop_fits (object_pat_props.Rest n) h = simp (rest_pat_fits n h)

  pub object_pat_fits : (n : ObjectPat X) → (findings f (rules.object_pat n)).none → is_possible (object_pat g n) ≡ true
  unfolding findings rules.object_pat
  object_pat_fits n h = simp (object_pat_possible, each_fits _ (object_pat_prop g) _ n.props.items h.0 object_pat_prop_fits, some_fits _ _ n.type_ann h.1 (λ x. held.node x.node.value Annotation))

  pub pat_fits : (n : Pat X) → (findings f (rules.pat n)).none → is_possible (pat g n) ≡ true
  unfolding findings rules.pat pat is_possible
  pat_fits (pats.Ident n) h = simp (binding_ident_fits f g held n h)
  pat_fits (pats.Array n) h = simp (array_pat_fits n h)
  pat_fits (pats.Rest n) h = simp (rest_pat_fits n h)
  pat_fits (pats.Object n) h = simp (object_pat_fits n h)
  pat_fits (pats.Assign n) h = simp (assign_pat_fits n h)
  pat_fits (pats.Invalid n) h = absurd (true≢false (sym h))
  pat_fits (pats.Expr n) h = simp (held.node n.node.value Expression h)

  pub assign_target_pat_fits : (n : AssignTargetPat X) → (findings f (rules.assign_target_pat n)).none → is_possible (assign_target_pat g n) ≡ true
  unfolding findings rules.assign_target_pat assign_target_pat is_possible
  assign_target_pat_fits (assign_target_pats.Array n) h = simp (array_pat_fits n h)
  assign_target_pat_fits (assign_target_pats.Object n) h = simp (object_pat_fits n h)
  assign_target_pat_fits (assign_target_pats.Invalid n) h = absurd (true≢false (sym h))

  pub simple_assign_target_fits : (n : SimpleAssignTarget X) → (findings f (rules.simple_assign_target n)).none → is_possible (simple_assign_target g n) ≡ true
  unfolding findings rules.simple_assign_target simple_assign_target is_possible
  simple_assign_target_fits (simple_assign_targets.Ident n) h = simp (binding_ident_fits f g held n h)
  simple_assign_target_fits (simple_assign_targets.Member n) h = simp (member_expr_fits f g held n h)
  simple_assign_target_fits (simple_assign_targets.SuperProp n) h = simp (super_prop_expr_fits f g held n h)
  simple_assign_target_fits (simple_assign_targets.Paren n) h = simp (paren_expr_fits f g held n h)
  simple_assign_target_fits (simple_assign_targets.OptChain n) h = simp (opt_chain_expr_fits f g held n h)
  simple_assign_target_fits (simple_assign_targets.TsAs n) h = simp (ts_as_expr_fits f g held n h)
  simple_assign_target_fits (simple_assign_targets.TsSatisfies n) h = simp (ts_satisfies_expr_fits f g held n h)
  simple_assign_target_fits (simple_assign_targets.TsNonNull n) h = simp (ts_non_null_expr_fits f g held n h)
  simple_assign_target_fits (simple_assign_targets.TsTypeAssertion n) h = simp (ts_type_assertion_fits f g held n h)
  simple_assign_target_fits (simple_assign_targets.TsInstantiation n) h = simp (ts_instantiation_fits f g held n h)
  simple_assign_target_fits (simple_assign_targets.Invalid n) h = absurd (true≢false (sym h))

  pub assign_target_fits : (n : AssignTarget X) → (findings f (rules.assign_target n)).none → is_possible (assign_target g n) ≡ true
  unfolding findings rules.assign_target assign_target is_possible
  assign_target_fits (assign_targets.Simple n) h = simp (simple_assign_target_fits n h)
  assign_target_fits (assign_targets.Pat n) h = simp (assign_target_pat_fits n h)
