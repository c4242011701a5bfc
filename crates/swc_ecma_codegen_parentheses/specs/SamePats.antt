-- Patterns and targets that are the same but for what their links hold: that stands in the relation `m`.
use Rattle.std.specs.Prelude.{◌≡◌}
use Rattle.swc_ecma_codegen_tree.specs.declared.pats.ArrayPat.{ArrayPat}
use Rattle.swc_ecma_codegen_tree.specs.declared.pats.AssignPat.{AssignPat}
use Rattle.swc_ecma_codegen_tree.specs.declared.pats.AssignPatProp.{AssignPatProp}
use Rattle.swc_ecma_codegen_tree.specs.declared.pats.AssignTarget.{AssignTarget}
use Rattle.swc_ecma_codegen_tree.specs.declared.pats.AssignTarget.TheVariants as assign_targets
use Rattle.swc_ecma_codegen_tree.specs.declared.pats.AssignTargetPat.{AssignTargetPat}
use Rattle.swc_ecma_codegen_tree.specs.declared.pats.AssignTargetPat.TheVariants as assign_target_pats
use Rattle.swc_ecma_codegen_tree.specs.declared.pats.KeyValuePatProp.{KeyValuePatProp}
use Rattle.swc_ecma_codegen_tree.specs.declared.pats.ObjectPat.{ObjectPat}
use Rattle.swc_ecma_codegen_tree.specs.declared.pats.ObjectPatProp.{ObjectPatProp}
use Rattle.swc_ecma_codegen_tree.specs.declared.pats.ObjectPatProp.TheVariants as object_pat_props
use Rattle.swc_ecma_codegen_tree.specs.declared.pats.Pat.{Pat}
use Rattle.swc_ecma_codegen_tree.specs.declared.pats.Pat.TheVariants as pats
use Rattle.swc_ecma_codegen_tree.specs.declared.pats.RestPat.{RestPat}
use Rattle.swc_ecma_codegen_tree.specs.declared.pats.SimpleAssignTarget.{SimpleAssignTarget}
use Rattle.swc_ecma_codegen_tree.specs.declared.pats.SimpleAssignTarget.TheVariants as simple_assign_targets
use Rattle.swc_ecma_codegen_parentheses.specs.declared.mends.Usage.{Usage}
use Rattle.swc_ecma_codegen_parentheses.specs.declared.mends.Usage.TheVariants as usages
use Rattle.swc_ecma_codegen_syntax.specs.declared.nonterminals.Nonterminal.TheVariants as nt
use Rattle.swc_ecma_codegen_parentheses.specs.Lists.{Pairwise, bracketed, linked, linked_as, optionally}
use Rattle.swc_ecma_codegen_parentheses.specs.SameObjects.{same_prop_name}
use Rattle.swc_ecma_codegen_parentheses.specs.SameExprs.{same_member_expr, same_opt_chain_expr, same_paren_expr, same_super_prop_expr}
use Rattle.swc_ecma_codegen_parentheses.specs.SameTsExprs.{same_ts_as_expr, same_ts_instantiation, same_ts_non_null_expr, same_ts_satisfies_expr, same_ts_type_assertion}

unfoldable pub same_array_pat : {X : Type 0} → (Usage → X → X → Type 0) → ArrayPat X → ArrayPat X → Type 0
same_array_pat m n r = (r ≡ record n { elems = r.elems }) × Pairwise (optionally (linked m)) n.elems.items r.elems.items

unfoldable pub same_rest_pat : {X : Type 0} → (Usage → X → X → Type 0) → RestPat X → RestPat X → Type 0
same_rest_pat m n r = (r ≡ record n { arg = r.arg }) × linked m n.arg r.arg

unfoldable pub same_key_value_pat_prop : {X : Type 0} → (Usage → X → X → Type 0) → KeyValuePatProp X → KeyValuePatProp X → Type 0
same_key_value_pat_prop m n r = same_prop_name m n.key r.key × linked m n.value r.value

unfoldable pub same_assign_pat_prop : {X : Type 0} → (Usage → X → X → Type 0) → AssignPatProp X → AssignPatProp X → Type 0
same_assign_pat_prop m n r = (r ≡ record n { value = r.value }) × optionally (bracketed nt.AssignmentExpression m) n.value r.value

unfoldable pub same_object_pat_prop : {X : Type 0} → (Usage → X → X → Type 0) → ObjectPatProp X → ObjectPatProp X → Type 0
same_object_pat_prop m (object_pat_props.KeyValue n) (object_pat_props.KeyValue r) = same_key_value_pat_prop m n r
same_object_pat_prop m (object_pat_props.Assign n) (object_pat_props.Assign r) = same_assign_pat_prop m n r
same_object_pat_prop m (object_pat_props.Rest n) (object_pat_props.Rest r) = same_rest_pat m n r
same_object_pat_prop m n r = ⊥

unfoldable pub same_object_pat : {X : Type 0} → (Usage → X → X → Type 0) → ObjectPat X → ObjectPat X → Type 0
same_object_pat m n r = (r ≡ record n { props = r.props }) × Pairwise (same_object_pat_prop m) n.props.items r.props.items

unfoldable pub same_assign_pat : {X : Type 0} → (Usage → X → X → Type 0) → AssignPat X → AssignPat X → Type 0
same_assign_pat m n r = (r ≡ record n { left = r.left; right = r.right }) × (linked m n.left r.left × bracketed nt.AssignmentExpression m n.right r.right)

unfoldable pub same_pat : {X : Type 0} → (Usage → X → X → Type 0) → Pat X → Pat X → Type 0
same_pat m (pats.Array n) (pats.Array r) = same_array_pat m n r
same_pat m (pats.Rest n) (pats.Rest r) = same_rest_pat m n r
same_pat m (pats.Object n) (pats.Object r) = same_object_pat m n r
same_pat m (pats.Assign n) (pats.Assign r) = same_assign_pat m n r
same_pat m (pats.Expr n) (pats.Expr r) = linked_as usages.Target m n r
same_pat m n r = n ≡ r

unfoldable pub same_simple_assign_target : {X : Type 0} → (Usage → X → X → Type 0) → SimpleAssignTarget X → SimpleAssignTarget X → Type 0
same_simple_assign_target m (simple_assign_targets.Member n) (simple_assign_targets.Member r) = same_member_expr m n r
same_simple_assign_target m (simple_assign_targets.SuperProp n) (simple_assign_targets.SuperProp r) = same_super_prop_expr m n r
same_simple_assign_target m (simple_assign_targets.Paren n) (simple_assign_targets.Paren r) = same_paren_expr m n r
same_simple_assign_target m (simple_assign_targets.OptChain n) (simple_assign_targets.OptChain r) = same_opt_chain_expr m n r
same_simple_assign_target m (simple_assign_targets.TsAs n) (simple_assign_targets.TsAs r) = same_ts_as_expr m n r
same_simple_assign_target m (simple_assign_targets.TsSatisfies n) (simple_assign_targets.TsSatisfies r) = same_ts_satisfies_expr m n r
same_simple_assign_target m (simple_assign_targets.TsNonNull n) (simple_assign_targets.TsNonNull r) = same_ts_non_null_expr m n r
same_simple_assign_target m (simple_assign_targets.TsTypeAssertion n) (simple_assign_targets.TsTypeAssertion r) = same_ts_type_assertion m n r
same_simple_assign_target m (simple_assign_targets.TsInstantiation n) (simple_assign_targets.TsInstantiation r) = same_ts_instantiation m n r
same_simple_assign_target m n r = n ≡ r

unfoldable pub same_assign_target_pat : {X : Type 0} → (Usage → X → X → Type 0) → AssignTargetPat X → AssignTargetPat X → Type 0
same_assign_target_pat m (assign_target_pats.Array n) (assign_target_pats.Array r) = same_array_pat m n r
same_assign_target_pat m (assign_target_pats.Object n) (assign_target_pats.Object r) = same_object_pat m n r
same_assign_target_pat m n r = n ≡ r

unfoldable pub same_assign_target : {X : Type 0} → (Usage → X → X → Type 0) → AssignTarget X → AssignTarget X → Type 0
same_assign_target m (assign_targets.Simple n) (assign_targets.Simple r) = same_simple_assign_target m n r
same_assign_target m (assign_targets.Pat n) (assign_targets.Pat r) = same_assign_target_pat m n r
same_assign_target m n r = ⊥
