-- Maps of patterns: of each type, over names and what links hold as something else. Made by scripts/dev/make-visit-files.
use Rattle.std.specs.formers.vec.Vec.{mapped as vec_mapped}
use Rattle.swc_ecma_codegen_tree.specs.declared.pats.ArrayPat.{ArrayPat}
use Rattle.swc_ecma_codegen_tree.specs.declared.pats.AssignPat.{AssignPat}
use Rattle.swc_ecma_codegen_tree.specs.declared.pats.AssignPatProp.{AssignPatProp}
use Rattle.swc_ecma_codegen_tree.specs.declared.pats.AssignTarget.{AssignTarget}
use Rattle.swc_ecma_codegen_tree.specs.declared.pats.AssignTargetPat.{AssignTargetPat}
use Rattle.swc_ecma_codegen_tree.specs.declared.idents.Ident.{Ident}
use Rattle.swc_ecma_codegen_tree.specs.declared.pats.KeyValuePatProp.{KeyValuePatProp}
use Rattle.swc_ecma_codegen_tree.specs.declared.pats.ObjectPat.{ObjectPat}
use Rattle.swc_ecma_codegen_tree.specs.declared.pats.ObjectPatProp.{ObjectPatProp}
use Rattle.swc_ecma_codegen_tree.specs.declared.pats.Pat.{Pat}
use Rattle.swc_ecma_codegen_tree.specs.declared.pats.RestPat.{RestPat}
use Rattle.swc_ecma_codegen_tree.specs.declared.pats.SimpleAssignTarget.{SimpleAssignTarget}
use Rattle.swc_ecma_codegen_tree.specs.declared.pats.AssignTarget.TheVariants as assign_targets
use Rattle.swc_ecma_codegen_tree.specs.declared.pats.AssignTargetPat.TheVariants as assign_target_pats
use Rattle.swc_ecma_codegen_tree.specs.declared.pats.ObjectPatProp.TheVariants as object_pat_props
use Rattle.swc_ecma_codegen_tree.specs.declared.pats.Pat.TheVariants as pats
use Rattle.swc_ecma_codegen_tree.specs.declared.pats.SimpleAssignTarget.TheVariants as simple_assign_targets
use Rattle.swc_ecma_codegen_visit.specs.Mapping.{map_link, map_option}
use Rattle.swc_ecma_codegen_visit.specs.MappedIdents.{map_binding_ident}
use Rattle.swc_ecma_codegen_visit.specs.MappedExprs.{map_member_expr, map_opt_chain_expr, map_paren_expr, map_prop_name}
use Rattle.swc_ecma_codegen_visit.specs.MappedExprs.{map_super_prop_expr, map_ts_as_expr, map_ts_instantiation, map_ts_non_null_expr}
use Rattle.swc_ecma_codegen_visit.specs.MappedExprs.{map_ts_satisfies_expr, map_ts_type_assertion}

abbrev pub map_assign_pat : {X : Type 0} → (Ident → Ident) → (X → X) → AssignPat X → AssignPat X
map_assign_pat g f n = record n { left = map_link f n.left; right = map_link f n.right }

abbrev pub map_array_pat : {X : Type 0} → (Ident → Ident) → (X → X) → ArrayPat X → ArrayPat X
map_array_pat g f n = record n { elems = vec_mapped (map_option (map_link f)) n.elems; type_ann = map_option (map_link f) n.type_ann }

abbrev pub map_rest_pat : {X : Type 0} → (Ident → Ident) → (X → X) → RestPat X → RestPat X
map_rest_pat g f n = record n { arg = map_link f n.arg; type_ann = map_option (map_link f) n.type_ann }

abbrev pub map_key_value_pat_prop : {X : Type 0} → (Ident → Ident) → (X → X) → KeyValuePatProp X → KeyValuePatProp X
map_key_value_pat_prop g f n = record n { key = map_prop_name g f n.key; value = map_link f n.value }

abbrev pub map_assign_pat_prop : {X : Type 0} → (Ident → Ident) → (X → X) → AssignPatProp X → AssignPatProp X
map_assign_pat_prop g f n = record n { key = map_binding_ident g f n.key; value = map_option (map_link f) n.value }

abbrev pub map_object_pat_prop : {X : Type 0} → (Ident → Ident) → (X → X) → ObjectPatProp X → ObjectPatProp X
map_object_pat_prop g f (object_pat_props.KeyValue n) = object_pat_props.KeyValue (map_key_value_pat_prop g f n)
map_object_pat_prop g f (object_pat_props.Assign n) = object_pat_props.Assign (map_assign_pat_prop g f n)
map_object_pat_prop g f (object_pat_props.Rest n) = object_pat_props.Rest (map_rest_pat g f n)

abbrev pub map_object_pat : {X : Type 0} → (Ident → Ident) → (X → X) → ObjectPat X → ObjectPat X
map_object_pat g f n = record n { props = vec_mapped (map_object_pat_prop g f) n.props; type_ann = map_option (map_link f) n.type_ann }

abbrev pub map_pat : {X : Type 0} → (Ident → Ident) → (X → X) → Pat X → Pat X
map_pat g f (pats.Ident n) = pats.Ident (map_binding_ident g f n)
map_pat g f (pats.Array n) = pats.Array (map_array_pat g f n)
map_pat g f (pats.Rest n) = pats.Rest (map_rest_pat g f n)
map_pat g f (pats.Object n) = pats.Object (map_object_pat g f n)
map_pat g f (pats.Assign n) = pats.Assign (map_assign_pat g f n)
map_pat g f (pats.Invalid n) = pats.Invalid n
map_pat g f (pats.Expr n) = pats.Expr (map_link f n)

abbrev pub map_simple_assign_target : {X : Type 0} → (Ident → Ident) → (X → X) → SimpleAssignTarget X → SimpleAssignTarget X
map_simple_assign_target g f (simple_assign_targets.Ident n) = simple_assign_targets.Ident (map_binding_ident g f n)
map_simple_assign_target g f (simple_assign_targets.Member n) = simple_assign_targets.Member (map_member_expr g f n)
map_simple_assign_target g f (simple_assign_targets.SuperProp n) = simple_assign_targets.SuperProp (map_super_prop_expr g f n)
map_simple_assign_target g f (simple_assign_targets.Paren n) = simple_assign_targets.Paren (map_paren_expr g f n)
map_simple_assign_target g f (simple_assign_targets.OptChain n) = simple_assign_targets.OptChain (map_opt_chain_expr g f n)
map_simple_assign_target g f (simple_assign_targets.TsAs n) = simple_assign_targets.TsAs (map_ts_as_expr g f n)
map_simple_assign_target g f (simple_assign_targets.TsSatisfies n) = simple_assign_targets.TsSatisfies (map_ts_satisfies_expr g f n)
map_simple_assign_target g f (simple_assign_targets.TsNonNull n) = simple_assign_targets.TsNonNull (map_ts_non_null_expr g f n)
map_simple_assign_target g f (simple_assign_targets.TsTypeAssertion n) = simple_assign_targets.TsTypeAssertion (map_ts_type_assertion g f n)
map_simple_assign_target g f (simple_assign_targets.TsInstantiation n) = simple_assign_targets.TsInstantiation (map_ts_instantiation g f n)
map_simple_assign_target g f (simple_assign_targets.Invalid n) = simple_assign_targets.Invalid n

abbrev pub map_assign_target_pat : {X : Type 0} → (Ident → Ident) → (X → X) → AssignTargetPat X → AssignTargetPat X
map_assign_target_pat g f (assign_target_pats.Array n) = assign_target_pats.Array (map_array_pat g f n)
map_assign_target_pat g f (assign_target_pats.Object n) = assign_target_pats.Object (map_object_pat g f n)
map_assign_target_pat g f (assign_target_pats.Invalid n) = assign_target_pats.Invalid n

abbrev pub map_assign_target : {X : Type 0} → (Ident → Ident) → (X → X) → AssignTarget X → AssignTarget X
map_assign_target g f (assign_targets.Simple n) = assign_targets.Simple (map_simple_assign_target g f n)
map_assign_target g f (assign_targets.Pat n) = assign_targets.Pat (map_assign_target_pat g f n)
