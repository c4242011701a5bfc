-- One map of patterns behind another is one map. Made by scripts/dev/make-visit-files.
use Rattle.std.proofs.Common.{◌≡◌, refl, ap}
use Rattle.swc_ecma_codegen_tree.specs.declared.pats.ArrayPat.{ArrayPat}
use Rattle.swc_ecma_codegen_tree.specs.declared.pats.AssignPatProp.{AssignPatProp}
use Rattle.swc_ecma_codegen_tree.specs.declared.pats.AssignTarget.{AssignTarget}
use Rattle.swc_ecma_codegen_tree.specs.declared.pats.AssignTargetPat.{AssignTargetPat}
use Rattle.swc_ecma_codegen_tree.specs.declared.idents.Ident.{Ident}
use Rattle.swc_ecma_codegen_tree.specs.declared.pats.KeyValuePatProp.{KeyValuePatProp}
use Rattle.swc_ecma_codegen_tree.specs.declared.pats.ObjectPat.{ObjectPat}
use Rattle.swc_ecma_codegen_tree.specs.declared.pats.ObjectPatProp.{ObjectPatProp}
use Rattle.swc_ecma_codegen_tree.specs.declared.pats.Pat.{Pat}
use Rattle.swc_ecma_codegen_tree.specs.declared.pats.RestPat.{RestPat}
use Rattle.swc_ecma_codegen_tree.specs.declared.pats.SimpleAssignTarget.{SimpleAssignTarget}
use Rattle.swc_ecma_codegen_tree.specs.declared.pats.AssignTarget.TheVariants as assign_targets
use Rattle.swc_ecma_codegen_tree.specs.declared.pats.AssignTargetPat.TheVariants as assign_target_pats
use Rattle.swc_ecma_codegen_tree.specs.declared.pats.ObjectPatProp.TheVariants as object_pat_props
use Rattle.swc_ecma_codegen_tree.specs.declared.pats.Pat.TheVariants as pats
use Rattle.swc_ecma_codegen_tree.specs.declared.pats.SimpleAssignTarget.TheVariants as simple_assign_targets
use Rattle.swc_ecma_codegen_visit.specs.Mapping.{map_link, map_option}
use Rattle.swc_ecma_codegen_visit.specs.MappedPats.{map_array_pat, map_assign_pat_prop, map_assign_target, map_assign_target_pat}
use Rattle.swc_ecma_codegen_visit.specs.MappedPats.{map_key_value_pat_prop, map_object_pat, map_object_pat_prop, map_pat, map_rest_pat}
use Rattle.swc_ecma_codegen_visit.specs.MappedPats.{map_simple_assign_target}
use Rattle.swc_ecma_codegen_visit.proofs.Fused.{option_fused, vec_fused}
use Rattle.swc_ecma_codegen_visit.proofs.FusedIdents.{fused_binding_ident}
use Rattle.swc_ecma_codegen_visit.proofs.FusedExprs.{fused_member_expr, fused_opt_chain_expr, fused_prop_name, fused_super_prop_expr}

pub fused_array_pat : {X : Type 0} (g h : Ident → Ident) (f k : X → X) (n : ArrayPat X) → map_array_pat g f (map_array_pat h k n) ≡
    map_array_pat (λ x. g (h x)) (λ x. f (k x)) n
fused_array_pat g h f k n = λ i. record n {
  elems = (vec_fused (map_option (map_link f)) (map_option (map_link k)) (map_option (map_link (λ x. f (k x)))) (option_fused (map_link f) (map_link k) (map_link (λ x. f (k x))) (λ x. refl))) n.elems i;
  type_ann = (option_fused (map_link f) (map_link k) (map_link (λ x. f (k x))) (λ x. refl)) n.type_ann i;
}

pub fused_rest_pat : {X : Type 0} (g h : Ident → Ident) (f k : X → X) (n : RestPat X) → map_rest_pat g f (map_rest_pat h k n) ≡ map_rest_pat
    (λ x. g (h x)) (λ x. f (k x)) n
fused_rest_pat g h f k n = λ i. record n {
  arg = map_link (λ x. f (k x)) n.arg;
  type_ann = (option_fused (map_link f) (map_link k) (map_link (λ x. f (k x))) (λ x. refl)) n.type_ann i;
}

pub fused_key_value_pat_prop : {X : Type 0} (g h : Ident → Ident) (f k : X → X) (n : KeyValuePatProp X) → map_key_value_pat_prop g f
    (map_key_value_pat_prop h k n) ≡ map_key_value_pat_prop (λ x. g (h x)) (λ x. f (k x)) n
fused_key_value_pat_prop g h f k n = λ i. record n { key = (fused_prop_name g h f k) n.key i; value = map_link (λ x. f (k x)) n.value }

pub fused_assign_pat_prop : {X : Type 0} (g h : Ident → Ident) (f k : X → X) (n : AssignPatProp X) → map_assign_pat_prop g f
    (map_assign_pat_prop h k n) ≡ map_assign_pat_prop (λ x. g (h x)) (λ x. f (k x)) n
fused_assign_pat_prop g h f k n = λ i. record n {
  key = (fused_binding_ident g h f k) n.key i;
  value = (option_fused (map_link f) (map_link k) (map_link (λ x. f (k x))) (λ x. refl)) n.value i;
}

pub fused_object_pat_prop : {X : Type 0} (g h : Ident → Ident) (f k : X → X) (n : ObjectPatProp X) → map_object_pat_prop g f
    (map_object_pat_prop h k n) ≡ map_object_pat_prop (λ x. g (h x)) (λ x. f (k x)) n
fused_object_pat_prop g h f k (object_pat_props.KeyValue n) = ap object_pat_props.KeyValue ((fused_key_value_pat_prop g h f k) n)
fused_object_pat_prop g h f k (object_pat_props.Assign n) = ap object_pat_props.Assign ((fused_assign_pat_prop g h f k) n)
fused_object_pat_prop g h f k (object_pat_props.Rest n) = ap object_pat_props.Rest ((fused_rest_pat g h f k) n)

pub fused_object_pat : {X : Type 0} (g h : Ident → Ident) (f k : X → X) (n : ObjectPat X) → map_object_pat g f (map_object_pat h k n) ≡
    map_object_pat (λ x. g (h x)) (λ x. f (k x)) n
fused_object_pat g h f k n = λ i. record n {
  props = (vec_fused (map_object_pat_prop g f) (map_object_pat_prop h k) (map_object_pat_prop (λ x. g (h x)) (λ x. f (k x))) (fused_object_pat_prop g h f k)) n.props i;
  type_ann = (option_fused (map_link f) (map_link k) (map_link (λ x. f (k x))) (λ x. refl)) n.type_ann i;
}

pub fused_pat : {X : Type 0} (g h : Ident → Ident) (f k : X → X) (n : Pat X) → map_pat g f (map_pat h k n) ≡ map_pat (λ x. g (h x)) (λ x. f
    (k x)) n
fused_pat g h f k (pats.Ident n) = ap pats.Ident ((fused_binding_ident g h f k) n)
fused_pat g h f k (pats.Array n) = ap pats.Array ((fused_array_pat g h f k) n)
fused_pat g h f k (pats.Rest n) = ap pats.Rest ((fused_rest_pat g h f k) n)
fused_pat g h f k (pats.Object n) = ap pats.Object ((fused_object_pat g h f k) n)
fused_pat g h f k (pats.Assign n) = refl
fused_pat g h f k (pats.Invalid n) = refl
fused_pat g h f k (pats.Expr n) = refl

pub fused_simple_assign_target : {X : Type 0} (g h : Ident → Ident) (f k : X → X) (n : SimpleAssignTarget X) → map_simple_assign_target g f
    (map_simple_assign_target h k n) ≡ map_simple_assign_target (λ x. g (h x)) (λ x. f (k x)) n
fused_simple_assign_target g h f k (simple_assign_targets.Ident n) = ap simple_assign_targets.Ident ((fused_binding_ident g h f k) n)
fused_simple_assign_target g h f k (simple_assign_targets.Member n) = ap simple_assign_targets.Member ((fused_member_expr g h f k) n)
fused_simple_assign_target g h f k (simple_assign_targets.SuperProp n) = ap simple_assign_targets.SuperProp ((fused_super_prop_expr g h f k)
    n)
fused_simple_assign_target g h f k (simple_assign_targets.Paren n) = refl
fused_simple_assign_target g h f k (simple_assign_targets.OptChain n) = ap simple_assign_targets.OptChain ((fused_opt_chain_expr g h f k) n)
fused_simple_assign_target g h f k (simple_assign_targets.TsAs n) = refl
fused_simple_assign_target g h f k (simple_assign_targets.TsSatisfies n) = refl
fused_simple_assign_target g h f k (simple_assign_targets.TsNonNull n) = refl
fused_simple_assign_target g h f k (simple_assign_targets.TsTypeAssertion n) = refl
fused_simple_assign_target g h f k (simple_assign_targets.TsInstantiation n) = refl
fused_simple_assign_target g h f k (simple_assign_targets.Invalid n) = refl

pub fused_assign_target_pat : {X : Type 0} (g h : Ident → Ident) (f k : X → X) (n : AssignTargetPat X) → map_assign_target_pat g f
    (map_assign_target_pat h k n) ≡ map_assign_target_pat (λ x. g (h x)) (λ x. f (k x)) n
fused_assign_target_pat g h f k (assign_target_pats.Array n) = ap assign_target_pats.Array ((fused_array_pat g h f k) n)
fused_assign_target_pat g h f k (assign_target_pats.Object n) = ap assign_target_pats.Object ((fused_object_pat g h f k) n)
fused_assign_target_pat g h f k (assign_target_pats.Invalid n) = refl

pub fused_assign_target : {X : Type 0} (g h : Ident → Ident) (f k : X → X) (n : AssignTarget X) → map_assign_target g f (map_assign_target h
    k n) ≡ map_assign_target (λ x. g (h x)) (λ x. f (k x)) n
fused_assign_target g h f k (assign_targets.Simple n) = ap assign_targets.Simple ((fused_simple_assign_target g h f k) n)
fused_assign_target g h f k (assign_targets.Pat n) = ap assign_targets.Pat ((fused_assign_target_pat g h f k) n)
