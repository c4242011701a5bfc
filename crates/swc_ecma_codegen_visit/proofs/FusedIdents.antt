-- One map of bound names behind another is one map. Made by scripts/dev/make-visit-files.
use Rattle.std.proofs.Common.{◌≡◌, refl}
use Rattle.swc_ecma_codegen_tree.specs.declared.idents.BindingIdent.{BindingIdent}
use Rattle.swc_ecma_codegen_tree.specs.declared.idents.Ident.{Ident}
use Rattle.swc_ecma_codegen_visit.specs.Mapping.{map_link}
use Rattle.swc_ecma_codegen_visit.specs.MappedIdents.{map_binding_ident}
use Rattle.swc_ecma_codegen_visit.proofs.Fused.{option_fused}

pub fused_binding_ident : {X : Type 0} (g h : Ident → Ident) (f k : X → X) (n : BindingIdent X) → map_binding_ident g f (map_binding_ident h
    k n) ≡ map_binding_ident (λ x. g (h x)) (λ x. f (k x)) n
fused_binding_ident g h f k n = λ i. record n {
  id = g (h n.id);
  type_ann = (option_fused (map_link f) (map_link k) (map_link (λ x. f (k x))) (λ x. refl)) n.type_ann i;
}
