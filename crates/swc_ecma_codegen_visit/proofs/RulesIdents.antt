-- Where the map of bound names is another map of the same type, with names as they are. Made by scripts/dev/make-visit-files.
use Rattle.std.proofs.Common.{◌≡◌, ◌∙◌, Option}
use Rattle.swc_ecma_codegen_tree.specs.declared.idents.BindingIdent.{BindingIdent}
use Rattle.swc_ecma_codegen_tree.specs.Links.{TsTypeAnnBox}
use Rattle.swc_ecma_codegen_visit.specs.Mapping.{map_link, map_option}
use Rattle.swc_ecma_codegen_visit.specs.MappedIdents.{map_binding_ident}

pub in_binding_ident : {X : Type 0} (f : X → X) (D : BindingIdent X → BindingIdent X)
    {to_a : Option (TsTypeAnnBox X) → Option (TsTypeAnnBox X)} → ((n : BindingIdent X) (a : Option (TsTypeAnnBox X)) → record n
    { type_ann = to_a a } ≡ D (record n { type_ann = a })) → ((x : Option (TsTypeAnnBox X)) → map_option (map_link f) x ≡ to_a x) → (n :
    BindingIdent X) → map_binding_ident (λ x. x) f n ≡ D n
in_binding_ident f D is at_a n = (λ i. record n { type_ann = at_a n.type_ann i }) ∙ is n n.type_ann
