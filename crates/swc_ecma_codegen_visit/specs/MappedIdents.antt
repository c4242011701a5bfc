-- Maps of bound names: of each type, over names and what links hold as something else. Made by scripts/dev/make-visit-files.
use Rattle.swc_ecma_codegen_tree.specs.declared.idents.BindingIdent.{BindingIdent}
use Rattle.swc_ecma_codegen_tree.specs.declared.idents.Ident.{Ident}
use Rattle.swc_ecma_codegen_visit.specs.Mapping.{map_link, map_option}

abbrev pub map_binding_ident : {X : Type 0} → (Ident → Ident) → (X → X) → BindingIdent X → BindingIdent X
map_binding_ident g f n = record n { id = g n.id; type_ann = map_option (map_link f) n.type_ann }
