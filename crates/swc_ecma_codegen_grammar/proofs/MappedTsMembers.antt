-- The productions of members of object types see what links hold through f alone.
use Rattle.std.proofs.Common.{◌≡◌, refl, ap, arith, List, [], ◌∷◌, codes, Option, Some, None}
use Rattle.swc_ecma_codegen_tree.specs.declared.links.AnyNode.{AnyNode-F, map-AnyNode}
use Rattle.swc_ecma_codegen_tree.specs.declared.links.AnyNode.TheOpen as nodes
use Rattle.swc_ecma_codegen_tree.specs.Links.{TsFnParamBox, TsTypeAnnBox, TsTypeParamDeclBox}
use Rattle.swc_ecma_codegen_tree.specs.declared.parts.TsPart.TheVariants as ts_parts
use Rattle.swc_ecma_codegen_tree.specs.declared.ts_members.TsCallSignatureDecl.{TsCallSignatureDecl}
use Rattle.swc_ecma_codegen_tree.specs.declared.ts_members.TsConstructSignatureDecl.{TsConstructSignatureDecl}
use Rattle.swc_ecma_codegen_tree.specs.declared.ts_members.TsGetterSignature.{TsGetterSignature}
use Rattle.swc_ecma_codegen_tree.specs.declared.ts_members.TsIndexSignature.{TsIndexSignature}
use Rattle.swc_ecma_codegen_tree.specs.declared.ts_members.TsInterfaceBody.{TsInterfaceBody}
use Rattle.swc_ecma_codegen_tree.specs.declared.ts_members.TsMethodSignature.{TsMethodSignature}
use Rattle.swc_ecma_codegen_tree.specs.declared.ts_members.TsPropertySignature.{TsPropertySignature}
use Rattle.swc_ecma_codegen_tree.specs.declared.ts_members.TsTypeElement.{TsTypeElement}
use Rattle.swc_ecma_codegen_tree.specs.declared.ts_members.TsTypeElement.TheVariants as elements
use Rattle.swc_ecma_codegen_tree.specs.declared.ts_types.TsType.TheVariants as types
use Rattle.swc_ecma_codegen_tree.specs.declared.ts_types.TsTypeLit.{TsTypeLit}
use Rattle.swc_ecma_codegen_grammar.specs.Phrases.{Phrase, Nothing, ◌>◌, mark, word, ending, in_order, listed}
use Rattle.swc_ecma_codegen_grammar.specs.AnnotationPhrases.{annotation, question, type_params}
use Rattle.swc_ecma_codegen_grammar.specs.FunctionPhrases.{word_if}
use Rattle.swc_ecma_codegen_grammar.specs.MemberPhrases.{signature_key, ts_call_signature_decl, ts_construct_signature_decl, ts_property_signature, ts_getter_signature, ts_setter_signature, ts_method_signature, ts_index_signature, ts_signature, ts_type_element, ts_interface_body, signature_param_at}
use Rattle.swc_ecma_codegen_grammar.specs.TypePhrases.{ann_at, params_at}
use Rattle.swc_ecma_codegen_grammar.specs.PartPhrases.{ts_part}
use Rattle.swc_ecma_codegen_grammar.specs.declared.roles.Role.{Role}
use Rattle.swc_ecma_codegen_grammar.specs.declared.roles.Role.TheVariants.{InterfaceBody}
use Rattle.swc_ecma_codegen_grammar.specs.TreePhrases.{node_phrase}
use Rattle.swc_ecma_codegen_grammar.proofs.Mapped.{list_mapped, beside_two}

-- a member, as the only one of an object type that a link holds
abbrev pub as_member : {X : Type 0} → TsTypeLit X → TsTypeElement X → AnyNode-F X
as_member b n = nodes.TsPart (ts_parts.TsType (types.TsTypeLit (record b { members = record b.members { len = 1; cap = 1; items = n ∷ []; ok = (refl, omega arith); small = omega arith } })))

-- what the first member of an object type is read as
abbrev pub first_phrase : {X : Type 0} → (X → Role → Phrase) → List (TsTypeElement X) → Phrase
first_phrase f [] = Nothing
first_phrase f (n ∷ ns) = ts_type_element f n

abbrev pub member_phrase : {X : Type 0} → (X → Role → Phrase) → AnyNode-F X → Phrase
member_phrase f (nodes.TsPart (ts_parts.TsType (types.TsTypeLit n))) = first_phrase f n.members.items
member_phrase f n = Nothing

call_mapped : {X Y : Type 0} (g : X → Y) (f : Y → Role → Phrase) (b : TsTypeLit X) (n : TsCallSignatureDecl X) (type_params : Option (TsTypeParamDeclBox X)) (type_ann : Option (TsTypeAnnBox X)) → member_phrase f (map-AnyNode X Y g (as_member b (elements.TsCallSignatureDecl (record n { type_params = type_params; type_ann = type_ann })))) ≡ ts_type_element (λ x. f (g x)) (elements.TsCallSignatureDecl (record n { type_params = type_params; type_ann = type_ann }))
unfolding ts_type_element ts_signature ts_call_signature_decl type_params annotation
call_mapped {X} g f b n = beside_two (λ ps t a. (t > mark (codes "(") > ps > mark (codes ")") > a) > ending) (ap (listed (codes ",")) (list_mapped {A = TsFnParamBox X} _ (signature_param_at f) (signature_param_at (λ x. f (g x))) (λ x. refl) n.params.items)) (elim [ None ↦ refl | Some t ↦ refl ]) (elim [ None ↦ refl | Some t ↦ refl ])

construct_mapped : {X Y : Type 0} (g : X → Y) (f : Y → Role → Phrase) (b : TsTypeLit X) (n : TsConstructSignatureDecl X) (type_params : Option (TsTypeParamDeclBox X)) (type_ann : Option (TsTypeAnnBox X)) → member_phrase f (map-AnyNode X Y g (as_member b (elements.TsConstructSignatureDecl (record n { type_params = type_params; type_ann = type_ann })))) ≡ ts_type_element (λ x. f (g x)) (elements.TsConstructSignatureDecl (record n { type_params = type_params; type_ann = type_ann }))
unfolding ts_type_element ts_signature ts_construct_signature_decl type_params annotation
construct_mapped {X} g f b n = beside_two (λ ps t a. (word (codes "new") > t > mark (codes "(") > ps > mark (codes ")") > a) > ending) (ap (listed (codes ",")) (list_mapped {A = TsFnParamBox X} _ (signature_param_at f) (signature_param_at (λ x. f (g x))) (λ x. refl) n.params.items)) (elim [ None ↦ refl | Some t ↦ refl ]) (elim [ None ↦ refl | Some t ↦ refl ])

method_mapped : {X Y : Type 0} (g : X → Y) (f : Y → Role → Phrase) (b : TsTypeLit X) (n : TsMethodSignature X) (type_params : Option (TsTypeParamDeclBox X)) (type_ann : Option (TsTypeAnnBox X)) → member_phrase f (map-AnyNode X Y g (as_member b (elements.TsMethodSignature (record n { type_params = type_params; type_ann = type_ann })))) ≡ ts_type_element (λ x. f (g x)) (elements.TsMethodSignature (record n { type_params = type_params; type_ann = type_ann }))
unfolding ts_type_element ts_signature ts_method_signature signature_key type_params annotation
method_mapped {X} g f b n = beside_two (λ ps t a. (signature_key (λ x. f (g x)) n.computed n.key > question n.optional > t > mark (codes "(") > ps > mark (codes ")") > a) > ending) (ap (listed (codes ",")) (list_mapped {A = TsFnParamBox X} _ (signature_param_at f) (signature_param_at (λ x. f (g x))) (λ x. refl) n.params.items)) (elim [ None ↦ refl | Some t ↦ refl ]) (elim [ None ↦ refl | Some t ↦ refl ])

property_mapped : {X Y : Type 0} (g : X → Y) (f : Y → Role → Phrase) (b : TsTypeLit X) (n : TsPropertySignature X) (type_ann : Option (TsTypeAnnBox X)) → member_phrase f (map-AnyNode X Y g (as_member b (elements.TsPropertySignature (record n { type_ann = type_ann })))) ≡ ts_type_element (λ x. f (g x)) (elements.TsPropertySignature (record n { type_ann = type_ann }))
unfolding ts_type_element ts_signature ts_property_signature signature_key annotation
property_mapped g f b n None = refl
property_mapped g f b n (Some a) = refl

getter_mapped : {X Y : Type 0} (g : X → Y) (f : Y → Role → Phrase) (b : TsTypeLit X) (n : TsGetterSignature X) (type_ann : Option (TsTypeAnnBox X)) → member_phrase f (map-AnyNode X Y g (as_member b (elements.TsGetterSignature (record n { type_ann = type_ann })))) ≡ ts_type_element (λ x. f (g x)) (elements.TsGetterSignature (record n { type_ann = type_ann }))
unfolding ts_type_element ts_signature ts_getter_signature signature_key annotation
getter_mapped g f b n None = refl
getter_mapped g f b n (Some a) = refl

index_mapped : {X Y : Type 0} (g : X → Y) (f : Y → Role → Phrase) (b : TsTypeLit X) (n : TsIndexSignature X) (type_ann : Option (TsTypeAnnBox X)) → member_phrase f (map-AnyNode X Y g (as_member b (elements.TsIndexSignature (record n { type_ann = type_ann })))) ≡ ts_type_element (λ x. f (g x)) (elements.TsIndexSignature (record n { type_ann = type_ann }))
unfolding ts_type_element ts_signature ts_index_signature annotation
index_mapped {X} g f b n None = ap (λ ps. (word_if n.is_static (word (codes "static")) > word_if n.readonly (word (codes "readonly")) > mark (codes "[") > listed (codes ",") ps > mark (codes "]") > Nothing) > ending) (list_mapped {A = TsFnParamBox X} _ (signature_param_at f) (signature_param_at (λ x. f (g x))) (λ x. refl) n.params.items)
index_mapped {X} g f b n (Some a) = ap (λ ps. (word_if n.is_static (word (codes "static")) > word_if n.readonly (word (codes "readonly")) > mark (codes "[") > listed (codes ",") ps > mark (codes "]") > mark (codes ":") > ann_at (λ x. f (g x)) a) > ending) (list_mapped {A = TsFnParamBox X} _ (signature_param_at f) (signature_param_at (λ x. f (g x))) (λ x. refl) n.params.items)

-- wherever it stands
pub type_element_mapped : {X Y : Type 0} (g : X → Y) (f : Y → Role → Phrase) (b : TsTypeLit X) (n : TsTypeElement X) → member_phrase f (map-AnyNode X Y g (as_member b n)) ≡ ts_type_element (λ x. f (g x)) n
unfolding ts_type_element ts_signature ts_setter_signature signature_key
type_element_mapped g f b (elements.TsCallSignatureDecl n) = call_mapped g f b n n.type_params n.type_ann
type_element_mapped g f b (elements.TsConstructSignatureDecl n) = construct_mapped g f b n n.type_params n.type_ann
type_element_mapped g f b (elements.TsPropertySignature n) = property_mapped g f b n n.type_ann
type_element_mapped g f b (elements.TsGetterSignature n) = getter_mapped g f b n n.type_ann
type_element_mapped g f b (elements.TsSetterSignature n) = refl
type_element_mapped g f b (elements.TsMethodSignature n) = method_mapped g f b n n.type_params n.type_ann
type_element_mapped g f b (elements.TsIndexSignature n) = index_mapped g f b n n.type_ann

pub interface_body_mapped : {X Y : Type 0} (g : X → Y) (f : Y → Role → Phrase) (n : TsInterfaceBody X) → node_phrase f (map-AnyNode X Y g (nodes.TsPart (ts_parts.TsInterfaceBody n))) InterfaceBody ≡ ts_interface_body (λ x. f (g x)) n
unfolding node_phrase ts_part ts_interface_body
interface_body_mapped {X} g f n = ap (λ ps. mark (codes "{") > in_order ps > mark (codes "}")) (list_mapped {A = TsTypeElement X} _ (ts_type_element f) (ts_type_element (λ x. f (g x))) (type_element_mapped g f (record { span = n.span; members = n.body })) n.body.items)
