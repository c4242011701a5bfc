-- What is written of members of object types sees what links hold through `asks` and `items` alone.
use Rattle.std.proofs.Common.{◌≡◌, refl, ap, List, [], ◌∷◌, map, codes, Option, Some, None}
use Rattle.swc_ecma_codegen_common.specs.declared.positions.Span.{Span}
use Rattle.swc_ecma_codegen_tree.specs.declared.links.AnyNode.{AnyNode-F, map-AnyNode}
use Rattle.swc_ecma_codegen_tree.specs.declared.links.AnyNode.TheOpen as nodes
use Rattle.swc_ecma_codegen_tree.specs.Links.{TsFnParamBox, TsTypeAnnBox, TsTypeParamDeclBox}
use Rattle.swc_ecma_codegen_tree.specs.declared.parts.TsPart.TheVariants as ts_parts
use Rattle.swc_ecma_codegen_tree.specs.declared.ts_members.TsCallSignatureDecl.{TsCallSignatureDecl}
use Rattle.swc_ecma_codegen_tree.specs.declared.ts_members.TsConstructSignatureDecl.{TsConstructSignatureDecl}
use Rattle.swc_ecma_codegen_tree.specs.declared.ts_members.TsGetterSignature.{TsGetterSignature}
use Rattle.swc_ecma_codegen_tree.specs.declared.ts_members.TsIndexSignature.{TsIndexSignature}
use Rattle.swc_ecma_codegen_tree.specs.declared.ts_members.TsInterfaceBody.{TsInterfaceBody}
use Rattle.swc_ecma_codegen_tree.specs.declared.ts_members.TsMethodSignature.{TsMethodSignature}
use Rattle.swc_ecma_codegen_tree.specs.declared.ts_members.TsPropertySignature.{TsPropertySignature}
use Rattle.swc_ecma_codegen_tree.specs.declared.ts_members.TsTypeElement.{TsTypeElement}
use Rattle.swc_ecma_codegen_tree.specs.declared.ts_members.TsTypeElement.TheVariants as elements
use Rattle.swc_ecma_codegen_tree.specs.declared.ts_types.TsType.TheVariants as types
use Rattle.swc_ecma_codegen_tree.specs.declared.ts_types.TsTypeLit.{TsTypeLit}
use Rattle.swc_ecma_codegen_spans.specs.Spans.{dummy_span, ts_type_element_span}
use Rattle.swc_ecma_codegen_grammar.proofs.MappedTsMembers.{as_member}
use Rattle.swc_ecma_codegen_tokens.specs.Run.{Plan, Part}
use Rattle.swc_ecma_codegen_tokens.specs.Words.{keyword, punct, question, semi, formatting_space, leading_comments}
use Rattle.swc_ecma_codegen_emit.specs.declared.nodes.Context.TheVariants.{Plain}
use Rattle.swc_ecma_codegen_emit.specs.Places.{Place, Whole}
use Rattle.swc_ecma_codegen_emit.specs.Annotations.{annotation, spaced_annotation, type_params, types_format, word_before}
use Rattle.swc_ecma_codegen_emit.specs.Answers.{Answers}
use Rattle.swc_ecma_codegen_emit.specs.Lists.{child_at, child_of}
use Rattle.swc_ecma_codegen_emit.specs.Parts.{ts_part}
use Rattle.swc_ecma_codegen_emit.specs.Tree.{node_items}
use Rattle.swc_ecma_codegen_emit.specs.TsMembers.{interface_format, ts_interface_body, signature_key, signature_params, annotation_between, ts_call_signature_decl, params_behind_new, ts_construct_signature_decl, ts_property_signature, getter_annotation, ts_getter_signature, ts_setter_signature, ts_method_signature, readonly_index, ts_index_signature, ts_signature, ts_type_element, fn_param_place, fn_param_items, member_items}
use Rattle.swc_ecma_codegen_emit.proofs.MappedPats.{child_same, children_mapped}
use Rattle.swc_ecma_codegen_tokens.specs.Lists.{list}
use Rattle.swc_ecma_codegen_emit.proofs.MappedOptions.{by_three}

-- what is written of the first member of an object type
abbrev pub first_items : {X : Type 0} → (X → Answers) → (X → Place → Part) → List (TsTypeElement X) → Part
first_items asks items [] rest = rest
first_items asks items (n ∷ ns) rest = ts_type_element asks items n rest

abbrev pub member_of : {X : Type 0} → (X → Answers) → (X → Place → Part) → AnyNode-F X → Part
member_of asks items (nodes.TsPart (ts_parts.TsType (types.TsTypeLit n))) rest = first_items asks items n.members.items rest
member_of asks items n rest = rest

-- where it stands
abbrev pub first_place : {X : Type 0} → List (TsTypeElement X) → Span
first_place [] = dummy_span
first_place (n ∷ ns) = ts_type_element_span n

abbrev pub place_of_member : {X : Type 0} → AnyNode-F X → Span
place_of_member (nodes.TsPart (ts_parts.TsType (types.TsTypeLit n))) = first_place n.members.items
place_of_member n = dummy_span

call_mapped : {X Y : Type 0} (g : X → Y) (asks : Y → Answers) (items : Y → Place → Part) (b : TsTypeLit X) (n : TsCallSignatureDecl X) (type_params : Option (TsTypeParamDeclBox X)) (type_ann : Option (TsTypeAnnBox X)) (rest : Plan) → member_of asks items (map-AnyNode X Y g (as_member b (elements.TsCallSignatureDecl (record n { type_params = type_params; type_ann = type_ann })))) rest ≡ ts_type_element (λ x. asks (g x)) (λ x. items (g x)) (elements.TsCallSignatureDecl (record n { type_params = type_params; type_ann = type_ann })) rest
unfolding ts_type_element ts_signature ts_call_signature_decl type_params signature_params annotation_between
call_mapped {X} g asks items b n = by_three (map _) (λ ps. list types_format n.span (map (child_of (fn_param_place asks) (fn_param_items items)) ps)) (λ ps. list types_format n.span (map (child_of (fn_param_place (λ x. asks (g x))) (fn_param_items (λ x. items (g x)))) ps)) _ (type_params items) (type_params (λ x. items (g x))) _ (annotation_between items) (annotation_between (λ x. items (g x)))
    (λ ps t a rest. leading_comments n.span.lo (t (punct (codes "(") (ps (punct (codes ")") (a (semi rest)))))))
    (λ ps z. children_mapped {A = TsFnParamBox X} _ (child_of (fn_param_place asks) (fn_param_items items)) (child_of (fn_param_place (λ x. asks (g x))) (fn_param_items (λ x. items (g x)))) (λ x. refl) types_format n.span ps z) (elim [ None ↦ λ z. refl | Some t ↦ λ z. refl ]) (elim [ None ↦ λ z. refl | Some t ↦ λ z. refl ]) n.params.items

construct_mapped : {X Y : Type 0} (g : X → Y) (asks : Y → Answers) (items : Y → Place → Part) (b : TsTypeLit X) (n : TsConstructSignatureDecl X) (type_params : Option (TsTypeParamDeclBox X)) (type_ann : Option (TsTypeAnnBox X)) (rest : Plan) → member_of asks items (map-AnyNode X Y g (as_member b (elements.TsConstructSignatureDecl (record n { type_params = type_params; type_ann = type_ann })))) rest ≡ ts_type_element (λ x. asks (g x)) (λ x. items (g x)) (elements.TsConstructSignatureDecl (record n { type_params = type_params; type_ann = type_ann })) rest
unfolding ts_type_element ts_signature ts_construct_signature_decl params_behind_new signature_params spaced_annotation
construct_mapped {X} g asks items b n = by_three (map _) (λ ps. list types_format n.span (map (child_of (fn_param_place asks) (fn_param_items items)) ps)) (λ ps. list types_format n.span (map (child_of (fn_param_place (λ x. asks (g x))) (fn_param_items (λ x. items (g x)))) ps)) _ (params_behind_new items) (params_behind_new (λ x. items (g x))) _ (spaced_annotation items) (spaced_annotation (λ x. items (g x)))
    (λ ps t a rest. leading_comments n.span.lo (keyword None (codes "new") (t (punct (codes "(") (ps (punct (codes ")") (a (semi rest))))))))
    (λ ps z. children_mapped {A = TsFnParamBox X} _ (child_of (fn_param_place asks) (fn_param_items items)) (child_of (fn_param_place (λ x. asks (g x))) (fn_param_items (λ x. items (g x)))) (λ x. refl) types_format n.span ps z) (elim [ None ↦ λ z. refl | Some t ↦ λ z. refl ]) (elim [ None ↦ λ z. refl | Some t ↦ λ z. refl ]) n.params.items

method_mapped : {X Y : Type 0} (g : X → Y) (asks : Y → Answers) (items : Y → Place → Part) (b : TsTypeLit X) (n : TsMethodSignature X) (type_params : Option (TsTypeParamDeclBox X)) (type_ann : Option (TsTypeAnnBox X)) (rest : Plan) → member_of asks items (map-AnyNode X Y g (as_member b (elements.TsMethodSignature (record n { type_params = type_params; type_ann = type_ann })))) rest ≡ ts_type_element (λ x. asks (g x)) (λ x. items (g x)) (elements.TsMethodSignature (record n { type_params = type_params; type_ann = type_ann })) rest
unfolding ts_type_element ts_signature ts_method_signature signature_key type_params signature_params annotation
method_mapped {X} g asks items b n = by_three (map _) (λ ps. list types_format n.span (map (child_of (fn_param_place asks) (fn_param_items items)) ps)) (λ ps. list types_format n.span (map (child_of (fn_param_place (λ x. asks (g x))) (fn_param_items (λ x. items (g x)))) ps)) _ (type_params items) (type_params (λ x. items (g x))) _ (annotation items) (annotation (λ x. items (g x)))
    (λ ps t a rest. leading_comments n.span.lo (signature_key (λ x. items (g x)) n.computed n.key (question n.optional (t (punct (codes "(") (ps (punct (codes ")") (a (semi rest)))))))))
    (λ ps z. children_mapped {A = TsFnParamBox X} _ (child_of (fn_param_place asks) (fn_param_items items)) (child_of (fn_param_place (λ x. asks (g x))) (fn_param_items (λ x. items (g x)))) (λ x. refl) types_format n.span ps z) (elim [ None ↦ λ z. refl | Some t ↦ λ z. refl ]) (elim [ None ↦ λ z. refl | Some t ↦ λ z. refl ]) n.params.items

property_mapped : {X Y : Type 0} (g : X → Y) (asks : Y → Answers) (items : Y → Place → Part) (b : TsTypeLit X) (n : TsPropertySignature X) (type_ann : Option (TsTypeAnnBox X)) (rest : Plan) → member_of asks items (map-AnyNode X Y g (as_member b (elements.TsPropertySignature (record n { type_ann = type_ann })))) rest ≡ ts_type_element (λ x. asks (g x)) (λ x. items (g x)) (elements.TsPropertySignature (record n { type_ann = type_ann })) rest
unfolding ts_type_element ts_signature ts_property_signature signature_key annotation
property_mapped g asks items b n None rest = refl
property_mapped g asks items b n (Some a) rest = refl

getter_mapped : {X Y : Type 0} (g : X → Y) (asks : Y → Answers) (items : Y → Place → Part) (b : TsTypeLit X) (n : TsGetterSignature X) (type_ann : Option (TsTypeAnnBox X)) (rest : Plan) → member_of asks items (map-AnyNode X Y g (as_member b (elements.TsGetterSignature (record n { type_ann = type_ann })))) rest ≡ ts_type_element (λ x. asks (g x)) (λ x. items (g x)) (elements.TsGetterSignature (record n { type_ann = type_ann })) rest
unfolding ts_type_element ts_signature ts_getter_signature signature_key getter_annotation
getter_mapped g asks items b n None rest = refl
getter_mapped g asks items b n (Some a) rest = refl

index_mapped : {X Y : Type 0} (g : X → Y) (asks : Y → Answers) (items : Y → Place → Part) (b : TsTypeLit X) (n : TsIndexSignature X) (type_ann : Option (TsTypeAnnBox X)) (rest : Plan) → member_of asks items (map-AnyNode X Y g (as_member b (elements.TsIndexSignature (record n { type_ann = type_ann })))) rest ≡ ts_type_element (λ x. asks (g x)) (λ x. items (g x)) (elements.TsIndexSignature (record n { type_ann = type_ann })) rest
unfolding ts_type_element ts_signature ts_index_signature annotation
index_mapped {X} g asks items b n None rest = ap (λ z. leading_comments n.span.lo (word_before n.is_static (codes "static") (readonly_index n.readonly (punct (codes "[") z)))) (children_mapped {A = TsFnParamBox X} _ (child_of (fn_param_place asks) (fn_param_items items)) (child_of (fn_param_place (λ x. asks (g x))) (fn_param_items (λ x. items (g x)))) (λ x. refl) types_format n.span n.params.items (punct (codes "]") (semi rest)))
index_mapped {X} g asks items b n (Some a) rest = ap (λ z. leading_comments n.span.lo (word_before n.is_static (codes "static") (readonly_index n.readonly (punct (codes "[") z)))) (children_mapped {A = TsFnParamBox X} _ (child_of (fn_param_place asks) (fn_param_items items)) (child_of (fn_param_place (λ x. asks (g x))) (fn_param_items (λ x. items (g x)))) (λ x. refl) types_format n.span n.params.items (punct (codes "]") (punct (codes ":") (formatting_space (items (g a.node.value) (Whole Plain) (semi rest))))))

-- wherever it stands
pub type_element_mapped : {X Y : Type 0} (g : X → Y) (asks : Y → Answers) (items : Y → Place → Part) (b : TsTypeLit X) (n : TsTypeElement X) (rest : Plan) → member_of asks items (map-AnyNode X Y g (as_member b n)) rest ≡ ts_type_element (λ x. asks (g x)) (λ x. items (g x)) n rest
unfolding ts_type_element ts_signature ts_setter_signature signature_key
type_element_mapped g asks items b (elements.TsCallSignatureDecl n) rest = call_mapped g asks items b n n.type_params n.type_ann rest
type_element_mapped g asks items b (elements.TsConstructSignatureDecl n) rest = construct_mapped g asks items b n n.type_params n.type_ann rest
type_element_mapped g asks items b (elements.TsPropertySignature n) rest = property_mapped g asks items b n n.type_ann rest
type_element_mapped g asks items b (elements.TsGetterSignature n) rest = getter_mapped g asks items b n n.type_ann rest
type_element_mapped g asks items b (elements.TsSetterSignature n) rest = refl
type_element_mapped g asks items b (elements.TsMethodSignature n) rest = method_mapped g asks items b n n.type_params n.type_ann rest
type_element_mapped g asks items b (elements.TsIndexSignature n) rest = index_mapped g asks items b n n.type_ann rest

pub type_element_placed : {X Y : Type 0} (g : X → Y) (b : TsTypeLit X) (n : TsTypeElement X) → place_of_member (map-AnyNode X Y g (as_member b n)) ≡ ts_type_element_span n
unfolding ts_type_element_span
type_element_placed g b (elements.TsCallSignatureDecl n) = refl
type_element_placed g b (elements.TsConstructSignatureDecl n) = refl
type_element_placed g b (elements.TsPropertySignature n) = refl
type_element_placed g b (elements.TsGetterSignature n) = refl
type_element_placed g b (elements.TsSetterSignature n) = refl
type_element_placed g b (elements.TsMethodSignature n) = refl
type_element_placed g b (elements.TsIndexSignature n) = refl

-- a member in a list, by where it stands and what is written of it
pub type_element_same : {X Y : Type 0} (g : X → Y) (asks : Y → Answers) (items : Y → Place → Part) (b : TsTypeLit X) (n : TsTypeElement X) → child_at (place_of_member (map-AnyNode X Y g (as_member b n))) (member_of asks items (map-AnyNode X Y g (as_member b n))) ≡ child_of ts_type_element_span (member_items (λ x. asks (g x)) (λ x. items (g x))) n
type_element_same g asks items b n = child_same _ _ _ _ (type_element_placed g b n) (type_element_mapped g asks items b n)

pub interface_body_mapped : {X Y : Type 0} (g : X → Y) (asks : Y → Answers) (items : Y → Place → Part) (n : TsInterfaceBody X) (place : Place) (rest : Plan) → node_items asks items (map-AnyNode X Y g (nodes.TsPart (ts_parts.TsInterfaceBody n))) place rest ≡ ts_interface_body (λ x. asks (g x)) (λ x. items (g x)) n rest
unfolding node_items ts_part ts_interface_body
interface_body_mapped {X} g asks items n place rest = ap (λ z. leading_comments n.span.lo (punct (codes "{") z)) (children_mapped {A = TsTypeElement X} _ (child_of ts_type_element_span (member_items asks items)) (child_of ts_type_element_span (member_items (λ x. asks (g x)) (λ x. items (g x)))) (type_element_same g asks items (record { span = n.span; members = n.body })) interface_format n.span n.body.items (punct (codes "}") rest))
