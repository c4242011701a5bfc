-- TsMembers: a law of the words holds of the plan.
use Rattle.std.proofs.Common.{refl}
use Rattle.swc_ecma_codegen_laws.proofs.Children.{children_hold}
use Rattle.std.specs.Prelude.{Bool, List, map, codes, Option, Some, None}
use Rattle.swc_ecma_codegen_common.specs.declared.positions.Span.{Span}
use Rattle.swc_ecma_codegen_tree.specs.Links.{ExprBox, TsFnParamBox, TsTypeAnnBox, TsTypeParamDeclBox}
use Rattle.swc_ecma_codegen_tree.specs.declared.ts_members.TsCallSignatureDecl.{TsCallSignatureDecl}
use Rattle.swc_ecma_codegen_tree.specs.declared.ts_members.TsConstructSignatureDecl.{TsConstructSignatureDecl}
use Rattle.swc_ecma_codegen_tree.specs.declared.ts_members.TsGetterSignature.{TsGetterSignature}
use Rattle.swc_ecma_codegen_tree.specs.declared.ts_members.TsIndexSignature.{TsIndexSignature}
use Rattle.swc_ecma_codegen_tree.specs.declared.ts_members.TsInterfaceBody.{TsInterfaceBody}
use Rattle.swc_ecma_codegen_tree.specs.declared.ts_members.TsMethodSignature.{TsMethodSignature}
use Rattle.swc_ecma_codegen_tree.specs.declared.ts_members.TsPropertySignature.{TsPropertySignature}
use Rattle.swc_ecma_codegen_tree.specs.declared.ts_members.TsSetterSignature.{TsSetterSignature}
use Rattle.swc_ecma_codegen_tree.specs.declared.ts_members.TsTypeElement.{TsTypeElement}
use Rattle.swc_ecma_codegen_tree.specs.declared.ts_members.TsTypeElement.TheVariants as elements
use Rattle.swc_ecma_codegen_tokens.specs.Run.{Part}
use Rattle.swc_ecma_codegen_spans.specs.Spans.{ts_type_element_span}
use Rattle.swc_ecma_codegen_emit.specs.declared.nodes.Context.TheVariants.{Plain, Reference}
use Rattle.swc_ecma_codegen_emit.specs.Places.{Whole}
use Rattle.swc_ecma_codegen_emit.specs.Annotations.{types_format}
use Rattle.swc_ecma_codegen_emit.specs.Lists.{child_of}
use Rattle.swc_ecma_codegen_laws.proofs.OfWords.{OfWords, Known, asks_in, items_in, either}
use Rattle.swc_ecma_codegen_emit.specs.TsMembers.{signature_key, fn_param_place, fn_param_items, fn_params_list, signature_params, annotation_between, ts_call_signature_decl, params_behind_new, ts_construct_signature_decl, ts_property_signature, getter_annotation, ts_getter_signature, ts_setter_signature, ts_method_signature, readonly_index, index_params, ts_index_signature, ts_signature, ts_type_element, member_items, interface_format, interface_members, ts_interface_body}
use Rattle.swc_ecma_codegen_laws.proofs.AnnotationsLifted.{annotation_holds, spaced_annotation_holds, type_params_holds, word_before_holds}

pub signature_key_holds : {X : Type 0} {holds : Bool → Part → Type 0} (known : Known holds X) (bounded : Bool) (computed : Bool) (n : ExprBox X) → holds bounded (signature_key (items_in known) computed n)
unfolding signature_key
signature_key_holds known bounded computed n = either known.words bounded computed (known.words.and_then bounded (known.words.punct bounded (codes "[")) (known.words.and_then bounded (known.law bounded n.node.value (Whole Plain)) (known.words.punct bounded (codes "]")))) (known.law bounded n.node.value (Whole Plain))

pub fn_params_list_holds : {X : Type 0} {holds : Bool → Part → Type 0} (known : Known holds X) (bounded : Bool) (span : Span) (ns : List (TsFnParamBox X)) → holds bounded (fn_params_list (asks_in known) (items_in known) span ns)
fn_params_list_holds known bounded span ns = known.words.list bounded types_format refl span (map (child_of (fn_param_place (asks_in known)) (fn_param_items (items_in known))) ns) (children_hold _ _ (fn_param_place (asks_in known)) (fn_param_items (items_in known)) (λ x. (known.law bounded x.node.value (Whole Plain))) ns)

pub signature_params_holds : {X : Type 0} {holds : Bool → Part → Type 0} (known : Known holds X) (bounded : Bool) (span : Span) (ns : List (TsFnParamBox X)) → holds bounded (signature_params (asks_in known) (items_in known) span ns)
unfolding signature_params
signature_params_holds known bounded span ns = known.words.and_then bounded (known.words.punct bounded (codes "(")) (known.words.and_then bounded (fn_params_list_holds known bounded span ns) (known.words.punct bounded (codes ")")))

pub annotation_between_holds : {X : Type 0} {holds : Bool → Part → Type 0} (known : Known holds X) (bounded : Bool) (x1 : Option (TsTypeAnnBox X)) → holds bounded (annotation_between (items_in known) x1)
unfolding annotation_between
annotation_between_holds known bounded None = known.words.none bounded
annotation_between_holds known bounded (Some n) = known.words.and_then bounded (known.words.punct_between bounded (codes ":")) (known.law bounded n.node.value (Whole Plain))

pub ts_call_signature_decl_holds : {X : Type 0} {holds : Bool → Part → Type 0} (known : Known holds X) (bounded : Bool) (n : TsCallSignatureDecl X) → holds bounded (ts_call_signature_decl (asks_in known) (items_in known) n)
unfolding ts_call_signature_decl
ts_call_signature_decl_holds known bounded n = known.words.and_then bounded (known.words.leading_comments bounded n.span.lo) (known.words.and_then bounded (type_params_holds known bounded n.type_params) (known.words.and_then bounded (signature_params_holds known bounded n.span n.params.items) (annotation_between_holds known bounded n.type_ann)))

pub params_behind_new_holds : {X : Type 0} {holds : Bool → Part → Type 0} (known : Known holds X) (bounded : Bool) (x1 : Option (TsTypeParamDeclBox X)) → holds bounded (params_behind_new (items_in known) x1)
unfolding params_behind_new
params_behind_new_holds known bounded None = known.words.none bounded
params_behind_new_holds known bounded (Some n) = known.words.and_then bounded (known.words.space bounded) (known.law bounded n.node.value (Whole Plain))

pub ts_construct_signature_decl_holds : {X : Type 0} {holds : Bool → Part → Type 0} (known : Known holds X) (bounded : Bool) (n : TsConstructSignatureDecl X) → holds bounded (ts_construct_signature_decl (asks_in known) (items_in known) n)
unfolding ts_construct_signature_decl
ts_construct_signature_decl_holds known bounded n = known.words.and_then bounded (known.words.leading_comments bounded n.span.lo) (known.words.and_then bounded (known.words.keyword bounded None (codes "new")) (known.words.and_then bounded (params_behind_new_holds known bounded n.type_params) (known.words.and_then bounded (signature_params_holds known bounded n.span n.params.items) (spaced_annotation_holds known bounded n.type_ann))))

pub ts_property_signature_holds : {X : Type 0} {holds : Bool → Part → Type 0} (known : Known holds X) (bounded : Bool) (n : TsPropertySignature X) → holds bounded (ts_property_signature (items_in known) n)
unfolding ts_property_signature
ts_property_signature_holds known bounded n = known.words.and_then bounded (known.words.leading_comments bounded n.span.lo) (known.words.and_then bounded (word_before_holds known.words bounded n.readonly (codes "readonly")) (known.words.and_then bounded (signature_key_holds known bounded n.computed n.key) (known.words.and_then bounded (known.words.question bounded n.optional) (annotation_holds known bounded n.type_ann))))

pub getter_annotation_holds : {X : Type 0} {holds : Bool → Part → Type 0} (known : Known holds X) (bounded : Bool) (x1 : Option (TsTypeAnnBox X)) → holds bounded (getter_annotation (items_in known) x1)
unfolding getter_annotation
getter_annotation_holds known bounded None = known.words.none bounded
getter_annotation_holds known bounded (Some n) = known.words.and_then bounded (known.words.punct bounded (codes ":")) (known.words.and_then bounded (known.words.formatting_space bounded) (known.law bounded n.node.value (Whole Reference)))

pub ts_getter_signature_holds : {X : Type 0} {holds : Bool → Part → Type 0} (known : Known holds X) (bounded : Bool) (n : TsGetterSignature X) → holds bounded (ts_getter_signature (items_in known) n)
unfolding ts_getter_signature
ts_getter_signature_holds known bounded n = known.words.and_then bounded (known.words.keyword bounded None (codes "get")) (known.words.and_then bounded (known.words.space bounded) (known.words.and_then bounded (signature_key_holds known bounded n.computed n.key) (known.words.and_then bounded (known.words.punct bounded (codes "(")) (known.words.and_then bounded (known.words.punct bounded (codes ")")) (getter_annotation_holds known bounded n.type_ann)))))

pub ts_setter_signature_holds : {X : Type 0} {holds : Bool → Part → Type 0} (known : Known holds X) (bounded : Bool) (n : TsSetterSignature X) → holds bounded (ts_setter_signature (items_in known) n)
unfolding ts_setter_signature
ts_setter_signature_holds known bounded n = known.words.and_then bounded (known.words.keyword bounded None (codes "set")) (known.words.and_then bounded (known.words.space bounded) (known.words.and_then bounded (signature_key_holds known bounded n.computed n.key) (known.words.and_then bounded (known.words.punct bounded (codes "(")) (known.words.and_then bounded (known.law bounded n.param.node.value (Whole Plain)) (known.words.punct bounded (codes ")"))))))

pub ts_method_signature_holds : {X : Type 0} {holds : Bool → Part → Type 0} (known : Known holds X) (bounded : Bool) (n : TsMethodSignature X) → holds bounded (ts_method_signature (asks_in known) (items_in known) n)
unfolding ts_method_signature
ts_method_signature_holds known bounded n = known.words.and_then bounded (known.words.leading_comments bounded n.span.lo) (known.words.and_then bounded (signature_key_holds known bounded n.computed n.key) (known.words.and_then bounded (known.words.question bounded n.optional) (known.words.and_then bounded (type_params_holds known bounded n.type_params) (known.words.and_then bounded (signature_params_holds known bounded n.span n.params.items) (annotation_holds known bounded n.type_ann)))))

pub readonly_index_holds : {holds : Bool → Part → Type 0} (words : OfWords holds) (bounded : Bool) (wanted : Bool) → holds bounded (readonly_index wanted)
unfolding readonly_index
readonly_index_holds words bounded wanted = either words bounded wanted (words.and_then bounded (words.keyword bounded None (codes "readonly")) (words.formatting_space bounded)) (words.none bounded)

pub index_params_holds : {X : Type 0} {holds : Bool → Part → Type 0} (known : Known holds X) (bounded : Bool) (span : Span) (ns : List (TsFnParamBox X)) → holds bounded (index_params (asks_in known) (items_in known) span ns)
index_params_holds known bounded span ns = known.words.and_then bounded (known.words.punct bounded (codes "[")) (known.words.and_then bounded (fn_params_list_holds known bounded span ns) (known.words.punct bounded (codes "]")))

pub ts_index_signature_holds : {X : Type 0} {holds : Bool → Part → Type 0} (known : Known holds X) (bounded : Bool) (n : TsIndexSignature X) → holds bounded (ts_index_signature (asks_in known) (items_in known) n)
unfolding ts_index_signature
ts_index_signature_holds known bounded n = known.words.and_then bounded (known.words.leading_comments bounded n.span.lo) (known.words.and_then bounded (word_before_holds known.words bounded n.is_static (codes "static")) (known.words.and_then bounded (readonly_index_holds known.words bounded n.readonly) (known.words.and_then bounded (index_params_holds known bounded n.span n.params.items) (annotation_holds known bounded n.type_ann))))

pub ts_signature_holds : {X : Type 0} {holds : Bool → Part → Type 0} (known : Known holds X) (bounded : Bool) (x2 : TsTypeElement X) → holds bounded (ts_signature (asks_in known) (items_in known) x2)
unfolding ts_signature
ts_signature_holds known bounded (elements.TsCallSignatureDecl n) = ts_call_signature_decl_holds known bounded n
ts_signature_holds known bounded (elements.TsConstructSignatureDecl n) = ts_construct_signature_decl_holds known bounded n
ts_signature_holds known bounded (elements.TsPropertySignature n) = ts_property_signature_holds known bounded n
ts_signature_holds known bounded (elements.TsGetterSignature n) = ts_getter_signature_holds known bounded n
ts_signature_holds known bounded (elements.TsSetterSignature n) = ts_setter_signature_holds known bounded n
ts_signature_holds known bounded (elements.TsMethodSignature n) = ts_method_signature_holds known bounded n
ts_signature_holds known bounded (elements.TsIndexSignature n) = ts_index_signature_holds known bounded n

pub ts_type_element_holds : {X : Type 0} {holds : Bool → Part → Type 0} (known : Known holds X) (bounded : Bool) (n : TsTypeElement X) → holds bounded (ts_type_element (asks_in known) (items_in known) n)
unfolding ts_type_element
ts_type_element_holds known bounded n = known.words.and_then bounded (ts_signature_holds known bounded n) (known.words.semi bounded)

pub interface_members_holds : {X : Type 0} {holds : Bool → Part → Type 0} (known : Known holds X) (bounded : Bool) (n : TsInterfaceBody X) → holds bounded (interface_members (asks_in known) (items_in known) n)
interface_members_holds known bounded n = known.words.list bounded interface_format refl n.span (map (child_of ts_type_element_span (member_items (asks_in known) (items_in known))) n.body.items) (children_hold _ _ ts_type_element_span (member_items (asks_in known) (items_in known)) (λ x. (ts_type_element_holds known bounded x)) n.body.items)

pub ts_interface_body_holds : {X : Type 0} {holds : Bool → Part → Type 0} (known : Known holds X) (bounded : Bool) (n : TsInterfaceBody X) → holds bounded (ts_interface_body (asks_in known) (items_in known) n)
unfolding ts_interface_body
ts_interface_body_holds known bounded n = known.words.and_then bounded (known.words.leading_comments bounded n.span.lo) (known.words.and_then bounded (known.words.punct bounded (codes "{")) (known.words.and_then bounded (interface_members_holds known bounded n) (known.words.punct bounded (codes "}"))))
