-- When members of object types are well-formed.
use Rattle.std.proofs.Common.{◌≡◌, ◌∙◌, refl, ap, ℕ, Bool, true, false, ◌&&◌, List, codes, Option}
use Rattle.swc_ecma_codegen_tree.specs.Links.{ExprBox, TsFnParamBox, TsTypeAnnBox, TsTypeParamDeclBox}
use Rattle.swc_ecma_codegen_tree.specs.declared.ts_members.TsCallSignatureDecl.{TsCallSignatureDecl}
use Rattle.swc_ecma_codegen_tree.specs.declared.ts_members.TsConstructSignatureDecl.{TsConstructSignatureDecl}
use Rattle.swc_ecma_codegen_tree.specs.declared.ts_members.TsGetterSignature.{TsGetterSignature}
use Rattle.swc_ecma_codegen_tree.specs.declared.ts_members.TsIndexSignature.{TsIndexSignature}
use Rattle.swc_ecma_codegen_tree.specs.declared.ts_members.TsInterfaceBody.{TsInterfaceBody}
use Rattle.swc_ecma_codegen_tree.specs.declared.ts_members.TsMethodSignature.{TsMethodSignature}
use Rattle.swc_ecma_codegen_tree.specs.declared.ts_members.TsPropertySignature.{TsPropertySignature}
use Rattle.swc_ecma_codegen_tree.specs.declared.ts_members.TsSetterSignature.{TsSetterSignature}
use Rattle.swc_ecma_codegen_tree.specs.declared.ts_members.TsTypeElement.{TsTypeElement}
use Rattle.swc_ecma_codegen_grammar.specs.AnnotationPhrases.{question, annotation, type_params}
use Rattle.swc_ecma_codegen_grammar.specs.ElementPhrases.{element}
use Rattle.swc_ecma_codegen_grammar.specs.FunctionPhrases.{word_if}
use Rattle.swc_ecma_codegen_grammar.specs.MemberPhrases.{signature_key, signature_params, ts_call_signature_decl, ts_construct_signature_decl, ts_property_signature, ts_getter_signature, ts_setter_signature, ts_method_signature, ts_index_signature, ts_signature, ts_type_element, ts_interface_body, signature_param_at}
use Rattle.swc_ecma_codegen_grammar.specs.PatPhrases.{value_at}
use Rattle.swc_ecma_codegen_grammar.specs.Phrases.{Phrase, word, is_possible}
use Rattle.swc_ecma_codegen_grammar.specs.TypePhrases.{ann_at, params_at}
use Rattle.swc_ecma_codegen_grammar.specs.declared.roles.Role.{Role}
use Rattle.swc_ecma_codegen_validate.specs.Possible.{all_possible}
use Rattle.swc_ecma_codegen_validate.proofs.Annotations.{annotation_possible, typed_possible, params_possible}
use Rattle.swc_ecma_codegen_validate.proofs.Lists.{in_order_possible, listed_possible, and_true}

-- what stands behind a word, where it is there, or a mark
pub past_word : (wanted : Bool) (t : List ℕ) (rest : Bool) → (is_possible (word_if wanted (word t)) && rest) ≡ rest
unfolding is_possible word_if
past_word true t rest = refl
past_word false t rest = refl

pub past_question : (optional : Bool) (rest : Bool) → (is_possible (question optional) && rest) ≡ rest
unfolding is_possible question
past_question true rest = refl
past_question false rest = refl

key_possible : {X : Type 0} (f : X → Role → Phrase) (computed : Bool) (n : ExprBox X) → is_possible (signature_key f computed n) ≡ is_possible (value_at f n)
unfolding is_possible signature_key
key_possible f true n = and_true _
key_possible f false n = refl

-- parameters of types, parameters, and a result
signature_possible : {X : Type 0} (f : X → Role → Phrase) (params : Option (TsTypeParamDeclBox X)) (ns : List (TsFnParamBox X)) (result : Option (TsTypeAnnBox X))
    → (is_possible (type_params f params) && (is_possible (signature_params f ns) && is_possible (annotation f result)))
    ≡ (is_possible (element (params_at f) params) && (all_possible (signature_param_at f) ns && is_possible (element (ann_at f) result)))
signature_possible f params ns result =
    ap (λ b. b && (is_possible (signature_params f ns) && is_possible (annotation f result))) (params_possible f params)
    ∙ ap (λ b. is_possible (element (params_at f) params) && (b && is_possible (annotation f result))) (listed_possible (codes ",") (signature_param_at f) ns)
    ∙ ap (λ b. is_possible (element (params_at f) params) && (all_possible (signature_param_at f) ns && b)) (annotation_possible f result)

pub call_signature_possible : {X : Type 0} (f : X → Role → Phrase) (n : TsCallSignatureDecl X) → is_possible (ts_call_signature_decl f n) ≡ (is_possible (element (params_at f) n.type_params) && (all_possible (signature_param_at f) n.params.items && is_possible (element (ann_at f) n.type_ann)))
unfolding is_possible ts_call_signature_decl
call_signature_possible f n = signature_possible f n.type_params n.params.items n.type_ann

pub construct_signature_possible : {X : Type 0} (f : X → Role → Phrase) (n : TsConstructSignatureDecl X) → is_possible (ts_construct_signature_decl f n) ≡ (is_possible (element (params_at f) n.type_params) && (all_possible (signature_param_at f) n.params.items && is_possible (element (ann_at f) n.type_ann)))
unfolding is_possible ts_construct_signature_decl
construct_signature_possible f n = signature_possible f n.type_params n.params.items n.type_ann

pub property_signature_possible : {X : Type 0} (f : X → Role → Phrase) (n : TsPropertySignature X) → is_possible (ts_property_signature f n) ≡ (is_possible (value_at f n.key) && is_possible (element (ann_at f) n.type_ann))
unfolding is_possible ts_property_signature
property_signature_possible f n =
    past_word n.readonly (codes "readonly") _
    ∙ ap (λ b. b && (is_possible (question n.optional) && is_possible (annotation f n.type_ann))) (key_possible f n.computed n.key)
    ∙ ap (λ b. is_possible (value_at f n.key) && b) (typed_possible f n.optional n.type_ann)

pub getter_signature_possible : {X : Type 0} (f : X → Role → Phrase) (n : TsGetterSignature X) → is_possible (ts_getter_signature f n) ≡ (is_possible (value_at f n.key) && is_possible (element (ann_at f) n.type_ann))
unfolding is_possible ts_getter_signature
getter_signature_possible f n =
    ap (λ b. b && is_possible (annotation f n.type_ann)) (key_possible f n.computed n.key)
    ∙ ap (λ b. is_possible (value_at f n.key) && b) (annotation_possible f n.type_ann)

pub setter_signature_possible : {X : Type 0} (f : X → Role → Phrase) (n : TsSetterSignature X) → is_possible (ts_setter_signature f n) ≡ (is_possible (value_at f n.key) && is_possible (signature_param_at f n.param))
unfolding is_possible ts_setter_signature
setter_signature_possible f n =
    ap (λ b. b && (is_possible (signature_param_at f n.param) && true)) (key_possible f n.computed n.key)
    ∙ ap (λ b. is_possible (value_at f n.key) && b) (and_true (is_possible (signature_param_at f n.param)))

pub method_signature_possible : {X : Type 0} (f : X → Role → Phrase) (n : TsMethodSignature X) → is_possible (ts_method_signature f n) ≡ (is_possible (value_at f n.key) && (is_possible (element (params_at f) n.type_params) && (all_possible (signature_param_at f) n.params.items && is_possible (element (ann_at f) n.type_ann))))
unfolding is_possible ts_method_signature
method_signature_possible f n =
    let rest : Bool = is_possible (type_params f n.type_params) && (is_possible (signature_params f n.params.items) && is_possible (annotation f n.type_ann)) in
    ap (λ b. b && (is_possible (question n.optional) && rest)) (key_possible f n.computed n.key)
    ∙ ap (λ b. is_possible (value_at f n.key) && b) (past_question n.optional rest ∙ signature_possible f n.type_params n.params.items n.type_ann)

pub index_signature_possible : {X : Type 0} (f : X → Role → Phrase) (n : TsIndexSignature X) → is_possible (ts_index_signature f n) ≡ (all_possible (signature_param_at f) n.params.items && is_possible (element (ann_at f) n.type_ann))
unfolding is_possible ts_index_signature
index_signature_possible f n =
    past_word n.is_static (codes "static") _
    ∙ past_word n.readonly (codes "readonly") _
    ∙ ap (λ b. b && is_possible (annotation f n.type_ann)) (listed_possible (codes ",") (signature_param_at f) n.params.items)
    ∙ ap (λ b. all_possible (signature_param_at f) n.params.items && b) (annotation_possible f n.type_ann)

pub type_element_possible : {X : Type 0} (f : X → Role → Phrase) (n : TsTypeElement X) → is_possible (ts_type_element f n) ≡ is_possible (ts_signature f n)
unfolding is_possible ts_type_element
type_element_possible f n = and_true _

pub interface_body_possible : {X : Type 0} (f : X → Role → Phrase) (n : TsInterfaceBody X) → is_possible (ts_interface_body f n) ≡ all_possible (ts_type_element f) n.body.items
unfolding is_possible ts_interface_body
interface_body_possible f n = and_true _ ∙ in_order_possible (ts_type_element f) n.body.items
