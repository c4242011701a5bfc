-- What is written of members of object types is what they read as.
use Rattle.std.proofs.Common.{ℕ, Bool, true, false, refl, List, codes, map, Option, Some, None, ◌≡◌}
use Rattle.swc_ecma_codegen_common.specs.declared.positions.Span.{Span}
use Rattle.swc_ecma_codegen_tree.specs.Links.{ExprBox, TsFnParamBox, TsTypeAnnBox, TsTypeParamDeclBox}
use Rattle.swc_ecma_codegen_tree.specs.declared.ts_members.TsCallSignatureDecl.{TsCallSignatureDecl}
use Rattle.swc_ecma_codegen_tree.specs.declared.ts_members.TsConstructSignatureDecl.{TsConstructSignatureDecl}
use Rattle.swc_ecma_codegen_tree.specs.declared.ts_members.TsGetterSignature.{TsGetterSignature}
use Rattle.swc_ecma_codegen_tree.specs.declared.ts_members.TsIndexSignature.{TsIndexSignature}
use Rattle.swc_ecma_codegen_tree.specs.declared.ts_members.TsInterfaceBody.{TsInterfaceBody}
use Rattle.swc_ecma_codegen_tree.specs.declared.ts_members.TsMethodSignature.{TsMethodSignature}
use Rattle.swc_ecma_codegen_tree.specs.declared.ts_members.TsPropertySignature.{TsPropertySignature}
use Rattle.swc_ecma_codegen_tree.specs.declared.ts_members.TsSetterSignature.{TsSetterSignature}
use Rattle.swc_ecma_codegen_tree.specs.declared.ts_members.TsTypeElement.{TsTypeElement}
use Rattle.swc_ecma_codegen_tree.specs.declared.ts_members.TsTypeElement.TheVariants as elements
use Rattle.swc_ecma_codegen_spans.specs.Spans.{ts_type_element_span}
use Rattle.swc_ecma_codegen_grammar.specs.AnnotationPhrases as annotations
use Rattle.swc_ecma_codegen_grammar.specs.FunctionPhrases.{word_if}
use Rattle.swc_ecma_codegen_grammar.specs.MemberPhrases as lists
use Rattle.swc_ecma_codegen_grammar.specs.Phrases.{Phrase, ◌>◌, mark, word}
use Rattle.swc_ecma_codegen_grammar.specs.MemberPhrases.{signature_param_at}
use Rattle.swc_ecma_codegen_grammar.specs.declared.roles.Role.TheVariants.{Annotation, SignatureParameter, TypeParameters}
use Rattle.swc_ecma_codegen_tokens.specs.Run.{Env, Part}
use Rattle.swc_ecma_codegen_tokens.specs.Lists.{list}
use Rattle.swc_ecma_codegen_tokens.specs.Words.{punct, allows_break}
use Rattle.swc_ecma_codegen_tokens.specs.Written.{IsMark}
use Rattle.swc_ecma_codegen_tokens.proofs.Listing.ListLaws.{IsUndelimited, prints_bracketed, prints_bracketed_in_order}
use Rattle.swc_ecma_codegen_tokens.proofs.Reading.Phrased.{Prints, PrintsAt, prints_wider, loosened, then, after, before, prints_nothing, prints_keyword, prints_punct, prints_semi, prints_unbroken}
use Rattle.swc_ecma_codegen_tokens.proofs.Reading.Printed.{writes_space, writes_formatting_space}
use Rattle.swc_ecma_codegen_tokens.proofs.Commenting.CommentPrints.{writes_leading}
use Rattle.swc_ecma_codegen_tokens.proofs.Filling.Shapes.{open_, ended, loose}
use Rattle.swc_ecma_codegen_emit.specs.declared.nodes.Context.TheVariants.{Plain, Reference}
use Rattle.swc_ecma_codegen_emit.specs.Places.{Whole}
use Rattle.swc_ecma_codegen_emit.specs.TsMembers as words
use Rattle.swc_ecma_codegen_emit.specs.TsMembers.{interface_format, fn_param_place, fn_param_items}
use Rattle.swc_ecma_codegen_emit.specs.Annotations.{types_format}
use Rattle.swc_ecma_codegen_emit.proofs.AnnotationParts.{ann_at, word_before_prints, word_space_prints, between_prints, no_line, annotation_prints, spaced_annotation_prints, question_prints, type_params_print}
use Rattle.swc_ecma_codegen_emit.proofs.Linked.{Linked, expr_at}
use Rattle.swc_ecma_codegen_emit.proofs.MarkWords as marks
use Rattle.swc_ecma_codegen_emit.proofs.TypeWords as type_words

-- ---- what members share

key_prints : {X : Type 0} (l : Linked X) (computed : Bool) (n : ExprBox X) → Prints l.env (words.signature_key l.items computed n) (lists.signature_key l.reads computed n)
unfolding words.signature_key lists.signature_key
key_prints l true n = then (prints_punct l.env (codes "[") marks.left_bracket) (then (expr_at l n Plain) (prints_punct l.env (codes "]") marks.right_bracket))
key_prints l false n = expr_at l n Plain

-- parameters in brackets, and what stands behind them
bracketed_prints : {X : Type 0} (l : Linked X) (first last : List ℕ) → allows_break last ≡ false → IsMark first → IsMark last → (span : Span) (ns : List (TsFnParamBox X)) {p : Part} {f : Phrase} → PrintsAt open_ l.env p f → Prints l.env (λ rest. punct first (list types_format span (map (λ n. record { place = fn_param_place l.asks n; part = fn_param_items l.items n (Whole Plain) }) ns) (punct last (p rest)))) (mark first > lists.signature_params l.reads ns > mark last > f)
bracketed_prints l first last u o c span ns {p} {f} h =
    prints_bracketed l.env first o (λ rest. rest) (no_line l.env) types_format span (fn_param_place l.asks) (λ n. fn_param_items l.items n (Whole Plain)) (signature_param_at l.reads) (mark last > f) (λ rest. punct last (p rest))
    (λ n. loosened (l.law n.node.value (Whole Plain) SignatureParameter)) refl refl refl (then (prints_unbroken l.env last u c) h) ns

signature_prints : {X : Type 0} (l : Linked X) (span : Span) (ns : List (TsFnParamBox X)) {p : Part} {f : Phrase} → PrintsAt open_ l.env p f → Prints l.env (λ rest. words.signature_params l.asks l.items span ns (p rest)) (mark (codes "(") > lists.signature_params l.reads ns > mark (codes ")") > f)
unfolding words.signature_params
signature_prints l span ns h = bracketed_prints l (codes "(") (codes ")") refl marks.left_parenthesis marks.right_parenthesis span ns h

annotation_between_prints : {X : Type 0} (l : Linked X) (n : Option (TsTypeAnnBox X)) → PrintsAt open_ l.env (words.annotation_between l.items n) (annotations.annotation l.reads n)
unfolding words.annotation_between annotations.annotation
annotation_between_prints l None = prints_nothing
annotation_between_prints l (Some n) = prints_wider open_ refl (then (between_prints l.env (codes ":") refl marks.colon) (ann_at l n))

params_behind_new_print : {X : Type 0} (l : Linked X) (n : Option (TsTypeParamDeclBox X)) → PrintsAt open_ l.env (words.params_behind_new l.items n) (annotations.type_params l.reads n)
unfolding words.params_behind_new annotations.type_params
params_behind_new_print l None = prints_nothing
params_behind_new_print l (Some n) = prints_wider open_ refl (after (writes_space l.env) (l.law n.node.value (Whole Plain) TypeParameters))

getter_annotation_prints : {X : Type 0} (l : Linked X) (n : Option (TsTypeAnnBox X)) → PrintsAt open_ l.env (words.getter_annotation l.items n) (annotations.annotation l.reads n)
unfolding words.getter_annotation annotations.annotation
getter_annotation_prints l None = prints_nothing
getter_annotation_prints l (Some n) = prints_wider open_ refl (then (before (prints_punct l.env (codes ":") marks.colon) (writes_formatting_space l.env)) (l.law n.node.value (Whole Reference) Annotation))

readonly_index_prints : (env : Env) (wanted : Bool) → PrintsAt open_ env (words.readonly_index wanted) (word_if wanted (word (codes "readonly")))
unfolding words.readonly_index word_if
readonly_index_prints env true = prints_wider open_ refl (before (prints_keyword env None (codes "readonly") type_words.readonly_word) (writes_formatting_space env))
readonly_index_prints env false = prints_nothing

-- ---- members

call_prints : {X : Type 0} (l : Linked X) (n : TsCallSignatureDecl X) → Prints l.env (words.ts_call_signature_decl l.asks l.items n) (lists.ts_call_signature_decl l.reads n)
unfolding words.ts_call_signature_decl lists.ts_call_signature_decl
call_prints l n = after (writes_leading l.env n.span.lo) (then (type_params_print l n.type_params) (signature_prints l n.span n.params.items (annotation_between_prints l n.type_ann)))

construct_prints : {X : Type 0} (l : Linked X) (n : TsConstructSignatureDecl X) → Prints l.env (words.ts_construct_signature_decl l.asks l.items n) (lists.ts_construct_signature_decl l.reads n)
unfolding words.ts_construct_signature_decl lists.ts_construct_signature_decl
construct_prints l n =
    after (writes_leading l.env n.span.lo)
    (then (prints_keyword l.env None (codes "new") type_words.new_word)
    (then (params_behind_new_print l n.type_params) (signature_prints l n.span n.params.items (spaced_annotation_prints l n.type_ann))))

property_prints : {X : Type 0} (l : Linked X) (n : TsPropertySignature X) → Prints l.env (words.ts_property_signature l.items n) (lists.ts_property_signature l.reads n)
unfolding words.ts_property_signature lists.ts_property_signature
property_prints l n =
    after (writes_leading l.env n.span.lo)
    (then (word_before_prints l.env n.readonly (codes "readonly") type_words.readonly_word)
    (then (key_prints l n.computed n.key) (then (question_prints l.env n.optional) (annotation_prints l n.type_ann))))

getter_prints : {X : Type 0} (l : Linked X) (n : TsGetterSignature X) → Prints l.env (words.ts_getter_signature l.items n) (lists.ts_getter_signature l.reads n)
unfolding words.ts_getter_signature lists.ts_getter_signature
getter_prints l n =
    then (word_space_prints l.env (codes "get") marks.get_word)
    (then (key_prints l n.computed n.key)
    (then (prints_punct l.env (codes "(") marks.left_parenthesis)
    (then (prints_punct l.env (codes ")") marks.right_parenthesis) (getter_annotation_prints l n.type_ann))))

setter_prints : {X : Type 0} (l : Linked X) (n : TsSetterSignature X) → Prints l.env (words.ts_setter_signature l.items n) (lists.ts_setter_signature l.reads n)
unfolding words.ts_setter_signature lists.ts_setter_signature
setter_prints l n =
    then (word_space_prints l.env (codes "set") marks.set_word)
    (then (key_prints l n.computed n.key)
    (then (prints_punct l.env (codes "(") marks.left_parenthesis)
    (then (l.law n.param.node.value (Whole Plain) SignatureParameter) (prints_punct l.env (codes ")") marks.right_parenthesis))))

method_prints : {X : Type 0} (l : Linked X) (n : TsMethodSignature X) → Prints l.env (words.ts_method_signature l.asks l.items n) (lists.ts_method_signature l.reads n)
unfolding words.ts_method_signature lists.ts_method_signature
method_prints l n =
    after (writes_leading l.env n.span.lo)
    (then (key_prints l n.computed n.key)
    (then (question_prints l.env n.optional)
    (then (type_params_print l n.type_params) (signature_prints l n.span n.params.items (annotation_prints l n.type_ann)))))

pub index_signature_prints : {X : Type 0} (l : Linked X) (n : TsIndexSignature X) → Prints l.env (words.ts_index_signature l.asks l.items n) (lists.ts_index_signature l.reads n)
unfolding words.ts_index_signature lists.ts_index_signature
index_signature_prints l n =
    after (writes_leading l.env n.span.lo)
    (then (word_before_prints l.env n.is_static (codes "static") marks.static_word)
    (then (readonly_index_prints l.env n.readonly)
    (bracketed_prints l (codes "[") (codes "]") refl marks.left_bracket marks.right_bracket n.span n.params.items (annotation_prints l n.type_ann))))

signature_by : {X : Type 0} (l : Linked X) (n : TsTypeElement X) → Prints l.env (words.ts_signature l.asks l.items n) (lists.ts_signature l.reads n)
unfolding words.ts_signature lists.ts_signature
signature_by l (elements.TsCallSignatureDecl n) = call_prints l n
signature_by l (elements.TsConstructSignatureDecl n) = construct_prints l n
signature_by l (elements.TsPropertySignature n) = property_prints l n
signature_by l (elements.TsGetterSignature n) = getter_prints l n
signature_by l (elements.TsSetterSignature n) = setter_prints l n
signature_by l (elements.TsMethodSignature n) = method_prints l n
signature_by l (elements.TsIndexSignature n) = index_signature_prints l n

pub type_element_prints : {X : Type 0} (l : Linked X) (n : TsTypeElement X) → PrintsAt ended l.env (words.ts_type_element l.asks l.items n) (lists.ts_type_element l.reads n)
unfolding words.ts_type_element lists.ts_type_element
type_element_prints l n = then (signature_by l n) (prints_semi l.env)

-- ---- bodies of interfaces

members_undelimited : IsUndelimited interface_format
members_undelimited = record { no_comma = refl; no_bar = refl; no_ampersand = refl }

pub interface_body_prints : {X : Type 0} (l : Linked X) (n : TsInterfaceBody X) → Prints l.env (words.ts_interface_body l.asks l.items n) (lists.ts_interface_body l.reads n)
unfolding words.ts_interface_body lists.ts_interface_body
interface_body_prints l n =
    after (writes_leading l.env n.span.lo)
    (prints_bracketed_in_order l.env (codes "{") marks.left_brace (λ rest. rest) (no_line l.env) interface_format n.span ts_type_element_span (λ m. words.member_items l.asks l.items m (Whole Plain)) (lists.ts_type_element l.reads)
    (mark (codes "}")) (punct (codes "}")) (λ m. prints_wider loose refl (type_element_prints l m)) members_undelimited (prints_punct l.env (codes "}") marks.right_brace) n.body.items)
