-- What is written of members of object types and of interfaces.
use Rattle.std.specs.Prelude.{ℕ, Bool, if◌then◌else◌, List, map, codes, Option, Some, None}
use Rattle.swc_ecma_codegen_common.specs.declared.positions.Span.{Span}
use Rattle.swc_ecma_codegen_tree.specs.Links.{ExprBox, TsFnParamBox, TsTypeAnnBox, TsTypeParamDeclBox}
use Rattle.swc_ecma_codegen_tree.specs.declared.ts_members.TsCallSignatureDecl.{TsCallSignatureDecl}
use Rattle.swc_ecma_codegen_tree.specs.declared.ts_members.TsConstructSignatureDecl.{TsConstructSignatureDecl}
use Rattle.swc_ecma_codegen_tree.specs.declared.ts_members.TsGetterSignature.{TsGetterSignature}
use Rattle.swc_ecma_codegen_tree.specs.declared.ts_members.TsIndexSignature.{TsIndexSignature}
use Rattle.swc_ecma_codegen_tree.specs.declared.ts_members.TsInterfaceBody.{TsInterfaceBody}
use Rattle.swc_ecma_codegen_tree.specs.declared.ts_members.TsMethodSignature.{TsMethodSignature}
use Rattle.swc_ecma_codegen_tree.specs.declared.ts_members.TsPropertySignature.{TsPropertySignature}
use Rattle.swc_ecma_codegen_tree.specs.declared.ts_members.TsSetterSignature.{TsSetterSignature}
use Rattle.swc_ecma_codegen_tree.specs.declared.ts_members.TsTypeElement.{TsTypeElement}
use Rattle.swc_ecma_codegen_tree.specs.declared.ts_members.TsTypeElement.TheVariants as elements
use Rattle.swc_ecma_codegen_tokens.specs.Run.{Part}
use Rattle.swc_ecma_codegen_tokens.specs.Lists.{list}
use Rattle.swc_ecma_codegen_tokens.specs.Words.{keyword, punct, punct_between, question, semi, space, formatting_space, leading_comments}
use Rattle.swc_ecma_codegen_spans.specs.Spans.{ts_type_element_span}
use Rattle.swc_ecma_codegen_emit.specs.declared.nodes.Context.TheVariants.{Plain, Reference}
use Rattle.swc_ecma_codegen_emit.specs.Places.{Place, Whole}
use Rattle.swc_ecma_codegen_emit.specs.Annotations.{annotation, spaced_annotation, type_params, types_format, word_before}
use Rattle.swc_ecma_codegen_emit.specs.Answers.{Answers}
use Rattle.swc_ecma_codegen_emit.specs.Lists.{child_of}

-- `a` or `[a]`
unfoldable pub signature_key : {X : Type 0} → (X → Place → Part) → Bool → ExprBox X → Part
signature_key items computed n rest =
    if computed then punct (codes "[") (items n.node.value (Whole Plain) (punct (codes "]") rest)) else items n.node.value (Whole Plain) rest

-- parameters that links hold
abbrev pub fn_param_place : {X : Type 0} → (X → Answers) → TsFnParamBox X → Span
fn_param_place asks n = (asks n.node.value).place

abbrev pub fn_param_items : {X : Type 0} → (X → Place → Part) → TsFnParamBox X → Place → Part
fn_param_items items n place = items n.node.value place

abbrev pub fn_params_list : {X : Type 0} → (X → Answers) → (X → Place → Part) → Span → List (TsFnParamBox X) → Part
fn_params_list asks items span ns = list types_format span (map (child_of (fn_param_place asks) (fn_param_items items)) ns)

-- `(a: A, b: B)` of `(a: A, b: B): C`
unfoldable pub signature_params : {X : Type 0} → (X → Answers) → (X → Place → Part) → Span → List (TsFnParamBox X) → Part
signature_params asks items span ns rest = punct (codes "(") (fn_params_list asks items span ns (punct (codes ")") rest))

-- ` : A`, between two blanks
unfoldable pub annotation_between : {X : Type 0} → (X → Place → Part) → Option (TsTypeAnnBox X) → Part
annotation_between items None rest = rest
annotation_between items (Some n) rest = punct_between (codes ":") (items n.node.value (Whole Plain) rest)

-- `<A>(a: A) : B`
unfoldable pub ts_call_signature_decl : {X : Type 0} → (X → Answers) → (X → Place → Part) → TsCallSignatureDecl X → Part
ts_call_signature_decl asks items n rest =
    leading_comments n.span.lo
    (type_params items n.type_params (signature_params asks items n.span n.params.items (annotation_between items n.type_ann rest)))

-- type parameters behind `new`, and the blank before them
unfoldable pub params_behind_new : {X : Type 0} → (X → Place → Part) → Option (TsTypeParamDeclBox X) → Part
params_behind_new items None rest = rest
params_behind_new items (Some n) rest = space (items n.node.value (Whole Plain) rest)

-- `new <A>(a: A): B`
unfoldable pub ts_construct_signature_decl : {X : Type 0} → (X → Answers) → (X → Place → Part) → TsConstructSignatureDecl X → Part
ts_construct_signature_decl asks items n rest =
    leading_comments n.span.lo
    (keyword None (codes "new")
    (params_behind_new items n.type_params (signature_params asks items n.span n.params.items (spaced_annotation items n.type_ann rest))))

-- `readonly a?: B`
unfoldable pub ts_property_signature : {X : Type 0} → (X → Place → Part) → TsPropertySignature X → Part
ts_property_signature items n rest =
    leading_comments n.span.lo
    (word_before n.readonly (codes "readonly")
    (signature_key items n.computed n.key (question n.optional (annotation items n.type_ann rest))))

-- `: B` of a getter, which leaves the comments before it
unfoldable pub getter_annotation : {X : Type 0} → (X → Place → Part) → Option (TsTypeAnnBox X) → Part
getter_annotation items None rest = rest
getter_annotation items (Some n) rest = punct (codes ":") (formatting_space (items n.node.value (Whole Reference) rest))

-- `get a(): B`
unfoldable pub ts_getter_signature : {X : Type 0} → (X → Place → Part) → TsGetterSignature X → Part
ts_getter_signature items n rest =
    keyword None (codes "get")
    (space (signature_key items n.computed n.key (punct (codes "(") (punct (codes ")") (getter_annotation items n.type_ann rest)))))

-- `set a(b: C)`
unfoldable pub ts_setter_signature : {X : Type 0} → (X → Place → Part) → TsSetterSignature X → Part
ts_setter_signature items n rest =
    keyword None (codes "set")
    (space (signature_key items n.computed n.key (punct (codes "(") (items n.param.node.value (Whole Plain) (punct (codes ")") rest)))))

-- `a?<B>(b: B): C`
unfoldable pub ts_method_signature : {X : Type 0} → (X → Answers) → (X → Place → Part) → TsMethodSignature X → Part
ts_method_signature asks items n rest =
    leading_comments n.span.lo
    (signature_key items n.computed n.key
    (question n.optional
    (type_params items n.type_params (signature_params asks items n.span n.params.items (annotation items n.type_ann rest)))))

-- `readonly` and a blank, unless minified: `readonly [a: string]`
unfoldable pub readonly_index : Bool → Part
readonly_index wanted rest = if wanted then keyword None (codes "readonly") (formatting_space rest) else rest

-- `[a: string]`
abbrev pub index_params : {X : Type 0} → (X → Answers) → (X → Place → Part) → Span → List (TsFnParamBox X) → Part
index_params asks items span ns rest = punct (codes "[") (fn_params_list asks items span ns (punct (codes "]") rest))

-- `static readonly [a: string]: B`
unfoldable pub ts_index_signature : {X : Type 0} → (X → Answers) → (X → Place → Part) → TsIndexSignature X → Part
ts_index_signature asks items n rest =
    leading_comments n.span.lo
    (word_before n.is_static (codes "static")
    (readonly_index n.readonly
    (index_params asks items n.span n.params.items (annotation items n.type_ann rest))))

unfoldable pub ts_signature : {X : Type 0} → (X → Answers) → (X → Place → Part) → TsTypeElement X → Part
ts_signature asks items (elements.TsCallSignatureDecl n) rest = ts_call_signature_decl asks items n rest
ts_signature asks items (elements.TsConstructSignatureDecl n) rest = ts_construct_signature_decl asks items n rest
ts_signature asks items (elements.TsPropertySignature n) rest = ts_property_signature items n rest
ts_signature asks items (elements.TsGetterSignature n) rest = ts_getter_signature items n rest
ts_signature asks items (elements.TsSetterSignature n) rest = ts_setter_signature items n rest
ts_signature asks items (elements.TsMethodSignature n) rest = ts_method_signature asks items n rest
ts_signature asks items (elements.TsIndexSignature n) rest = ts_index_signature asks items n rest

-- `a: B;`
unfoldable pub ts_type_element : {X : Type 0} → (X → Answers) → (X → Place → Part) → TsTypeElement X → Part
ts_type_element asks items n rest = ts_signature asks items n (semi rest)

-- a member in a list
abbrev pub member_items : {X : Type 0} → (X → Answers) → (X → Place → Part) → TsTypeElement X → Place → Part
member_items asks items n place = ts_type_element asks items n

-- `InterfaceMembers`
abbrev pub interface_format : ℕ
interface_format = 65

abbrev pub interface_members : {X : Type 0} → (X → Answers) → (X → Place → Part) → TsInterfaceBody X → Part
interface_members asks items n = list interface_format n.span (map (child_of ts_type_element_span (member_items asks items)) n.body.items)

-- `{ a: B; }`
unfoldable pub ts_interface_body : {X : Type 0} → (X → Answers) → (X → Place → Part) → TsInterfaceBody X → Part
ts_interface_body asks items n rest = leading_comments n.span.lo (punct (codes "{") (interface_members asks items n (punct (codes "}") rest)))
