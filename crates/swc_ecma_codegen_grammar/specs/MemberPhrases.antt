-- Members of object types and of interfaces: one production a node. `f` says what is read of what a link holds, in its role. TypeScript
-- handbook, sections "Object Types" and "Functions".
use Rattle.std.specs.Prelude.{Bool, if◌then◌else◌, List, map, codes}
use Rattle.swc_ecma_codegen_tree.specs.Links.{ExprBox, TsFnParamBox, TsInterfaceBodyBox}
use Rattle.swc_ecma_codegen_tree.specs.declared.ts_members.TsCallSignatureDecl.{TsCallSignatureDecl}
use Rattle.swc_ecma_codegen_tree.specs.declared.ts_members.TsConstructSignatureDecl.{TsConstructSignatureDecl}
use Rattle.swc_ecma_codegen_tree.specs.declared.ts_members.TsGetterSignature.{TsGetterSignature}
use Rattle.swc_ecma_codegen_tree.specs.declared.ts_members.TsIndexSignature.{TsIndexSignature}
use Rattle.swc_ecma_codegen_tree.specs.declared.ts_members.TsInterfaceBody.{TsInterfaceBody}
use Rattle.swc_ecma_codegen_tree.specs.declared.ts_members.TsMethodSignature.{TsMethodSignature}
use Rattle.swc_ecma_codegen_tree.specs.declared.ts_members.TsPropertySignature.{TsPropertySignature}
use Rattle.swc_ecma_codegen_tree.specs.declared.ts_members.TsSetterSignature.{TsSetterSignature}
use Rattle.swc_ecma_codegen_tree.specs.declared.ts_members.TsTypeElement.{TsTypeElement}
use Rattle.swc_ecma_codegen_tree.specs.declared.ts_members.TsTypeElement.TheVariants as elements
use Rattle.swc_ecma_codegen_grammar.specs.Phrases.{Phrase, ◌>◌, word, mark, ending, in_order, listed}
use Rattle.swc_ecma_codegen_grammar.specs.AnnotationPhrases.{annotation, question, type_params}
use Rattle.swc_ecma_codegen_grammar.specs.FunctionPhrases.{word_if}
use Rattle.swc_ecma_codegen_grammar.specs.PatPhrases.{value_at}
use Rattle.swc_ecma_codegen_grammar.specs.declared.roles.Role.{Role}
use Rattle.swc_ecma_codegen_grammar.specs.declared.roles.Role.TheVariants.{SignatureParameter, InterfaceBody}

-- `a` or `[a]`
unfoldable pub signature_key : {X : Type 0} → (X → Role → Phrase) → Bool → ExprBox X → Phrase
signature_key f computed n = if computed then (mark (codes "[") > value_at f n > mark (codes "]")) else value_at f n

-- a parameter that a link holds
abbrev pub signature_param_at : {X : Type 0} → (X → Role → Phrase) → TsFnParamBox X → Phrase
signature_param_at f n = f n.node.value SignatureParameter

-- `a: A, b: B` of `(a: A, b: B): C`
abbrev pub signature_params : {X : Type 0} → (X → Role → Phrase) → List (TsFnParamBox X) → Phrase
signature_params f ns = listed (codes ",") (map (signature_param_at f) ns)

-- `<A>(a: A): B`
unfoldable pub ts_call_signature_decl : {X : Type 0} → (X → Role → Phrase) → TsCallSignatureDecl X → Phrase
ts_call_signature_decl f n =
    type_params f n.type_params > mark (codes "(") > signature_params f n.params.items > mark (codes ")") > annotation f n.type_ann

-- `new <A>(a: A): B`
unfoldable pub ts_construct_signature_decl : {X : Type 0} → (X → Role → Phrase) → TsConstructSignatureDecl X → Phrase
ts_construct_signature_decl f n =
    word (codes "new") > type_params f n.type_params > mark (codes "(") > signature_params f n.params.items > mark (codes ")") > annotation f n.type_ann

-- `readonly a?: B`
unfoldable pub ts_property_signature : {X : Type 0} → (X → Role → Phrase) → TsPropertySignature X → Phrase
ts_property_signature f n =
    word_if n.readonly (word (codes "readonly")) > signature_key f n.computed n.key > question n.optional > annotation f n.type_ann

-- `get a(): B`
unfoldable pub ts_getter_signature : {X : Type 0} → (X → Role → Phrase) → TsGetterSignature X → Phrase
ts_getter_signature f n =
    word (codes "get") > signature_key f n.computed n.key > mark (codes "(") > mark (codes ")") > annotation f n.type_ann

-- `set a(b: C)`
unfoldable pub ts_setter_signature : {X : Type 0} → (X → Role → Phrase) → TsSetterSignature X → Phrase
ts_setter_signature f n =
    word (codes "set") > signature_key f n.computed n.key > mark (codes "(") > signature_param_at f n.param > mark (codes ")")

-- `a?<B>(b: B): C`
unfoldable pub ts_method_signature : {X : Type 0} → (X → Role → Phrase) → TsMethodSignature X → Phrase
ts_method_signature f n =
    signature_key f n.computed n.key > question n.optional > type_params f n.type_params
    > mark (codes "(") > signature_params f n.params.items > mark (codes ")") > annotation f n.type_ann

-- `static readonly [a: string]: B`
unfoldable pub ts_index_signature : {X : Type 0} → (X → Role → Phrase) → TsIndexSignature X → Phrase
ts_index_signature f n =
    word_if n.is_static (word (codes "static")) > word_if n.readonly (word (codes "readonly"))
    > mark (codes "[") > signature_params f n.params.items > mark (codes "]") > annotation f n.type_ann

-- one of them, without the semicolon behind it
unfoldable pub ts_signature : {X : Type 0} → (X → Role → Phrase) → TsTypeElement X → Phrase
ts_signature f (elements.TsCallSignatureDecl n) = ts_call_signature_decl f n
ts_signature f (elements.TsConstructSignatureDecl n) = ts_construct_signature_decl f n
ts_signature f (elements.TsPropertySignature n) = ts_property_signature f n
ts_signature f (elements.TsGetterSignature n) = ts_getter_signature f n
ts_signature f (elements.TsSetterSignature n) = ts_setter_signature f n
ts_signature f (elements.TsMethodSignature n) = ts_method_signature f n
ts_signature f (elements.TsIndexSignature n) = ts_index_signature f n

-- `a: B;`
unfoldable pub ts_type_element : {X : Type 0} → (X → Role → Phrase) → TsTypeElement X → Phrase
ts_type_element f n = ts_signature f n > ending

-- `{ a: B; }`
unfoldable pub ts_interface_body : {X : Type 0} → (X → Role → Phrase) → TsInterfaceBody X → Phrase
ts_interface_body f n = mark (codes "{") > in_order (map (ts_type_element f) n.body.items) > mark (codes "}")

-- one that a link holds
abbrev pub interface_body_at : {X : Type 0} → (X → Role → Phrase) → TsInterfaceBodyBox X → Phrase
interface_body_at f n = f n.node.value InterfaceBody
