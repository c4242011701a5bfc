-- Classes: one production a node. `f` says what is read of what a link holds, in its role. ECMA-262, section 15.7; what TypeScript adds,
-- types, modifiers, what a class implements and index signatures, in the handbook's section "Classes".
use Rattle.std.specs.Prelude.{ℕ, Bool, ◌||◌, is_none, if◌then◌else◌, List, [], ◌∷◌, map, codes, Option, Some, None}
use Rattle.swc_ecma_codegen_tree.specs.Links.{ClassMemberBox, ExprBox, FunctionBox, TsTypeParamInstantiationBox}
use Rattle.swc_ecma_codegen_tree.specs.declared.classes.Accessibility.{Accessibility}
use Rattle.swc_ecma_codegen_tree.specs.declared.classes.Accessibility.TheVariants.{Public, Protected, Private}
use Rattle.swc_ecma_codegen_tree.specs.declared.classes.Class as classes
use Rattle.swc_ecma_codegen_tree.specs.declared.classes.ClassMember as class_members
use Rattle.swc_ecma_codegen_tree.specs.declared.classes.ClassMember.TheVariants as members
use Rattle.swc_ecma_codegen_tree.specs.declared.classes.Constructor.{Constructor}
use Rattle.swc_ecma_codegen_tree.specs.declared.classes.ParamOrTsParamProp.{ParamOrTsParamProp}
use Rattle.swc_ecma_codegen_tree.specs.declared.classes.ParamOrTsParamProp.TheVariants as params
use Rattle.swc_ecma_codegen_tree.specs.declared.classes.TsParamProp.{TsParamProp}
use Rattle.swc_ecma_codegen_tree.specs.declared.classes.TsParamPropParam.{TsParamPropParam}
use Rattle.swc_ecma_codegen_tree.specs.declared.classes.TsParamPropParam.TheVariants as param_props
use Rattle.swc_ecma_codegen_tree.specs.declared.classes.ClassMethod.{ClassMethod}
use Rattle.swc_ecma_codegen_tree.specs.declared.classes.MethodKind.{MethodKind}
use Rattle.swc_ecma_codegen_tree.specs.declared.classes.MethodKind.TheVariants.{Method, Getter, Setter}
use Rattle.swc_ecma_codegen_tree.specs.declared.classes.ClassProp.{ClassProp}
use Rattle.swc_ecma_codegen_tree.specs.declared.classes.PrivateMethod.{PrivateMethod}
use Rattle.swc_ecma_codegen_tree.specs.declared.classes.PrivateProp.{PrivateProp}
use Rattle.swc_ecma_codegen_tree.specs.declared.classes.AutoAccessor.{AutoAccessor}
use Rattle.swc_ecma_codegen_tree.specs.declared.classes.Key.{Key}
use Rattle.swc_ecma_codegen_tree.specs.declared.classes.Key.TheVariants as keys
use Rattle.swc_ecma_codegen_tree.specs.declared.classes.StaticBlock.{StaticBlock}
use Rattle.swc_ecma_codegen_tree.specs.declared.decls.ClassDecl.{ClassDecl}
use Rattle.swc_ecma_codegen_tree.specs.declared.decls.Decorator.{Decorator}
use Rattle.swc_ecma_codegen_tree.specs.declared.decls.Function as functions
use Rattle.swc_ecma_codegen_tree.specs.declared.exprs.ClassExpr.{ClassExpr}
use Rattle.swc_ecma_codegen_tree.specs.declared.ts_decls.TsExprWithTypeArgs.{TsExprWithTypeArgs}
use Rattle.swc_ecma_codegen_grammar.specs.Phrases.{Phrase, Never, Nothing, ◌>◌, where_, word, mark, same_line, ending, listed, in_order}
use Rattle.swc_ecma_codegen_grammar.specs.AnnotationPhrases.{annotation, field_annotation, question, type_args, type_params}
use Rattle.swc_ecma_codegen_grammar.specs.MemberPhrases.{ts_index_signature}
use Rattle.swc_ecma_codegen_grammar.specs.NamePhrases.{ident, binding_ident, private_name}
use Rattle.swc_ecma_codegen_grammar.specs.PatPhrases.{value_at, prop_name_at, initializer, assign_pat}
use Rattle.swc_ecma_codegen_grammar.specs.FunctionPhrases.{block_at, word_if, decorator, param, function_body, optional_name}
use Rattle.swc_ecma_codegen_grammar.specs.TsDeclPhrases.{declare_word, ts_expr_with_type_args}
use Rattle.swc_ecma_codegen_grammar.specs.declared.roles.Role.{Role}
use Rattle.swc_ecma_codegen_grammar.specs.declared.roles.Role.TheVariants.{ClassHead, ClassWord, ClassTail, Member, MethodHead, MethodDecorators, MethodTail, AccessorTail, FieldValue}

-- a member that a link holds
abbrev pub member_at : {X : Type 0} → (X → Role → Phrase) → ClassMemberBox X → Phrase
member_at f n = f n.node.value Member

-- a proposal: `@a @b`
unfoldable pub decorators : {X : Type 0} → (X → Role → Phrase) → List (Decorator X) → Phrase
decorators f ns = in_order (map (decorator f) ns)

-- what of a class stands before the word: its decorators
unfoldable pub class_head : {X : Type 0} → (X → Role → Phrase) → classes.Class X → Phrase
class_head f n = decorators f n.decorators.items

-- `class`, `abstract class`
unfoldable pub class_word : {X : Type 0} → classes.Class X → Phrase
class_word n = word_if n.is_abstract (word (codes "abstract")) > word (codes "class")

-- `extends A<B>`; no source text spells arguments without a class
unfoldable pub heritage : {X : Type 0} → (X → Role → Phrase) → Option (ExprBox X) → Option (TsTypeParamInstantiationBox X) → Phrase
heritage f None args = where_ (is_none args) Nothing
heritage f (Some n) args = word (codes "extends") > value_at f n > type_args f args

-- `implements A<B>, C`, where there is such
unfoldable pub implements_clause : {X : Type 0} → (X → Role → Phrase) → List (TsExprWithTypeArgs X) → Phrase
implements_clause f [] = Nothing
implements_clause f (n ∷ ns) = word (codes "implements") > listed (codes ",") (map (ts_expr_with_type_args f) (n ∷ ns))

-- `<A> extends B<C> implements D { e; }`
unfoldable pub class_tail : {X : Type 0} → (X → Role → Phrase) → classes.Class X → Phrase
class_tail f n =
    type_params f n.type_params > heritage f n.super_class n.super_type_params > implements_clause f n.implements.items
    > mark (codes "{") > in_order (map (member_at f) n.body.items) > mark (codes "}")

-- `declare @a abstract class B {}`
unfoldable pub class_decl : {X : Type 0} → (X → Role → Phrase) → ClassDecl X → Phrase
class_decl f n = declare_word n.declare > f n.class.node.value ClassHead > f n.class.node.value ClassWord > ident n.ident > f n.class.node.value ClassTail

unfoldable pub class_expr : {X : Type 0} → (X → Role → Phrase) → ClassExpr X → Phrase
class_expr f n = f n.class.node.value ClassHead > f n.class.node.value ClassWord > optional_name n.ident > f n.class.node.value ClassTail

-- ---- members

unfoldable pub accessibility_of : Accessibility → List ℕ
accessibility_of Public = codes "public"
accessibility_of Protected = codes "protected"
accessibility_of Private = codes "private"

-- `public`, `protected` or `private`, where there is one
unfoldable pub accessibility : Option Accessibility → Phrase
accessibility None = Nothing
accessibility (Some a) = word (accessibility_of a)

-- `a` or `a = b` of `constructor(private a = b) {}`
unfoldable pub ts_param_prop_param : {X : Type 0} → (X → Role → Phrase) → TsParamPropParam X → Phrase
ts_param_prop_param f (param_props.Ident n) = binding_ident f n
ts_param_prop_param f (param_props.Assign n) = assign_pat f n

-- a parameter that is a field too: `private @a override readonly b`
unfoldable pub ts_param_prop : {X : Type 0} → (X → Role → Phrase) → TsParamProp X → Phrase
ts_param_prop f n =
    accessibility n.accessibility > decorators f n.decorators.items
    > word_if n.is_override (word (codes "override")) > word_if n.readonly (word (codes "readonly")) > ts_param_prop_param f n.param

unfoldable pub constructor_param : {X : Type 0} → (X → Role → Phrase) → ParamOrTsParamProp X → Phrase
constructor_param f (params.Param n) = param f n
constructor_param f (params.TsParamProp n) = ts_param_prop f n

-- `private constructor(a) { b; }`, or `constructor(a);`
unfoldable pub class_constructor : {X : Type 0} → (X → Role → Phrase) → Constructor X → Phrase
class_constructor f n =
    accessibility n.accessibility > word (codes "constructor")
    > mark (codes "(") > listed (codes ",") (map (constructor_param f) n.params.items) > mark (codes ")") > function_body f n.body

-- what of a method stands before its modifiers, and `(a) { b; }`, or `(a);`
unfoldable pub method_decorators : {X : Type 0} → (X → Role → Phrase) → functions.Function X → Phrase
method_decorators f n = decorators f n.decorators.items

unfoldable pub method_tail : {X : Type 0} → (X → Role → Phrase) → functions.Function X → Phrase
method_tail f n =
    type_params f n.type_params > mark (codes "(") > listed (codes ",") (map (param f) n.params.items) > mark (codes ")") > annotation f n.return_type
    > function_body f n.body

-- the same of a getter or a setter, which is neither async nor a generator
unfoldable pub accessor_tail : {X : Type 0} → (X → Role → Phrase) → functions.Function X → Phrase
accessor_tail f n = if n.is_async || n.is_generator then Never else method_tail f n

unfoldable pub tail_role : MethodKind → Role
tail_role Method = MethodTail
tail_role Getter = AccessorTail
tail_role Setter = AccessorTail

-- section 15.4: `async *`, `get` or `set`
unfoldable pub kind_head : {X : Type 0} → (X → Role → Phrase) → MethodKind → FunctionBox X → Phrase
kind_head f Method n = f n.node.value MethodHead
kind_head f Getter n = word (codes "get")
kind_head f Setter n = word (codes "set")

-- `static abstract override async *`, `static get`
unfoldable pub method_kind : {X : Type 0} → (X → Role → Phrase) → (is_static is_abstract is_override : Bool) → MethodKind → FunctionBox X → Phrase
method_kind f is_static is_abstract is_override kind n =
    word_if is_static (word (codes "static")) > word_if is_abstract (word (codes "abstract")) > word_if is_override (word (codes "override"))
    > kind_head f kind n

-- `private static async *a?(b) { c; }`
unfoldable pub class_method : {X : Type 0} → (X → Role → Phrase) → ClassMethod X → Phrase
class_method f n =
    f n.function.node.value MethodDecorators > accessibility n.accessibility
    > method_kind f n.is_static n.is_abstract n.is_override n.kind n.function
    > prop_name_at f n.key > question n.is_optional > f n.function.node.value (tail_role n.kind)

-- `static async *#a?(b) { c; }`
unfoldable pub private_method : {X : Type 0} → (X → Role → Phrase) → PrivateMethod X → Phrase
private_method f n =
    f n.function.node.value MethodDecorators > accessibility n.accessibility
    > method_kind f n.is_static n.is_abstract n.is_override n.kind n.function
    > private_name n.key > question n.is_optional > f n.function.node.value (tail_role n.kind)

-- `= a` of `class B { c = a; }`; a sequence stands in parentheses, `= (a, b)`
unfoldable pub prop_value : {X : Type 0} → (X → Role → Phrase) → Option (ExprBox X) → Phrase
prop_value f None = Nothing
prop_value f (Some n) = mark (codes "=") > f n.node.value FieldValue

-- `declare private static abstract override readonly` of a field
unfoldable pub prop_modifiers : {X : Type 0} → ClassProp X → Phrase
prop_modifiers n =
    declare_word n.declare > accessibility n.accessibility > word_if n.is_static (word (codes "static"))
    > word_if n.is_abstract (word (codes "abstract")) > word_if n.is_override (word (codes "override")) > word_if n.readonly (word (codes "readonly"))

-- `private static readonly a!: b = c;`
unfoldable pub class_prop : {X : Type 0} → (X → Role → Phrase) → ClassProp X → Phrase
class_prop f n =
    decorators f n.decorators.items > prop_modifiers n > prop_name_at f n.key
    > question n.is_optional > field_annotation f n.definite n.type_ann > prop_value f n.value > ending

-- `private static override readonly` of a private field, whose first word no checker lets stand
unfoldable pub private_modifiers : {X : Type 0} → PrivateProp X → Phrase
private_modifiers n =
    accessibility n.accessibility > word_if n.is_static (word (codes "static"))
    > word_if n.is_override (word (codes "override")) > word_if n.readonly (word (codes "readonly"))

-- `static readonly #a!: b = c;`
unfoldable pub private_prop : {X : Type 0} → (X → Role → Phrase) → PrivateProp X → Phrase
private_prop f n =
    decorators f n.decorators.items > private_modifiers n > private_name n.key
    > question n.is_optional > field_annotation f n.definite n.type_ann > prop_value f n.value > ending

unfoldable pub accessor_key : {X : Type 0} → (X → Role → Phrase) → Key X → Phrase
accessor_key f (keys.Public n) = prop_name_at f n
accessor_key f (keys.Private n) = private_name n

-- `private static abstract override` of a field with `accessor`
unfoldable pub accessor_modifiers : {X : Type 0} → AutoAccessor X → Phrase
accessor_modifiers n =
    accessibility n.accessibility > word_if n.is_static (word (codes "static"))
    > word_if n.is_abstract (word (codes "abstract")) > word_if n.is_override (word (codes "override"))

-- a proposal: `private static accessor a!: b = c;`, with no line end behind `accessor`
unfoldable pub auto_accessor : {X : Type 0} → (X → Role → Phrase) → AutoAccessor X → Phrase
auto_accessor f n =
    decorators f n.decorators.items > accessor_modifiers n > word (codes "accessor") > same_line > accessor_key f n.key
    > field_annotation f n.definite n.type_ann > initializer f n.value > ending

-- `static { a; }`
unfoldable pub static_block : {X : Type 0} → (X → Role → Phrase) → StaticBlock X → Phrase
static_block f n = word (codes "static") > block_at f n.body

unfoldable pub class_member : {X : Type 0} → (X → Role → Phrase) → class_members.ClassMember X → Phrase
class_member f (members.Constructor n) = class_constructor f n
class_member f (members.Method n) = class_method f n
class_member f (members.PrivateMethod n) = private_method f n
class_member f (members.ClassProp n) = class_prop f n
class_member f (members.PrivateProp n) = private_prop f n
class_member f (members.Empty n) = mark (codes ";")
class_member f (members.StaticBlock n) = static_block f n
class_member f (members.AutoAccessor n) = auto_accessor f n
class_member f (members.TsIndexSignature n) = ts_index_signature f n > ending
