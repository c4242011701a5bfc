-- What is written of classes.
use Rattle.std.specs.Prelude.{ℕ, Bool, true, ◌||◌, if◌then◌else◌, List, [], ◌∷◌, map, codes, Option, Some, None}
use Rattle.swc_ecma_codegen_common.specs.declared.positions.Span.{Span}
use Rattle.swc_ecma_codegen_tree.specs.Links.{BlockStmtBox, ExprBox, TsTypeParamInstantiationBox}
use Rattle.swc_ecma_codegen_tree.specs.declared.classes.Accessibility.{Accessibility}
use Rattle.swc_ecma_codegen_tree.specs.declared.classes.Class as classes
use Rattle.swc_ecma_codegen_tree.specs.declared.classes.ClassMember as class_members
use Rattle.swc_ecma_codegen_tree.specs.declared.classes.ClassMember.TheVariants as members
use Rattle.swc_ecma_codegen_tree.specs.declared.classes.Constructor.{Constructor}
use Rattle.swc_ecma_codegen_tree.specs.declared.classes.ParamOrTsParamProp.{ParamOrTsParamProp}
use Rattle.swc_ecma_codegen_tree.specs.declared.classes.ParamOrTsParamProp.TheVariants as params
use Rattle.swc_ecma_codegen_tree.specs.declared.classes.TsParamProp.{TsParamProp}
use Rattle.swc_ecma_codegen_tree.specs.declared.classes.TsParamPropParam.{TsParamPropParam}
use Rattle.swc_ecma_codegen_tree.specs.declared.classes.TsParamPropParam.TheVariants as param_props
use Rattle.swc_ecma_codegen_tree.specs.declared.classes.ClassMethod.{ClassMethod}
use Rattle.swc_ecma_codegen_tree.specs.declared.classes.MethodKind.{MethodKind}
use Rattle.swc_ecma_codegen_tree.specs.declared.classes.MethodKind.TheVariants.{Method, Getter, Setter}
use Rattle.swc_ecma_codegen_tree.specs.declared.classes.ClassProp.{ClassProp}
use Rattle.swc_ecma_codegen_tree.specs.declared.classes.PrivateMethod.{PrivateMethod}
use Rattle.swc_ecma_codegen_tree.specs.declared.classes.PrivateProp.{PrivateProp}
use Rattle.swc_ecma_codegen_tree.specs.declared.classes.AutoAccessor.{AutoAccessor}
use Rattle.swc_ecma_codegen_tree.specs.declared.classes.Key.{Key}
use Rattle.swc_ecma_codegen_tree.specs.declared.classes.Key.TheVariants as keys
use Rattle.swc_ecma_codegen_tree.specs.declared.classes.StaticBlock.{StaticBlock}
use Rattle.swc_ecma_codegen_tree.specs.declared.decls.ClassDecl.{ClassDecl}
use Rattle.swc_ecma_codegen_tree.specs.declared.stmts.EmptyStmt.{EmptyStmt}
use Rattle.swc_ecma_codegen_tree.specs.declared.ts_decls.TsExprWithTypeArgs.{TsExprWithTypeArgs}
use Rattle.swc_ecma_codegen_tree.specs.declared.ts_members.TsIndexSignature.{TsIndexSignature}
use Rattle.swc_ecma_codegen_grammar.specs.ClassPhrases.{accessibility_of}
use Rattle.swc_ecma_codegen_tokens.specs.Run.{Part}
use Rattle.swc_ecma_codegen_tokens.specs.Lists.{list}
use Rattle.swc_ecma_codegen_tokens.specs.Words.{keyword, punct, question, semi, space, formatting_space, start_of, end_of, last_of, leading_comments}
use Rattle.swc_ecma_codegen_emit.specs.declared.nodes.Context.TheVariants.{Plain, FieldValue}
use Rattle.swc_ecma_codegen_emit.specs.declared.nodes.Piece.TheVariants.{ClassHead, ClassWord, MethodHead, DeclarationTail, StaticHead, MethodDecorators, MethodTail}
use Rattle.swc_ecma_codegen_emit.specs.Places.{Place, Whole, Only}
use Rattle.swc_ecma_codegen_emit.specs.Answers.{Answers}
use Rattle.swc_ecma_codegen_emit.specs.FunctionExprs.{comma_list_format}
use Rattle.swc_ecma_codegen_emit.specs.Functions.{decorator, decorator_lines, decorators_format, decorator_place, param}
use Rattle.swc_ecma_codegen_emit.specs.Exprs.{blank, ident, private_name}
use Rattle.swc_ecma_codegen_emit.specs.Annotations.{field_annotation, type_args, type_params, word_before}
use Rattle.swc_ecma_codegen_emit.specs.Lists.{child_of}
use Rattle.swc_ecma_codegen_emit.specs.Names.{binding_ident}
use Rattle.swc_ecma_codegen_emit.specs.Pats.{assign_pat, initializer}
use Rattle.swc_ecma_codegen_emit.specs.TsDecls.{declare_word, extended_place, ts_expr_with_type_args}
use Rattle.swc_ecma_codegen_emit.specs.TsMembers.{ts_index_signature}

-- `ClassMembers`
abbrev pub class_members_format : ℕ
class_members_format = 65

-- `extends A<B>`, minified `extends(A)`
unfoldable pub heritage : {X : Type 0} → (X → Answers) → (X → Place → Part) → Option (ExprBox X) → Option (TsTypeParamInstantiationBox X) → Part
heritage asks items None args rest = rest
heritage asks items (Some n) args rest = space (keyword None (codes "extends") (blank (asks n.node.value).starts (items n.node.value (Whole Plain) (type_args items Plain args rest))))

abbrev pub member_list : {X : Type 0} → (X → Answers) → (X → Place → Part) → classes.Class X → Part
member_list asks items n = list class_members_format n.span (map (child_of (λ m. (asks m.node.value).place) (λ m place. items m.node.value place)) n.body.items)

-- `ClassHeritageClauses`
abbrev pub implemented_format : ℕ
implemented_format = 272

abbrev pub implemented_list : {X : Type 0} → (X → Place → Part) → Span → List (TsExprWithTypeArgs X) → Part
implemented_list items span ns = list implemented_format span (map (child_of extended_place (λ n place. ts_expr_with_type_args items n)) ns)

-- ` implements A<B>, C`
unfoldable pub some_implements : {X : Type 0} → (X → Place → Part) → Span → List (TsExprWithTypeArgs X) → Part
some_implements items span ns rest = space (keyword None (codes "implements") (space (implemented_list items span ns rest)))

unfoldable pub implements_clause : {X : Type 0} → (X → Place → Part) → Span → List (TsExprWithTypeArgs X) → Part
implements_clause items span [] rest = rest
implements_clause items span (n ∷ ns) rest = some_implements items span (n ∷ ns) rest

-- `{ a; }`
unfoldable pub class_body : {X : Type 0} → (X → Answers) → (X → Place → Part) → classes.Class X → Part
class_body asks items n rest = punct (codes "{") (member_list asks items n (last_of n.span (punct (codes "}") rest)))

-- `<A> extends B<C> implements D { e; }`
unfoldable pub class_tail : {X : Type 0} → (X → Answers) → (X → Place → Part) → classes.Class X → Part
class_tail asks items n rest =
    type_params items n.type_params
    (heritage asks items n.super_class n.super_type_params
    (implements_clause items n.span n.implements.items
    (formatting_space (class_body asks items n rest))))

-- `abstract class`
unfoldable pub class_word : {X : Type 0} → classes.Class X → Part
class_word n rest = word_before n.is_abstract (codes "abstract") (keyword None (codes "class") rest)

-- a class, or what of it stands before its name
unfoldable pub class : {X : Type 0} → (X → Answers) → (X → Place → Part) → classes.Class X → Place → Part
class asks items n (Only ClassHead) rest = decorator_lines items n.decorators.items rest
class asks items n (Only ClassWord) rest = class_word n rest
class asks items n place rest = class_tail asks items n rest

-- `declare @a abstract class B { c; }`
unfoldable pub class_decl : {X : Type 0} → (X → Answers) → (X → Place → Part) → ClassDecl X → Part
class_decl asks items n rest =
    let class = n.class.node.value in
    leading_comments (asks class).place.lo
    (start_of (asks class).place
    (declare_word n.declare (items class (Only ClassHead) (items class (Only ClassWord) (space (ident n.ident (items class (Whole Plain) rest)))))))

-- ---- members

-- `private` and a blank, where it is so
unfoldable pub accessibility_word : Option Accessibility → Part
accessibility_word None rest = rest
accessibility_word (Some a) rest = keyword None (accessibility_of a) (space rest)

-- `a` or `a = b` of `constructor(private a = b){}`
unfoldable pub ts_param_prop_param : {X : Type 0} → (X → Place → Part) → TsParamPropParam X → Part
ts_param_prop_param items (param_props.Ident n) rest = leading_comments n.id.span.lo (binding_ident items n rest)
ts_param_prop_param items (param_props.Assign n) rest = leading_comments n.span.lo (assign_pat items n rest)

-- a parameter that is a field too: `private @a override readonly b`
unfoldable pub ts_param_prop : {X : Type 0} → (X → Place → Part) → TsParamProp X → Part
ts_param_prop items n rest =
    leading_comments n.span.lo
    (accessibility_word n.accessibility
    (decorator_lines items n.decorators.items
    (word_before n.is_override (codes "override") (word_before n.readonly (codes "readonly") (ts_param_prop_param items n.param rest)))))

unfoldable pub constructor_param : {X : Type 0} → (X → Answers) → (X → Place → Part) → ParamOrTsParamProp X → Part
constructor_param asks items (params.Param n) rest = param asks items n rest
constructor_param asks items (params.TsParamProp n) rest = ts_param_prop items n rest

unfoldable pub constructor_param_place : {X : Type 0} → ParamOrTsParamProp X → Span
constructor_param_place (params.Param n) = n.span
constructor_param_place (params.TsParamProp n) = n.span

-- `{ a; }` without a blank, or the semicolon in its place
unfoldable pub constructor_body : {X : Type 0} → (X → Place → Part) → Option (BlockStmtBox X) → Part
constructor_body items None rest = semi rest
constructor_body items (Some n) rest = items n.node.value (Whole Plain) rest

abbrev pub constructor_params : {X : Type 0} → (X → Answers) → (X → Place → Part) → Constructor X → Part
constructor_params asks items n = list comma_list_format n.span (map (child_of constructor_param_place (λ p place. constructor_param asks items p)) n.params.items)

-- `(a){ b; }`
unfoldable pub constructor_tail : {X : Type 0} → (X → Answers) → (X → Place → Part) → Constructor X → Part
constructor_tail asks items n rest = punct (codes "(") (constructor_params asks items n (punct (codes ")") (constructor_body items n.body rest)))

unfoldable pub constructor_word : Part
constructor_word rest = keyword None (codes "constructor") rest

-- `private constructor(a){ b; }`
unfoldable pub class_constructor : {X : Type 0} → (X → Answers) → (X → Place → Part) → Constructor X → Part
class_constructor asks items n rest =
    leading_comments n.span.lo (start_of n.span (accessibility_word n.accessibility (constructor_word (constructor_tail asks items n rest))))

-- `static` and a blank, where it is so
unfoldable pub static_word : Bool → Part
static_word wanted rest = if wanted then keyword None (codes "static") (space rest) else rest

-- `get` or `set`, and the blank after it: `get a() {}`, minified `get[a](){}`
unfoldable pub accessor_word : List ℕ → Bool → Part
accessor_word text starts rest = keyword None text (blank starts rest)

-- `abstract override `, where it is so
unfoldable pub method_modifiers : Bool → Bool → Part
method_modifiers is_abstract is_override rest = word_before is_abstract (codes "abstract") (word_before is_override (codes "override") rest)

-- `async *` of a static method, behind that word: where another stands between, that has a blank before it
unfoldable pub static_method : {X : Type 0} → (X → Answers) → (X → Place → Part) → ClassMethod X → Part
static_method asks items n rest =
    if n.is_abstract || n.is_override then space (method_modifiers n.is_abstract n.is_override (items n.function.node.value (Only MethodHead) rest))
    else items n.function.node.value (Only (StaticHead (asks n.key.node.value).starts)) rest

-- `static abstract override async *` of a method
unfoldable pub method_word : {X : Type 0} → (X → Answers) → (X → Place → Part) → ClassMethod X → Part
method_word asks items n rest =
    if n.is_static then keyword None (codes "static") (static_method asks items n rest)
    else method_modifiers n.is_abstract n.is_override (items n.function.node.value (Only MethodHead) rest)

-- `static abstract override ` of a getter or a setter
unfoldable pub accessor_words : {X : Type 0} → ClassMethod X → Part
accessor_words n rest = static_word n.is_static (method_modifiers n.is_abstract n.is_override rest)

-- `static async *`, `static get`
unfoldable pub method_kind : {X : Type 0} → (X → Answers) → (X → Place → Part) → MethodKind → ClassMethod X → Part
method_kind asks items Method n rest = method_word asks items n rest
method_kind asks items Getter n rest = accessor_words n (accessor_word (codes "get") (asks n.key.node.value).starts rest)
method_kind asks items Setter n rest = accessor_words n (accessor_word (codes "set") (asks n.key.node.value).starts rest)

-- `b?(c) { d; }`
unfoldable pub method_rest : {X : Type 0} → (X → Place → Part) → ClassMethod X → Part
method_rest items n rest = items n.key.node.value (Whole Plain) (question n.is_optional (items n.function.node.value (Only MethodTail) rest))

-- `@a private static async *b?(c) { d; }`
unfoldable pub class_method : {X : Type 0} → (X → Answers) → (X → Place → Part) → ClassMethod X → Part
class_method asks items n rest =
    leading_comments n.span.lo
    (leading_comments (asks n.key.node.value).place.lo
    (start_of n.span
    (items n.function.node.value (Only MethodDecorators) (accessibility_word n.accessibility (method_kind asks items n.kind n (method_rest items n rest))))))

-- what stands between the modifiers of a private method and its name, with blanks whatever begins it: `get #a() {}`
unfoldable pub private_kind : {X : Type 0} → (X → Place → Part) → MethodKind → PrivateMethod X → Part
private_kind items Method n rest = items n.function.node.value (Only MethodHead) rest
private_kind items Getter n rest = accessor_word (codes "get") true rest
private_kind items Setter n rest = accessor_word (codes "set") true rest

-- `static abstract override ` of a private method
unfoldable pub private_words : {X : Type 0} → PrivateMethod X → Part
private_words n rest = static_word n.is_static (method_modifiers n.is_abstract n.is_override rest)

-- `#b?(c) { d; }`
unfoldable pub private_rest : {X : Type 0} → (X → Place → Part) → PrivateMethod X → Part
private_rest items n rest = private_name n.key (question n.is_optional (items n.function.node.value (Only DeclarationTail) rest))

-- `@a static async *#b?(c) { d; }`
unfoldable pub private_method : {X : Type 0} → (X → Place → Part) → PrivateMethod X → Part
private_method items n rest =
    leading_comments n.span.lo
    (start_of n.span
    (items n.function.node.value (Only MethodDecorators)
    (accessibility_word n.accessibility (private_words n (private_kind items n.kind n (private_rest items n rest))))))

-- `= a` of `class B { c = a; }`; a sequence stands in parentheses, `= (a, b)`
unfoldable pub prop_value : {X : Type 0} → (X → Place → Part) → Option (ExprBox X) → Part
prop_value items None rest = rest
prop_value items (Some n) rest = formatting_space (punct (codes "=") (formatting_space (items n.node.value (Whole FieldValue) rest)))

-- `declare private static abstract override readonly ` of a field
unfoldable pub prop_modifiers : {X : Type 0} → ClassProp X → Part
prop_modifiers n rest =
    declare_word n.declare
    (accessibility_word n.accessibility
    (static_word n.is_static
    (word_before n.is_abstract (codes "abstract") (word_before n.is_override (codes "override") (word_before n.readonly (codes "readonly") rest)))))

-- `b!: A = c;`
unfoldable pub prop_tail : {X : Type 0} → (X → Place → Part) → ClassProp X → Part
prop_tail items n rest =
    items n.key.node.value (Whole Plain)
    (question n.is_optional (field_annotation items n.definite n.type_ann (prop_value items n.value (semi (end_of n.span rest)))))

-- `@a private static b!: A = c;`
unfoldable pub class_prop : {X : Type 0} → (X → Place → Part) → ClassProp X → Part
class_prop items n rest =
    leading_comments n.span.lo (start_of n.span (decorator_lines items n.decorators.items (prop_modifiers n (prop_tail items n rest))))

abbrev pub private_decorators : {X : Type 0} → (X → Place → Part) → PrivateProp X → Part
private_decorators items n = list decorators_format n.span (map (child_of decorator_place (λ d place. decorator items d)) n.decorators.items)

-- `private static override readonly ` of a private field
unfoldable pub private_modifiers : {X : Type 0} → PrivateProp X → Part
private_modifiers n rest =
    accessibility_word n.accessibility
    (static_word n.is_static (word_before n.is_override (codes "override") (word_before n.readonly (codes "readonly") rest)))

-- `#b!: A = c;`
unfoldable pub private_prop_tail : {X : Type 0} → (X → Place → Part) → PrivateProp X → Part
private_prop_tail items n rest =
    private_name n.key
    (question n.is_optional (field_annotation items n.definite n.type_ann (prop_value items n.value (semi (end_of n.span rest)))))

-- `@a static #b!: A = c;`
unfoldable pub private_prop : {X : Type 0} → (X → Place → Part) → PrivateProp X → Part
private_prop items n rest =
    leading_comments n.span.lo (start_of n.span (private_decorators items n (private_modifiers n (private_prop_tail items n rest))))

unfoldable pub accessor_key : {X : Type 0} → (X → Place → Part) → Key X → Part
accessor_key items (keys.Public n) rest = items n.node.value (Whole Plain) rest
accessor_key items (keys.Private n) rest = private_name n rest

abbrev pub accessor_decorators : {X : Type 0} → (X → Place → Part) → AutoAccessor X → Part
accessor_decorators items n = list decorators_format n.span (map (child_of decorator_place (λ d place. decorator items d)) n.decorators.items)

-- `private static abstract override ` of a field with `accessor`
unfoldable pub accessor_modifiers : {X : Type 0} → AutoAccessor X → Part
accessor_modifiers n rest =
    accessibility_word n.accessibility
    (static_word n.is_static (word_before n.is_abstract (codes "abstract") (word_before n.is_override (codes "override") rest)))

-- `b!: A = c;`
unfoldable pub accessor_tail : {X : Type 0} → (X → Place → Part) → AutoAccessor X → Part
accessor_tail items n rest = accessor_key items n.key (field_annotation items n.definite n.type_ann (initializer items n.value (semi rest)))

-- `@a static accessor b!: A = c;`
unfoldable pub auto_accessor : {X : Type 0} → (X → Place → Part) → AutoAccessor X → Part
auto_accessor items n rest = accessor_decorators items n (accessor_modifiers n (keyword None (codes "accessor") (space (accessor_tail items n rest))))

-- `static{ a; }`
unfoldable pub static_block : {X : Type 0} → (X → Place → Part) → StaticBlock X → Part
static_block items n rest = leading_comments n.span.lo (start_of n.span (keyword None (codes "static") (items n.body.node.value (Whole Plain) (end_of n.span rest))))

unfoldable pub empty_member : EmptyStmt → Part
empty_member n rest = leading_comments n.span.lo (punct (codes ";") rest)

-- `[a: b]: c;`
unfoldable pub index_member : {X : Type 0} → (X → Answers) → (X → Place → Part) → TsIndexSignature X → Part
index_member asks items n rest = ts_index_signature asks items n (semi rest)

unfoldable pub class_member : {X : Type 0} → (X → Answers) → (X → Place → Part) → class_members.ClassMember X → Part
class_member asks items (members.Constructor n) rest = class_constructor asks items n rest
class_member asks items (members.Method n) rest = class_method asks items n rest
class_member asks items (members.PrivateMethod n) rest = private_method items n rest
class_member asks items (members.ClassProp n) rest = class_prop items n rest
class_member asks items (members.PrivateProp n) rest = private_prop items n rest
class_member asks items (members.Empty n) rest = empty_member n rest
class_member asks items (members.StaticBlock n) rest = static_block items n rest
class_member asks items (members.AutoAccessor n) rest = auto_accessor items n rest
class_member asks items (members.TsIndexSignature n) rest = index_member asks items n rest
