-- Classes: one production a node, with nonterminals. ECMA-262, section 15.7.
use Rattle.std.specs.Prelude.{Bool, false, ◌||◌, ◌&&◌, not, is_none, codes, string_bytes, bytes_eq, List, [], ◌∷◌, Option, Some, None, if◌then◌else◌}
use Rattle.swc_ecma_codegen_tree.specs.Links.{ClassMemberBox, ExprBox, FunctionBox, TsTypeAnnBox, TsTypeParamInstantiationBox}
use Rattle.swc_ecma_codegen_tree.specs.declared.classes.Accessibility.{Accessibility}
use Rattle.swc_ecma_codegen_tree.specs.declared.classes.AutoAccessor.{AutoAccessor}
use Rattle.swc_ecma_codegen_tree.specs.declared.classes.Class as classes
use Rattle.swc_ecma_codegen_tree.specs.declared.classes.ClassMember as class_members
use Rattle.swc_ecma_codegen_tree.specs.declared.classes.ClassMember.TheVariants as members
use Rattle.swc_ecma_codegen_tree.specs.declared.classes.ClassMethod.{ClassMethod}
use Rattle.swc_ecma_codegen_tree.specs.declared.classes.ClassProp.{ClassProp}
use Rattle.swc_ecma_codegen_tree.specs.declared.classes.Constructor.{Constructor}
use Rattle.swc_ecma_codegen_tree.specs.declared.classes.Key.{Key}
use Rattle.swc_ecma_codegen_tree.specs.declared.classes.Key.TheVariants as keys
use Rattle.swc_ecma_codegen_tree.specs.declared.classes.MethodKind.{MethodKind}
use Rattle.swc_ecma_codegen_tree.specs.declared.classes.MethodKind.TheVariants.{Method, Getter, Setter}
use Rattle.swc_ecma_codegen_tree.specs.declared.classes.ParamOrTsParamProp.{ParamOrTsParamProp}
use Rattle.swc_ecma_codegen_tree.specs.declared.classes.ParamOrTsParamProp.TheVariants as params
use Rattle.swc_ecma_codegen_tree.specs.declared.classes.PrivateMethod.{PrivateMethod}
use Rattle.swc_ecma_codegen_tree.specs.declared.classes.PrivateProp.{PrivateProp}
use Rattle.swc_ecma_codegen_tree.specs.declared.classes.StaticBlock.{StaticBlock}
use Rattle.swc_ecma_codegen_tree.specs.declared.decls.ClassDecl.{ClassDecl}
use Rattle.swc_ecma_codegen_tree.specs.declared.decls.Function as functions
use Rattle.swc_ecma_codegen_tree.specs.declared.decls.Param.{Param}
use Rattle.swc_ecma_codegen_tree.specs.declared.exprs.ClassExpr.{ClassExpr}
use Rattle.swc_ecma_codegen_tree.specs.declared.exprs.Expr.{Expr}
use Rattle.swc_ecma_codegen_tree.specs.declared.exprs.Expr.TheVariants as exprs
use Rattle.swc_ecma_codegen_tree.specs.declared.exprs.PropName.{PropName}
use Rattle.swc_ecma_codegen_tree.specs.declared.exprs.PropName.TheVariants as prop_names
use Rattle.swc_ecma_codegen_tree.specs.declared.ts_decls.TsExprWithTypeArgs.{TsExprWithTypeArgs}
use Rattle.swc_ecma_codegen_grammar.specs.Phrases.{Never, Nothing, where_, word, mark, same_line, ending}
use Rattle.swc_ecma_codegen_grammar.specs.AnnotationPhrases.{question, bang}
use Rattle.swc_ecma_codegen_grammar.specs.ClassPhrases.{class_word, accessibility, tail_role, prop_modifiers, private_modifiers, accessor_modifiers}
use Rattle.swc_ecma_codegen_grammar.specs.FunctionPhrases.{is_some_listed, word_if}
use Rattle.swc_ecma_codegen_grammar.specs.NamePhrases.{private_name}
use Rattle.swc_ecma_codegen_grammar.specs.TsDeclPhrases.{declare_word}
use Rattle.swc_ecma_codegen_grammar.specs.declared.roles.Role.TheVariants.{PropertyName, Annotation, ClassHead, ClassWord, ClassTail, Member, MethodHead, MethodDecorators, FieldValue}
use Rattle.swc_ecma_codegen_syntax.specs.declared.nonterminals.Nonterminal.{Nonterminal}
use Rattle.swc_ecma_codegen_syntax.specs.declared.nonterminals.Nonterminal.TheVariants as nt
use Rattle.swc_ecma_codegen_syntax.specs.declared.parameters.Parameters.{Parameters}
use Rattle.swc_ecma_codegen_syntax.specs.Parameters.{of_class, of_field, of_function, of_parameters, of_static_block}
use Rattle.swc_ecma_codegen_syntax.specs.Forms.{Form, Fixed, Part, Provided, ByRule, ByScope, ByCore, ◌⇢◌, in_order, listed, ending_listed}
use Rattle.swc_ecma_codegen_syntax.specs.MemberForms.{expr_part, annotation_form, type_args_form}
use Rattle.swc_ecma_codegen_syntax.specs.FunctionForms.{type_params_form, decorators_form, bound_name_form, optional_name_form, param_form, own_of, parameters_of, block_body, body_form}

-- ---- a class

-- ClassHeritage : extends LeftHandSideExpression
unfoldable pub heritage_form : {X : Type 0} → Parameters → Option (ExprBox X) → Option (TsTypeParamInstantiationBox X) → Form X
heritage_form c None args = Provided ByScope (is_none args) (Fixed (where_ (is_none args) Nothing))
heritage_form c (Some n) args = Fixed (word (codes "extends")) ⇢ expr_part nt.LeftHandSideExpression c n ⇢ type_args_form c args

-- what a class implements is of TypeScript
unfoldable pub implemented_form : {X : Type 0} → List (TsExprWithTypeArgs X) → Form X
implemented_form [] = Fixed Nothing
implemented_form (n ∷ ns) = Fixed Never

unfoldable pub implements_form : {X : Type 0} → List (TsExprWithTypeArgs X) → Form X
implements_form ns = Provided ByScope (not (is_some_listed ns)) (implemented_form ns)

-- ClassBody
abbrev pub members_form : {X : Type 0} → Parameters → List (ClassMemberBox X) → Form X
members_form c ns = in_order (λ m. Part nt.ClassElement c Member m.node.value) ns

-- ClassTail : ClassHeritage { ClassBody }; all parts of a class are strict code
unfoldable pub class_tail_form : {X : Type 0} → Parameters → classes.Class X → Form X
class_tail_form c n =
    type_params_form c n.type_params ⇢ heritage_form (of_class c) n.super_class n.super_type_params ⇢ implements_form n.implements.items
    ⇢ Fixed (mark (codes "{")) ⇢ members_form (of_class c) n.body.items ⇢ Fixed (mark (codes "}"))

unfoldable pub class_word_form : {X : Type 0} → classes.Class X → Form X
class_word_form n = Provided ByScope (not n.is_abstract) (Fixed (class_word n))

-- what stands behind `export`
unfoldable pub class_rest_form : {X : Type 0} → Parameters → ClassDecl X → Form X
class_rest_form c n =
    Provided ByScope (not n.declare) (Fixed (declare_word n.declare)) ⇢ Part nt.ClassHead c ClassWord n.class.node.value ⇢ bound_name_form (of_class c) n.ident
    ⇢ Part nt.ClassTail c ClassTail n.class.node.value

unfoldable pub class_decl_form : {X : Type 0} → Parameters → ClassDecl X → Form X
class_decl_form c n =
    Provided ByScope (not n.declare) (Fixed (declare_word n.declare)) ⇢ Part nt.DecoratorList c ClassHead n.class.node.value
    ⇢ Part nt.ClassHead c ClassWord n.class.node.value ⇢ bound_name_form (of_class c) n.ident ⇢ Part nt.ClassTail c ClassTail n.class.node.value

unfoldable pub class_expr_form : {X : Type 0} → Parameters → ClassExpr X → Form X
class_expr_form c n =
    Part nt.DecoratorList c ClassHead n.class.node.value ⇢ Part nt.ClassHead c ClassWord n.class.node.value ⇢ optional_name_form (of_class c) n.ident
    ⇢ Part nt.ClassTail c ClassTail n.class.node.value

-- ---- methods

-- whether a member has this name: `constructor`, `"constructor"`
unfoldable pub is_constructor_name : {X : Type 0} → PropName X → Bool
is_constructor_name (prop_names.Ident n) = bytes_eq (string_bytes n.sym) (codes "constructor")
is_constructor_name (prop_names.Str n) = bytes_eq (string_bytes n.value.value) (codes "constructor")
is_constructor_name n = false

unfoldable pub prop_name_nonterminal : {X : Type 0} → PropName X → Nonterminal
prop_name_nonterminal n = if is_constructor_name n then nt.ConstructorName else nt.PropertyName

-- 15.7.1: a method, a getter or a setter of this name is the constructor, unless it is static.
abbrev pub key_of : Bool → Nonterminal
key_of is_static = if is_static then nt.AnyPropertyName else nt.PropertyName

-- modifiers of TypeScript
unfoldable pub accessibility_form : {X : Type 0} → Option Accessibility → Form X
accessibility_form n = Provided ByScope (is_none n) (Fixed (accessibility n))

unfoldable pub constructor_param_form : {X : Type 0} → Parameters → Nonterminal → ParamOrTsParamProp X → Form X
constructor_param_form c place (params.Param n) = param_form c place n
constructor_param_form c place (params.TsParamProp n) = Provided ByScope false (Fixed Never)

-- MethodDefinition of the name `constructor`
unfoldable pub constructor_form : {X : Type 0} → Parameters → Constructor X → Form X
constructor_form c n =
    accessibility_form n.accessibility ⇢ Fixed (word (codes "constructor")) ⇢ Fixed (mark (codes "("))
    ⇢ ending_listed (constructor_param_form (of_parameters false false c)) n.params.items ⇢ Fixed (mark (codes ")")) ⇢ body_form (of_function false false c) n.body

-- `( ) { FunctionBody }` and `( PropertySetParameterList ) { FunctionBody }`
unfoldable pub accessor_nonterminal : {X : Type 0} → List (Param X) → Nonterminal
accessor_nonterminal [] = nt.GetterTail
accessor_nonterminal (x ∷ []) = nt.SetterTail
accessor_nonterminal (x ∷ y ∷ xs) = nt.FunctionTail

-- none of them a rest
abbrev pub plain_params_form : {X : Type 0} → Parameters → List (Param X) → Form X
plain_params_form c ns = listed (codes ",") (param_form c nt.PatternElement) ns

unfoldable pub rest_of_accessor : {X : Type 0} → Parameters → functions.Function X → Form X
rest_of_accessor c n =
    type_params_form c n.type_params ⇢ Fixed (mark (codes "(")) ⇢ plain_params_form (parameters_of c n) n.params.items
    ⇢ Fixed (mark (codes ")")) ⇢ annotation_form c n.return_type ⇢ body_form (own_of c n) n.body

-- neither is async or a generator
unfoldable pub accessor_form : {X : Type 0} → Parameters → functions.Function X → Form X
accessor_form c n = if n.is_async || n.is_generator then Provided ByRule false (Fixed Never) else rest_of_accessor c n

unfoldable pub tail_of : MethodKind → Nonterminal
tail_of Method = nt.FunctionTail
tail_of Getter = nt.GetterTail
tail_of Setter = nt.SetterTail

unfoldable pub kind_form : {X : Type 0} → Parameters → MethodKind → FunctionBox X → Form X
kind_form c Method n = Part nt.MethodHead c MethodHead n.node.value
kind_form c Getter n = Fixed (word (codes "get"))
kind_form c Setter n = Fixed (word (codes "set"))

-- `static`; `abstract` and `override` are of TypeScript
unfoldable pub method_kind_form : {X : Type 0} → Parameters → (is_static is_abstract is_override : Bool) → MethodKind → FunctionBox X → Form X
method_kind_form c is_static is_abstract is_override kind n =
    Fixed (word_if is_static (word (codes "static"))) ⇢ Provided ByScope (not is_abstract) (Fixed (word_if is_abstract (word (codes "abstract"))))
    ⇢ Provided ByScope (not is_override) (Fixed (word_if is_override (word (codes "override")))) ⇢ kind_form c kind n

unfoldable pub optional_mark_form : {X : Type 0} → Bool → Form X
optional_mark_form is_optional = Provided ByScope (not is_optional) (Fixed (question is_optional))

-- MethodDefinition
unfoldable pub method_form : {X : Type 0} → Parameters → ClassMethod X → Form X
method_form c n =
    Part nt.DecoratorList c MethodDecorators n.function.node.value ⇢ accessibility_form n.accessibility
    ⇢ method_kind_form c n.is_static n.is_abstract n.is_override n.kind n.function
    ⇢ Part (key_of n.is_static) c PropertyName n.key.node.value ⇢ optional_mark_form n.is_optional
    ⇢ Part (tail_of n.kind) c (tail_role n.kind) n.function.node.value

unfoldable pub private_method_form : {X : Type 0} → Parameters → PrivateMethod X → Form X
private_method_form c n =
    Part nt.DecoratorList c MethodDecorators n.function.node.value ⇢ accessibility_form n.accessibility
    ⇢ method_kind_form c n.is_static n.is_abstract n.is_override n.kind n.function
    ⇢ Fixed (private_name n.key) ⇢ optional_mark_form n.is_optional ⇢ Part (tail_of n.kind) c (tail_role n.kind) n.function.node.value

-- ---- fields

-- FieldDefinition : ClassElementName Initializer[+In, ~Yield, ~Await]
unfoldable pub field_value_form : {X : Type 0} → Parameters → Option (ExprBox X) → Form X
field_value_form c None = Fixed Nothing
field_value_form c (Some n) = Fixed (mark (codes "=")) ⇢ Part nt.AssignmentExpression (of_field c) FieldValue n.node.value

-- `declare`, `private`, `abstract`, `override`, `readonly`, `?`, `!` and types are of TypeScript
unfoldable pub plain_modifiers : {X : Type 0} → ClassProp X → Bool
plain_modifiers n = not n.declare && (is_none n.accessibility && (not n.is_abstract && (not n.is_override && not n.readonly)))

unfoldable pub field_type_form : {X : Type 0} → Parameters → Bool → Option (TsTypeAnnBox X) → Form X
field_type_form c definite None = Provided ByScope (not definite) (Fixed (where_ (not definite) Nothing))
field_type_form c definite (Some n) = Provided ByScope false (Fixed (bang definite) ⇢ Fixed (mark (codes ":")) ⇢ Part nt.Uncovered c Annotation n.node.value)

-- no field is named `constructor`: 15.7.1
unfoldable pub field_form : {X : Type 0} → Parameters → ClassProp X → Form X
field_form c n =
    decorators_form ByCore c n.decorators.items ⇢ Provided ByScope (plain_modifiers n) (Fixed (prop_modifiers n)) ⇢ Part nt.PropertyName c PropertyName n.key.node.value
    ⇢ optional_mark_form n.is_optional ⇢ field_type_form c n.definite n.type_ann ⇢ field_value_form c n.value ⇢ Fixed ending

unfoldable pub plain_private_modifiers : {X : Type 0} → PrivateProp X → Bool
plain_private_modifiers n = is_none n.accessibility && (not n.is_override && not n.readonly)

unfoldable pub private_field_form : {X : Type 0} → Parameters → PrivateProp X → Form X
private_field_form c n =
    decorators_form ByCore c n.decorators.items ⇢ Provided ByScope (plain_private_modifiers n) (Fixed (private_modifiers n)) ⇢ Fixed (private_name n.key)
    ⇢ optional_mark_form n.is_optional ⇢ field_type_form c n.definite n.type_ann ⇢ field_value_form c n.value ⇢ Fixed ending

-- `static accessor a = b;`, of the proposal for decorators: ClassElementName Initializer behind `accessor`, with no line end between
unfoldable pub accessor_key_form : {X : Type 0} → Parameters → Key X → Form X
accessor_key_form c (keys.Public n) = Part nt.PropertyName c PropertyName n.node.value
accessor_key_form c (keys.Private n) = Fixed (private_name n)

unfoldable pub accessor_value_form : {X : Type 0} → Parameters → Option (ExprBox X) → Form X
accessor_value_form c None = Fixed Nothing
accessor_value_form c (Some n) = Fixed (mark (codes "=")) ⇢ expr_part nt.AssignmentExpression (of_field c) n

unfoldable pub plain_accessor_modifiers : {X : Type 0} → AutoAccessor X → Bool
plain_accessor_modifiers n = is_none n.accessibility && (not n.is_abstract && not n.is_override)

unfoldable pub auto_accessor_form : {X : Type 0} → Parameters → AutoAccessor X → Form X
auto_accessor_form c n =
    decorators_form ByCore c n.decorators.items ⇢ Provided ByScope (plain_accessor_modifiers n) (Fixed (accessor_modifiers n)) ⇢ Fixed (word (codes "accessor"))
    ⇢ Fixed same_line ⇢ accessor_key_form c n.key ⇢ field_type_form c n.definite n.type_ann ⇢ accessor_value_form c n.value ⇢ Fixed ending

-- ---- members

-- ClassStaticBlock : static { ClassStaticBlockBody }
unfoldable pub static_block_form : {X : Type 0} → Parameters → StaticBlock X → Form X
static_block_form c n = Fixed (word (codes "static")) ⇢ block_body (of_static_block c) n.body

-- ClassElement; an index signature is of TypeScript
unfoldable pub member_of_class_form : {X : Type 0} → Parameters → class_members.ClassMember X → Form X
member_of_class_form c (members.Constructor n) = constructor_form c n
member_of_class_form c (members.Method n) = method_form c n
member_of_class_form c (members.PrivateMethod n) = private_method_form c n
member_of_class_form c (members.ClassProp n) = field_form c n
member_of_class_form c (members.PrivateProp n) = private_field_form c n
member_of_class_form c (members.Empty n) = Fixed (mark (codes ";"))
member_of_class_form c (members.StaticBlock n) = static_block_form c n
member_of_class_form c (members.AutoAccessor n) = Provided ByCore false (auto_accessor_form c n)
member_of_class_form c (members.TsIndexSignature n) = Provided ByScope false (Fixed Never)

-- ---- the value of a field: a sequence stands in parentheses, which read back as some of the tree

unfoldable pub field_expr_form : {X : Type 0} → Form X → Expr X → Form X
field_expr_form a (exprs.Seq n) = Fixed (mark (codes "(")) ⇢ a ⇢ Fixed (mark (codes ")"))
field_expr_form a n = a
