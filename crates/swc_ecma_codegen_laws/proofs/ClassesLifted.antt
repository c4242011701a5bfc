-- Classes: a law of the words holds of the plan.
use Rattle.std.proofs.Common.{refl}
use Rattle.swc_ecma_codegen_laws.proofs.Children.{children_hold}
use Rattle.std.specs.Prelude.{ℕ, Bool, true, ◌||◌, List, [], ◌∷◌, map, codes, Option, Some, None}
use Rattle.swc_ecma_codegen_common.specs.declared.positions.Span.{Span}
use Rattle.swc_ecma_codegen_tree.specs.Links.{BlockStmtBox, ExprBox, TsTypeParamInstantiationBox}
use Rattle.swc_ecma_codegen_tree.specs.declared.classes.Accessibility.{Accessibility}
use Rattle.swc_ecma_codegen_tree.specs.declared.classes.Class as classes
use Rattle.swc_ecma_codegen_tree.specs.declared.classes.ClassMember as class_members
use Rattle.swc_ecma_codegen_tree.specs.declared.classes.ClassMember.TheVariants as members
use Rattle.swc_ecma_codegen_tree.specs.declared.classes.Constructor.{Constructor}
use Rattle.swc_ecma_codegen_tree.specs.declared.classes.ParamOrTsParamProp.{ParamOrTsParamProp}
use Rattle.swc_ecma_codegen_tree.specs.declared.classes.ParamOrTsParamProp.TheVariants as params
use Rattle.swc_ecma_codegen_tree.specs.declared.classes.TsParamProp.{TsParamProp}
use Rattle.swc_ecma_codegen_tree.specs.declared.classes.TsParamPropParam.{TsParamPropParam}
use Rattle.swc_ecma_codegen_tree.specs.declared.classes.TsParamPropParam.TheVariants as param_props
use Rattle.swc_ecma_codegen_tree.specs.declared.classes.ClassMethod.{ClassMethod}
use Rattle.swc_ecma_codegen_tree.specs.declared.classes.MethodKind.{MethodKind}
use Rattle.swc_ecma_codegen_tree.specs.declared.classes.MethodKind.TheVariants.{Method, Getter, Setter}
use Rattle.swc_ecma_codegen_tree.specs.declared.classes.ClassProp.{ClassProp}
use Rattle.swc_ecma_codegen_tree.specs.declared.classes.PrivateMethod.{PrivateMethod}
use Rattle.swc_ecma_codegen_tree.specs.declared.classes.PrivateProp.{PrivateProp}
use Rattle.swc_ecma_codegen_tree.specs.declared.classes.AutoAccessor.{AutoAccessor}
use Rattle.swc_ecma_codegen_tree.specs.declared.classes.Key.{Key}
use Rattle.swc_ecma_codegen_tree.specs.declared.classes.Key.TheVariants as keys
use Rattle.swc_ecma_codegen_tree.specs.declared.classes.StaticBlock.{StaticBlock}
use Rattle.swc_ecma_codegen_tree.specs.declared.decls.ClassDecl.{ClassDecl}
use Rattle.swc_ecma_codegen_tree.specs.declared.stmts.EmptyStmt.{EmptyStmt}
use Rattle.swc_ecma_codegen_tree.specs.declared.ts_decls.TsExprWithTypeArgs.{TsExprWithTypeArgs}
use Rattle.swc_ecma_codegen_tree.specs.declared.ts_members.TsIndexSignature.{TsIndexSignature}
use Rattle.swc_ecma_codegen_grammar.specs.ClassPhrases.{accessibility_of}
use Rattle.swc_ecma_codegen_tokens.specs.Run.{Part}
use Rattle.swc_ecma_codegen_emit.specs.declared.nodes.Context.TheVariants.{Plain, FieldValue}
use Rattle.swc_ecma_codegen_emit.specs.declared.nodes.Piece.TheVariants.{ClassHead, ClassWord, MethodHead, DeclarationTail, StaticHead, MethodDecorators, MethodTail}
use Rattle.swc_ecma_codegen_emit.specs.Places.{Place, Whole, Only}
use Rattle.swc_ecma_codegen_emit.specs.FunctionExprs.{comma_list_format}
use Rattle.swc_ecma_codegen_emit.specs.Functions.{decorator, decorators_format, decorator_place}
use Rattle.swc_ecma_codegen_emit.specs.Lists.{child_of}
use Rattle.swc_ecma_codegen_emit.specs.TsDecls.{extended_place, ts_expr_with_type_args}
use Rattle.swc_ecma_codegen_laws.proofs.OfWords.{OfWords, Known, asks_in, items_in, either}
use Rattle.swc_ecma_codegen_emit.specs.Classes.{class_members_format, heritage, member_list, implemented_format, implemented_list, some_implements, implements_clause, class_body, class_tail, class_word, class, class_decl, accessibility_word, ts_param_prop_param, ts_param_prop, constructor_param, constructor_param_place, constructor_body, constructor_params, constructor_tail, constructor_word, class_constructor, static_word, accessor_word, method_modifiers, static_method, method_word, accessor_words, method_kind, method_rest, class_method, private_kind, private_words, private_rest, private_method, prop_value, prop_modifiers, prop_tail, class_prop, private_decorators, private_modifiers, private_prop_tail, private_prop, accessor_key, accessor_decorators, accessor_modifiers, accessor_tail, auto_accessor, static_block, empty_member, index_member, class_member}
use Rattle.swc_ecma_codegen_laws.proofs.AnnotationsLifted.{field_annotation_holds, type_args_holds, type_params_holds, word_before_holds}
use Rattle.swc_ecma_codegen_laws.proofs.ExprsLifted.{blank_holds, ident_holds, private_name_holds}
use Rattle.swc_ecma_codegen_laws.proofs.FunctionsLifted.{decorator_holds, decorator_lines_holds, param_holds}
use Rattle.swc_ecma_codegen_laws.proofs.NamesLifted.{binding_ident_holds}
use Rattle.swc_ecma_codegen_laws.proofs.PatsLifted.{assign_pat_holds, initializer_holds}
use Rattle.swc_ecma_codegen_laws.proofs.TsDeclsLifted.{declare_word_holds, ts_expr_with_type_args_holds}
use Rattle.swc_ecma_codegen_laws.proofs.TsMembersLifted.{ts_index_signature_holds}

pub heritage_holds : {X : Type 0} {holds : Bool → Part → Type 0} (known : Known holds X) (bounded : Bool) (x2 : Option (ExprBox X)) (args : Option (TsTypeParamInstantiationBox X)) → holds bounded (heritage (asks_in known) (items_in known) x2 args)
unfolding heritage
heritage_holds known bounded None args = known.words.none bounded
heritage_holds known bounded (Some n) args = known.words.and_then bounded (known.words.space bounded) (known.words.and_then bounded (known.words.keyword bounded None (codes "extends")) (known.words.and_then bounded (blank_holds known.words bounded ((asks_in known) n.node.value).starts) (known.words.and_then bounded (known.law bounded n.node.value (Whole Plain)) (type_args_holds known bounded Plain args))))

pub member_list_holds : {X : Type 0} {holds : Bool → Part → Type 0} (known : Known holds X) (bounded : Bool) (n : classes.Class X) → holds bounded (member_list (asks_in known) (items_in known) n)
member_list_holds known bounded n = known.words.list bounded class_members_format refl n.span (map (child_of (λ m. ((asks_in known) m.node.value).place) (λ m place. (items_in known) m.node.value place)) n.body.items) (children_hold _ _ (λ m. ((asks_in known) m.node.value).place) (λ m place. (items_in known) m.node.value place) (λ m. (known.law bounded m.node.value (Whole Plain))) n.body.items)

pub implemented_list_holds : {X : Type 0} {holds : Bool → Part → Type 0} (known : Known holds X) (bounded : Bool) (span : Span) (ns : List (TsExprWithTypeArgs X)) → holds bounded (implemented_list (items_in known) span ns)
implemented_list_holds known bounded span ns = known.words.list bounded implemented_format refl span (map (child_of extended_place (λ n place. ts_expr_with_type_args (items_in known) n)) ns) (children_hold _ _ extended_place (λ n place. ts_expr_with_type_args (items_in known) n) (λ n. (ts_expr_with_type_args_holds known bounded n)) ns)

pub some_implements_holds : {X : Type 0} {holds : Bool → Part → Type 0} (known : Known holds X) (bounded : Bool) (span : Span) (ns : List (TsExprWithTypeArgs X)) → holds bounded (some_implements (items_in known) span ns)
unfolding some_implements
some_implements_holds known bounded span ns = known.words.and_then bounded (known.words.space bounded) (known.words.and_then bounded (known.words.keyword bounded None (codes "implements")) (known.words.and_then bounded (known.words.space bounded) (implemented_list_holds known bounded span ns)))

pub implements_clause_holds : {X : Type 0} {holds : Bool → Part → Type 0} (known : Known holds X) (bounded : Bool) (span : Span) (x2 : List (TsExprWithTypeArgs X)) → holds bounded (implements_clause (items_in known) span x2)
unfolding implements_clause
implements_clause_holds known bounded span [] = known.words.none bounded
implements_clause_holds known bounded span (n ∷ ns) = some_implements_holds known bounded span (n ∷ ns)

pub class_body_holds : {X : Type 0} {holds : Bool → Part → Type 0} (known : Known holds X) (bounded : Bool) (n : classes.Class X) → holds bounded (class_body (asks_in known) (items_in known) n)
unfolding class_body
class_body_holds known bounded n = known.words.and_then bounded (known.words.punct bounded (codes "{")) (known.words.and_then bounded (member_list_holds known bounded n) (known.words.and_then bounded (known.words.last_of bounded n.span) (known.words.punct bounded (codes "}"))))

pub class_tail_holds : {X : Type 0} {holds : Bool → Part → Type 0} (known : Known holds X) (bounded : Bool) (n : classes.Class X) → holds bounded (class_tail (asks_in known) (items_in known) n)
unfolding class_tail
class_tail_holds known bounded n = known.words.and_then bounded (type_params_holds known bounded n.type_params) (known.words.and_then bounded (heritage_holds known bounded n.super_class n.super_type_params) (known.words.and_then bounded (implements_clause_holds known bounded n.span n.implements.items) (known.words.and_then bounded (known.words.formatting_space bounded) (class_body_holds known bounded n))))

pub class_word_holds : {X : Type 0} {holds : Bool → Part → Type 0} (known : Known holds X) (bounded : Bool) (n : classes.Class X) → holds bounded (class_word n)
unfolding class_word
class_word_holds known bounded n = known.words.and_then bounded (word_before_holds known.words bounded n.is_abstract (codes "abstract")) (known.words.keyword bounded None (codes "class"))

pub class_holds : {X : Type 0} {holds : Bool → Part → Type 0} (known : Known holds X) (bounded : Bool) (n : classes.Class X) (place : Place) → holds bounded (class (asks_in known) (items_in known) n place)
unfolding class
class_holds known bounded n (Only ClassHead) = decorator_lines_holds known bounded n.decorators.items
class_holds known bounded n (Only ClassWord) = class_word_holds known bounded n
class_holds known bounded n place = class_tail_holds known bounded n

pub class_decl_holds : {X : Type 0} {holds : Bool → Part → Type 0} (known : Known holds X) (bounded : Bool) (n : ClassDecl X) → holds bounded (class_decl (asks_in known) (items_in known) n)
unfolding class_decl
class_decl_holds known bounded n = known.words.and_then bounded (known.words.leading_comments bounded ((asks_in known) n.class.node.value).place.lo) (known.words.and_then bounded (known.words.position bounded ((asks_in known) n.class.node.value).place.lo) (known.words.and_then bounded (declare_word_holds known.words bounded n.declare) (known.words.and_then bounded (known.law bounded n.class.node.value (Only ClassHead)) (known.words.and_then bounded (known.law bounded n.class.node.value (Only ClassWord)) (known.words.and_then bounded (known.words.space bounded) (known.words.and_then bounded (ident_holds known.words bounded n.ident) (known.law bounded n.class.node.value (Whole Plain))))))))

pub accessibility_word_holds : {holds : Bool → Part → Type 0} (words : OfWords holds) (bounded : Bool) (x0 : Option Accessibility) → holds bounded (accessibility_word x0)
unfolding accessibility_word
accessibility_word_holds words bounded None = words.none bounded
accessibility_word_holds words bounded (Some a) = words.and_then bounded (words.keyword bounded None (accessibility_of a)) (words.space bounded)

pub ts_param_prop_param_holds : {X : Type 0} {holds : Bool → Part → Type 0} (known : Known holds X) (bounded : Bool) (x1 : TsParamPropParam X) → holds bounded (ts_param_prop_param (items_in known) x1)
unfolding ts_param_prop_param
ts_param_prop_param_holds known bounded (param_props.Ident n) = known.words.and_then bounded (known.words.leading_comments bounded n.id.span.lo) (binding_ident_holds known bounded n)
ts_param_prop_param_holds known bounded (param_props.Assign n) = known.words.and_then bounded (known.words.leading_comments bounded n.span.lo) (assign_pat_holds known bounded n)

pub ts_param_prop_holds : {X : Type 0} {holds : Bool → Part → Type 0} (known : Known holds X) (bounded : Bool) (n : TsParamProp X) → holds bounded (ts_param_prop (items_in known) n)
unfolding ts_param_prop
ts_param_prop_holds known bounded n = known.words.and_then bounded (known.words.leading_comments bounded n.span.lo) (known.words.and_then bounded (accessibility_word_holds known.words bounded n.accessibility) (known.words.and_then bounded (decorator_lines_holds known bounded n.decorators.items) (known.words.and_then bounded (word_before_holds known.words bounded n.is_override (codes "override")) (known.words.and_then bounded (word_before_holds known.words bounded n.readonly (codes "readonly")) (ts_param_prop_param_holds known bounded n.param)))))

pub constructor_param_holds : {X : Type 0} {holds : Bool → Part → Type 0} (known : Known holds X) (bounded : Bool) (x2 : ParamOrTsParamProp X) → holds bounded (constructor_param (asks_in known) (items_in known) x2)
unfolding constructor_param
constructor_param_holds known bounded (params.Param n) = param_holds known bounded n
constructor_param_holds known bounded (params.TsParamProp n) = ts_param_prop_holds known bounded n

pub constructor_body_holds : {X : Type 0} {holds : Bool → Part → Type 0} (known : Known holds X) (bounded : Bool) (x1 : Option (BlockStmtBox X)) → holds bounded (constructor_body (items_in known) x1)
unfolding constructor_body
constructor_body_holds known bounded None = known.words.semi bounded
constructor_body_holds known bounded (Some n) = known.law bounded n.node.value (Whole Plain)

pub constructor_params_holds : {X : Type 0} {holds : Bool → Part → Type 0} (known : Known holds X) (bounded : Bool) (n : Constructor X) → holds bounded (constructor_params (asks_in known) (items_in known) n)
constructor_params_holds known bounded n = known.words.list bounded comma_list_format refl n.span (map (child_of constructor_param_place (λ p place. constructor_param (asks_in known) (items_in known) p)) n.params.items) (children_hold _ _ constructor_param_place (λ p place. constructor_param (asks_in known) (items_in known) p) (λ p. (constructor_param_holds known bounded p)) n.params.items)

pub constructor_tail_holds : {X : Type 0} {holds : Bool → Part → Type 0} (known : Known holds X) (bounded : Bool) (n : Constructor X) → holds bounded (constructor_tail (asks_in known) (items_in known) n)
unfolding constructor_tail
constructor_tail_holds known bounded n = known.words.and_then bounded (known.words.punct bounded (codes "(")) (known.words.and_then bounded (constructor_params_holds known bounded n) (known.words.and_then bounded (known.words.punct bounded (codes ")")) (constructor_body_holds known bounded n.body)))

pub constructor_word_holds : {holds : Bool → Part → Type 0} (words : OfWords holds) (bounded : Bool) → holds bounded constructor_word
unfolding constructor_word
constructor_word_holds words bounded = words.keyword bounded None (codes "constructor")

pub class_constructor_holds : {X : Type 0} {holds : Bool → Part → Type 0} (known : Known holds X) (bounded : Bool) (n : Constructor X) → holds bounded (class_constructor (asks_in known) (items_in known) n)
unfolding class_constructor
class_constructor_holds known bounded n = known.words.and_then bounded (known.words.leading_comments bounded n.span.lo) (known.words.and_then bounded (known.words.position bounded n.span.lo) (known.words.and_then bounded (accessibility_word_holds known.words bounded n.accessibility) (known.words.and_then bounded (constructor_word_holds known.words bounded) (constructor_tail_holds known bounded n))))

pub static_word_holds : {holds : Bool → Part → Type 0} (words : OfWords holds) (bounded : Bool) (wanted : Bool) → holds bounded (static_word wanted)
unfolding static_word
static_word_holds words bounded wanted = either words bounded wanted (words.and_then bounded (words.keyword bounded None (codes "static")) (words.space bounded)) (words.none bounded)

pub accessor_word_holds : {holds : Bool → Part → Type 0} (words : OfWords holds) (bounded : Bool) (text : List ℕ) (starts : Bool) → holds bounded (accessor_word text starts)
unfolding accessor_word
accessor_word_holds words bounded text starts = words.and_then bounded (words.keyword bounded None text) (blank_holds words bounded starts)

pub method_modifiers_holds : {holds : Bool → Part → Type 0} (words : OfWords holds) (bounded : Bool) (is_abstract : Bool) (is_override : Bool) → holds bounded (method_modifiers is_abstract is_override)
unfolding method_modifiers
method_modifiers_holds words bounded is_abstract is_override = words.and_then bounded (word_before_holds words bounded is_abstract (codes "abstract")) (word_before_holds words bounded is_override (codes "override"))

pub static_method_holds : {X : Type 0} {holds : Bool → Part → Type 0} (known : Known holds X) (bounded : Bool) (n : ClassMethod X) → holds bounded (static_method (asks_in known) (items_in known) n)
unfolding static_method
static_method_holds known bounded n = either known.words bounded (n.is_abstract || n.is_override) (known.words.and_then bounded (known.words.space bounded) (known.words.and_then bounded (method_modifiers_holds known.words bounded n.is_abstract n.is_override) (known.law bounded n.function.node.value (Only MethodHead)))) (known.law bounded n.function.node.value (Only (StaticHead ((asks_in known) n.key.node.value).starts)))

pub method_word_holds : {X : Type 0} {holds : Bool → Part → Type 0} (known : Known holds X) (bounded : Bool) (n : ClassMethod X) → holds bounded (method_word (asks_in known) (items_in known) n)
unfolding method_word
method_word_holds known bounded n = either known.words bounded n.is_static (known.words.and_then bounded (known.words.keyword bounded None (codes "static")) (static_method_holds known bounded n)) (known.words.and_then bounded (method_modifiers_holds known.words bounded n.is_abstract n.is_override) (known.law bounded n.function.node.value (Only MethodHead)))

pub accessor_words_holds : {X : Type 0} {holds : Bool → Part → Type 0} (known : Known holds X) (bounded : Bool) (n : ClassMethod X) → holds bounded (accessor_words n)
unfolding accessor_words
accessor_words_holds known bounded n = known.words.and_then bounded (static_word_holds known.words bounded n.is_static) (method_modifiers_holds known.words bounded n.is_abstract n.is_override)

pub method_kind_holds : {X : Type 0} {holds : Bool → Part → Type 0} (known : Known holds X) (bounded : Bool) (x2 : MethodKind) (n : ClassMethod X) → holds bounded (method_kind (asks_in known) (items_in known) x2 n)
unfolding method_kind
method_kind_holds known bounded Method n = method_word_holds known bounded n
method_kind_holds known bounded Getter n = known.words.and_then bounded (accessor_words_holds known bounded n) (accessor_word_holds known.words bounded (codes "get") ((asks_in known) n.key.node.value).starts)
method_kind_holds known bounded Setter n = known.words.and_then bounded (accessor_words_holds known bounded n) (accessor_word_holds known.words bounded (codes "set") ((asks_in known) n.key.node.value).starts)

pub method_rest_holds : {X : Type 0} {holds : Bool → Part → Type 0} (known : Known holds X) (bounded : Bool) (n : ClassMethod X) → holds bounded (method_rest (items_in known) n)
unfolding method_rest
method_rest_holds known bounded n = known.words.and_then bounded (known.law bounded n.key.node.value (Whole Plain)) (known.words.and_then bounded (known.words.question bounded n.is_optional) (known.law bounded n.function.node.value (Only MethodTail)))

pub class_method_holds : {X : Type 0} {holds : Bool → Part → Type 0} (known : Known holds X) (bounded : Bool) (n : ClassMethod X) → holds bounded (class_method (asks_in known) (items_in known) n)
unfolding class_method
class_method_holds known bounded n = known.words.and_then bounded (known.words.leading_comments bounded n.span.lo) (known.words.and_then bounded (known.words.leading_comments bounded ((asks_in known) n.key.node.value).place.lo) (known.words.and_then bounded (known.words.position bounded n.span.lo) (known.words.and_then bounded (known.law bounded n.function.node.value (Only MethodDecorators)) (known.words.and_then bounded (accessibility_word_holds known.words bounded n.accessibility) (known.words.and_then bounded (method_kind_holds known bounded n.kind n) (method_rest_holds known bounded n))))))

pub private_kind_holds : {X : Type 0} {holds : Bool → Part → Type 0} (known : Known holds X) (bounded : Bool) (x1 : MethodKind) (n : PrivateMethod X) → holds bounded (private_kind (items_in known) x1 n)
unfolding private_kind
private_kind_holds known bounded Method n = known.law bounded n.function.node.value (Only MethodHead)
private_kind_holds known bounded Getter n = accessor_word_holds known.words bounded (codes "get") true
private_kind_holds known bounded Setter n = accessor_word_holds known.words bounded (codes "set") true

pub private_words_holds : {X : Type 0} {holds : Bool → Part → Type 0} (known : Known holds X) (bounded : Bool) (n : PrivateMethod X) → holds bounded (private_words n)
unfolding private_words
private_words_holds known bounded n = known.words.and_then bounded (static_word_holds known.words bounded n.is_static) (method_modifiers_holds known.words bounded n.is_abstract n.is_override)

pub private_rest_holds : {X : Type 0} {holds : Bool → Part → Type 0} (known : Known holds X) (bounded : Bool) (n : PrivateMethod X) → holds bounded (private_rest (items_in known) n)
unfolding private_rest
private_rest_holds known bounded n = known.words.and_then bounded (private_name_holds known.words bounded n.key) (known.words.and_then bounded (known.words.question bounded n.is_optional) (known.law bounded n.function.node.value (Only DeclarationTail)))

pub private_method_holds : {X : Type 0} {holds : Bool → Part → Type 0} (known : Known holds X) (bounded : Bool) (n : PrivateMethod X) → holds bounded (private_method (items_in known) n)
unfolding private_method
private_method_holds known bounded n = known.words.and_then bounded (known.words.leading_comments bounded n.span.lo) (known.words.and_then bounded (known.words.position bounded n.span.lo) (known.words.and_then bounded (known.law bounded n.function.node.value (Only MethodDecorators)) (known.words.and_then bounded (accessibility_word_holds known.words bounded n.accessibility) (known.words.and_then bounded (private_words_holds known bounded n) (known.words.and_then bounded (private_kind_holds known bounded n.kind n) (private_rest_holds known bounded n))))))

pub prop_value_holds : {X : Type 0} {holds : Bool → Part → Type 0} (known : Known holds X) (bounded : Bool) (x1 : Option (ExprBox X)) → holds bounded (prop_value (items_in known) x1)
unfolding prop_value
prop_value_holds known bounded None = known.words.none bounded
prop_value_holds known bounded (Some n) = known.words.and_then bounded (known.words.formatting_space bounded) (known.words.and_then bounded (known.words.punct bounded (codes "=")) (known.words.and_then bounded (known.words.formatting_space bounded) (known.law bounded n.node.value (Whole FieldValue))))

pub prop_modifiers_holds : {X : Type 0} {holds : Bool → Part → Type 0} (known : Known holds X) (bounded : Bool) (n : ClassProp X) → holds bounded (prop_modifiers n)
unfolding prop_modifiers
prop_modifiers_holds known bounded n = known.words.and_then bounded (declare_word_holds known.words bounded n.declare) (known.words.and_then bounded (accessibility_word_holds known.words bounded n.accessibility) (known.words.and_then bounded (static_word_holds known.words bounded n.is_static) (known.words.and_then bounded (word_before_holds known.words bounded n.is_abstract (codes "abstract")) (known.words.and_then bounded (word_before_holds known.words bounded n.is_override (codes "override")) (word_before_holds known.words bounded n.readonly (codes "readonly"))))))

pub prop_tail_holds : {X : Type 0} {holds : Bool → Part → Type 0} (known : Known holds X) (bounded : Bool) (n : ClassProp X) → holds bounded (prop_tail (items_in known) n)
unfolding prop_tail
prop_tail_holds known bounded n = known.words.and_then bounded (known.law bounded n.key.node.value (Whole Plain)) (known.words.and_then bounded (known.words.question bounded n.is_optional) (known.words.and_then bounded (field_annotation_holds known bounded n.definite n.type_ann) (known.words.and_then bounded (prop_value_holds known bounded n.value) (known.words.and_then bounded (known.words.semi bounded) (known.words.position bounded n.span.hi)))))

pub class_prop_holds : {X : Type 0} {holds : Bool → Part → Type 0} (known : Known holds X) (bounded : Bool) (n : ClassProp X) → holds bounded (class_prop (items_in known) n)
unfolding class_prop
class_prop_holds known bounded n = known.words.and_then bounded (known.words.leading_comments bounded n.span.lo) (known.words.and_then bounded (known.words.position bounded n.span.lo) (known.words.and_then bounded (decorator_lines_holds known bounded n.decorators.items) (known.words.and_then bounded (prop_modifiers_holds known bounded n) (prop_tail_holds known bounded n))))

pub private_decorators_holds : {X : Type 0} {holds : Bool → Part → Type 0} (known : Known holds X) (bounded : Bool) (n : PrivateProp X) → holds bounded (private_decorators (items_in known) n)
private_decorators_holds known bounded n = known.words.list bounded decorators_format refl n.span (map (child_of decorator_place (λ d place. decorator (items_in known) d)) n.decorators.items) (children_hold _ _ decorator_place (λ d place. decorator (items_in known) d) (λ d. (decorator_holds known bounded d)) n.decorators.items)

pub private_modifiers_holds : {X : Type 0} {holds : Bool → Part → Type 0} (known : Known holds X) (bounded : Bool) (n : PrivateProp X) → holds bounded (private_modifiers n)
unfolding private_modifiers
private_modifiers_holds known bounded n = known.words.and_then bounded (accessibility_word_holds known.words bounded n.accessibility) (known.words.and_then bounded (static_word_holds known.words bounded n.is_static) (known.words.and_then bounded (word_before_holds known.words bounded n.is_override (codes "override")) (word_before_holds known.words bounded n.readonly (codes "readonly"))))

pub private_prop_tail_holds : {X : Type 0} {holds : Bool → Part → Type 0} (known : Known holds X) (bounded : Bool) (n : PrivateProp X) → holds bounded (private_prop_tail (items_in known) n)
unfolding private_prop_tail
private_prop_tail_holds known bounded n = known.words.and_then bounded (private_name_holds known.words bounded n.key) (known.words.and_then bounded (known.words.question bounded n.is_optional) (known.words.and_then bounded (field_annotation_holds known bounded n.definite n.type_ann) (known.words.and_then bounded (prop_value_holds known bounded n.value) (known.words.and_then bounded (known.words.semi bounded) (known.words.position bounded n.span.hi)))))

pub private_prop_holds : {X : Type 0} {holds : Bool → Part → Type 0} (known : Known holds X) (bounded : Bool) (n : PrivateProp X) → holds bounded (private_prop (items_in known) n)
unfolding private_prop
private_prop_holds known bounded n = known.words.and_then bounded (known.words.leading_comments bounded n.span.lo) (known.words.and_then bounded (known.words.position bounded n.span.lo) (known.words.and_then bounded (private_decorators_holds known bounded n) (known.words.and_then bounded (private_modifiers_holds known bounded n) (private_prop_tail_holds known bounded n))))

pub accessor_key_holds : {X : Type 0} {holds : Bool → Part → Type 0} (known : Known holds X) (bounded : Bool) (x1 : Key X) → holds bounded (accessor_key (items_in known) x1)
unfolding accessor_key
accessor_key_holds known bounded (keys.Public n) = known.law bounded n.node.value (Whole Plain)
accessor_key_holds known bounded (keys.Private n) = private_name_holds known.words bounded n

pub accessor_decorators_holds : {X : Type 0} {holds : Bool → Part → Type 0} (known : Known holds X) (bounded : Bool) (n : AutoAccessor X) → holds bounded (accessor_decorators (items_in known) n)
accessor_decorators_holds known bounded n = known.words.list bounded decorators_format refl n.span (map (child_of decorator_place (λ d place. decorator (items_in known) d)) n.decorators.items) (children_hold _ _ decorator_place (λ d place. decorator (items_in known) d) (λ d. (decorator_holds known bounded d)) n.decorators.items)

pub accessor_modifiers_holds : {X : Type 0} {holds : Bool → Part → Type 0} (known : Known holds X) (bounded : Bool) (n : AutoAccessor X) → holds bounded (accessor_modifiers n)
unfolding accessor_modifiers
accessor_modifiers_holds known bounded n = known.words.and_then bounded (accessibility_word_holds known.words bounded n.accessibility) (known.words.and_then bounded (static_word_holds known.words bounded n.is_static) (known.words.and_then bounded (word_before_holds known.words bounded n.is_abstract (codes "abstract")) (word_before_holds known.words bounded n.is_override (codes "override"))))

pub accessor_tail_holds : {X : Type 0} {holds : Bool → Part → Type 0} (known : Known holds X) (bounded : Bool) (n : AutoAccessor X) → holds bounded (accessor_tail (items_in known) n)
unfolding accessor_tail
accessor_tail_holds known bounded n = known.words.and_then bounded (accessor_key_holds known bounded n.key) (known.words.and_then bounded (field_annotation_holds known bounded n.definite n.type_ann) (known.words.and_then bounded (initializer_holds known bounded n.value) (known.words.semi bounded)))

pub auto_accessor_holds : {X : Type 0} {holds : Bool → Part → Type 0} (known : Known holds X) (bounded : Bool) (n : AutoAccessor X) → holds bounded (auto_accessor (items_in known) n)
unfolding auto_accessor
auto_accessor_holds known bounded n = known.words.and_then bounded (accessor_decorators_holds known bounded n) (known.words.and_then bounded (accessor_modifiers_holds known bounded n) (known.words.and_then bounded (known.words.keyword bounded None (codes "accessor")) (known.words.and_then bounded (known.words.space bounded) (accessor_tail_holds known bounded n))))

pub static_block_holds : {X : Type 0} {holds : Bool → Part → Type 0} (known : Known holds X) (bounded : Bool) (n : StaticBlock X) → holds bounded (static_block (items_in known) n)
unfolding static_block
static_block_holds known bounded n = known.words.and_then bounded (known.words.leading_comments bounded n.span.lo) (known.words.and_then bounded (known.words.position bounded n.span.lo) (known.words.and_then bounded (known.words.keyword bounded None (codes "static")) (known.words.and_then bounded (known.law bounded n.body.node.value (Whole Plain)) (known.words.position bounded n.span.hi))))

pub empty_member_holds : {holds : Bool → Part → Type 0} (words : OfWords holds) (bounded : Bool) (n : EmptyStmt) → holds bounded (empty_member n)
unfolding empty_member
empty_member_holds words bounded n = words.and_then bounded (words.leading_comments bounded n.span.lo) (words.punct bounded (codes ";"))

pub index_member_holds : {X : Type 0} {holds : Bool → Part → Type 0} (known : Known holds X) (bounded : Bool) (n : TsIndexSignature X) → holds bounded (index_member (asks_in known) (items_in known) n)
unfolding index_member
index_member_holds known bounded n = known.words.and_then bounded (ts_index_signature_holds known bounded n) (known.words.semi bounded)

pub class_member_holds : {X : Type 0} {holds : Bool → Part → Type 0} (known : Known holds X) (bounded : Bool) (x2 : class_members.ClassMember X) → holds bounded (class_member (asks_in known) (items_in known) x2)
unfolding class_member
class_member_holds known bounded (members.Constructor n) = class_constructor_holds known bounded n
class_member_holds known bounded (members.Method n) = class_method_holds known bounded n
class_member_holds known bounded (members.PrivateMethod n) = private_method_holds known bounded n
class_member_holds known bounded (members.ClassProp n) = class_prop_holds known bounded n
class_member_holds known bounded (members.PrivateProp n) = private_prop_holds known bounded n
class_member_holds known bounded (members.Empty n) = empty_member_holds known.words bounded n
class_member_holds known bounded (members.StaticBlock n) = static_block_holds known bounded n
class_member_holds known bounded (members.AutoAccessor n) = auto_accessor_holds known bounded n
class_member_holds known bounded (members.TsIndexSignature n) = index_member_holds known bounded n
