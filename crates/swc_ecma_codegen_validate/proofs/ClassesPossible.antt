-- When classes and their members are well-formed.
use Rattle.std.proofs.Common.{◌≡◌, ℕ, Bool, true, false, cond, not, ◌&&◌, ◌||◌, is_none, List, [], ◌∷◌, map, codes, Option, Some, None, refl, ap, ◌∙◌}
use Rattle.swc_ecma_codegen_tree.specs.declared.classes.Accessibility.{Accessibility}
use Rattle.swc_ecma_codegen_tree.specs.declared.classes.Class as classes
use Rattle.swc_ecma_codegen_tree.specs.declared.classes.ClassMember.TheVariants as members
use Rattle.swc_ecma_codegen_tree.specs.declared.classes.Constructor.{Constructor}
use Rattle.swc_ecma_codegen_tree.specs.declared.classes.ClassMethod.{ClassMethod}
use Rattle.swc_ecma_codegen_tree.specs.declared.classes.ClassProp.{ClassProp}
use Rattle.swc_ecma_codegen_tree.specs.declared.classes.AutoAccessor.{AutoAccessor}
use Rattle.swc_ecma_codegen_tree.specs.declared.classes.MethodKind.{MethodKind}
use Rattle.swc_ecma_codegen_tree.specs.declared.classes.PrivateMethod.{PrivateMethod}
use Rattle.swc_ecma_codegen_tree.specs.declared.classes.PrivateProp.{PrivateProp}
use Rattle.swc_ecma_codegen_tree.specs.declared.classes.TsParamProp.{TsParamProp}
use Rattle.swc_ecma_codegen_tree.specs.declared.decls.ClassDecl.{ClassDecl}
use Rattle.swc_ecma_codegen_tree.specs.declared.exprs.Expr.{Expr}
use Rattle.swc_ecma_codegen_tree.specs.declared.decls.Decorator.{Decorator}
use Rattle.swc_ecma_codegen_tree.specs.declared.decls.Function as functions
use Rattle.swc_ecma_codegen_tree.specs.declared.ts_decls.TsExprWithTypeArgs.{TsExprWithTypeArgs}
use Rattle.swc_ecma_codegen_tree.specs.declared.ts_members.TsIndexSignature.{TsIndexSignature}
use Rattle.swc_ecma_codegen_tree.specs.Links.{ExprBox, FunctionBox, TsTypeParamInstantiationBox}
use Rattle.swc_ecma_codegen_grammar.specs.AnnotationPhrases.{field_annotation, question, type_params}
use Rattle.swc_ecma_codegen_grammar.specs.ElementPhrases.{element}
use Rattle.swc_ecma_codegen_grammar.specs.TypePhrases.{ann_at, args_at, params_at}
use Rattle.swc_ecma_codegen_grammar.specs.Phrases.{Phrase, Never, ◌>◌, where_, mark, word, in_order, is_possible}
use Rattle.swc_ecma_codegen_grammar.specs.MemberPhrases.{ts_index_signature}
use Rattle.swc_ecma_codegen_grammar.specs.NamePhrases.{ident, private_name}
use Rattle.swc_ecma_codegen_grammar.specs.PatPhrases.{value_at, prop_name_at, initializer}
use Rattle.swc_ecma_codegen_grammar.specs.FunctionPhrases.{word_if, decorator, param, function_body}
use Rattle.swc_ecma_codegen_grammar.specs.ClassPhrases.{member_at, decorators, class_head, class_word, heritage, implements_clause, class_tail, class_decl, accessibility, ts_param_prop_param, ts_param_prop, constructor_param, class_constructor, method_decorators, method_tail, accessor_tail, tail_role, kind_head, method_kind, class_method, private_method, prop_value, prop_modifiers, class_prop, private_modifiers, private_prop, accessor_key, accessor_modifiers, auto_accessor, class_member}
use Rattle.swc_ecma_codegen_grammar.specs.ExprPhrases.{expr}
use Rattle.swc_ecma_codegen_grammar.specs.TsDeclPhrases.{ts_expr_with_type_args}
use Rattle.swc_ecma_codegen_grammar.specs.TreePhrases.{is_sequence, field_value}
use Rattle.swc_ecma_codegen_grammar.specs.declared.roles.Role.{Role}
use Rattle.swc_ecma_codegen_grammar.specs.declared.roles.Role.TheVariants.{ClassHead, ClassWord, ClassTail, MethodDecorators}
use Rattle.swc_ecma_codegen_validate.specs.Possible.{all_possible}
use Rattle.swc_ecma_codegen_validate.proofs.Annotations.{args_possible, params_possible}
use Rattle.swc_ecma_codegen_validate.proofs.FunctionsPossible.{signature_possible}
use Rattle.swc_ecma_codegen_validate.proofs.Lists.{in_order_possible, listed_possible, and_true}
use Rattle.swc_ecma_codegen_validate.proofs.MembersPossible.{past_word, past_question}
use Rattle.swc_ecma_codegen_validate.proofs.TsDeclsPossible.{past_declare}

pub typed : (b : Bool) (p : Phrase) (c : Bool) → is_possible p ≡ c → is_possible (cond b Never p) ≡ (not b && c)
unfolding is_possible
typed true p c e = refl
typed false p c e = e

pub not_either : (a b c : Bool) → (not (a || b) && c) ≡ (not a && (not b && c))
not_either true b c = refl
not_either false b c = refl

-- ---- what TypeScript adds: words that may be there

past_accessibility : (a : Option Accessibility) (rest : Bool) → (is_possible (accessibility a) && rest) ≡ rest
unfolding is_possible accessibility
past_accessibility None rest = refl
past_accessibility (Some a) rest = refl

word_possible : (wanted : Bool) (t : List ℕ) → is_possible (word_if wanted (word t)) ≡ true
unfolding is_possible word_if
word_possible true t = refl
word_possible false t = refl

-- ---- classes

decorators_possible : {X : Type 0} (f : X → Role → Phrase) (ns : List (Decorator X)) → is_possible (decorators f ns) ≡ all_possible (decorator f) ns
unfolding decorators
decorators_possible f ns = in_order_possible (decorator f) ns

pub class_head_possible : {X : Type 0} (f : X → Role → Phrase) (n : classes.Class X) → is_possible (class_head f n) ≡ all_possible (decorator f) n.decorators.items
unfolding class_head
class_head_possible f n = decorators_possible f n.decorators.items

pub class_word_possible : {X : Type 0} (n : classes.Class X) → is_possible (class_word n) ≡ true
unfolding is_possible class_word
class_word_possible n = past_word n.is_abstract (codes "abstract") true

pub none_extended : {X : Type 0} (f : X → Role → Phrase) (args : Option (TsTypeParamInstantiationBox X)) → is_possible (heritage f None args) ≡ is_none args
unfolding is_possible heritage where_
none_extended f None = refl
none_extended f (Some t) = refl

pub one_extended : {X : Type 0} (f : X → Role → Phrase) (n : ExprBox X) (args : Option (TsTypeParamInstantiationBox X)) → is_possible (heritage f (Some n) args) ≡ (is_possible (value_at f n) && is_possible (element (args_at f) args))
unfolding is_possible heritage
one_extended f n args = ap (λ b. is_possible (value_at f n) && b) (args_possible f args)

implements_possible : {X : Type 0} (f : X → Role → Phrase) (ns : List (TsExprWithTypeArgs X)) → is_possible (implements_clause f ns) ≡ all_possible (ts_expr_with_type_args f) ns
unfolding is_possible implements_clause all_possible
implements_possible f [] = refl
implements_possible f (n ∷ ns) = listed_possible (codes ",") (ts_expr_with_type_args f) (n ∷ ns)

pub class_tail_possible : {X : Type 0} (f : X → Role → Phrase) (n : classes.Class X) → is_possible (class_tail f n) ≡ (is_possible (element (params_at f) n.type_params) && (is_possible (heritage f n.super_class n.super_type_params) && (all_possible (ts_expr_with_type_args f) n.implements.items && all_possible (member_at f) n.body.items)))
unfolding is_possible class_tail
class_tail_possible f n =
    let extended : Bool = is_possible (heritage f n.super_class n.super_type_params) in
    ap (λ b. is_possible (type_params f n.type_params) && (extended && (is_possible (implements_clause f n.implements.items) && b))) (and_true (is_possible (in_order (map (member_at f) n.body.items))) ∙ in_order_possible (member_at f) n.body.items)
    ∙ ap (λ b. is_possible (type_params f n.type_params) && (extended && (b && all_possible (member_at f) n.body.items))) (implements_possible f n.implements.items)
    ∙ ap (λ b. b && (extended && (all_possible (ts_expr_with_type_args f) n.implements.items && all_possible (member_at f) n.body.items))) (params_possible f n.type_params)

pub class_decl_possible : {X : Type 0} (f : X → Role → Phrase) (n : ClassDecl X) → is_possible (class_decl f n) ≡ (is_possible (f n.class.node.value ClassHead) && (is_possible (f n.class.node.value ClassWord) && (is_possible (ident n.ident) && is_possible (f n.class.node.value ClassTail))))
unfolding is_possible class_decl
class_decl_possible f n = past_declare n.declare _

-- ---- members

pub param_prop_possible : {X : Type 0} (f : X → Role → Phrase) (n : TsParamProp X) → is_possible (ts_param_prop f n) ≡ (all_possible (decorator f) n.decorators.items && is_possible (ts_param_prop_param f n.param))
unfolding is_possible ts_param_prop
param_prop_possible f n =
    past_accessibility n.accessibility _
    ∙ ap (λ b. is_possible (decorators f n.decorators.items) && b) (past_word n.is_override (codes "override") _ ∙ past_word n.readonly (codes "readonly") _)
    ∙ ap (λ b. b && is_possible (ts_param_prop_param f n.param)) (decorators_possible f n.decorators.items)

pub constructor_possible : {X : Type 0} (f : X → Role → Phrase) (n : Constructor X) → is_possible (class_constructor f n) ≡ (all_possible (constructor_param f) n.params.items && is_possible (function_body f n.body))
unfolding is_possible class_constructor
constructor_possible f n =
    past_accessibility n.accessibility _
    ∙ ap (λ b. b && is_possible (function_body f n.body)) (listed_possible (codes ",") (constructor_param f) n.params.items)

pub method_decorators_possible : {X : Type 0} (f : X → Role → Phrase) (n : functions.Function X) → is_possible (method_decorators f n) ≡ all_possible (decorator f) n.decorators.items
unfolding method_decorators
method_decorators_possible f n = decorators_possible f n.decorators.items

pub method_tail_possible : {X : Type 0} (f : X → Role → Phrase) (n : functions.Function X) → is_possible (method_tail f n) ≡ (is_possible (element (params_at f) n.type_params) && (all_possible (param f) n.params.items && (is_possible (element (ann_at f) n.return_type) && is_possible (function_body f n.body))))
unfolding is_possible method_tail
method_tail_possible f n = signature_possible f n.type_params (param f) n.params.items n.return_type (is_possible (function_body f n.body))

pub accessor_tail_possible : {X : Type 0} (f : X → Role → Phrase) (n : functions.Function X) → is_possible (accessor_tail f n) ≡ (not n.is_async && (not n.is_generator && is_possible (method_tail f n)))
unfolding accessor_tail
accessor_tail_possible f n = typed (n.is_async || n.is_generator) _ _ refl ∙ not_either n.is_async n.is_generator (is_possible (method_tail f n))

kind_possible : {X : Type 0} (f : X → Role → Phrase) (is_static is_abstract is_override : Bool) (kind : MethodKind) (n : FunctionBox X) → is_possible (method_kind f is_static is_abstract is_override kind n) ≡ is_possible (kind_head f kind n)
unfolding is_possible method_kind
kind_possible f is_static is_abstract is_override kind n =
    past_word is_static (codes "static") _ ∙ past_word is_abstract (codes "abstract") _ ∙ past_word is_override (codes "override") _

-- what may stand before the key of a method, and behind it
past_modifiers : (first kind head key : Bool) (a : Option Accessibility) (optional : Bool) (rest : Bool) → kind ≡ head → (first && (is_possible (accessibility a) && (kind && (key && (is_possible (question optional) && rest))))) ≡ (first && (head && (key && rest)))
past_modifiers first kind head key a optional rest e =
    ap (λ b. first && b) (past_accessibility a _)
    ∙ ap (λ b. first && (b && (key && (is_possible (question optional) && rest)))) e
    ∙ ap (λ b. first && (head && (key && b))) (past_question optional rest)

pub method_possible : {X : Type 0} (f : X → Role → Phrase) (n : ClassMethod X) → is_possible (class_method f n) ≡ (is_possible (f n.function.node.value MethodDecorators) && (is_possible (kind_head f n.kind n.function) && (is_possible (prop_name_at f n.key) && is_possible (f n.function.node.value (tail_role n.kind)))))
unfolding is_possible class_method
method_possible f n = past_modifiers _ _ _ _ n.accessibility n.is_optional _ (kind_possible f n.is_static n.is_abstract n.is_override n.kind n.function)

pub private_method_possible : {X : Type 0} (f : X → Role → Phrase) (n : PrivateMethod X) → is_possible (private_method f n) ≡ (is_possible (f n.function.node.value MethodDecorators) && (is_possible (kind_head f n.kind n.function) && (is_possible (private_name n.key) && is_possible (f n.function.node.value (tail_role n.kind)))))
unfolding is_possible private_method
private_method_possible f n = past_modifiers _ _ _ _ n.accessibility n.is_optional _ (kind_possible f n.is_static n.is_abstract n.is_override n.kind n.function)

in_parentheses : (b : Bool) (p : Phrase) → is_possible (cond b (mark (codes "(") > p > mark (codes ")")) p) ≡ is_possible p
unfolding is_possible
in_parentheses true p = and_true (is_possible p)
in_parentheses false p = refl

-- the value of a field is well-formed where it is another expression
pub field_value_possible : {X : Type 0} (f : X → Role → Phrase) (n : Expr X) → is_possible (field_value f n) ≡ is_possible (expr f n)
unfolding field_value
field_value_possible f n = in_parentheses (is_sequence n) (expr f n)

prop_modifiers_possible : {X : Type 0} (n : ClassProp X) → is_possible (prop_modifiers n) ≡ true
unfolding is_possible prop_modifiers
prop_modifiers_possible n =
    past_declare n.declare _
    ∙ past_accessibility n.accessibility _
    ∙ past_word n.is_static (codes "static") _
    ∙ past_word n.is_abstract (codes "abstract") _
    ∙ past_word n.is_override (codes "override") _
    ∙ word_possible n.readonly (codes "readonly")

private_modifiers_possible : {X : Type 0} (n : PrivateProp X) → is_possible (private_modifiers n) ≡ true
unfolding is_possible private_modifiers
private_modifiers_possible n =
    past_accessibility n.accessibility _
    ∙ past_word n.is_static (codes "static") _
    ∙ past_word n.is_override (codes "override") _
    ∙ word_possible n.readonly (codes "readonly")

accessor_modifiers_possible : {X : Type 0} (n : AutoAccessor X) → is_possible (accessor_modifiers n) ≡ true
unfolding is_possible accessor_modifiers
accessor_modifiers_possible n =
    past_accessibility n.accessibility _
    ∙ past_word n.is_static (codes "static") _
    ∙ past_word n.is_abstract (codes "abstract") _
    ∙ word_possible n.is_override (codes "override")

-- the parts of a field, without what may stand between
field_possible : (first modifiers key ann value decorated : Bool) (optional : Bool) → first ≡ decorated → modifiers ≡ true → (first && (modifiers && (key && (is_possible (question optional) && (ann && (value && true)))))) ≡ (decorated && (key && (ann && value)))
field_possible first modifiers key ann value decorated optional e h =
    ap (λ b. b && (modifiers && (key && (is_possible (question optional) && (ann && (value && true)))))) e
    ∙ ap (λ b. decorated && (b && (key && (is_possible (question optional) && (ann && (value && true)))))) h
    ∙ ap (λ b. decorated && (key && b)) (past_question optional (ann && (value && true)))
    ∙ ap (λ b. decorated && (key && (ann && b))) (and_true value)

pub prop_possible : {X : Type 0} (f : X → Role → Phrase) (n : ClassProp X) → is_possible (class_prop f n) ≡ (all_possible (decorator f) n.decorators.items && (is_possible (prop_name_at f n.key) && (is_possible (field_annotation f n.definite n.type_ann) && is_possible (prop_value f n.value))))
unfolding is_possible class_prop
prop_possible f n = field_possible _ _ _ _ _ _ n.is_optional (decorators_possible f n.decorators.items) (prop_modifiers_possible n)

pub private_prop_possible : {X : Type 0} (f : X → Role → Phrase) (n : PrivateProp X) → is_possible (private_prop f n) ≡ (all_possible (decorator f) n.decorators.items && (is_possible (private_name n.key) && (is_possible (field_annotation f n.definite n.type_ann) && is_possible (prop_value f n.value))))
unfolding is_possible private_prop
private_prop_possible f n = field_possible _ _ _ _ _ _ n.is_optional (decorators_possible f n.decorators.items) (private_modifiers_possible n)

pub accessor_possible : {X : Type 0} (f : X → Role → Phrase) (n : AutoAccessor X) → is_possible (auto_accessor f n) ≡ (all_possible (decorator f) n.decorators.items && (is_possible (accessor_key f n.key) && (is_possible (field_annotation f n.definite n.type_ann) && is_possible (initializer f n.value))))
unfolding is_possible auto_accessor
accessor_possible f n =
    let key : Bool = is_possible (accessor_key f n.key) in
    let ann : Bool = is_possible (field_annotation f n.definite n.type_ann) in
    ap (λ b. b && (is_possible (accessor_modifiers n) && (key && (ann && (is_possible (initializer f n.value) && true))))) (decorators_possible f n.decorators.items)
    ∙ ap (λ b. all_possible (decorator f) n.decorators.items && (b && (key && (ann && (is_possible (initializer f n.value) && true))))) (accessor_modifiers_possible n)
    ∙ ap (λ b. all_possible (decorator f) n.decorators.items && (key && (ann && b))) (and_true (is_possible (initializer f n.value)))

pub index_member_possible : {X : Type 0} (f : X → Role → Phrase) (n : TsIndexSignature X) → is_possible (class_member f (members.TsIndexSignature n)) ≡ is_possible (ts_index_signature f n)
unfolding is_possible class_member
index_member_possible f n = and_true _
