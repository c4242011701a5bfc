-- Without nonterminals the forms of classes are the productions that tell their tokens, where they keep their structure.
use Rattle.std.proofs.Common.{◌≡◌, Bool, true, false, ◌||◌, refl, sym, ap, ap₂, ◌∙◌, List, [], ◌∷◌, map, codes, Option, Some, None}
use Rattle.std.proofs.lemmas.Bool.{true≢false, and_parts}
use Rattle.swc_ecma_codegen_tree.specs.Links.{ExprBox, FunctionBox, TsTypeAnnBox, TsTypeParamInstantiationBox}
use Rattle.swc_ecma_codegen_tree.specs.declared.classes.Class as classes
use Rattle.swc_ecma_codegen_tree.specs.declared.classes.ClassMember as class_members
use Rattle.swc_ecma_codegen_tree.specs.declared.classes.ClassMember.TheVariants as members
use Rattle.swc_ecma_codegen_tree.specs.declared.classes.ClassMethod.{ClassMethod}
use Rattle.swc_ecma_codegen_tree.specs.declared.classes.ClassProp.{ClassProp}
use Rattle.swc_ecma_codegen_tree.specs.declared.classes.Constructor.{Constructor}
use Rattle.swc_ecma_codegen_tree.specs.declared.classes.AutoAccessor.{AutoAccessor}
use Rattle.swc_ecma_codegen_tree.specs.declared.classes.MethodKind.{MethodKind}
use Rattle.swc_ecma_codegen_tree.specs.declared.classes.Key.{Key}
use Rattle.swc_ecma_codegen_tree.specs.declared.classes.Key.TheVariants as keys
use Rattle.swc_ecma_codegen_tree.specs.declared.classes.MethodKind.TheVariants.{Method, Getter, Setter}
use Rattle.swc_ecma_codegen_tree.specs.declared.classes.ParamOrTsParamProp.{ParamOrTsParamProp}
use Rattle.swc_ecma_codegen_tree.specs.declared.classes.ParamOrTsParamProp.TheVariants as params
use Rattle.swc_ecma_codegen_tree.specs.declared.classes.PrivateMethod.{PrivateMethod}
use Rattle.swc_ecma_codegen_tree.specs.declared.classes.PrivateProp.{PrivateProp}
use Rattle.swc_ecma_codegen_tree.specs.declared.decls.ClassDecl.{ClassDecl}
use Rattle.swc_ecma_codegen_tree.specs.declared.decls.Decorator.{Decorator}
use Rattle.swc_ecma_codegen_tree.specs.declared.decls.Function as functions
use Rattle.swc_ecma_codegen_tree.specs.declared.exprs.ClassExpr.{ClassExpr}
use Rattle.swc_ecma_codegen_tree.specs.declared.exprs.Expr.{Expr}
use Rattle.swc_ecma_codegen_tree.specs.declared.exprs.Expr.TheVariants as exprs
use Rattle.swc_ecma_codegen_tree.specs.declared.ts_decls.TsExprWithTypeArgs.{TsExprWithTypeArgs}
use Rattle.swc_ecma_codegen_grammar.specs.Phrases.{Phrase, Nothing, Then, ◌>◌, word, mark, ending, same_line}
use Rattle.swc_ecma_codegen_grammar.specs.Phrases as phrases
use Rattle.swc_ecma_codegen_grammar.specs.AnnotationPhrases.{question, field_annotation}
use Rattle.swc_ecma_codegen_grammar.specs.NamePhrases.{ident, private_name}
use Rattle.swc_ecma_codegen_grammar.specs.PatPhrases.{prop_name_at, initializer}
use Rattle.swc_ecma_codegen_grammar.specs.FunctionPhrases.{is_some_listed}
use Rattle.swc_ecma_codegen_grammar.specs.ClassPhrases.{decorators, heritage, implements_clause, class_tail, class_decl, class_expr, accessibility, constructor_param, class_constructor, method_tail, accessor_tail, tail_role, kind_head, method_kind, class_method, private_method, prop_value, prop_modifiers, class_prop, private_modifiers, private_prop, static_block, class_member, accessor_key, accessor_modifiers, auto_accessor}
use Rattle.swc_ecma_codegen_grammar.specs.TsDeclPhrases.{declare_word}
use Rattle.swc_ecma_codegen_grammar.specs.ExprPhrases.{expr}
use Rattle.swc_ecma_codegen_grammar.specs.TreePhrases.{is_sequence, field_value}
use Rattle.swc_ecma_codegen_grammar.specs.declared.roles.Role.{Role}
use Rattle.swc_ecma_codegen_grammar.specs.declared.roles.Role.TheVariants.{ClassHead, ClassWord, ClassTail, Member, MethodDecorators, Expression}
use Rattle.swc_ecma_codegen_syntax.specs.declared.nonterminals.Nonterminal.{Nonterminal}
use Rattle.swc_ecma_codegen_syntax.specs.declared.nonterminals.Nonterminal.TheVariants as nt
use Rattle.swc_ecma_codegen_syntax.specs.declared.parameters.Parameters.{Parameters}
use Rattle.swc_ecma_codegen_syntax.specs.Summary.{Summary}
use Rattle.swc_ecma_codegen_syntax.specs.Parameters.{of_class, of_function, of_parameters}
use Rattle.swc_ecma_codegen_syntax.specs.Forms.{Form, Part, forget, keeps, is_met, ending_after, ending_listed, ByCore}
use Rattle.swc_ecma_codegen_syntax.specs.NameForms.{name_form}
use Rattle.swc_ecma_codegen_syntax.specs.FunctionForms.{type_params_form, bound_name_form, decorators_form, own_of, parameters_of, param_form}
use Rattle.swc_ecma_codegen_syntax.specs.ClassForms.{heritage_form, implemented_form, implements_form, class_tail_form, class_decl_form, class_rest_form, class_expr_form, accessibility_form, constructor_param_form, constructor_form, rest_of_accessor, accessor_form, kind_form, method_kind_form, optional_mark_form, method_form, private_method_form, field_value_form, field_type_form, field_form, private_field_form, static_block_form, member_of_class_form, field_expr_form, accessor_key_form, accessor_value_form, auto_accessor_form}
use Rattle.swc_ecma_codegen_syntax.specs.Verdicts.{Grammar}
use Rattle.swc_ecma_codegen_syntax.proofs.Judged.{listed_forgets, order_forgets, map_same}
use Rattle.swc_ecma_codegen_syntax.proofs.Forgets.{annotation_forgets, args_forget}
use Rattle.swc_ecma_codegen_syntax.proofs.FunctionForgets.{type_params_forget, decorators_forget, optional_name_forgets, param_forgets, body_forgets, never_or}

-- ---- a class

heritage_forgets : {X : Type 0} (p : X → Role → Phrase) (c : Parameters) (n : Option (ExprBox X)) (args : Option (TsTypeParamInstantiationBox X)) → forget p (heritage_form c n args) ≡ heritage p n args
unfolding forget heritage_form heritage
heritage_forgets p c None args = refl
heritage_forgets p c (Some n) args = ap (λ q. word (codes "extends") > p n.node.value Expression > q) (args_forget p c args)

implements_forgets : {X : Type 0} (grammar : Grammar) (f : X → Role → Parameters → Summary) (p : X → Role → Phrase) (ns : List (TsExprWithTypeArgs X)) → keeps grammar f (implements_form ns) ≡ true → forget p (implements_form ns) ≡ implements_clause p ns
unfolding forget keeps is_met implements_form implemented_form is_some_listed implements_clause
implements_forgets grammar f p [] k = refl
implements_forgets grammar f p (n ∷ ns) k = absurd (true≢false (sym k))

pub class_tail_forgets : {X : Type 0} (grammar : Grammar) (f : X → Role → Parameters → Summary) (p : X → Role → Phrase) (c : Parameters) (n : classes.Class X) → keeps grammar f (class_tail_form c n) ≡ true → forget p (class_tail_form c n) ≡ class_tail p n
unfolding forget keeps class_tail_form class_tail
class_tail_forgets grammar f p c n k =
    let (_, l) = and_parts (keeps grammar f (type_params_form c n.type_params)) _ k in
    let (_, m) = and_parts (keeps grammar f (heritage_form (of_class c) n.super_class n.super_type_params)) _ l in
    let (implemented, _) = and_parts (keeps grammar f (implements_form n.implements.items)) _ m in
    ap₂ Then (type_params_forget p c n.type_params)
    (ap₂ Then (heritage_forgets p (of_class c) n.super_class n.super_type_params)
    (ap₂ (λ q r. q > mark (codes "{") > r > mark (codes "}")) (implements_forgets grammar f p n.implements.items implemented)
    (order_forgets p (λ m. Part nt.ClassElement (of_class c) Member m.node.value) n.body.items)))

pub class_decl_forgets : {X : Type 0} (p : X → Role → Phrase) (c : Parameters) (n : ClassDecl X) → forget p (class_decl_form c n) ≡ class_decl p n
unfolding forget class_decl_form bound_name_form name_form class_decl
class_decl_forgets p c n = refl

pub class_rest_forgets : {X : Type 0} (p : X → Role → Phrase) (c : Parameters) (n : ClassDecl X) →
    forget p (class_rest_form c n) ≡ (declare_word n.declare > p n.class.node.value ClassWord > ident n.ident > p n.class.node.value ClassTail)
unfolding forget class_rest_form bound_name_form name_form
class_rest_forgets p c n = refl

pub class_expr_forgets : {X : Type 0} (p : X → Role → Phrase) (c : Parameters) (n : ClassExpr X) → forget p (class_expr_form c n) ≡ class_expr p n
unfolding forget class_expr_form class_expr
class_expr_forgets p c n = ap (λ q. p n.class.node.value ClassHead > p n.class.node.value ClassWord > q > p n.class.node.value ClassTail) (optional_name_forgets p (of_class c) n.ident)

-- ---- methods

kept_after : {X A : Type 0} (grammar : Grammar) (f : X → Role → Parameters → Summary) (p : X → Role → Phrase) (e : Nonterminal → A → Form X) (d : A → Phrase) →
    ((place : Nonterminal) (x : A) → keeps grammar f (e place x) ≡ true → forget p (e place x) ≡ d x) → (xs : List A) → keeps grammar f (ending_after e xs) ≡ true → forget p (ending_after e xs) ≡ phrases.each_after (codes ",") (map d xs)
unfolding forget keeps ending_after phrases.each_after
kept_after grammar f p e d same [] k = refl
kept_after grammar f p e d same (x ∷ []) k = ap (λ q. mark (codes ",") > q > Nothing) (same nt.LastElement x (and_parts (keeps grammar f (e nt.LastElement x)) true k).0)
kept_after grammar f p e d same (x ∷ y ∷ xs) k =
    let (h, l) = and_parts (keeps grammar f (e nt.PatternElement x)) (keeps grammar f (ending_after e (y ∷ xs))) k in
    ap₂ (λ q r. mark (codes ",") > q > r) (same nt.PatternElement x h) (kept_after grammar f p e d same (y ∷ xs) l)

kept_ending : {X A : Type 0} (grammar : Grammar) (f : X → Role → Parameters → Summary) (p : X → Role → Phrase) (e : Nonterminal → A → Form X) (d : A → Phrase) →
    ((place : Nonterminal) (x : A) → keeps grammar f (e place x) ≡ true → forget p (e place x) ≡ d x) → (xs : List A) → keeps grammar f (ending_listed e xs) ≡ true → forget p (ending_listed e xs) ≡ phrases.listed (codes ",") (map d xs)
unfolding forget keeps ending_listed phrases.listed phrases.each_after
kept_ending grammar f p e d same [] k = refl
kept_ending grammar f p e d same (x ∷ []) k = ap (λ q. q > Nothing) (same nt.LastElement x (and_parts (keeps grammar f (e nt.LastElement x)) true k).0)
kept_ending grammar f p e d same (x ∷ y ∷ xs) k =
    let (h, l) = and_parts (keeps grammar f (e nt.PatternElement x)) (keeps grammar f (ending_after e (y ∷ xs))) k in
    ap₂ (λ q r. q > r) (same nt.PatternElement x h) (kept_after grammar f p e d same (y ∷ xs) l)

constructor_param_forgets : {X : Type 0} (grammar : Grammar) (f : X → Role → Parameters → Summary) (p : X → Role → Phrase) (c : Parameters) (place : Nonterminal) (n : ParamOrTsParamProp X) → keeps grammar f (constructor_param_form c place n) ≡ true →
    forget p (constructor_param_form c place n) ≡ constructor_param p n
unfolding keeps is_met constructor_param_form constructor_param
constructor_param_forgets grammar f p c place (params.Param n) k = param_forgets p c place n
constructor_param_forgets grammar f p c place (params.TsParamProp n) k = absurd (true≢false (sym k))

constructor_forgets : {X : Type 0} (grammar : Grammar) (f : X → Role → Parameters → Summary) (p : X → Role → Phrase) (c : Parameters) (n : Constructor X) → keeps grammar f (constructor_form c n) ≡ true → forget p (constructor_form c n) ≡ class_constructor p n
unfolding forget keeps constructor_form accessibility_form class_constructor
constructor_forgets grammar f p c n k =
    let listed : Parameters = of_parameters false false c in
    let (_, l) = and_parts _ _ k in
    let (params, _) = and_parts (keeps grammar f (ending_listed (constructor_param_form listed) n.params.items)) _ l in
    ap₂ (λ q r. accessibility n.accessibility > word (codes "constructor") > mark (codes "(") > q > mark (codes ")") > r)
    (kept_ending grammar f p (constructor_param_form listed) (constructor_param p) (constructor_param_forgets grammar f p listed) n.params.items params) (body_forgets p (of_function false false c) n.body)

rest_of_accessor_forgets : {X : Type 0} (p : X → Role → Phrase) (c : Parameters) (n : functions.Function X) → forget p (rest_of_accessor c n) ≡ method_tail p n
unfolding forget rest_of_accessor method_tail
rest_of_accessor_forgets p c n =
    ap₂ (λ q r. q > mark (codes "(") > r) (type_params_forget p c n.type_params)
    (ap₂ (λ q r. q > mark (codes ")") > r) (listed_forgets p (codes ",") (param_form (parameters_of c n) nt.PatternElement) n.params.items ∙ ap (phrases.listed (codes ",")) (map_same _ _ (param_forgets p (parameters_of c n) nt.PatternElement) n.params.items))
    (ap₂ (λ q r. q > r) (annotation_forgets p c n.return_type) (body_forgets p (own_of c n) n.body)))

pub accessor_forgets : {X : Type 0} (p : X → Role → Phrase) (c : Parameters) (n : functions.Function X) → forget p (accessor_form c n) ≡ accessor_tail p n
unfolding accessor_form accessor_tail
accessor_forgets p c n = never_or p (n.is_async || n.is_generator) _ _ (rest_of_accessor_forgets p c n)

pub class_decorators_forget : {X : Type 0} (p : X → Role → Phrase) (c : Parameters) (ns : List (Decorator X)) → forget p (decorators_form {X = X} ByCore c ns) ≡ decorators p ns
unfolding decorators
class_decorators_forget p c ns = decorators_forget p ByCore c ns

kind_forgets : {X : Type 0} (p : X → Role → Phrase) (c : Parameters) (is_static is_abstract is_override : Bool) (kind : MethodKind) (n : FunctionBox X) →
    forget p (method_kind_form c is_static is_abstract is_override kind n) ≡ method_kind p is_static is_abstract is_override kind n
unfolding forget method_kind_form kind_form method_kind kind_head
kind_forgets p c is_static is_abstract is_override Method n = refl
kind_forgets p c is_static is_abstract is_override Getter n = refl
kind_forgets p c is_static is_abstract is_override Setter n = refl

method_forgets : {X : Type 0} (p : X → Role → Phrase) (c : Parameters) (n : ClassMethod X) → forget p (method_form c n) ≡ class_method p n
unfolding forget method_form accessibility_form optional_mark_form class_method
method_forgets p c n =
    ap (λ q. p n.function.node.value MethodDecorators > accessibility n.accessibility > q > prop_name_at p n.key > question n.is_optional > p n.function.node.value (tail_role n.kind))
    (kind_forgets p c n.is_static n.is_abstract n.is_override n.kind n.function)

private_method_forgets : {X : Type 0} (p : X → Role → Phrase) (c : Parameters) (n : PrivateMethod X) → forget p (private_method_form c n) ≡ private_method p n
unfolding forget private_method_form accessibility_form optional_mark_form private_method
private_method_forgets p c n =
    ap (λ q. p n.function.node.value MethodDecorators > accessibility n.accessibility > q > private_name n.key > question n.is_optional > p n.function.node.value (tail_role n.kind))
    (kind_forgets p c n.is_static n.is_abstract n.is_override n.kind n.function)

-- ---- fields

field_type_forgets : {X : Type 0} (p : X → Role → Phrase) (c : Parameters) (definite : Bool) (n : Option (TsTypeAnnBox X)) → forget p (field_type_form c definite n) ≡ field_annotation p definite n
unfolding forget field_type_form field_annotation
field_type_forgets p c definite None = refl
field_type_forgets p c definite (Some n) = refl

field_value_forgets : {X : Type 0} (p : X → Role → Phrase) (c : Parameters) (n : Option (ExprBox X)) → forget p (field_value_form c n) ≡ prop_value p n
unfolding forget field_value_form prop_value
field_value_forgets p c None = refl
field_value_forgets p c (Some n) = refl

field_forgets : {X : Type 0} (p : X → Role → Phrase) (c : Parameters) (n : ClassProp X) → forget p (field_form c n) ≡ class_prop p n
unfolding forget field_form optional_mark_form class_prop
field_forgets p c n =
    ap₂ (λ q r. q > prop_modifiers n > prop_name_at p n.key > question n.is_optional > r) (class_decorators_forget p c n.decorators.items)
    (ap₂ (λ q r. q > r > ending) (field_type_forgets p c n.definite n.type_ann) (field_value_forgets p c n.value))

private_field_forgets : {X : Type 0} (p : X → Role → Phrase) (c : Parameters) (n : PrivateProp X) → forget p (private_field_form c n) ≡ private_prop p n
unfolding forget private_field_form optional_mark_form private_prop
private_field_forgets p c n =
    ap₂ (λ q r. q > private_modifiers n > private_name n.key > question n.is_optional > r) (class_decorators_forget p c n.decorators.items)
    (ap₂ (λ q r. q > r > ending) (field_type_forgets p c n.definite n.type_ann) (field_value_forgets p c n.value))

accessor_key_forgets : {X : Type 0} (p : X → Role → Phrase) (c : Parameters) (n : Key X) → forget p (accessor_key_form c n) ≡ accessor_key p n
unfolding forget accessor_key_form accessor_key
accessor_key_forgets p c (keys.Public n) = refl
accessor_key_forgets p c (keys.Private n) = refl

accessor_value_forgets : {X : Type 0} (p : X → Role → Phrase) (c : Parameters) (n : Option (ExprBox X)) → forget p (accessor_value_form c n) ≡ initializer p n
unfolding forget accessor_value_form initializer
accessor_value_forgets p c None = refl
accessor_value_forgets p c (Some n) = refl

auto_accessor_forgets : {X : Type 0} (p : X → Role → Phrase) (c : Parameters) (n : AutoAccessor X) → forget p (auto_accessor_form c n) ≡ auto_accessor p n
unfolding forget auto_accessor_form auto_accessor
auto_accessor_forgets p c n =
    ap₂ (λ q r. q > accessor_modifiers n > word (codes "accessor") > same_line > r) (class_decorators_forget p c n.decorators.items)
    (ap₂ (λ q r. q > r) (accessor_key_forgets p c n.key) (ap₂ (λ q r. q > r > ending) (field_type_forgets p c n.definite n.type_ann) (accessor_value_forgets p c n.value)))

-- ---- members

pub class_member_forgets : {X : Type 0} (grammar : Grammar) (f : X → Role → Parameters → Summary) (p : X → Role → Phrase) (c : Parameters) (n : class_members.ClassMember X) → keeps grammar f (member_of_class_form c n) ≡ true →
    forget p (member_of_class_form c n) ≡ class_member p n
unfolding forget keeps is_met member_of_class_form static_block_form class_member static_block
class_member_forgets grammar f p c (members.Constructor n) k = constructor_forgets grammar f p c n k
class_member_forgets grammar f p c (members.Method n) k = method_forgets p c n
class_member_forgets grammar f p c (members.PrivateMethod n) k = private_method_forgets p c n
class_member_forgets grammar f p c (members.ClassProp n) k = field_forgets p c n
class_member_forgets grammar f p c (members.PrivateProp n) k = private_field_forgets p c n
class_member_forgets grammar f p c (members.Empty n) k = refl
class_member_forgets grammar f p c (members.StaticBlock n) k = refl
class_member_forgets grammar f p c (members.AutoAccessor n) k = auto_accessor_forgets p c n
class_member_forgets grammar f p c (members.TsIndexSignature n) k = absurd (true≢false (sym k))

-- ---- the value of a field

pub field_expr_forgets : {X : Type 0} (p : X → Role → Phrase) (a : Form X) (n : Expr X) → forget p a ≡ expr p n → forget p (field_expr_form a n) ≡ field_value p n
unfolding forget field_expr_form field_value is_sequence
field_expr_forgets p a (exprs.Seq n) same = ap (λ q. mark (codes "(") > q > mark (codes ")")) same
field_expr_forgets p a n same = same

pub field_expr_keeps : {X : Type 0} (grammar : Grammar) (f : X → Role → Parameters → Summary) (a : Form X) (n : Expr X) → keeps grammar f (field_expr_form a n) ≡ true → keeps grammar f a ≡ true
unfolding keeps field_expr_form
field_expr_keeps grammar f a (exprs.Seq n) k = (and_parts (keeps grammar f a) true k).0
field_expr_keeps grammar f a n k = k
