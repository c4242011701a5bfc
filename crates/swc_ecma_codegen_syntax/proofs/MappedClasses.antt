-- The forms of classes over what links hold as something else.
use Rattle.std.proofs.Common.{◌≡◌, Bool, false, cond, codes, refl, ◌∙◌, ap, ap₂, List, [], ◌∷◌, map, Option, Some, None, Box, Global}
use Rattle.swc_ecma_codegen_tree.specs.Links.{BlockStmtBox, ClassMemberBox, ExprBox, TsTypeAnnBox, TsTypeParamDeclBox, TsTypeParamInstantiationBox}
use Rattle.swc_ecma_codegen_tree.specs.declared.links.AnyNode.{AnyNode-F, map-AnyNode}
use Rattle.swc_ecma_codegen_tree.specs.declared.links.AnyNode.TheOpen as nodes
use Rattle.swc_ecma_codegen_tree.specs.declared.parts.StmtPart.TheVariants as stmt_parts
use Rattle.swc_ecma_codegen_tree.specs.declared.classes.Class as classes
use Rattle.swc_ecma_codegen_tree.specs.declared.classes.ClassMember as class_members
use Rattle.swc_ecma_codegen_tree.specs.declared.classes.ClassMember.TheVariants as members
use Rattle.swc_ecma_codegen_tree.specs.declared.classes.ClassMethod.{ClassMethod}
use Rattle.swc_ecma_codegen_tree.specs.declared.classes.ClassProp.{ClassProp}
use Rattle.swc_ecma_codegen_tree.specs.declared.classes.Constructor.{Constructor}
use Rattle.swc_ecma_codegen_tree.specs.declared.classes.AutoAccessor.{AutoAccessor}
use Rattle.swc_ecma_codegen_tree.specs.declared.classes.MethodKind.{MethodKind}
use Rattle.swc_ecma_codegen_tree.specs.declared.classes.Key.{Key}
use Rattle.swc_ecma_codegen_tree.specs.declared.classes.Key.TheVariants as keys
use Rattle.swc_ecma_codegen_tree.specs.declared.classes.MethodKind.TheVariants.{Method, Getter, Setter}
use Rattle.swc_ecma_codegen_tree.specs.declared.classes.ParamOrTsParamProp.{ParamOrTsParamProp}
use Rattle.swc_ecma_codegen_tree.specs.declared.classes.PrivateMethod.{PrivateMethod}
use Rattle.swc_ecma_codegen_tree.specs.declared.classes.PrivateProp.{PrivateProp}
use Rattle.swc_ecma_codegen_tree.specs.declared.decls.Decorator.{Decorator}
use Rattle.swc_ecma_codegen_tree.specs.declared.decls.Function as functions
use Rattle.swc_ecma_codegen_tree.specs.declared.decls.Param.{Param}
use Rattle.swc_ecma_codegen_tree.specs.declared.exprs.ClassExpr.{ClassExpr}
use Rattle.swc_ecma_codegen_tree.specs.declared.exprs.Expr.TheVariants as exprs
use Rattle.swc_ecma_codegen_tree.specs.declared.ts_decls.TsExprWithTypeArgs.{TsExprWithTypeArgs}
use Rattle.swc_ecma_codegen_grammar.specs.Phrases.{Never, mark, word}
use Rattle.swc_ecma_codegen_grammar.specs.ClassPhrases.{tail_role, prop_modifiers, private_modifiers, accessor_modifiers}
use Rattle.swc_ecma_codegen_grammar.specs.FunctionPhrases.{is_some_listed}
use Rattle.swc_ecma_codegen_grammar.specs.declared.roles.Role.TheVariants.{ClassHead, ClassWord, ClassTail, Member, MethodDecorators, AccessorTail}
use Rattle.swc_ecma_codegen_grammar.proofs.MappedClasses.{each_param}
use Rattle.swc_ecma_codegen_grammar.proofs.MappedFunctions.{with_parts}
use Rattle.swc_ecma_codegen_syntax.specs.declared.nonterminals.Nonterminal.TheVariants as nt
use Rattle.swc_ecma_codegen_syntax.specs.declared.parameters.Parameters.{Parameters}
use Rattle.swc_ecma_codegen_syntax.specs.Parameters.{of_class, of_parameters}
use Rattle.swc_ecma_codegen_syntax.specs.Forms.{Form, Fixed, Part, Provided, ByRule, ◌⇢◌, map_form, ByCore}
use Rattle.swc_ecma_codegen_syntax.specs.MemberForms.{annotation_form, type_args_form}
use Rattle.swc_ecma_codegen_syntax.specs.ExprForms.{expr_form}
use Rattle.swc_ecma_codegen_syntax.specs.FunctionForms.{type_params_form, decorator_form, decorators_form, param_form, body_form}
use Rattle.swc_ecma_codegen_syntax.specs.ClassForms.{heritage_form, implemented_form, implements_form, class_tail_form, class_expr_form, accessibility_form, constructor_param_form, constructor_form, accessor_nonterminal, rest_of_accessor, accessor_form, tail_of, kind_form, method_kind_form, optional_mark_form, method_form, private_method_form, field_value_form, plain_modifiers, field_type_form, field_form, plain_private_modifiers, private_field_form, static_block_form, member_of_class_form, accessor_key_form, accessor_value_form, auto_accessor_form, plain_accessor_modifiers}
use Rattle.swc_ecma_codegen_syntax.specs.NodeForms.{node_form, node_nonterminal, stmt_part_form, stmt_part_nonterminal, part_form, part_nonterminal}
use Rattle.swc_ecma_codegen_syntax.proofs.Judged.{listed_mapped, order_mapped}
use Rattle.swc_ecma_codegen_syntax.proofs.MappedCalls.{form_in}
use Rattle.swc_ecma_codegen_syntax.proofs.MappedPats.{pat_mapped, pat_sort_mapped}
use Rattle.swc_ecma_codegen_syntax.proofs.MappedFunctions.{decorators_mapped, param_mapped, ending_mapped, never_mapped, rest_parts, optional_name_mapped}

-- ---- functions of methods

pub method_decorators_mapped : {X Y : Type 0} (g : X → Y) (called : Bool) (c : Parameters) (b : Box (functions.Function X) Global) →
    node_form called c (map-AnyNode X Y g (nodes.StmtPart (stmt_parts.Function b))) MethodDecorators ≡ map_form g (decorators_form ByCore c b.value.decorators.items)
unfolding node_form stmt_part_form decorator_form map_form
method_decorators_mapped g called c b = decorators_mapped g _ ByCore c (λ n. refl) b.value.decorators.items

accessor_same : {X Y : Type 0} (g : X → Y) (other : Bool) (types params others result body : Form Y) (a : Form X) → params ≡ others → rest_parts types others result body ≡ map_form g a →
    cond other (Provided ByRule false (Fixed Never)) (rest_parts types params result body) ≡ map_form g (cond other (Provided ByRule false (Fixed Never)) a)
accessor_same g other types params others result body a e k =
    ap (λ z. cond other (Provided ByRule false (Fixed Never)) (rest_parts types z result body)) e ∙ ap (cond other (Provided ByRule false (Fixed Never))) k ∙ never_mapped g other a

accessor_by : {X Y : Type 0} (g : X → Y) (called : Bool) (c : Parameters) (b : Box (functions.Function X) Global) (n : functions.Function X) (body : Option (BlockStmtBox X)) (type_params : Option (TsTypeParamDeclBox X)) (return_type : Option (TsTypeAnnBox X)) →
    node_form called c (map-AnyNode X Y g (nodes.StmtPart (stmt_parts.Function (record b { value = with_parts n body type_params return_type })))) AccessorTail ≡ map_form g (accessor_form c (with_parts n body type_params return_type))
unfolding node_form part_form node_nonterminal part_nonterminal stmt_part_form accessor_form rest_of_accessor type_params_form annotation_form body_form decorator_form map_form
accessor_by {X} {Y} g called c b n None None None = accessor_same g _ _ _ _ _ _ _ (listed_mapped {A = Param X} g _ (codes ",") (param_form _ nt.PatternElement) (param_form _ nt.PatternElement) (param_mapped {X = X} {Y = Y} g _ _ _ (λ x. refl) (λ x. pat_mapped g false _ x.pat) (λ x. pat_sort_mapped g false c x.pat) (λ x. refl) nt.PatternElement) n.params.items) refl
accessor_by {X} {Y} g called c b n None None (Some t) = accessor_same g _ _ _ _ _ _ _ (listed_mapped {A = Param X} g _ (codes ",") (param_form _ nt.PatternElement) (param_form _ nt.PatternElement) (param_mapped {X = X} {Y = Y} g _ _ _ (λ x. refl) (λ x. pat_mapped g false _ x.pat) (λ x. pat_sort_mapped g false c x.pat) (λ x. refl) nt.PatternElement) n.params.items) refl
accessor_by {X} {Y} g called c b n None (Some p) None = accessor_same g _ _ _ _ _ _ _ (listed_mapped {A = Param X} g _ (codes ",") (param_form _ nt.PatternElement) (param_form _ nt.PatternElement) (param_mapped {X = X} {Y = Y} g _ _ _ (λ x. refl) (λ x. pat_mapped g false _ x.pat) (λ x. pat_sort_mapped g false c x.pat) (λ x. refl) nt.PatternElement) n.params.items) refl
accessor_by {X} {Y} g called c b n None (Some p) (Some t) = accessor_same g _ _ _ _ _ _ _ (listed_mapped {A = Param X} g _ (codes ",") (param_form _ nt.PatternElement) (param_form _ nt.PatternElement) (param_mapped {X = X} {Y = Y} g _ _ _ (λ x. refl) (λ x. pat_mapped g false _ x.pat) (λ x. pat_sort_mapped g false c x.pat) (λ x. refl) nt.PatternElement) n.params.items) refl
accessor_by {X} {Y} g called c b n (Some body) None None = accessor_same g _ _ _ _ _ _ _ (listed_mapped {A = Param X} g _ (codes ",") (param_form _ nt.PatternElement) (param_form _ nt.PatternElement) (param_mapped {X = X} {Y = Y} g _ _ _ (λ x. refl) (λ x. pat_mapped g false _ x.pat) (λ x. pat_sort_mapped g false c x.pat) (λ x. refl) nt.PatternElement) n.params.items) refl
accessor_by {X} {Y} g called c b n (Some body) None (Some t) = accessor_same g _ _ _ _ _ _ _ (listed_mapped {A = Param X} g _ (codes ",") (param_form _ nt.PatternElement) (param_form _ nt.PatternElement) (param_mapped {X = X} {Y = Y} g _ _ _ (λ x. refl) (λ x. pat_mapped g false _ x.pat) (λ x. pat_sort_mapped g false c x.pat) (λ x. refl) nt.PatternElement) n.params.items) refl
accessor_by {X} {Y} g called c b n (Some body) (Some p) None = accessor_same g _ _ _ _ _ _ _ (listed_mapped {A = Param X} g _ (codes ",") (param_form _ nt.PatternElement) (param_form _ nt.PatternElement) (param_mapped {X = X} {Y = Y} g _ _ _ (λ x. refl) (λ x. pat_mapped g false _ x.pat) (λ x. pat_sort_mapped g false c x.pat) (λ x. refl) nt.PatternElement) n.params.items) refl
accessor_by {X} {Y} g called c b n (Some body) (Some p) (Some t) = accessor_same g _ _ _ _ _ _ _ (listed_mapped {A = Param X} g _ (codes ",") (param_form _ nt.PatternElement) (param_form _ nt.PatternElement) (param_mapped {X = X} {Y = Y} g _ _ _ (λ x. refl) (λ x. pat_mapped g false _ x.pat) (λ x. pat_sort_mapped g false c x.pat) (λ x. refl) nt.PatternElement) n.params.items) refl

pub accessor_mapped : {X Y : Type 0} (g : X → Y) (called : Bool) (c : Parameters) (b : Box (functions.Function X) Global) →
    node_form called c (map-AnyNode X Y g (nodes.StmtPart (stmt_parts.Function b))) AccessorTail ≡ map_form g (accessor_form c b.value)
accessor_mapped g called c b = accessor_by g called c b b.value b.value.body b.value.type_params b.value.return_type

params_sort : {X Y : Type 0} (h : Param X → Param Y) (ns : List (Param X)) → accessor_nonterminal (map h ns) ≡ accessor_nonterminal ns
unfolding accessor_nonterminal
params_sort h [] = refl
params_sort h (n ∷ []) = refl
params_sort h (n ∷ m ∷ ns) = refl

pub accessor_sort_mapped : {X Y : Type 0} (g : X → Y) (called : Bool) (c : Parameters) (b : Box (functions.Function X) Global) →
    node_nonterminal called c (map-AnyNode X Y g (nodes.StmtPart (stmt_parts.Function b))) AccessorTail ≡ accessor_nonterminal b.value.params.items
unfolding node_nonterminal stmt_part_nonterminal
accessor_sort_mapped g called c b = params_sort _ b.value.params.items

-- ---- classes

pub class_head_mapped : {X Y : Type 0} (g : X → Y) (called : Bool) (c : Parameters) (b : Box (classes.Class X) Global) →
    node_form called c (map-AnyNode X Y g (nodes.StmtPart (stmt_parts.Class b))) ClassHead ≡ map_form g (decorators_form ByCore c b.value.decorators.items)
unfolding node_form stmt_part_form decorator_form map_form
class_head_mapped g called c b = decorators_mapped g _ ByCore c (λ n. refl) b.value.decorators.items

implements_mapped : {X Y : Type 0} (g : X → Y) (h : TsExprWithTypeArgs X → TsExprWithTypeArgs Y) (ns : List (TsExprWithTypeArgs X)) → implements_form (map h ns) ≡ map_form g (implements_form ns)
unfolding implements_form implemented_form is_some_listed map_form
implements_mapped g h [] = refl
implements_mapped g h (n ∷ ns) = refl

abbrev class_parts : {Y : Type 0} → Form Y → Form Y → Form Y → Form Y → Form Y
class_parts types heritage implemented members = types ⇢ heritage ⇢ implemented ⇢ Fixed (mark (codes "{")) ⇢ members ⇢ Fixed (mark (codes "}"))

class_same : {Y : Type 0} (types heritage a b x y : Form Y) → a ≡ b → x ≡ y → class_parts types heritage a x ≡ class_parts types heritage b y
class_same types heritage a b x y e k = ap₂ (λ p q. class_parts types heritage p q) e k

abbrev with_class_parts : {X : Type 0} → classes.Class X → Option (ExprBox X) → Option (TsTypeParamDeclBox X) → Option (TsTypeParamInstantiationBox X) → classes.Class X
with_class_parts n super_class type_params super_type_params = record n { super_class = super_class; type_params = type_params; super_type_params = super_type_params }

class_by : {X Y : Type 0} (g : X → Y) (called : Bool) (c : Parameters) (b : Box (classes.Class X) Global) (n : classes.Class X) (super_class : Option (ExprBox X)) (type_params : Option (TsTypeParamDeclBox X)) (super_type_params : Option (TsTypeParamInstantiationBox X)) →
    node_form called c (map-AnyNode X Y g (nodes.StmtPart (stmt_parts.Class (record b { value = with_class_parts n super_class type_params super_type_params })))) ClassTail
    ≡ map_form g (class_tail_form c (with_class_parts n super_class type_params super_type_params))
unfolding node_form stmt_part_form class_tail_form heritage_form type_params_form type_args_form map_form
class_by {X} {Y} g called c b n None None None = class_same _ _ _ _ _ _ (implements_mapped {X = X} {Y = Y} g _ n.implements.items) (order_mapped {A = ClassMemberBox X} {B = ClassMemberBox Y} g _ (λ m. Part nt.ClassElement (of_class c) Member m.node.value) (λ m. Part nt.ClassElement (of_class c) Member m.node.value) (λ m. refl) n.body.items)
class_by {X} {Y} g called c b n None None (Some t) = class_same _ _ _ _ _ _ (implements_mapped {X = X} {Y = Y} g _ n.implements.items) (order_mapped {A = ClassMemberBox X} {B = ClassMemberBox Y} g _ (λ m. Part nt.ClassElement (of_class c) Member m.node.value) (λ m. Part nt.ClassElement (of_class c) Member m.node.value) (λ m. refl) n.body.items)
class_by {X} {Y} g called c b n None (Some p) None = class_same _ _ _ _ _ _ (implements_mapped {X = X} {Y = Y} g _ n.implements.items) (order_mapped {A = ClassMemberBox X} {B = ClassMemberBox Y} g _ (λ m. Part nt.ClassElement (of_class c) Member m.node.value) (λ m. Part nt.ClassElement (of_class c) Member m.node.value) (λ m. refl) n.body.items)
class_by {X} {Y} g called c b n None (Some p) (Some t) = class_same _ _ _ _ _ _ (implements_mapped {X = X} {Y = Y} g _ n.implements.items) (order_mapped {A = ClassMemberBox X} {B = ClassMemberBox Y} g _ (λ m. Part nt.ClassElement (of_class c) Member m.node.value) (λ m. Part nt.ClassElement (of_class c) Member m.node.value) (λ m. refl) n.body.items)
class_by {X} {Y} g called c b n (Some s) None None = class_same _ _ _ _ _ _ (implements_mapped {X = X} {Y = Y} g _ n.implements.items) (order_mapped {A = ClassMemberBox X} {B = ClassMemberBox Y} g _ (λ m. Part nt.ClassElement (of_class c) Member m.node.value) (λ m. Part nt.ClassElement (of_class c) Member m.node.value) (λ m. refl) n.body.items)
class_by {X} {Y} g called c b n (Some s) None (Some t) = class_same _ _ _ _ _ _ (implements_mapped {X = X} {Y = Y} g _ n.implements.items) (order_mapped {A = ClassMemberBox X} {B = ClassMemberBox Y} g _ (λ m. Part nt.ClassElement (of_class c) Member m.node.value) (λ m. Part nt.ClassElement (of_class c) Member m.node.value) (λ m. refl) n.body.items)
class_by {X} {Y} g called c b n (Some s) (Some p) None = class_same _ _ _ _ _ _ (implements_mapped {X = X} {Y = Y} g _ n.implements.items) (order_mapped {A = ClassMemberBox X} {B = ClassMemberBox Y} g _ (λ m. Part nt.ClassElement (of_class c) Member m.node.value) (λ m. Part nt.ClassElement (of_class c) Member m.node.value) (λ m. refl) n.body.items)
class_by {X} {Y} g called c b n (Some s) (Some p) (Some t) = class_same _ _ _ _ _ _ (implements_mapped {X = X} {Y = Y} g _ n.implements.items) (order_mapped {A = ClassMemberBox X} {B = ClassMemberBox Y} g _ (λ m. Part nt.ClassElement (of_class c) Member m.node.value) (λ m. Part nt.ClassElement (of_class c) Member m.node.value) (λ m. refl) n.body.items)

pub class_tail_mapped : {X Y : Type 0} (g : X → Y) (called : Bool) (c : Parameters) (b : Box (classes.Class X) Global) →
    node_form called c (map-AnyNode X Y g (nodes.StmtPart (stmt_parts.Class b))) ClassTail ≡ map_form g (class_tail_form c b.value)
class_tail_mapped g called c b = class_by g called c b b.value b.value.super_class b.value.type_params b.value.super_type_params

pub class_expr_mapped : {X Y : Type 0} (g : X → Y) (stays called : Bool) (c : Parameters) (n : ClassExpr X) → form_in stays called c (map-AnyNode X Y g (nodes.Expr (exprs.Class n))) ≡ map_form g (class_expr_form c n)
unfolding expr_form class_expr_form map_form
class_expr_mapped g stays called c n =
    ap (λ a. Part nt.DecoratorList c ClassHead (g n.class.node.value) ⇢ Part nt.ClassHead c ClassWord (g n.class.node.value) ⇢ a ⇢ Part nt.ClassTail c ClassTail (g n.class.node.value)) (optional_name_mapped g (of_class c) n.ident)

-- ---- members

abbrev as_member : {X : Type 0} → Box (class_members.ClassMember X) Global → class_members.ClassMember X → AnyNode-F X
as_member b n = nodes.StmtPart (stmt_parts.ClassMember (record b { value = n }))

abbrev constructor_parts : {Y : Type 0} → Form Y → Form Y → Form Y → Form Y
constructor_parts before params body = before ⇢ Fixed (word (codes "constructor")) ⇢ Fixed (mark (codes "(")) ⇢ params ⇢ Fixed (mark (codes ")")) ⇢ body

constructor_same : {Y : Type 0} (before params others body : Form Y) → params ≡ others → constructor_parts before params body ≡ constructor_parts before others body
constructor_same before params others body e = ap (λ a. constructor_parts before a body) e

constructor_by : {X Y : Type 0} (g : X → Y) (called : Bool) (c : Parameters) (b : Box (class_members.ClassMember X) Global) (n : Constructor X) (body : Option (BlockStmtBox X)) →
    node_form called c (map-AnyNode X Y g (as_member b (members.Constructor (record n { body = body })))) Member ≡ map_form g (constructor_form c (record n { body = body }))
unfolding node_form part_form node_nonterminal part_nonterminal stmt_part_form member_of_class_form constructor_form accessibility_form constructor_param_form body_form decorator_form map_form
constructor_by {X} {Y} g called c b n None = constructor_same _ _ _ _ (ending_mapped {A = ParamOrTsParamProp X} g _ (constructor_param_form (of_parameters false false c)) (constructor_param_form (of_parameters false false c)) (λ place. each_param {X = X} _ (λ m. refl) (param_mapped {X = X} {Y = Y} g _ _ _ (λ x. refl) (λ x. pat_mapped g false _ x.pat) (λ x. pat_sort_mapped g false c x.pat) (λ x. refl) place)) n.params.items)
constructor_by {X} {Y} g called c b n (Some body) = constructor_same _ _ _ _ (ending_mapped {A = ParamOrTsParamProp X} g _ (constructor_param_form (of_parameters false false c)) (constructor_param_form (of_parameters false false c)) (λ place. each_param {X = X} _ (λ m. refl) (param_mapped {X = X} {Y = Y} g _ _ _ (λ x. refl) (λ x. pat_mapped g false _ x.pat) (λ x. pat_sort_mapped g false c x.pat) (λ x. refl) place)) n.params.items)

method_by : {X Y : Type 0} (g : X → Y) (called : Bool) (c : Parameters) (b : Box (class_members.ClassMember X) Global) (n : ClassMethod X) (kind : MethodKind) →
    node_form called c (map-AnyNode X Y g (as_member b (members.Method (record n { kind = kind })))) Member ≡ map_form g (method_form c (record n { kind = kind }))
unfolding node_form stmt_part_form member_of_class_form method_form accessibility_form method_kind_form kind_form optional_mark_form tail_of tail_role map_form
method_by g called c b n Method = refl
method_by g called c b n Getter = refl
method_by g called c b n Setter = refl

private_method_by : {X Y : Type 0} (g : X → Y) (called : Bool) (c : Parameters) (b : Box (class_members.ClassMember X) Global) (n : PrivateMethod X) (kind : MethodKind) →
    node_form called c (map-AnyNode X Y g (as_member b (members.PrivateMethod (record n { kind = kind })))) Member ≡ map_form g (private_method_form c (record n { kind = kind }))
unfolding node_form stmt_part_form member_of_class_form private_method_form accessibility_form method_kind_form kind_form optional_mark_form tail_of tail_role map_form
private_method_by g called c b n Method = refl
private_method_by g called c b n Getter = refl
private_method_by g called c b n Setter = refl

decorated : {X Y : Type 0} (g : X → Y) (h : Decorator X → Decorator Y) (c : Parameters) → ((n : Decorator X) → decorator_form c (h n) ≡ map_form g (decorator_form c n)) → (rest : Form Y) (ns : List (Decorator X)) →
    (decorators_form ByCore c (map h ns) ⇢ rest) ≡ (map_form g (decorators_form ByCore c ns) ⇢ rest)
decorated g h c same rest ns = ap (λ a. a ⇢ rest) (decorators_mapped g h ByCore c same ns)

field_by : {X Y : Type 0} (g : X → Y) (called : Bool) (c : Parameters) (b : Box (class_members.ClassMember X) Global) (n : ClassProp X) (type_ann : Option (TsTypeAnnBox X)) (value : Option (ExprBox X)) →
    node_form called c (map-AnyNode X Y g (as_member b (members.ClassProp (record n { type_ann = type_ann; value = value })))) Member ≡ map_form g (field_form c (record n { type_ann = type_ann; value = value }))
unfolding node_form stmt_part_form member_of_class_form field_form plain_modifiers prop_modifiers optional_mark_form field_type_form field_value_form decorator_form map_form
field_by g called c b n None None = decorated g _ c (λ m. refl) _ n.decorators.items
field_by g called c b n None (Some v) = decorated g _ c (λ m. refl) _ n.decorators.items
field_by g called c b n (Some t) None = decorated g _ c (λ m. refl) _ n.decorators.items
field_by g called c b n (Some t) (Some v) = decorated g _ c (λ m. refl) _ n.decorators.items

private_field_by : {X Y : Type 0} (g : X → Y) (called : Bool) (c : Parameters) (b : Box (class_members.ClassMember X) Global) (n : PrivateProp X) (type_ann : Option (TsTypeAnnBox X)) (value : Option (ExprBox X)) →
    node_form called c (map-AnyNode X Y g (as_member b (members.PrivateProp (record n { type_ann = type_ann; value = value })))) Member ≡ map_form g (private_field_form c (record n { type_ann = type_ann; value = value }))
unfolding node_form stmt_part_form member_of_class_form private_field_form plain_private_modifiers private_modifiers optional_mark_form field_type_form field_value_form decorator_form map_form
private_field_by g called c b n None None = decorated g _ c (λ m. refl) _ n.decorators.items
private_field_by g called c b n None (Some v) = decorated g _ c (λ m. refl) _ n.decorators.items
private_field_by g called c b n (Some t) None = decorated g _ c (λ m. refl) _ n.decorators.items
private_field_by g called c b n (Some t) (Some v) = decorated g _ c (λ m. refl) _ n.decorators.items

auto_accessor_by : {X Y : Type 0} (g : X → Y) (called : Bool) (c : Parameters) (b : Box (class_members.ClassMember X) Global) (n : AutoAccessor X) (key : Key X) (type_ann : Option (TsTypeAnnBox X)) (value : Option (ExprBox X)) →
    node_form called c (map-AnyNode X Y g (as_member b (members.AutoAccessor (record n { key = key; type_ann = type_ann; value = value })))) Member ≡ map_form g (member_of_class_form c (members.AutoAccessor (record n { key = key; type_ann = type_ann; value = value })))
unfolding node_form stmt_part_form member_of_class_form auto_accessor_form accessor_key_form plain_accessor_modifiers accessor_modifiers field_type_form accessor_value_form decorator_form map_form
auto_accessor_by g called c b n (keys.Public k) None None = ap (Provided ByCore false) (decorated g _ c (λ m. refl) _ n.decorators.items)
auto_accessor_by g called c b n (keys.Public k) None (Some v) = ap (Provided ByCore false) (decorated g _ c (λ m. refl) _ n.decorators.items)
auto_accessor_by g called c b n (keys.Public k) (Some t) None = ap (Provided ByCore false) (decorated g _ c (λ m. refl) _ n.decorators.items)
auto_accessor_by g called c b n (keys.Public k) (Some t) (Some v) = ap (Provided ByCore false) (decorated g _ c (λ m. refl) _ n.decorators.items)
auto_accessor_by g called c b n (keys.Private k) None None = ap (Provided ByCore false) (decorated g _ c (λ m. refl) _ n.decorators.items)
auto_accessor_by g called c b n (keys.Private k) None (Some v) = ap (Provided ByCore false) (decorated g _ c (λ m. refl) _ n.decorators.items)
auto_accessor_by g called c b n (keys.Private k) (Some t) None = ap (Provided ByCore false) (decorated g _ c (λ m. refl) _ n.decorators.items)
auto_accessor_by g called c b n (keys.Private k) (Some t) (Some v) = ap (Provided ByCore false) (decorated g _ c (λ m. refl) _ n.decorators.items)

member_by : {X Y : Type 0} (g : X → Y) (called : Bool) (c : Parameters) (b : Box (class_members.ClassMember X) Global) (n : class_members.ClassMember X) →
    node_form called c (map-AnyNode X Y g (as_member b n)) Member ≡ map_form g (member_of_class_form c n)
unfolding node_form stmt_part_form member_of_class_form static_block_form map_form
member_by g called c b (members.Constructor n) = constructor_by g called c b n n.body
member_by g called c b (members.Method n) = method_by g called c b n n.kind
member_by g called c b (members.PrivateMethod n) = private_method_by g called c b n n.kind
member_by g called c b (members.ClassProp n) = field_by g called c b n n.type_ann n.value
member_by g called c b (members.PrivateProp n) = private_field_by g called c b n n.type_ann n.value
member_by g called c b (members.AutoAccessor n) = auto_accessor_by g called c b n n.key n.type_ann n.value
member_by g called c b n = refl

pub class_member_mapped : {X Y : Type 0} (g : X → Y) (called : Bool) (c : Parameters) (b : Box (class_members.ClassMember X) Global) →
    node_form called c (map-AnyNode X Y g (nodes.StmtPart (stmt_parts.ClassMember b))) Member ≡ map_form g (member_of_class_form c b.value)
class_member_mapped g called c b = member_by g called c b b.value
