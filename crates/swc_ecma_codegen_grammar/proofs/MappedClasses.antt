-- The productions of classes see what links hold through f alone.
use Rattle.std.proofs.Common.{◌≡◌, refl, ◌∙◌, ap, ◌||◌, List, [], ◌∷◌, map, codes, cond, Option, Some, None, Box, Global}
use Rattle.swc_ecma_codegen_tree.specs.declared.links.AnyNode.{AnyNode-F, map-AnyNode}
use Rattle.swc_ecma_codegen_tree.specs.declared.links.AnyNode.TheOpen as nodes
use Rattle.swc_ecma_codegen_tree.specs.Links.{BlockStmtBox, ClassMemberBox, ExprBox, TsFnParamBox, TsTypeAnnBox, TsTypeParamDeclBox, TsTypeParamInstantiationBox}
use Rattle.swc_ecma_codegen_tree.specs.declared.parts.StmtPart.TheVariants as stmt_parts
use Rattle.swc_ecma_codegen_tree.specs.declared.classes.Class as classes
use Rattle.swc_ecma_codegen_tree.specs.declared.classes.ClassMember as class_members
use Rattle.swc_ecma_codegen_tree.specs.declared.classes.ClassMember.TheVariants as members
use Rattle.swc_ecma_codegen_tree.specs.declared.classes.Constructor.{Constructor}
use Rattle.swc_ecma_codegen_tree.specs.declared.classes.ParamOrTsParamProp.{ParamOrTsParamProp}
use Rattle.swc_ecma_codegen_tree.specs.declared.classes.ParamOrTsParamProp.TheVariants as params
use Rattle.swc_ecma_codegen_tree.specs.declared.classes.TsParamProp.{TsParamProp}
use Rattle.swc_ecma_codegen_tree.specs.declared.classes.TsParamPropParam.{TsParamPropParam}
use Rattle.swc_ecma_codegen_tree.specs.declared.classes.TsParamPropParam.TheVariants as param_props
use Rattle.swc_ecma_codegen_tree.specs.declared.classes.ClassMethod.{ClassMethod}
use Rattle.swc_ecma_codegen_tree.specs.declared.classes.MethodKind.{MethodKind}
use Rattle.swc_ecma_codegen_tree.specs.declared.classes.MethodKind.TheVariants.{Method, Getter, Setter}
use Rattle.swc_ecma_codegen_tree.specs.declared.classes.ClassProp.{ClassProp}
use Rattle.swc_ecma_codegen_tree.specs.declared.classes.AutoAccessor.{AutoAccessor}
use Rattle.swc_ecma_codegen_tree.specs.declared.classes.Key.{Key}
use Rattle.swc_ecma_codegen_tree.specs.declared.classes.Key.TheVariants as keys
use Rattle.swc_ecma_codegen_tree.specs.declared.classes.PrivateMethod.{PrivateMethod}
use Rattle.swc_ecma_codegen_tree.specs.declared.classes.PrivateProp.{PrivateProp}
use Rattle.swc_ecma_codegen_tree.specs.declared.decls.Decorator.{Decorator}
use Rattle.swc_ecma_codegen_tree.specs.declared.decls.Param.{Param}
use Rattle.swc_ecma_codegen_tree.specs.declared.decls.Function as functions
use Rattle.swc_ecma_codegen_tree.specs.declared.idents.Ident.{Ident}
use Rattle.swc_ecma_codegen_tree.specs.declared.pats.AssignPat.{AssignPat}
use Rattle.swc_ecma_codegen_tree.specs.declared.ts_decls.TsExprWithTypeArgs.{TsExprWithTypeArgs}
use Rattle.swc_ecma_codegen_tree.specs.declared.ts_members.TsIndexSignature.{TsIndexSignature}
use Rattle.swc_ecma_codegen_grammar.specs.AnnotationPhrases.{annotation, field_annotation, type_args, type_params}
use Rattle.swc_ecma_codegen_grammar.specs.Phrases.{Phrase, Never, ◌>◌, mark, word, ending, listed, in_order, same_line, where_}
use Rattle.swc_ecma_codegen_grammar.specs.declared.roles.Role.{Role}
use Rattle.swc_ecma_codegen_grammar.specs.declared.roles.Role.TheVariants.{ClassHead, ClassTail, Member, MethodDecorators, MethodTail, AccessorTail}
use Rattle.swc_ecma_codegen_grammar.specs.PatPhrases.{assign_pat, initializer}
use Rattle.swc_ecma_codegen_grammar.specs.FunctionPhrases.{decorator, param, function_body, word_if}
use Rattle.swc_ecma_codegen_grammar.specs.ClassPhrases.{member_at, decorators, class_head, heritage, implements_clause, class_tail, accessibility, ts_param_prop_param, ts_param_prop, constructor_param, class_constructor, method_decorators, method_tail, accessor_tail, tail_role, kind_head, method_kind, class_method, private_method, prop_value, prop_modifiers, class_prop, private_modifiers, private_prop, accessor_key, accessor_modifiers, auto_accessor, static_block, class_member}
use Rattle.swc_ecma_codegen_grammar.specs.MemberPhrases.{ts_index_signature, signature_param_at}
use Rattle.swc_ecma_codegen_grammar.specs.NamePhrases.{binding_ident}
use Rattle.swc_ecma_codegen_grammar.specs.PartPhrases.{expr_part, stmt_part}
use Rattle.swc_ecma_codegen_grammar.specs.TsDeclPhrases.{ts_expr_with_type_args}
use Rattle.swc_ecma_codegen_grammar.specs.TreePhrases.{node_phrase}
use Rattle.swc_ecma_codegen_grammar.proofs.Mapped.{list_mapped, signature_mapped}
use Rattle.swc_ecma_codegen_grammar.proofs.MappedFunctions.{param_mapped, with_parts}
use Rattle.swc_ecma_codegen_grammar.proofs.MappedTsDecls.{by_args}
use Rattle.swc_ecma_codegen_grammar.proofs.MappedPats.{pat_mapped}

pub decorators_mapped : {X Y : Type 0} (g : Decorator X → Decorator Y) (f : Y → Role → Phrase) (d : X → Role → Phrase) → ((n : Decorator X) → decorator f (g n) ≡ decorator d n) → (ns : List (Decorator X)) → decorators f (map g ns) ≡ decorators d ns
unfolding decorators
decorators_mapped g f d same ns = ap in_order (list_mapped g (decorator f) (decorator d) same ns)

-- ---- functions of methods

pub method_decorators_mapped : {X Y : Type 0} (g : X → Y) (f : Y → Role → Phrase) (b : Box (functions.Function X) Global) → node_phrase f (map-AnyNode X Y g (nodes.StmtPart (stmt_parts.Function b))) MethodDecorators ≡ method_decorators (λ x. f (g x)) b.value
unfolding node_phrase stmt_part method_decorators decorator
method_decorators_mapped g f b = decorators_mapped _ f (λ x. f (g x)) (λ n. refl) b.value.decorators.items

tail_by : {X Y : Type 0} (g : X → Y) (f : Y → Role → Phrase) (b : Box (functions.Function X) Global) (n : functions.Function X) (type_params : Option (TsTypeParamDeclBox X)) (return_type : Option (TsTypeAnnBox X)) (body : Option (BlockStmtBox X)) → node_phrase f (map-AnyNode X Y g (nodes.StmtPart (stmt_parts.Function (record b { value = with_parts n body type_params return_type })))) MethodTail ≡ method_tail (λ x. f (g x)) (with_parts n body type_params return_type)
unfolding node_phrase expr_part stmt_part method_tail function_body decorator annotation type_params
tail_by {X} {Y} g f b n = signature_mapped
    (elim [ None ↦ refl | Some t ↦ refl ])
    (ap (listed (codes ",")) (list_mapped _ (param f) (param (λ x. f (g x))) (param_mapped {X = X} {Y = Y} _ _ f (λ x. f (g x)) (λ x. refl) (λ x. pat_mapped g f x.pat) (λ x. refl)) n.params.items))
    (elim [ None ↦ refl | Some t ↦ refl ])
    (elim [ None ↦ refl | Some t ↦ refl ])

pub method_tail_mapped : {X Y : Type 0} (g : X → Y) (f : Y → Role → Phrase) (b : Box (functions.Function X) Global) → node_phrase f (map-AnyNode X Y g (nodes.StmtPart (stmt_parts.Function b))) MethodTail ≡ method_tail (λ x. f (g x)) b.value
method_tail_mapped g f b = tail_by g f b b.value b.value.type_params b.value.return_type b.value.body

pub accessor_tail_mapped : {X Y : Type 0} (g : X → Y) (f : Y → Role → Phrase) (b : Box (functions.Function X) Global) → node_phrase f (map-AnyNode X Y g (nodes.StmtPart (stmt_parts.Function b))) AccessorTail ≡ accessor_tail (λ x. f (g x)) b.value
unfolding node_phrase stmt_part accessor_tail
accessor_tail_mapped g f b = ap (λ p. cond (b.value.is_async || b.value.is_generator) Never p) (method_tail_mapped g f b)

-- ---- classes

pub class_head_mapped : {X Y : Type 0} (g : X → Y) (f : Y → Role → Phrase) (b : Box (classes.Class X) Global) → node_phrase f (map-AnyNode X Y g (nodes.StmtPart (stmt_parts.Class b))) ClassHead ≡ class_head (λ x. f (g x)) b.value
unfolding node_phrase stmt_part class_head decorator
class_head_mapped g f b = decorators_mapped _ f (λ x. f (g x)) (λ n. refl) b.value.decorators.items

abbrev with_class_parts : {X : Type 0} → classes.Class X → Option (ExprBox X) → Option (TsTypeParamDeclBox X) → Option (TsTypeParamInstantiationBox X) → classes.Class X
with_class_parts n super_class type_params super_type_params = record n { super_class = super_class; type_params = type_params; super_type_params = super_type_params }

implements_mapped : {X Y : Type 0} (g : TsExprWithTypeArgs X → TsExprWithTypeArgs Y) (f : Y → Role → Phrase) (d : X → Role → Phrase) → ((n : TsExprWithTypeArgs X) → ts_expr_with_type_args f (g n) ≡ ts_expr_with_type_args d n) → (ns : List (TsExprWithTypeArgs X)) → implements_clause f (map g ns) ≡ implements_clause d ns
unfolding implements_clause
implements_mapped g f d same [] = refl
implements_mapped g f d same (n ∷ ns) = ap (λ ps. word (codes "implements") > listed (codes ",") ps) (list_mapped g (ts_expr_with_type_args f) (ts_expr_with_type_args d) same (n ∷ ns))

-- what is implemented, and then the members
class_same : {A B C : Type 0} {before after : A → Phrase} {head other : B → C → Phrase} {implements implemented : Phrase} {ps qs : List Phrase} → ((x : A) → before x ≡ after x) → ((y : B) (z : C) → head y z ≡ other y z) → implements ≡ implemented → ps ≡ qs → (x : A) (y : B) (z : C) → (before x > head y z > implements > mark (codes "{") > in_order ps > mark (codes "}")) ≡ (after x > other y z > implemented > mark (codes "{") > in_order qs > mark (codes "}"))
class_same {before = before} {after = after} {head = head} {other = other} {implements = implements} {implemented = implemented} {ps = ps} params heritage clause members x y z =
    ap (λ t. t > head y z > implements > mark (codes "{") > in_order ps > mark (codes "}")) (params x)
    ∙ ap (λ t. after x > t > implements > mark (codes "{") > in_order ps > mark (codes "}")) (heritage y z)
    ∙ ap (λ t. after x > other y z > t > mark (codes "{") > in_order ps > mark (codes "}")) clause
    ∙ ap (λ t. after x > other y z > implemented > mark (codes "{") > in_order t > mark (codes "}")) members

class_by : {X Y : Type 0} (g : X → Y) (f : Y → Role → Phrase) (b : Box (classes.Class X) Global) (n : classes.Class X) (type_params : Option (TsTypeParamDeclBox X)) (super_class : Option (ExprBox X)) (super_type_params : Option (TsTypeParamInstantiationBox X)) → node_phrase f (map-AnyNode X Y g (nodes.StmtPart (stmt_parts.Class (record b { value = with_class_parts n super_class type_params super_type_params })))) ClassTail ≡ class_tail (λ x. f (g x)) (with_class_parts n super_class type_params super_type_params)
unfolding node_phrase stmt_part class_tail heritage ts_expr_with_type_args type_args type_params where_
class_by {X} {Y} g f b n = class_same
    (elim [ None ↦ refl | Some t ↦ refl ])
    (elim [ None ↦ (elim [ None ↦ refl | Some t ↦ refl ]) | Some s ↦ (elim [ None ↦ refl | Some t ↦ refl ]) ])
    (implements_mapped {X = X} {Y = Y} _ f (λ x. f (g x)) (by_args {X = X} _ (λ e. refl) (λ e a. refl)) n.implements.items)
    (list_mapped {A = ClassMemberBox X} _ (member_at f) (member_at (λ x. f (g x))) (λ m. refl) n.body.items)

pub class_tail_mapped : {X Y : Type 0} (g : X → Y) (f : Y → Role → Phrase) (b : Box (classes.Class X) Global) → node_phrase f (map-AnyNode X Y g (nodes.StmtPart (stmt_parts.Class b))) ClassTail ≡ class_tail (λ x. f (g x)) b.value
class_tail_mapped g f b = class_by g f b b.value b.value.type_params b.value.super_class b.value.super_type_params

-- ---- members

abbrev as_member : {X : Type 0} → Box (class_members.ClassMember X) Global → class_members.ClassMember X → AnyNode-F X
as_member b n = nodes.StmtPart (stmt_parts.ClassMember (record b { value = n }))

-- what holds of each parameter of a constructor
pub each_param : {X : Type 0} (P : ParamOrTsParamProp X → Type 0) → ((n : TsParamProp X) → P (params.TsParamProp n)) → ((n : Param X) → P (params.Param n)) → (n : ParamOrTsParamProp X) → P n
each_param P typed plain (params.TsParamProp n) = typed n
each_param P typed plain (params.Param n) = plain n

-- what holds of each that is a field too, by what is there
by_param : {X : Type 0} (P : TsParamProp X → Type 0) (n : TsParamProp X) → ((id : Ident) → P (record n { param = param_props.Ident (record { id = id; type_ann = None }) })) → ((id : Ident) (t : TsTypeAnnBox X) → P (record n { param = param_props.Ident (record { id = id; type_ann = Some t }) })) → ((a : AssignPat X) → P (record n { param = param_props.Assign a })) → (id : Ident) (type_ann : Option (TsTypeAnnBox X)) → P (record n { param = param_props.Ident (record { id = id; type_ann = type_ann }) })
by_param P n plain typed assigned id None = plain id
by_param P n plain typed assigned id (Some t) = typed id t

by_variant : {X : Type 0} (P : TsParamProp X → Type 0) (n : TsParamProp X) → ((id : Ident) → P (record n { param = param_props.Ident (record { id = id; type_ann = None }) })) → ((id : Ident) (t : TsTypeAnnBox X) → P (record n { param = param_props.Ident (record { id = id; type_ann = Some t }) })) → ((a : AssignPat X) → P (record n { param = param_props.Assign a })) → (param : TsParamPropParam X) → P (record n { param = param })
by_variant P n plain typed assigned (param_props.Ident m) = by_param P n plain typed assigned m.id m.type_ann
by_variant P n plain typed assigned (param_props.Assign a) = assigned a

pub by_param_prop : {X : Type 0} (P : TsParamProp X → Type 0) → ((n : TsParamProp X) (id : Ident) → P (record n { param = param_props.Ident (record { id = id; type_ann = None }) })) → ((n : TsParamProp X) (id : Ident) (t : TsTypeAnnBox X) → P (record n { param = param_props.Ident (record { id = id; type_ann = Some t }) })) → ((n : TsParamProp X) (a : AssignPat X) → P (record n { param = param_props.Assign a })) → (n : TsParamProp X) → P n
by_param_prop P plain typed assigned n = by_variant P n (plain n) (typed n) (assigned n) n.param

-- its decorators, and the rest
param_prop_same : {X Y : Type 0} (g : Decorator X → Decorator Y) (f : Y → Role → Phrase) (d : X → Role → Phrase) → ((n : Decorator X) → decorator f (g n) ≡ decorator d n) → (before rest : Phrase) (ns : List (Decorator X)) → (before > decorators f (map g ns) > rest) ≡ (before > decorators d ns > rest)
param_prop_same g f d same before rest ns = ap (λ p. before > p > rest) (decorators_mapped g f d same ns)

constructor_same : {A : Type 0} {before key : Phrase} {ps qs : List Phrase} {b d : A → Phrase} → ps ≡ qs → ((x : A) → b x ≡ d x) → (x : A) → (before > key > mark (codes "(") > listed (codes ",") ps > mark (codes ")") > b x) ≡ (before > key > mark (codes "(") > listed (codes ",") qs > mark (codes ")") > d x)
constructor_same {before = before} {key = key} {qs = qs} {b = b} items body x =
    ap (λ t. before > key > mark (codes "(") > listed (codes ",") t > mark (codes ")") > b x) items
    ∙ ap (λ t. before > key > mark (codes "(") > listed (codes ",") qs > mark (codes ")") > t) (body x)

constructor_by : {X Y : Type 0} (g : X → Y) (f : Y → Role → Phrase) (b : Box (class_members.ClassMember X) Global) (n : Constructor X) (body : Option (BlockStmtBox X)) → node_phrase f (map-AnyNode X Y g (as_member b (members.Constructor (record n { body = body })))) Member ≡ class_constructor (λ x. f (g x)) (record n { body = body })
unfolding node_phrase expr_part stmt_part class_member class_constructor constructor_param ts_param_prop ts_param_prop_param binding_ident annotation assign_pat function_body decorator
constructor_by {X} {Y} g f b n = constructor_same
    (list_mapped {A = ParamOrTsParamProp X} _ (constructor_param f) (constructor_param (λ x. f (g x)))
    (each_param {X = X} _ (by_param_prop {X = X} _ (λ m id. param_prop_same {X = X} {Y = Y} _ f (λ x. f (g x)) (λ x. refl) _ _ m.decorators.items) (λ m id t. param_prop_same {X = X} {Y = Y} _ f (λ x. f (g x)) (λ x. refl) _ _ m.decorators.items) (λ m a. param_prop_same {X = X} {Y = Y} _ f (λ x. f (g x)) (λ x. refl) _ _ m.decorators.items))
    (param_mapped {X = X} {Y = Y} _ _ f (λ x. f (g x)) (λ x. refl) (λ x. pat_mapped g f x.pat) (λ x. refl))) n.params.items)
    (elim [ None ↦ refl | Some t ↦ refl ])

method_by : {X Y : Type 0} (g : X → Y) (f : Y → Role → Phrase) (b : Box (class_members.ClassMember X) Global) (n : ClassMethod X) (kind : MethodKind) → node_phrase f (map-AnyNode X Y g (as_member b (members.Method (record n { kind = kind })))) Member ≡ class_method (λ x. f (g x)) (record n { kind = kind })
unfolding node_phrase stmt_part class_member class_method method_kind kind_head tail_role
method_by g f b n Method = refl
method_by g f b n Getter = refl
method_by g f b n Setter = refl

private_method_by : {X Y : Type 0} (g : X → Y) (f : Y → Role → Phrase) (b : Box (class_members.ClassMember X) Global) (n : PrivateMethod X) (kind : MethodKind) → node_phrase f (map-AnyNode X Y g (as_member b (members.PrivateMethod (record n { kind = kind })))) Member ≡ private_method (λ x. f (g x)) (record n { kind = kind })
unfolding node_phrase stmt_part class_member private_method method_kind kind_head tail_role
private_method_by g f b n Method = refl
private_method_by g f b n Getter = refl
private_method_by g f b n Setter = refl

-- a field: its decorators, its type, and its value
field_same : {A B : Type 0} {d e modifiers key optional : Phrase} {t u : A → Phrase} {v w : B → Phrase} → d ≡ e → ((x : A) → t x ≡ u x) → ((y : B) → v y ≡ w y) → (x : A) (y : B) → (d > modifiers > key > optional > t x > v y > ending) ≡ (e > modifiers > key > optional > u x > w y > ending)
field_same {e = e} {modifiers = modifiers} {key = key} {optional = optional} {t = t} {u = u} {v = v} decorated typed valued x y =
    ap (λ z. z > modifiers > key > optional > t x > v y > ending) decorated
    ∙ ap (λ z. e > modifiers > key > optional > z > v y > ending) (typed x)
    ∙ ap (λ z. e > modifiers > key > optional > u x > z > ending) (valued y)

prop_by : {X Y : Type 0} (g : X → Y) (f : Y → Role → Phrase) (b : Box (class_members.ClassMember X) Global) (n : ClassProp X) (type_ann : Option (TsTypeAnnBox X)) (value : Option (ExprBox X)) → node_phrase f (map-AnyNode X Y g (as_member b (members.ClassProp (record n { type_ann = type_ann; value = value })))) Member ≡ class_prop (λ x. f (g x)) (record n { type_ann = type_ann; value = value })
unfolding node_phrase stmt_part class_member class_prop prop_modifiers field_annotation prop_value decorator
prop_by {X} {Y} g f b n = field_same (decorators_mapped {X = X} {Y = Y} _ f (λ x. f (g x)) (λ m. refl) n.decorators.items) (elim [ None ↦ refl | Some t ↦ refl ]) (elim [ None ↦ refl | Some t ↦ refl ])

private_prop_by : {X Y : Type 0} (g : X → Y) (f : Y → Role → Phrase) (b : Box (class_members.ClassMember X) Global) (n : PrivateProp X) (type_ann : Option (TsTypeAnnBox X)) (value : Option (ExprBox X)) → node_phrase f (map-AnyNode X Y g (as_member b (members.PrivateProp (record n { type_ann = type_ann; value = value })))) Member ≡ private_prop (λ x. f (g x)) (record n { type_ann = type_ann; value = value })
unfolding node_phrase stmt_part class_member private_prop private_modifiers field_annotation prop_value decorator
private_prop_by {X} {Y} g f b n = field_same (decorators_mapped {X = X} {Y = Y} _ f (λ x. f (g x)) (λ m. refl) n.decorators.items) (elim [ None ↦ refl | Some t ↦ refl ]) (elim [ None ↦ refl | Some t ↦ refl ])

accessor_same : {K A B : Type 0} {d e modifiers : Phrase} {k l : K → Phrase} {t u : A → Phrase} {v w : B → Phrase} → d ≡ e → ((key : K) → k key ≡ l key) → ((x : A) → t x ≡ u x) → ((y : B) → v y ≡ w y) → (key : K) (x : A) (y : B) → (d > modifiers > word (codes "accessor") > same_line > k key > t x > v y > ending) ≡ (e > modifiers > word (codes "accessor") > same_line > l key > u x > w y > ending)
accessor_same {e = e} {modifiers = modifiers} {k = k} {l = l} {t = t} {u = u} {v = v} decorated named typed valued key x y =
    ap (λ z. z > modifiers > word (codes "accessor") > same_line > k key > t x > v y > ending) decorated
    ∙ ap (λ z. e > modifiers > word (codes "accessor") > same_line > z > t x > v y > ending) (named key)
    ∙ ap (λ z. e > modifiers > word (codes "accessor") > same_line > l key > z > v y > ending) (typed x)
    ∙ ap (λ z. e > modifiers > word (codes "accessor") > same_line > l key > u x > z > ending) (valued y)

accessor_by : {X Y : Type 0} (g : X → Y) (f : Y → Role → Phrase) (b : Box (class_members.ClassMember X) Global) (n : AutoAccessor X) (key : Key X) (type_ann : Option (TsTypeAnnBox X)) (value : Option (ExprBox X)) → node_phrase f (map-AnyNode X Y g (as_member b (members.AutoAccessor (record n { key = key; type_ann = type_ann; value = value })))) Member ≡ auto_accessor (λ x. f (g x)) (record n { key = key; type_ann = type_ann; value = value })
unfolding node_phrase stmt_part class_member auto_accessor accessor_modifiers accessor_key field_annotation initializer decorator
accessor_by {X} {Y} g f b n = accessor_same (decorators_mapped {X = X} {Y = Y} _ f (λ x. f (g x)) (λ m. refl) n.decorators.items) (elim [ keys.Public k ↦ refl | keys.Private k ↦ refl ]) (elim [ None ↦ refl | Some t ↦ refl ]) (elim [ None ↦ refl | Some t ↦ refl ])

index_by : {X Y : Type 0} (g : X → Y) (f : Y → Role → Phrase) (b : Box (class_members.ClassMember X) Global) (n : TsIndexSignature X) (type_ann : Option (TsTypeAnnBox X)) → node_phrase f (map-AnyNode X Y g (as_member b (members.TsIndexSignature (record n { type_ann = type_ann })))) Member ≡ (ts_index_signature (λ x. f (g x)) (record n { type_ann = type_ann }) > ending)
unfolding node_phrase stmt_part class_member ts_index_signature annotation
index_by {X} g f b n None = ap (λ ps. (word_if n.is_static (word (codes "static")) > word_if n.readonly (word (codes "readonly")) > mark (codes "[") > listed (codes ",") ps > mark (codes "]") > annotation (λ x. f (g x)) None) > ending) (list_mapped {A = TsFnParamBox X} _ (signature_param_at f) (signature_param_at (λ x. f (g x))) (λ p. refl) n.params.items)
index_by {X} g f b n (Some t) = ap (λ ps. (word_if n.is_static (word (codes "static")) > word_if n.readonly (word (codes "readonly")) > mark (codes "[") > listed (codes ",") ps > mark (codes "]") > annotation (λ x. f (g x)) (Some t)) > ending) (list_mapped {A = TsFnParamBox X} _ (signature_param_at f) (signature_param_at (λ x. f (g x))) (λ p. refl) n.params.items)

member_by : {X Y : Type 0} (g : X → Y) (f : Y → Role → Phrase) (b : Box (class_members.ClassMember X) Global) (n : class_members.ClassMember X) → node_phrase f (map-AnyNode X Y g (as_member b n)) Member ≡ class_member (λ x. f (g x)) n
unfolding node_phrase stmt_part class_member static_block
member_by g f b (members.Constructor n) = constructor_by g f b n n.body
member_by g f b (members.Method n) = method_by g f b n n.kind
member_by g f b (members.PrivateMethod n) = private_method_by g f b n n.kind
member_by g f b (members.ClassProp n) = prop_by g f b n n.type_ann n.value
member_by g f b (members.PrivateProp n) = private_prop_by g f b n n.type_ann n.value
member_by g f b (members.AutoAccessor n) = accessor_by g f b n n.key n.type_ann n.value
member_by g f b (members.TsIndexSignature n) = index_by g f b n n.type_ann
member_by g f b n = refl

pub class_member_mapped : {X Y : Type 0} (g : X → Y) (f : Y → Role → Phrase) (b : Box (class_members.ClassMember X) Global) → node_phrase f (map-AnyNode X Y g (nodes.StmtPart (stmt_parts.ClassMember b))) Member ≡ class_member (λ x. f (g x)) b.value
class_member_mapped g f b = member_by g f b b.value
