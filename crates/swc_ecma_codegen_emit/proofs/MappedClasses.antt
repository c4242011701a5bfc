-- The words of classes see what links hold through `asks` and `items` alone.
use Rattle.std.proofs.Common.{◌≡◌, refl, ap, ◌∙◌, List, [], ◌∷◌, map, codes, Bool, Option, Some, None, Box, Global}
use Rattle.swc_ecma_codegen_common.specs.declared.positions.Span.{Span}
use Rattle.swc_ecma_codegen_tree.specs.declared.links.AnyNode.{AnyNode-F, map-AnyNode}
use Rattle.swc_ecma_codegen_tree.specs.declared.links.AnyNode.TheOpen as nodes
use Rattle.swc_ecma_codegen_tree.specs.Links.{BlockStmtBox, ClassMemberBox, ExprBox, TsFnParamBox, TsTypeAnnBox, TsTypeParamDeclBox, TsTypeParamInstantiationBox}
use Rattle.swc_ecma_codegen_tree.specs.declared.parts.StmtPart.TheVariants as stmt_parts
use Rattle.swc_ecma_codegen_tree.specs.declared.classes.Accessibility.{Accessibility}
use Rattle.swc_ecma_codegen_tree.specs.declared.classes.Class as classes
use Rattle.swc_ecma_codegen_tree.specs.declared.classes.ClassMember as class_members
use Rattle.swc_ecma_codegen_tree.specs.declared.classes.ClassMember.TheVariants as members
use Rattle.swc_ecma_codegen_tree.specs.declared.classes.Constructor.{Constructor}
use Rattle.swc_ecma_codegen_tree.specs.declared.classes.ParamOrTsParamProp.{ParamOrTsParamProp}
use Rattle.swc_ecma_codegen_tree.specs.declared.classes.ClassMethod.{ClassMethod}
use Rattle.swc_ecma_codegen_tree.specs.declared.classes.MethodKind.{MethodKind}
use Rattle.swc_ecma_codegen_tree.specs.declared.classes.MethodKind.TheVariants.{Method, Getter, Setter}
use Rattle.swc_ecma_codegen_tree.specs.declared.classes.ClassProp.{ClassProp}
use Rattle.swc_ecma_codegen_tree.specs.declared.classes.PrivateMethod.{PrivateMethod}
use Rattle.swc_ecma_codegen_tree.specs.declared.classes.PrivateProp.{PrivateProp}
use Rattle.swc_ecma_codegen_tree.specs.declared.classes.AutoAccessor.{AutoAccessor}
use Rattle.swc_ecma_codegen_tree.specs.declared.classes.Key.{Key}
use Rattle.swc_ecma_codegen_tree.specs.declared.classes.Key.TheVariants as keys
use Rattle.swc_ecma_codegen_tree.specs.declared.decls.Decorator.{Decorator}
use Rattle.swc_ecma_codegen_tree.specs.declared.ts_decls.TsExprWithTypeArgs.{TsExprWithTypeArgs}
use Rattle.swc_ecma_codegen_tree.specs.declared.ts_members.TsIndexSignature.{TsIndexSignature}
use Rattle.swc_ecma_codegen_grammar.proofs.Mapped.{list_mapped}
use Rattle.swc_ecma_codegen_grammar.proofs.MappedClasses.{each_param, by_param_prop}
use Rattle.swc_ecma_codegen_grammar.proofs.MappedTsDecls.{by_args}
use Rattle.swc_ecma_codegen_tokens.specs.Lists.{ListChild, list}
use Rattle.swc_ecma_codegen_tokens.specs.Run.{Plan, Part}
use Rattle.swc_ecma_codegen_tokens.specs.Words.{keyword, punct, space, formatting_space, start_of, last_of, leading_comments, semi, question, end_of}
use Rattle.swc_ecma_codegen_emit.specs.declared.nodes.Context.TheVariants.{Plain}
use Rattle.swc_ecma_codegen_emit.specs.declared.nodes.Piece.TheVariants.{ClassHead, ClassWord}
use Rattle.swc_ecma_codegen_emit.specs.Places.{Place, Whole, Only}
use Rattle.swc_ecma_codegen_emit.specs.Annotations.{annotation, field_annotation, type_args, type_params, types_format, word_before}
use Rattle.swc_ecma_codegen_emit.specs.Answers.{Answers}
use Rattle.swc_ecma_codegen_emit.specs.Classes.{class_members_format, heritage, implemented_format, some_implements, implements_clause, class_body, class_tail, class_word, class, accessibility_word, ts_param_prop_param, ts_param_prop, constructor_param, constructor_param_place, constructor_body, constructor_tail, constructor_word, class_constructor, static_method, method_word, accessor_words, method_kind, method_rest, class_method, private_kind, private_words, private_rest, private_method, prop_value, prop_modifiers, prop_tail, class_prop, private_modifiers, private_prop_tail, private_prop, accessor_key, accessor_modifiers, accessor_tail, auto_accessor, static_block, index_member, class_member}
use Rattle.swc_ecma_codegen_emit.specs.FunctionExprs.{comma_list_format}
use Rattle.swc_ecma_codegen_emit.specs.Functions.{decorator, decorator_lines, decorators_format, decorator_place, param}
use Rattle.swc_ecma_codegen_emit.specs.Lists.{child_at, child_of}
use Rattle.swc_ecma_codegen_emit.specs.Names.{binding_ident}
use Rattle.swc_ecma_codegen_emit.specs.Parts.{expr_part, stmt_part}
use Rattle.swc_ecma_codegen_emit.specs.Pats.{assign_pat, initializer}
use Rattle.swc_ecma_codegen_emit.specs.Tree.{node_items}
use Rattle.swc_ecma_codegen_emit.specs.TsDecls.{extended_place, ts_expr_with_type_args}
use Rattle.swc_ecma_codegen_emit.specs.TsMembers.{readonly_index, ts_index_signature, fn_param_place, fn_param_items}
use Rattle.swc_ecma_codegen_emit.proofs.MappedFunctions.{decorators_mapped, param_same}
use Rattle.swc_ecma_codegen_emit.proofs.MappedPats.{children_mapped, pat_mapped}
use Rattle.swc_ecma_codegen_emit.proofs.MappedOptions.{by_four, by_three}
use Rattle.swc_ecma_codegen_emit.specs.Exprs.{private_name}

-- ---- classes

abbrev with_class_parts : {X : Type 0} → classes.Class X → Option (ExprBox X) → Option (TsTypeParamDeclBox X) → Option (TsTypeParamInstantiationBox X) → classes.Class X
with_class_parts n super_class type_params super_type_params = record n { super_class = super_class; type_params = type_params; super_type_params = super_type_params }

abbrev braced : {X : Type 0} → classes.Class X → List ListChild → Plan → Plan
braced n cs rest = formatting_space (punct (codes "{") (list class_members_format n.span cs (last_of n.span (punct (codes "}") rest))))

abbrev member_child : {X : Type 0} → (X → Answers) → (X → Place → Part) → ClassMemberBox X → ListChild
member_child asks items = child_of (λ m. (asks m.node.value).place) (λ m place. items m.node.value place)

abbrev implemented_child : {X : Type 0} → (X → Place → Part) → TsExprWithTypeArgs X → ListChild
implemented_child items = child_of extended_place (λ n place. ts_expr_with_type_args items n)

implements_mapped : {X Y : Type 0} (e : TsExprWithTypeArgs X → TsExprWithTypeArgs Y) (items : Y → Place → Part) (d : X → Place → Part) → ((n : TsExprWithTypeArgs X) → implemented_child items (e n) ≡ implemented_child d n) → (span : Span) (ns : List (TsExprWithTypeArgs X)) (after : Plan) → implements_clause items span (map e ns) after ≡ implements_clause d span ns after
unfolding implements_clause some_implements
implements_mapped e items d child span [] after = refl
implements_mapped e items d child span (n ∷ ns) after =
    ap (λ z. space (keyword None (codes "implements") (space z))) (children_mapped e (implemented_child items) (implemented_child d) child implemented_format span (n ∷ ns) after)

-- what is implemented, and then the members
class_same : {X Y : Type 0} (e : TsExprWithTypeArgs X → TsExprWithTypeArgs Y) (g : ClassMemberBox X → ClassMemberBox Y) (asks : Y → Answers) (items : Y → Place → Part) (known : X → Answers) (put : X → Place → Part) → ((n : TsExprWithTypeArgs X) → implemented_child items (e n) ≡ implemented_child put n) → ((m : ClassMemberBox X) → member_child asks items (g m) ≡ member_child known put m) → (n : classes.Class X) (head : Plan → Plan) (ns : List (TsExprWithTypeArgs X)) (ms : List (ClassMemberBox X)) (rest : Plan) → head (implements_clause items n.span (map e ns) (braced n (map (member_child asks items) (map g ms)) rest)) ≡ head (implements_clause put n.span ns (braced n (map (member_child known put) ms) rest))
class_same e g asks items known put implemented same n head ns ms rest =
    ap head (implements_mapped e items put implemented n.span ns (braced n (map (member_child asks items) (map g ms)) rest))
    ∙ ap (λ cs. head (implements_clause put n.span ns (braced n cs rest))) (list_mapped g (member_child asks items) (member_child known put) same ms)

-- a class, as what a link holds, and what is written of its parts there
abbrev as_class : {X : Type 0} → Box (classes.Class X) Global → classes.Class X → AnyNode-F X
as_class b n = nodes.StmtPart (stmt_parts.Class (record b { value = n }))

abbrev types_in : {X : Type 0} → (X → Place → Part) → AnyNode-F X → Part
types_in items (nodes.StmtPart (stmt_parts.Class b)) rest = type_params items b.value.type_params rest
types_in items n rest = rest

abbrev heritage_in : {X : Type 0} → (X → Answers) → (X → Place → Part) → AnyNode-F X → Part
heritage_in asks items (nodes.StmtPart (stmt_parts.Class b)) rest = heritage asks items b.value.super_class b.value.super_type_params rest
heritage_in asks items n rest = rest

types_mapped : {X Y : Type 0} (g : X → Y) (items : Y → Place → Part) (b : Box (classes.Class X) Global) (n : classes.Class X) (super_class : Option (ExprBox X)) (types : Option (TsTypeParamDeclBox X)) (args : Option (TsTypeParamInstantiationBox X)) (rest : Plan) → types_in items (map-AnyNode X Y g (as_class b (with_class_parts n super_class types args))) rest ≡ type_params (λ x. items (g x)) types rest
unfolding type_params
types_mapped g items b n super_class None args rest = refl
types_mapped g items b n super_class (Some t) args rest = refl

heritage_mapped : {X Y : Type 0} (g : X → Y) (asks : Y → Answers) (items : Y → Place → Part) (b : Box (classes.Class X) Global) (n : classes.Class X) (super_class : Option (ExprBox X)) (types : Option (TsTypeParamDeclBox X)) (args : Option (TsTypeParamInstantiationBox X)) (rest : Plan) → heritage_in asks items (map-AnyNode X Y g (as_class b (with_class_parts n super_class types args))) rest ≡ heritage (λ x. asks (g x)) (λ x. items (g x)) super_class args rest
unfolding heritage type_args
heritage_mapped g asks items b n None types args rest = refl
heritage_mapped g asks items b n (Some s) types None rest = refl
heritage_mapped g asks items b n (Some s) types (Some t) rest = refl

class_by : {X Y : Type 0} (g : X → Y) (asks : Y → Answers) (items : Y → Place → Part) (b : Box (classes.Class X) Global) (n : classes.Class X) (super_class : Option (ExprBox X)) (types : Option (TsTypeParamDeclBox X)) (args : Option (TsTypeParamInstantiationBox X)) (rest : Plan) → node_items asks items (map-AnyNode X Y g (as_class b (with_class_parts n super_class types args))) (Whole Plain) rest ≡ class_tail (λ x. asks (g x)) (λ x. items (g x)) (with_class_parts n super_class types args) rest
unfolding node_items stmt_part class class_tail class_body ts_expr_with_type_args type_args
class_by {X} {Y} g asks items b n super_class types args rest =
    types_mapped g items b n super_class types args _
    ∙ ap (type_params (λ x. items (g x)) types) (heritage_mapped g asks items b n super_class types args _)
    ∙ class_same {X = X} {Y = Y} _ _ asks items (λ x. asks (g x)) (λ x. items (g x)) (by_args {X = X} _ (λ e. refl) (λ e a. refl)) (λ m. refl) n (λ z. type_params (λ x. items (g x)) types (heritage (λ x. asks (g x)) (λ x. items (g x)) super_class args z)) n.implements.items n.body.items rest

head_mapped : {X Y : Type 0} (g : X → Y) (asks : Y → Answers) (items : Y → Place → Part) (b : Box (classes.Class X) Global) (rest : Plan) → node_items asks items (map-AnyNode X Y g (nodes.StmtPart (stmt_parts.Class b))) (Only ClassHead) rest ≡ decorator_lines (λ x. items (g x)) b.value.decorators.items rest
unfolding node_items stmt_part class decorator
head_mapped g asks items b rest = decorators_mapped _ items (λ x. items (g x)) (λ d. refl) b.value.decorators.items rest

pub class_mapped : {X Y : Type 0} (g : X → Y) (asks : Y → Answers) (items : Y → Place → Part) (b : Box (classes.Class X) Global) (place : Place) (rest : Plan) → node_items asks items (map-AnyNode X Y g (nodes.StmtPart (stmt_parts.Class b))) place rest ≡ class (λ x. asks (g x)) (λ x. items (g x)) b.value place rest
unfolding node_items stmt_part class class_word
class_mapped g asks items b (Only ClassHead) rest = head_mapped g asks items b rest
class_mapped g asks items b (Only ClassWord) rest = refl
class_mapped g asks items b place rest = class_by g asks items b b.value b.value.super_class b.value.type_params b.value.super_type_params rest

-- ---- members

abbrev as_member : {X : Type 0} → Box (class_members.ClassMember X) Global → class_members.ClassMember X → AnyNode-F X
as_member b n = nodes.StmtPart (stmt_parts.ClassMember (record b { value = n }))

-- a parameter that is a field too, by its decorators
param_prop_same : (span : Span) (a : Option Accessibility) (is_override readonly : Bool) (c d p : Part) → ((rest : Plan) → c rest ≡ d rest) → child_at span (λ rest. leading_comments span.lo (accessibility_word a (c (word_before is_override (codes "override") (word_before readonly (codes "readonly") (p rest)))))) ≡ child_at span (λ rest. leading_comments span.lo (accessibility_word a (d (word_before is_override (codes "override") (word_before readonly (codes "readonly") (p rest))))))
param_prop_same span a is_override readonly c d p e = λ i. child_at span (λ rest. leading_comments span.lo (accessibility_word a (e (word_before is_override (codes "override") (word_before readonly (codes "readonly") (p rest))) i)))

constructor_same : {X : Type 0} (n : Constructor X) (before after : Plan) → before ≡ after → leading_comments n.span.lo (start_of n.span (accessibility_word n.accessibility (keyword None (codes "constructor") (punct (codes "(") before)))) ≡ leading_comments n.span.lo (start_of n.span (accessibility_word n.accessibility (keyword None (codes "constructor") (punct (codes "(") after))))
constructor_same n before after e = ap (λ z. leading_comments n.span.lo (start_of n.span (accessibility_word n.accessibility (keyword None (codes "constructor") (punct (codes "(") z))))) e

constructor_by : {X Y : Type 0} (g : X → Y) (asks : Y → Answers) (items : Y → Place → Part) (b : Box (class_members.ClassMember X) Global) (n : Constructor X) (body : Option (BlockStmtBox X)) (place : Place) (rest : Plan) → node_items asks items (map-AnyNode X Y g (as_member b (members.Constructor (record n { body = body })))) place rest ≡ class_constructor (λ x. asks (g x)) (λ x. items (g x)) (record n { body = body }) rest
unfolding node_items expr_part stmt_part class_member class_constructor constructor_word constructor_tail constructor_param constructor_param_place ts_param_prop ts_param_prop_param binding_ident annotation assign_pat constructor_body param decorator
constructor_by {X} {Y} g asks items b n None place rest = constructor_same n _ _ (children_mapped {A = ParamOrTsParamProp X} _ _ _ (each_param {X = X} _
    (by_param_prop {X = X} _ (λ m id. param_prop_same m.span m.accessibility m.is_override m.readonly _ _ _ (decorators_mapped _ items (λ x. items (g x)) (λ d. refl) m.decorators.items)) (λ m id t. param_prop_same m.span m.accessibility m.is_override m.readonly _ _ _ (decorators_mapped _ items (λ x. items (g x)) (λ d. refl) m.decorators.items)) (λ m a. param_prop_same m.span m.accessibility m.is_override m.readonly _ _ _ (decorators_mapped _ items (λ x. items (g x)) (λ d. refl) m.decorators.items)))
    (λ p. param_same p.span _ _ _ _ (list_mapped {A = Decorator X} _ _ (child_of decorator_place (λ d place. decorator (λ x. items (g x)) d)) (λ d. refl) p.decorators.items) (pat_mapped g asks items p.pat (Whole Plain)))) comma_list_format n.span n.params.items _)
constructor_by {X} {Y} g asks items b n (Some body) place rest = constructor_same n _ _ (children_mapped {A = ParamOrTsParamProp X} _ _ _ (each_param {X = X} _
    (by_param_prop {X = X} _ (λ m id. param_prop_same m.span m.accessibility m.is_override m.readonly _ _ _ (decorators_mapped _ items (λ x. items (g x)) (λ d. refl) m.decorators.items)) (λ m id t. param_prop_same m.span m.accessibility m.is_override m.readonly _ _ _ (decorators_mapped _ items (λ x. items (g x)) (λ d. refl) m.decorators.items)) (λ m a. param_prop_same m.span m.accessibility m.is_override m.readonly _ _ _ (decorators_mapped _ items (λ x. items (g x)) (λ d. refl) m.decorators.items)))
    (λ p. param_same p.span _ _ _ _ (list_mapped {A = Decorator X} _ _ (child_of decorator_place (λ d place. decorator (λ x. items (g x)) d)) (λ d. refl) p.decorators.items) (pat_mapped g asks items p.pat (Whole Plain)))) comma_list_format n.span n.params.items _)

method_by : {X Y : Type 0} (g : X → Y) (asks : Y → Answers) (items : Y → Place → Part) (b : Box (class_members.ClassMember X) Global) (n : ClassMethod X) (kind : MethodKind) (place : Place) (rest : Plan) → node_items asks items (map-AnyNode X Y g (as_member b (members.Method (record n { kind = kind })))) place rest ≡ class_method (λ x. asks (g x)) (λ x. items (g x)) (record n { kind = kind }) rest
unfolding node_items stmt_part class_member class_method method_rest method_kind accessor_words method_word static_method
method_by g asks items b n Method place rest = refl
method_by g asks items b n Getter place rest = refl
method_by g asks items b n Setter place rest = refl

private_method_by : {X Y : Type 0} (g : X → Y) (asks : Y → Answers) (items : Y → Place → Part) (b : Box (class_members.ClassMember X) Global) (n : PrivateMethod X) (kind : MethodKind) (place : Place) (rest : Plan) → node_items asks items (map-AnyNode X Y g (as_member b (members.PrivateMethod (record n { kind = kind })))) place rest ≡ private_method (λ x. items (g x)) (record n { kind = kind }) rest
unfolding node_items stmt_part class_member private_method private_words private_kind private_rest
private_method_by g asks items b n Method place rest = refl
private_method_by g asks items b n Getter place rest = refl
private_method_by g asks items b n Setter place rest = refl

prop_by : {X Y : Type 0} (g : X → Y) (asks : Y → Answers) (items : Y → Place → Part) (b : Box (class_members.ClassMember X) Global) (n : ClassProp X) (place : Place) (type_ann : Option (TsTypeAnnBox X)) (value : Option (ExprBox X)) (rest : Plan) → node_items asks items (map-AnyNode X Y g (as_member b (members.ClassProp (record n { type_ann = type_ann; value = value })))) place rest ≡ class_prop (λ x. items (g x)) (record n { type_ann = type_ann; value = value }) rest
unfolding node_items stmt_part class_member class_prop prop_modifiers prop_tail field_annotation prop_value decorator
prop_by g asks items b n place =
    by_three (map _) (decorator_lines items) (decorator_lines (λ x. items (g x))) _ (field_annotation items n.definite) (field_annotation (λ x. items (g x)) n.definite) _ (prop_value items) (prop_value (λ x. items (g x)))
    (λ ds t v rest. leading_comments n.span.lo (start_of n.span (ds (prop_modifiers n (items (g n.key.node.value) (Whole Plain) (question n.is_optional (t (v (semi (end_of n.span rest))))))))))
    (decorators_mapped _ items (λ x. items (g x)) (λ d. refl)) (elim [ None ↦ λ z. refl | Some t ↦ λ z. refl ]) (elim [ None ↦ λ z. refl | Some t ↦ λ z. refl ]) n.decorators.items

-- decorators as a list
abbrev decorator_list : {X : Type 0} → (X → Place → Part) → Span → List (Decorator X) → Part
decorator_list items span ds = list decorators_format span (map (child_of decorator_place (λ d place. decorator items d)) ds)

private_prop_by : {X Y : Type 0} (g : X → Y) (asks : Y → Answers) (items : Y → Place → Part) (b : Box (class_members.ClassMember X) Global) (n : PrivateProp X) (place : Place) (type_ann : Option (TsTypeAnnBox X)) (value : Option (ExprBox X)) (rest : Plan) → node_items asks items (map-AnyNode X Y g (as_member b (members.PrivateProp (record n { type_ann = type_ann; value = value })))) place rest ≡ private_prop (λ x. items (g x)) (record n { type_ann = type_ann; value = value }) rest
unfolding node_items stmt_part class_member private_prop private_modifiers private_prop_tail field_annotation prop_value decorator
private_prop_by {X} g asks items b n place =
    by_three (map _) (decorator_list items n.span) (decorator_list (λ x. items (g x)) n.span) _ (field_annotation items n.definite) (field_annotation (λ x. items (g x)) n.definite) _ (prop_value items) (prop_value (λ x. items (g x)))
    (λ ds t v rest. leading_comments n.span.lo (start_of n.span (ds (private_modifiers n (private_name n.key (question n.is_optional (t (v (semi (end_of n.span rest))))))))))
    (λ ds z. ap (λ cs. list decorators_format n.span cs z) (list_mapped {A = Decorator X} _ _ (child_of decorator_place (λ d place. decorator (λ x. items (g x)) d)) (λ d. refl) ds)) (elim [ None ↦ λ z. refl | Some t ↦ λ z. refl ]) (elim [ None ↦ λ z. refl | Some t ↦ λ z. refl ]) n.decorators.items

accessor_by : {X Y : Type 0} (g : X → Y) (asks : Y → Answers) (items : Y → Place → Part) (b : Box (class_members.ClassMember X) Global) (n : AutoAccessor X) (place : Place) (key : Key X) (type_ann : Option (TsTypeAnnBox X)) (value : Option (ExprBox X)) (rest : Plan) → node_items asks items (map-AnyNode X Y g (as_member b (members.AutoAccessor (record n { key = key; type_ann = type_ann; value = value })))) place rest ≡ auto_accessor (λ x. items (g x)) (record n { key = key; type_ann = type_ann; value = value }) rest
unfolding node_items stmt_part class_member auto_accessor accessor_modifiers accessor_tail accessor_key field_annotation initializer decorator
accessor_by {X} g asks items b n place =
    by_four (map _) (decorator_list items n.span) (decorator_list (λ x. items (g x)) n.span)
    _ (accessor_key items) (accessor_key (λ x. items (g x))) _ (field_annotation items n.definite) (field_annotation (λ x. items (g x)) n.definite) _ (initializer items) (initializer (λ x. items (g x)))
    (λ ds k t v rest. ds (accessor_modifiers n (keyword None (codes "accessor") (space (k (t (v (semi rest))))))))
    (λ ds z. ap (λ cs. list decorators_format n.span cs z) (list_mapped {A = Decorator X} _ _ (child_of decorator_place (λ d place. decorator (λ x. items (g x)) d)) (λ d. refl) ds))
    (elim [ keys.Public k ↦ λ z. refl | keys.Private k ↦ λ z. refl ]) (elim [ None ↦ λ z. refl | Some t ↦ λ z. refl ]) (elim [ None ↦ λ z. refl | Some t ↦ λ z. refl ]) n.decorators.items

index_by : {X Y : Type 0} (g : X → Y) (asks : Y → Answers) (items : Y → Place → Part) (b : Box (class_members.ClassMember X) Global) (n : TsIndexSignature X) (type_ann : Option (TsTypeAnnBox X)) (place : Place) (rest : Plan) → node_items asks items (map-AnyNode X Y g (as_member b (members.TsIndexSignature (record n { type_ann = type_ann })))) place rest ≡ index_member (λ x. asks (g x)) (λ x. items (g x)) (record n { type_ann = type_ann }) rest
unfolding node_items stmt_part class_member index_member ts_index_signature annotation
index_by {X} g asks items b n None place rest = ap (λ z. leading_comments n.span.lo (word_before n.is_static (codes "static") (readonly_index n.readonly (punct (codes "[") z)))) (children_mapped {A = TsFnParamBox X} _ (child_of (fn_param_place asks) (fn_param_items items)) (child_of (fn_param_place (λ x. asks (g x))) (fn_param_items (λ x. items (g x)))) (λ p. refl) types_format n.span n.params.items _)
index_by {X} g asks items b n (Some t) place rest = ap (λ z. leading_comments n.span.lo (word_before n.is_static (codes "static") (readonly_index n.readonly (punct (codes "[") z)))) (children_mapped {A = TsFnParamBox X} _ (child_of (fn_param_place asks) (fn_param_items items)) (child_of (fn_param_place (λ x. asks (g x))) (fn_param_items (λ x. items (g x)))) (λ p. refl) types_format n.span n.params.items _)

member_by : {X Y : Type 0} (g : X → Y) (asks : Y → Answers) (items : Y → Place → Part) (b : Box (class_members.ClassMember X) Global) (n : class_members.ClassMember X) (place : Place) (rest : Plan) → node_items asks items (map-AnyNode X Y g (as_member b n)) place rest ≡ class_member (λ x. asks (g x)) (λ x. items (g x)) n rest
unfolding node_items stmt_part class_member static_block
member_by g asks items b (members.Constructor n) place rest = constructor_by g asks items b n n.body place rest
member_by g asks items b (members.Method n) place rest = method_by g asks items b n n.kind place rest
member_by g asks items b (members.PrivateMethod n) place rest = private_method_by g asks items b n n.kind place rest
member_by g asks items b (members.ClassProp n) place rest = prop_by g asks items b n place n.type_ann n.value rest
member_by g asks items b (members.PrivateProp n) place rest = private_prop_by g asks items b n place n.type_ann n.value rest
member_by g asks items b (members.AutoAccessor n) place rest = accessor_by g asks items b n place n.key n.type_ann n.value rest
member_by g asks items b (members.TsIndexSignature n) place rest = index_by g asks items b n n.type_ann place rest
member_by g asks items b n place rest = refl

pub class_member_mapped : {X Y : Type 0} (g : X → Y) (asks : Y → Answers) (items : Y → Place → Part) (b : Box (class_members.ClassMember X) Global) (place : Place) (rest : Plan) → node_items asks items (map-AnyNode X Y g (nodes.StmtPart (stmt_parts.ClassMember b))) place rest ≡ class_member (λ x. asks (g x)) (λ x. items (g x)) b.value rest
class_member_mapped g asks items b place rest = member_by g asks items b b.value place rest
