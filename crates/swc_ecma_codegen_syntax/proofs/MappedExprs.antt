-- The forms of expressions, templates and objects over what links hold as something else.
use Rattle.std.proofs.Common.{◌≡◌, ◌+◌, ◌==◌, cond, Bool, true, false, refl, ◌∙◌, ap, ap₂, List, [], ◌∷◌, length, map, codes, Option, Some, None}
use Rattle.swc_ecma_codegen_common.specs.declared.positions.Span.{Span}
use Rattle.swc_ecma_codegen_tree.specs.declared.links.AnyNode.{map-AnyNode}
use Rattle.swc_ecma_codegen_tree.specs.declared.links.AnyNode.TheOpen as nodes
use Rattle.swc_ecma_codegen_tree.specs.Links.{ExprBox, TsTypeParamInstantiationBox}
use Rattle.swc_ecma_codegen_tree.specs.declared.exprs.Expr.TheVariants as exprs
use Rattle.swc_ecma_codegen_tree.specs.declared.exprs.UpdateExpr.{UpdateExpr}
use Rattle.swc_ecma_codegen_tree.specs.declared.exprs.MemberProp.{MemberProp}
use Rattle.swc_ecma_codegen_tree.specs.declared.exprs.MemberProp.TheVariants as member_props
use Rattle.swc_ecma_codegen_tree.specs.declared.exprs.SuperPropExpr.{SuperPropExpr}
use Rattle.swc_ecma_codegen_tree.specs.declared.exprs.SuperProp.{SuperProp}
use Rattle.swc_ecma_codegen_tree.specs.declared.exprs.SuperProp.TheVariants as super_props
use Rattle.swc_ecma_codegen_tree.specs.declared.exprs.OptChainExpr.{OptChainExpr}
use Rattle.swc_ecma_codegen_tree.specs.declared.exprs.OptChainBase.{OptChainBase}
use Rattle.swc_ecma_codegen_tree.specs.declared.exprs.OptChainBase.TheVariants as chain_bases
use Rattle.swc_ecma_codegen_tree.specs.declared.exprs.YieldExpr.{YieldExpr}
use Rattle.swc_ecma_codegen_tree.specs.declared.exprs.TaggedTpl.{TaggedTpl}
use Rattle.swc_ecma_codegen_tree.specs.declared.exprs.Tpl.{Tpl}
use Rattle.swc_ecma_codegen_tree.specs.declared.exprs.TplElement.{TplElement}
use Rattle.swc_ecma_codegen_tree.specs.declared.exprs.ObjectLit.{ObjectLit}
use Rattle.swc_ecma_codegen_tree.specs.declared.exprs.PropOrSpread.{PropOrSpread}
use Rattle.swc_ecma_codegen_tree.specs.declared.exprs.PropName.{PropName}
use Rattle.swc_ecma_codegen_tree.specs.declared.exprs.PropName.TheVariants as prop_names
use Rattle.swc_ecma_codegen_tree.specs.declared.parts.ExprPart.TheVariants as expr_parts
use Rattle.swc_ecma_codegen_grammar.specs.Phrases.{Never, mark}
use Rattle.swc_ecma_codegen_grammar.specs.ExprPhrases.{chain_mark}
use Rattle.swc_ecma_codegen_grammar.specs.TemplatePhrases.{tpl_element, part_before, is_counted}
use Rattle.swc_ecma_codegen_grammar.specs.declared.roles.Role.TheVariants.{Template, TaggedTemplate, PropertyName, ObjectLiteral, ChainMember, MethodHead, Function}
use Rattle.swc_ecma_codegen_grammar.proofs.MappedTemplates.{length_mapped}
use Rattle.swc_ecma_codegen_grammar.proofs.MappedProps.{by_prop, each_prop}
use Rattle.swc_ecma_codegen_syntax.specs.declared.nonterminals.Nonterminal.TheVariants as nt
use Rattle.swc_ecma_codegen_syntax.specs.declared.parameters.Parameters.{Parameters}
use Rattle.swc_ecma_codegen_syntax.specs.Parameters.{with_in}
use Rattle.swc_ecma_codegen_syntax.specs.Forms.{Form, Fixed, Part, Provided, ByRule, ◌⇢◌, map_form}
use Rattle.swc_ecma_codegen_syntax.specs.NameForms.{name_form}
use Rattle.swc_ecma_codegen_syntax.specs.MemberForms.{expr_part, computed_form, prop_form, member_form, super_form, super_prop_form, annotation_form, type_args_form, tagged_form, chain_prop_form, chain_member_form, chain_base_form, opt_chain_form}
use Rattle.swc_ecma_codegen_syntax.specs.TemplateForms.{tpl_rest_form, tpl_parts_form, tpl_form}
use Rattle.swc_ecma_codegen_syntax.specs.ObjectForms.{prop_name_form, key_value_form, assign_prop_form, accessor_body_form, getter_form, this_param_form, setter_form, method_prop_form, property_form, spread_form, prop_or_spread_form, object_form}
use Rattle.swc_ecma_codegen_syntax.specs.ExprForms.{update_form, yield_arg_form, yield_rest_form, yield_form, call_or_member, expr_form}
use Rattle.swc_ecma_codegen_syntax.specs.NodeForms.{node_form, part_form}
use Rattle.swc_ecma_codegen_syntax.proofs.Judged.{listed_mapped}
use Rattle.swc_ecma_codegen_syntax.proofs.MappedCalls.{form_in}

-- ---- objects

pub prop_name_mapped : {X Y : Type 0} (g : X → Y) (called : Bool) (c : Parameters) (n : PropName X) → node_form called c (map-AnyNode X Y g (nodes.ExprPart (expr_parts.PropName n))) PropertyName ≡ map_form g (prop_name_form c n)
unfolding node_form part_form prop_name_form computed_form map_form
prop_name_mapped g called c (prop_names.Ident n) = refl
prop_name_mapped g called c (prop_names.Str n) = refl
prop_name_mapped g called c (prop_names.Num n) = refl
prop_name_mapped g called c (prop_names.BigInt n) = refl
prop_name_mapped g called c (prop_names.Computed n) = refl

pub object_part_mapped : {X Y : Type 0} (g : X → Y) (called : Bool) (c : Parameters) (n : ObjectLit X) → node_form called c (map-AnyNode X Y g (nodes.ExprPart (expr_parts.ObjectLit n))) ObjectLiteral ≡ map_form g (object_form c n)
unfolding node_form part_form object_form prop_or_spread_form spread_form property_form key_value_form assign_prop_form accessor_body_form getter_form this_param_form setter_form method_prop_form annotation_form name_form map_form
object_part_mapped {X} g called c n = ap (λ a. Fixed (mark (codes "{")) ⇢ a ⇢ Fixed (mark (codes "}"))) (listed_mapped {A = PropOrSpread X} g _ (codes ",") (prop_or_spread_form c) (prop_or_spread_form c) (each_prop {X = X} _ (λ m. refl) (by_prop {X = X} _
    (λ m. refl) (λ m. ap (λ a. a ⇢ Fixed (mark (codes ":")) ⇢ map_form g (expr_part nt.AssignmentExpression (with_in c) m.value)) (prop_name_mapped g called c m.key)) (λ m. refl)
    (λ m. refl) (λ m body. refl) (λ m t. refl) (λ m t body. refl) (λ m. refl) (λ m body. refl) (λ m this. refl) (λ m this body. refl)
    (λ m. ap (λ a. Part nt.MethodHead c MethodHead (g m.function.node.value) ⇢ a ⇢ Part nt.FunctionTail c Function (g m.function.node.value)) (prop_name_mapped g called c m.key)))) n.props.items)

pub object_mapped : {X Y : Type 0} (g : X → Y) (keeps called : Bool) (c : Parameters) (n : ObjectLit X) → form_in keeps called c (map-AnyNode X Y g (nodes.Expr (exprs.Object n))) ≡ map_form g (object_form c n)
unfolding expr_form node_form part_form object_form prop_or_spread_form spread_form property_form key_value_form assign_prop_form accessor_body_form getter_form this_param_form setter_form method_prop_form annotation_form name_form map_form
object_mapped g keeps called c n = object_part_mapped g called c n

-- ---- templates

rest_mapped : {X Y A B : Type 0} (g : X → Y) (h : A → B) (e : A → Form X) (d : B → Form Y) → ((x : A) → d (h x) ≡ map_form g (e x)) → (tagged : Bool) (es : List A) (qs : List TplElement) → tpl_rest_form d tagged (map h es) qs ≡ map_form g (tpl_rest_form e tagged es qs)
unfolding tpl_rest_form map_form
rest_mapped g h e d same tagged [] qs = refl
rest_mapped g h e d same tagged (x ∷ es) [] = refl
rest_mapped g h e d same tagged (x ∷ es) (q ∷ qs) = ap₂ (λ a b. a ⇢ Fixed (tpl_element false (part_before tagged qs) q) ⇢ b) (same x) (rest_mapped g h e d same tagged es qs)

parts_mapped : {X Y A B : Type 0} (g : X → Y) (h : A → B) (e : A → Form X) (d : B → Form Y) → ((x : A) → d (h x) ≡ map_form g (e x)) → (tagged : Bool) (es : List A) (qs : List TplElement) → tpl_parts_form d tagged (map h es) qs ≡ map_form g (tpl_parts_form e tagged es qs)
unfolding tpl_parts_form map_form
parts_mapped g h e d same tagged es [] = refl
parts_mapped g h e d same tagged es (q ∷ qs) = ap (λ b. Fixed (tpl_element true (part_before tagged qs) q) ⇢ b) (rest_mapped g h e d same tagged es qs)

chosen_mapped : {X Y : Type 0} (g : X → Y) (b : Bool) (a : Form X) → cond b (map_form g a) (Provided ByRule false (Fixed Never)) ≡ map_form g (cond b a (Provided ByRule false (Fixed Never)))
unfolding map_form
chosen_mapped g true a = refl
chosen_mapped g false a = refl

counted_mapped : {X Y A B : Type 0} (g : X → Y) (h : A → B) (e : A → Form X) (d : B → Form Y) → ((x : A) → d (h x) ≡ map_form g (e x)) → (tagged : Bool) (es : List A) (qs : List TplElement) →
    cond (is_counted (map h es) qs) (tpl_parts_form d tagged (map h es) qs) (Provided ByRule false (Fixed Never)) ≡ map_form g (cond (is_counted es qs) (tpl_parts_form e tagged es qs) (Provided ByRule false (Fixed Never)))
counted_mapped g h e d same tagged es qs =
    ap₂ (λ n a. cond (length qs == n + 1) a (Provided ByRule false (Fixed Never))) (length_mapped h es) (parts_mapped g h e d same tagged es qs)
    ∙ chosen_mapped g (is_counted es qs) (tpl_parts_form e tagged es qs)

pub tpl_mapped : {X Y : Type 0} (g : X → Y) (called : Bool) (c : Parameters) (n : Tpl X) → node_form called c (map-AnyNode X Y g (nodes.ExprPart (expr_parts.Tpl n))) Template ≡ map_form g (tpl_form c false n)
unfolding node_form part_form tpl_form map_form
tpl_mapped {X} {Y} g called c n = counted_mapped {A = ExprBox X} {B = ExprBox Y} g _ (expr_part nt.Expression (with_in c)) (expr_part nt.Expression (with_in c)) (λ x. refl) false n.exprs.items n.quasis.items

pub tagged_mapped : {X Y : Type 0} (g : X → Y) (called : Bool) (c : Parameters) (n : Tpl X) → node_form called c (map-AnyNode X Y g (nodes.ExprPart (expr_parts.Tpl n))) TaggedTemplate ≡ map_form g (tpl_form c true n)
unfolding node_form part_form tpl_form map_form
tagged_mapped {X} {Y} g called c n = counted_mapped {A = ExprBox X} {B = ExprBox Y} g _ (expr_part nt.Expression (with_in c)) (expr_part nt.Expression (with_in c)) (λ x. refl) true n.exprs.items n.quasis.items

-- ---- members

pub member_mapped : {X Y : Type 0} (g : X → Y) (keeps called : Bool) (c : Parameters) (span : Span) (obj : ExprBox X) (prop : MemberProp X) →
    form_in keeps called c (map-AnyNode X Y g (nodes.Expr (exprs.Member (record { span = span; obj = obj; prop = prop })))) ≡ map_form g (member_form (call_or_member called) c (record { span = span; obj = obj; prop = prop }))
unfolding expr_form member_form prop_form computed_form map_form
member_mapped g keeps called c span obj (member_props.Ident n) = refl
member_mapped g keeps called c span obj (member_props.Computed n) = refl
member_mapped g keeps called c span obj (member_props.PrivateName n) = refl

pub super_mapped : {X Y : Type 0} (g : X → Y) (keeps called : Bool) (c : Parameters) (n : SuperPropExpr X) (prop : SuperProp X) →
    form_in keeps called c (map-AnyNode X Y g (nodes.Expr (exprs.SuperProp (record n { prop = prop })))) ≡ map_form g (super_prop_form c (record n { prop = prop }))
unfolding expr_form super_prop_form super_form computed_form map_form
super_mapped g keeps called c n (super_props.Ident p) = refl
super_mapped g keeps called c n (super_props.Computed p) = refl

pub tagged_by : {X Y : Type 0} (g : X → Y) (keeps called : Bool) (c : Parameters) (n : TaggedTpl X) (types : Option (TsTypeParamInstantiationBox X)) →
    form_in keeps called c (map-AnyNode X Y g (nodes.Expr (exprs.TaggedTpl (record n { type_params = types })))) ≡ map_form g (tagged_form (call_or_member called) c (record n { type_params = types }))
unfolding expr_form tagged_form type_args_form map_form
tagged_by g keeps called c n None = refl
tagged_by g keeps called c n (Some t) = refl

pub chain_mapped : {X Y : Type 0} (g : X → Y) (keeps called : Bool) (c : Parameters) (n : OptChainExpr X) (base : OptChainBase X) →
    form_in keeps called c (map-AnyNode X Y g (nodes.Expr (exprs.OptChain (record n { base = base })))) ≡ map_form g (opt_chain_form c (record n { base = base }))
unfolding expr_form opt_chain_form chain_base_form map_form
chain_mapped g keeps called c n (chain_bases.Member b) = refl
chain_mapped g keeps called c n (chain_bases.Call b) = refl

pub chain_member_mapped : {X Y : Type 0} (g : X → Y) (called : Bool) (c : Parameters) (optional : Bool) (span : Span) (obj : ExprBox X) (prop : MemberProp X) →
    node_form called c (map-AnyNode X Y g (nodes.MemberExpr (record { span = span; obj = obj; prop = prop }))) (ChainMember optional) ≡ map_form g (chain_member_form c optional (record { span = span; obj = obj; prop = prop }))
unfolding node_form chain_member_form chain_prop_form chain_mark computed_form map_form
chain_member_mapped g called c true span obj (member_props.Ident n) = refl
chain_member_mapped g called c false span obj (member_props.Ident n) = refl
chain_member_mapped g called c true span obj (member_props.Computed n) = refl
chain_member_mapped g called c false span obj (member_props.Computed n) = refl
chain_member_mapped g called c true span obj (member_props.PrivateName n) = refl
chain_member_mapped g called c false span obj (member_props.PrivateName n) = refl

-- ---- operators

pub update_mapped : {X Y : Type 0} (g : X → Y) (keeps called : Bool) (c : Parameters) (n : UpdateExpr X) (prefix : Bool) →
    form_in keeps called c (map-AnyNode X Y g (nodes.Expr (exprs.Update (record n { prefix = prefix })))) ≡ map_form g (update_form c (record n { prefix = prefix }))
unfolding expr_form update_form map_form
update_mapped g keeps called c n true = refl
update_mapped g keeps called c n false = refl

pub yield_mapped : {X Y : Type 0} (g : X → Y) (keeps called : Bool) (c : Parameters) (n : YieldExpr X) (delegate : Bool) (arg : Option (ExprBox X)) →
    form_in keeps called c (map-AnyNode X Y g (nodes.Expr (exprs.Yield (record n { delegate = delegate; arg = arg })))) ≡ map_form g (yield_form c (record n { delegate = delegate; arg = arg }))
unfolding expr_form yield_form yield_rest_form yield_arg_form map_form
yield_mapped g keeps called c n true None = refl
yield_mapped g keeps called c n true (Some x) = refl
yield_mapped g keeps called c n false None = refl
yield_mapped g keeps called c n false (Some x) = refl
