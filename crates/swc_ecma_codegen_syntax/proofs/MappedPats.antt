-- The forms of patterns and targets over what links hold as something else.
use Rattle.std.proofs.Common.{◌≡◌, Bool, true, false, not, refl, ◌∙◌, ap, ap₂, List, [], ◌∷◌, map, codes, Option, Some, None}
use Rattle.swc_ecma_codegen_common.specs.declared.positions.Span.{Span}
use Rattle.swc_ecma_codegen_tree.specs.declared.links.AnyNode.{AnyNode-F, map-AnyNode}
use Rattle.swc_ecma_codegen_tree.specs.declared.links.AnyNode.TheOpen as nodes
use Rattle.swc_ecma_codegen_tree.specs.Links.{ExprBox, PatBox, TsTypeAnnBox}
use Rattle.swc_ecma_codegen_tree.specs.declared.idents.Ident.{Ident}
use Rattle.swc_ecma_codegen_tree.specs.declared.exprs.MemberProp.{MemberProp}
use Rattle.swc_ecma_codegen_tree.specs.declared.exprs.MemberProp.TheVariants as member_props
use Rattle.swc_ecma_codegen_tree.specs.declared.exprs.SuperPropExpr.{SuperPropExpr}
use Rattle.swc_ecma_codegen_tree.specs.declared.exprs.SuperProp.{SuperProp}
use Rattle.swc_ecma_codegen_tree.specs.declared.exprs.SuperProp.TheVariants as super_props
use Rattle.swc_ecma_codegen_tree.specs.declared.exprs.OptChainExpr.{OptChainExpr}
use Rattle.swc_ecma_codegen_tree.specs.declared.exprs.OptChainBase.{OptChainBase}
use Rattle.swc_ecma_codegen_tree.specs.declared.exprs.OptChainBase.TheVariants as chain_bases
use Rattle.swc_ecma_codegen_tree.specs.declared.pats.Pat.{Pat}
use Rattle.swc_ecma_codegen_tree.specs.declared.pats.Pat.TheVariants as pats
use Rattle.swc_ecma_codegen_tree.specs.declared.pats.ArrayPat.{ArrayPat}
use Rattle.swc_ecma_codegen_tree.specs.declared.pats.ObjectPat.{ObjectPat}
use Rattle.swc_ecma_codegen_tree.specs.declared.pats.ObjectPatProp.{ObjectPatProp}
use Rattle.swc_ecma_codegen_tree.specs.declared.pats.RestPat.{RestPat}
use Rattle.swc_ecma_codegen_tree.specs.declared.pats.AssignTarget.{AssignTarget}
use Rattle.swc_ecma_codegen_tree.specs.declared.pats.AssignTarget.TheVariants as targets
use Rattle.swc_ecma_codegen_tree.specs.declared.pats.SimpleAssignTarget.{SimpleAssignTarget}
use Rattle.swc_ecma_codegen_tree.specs.declared.pats.SimpleAssignTarget.TheVariants as simple_targets
use Rattle.swc_ecma_codegen_tree.specs.declared.pats.AssignTargetPat.{AssignTargetPat}
use Rattle.swc_ecma_codegen_tree.specs.declared.pats.AssignTargetPat.TheVariants as target_pats
use Rattle.swc_ecma_codegen_tree.specs.declared.parts.ExprPart.{ExprPart}
use Rattle.swc_ecma_codegen_tree.specs.declared.parts.ExprPart.TheVariants as expr_parts
use Rattle.swc_ecma_codegen_tree.specs.declared.exprs.PropName.{PropName}
use Rattle.swc_ecma_codegen_tree.specs.declared.exprs.PropName.TheVariants as prop_names
use Rattle.swc_ecma_codegen_grammar.specs.Phrases.{Closing, RightBrace, Nothing, mark}
use Rattle.swc_ecma_codegen_grammar.specs.ElementPhrases.{last_is_hole}
use Rattle.swc_ecma_codegen_grammar.specs.declared.roles.Role.{Role}
use Rattle.swc_ecma_codegen_grammar.specs.declared.roles.Role.TheVariants.{Pattern, ObjectLiteral, PropertyName, ChainCall, AssignmentTarget, Template, TaggedTemplate}
use Rattle.swc_ecma_codegen_grammar.proofs.Mapped.{hole_mapped}
use Rattle.swc_ecma_codegen_grammar.proofs.MappedPats.{by_cases}
use Rattle.swc_ecma_codegen_syntax.specs.declared.nonterminals.Nonterminal.{Nonterminal}
use Rattle.swc_ecma_codegen_syntax.specs.declared.nonterminals.Nonterminal.TheVariants as nt
use Rattle.swc_ecma_codegen_syntax.specs.declared.parameters.Parameters.{Parameters}
use Rattle.swc_ecma_codegen_syntax.specs.Parameters.{of_targets}
use Rattle.swc_ecma_codegen_syntax.specs.Forms.{Form, Fixed, Provided, ByRule, ◌⇢◌, map_form}
use Rattle.swc_ecma_codegen_syntax.specs.NameForms.{name_form}
use Rattle.swc_ecma_codegen_syntax.specs.MemberForms.{computed_form, prop_form, member_form, super_form, super_prop_form, annotation_form, chain_base_form, opt_chain_form}
use Rattle.swc_ecma_codegen_syntax.specs.PatForms.{last_place, pat_part, binding_form, initializer_form, question_form, pat_element_form, pat_elements_after, pat_elements_form, closing_form, elements_end_form, array_pat_form, rest_form, assign_pat_form, key_value_pat_form, assign_pat_prop_form, pat_prop_form, pat_props_after, pat_props_form, object_pat_form, pat_form, pat_nonterminal}
use Rattle.swc_ecma_codegen_syntax.specs.TargetForms.{paren_target_form, simple_target_form, target_pat_form, target_form, target_nonterminal}
use Rattle.swc_ecma_codegen_syntax.specs.NodeForms.{node_form, part_form, node_nonterminal, part_nonterminal}
use Rattle.swc_ecma_codegen_syntax.proofs.MappedCalls.{chain_call_mapped}
use Rattle.swc_ecma_codegen_syntax.proofs.MappedExprs.{prop_name_mapped, object_part_mapped, tpl_mapped, tagged_mapped}
use Rattle.swc_ecma_codegen_syntax.specs.ClassForms.{prop_name_nonterminal, is_constructor_name}

-- ---- elements

elements_after_mapped : {X Y : Type 0} (g : X → Y) (comma : Bool) (k : Option (PatBox X) → Option (PatBox Y)) (c : Parameters) → ((place : Nonterminal) (o : Option (PatBox X)) → pat_element_form place c (k o) ≡ map_form g (pat_element_form place c o)) →
    (xs : List (Option (PatBox X))) → pat_elements_after comma c (map k xs) ≡ map_form g (pat_elements_after comma c xs)
unfolding pat_elements_after map_form
elements_after_mapped g comma k c same [] = refl
elements_after_mapped g comma k c same (x ∷ []) = ap (λ a. Fixed (mark (codes ",")) ⇢ a ⇢ Fixed Nothing) (same (last_place comma) x)
elements_after_mapped g comma k c same (x ∷ y ∷ xs) = ap₂ (λ a b. Fixed (mark (codes ",")) ⇢ a ⇢ b) (same nt.PatternElement x) (elements_after_mapped g comma k c same (y ∷ xs))

elements_mapped : {X Y : Type 0} (g : X → Y) (comma : Bool) (k : Option (PatBox X) → Option (PatBox Y)) (c : Parameters) → ((place : Nonterminal) (o : Option (PatBox X)) → pat_element_form place c (k o) ≡ map_form g (pat_element_form place c o)) →
    (xs : List (Option (PatBox X))) → pat_elements_form comma c (map k xs) ≡ map_form g (pat_elements_form comma c xs)
unfolding pat_elements_form map_form
elements_mapped g comma k c same [] = refl
elements_mapped g comma k c same (x ∷ []) = ap (λ a. a ⇢ Fixed Nothing) (same (last_place comma) x)
elements_mapped g comma k c same (x ∷ y ∷ xs) = ap₂ (λ a b. a ⇢ b) (same nt.PatternElement x) (elements_after_mapped g comma k c same (y ∷ xs))

element_mapped : {X Y : Type 0} (g : X → Y) (k : Option (PatBox X) → Option (PatBox Y)) (h : PatBox X → PatBox Y) (c : Parameters) → k None ≡ None → ((x : PatBox X) → k (Some x) ≡ Some (h x)) →
    ((place : Nonterminal) (x : PatBox X) → pat_part place c (h x) ≡ map_form g (pat_part place c x)) → (place : Nonterminal) (o : Option (PatBox X)) → pat_element_form place c (k o) ≡ map_form g (pat_element_form place c o)
unfolding pat_element_form map_form
element_mapped g k h c none some same place None = ap (pat_element_form place c) none
element_mapped g k h c none some same place (Some x) = ap (pat_element_form place c) (some x) ∙ same place x

closing_mapped : {X Y A B : Type 0} (g : X → Y) (comma : Bool) (close : Closing) (h : A → B) (xs : List A) → closing_form comma close (map h xs) ≡ map_form g (closing_form comma close xs)
unfolding closing_form map_form
closing_mapped g comma close h [] = refl
closing_mapped g comma close h (x ∷ xs) = refl

end_mapped : {X Y A B : Type 0} (g : X → Y) (comma : Bool) (hole : Bool) (h : A → B) (xs : List A) → elements_end_form comma hole (map h xs) ≡ map_form g (elements_end_form comma hole xs)
unfolding elements_end_form map_form
end_mapped g comma true h xs = refl
end_mapped g comma false h xs = closing_mapped g comma _ h xs

abbrev bracketed : {X : Type 0} → Form X → Form X → Form X → Form X → Form X
bracketed elements end optional typed = Fixed (mark (codes "[")) ⇢ elements ⇢ end ⇢ optional ⇢ typed

bracketed_mapped : {X Y : Type 0} (g : X → Y) (comma : Bool) (k : Option (PatBox X) → Option (PatBox Y)) (h : PatBox X → PatBox Y) (c : Parameters) (optional typed : Form Y) → k None ≡ None → ((x : PatBox X) → k (Some x) ≡ Some (h x)) →
    ((place : Nonterminal) (x : PatBox X) → pat_part place c (h x) ≡ map_form g (pat_part place c x)) → (xs : List (Option (PatBox X))) →
    bracketed (pat_elements_form comma c (map k xs)) (elements_end_form comma (last_is_hole (map k xs)) (map k xs)) optional typed ≡ bracketed (map_form g (pat_elements_form comma c xs)) (map_form g (elements_end_form comma (last_is_hole xs) xs)) optional typed
bracketed_mapped g comma k h c optional typed none some same xs =
    ap₂ (λ a b. bracketed a b optional typed) (elements_mapped g comma k c (element_mapped g k h c none some same) xs)
    (ap (λ b. elements_end_form comma b (map k xs)) (hole_mapped k h none some xs) ∙ end_mapped g comma (last_is_hole xs) k xs)

-- ---- properties

props_after_mapped : {X Y : Type 0} (g : X → Y) (comma : Bool) (h : ObjectPatProp X → ObjectPatProp Y) (c : Parameters) → ((last : Bool) (n : ObjectPatProp X) → pat_prop_form last c (h n) ≡ map_form g (pat_prop_form last c n)) →
    (xs : List (ObjectPatProp X)) → pat_props_after comma c (map h xs) ≡ map_form g (pat_props_after comma c xs)
unfolding pat_props_after map_form
props_after_mapped g comma h c same [] = refl
props_after_mapped g comma h c same (x ∷ []) = ap (λ a. Fixed (mark (codes ",")) ⇢ a ⇢ Fixed Nothing) (same (not comma) x)
props_after_mapped g comma h c same (x ∷ y ∷ xs) = ap₂ (λ a b. Fixed (mark (codes ",")) ⇢ a ⇢ b) (same false x) (props_after_mapped g comma h c same (y ∷ xs))

props_mapped : {X Y : Type 0} (g : X → Y) (comma : Bool) (h : ObjectPatProp X → ObjectPatProp Y) (c : Parameters) → ((last : Bool) (n : ObjectPatProp X) → pat_prop_form last c (h n) ≡ map_form g (pat_prop_form last c n)) →
    (xs : List (ObjectPatProp X)) → pat_props_form comma c (map h xs) ≡ map_form g (pat_props_form comma c xs)
unfolding pat_props_form map_form
props_mapped g comma h c same [] = refl
props_mapped g comma h c same (x ∷ []) = ap (λ a. a ⇢ Fixed Nothing) (same (not comma) x)
props_mapped g comma h c same (x ∷ y ∷ xs) = ap₂ (λ a b. a ⇢ b) (same false x) (props_after_mapped g comma h c same (y ∷ xs))

abbrev braced : {X : Type 0} → Form X → Form X → Form X → Form X → Form X
braced props end optional typed = Fixed (mark (codes "{")) ⇢ props ⇢ end ⇢ optional ⇢ typed

braced_mapped : {X Y : Type 0} (g : X → Y) (comma : Bool) (h : ObjectPatProp X → ObjectPatProp Y) (c : Parameters) (optional typed : Form Y) → ((last : Bool) (n : ObjectPatProp X) → pat_prop_form last c (h n) ≡ map_form g (pat_prop_form last c n)) →
    (xs : List (ObjectPatProp X)) → braced (pat_props_form comma c (map h xs)) (closing_form comma RightBrace (map h xs)) optional typed ≡ braced (map_form g (pat_props_form comma c xs)) (map_form g (closing_form comma RightBrace xs)) optional typed
braced_mapped g comma h c optional typed same xs = ap₂ (λ a b. braced a b optional typed) (props_mapped g comma h c same xs) (closing_mapped g comma RightBrace h xs)

-- ---- patterns

ident_mapped : {X Y : Type 0} (g : X → Y) (called : Bool) (c : Parameters) (id : Ident) (type_ann : Option (TsTypeAnnBox X)) →
    node_form called c (map-AnyNode X Y g (nodes.ExprPart (expr_parts.Pat (pats.Ident (record { id = id; type_ann = type_ann }))))) Pattern ≡ map_form g (binding_form c (record { id = id; type_ann = type_ann }))
unfolding node_form part_form pat_form binding_form name_form annotation_form map_form
ident_mapped g called c id None = refl
ident_mapped g called c id (Some t) = refl

array_mapped : {X Y : Type 0} (g : X → Y) (called : Bool) (c : Parameters) (n : ArrayPat X) (type_ann : Option (TsTypeAnnBox X)) →
    node_form called c (map-AnyNode X Y g (nodes.ExprPart (expr_parts.Pat (pats.Array (record n { type_ann = type_ann }))))) Pattern ≡ map_form g (array_pat_form called c (record n { type_ann = type_ann }))
unfolding node_form part_form pat_form array_pat_form question_form annotation_form map_form
array_mapped {X} {Y} g called c n None = bracketed_mapped {X = X} {Y = Y} g called _ _ c _ _ refl (λ x. refl) (λ place x. refl) n.elems.items
array_mapped {X} {Y} g called c n (Some t) = bracketed_mapped {X = X} {Y = Y} g called _ _ c _ _ refl (λ x. refl) (λ place x. refl) n.elems.items

rest_mapped : {X Y : Type 0} (g : X → Y) (called : Bool) (c : Parameters) (n : RestPat X) (type_ann : Option (TsTypeAnnBox X)) →
    node_form called c (map-AnyNode X Y g (nodes.ExprPart (expr_parts.Pat (pats.Rest (record n { type_ann = type_ann }))))) Pattern ≡ map_form g (rest_form nt.PatternTarget c (record n { type_ann = type_ann }))
unfolding node_form part_form pat_form rest_form annotation_form map_form
rest_mapped g called c n None = refl
rest_mapped g called c n (Some t) = refl

object_mapped : {X Y : Type 0} (g : X → Y) (called : Bool) (c : Parameters) (n : ObjectPat X) (type_ann : Option (TsTypeAnnBox X)) →
    node_form called c (map-AnyNode X Y g (nodes.ExprPart (expr_parts.Pat (pats.Object (record n { type_ann = type_ann }))))) Pattern ≡ map_form g (object_pat_form called c (record n { type_ann = type_ann }))
unfolding node_form part_form pat_form object_pat_form question_form pat_prop_form key_value_pat_form assign_pat_prop_form rest_form initializer_form binding_form name_form annotation_form map_form
object_mapped {X} {Y} g called c n None = braced_mapped {X = X} {Y = Y} g called _ c _ _ (λ last. by_cases {X = X} _
    (λ p. ap (λ a. a ⇢ Fixed (mark (codes ":")) ⇢ map_form g (pat_part nt.PatternElement c p.value)) (prop_name_mapped g called c p.key)) (λ span id. refl) (λ span id x. refl) (λ span id t. refl) (λ span id t x. refl) (λ span dots arg. refl) (λ span dots arg t. refl)) n.props.items
object_mapped {X} {Y} g called c n (Some t) = braced_mapped {X = X} {Y = Y} g called _ c _ _ (λ last. by_cases {X = X} _
    (λ p. ap (λ a. a ⇢ Fixed (mark (codes ":")) ⇢ map_form g (pat_part nt.PatternElement c p.value)) (prop_name_mapped g called c p.key)) (λ span id. refl) (λ span id x. refl) (λ span id t. refl) (λ span id t x. refl) (λ span dots arg. refl) (λ span dots arg t. refl)) n.props.items

pub pat_mapped : {X Y : Type 0} (g : X → Y) (called : Bool) (c : Parameters) (n : Pat X) → node_form called c (map-AnyNode X Y g (nodes.ExprPart (expr_parts.Pat n))) Pattern ≡ map_form g (pat_form called c n)
unfolding node_form part_form pat_form assign_pat_form map_form
pat_mapped g called c (pats.Ident n) = ident_mapped g called c n.id n.type_ann
pat_mapped g called c (pats.Array n) = array_mapped g called c n n.type_ann
pat_mapped g called c (pats.Rest n) = rest_mapped g called c n n.type_ann
pat_mapped g called c (pats.Object n) = object_mapped g called c n n.type_ann
pat_mapped g called c (pats.Assign n) = refl
pat_mapped g called c (pats.Invalid n) = refl
pat_mapped g called c (pats.Expr n) = refl

-- ---- what is assigned to

abbrev as_target : {X : Type 0} → SimpleAssignTarget X → AnyNode-F X
as_target n = nodes.ExprPart (expr_parts.AssignTarget (targets.Simple n))

abbrev as_pattern : {X : Type 0} → AssignTargetPat X → AnyNode-F X
as_pattern n = nodes.ExprPart (expr_parts.AssignTarget (targets.Pat n))

binding_target_mapped : {X Y : Type 0} (g : X → Y) (called : Bool) (c : Parameters) (id : Ident) (type_ann : Option (TsTypeAnnBox X)) →
    node_form called c (map-AnyNode X Y g (as_target (simple_targets.Ident (record { id = id; type_ann = type_ann })))) AssignmentTarget ≡ map_form g (binding_form (of_targets c) (record { id = id; type_ann = type_ann }))
unfolding node_form part_form target_form simple_target_form binding_form name_form annotation_form map_form
binding_target_mapped g called c id None = refl
binding_target_mapped g called c id (Some t) = refl

member_target_mapped : {X Y : Type 0} (g : X → Y) (called : Bool) (c : Parameters) (span : Span) (obj : ExprBox X) (prop : MemberProp X) →
    node_form called c (map-AnyNode X Y g (as_target (simple_targets.Member (record { span = span; obj = obj; prop = prop })))) AssignmentTarget ≡ map_form g (member_form nt.CallOrMember (of_targets c) (record { span = span; obj = obj; prop = prop }))
unfolding node_form part_form target_form simple_target_form member_form prop_form computed_form map_form
member_target_mapped g called c span obj (member_props.Ident n) = refl
member_target_mapped g called c span obj (member_props.Computed n) = refl
member_target_mapped g called c span obj (member_props.PrivateName n) = refl

super_target_mapped : {X Y : Type 0} (g : X → Y) (called : Bool) (c : Parameters) (n : SuperPropExpr X) (prop : SuperProp X) →
    node_form called c (map-AnyNode X Y g (as_target (simple_targets.SuperProp (record n { prop = prop })))) AssignmentTarget ≡ map_form g (super_prop_form (of_targets c) (record n { prop = prop }))
unfolding node_form part_form target_form simple_target_form super_prop_form super_form computed_form map_form
super_target_mapped g called c n (super_props.Ident p) = refl
super_target_mapped g called c n (super_props.Computed p) = refl

chain_target_mapped : {X Y : Type 0} (g : X → Y) (called : Bool) (c : Parameters) (n : OptChainExpr X) (base : OptChainBase X) →
    node_form called c (map-AnyNode X Y g (as_target (simple_targets.OptChain (record n { base = base })))) AssignmentTarget ≡ map_form g (Provided ByRule false (opt_chain_form (of_targets c) (record n { base = base })))
unfolding node_form part_form target_form simple_target_form opt_chain_form chain_base_form map_form
chain_target_mapped g called c n (chain_bases.Member b) = refl
chain_target_mapped g called c n (chain_bases.Call b) = refl

simple_target_mapped : {X Y : Type 0} (g : X → Y) (called : Bool) (c : Parameters) (n : SimpleAssignTarget X) → node_form called c (map-AnyNode X Y g (as_target n)) AssignmentTarget ≡ map_form g (simple_target_form (of_targets c) n)
unfolding node_form part_form target_form simple_target_form paren_target_form map_form
simple_target_mapped g called c (simple_targets.Ident n) = binding_target_mapped g called c n.id n.type_ann
simple_target_mapped g called c (simple_targets.Member n) = member_target_mapped g called c n.span n.obj n.prop
simple_target_mapped g called c (simple_targets.SuperProp n) = super_target_mapped g called c n n.prop
simple_target_mapped g called c (simple_targets.OptChain n) = chain_target_mapped g called c n n.base
simple_target_mapped g called c n = refl

target_array_mapped : {X Y : Type 0} (g : X → Y) (called : Bool) (c : Parameters) (n : ArrayPat X) (type_ann : Option (TsTypeAnnBox X)) →
    node_form called c (map-AnyNode X Y g (as_pattern (target_pats.Array (record n { type_ann = type_ann })))) AssignmentTarget ≡ map_form g (array_pat_form called (of_targets c) (record n { type_ann = type_ann }))
unfolding node_form part_form target_form target_pat_form array_pat_form question_form annotation_form map_form
target_array_mapped {X} {Y} g called c n None = bracketed_mapped {X = X} {Y = Y} g called _ _ (of_targets c) _ _ refl (λ x. refl) (λ place x. refl) n.elems.items
target_array_mapped {X} {Y} g called c n (Some t) = bracketed_mapped {X = X} {Y = Y} g called _ _ (of_targets c) _ _ refl (λ x. refl) (λ place x. refl) n.elems.items

target_object_mapped : {X Y : Type 0} (g : X → Y) (called : Bool) (c : Parameters) (n : ObjectPat X) (type_ann : Option (TsTypeAnnBox X)) →
    node_form called c (map-AnyNode X Y g (as_pattern (target_pats.Object (record n { type_ann = type_ann })))) AssignmentTarget ≡ map_form g (object_pat_form called (of_targets c) (record n { type_ann = type_ann }))
unfolding node_form part_form target_form target_pat_form object_pat_form question_form pat_prop_form key_value_pat_form assign_pat_prop_form rest_form initializer_form binding_form name_form annotation_form map_form
target_object_mapped {X} {Y} g called c n None = braced_mapped {X = X} {Y = Y} g called _ (of_targets c) _ _ (λ last. by_cases {X = X} _
    (λ p. ap (λ a. a ⇢ Fixed (mark (codes ":")) ⇢ map_form g (pat_part nt.PatternElement (of_targets c) p.value)) (prop_name_mapped g called (of_targets c) p.key)) (λ span id. refl) (λ span id x. refl) (λ span id t. refl) (λ span id t x. refl) (λ span dots arg. refl) (λ span dots arg t. refl)) n.props.items
target_object_mapped {X} {Y} g called c n (Some t) = braced_mapped {X = X} {Y = Y} g called _ (of_targets c) _ _ (λ last. by_cases {X = X} _
    (λ p. ap (λ a. a ⇢ Fixed (mark (codes ":")) ⇢ map_form g (pat_part nt.PatternElement (of_targets c) p.value)) (prop_name_mapped g called (of_targets c) p.key)) (λ span id. refl) (λ span id x. refl) (λ span id t. refl) (λ span id t x. refl) (λ span dots arg. refl) (λ span dots arg t. refl)) n.props.items

target_pat_mapped : {X Y : Type 0} (g : X → Y) (called : Bool) (c : Parameters) (n : AssignTargetPat X) → node_form called c (map-AnyNode X Y g (as_pattern n)) AssignmentTarget ≡ map_form g (target_pat_form called (of_targets c) n)
unfolding node_form part_form target_form target_pat_form map_form
target_pat_mapped g called c (target_pats.Array n) = target_array_mapped g called c n n.type_ann
target_pat_mapped g called c (target_pats.Object n) = target_object_mapped g called c n n.type_ann
target_pat_mapped g called c (target_pats.Invalid n) = refl

target_mapped : {X Y : Type 0} (g : X → Y) (called : Bool) (c : Parameters) (n : AssignTarget X) → node_form called c (map-AnyNode X Y g (nodes.ExprPart (expr_parts.AssignTarget n))) AssignmentTarget ≡ map_form g (target_form called c n)
unfolding node_form part_form target_form
target_mapped g called c (targets.Simple n) = simple_target_mapped g called c n
target_mapped g called c (targets.Pat n) = target_pat_mapped g called c n

-- ---- parts

pub part_mapped : {X Y : Type 0} (g : X → Y) (called : Bool) (c : Parameters) (n : ExprPart X) (role : Role) → node_form called c (map-AnyNode X Y g (nodes.ExprPart n)) role ≡ map_form g (part_form called c n role)
unfolding node_form part_form map_form
part_mapped g called c (expr_parts.Pat n) Pattern = pat_mapped g called c n
part_mapped g called c (expr_parts.ObjectLit n) ObjectLiteral = object_part_mapped g called c n
part_mapped g called c (expr_parts.PropName n) PropertyName = prop_name_mapped g called c n
part_mapped g called c (expr_parts.OptCall n) (ChainCall optional) = chain_call_mapped g called c optional n
part_mapped g called c (expr_parts.AssignTarget n) AssignmentTarget = target_mapped g called c n
part_mapped g called c (expr_parts.Tpl n) Template = tpl_mapped g called c n
part_mapped g called c (expr_parts.Tpl n) TaggedTemplate = tagged_mapped g called c n
part_mapped g called c n role = refl

pub pat_sort_mapped : {X Y : Type 0} (g : X → Y) (called : Bool) (c : Parameters) (n : Pat X) → node_nonterminal called c (map-AnyNode X Y g (nodes.ExprPart (expr_parts.Pat n))) Pattern ≡ pat_nonterminal n
unfolding node_nonterminal part_nonterminal pat_nonterminal
pat_sort_mapped g called c (pats.Ident n) = refl
pat_sort_mapped g called c n = refl

target_sort_mapped : {X Y : Type 0} (g : X → Y) (called : Bool) (c : Parameters) (n : AssignTarget X) → node_nonterminal called c (map-AnyNode X Y g (nodes.ExprPart (expr_parts.AssignTarget n))) AssignmentTarget ≡ target_nonterminal n
unfolding node_nonterminal part_nonterminal target_nonterminal
target_sort_mapped g called c (targets.Simple n) = refl
target_sort_mapped g called c (targets.Pat n) = refl

key_sort_mapped : {X Y : Type 0} (g : X → Y) (called : Bool) (c : Parameters) (n : PropName X) → node_nonterminal called c (map-AnyNode X Y g (nodes.ExprPart (expr_parts.PropName n))) PropertyName ≡ prop_name_nonterminal n
unfolding node_nonterminal part_nonterminal prop_name_nonterminal is_constructor_name
key_sort_mapped g called c (prop_names.Ident n) = refl
key_sort_mapped g called c (prop_names.Str n) = refl
key_sort_mapped g called c (prop_names.Num n) = refl
key_sort_mapped g called c (prop_names.BigInt n) = refl
key_sort_mapped g called c (prop_names.Computed n) = refl

pub part_sort_mapped : {X Y : Type 0} (g : X → Y) (called : Bool) (c : Parameters) (n : ExprPart X) (role : Role) → node_nonterminal called c (map-AnyNode X Y g (nodes.ExprPart n)) role ≡ part_nonterminal n role
unfolding node_nonterminal part_nonterminal
part_sort_mapped g called c (expr_parts.Pat n) Pattern = pat_sort_mapped g called c n
part_sort_mapped g called c (expr_parts.AssignTarget n) AssignmentTarget = target_sort_mapped g called c n
part_sort_mapped g called c (expr_parts.PropName n) PropertyName = key_sort_mapped g called c n
part_sort_mapped g called c n role = refl
