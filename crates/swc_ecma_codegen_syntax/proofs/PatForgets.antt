-- Without nonterminals the forms of patterns and of targets are the productions that tell their tokens, where they keep their structure.
use Rattle.std.proofs.Common.{◌≡◌, Bool, true, false, not, refl, sym, ap, ap₂, List, [], ◌∷◌, map, codes, Option, Some, None}
use Rattle.std.proofs.lemmas.Bool.{true≢false}
use Rattle.swc_ecma_codegen_tree.specs.Links.{ExprBox, PatBox}
use Rattle.swc_ecma_codegen_tree.specs.declared.idents.BindingIdent.{BindingIdent}
use Rattle.swc_ecma_codegen_tree.specs.declared.pats.Pat.{Pat}
use Rattle.swc_ecma_codegen_tree.specs.declared.pats.Pat.TheVariants as pats
use Rattle.swc_ecma_codegen_tree.specs.declared.pats.ArrayPat.{ArrayPat}
use Rattle.swc_ecma_codegen_tree.specs.declared.pats.ObjectPat.{ObjectPat}
use Rattle.swc_ecma_codegen_tree.specs.declared.pats.RestPat.{RestPat}
use Rattle.swc_ecma_codegen_tree.specs.declared.pats.ObjectPatProp.{ObjectPatProp}
use Rattle.swc_ecma_codegen_tree.specs.declared.pats.ObjectPatProp.TheVariants as pat_props
use Rattle.swc_ecma_codegen_tree.specs.declared.pats.AssignTarget.{AssignTarget}
use Rattle.swc_ecma_codegen_tree.specs.declared.pats.AssignTarget.TheVariants as targets
use Rattle.swc_ecma_codegen_tree.specs.declared.pats.SimpleAssignTarget.{SimpleAssignTarget}
use Rattle.swc_ecma_codegen_tree.specs.declared.pats.SimpleAssignTarget.TheVariants as simple_targets
use Rattle.swc_ecma_codegen_tree.specs.declared.pats.AssignTargetPat.{AssignTargetPat}
use Rattle.swc_ecma_codegen_tree.specs.declared.pats.AssignTargetPat.TheVariants as target_pats
use Rattle.swc_ecma_codegen_grammar.specs.Phrases.{Phrase, Closing, RightBracket, RightBrace, Then, ◌>◌, mark}
use Rattle.swc_ecma_codegen_grammar.specs.Phrases as phrases
use Rattle.swc_ecma_codegen_grammar.specs.AnnotationPhrases.{question}
use Rattle.swc_ecma_codegen_grammar.specs.ElementPhrases.{last_is_hole, closing_of, elements_end}
use Rattle.swc_ecma_codegen_grammar.specs.ElementPhrases as elements
use Rattle.swc_ecma_codegen_grammar.specs.NamePhrases.{ident, binding_ident}
use Rattle.swc_ecma_codegen_grammar.specs.PatPhrases.{pat_at, initializer, array_pat, rest_pat, assign_pat, key_value_pat_prop, assign_pat_prop, object_pat_prop, object_pat, pat, assign_target_pat}
use Rattle.swc_ecma_codegen_grammar.specs.AssignPhrases.{simple_assign_target, assign_target}
use Rattle.swc_ecma_codegen_grammar.specs.ExprPhrases.{paren_expr}
use Rattle.swc_ecma_codegen_grammar.specs.declared.roles.Role.{Role}
use Rattle.swc_ecma_codegen_syntax.specs.declared.nonterminals.Nonterminal.{Nonterminal}
use Rattle.swc_ecma_codegen_syntax.specs.declared.nonterminals.Nonterminal.TheVariants as nt
use Rattle.swc_ecma_codegen_syntax.specs.declared.parameters.Parameters.{Parameters}
use Rattle.swc_ecma_codegen_syntax.specs.Summary.{Summary}
use Rattle.swc_ecma_codegen_syntax.specs.Parameters.{of_targets}
use Rattle.swc_ecma_codegen_syntax.specs.Forms.{forget, keeps, is_met}
use Rattle.swc_ecma_codegen_syntax.specs.NameForms.{name_form}
use Rattle.swc_ecma_codegen_syntax.specs.PatForms.{last_place, binding_form, initializer_form, question_form, pat_element_form, pat_elements_after, pat_elements_form, closing_form, elements_end_form, array_pat_form, rest_form, assign_pat_form, key_value_pat_form, assign_pat_prop_form, pat_prop_form, pat_props_after, pat_props_form, object_pat_form, pat_form}
use Rattle.swc_ecma_codegen_syntax.specs.TargetForms.{paren_target_form, simple_target_form, target_pat_form, target_form}
use Rattle.swc_ecma_codegen_syntax.specs.Verdicts.{Grammar}
use Rattle.swc_ecma_codegen_syntax.proofs.Forgets.{annotation_forgets, member_forgets, super_prop_forgets, chain_forgets, prop_name_forgets}

binding_forgets : {X : Type 0} (p : X → Role → Phrase) (c : Parameters) (n : BindingIdent X) → forget p (binding_form c n) ≡ binding_ident p n
unfolding forget binding_form name_form binding_ident
binding_forgets p c n = ap (Then (ident n.id)) (annotation_forgets p c n.type_ann)

initializer_forgets : {X : Type 0} (p : X → Role → Phrase) (c : Parameters) (n : Option (ExprBox X)) → forget p (initializer_form c n) ≡ initializer p n
unfolding forget initializer_form initializer
initializer_forgets p c None = refl
initializer_forgets p c (Some n) = refl

-- ---- elements

element_forgets : {X : Type 0} (p : X → Role → Phrase) (place : Nonterminal) (c : Parameters) (o : Option (PatBox X)) → forget p (pat_element_form place c o) ≡ elements.element (pat_at p) o
unfolding forget pat_element_form elements.element
element_forgets p place c None = refl
element_forgets p place c (Some n) = refl

elements_after_forget : {X : Type 0} (p : X → Role → Phrase) (comma : Bool) (c : Parameters) (xs : List (Option (PatBox X))) → forget p (pat_elements_after comma c xs) ≡ phrases.each_after (codes ",") (map (elements.element (pat_at p)) xs)
unfolding forget pat_elements_after phrases.each_after
elements_after_forget p comma c [] = refl
elements_after_forget p comma c (x ∷ []) = ap (λ q. mark (codes ",") > q > phrases.Nothing) (element_forgets p (last_place comma) c x)
elements_after_forget p comma c (x ∷ y ∷ xs) = ap₂ (λ q r. mark (codes ",") > q > r) (element_forgets p nt.PatternElement c x) (elements_after_forget p comma c (y ∷ xs))

elements_forget : {X : Type 0} (p : X → Role → Phrase) (comma : Bool) (c : Parameters) (xs : List (Option (PatBox X))) → forget p (pat_elements_form comma c xs) ≡ phrases.listed (codes ",") (map (elements.element (pat_at p)) xs)
unfolding forget pat_elements_form phrases.listed phrases.each_after
elements_forget p comma c [] = refl
elements_forget p comma c (x ∷ []) = ap (λ q. q > phrases.Nothing) (element_forgets p (last_place comma) c x)
elements_forget p comma c (x ∷ y ∷ xs) = ap₂ (λ q r. q > r) (element_forgets p nt.PatternElement c x) (elements_after_forget p comma c (y ∷ xs))

closing_forgets : {X A : Type 0} (p : X → Role → Phrase) (comma : Bool) (close : Closing) (xs : List A) → forget p (closing_form comma close xs) ≡ closing_of close xs
unfolding forget closing_form closing_of
closing_forgets p comma close [] = refl
closing_forgets p comma close (x ∷ xs) = refl

end_forgets : {X A : Type 0} (p : X → Role → Phrase) (comma : Bool) (hole : Bool) (xs : List A) → forget p (elements_end_form comma hole xs) ≡ elements_end hole xs
unfolding forget elements_end_form elements_end
end_forgets p comma true xs = refl
end_forgets p comma false xs = closing_forgets p comma RightBracket xs

array_forgets : {X : Type 0} (p : X → Role → Phrase) (comma : Bool) (c : Parameters) (n : ArrayPat X) → forget p (array_pat_form comma c n) ≡ array_pat p n
unfolding forget array_pat_form question_form array_pat
array_forgets p comma c n =
    ap₂ (λ q r. mark (codes "[") > q > r) (elements_forget p comma c n.elems.items)
    (ap₂ (λ q r. q > question n.optional > r) (end_forgets p comma (last_is_hole n.elems.items) n.elems.items) (annotation_forgets p c n.type_ann))

-- ---- properties

rest_forgets : {X : Type 0} (p : X → Role → Phrase) (place : Nonterminal) (c : Parameters) (n : RestPat X) → forget p (rest_form place c n) ≡ rest_pat p n
unfolding forget rest_form rest_pat
rest_forgets p place c n = ap (λ q. mark (codes "...") > pat_at p n.arg > q) (annotation_forgets p c n.type_ann)

prop_forgets : {X : Type 0} (p : X → Role → Phrase) (last : Bool) (c : Parameters) (n : ObjectPatProp X) → forget p (pat_prop_form last c n) ≡ object_pat_prop p n
unfolding forget pat_prop_form key_value_pat_form assign_pat_prop_form object_pat_prop key_value_pat_prop assign_pat_prop
prop_forgets p last c (pat_props.KeyValue n) = ap (λ q. q > mark (codes ":") > pat_at p n.value) (prop_name_forgets p c n.key)
prop_forgets p last c (pat_props.Assign n) = ap₂ Then (binding_forgets p c n.key) (initializer_forgets p c n.value)
prop_forgets p last c (pat_props.Rest n) = rest_forgets p nt.PatternName c n

props_after_forget : {X : Type 0} (p : X → Role → Phrase) (comma : Bool) (c : Parameters) (xs : List (ObjectPatProp X)) → forget p (pat_props_after comma c xs) ≡ phrases.each_after (codes ",") (map (object_pat_prop p) xs)
unfolding forget pat_props_after phrases.each_after
props_after_forget p comma c [] = refl
props_after_forget p comma c (x ∷ []) = ap (λ q. mark (codes ",") > q > phrases.Nothing) (prop_forgets p (not comma) c x)
props_after_forget p comma c (x ∷ y ∷ xs) = ap₂ (λ q r. mark (codes ",") > q > r) (prop_forgets p false c x) (props_after_forget p comma c (y ∷ xs))

props_forget : {X : Type 0} (p : X → Role → Phrase) (comma : Bool) (c : Parameters) (xs : List (ObjectPatProp X)) → forget p (pat_props_form comma c xs) ≡ phrases.listed (codes ",") (map (object_pat_prop p) xs)
unfolding forget pat_props_form phrases.listed phrases.each_after
props_forget p comma c [] = refl
props_forget p comma c (x ∷ []) = ap (λ q. q > phrases.Nothing) (prop_forgets p (not comma) c x)
props_forget p comma c (x ∷ y ∷ xs) = ap₂ (λ q r. q > r) (prop_forgets p false c x) (props_after_forget p comma c (y ∷ xs))

object_pat_forgets : {X : Type 0} (p : X → Role → Phrase) (comma : Bool) (c : Parameters) (n : ObjectPat X) → forget p (object_pat_form comma c n) ≡ object_pat p n
unfolding forget object_pat_form question_form object_pat
object_pat_forgets p comma c n =
    ap₂ (λ q r. mark (codes "{") > q > r) (props_forget p comma c n.props.items)
    (ap₂ (λ q r. q > question n.optional > r) (closing_forgets p comma RightBrace n.props.items) (annotation_forgets p c n.type_ann))

-- ---- patterns and targets

pub pat_forgets : {X : Type 0} (p : X → Role → Phrase) (comma : Bool) (c : Parameters) (n : Pat X) → forget p (pat_form comma c n) ≡ pat p n
unfolding forget pat_form assign_pat_form pat assign_pat
pat_forgets p comma c (pats.Ident n) = binding_forgets p c n
pat_forgets p comma c (pats.Array n) = array_forgets p comma c n
pat_forgets p comma c (pats.Rest n) = rest_forgets p nt.PatternTarget c n
pat_forgets p comma c (pats.Object n) = object_pat_forgets p comma c n
pat_forgets p comma c (pats.Assign n) = refl
pat_forgets p comma c (pats.Invalid n) = refl
pat_forgets p comma c (pats.Expr n) = refl

pub target_pat_forgets : {X : Type 0} (p : X → Role → Phrase) (comma : Bool) (c : Parameters) (n : AssignTargetPat X) → forget p (target_pat_form comma c n) ≡ assign_target_pat p n
unfolding forget target_pat_form assign_target_pat
target_pat_forgets p comma c (target_pats.Array n) = array_forgets p comma c n
target_pat_forgets p comma c (target_pats.Object n) = object_pat_forgets p comma c n
target_pat_forgets p comma c (target_pats.Invalid n) = refl

simple_forgets : {X : Type 0} (grammar : Grammar) (f : X → Role → Parameters → Summary) (p : X → Role → Phrase) (c : Parameters) (n : SimpleAssignTarget X) → keeps grammar f (simple_target_form c n) ≡ true → forget p (simple_target_form c n) ≡ simple_assign_target p n
unfolding forget keeps is_met simple_target_form paren_target_form simple_assign_target paren_expr
simple_forgets grammar f p c (simple_targets.Ident n) k = binding_forgets p c n
simple_forgets grammar f p c (simple_targets.Member n) k = member_forgets p nt.CallOrMember c n
simple_forgets grammar f p c (simple_targets.SuperProp n) k = super_prop_forgets p c n
simple_forgets grammar f p c (simple_targets.Paren n) k = refl
simple_forgets grammar f p c (simple_targets.OptChain n) k = chain_forgets p c n
simple_forgets grammar f p c (simple_targets.Invalid n) k = refl
simple_forgets grammar f p c n k = absurd (true≢false (sym k))

pub target_forgets : {X : Type 0} (comma : Bool) (grammar : Grammar) (f : X → Role → Parameters → Summary) (p : X → Role → Phrase) (c : Parameters) (n : AssignTarget X) → keeps grammar f (target_form comma c n) ≡ true → forget p (target_form comma c n) ≡ assign_target p n
unfolding target_form assign_target
target_forgets comma grammar f p c (targets.Simple n) k = simple_forgets grammar f p (of_targets c) n k
target_forgets comma grammar f p c (targets.Pat n) k = target_pat_forgets p comma (of_targets c) n
