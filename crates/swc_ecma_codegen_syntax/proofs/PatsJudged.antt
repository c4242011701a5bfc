-- What the check says of patterns, whose last element or property may be a rest.
use Rattle.std.proofs.Common.{◌≡◌, Bool, true, false, not, List, [], ◌∷◌, ◌++◌, length, arith, Option, refl, ap}
use Rattle.swc_ecma_codegen_tree.specs.Links.{PatBox}
use Rattle.swc_ecma_codegen_tree.specs.declared.pats.ArrayPat.{ArrayPat}
use Rattle.swc_ecma_codegen_tree.specs.declared.pats.ObjectPat.{ObjectPat}
use Rattle.swc_ecma_codegen_tree.specs.declared.pats.ObjectPatProp.{ObjectPatProp}
use Rattle.swc_ecma_codegen_grammar.specs.Phrases.{Closing, RightBrace}
use Rattle.swc_ecma_codegen_grammar.specs.ElementPhrases.{last_is_hole}
use Rattle.swc_ecma_codegen_grammar.specs.declared.roles.Role.{Role}
use Rattle.swc_ecma_codegen_syntax.specs.declared.nonterminals.Nonterminal.TheVariants as nt
use Rattle.swc_ecma_codegen_syntax.specs.declared.parameters.Parameters.{Parameters}
use Rattle.swc_ecma_codegen_syntax.specs.Summary.{Summary}
use Rattle.swc_ecma_codegen_syntax.specs.declared.verdicts.Verdict.{Verdict}
use Rattle.swc_ecma_codegen_syntax.specs.Verdicts.{by_scope}
use Rattle.swc_ecma_codegen_syntax.specs.Forms.{asked, judge, verdict_all}
use Rattle.swc_ecma_codegen_syntax.specs.MemberForms.{annotation_form}
use Rattle.swc_ecma_codegen_syntax.specs.PatForms.{pat_element_form, pat_elements_after, pat_elements_form, question_form, closing_form, elements_end_form, array_pat_form, pat_prop_form, pat_props_after, pat_props_form, object_pat_form}

-- ---- elements

elements_after_judged : {X : Type 0} (f : X → Role → Parameters → Summary) (c : Parameters) (v : Verdict) (front : List (Option (PatBox X))) (last : Option (PatBox X)) →
    judge f v (pat_elements_after false c (front ++ last ∷ []))
    ≡ judge f (verdict_all (λ x w. judge f w (pat_element_form nt.PatternElement c x)) v front) (pat_element_form nt.LastElement c last)
unfolding judge pat_elements_after verdict_all
elements_after_judged f c v [] last = refl
elements_after_judged f c v (x ∷ []) last = refl
elements_after_judged f c v (x ∷ y ∷ front) last = elements_after_judged f c (judge f v (pat_element_form nt.PatternElement c x)) (y ∷ front) last

pub elements_judged : {X : Type 0} (f : X → Role → Parameters → Summary) (c : Parameters) (v : Verdict) (front : List (Option (PatBox X))) (last : Option (PatBox X)) →
    judge f v (pat_elements_form false c (front ++ last ∷ []))
    ≡ judge f (verdict_all (λ x w. judge f w (pat_element_form nt.PatternElement c x)) v front) (pat_element_form nt.LastElement c last)
unfolding judge pat_elements_form verdict_all
elements_judged f c v [] last = refl
elements_judged f c v (x ∷ []) last = elements_after_judged f c (judge f v (pat_element_form nt.PatternElement c x)) [] last
elements_judged f c v (x ∷ y ∷ front) last = elements_after_judged f c (judge f v (pat_element_form nt.PatternElement c x)) (y ∷ front) last

pub no_elements_judged : {X : Type 0} (f : X → Role → Parameters → Summary) (c : Parameters) (v : Verdict) (xs : List (Option (PatBox X))) → length xs ≡ 0 → judge f v (pat_elements_form false c xs) ≡ v
unfolding judge pat_elements_form
no_elements_judged f c v [] h = refl
no_elements_judged f c v (x ∷ xs) h = absurd (omega (arith, h))

pub nil_elements_judged : {X : Type 0} (f : X → Role → Parameters → Summary) (c : Parameters) (v : Verdict) (xs : List (Option (PatBox X))) → xs ≡ [] → judge f v (pat_elements_form false c xs) ≡ v
nil_elements_judged f c v xs h = no_elements_judged f c v xs (ap length h)

closing_judged : {X A : Type 0} (f : X → Role → Parameters → Summary) (close : Closing) (v : Verdict) (xs : List A) → judge f v (closing_form false close xs) ≡ v
unfolding judge closing_form
closing_judged f close v [] = refl
closing_judged f close v (x ∷ xs) = refl

end_judged : {X A : Type 0} (f : X → Role → Parameters → Summary) (hole : Bool) (v : Verdict) (xs : List A) → judge f v (elements_end_form false hole xs) ≡ v
unfolding judge elements_end_form
end_judged f true v xs = refl
end_judged f false v xs = closing_judged f _ v xs

pub array_pat_judged : {X : Type 0} (f : X → Role → Parameters → Summary) (c : Parameters) (v : Verdict) (n : ArrayPat X) →
    judge f v (array_pat_form false c n) ≡ judge f (by_scope (judge f v (pat_elements_form false c n.elems.items)) (not n.optional)) (annotation_form c n.type_ann)
unfolding judge asked array_pat_form question_form
array_pat_judged f c v n =
    ap (λ w. judge f (by_scope w (not n.optional)) (annotation_form c n.type_ann)) (end_judged f (last_is_hole n.elems.items) (judge f v (pat_elements_form false c n.elems.items)) n.elems.items)

-- ---- properties

props_after_judged : {X : Type 0} (f : X → Role → Parameters → Summary) (c : Parameters) (v : Verdict) (front : List (ObjectPatProp X)) (last : ObjectPatProp X) →
    judge f v (pat_props_after false c (front ++ last ∷ [])) ≡ judge f (verdict_all (λ x w. judge f w (pat_prop_form false c x)) v front) (pat_prop_form true c last)
unfolding judge pat_props_after verdict_all
props_after_judged f c v [] last = refl
props_after_judged f c v (x ∷ []) last = refl
props_after_judged f c v (x ∷ y ∷ front) last = props_after_judged f c (judge f v (pat_prop_form false c x)) (y ∷ front) last

pub props_judged : {X : Type 0} (f : X → Role → Parameters → Summary) (c : Parameters) (v : Verdict) (front : List (ObjectPatProp X)) (last : ObjectPatProp X) →
    judge f v (pat_props_form false c (front ++ last ∷ [])) ≡ judge f (verdict_all (λ x w. judge f w (pat_prop_form false c x)) v front) (pat_prop_form true c last)
unfolding judge pat_props_form verdict_all
props_judged f c v [] last = refl
props_judged f c v (x ∷ []) last = props_after_judged f c (judge f v (pat_prop_form false c x)) [] last
props_judged f c v (x ∷ y ∷ front) last = props_after_judged f c (judge f v (pat_prop_form false c x)) (y ∷ front) last

pub no_props_judged : {X : Type 0} (f : X → Role → Parameters → Summary) (c : Parameters) (v : Verdict) (xs : List (ObjectPatProp X)) → length xs ≡ 0 → judge f v (pat_props_form false c xs) ≡ v
unfolding judge pat_props_form
no_props_judged f c v [] h = refl
no_props_judged f c v (x ∷ xs) h = absurd (omega (arith, h))

pub nil_props_judged : {X : Type 0} (f : X → Role → Parameters → Summary) (c : Parameters) (v : Verdict) (xs : List (ObjectPatProp X)) → xs ≡ [] → judge f v (pat_props_form false c xs) ≡ v
nil_props_judged f c v xs h = no_props_judged f c v xs (ap length h)

pub object_pat_judged : {X : Type 0} (f : X → Role → Parameters → Summary) (c : Parameters) (v : Verdict) (n : ObjectPat X) →
    judge f v (object_pat_form false c n) ≡ judge f (by_scope (judge f v (pat_props_form false c n.props.items)) (not n.optional)) (annotation_form c n.type_ann)
unfolding judge asked object_pat_form question_form
object_pat_judged f c v n =
    ap (λ w. judge f (by_scope w (not n.optional)) (annotation_form c n.type_ann)) (closing_judged f RightBrace (judge f v (pat_props_form false c n.props.items)) n.props.items)
