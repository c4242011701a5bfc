-- What the check says of JSX.
use Rattle.std.proofs.Common.{◌≡◌, ℕ, suc, ◌+◌, ◌<◌, Bool, true, false, ◌&&◌, cond, not, List, length, get_or, drop, drop-cons, add-one, refl, sym, ◌∙◌, ap}
use Rattle.std.proofs.lemmas.Bool.{true≢false}
use Rattle.swc_ecma_codegen_tree.specs.declared.jsx.JSXElementChild.{JSXElementChild}
use Rattle.swc_ecma_codegen_tree.specs.declared.jsx.JSXOpeningElement.{JSXOpeningElement}
use Rattle.swc_ecma_codegen_grammar.specs.Phrases.{Never}
use Rattle.swc_ecma_codegen_grammar.specs.JsxPhrases.{is_text, is_parted, ends_in_text}
use Rattle.swc_ecma_codegen_grammar.specs.declared.roles.Role.{Role}
use Rattle.swc_ecma_codegen_syntax.specs.declared.parameters.Parameters.{Parameters}
use Rattle.swc_ecma_codegen_syntax.specs.Summary.{Summary}
use Rattle.swc_ecma_codegen_syntax.specs.declared.verdicts.Verdict.{Verdict}
use Rattle.swc_ecma_codegen_syntax.specs.Verdicts.{by_rule}
use Rattle.swc_ecma_codegen_syntax.specs.Forms.{Form, Fixed, Provided, ByRule, asked, judge, in_order, verdict_all}
use Rattle.swc_ecma_codegen_syntax.specs.MemberForms.{type_args_form}
use Rattle.swc_ecma_codegen_syntax.specs.JsxForms.{element_name_form, attr_form, opening_form, child_form, children_form, unclosed_form}
use Rattle.swc_ecma_codegen_syntax.proofs.Judged.{order_judged}

on_judged : {X : Type 0} (f : X → Role → Parameters → Summary) (v : Verdict) (a : Form X) (b : Bool) → b ≡ true → judge f v (cond b a (Provided ByRule false (Fixed Never))) ≡ judge f v a
on_judged f v a true h = refl
on_judged f v a false h = absurd (true≢false (sym h))

off_judged : {X : Type 0} (f : X → Role → Parameters → Summary) (v : Verdict) (a : Form X) (b : Bool) → b ≡ false → judge f v (cond b a (Provided ByRule false (Fixed Never))) ≡ by_rule v false
unfolding judge asked
off_judged f v a false h = refl
off_judged f v a true h = absurd (true≢false h)

pub parted_judged : {X : Type 0} (f : X → Role → Parameters → Summary) (c : Parameters) (v : Verdict) (xs : List (JSXElementChild X)) → is_parted false xs ≡ true →
    judge f v (children_form c xs) ≡ verdict_all (λ x w. judge f w (child_form c x)) v xs
unfolding children_form
parted_judged f c v xs h = on_judged f v (in_order (child_form c) xs) (is_parted false xs) h ∙ order_judged f (child_form c) v xs

pub unparted_judged : {X : Type 0} (f : X → Role → Parameters → Summary) (c : Parameters) (v : Verdict) (xs : List (JSXElementChild X)) → is_parted false xs ≡ false → judge f v (children_form c xs) ≡ by_rule v false
unfolding children_form
unparted_judged f c v xs h = off_judged f v (in_order (child_form c) xs) (is_parted false xs) h

pub untexted_judged : {X : Type 0} (f : X → Role → Parameters → Summary) (c : Parameters) (v : Verdict) (xs : List (JSXElementChild X)) → ends_in_text false xs ≡ false → judge f v (unclosed_form c xs) ≡ judge f v (children_form c xs)
unfolding unclosed_form
untexted_judged f c v xs h = on_judged f v (children_form c xs) (not (ends_in_text false xs)) (ap not h)

pub texted_judged : {X : Type 0} (f : X → Role → Parameters → Summary) (c : Parameters) (v : Verdict) (xs : List (JSXElementChild X)) → ends_in_text false xs ≡ true → judge f v (unclosed_form c xs) ≡ by_rule v false
unfolding unclosed_form
texted_judged f c v xs h = off_judged f v (children_form c xs) (not (ends_in_text false xs)) (ap not h)

pub opening_judged : {X : Type 0} (f : X → Role → Parameters → Summary) (c : Parameters) (is_child : Bool) (v : Verdict) (n : JSXOpeningElement X) →
    judge f v (opening_form c is_child n) ≡ verdict_all (λ x w. judge f w (attr_form c x)) (judge f (judge f v (element_name_form c n.name)) (type_args_form c n.type_args)) n.attrs.items
unfolding judge opening_form
opening_judged f c is_child v n = order_judged f (attr_form c) (judge f (judge f v (element_name_form c n.name)) (type_args_form c n.type_args)) n.attrs.items

-- one more child: where text stood before it, and it is none or the next is
pub parted_next : {X : Type 0} (after text clash : Bool) (xs : List (JSXElementChild X)) (i : ℕ) (x : JSXElementChild X) → i < length xs → x ≡ get_or xs i x → text ≡ is_text x → clash ≡ (after && text) → clash ≡ false →
    is_parted after (drop i xs) ≡ is_parted text (drop (i + 1) xs)
unfolding is_parted
parted_next after text clash xs i x h here e same k =
    rw (add-one, drop-cons xs i x h) (ap (λ z. not (after && is_text z) && is_parted (is_text z) (drop (suc i) xs)) (sym here)
    ∙ ap (λ b. not (after && b) && is_parted b (drop (suc i) xs)) (sym e) ∙ ap (λ b. not b && is_parted text (drop (suc i) xs)) (sym same ∙ k))

pub parted_stops : {X : Type 0} (after text clash : Bool) (xs : List (JSXElementChild X)) (i : ℕ) (x : JSXElementChild X) → i < length xs → x ≡ get_or xs i x → text ≡ is_text x → clash ≡ (after && text) → clash ≡ true → is_parted after (drop i xs) ≡ false
unfolding is_parted
parted_stops after text clash xs i x h here e same k =
    rw (drop-cons xs i x h) (ap (λ z. not (after && is_text z) && is_parted (is_text z) (drop (suc i) xs)) (sym here)
    ∙ ap (λ b. not (after && b) && is_parted b (drop (suc i) xs)) (sym e) ∙ ap (λ b. not b && is_parted text (drop (suc i) xs)) (sym same ∙ k))

pub ends_next : {X : Type 0} (after text : Bool) (xs : List (JSXElementChild X)) (i : ℕ) (x : JSXElementChild X) → i < length xs → x ≡ get_or xs i x → text ≡ is_text x →
    ends_in_text after (drop i xs) ≡ ends_in_text text (drop (i + 1) xs)
unfolding ends_in_text
ends_next after text xs i x h here e =
    rw (add-one, drop-cons xs i x h) (ap (λ z. ends_in_text (is_text z) (drop (suc i) xs)) (sym here) ∙ ap (λ b. ends_in_text b (drop (suc i) xs)) (sym e))
