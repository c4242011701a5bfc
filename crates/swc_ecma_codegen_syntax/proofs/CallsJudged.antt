-- What the check says of lists in brackets, parentheses and braces.
use Rattle.std.proofs.Common.{◌≡◌, ℕ, suc, ◌+◌, ◌<◌, Bool, true, false, List, [], ◌∷◌, length, get_or, drop, drop-cons, add-one, codes, Option, Some, None, refl, sym, ◌∙◌, ap}
use Rattle.swc_ecma_codegen_tree.specs.declared.exprs.ArrayLit.{ArrayLit}
use Rattle.swc_ecma_codegen_tree.specs.declared.exprs.CallExpr.{CallExpr}
use Rattle.swc_ecma_codegen_tree.specs.declared.exprs.ExprOrSpread.{ExprOrSpread}
use Rattle.swc_ecma_codegen_tree.specs.declared.exprs.ObjectLit.{ObjectLit}
use Rattle.swc_ecma_codegen_tree.specs.declared.exprs.OptCall.{OptCall}
use Rattle.swc_ecma_codegen_grammar.specs.ElementPhrases.{last_is_hole}
use Rattle.swc_ecma_codegen_grammar.specs.declared.roles.Role.{Role}
use Rattle.swc_ecma_codegen_grammar.specs.declared.roles.Role.TheVariants.{Callee}
use Rattle.swc_ecma_codegen_syntax.specs.declared.parameters.Parameters.{Parameters}
use Rattle.swc_ecma_codegen_syntax.specs.Summary.{Summary}
use Rattle.swc_ecma_codegen_syntax.specs.declared.verdicts.Verdict.{Verdict}
use Rattle.swc_ecma_codegen_syntax.specs.Parameters.{with_in}
use Rattle.swc_ecma_codegen_syntax.specs.Forms.{Form, Part, judge, element, verdict_all, verdict_of}
use Rattle.swc_ecma_codegen_syntax.specs.MemberForms.{type_args_form, chained}
use Rattle.swc_ecma_codegen_syntax.specs.CallForms.{argument_form, elements_form, array_form, arguments_form, callee_form, call_form, listed_form, chain_call_form}
use Rattle.swc_ecma_codegen_syntax.specs.ObjectForms.{prop_or_spread_form, object_form}
use Rattle.swc_ecma_codegen_syntax.proofs.Judged.{listed_judged}

-- each told by what is equal
all_same : {A : Type 0} (e d : A → Verdict → Verdict) → ((x : A) (v : Verdict) → e x v ≡ d x v) → (v : Verdict) (xs : List A) → verdict_all e v xs ≡ verdict_all d v xs
unfolding verdict_all
all_same e d same v [] = refl
all_same e d same v (x ∷ xs) = ap (λ w. verdict_all e w xs) (same x v) ∙ all_same e d same (d x v) xs

element_judged : {X A : Type 0} (f : X → Role → Parameters → Summary) (e : A → Form X) (o : Option A) (v : Verdict) → judge f v (element e o) ≡ verdict_of (λ x w. judge f w (e x)) o v
unfolding judge element verdict_of
element_judged f e None v = refl
element_judged f e (Some x) v = refl

elements_judged : {X : Type 0} (f : X → Role → Parameters → Summary) (c : Parameters) (hole : Bool) (v : Verdict) (xs : List (Option (ExprOrSpread X))) →
    judge f v (elements_form c hole xs) ≡ verdict_all (verdict_of (λ x w. judge f w (argument_form c x))) v xs
unfolding judge elements_form
elements_judged f c true v xs = listed_judged f (codes ",") (element (argument_form c)) v xs ∙ all_same _ _ (element_judged f (argument_form c)) v xs
elements_judged f c false v xs = listed_judged f (codes ",") (element (argument_form c)) v xs ∙ all_same _ _ (element_judged f (argument_form c)) v xs

pub array_judged : {X : Type 0} (f : X → Role → Parameters → Summary) (c : Parameters) (v : Verdict) (n : ArrayLit X) →
    judge f v (array_form c n) ≡ verdict_all (verdict_of (λ x w. judge f w (argument_form c x))) v n.elems.items
unfolding judge array_form
array_judged f c v n = elements_judged f c (last_is_hole n.elems.items) v n.elems.items

pub arguments_judged : {X : Type 0} (f : X → Role → Parameters → Summary) (c : Parameters) (v : Verdict) (xs : List (ExprOrSpread X)) →
    judge f v (arguments_form c xs) ≡ verdict_all (λ x w. judge f w (argument_form c x)) v xs
unfolding judge arguments_form
arguments_judged f c v xs = listed_judged f (codes ",") (argument_form c) v xs

pub listed_arguments_judged : {X : Type 0} (f : X → Role → Parameters → Summary) (c : Parameters) (keeps : Bool) (v : Verdict) (xs : List (ExprOrSpread X)) →
    judge f v (listed_form c keeps xs) ≡ verdict_all (λ x w. judge f w (argument_form c x)) v xs
unfolding judge listed_form verdict_all
listed_arguments_judged f c false v [] = refl
listed_arguments_judged f c false v (x ∷ xs) = arguments_judged f c v (x ∷ xs)
listed_arguments_judged f c true v xs = arguments_judged f c v xs

pub call_judged : {X : Type 0} (f : X → Role → Parameters → Summary) (c : Parameters) (v : Verdict) (n : CallExpr X) →
    judge f v (call_form c n) ≡ verdict_all (λ x w. judge f w (argument_form c x)) (judge f (judge f v (callee_form c n.callee n.args.items)) (type_args_form c n.type_args)) n.args.items
unfolding judge call_form
call_judged f c v n = arguments_judged f c (judge f (judge f v (callee_form c n.callee n.args.items)) (type_args_form c n.type_args)) n.args.items

pub chain_call_judged : {X : Type 0} (f : X → Role → Parameters → Summary) (c : Parameters) (optional : Bool) (v : Verdict) (n : OptCall X) →
    judge f v (chain_call_form c optional n)
    ≡ verdict_all (λ x w. judge f w (argument_form c x)) (judge f (judge f v (Part (chained optional) (with_in c) Callee n.callee.node.value)) (type_args_form c n.type_args)) n.args.items
unfolding judge chain_call_form
chain_call_judged f c optional v n =
    arguments_judged f c (judge f (judge f v (Part (chained optional) (with_in c) Callee n.callee.node.value)) (type_args_form c n.type_args)) n.args.items

pub object_judged : {X : Type 0} (f : X → Role → Parameters → Summary) (c : Parameters) (v : Verdict) (n : ObjectLit X) →
    judge f v (object_form c n) ≡ verdict_all (λ x w. judge f w (prop_or_spread_form c x)) v n.props.items
unfolding judge object_form
object_judged f c v n = listed_judged f (codes ",") (prop_or_spread_form c) v n.props.items

-- one more
pub all_next : {A : Type 0} (of_each : A → Verdict → Verdict) (v w : Verdict) (xs : List A) (i : ℕ) (x : A) → i < length xs → x ≡ get_or xs i x → w ≡ of_each x v →
    verdict_all of_each v (drop i xs) ≡ verdict_all of_each w (drop (i + 1) xs)
unfolding verdict_all
all_next of_each v w xs i x h here e =
    rw (add-one, drop-cons xs i x h) (ap (λ z. verdict_all of_each (of_each z v) (drop (suc i) xs)) (sym here) ∙ ap (λ z. verdict_all of_each z (drop (suc i) xs)) (sym e))
