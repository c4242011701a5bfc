-- What the check says of functions.
use Rattle.std.proofs.Common.{◌≡◌, Bool, true, false, not, cond, List, [], ◌∷◌, ◌++◌, length, arith, refl, sym, ap}
use Rattle.std.proofs.lemmas.Bool.{true≢false}
use Rattle.swc_ecma_codegen_tree.specs.Links.{PatBox}
use Rattle.swc_ecma_codegen_tree.specs.declared.decls.Decorator.{Decorator}
use Rattle.swc_ecma_codegen_tree.specs.declared.decls.Function as functions
use Rattle.swc_ecma_codegen_tree.specs.declared.decls.Param.{Param}
use Rattle.swc_ecma_codegen_tree.specs.declared.exprs.ArrowExpr.{ArrowExpr}
use Rattle.swc_ecma_codegen_grammar.specs.FunctionPhrases.{is_some_listed, is_typed_arrow}
use Rattle.swc_ecma_codegen_grammar.specs.declared.roles.Role.{Role}
use Rattle.swc_ecma_codegen_syntax.specs.declared.nonterminals.Nonterminal.{Nonterminal}
use Rattle.swc_ecma_codegen_syntax.specs.declared.nonterminals.Nonterminal.TheVariants as nt
use Rattle.swc_ecma_codegen_syntax.specs.declared.parameters.Parameters.{Parameters}
use Rattle.swc_ecma_codegen_syntax.specs.declared.verdicts.Verdict.{Verdict}
use Rattle.swc_ecma_codegen_syntax.specs.Summary.{Summary}
use Rattle.swc_ecma_codegen_syntax.specs.Verdicts.{by_rule, by_scope, by_core}
use Rattle.swc_ecma_codegen_syntax.specs.Parameters.{of_arrow_parameters}
use Rattle.swc_ecma_codegen_syntax.specs.Forms.{Form, asked, judge, verdict_all, ending_after, ending_listed, ByScope, ByCore}
use Rattle.swc_ecma_codegen_syntax.specs.MemberForms.{annotation_form}
use Rattle.swc_ecma_codegen_syntax.specs.PatForms.{pat_part}
use Rattle.swc_ecma_codegen_syntax.specs.FunctionForms.{type_params_form, decorator_form, decorators_form, param_form, params_form, rest_of_function, function_form, arrow_params_form, arrow_body_form, async_form, arrow_form}
use Rattle.swc_ecma_codegen_syntax.proofs.Judged.{order_judged}

-- ---- lists whose last element may be a rest

ending_after_judged : {X A : Type 0} (f : X → Role → Parameters → Summary) (e : Nonterminal → A → Form X) (v : Verdict) (front : List A) (last : A) →
    judge f v (ending_after e (front ++ last ∷ [])) ≡ judge f (verdict_all (λ x w. judge f w (e nt.PatternElement x)) v front) (e nt.LastElement last)
unfolding judge ending_after verdict_all
ending_after_judged f e v [] last = refl
ending_after_judged f e v (x ∷ []) last = refl
ending_after_judged f e v (x ∷ y ∷ front) last = ending_after_judged f e (judge f v (e nt.PatternElement x)) (y ∷ front) last

pub ending_judged : {X A : Type 0} (f : X → Role → Parameters → Summary) (e : Nonterminal → A → Form X) (v : Verdict) (front : List A) (last : A) →
    judge f v (ending_listed e (front ++ last ∷ [])) ≡ judge f (verdict_all (λ x w. judge f w (e nt.PatternElement x)) v front) (e nt.LastElement last)
unfolding judge ending_listed verdict_all
ending_judged f e v [] last = refl
ending_judged f e v (x ∷ []) last = ending_after_judged f e (judge f v (e nt.PatternElement x)) [] last
ending_judged f e v (x ∷ y ∷ front) last = ending_after_judged f e (judge f v (e nt.PatternElement x)) (y ∷ front) last

pub no_ending_judged : {X A : Type 0} (f : X → Role → Parameters → Summary) (e : Nonterminal → A → Form X) (v : Verdict) (xs : List A) → length xs ≡ 0 → judge f v (ending_listed e xs) ≡ v
unfolding judge ending_listed
no_ending_judged f e v [] h = refl
no_ending_judged f e v (x ∷ xs) h = absurd (omega (arith, h))

-- ---- parameters

pub params_judged : {X : Type 0} (f : X → Role → Parameters → Summary) (c : Parameters) (v : Verdict) (front : List (Param X)) (last : Param X) →
    judge f v (params_form c (front ++ last ∷ [])) ≡ judge f (verdict_all (λ x w. judge f w (param_form c nt.PatternElement x)) v front) (param_form c nt.LastElement last)
params_judged f c v front last = ending_judged f (param_form c) v front last

pub no_params_judged : {X : Type 0} (f : X → Role → Parameters → Summary) (c : Parameters) (v : Verdict) (xs : List (Param X)) → length xs ≡ 0 → judge f v (params_form c xs) ≡ v
no_params_judged f c v xs h = no_ending_judged f (param_form c) v xs h

pub nil_params_judged : {X : Type 0} (f : X → Role → Parameters → Summary) (c : Parameters) (v : Verdict) (xs : List (Param X)) → xs ≡ [] → judge f v (params_form c xs) ≡ v
nil_params_judged f c v xs h = no_ending_judged f (param_form c) v xs (ap length h)

pub decorators_judged : {X : Type 0} (f : X → Role → Parameters → Summary) (c : Parameters) (v : Verdict) (ns : List (Decorator X)) →
    judge f v (decorators_form ByCore c ns) ≡ verdict_all (λ n w. judge f w (decorator_form c n)) (by_core v (not (is_some_listed ns))) ns
unfolding judge asked decorators_form
decorators_judged f c v ns = order_judged f (decorator_form c) (by_core v (not (is_some_listed ns))) ns

pub param_decorators_judged : {X : Type 0} (f : X → Role → Parameters → Summary) (c : Parameters) (v : Verdict) (ns : List (Decorator X)) →
    judge f v (decorators_form ByScope c ns) ≡ verdict_all (λ n w. judge f w (decorator_form c n)) (by_scope v (not (is_some_listed ns))) ns
unfolding judge asked decorators_form
param_decorators_judged f c v ns = order_judged f (decorator_form c) (by_scope v (not (is_some_listed ns))) ns

-- ---- functions

plain_by : {X : Type 0} (f : X → Role → Parameters → Summary) (v : Verdict) (a b : Form X) (some : Bool) → not some ≡ true → judge f v (cond some a b) ≡ judge f v b
plain_by f v a b false h = refl
plain_by f v a b true h = absurd (true≢false (sym h))

decorated_by : {X : Type 0} (f : X → Role → Parameters → Summary) (v : Verdict) (a b : Form X) (some : Bool) → not some ≡ false → judge f v (cond some a b) ≡ judge f v a
decorated_by f v a b true h = refl
decorated_by f v a b false h = absurd (true≢false h)

pub plain_judged : {X : Type 0} (f : X → Role → Parameters → Summary) (c : Parameters) (v : Verdict) (n : functions.Function X) → not (is_some_listed n.decorators.items) ≡ true →
    judge f v (function_form c n) ≡ judge f v (rest_of_function c n)
unfolding function_form
plain_judged f c v n h = plain_by f v _ (rest_of_function c n) (is_some_listed n.decorators.items) h

pub decorated_judged : {X : Type 0} (f : X → Role → Parameters → Summary) (c : Parameters) (v : Verdict) (n : functions.Function X) → not (is_some_listed n.decorators.items) ≡ false →
    judge f v (function_form c n) ≡ by_rule v false
unfolding function_form judge asked
decorated_judged f c v n h = decorated_by f v _ (rest_of_function c n) (is_some_listed n.decorators.items) h

-- ---- arrow functions

pub arrow_params_judged : {X : Type 0} (f : X → Role → Parameters → Summary) (c : Parameters) (typed : Bool) (v : Verdict) (front : List (PatBox X)) (last : PatBox X) →
    judge f v (arrow_params_form c typed (front ++ last ∷ [])) ≡ judge f (verdict_all (λ x w. judge f w (pat_part nt.PatternElement c x)) v front) (pat_part nt.LastElement c last)
unfolding judge arrow_params_form verdict_all
arrow_params_judged f c true v [] last = ending_judged f (λ place n. pat_part place c n) v [] last
arrow_params_judged f c true v (x ∷ front) last = ending_judged f (λ place n. pat_part place c n) v (x ∷ front) last
arrow_params_judged f c false v [] last = refl
arrow_params_judged f c false v (x ∷ []) last = ending_judged f (λ place n. pat_part place c n) v (x ∷ []) last
arrow_params_judged f c false v (x ∷ y ∷ front) last = ending_judged f (λ place n. pat_part place c n) v (x ∷ y ∷ front) last

pub no_arrow_params_judged : {X : Type 0} (f : X → Role → Parameters → Summary) (c : Parameters) (typed : Bool) (v : Verdict) (xs : List (PatBox X)) → length xs ≡ 0 → judge f v (arrow_params_form c typed xs) ≡ v
unfolding judge arrow_params_form ending_listed
no_arrow_params_judged f c true v [] h = refl
no_arrow_params_judged f c false v [] h = refl
no_arrow_params_judged f c typed v (x ∷ xs) h = absurd (omega (arith, h))

pub nil_arrow_params_judged : {X : Type 0} (f : X → Role → Parameters → Summary) (c : Parameters) (typed : Bool) (v : Verdict) (xs : List (PatBox X)) → xs ≡ [] → judge f v (arrow_params_form c typed xs) ≡ v
nil_arrow_params_judged f c typed v xs h = no_arrow_params_judged f c typed v xs (ap length h)

async_judged : {X : Type 0} (f : X → Role → Parameters → Summary) (v : Verdict) (is_async : Bool) (a : Form X) → judge f v (async_form is_async a) ≡ judge f v a
unfolding judge async_form
async_judged f v true a = refl
async_judged f v false a = refl

pub arrow_judged : {X : Type 0} (f : X → Role → Parameters → Summary) (c : Parameters) (v : Verdict) (n : ArrowExpr X) →
    judge f v (arrow_form c n)
    ≡ judge f (judge f (judge f (judge f (by_rule v (not n.is_generator)) (type_params_form c n.type_params)) (arrow_params_form (of_arrow_parameters n.is_async c) (is_typed_arrow n) n.params.items))
    (annotation_form c n.return_type)) (arrow_body_form c n.is_async n.body)
unfolding judge asked arrow_form
arrow_judged f c v n = async_judged f v n.is_async _
