-- What the check says of classes.
use Rattle.std.proofs.Common.{◌≡◌, Bool, true, false, ◌||◌, not, cond, codes, List, [], ◌∷◌, ◌++◌, length, refl, sym, ap}
use Rattle.std.proofs.lemmas.Bool.{true≢false}
use Rattle.swc_ecma_codegen_tree.specs.Links.{ClassMemberBox}
use Rattle.swc_ecma_codegen_tree.specs.declared.classes.ParamOrTsParamProp.{ParamOrTsParamProp}
use Rattle.swc_ecma_codegen_tree.specs.declared.decls.Function as functions
use Rattle.swc_ecma_codegen_tree.specs.declared.decls.Param.{Param}
use Rattle.swc_ecma_codegen_tree.specs.declared.exprs.Expr.{Expr}
use Rattle.swc_ecma_codegen_tree.specs.declared.exprs.Expr.TheVariants as exprs
use Rattle.swc_ecma_codegen_tree.specs.declared.ts_decls.TsExprWithTypeArgs.{TsExprWithTypeArgs}
use Rattle.swc_ecma_codegen_grammar.specs.FunctionPhrases.{is_some_listed}
use Rattle.swc_ecma_codegen_grammar.specs.declared.roles.Role.{Role}
use Rattle.swc_ecma_codegen_grammar.specs.declared.roles.Role.TheVariants.{Member}
use Rattle.swc_ecma_codegen_syntax.specs.declared.nonterminals.Nonterminal.TheVariants as nt
use Rattle.swc_ecma_codegen_syntax.specs.declared.parameters.Parameters.{Parameters}
use Rattle.swc_ecma_codegen_syntax.specs.declared.verdicts.Verdict.{Verdict}
use Rattle.swc_ecma_codegen_syntax.specs.Summary.{Summary}
use Rattle.swc_ecma_codegen_syntax.specs.Verdicts.{by_rule, by_scope}
use Rattle.swc_ecma_codegen_syntax.specs.Forms.{Form, Part, asked, judge, verdict_all, ending_listed}
use Rattle.swc_ecma_codegen_syntax.specs.FunctionForms.{param_form}
use Rattle.swc_ecma_codegen_syntax.specs.ClassForms.{implemented_form, implements_form, members_form, constructor_param_form, plain_params_form, rest_of_accessor, accessor_form, field_expr_form}
use Rattle.swc_ecma_codegen_syntax.proofs.Judged.{listed_judged, order_judged}
use Rattle.swc_ecma_codegen_syntax.proofs.FunctionsJudged.{ending_judged, no_ending_judged}

-- ---- a class

implemented_judged : {X : Type 0} (f : X → Role → Parameters → Summary) (v : Verdict) (ns : List (TsExprWithTypeArgs X)) → judge f v (implemented_form ns) ≡ v
unfolding judge implemented_form
implemented_judged f v [] = refl
implemented_judged f v (n ∷ ns) = refl

pub implements_judged : {X : Type 0} (f : X → Role → Parameters → Summary) (v : Verdict) (ns : List (TsExprWithTypeArgs X)) → judge f v (implements_form ns) ≡ by_scope v (not (is_some_listed ns))
unfolding judge asked implements_form
implements_judged f v ns = implemented_judged f (by_scope v (not (is_some_listed ns))) ns

pub members_judged : {X : Type 0} (f : X → Role → Parameters → Summary) (c : Parameters) (v : Verdict) (ns : List (ClassMemberBox X)) →
    judge f v (members_form c ns) ≡ verdict_all (λ m w. judge f w (Part nt.ClassElement c Member m.node.value)) v ns
members_judged f c v ns = order_judged f (λ m. Part nt.ClassElement c Member m.node.value) v ns

-- ---- constructors, getters and setters

pub constructor_params_judged : {X : Type 0} (f : X → Role → Parameters → Summary) (c : Parameters) (v : Verdict) (front : List (ParamOrTsParamProp X)) (last : ParamOrTsParamProp X) →
    judge f v (ending_listed (constructor_param_form c) (front ++ last ∷ []))
    ≡ judge f (verdict_all (λ x w. judge f w (constructor_param_form c nt.PatternElement x)) v front) (constructor_param_form c nt.LastElement last)
constructor_params_judged f c v front last = ending_judged f (constructor_param_form c) v front last

pub no_constructor_params_judged : {X : Type 0} (f : X → Role → Parameters → Summary) (c : Parameters) (v : Verdict) (xs : List (ParamOrTsParamProp X)) → length xs ≡ 0 → judge f v (ending_listed (constructor_param_form c) xs) ≡ v
no_constructor_params_judged f c v xs h = no_ending_judged f (constructor_param_form c) v xs h

pub nil_constructor_params_judged : {X : Type 0} (f : X → Role → Parameters → Summary) (c : Parameters) (v : Verdict) (xs : List (ParamOrTsParamProp X)) → xs ≡ [] → judge f v (ending_listed (constructor_param_form c) xs) ≡ v
nil_constructor_params_judged f c v xs h = no_ending_judged f (constructor_param_form c) v xs (ap length h)

pub plain_params_judged : {X : Type 0} (f : X → Role → Parameters → Summary) (c : Parameters) (v : Verdict) (xs : List (Param X)) →
    judge f v (plain_params_form c xs) ≡ verdict_all (λ x w. judge f w (param_form c nt.PatternElement x)) v xs
plain_params_judged f c v xs = listed_judged f (codes ",") (param_form c nt.PatternElement) v xs

other_by : {X : Type 0} (f : X → Role → Parameters → Summary) (v : Verdict) (a b : Form X) (other : Bool) → other ≡ true → judge f v (cond other a b) ≡ judge f v a
other_by f v a b true h = refl
other_by f v a b false h = absurd (true≢false (sym h))

plain_by : {X : Type 0} (f : X → Role → Parameters → Summary) (v : Verdict) (a b : Form X) (other : Bool) → other ≡ false → judge f v (cond other a b) ≡ judge f v b
plain_by f v a b false h = refl
plain_by f v a b true h = absurd (true≢false h)

pub plain_accessor_judged : {X : Type 0} (f : X → Role → Parameters → Summary) (c : Parameters) (v : Verdict) (n : functions.Function X) → (n.is_async || n.is_generator) ≡ false →
    judge f v (accessor_form c n) ≡ judge f v (rest_of_accessor c n)
unfolding accessor_form
plain_accessor_judged f c v n h = plain_by f v _ (rest_of_accessor c n) (n.is_async || n.is_generator) h

pub other_accessor_judged : {X : Type 0} (f : X → Role → Parameters → Summary) (c : Parameters) (v : Verdict) (n : functions.Function X) → (n.is_async || n.is_generator) ≡ true →
    judge f v (accessor_form c n) ≡ by_rule v false
unfolding accessor_form judge asked
other_accessor_judged f c v n h = other_by f v _ (rest_of_accessor c n) (n.is_async || n.is_generator) h

-- ---- the value of a field

pub field_expr_judged : {X : Type 0} (f : X → Role → Parameters → Summary) (v : Verdict) (a : Form X) (n : Expr X) → judge f v a ≡ judge f v (field_expr_form a n)
unfolding judge field_expr_form
field_expr_judged f v a (exprs.Seq n) = refl
field_expr_judged f v a n = refl
