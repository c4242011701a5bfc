-- What the check says of sequences, templates and links of chains.
use Rattle.std.proofs.Common.{◌≡◌, ℕ, ◌+◌, ◌<◌, ◌≤◌, Bool, true, false, cond, List, [], ◌∷◌, length, refl, sym, arith}
use Rattle.std.proofs.lemmas.Bool.{true≢false, eqb-true}
use Rattle.swc_ecma_codegen_tree.specs.Links.{ExprBox}
use Rattle.swc_ecma_codegen_tree.specs.declared.exprs.MemberProp.{MemberProp}
use Rattle.swc_ecma_codegen_tree.specs.declared.exprs.MemberProp.TheVariants as member_props
use Rattle.swc_ecma_codegen_tree.specs.declared.exprs.Tpl.{Tpl}
use Rattle.swc_ecma_codegen_tree.specs.declared.exprs.TplElement.{TplElement}
use Rattle.swc_ecma_codegen_grammar.specs.Phrases.{Never}
use Rattle.swc_ecma_codegen_grammar.specs.TemplatePhrases.{is_counted}
use Rattle.swc_ecma_codegen_grammar.specs.declared.roles.Role.{Role}
use Rattle.swc_ecma_codegen_syntax.specs.declared.nonterminals.Nonterminal.TheVariants as nt
use Rattle.swc_ecma_codegen_syntax.specs.declared.parameters.Parameters.{Parameters}
use Rattle.swc_ecma_codegen_syntax.specs.Summary.{Summary}
use Rattle.swc_ecma_codegen_syntax.specs.declared.verdicts.Verdict.{Verdict}
use Rattle.swc_ecma_codegen_syntax.specs.Parameters.{with_in}
use Rattle.swc_ecma_codegen_syntax.specs.Verdicts.{by_rule}
use Rattle.swc_ecma_codegen_syntax.specs.Forms.{Form, Fixed, Provided, ByRule, asked, judge, some_listed, verdict_all}
use Rattle.swc_ecma_codegen_syntax.specs.MemberForms.{expr_part, prop_form, chain_prop_form}
use Rattle.swc_ecma_codegen_syntax.specs.TemplateForms.{tpl_rest_form, tpl_parts_form, tpl_form}
use Rattle.swc_ecma_codegen_syntax.proofs.Judged.{after_judged}

pub few_judged : {X A : Type 0} (f : X → Role → Parameters → Summary) (t : List ℕ) (e : A → Form X) (v : Verdict) (xs : List A) → length xs < 2 →
    judge f v (some_listed t e xs) ≡ verdict_all (λ x w. judge f w (e x)) (by_rule v false) xs
unfolding judge asked some_listed verdict_all
few_judged f t e v [] h = refl
few_judged f t e v (x ∷ []) h = refl
few_judged f t e v (x ∷ y ∷ xs) h = absurd (omega arith)

pub many_judged : {X A : Type 0} (f : X → Role → Parameters → Summary) (t : List ℕ) (e : A → Form X) (v : Verdict) (xs : List A) → 2 ≤ length xs →
    judge f v (some_listed t e xs) ≡ verdict_all (λ x w. judge f w (e x)) v xs
unfolding judge some_listed verdict_all
many_judged f t e v [] h = absurd (omega arith)
many_judged f t e v (x ∷ []) h = absurd (omega arith)
many_judged f t e v (x ∷ y ∷ xs) h = after_judged f t e (judge f v (e x)) (y ∷ xs)

-- `?.b` asks for no more than `.b`
pub chain_prop_judged : {X : Type 0} (f : X → Role → Parameters → Summary) (c : Parameters) (n : MemberProp X) (v : Verdict) → judge f v (chain_prop_form c n) ≡ judge f v (prop_form c n)
unfolding judge chain_prop_form prop_form
chain_prop_judged f c (member_props.Ident n) v = refl
chain_prop_judged f c (member_props.PrivateName n) v = refl
chain_prop_judged f c (member_props.Computed n) v = refl

rest_judged : {X A : Type 0} (f : X → Role → Parameters → Summary) (e : A → Form X) (tagged : Bool) (v : Verdict) (es : List A) (qs : List TplElement) → length es ≡ length qs →
    judge f v (tpl_rest_form e tagged es qs) ≡ verdict_all (λ x w. judge f w (e x)) v es
unfolding judge tpl_rest_form verdict_all
rest_judged f e tagged v [] [] h = refl
rest_judged f e tagged v [] (q ∷ qs) h = absurd (omega (arith, h))
rest_judged f e tagged v (x ∷ es) [] h = absurd (omega (arith, h))
rest_judged f e tagged v (x ∷ es) (q ∷ qs) h = rest_judged f e tagged (judge f v (e x)) es qs (omega (arith, h))

parts_judged : {X A : Type 0} (f : X → Role → Parameters → Summary) (e : A → Form X) (tagged : Bool) (v : Verdict) (es : List A) (qs : List TplElement) → length qs ≡ length es + 1 →
    judge f v (tpl_parts_form e tagged es qs) ≡ verdict_all (λ x w. judge f w (e x)) v es
unfolding judge tpl_parts_form
parts_judged f e tagged v es [] h = absurd (omega (arith, h))
parts_judged f e tagged v es (q ∷ qs) h = rest_judged f e tagged v es qs (omega (arith, h))

counted_by : {X : Type 0} (f : X → Role → Parameters → Summary) (c : Parameters) (tagged : Bool) (v : Verdict) (es : List (ExprBox X)) (qs : List TplElement) (b : Bool) →
    b ≡ true → (length qs ≡ length es + 1) →
    judge f v (cond b (tpl_parts_form (expr_part nt.Expression (with_in c)) tagged es qs) (Provided ByRule false (Fixed Never)))
    ≡ verdict_all (λ n w. judge f w (expr_part nt.Expression (with_in c) n)) v es
counted_by f c tagged v es qs true h k = parts_judged f (expr_part nt.Expression (with_in c)) tagged v es qs k
counted_by f c tagged v es qs false h k = absurd (true≢false (sym h))

uncounted_by : {X : Type 0} (f : X → Role → Parameters → Summary) (v : Verdict) (a : Form X) (b : Bool) → b ≡ false → judge f v (cond b a (Provided ByRule false (Fixed Never))) ≡ by_rule v false
unfolding judge asked
uncounted_by f v a false h = refl
uncounted_by f v a true h = absurd (true≢false h)

pub counted_judged : {X : Type 0} (f : X → Role → Parameters → Summary) (c : Parameters) (tagged : Bool) (v : Verdict) (n : Tpl X) → is_counted n.exprs.items n.quasis.items ≡ true →
    judge f v (tpl_form c tagged n) ≡ verdict_all (λ e w. judge f w (expr_part nt.Expression (with_in c) e)) v n.exprs.items
unfolding tpl_form
counted_judged f c tagged v n h =
    counted_by f c tagged v n.exprs.items n.quasis.items (is_counted n.exprs.items n.quasis.items) h (eqb-true (length n.quasis.items) (length n.exprs.items + 1) h)

pub uncounted_judged : {X : Type 0} (f : X → Role → Parameters → Summary) (c : Parameters) (tagged : Bool) (v : Verdict) (n : Tpl X) → is_counted n.exprs.items n.quasis.items ≡ false →
    judge f v (tpl_form c tagged n) ≡ by_rule v false
unfolding tpl_form
uncounted_judged f c tagged v n h = uncounted_by f v (tpl_parts_form (expr_part nt.Expression (with_in c)) tagged n.exprs.items n.quasis.items) (is_counted n.exprs.items n.quasis.items) h
