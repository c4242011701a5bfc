-- What is said of an expression or a pattern by itself decides which lists are derived with it.
use Rattle.std.proofs.Common.{◌≡◌, ◌↔◌, Bool, true, false, ◌&&◌, List, ◌++◌, refl, sym, subst, ◌∙◌, ap}
use Rattle.std.proofs.lemmas.Bool.{true≢false, and_parts}
use Rattle.swc_ecma_codegen_tree.specs.declared.links.AnyNode.{AnyNode}
use Rattle.swc_ecma_codegen_tree.specs.declared.links.AnyNode.TheVariants as whole
use Rattle.swc_ecma_codegen_tree.specs.declared.exprs.Expr.{Expr}
use Rattle.swc_ecma_codegen_tree.specs.declared.parts.ExprPart.TheVariants as expr_parts
use Rattle.swc_ecma_codegen_tree.specs.declared.pats.Pat.{Pat}
use Rattle.swc_ecma_codegen_grammar.specs.Phrases.{Phrase, Never, Nothing, One, NameOf, KeyOf, PrivateOf, TagNameOf, Then, CommaBefore, OptionalParentheses, Chosen, Generates, is_possible}
use Rattle.swc_ecma_codegen_grammar.specs.Settings.{Settings}
use Rattle.swc_ecma_codegen_grammar.specs.Tokens.{Token}
use Rattle.swc_ecma_codegen_grammar.specs.TreePhrases.{node_phrase, phrase, expr_phrase}
use Rattle.swc_ecma_codegen_grammar.specs.PartPhrases.{expr_part}
use Rattle.swc_ecma_codegen_grammar.specs.PatPhrases.{pat}
use Rattle.swc_ecma_codegen_grammar.specs.declared.roles.Role.{Role}
use Rattle.swc_ecma_codegen_grammar.specs.declared.roles.Role.TheVariants.{Expression, Pattern}
use Rattle.swc_ecma_codegen_grammar.proofs.TreeLaws.{phrase_expr, phrase_expr_part}
use Rattle.swc_ecma_codegen_syntax.specs.declared.nonterminals.Nonterminal.{Nonterminal}
use Rattle.swc_ecma_codegen_syntax.specs.declared.parameters.Parameters.{Parameters}
use Rattle.swc_ecma_codegen_syntax.specs.declared.verdicts.Verdict.{Verdict}
use Rattle.swc_ecma_codegen_syntax.specs.Verdicts.{Grammar, unasked, holds_in}
use Rattle.swc_ecma_codegen_syntax.specs.Forms.{Part, of_part, judge, keeps, forget}
use Rattle.swc_ecma_codegen_syntax.specs.NodeForms.{expr_facts, part_facts, node_facts, summary_of, facts}
use Rattle.swc_ecma_codegen_syntax.specs.Derives.{Derives, DerivesExprIn, DerivesPatIn, bare_phrase, expr_verdict, pat_verdict}
use Rattle.swc_ecma_codegen_syntax.proofs.Judged.{judged}
use Rattle.swc_ecma_codegen_syntax.proofs.TreeFacts.{facts_expr, facts_expr_part}
use Rattle.swc_ecma_codegen_syntax.proofs.Exact.{derived_kept, kept_derives}
use Rattle.swc_ecma_codegen_syntax.proofs.SummaryForms.{unasked_holds}

-- ---- of any node in a role

abbrev pub said : Nonterminal → Parameters → Role → AnyNode → Verdict
said place c role n = of_part place unasked (facts n role c)

said_kept : (grammar : Grammar) (place : Nonterminal) (c : Parameters) (role : Role) (n : AnyNode) → holds_in grammar (said place c role n) ≡ keeps grammar summary_of (Part place c role n)
unfolding judge
said_kept grammar place c role n =
    judged grammar summary_of unasked (Part place c role n) ∙ ap (λ b. b && keeps grammar summary_of (Part place c role n)) (unasked_holds grammar)

pub node_sound : (grammar : Grammar) (place : Nonterminal) (c : Parameters) (role : Role) (n : AnyNode) (b : Bool) → b ≡ holds_in grammar (said place c role n) → (s : Settings) (ts : List Token) →
    Derives grammar s (Part place c role n) ts → (b ≡ true) × Generates s (phrase n role) ts
unfolding forget
node_sound grammar place c role n b e s ts d =
    let (k, x) = derived_kept grammar s (Part place c role n) ts d in
    (e ∙ said_kept grammar place c role n ∙ k, x)

pub node_complete : (grammar : Grammar) (place : Nonterminal) (c : Parameters) (role : Role) (n : AnyNode) (b : Bool) → b ≡ holds_in grammar (said place c role n) → b ≡ true → (s : Settings) (ts : List Token) →
    Generates s (bare_phrase (phrase n role)) ts → Derives grammar s (Part place c role n) ts
unfolding keeps
node_complete grammar place c role n b e h s ts x = kept_derives grammar s place c role n (sym (said_kept grammar place c role n) ∙ sym e ∙ h) ts x

-- a well-formed tree has a list, under any settings
pub listed : (s : Settings) (p : Phrase) → is_possible p ≡ true → (ts : List Token) × Generates s (bare_phrase p) ts
unfolding is_possible bare_phrase Generates
listed s Never h = absurd (true≢false (sym h))
listed s Nothing h = (_, refl)
listed s (One x) h = (_, refl)
listed s (NameOf at bytes) h = (_, refl)
listed s (KeyOf at bytes) h = (_, refl)
listed s (PrivateOf bytes) h = (_, refl)
listed s (TagNameOf at bytes) h = (_, refl)
listed s (Then a b) h =
    let (k, l) = and_parts (is_possible a) (is_possible b) h in
    let (us, x) = listed s a k in
    let (vs, y) = listed s b l in
    (us ++ vs, (us, vs, x, y, refl))
listed s (CommaBefore close) h = (_, refl)
listed s (OptionalParentheses round a) h = listed s a h
listed s (Chosen choice) h = (_, refl)

pub node_exactly : (grammar : Grammar) (place : Nonterminal) (c : Parameters) (role : Role) (n : AnyNode) (b : Bool) → b ≡ holds_in grammar (said place c role n) → is_possible (phrase n role) ≡ true → (s : Settings) →
    (b ≡ true) ↔ ((ts : List Token) × Derives grammar s (Part place c role n) ts)
node_exactly grammar place c role n b e w s =
    let there : b ≡ true → (ts : List Token) × Derives grammar s (Part place c role n) ts = λ h. let (ts, x) = listed s (phrase n role) w in (ts, node_complete grammar place c role n b e h s ts x) in
    let back : ((ts : List Token) × Derives grammar s (Part place c role n) ts) → b ≡ true = λ d. (node_sound grammar place c role n b e s d.0 d.1).0 in
    (there, back)

-- ---- expressions

expr_facts_at : (n : Expr AnyNode) (c : Parameters) → facts (whole.Expr n) Expression c ≡ expr_facts summary_of false c n
unfolding node_facts
expr_facts_at n c = facts_expr n Expression c

read : (n : Expr AnyNode) → phrase (whole.Expr n) Expression ≡ expr_phrase n
unfolding node_phrase
read n = phrase_expr n Expression

expr_said : (grammar : Grammar) (place : Nonterminal) (c : Parameters) (n : Expr AnyNode) → holds_in grammar (expr_verdict place c n) ≡ holds_in grammar (said place c Expression (whole.Expr n))
expr_said grammar place c n = ap (λ t. holds_in grammar (of_part place unasked t)) (sym (expr_facts_at n c))

pub sound : (grammar : Grammar) (place : Nonterminal) (c : Parameters) (n : Expr AnyNode) (b : Bool) → b ≡ holds_in grammar (expr_verdict place c n) → (s : Settings) (ts : List Token) →
    DerivesExprIn grammar s place c n ts → (b ≡ true) × Generates s (expr_phrase n) ts
sound grammar place c n b e s ts (m, d) =
    let (k, x) = node_sound grammar place c Expression (whole.Expr n) b (e ∙ expr_said grammar place c n) s ts d in
    (k, subst (λ p. Generates s p ts) (read n) x)

pub complete : (grammar : Grammar) (place : Nonterminal) (c : Parameters) (n : Expr AnyNode) (b : Bool) → b ≡ holds_in grammar (expr_verdict place c n) → b ≡ true → (s : Settings) (ts : List Token) →
    s.minify ≡ c.minify → Generates s (bare_phrase (expr_phrase n)) ts → DerivesExprIn grammar s place c n ts
complete grammar place c n b e h s ts m x =
    (m, node_complete grammar place c Expression (whole.Expr n) b (e ∙ expr_said grammar place c n) h s ts (subst (λ p. Generates s (bare_phrase p) ts) (sym (read n)) x))

pub exactly : (grammar : Grammar) (place : Nonterminal) (c : Parameters) (n : Expr AnyNode) (b : Bool) → b ≡ holds_in grammar (expr_verdict place c n) → is_possible (expr_phrase n) ≡ true → (s : Settings) →
    s.minify ≡ c.minify → (b ≡ true) ↔ ((ts : List Token) × DerivesExprIn grammar s place c n ts)
exactly grammar place c n b e w s m =
    let (there, back) = node_exactly grammar place c Expression (whole.Expr n) b (e ∙ expr_said grammar place c n) (ap is_possible (read n) ∙ w) s in
    ((λ h. let (ts, d) = there h in (ts, (m, d))), (λ d. back (d.0, d.1.1)))

-- ---- patterns

pat_facts_at : (n : Pat AnyNode) (c : Parameters) → facts (whole.ExprPart (expr_parts.Pat n)) Pattern c ≡ part_facts summary_of c (expr_parts.Pat n) Pattern
unfolding node_facts
pat_facts_at n c = facts_expr_part (expr_parts.Pat n) Pattern c

pat_read : (n : Pat AnyNode) → phrase (whole.ExprPart (expr_parts.Pat n)) Pattern ≡ pat phrase n
unfolding node_phrase expr_part
pat_read n = phrase_expr_part (expr_parts.Pat n) Pattern

pat_said : (grammar : Grammar) (place : Nonterminal) (c : Parameters) (n : Pat AnyNode) → holds_in grammar (pat_verdict place c n) ≡ holds_in grammar (said place c Pattern (whole.ExprPart (expr_parts.Pat n)))
pat_said grammar place c n = ap (λ t. holds_in grammar (of_part place unasked t)) (sym (pat_facts_at n c))

pub pat_sound : (grammar : Grammar) (place : Nonterminal) (c : Parameters) (n : Pat AnyNode) (b : Bool) → b ≡ holds_in grammar (pat_verdict place c n) → (s : Settings) (ts : List Token) →
    DerivesPatIn grammar s place c n ts → (b ≡ true) × Generates s (pat phrase n) ts
pat_sound grammar place c n b e s ts (m, d) =
    let (k, x) = node_sound grammar place c Pattern (whole.ExprPart (expr_parts.Pat n)) b (e ∙ pat_said grammar place c n) s ts d in
    (k, subst (λ p. Generates s p ts) (pat_read n) x)

pub pat_complete : (grammar : Grammar) (place : Nonterminal) (c : Parameters) (n : Pat AnyNode) (b : Bool) → b ≡ holds_in grammar (pat_verdict place c n) → b ≡ true → (s : Settings) (ts : List Token) →
    s.minify ≡ c.minify → Generates s (bare_phrase (pat phrase n)) ts → DerivesPatIn grammar s place c n ts
pat_complete grammar place c n b e h s ts m x =
    (m, node_complete grammar place c Pattern (whole.ExprPart (expr_parts.Pat n)) b (e ∙ pat_said grammar place c n) h s ts (subst (λ p. Generates s (bare_phrase p) ts) (sym (pat_read n)) x))

pub pat_exactly : (grammar : Grammar) (place : Nonterminal) (c : Parameters) (n : Pat AnyNode) (b : Bool) → b ≡ holds_in grammar (pat_verdict place c n) → is_possible (pat phrase n) ≡ true → (s : Settings) →
    s.minify ≡ c.minify → (b ≡ true) ↔ ((ts : List Token) × DerivesPatIn grammar s place c n ts)
pat_exactly grammar place c n b e w s m =
    let (there, back) = node_exactly grammar place c Pattern (whole.ExprPart (expr_parts.Pat n)) b (e ∙ pat_said grammar place c n) (ap is_possible (pat_read n) ∙ w) s in
    ((λ h. let (ts, d) = there h in (ts, (m, d))), (λ d. back (d.0, d.1.1)))
