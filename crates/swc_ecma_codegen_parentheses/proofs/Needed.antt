-- What lacks parentheses as the verdict has it isn't derived by the nonterminal that stands there.
use Rattle.std.proofs.Common.{◌≡◌, Bool, true, false, ◌&&◌, not, cond, refl, ◌∙◌, ap, sym, Option, Some, None}
use Rattle.swc_ecma_codegen_tree.specs.declared.exprs.Expr.{Expr}
use Rattle.swc_ecma_codegen_tree.specs.declared.links.AnyNode.{AnyNode}
use Rattle.swc_ecma_codegen_tree.specs.declared.links.AnyNode.TheVariants as whole
use Rattle.swc_ecma_codegen_grammar.specs.declared.roles.Role.TheVariants.{Expression}
use Rattle.swc_ecma_codegen_syntax.specs.declared.lookahead.Beginning.{Beginning}
use Rattle.swc_ecma_codegen_syntax.specs.declared.lookahead.Lookahead.{Lookahead}
use Rattle.swc_ecma_codegen_syntax.specs.declared.nonterminals.Nonterminal.{Nonterminal}
use Rattle.swc_ecma_codegen_syntax.specs.declared.parameters.Parameters.{Parameters}
use Rattle.swc_ecma_codegen_syntax.specs.declared.verdicts.Facts.{Facts}
use Rattle.swc_ecma_codegen_syntax.specs.declared.verdicts.Verdict.{Verdict}
use Rattle.swc_ecma_codegen_syntax.specs.Derives.{expr_verdict}
use Rattle.swc_ecma_codegen_syntax.specs.Forms.{of_part}
use Rattle.swc_ecma_codegen_syntax.specs.Lookahead.{excludes}
use Rattle.swc_ecma_codegen_syntax.specs.NodeForms.{expr_facts, node_facts, summary_of}
use Rattle.swc_ecma_codegen_syntax.specs.Nonterminals.{takes}
use Rattle.swc_ecma_codegen_syntax.specs.Verdicts.{by_place, by_rule, is_mended, meet, standing, unasked}
use Rattle.swc_ecma_codegen_syntax.proofs.TreeFacts.{facts_expr}
use Rattle.swc_ecma_codegen_syntax.proofs.VerdictLaws.{and_false}
use Rattle.swc_ecma_codegen_parentheses.specs.Needed.{derives, meets}

abbrev lacks_none : Verdict → Bool
lacks_none v = v.covered && v.parenthesized

by_taken : (taken mended : Bool) (v : Verdict) → lacks_none (meet (cond taken unasked (cond mended (by_place unasked false) (by_rule unasked false))) v) ≡ false → (taken && lacks_none v) ≡ false
unfolding meet
by_taken true mended v lacks = lacks
by_taken false mended v lacks = refl

not_derived_part : (place : Nonterminal) (facts : Facts) → lacks_none (of_part place unasked facts) ≡ false → derives place facts ≡ false
unfolding standing derives
not_derived_part place facts lacks = by_taken (takes place facts.nonterminal) (is_mended place facts.nonterminal) facts.verdict lacks

-- of an expression, by its verdict
pub not_derived : (place : Nonterminal) (c : Parameters) (n : Expr AnyNode) → lacks_none (expr_verdict place c n) ≡ false → derives place (summary_of (whole.Expr n) Expression c).facts ≡ false
unfolding node_facts
not_derived place c n lacks = ap (derives place) (facts_expr n Expression c) ∙ not_derived_part place (expr_facts summary_of false c n) lacks

-- a restriction forbids what it begins with; it isn't derived
pub forbidden : (o : Option Lookahead) (l : Lookahead) (b : Beginning) (other : Bool) → o ≡ Some l → excludes l b ≡ true → (meets o b && other) ≡ false
unfolding meets
forbidden o l b other is said = ap (λ k. meets k b && other) is ∙ ap (λ e. not e && other) said

pub underived : (met derived : Bool) → derived ≡ false → (met && derived) ≡ false
underived met derived is = ap (λ d. met && d) is ∙ and_false met

pub underived_first : (derived other : Bool) → derived ≡ false → (derived && other) ≡ false
underived_first derived other is = ap (λ d. d && other) is

pub not_true : (b : Bool) → not b ≡ true → b ≡ false
not_true false is = refl
not_true true is = sym is
