-- The summary of a node is that of its form.
use Rattle.std.proofs.Common.{◌≡◌, Bool, true, false, ◌&&◌, ◌||◌, not, refl, ◌∙◌, ap}
use Rattle.swc_ecma_codegen_tree.specs.declared.links.AnyNode.{AnyNode, AnyNode-F, out-AnyNode}
use Rattle.swc_ecma_codegen_tree.specs.declared.links.AnyNode.TheOpen as nodes
use Rattle.swc_ecma_codegen_grammar.specs.declared.roles.Role.{Role}
use Rattle.swc_ecma_codegen_grammar.specs.declared.roles.Role.TheVariants.{Expression, Callee, Statement, ChainMember, FieldValue}
use Rattle.swc_ecma_codegen_syntax.specs.declared.parameters.Parameters.{Parameters}
use Rattle.swc_ecma_codegen_syntax.specs.Summary.{Summary}
use Rattle.swc_ecma_codegen_syntax.specs.Verdicts.{Grammar, unasked, by_scope, holds, holds_in}
use Rattle.swc_ecma_codegen_syntax.specs.Forms.{asked, judge, keeps}
use Rattle.swc_ecma_codegen_syntax.specs.NodeForms.{node_form, node_nonterminal, is_called_node, expr_facts, part_facts, stmt_facts, stmt_part_facts, node_facts, summary_of, facts, is_called, jsx_part_facts}
use Rattle.swc_ecma_codegen_syntax.proofs.Judged.{judged}
use Rattle.swc_ecma_codegen_syntax.proofs.TreeFacts.{facts_at}
use Rattle.swc_ecma_codegen_syntax.specs.ExprForms.{expr_form}
use Rattle.swc_ecma_codegen_syntax.proofs.ClassesJudged.{field_expr_judged}

pub nonterminal_of_node : {X : Type 0} (f : X → Role → Parameters → Summary) (n : AnyNode-F X) (role : Role) (c : Parameters) → (node_facts f n role c).nonterminal ≡ node_nonterminal (is_called_node f c n) c n role
unfolding node_facts expr_facts part_facts stmt_facts stmt_part_facts jsx_part_facts node_nonterminal is_called_node
nonterminal_of_node f (nodes.Expr n) Expression c = refl
nonterminal_of_node f (nodes.Expr n) Callee c = refl
nonterminal_of_node f (nodes.Expr n) FieldValue c = refl
nonterminal_of_node f (nodes.MemberExpr n) (ChainMember optional) c = refl
nonterminal_of_node f (nodes.ExprPart n) role c = refl
nonterminal_of_node f (nodes.Stmt n) Statement c = refl
nonterminal_of_node f (nodes.StmtPart n) role c = refl
nonterminal_of_node f (nodes.JSXPart n) role c = refl
nonterminal_of_node f n role c = refl

pub verdict_of_node : {X : Type 0} (f : X → Role → Parameters → Summary) (n : AnyNode-F X) (role : Role) (c : Parameters) → (node_facts f n role c).verdict ≡ judge f unasked (node_form (is_called_node f c n) c n role)
unfolding node_facts expr_facts part_facts stmt_facts stmt_part_facts jsx_part_facts node_form is_called_node judge asked by_scope
verdict_of_node f (nodes.Expr n) Expression c = refl
verdict_of_node f (nodes.Expr n) Callee c = refl
verdict_of_node f (nodes.Expr n) FieldValue c = field_expr_judged f unasked (expr_form false (is_called f c n) c n) n
verdict_of_node f (nodes.MemberExpr n) (ChainMember optional) c = refl
verdict_of_node f (nodes.ExprPart n) role c = refl
verdict_of_node f (nodes.Stmt n) Statement c = refl
verdict_of_node f (nodes.StmtPart n) role c = refl
verdict_of_node f (nodes.JSXPart n) role c = refl
verdict_of_node f n role c = refl

nothing_asked : (wide places : Bool) → ((wide || true) && (true && (true && (not places || true)))) ≡ true
nothing_asked true true = refl
nothing_asked true false = refl
nothing_asked false true = refl
nothing_asked false false = refl

pub unasked_holds : (grammar : Grammar) → holds_in grammar unasked ≡ true
unfolding holds
unasked_holds grammar = nothing_asked grammar.wide grammar.places

pub verdict_keeps : {X : Type 0} (grammar : Grammar) (f : X → Role → Parameters → Summary) (n : AnyNode-F X) (role : Role) (c : Parameters) → holds_in grammar (node_facts f n role c).verdict ≡ keeps grammar f (node_form (is_called_node f c n) c n role)
verdict_keeps grammar f n role c =
    ap (holds_in grammar) (verdict_of_node f n role c) ∙ judged grammar f unasked (node_form (is_called_node f c n) c n role)
    ∙ ap (λ b. b && keeps grammar f (node_form (is_called_node f c n) c n role)) (unasked_holds grammar)

pub sort_at : (n : AnyNode) (role : Role) (c : Parameters) → (facts n role c).nonterminal ≡ node_nonterminal (is_called_node summary_of c (out-AnyNode n)) c (out-AnyNode n) role
sort_at n role c = ap (λ z. z.nonterminal) (facts_at n role c) ∙ nonterminal_of_node summary_of (out-AnyNode n) role c

pub holds_at : (grammar : Grammar) (n : AnyNode) (role : Role) (c : Parameters) → holds_in grammar (facts n role c).verdict ≡ keeps grammar summary_of (node_form (is_called_node summary_of c (out-AnyNode n)) c (out-AnyNode n) role)
holds_at grammar n role c = ap (λ z. holds_in grammar z.verdict) (facts_at n role c) ∙ verdict_keeps grammar summary_of (out-AnyNode n) role c
