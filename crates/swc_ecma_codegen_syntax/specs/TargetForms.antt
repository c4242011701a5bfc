-- What is assigned to: one production a node, with nonterminals. ECMA-262, section 13.15.
use Rattle.std.specs.Prelude.{Bool, true, false, codes}
use Rattle.swc_ecma_codegen_tree.specs.declared.pats.AssignTarget.{AssignTarget}
use Rattle.swc_ecma_codegen_tree.specs.declared.pats.AssignTarget.TheVariants as targets
use Rattle.swc_ecma_codegen_tree.specs.declared.pats.SimpleAssignTarget.{SimpleAssignTarget}
use Rattle.swc_ecma_codegen_tree.specs.declared.pats.SimpleAssignTarget.TheVariants as simple_targets
use Rattle.swc_ecma_codegen_tree.specs.declared.pats.AssignTargetPat.{AssignTargetPat}
use Rattle.swc_ecma_codegen_tree.specs.declared.pats.AssignTargetPat.TheVariants as target_pats
use Rattle.swc_ecma_codegen_tree.specs.declared.exprs.ParenExpr.{ParenExpr}
use Rattle.swc_ecma_codegen_grammar.specs.Phrases.{Never, mark}
use Rattle.swc_ecma_codegen_syntax.specs.declared.nonterminals.Nonterminal.{Nonterminal}
use Rattle.swc_ecma_codegen_syntax.specs.declared.nonterminals.Nonterminal.TheVariants as nt
use Rattle.swc_ecma_codegen_syntax.specs.declared.parameters.Parameters.{Parameters}
use Rattle.swc_ecma_codegen_syntax.specs.Parameters.{with_in, of_targets}
use Rattle.swc_ecma_codegen_syntax.specs.Forms.{Form, Fixed, Simple, Provided, ByRule, ByScope, ◌⇢◌}
use Rattle.swc_ecma_codegen_syntax.specs.MemberForms.{member_form, super_prop_form, opt_chain_form}
use Rattle.swc_ecma_codegen_syntax.specs.PatForms.{binding_form, array_pat_form, object_pat_form}

-- `(a)`, whose inside is assigned to
unfoldable pub paren_target_form : {X : Type 0} → Parameters → ParenExpr X → Form X
paren_target_form c n = Fixed (mark (codes "(")) ⇢ Simple true nt.Expression (with_in c) n.expr.node.value ⇢ Fixed (mark (codes ")"))

-- A LeftHandSideExpression whose AssignmentTargetType is simple: a name, `MemberExpression . a`, `CallExpression . a`, `super.a`, or one of
-- them in parentheses.
unfoldable pub simple_target_form : {X : Type 0} → Parameters → SimpleAssignTarget X → Form X
simple_target_form c (simple_targets.Ident n) = binding_form c n
simple_target_form c (simple_targets.Member n) = member_form nt.CallOrMember c n
simple_target_form c (simple_targets.SuperProp n) = super_prop_form c n
simple_target_form c (simple_targets.Paren n) = paren_target_form c n
simple_target_form c (simple_targets.OptChain n) = Provided ByRule false (opt_chain_form c n)
simple_target_form c (simple_targets.Invalid n) = Provided ByRule false (Fixed Never)
simple_target_form c n = Provided ByScope false (Fixed Never)

-- AssignmentPattern
unfoldable pub target_pat_form : {X : Type 0} → Bool → Parameters → AssignTargetPat X → Form X
target_pat_form comma c (target_pats.Array n) = array_pat_form comma c n
target_pat_form comma c (target_pats.Object n) = object_pat_form comma c n
target_pat_form comma c (target_pats.Invalid n) = Provided ByRule false (Fixed Never)

unfoldable pub target_form : {X : Type 0} → Bool → Parameters → AssignTarget X → Form X
target_form comma c (targets.Simple n) = simple_target_form (of_targets c) n
target_form comma c (targets.Pat n) = target_pat_form comma (of_targets c) n

unfoldable pub target_nonterminal : {X : Type 0} → AssignTarget X → Nonterminal
target_nonterminal (targets.Simple n) = nt.LeftHandSideExpression
target_nonterminal (targets.Pat n) = nt.AssignmentPattern
