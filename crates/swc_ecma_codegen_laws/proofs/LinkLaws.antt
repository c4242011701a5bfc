-- What is written of what a link holds, by its sort, and what it reads as.
use Rattle.std.proofs.Common.{◌≡◌, sym, ap, ◌∙◌}
use Rattle.swc_ecma_codegen_tree.specs.declared.links.AnyNode.{AnyNode}
use Rattle.swc_ecma_codegen_tree.specs.declared.links.AnyNode.TheVariants as whole
use Rattle.swc_ecma_codegen_tree.specs.declared.exprs.MemberExpr.{MemberExpr}
use Rattle.swc_ecma_codegen_tree.specs.declared.parts.ExprPart.{ExprPart}
use Rattle.swc_ecma_codegen_tree.specs.declared.parts.ExprPart.TheVariants as expr_parts
use Rattle.swc_ecma_codegen_tree.specs.declared.pats.AssignTarget.{AssignTarget}
use Rattle.swc_ecma_codegen_grammar.specs.ExprPhrases.{member_expr}
use Rattle.swc_ecma_codegen_grammar.specs.AssignPhrases as target_lists
use Rattle.swc_ecma_codegen_grammar.specs.PartPhrases as part_lists
use Rattle.swc_ecma_codegen_grammar.specs.TreePhrases.{node_phrase, phrase}
use Rattle.swc_ecma_codegen_grammar.specs.declared.roles.Role.TheVariants.{MemberExpression, AssignmentTarget}
use Rattle.swc_ecma_codegen_grammar.proofs.TreeLaws.{phrase_member_expr, phrase_expr_part}
use Rattle.swc_ecma_codegen_emit.specs.declared.nodes.Context.TheVariants.{ByItself, Plain}
use Rattle.swc_ecma_codegen_emit.specs.Places.{Whole, by_itself, in_context, placed}
use Rattle.swc_ecma_codegen_emit.specs.AnyExpr.{expr}
use Rattle.swc_ecma_codegen_emit.specs.Exprs.{member, member_at}
use Rattle.swc_ecma_codegen_emit.specs.Answers.{any_answers}
use Rattle.swc_ecma_codegen_emit.specs.Targets.{assign_target}
use Rattle.swc_ecma_codegen_emit.specs.Parts.{expr_part}
use Rattle.swc_ecma_codegen_emit.specs.Stmts.{stmt}
use Rattle.swc_ecma_codegen_emit.specs.Roots.{Root, OfExpr, OfStmt, OfItem, OfModule, OfScript, OfProgram, OfLink, root_items}
use Rattle.swc_ecma_codegen_laws.specs.HeldRoots.{IsHeld}
use Rattle.swc_ecma_codegen_emit.specs.Tree.{any_items}
use Rattle.swc_ecma_codegen_emit.proofs.MappedNodes.{any_items_plain_expr, any_items_stmt, any_items_member_expr, any_items_expr_part}
use Rattle.swc_ecma_codegen_laws.proofs.LengthOfRoots.{any_items_lined_expr, any_items_in_role, by_itself_same}

-- ---- what is written

-- a link writes what it holds
pub held_written : (n : AnyNode) (root : Root) → IsHeld n root → by_itself (any_items n) ≡ root_items root
held_written n (OfExpr e) h = ap (λ z. by_itself (any_items z)) h ∙ by_itself_same (any_items (whole.Expr e)) (in_context (expr any_answers any_items e)) (any_items_plain_expr e) (any_items_lined_expr e)
held_written n (OfStmt s) h = ap (λ z. by_itself (any_items z)) h ∙ by_itself_same (any_items (whole.Stmt s)) (λ place. stmt any_answers any_items s) (any_items_stmt s (Whole Plain)) (λ max. any_items_stmt s (Whole (ByItself max)))
held_written n (OfLink m role) h = ap (λ z. by_itself (any_items z)) h.0 ∙ by_itself_same (any_items m) (λ place. any_items m (placed role place)) (ap (any_items m) (sym h.1)) (λ max. any_items_in_role m role max h.1)
held_written n (OfItem i) h = absurd h
held_written n (OfModule m) h = absurd h
held_written n (OfScript s) h = absurd h
held_written n (OfProgram p) h = absurd h

pub member_written : (n : AnyNode) (m : MemberExpr AnyNode) → n ≡ whole.MemberExpr m → by_itself (any_items n) ≡ by_itself (λ place. member any_items m)
unfolding member_at
member_written n m h = ap (λ z. by_itself (any_items z)) h ∙ by_itself_same (any_items (whole.MemberExpr m)) (λ place. member any_items m) (any_items_member_expr m (Whole Plain)) (λ max. any_items_member_expr m (Whole (ByItself max)))

pub assign_target_written : (n : AnyNode) (m : AssignTarget AnyNode) → n ≡ whole.ExprPart (expr_parts.AssignTarget m) → by_itself (any_items n) ≡ by_itself (λ place. assign_target any_answers any_items m)
unfolding expr_part
assign_target_written n m h =
    let part : ExprPart AnyNode = expr_parts.AssignTarget m in
    ap (λ z. by_itself (any_items z)) h ∙ by_itself_same (any_items (whole.ExprPart part)) (λ place. assign_target any_answers any_items m) (any_items_expr_part part (Whole Plain)) (λ max. any_items_expr_part part (Whole (ByItself max)))

-- ---- what it reads as

pub member_read : (n : AnyNode) (m : MemberExpr AnyNode) → n ≡ whole.MemberExpr m → phrase n MemberExpression ≡ member_expr phrase m
unfolding node_phrase
member_read n m h = ap (λ z. phrase z MemberExpression) h ∙ phrase_member_expr m MemberExpression

pub assign_target_read : (n : AnyNode) (m : AssignTarget AnyNode) → n ≡ whole.ExprPart (expr_parts.AssignTarget m) → phrase n AssignmentTarget ≡ target_lists.assign_target phrase m
unfolding node_phrase part_lists.expr_part
assign_target_read n m h = ap (λ z. phrase z AssignmentTarget) h ∙ phrase_expr_part (expr_parts.AssignTarget m) AssignmentTarget
