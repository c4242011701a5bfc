use Rattle.swc_ecma_codegen_parentheses.specs.Whole.{as_part, changed, kept, member_expr}
use Rattle.swc_ecma_codegen_parentheses.proofs.Held.{found_or_kept}
use Rattle.swc_ecma_codegen_parentheses.proofs.added.AddedChange.member_expr.Goals as goal

pub returns : goal.returns
returns g c = found_or_kept _ c.args.usage (λ a b said. as_part (member_expr c.context-context.result c.context-context.ensures said)) (λ a b same. changed (kept same)) c.in_ok-mend_linked_member_expr.field-0 c.args.link.now c.mend_linked_member_expr.new.link c.in_ok-mend_linked_member_expr.ensures
