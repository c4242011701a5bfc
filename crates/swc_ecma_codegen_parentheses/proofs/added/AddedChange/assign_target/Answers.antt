use Rattle.swc_ecma_codegen_parentheses.specs.Whole.{changed, kept, assign_target}
use Rattle.swc_ecma_codegen_parentheses.proofs.Held.{found_or_kept}
use Rattle.swc_ecma_codegen_parentheses.proofs.added.AddedChange.assign_target.Goals as goal

pub returns : goal.returns
returns g c = found_or_kept _ c.args.usage (λ a b said. changed (assign_target c.context-context.result c.context-context.ensures said)) (λ a b same. changed (kept same)) c.in_ok-mend_linked_assign_target.field-0 c.args.link.now c.mend_linked_assign_target.new.link c.in_ok-mend_linked_assign_target.ensures
