use Rattle.swc_ecma_codegen_parentheses.specs.Whole.{as_part, changed, kept, opt_call}
use Rattle.swc_ecma_codegen_parentheses.proofs.Held.{found_or_kept}
use Rattle.swc_ecma_codegen_parentheses.proofs.added.AddedChange.opt_call.Goals as goal

pub returns : goal.returns
returns g c = found_or_kept _ c.args.usage (λ a b said. as_part (opt_call c.context-context.result c.context-context.ensures said)) (λ a b same. changed (kept same)) c.in_ok-mend_linked_opt_call.field-0 c.args.link.now c.mend_linked_opt_call.new.link c.in_ok-mend_linked_opt_call.ensures
