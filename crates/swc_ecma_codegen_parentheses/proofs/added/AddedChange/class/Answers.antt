use Rattle.swc_ecma_codegen_parentheses.specs.declared.mends.Usage.TheVariants as usages
use Rattle.swc_ecma_codegen_parentheses.specs.Whole.{as_part, changed, kept, class}
use Rattle.swc_ecma_codegen_parentheses.proofs.Held.{found_or_kept}
use Rattle.swc_ecma_codegen_parentheses.proofs.added.AddedChange.class.Goals as goal

pub returns : goal.returns
returns g c = found_or_kept _ usages.Value (λ a b said. as_part (class said)) (λ a b same. changed (kept same)) c.in_ok-mend_linked_class.field-0 c.args.link.now c.mend_linked_class.new.link c.in_ok-mend_linked_class.ensures
