use Rattle.swc_ecma_codegen_parentheses.specs.declared.mends.Usage.TheVariants as usages
use Rattle.swc_ecma_codegen_parentheses.specs.Whole.{as_part, changed, kept, jsx_fragment}
use Rattle.swc_ecma_codegen_parentheses.proofs.Held.{found_or_kept}
use Rattle.swc_ecma_codegen_parentheses.proofs.added.AddedChange.jsx_fragment.Goals as goal

pub returns : goal.returns
returns g c = found_or_kept _ usages.Value (λ a b said. as_part (jsx_fragment said)) (λ a b same. changed (kept same)) c.in_ok-mend_linked_jsx_fragment.field-0 c.args.link.now c.mend_linked_jsx_fragment.new.link c.in_ok-mend_linked_jsx_fragment.ensures
