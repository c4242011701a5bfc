use Rattle.std.proofs.Common.{subst}
use Rattle.std.specs.Option.{option_and_then}
use Rattle.swc_ecma_codegen_tree.specs.LinkTargets.{var_decl_in}
use Rattle.swc_ecma_codegen_parentheses.specs.Lent.{Lent}
use Rattle.swc_ecma_codegen_parentheses.specs.Operands.{within}
use Rattle.swc_ecma_codegen_parentheses.specs.SameDecls.{same_var_decl}
use Rattle.swc_ecma_codegen_parentheses.specs.declared.mends.Usage.TheVariants as usages
use Rattle.swc_ecma_codegen_parentheses.specs.Whole.{as_part, changed, kept, var_decl}
use Rattle.swc_ecma_codegen_parentheses.proofs.Held.{found_or_kept}
use Rattle.swc_ecma_codegen_parentheses.proofs.added.AddedChange.var_decl.Goals as goal

pub returns : goal.returns
returns g c = found_or_kept _ usages.Value (λ a b said. as_part (var_decl (subst (λ at. Lent (λ n. option_and_then var_decl_in (g.N.Holds-3.node_in n)) (same_var_decl (λ u. g.M.Mends.mended c.args.mender.now (within at u))) a b) c.declared_in_head-context.ensures said))) (λ a b same. changed (kept same)) c.in_ok-mend_linked_var_decl.field-0 c.args.link.now c.mend_linked_var_decl.new.link c.in_ok-mend_linked_var_decl.ensures
