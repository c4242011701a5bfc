use Rattle.std.proofs.Common.{subst}
use Rattle.std.specs.Option.{option_and_then}
use Rattle.swc_ecma_codegen_tree.specs.LinkTargets.{block_stmt_in}
use Rattle.swc_ecma_codegen_parentheses.specs.Enclosed.{blocked, blocks, unblocked}
use Rattle.swc_ecma_codegen_parentheses.proofs.enclosed.mend_stmt.Goals as goal

pub returns-in_ok-stmt : goal.returns-in_ok-stmt
returns-in_ok-stmt g c =
    blocked (c.takes_else-is_missing.ensures c.if-is_missing-2.true) c.mend.new.self c.in_ok-mend.ensures (subst (λ n. blocks (λ a. option_and_then block_stmt_in (g.N.Holds-3.node_in a)) g.N.Spanned.place n c.in_ok-stmt.field-0) c.replace-bare.ensures.value c.in_ok-stmt.ensures)

pub returns-else-is_missing-2 : goal.returns-else-is_missing-2
returns-else-is_missing-2 g c = unblocked c.in_ok-mend.ensures
