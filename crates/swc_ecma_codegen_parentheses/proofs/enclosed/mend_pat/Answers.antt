use Rattle.std.proofs.Common.{subst}
use Rattle.std.proofs.lemmas.Result.{on_ok_weaker}
use Rattle.swc_ecma_codegen_parentheses.specs.Enclosed.{enclosed_name, encloses_name, unenclosed}
use Rattle.swc_ecma_codegen_parentheses.proofs.enclosed.mend_pat.Goals as goal

pub returns-in_ok-pat : goal.returns-in_ok-pat
returns-in_ok-pat g c =
    enclosed_name (c.is_barred_name.ensures c.if-is_barred_name.true) (subst (λ n. encloses_name g.N.Holds-1.node_in n c.in_ok-pat.field-0) c.replace-bare.ensures.value c.in_ok-pat.ensures)

pub returns-else-is_barred_name : goal.returns-else-is_barred_name
returns-else-is_barred_name g c = on_ok_weaker c.mend.result (λ same. unenclosed same) c.mend.ensures
