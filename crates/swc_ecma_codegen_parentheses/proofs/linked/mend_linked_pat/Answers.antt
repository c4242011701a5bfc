use Rattle.swc_ecma_codegen_parentheses.proofs.linked.mend_linked_pat.Goals as goal

pub returns : goal.returns
returns g c = c.mend_linked.ensures
