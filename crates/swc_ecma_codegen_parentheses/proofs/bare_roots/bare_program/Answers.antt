use Rattle.std.proofs.lemmas.Result.{on_ok_weaker}
use Rattle.swc_ecma_codegen_parentheses.proofs.BareRoots.{program_bare}
use Rattle.swc_ecma_codegen_parentheses.proofs.bare_roots.bare_program.Goals as goal

pub returns : goal.returns
returns c = on_ok_weaker c.open_program.result (λ is. program_bare _ _ _ _ c.in_ok-depth.ensures c.in_ok-change_links.ensures is) c.open_program.ensures
