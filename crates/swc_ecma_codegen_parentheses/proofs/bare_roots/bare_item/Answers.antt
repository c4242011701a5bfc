use Rattle.std.proofs.lemmas.Result.{on_ok_weaker}
use Rattle.swc_ecma_codegen_parentheses.proofs.BareRoots.{item_bare}
use Rattle.swc_ecma_codegen_parentheses.proofs.bare_roots.bare_item.Goals as goal

pub returns : goal.returns
returns c = on_ok_weaker c.open_links.result (λ is. item_bare _ _ _ _ c.in_ok-depth.ensures c.in_ok-change_links.ensures is) c.open_links.ensures
