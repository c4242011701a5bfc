use Rattle.std.proofs.Common.{◌∙◌, ap, sym}
use Rattle.swc_ecma_codegen_grammar.specs.Comments.{maps_in}
use Rattle.swc_ecma_codegen_requests.proofs.MapsIn as own
use Rattle.swc_ecma_codegen_requests.proofs.emissions.all_of.Goals as goal

pub returns-in-None : goal.returns-in-None
unfolding maps_in
returns-in-None c = own.is_empty c.new.result c.new.ensures.leading c.new.ensures.trailing ∙ ap (maps_in own.maps_in) (sym c.in-None.is)
