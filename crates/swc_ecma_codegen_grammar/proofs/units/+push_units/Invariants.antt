use Rattle.std.proofs.Common.{length}
use Rattle.swc_ecma_codegen_grammar.proofs.units.+push_units.Given as goal

abbrev pub decreases-push_units : goal.decreases-push_units
decreases-push_units l = length l.text.now
