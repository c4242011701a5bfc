use Rattle.std.proofs.Common.{length}
use Rattle.swc_ecma_codegen_grammar.proofs.numerals.+legacy.Given as goal

abbrev pub decreases-legacy : goal.decreases-legacy
decreases-legacy l = length l.text.now
