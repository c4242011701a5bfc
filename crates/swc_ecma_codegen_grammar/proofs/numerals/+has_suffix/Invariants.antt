use Rattle.std.proofs.Common.{length}
use Rattle.swc_ecma_codegen_grammar.proofs.numerals.+has_suffix.Given as goal

abbrev pub decreases-has_suffix : goal.decreases-has_suffix
decreases-has_suffix l = length l.text.now
