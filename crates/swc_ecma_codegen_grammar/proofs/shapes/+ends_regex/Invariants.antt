use Rattle.std.proofs.Common.{length}
use Rattle.swc_ecma_codegen_grammar.proofs.shapes.+ends_regex.Given as goal

abbrev pub decreases-ends_regex : goal.decreases-ends_regex
decreases-ends_regex l = length l.text.now
