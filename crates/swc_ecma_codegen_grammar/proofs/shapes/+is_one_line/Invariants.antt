use Rattle.std.proofs.Common.{length}
use Rattle.swc_ecma_codegen_grammar.proofs.shapes.+is_one_line.Given as goal

abbrev pub decreases-is_one_line : goal.decreases-is_one_line
decreases-is_one_line l = length l.text.now
