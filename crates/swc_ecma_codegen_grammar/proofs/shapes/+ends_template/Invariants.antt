use Rattle.std.proofs.Common.{length}
use Rattle.swc_ecma_codegen_grammar.proofs.shapes.+ends_template.Given as goal

abbrev pub decreases-ends_template : goal.decreases-ends_template
decreases-ends_template l = length l.text.now
