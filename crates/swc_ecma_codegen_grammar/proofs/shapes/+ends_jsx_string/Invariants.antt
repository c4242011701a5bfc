use Rattle.std.proofs.Common.{length}
use Rattle.swc_ecma_codegen_grammar.proofs.shapes.+ends_jsx_string.Given as goal

abbrev pub decreases-ends_jsx_string : goal.decreases-ends_jsx_string
decreases-ends_jsx_string l = length l.text.now
