use Rattle.std.proofs.Common.{length}
use Rattle.swc_ecma_codegen_grammar.proofs.shapes.+all_tag.Given as goal

abbrev pub decreases-all_tag : goal.decreases-all_tag
decreases-all_tag l = length l.text.now
