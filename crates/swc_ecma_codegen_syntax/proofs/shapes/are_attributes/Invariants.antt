use Rattle.std.proofs.Common.{◌≡◌, drop}
use Rattle.swc_ecma_codegen_syntax.specs.Shapes.{are_attributes}
use Rattle.swc_ecma_codegen_syntax.specs.Summary.{shape_in}
use Rattle.swc_ecma_codegen_syntax.proofs.shapes.are_attributes.Given as goal

abbrev pub invariant-loop-entry : goal.invariant-loop-entry
invariant-loop-entry g l =
    are_attributes (shape_in g.N.Answers.answers) l.entries ≡ are_attributes (shape_in g.N.Answers.answers) (drop l.entry-index l.entries)
