use Rattle.swc_ecma_codegen_literals.proofs.InlineMarks.{after_mark}
use Rattle.swc_ecma_codegen_literals.proofs.scripts.marked.Goals as goal

pub range_from-rest-requires : goal.range_from-rest-requires
range_from-rest-requires c = λ _. after_mark _ _ c.in-Some.at c.as_bytes.ensures.value c.loop-at.invariant.0 c.in-Some.ensures.place c.in-Some.ensures.ascii
