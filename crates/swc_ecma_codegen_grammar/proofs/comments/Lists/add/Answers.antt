use Rattle.swc_ecma_codegen_grammar.proofs.CommentMarks.{added_marked}
use Rattle.swc_ecma_codegen_grammar.proofs.comments.Lists.add.Goals as goal

pub invariant_of-self-2 : goal.invariant_of-self-2
invariant_of-self-2 c = record {
  marked = added_marked c.args.self.now.marks.items c.mark.new.marks.items _ _ c.args.pos.0 c.args.comment c.add.result
      c.args.self.now.marked c.mark.ensures.kept c.in_ok-mark.ensures.marked c.add.ensures.added c.add.ensures.unchanged;
}
