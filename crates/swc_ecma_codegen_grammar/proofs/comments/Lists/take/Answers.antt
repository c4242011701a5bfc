use Rattle.std.proofs.Common.{◌∙◌, sym}
use Rattle.swc_ecma_codegen_grammar.proofs.CommentMarks.{without_marked, without_none}
use Rattle.swc_ecma_codegen_grammar.proofs.comments.Lists.take.Goals as goal

pub returns-then-not-is_marked-clause-removed : goal.returns-then-not-is_marked-clause-removed
returns-then-not-is_marked-clause-removed c = without_none c.args.pos.0 _ (c.args.self.now.marked c.args.pos.0 (sym c.is_marked.ensures ∙ c.if-not-is_marked.true))

pub invariant_of-self : goal.invariant_of-self
invariant_of-self c = record { marked = without_marked c.args.self.now.marks.items _ _ c.args.pos.0 c.args.self.now.marked c.take.ensures.removed }
