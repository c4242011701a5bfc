use Rattle.std.proofs.Common.{refl, Ok, Some, None, [], false}
use Rattle.swc_ecma_codegen_grammar.specs.CommentMaps.{listed}
use Rattle.swc_ecma_codegen_tokens.proofs.Commenting.CommentSteps.{taking_failed, end_nowhere, end_from, end_without, none_written}
use Rattle.swc_ecma_codegen_tokens.proofs.LowerEmitter.end_taken.Goals as goal

pub returns-then-self-clause-items : goal.returns-then-self-clause-items
returns-then-self-clause-items g c = taking_failed _ _ _ c.if-self.true

pub returns-then-pos-eq0-clause-items : goal.returns-then-pos-eq0-clause-items
returns-then-pos-eq0-clause-items g c = end_nowhere c.args.pos _ _ c.if-pos-eq0.true

pub returns-in-None-clause-items : goal.returns-in-None-clause-items
returns-in-None-clause-items g c = end_without _ _ c.args.pos _ c.in-None.is c.if-pos-eq0.false c.if-self.false

pub returns-in-None-take_leading-clause-items : goal.returns-in-None-take_leading-clause-items
unfolding listed
returns-in-None-take_leading-clause-items g c = end_from _ _ c.in-Some.all _ c.args.pos [] None _ _ (Ok tt) c.in-Some.is c.if-pos-eq0.false c.if-self.false c.in-None-take_leading.ensures.taken c.in-None-take_leading.ensures.removed refl (none_written false _)

pub returns-in-Some-take_leading-clause-items : goal.returns-in-Some-take_leading-clause-items
unfolding listed
returns-in-Some-take_leading-clause-items g c = end_from _ _ c.in-Some.all _ c.args.pos _ (Some c.in-Some-take_leading.list.items) _ _ _ c.in-Some.is c.if-pos-eq0.false c.if-self.false c.in-Some-take_leading.ensures.taken c.in-Some-take_leading.ensures.removed c.deref.ensures.value c.comments.ensures.items
