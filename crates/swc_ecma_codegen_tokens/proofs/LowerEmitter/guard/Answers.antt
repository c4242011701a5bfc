use Rattle.std.specs.Str.{chars}
use Rattle.swc_ecma_codegen_tokens.proofs.Emission.Calls.{passed}
use Rattle.swc_ecma_codegen_tokens.proofs.LowerEmitter.guard.Goals as goal

pub returns-then-may_go_on-clause-items : goal.returns-then-may_go_on-clause-items
returns-then-may_go_on-clause-items g c = passed c.args.text.now _ (c.may_go_on.ensures.unfailed c.if-may_go_on.true) (c.may_go_on.ensures.passes (chars c.args.text.now) c.if-may_go_on.true c.requires)

pub put_blank-requires-clause-due : goal.put_blank-requires-clause-due
put_blank-requires-clause-due g c = c.may_go_on.ensures.due (chars c.args.text.now) c.if-may_go_on.false c.if-self.false c.requires
