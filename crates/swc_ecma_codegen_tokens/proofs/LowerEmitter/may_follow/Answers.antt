use Rattle.std.proofs.Common.{sym}
use Rattle.std.specs.Str.{chars}
use Rattle.swc_ecma_codegen_tokens.proofs.LowerEmitter.may_follow.Goals as goal

-- behind such a token no blank is due before any text
pub returns-then-may_go_on_anyhow-clause-passes : goal.returns-then-may_go_on_anyhow-clause-passes
returns-then-may_go_on_anyhow-clause-passes c = λ r. c.may_go_on_anyhow.ensures.passes (chars c.args.text.now) c.if-may_go_on_anyhow.true

-- none is due before this one
pub returns-clause-passes : goal.returns-clause-passes
returns-clause-passes c = λ r. c.may_go_on.ensures.passes (chars c.args.text.now) r (sym c.of_text.ensures)
