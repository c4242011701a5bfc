use Rattle.std.proofs.Common.{subst, ap, ◌∙◌}
use Rattle.std.proofs.lemmas.Result.{IfOk-weaker}
use Rattle.swc_ecma_codegen_parentheses.specs.Bare.{bare_program}
use Rattle.swc_ecma_codegen_fix.specs.Mended.{HasFewest, IsMended}
use Rattle.swc_ecma_codegen_fix.proofs.fewest.Goals as goal

pub returns-in-Ok : goal.returns-in-Ok
returns-in-Ok c =
    let same = c.in-Ok.ensures.bare ∙ ap bare_program c.into_program.ensures in
    IfOk-weaker c.mended.result (λ r. IsMended c.args.any c.in-Ok.program r.0) (λ r. HasFewest c.args.any c.args.tree.0 r.0)
    (λ r mended. subst (λ p. IsMended c.args.any p r.0) same mended) c.mended.ensures.mended
