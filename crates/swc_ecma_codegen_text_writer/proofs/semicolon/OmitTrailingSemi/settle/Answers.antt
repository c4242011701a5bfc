use Rattle.std.proofs.lemmas.Result.{err_from_is_err_and}
use Rattle.swc_ecma_codegen_text_writer.proofs.Semicolons.{settles_none, settles_one, settles_err}
use Rattle.swc_ecma_codegen_text_writer.proofs.semicolon.OmitTrailingSemi.settle.Goals as goal

pub returns-in_err-write_held-clause-settles : goal.returns-in_err-write_held-clause-settles
returns-in_err-write_held-clause-settles g c =
    let p = err_from_is_err_and c.from_residual.result c.from_residual.ensures.1 in
    rw (p.1, p.2, c.write_held.ensures.same, c.in-Some.is) (settles_err _ _ _ c.in_err-write_held.ensures.err)

pub returns-in_ok-write_held-clause-settles : goal.returns-in_ok-write_held-clause-settles
returns-in_ok-write_held-clause-settles g c = rw c.in-Some.is (settles_one _ _ c.in_ok-write_held.ensures.ok)

pub returns-in_default-clause-settles : goal.returns-in_default-clause-settles
returns-in_default-clause-settles g c = rw c.in_default.is (settles_none _)
