use Rattle.std.proofs.lemmas.Result.{err_from_is_err_and}
use Rattle.swc_ecma_codegen_text_writer.proofs.Semicolons.{kept, held_plain, held_err, broken_ok, broken_not}
use Rattle.swc_ecma_codegen_text_writer.proofs.semicolon.OmitTrailingSemi.write_held.Goals as goal

pub invariant_of-self : goal.invariant_of-self
invariant_of-self g c = record { at_once = kept _ _ _ _ c.args.self.now.at_once c.write_semi.ensures }

pub returns-in_err-write_semi-clause-err : goal.returns-in_err-write_semi-clause-err
returns-in_err-write_semi-clause-err g c =
    let p = err_from_is_err_and c.from_residual.result c.from_residual.ensures.1 in
    rw (p.1, p.2) (held_err c.args.semi _ _ _ c.args.self.now.at_once c.in_err-write_semi.ensures)

pub invariant_of-self-then-semi : goal.invariant_of-self-then-semi
invariant_of-self-then-semi g c = record { at_once = kept _ _ _ _ (kept _ _ _ _ c.args.self.now.at_once c.write_semi.ensures) c.allow_break.ensures }

pub returns-then-semi-clause-ok : goal.returns-then-semi-clause-ok
returns-then-semi-clause-ok g c = broken_ok c.args.semi _ _ _ _ _ c.if-semi.true c.args.self.now.at_once c.in_ok-write_semi.ensures c.allow_break.ensures

pub returns-then-semi-clause-err : goal.returns-then-semi-clause-err
returns-then-semi-clause-err g c = broken_not c.args.semi _ _ _ _ _ c.if-semi.true c.args.self.now.at_once c.in_ok-write_semi.ensures c.allow_break.ensures

pub invariant_of-self-else-semi : goal.invariant_of-self-else-semi
invariant_of-self-else-semi g c = record { at_once = kept _ _ _ _ c.args.self.now.at_once c.write_semi.ensures }

pub returns-clause-ok : goal.returns-clause-ok
returns-clause-ok g c = held_plain c.args.semi _ _ _ c.if-semi.false c.args.self.now.at_once c.in_ok-write_semi.ensures
