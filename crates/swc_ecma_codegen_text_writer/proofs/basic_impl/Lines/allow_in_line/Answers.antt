use Rattle.std.proofs.Common.{refl, sym, subst, ap}
use Rattle.swc_ecma_codegen_text_writer.specs.InPlace.{GoesInLine}
use Rattle.swc_ecma_codegen_text_writer.specs.Sheet.{Sheet, line_ended}
use Rattle.swc_ecma_codegen_text_writer.specs.View.{sheet_of}
use Rattle.swc_ecma_codegen_text_writer.proofs.InPlace.{allowed_in_line, in_line_goes}
use Rattle.swc_ecma_codegen_text_writer.proofs.Steps.{reaches_to}
use Rattle.swc_ecma_codegen_text_writer.proofs.basic_impl.Lines.allow_in_line.Goals as goal

pub allow_in_next_line-requires-clause-goes : goal.allow_in_next_line-requires-clause-goes
allow_in_next_line-requires-clause-goes g c = subst (λ b. GoesInLine b c.args.self.now.held (sheet_of c.args.self.now)) c.if-due.true c.requires.goes

pub release_in_place-requires-clause-goes : goal.release_in_place-requires-clause-goes
release_in_place-requires-clause-goes g c = in_line_goes c.args.due c.args.self.now.held (sheet_of c.args.self.now) c.requires.goes

pub returns : goal.returns
unfolding line_ended sheet_of
returns g c =
    let s : Sheet = sheet_of c.args.self.now in
    reaches_to _ _ _ _ _ (allowed_in_line c.args.due c.args.self.now.held s s refl c.requires.goes (sym (ap (λ b. line_ended b s) c.if-due.false))) c.release_in_place.ensures
