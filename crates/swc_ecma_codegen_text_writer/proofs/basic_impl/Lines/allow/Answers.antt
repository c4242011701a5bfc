use Rattle.std.proofs.Common.{refl}
use Rattle.swc_ecma_codegen_text_writer.specs.Sheet.{Sheet, AllowBreak}
use Rattle.swc_ecma_codegen_text_writer.specs.View.{sheet_of}
use Rattle.swc_ecma_codegen_text_writer.proofs.Flushes.{allowed_effect}
use Rattle.swc_ecma_codegen_text_writer.proofs.Steps.{writes_failed, writes_way}
use Rattle.swc_ecma_codegen_text_writer.proofs.basic_impl.Lines.allow.Goals as goal

pub returns-then-self : goal.returns-then-self
unfolding sheet_of
returns-then-self g c = writes_failed AllowBreak _ c.if-self.true

pub goes_in_line-requires : goal.goes_in_line-requires
unfolding sheet_of
goes_in_line-requires g c = c.if-self.false

pub allow_any-requires : goal.allow_any-requires
unfolding sheet_of
allow_any-requires g c = c.if-self.false

pub allow_in_line-requires-clause-fresh : goal.allow_in_line-requires-clause-fresh
unfolding sheet_of
allow_in_line-requires-clause-fresh g c = c.if-self.false

pub returns-in-Some : goal.returns-in-Some
unfolding sheet_of
returns-in-Some g c =
    let s : Sheet = sheet_of c.args.self.now in
    writes_way AllowBreak _ s _ _ (allowed_effect s refl) refl refl c.if-self.false c.allow_in_line.ensures
