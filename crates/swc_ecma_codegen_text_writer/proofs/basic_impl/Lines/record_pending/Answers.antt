use Rattle.std.proofs.Common.{refl, sym, ap, ◌∙◌}
use Rattle.swc_ecma_codegen_text_writer.specs.Sheet.{recorded}
use Rattle.swc_ecma_codegen_text_writer.specs.View.{sheet_of, Reaches}
use Rattle.swc_ecma_codegen_text_writer.proofs.Stays.{stays_same}
use Rattle.swc_ecma_codegen_text_writer.proofs.Steps.{taken_sheet, none_pending, some_pending, pending_dropped, reaches_then, reaches_to}
use Rattle.swc_ecma_codegen_text_writer.proofs.basic_impl.Lines.record_pending.Goals as goal

pub record_taken-requires : goal.record_taken-requires
unfolding sheet_of
record_taken-requires g c = c.requires

pub returns-in-None : goal.returns-in-None
unfolding sheet_of Reaches
returns-in-None g c =
    taken_sheet (sheet_of c.args.self.now) _ _ _ _ c.take_pending.ensures.keeps c.take_pending.ensures.keeps c.take_pending.ensures.pairs c.take_pending.ensures.pending
    ∙ none_pending (sheet_of c.args.self.now) (sym c.take_pending.ensures.result ∙ c.in-None.is)

pub returns-in-Some : goal.returns-in-Some
unfolding sheet_of
returns-in-Some g c =
    let s = sheet_of c.args.self.now in
    reaches_then _ s _ _ _ _
    (taken_sheet s _ _ _ _ c.take_pending.ensures.keeps c.take_pending.ensures.keeps c.take_pending.ensures.pairs c.take_pending.ensures.pending)
    (pending_dropped s) (stays_same _ _ refl refl)
    (λ e. reaches_to _ _ _ _ _ (ap (recorded c.in-Some.pos) e ∙ some_pending c.in-Some.pos s (sym c.take_pending.ensures.result ∙ c.in-Some.is)) c.record_taken.ensures)
