use Rattle.std.proofs.Common.{true, [], inr, refl}
use Rattle.swc_ecma_codegen_text_writer.specs.Sheet.{noted}
use Rattle.swc_ecma_codegen_text_writer.specs.View.{sheet_of, Reaches}
use Rattle.swc_ecma_codegen_text_writer.proofs.Sheets.{noted_alike}
use Rattle.swc_ecma_codegen_text_writer.proofs.Steps.{recorded_sheet, refused_here, refused_pairs, refused_reason, refused_room}
use Rattle.swc_ecma_codegen_text_writer.proofs.basic_impl.Lines.note.Goals as goal

pub returns-in-Ok : goal.returns-in-Ok
unfolding sheet_of Reaches
returns-in-Ok g c =
    recorded_sheet c.args.pos (sheet_of c.args.self.now) _ c.in-Ok.field-0 _ _ _
    (c.in-Ok.ensures.pairs _ (c.args.self.now.counted c.requires.fresh)) c.requires.keeps c.in-Ok.ensures.keeps c.in-Ok.ensures.keeps c.in-Ok.ensures.pending

pub returns-in-Err : goal.returns-in-Err
unfolding sheet_of Reaches
returns-in-Err g c =
    let old = sheet_of c.args.self.now in
    let refused = c.in-Err.ensures.pairs _ (c.args.self.now.counted c.requires.fresh) in
    refused_here c.in-Err.refusal (noted c.args.pos old) old _ old.lines
    (λ i. record old { refused = true; keeps_positions = c.in-Err.ensures.keeps i; takes_memory = c.in-Err.ensures.keeps i; pairs = refused_pairs c.args.pos _ _ _ _ c.in-Err.refusal refused i; pending = c.in-Err.ensures.pending i })
    (noted_alike c.args.pos old)
    (refused_reason c.args.pos _ _ _ c.in-Err.refusal old _ refused refl refl)
    (λ q. inr (c.args.pos, [], refused_room c.args.pos _ c.in-Err.refusal old _ refused q))
