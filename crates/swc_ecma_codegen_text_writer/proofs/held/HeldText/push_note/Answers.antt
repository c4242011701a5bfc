use Rattle.std.proofs.Common.{◌≡◌, length, string_bytes, ap, ◌∙◌}
use Rattle.swc_ecma_codegen_text_writer.specs.declared.held.Note.{Note}
use Rattle.swc_ecma_codegen_text_writer.specs.Notes.{segment_of}
use Rattle.swc_ecma_codegen_text_writer.proofs.Noting.{order-pushed, boundaries-pushed, segment-noted}
use Rattle.swc_ecma_codegen_text_writer.proofs.held.HeldText.push_note.Goals as goal

pub invariant_of-self : goal.invariant_of-self
invariant_of-self c =
    let n : Note = record { offset = length c.as_bytes-bytes.result.now; pos = c.args.pos } in
    let at : length c.as_bytes-bytes.result.now ≡ length (string_bytes c.args.self.now.text) = ap length c.as_bytes-bytes.ensures.value in
    record {
      in_order = order-pushed _ c.push.new.self.items c.args.self.now.notes.items n (length (string_bytes c.args.self.now.text)) c.push.ensures.items at c.args.self.now.in_order;
      cuts = boundaries-pushed _ c.push.new.self.items c.args.self.now.notes.items n (string_bytes c.args.self.now.text) c.push.ensures.items at c.args.self.now.cuts;
    }

pub returns-in-Ok-clause-ok : goal.returns-in-Ok-clause-ok
returns-in-Ok-clause-ok c =
    let n : Note = record { offset = length c.as_bytes-bytes.result.now; pos = c.args.pos } in
    let at : length c.as_bytes-bytes.result.now ≡ length (string_bytes c.args.self.now.text) = ap length c.as_bytes-bytes.ensures.value in
    ap (segment_of (string_bytes c.args.self.now.text)) c.in-Ok.ensures.items ∙ segment-noted (string_bytes c.args.self.now.text) c.args.self.now.notes.items n at
