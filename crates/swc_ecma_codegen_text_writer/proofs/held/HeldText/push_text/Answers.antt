use Rattle.std.proofs.Common.{string_bytes, ap, ◌∙◌, subst}
use Rattle.std.specs.Str.{IsUtf8}
use Rattle.swc_ecma_codegen_text_writer.specs.Notes.{segment_of}
use Rattle.swc_ecma_codegen_text_writer.proofs.Noting.{order-grown, boundaries-grown, segment-longer}
use Rattle.swc_ecma_codegen_text_writer.proofs.held.HeldText.push_text.Goals as goal

pub invariant_of-self : goal.invariant_of-self
invariant_of-self c =
    let whole : IsUtf8 (string_bytes c.args.self.now.text) = subst IsUtf8 c.as_str-before.ensures.value c.as_str-before.utf8 in
    record {
      in_order = order-grown _ (string_bytes c.push_str.new.self) (string_bytes c.args.self.now.text) c.args.text.now c.args.self.now.notes.items c.push_str.ensures.bytes c.args.self.now.in_order;
      cuts = boundaries-grown _ (string_bytes c.push_str.new.self) (string_bytes c.args.self.now.text) c.args.text.now c.args.self.now.notes.items c.push_str.ensures.bytes whole c.utf8.text c.args.self.now.cuts;
    }

pub returns-in-Ok-clause-ok : goal.returns-in-Ok-clause-ok
returns-in-Ok-clause-ok c =
    ap (λ z. segment_of z c.args.self.now.notes.items) c.in-Ok.ensures.bytes ∙ segment-longer (string_bytes c.args.self.now.text) c.args.text.now c.args.self.now.notes.items c.args.self.now.in_order
