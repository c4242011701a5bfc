use Rattle.std.proofs.Common.{refl, sym, subst, ◌∙◌}
use Rattle.swc_ecma_codegen_text_writer.specs.Sheet.{released}
use Rattle.swc_ecma_codegen_text_writer.specs.Columns.{Stands}
use Rattle.swc_ecma_codegen_text_writer.specs.Reach.{Shows}
use Rattle.swc_ecma_codegen_text_writer.specs.View.{sheet_of, Reaches, HasReason}
use Rattle.swc_ecma_codegen_text_writer.proofs.Room.{writer_not_memory}
use Rattle.swc_ecma_codegen_text_writer.proofs.Sheets.{front_refl}
use Rattle.swc_ecma_codegen_text_writer.proofs.Steps.{sent_sheet, place_on, place_since}
use Rattle.swc_ecma_codegen_text_writer.proofs.basic_impl.Lines.sends_array.Goals as goal

pub returns-in-Ok : goal.returns-in-Ok
unfolding sheet_of Reaches
returns-in-Ok g c =
    sent_sheet c.args.text.now (sheet_of c.args.self.now) _ _ _ _ _ _ _ _ c.in-Ok.ensures.bytes c.in-Ok.ensures.whole c.in-Ok.ensures.faults (place_on _ _ _ c.in-Ok.ensures.logged) c.pass_known.ensures.keeps c.pass_known.ensures.keeps c.pass_known.ensures.pairs c.pass_known.ensures.pending

pub returns-in-Err : goal.returns-in-Err
unfolding sheet_of Reaches HasReason released
returns-in-Err g c = record {
  reason = c.in-Err.ensures.counted;
  grows = c.in-Err.ensures.grows;
  front = c.in-Err.ensures.front;
  place = place_since c.args.self.now.outlet c.write_array.new.self c.in-Err.ensures.before c.in-Err.ensures.grows;
  more_pairs = front_refl _;
  front_pairs = front_refl _;
  room = λ q. writer_not_memory q;
  same = refl;
}

-- the place is that after what went out before and the text
pub invariant_of-self-clause-counted : goal.invariant_of-self-clause-counted
invariant_of-self-clause-counted g c = λ f e. subst (λ z. Shows (g.K.KeepsPositions.reached c.pass_known.new.self) z) (sym (place_on _ _ _ c.in-Ok.ensures.logged)) (c.pass_known.ensures.counted _ (c.args.self.now.counted f) e)

pub invariant_of-self-clause-shown : goal.invariant_of-self-clause-shown
invariant_of-self-clause-shown g c = λ f. subst (λ z. Stands c.pass_known-in-Ok.new.self.units z) (sym (place_on _ _ _ c.in-Ok.ensures.logged)) (c.pass_known-in-Ok.ensures _ (c.args.self.now.shown f))
