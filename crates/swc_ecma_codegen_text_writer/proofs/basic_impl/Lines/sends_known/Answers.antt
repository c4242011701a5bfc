use Rattle.std.proofs.Common.{ap, sym}
use Rattle.swc_ecma_codegen_text_writer.specs.Held.{flow_of}
use Rattle.swc_ecma_codegen_text_writer.specs.View.{sheet_of}
use Rattle.swc_ecma_codegen_text_writer.proofs.Steps.{appended_flowing, reaches_to}
use Rattle.swc_ecma_codegen_text_writer.proofs.basic_impl.Lines.sends_known.Goals as goal

pub sends_array-requires-clause-fresh : goal.sends_array-requires-clause-fresh
unfolding sheet_of
sends_array-requires-clause-fresh g c = c.args.self.now.plain_fresh c.requires.plain

pub returns-then-sends_array : goal.returns-then-sends_array
unfolding sheet_of
returns-then-sends_array g c = reaches_to _ _ _ _ _ (sym (appended_flowing c.args.text.now (sheet_of c.args.self.now) (ap flow_of (c.args.self.now.plain_flowing c.requires.plain)))) c.if-sends_array.ensures

pub returns : goal.returns
unfolding sheet_of
returns g c = reaches_to _ _ _ _ _ (sym (appended_flowing c.args.text.now (sheet_of c.args.self.now) (ap flow_of (c.args.self.now.plain_flowing c.requires.plain)))) c.if-sends_array.ensures
