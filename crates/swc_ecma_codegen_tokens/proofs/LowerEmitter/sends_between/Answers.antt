use Rattle.std.proofs.Common.{◌∙◌, ap}
use Rattle.swc_ecma_codegen_text_writer.specs.Reach.{is_in_line}
use Rattle.swc_ecma_codegen_tokens.proofs.Gaps.InLine.{in_blanks_in_line}
use Rattle.swc_ecma_codegen_tokens.proofs.LowerEmitter.sends_between.Goals as goal

pub writes_in_line-requires-clause-in_line : goal.writes_in_line-requires-clause-in_line
writes_in_line-requires-clause-in_line g c = ap is_in_line c.in_blanks.ensures ∙ in_blanks_in_line c.args.mark
