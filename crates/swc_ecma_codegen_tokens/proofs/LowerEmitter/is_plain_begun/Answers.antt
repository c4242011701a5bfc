use Rattle.std.proofs.Common.{◌&&◌, not, sym, ◌∙◌, ap}
use Rattle.std.specs.Str.{chars}
use Rattle.swc_ecma_codegen_literals.specs.AsciiNames.{is_ascii_text}
use Rattle.swc_ecma_codegen_literals.specs.ValidNames.{has_byte}
use Rattle.swc_ecma_codegen_text_writer.specs.Reach.{is_in_line}
use Rattle.swc_ecma_codegen_text_writer.specs.Sheet.{Sheet}
use Rattle.swc_ecma_codegen_tokens.specs.Targets.{wants_escapes}
use Rattle.swc_ecma_codegen_tokens.proofs.Gaps.Starting.{name_start}
use Rattle.swc_ecma_codegen_tokens.proofs.LowerEmitter.is_plain_begun.Goals as goal

pub returns-clause-plain : goal.returns-clause-plain
unfolding wants_escapes
returns-clause-plain g c = λ yes. record {
  unfailed = c.may_go_on.ensures.unfailed c.if-not-may_go_on.false;
  passes = c.may_go_on.ensures.passes (chars c.args.sym.now) c.if-not-may_go_on.false (name_start c.args.sym.now c.requires);
  in_line = ap is_in_line (sym c.as_bytes-2.ensures.value) ∙ sym c.is_in_line.ensures ∙ yes;
  unescaped = ap (has_byte 92) (sym c.as_bytes.ensures.value) ∙ c.if-not-is_short_without_backslash.ensures;
  as_it_is = ap (λ b. b && not (is_ascii_text c.args.sym.now)) c.if-cfg.false;
  valid = ap (λ (s : Sheet). s.keeps_invalid) c.can_ignore_invalid_unicodes.ensures.same ∙ sym c.can_ignore_invalid_unicodes.ensures.answer ∙ c.if-can_ignore_invalid_unicodes.false;
}
