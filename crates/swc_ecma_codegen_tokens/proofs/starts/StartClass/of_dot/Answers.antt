use Rattle.std.proofs.Common.{◌∙◌, sym, true, false}
use Rattle.swc_ecma_codegen_tokens.proofs.Gaps.Starting.{dot_class}
use Rattle.swc_ecma_codegen_tokens.proofs.starts.StartClass.of_dot.Goals as goal

pub returns-then-begins_digit : goal.returns-then-begins_digit
returns-then-begins_digit c = sym (dot_class _ true (sym c.begins_digit.ensures ∙ c.if-begins_digit.true))

pub returns-else-begins_digit : goal.returns-else-begins_digit
returns-else-begins_digit c = sym (dot_class _ false (sym c.begins_digit.ensures ∙ c.if-begins_digit.false))
