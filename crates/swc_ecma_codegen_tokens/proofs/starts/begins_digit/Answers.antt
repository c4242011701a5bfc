use Rattle.std.proofs.Common.{sym, ap, ◌∙◌}
use Rattle.swc_ecma_codegen_grammar.specs.Chars.{begins_digit, is_digit}
use Rattle.swc_ecma_codegen_tokens.proofs.starts.begins_digit.Goals as goal

pub returns-in-Some : goal.returns-in-Some
unfolding begins_digit is_digit
returns-in-Some c = c.is_ascii_digit.ensures.value ∙ sym (ap begins_digit c.in-Some.ensures)

pub returns-in-None : goal.returns-in-None
unfolding begins_digit
returns-in-None c = sym (ap begins_digit c.in-None.ensures)
