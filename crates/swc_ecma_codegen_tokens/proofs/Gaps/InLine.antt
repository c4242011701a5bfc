-- Punctuators stay in their line.
use Rattle.std.proofs.Common.{◌≡◌, true, rules as all}
use Rattle.swc_ecma_codegen_literals.specs.Punctuators.{spelling}
use Rattle.swc_ecma_codegen_literals.specs.declared.punctuators.Punctuator.{Punctuator}
use Rattle.swc_ecma_codegen_text_writer.specs.Reach.{is_in_line, is_one_column}
use Rattle.swc_ecma_codegen_tokens.specs.Between.{in_blanks}

pub mark_in_line : (p : Punctuator) → is_in_line (spelling p) ≡ true
unfolding is_one_column
mark_in_line p = search all

pub in_blanks_in_line : (p : Punctuator) → is_in_line (in_blanks (spelling p)) ≡ true
unfolding is_one_column
in_blanks_in_line p = search all
