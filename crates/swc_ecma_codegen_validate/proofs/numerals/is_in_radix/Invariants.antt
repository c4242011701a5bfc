use Rattle.std.proofs.Common.{◌≡◌, length, true}
use denote.Text.{Utf8}
use denote.Shadow.{shadow}
use Rattle.std.specs.Str.{chars}
use Rattle.swc_ecma_codegen_grammar.specs.LitPhrases.{is_digit_of}
use Rattle.swc_ecma_codegen_grammar.specs.Numbers.{radix}
use Rattle.swc_ecma_codegen_validate.proofs.numerals.is_in_radix.Given as goal

abbrev pub invariant-loop-c : goal.invariant-loop-c
invariant-loop-c l = record {
  goes : radix (is_digit_of l.radix) true (chars l.text) ≡ radix (is_digit_of l.radix) l.due (chars l.rest);
  text : shadow (Utf8 l.rest);
}

abbrev pub decreases-loop-c : goal.decreases-loop-c
decreases-loop-c l = length (chars l.rest)
