use Rattle.std.proofs.Common.{◌≡◌, length}
use denote.Text.{Utf8}
use denote.Shadow.{shadow}
use Rattle.std.specs.Str.{chars}
use Rattle.swc_ecma_codegen_validate.specs.Mantissas.{mantissa, zeros_after}
use Rattle.swc_ecma_codegen_validate.proofs.numbers.after_digits.Given as goal

abbrev pub invariant-loop-c : goal.invariant-loop-c
invariant-loop-c l = record {
  goes : zeros_after (chars l.digits) (mantissa (chars l.text)) ≡ zeros_after (chars l.left) (mantissa (chars l.rest));
  digits : shadow (Utf8 l.left);
  text : shadow (Utf8 l.rest);
}

abbrev pub decreases-loop-c : goal.decreases-loop-c
decreases-loop-c l = length (chars l.rest)
