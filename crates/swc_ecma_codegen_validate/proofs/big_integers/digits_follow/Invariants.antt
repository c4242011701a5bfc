use Rattle.std.proofs.Common.{◌≡◌, length, true}
use denote.Text.{Utf8}
use denote.Shadow.{shadow}
use Rattle.std.specs.Str.{chars}
use Rattle.swc_ecma_codegen_validate.specs.BigDigits.{follow}
use Rattle.swc_ecma_codegen_validate.proofs.big_integers.digits_follow.Given as goal

abbrev pub invariant-loop-c : goal.invariant-loop-c
invariant-loop-c l = record {
  goes : follow l.radix true (chars l.text) (chars l.digits) ≡ follow l.radix l.due (chars l.rest) (chars l.left);
  text : shadow (Utf8 l.rest);
  digits : shadow (Utf8 l.left);
}

abbrev pub decreases-loop-c : goal.decreases-loop-c
decreases-loop-c l = length (chars l.rest)
