use Rattle.std.proofs.Common.{◌≡◌, length, false}
use denote.Text.{Utf8}
use denote.Shadow.{shadow}
use Rattle.std.specs.Str.{chars}
use Rattle.swc_ecma_codegen_validate.specs.RegexStates.{goes_on}
use Rattle.swc_ecma_codegen_validate.proofs.regexes.is_closed.Given as goal

abbrev pub invariant-loop-c : goal.invariant-loop-c
invariant-loop-c l = record {
  goes : goes_on (record { inside = false; escaped = false }) (chars l.body) ≡ goes_on l.state (chars l.rest);
  text : shadow (Utf8 l.rest);
}

abbrev pub decreases-loop-c : goal.decreases-loop-c
decreases-loop-c l = length (chars l.rest)
