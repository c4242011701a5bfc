use Rattle.std.proofs.Common.{◌≡◌, length}
use denote.Text.{Utf8}
use denote.Shadow.{shadow}
use Rattle.std.specs.Str.{chars}
use Rattle.swc_ecma_codegen_grammar.specs.Numbers.{has_suffix}
use Rattle.swc_ecma_codegen_validate.specs.Suffixes.{ends_with_n}
use Rattle.swc_ecma_codegen_validate.proofs.numerals.has_suffix.Given as goal

abbrev pub invariant-loop-c : goal.invariant-loop-c
invariant-loop-c l = record {
  goes : has_suffix (chars l.text) ≡ ends_with_n l.last (chars l.rest);
  text : shadow (Utf8 l.rest);
}

abbrev pub decreases-loop-c : goal.decreases-loop-c
decreases-loop-c l = length (chars l.rest)
