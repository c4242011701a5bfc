use Rattle.std.proofs.Common.{◌≡◌, length}
use denote.Text.{Utf8}
use denote.Shadow.{shadow}
use Rattle.std.specs.Str.{chars}
use Rattle.swc_ecma_codegen_grammar.specs.Chars.{is_one_line}
use Rattle.swc_ecma_codegen_emit.proofs.commented.is_one_line.Given as goal

abbrev pub invariant-loop-c : goal.invariant-loop-c
invariant-loop-c l = record {
  goes : is_one_line (chars l.text) ≡ is_one_line (chars l.rest);
  utf8 : shadow (Utf8 l.rest);
}

abbrev pub decreases-loop-c : goal.decreases-loop-c
decreases-loop-c l = length (chars l.rest)
