use Rattle.std.proofs.Common.{◌≡◌, ◌≤◌, ◌-◌, ◌++◌, length}
use denote.Text.{Utf8}
use denote.Shadow.{shadow}
use Rattle.std.specs.Str.{chars}
use Rattle.swc_ecma_codegen_source.specs.SourceTexts.{line_ends}
use Rattle.swc_ecma_codegen_source.proofs.line_index.line_ends.Given as goal

abbrev pub invariant-loop-c : goal.invariant-loop-c
invariant-loop-c l = record {
  goes : line_ends 0 (chars l.text) ≡ l.ends.items ++ line_ends (length l.text - length l.rest) (chars l.rest);
  within : length l.rest ≤ length l.text;
  utf8 : shadow (Utf8 l.rest);
}

abbrev pub decreases-loop-c : goal.decreases-loop-c
decreases-loop-c l = length (chars l.rest)
