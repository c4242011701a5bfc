use Rattle.std.proofs.Common.{◌≡◌, length}
use denote.Text.{Utf8}
use denote.Shadow.{shadow}
use Rattle.std.specs.Str.Iter.{chars_rest}
use Rattle.swc_ecma_codegen_literals.specs.AsciiNames.{is_plain}
use Rattle.swc_ecma_codegen_literals.proofs.Runs.{Run}
use Rattle.swc_ecma_codegen_literals.proofs.idents.split_plain.Given as goal

abbrev pub invariant-loop-c : goal.invariant-loop-c
invariant-loop-c l = shadow (Utf8 l.rest) × (l.rest ≡ chars_rest l.chars) × Run is_plain l.text l.rest

abbrev pub decreases-loop-c : goal.decreases-loop-c
decreases-loop-c l = length (chars_rest l.chars)
