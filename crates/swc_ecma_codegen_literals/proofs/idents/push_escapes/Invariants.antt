use Rattle.std.proofs.Common.{List, length, ℕ, ◌++◌, ◌≡◌}
use denote.Shadow.{shadow}
use denote.Text.{Utf8}
use Rattle.std.specs.Str.{chars}
use Rattle.std.specs.String.{string_bytes}
use Rattle.swc_ecma_codegen_literals.specs.AsciiNames.{name_escapes}
use Rattle.swc_ecma_codegen_literals.proofs.idents.push_escapes.Given as goal

abbrev pub invariant-loop-rest : goal.invariant-loop-rest
invariant-loop-rest l =
    let all = λ (text : List ℕ). name_escapes l.key l.target (chars text) in
    shadow (Utf8 l.rest) × (string_bytes l.name ++ all l.rest ≡ string_bytes l.initial.name ++ all l.text)

abbrev pub decreases-loop-rest : goal.decreases-loop-rest
decreases-loop-rest l = length l.rest
