use Rattle.std.proofs.Common.{◌≡◌, ◌++◌, length, List, ℕ}
use denote.Text.{Utf8}
use denote.Shadow.{shadow}
use Rattle.std.specs.Str.{chars, encode_utf8_all}
use Rattle.std.specs.String.{string_bytes}
use Rattle.swc_ecma_codegen_literals.specs.StringTexts.{spelled_all}
use Rattle.swc_ecma_codegen_literals.proofs.strings.push_spelled.Given as goal

abbrev pub invariant-loop-rest : goal.invariant-loop-rest
invariant-loop-rest l =
    let all = λ (text : List ℕ). encode_utf8_all (spelled_all l.style.quote l.style.ascii_only l.style.target (chars text)) in
    shadow (Utf8 l.rest) × (string_bytes l.literal ++ all l.rest ≡ string_bytes l.initial.literal ++ all l.text)

abbrev pub decreases-loop-rest : goal.decreases-loop-rest
decreases-loop-rest l = length l.rest
