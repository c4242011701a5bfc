use Rattle.std.proofs.Common.{◌≡◌, ◌++◌, length, false}
use denote.Text.{Utf8}
use denote.Shadow.{shadow}
use Rattle.std.specs.String.{string_bytes}
use Rattle.swc_ecma_codegen_literals.specs.TemplateTexts.{spelled_bytes}
use Rattle.swc_ecma_codegen_literals.proofs.templates.push_spelled.Given as goal

abbrev pub invariant-loop-rest : goal.invariant-loop-rest
invariant-loop-rest l = shadow (Utf8 l.rest) × (string_bytes l.text ++ spelled_bytes l.dollar l.ascii_only l.rest ≡ string_bytes l.initial.text ++ spelled_bytes false l.ascii_only l.raw)

abbrev pub decreases-loop-rest : goal.decreases-loop-rest
decreases-loop-rest l = length l.rest
