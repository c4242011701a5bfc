use Rattle.std.proofs.Common.{◌≡◌, true, length}
use denote.Text.{Utf8}
use denote.Shadow.{shadow}
use Rattle.std.specs.Str.{chars}
use Rattle.swc_ecma_codegen_grammar.specs.CodeUnits.{units}
use Rattle.swc_ecma_codegen_grammar.specs.LitPhrases.{are_units}
use Rattle.swc_ecma_codegen_grammar.specs.StringValues.{string_rest}
use Rattle.swc_ecma_codegen_grammar.specs.Turns.{IsReached}
use Rattle.swc_ecma_codegen_grammar.specs.declared.units.Place.TheVariants.{Between}
use Rattle.swc_ecma_codegen_validate.specs.UnitStates.{left_units}
use Rattle.swc_ecma_codegen_validate.proofs.strings.rest_spells.Given as goal

abbrev pub invariant-loop-c : goal.invariant-loop-c
invariant-loop-c l = record {
  goes : are_units (string_rest l.quote true Between (chars l.text)) (units (chars l.value)) ≡ are_units (string_rest l.quote true l.place (chars l.rest)) (left_units l.low (chars l.left));
  reached : IsReached l.place (chars l.rest);
  text : shadow (Utf8 l.rest);
  units : shadow (Utf8 l.left);
}

abbrev pub decreases-loop-c : goal.decreases-loop-c
decreases-loop-c l = length (chars l.rest)
