use Rattle.std.proofs.Common.{◌≡◌, length}
use denote.Text.{Utf8}
use denote.Shadow.{shadow}
use Rattle.std.specs.Option.{is_some}
use Rattle.std.specs.Str.{chars}
use Rattle.swc_ecma_codegen_grammar.specs.TemplateValues.{cooked_rest}
use Rattle.swc_ecma_codegen_grammar.specs.Turns.{IsReached}
use Rattle.swc_ecma_codegen_grammar.specs.declared.units.Place.TheVariants.{Between}
use Rattle.swc_ecma_codegen_validate.proofs.templates.has_cooked_value.Given as goal

abbrev pub invariant-loop-c : goal.invariant-loop-c
invariant-loop-c l = record {
  goes : is_some (cooked_rest Between (chars l.raw)) ≡ is_some (cooked_rest l.place (chars l.rest));
  reached : IsReached l.place (chars l.rest);
  text : shadow (Utf8 l.rest);
}

abbrev pub decreases-loop-c : goal.decreases-loop-c
decreases-loop-c l = length (chars l.rest)
