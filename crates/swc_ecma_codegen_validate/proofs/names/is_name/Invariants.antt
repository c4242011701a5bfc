use Rattle.std.proofs.Common.{◌≡◌, length, false}
use denote.Text.{Utf8}
use denote.Shadow.{shadow}
use Rattle.std.specs.Str.{chars}
use Rattle.swc_ecma_codegen_grammar.specs.Names.{is_name, IsSmall}
use Rattle.swc_ecma_codegen_grammar.specs.ValidNames.{turned_after}
use Rattle.swc_ecma_codegen_validate.specs.NameStates.{goes_on}
use Rattle.swc_ecma_codegen_validate.proofs.names.is_name.Given as goal

abbrev pub invariant-loop-c : goal.invariant-loop-c
invariant-loop-c l = record {
  goes : is_name (turned_after false (chars l.name)) ≡ goes_on l.state (chars l.rest);
  text : shadow (Utf8 l.rest);
  small : IsSmall l.state.place;
}

abbrev pub decreases-loop-c : goal.decreases-loop-c
decreases-loop-c l = length (chars l.rest)
