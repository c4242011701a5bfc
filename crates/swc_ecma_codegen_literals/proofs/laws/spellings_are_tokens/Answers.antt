use Rattle.swc_ecma_codegen_literals.proofs.SpelledTokens.{integer_spells, integer_spells_without, number_spells_without, size_spells, string_spells}
use Rattle.swc_ecma_codegen_literals.proofs.laws.spellings_are_tokens.Goals as goal

pub returns : goal.returns
returns c = record {
  string = string_spells;
  number = size_spells;
  big_integer = integer_spells;
  number_without = number_spells_without;
  big_integer_without = integer_spells_without;
}
