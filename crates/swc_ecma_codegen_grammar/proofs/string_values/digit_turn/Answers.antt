use Rattle.std.proofs.Common.{rules, ◌≡◌, true}
use Rattle.swc_ecma_codegen_grammar.proofs.string_values.digit_turn.Goals as goal

pub returns-in_default-2 : goal.returns-in_default-2
returns-in_default-2 c q tail = let sloppy : c.args.sloppy ≡ true = search rules in rw sloppy (c.octal_start.ensures q tail)
