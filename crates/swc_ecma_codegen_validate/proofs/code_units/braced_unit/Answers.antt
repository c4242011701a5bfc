use Rattle.std.proofs.Common.{◌∙◌}
use Rattle.std.specs.Str.{chars}
use Rattle.swc_ecma_codegen_grammar.proofs.UnitLaws.{long_unit}
use Rattle.swc_ecma_codegen_validate.proofs.code_units.braced_unit.Goals as goal

pub returns-clause-some : goal.returns-clause-some
returns-clause-some c =
    let unit = long_unit (chars c.args.text.now) (chars c.in_ok-unit.rest.now) c.in_ok-unit.unit c.in_ok-unit.ensures.some c.in_ok-after_first.ensures.some.0 in
    (unit.0, unit.1, unit.2, c.in_ok-after_first.ensures.some.1 ∙ unit.3)
