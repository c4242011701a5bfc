use Rattle.std.proofs.Common.{sym}
use Rattle.swc_ecma_codegen_grammar.proofs.UnitLaws.{long_unit, rest_whole}
use Rattle.swc_ecma_codegen_grammar.proofs.units.braced_unit.Goals as goal

pub returns-then-begins-clause-some : goal.returns-then-begins-clause-some
returns-then-begins-clause-some c =
    rw (rest_whole c.in_ok-unit.rest.now) (long_unit c.args.text.now c.in_ok-unit.rest.now c.in_ok-unit.unit c.in_ok-unit.ensures.some (sym c.if-begins.ensures))
