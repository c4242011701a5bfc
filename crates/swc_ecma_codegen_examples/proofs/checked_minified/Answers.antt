use Rattle.std.proofs.Common.{◌≡◌, refl, rules, true}
use Rattle.swc_ecma_codegen_grammar.specs.TreePhrases.{is_well_formed}
use Rattle.swc_ecma_codegen_emit.specs.Roots.{OfProgram}
use Rattle.swc_ecma_codegen_examples.proofs.checked_minified.Goals as goal

pub returns-in-Ok-clause-reads : goal.returns-in-Ok-clause-reads
returns-in-Ok-clause-reads c =
    let well : is_well_formed c.args.program.now ≡ true = search rules in
    (well, c.in-Ok.ensures.reads (OfProgram c.args.program.now) refl well)

pub returns-in-Err-clause-cause : goal.returns-in-Err-clause-cause
returns-in-Err-clause-cause c =
    let well : is_well_formed c.args.program.now ≡ true = search rules in
    (well, c.in-Err.ensures.cause)
