use Rattle.std.proofs.Common.{◌≡◌, refl, rules, true, ap}
use Rattle.swc_ecma_codegen_grammar.specs.TreePhrases.{is_well_formed}
use Rattle.swc_ecma_codegen_common.specs.declared.errors.Error.{Error}
use Rattle.swc_ecma_codegen_emit.specs.Roots.{OfProgram}
use Rattle.swc_ecma_codegen_examples.specs.declared.NoText.TheVariants.{Refused}
use Rattle.swc_ecma_codegen_examples.proofs.checked_text.Goals as goal

pub returns-in-Ok-clause-reads : goal.returns-in-Ok-clause-reads
returns-in-Ok-clause-reads c =
    let well : is_well_formed c.args.program.now ≡ true = search rules in
    c.in-Ok.ensures.reads (OfProgram c.args.program.now) refl well

pub returns-in-Err-clause-made : goal.returns-in-Err-clause-made
returns-in-Err-clause-made c = λ well room. ap (λ (e : Error). Refused e) (c.in-Err.ensures.made (OfProgram c.args.program.now) refl well room)
