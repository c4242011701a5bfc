use Rattle.swc_ecma_codegen_tokens.proofs.LowerEmitter.give_up_between.Given as goal

abbrev pub ghost-shown_as : goal.ghost-shown_as
ghost-shown_as g a = g.shown
