use Rattle.swc_ecma_codegen_tokens.specs.Between.{last_between}
use Rattle.swc_ecma_codegen_tokens.proofs.LowerEmitter.sends_between.Given as goal

abbrev pub ghost-give_up_between : goal.ghost-give_up_between
ghost-give_up_between g a = last_between a.mark a.before.value (g.W.WriteJs.sheet a.was.value) (g.W.WriteJs.sheet a.wr.now)
