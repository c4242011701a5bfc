use Rattle.std.proofs.Common.{subst, IfErr, inr}
use Rattle.std.proofs.lemmas.Result.{IfOk-weaker, IfErr-weaker}
use Rattle.swc_ecma_codegen_examples.specs.Causes.{LacksText, minified_start}
use Rattle.swc_ecma_codegen_examples.proofs.minified_json.Goals as goal

-- the program that was read is one
pub returns-in-Ok-clause-reads : goal.returns-in-Ok-clause-reads
returns-in-Ok-clause-reads c = IfOk-weaker c.checked_minified.result _ _ (λ text (well, reads). (c.in-Ok.program, well, reads)) c.checked_minified.ensures.reads

pub returns-in-Ok-clause-cause : goal.returns-in-Ok-clause-cause
returns-in-Ok-clause-cause c = IfErr-weaker c.checked_minified.result _ _ (λ error lacks. inr (c.in-Ok.program, lacks)) c.checked_minified.ensures.cause

pub returns-in-Ok-clause-not_utf8 : goal.returns-in-Ok-clause-not_utf8
returns-in-Ok-clause-not_utf8 c = λ other. let never = c.in-Ok.ensures.not_utf8 other in absurd (cc)

-- what was read lacks a text for no reason of reading
pub returns-in-Ok-clause-utf8 : goal.returns-in-Ok-clause-utf8
returns-in-Ok-clause-utf8 c = λ utf8 same. subst (λ r. IfErr r (LacksText minified_start c.in-Ok.program)) same c.checked_minified.ensures.cause
