use Rattle.std.proofs.Common.{◌∙◌, sym, ap}
use Rattle.swc_ecma_codegen_tokens.specs.Starts.{start_class}
use Rattle.swc_ecma_codegen_tokens.proofs.Gaps.Starting.{plain_class}
use Rattle.swc_ecma_codegen_tokens.proofs.starts.StartClass.of_any.Goals as goal

pub returns-in-Some : goal.returns-in-Some
returns-in-Some c = let h = c.in-Some.first-test in c.of_char.ensures ∙ sym (ap start_class c.in-Some.ensures ∙ plain_class c.in-Some.first _ h.0.1 h.1)

pub returns-in-None : goal.returns-in-None
unfolding start_class
returns-in-None c = sym (ap start_class c.in-None.ensures)
