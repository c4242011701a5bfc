use Rattle.std.proofs.Common.{◌==◌, codes, sym, ap, ◌∙◌}
use Rattle.swc_ecma_codegen_grammar.specs.Texts.{begins}
use Rattle.swc_ecma_codegen_tokens.proofs.Gaps.NoPunctuator.{and_true, eq_swap}
use Rattle.swc_ecma_codegen_tokens.proofs.starts.begins_dash.Goals as goal

pub returns-in-Some : goal.returns-in-Some
unfolding begins
returns-in-Some c = eq_swap c.in-Some.first 45 ∙ sym (ap (begins (codes "-")) c.in-Some.ensures ∙ and_true (45 == c.in-Some.first))

pub returns-in-None : goal.returns-in-None
unfolding begins
returns-in-None c = sym (ap (begins (codes "-")) c.in-None.ensures)
