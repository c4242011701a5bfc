use Rattle.std.proofs.Common.{sym, ◌∙◌}
use Rattle.swc_ecma_codegen_grammar.proofs.ReadAll.{same_next, other_next, none_next}
use Rattle.swc_ecma_codegen_grammar.proofs.reader.read_next.Goals as goal

pub returns-then-is_same_line-clause-found : goal.returns-then-is_same_line-clause-found
returns-then-is_same_line-clause-found c = same_next c.args.first c.args.joined c.args.kind c.args.text.now (sym c.is_same_line.ensures ∙ c.if-is_same_line.true)

pub returns-in-Some-clause-found : goal.returns-in-Some-clause-found
returns-in-Some-clause-found c = other_next c.args.first c.args.joined c.args.kind c.args.text.now c.in-Some.own.now c.in-Some.after.now (sym c.is_same_line.ensures ∙ c.if-is_same_line.false) c.in-Some.ensures.found

pub returns-in-None-clause-none : goal.returns-in-None-clause-none
returns-in-None-clause-none c = none_next c.args.first c.args.joined c.args.kind c.args.text.now (sym c.is_same_line.ensures ∙ c.if-is_same_line.false) c.in-None.ensures.none
