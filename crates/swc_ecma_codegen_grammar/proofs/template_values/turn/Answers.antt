use Rattle.swc_ecma_codegen_grammar.proofs.template_values.turn.Goals as goal

pub returns-in-Due : goal.returns-in-Due
returns-in-Due c = rw c.in-Due.is (c.due_turn.ensures c.args.rest.now).1

pub returns-in-Unicode : goal.returns-in-Unicode
returns-in-Unicode c = rw c.in-Unicode.is (c.unicode_turn.ensures c.args.rest.now).1

pub returns-in-Braced : goal.returns-in-Braced
returns-in-Braced c = rw c.in-Braced.is (c.braced_turn.ensures c.args.rest.now).1
