use Rattle.swc_ecma_codegen_grammar.proofs.string_values.string_turn.Goals as goal

pub returns-in-Between : goal.returns-in-Between
returns-in-Between c tail = rw c.in-Between.is (c.between_turn.ensures c.args.sloppy tail)

pub returns-in-Escaped : goal.returns-in-Escaped
returns-in-Escaped c tail = rw c.in-Escaped.is (c.digit_turn.ensures c.args.quote tail)

pub returns-in-Due : goal.returns-in-Due
returns-in-Due c tail = rw c.in-Due.is ((c.due_turn.ensures _).0 c.args.quote c.args.sloppy)

pub returns-in-Unicode : goal.returns-in-Unicode
returns-in-Unicode c tail = rw c.in-Unicode.is ((c.unicode_turn.ensures _).0 c.args.quote c.args.sloppy)

pub returns-in-Braced : goal.returns-in-Braced
returns-in-Braced c tail = rw c.in-Braced.is ((c.braced_turn.ensures _).0 c.args.quote c.args.sloppy)

pub returns-in-Octal : goal.returns-in-Octal
returns-in-Octal c tail = rw c.in-Octal.is (c.octal_turn.ensures c.args.quote c.args.sloppy tail)
