use Rattle.std.proofs.Common.{sym, subst, ◌∙◌}
use Rattle.swc_ecma_codegen_text_writer.specs.Reach.{Shows}
use Rattle.swc_ecma_codegen_text_writer.proofs.Reaching.{after_second, after_lone, after_return, after_other}
use Rattle.swc_ecma_codegen_text_writer.proofs.positions.Reached.after.Goals as goal

pub returns-then-self-clause-shows : goal.returns-then-self-clause-shows
returns-then-self-clause-shows c = λ p h.
    subst (Shows c.after_units.result) (sym (after_second c.args.byte p c.if-byte-eq10.true (sym h.1.1 ∙ c.if-self.true))) (c.after_units.ensures.shows p h)

pub returns-else-self-clause-shows : goal.returns-else-self-clause-shows
returns-else-self-clause-shows c = λ p h.
    subst (Shows c.next_line.result) (sym (after_lone c.args.byte p c.if-byte-eq10.true (sym h.1.1 ∙ c.if-self.false))) (c.next_line.ensures.shows p h)

pub returns-then-byte-eq13-clause-shows : goal.returns-then-byte-eq13-clause-shows
returns-then-byte-eq13-clause-shows c = λ p h.
    subst (Shows c.next_line-then-byte-eq13.result) (sym (after_return c.args.byte p c.if-byte-eq13.true)) (c.next_line-then-byte-eq13.ensures.shows p h)

pub returns-else-byte-eq13-clause-shows : goal.returns-else-byte-eq13-clause-shows
returns-else-byte-eq13-clause-shows c = λ p h.
    let e = after_other c.args.byte p c.if-byte-eq10.false c.if-byte-eq13.false in
    subst (Shows c.after_units-else-byte-eq13.result) (sym (e)) (rw c.units.ensures.value at (c.after_units-else-byte-eq13.ensures.shows p h))
