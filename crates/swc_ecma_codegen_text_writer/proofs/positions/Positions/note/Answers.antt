use Rattle.std.proofs.Common.{arith, inl, inr}
use Rattle.swc_ecma_codegen_text_writer.proofs.Recording.{records_far, records_old, records_new, records_refused}
use Rattle.swc_ecma_codegen_text_writer.specs.Sheet.{IsFar}
use Rattle.swc_ecma_codegen_text_writer.proofs.positions.Positions.note.Goals.{then-self-ge-LIMIT-via-then-self-ge-LIMIT, then-self-ge-LIMIT-via-else-self-ge-LIMIT+then-self-ge-LIMIT-2}
use Rattle.swc_ecma_codegen_text_writer.proofs.positions.Positions.note.Goals as goal

pub returns-then-self-ge-LIMIT-clause-pairs : goal.returns-then-self-ge-LIMIT-clause-pairs
unfolding IsFar
returns-then-self-ge-LIMIT-clause-pairs g c = λ p h.
    let far : IsFar p =
    elim c.then-self-ge-LIMIT.branch [
      | then-self-ge-LIMIT-via-then-self-ge-LIMIT w ↦ inl (omega arith)
      | then-self-ge-LIMIT-via-else-self-ge-LIMIT+then-self-ge-LIMIT-2 w ↦ inr (omega arith)
    ] in
    records_far c.args.pos p (g.L.HoldsPairs.pairs c.args.self.now.list) far

pub returns-then-stands-clause-pairs : goal.returns-then-stands-clause-pairs
returns-then-stands-clause-pairs g c = λ p h.
    let w = c.args.self.now in
    records_old c.args.pos p (g.L.HoldsPairs.pairs w.list) c.stands.result w.reached h (omega arith) (omega arith) c.stands.ensures c.if-stands.true

pub returns-in-Ok-clause-pairs : goal.returns-in-Ok-clause-pairs
returns-in-Ok-clause-pairs g c = λ p h.
    let w = c.args.self.now in
    records_new c.args.pos p (g.L.HoldsPairs.pairs w.list) (g.L.HoldsPairs.pairs c.add.new.self) c.stands.result w.reached h (omega arith) (omega arith) (λ e. omega (arith, e, c.requires)) c.stands.ensures c.if-stands.false c.in-Ok.ensures.pushed

pub returns-in-Err-clause-pairs : goal.returns-in-Err-clause-pairs
returns-in-Err-clause-pairs g c = λ p h.
    let w = c.args.self.now in
    records_refused c.args.pos p (g.L.HoldsPairs.pairs w.list) (g.L.HoldsPairs.pairs c.add.new.self) c.stands.result w.reached h (omega arith) (omega arith) (λ e. omega (arith, e, c.requires)) c.stands.ensures c.if-stands.false c.in-Err.ensures.same
