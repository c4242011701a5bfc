use Rattle.std.proofs.Common.{◌≡◌, List, ℕ, Result, Ok, Err, OnErr, subst, inr, rules}
use Rattle.std.specs.Io.KnownBytes.{Appends}
use Rattle.swc_ecma_codegen_runs.specs.Prints.{AddsFront}
use Rattle.swc_ecma_codegen_runs.proofs.print.Goals as goal

-- the bytes that went out are those of the text
pub returns-clause-printed : goal.returns-clause-printed
returns-clause-printed g c =
    let text = c.in_ok-text.text.items in
    let same : c.deref.result.now ≡ text = search rules in
    let Sent : List ℕ → Type 0 = λ t. Appends (g.O.Write.contents c.args.out.now) (g.O.Write.contents c.send.new.out) t in
    (text, (c.in_ok-tree.tree.0, c.in_ok-prepared.prepared.0, c.in_ok-tree.ensures.may, c.in_ok-prepared.ensures.prepared, c.in_ok-text.ensures.text), subst Sent same c.in_ok-send.ensures.sent)

-- what holds whatever comes holds after a fault
after_fault : {T E P : Type 0} (r : Result T E) → P → OnErr r P
after_fault (Ok x) p = tt
after_fault (Err e) p = p

-- those that went out before the fault are a beginning of it
pub returns-in_err-send-clause-begun : goal.returns-in_err-send-clause-begun
returns-in_err-send-clause-begun g c =
    let text = c.in_ok-text.text.items in
    let same : c.deref.result.now ≡ text = search rules in
    let Begun : List ℕ → Type 0 = λ t. AddsFront t (g.O.Write.contents c.args.out.now) (g.O.Write.contents c.send.new.out) in
    after_fault _ (inr (text, (c.in_ok-tree.tree.0, c.in_ok-prepared.prepared.0, c.in_ok-tree.ensures.may, c.in_ok-prepared.ensures.prepared, c.in_ok-text.ensures.text), subst Begun same c.in_err-send.ensures.begun))
