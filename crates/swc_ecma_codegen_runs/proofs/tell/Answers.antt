use Rattle.std.proofs.Common.{List, ℕ, [], Option, Result, Ok, Err, OnOk, OnErr, sym, ◌∙◌, subst, append-nil, ap}
use Rattle.std.specs.Io.KnownBytes.{Appends}
use Rattle.swc_ecma_codegen_runs.specs.Faults.{line_of}
use Rattle.swc_ecma_codegen_runs.specs.Prints.{AddsFront}
use Rattle.swc_ecma_codegen_runs.proofs.tell.Goals as goal

-- what went out is the whole text, or a beginning of it
begun_at_least : {T E : Type 0} (r : Result T E) (old new : Option (List ℕ)) (text : List ℕ) → OnOk r (Appends old new text) → OnErr r (AddsFront text old new) → AddsFront text old new
begun_at_least (Ok x) old new text sent begun = (text, ([], sym (append-nil text)), sent)
begun_at_least (Err e) old new text sent begun = begun

pub returns-clause-told : goal.returns-clause-told
returns-clause-told g c =
    let Begun : List ℕ → Type 0 = λ t. AddsFront t (g.E.Write.contents c.args.err.now) (g.E.Write.contents c.send.new.out) in
    subst Begun (c.as_bytes.ensures.value ∙ c.line-line.ensures ∙ ap (λ usage. line_of usage c.args.fault) c.usage_line.ensures) (begun_at_least c.send.result _ _ _ c.send.ensures.sent c.send.ensures.begun)
