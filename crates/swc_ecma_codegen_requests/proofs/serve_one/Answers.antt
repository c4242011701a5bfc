use Rattle.std.proofs.Common.{◌≡◌, ◌≢◌, ◌∙◌, ◌++◌, List, ℕ, [], Option, None, Some, Result, Ok, Err, OnErr, IfSome, inr, ap, subst, rules}
use Rattle.std.proofs.lemmas.Option.{IfSome_then}
use Rattle.std.specs.Io.BufRead.{take_through, drop_through}
use Rattle.std.specs.Io.KnownBytes.{Appends}
use Rattle.swc_ecma_codegen_requests.specs.Answers.{IsAnswer}
use Rattle.swc_ecma_codegen_requests.specs.Streams.{AddsFront}
use Rattle.swc_ecma_codegen_requests.proofs.serve_one.Goals as goal

-- what holds anyway holds after a fault
anyway : {X E P : Type 0} (r : Result X E) → P → OnErr r P
anyway (Ok x) p = tt
anyway (Err e) p = p

-- a line that is answered is the next one
answered : (all after : Option (List ℕ)) (line answer : List ℕ) (told new : Option (List ℕ)) → IfSome all (λ rest. line ≡ take_through 10 rest) → IfSome all (λ rest. (rest ≢ []) × (after ≡ Some (drop_through 10 rest))) → IsAnswer line answer → Appends told new answer → IfSome all (λ rest. (rest ≢ []) × (after ≡ Some (drop_through 10 rest)) × ((answer : List ℕ) × IsAnswer (take_through 10 rest) answer × Appends told new answer))
answered None after line answer told new is_line is_some is sent = tt
answered (Some rest) after line answer told new is_line is_some is sent = (is_some.0, is_some.1, (answer, subst (λ l. IsAnswer l answer) is_line is, sent))

pub returns-clause-one : goal.returns-clause-one
returns-clause-one g c =
    let line = c.read_line.new.line.items in
    let all = g.R.Read.remaining c.args.input.now in
    let is_line : IfSome all (λ rest. line ≡ take_through 10 rest) = IfSome_then all c.in_ok-read_line.ensures.bytes (λ rest e. e ∙ ap (λ l. l ++ take_through 10 rest) c.new-line.ensures.items) in
    let is_some : IfSome all (λ rest. (rest ≢ []) × (g.R.Read.remaining c.read_line.new.input ≡ Some (drop_through 10 rest))) = search rules in
    let is : IsAnswer line c.in_ok-answer.answer.items = subst (λ l. IsAnswer l c.in_ok-answer.answer.items) c.deref.ensures.value c.in_ok-answer.ensures in
    let sent : Appends (g.W.Write.contents c.args.out.now) (g.W.Write.contents c.send.new.out) c.in_ok-answer.answer.items = search rules in
    λ one. answered all _ line c.in_ok-answer.answer.items _ _ is_line is_some is sent

-- what is out is a beginning of the answer to that line
pub returns-in_err-send-clause-begun : goal.returns-in_err-send-clause-begun
returns-in_err-send-clause-begun g c =
    let line = c.read_line.new.line.items in
    let all = g.R.Read.remaining c.args.input.now in
    let answer = c.in_ok-answer.answer.items in
    let is_line : IfSome all (λ rest. line ≡ take_through 10 rest) = IfSome_then all c.in_ok-read_line.ensures.bytes (λ rest e. e ∙ ap (λ l. l ++ take_through 10 rest) c.new-line.ensures.items) in
    let is : IsAnswer line answer = subst (λ l. IsAnswer l answer) c.deref.ensures.value c.in_ok-answer.ensures in
    let begun : AddsFront answer (g.W.Write.contents c.args.out.now) (g.W.Write.contents c.send.new.out) = search rules in
    anyway _ (IfSome_then all is_line (λ rest e. inr (answer, subst (λ l. IsAnswer l answer) e is, begun)))
