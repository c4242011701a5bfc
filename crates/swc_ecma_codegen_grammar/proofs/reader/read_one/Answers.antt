use Rattle.std.proofs.Common.{sym, subst, not, length, ◌∙◌, ◌||◌, ◌-◌, take, List, ℕ}
use Rattle.std.proofs.lemmas.Bool.{and_from, and_parts, true≢false}
use Rattle.swc_ecma_codegen_grammar.specs.Chars.{is_one_line}
use Rattle.swc_ecma_codegen_grammar.specs.Reading.{ReadsOne, fits}
use Rattle.swc_ecma_codegen_grammar.proofs.ReadOne.{read_one_sound, read_one_complete, rest_all, in_line_from, in_line_to}
use Rattle.swc_ecma_codegen_grammar.proofs.reader.read_one.Goals as goal

pub returns-then-takes-clause-found : goal.returns-then-takes-clause-found
returns-then-takes-clause-found c =
    let text = c.args.text.now in
    let begin = c.start-begin.result.now in
    let n = c.longest-n.result in
    let most = c.longest-n.ensures in
    let gap : List ℕ = take (length text - length begin) text in
    let both = and_parts (not c.args.joined || is_one_line gap) (fits c.args.first c.args.kind begin n) (sym c.takes.ensures ∙ c.if-takes.true) in
    subst (λ z. ReadsOne c.args.first c.args.joined c.args.kind text (take n begin) z) (sym (rest_all n begin))
    (read_one_sound c.args.first c.args.joined c.args.kind text begin n c.start-begin.ensures most.within most.stands most.longest both.1 (in_line_from c.args.joined gap both.0))

pub returns-else-takes-clause-none : goal.returns-else-takes-clause-none
returns-else-takes-clause-none c = λ own rest h.
    let text = c.args.text.now in
    let begin = c.start-begin.result.now in
    let n = c.longest-n.result in
    let most = c.longest-n.ensures in
    let gap : List ℕ = take (length text - length begin) text in
    let r = read_one_complete c.args.first c.args.joined c.args.kind text begin n c.start-begin.ensures most.within most.stands most.longest own rest h in
    true≢false (sym (and_from (not c.args.joined || is_one_line gap) (fits c.args.first c.args.kind begin n) (in_line_to c.args.joined gap r.3) r.2) ∙ sym c.takes.ensures ∙ c.if-takes.false)
