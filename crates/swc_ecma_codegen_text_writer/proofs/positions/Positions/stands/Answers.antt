use Rattle.std.proofs.Common.{◌≤◌, length, take, ap, ◌∙◌}
use Rattle.swc_ecma_codegen_text_writer.proofs.Recording.{last_part, stands_first, stands_last}
use Rattle.swc_ecma_codegen_text_writer.specs.Sheet.{has_pair}
use Rattle.swc_ecma_codegen_text_writer.proofs.positions.Positions.stands.Goals as goal

pub returns-then-holds : goal.returns-then-holds
returns-then-holds g c =
    let w = c.args.self.now in
    let within : w.recent ≤ length (g.L.HoldsPairs.pairs w.list) = w.in_list.1 in
    let first = c.holds.ensures ∙ ap (λ ys. has_pair c.args.pair (take w.handed_in ys)) c.list-list.ensures in
    stands_first c.args.pair (g.L.HoldsPairs.pairs w.list) w.handed_in w.recent w.reached w.in_list.0 within w.passed c.requires.line c.requires.column c.holds.result first c.if-holds.true

pub returns-else-holds : goal.returns-else-holds
returns-else-holds g c =
    let w = c.args.self.now in
    let within : w.recent ≤ length (g.L.HoldsPairs.pairs w.list) = w.in_list.1 in
    let first = c.holds.ensures ∙ ap (λ ys. has_pair c.args.pair (take w.handed_in ys)) c.list-list.ensures in
    let last = c.holds-else-holds.ensures ∙ ap (has_pair c.args.pair) (last_part (g.L.HoldsPairs.pairs w.list) _ w.recent c.list-list.ensures) in
    stands_last c.args.pair (g.L.HoldsPairs.pairs w.list) w.handed_in w.recent w.reached w.in_list.0 within w.passed c.requires.line c.requires.column c.holds.result c.holds-else-holds.result first c.if-holds.false last
