-- It only appends to the line, and has appended no LF so far.
use Rattle.std.proofs.Common.{◌≡◌, ◌≢◌, ◌≤◌, All, length, drop, vec_len, vec_items}
use Rattle.std.specs.Io.{StartsWith}
use Rattle.std.specs.Io.KnownBytes.{Consumes}
use Rattle.swc_ecma_codegen_requests.proofs.lines.read_line.Given as goal

abbrev pub invariant-loop : goal.invariant-loop
invariant-loop g l = (l.start ≡ vec_len l.initial.line) × (l.start ≤ vec_len l.line) × StartsWith (vec_items l.line) (vec_items l.initial.line)
    × All (λ x. x ≢ 10) (drop (length (vec_items l.initial.line)) (vec_items l.line))
    × Consumes (g.R.Read.remaining l.initial.input) (g.R.Read.remaining l.input) (drop (length (vec_items l.initial.line)) (vec_items l.line))
