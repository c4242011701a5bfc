use Rattle.std.proofs.Common.{length, ◌≡◌, ◌<◌, ◌≤◌, ℕ, false}
use Rattle.swc_ecma_codegen_grammar.specs.Reading as reading
use Rattle.swc_ecma_codegen_grammar.proofs.reader.longest.Given as goal

abbrev pub invariant-loop-n : goal.invariant-loop-n
invariant-loop-n l = (l.n ≤ length l.text) × ((m : ℕ) → l.n < m → m ≤ length l.text → reading.stands_at l.kind l.text m ≡ false)

abbrev pub decreases-loop-n : goal.decreases-loop-n
decreases-loop-n l = l.n
