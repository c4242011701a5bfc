-- The length so far is the answer where no other comes.
use Rattle.std.proofs.Common.{◌≡◌, drop, None}
use Rattle.swc_ecma_codegen_runs.specs.Words.{last_length}
use Rattle.swc_ecma_codegen_runs.proofs.words.last_length.Given as goal

abbrev pub invariant-loop-word : goal.invariant-loop-word
invariant-loop-word l = last_length l.length (drop l.word-index l.words) ≡ last_length None l.words
