-- What is left of the words decides, after the word before.
use Rattle.std.proofs.Common.{◌≡◌, drop, []}
use Rattle.std.specs.Str.{IsUtf8}
use Rattle.swc_ecma_codegen_runs.specs.Words.{are_options_after}
use Rattle.swc_ecma_codegen_runs.proofs.words.are_options.Given as goal

abbrev pub invariant-loop-word : goal.invariant-loop-word
invariant-loop-word g l = IsUtf8 l.before × (are_options_after g.T.Words.is_own l.before (drop l.word-index l.words) ≡ are_options_after g.T.Words.is_own [] l.words)
