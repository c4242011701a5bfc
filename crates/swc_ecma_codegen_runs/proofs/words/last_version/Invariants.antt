-- The version so far is the answer where no other name comes.
use Rattle.std.proofs.Common.{◌≡◌, drop}
use Rattle.swc_ecma_codegen_common.specs.declared.versions.EsVersion.TheVariants.{EsNext}
use Rattle.swc_ecma_codegen_runs.specs.Words.{last_version}
use Rattle.swc_ecma_codegen_runs.proofs.words.last_version.Given as goal

abbrev pub invariant-loop-word : goal.invariant-loop-word
invariant-loop-word l = last_version l.version (drop l.word-index l.words) ≡ last_version EsNext l.words
