use Rattle.swc_ecma_codegen_tokens.specs.ShortNames.{LacksBetween}
use Rattle.swc_ecma_codegen_tokens.proofs.short_names.few_lack_backslash.Given as goal

abbrev pub invariant-loop-byte : goal.invariant-loop-byte
invariant-loop-byte l = LacksBetween 92 l.text 0 l.byte-index
