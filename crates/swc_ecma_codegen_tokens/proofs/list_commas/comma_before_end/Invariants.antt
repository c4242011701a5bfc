use Rattle.std.proofs.Common.{◌≡◌, false, drop, length}
use Rattle.std.specs.Str.{chars}
use Rattle.swc_ecma_codegen_tokens.specs.Lists.{comma_before_end}
use Rattle.swc_ecma_codegen_tokens.proofs.list_commas.comma_before_end.Given as goal

abbrev pub invariant-loop-c : goal.invariant-loop-c
invariant-loop-c l = comma_before_end l.before l.here (drop (length l.yielded) (chars l.text)) ≡ comma_before_end false false (chars l.text)
