use Rattle.std.proofs.Common.{◌≡◌, drop}
use Rattle.swc_ecma_codegen_syntax.specs.NameForms.{has_no_escape}
use Rattle.swc_ecma_codegen_syntax.proofs.names.has_no_escape.Given as goal

abbrev pub invariant-loop-byte : goal.invariant-loop-byte
invariant-loop-byte l = has_no_escape l.text ≡ has_no_escape (drop l.byte-index l.text)
