use Rattle.std.proofs.Common.{◌≡◌, drop, false}
use Rattle.swc_ecma_codegen_grammar.specs.JsxPhrases.{is_parted}
use Rattle.swc_ecma_codegen_validate.proofs.jsx.are_parted.Given as goal

abbrev pub invariant-loop-child : goal.invariant-loop-child
invariant-loop-child g l = is_parted false l.children ≡ is_parted l.after (drop l.child-index l.children)
