use Rattle.std.proofs.Common.{◌≡◌, false, drop}
use Rattle.swc_ecma_codegen_grammar.specs.JsxPhrases.{is_parted}
use Rattle.swc_ecma_codegen_syntax.proofs.jsx.is_parted.Given as goal

abbrev pub invariant-loop-child : goal.invariant-loop-child
invariant-loop-child g l = is_parted false l.children ≡ is_parted l.after_text (drop l.child-index l.children)
