use Rattle.std.proofs.Common.{◌≡◌, false, drop}
use Rattle.swc_ecma_codegen_grammar.specs.JsxPhrases.{ends_in_text}
use Rattle.swc_ecma_codegen_syntax.proofs.jsx.ends_in_text.Given as goal

abbrev pub invariant-loop-child : goal.invariant-loop-child
invariant-loop-child g l = ends_in_text false l.children ≡ ends_in_text l.after_text (drop l.child-index l.children)
