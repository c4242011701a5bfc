-- What is written where there are neither comments nor a source text.
use Rattle.std.specs.Prelude.{◌≡◌, false, true, [], OnOk}
use Rattle.swc_ecma_codegen_grammar.specs.PlainPhrases.{plain_phrase}
use Rattle.swc_ecma_codegen_tokens.specs.Plain.{IsPlain}
use Rattle.swc_ecma_codegen_tokens.specs.Run.{State, is_bounded}
use Rattle.swc_ecma_codegen_tokens.specs.Written.{AddsReading}
use Rattle.swc_ecma_codegen_emit.specs.Emission.{Outcome}
use Rattle.swc_ecma_codegen_emit.specs.Roots.{Root, MayBegin, is_well_formed_root, root_phrase}

-- What a new emitter adds to the text of a well-formed tree reads as the one list of the tree that adds nothing: no comma before a closing
-- mark, no parentheses round what is returned, thrown or yielded, and those round the only parameter of an arrow function where it doesn't minify.
abbrev pub ReadsPlainly : Root → State → State → Outcome → Type 0
ReadsPlainly root a b answer =
    is_well_formed_root root ≡ true → MayBegin root a → IsPlain a.env → is_bounded a.env ≡ false →
    OnOk answer (AddsReading a.env.config (plain_phrase a.env.config.minify (root_phrase root)) [] a.sheet b.sheet)
