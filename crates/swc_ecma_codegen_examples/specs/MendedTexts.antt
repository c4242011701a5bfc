-- The text of a program that got its parentheses.
use Rattle.std.specs.Prelude.{◌≡◌, ◌⊎◌, ℕ, List, [], true, false}
use Rattle.swc_ecma_codegen_tree.specs.declared.links.AnyNode.{AnyNode}
use Rattle.swc_ecma_codegen_tree.specs.declared.programs.Program.{Program}
use Rattle.swc_ecma_codegen_grammar.specs.Phrases.{Generates}
use Rattle.swc_ecma_codegen_grammar.specs.Settings.{Settings}
use Rattle.swc_ecma_codegen_grammar.specs.Tokens.{Token}
use Rattle.swc_ecma_codegen_grammar.specs.TreePhrases.{program_phrase}
use Rattle.swc_ecma_codegen_syntax.specs.Derives.{DerivesProgram, bare_phrase}
use Rattle.swc_ecma_codegen_tokens.specs.Written.{ReadsAs}
use Rattle.swc_ecma_codegen_settings.specs.Defaults.{default_config}
use Rattle.swc_ecma_codegen_parentheses.specs.Roots.{SameProgramTree}

-- A text reads as a program that is this one but for parentheses and braces, and the grammar of ECMA-262 derives it as that very tree, but
-- for what syntax leaves open.
pub record IsMendedText (p : Program AnyNode) (text : List ℕ) : Type 0 where
  pub printed : Program AnyNode
  pub same : (p ≡ printed) ⊎ SameProgramTree p printed
  pub reads : ReadsAs default_config false (program_phrase printed) [] text
  pub derived : (s : Settings) (ts : List Token) → Generates s (bare_phrase (program_phrase printed)) ts → DerivesProgram true s printed ts
