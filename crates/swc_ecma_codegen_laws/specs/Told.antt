-- What two programs of one text have in common.
use Rattle.std.specs.Prelude.{◌≡◌, ◌⊎◌, ℕ, true, List, [], ◌++◌}
use Rattle.std.specs.Str.{chars}
use Rattle.swc_ecma_codegen_tree.specs.declared.links.AnyNode.{AnyNode}
use Rattle.swc_ecma_codegen_tree.specs.declared.programs.Program.{Program}
use Rattle.swc_ecma_codegen_grammar.specs.Reads.{Reads}
use Rattle.swc_ecma_codegen_grammar.specs.Settings.{Settings}
use Rattle.swc_ecma_codegen_grammar.specs.Tokens.{Token}
use Rattle.swc_ecma_codegen_syntax.specs.Derives.{DerivesProgram}
use Rattle.swc_ecma_codegen_uniqueness.specs.Parses.{program_parse}
use Rattle.swc_ecma_codegen_uniqueness.specs.Parting.{Parting}
use Rattle.swc_ecma_codegen_uniqueness.specs.Words.{as_names, with_names}

-- Their lists of tokens and their parse trees are one, words taken for names; or the lists part where the tokens before don't tell what comes.
abbrev pub IsTold : Settings → Settings → Program AnyNode → Program AnyNode → List Token → List Token → Type 0
IsTold s t a b xs ys =
    ((as_names xs ≡ as_names ys) × (with_names (program_parse s a) ≡ with_names (program_parse t b))) ⊎ Parting (as_names xs) (as_names ys)

-- What a text is longer by reads, with no comments between, as a list of tokens that is derived with this program.
pub record AddsDerived (s : Settings) (a : Program AnyNode) (old new : List ℕ) : Type 0 where
  pub added : List ℕ
  pub is_added : new ≡ old ++ added
  pub tokens : List Token
  pub derived : DerivesProgram true s a tokens
  pub reads : Reads (chars added) tokens []
