-- What is printed of a program that may lack parentheses.
use Rattle.std.specs.Prelude.{◌≡◌, ◌⊎◌, Bool, false, true}
use Rattle.swc_ecma_codegen_tree.specs.declared.links.AnyNode.{AnyNode}
use Rattle.swc_ecma_codegen_tree.specs.declared.programs.Program.{Program}
use Rattle.swc_ecma_codegen_syntax.specs.Derives.{program_verdict}
use Rattle.swc_ecma_codegen_syntax.specs.Verdicts.{holds}
use Rattle.swc_ecma_codegen_parentheses.specs.Bare.{bare_program}
use Rattle.swc_ecma_codegen_parentheses.specs.Roots.{SameProgramTree}

-- Of the program p the program r is printed. With any it may be one that no parentheses mend.
pub record IsMended (any : Bool) (p r : Program AnyNode) : Type 0 where
  -- It is the same tree but for parentheses, and braces round an `if` before `else`,
  pub same : (p ≡ r) ⊎ SameProgramTree p r
  -- and the very tree if none are missing, and ECMA-262 has a production for each node.
  pub untouched : (program_verdict p).covered ≡ true → (program_verdict p).parenthesized ≡ true → p ≡ r
  -- If nothing but these was wrong, its text is read as this tree.
  pub derivation : holds false (program_verdict p) ≡ true → holds true (program_verdict r) ≡ true
  -- Unless any is printed, none are missing,
  pub parenthesized : any ≡ false → (program_verdict r).parenthesized ≡ true
  -- and nothing was wrong that they don't mend, if ECMA-262 has a production for each node.
  pub curable : any ≡ false → (program_verdict p).covered ≡ true → (program_verdict p).curable ≡ true

-- Of p without its parentheses the program r is printed.
abbrev pub HasFewest : Bool → Program AnyNode → Program AnyNode → Type 0
HasFewest any p r = IsMended any (bare_program p) r

-- what is printed of a program, where the fewest parentheses may be asked for
unfoldable pub IsFixed : Bool → Bool → Program AnyNode → Program AnyNode → Type 0
IsFixed true any p r = HasFewest any p r
IsFixed false any p r = IsMended any p r
