-- The summary of a node in a role.
use Rattle.std.specs.Prelude.{Bool}
use Rattle.swc_ecma_codegen_grammar.specs.declared.roles.Role.{Role}
use Rattle.swc_ecma_codegen_grammar.specs.declared.roles.Role.TheVariants.{Statement}
use Rattle.swc_ecma_codegen_syntax.specs.declared.lookahead.Beginning.{Beginning}
use Rattle.swc_ecma_codegen_syntax.specs.declared.parameters.Parameters.{Parameters}
use Rattle.swc_ecma_codegen_syntax.specs.declared.verdicts.Facts.{Facts}
use Rattle.swc_ecma_codegen_syntax.specs.declared.verdicts.Shape.{Shape}
use Rattle.swc_ecma_codegen_syntax.specs.Parameters.{of_script}

-- what its production says of it, under parameters, what its text begins with, whether it is an empty statement, and what it looks like
pub record Summary : Type 0 where
  pub facts : Facts
  pub begins : Beginning
  pub is_empty : Bool
  pub shape : Shape

-- What a text begins with hangs on no parameters, so it is asked under any.
abbrev pub begins_in : {X : Type 0} → (X → Role → Parameters → Summary) → X → Role → Beginning
begins_in f n role = (f n role of_script).begins

abbrev pub empty_in : {X : Type 0} → (X → Role → Parameters → Summary) → X → Bool
empty_in f n = (f n Statement of_script).is_empty

abbrev pub shape_in : {X : Type 0} → (X → Role → Parameters → Summary) → X → Shape
shape_in f n = (f n Statement of_script).shape
