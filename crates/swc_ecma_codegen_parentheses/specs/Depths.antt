-- How deep the pass goes.
use Rattle.std.specs.Prelude.{ℕ, suc}
use Rattle.swc_ecma_codegen_parentheses.specs.declared.mends.Usage.{Usage}
use Rattle.swc_ecma_codegen_parentheses.specs.declared.recursion.Levels.{Levels, Out, More'}
use Rattle.swc_ecma_codegen_parentheses.specs.Whole.{same_to}

unfoldable pub depth : {N C : Type 0} → Levels N C → ℕ
depth (Out p) = 0
depth (More' p fewer) = suc (depth fewer)

abbrev pub same_levels : {N C X : Type 0} → ((Usage → X → X → Type 0) → Usage → X → X → Type 0) → Levels N C → Usage → X → X → Type 0
same_levels held levels = same_to held (depth levels)
