-- What a link holds, as a root.
use Rattle.std.specs.Prelude.{◌≡◌}
use Rattle.swc_ecma_codegen_tree.specs.declared.links.AnyNode.{AnyNode}
use Rattle.swc_ecma_codegen_tree.specs.declared.links.AnyNode.TheVariants as nodes
use Rattle.swc_ecma_codegen_emit.specs.declared.nodes.Context.TheVariants.{Plain}
use Rattle.swc_ecma_codegen_emit.specs.Places.{Whole, placed}
use Rattle.swc_ecma_codegen_emit.specs.Roots.{Root, OfExpr, OfStmt, OfItem, OfModule, OfScript, OfProgram, OfLink}

-- It is this expression, this statement, or this node in any role that it has by itself, as a callee and a member of an optional
-- chain have not; no link holds an item of a module or a program.
abbrev pub IsHeld : AnyNode → Root → Type 0
IsHeld n (OfExpr e) = n ≡ nodes.Expr e
IsHeld n (OfStmt s) = n ≡ nodes.Stmt s
IsHeld n (OfLink m role) = (n ≡ m) × (placed role (Whole Plain) ≡ Whole Plain)
IsHeld n (OfItem i) = ⊥
IsHeld n (OfModule m) = ⊥
IsHeld n (OfScript s) = ⊥
IsHeld n (OfProgram p) = ⊥
