-- Hashbang comments. ECMA-262, section 12.5.
use Rattle.std.specs.Prelude.{ℕ, Bool, false, List, [], ◌∷◌, ◌&&◌, ◌==◌}
use Rattle.swc_ecma_codegen_grammar.specs.Chars.{is_one_line}
use Rattle.swc_ecma_codegen_grammar.specs.Texts.{begins}

-- `#!` and the rest of a line
unfoldable pub is_hashbang : List ℕ → Bool
is_hashbang [] = false
is_hashbang (c ∷ cs) = (c == 35) && (begins (33 ∷ []) cs && is_one_line cs)
