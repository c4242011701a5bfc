-- Lists of nodes that are all well-formed.
use Rattle.std.specs.Prelude.{Bool, true, List, [], ◌∷◌, ◌&&◌}
use Rattle.swc_ecma_codegen_grammar.specs.Phrases.{Phrase, is_possible}

unfoldable pub all_possible : {A : Type 0} → (A → Phrase) → List A → Bool
all_possible each [] = true
all_possible each (x ∷ xs) = is_possible (each x) && all_possible each xs
