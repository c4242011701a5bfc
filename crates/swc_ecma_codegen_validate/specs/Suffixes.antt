-- The last character of a text, read from the left.
use Rattle.std.specs.Prelude.{ℕ, Bool, List, [], ◌∷◌, ◌==◌}

-- The last of these is `n`; without any, the last one before them was or wasn't.
unfoldable pub ends_with_n : Bool → List ℕ → Bool
ends_with_n last [] = last
ends_with_n last (c ∷ cs) = ends_with_n (c == 110) cs
