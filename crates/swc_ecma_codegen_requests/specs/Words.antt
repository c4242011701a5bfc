-- What the words of a run of `ecmaprint` ask for.
use Rattle.std.specs.Prelude.{ℕ, Bool, false, ◌||◌, List, [], ◌∷◌, codes, String, string_bytes}
use Rattle.std.specs.Str.{bytes_eq}

-- a word asks for a text about the program
abbrev pub is_asking : List ℕ → Bool
is_asking word = bytes_eq word (codes "--help") || bytes_eq word (codes "--version")

-- the first word does
abbrev pub is_told : {Z : Type 0} → List (String Z) → Bool
is_told [] = false
is_told (word ∷ words) = is_asking (string_bytes word)
