-- A part of a text without a certain byte.
use Rattle.std.specs.Prelude.{◌≡◌, ℕ, ◌≤◌, ◌<◌, false, List, ◌==◌, get_or}

-- none of these places holds it
abbrev pub LacksBetween : ℕ → List ℕ → ℕ → ℕ → Type 0
LacksBetween byte text from to = (k : ℕ) → from ≤ k → k < to → (get_or text k 0 == byte) ≡ false
