-- What is written for a name that a parser found invalid: it put U+0000 after a backslash there.
use Rattle.std.specs.Prelude.{ℕ, Bool, false, List, [], ◌∷◌, ◌&&◌, ◌==◌, if◌then◌else◌}

-- A text without each U+0000 that comes right after a backslash. `after` says that a backslash came last.
unfoldable pub turned_after : Bool → List ℕ → List ℕ
turned_after after [] = []
turned_after after (c ∷ cs) = if after && (c == 0) then turned_after false cs else (c ∷ turned_after (c == 92) cs)

-- Backslash and U+0000 together stand for a backslash.
abbrev pub turned : List ℕ → List ℕ
turned bytes = turned_after false bytes
