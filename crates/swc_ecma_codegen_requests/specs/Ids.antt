-- What requests are known by.
use Rattle.std.specs.Prelude.{◌≡◌, ◌≢◌, ◌≤◌, ◌⊎◌, ℕ, false, List, ◌++◌, All, Option, Some, None}
use Rattle.serde_json.specs.Data.{Data, depth}
use Rattle.serde_json.specs.Read.{read, max_depth}
use Rattle.serde_json.specs.Written.{compact_text, has_float}

-- a text is a part of another
abbrev pub IsPartOf : List ℕ → List ℕ → Type 0
IsPartOf text part = (before : List ℕ) × (after : List ℕ) × (text ≡ before ++ (part ++ after))

-- a part of a line, without LF
abbrev pub StandsIn : List ℕ → List ℕ → Type 0
StandsIn line part = IsPartOf line part × All (λ x. x ≢ 10) part

-- A text stands for the id of a line: it reads as this, unless that nests too deep to be read. It is the line's own, or compact.
pub record IsTextOf (line : List ℕ) (id : Data) (text : List ℕ) : Type 0 where
  pub reads : depth id ≤ max_depth → read text ≡ Some id
  pub bytes : StandsIn line text ⊎ (has_float id ≡ false → text ≡ compact_text id)

-- A line of which no request is read is known by nothing, or by a part of it that reads as some value.
abbrev pub IsKnownIn : List ℕ → Option (List ℕ) → Type 0
IsKnownIn line None = Unit {0}
IsKnownIn line (Some text) = StandsIn line text × ((value : Data) × (read text ≡ Some value))

-- A request with an id is known by a text of it, and one without an id by nothing.
abbrev pub IsKnownBy : List ℕ → Option Data → Option (List ℕ) → Type 0
IsKnownBy line None None = Unit {0}
IsKnownBy line None (Some text) = ⊥
IsKnownBy line (Some id) None = ⊥
IsKnownBy line (Some id) (Some text) = IsTextOf line id text
