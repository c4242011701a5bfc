-- Which names take no memory.
use Rattle.std.specs.Prelude.{ℕ, Bool, true, false, List, [], ◌∷◌, ◌==◌, if◌then◌else◌, ⊤}
use Rattle.std.specs.declared.borrow.CowStr.{CowStr}
use Rattle.std.specs.declared.borrow.CowStr.TheVariants.{Borrowed, Owned}

-- some byte of a text is this one
unfoldable pub has_byte : ℕ → List ℕ → Bool
has_byte b [] = false
has_byte b (c ∷ cs) = if c == b then true else has_byte b cs

-- a text that is lent, so that it took no memory
abbrev pub IsLent : {A : Type 0} → CowStr A → Type 0
IsLent (Borrowed text) = ⊤
IsLent (Owned text) = ⊥
