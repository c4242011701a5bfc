-- The comments of a source text, by their positions.
use Rattle.std.specs.Prelude.{get_or, ℕ, Bool, false, is_some, ◌≡◌, ◌==◌, ◌%◌, if◌then◌else◌, List, [], ◌∷◌, ◌++◌, Option, None, Some}
use Rattle.std.specs.Option.{option_map}
use Rattle.std.specs.Prelude.{Vec}
use Rattle.std.specs.BTreeMap.{BTreeMap, get}
use Rattle.std.specs.declared.cmp.Ordering.{Ordering}
use Rattle.swc_ecma_codegen_common.specs.declared.positions.BytePos.{BytePos}
use Rattle.swc_ecma_codegen_grammar.specs.declared.comments.Comment.{Comment}

-- the comments of each position: those before it, and those after it
pub record Maps : Type 0 where
  pub leading : ℕ → Option (List Comment)
  pub trailing : ℕ → Option (List Comment)

-- those of an entry
unfoldable pub listed : {A : Type 0} → Option (List A) → List A
listed None = []
listed (Some xs) = xs

-- a map with one more behind the list at a position
unfoldable pub with : {A : Type 0} → ℕ → A → (ℕ → Option (List A)) → ℕ → Option (List A)
with pos x entries q = if pos == q then Some (listed (entries pos) ++ (x ∷ [])) else entries q

unfoldable pub with_leading : ℕ → Comment → Maps → Maps
with_leading pos c maps = record maps { leading = with pos c maps.leading }

unfoldable pub with_trailing : ℕ → Comment → Maps → Maps
with_trailing pos c maps = record maps { trailing = with pos c maps.trailing }

-- a map without the entry at a position
unfoldable pub without : {A : Type 0} → ℕ → (ℕ → Option A) → ℕ → Option A
without pos entries q = if pos == q then None else entries q

unfoldable pub without_leading : ℕ → Maps → Maps
without_leading pos maps = record maps { leading = without pos maps.leading }

unfoldable pub without_trailing : ℕ → Maps → Maps
without_trailing pos maps = record maps { trailing = without pos maps.trailing }

-- an ordered map of lists, as such a map
unfoldable pub lists_in : {Y : Type 0} → (BytePos → BytePos → Ordering) → BTreeMap BytePos (Vec Comment Y) → ℕ → Option (List Comment)
lists_in cmp entries pos = option_map (λ list. list.items) (get cmp entries (record { 0 = pos }))

-- the place of a position in a list of marks
unfoldable pub place : ℕ → ℕ
place pos = pos % 16384

-- whether a position is marked
unfoldable pub is_marked : List Bool → ℕ → Bool
is_marked marks pos = get_or marks (place pos) false

-- No position that isn't marked has an entry.
abbrev pub AreMarked : {A : Type 0} → List Bool → (ℕ → Option A) → Type 0
AreMarked marks entries = (pos : ℕ) → is_marked marks pos ≡ false → is_some (entries pos) ≡ false
