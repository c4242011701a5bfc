-- What a link lends to be changed.
use Rattle.std.specs.Prelude.{◌≡◌, Option, Some}

-- Both hold a node that is found in the same way, and these stand in a relation.
pub data Lent {X T : Type 0} (node_in : X → Option T) (R : T → T → Type 0) (n r : X) : Type 0 where
  lent : {a b : T} → node_in n ≡ Some a → node_in r ≡ Some b → R a b → Lent node_in R n r
