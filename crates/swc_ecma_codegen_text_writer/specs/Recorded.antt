-- What the pairs of a writer say: positions are recorded truly.
use Rattle.std.specs.Prelude.{◌≡◌, ℕ, false, List, [], ◌∷◌, ◌++◌, ⊤}
use Rattle.swc_ecma_codegen_text_writer.specs.Places.{Place, after_text}
use Rattle.swc_ecma_codegen_text_writer.specs.Sheet.{Sheet, Pair, has_pair, pair_at}

-- Each pair holds a place in this text, which begins at `p`, and no pair holds one before that of an earlier pair. So
-- `a;` LF `b`, written after nothing, has the places 0:0, 0:1, 0:2, 1:0 and 1:1: pairs with 0:0 and then 1:0 stand in it,
-- and with 1:0 and then 0:0, or with 2:0, don't. A line ends with LF, CR, or CR and LF, and a column is counted in UTF-16 units
-- from there.
unfoldable pub StandIn : Place → List ℕ → List Pair → Type 0
StandIn p text [] = ⊤
StandIn p text (x ∷ xs) =
    (before rest : List ℕ) × (text ≡ before ++ rest) × (x ≡ pair_at x.0 (after_text before p)) × StandIn (after_text before p) rest xs

-- No pair of the second list stands in the first, or twice in its own.
unfoldable pub AreNew : List Pair → List Pair → Type 0
AreNew known [] = ⊤
AreNew known (x ∷ xs) = (has_pair x known ≡ false) × AreNew (known ++ (x ∷ [])) xs

-- From one sheet to another a text was written, and pairs were recorded that are true: each holds the place that the text had
-- reached then, they stand in the order of their places, and none stands there twice.
pub record RecordsTruly (old new : Sheet) : Type 0 where
  pub added : List Pair
  pub is_added : new.pairs ≡ old.pairs ++ added
  pub text : List ℕ
  pub is_text : new.text ≡ old.text ++ text
  pub are_true : StandIn old.place text added
  pub are_new : AreNew old.pairs added
  pub place : new.place ≡ after_text text old.place
