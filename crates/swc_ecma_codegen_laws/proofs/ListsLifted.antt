-- Lists: a law of the words holds of the plan.
use Rattle.std.specs.Prelude.{Bool, false, List, [], ◌∷◌, Option, Some, None, codes}
use Rattle.swc_ecma_codegen_tokens.specs.Run.{Part}
use Rattle.swc_ecma_codegen_emit.specs.Places.{Place}
use Rattle.swc_ecma_codegen_laws.proofs.OfWords.{OfWords, either}
use Rattle.swc_ecma_codegen_emit.specs.Lists.{comma, listed, in_order, if_some_at}

pub comma_holds : {holds : Bool → Part → Type 0} (words : OfWords holds) (bounded : Bool) (first : Bool) → holds bounded (comma first)
unfolding comma
comma_holds words bounded first = either words bounded first (words.none bounded) (words.and_then bounded (words.punct bounded (codes ",")) (words.formatting_space bounded))

pub listed_holds : {A : Type 0} {holds : Bool → Part → Type 0} (words : OfWords holds) (bounded : Bool) (each : A → Part) → ((x : A) → holds bounded (each x)) → (first : Bool) (x2 : List A) → holds bounded (listed each first x2)
unfolding listed
listed_holds words bounded each h_each first [] = words.none bounded
listed_holds words bounded each h_each first (x ∷ xs) = words.and_then bounded (comma_holds words bounded first) (words.and_then bounded (h_each x) (listed_holds words bounded each h_each false xs))

pub in_order_holds : {A : Type 0} {holds : Bool → Part → Type 0} (words : OfWords holds) (bounded : Bool) (each : A → Part) → ((x : A) → holds bounded (each x)) → (x1 : List A) → holds bounded (in_order each x1)
unfolding in_order
in_order_holds words bounded each h_each [] = words.none bounded
in_order_holds words bounded each h_each (x ∷ xs) = words.and_then bounded (h_each x) (in_order_holds words bounded each h_each xs)

pub if_some_at_holds : {A : Type 0} {holds : Bool → Part → Type 0} (words : OfWords holds) (bounded : Bool) (items : A → Place → Part) → ((x : A) (place : Place) → holds bounded (items x place)) → (x1 : Option A) (place : Place) → holds bounded (if_some_at items x1 place)
unfolding if_some_at
if_some_at_holds words bounded items h_items None place = words.none bounded
if_some_at_holds words bounded items h_items (Some x) place = h_items x place
