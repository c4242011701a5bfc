-- What two links, two options and two lists of nodes have in common.
use Rattle.std.specs.Prelude.{◌≡◌, ⊤, Bool, true, false, List, [], ◌∷◌, Option, Some, None}
use Rattle.swc_ecma_codegen_tree.specs.declared.links.Link.{Link}
use Rattle.swc_ecma_codegen_syntax.specs.declared.nonterminals.Nonterminal.{Nonterminal}
use Rattle.swc_ecma_codegen_parentheses.specs.declared.mends.Usage.{Usage}
use Rattle.swc_ecma_codegen_parentheses.specs.Operands.{in_brackets}
use Rattle.swc_ecma_codegen_parentheses.specs.declared.mends.Usage.TheVariants as usages

-- their elements stand in a relation, one by one
pub data Pairwise {A : Type 0} (R : A → A → Type 0) : List A → List A → Type 0 where
  nothing : Pairwise R [] []
  more : {x y : A} {xs ys : List A} → R x y → Pairwise R xs ys → Pairwise R (x ∷ xs) (y ∷ ys)

-- both are none, or both are there and stand in a relation
unfoldable pub optionally : {A : Type 0} → (A → A → Type 0) → Option A → Option A → Type 0
optionally R None None = ⊤
optionally R (Some x) (Some y) = R x y
optionally R _ _ = ⊥

-- what they hold stands in a relation, by how that is used
unfoldable pub linked_as : {K X : Type 0} → Usage → (Usage → X → X → Type 0) → Link K X → Link K X → Type 0
linked_as usage m n r = m usage n.node.value r.node.value

-- the same where it is used as a value
abbrev pub linked : {K X : Type 0} → (Usage → X → X → Type 0) → Link K X → Link K X → Type 0
linked m n r = linked_as usages.Value m n r

-- the same where this nonterminal stands in brackets
abbrev pub bracketed : {K X : Type 0} → Nonterminal → (Usage → X → X → Type 0) → Link K X → Link K X → Type 0
bracketed place m n r = linked_as (in_brackets place) m n r

-- what they hold stands in a relation where a node was found in it, and else they are the same link
unfoldable pub where_found : {K X : Type 0} → Bool → (X → X → Type 0) → Link K X → Link K X → Type 0
where_found true R n r = R n.node.value r.node.value
where_found false R n r = n ≡ r
