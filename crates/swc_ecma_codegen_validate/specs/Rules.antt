-- What is asked of a tree, as data: the rules of each node, and where they stand. And what a walk over them finds first.
use Rattle.std.specs.Prelude.{◌≡◌, ◌⊎◌, ℕ, suc, Bool, true, false, List, [], ◌∷◌, map, reverse, codes, Option, Some, None}
use Rattle.swc_ecma_codegen_tree.specs.declared.links.Link.{Link}
use Rattle.swc_ecma_codegen_grammar.specs.declared.roles.Role.{Role}
use Rattle.swc_ecma_codegen_validate.specs.declared.faults.Broken.{Broken}
use Rattle.swc_ecma_codegen_validate.specs.declared.faults.Step.{Step}
use Rattle.swc_ecma_codegen_validate.specs.declared.faults.Step.TheVariants as steps

-- a step from a node to one below it: to a field by its name, or to an element of a list by its index
pub data Place : Type 0 where
  Named : (name : List ℕ) → Place
  Indexed : (index : ℕ) → Place

abbrev pub place_of : Step → Place
place_of (steps.Field name) = Named name.now
place_of (steps.Element index) = Indexed index

-- ---- what is found

-- Which path leads to the first rule that is broken, and the words of that rule; or that no rule is broken.
pub record Findings : Type 1 where
  pub first : List Place → List ℕ → Type 0
  pub none : Type 0

-- where nothing is asked
abbrev pub free : Findings
free = record { first = λ path words. ⊥; none = Unit {0} }

-- by one rule
abbrev pub by_rule : Bool → List ℕ → Findings
by_rule holds rule = record { first = λ path words. (holds ≡ false) × (path ≡ []) × (words ≡ rule); none = holds ≡ true }

-- by these, and then by those
abbrev pub in_turn : Findings → Findings → Findings
in_turn a b = record { first = λ path words. a.first path words ⊎ (a.none × b.first path words); none = a.none × b.none }

-- a step below
abbrev pub below : Place → Findings → Findings
below place a = record { first = λ path words. (rest : List Place) × (path ≡ place ∷ rest) × a.first rest words; none = a.none }

-- in each element, from the index of the first of these on
unfoldable pub in_each : {A : Type 0} → (A → Findings) → ℕ → List A → Findings
in_each find index [] = free
in_each find index (x ∷ xs) = in_turn (below (Indexed index) (find x)) (in_each find (suc index) xs)

-- in what is there, if it is
unfoldable pub in_some : {A : Type 0} → (A → Findings) → Option A → Findings
in_some find None = free
in_some find (Some x) = find x

-- ---- what is asked

-- Nothing; a rule of the node itself; these rules and then those; rules of what is a step below; of each element of a list; of what is there,
-- if it is; of what a link holds, in its role; of what has no links.
pub data Rules (X : Type 0) : Type 1 where
  Free : Rules X
  Rule : (holds : Bool) → (words : List ℕ) → Rules X
  Both : (first second : Rules X) → Rules X
  Below : (place : Place) → (rules : Rules X) → Rules X
  Each : {A : Type 0} → (nodes : List A) → (rules : A → Rules X) → Rules X
  Optional : {A : Type 0} → (node : Option A) → (rules : A → Rules X) → Rules X
  Linked : (held : X) → (role : Role) → Rules X
  Found : (findings : Findings) → Rules X

infixr 20 ◌&◌
abbrev pub ◌&◌ : {X : Type 0} → Rules X → Rules X → Rules X
a & b = Both a b

abbrev pub rule : {X : Type 0} → Bool → List ℕ → Rules X
rule holds words = Rule holds words

-- a node of a sort that has no place there
abbrev pub not_here : {X : Type 0} → Rules X
not_here = Rule false (codes "a node of this kind may not stand here")

abbrev pub at : {X : Type 0} → List ℕ → Rules X → Rules X
at name rules = Below (Named name) rules

abbrev pub link : {K X : Type 0} → Link K X → Role → Rules X
link n role = Linked n.node.value role

-- What is found of what is asked, where `find` says it of what links hold.
unfoldable pub findings : {X : Type 0} → (X → Role → Findings) → Rules X → Findings
findings find Free = free
findings find (Rule holds words) = by_rule holds words
findings find (Both a b) = in_turn (findings find a) (findings find b)
findings find (Below place a) = below place (findings find a)
findings find (Each nodes rules) = in_each (λ x. findings find (rules x)) 0 nodes
findings find (Optional node rules) = in_some (λ x. findings find (rules x)) node
findings find (Linked held role) = find held role
findings find (Found a) = a

-- there are no links
abbrev pub no_links : ⊥ → Role → Findings
no_links held role = free

-- a part without links
abbrev pub leaf : {X : Type 0} → Rules ⊥ → Rules X
leaf rules = Found (findings no_links rules)

-- ---- what is told

-- the steps down to the node: those up are kept
abbrev pub path_of : Broken → List Place
path_of broken = map place_of (reverse broken.way_up.items)

-- what is told is what is found
abbrev pub Finds : Findings → Option Broken → Type 0
Finds a None = a.none
Finds a (Some broken) = a.first (path_of broken) broken.rule.now
