-- What one level more says, and what is found in a link.
use Rattle.std.proofs.Common.{◌≡◌, Bool, true, false, sym, ap, ◌∙◌, subst, suc, Box, Global}
use Rattle.swc_ecma_codegen_tree.specs.declared.links.Link.{Link}
use Rattle.swc_ecma_codegen_parentheses.specs.declared.mends.Usage.{Usage}
use Rattle.swc_ecma_codegen_parentheses.specs.declared.recursion.Levels.{Levels}
use Rattle.swc_ecma_codegen_parentheses.specs.declared.recursion.Levels.TheViews as views
use Rattle.swc_ecma_codegen_parentheses.specs.Lists.{linked_as, where_found}
use Rattle.swc_ecma_codegen_parentheses.specs.Whole.{same_to}
use Rattle.swc_ecma_codegen_parentheses.specs.Depths.{depth, same_levels}

one_level : {N C X : Type 0} (held : (Usage → X → X → Type 0) → Usage → X → X → Type 0) (levels fewer : Levels N C) (box : Box (Levels N C) Global) (usage : Usage) (a b : X) → levels ≡ views.More box → fewer ≡ box.value
    → held (same_levels held fewer) usage a b → same_levels held levels usage a b
unfolding same_to depth
one_level held levels fewer box usage a b is below said = subst (λ k. same_to held k usage a b) (sym (ap depth is ∙ ap (λ l. suc (depth l)) (sym below))) said

-- the same of what links hold
pub one_level_linked : {N C K X : Type 0} (held : (Usage → X → X → Type 0) → Usage → X → X → Type 0) (levels fewer : Levels N C) (box : Box (Levels N C) Global) (usage : Usage) (a b : Link K X) → levels ≡ views.More box → fewer ≡ box.value
    → linked_as usage (held (same_levels held fewer)) a b → linked_as usage (same_levels held levels) a b
unfolding linked_as
one_level_linked held levels fewer box usage a b is below said = one_level held levels fewer box usage a.node.value b.node.value is below said

-- What holds where a node was found, and where the link stays, holds of what both links hold.
pub found_or_kept : {K X : Type 0} {R : X → X → Type 0} (m : Usage → X → X → Type 0) (usage : Usage) → ((a b : X) → R a b → m usage a b) → ((a b : X) → a ≡ b → m usage a b)
    → (found : Bool) (a b : Link K X) → where_found found R a b → linked_as usage m a b
unfolding where_found linked_as
found_or_kept m usage if_found if_kept true a b said = if_found a.node.value b.node.value said
found_or_kept m usage if_found if_kept false a b same = if_kept a.node.value b.node.value (ap (λ (l : Link _ _). l.node.value) same)
