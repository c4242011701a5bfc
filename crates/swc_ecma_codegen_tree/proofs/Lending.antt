-- What a holder ends as, where it lends a node that it holds through something else.
use Rattle.std.proofs.Common.{◌≡◌, sym, ap, ◌∙◌, subst, Box, Option, Some, None, MutBor}
use Rattle.std.proofs.lemmas.Option.{same_Some}
use Rattle.std.specs.Box.{with_value}
use Rattle.std.specs.Option.{OnSome, option_and_then, option_map}

-- what is said of where a node was lent holds, where one was
pub left_there : {A P : Type 0} (lent : Option A) (node : A) → lent ≡ Some node → OnSome lent P → P
left_there {A = A} {P = P} lent node is said = let Q : Option A → Type 0 = λ o. OnSome o P in subst Q is said

module _ {N P T : Type 0} (part_in : N → Option P) (node_in : P → Option T) (holder : N) (lent : Option (MutBor P)) (part : MutBor P) (is : lent ≡ Some part)
    (held : part_in holder ≡ Some part.now) (last : P → N)
    (holds : (p : P) → OnSome lent ((part_in (last p) ≡ Some p) × (part_in holder ≡ Some p → last p ≡ holder))) where
  -- what is left in the part's place, as it was
  pub as_it_was : (p : P) → p ≡ part.now → last p ≡ holder
  as_it_was p same = ap last same ∙ (left_there lent part is (holds part.now)).1 held

  -- the node in the part
  pub in_part : (node : Option (MutBor T)) (last_part : T → P)
      → ((w : T) → OnSome node ((node_in (last_part w) ≡ Some w) × (node_in part.now ≡ Some w → last_part w ≡ part.now)))
      → (w : T) → OnSome node ((option_and_then node_in (part_in (last (last_part w))) ≡ Some w) × (option_and_then node_in (part_in holder) ≡ Some w → last (last_part w) ≡ holder))
  in_part None last_part said w = said w
  in_part (Some _) last_part said w = (
    ap (option_and_then node_in) (left_there lent part is (holds (last_part w))).0 ∙ (said w).0,
    λ same. as_it_was (last_part w) ((said w).1 (ap (option_and_then node_in) (sym held) ∙ same)),
  )

-- the node that a field lends
pub in_field : {L N T : Type 0} (with_field : N → L) (node_in : N → Option T) (node : Option (MutBor T)) (field now : N) (last : T → N) → field ≡ now
    → ((w : T) → OnSome node ((node_in (last w) ≡ Some w) × (node_in field ≡ Some w → last w ≡ field)))
    → (w : T) → OnSome node ((node_in (last w) ≡ Some w) × (node_in now ≡ Some w → with_field (last w) ≡ with_field now))
in_field with_field node_in None field now last same said w = said w
in_field with_field node_in (Some _) field now last same said w =
    ((said w).0, λ left. ap with_field ((said w).1 (ap node_in same ∙ left) ∙ same))

module _ {H T Z : Type 0} (node_in : H → Option T) (box_in : H → Option (Box T Z)) (boxed : (h : H) → node_in h ≡ option_map (λ b. b.value) (box_in h))
    (holder : H) (lent : Option (MutBor (Box T Z))) (box : MutBor (Box T Z)) (is : lent ≡ Some box) (held : box_in holder ≡ Some box.now) (last : Box T Z → H)
    (holds : (b : Box T Z) → OnSome lent ((box_in (last b) ≡ Some b) × (box_in holder ≡ Some b → last b ≡ holder))) where
  value_of : Option (Box T Z) → Option T
  value_of o = option_map (λ b. b.value) o

  -- the node in the box
  pub in_box : (w : T) → (node_in (last (with_value box.now w)) ≡ Some w) × (node_in holder ≡ Some w → last (with_value box.now w) ≡ holder)
  unfolding value_of
  in_box w = (
    boxed (last (with_value box.now w)) ∙ ap value_of (left_there lent box is (holds (with_value box.now w))).0,
    λ left.
        let same : box.now.value ≡ w = same_Some box.now.value w (sym (ap value_of held) ∙ sym (boxed holder) ∙ left) in
        ap (λ v. last (with_value box.now v)) (sym same) ∙ (left_there lent box is (holds box.now)).1 held,
  )
