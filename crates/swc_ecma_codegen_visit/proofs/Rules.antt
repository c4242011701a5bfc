-- Where the map of what holds a node is another map of the same type. `D` is the other map, as it computes where what is held is shown.
use Rattle.std.proofs.Common.{◌≡◌, refl, ap, ◌∙◌, Option, Some, None}
use Rattle.std.specs.Prelude.{Box}
use Rattle.std.specs.declared.alloc.Global.{Global}
use Rattle.std.specs.declared.vec.Vec.{Vec}
use Rattle.std.specs.formers.vec.Vec.{mapped as vec_mapped, the_former}
use mathlib.Core.Former.{map-id, this}
use Rattle.swc_ecma_codegen_visit.specs.Mapping.{map_option, map_box}

pub under : {A B : Type 0} (con : A → B) {g d : A → A} → ((x : A) → g x ≡ d x) → (x : A) → con (g x) ≡ con (d x)
under con same x = λ i. con (same x i)

pub in_vec : {A : Type 0} {g d : A → A} → ((x : A) → g x ≡ d x) → (v : Vec A Global) → vec_mapped g v ≡ vec_mapped d v
in_vec same v = λ i. vec_mapped (λ x. same x i) v

pub in_box : {A : Type 0} {g d : A → A} (D : Box A Global → Box A Global) → ((b : Box A Global) (x : A) → record b { value = d x } ≡ D (record b { value = x }))
    → ((x : A) → g x ≡ d x) → (b : Box A Global) → map_box g b ≡ D b
in_box D is same b = (λ i. record b { value = same b.value i }) ∙ is b b.value

pub in_option : {A : Type 0} {g d : A → A} (D : Option A → Option A) → None ≡ D None → ((x : A) → Some (d x) ≡ D (Some x))
    → ((x : A) → g x ≡ d x) → (o : Option A) → map_option g o ≡ D o
in_option D none some same None = none
in_option D none some same (Some x) = ap Some (same x) ∙ some x

pub option_kept : {A : Type 0} {g : A → A} → ((x : A) → g x ≡ x) → (o : Option A) → map_option g o ≡ o
option_kept same None = refl
option_kept same (Some x) = ap Some (same x)

pub vec_kept : {A : Type 0} {g : A → A} → ((x : A) → g x ≡ x) → (v : Vec A Global) → vec_mapped g v ≡ v
vec_kept {A} same v = in_vec same v ∙ map-id (the_former this Global) A v
