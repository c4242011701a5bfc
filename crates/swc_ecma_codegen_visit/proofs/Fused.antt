-- One map of what holds a node behind another is one map.
use Rattle.std.proofs.Common.{◌≡◌, refl, ap, ◌∙◌, Option, Some, None}
use Rattle.std.specs.Prelude.{Box}
use Rattle.std.specs.declared.alloc.Global.{Global}
use Rattle.std.specs.declared.vec.Vec.{Vec}
use Rattle.std.specs.formers.vec.Vec.{mapped as vec_mapped, the_former}
use mathlib.Core.Former.{map-map, this}
use Rattle.swc_ecma_codegen_visit.specs.Mapping.{map_option, map_box}
use Rattle.swc_ecma_codegen_visit.proofs.Rules.{in_vec}

pub option_fused : {A : Type 0} (g h both : A → A) → ((x : A) → g (h x) ≡ both x) → (o : Option A) → map_option g (map_option h o) ≡ map_option both o
option_fused g h both same None = refl
option_fused g h both same (Some x) = ap Some (same x)

pub vec_fused : {A : Type 0} (g h both : A → A) → ((x : A) → g (h x) ≡ both x) → (v : Vec A Global) → vec_mapped g (vec_mapped h v) ≡ vec_mapped both v
vec_fused {A} g h both same v = map-map (the_former this Global) A A A h g v ∙ in_vec same v

pub box_fused : {A : Type 0} (g h both : A → A) → ((x : A) → g (h x) ≡ both x) → (b : Box A Global) → map_box g (map_box h b) ≡ map_box both b
box_fused g h both same b = λ i. record b { value = same b.value i }
