-- What the fields of a segment say.
use Rattle.std.proofs.Common.{◌≡◌, ◌∙◌, ℕ, ◌+◌, ◌-◌, ◌*◌, ◌<◌, ◌≤◌, true, false, ltb, leb, cond, List, [], ◌∷◌, ◌++◌, Option, Some, None, refl, sym, ap, arith, inl, inr, append_assoc, append-nil, le-leb}
use Rattle.std.specs.Option.{option_and_then, option_map, IfSome}
use Rattle.std.specs.List.{list_all}
use Rattle.std.proofs.lemmas.Bool.{and_parts, cases_lt, ltb-true}
use Rattle.std.proofs.lemmas.Bool.Decides.{nat_tests}
use Rattle.std.proofs.lemmas.Option.{option_and_then_some}
use Rattle.swc_ecma_codegen_source_maps.specs.declared.mappings.Mapping.{Mapping}
use Rattle.swc_ecma_codegen_source_maps.specs.declared.mappings.Original.{Original}
use Rattle.swc_ecma_codegen_source_maps.specs.Encodable.{fields, is_small, name_fields, original_fields}
use Rattle.swc_ecma_codegen_source_maps.specs.Mappings.{mapping_of, moved, moved_all, numbers}
use Rattle.swc_ecma_codegen_source_maps.specs.Pieces.{distance, Grows, IsMappingSmall, IsOriginalSmall, IsUnmarked, SaysFields, SaysNumber}

forward : (from to : ℕ) → from ≤ to → to < 2147483648 → moved (2 * (to - from)) from ≡ Some to
unfolding moved
forward from to h l = grind (arith, nat_tests)

back : (from to : ℕ) → to < from → from < 2147483648 → moved (2 * (from - to) + 1) from ≡ Some to
unfolding moved
back from to h l = grind (arith, nat_tests)

is_less : (a b : ℕ) → a < b → leb b a ≡ false
is_less a b e = grind (arith, nat_tests)

-- the distance to a field leads there
moved_distance : (from to : ℕ) → from < 2147483648 → to < 2147483648 → moved (distance from to) from ≡ Some to
moved_distance from to h l =
    elim (cases_lt to from) [
      | inl less ↦ ap (λ b. moved (cond b (2 * (to - from)) (2 * (from - to) + 1)) from) (is_less to from less) ∙ back from to less h
      | inr more ↦ ap (λ b. moved (cond b (2 * (to - from)) (2 * (from - to) + 1)) from) (le-leb from to more) ∙ forward from to more l
    ]

unmarked_both : (a b : List ℕ) → IsUnmarked a → IsUnmarked b → IsUnmarked (a ++ b)
unmarked_both [] b u v = v
unmarked_both (c ∷ cs) b u v = (u.0, u.1, unmarked_both cs b u.2 v)

-- a field before others
field_before : (n from field : ℕ) (before fields a b : List ℕ) → SaysNumber n a → moved n from ≡ Some field → SaysFields before fields b → SaysFields (from ∷ before) (field ∷ fields) (a ++ b)
field_before n from field before fields a b s m t = (
  unmarked_both a b s.0 t.0,
  option_and_then_some (λ ns. moved_all ns before) (numbers b) fields t.1
      (λ ns p q. ap (λ o. option_and_then (λ all. moved_all all (from ∷ before)) o) (s.1 b ns p)
      ∙ (ap (λ o. option_and_then (λ f. option_map (λ fs. f ∷ fs) (moved_all ns before)) o) m
      ∙ ap (λ o. option_map (λ fs. field ∷ fs) o) q)),
)

pub no_fields : (before old : List ℕ) → Grows (SaysFields before []) old old
no_fields before old = ([], sym (append-nil old), (tt, refl))

pub field_then : (from field : ℕ) (before fields old text new : List ℕ) → from < 2147483648 → field < 2147483648 → Grows (SaysNumber (distance from field)) old text → Grows (SaysFields before fields) text new → Grows (SaysFields (from ∷ before) (field ∷ fields)) old new
field_then from field before fields old text new h l s t = (
  s.0 ++ t.0,
  t.1 ∙ (ap (λ x. x ++ t.0) s.1 ∙ append_assoc old s.0 t.0),
  field_before (distance from field) from field before fields s.0 t.0 s.2 (moved_distance from field h l) t.2,
)

-- a mapping is that of its fields
named : (line column source at_line at_column : ℕ) (name : Option ℕ) →
    mapping_of line (column ∷ source ∷ at_line ∷ at_column ∷ name_fields name)
    ≡ Some (record { generated = record { line = line; col = column }; original = Some (record { source = source; place = record { line = at_line; col = at_column }; name = name }) })
named line column source at_line at_column None = refl
named line column source at_line at_column (Some name) = refl

placed : (line column : ℕ) (original : Option Original) → mapping_of line (column ∷ original_fields original) ≡ Some (record { generated = record { line = line; col = column }; original = original })
placed line column None = refl
placed line column (Some original) = named line column original.source original.place.line original.place.col original.name

pub mapping_of_fields : (m : Mapping) → mapping_of m.generated.line (fields m) ≡ Some m
mapping_of_fields m = placed m.generated.line m.generated.col m.original

-- ---- small numbers

small_name : (name : Option ℕ) → list_all is_small (name_fields name) ≡ true → IfSome name (λ n. n < 2147483648)
small_name None h = tt
small_name (Some name) h = ltb-true name 2147483648 (and_parts (ltb name 2147483648) true h).0

small_original : (original : Option Original) → list_all is_small (original_fields original) ≡ true → IfSome original IsOriginalSmall
small_original None h = tt
small_original (Some original) h =
    let a : (ltb original.source 2147483648 ≡ true) × (list_all is_small (original.place.line ∷ original.place.col ∷ name_fields original.name) ≡ true) = and_parts _ _ h in
    let b : (ltb original.place.line 2147483648 ≡ true) × (list_all is_small (original.place.col ∷ name_fields original.name) ≡ true) = and_parts _ _ a.1 in
    let c : (ltb original.place.col 2147483648 ≡ true) × (list_all is_small (name_fields original.name) ≡ true) = and_parts _ _ b.1 in
    (ltb-true _ _ a.0, ltb-true _ _ b.0, ltb-true _ _ c.0, small_name original.name c.1)

pub small_mapping : (m : Mapping) → list_all is_small (fields m) ≡ true → IsMappingSmall m
small_mapping m h =
    let a : (ltb m.generated.col 2147483648 ≡ true) × (list_all is_small (original_fields m.original) ≡ true) = and_parts _ _ h in
    (ltb-true _ _ a.0, small_original m.original a.1)
