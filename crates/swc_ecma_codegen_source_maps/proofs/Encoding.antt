-- Which mappings can be written: a step on, and at the end.
use Rattle.std.proofs.Common.{◌≡◌, ◌∙◌, ℕ, ◌+◌, ◌<◌, ◌≤◌, Bool, true, false, ◌&&◌, leb, List, length, drop, get_or, refl, sym, ap, subst}
use Rattle.std.specs.List.{list_all}
use Rattle.std.proofs.Math.ListN.{drop_of_length-le}
use Rattle.std.proofs.lemmas.Bool.{and_parts, leb-true}
use Rattle.std.proofs.lemmas.List.{drop_more}
use Rattle.swc_ecma_codegen_source_maps.specs.declared.mappings.Mapping.{Mapping}
use Rattle.swc_ecma_codegen_source_maps.specs.Encodable.{fields, is_encodable_from, is_small}

-- from a mapping on
next_from : (line : ℕ) (ms : List Mapping) (i : ℕ) (d : Mapping) → i < length ms → is_encodable_from line (drop i ms) ≡ (leb line (get_or ms i d).generated.line && (list_all is_small (fields (get_or ms i d)) && is_encodable_from (get_or ms i d).generated.line (drop (i + 1) ms)))
next_from line ms i d h = ap (is_encodable_from line) (drop_more ms i d h)

fits_and : (a b c : Bool) → (a && b) ≡ true → (a && (b && c)) ≡ c
fits_and a b c e =
    let both : (a ≡ true) × (b ≡ true) = and_parts a b e in
    ap (λ x. x && (b && c)) both.0 ∙ ap (λ x. true && (x && c)) both.1

fails_and : (a b c : Bool) → (a && b) ≡ false → (a && (b && c)) ≡ false
fails_and true b c e = ap (λ x. x && c) e
fails_and false b c e = refl

pub next_encodable : (line : ℕ) (ms : List Mapping) (i : ℕ) (d : Mapping) (fits : Bool) → i < length ms → fits ≡ (leb line (get_or ms i d).generated.line && list_all is_small (fields (get_or ms i d))) → fits ≡ true → is_encodable_from line (drop i ms) ≡ is_encodable_from (get_or ms i d).generated.line (drop (i + 1) ms)
next_encodable line ms i d fits h f k =
    let m : Mapping = get_or ms i d in
    next_from line ms i d h ∙ fits_and (leb line m.generated.line) (list_all is_small (fields m)) (is_encodable_from m.generated.line (drop (i + 1) ms)) (sym f ∙ k)

pub none_encodable : (line : ℕ) (ms : List Mapping) (i : ℕ) (d : Mapping) (fits : Bool) → i < length ms → fits ≡ (leb line (get_or ms i d).generated.line && list_all is_small (fields (get_or ms i d))) → fits ≡ false → is_encodable_from line (drop i ms) ≡ false
none_encodable line ms i d fits h f k =
    let m : Mapping = get_or ms i d in
    next_from line ms i d h ∙ fails_and (leb line m.generated.line) (list_all is_small (fields m)) (is_encodable_from m.generated.line (drop (i + 1) ms)) (sym f ∙ k)

pub all_encodable : (line : ℕ) (ms : List Mapping) (i : ℕ) → length ms ≤ i → is_encodable_from line (drop i ms) ≡ true
all_encodable line ms i h = ap (is_encodable_from line) (drop_of_length-le ms h)

-- what is known of the next mapping
pub ahead : (line : ℕ) (ms : List Mapping) (i : ℕ) (d : Mapping) → i < length ms → is_encodable_from line (drop i ms) ≡ true → (line ≤ (get_or ms i d).generated.line) × (list_all is_small (fields (get_or ms i d)) ≡ true) × (is_encodable_from (get_or ms i d).generated.line (drop (i + 1) ms) ≡ true)
ahead line ms i d h k =
    let m : Mapping = get_or ms i d in
    let a : (leb line m.generated.line ≡ true) × ((list_all is_small (fields m) && is_encodable_from m.generated.line (drop (i + 1) ms)) ≡ true) = and_parts _ _ (sym (next_from line ms i d h) ∙ k) in
    let b : (list_all is_small (fields m) ≡ true) × (is_encodable_from m.generated.line (drop (i + 1) ms) ≡ true) = and_parts _ _ a.1 in
    (leb-true _ _ a.0, b.0, b.1)

-- on the line of the mapping that was written
pub ahead_there : (line there : ℕ) (ms : List Mapping) (i : ℕ) (d : Mapping) → i < length ms → is_encodable_from line (drop i ms) ≡ true → there ≡ (get_or ms i d).generated.line → is_encodable_from there (drop (i + 1) ms) ≡ true
ahead_there line there ms i d h k e = subst (λ n. is_encodable_from n (drop (i + 1) ms) ≡ true) (sym e) (ahead line ms i d h k).2
