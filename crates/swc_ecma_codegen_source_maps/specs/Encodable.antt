-- Which mappings can be written.
use Rattle.std.specs.Prelude.{ℕ, Bool, true, ◌&&◌, nat_lt, nat_le, List, [], ◌∷◌, Option, Some, None}
use Rattle.std.specs.List.{list_all}
use Rattle.swc_ecma_codegen_source_maps.specs.declared.mappings.Mapping.{Mapping}
use Rattle.swc_ecma_codegen_source_maps.specs.declared.mappings.Original.{Original}

abbrev pub name_fields : Option ℕ → List ℕ
name_fields None = []
name_fields (Some name) = name ∷ []

abbrev pub original_fields : Option Original → List ℕ
original_fields None = []
original_fields (Some original) = original.source ∷ original.place.line ∷ original.place.col ∷ name_fields original.name

-- what a segment says of a mapping
abbrev pub fields : Mapping → List ℕ
fields mapping = mapping.generated.col ∷ original_fields mapping.original

-- below 2^31, as each number of a map is to be
abbrev pub is_small : ℕ → Bool
is_small n = nat_lt n 2147483648

-- each line is the last one's or a later one, and each number is below 2^31
abbrev pub is_encodable_from : ℕ → List Mapping → Bool
is_encodable_from line [] = true
is_encodable_from line (mapping ∷ mappings) =
    nat_le line mapping.generated.line && (list_all is_small (fields mapping) && is_encodable_from mapping.generated.line mappings)

abbrev pub is_encodable : List Mapping → Bool
is_encodable mappings = is_encodable_from 0 mappings
