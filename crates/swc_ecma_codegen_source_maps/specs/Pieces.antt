-- What a piece of a text of mappings says, whatever follows.
use Rattle.std.specs.Prelude.{◌≡◌, ℕ, ◌+◌, ◌-◌, ◌*◌, ◌<◌, ◌==◌, nat_le, Bool, true, false, if◌then◌else◌, List, [], ◌∷◌, ◌++◌, Some}
use Rattle.std.specs.Option.{IfSome}
use Rattle.swc_ecma_codegen_source_maps.specs.declared.mappings.Mapping.{Mapping}
use Rattle.swc_ecma_codegen_source_maps.specs.declared.mappings.Original.{Original}
use Rattle.swc_ecma_codegen_source_maps.specs.declared.mappings.Reached.{Reached}
use Rattle.swc_ecma_codegen_source_maps.specs.Mappings.{Item, fields_in, items, mappings_from, numbers, segment}

-- a text grew by a piece, of which this holds
abbrev pub Grows : (List ℕ → Type 0) → List ℕ → List ℕ → Type 0
Grows P old new = (piece : List ℕ) × (new ≡ old ++ piece) × P piece

-- neither `,` nor `;` is among these
abbrev pub IsUnmarked : List ℕ → Type 0
IsUnmarked [] = Unit {0}
IsUnmarked (c ∷ cs) = ((c == 44) ≡ false) × ((c == 59) ≡ false) × IsUnmarked cs

-- digits of a number
abbrev pub SaysNumber : ℕ → List ℕ → Type 0
SaysNumber n piece = IsUnmarked piece × ((more ns : List ℕ) → numbers more ≡ Some ns → numbers (piece ++ more) ≡ Some (n ∷ ns))

-- how far it is from one number to another, twice, and odd if the other is less
abbrev pub distance : ℕ → ℕ → ℕ
distance from to = if nat_le from to then 2 * (to - from) else 2 * (from - to) + 1

-- digits of fields, behind those before
abbrev pub SaysFields : List ℕ → List ℕ → List ℕ → Type 0
SaysFields before fields piece = IsUnmarked piece × (fields_in piece before ≡ Some fields)

-- what fields are counted from
abbrev pub fields_before : Reached → List ℕ
fields_before r = r.column ∷ r.source ∷ r.line_there ∷ r.column_there ∷ r.name ∷ []

-- behind a segment
abbrev pub FollowsSegment : ℕ → List ℕ → List Mapping → List ℕ → Type 0
FollowsSegment line before mappings text =
    (c : ℕ) (cs : List ℕ) → IsUnmarked (c ∷ cs) → (rest : List Item) × (items ((c ∷ cs) ++ text) ≡ segment (c ∷ cs) ∷ rest) × (mappings_from line before rest ≡ Some mappings)

-- A text goes on with these mappings: behind a segment of a line, or where the line begins.
abbrev pub GoesOnIn : Bool → ℕ → List ℕ → List Mapping → List ℕ → Type 0
GoesOnIn true line before mappings text = FollowsSegment line before mappings text
GoesOnIn false line before mappings text = mappings_from line before (items text) ≡ Some mappings

abbrev pub GoesOn : Reached → List Mapping → List ℕ → Type 0
GoesOn r mappings text = GoesOnIn r.has_begun r.line (fields_before r) mappings text

-- a piece leads on without a mapping
abbrev pub Leads : Reached → Reached → List ℕ → Type 0
Leads r next piece = (mappings : List Mapping) (text : List ℕ) → GoesOn next mappings text → GoesOn r mappings (piece ++ text)

-- a piece says a mapping
abbrev pub SaysMapping : Reached → Mapping → Reached → List ℕ → Type 0
SaysMapping r mapping next piece = (mappings : List Mapping) (text : List ℕ) → GoesOn next mappings text → GoesOn r (mapping ∷ mappings) (piece ++ text)

-- a `,` behind a segment
abbrev pub comma : Bool → List ℕ
comma true = 44 ∷ []
comma false = []

-- each number of where something came from is below 2^31
abbrev pub IsOriginalSmall : Original → Type 0
IsOriginalSmall original = (original.source < 2147483648) × (original.place.line < 2147483648) × (original.place.col < 2147483648) × IfSome original.name (λ name. name < 2147483648)

-- and of a mapping, its line in the text aside
abbrev pub IsMappingSmall : Mapping → Type 0
IsMappingSmall mapping = (mapping.generated.col < 2147483648) × IfSome mapping.original IsOriginalSmall

-- each number is below 2^31
abbrev pub AreSmall : Reached → Type 0
AreSmall r = (r.column < 2147483648) × (r.source < 2147483648) × (r.line_there < 2147483648) × (r.column_there < 2147483648) × (r.name < 2147483648)
