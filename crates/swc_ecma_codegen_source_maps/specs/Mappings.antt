-- What a text of mappings says: the field `mappings` of a source map, version 3. ECMA-426.
use Rattle.std.specs.Prelude.{ℕ, ◌+◌, ◌-◌, ◌*◌, ◌/◌, ◌%◌, ◌&&◌, ◌==◌, nat_lt, nat_le, if◌then◌else◌, List, [], ◌∷◌, ◌++◌, length, drop, map, Option, Some, None}
use Rattle.std.specs.List.{flat_map}
use Rattle.std.specs.Option.{option_and_then, option_map}
use Rattle.swc_ecma_codegen_source_maps.specs.declared.mappings.Mapping.{Mapping}

-- ---- digits and numbers

-- The value of a digit of base64: `A` is 0, `/` is 63. RFC 4648, table 1.
unfoldable pub digit_value : ℕ → Option ℕ
digit_value c =
    if nat_le 65 c && nat_le c 90 then Some (c - 65)
    else if nat_le 97 c && nat_le c 122 then Some (c - 71)
    else if nat_le 48 c && nat_le c 57 then Some (c + 4)
    else if c == 43 then Some 62
    else if c == 47 then Some 63
    else None

-- the five lowest bits of a number that goes on, before what it goes on with
abbrev pub lowest_bits : ℕ → List ℕ → Option (List ℕ)
lowest_bits bits [] = None
lowest_bits bits (n ∷ ns) = Some ((bits + 32 * n) ∷ ns)

-- A digit before numbers: below 32 it is a number, and else the lowest five bits of the first of them.
abbrev pub with_digit : ℕ → List ℕ → Option (List ℕ)
with_digit d ns = if nat_lt d 32 then Some (d ∷ ns) else lowest_bits (d - 32) ns

-- The numbers that a text of digits says (VLQ): `B` is 1, `gB` is 32, and `BgB` is both.
abbrev pub numbers : List ℕ → Option (List ℕ)
numbers [] = Some []
numbers (c ∷ cs) = option_and_then (λ d. option_and_then (with_digit d) (numbers cs)) (digit_value c)

-- ---- fields

-- A number goes half of it forward, or back if it is odd; a field is never below 0, and no step is of 2^31 or more. 1, which would be a
-- step back of 0, stands for -2^31.
unfoldable pub moved : ℕ → ℕ → Option ℕ
moved n from =
    if nat_le 4294967296 n then None
    else if n % 2 == 0 then Some (from + n / 2)
    else if nat_lt 1 n && nat_le (n / 2) from then Some (from - n / 2)
    else None

-- Numbers say fields, each by its distance from that field before.
abbrev pub moved_all : List ℕ → List ℕ → Option (List ℕ)
moved_all [] before = Some []
moved_all (n ∷ ns) [] = None
moved_all (n ∷ ns) (from ∷ before) = option_and_then (λ field. option_map (λ fields. field ∷ fields) (moved_all ns before)) (moved n from)

-- the fields of a segment
abbrev pub fields_in : List ℕ → List ℕ → Option (List ℕ)
fields_in segment before = option_and_then (λ ns. moved_all ns before) (numbers segment)

-- A segment of a line has one field, four or five: its column; its source, and the line and the column there; and a name.
abbrev pub mapping_of : ℕ → List ℕ → Option Mapping
mapping_of line (column ∷ []) = Some (record { generated = record { line = line; col = column }; original = None })
mapping_of line (column ∷ source ∷ at_line ∷ at_column ∷ []) =
    Some (record { generated = record { line = line; col = column }; original = Some (record { source = source; place = record { line = at_line; col = at_column }; name = None }) })
mapping_of line (column ∷ source ∷ at_line ∷ at_column ∷ name ∷ []) =
    Some (record { generated = record { line = line; col = column }; original = Some (record { source = source; place = record { line = at_line; col = at_column }; name = Some name }) })
mapping_of line fields = None

-- ---- lines and segments

-- a character before the parts of a text
abbrev pub begun_by : ℕ → List (List ℕ) → List (List ℕ)
begun_by c [] = (c ∷ []) ∷ []
begun_by c (part ∷ parts) = (c ∷ part) ∷ parts

-- the parts of a text between such marks: of `a,,b` and `,` they are `a`, nothing and `b`
abbrev pub parts : ℕ → List ℕ → List (List ℕ)
parts mark [] = [] ∷ []
parts mark (c ∷ cs) = if c == mark then [] ∷ parts mark cs else begun_by c (parts mark cs)

-- what a text of mappings is made of
pub data Item : Type 0 where
  segment : List ℕ → Item
  line_end : Item

-- Between two `,` of a line stands a segment; an empty line has none.
abbrev pub line_items : List ℕ → List Item
line_items [] = line_end ∷ []
line_items (c ∷ cs) = map segment (parts 44 (c ∷ cs)) ++ (line_end ∷ [])

-- between two `;` stands a line
abbrev pub items : List ℕ → List Item
items text = flat_map line_items (parts 59 text)

-- The mappings that items say on a line, behind a segment with such fields, or several that give them. A line begins at the column 0.
abbrev pub mappings_from : ℕ → List ℕ → List Item → Option (List Mapping)
mappings_from line before [] = Some []
mappings_from line before (line_end ∷ items) = mappings_from (line + 1) (0 ∷ drop 1 before) items
mappings_from line before (segment text ∷ items) =
    option_and_then
    (λ fields. option_and_then (λ mapping. option_map (λ mappings. mapping ∷ mappings) (mappings_from line (fields ++ drop (length fields) before) items)) (mapping_of line fields))
    (fields_in text before)

-- The mappings that a text says, in its order; none if it is no such text: `AAAA,CACC;AACA` are three, at 0:0, at 0:1 and at 1:0.
unfoldable pub decoded : List ℕ → Option (List Mapping)
decoded text = mappings_from 0 (0 ∷ 0 ∷ 0 ∷ 0 ∷ 0 ∷ []) (items text)
