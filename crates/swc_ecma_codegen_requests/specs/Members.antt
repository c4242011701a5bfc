-- The members of answers, and their lines.
use Rattle.std.specs.Prelude.{◌≡◌, ◌≤◌, ℕ, false, List, [], ◌∷◌, ◌++◌, drop, map, codes, Option, Some, None}
use Rattle.std.specs.Option.{option_map}
use Rattle.serde_json.specs.Data.{Data, Members, array, object, string, number, unsigned, item, no_items, no_members, put, depth}
use Rattle.serde_json.specs.Read.{read, max_depth}
use Rattle.serde_json.specs.View.{items_of}
use Rattle.serde_json.specs.Written.{compact_text, has_float}
use Rattle.swc_ecma_codegen_common.specs.declared.positions.BytePos.{BytePos}
use Rattle.swc_ecma_codegen_common.specs.declared.positions.LineCol.{LineCol}

-- a member, where there is one: `"left"` of an answer
unfoldable pub with_member : List ℕ → Option Data → Members → Members
with_member name None members = members
with_member name (Some value) members = put name value members

-- a position of the source, with the line and the column of the text: `[4,0,2]`
abbrev pub position_data : BytePos × LineCol → Data
position_data pair = array (item (number (unsigned pair.0.0)) (item (number (unsigned pair.1.line)) (item (number (unsigned pair.1.col)) no_items)))

abbrev pub positions_data : List (BytePos × LineCol) → Data
positions_data pairs = array (items_of (map position_data pairs))

-- the members of an answer with a text
abbrev pub text_members : List ℕ → Option (List (BytePos × LineCol)) → Option Data → Members
text_members code positions left =
    with_member (codes "left") left (with_member (codes "positions") (option_map positions_data positions) (put (codes "code") (string code) no_members))

-- the members of an answer without one
abbrev pub fault_members : Data → Members
fault_members fault = put (codes "error") fault no_members

-- an answer: the text of its members, and first what its request is known by, if that is known: `{"id":7,"code":"a;\n"}`
unfoldable pub with_id : Option (List ℕ) → List ℕ → List ℕ
with_id None json = json
with_id (Some id) json = codes "{\"id\":" ++ (id ++ 44 ∷ drop 1 json)

-- An answer's line: the JSON of its members without blanks, in it first the text that the request is known by, and LF (10). Read again, the
-- JSON of the members is these.
pub record IsLineOf (id : Option (List ℕ)) (members : Members) (line : List ℕ) : Type 0 where
  pub json : List ℕ
  pub is_line : line ≡ with_id id json ++ 10 ∷ []
  pub text : has_float (object members) ≡ false → json ≡ compact_text (object members)
  pub reads_back : depth (object members) ≤ max_depth → read json ≡ Some (object members)
