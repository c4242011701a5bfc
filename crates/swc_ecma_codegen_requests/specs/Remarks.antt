-- Comments, as requests have them, and answers those that are left.
use Rattle.std.specs.Prelude.{ℕ, List, map, codes, Option, Vec}
use Rattle.std.specs.Fmt.{decimal}
use Rattle.std.specs.List.{fold}
use Rattle.std.specs.Option.{option_map}
use Rattle.std.specs.declared.alloc.Global.{Global}
use Rattle.serde_json.specs.Data.{Data, Members, array, object, string, number, unsigned, member, no_members}
use Rattle.serde_json.specs.View.{items_of}
use Rattle.swc_ecma_codegen_common.specs.declared.positions.BytePos.{BytePos}
use Rattle.swc_ecma_codegen_common.specs.declared.positions.Span.{Span}
use Rattle.swc_ecma_codegen_grammar.specs.CommentMaps.{Maps, with_leading, with_trailing, without}
use Rattle.swc_ecma_codegen_grammar.specs.Comments.{comment_bytes, no_maps}
use Rattle.swc_ecma_codegen_grammar.specs.declared.comments.Comment.{Comment}
use Rattle.swc_ecma_codegen_grammar.specs.declared.comments.CommentKind.{CommentKind}
use Rattle.swc_ecma_codegen_grammar.specs.declared.comments.CommentKind.TheVariants as comments
use Rattle.swc_ecma_codegen_requests.specs.Members.{with_member}
use Rattle.swc_ecma_codegen_requests.specs.declared.remarks.Kind.{Kind}
use Rattle.swc_ecma_codegen_requests.specs.declared.remarks.Kind.TheVariants as kinds
use Rattle.swc_ecma_codegen_requests.specs.declared.remarks.Placed.{Placed}
use Rattle.swc_ecma_codegen_requests.specs.declared.remarks.Places.{Places}
use Rattle.swc_ecma_codegen_requests.specs.declared.remarks.Remark.{Remark}
use Rattle.swc_ecma_codegen_requests.specs.declared.remarks.Side.{Side}
use Rattle.swc_ecma_codegen_requests.specs.declared.remarks.Side.TheVariants.{Before, After}

abbrev pub kind_of : Kind → CommentKind
kind_of kinds.Line = comments.Line
kind_of kinds.Block = comments.Block

-- the comment that a request has
abbrev pub comment_of : Remark → Comment
comment_of r = record { kind = kind_of r.kind; span = record { lo = record { 0 = r.span.0.lo }; hi = record { 0 = r.span.0.hi } }; text = r.text }

-- the comments on one side, by their positions
unfoldable pub entries : Side → Maps → ℕ → Option (List Comment)
entries Before maps = maps.leading
entries After maps = maps.trailing

abbrev pub other : Side → Side
other Before = After
other After = Before

-- with one comment more at a position, behind the others there
unfoldable pub with_comment : Side → ℕ → Comment → Maps → Maps
with_comment Before = with_leading
with_comment After = with_trailing

-- with the comments of a list, one after another
abbrev pub with_list : Side → ℕ → List Remark → Maps → Maps
with_list side pos list maps = fold (λ m r. with_comment side pos (comment_of r) m) maps list

-- with those of each position
abbrev pub with_all : Side → List (ℕ × Vec Remark Global) → Maps → Maps
with_all side lists maps = fold (λ m e. with_list side e.0 e.1.items m) maps lists

-- the comments of a request
abbrev pub placed_maps : Placed → Maps
placed_maps placed = with_all After placed.trailing.0.entries (with_all Before placed.leading.0.entries no_maps)

-- where they stand
abbrev pub positions : {A : Type 0} → List (ℕ × A) → List BytePos
positions lists = map (λ e. record { 0 = e.0 }) lists

abbrev pub kind_name : CommentKind → List ℕ
kind_name comments.Line = codes "Line"
kind_name comments.Block = codes "Block"

-- `{"hi":5,"lo":1}`
abbrev pub span_data : Span → Data
span_data span = object (member (codes "hi") (number (unsigned span.hi.0)) (member (codes "lo") (number (unsigned span.lo.0)) no_members))

-- `{"kind":"Line","span":{"hi":5,"lo":1},"text":" a"}`
abbrev pub comment_data : Comment → Data
comment_data c = object (member (codes "kind") (string (kind_name c.kind)) (member (codes "span") (span_data c.span) (member (codes "text") (string (comment_bytes c)) no_members)))

abbrev pub list_data : List Comment → Data
list_data cs = array (items_of (map comment_data cs))

-- the members so far, and the comments that still have none
pub record Left : Type 0 where
  pub entries : ℕ → Option (List Comment)
  pub members : Members

-- a member more: the comments of a position, if it has some, under its number
abbrev pub with_left : Left → BytePos → Left
with_left left pos = record { entries = without pos.0 left.entries; members = with_member (decimal pos.0) (option_map list_data (left.entries pos.0)) left.members }

-- the comments of these positions, each position's once: `{"8":[..],"12":[..]}`
abbrev pub left_members : List BytePos → (ℕ → Option (List Comment)) → Members
left_members places entries = (fold with_left (record { entries = entries; members = no_members }) places).members

-- comments on both sides, by their members
abbrev pub sides_data : Members → Members → Data
sides_data leading trailing = object (member (codes "leading") (object leading) (member (codes "trailing") (object trailing) no_members))

-- where comments stand: the positions before which, and after which
pub record Where : Type 0 where
  pub leading : List BytePos
  pub trailing : List BytePos

abbrev pub places_of : Places → Where
places_of places = record { leading = places.leading.items; trailing = places.trailing.items }

-- where the comments of a request stand
abbrev pub places_in : Placed → Where
places_in placed = record { leading = positions placed.leading.0.entries; trailing = positions placed.trailing.0.entries }

-- the comments there that maps have, as requests have comments
abbrev pub left_at : Where → Maps → Data
left_at places maps = sides_data (left_members places.leading maps.leading) (left_members places.trailing maps.trailing)

-- the same, where a request has comments
abbrev pub left_by : Option Where → Maps → Option Data
left_by places maps = option_map (λ w. left_at w maps) places
