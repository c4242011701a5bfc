-- The comments that an emission takes, and what they read as.
use Rattle.std.specs.Prelude.{◌≡◌, ℕ, Bool, true, false, ◌&&◌, List, [], ◌∷◌, Option, Some, None, string_bytes}
use Rattle.std.specs.Str.{chars}
use Rattle.swc_ecma_codegen_grammar.specs.Chars.{is_one_line}
use Rattle.swc_ecma_codegen_grammar.specs.CommentMaps.{Maps, listed, without_leading, without_trailing}
use Rattle.swc_ecma_codegen_grammar.specs.Trivia as trivia
use Rattle.swc_ecma_codegen_grammar.specs.Trivia.{Remark, is_open}
use Rattle.swc_ecma_codegen_grammar.specs.declared.comments.Comment.{Comment}
use Rattle.swc_ecma_codegen_grammar.specs.declared.comments.CommentKind.{CommentKind}
use Rattle.swc_ecma_codegen_grammar.specs.declared.comments.CommentKind.TheVariants.{Line, Block}

-- the comments before a position, or those after it
pub data Side : Type 0 where
  Leading Trailing : Side

unfoldable pub comments_at : Side → ℕ → Maps → List Comment
comments_at Leading pos maps = listed (maps.leading pos)
comments_at Trailing pos maps = listed (maps.trailing pos)

-- the maps without the entry of a position
unfoldable pub taken_out : Side → ℕ → Maps → Maps
taken_out Leading pos maps = without_leading pos maps
taken_out Trailing pos maps = without_trailing pos maps

-- no comments at all
abbrev pub no_maps : Maps
no_maps = record { leading = λ pos. None; trailing = λ pos. None }

-- the text between what opens a comment and what closes it, as bytes and as characters
abbrev pub comment_bytes : Comment → List ℕ
comment_bytes c = string_bytes c.text

unfoldable pub remark_by : CommentKind → List ℕ → Remark
remark_by Line t = trivia.Line t
remark_by Block t = trivia.Block t

-- what a comment reads as
abbrev pub remark_of : Comment → Remark
remark_of c = remark_by c.kind (chars (comment_bytes c))

unfoldable pub remarks_of : List Comment → List Remark
remarks_of [] = []
remarks_of (c ∷ cs) = remark_of c ∷ remarks_of cs

-- A comment can be read back: one of a line holds no line terminator, one of a block doesn't hold its own end.
unfoldable pub is_closed : Remark → Bool
is_closed (trivia.Block t) = is_open t
is_closed (trivia.Line t) = is_one_line t

unfoldable pub all_closed : List Remark → Bool
all_closed [] = true
all_closed (r ∷ rs) = is_closed r && all_closed rs

-- No line ends in or after a comment: it is a block of one line.
unfoldable pub is_tame : Remark → Bool
is_tame (trivia.Block t) = is_one_line t
is_tame (trivia.Line t) = false

unfoldable pub all_tame : List Remark → Bool
all_tame [] = true
all_tame (r ∷ rs) = is_tame r && all_tame rs

-- each comment of the maps can be read back
pub record AreClosed (maps : Maps) : Type 0 where
  pub leading : (pos : ℕ) → all_closed (remarks_of (listed (maps.leading pos))) ≡ true
  pub trailing : (pos : ℕ) → all_closed (remarks_of (listed (maps.trailing pos))) ≡ true

-- their texts, in order
unfoldable pub texts_of : List Comment → List (List ℕ)
texts_of [] = []
texts_of (c ∷ cs) = comment_bytes c ∷ texts_of cs

-- what is still to be taken, where there are comments at all
unfoldable pub maps_in : {C : Type 0} → (C → Maps) → Option C → Maps
maps_in maps None = no_maps
maps_in maps (Some c) = maps c
