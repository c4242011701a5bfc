-- What may stand between tokens: blanks, line ends and comments. ECMA-262, sections 12.2 to 12.4.
use Rattle.std.specs.Prelude.{◌≡◌, ℕ, Bool, true, not, List, [], ◌∷◌, ◌++◌, ◌&&◌, codes}
use Rattle.swc_ecma_codegen_grammar.specs.Chars.{is_blank, is_line_end, is_one_line}
use Rattle.swc_ecma_codegen_grammar.specs.Texts.{begins}

-- a comment, without what opens and closes it
pub data Remark : Type 0 where
  Block : (text : List ℕ) → Remark
  Line : (text : List ℕ) → Remark

-- a blank or a line end, or a closed comment
pub data Piece : Type 0 where
  Blank : (char : ℕ) → Piece
  BlockOf : (text : List ℕ) → Piece
  LineOf : (text : List ℕ) → (end : ℕ) → Piece

-- no `*/` in a text
unfoldable pub is_open : List ℕ → Bool
is_open [] = true
is_open (c ∷ cs) = not (begins (codes "*/") (c ∷ cs)) && is_open cs

unfoldable pub is_piece : Piece → Bool
is_piece (Blank c) = is_blank c
is_piece (BlockOf t) = is_open t
is_piece (LineOf t c) = is_one_line t && is_line_end c

unfoldable pub piece_text : Piece → List ℕ
piece_text (Blank c) = c ∷ []
piece_text (BlockOf t) = codes "/*" ++ (t ++ codes "*/")
piece_text (LineOf t c) = codes "//" ++ (t ++ c ∷ [])

unfoldable pub all_pieces : List Piece → Bool
all_pieces [] = true
all_pieces (p ∷ ps) = is_piece p && all_pieces ps

unfoldable pub pieces_text : List Piece → List ℕ
pieces_text [] = []
pieces_text (p ∷ ps) = piece_text p ++ pieces_text ps

unfoldable pub remarks_of : List Piece → List Remark
remarks_of [] = []
remarks_of (Blank c ∷ ps) = remarks_of ps
remarks_of (BlockOf t ∷ ps) = Block t ∷ remarks_of ps
remarks_of (LineOf t c ∷ ps) = Line t ∷ remarks_of ps

-- a run of these, with its comments
pub record Trivia (text : List ℕ) (remarks : List Remark) : Type 0 where
  pub pieces : List Piece
  pub each : all_pieces pieces ≡ true
  pub is_text : text ≡ pieces_text pieces
  pub are_remarks : remarks ≡ remarks_of pieces
