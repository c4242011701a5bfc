-- What stands after a piece of trivia.
use Rattle.std.specs.Prelude.{◌≡◌, ℕ, true, List, [], ◌∷◌, ◌++◌, ◌&&◌, ◌==◌, Option, Some, None, if◌then◌else◌}
use Rattle.swc_ecma_codegen_grammar.specs.Chars.{is_blank, is_line_end}
use Rattle.swc_ecma_codegen_grammar.specs.Trivia.{Piece, is_piece, piece_text, all_pieces, pieces_text}

-- after the first `*/`
unfoldable pub after_block : List ℕ → Option (List ℕ)
after_block [] = None
after_block (c ∷ []) = None
after_block (c ∷ d ∷ cs) = if (c == 42) && (d == 47) then Some cs else after_block (d ∷ cs)

-- after the first line terminator
unfoldable pub after_line : List ℕ → Option (List ℕ)
after_line [] = None
after_line (c ∷ cs) = if is_line_end c then Some cs else after_line cs

-- after a piece of trivia, where one begins here
unfoldable pub after_piece : List ℕ → Option (List ℕ)
after_piece [] = None
after_piece (c ∷ []) = if is_blank c then Some [] else None
after_piece (c ∷ d ∷ cs) =
    if is_blank c then Some (d ∷ cs)
    else if (c == 47) && (d == 42) then after_block cs
    else if (c == 47) && (d == 47) then after_line cs
    else None

-- no piece of trivia begins here
abbrev pub NoPiece : List ℕ → Type 0
NoPiece text = (p : Piece) (v : List ℕ) → is_piece p ≡ true → text ≡ piece_text p ++ v → ⊥

-- a text is trivia, and a rest where none begin
pub record Skips (text rest : List ℕ) : Type 0 where
  pub pieces : List Piece
  pub each : all_pieces pieces ≡ true
  pub is_text : text ≡ pieces_text pieces ++ rest
  pub none : NoPiece rest
