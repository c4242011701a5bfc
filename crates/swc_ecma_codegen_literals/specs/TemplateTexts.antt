-- How the text of an untagged template is spelled, from its raw text. CR LF and CR count as LF.
use Rattle.std.specs.Prelude.{ℕ, zero, suc, ◌+◌, ◌*◌, Bool, false, not, List, [], ◌∷◌, ◌++◌, ◌&&◌, ◌||◌, ◌==◌, nat_lt, nat_le, if◌then◌else◌, codes}
use Rattle.std.specs.Char.{digit_value}
use Rattle.std.specs.Str.{chars, encode_utf8_all}
use Rattle.swc_ecma_codegen_grammar.specs.Chars.{begins_digit}
use Rattle.swc_ecma_codegen_grammar.specs.Numbers.{is_hex}
use Rattle.swc_ecma_codegen_grammar.specs.Texts.{begins}
use Rattle.swc_ecma_codegen_literals.specs.StringTexts.{is_unseen, hex_escape, unit_escape, braced_escape}
use Rattle.swc_ecma_codegen_literals.specs.declared.templates.Piece.{Piece}
use Rattle.swc_ecma_codegen_literals.specs.declared.templates.Piece.TheVariants.{Bare, Backslashed, Hex, Gone}

-- `\x24`, `\x5c`, `\x60` and `\x7b` stay: a bare `$`, backslash, back quote or `{` may mean more
unfoldable pub stays_hex : ℕ → Bool
stays_hex value = (value == 36) || ((value == 92) || ((value == 96) || (value == 123)))

-- `\x41` is `A`, `\x1B` is `\x1b`; where it stays, `\x` is copied and its digits are bare
unfoldable pub hex_value_piece : ℕ → Piece
hex_value_piece value =
    if stays_hex value then Backslashed 120
    else if (value == 0) || (nat_le 32 value && nat_le value 126) then Bare value
    else Hex value

-- without two digits `\x` is copied
unfoldable pub hex_digits_piece : ℕ → ℕ → Piece
hex_digits_piece a b = if is_hex a && is_hex b then hex_value_piece (digit_value a * 16 + digit_value b) else Backslashed 120

-- after `\x`
unfoldable pub hex_piece : List ℕ → Piece
hex_piece [] = Backslashed 120
hex_piece (a ∷ []) = Backslashed 120
hex_piece (a ∷ b ∷ cs) = hex_digits_piece a b

-- after a backslash: `\\`, `\r`, `\v`, `\b`, `\f`, `\u`, a line continuation, a back quote, `\1` to `\7`, and `\$` before `{`
unfoldable pub is_kept : ℕ → List ℕ → Bool
is_kept c cs =
    ((c == 92) || ((c == 114) || ((c == 118) || ((c == 98) || ((c == 102) || (c == 117)))))) ||
    (((c == 10) || (c == 96)) || ((nat_le 49 c && nat_le c 55) || ((c == 36) && begins (123 ∷ []) cs)))

-- the piece that a backslash begins, which these follow
unfoldable pub escape_piece : List ℕ → Piece
escape_piece [] = Bare 92
escape_piece (c ∷ cs) =
    if c == 110 then Bare 10
    else if c == 116 then Bare 9
    else if c == 48 then Bare 0
    else if c == 120 then hex_piece cs
    else if (c == 8232) || (c == 8233) then Gone
    else if c == 13 then Backslashed 10
    else if is_kept c cs then Backslashed c
    else Bare c

-- how many characters after `\x` belong to the piece
unfoldable pub hex_more : Piece → ℕ
hex_more (Backslashed c) = 0
hex_more p = 2

-- how many characters after a backslash belong to the piece
unfoldable pub escape_more : List ℕ → ℕ
escape_more [] = 0
escape_more (c ∷ cs) =
    if c == 120 then suc (hex_more (hex_piece cs))
    else if (c == 13) && begins (10 ∷ []) cs then 2
    else 1

-- the piece that a character begins, which these follow
unfoldable pub first_piece : ℕ → List ℕ → Piece
first_piece c cs =
    if c == 92 then escape_piece cs
    else if c == 13 then (if begins (10 ∷ []) cs then Gone else Bare 10)
    else Bare c

-- how many characters after its first one belong to the piece
unfoldable pub piece_more : ℕ → List ℕ → ℕ
piece_more c cs = if c == 92 then escape_more cs else 0

-- the pieces of a raw text, after `skip` characters that belong to the last piece
unfoldable pub pieces_after : ℕ → List ℕ → List Piece
pieces_after skip [] = []
pieces_after (suc skip) (c ∷ cs) = pieces_after skip cs
pieces_after zero (c ∷ cs) = first_piece c cs ∷ pieces_after (piece_more c cs) cs

abbrev pub pieces : List ℕ → List Piece
pieces raw = pieces_after 0 raw

-- A bare character, which `next` follows as it is written. `dollar` says that it comes right after a bare `$`.
unfoldable pub bare_text : Bool → Bool → ℕ → List ℕ → List ℕ
bare_text dollar ascii c next =
    if c == 0 then (if begins_digit next then codes "\\x00" else codes "\\0")
    else if c == 8 then codes "\\b"
    else if c == 11 then codes "\\v"
    else if c == 12 then codes "\\f"
    else if (c == 123) && dollar then codes "\\{"
    else if is_unseen c then unit_escape c
    else if nat_lt c 127 then c ∷ []
    else if nat_lt c 256 then hex_escape c
    else if ascii then braced_escape c
    else c ∷ []

unfoldable pub piece_text : Bool → Bool → Piece → List ℕ → List ℕ
piece_text dollar ascii (Bare c) next = bare_text dollar ascii c next
piece_text dollar ascii (Backslashed c) next = 92 ∷ c ∷ []
piece_text dollar ascii (Hex value) next = hex_escape value
piece_text dollar ascii Gone next = []

-- whether what follows a piece comes right after a bare `$`
unfoldable pub dollar_after : Bool → Piece → Bool
dollar_after dollar (Bare c) = c == 36
dollar_after dollar (Backslashed c) = false
dollar_after dollar (Hex value) = false
dollar_after dollar Gone = dollar

unfoldable pub spelled_pieces : Bool → Bool → List Piece → List ℕ
spelled_pieces dollar ascii [] = []
spelled_pieces dollar ascii (p ∷ ps) =
    let next = spelled_pieces (dollar_after dollar p) ascii ps in
    piece_text dollar ascii p next ++ next

unfoldable pub template_text : Bool → List ℕ → List ℕ
template_text ascii raw = spelled_pieces false ascii (pieces raw)

-- a character that stands for itself, whatever is written round it
unfoldable pub stands_bare : Bool → ℕ → Bool
stands_bare ascii c =
    if nat_lt c 32 then nat_le 14 c || ((c == 9) || ((c == 10) || (nat_le 1 c && nat_le c 7)))
    else if nat_lt c 127 then not ((c == 36) || ((c == 92) || (c == 123)))
    else if nat_lt c 256 then false
    else not (ascii || is_unseen c)

-- the bytes that are written for a raw text
abbrev pub spelled_bytes : Bool → Bool → List ℕ → List ℕ
spelled_bytes dollar ascii raw = encode_utf8_all (spelled_pieces dollar ascii (pieces (chars raw)))
