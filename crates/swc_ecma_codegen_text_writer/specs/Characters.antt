-- Where a text ends, told by its characters.
use Rattle.std.specs.Prelude.{ℕ, ◌+◌, true, false, List, [], ◌∷◌, ◌==◌, ◌++◌, ◌||◌, ◌&&◌, not, Bool, length, if◌then◌else◌}
use Rattle.std.specs.Char.Escape.{encode_utf16}
use Rattle.swc_ecma_codegen_text_writer.specs.Places.{Place, next_line, after_lf}

-- After a character: LF and CR end a line, and any other has one UTF-16 unit, or two from U+10000 on. After `aé` the column is 2,
-- and after U+1F600 alone it is 2 too.
unfoldable pub after_character : ℕ → Place → Place
after_character c p =
    if c == 10 then after_lf p
    else if c == 13 then next_line true p
    else record { line = p.line; column = p.column + length (encode_utf16 c); after_cr = false }

-- after characters
unfoldable pub after_characters : List ℕ → Place → Place
after_characters [] p = p
after_characters (c ∷ cs) p = after_characters cs (after_character c p)

-- a character that ends a line, or a part of what does
abbrev pub is_line_end : ℕ → Bool
is_line_end c = (c == 10) || (c == 13)

-- the UTF-16 code units of characters
unfoldable pub code_units : List ℕ → List ℕ
code_units [] = []
code_units (c ∷ cs) = encode_utf16 c ++ code_units cs

-- a text, as bytes, begins with LF
abbrev pub begins_with_lf : List ℕ → Bool
begins_with_lf [] = false
begins_with_lf (byte ∷ bytes) = byte == 10

-- how many lines end in a text: each LF ends one, and each CR that no LF follows. `a` CR LF `b` LF LF has three line ends.
unfoldable pub line_ends : List ℕ → ℕ
line_ends [] = 0
line_ends (byte ∷ bytes) = (if (byte == 10) || ((byte == 13) && not (begins_with_lf bytes)) then 1 else 0) + line_ends bytes
