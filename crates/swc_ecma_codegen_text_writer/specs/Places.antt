-- Where a text ends: its lines, and the UTF-16 units of its last one.
use Rattle.std.specs.Prelude.{ℕ, ◌+◌, Bool, true, false, List, [], ◌∷◌, ◌==◌, nat_le, if◌then◌else◌}

-- So many line ends stand before it, and so many UTF-16 units since the last of them. A CR and a LF after it are one line
-- end.
pub record Place : Type 0 where
  pub line : ℕ
  pub column : ℕ
  pub after_cr : Bool

-- where a text begins
abbrev pub origin : Place
origin = record { line = 0; column = 0; after_cr = false }

-- how many UTF-16 units begin with a byte of UTF-8: none with one that goes on, two with the first of four
unfoldable pub units_of : ℕ → ℕ
units_of byte = if nat_le byte 127 then 1 else if nat_le byte 191 then 0 else if nat_le byte 239 then 1 else 2

-- the next line begins
abbrev pub next_line : Bool → Place → Place
next_line cr p = record { line = p.line + 1; column = 0; after_cr = cr }

-- after LF: it ends a line, unless the CR before it did
unfoldable pub after_lf : Place → Place
after_lf p = if p.after_cr then record p { after_cr = false } else next_line false p

-- after a byte
unfoldable pub after_byte : ℕ → Place → Place
after_byte byte p =
    if byte == 10 then after_lf p
    else if byte == 13 then next_line true p
    else record { line = p.line; column = p.column + units_of byte; after_cr = false }

-- after a text
unfoldable pub after_text : List ℕ → Place → Place
after_text [] p = p
after_text (byte ∷ bytes) p = after_text bytes (after_byte byte p)
