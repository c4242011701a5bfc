-- Names and words. ECMA-262, section 12.7.
use Rattle.std.specs.Prelude.{ℕ, ◌+◌, ◌*◌, Bool, true, false, List, [], ◌∷◌, ◌&&◌, ◌==◌, ◌<◌, ◌≤◌, ⊤, nat_le, not, if◌then◌else◌}
use Rattle.std.specs.Char.{digit_value}
use Rattle.swc_ecma_codegen_grammar.specs.declared.names.Place.{Place}
use Rattle.swc_ecma_codegen_grammar.specs.declared.names.Place.TheVariants.{Between, Escaped, Unicode, One, Two, Three, Braced}
use Rattle.swc_ecma_codegen_grammar.specs.Chars.{is_scalar, is_start, is_part}
use Rattle.swc_ecma_codegen_grammar.specs.Numbers.{is_hex}

unfoldable pub all_part : List ℕ → Bool
all_part [] = true
all_part (c ∷ cs) = is_part c && all_part cs

-- A word of the grammar, which has no escapes. Section 12.7.2.
unfoldable pub is_word : List ℕ → Bool
is_word [] = false
is_word (c ∷ cs) = is_start c && all_part cs

-- a value that so many digits may have
unfoldable pub IsSmall : Place → Type 0
IsSmall (One value) = value < 16
IsSmall (Two value) = value < 256
IsSmall (Three value) = value < 4096
IsSmall (Braced some value) = value ≤ 1114111
IsSmall place = ⊤

-- A name begins with IdentifierStart and goes on with IdentifierPart, escaped or not.
unfoldable pub fits : Bool → ℕ → Bool
fits first c = if first then is_start c else is_part c

-- the same of a character by its code
unfoldable pub fits_code : Bool → ℕ → Bool
fits_code first value = is_scalar value && fits first value

-- The rest of a name. `first` says that no character came so far.
unfoldable pub name_rest : Bool → Place → List ℕ → Bool
name_rest first Between [] = not first
name_rest first place [] = false
name_rest first Between (c ∷ cs) = if c == 92 then name_rest first Escaped cs else (fits first c && name_rest false Between cs)
name_rest first Escaped (c ∷ cs) = (c == 117) && name_rest first Unicode cs
name_rest first Unicode (c ∷ cs) =
    if c == 123 then name_rest first (Braced false 0) cs else (is_hex c && name_rest first (One (digit_value c)) cs)
name_rest first (One value) (c ∷ cs) = is_hex c && name_rest first (Two (value * 16 + digit_value c)) cs
name_rest first (Two value) (c ∷ cs) = is_hex c && name_rest first (Three (value * 16 + digit_value c)) cs
name_rest first (Three value) (c ∷ cs) =
    is_hex c && (fits_code first (value * 16 + digit_value c) && name_rest false Between cs)
name_rest first (Braced some value) (c ∷ cs) =
    if is_hex c then (nat_le (value * 16 + digit_value c) 1114111 && name_rest first (Braced true (value * 16 + digit_value c)) cs)
    else (((c == 125) && some) && (fits_code first value && name_rest false Between cs))

-- IdentifierName. Section 12.7.
unfoldable pub is_name : List ℕ → Bool
is_name text = name_rest true Between text

-- The characters of the rest of a name, escapes decoded: IdentifierCodePoints. Section 12.7.1.2.
unfoldable pub name_characters : Place → List ℕ → List ℕ
name_characters place [] = []
name_characters Between (c ∷ cs) = if c == 92 then name_characters Escaped cs else (c ∷ name_characters Between cs)
name_characters Escaped (c ∷ cs) = name_characters Unicode cs
name_characters Unicode (c ∷ cs) = if c == 123 then name_characters (Braced false 0) cs else name_characters (One (digit_value c)) cs
name_characters (One value) (c ∷ cs) = name_characters (Two (value * 16 + digit_value c)) cs
name_characters (Two value) (c ∷ cs) = name_characters (Three (value * 16 + digit_value c)) cs
name_characters (Three value) (c ∷ cs) = (value * 16 + digit_value c) ∷ name_characters Between cs
name_characters (Braced some value) (c ∷ cs) =
    if c == 125 then (value ∷ name_characters Between cs) else name_characters (Braced true (value * 16 + digit_value c)) cs

-- the characters of a name
unfoldable pub name_value : List ℕ → List ℕ
name_value text = name_characters Between text

-- PrivateIdentifier: `#` and a name. Section 12.7.
unfoldable pub is_private_name : List ℕ → Bool
is_private_name [] = false
is_private_name (c ∷ cs) = (c == 35) && is_name cs

-- the characters of a private name, without `#`
unfoldable pub private_name_value : List ℕ → List ℕ
private_name_value [] = []
private_name_value (c ∷ cs) = name_value cs
