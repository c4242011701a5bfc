-- How texts begin, as far as what comes before may fuse with them.
use Rattle.std.specs.Prelude.{ℕ, Bool, false, List, [], ◌∷◌, codes, ◌==◌, ◌&&◌, ◌||◌, nat_le, if◌then◌else◌}
use Rattle.swc_ecma_codegen_grammar.specs.Chars.{is_letter, is_part, is_digit, begins_digit}
use Rattle.swc_ecma_codegen_grammar.specs.Texts.{begins}
use Rattle.swc_ecma_codegen_tokens.specs.declared.starts.StartClass.{StartClass}
use Rattle.swc_ecma_codegen_tokens.specs.declared.starts.StartClass.TheVariants as start

-- the characters of punctuators, with their classes
unfoldable pub marks : List (ℕ × StartClass)
marks =
    (46, start.Dot)
    ∷ (123, start.LeftBrace)
    ∷ (125, start.RightBrace)
    ∷ (40, start.LeftParenthesis)
    ∷ (41, start.RightParenthesis)
    ∷ (91, start.LeftBracket)
    ∷ (93, start.RightBracket)
    ∷ (59, start.Semicolon)
    ∷ (44, start.Comma)
    ∷ (60, start.Less)
    ∷ (62, start.Greater)
    ∷ (61, start.Equal)
    ∷ (33, start.Bang)
    ∷ (43, start.Plus)
    ∷ (45, start.Minus)
    ∷ (42, start.Star)
    ∷ (37, start.Percent)
    ∷ (38, start.Ampersand)
    ∷ (124, start.Bar)
    ∷ (94, start.Caret)
    ∷ (126, start.Tilde)
    ∷ (63, start.Question)
    ∷ (58, start.Colon)
    ∷ (47, start.Slash)
    ∷ (64, start.At)
    ∷ []

unfoldable pub class_in : ℕ → List (ℕ × StartClass) → StartClass
class_in c [] = start.Rest
class_in c (m ∷ ms) = if c == m.0 then m.1 else class_in c ms

-- the class of a character that is none of a name
unfoldable pub mark_start : ℕ → StartClass
mark_start c = class_in c marks

-- the class of a text that begins with a character, where what follows doesn't matter
unfoldable pub char_start : ℕ → StartClass
char_start c =
    if is_digit c then start.Digit
    else if is_part c || (c == 92) then start.NameCharacter
    else mark_start c

-- how a text begins
unfoldable pub start_class : List ℕ → StartClass
start_class [] = start.Rest
start_class (c ∷ n) =
    if (c == 46) && begins_digit n then start.DotDigit
    else if (c == 45) && begins (codes "-") n then start.MinusMinus
    else char_start c

-- a text begins with a small letter of ASCII
abbrev pub begins_letter : List ℕ → Bool
begins_letter [] = false
begins_letter (c ∷ cs) = nat_le 97 c && nat_le c 122

-- a text begins with a letter of ASCII, `$` or `_`
abbrev pub begins_name : List ℕ → Bool
begins_name [] = false
begins_name (c ∷ cs) = (is_letter c || (c == 36)) || (c == 95)

-- a text begins with a quotation mark
abbrev pub begins_quote : List ℕ → Bool
begins_quote [] = false
begins_quote (c ∷ cs) = (c == 34) || (c == 39)

-- the order of the classes
unfoldable pub order : StartClass → ℕ
order start.NameCharacter = 0
order start.Digit = 1
order start.DotDigit = 2
order start.Dot = 3
order start.MinusMinus = 4
order start.LeftBrace = 5
order start.RightBrace = 6
order start.LeftParenthesis = 7
order start.RightParenthesis = 8
order start.LeftBracket = 9
order start.RightBracket = 10
order start.Semicolon = 11
order start.Comma = 12
order start.Less = 13
order start.Greater = 14
order start.Equal = 15
order start.Bang = 16
order start.Plus = 17
order start.Minus = 18
order start.Star = 19
order start.Percent = 20
order start.Ampersand = 21
order start.Bar = 22
order start.Caret = 23
order start.Tilde = 24
order start.Question = 25
order start.Colon = 26
order start.Slash = 27
order start.At = 28
order start.Rest = 29
