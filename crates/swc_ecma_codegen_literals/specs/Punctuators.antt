-- How punctuators are spelled, and in which order they stand.
use Rattle.std.specs.Prelude.{ℕ, List, codes}
use Rattle.swc_ecma_codegen_literals.specs.declared.punctuators.Punctuator.{Punctuator}
use Rattle.swc_ecma_codegen_literals.specs.declared.punctuators.Punctuator.TheVariants as punctuator

abbrev pub spelling : Punctuator → List ℕ
spelling punctuator.LeftBrace = codes "{"
spelling punctuator.RightBrace = codes "}"
spelling punctuator.LeftParenthesis = codes "("
spelling punctuator.RightParenthesis = codes ")"
spelling punctuator.LeftBracket = codes "["
spelling punctuator.RightBracket = codes "]"
spelling punctuator.Dot = codes "."
spelling punctuator.Ellipsis = codes "..."
spelling punctuator.Semicolon = codes ";"
spelling punctuator.Comma = codes ","
spelling punctuator.Less = codes "<"
spelling punctuator.Greater = codes ">"
spelling punctuator.LessEqual = codes "<="
spelling punctuator.GreaterEqual = codes ">="
spelling punctuator.EqualEqual = codes "=="
spelling punctuator.BangEqual = codes "!="
spelling punctuator.EqualEqualEqual = codes "==="
spelling punctuator.BangEqualEqual = codes "!=="
spelling punctuator.Plus = codes "+"
spelling punctuator.Minus = codes "-"
spelling punctuator.Star = codes "*"
spelling punctuator.Percent = codes "%"
spelling punctuator.StarStar = codes "**"
spelling punctuator.PlusPlus = codes "++"
spelling punctuator.MinusMinus = codes "--"
spelling punctuator.LessLess = codes "<<"
spelling punctuator.GreaterGreater = codes ">>"
spelling punctuator.GreaterGreaterGreater = codes ">>>"
spelling punctuator.Ampersand = codes "&"
spelling punctuator.Bar = codes "|"
spelling punctuator.Caret = codes "^"
spelling punctuator.Bang = codes "!"
spelling punctuator.Tilde = codes "~"
spelling punctuator.AmpersandAmpersand = codes "&&"
spelling punctuator.BarBar = codes "||"
spelling punctuator.QuestionQuestion = codes "??"
spelling punctuator.Question = codes "?"
spelling punctuator.Colon = codes ":"
spelling punctuator.Equal = codes "="
spelling punctuator.PlusEqual = codes "+="
spelling punctuator.MinusEqual = codes "-="
spelling punctuator.StarEqual = codes "*="
spelling punctuator.PercentEqual = codes "%="
spelling punctuator.StarStarEqual = codes "**="
spelling punctuator.LessLessEqual = codes "<<="
spelling punctuator.GreaterGreaterEqual = codes ">>="
spelling punctuator.GreaterGreaterGreaterEqual = codes ">>>="
spelling punctuator.AmpersandEqual = codes "&="
spelling punctuator.BarEqual = codes "|="
spelling punctuator.CaretEqual = codes "^="
spelling punctuator.AmpersandAmpersandEqual = codes "&&="
spelling punctuator.BarBarEqual = codes "||="
spelling punctuator.QuestionQuestionEqual = codes "??="
spelling punctuator.Arrow = codes "=>"
spelling punctuator.Slash = codes "/"
spelling punctuator.SlashEqual = codes "/="
spelling punctuator.QuestionDot = codes "?."
spelling punctuator.At = codes "@"

unfoldable pub place : Punctuator → ℕ
place punctuator.LeftBrace = 0
place punctuator.RightBrace = 1
place punctuator.LeftParenthesis = 2
place punctuator.RightParenthesis = 3
place punctuator.LeftBracket = 4
place punctuator.RightBracket = 5
place punctuator.Dot = 6
place punctuator.Ellipsis = 7
place punctuator.Semicolon = 8
place punctuator.Comma = 9
place punctuator.Less = 10
place punctuator.Greater = 11
place punctuator.LessEqual = 12
place punctuator.GreaterEqual = 13
place punctuator.EqualEqual = 14
place punctuator.BangEqual = 15
place punctuator.EqualEqualEqual = 16
place punctuator.BangEqualEqual = 17
place punctuator.Plus = 18
place punctuator.Minus = 19
place punctuator.Star = 20
place punctuator.Percent = 21
place punctuator.StarStar = 22
place punctuator.PlusPlus = 23
place punctuator.MinusMinus = 24
place punctuator.LessLess = 25
place punctuator.GreaterGreater = 26
place punctuator.GreaterGreaterGreater = 27
place punctuator.Ampersand = 28
place punctuator.Bar = 29
place punctuator.Caret = 30
place punctuator.Bang = 31
place punctuator.Tilde = 32
place punctuator.AmpersandAmpersand = 33
place punctuator.BarBar = 34
place punctuator.QuestionQuestion = 35
place punctuator.Question = 36
place punctuator.Colon = 37
place punctuator.Equal = 38
place punctuator.PlusEqual = 39
place punctuator.MinusEqual = 40
place punctuator.StarEqual = 41
place punctuator.PercentEqual = 42
place punctuator.StarStarEqual = 43
place punctuator.LessLessEqual = 44
place punctuator.GreaterGreaterEqual = 45
place punctuator.GreaterGreaterGreaterEqual = 46
place punctuator.AmpersandEqual = 47
place punctuator.BarEqual = 48
place punctuator.CaretEqual = 49
place punctuator.AmpersandAmpersandEqual = 50
place punctuator.BarBarEqual = 51
place punctuator.QuestionQuestionEqual = 52
place punctuator.Arrow = 53
place punctuator.Slash = 54
place punctuator.SlashEqual = 55
place punctuator.QuestionDot = 56
place punctuator.At = 57
