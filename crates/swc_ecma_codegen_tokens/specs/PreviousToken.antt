-- The last token, by the gap rules and by its class.
use Rattle.swc_ecma_codegen_grammar.specs.GapRules as rules
use Rattle.swc_ecma_codegen_literals.specs.Punctuators.{spelling}
use Rattle.swc_ecma_codegen_literals.specs.declared.classes.TokenClass.{TokenClass}
use Rattle.swc_ecma_codegen_literals.specs.declared.classes.TokenClass.TheVariants as class
use Rattle.swc_ecma_codegen_literals.specs.declared.punctuators.Punctuator.{Punctuator}
use Rattle.swc_ecma_codegen_literals.specs.declared.punctuators.Punctuator.TheVariants as punctuator
use Rattle.swc_ecma_codegen_tokens.specs.declared.previous.PreviousToken.{PreviousToken}
use Rattle.swc_ecma_codegen_tokens.specs.declared.previous.PreviousToken.TheVariants as last

unfoldable pub last_at : PreviousToken → rules.PreviousToken
last_at last.Start = rules.Start
last_at last.Separated = rules.Separated
last_at last.WordEnd = rules.WordEnd
last_at last.IntegerEnd = rules.IntegerEnd
last_at (last.Mark p) = rules.Mark (spelling p)
last_at last.LessBang = rules.LessBang
last_at last.Closing = rules.Whole
last_at last.Whole = rules.Whole
last_at last.TextEnd = rules.TextEnd
last_at last.TagNameEnd = rules.TagNameEnd
last_at last.LineEnd = rules.LineEnd

unfoldable pub class_of : PreviousToken → TokenClass
class_of last.Start = class.Rest
class_of last.Separated = class.Rest
class_of last.WordEnd = class.Word
class_of last.IntegerEnd = class.Integer
class_of (last.Mark p) = class.Punctuator p
class_of last.LessBang = class.LessBang
class_of last.Closing = class.Closing
class_of last.Whole = class.Rest
class_of last.TextEnd = class.Rest
class_of last.TagNameEnd = class.Word
class_of last.LineEnd = class.Rest

-- the last token after a punctuator that nothing parts from one of a class
unfoldable pub after_mark : TokenClass → Punctuator → PreviousToken
after_mark (class.Punctuator punctuator.Less) punctuator.Bang = last.LessBang
after_mark c p = last.Mark p
