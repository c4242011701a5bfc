-- What a token is to the machine, whatever its value.
use Rattle.std.proofs.Common.{ℕ, Bool, true, false, List, [], ◌∷◌, cond}
use Rattle.std.specs.Prelude.{codes, bytes_eq}
use Rattle.swc_ecma_codegen_grammar.specs.declared.kinds.Kind.{Kind}
use Rattle.swc_ecma_codegen_grammar.specs.declared.kinds.Kind.TheVariants as kinds
use Rattle.swc_ecma_codegen_grammar.specs.Tokens.{Token, Value, Characters}
use Rattle.swc_ecma_codegen_syntax.specs.NameForms.{is_reserved}

-- the binary operators of one nonterminal; `in` has a left operand of its own, `<` begins an element of JSX too, and `/` stands in its tags
pub data Level : Type 0 where
  Power Times Over Plus Shifting Less Comparing Within Equating BitAnds BitXors BitOrs Ands Ors Coalescing : Level

-- with what an operator of assignments begins: `/=`, `>>=`, and the others
pub data Assigning : Type 0 where
  Slashed Angled Plain : Assigning

-- a token of JSX: in a tag a name, the string of an attribute, and the `>` that closes it; text between tags, and what begins another child
pub data JsxPart : Type 0 where
  TagName TagString TagClose TagText ChildTagMark ChildBraceMark : JsxPart

-- What a token is. A name that is a reserved word stands where no expression does, as the key of a property: `a.if`.
pub data Class : Type 0 where
  Infix : (level : Level) → Class
  Ask Colon Comma Dot ChainDot OpenParen CloseParen OpenBracket CloseBracket OpenBrace CloseBrace Dots Line Twice Bang FatArrow Semi Semicolon FirstLine : Class
  First Later : (tagged opens : Bool) → Class
  Assigns : (sign : Assigning) → Class
  Jsx : (part : JsxPart) → Class
  NameToken KeyToken PrivateToken LiteralToken ConstantWord RegexToken ThisWord NewWord SuperWord ImportWord YieldWord AwaitWord AsyncWord FunctionWord ClassWord ExtendsWord ConstructorWord ExportWord ForWord ReturnWord ThrowWord BreakWord ContinueWord DebuggerWord IfWord ElseWord WhileWord WithWord DoWord TryWord CatchWord FinallyWord SwitchWord CaseWord DefaultWord VarWord UnaryWord Strange : Class

-- the word is reserved, or is none
abbrev pub is_reserved_word : Class → Bool
is_reserved_word ConstantWord = true
is_reserved_word ThisWord = true
is_reserved_word NewWord = true
is_reserved_word SuperWord = true
is_reserved_word ImportWord = true
is_reserved_word FunctionWord = true
is_reserved_word ClassWord = true
is_reserved_word ExtendsWord = true
is_reserved_word ExportWord = true
is_reserved_word ForWord = true
is_reserved_word ReturnWord = true
is_reserved_word ThrowWord = true
is_reserved_word BreakWord = true
is_reserved_word ContinueWord = true
is_reserved_word DebuggerWord = true
is_reserved_word IfWord = true
is_reserved_word ElseWord = true
is_reserved_word WhileWord = true
is_reserved_word WithWord = true
is_reserved_word DoWord = true
is_reserved_word TryWord = true
is_reserved_word CatchWord = true
is_reserved_word FinallyWord = true
is_reserved_word SwitchWord = true
is_reserved_word CaseWord = true
is_reserved_word DefaultWord = true
is_reserved_word VarWord = true
is_reserved_word UnaryWord = true
is_reserved_word Strange = true
is_reserved_word (Infix Within) = true
is_reserved_word (Infix Comparing) = true
is_reserved_word c = false

abbrev pub look : List (List ℕ × Class) → List ℕ → Class
look [] text = Strange
look (e ∷ es) text = cond (bytes_eq text e.0) e.1 (look es text)

-- words that are read as names are
abbrev names : List (List ℕ × Class)
names =
    (codes "as", NameToken) ∷ (codes "from", NameToken) ∷ (codes "get", NameToken) ∷ (codes "meta", NameToken) ∷ (codes "of", NameToken) ∷ (codes "set", NameToken)
    ∷ (codes "static", NameToken) ∷ (codes "target", NameToken) ∷ []

abbrev pub words : List (List ℕ × Class)
words =
    (codes "this", ThisWord) ∷ (codes "new", NewWord) ∷ (codes "super", SuperWord) ∷ (codes "import", ImportWord) ∷ (codes "yield", YieldWord)
    ∷ (codes "await", AwaitWord) ∷ (codes "async", AsyncWord) ∷ (codes "function", FunctionWord)
    ∷ (codes "class", ClassWord) ∷ (codes "extends", ExtendsWord) ∷ (codes "constructor", ConstructorWord) ∷ (codes "export", ExportWord) ∷ (codes "for", ForWord)
    ∷ (codes "return", ReturnWord) ∷ (codes "throw", ThrowWord) ∷ (codes "break", BreakWord) ∷ (codes "continue", ContinueWord) ∷ (codes "debugger", DebuggerWord)
    ∷ (codes "if", IfWord) ∷ (codes "else", ElseWord) ∷ (codes "while", WhileWord) ∷ (codes "do", DoWord) ∷ (codes "try", TryWord) ∷ (codes "catch", CatchWord) ∷ (codes "finally", FinallyWord)
    ∷ (codes "switch", SwitchWord) ∷ (codes "case", CaseWord) ∷ (codes "default", DefaultWord)
    ∷ (codes "with", WithWord) ∷ (codes "var", VarWord) ∷ (codes "let", VarWord)
    ∷ (codes "const", VarWord) ∷ (codes "typeof", UnaryWord) ∷ (codes "void", UnaryWord) ∷ (codes "delete", UnaryWord) ∷ (codes "true", ConstantWord) ∷ (codes "false", ConstantWord) ∷ (codes "null", ConstantWord)
    ∷ (codes "in", Infix Within) ∷ (codes "instanceof", Infix Comparing) ∷ names

abbrev operators : List (List ℕ × Class) → List (List ℕ × Class)
operators more =
    (codes "**", Infix Power) ∷ (codes "*", Infix Times) ∷ (codes "/", Infix Over) ∷ (codes "%", Infix Times) ∷ (codes "+", Infix Plus) ∷ (codes "-", Infix Plus)
    ∷ (codes "<<", Infix Shifting) ∷ (codes ">>", Infix Shifting) ∷ (codes ">>>", Infix Shifting)
    ∷ (codes "<", Infix Less) ∷ (codes ">", Infix Comparing) ∷ (codes "<=", Infix Comparing) ∷ (codes ">=", Infix Comparing)
    ∷ (codes "==", Infix Equating) ∷ (codes "!=", Infix Equating) ∷ (codes "===", Infix Equating) ∷ (codes "!==", Infix Equating)
    ∷ (codes "&", Infix BitAnds) ∷ (codes "^", Infix BitXors) ∷ (codes "|", Infix BitOrs) ∷ (codes "&&", Infix Ands) ∷ (codes "||", Infix Ors)
    ∷ (codes "??", Infix Coalescing) ∷ more

abbrev assignments : List (List ℕ × Class) → List (List ℕ × Class)
assignments more =
    (codes "=", Assigns Plain) ∷ (codes "+=", Assigns Plain) ∷ (codes "-=", Assigns Plain) ∷ (codes "*=", Assigns Plain) ∷ (codes "/=", Assigns Slashed) ∷ (codes "%=", Assigns Plain) ∷ (codes "<<=", Assigns Plain)
    ∷ (codes ">>=", Assigns Angled) ∷ (codes ">>>=", Assigns Angled) ∷ (codes "|=", Assigns Plain) ∷ (codes "^=", Assigns Plain) ∷ (codes "&=", Assigns Plain) ∷ (codes "**=", Assigns Plain)
    ∷ (codes "&&=", Assigns Plain) ∷ (codes "||=", Assigns Plain) ∷ (codes "??=", Assigns Plain) ∷ more

abbrev pub marks : List (List ℕ × Class)
marks =
    operators (assignments (
    (codes "?", Ask) ∷ (codes ":", Colon) ∷ (codes ",", Comma) ∷ (codes ".", Dot) ∷ (codes "?.", ChainDot) ∷ (codes "(", OpenParen) ∷ (codes ")", CloseParen)
    ∷ (codes "[", OpenBracket) ∷ (codes "]", CloseBracket) ∷ (codes "{", OpenBrace) ∷ (codes "}", CloseBrace) ∷ (codes "...", Dots) ∷ (codes "++", Twice) ∷ (codes "--", Twice) ∷ (codes "!", Bang) ∷ (codes "~", Bang)
    ∷ (codes "=>", FatArrow) ∷ (codes ";", Semicolon) ∷ []))

-- what begins a child of an element of JSX
abbrev pub child_marks : List (List ℕ × Class)
child_marks = (codes "<", Jsx ChildTagMark) ∷ (codes "{", Jsx ChildBraceMark) ∷ []

abbrev pub class_of : Kind → Value → Class
class_of kinds.Word (Characters text) = look words text
class_of kinds.Punctuator (Characters text) = look marks text
class_of kinds.Name (Characters text) = cond (is_reserved text) KeyToken NameToken
class_of kinds.Name v = NameToken
class_of kinds.PrivateName v = PrivateToken
class_of kinds.Number v = LiteralToken
class_of kinds.BigInt v = LiteralToken
class_of kinds.Str v = LiteralToken
class_of kinds.Regex v = RegexToken
class_of (kinds.Template part) v = First part.tagged part.opens
class_of (kinds.TemplateRest part) v = Later part.tagged part.opens
class_of kinds.SameLine v = Line
class_of kinds.Ending v = Semi
class_of kinds.Hashbang v = FirstLine
class_of kinds.Close v = Jsx TagClose
class_of kinds.JsxName v = Jsx TagName
class_of kinds.JsxString v = Jsx TagString
class_of kinds.JsxText v = Jsx TagText
class_of kinds.JsxOpen (Characters text) = look child_marks text
class_of kind v = Strange

abbrev pub class : Token → Class
class t = class_of t.kind t.value
