-- The machine's moves: where it is behind a token, what a node becomes, and what the topmost one waits for.
use Rattle.std.proofs.Common.{Bool, true, false, Option, Some, None}
use Rattle.swc_ecma_codegen_grammar.specs.Tokens.{Token}
use Rattle.swc_ecma_codegen_uniqueness.specs.ParseTrees.{Variant, This, Array, Object, Update, Member, SuperProp, Call, New, Ident, Lit, Tpl, TaggedTpl, Arrow, MetaProp, Paren, PrivateName, OptChain, Fn, BlockStmt, EmptyStmt, DebuggerStmt, WithStmt, ReturnStmt, BreakStmt, ContinueStmt, IfStmt, ThrowStmt, WhileStmt, VarDecl, ExprStmt, Foreign, SwitchStmt, TryStmt, DoWhileStmt, ForStmt, ForInStmt, ForOfStmt, JSXElement, Class as AClass, Constructor, ClassMethod, PrivateMethod, ClassProp, PrivateProp, StaticBlock}
use Rattle.swc_ecma_codegen_uniqueness.proofs.Classes.{Class, class, Times, Over, Less, Within, Infix, Assigns, Ask, Colon, Comma, Dot, ChainDot, OpenParen, CloseParen, OpenBracket, CloseBracket, OpenBrace, CloseBrace, Dots, Line, Twice, Bang, FatArrow, Semi, Semicolon, FirstLine, First, Later, TagClose, ChildBraceMark, NameToken, PrivateToken, LiteralToken, RegexToken, ThisWord, NewWord, SuperWord, ImportWord, YieldWord, AwaitWord, AsyncWord, FunctionWord, ClassWord, ExtendsWord, ConstructorWord, ExportWord, ForWord, ReturnWord, ThrowWord, BreakWord, ContinueWord, DebuggerWord, IfWord, WhileWord, WithWord, DoWord, TryWord, CatchWord, SwitchWord, CaseWord, DefaultWord, VarWord, UnaryWord, Jsx, KeyToken, ConstantWord}
use Rattle.swc_ecma_codegen_uniqueness.proofs.Controls.{AfterAsync, AfterCatch, AfterClass, AfterDefault, AfterDo, AfterExport, AfterExportDefault, AfterFinally, AfterFor, AfterFunction, AfterImport, AfterImportDot, AfterKey, AfterName, AfterNew, AfterNewDot, AfterParameters, AfterAccessor, AfterSuper, AfterSwitch, AfterTry, AfterWord, AfterYield, Arguments, ArrowBody, AsyncDefault, AsyncDefaultLine, AsyncItem, AsyncItemLine, AsyncKey, AsyncLine, AsyncOperand, AsyncParameters, AtKey, AtMember, AttributeBraces, AttributeElement, AttributeValue, BehindCatch, BehindParameter, BehindTry, Case, CatchParameter, Chained, ChildBraces, ChildTag, Children, Clause, ClauseComma, Closed, ClosingName, ClosingTag, Control, Declarators, DefaultValue, Dotted, Elements, FieldPlace, ForHead, ForIn, ForOf, ForTest, ForUpdate, ForValue, ForVars, Headed, Heritage, ImportItem, InCatch, InClause, InKey, InList, InMemberKey, InMethod, InParen, InAccessorKey, InTag, InTry, InValue, Index, Initializer, Jump, Listed, MemberKey, Members, Middle, NextElement, NextProperty, OfAssign, OfAwait, OfCond, OfDo, OfElse, OfIf, OfInfix, OfLabel, OfLoop, OfUnary, OfUpdate, OfYield, Open, OpenTag, Parameter, Postfix, Properties, RestParameter, SelfClosing, AccessorParameter, Statement, Substitution, Test, Valued, Where, YieldLine, AsyncMember}

-- behind the `}` of a list
abbrev pub closing : Where → Control
closing (InList ends) = Closed ends
closing InTry = BehindTry
closing InCatch = BehindCatch
closing InMethod = AfterKey
closing place = Closed SwitchStmt

-- the field that begins with a key, or the method
abbrev pub field_of : Variant → Variant
field_of PrivateMethod = PrivateProp
field_of variant = ClassProp

-- behind a token that is taken with no operand at hand
abbrev pub shifted_to : Control → Class → Control
shifted_to (Arguments variant) CloseParen = Closed variant
shifted_to Elements CloseBracket = Closed Array
shifted_to NextElement CloseBracket = Closed Array
shifted_to NextElement Comma = Elements
shifted_to (Dotted variant) c = Closed variant
shifted_to Chained OpenBracket = Index OptChain
shifted_to Chained OpenParen = Arguments OptChain
shifted_to Chained c = Closed OptChain
shifted_to AfterNew Dot = AfterNewDot
shifted_to AfterNewDot c = Closed MetaProp
shifted_to AfterImport Dot = AfterImportDot
shifted_to AfterImport c = Arguments Call
shifted_to AfterImportDot c = Closed MetaProp
shifted_to AfterSuper OpenParen = Arguments Call
shifted_to AfterSuper Dot = Dotted SuperProp
shifted_to AfterSuper c = Index SuperProp
shifted_to AfterYield c = YieldLine
shifted_to YieldLine c = Open OfYield
shifted_to Postfix FatArrow = ArrowBody
shifted_to Postfix c = Closed Update
shifted_to InParen CloseParen = Closed Paren
shifted_to Properties OpenBracket = InKey
shifted_to Properties Dots = InValue
shifted_to Properties CloseBrace = Closed Object
shifted_to Properties AsyncWord = AsyncKey
shifted_to Properties (Infix Times) = AtKey
shifted_to Properties c = AfterKey
shifted_to NextProperty OpenBracket = InKey
shifted_to NextProperty Dots = InValue
shifted_to NextProperty CloseBrace = Closed Object
shifted_to NextProperty AsyncWord = AsyncKey
shifted_to NextProperty (Infix Times) = AtKey
shifted_to NextProperty c = AfterKey
shifted_to AfterKey Colon = InValue
shifted_to AfterKey (Assigns sign) = InValue
shifted_to AfterKey CloseBrace = Closed Object
shifted_to AfterKey OpenParen = Parameter InMethod
shifted_to AfterKey NameToken = AfterAccessor
shifted_to AfterKey KeyToken = AfterAccessor
shifted_to AfterKey LiteralToken = AfterAccessor
shifted_to AfterKey OpenBracket = InAccessorKey
shifted_to AfterKey c = NextProperty
shifted_to AfterAsync c = AsyncLine
shifted_to AsyncLine c = AfterFunction
shifted_to AsyncItem c = AsyncItemLine
shifted_to AsyncItemLine c = AfterFunction
shifted_to AsyncDefault c = AsyncDefaultLine
shifted_to AsyncDefaultLine c = AfterFunction
shifted_to AsyncParameters c = ArrowBody
shifted_to ArrowBody c = Statement (InList Arrow)
shifted_to (Statement (InList ends)) FirstLine = Statement (InList ends)
shifted_to (Statement InClause) CaseWord = Case
shifted_to (Statement InClause) DefaultWord = AfterDefault
shifted_to (Statement place) c = closing place
shifted_to AfterFunction NameToken = AfterName
shifted_to AfterFunction OpenParen = Parameter (InList Fn)
shifted_to AfterName c = Parameter (InList Fn)
shifted_to (Parameter place) Dots = RestParameter place
shifted_to (Parameter place) c = AfterParameters place
shifted_to (AfterParameters place) c = Statement place
shifted_to AtKey OpenBracket = InKey
shifted_to AtKey (Infix Times) = AtKey
shifted_to AtKey c = AfterKey
shifted_to AsyncKey c = AtKey
shifted_to AfterAccessor c = AccessorParameter
shifted_to AccessorParameter c = AfterParameters InMethod
shifted_to (AfterWord variant) Semi = Closed variant
shifted_to (AfterWord ReturnStmt) c = Valued ReturnStmt
shifted_to (AfterWord ThrowStmt) c = Valued ThrowStmt
shifted_to (AfterWord variant) c = Jump variant
shifted_to (Jump variant) c = AfterWord variant
shifted_to (Headed variant) c = Test variant
shifted_to AfterDo c = Closed DoWhileStmt
shifted_to AfterTry c = Statement InTry
shifted_to BehindTry CatchWord = AfterCatch
shifted_to BehindTry c = AfterFinally
shifted_to AfterCatch OpenParen = CatchParameter
shifted_to AfterCatch c = Statement InCatch
shifted_to BehindParameter c = Statement InCatch
shifted_to BehindCatch c = AfterFinally
shifted_to AfterFinally c = Statement (InList TryStmt)
shifted_to AfterSwitch c = Statement InClause
shifted_to AfterDefault c = Statement InClause
shifted_to AfterClass ExtendsWord = Heritage
shifted_to AfterClass OpenBrace = Members
shifted_to Members c = Closed AClass
shifted_to AtMember NameToken = MemberKey ClassMethod
shifted_to AtMember KeyToken = MemberKey ClassMethod
shifted_to AtMember LiteralToken = MemberKey ClassMethod
shifted_to AtMember PrivateToken = MemberKey PrivateMethod
shifted_to AtMember ConstructorWord = MemberKey Constructor
shifted_to AtMember AsyncWord = AsyncMember
shifted_to AtMember OpenBracket = InMemberKey
shifted_to AtMember OpenBrace = Statement (InList StaticBlock)
shifted_to AtMember Semicolon = Closed EmptyStmt
shifted_to (MemberKey variant) OpenParen = Parameter (InList variant)
shifted_to (MemberKey variant) (Assigns sign) = FieldPlace (field_of variant)
shifted_to (MemberKey variant) NameToken = MemberKey ClassMethod
shifted_to (MemberKey variant) KeyToken = MemberKey ClassMethod
shifted_to (MemberKey variant) LiteralToken = MemberKey ClassMethod
shifted_to (MemberKey variant) PrivateToken = MemberKey PrivateMethod
shifted_to (MemberKey variant) OpenBracket = InMemberKey
shifted_to (MemberKey variant) OpenBrace = Statement (InList StaticBlock)
shifted_to (MemberKey variant) AsyncWord = AsyncMember
shifted_to (MemberKey variant) (Infix Times) = AtMember
shifted_to AsyncMember c = AtMember
shifted_to (MemberKey variant) c = Closed (field_of variant)
shifted_to ImportItem c = Clause
shifted_to Clause Comma = ClauseComma
shifted_to Clause Semi = Closed Foreign
shifted_to ClauseComma c = Clause
shifted_to AfterExport VarWord = Declarators
shifted_to AfterExport ClassWord = AfterClass
shifted_to AfterExport FunctionWord = AfterFunction
shifted_to AfterExport DefaultWord = AfterExportDefault
shifted_to AfterExport AsyncWord = AsyncItem
shifted_to AfterExport c = Clause
shifted_to OpenTag (Jsx TagClose) = Children
shifted_to OpenTag c = InTag
shifted_to InTag (Assigns sign) = AttributeValue
shifted_to InTag OpenBrace = AttributeBraces
shifted_to InTag (Infix Over) = SelfClosing
shifted_to InTag (Jsx TagClose) = Children
shifted_to AttributeValue OpenBrace = AttributeBraces
shifted_to AttributeValue c = InTag
shifted_to AttributeBraces CloseBrace = InTag
shifted_to SelfClosing c = Closed JSXElement
shifted_to ChildTag (Jsx TagClose) = Children
shifted_to ChildTag (Infix Over) = ClosingTag
shifted_to ChildTag c = InTag
shifted_to Children (Jsx ChildBraceMark) = ChildBraces
shifted_to ChildBraces CloseBrace = Children
shifted_to ClosingTag (Jsx TagClose) = Closed JSXElement
shifted_to ClosingTag c = ClosingName
shifted_to ClosingName (Jsx TagClose) = Closed JSXElement
shifted_to AfterFor OpenParen = ForHead
shifted_to ForHead Semicolon = ForTest
shifted_to ForHead c = ForVars
shifted_to ForTest c = ForUpdate
shifted_to ForUpdate c = Statement (OfLoop ForStmt)
shifted_to AfterExportDefault FunctionWord = AfterFunction
shifted_to AfterExportDefault c = AfterClass
shifted_to control c = control

-- behind one that is taken with an operand at hand
abbrev pub passed_to : Control → Class → Control
passed_to (Arguments variant) CloseParen = Closed variant
passed_to Elements CloseBracket = Closed Array
passed_to Elements c = NextElement
passed_to NextElement CloseBracket = Closed Array
passed_to AfterNew c = Arguments New
passed_to InParen c = Closed Paren
passed_to (Index variant) c = Closed variant
passed_to Middle c = Open OfCond
passed_to InKey c = AfterKey
passed_to InValue CloseBrace = Closed Object
passed_to InValue c = NextProperty
passed_to (Substitution variant) (Later tagged false) = Closed variant
passed_to AsyncOperand c = AsyncParameters
passed_to (Statement OfDo) c = Headed DoWhileStmt
passed_to (Statement place) c = Statement OfElse
passed_to CatchParameter c = BehindParameter
passed_to Case c = Statement InClause
passed_to (Test DoWhileStmt) c = AfterDo
passed_to (Test SwitchStmt) c = AfterSwitch
passed_to (Parameter place) Comma = Parameter place
passed_to (Parameter place) c = AfterParameters place
passed_to (RestParameter place) c = AfterParameters place
passed_to InAccessorKey c = AfterAccessor
passed_to AccessorParameter c = AfterParameters InMethod
passed_to (Valued variant) c = Closed variant
passed_to (Test IfStmt) c = Statement OfIf
passed_to (Test variant) c = Statement (OfLoop variant)
passed_to Declarators (Assigns sign) = Initializer
passed_to Declarators Comma = Declarators
passed_to Declarators c = Closed VarDecl
passed_to Initializer Comma = Declarators
passed_to Initializer c = Closed VarDecl
passed_to Heritage c = Members
passed_to InMemberKey c = MemberKey ClassMethod
passed_to (FieldPlace variant) c = Closed variant
passed_to DefaultValue c = Closed Foreign
passed_to AttributeElement c = shifted_to InTag c
passed_to AttributeBraces c = InTag
passed_to ChildBraces c = Children
passed_to ForHead Semicolon = ForTest
passed_to ForHead (Infix Within) = ForIn
passed_to ForHead c = ForOf
passed_to ForVars (Assigns sign) = ForValue
passed_to ForVars Comma = ForVars
passed_to ForVars Semicolon = ForTest
passed_to ForVars (Infix Within) = ForIn
passed_to ForVars c = ForOf
passed_to ForValue Comma = ForVars
passed_to ForValue c = ForTest
passed_to ForTest c = ForUpdate
passed_to ForUpdate c = Statement (OfLoop ForStmt)
passed_to ForIn c = Statement (OfLoop ForInStmt)
passed_to ForOf c = Statement (OfLoop ForOfStmt)
passed_to control c = control

abbrev pub moved : Control → Option Variant → Class → Control
moved control None c = shifted_to control c
moved control (Some variant) c = passed_to control c

abbrev pub shift : Control → Option Variant → Token → Control
shift control hand t = moved control hand (class t)

-- behind the first token of a node
abbrev pub template : Variant → Bool → Control
template variant true = Substitution variant
template variant false = Closed variant

abbrev pub started : Class → Control
started NameToken = Closed Ident
started PrivateToken = Closed PrivateName
started LiteralToken = Closed Lit
started ConstantWord = Closed Lit
started RegexToken = Closed Lit
started ThisWord = Closed This
started OpenParen = InParen
started OpenBracket = Elements
started OpenBrace = Properties
started (First tagged opens) = template Tpl opens
started (Infix Less) = OpenTag
started (Infix level) = Open OfUnary
started Bang = Open OfUnary
started UnaryWord = Open OfUnary
started Twice = Open OfUpdate
started NewWord = AfterNew
started SuperWord = AfterSuper
started ImportWord = AfterImport
started YieldWord = AfterYield
started AwaitWord = Open OfAwait
started AsyncWord = AfterAsync
started FunctionWord = AfterFunction
started ClassWord = AfterClass
started ExportWord = AfterExport
started ForWord = AfterFor
started ReturnWord = AfterWord ReturnStmt
started ThrowWord = AfterWord ThrowStmt
started BreakWord = AfterWord BreakStmt
started ContinueWord = AfterWord ContinueStmt
started DebuggerWord = AfterWord DebuggerStmt
started IfWord = Headed IfStmt
started WhileWord = Headed WhileStmt
started WithWord = Headed WithStmt
started DoWord = Statement OfDo
started TryWord = AfterTry
started SwitchWord = Headed SwitchStmt
started VarWord = Declarators
started Semicolon = Closed EmptyStmt
started c = Closed Foreign

abbrev pub start : Token → Control
start t = started (class t)

-- behind the `{` of a block, behind `import` and `async`, behind the first token of a member, and behind the `<` of a child
abbrev pub begun_at : Control → Class → Control
begun_at Members c = shifted_to AtMember c
begun_at Children c = ChildTag
begun_at AfterExportDefault c = AsyncDefault
begun_at control ImportWord = ImportItem
begun_at control AsyncWord = AsyncItem
begun_at control c = Statement (InList BlockStmt)

abbrev pub begin : Control → Token → Control
begin control t = begun_at control (class t)

-- behind an operand and a token: behind an optional chain a link is one more of it
abbrev pub chained : Variant → Variant → Variant
chained OptChain variant = OptChain
chained operand variant = variant

abbrev pub wrapped_to : Variant → Class → Control
wrapped_to operand (Infix level) = Open (OfInfix level)
wrapped_to operand (Assigns sign) = Open OfAssign
wrapped_to operand Ask = Middle
wrapped_to operand Comma = Listed
wrapped_to operand Dot = Dotted (chained operand Member)
wrapped_to operand OpenBracket = Index (chained operand Member)
wrapped_to operand OpenParen = Arguments (chained operand Call)
wrapped_to operand ChainDot = Chained
wrapped_to operand (First tagged opens) = template TaggedTpl opens
wrapped_to operand Line = Postfix
wrapped_to operand Semi = Closed ExprStmt
wrapped_to operand Colon = Statement OfLabel
wrapped_to operand c = Closed Foreign

abbrev pub wrap : Variant → Token → Control
wrap operand t = wrapped_to operand (class t)
