-- The machine's tables: what it does at a token.
use Rattle.std.proofs.Common.{Bool, true, false, Option, Some, None}
use Rattle.std.specs.Prelude.{if◌then◌else◌}
use Rattle.swc_ecma_codegen_grammar.specs.Tokens.{Token}
use Rattle.swc_ecma_codegen_syntax.specs.declared.nonterminals.Nonterminal.{Nonterminal}
use Rattle.swc_ecma_codegen_syntax.specs.declared.nonterminals.Nonterminal.TheVariants as nt
use Rattle.swc_ecma_codegen_syntax.specs.Nonterminals.{takes}
use Rattle.swc_ecma_codegen_uniqueness.specs.ParseTrees.{Variant, TaggedTpl}
use Rattle.swc_ecma_codegen_uniqueness.proofs.Classes.{Class, class, Times, Over, Less, Within, Infix, Assigns, Colon, Comma, Dot, ChainDot, OpenParen, CloseParen, OpenBracket, CloseBracket, OpenBrace, CloseBrace, Dots, Line, Twice, FatArrow, Semi, Semicolon, FirstLine, First, Later, TagName, TagClose, ChildTagMark, ChildBraceMark, NameToken, PrivateToken, LiteralToken, RegexToken, ImportWord, AsyncWord, FunctionWord, ClassWord, ExtendsWord, ExportWord, ForWord, ReturnWord, ThrowWord, BreakWord, ContinueWord, DebuggerWord, IfWord, ElseWord, WhileWord, WithWord, DoWord, TryWord, CatchWord, FinallyWord, SwitchWord, CaseWord, DefaultWord, VarWord, Jsx, Slashed, Plain, TagString, TagText, KeyToken, is_reserved_word, Strange}
use Rattle.swc_ecma_codegen_uniqueness.proofs.Controls.{AfterAsync, AfterCatch, AfterClass, AfterDefault, AfterDo, AfterExport, AfterExportDefault, AfterFinally, AfterFor, AfterFunction, AfterImport, AfterImportDot, AfterKey, AfterName, AfterNew, AfterNewDot, AfterParameters, AfterAccessor, AfterSuper, AfterSwitch, AfterTry, AfterWord, AfterYield, Arguments, ArrowBody, AsyncDefault, AsyncDefaultLine, AsyncItem, AsyncItemLine, AsyncKey, AsyncLine, AsyncOperand, AsyncParameters, AtKey, AtMember, AttributeBraces, AttributeElement, AttributeValue, BehindCatch, BehindParameter, BehindTry, Case, CatchParameter, Chained, ChildBraces, ChildTag, Children, Clause, ClauseComma, Closed, ClosingName, ClosingTag, Control, Declarators, DefaultValue, Dotted, Elements, Entered, FieldPlace, ForHead, ForIn, ForOf, ForPlain, ForTest, ForUpdate, ForValue, ForVars, Headed, Heritage, ImportItem, InCatch, InClause, InKey, InList, InMemberKey, InMethod, InParen, InAccessorKey, InTag, InTry, InValue, Index, Initializer, Jump, Listed, MemberKey, Members, Middle, NextElement, NextProperty, OfDo, OfIf, Open, OpenTag, Parameter, Postfix, Properties, RestParameter, SelfClosing, AccessorParameter, Statement, Substitution, Test, Valued, Where, YieldLine, left, starts, whole, AsyncMember, is_behind_any, is_behind_or_else}

-- ---- what the machine does

-- takes the token, begins a node with it, begins one with the operand at hand and it, ends the topmost one; takes the token, which tells that what
-- stands before it was otherwise: `]` that the comma before it ends the list, `=>` that what is in parentheses are parameters. `{` begins a block, and any
-- token a member of a class; a token begins an expression in the place of a statement, and with it, `;` ends the statement; what is at hand has no node of
-- its own, before a token that is taken, or before another item. An item has one. A token tells that what was begun in the place of an item begins an expression:
-- `(` of `import(a)`; or that it has no node of its own: `function` of `export default async function () {}`. A token is in no list of a tree there.
pub data Action : Type 0 where
  Shift Push Wrap Reduce Turn Begin Enter Leave Splice Take Keep EnterBelow Merge Reject : Action

-- Neither `/` nor the rest of a template nor a template with a tag begins an operand, nor does `[no LineTerminator here]`, and where one stands no regular
-- expression does, and no template without a tag. Where the `;` that ends a statement stands, that of an empty one doesn't, nor the other way round. Behind an operand `++` and `=>` stand behind `[no LineTerminator here]` alone.
abbrev pub begun_by : Action → Class → Action
begun_by a (Infix Over) = Reject
begun_by a (Assigns Slashed) = Reject
begun_by a (First true opens) = Reject
begun_by a (Later tagged opens) = Reject
begun_by a Line = Reject
begun_by a Semi = Reject
begun_by a Semicolon = Reject
begun_by a KeyToken = Reject
begun_by a Strange = Reject
begun_by a (Jsx part) = Reject
begun_by a c = a

abbrev pub taken_by : Action → Class → Action
taken_by a RegexToken = Reject
taken_by a (First false opens) = Reject
taken_by a (Later tagged opens) = Reject
taken_by a Line = Reject
taken_by a Semicolon = Reject
taken_by a KeyToken = Reject
taken_by a Strange = Reject
taken_by a (Jsx part) = Reject
taken_by a c = a

-- where a key stands, or what an import or an export names, no reserved word does
abbrev pub keyed_by : Action → Class → Action
keyed_by a KeyToken = a
keyed_by a c = if is_reserved_word c then Reject else taken_by a c

abbrev pub wrapped_by : Class → Action
wrapped_by Line = Wrap
wrapped_by Twice = Reject
wrapped_by FatArrow = Reject
wrapped_by Semi = Reject
wrapped_by c = taken_by Wrap c

-- with no operand at hand
abbrev pub without : Control → Class → Action
without (Open tail) c = begun_by Push c
without InParen CloseParen = Shift
without InParen Dots = Shift
without InParen c = begun_by Push c
without (Index variant) c = begun_by Push c
without Middle c = begun_by Push c
without (Substitution variant) c = begun_by Push c
without Listed Dots = Shift
without Listed c = begun_by Push c
without InKey c = begun_by Push c
without InValue c = begun_by Push c
without Properties NameToken = Shift
without Properties KeyToken = Shift
without Properties LiteralToken = Shift
without Properties OpenBracket = Shift
without Properties Dots = Shift
without Properties AsyncWord = Shift
without Properties (Infix Times) = Shift
without Properties CloseBrace = Shift
without NextProperty NameToken = Shift
without NextProperty KeyToken = Shift
without NextProperty LiteralToken = Shift
without NextProperty OpenBracket = Shift
without NextProperty Dots = Shift
without NextProperty AsyncWord = Shift
without NextProperty (Infix Times) = Shift
without NextProperty CloseBrace = Turn
without AfterKey Colon = Shift
without AfterKey Comma = Shift
without AfterKey (Assigns Plain) = Shift
without AfterKey OpenParen = Shift
without AfterKey CloseBrace = Shift
without AfterKey NameToken = Shift
without AfterKey KeyToken = Shift
without AfterKey LiteralToken = Shift
without AfterKey OpenBracket = Shift
without (Arguments variant) CloseParen = Shift
without (Arguments variant) Dots = Shift
without (Arguments variant) c = begun_by Push c
without Elements CloseBracket = Shift
without Elements Comma = Shift
without Elements Dots = Shift
without Elements c = begun_by Push c
without NextElement CloseBracket = Turn
without NextElement Comma = Shift
without NextElement Dots = Shift
without NextElement c = begun_by Push c
without (Dotted variant) NameToken = Shift
without (Dotted variant) KeyToken = Shift
without (Dotted variant) PrivateToken = Shift
without Chained NameToken = Shift
without Chained KeyToken = Shift
without Chained PrivateToken = Shift
without Chained OpenBracket = Shift
without Chained OpenParen = Shift
without AfterNew Dot = Shift
without AfterNew c = begun_by Push c
without AfterNewDot NameToken = Shift
without AfterImport OpenParen = Shift
without AfterImport Dot = Shift
without AfterImport c = Reject
without AfterImportDot NameToken = Shift
without AfterSuper OpenParen = Shift
without AfterSuper Dot = Shift
without AfterSuper OpenBracket = Shift
without AfterYield Line = Shift
without AfterYield c = if takes (left c) nt.AssignmentExpression then Reduce else Reject
without YieldLine (Infix Times) = Shift
without YieldLine c = if starts c then Push else Reject
without Postfix Twice = Shift
without Postfix FatArrow = Turn
without Postfix c = Reject
without AfterAsync Line = Shift
without AfterAsync c = Reject
without AsyncLine FunctionWord = Shift
without AsyncLine c = begun_by Enter c
without AsyncOperand c = begun_by Push c
without AsyncItem Line = Shift
without AsyncItem c = Reject
without AsyncItemLine FunctionWord = Shift
without AsyncItemLine c = begun_by EnterBelow c
without AsyncDefault Line = Shift
without AsyncDefault c = Reject
without AsyncDefaultLine FunctionWord = Merge
without AsyncDefaultLine c = begun_by EnterBelow c
without AsyncParameters FatArrow = Turn
without AsyncParameters c = Reject
without ArrowBody OpenBrace = Shift
without ArrowBody c = begun_by Enter c
without (Statement place) OpenBrace = Begin
without (Statement (InList ends)) CloseBrace = Shift
without (Statement (InList ends)) FirstLine = Shift
without (Statement InTry) CloseBrace = Shift
without (Statement InCatch) CloseBrace = Shift
without (Statement InMethod) CloseBrace = Shift
without (Statement InClause) CloseBrace = Shift
without (Statement InClause) CaseWord = Shift
without (Statement InClause) DefaultWord = Shift
without (Statement place) DoWord = Push
without (Statement place) TryWord = Push
without (Statement place) SwitchWord = Push
without (Statement place) FunctionWord = Push
without (Statement place) ClassWord = Push
without (Statement place) ExportWord = Push
without (Statement place) ForWord = Push
without (Statement place) ImportWord = Begin
without (Statement place) AsyncWord = Begin
without (Statement place) ReturnWord = Push
without (Statement place) ThrowWord = Push
without (Statement place) BreakWord = Push
without (Statement place) ContinueWord = Push
without (Statement place) DebuggerWord = Push
without (Statement place) IfWord = Push
without (Statement place) WhileWord = Push
without (Statement place) WithWord = Push
without (Statement place) VarWord = Push
without (Statement place) Semicolon = Push
without (Statement place) c = if starts c then Enter else begun_by Reduce c
without (Entered place) c = if starts c then Push else begun_by Reduce c
without AfterFunction (Infix Times) = Shift
without AfterFunction NameToken = Shift
without AfterFunction OpenParen = Shift
without AfterName OpenParen = Shift
without (Parameter place) CloseParen = Shift
without (Parameter place) Dots = Shift
without (Parameter place) c = begun_by Push c
without (RestParameter place) c = begun_by Push c
without (AfterParameters place) OpenBrace = Shift
without AtKey NameToken = Shift
without AtKey KeyToken = Shift
without AtKey LiteralToken = Shift
without AtKey OpenBracket = Shift
without AtKey (Infix Times) = Shift
without AsyncKey Line = Shift
without AsyncKey c = Reject
without AsyncMember Line = Shift
without AsyncMember c = Reject
without InAccessorKey c = begun_by Push c
without AfterAccessor OpenParen = Shift
without AccessorParameter CloseParen = Shift
without AccessorParameter c = begun_by Push c
without (AfterWord variant) Semi = Shift
without (AfterWord variant) Line = Shift
without (AfterWord variant) c = Reject
without (Valued variant) c = if starts c then Push else Reject
without (Jump variant) NameToken = Shift
without (Jump variant) c = Reject
without (Headed variant) OpenParen = Shift
without (Test variant) c = begun_by Push c
without Declarators c = begun_by Push c
without Initializer c = begun_by Push c
without AfterDo Semi = Shift
without AfterDo c = if is_behind_or_else c then Reduce else Reject
without AfterTry OpenBrace = Shift
without BehindTry CatchWord = Shift
without BehindTry FinallyWord = Shift
without AfterCatch OpenBrace = Shift
without AfterCatch OpenParen = Shift
without CatchParameter c = begun_by Push c
without BehindParameter OpenBrace = Shift
without BehindCatch FinallyWord = Shift
without BehindCatch c = if is_behind_any c then Reduce else Reject
without AfterFinally OpenBrace = Shift
without AfterSwitch OpenBrace = Shift
without Case c = begun_by Push c
without AfterDefault Colon = Shift
without ImportItem OpenParen = EnterBelow
without ImportItem Dot = EnterBelow
without ImportItem c = keyed_by Shift c
without Clause c = keyed_by Shift c
without ClauseComma CloseBrace = Turn
without ClauseComma c = keyed_by Shift c
without AfterExport c = taken_by Shift c
without AfterExportDefault FunctionWord = Shift
without AfterExportDefault ClassWord = Shift
without AfterExportDefault AsyncWord = Begin
without AfterExportDefault c = begun_by Enter c
without DefaultValue c = begun_by Push c
without OpenTag (Jsx TagName) = Shift
without OpenTag (Jsx TagClose) = Shift
without OpenTag c = Reject
without InTag (Jsx TagName) = Shift
without InTag (Jsx TagClose) = Shift
without InTag Dot = Shift
without InTag Colon = Shift
without InTag OpenBrace = Shift
without InTag (Infix Over) = Shift
without InTag (Assigns Plain) = Shift
without InTag c = Reject
without AttributeValue (Infix Less) = Enter
without AttributeValue OpenBrace = Shift
without AttributeValue (Jsx TagString) = Shift
without AttributeValue c = Reject
without AttributeElement c = begun_by Push c
without AttributeBraces CloseBrace = Shift
without AttributeBraces Dots = Shift
without AttributeBraces c = begun_by Push c
without SelfClosing (Jsx TagClose) = Shift
without SelfClosing c = Reject
without ChildTag (Infix Over) = Merge
without ChildTag (Jsx TagName) = Shift
without ChildTag (Jsx TagClose) = Shift
without ChildTag c = Reject
without Children (Jsx ChildTagMark) = Begin
without Children (Jsx ChildBraceMark) = Shift
without Children (Jsx TagText) = Shift
without Children c = Reject
without ChildBraces CloseBrace = Shift
without ChildBraces Dots = Shift
without ChildBraces c = begun_by Push c
without ClosingTag (Jsx TagName) = Shift
without ClosingTag (Jsx TagClose) = Shift
without ClosingTag c = Reject
without ClosingName (Jsx TagName) = Shift
without ClosingName (Jsx TagClose) = Shift
without ClosingName Dot = Shift
without ClosingName Colon = Shift
without ClosingName c = Reject
without AfterFor c = taken_by Shift c
without ForHead Semicolon = Shift
without ForHead VarWord = Shift
without ForHead c = if starts c then Push else begun_by Reduce c
without ForPlain c = if starts c then Push else begun_by Reduce c
without ForVars c = begun_by Push c
without ForValue c = begun_by Push c
without ForTest Semicolon = Shift
without ForTest c = begun_by Push c
without ForUpdate CloseParen = Shift
without ForUpdate c = begun_by Push c
without ForIn c = begun_by Push c
without ForOf c = begun_by Push c
without AfterClass NameToken = Shift
without AfterClass ExtendsWord = Shift
without AfterClass OpenBrace = Shift
without Heritage c = begun_by Push c
without Members CloseBrace = Shift
without Members Semicolon = Begin
without Members Semi = Reject
without Members c = keyed_by Begin c
without AtMember c = keyed_by Shift c
without InMemberKey c = begun_by Push c
without (MemberKey variant) c = keyed_by Shift c
without (FieldPlace variant) c = begun_by Push c
without (Closed variant) c = Reduce
without control (Later tagged opens) = Reject
without control Line = Reject
without control (Jsx part) = Reject
without control KeyToken = Reject
without control c = if is_reserved_word c then Reject else Reduce

abbrev ends : Nonterminal → Class → Action
ends n c = if takes (left c) n then Reduce else wrapped_by c

-- behind a substitution the template goes on, with a tag where it has one
abbrev pub is_tag : Variant → Bool
is_tag TaggedTpl = true
is_tag variant = false

abbrev pub later_by : Bool → Bool → Action
later_by true true = Shift
later_by false false = Shift
later_by with_tag tagged = Reject

abbrev pub with_operand : Control → Class → Action
with_operand (Open tail) c = ends (whole tail) c
with_operand InParen CloseParen = Shift
with_operand (Index variant) CloseBracket = Shift
with_operand (Arguments variant) Comma = Shift
with_operand (Arguments variant) CloseParen = Shift
with_operand Elements Comma = Shift
with_operand Elements CloseBracket = Shift
with_operand NextElement Comma = Shift
with_operand NextElement CloseBracket = Shift
with_operand Middle Colon = Shift
with_operand InKey CloseBracket = Shift
with_operand InValue Comma = Shift
with_operand InValue CloseBrace = Shift
with_operand (Substitution variant) (Later tagged opens) = later_by (is_tag variant) tagged
with_operand (Substitution variant) CloseBrace = Reject
with_operand AfterNew OpenParen = Shift
with_operand AfterNew c = ends nt.NewExpression c
with_operand YieldLine c = ends nt.AssignmentExpression c
with_operand AsyncOperand Line = Shift
with_operand (Statement (InList ends)) c = Take
with_operand (Statement InTry) c = Take
with_operand (Statement InCatch) c = Take
with_operand (Statement InMethod) c = Take
with_operand (Statement InClause) c = Keep
with_operand (Statement OfDo) WhileWord = Shift
with_operand CatchParameter CloseParen = Shift
with_operand Case Colon = Shift
with_operand (Statement OfIf) ElseWord = Shift
with_operand (Statement place) c = if is_behind_any c then Reduce else Reject
with_operand (Entered place) Semi = Leave
with_operand (Entered place) Colon = Leave
with_operand (Parameter place) Comma = Splice
with_operand (Parameter place) CloseParen = Splice
with_operand (RestParameter place) CloseParen = Shift
with_operand InAccessorKey CloseBracket = Shift
with_operand AccessorParameter CloseParen = Shift
with_operand (Valued variant) Semi = Shift
with_operand (Test variant) CloseParen = Shift
with_operand Declarators (Assigns sign) = Splice
with_operand Declarators Comma = Splice
with_operand Declarators Semi = Splice
with_operand Initializer Comma = Shift
with_operand Initializer Semi = Shift
with_operand Heritage OpenBrace = Shift
with_operand Members c = Keep
with_operand InMemberKey CloseBracket = Shift
with_operand (FieldPlace variant) Semi = Shift
with_operand DefaultValue Semi = Shift
with_operand AttributeElement (Jsx TagName) = Splice
with_operand AttributeElement OpenBrace = Splice
with_operand AttributeElement (Infix Over) = Splice
with_operand AttributeElement (Jsx TagClose) = Splice
with_operand AttributeElement Dot = Wrap
with_operand AttributeElement ChainDot = Wrap
with_operand AttributeElement OpenParen = Wrap
with_operand AttributeElement OpenBracket = Wrap
with_operand AttributeElement (First true opens) = Wrap
with_operand AttributeElement c = Reject
with_operand AttributeBraces CloseBrace = Shift
with_operand Children c = Keep
with_operand ChildBraces CloseBrace = Shift
with_operand ForHead Semicolon = Shift
with_operand ForHead (Infix Within) = Shift
with_operand ForHead NameToken = Shift
with_operand ForPlain Semicolon = Shift
with_operand ForPlain NameToken = Shift
with_operand ForVars (Assigns sign) = Splice
with_operand ForVars Comma = Splice
with_operand ForVars Semicolon = Splice
with_operand ForVars (Infix Within) = Splice
with_operand ForVars NameToken = Splice
with_operand ForValue Comma = Shift
with_operand ForValue Semicolon = Shift
with_operand ForTest Semicolon = Shift
with_operand ForUpdate CloseParen = Shift
with_operand ForIn CloseParen = Shift
with_operand ForOf CloseParen = Shift
with_operand Listed Comma = Shift
with_operand Listed c = ends nt.Expression c
with_operand control c = wrapped_by c

abbrev at_hand : Control → Option Variant → Class → Action
at_hand control None c = without control c
at_hand control (Some variant) c = with_operand control c

abbrev pub decide : Control → Option Variant → Token → Action
decide control hand t = at_hand control hand (class t)
