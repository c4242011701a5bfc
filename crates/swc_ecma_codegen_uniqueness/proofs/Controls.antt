-- What is begun, in the machine: what a token is behind an operand, and which nonterminal stands where.
use Rattle.std.proofs.Common.{Bool, true, false, ◌&&◌, ◌||◌}
use Rattle.swc_ecma_codegen_grammar.specs.Tokens.{Token}
use Rattle.swc_ecma_codegen_syntax.specs.declared.nonterminals.Nonterminal.{Nonterminal}
use Rattle.swc_ecma_codegen_syntax.specs.declared.nonterminals.Nonterminal.TheVariants as nt
use Rattle.swc_ecma_codegen_syntax.specs.Nonterminals.{takes, is_private}
use Rattle.swc_ecma_codegen_uniqueness.specs.ParseTrees.{Variant, Unary, Update, Bin, Assign, Cond, New, Seq, Arrow, Yield, Await, LabeledStmt, IfStmt, Foreign, TryStmt, DoWhileStmt}
use Rattle.swc_ecma_codegen_uniqueness.proofs.Classes.{Level, Class, class, Power, Times, Over, Plus, Shifting, Less, Comparing, Within, Equating, BitAnds, BitXors, BitOrs, Ands, Ors, Coalescing, Infix, Assigns, Ask, Colon, Comma, Dot, ChainDot, OpenParen, CloseParen, OpenBracket, CloseBracket, OpenBrace, CloseBrace, Line, Twice, Bang, Semi, Semicolon, First, Later, NameToken, PrivateToken, LiteralToken, RegexToken, ThisWord, NewWord, SuperWord, ImportWord, YieldWord, AwaitWord, AsyncWord, FunctionWord, ClassWord, ElseWord, CatchWord, FinallyWord, UnaryWord, Jsx, ConstantWord, Strange, KeyToken}

-- ---- levels: the nonterminal of each operator, and of its operands

abbrev pub made : Level → Nonterminal
made Power = nt.ExponentiationExpression
made Times = nt.MultiplicativeExpression
made Over = nt.MultiplicativeExpression
made Plus = nt.AdditiveExpression
made Shifting = nt.ShiftExpression
made Less = nt.RelationalExpression
made Comparing = nt.RelationalExpression
made Within = nt.RelationalExpression
made Equating = nt.EqualityExpression
made BitAnds = nt.BitwiseAndExpression
made BitXors = nt.BitwiseXorExpression
made BitOrs = nt.BitwiseOrExpression
made Ands = nt.LogicalAndExpression
made Ors = nt.LogicalOrExpression
made Coalescing = nt.CoalesceExpression

abbrev pub left_of : Level → Nonterminal
left_of Power = nt.UpdateExpression
left_of Within = nt.InLeft
left_of Coalescing = nt.CoalesceExpressionHead
left_of level = made level

abbrev pub right_of : Level → Nonterminal
right_of Power = nt.ExponentiationExpression
right_of Times = nt.ExponentiationExpression
right_of Over = nt.ExponentiationExpression
right_of Plus = nt.MultiplicativeExpression
right_of Shifting = nt.AdditiveExpression
right_of Less = nt.ShiftExpression
right_of Comparing = nt.ShiftExpression
right_of Within = nt.ShiftExpression
right_of Equating = nt.RelationalExpression
right_of BitAnds = nt.EqualityExpression
right_of BitXors = nt.BitwiseAndExpression
right_of BitOrs = nt.BitwiseXorExpression
right_of Ands = nt.BitwiseOrExpression
right_of Ors = nt.LogicalAndExpression
right_of Coalescing = nt.BitwiseOrExpression

-- the widest nonterminal that stands before a token
abbrev pub left : Class → Nonterminal
left (Infix level) = left_of level
left (Assigns sign) = nt.LeftHandSideExpression
left Ask = nt.ShortCircuitExpression
left Colon = nt.Expression
left Comma = nt.AssignmentExpression
left Dot = nt.ChainBase
left ChainDot = nt.ChainBase
left OpenParen = nt.ChainBase
left OpenBracket = nt.ChainBase
left (First tagged opens) = nt.ChainBase
left CloseParen = nt.Expression
left CloseBracket = nt.Expression
left CloseBrace = nt.Expression
left (Later tagged opens) = nt.Expression
left OpenBrace = nt.LeftHandSideExpression
left Line = nt.LeftHandSideExpression
left Semi = nt.Expression
left Semicolon = nt.Expression
left NameToken = nt.LeftHandSideExpression
left (Jsx part) = nt.PrimaryExpression
left c = nt.Uncovered

-- an item of a list of statements, or a statement in another: before `else`, before an empty statement, or before neither
abbrev pub is_item : Nonterminal → Bool
is_item nt.Statement = true
is_item nt.StatementListItem = true
is_item nt.Block = true
is_item n = false

-- an item, a member of a class, or an element between tags: no unit production says what ends it
abbrev pub is_listed : Nonterminal → Bool
is_listed nt.ClassElement = true
is_listed nt.JSXElement = true
is_listed n = is_item n

-- What stands behind an item begins no part of it. The `;` of an empty statement would be that of a `do` before it: `do a; while (b)`.
abbrev pub is_behind : Class → Bool
is_behind ElseWord = false
is_behind CatchWord = false
is_behind FinallyWord = false
is_behind Semi = false
is_behind Semicolon = false
is_behind KeyToken = false
is_behind Strange = false
is_behind Line = false
is_behind (Jsx part) = false
is_behind c = true

abbrev pub is_behind_or_else : Class → Bool
is_behind_or_else ElseWord = true
is_behind_or_else c = is_behind c

abbrev pub is_behind_or_empty : Class → Bool
is_behind_or_empty Semicolon = true
is_behind_or_empty c = is_behind c

abbrev pub is_behind_any : Class → Bool
is_behind_any Semicolon = true
is_behind_any c = is_behind_or_else c

abbrev pub closed_by : Class → Nonterminal → Bool
closed_by c nt.Statement = is_behind c
closed_by c nt.StatementListItem = is_behind_or_empty c
closed_by c nt.Block = is_behind_or_else c
closed_by c nt.ClassElement = true
closed_by c nt.JSXElement = true
closed_by c n = takes (left c) n

-- a token ends what is of a nonterminal
abbrev pub closes : Token → Nonterminal → Bool
closes t n = closed_by (class t) n

-- `in`, which is no operator in the head of a `for`
abbrev pub is_within : Class → Bool
is_within (Infix Within) = true
is_within c = false

-- where an operand stands, its first token begins it
abbrev pub starts : Class → Bool
starts NameToken = true
starts PrivateToken = true
starts LiteralToken = true
starts ConstantWord = true
starts RegexToken = true
starts ThisWord = true
starts OpenParen = true
starts OpenBracket = true
starts OpenBrace = true
starts (First false opens) = true
starts (Infix Plus) = true
starts (Infix Less) = true
starts Bang = true
starts UnaryWord = true
starts Twice = true
starts NewWord = true
starts SuperWord = true
starts ImportWord = true
starts YieldWord = true
starts AwaitWord = true
starts AsyncWord = true
starts FunctionWord = true
starts ClassWord = true
starts c = false

-- ---- what is begun

-- a node that waits for its last part
pub data Tail : Type 0 where
  OfInfix : (level : Level) → Tail
  OfUnary OfUpdate OfCond OfAssign OfAwait OfYield OfArrow : Tail

-- its nonterminal, that of its last part, and its variant
abbrev pub whole : Tail → Nonterminal
whole (OfInfix level) = made level
whole OfUnary = nt.UnaryExpression
whole OfUpdate = nt.UpdateExpression
whole OfCond = nt.ConditionalExpression
whole OfAssign = nt.AssignmentExpression
whole OfAwait = nt.UnaryExpression
whole OfYield = nt.AssignmentExpression
whole OfArrow = nt.AssignmentExpression

abbrev pub last : Tail → Nonterminal
last (OfInfix level) = right_of level
last OfUnary = nt.UnaryExpression
last OfUpdate = nt.LeftHandSideExpression
last OfCond = nt.AssignmentExpression
last OfAssign = nt.AssignmentExpression
last OfAwait = nt.UnaryExpression
last OfYield = nt.AssignmentExpression
last OfArrow = nt.AssignmentExpression

abbrev pub tail_variant : Tail → Variant
tail_variant (OfInfix level) = Bin
tail_variant OfUnary = Unary
tail_variant OfUpdate = Update
tail_variant OfCond = Cond
tail_variant OfAssign = Assign
tail_variant OfAwait = Await
tail_variant OfYield = Yield
tail_variant OfArrow = Arrow

-- where a statement stands: in a list, of what ends with `}`, behind `try {`, behind `catch {`, behind `case a:`, in a method of an object; behind `if (a)`, behind `else`, behind
-- `do`, behind `while (a)` or `with (a)`, behind `a:`
pub data Where : Type 0 where
  InList : (ends : Variant) → Where
  InTry InCatch InClause InMethod OfIf OfElse OfDo OfLabel : Where
  OfLoop : (variant : Variant) → Where

-- Where a node is that is begun: at its end; before its last part; in parentheses; behind `a[`; among arguments; among elements, and behind `a,` of
-- them; behind `a ?`; in a template; behind `a.`; in an object before a property, behind a comma, behind a key, behind `[` of a key, and before a value;
-- behind `a?.`, `new`, `new.`, `import`, `import.`, `super`, `yield`, what stays on its line behind that, `a` before `++` or `=>`, and `a,`; behind
-- `async`, what stays on its line behind that, and its parameters; behind `=>`. Before a statement, and behind the first token of an expression in its
-- place; behind `function`, behind the name, among parameters, behind `...` of them, and behind them; behind `return`, before a value, and before a label;
-- behind `if`, and behind `if (`; behind `let`, and before a value of it; behind `do a; while (b)`; behind `try`, and its block; behind `catch`, `catch (`,
-- `catch (a)`, and its block; behind `finally`; behind `switch (a)`, `case`, and `default`. Behind `class`, with its name or not; behind `extends`; before a member
-- of a class; behind `static`, `get`, `*` and what stays on the line of `async`, and behind `async` of one; behind `[` of its key, behind its key, and before its value.
-- Behind `import` in the place of an item; among the names of an import or an export, and behind `a,` of them; behind `export` and `export default`, and before the
-- value of that. Behind `async` in the place of an item, and behind what stays on its line behind that; the same behind `export default`; before the parameters of an
-- async arrow function. Behind `for`; in its head, and the same where `in` is an operator; among declarations there, and before a value of one; before the test and
-- the update; behind `in`, and behind `of`. In JSX behind `<`, and in a tag; before the value of an attribute, and before an element that is one; in braces there;
-- behind `/` of `<a />`; behind the `<` of a child; among children, and in braces there; behind `</`, and in the name behind that.
pub data Control : Type 0 where
  Closed : (variant : Variant) → Control
  Open : (tail : Tail) → Control
  InParen : Control
  Index : (variant : Variant) → Control
  Arguments : (variant : Variant) → Control
  Elements NextElement Middle : Control
  Substitution : (variant : Variant) → Control
  Dotted : (variant : Variant) → Control
  Properties NextProperty AfterKey InKey InValue : Control
  Chained AfterNew AfterNewDot AfterImport AfterImportDot AfterSuper AfterYield YieldLine Postfix Listed AfterAsync AsyncLine AsyncParameters ArrowBody : Control
  Statement Entered : (place : Where) → Control
  AfterFunction AfterName : Control
  Parameter RestParameter AfterParameters : (place : Where) → Control
  AtKey AsyncKey InAccessorKey AfterAccessor AccessorParameter : Control
  AfterWord Valued Jump Headed Test : (variant : Variant) → Control
  Declarators Initializer : Control
  AfterDo AfterTry BehindTry AfterCatch CatchParameter BehindParameter BehindCatch AfterFinally AfterSwitch Case AfterDefault : Control
  AfterClass Heritage Members AtMember AsyncMember InMemberKey : Control
  ImportItem Clause ClauseComma AfterExport AfterExportDefault DefaultValue : Control
  AsyncItem AsyncItemLine AsyncDefault AsyncDefaultLine AsyncOperand : Control
  AfterFor ForHead ForPlain ForVars ForValue ForTest ForUpdate ForIn ForOf : Control
  OpenTag InTag AttributeValue AttributeElement AttributeBraces SelfClosing ChildTag Children ChildBraces ClosingTag ClosingName : Control
  MemberKey FieldPlace : (variant : Variant) → Control

-- the nonterminal that stands there
abbrev pub waits : Control → Nonterminal
waits (Open tail) = last tail
waits InParen = nt.Expression
waits (Index variant) = nt.Expression
waits (Arguments variant) = nt.AssignmentExpression
waits Elements = nt.AssignmentExpression
waits NextElement = nt.AssignmentExpression
waits Middle = nt.AssignmentExpression
waits InKey = nt.AssignmentExpression
waits InValue = nt.AssignmentExpression
waits (Substitution variant) = nt.Expression
waits AfterNew = nt.NewExpression
waits YieldLine = nt.AssignmentExpression
waits Listed = nt.AssignmentExpression
waits AsyncOperand = nt.LeftHandSideExpression
waits (Entered place) = nt.Expression
waits (Parameter place) = nt.AssignmentExpression
waits (RestParameter place) = nt.LeftHandSideExpression
waits InAccessorKey = nt.AssignmentExpression
waits AccessorParameter = nt.AssignmentExpression
waits (Valued variant) = nt.Expression
waits (Test variant) = nt.Expression
waits Declarators = nt.LeftHandSideExpression
waits Initializer = nt.AssignmentExpression
waits CatchParameter = nt.LeftHandSideExpression
waits Case = nt.Expression
waits Heritage = nt.LeftHandSideExpression
waits Members = nt.ClassElement
waits InMemberKey = nt.AssignmentExpression
waits (FieldPlace variant) = nt.AssignmentExpression
waits DefaultValue = nt.AssignmentExpression
waits AttributeElement = nt.PrimaryExpression
waits AttributeBraces = nt.Expression
waits Children = nt.JSXElement
waits ChildBraces = nt.Expression
waits ForPlain = nt.Expression
waits ForVars = nt.LeftHandSideExpression
waits ForValue = nt.AssignmentExpression
waits ForTest = nt.Expression
waits ForUpdate = nt.Expression
waits ForIn = nt.Expression
waits ForOf = nt.AssignmentExpression
waits c = nt.Uncovered

abbrev pub at_item : Control → Bool
at_item (Statement place) = true
at_item c = false

-- A node stands there; `#a` does where `#a in b` would; a statement does.
abbrev pub stands : Control → Nonterminal → Bool
stands c n = takes (waits c) n || ((is_private n && takes (waits c) nt.RelationalExpression) || (is_item n && at_item c))

-- behind the first token of an expression, and back
abbrev pub entered : Control → Control
entered (Statement place) = Entered place
entered ArrowBody = Open OfArrow
entered AfterExportDefault = DefaultValue
entered AsyncLine = AsyncOperand
entered AttributeValue = AttributeElement
entered c = c

abbrev pub outside : Control → Control
outside (Entered place) = Statement place
outside c = c

-- what was begun in the place of an item, as it is begun in an expression
abbrev pub as_expression : Control → Control
as_expression ImportItem = AfterImport
as_expression AsyncItem = AfterAsync
as_expression AsyncItemLine = AsyncLine
as_expression AsyncDefault = AfterAsync
as_expression AsyncDefaultLine = AsyncLine
as_expression c = c

abbrev pub variant_of : Control → Variant
variant_of (Closed variant) = variant
variant_of (Open tail) = tail_variant tail
variant_of AfterNew = New
variant_of AfterYield = Yield
variant_of YieldLine = Yield
variant_of Listed = Seq
variant_of (Statement OfIf) = IfStmt
variant_of (Statement OfElse) = IfStmt
variant_of (Statement OfLabel) = LabeledStmt
variant_of AfterDo = DoWhileStmt
variant_of BehindCatch = TryStmt
variant_of (Statement (OfLoop variant)) = variant
variant_of c = Foreign
