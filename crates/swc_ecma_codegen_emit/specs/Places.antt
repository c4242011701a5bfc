-- Where a node may stand in its role.
use Rattle.std.specs.Prelude.{ℕ, Bool, true, false, if◌then◌else◌, Option, Some, None}
use Rattle.swc_ecma_codegen_grammar.specs.declared.roles.Role.{Role}
use Rattle.swc_ecma_codegen_grammar.specs.declared.roles.Role.TheVariants.{MemberExpression, ChainMember, Function, FunctionHead as HeadOfFunction, MethodHead as HeadOfMethod, Expression, Callee as IsCallee, ChainCall, Template, TaggedTemplate, ClassHead as HeadOfClass, ClassWord as WordOfClass, ClassTail, MethodDecorators as DecoratorsOfMethod, MethodTail as TailOfMethod, AccessorTail as TailOfAccessor, FieldValue as ValueOfField, ModuleDeclaration, ExportedHead as HeadOfExported, ExportedTail as TailOfExported, Element, Child as IsChild, NamespaceBody, DottedBody}
use Rattle.swc_ecma_codegen_tokens.specs.Run.{Env, Part, unbounded}
use Rattle.swc_ecma_codegen_emit.specs.declared.nodes.Context.{Context}
use Rattle.swc_ecma_codegen_emit.specs.declared.nodes.Context.TheVariants.{ByItself, Plain, Chain, OptionalChain, Object, DottedObject, Callee, DefaultExport, Tagged, FieldValue, Child, Dotted}
use Rattle.swc_ecma_codegen_emit.specs.declared.nodes.Piece.{Piece}
use Rattle.swc_ecma_codegen_emit.specs.declared.nodes.Piece.TheVariants.{FunctionHead, MethodHead, DeclarationHead, DeclarationTail, ClassHead, ClassWord, StaticHead, MethodDecorators, MethodTail, ExportedHead, ExportedTail}

-- what is written of a node: the whole of it, in the context that it stands in, or a piece alone
pub data Place : Type 0 where
  Whole : (context : Context) → Place
  Only : (piece : Piece) → Place

-- the context: plain, unless a whole node stands in another
abbrev pub context_of : Place → Context
context_of (Whole context) = context
context_of place = Plain

-- what is written of a whole node, by its context
abbrev pub in_context : (Context → Part) → Place → Part
in_context part place = part (context_of place)

-- a context where nothing is asked of an expression, and one inside of a callee
abbrev pub outside : Context → Context
outside Object = Plain
outside (DottedObject prop) = Plain
outside Callee = Plain
outside FieldValue = Plain
outside context = context

abbrev pub inside : Context → Context
inside Object = Object
inside (DottedObject prop) = DottedObject prop
inside context = Callee

-- what of a function stands before its name: of one that is declared, with a blank
abbrev pub before_name : Place → Piece
before_name (Only DeclarationHead) = DeclarationHead
before_name place = FunctionHead

-- what of a method stands before its name: of a static one, behind that word
abbrev pub before_method : Place → Piece
before_method (Only (StaticHead starts)) = StaticHead starts
before_method place = MethodHead

-- what of a function stands behind its name: of one that is declared, with a place where a line may be ended
abbrev pub behind_name : Place → Place
behind_name (Only DeclarationTail) = Only DeclarationTail
behind_name place = Whole Plain

-- of a function that is exported by default as of one that is declared
abbrev pub function_tail : Context → Place
function_tail DefaultExport = Only DeclarationTail
function_tail context = Whole Plain

-- what of a method stands behind its key: of a private one as of any function
abbrev pub behind_key : Place → Place
behind_key (Only MethodTail) = Only MethodTail
behind_key place = behind_name place

-- a member or a call in an optional chain
abbrev pub chain : Bool → Context
chain true = OptionalChain
chain false = Chain

-- An expression stands where it is called or has a property where that is its role, and there alone, and so does a member, or a call,
-- in a chain, a template with a tag, the value of a field, a child of an element, and the body of a namespace behind its name. Of a
-- function, a class, a method or a declaration that is exported a piece is asked. Another node stands whole where it is put.
abbrev pub placed : Role → Place → Place
placed Expression place = Whole (outside (context_of place))
placed IsCallee place = Whole (inside (context_of place))
placed MemberExpression place = Whole Plain
placed (ChainMember optional) place = Whole (chain optional)
placed (ChainCall optional) place = Whole (chain optional)
placed Function place = behind_name place
placed HeadOfFunction place = Only (before_name place)
placed HeadOfMethod place = Only (before_method place)
placed HeadOfClass place = Only ClassHead
placed WordOfClass place = Only ClassWord
placed ClassTail place = Whole Plain
placed DecoratorsOfMethod place = Only MethodDecorators
placed TailOfMethod place = behind_key place
placed TailOfAccessor place = behind_key place
placed ValueOfField place = Whole FieldValue
placed HeadOfExported place = Only ExportedHead
placed TailOfExported place = Only ExportedTail
placed ModuleDeclaration place = Whole Plain
placed Template place = Whole Plain
placed TaggedTemplate place = Whole Tagged
placed Element place = Whole Plain
placed IsChild place = Whole Child
placed NamespaceBody place = Whole Plain
placed DottedBody place = Whole Dotted
placed role place = Whole (context_of place)

-- a node stands by itself: a module or script, where lines have a greatest length and the settings are to minify, is told it
abbrev pub with_lines : Option ℕ → Place
with_lines None = Whole Plain
with_lines (Some max) = Whole (ByItself max)

abbrev pub alone : Env → Place
alone env = if env.config.minify then with_lines env.max_line else Whole Plain

-- what is written of it: it alone tells where lines may be ended
unfoldable pub by_itself : (Place → Part) → Part
by_itself items rest env = unbounded (items (alone env)) rest env
