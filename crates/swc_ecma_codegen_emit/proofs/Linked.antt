-- What a law of one node takes: what is known of whatever its links hold.
use Rattle.std.proofs.Common.{◌≡◌, false, cond, None}
use Rattle.swc_ecma_codegen_grammar.specs.Comments.{no_maps}
use Rattle.swc_ecma_codegen_grammar.specs.Phrases.{Phrase, Never}
use Rattle.swc_ecma_codegen_grammar.specs.declared.roles.Role.{Role}
use Rattle.swc_ecma_codegen_grammar.specs.declared.roles.Role.TheVariants.{Expression, Function, Statement, Pattern, PlainParameter, PropertyName, Block, Declaration, VariableDeclaration, MethodHead, MethodTail, AccessorTail, ClassHead, MethodDecorators, Member, ExportedHead, ExportedTail, ModuleDeclaration, Element, Child, TagObject, TypeArguments}
use Rattle.swc_ecma_codegen_tree.specs.Links.{BlockStmtBox, ExprBox, PatBox, PropNameBox, StmtBox, VarDeclBox}
use Rattle.swc_ecma_codegen_tokens.specs.Run.{Env, Part}
use Rattle.swc_ecma_codegen_tokens.specs.Written.{Spot, Anything, Between, InText, InName}
use Rattle.swc_ecma_codegen_tokens.proofs.Filling.Lengths.{at_length}
use Rattle.swc_ecma_codegen_tokens.proofs.Reading.Phrased.{Prints, PrintsAt, PrintsOn}
use Rattle.swc_ecma_codegen_emit.specs.declared.nodes.Context.{Context}
use Rattle.swc_ecma_codegen_emit.specs.declared.nodes.Context.TheVariants.{Plain}
use Rattle.swc_ecma_codegen_emit.specs.declared.nodes.Piece.TheVariants.{DeclarationTail}
use Rattle.swc_ecma_codegen_emit.specs.Answers.{Answers}
use Rattle.swc_ecma_codegen_emit.specs.FunctionExprs.{is_plain}
use Rattle.swc_ecma_codegen_emit.specs.Places.{Place, Whole, Only, placed}
use Rattle.swc_ecma_codegen_tokens.proofs.Filling.Shapes.{Shape, whole, loose, ended, ended_if_any, joining_if_any}

-- a function that is declared may end behind its semicolon
abbrev pub function_shape : Place → Shape
function_shape (Only DeclarationTail) = ended
function_shape place = whole

-- A statement may end with the end of its line or behind its semicolon, as declarations and members of classes do, and declarations of
-- variables with a list; decorators stand on lines of their own, where there are some; of a method there may be `async` before its name,
-- on the line of that name, or nothing. All else begins and ends with a token.
abbrev pub role_shape : Role → Place → Shape
role_shape Statement place = ended
role_shape VariableDeclaration place = ended
role_shape ModuleDeclaration place = ended
role_shape ClassHead place = ended_if_any
role_shape ExportedHead place = ended_if_any
role_shape MethodDecorators place = ended_if_any
role_shape MethodHead place = joining_if_any
role_shape Member place = loose
role_shape MethodTail place = ended
role_shape AccessorTail place = ended
role_shape Declaration place = ended
role_shape ExportedTail place = ended
role_shape Function place = function_shape place
role_shape role place = whole

-- What may come before it, and behind it: a child of an element stands right behind a tag or text, and behind an element another child may;
-- behind the object of a name in a tag no dash, and type arguments stand behind such a name.
abbrev pub role_before : Role → Spot
role_before Child = InText
role_before TypeArguments = InName
role_before role = Anything

abbrev pub role_behind : Role → Spot
role_behind Element = Between
role_behind Child = Between
role_behind TagObject = InName
role_behind role = Anything

abbrev pub PrintsIn : Role → Place → Env → Part → Phrase → Type 0
PrintsIn role place env part phrase = PrintsOn (role_before role) (role_behind role) (role_shape role place) env part phrase

-- What it answers, what is written of it, and what it reads as, in each role; that it is said to be a name alone where it may stand
-- without parentheses; that where there are no comments none stands before it after which a line ends; and that what is written is what it reads as, also inside of what no line may be ended in.
pub record Linked (X : Type 0) : Type 0 where
  pub env : Env
  pub leaves_out : env.keeps_invalid ≡ false
  pub asks : X → Answers
  pub items : X → Place → Part
  pub reads : X → Role → Phrase
  pub plain : (x : X) → reads x PlainParameter ≡ cond (is_plain (asks x).pattern) (reads x Pattern) Never
  pub quiet : (x : X) → (asks x).breaks no_maps ≡ false
  pub law : (x : X) (place : Place) (role : Role) → PrintsIn role place env (items x (placed role place)) (reads x role)
  pub inside : (x : X) (place : Place) (role : Role) → PrintsIn role place (at_length None env) (items x (placed role place)) (reads x role)

-- the same where no line may be ended
abbrev pub unbounded_linked : {X : Type 0} → Linked X → Linked X
unbounded_linked l = record { env = at_length None l.env; leaves_out = l.leaves_out; asks = l.asks; items = l.items; reads = l.reads; plain = l.plain; quiet = l.quiet; law = l.inside; inside = l.inside }

pub expr_at : {X : Type 0} (l : Linked X) (n : ExprBox X) (context : Context) → Prints l.env (l.items n.node.value (placed Expression (Whole context))) (l.reads n.node.value Expression)
expr_at l n context = l.law n.node.value (Whole context) Expression

pub stmt_at : {X : Type 0} (l : Linked X) (n : StmtBox X) → PrintsAt ended l.env (l.items n.node.value (Whole Plain)) (l.reads n.node.value Statement)
stmt_at l n = l.law n.node.value (Whole Plain) Statement

pub pat_at : {X : Type 0} (l : Linked X) (n : PatBox X) → Prints l.env (l.items n.node.value (Whole Plain)) (l.reads n.node.value Pattern)
pat_at l n = l.law n.node.value (Whole Plain) Pattern

pub prop_name_at : {X : Type 0} (l : Linked X) (n : PropNameBox X) → Prints l.env (l.items n.node.value (Whole Plain)) (l.reads n.node.value PropertyName)
prop_name_at l n = l.law n.node.value (Whole Plain) PropertyName

pub block_at : {X : Type 0} (l : Linked X) (n : BlockStmtBox X) (context : Context) → Prints l.env (l.items n.node.value (Whole context)) (l.reads n.node.value Block)
block_at l n context = l.law n.node.value (Whole context) Block

pub var_decl_at : {X : Type 0} (l : Linked X) (n : VarDeclBox X) → PrintsAt ended l.env (l.items n.node.value (Whole Plain)) (l.reads n.node.value VariableDeclaration)
var_decl_at l n = l.law n.node.value (Whole Plain) VariableDeclaration
