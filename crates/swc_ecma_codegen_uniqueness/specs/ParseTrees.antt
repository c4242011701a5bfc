-- Parse trees: tokens, and round the tokens of each node what node it is.
use Rattle.std.specs.Prelude.{◌≡◌, ◌⊎◌, List, ◌∷◌}
use Rattle.swc_ecma_codegen_tree.specs.declared.links.AnyNode.TheOpen as nodes
use Rattle.swc_ecma_codegen_tree.specs.declared.classes.ClassMember as class_members
use Rattle.swc_ecma_codegen_tree.specs.declared.classes.ClassMember.TheVariants as members
use Rattle.swc_ecma_codegen_tree.specs.declared.exprs.Expr.{Expr}
use Rattle.swc_ecma_codegen_tree.specs.declared.exprs.Expr.TheVariants as exprs
use Rattle.swc_ecma_codegen_tree.specs.declared.parts.ExprPart.{ExprPart}
use Rattle.swc_ecma_codegen_tree.specs.declared.parts.ExprPart.TheVariants as expr_parts
use Rattle.swc_ecma_codegen_tree.specs.declared.parts.JSXPart.{JSXPart}
use Rattle.swc_ecma_codegen_tree.specs.declared.parts.JSXPart.TheVariants as jsx_parts
use Rattle.swc_ecma_codegen_tree.specs.declared.parts.StmtPart.{StmtPart}
use Rattle.swc_ecma_codegen_tree.specs.declared.parts.StmtPart.TheVariants as stmt_parts
use Rattle.swc_ecma_codegen_tree.specs.declared.pats.AssignTarget.{AssignTarget}
use Rattle.swc_ecma_codegen_tree.specs.declared.pats.AssignTarget.TheVariants as targets
use Rattle.swc_ecma_codegen_tree.specs.declared.pats.AssignTargetPat.{AssignTargetPat}
use Rattle.swc_ecma_codegen_tree.specs.declared.pats.AssignTargetPat.TheVariants as target_pats
use Rattle.swc_ecma_codegen_tree.specs.declared.pats.Pat.{Pat}
use Rattle.swc_ecma_codegen_tree.specs.declared.pats.Pat.TheVariants as pats
use Rattle.swc_ecma_codegen_tree.specs.declared.pats.SimpleAssignTarget.{SimpleAssignTarget}
use Rattle.swc_ecma_codegen_tree.specs.declared.pats.SimpleAssignTarget.TheVariants as simple_targets
use Rattle.swc_ecma_codegen_tree.specs.declared.decls.Decl.{Decl}
use Rattle.swc_ecma_codegen_tree.specs.declared.decls.Decl.TheVariants as decls
use Rattle.swc_ecma_codegen_tree.specs.declared.stmts.Stmt.{Stmt}
use Rattle.swc_ecma_codegen_tree.specs.declared.stmts.Stmt.TheVariants as stmts
use Rattle.swc_ecma_codegen_tree.specs.declared.links.AnyNode.{AnyNode-F}
use Rattle.swc_ecma_codegen_grammar.specs.declared.roles.Role.{Role}
use Rattle.swc_ecma_codegen_grammar.specs.declared.roles.Role.TheVariants.{Expression, Callee, Statement, Pattern, AssignmentTarget, Member as MemberOfClass, FieldValue, Child}
use Rattle.swc_ecma_codegen_grammar.specs.Phrases.{comma, open_parenthesis, close_parenthesis}
use Rattle.swc_ecma_codegen_grammar.specs.Tokens.{Token}

-- What node it is, by the name of its variant in `Expr` or `Stmt`, or of its type where a class has it. A node that no production derives is foreign, as those of
-- TypeScript. A fragment is an element without a name.
pub data Variant : Type 0 where
  This Array Object Fn Unary Update Bin Assign Member SuperProp Cond Call New Seq Ident Lit Tpl TaggedTpl Arrow Yield MetaProp Await Paren PrivateName OptChain : Variant
  JSXElement : Variant
  Class Constructor ClassMethod PrivateMethod ClassProp PrivateProp StaticBlock : Variant
  BlockStmt EmptyStmt DebuggerStmt WithStmt ReturnStmt LabeledStmt BreakStmt ContinueStmt IfStmt SwitchStmt ThrowStmt TryStmt WhileStmt DoWhileStmt ForStmt ForInStmt ForOfStmt VarDecl ExprStmt : Variant
  Foreign : Variant

-- Tokens and nodes, in order, as of `-a`: the node Unary of the token `-` and the node Ident of the token `a`. Some tokens syntax leaves open: the
-- comma of `[a,] = b`, and the parentheses of `(a) => b`.
pub data ParseTree : Type 0 where
  End : ParseTree
  Read : (token : Token) → (rest : ParseTree) → ParseTree
  Optional : (token : Token) → (rest : ParseTree) → ParseTree
  Node : (variant : Variant) → (inside rest : ParseTree) → ParseTree

-- its tokens, before others
unfoldable pub tokens_of : ParseTree → List Token → List Token
tokens_of End ts = ts
tokens_of (Read t rest) ts = t ∷ tokens_of rest ts
tokens_of (Optional t rest) ts = t ∷ tokens_of rest ts
tokens_of (Node variant inside rest) ts = tokens_of inside (tokens_of rest ts)

-- without what syntax leaves open
unfoldable pub settled : ParseTree → ParseTree
settled End = End
settled (Read t rest) = Read t (settled rest)
settled (Optional t rest) = settled rest
settled (Node variant inside rest) = Node variant (settled inside) (settled rest)

-- what is left open are commas and parentheses
unfoldable pub AreCommasAndParentheses : ParseTree → Type 0
AreCommasAndParentheses End = Unit {0}
AreCommasAndParentheses (Read t rest) = AreCommasAndParentheses rest
AreCommasAndParentheses (Optional t rest) = ((t ≡ comma) ⊎ ((t ≡ open_parenthesis) ⊎ (t ≡ close_parenthesis))) × AreCommasAndParentheses rest
AreCommasAndParentheses (Node variant inside rest) = AreCommasAndParentheses inside × AreCommasAndParentheses rest

unfoldable pub expr_variant : {X : Type 0} → Expr X → Variant
expr_variant (exprs.This n) = This
expr_variant (exprs.Array n) = Array
expr_variant (exprs.Object n) = Object
expr_variant (exprs.Fn n) = Fn
expr_variant (exprs.Unary n) = Unary
expr_variant (exprs.Update n) = Update
expr_variant (exprs.Bin n) = Bin
expr_variant (exprs.Assign n) = Assign
expr_variant (exprs.Member n) = Member
expr_variant (exprs.SuperProp n) = SuperProp
expr_variant (exprs.Cond n) = Cond
expr_variant (exprs.Call n) = Call
expr_variant (exprs.New n) = New
expr_variant (exprs.Seq n) = Seq
expr_variant (exprs.Ident n) = Ident
expr_variant (exprs.Lit n) = Lit
expr_variant (exprs.Tpl n) = Tpl
expr_variant (exprs.TaggedTpl n) = TaggedTpl
expr_variant (exprs.Arrow n) = Arrow
expr_variant (exprs.Class n) = Class
expr_variant (exprs.Yield n) = Yield
expr_variant (exprs.MetaProp n) = MetaProp
expr_variant (exprs.Await n) = Await
expr_variant (exprs.Paren n) = Paren
expr_variant (exprs.JSXElement n) = JSXElement
expr_variant (exprs.JSXFragment n) = JSXElement
expr_variant (exprs.PrivateName n) = PrivateName
expr_variant (exprs.OptChain n) = OptChain
expr_variant n = Foreign

-- what is assigned to is the expression that covers it: `a.b` of `a.b = c` is a Member
unfoldable pub simple_target_variant : {X : Type 0} → SimpleAssignTarget X → Variant
simple_target_variant (simple_targets.Ident n) = Ident
simple_target_variant (simple_targets.Member n) = Member
simple_target_variant (simple_targets.SuperProp n) = SuperProp
simple_target_variant (simple_targets.Paren n) = Paren
simple_target_variant n = Foreign

-- so is a pattern: `[a]` of `[a] = b` is an Array
unfoldable pub target_pat_variant : {X : Type 0} → AssignTargetPat X → Variant
target_pat_variant (target_pats.Array n) = Array
target_pat_variant (target_pats.Object n) = Object
target_pat_variant (target_pats.Invalid n) = Foreign

unfoldable pub target_variant : {X : Type 0} → AssignTarget X → Variant
target_variant (targets.Simple n) = simple_target_variant n
target_variant (targets.Pat n) = target_pat_variant n

-- `a = 1` of `[a = 1] = b` is an Assign; `...a`, and an expression that is assigned to, are no nodes of their own
unfoldable pub pat_variant : {X : Type 0} → Pat X → Variant
pat_variant (pats.Ident n) = Ident
pat_variant (pats.Array n) = Array
pat_variant (pats.Object n) = Object
pat_variant (pats.Assign n) = Assign
pat_variant n = Foreign

unfoldable pub decl_variant : {X : Type 0} → Decl X → Variant
decl_variant (decls.Var n) = VarDecl
decl_variant (decls.Fn n) = Fn
decl_variant (decls.Class n) = Class
decl_variant n = Foreign

unfoldable pub stmt_variant : {X : Type 0} → Stmt X → Variant
stmt_variant (stmts.Block n) = BlockStmt
stmt_variant (stmts.Empty n) = EmptyStmt
stmt_variant (stmts.Debugger n) = DebuggerStmt
stmt_variant (stmts.With n) = WithStmt
stmt_variant (stmts.Return n) = ReturnStmt
stmt_variant (stmts.Labeled n) = LabeledStmt
stmt_variant (stmts.Break n) = BreakStmt
stmt_variant (stmts.Continue n) = ContinueStmt
stmt_variant (stmts.If n) = IfStmt
stmt_variant (stmts.Switch n) = SwitchStmt
stmt_variant (stmts.Throw n) = ThrowStmt
stmt_variant (stmts.Try n) = TryStmt
stmt_variant (stmts.While n) = WhileStmt
stmt_variant (stmts.DoWhile n) = DoWhileStmt
stmt_variant (stmts.For n) = ForStmt
stmt_variant (stmts.ForIn n) = ForInStmt
stmt_variant (stmts.ForOf n) = ForOfStmt
stmt_variant (stmts.Decl n) = decl_variant n
stmt_variant (stmts.Expr n) = ExprStmt

-- a member of a class
unfoldable pub member_variant : {X : Type 0} → class_members.ClassMember X → Variant
member_variant (members.Constructor n) = Constructor
member_variant (members.Method n) = ClassMethod
member_variant (members.PrivateMethod n) = PrivateMethod
member_variant (members.ClassProp n) = ClassProp
member_variant (members.PrivateProp n) = PrivateProp
member_variant (members.Empty n) = EmptyStmt
member_variant (members.StaticBlock n) = StaticBlock
member_variant n = Foreign

-- what node it is in a role
unfoldable pub part_variant : {X : Type 0} → ExprPart X → Role → Variant
part_variant (expr_parts.AssignTarget n) AssignmentTarget = target_variant n
part_variant (expr_parts.Pat n) Pattern = pat_variant n
part_variant n role = Foreign

unfoldable pub element_variant : {X : Type 0} → StmtPart X → Variant
element_variant (stmt_parts.ClassMember n) = member_variant n.value
element_variant n = Foreign

-- an element between tags
unfoldable pub child_variant : {X : Type 0} → JSXPart X → Variant
child_variant (jsx_parts.JSXElement n) = JSXElement
child_variant (jsx_parts.JSXFragment n) = JSXElement
child_variant n = Foreign

unfoldable pub node_variant : {X : Type 0} → AnyNode-F X → Role → Variant
node_variant (nodes.Expr n) Expression = expr_variant n
node_variant (nodes.Expr n) Callee = expr_variant n
node_variant (nodes.Expr n) FieldValue = expr_variant n
node_variant (nodes.ExprPart n) role = part_variant n role
node_variant (nodes.Stmt n) Statement = stmt_variant n
node_variant (nodes.StmtPart n) MemberOfClass = element_variant n
node_variant (nodes.JSXPart n) Child = child_variant n
node_variant n role = Foreign
