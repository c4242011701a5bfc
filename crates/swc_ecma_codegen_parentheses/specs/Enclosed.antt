-- Nodes that are the same but for parentheses, and blocks, round them and in them.
use Rattle.std.specs.Prelude.{◌≡◌, ℕ, Bool, true, false, ◌&&◌, not, is_none, is_some, string_bytes, List, [], ◌∷◌, Option, Some, None}
use Rattle.swc_ecma_codegen_common.specs.declared.positions.Span.{Span}
use Rattle.swc_ecma_codegen_tree.specs.declared.exprs.Expr.{Expr}
use Rattle.swc_ecma_codegen_tree.specs.declared.exprs.Expr.TheVariants as exprs
use Rattle.swc_ecma_codegen_tree.specs.declared.idents.Ident.{Ident}
use Rattle.swc_ecma_codegen_tree.specs.declared.pats.Pat.{Pat}
use Rattle.swc_ecma_codegen_tree.specs.declared.pats.Pat.TheVariants as pats
use Rattle.swc_ecma_codegen_tree.specs.declared.stmts.BlockStmt.{BlockStmt}
use Rattle.swc_ecma_codegen_tree.specs.declared.stmts.Stmt.{Stmt}
use Rattle.swc_ecma_codegen_tree.specs.declared.stmts.Stmt.TheVariants as stmts
use Rattle.swc_ecma_codegen_spans.specs.Spans.{expr_span, stmt_span}
use Rattle.swc_ecma_codegen_grammar.specs.declared.roles.Role.{Role}
use Rattle.swc_ecma_codegen_syntax.specs.declared.parameters.Parameters.{Parameters}
use Rattle.swc_ecma_codegen_syntax.specs.Beginnings.{name_begins}
use Rattle.swc_ecma_codegen_syntax.specs.Lookahead.{excludes}
use Rattle.swc_ecma_codegen_syntax.specs.Summary.{Summary}
use Rattle.swc_ecma_codegen_parentheses.specs.declared.mends.Usage.{Usage}
use Rattle.swc_ecma_codegen_parentheses.specs.declared.mends.Usage.TheVariants as usages
use Rattle.swc_ecma_codegen_parentheses.specs.declared.operands.Context.{Context}
use Rattle.swc_ecma_codegen_parentheses.specs.declared.operands.Operand.TheVariants.{Inside}
use Rattle.swc_ecma_codegen_parentheses.specs.Needed.{needs}
use Rattle.swc_ecma_codegen_parentheses.specs.Operands.{operand_context, stands_in, within}
use Rattle.swc_ecma_codegen_parentheses.specs.SameExprs.{same_expr}
use Rattle.swc_ecma_codegen_parentheses.specs.SamePats.{same_pat}
use Rattle.swc_ecma_codegen_parentheses.specs.SameStmts.{same_stmt}

-- The second is the first in parentheses, which have the span of what they enclose, and of which something holds.
unfoldable pub encloses : {X : Type 0} → (X → Option (Expr X)) → (X → Span) → (X → Type 0) → Expr X → Expr X → Type 0
encloses expr_in place P n (exprs.Paren pair) = (pair.span ≡ expr_span place n) × ((expr_in pair.expr.node.value ≡ Some n) × P pair.expr.node.value)
encloses expr_in place P n r = ⊥

-- a name that the head of a loop may not be, section 14.7.5: `let` and `async` of `for (a of b) {}`
abbrev pub is_barred : Usage → List ℕ → Bool
is_barred (usages.Head lookahead) name = excludes lookahead (name_begins name)
is_barred usage name = false

abbrev pub is_barred_name : {X : Type 0} → Usage → Pat X → Bool
is_barred_name usage (pats.Ident n) = is_barred usage (string_bytes n.id.sym) && is_none n.type_ann
is_barred_name usage n = false

-- The expression is the name in parentheses, which have its span.
unfoldable pub is_name_in_pair : {X : Type 0} → (X → Option (Expr X)) → Ident → Option (Expr X) → Type 0
is_name_in_pair expr_in n (Some (exprs.Paren pair)) = (pair.span ≡ n.span) × (expr_in pair.expr.node.value ≡ Some (exprs.Ident n))
is_name_in_pair expr_in n r = ⊥

-- The first is a name, and the second is it in parentheses, as an expression that is assigned to.
unfoldable pub encloses_name : {X : Type 0} → (X → Option (Expr X)) → Pat X → Pat X → Type 0
encloses_name expr_in (pats.Ident n) (pats.Expr r) = is_name_in_pair expr_in n.id (expr_in r.node.value)
encloses_name expr_in n r = ⊥

-- The block is one of that statement alone, with its span.
unfoldable pub is_block_of : {X : Type 0} → (X → Span) → Stmt X → Option (BlockStmt X) → Type 0
is_block_of place n (Some block) = (block.span ≡ stmt_span place n) × (block.stmts.items ≡ n ∷ [])
is_block_of place n None = ⊥

-- The second is a block of the first alone.
unfoldable pub blocks : {X : Type 0} → (X → Option (BlockStmt X)) → (X → Span) → Stmt X → Stmt X → Type 0
blocks block_in place n (stmts.Block link) = is_block_of place n (block_in link.node.value)
blocks block_in place n r = ⊥

-- The same expression, or the same in parentheses, which can't be left out where it is used as an operand. Its own operands stand by where it stands.
pub data SameExpr {X : Type 0} (f : X → Role → Parameters → Summary) (expr_in : X → Option (Expr X)) (place : X → Span) (m : Usage → X → X → Type 0) (usage : Usage) (n r : Expr X) : Type 0 where
  bare : (at : Context) → stands_in usage at → same_expr (λ u. m (within at u)) n r → SameExpr f expr_in place m usage n r
  enclosed : (at : Context) → stands_in usage at → (inside : Expr X) → same_expr (λ u. m (within (operand_context Inside at) u)) n inside → encloses expr_in place (needs f usage) inside r → SameExpr f expr_in place m usage n r

-- an `if` without `else`, which takes the `else` behind it
abbrev pub is_short_if : {X : Type 0} → Stmt X → Bool
is_short_if (stmts.If n) = not (is_some n.alt)
is_short_if n = false

-- The same statement, or an `if` without `else` in a block.
pub data SameStmt {X : Type 0} (block_in : X → Option (BlockStmt X)) (place : X → Span) (m : Usage → X → X → Type 0) (n r : Stmt X) : Type 0 where
  unblocked : same_stmt m n r → SameStmt block_in place m n r
  blocked : is_short_if n ≡ true → (inside : Stmt X) → same_stmt m n inside → blocks block_in place inside r → SameStmt block_in place m n r

-- The same pattern, or a name in parentheses that the head of a loop may not be.
pub data SamePat {X : Type 0} (expr_in : X → Option (Expr X)) (m : Usage → X → X → Type 0) (usage : Usage) (n r : Pat X) : Type 0 where
  unenclosed : same_pat m n r → SamePat expr_in m usage n r
  enclosed_name : is_barred_name usage n ≡ true → encloses_name expr_in n r → SamePat expr_in m usage n r
