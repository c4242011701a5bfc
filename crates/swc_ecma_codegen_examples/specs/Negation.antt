-- `-a;`, and other operators before a name.
use Rattle.std.specs.Prelude.{◌≡◌, ℕ, false, List, [], ◌∷◌, Option, Some, codes, string_bytes}
use Rattle.swc_ecma_codegen_common.specs.declared.operators.UnaryOp.{UnaryOp}
use Rattle.swc_ecma_codegen_common.specs.declared.operators.UnaryOp.TheVariants.{Minus}
use Rattle.swc_ecma_codegen_tree.specs.declared.exprs.Expr.{Expr}
use Rattle.swc_ecma_codegen_tree.specs.declared.exprs.Expr.TheVariants as exprs
use Rattle.swc_ecma_codegen_tree.specs.declared.exprs.UnaryExpr.{UnaryExpr}
use Rattle.swc_ecma_codegen_tree.specs.declared.idents.Ident.{Ident}
use Rattle.swc_ecma_codegen_tree.specs.declared.stmts.ExprStmt.{ExprStmt}
use Rattle.swc_ecma_codegen_grammar.specs.Names.{name_value}
use Rattle.swc_ecma_codegen_grammar.specs.SpelledNames.{spelled_name}
use Rattle.swc_ecma_codegen_grammar.specs.Tokens.{Token, ending, name, punctuator}

-- a statement is an operator before a name, by what links hold of expressions
pub record IsOperation {N : Type 0} (expr_in : N → Option (Expr N)) (op : UnaryOp) (bytes : List ℕ) (n : ExprStmt N) : Type 0 where
  pub unary : UnaryExpr N
  pub ident : Ident
  pub is_unary : expr_in n.expr.node.value ≡ Some (exprs.Unary unary)
  pub has_op : unary.op ≡ op
  pub is_name : expr_in unary.arg.node.value ≡ Some (exprs.Ident ident)
  pub is_spelled : string_bytes ident.sym ≡ bytes
  pub is_required : ident.optional ≡ false

-- a statement is the minus of a name
abbrev pub IsNegation : {N : Type 0} → (N → Option (Expr N)) → List ℕ → ExprStmt N → Type 0
IsNegation expr_in = IsOperation expr_in Minus

-- its tokens
abbrev pub negation_tokens : List ℕ → List Token
negation_tokens bytes = punctuator (codes "-") ∷ name (name_value (spelled_name bytes)) ∷ ending ∷ []
