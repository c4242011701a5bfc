-- What a whole node is read as, in a role: a fold over the tree.
use Rattle.std.specs.Prelude.{Bool, true, false, if◌then◌else◌, codes}
use Rattle.swc_ecma_codegen_tree.specs.declared.links.AnyNode.{AnyNode, AnyNode-F, fold-AnyNode}
use Rattle.swc_ecma_codegen_tree.specs.declared.links.AnyNode.TheOpen as nodes
use Rattle.swc_ecma_codegen_tree.specs.declared.exprs.Expr.{Expr}
use Rattle.swc_ecma_codegen_tree.specs.declared.exprs.Expr.TheVariants as exprs
use Rattle.swc_ecma_codegen_tree.specs.declared.stmts.Stmt.{Stmt}
use Rattle.swc_ecma_codegen_tree.specs.declared.programs.Program.{Program}
use Rattle.swc_ecma_codegen_grammar.specs.Phrases.{Phrase, Never, ◌>◌, mark, is_possible}
use Rattle.swc_ecma_codegen_grammar.specs.declared.roles.Role.{Role}
use Rattle.swc_ecma_codegen_grammar.specs.declared.roles.Role.TheVariants.{Expression, Statement, MemberExpression, ChainMember, Callee, FieldValue}
use Rattle.swc_ecma_codegen_grammar.specs.ExprPhrases.{expr, member_expr, chain_member, expr_in}
use Rattle.swc_ecma_codegen_grammar.specs.JsxPhrases.{jsx_part}
use Rattle.swc_ecma_codegen_grammar.specs.PartPhrases.{expr_part, stmt_part, ts_part}
use Rattle.swc_ecma_codegen_grammar.specs.StmtPhrases.{stmt, program}

-- `a, b`
unfoldable pub is_sequence : {X : Type 0} → Expr X → Bool
is_sequence (exprs.Seq n) = true
is_sequence n = false

-- ECMA-262, section 15.7: the value of a field is no sequence, so one stands in parentheses: `c = (a, b)`
unfoldable pub field_value : {X : Type 0} → (X → Role → Phrase) → Expr X → Phrase
field_value f n = if is_sequence n then (mark (codes "(") > expr f n > mark (codes ")")) else expr f n

-- one node, where f says what is read of what its links hold: a node of another sort has no place there
unfoldable pub node_phrase : {X : Type 0} → (X → Role → Phrase) → AnyNode-F X → Role → Phrase
node_phrase f (nodes.Expr n) Expression = expr f n
node_phrase f (nodes.Expr n) Callee = expr_in f true n
node_phrase f (nodes.Expr n) FieldValue = field_value f n
node_phrase f (nodes.Stmt n) Statement = stmt f n
node_phrase f (nodes.MemberExpr n) MemberExpression = member_expr f n
node_phrase f (nodes.MemberExpr n) (ChainMember optional) = chain_member f optional n
node_phrase f (nodes.ExprPart n) role = expr_part f n role
node_phrase f (nodes.StmtPart n) role = stmt_part f n role
node_phrase f (nodes.JSXPart n) role = jsx_part f n role
node_phrase f (nodes.TsPart n) role = ts_part f n role
node_phrase f n role = Never

-- a whole node
unfoldable pub phrase : AnyNode → Role → Phrase
phrase = fold-AnyNode (Role → Phrase) (node_phrase (λ known. known))

-- What an expression, a statement and a program are read as.
abbrev pub expr_phrase : Expr AnyNode → Phrase
expr_phrase n = expr phrase n

abbrev pub stmt_phrase : Stmt AnyNode → Phrase
stmt_phrase n = stmt phrase n

abbrev pub program_phrase : Program AnyNode → Phrase
program_phrase n = program phrase n

-- a program is well-formed
abbrev pub is_well_formed : Program AnyNode → Bool
is_well_formed n = is_possible (program_phrase n)
