-- The facts of a whole node, by its sort.
use Rattle.std.proofs.Common.{◌≡◌, Bool, true, false, refl, sym, subst, ◌∙◌, ap, ap₂}
use Rattle.swc_ecma_codegen_tree.specs.declared.links.AnyNode.{AnyNode, AnyNode-F, map-AnyNode, roll-AnyNode, out-AnyNode, ind-AnyNode}
use Rattle.swc_ecma_codegen_tree.specs.declared.links.AnyNode.TheOpen as nodes
use Rattle.swc_ecma_codegen_tree.specs.declared.links.AnyNode.TheViews.{roll-out-AnyNode}
use Rattle.swc_ecma_codegen_tree.specs.declared.links.AnyNode.TheVariants as whole
use Rattle.swc_ecma_codegen_tree.specs.declared.links.AnyNode.TheFolds.{fold-roll-AnyNode}
use Rattle.swc_ecma_codegen_tree.specs.declared.exprs.Expr.{Expr}
use Rattle.swc_ecma_codegen_tree.specs.declared.exprs.Expr.TheVariants as exprs
use Rattle.swc_ecma_codegen_tree.specs.declared.exprs.MemberExpr.{MemberExpr}
use Rattle.swc_ecma_codegen_tree.specs.declared.parts.ExprPart.{ExprPart}
use Rattle.swc_ecma_codegen_tree.specs.declared.parts.JSXPart.{JSXPart}
use Rattle.swc_ecma_codegen_tree.specs.declared.parts.StmtPart.{StmtPart}
use Rattle.swc_ecma_codegen_tree.specs.declared.stmts.Stmt.{Stmt}
use Rattle.swc_ecma_codegen_grammar.specs.declared.roles.Role.{Role}
use Rattle.swc_ecma_codegen_grammar.specs.declared.roles.Role.TheVariants.{Expression, Callee, Statement, ChainMember, FieldValue}
use Rattle.swc_ecma_codegen_syntax.specs.declared.nonterminals.Nonterminal.{Nonterminal}
use Rattle.swc_ecma_codegen_syntax.specs.declared.nonterminals.Nonterminal.TheVariants as nt
use Rattle.swc_ecma_codegen_syntax.specs.declared.parameters.Parameters.{Parameters}
use Rattle.swc_ecma_codegen_syntax.specs.declared.verdicts.Facts.{Facts}
use Rattle.swc_ecma_codegen_syntax.specs.declared.verdicts.Shape.{Shape}
use Rattle.swc_ecma_codegen_syntax.specs.Shapes.{node_shape, shape_of}
use Rattle.swc_ecma_codegen_syntax.specs.Summary.{Summary, begins_in, shape_in}
use Rattle.swc_ecma_codegen_syntax.specs.declared.verdicts.Verdict.{Verdict}
use Rattle.swc_ecma_codegen_syntax.specs.Verdicts.{unasked}
use Rattle.swc_ecma_codegen_syntax.specs.Forms.{map_form, judge}
use Rattle.swc_ecma_codegen_syntax.specs.MemberForms.{chain_member_form}
use Rattle.swc_ecma_codegen_syntax.specs.ExprForms.{expr_form, expr_nonterminal}
use Rattle.swc_ecma_codegen_syntax.specs.StmtForms.{stmt_form, stmt_nonterminal, is_empty_node}
use Rattle.swc_ecma_codegen_syntax.specs.NodeForms.{part_form, part_nonterminal, node_form, node_nonterminal, is_simple_expr, is_simple_node, is_simple, is_name_expr, is_name_node, is_called, is_called_node, simple_in, expr_facts, other_facts, part_facts, stmt_part_form, stmt_part_nonterminal, stmt_facts, stmt_part_facts, jsx_part_form, jsx_part_nonterminal, jsx_part_facts, node_facts, node_summary, summary_of, facts}
use Rattle.swc_ecma_codegen_syntax.specs.Parameters.{of_script}
use Rattle.swc_ecma_codegen_syntax.specs.Beginnings.{node_begins}
use Rattle.swc_ecma_codegen_syntax.proofs.Judged.{judge_mapped}
use Rattle.swc_ecma_codegen_syntax.proofs.MappedBeginnings.{begins_mapped}
use Rattle.swc_ecma_codegen_syntax.proofs.MappedCalls.{form_in, nonterminal_in}
use Rattle.swc_ecma_codegen_syntax.proofs.MappedExprs.{chain_member_mapped}
use Rattle.swc_ecma_codegen_syntax.proofs.EachExprMapped.{expr_mapped, nonterminal_mapped, field_mapped}
use Rattle.swc_ecma_codegen_syntax.proofs.MappedPats.{part_mapped, part_sort_mapped}
use Rattle.swc_ecma_codegen_syntax.proofs.MappedStmts.{stmt_mapped, stmt_sort_mapped, empty_node_mapped}
use Rattle.swc_ecma_codegen_syntax.proofs.MappedShapes.{shape_mapped, shape_same}
use Rattle.swc_ecma_codegen_syntax.proofs.MappedJsx.{jsx_part_mapped, jsx_part_sort_mapped}
use Rattle.swc_ecma_codegen_syntax.proofs.MappedParts.{stmt_part_mapped, stmt_part_sort_mapped}

-- ---- over what links hold as something else

pub node_mapped : {X Y : Type 0} (g : X → Y) (called : Bool) (c : Parameters) (n : AnyNode-F X) (role : Role) → node_form called c (map-AnyNode X Y g n) role ≡ map_form g (node_form called c n role)
unfolding node_form map_form
node_mapped g called c (nodes.Expr n) Expression = expr_mapped g false called c n
node_mapped g called c (nodes.Expr n) Callee = expr_mapped g true called c n
node_mapped g called c (nodes.Expr n) FieldValue = field_mapped g called c n
node_mapped g called c (nodes.MemberExpr n) (ChainMember optional) = chain_member_mapped g called c optional n.span n.obj n.prop
node_mapped g called c (nodes.ExprPart n) role = part_mapped g called c n role
node_mapped g called c (nodes.Stmt n) Statement = stmt_mapped g called c n
node_mapped g called c (nodes.StmtPart n) role = stmt_part_mapped g called c n role
node_mapped g called c (nodes.JSXPart n) role = jsx_part_mapped g called c n role
node_mapped g called c n role = refl

called_mapped : {X Y : Type 0} (g : X → Y) (f : Y → Role → Parameters → Summary) (c : Parameters) (n : Expr X) → is_called_node f c (map-AnyNode X Y g (nodes.Expr n)) ≡ is_called (λ x. f (g x)) c n
unfolding is_called_node is_called
called_mapped g f c (exprs.Member n) = refl
called_mapped g f c n = refl

simple_expr_mapped : {X Y : Type 0} (g : X → Y) (f : Y → Bool) (strict : Bool) (n : Expr X) → is_simple_node f strict (map-AnyNode X Y g (nodes.Expr n)) ≡ is_simple_expr (λ x. f (g x)) strict n
unfolding is_simple_node is_simple_expr
simple_expr_mapped g f strict (exprs.Paren n) = refl
simple_expr_mapped g f strict n = refl

simple_mapped : {X Y : Type 0} (g : X → Y) (f : Y → Bool) (strict : Bool) (n : AnyNode-F X) → is_simple_node f strict (map-AnyNode X Y g n) ≡ is_simple_node (λ x. f (g x)) strict n
unfolding is_simple_node
simple_mapped g f strict (nodes.Expr n) = simple_expr_mapped g f strict n
simple_mapped g f strict n = refl

name_expr_mapped : {X Y : Type 0} (g : X → Y) (n : Expr X) → is_name_node (map-AnyNode X Y g (nodes.Expr n)) ≡ is_name_expr n
unfolding is_name_node is_name_expr
name_expr_mapped g (exprs.Ident n) = refl
name_expr_mapped g n = refl

abbrev facts_in : {X : Type 0} → (X → Role → Parameters → Summary) → Bool → Bool → Parameters → AnyNode-F X → Facts
facts_in f keeps called c n = record {
  nonterminal = nonterminal_in keeps called c n;
  is_simple = is_simple_node (simple_in f c) c.is_strict n;
  is_name = is_name_node n;
  verdict = judge f unasked (form_in keeps called c n);
}

abbrev four : Nonterminal → Bool → Bool → Verdict → Facts
four t s b v = record { nonterminal = t; is_simple = s; is_name = b; verdict = v }

expr_facts_mapped : {X Y : Type 0} (g : X → Y) (f : Y → Role → Parameters → Summary) (keeps : Bool) (c : Parameters) (n : Expr X) →
    facts_in f keeps (is_called_node f c (map-AnyNode X Y g (nodes.Expr n))) c (map-AnyNode X Y g (nodes.Expr n)) ≡ expr_facts (λ x. f (g x)) keeps c n
unfolding expr_facts
expr_facts_mapped {X} {Y} g f keeps c n =
    let m : AnyNode-F Y = map-AnyNode X Y g (nodes.Expr n) in
    let b : Bool = is_called (λ x. f (g x)) c n in
    let v : judge f unasked (form_in keeps b c m) ≡ judge (λ x. f (g x)) unasked (expr_form keeps b c n) =
    ap (judge f unasked) (expr_mapped g keeps b c n) ∙ judge_mapped g f unasked (expr_form keeps b c n) in
    ap (λ k. facts_in f keeps k c m) (called_mapped g f c n)
    ∙ ap (λ t. four t (is_simple_node (simple_in f c) c.is_strict m) (is_name_node m) (judge f unasked (form_in keeps b c m))) (nonterminal_mapped g keeps b c n)
    ∙ ap (λ s. four (expr_nonterminal keeps b c n) s (is_name_node m) (judge f unasked (form_in keeps b c m))) (simple_expr_mapped g (simple_in f c) c.is_strict n)
    ∙ ap (λ k. four (expr_nonterminal keeps b c n) (is_simple_expr (simple_in (λ x. f (g x)) c) c.is_strict n) k (judge f unasked (form_in keeps b c m))) (name_expr_mapped g n)
    ∙ ap (λ w. four (expr_nonterminal keeps b c n) (is_simple_expr (simple_in (λ x. f (g x)) c) c.is_strict n) (is_name_expr n) w) v

part_facts_mapped : {X Y : Type 0} (g : X → Y) (f : Y → Role → Parameters → Summary) (c : Parameters) (n : ExprPart X) (role : Role) →
    other_facts (node_nonterminal false c (map-AnyNode X Y g (nodes.ExprPart n)) role) (judge f unasked (node_form false c (map-AnyNode X Y g (nodes.ExprPart n)) role)) ≡ part_facts (λ x. f (g x)) c n role
unfolding part_facts
part_facts_mapped {X} {Y} g f c n role =
    ap (λ t. other_facts t (judge f unasked (node_form false c (map-AnyNode X Y g (nodes.ExprPart n)) role))) (part_sort_mapped g false c n role)
    ∙ ap (other_facts (part_nonterminal n role)) (ap (judge f unasked) (part_mapped g false c n role) ∙ judge_mapped g f unasked (part_form false c n role))

stmt_facts_mapped : {X Y : Type 0} (g : X → Y) (f : Y → Role → Parameters → Summary) (c : Parameters) (n : Stmt X) →
    other_facts (node_nonterminal false c (map-AnyNode X Y g (nodes.Stmt n)) Statement) (judge f unasked (node_form false c (map-AnyNode X Y g (nodes.Stmt n)) Statement)) ≡ stmt_facts (λ x. f (g x)) c n
unfolding stmt_facts
stmt_facts_mapped {X} {Y} g f c n =
    ap (λ t. other_facts t (judge f unasked (node_form false c (map-AnyNode X Y g (nodes.Stmt n)) Statement))) (stmt_sort_mapped g false c n)
    ∙ ap (other_facts (stmt_nonterminal n)) (ap (judge f unasked) (stmt_mapped g false c n) ∙ judge_mapped g f unasked (stmt_form c n))

stmt_part_facts_mapped : {X Y : Type 0} (g : X → Y) (f : Y → Role → Parameters → Summary) (c : Parameters) (n : StmtPart X) (role : Role) →
    other_facts (node_nonterminal false c (map-AnyNode X Y g (nodes.StmtPart n)) role) (judge f unasked (node_form false c (map-AnyNode X Y g (nodes.StmtPart n)) role)) ≡ stmt_part_facts (λ x. f (g x)) c n role
unfolding stmt_part_facts
stmt_part_facts_mapped {X} {Y} g f c n role =
    ap (λ t. other_facts t (judge f unasked (node_form false c (map-AnyNode X Y g (nodes.StmtPart n)) role))) (stmt_part_sort_mapped g false c n role)
    ∙ ap (other_facts (stmt_part_nonterminal n role)) (ap (judge f unasked) (stmt_part_mapped g false c n role) ∙ judge_mapped g f unasked (stmt_part_form c n role))

jsx_part_facts_mapped : {X Y : Type 0} (g : X → Y) (f : Y → Role → Parameters → Summary) (c : Parameters) (n : JSXPart X) (role : Role) →
    other_facts (node_nonterminal false c (map-AnyNode X Y g (nodes.JSXPart n)) role) (judge f unasked (node_form false c (map-AnyNode X Y g (nodes.JSXPart n)) role)) ≡ jsx_part_facts (λ x. f (g x)) c n role
unfolding jsx_part_facts
jsx_part_facts_mapped {X} {Y} g f c n role =
    ap (λ t. other_facts t (judge f unasked (node_form false c (map-AnyNode X Y g (nodes.JSXPart n)) role))) (jsx_part_sort_mapped g false c n role)
    ∙ ap (other_facts (jsx_part_nonterminal n role)) (ap (judge f unasked) (jsx_part_mapped g false c n role) ∙ judge_mapped g f unasked (jsx_part_form c n role))

pub facts_mapped : {X Y : Type 0} (g : X → Y) (f : Y → Role → Parameters → Summary) (n : AnyNode-F X) (role : Role) (c : Parameters) → node_facts f (map-AnyNode X Y g n) role c ≡ node_facts (λ x. f (g x)) n role c
unfolding node_facts expr_facts part_facts stmt_facts stmt_part_facts jsx_part_facts is_called_node is_simple_node is_name_node node_form node_nonterminal
facts_mapped g f (nodes.Expr n) Expression c = expr_facts_mapped g f false c n
facts_mapped g f (nodes.Expr n) Callee c = expr_facts_mapped g f true c n
facts_mapped g f (nodes.Expr n) FieldValue c = expr_facts_mapped g f false c n
facts_mapped g f (nodes.MemberExpr n) (ChainMember optional) c =
    ap (other_facts nt.OptionalChain) (ap (judge f unasked) (chain_member_mapped g false c optional n.span n.obj n.prop) ∙ judge_mapped g f unasked (chain_member_form c optional n))
facts_mapped g f (nodes.ExprPart n) role c = part_facts_mapped g f c n role
facts_mapped g f (nodes.Stmt n) Statement c = stmt_facts_mapped g f c n
facts_mapped g f (nodes.StmtPart n) role c = stmt_part_facts_mapped g f c n role
facts_mapped g f (nodes.JSXPart n) role c = jsx_part_facts_mapped g f c n role
facts_mapped g f n role c = refl

pub summary_mapped : {X Y : Type 0} (g : X → Y) (f : Y → Role → Parameters → Summary) (n : AnyNode-F X) (role : Role) (c : Parameters) → node_summary f (map-AnyNode X Y g n) role c ≡ node_summary (λ x. f (g x)) n role c
unfolding node_summary
summary_mapped {X} {Y} g f n role c =
    ap₂ (λ a b. record { facts = a; begins = b; is_empty = is_empty_node (map-AnyNode X Y g n); shape = node_shape (shape_in f) (map-AnyNode X Y g n) }) (facts_mapped g f n role c) (begins_mapped g (begins_in f) n role)
    ∙ ap₂ (λ b s. record { facts = node_facts (λ x. f (g x)) n role c; begins = node_begins (begins_in (λ x. f (g x))) n role; is_empty = b; shape = s }) (empty_node_mapped g n) (shape_mapped g (shape_in f) n)

-- ---- whole nodes

summary_of_layer : (n : AnyNode-F AnyNode) (role : Role) (c : Parameters) → summary_of (roll-AnyNode n) role c ≡ node_summary summary_of n role c
unfolding summary_of
summary_of_layer n role c = ap (λ f. f role c) (fold-roll-AnyNode (Role → Parameters → Summary) (node_summary (λ known. known)) n) ∙ summary_mapped summary_of (λ known. known) n role c

facts_of_layer : (n : AnyNode-F AnyNode) (role : Role) (c : Parameters) → facts (roll-AnyNode n) role c ≡ node_facts summary_of n role c
unfolding node_summary
facts_of_layer n role c = ap (λ t. t.facts) (summary_of_layer n role c)

begins_of_layer : (n : AnyNode-F AnyNode) (role : Role) (c : Parameters) → (summary_of (roll-AnyNode n) role c).begins ≡ node_begins (begins_in summary_of) n role
unfolding node_summary
begins_of_layer n role c = ap (λ t. t.begins) (summary_of_layer n role c)

pub empty_at : (n : AnyNode) (role : Role) (c : Parameters) → (summary_of n role c).is_empty ≡ is_empty_node (out-AnyNode n)
unfolding node_summary
empty_at n role c = ap (λ x. (summary_of x role c).is_empty) (sym (roll-out-AnyNode n)) ∙ ap (λ t. t.is_empty) (summary_of_layer (out-AnyNode n) role c)

shape_of_layer : (n : AnyNode-F AnyNode) (role : Role) (c : Parameters) → (summary_of (roll-AnyNode n) role c).shape ≡ node_shape (shape_in summary_of) n
unfolding node_summary
shape_of_layer n role c = ap (λ t. t.shape) (summary_of_layer n role c)

pub shape_at : (n : AnyNode) → shape_in summary_of n ≡ node_shape (shape_in summary_of) (out-AnyNode n)
shape_at n = ap (λ x. shape_in summary_of x) (sym (roll-out-AnyNode n)) ∙ shape_of_layer (out-AnyNode n) Statement of_script

pub shape_expr : (n : Expr AnyNode) → shape_in summary_of (whole.Expr n) ≡ node_shape (shape_in summary_of) (nodes.Expr n)
shape_expr n = ap (λ x. shape_in summary_of x) (sym (whole.rolls-Expr n)) ∙ shape_of_layer (nodes.Expr n) Statement of_script

pub shape_expr_part : (n : ExprPart AnyNode) → shape_in summary_of (whole.ExprPart n) ≡ node_shape (shape_in summary_of) (nodes.ExprPart n)
shape_expr_part n = ap (λ x. shape_in summary_of x) (sym (whole.rolls-ExprPart n)) ∙ shape_of_layer (nodes.ExprPart n) Statement of_script

-- the summary has the shape of the tree
shape_of_shape : (n : AnyNode-F AnyNode) → shape_of (roll-AnyNode n) ≡ node_shape shape_of n
unfolding shape_of
shape_of_shape n = fold-roll-AnyNode Shape (node_shape (λ known. known)) n ∙ shape_mapped shape_of (λ known. known) n

pub shape_known : (n : AnyNode) → shape_in summary_of n ≡ shape_of n
shape_known = ind-AnyNode (λ n. shape_in summary_of n ≡ shape_of n) (λ x y q. subst (λ z. shape_in summary_of (roll-AnyNode z) ≡ shape_of (roll-AnyNode z)) q
    (shape_of_layer (map-AnyNode _ AnyNode (λ z. z.0) y) Statement of_script ∙ shape_mapped (λ z. z.0) (shape_in summary_of) y ∙ shape_same (λ z. shape_in summary_of z.0) (λ z. shape_of z.0) (λ z. z.1) y
    ∙ sym (shape_of_shape (map-AnyNode _ AnyNode (λ z. z.0) y) ∙ shape_mapped (λ z. z.0) shape_of y)))

pub empty_stmt : (n : Stmt AnyNode) (role : Role) (c : Parameters) → (summary_of (whole.Stmt n) role c).is_empty ≡ is_empty_node (nodes.Stmt n)
unfolding node_summary
empty_stmt n role c = ap (λ x. (summary_of x role c).is_empty) (sym (whole.rolls-Stmt n)) ∙ ap (λ t. t.is_empty) (summary_of_layer (nodes.Stmt n) role c)

pub facts_of : {X : Type 0} (g : X → AnyNode) (n : AnyNode-F X) (role : Role) (c : Parameters) → facts (roll-AnyNode (map-AnyNode X AnyNode g n)) role c ≡ node_facts (λ x. summary_of (g x)) n role c
facts_of {X} g n role c = facts_of_layer (map-AnyNode X AnyNode g n) role c ∙ facts_mapped g summary_of n role c

pub facts_at : (n : AnyNode) (role : Role) (c : Parameters) → facts n role c ≡ node_facts summary_of (out-AnyNode n) role c
facts_at n role c = ap (λ x. facts x role c) (sym (roll-out-AnyNode n)) ∙ facts_of_layer (out-AnyNode n) role c

pub begins_of : {X : Type 0} (g : X → AnyNode) (n : AnyNode-F X) (role : Role) → begins_in summary_of (roll-AnyNode (map-AnyNode X AnyNode g n)) role ≡ node_begins (λ x. begins_in summary_of (g x)) n role
begins_of {X} g n role = begins_of_layer (map-AnyNode X AnyNode g n) role of_script ∙ begins_mapped g (begins_in summary_of) n role

pub begins_at : (n : AnyNode) (role : Role) → begins_in summary_of n role ≡ node_begins (begins_in summary_of) (out-AnyNode n) role
begins_at n role = ap (λ x. begins_in summary_of x role) (sym (roll-out-AnyNode n)) ∙ begins_of_layer (out-AnyNode n) role of_script

pub begins_expr : (n : Expr AnyNode) (role : Role) → begins_in summary_of (whole.Expr n) role ≡ node_begins (begins_in summary_of) (nodes.Expr n) role
begins_expr n role = ap (λ x. begins_in summary_of x role) (sym (whole.rolls-Expr n)) ∙ begins_of_layer (nodes.Expr n) role of_script

pub begins_member_expr : (n : MemberExpr AnyNode) (role : Role) → begins_in summary_of (whole.MemberExpr n) role ≡ node_begins (begins_in summary_of) (nodes.MemberExpr n) role
begins_member_expr n role = ap (λ x. begins_in summary_of x role) (sym (whole.rolls-MemberExpr n)) ∙ begins_of_layer (nodes.MemberExpr n) role of_script

pub begins_stmt_part : (n : StmtPart AnyNode) (role : Role) → begins_in summary_of (whole.StmtPart n) role ≡ node_begins (begins_in summary_of) (nodes.StmtPart n) role
begins_stmt_part n role = ap (λ x. begins_in summary_of x role) (sym (whole.rolls-StmtPart n)) ∙ begins_of_layer (nodes.StmtPart n) role of_script

pub begins_expr_part : (n : ExprPart AnyNode) (role : Role) → begins_in summary_of (whole.ExprPart n) role ≡ node_begins (begins_in summary_of) (nodes.ExprPart n) role
begins_expr_part n role = ap (λ x. begins_in summary_of x role) (sym (whole.rolls-ExprPart n)) ∙ begins_of_layer (nodes.ExprPart n) role of_script

pub facts_expr : (n : Expr AnyNode) (role : Role) (c : Parameters) → facts (whole.Expr n) role c ≡ node_facts summary_of (nodes.Expr n) role c
facts_expr n role c = ap (λ x. facts x role c) (sym (whole.rolls-Expr n)) ∙ facts_of_layer (nodes.Expr n) role c

pub facts_member_expr : (n : MemberExpr AnyNode) (role : Role) (c : Parameters) → facts (whole.MemberExpr n) role c ≡ node_facts summary_of (nodes.MemberExpr n) role c
facts_member_expr n role c = ap (λ x. facts x role c) (sym (whole.rolls-MemberExpr n)) ∙ facts_of_layer (nodes.MemberExpr n) role c

pub facts_expr_part : (n : ExprPart AnyNode) (role : Role) (c : Parameters) → facts (whole.ExprPart n) role c ≡ node_facts summary_of (nodes.ExprPart n) role c
facts_expr_part n role c = ap (λ x. facts x role c) (sym (whole.rolls-ExprPart n)) ∙ facts_of_layer (nodes.ExprPart n) role c

pub facts_stmt : (n : Stmt AnyNode) (role : Role) (c : Parameters) → facts (whole.Stmt n) role c ≡ node_facts summary_of (nodes.Stmt n) role c
facts_stmt n role c = ap (λ x. facts x role c) (sym (whole.rolls-Stmt n)) ∙ facts_of_layer (nodes.Stmt n) role c

pub facts_stmt_part : (n : StmtPart AnyNode) (role : Role) (c : Parameters) → facts (whole.StmtPart n) role c ≡ node_facts summary_of (nodes.StmtPart n) role c
facts_stmt_part n role c = ap (λ x. facts x role c) (sym (whole.rolls-StmtPart n)) ∙ facts_of_layer (nodes.StmtPart n) role c

pub facts_jsx_part : (n : JSXPart AnyNode) (role : Role) (c : Parameters) → facts (whole.JSXPart n) role c ≡ node_facts summary_of (nodes.JSXPart n) role c
facts_jsx_part n role c = ap (λ x. facts x role c) (sym (whole.rolls-JSXPart n)) ∙ facts_of_layer (nodes.JSXPart n) role c

pub begins_jsx_part : (n : JSXPart AnyNode) (role : Role) → begins_in summary_of (whole.JSXPart n) role ≡ node_begins (begins_in summary_of) (nodes.JSXPart n) role
begins_jsx_part n role = ap (λ x. begins_in summary_of x role) (sym (whole.rolls-JSXPart n)) ∙ begins_of_layer (nodes.JSXPart n) role of_script

-- the same of AssignmentTargetType
simple_of_layer : (n : AnyNode-F AnyNode) (strict : Bool) → is_simple (roll-AnyNode n) strict ≡ is_simple_node (λ x. is_simple x strict) strict n
unfolding is_simple
simple_of_layer n strict =
    ap (λ f. f strict) (fold-roll-AnyNode (Bool → Bool) (λ m b. is_simple_node (λ known. known b) b m) n) ∙ simple_mapped is_simple (λ known. known strict) strict n

pub simple_of : {X : Type 0} (g : X → AnyNode) (n : AnyNode-F X) (strict : Bool) → is_simple (roll-AnyNode (map-AnyNode X AnyNode g n)) strict ≡ is_simple_node (λ x. is_simple (g x) strict) strict n
simple_of {X} g n strict = simple_of_layer (map-AnyNode X AnyNode g n) strict ∙ simple_mapped g (λ x. is_simple x strict) strict n
