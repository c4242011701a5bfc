-- What is found within some depth is found in the whole tree, and the other way round.
use Rattle.std.proofs.Common.{◌≡◌, inl, inr, ℕ, suc, zero, ◌+◌, List, [], ◌∷◌, Option, Some, None, Result, Ok, Err, IfOk, sym, subst, add-zero, add-suc, add_comm}
use Rattle.swc_ecma_codegen_tree.specs.declared.exprs.Expr.{Expr}
use Rattle.swc_ecma_codegen_tree.specs.declared.stmts.Stmt.{Stmt}
use Rattle.swc_ecma_codegen_tree.specs.declared.exprs.MemberExpr.{MemberExpr}
use Rattle.swc_ecma_codegen_tree.specs.declared.parts.ExprPart.{ExprPart}
use Rattle.swc_ecma_codegen_tree.specs.declared.parts.StmtPart.{StmtPart}
use Rattle.swc_ecma_codegen_tree.specs.declared.parts.JSXPart.{JSXPart}
use Rattle.swc_ecma_codegen_tree.specs.declared.parts.TsPart.{TsPart}
use Rattle.swc_ecma_codegen_tree.specs.declared.links.AnyNode.{AnyNode, AnyNode-F, roll-AnyNode, out-AnyNode}
use Rattle.swc_ecma_codegen_tree.specs.declared.links.AnyNode.TheOpen as nodes
use Rattle.swc_ecma_codegen_tree.specs.declared.links.AnyNode.TheViews.{out-roll-AnyNode}
use Rattle.swc_ecma_codegen_tree.specs.declared.links.AnyNode.TheVariants as whole
use Rattle.swc_ecma_codegen_grammar.specs.declared.roles.Role.{Role}
use Rattle.swc_ecma_codegen_validate.specs.declared.faults.Broken.{Broken}
use Rattle.swc_ecma_codegen_validate.specs.Rules.{Place, Findings, in_each, in_some, Rules, Free, Rule, Both, Below, Each, Optional, Linked, Found, findings, Finds}
use Rattle.swc_ecma_codegen_validate.specs.TreeRules.{expr_in_role, stmt_in_role, member_in_role, expr_part, stmt_part, jsx_part, ts_part, node, found_within, found_in}

-- what the one finds the other does
record Within (a b : Findings) : Type 0 where
  pub first : (path : List Place) (words : List ℕ) → a.first path words → b.first path words
  pub none : a.none → b.none

-- ---- where more is found of what links hold, more is found

module _ {A : Type 0} (u v : A → Findings) (more : (x : A) → Within (u x) (v x)) where
  each_none : (i : ℕ) (xs : List A) → (in_each u i xs).none → (in_each v i xs).none
  unfolding in_each
  each_none i [] h = h
  each_none i (x ∷ xs) (h, k) = ((more x).none h, each_none (suc i) xs k)

  each_first : (i : ℕ) (xs : List A) (path : List Place) (words : List ℕ) → (in_each u i xs).first path words → (in_each v i xs).first path words
  unfolding in_each
  each_first i [] path words h = h
  each_first i (x ∷ xs) path words (inl (rest, e, h)) = inl (rest, e, (more x).first rest words h)
  each_first i (x ∷ xs) path words (inr (h, k)) = inr ((more x).none h, each_first (suc i) xs path words k)

  some_none : (o : Option A) → (in_some u o).none → (in_some v o).none
  unfolding in_some
  some_none None h = h
  some_none (Some x) h = (more x).none h

  some_first : (o : Option A) (path : List Place) (words : List ℕ) → (in_some u o).first path words → (in_some v o).first path words
  unfolding in_some
  some_first None path words h = h
  some_first (Some x) path words h = (more x).first path words h

module _ {X : Type 0} (f g : X → Role → Findings) (more : (x : X) (role : Role) → Within (f x role) (g x role)) where
  grown : (a : Rules X) → Within (findings f a) (findings g a)
  unfolding findings
  grown Free = record { first = λ path words h. h; none = λ h. h }
  grown (Rule holds rule) = record { first = λ path words h. h; none = λ h. h }
  grown (Both a b) =
      let p : Within (findings f a) (findings g a) = grown a in
      let q : Within (findings f b) (findings g b) = grown b in
      record {
        first = λ path words. elim [ inl h ↦ inl (p.first path words h) | inr h ↦ inr (p.none h.0, q.first path words h.1) ];
        none = λ h. (p.none h.0, q.none h.1);
      }
  grown (Below place a) =
      let p : Within (findings f a) (findings g a) = grown a in
      record { first = λ path words h. (h.0, h.1, p.first h.0 words h.2); none = p.none }
  grown (Each nodes rules) =
      record {
        first = each_first (λ x. findings f (rules x)) (λ x. findings g (rules x)) (λ x. grown (rules x)) 0 nodes;
        none = each_none (λ x. findings f (rules x)) (λ x. findings g (rules x)) (λ x. grown (rules x)) 0 nodes;
      }
  grown (Optional o rules) =
      record {
        first = some_first (λ x. findings f (rules x)) (λ x. findings g (rules x)) (λ x. grown (rules x)) o;
        none = some_none (λ x. findings f (rules x)) (λ x. findings g (rules x)) (λ x. grown (rules x)) o;
      }
  grown (Linked held role) = more held role
  grown (Found a) = record { first = λ path words h. h; none = λ h. h }

-- a node deeper
deeper : (k : ℕ) (n : AnyNode) (role : Role) → Within (found_within k n role) (found_within (suc k) n role)
unfolding found_within
deeper zero n role = record { first = λ path words h. absurd h; none = λ h. absurd h }
deeper (suc k) n role = grown (found_within k) (found_within (suc k)) (deeper k) (node (out-AnyNode n) role)

-- any number of nodes deeper
deeper_by : (j k : ℕ) (n : AnyNode) (role : Role) → Within (found_within k n role) (found_within (k + j) n role)
deeper_by zero k n role = subst (λ z. Within (found_within k n role) (found_within z n role)) (sym (add-zero k)) (record { first = λ path words h. h; none = λ h. h })
deeper_by (suc j) k n role =
    let p : Within (found_within k n role) (found_within (k + j) n role) = deeper_by j k n role in
    let q : Within (found_within (k + j) n role) (found_within (suc (k + j)) n role) = deeper (k + j) n role in
    subst (λ z. Within (found_within k n role) (found_within z n role)) (sym (add-suc k j)) (record { first = λ path words h. q.first path words (p.first path words h); none = λ h. q.none (p.none h) })

left : (j k : ℕ) (a : Rules AnyNode) → Within (findings (found_within j) a) (findings (found_within (j + k)) a)
left j k a = grown (found_within j) (found_within (j + k)) (deeper_by k j) a

right : (j k : ℕ) (a : Rules AnyNode) → Within (findings (found_within k) a) (findings (found_within (j + k)) a)
right j k a = subst (λ z. Within (findings (found_within k) a) (findings (found_within z) a)) (add_comm k j) (left k j a)

-- ---- what is found is found within some depth

record Reached (a : Rules AnyNode) : Type 0 where
  pub first : (path : List Place) (words : List ℕ) → (findings found_in a).first path words → (k : ℕ) × (findings (found_within k) a).first path words
  pub none : (findings found_in a).none → (k : ℕ) × (findings (found_within k) a).none

module _ {A : Type 0} (rules : A → Rules AnyNode) (reached : (x : A) → Reached (rules x)) where
  each_none_reached : (i : ℕ) (xs : List A) → (in_each (λ x. findings found_in (rules x)) i xs).none → (k : ℕ) × (in_each (λ x. findings (found_within k) (rules x)) i xs).none
  unfolding in_each
  each_none_reached i [] h = (0, h)
  each_none_reached i (x ∷ xs) (h, t) =
      let p : (k : ℕ) × (findings (found_within k) (rules x)).none = (reached x).none h in
      let q : (k : ℕ) × (in_each (λ x. findings (found_within k) (rules x)) (suc i) xs).none = each_none_reached (suc i) xs t in
      (p.0 + q.0, ((left p.0 q.0 (rules x)).none p.1, each_none (λ x. findings (found_within q.0) (rules x)) (λ x. findings (found_within (p.0 + q.0)) (rules x)) (λ x. right p.0 q.0 (rules x)) (suc i) xs q.1))

  each_first_reached : (i : ℕ) (xs : List A) (path : List Place) (words : List ℕ) → (in_each (λ x. findings found_in (rules x)) i xs).first path words → (k : ℕ) × (in_each (λ x. findings (found_within k) (rules x)) i xs).first path words
  unfolding in_each
  each_first_reached i [] path words h = absurd h
  each_first_reached i (x ∷ xs) path words (inl (rest, e, h)) =
      let p : (k : ℕ) × (findings (found_within k) (rules x)).first rest words = (reached x).first rest words h in
      (p.0, inl (rest, e, p.1))
  each_first_reached i (x ∷ xs) path words (inr (h, t)) =
      let p : (k : ℕ) × (findings (found_within k) (rules x)).none = (reached x).none h in
      let q : (k : ℕ) × (in_each (λ x. findings (found_within k) (rules x)) (suc i) xs).first path words = each_first_reached (suc i) xs path words t in
      (p.0 + q.0, inr ((left p.0 q.0 (rules x)).none p.1, each_first (λ x. findings (found_within q.0) (rules x)) (λ x. findings (found_within (p.0 + q.0)) (rules x)) (λ x. right p.0 q.0 (rules x)) (suc i) xs path words q.1))

  some_none_reached : (o : Option A) → (in_some (λ x. findings found_in (rules x)) o).none → (k : ℕ) × (in_some (λ x. findings (found_within k) (rules x)) o).none
  unfolding in_some
  some_none_reached None h = (0, h)
  some_none_reached (Some x) h = (reached x).none h

  some_first_reached : (o : Option A) (path : List Place) (words : List ℕ) → (in_some (λ x. findings found_in (rules x)) o).first path words → (k : ℕ) × (in_some (λ x. findings (found_within k) (rules x)) o).first path words
  unfolding in_some
  some_first_reached None path words h = absurd h
  some_first_reached (Some x) path words h = (reached x).first path words h

reached : (a : Rules AnyNode) → Reached a
unfolding findings found_in
reached Free = record { first = λ path words h. absurd h; none = λ h. (0, h) }
reached (Rule holds rule) = record { first = λ path words h. (0, h); none = λ h. (0, h) }
reached (Both a b) =
    let ra : Reached a = reached a in
    let rb : Reached b = reached b in
    record {
      first = λ path words. elim [
        | inl h ↦ let p : (k : ℕ) × (findings (found_within k) a).first path words = ra.first path words h in (p.0, inl p.1)
        | inr h ↦
            let p : (k : ℕ) × (findings (found_within k) a).none = ra.none h.0 in
            let q : (k : ℕ) × (findings (found_within k) b).first path words = rb.first path words h.1 in
            (p.0 + q.0, inr ((left p.0 q.0 a).none p.1, (right p.0 q.0 b).first path words q.1))
      ];
      none = λ h.
          let p : (k : ℕ) × (findings (found_within k) a).none = ra.none h.0 in
          let q : (k : ℕ) × (findings (found_within k) b).none = rb.none h.1 in
          (p.0 + q.0, ((left p.0 q.0 a).none p.1, (right p.0 q.0 b).none q.1));
    }
reached (Below place a) =
    let ra : Reached a = reached a in
    record {
      first = λ path words h.
          let p : (k : ℕ) × (findings (found_within k) a).first h.0 words = ra.first h.0 words h.2 in
          (p.0, (h.0, h.1, p.1));
      none = ra.none;
    }
reached (Each nodes rules) = record { first = each_first_reached rules (λ x. reached (rules x)) 0 nodes; none = each_none_reached rules (λ x. reached (rules x)) 0 nodes }
reached (Optional o rules) = record { first = some_first_reached rules (λ x. reached (rules x)) o; none = some_none_reached rules (λ x. reached (rules x)) o }
reached (Linked held role) = record { first = λ path words h. h; none = λ h. h }
reached (Found a) = record { first = λ path words h. (0, h); none = λ h. (0, h) }

-- what a node finds of itself and of what its links hold is found in it
pub found_here : (n : AnyNode) (role : Role) (o : Option Broken) → Finds (findings found_in (node (out-AnyNode n) role)) o → Finds (found_in n role) o
unfolding found_in found_within
found_here n role None h =
    let p : (k : ℕ) × (findings (found_within k) (node (out-AnyNode n) role)).none = (reached (node (out-AnyNode n) role)).none h in
    (suc p.0, p.1)
found_here n role (Some broken) h =
    let p = (reached (node (out-AnyNode n) role)).first _ broken.rule.now h in
    (suc p.0, p.1)

-- ---- by the sort of the node

-- the same of a node that is known by its layer
of_layer : {E : Type 0} (m : AnyNode-F AnyNode) (n : AnyNode) → roll-AnyNode m ≡ n → (role : Role) (r : Result (Option Broken) E) → IfOk r (Finds (findings found_in (node m role))) → IfOk r (Finds (found_in n role))
of_layer m n e role (Ok o) h = subst (λ z. Finds (found_in z role) o) e (found_here (roll-AnyNode m) role o (subst (λ z. Finds (findings found_in (node z role)) o) (sym (out-roll-AnyNode m)) h))
of_layer m n e role (Err x) h = h

pub of_expr : {E : Type 0} (n : Expr AnyNode) (role : Role) (r : Result (Option Broken) E) → IfOk r (Finds (findings found_in (expr_in_role n role))) → IfOk r (Finds (found_in (whole.Expr n) role))
unfolding node
of_expr n role r h = of_layer (nodes.Expr n) (whole.Expr n) (whole.rolls-Expr n) role r h

pub of_stmt : {E : Type 0} (n : Stmt AnyNode) (role : Role) (r : Result (Option Broken) E) → IfOk r (Finds (findings found_in (stmt_in_role n role))) → IfOk r (Finds (found_in (whole.Stmt n) role))
unfolding node
of_stmt n role r h = of_layer (nodes.Stmt n) (whole.Stmt n) (whole.rolls-Stmt n) role r h

pub of_member : {E : Type 0} (n : MemberExpr AnyNode) (role : Role) (r : Result (Option Broken) E) → IfOk r (Finds (findings found_in (member_in_role n role))) → IfOk r (Finds (found_in (whole.MemberExpr n) role))
unfolding node
of_member n role r h = of_layer (nodes.MemberExpr n) (whole.MemberExpr n) (whole.rolls-MemberExpr n) role r h

pub of_expr_part : {E : Type 0} (n : ExprPart AnyNode) (role : Role) (r : Result (Option Broken) E) → IfOk r (Finds (findings found_in (expr_part n role))) → IfOk r (Finds (found_in (whole.ExprPart n) role))
unfolding node
of_expr_part n role r h = of_layer (nodes.ExprPart n) (whole.ExprPart n) (whole.rolls-ExprPart n) role r h

pub of_stmt_part : {E : Type 0} (n : StmtPart AnyNode) (role : Role) (r : Result (Option Broken) E) → IfOk r (Finds (findings found_in (stmt_part n role))) → IfOk r (Finds (found_in (whole.StmtPart n) role))
unfolding node
of_stmt_part n role r h = of_layer (nodes.StmtPart n) (whole.StmtPart n) (whole.rolls-StmtPart n) role r h

pub of_jsx_part : {E : Type 0} (n : JSXPart AnyNode) (role : Role) (r : Result (Option Broken) E) → IfOk r (Finds (findings found_in (jsx_part n role))) → IfOk r (Finds (found_in (whole.JSXPart n) role))
unfolding node
of_jsx_part n role r h = of_layer (nodes.JSXPart n) (whole.JSXPart n) (whole.rolls-JSXPart n) role r h

pub of_ts_part : {E : Type 0} (n : TsPart AnyNode) (role : Role) (r : Result (Option Broken) E) → IfOk r (Finds (findings found_in (ts_part n role))) → IfOk r (Finds (found_in (whole.TsPart n) role))
unfolding node
of_ts_part n role r h = of_layer (nodes.TsPart n) (whole.TsPart n) (whole.rolls-TsPart n) role r h
