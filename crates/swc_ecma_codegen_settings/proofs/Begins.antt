-- What the words of Starts say of a whole node, by its sort.
use Rattle.std.proofs.Common.{if◌then◌else◌, ◌≡◌, ◌≢◌, Bool, true, false, List, [], ◌∷◌, refl, sym, ◌∙◌, ap, map}
use Rattle.swc_ecma_codegen_tree.specs.declared.links.AnyNode.{AnyNode, AnyNode-F, map-AnyNode, out-AnyNode, roll-AnyNode, roll-out-AnyNode}
use Rattle.swc_ecma_codegen_tree.specs.declared.links.AnyNode.TheOpen as nodes
use Rattle.swc_ecma_codegen_tree.specs.declared.links.AnyNode.TheVariants as whole
use Rattle.swc_ecma_codegen_tree.specs.declared.links.AnyNode.TheFolds.{fold-roll-AnyNode, fold_out-AnyNode}
use Rattle.swc_ecma_codegen_tree.specs.declared.parts.ExprPart.{ExprPart}
use Rattle.swc_ecma_codegen_tree.specs.declared.parts.ExprPart.TheVariants as expr_parts
use Rattle.swc_ecma_codegen_tree.specs.declared.parts.StmtPart.{StmtPart}
use Rattle.swc_ecma_codegen_tree.specs.declared.parts.StmtPart.TheVariants as stmt_parts
use Rattle.swc_ecma_codegen_tree.specs.Links.{ExprBox, PatBox}
use Rattle.swc_ecma_codegen_tree.specs.declared.exprs.CallExpr.{CallExpr}
use Rattle.swc_ecma_codegen_tree.specs.declared.exprs.Callee.{Callee}
use Rattle.swc_ecma_codegen_tree.specs.declared.exprs.Callee.TheVariants as callees
use Rattle.swc_ecma_codegen_tree.specs.declared.exprs.Expr.{Expr}
use Rattle.swc_ecma_codegen_tree.specs.declared.exprs.Expr.TheVariants as exprs
use Rattle.swc_ecma_codegen_tree.specs.declared.exprs.MemberExpr.{MemberExpr}
use Rattle.swc_ecma_codegen_tree.specs.declared.exprs.OptChainBase.{OptChainBase}
use Rattle.swc_ecma_codegen_tree.specs.declared.exprs.OptChainBase.TheVariants as chain_bases
use Rattle.swc_ecma_codegen_tree.specs.declared.exprs.OptChainExpr.{OptChainExpr}
use Rattle.swc_ecma_codegen_tree.specs.declared.exprs.PropName.{PropName}
use Rattle.swc_ecma_codegen_tree.specs.declared.exprs.PropName.TheVariants as prop_names
use Rattle.swc_ecma_codegen_tree.specs.declared.pats.AssignTarget.{AssignTarget}
use Rattle.swc_ecma_codegen_tree.specs.declared.pats.AssignTarget.TheVariants as targets
use Rattle.swc_ecma_codegen_tree.specs.declared.pats.Pat.{Pat}
use Rattle.swc_ecma_codegen_tree.specs.declared.pats.Pat.TheVariants as pats
use Rattle.swc_ecma_codegen_tree.specs.declared.pats.SimpleAssignTarget.TheVariants as simple_targets
use Rattle.swc_ecma_codegen_tree.specs.declared.stmts.Stmt.{Stmt}
use Rattle.swc_ecma_codegen_tree.specs.declared.stmts.Stmt.TheVariants as stmts
use Rattle.swc_ecma_codegen_settings.specs.Starts.{update_starts, first_starts, only_starts, arrow_starts, callee_starts, chain_starts, expr_starts, prop_name_starts, pat_starts, simple_target_starts, target_starts, stmt_starts, expr_part_starts, stmt_part_starts, node_starts, any_starts}

-- ---- a word sees what links hold through f alone

first_mapped : {A B : Type 0} (g : ExprBox A → ExprBox B) (e : B → Bool) (d : A → Bool) → ((x : ExprBox A) → e (g x).node.value ≡ d x.node.value) → (xs : List (ExprBox A)) → first_starts e (map g xs) ≡ first_starts d xs
unfolding first_starts
first_mapped g e d same [] = refl
first_mapped g e d same (x ∷ xs) = same x

only_mapped : {A B : Type 0} (g : PatBox A → PatBox B) (e : B → Bool) (d : A → Bool) → ((x : PatBox A) → e (g x).node.value ≡ d x.node.value) → (xs : List (PatBox A)) → only_starts e (map g xs) ≡ only_starts d xs
unfolding only_starts
only_mapped g e d same [] = refl
only_mapped g e d same (x ∷ []) = same x
only_mapped g e d same (x ∷ y ∷ xs) = refl

callee_mapped : {X Y : Type 0} (g : X → Y) (f : Y → Bool) (n : CallExpr X) (callee : Callee X) → node_starts f (map-AnyNode X Y g (nodes.Expr (exprs.Call (record n { callee = callee })))) ≡ callee_starts (λ x. f (g x)) callee
unfolding node_starts expr_starts callee_starts
callee_mapped g f n (callees.Super c) = refl
callee_mapped g f n (callees.Import c) = refl
callee_mapped g f n (callees.Expr c) = refl

chain_mapped : {X Y : Type 0} (g : X → Y) (f : Y → Bool) (n : OptChainExpr X) (base : OptChainBase X) → node_starts f (map-AnyNode X Y g (nodes.Expr (exprs.OptChain (record n { base = base })))) ≡ chain_starts (λ x. f (g x)) base
unfolding node_starts expr_starts chain_starts
chain_mapped g f n (chain_bases.Member b) = refl
chain_mapped g f n (chain_bases.Call b) = refl

expr_mapped : {X Y : Type 0} (g : X → Y) (f : Y → Bool) (n : Expr X) → node_starts f (map-AnyNode X Y g (nodes.Expr n)) ≡ expr_starts (λ x. f (g x)) n
unfolding node_starts expr_starts update_starts arrow_starts
expr_mapped g f (exprs.Seq n) = first_mapped _ f (λ x. f (g x)) (λ x. refl) n.exprs.items
expr_mapped g f (exprs.Call n) = callee_mapped g f n n.callee
expr_mapped g f (exprs.OptChain n) = chain_mapped g f n n.base
expr_mapped g f (exprs.Arrow n) = ap (λ (b : Bool). if n.value.is_async then true else b) (only_mapped _ f (λ x. f (g x)) (λ x. refl) n.value.params.items)
expr_mapped g f n = refl

stmt_mapped : {X Y : Type 0} (g : X → Y) (f : Y → Bool) (n : Stmt X) → node_starts f (map-AnyNode X Y g (nodes.Stmt n)) ≡ stmt_starts (λ x. f (g x)) n
unfolding node_starts stmt_starts
stmt_mapped g f (stmts.Empty n) = refl
stmt_mapped g f n = refl

pat_mapped : {X Y : Type 0} (g : X → Y) (f : Y → Bool) (n : Pat X) → node_starts f (map-AnyNode X Y g (nodes.ExprPart (expr_parts.Pat n))) ≡ pat_starts (λ x. f (g x)) n
unfolding node_starts expr_part_starts pat_starts
pat_mapped g f (pats.Invalid n) = refl
pat_mapped g f n = refl

prop_name_mapped : {X Y : Type 0} (g : X → Y) (f : Y → Bool) (n : PropName X) → node_starts f (map-AnyNode X Y g (nodes.ExprPart (expr_parts.PropName n))) ≡ prop_name_starts n
unfolding node_starts expr_part_starts prop_name_starts
prop_name_mapped g f (prop_names.Str n) = refl
prop_name_mapped g f n = refl

target_chain_mapped : {X Y : Type 0} (g : X → Y) (f : Y → Bool) (n : OptChainExpr X) (base : OptChainBase X) → node_starts f (map-AnyNode X Y g (nodes.ExprPart (expr_parts.AssignTarget (targets.Simple (simple_targets.OptChain (record n { base = base })))))) ≡ chain_starts (λ x. f (g x)) base
unfolding node_starts expr_part_starts target_starts simple_target_starts chain_starts
target_chain_mapped g f n (chain_bases.Member b) = refl
target_chain_mapped g f n (chain_bases.Call b) = refl

target_mapped : {X Y : Type 0} (g : X → Y) (f : Y → Bool) (n : AssignTarget X) → node_starts f (map-AnyNode X Y g (nodes.ExprPart (expr_parts.AssignTarget n))) ≡ target_starts (λ x. f (g x)) n
unfolding node_starts expr_part_starts target_starts simple_target_starts
target_mapped g f (targets.Simple (simple_targets.OptChain n)) = target_chain_mapped g f n n.base
target_mapped g f n = refl

expr_part_mapped : {X Y : Type 0} (g : X → Y) (f : Y → Bool) (n : ExprPart X) → node_starts f (map-AnyNode X Y g (nodes.ExprPart n)) ≡ expr_part_starts (λ x. f (g x)) n
unfolding node_starts expr_part_starts
expr_part_mapped g f (expr_parts.Pat n) = pat_mapped g f n
expr_part_mapped g f (expr_parts.PropName n) = prop_name_mapped g f n
expr_part_mapped g f (expr_parts.AssignTarget n) = target_mapped g f n
expr_part_mapped g f n = refl

stmt_part_mapped : {X Y : Type 0} (g : X → Y) (f : Y → Bool) (n : StmtPart X) → node_starts f (map-AnyNode X Y g (nodes.StmtPart n)) ≡ stmt_part_starts n
unfolding node_starts stmt_part_starts
stmt_part_mapped g f (stmt_parts.Decl n) = refl
stmt_part_mapped g f n = refl

node_mapped : {X Y : Type 0} (g : X → Y) (f : Y → Bool) (n : AnyNode-F X) → node_starts f (map-AnyNode X Y g n) ≡ node_starts (λ x. f (g x)) n
unfolding node_starts
node_mapped g f (nodes.Expr n) = expr_mapped g f n
node_mapped g f (nodes.Stmt n) = stmt_mapped g f n
node_mapped g f (nodes.ExprPart n) = expr_part_mapped g f n
node_mapped g f (nodes.StmtPart n) = stmt_part_mapped g f n
node_mapped g f n = refl

-- ---- whole nodes

starts_of_layer : (n : AnyNode-F AnyNode) → any_starts (roll-AnyNode n) ≡ node_starts any_starts n
unfolding any_starts
starts_of_layer n = fold-roll-AnyNode Bool (node_starts (λ known. known)) n ∙ node_mapped any_starts (λ known. known) n

-- what links hold may come with more
pub starts_of : {X : Type 0} (g : X → AnyNode) (n : AnyNode-F X) → any_starts (roll-AnyNode (map-AnyNode X AnyNode g n)) ≡ node_starts (λ x. any_starts (g x)) n
starts_of {X} g n = starts_of_layer (map-AnyNode X AnyNode g n) ∙ node_mapped g any_starts n

pub any_starts_layer : (n : AnyNode) → any_starts n ≡ node_starts any_starts (out-AnyNode n)
unfolding any_starts
any_starts_layer n = fold_out-AnyNode Bool (node_starts (λ known. known)) n ∙ node_mapped any_starts (λ known. known) (out-AnyNode n)

pub any_starts_expr : (n : Expr AnyNode) → any_starts (whole.Expr n) ≡ expr_starts any_starts n
unfolding node_starts
any_starts_expr n = ap any_starts (sym (whole.rolls-Expr n)) ∙ starts_of_layer (nodes.Expr n)

pub any_starts_stmt : (n : Stmt AnyNode) → any_starts (whole.Stmt n) ≡ stmt_starts any_starts n
unfolding node_starts
any_starts_stmt n = ap any_starts (sym (whole.rolls-Stmt n)) ∙ starts_of_layer (nodes.Stmt n)

pub any_starts_member_expr : (n : MemberExpr AnyNode) → any_starts (whole.MemberExpr n) ≡ any_starts n.obj.node.value
unfolding node_starts
any_starts_member_expr n = ap any_starts (sym (whole.rolls-MemberExpr n)) ∙ starts_of_layer (nodes.MemberExpr n)

pub any_starts_expr_part : (n : ExprPart AnyNode) → any_starts (whole.ExprPart n) ≡ expr_part_starts any_starts n
unfolding node_starts
any_starts_expr_part n = ap any_starts (sym (whole.rolls-ExprPart n)) ∙ starts_of_layer (nodes.ExprPart n)

pub any_starts_stmt_part : (n : StmtPart AnyNode) → any_starts (whole.StmtPart n) ≡ stmt_part_starts n
unfolding node_starts
any_starts_stmt_part n = ap any_starts (sym (whole.rolls-StmtPart n)) ∙ starts_of_layer (nodes.StmtPart n)

-- ---- nodes of the other sorts

other_starts : (n : AnyNode-F AnyNode)
    → ((x : Expr AnyNode) → roll-AnyNode n ≢ whole.Expr x)
    → ((x : Stmt AnyNode) → roll-AnyNode n ≢ whole.Stmt x)
    → ((x : MemberExpr AnyNode) → roll-AnyNode n ≢ whole.MemberExpr x)
    → ((x : ExprPart AnyNode) → roll-AnyNode n ≢ whole.ExprPart x)
    → ((x : StmtPart AnyNode) → roll-AnyNode n ≢ whole.StmtPart x)
    → node_starts any_starts n ≡ false
unfolding node_starts
other_starts (nodes.Expr x) never _ _ _ _ = absurd (never x (whole.rolls-Expr x))
other_starts (nodes.Stmt x) _ never _ _ _ = absurd (never x (whole.rolls-Stmt x))
other_starts (nodes.MemberExpr x) _ _ never _ _ = absurd (never x (whole.rolls-MemberExpr x))
other_starts (nodes.ExprPart x) _ _ _ never _ = absurd (never x (whole.rolls-ExprPart x))
other_starts (nodes.StmtPart x) _ _ _ _ never = absurd (never x (whole.rolls-StmtPart x))
other_starts n _ _ _ _ _ = refl

pub starts_of_other : (n : AnyNode)
    → ((x : Expr AnyNode) → n ≢ whole.Expr x)
    → ((x : Stmt AnyNode) → n ≢ whole.Stmt x)
    → ((x : MemberExpr AnyNode) → n ≢ whole.MemberExpr x)
    → ((x : ExprPart AnyNode) → n ≢ whole.ExprPart x)
    → ((x : StmtPart AnyNode) → n ≢ whole.StmtPart x)
    → false ≡ any_starts n
starts_of_other n no_expr no_stmt no_member_expr no_expr_part no_stmt_part = sym (any_starts_layer n ∙ other_starts (out-AnyNode n)
    (λ x same. no_expr x (sym (roll-out-AnyNode n) ∙ same))
    (λ x same. no_stmt x (sym (roll-out-AnyNode n) ∙ same))
    (λ x same. no_member_expr x (sym (roll-out-AnyNode n) ∙ same))
    (λ x same. no_expr_part x (sym (roll-out-AnyNode n) ∙ same))
    (λ x same. no_stmt_part x (sym (roll-out-AnyNode n) ∙ same)))
