-- What the words of Ends say of a whole node, by its sort.
use Rattle.std.proofs.Common.{◌≡◌, ◌≢◌, Bool, false, List, length, ◌-◌, Option, Some, None, refl, sym, ◌∙◌, ap, map}
use Rattle.std.specs.List.{slice_get}
use Rattle.std.specs.Option.{option_map}
use Rattle.std.proofs.lemmas.List.{length-map}
use Rattle.std.proofs.lemmas.Option.{slice_get-map}
use Rattle.swc_ecma_codegen_tree.specs.declared.links.AnyNode.{AnyNode, AnyNode-F, map-AnyNode, out-AnyNode, roll-AnyNode, roll-out-AnyNode}
use Rattle.swc_ecma_codegen_tree.specs.declared.links.AnyNode.TheOpen as nodes
use Rattle.swc_ecma_codegen_tree.specs.declared.links.AnyNode.TheVariants as whole
use Rattle.swc_ecma_codegen_tree.specs.declared.links.AnyNode.TheFolds.{fold-roll-AnyNode, fold_out-AnyNode}
use Rattle.swc_ecma_codegen_tree.specs.declared.parts.ExprPart.{ExprPart}
use Rattle.swc_ecma_codegen_tree.specs.declared.parts.ExprPart.TheVariants as expr_parts
use Rattle.swc_ecma_codegen_tree.specs.declared.parts.StmtPart.{StmtPart}
use Rattle.swc_ecma_codegen_tree.specs.declared.parts.StmtPart.TheVariants as stmt_parts
use Rattle.swc_ecma_codegen_tree.specs.Links.{ExprBox}
use Rattle.swc_ecma_codegen_tree.specs.declared.decls.VarDecl.{VarDecl}
use Rattle.swc_ecma_codegen_tree.specs.declared.decls.VarDeclarator.{VarDeclarator}
use Rattle.swc_ecma_codegen_tree.specs.declared.exprs.Expr.{Expr}
use Rattle.swc_ecma_codegen_tree.specs.declared.exprs.Expr.TheVariants as exprs
use Rattle.swc_ecma_codegen_tree.specs.declared.exprs.MemberExpr.{MemberExpr}
use Rattle.swc_ecma_codegen_tree.specs.declared.exprs.MemberProp.{MemberProp}
use Rattle.swc_ecma_codegen_tree.specs.declared.exprs.MemberProp.TheVariants as member_props
use Rattle.swc_ecma_codegen_tree.specs.declared.pats.Pat.{Pat}
use Rattle.swc_ecma_codegen_tree.specs.declared.pats.Pat.TheVariants as pats
use Rattle.swc_ecma_codegen_settings.specs.Ends.{prop_ends, expr_ends, pat_ends, init_ends, declarator_ends, last_ends, declarators_end, expr_part_ends, stmt_part_ends, node_ends, any_ends}

-- ---- a word sees what links hold through f alone

-- a declarator with an initializer, and one without
declarator_mapped : {A B : Type 0} (g : VarDeclarator A → VarDeclarator B) (e : B → Bool) (d : A → Bool) → ((x : VarDeclarator A) (y : ExprBox A) → declarator_ends e (g (record x { init = Some y })) ≡ d y.node.value) → ((x : VarDeclarator A) → declarator_ends e (g (record x { init = None })) ≡ pat_ends d x.name)
    → (x : VarDeclarator A) (init : Option (ExprBox A)) → declarator_ends e (g (record x { init = init })) ≡ declarator_ends d (record x { init = init })
unfolding declarator_ends init_ends
declarator_mapped g e d with_init without x (Some y) = with_init x y
declarator_mapped g e d with_init without x None = without x

last_mapped : {A B : Type 0} (g : VarDeclarator A → VarDeclarator B) (e : B → Bool) (d : A → Bool) → ((x : VarDeclarator A) → declarator_ends e (g x) ≡ declarator_ends d x) → (x : Option (VarDeclarator A)) → last_ends e (option_map g x) ≡ last_ends d x
unfolding last_ends
last_mapped g e d same (Some x) = same x
last_mapped g e d same None = refl

pub declarators_mapped : {A B : Type 0} (g : VarDeclarator A → VarDeclarator B) (e : B → Bool) (d : A → Bool) → ((x : VarDeclarator A) (y : ExprBox A) → declarator_ends e (g (record x { init = Some y })) ≡ d y.node.value) → ((x : VarDeclarator A) → declarator_ends e (g (record x { init = None })) ≡ pat_ends d x.name)
    → (xs : List (VarDeclarator A)) → declarators_end e (map g xs) ≡ declarators_end d xs
unfolding declarators_end
declarators_mapped g e d with_init without xs = ap (λ i. last_ends e (slice_get (map g xs) (i - 1))) (length-map xs g) ∙ ap (last_ends e) (slice_get-map g xs (length xs - 1))
    ∙ last_mapped g e d (λ x. declarator_mapped g e d with_init without x x.init) (slice_get xs (length xs - 1))

pub pat_mapped : {X Y : Type 0} (g : X → Y) (f : Y → Bool) (n : Pat X) → node_ends f (map-AnyNode X Y g (nodes.ExprPart (expr_parts.Pat n))) ≡ pat_ends (λ x. f (g x)) n
unfolding node_ends expr_part_ends pat_ends
pat_mapped g f (pats.Invalid n) = refl
pat_mapped g f n = refl

var_decl_mapped : {X Y : Type 0} (g : X → Y) (f : Y → Bool) (n : VarDecl X) → node_ends f (map-AnyNode X Y g (nodes.StmtPart (stmt_parts.VarDecl n))) ≡ declarators_end (λ x. f (g x)) n.decls.items
unfolding node_ends expr_part_ends stmt_part_ends declarator_ends init_ends
var_decl_mapped g f n = declarators_mapped _ f (λ x. f (g x)) (λ x y. refl) (λ x. pat_mapped g f x.name) n.decls.items

member_mapped : {X Y : Type 0} (g : X → Y) (f : Y → Bool) (n : MemberExpr X) (prop : MemberProp X) → node_ends f (map-AnyNode X Y g (nodes.MemberExpr (record n { prop = prop }))) ≡ prop_ends prop
unfolding node_ends prop_ends
member_mapped g f n (member_props.Ident p) = refl
member_mapped g f n (member_props.PrivateName p) = refl
member_mapped g f n (member_props.Computed p) = refl

expr_mapped : {X Y : Type 0} (g : X → Y) (f : Y → Bool) (n : Expr X) → node_ends f (map-AnyNode X Y g (nodes.Expr n)) ≡ expr_ends (λ x. f (g x)) n
unfolding node_ends expr_ends
expr_mapped g f (exprs.Member n) = member_mapped g f n n.prop
expr_mapped g f (exprs.Paren n) = refl
expr_mapped g f n = refl

expr_part_mapped : {X Y : Type 0} (g : X → Y) (f : Y → Bool) (n : ExprPart X) → node_ends f (map-AnyNode X Y g (nodes.ExprPart n)) ≡ expr_part_ends (λ x. f (g x)) n
unfolding node_ends expr_part_ends
expr_part_mapped g f (expr_parts.Pat n) = pat_mapped g f n
expr_part_mapped g f n = refl

stmt_part_mapped : {X Y : Type 0} (g : X → Y) (f : Y → Bool) (n : StmtPart X) → node_ends f (map-AnyNode X Y g (nodes.StmtPart n)) ≡ stmt_part_ends (λ x. f (g x)) n
unfolding node_ends stmt_part_ends
stmt_part_mapped g f (stmt_parts.VarDecl n) = var_decl_mapped g f n
stmt_part_mapped g f n = refl

node_mapped : {X Y : Type 0} (g : X → Y) (f : Y → Bool) (n : AnyNode-F X) → node_ends f (map-AnyNode X Y g n) ≡ node_ends (λ x. f (g x)) n
unfolding node_ends
node_mapped g f (nodes.Expr n) = expr_mapped g f n
node_mapped g f (nodes.MemberExpr n) = member_mapped g f n n.prop
node_mapped g f (nodes.ExprPart n) = expr_part_mapped g f n
node_mapped g f (nodes.StmtPart n) = stmt_part_mapped g f n
node_mapped g f n = refl

-- ---- whole nodes

ends_of_layer : (n : AnyNode-F AnyNode) → any_ends (roll-AnyNode n) ≡ node_ends any_ends n
unfolding any_ends
ends_of_layer n = fold-roll-AnyNode Bool (node_ends (λ known. known)) n ∙ node_mapped any_ends (λ known. known) n

pub any_ends_layer : (n : AnyNode) → any_ends n ≡ node_ends any_ends (out-AnyNode n)
unfolding any_ends
any_ends_layer n = fold_out-AnyNode Bool (node_ends (λ known. known)) n ∙ node_mapped any_ends (λ known. known) (out-AnyNode n)

pub any_ends_expr : (n : Expr AnyNode) → any_ends (whole.Expr n) ≡ expr_ends any_ends n
unfolding node_ends
any_ends_expr n = ap any_ends (sym (whole.rolls-Expr n)) ∙ ends_of_layer (nodes.Expr n)

pub any_ends_member_expr : (n : MemberExpr AnyNode) → any_ends (whole.MemberExpr n) ≡ prop_ends n.prop
unfolding node_ends
any_ends_member_expr n = ap any_ends (sym (whole.rolls-MemberExpr n)) ∙ ends_of_layer (nodes.MemberExpr n)

pub any_ends_expr_part : (n : ExprPart AnyNode) → any_ends (whole.ExprPart n) ≡ expr_part_ends any_ends n
unfolding node_ends
any_ends_expr_part n = ap any_ends (sym (whole.rolls-ExprPart n)) ∙ ends_of_layer (nodes.ExprPart n)

pub any_ends_stmt_part : (n : StmtPart AnyNode) → any_ends (whole.StmtPart n) ≡ stmt_part_ends any_ends n
unfolding node_ends
any_ends_stmt_part n = ap any_ends (sym (whole.rolls-StmtPart n)) ∙ ends_of_layer (nodes.StmtPart n)

-- ---- nodes of the other sorts

other_ends : (n : AnyNode-F AnyNode)
    → ((x : Expr AnyNode) → roll-AnyNode n ≢ whole.Expr x)
    → ((x : MemberExpr AnyNode) → roll-AnyNode n ≢ whole.MemberExpr x)
    → ((x : ExprPart AnyNode) → roll-AnyNode n ≢ whole.ExprPart x)
    → ((x : StmtPart AnyNode) → roll-AnyNode n ≢ whole.StmtPart x)
    → node_ends any_ends n ≡ false
unfolding node_ends
other_ends (nodes.Expr x) never _ _ _ = absurd (never x (whole.rolls-Expr x))
other_ends (nodes.MemberExpr x) _ never _ _ = absurd (never x (whole.rolls-MemberExpr x))
other_ends (nodes.ExprPart x) _ _ never _ = absurd (never x (whole.rolls-ExprPart x))
other_ends (nodes.StmtPart x) _ _ _ never = absurd (never x (whole.rolls-StmtPart x))
other_ends n _ _ _ _ = refl

pub ends_of_other : (n : AnyNode)
    → ((x : Expr AnyNode) → n ≢ whole.Expr x)
    → ((x : MemberExpr AnyNode) → n ≢ whole.MemberExpr x)
    → ((x : ExprPart AnyNode) → n ≢ whole.ExprPart x)
    → ((x : StmtPart AnyNode) → n ≢ whole.StmtPart x)
    → false ≡ any_ends n
ends_of_other n no_expr no_member_expr no_expr_part no_stmt_part = sym (any_ends_layer n ∙ other_ends (out-AnyNode n)
    (λ x same. no_expr x (sym (roll-out-AnyNode n) ∙ same))
    (λ x same. no_member_expr x (sym (roll-out-AnyNode n) ∙ same))
    (λ x same. no_expr_part x (sym (roll-out-AnyNode n) ∙ same))
    (λ x same. no_stmt_part x (sym (roll-out-AnyNode n) ∙ same)))
