-- What a text begins with, over what links hold as something else.
use Rattle.std.proofs.Common.{◌≡◌, Bool, true, false, refl, ap, List, [], ◌∷◌, map}
use Rattle.swc_ecma_codegen_common.specs.declared.positions.Span.{Span}
use Rattle.swc_ecma_codegen_tree.specs.Links.{ExprBox}
use Rattle.swc_ecma_codegen_tree.specs.declared.links.AnyNode.{AnyNode-F, map-AnyNode}
use Rattle.swc_ecma_codegen_tree.specs.declared.links.AnyNode.TheOpen as nodes
use Rattle.swc_ecma_codegen_tree.specs.declared.exprs.Expr.{Expr}
use Rattle.swc_ecma_codegen_tree.specs.declared.exprs.Expr.TheVariants as exprs
use Rattle.swc_ecma_codegen_tree.specs.declared.exprs.Callee.{Callee}
use Rattle.swc_ecma_codegen_tree.specs.declared.exprs.Callee.TheVariants as callees
use Rattle.swc_ecma_codegen_tree.specs.declared.exprs.CallExpr.{CallExpr}
use Rattle.swc_ecma_codegen_tree.specs.declared.exprs.MemberProp.{MemberProp}
use Rattle.swc_ecma_codegen_tree.specs.declared.exprs.MemberProp.TheVariants as member_props
use Rattle.swc_ecma_codegen_tree.specs.declared.exprs.OptChainBase.{OptChainBase}
use Rattle.swc_ecma_codegen_tree.specs.declared.exprs.OptChainBase.TheVariants as chain_bases
use Rattle.swc_ecma_codegen_tree.specs.declared.exprs.OptChainExpr.{OptChainExpr}
use Rattle.swc_ecma_codegen_tree.specs.declared.parts.ExprPart.{ExprPart}
use Rattle.swc_ecma_codegen_tree.specs.declared.parts.JSXPart.{JSXPart}
use Rattle.swc_ecma_codegen_tree.specs.declared.parts.JSXPart.TheVariants as jsx_parts
use Rattle.swc_ecma_codegen_tree.specs.declared.parts.ExprPart.TheVariants as expr_parts
use Rattle.swc_ecma_codegen_tree.specs.declared.parts.StmtPart.{StmtPart}
use Rattle.swc_ecma_codegen_tree.specs.declared.parts.StmtPart.TheVariants as stmt_parts
use Rattle.swc_ecma_codegen_tree.specs.declared.pats.Pat.{Pat}
use Rattle.swc_ecma_codegen_tree.specs.declared.pats.Pat.TheVariants as pats
use Rattle.swc_ecma_codegen_tree.specs.declared.pats.AssignTarget.{AssignTarget}
use Rattle.swc_ecma_codegen_tree.specs.declared.pats.AssignTarget.TheVariants as targets
use Rattle.swc_ecma_codegen_tree.specs.declared.pats.AssignTargetPat.{AssignTargetPat}
use Rattle.swc_ecma_codegen_tree.specs.declared.pats.AssignTargetPat.TheVariants as target_pats
use Rattle.swc_ecma_codegen_tree.specs.declared.pats.SimpleAssignTarget.{SimpleAssignTarget}
use Rattle.swc_ecma_codegen_tree.specs.declared.pats.SimpleAssignTarget.TheVariants as simple_targets
use Rattle.swc_ecma_codegen_grammar.specs.declared.roles.Role.{Role}
use Rattle.swc_ecma_codegen_grammar.specs.declared.roles.Role.TheVariants as roles
use Rattle.swc_ecma_codegen_syntax.specs.declared.lookahead.Beginning.{Beginning}
use Rattle.swc_ecma_codegen_syntax.specs.Beginnings.{goes_on, prop_begins, chain_begins, base_begins, callee_begins, seq_begins, expr_begins, simple_target_begins, target_pat_begins, target_begins, pat_begins, part_begins, stmt_part_begins, node_begins, jsx_part_begins, decorators_begin}
use Rattle.swc_ecma_codegen_tree.specs.declared.decls.Decorator.{Decorator}

-- ---- expressions

seq_mapped : {X Y : Type 0} (g : X → Y) (f : Y → Role → Beginning) (d : X → Role → Beginning) (h : ExprBox X → ExprBox Y) → ((x : ExprBox X) → f (h x).node.value roles.Expression ≡ d x.node.value roles.Expression) → (xs : List (ExprBox X)) →
    seq_begins f (map h xs) ≡ seq_begins d xs
unfolding seq_begins
seq_mapped g f d h same [] = refl
seq_mapped g f d h same (x ∷ xs) = ap goes_on (same x)

member_mapped : {X Y : Type 0} (g : X → Y) (f : Y → Role → Beginning) (span : Span) (obj : ExprBox X) (prop : MemberProp X) →
    node_begins f (map-AnyNode X Y g (nodes.Expr (exprs.Member (record { span = span; obj = obj; prop = prop })))) roles.Expression ≡ prop_begins (f (g obj.node.value) roles.Callee) prop
unfolding node_begins expr_begins prop_begins
member_mapped g f span obj (member_props.Ident n) = refl
member_mapped g f span obj (member_props.Computed n) = refl
member_mapped g f span obj (member_props.PrivateName n) = refl

call_mapped : {X Y : Type 0} (g : X → Y) (f : Y → Role → Beginning) (n : CallExpr X) (callee : Callee X) →
    node_begins f (map-AnyNode X Y g (nodes.Expr (exprs.Call (record n { callee = callee })))) roles.Expression ≡ callee_begins (λ x. f (g x)) callee
unfolding node_begins expr_begins callee_begins
call_mapped g f n (callees.Super s) = refl
call_mapped g f n (callees.Import s) = refl
call_mapped g f n (callees.Expr e) = refl

base_mapped : {X Y : Type 0} (g : X → Y) (f : Y → Role → Beginning) (n : OptChainExpr X) (base : OptChainBase X) →
    node_begins f (map-AnyNode X Y g (nodes.Expr (exprs.OptChain (record n { base = base })))) roles.Expression ≡ base_begins (λ x. f (g x)) n.optional base
unfolding node_begins expr_begins base_begins
base_mapped g f n (chain_bases.Member b) = refl
base_mapped g f n (chain_bases.Call b) = refl

expr_mapped : {X Y : Type 0} (g : X → Y) (f : Y → Role → Beginning) (n : Expr X) → node_begins f (map-AnyNode X Y g (nodes.Expr n)) roles.Expression ≡ expr_begins (λ x. f (g x)) n
unfolding node_begins expr_begins
expr_mapped {X} {Y} g f (exprs.Seq n) = seq_mapped {X = X} {Y = Y} g f (λ x. f (g x)) _ (λ x. refl) n.exprs.items
expr_mapped g f (exprs.Member n) = member_mapped g f n.span n.obj n.prop
expr_mapped g f (exprs.Call n) = call_mapped g f n n.callee
expr_mapped g f (exprs.OptChain n) = base_mapped g f n n.base
expr_mapped g f n = refl

callee_mapped : {X Y : Type 0} (g : X → Y) (f : Y → Role → Beginning) (n : Expr X) → node_begins f (map-AnyNode X Y g (nodes.Expr n)) roles.Callee ≡ expr_begins (λ x. f (g x)) n
unfolding node_begins
callee_mapped g f n = expr_mapped g f n

chain_member_mapped : {X Y : Type 0} (g : X → Y) (f : Y → Role → Beginning) (optional : Bool) (span : Span) (obj : ExprBox X) (prop : MemberProp X) →
    node_begins f (map-AnyNode X Y g (nodes.MemberExpr (record { span = span; obj = obj; prop = prop }))) (roles.ChainMember optional) ≡ chain_begins optional (f (g obj.node.value) roles.Callee) prop
unfolding node_begins chain_begins prop_begins
chain_member_mapped g f true span obj (member_props.Ident n) = refl
chain_member_mapped g f true span obj (member_props.Computed n) = refl
chain_member_mapped g f true span obj (member_props.PrivateName n) = refl
chain_member_mapped g f false span obj (member_props.Ident n) = refl
chain_member_mapped g f false span obj (member_props.Computed n) = refl
chain_member_mapped g f false span obj (member_props.PrivateName n) = refl

-- ---- targets and patterns

abbrev as_target : {X : Type 0} → AssignTarget X → AnyNode-F X
as_target n = nodes.ExprPart (expr_parts.AssignTarget n)

member_target_mapped : {X Y : Type 0} (g : X → Y) (f : Y → Role → Beginning) (span : Span) (obj : ExprBox X) (prop : MemberProp X) →
    node_begins f (map-AnyNode X Y g (as_target (targets.Simple (simple_targets.Member (record { span = span; obj = obj; prop = prop }))))) roles.AssignmentTarget ≡ prop_begins (f (g obj.node.value) roles.Callee) prop
unfolding node_begins part_begins target_begins simple_target_begins prop_begins
member_target_mapped g f span obj (member_props.Ident n) = refl
member_target_mapped g f span obj (member_props.Computed n) = refl
member_target_mapped g f span obj (member_props.PrivateName n) = refl

simple_target_mapped : {X Y : Type 0} (g : X → Y) (f : Y → Role → Beginning) (n : SimpleAssignTarget X) → node_begins f (map-AnyNode X Y g (as_target (targets.Simple n))) roles.AssignmentTarget ≡ simple_target_begins (λ x. f (g x)) n
unfolding node_begins part_begins target_begins simple_target_begins
simple_target_mapped g f (simple_targets.Ident n) = refl
simple_target_mapped g f (simple_targets.Member n) = member_target_mapped g f n.span n.obj n.prop
simple_target_mapped g f n = refl

target_pat_mapped : {X Y : Type 0} (g : X → Y) (f : Y → Role → Beginning) (n : AssignTargetPat X) → node_begins f (map-AnyNode X Y g (as_target (targets.Pat n))) roles.AssignmentTarget ≡ target_pat_begins n
unfolding node_begins part_begins target_begins target_pat_begins
target_pat_mapped g f (target_pats.Array n) = refl
target_pat_mapped g f (target_pats.Object n) = refl
target_pat_mapped g f (target_pats.Invalid n) = refl

target_mapped : {X Y : Type 0} (g : X → Y) (f : Y → Role → Beginning) (n : AssignTarget X) → node_begins f (map-AnyNode X Y g (as_target n)) roles.AssignmentTarget ≡ target_begins (λ x. f (g x)) n
unfolding target_begins
target_mapped g f (targets.Simple n) = simple_target_mapped g f n
target_mapped g f (targets.Pat n) = target_pat_mapped g f n

pat_mapped : {X Y : Type 0} (g : X → Y) (f : Y → Role → Beginning) (n : Pat X) → node_begins f (map-AnyNode X Y g (nodes.ExprPart (expr_parts.Pat n))) roles.Pattern ≡ pat_begins (λ x. f (g x)) n
unfolding node_begins part_begins pat_begins
pat_mapped g f (pats.Ident n) = refl
pat_mapped g f n = refl

part_mapped : {X Y : Type 0} (g : X → Y) (f : Y → Role → Beginning) (n : ExprPart X) (role : Role) → node_begins f (map-AnyNode X Y g (nodes.ExprPart n)) role ≡ part_begins (λ x. f (g x)) n role
unfolding node_begins part_begins
part_mapped g f (expr_parts.Pat n) roles.Pattern = pat_mapped g f n
part_mapped g f (expr_parts.AssignTarget n) roles.AssignmentTarget = target_mapped g f n
part_mapped g f n role = refl

decorators_mapped : {X Y : Type 0} (h : Decorator X → Decorator Y) (xs : List (Decorator X)) → decorators_begin (map h xs) ≡ decorators_begin xs
unfolding decorators_begin
decorators_mapped h [] = refl
decorators_mapped h (x ∷ xs) = refl

stmt_part_mapped : {X Y : Type 0} (g : X → Y) (f : Y → Role → Beginning) (n : StmtPart X) (role : Role) → node_begins f (map-AnyNode X Y g (nodes.StmtPart n)) role ≡ stmt_part_begins n role
unfolding node_begins stmt_part_begins
stmt_part_mapped g f (stmt_parts.Function n) roles.FunctionHead = refl
stmt_part_mapped {X} {Y} g f (stmt_parts.Class n) roles.ClassHead = decorators_mapped {X = X} {Y = Y} _ n.value.decorators.items
stmt_part_mapped g f (stmt_parts.Class n) roles.ClassWord = refl
stmt_part_mapped g f n role = refl

jsx_part_mapped : {X Y : Type 0} (g : X → Y) (n : JSXPart X) (role : Role) (f : Y → Role → Beginning) → node_begins f (map-AnyNode X Y g (nodes.JSXPart n)) role ≡ jsx_part_begins n role
unfolding node_begins jsx_part_begins
jsx_part_mapped g (jsx_parts.JSXElement n) roles.Element f = refl
jsx_part_mapped g (jsx_parts.JSXFragment n) roles.Element f = refl
jsx_part_mapped g n role f = refl

pub begins_mapped : {X Y : Type 0} (g : X → Y) (f : Y → Role → Beginning) (n : AnyNode-F X) (role : Role) → node_begins f (map-AnyNode X Y g n) role ≡ node_begins (λ x. f (g x)) n role
unfolding node_begins
begins_mapped g f (nodes.Expr n) roles.Expression = expr_mapped g f n
begins_mapped g f (nodes.Expr n) roles.Callee = callee_mapped g f n
begins_mapped g f (nodes.MemberExpr n) (roles.ChainMember optional) = chain_member_mapped g f optional n.span n.obj n.prop
begins_mapped g f (nodes.ExprPart n) role = part_mapped g f n role
begins_mapped g f (nodes.JSXPart n) role = jsx_part_mapped g n role f
begins_mapped g f (nodes.StmtPart n) role = stmt_part_mapped g f n role
begins_mapped g f n role = refl
