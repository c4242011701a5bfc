-- What the text of each node begins with: of `a.b + c` what that of `a` begins with. `f` says it of what a link holds, in its role.
use Rattle.std.specs.Prelude.{ℕ, Bool, true, false, List, [], ◌∷◌, codes, string_bytes, bytes_eq, if◌then◌else◌}
use Rattle.swc_ecma_codegen_tree.specs.Links.{ExprBox}
use Rattle.swc_ecma_codegen_tree.specs.declared.links.AnyNode.{AnyNode-F}
use Rattle.swc_ecma_codegen_tree.specs.declared.links.AnyNode.TheOpen as nodes
use Rattle.swc_ecma_codegen_tree.specs.declared.decls.Decorator.{Decorator}
use Rattle.swc_ecma_codegen_tree.specs.declared.exprs.Expr.{Expr}
use Rattle.swc_ecma_codegen_tree.specs.declared.exprs.Expr.TheVariants as exprs
use Rattle.swc_ecma_codegen_tree.specs.declared.exprs.Callee.{Callee}
use Rattle.swc_ecma_codegen_tree.specs.declared.exprs.Callee.TheVariants as callees
use Rattle.swc_ecma_codegen_tree.specs.declared.exprs.MemberProp.{MemberProp}
use Rattle.swc_ecma_codegen_tree.specs.declared.exprs.MemberProp.TheVariants as member_props
use Rattle.swc_ecma_codegen_tree.specs.declared.exprs.OptChainBase.{OptChainBase}
use Rattle.swc_ecma_codegen_tree.specs.declared.exprs.OptChainBase.TheVariants as chain_bases
use Rattle.swc_ecma_codegen_tree.specs.declared.parts.ExprPart.{ExprPart}
use Rattle.swc_ecma_codegen_tree.specs.declared.parts.JSXPart.{JSXPart}
use Rattle.swc_ecma_codegen_tree.specs.declared.parts.JSXPart.TheVariants as jsx_parts
use Rattle.swc_ecma_codegen_tree.specs.declared.parts.ExprPart.TheVariants as expr_parts
use Rattle.swc_ecma_codegen_tree.specs.declared.parts.StmtPart.{StmtPart}
use Rattle.swc_ecma_codegen_tree.specs.declared.parts.StmtPart.TheVariants as stmt_parts
use Rattle.swc_ecma_codegen_tree.specs.declared.pats.Pat.{Pat}
use Rattle.swc_ecma_codegen_tree.specs.declared.pats.Pat.TheVariants as pats
use Rattle.swc_ecma_codegen_tree.specs.declared.pats.AssignTarget.{AssignTarget}
use Rattle.swc_ecma_codegen_tree.specs.declared.pats.AssignTarget.TheVariants as targets
use Rattle.swc_ecma_codegen_tree.specs.declared.pats.AssignTargetPat.{AssignTargetPat}
use Rattle.swc_ecma_codegen_tree.specs.declared.pats.AssignTargetPat.TheVariants as target_pats
use Rattle.swc_ecma_codegen_tree.specs.declared.pats.SimpleAssignTarget.{SimpleAssignTarget}
use Rattle.swc_ecma_codegen_tree.specs.declared.pats.SimpleAssignTarget.TheVariants as simple_targets
use Rattle.swc_ecma_codegen_grammar.specs.declared.roles.Role.{Role}
use Rattle.swc_ecma_codegen_grammar.specs.declared.roles.Role.TheVariants as roles
use Rattle.swc_ecma_codegen_syntax.specs.declared.lookahead.Beginning.{Beginning}
use Rattle.swc_ecma_codegen_syntax.specs.declared.lookahead.Beginning.TheVariants as begins

-- a name
unfoldable pub name_begins : List ℕ → Beginning
name_begins text = if bytes_eq text (codes "let") then begins.LetAlone else (if bytes_eq text (codes "async") then begins.AsyncAlone else begins.Other)

-- what begins with another text, and goes on with a token that is no `[`
unfoldable pub goes_on : Beginning → Beginning
goes_on begins.LetAlone = begins.LetOther
goes_on begins.AsyncAlone = begins.Other
goes_on b = b

-- with `[`
unfoldable pub goes_on_in_brackets : Beginning → Beginning
goes_on_in_brackets begins.LetAlone = begins.LetBracket
goes_on_in_brackets begins.AsyncAlone = begins.Other
goes_on_in_brackets b = b

-- with [no LineTerminator here], as `let++`
unfoldable pub goes_on_in_line : Beginning → Beginning
goes_on_in_line begins.LetAlone = begins.Other
goes_on_in_line begins.AsyncAlone = begins.Other
goes_on_in_line b = b

-- ---- expressions

unfoldable pub prop_begins : {X : Type 0} → Beginning → MemberProp X → Beginning
prop_begins b (member_props.Computed n) = goes_on_in_brackets b
prop_begins b n = goes_on b

-- `?.` stands before the property, or not
unfoldable pub chain_begins : {X : Type 0} → Bool → Beginning → MemberProp X → Beginning
chain_begins true b n = goes_on b
chain_begins false b n = prop_begins b n

unfoldable pub base_begins : {X : Type 0} → (X → Role → Beginning) → Bool → OptChainBase X → Beginning
base_begins f optional (chain_bases.Member n) = f n.node.value (roles.ChainMember optional)
base_begins f optional (chain_bases.Call n) = f n.node.value (roles.ChainCall optional)

unfoldable pub callee_begins : {X : Type 0} → (X → Role → Beginning) → Callee X → Beginning
callee_begins f (callees.Expr n) = goes_on (f n.node.value roles.Callee)
callee_begins f n = begins.Other

unfoldable pub seq_begins : {X : Type 0} → (X → Role → Beginning) → List (ExprBox X) → Beginning
seq_begins f [] = begins.Other
seq_begins f (x ∷ xs) = goes_on (f x.node.value roles.Expression)

unfoldable pub update_begins : Bool → Beginning → Beginning
update_begins true b = begins.Other
update_begins false b = goes_on_in_line b

-- a class: its decorators, or the word
unfoldable pub behind_decorators : Beginning → Beginning → Beginning
behind_decorators begins.At word = begins.At
behind_decorators b word = word

unfoldable pub expr_begins : {X : Type 0} → (X → Role → Beginning) → Expr X → Beginning
expr_begins f (exprs.Ident n) = name_begins (string_bytes n.sym)
expr_begins f (exprs.Object n) = begins.Brace
expr_begins f (exprs.Bin n) = goes_on (f n.left.node.value roles.Expression)
expr_begins f (exprs.Cond n) = goes_on (f n.test.node.value roles.Expression)
expr_begins f (exprs.Seq n) = seq_begins f n.exprs.items
expr_begins f (exprs.Assign n) = goes_on (f n.left.node.value roles.AssignmentTarget)
expr_begins f (exprs.Update n) = update_begins n.prefix (f n.arg.node.value roles.Expression)
expr_begins f (exprs.Member n) = prop_begins (f n.obj.node.value roles.Callee) n.prop
expr_begins f (exprs.Call n) = callee_begins f n.callee
expr_begins f (exprs.TaggedTpl n) = goes_on (f n.tag.node.value roles.Callee)
expr_begins f (exprs.OptChain n) = base_begins f n.optional n.base
expr_begins f (exprs.Tpl n) = f n.node.value roles.Template
expr_begins f (exprs.Fn n) = f n.function.node.value roles.FunctionHead
expr_begins f (exprs.Class n) = behind_decorators (f n.class.node.value roles.ClassHead) (f n.class.node.value roles.ClassWord)
expr_begins f (exprs.JSXElement n) = f n.node.value roles.Element
expr_begins f (exprs.JSXFragment n) = f n.node.value roles.Element
expr_begins f n = begins.Other

-- ---- targets and patterns

unfoldable pub simple_target_begins : {X : Type 0} → (X → Role → Beginning) → SimpleAssignTarget X → Beginning
simple_target_begins f (simple_targets.Ident n) = name_begins (string_bytes n.id.sym)
simple_target_begins f (simple_targets.Member n) = prop_begins (f n.obj.node.value roles.Callee) n.prop
simple_target_begins f n = begins.Other

unfoldable pub target_pat_begins : {X : Type 0} → AssignTargetPat X → Beginning
target_pat_begins (target_pats.Object n) = begins.Brace
target_pat_begins n = begins.Other

unfoldable pub target_begins : {X : Type 0} → (X → Role → Beginning) → AssignTarget X → Beginning
target_begins f (targets.Simple n) = simple_target_begins f n
target_begins f (targets.Pat n) = target_pat_begins n

unfoldable pub pat_begins : {X : Type 0} → (X → Role → Beginning) → Pat X → Beginning
pat_begins f (pats.Ident n) = name_begins (string_bytes n.id.sym)
pat_begins f (pats.Object n) = begins.Brace
pat_begins f (pats.Assign n) = goes_on (f n.left.node.value roles.Pattern)
pat_begins f (pats.Expr n) = f n.node.value roles.Expression
pat_begins f n = begins.Other

-- ---- JSX

unfoldable pub jsx_part_begins : {X : Type 0} → JSXPart X → Role → Beginning
jsx_part_begins (jsx_parts.JSXElement n) roles.Element = begins.Other
jsx_part_begins (jsx_parts.JSXFragment n) roles.Element = begins.Other
jsx_part_begins n role = begins.Nothing

-- ---- whole nodes

unfoldable pub part_begins : {X : Type 0} → (X → Role → Beginning) → ExprPart X → Role → Beginning
part_begins f (expr_parts.Pat n) roles.Pattern = pat_begins f n
part_begins f (expr_parts.OptCall n) (roles.ChainCall optional) = goes_on (f n.callee.node.value roles.Callee)
part_begins f (expr_parts.AssignTarget n) roles.AssignmentTarget = target_begins f n
part_begins f (expr_parts.Tpl n) roles.Template = begins.Other
part_begins f n role = begins.Nothing

unfoldable pub function_begins : Bool → Beginning
function_begins true = begins.AsyncFunction
function_begins false = begins.Function

unfoldable pub decorators_begin : {X : Type 0} → List (Decorator X) → Beginning
decorators_begin [] = begins.Nothing
decorators_begin (x ∷ xs) = begins.At

unfoldable pub stmt_part_begins : {X : Type 0} → StmtPart X → Role → Beginning
stmt_part_begins (stmt_parts.Function n) roles.FunctionHead = function_begins n.value.is_async
stmt_part_begins (stmt_parts.Class n) roles.ClassHead = decorators_begin n.value.decorators.items
stmt_part_begins (stmt_parts.Class n) roles.ClassWord = begins.Class
stmt_part_begins n role = begins.Nothing

unfoldable pub node_begins : {X : Type 0} → (X → Role → Beginning) → AnyNode-F X → Role → Beginning
node_begins f (nodes.Expr n) roles.Expression = expr_begins f n
node_begins f (nodes.Expr n) roles.Callee = expr_begins f n
node_begins f (nodes.MemberExpr n) (roles.ChainMember optional) = chain_begins optional (f n.obj.node.value roles.Callee) n.prop
node_begins f (nodes.ExprPart n) role = part_begins f n role
node_begins f (nodes.JSXPart n) role = jsx_part_begins n role
node_begins f (nodes.StmtPart n) role = stmt_part_begins n role
node_begins f n role = begins.Nothing
