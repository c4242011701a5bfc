-- What a whole node is read as, by its sort.
use Rattle.std.proofs.Common.{◌≡◌, Bool, true, false, refl, sym, ◌∙◌, ap, codes, Option, Some, None}
use Rattle.swc_ecma_codegen_tree.specs.declared.links.AnyNode.{AnyNode, AnyNode-F, map-AnyNode, roll-AnyNode, out-AnyNode}
use Rattle.swc_ecma_codegen_tree.specs.declared.links.AnyNode.TheOpen as nodes
use Rattle.swc_ecma_codegen_tree.specs.declared.links.AnyNode.TheViews.{roll-out-AnyNode}
use Rattle.swc_ecma_codegen_tree.specs.declared.links.AnyNode.TheVariants as whole
use Rattle.swc_ecma_codegen_tree.specs.declared.links.AnyNode.TheFolds.{fold-roll-AnyNode}
use Rattle.swc_ecma_codegen_tree.specs.Links.{ExprBox, TsTypeAnnBox}
use Rattle.swc_ecma_codegen_common.specs.declared.positions.Span.{Span}
use Rattle.swc_ecma_codegen_tree.specs.declared.exprs.Expr.{Expr}
use Rattle.swc_ecma_codegen_tree.specs.declared.exprs.Expr.TheVariants as exprs
use Rattle.swc_ecma_codegen_tree.specs.declared.exprs.MemberExpr.{MemberExpr}
use Rattle.swc_ecma_codegen_tree.specs.declared.exprs.MemberProp.{MemberProp}
use Rattle.swc_ecma_codegen_tree.specs.declared.exprs.MemberProp.TheVariants as member_props
use Rattle.swc_ecma_codegen_tree.specs.declared.exprs.SuperPropExpr.{SuperPropExpr}
use Rattle.swc_ecma_codegen_tree.specs.declared.exprs.SuperProp.{SuperProp}
use Rattle.swc_ecma_codegen_tree.specs.declared.exprs.SuperProp.TheVariants as super_props
use Rattle.swc_ecma_codegen_tree.specs.declared.exprs.OptChainExpr.{OptChainExpr}
use Rattle.swc_ecma_codegen_tree.specs.declared.exprs.OptChainBase.{OptChainBase}
use Rattle.swc_ecma_codegen_tree.specs.declared.exprs.OptChainBase.TheVariants as chain_bases
use Rattle.swc_ecma_codegen_tree.specs.declared.exprs.YieldExpr.{YieldExpr}
use Rattle.swc_ecma_codegen_tree.specs.declared.parts.ExprPart.{ExprPart}
use Rattle.swc_ecma_codegen_tree.specs.declared.parts.ExprPart.TheVariants as expr_parts
use Rattle.swc_ecma_codegen_tree.specs.declared.pats.AssignTarget.{AssignTarget}
use Rattle.swc_ecma_codegen_tree.specs.declared.pats.AssignTarget.TheVariants as targets
use Rattle.swc_ecma_codegen_tree.specs.declared.pats.SimpleAssignTarget.{SimpleAssignTarget}
use Rattle.swc_ecma_codegen_tree.specs.declared.pats.SimpleAssignTarget.TheVariants as simple_targets
use Rattle.swc_ecma_codegen_tree.specs.declared.idents.Ident.{Ident}
use Rattle.swc_ecma_codegen_tree.specs.declared.parts.JSXPart.{JSXPart}
use Rattle.swc_ecma_codegen_tree.specs.declared.parts.TsPart.{TsPart}
use Rattle.swc_ecma_codegen_tree.specs.declared.parts.StmtPart.{StmtPart}
use Rattle.swc_ecma_codegen_tree.specs.declared.parts.StmtPart.TheVariants as stmt_parts
use Rattle.swc_ecma_codegen_tree.specs.declared.stmts.Stmt.{Stmt}
use Rattle.swc_ecma_codegen_grammar.specs.Phrases.{Phrase, ◌>◌, mark, some_listed}
use Rattle.swc_ecma_codegen_grammar.specs.declared.roles.Role.{Role}
use Rattle.swc_ecma_codegen_grammar.specs.declared.roles.Role.TheVariants.{Expression, Statement, MemberExpression, ChainMember, AssignmentTarget, Pattern, PlainParameter, PropertyName, ObjectLiteral, Function, Block, Declaration, VariableDeclaration, Callee, ChainCall, Template, TaggedTemplate, ClassHead, ClassTail, Member, MethodDecorators, MethodTail, AccessorTail, FieldValue, ModuleDeclaration, ExportedHead, ExportedTail}
use Rattle.swc_ecma_codegen_grammar.specs.ExprPhrases.{expr, expr_at, this_expr, unary_expr, update_expr, bin_expr, member_prop, member_expr, super_prop, super_prop_expr, chain_mark, chain_prop, chain_member, chain_base, opt_chain_expr, meta_prop_expr, assign_expr, yield_arg, yield_expr, await_expr, cond_expr, seq_expr, paren_expr, expr_in, yield_rest}
use Rattle.swc_ecma_codegen_grammar.specs.KeyPhrases.{computed_prop_name}
use Rattle.swc_ecma_codegen_grammar.specs.AnnotationPhrases.{annotation}
use Rattle.swc_ecma_codegen_grammar.specs.NamePhrases.{binding_ident}
use Rattle.swc_ecma_codegen_grammar.specs.AssignPhrases.{assign_target, simple_assign_target}
use Rattle.swc_ecma_codegen_grammar.specs.PartPhrases.{expr_part, stmt_part}
use Rattle.swc_ecma_codegen_grammar.specs.ClassPhrases.{class_expr, class_word}
use Rattle.swc_ecma_codegen_grammar.specs.TsExprPhrases.{ts_as_expr, ts_const_assertion, ts_satisfies_expr, ts_non_null_expr, ts_type_assertion, ts_instantiation}
use Rattle.swc_ecma_codegen_grammar.specs.FunctionPhrases.{function_head, method_head, fn_expr}
use Rattle.swc_ecma_codegen_grammar.specs.TreePhrases.{is_sequence, field_value, node_phrase, phrase}
use Rattle.swc_ecma_codegen_grammar.proofs.Mapped.{list_mapped}
use Rattle.swc_ecma_codegen_grammar.proofs.MappedFunctions.{function_part_mapped, block_mapped, arrow_expr_mapped}
use Rattle.swc_ecma_codegen_grammar.proofs.MappedStmts.{stmt_mapped, decl_mapped, var_decl_mapped}
use Rattle.swc_ecma_codegen_grammar.proofs.MappedPats.{pat_mapped, plain_mapped, target_pat_mapped}
use Rattle.swc_ecma_codegen_grammar.proofs.MappedJsx.{jsx_part_mapped}
use Rattle.swc_ecma_codegen_grammar.proofs.MappedKeys.{prop_name_mapped}
use Rattle.swc_ecma_codegen_grammar.proofs.MappedProps.{object_lit_mapped}
use Rattle.swc_ecma_codegen_grammar.proofs.MappedClasses.{method_decorators_mapped, method_tail_mapped, accessor_tail_mapped, class_head_mapped, class_tail_mapped, class_member_mapped}
use Rattle.swc_ecma_codegen_grammar.proofs.MappedModules.{module_decl_mapped, exported_head_mapped, exported_tail_mapped}
use Rattle.swc_ecma_codegen_grammar.proofs.MappedTypes.{ts_part_mapped}
use Rattle.swc_ecma_codegen_grammar.proofs.MappedTemplates.{tpl_mapped, tagged_mapped, tagged_tpl_mapped}
use Rattle.swc_ecma_codegen_grammar.proofs.MappedCalls.{array_lit_mapped, call_mapped, new_mapped, chain_call_mapped}

-- ---- a production sees what links hold through f alone

super_mapped : {X Y : Type 0} (g : X → Y) (f : Y → Role → Phrase) (n : SuperPropExpr X) (prop : SuperProp X) → node_phrase f (map-AnyNode X Y g (nodes.Expr (exprs.SuperProp (record n { prop = prop })))) Expression ≡ super_prop_expr (λ x. f (g x)) (record n { prop = prop })
unfolding node_phrase expr super_prop_expr super_prop computed_prop_name
super_mapped g f n (super_props.Ident p) = refl
super_mapped g f n (super_props.Computed p) = refl

chain_mapped : {X Y : Type 0} (g : X → Y) (f : Y → Role → Phrase) (n : OptChainExpr X) (base : OptChainBase X) → node_phrase f (map-AnyNode X Y g (nodes.Expr (exprs.OptChain (record n { base = base })))) Expression ≡ opt_chain_expr (λ x. f (g x)) (record n { base = base })
unfolding node_phrase expr opt_chain_expr chain_base
chain_mapped g f n (chain_bases.Member b) = refl
chain_mapped g f n (chain_bases.Call b) = refl

yield_mapped : {X Y : Type 0} (g : X → Y) (f : Y → Role → Phrase) (n : YieldExpr X) (delegate : Bool) (arg : Option (ExprBox X)) → node_phrase f (map-AnyNode X Y g (nodes.Expr (exprs.Yield (record n { delegate = delegate; arg = arg })))) Expression ≡ yield_expr (λ x. f (g x)) (record n { delegate = delegate; arg = arg })
unfolding node_phrase expr yield_expr yield_rest yield_arg
yield_mapped g f n true None = refl
yield_mapped g f n true (Some x) = refl
yield_mapped g f n false None = refl
yield_mapped g f n false (Some x) = refl

member_mapped : {X Y : Type 0} (g : X → Y) (f : Y → Role → Phrase) (span : Span) (obj : ExprBox X) (prop : MemberProp X) → node_phrase f (map-AnyNode X Y g (nodes.MemberExpr (record { span = span; obj = obj; prop = prop }))) MemberExpression ≡ member_expr (λ x. f (g x)) (record { span = span; obj = obj; prop = prop })
unfolding node_phrase member_expr member_prop computed_prop_name
member_mapped g f span obj (member_props.Ident n) = refl
member_mapped g f span obj (member_props.Computed n) = refl
member_mapped g f span obj (member_props.PrivateName n) = refl

expr_mapped : {X Y : Type 0} (g : X → Y) (f : Y → Role → Phrase) (n : Expr X) → node_phrase f (map-AnyNode X Y g (nodes.Expr n)) Expression ≡ expr (λ x. f (g x)) n
unfolding node_phrase expr this_expr unary_expr update_expr bin_expr assign_expr meta_prop_expr await_expr cond_expr seq_expr paren_expr fn_expr class_expr ts_as_expr ts_const_assertion ts_satisfies_expr ts_non_null_expr ts_type_assertion ts_instantiation expr_in expr_part
expr_mapped {X} g f (exprs.Seq n) = ap (some_listed (codes ",")) (list_mapped {A = ExprBox X} _ (expr_at f) (expr_at (λ x. f (g x))) (λ x. refl) n.exprs.items)
expr_mapped g f (exprs.Member n) = member_mapped g f n.span n.obj n.prop
expr_mapped g f (exprs.SuperProp n) = super_mapped g f n n.prop
expr_mapped g f (exprs.OptChain n) = chain_mapped g f n n.base
expr_mapped g f (exprs.Yield n) = yield_mapped g f n n.delegate n.arg
expr_mapped g f (exprs.Arrow n) = arrow_expr_mapped g f n
expr_mapped g f (exprs.Array n) = array_lit_mapped g f n
expr_mapped g f (exprs.Object n) = object_lit_mapped g f n
expr_mapped g f (exprs.Call n) = call_mapped g f n
expr_mapped g f (exprs.New n) = new_mapped g f false n
expr_mapped g f (exprs.TaggedTpl n) = tagged_tpl_mapped g f n
expr_mapped g f n = refl

-- a callee is another expression, but for `new A()`
callee_mapped : {X Y : Type 0} (g : X → Y) (f : Y → Role → Phrase) (n : Expr X) → node_phrase f (map-AnyNode X Y g (nodes.Expr n)) Callee ≡ expr_in (λ x. f (g x)) true n
unfolding node_phrase expr_in
callee_mapped g f (exprs.New n) = new_mapped g f true n
callee_mapped g f n = expr_mapped g f n

-- the value of a field is an expression, in parentheses where it is a sequence
field_value_mapped : {X Y : Type 0} (g : X → Y) (f : Y → Role → Phrase) (n : Expr X) → node_phrase f (map-AnyNode X Y g (nodes.Expr n)) FieldValue ≡ field_value (λ x. f (g x)) n
unfolding node_phrase field_value is_sequence
field_value_mapped g f (exprs.Seq n) = ap (λ p. mark (codes "(") > p > mark (codes ")")) (expr_mapped g f (exprs.Seq n))
field_value_mapped g f n = expr_mapped g f n

chain_member_mapped : {X Y : Type 0} (g : X → Y) (f : Y → Role → Phrase) (span : Span) (obj : ExprBox X) (prop : MemberProp X) (optional : Bool) → node_phrase f (map-AnyNode X Y g (nodes.MemberExpr (record { span = span; obj = obj; prop = prop }))) (ChainMember optional) ≡ chain_member (λ x. f (g x)) optional (record { span = span; obj = obj; prop = prop })
unfolding node_phrase chain_member chain_mark chain_prop computed_prop_name
chain_member_mapped g f span obj (member_props.Ident n) true = refl
chain_member_mapped g f span obj (member_props.Ident n) false = refl
chain_member_mapped g f span obj (member_props.Computed n) true = refl
chain_member_mapped g f span obj (member_props.Computed n) false = refl
chain_member_mapped g f span obj (member_props.PrivateName n) true = refl
chain_member_mapped g f span obj (member_props.PrivateName n) false = refl

-- a target of an assignment, as a part that a link holds
abbrev as_target : {X : Type 0} → SimpleAssignTarget X → AnyNode-F X
as_target n = nodes.ExprPart (expr_parts.AssignTarget (targets.Simple n))

binding_target_mapped : {X Y : Type 0} (g : X → Y) (f : Y → Role → Phrase) (id : Ident) (type_ann : Option (TsTypeAnnBox X)) → node_phrase f (map-AnyNode X Y g (as_target (simple_targets.Ident (record { id = id; type_ann = type_ann })))) AssignmentTarget ≡ binding_ident (λ x. f (g x)) (record { id = id; type_ann = type_ann })
unfolding node_phrase expr_part assign_target simple_assign_target binding_ident annotation
binding_target_mapped g f id None = refl
binding_target_mapped g f id (Some x) = refl

super_target_mapped : {X Y : Type 0} (g : X → Y) (f : Y → Role → Phrase) (n : SuperPropExpr X) (prop : SuperProp X) → node_phrase f (map-AnyNode X Y g (as_target (simple_targets.SuperProp (record n { prop = prop })))) AssignmentTarget ≡ super_prop_expr (λ x. f (g x)) (record n { prop = prop })
unfolding node_phrase expr_part assign_target simple_assign_target super_prop_expr super_prop computed_prop_name
super_target_mapped g f n (super_props.Ident p) = refl
super_target_mapped g f n (super_props.Computed p) = refl

chain_target_mapped : {X Y : Type 0} (g : X → Y) (f : Y → Role → Phrase) (n : OptChainExpr X) (base : OptChainBase X) → node_phrase f (map-AnyNode X Y g (as_target (simple_targets.OptChain (record n { base = base })))) AssignmentTarget ≡ opt_chain_expr (λ x. f (g x)) (record n { base = base })
unfolding node_phrase expr_part assign_target simple_assign_target opt_chain_expr chain_base
chain_target_mapped g f n (chain_bases.Member b) = refl
chain_target_mapped g f n (chain_bases.Call b) = refl

simple_target_mapped : {X Y : Type 0} (g : X → Y) (f : Y → Role → Phrase) (n : SimpleAssignTarget X) → node_phrase f (map-AnyNode X Y g (as_target n)) AssignmentTarget ≡ simple_assign_target (λ x. f (g x)) n
unfolding node_phrase expr_part assign_target simple_assign_target paren_expr ts_as_expr ts_satisfies_expr ts_non_null_expr ts_type_assertion ts_instantiation
simple_target_mapped g f (simple_targets.Ident n) = binding_target_mapped g f n.id n.type_ann
simple_target_mapped g f (simple_targets.Member n) = member_mapped g f n.span n.obj n.prop
simple_target_mapped g f (simple_targets.SuperProp n) = super_target_mapped g f n n.prop
simple_target_mapped g f (simple_targets.OptChain n) = chain_target_mapped g f n n.base
simple_target_mapped g f n = refl

target_mapped : {X Y : Type 0} (g : X → Y) (f : Y → Role → Phrase) (n : AssignTarget X) → node_phrase f (map-AnyNode X Y g (nodes.ExprPart (expr_parts.AssignTarget n))) AssignmentTarget ≡ assign_target (λ x. f (g x)) n
unfolding node_phrase expr_part assign_target
target_mapped g f (targets.Simple n) = simple_target_mapped g f n
target_mapped g f (targets.Pat n) = target_pat_mapped g f n

part_mapped : {X Y : Type 0} (g : X → Y) (f : Y → Role → Phrase) (n : ExprPart X) (role : Role) → node_phrase f (map-AnyNode X Y g (nodes.ExprPart n)) role ≡ expr_part (λ x. f (g x)) n role
unfolding node_phrase expr_part
part_mapped g f (expr_parts.Pat n) Pattern = pat_mapped g f n
part_mapped g f (expr_parts.Pat n) PlainParameter = plain_mapped g f n
part_mapped g f (expr_parts.ObjectLit n) ObjectLiteral = object_lit_mapped g f n
part_mapped g f (expr_parts.PropName n) PropertyName = prop_name_mapped g f n
part_mapped g f (expr_parts.OptCall n) (ChainCall optional) = chain_call_mapped g f optional n
part_mapped g f (expr_parts.AssignTarget n) AssignmentTarget = target_mapped g f n
part_mapped g f (expr_parts.Tpl n) Template = tpl_mapped g f n
part_mapped g f (expr_parts.Tpl n) TaggedTemplate = tagged_mapped g f n
part_mapped g f n role = refl

stmt_part_mapped : {X Y : Type 0} (g : X → Y) (f : Y → Role → Phrase) (n : StmtPart X) (role : Role) → node_phrase f (map-AnyNode X Y g (nodes.StmtPart n)) role ≡ stmt_part (λ x. f (g x)) n role
unfolding node_phrase stmt_part function_head method_head class_word
stmt_part_mapped g f (stmt_parts.Function n) Function = function_part_mapped g f n
stmt_part_mapped g f (stmt_parts.Function n) MethodDecorators = method_decorators_mapped g f n
stmt_part_mapped g f (stmt_parts.Function n) MethodTail = method_tail_mapped g f n
stmt_part_mapped g f (stmt_parts.Function n) AccessorTail = accessor_tail_mapped g f n
stmt_part_mapped g f (stmt_parts.Class n) ClassHead = class_head_mapped g f n
stmt_part_mapped g f (stmt_parts.Class n) ClassTail = class_tail_mapped g f n
stmt_part_mapped g f (stmt_parts.ClassMember n) Member = class_member_mapped g f n
stmt_part_mapped g f (stmt_parts.BlockStmt n) Block = block_mapped g f n
stmt_part_mapped g f (stmt_parts.Decl n) Declaration = decl_mapped g f n
stmt_part_mapped g f (stmt_parts.Decl n) ExportedHead = exported_head_mapped g f n
stmt_part_mapped g f (stmt_parts.Decl n) ExportedTail = exported_tail_mapped g f n
stmt_part_mapped g f (stmt_parts.ModuleDecl n) ModuleDeclaration = module_decl_mapped g f n
stmt_part_mapped g f (stmt_parts.VarDecl n) VariableDeclaration = var_decl_mapped g f n
stmt_part_mapped g f n role = refl

node_mapped : {X Y : Type 0} (g : X → Y) (f : Y → Role → Phrase) (n : AnyNode-F X) (role : Role) → node_phrase f (map-AnyNode X Y g n) role ≡ node_phrase (λ x. f (g x)) n role
unfolding node_phrase
node_mapped g f (nodes.Expr n) Expression = expr_mapped g f n
node_mapped g f (nodes.Expr n) Callee = callee_mapped g f n
node_mapped g f (nodes.Expr n) FieldValue = field_value_mapped g f n
node_mapped g f (nodes.Stmt n) Statement = stmt_mapped g f n
node_mapped g f (nodes.MemberExpr n) MemberExpression = member_mapped g f n.span n.obj n.prop
node_mapped g f (nodes.MemberExpr n) (ChainMember optional) = chain_member_mapped g f n.span n.obj n.prop optional
node_mapped g f (nodes.ExprPart n) role = part_mapped g f n role
node_mapped g f (nodes.StmtPart n) role = stmt_part_mapped g f n role
node_mapped g f (nodes.JSXPart n) role = jsx_part_mapped g f n role
node_mapped g f (nodes.TsPart n) role = ts_part_mapped g f n role
node_mapped g f n role = refl

-- ---- whole nodes

phrase_of_layer : (n : AnyNode-F AnyNode) (role : Role) → phrase (roll-AnyNode n) role ≡ node_phrase phrase n role
unfolding phrase
phrase_of_layer n role = ap (λ f. f role) (fold-roll-AnyNode (Role → Phrase) (node_phrase (λ known. known)) n) ∙ node_mapped phrase (λ known. known) n role

-- what links hold may come with more
pub phrase_of : {X : Type 0} (g : X → AnyNode) (n : AnyNode-F X) (role : Role) → phrase (roll-AnyNode (map-AnyNode X AnyNode g n)) role ≡ node_phrase (λ x. phrase (g x)) n role
phrase_of {X} g n role = phrase_of_layer (map-AnyNode X AnyNode g n) role ∙ node_mapped g phrase n role

-- by what a node is: what has no role here is Never
pub phrase_at : (n : AnyNode) (role : Role) → phrase n role ≡ node_phrase phrase (out-AnyNode n) role
phrase_at n role = ap (λ x. phrase x role) (sym (roll-out-AnyNode n)) ∙ phrase_of_layer (out-AnyNode n) role

pub phrase_expr : (n : Expr AnyNode) (role : Role) → phrase (whole.Expr n) role ≡ node_phrase phrase (nodes.Expr n) role
phrase_expr n role = ap (λ x. phrase x role) (sym (whole.rolls-Expr n)) ∙ phrase_of_layer (nodes.Expr n) role

pub phrase_stmt : (n : Stmt AnyNode) (role : Role) → phrase (whole.Stmt n) role ≡ node_phrase phrase (nodes.Stmt n) role
phrase_stmt n role = ap (λ x. phrase x role) (sym (whole.rolls-Stmt n)) ∙ phrase_of_layer (nodes.Stmt n) role

pub phrase_member_expr : (n : MemberExpr AnyNode) (role : Role) → phrase (whole.MemberExpr n) role ≡ node_phrase phrase (nodes.MemberExpr n) role
phrase_member_expr n role = ap (λ x. phrase x role) (sym (whole.rolls-MemberExpr n)) ∙ phrase_of_layer (nodes.MemberExpr n) role

pub phrase_expr_part : (n : ExprPart AnyNode) (role : Role) → phrase (whole.ExprPart n) role ≡ node_phrase phrase (nodes.ExprPart n) role
phrase_expr_part n role = ap (λ x. phrase x role) (sym (whole.rolls-ExprPart n)) ∙ phrase_of_layer (nodes.ExprPart n) role

pub phrase_stmt_part : (n : StmtPart AnyNode) (role : Role) → phrase (whole.StmtPart n) role ≡ node_phrase phrase (nodes.StmtPart n) role
phrase_stmt_part n role = ap (λ x. phrase x role) (sym (whole.rolls-StmtPart n)) ∙ phrase_of_layer (nodes.StmtPart n) role

pub phrase_jsx_part : (n : JSXPart AnyNode) (role : Role) → phrase (whole.JSXPart n) role ≡ node_phrase phrase (nodes.JSXPart n) role
phrase_jsx_part n role = ap (λ x. phrase x role) (sym (whole.rolls-JSXPart n)) ∙ phrase_of_layer (nodes.JSXPart n) role

pub phrase_ts_part : (n : TsPart AnyNode) (role : Role) → phrase (whole.TsPart n) role ≡ node_phrase phrase (nodes.TsPart n) role
phrase_ts_part n role = ap (λ x. phrase x role) (sym (whole.rolls-TsPart n)) ∙ phrase_of_layer (nodes.TsPart n) role
