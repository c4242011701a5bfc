-- What is written of whole nodes.
use Rattle.std.proofs.Common.{◌≡◌, List, [], ◌∷◌, Bool, true, false, cond, ◌&&◌, map, codes, refl, sym, ◌∙◌, ap, Option, Some, None}
use Rattle.swc_ecma_codegen_tree.specs.declared.links.AnyNode.{AnyNode, AnyNode-F, map-AnyNode, roll-AnyNode, out-AnyNode}
use Rattle.swc_ecma_codegen_tree.specs.declared.links.AnyNode.TheOpen as nodes
use Rattle.swc_ecma_codegen_tree.specs.declared.links.AnyNode.TheViews.{roll-out-AnyNode}
use Rattle.swc_ecma_codegen_tree.specs.declared.links.AnyNode.TheVariants as whole
use Rattle.swc_ecma_codegen_tree.specs.declared.exprs.Expr.{Expr}
use Rattle.swc_ecma_codegen_tree.specs.declared.exprs.Expr.TheVariants as exprs
use Rattle.swc_ecma_codegen_tree.specs.declared.exprs.MemberExpr.{MemberExpr}
use Rattle.swc_ecma_codegen_tree.specs.declared.stmts.Stmt.{Stmt}
use Rattle.swc_ecma_codegen_tree.specs.declared.links.AnyNode.TheFolds.{para-roll-AnyNode}
use Rattle.swc_ecma_codegen_tree.specs.Links.{ExprBox, TsTypeAnnBox}
use Rattle.swc_ecma_codegen_common.specs.declared.positions.Span.{Span}
use Rattle.swc_ecma_codegen_tree.specs.declared.exprs.MemberProp.{MemberProp}
use Rattle.swc_ecma_codegen_tree.specs.declared.exprs.MemberProp.TheVariants as member_props
use Rattle.swc_ecma_codegen_tree.specs.declared.exprs.SuperPropExpr.{SuperPropExpr}
use Rattle.swc_ecma_codegen_tree.specs.declared.exprs.SuperProp.{SuperProp}
use Rattle.swc_ecma_codegen_tree.specs.declared.exprs.SuperProp.TheVariants as super_props
use Rattle.swc_ecma_codegen_tree.specs.declared.exprs.OptChainExpr.{OptChainExpr}
use Rattle.swc_ecma_codegen_tree.specs.declared.exprs.OptChainBase.{OptChainBase}
use Rattle.swc_ecma_codegen_tree.specs.declared.exprs.OptChainBase.TheVariants as chain_bases
use Rattle.swc_ecma_codegen_tree.specs.declared.exprs.YieldExpr.{YieldExpr}
use Rattle.swc_ecma_codegen_tree.specs.declared.exprs.SeqExpr.{SeqExpr}
use Rattle.swc_ecma_codegen_tree.specs.declared.idents.Ident.{Ident}
use Rattle.swc_ecma_codegen_tree.specs.declared.parts.ExprPart.{ExprPart}
use Rattle.swc_ecma_codegen_tree.specs.declared.parts.ExprPart.TheVariants as expr_parts
use Rattle.swc_ecma_codegen_tree.specs.declared.parts.StmtPart.{StmtPart}
use Rattle.swc_ecma_codegen_tree.specs.declared.parts.StmtPart.TheVariants as stmt_parts
use Rattle.swc_ecma_codegen_tree.specs.declared.parts.JSXPart.{JSXPart}
use Rattle.swc_ecma_codegen_tree.specs.declared.parts.JSXPart.TheVariants as jsx_parts
use Rattle.swc_ecma_codegen_tree.specs.declared.parts.TsPart.{TsPart}
use Rattle.swc_ecma_codegen_tree.specs.declared.parts.TsPart.TheVariants as ts_parts
use Rattle.swc_ecma_codegen_tree.specs.declared.pats.AssignTarget.{AssignTarget}
use Rattle.swc_ecma_codegen_tree.specs.declared.pats.AssignTarget.TheVariants as targets
use Rattle.swc_ecma_codegen_tree.specs.declared.pats.SimpleAssignTarget.{SimpleAssignTarget}
use Rattle.swc_ecma_codegen_tree.specs.declared.pats.SimpleAssignTarget.TheVariants as simple_targets
use Rattle.swc_ecma_codegen_spans.specs.Spans.{expr_span, fn_expr_span, class_expr_span, jsx_member_expr_span}
use Rattle.swc_ecma_codegen_grammar.specs.TreePhrases.{is_sequence}
use Rattle.swc_ecma_codegen_tokens.specs.Run.{Plan, Part, refuse}
use Rattle.swc_ecma_codegen_tokens.specs.Words.{punct, trailing_comments}
use Rattle.swc_ecma_codegen_emit.specs.declared.nodes.Context.TheVariants.{Plain, Chain, OptionalChain, FieldValue}
use Rattle.swc_ecma_codegen_emit.specs.Places.{Place, Whole, Only, context_of}
use Rattle.swc_ecma_codegen_emit.specs.declared.nodes.Piece.{Piece}
use Rattle.swc_ecma_codegen_emit.specs.Answers.{Answers, any_answers}
use Rattle.swc_ecma_codegen_emit.specs.Lists.{comma, listed, unsupported}
use Rattle.swc_ecma_codegen_emit.specs.Exprs.{this, unary, update, update_parts, bin, bin_operator, bin_trailing, member, member_at, member_prop, object_place, computed_prop_name, super_prop, super_prop_expr, chain_mark, chain_prop, chain_member, chain_base, opt_chain, meta_prop_expr, assign, yield_argument_in, yield_argument, yield_arg, yield_expr, await_expr, choice, seq, held, paren, ident, opened}
use Rattle.swc_ecma_codegen_emit.specs.AnyExpr.{expr_parts, expr_closed, leaves_comments, expr, is_field_value, is_wrapped, wrapped, placed_expr}
use Rattle.swc_ecma_codegen_emit.specs.FunctionExprs.{fn_expr, optional_name}
use Rattle.swc_ecma_codegen_emit.specs.ClassExprs.{class_expr}
use Rattle.swc_ecma_codegen_emit.specs.Annotations.{annotation}
use Rattle.swc_ecma_codegen_emit.specs.Names.{binding_ident}
use Rattle.swc_ecma_codegen_emit.proofs.MappedTypes.{ts_part_mapped}
use Rattle.swc_ecma_codegen_emit.specs.Targets.{simple_assign_target, assign_target}
use Rattle.swc_ecma_codegen_emit.specs.Parts.{expr_part, stmt_part, ts_part}
use Rattle.swc_ecma_codegen_emit.specs.Stmts.{stmt}
use Rattle.swc_ecma_codegen_emit.specs.TsExprs.{ts_as_expr, ts_const_assertion, ts_satisfies_expr, ts_non_null_expr, ts_type_assertion, ts_instantiation}
use Rattle.swc_ecma_codegen_emit.specs.Jsx.{jsx_member_expr, jsx_part}
use Rattle.swc_ecma_codegen_emit.specs.Tree.{node_items, any_items}
use Rattle.swc_ecma_codegen_emit.proofs.MappedDecls.{decl_mapped, var_decl_mapped}
use Rattle.swc_ecma_codegen_emit.proofs.MappedModules.{module_decl_mapped}
use Rattle.swc_ecma_codegen_emit.proofs.MappedClasses.{class_mapped, class_member_mapped}
use Rattle.swc_ecma_codegen_emit.proofs.MappedStmts.{stmt_mapped}
use Rattle.swc_ecma_codegen_emit.proofs.MappedFunctions.{function_mapped, block_mapped, arrow_expr_mapped}
use Rattle.swc_ecma_codegen_emit.proofs.MappedPats.{prop_name_mapped, pat_mapped, target_pat_mapped}
use Rattle.swc_ecma_codegen_emit.proofs.MappedProps.{object_lit_mapped}
use Rattle.swc_ecma_codegen_emit.proofs.MappedTemplates.{tpl_mapped, tagged_tpl_mapped}
use Rattle.swc_ecma_codegen_emit.proofs.MappedJsx.{jsx_part_mapped}
use Rattle.swc_ecma_codegen_emit.proofs.MappedCalls.{array_lit_mapped, call_mapped, new_mapped, chain_call_mapped}

-- ---- a word sees what links hold through `asks` and `items` alone

listed_mapped : {A B : Type 0} (g : A → B) (e : B → Part) (d : A → Part) → ((x : A) → e (g x) ≡ d x) → (first : Bool) (xs : List A) (rest : Plan) → listed e first (map g xs) rest ≡ listed d first xs rest
unfolding listed
listed_mapped g e d same first [] rest = refl
listed_mapped g e d same first (x ∷ xs) rest = ap (λ part. comma first (part (listed e false (map g xs) rest))) (same x) ∙ ap (λ after. comma first (d x after)) (listed_mapped g e d same false xs rest)

member_mapped : {X Y : Type 0} (g : X → Y) (asks : Y → Answers) (items : Y → Place → Part) (span : Span) (obj : ExprBox X) (prop : MemberProp X) (place : Place) (rest : Plan) → node_items asks items (map-AnyNode X Y g (nodes.MemberExpr (record { span = span; obj = obj; prop = prop }))) place rest ≡ member_at (λ x. items (g x)) (record { span = span; obj = obj; prop = prop }) (context_of place) rest
unfolding node_items member_at member member_prop object_place computed_prop_name chain_member chain_mark chain_prop unsupported refuse
member_mapped g asks items span obj (member_props.Ident n) (Whole OptionalChain) rest = refl
member_mapped g asks items span obj (member_props.Ident n) (Whole Chain) rest = refl
member_mapped g asks items span obj (member_props.Ident n) place rest = refl
member_mapped g asks items span obj (member_props.Computed n) (Whole OptionalChain) rest = refl
member_mapped g asks items span obj (member_props.Computed n) (Whole Chain) rest = refl
member_mapped g asks items span obj (member_props.Computed n) place rest = refl
member_mapped g asks items span obj n (Whole OptionalChain) rest = refl
member_mapped g asks items span obj n (Whole Chain) rest = refl
member_mapped g asks items span obj n place rest = refl

super_mapped : {X Y : Type 0} (g : X → Y) (asks : Y → Answers) (items : Y → Place → Part) (n : SuperPropExpr X) (prop : SuperProp X) (place : Place) (rest : Plan) → node_items asks items (map-AnyNode X Y g (nodes.Expr (exprs.SuperProp (record n { prop = prop })))) place rest ≡ expr (λ x. asks (g x)) (λ x. items (g x)) (exprs.SuperProp (record n { prop = prop })) (context_of place) rest
unfolding node_items expr expr_parts expr_closed expr_span leaves_comments placed_expr is_wrapped is_sequence super_prop_expr super_prop computed_prop_name
super_mapped g asks items n (super_props.Ident p) place rest = refl
super_mapped g asks items n (super_props.Computed p) place rest = refl

chain_mapped : {X Y : Type 0} (g : X → Y) (asks : Y → Answers) (items : Y → Place → Part) (n : OptChainExpr X) (base : OptChainBase X) (place : Place) (rest : Plan) → node_items asks items (map-AnyNode X Y g (nodes.Expr (exprs.OptChain (record n { base = base })))) place rest ≡ expr (λ x. asks (g x)) (λ x. items (g x)) (exprs.OptChain (record n { base = base })) (context_of place) rest
unfolding node_items expr expr_parts expr_closed expr_span leaves_comments placed_expr is_wrapped is_sequence opt_chain chain_base unsupported refuse
chain_mapped g asks items n (chain_bases.Member b) place rest = refl
chain_mapped g asks items n (chain_bases.Call b) place rest = refl

yield_mapped : {X Y : Type 0} (g : X → Y) (asks : Y → Answers) (items : Y → Place → Part) (n : YieldExpr X) (arg : Option (ExprBox X)) (place : Place) (rest : Plan) → node_items asks items (map-AnyNode X Y g (nodes.Expr (exprs.Yield (record n { arg = arg })))) place rest ≡ expr (λ x. asks (g x)) (λ x. items (g x)) (exprs.Yield (record n { arg = arg })) (context_of place) rest
unfolding node_items expr expr_parts expr_closed expr_span leaves_comments placed_expr is_wrapped is_sequence yield_expr yield_arg yield_argument yield_argument_in
yield_mapped g asks items n None place rest = refl
yield_mapped g asks items n (Some x) place rest = refl

seq_mapped : {X Y : Type 0} (g : X → Y) (asks : Y → Answers) (items : Y → Place → Part) (n : SeqExpr X) (rest : Plan) → node_items asks items (map-AnyNode X Y g (nodes.Expr (exprs.Seq n))) (Whole Plain) rest ≡ expr (λ x. asks (g x)) (λ x. items (g x)) (exprs.Seq n) Plain rest
unfolding node_items expr expr_parts expr_closed expr_span leaves_comments placed_expr is_wrapped is_field_value is_sequence seq
seq_mapped {X} g asks items n rest = ap (opened n.span) (listed_mapped {A = ExprBox X} _ (held items) (held (λ x. items (g x))) (λ x. refl) true n.exprs.items (trailing_comments true n.span.hi rest))

expr_mapped : {X Y : Type 0} (g : X → Y) (asks : Y → Answers) (items : Y → Place → Part) (n : Expr X) (place : Place) (rest : Plan) → node_items asks items (map-AnyNode X Y g (nodes.Expr n)) place rest ≡ placed_expr (λ x. asks (g x)) (λ x. items (g x)) n (context_of place) rest
unfolding node_items expr expr_parts expr_closed expr_span fn_expr_span class_expr_span leaves_comments placed_expr wrapped is_wrapped is_field_value is_sequence member_at unsupported refuse fn_expr class_expr optional_name this unary update update_parts bin bin_operator bin_trailing assign meta_prop_expr await_expr choice seq paren ident ts_as_expr ts_const_assertion ts_satisfies_expr ts_non_null_expr ts_type_assertion ts_instantiation expr_part jsx_member_expr jsx_member_expr_span
expr_mapped g asks items (exprs.Seq n) (Whole FieldValue) rest = ap (punct (codes "(")) (seq_mapped g asks items n (punct (codes ")") rest))
expr_mapped g asks items (exprs.Seq n) place rest = seq_mapped g asks items n rest
expr_mapped g asks items (exprs.Array n) place rest = array_lit_mapped g asks items n place rest
expr_mapped g asks items (exprs.Object n) place rest = object_lit_mapped g asks items n (Whole Plain) (trailing_comments true n.span.hi rest)
expr_mapped g asks items (exprs.Call n) place rest = call_mapped g asks items n place rest
expr_mapped g asks items (exprs.New n) place rest = new_mapped g asks items n place rest
expr_mapped g asks items (exprs.Member n) place rest = member_mapped g asks items n.span n.obj n.prop (Whole Plain) (trailing_comments true n.span.hi rest)
expr_mapped g asks items (exprs.SuperProp n) place rest = super_mapped g asks items n n.prop place rest
expr_mapped g asks items (exprs.OptChain n) place rest = chain_mapped g asks items n n.base place rest
expr_mapped g asks items (exprs.Yield n) place rest = yield_mapped g asks items n n.arg place rest
expr_mapped g asks items (exprs.TaggedTpl n) place rest = tagged_tpl_mapped g asks items n place rest
expr_mapped g asks items (exprs.Arrow n) place rest = arrow_expr_mapped g asks items n place rest
expr_mapped g asks items n place rest = refl

-- a target of an assignment, as a part that a link holds
abbrev as_target : {X : Type 0} → SimpleAssignTarget X → AnyNode-F X
as_target n = nodes.ExprPart (expr_parts.AssignTarget (targets.Simple n))

binding_target_mapped : {X Y : Type 0} (g : X → Y) (asks : Y → Answers) (items : Y → Place → Part) (id : Ident) (type_ann : Option (TsTypeAnnBox X)) (place : Place) (rest : Plan) → node_items asks items (map-AnyNode X Y g (as_target (simple_targets.Ident (record { id = id; type_ann = type_ann })))) place rest ≡ binding_ident (λ x. items (g x)) (record { id = id; type_ann = type_ann }) rest
unfolding node_items expr_part assign_target simple_assign_target binding_ident annotation
binding_target_mapped g asks items id None place rest = refl
binding_target_mapped g asks items id (Some x) place rest = refl

super_target_mapped : {X Y : Type 0} (g : X → Y) (asks : Y → Answers) (items : Y → Place → Part) (n : SuperPropExpr X) (prop : SuperProp X) (place : Place) (rest : Plan) → node_items asks items (map-AnyNode X Y g (as_target (simple_targets.SuperProp (record n { prop = prop })))) place rest ≡ super_prop_expr (λ x. items (g x)) (record n { prop = prop }) rest
unfolding node_items expr_part assign_target simple_assign_target super_prop_expr super_prop computed_prop_name
super_target_mapped g asks items n (super_props.Ident p) place rest = refl
super_target_mapped g asks items n (super_props.Computed p) place rest = refl

chain_target_mapped : {X Y : Type 0} (g : X → Y) (asks : Y → Answers) (items : Y → Place → Part) (n : OptChainExpr X) (base : OptChainBase X) (place : Place) (rest : Plan) → node_items asks items (map-AnyNode X Y g (as_target (simple_targets.OptChain (record n { base = base })))) place rest ≡ opt_chain (λ x. items (g x)) (record n { base = base }) rest
unfolding node_items expr_part assign_target simple_assign_target opt_chain chain_base unsupported refuse
chain_target_mapped g asks items n (chain_bases.Member b) place rest = refl
chain_target_mapped g asks items n (chain_bases.Call b) place rest = refl

simple_target_mapped : {X Y : Type 0} (g : X → Y) (asks : Y → Answers) (items : Y → Place → Part) (n : SimpleAssignTarget X) (place : Place) (rest : Plan) → node_items asks items (map-AnyNode X Y g (as_target n)) place rest ≡ simple_assign_target (λ x. items (g x)) n rest
unfolding node_items expr_part assign_target simple_assign_target member_at paren ts_as_expr ts_satisfies_expr ts_non_null_expr ts_type_assertion ts_instantiation unsupported refuse
simple_target_mapped g asks items (simple_targets.Ident n) place rest = binding_target_mapped g asks items n.id n.type_ann place rest
simple_target_mapped g asks items (simple_targets.Member n) place rest = member_mapped g asks items n.span n.obj n.prop (Whole Plain) rest
simple_target_mapped g asks items (simple_targets.SuperProp n) place rest = super_target_mapped g asks items n n.prop place rest
simple_target_mapped g asks items (simple_targets.OptChain n) place rest = chain_target_mapped g asks items n n.base place rest
simple_target_mapped g asks items n place rest = refl

target_mapped : {X Y : Type 0} (g : X → Y) (asks : Y → Answers) (items : Y → Place → Part) (n : AssignTarget X) (place : Place) (rest : Plan) → node_items asks items (map-AnyNode X Y g (nodes.ExprPart (expr_parts.AssignTarget n))) place rest ≡ assign_target (λ x. asks (g x)) (λ x. items (g x)) n rest
unfolding node_items expr_part assign_target unsupported refuse
target_mapped g asks items (targets.Simple n) place rest = simple_target_mapped g asks items n place rest
target_mapped g asks items (targets.Pat n) place rest = target_pat_mapped g asks items n place rest

part_mapped : {X Y : Type 0} (g : X → Y) (asks : Y → Answers) (items : Y → Place → Part) (n : ExprPart X) (place : Place) (rest : Plan) → node_items asks items (map-AnyNode X Y g (nodes.ExprPart n)) place rest ≡ expr_part (λ x. asks (g x)) (λ x. items (g x)) n place rest
unfolding node_items expr_part unsupported refuse
part_mapped g asks items (expr_parts.Pat n) place rest = pat_mapped g asks items n place rest
part_mapped g asks items (expr_parts.ObjectLit n) place rest = object_lit_mapped g asks items n place rest
part_mapped g asks items (expr_parts.PropName n) place rest = prop_name_mapped g asks items n place rest
part_mapped g asks items (expr_parts.Tpl n) place rest = tpl_mapped g asks items n place rest
part_mapped g asks items (expr_parts.OptCall n) place rest = chain_call_mapped g asks items n place rest
part_mapped g asks items (expr_parts.AssignTarget n) place rest = target_mapped g asks items n place rest

stmt_part_mapped : {X Y : Type 0} (g : X → Y) (asks : Y → Answers) (items : Y → Place → Part) (n : StmtPart X) (place : Place) (rest : Plan) → node_items asks items (map-AnyNode X Y g (nodes.StmtPart n)) place rest ≡ stmt_part (λ x. asks (g x)) (λ x. items (g x)) n place rest
unfolding node_items stmt_part unsupported refuse
stmt_part_mapped g asks items (stmt_parts.Function n) place rest = function_mapped g asks items n place rest
stmt_part_mapped g asks items (stmt_parts.Class n) place rest = class_mapped g asks items n place rest
stmt_part_mapped g asks items (stmt_parts.ClassMember n) place rest = class_member_mapped g asks items n place rest
stmt_part_mapped g asks items (stmt_parts.BlockStmt n) place rest = block_mapped g asks items n place rest
stmt_part_mapped g asks items (stmt_parts.Decl n) place rest = decl_mapped g asks items n place rest
stmt_part_mapped g asks items (stmt_parts.VarDecl n) place rest = var_decl_mapped g asks items n place rest
stmt_part_mapped g asks items (stmt_parts.ModuleDecl n) place rest = module_decl_mapped g asks items n place rest

node_mapped : {X Y : Type 0} (g : X → Y) (asks : Y → Answers) (items : Y → Place → Part) (n : AnyNode-F X) (place : Place) (rest : Plan) → node_items asks items (map-AnyNode X Y g n) place rest ≡ node_items (λ x. asks (g x)) (λ x. items (g x)) n place rest
unfolding node_items
node_mapped g asks items (nodes.Expr n) place rest = expr_mapped g asks items n place rest
node_mapped g asks items (nodes.Stmt n) place rest = stmt_mapped g asks items n place rest
node_mapped g asks items (nodes.MemberExpr n) place rest = member_mapped g asks items n.span n.obj n.prop place rest
node_mapped g asks items (nodes.ExprPart n) place rest = part_mapped g asks items n place rest
node_mapped g asks items (nodes.StmtPart n) place rest = stmt_part_mapped g asks items n place rest
node_mapped g asks items (nodes.JSXPart n) place rest = jsx_part_mapped g asks items n place rest
node_mapped g asks items (nodes.TsPart n) place rest = ts_part_mapped g asks items n place rest

-- ---- whole nodes

at_rest : {f g : Place → Part} → f ≡ g → (place : Place) (rest : Plan) → f place rest ≡ g place rest
at_rest e place rest = ap (λ h. h place rest) e

items_of_layer : (n : AnyNode-F AnyNode) (place : Place) (rest : Plan) → any_items (roll-AnyNode n) place rest ≡ node_items any_answers any_items n place rest
unfolding any_items
items_of_layer n place rest = at_rest (para-roll-AnyNode (Place → Part) (node_items (λ p. any_answers p.0) (λ p. p.1)) n) place rest ∙ node_mapped (λ y. (y, any_items y)) (λ p. any_answers p.0) (λ p. p.1) n place rest

-- what links hold may come with more
pub items_of : {X : Type 0} (g : X → AnyNode) (n : AnyNode-F X) (place : Place) → any_items (roll-AnyNode (map-AnyNode X AnyNode g n)) place ≡ node_items (λ x. any_answers (g x)) (λ x. any_items (g x)) n place
items_of {X} g n place = λ i. λ rest. (items_of_layer (map-AnyNode X AnyNode g n) place rest ∙ node_mapped g any_answers any_items n place rest) i

-- by what a node is
pub any_items_of : (n : AnyNode) (place : Place) → any_items n place ≡ node_items any_answers any_items (out-AnyNode n) place
any_items_of n place = λ i. λ rest. (at_rest (ap any_items (sym (roll-out-AnyNode n))) place rest ∙ items_of_layer (out-AnyNode n) place rest) i

pub any_items_expr : (n : Expr AnyNode) (place : Place) → any_items (whole.Expr n) place ≡ placed_expr any_answers any_items n (context_of place)
unfolding node_items
any_items_expr n place = λ i. λ rest. (at_rest (ap any_items (sym (whole.rolls-Expr n))) place rest ∙ items_of_layer (nodes.Expr n) place rest) i

never_wrapped : (b : Bool) → (b && false) ≡ false
never_wrapped true = refl
never_wrapped false = refl

-- where nothing is asked of it, it has no parentheses of its own
pub any_items_plain_expr : (n : Expr AnyNode) → any_items (whole.Expr n) (Whole Plain) ≡ expr any_answers any_items n Plain
unfolding placed_expr is_wrapped is_field_value
any_items_plain_expr n = any_items_expr n (Whole Plain) ∙ (λ i. λ rest. ap (λ b. cond b (wrapped any_answers any_items n rest) (expr any_answers any_items n Plain rest)) (never_wrapped (is_sequence n)) i)

pub any_items_stmt : (n : Stmt AnyNode) (place : Place) → any_items (whole.Stmt n) place ≡ stmt any_answers any_items n
unfolding node_items
any_items_stmt n place = λ i. λ rest. (at_rest (ap any_items (sym (whole.rolls-Stmt n))) place rest ∙ items_of_layer (nodes.Stmt n) place rest) i

pub any_items_member_expr : (n : MemberExpr AnyNode) (place : Place) → any_items (whole.MemberExpr n) place ≡ member_at any_items n (context_of place)
unfolding node_items
any_items_member_expr n place = λ i. λ rest. (at_rest (ap any_items (sym (whole.rolls-MemberExpr n))) place rest ∙ items_of_layer (nodes.MemberExpr n) place rest) i

pub any_items_expr_part : (n : ExprPart AnyNode) (place : Place) → any_items (whole.ExprPart n) place ≡ expr_part any_answers any_items n place
unfolding node_items
any_items_expr_part n place = λ i. λ rest. (at_rest (ap any_items (sym (whole.rolls-ExprPart n))) place rest ∙ items_of_layer (nodes.ExprPart n) place rest) i

pub any_items_stmt_part : (n : StmtPart AnyNode) (place : Place) → any_items (whole.StmtPart n) place ≡ stmt_part any_answers any_items n place
unfolding node_items
any_items_stmt_part n place = λ i. λ rest. (at_rest (ap any_items (sym (whole.rolls-StmtPart n))) place rest ∙ items_of_layer (nodes.StmtPart n) place rest) i

pub any_items_jsx_part : (n : JSXPart AnyNode) (place : Place) → any_items (whole.JSXPart n) place ≡ jsx_part any_answers any_items n place
unfolding node_items
any_items_jsx_part n place = λ i. λ rest. (at_rest (ap any_items (sym (whole.rolls-JSXPart n))) place rest ∙ items_of_layer (nodes.JSXPart n) place rest) i

pub any_items_ts_part : (n : TsPart AnyNode) (place : Place) → any_items (whole.TsPart n) place ≡ ts_part any_answers any_items n place
unfolding node_items
any_items_ts_part n place = λ i. λ rest. (at_rest (ap any_items (sym (whole.rolls-TsPart n))) place rest ∙ items_of_layer (nodes.TsPart n) place rest) i

-- no piece of it is printed by itself, so as a piece it is the whole
expr_part_alone : (n : ExprPart AnyNode) (piece : Piece) (rest : Plan) → expr_part any_answers any_items n (Only piece) rest ≡ expr_part any_answers any_items n (Whole Plain) rest
unfolding expr_part
expr_part_alone (expr_parts.Pat n) piece rest = refl
expr_part_alone (expr_parts.ObjectLit n) piece rest = refl
expr_part_alone (expr_parts.PropName n) piece rest = refl
expr_part_alone (expr_parts.AssignTarget n) piece rest = refl
expr_part_alone (expr_parts.Tpl n) piece rest = refl
expr_part_alone (expr_parts.OptCall n) piece rest = refl

pub any_items_expr_part_alone : (n : ExprPart AnyNode) (piece : Piece) → any_items (whole.ExprPart n) (Only piece) ≡ expr_part any_answers any_items n (Whole Plain)
any_items_expr_part_alone n piece = any_items_expr_part n (Only piece) ∙ (λ i. λ rest. expr_part_alone n piece rest i)

-- no piece of it is printed by itself, so as a piece it is the whole
jsx_part_alone : (n : JSXPart AnyNode) (piece : Piece) (rest : Plan) → jsx_part any_answers any_items n (Only piece) rest ≡ jsx_part any_answers any_items n (Whole Plain) rest
unfolding jsx_part
jsx_part_alone (jsx_parts.JSXElement n) piece rest = refl
jsx_part_alone (jsx_parts.JSXFragment n) piece rest = refl
jsx_part_alone (jsx_parts.JSXObject n) piece rest = refl

pub any_items_jsx_part_alone : (n : JSXPart AnyNode) (piece : Piece) → any_items (whole.JSXPart n) (Only piece) ≡ jsx_part any_answers any_items n (Whole Plain)
any_items_jsx_part_alone n piece = any_items_jsx_part n (Only piece) ∙ (λ i. λ rest. jsx_part_alone n piece rest i)

-- no piece of it is printed by itself, so as a piece it is the whole
ts_part_alone : (n : TsPart AnyNode) (piece : Piece) (rest : Plan) → ts_part any_answers any_items n (Only piece) rest ≡ ts_part any_answers any_items n (Whole Plain) rest
unfolding ts_part
ts_part_alone (ts_parts.TsType n) piece rest = refl
ts_part_alone (ts_parts.TsTypeAnn n) piece rest = refl
ts_part_alone (ts_parts.TsTypeParamDecl n) piece rest = refl
ts_part_alone (ts_parts.TsTypeParamInstantiation n) piece rest = refl
ts_part_alone (ts_parts.TsFnParam n) piece rest = refl
ts_part_alone (ts_parts.TsInterfaceBody n) piece rest = refl
ts_part_alone (ts_parts.TsEntityName n) piece rest = refl
ts_part_alone (ts_parts.TsNamespaceBody n) piece rest = refl

pub any_items_ts_part_alone : (n : TsPart AnyNode) (piece : Piece) → any_items (whole.TsPart n) (Only piece) ≡ ts_part any_answers any_items n (Whole Plain)
any_items_ts_part_alone n piece = any_items_ts_part n (Only piece) ∙ (λ i. λ rest. ts_part_alone n piece rest i)
