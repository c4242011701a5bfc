-- No node that a link holds looks at the greatest length of lines: a module and a script alone do.
use Rattle.std.proofs.Common.{◌≡◌, ◌⊎◌, inl, inr, ℕ, Bool, true, false, cond, ◌&&◌, Option, Some, None, refl, sym, ap, ◌∙◌}
use Rattle.swc_ecma_codegen_common.specs.declared.positions.Span.{Span}
use Rattle.swc_ecma_codegen_tree.specs.declared.exprs.Expr.{Expr}
use Rattle.swc_ecma_codegen_tree.specs.declared.exprs.Expr.TheVariants as exprs
use Rattle.swc_ecma_codegen_tree.specs.declared.links.AnyNode.{AnyNode, AnyNode-F, out-AnyNode}
use Rattle.swc_ecma_codegen_tree.specs.declared.links.AnyNode.TheOpen as nodes
use Rattle.swc_ecma_codegen_tree.specs.declared.links.AnyNode.TheVariants as whole
use Rattle.swc_ecma_codegen_tree.specs.declared.lits.Lit.{Lit}
use Rattle.swc_ecma_codegen_tree.specs.declared.lits.Lit.TheVariants as lits
use Rattle.swc_ecma_codegen_tree.specs.declared.parts.ExprPart.{ExprPart}
use Rattle.swc_ecma_codegen_tree.specs.declared.parts.ExprPart.TheVariants as expr_parts
use Rattle.swc_ecma_codegen_tree.specs.declared.parts.JSXPart.{JSXPart}
use Rattle.swc_ecma_codegen_tree.specs.declared.parts.JSXPart.TheVariants as jsx_parts
use Rattle.swc_ecma_codegen_tree.specs.declared.parts.StmtPart.{StmtPart}
use Rattle.swc_ecma_codegen_tree.specs.declared.parts.StmtPart.TheVariants as stmt_parts
use Rattle.swc_ecma_codegen_tree.specs.declared.parts.TsPart.{TsPart}
use Rattle.swc_ecma_codegen_tree.specs.declared.parts.TsPart.TheVariants as ts_parts
use Rattle.swc_ecma_codegen_tree.specs.declared.decls.Decl.{Decl}
use Rattle.swc_ecma_codegen_tree.specs.declared.decls.Decl.TheVariants as decls
use Rattle.swc_ecma_codegen_grammar.specs.TreePhrases.{is_sequence}
use Rattle.swc_ecma_codegen_grammar.specs.declared.roles.Role.{Role}
use Rattle.swc_ecma_codegen_grammar.specs.declared.roles.Role.TheVariants as roles
use Rattle.swc_ecma_codegen_tokens.specs.Run.{Part, Plan, with_max_line}
use Rattle.swc_ecma_codegen_emit.specs.declared.nodes.Context.TheVariants.{ByItself, Plain}
use Rattle.swc_ecma_codegen_emit.specs.Answers.{Answers, any_answers}
use Rattle.swc_ecma_codegen_emit.specs.AnyExpr.{expr, expr_parts as parts_of_expr, expr_closed, leaves_comments, is_left_operand, is_field_value, is_wrapped, wrapped, placed_expr}
use Rattle.swc_ecma_codegen_emit.specs.Blocks.{block_stmt, block_start}
use Rattle.swc_ecma_codegen_emit.specs.Classes.{class}
use Rattle.swc_ecma_codegen_emit.specs.Decls.{decl, decl_end, variables, whole_decl}
use Rattle.swc_ecma_codegen_emit.specs.Exprs.{bin, bin_opened, member_at}
use Rattle.swc_ecma_codegen_emit.specs.Functions.{function}
use Rattle.swc_ecma_codegen_emit.specs.Jsx.{jsx_element, jsx_element_parts, jsx_fragment, jsx_fragment_parts, jsx_opening_element, jsx_part, open_at, opening_fragment}
use Rattle.swc_ecma_codegen_emit.specs.Lits.{lit_at, is_number_object, is_object}
use Rattle.swc_ecma_codegen_emit.specs.Namespaces.{ts_namespace_body}
use Rattle.swc_ecma_codegen_emit.specs.Parts.{expr_part, stmt_part, ts_part}
use Rattle.swc_ecma_codegen_emit.specs.Places.{Place, Whole, placed, with_lines, by_itself}
use Rattle.swc_ecma_codegen_emit.specs.Tree.{node_items, any_items}
use Rattle.swc_ecma_codegen_emit.specs.Types.{ts_type_ann, ts_type_param_instantiation}
use Rattle.swc_ecma_codegen_emit.proofs.MappedNodes.{any_items_of, any_items_expr}

-- ---- nodes by their sorts

lit_lined : (n : Lit) (max : ℕ) (span : Span) (rest : Plan) → lit_at n (ByItself max) (expr_closed (is_number_object n (ByItself max)) span rest) ≡ lit_at n Plain (expr_closed (is_number_object n Plain) span rest)
unfolding lit_at is_number_object is_object
lit_lined (lits.Num n) max span rest = refl
lit_lined n max span rest = refl

pub expr_lined : {X : Type 0} (asks : X → Answers) (items : X → Place → Part) (n : Expr X) (max : ℕ) (rest : Plan) → expr asks items n (ByItself max) rest ≡ expr asks items n Plain rest
unfolding expr parts_of_expr leaves_comments is_left_operand bin bin_opened
expr_lined asks items (exprs.Lit n) max rest = lit_lined n max _ rest
expr_lined asks items n max rest = refl

placed_lined : {X : Type 0} (asks : X → Answers) (items : X → Place → Part) (n : Expr X) (max : ℕ) (rest : Plan) → placed_expr asks items n (ByItself max) rest ≡ placed_expr asks items n Plain rest
unfolding placed_expr is_wrapped is_field_value
placed_lined asks items n max rest = ap (λ z. cond (is_sequence n && false) (wrapped asks items n rest) z) (expr_lined asks items n max rest)

decl_lined : {X : Type 0} (asks : X → Answers) (items : X → Place → Part) (n : Decl X) (max : ℕ) (rest : Plan) → decl asks items n (Whole (ByItself max)) rest ≡ decl asks items n (Whole Plain) rest
unfolding decl whole_decl variables decl_end
decl_lined asks items (decls.Class n) max rest = refl
decl_lined asks items n max rest = refl

expr_part_lined : {X : Type 0} (asks : X → Answers) (items : X → Place → Part) (n : ExprPart X) (max : ℕ) (rest : Plan) → expr_part asks items n (Whole (ByItself max)) rest ≡ expr_part asks items n (Whole Plain) rest
unfolding expr_part
expr_part_lined asks items (expr_parts.Tpl n) max rest = refl
expr_part_lined asks items n max rest = refl

stmt_part_lined : {X : Type 0} (asks : X → Answers) (items : X → Place → Part) (n : StmtPart X) (max : ℕ) (rest : Plan) → stmt_part asks items n (Whole (ByItself max)) rest ≡ stmt_part asks items n (Whole Plain) rest
unfolding stmt_part function class block_stmt block_start
stmt_part_lined asks items (stmt_parts.Decl n) max rest = decl_lined asks items n max rest
stmt_part_lined asks items n max rest = refl

jsx_part_lined : {X : Type 0} (asks : X → Answers) (items : X → Place → Part) (n : JSXPart X) (max : ℕ) (rest : Plan) → jsx_part asks items n (Whole (ByItself max)) rest ≡ jsx_part asks items n (Whole Plain) rest
unfolding jsx_part jsx_element jsx_element_parts jsx_opening_element jsx_fragment jsx_fragment_parts opening_fragment open_at with_max_line
jsx_part_lined asks items (jsx_parts.JSXElement n) max rest = refl
jsx_part_lined asks items n max rest = refl

ts_part_lined : {X : Type 0} (asks : X → Answers) (items : X → Place → Part) (n : TsPart X) (max : ℕ) (rest : Plan) → ts_part asks items n (Whole (ByItself max)) rest ≡ ts_part asks items n (Whole Plain) rest
unfolding ts_part ts_type_ann ts_type_param_instantiation ts_namespace_body
ts_part_lined asks items (ts_parts.TsTypeAnn n) max rest = refl
ts_part_lined asks items n max rest = refl

node_lined : {X : Type 0} (asks : X → Answers) (items : X → Place → Part) (n : AnyNode-F X) (max : ℕ) (rest : Plan) → node_items asks items n (Whole (ByItself max)) rest ≡ node_items asks items n (Whole Plain) rest
unfolding node_items member_at
node_lined asks items (nodes.Expr n) max rest = placed_lined asks items n max rest
node_lined asks items (nodes.Stmt n) max rest = refl
node_lined asks items (nodes.MemberExpr n) max rest = refl
node_lined asks items (nodes.ExprPart n) max rest = expr_part_lined asks items n max rest
node_lined asks items (nodes.StmtPart n) max rest = stmt_part_lined asks items n max rest
node_lined asks items (nodes.JSXPart n) max rest = jsx_part_lined asks items n max rest
node_lined asks items (nodes.TsPart n) max rest = ts_part_lined asks items n max rest

-- ---- whole nodes

-- where lines are bounded it is written as where nothing is asked of it
any_lined : (n : AnyNode) (max : ℕ) → any_items n (Whole (ByItself max)) ≡ any_items n (Whole Plain)
any_lined n max =
    let here : node_items any_answers any_items (out-AnyNode n) (Whole (ByItself max)) ≡ node_items any_answers any_items (out-AnyNode n) (Whole Plain) = λ i. λ rest. node_lined any_answers any_items (out-AnyNode n) max rest i in
    any_items_of n (Whole (ByItself max)) ∙ here ∙ sym (any_items_of n (Whole Plain))

never_wrapped : (b : Bool) → (b && false) ≡ false
never_wrapped true = refl
never_wrapped false = refl

-- and an expression as the expression that it is
pub any_items_lined_expr : (n : Expr AnyNode) (max : ℕ) → any_items (whole.Expr n) (Whole (ByItself max)) ≡ expr any_answers any_items n (ByItself max)
unfolding placed_expr is_wrapped is_field_value
any_items_lined_expr n max = any_items_expr n (Whole (ByItself max)) ∙ (λ i. λ rest. ap (λ b. cond b (wrapped any_answers any_items n rest) (expr any_answers any_items n (ByItself max) rest)) (never_wrapped (is_sequence n)) i)

-- A role leaves that place, and the one where nothing is asked, or puts a node elsewhere wherever it stands.
kept_or_not : (role : Role) (max : ℕ) → ((placed role (Whole (ByItself max)) ≡ Whole (ByItself max)) × (placed role (Whole Plain) ≡ Whole Plain)) ⊎ (placed role (Whole (ByItself max)) ≡ placed role (Whole Plain))
kept_or_not roles.Callee max = inr refl
kept_or_not roles.MemberExpression max = inr refl
kept_or_not (roles.ChainMember optional) max = inr refl
kept_or_not (roles.ChainCall optional) max = inr refl
kept_or_not roles.Function max = inr refl
kept_or_not roles.FunctionHead max = inr refl
kept_or_not roles.MethodHead max = inr refl
kept_or_not roles.Template max = inr refl
kept_or_not roles.TaggedTemplate max = inr refl
kept_or_not roles.ClassHead max = inr refl
kept_or_not roles.ClassWord max = inr refl
kept_or_not roles.ClassTail max = inr refl
kept_or_not roles.MethodDecorators max = inr refl
kept_or_not roles.MethodTail max = inr refl
kept_or_not roles.AccessorTail max = inr refl
kept_or_not roles.FieldValue max = inr refl
kept_or_not roles.ModuleDeclaration max = inr refl
kept_or_not roles.ExportedHead max = inr refl
kept_or_not roles.ExportedTail max = inr refl
kept_or_not roles.Element max = inr refl
kept_or_not roles.Child max = inr refl
kept_or_not roles.NamespaceBody max = inr refl
kept_or_not roles.DottedBody max = inr refl
kept_or_not role max = inl (refl, refl)

pub any_items_in_role : (n : AnyNode) (role : Role) (max : ℕ) → placed role (Whole Plain) ≡ Whole Plain → any_items n (Whole (ByItself max)) ≡ any_items n (placed role (Whole (ByItself max)))
any_items_in_role n role max h = elim (kept_or_not role max) [
  | inl e ↦ ap (any_items n) (sym e.0)
  | inr e ↦ any_lined n max ∙ ap (any_items n) (sym h ∙ sym e)
]

-- in any role
pub placed_node_lined : (n : AnyNode) (role : Role) (max : ℕ) → any_items n (placed role (Whole (ByItself max))) ≡ any_items n (placed role (Whole Plain))
placed_node_lined n role max = elim (kept_or_not role max) [
  | inl e ↦ ap (any_items n) e.0 ∙ any_lined n max ∙ ap (any_items n) (sym e.1)
  | inr e ↦ ap (any_items n) e
]

-- ---- nodes by themselves

same_place : (p q : Place → Part) → p (Whole Plain) ≡ q (Whole Plain) → ((max : ℕ) → p (Whole (ByItself max)) ≡ q (Whole (ByItself max))) → (minify : Bool) (max : Option ℕ) → p (cond minify (with_lines max) (Whole Plain)) ≡ q (cond minify (with_lines max) (Whole Plain))
same_place p q h k true None = h
same_place p q h k true (Some max) = k max
same_place p q h k false max = h

-- What is written alike with lines that are bounded and without is so by itself.
pub by_itself_same : (p q : Place → Part) → p (Whole Plain) ≡ q (Whole Plain) → ((max : ℕ) → p (Whole (ByItself max)) ≡ q (Whole (ByItself max))) → by_itself p ≡ by_itself q
unfolding by_itself
by_itself_same p q h k = λ i. λ rest env. with_max_line None (same_place p q h k env.config.minify env.max_line i) rest env
