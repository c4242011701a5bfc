-- What is written of statements sees what links hold through `asks` and `items` alone.
use Rattle.std.proofs.Common.{◌≡◌, refl, ◌∙◌, ap, List, [], ◌∷◌, map, codes, Bool, true, not, Option, Some, None}
use Rattle.swc_ecma_codegen_common.specs.declared.positions.Span.{Span}
use Rattle.swc_ecma_codegen_tree.specs.declared.links.AnyNode.{map-AnyNode}
use Rattle.swc_ecma_codegen_tree.specs.declared.links.AnyNode.TheOpen as nodes
use Rattle.swc_ecma_codegen_tree.specs.Links.{BlockStmtBox, ExprBox, PatBox, StmtBox}
use Rattle.swc_ecma_codegen_tree.specs.declared.parts.StmtPart.TheVariants as stmt_parts
use Rattle.swc_ecma_codegen_tree.specs.declared.decls.Decl.{Decl}
use Rattle.swc_ecma_codegen_tree.specs.declared.decls.UsingDecl.{UsingDecl}
use Rattle.swc_ecma_codegen_tree.specs.declared.decls.VarDeclarator.{VarDeclarator}
use Rattle.swc_ecma_codegen_tree.specs.declared.stmts.CatchClause.{CatchClause}
use Rattle.swc_ecma_codegen_tree.specs.declared.stmts.ForHead.{ForHead}
use Rattle.swc_ecma_codegen_tree.specs.declared.stmts.ForHead.TheVariants as heads
use Rattle.swc_ecma_codegen_tree.specs.declared.stmts.ForInStmt.{ForInStmt}
use Rattle.swc_ecma_codegen_tree.specs.declared.stmts.ForOfStmt.{ForOfStmt}
use Rattle.swc_ecma_codegen_tree.specs.declared.stmts.ForStmt.{ForStmt}
use Rattle.swc_ecma_codegen_tree.specs.declared.stmts.IfStmt.{IfStmt}
use Rattle.swc_ecma_codegen_tree.specs.declared.stmts.ReturnStmt.{ReturnStmt}
use Rattle.swc_ecma_codegen_tree.specs.declared.stmts.Stmt.{Stmt}
use Rattle.swc_ecma_codegen_tree.specs.declared.stmts.Stmt.TheVariants as stmts
use Rattle.swc_ecma_codegen_tree.specs.declared.stmts.SwitchCase.{SwitchCase}
use Rattle.swc_ecma_codegen_tree.specs.declared.stmts.SwitchStmt.{SwitchStmt}
use Rattle.swc_ecma_codegen_tree.specs.declared.stmts.TryStmt.{TryStmt}
use Rattle.swc_ecma_codegen_tree.specs.declared.stmts.VarDeclOrExpr.{VarDeclOrExpr}
use Rattle.swc_ecma_codegen_tree.specs.declared.stmts.VarDeclOrExpr.TheVariants as inits
use Rattle.swc_ecma_codegen_spans.specs.Spans.{decl_span, stmt_span, stmt_part_span, node_span}
use Rattle.swc_ecma_codegen_grammar.specs.ListFormats.{leading_line}
use Rattle.swc_ecma_codegen_grammar.specs.SourceLines.{Lines}
use Rattle.swc_ecma_codegen_grammar.proofs.Mapped.{list_mapped}
use Rattle.swc_ecma_codegen_grammar.proofs.MappedStmts.{by_init, by_test}
use Rattle.swc_ecma_codegen_settings.specs.Ends.{init_ends, declarator_ends, head_ends, expr_part_ends, node_ends}
use Rattle.swc_ecma_codegen_settings.proofs.Finishes.{declarators_mapped as ends_mapped, pat_mapped as pat_ends_mapped}
use Rattle.swc_ecma_codegen_tokens.specs.Lists.{ListChild, by_lines, list}
use Rattle.swc_ecma_codegen_tokens.specs.Run.{Plan, Part}
use Rattle.swc_ecma_codegen_tokens.specs.Words.{keyword, punct, space, formatting_space, last_of, leading_comments, trailing_comments, formatting_line}
use Rattle.swc_ecma_codegen_emit.specs.declared.nodes.Context.TheVariants.{Plain, Statement}
use Rattle.swc_ecma_codegen_emit.specs.Places.{Place, Whole}
use Rattle.swc_ecma_codegen_emit.specs.Answers.{Answers, place_of}
use Rattle.swc_ecma_codegen_emit.specs.Branches.{is_block}
use Rattle.swc_ecma_codegen_emit.specs.Decls.{declarators_format, var_declarator, await_word, using_decl}
use Rattle.swc_ecma_codegen_emit.specs.Exprs.{opened}
use Rattle.swc_ecma_codegen_emit.specs.Lists.{child_at}
use Rattle.swc_ecma_codegen_emit.specs.Parts.{expr_part, stmt_part}
use Rattle.swc_ecma_codegen_emit.specs.Pats.{initializer, declared_pat}
use Rattle.swc_ecma_codegen_emit.specs.Stmts.{enclosed, argument, argument_in, spaced, stmt_word, empty_stmt, expr_stmt, debugger_stmt, with_stmt, return_arg, return_stmt, labeled_stmt, break_stmt, continue_stmt, else_branch, if_stmt, catch_param, catch_clause, handler, finalizer, try_stmt, throw_stmt, lines_format, cases_format, case_test, is_single, case_list, switch_case, switch_cases, switch_stmt, while_stmt, loop_test, do_while_stmt, var_decl_or_expr, for_init, for_value, for_clause, for_control, for_stmt, for_head, for_right, for_each, for_in_stmt, for_await, for_of_stmt, stmt_parts, stmt_closed, stmt, spaced_word}
use Rattle.swc_ecma_codegen_emit.specs.Tree.{node_items}
use Rattle.swc_ecma_codegen_emit.proofs.MappedDecls.{declarator_child, declarator_same, declared_pat_mapped, decl_mapped, decl_placed}
use Rattle.swc_ecma_codegen_emit.proofs.MappedOptions.{by_two, by_three}
use Rattle.swc_ecma_codegen_emit.proofs.MappedPats.{child_same, children_mapped}

-- the end of a statement that is no block
abbrev ended : Span → Plan → Plan
ended span rest = trailing_comments true span.hi (formatting_line rest)

-- ---- statements

return_by : {X Y : Type 0} (g : X → Y) (asks : Y → Answers) (items : Y → Place → Part) (n : ReturnStmt X) (arg : Option (ExprBox X)) (place : Place) (rest : Plan) → node_items asks items (map-AnyNode X Y g (nodes.Stmt (stmts.Return (record n { arg = arg })))) place rest ≡ stmt (λ x. asks (g x)) (λ x. items (g x)) (stmts.Return (record n { arg = arg })) rest
unfolding node_items stmt stmt_parts stmt_closed is_block stmt_span return_stmt return_arg argument argument_in spaced
return_by g asks items n None place rest = refl
return_by g asks items n (Some x) place rest = refl

if_by : {X Y : Type 0} (g : X → Y) (asks : Y → Answers) (items : Y → Place → Part) (n : IfStmt X) (alt : Option (StmtBox X)) (place : Place) (rest : Plan) → node_items asks items (map-AnyNode X Y g (nodes.Stmt (stmts.If (record n { alt = alt })))) place rest ≡ stmt (λ x. asks (g x)) (λ x. items (g x)) (stmts.If (record n { alt = alt })) rest
unfolding node_items stmt stmt_parts stmt_closed is_block stmt_span if_stmt enclosed else_branch spaced
if_by g asks items n None place rest = refl
if_by g asks items n (Some x) place rest = refl

caught_by : {X Y : Type 0} (g : X → Y) (asks : Y → Answers) (items : Y → Place → Part) (n : TryStmt X) (c : CatchClause X) (place : Place) (param : Option (PatBox X)) (last : Option (BlockStmtBox X)) (rest : Plan) → node_items asks items (map-AnyNode X Y g (nodes.Stmt (stmts.Try (record n { handler = Some (record c { param = param }); finalizer = last })))) place rest ≡ stmt (λ x. asks (g x)) (λ x. items (g x)) (stmts.Try (record n { handler = Some (record c { param = param }); finalizer = last })) rest
unfolding node_items stmt stmt_parts stmt_closed is_block stmt_span try_stmt handler catch_clause catch_param finalizer
caught_by g asks items n c place = by_two _ (catch_param items) (catch_param (λ x. items (g x))) _ (finalizer items) (finalizer (λ x. items (g x)))
    (λ p f rest. spaced_word n.span (codes "try") (items (g n.block.node.value) (Whole Plain) (formatting_space (opened c.span (keyword None (codes "catch") (formatting_space (p (formatting_space (items (g c.body.node.value) (Whole Plain) (f (ended n.span rest))))))))))) (elim [ None ↦ λ z. refl | Some t ↦ λ z. refl ]) (elim [ None ↦ λ z. refl | Some t ↦ λ z. refl ])

try_by : {X Y : Type 0} (g : X → Y) (asks : Y → Answers) (items : Y → Place → Part) (n : TryStmt X) (caught : Option (CatchClause X)) (last : Option (BlockStmtBox X)) (place : Place) (rest : Plan) → node_items asks items (map-AnyNode X Y g (nodes.Stmt (stmts.Try (record n { handler = caught; finalizer = last })))) place rest ≡ stmt (λ x. asks (g x)) (λ x. items (g x)) (stmts.Try (record n { handler = caught; finalizer = last })) rest
unfolding node_items stmt stmt_parts stmt_closed is_block stmt_span try_stmt handler finalizer
try_by g asks items n None None place rest = refl
try_by g asks items n None (Some b) place rest = refl
try_by g asks items n (Some c) last place rest = caught_by g asks items n c place c.param last rest

-- ---- `switch`

single_mapped : {X Y : Type 0} (g : StmtBox X → StmtBox Y) (asks : Y → Answers) (known : X → Answers) → ((n : StmtBox X) → (asks (g n).node.value).place ≡ (known n.node.value).place) → (span : Span) (ns : List (StmtBox X)) (lines : Lines) → is_single asks lines span (map g ns) ≡ is_single known lines span ns
unfolding is_single
single_mapped g asks known same span [] lines = refl
single_mapped g asks known same span (n ∷ []) lines = ap (λ place. not (leading_line lines lines_format span place)) (same n)
single_mapped g asks known same span (n ∷ m ∷ ns) lines = refl

-- a case, by its parts
abbrev case_child : Span → Part → (Lines → Bool) → List ListChild → ListChild
case_child span head single cs = record { place = span; part = λ rest. opened span (head (by_lines (λ lines. case_list (single lines) span cs) rest)) }

case_same : {X Y : Type 0} (g : StmtBox X → StmtBox Y) (asks : Y → Answers) (known : X → Answers) (e : StmtBox Y → ListChild) (d : StmtBox X → ListChild) → ((n : StmtBox X) → (asks (g n).node.value).place ≡ (known n.node.value).place) → ((n : StmtBox X) → e (g n) ≡ d n) → (span : Span) (head : Part) (ns : List (StmtBox X)) → case_child span head (λ lines. is_single asks lines span (map g ns)) (map e (map g ns)) ≡ case_child span head (λ lines. is_single known lines span ns) (map d ns)
case_same g asks known e d same child span head ns =
    ap (λ single. case_child span head single (map e (map g ns))) (λ i. λ lines. single_mapped g asks known same span ns lines i)
    ∙ ap (case_child span head (λ lines. is_single known lines span ns)) (list_mapped g e d child ns)

switch_mapped : {X Y : Type 0} (g : X → Y) (asks : Y → Answers) (items : Y → Place → Part) (n : SwitchStmt X) (place : Place) (rest : Plan) → node_items asks items (map-AnyNode X Y g (nodes.Stmt (stmts.Switch n))) place rest ≡ stmt (λ x. asks (g x)) (λ x. items (g x)) (stmts.Switch n) rest
unfolding node_items stmt stmt_parts stmt_closed is_block stmt_span switch_stmt enclosed switch_cases switch_case case_test spaced
switch_mapped {X} {Y} g asks items n place rest = ap (λ z. stmt_word n.span (codes "switch") (enclosed (λ x. items (g x)) n.discriminant (punct (codes "{") z)))
    (children_mapped {A = SwitchCase X} _ _ _ (by_test {X = X} _
    (λ span cons. case_same {X = X} {Y = Y} _ asks (λ x. asks (g x)) _ _ (λ s. refl) (λ s. refl) span (case_test (λ x. asks (g x)) (λ x. items (g x)) None) cons.items)
    (λ span test cons. case_same {X = X} {Y = Y} _ asks (λ x. asks (g x)) _ _ (λ s. refl) (λ s. refl) span (case_test (λ x. asks (g x)) (λ x. items (g x)) (Some test)) cons.items))
    cases_format n.span n.cases.items (last_of n.span (punct (codes "}") (ended n.span rest))))

-- ---- loops

for_by : {X Y : Type 0} (g : X → Y) (asks : Y → Answers) (items : Y → Place → Part) (n : ForStmt X) (place : Place) (init : Option (VarDeclOrExpr X)) (test update : Option (ExprBox X)) (rest : Plan) → node_items asks items (map-AnyNode X Y g (nodes.Stmt (stmts.For (record n { init = init; test = test; update = update })))) place rest ≡ stmt (λ x. asks (g x)) (λ x. items (g x)) (stmts.For (record n { init = init; test = test; update = update })) rest
unfolding node_items stmt stmt_parts stmt_closed is_block stmt_span for_stmt for_control for_init var_decl_or_expr for_clause for_value
for_by g asks items n place = by_three _ (for_init items) (for_init (λ x. items (g x))) _ (for_value items) (for_value (λ x. items (g x))) _ (for_value items) (for_value (λ x. items (g x)))
    (λ i t u rest. stmt_word n.span (codes "for") (punct (codes "(") (i (punct (codes ";") (t (punct (codes ";") (u (punct (codes ")") (items (g n.body.node.value) (Whole Plain) (ended n.span rest))))))))))
    (elim [ None ↦ λ z. refl | Some (inits.VarDecl i) ↦ λ z. refl | Some (inits.Expr i) ↦ λ z. refl ]) (elim [ None ↦ λ z. refl | Some t ↦ λ z. refl ]) (elim [ None ↦ λ z. refl | Some t ↦ λ z. refl ])

-- `using a = b of`, by its parts
abbrev using_head : {X : Type 0} → UsingDecl X → List ListChild → Plan → Plan
using_head h cs after = leading_comments h.span.lo (await_word h.is_await (keyword None (codes "using") (space (list declarators_format h.span cs after))))

-- a head and what comes behind it
both_same : (f : List ListChild → Bool → Plan) (cs ds : List ListChild) (b c : Bool) → cs ≡ ds → b ≡ c → f cs b ≡ f ds c
both_same f cs ds b c e h = ap (λ z. f z b) e ∙ ap (f ds) h

for_in_by : {X Y : Type 0} (g : X → Y) (asks : Y → Answers) (items : Y → Place → Part) (n : ForInStmt X) (left : ForHead X) (place : Place) (rest : Plan) → node_items asks items (map-AnyNode X Y g (nodes.Stmt (stmts.ForIn (record n { left = left })))) place rest ≡ stmt (λ x. asks (g x)) (λ x. items (g x)) (stmts.ForIn (record n { left = left })) rest
unfolding node_items expr_part stmt stmt_parts stmt_closed is_block stmt_span for_in_stmt for_each for_head head_ends for_right spaced using_decl var_declarator initializer declarator_ends init_ends expr_part_ends node_ends
for_in_by g asks items n (heads.VarDecl h) place rest = refl
for_in_by {X} g asks items n (heads.UsingDecl h) place rest = both_same
    (λ cs ends. stmt_word n.span (codes "for") (punct (codes "(") (using_head h.value cs (for_right (λ x. asks (g x)) (λ x. items (g x)) (codes "in") ends n.right (punct (codes ")") (items (g n.body.node.value) (Whole Plain) (ended n.span rest)))))))
    _ _ _ _ (list_mapped {A = VarDeclarator X} _ (declarator_child asks items) (declarator_child (λ x. asks (g x)) (λ x. items (g x))) (by_init {X = X} _ (λ span name definite. declarator_same span _ (declared_pat (λ x. asks (g x)) (λ x. items (g x)) definite name) (λ after. after) (declared_pat_mapped g asks items definite name)) (λ span name init definite. declarator_same span _ (declared_pat (λ x. asks (g x)) (λ x. items (g x)) definite name) (initializer (λ x. items (g x)) (Some init)) (declared_pat_mapped g asks items definite name))) h.value.decls.items)
    (ends_mapped _ (λ y. (asks y).ends) (λ x. (asks (g x)).ends) (λ x y. refl) (λ x. pat_ends_mapped g (λ y. (asks y).ends) x.name) h.value.decls.items)
for_in_by g asks items n (heads.Pat h) place rest = refl

for_of_by : {X Y : Type 0} (g : X → Y) (asks : Y → Answers) (items : Y → Place → Part) (n : ForOfStmt X) (left : ForHead X) (place : Place) (rest : Plan) → node_items asks items (map-AnyNode X Y g (nodes.Stmt (stmts.ForOf (record n { left = left })))) place rest ≡ stmt (λ x. asks (g x)) (λ x. items (g x)) (stmts.ForOf (record n { left = left })) rest
unfolding node_items expr_part stmt stmt_parts stmt_closed is_block stmt_span for_of_stmt for_each for_head head_ends for_right spaced using_decl var_declarator initializer declarator_ends init_ends expr_part_ends node_ends
for_of_by g asks items n (heads.VarDecl h) place rest = refl
for_of_by {X} g asks items n (heads.UsingDecl h) place rest = both_same
    (λ cs ends. stmt_word n.span (codes "for") (for_await n.is_await (formatting_space (punct (codes "(") (using_head h.value cs (for_right (λ x. asks (g x)) (λ x. items (g x)) (codes "of") ends n.right (punct (codes ")") (items (g n.body.node.value) (Whole Plain) (ended n.span rest)))))))))
    _ _ _ _ (list_mapped {A = VarDeclarator X} _ (declarator_child asks items) (declarator_child (λ x. asks (g x)) (λ x. items (g x))) (by_init {X = X} _ (λ span name definite. declarator_same span _ (declared_pat (λ x. asks (g x)) (λ x. items (g x)) definite name) (λ after. after) (declared_pat_mapped g asks items definite name)) (λ span name init definite. declarator_same span _ (declared_pat (λ x. asks (g x)) (λ x. items (g x)) definite name) (initializer (λ x. items (g x)) (Some init)) (declared_pat_mapped g asks items definite name))) h.value.decls.items)
    (ends_mapped _ (λ y. (asks y).ends) (λ x. (asks (g x)).ends) (λ x y. refl) (λ x. pat_ends_mapped g (λ y. (asks y).ends) x.name) h.value.decls.items)
for_of_by g asks items n (heads.Pat h) place rest = refl

decl_by : {X Y : Type 0} (g : X → Y) (asks : Y → Answers) (items : Y → Place → Part) (n : Decl X) (place : Place) (rest : Plan) → node_items asks items (map-AnyNode X Y g (nodes.Stmt (stmts.Decl n))) place rest ≡ stmt (λ x. asks (g x)) (λ x. items (g x)) (stmts.Decl n) rest
unfolding node_items node_span stmt_part stmt_part_span stmt stmt_parts stmt_closed is_block stmt_span
decl_by {X} {Y} g asks items n place rest =
    ap (λ z. node_items asks items (map-AnyNode X Y g (nodes.StmtPart (stmt_parts.Decl n))) (Whole Statement) (ended z rest)) (decl_placed g asks n)
    ∙ decl_mapped g asks items n (Whole Statement) (ended (decl_span (place_of (λ x. asks (g x))) n) rest)

pub stmt_mapped : {X Y : Type 0} (g : X → Y) (asks : Y → Answers) (items : Y → Place → Part) (n : Stmt X) (place : Place) (rest : Plan) → node_items asks items (map-AnyNode X Y g (nodes.Stmt n)) place rest ≡ stmt (λ x. asks (g x)) (λ x. items (g x)) n rest
unfolding node_items stmt stmt_parts stmt_closed is_block stmt_span empty_stmt expr_stmt debugger_stmt with_stmt labeled_stmt break_stmt continue_stmt throw_stmt while_stmt loop_test do_while_stmt enclosed argument argument_in spaced
stmt_mapped g asks items (stmts.Return n) place rest = return_by g asks items n n.arg place rest
stmt_mapped g asks items (stmts.If n) place rest = if_by g asks items n n.alt place rest
stmt_mapped g asks items (stmts.Switch n) place rest = switch_mapped g asks items n place rest
stmt_mapped g asks items (stmts.Try n) place rest = try_by g asks items n n.handler n.finalizer place rest
stmt_mapped g asks items (stmts.For n) place rest = for_by g asks items n place n.init n.test n.update rest
stmt_mapped g asks items (stmts.ForIn n) place rest = for_in_by g asks items n n.left place rest
stmt_mapped g asks items (stmts.ForOf n) place rest = for_of_by g asks items n n.left place rest
stmt_mapped g asks items (stmts.Decl n) place rest = decl_by g asks items n place rest
stmt_mapped g asks items n place rest = refl

pub stmt_placed : {X Y : Type 0} (g : X → Y) (asks : Y → Answers) (n : Stmt X) → node_span (place_of asks) (map-AnyNode X Y g (nodes.Stmt n)) ≡ stmt_span (place_of (λ x. asks (g x))) n
unfolding node_span stmt_span stmt_part_span
stmt_placed g asks (stmts.Block n) = refl
stmt_placed g asks (stmts.Decl n) = decl_placed g asks n
stmt_placed g asks n = refl

-- a statement, as a child of a list
pub stmt_child_mapped : {X Y : Type 0} (g : X → Y) (asks : Y → Answers) (items : Y → Place → Part) (n : Stmt X) → child_at (node_span (place_of asks) (map-AnyNode X Y g (nodes.Stmt n))) (node_items asks items (map-AnyNode X Y g (nodes.Stmt n)) (Whole Plain)) ≡ child_at (stmt_span (place_of (λ x. asks (g x))) n) (stmt (λ x. asks (g x)) (λ x. items (g x)) n)
stmt_child_mapped g asks items n = child_same _ _ _ _ (stmt_placed g asks n) (stmt_mapped g asks items n (Whole Plain))
