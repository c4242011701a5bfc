-- The forms of statements and declarations over what links hold as something else.
use Rattle.std.proofs.Common.{◌≡◌, Bool, true, false, ◌&&◌, ◌||◌, not, is_none, cond, length, ◌==◌, refl, ◌∙◌, ap, ap₂, List, [], ◌∷◌, map, codes, Option, Some, None}
use Rattle.swc_ecma_codegen_tree.specs.declared.links.AnyNode.{AnyNode-F, map-AnyNode}
use Rattle.swc_ecma_codegen_tree.specs.declared.links.AnyNode.TheOpen as nodes
use Rattle.swc_ecma_codegen_tree.specs.Links.{BlockStmtBox, ExprBox, PatBox, StmtBox}
use Rattle.swc_ecma_codegen_tree.specs.declared.idents.Ident.{Ident}
use Rattle.swc_ecma_codegen_tree.specs.declared.parts.ExprPart.TheVariants as expr_parts
use Rattle.swc_ecma_codegen_tree.specs.declared.parts.StmtPart.TheVariants as stmt_parts
use Rattle.swc_ecma_codegen_tree.specs.declared.decls.Decl.{Decl}
use Rattle.swc_ecma_codegen_tree.specs.declared.decls.Decl.TheVariants as decls
use Rattle.swc_ecma_codegen_tree.specs.declared.decls.UsingDecl.{UsingDecl}
use Rattle.swc_ecma_codegen_tree.specs.declared.decls.VarDecl.{VarDecl}
use Rattle.swc_ecma_codegen_tree.specs.declared.decls.VarDeclKind.{VarDeclKind}
use Rattle.swc_ecma_codegen_tree.specs.declared.decls.VarDeclarator.{VarDeclarator}
use Rattle.swc_ecma_codegen_tree.specs.declared.pats.Pat.{Pat}
use Rattle.swc_ecma_codegen_tree.specs.declared.pats.Pat.TheVariants as pats
use Rattle.swc_ecma_codegen_tree.specs.declared.stmts.BlockStmt.{BlockStmt}
use Rattle.swc_ecma_codegen_tree.specs.declared.stmts.BreakStmt.{BreakStmt}
use Rattle.swc_ecma_codegen_tree.specs.declared.stmts.CatchClause.{CatchClause}
use Rattle.swc_ecma_codegen_tree.specs.declared.stmts.ContinueStmt.{ContinueStmt}
use Rattle.swc_ecma_codegen_tree.specs.declared.stmts.ForHead.{ForHead}
use Rattle.swc_ecma_codegen_tree.specs.declared.stmts.ForHead.TheVariants as heads
use Rattle.swc_ecma_codegen_tree.specs.declared.stmts.ForInStmt.{ForInStmt}
use Rattle.swc_ecma_codegen_tree.specs.declared.stmts.ForOfStmt.{ForOfStmt}
use Rattle.swc_ecma_codegen_tree.specs.declared.stmts.ForStmt.{ForStmt}
use Rattle.swc_ecma_codegen_tree.specs.declared.stmts.IfStmt.{IfStmt}
use Rattle.swc_ecma_codegen_tree.specs.declared.stmts.ReturnStmt.{ReturnStmt}
use Rattle.swc_ecma_codegen_tree.specs.declared.stmts.Stmt.{Stmt}
use Rattle.swc_ecma_codegen_tree.specs.declared.stmts.Stmt.TheVariants as stmts
use Rattle.swc_ecma_codegen_tree.specs.declared.stmts.SwitchCase.{SwitchCase}
use Rattle.swc_ecma_codegen_tree.specs.declared.stmts.SwitchStmt.{SwitchStmt}
use Rattle.swc_ecma_codegen_tree.specs.declared.stmts.TryStmt.{TryStmt}
use Rattle.swc_ecma_codegen_tree.specs.declared.stmts.VarDeclOrExpr.{VarDeclOrExpr}
use Rattle.swc_ecma_codegen_tree.specs.declared.stmts.VarDeclOrExpr.TheVariants as inits
use Rattle.swc_ecma_codegen_grammar.specs.Phrases.{mark, word, same_line, ending}
use Rattle.swc_ecma_codegen_grammar.specs.DeclPhrases.{var_kind}
use Rattle.swc_ecma_codegen_grammar.specs.TsDeclPhrases.{declare_word}
use Rattle.swc_ecma_codegen_grammar.specs.FunctionPhrases.{word_if}
use Rattle.swc_ecma_codegen_grammar.specs.declared.roles.Role.TheVariants.{Statement, Block, VariableDeclaration}
use Rattle.swc_ecma_codegen_grammar.proofs.MappedStmts.{by_init, by_test}
use Rattle.swc_ecma_codegen_grammar.proofs.MappedTemplates.{length_mapped}
use Rattle.swc_ecma_codegen_syntax.specs.declared.nonterminals.Nonterminal.{Nonterminal}
use Rattle.swc_ecma_codegen_syntax.specs.declared.nonterminals.Nonterminal.TheVariants as nt
use Rattle.swc_ecma_codegen_syntax.specs.declared.parameters.Parameters.{Parameters}
use Rattle.swc_ecma_codegen_syntax.specs.declared.lookahead.Lookahead.{Lookahead}
use Rattle.swc_ecma_codegen_syntax.specs.declared.lookahead.Lookahead.TheVariants.{ForStart}
use Rattle.swc_ecma_codegen_syntax.specs.Nonterminals.{takes}
use Rattle.swc_ecma_codegen_syntax.specs.Parameters.{of_bindings, of_declarations, of_loop, in_list, in_block, with_in, may_await}
use Rattle.swc_ecma_codegen_syntax.specs.Forms.{Form, Fixed, Provided, ByRule, ByScope, ByCore, ◌⇢◌, map_form}
use Rattle.swc_ecma_codegen_syntax.specs.NameForms.{name_form}
use Rattle.swc_ecma_codegen_syntax.specs.MemberForms.{expr_part}
use Rattle.swc_ecma_codegen_syntax.specs.DeclForms.{is_pattern, value_form, is_valued, declarator_form, declarators_form, is_const, is_single, of_kind, var_decl_form, is_resource_name, are_resource_names, are_resources, after_await_form, resources_form, using_form, decl_form, decl_nonterminal}
use Rattle.swc_ecma_codegen_syntax.specs.StmtForms.{expression_part, inner_part, optional_form, expr_stmt_form, with_form, return_rest_form, return_form, labeled_form, jump_form, break_form, continue_form, branches_form, if_form, case_test_form, clause_item_form, clause_list_form, case_form, is_case_block, switch_form, throw_form, catch_param_form, catch_form, handler_form, finalizer_form, try_form, while_form, do_while_form, for_init_form, for_form, head_form, is_of_head, for_in_form, of_start, for_of_form, stmt_form, stmt_nonterminal, is_empty, is_empty_node, begins_empty, list_form, block_form}
use Rattle.swc_ecma_codegen_syntax.specs.NodeForms.{stmt_part_form, node_form, part_form, part_nonterminal, node_nonterminal}
use Rattle.swc_ecma_codegen_syntax.specs.FunctionForms.{bound_name_form, fn_decl_form}
use Rattle.swc_ecma_codegen_syntax.proofs.Judged.{after_mapped, order_mapped}
use Rattle.swc_ecma_codegen_syntax.proofs.MappedPats.{pat_mapped, pat_sort_mapped}
use Rattle.swc_ecma_codegen_syntax.specs.ClassForms.{class_decl_form}

-- ---- declarations

-- what is asked of a pattern, as a part that a link holds
abbrev pattern_in : {X : Type 0} → AnyNode-F X → Bool
pattern_in (nodes.ExprPart (expr_parts.Pat n)) = is_pattern n
pattern_in n = false

is_pattern_mapped : {X Y : Type 0} (g : X → Y) (n : Pat X) → pattern_in (map-AnyNode X Y g (nodes.ExprPart (expr_parts.Pat n))) ≡ is_pattern n
unfolding is_pattern
is_pattern_mapped g (pats.Array n) = refl
is_pattern_mapped g n = refl

-- a declarator, by what is asked of its pattern
abbrev declared : {X : Type 0} → Bool → (Bool → Bool) → Bool → Nonterminal → Form X → Form X → Form X
declared definite valued pattern place name value = Provided ByScope (not definite) (Provided ByRule (valued pattern && takes nt.PatternTarget place) (name ⇢ value))

declared_same : {X : Type 0} (definite : Bool) (valued : Bool → Bool) (p q : Bool) (s t : Nonterminal) (a b value : Form X) → p ≡ q → s ≡ t → a ≡ b → declared definite valued p s a value ≡ declared definite valued q t b value
declared_same definite valued p q s t a b value e h k =
    ap (λ z. declared definite valued z s a value) e ∙ ap (λ z. declared definite valued q z a value) h ∙ ap (λ z. declared definite valued q t z value) k

declarators_mapped : {X Y : Type 0} (g : X → Y) (h : VarDeclarator X → VarDeclarator Y) (c : Parameters) (constant : Bool) → ((n : VarDeclarator X) → declarator_form c constant (h n) ≡ map_form g (declarator_form c constant n)) →
    (xs : List (VarDeclarator X)) → declarators_form c constant (map h xs) ≡ map_form g (declarators_form c constant xs)
unfolding declarators_form map_form
declarators_mapped g h c constant same [] = refl
declarators_mapped g h c constant same (x ∷ xs) = ap₂ (λ a b. a ⇢ b) (same x) (after_mapped g h (codes ",") (declarator_form c constant) (declarator_form c constant) same xs)

-- a declaration of variables, by its list
abbrev declaration : {X : Type 0} → Parameters → Bool → VarDeclKind → List (VarDeclarator X) → Form X
declaration c declare kind xs =
    Provided ByScope (not declare) (Provided ByRule (not c.is_loop_head || length xs == 1) (Fixed (declare_word declare) ⇢ Fixed (var_kind kind) ⇢ declarators_form (of_kind kind c) (is_const kind) xs))

declaration_mapped : {X Y : Type 0} (g : X → Y) (h : VarDeclarator X → VarDeclarator Y) (c : Parameters) (declare : Bool) (kind : VarDeclKind) →
    ((n : VarDeclarator X) → declarator_form (of_kind kind c) (is_const kind) (h n) ≡ map_form g (declarator_form (of_kind kind c) (is_const kind) n)) → (xs : List (VarDeclarator X)) → declaration c declare kind (map h xs) ≡ map_form g (declaration c declare kind xs)
unfolding map_form
declaration_mapped g h c declare kind same xs =
    ap₂ (λ b a. Provided ByScope (not declare) (Provided ByRule (not c.is_loop_head || b == 1) (Fixed (declare_word declare) ⇢ Fixed (var_kind kind) ⇢ a))) (length_mapped h xs) (declarators_mapped g h (of_kind kind c) (is_const kind) same xs)

-- whether a value is there or none
abbrev valued_by : Parameters → Bool → Bool → Bool → Bool
valued_by c constant init pattern = cond c.is_loop_head (not init || (c.initializes && not pattern)) (init || not (constant || pattern))

pub var_decl_mapped : {X Y : Type 0} (g : X → Y) (called : Bool) (c : Parameters) (n : VarDecl X) → node_form called c (map-AnyNode X Y g (nodes.StmtPart (stmt_parts.VarDecl n))) VariableDeclaration ≡ map_form g (var_decl_form c n)
unfolding node_form part_form node_nonterminal part_nonterminal stmt_part_form is_single var_decl_form declarator_form is_valued value_form map_form
var_decl_mapped {X} {Y} g called c n = declaration_mapped {X = X} {Y = Y} g _ c n.declare n.kind (by_init {X = X} _
    (λ span name definite. declared_same definite (valued_by (of_kind n.kind c) (is_const n.kind) false) _ _ _ _ _ _ _ (is_pattern_mapped g name) (pat_sort_mapped g false (of_kind n.kind c) name) (pat_mapped g false (of_bindings (of_kind n.kind c)) name))
    (λ span name init definite. declared_same definite (valued_by (of_kind n.kind c) (is_const n.kind) true) _ _ _ _ _ _ _ (is_pattern_mapped g name) (pat_sort_mapped g false (of_kind n.kind c) name) (pat_mapped g false (of_bindings (of_kind n.kind c)) name))) n.decls.items

-- what `using` declares
abbrev resource_in : {X : Type 0} → Bool → AnyNode-F X → Bool
resource_in bars_of (nodes.ExprPart (expr_parts.Pat n)) = is_resource_name bars_of n
resource_in bars_of n = false

resource_mapped : {X Y : Type 0} (g : X → Y) (bars_of : Bool) (n : Pat X) → resource_in bars_of (map-AnyNode X Y g (nodes.ExprPart (expr_parts.Pat n))) ≡ is_resource_name bars_of n
unfolding is_resource_name
resource_mapped g bars_of (pats.Ident n) = refl
resource_mapped g bars_of n = refl

resources_named : {X Y : Type 0} (h : VarDeclarator X → VarDeclarator Y) (bars_of : Bool) → ((n : VarDeclarator X) → is_resource_name bars_of (h n).name ≡ is_resource_name bars_of n.name) →
    (xs : List (VarDeclarator X)) → are_resource_names bars_of (map h xs) ≡ are_resource_names bars_of xs
unfolding are_resource_names
resources_named h bars_of same [] = refl
resources_named h bars_of same (x ∷ xs) = ap₂ (λ a b. a && b) (same x) (resources_named h bars_of same xs)

abbrev used : {X : Type 0} → Bool → Bool → Form X → Form X
used is_await condition a = Provided ByRule condition (after_await_form is_await (Fixed (word (codes "using")) ⇢ Fixed same_line ⇢ a))

used_mapped : {X Y : Type 0} (g : X → Y) (is_await condition : Bool) (a : Form X) → used is_await condition (map_form g a) ≡ map_form g (used is_await condition a)
unfolding map_form after_await_form
used_mapped g true condition a = refl
used_mapped g false condition a = refl

resources_mapped : {X Y : Type 0} (g : X → Y) (h : VarDeclarator X → VarDeclarator Y) (c : Parameters) (is_await : Bool) →
    ((bars_of : Bool) (n : VarDeclarator X) → is_resource_name bars_of (h n).name ≡ is_resource_name bars_of n.name) →
    ((n : VarDeclarator X) → declarator_form c true (h n) ≡ map_form g (declarator_form c true n)) → (xs : List (VarDeclarator X)) → resources_form c is_await (map h xs) ≡ map_form g (resources_form c is_await xs)
unfolding resources_form are_resources
resources_mapped g h c is_await named same xs =
    ap₂ (λ b a. used is_await b a) (ap₂ (λ l b. (not is_await || may_await c) && ((not c.is_loop_head || l == 1) && b)) (length_mapped h xs) (resources_named h (c.is_loop_head && not is_await) (named (c.is_loop_head && not is_await)) xs))
    (declarators_mapped g h c true same xs) ∙ used_mapped g is_await (are_resources c is_await xs) (declarators_form c true xs)

using_declared : {X Y : Type 0} (g : X → Y) (called : Bool) (c : Parameters) (n : UsingDecl X) → node_form called c (map-AnyNode X Y g (nodes.Stmt (stmts.Decl (decls.Using n)))) Statement ≡ map_form g (decl_form c (decls.Using n))
unfolding node_form part_form node_nonterminal part_nonterminal stmt_form decl_form using_form declarator_form is_valued value_form map_form
using_declared {X} {Y} g called c n = ap (λ a. Provided ByCore false (Provided ByRule (not c.bars_using) (a ⇢ Fixed ending)))
    (resources_mapped {X = X} {Y = Y} g _ (of_declarations c) n.is_await
    (λ bars_of. by_init {X = X} _ (λ span name definite. resource_mapped g bars_of name) (λ span name init definite. resource_mapped g bars_of name))
    (by_init {X = X} _
    (λ span name definite. declared_same definite (valued_by (of_declarations c) true false) _ _ _ _ _ _ _ (is_pattern_mapped g name) (pat_sort_mapped g false (of_declarations c) name) (pat_mapped g false (of_bindings (of_declarations c)) name))
    (λ span name init definite. declared_same definite (valued_by (of_declarations c) true true) _ _ _ _ _ _ _ (is_pattern_mapped g name) (pat_sort_mapped g false (of_declarations c) name) (pat_mapped g false (of_bindings (of_declarations c)) name))) n.decls.items)

pub decl_mapped : {X Y : Type 0} (g : X → Y) (called : Bool) (c : Parameters) (n : Decl X) → node_form called c (map-AnyNode X Y g (nodes.Stmt (stmts.Decl n))) Statement ≡ map_form g (decl_form c n)
unfolding node_form stmt_part_form stmt_form decl_form fn_decl_form class_decl_form bound_name_form name_form map_form
decl_mapped g called c (decls.Var n) = ap (λ a. a ⇢ Fixed ending) (var_decl_mapped g called (of_declarations c) n)
decl_mapped g called c (decls.Fn n) = refl
decl_mapped g called c (decls.Class n) = refl
decl_mapped g called c (decls.Using n) = using_declared g called c n
decl_mapped g called c n = refl

-- ---- statements

return_by : {X Y : Type 0} (g : X → Y) (called : Bool) (c : Parameters) (n : ReturnStmt X) (arg : Option (ExprBox X)) → node_form called c (map-AnyNode X Y g (nodes.Stmt (stmts.Return (record n { arg = arg })))) Statement ≡ map_form g (return_form c (record n { arg = arg }))
unfolding node_form stmt_form return_form return_rest_form map_form
return_by g called c n None = refl
return_by g called c n (Some x) = refl

break_by : {X Y : Type 0} (g : X → Y) (called : Bool) (c : Parameters) (n : BreakStmt) (label : Option Ident) → node_form called c (map-AnyNode X Y g (nodes.Stmt (stmts.Break (record n { label = label })))) Statement ≡ map_form g (break_form {X = X} c (record n { label = label }))
unfolding node_form stmt_form break_form jump_form name_form map_form
break_by g called c n None = refl
break_by g called c n (Some x) = refl

continue_by : {X Y : Type 0} (g : X → Y) (called : Bool) (c : Parameters) (n : ContinueStmt) (label : Option Ident) → node_form called c (map-AnyNode X Y g (nodes.Stmt (stmts.Continue (record n { label = label })))) Statement ≡ map_form g (continue_form {X = X} c (record n { label = label }))
unfolding node_form stmt_form continue_form jump_form name_form map_form
continue_by g called c n None = refl
continue_by g called c n (Some x) = refl

if_by : {X Y : Type 0} (g : X → Y) (called : Bool) (c : Parameters) (n : IfStmt X) (alt : Option (StmtBox X)) → node_form called c (map-AnyNode X Y g (nodes.Stmt (stmts.If (record n { alt = alt })))) Statement ≡ map_form g (if_form c (record n { alt = alt }))
unfolding node_form stmt_form if_form branches_form map_form
if_by g called c n None = refl
if_by g called c n (Some x) = refl

clause_item_mapped : {X Y : Type 0} (g : X → Y) (h : StmtBox X → StmtBox Y) (c : Parameters) → ((x : StmtBox X) → clause_item_form c (h x) [] ≡ map_form g (clause_item_form c x [])) →
    ((x y : StmtBox X) → clause_item_form c (h x) (h y ∷ []) ≡ map_form g (clause_item_form c x (y ∷ []))) → (x : StmtBox X) (xs : List (StmtBox X)) → clause_item_form c (h x) (map h xs) ≡ map_form g (clause_item_form c x xs)
unfolding clause_item_form map_form
clause_item_mapped g h c last front x [] = last x
clause_item_mapped g h c last front x (y ∷ xs) = front x y

clause_list_mapped : {X Y : Type 0} (g : X → Y) (h : StmtBox X → StmtBox Y) (c : Parameters) → ((x : StmtBox X) → clause_item_form c (h x) [] ≡ map_form g (clause_item_form c x [])) →
    ((x y : StmtBox X) → clause_item_form c (h x) (h y ∷ []) ≡ map_form g (clause_item_form c x (y ∷ []))) → (xs : List (StmtBox X)) → clause_list_form c (map h xs) ≡ map_form g (clause_list_form c xs)
unfolding clause_list_form map_form
clause_list_mapped g h c last front [] = refl
clause_list_mapped g h c last front (x ∷ xs) = ap₂ (λ a b. a ⇢ b) (clause_item_mapped g h c last front x xs) (clause_list_mapped g h c last front xs)

case_mapped : {X Y : Type 0} (g : X → Y) (h : StmtBox X → StmtBox Y) (c : Parameters) → ((x : StmtBox X) → clause_item_form c (h x) [] ≡ map_form g (clause_item_form c x [])) →
    ((x y : StmtBox X) → clause_item_form c (h x) (h y ∷ []) ≡ map_form g (clause_item_form c x (y ∷ []))) → (test : Form Y) (xs : List (StmtBox X)) →
    (test ⇢ Fixed (mark (codes ":")) ⇢ clause_list_form c (map h xs)) ≡ (test ⇢ Fixed (mark (codes ":")) ⇢ map_form g (clause_list_form c xs))
case_mapped g h c last front test xs = ap (λ a. test ⇢ Fixed (mark (codes ":")) ⇢ a) (clause_list_mapped g h c last front xs)

case_block_mapped : {X Y : Type 0} (h : SwitchCase X → SwitchCase Y) → ((x : SwitchCase X) → is_none (h x).test ≡ is_none x.test) → (seen : Bool) (xs : List (SwitchCase X)) → is_case_block seen (map h xs) ≡ is_case_block seen xs
unfolding is_case_block
case_block_mapped h same seen [] = refl
case_block_mapped h same seen (x ∷ xs) =
    ap₂ (λ a b. not (seen && a) && b) (same x) (ap (λ a. is_case_block (seen || a) (map h xs)) (same x) ∙ case_block_mapped h same (seen || is_none x.test) xs)

switch_mapped : {X Y : Type 0} (g : X → Y) (called : Bool) (c : Parameters) (n : SwitchStmt X) → node_form called c (map-AnyNode X Y g (nodes.Stmt (stmts.Switch n))) Statement ≡ map_form g (switch_form c n)
unfolding node_form stmt_form switch_form case_form case_test_form clause_item_form map_form
switch_mapped {X} {Y} g called c n =
    ap₂ (λ b a. Provided ByRule b (Fixed (word (codes "switch")) ⇢ Fixed (mark (codes "(")) ⇢ map_form g (expression_part c n.discriminant) ⇢ Fixed (mark (codes ")")) ⇢ Fixed (mark (codes "{")) ⇢ a ⇢ Fixed (mark (codes "}"))))
    (case_block_mapped {X = X} {Y = Y} _ (by_test {X = X} _ (λ span cons. refl) (λ span test cons. refl)) false n.cases.items)
    (order_mapped {A = SwitchCase X} g _ (case_form c) (case_form c) (by_test {X = X} _
    (λ span cons. case_mapped {X = X} {Y = Y} g _ c (λ s. refl) (λ s r. refl) _ cons.items) (λ span test cons. case_mapped {X = X} {Y = Y} g _ c (λ s. refl) (λ s r. refl) _ cons.items)) n.cases.items)

caught_by : {X Y : Type 0} (g : X → Y) (called : Bool) (c : Parameters) (n : TryStmt X) (k : CatchClause X) (param : Option (PatBox X)) (last : Option (BlockStmtBox X)) →
    node_form called c (map-AnyNode X Y g (nodes.Stmt (stmts.Try (record n { handler = Some (record k { param = param }); finalizer = last })))) Statement ≡ map_form g (try_form c (record n { handler = Some (record k { param = param }); finalizer = last }))
unfolding node_form stmt_form try_form handler_form catch_form catch_param_form finalizer_form map_form
caught_by g called c n k None None = refl
caught_by g called c n k None (Some b) = refl
caught_by g called c n k (Some p) None = refl
caught_by g called c n k (Some p) (Some b) = refl

try_by : {X Y : Type 0} (g : X → Y) (called : Bool) (c : Parameters) (n : TryStmt X) (caught : Option (CatchClause X)) (last : Option (BlockStmtBox X)) →
    node_form called c (map-AnyNode X Y g (nodes.Stmt (stmts.Try (record n { handler = caught; finalizer = last })))) Statement ≡ map_form g (try_form c (record n { handler = caught; finalizer = last }))
unfolding node_form stmt_form try_form handler_form finalizer_form map_form
try_by g called c n None None = refl
try_by g called c n None (Some b) = refl
try_by g called c n (Some k) last = caught_by g called c n k k.param last

-- ---- loops

for_by : {X Y : Type 0} (g : X → Y) (called : Bool) (c : Parameters) (n : ForStmt X) (init : Option (VarDeclOrExpr X)) (test update : Option (ExprBox X)) →
    node_form called c (map-AnyNode X Y g (nodes.Stmt (stmts.For (record n { init = init; test = test; update = update })))) Statement ≡ map_form g (for_form c (record n { init = init; test = test; update = update }))
unfolding node_form stmt_form for_form for_init_form optional_form map_form
for_by g called c n None None None = refl
for_by g called c n None None (Some u) = refl
for_by g called c n None (Some t) None = refl
for_by g called c n None (Some t) (Some u) = refl
for_by g called c n (Some (inits.VarDecl i)) None None = refl
for_by g called c n (Some (inits.VarDecl i)) None (Some u) = refl
for_by g called c n (Some (inits.VarDecl i)) (Some t) None = refl
for_by g called c n (Some (inits.VarDecl i)) (Some t) (Some u) = refl
for_by g called c n (Some (inits.Expr i)) None None = refl
for_by g called c n (Some (inits.Expr i)) None (Some u) = refl
for_by g called c n (Some (inits.Expr i)) (Some t) None = refl
for_by g called c n (Some (inits.Expr i)) (Some t) (Some u) = refl

using_in_head : {X Y : Type 0} (g : X → Y) (h : VarDeclarator X → VarDeclarator Y) (c : Parameters) (is_await : Bool) →
    ((bars_of : Bool) (n : VarDeclarator X) → is_resource_name bars_of (h n).name ≡ is_resource_name bars_of n.name) →
    ((n : VarDeclarator X) → declarator_form (of_loop false c) true (h n) ≡ map_form g (declarator_form (of_loop false c) true n)) → (lookahead : Lookahead) (xs : List (VarDeclarator X)) →
    Provided ByCore false (Provided ByRule (is_of_head lookahead) (resources_form (of_loop false c) is_await (map h xs))) ≡ map_form g (Provided ByCore false (Provided ByRule (is_of_head lookahead) (resources_form (of_loop false c) is_await xs)))
unfolding map_form
using_in_head g h c is_await named same lookahead xs = ap (λ a. Provided ByCore false (Provided ByRule (is_of_head lookahead) a)) (resources_mapped g h (of_loop false c) is_await named same xs)

for_in_by : {X Y : Type 0} (g : X → Y) (called : Bool) (c : Parameters) (n : ForInStmt X) (left : ForHead X) → node_form called c (map-AnyNode X Y g (nodes.Stmt (stmts.ForIn (record n { left = left })))) Statement ≡ map_form g (for_in_form c (record n { left = left }))
unfolding node_form part_form node_nonterminal part_nonterminal stmt_form for_in_form head_form using_form declarator_form is_valued value_form map_form
for_in_by g called c n (heads.VarDecl h) = refl
for_in_by {X} {Y} g called c n (heads.UsingDecl h) =
    ap (λ a. Fixed (word (codes "for")) ⇢ Fixed (mark (codes "(")) ⇢ a ⇢ Fixed (word (codes "in")) ⇢ map_form g (expression_part c n.right) ⇢ Fixed (mark (codes ")")) ⇢ map_form g (inner_part c n.body))
    (using_in_head {X = X} {Y = Y} g _ c h.value.is_await
    (λ bars_of. by_init {X = X} _ (λ span name definite. resource_mapped g bars_of name) (λ span name init definite. resource_mapped g bars_of name))
    (by_init {X = X} _
    (λ span name definite. declared_same definite (valued_by (of_loop false c) true false) _ _ _ _ _ _ _ (is_pattern_mapped g name) (pat_sort_mapped g false (of_loop false c) name) (pat_mapped g false (of_bindings (of_loop false c)) name))
    (λ span name init definite. declared_same definite (valued_by (of_loop false c) true true) _ _ _ _ _ _ _ (is_pattern_mapped g name) (pat_sort_mapped g false (of_loop false c) name) (pat_mapped g false (of_bindings (of_loop false c)) name))) ForStart h.value.decls.items)
for_in_by g called c n (heads.Pat h) = refl

for_of_by : {X Y : Type 0} (g : X → Y) (called : Bool) (c : Parameters) (n : ForOfStmt X) (left : ForHead X) → node_form called c (map-AnyNode X Y g (nodes.Stmt (stmts.ForOf (record n { left = left })))) Statement ≡ map_form g (for_of_form c (record n { left = left }))
unfolding node_form part_form node_nonterminal part_nonterminal stmt_form for_of_form head_form using_form declarator_form is_valued value_form map_form
for_of_by g called c n (heads.VarDecl h) = refl
for_of_by {X} {Y} g called c n (heads.UsingDecl h) =
    ap (λ a. Provided ByRule (not n.is_await || may_await c) (Fixed (word (codes "for")) ⇢ Fixed (word_if n.is_await (word (codes "await"))) ⇢ Fixed (mark (codes "(")) ⇢ a ⇢ Fixed (word (codes "of"))
    ⇢ map_form g (expr_part nt.AssignmentExpression (with_in c) n.right) ⇢ Fixed (mark (codes ")")) ⇢ map_form g (inner_part c n.body)))
    (using_in_head {X = X} {Y = Y} g _ c h.value.is_await
    (λ bars_of. by_init {X = X} _ (λ span name definite. resource_mapped g bars_of name) (λ span name init definite. resource_mapped g bars_of name))
    (by_init {X = X} _
    (λ span name definite. declared_same definite (valued_by (of_loop false c) true false) _ _ _ _ _ _ _ (is_pattern_mapped g name) (pat_sort_mapped g false (of_loop false c) name) (pat_mapped g false (of_bindings (of_loop false c)) name))
    (λ span name init definite. declared_same definite (valued_by (of_loop false c) true true) _ _ _ _ _ _ _ (is_pattern_mapped g name) (pat_sort_mapped g false (of_loop false c) name) (pat_mapped g false (of_bindings (of_loop false c)) name))) (of_start n.is_await) h.value.decls.items)
for_of_by g called c n (heads.Pat h) = refl

pub stmt_mapped : {X Y : Type 0} (g : X → Y) (called : Bool) (c : Parameters) (n : Stmt X) → node_form called c (map-AnyNode X Y g (nodes.Stmt n)) Statement ≡ map_form g (stmt_form c n)
unfolding node_form stmt_form expr_stmt_form with_form labeled_form throw_form while_form do_while_form name_form map_form
stmt_mapped g called c (stmts.Return n) = return_by g called c n n.arg
stmt_mapped g called c (stmts.Break n) = break_by g called c n n.label
stmt_mapped g called c (stmts.Continue n) = continue_by g called c n n.label
stmt_mapped g called c (stmts.If n) = if_by g called c n n.alt
stmt_mapped g called c (stmts.Switch n) = switch_mapped g called c n
stmt_mapped g called c (stmts.Try n) = try_by g called c n n.handler n.finalizer
stmt_mapped g called c (stmts.For n) = for_by g called c n n.init n.test n.update
stmt_mapped g called c (stmts.ForIn n) = for_in_by g called c n n.left
stmt_mapped g called c (stmts.ForOf n) = for_of_by g called c n n.left
stmt_mapped g called c (stmts.Decl n) = decl_mapped g called c n
stmt_mapped g called c n = refl

pub decl_sort_mapped : {X Y : Type 0} (g : X → Y) (called : Bool) (c : Parameters) (n : Decl X) → node_nonterminal called c (map-AnyNode X Y g (nodes.Stmt (stmts.Decl n))) Statement ≡ decl_nonterminal n
unfolding node_nonterminal stmt_nonterminal decl_nonterminal
decl_sort_mapped g called c (decls.Var n) = refl
decl_sort_mapped g called c (decls.Fn n) = refl
decl_sort_mapped g called c n = refl

pub stmt_sort_mapped : {X Y : Type 0} (g : X → Y) (called : Bool) (c : Parameters) (n : Stmt X) → node_nonterminal called c (map-AnyNode X Y g (nodes.Stmt n)) Statement ≡ stmt_nonterminal n
unfolding node_nonterminal stmt_nonterminal
stmt_sort_mapped g called c (stmts.Decl n) = decl_sort_mapped g called c n
stmt_sort_mapped g called c n = refl

-- ---- lists of statements

pub empty_mapped : {X Y : Type 0} (g : X → Y) (n : Stmt X) → is_empty_node (map-AnyNode X Y g (nodes.Stmt n)) ≡ is_empty n
unfolding is_empty_node is_empty
empty_mapped g (stmts.Empty n) = refl
empty_mapped g n = refl

pub empty_node_mapped : {X Y : Type 0} (g : X → Y) (n : AnyNode-F X) → is_empty_node (map-AnyNode X Y g n) ≡ is_empty_node n
unfolding is_empty_node
empty_node_mapped g (nodes.Stmt n) = empty_mapped g n
empty_node_mapped g n = refl

begins_mapped : {X Y : Type 0} (h : Stmt X → Stmt Y) → ((n : Stmt X) → is_empty (h n) ≡ is_empty n) → (xs : List (Stmt X)) → begins_empty (map h xs) ≡ begins_empty xs
unfolding begins_empty
begins_mapped h same [] = refl
begins_mapped h same (x ∷ xs) = same x

pub list_mapped : {X Y : Type 0} (g : X → Y) (h : Stmt X → Stmt Y) (c : Parameters) → ((n : Stmt X) → is_empty (h n) ≡ is_empty n) → ((d : Parameters) (n : Stmt X) → stmt_form d (h n) ≡ map_form g (stmt_form d n)) →
    (xs : List (Stmt X)) → list_form c (map h xs) ≡ map_form g (list_form c xs)
unfolding list_form map_form
list_mapped g h c empty same [] = refl
list_mapped g h c empty same (x ∷ xs) =
    ap₂ (λ a b. a ⇢ b) (ap (λ b. stmt_form (in_list b c) (h x)) (begins_mapped h empty xs) ∙ same (in_list (begins_empty xs) c) x) (list_mapped g h c empty same xs)

pub block_mapped : {X Y : Type 0} (g : X → Y) (called : Bool) (c : Parameters) (n : BlockStmt X) → node_form called c (map-AnyNode X Y g (nodes.StmtPart (stmt_parts.BlockStmt n))) Block ≡ map_form g (block_form c n)
unfolding node_form stmt_part_form block_form is_empty_node map_form
block_mapped {X} {Y} g called c n =
    ap (λ a. Fixed (mark (codes "{")) ⇢ a ⇢ Fixed (mark (codes "}"))) (list_mapped {X = X} {Y = Y} g _ (in_block c) (empty_mapped g) (λ d. stmt_mapped g called d) n.stmts.items)
