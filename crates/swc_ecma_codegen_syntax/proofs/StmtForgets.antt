-- Without nonterminals the forms of statements are the productions that tell their tokens, where they keep their structure.
use Rattle.std.proofs.Common.{◌≡◌, Bool, true, false, ◌&&◌, ◌||◌, not, refl, sym, ◌∙◌, ap, ap₂, List, [], ◌∷◌, map, codes, Option, Some, None}
use Rattle.std.proofs.lemmas.Bool.{true≢false, and_parts}
use Rattle.swc_ecma_codegen_tree.specs.Links.{BlockStmtBox, ExprBox, PatBox, StmtBox}
use Rattle.swc_ecma_codegen_tree.specs.declared.idents.Ident.{Ident}
use Rattle.swc_ecma_codegen_tree.specs.declared.decls.Decl.{Decl}
use Rattle.swc_ecma_codegen_tree.specs.declared.decls.Decl.TheVariants as decls
use Rattle.swc_ecma_codegen_tree.specs.declared.decls.UsingDecl.{UsingDecl}
use Rattle.swc_ecma_codegen_tree.specs.declared.decls.VarDecl.{VarDecl}
use Rattle.swc_ecma_codegen_tree.specs.declared.decls.VarDeclarator.{VarDeclarator}
use Rattle.swc_ecma_codegen_tree.specs.declared.stmts.BlockStmt.{BlockStmt}
use Rattle.swc_ecma_codegen_tree.specs.declared.stmts.CatchClause.{CatchClause}
use Rattle.swc_ecma_codegen_tree.specs.declared.stmts.ForHead.{ForHead}
use Rattle.swc_ecma_codegen_tree.specs.declared.stmts.ForHead.TheVariants as heads
use Rattle.swc_ecma_codegen_tree.specs.declared.stmts.ForInStmt.{ForInStmt}
use Rattle.swc_ecma_codegen_tree.specs.declared.stmts.ForOfStmt.{ForOfStmt}
use Rattle.swc_ecma_codegen_tree.specs.declared.stmts.ForStmt.{ForStmt}
use Rattle.swc_ecma_codegen_tree.specs.declared.stmts.IfStmt.{IfStmt}
use Rattle.swc_ecma_codegen_tree.specs.declared.stmts.ReturnStmt.{ReturnStmt}
use Rattle.swc_ecma_codegen_tree.specs.declared.stmts.Stmt.{Stmt}
use Rattle.swc_ecma_codegen_tree.specs.declared.stmts.Stmt.TheVariants as stmts
use Rattle.swc_ecma_codegen_tree.specs.declared.stmts.SwitchCase.{SwitchCase}
use Rattle.swc_ecma_codegen_tree.specs.declared.stmts.SwitchStmt.{SwitchStmt}
use Rattle.swc_ecma_codegen_tree.specs.declared.stmts.TryStmt.{TryStmt}
use Rattle.swc_ecma_codegen_tree.specs.declared.stmts.VarDeclOrExpr.{VarDeclOrExpr}
use Rattle.swc_ecma_codegen_tree.specs.declared.stmts.VarDeclOrExpr.TheVariants as inits
use Rattle.swc_ecma_codegen_grammar.specs.Phrases.{Phrase, Then, ◌>◌, word, mark, same_line, ending}
use Rattle.swc_ecma_codegen_grammar.specs.Phrases as phrases
use Rattle.swc_ecma_codegen_grammar.specs.PatPhrases.{value_at, initializer}
use Rattle.swc_ecma_codegen_grammar.specs.FunctionPhrases.{word_if, block_at}
use Rattle.swc_ecma_codegen_grammar.specs.TsDeclPhrases.{declare_word}
use Rattle.swc_ecma_codegen_grammar.specs.DeclPhrases.{declared_pat, var_declarator, var_kind, var_decl, after_await, using_decl, decl}
use Rattle.swc_ecma_codegen_grammar.specs.StmtPhrases.{stmt_at, optional_value, expr_stmt, with_stmt, return_rest, return_stmt, labeled_stmt, jump_rest, break_stmt, continue_stmt, else_branch, if_stmt, case_test, switch_case, switch_stmt, throw_stmt, catch_param, catch_clause, handler, finalizer, try_stmt, while_stmt, do_while_stmt, var_decl_or_expr, for_init, for_stmt, for_head, for_in_stmt, for_of_stmt, stmt, block_stmt}
use Rattle.swc_ecma_codegen_grammar.specs.declared.roles.Role.{Role}
use Rattle.swc_ecma_codegen_syntax.specs.declared.lookahead.Lookahead.{Lookahead}
use Rattle.swc_ecma_codegen_syntax.specs.declared.lookahead.Lookahead.TheVariants.{ForStart}
use Rattle.swc_ecma_codegen_syntax.specs.declared.parameters.Parameters.{Parameters}
use Rattle.swc_ecma_codegen_syntax.specs.Summary.{Summary}
use Rattle.swc_ecma_codegen_syntax.specs.Parameters.{of_bindings, of_declarations, of_loop, in_list, in_block, may_await}
use Rattle.swc_ecma_codegen_syntax.specs.Forms.{ByRule, ByScope, forget, keeps, is_met, each_after}
use Rattle.swc_ecma_codegen_syntax.specs.NameForms.{name_form}
use Rattle.swc_ecma_codegen_syntax.specs.DeclForms.{value_form, declarator_form, declarators_form, is_const, is_single, of_kind, var_decl_form, are_resources, after_await_form, resources_form, using_form, decl_form}
use Rattle.swc_ecma_codegen_syntax.specs.StmtForms.{optional_form, expr_stmt_form, with_form, return_rest_form, return_form, labeled_form, jump_form, break_form, continue_form, branches_form, if_form, case_test_form, clause_item_form, clause_list_form, case_form, switch_form, throw_form, catch_param_form, catch_form, handler_form, finalizer_form, try_form, while_form, do_while_form, for_init_form, for_form, head_form, is_of_head, for_in_form, of_start, for_of_form, stmt_form, begins_empty, list_form, block_form}
use Rattle.swc_ecma_codegen_syntax.specs.Verdicts.{Grammar}
use Rattle.swc_ecma_codegen_syntax.proofs.FunctionForgets.{fn_decl_forgets}
use Rattle.swc_ecma_codegen_syntax.proofs.Judged.{order_forgets, map_same}
use Rattle.swc_ecma_codegen_syntax.proofs.Forgets.{kept_after}
use Rattle.swc_ecma_codegen_syntax.proofs.PatForgets.{pat_forgets}
use Rattle.swc_ecma_codegen_syntax.proofs.ClassForgets.{class_decl_forgets}

-- ---- declarations

value_forgets : {X : Type 0} (p : X → Role → Phrase) (c : Parameters) (n : Option (ExprBox X)) → forget p (value_form c n) ≡ initializer p n
unfolding forget value_form initializer
value_forgets p c None = refl
value_forgets p c (Some n) = refl

declarator_by : {X : Type 0} (grammar : Grammar) (f : X → Role → Parameters → Summary) (p : X → Role → Phrase) (c : Parameters) (constant : Bool) (n : VarDeclarator X) (definite : Bool) →
    keeps grammar f (declarator_form c constant (record n { definite = definite })) ≡ true → forget p (declarator_form c constant (record n { definite = definite })) ≡ var_declarator p (record n { definite = definite })
unfolding forget keeps is_met declarator_form var_declarator declared_pat
declarator_by grammar f p c constant n false k = ap₂ Then (pat_forgets p false (of_bindings c) n.name) (value_forgets p c n.init)
declarator_by grammar f p c constant n true k = absurd (true≢false (sym k))

declarator_forgets : {X : Type 0} (grammar : Grammar) (f : X → Role → Parameters → Summary) (p : X → Role → Phrase) (c : Parameters) (constant : Bool) (n : VarDeclarator X) →
    keeps grammar f (declarator_form c constant n) ≡ true → forget p (declarator_form c constant n) ≡ var_declarator p n
declarator_forgets grammar f p c constant n k = declarator_by grammar f p c constant n n.definite k

declarators_forget : {X : Type 0} (grammar : Grammar) (f : X → Role → Parameters → Summary) (p : X → Role → Phrase) (c : Parameters) (constant : Bool) (xs : List (VarDeclarator X)) →
    keeps grammar f (declarators_form c constant xs) ≡ true → forget p (declarators_form c constant xs) ≡ phrases.some_listed (codes ",") (map (var_declarator p) xs)
unfolding forget keeps declarators_form phrases.some_listed
declarators_forget grammar f p c constant [] k = refl
declarators_forget grammar f p c constant (x ∷ xs) k =
    let (h, l) = and_parts (keeps grammar f (declarator_form c constant x)) (keeps grammar f (each_after (codes ",") (declarator_form c constant) xs)) k in
    ap₂ Then (declarator_forgets grammar f p c constant x h) (kept_after grammar f p (codes ",") (declarator_form c constant) (var_declarator p) (declarator_forgets grammar f p c constant) xs l)

pub var_decl_forgets : {X : Type 0} (grammar : Grammar) (f : X → Role → Parameters → Summary) (p : X → Role → Phrase) (c : Parameters) (n : VarDecl X) →
    keeps grammar f (var_decl_form c n) ≡ true → forget p (var_decl_form c n) ≡ var_decl p n
unfolding forget keeps var_decl_form var_decl
var_decl_forgets grammar f p c n k =
    let (h, l) = and_parts (is_met grammar ByScope (not n.declare)) (is_met grammar ByRule (is_single c n) && keeps grammar f (declarators_form (of_kind n.kind c) (is_const n.kind) n.decls.items)) k in
    let (i, j) = and_parts (is_met grammar ByRule (is_single c n)) (keeps grammar f (declarators_form (of_kind n.kind c) (is_const n.kind) n.decls.items)) l in
    ap (λ q. declare_word n.declare > var_kind n.kind > q) (declarators_forget grammar f p (of_kind n.kind c) (is_const n.kind) n.decls.items j)

using_by : {X : Type 0} (grammar : Grammar) (f : X → Role → Parameters → Summary) (p : X → Role → Phrase) (c : Parameters) (is_await : Bool) (xs : List (VarDeclarator X)) →
    keeps grammar f (resources_form c is_await xs) ≡ true →
    forget p (resources_form c is_await xs) ≡ after_await is_await (word (codes "using") > same_line > phrases.some_listed (codes ",") (map (var_declarator p) xs))
unfolding forget keeps is_met resources_form after_await_form after_await
using_by grammar f p c true xs k =
    ap (λ q. word (codes "await") > same_line > word (codes "using") > same_line > q) (declarators_forget grammar f p c true xs (and_parts (are_resources c true xs) _ k).1)
using_by grammar f p c false xs k = ap (λ q. word (codes "using") > same_line > q) (declarators_forget grammar f p c true xs (and_parts (are_resources c false xs) _ k).1)

using_forgets : {X : Type 0} (grammar : Grammar) (f : X → Role → Parameters → Summary) (p : X → Role → Phrase) (c : Parameters) (n : UsingDecl X) →
    keeps grammar f (using_form c n) ≡ true → forget p (using_form c n) ≡ using_decl p n
unfolding using_form using_decl
using_forgets grammar f p c n k = using_by grammar f p c n.is_await n.decls.items k

-- what stands under two conditions
under : (a b c : Bool) → (a && (b && c)) ≡ true → c ≡ true
under true true c k = k
under true false c k = absurd (true≢false (sym k))
under false b c k = absurd (true≢false (sym k))

pub decl_forgets : {X : Type 0} (grammar : Grammar) (f : X → Role → Parameters → Summary) (p : X → Role → Phrase) (c : Parameters) (n : Decl X) →
    keeps grammar f (decl_form c n) ≡ true → forget p (decl_form c n) ≡ decl p n
unfolding forget keeps is_met decl_form decl
decl_forgets grammar f p c (decls.Var n) k =
    ap (λ q. q > ending) (var_decl_forgets grammar f p (of_declarations c) n (and_parts (keeps grammar f (var_decl_form (of_declarations c) n)) true k).0)
decl_forgets grammar f p c (decls.Fn n) k = fn_decl_forgets p _ c n
decl_forgets grammar f p c (decls.Class n) k = class_decl_forgets p c n
decl_forgets grammar f p c (decls.Using n) k =
    let u : (keeps grammar f (using_form (of_declarations c) n) && true) ≡ true = under (grammar.wide || false) (not c.bars_using) _ k in
    ap (λ q. q > ending) (using_forgets grammar f p (of_declarations c) n (and_parts (keeps grammar f (using_form (of_declarations c) n)) true u).0)
decl_forgets grammar f p c n k = absurd (true≢false (sym k))

-- ---- statements

optional_forgets : {X : Type 0} (p : X → Role → Phrase) (c : Parameters) (n : Option (ExprBox X)) → forget p (optional_form c n) ≡ optional_value p n
unfolding forget optional_form optional_value
optional_forgets p c None = refl
optional_forgets p c (Some n) = refl

return_forgets : {X : Type 0} (p : X → Role → Phrase) (c : Parameters) (n : ReturnStmt X) (arg : Option (ExprBox X)) → forget p (return_form c (record n { arg = arg })) ≡ return_stmt p (record n { arg = arg })
unfolding forget return_form return_rest_form return_stmt return_rest
return_forgets p c n None = refl
return_forgets p c n (Some x) = refl

jump_forgets : {X : Type 0} (p : X → Role → Phrase) (c : Parameters) (n : Option Ident) → forget p (jump_form c n) ≡ jump_rest n
unfolding forget jump_form name_form jump_rest
jump_forgets p c None = refl
jump_forgets p c (Some n) = refl

if_forgets : {X : Type 0} (p : X → Role → Phrase) (c : Parameters) (n : IfStmt X) (alt : Option (StmtBox X)) → forget p (if_form c (record n { alt = alt })) ≡ if_stmt p (record n { alt = alt })
unfolding forget if_form branches_form if_stmt else_branch
if_forgets p c n None = refl
if_forgets p c n (Some x) = refl

test_forgets : {X : Type 0} (p : X → Role → Phrase) (c : Parameters) (n : Option (ExprBox X)) → forget p (case_test_form c n) ≡ case_test p n
unfolding forget case_test_form case_test
test_forgets p c None = refl
test_forgets p c (Some n) = refl

clause_item_forgets : {X : Type 0} (p : X → Role → Phrase) (c : Parameters) (x : StmtBox X) (xs : List (StmtBox X)) → forget p (clause_item_form c x xs) ≡ stmt_at p x
unfolding forget clause_item_form
clause_item_forgets p c x [] = refl
clause_item_forgets p c x (y ∷ xs) = refl

clause_list_forgets : {X : Type 0} (p : X → Role → Phrase) (c : Parameters) (xs : List (StmtBox X)) → forget p (clause_list_form c xs) ≡ phrases.in_order (map (stmt_at p) xs)
unfolding forget clause_list_form phrases.in_order
clause_list_forgets p c [] = refl
clause_list_forgets p c (x ∷ xs) = ap₂ Then (clause_item_forgets p c x xs) (clause_list_forgets p c xs)

case_forgets : {X : Type 0} (p : X → Role → Phrase) (c : Parameters) (n : SwitchCase X) → forget p (case_form c n) ≡ switch_case p n
unfolding forget case_form switch_case
case_forgets p c n = ap₂ (λ a b. a > mark (codes ":") > b) (test_forgets p c n.test) (clause_list_forgets p c n.cons.items)

switch_forgets : {X : Type 0} (p : X → Role → Phrase) (c : Parameters) (n : SwitchStmt X) → forget p (switch_form c n) ≡ switch_stmt p n
unfolding forget switch_form switch_stmt
switch_forgets p c n =
    ap (λ a. word (codes "switch") > mark (codes "(") > value_at p n.discriminant > mark (codes ")") > mark (codes "{") > a > mark (codes "}"))
    (order_forgets p (case_form c) n.cases.items ∙ ap phrases.in_order (map_same _ _ (case_forgets p c) n.cases.items))

param_forgets : {X : Type 0} (p : X → Role → Phrase) (c : Parameters) (n : Option (PatBox X)) → forget p (catch_param_form c n) ≡ catch_param p n
unfolding forget catch_param_form catch_param
param_forgets p c None = refl
param_forgets p c (Some n) = refl

handler_forgets : {X : Type 0} (p : X → Role → Phrase) (c : Parameters) (n : Option (CatchClause X)) → forget p (handler_form c n) ≡ handler p n
unfolding forget handler_form catch_form handler catch_clause
handler_forgets p c None = refl
handler_forgets p c (Some n) = ap (λ a. word (codes "catch") > a > block_at p n.body) (param_forgets p c n.param)

finalizer_forgets : {X : Type 0} (p : X → Role → Phrase) (c : Parameters) (n : Option (BlockStmtBox X)) → forget p (finalizer_form c n) ≡ finalizer p n
unfolding forget finalizer_form finalizer
finalizer_forgets p c None = refl
finalizer_forgets p c (Some n) = refl

try_forgets : {X : Type 0} (p : X → Role → Phrase) (c : Parameters) (n : TryStmt X) → forget p (try_form c n) ≡ try_stmt p n
unfolding forget try_form try_stmt
try_forgets p c n = ap₂ (λ a b. word (codes "try") > block_at p n.block > a > b) (handler_forgets p c n.handler) (finalizer_forgets p c n.finalizer)

-- ---- loops

init_forgets : {X : Type 0} (p : X → Role → Phrase) (c : Parameters) (n : Option (VarDeclOrExpr X)) → forget p (for_init_form c n) ≡ for_init p n
unfolding forget for_init_form for_init var_decl_or_expr
init_forgets p c None = refl
init_forgets p c (Some (inits.VarDecl n)) = refl
init_forgets p c (Some (inits.Expr n)) = refl

for_forgets : {X : Type 0} (p : X → Role → Phrase) (c : Parameters) (n : ForStmt X) → forget p (for_form c n) ≡ for_stmt p n
unfolding forget for_form for_stmt
for_forgets p c n =
    ap (λ a. word (codes "for") > mark (codes "(") > a > mark (codes ";") > forget p (optional_form c n.test) > mark (codes ";") > forget p (optional_form c n.update) > mark (codes ")") > stmt_at p n.body) (init_forgets p c n.init)
    ∙ ap₂ (λ a b. word (codes "for") > mark (codes "(") > for_init p n.init > mark (codes ";") > a > mark (codes ";") > b > mark (codes ")") > stmt_at p n.body) (optional_forgets p c n.test) (optional_forgets p c n.update)

head_forgets : {X : Type 0} (grammar : Grammar) (f : X → Role → Parameters → Summary) (p : X → Role → Phrase) (l : Lookahead) (c : Parameters) (n : ForHead X) → keeps grammar f (head_form l c n) ≡ true → forget p (head_form l c n) ≡ for_head p n
unfolding forget keeps is_met head_form for_head
head_forgets grammar f p l c (heads.VarDecl n) k = refl
head_forgets grammar f p l c (heads.UsingDecl n) k =
    using_forgets grammar f p (of_loop false c) n.value (under (grammar.wide || false) (is_of_head l) (keeps grammar f (using_form (of_loop false c) n.value)) k)
head_forgets grammar f p l c (heads.Pat n) k = refl

for_in_forgets : {X : Type 0} (grammar : Grammar) (f : X → Role → Parameters → Summary) (p : X → Role → Phrase) (c : Parameters) (n : ForInStmt X) → keeps grammar f (for_in_form c n) ≡ true → forget p (for_in_form c n) ≡ for_in_stmt p n
unfolding forget keeps for_in_form for_in_stmt
for_in_forgets grammar f p c n k =
    ap (λ a. word (codes "for") > mark (codes "(") > a > word (codes "in") > value_at p n.right > mark (codes ")") > stmt_at p n.body)
    (head_forgets grammar f p ForStart c n.left (and_parts (keeps grammar f (head_form ForStart c n.left)) _ k).0)

for_of_forgets : {X : Type 0} (grammar : Grammar) (f : X → Role → Parameters → Summary) (p : X → Role → Phrase) (c : Parameters) (n : ForOfStmt X) → keeps grammar f (for_of_form c n) ≡ true → forget p (for_of_form c n) ≡ for_of_stmt p n
unfolding forget keeps for_of_form for_of_stmt
for_of_forgets grammar f p c n k =
    let (h, l) = and_parts (is_met grammar ByRule (not n.is_await || may_await c)) _ k in
    ap (λ a. word (codes "for") > word_if n.is_await (word (codes "await")) > mark (codes "(") > a > word (codes "of") > value_at p n.right > mark (codes ")") > stmt_at p n.body)
    (head_forgets grammar f p (of_start n.is_await) c n.left (and_parts (keeps grammar f (head_form (of_start n.is_await) c n.left)) _ l).0)

-- ---- all of them

pub stmt_forgets : {X : Type 0} (grammar : Grammar) (f : X → Role → Parameters → Summary) (p : X → Role → Phrase) (c : Parameters) (n : Stmt X) → keeps grammar f (stmt_form c n) ≡ true → forget p (stmt_form c n) ≡ stmt p n
unfolding forget keeps stmt_form stmt with_form labeled_form break_form continue_form throw_form while_form do_while_form expr_stmt_form name_form with_stmt labeled_stmt break_stmt continue_stmt throw_stmt while_stmt do_while_stmt expr_stmt
stmt_forgets grammar f p c (stmts.Block n) k = refl
stmt_forgets grammar f p c (stmts.Empty n) k = refl
stmt_forgets grammar f p c (stmts.Debugger n) k = refl
stmt_forgets grammar f p c (stmts.With n) k = refl
stmt_forgets grammar f p c (stmts.Return n) k = return_forgets p c n n.arg
stmt_forgets grammar f p c (stmts.Labeled n) k = refl
stmt_forgets grammar f p c (stmts.Break n) k = ap (Then (word (codes "break"))) (jump_forgets p c n.label)
stmt_forgets grammar f p c (stmts.Continue n) k = ap (Then (word (codes "continue"))) (jump_forgets p c n.label)
stmt_forgets grammar f p c (stmts.If n) k = if_forgets p c n n.alt
stmt_forgets grammar f p c (stmts.Switch n) k = switch_forgets p c n
stmt_forgets grammar f p c (stmts.Throw n) k = refl
stmt_forgets grammar f p c (stmts.Try n) k = try_forgets p c n
stmt_forgets grammar f p c (stmts.While n) k = refl
stmt_forgets grammar f p c (stmts.DoWhile n) k = refl
stmt_forgets grammar f p c (stmts.For n) k = for_forgets p c n
stmt_forgets grammar f p c (stmts.ForIn n) k = for_in_forgets grammar f p c n k
stmt_forgets grammar f p c (stmts.ForOf n) k = for_of_forgets grammar f p c n k
stmt_forgets grammar f p c (stmts.Decl n) k = decl_forgets grammar f p c n k
stmt_forgets grammar f p c (stmts.Expr n) k = refl

pub list_forgets : {X : Type 0} (grammar : Grammar) (f : X → Role → Parameters → Summary) (p : X → Role → Phrase) (c : Parameters) (xs : List (Stmt X)) →
    keeps grammar f (list_form c xs) ≡ true → forget p (list_form c xs) ≡ phrases.in_order (map (stmt p) xs)
unfolding forget keeps list_form phrases.in_order
list_forgets grammar f p c [] k = refl
list_forgets grammar f p c (x ∷ xs) k =
    let (h, l) = and_parts (keeps grammar f (stmt_form (in_list (begins_empty xs) c) x)) (keeps grammar f (list_form c xs)) k in
    ap₂ Then (stmt_forgets grammar f p (in_list (begins_empty xs) c) x h) (list_forgets grammar f p c xs l)

pub block_forgets : {X : Type 0} (grammar : Grammar) (f : X → Role → Parameters → Summary) (p : X → Role → Phrase) (c : Parameters) (n : BlockStmt X) → keeps grammar f (block_form c n) ≡ true → forget p (block_form c n) ≡ block_stmt p n
unfolding forget keeps block_form block_stmt
block_forgets grammar f p c n k =
    ap (λ a. mark (codes "{") > a > mark (codes "}")) (list_forgets grammar f p (in_block c) n.stmts.items (and_parts (keeps grammar f (list_form (in_block c) n.stmts.items)) true k).0)
