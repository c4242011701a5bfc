-- What the check says of lists of statements, cases and declarations.
use Rattle.std.proofs.Common.{◌≡◌, ℕ, suc, ◌+◌, ◌<◌, Bool, true, false, ◌&&◌, ◌||◌, not, is_none, List, [], ◌∷◌, length, get_or, drop, drop-cons, add-one, codes, refl, sym, ◌∙◌, ap}
use Rattle.swc_ecma_codegen_tree.specs.Links.{StmtBox}
use Rattle.swc_ecma_codegen_tree.specs.declared.decls.UsingDecl.{UsingDecl}
use Rattle.swc_ecma_codegen_tree.specs.declared.decls.VarDecl.{VarDecl}
use Rattle.swc_ecma_codegen_tree.specs.declared.decls.VarDeclarator.{VarDeclarator}
use Rattle.swc_ecma_codegen_tree.specs.declared.programs.ModuleItem.{ModuleItem}
use Rattle.swc_ecma_codegen_tree.specs.declared.stmts.Stmt.{Stmt}
use Rattle.swc_ecma_codegen_tree.specs.declared.stmts.SwitchCase.{SwitchCase}
use Rattle.swc_ecma_codegen_tree.specs.declared.stmts.SwitchStmt.{SwitchStmt}
use Rattle.swc_ecma_codegen_grammar.specs.Phrases.{word, same_line}
use Rattle.swc_ecma_codegen_grammar.specs.declared.roles.Role.{Role}
use Rattle.swc_ecma_codegen_syntax.specs.declared.parameters.Parameters.{Parameters}
use Rattle.swc_ecma_codegen_syntax.specs.Summary.{Summary}
use Rattle.swc_ecma_codegen_syntax.specs.declared.verdicts.Verdict.{Verdict}
use Rattle.swc_ecma_codegen_syntax.specs.Verdicts.{by_rule, by_scope}
use Rattle.swc_ecma_codegen_syntax.specs.Parameters.{in_list}
use Rattle.swc_ecma_codegen_syntax.specs.Forms.{Form, Fixed, ◌⇢◌, asked, judge, verdict_all}
use Rattle.swc_ecma_codegen_syntax.specs.DeclForms.{declarator_form, declarators_form, is_const, is_single, of_kind, var_decl_form, are_resources, after_await_form, resources_form, using_form}
use Rattle.swc_ecma_codegen_syntax.specs.StmtForms.{expression_part, clause_item_form, clause_list_form, case_form, is_case_block, switch_form, stmt_form, begins_empty, list_form}
use Rattle.swc_ecma_codegen_syntax.specs.ModuleForms.{item_form, begins_empty_item, items_form}
use Rattle.swc_ecma_codegen_syntax.proofs.Judged.{after_judged, order_judged}

declarators_judged : {X : Type 0} (f : X → Role → Parameters → Summary) (c : Parameters) (constant : Bool) (v : Verdict) (xs : List (VarDeclarator X)) →
    judge f v (declarators_form c constant xs) ≡ verdict_all (λ n w. judge f w (declarator_form c constant n)) v xs
unfolding judge declarators_form verdict_all
declarators_judged f c constant v [] = refl
declarators_judged f c constant v (x ∷ xs) = after_judged f (codes ",") (declarator_form c constant) (judge f v (declarator_form c constant x)) xs

pub var_decl_judged : {X : Type 0} (f : X → Role → Parameters → Summary) (c : Parameters) (v : Verdict) (n : VarDecl X) →
    judge f v (var_decl_form c n)
    ≡ verdict_all (λ x w. judge f w (declarator_form (of_kind n.kind c) (is_const n.kind) x)) (by_rule (by_scope v (not n.declare)) (is_single c n)) n.decls.items
unfolding judge asked var_decl_form
var_decl_judged f c v n = declarators_judged f (of_kind n.kind c) (is_const n.kind) (by_rule (by_scope v (not n.declare)) (is_single c n)) n.decls.items

used_judged : {X : Type 0} (f : X → Role → Parameters → Summary) (v : Verdict) (is_await : Bool) (a : Form X) → judge f v (after_await_form is_await (Fixed (word (codes "using")) ⇢ Fixed same_line ⇢ a)) ≡ judge f v a
unfolding judge after_await_form
used_judged f v true a = refl
used_judged f v false a = refl

pub using_judged : {X : Type 0} (f : X → Role → Parameters → Summary) (c : Parameters) (v : Verdict) (n : UsingDecl X) →
    judge f v (using_form c n) ≡ verdict_all (λ x w. judge f w (declarator_form c true x)) (by_rule v (are_resources c n.is_await n.decls.items)) n.decls.items
unfolding judge asked using_form resources_form
using_judged f c v n =
    let w : Verdict = by_rule v (are_resources c n.is_await n.decls.items) in
    used_judged f w n.is_await (declarators_form c true n.decls.items) ∙ declarators_judged f c true w n.decls.items

pub switch_judged : {X : Type 0} (f : X → Role → Parameters → Summary) (c : Parameters) (v : Verdict) (n : SwitchStmt X) →
    judge f v (switch_form c n)
    ≡ verdict_all (λ x w. judge f w (case_form c x)) (judge f (by_rule v (is_case_block false n.cases.items)) (expression_part c n.discriminant)) n.cases.items
unfolding judge asked switch_form
switch_judged f c v n = order_judged f (case_form c) (judge f (by_rule v (is_case_block false n.cases.items)) (expression_part c n.discriminant)) n.cases.items

-- one more clause: where a `default` stood before it, and it is none or there was none
pub case_block_next : {X : Type 0} (seen is_default clash : Bool) (xs : List (SwitchCase X)) (i : ℕ) (x : SwitchCase X) → i < length xs → x ≡ get_or xs i x → is_default ≡ is_none x.test → clash ≡ (seen && is_default) → clash ≡ false →
    is_case_block seen (drop i xs) ≡ is_case_block (seen || is_default) (drop (i + 1) xs)
unfolding is_case_block
case_block_next seen is_default clash xs i x h here e same k =
    rw (add-one, drop-cons xs i x h) (ap (λ z. not (seen && is_none z.test) && is_case_block (seen || is_none z.test) (drop (suc i) xs)) (sym here)
    ∙ ap (λ b. not (seen && b) && is_case_block (seen || b) (drop (suc i) xs)) (sym e) ∙ ap (λ b. not b && is_case_block (seen || is_default) (drop (suc i) xs)) (sym same ∙ k))

pub case_block_stops : {X : Type 0} (seen is_default clash : Bool) (xs : List (SwitchCase X)) (i : ℕ) (x : SwitchCase X) → i < length xs → x ≡ get_or xs i x → is_default ≡ is_none x.test → clash ≡ (seen && is_default) → clash ≡ true → is_case_block seen (drop i xs) ≡ false
unfolding is_case_block
case_block_stops seen is_default clash xs i x h here e same k =
    rw (drop-cons xs i x h) (ap (λ z. not (seen && is_none z.test) && is_case_block (seen || is_none z.test) (drop (suc i) xs)) (sym here)
    ∙ ap (λ b. not (seen && b) && is_case_block (seen || b) (drop (suc i) xs)) (sym e) ∙ ap (λ b. not b && is_case_block (seen || is_default) (drop (suc i) xs)) (sym same ∙ k))

-- one more
pub clause_next : {X : Type 0} (f : X → Role → Parameters → Summary) (c : Parameters) (v w : Verdict) (xs : List (StmtBox X)) (i : ℕ) (x : StmtBox X) → i < length xs → x ≡ get_or xs i x →
    w ≡ judge f v (clause_item_form c x (drop (i + 1) xs)) → judge f v (clause_list_form c (drop i xs)) ≡ judge f w (clause_list_form c (drop (i + 1) xs))
unfolding judge clause_list_form
clause_next f c v w xs i x h here e =
    let d = rw add-one at e in
    rw (add-one, drop-cons xs i x h) (ap (λ z. judge f (judge f v (clause_item_form c z (drop (suc i) xs))) (clause_list_form c (drop (suc i) xs))) (sym here) ∙ ap (λ z. judge f z (clause_list_form c (drop (suc i) xs))) (sym d))

pub list_next : {X : Type 0} (f : X → Role → Parameters → Summary) (c : Parameters) (v w : Verdict) (xs : List (Stmt X)) (i : ℕ) (x : Stmt X) → i < length xs → x ≡ get_or xs i x →
    w ≡ judge f v (stmt_form (in_list (begins_empty (drop (i + 1) xs)) c) x) → judge f v (list_form c (drop i xs)) ≡ judge f w (list_form c (drop (i + 1) xs))
unfolding judge list_form
list_next f c v w xs i x h here e =
    let d = rw add-one at e in
    rw (add-one, drop-cons xs i x h) (ap (λ z. judge f (judge f v (stmt_form (in_list (begins_empty (drop (suc i) xs)) c) z)) (list_form c (drop (suc i) xs))) (sym here) ∙ ap (λ z. judge f z (list_form c (drop (suc i) xs))) (sym d))

pub items_next : {X : Type 0} (f : X → Role → Parameters → Summary) (c : Parameters) (v w : Verdict) (xs : List (ModuleItem X)) (i : ℕ) (x : ModuleItem X) → i < length xs → x ≡ get_or xs i x →
    w ≡ judge f v (item_form (in_list (begins_empty_item (drop (i + 1) xs)) c) x) → judge f v (items_form c (drop i xs)) ≡ judge f w (items_form c (drop (i + 1) xs))
unfolding judge items_form
items_next f c v w xs i x h here e =
    let d = rw add-one at e in
    rw (add-one, drop-cons xs i x h) (ap (λ z. judge f (judge f v (item_form (in_list (begins_empty_item (drop (suc i) xs)) c) z)) (items_form c (drop (suc i) xs))) (sym here) ∙ ap (λ z. judge f z (items_form c (drop (suc i) xs))) (sym d))
