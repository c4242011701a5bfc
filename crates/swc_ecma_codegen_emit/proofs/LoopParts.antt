-- What is written of loops and `switch` is what it reads as.
use Rattle.std.proofs.Common.{ℕ, Bool, true, false, List, map, codes, refl, Option, Some, None}
use Rattle.swc_ecma_codegen_common.specs.declared.positions.Span.{Span}
use Rattle.swc_ecma_codegen_tree.specs.Links.{ExprBox, StmtBox}
use Rattle.swc_ecma_codegen_tree.specs.declared.stmts.DoWhileStmt.{DoWhileStmt}
use Rattle.swc_ecma_codegen_tree.specs.declared.stmts.ForHead.{ForHead}
use Rattle.swc_ecma_codegen_tree.specs.declared.stmts.ForHead.TheVariants as heads
use Rattle.swc_ecma_codegen_tree.specs.declared.stmts.ForInStmt.{ForInStmt}
use Rattle.swc_ecma_codegen_tree.specs.declared.stmts.ForOfStmt.{ForOfStmt}
use Rattle.swc_ecma_codegen_tree.specs.declared.stmts.ForStmt.{ForStmt}
use Rattle.swc_ecma_codegen_tree.specs.declared.stmts.SwitchCase.{SwitchCase}
use Rattle.swc_ecma_codegen_tree.specs.declared.stmts.SwitchStmt.{SwitchStmt}
use Rattle.swc_ecma_codegen_tree.specs.declared.stmts.VarDeclOrExpr.{VarDeclOrExpr}
use Rattle.swc_ecma_codegen_tree.specs.declared.stmts.VarDeclOrExpr.TheVariants as inits
use Rattle.swc_ecma_codegen_tree.specs.declared.stmts.WhileStmt.{WhileStmt}
use Rattle.swc_ecma_codegen_grammar.specs.Phrases.{Phrase, ◌>◌, mark, word}
use Rattle.swc_ecma_codegen_grammar.specs.Phrases as phrases
use Rattle.swc_ecma_codegen_grammar.specs.PatPhrases.{value_at}
use Rattle.swc_ecma_codegen_grammar.specs.FunctionPhrases.{word_if}
use Rattle.swc_ecma_codegen_grammar.specs.StmtPhrases as lists
use Rattle.swc_ecma_codegen_settings.specs.Ends.{head_ends}
use Rattle.swc_ecma_codegen_tokens.specs.Lists.{by_lines}
use Rattle.swc_ecma_codegen_tokens.specs.Run.{Env, Part}
use Rattle.swc_ecma_codegen_tokens.specs.Words.{punct, position_before}
use Rattle.swc_ecma_codegen_tokens.specs.Written.{IsWord}
use Rattle.swc_ecma_codegen_tokens.proofs.Reading.Choices.{prints_loop_ending}
use Rattle.swc_ecma_codegen_tokens.proofs.Listing.ListLaws.{IsUndelimited, prints_bracketed_in_order}
use Rattle.swc_ecma_codegen_tokens.proofs.Reading.Phrased.{Prints, then, after, before, prints_nothing, prints_same, prints_keyword, prints_punct, PrintsAt, prints_wider, joined_then}
use Rattle.swc_ecma_codegen_tokens.proofs.Reading.Printed.{writes_nothing, writes_space, writes_formatting_space, writes_commit, writes_position, writes_position_before, makes_wider}
use Rattle.swc_ecma_codegen_emit.specs.declared.nodes.Context.TheVariants.{Plain}
use Rattle.swc_ecma_codegen_emit.specs.Places.{Whole}
use Rattle.swc_ecma_codegen_emit.specs.Exprs.{space_if}
use Rattle.swc_ecma_codegen_emit.specs.Stmts as words
use Rattle.swc_ecma_codegen_emit.specs.Stmts.{cases_format, case_format, case_place}
use Rattle.swc_ecma_codegen_emit.proofs.DeclParts.{using_decl_prints}
use Rattle.swc_ecma_codegen_emit.proofs.ExprParts.{writes_blank, writes_space_if, writes_opened}
use Rattle.swc_ecma_codegen_emit.proofs.Impossible.{prints_last}
use Rattle.swc_ecma_codegen_emit.proofs.Linked.{Linked, expr_at, stmt_at, pat_at, var_decl_at}
use Rattle.swc_ecma_codegen_emit.proofs.MarkWords as marks
use Rattle.swc_ecma_codegen_tokens.proofs.Filling.Shapes.{Shape, open_, ended, loose, on_line, at_joint}

-- ---- parts of statements

-- behind the word that a statement begins with
pub begun : {j : Shape} (env : Env) (span : Span) (t : List ℕ) → IsWord t → {p : Part} {f : Phrase} → PrintsAt j env p f → PrintsAt (on_line j) env (λ rest. words.stmt_word span t (p rest)) (word t > f)
unfolding words.stmt_word
begun env span t w h = after (writes_commit env) (after (writes_opened env span) (then (prints_keyword env None t w) h))

-- the same where no line may end between
pub begun_joined : {j : Shape} (env : Env) (span : Span) (t : List ℕ) → IsWord t → {p : Part} {f : Phrase} → PrintsAt j env p f → PrintsAt (at_joint j) env (λ rest. words.stmt_word span t (p rest)) (word t > phrases.same_line > f)
unfolding words.stmt_word
begun_joined env span t w h = after (writes_commit env) (after (writes_opened env span) (joined_then env None t w h))

-- behind an expression in parentheses
pub enclosed_then : {X : Type 0} {j : Shape} (l : Linked X) (n : ExprBox X) → {p : Part} {f : Phrase} → PrintsAt j l.env p f → PrintsAt (on_line j) l.env (λ rest. words.enclosed l.items n (p rest)) (mark (codes "(") > value_at l.reads n > mark (codes ")") > f)
unfolding words.enclosed
enclosed_then l n h = then (prints_punct l.env (codes "(") marks.left_parenthesis) (then (expr_at l n Plain) (then (prints_punct l.env (codes ")") marks.right_parenthesis) h))

pub spaced_expr : {X : Type 0} (l : Linked X) (n : ExprBox X) → Prints l.env (words.spaced l.asks l.items n.node.value) (value_at l.reads n)
unfolding words.spaced
spaced_expr l n = after (writes_blank l.env (l.asks n.node.value).starts) (expr_at l n Plain)

pub spaced_stmt : {X : Type 0} (l : Linked X) (n : StmtBox X) → PrintsAt ended l.env (words.spaced l.asks l.items n.node.value) (lists.stmt_at l.reads n)
unfolding words.spaced
spaced_stmt l n = after (writes_blank l.env (l.asks n.node.value).starts) (stmt_at l n)

-- ---- `switch`

test_prints : {X : Type 0} (l : Linked X) (n : Option (ExprBox X)) → Prints l.env (words.case_test l.asks l.items n) (lists.case_test l.reads n)
unfolding words.case_test lists.case_test
test_prints l None = prints_keyword l.env None (codes "default") marks.default_word
test_prints l (Some n) = then (prints_keyword l.env None (codes "case") marks.case_word) (spaced_expr l n)

undelimited : (single : Bool) → IsUndelimited (case_format single)
undelimited true = record { no_comma = refl; no_bar = refl; no_ampersand = refl }
undelimited false = record { no_comma = refl; no_bar = refl; no_ampersand = refl }

case_list_prints : {X : Type 0} (l : Linked X) (single : Bool) (span : Span) (ns : List (StmtBox X)) → PrintsAt ended l.env (words.case_list single span (words.case_children l.asks l.items ns)) (mark (codes ":") > phrases.in_order (map (lists.stmt_at l.reads) ns))
unfolding words.case_list words.case_body
case_list_prints l single span ns = prints_last (codes ":")
    (prints_bracketed_in_order l.env (codes ":") marks.colon (space_if single) (makes_wider loose refl (writes_space_if l.env single)) (case_format single) span (λ s. (l.asks s.node.value).place) (λ s. l.items s.node.value (Whole Plain)) (lists.stmt_at l.reads) phrases.Nothing (λ rest. rest)
    (λ s. prints_wider loose refl (stmt_at l s)) (undelimited single) prints_nothing ns)

case_stmts_print : {X : Type 0} (l : Linked X) (n : SwitchCase X) → PrintsAt ended l.env (words.case_stmts l.asks l.items n) (mark (codes ":") > phrases.in_order (map (lists.stmt_at l.reads) n.cons.items))
unfolding by_lines
case_stmts_print l n =
    let single : Bool = words.is_single l.asks l.env.lines n.span n.cons.items in
    prints_same (words.case_stmts l.asks l.items n) (words.case_list single n.span (words.case_children l.asks l.items n.cons.items)) (λ maps rest. refl) (case_list_prints l single n.span n.cons.items)

case_prints : {X : Type 0} (l : Linked X) (n : SwitchCase X) → PrintsAt ended l.env (words.switch_case l.asks l.items n) (lists.switch_case l.reads n)
unfolding words.switch_case lists.switch_case
case_prints l n = after (writes_opened l.env n.span) (then (test_prints l n.test) (case_stmts_print l n))

cases_undelimited : IsUndelimited cases_format
cases_undelimited = record { no_comma = refl; no_bar = refl; no_ampersand = refl }

cases_print : {X : Type 0} (l : Linked X) (n : SwitchStmt X) → Prints l.env (words.switch_cases l.asks l.items n) (mark (codes "{") > phrases.in_order (map (lists.switch_case l.reads) n.cases.items) > mark (codes "}"))
unfolding words.switch_cases
cases_print l n =
    prints_bracketed_in_order l.env (codes "{") marks.left_brace (λ rest. rest) (makes_wider loose refl (writes_nothing l.env)) cases_format n.span case_place (words.switch_case l.asks l.items) (lists.switch_case l.reads) (mark (codes "}")) (λ rest. position_before n.span.hi (punct (codes "}") rest))
    (λ c. prints_wider loose refl (case_prints l c)) cases_undelimited (after (writes_position_before l.env n.span.hi) (prints_punct l.env (codes "}") marks.right_brace)) n.cases.items

pub switch_prints : {X : Type 0} (l : Linked X) (n : SwitchStmt X) → Prints l.env (words.switch_stmt l.asks l.items n) (lists.switch_stmt l.reads n)
unfolding words.switch_stmt lists.switch_stmt
switch_prints l n = begun l.env n.span (codes "switch") marks.switch_word (enclosed_then l n.discriminant (cases_print l n))

-- ---- loops

pub while_prints : {X : Type 0} (l : Linked X) (n : WhileStmt X) → PrintsAt ended l.env (words.while_stmt l.items n) (lists.while_stmt l.reads n)
unfolding words.while_stmt lists.while_stmt
while_prints l n = begun l.env n.span (codes "while") marks.while_word (enclosed_then l n.test (stmt_at l n.body))

pub do_while_prints : {X : Type 0} (l : Linked X) (n : DoWhileStmt X) → PrintsAt ended l.env (words.do_while_stmt l.asks l.items n) (lists.do_while_stmt l.reads n)
unfolding words.do_while_stmt words.loop_test lists.do_while_stmt
do_while_prints l n =
    begun l.env n.span (codes "do") marks.do_word
    (then (spaced_stmt l n.body)
    (then (prints_keyword l.env None (codes "while") marks.while_word)
    (after (writes_formatting_space l.env) (enclosed_then l n.test (before prints_loop_ending (writes_position l.env n.span.hi))))))

var_or_expr_prints : {X : Type 0} (l : Linked X) (n : VarDeclOrExpr X) → PrintsAt ended l.env (words.var_decl_or_expr l.items n) (lists.var_decl_or_expr l.reads n)
unfolding words.var_decl_or_expr lists.var_decl_or_expr
var_or_expr_prints l (inits.VarDecl n) = var_decl_at l n
var_or_expr_prints l (inits.Expr n) = prints_wider ended refl (expr_at l n Plain)

init_prints : {X : Type 0} (l : Linked X) (n : Option (VarDeclOrExpr X)) → PrintsAt loose l.env (words.for_init l.items n) (lists.for_init l.reads n)
unfolding words.for_init lists.for_init
init_prints l None = prints_wider loose refl prints_nothing
init_prints l (Some n) = prints_wider loose refl (var_or_expr_prints l n)

value_prints : {X : Type 0} (l : Linked X) (n : Option (ExprBox X)) → PrintsAt open_ l.env (words.for_value l.items n) (lists.optional_value l.reads n)
unfolding words.for_value lists.optional_value
value_prints l None = prints_nothing
value_prints l (Some n) = prints_wider open_ refl (after (writes_formatting_space l.env) (expr_at l n Plain))

pub for_prints : {X : Type 0} (l : Linked X) (n : ForStmt X) → PrintsAt ended l.env (words.for_stmt l.items n) (lists.for_stmt l.reads n)
unfolding words.for_stmt words.for_control words.for_clause lists.for_stmt
for_prints l n =
    begun l.env n.span (codes "for") marks.for_word
    (then (prints_punct l.env (codes "(") marks.left_parenthesis)
    (then (init_prints l n.init)
    (then (prints_punct l.env (codes ";") marks.semicolon)
    (then (value_prints l n.test)
    (then (prints_punct l.env (codes ";") marks.semicolon)
    (then (value_prints l n.update)
    (then (prints_punct l.env (codes ")") marks.right_parenthesis) (stmt_at l n.body))))))))

head_prints : {X : Type 0} (l : Linked X) (n : ForHead X) → PrintsAt ended l.env (words.for_head l.asks l.items n) (lists.for_head l.reads n)
unfolding words.for_head lists.for_head
head_prints l (heads.VarDecl n) = var_decl_at l n
head_prints l (heads.UsingDecl n) = using_decl_prints l n.value
head_prints l (heads.Pat n) = prints_wider ended refl (pat_at l n)

-- behind `(a of b)`
each_then : {X : Type 0} {j : Shape} (l : Linked X) (t : List ℕ) → IsWord t → (left : ForHead X) (right : ExprBox X) → {p : Part} {f : Phrase} → PrintsAt j l.env p f → PrintsAt (on_line j) l.env (λ rest. words.for_each l.asks l.items t left right (p rest)) (mark (codes "(") > lists.for_head l.reads left > word t > value_at l.reads right > mark (codes ")") > f)
unfolding words.for_each words.for_right
each_then l t w left right h =
    then (prints_punct l.env (codes "(") marks.left_parenthesis)
    (then (head_prints l left)
    (after (writes_blank l.env (head_ends (λ x. (l.asks x).ends) left))
    (then (prints_keyword l.env None t w)
    (then (spaced_expr l right) (then (prints_punct l.env (codes ")") marks.right_parenthesis) h)))))

pub for_in_prints : {X : Type 0} (l : Linked X) (n : ForInStmt X) → PrintsAt ended l.env (words.for_in_stmt l.asks l.items n) (lists.for_in_stmt l.reads n)
unfolding words.for_in_stmt lists.for_in_stmt
for_in_prints l n = begun l.env n.span (codes "for") marks.for_word (each_then l (codes "in") marks.in_word n.left n.right (stmt_at l n.body))

await_prints : (env : Env) (wanted : Bool) → PrintsAt open_ env (words.for_await wanted) (word_if wanted (word (codes "await")))
unfolding words.for_await word_if
await_prints env true = prints_wider open_ refl (after (writes_space env) (prints_keyword env None (codes "await") marks.await_word))
await_prints env false = prints_nothing

pub for_of_prints : {X : Type 0} (l : Linked X) (n : ForOfStmt X) → PrintsAt ended l.env (words.for_of_stmt l.asks l.items n) (lists.for_of_stmt l.reads n)
unfolding words.for_of_stmt lists.for_of_stmt
for_of_prints l n =
    begun l.env n.span (codes "for") marks.for_word
    (then (await_prints l.env n.is_await)
    (after (writes_formatting_space l.env) (each_then l (codes "of") marks.of_word n.left n.right (stmt_at l n.body))))
