-- What is written of each statement and program is what it reads as.
use Rattle.std.proofs.Common.{ℕ, Bool, true, false, List, [], codes, string_bytes, refl, Option, Some, None}
use Rattle.swc_ecma_codegen_common.specs.declared.positions.Span.{Span}
use Rattle.swc_ecma_codegen_tree.specs.Links.{BlockStmtBox, ExprBox, PatBox, StmtBox}
use Rattle.swc_ecma_codegen_tree.specs.declared.idents.Ident.{Ident}
use Rattle.swc_ecma_codegen_tree.specs.declared.stmts.BreakStmt.{BreakStmt}
use Rattle.swc_ecma_codegen_tree.specs.declared.stmts.CatchClause.{CatchClause}
use Rattle.swc_ecma_codegen_tree.specs.declared.stmts.ContinueStmt.{ContinueStmt}
use Rattle.swc_ecma_codegen_tree.specs.declared.stmts.DebuggerStmt.{DebuggerStmt}
use Rattle.swc_ecma_codegen_tree.specs.declared.stmts.EmptyStmt.{EmptyStmt}
use Rattle.swc_ecma_codegen_tree.specs.declared.stmts.ExprStmt.{ExprStmt}
use Rattle.swc_ecma_codegen_tree.specs.declared.stmts.IfStmt.{IfStmt}
use Rattle.swc_ecma_codegen_tree.specs.declared.stmts.LabeledStmt.{LabeledStmt}
use Rattle.swc_ecma_codegen_tree.specs.declared.stmts.ReturnStmt.{ReturnStmt}
use Rattle.swc_ecma_codegen_tree.specs.declared.stmts.Stmt.{Stmt}
use Rattle.swc_ecma_codegen_tree.specs.declared.stmts.Stmt.TheVariants as stmts
use Rattle.swc_ecma_codegen_tree.specs.declared.stmts.ThrowStmt.{ThrowStmt}
use Rattle.swc_ecma_codegen_tree.specs.declared.stmts.TryStmt.{TryStmt}
use Rattle.swc_ecma_codegen_tree.specs.declared.stmts.WithStmt.{WithStmt}
use Rattle.swc_ecma_codegen_spans.specs.Spans.{stmt_span}
use Rattle.swc_ecma_codegen_grammar.specs.Phrases.{◌>◌, mark, word, OptionalParentheses, Argument}
use Rattle.swc_ecma_codegen_grammar.specs.StmtPhrases as lists
use Rattle.swc_ecma_codegen_grammar.specs.CallPhrases.{value_at}
use Rattle.swc_ecma_codegen_grammar.specs.NamePhrases as names
use Rattle.swc_ecma_codegen_tokens.specs.Lists.{blank_if}
use Rattle.swc_ecma_codegen_tokens.specs.Run.{Env}
use Rattle.swc_ecma_codegen_tokens.specs.Words.{formatting_space, formatting_line, trailing_comments, semi}
use Rattle.swc_ecma_codegen_tokens.proofs.Reading.Choices.{parentheses_among, prints_bare, prints_by_test, prints_parenthesized}
use Rattle.swc_ecma_codegen_tokens.proofs.Reading.Phrased.{Prints, then, after, before, prints_nothing, prints_keyword, prints_punct, prints_semi, PrintsAt, prints_wider, joined_then, prints_ident}
use Rattle.swc_ecma_codegen_tokens.proofs.Reading.Printed.{writes_then, writes_if, writes_nothing, writes_formatting_space, writes_formatting_line, writes_commit, writes_position, Fills, makes_wider, EndsLines, writes_space}
use Rattle.swc_ecma_codegen_tokens.proofs.Commenting.CommentPrints.{writes_leading, writes_trailing}
use Rattle.swc_ecma_codegen_emit.specs.declared.nodes.Context.TheVariants.{Plain, Statement}
use Rattle.swc_ecma_codegen_emit.specs.Answers.{place_of}
use Rattle.swc_ecma_codegen_emit.specs.Branches.{is_block}
use Rattle.swc_ecma_codegen_emit.specs.Stmts as words
use Rattle.swc_ecma_codegen_emit.proofs.DeclParts.{decl_prints}
use Rattle.swc_ecma_codegen_emit.proofs.ExprParts.{writes_opened, ident_prints}
use Rattle.swc_ecma_codegen_emit.proofs.Linked.{Linked, expr_at, stmt_at, pat_at, block_at}
use Rattle.swc_ecma_codegen_emit.proofs.LoopParts.{begun, begun_joined, enclosed_then, spaced_expr, spaced_stmt, switch_prints, while_prints, do_while_prints, for_prints, for_in_prints, for_of_prints}
use Rattle.swc_ecma_codegen_emit.proofs.MarkWords as marks
use Rattle.swc_ecma_codegen_tokens.proofs.Filling.Shapes.{open_, ended, loose}
use Rattle.swc_ecma_codegen_emit.specs.FunctionExprs.{optional_name}
use Rattle.swc_ecma_codegen_tokens.specs.Written.{IsWord}

-- ---- statements

empty_prints : (env : Env) (n : EmptyStmt) → PrintsAt ended env (words.empty_stmt n) (lists.empty_stmt n)
unfolding words.empty_stmt lists.empty_stmt
empty_prints env n = after (writes_leading env n.span.lo) (prints_punct env (codes ";") marks.semicolon)

expr_stmt_prints : {X : Type 0} (l : Linked X) (n : ExprStmt X) → PrintsAt ended l.env (words.expr_stmt l.items n) (lists.expr_stmt l.reads n)
unfolding words.expr_stmt lists.expr_stmt
expr_stmt_prints l n = after (writes_leading l.env n.span.lo) (then (expr_at l n.expr Plain) (prints_semi l.env))

debugger_prints : (env : Env) (n : DebuggerStmt) → PrintsAt ended env (words.debugger_stmt n) (lists.debugger_stmt n)
unfolding words.debugger_stmt lists.debugger_stmt
debugger_prints env n = after (writes_commit env) (after (writes_leading env n.span.lo) (then (prints_keyword env (Some n.span) (codes "debugger") marks.debugger_word) (prints_semi env)))

with_prints : {X : Type 0} (l : Linked X) (n : WithStmt X) → PrintsAt ended l.env (words.with_stmt l.items n) (lists.with_stmt l.reads n)
unfolding words.with_stmt lists.with_stmt
with_prints l n =
    after (writes_commit l.env)
    (after (writes_position l.env n.span.lo)
    (then (prints_keyword l.env None (codes "with") marks.with_word)
    (after (writes_formatting_space l.env) (enclosed_then l n.obj (stmt_at l n.body)))))

-- an argument, bare, or in parentheses where a line ends in or after a comment before it
in_parentheses_by : {X : Type 0} (l : Linked X) (n : ExprBox X) → Prints l.env (words.argument_in l.asks l.items n.node.value true) (mark (codes "(") > value_at l.reads n > mark (codes ")"))
unfolding words.argument_in
in_parentheses_by l n = prints_parenthesized (expr_at l n Plain)

bare_by : {X : Type 0} (l : Linked X) (n : ExprBox X) → Prints l.env (words.argument_in l.asks l.items n.node.value false) (OptionalParentheses Argument (value_at l.reads n))
unfolding words.argument_in
bare_by l n = prints_bare (spaced_expr l n)

argument_prints : {X : Type 0} (l : Linked X) (n : ExprBox X) → Prints l.env (words.argument l.asks l.items n.node.value) (OptionalParentheses Argument (value_at l.reads n))
unfolding words.argument
argument_prints l n = prints_by_test (words.argument_in l.asks l.items n.node.value) (l.asks n.node.value).breaks (l.quiet n.node.value) (parentheses_among l.env.config Argument (value_at l.reads n)) (in_parentheses_by l n) (bare_by l n)

return_by : {X : Type 0} (l : Linked X) (span : Span) (arg : Option (ExprBox X)) → PrintsAt ended l.env (λ rest. words.stmt_word span (codes "return") (words.return_arg l.asks l.items arg (semi rest))) (word (codes "return") > lists.return_rest l.reads arg)
unfolding words.return_arg lists.return_rest
return_by l span None = begun l.env span (codes "return") marks.return_word (prints_semi l.env)
return_by l span (Some n) = begun_joined l.env span (codes "return") marks.return_word (then (argument_prints l n) (prints_semi l.env))

return_prints : {X : Type 0} (l : Linked X) (n : ReturnStmt X) → PrintsAt ended l.env (words.return_stmt l.asks l.items n) (lists.return_stmt l.reads n)
unfolding words.return_stmt lists.return_stmt
return_prints l n = return_by l n.span n.arg

labeled_prints : {X : Type 0} (l : Linked X) (n : LabeledStmt X) → PrintsAt ended l.env (words.labeled_stmt l.items n) (lists.labeled_stmt l.reads n)
unfolding words.labeled_stmt lists.labeled_stmt
labeled_prints l n =
    after (writes_commit l.env)
    (then (ident_prints l n.label)
    (then (prints_punct l.env (codes ":") marks.colon)
    (after (writes_formatting_space l.env) (stmt_at l n.body))))

-- `break` and `continue`
jump_prints : {X : Type 0} (l : Linked X) (span : Span) (t : List ℕ) → IsWord t → (label : Option Ident) → PrintsAt ended l.env (words.jump span t label) (word t > lists.jump_rest label)
unfolding words.jump optional_name lists.jump_rest names.ident
jump_prints l span t w None = after (writes_commit l.env) (after (writes_position l.env span.lo) (then (prints_keyword l.env None t w) (prints_semi l.env)))
jump_prints l span t w (Some n) = after (writes_commit l.env) (after (writes_position l.env span.lo) (joined_then l.env None t w (after (writes_space l.env) (then (prints_ident l.env n.span (string_bytes n.sym) n.optional l.leaves_out) (prints_semi l.env)))))

break_prints : {X : Type 0} (l : Linked X) (n : BreakStmt) → PrintsAt ended l.env (words.break_stmt n) (lists.break_stmt n)
unfolding words.break_stmt lists.break_stmt
break_prints l n = jump_prints l n.span (codes "break") marks.break_word n.label

continue_prints : {X : Type 0} (l : Linked X) (n : ContinueStmt) → PrintsAt ended l.env (words.continue_stmt n) (lists.continue_stmt n)
unfolding words.continue_stmt lists.continue_stmt
continue_prints l n = jump_prints l n.span (codes "continue") marks.continue_word n.label

-- ---- `if` and `try`

writes_blank_if : (env : Env) (wanted : Bool) → Fills env (blank_if wanted)
unfolding blank_if
writes_blank_if env wanted = writes_if env wanted formatting_space (λ rest. rest) [] (writes_formatting_space env) (writes_nothing env)

else_prints : {X : Type 0} (l : Linked X) (block : Bool) (n : Option (StmtBox X)) → PrintsAt loose l.env (words.else_branch l.asks l.items block n) (lists.else_branch l.reads n)
unfolding words.else_branch lists.else_branch
else_prints l block None = prints_wider loose refl prints_nothing
else_prints l block (Some n) = prints_wider loose refl (after (writes_blank_if l.env block) (then (prints_keyword l.env None (codes "else") marks.else_word) (spaced_stmt l n)))

if_prints : {X : Type 0} (l : Linked X) (n : IfStmt X) → PrintsAt ended l.env (words.if_stmt l.asks l.items n) (lists.if_stmt l.reads n)
unfolding words.if_stmt words.spaced_word lists.if_stmt
if_prints l n =
    after (writes_leading l.env n.span.lo)
    (after (writes_commit l.env)
    (after (writes_position l.env n.span.lo)
    (then (prints_keyword l.env None (codes "if") marks.if_word)
    (after (writes_formatting_space l.env)
    (enclosed_then l n.test
    (after (writes_formatting_space l.env) (then (stmt_at l n.cons) (else_prints l (l.asks n.cons.node.value).block n.alt))))))))

catch_param_prints : {X : Type 0} (l : Linked X) (n : Option (PatBox X)) → PrintsAt open_ l.env (words.catch_param l.items n) (lists.catch_param l.reads n)
unfolding words.catch_param lists.catch_param
catch_param_prints l None = prints_nothing
catch_param_prints l (Some n) = prints_wider open_ refl (then (prints_punct l.env (codes "(") marks.left_parenthesis) (then (pat_at l n) (prints_punct l.env (codes ")") marks.right_parenthesis)))

catch_prints : {X : Type 0} (l : Linked X) (n : CatchClause X) → Prints l.env (words.catch_clause l.items n) (lists.catch_clause l.reads n)
unfolding words.catch_clause lists.catch_clause
catch_prints l n =
    after (writes_opened l.env n.span)
    (then (prints_keyword l.env None (codes "catch") marks.catch_word)
    (after (writes_formatting_space l.env)
    (then (catch_param_prints l n.param)
    (after (writes_formatting_space l.env) (block_at l n.body Plain)))))

handler_prints : {X : Type 0} (l : Linked X) (n : Option (CatchClause X)) → PrintsAt open_ l.env (words.handler l.items n) (lists.handler l.reads n)
unfolding words.handler lists.handler
handler_prints l None = prints_nothing
handler_prints l (Some n) = prints_wider open_ refl (after (writes_formatting_space l.env) (catch_prints l n))

finalizer_prints : {X : Type 0} (l : Linked X) (n : Option (BlockStmtBox X)) → PrintsAt open_ l.env (words.finalizer l.items n) (lists.finalizer l.reads n)
unfolding words.finalizer lists.finalizer
finalizer_prints l None = prints_nothing
finalizer_prints l (Some n) = prints_wider open_ refl (after (writes_formatting_space l.env) (then (prints_keyword l.env None (codes "finally") marks.finally_word) (block_at l n Plain)))

try_prints : {X : Type 0} (l : Linked X) (n : TryStmt X) → Prints l.env (words.try_stmt l.items n) (lists.try_stmt l.reads n)
unfolding words.try_stmt words.spaced_word lists.try_stmt
try_prints l n =
    after (writes_leading l.env n.span.lo)
    (after (writes_commit l.env)
    (after (writes_position l.env n.span.lo)
    (then (prints_keyword l.env None (codes "try") marks.try_word)
    (after (writes_formatting_space l.env)
    (then (block_at l n.block Plain) (then (handler_prints l n.handler) (finalizer_prints l n.finalizer)))))))

throw_prints : {X : Type 0} (l : Linked X) (n : ThrowStmt X) → PrintsAt ended l.env (words.throw_stmt l.asks l.items n) (lists.throw_stmt l.reads n)
unfolding words.throw_stmt lists.throw_stmt
throw_prints l n =
    after (writes_opened l.env n.span)
    (joined_then l.env None (codes "throw") marks.throw_word
    (then (argument_prints l n.arg) (prints_semi l.env)))

-- ---- all of them

parts_print : {X : Type 0} (l : Linked X) (n : Stmt X) → PrintsAt ended l.env (words.stmt_parts l.asks l.items n) (lists.stmt l.reads n)
unfolding words.stmt_parts lists.stmt
parts_print l (stmts.Block n) = prints_wider ended refl (block_at l n Plain)
parts_print l (stmts.Empty n) = empty_prints l.env n
parts_print l (stmts.Debugger n) = debugger_prints l.env n
parts_print l (stmts.With n) = with_prints l n
parts_print l (stmts.Return n) = return_prints l n
parts_print l (stmts.Labeled n) = labeled_prints l n
parts_print l (stmts.Break n) = break_prints l n
parts_print l (stmts.Continue n) = continue_prints l n
parts_print l (stmts.If n) = if_prints l n
parts_print l (stmts.Switch n) = prints_wider ended refl (switch_prints l n)
parts_print l (stmts.Throw n) = throw_prints l n
parts_print l (stmts.Try n) = prints_wider ended refl (try_prints l n)
parts_print l (stmts.While n) = while_prints l n
parts_print l (stmts.DoWhile n) = do_while_prints l n
parts_print l (stmts.For n) = for_prints l n
parts_print l (stmts.ForIn n) = for_in_prints l n
parts_print l (stmts.ForOf n) = for_of_prints l n
parts_print l (stmts.Decl n) = decl_prints l n Statement
parts_print l (stmts.Expr n) = expr_stmt_prints l n

-- the comments after it, and the end of its line, which a block doesn't end
writes_closed : (env : Env) (block : Bool) (span : Span) → EndsLines env (words.stmt_closed block span)
unfolding words.stmt_closed
writes_closed env true span = makes_wider loose refl (writes_nothing env)
writes_closed env false span = writes_then env (trailing_comments true span.hi) formatting_line [] [] (writes_trailing env true span.hi) (writes_formatting_line env)

pub stmt_prints : {X : Type 0} (l : Linked X) (n : Stmt X) → PrintsAt ended l.env (words.stmt l.asks l.items n) (lists.stmt l.reads n)
unfolding words.stmt
stmt_prints l n = before (parts_print l n) (writes_closed l.env (is_block n) (stmt_span (place_of l.asks) n))
