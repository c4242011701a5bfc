-- Statements are read as they are.
use Rattle.std.proofs.Common.{◌≡◌, Bool, true, false, ◌||◌, not, List, [], ◌∷◌, Option, Some, None, refl, sym, ap, ◌∙◌, subst}
use Rattle.std.specs.Prelude.{codes, is_some, if◌then◌else◌}
use Rattle.std.proofs.lemmas.Bool.{true≢false, or_left}
use Rattle.swc_ecma_codegen_tree.specs.Links.{ExprBox, StmtBox, BlockStmtBox, PatBox}
use Rattle.swc_ecma_codegen_tree.specs.declared.links.AnyNode.{AnyNode, AnyNode-F, out-AnyNode}
use Rattle.swc_ecma_codegen_tree.specs.declared.links.AnyNode.TheOpen as nodes
use Rattle.swc_ecma_codegen_tree.specs.declared.decls.Decl.{Decl}
use Rattle.swc_ecma_codegen_tree.specs.declared.decls.Decl.TheVariants as decls
use Rattle.swc_ecma_codegen_tree.specs.declared.decls.VarDecl as var_decls
use Rattle.swc_ecma_codegen_tree.specs.declared.idents.Ident.{Ident}
use Rattle.swc_ecma_codegen_tree.specs.declared.parts.ExprPart.TheVariants as expr_parts
use Rattle.swc_ecma_codegen_tree.specs.declared.parts.JSXPart.TheVariants as jsx_parts
use Rattle.swc_ecma_codegen_tree.specs.declared.parts.StmtPart.TheVariants as stmt_parts
use Rattle.swc_ecma_codegen_tree.specs.declared.stmts.Stmt.{Stmt}
use Rattle.swc_ecma_codegen_tree.specs.declared.stmts.Stmt.TheVariants as stmts
use Rattle.swc_ecma_codegen_tree.specs.declared.stmts.BlockStmt as blocks
use Rattle.swc_ecma_codegen_tree.specs.declared.stmts.CatchClause.{CatchClause}
use Rattle.swc_ecma_codegen_tree.specs.declared.stmts.SwitchCase.{SwitchCase}
use Rattle.swc_ecma_codegen_tree.specs.declared.stmts.ExprStmt as expr_stmts
use Rattle.swc_ecma_codegen_tree.specs.declared.stmts.LabeledStmt as labeled
use Rattle.swc_ecma_codegen_grammar.specs.Phrases.{chosen}
use Rattle.swc_ecma_codegen_grammar.specs.Phrases as phrases
use Rattle.swc_ecma_codegen_grammar.specs.Settings.{Settings, is_up_to_es5}
use Rattle.swc_ecma_codegen_grammar.specs.StmtPhrases.{empty_stmt, debugger_stmt}
use Rattle.swc_ecma_codegen_grammar.specs.Tokens.{Token, punctuator, word, ending, same_line}
use Rattle.swc_ecma_codegen_grammar.specs.Tokens as tokens
use Rattle.swc_ecma_codegen_grammar.specs.declared.roles.Role.TheVariants.{Block, Statement as AStatement}
use Rattle.swc_ecma_codegen_syntax.specs.declared.nonterminals.Nonterminal.{Nonterminal}
use Rattle.swc_ecma_codegen_syntax.specs.declared.nonterminals.Nonterminal.TheVariants as nt
use Rattle.swc_ecma_codegen_syntax.specs.declared.parameters.Parameters.{Parameters}
use Rattle.swc_ecma_codegen_syntax.specs.Parameters.{of_bindings, of_declarations, in_list, in_block}
use Rattle.swc_ecma_codegen_syntax.specs.Forms.{Form, Fixed, is_met, in_order}
use Rattle.swc_ecma_codegen_syntax.specs.DeclForms.{var_decl_form, head_at, decl_form}
use Rattle.swc_ecma_codegen_syntax.specs.StmtForms.{expr_stmt_form, with_form, return_rest_form, return_form, labeled_form, jump_form, break_form, continue_form, branches_form, if_form, switch_form, throw_form, try_form, while_form, do_while_form, stmt_form, is_empty, is_empty_node, begins_empty, list_form, block_form, finalizer_form, catch_param_form, handler_form, catch_form, clause_item_form, clause_list_form, case_test_form, case_form}
use Rattle.swc_ecma_codegen_syntax.specs.NodeForms.{node_form, part_form, stmt_part_form, jsx_part_form}
use Rattle.swc_ecma_codegen_syntax.specs.Derives.{Derives, fixed, part, restricted, both, provided, bare, followed}
use Rattle.swc_ecma_codegen_syntax.specs.Verdicts.{core}
use Rattle.swc_ecma_codegen_uniqueness.specs.ParseTrees.{Variant, ParseTree, End, Read, Node, BlockStmt, DebuggerStmt, WithStmt, ReturnStmt, LabeledStmt, BreakStmt, ContinueStmt, IfStmt, ThrowStmt, WhileStmt, VarDecl, ExprStmt, tokens_of, decl_variant, stmt_variant, part_variant, node_variant, DoWhileStmt, TryStmt, SwitchStmt}
use Rattle.swc_ecma_codegen_uniqueness.specs.Parses.{placed, is_inlined, is_empty_variant, read_all}
use Rattle.swc_ecma_codegen_uniqueness.proofs.Classes.{Semi, class}
use Rattle.swc_ecma_codegen_uniqueness.proofs.Controls.{InList, Statement, AfterWord, Jump, Where, InTry, InCatch, InClause, AfterDo, BehindTry, BehindCatch, AfterCatch, starts}
use Rattle.swc_ecma_codegen_uniqueness.proofs.Moves.{shift, start, started, closing}
use Rattle.swc_ecma_codegen_uniqueness.proofs.Tables.{without}
use Rattle.swc_ecma_codegen_uniqueness.proofs.PlaceLaws.{is_keyword, is_list, is_barred, is_delayed}
use Rattle.swc_ecma_codegen_uniqueness.proofs.TableLaws.{ended_by}
use Rattle.swc_ecma_codegen_uniqueness.proofs.Machine.{Whole, Rest, Good, Heads, joined_tokens}
use Rattle.swc_ecma_codegen_uniqueness.proofs.Shapes.{Operand, ended}
use Rattle.swc_ecma_codegen_uniqueness.proofs.StatementShapes.{at_once, Follower, follower, follower_by, is_an_empty, no_else, no_empty, Follows, item_heads, item_of, item_stands, if_alone, if_else, looped, word_alone, word_valued, word_labelled, empty_good, expression_stated, labelled, no_items, end_heads, item_then, block_good, declarators_begun, primary_expression, do_good, do_ends, do_ended, try_begun, try_ends, finally_then, catch_then, catch_block, catch_parameter, switch_begun, switch_ends, case_then, default_then, clause_item}
use Rattle.swc_ecma_codegen_uniqueness.proofs.Heading.{may_stand, not_excluded}
use Rattle.swc_ecma_codegen_uniqueness.proofs.Reading.{read_phrase, derived_parse}
use Rattle.swc_ecma_codegen_uniqueness.proofs.Joined.{derived_joined}
use Rattle.swc_ecma_codegen_uniqueness.proofs.Parsed.{tokens_before}
use Rattle.swc_ecma_codegen_uniqueness.proofs.Fits.{BlockFit, at_place, PlacedGood, AllGood, no_form}
use Rattle.swc_ecma_codegen_uniqueness.proofs.Atoms.{name_read, name_atom, name_free}
use Rattle.swc_ecma_codegen_uniqueness.proofs.Patterns.{covered_at, no_rest_target}
use Rattle.swc_ecma_codegen_uniqueness.proofs.Functions.{fn_decl_good}
use Rattle.swc_ecma_codegen_uniqueness.proofs.ClassDefinitions.{class_decl_good}
use Rattle.swc_ecma_codegen_uniqueness.proofs.Variables.{vars_read}
use Rattle.swc_ecma_codegen_uniqueness.proofs.Loops.{for_good, for_in_good, for_of_good}

-- ---- declarations of variables

var_good : {s : Settings} (b : Follower) (c : Parameters) (n : var_decls.VarDecl AnyNode) {ts us : List Token} (d : Derives core s (var_decl_form c n) ts) (e : Derives core s (Fixed phrases.ending) us) → AllGood d → s.minify ≡ c.minify →
    Good (Whole VarDecl (item_of b)) (derived_parse d (derived_parse e End))
var_good b c n d e o m =
    let r = vars_read (item_of b) c n d e o m in subst (λ z. Good (Whole VarDecl (item_of b)) z) (sym r.is) (declarators_begun r.token b (ap is_keyword r.var) (ap started r.var) r.good)

-- ---- statements

not_so : (b : Bool) → (not true || not b) ≡ true → b ≡ false
not_so true h = absurd (true≢false (sym h))
not_so false h = refl

if_by : {s : Settings} (c : Parameters) (cons : StmtBox AnyNode) (alt : Option (StmtBox AnyNode)) {v : Variant} {p : ParseTree} {ts : List Token} → Operand nt.Expression v p → (d : Derives core s (branches_form c cons alt) ts) → AllGood d → s.minify ≡ c.minify →
    Good (Whole IfStmt (item_of (follower c))) (Read (word (codes "if")) (Read (punctuator (codes "(")) (Node v p (Read (punctuator (codes ")")) (derived_parse d End)))))
unfolding branches_form is_met AllGood PlacedGood derived_parse read_phrase placed is_inlined
if_by c cons None w (provided h (both (part a sa d) (fixed g))) (o, x) m = if_alone (follower c) (no_else c.before_else c.before_empty (not_so c.before_else h)) w (o m).good
if_by c cons (Some alt) w (both (part a sa d) (both (fixed g) (part b sb e))) (o, (x, q)) m = if_else (follower c) w (o m).good (q m).good

return_by : {s : Settings} (b : Follower) (c : Parameters) (arg : Option (ExprBox AnyNode)) {ts : List Token} (d : Derives core s (return_rest_form c arg) ts) → AllGood d → s.minify ≡ c.minify →
    Good (Whole ReturnStmt (item_of b)) (Read (word (codes "return")) (derived_parse d End))
unfolding return_rest_form AllGood PlacedGood derived_parse read_phrase placed is_inlined word same_line
return_by b c None (fixed g) o m = word_alone (word (codes "return")) ReturnStmt b refl refl
return_by b c (Some n) (both (fixed g) (both (bare (part a sa d)) (fixed h))) (x, (o, y)) m = word_valued (word (codes "return")) ReturnStmt b refl refl refl (at_place _ _ sa (o m))

jump_by : {s : Settings} (b : Follower) (t : Token) (variant : Variant) (c : Parameters) (label : Option Ident) {ts : List Token} (d : Derives core s (jump_form c label) ts) → is_keyword (class t) ≡ true → start t ≡ AfterWord variant →
    shift (AfterWord variant) None same_line ≡ Jump variant → Good (Whole variant (item_of b)) (Read t (derived_parse d End))
unfolding jump_form derived_parse read_phrase tokens.name
jump_by b t variant c None (fixed g) k e i = word_alone t variant b k e
jump_by b t variant c (Some n) (both (fixed g) (both d (fixed h))) k e i =
    subst (λ z. Good (Whole variant (item_of b)) (Read t (Read same_line z))) (sym (name_read c n d (Read ending End))) (word_labelled t (tokens.name _) variant b k e i (ap (without (Jump variant)) (name_free c n d)))

expr_good : {s : Settings} (b : Follower) (c : Parameters) (n : expr_stmts.ExprStmt AnyNode) {ts : List Token} (d : Derives core s (expr_stmt_form c n) ts) → AllGood d → s.minify ≡ c.minify → Good (Whole ExprStmt (item_of b)) (derived_parse d End)
unfolding expr_stmt_form is_met AllGood PlacedGood derived_parse read_phrase placed is_inlined tokens_of ending
expr_good b c n (both (restricted {ts = ts} h (part a sa d)) (fixed g)) (o, x) m =
    let v = at_place _ _ sa (o m) in
    expression_stated b v (may_stand ending (derived_parse d End) ts (λ us. tokens_before d End us) v.good (or_left _ _ v.taken) (ended_by Semi v.of v.taken) refl (not_excluded _ h))

decl_good : {s : Settings} (b : Follower) (c : Parameters) (n : Decl AnyNode) {ts : List Token} (d : Derives core s (decl_form c n) ts) → AllGood d → s.minify ≡ c.minify → Good (Whole (decl_variant n) (item_of b)) (derived_parse d End)
unfolding decl_form decl_variant AllGood derived_parse
decl_good b c (decls.Var n) (both d e) (o, x) m = var_good b (of_declarations c) n d e o m
decl_good b c (decls.Fn n) d o m = fn_decl_good b (head_at c.position) c n d o m
decl_good b c (decls.Class n) d o m = class_decl_good b c n d o m
decl_good b c n d o m = absurd (no_form d)

labeled_good : {s : Settings} (c : Parameters) (n : labeled.LabeledStmt AnyNode) {ts : List Token} (d : Derives core s (labeled_form c n) ts) → AllGood d → s.minify ≡ c.minify → Good (Whole LabeledStmt (item_of (follower c))) (derived_parse d End)
unfolding labeled_form AllGood PlacedGood derived_parse read_phrase placed is_inlined tokens.name tokens_of
labeled_good c n (both k (both (fixed g) (part a sa d))) (x, (y, o)) m =
    subst (λ z. Good (Whole LabeledStmt (item_of (follower c))) z) (sym (name_read c n.label k _))
    (labelled (follower c) (tokens.name _) primary_expression (name_atom nt.PrimaryExpression refl _ (name_free c n.label k)) (λ us. let f = name_free c n.label k in at_once (ap starts f) (ap is_barred f) (ap is_delayed f)) (o m).good)

-- ---- `do`, `try`, `switch`

do_left : (b : Follower) (es5 : Bool) → is_an_empty b ≡ false → Good (Rest AfterDo DoWhileStmt (item_of b)) (read_all (if es5 then ending ∷ [] else []) End)
unfolding read_all
do_left b true e = do_ended b
do_left b false e = do_ends b e

-- `finally`, or nothing behind `catch`
finalizer_good : {s : Settings} (b : Follower) (c : Parameters) (o : Option (BlockStmtBox AnyNode)) {ts : List Token} (d : Derives core s (finalizer_form c o) ts) → AllGood d → s.minify ≡ c.minify →
    (is_some o ≡ true → Good (Rest BehindTry TryStmt (item_of b)) (derived_parse d End)) × Good (Rest BehindCatch TryStmt (item_of b)) (derived_parse d End)
unfolding finalizer_form AllGood PlacedGood derived_parse read_phrase placed is_inlined
finalizer_good b c None (fixed g) o m = ((λ h. absurd (true≢false (sym h))), try_ends b)
finalizer_good b c (Some n) (both (fixed g) (part a sa d)) (x, o) m =
    let v = o m in
    let r = finally_then (item_of b) (v.good (InList TryStmt) refl TryStmt (item_of b) End (ended TryStmt (item_of b))) in
    let e : Read (word (codes "finally")) (Read (punctuator (codes "{")) (v.inner End)) ≡ Read (word (codes "finally")) (derived_parse d End) = ap (Read (word (codes "finally"))) (sym (v.is End)) in
    ((λ h. subst (λ z. Good (Rest BehindTry TryStmt (item_of b)) z) e r.0), subst (λ z. Good (Rest BehindCatch TryStmt (item_of b)) z) e r.1)

catch_good : {s : Settings} (n : Nonterminal) (c : Parameters) (o : Option (PatBox AnyNode)) {ts : List Token} (d : Derives core s (catch_param_form c o) ts) → AllGood d → s.minify ≡ c.minify → {m : ParseTree} →
    Good (Rest (Statement InCatch) TryStmt n) m → Good (Rest AfterCatch TryStmt n) (derived_parse d (Read (punctuator (codes "{")) m))
unfolding catch_param_form AllGood derived_parse read_phrase
catch_good n c None (fixed g) o m r = catch_block n r
catch_good n c (Some x) (both (fixed g) (both d (fixed h))) (y, (o, z)) m {m = rest} r =
    let v = covered_at nt.PatternTarget no_rest_target (of_bindings c) x.node.value d o m in
    subst (λ w. Good (Rest AfterCatch TryStmt n) (Read (punctuator (codes "(")) w)) (sym (v.is (Read (punctuator (codes ")")) (Read (punctuator (codes "{")) rest)))) (catch_parameter n v.operand r)

handler_good : {s : Settings} (b : Follower) (c : Parameters) (o : Option (CatchClause AnyNode)) (p : Option (BlockStmtBox AnyNode)) {ts us : List Token} → (is_some o || is_some p) ≡ true → (d : Derives core s (handler_form c o) ts) (e : Derives core s (finalizer_form c p) us) →
    AllGood d → AllGood e → s.minify ≡ c.minify → Good (Rest BehindTry TryStmt (item_of b)) (derived_parse d (derived_parse e End))
unfolding handler_form catch_form AllGood PlacedGood derived_parse read_phrase placed is_inlined
handler_good b c None p h (fixed g) e o q m = (finalizer_good b c p e q m).0 h
handler_good b c (Some n) p h (both (fixed g) (both k (part a sa d))) e (x, (y, o)) q m =
    let v = o m in
    catch_then (item_of b)
    (subst (λ z. Good (Rest AfterCatch TryStmt (item_of b)) (derived_parse k z)) (sym (v.is (derived_parse e End)))
    (catch_good (item_of b) c n.param k y m (v.good InCatch refl TryStmt (item_of b) (derived_parse e End) (finalizer_good b c p e q m).1)))

-- ---- which of them are empty

stmt_marks : (x : Stmt AnyNode) → is_empty_variant (stmt_variant x) ≡ true → is_empty x ≡ true
unfolding is_empty_variant stmt_variant decl_variant is_empty
stmt_marks (stmts.Empty x) h = refl
stmt_marks (stmts.Decl (decls.Var x)) h = absurd (true≢false (sym h))
stmt_marks (stmts.Decl x) h = absurd (true≢false (sym h))
stmt_marks x h = absurd (true≢false (sym h))

node_marks : (y : AnyNode-F AnyNode) → is_empty_variant (node_variant y AStatement) ≡ true → is_empty_node y ≡ true
unfolding is_empty_variant node_variant part_variant is_empty_node
node_marks (nodes.Stmt x) h = stmt_marks x h
node_marks (nodes.ExprPart (expr_parts.Pat x)) h = absurd (true≢false (sym h))
node_marks (nodes.ExprPart x) h = absurd (true≢false (sym h))
node_marks y h = absurd (true≢false (sym h))

-- what stands in a `switch`, and whether it begins with an empty statement
abbrev InCases : Nonterminal → Bool → ParseTree → Type 0
InCases n empty m = Good (Rest (Statement InClause) SwitchStmt n) m × Heads (Follows InClause empty) m

abbrev clause_empty : List (StmtBox AnyNode) → Bool
clause_empty [] = false
clause_empty (x ∷ xs) = is_empty_node (out-AnyNode x.node.value)

-- a statement of one, before the rest
clause_read : (n : Nonterminal) (empty : Bool) (y : AnyNode-F AnyNode) {p : ParseTree} → Good (Whole (node_variant y AStatement) (item_of (follower_by false empty))) p → (rest : ParseTree) → InCases n empty rest → InCases n (is_empty_node y) (Node (node_variant y AStatement) p rest)
unfolding tokens_of
clause_read n empty y g rest r = (
  clause_item SwitchStmt n empty g r.1 r.0,
  λ us. let k = item_heads InClause g (item_stands (follower_by false empty) InClause) (tokens_of rest us) in (k.0, k.1, k.2, (k.3.0, λ e. node_marks y (k.3.1 e))),
)

clause_good : {s : Settings} (n : Nonterminal) (c : Parameters) (x : StmtBox AnyNode) (xs : List (StmtBox AnyNode)) {ts : List Token} (d : Derives core s (clause_item_form c x xs) ts) → AllGood d → s.minify ≡ c.minify → (rest : ParseTree) → InCases n (clause_empty xs) rest →
    InCases n (is_empty_node (out-AnyNode x.node.value)) (derived_parse d rest)
unfolding clause_item_form AllGood PlacedGood derived_parse placed is_inlined
clause_good n c x [] (part a sa d) o m rest r = clause_read n false (out-AnyNode x.node.value) (o m).good rest r
clause_good n c x (y ∷ ys) (followed (part a sa d)) o m rest r = clause_read n (is_empty_node (out-AnyNode y.node.value)) (out-AnyNode x.node.value) (o m).good rest r

clauses_good : {s : Settings} (n : Nonterminal) (c : Parameters) (xs : List (StmtBox AnyNode)) {ts : List Token} (d : Derives core s (clause_list_form c xs) ts) → AllGood d → s.minify ≡ c.minify → (rest : ParseTree) → InCases n false rest → InCases n (clause_empty xs) (derived_parse d rest)
unfolding clause_list_form AllGood derived_parse read_phrase
clauses_good n c [] (fixed g) o m rest r = r
clauses_good n c (x ∷ xs) (both d e) (o, q) m rest r = clause_good n c x xs d o m (derived_parse e rest) (clauses_good n c xs e q m rest r)

case_good : {s : Settings} (n : Nonterminal) (c : Parameters) (o : Option (ExprBox AnyNode)) {ts : List Token} (d : Derives core s (case_test_form c o) ts) → AllGood d → s.minify ≡ c.minify → (m : ParseTree) (empty : Bool) → InCases n empty m →
    InCases n false (derived_parse d (Read (punctuator (codes ":")) m))
unfolding case_test_form AllGood PlacedGood derived_parse read_phrase placed is_inlined
case_good n c None (fixed g) o m rest empty r = default_then n r.0
case_good n c (Some x) (both (fixed g) (part a sa d)) (y, o) m rest empty r = case_then n (at_place _ _ sa (o m)) r.0

cases_good : {s : Settings} (n : Nonterminal) (c : Parameters) (xs : List (SwitchCase AnyNode)) {ts : List Token} (d : Derives core s (in_order (case_form c) xs) ts) → AllGood d → s.minify ≡ c.minify → {rest : ParseTree} → InCases n false rest → InCases n false (derived_parse d rest)
unfolding in_order case_form AllGood derived_parse read_phrase
cases_good n c [] (fixed g) o m r = r
cases_good n c (x ∷ xs) (both (both k (both (fixed h) d)) e) ((y, (z, o)), q) m {rest = rest} r =
    case_good n c x.test k y m (derived_parse d (derived_parse e rest)) (clause_empty x.cons.items) (clauses_good n c x.cons.items d o m (derived_parse e rest) (cases_good n c xs e q m r))

pub stmt_good : {s : Settings} (c : Parameters) (n : Stmt AnyNode) {ts : List Token} (d : Derives core s (stmt_form c n) ts) → AllGood d → s.minify ≡ c.minify → Good (Whole (stmt_variant n) (item_of (follower c))) (derived_parse d End)
unfolding stmt_form stmt_variant with_form return_form break_form continue_form if_form switch_form throw_form try_form while_form do_while_form empty_stmt debugger_stmt is_met AllGood PlacedGood derived_parse read_phrase chosen placed is_inlined word same_line
stmt_good c (stmts.Block n) (part a sa d) o m =
    let v = o m in
    subst (λ z. Good (Whole BlockStmt (item_of (follower c))) z) (sym (v.is End))
    (block_good (follower c) (v.good (InList BlockStmt) refl BlockStmt (item_of (follower c)) End (ended BlockStmt (item_of (follower c)))))
stmt_good c (stmts.Empty n) (fixed g) o m = empty_good (follower c)
stmt_good c (stmts.Debugger n) (fixed g) o m = word_alone (word (codes "debugger")) DebuggerStmt (follower c) refl refl
stmt_good c (stmts.With n) (provided h (both (fixed g) (both (fixed k) (both (part a sa d) (both (fixed l) (part b sb e)))))) (x, (y, (o, (z, q)))) m =
    looped (word (codes "with")) WithStmt (follower c) refl refl refl (at_place _ _ sa (o m)) (q m).good
stmt_good c (stmts.Return n) (provided h (both (fixed g) d)) (x, o) m = return_by (follower c) c n.arg d o m
stmt_good c (stmts.Labeled n) d o m = labeled_good c n d o m
stmt_good c (stmts.Break n) (both (fixed g) d) (x, o) m = jump_by (follower c) (word (codes "break")) BreakStmt c n.label d refl refl refl
stmt_good c (stmts.Continue n) (both (fixed g) d) (x, o) m = jump_by (follower c) (word (codes "continue")) ContinueStmt c n.label d refl refl refl
stmt_good c (stmts.If n) (both (fixed g) (both (fixed h) (both (part a sa d) (both (fixed k) e)))) (x, (y, (o, (z, q)))) m = if_by c n.cons n.alt (at_place _ _ sa (o m)) e q m
stmt_good c (stmts.Switch n) (provided i (both (fixed g) (both (fixed h) (both (part a sa d) (both (fixed k) (both (fixed l) (both e (fixed j)))))))) (x, (y, (o, (z, (w, (q, v)))))) m =
    switch_begun (follower c) (at_place _ _ sa (o m)) (cases_good (item_of (follower c)) c n.cases.items e q m (switch_ends (item_of (follower c)))).0
stmt_good c (stmts.Throw n) (both (fixed g) (both (fixed h) (both (bare (part a sa d)) (fixed k)))) (x, (y, (o, z))) m = word_valued (word (codes "throw")) ThrowStmt (follower c) refl refl refl (at_place _ _ sa (o m))
stmt_good c (stmts.Try n) (provided h (both (fixed g) (both (part a sa d) (both e f)))) (x, (o, (q, r))) m =
    let v = o m in
    subst (λ z. Good (Whole TryStmt (item_of (follower c))) (Read (word (codes "try")) z)) (sym (v.is _))
    (try_begun (follower c) (v.good InTry refl TryStmt (item_of (follower c)) _ (handler_good (follower c) c n.handler n.finalizer h e f q r m)))
stmt_good c (stmts.While n) (both (fixed g) (both (fixed k) (both (part a sa d) (both (fixed l) (part b sb e))))) (x, (y, (o, (z, q)))) m =
    looped (word (codes "while")) WhileStmt (follower c) refl refl refl (at_place _ _ sa (o m)) (q m).good
stmt_good {s = s} c (stmts.DoWhile n) (provided h (both (fixed g) (both (part a sa d) (both (fixed k) (both (fixed l) (both (part b sb e) (both (fixed i) (fixed j)))))))) (x, (o, (y, (z, (q, (w, v)))))) m =
    do_good (follower c) (o m).good (at_place _ _ sb (q m)) (do_left (follower c) (is_up_to_es5 s.target) (no_empty c.before_else c.before_empty h))
stmt_good c (stmts.For n) d o m = for_good c n d o m
stmt_good c (stmts.ForIn n) d o m = for_in_good c n d o m
stmt_good c (stmts.ForOf n) d o m = for_of_good c n d o m
stmt_good c (stmts.Decl n) d o m = decl_good (follower c) c n d o m
stmt_good c (stmts.Expr n) d o m = expr_good (follower c) c n d o m

-- ---- lists, and blocks

-- a list before what stands behind it, and whether it begins with an empty statement
abbrev pub InItems : Where → Variant → Nonterminal → Bool → ParseTree → Type 0
InItems place variant n empty m = Good (Rest (Statement place) variant n) m × Heads (Follows place empty) m

-- `empty`: an empty statement stands right behind; `own`: it is one itself
pub item_taken : {s : Settings} {a : Form AnyNode} {ts : List Token} (place : Where) (variant : Variant) (n : Nonterminal) (empty own : Bool) {v : Variant} → is_list place ≡ true → (d : Derives core s a ts) →
    Good (Whole v (item_of (follower_by false empty))) (derived_parse d End) → (is_empty_variant v ≡ true → own ≡ true) → (rest : ParseTree) → InItems place variant n empty rest → InItems place variant n own (derived_parse d rest)
item_taken place variant n empty own i d g w rest r =
    let same = sym (derived_joined d End rest) in (
      item_then place variant n empty i g r.1 r.0 same,
      λ us.
          let k = item_heads place g (item_stands (follower_by false empty) place) (tokens_of rest us) in
          (k.0, k.1, ap (λ z. tokens_of z us) same ∙ joined_tokens (derived_parse d End) rest us ∙ k.2, (k.3.0, λ e. w (k.3.1 e))),
    )

pub item_good : {s : Settings} (place : Where) (variant : Variant) (n : Nonterminal) (empty : Bool) (c : Parameters) (x : Stmt AnyNode) {ts : List Token} → is_list place ≡ true → (d : Derives core s (stmt_form (in_list empty c) x) ts) → AllGood d → s.minify ≡ c.minify →
    (rest : ParseTree) → InItems place variant n empty rest → InItems place variant n (is_empty x) (derived_parse d rest)
item_good place variant n empty c x i d o m rest r = item_taken place variant n empty (is_empty x) i d (stmt_good (in_list empty c) x d o m) (stmt_marks x) rest r

pub list_good : {s : Settings} (place : Where) (variant : Variant) (n : Nonterminal) (c : Parameters) (xs : List (Stmt AnyNode)) {ts : List Token} → is_list place ≡ true → (d : Derives core s (list_form c xs) ts) → AllGood d → s.minify ≡ c.minify → (rest : ParseTree) →
    InItems place variant n false rest → InItems place variant n (begins_empty xs) (derived_parse d rest)
unfolding list_form begins_empty AllGood derived_parse read_phrase
list_good place variant n c [] i (fixed g) o m rest r = r
list_good place variant n c (x ∷ xs) i (both d e) (o, q) m rest r = item_good place variant n (begins_empty xs) c x i d o m (derived_parse e rest) (list_good place variant n c xs i e q m rest r)

pub list_end : (place : Where) (variant : Variant) (n : Nonterminal) → is_list place ≡ true → (rest : ParseTree) → Good (Rest (closing place) variant n) rest → InItems place variant n false (Read (punctuator (codes "}")) rest)
list_end place variant n i rest g = (no_items place variant n i g, end_heads place rest i)

block_of : {s : Settings} (c : Parameters) (x : blocks.BlockStmt AnyNode) {ts : List Token} (d : Derives core s (block_form c x) ts) → AllGood d → s.minify ≡ c.minify → BlockFit (derived_parse d)
unfolding block_form AllGood derived_parse read_phrase
block_of c x (both (fixed g) (both d (fixed h))) (y, (o, z)) m = record {
  inner = λ rest. derived_parse d (Read (punctuator (codes "}")) rest);
  is = λ rest. refl;
  good = λ place i variant n rest g. (list_good place variant n (in_block c) x.stmts.items i d o m (Read (punctuator (codes "}")) rest) (list_end place variant n i rest g)).0;
}

pub block_in : {s : Settings} (k : Bool) (c : Parameters) (y : AnyNode-F AnyNode) {ts : List Token} (d : Derives core s (node_form k c y Block) ts) → AllGood d → s.minify ≡ c.minify → BlockFit (derived_parse d)
unfolding node_form part_form stmt_part_form jsx_part_form
block_in k c (nodes.StmtPart (stmt_parts.BlockStmt x)) d o m = block_of c x d o m
block_in k c (nodes.ExprPart (expr_parts.Tpl x)) d o m = absurd (no_form d)
block_in k c (nodes.JSXPart (jsx_parts.JSXElement x)) d o m = absurd (no_form d)
block_in k c y d o m = absurd (no_form d)
