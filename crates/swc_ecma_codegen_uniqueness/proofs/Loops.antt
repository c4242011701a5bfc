-- `for` is read as it is, in its three forms.
use Rattle.std.proofs.Common.{◌≡◌, Bool, true, false, List, Option, Some, None, refl, sym, subst}
use Rattle.std.specs.Prelude.{codes}
use Rattle.std.proofs.lemmas.Bool.{or_left}
use Rattle.swc_ecma_codegen_tree.specs.Links.{ExprBox}
use Rattle.swc_ecma_codegen_tree.specs.declared.links.AnyNode.{AnyNode, AnyNode-F, out-AnyNode}
use Rattle.swc_ecma_codegen_tree.specs.declared.links.AnyNode.TheOpen as nodes
use Rattle.swc_ecma_codegen_tree.specs.declared.parts.ExprPart.TheVariants as expr_parts
use Rattle.swc_ecma_codegen_tree.specs.declared.parts.JSXPart.TheVariants as jsx_parts
use Rattle.swc_ecma_codegen_tree.specs.declared.parts.StmtPart.TheVariants as stmt_parts
use Rattle.swc_ecma_codegen_tree.specs.declared.stmts.ForHead as heads
use Rattle.swc_ecma_codegen_tree.specs.declared.stmts.ForHead.TheVariants as head_variants
use Rattle.swc_ecma_codegen_tree.specs.declared.stmts.ForStmt as for_stmts
use Rattle.swc_ecma_codegen_tree.specs.declared.stmts.ForInStmt as for_in_stmts
use Rattle.swc_ecma_codegen_tree.specs.declared.stmts.ForOfStmt as for_of_stmts
use Rattle.swc_ecma_codegen_tree.specs.declared.stmts.VarDeclOrExpr.{VarDeclOrExpr}
use Rattle.swc_ecma_codegen_tree.specs.declared.stmts.VarDeclOrExpr.TheVariants as inits
use Rattle.swc_ecma_codegen_grammar.specs.FunctionPhrases.{word_if}
use Rattle.swc_ecma_codegen_grammar.specs.Phrases.{Generates}
use Rattle.swc_ecma_codegen_grammar.specs.Phrases as phrases
use Rattle.swc_ecma_codegen_grammar.specs.Settings.{Settings}
use Rattle.swc_ecma_codegen_grammar.specs.Tokens.{Token, punctuator, word}
use Rattle.swc_ecma_codegen_grammar.specs.declared.roles.Role.TheVariants.{VariableDeclaration}
use Rattle.swc_ecma_codegen_syntax.specs.declared.lookahead.Lookahead.{Lookahead}
use Rattle.swc_ecma_codegen_syntax.specs.declared.lookahead.Lookahead.TheVariants.{ForStart}
use Rattle.swc_ecma_codegen_syntax.specs.declared.nonterminals.Nonterminal.{Nonterminal}
use Rattle.swc_ecma_codegen_syntax.specs.declared.nonterminals.Nonterminal.TheVariants as nt
use Rattle.swc_ecma_codegen_syntax.specs.declared.parameters.Parameters.{Parameters}
use Rattle.swc_ecma_codegen_syntax.specs.Forms.{is_met}
use Rattle.swc_ecma_codegen_syntax.specs.Nonterminals.{takes, is_in_left, is_relational, is_shift, is_additive, is_multiplicative, is_exponentiation, is_unary, is_update, is_left_hand_side}
use Rattle.swc_ecma_codegen_syntax.specs.NodeForms.{node_form, part_form, stmt_part_form, jsx_part_form}
use Rattle.swc_ecma_codegen_syntax.specs.Parameters.{of_for, of_loop, of_targets}
use Rattle.swc_ecma_codegen_syntax.specs.StmtForms.{optional_form, for_init_form, for_form, initializes_in, head_form, for_in_form, of_start, for_of_form}
use Rattle.swc_ecma_codegen_syntax.specs.Derives.{Derives, fixed, part, restricted, both, provided}
use Rattle.swc_ecma_codegen_syntax.specs.Verdicts.{core}
use Rattle.swc_ecma_codegen_uniqueness.specs.ParseTrees.{Variant, ParseTree, End, Read, Node, ForStmt, ForInStmt, ForOfStmt}
use Rattle.swc_ecma_codegen_uniqueness.specs.Parses.{placed, is_inlined}
use Rattle.swc_ecma_codegen_uniqueness.proofs.Classes.{Semicolon, class}
use Rattle.swc_ecma_codegen_uniqueness.proofs.Controls.{Statement, OfLoop, ForHead, ForVars, ForTest, ForUpdate, ForIn, ForOf, left}
use Rattle.swc_ecma_codegen_uniqueness.proofs.Moves.{passed_to}
use Rattle.swc_ecma_codegen_uniqueness.proofs.Tables.{Shift, Splice, decide}
use Rattle.swc_ecma_codegen_uniqueness.proofs.TableLaws.{ended_by, takes_on}
use Rattle.swc_ecma_codegen_uniqueness.proofs.Machine.{Whole, Rest, Good, heading, shifted}
use Rattle.swc_ecma_codegen_uniqueness.proofs.Shapes.{Operand, takes_self, assignment_taken, left_assigned, operand_free, part_then}
use Rattle.swc_ecma_codegen_uniqueness.proofs.StatementShapes.{Follower, follower, item_of, for_begun, for_await_begun, loop_body}
use Rattle.swc_ecma_codegen_uniqueness.proofs.Reading.{read_phrase, derived_parse}
use Rattle.swc_ecma_codegen_uniqueness.proofs.Fits.{at_place, PlacedGood, AllGood, no_form}
use Rattle.swc_ecma_codegen_uniqueness.proofs.Patterns.{covered_at, no_rest_target}
use Rattle.swc_ecma_codegen_uniqueness.proofs.Variables.{of_head, Single, behind_semicolon, decl_read, single_read, vars_begin}

-- ---- `for (a; b; c) {}`

update_good : {s : Settings} (n : Nonterminal) (c : Parameters) (o : Option (ExprBox AnyNode)) {ts : List Token} (d : Derives core s (optional_form c o) ts) → AllGood d → s.minify ≡ c.minify → (m : ParseTree) → Good (Rest (Statement (OfLoop ForStmt)) ForStmt n) m →
    Good (Rest ForUpdate ForStmt n) (derived_parse d (Read (punctuator (codes ")")) m))
unfolding optional_form AllGood PlacedGood derived_parse read_phrase placed is_inlined punctuator
update_good n c None (fixed g) o m rest r = shifted refl r
update_good n c (Some x) (part a sa d) o m rest r = part_then ForUpdate (Read (punctuator (codes ")")) rest) (takes_self nt.Expression) (at_place _ _ sa (o m)) (takes_self nt.Expression, λ z. refl, r)

test_good : {s : Settings} (n : Nonterminal) (c : Parameters) (o : Option (ExprBox AnyNode)) {ts : List Token} (d : Derives core s (optional_form c o) ts) → AllGood d → s.minify ≡ c.minify → (m : ParseTree) → Good (Rest ForUpdate ForStmt n) m →
    Good (Rest ForTest ForStmt n) (derived_parse d (Read (punctuator (codes ";")) m))
unfolding optional_form AllGood PlacedGood derived_parse read_phrase placed is_inlined punctuator
test_good n c None (fixed g) o m rest r = shifted refl r
test_good n c (Some x) (part a sa d) o m rest r = part_then ForTest (Read (punctuator (codes ";")) rest) (takes_self nt.Expression) (at_place _ _ sa (o m)) (takes_self nt.Expression, λ z. refl, r)

vars_in : {s : Settings} (n : Nonterminal) (k : Bool) (c : Parameters) (y : AnyNode-F AnyNode) {ts : List Token} (d : Derives core s (node_form k c y VariableDeclaration) ts) → AllGood d → s.minify ≡ c.minify → (m : ParseTree) → Good (Rest ForTest ForStmt n) m →
    Good (Rest ForHead ForStmt n) (derived_parse d (Read (punctuator (codes ";")) m))
unfolding node_form part_form stmt_part_form jsx_part_form
vars_in n k c (nodes.StmtPart (stmt_parts.VarDecl x)) d o m rest r = vars_begin (decl_read (of_head ForStmt n) c x d o m (Read (punctuator (codes ";")) rest) (behind_semicolon ForStmt n r))
vars_in n k c (nodes.ExprPart (expr_parts.Tpl x)) d o m rest r = absurd (no_form d)
vars_in n k c (nodes.JSXPart (jsx_parts.JSXElement x)) d o m rest r = absurd (no_form d)
vars_in n k c y d o m rest r = absurd (no_form d)

init_good : {s : Settings} (n : Nonterminal) (c : Parameters) (o : Option (VarDeclOrExpr AnyNode)) {ts : List Token} (d : Derives core s (for_init_form c o) ts) → AllGood d → s.minify ≡ c.minify → (m : ParseTree) → Good (Rest ForTest ForStmt n) m →
    Good (Rest ForHead ForStmt n) (derived_parse d (Read (punctuator (codes ";")) m))
unfolding for_init_form AllGood PlacedGood derived_parse read_phrase placed is_inlined punctuator
init_good n c None (fixed g) o m rest r = shifted refl r
init_good n c (Some (inits.VarDecl x)) (part a sa d) o m rest r = vars_in n a (of_for c) (out-AnyNode x.node.value) d o m rest r
init_good n c (Some (inits.Expr x)) (restricted h (part a sa d)) o m rest r =
    let f = o m in
    let w = at_place _ _ sa f in
    heading (or_left _ _ w.taken) (f.free refl) w.good (ended_by Semicolon w.of w.taken) refl r

pub for_good : {s : Settings} (c : Parameters) (n : for_stmts.ForStmt AnyNode) {ts : List Token} (d : Derives core s (for_form c n) ts) → AllGood d → s.minify ≡ c.minify → Good (Whole ForStmt (item_of (follower c))) (derived_parse d End)
unfolding for_form AllGood PlacedGood derived_parse read_phrase placed is_inlined
for_good c n (both (fixed g) (both (fixed h) (both i (both (fixed j) (both t (both (fixed k) (both u (both (fixed l) (part a sa d))))))))) (x, (y, (o, (z, (p, (w, (q, (v, r)))))))) m =
    for_begun (follower c) ForStmt
    (init_good (item_of (follower c)) c n.init i o m _ (test_good (item_of (follower c)) c n.test t p m _ (update_good (item_of (follower c)) c n.update u q m _ (loop_body (follower c) ForStmt (r m).good))))

-- ---- `for (a in b) {}` and `for (a of b) {}`

-- `in`, or `of`, behind what is assigned to
record Behind (v : Variant) (n : Nonterminal) (t : Token) (m : ParseTree) : Type 0 where
  ends : takes (left (class t)) nt.LeftHandSideExpression ≡ true
  shifts : (s : Variant) → decide ForHead (Some s) t ≡ Shift
  good : Good (Rest (passed_to ForHead (class t)) v n) m
  splices : (s : Variant) → decide ForVars (Some s) t ≡ Splice
  named : Good (Rest (passed_to ForVars (class t)) v n) m

single_in : {s : Settings} (v : Variant) (n : Nonterminal) (k initializes : Bool) (c : Parameters) (y : AnyNode-F AnyNode) {ts : List Token} (d : Derives core s (node_form k (of_loop initializes c) y VariableDeclaration) ts) → AllGood d → s.minify ≡ c.minify → (t : Token) (m : ParseTree) →
    Single v n t m → Good (Rest ForHead v n) (derived_parse d (Read t m))
unfolding node_form part_form stmt_part_form jsx_part_form
single_in v n k b c (nodes.StmtPart (stmt_parts.VarDecl x)) d o m t rest r = vars_begin (single_read v n b c x d o m t rest r)
single_in v n k b c (nodes.ExprPart (expr_parts.Tpl x)) d o m t rest r = absurd (no_form d)
single_in v n k b c (nodes.JSXPart (jsx_parts.JSXElement x)) d o m t rest r = absurd (no_form d)
single_in v n k b c y d o m t rest r = absurd (no_form d)

expression_left : takes nt.Expression nt.LeftHandSideExpression ≡ true
expression_left = takes_on nt.Expression nt.AssignmentExpression nt.LeftHandSideExpression assignment_taken left_assigned

head_then : (v : Variant) (n : Nonterminal) (t : Token) {w : Variant} {p m : ParseTree} → Operand nt.LeftHandSideExpression w p → Behind v n t m → Good (Rest ForHead v n) (Node w p (Read t m))
head_then v n t {w = w} o b =
    heading (or_left _ _ (takes_on nt.Expression nt.LeftHandSideExpression o.of expression_left o.taken)) (operand_free o) o.good (ended_by (class t) o.of (takes_on (left (class t)) nt.LeftHandSideExpression o.of b.ends o.taken)) (b.shifts w) b.good

head_good : {s : Settings} (v : Variant) (n : Nonterminal) (lookahead : Lookahead) (c : Parameters) (x : heads.ForHead AnyNode) {ts : List Token} (d : Derives core s (head_form lookahead c x) ts) → AllGood d → s.minify ≡ c.minify → (t : Token) (m : ParseTree) →
    Behind v n t m → Good (Rest ForHead v n) (derived_parse d (Read t m))
unfolding head_form is_met AllGood PlacedGood derived_parse placed is_inlined
head_good v n lookahead c (head_variants.VarDecl x) (part a sa d) o m t rest b = single_in v n a (initializes_in lookahead c) c (out-AnyNode x.node.value) d o m t rest (b.ends, b.splices, b.named)
head_good v n lookahead c (head_variants.UsingDecl x) d o m t rest b = absurd (no_form d)
head_good v n lookahead c (head_variants.Pat x) (restricted h d) o m t rest b =
    let w = covered_at nt.PatternTarget no_rest_target (of_targets c) x.node.value d o m in
    subst (λ z. Good (Rest ForHead v n) z) (sym (w.is (Read t rest))) (head_then v n t w.operand b)

behind_in : (n : Nonterminal) {m : ParseTree} → Good (Rest ForIn ForInStmt n) m → Behind ForInStmt n (word (codes "in")) m
unfolding word takes is_in_left is_relational is_shift is_additive is_multiplicative is_exponentiation is_unary is_update is_left_hand_side
behind_in n g = record { ends = refl; shifts = λ s. refl; good = g; splices = λ s. refl; named = g }

behind_of : (n : Nonterminal) {m : ParseTree} → Good (Rest ForOf ForOfStmt n) m → Behind ForOfStmt n (word (codes "of")) m
unfolding word
behind_of n g = record { ends = takes_self nt.LeftHandSideExpression; shifts = λ s. refl; good = g; splices = λ s. refl; named = g }

in_value : (n : Nonterminal) {v : Variant} {p m : ParseTree} → Operand nt.Expression v p → Good (Rest (Statement (OfLoop ForInStmt)) ForInStmt n) m → Good (Rest ForIn ForInStmt n) (Node v p (Read (punctuator (codes ")")) m))
unfolding punctuator
in_value n {m = m} o g = part_then ForIn (Read (punctuator (codes ")")) m) (takes_self nt.Expression) o (takes_self nt.Expression, λ z. refl, g)

of_value : (n : Nonterminal) {v : Variant} {p m : ParseTree} → Operand nt.AssignmentExpression v p → Good (Rest (Statement (OfLoop ForOfStmt)) ForOfStmt n) m → Good (Rest ForOf ForOfStmt n) (Node v p (Read (punctuator (codes ")")) m))
unfolding punctuator
of_value n {m = m} o g = part_then ForOf (Read (punctuator (codes ")")) m) (takes_self nt.AssignmentExpression) o (assignment_taken, λ z. refl, g)

pub for_in_good : {s : Settings} (c : Parameters) (n : for_in_stmts.ForInStmt AnyNode) {ts : List Token} (d : Derives core s (for_in_form c n) ts) → AllGood d → s.minify ≡ c.minify → Good (Whole ForInStmt (item_of (follower c))) (derived_parse d End)
unfolding for_in_form AllGood PlacedGood derived_parse read_phrase placed is_inlined
for_in_good c n (both (fixed g) (both (fixed h) (both k (both (fixed i) (both (part a sa d) (both (fixed j) (part b sb e))))))) (x, (y, (o, (z, (p, (w, q)))))) m =
    for_begun (follower c) ForInStmt
    (head_good ForInStmt (item_of (follower c)) ForStart c n.left k o m (word (codes "in")) _ (behind_in (item_of (follower c)) (in_value (item_of (follower c)) (at_place _ _ sa (p m)) (loop_body (follower c) ForInStmt (q m).good))))

await_begun : (s : Settings) (b : Follower) (k : Bool) (ts : List Token) (g : Generates s (word_if k (phrases.word (codes "await"))) ts) {m : ParseTree} → Good (Rest ForHead ForOfStmt (item_of b)) m →
    Good (Whole ForOfStmt (item_of b)) (Read (word (codes "for")) (read_phrase s (word_if k (phrases.word (codes "await"))) ts g (Read (punctuator (codes "(")) m)))
unfolding word_if read_phrase
await_begun s b true ts g r = for_await_begun b ForOfStmt r
await_begun s b false ts g r = for_begun b ForOfStmt r

pub for_of_good : {s : Settings} (c : Parameters) (n : for_of_stmts.ForOfStmt AnyNode) {ts : List Token} (d : Derives core s (for_of_form c n) ts) → AllGood d → s.minify ≡ c.minify → Good (Whole ForOfStmt (item_of (follower c))) (derived_parse d End)
unfolding for_of_form is_met AllGood PlacedGood derived_parse read_phrase placed is_inlined
for_of_good {s = s} c n (provided l (both (fixed g) (both (fixed {ts = ts} h) (both (fixed i) (both k (both (fixed j) (both (part a sa d) (both (fixed f) (part b sb e))))))))) (x, (u, (y, (o, (z, (p, (w, q))))))) m =
    await_begun s (follower c) n.is_await ts h
    (head_good ForOfStmt (item_of (follower c)) (of_start n.is_await) c n.left k o m (word (codes "of")) _ (behind_of (item_of (follower c)) (of_value (item_of (follower c)) (at_place _ _ sa (p m)) (loop_body (follower c) ForOfStmt (q m).good))))
