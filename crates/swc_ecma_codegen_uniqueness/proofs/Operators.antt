-- Expressions with operators are read as they are.
use Rattle.std.proofs.Common.{◌≡◌, Bool, true, false, List, [], ◌∷◌, Option, Some, None, refl, sym, ap, ◌∙◌, subst}
use Rattle.std.specs.Prelude.{codes, if◌then◌else◌}
use Rattle.std.proofs.lemmas.Bool.{true≢false, and_parts}
use Rattle.swc_ecma_codegen_common.specs.Operators.{assign_text, binary_text, unary_text, update_text}
use Rattle.swc_ecma_codegen_common.specs.declared.operators.BinaryOp.{BinaryOp}
use Rattle.swc_ecma_codegen_common.specs.declared.operators.BinaryOp.TheVariants as binaries
use Rattle.swc_ecma_codegen_common.specs.declared.operators.AssignOp.{AssignOp}
use Rattle.swc_ecma_codegen_common.specs.declared.operators.AssignOp.TheVariants as assigns
use Rattle.swc_ecma_codegen_common.specs.declared.operators.UnaryOp.{UnaryOp}
use Rattle.swc_ecma_codegen_common.specs.declared.operators.UnaryOp.TheVariants as unaries
use Rattle.swc_ecma_codegen_common.specs.declared.operators.UpdateOp.{UpdateOp}
use Rattle.swc_ecma_codegen_common.specs.declared.operators.UpdateOp.TheVariants as updates
use Rattle.swc_ecma_codegen_tree.specs.Links.{ExprBox}
use Rattle.swc_ecma_codegen_tree.specs.declared.links.AnyNode.{AnyNode, AnyNode-F, map-AnyNode, roll-AnyNode, out-AnyNode, ind-AnyNode}
use Rattle.swc_ecma_codegen_tree.specs.declared.links.AnyNode.TheOpen as nodes
use Rattle.swc_ecma_codegen_tree.specs.declared.links.AnyNode.TheViews.{out-roll-AnyNode}
use Rattle.swc_ecma_codegen_tree.specs.declared.exprs.Expr.TheVariants as exprs
use Rattle.swc_ecma_codegen_tree.specs.declared.exprs.UnaryExpr.{UnaryExpr}
use Rattle.swc_ecma_codegen_tree.specs.declared.exprs.UpdateExpr.{UpdateExpr}
use Rattle.swc_ecma_codegen_tree.specs.declared.exprs.BinExpr.{BinExpr}
use Rattle.swc_ecma_codegen_tree.specs.declared.exprs.AssignExpr.{AssignExpr}
use Rattle.swc_ecma_codegen_tree.specs.declared.exprs.YieldExpr.{YieldExpr}
use Rattle.swc_ecma_codegen_tree.specs.declared.exprs.AwaitExpr.{AwaitExpr}
use Rattle.swc_ecma_codegen_tree.specs.declared.exprs.CondExpr.{CondExpr}
use Rattle.swc_ecma_codegen_tree.specs.declared.exprs.SeqExpr.{SeqExpr}
use Rattle.swc_ecma_codegen_tree.specs.declared.exprs.ParenExpr.{ParenExpr}
use Rattle.swc_ecma_codegen_grammar.specs.Phrases.{One}
use Rattle.swc_ecma_codegen_grammar.specs.Phrases as phrases
use Rattle.swc_ecma_codegen_grammar.specs.ExprPhrases.{unary_op, update_op, binary_op, assign_op}
use Rattle.swc_ecma_codegen_grammar.specs.Settings.{Settings}
use Rattle.swc_ecma_codegen_grammar.specs.Tokens.{Token, word, punctuator}
use Rattle.swc_ecma_codegen_grammar.specs.declared.roles.Role.TheVariants.{Expression}
use Rattle.swc_ecma_codegen_syntax.specs.declared.nonterminals.Nonterminal.{Nonterminal}
use Rattle.swc_ecma_codegen_syntax.specs.declared.nonterminals.Nonterminal.TheVariants as nt
use Rattle.swc_ecma_codegen_syntax.specs.Nonterminals.{takes, is_left_hand_side, is_new, is_member}
use Rattle.swc_ecma_codegen_syntax.specs.declared.parameters.Parameters.{Parameters}
use Rattle.swc_ecma_codegen_syntax.specs.Parameters.{with_in}
use Rattle.swc_ecma_codegen_syntax.specs.Forms.{Fixed, Simple, Both, is_met, each_after, some_listed}
use Rattle.swc_ecma_codegen_syntax.specs.MemberForms.{expr_part}
use Rattle.swc_ecma_codegen_syntax.specs.ExprForms.{unary_form, update_form, bin_form, cond_form, assign_form, yield_arg_form, yield_rest_form, yield_form, await_form, seq_form, paren_form, binary_nonterminal, left_nonterminal, right_nonterminal, target_of, expr_nonterminal}
use Rattle.swc_ecma_codegen_syntax.specs.NodeForms.{node_nonterminal, is_simple, is_simple_node, is_simple_expr}
use Rattle.swc_ecma_codegen_syntax.specs.Derives.{Derives, fixed, part, simple, both, provided, bare}
use Rattle.swc_ecma_codegen_syntax.specs.Verdicts.{core}
use Rattle.swc_ecma_codegen_syntax.proofs.TreeFacts.{simple_of}
use Rattle.swc_ecma_codegen_uniqueness.specs.ParseTrees.{Variant, ParseTree, End, Read, Unary, Update, Bin, Assign, Cond, Seq, Yield, Await, Paren}
use Rattle.swc_ecma_codegen_uniqueness.specs.Parses.{placed, is_inlined}
use Rattle.swc_ecma_codegen_uniqueness.proofs.Classes.{Level, Power, Times, Over, Plus, Shifting, Less, Comparing, Within, Equating, BitAnds, BitXors, BitOrs, Ands, Ors, Coalescing, Infix, Assigns, Twice, class, Slashed, Angled, Plain, Assigning}
use Rattle.swc_ecma_codegen_uniqueness.proofs.Controls.{starts, left_of, right_of, made, OfUnary, OfUpdate, OfAwait, Open, Listed}
use Rattle.swc_ecma_codegen_uniqueness.proofs.Moves.{start, started}
use Rattle.swc_ecma_codegen_uniqueness.proofs.TableLaws.{cover, cover_taken}
use Rattle.swc_ecma_codegen_uniqueness.proofs.Machine.{Whole, Rest, Good}
use Rattle.swc_ecma_codegen_uniqueness.proofs.Shapes.{prefixed, parenthesized, binary, assigned, conditional, stepped, yield_bare, yield_part, yield_star, listed_first, listed_next, listed_last}
use Rattle.swc_ecma_codegen_uniqueness.proofs.Reading.{read_phrase, derived_parse}
use Rattle.swc_ecma_codegen_uniqueness.proofs.Fits.{in_place, at_place, PlacedGood, AllGood, moved}

-- ---- the tokens of operators

unary_starts : (op : UnaryOp) → starts (class (unary_op op)) ≡ true
unfolding unary_op unary_text word punctuator
unary_starts unaries.Minus = refl
unary_starts op = refl

unary_start : (op : UnaryOp) → start (unary_op op) ≡ Open OfUnary
unfolding unary_op unary_text word punctuator
unary_start unaries.Minus = refl
unary_start op = refl

update_twice : (op : UpdateOp) → class (update_op op) ≡ Twice
unfolding update_op update_text punctuator
update_twice updates.PlusPlus = refl
update_twice op = refl

abbrev sign_of : AssignOp → Assigning
sign_of assigns.DivAssign = Slashed
sign_of assigns.RShiftAssign = Angled
sign_of assigns.ZeroFillRShiftAssign = Angled
sign_of op = Plain

pub assign_class : (op : AssignOp) → class (assign_op op) ≡ Assigns (sign_of op)
unfolding assign_op assign_text punctuator
assign_class assigns.Assign = refl
assign_class op = refl

abbrev pub level : BinaryOp → Level
level binaries.Exp = Power
level binaries.Mul = Times
level binaries.Div = Over
level binaries.Mod = Times
level binaries.Add = Plus
level binaries.Sub = Plus
level binaries.LShift = Shifting
level binaries.RShift = Shifting
level binaries.ZeroFillRShift = Shifting
level binaries.Lt = Less
level binaries.Gt = Comparing
level binaries.LtEq = Comparing
level binaries.GtEq = Comparing
level binaries.InstanceOf = Comparing
level binaries.In = Within
level binaries.EqEq = Equating
level binaries.NotEq = Equating
level binaries.EqEqEq = Equating
level binaries.NotEqEq = Equating
level binaries.BitAnd = BitAnds
level binaries.BitXor = BitXors
level binaries.BitOr = BitOrs
level binaries.LogicalAnd = Ands
level binaries.LogicalOr = Ors
level binaries.NullishCoalescing = Coalescing

binary_class : (op : BinaryOp) → class (binary_op op) ≡ Infix (level op)
unfolding binary_op binary_text word punctuator
binary_class binaries.Exp = refl
binary_class op = refl

pub binary_made : (op : BinaryOp) → binary_nonterminal op ≡ made (level op)
unfolding binary_nonterminal
binary_made binaries.Exp = refl
binary_made op = refl

binary_left : (op : BinaryOp) → cover (left_nonterminal op) ≡ left_of (level op)
unfolding left_nonterminal binary_nonterminal
binary_left binaries.Exp = refl
binary_left op = refl

binary_right : (op : BinaryOp) → cover (right_nonterminal op) ≡ right_of (level op)
unfolding right_nonterminal
binary_right binaries.Exp = refl
binary_right op = refl

-- ---- an expression whose AssignmentTargetType is simple is a LeftHandSideExpression

simple_left : {X Y : Type 0} (g : X → Y) (f : X → Bool) (strict called : Bool) (c : Parameters) (y : AnyNode-F X) → is_simple_node f strict y ≡ true →
    takes nt.LeftHandSideExpression (node_nonterminal called c (map-AnyNode X Y g y) Expression) ≡ true
unfolding is_simple_node is_simple_expr node_nonterminal expr_nonterminal takes is_left_hand_side is_new is_member
simple_left g f strict called c (nodes.Expr (exprs.Ident n)) h = refl
simple_left g f strict true c (nodes.Expr (exprs.Member n)) h = refl
simple_left g f strict false c (nodes.Expr (exprs.Member n)) h = refl
simple_left g f strict called c (nodes.Expr (exprs.SuperProp n)) h = refl
simple_left g f strict called c (nodes.Expr (exprs.Paren n)) h = refl
simple_left g f strict called c y h = absurd (true≢false (sym h))

abbrev SimpleLeft : AnyNode → Type 0
SimpleLeft n = (strict called : Bool) (c : Parameters) → is_simple n strict ≡ true → takes nt.LeftHandSideExpression (node_nonterminal called c (out-AnyNode n) Expression) ≡ true

simple_is_left : (n : AnyNode) → SimpleLeft n
simple_is_left = ind-AnyNode SimpleLeft (λ x y q. subst (λ z. SimpleLeft (roll-AnyNode z)) q (λ strict called c h.
    ap (λ z. takes nt.LeftHandSideExpression (node_nonterminal called c z Expression)) (out-roll-AnyNode (map-AnyNode _ AnyNode (λ z. z.0) y))
    ∙ simple_left (λ z. z.0) (λ z. is_simple z.0 strict) strict called c y (sym (simple_of (λ z. z.0) y strict) ∙ h)))

-- ---- expressions

pub unary_good : {s : Settings} (c : Parameters) (n : UnaryExpr AnyNode) {ts : List Token} (d : Derives core s (unary_form c n) ts) → AllGood d → s.minify ≡ c.minify → Good (Whole Unary nt.UnaryExpression) (derived_parse d End)
unfolding unary_form AllGood PlacedGood derived_parse read_phrase placed is_inlined
unary_good c n (both (fixed g) (part called st d)) (x, o) m = prefixed (unary_op n.op) OfUnary (unary_starts n.op) refl (unary_start n.op) (at_place _ _ st (o m))

update_by : {s : Settings} (prefix : Bool) (op : UpdateOp) (c : Parameters) (x : AnyNode) {ts : List Token}
    (d : Derives core s (if prefix then Both (Fixed (One (update_op op))) (Simple true nt.UnaryExpression (with_in c) x) else Both (Simple true nt.LeftHandSideExpression (with_in c) x) (Both (Fixed phrases.same_line) (Fixed (One (update_op op))))) ts) →
    AllGood d → s.minify ≡ c.minify → Good (Whole Update nt.UpdateExpression) (derived_parse d End)
unfolding AllGood PlacedGood derived_parse read_phrase placed is_inlined
update_by true op c x (both (fixed g) (simple h (part called st d))) (y, o) m =
    prefixed (update_op op) OfUpdate (ap starts (update_twice op)) refl (ap started (update_twice op))
    (in_place (cover_taken nt.LeftHandSideExpression _ (simple_is_left x c.is_strict called (with_in c) (and_parts _ _ h).0)) (o m))
update_by false op c x (both (simple h (part called st d)) (both (fixed g) (fixed k))) (o, y) m = stepped (update_op op) (update_twice op) (at_place _ _ st (o m))

pub update_good : {s : Settings} (c : Parameters) (n : UpdateExpr AnyNode) {ts : List Token} (d : Derives core s (update_form c n) ts) → AllGood d → s.minify ≡ c.minify → Good (Whole Update nt.UpdateExpression) (derived_parse d End)
unfolding update_form
update_good c n d o m = update_by n.prefix n.op c n.arg.node.value d o m

pub renamed : {variant : Variant} {p : ParseTree} {a b : Nonterminal} → a ≡ b → Good (Whole variant b) p → Good (Whole variant a) p
renamed {variant = variant} {p = p} e g = subst (λ z. Good (Whole variant z) p) (sym e) g

pub bin_good : {s : Settings} (c : Parameters) (n : BinExpr AnyNode) {ts : List Token} (d : Derives core s (bin_form c n) ts) → AllGood d → s.minify ≡ c.minify → Good (Whole Bin (binary_nonterminal n.op)) (derived_parse d End)
unfolding bin_form AllGood PlacedGood derived_parse read_phrase placed is_inlined
bin_good c n (provided h (both (part called st d) (both (fixed g) (part k sk e)))) (o, (x, q)) m =
    renamed (binary_made n.op)
    (binary (binary_op n.op) (level n.op) (binary_class n.op) (moved (binary_left n.op) (at_place _ _ st (o m))) (moved (binary_right n.op) (at_place _ _ sk (q m))))

pub cond_good : {s : Settings} (c : Parameters) (n : CondExpr AnyNode) {ts : List Token} (d : Derives core s (cond_form c n) ts) → AllGood d → s.minify ≡ c.minify → Good (Whole Cond nt.ConditionalExpression) (derived_parse d End)
unfolding cond_form AllGood PlacedGood derived_parse read_phrase placed is_inlined
cond_good c n (both (part a sa d) (both (fixed g) (both (part b sb e) (both (fixed h) (part k sk f))))) (o, (x, (p, (y, q)))) m =
    conditional (at_place _ _ sa (o m)) (at_place _ _ sb (p m)) (at_place _ _ sk (q m))

pub target_covered : (op : AssignOp) → cover (target_of op) ≡ nt.LeftHandSideExpression
unfolding target_of
target_covered assigns.Assign = refl
target_covered op = refl

pub assign_good : {s : Settings} (c : Parameters) (n : AssignExpr AnyNode) {ts : List Token} (d : Derives core s (assign_form c n) ts) → AllGood d → s.minify ≡ c.minify → Good (Whole Assign nt.AssignmentExpression) (derived_parse d End)
unfolding assign_form AllGood PlacedGood derived_parse read_phrase placed is_inlined
assign_good c n (both (part a sa d) (both (fixed g) (part b sb e))) (o, (x, p)) m =
    assigned (assign_op n.op) (sign_of n.op) (assign_class n.op) (moved (target_covered n.op) (at_place _ _ sa (o m))) (at_place _ _ sb (p m))

-- ---- `yield`, `await`

yield_by : {s : Settings} (c : Parameters) (delegate : Bool) (arg : Option (ExprBox AnyNode)) {ts : List Token}
    (d : Derives core s (yield_rest_form c delegate arg) ts) → AllGood d → s.minify ≡ c.minify → Good (Whole Yield nt.AssignmentExpression) (Read (word (codes "yield")) (derived_parse d End))
unfolding yield_rest_form yield_arg_form is_met AllGood PlacedGood derived_parse read_phrase placed is_inlined
yield_by c true None (both (fixed h) (both (fixed k) (provided e d))) o m = absurd (true≢false (sym e))
yield_by c true (Some x) (both (fixed h) (both (fixed k) (bare (part a sa d)))) (y, (z, o)) m = yield_star (at_place _ _ sa (o m))
yield_by c false None (fixed h) o m = yield_bare
yield_by c false (Some x) (both (fixed h) (bare (part a sa d))) (y, o) m = yield_part (at_place _ _ sa (o m))

pub yield_good : {s : Settings} (c : Parameters) (n : YieldExpr AnyNode) {ts : List Token} (d : Derives core s (yield_form c n) ts) → AllGood d → s.minify ≡ c.minify → Good (Whole Yield nt.AssignmentExpression) (derived_parse d End)
unfolding yield_form AllGood derived_parse read_phrase
yield_good c n (provided h (both (fixed g) d)) (x, o) m = yield_by c n.delegate n.arg d o m

pub await_good : {s : Settings} (c : Parameters) (n : AwaitExpr AnyNode) {ts : List Token} (d : Derives core s (await_form c n) ts) → AllGood d → s.minify ≡ c.minify → Good (Whole Await nt.UnaryExpression) (derived_parse d End)
unfolding await_form AllGood PlacedGood derived_parse read_phrase placed is_inlined word
await_good c n (provided h (both (fixed g) (part a sa d))) (x, o) m = prefixed (word (codes "await")) OfAwait refl refl refl (at_place _ _ sa (o m))

-- ---- sequences

seq_on : {s : Settings} (c : Parameters) (x : ExprBox AnyNode) (xs : List (ExprBox AnyNode)) {ts us : List Token} (d : Derives core s (expr_part nt.AssignmentExpression c x) ts)
    (e : Derives core s (each_after (codes ",") (expr_part nt.AssignmentExpression c) xs) us) → AllGood d → AllGood e → s.minify ≡ c.minify → Good (Rest Listed Seq nt.Expression) (derived_parse d (derived_parse e End))
unfolding each_after AllGood PlacedGood derived_parse read_phrase placed is_inlined
seq_on c x [] (part a sa d) (fixed g) o q m = listed_last (at_place _ _ sa (o m))
seq_on c x (y ∷ ys) (part a sa d) (both (fixed g) (both e f)) o (z, (q, r)) m = listed_next (at_place _ _ sa (o m)) (seq_on c y ys e f q r m)

seq_by : {s : Settings} (c : Parameters) (xs : List (ExprBox AnyNode)) {ts : List Token} (d : Derives core s (some_listed (codes ",") (expr_part nt.AssignmentExpression c) xs) ts) → AllGood d → s.minify ≡ c.minify →
    Good (Whole Seq nt.Expression) (derived_parse d End)
unfolding some_listed each_after is_met AllGood PlacedGood derived_parse read_phrase placed is_inlined
seq_by c [] (provided h d) o m = absurd (true≢false (sym h))
seq_by c (x ∷ []) (provided h d) o m = absurd (true≢false (sym h))
seq_by c (x ∷ y ∷ xs) (both (part a sa d) (both (fixed g) (both e f))) (o, (z, (q, r))) m = listed_first (at_place _ _ sa (o m)) (seq_on c y xs e f q r m)

pub seq_good : {s : Settings} (c : Parameters) (n : SeqExpr AnyNode) {ts : List Token} (d : Derives core s (seq_form c n) ts) → AllGood d → s.minify ≡ c.minify → Good (Whole Seq nt.Expression) (derived_parse d End)
unfolding seq_form
seq_good c n d o m = seq_by c n.exprs.items d o m

pub paren_good : {s : Settings} (c : Parameters) (n : ParenExpr AnyNode) {ts : List Token} (d : Derives core s (paren_form c n) ts) → AllGood d → s.minify ≡ c.minify → Good (Whole Paren nt.PrimaryExpression) (derived_parse d End)
unfolding paren_form AllGood PlacedGood derived_parse read_phrase placed is_inlined
paren_good c n (both (fixed g) (both (part a sa d) (fixed h))) (x, (o, y)) m = parenthesized nt.PrimaryExpression refl (at_place _ _ sa (o m))
