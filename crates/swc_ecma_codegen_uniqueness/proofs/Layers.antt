-- Each node of a derivation is read as it is.
use Rattle.std.proofs.Common.{◌≡◌, ℕ, Bool, true, false, List, refl, sym, subst}
use Rattle.std.specs.Prelude.{codes, if◌then◌else◌}
use Rattle.std.proofs.lemmas.Bool.{true≢false}
use Rattle.swc_ecma_codegen_tree.specs.declared.links.AnyNode.{AnyNode, AnyNode-F, out-AnyNode}
use Rattle.swc_ecma_codegen_tree.specs.declared.links.AnyNode.TheOpen as nodes
use Rattle.swc_ecma_codegen_tree.specs.declared.exprs.Expr.{Expr}
use Rattle.swc_ecma_codegen_tree.specs.declared.exprs.Expr.TheVariants as exprs
use Rattle.swc_ecma_codegen_tree.specs.declared.parts.ExprPart.TheVariants as expr_parts
use Rattle.swc_ecma_codegen_tree.specs.declared.parts.JSXPart.TheVariants as jsx_parts
use Rattle.swc_ecma_codegen_tree.specs.declared.parts.StmtPart.TheVariants as stmt_parts
use Rattle.swc_ecma_codegen_tree.specs.declared.pats.AssignTarget.{AssignTarget}
use Rattle.swc_ecma_codegen_tree.specs.declared.pats.AssignTarget.TheVariants as targets
use Rattle.swc_ecma_codegen_tree.specs.declared.pats.AssignTargetPat.TheVariants as target_pats
use Rattle.swc_ecma_codegen_tree.specs.declared.pats.Pat.{Pat}
use Rattle.swc_ecma_codegen_tree.specs.declared.pats.Pat.TheVariants as pats
use Rattle.swc_ecma_codegen_tree.specs.declared.pats.SimpleAssignTarget.TheVariants as simple_targets
use Rattle.swc_ecma_codegen_grammar.specs.ExprPhrases.{this_expr, meta_prop_expr}
use Rattle.swc_ecma_codegen_grammar.specs.NamePhrases.{private_name}
use Rattle.swc_ecma_codegen_grammar.specs.Settings.{Settings}
use Rattle.swc_ecma_codegen_grammar.specs.Tokens.{Token, word}
use Rattle.swc_ecma_codegen_grammar.specs.Tokens as tokens
use Rattle.swc_ecma_codegen_grammar.specs.declared.roles.Role.{Role}
use Rattle.swc_ecma_codegen_grammar.specs.declared.roles.Role.TheVariants.{Expression, Callee, Statement, Block, Pattern, AssignmentTarget, Member as MemberOfClass, FieldValue, Child, Element, TagObject}
use Rattle.swc_ecma_codegen_syntax.specs.declared.nonterminals.Nonterminal.{Nonterminal}
use Rattle.swc_ecma_codegen_syntax.specs.declared.nonterminals.Nonterminal.TheVariants as nt
use Rattle.swc_ecma_codegen_syntax.specs.declared.parameters.Parameters.{Parameters}
use Rattle.swc_ecma_codegen_syntax.specs.Nonterminals.{is_optional}
use Rattle.swc_ecma_codegen_syntax.specs.Forms.{Form, is_met}
use Rattle.swc_ecma_codegen_syntax.specs.CallForms.{new_nonterminal, has_arguments}
use Rattle.swc_ecma_codegen_syntax.specs.ClassForms.{field_expr_form}
use Rattle.swc_ecma_codegen_syntax.specs.PatForms.{pat_nonterminal}
use Rattle.swc_ecma_codegen_syntax.specs.TargetForms.{target_nonterminal}
use Rattle.swc_ecma_codegen_syntax.specs.ExprForms.{expr_form, expr_nonterminal, call_or_member}
use Rattle.swc_ecma_codegen_syntax.specs.NodeForms.{node_form, node_nonterminal, part_form, part_nonterminal, stmt_part_form, jsx_part_form}
use Rattle.swc_ecma_codegen_syntax.specs.Derives.{Derives, fixed, part, simple, shaped, restricted, lone, lone_in_parentheses, both, provided, closed, comma_closed, followed, bare}
use Rattle.swc_ecma_codegen_syntax.specs.Verdicts.{core}
use Rattle.swc_ecma_codegen_uniqueness.specs.ParseTrees.{Variant, ParseTree, End, Read, This, Bin, Member, New, TaggedTpl, PrivateName, expr_variant, simple_target_variant, target_pat_variant, target_variant, pat_variant, part_variant, element_variant, child_variant, node_variant}
use Rattle.swc_ecma_codegen_uniqueness.specs.Parses.{placed, is_inlined, is_inlined_pattern}
use Rattle.swc_ecma_codegen_uniqueness.proofs.Classes.{Level, Power}
use Rattle.swc_ecma_codegen_uniqueness.proofs.Controls.{made}
use Rattle.swc_ecma_codegen_uniqueness.proofs.TableLaws.{is_place, is_sequence, cover}
use Rattle.swc_ecma_codegen_uniqueness.proofs.Machine.{Whole, Good, spine_free}
use Rattle.swc_ecma_codegen_uniqueness.proofs.Shapes.{is_chain, is_several, atom}
use Rattle.swc_ecma_codegen_uniqueness.proofs.Reading.{read_phrase, derived_parse}
use Rattle.swc_ecma_codegen_uniqueness.proofs.Fits.{Fit, NodeFit, BlockFit, ElementFit, ObjectFit, InlinedGood, PlacedGood, AllGood, no_form}
use Rattle.swc_ecma_codegen_uniqueness.proofs.Operators.{level, binary_made, unary_good, update_good, bin_good, cond_good, assign_good, yield_good, await_good, seq_good, paren_good}
use Rattle.swc_ecma_codegen_uniqueness.proofs.Objects.{object_good}
use Rattle.swc_ecma_codegen_uniqueness.proofs.Lists.{array_good, call_good, new_good}
use Rattle.swc_ecma_codegen_uniqueness.proofs.Linking.{member_good, super_good, template_good, tag_good, chain_good}
use Rattle.swc_ecma_codegen_uniqueness.proofs.Atoms.{name_good, lit_good, meta_good}
use Rattle.swc_ecma_codegen_uniqueness.proofs.Patterns.{pat_good, target_good}
use Rattle.swc_ecma_codegen_uniqueness.proofs.Arrows.{arrow_good}
use Rattle.swc_ecma_codegen_uniqueness.proofs.Functions.{fn_expr_good}
use Rattle.swc_ecma_codegen_uniqueness.proofs.Spines.{expr_free, target_free, pat_free}
use Rattle.swc_ecma_codegen_uniqueness.proofs.Elements.{object_in, element_read, fragment_read, element_in_link, element_expr, child_good}
use Rattle.swc_ecma_codegen_uniqueness.proofs.ClassElements.{element_good}
use Rattle.swc_ecma_codegen_uniqueness.proofs.ClassDefinitions.{class_expr_good}
use Rattle.swc_ecma_codegen_uniqueness.proofs.Statements.{stmt_good, block_in}

-- ---- an expression

this_good : Good (Whole This nt.PrimaryExpression) (Read (word (codes "this")) End)
unfolding word
this_good = atom (word (codes "this")) This nt.PrimaryExpression refl refl refl

private_good : (text : List ℕ) → Good (Whole PrivateName nt.PrivateIdentifier) (Read (tokens.private_name text) End)
unfolding tokens.private_name
private_good text = atom (tokens.private_name text) PrivateName nt.PrivateIdentifier refl refl refl

expr_good : {s : Settings} (keeps called : Bool) (c : Parameters) (n : Expr AnyNode) {ts : List Token} (d : Derives core s (expr_form keeps called c n) ts) → AllGood d → s.minify ≡ c.minify →
    Good (Whole (expr_variant n) (expr_nonterminal keeps called c n)) (derived_parse d End)
unfolding expr_form expr_nonterminal expr_variant this_expr private_name meta_prop_expr AllGood PlacedGood derived_parse read_phrase placed is_inlined is_met
expr_good keeps called c (exprs.This n) (fixed g) o m = this_good
expr_good keeps called c (exprs.Array n) d o m = array_good c n d o m
expr_good keeps called c (exprs.Object n) d o m = object_good c n d o m
expr_good keeps called c (exprs.Unary n) d o m = unary_good c n d o m
expr_good keeps called c (exprs.Update n) d o m = update_good c n d o m
expr_good keeps called c (exprs.Bin n) d o m = bin_good c n d o m
expr_good keeps called c (exprs.Assign n) d o m = assign_good c n d o m
expr_good keeps called c (exprs.Member n) d o m = member_good called c n d o m
expr_good keeps called c (exprs.SuperProp n) d o m = super_good nt.MemberExpression refl c n d o m
expr_good keeps called c (exprs.Cond n) d o m = cond_good c n d o m
expr_good keeps called c (exprs.Call n) d o m = call_good c n d o m
expr_good keeps called c (exprs.New n) d o m = new_good c keeps n d o m
expr_good keeps called c (exprs.Seq n) d o m = seq_good c n d o m
expr_good keeps called c (exprs.Ident n) d o m = name_good c n d
expr_good keeps called c (exprs.Lit n) d o m = lit_good n d
expr_good keeps called c (exprs.Tpl n) (part a sa d) o m = template_good a _ n.node.value d o m
expr_good keeps called c (exprs.TaggedTpl n) d o m = tag_good called c n d o m
expr_good keeps called c (exprs.Yield n) d o m = yield_good c n d o m
expr_good {s = s} keeps called c (exprs.MetaProp n) (fixed {ts = ts} g) o m = meta_good s n.kind ts g
expr_good keeps called c (exprs.Await n) d o m = await_good c n d o m
expr_good keeps called c (exprs.Paren n) d o m = paren_good c n d o m
expr_good keeps called c (exprs.PrivateName n) (fixed g) o m = private_good _
expr_good keeps called c (exprs.OptChain n) d o m = chain_good c n d o m
expr_good keeps called c (exprs.Arrow n) d o m = arrow_good c n.value d o m
expr_good keeps called c (exprs.Fn n) d o m = fn_expr_good c n d o m
expr_good keeps called c (exprs.Class n) d o m = class_expr_good c n d o m
expr_good keeps called c (exprs.JSXElement n) (provided h (part a sa d)) o m = element_expr (o m)
expr_good keeps called c (exprs.JSXFragment n) (provided h (part a sa d)) o m = element_expr (o m)
expr_good keeps called c n d o m = absurd (no_form d)

-- ---- what its nonterminal and its variant say of it

abbrev Signs : Variant → Nonterminal → Type 0
Signs variant n = (is_place n ≡ false) × (is_chain variant ≡ is_optional n) × (is_several variant ≡ is_sequence n)

-- it is no pattern either
abbrev Agree : Variant → Nonterminal → Type 0
Agree variant n = Signs variant n × (cover n ≡ n)

made_agrees : (l : Level) → Agree Bin (made l)
unfolding is_optional
made_agrees Power = ((refl, refl, refl), refl)
made_agrees l = ((refl, refl, refl), refl)

called_agrees : (variant : Variant) → is_chain variant ≡ false → is_several variant ≡ false → (called : Bool) → Agree variant (call_or_member called)
unfolding is_optional
called_agrees variant h k true = ((refl, h, k), refl)
called_agrees variant h k false = ((refl, h, k), refl)

new_agrees : (b : Bool) → Agree New (if b then nt.MemberExpression else nt.NewExpression)
unfolding is_optional
new_agrees true = ((refl, refl, refl), refl)
new_agrees false = ((refl, refl, refl), refl)

expr_agrees : {X : Type 0} (keeps called : Bool) (c : Parameters) (n : Expr X) → Agree (expr_variant n) (expr_nonterminal keeps called c n)
unfolding expr_nonterminal expr_variant is_optional new_nonterminal
expr_agrees keeps called c (exprs.Bin n) = subst (Agree Bin) (sym (binary_made n.op)) (made_agrees (level n.op))
expr_agrees keeps called c (exprs.Member n) = called_agrees Member refl refl called
expr_agrees keeps called c (exprs.TaggedTpl n) = called_agrees TaggedTpl refl refl called
expr_agrees keeps called c (exprs.New n) = new_agrees (has_arguments c keeps n.args)
expr_agrees keeps called c n = ((refl, refl, refl), refl)

target_signs : {X : Type 0} (n : AssignTarget X) → Signs (target_variant n) nt.LeftHandSideExpression
unfolding target_variant simple_target_variant target_pat_variant is_optional
target_signs (targets.Simple (simple_targets.Ident n)) = (refl, refl, refl)
target_signs (targets.Simple n) = (refl, refl, refl)
target_signs (targets.Pat (target_pats.Array n)) = (refl, refl, refl)
target_signs (targets.Pat n) = (refl, refl, refl)

target_covered : {X : Type 0} (n : AssignTarget X) → cover (target_nonterminal n) ≡ nt.LeftHandSideExpression
unfolding target_nonterminal
target_covered (targets.Simple n) = refl
target_covered (targets.Pat n) = refl

pat_signs : {X : Type 0} (n : Pat X) → Signs (pat_variant n) (cover (pat_nonterminal n))
unfolding pat_variant pat_nonterminal is_optional
pat_signs (pats.Ident n) = (refl, refl, refl)
pat_signs n = (refl, refl, refl)

fit_at : {c : Parameters} {variant : Variant} {n : Nonterminal} {p : ParseTree} → Signs variant n → Good (Whole variant n) p → (c.has_in ≡ false → spine_free p ≡ true) → Fit c variant n p
fit_at a g f = record { own = a.0; chain = a.1; several = a.2; good = g; free = f }

fit : {c : Parameters} {variant : Variant} {n : Nonterminal} {p : ParseTree} → Agree variant n → Good (Whole variant n) p → (c.has_in ≡ false → spine_free p ≡ true) → Fit c variant (cover n) p
fit {c = c} {variant = variant} {p = p} a g f = subst (λ z. Fit c variant z p) (sym a.1) (fit_at a.0 g f)

-- ---- a node in a role

expr_fit : {s : Settings} (keeps called : Bool) (c : Parameters) (n : Expr AnyNode) {ts : List Token} (d : Derives core s (expr_form keeps called c n) ts) → AllGood d → s.minify ≡ c.minify →
    Fit c (expr_variant n) (cover (expr_nonterminal keeps called c n)) (derived_parse d End)
expr_fit keeps called c n d o m = let g = expr_good keeps called c n d o m in fit (expr_agrees keeps called c n) g (λ f. expr_free keeps called c n d o m f g)

abbrev FitIn : Role → Bool → Parameters → AnyNode-F AnyNode → ParseTree → Type 0
FitIn role k c y inside = NodeFit role c (node_variant y role) (node_nonterminal k c y role) inside

in_expression : {s : Settings} (k : Bool) (c : Parameters) (y : AnyNode-F AnyNode) {ts : List Token} (d : Derives core s (node_form k c y Expression) ts) → AllGood d → s.minify ≡ c.minify → FitIn Expression k c y (derived_parse d End)
unfolding node_form node_nonterminal node_variant part_form stmt_part_form jsx_part_form
in_expression k c (nodes.Expr n) d o m = expr_fit false k c n d o m
in_expression k c (nodes.ExprPart (expr_parts.Tpl n)) d o m = absurd (no_form d)
in_expression k c (nodes.StmtPart (stmt_parts.Function n)) d o m = absurd (no_form d)
in_expression k c (nodes.JSXPart (jsx_parts.JSXElement n)) d o m = absurd (no_form d)
in_expression k c y d o m = absurd (no_form d)

in_callee : {s : Settings} (k : Bool) (c : Parameters) (y : AnyNode-F AnyNode) {ts : List Token} (d : Derives core s (node_form k c y Callee) ts) → AllGood d → s.minify ≡ c.minify → FitIn Callee k c y (derived_parse d End)
unfolding node_form node_nonterminal node_variant part_form stmt_part_form jsx_part_form
in_callee k c (nodes.Expr n) d o m = expr_fit true k c n d o m
in_callee k c (nodes.ExprPart (expr_parts.Tpl n)) d o m = absurd (no_form d)
in_callee k c (nodes.StmtPart (stmt_parts.Function n)) d o m = absurd (no_form d)
in_callee k c (nodes.JSXPart (jsx_parts.JSXElement n)) d o m = absurd (no_form d)
in_callee k c y d o m = absurd (no_form d)

-- the value of a field, which is no sequence
field_good : {s : Settings} (k : Bool) (c : Parameters) (n : Expr AnyNode) {ts : List Token} (d : Derives core s (field_expr_form (expr_form false k c n) n) ts) → AllGood d → s.minify ≡ c.minify →
    is_sequence (expr_nonterminal false k c n) ≡ false → Fit c (expr_variant n) (cover (expr_nonterminal false k c n)) (derived_parse d End)
unfolding field_expr_form expr_nonterminal
field_good k c (exprs.Seq n) d o m h = absurd (true≢false h)
field_good k c n d o m h = expr_fit false k c n d o m

in_field : {s : Settings} (k : Bool) (c : Parameters) (y : AnyNode-F AnyNode) {ts : List Token} (d : Derives core s (node_form k c y FieldValue) ts) → AllGood d → s.minify ≡ c.minify → FitIn FieldValue k c y (derived_parse d End)
unfolding node_form node_nonterminal node_variant part_form stmt_part_form jsx_part_form
in_field k c (nodes.Expr n) d o m = field_good k c n d o m
in_field k c (nodes.ExprPart (expr_parts.Tpl n)) d o m = absurd (no_form d)
in_field k c (nodes.StmtPart (stmt_parts.Function n)) d o m = absurd (no_form d)
in_field k c (nodes.JSXPart (jsx_parts.JSXElement n)) d o m = absurd (no_form d)
in_field k c y d o m = absurd (no_form d)

-- what is assigned to, and a pattern
in_target : {s : Settings} (k : Bool) (c : Parameters) (y : AnyNode-F AnyNode) {ts : List Token} (d : Derives core s (node_form k c y AssignmentTarget) ts) → AllGood d → s.minify ≡ c.minify → FitIn AssignmentTarget k c y (derived_parse d End)
unfolding node_form node_nonterminal node_variant part_form part_nonterminal part_variant stmt_part_form jsx_part_form
in_target k c (nodes.ExprPart (expr_parts.AssignTarget n)) d o m =
    let g = target_good k c n d o m in subst (λ z. Fit c (target_variant n) z (derived_parse d End)) (sym (target_covered n)) (fit_at (target_signs n) g (λ f. target_free g))
in_target k c (nodes.StmtPart (stmt_parts.Function n)) d o m = absurd (no_form d)
in_target k c (nodes.JSXPart (jsx_parts.JSXElement n)) d o m = absurd (no_form d)
in_target k c y d o m = absurd (no_form d)

in_pattern : {s : Settings} (k : Bool) (c : Parameters) (y : AnyNode-F AnyNode) {ts : List Token} (d : Derives core s (node_form k c y Pattern) ts) → AllGood d → s.minify ≡ c.minify → is_inlined Pattern y ≡ false →
    FitIn Pattern k c y (derived_parse d End)
unfolding node_form node_nonterminal node_variant part_form part_nonterminal part_variant stmt_part_form jsx_part_form is_inlined is_inlined_pattern
in_pattern k c (nodes.ExprPart (expr_parts.Pat n)) d o m i = let g = pat_good k c n d o m i in fit_at (pat_signs n) g (λ f. pat_free k c n d o m i g)
in_pattern k c (nodes.StmtPart (stmt_parts.Function n)) d o m i = absurd (no_form d)
in_pattern k c (nodes.JSXPart (jsx_parts.JSXElement n)) d o m i = absurd (no_form d)
in_pattern k c y d o m i = absurd (no_form d)

in_statement : {s : Settings} (k : Bool) (c : Parameters) (y : AnyNode-F AnyNode) {ts : List Token} (d : Derives core s (node_form k c y Statement) ts) → AllGood d → s.minify ≡ c.minify → FitIn Statement k c y (derived_parse d End)
unfolding node_form node_nonterminal node_variant part_form stmt_part_form jsx_part_form
in_statement k c (nodes.Stmt n) d o m = record { good = stmt_good c n d o m }
in_statement k c (nodes.ExprPart (expr_parts.Tpl n)) d o m = absurd (no_form d)
in_statement k c (nodes.StmtPart (stmt_parts.Function n)) d o m = absurd (no_form d)
in_statement k c (nodes.JSXPart (jsx_parts.JSXElement n)) d o m = absurd (no_form d)
in_statement k c y d o m = absurd (no_form d)

-- a member of a class
in_class : {s : Settings} (k : Bool) (c : Parameters) (y : AnyNode-F AnyNode) {ts : List Token} (d : Derives core s (node_form k c y MemberOfClass) ts) → AllGood d → s.minify ≡ c.minify → FitIn MemberOfClass k c y (derived_parse d End)
unfolding node_form node_nonterminal node_variant part_form stmt_part_form jsx_part_form element_variant
in_class k c (nodes.StmtPart (stmt_parts.ClassMember n)) d o m = record { good = element_good c n.value d o m }
in_class k c (nodes.ExprPart (expr_parts.Tpl n)) d o m = absurd (no_form d)
in_class k c (nodes.JSXPart (jsx_parts.JSXElement n)) d o m = absurd (no_form d)
in_class k c y d o m = absurd (no_form d)

-- an element between tags
in_children : {s : Settings} (k : Bool) (c : Parameters) (y : AnyNode-F AnyNode) {ts : List Token} (d : Derives core s (node_form k c y Child) ts) → AllGood d → s.minify ≡ c.minify → FitIn Child k c y (derived_parse d End)
unfolding node_form node_nonterminal node_variant part_form stmt_part_form jsx_part_form child_variant
in_children k c (nodes.JSXPart (jsx_parts.JSXElement n)) d o m = record { good = child_good (element_read c true n.value d o m) }
in_children k c (nodes.JSXPart (jsx_parts.JSXFragment n)) d o m = record { good = child_good (fragment_read c true n d o m) }
in_children k c (nodes.ExprPart (expr_parts.Tpl n)) d o m = absurd (no_form d)
in_children k c (nodes.StmtPart (stmt_parts.Function n)) d o m = absurd (no_form d)
in_children k c y d o m = absurd (no_form d)

node_good : {s : Settings} (k : Bool) (c : Parameters) (y : AnyNode-F AnyNode) (role : Role) {ts : List Token} (d : Derives core s (node_form k c y role) ts) → AllGood d → s.minify ≡ c.minify → is_inlined role y ≡ false →
    FitIn role k c y (derived_parse d End)
node_good k c y Expression d o m i = in_expression k c y d o m
node_good k c y Callee d o m i = in_callee k c y d o m
node_good k c y FieldValue d o m i = in_field k c y d o m
node_good k c y AssignmentTarget d o m i = in_target k c y d o m
node_good k c y Pattern d o m i = in_pattern k c y d o m i
node_good k c y Statement d o m i = in_statement k c y d o m
node_good k c y MemberOfClass d o m i = in_class k c y d o m
node_good k c y Child d o m i = in_children k c y d o m
node_good k c y role d o m i = tt

-- ---- a derivation

-- a block has no node of its own, nor has an element that isn't between tags
inlined_good : {s : Settings} (role : Role) (k : Bool) (c : Parameters) (y : AnyNode-F AnyNode) {ts : List Token} (d : Derives core s (node_form k c y role) ts) → AllGood d →
    InlinedGood role (s.minify ≡ c.minify → BlockFit (derived_parse d)) (s.minify ≡ c.minify → ElementFit false (derived_parse d)) (ObjectFit (derived_parse d)) (AllGood d)
inlined_good Block k c y d o = λ m. block_in k c y d o m
inlined_good Element k c y d o = λ m. element_in_link k c y d o m
inlined_good TagObject k c y d o = object_in k c y d o
inlined_good role k c y d o = o

placed_good : {s : Settings} (b k : Bool) (c : Parameters) (y : AnyNode-F AnyNode) (role : Role) {ts : List Token} (d : Derives core s (node_form k c y role) ts) → is_inlined role y ≡ b → AllGood d →
    PlacedGood b (s.minify ≡ c.minify → FitIn role k c y (derived_parse d End)) (InlinedGood role (s.minify ≡ c.minify → BlockFit (derived_parse d)) (s.minify ≡ c.minify → ElementFit false (derived_parse d)) (ObjectFit (derived_parse d)) (AllGood d))
unfolding PlacedGood
placed_good true k c y role d i o = inlined_good role k c y d o
placed_good false k c y role d i o = λ m. node_good k c y role d o m i

pub all_good : {s : Settings} {a : Form AnyNode} {ts : List Token} (d : Derives core s a ts) → AllGood d
unfolding AllGood
all_good (fixed g) = tt
all_good (part {c = c} {role = role} {n = n} called st d) = placed_good (is_inlined role (out-AnyNode n)) called c (out-AnyNode n) role d refl (all_good d)
all_good (simple h d) = all_good d
all_good (shaped h d) = all_good d
all_good (restricted h d) = all_good d
all_good (lone h d) = all_good d
all_good (lone_in_parentheses d) = all_good d
all_good (both d e) = (all_good d, all_good e)
all_good (provided h d) = all_good d
all_good closed = tt
all_good comma_closed = tt
all_good (followed d) = all_good d
all_good (bare d) = all_good d
