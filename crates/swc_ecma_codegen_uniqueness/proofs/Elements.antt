-- Elements of JSX are read as they are.
use Rattle.std.proofs.Common.{◌≡◌, ℕ, Bool, true, false, not, List, [], ◌∷◌, Option, Some, None, length, arith, refl, sym, ap, ◌∙◌, subst}
use Rattle.std.specs.Prelude.{codes, string_bytes, if◌then◌else◌}
use Rattle.std.proofs.lemmas.Bool.{true≢false, eqb-true, or_left}
use Rattle.swc_ecma_codegen_tree.specs.declared.links.AnyNode.{AnyNode, AnyNode-F, out-AnyNode}
use Rattle.swc_ecma_codegen_tree.specs.declared.links.AnyNode.TheOpen as nodes
use Rattle.swc_ecma_codegen_tree.specs.declared.idents.Ident.{Ident}
use Rattle.swc_ecma_codegen_tree.specs.declared.jsx.JSXAttrName.{JSXAttrName}
use Rattle.swc_ecma_codegen_tree.specs.declared.jsx.JSXAttrName.TheVariants as attr_names
use Rattle.swc_ecma_codegen_tree.specs.declared.jsx.JSXAttrOrSpread.{JSXAttrOrSpread}
use Rattle.swc_ecma_codegen_tree.specs.declared.jsx.JSXAttrOrSpread.TheVariants as attrs
use Rattle.swc_ecma_codegen_tree.specs.declared.jsx.JSXAttrValue.{JSXAttrValue}
use Rattle.swc_ecma_codegen_tree.specs.declared.jsx.JSXAttrValue.TheVariants as attr_values
use Rattle.swc_ecma_codegen_tree.specs.declared.jsx.JSXClosingElement.{JSXClosingElement}
use Rattle.swc_ecma_codegen_tree.specs.declared.jsx.JSXElement as elements
use Rattle.swc_ecma_codegen_tree.specs.declared.jsx.JSXElementChild.{JSXElementChild}
use Rattle.swc_ecma_codegen_tree.specs.declared.jsx.JSXElementChild.TheVariants as children
use Rattle.swc_ecma_codegen_tree.specs.declared.jsx.JSXElementName.{JSXElementName}
use Rattle.swc_ecma_codegen_tree.specs.declared.jsx.JSXElementName.TheVariants as element_names
use Rattle.swc_ecma_codegen_tree.specs.declared.jsx.JSXExpr.{JSXExpr}
use Rattle.swc_ecma_codegen_tree.specs.declared.jsx.JSXExpr.TheVariants as contained
use Rattle.swc_ecma_codegen_tree.specs.declared.jsx.JSXFragment.{JSXFragment}
use Rattle.swc_ecma_codegen_tree.specs.declared.jsx.JSXNamespacedName.{JSXNamespacedName}
use Rattle.swc_ecma_codegen_tree.specs.declared.jsx.JSXObject.TheVariants as objects
use Rattle.swc_ecma_codegen_tree.specs.declared.lits.Lit.{Lit}
use Rattle.swc_ecma_codegen_tree.specs.declared.lits.Lit.TheVariants as lits
use Rattle.swc_ecma_codegen_tree.specs.declared.parts.ExprPart.TheVariants as expr_parts
use Rattle.swc_ecma_codegen_tree.specs.declared.parts.JSXPart.TheVariants as jsx_parts
use Rattle.swc_ecma_codegen_tree.specs.declared.parts.StmtPart.TheVariants as stmt_parts
use Rattle.swc_ecma_codegen_grammar.specs.JsxPhrases.{tag_ident, tag_ident_name, jsx_namespaced_name, jsx_attr_name, jsx_string, jsx_attr_lit, jsx_text, open_mark, self_close, is_parted, ends_in_text, jsx_opening_fragment, jsx_closing_fragment}
use Rattle.swc_ecma_codegen_grammar.specs.Phrases.{Generates, where_}
use Rattle.swc_ecma_codegen_grammar.specs.Phrases as phrases
use Rattle.swc_ecma_codegen_grammar.specs.Settings.{Settings}
use Rattle.swc_ecma_codegen_grammar.specs.Tokens.{Token, punctuator}
use Rattle.swc_ecma_codegen_grammar.specs.Tokens as tokens
use Rattle.swc_ecma_codegen_grammar.specs.declared.roles.Role.TheVariants.{Element, TagObject}
use Rattle.swc_ecma_codegen_syntax.specs.declared.nonterminals.Nonterminal.{Nonterminal}
use Rattle.swc_ecma_codegen_syntax.specs.declared.nonterminals.Nonterminal.TheVariants as nt
use Rattle.swc_ecma_codegen_syntax.specs.declared.parameters.Parameters.{Parameters}
use Rattle.swc_ecma_codegen_syntax.specs.Forms.{Fixed, Provided, ByRule, is_met, in_order}
use Rattle.swc_ecma_codegen_syntax.specs.Nonterminals.{takes, is_jsx_element, is_private}
use Rattle.swc_ecma_codegen_syntax.specs.JsxForms.{tag_member_form, tag_object_form, element_name_form, contained_form, container_form, spread_child_form, attr_value_form, attr_init_form, attr_form, opening_form, closing_form, child_form, children_form, unclosed_form, element_rest_form, is_closed, element_form, fragment_form}
use Rattle.swc_ecma_codegen_syntax.specs.NodeForms.{node_form, part_form, stmt_part_form, jsx_part_form}
use Rattle.swc_ecma_codegen_syntax.specs.ObjectForms.{spread_form}
use Rattle.swc_ecma_codegen_syntax.specs.Parameters.{with_in}
use Rattle.swc_ecma_codegen_syntax.specs.Derives.{Derives, fixed, part, both, provided}
use Rattle.swc_ecma_codegen_syntax.specs.Verdicts.{core}
use Rattle.swc_ecma_codegen_uniqueness.specs.ParseTrees.{Variant, ParseTree, End, Read, Node, JSXElement, tokens_of}
use Rattle.swc_ecma_codegen_uniqueness.specs.Parses.{placed, is_inlined}
use Rattle.swc_ecma_codegen_uniqueness.proofs.Classes.{Class, class}
use Rattle.swc_ecma_codegen_uniqueness.proofs.Controls.{Control, OpenTag, InTag, AttributeValue, AttributeBraces, SelfClosing, Children, ChildBraces, ClosingTag, ClosingName, stands as stands_at}
use Rattle.swc_ecma_codegen_uniqueness.proofs.Moves.{shifted_to}
use Rattle.swc_ecma_codegen_uniqueness.proofs.Tables.{Wrap, without, with_operand}
use Rattle.swc_ecma_codegen_uniqueness.proofs.PlaceLaws.{child_begins, follows_attribute, attribute_ends, attribute_taken}
use Rattle.swc_ecma_codegen_uniqueness.proofs.TableLaws.{is_wrap, ended_by}
use Rattle.swc_ecma_codegen_uniqueness.proofs.Machine.{Whole, Rest, Good, Heads, goes_on, headed_block, shifted, entering, entering_there, splicing, keeping, merged_two}
use Rattle.swc_ecma_codegen_uniqueness.proofs.Shapes.{Operand, takes_self, assignment_taken, widened, part_then, begun, ended}
use Rattle.swc_ecma_codegen_uniqueness.proofs.StatementShapes.{listed_heads}
use Rattle.swc_ecma_codegen_uniqueness.proofs.Linking.{where_read}
use Rattle.swc_ecma_codegen_uniqueness.proofs.Lists.{no_types}
use Rattle.swc_ecma_codegen_uniqueness.proofs.Reading.{read_phrase, derived_parse}
use Rattle.swc_ecma_codegen_uniqueness.proofs.Joined.{derived_joined}
use Rattle.swc_ecma_codegen_uniqueness.proofs.Fits.{at_place, PlacedGood, AllGood, opening, tag_at, ElementFit, NamePlace, of_element, of_child, of_attribute, of_closing, in_closing, ObjectFit, no_form}

abbrev InElement : Control → Nonterminal → ParseTree → Type 0
InElement c n m = Good (Rest c JSXElement n) m

-- ---- names

-- behind a part of it
data PartPlace : Control → Type 0 where
  in_tag : PartPlace InTag
  in_closing_tag : PartPlace ClosingName

behind_part : {a b : Control} → NamePlace a b → PartPlace b
behind_part of_element = in_tag
behind_part of_child = in_tag
behind_part of_attribute = in_tag
behind_part of_closing = in_closing_tag
behind_part in_closing = in_closing_tag

part_place : {b : Control} → PartPlace b → NamePlace b b
part_place in_tag = of_attribute
part_place in_closing_tag = in_closing

name_then : {a b : Control} → NamePlace a b → (n : Nonterminal) (text : List ℕ) {m : ParseTree} → InElement b n m → InElement a n (Read (tokens.tag_name text) m)
unfolding tokens.tag_name
name_then of_element n text g = shifted refl g
name_then of_child n text g = shifted refl g
name_then of_attribute n text g = shifted refl g
name_then of_closing n text g = shifted refl g
name_then in_closing n text g = shifted refl g

dot_then : {b : Control} → PartPlace b → (n : Nonterminal) {m : ParseTree} → InElement b n m → InElement b n (Read (punctuator (codes ".")) m)
unfolding punctuator
dot_then in_tag n g = shifted refl g
dot_then in_closing_tag n g = shifted refl g

colon_then : {b : Control} → PartPlace b → (n : Nonterminal) {m : ParseTree} → InElement b n m → InElement b n (Read (punctuator (codes ":")) m)
unfolding punctuator
colon_then in_tag n g = shifted refl g
colon_then in_closing_tag n g = shifted refl g

ident_by : (s : Settings) (k : Bool) {a b : Control} (p : NamePlace a b) (n : Nonterminal) (x : Ident) (ts : List Token) (g : Generates s (where_ k (phrases.TagNameOf x.span.lo (string_bytes x.sym))) ts) {m : ParseTree} → InElement b n m →
    InElement a n (read_phrase s (where_ k (phrases.TagNameOf x.span.lo (string_bytes x.sym))) ts g m)
unfolding where_ Generates read_phrase
ident_by s true p n x ts g r = name_then p n _ r
ident_by s false p n x ts g r = absurd g

ident_good : (s : Settings) {a b : Control} (p : NamePlace a b) (n : Nonterminal) (x : Ident) (ts : List Token) (g : Generates s (tag_ident x) ts) {m : ParseTree} → InElement b n m → InElement a n (read_phrase s (tag_ident x) ts g m)
unfolding tag_ident
ident_good s p n x ts g r = ident_by s (not x.optional) p n x ts g r

namespaced_good : (s : Settings) {a b : Control} (p : NamePlace a b) (n : Nonterminal) (x : JSXNamespacedName) (ts : List Token) (g : Generates s (jsx_namespaced_name x) ts) {m : ParseTree} → InElement b n m → InElement a n (read_phrase s (jsx_namespaced_name x) ts g m)
unfolding jsx_namespaced_name tag_ident_name read_phrase
namespaced_good s p n x ts g r = name_then p n _ (colon_then (behind_part p) n (name_then (part_place (behind_part p)) n _ r))

pub object_in : {s : Settings} (k : Bool) (c : Parameters) (y : AnyNode-F AnyNode) {ts : List Token} (d : Derives core s (node_form k c y TagObject) ts) → AllGood d → ObjectFit (derived_parse d)
unfolding node_form part_form stmt_part_form jsx_part_form tag_object_form tag_member_form tag_ident_name AllGood PlacedGood derived_parse read_phrase placed is_inlined
object_in k c (nodes.JSXPart (jsx_parts.JSXObject (objects.JSXMemberExpr x))) (both (part a sa d) (fixed g)) (o, z) =
    record { good = λ i j p n m r. o.good i j p n _ (dot_then (behind_part p) n (name_then (part_place (behind_part p)) n _ r)) }
object_in {s = s} k c (nodes.JSXPart (jsx_parts.JSXObject (objects.Ident x))) (fixed {ts = ts} g) o = record { good = λ i j p n m r. ident_good s p n x ts g r }
object_in k c (nodes.ExprPart (expr_parts.Tpl x)) d o = absurd (no_form d)
object_in k c (nodes.StmtPart (stmt_parts.BlockStmt x)) d o = absurd (no_form d)
object_in k c y d o = absurd (no_form d)

element_name_good : {s : Settings} {a b : Control} (p : NamePlace a b) (n : Nonterminal) (c : Parameters) (x : JSXElementName AnyNode) {ts : List Token} (d : Derives core s (element_name_form c x) ts) → AllGood d → {m : ParseTree} → InElement b n m → InElement a n (derived_parse d m)
unfolding element_name_form tag_member_form tag_ident_name AllGood PlacedGood derived_parse read_phrase placed is_inlined
element_name_good {s = s} p n c (element_names.Ident x) (fixed {ts = ts} g) o r = ident_good s p n x ts g r
element_name_good {a = i} {b = j} p n c (element_names.JSXMemberExpr x) (both (part a sa d) (fixed g)) (o, z) r =
    o.good i j p n _ (dot_then (behind_part p) n (name_then (part_place (behind_part p)) n _ r))
element_name_good {s = s} p n c (element_names.JSXNamespacedName x) (fixed {ts = ts} g) o r = namespaced_good s p n x ts g r

-- ---- braces

-- in a tag, and among children
data BracesPlace : Control → Control → Type 0 where
  tag_braces : BracesPlace AttributeBraces InTag
  child_braces : BracesPlace ChildBraces Children

braces_empty : {a b : Control} → BracesPlace a b → (n : Nonterminal) {m : ParseTree} → InElement b n m → InElement a n (Read (punctuator (codes "}")) m)
unfolding punctuator
braces_empty tag_braces n g = shifted refl g
braces_empty child_braces n g = shifted refl g

braces_dots : {a b : Control} → BracesPlace a b → (n : Nonterminal) {m : ParseTree} → InElement a n m → InElement a n (Read (punctuator (codes "...")) m)
unfolding punctuator
braces_dots tag_braces n g = shifted refl g
braces_dots child_braces n g = shifted refl g

braces_then : {a b : Control} → BracesPlace a b → (n : Nonterminal) {v : Variant} {p m : ParseTree} → Operand nt.Expression v p → InElement b n m → InElement a n (Node v p (Read (punctuator (codes "}")) m))
unfolding punctuator
braces_then tag_braces n {m = m} o g = part_then AttributeBraces (Read (punctuator (codes "}")) m) (takes_self nt.Expression) o (takes_self nt.Expression, λ z. refl, g)
braces_then child_braces n {m = m} o g = part_then ChildBraces (Read (punctuator (codes "}")) m) (takes_self nt.Expression) o (takes_self nt.Expression, λ z. refl, g)

contained_good : {s : Settings} {a b : Control} (p : BracesPlace a b) (n : Nonterminal) (c : Parameters) (x : JSXExpr AnyNode) {ts : List Token} (d : Derives core s (contained_form c x) ts) → AllGood d → s.minify ≡ c.minify → {m : ParseTree} → InElement b n m →
    InElement a n (derived_parse d (Read (punctuator (codes "}")) m))
unfolding contained_form AllGood PlacedGood derived_parse read_phrase placed is_inlined
contained_good p n c (contained.JSXEmptyExpr x) (fixed g) o m r = braces_empty p n r
contained_good p n c (contained.Expr x) (part a sa d) o m r = braces_then p n (at_place _ _ sa (o m)) r

-- ---- an element, as an expression and between tags

tag_name_place : (b : Bool) → NamePlace (tag_at b) InTag
tag_name_place true = of_child
tag_name_place false = of_element

same_element : {b : Bool} {f g : ParseTree → ParseTree} → ((rest : ParseTree) → f rest ≡ g rest) → ElementFit b g → ElementFit b f
same_element e r = record { inner = r.inner; is = λ rest. e rest ∙ r.is rest; good = r.good }

pub element_expr : {f : ParseTree → ParseTree} → ElementFit false f → Good (Whole JSXElement nt.PrimaryExpression) (f End)
unfolding punctuator
element_expr r = subst (λ z. Good (Whole JSXElement nt.PrimaryExpression) z) (sym (r.is End)) (begun (punctuator (codes "<")) JSXElement nt.PrimaryExpression OpenTag _ refl refl refl (r.good nt.PrimaryExpression))

pub child_good : {f : ParseTree → ParseTree} → ElementFit true f → Good (Whole JSXElement nt.JSXElement) (f End)
unfolding tokens.child_open
child_good r = subst (λ z. Good (Whole JSXElement nt.JSXElement) z) (sym (r.is End)) (headed_block (child_begins (tokens.child_open (codes "<")) refl) (r.good nt.JSXElement))

-- ---- attributes

-- what stands behind an attribute
record BehindAttribute (n : Nonterminal) (m : ParseTree) : Type 0 where
  token : Token
  rest : ParseTree
  is : m ≡ Read token rest
  follows : follows_attribute (class token) ≡ true
  good : InElement (shifted_to InTag (class token)) n rest

goes_on_in : {n : Nonterminal} {m : ParseTree} → BehindAttribute n m → InElement InTag n m
goes_on_in {n = n} b = subst (λ z. InElement InTag n z) (sym b.is) (shifted (attribute_taken (class b.token) b.follows) b.good)

-- an element that is the value of an attribute has no node
value_element : (n : Nonterminal) {s : Settings} (k : Bool) (c : Parameters) (y : AnyNode-F AnyNode) {ts : List Token} (d : Derives core s (node_form k c y Element) ts) → ElementFit false (derived_parse d) → (m : ParseTree) → BehindAttribute n m →
    InElement AttributeValue n (derived_parse d m)
unfolding punctuator tokens_of
value_element n k c y d r m b =
    let e = attribute_ends (class b.token) b.follows in
    entering
    (λ q o t us w. entering_there (record { control = AttributeValue; so_far = q; other = o }) w (tokens_of (derived_parse d m) (t ∷ us)) (punctuator (codes "<")) (tokens_of (r.inner m) (t ∷ us)) (ap (λ z. tokens_of z (t ∷ us)) (r.is m)) (refl, refl))
    (splicing b.token (or_left _ _ (takes_self nt.PrimaryExpression)) (element_expr r) (ended_by (class b.token) nt.PrimaryExpression e.1) e.0 b.good (ap (derived_parse d) b.is ∙ sym (derived_joined d End (Read b.token b.rest))))

-- a string, or braces
string_value : (n : Nonterminal) (text : List ℕ) {m : ParseTree} → InElement InTag n m → InElement AttributeValue n (Read (tokens.jsx_string text) m)
unfolding tokens.jsx_string
string_value n text g = shifted refl g

braced_value : (n : Nonterminal) {m : ParseTree} → InElement AttributeBraces n m → InElement AttributeValue n (Read (punctuator (codes "{")) m)
unfolding punctuator
braced_value n g = shifted refl g

lit_good : (s : Settings) (n : Nonterminal) (x : Lit) (ts : List Token) (g : Generates s (jsx_attr_lit x) ts) {m : ParseTree} → InElement InTag n m → InElement AttributeValue n (read_phrase s (jsx_attr_lit x) ts g m)
unfolding jsx_attr_lit jsx_string Generates
lit_good s n (lits.Str x) ts g {m = m} r = subst (λ z. InElement AttributeValue n z) (sym (where_read s _ _ ts g m)) (string_value n _ r)
lit_good s n x ts g r = absurd g

attribute_name : (s : Settings) (n : Nonterminal) (x : JSXAttrName) (ts : List Token) (g : Generates s (jsx_attr_name x) ts) {m : ParseTree} → InElement InTag n m → BehindAttribute n (read_phrase s (jsx_attr_name x) ts g m)
unfolding jsx_attr_name jsx_namespaced_name tag_ident_name read_phrase tokens.tag_name
attribute_name s n (attr_names.Ident x) ts g {m = m} r = record { token = tokens.tag_name _; rest = m; is = refl; follows = refl; good = r }
attribute_name s n (attr_names.JSXNamespacedName x) ts g r = record { token = tokens.tag_name _; rest = _; is = refl; follows = refl; good = colon_then in_tag n (name_then of_attribute n _ r) }

equals_then : (n : Nonterminal) {m : ParseTree} → InElement AttributeValue n m → InElement InTag n (Read (punctuator (codes "=")) m)
unfolding punctuator
equals_then n g = shifted refl g

spread_attribute : (n : Nonterminal) {v : Variant} {p m : ParseTree} → Operand nt.AssignmentExpression v p → InElement InTag n m →
    BehindAttribute n (Read (punctuator (codes "{")) (Read (punctuator (codes "...")) (Node v p (Read (punctuator (codes "}")) m))))
unfolding punctuator
spread_attribute n o r = record { token = punctuator (codes "{"); rest = _; is = refl; follows = refl; good = braces_dots tag_braces n (braces_then tag_braces n (widened assignment_taken o) r) }

attribute_ended : (s : Settings) (n : Nonterminal) (b : Bool) (ts : List Token) (g : Generates s (self_close b) ts) {m : ParseTree} → (b ≡ true → InElement SelfClosing n (Read tokens.tag_close m)) → (b ≡ false → InElement Children n m) →
    BehindAttribute n (read_phrase s (self_close b) ts g (Read tokens.tag_close m))
unfolding self_close read_phrase punctuator tokens.tag_close
attribute_ended s n true ts g x y = record { token = punctuator (codes "/"); rest = _; is = refl; follows = refl; good = x refl }
attribute_ended s n false ts g {m = m} x y = record { token = tokens.tag_close; rest = m; is = refl; follows = refl; good = y refl }

-- ---- children

-- among children
abbrev InChildren : Nonterminal → ParseTree → Type 0
InChildren n m = InElement Children n m × Heads (λ u. goes_on (without Children (class u)) ≡ true) m

begins_text : (text : List ℕ) (m : ParseTree) → Heads (λ u. goes_on (without Children (class u)) ≡ true) (Read (tokens.jsx_text text) m)
unfolding tokens_of tokens.jsx_text
begins_text text m = λ us. (_, tokens_of m us, refl, refl)

begins_brace : (m : ParseTree) → Heads (λ u. goes_on (without Children (class u)) ≡ true) (Read (tokens.child_open (codes "{")) m)
unfolding tokens_of tokens.child_open
begins_brace m = λ us. (_, tokens_of m us, refl, refl)

begins_tag : (m : ParseTree) → Heads (λ u. goes_on (without Children (class u)) ≡ true) (Read (tokens.child_open (codes "<")) m)
unfolding tokens_of tokens.child_open
begins_tag m = λ us. (_, tokens_of m us, refl, refl)

text_then : (n : Nonterminal) (text : List ℕ) {m : ParseTree} → InElement Children n m → InElement Children n (Read (tokens.jsx_text text) m)
unfolding tokens.jsx_text
text_then n text g = shifted refl g

brace_then : (n : Nonterminal) {m : ParseTree} → InElement ChildBraces n m → InElement Children n (Read (tokens.child_open (codes "{")) m)
unfolding tokens.child_open
brace_then n g = shifted refl g

children_wrap : (l : Class) → with_operand Children l ≡ Wrap → ⊥
children_wrap l h = true≢false (sym (ap is_wrap h))

child_stands_there : stands_at Children nt.JSXElement ≡ true
unfolding takes is_jsx_element is_private
child_stands_there = refl

child_then : (n : Nonterminal) {v : Variant} {p rest : ParseTree} → Good (Whole v nt.JSXElement) p → InChildren n rest → InChildren n (Node v p rest)
unfolding tokens_of
child_then n {p = p} {rest = rest} g r = (
  keeping child_stands_there g (λ us. let k = r.1 us in (k.0, k.1, k.2, (refl, refl, k.3))) r.0,
  λ us. listed_heads Children children_wrap g child_stands_there (tokens_of rest us),
)

child_good_at : {s : Settings} (n : Nonterminal) (c : Parameters) (x : JSXElementChild AnyNode) {ts : List Token} (d : Derives core s (child_form c x) ts) → AllGood d → s.minify ≡ c.minify → (rest : ParseTree) → InChildren n rest → InChildren n (derived_parse d rest)
unfolding child_form container_form spread_child_form open_mark jsx_text AllGood PlacedGood derived_parse read_phrase placed is_inlined
child_good_at {s = s} n c (children.JSXText x) (fixed {ts = ts} g) o m rest r =
    let e = where_read s _ _ ts g rest in (subst (λ z. InElement Children n z) (sym e) (text_then n _ r.0), subst (λ z. Heads (λ u. goes_on (without Children (class u)) ≡ true) z) (sym e) (begins_text _ rest))
child_good_at n c (children.JSXExprContainer x) (both (fixed g) (both d (fixed h))) (y, (o, z)) m rest r = (brace_then n (contained_good child_braces n c x.expr d o m r.0), begins_brace _)
child_good_at n c (children.JSXSpreadChild x) (both (fixed g) (both (fixed h) (both (part a sa d) (fixed i)))) (y, (z, (o, w))) m rest r = (brace_then n (braces_dots child_braces n (braces_then child_braces n (at_place _ _ sa (o m)) r.0)), begins_brace _)
child_good_at n c (children.JSXElement x) (part a sa d) o m rest r = child_then n (o m).good r
child_good_at n c (children.JSXFragment x) (part a sa d) o m rest r = child_then n (o m).good r

children_listed : {s : Settings} (n : Nonterminal) (c : Parameters) (xs : List (JSXElementChild AnyNode)) {ts : List Token} (d : Derives core s (in_order (child_form c) xs) ts) → AllGood d → s.minify ≡ c.minify → (rest : ParseTree) → InChildren n rest → InChildren n (derived_parse d rest)
unfolding in_order AllGood derived_parse read_phrase
children_listed n c [] (fixed g) o m rest r = r
children_listed n c (x ∷ xs) (both d e) (o, q) m rest r = child_good_at n c x d o m (derived_parse e rest) (children_listed n c xs e q m rest r)

children_by : {s : Settings} (b : Bool) (n : Nonterminal) (c : Parameters) (xs : List (JSXElementChild AnyNode)) {ts : List Token} (d : Derives core s (if b then in_order (child_form c) xs else Provided ByRule false (Fixed phrases.Never)) ts) → AllGood d → s.minify ≡ c.minify →
    (rest : ParseTree) → InChildren n rest → InChildren n (derived_parse d rest)
unfolding is_met
children_by true n c xs d o m rest r = children_listed n c xs d o m rest r
children_by false n c xs (provided h d) o m rest r = absurd (true≢false (sym h))

children_good : {s : Settings} (n : Nonterminal) (c : Parameters) (xs : List (JSXElementChild AnyNode)) {ts : List Token} (d : Derives core s (children_form c xs) ts) → AllGood d → s.minify ≡ c.minify → (rest : ParseTree) → InChildren n rest → InChildren n (derived_parse d rest)
unfolding children_form
children_good n c xs d o m rest r = children_by (is_parted false xs) n c xs d o m rest r

-- ---- tags

-- `</`
closing_then : (n : Nonterminal) {m : ParseTree} → InElement ClosingTag n m → InElement Children n (Read (tokens.child_open (codes "<")) (Read (punctuator (codes "/")) m))
unfolding tokens.child_open punctuator
closing_then n g = merged_two _ _ refl refl refl g

closed_tag : (n : Nonterminal) → InElement ClosingTag n (Read tokens.tag_close End) × InElement ClosingName n (Read tokens.tag_close End)
unfolding tokens.tag_close
closed_tag n = (shifted refl (ended JSXElement n), shifted refl (ended JSXElement n))

closing_good : {s : Settings} (n : Nonterminal) (c : Parameters) (x : JSXClosingElement AnyNode) {ts : List Token} (d : Derives core s (closing_form c x) ts) → AllGood d → InChildren n (derived_parse d End)
unfolding closing_form open_mark AllGood derived_parse read_phrase
closing_good n c x (both (fixed g) (both (fixed h) (both k (fixed i)))) (y, (z, (o, w))) = (closing_then n (element_name_good of_closing n c x.name k o (closed_tag n).1), begins_tag _)

-- what stands behind the first tag, or behind `/` of it
self_closed : (n : Nonterminal) → InElement SelfClosing n (Read tokens.tag_close End)
unfolding tokens.tag_close
self_closed n = shifted refl (ended JSXElement n)

no_children : {s : Settings} (c : Parameters) {ts : List Token} (d : Derives core s (unclosed_form c []) ts) (rest : ParseTree) → derived_parse d rest ≡ rest
unfolding unclosed_form children_form ends_in_text is_parted in_order derived_parse read_phrase
no_children c (fixed g) rest = refl

-- what stands behind the tag
rest_good : {s : Settings} (n : Nonterminal) (c : Parameters) (b : Bool) (xs : List (JSXElementChild AnyNode)) (o : Option (JSXClosingElement AnyNode)) → is_closed b xs o ≡ true → {ts : List Token} (d : Derives core s (element_rest_form c xs o) ts) → AllGood d →
    s.minify ≡ c.minify → (b ≡ true → InElement SelfClosing n (Read tokens.tag_close (derived_parse d End))) × (b ≡ false → InElement Children n (derived_parse d End))
unfolding is_closed element_rest_form AllGood derived_parse
rest_good n c true [] None h d o m = (λ e. subst (λ z. InElement SelfClosing n (Read tokens.tag_close z)) (sym (no_children c d End)) (self_closed n), λ e. absurd (true≢false e))
rest_good n c true (x ∷ xs) None h d o m = absurd (omega (arith, eqb-true (length (x ∷ xs)) 0 h))
rest_good n c true xs (Some x) h d o m = absurd (true≢false (sym h))
rest_good n c false xs None h d o m = absurd (true≢false (sym h))
rest_good n c false xs (Some x) h (both d e) (o, q) m = (λ i. absurd (true≢false (sym i)), λ i. (children_good n c xs d o m _ (closing_good n c x e q)).0)

value_good : {s : Settings} (n : Nonterminal) (c : Parameters) (x : JSXAttrValue AnyNode) {ts : List Token} (d : Derives core s (attr_value_form c x) ts) → AllGood d → s.minify ≡ c.minify → (rest : ParseTree) → BehindAttribute n rest →
    InElement AttributeValue n (derived_parse d rest)
unfolding attr_value_form container_form open_mark AllGood PlacedGood derived_parse read_phrase placed is_inlined
value_good {s = s} n c (attr_values.Lit x) (fixed {ts = ts} g) o m rest b = lit_good s n x ts g (goes_on_in b)
value_good n c (attr_values.JSXExprContainer x) (provided i (both (fixed g) (both d (fixed h)))) (y, (o, z)) m rest b = braced_value n (contained_good tag_braces n c x.expr d o m (goes_on_in b))
value_good n c (attr_values.JSXElement x) (part a sa d) o m rest b = value_element n a (with_in c) (out-AnyNode x.node.value) d (o m) rest b
value_good n c (attr_values.JSXFragment x) (part a sa d) o m rest b = value_element n a (with_in c) (out-AnyNode x.node.value) d (o m) rest b

init_good : {s : Settings} (n : Nonterminal) (c : Parameters) (x : Option (JSXAttrValue AnyNode)) {ts : List Token} (d : Derives core s (attr_init_form c x) ts) → AllGood d → s.minify ≡ c.minify → (rest : ParseTree) → BehindAttribute n rest →
    InElement InTag n (derived_parse d rest)
unfolding attr_init_form AllGood derived_parse read_phrase
init_good n c None (fixed g) o m rest b = goes_on_in b
init_good n c (Some x) (both (fixed g) d) (y, o) m rest b = equals_then n (value_good n c x d o m rest b)

attribute_good : {s : Settings} (n : Nonterminal) (c : Parameters) (x : JSXAttrOrSpread AnyNode) {ts : List Token} (d : Derives core s (attr_form c x) ts) → AllGood d → s.minify ≡ c.minify → (rest : ParseTree) → BehindAttribute n rest →
    BehindAttribute n (derived_parse d rest)
unfolding attr_form spread_form AllGood PlacedGood derived_parse read_phrase placed is_inlined
attribute_good {s = s} n c (attrs.JSXAttr x) (both (fixed {ts = ts} g) d) (y, o) m rest b = attribute_name s n x.name ts g (init_good n c x.value d o m rest b)
attribute_good n c (attrs.SpreadElement x) (both (fixed g) (both (both (fixed h) (part a sa d)) (fixed i))) (y, ((z, o), w)) m rest b = spread_attribute n (at_place _ _ sa (o m)) (goes_on_in b)

attributes_good : {s : Settings} (n : Nonterminal) (c : Parameters) (xs : List (JSXAttrOrSpread AnyNode)) {ts : List Token} (d : Derives core s (in_order (attr_form c) xs) ts) → AllGood d → s.minify ≡ c.minify → (rest : ParseTree) → BehindAttribute n rest →
    BehindAttribute n (derived_parse d rest)
unfolding in_order AllGood derived_parse read_phrase
attributes_good n c [] (fixed g) o m rest b = b
attributes_good n c (x ∷ xs) (both d e) (o, q) m rest b = attribute_good n c x d o m (derived_parse e rest) (attributes_good n c xs e q m rest b)

-- ---- elements

open_read : (s : Settings) (b : Bool) (ts : List Token) (g : Generates s (open_mark b (codes "<")) ts) (rest : ParseTree) → read_phrase s (open_mark b (codes "<")) ts g rest ≡ Read (opening b) rest
unfolding open_mark read_phrase
open_read s true ts g rest = refl
open_read s false ts g rest = refl

pub element_read : {s : Settings} (c : Parameters) (b : Bool) (x : elements.JSXElement AnyNode) {ts : List Token} (d : Derives core s (element_form c b x) ts) → AllGood d → s.minify ≡ c.minify → ElementFit b (derived_parse d)
unfolding element_form opening_form is_met AllGood derived_parse read_phrase
element_read {s = s} c b x (provided h (both (both (fixed {ts = ts} g) (both k (both t (both a (both (fixed {ts = us} j) (fixed i)))))) r)) ((y, (z, (u, (o, (v, w))))), q) m = record {
  inner = λ rest. derived_parse k (derived_parse t (derived_parse a (read_phrase s (self_close x.opening.self_closing) us j (Read tokens.tag_close (derived_parse r rest)))));
  is = λ rest. open_read s b ts g _;
  good = λ n.
      let e = rest_good n c x.opening.self_closing x.children.items x.closing h r q m in
      element_name_good (tag_name_place b) n c x.opening.name k z
      (subst (λ z. InElement InTag n z) (sym (no_types c x.opening.type_args t _))
      (goes_on_in (attributes_good n c x.opening.attrs.items a o m _ (attribute_ended s n x.opening.self_closing us j e.0 e.1))));
}

tag_ends : (b : Bool) (n : Nonterminal) {m : ParseTree} → InElement Children n m → InElement (tag_at b) n (Read tokens.tag_close m)
unfolding tokens.tag_close
tag_ends true n g = shifted refl g
tag_ends false n g = shifted refl g

fragment_open : (s : Settings) (b : Bool) (ts : List Token) (g : Generates s (jsx_opening_fragment b) ts) (rest : ParseTree) → read_phrase s (jsx_opening_fragment b) ts g rest ≡ Read (opening b) (Read tokens.tag_close rest)
unfolding jsx_opening_fragment read_phrase Generates
fragment_open s b ts g rest = open_read s b g.0 g.2 _

fragment_closed : (s : Settings) (n : Nonterminal) (ts : List Token) (g : Generates s jsx_closing_fragment ts) → InChildren n (read_phrase s jsx_closing_fragment ts g End)
unfolding jsx_closing_fragment open_mark read_phrase
fragment_closed s n ts g = (closing_then n (closed_tag n).0, begins_tag _)

pub fragment_read : {s : Settings} (c : Parameters) (b : Bool) (x : JSXFragment AnyNode) {ts : List Token} (d : Derives core s (fragment_form c b x) ts) → AllGood d → s.minify ≡ c.minify → ElementFit b (derived_parse d)
unfolding fragment_form AllGood derived_parse
fragment_read {s = s} c b x (both (fixed {ts = ts} g) (both d (fixed {ts = us} h))) (y, (o, z)) m = record {
  inner = λ rest. Read tokens.tag_close (derived_parse d (read_phrase s jsx_closing_fragment us h rest));
  is = λ rest. fragment_open s b ts g _;
  good = λ n. tag_ends b n (children_good n c x.children.items d o m _ (fragment_closed s n us h)).0;
}

pub element_in_link : {s : Settings} (k : Bool) (c : Parameters) (y : AnyNode-F AnyNode) {ts : List Token} (d : Derives core s (node_form k c y Element) ts) → AllGood d → s.minify ≡ c.minify → ElementFit false (derived_parse d)
unfolding node_form part_form stmt_part_form jsx_part_form
element_in_link k c (nodes.JSXPart (jsx_parts.JSXElement x)) d o m = element_read c false x.value d o m
element_in_link k c (nodes.JSXPart (jsx_parts.JSXFragment x)) d o m = fragment_read c false x d o m
element_in_link k c (nodes.ExprPart (expr_parts.Tpl x)) d o m = absurd (no_form d)
element_in_link k c (nodes.StmtPart (stmt_parts.BlockStmt x)) d o m = absurd (no_form d)
element_in_link k c y d o m = absurd (no_form d)
