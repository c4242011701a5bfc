-- Objects are read as they are.
use Rattle.std.proofs.Common.{◌≡◌, Bool, true, false, List, [], ◌∷◌, Option, Some, None, refl, sym, ◌∙◌, subst}
use Rattle.std.specs.Prelude.{codes}
use Rattle.std.proofs.lemmas.Bool.{true≢false}
use Rattle.swc_ecma_codegen_tree.specs.declared.links.AnyNode.{AnyNode, AnyNode-F, out-AnyNode}
use Rattle.swc_ecma_codegen_tree.specs.declared.links.AnyNode.TheOpen as nodes
use Rattle.swc_ecma_codegen_tree.specs.declared.parts.ExprPart.TheVariants as expr_parts
use Rattle.swc_ecma_codegen_tree.specs.declared.exprs.ObjectLit.{ObjectLit}
use Rattle.swc_ecma_codegen_tree.specs.declared.exprs.Prop.{Prop}
use Rattle.swc_ecma_codegen_tree.specs.declared.exprs.Prop.TheVariants as props
use Rattle.swc_ecma_codegen_tree.specs.declared.exprs.PropOrSpread.{PropOrSpread}
use Rattle.swc_ecma_codegen_tree.specs.declared.exprs.PropOrSpread.TheVariants as prop_or_spreads
use Rattle.swc_ecma_codegen_grammar.specs.Settings.{Settings}
use Rattle.swc_ecma_codegen_grammar.specs.Tokens.{Token, punctuator, word}
use Rattle.swc_ecma_codegen_grammar.specs.Tokens as tokens
use Rattle.swc_ecma_codegen_grammar.specs.declared.roles.Role.TheVariants.{MethodHead}
use Rattle.swc_ecma_codegen_syntax.specs.declared.nonterminals.Nonterminal.TheVariants as nt
use Rattle.swc_ecma_codegen_syntax.specs.declared.parameters.Parameters.{Parameters}
use Rattle.swc_ecma_codegen_syntax.specs.Forms.{is_met, each_after, listed}
use Rattle.swc_ecma_codegen_syntax.specs.ObjectForms.{key_value_form, assign_prop_form, getter_form, setter_form, method_prop_form, property_form, spread_form, prop_or_spread_form, object_form, accessor_body_form, this_param_form}
use Rattle.swc_ecma_codegen_syntax.specs.Derives.{Derives, fixed, part, both, provided}
use Rattle.swc_ecma_codegen_uniqueness.specs.ParseTrees.{ParseTree, End, Read, Object}
use Rattle.swc_ecma_codegen_uniqueness.specs.Parses.{placed, is_inlined}
use Rattle.swc_ecma_codegen_uniqueness.proofs.Controls.{InMethod, AtKey, AfterKey, AfterAccessor, AccessorParameter, AfterParameters}
use Rattle.swc_ecma_codegen_uniqueness.proofs.Machine.{Whole, Rest, Good, shifted}
use Rattle.swc_ecma_codegen_uniqueness.proofs.Shapes.{InObject, InProperties, OnProperty, object_key, property_place, a_member, an_accessor, takes_self, assignment_taken, part_then, Operand, properties_closed, property_next, no_properties, object, value_then, spread_property}
use Rattle.swc_ecma_codegen_uniqueness.proofs.Reading.{read_phrase, derived_parse}
use Rattle.swc_ecma_codegen_uniqueness.proofs.Fits.{at_place, PlacedGood, AllGood, no_form}
use Rattle.swc_ecma_codegen_uniqueness.proofs.Atoms.{name_read, no_annotation}
use Rattle.swc_ecma_codegen_tree.specs.Links.{BlockStmtBox, PatBox}
use Rattle.swc_ecma_codegen_tree.specs.declared.exprs.GetterProp.{GetterProp}
use Rattle.swc_ecma_codegen_tree.specs.declared.exprs.SetterProp.{SetterProp}
use Rattle.swc_ecma_codegen_tree.specs.declared.exprs.MethodProp.{MethodProp}
use Rattle.swc_ecma_codegen_tree.specs.declared.parts.JSXPart.TheVariants as jsx_parts
use Rattle.swc_ecma_codegen_tree.specs.declared.parts.StmtPart.TheVariants as stmt_parts
use Rattle.swc_ecma_codegen_grammar.specs.FunctionPhrases.{after_async, word_if, method_head}
use Rattle.swc_ecma_codegen_grammar.specs.Phrases.{Generates, mark}
use Rattle.swc_ecma_codegen_syntax.specs.NodeForms.{node_form, part_form, stmt_part_form, jsx_part_form}
use Rattle.swc_ecma_codegen_syntax.specs.Verdicts.{core}
use Rattle.swc_ecma_codegen_uniqueness.specs.ParseTrees.{Variant, Node}
use Rattle.swc_ecma_codegen_uniqueness.proofs.StatementShapes.{Within, parameters_end}
use Rattle.swc_ecma_codegen_uniqueness.proofs.Keys.{key_good, named_then, own_key_good}
use Rattle.swc_ecma_codegen_uniqueness.proofs.Patterns.{covered_at, no_rest}
use Rattle.swc_ecma_codegen_uniqueness.proofs.Functions.{tail_good}

-- ---- properties

-- a method stands in its object
abbrev in_object : Within
in_object = record { place = InMethod; variant = Object; of = nt.PrimaryExpression }

body_good : {s : Settings} (c : Parameters) (o : Option (BlockStmtBox AnyNode)) {ts : List Token} (d : Derives core s (accessor_body_form c o) ts) → AllGood d → s.minify ≡ c.minify → (rest : ParseTree) → InObject AfterKey rest →
    Good (Rest (AfterParameters InMethod) Object nt.PrimaryExpression) (derived_parse d rest)
unfolding accessor_body_form is_met AllGood PlacedGood derived_parse placed is_inlined
body_good c None (provided h d) o m rest g = absurd (true≢false (sym h))
body_good c (Some x) (part a sa d) o m rest g =
    let v = o m in
    subst (λ z. Good (Rest (AfterParameters InMethod) Object nt.PrimaryExpression) z) (sym (v.is rest)) (parameters_end in_object (v.good InMethod refl Object nt.PrimaryExpression rest g))

-- behind `get` and `set`, which may be keys too, and behind `async` and `*`
getter_then : (b : Bool) {m : ParseTree} → InObject AfterKey m → InProperties b (Read (word (codes "get")) m)
unfolding word
getter_then true g = shifted refl g
getter_then false g = shifted refl g

setter_then : (b : Bool) {m : ParseTree} → InObject AfterKey m → InProperties b (Read (word (codes "set")) m)
unfolding word
setter_then true g = shifted refl g
setter_then false g = shifted refl g

method_words : (s : Settings) (b a k : Bool) (ts : List Token) (g : Generates s (after_async a (word_if k (mark (codes "*")))) ts) {m : ParseTree} → InProperties b m → InObject AtKey m → InProperties b (read_phrase s (after_async a (word_if k (mark (codes "*")))) ts g m)
unfolding after_async word_if read_phrase word punctuator tokens.same_line
method_words s b false false ts g p q = p
method_words s true false true ts g p q = shifted refl q
method_words s false false true ts g p q = shifted refl q
method_words s true true false ts g p q = shifted refl (shifted refl q)
method_words s false true false ts g p q = shifted refl (shifted refl q)
method_words s true true true ts g p q = shifted refl (shifted refl (shifted refl q))
method_words s false true true ts g p q = shifted refl (shifted refl (shifted refl q))

head_in : {s : Settings} (b k : Bool) (c : Parameters) (y : AnyNode-F AnyNode) {ts : List Token} (d : Derives core s (node_form k c y MethodHead) ts) {m : ParseTree} → InProperties b m → InObject AtKey m → InProperties b (derived_parse d m)
unfolding node_form part_form stmt_part_form jsx_part_form method_head derived_parse
head_in {s = s} b k c (nodes.StmtPart (stmt_parts.Function x)) (fixed {ts = ts} g) p q = method_words s b x.value.is_async x.value.is_generator ts g p q
head_in b k c (nodes.ExprPart (expr_parts.Tpl x)) d p q = absurd (no_form d)
head_in b k c (nodes.JSXPart (jsx_parts.JSXElement x)) d p q = absurd (no_form d)
head_in b k c y d p q = absurd (no_form d)

no_own : {s : Settings} (c : Parameters) (o : Option (PatBox AnyNode)) {ts : List Token} (d : Derives core s (this_param_form c o) ts) (rest : ParseTree) → derived_parse d rest ≡ rest
unfolding this_param_form is_met derived_parse read_phrase
no_own c None (fixed g) rest = refl
no_own c (Some n) (provided h d) rest = absurd (true≢false (sym h))

getter_good : {s : Settings} (b : Bool) (c : Parameters) (n : GetterProp AnyNode) {ts : List Token} (d : Derives core s (getter_form c n) ts) → AllGood d → s.minify ≡ c.minify → (rest : ParseTree) → OnProperty rest → InProperties b (derived_parse d rest)
unfolding getter_form AllGood derived_parse read_phrase punctuator
getter_good b c n (both (fixed g) (both k (both (fixed h) (both (fixed i) (both a e))))) (x, (o, (y, (z, (w, q))))) m rest on =
    getter_then b (own_key_good (object_key an_accessor) nt.AnyPropertyName c n.key k o m _
    (shifted refl (shifted refl (subst (λ w. Good (Rest (AfterParameters InMethod) Object nt.PrimaryExpression) w) (sym (no_annotation c n.type_ann a (derived_parse e rest))) (body_good c n.body e q m rest on.0)))))

setter_parameter : {s : Variant} {p m : ParseTree} → Operand nt.AssignmentExpression s p → Good (Rest (AfterParameters InMethod) Object nt.PrimaryExpression) m → InObject AfterAccessor (Read (punctuator (codes "(")) (Node s p (Read (punctuator (codes ")")) m)))
unfolding punctuator
setter_parameter {m = m} o g = shifted refl (part_then AccessorParameter (Read (punctuator (codes ")")) m) (takes_self nt.AssignmentExpression) o (assignment_taken, λ z. refl, g))

setter_good : {s : Settings} (b : Bool) (c : Parameters) (n : SetterProp AnyNode) {ts : List Token} (d : Derives core s (setter_form c n) ts) → AllGood d → s.minify ≡ c.minify → (rest : ParseTree) → OnProperty rest → InProperties b (derived_parse d rest)
unfolding setter_form AllGood derived_parse read_phrase
setter_good b c n (both (fixed g) (both k (both (fixed h) (both w (both p (both (fixed i) e)))))) (x, (o, (y, (z, (q, (u, r)))))) m rest on =
    let v = covered_at nt.PatternElement no_rest _ n.param.node.value p q m in
    setter_then b (own_key_good (object_key an_accessor) nt.AnyPropertyName c n.key k o m _
    (subst (λ t. InObject AfterAccessor (Read (punctuator (codes "(")) t)) (sym (no_own c n.this_param w _ ∙ v.is (Read (punctuator (codes ")")) (derived_parse e rest))))
    (setter_parameter v.operand (body_good c n.body e r m rest on.0))))

method_good : {s : Settings} (b : Bool) (c : Parameters) (n : MethodProp AnyNode) {ts : List Token} (d : Derives core s (method_prop_form c n) ts) → AllGood d → s.minify ≡ c.minify → (rest : ParseTree) → OnProperty rest → InProperties b (derived_parse d rest)
unfolding method_prop_form AllGood PlacedGood derived_parse placed is_inlined punctuator
method_good b c n (both (part a sa h) (both k e)) (x, (o, q)) m rest on =
    let t = tail_good c n.function.node.value e q m in
    let r : InObject AfterKey (derived_parse e rest) = subst (λ z. InObject AfterKey z) (sym (t.is rest)) (shifted refl (t.good in_object refl rest on.0)) in
    head_in b a c (out-AnyNode n.function.node.value) h (key_good (object_key (property_place b)) c n.key k o m (derived_parse e rest) r) (key_good (object_key a_member) c n.key k o m (derived_parse e rest) r)

property_good : {s : Settings} (b : Bool) (c : Parameters) (n : Prop AnyNode) {ts : List Token} (d : Derives core s (property_form c n) ts) → AllGood d → s.minify ≡ c.minify → (rest : ParseTree) → OnProperty rest → InProperties b (derived_parse d rest)
unfolding property_form key_value_form assign_prop_form is_met AllGood PlacedGood derived_parse read_phrase placed is_inlined
property_good b c (props.Shorthand n) d o m rest on = subst (λ z. InProperties b z) (sym (name_read c n d rest)) (named_then b _ on.0)
property_good b c (props.KeyValue n) (both d (both (fixed g) (part a sa e))) (o, (x, q)) m rest on = key_good (object_key (property_place b)) c n.key d o m _ (value_then (at_place _ _ sa (q m)) on)
property_good b c (props.Assign n) (provided h d) o m rest on = absurd (true≢false (sym h))
property_good b c (props.Getter n) d o m rest on = getter_good b c n d o m rest on
property_good b c (props.Setter n) d o m rest on = setter_good b c n d o m rest on
property_good b c (props.Method n) d o m rest on = method_good b c n d o m rest on

one_good : {s : Settings} (b : Bool) (c : Parameters) (n : PropOrSpread AnyNode) {ts : List Token} (d : Derives core s (prop_or_spread_form c n) ts) → AllGood d → s.minify ≡ c.minify → (rest : ParseTree) → OnProperty rest → InProperties b (derived_parse d rest)
unfolding prop_or_spread_form spread_form AllGood PlacedGood derived_parse read_phrase placed is_inlined
one_good b c (prop_or_spreads.Spread n) (both (fixed g) (part a sa d)) (x, o) m rest on = spread_property b (at_place _ _ sa (o m)) on
one_good b c (prop_or_spreads.Prop n) d o m rest on = property_good b c n d o m rest on

-- ---- objects

properties_after : {s : Settings} (c : Parameters) (xs : List (PropOrSpread AnyNode)) {ts : List Token} (d : Derives core s (each_after (codes ",") (prop_or_spread_form c) xs) ts) → AllGood d → s.minify ≡ c.minify → (rest : ParseTree) → OnProperty rest →
    OnProperty (derived_parse d rest)
unfolding each_after AllGood derived_parse read_phrase
properties_after c [] (fixed g) o m rest on = on
properties_after c (x ∷ xs) (both (fixed g) (both d e)) (y, (o, q)) m rest on = property_next (one_good true c x d o m (derived_parse e rest) (properties_after c xs e q m rest on))

properties_listed : {s : Settings} (c : Parameters) (xs : List (PropOrSpread AnyNode)) {ts : List Token} (d : Derives core s (listed (codes ",") (prop_or_spread_form c) xs) ts) → AllGood d → s.minify ≡ c.minify →
    InProperties false (derived_parse d (Read (punctuator (codes "}")) End))
unfolding listed AllGood derived_parse read_phrase
properties_listed c [] (fixed g) o m = no_properties
properties_listed c (x ∷ xs) (both d e) (o, q) m =
    one_good false c x d o m (derived_parse e (Read (punctuator (codes "}")) End)) (properties_after c xs e q m (Read (punctuator (codes "}")) End) properties_closed)

pub object_good : {s : Settings} (c : Parameters) (n : ObjectLit AnyNode) {ts : List Token} (d : Derives core s (object_form c n) ts) → AllGood d → s.minify ≡ c.minify → Good (Whole Object nt.PrimaryExpression) (derived_parse d End)
unfolding object_form AllGood derived_parse read_phrase
object_good c n (both (fixed g) (both d (fixed h))) (x, (o, y)) m = object (properties_listed c n.props.items d o m)
