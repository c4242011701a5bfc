-- Members of classes are read as they are.
use Rattle.std.proofs.Common.{◌≡◌, ℕ, Bool, true, false, ◌&&◌, ◌||◌, not, List, Option, Some, None, refl, sym, ◌∙◌, subst}
use Rattle.std.specs.Prelude.{codes, is_none, if◌then◌else◌}
use Rattle.std.proofs.lemmas.Bool.{true≢false}
use Rattle.swc_ecma_codegen_tree.specs.Links.{ExprBox, FunctionBox, TsTypeAnnBox}
use Rattle.swc_ecma_codegen_tree.specs.declared.links.AnyNode.{AnyNode, AnyNode-F, out-AnyNode}
use Rattle.swc_ecma_codegen_tree.specs.declared.links.AnyNode.TheOpen as nodes
use Rattle.swc_ecma_codegen_tree.specs.declared.classes.Accessibility.{Accessibility}
use Rattle.swc_ecma_codegen_tree.specs.declared.classes.ClassMember as class_members
use Rattle.swc_ecma_codegen_tree.specs.declared.classes.ClassMember.TheVariants as members
use Rattle.swc_ecma_codegen_tree.specs.declared.classes.ClassMethod as methods
use Rattle.swc_ecma_codegen_tree.specs.declared.classes.ClassProp as fields
use Rattle.swc_ecma_codegen_tree.specs.declared.classes.Constructor as constructors
use Rattle.swc_ecma_codegen_tree.specs.declared.classes.MethodKind.{MethodKind}
use Rattle.swc_ecma_codegen_tree.specs.declared.classes.MethodKind.TheVariants.{Method, Getter, Setter}
use Rattle.swc_ecma_codegen_tree.specs.declared.classes.ParamOrTsParamProp.{ParamOrTsParamProp}
use Rattle.swc_ecma_codegen_tree.specs.declared.classes.ParamOrTsParamProp.TheVariants as params
use Rattle.swc_ecma_codegen_tree.specs.declared.classes.PrivateMethod as private_methods
use Rattle.swc_ecma_codegen_tree.specs.declared.classes.PrivateProp as private_fields
use Rattle.swc_ecma_codegen_tree.specs.declared.classes.StaticBlock as static_blocks
use Rattle.swc_ecma_codegen_tree.specs.declared.decls.Function as functions
use Rattle.swc_ecma_codegen_tree.specs.declared.parts.ExprPart.TheVariants as expr_parts
use Rattle.swc_ecma_codegen_tree.specs.declared.parts.JSXPart.TheVariants as jsx_parts
use Rattle.swc_ecma_codegen_tree.specs.declared.parts.StmtPart.TheVariants as stmt_parts
use Rattle.swc_ecma_codegen_grammar.specs.AnnotationPhrases.{question}
use Rattle.swc_ecma_codegen_grammar.specs.ClassPhrases.{accessibility, tail_role, prop_modifiers, private_modifiers}
use Rattle.swc_ecma_codegen_grammar.specs.FunctionPhrases.{after_async, word_if, method_head}
use Rattle.swc_ecma_codegen_grammar.specs.NamePhrases.{private_name}
use Rattle.swc_ecma_codegen_grammar.specs.Phrases.{Generates, ◌>◌, where_, mark}
use Rattle.swc_ecma_codegen_grammar.specs.Phrases as phrases
use Rattle.swc_ecma_codegen_grammar.specs.Settings.{Settings}
use Rattle.swc_ecma_codegen_grammar.specs.Tokens.{Token, punctuator, word, ending}
use Rattle.swc_ecma_codegen_grammar.specs.Tokens as tokens
use Rattle.swc_ecma_codegen_grammar.specs.TsDeclPhrases.{declare_word}
use Rattle.swc_ecma_codegen_grammar.specs.declared.roles.Role.TheVariants.{MethodHead, MethodDecorators, MethodTail, AccessorTail}
use Rattle.swc_ecma_codegen_syntax.specs.declared.nonterminals.Nonterminal.TheVariants as nt
use Rattle.swc_ecma_codegen_syntax.specs.declared.parameters.Parameters.{Parameters}
use Rattle.swc_ecma_codegen_syntax.specs.Parameters.{of_function, of_parameters}
use Rattle.swc_ecma_codegen_syntax.specs.ClassForms.{accessibility_form, constructor_param_form, constructor_form, rest_of_accessor, accessor_form, tail_of, kind_form, method_kind_form, optional_mark_form, method_form, private_method_form, field_value_form, plain_modifiers, field_type_form, field_form, plain_private_modifiers, private_field_form, static_block_form, member_of_class_form}
use Rattle.swc_ecma_codegen_syntax.specs.Forms.{Fixed, Part, Provided, ByCore, ByRule, ByScope, is_met}
use Rattle.swc_ecma_codegen_syntax.specs.FunctionForms.{own_of, parameters_of}
use Rattle.swc_ecma_codegen_syntax.specs.NodeForms.{node_form, part_form, stmt_part_form, jsx_part_form}
use Rattle.swc_ecma_codegen_syntax.specs.Derives.{Derives, fixed, part, both, provided}
use Rattle.swc_ecma_codegen_syntax.specs.Verdicts.{core}
use Rattle.swc_ecma_codegen_uniqueness.specs.ParseTrees.{Variant, ParseTree, End, Read, Node, Constructor, ClassMethod, PrivateMethod, ClassProp, PrivateProp, StaticBlock, EmptyStmt, member_variant}
use Rattle.swc_ecma_codegen_uniqueness.specs.Parses.{placed, is_inlined}
use Rattle.swc_ecma_codegen_uniqueness.proofs.Classes.{Class, NameToken, LiteralToken, class, KeyToken}
use Rattle.swc_ecma_codegen_uniqueness.proofs.Controls.{Control, InList, Parameter, AfterParameters, AtMember, InMemberKey, MemberKey, FieldPlace}
use Rattle.swc_ecma_codegen_uniqueness.proofs.Moves.{field_of, shifted_to}
use Rattle.swc_ecma_codegen_uniqueness.proofs.PlaceLaws.{is_no_member, is_no_key, key_member, member_shifts, element_begins}
use Rattle.swc_ecma_codegen_uniqueness.proofs.TableLaws.{assignment_single}
use Rattle.swc_ecma_codegen_uniqueness.proofs.Machine.{Whole, Rest, Good, headed_block, shifted}
use Rattle.swc_ecma_codegen_uniqueness.proofs.Shapes.{Operand, takes_self, assignment_taken, part_then, ended, is_key, Keyed}
use Rattle.swc_ecma_codegen_uniqueness.proofs.StatementShapes.{Within}
use Rattle.swc_ecma_codegen_uniqueness.proofs.Reading.{read_phrase, derived_parse}
use Rattle.swc_ecma_codegen_uniqueness.proofs.Fits.{at_place, taken_at, PlacedGood, AllGood, no_form}
use Rattle.swc_ecma_codegen_uniqueness.proofs.Atoms.{no_annotation}
use Rattle.swc_ecma_codegen_uniqueness.proofs.Keys.{own_key_good}
use Rattle.swc_ecma_codegen_uniqueness.proofs.Functions.{Behind, EachRead, each_param, params_good, plain_params_good, body_good, no_decorators, no_type_params, Tail, rest_good}

-- ---- the shape of a member

abbrev InMember : Variant → Control → ParseTree → Type 0
InMember v c m = Good (Rest c v nt.ClassElement) m

begun_member : {v : Variant} (t : Token) {m : ParseTree} → is_no_member (class t) ≡ false → InMember v (shifted_to AtMember (class t)) m → Good (Whole v nt.ClassElement) (Read t m)
begun_member t h g = headed_block (element_begins t h) g

-- a token that begins a member stands behind `async` and `*` too, and tells that a name before it was a word: `static`, `get`, `set`
abbrev IsBehind : Class → Type 0
IsBehind l = (is_no_key l ≡ false) × (shifted_to (MemberKey ClassMethod) l ≡ shifted_to AtMember l)

-- what begins with such a token
record Began (v : Variant) (m : ParseTree) : Type 0 where
  token : Token
  rest : ParseTree
  is : m ≡ Read token rest
  behind : IsBehind (class token)
  good : InMember v (shifted_to AtMember (class token)) rest

began : {v : Variant} (t : Token) (m : ParseTree) → IsBehind (class t) → InMember v (shifted_to AtMember (class t)) m → Began v (Read t m)
began t m h g = record { token = t; rest = m; is = refl; behind = h; good = g }

goes_there : {v : Variant} {m : ParseTree} → Began v m → InMember v AtMember m
goes_there {v = v} b = subst (λ z. InMember v AtMember z) (sym b.is) (shifted (member_shifts (class b.token) b.behind.0).0 b.good)

goes_behind : {v : Variant} {m : ParseTree} → Began v m → InMember v (MemberKey ClassMethod) m
goes_behind {v = v} b = subst (λ z. InMember v (MemberKey ClassMethod) z) (sym b.is) (shifted (member_shifts (class b.token) b.behind.0).1 (subst (λ c. InMember v c b.rest) (sym b.behind.1) b.good))

whole_member : {v : Variant} {m : ParseTree} → Began v m → Good (Whole v nt.ClassElement) m
whole_member {v = v} b = subst (λ z. Good (Whole v nt.ClassElement) z) (sym b.is) (begun_member b.token (key_member (class b.token) b.behind.0) b.good)

-- ---- keys

key_begins : (l : Class) → is_key l ≡ true → IsBehind l × (shifted_to AtMember l ≡ MemberKey ClassMethod)
key_begins NameToken h = ((refl, refl), refl)
key_begins KeyToken h = ((refl, refl), refl)
key_begins LiteralToken h = ((refl, refl), refl)
key_begins l h = absurd (true≢false (sym h))

key_token_good : (v : Variant) (t : Token) (m : ParseTree) → is_key (class t) ≡ true → InMember v (MemberKey ClassMethod) m → Began v (Read t m)
key_token_good v t m i g = let e = key_begins (class t) i in began t m e.0 (subst (λ z. InMember v z m) (sym e.1) g)

computed_good : (v s : Variant) (p m : ParseTree) → Operand nt.AssignmentExpression s p → InMember v (MemberKey ClassMethod) m → Began v (Read (punctuator (codes "[")) (Node s p (Read (punctuator (codes "]")) m)))
unfolding punctuator
computed_good v s p m o g = began (punctuator (codes "[")) _ (refl, refl) (part_then InMemberKey (Read (punctuator (codes "]")) m) (takes_self nt.AssignmentExpression) o (assignment_taken, λ z. refl, g))

member_key : (v : Variant) → Keyed (Began v) (InMember v (MemberKey ClassMethod))
member_key v = record { token = λ t m i g. key_token_good v t m i g; computed = λ s p m o g. computed_good v s p m o g }

private_key : (v : Variant) (text : List ℕ) (m : ParseTree) → InMember v (MemberKey PrivateMethod) m → Began v (Read (tokens.private_name text) m)
unfolding tokens.private_name
private_key v text m g = began (tokens.private_name text) m (refl, refl) g

-- ---- what stands before a key

no_accessibility : {s : Settings} (o : Option Accessibility) {ts : List Token} (d : Derives core s (accessibility_form {X = AnyNode} o) ts) (rest : ParseTree) → derived_parse d rest ≡ rest
unfolding accessibility_form accessibility is_met derived_parse read_phrase
no_accessibility None (provided h (fixed g)) rest = refl
no_accessibility (Some a) (provided h d) rest = absurd (true≢false (sym h))

-- `abstract` and `override`
no_word : {s : Settings} (b : Bool) (text : List ℕ) {ts : List Token} (d : Derives core s (Provided ByScope (not b) (Fixed (word_if b (phrases.word text)))) ts) (rest : ParseTree) → derived_parse d rest ≡ rest
unfolding word_if is_met derived_parse read_phrase
no_word true text (provided h d) rest = absurd (true≢false (sym h))
no_word false text (provided h (fixed g)) rest = refl

static_then : (s : Settings) (v : Variant) (b : Bool) (ts : List Token) (g : Generates s (word_if b (phrases.word (codes "static"))) ts) (m : ParseTree) → Began v m → Began v (read_phrase s (word_if b (phrases.word (codes "static"))) ts g m)
unfolding word_if read_phrase word
static_then s v true ts g m b = began (word (codes "static")) m (refl, refl) (goes_behind b)
static_then s v false ts g m b = b

method_words : (s : Settings) (v : Variant) (a k : Bool) (ts : List Token) (g : Generates s (after_async a (word_if k (mark (codes "*")))) ts) (m : ParseTree) → Began v m → Began v (read_phrase s (after_async a (word_if k (mark (codes "*")))) ts g m)
unfolding after_async word_if read_phrase word punctuator tokens.same_line
method_words s v false false ts g m b = b
method_words s v false true ts g m b = began (punctuator (codes "*")) m (refl, refl) (goes_there b)
method_words s v true false ts g m b = began (word (codes "async")) _ (refl, refl) (shifted refl (goes_there b))
method_words s v true true ts g m b = began (word (codes "async")) _ (refl, refl) (shifted refl (shifted refl (goes_there b)))

head_in : {s : Settings} (v : Variant) (k : Bool) (c : Parameters) (y : AnyNode-F AnyNode) {ts : List Token} (d : Derives core s (node_form k c y MethodHead) ts) (m : ParseTree) → Began v m → Began v (derived_parse d m)
unfolding node_form part_form stmt_part_form jsx_part_form method_head derived_parse
head_in {s = s} v k c (nodes.StmtPart (stmt_parts.Function x)) (fixed {ts = ts} g) m b = method_words s v x.value.is_async x.value.is_generator ts g m b
head_in v k c (nodes.ExprPart (expr_parts.Tpl x)) d m b = absurd (no_form d)
head_in v k c (nodes.JSXPart (jsx_parts.JSXElement x)) d m b = absurd (no_form d)
head_in v k c y d m b = absurd (no_form d)

kind_good : {s : Settings} (v : Variant) (c : Parameters) (kind : MethodKind) (n : FunctionBox AnyNode) {ts : List Token} (d : Derives core s (kind_form c kind n) ts) (m : ParseTree) → Began v m → Began v (derived_parse d m)
unfolding kind_form derived_parse read_phrase placed is_inlined word
kind_good v c Method n (part k sk d) m b = head_in v k c (out-AnyNode n.node.value) d m b
kind_good v c Getter n (fixed g) m b = began (word (codes "get")) m (refl, refl) (goes_behind b)
kind_good v c Setter n (fixed g) m b = began (word (codes "set")) m (refl, refl) (goes_behind b)

words_good : {s : Settings} (v : Variant) (c : Parameters) (is_static is_abstract is_override : Bool) (kind : MethodKind) (n : FunctionBox AnyNode) {ts : List Token} (d : Derives core s (method_kind_form c is_static is_abstract is_override kind n) ts)
    (m : ParseTree) → Began v m → Began v (derived_parse d m)
unfolding method_kind_form derived_parse
words_good {s = s} v c is_static is_abstract is_override kind n (both (fixed {ts = ts} g) (both a (both o k))) m b =
    static_then s v is_static ts g _ (subst (λ z. Began v z) (sym (no_word is_abstract _ a _ ∙ no_word is_override _ o _)) (kind_good v c kind n k m b))

decorators_in : {s : Settings} (k : Bool) (c : Parameters) (y : AnyNode-F AnyNode) {ts : List Token} (d : Derives core s (node_form k c y MethodDecorators) ts) (rest : ParseTree) → derived_parse d rest ≡ rest
unfolding node_form part_form stmt_part_form jsx_part_form
decorators_in k c (nodes.StmtPart (stmt_parts.Function x)) d rest = no_decorators ByCore c x.value.decorators.items d rest
decorators_in k c (nodes.ExprPart (expr_parts.Tpl x)) d rest = absurd (no_form d)
decorators_in k c (nodes.JSXPart (jsx_parts.JSXElement x)) d rest = absurd (no_form d)
decorators_in k c y d rest = absurd (no_form d)

no_method_decorators : {s : Settings} (c : Parameters) (x : AnyNode) {ts : List Token} (d : Derives core s (Part nt.DecoratorList c MethodDecorators x) ts) (rest : ParseTree) → derived_parse d rest ≡ rest
unfolding derived_parse placed is_inlined
no_method_decorators c x (part k sk d) rest = decorators_in k c (out-AnyNode x) d rest

no_mark : {s : Settings} (b : Bool) {ts : List Token} (d : Derives core s (optional_mark_form {X = AnyNode} b) ts) (rest : ParseTree) → derived_parse d rest ≡ rest
unfolding optional_mark_form question is_met derived_parse read_phrase
no_mark true (provided h d) rest = absurd (true≢false (sym h))
no_mark false (provided h (fixed g)) rest = refl

-- ---- what stands behind the key of a method

-- a method ends with its body
abbrev member_within : Variant → Within
member_within v = record { place = InList v; variant = v; of = nt.ClassElement }

accessor_rest : {s : Settings} (c : Parameters) (x : functions.Function AnyNode) {ts : List Token} (d : Derives core s (rest_of_accessor c x) ts) → AllGood d → s.minify ≡ c.minify → Tail (derived_parse d)
unfolding rest_of_accessor AllGood derived_parse read_phrase
accessor_rest c x (both t (both (fixed g) (both d (both (fixed h) (both a e))))) (y, (z, (o, (u, (v, q))))) m = record {
  inner = λ rest. derived_parse d (Read (punctuator (codes ")")) (derived_parse a (derived_parse e rest)));
  is = λ rest. no_type_params c x.type_params t _;
  good =
      λ n i rest r. subst (λ w. Good (Rest (Parameter n.place) n.variant n.of) (derived_parse d (Read (punctuator (codes ")")) w))) (sym (no_annotation c x.return_type a (derived_parse e rest)))
      (plain_params_good n (each_param n (parameters_of c x) refl m) x.params.items d o (derived_parse e rest) (body_good n (own_of c x) x.body i e q m rest r));
}

accessor_by : {s : Settings} (b : Bool) (c : Parameters) (x : functions.Function AnyNode) {ts : List Token} (d : Derives core s (if b then Provided ByRule false (Fixed phrases.Never) else rest_of_accessor c x) ts) → AllGood d → s.minify ≡ c.minify →
    Tail (derived_parse d)
unfolding is_met
accessor_by true c x (provided h d) o m = absurd (true≢false (sym h))
accessor_by false c x d o m = accessor_rest c x d o m

accessor_in : {s : Settings} (k : Bool) (c : Parameters) (y : AnyNode-F AnyNode) {ts : List Token} (d : Derives core s (node_form k c y AccessorTail) ts) → AllGood d → s.minify ≡ c.minify → Tail (derived_parse d)
unfolding node_form part_form stmt_part_form jsx_part_form accessor_form
accessor_in k c (nodes.StmtPart (stmt_parts.Function x)) d o m = accessor_by (x.value.is_async || x.value.is_generator) c x.value d o m
accessor_in k c (nodes.ExprPart (expr_parts.Tpl x)) d o m = absurd (no_form d)
accessor_in k c (nodes.JSXPart (jsx_parts.JSXElement x)) d o m = absurd (no_form d)
accessor_in k c y d o m = absurd (no_form d)

method_in : {s : Settings} (k : Bool) (c : Parameters) (y : AnyNode-F AnyNode) {ts : List Token} (d : Derives core s (node_form k c y MethodTail) ts) → AllGood d → s.minify ≡ c.minify → Tail (derived_parse d)
unfolding node_form part_form stmt_part_form jsx_part_form
method_in k c (nodes.StmtPart (stmt_parts.Function x)) d o m = rest_good c x.value d o m
method_in k c (nodes.ExprPart (expr_parts.Tpl x)) d o m = absurd (no_form d)
method_in k c (nodes.JSXPart (jsx_parts.JSXElement x)) d o m = absurd (no_form d)
method_in k c y d o m = absurd (no_form d)

same_tail : {f g : ParseTree → ParseTree} → ((rest : ParseTree) → f rest ≡ g rest) → Tail g → Tail f
same_tail e t = record { inner = t.inner; is = λ rest. e rest ∙ t.is rest; good = t.good }

tail_good : {s : Settings} (c : Parameters) (kind : MethodKind) (n : FunctionBox AnyNode) {ts : List Token} (d : Derives core s (Part (tail_of kind) c (tail_role kind) n.node.value) ts) → AllGood d → s.minify ≡ c.minify → Tail (derived_parse d)
unfolding tail_of tail_role AllGood PlacedGood derived_parse placed is_inlined
tail_good c Method n (part k sk d) o m = same_tail (λ rest. refl) (method_in k c (out-AnyNode n.node.value) d o m)
tail_good c Getter n (part k sk d) o m = same_tail (λ rest. refl) (accessor_in k c (out-AnyNode n.node.value) d o m)
tail_good c Setter n (part k sk d) o m = same_tail (λ rest. refl) (accessor_in k c (out-AnyNode n.node.value) d o m)

tail_then : (v : Variant) {f : ParseTree → ParseTree} → Tail f → InMember v (MemberKey v) (f End)
unfolding punctuator
tail_then v t = subst (λ z. InMember v (MemberKey v) z) (sym (t.is End)) (shifted refl (t.good (member_within v) refl End (ended v nt.ClassElement)))

-- ---- methods

method_good : {s : Settings} (c : Parameters) (n : methods.ClassMethod AnyNode) {ts : List Token} (d : Derives core s (method_form c n) ts) → AllGood d → s.minify ≡ c.minify → Good (Whole ClassMethod nt.ClassElement) (derived_parse d End)
unfolding method_form AllGood derived_parse
method_good c n (both k (both a (both w (both q (both x t))))) (y, (z, (u, (o, (v, r))))) m =
    subst (λ p. Good (Whole ClassMethod nt.ClassElement) p) (sym (no_method_decorators c n.function.node.value k _ ∙ no_accessibility n.accessibility a _))
    (whole_member (words_good ClassMethod c n.is_static n.is_abstract n.is_override n.kind n.function w _
    (own_key_good (member_key ClassMethod) _ c n.key q o m _
    (subst (λ p. InMember ClassMethod (MemberKey ClassMethod) p) (sym (no_mark n.is_optional x _)) (tail_then ClassMethod (tail_good c n.kind n.function t r m))))))

private_method_good : {s : Settings} (c : Parameters) (n : private_methods.PrivateMethod AnyNode) {ts : List Token} (d : Derives core s (private_method_form c n) ts) → AllGood d → s.minify ≡ c.minify →
    Good (Whole PrivateMethod nt.ClassElement) (derived_parse d End)
unfolding private_method_form private_name AllGood derived_parse read_phrase
private_method_good c n (both k (both a (both w (both (fixed g) (both x t))))) (y, (z, (u, (o, (v, r))))) m =
    subst (λ p. Good (Whole PrivateMethod nt.ClassElement) p) (sym (no_method_decorators c n.function.node.value k _ ∙ no_accessibility n.accessibility a _))
    (whole_member (words_good PrivateMethod c n.is_static n.is_abstract n.is_override n.kind n.function w _
    (private_key PrivateMethod _ _ (subst (λ p. InMember PrivateMethod (MemberKey PrivateMethod) p) (sym (no_mark n.is_optional x _)) (tail_then PrivateMethod (tail_good c n.kind n.function t r m))))))

element_read : {s : Settings} (n : Within) (c : Parameters) → c.is_binding ≡ true → s.minify ≡ c.minify → (x : ParamOrTsParamProp AnyNode) {ts : List Token} (d : Derives core s (constructor_param_form c nt.PatternElement x) ts) → AllGood d →
    (m : ParseTree) → Behind n m → Good (Rest (Parameter n.place) n.variant n.of) (derived_parse d m)
unfolding constructor_param_form is_met
element_read n c b m (params.Param x) d o rest behind = (each_param n c b m).element x _ d o rest behind
element_read n c b m (params.TsParamProp x) d o rest behind = absurd (no_form d)

last_read : {s : Settings} (n : Within) (c : Parameters) → c.is_binding ≡ true → s.minify ≡ c.minify → (x : ParamOrTsParamProp AnyNode) {ts : List Token} (d : Derives core s (constructor_param_form c nt.LastElement x) ts) → AllGood d →
    (m : ParseTree) → Good (Rest (AfterParameters n.place) n.variant n.of) m → Good (Rest (Parameter n.place) n.variant n.of) (derived_parse d (Read (punctuator (codes ")")) m))
unfolding constructor_param_form is_met
last_read n c b m (params.Param x) d o rest r = (each_param n c b m).last x _ d o rest r
last_read n c b m (params.TsParamProp x) d o rest r = absurd (no_form d)

param_read : {s : Settings} (n : Within) (c : Parameters) → c.is_binding ≡ true → s.minify ≡ c.minify → EachRead s n (constructor_param_form {X = AnyNode} c)
param_read n c b m = record { element = λ x ts d o rest behind. element_read n c b m x d o rest behind; last = λ x ts d o rest r. last_read n c b m x d o rest r }

constructor_good : {s : Settings} (c : Parameters) (n : constructors.Constructor AnyNode) {ts : List Token} (d : Derives core s (constructor_form c n) ts) → AllGood d → s.minify ≡ c.minify → Good (Whole Constructor nt.ClassElement) (derived_parse d End)
unfolding constructor_form AllGood derived_parse read_phrase word punctuator
constructor_good c n (both a (both (fixed g) (both (fixed h) (both d (both (fixed i) e))))) (y, (z, (u, (o, (v, r))))) m =
    subst (λ p. Good (Whole Constructor nt.ClassElement) p) (sym (no_accessibility n.accessibility a _))
    (begun_member (word (codes "constructor")) refl (shifted refl (params_good (member_within Constructor) (param_read (member_within Constructor) (of_parameters false false c) refl m) n.params.items d o _
    (body_good (member_within Constructor) (of_function false false c) n.body refl e r m End (ended Constructor nt.ClassElement)))))

-- ---- fields

prop_words : (s : Settings) (v : Variant) (o : Option Accessibility) (declared is_static is_abstract is_override readonly : Bool) (ts : List Token)
    (g : Generates s (declare_word declared > accessibility o > word_if is_static (phrases.word (codes "static")) > word_if is_abstract (phrases.word (codes "abstract")) > word_if is_override (phrases.word (codes "override")) > word_if readonly (phrases.word (codes "readonly"))) ts) →
    (not declared && (is_none o && (not is_abstract && (not is_override && not readonly)))) ≡ true → (m : ParseTree) → Began v m →
    Began v (read_phrase s (declare_word declared > accessibility o > word_if is_static (phrases.word (codes "static")) > word_if is_abstract (phrases.word (codes "abstract")) > word_if is_override (phrases.word (codes "override")) > word_if readonly (phrases.word (codes "readonly"))) ts g m)
unfolding declare_word accessibility word_if read_phrase word
prop_words s v o true is_static is_abstract is_override readonly ts g h m b = absurd (true≢false (sym h))
prop_words s v (Some a) false is_static is_abstract is_override readonly ts g h m b = absurd (true≢false (sym h))
prop_words s v None false is_static true is_override readonly ts g h m b = absurd (true≢false (sym h))
prop_words s v None false is_static false true readonly ts g h m b = absurd (true≢false (sym h))
prop_words s v None false is_static false false true ts g h m b = absurd (true≢false (sym h))
prop_words s v None false true false false false ts g h m b = began (word (codes "static")) m (refl, refl) (goes_behind b)
prop_words s v None false false false false false ts g h m b = b

private_words : (s : Settings) (v : Variant) (o : Option Accessibility) (is_static is_override readonly : Bool) (ts : List Token)
    (g : Generates s (accessibility o > word_if is_static (phrases.word (codes "static")) > word_if is_override (phrases.word (codes "override")) > word_if readonly (phrases.word (codes "readonly"))) ts) →
    (is_none o && (not is_override && not readonly)) ≡ true → (m : ParseTree) → Began v m →
    Began v (read_phrase s (accessibility o > word_if is_static (phrases.word (codes "static")) > word_if is_override (phrases.word (codes "override")) > word_if readonly (phrases.word (codes "readonly"))) ts g m)
unfolding accessibility word_if read_phrase word
private_words s v (Some a) is_static is_override readonly ts g h m b = absurd (true≢false (sym h))
private_words s v None is_static true readonly ts g h m b = absurd (true≢false (sym h))
private_words s v None is_static false true ts g h m b = absurd (true≢false (sym h))
private_words s v None true false false ts g h m b = began (word (codes "static")) m (refl, refl) (goes_behind b)
private_words s v None false false false ts g h m b = b

no_field_type : {s : Settings} (c : Parameters) (definite : Bool) (o : Option (TsTypeAnnBox AnyNode)) {ts : List Token} (d : Derives core s (field_type_form c definite o) ts) (rest : ParseTree) → derived_parse d rest ≡ rest
unfolding field_type_form where_ is_met derived_parse read_phrase
no_field_type c true None (provided h d) rest = absurd (true≢false (sym h))
no_field_type c false None (provided h (fixed g)) rest = refl
no_field_type c definite (Some n) (provided h d) rest = absurd (true≢false (sym h))

value_good : {s : Settings} (k : Variant) (c : Parameters) (o : Option (ExprBox AnyNode)) {ts : List Token} (d : Derives core s (field_value_form c o) ts) → AllGood d → s.minify ≡ c.minify → InMember (field_of k) (MemberKey k) (derived_parse d (Read ending End))
unfolding field_value_form AllGood PlacedGood derived_parse read_phrase placed is_inlined punctuator ending
value_good k c None (fixed g) o m = shifted refl (ended (field_of k) nt.ClassElement)
value_good k c (Some n) (both (fixed g) (part a sa d)) (x, o) m =
    shifted refl (part_then (FieldPlace (field_of k)) (Read ending End) (takes_self nt.AssignmentExpression) (at_place _ _ sa (o m (assignment_single _ (taken_at _ _ sa)))) (assignment_taken, λ z. refl, ended (field_of k) nt.ClassElement))

field_good : {s : Settings} (c : Parameters) (n : fields.ClassProp AnyNode) {ts : List Token} (d : Derives core s (field_form c n) ts) → AllGood d → s.minify ≡ c.minify → Good (Whole ClassProp nt.ClassElement) (derived_parse d End)
unfolding field_form plain_modifiers prop_modifiers is_met AllGood derived_parse read_phrase
field_good {s = s} c n (both k (both (provided h (fixed {ts = ts} g)) (both q (both x (both t (both v (fixed j))))))) (y, (z, (o, (u, (w, (r, i)))))) m =
    subst (λ p. Good (Whole ClassProp nt.ClassElement) p) (sym (no_decorators ByCore c n.decorators.items k _))
    (whole_member (prop_words s ClassProp n.accessibility n.declare n.is_static n.is_abstract n.is_override n.readonly ts g h _
    (own_key_good (member_key ClassProp) nt.PropertyName c n.key q o m _
    (subst (λ p. InMember ClassProp (MemberKey ClassMethod) p) (sym (no_mark n.is_optional x _ ∙ no_field_type c n.definite n.type_ann t _)) (value_good ClassMethod c n.value v r m)))))

private_field_good : {s : Settings} (c : Parameters) (n : private_fields.PrivateProp AnyNode) {ts : List Token} (d : Derives core s (private_field_form c n) ts) → AllGood d → s.minify ≡ c.minify → Good (Whole PrivateProp nt.ClassElement) (derived_parse d End)
unfolding private_field_form plain_private_modifiers private_modifiers private_name is_met AllGood derived_parse read_phrase
private_field_good {s = s} c n (both k (both (provided h (fixed {ts = ts} g)) (both (fixed q) (both x (both t (both v (fixed j))))))) (y, (z, (o, (u, (w, (r, i)))))) m =
    subst (λ p. Good (Whole PrivateProp nt.ClassElement) p) (sym (no_decorators ByCore c n.decorators.items k _))
    (whole_member (private_words s PrivateProp n.accessibility n.is_static n.is_override n.readonly ts g h _
    (private_key PrivateProp _ _
    (subst (λ p. InMember PrivateProp (MemberKey PrivateMethod) p) (sym (no_mark n.is_optional x _ ∙ no_field_type c n.definite n.type_ann t _)) (value_good PrivateMethod c n.value v r m)))))

-- ---- members

static_block_good : {s : Settings} (c : Parameters) (n : static_blocks.StaticBlock AnyNode) {ts : List Token} (d : Derives core s (static_block_form c n) ts) → AllGood d → s.minify ≡ c.minify → Good (Whole StaticBlock nt.ClassElement) (derived_parse d End)
unfolding static_block_form AllGood PlacedGood derived_parse read_phrase placed is_inlined word punctuator
static_block_good c n (both (fixed g) (part a sa d)) (x, o) m =
    let v = o m in
    subst (λ z. Good (Whole StaticBlock nt.ClassElement) (Read (word (codes "static")) z)) (sym (v.is End))
    (begun_member (word (codes "static")) refl (shifted refl (v.good (InList StaticBlock) refl StaticBlock nt.ClassElement End (ended StaticBlock nt.ClassElement))))

empty_good : Good (Whole EmptyStmt nt.ClassElement) (Read (punctuator (codes ";")) End)
unfolding punctuator
empty_good = begun_member (punctuator (codes ";")) refl (ended EmptyStmt nt.ClassElement)

pub element_good : {s : Settings} (c : Parameters) (n : class_members.ClassMember AnyNode) {ts : List Token} (d : Derives core s (member_of_class_form c n) ts) → AllGood d → s.minify ≡ c.minify → Good (Whole (member_variant n) nt.ClassElement) (derived_parse d End)
unfolding member_of_class_form member_variant is_met derived_parse read_phrase
element_good c (members.Constructor n) d o m = constructor_good c n d o m
element_good c (members.Method n) d o m = method_good c n d o m
element_good c (members.PrivateMethod n) d o m = private_method_good c n d o m
element_good c (members.ClassProp n) d o m = field_good c n d o m
element_good c (members.PrivateProp n) d o m = private_field_good c n d o m
element_good c (members.Empty n) (fixed g) o m = empty_good
element_good c (members.StaticBlock n) d o m = static_block_good c n d o m
element_good c n d o m = absurd (no_form d)
