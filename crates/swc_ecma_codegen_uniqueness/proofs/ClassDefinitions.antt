-- Classes are read as they are.
use Rattle.std.proofs.Common.{◌≡◌, Bool, true, false, not, List, [], ◌∷◌, Option, Some, None, refl, sym, ap, ◌∙◌, subst}
use Rattle.std.specs.Prelude.{codes}
use Rattle.std.proofs.lemmas.Bool.{true≢false}
use Rattle.swc_ecma_codegen_tree.specs.Links.{ClassMemberBox, ExprBox, TsTypeParamInstantiationBox}
use Rattle.swc_ecma_codegen_tree.specs.declared.links.AnyNode.{AnyNode, AnyNode-F, out-AnyNode}
use Rattle.swc_ecma_codegen_tree.specs.declared.links.AnyNode.TheOpen as nodes
use Rattle.swc_ecma_codegen_tree.specs.declared.classes.Class as classes
use Rattle.swc_ecma_codegen_tree.specs.declared.decls.ClassDecl.{ClassDecl}
use Rattle.swc_ecma_codegen_tree.specs.declared.exprs.ClassExpr.{ClassExpr}
use Rattle.swc_ecma_codegen_tree.specs.declared.idents.Ident.{Ident}
use Rattle.swc_ecma_codegen_tree.specs.declared.parts.ExprPart.TheVariants as expr_parts
use Rattle.swc_ecma_codegen_tree.specs.declared.parts.JSXPart.TheVariants as jsx_parts
use Rattle.swc_ecma_codegen_tree.specs.declared.parts.StmtPart.TheVariants as stmt_parts
use Rattle.swc_ecma_codegen_tree.specs.declared.ts_decls.TsExprWithTypeArgs.{TsExprWithTypeArgs}
use Rattle.swc_ecma_codegen_grammar.specs.ClassPhrases.{class_word}
use Rattle.swc_ecma_codegen_grammar.specs.FunctionPhrases.{word_if, is_some_listed}
use Rattle.swc_ecma_codegen_grammar.specs.Phrases.{Then, where_}
use Rattle.swc_ecma_codegen_grammar.specs.Phrases as phrases
use Rattle.swc_ecma_codegen_grammar.specs.Settings.{Settings}
use Rattle.swc_ecma_codegen_grammar.specs.Tokens.{Token, punctuator, word}
use Rattle.swc_ecma_codegen_grammar.specs.Tokens as tokens
use Rattle.swc_ecma_codegen_grammar.specs.declared.roles.Role.TheVariants.{ClassHead, ClassWord, ClassTail}
use Rattle.swc_ecma_codegen_syntax.specs.declared.nonterminals.Nonterminal.{Nonterminal}
use Rattle.swc_ecma_codegen_syntax.specs.declared.nonterminals.Nonterminal.TheVariants as nt
use Rattle.swc_ecma_codegen_syntax.specs.declared.parameters.Parameters.{Parameters}
use Rattle.swc_ecma_codegen_syntax.specs.Parameters.{of_class}
use Rattle.swc_ecma_codegen_syntax.specs.ClassForms.{heritage_form, implemented_form, implements_form, members_form, class_tail_form, class_word_form, class_rest_form, class_decl_form, class_expr_form}
use Rattle.swc_ecma_codegen_syntax.specs.Forms.{Fixed, Part, Provided, ByCore, ByScope, is_met, in_order}
use Rattle.swc_ecma_codegen_syntax.specs.FunctionForms.{bound_name_form, optional_name_form}
use Rattle.swc_ecma_codegen_syntax.specs.Nonterminals.{takes, is_class_element, is_private}
use Rattle.swc_ecma_codegen_syntax.specs.NodeForms.{node_form, part_form, stmt_part_form, jsx_part_form}
use Rattle.swc_ecma_codegen_syntax.specs.Derives.{Derives, fixed, part, both, provided}
use Rattle.swc_ecma_codegen_syntax.specs.Verdicts.{core}
use Rattle.swc_ecma_codegen_uniqueness.specs.ParseTrees.{Variant, ParseTree, End, Read, Node, Class as AClass, tokens_of}
use Rattle.swc_ecma_codegen_uniqueness.specs.Parses.{placed, is_inlined}
use Rattle.swc_ecma_codegen_uniqueness.proofs.Classes.{Class, class}
use Rattle.swc_ecma_codegen_uniqueness.proofs.Controls.{AfterClass, Heritage, Members, stands}
use Rattle.swc_ecma_codegen_uniqueness.proofs.Moves.{shifted_to}
use Rattle.swc_ecma_codegen_uniqueness.proofs.Tables.{Wrap, without, with_operand}
use Rattle.swc_ecma_codegen_uniqueness.proofs.TableLaws.{is_wrap}
use Rattle.swc_ecma_codegen_uniqueness.proofs.Machine.{Whole, Rest, Good, Heads, goes_on, shifted, keeping}
use Rattle.swc_ecma_codegen_uniqueness.proofs.Shapes.{takes_self, part_then, begun, ended}
use Rattle.swc_ecma_codegen_uniqueness.proofs.StatementShapes.{Follower, item_of, listed_heads, class_item}
use Rattle.swc_ecma_codegen_uniqueness.proofs.Reading.{read_phrase, derived_parse}
use Rattle.swc_ecma_codegen_uniqueness.proofs.Fits.{at_place, PlacedGood, AllGood, no_form}
use Rattle.swc_ecma_codegen_uniqueness.proofs.Lists.{no_types}
use Rattle.swc_ecma_codegen_uniqueness.proofs.Linking.{part_rest}
use Rattle.swc_ecma_codegen_uniqueness.proofs.Functions.{no_decorators, no_type_params, no_declare, bound_read, bound_free}

-- ---- members

-- what stands in a class, of a nonterminal
abbrev InClass : Nonterminal → ParseTree → Type 0
InClass n m = Good (Rest Members AClass n) m × Heads (λ u. goes_on (without Members (class u)) ≡ true) m

members_end : (n : Nonterminal) → InClass n (Read (punctuator (codes "}")) End)
unfolding punctuator tokens_of
members_end n = (shifted refl (ended AClass n), λ us. (_, us, refl, refl))

member_stands : stands Members nt.ClassElement ≡ true
unfolding takes is_class_element is_private
member_stands = refl

no_wrap : (l : Class) → with_operand Members l ≡ Wrap → ⊥
no_wrap l h = true≢false (sym (ap is_wrap h))

member_then : (n : Nonterminal) {v : Variant} {p rest : ParseTree} → Good (Whole v nt.ClassElement) p → InClass n rest → InClass n (Node v p rest)
unfolding tokens_of
member_then n {p = p} {rest = rest} g r = (
  keeping (member_stands) g (λ us. let k = r.1 us in (k.0, k.1, k.2, (refl, refl, k.3))) r.0,
  λ us. listed_heads Members no_wrap g (member_stands) (tokens_of rest us),
)

members_good : {s : Settings} (n : Nonterminal) (c : Parameters) (xs : List (ClassMemberBox AnyNode)) {ts : List Token} (d : Derives core s (members_form c xs) ts) → AllGood d → s.minify ≡ c.minify → (rest : ParseTree) → InClass n rest → InClass n (derived_parse d rest)
unfolding in_order AllGood PlacedGood derived_parse read_phrase placed is_inlined
members_good n c [] (fixed g) o m rest r = r
members_good n c (x ∷ xs) (both (part a sa d) e) (o, q) m rest r = member_then n (o m).good (members_good n c xs e q m rest r)

-- ---- what stands behind the name

heritage_good : {s : Settings} (n : Nonterminal) (c : Parameters) (o : Option (ExprBox AnyNode)) (args : Option (TsTypeParamInstantiationBox AnyNode)) {ts : List Token} (d : Derives core s (heritage_form c o args) ts) → AllGood d → s.minify ≡ c.minify →
    (m : ParseTree) → Good (Rest Members AClass n) m → Good (Rest AfterClass AClass n) (derived_parse d (Read (punctuator (codes "{")) m))
unfolding heritage_form where_ is_met AllGood PlacedGood derived_parse read_phrase placed is_inlined punctuator word
heritage_good n c None None (provided h (fixed g)) o m rest r = shifted refl r
heritage_good n c None (Some args) (provided h d) o m rest r = absurd (true≢false (sym h))
heritage_good n c (Some x) args (both (fixed g) (both (part a sa d) t)) (y, (o, q)) m rest r =
    let v = at_place _ _ sa (o m) in
    shifted refl (part_rest v (no_types c args t (Read (punctuator (codes "{")) rest)) (part_then Heritage (Read (punctuator (codes "{")) rest) (takes_self nt.LeftHandSideExpression) v (takes_self nt.LeftHandSideExpression, λ z. refl, r)))

no_implements : {s : Settings} (ns : List (TsExprWithTypeArgs AnyNode)) {ts : List Token} (d : Derives core s (implements_form ns) ts) (rest : ParseTree) → derived_parse d rest ≡ rest
unfolding implements_form implemented_form is_some_listed is_met derived_parse read_phrase
no_implements [] (provided h (fixed g)) rest = refl
no_implements (n ∷ ns) (provided h d) rest = absurd (true≢false (sym h))

tail_of : {s : Settings} (n : Nonterminal) (c : Parameters) (x : classes.Class AnyNode) {ts : List Token} (d : Derives core s (class_tail_form c x) ts) → AllGood d → s.minify ≡ c.minify → Good (Rest AfterClass AClass n) (derived_parse d End)
unfolding class_tail_form AllGood derived_parse read_phrase
tail_of n c x (both t (both h (both i (both (fixed g) (both d (fixed j)))))) (y, (o, (z, (u, (q, v))))) m =
    subst (λ z. Good (Rest AfterClass AClass n) z) (sym (no_type_params c x.type_params t _))
    (subst (λ z. Good (Rest AfterClass AClass n) (derived_parse h z)) (sym (no_implements x.implements.items i _))
    (heritage_good n (of_class c) x.super_class x.super_type_params h o m _ (members_good n (of_class c) x.body.items d q m _ (members_end n)).0))

tail_in : {s : Settings} (n : Nonterminal) (k : Bool) (c : Parameters) (y : AnyNode-F AnyNode) {ts : List Token} (d : Derives core s (node_form k c y ClassTail) ts) → AllGood d → s.minify ≡ c.minify → Good (Rest AfterClass AClass n) (derived_parse d End)
unfolding node_form part_form stmt_part_form jsx_part_form
tail_in n k c (nodes.StmtPart (stmt_parts.Class x)) d o m = tail_of n c x.value d o m
tail_in n k c (nodes.ExprPart (expr_parts.Tpl x)) d o m = absurd (no_form d)
tail_in n k c (nodes.JSXPart (jsx_parts.JSXElement x)) d o m = absurd (no_form d)
tail_in n k c y d o m = absurd (no_form d)

pub class_tail_good : {s : Settings} (n : Nonterminal) (c : Parameters) (x : AnyNode) {ts : List Token} (d : Derives core s (Part nt.ClassTail c ClassTail x) ts) → AllGood d → s.minify ≡ c.minify → Good (Rest AfterClass AClass n) (derived_parse d End)
unfolding AllGood PlacedGood derived_parse placed is_inlined
class_tail_good n c x (part k sk d) o m = tail_in n k c (out-AnyNode x) d o m

-- ---- what stands before it

head_in : {s : Settings} (k : Bool) (c : Parameters) (y : AnyNode-F AnyNode) {ts : List Token} (d : Derives core s (node_form k c y ClassHead) ts) (rest : ParseTree) → derived_parse d rest ≡ rest
unfolding node_form part_form stmt_part_form jsx_part_form
head_in k c (nodes.StmtPart (stmt_parts.Class x)) d rest = no_decorators ByCore c x.value.decorators.items d rest
head_in k c (nodes.ExprPart (expr_parts.Tpl x)) d rest = absurd (no_form d)
head_in k c (nodes.JSXPart (jsx_parts.JSXElement x)) d rest = absurd (no_form d)
head_in k c y d rest = absurd (no_form d)

pub no_class_decorators : {s : Settings} (c : Parameters) (x : AnyNode) {ts : List Token} (d : Derives core s (Part nt.DecoratorList c ClassHead x) ts) (rest : ParseTree) → derived_parse d rest ≡ rest
unfolding derived_parse placed is_inlined
no_class_decorators c x (part k sk d) rest = head_in k c (out-AnyNode x) d rest

word_by : {s : Settings} (b : Bool) {ts : List Token} (d : Derives core s (Provided ByScope (not b) (Fixed (Then (word_if b (phrases.word (codes "abstract"))) (phrases.word (codes "class"))))) ts) (rest : ParseTree) → derived_parse d rest ≡ Read (word (codes "class")) rest
unfolding word_if is_met derived_parse read_phrase
word_by true (provided h d) rest = absurd (true≢false (sym h))
word_by false (provided h (fixed g)) rest = refl

word_in : {s : Settings} (k : Bool) (c : Parameters) (y : AnyNode-F AnyNode) {ts : List Token} (d : Derives core s (node_form k c y ClassWord) ts) (rest : ParseTree) → derived_parse d rest ≡ Read (word (codes "class")) rest
unfolding node_form part_form stmt_part_form jsx_part_form class_word_form class_word
word_in k c (nodes.StmtPart (stmt_parts.Class x)) d rest = word_by x.value.is_abstract d rest
word_in k c (nodes.ExprPart (expr_parts.Tpl x)) d rest = absurd (no_form d)
word_in k c (nodes.JSXPart (jsx_parts.JSXElement x)) d rest = absurd (no_form d)
word_in k c y d rest = absurd (no_form d)

pub class_word_read : {s : Settings} (c : Parameters) (x : AnyNode) {ts : List Token} (d : Derives core s (Part nt.ClassHead c ClassWord x) ts) (rest : ParseTree) → derived_parse d rest ≡ Read (word (codes "class")) rest
unfolding derived_parse placed is_inlined
class_word_read c x (part k sk d) rest = word_in k c (out-AnyNode x) d rest

-- ---- classes

pub bound_class : {s : Settings} (n : Nonterminal) (c : Parameters) (x : Ident) {ts : List Token} (d : Derives core s (bound_name_form c x) ts) (m : ParseTree) → Good (Rest AfterClass AClass n) m → Good (Rest AfterClass AClass n) (derived_parse d m)
bound_class n c x d m g =
    let e = bound_free c x d in
    subst (λ z. Good (Rest AfterClass AClass n) z) (sym (bound_read c x d m)) (shifted (ap (without AfterClass) e) (subst (λ l. Good (Rest (shifted_to AfterClass l) AClass n) m) (sym e) g))

optional_class : {s : Settings} (n : Nonterminal) (c : Parameters) (o : Option Ident) {ts : List Token} (d : Derives core s (optional_name_form c o) ts) (m : ParseTree) → Good (Rest AfterClass AClass n) m → Good (Rest AfterClass AClass n) (derived_parse d m)
unfolding optional_name_form derived_parse read_phrase
optional_class n c None (fixed g) m r = r
optional_class n c (Some x) d m r = bound_class n c x d m r

-- behind the word
pub class_rest : {s : Settings} (n : Nonterminal) (c : Parameters) (x : ClassExpr AnyNode) {ts us : List Token} (d : Derives core s (optional_name_form (of_class c) x.ident) ts) (e : Derives core s (Part nt.ClassTail c ClassTail x.class.node.value) us) → AllGood e → s.minify ≡ c.minify →
    Good (Rest AfterClass AClass n) (derived_parse d (derived_parse e End))
class_rest n c x d e o m = optional_class n (of_class c) x.ident d _ (class_tail_good n c x.class.node.value e o m)

-- what is read behind `class`
pub record ClassRead (n : Nonterminal) (m : ParseTree) : Type 0 where
  pub rest : ParseTree
  pub is : m ≡ Read (word (codes "class")) rest
  pub good : Good (Rest AfterClass AClass n) rest

pub class_expr_read : {s : Settings} (at : Nonterminal) (c : Parameters) (n : ClassExpr AnyNode) {ts : List Token} (d : Derives core s (class_expr_form c n) ts) → AllGood d → s.minify ≡ c.minify → ClassRead at (derived_parse d End)
unfolding class_expr_form AllGood derived_parse
class_expr_read at c n (both h (both w (both i t))) (x, (y, (z, o))) m = record {
  rest = _;
  is = no_class_decorators c n.class.node.value h _ ∙ class_word_read c n.class.node.value w _;
  good = class_rest at c n i t o m;
}

pub class_expr_good : {s : Settings} (c : Parameters) (n : ClassExpr AnyNode) {ts : List Token} (d : Derives core s (class_expr_form c n) ts) → AllGood d → s.minify ≡ c.minify → Good (Whole AClass nt.PrimaryExpression) (derived_parse d End)
unfolding word
class_expr_good c n d o m =
    let r = class_expr_read nt.PrimaryExpression c n d o m in subst (λ p. Good (Whole AClass nt.PrimaryExpression) p) (sym r.is) (begun (word (codes "class")) AClass nt.PrimaryExpression AfterClass _ refl refl refl r.good)

-- behind `export`
pub class_rest_read : {s : Settings} (at : Nonterminal) (c : Parameters) (n : ClassDecl AnyNode) {ts : List Token} (d : Derives core s (class_rest_form c n) ts) → AllGood d → s.minify ≡ c.minify → ClassRead at (derived_parse d End)
unfolding class_rest_form AllGood derived_parse
class_rest_read at c n (both k (both w (both i t))) (x, (y, (z, o))) m = record {
  rest = _;
  is = no_declare n.declare k _ ∙ class_word_read c n.class.node.value w _;
  good = bound_class at (of_class c) n.ident i _ (class_tail_good at c n.class.node.value t o m);
}

pub class_decl_good : {s : Settings} (b : Follower) (c : Parameters) (n : ClassDecl AnyNode) {ts : List Token} (d : Derives core s (class_decl_form c n) ts) → AllGood d → s.minify ≡ c.minify → Good (Whole AClass (item_of b)) (derived_parse d End)
unfolding class_decl_form AllGood derived_parse
class_decl_good b c n (both k (both h (both w (both i t)))) (x, (y, (z, (u, o)))) m =
    subst (λ p. Good (Whole AClass (item_of b)) p) (sym (no_declare n.declare k _ ∙ no_class_decorators c n.class.node.value h _ ∙ class_word_read c n.class.node.value w _))
    (class_item b (bound_class (item_of b) (of_class c) n.ident i _ (class_tail_good (item_of b) c n.class.node.value t o m)))
