-- Functions are read as they are.
use Rattle.std.proofs.Common.{◌≡◌, ℕ, Bool, true, false, not, List, [], ◌∷◌, Option, Some, None, refl, sym, ap, ◌∙◌, subst}
use Rattle.std.specs.Prelude.{codes, string_bytes, if◌then◌else◌}
use Rattle.std.proofs.lemmas.Bool.{true≢false}
use Rattle.swc_ecma_codegen_tree.specs.Links.{BlockStmtBox, TsTypeParamDeclBox}
use Rattle.swc_ecma_codegen_tree.specs.declared.links.AnyNode.{AnyNode, AnyNode-F, out-AnyNode}
use Rattle.swc_ecma_codegen_tree.specs.declared.links.AnyNode.TheOpen as nodes
use Rattle.swc_ecma_codegen_tree.specs.declared.decls.Decorator.{Decorator}
use Rattle.swc_ecma_codegen_tree.specs.declared.decls.FnDecl.{FnDecl}
use Rattle.swc_ecma_codegen_tree.specs.declared.decls.Function as functions
use Rattle.swc_ecma_codegen_tree.specs.declared.decls.Param.{Param}
use Rattle.swc_ecma_codegen_tree.specs.declared.exprs.FnExpr.{FnExpr}
use Rattle.swc_ecma_codegen_tree.specs.declared.idents.Ident.{Ident}
use Rattle.swc_ecma_codegen_tree.specs.declared.parts.ExprPart.TheVariants as expr_parts
use Rattle.swc_ecma_codegen_tree.specs.declared.parts.JSXPart.TheVariants as jsx_parts
use Rattle.swc_ecma_codegen_tree.specs.declared.parts.StmtPart.TheVariants as stmt_parts
use Rattle.swc_ecma_codegen_tree.specs.declared.pats.Pat.{Pat}
use Rattle.swc_ecma_codegen_tree.specs.declared.pats.Pat.TheVariants as pats
use Rattle.swc_ecma_codegen_grammar.specs.FunctionPhrases.{after_async, word_if, function_head, is_some_listed}
use Rattle.swc_ecma_codegen_grammar.specs.TsDeclPhrases.{declare_word}
use Rattle.swc_ecma_codegen_grammar.specs.Names.{name_value}
use Rattle.swc_ecma_codegen_grammar.specs.Phrases.{Generates, Then, mark}
use Rattle.swc_ecma_codegen_grammar.specs.Phrases as phrases
use Rattle.swc_ecma_codegen_grammar.specs.Settings.{Settings}
use Rattle.swc_ecma_codegen_grammar.specs.SpelledNames.{spelled_name}
use Rattle.swc_ecma_codegen_grammar.specs.Tokens.{Token, punctuator, word, same_line}
use Rattle.swc_ecma_codegen_grammar.specs.Tokens as tokens
use Rattle.swc_ecma_codegen_grammar.specs.declared.roles.Role.TheVariants.{Function, FunctionHead}
use Rattle.swc_ecma_codegen_syntax.specs.declared.nonterminals.Nonterminal.{Nonterminal}
use Rattle.swc_ecma_codegen_syntax.specs.declared.nonterminals.Nonterminal.TheVariants as nt
use Rattle.swc_ecma_codegen_syntax.specs.declared.parameters.Parameters.{Parameters}
use Rattle.swc_ecma_codegen_syntax.specs.Nonterminals.{takes, is_pattern_target, is_pattern_element, is_last_element}
use Rattle.swc_ecma_codegen_syntax.specs.Parameters.{of_function_name}
use Rattle.swc_ecma_codegen_syntax.specs.Forms.{Form, Fixed, Part, Provided, Cure, ByRule, ByScope, is_met, in_order, each_after, listed, ending_after, ending_listed}
use Rattle.swc_ecma_codegen_syntax.specs.FunctionForms.{type_params_form, decorators_form, bound_name_form, optional_name_form, pat_in, param_form, body_form, own_of, parameters_of, rest_of_function, function_form, fn_expr_form, fn_default_form, fn_decl_form}
use Rattle.swc_ecma_codegen_syntax.specs.PatForms.{pat_form, pat_nonterminal}
use Rattle.swc_ecma_codegen_syntax.specs.NodeForms.{node_form, part_form, stmt_part_form, jsx_part_form}
use Rattle.swc_ecma_codegen_syntax.specs.Derives.{Derives, fixed, part, both, provided}
use Rattle.swc_ecma_codegen_syntax.specs.Verdicts.{core}
use Rattle.swc_ecma_codegen_uniqueness.specs.ParseTrees.{Variant, ParseTree, End, Read, Fn}
use Rattle.swc_ecma_codegen_uniqueness.specs.Parses.{placed, is_inlined, is_inlined_pat}
use Rattle.swc_ecma_codegen_uniqueness.proofs.Classes.{class, NameToken}
use Rattle.swc_ecma_codegen_uniqueness.proofs.Controls.{AfterAsync, AfterFunction, AfterName, Parameter, AfterParameters, left, InList}
use Rattle.swc_ecma_codegen_uniqueness.proofs.Moves.{passed_to, closing, shifted_to}
use Rattle.swc_ecma_codegen_uniqueness.proofs.Tables.{Splice, decide, without}
use Rattle.swc_ecma_codegen_uniqueness.proofs.PlaceLaws.{is_list}
use Rattle.swc_ecma_codegen_uniqueness.proofs.TableLaws.{cover, cover_taken}
use Rattle.swc_ecma_codegen_uniqueness.proofs.Machine.{Whole, Rest, Good, shifted}
use Rattle.swc_ecma_codegen_uniqueness.proofs.Shapes.{takes_self, assignment_taken, begun, ended}
use Rattle.swc_ecma_codegen_uniqueness.proofs.StatementShapes.{Within, Follower, item_of, parameter_then, rest_then, no_parameters_then, parameters_end, function_item, async_item}
use Rattle.swc_ecma_codegen_uniqueness.proofs.Reading.{read_phrase, derived_parse}
use Rattle.swc_ecma_codegen_uniqueness.proofs.Joined.{derived_joined}
use Rattle.swc_ecma_codegen_uniqueness.proofs.Fits.{PlacedGood, AllGood, no_form}
use Rattle.swc_ecma_codegen_uniqueness.proofs.Atoms.{no_annotation, name_read, name_free}
use Rattle.swc_ecma_codegen_uniqueness.proofs.Patterns.{rest_covered, pat_good, no_rest_target}

-- ---- a pattern that no link holds

pub not_inlined : {s : Settings} (c : Parameters) (n : Pat AnyNode) {ts : List Token} → takes nt.PatternElement (pat_nonterminal n) ≡ true → c.is_binding ≡ true → (d : Derives core s (pat_form false c n) ts) → is_inlined_pat n ≡ false
unfolding pat_form pat_nonterminal is_inlined_pat is_met takes is_pattern_element is_pattern_target
not_inlined c (pats.Ident n) h b d = refl
not_inlined c (pats.Array n) h b d = refl
not_inlined c (pats.Object n) h b d = refl
not_inlined c (pats.Assign n) h b d = refl
not_inlined c (pats.Invalid n) h b d = refl
not_inlined c (pats.Rest n) h b d = absurd (true≢false (sym h))
not_inlined c (pats.Expr n) h b (provided k d) = absurd (true≢false (sym k ∙ ap not b))

-- ---- parameters

-- what stands behind one: `,`, or `)`
pub record Behind (n : Within) (m : ParseTree) : Type 0 where
  pub token : Token
  pub rest : ParseTree
  pub is : m ≡ Read token rest
  pub ends : takes (left (class token)) nt.AssignmentExpression ≡ true
  pub spliced : (s : Variant) → decide (Parameter n.place) (Some s) token ≡ Splice
  pub good : Good (Rest (passed_to (Parameter n.place) (class token)) n.variant n.of) rest

pub no_decorators : {s : Settings} (cure : Cure) (c : Parameters) (ns : List (Decorator AnyNode)) {ts : List Token} (d : Derives core s (decorators_form cure c ns) ts) (rest : ParseTree) → derived_parse d rest ≡ rest
unfolding decorators_form in_order is_some_listed is_met derived_parse read_phrase
no_decorators cure c [] (provided h (fixed g)) rest = refl
no_decorators cure c (n ∷ ns) d rest = absurd (no_form d)

plain_good : {s : Settings} (n : Within) (c : Parameters) (x : Pat AnyNode) {ts : List Token} → takes nt.PatternElement (pat_nonterminal x) ≡ true → c.is_binding ≡ true → (d : Derives core s (pat_form false c x) ts) → AllGood d →
    s.minify ≡ c.minify → (m : ParseTree) → Behind n m → Good (Rest (Parameter n.place) n.variant n.of) (derived_parse d m)
plain_good n c x h b d o m rest behind =
    parameter_then behind.token n (cover (pat_nonterminal x)) (cover_taken nt.PatternElement (pat_nonterminal x) h) (pat_good false c x d o m (not_inlined c x h b d)) behind.ends behind.spliced behind.good
    (ap (derived_parse d) behind.is ∙ sym (derived_joined d End (Read behind.token behind.rest)))

param_good : {s : Settings} (n : Within) (c : Parameters) (x : Param AnyNode) {ts : List Token} → c.is_binding ≡ true → (d : Derives core s (param_form c nt.PatternElement x) ts) → AllGood d → s.minify ≡ c.minify → (m : ParseTree) → Behind n m →
    Good (Rest (Parameter n.place) n.variant n.of) (derived_parse d m)
unfolding param_form pat_in is_met AllGood derived_parse
param_good n c x b (both k (provided h d)) (y, o) m rest behind =
    subst (λ z. Good (Rest (Parameter n.place) n.variant n.of) z) (sym (no_decorators ByScope c x.decorators.items k (derived_parse d rest))) (plain_good n c x.pat h b d o m rest behind)

behind_close : (n : Within) {m : ParseTree} → Good (Rest (AfterParameters n.place) n.variant n.of) m → Behind n (Read (punctuator (codes ")")) m)
unfolding punctuator
behind_close n g = record { token = _; rest = _; is = refl; ends = assignment_taken; spliced = λ s. refl; good = g }

behind_comma : (n : Within) {m : ParseTree} → Good (Rest (Parameter n.place) n.variant n.of) m → Behind n (Read (punctuator (codes ",")) m)
unfolding punctuator
behind_comma n g = record { token = _; rest = _; is = refl; ends = takes_self nt.AssignmentExpression; spliced = λ s. refl; good = g }

-- the last one, which may be a rest
last_by : {s : Settings} (n : Within) (c : Parameters) (x : Pat AnyNode) {ts : List Token} → takes nt.LastElement (pat_nonterminal x) ≡ true → c.is_binding ≡ true → (d : Derives core s (pat_form false c x) ts) → AllGood d → s.minify ≡ c.minify →
    {m : ParseTree} → Good (Rest (AfterParameters n.place) n.variant n.of) m → Good (Rest (Parameter n.place) n.variant n.of) (derived_parse d (Read (punctuator (codes ")")) m))
unfolding pat_form pat_nonterminal takes is_last_element is_pattern_element is_pattern_target
last_by n c (pats.Rest x) h b d o m {m = rest} g =
    let v = rest_covered nt.PatternTarget no_rest_target c x d o m in
    subst (λ z. Good (Rest (Parameter n.place) n.variant n.of) z) (sym (v.is (Read (punctuator (codes ")")) rest) ∙ ap (Read (punctuator (codes "..."))) (v.covered.is (Read (punctuator (codes ")")) rest))))
    (rest_then n v.covered.operand g)
last_by n c x h b d o m {m = rest} g = plain_good n c x refl b d o m (Read (punctuator (codes ")")) rest) (behind_close n g)

last_good : {s : Settings} (n : Within) (c : Parameters) (x : Param AnyNode) {ts : List Token} → c.is_binding ≡ true → (d : Derives core s (param_form c nt.LastElement x) ts) → AllGood d → s.minify ≡ c.minify → (m : ParseTree) →
    Good (Rest (AfterParameters n.place) n.variant n.of) m → Good (Rest (Parameter n.place) n.variant n.of) (derived_parse d (Read (punctuator (codes ")")) m))
unfolding param_form pat_in is_met AllGood derived_parse
last_good n c x b (both k (provided h d)) (y, o) m rest g =
    subst (λ z. Good (Rest (Parameter n.place) n.variant n.of) z) (sym (no_decorators ByScope c x.decorators.items k (derived_parse d (Read (punctuator (codes ")")) rest)))) (last_by n c x.pat h b d o m g)

-- what each of a list is read as: before another, and as the last one
pub record EachRead (s : Settings) (n : Within) {A : Type 0} (each : Nonterminal → A → Form AnyNode) : Type 0 where
  pub element : (x : A) (ts : List Token) (d : Derives core s (each nt.PatternElement x) ts) → AllGood d → (m : ParseTree) → Behind n m → Good (Rest (Parameter n.place) n.variant n.of) (derived_parse d m)
  pub last : (x : A) (ts : List Token) (d : Derives core s (each nt.LastElement x) ts) → AllGood d → (m : ParseTree) → Good (Rest (AfterParameters n.place) n.variant n.of) m →
      Good (Rest (Parameter n.place) n.variant n.of) (derived_parse d (Read (punctuator (codes ")")) m))

pub each_param : {s : Settings} (n : Within) (c : Parameters) → c.is_binding ≡ true → s.minify ≡ c.minify → EachRead s n (param_form {X = AnyNode} c)
each_param n c b m = record { element = λ x ts d o rest behind. param_good n c x b d o m rest behind; last = λ x ts d o rest r. last_good n c x b d o m rest r }

each_after_one : {s : Settings} (n : Within) {A : Type 0} {each : Nonterminal → A → Form AnyNode} → EachRead s n each → (x : A) (xs : List A) {ts : List Token} (d : Derives core s (ending_after each (x ∷ xs)) ts) → AllGood d →
    (m : ParseTree) → Good (Rest (AfterParameters n.place) n.variant n.of) m → Behind n (derived_parse d (Read (punctuator (codes ")")) m))
unfolding ending_after AllGood derived_parse read_phrase
each_after_one n k x [] (both (fixed g) (both d (fixed h))) (y, (o, z)) rest r = behind_comma n (k.last x _ d o rest r)
each_after_one n k x (y ∷ ys) (both (fixed g) (both d e)) (z, (o, q)) rest r =
    behind_comma n (k.element x _ d o (derived_parse e (Read (punctuator (codes ")")) rest)) (each_after_one n k y ys e q rest r))

pub params_good : {s : Settings} (n : Within) {A : Type 0} {each : Nonterminal → A → Form AnyNode} → EachRead s n each → (xs : List A) {ts : List Token} (d : Derives core s (ending_listed each xs) ts) → AllGood d → (m : ParseTree) →
    Good (Rest (AfterParameters n.place) n.variant n.of) m → Good (Rest (Parameter n.place) n.variant n.of) (derived_parse d (Read (punctuator (codes ")")) m))
unfolding ending_listed AllGood derived_parse read_phrase
params_good n k [] (fixed g) o rest r = no_parameters_then n r
params_good n k (x ∷ []) (both d (fixed h)) (o, z) rest r = k.last x _ d o rest r
params_good n k (x ∷ y ∷ ys) (both d e) (o, q) rest r =
    k.element x _ d o (derived_parse e (Read (punctuator (codes ")")) rest)) (each_after_one n k y ys e q rest r)

-- none of them a rest
plain_after : {s : Settings} (n : Within) {A : Type 0} {each : Nonterminal → A → Form AnyNode} → EachRead s n each → (xs : List A) {ts : List Token} (d : Derives core s (each_after (codes ",") (each nt.PatternElement) xs) ts) → AllGood d →
    (m : ParseTree) → Good (Rest (AfterParameters n.place) n.variant n.of) m → Behind n (derived_parse d (Read (punctuator (codes ")")) m))
unfolding each_after AllGood derived_parse read_phrase
plain_after n k [] (fixed g) o rest r = behind_close n r
plain_after n k (x ∷ xs) (both (fixed g) (both d e)) (y, (o, q)) rest r = behind_comma n (k.element x _ d o (derived_parse e (Read (punctuator (codes ")")) rest)) (plain_after n k xs e q rest r))

pub plain_params_good : {s : Settings} (n : Within) {A : Type 0} {each : Nonterminal → A → Form AnyNode} → EachRead s n each → (xs : List A) {ts : List Token} (d : Derives core s (listed (codes ",") (each nt.PatternElement) xs) ts) → AllGood d →
    (m : ParseTree) → Good (Rest (AfterParameters n.place) n.variant n.of) m → Good (Rest (Parameter n.place) n.variant n.of) (derived_parse d (Read (punctuator (codes ")")) m))
unfolding listed AllGood derived_parse read_phrase
plain_params_good n k [] (fixed g) o rest r = no_parameters_then n r
plain_params_good n k (x ∷ xs) (both d e) (o, q) rest r = k.element x _ d o (derived_parse e (Read (punctuator (codes ")")) rest)) (plain_after n k xs e q rest r)

-- ---- what stands behind the name

pub no_type_params : {s : Settings} (c : Parameters) (o : Option (TsTypeParamDeclBox AnyNode)) {ts : List Token} (d : Derives core s (type_params_form c o) ts) (rest : ParseTree) → derived_parse d rest ≡ rest
unfolding type_params_form is_met derived_parse read_phrase
no_type_params c None (fixed g) rest = refl
no_type_params c (Some n) (provided h d) rest = absurd (true≢false (sym h))

pub body_good : {s : Settings} (n : Within) (c : Parameters) (o : Option (BlockStmtBox AnyNode)) {ts : List Token} → is_list n.place ≡ true → (d : Derives core s (body_form c o) ts) → AllGood d → s.minify ≡ c.minify → (rest : ParseTree) →
    Good (Rest (closing n.place) n.variant n.of) rest → Good (Rest (AfterParameters n.place) n.variant n.of) (derived_parse d rest)
unfolding body_form is_met AllGood PlacedGood derived_parse placed is_inlined
body_good n c None i (provided h d) o m rest g = absurd (true≢false (sym h))
body_good n c (Some x) i (part b sb d) o m rest g =
    let v = o m in
    subst (λ z. Good (Rest (AfterParameters n.place) n.variant n.of) z) (sym (v.is rest)) (parameters_end n (v.good n.place i n.variant n.of rest g))

-- parameters and a body
pub record Tail (f : ParseTree → ParseTree) : Type 0 where
  pub inner : ParseTree → ParseTree
  pub is : (rest : ParseTree) → f rest ≡ Read (punctuator (codes "(")) (inner rest)
  pub good : (n : Within) → is_list n.place ≡ true → (rest : ParseTree) → Good (Rest (closing n.place) n.variant n.of) rest → Good (Rest (Parameter n.place) n.variant n.of) (inner rest)

pub rest_good : {s : Settings} (c : Parameters) (x : functions.Function AnyNode) {ts : List Token} (d : Derives core s (rest_of_function c x) ts) → AllGood d → s.minify ≡ c.minify → Tail (derived_parse d)
unfolding rest_of_function AllGood derived_parse read_phrase
rest_good c x (both t (both (fixed g) (both d (both (fixed h) (both a e))))) (y, (z, (o, (u, (v, q))))) m = record {
  inner = λ rest. derived_parse d (Read (punctuator (codes ")")) (derived_parse a (derived_parse e rest)));
  is = λ rest. no_type_params c x.type_params t _;
  good =
      λ n i rest r. subst (λ w. Good (Rest (Parameter n.place) n.variant n.of) (derived_parse d (Read (punctuator (codes ")")) w))) (sym (no_annotation c x.return_type a (derived_parse e rest)))
      (params_good n (each_param n (parameters_of c x) refl m) x.params.items d o (derived_parse e rest) (body_good n (own_of c x) x.body i e q m rest r));
}

function_by : {s : Settings} (b : Bool) (c : Parameters) (x : functions.Function AnyNode) {ts : List Token} (d : Derives core s (if b then Provided ByRule false (Fixed phrases.Never) else rest_of_function c x) ts) → AllGood d → s.minify ≡ c.minify →
    Tail (derived_parse d)
unfolding is_met
function_by true c x (provided h d) o m = absurd (true≢false (sym h))
function_by false c x d o m = rest_good c x d o m

function_in : {s : Settings} (k : Bool) (c : Parameters) (y : AnyNode-F AnyNode) {ts : List Token} (d : Derives core s (node_form k c y Function) ts) → AllGood d → s.minify ≡ c.minify → Tail (derived_parse d)
unfolding node_form part_form stmt_part_form jsx_part_form function_form is_met
function_in k c (nodes.StmtPart (stmt_parts.Function x)) d o m = function_by (is_some_listed x.value.decorators.items) c x.value d o m
function_in k c (nodes.ExprPart (expr_parts.Tpl x)) d o m = absurd (no_form d)
function_in k c (nodes.JSXPart (jsx_parts.JSXElement x)) d o m = absurd (no_form d)
function_in k c y d o m = absurd (no_form d)

pub tail_good : {s : Settings} (c : Parameters) (x : AnyNode) {ts : List Token} (d : Derives core s (Part nt.FunctionTail c Function x) ts) → AllGood d → s.minify ≡ c.minify → Tail (derived_parse d)
unfolding AllGood PlacedGood derived_parse placed is_inlined
tail_good c x (part k sk d) o m = let t = function_in k c (out-AnyNode x) d o m in record { inner = t.inner; is = t.is; good = t.good }

-- ---- the words before it

abbrev pub behind_async : Bool → ParseTree → ParseTree
behind_async true m = Read (word (codes "async")) (Read same_line m)
behind_async false m = m

pub record Head (f : ParseTree → ParseTree) : Type 0 where
  pub is_async : Bool
  pub starred : Bool
  pub is : (rest : ParseTree) → f rest ≡ behind_async is_async (Read (word (codes "function")) (if starred then Read (punctuator (codes "*")) rest else rest))

head_by : (s : Settings) (a b : Bool) (ts : List Token) (g : Generates s (after_async a (Then (phrases.word (codes "function")) (word_if b (mark (codes "*"))))) ts) →
    Head (read_phrase s (after_async a (Then (phrases.word (codes "function")) (word_if b (mark (codes "*"))))) ts g)
unfolding after_async word_if read_phrase
head_by s true true ts g = record { is_async = true; starred = true; is = λ rest. refl }
head_by s true false ts g = record { is_async = true; starred = false; is = λ rest. refl }
head_by s false true ts g = record { is_async = false; starred = true; is = λ rest. refl }
head_by s false false ts g = record { is_async = false; starred = false; is = λ rest. refl }

same_head : {f g : ParseTree → ParseTree} → ((rest : ParseTree) → f rest ≡ g rest) → Head g → Head f
same_head e t = record { is_async = t.is_async; starred = t.starred; is = λ rest. e rest ∙ t.is rest }

head_of : {s : Settings} (x : functions.Function AnyNode) {ts : List Token} (d : Derives core s (Fixed (function_head x)) ts) → Head (derived_parse d)
unfolding function_head derived_parse
head_of {s = s} x (fixed {ts = ts} g) = same_head (λ rest. refl) (head_by s x.is_async x.is_generator ts g)

head_in : {s : Settings} (k : Bool) (c : Parameters) (y : AnyNode-F AnyNode) {ts : List Token} (d : Derives core s (node_form k c y FunctionHead) ts) → Head (derived_parse d)
unfolding node_form part_form stmt_part_form jsx_part_form
head_in k c (nodes.StmtPart (stmt_parts.Function x)) d = head_of x.value d
head_in k c (nodes.ExprPart (expr_parts.Tpl x)) d = absurd (no_form d)
head_in k c (nodes.JSXPart (jsx_parts.JSXElement x)) d = absurd (no_form d)
head_in k c y d = absurd (no_form d)

head_good : {s : Settings} (place : Nonterminal) (c : Parameters) (x : AnyNode) {ts : List Token} (d : Derives core s (Part place c FunctionHead x) ts) → Head (derived_parse d)
unfolding derived_parse placed is_inlined
head_good place c x (part k sk d) = same_head (λ rest. refl) (head_in k c (out-AnyNode x) d)

-- ---- functions

star_then : (b : Bool) (n : Nonterminal) {m : ParseTree} → Good (Rest AfterFunction Fn n) m → Good (Rest AfterFunction Fn n) (if b then Read (punctuator (codes "*")) m else m)
unfolding punctuator
star_then true n g = shifted refl g
star_then false n g = g

-- behind the words: a name, or none
-- a function that ends there
abbrev alone : Nonterminal → Within
alone n = record { place = InList Fn; variant = Fn; of = n }

named_tail : (n : Nonterminal) (text : List ℕ) → class (tokens.name text) ≡ NameToken → {f : ParseTree → ParseTree} → Tail f → Good (Rest AfterFunction Fn n) (Read (tokens.name text) (f End))
unfolding punctuator
named_tail n text e {f = f} t =
    shifted (ap (without AfterFunction) e)
    (subst (λ l. Good (Rest (shifted_to AfterFunction l) Fn n) (f End)) (sym e) (subst (λ z. Good (Rest AfterName Fn n) z) (sym (t.is End)) (shifted refl (t.good (alone n) refl End (ended Fn n)))))

plain_tail : (n : Nonterminal) {f : ParseTree → ParseTree} → Tail f → Good (Rest AfterFunction Fn n) (f End)
unfolding punctuator
plain_tail n t = subst (λ z. Good (Rest AfterFunction Fn n) z) (sym (t.is End)) (shifted refl (t.good (alone n) refl End (ended Fn n)))

pub bound_read : {s : Settings} (c : Parameters) (n : Ident) {ts : List Token} (d : Derives core s (bound_name_form c n) ts) (rest : ParseTree) → derived_parse d rest ≡ Read (tokens.name (name_value (spelled_name (string_bytes n.sym)))) rest
unfolding bound_name_form derived_parse
bound_read c n (provided h d) rest = name_read c n d rest

pub bound_free : {s : Settings} (c : Parameters) (n : Ident) {ts : List Token} (d : Derives core s (bound_name_form c n) ts) → class (tokens.name (name_value (spelled_name (string_bytes n.sym)))) ≡ NameToken
unfolding bound_name_form
bound_free c n (provided h d) = name_free c n d

optional_tail : {s : Settings} (n : Nonterminal) (c : Parameters) (o : Option Ident) {ts : List Token} (d : Derives core s (optional_name_form c o) ts) {f : ParseTree → ParseTree} → Tail f → Good (Rest AfterFunction Fn n) (derived_parse d (f End))
unfolding optional_name_form derived_parse read_phrase
optional_tail n c None (fixed g) t = plain_tail n t
optional_tail n c (Some x) d {f = f} t = subst (λ z. Good (Rest AfterFunction Fn n) z) (sym (bound_read c x d (f End))) (named_tail n _ (bound_free c x d) t)

-- what is read behind `function`
pub record FunctionRead (n : Nonterminal) (m : ParseTree) : Type 0 where
  pub is_async : Bool
  pub rest : ParseTree
  pub is : m ≡ behind_async is_async (Read (word (codes "function")) rest)
  pub good : Good (Rest AfterFunction Fn n) rest

parts_read : {s : Settings} (at place : Nonterminal) (c named : Parameters) (n : FnExpr AnyNode) {ts us vs : List Token} (h : Derives core s (Part place c FunctionHead n.function.node.value) ts) (i : Derives core s (optional_name_form named n.ident) us)
    (t : Derives core s (Part nt.FunctionTail c Function n.function.node.value) vs) → AllGood t → s.minify ≡ c.minify → FunctionRead at (derived_parse h (derived_parse i (derived_parse t End)))
parts_read at place c named n h i t q m =
    let r = head_good place c n.function.node.value h in
    record {
      is_async = r.is_async;
      rest = _;
      is = r.is (derived_parse i (derived_parse t End));
      good = star_then r.starred at (optional_tail at named n.ident i (tail_good c n.function.node.value t q m));
    }

expression_by : (b : Bool) {m : ParseTree} → Good (Rest AfterFunction Fn nt.PrimaryExpression) m → Good (Whole Fn nt.PrimaryExpression) (behind_async b (Read (word (codes "function")) m))
unfolding word same_line
expression_by true g = begun (word (codes "async")) Fn nt.PrimaryExpression AfterAsync _ refl refl refl (shifted refl (shifted refl g))
expression_by false g = begun (word (codes "function")) Fn nt.PrimaryExpression AfterFunction _ refl refl refl g

pub fn_expr_good : {s : Settings} (c : Parameters) (n : FnExpr AnyNode) {ts : List Token} (d : Derives core s (fn_expr_form c n) ts) → AllGood d → s.minify ≡ c.minify → Good (Whole Fn nt.PrimaryExpression) (derived_parse d End)
unfolding fn_expr_form AllGood derived_parse
fn_expr_good c n (both h (both i t)) (o, (p, q)) m =
    let r = parts_read nt.PrimaryExpression _ c (of_function_name c) n h i t q m in subst (λ z. Good (Whole Fn nt.PrimaryExpression) z) (sym r.is) (expression_by r.is_async r.good)

pub fn_default_read : {s : Settings} (at : Nonterminal) (c : Parameters) (n : FnExpr AnyNode) {ts : List Token} (d : Derives core s (fn_default_form c n) ts) → AllGood d → s.minify ≡ c.minify → FunctionRead at (derived_parse d End)
unfolding fn_default_form AllGood derived_parse
fn_default_read at c n (both h (both i t)) (o, (p, q)) m = let r = parts_read at _ c c n h i t q m in record { is_async = r.is_async; rest = r.rest; is = r.is; good = r.good }

pub no_declare : {s : Settings} (b : Bool) {ts : List Token} (d : Derives core s (Provided ByScope (not b) (Fixed (declare_word b))) ts) (rest : ParseTree) → derived_parse d rest ≡ rest
unfolding declare_word word_if is_met derived_parse read_phrase
no_declare true (provided h d) rest = absurd (true≢false (sym h))
no_declare false (provided h (fixed g)) rest = refl

pub fn_decl_read : {s : Settings} (at : Nonterminal) (head : Nonterminal) (c : Parameters) (n : FnDecl AnyNode) {ts : List Token} (d : Derives core s (fn_decl_form head c n) ts) → AllGood d → s.minify ≡ c.minify → FunctionRead at (derived_parse d End)
unfolding fn_decl_form AllGood derived_parse
fn_decl_read at head c n (both k (both h (both i t))) (x, (o, (p, q))) m =
    let r = head_good head c n.function.node.value h in
    record {
      is_async = r.is_async;
      rest = _;
      is = no_declare n.declare k _ ∙ r.is (derived_parse i (derived_parse t End));
      good = star_then r.starred at (subst (λ z. Good (Rest AfterFunction Fn at) z) (sym (bound_read c n.ident i (derived_parse t End))) (named_tail at _ (bound_free c n.ident i) (tail_good c n.function.node.value t q m)));
    }

item_by : (b : Follower) (k : Bool) {m : ParseTree} → Good (Rest AfterFunction Fn (item_of b)) m → Good (Whole Fn (item_of b)) (behind_async k (Read (word (codes "function")) m))
item_by b true g = async_item b g
item_by b false g = function_item b g

pub fn_decl_good : {s : Settings} (b : Follower) (head : Nonterminal) (c : Parameters) (n : FnDecl AnyNode) {ts : List Token} (d : Derives core s (fn_decl_form head c n) ts) → AllGood d → s.minify ≡ c.minify → Good (Whole Fn (item_of b)) (derived_parse d End)
fn_decl_good b head c n d o m = let r = fn_decl_read (item_of b) head c n d o m in subst (λ z. Good (Whole Fn (item_of b)) z) (sym r.is) (item_by b r.is_async r.good)
