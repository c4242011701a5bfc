-- Arguments, elements, members, calls, `new`, optional chains and templates are read as they are.
use Rattle.std.proofs.Common.{◌≡◌, ℕ, Bool, true, false, not, List, [], ◌∷◌, Option, Some, None, refl, sym, ◌∙◌, subst}
use Rattle.std.specs.Prelude.{codes, if◌then◌else◌}
use Rattle.std.specs.declared.vec.Vec.{Vec}
use Rattle.std.proofs.lemmas.Bool.{true≢false}
use Rattle.swc_ecma_codegen_common.specs.declared.positions.Span.{Span}
use Rattle.swc_ecma_codegen_tree.specs.Links.{TsTypeParamInstantiationBox}
use Rattle.swc_ecma_codegen_tree.specs.declared.links.AnyNode.{AnyNode}
use Rattle.swc_ecma_codegen_tree.specs.declared.exprs.ArrayLit.{ArrayLit}
use Rattle.swc_ecma_codegen_tree.specs.declared.exprs.ExprOrSpread.{ExprOrSpread}
use Rattle.swc_ecma_codegen_tree.specs.declared.exprs.CallExpr.{CallExpr}
use Rattle.swc_ecma_codegen_tree.specs.declared.exprs.Callee.{Callee as Called}
use Rattle.swc_ecma_codegen_tree.specs.declared.exprs.Callee.TheVariants as callees
use Rattle.swc_ecma_codegen_tree.specs.declared.exprs.NewExpr.{NewExpr}
use Rattle.swc_ecma_codegen_tree.specs.declared.exprs.MemberProp.{MemberProp}
use Rattle.swc_ecma_codegen_tree.specs.declared.exprs.MemberProp.TheVariants as member_props
use Rattle.swc_ecma_codegen_tree.specs.declared.modules.ImportPhase.{ImportPhase}
use Rattle.swc_ecma_codegen_tree.specs.declared.modules.ImportPhase.TheVariants as phases
use Rattle.swc_ecma_codegen_grammar.specs.Phrases.{Generates, chosen}
use Rattle.swc_ecma_codegen_grammar.specs.Phrases as phrases
use Rattle.swc_ecma_codegen_grammar.specs.CallPhrases.{spread_mark, import_callee, import_phase}
use Rattle.swc_ecma_codegen_grammar.specs.ElementPhrases.{last_is_hole}
use Rattle.swc_ecma_codegen_grammar.specs.NamePhrases.{ident_name, private_name}
use Rattle.swc_ecma_codegen_grammar.specs.Settings.{Settings}
use Rattle.swc_ecma_codegen_grammar.specs.Tokens.{Token, word, punctuator}
use Rattle.swc_ecma_codegen_grammar.specs.Tokens as tokens
use Rattle.swc_ecma_codegen_syntax.specs.declared.nonterminals.Nonterminal.{Nonterminal}
use Rattle.swc_ecma_codegen_syntax.specs.declared.nonterminals.Nonterminal.TheVariants as nt
use Rattle.swc_ecma_codegen_syntax.specs.declared.parameters.Parameters.{Parameters}
use Rattle.swc_ecma_codegen_syntax.specs.Parameters.{with_in, to_end}
use Rattle.swc_ecma_codegen_syntax.specs.Forms.{is_met, each_after, listed, element}
use Rattle.swc_ecma_codegen_syntax.specs.MemberForms.{type_args_form, computed_form, prop_form}
use Rattle.swc_ecma_codegen_syntax.specs.CallForms.{argument_form, elements_form, array_form, arguments_form, callee_form, call_form, is_evaluation, drops_arguments, has_arguments, new_nonterminal, new_parameters, listed_form, new_arguments_form, new_form}
use Rattle.swc_ecma_codegen_syntax.specs.Derives.{Derives, fixed, part, both, provided}
use Rattle.swc_ecma_codegen_syntax.specs.Verdicts.{core}
use Rattle.swc_ecma_codegen_uniqueness.specs.ParseTrees.{Variant, ParseTree, End, Read, Node, Array, Member, Call, New}
use Rattle.swc_ecma_codegen_uniqueness.specs.Parses.{placed, is_inlined, read_all}
use Rattle.swc_ecma_codegen_uniqueness.proofs.Controls.{Control, Arguments}
use Rattle.swc_ecma_codegen_uniqueness.proofs.Moves.{shift, chained}
use Rattle.swc_ecma_codegen_uniqueness.proofs.Tables.{Shift, decide}
use Rattle.swc_ecma_codegen_uniqueness.proofs.TableLaws.{Linked, Calling, calls, cover}
use Rattle.swc_ecma_codegen_uniqueness.proofs.Machine.{Whole, Rest, Good}
use Rattle.swc_ecma_codegen_uniqueness.proofs.Shapes.{Operand, After, part_then, takes_self, IsName, dots_then, arguments_closed, argument_next, no_arguments, InElements, BehindElement, BehindHole, element_then, spread_element, elements_closed, element_next, hole_then, no_elements, array, member_named, member_indexed, called, chained_not, plain_callee, import_called, super_called, new_alone, new_with, name_by, is_any_name}
use Rattle.swc_ecma_codegen_uniqueness.proofs.Reading.{read_phrase, derived_parse}
use Rattle.swc_ecma_codegen_uniqueness.proofs.Fits.{at_place, PlacedGood, AllGood, moved}
use Rattle.swc_ecma_codegen_uniqueness.proofs.Looks.{of_name}
use Rattle.swc_ecma_codegen_uniqueness.proofs.Classes.{class}

-- ---- types have no production

pub no_types : {s : Settings} (c : Parameters) (o : Option (TsTypeParamInstantiationBox AnyNode)) {ts : List Token} (d : Derives core s (type_args_form c o) ts) (rest : ParseTree) → derived_parse d rest ≡ rest
unfolding type_args_form is_met derived_parse read_phrase
no_types c None (fixed g) rest = refl
no_types c (Some n) (provided h d) rest = absurd (true≢false (sym h))

-- ---- arguments

spread_then : (s : Settings) (k : Control) (variant : Variant) (n : Nonterminal) (o : Option Span) (ts : List Token) (g : Generates s (spread_mark o) ts) {m : ParseTree} →
    decide k None (punctuator (codes "...")) ≡ Shift → shift k None (punctuator (codes "...")) ≡ k → Good (Rest k variant n) m → Good (Rest k variant n) (read_phrase s (spread_mark o) ts g m)
unfolding spread_mark read_phrase
spread_then s k variant n None ts g e q h = h
spread_then s k variant n (Some span) ts g e q h = dots_then k variant n e q h

argument_then : {s : Settings} (variant : Variant) (n : Nonterminal) (c : Parameters) (x : ExprOrSpread AnyNode) {ts : List Token} (d : Derives core s (argument_form c x) ts) → AllGood d → s.minify ≡ c.minify →
    (rest : ParseTree) → After (Arguments variant) nt.AssignmentExpression variant n rest → Good (Rest (Arguments variant) variant n) (derived_parse d rest)
unfolding argument_form AllGood PlacedGood derived_parse placed is_inlined punctuator
argument_then variant n c x (both (fixed g) (part a sa d)) (y, o) m rest after =
    spread_then _ (Arguments variant) variant n x.spread _ g refl refl (part_then (Arguments variant) rest (takes_self nt.AssignmentExpression) (at_place _ _ sa (o m)) after)

arguments_after : {s : Settings} (variant : Variant) (n : Nonterminal) (c : Parameters) (xs : List (ExprOrSpread AnyNode)) {ts : List Token} (d : Derives core s (each_after (codes ",") (argument_form c) xs) ts) → AllGood d →
    s.minify ≡ c.minify → (rest : ParseTree) → After (Arguments variant) nt.AssignmentExpression variant n rest → After (Arguments variant) nt.AssignmentExpression variant n (derived_parse d rest)
unfolding each_after AllGood derived_parse read_phrase
arguments_after variant n c [] (fixed g) o m rest after = after
arguments_after variant n c (x ∷ xs) (both (fixed g) (both d e)) (y, (o, q)) m rest after =
    argument_next variant n (argument_then variant n c x d o m (derived_parse e rest) (arguments_after variant n c xs e q m rest after))

arguments_listed : {s : Settings} (variant : Variant) (n : Nonterminal) (c : Parameters) (xs : List (ExprOrSpread AnyNode)) {ts : List Token} (d : Derives core s (listed (codes ",") (argument_form c) xs) ts) → AllGood d →
    s.minify ≡ c.minify → Good (Rest (Arguments variant) variant n) (derived_parse d (Read (punctuator (codes ")")) End))
unfolding listed AllGood derived_parse read_phrase
arguments_listed variant n c [] (fixed g) o m = no_arguments variant n
arguments_listed variant n c (x ∷ xs) (both d e) (o, q) m =
    argument_then variant n c x d o m (derived_parse e (Read (punctuator (codes ")")) End)) (arguments_after variant n c xs e q m (Read (punctuator (codes ")")) End) (arguments_closed variant variant n refl))

-- a node that goes on with arguments, behind `(`
pub record Argued (variant : Variant) (n : Nonterminal) (m : ParseTree) : Type 0 where
  pub inside : ParseTree
  pub is : m ≡ Read (punctuator (codes "(")) inside
  pub good : Good (Rest (Arguments variant) variant n) inside

pub argued_as : {variant : Variant} {n : Nonterminal} {r m : ParseTree} → r ≡ m → Argued variant n m → Argued variant n r
argued_as e a = record { inside = a.inside; is = e ∙ a.is; good = a.good }

pub arguments_good : {s : Settings} (variant : Variant) (n : Nonterminal) (c : Parameters) (xs : List (ExprOrSpread AnyNode)) {ts : List Token} (d : Derives core s (arguments_form c xs) ts) → AllGood d → s.minify ≡ c.minify →
    Argued variant n (derived_parse d End)
unfolding arguments_form AllGood derived_parse read_phrase
arguments_good variant n c xs (both (fixed g) (both d (fixed h))) (x, (o, y)) m =
    record { inside = derived_parse d (Read (punctuator (codes ")")) End); is = refl; good = arguments_listed variant n c xs d o m }

-- ---- elements of arrays

-- what comes behind the last one, which is a hole or not
abbrev pub BehindLast : Bool → ParseTree → Type 0
BehindLast true m = BehindHole m
BehindLast false m = BehindElement m

spread_or_not : (s : Settings) (b : Bool) (o : Option Span) (ts : List Token) (g : Generates s (spread_mark o) ts) {m : ParseTree} → BehindHole m → InElements b (read_phrase s (spread_mark o) ts g m)
unfolding spread_mark read_phrase
spread_or_not s b None ts g h = h b
spread_or_not s b (Some span) ts g h = spread_element b h

element_good : {s : Settings} (b : Bool) (c : Parameters) (x : ExprOrSpread AnyNode) {ts : List Token} (d : Derives core s (element (argument_form c) (Some x)) ts) → AllGood d → s.minify ≡ c.minify → (rest : ParseTree) → BehindElement rest →
    InElements b (derived_parse d rest)
unfolding element argument_form AllGood PlacedGood derived_parse placed is_inlined
element_good b c x (both (fixed g) (part a sa d)) (y, o) m rest behind = spread_or_not _ b x.spread _ g (λ k. element_then k (at_place _ _ sa (o m)) behind)

-- what comes behind a comma
abbrev pub behind_comma : {m : ParseTree} → BehindHole m → BehindElement (Read (punctuator (codes ",")) m) × BehindHole (Read (punctuator (codes ",")) m)
behind_comma h = (element_next (h true), hole_then (h false))

elements_from : {s : Settings} (c : Parameters) (x : Option (ExprOrSpread AnyNode)) (xs : List (Option (ExprOrSpread AnyNode))) {ts us : List Token} (d : Derives core s (element (argument_form c) x) ts)
    (e : Derives core s (each_after (codes ",") (element (argument_form c)) xs) us) → AllGood d → AllGood e → s.minify ≡ c.minify → (rest : ParseTree) → BehindLast (last_is_hole (x ∷ xs)) rest → BehindHole (derived_parse d (derived_parse e rest))
unfolding each_after element last_is_hole AllGood derived_parse read_phrase
elements_from c None [] (fixed g) (fixed h) o q m rest behind b = behind b
elements_from c (Some x) [] d (fixed h) o q m rest behind b = element_good b c x d o m rest behind
elements_from c None (y ∷ ys) (fixed g) (both (fixed h) (both d e)) o (z, (p, q)) m rest behind b = (behind_comma (elements_from c y ys d e p q m rest behind)).1 b
elements_from c (Some x) (y ∷ ys) d (both (fixed h) (both k e)) o (z, (p, q)) m rest behind b =
    element_good b c x d o m _ (behind_comma (elements_from c y ys k e p q m rest behind)).0

-- what comes behind all of them, of which there may be none
abbrev pub BehindAll : {A : Type 0} → List (Option A) → ParseTree → Type 0
BehindAll [] m = InElements false m
BehindAll (x ∷ xs) m = BehindLast (last_is_hole (x ∷ xs)) m

elements_listed : {s : Settings} (c : Parameters) (xs : List (Option (ExprOrSpread AnyNode))) {ts : List Token} (d : Derives core s (listed (codes ",") (element (argument_form c)) xs) ts) → AllGood d → s.minify ≡ c.minify →
    (rest : ParseTree) → BehindAll xs rest → InElements false (derived_parse d rest)
unfolding listed AllGood derived_parse read_phrase
elements_listed c [] (fixed g) o m rest behind = behind
elements_listed c (x ∷ xs) (both d e) (o, q) m rest behind = elements_from c x xs d e o q m rest behind false

-- `,]` behind a hole, and `]`
pub hole_closed : {A : Type 0} (xs : List (Option A)) → last_is_hole xs ≡ true → BehindAll xs (Read (punctuator (codes ",")) (Read (punctuator (codes "]")) End))
unfolding last_is_hole punctuator
hole_closed [] h = absurd (true≢false (sym h))
hole_closed (x ∷ xs) h = subst (λ z. BehindLast z (Read (punctuator (codes ",")) (Read (punctuator (codes "]")) End))) (sym h) (hole_then no_elements)

pub element_closed : {A : Type 0} (xs : List (Option A)) → last_is_hole xs ≡ false → BehindAll xs (Read (punctuator (codes "]")) End)
unfolding punctuator
element_closed [] h = no_elements
element_closed (x ∷ xs) h = subst (λ z. BehindLast z (Read (punctuator (codes "]")) End)) (sym h) elements_closed

elements_good : {s : Settings} (c : Parameters) (hole : Bool) (xs : List (Option (ExprOrSpread AnyNode))) {ts : List Token} → last_is_hole xs ≡ hole → (d : Derives core s (elements_form c hole xs) ts) → AllGood d → s.minify ≡ c.minify →
    InElements false (derived_parse d (Read (punctuator (codes "]")) End))
unfolding elements_form AllGood derived_parse read_phrase
elements_good c true xs h (both d (fixed g)) (o, x) m = elements_listed c xs d o m (Read (punctuator (codes ",")) (Read (punctuator (codes "]")) End)) (hole_closed xs h)
elements_good c false xs h d o m = elements_listed c xs d o m (Read (punctuator (codes "]")) End) (element_closed xs h)

pub array_good : {s : Settings} (c : Parameters) (n : ArrayLit AnyNode) {ts : List Token} (d : Derives core s (array_form c n) ts) → AllGood d → s.minify ≡ c.minify → Good (Whole Array nt.PrimaryExpression) (derived_parse d End)
unfolding array_form AllGood derived_parse read_phrase
array_good c n (both (fixed g) (both d (fixed h))) (x, (o, y)) m = array (elements_good c (last_is_hole n.elems.items) n.elems.items refl d o m)

-- ---- members

pub name_is_name : (at : List ℕ) → IsName (tokens.name at)
name_is_name at = name_by (tokens.name at) (class (tokens.name at)) refl (of_name is_any_name at refl refl)

pub private_is_name : (at : List ℕ) → IsName (tokens.private_name at)
unfolding tokens.private_name
private_is_name at = (λ s. refl, refl, refl)

pub prop_good : {s : Settings} (variant : Variant) {n place : Nonterminal} {z : Variant} {p : ParseTree} (c : Parameters) (prop : MemberProp AnyNode) {ts : List Token} (d : Derives core s (prop_form c prop) ts) → AllGood d → s.minify ≡ c.minify →
    Linked n place → chained z Member ≡ variant → Operand place z p → Good (Whole variant n) (Node z p (derived_parse d End))
unfolding prop_form computed_form ident_name private_name AllGood PlacedGood derived_parse read_phrase placed is_inlined
prop_good variant c (member_props.Ident n) (fixed g) o m a w x = member_named _ variant a (name_is_name _) w x
prop_good variant c (member_props.PrivateName n) (fixed g) o m a w x = member_named _ variant a (private_is_name _) w x
prop_good variant c (member_props.Computed n) (both (fixed g) (both (part b sb d) (fixed h))) (y, (o, v)) m a w x = member_indexed variant a w x (at_place _ _ sb (o m))

-- ---- calls

pub argued_call : {variant z : Variant} {n place : Nonterminal} {p m : ParseTree} → Calling n place → chained z Call ≡ variant → Operand place z p → Argued variant n m → Good (Whole variant n) (Node z p m)
argued_call {variant = variant} {z = z} {n = n} {p = p} a w o g = subst (λ r. Good (Whole variant n) (Node z p r)) (sym g.is) (called variant a w o g.good)

import_read : (s : Settings) (phase : ImportPhase) (ts : List Token) (g : Generates s (import_phase phase) ts) (m : ParseTree) → is_evaluation phase ≡ true → read_phrase s (import_phase phase) ts g m ≡ m
unfolding import_phase is_evaluation read_phrase
import_read s phases.Evaluation ts g m h = refl
import_read s phase ts g m h = absurd (true≢false (sym h))

callee_good : {s : Settings} (c : Parameters) (callee : Called AnyNode) (xs : List (ExprOrSpread AnyNode)) {ts : List Token} (d : Derives core s (callee_form c callee xs) ts) → AllGood d → s.minify ≡ c.minify →
    (m : ParseTree) → Argued Call nt.CallExpression m → Good (Whole Call nt.CallExpression) (derived_parse d m)
unfolding callee_form import_callee is_met AllGood PlacedGood derived_parse read_phrase placed is_inlined Generates
callee_good c (callees.Super n) xs (fixed g) o m r a = subst (λ z. Good (Whole Call nt.CallExpression) (Read (word (codes "super")) z)) (sym a.is) (super_called a.good)
callee_good c (callees.Import n) xs (provided h (provided k (fixed g))) o m r a =
    subst (λ z. Good (Whole Call nt.CallExpression) (Read (word (codes "import")) z)) (sym (import_read _ n.phase _ g.3 r k ∙ a.is)) (import_called a.good)
callee_good c (callees.Expr n) xs (part b sb d) o m r a =
    let x = at_place _ _ sb (o m) in argued_call calls (chained_not _ Call (plain_callee x)) x a

pub call_good : {s : Settings} (c : Parameters) (n : CallExpr AnyNode) {ts : List Token} (d : Derives core s (call_form c n) ts) → AllGood d → s.minify ≡ c.minify → Good (Whole Call nt.CallExpression) (derived_parse d End)
unfolding call_form AllGood derived_parse
call_good c n (both d (both t e)) (o, (x, q)) m =
    subst (λ z. Good (Whole Call nt.CallExpression) (derived_parse d z)) (sym (no_types c n.type_args t (derived_parse e End)))
    (callee_good c n.callee n.args.items d o m (derived_parse e End) (arguments_good Call nt.CallExpression c n.args.items e q m))

-- ---- `new`

abbrev new_of : Bool → Nonterminal
new_of with_arguments = if with_arguments then nt.MemberExpression else nt.NewExpression

new_chosen : (b k : Bool) {z : Variant} {p : ParseTree} → b ≡ k → Operand (new_of (not k)) z p → Good (Whole New (new_of (not k))) (Read (word (codes "new")) (Node z p (read_all (if b then [] else phrases.in_parentheses []) End)))
unfolding read_all
new_chosen true true e o = new_alone o
new_chosen false false e o = new_with o (no_arguments New nt.MemberExpression)
new_chosen true false e o = absurd (true≢false e)
new_chosen false true e o = absurd (true≢false (sym e))

argued_new : {z : Variant} {p m : ParseTree} → Operand nt.MemberExpression z p → Argued New nt.MemberExpression m → Good (Whole New nt.MemberExpression) (Read (word (codes "new")) (Node z p m))
argued_new {z = z} {p = p} o a = subst (λ r. Good (Whole New nt.MemberExpression) (Read (word (codes "new")) (Node z p r))) (sym a.is) (new_with o a.good)

new_listed : {s : Settings} (c : Parameters) (keeps : Bool) (xs : List (ExprOrSpread AnyNode)) {z : Variant} {p : ParseTree} {ts : List Token} (d : Derives core s (listed_form c keeps xs) ts) → AllGood d → s.minify ≡ c.minify →
    Operand (new_of (not (drops_arguments c keeps xs))) z p → (r : ParseTree) → r ≡ derived_parse d End → Good (Whole New (new_of (not (drops_arguments c keeps xs)))) (Read (word (codes "new")) (Node z p r))
unfolding listed_form drops_arguments AllGood derived_parse read_phrase chosen
new_listed {s = s} c false [] {z = z} {p = p} (fixed g) o m x r e =
    subst (λ w. Good (Whole New (new_of (not c.minify))) (Read (word (codes "new")) (Node z p w))) (sym e) (new_chosen s.minify c.minify m x)
new_listed c true [] d o m x r e = argued_new x (argued_as e (arguments_good New nt.MemberExpression c [] d o m))
new_listed c false (y ∷ xs) d o m x r e = argued_new x (argued_as e (arguments_good New nt.MemberExpression c (y ∷ xs) d o m))
new_listed c true (y ∷ xs) d o m x r e = argued_new x (argued_as e (arguments_good New nt.MemberExpression c (y ∷ xs) d o m))

new_by : {s : Settings} {Z : Type 0} (c : Parameters) (keeps : Bool) (args : Option (Vec (ExprOrSpread AnyNode) Z)) {z : Variant} {p : ParseTree} {ts : List Token} (d : Derives core s (new_arguments_form c keeps args) ts) → AllGood d → s.minify ≡ c.minify →
    Operand (new_of (has_arguments c keeps args)) z p → (r : ParseTree) → r ≡ derived_parse d End → Good (Whole New (new_of (has_arguments c keeps args))) (Read (word (codes "new")) (Node z p r))
unfolding new_arguments_form has_arguments AllGood derived_parse read_phrase
new_by c keeps None {z = z} {p = p} (fixed g) o m x r e = subst (λ w. Good (Whole New nt.NewExpression) (Read (word (codes "new")) (Node z p w))) (sym e) (new_alone x)
new_by c keeps (Some xs) d o m x r e = new_listed c keeps xs.items d o m x r e

new_covered : (b : Bool) → cover (new_of b) ≡ new_of b
new_covered true = refl
new_covered false = refl

new_minify : (s : Settings) (b : Bool) (c : Parameters) → s.minify ≡ c.minify → s.minify ≡ (if b then with_in c else to_end c).minify
new_minify s true c m = m
new_minify s false c m = m

pub new_good : {s : Settings} (c : Parameters) (keeps : Bool) (n : NewExpr AnyNode) {ts : List Token} (d : Derives core s (new_form c keeps n) ts) → AllGood d → s.minify ≡ c.minify → Good (Whole New (new_nonterminal c keeps n)) (derived_parse d End)
unfolding new_form new_nonterminal new_parameters AllGood PlacedGood derived_parse read_phrase placed is_inlined
new_good {s = s} c keeps n (both (fixed g) (both (part a sa d) (both t e))) (x, (o, (y, q))) m =
    new_by c keeps n.args e q m (moved (new_covered (has_arguments c keeps n.args)) (at_place _ _ sa (o (new_minify s (has_arguments c keeps n.args) c m)))) (derived_parse t (derived_parse e End)) (no_types c n.type_args t (derived_parse e End))
