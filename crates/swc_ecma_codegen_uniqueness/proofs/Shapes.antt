-- The shapes of nodes, each read by the machine as it is.
use Rattle.std.proofs.Common.{◌≡◌, Bool, true, false, ◌∷◌, Some, None, refl, sym, ap, ◌∙◌, subst}
use Rattle.std.specs.Prelude.{codes}
use Rattle.std.proofs.lemmas.Bool.{true≢false, or_left}
use Rattle.swc_ecma_codegen_grammar.specs.Tokens.{Token, word, punctuator, same_line}
use Rattle.swc_ecma_codegen_syntax.specs.declared.nonterminals.Nonterminal.{Nonterminal}
use Rattle.swc_ecma_codegen_syntax.specs.declared.nonterminals.Nonterminal.TheVariants as nt
use Rattle.swc_ecma_codegen_syntax.specs.Nonterminals.{takes, is_optional, is_private, is_assignment, is_conditional, is_short_circuit, is_logical_or, is_logical_and, is_bitwise_or, is_bitwise_xor, is_bitwise_and, is_equality, is_relational, is_shift, is_additive, is_multiplicative, is_exponentiation, is_unary, is_update, is_left_hand_side, is_new, is_member}
use Rattle.swc_ecma_codegen_syntax.specs.UnitProductions.{here, step, expression_is_assignment_expression, new_expression_is_member_expression, chain_base_is_member_expression}
use Rattle.swc_ecma_codegen_syntax.proofs.Taken.{chain_takes}
use Rattle.swc_ecma_codegen_uniqueness.specs.ParseTrees.{Variant, ParseTree, End, Read, Optional, Node, tokens_of, Array, Object, Update, Bin, Assign, Member, SuperProp, Cond, Call, New, Seq, Tpl, TaggedTpl, Arrow, Yield, MetaProp, Paren, OptChain}
use Rattle.swc_ecma_codegen_uniqueness.proofs.Classes.{OpenParen, Level, Class, Infix, Assigns, Ask, Comma, Dot, ChainDot, OpenBracket, Line, Twice, First, Later, class, NameToken, LiteralToken, Over, FunctionWord, Slashed, Assigning, Jsx, Semi, Semicolon, KeyToken, Strange}
use Rattle.swc_ecma_codegen_uniqueness.proofs.Controls.{starts, is_item, is_listed, ArrowBody, left, left_of, right_of, made, Tail, OfInfix, OfCond, OfAssign, OfYield, whole, last as last_of, tail_variant, Control, Closed, Open, InParen, Index, Arguments, Elements, NextElement, Properties, NextProperty, AfterKey, InKey, InValue, Middle, Substitution, Dotted, Chained, AfterNew, AfterImport, AfterSuper, AfterYield, Postfix, Listed, AfterAsync, AsyncLine, waits, AtKey, AfterAccessor, InAccessorKey, AsyncOperand}
use Rattle.swc_ecma_codegen_uniqueness.proofs.Moves.{shift, shifted_to, passed_to, start, started, template, wrapped_to, chained}
use Rattle.swc_ecma_codegen_uniqueness.proofs.Tables.{Enter, decide, Shift, Turn, without, with_operand, Push, is_tag, later_by}
use Rattle.swc_ecma_codegen_uniqueness.proofs.PlaceLaws.{begins_none}
use Rattle.swc_ecma_codegen_uniqueness.proofs.TableLaws.{ended_by, ending, takes_on, is_sequence, assignment_single, taken_there, arrow_wraps, is_place, pushes, is_infix, made_by, Wraps, infix_wraps, Linked, linked_closes, links, link_wraps, Calling, calling_linked, call_wraps, tail_ends, new_ends, yield_ends, yield_alone, listed_ends, member_plain, call_plain, callee_plain}
use Rattle.swc_ecma_codegen_uniqueness.proofs.Machine.{Whole, Rest, Good, headed, wrapped, shifted, inner, closed, last, wrapped_turned, inner_turned, shifted_turned, entering, entering_there, turned_tokens, Heads, raised, turned, opened, spine_free, low_free}

-- ---- parts

abbrev pub is_chain : Variant → Bool
is_chain OptChain = true
is_chain variant = false

abbrev pub is_several : Variant → Bool
is_several Seq = true
is_several variant = false

-- a node that stands where a nonterminal does
pub record Operand (place : Nonterminal) (variant : Variant) (inside : ParseTree) : Type 0 where
  pub of : Nonterminal
  pub taken : takes place of ≡ true
  pub own : is_place of ≡ false
  pub chain : is_chain variant ≡ is_optional of
  pub several : is_several variant ≡ is_sequence of
  pub good : Good (Whole variant of) inside

pub takes_self : (n : Nonterminal) → takes n n ≡ true
takes_self n = chain_takes n n here

pub assignment_taken : takes nt.Expression nt.AssignmentExpression ≡ true
assignment_taken = chain_takes nt.Expression nt.AssignmentExpression (step expression_is_assignment_expression here)

-- it stands where another does that derives that
pub widened : {place wide : Nonterminal} {s : Variant} {p : ParseTree} → takes wide place ≡ true → Operand place s p → Operand wide s p
widened {place = place} {wide = wide} h o = record { of = o.of; taken = takes_on wide place o.of h o.taken; own = o.own; chain = o.chain; several = o.several; good = o.good }

-- what comes behind a part: a token that ends it and is taken; this token may be left open, as the next one tells
abbrev pub After : Control → Nonterminal → Variant → Nonterminal → ParseTree → Type 0
After c place variant n (Read t m) = (takes (left (class t)) place ≡ true) × ((s : Variant) → decide c (Some s) t ≡ Shift) × Good (Rest (passed_to c (class t)) variant n) m
After c place variant n (Optional t (Read u m)) =
    (takes (left (class t)) place ≡ true) × ((s : Variant) → decide c (Some s) t ≡ Shift) × (decide (passed_to c (class t)) None u ≡ Turn)
    × ((s : Variant) (p : ParseTree) → Node s p (Optional t (Read u m)) ≡ turned s p t (Read u m)) × Good (Rest (shift (passed_to c (class t)) None u) variant n) m
After c place variant n m = ⊥

pub part_then : (c : Control) {place n : Nonterminal} {variant s : Variant} {p : ParseTree} (rest : ParseTree) → takes (waits c) place ≡ true → Operand place s p → After c place variant n rest →
    Good (Rest c variant n) (Node s p rest)
part_then c {place = place} {s = s} (Read t m) w o a =
    inner (or_left _ _ (takes_on (waits c) place o.of w o.taken)) o.good (ended_by (class t) o.of (takes_on (left (class t)) place o.of a.0 o.taken)) (a.1 s) a.2
part_then c {place = place} {s = s} {p = p} (Optional t (Read u m)) w o a =
    inner_turned t u (or_left _ _ (takes_on (waits c) place o.of w o.taken)) o.good (ended_by (class t) o.of (takes_on (left (class t)) place o.of a.0 o.taken)) (a.1 s) a.2 a.4 (a.3 s p)
part_then c m w o a = absurd a

pub ended : (variant : Variant) (n : Nonterminal) → Good (Rest (Closed variant) variant n) End
ended variant n = closed refl (λ t h. refl)

pub tail_rest : (t : Tail) {s : Variant} {p : ParseTree} → Operand (last_of t) s p → Good (Rest (Open t) (tail_variant t) (whole t)) (Node s p End)
tail_rest t {s = s} o = last refl (or_left _ _ o.taken) o.good (tail_ends t o.of s o.taken)

no_item : (n : Nonterminal) → is_listed n ≡ false → is_item n ≡ false
no_item nt.ClassElement h = refl
no_item nt.JSXElement h = refl
no_item n h = h

pub raised_to : (n k : Nonterminal) {variant : Variant} {p : ParseTree} → takes n k ≡ true → is_private n ≡ false → is_listed n ≡ false → Good (Whole variant k) p → Good (Whole variant n) p
raised_to n k h q i g =
    raised (λ c s. or_left _ _ (takes_on (waits c) n k (taken_there (waits c) n _ _ q (no_item n i) s) h)) (λ t e. ended_by (class t) k (takes_on (left (class t)) n k (ending (class t) n i e) h)) g

-- ---- nodes that begin with a token

pub begun : (t : Token) (variant : Variant) (n : Nonterminal) (c : Control) (m : ParseTree) → starts (class t) ≡ true → is_place n ≡ false → start t ≡ c → Good (Rest c variant n) m → Good (Whole variant n) (Read t m)
begun t variant n c m s p e g = headed (pushes t n s p) (subst (λ z. Good (Rest z variant n) m) (sym e) g)

-- one token
pub atom : (t : Token) (variant : Variant) (n : Nonterminal) → starts (class t) ≡ true → is_place n ≡ false → start t ≡ Closed variant → Good (Whole variant n) (Read t End)
atom t variant n s p e = begun t variant n (Closed variant) End s p e (ended variant n)

pub prefixed : (t : Token) (tail : Tail) {s : Variant} {p : ParseTree} → starts (class t) ≡ true → is_place (whole tail) ≡ false → start t ≡ Open tail → Operand (last_of tail) s p →
    Good (Whole (tail_variant tail) (whole tail)) (Read t (Node s p End))
prefixed t tail {s = s} {p = p} b q e o = begun t (tail_variant tail) (whole tail) (Open tail) (Node s p End) b q e (tail_rest tail o)

pub parenthesized : (n : Nonterminal) → is_place n ≡ false → {s : Variant} {p : ParseTree} → Operand nt.Expression s p → Good (Whole Paren n) (Read (punctuator (codes "(")) (Node s p (Read (punctuator (codes ")")) End)))
unfolding punctuator
parenthesized n h o =
    begun (punctuator (codes "(")) Paren n InParen _ refl h refl
    (part_then InParen (Read (punctuator (codes ")")) End) (takes_self nt.Expression) o (takes_self nt.Expression, λ z. refl, ended Paren n))

-- ---- nodes that begin with an operand

pub behind : (t : Token) (l : Class) (variant : Variant) (c : Control) {s : Variant} {p : ParseTree} (m : ParseTree) → class t ≡ l → is_infix l ≡ true → wrapped_to s l ≡ c → Operand (left l) s p →
    Good (Rest c variant (made_by l)) m → Good (Whole variant (made_by l)) (Node s p (Read t m))
behind t l variant c {s = s} {p = p} m e i w o g =
    let k : takes (left (class t)) o.of ≡ true = subst (λ z. takes (left z) o.of ≡ true) (sym e) o.taken in
    wrapped o.good (ended_by (class t) o.of k) (subst (λ z. Wraps t (made_by z) o.of s) e (infix_wraps t o.of s (ap is_infix e ∙ i) k o.own))
    (subst (λ z. Good (Rest (wrapped_to s z) variant (made_by l)) m) (sym e) (subst (λ z. Good (Rest z variant (made_by l)) m) (sym w) g))

pub binary : (t : Token) (level : Level) {s z : Variant} {p q : ParseTree} → class t ≡ Infix level → Operand (left_of level) s p → Operand (right_of level) z q →
    Good (Whole Bin (made level)) (Node s p (Read t (Node z q End)))
binary t level {z = z} {q = q} e o r = behind t (Infix level) Bin (Open (OfInfix level)) (Node z q End) e refl refl o (tail_rest (OfInfix level) r)

pub assigned : (t : Token) (sign : Assigning) {s z : Variant} {p q : ParseTree} → class t ≡ Assigns sign → Operand nt.LeftHandSideExpression s p → Operand nt.AssignmentExpression z q →
    Good (Whole Assign nt.AssignmentExpression) (Node s p (Read t (Node z q End)))
assigned t sign {z = z} {q = q} e o r = behind t (Assigns sign) Assign (Open OfAssign) (Node z q End) e refl refl o (tail_rest OfAssign r)

pub conditional : {s z w : Variant} {p q r : ParseTree} → Operand nt.ShortCircuitExpression s p → Operand nt.AssignmentExpression z q → Operand nt.AssignmentExpression w r →
    Good (Whole Cond nt.ConditionalExpression) (Node s p (Read (punctuator (codes "?")) (Node z q (Read (punctuator (codes ":")) (Node w r End)))))
unfolding punctuator
conditional {z = z} {w = w} {q = q} {r = r} a b d =
    behind (punctuator (codes "?")) Ask Cond Middle (Node z q (Read (punctuator (codes ":")) (Node w r End))) refl refl refl a
    (part_then Middle (Read (punctuator (codes ":")) (Node w r End)) (takes_self nt.AssignmentExpression) b (assignment_taken, λ y. refl, tail_rest OfCond d))

pub stepped : (t : Token) {s : Variant} {p : ParseTree} → class t ≡ Twice → Operand nt.LeftHandSideExpression s p →
    Good (Whole Update nt.UpdateExpression) (Node s p (Read same_line (Read t End)))
unfolding same_line
stepped t {s = s} {p = p} e o =
    behind same_line Line Update Postfix (Read t End) refl refl refl o
    (shifted (ap (without Postfix) e) (subst (λ l. Good (Rest (shifted_to Postfix l) Update nt.UpdateExpression) End) (sym e) (ended Update nt.UpdateExpression)))

-- ---- links

pub chained_not : (s variant : Variant) → is_chain s ≡ false → chained s variant ≡ variant
chained_not OptChain variant h = absurd (true≢false h)
chained_not s variant h = refl

pub chained_so : (s variant : Variant) → is_chain s ≡ true → chained s variant ≡ OptChain
chained_so OptChain variant h = refl
chained_so s variant h = absurd (true≢false (sym h))

pub plain_member : {s : Variant} {p : ParseTree} → Operand nt.MemberExpression s p → is_chain s ≡ false
plain_member o = o.chain ∙ member_plain o.of o.taken

pub plain_call : {s : Variant} {p : ParseTree} → Operand nt.CallExpression s p → is_chain s ≡ false
plain_call o = o.chain ∙ call_plain o.of o.taken

pub plain_callee : {s : Variant} {p : ParseTree} → Operand nt.CallOrMember s p → is_chain s ≡ false
plain_callee o = o.chain ∙ callee_plain o.of o.taken o.own

pub of_a_chain : {s : Variant} {p : ParseTree} → Operand nt.OptionalExpression s p → is_chain s ≡ true
unfolding takes
of_a_chain o = o.chain ∙ o.taken

abbrev dot : Token
dot = punctuator (codes ".")

abbrev chain_dot : Token
chain_dot = punctuator (codes "?.")

abbrev open_bracket : Token
open_bracket = punctuator (codes "[")

abbrev close_bracket : Token
close_bracket = punctuator (codes "]")

abbrev open_parenthesis : Token
open_parenthesis = punctuator (codes "(")

abbrev close_parenthesis : Token
close_parenthesis = punctuator (codes ")")

abbrev comma : Token
comma = punctuator (codes ",")

abbrev pub IsName : Token → Type 0
IsName t = ((s : Variant) → decide (Dotted s) None t ≡ Shift) × (decide Chained None t ≡ Shift) × (shift Chained None t ≡ Closed OptChain)

-- a name behind `.`, reserved or not
abbrev pub is_any_name : Class → Bool
is_any_name NameToken = true
is_any_name KeyToken = true
is_any_name l = false

pub name_by : (t : Token) (l : Class) → class t ≡ l → is_any_name l ≡ true → IsName t
name_by t NameToken e h = (λ s. ap (without (Dotted s)) e, ap (without Chained) e, ap (shifted_to Chained) e)
name_by t KeyToken e h = (λ s. ap (without (Dotted s)) e, ap (without Chained) e, ap (shifted_to Chained) e)
name_by t l e h = absurd (true≢false (sym h))

pub linked : (t : Token) (l : Class) (variant : Variant) (c : Control) {n place : Nonterminal} {s : Variant} {p : ParseTree} (m : ParseTree) → Linked n place → class t ≡ l → links l ≡ true → left l ≡ nt.ChainBase →
    wrapped_to s l ≡ c → Operand place s p → Good (Rest c variant n) m → Good (Whole variant n) (Node s p (Read t m))
linked t l variant c {n = n} {s = s} m a e i b w o g =
    wrapped o.good (ended_by (class t) o.of (subst (λ z. takes z o.of ≡ true) (sym (ap left e ∙ b)) (linked_closes a o.of o.taken o.own)))
    (link_wraps t o.of s a (ap links e ∙ i) o.taken o.own)
    (subst (λ z. Good (Rest (wrapped_to s z) variant n) m) (sym e) (subst (λ z. Good (Rest z variant n) m) (sym w) g))

-- `.a`, and `[a]`
pub named : (t : Token) (variant : Variant) (n : Nonterminal) → IsName t → Good (Rest (Dotted variant) variant n) (Read t End)
named t variant n i = shifted (i.0 variant) (ended variant n)

pub indexed : (variant : Variant) (n : Nonterminal) {s : Variant} {p : ParseTree} → Operand nt.Expression s p → Good (Rest (Index variant) variant n) (Node s p (Read close_bracket End))
unfolding punctuator
indexed variant n o = part_then (Index variant) (Read close_bracket End) (takes_self nt.Expression) o (takes_self nt.Expression, λ z. refl, ended variant n)

pub member_named : (t : Token) (variant : Variant) {n place : Nonterminal} {s : Variant} {p : ParseTree} → Linked n place → IsName t → chained s Member ≡ variant → Operand place s p →
    Good (Whole variant n) (Node s p (Read dot (Read t End)))
unfolding punctuator
member_named t variant {n = n} a i w o = linked dot Dot variant (Dotted variant) (Read t End) a refl refl refl (ap Dotted w) o (named t variant n i)

pub member_indexed : (variant : Variant) {n place : Nonterminal} {s z : Variant} {p q : ParseTree} → Linked n place → chained s Member ≡ variant → Operand place s p → Operand nt.Expression z q →
    Good (Whole variant n) (Node s p (Read open_bracket (Node z q (Read close_bracket End))))
unfolding punctuator
member_indexed variant {n = n} {z = z} {q = q} a w o r =
    linked open_bracket OpenBracket variant (Index variant) (Node z q (Read close_bracket End)) a refl refl refl (ap Index w) o (indexed variant n r)

-- behind `?.`
pub chain_named : (t : Token) {n place : Nonterminal} {s : Variant} {p : ParseTree} → Linked n place → IsName t → Operand place s p → Good (Whole OptChain n) (Node s p (Read chain_dot (Read t End)))
unfolding punctuator
chain_named t {n = n} a i o =
    linked chain_dot ChainDot OptChain Chained (Read t End) a refl refl refl refl o
    (shifted i.1 (subst (λ z. Good (Rest z OptChain n) End) (sym i.2) (ended OptChain n)))

pub chain_indexed : {n place : Nonterminal} {s z : Variant} {p q : ParseTree} → Linked n place → Operand place s p → Operand nt.Expression z q →
    Good (Whole OptChain n) (Node s p (Read chain_dot (Read open_bracket (Node z q (Read close_bracket End)))))
unfolding punctuator
chain_indexed {n = n} {z = z} {q = q} a o r =
    linked chain_dot ChainDot OptChain Chained (Read open_bracket (Node z q (Read close_bracket End))) a refl refl refl refl o (shifted refl (indexed OptChain n r))

pub chain_called : {n place : Nonterminal} {s : Variant} {p m : ParseTree} → Linked n place → Operand place s p → Good (Rest (Arguments OptChain) OptChain n) m →
    Good (Whole OptChain n) (Node s p (Read chain_dot (Read open_parenthesis m)))
unfolding punctuator
chain_called {m = m} a o g = linked chain_dot ChainDot OptChain Chained (Read open_parenthesis m) a refl refl refl refl o (shifted refl g)

pub called : (variant : Variant) {n place : Nonterminal} {s : Variant} {p m : ParseTree} → Calling n place → chained s Call ≡ variant → Operand place s p → Good (Rest (Arguments variant) variant n) m →
    Good (Whole variant n) (Node s p (Read open_parenthesis m))
unfolding punctuator
called variant {n = n} {s = s} {m = m} a w o g =
    wrapped o.good (ended_by OpenParen o.of (linked_closes (calling_linked a) o.of o.taken o.own)) (call_wraps open_parenthesis o.of s a refl o.taken o.own)
    (subst (λ z. Good (Rest (Arguments z) variant n) m) (sym w) g)

-- ---- arguments and elements

-- a part in a list, behind `...` or not
pub dots_then : (c : Control) (variant : Variant) (n : Nonterminal) {m : ParseTree} → decide c None (punctuator (codes "...")) ≡ Shift → shift c None (punctuator (codes "...")) ≡ c → Good (Rest c variant n) m →
    Good (Rest c variant n) (Read (punctuator (codes "...")) m)
dots_then c variant n {m = m} e q g = shifted e (subst (λ z. Good (Rest z variant n) m) (sym q) g)

pub arguments_closed : (k variant : Variant) (n : Nonterminal) → k ≡ variant → After (Arguments k) nt.AssignmentExpression variant n (Read close_parenthesis End)
unfolding punctuator
arguments_closed k variant n e = (assignment_taken, λ z. refl, subst (λ z. Good (Rest (Closed z) variant n) End) (sym e) (ended variant n))

pub argument_next : (variant : Variant) (n : Nonterminal) {m : ParseTree} → Good (Rest (Arguments variant) variant n) m → After (Arguments variant) nt.AssignmentExpression variant n (Read comma m)
unfolding punctuator
argument_next variant n g = (takes_self nt.AssignmentExpression, λ z. refl, g)

pub no_arguments : (variant : Variant) (n : Nonterminal) → Good (Rest (Arguments variant) variant n) (Read close_parenthesis End)
unfolding punctuator
no_arguments variant n = shifted refl (ended variant n)

-- among elements, behind `a,` or not
abbrev pub at_element : Bool → Control
at_element true = NextElement
at_element false = Elements

abbrev pub InElements : Bool → ParseTree → Type 0
InElements b m = Good (Rest (at_element b) Array nt.PrimaryExpression) m

-- what comes behind an element, and behind a hole
abbrev pub BehindElement : ParseTree → Type 0
BehindElement m = (b : Bool) → After (at_element b) nt.AssignmentExpression Array nt.PrimaryExpression m

abbrev pub BehindHole : ParseTree → Type 0
BehindHole m = (b : Bool) → InElements b m

pub element_then : (b : Bool) {s : Variant} {p rest : ParseTree} → Operand nt.AssignmentExpression s p → BehindElement rest → InElements b (Node s p rest)
element_then true {rest = rest} o after = part_then NextElement rest (takes_self nt.AssignmentExpression) o (after true)
element_then false {rest = rest} o after = part_then Elements rest (takes_self nt.AssignmentExpression) o (after false)

pub spread_element : (b : Bool) {m : ParseTree} → BehindHole m → InElements b (Read (punctuator (codes "...")) m)
unfolding punctuator
spread_element true h = shifted refl (h true)
spread_element false h = shifted refl (h false)

pub elements_closed : BehindElement (Read close_bracket End)
unfolding punctuator
elements_closed true = (assignment_taken, λ z. refl, ended Array nt.PrimaryExpression)
elements_closed false = (assignment_taken, λ z. refl, ended Array nt.PrimaryExpression)

pub elements_comma_closed : BehindElement (Optional comma (Read close_bracket End))
unfolding punctuator
elements_comma_closed true = (takes_self nt.AssignmentExpression, λ z. refl, refl, λ z q. refl, ended Array nt.PrimaryExpression)
elements_comma_closed false = (takes_self nt.AssignmentExpression, λ z. refl, refl, λ z q. refl, ended Array nt.PrimaryExpression)

pub element_next : {m : ParseTree} → InElements true m → BehindElement (Read comma m)
unfolding punctuator
element_next g true = (takes_self nt.AssignmentExpression, λ z. refl, g)
element_next g false = (takes_self nt.AssignmentExpression, λ z. refl, g)

pub hole_then : {m : ParseTree} → InElements false m → BehindHole (Read comma m)
unfolding punctuator
hole_then g true = shifted refl g
hole_then g false = shifted refl g

pub no_elements : InElements false (Read close_bracket End)
unfolding punctuator
no_elements = shifted refl (ended Array nt.PrimaryExpression)

pub array : {m : ParseTree} → InElements false m → Good (Whole Array nt.PrimaryExpression) (Read open_bracket m)
unfolding punctuator
array {m = m} g = begun open_bracket Array nt.PrimaryExpression Elements m refl refl refl g

-- ---- objects

abbrev pub InObject : Control → ParseTree → Type 0
InObject c m = Good (Rest c Object nt.PrimaryExpression) m

-- before a property, behind a comma or not
abbrev pub at_property : Bool → Control
at_property true = NextProperty
at_property false = Properties

abbrev pub InProperties : Bool → ParseTree → Type 0
InProperties b m = InObject (at_property b) m

-- what comes behind a property, whether it ends with its key or with its value
abbrev pub OnProperty : ParseTree → Type 0
OnProperty m = InObject AfterKey m × After InValue nt.AssignmentExpression Object nt.PrimaryExpression m

pub properties_closed : OnProperty (Read (punctuator (codes "}")) End)
unfolding punctuator
properties_closed = (shifted refl (ended Object nt.PrimaryExpression), (assignment_taken, λ z. refl, ended Object nt.PrimaryExpression))

pub properties_comma_closed : OnProperty (Optional comma (Read (punctuator (codes "}")) End))
unfolding punctuator
properties_comma_closed =
    (shifted_turned refl refl (ended Object nt.PrimaryExpression), (takes_self nt.AssignmentExpression, λ z. refl, refl, λ z q. refl, ended Object nt.PrimaryExpression))

pub property_next : {m : ParseTree} → InProperties true m → OnProperty (Read comma m)
unfolding punctuator
property_next g = (shifted refl g, (takes_self nt.AssignmentExpression, λ z. refl, g))

pub no_properties : InProperties false (Read (punctuator (codes "}")) End)
unfolding punctuator
no_properties = shifted refl (ended Object nt.PrimaryExpression)

pub object : {m : ParseTree} → InProperties false m → Good (Whole Object nt.PrimaryExpression) (Read (punctuator (codes "{")) m)
unfolding punctuator
object {m = m} g = begun (punctuator (codes "{")) Object nt.PrimaryExpression Properties m refl refl refl g

-- where a key stands, and what stands behind it
pub data KeyPlace : Control → Control → Type 0 where
  a_property : KeyPlace Properties AfterKey
  next_property : KeyPlace NextProperty AfterKey
  a_member : KeyPlace AtKey AfterKey
  an_accessor : KeyPlace AfterKey AfterAccessor

pub property_place : (b : Bool) → KeyPlace (at_property b) AfterKey
property_place true = next_property
property_place false = a_property

-- a key that is one token
abbrev pub is_key : Class → Bool
is_key NameToken = true
is_key KeyToken = true
is_key LiteralToken = true
is_key l = false

-- what a key begins, and what stands behind it
pub record Keyed (Before Behind : ParseTree → Type 0) : Type 0 where
  pub token : (t : Token) (m : ParseTree) → is_key (class t) ≡ true → Behind m → Before (Read t m)
  pub computed : (s : Variant) (p m : ParseTree) → Operand nt.AssignmentExpression s p → Behind m → Before (Read open_bracket (Node s p (Read close_bracket m)))

key_shifts : {at after : Control} → KeyPlace at after → (l : Class) → is_key l ≡ true → (without at l ≡ Shift) × (shifted_to at l ≡ after)
key_shifts a_property NameToken h = (refl, refl)
key_shifts a_property KeyToken h = (refl, refl)
key_shifts a_property LiteralToken h = (refl, refl)
key_shifts next_property NameToken h = (refl, refl)
key_shifts next_property KeyToken h = (refl, refl)
key_shifts next_property LiteralToken h = (refl, refl)
key_shifts a_member NameToken h = (refl, refl)
key_shifts a_member KeyToken h = (refl, refl)
key_shifts a_member LiteralToken h = (refl, refl)
key_shifts an_accessor NameToken h = (refl, refl)
key_shifts an_accessor KeyToken h = (refl, refl)
key_shifts an_accessor LiteralToken h = (refl, refl)
key_shifts k l h = absurd (true≢false (sym h))

key_then : {at after : Control} (k : KeyPlace at after) (t : Token) {m : ParseTree} → is_key (class t) ≡ true → InObject after m → InObject at (Read t m)
key_then k t {m = m} i g = let e = key_shifts k (class t) i in shifted e.0 (subst (λ z. InObject z m) (sym e.1) g)

computed_then : {at after : Control} (k : KeyPlace at after) {s : Variant} {p m : ParseTree} → Operand nt.AssignmentExpression s p → InObject after m → InObject at (Read open_bracket (Node s p (Read close_bracket m)))
unfolding punctuator
computed_then a_property {m = m} o g = shifted refl (part_then InKey (Read close_bracket m) (takes_self nt.AssignmentExpression) o (assignment_taken, λ z. refl, g))
computed_then next_property {m = m} o g = shifted refl (part_then InKey (Read close_bracket m) (takes_self nt.AssignmentExpression) o (assignment_taken, λ z. refl, g))
computed_then a_member {m = m} o g = shifted refl (part_then InKey (Read close_bracket m) (takes_self nt.AssignmentExpression) o (assignment_taken, λ z. refl, g))
computed_then an_accessor {m = m} o g = shifted refl (part_then InAccessorKey (Read close_bracket m) (takes_self nt.AssignmentExpression) o (assignment_taken, λ z. refl, g))

pub object_key : {at after : Control} → KeyPlace at after → Keyed (InObject at) (InObject after)
object_key k = record { token = λ t m i g. key_then k t i g; computed = λ s p m o g. computed_then k o g }

pub value_then : {s : Variant} {p rest : ParseTree} → Operand nt.AssignmentExpression s p → OnProperty rest → InObject AfterKey (Read (punctuator (codes ":")) (Node s p rest))
unfolding punctuator
value_then {rest = rest} o on = shifted refl (part_then InValue rest (takes_self nt.AssignmentExpression) o on.1)

-- `= b` of `{ a = b }`, which stands for a pattern's
pub initializer_then : {s : Variant} {p rest : ParseTree} → Operand nt.AssignmentExpression s p → OnProperty rest → InObject AfterKey (Read (punctuator (codes "=")) (Node s p rest))
unfolding punctuator
initializer_then {rest = rest} o on = shifted refl (part_then InValue rest (takes_self nt.AssignmentExpression) o on.1)

pub spread_property : (b : Bool) {s : Variant} {p rest : ParseTree} → Operand nt.AssignmentExpression s p → OnProperty rest → InProperties b (Read (punctuator (codes "...")) (Node s p rest))
unfolding punctuator
spread_property true {rest = rest} o on = shifted refl (part_then InValue rest (takes_self nt.AssignmentExpression) o on.1)
spread_property false {rest = rest} o on = shifted refl (part_then InValue rest (takes_self nt.AssignmentExpression) o on.1)

-- ---- `new`, `super`, `import`

pub new_alone : {s : Variant} {p : ParseTree} → Operand nt.NewExpression s p → Good (Whole New nt.NewExpression) (Read (word (codes "new")) (Node s p End))
unfolding word
new_alone {s = s} {p = p} o = begun (word (codes "new")) New nt.NewExpression AfterNew (Node s p End) refl refl refl (last refl (or_left _ _ o.taken) o.good (new_ends o.of s o.taken))

pub new_with : {s : Variant} {p m : ParseTree} → Operand nt.MemberExpression s p → Good (Rest (Arguments New) New nt.MemberExpression) m →
    Good (Whole New nt.MemberExpression) (Read (word (codes "new")) (Node s p (Read open_parenthesis m)))
unfolding word punctuator
new_with {s = s} {p = p} {m = m} o g =
    begun (word (codes "new")) New nt.MemberExpression AfterNew (Node s p (Read open_parenthesis m)) refl refl refl
    (part_then AfterNew (Read open_parenthesis m) (chain_takes nt.NewExpression nt.MemberExpression (step new_expression_is_member_expression here)) o
    (chain_takes nt.ChainBase nt.MemberExpression (step chain_base_is_member_expression here), λ z. refl, g))

pub new_target : Good (Whole MetaProp nt.MemberExpression) (Read (word (codes "new")) (Read dot (Read (word (codes "target")) End)))
unfolding word punctuator
new_target = begun (word (codes "new")) MetaProp nt.MemberExpression AfterNew _ refl refl refl (shifted refl (shifted refl (ended MetaProp nt.MemberExpression)))

pub import_meta : Good (Whole MetaProp nt.MemberExpression) (Read (word (codes "import")) (Read dot (Read (word (codes "meta")) End)))
unfolding word punctuator
import_meta = begun (word (codes "import")) MetaProp nt.MemberExpression AfterImport _ refl refl refl (shifted refl (shifted refl (ended MetaProp nt.MemberExpression)))

pub import_called : {m : ParseTree} → Good (Rest (Arguments Call) Call nt.CallExpression) m → Good (Whole Call nt.CallExpression) (Read (word (codes "import")) (Read open_parenthesis m))
unfolding word punctuator
import_called g = begun (word (codes "import")) Call nt.CallExpression AfterImport _ refl refl refl (shifted refl g)

pub super_called : {m : ParseTree} → Good (Rest (Arguments Call) Call nt.CallExpression) m → Good (Whole Call nt.CallExpression) (Read (word (codes "super")) (Read open_parenthesis m))
unfolding word punctuator
super_called g = begun (word (codes "super")) Call nt.CallExpression AfterSuper _ refl refl refl (shifted refl g)

pub super_named : (t : Token) (n : Nonterminal) → is_place n ≡ false → IsName t → Good (Whole SuperProp n) (Read (word (codes "super")) (Read dot (Read t End)))
unfolding word punctuator
super_named t n h i = begun (word (codes "super")) SuperProp n AfterSuper _ refl h refl (shifted refl (named t SuperProp n i))

pub super_indexed : (n : Nonterminal) {s : Variant} {p : ParseTree} → is_place n ≡ false → Operand nt.Expression s p →
    Good (Whole SuperProp n) (Read (word (codes "super")) (Read open_bracket (Node s p (Read close_bracket End))))
unfolding word punctuator
super_indexed n h o = begun (word (codes "super")) SuperProp n AfterSuper _ refl h refl (shifted refl (indexed SuperProp n o))

-- ---- `yield`

pub yield_bare : Good (Whole Yield nt.AssignmentExpression) (Read (word (codes "yield")) End)
unfolding word
yield_bare = begun (word (codes "yield")) Yield nt.AssignmentExpression AfterYield End refl refl refl (closed refl yield_alone)

pub yield_part : {s : Variant} {p : ParseTree} → Operand nt.AssignmentExpression s p → Good (Whole Yield nt.AssignmentExpression) (Read (word (codes "yield")) (Read same_line (Node s p End)))
unfolding word same_line
yield_part {s = s} o =
    begun (word (codes "yield")) Yield nt.AssignmentExpression AfterYield _ refl refl refl
    (shifted refl (last refl (or_left _ _ o.taken) o.good (yield_ends o.of s o.taken)))

pub yield_star : {s : Variant} {p : ParseTree} → Operand nt.AssignmentExpression s p →
    Good (Whole Yield nt.AssignmentExpression) (Read (word (codes "yield")) (Read same_line (Read (punctuator (codes "*")) (Node s p End))))
unfolding word punctuator same_line
yield_star o = begun (word (codes "yield")) Yield nt.AssignmentExpression AfterYield _ refl refl refl (shifted refl (shifted refl (tail_rest OfYield o)))

-- ---- sequences

pub listed_first : {s : Variant} {p m : ParseTree} → Operand nt.AssignmentExpression s p → Good (Rest Listed Seq nt.Expression) m → Good (Whole Seq nt.Expression) (Node s p (Read comma m))
unfolding punctuator
listed_first {m = m} o g = behind comma Comma Seq Listed m refl refl refl o g

pub listed_next : {s : Variant} {p m : ParseTree} → Operand nt.AssignmentExpression s p → Good (Rest Listed Seq nt.Expression) m → Good (Rest Listed Seq nt.Expression) (Node s p (Read comma m))
unfolding punctuator
listed_next {m = m} o g = part_then Listed (Read comma m) (takes_self nt.AssignmentExpression) o (takes_self nt.AssignmentExpression, λ z. refl, g)

pub listed_last : {s : Variant} {p : ParseTree} → Operand nt.AssignmentExpression s p → Good (Rest Listed Seq nt.Expression) (Node s p End)
listed_last {s = s} o = last refl (or_left _ _ o.taken) o.good (listed_ends o.of s o.taken)

-- a rest stands among parameters
pub listed_rest : {s : Variant} {p : ParseTree} → Operand nt.AssignmentExpression s p → Good (Rest Listed Seq nt.Expression) (Read (punctuator (codes "...")) (Node s p End))
unfolding punctuator
listed_rest o = shifted refl (listed_last o)

-- ---- arrow functions

pub left_taken : takes nt.LeftHandSideExpression nt.PrimaryExpression ≡ true
unfolding takes is_left_hand_side is_new is_member
left_taken = refl

pub left_shared : is_private nt.LeftHandSideExpression ≡ false
unfolding is_private
left_shared = refl

pub left_assigned : takes nt.AssignmentExpression nt.LeftHandSideExpression ≡ true
unfolding takes is_assignment is_conditional is_short_circuit is_logical_or is_logical_and is_bitwise_or is_bitwise_xor is_bitwise_and is_equality is_relational is_shift is_additive is_multiplicative is_exponentiation is_unary is_update is_left_hand_side
left_assigned = refl

pub shift_left : takes nt.ShiftExpression nt.LeftHandSideExpression ≡ true
unfolding takes is_shift is_additive is_multiplicative is_exponentiation is_unary is_update is_left_hand_side
shift_left = refl

pub operand_free : {s : Variant} {p : ParseTree} → Operand nt.LeftHandSideExpression s p → spine_free p ≡ true
operand_free o = low_free o.good (or_left _ _ (takes_on nt.ShiftExpression nt.LeftHandSideExpression o.of shift_left o.taken))

-- parameters, by what covers them: in parentheses none, several, a rest, one; or a name alone
pub no_parameters : Operand nt.PrimaryExpression Paren (Read open_parenthesis (Read close_parenthesis End))
unfolding is_optional punctuator
no_parameters = record {
  of = nt.PrimaryExpression;
  taken = takes_self nt.PrimaryExpression;
  own = refl;
  chain = refl;
  several = refl;
  good = begun open_parenthesis Paren nt.PrimaryExpression InParen (Read close_parenthesis End) refl refl refl (shifted refl (ended Paren nt.PrimaryExpression));
}

pub several_parameters : {p : ParseTree} → Good (Whole Seq nt.Expression) p → Operand nt.PrimaryExpression Paren (Read open_parenthesis (Node Seq p (Read close_parenthesis End)))
unfolding is_optional
several_parameters g = record {
  of = nt.PrimaryExpression;
  taken = takes_self nt.PrimaryExpression;
  own = refl;
  chain = refl;
  several = refl;
  good = parenthesized nt.PrimaryExpression refl (record { of = nt.Expression; taken = takes_self nt.Expression; own = refl; chain = refl; several = refl; good = g });
}

pub one_parameter : {s : Variant} {p : ParseTree} → Operand nt.AssignmentExpression s p → Operand nt.PrimaryExpression Paren (Read open_parenthesis (Node s p (Read close_parenthesis End)))
unfolding is_optional
one_parameter o = record {
  of = nt.PrimaryExpression;
  taken = takes_self nt.PrimaryExpression;
  own = refl;
  chain = refl;
  several = refl;
  good = parenthesized nt.PrimaryExpression refl (widened assignment_taken o);
}

pub rest_parameter : {s : Variant} {p : ParseTree} → Operand nt.AssignmentExpression s p →
    Operand nt.PrimaryExpression Paren (Read open_parenthesis (Read (punctuator (codes "...")) (Node s p (Read close_parenthesis End))))
unfolding is_optional punctuator
rest_parameter o = record {
  of = nt.PrimaryExpression;
  taken = takes_self nt.PrimaryExpression;
  own = refl;
  chain = refl;
  several = refl;
  good =
      begun open_parenthesis Paren nt.PrimaryExpression InParen _ refl refl refl
      (shifted refl (part_then InParen (Read close_parenthesis End) (takes_self nt.Expression) (widened assignment_taken o) (takes_self nt.Expression, λ z. refl, ended Paren nt.PrimaryExpression)));
}

-- what covers one parameter is told from what covers several
single : {s : Variant} {p : ParseTree} → Operand nt.AssignmentExpression s p → is_several s ≡ false
single o = o.several ∙ assignment_single o.of o.taken

opened_one : (o c : Token) (s : Variant) (p rest : ParseTree) → is_several s ≡ false → Optional o (Node s p (Optional c rest)) ≡ opened o (Node s p (Read c End)) rest
opened_one o c Seq p rest h = absurd (true≢false h)
opened_one o c s p rest h = refl

pub one_turned : {s : Variant} {p : ParseTree} (rest : ParseTree) → Operand nt.AssignmentExpression s p →
    Optional open_parenthesis (Node s p (Optional close_parenthesis (Read same_line rest))) ≡ turned Paren (Read open_parenthesis (Node s p (Read close_parenthesis End))) same_line rest
unfolding same_line
one_turned {s = s} {p = p} rest o = opened_one open_parenthesis close_parenthesis s p (Read same_line rest) (single o)

abbrev pub arrow_mark : Token
arrow_mark = punctuator (codes "=>")

pub arrow : {s : Variant} {p m q : ParseTree} → Operand nt.LeftHandSideExpression s p → Good (Rest ArrowBody Arrow nt.AssignmentExpression) m → q ≡ turned s p same_line (Read arrow_mark m) →
    Good (Whole Arrow nt.AssignmentExpression) q
unfolding same_line punctuator
arrow {s = s} o g e = wrapped_turned same_line arrow_mark o.good (ended_by Line o.of o.taken) (arrow_wraps same_line o.of s refl o.taken o.own) refl g e

async_value : (l : Class) → begins_none l ≡ false → (without AsyncLine l ≡ Enter) × (without AsyncOperand l ≡ Push)
async_value FunctionWord h = absurd (true≢false h)
async_value (Infix Over) h = absurd (true≢false h)
async_value (Assigns Slashed) h = absurd (true≢false h)
async_value (First true opens) h = absurd (true≢false h)
async_value (Later tagged opens) h = absurd (true≢false h)
async_value Line h = absurd (true≢false h)
async_value Semi h = absurd (true≢false h)
async_value Semicolon h = absurd (true≢false h)
async_value KeyToken h = absurd (true≢false h)
async_value Strange h = absurd (true≢false h)
async_value (Jsx part) h = absurd (true≢false h)
async_value l h = (refl, refl)

pub async_arrow : {s : Variant} {p m q : ParseTree} → Operand nt.LeftHandSideExpression s p → Heads (λ u. begins_none (class u) ≡ false) p → Good (Rest ArrowBody Arrow nt.AssignmentExpression) m → q ≡ turned s p same_line (Read arrow_mark m) →
    Good (Whole Arrow nt.AssignmentExpression) (Read (word (codes "async")) (Read same_line q))
unfolding same_line punctuator word tokens_of
async_arrow {s = s} {p = p} {m = m} {q = q} o h g e =
    begun (word (codes "async")) Arrow nt.AssignmentExpression AfterAsync (Read same_line q) refl refl refl
    (shifted refl (entering
    (λ b i t us w.
    let k = h (same_line ∷ arrow_mark ∷ tokens_of m (t ∷ us)) in
    entering_there (record { control = AsyncLine; so_far = b; other = i }) w (tokens_of q (t ∷ us)) k.0 k.1 (turned_tokens s p same_line arrow_mark m q (t ∷ us) e ∙ k.2) (async_value (class k.0) k.3))
    (inner_turned same_line arrow_mark (or_left _ _ o.taken) o.good (ended_by Line o.of o.taken) refl refl g e)))

-- ---- templates

abbrev After_class : Control → Class → Nonterminal → Variant → Nonterminal → ParseTree → Type 0
After_class c l place variant n m = (takes (left l) place ≡ true) × ((s : Variant) → with_operand c l ≡ Shift) × Good (Rest (passed_to c l) variant n) m

goes_by : (b tagged : Bool) → b ≡ tagged → later_by b tagged ≡ Shift
goes_by true true e = refl
goes_by false false e = refl
goes_by true false e = absurd (true≢false e)
goes_by false true e = absurd (true≢false (sym e))

later : (tagged opens : Bool) {variant : Variant} {n : Nonterminal} {m : ParseTree} → is_tag variant ≡ tagged → Good (Rest (template variant opens) variant n) m → After_class (Substitution variant) (Later tagged opens) nt.Expression variant n m
later tagged true {variant = variant} e g = (takes_self nt.Expression, λ s. goes_by (is_tag variant) tagged e, g)
later tagged false {variant = variant} e g = (takes_self nt.Expression, λ s. goes_by (is_tag variant) tagged e, g)

pub template_next : (variant : Variant) (n : Nonterminal) (t : Token) (tagged opens : Bool) {s : Variant} {p m : ParseTree} → is_tag variant ≡ tagged → class t ≡ Later tagged opens → Operand nt.Expression s p → Good (Rest (template variant opens) variant n) m →
    Good (Rest (Substitution variant) variant n) (Node s p (Read t m))
template_next variant n t tagged opens {m = m} y e o g =
    part_then (Substitution variant) (Read t m) (takes_self nt.Expression) o
    (subst (λ l. After_class (Substitution variant) l nt.Expression variant n m) (sym e) (later tagged opens y g))

pub untagged : (t : Token) (opens : Bool) {m : ParseTree} → class t ≡ First false opens → Good (Rest (template Tpl opens) Tpl nt.PrimaryExpression) m → Good (Whole Tpl nt.PrimaryExpression) (Read t m)
untagged t opens {m = m} e g = begun t Tpl nt.PrimaryExpression (template Tpl opens) m (ap starts e) refl (ap started e) g

pub tagged : (t : Token) (opens : Bool) {n place : Nonterminal} {s : Variant} {p m : ParseTree} → Linked n place → class t ≡ First true opens → Operand place s p →
    Good (Rest (template TaggedTpl opens) TaggedTpl n) m → Good (Whole TaggedTpl n) (Node s p (Read t m))
tagged t opens {m = m} a e o g = linked t (First true opens) TaggedTpl (template TaggedTpl opens) m a e refl refl refl o g
