-- A machine that reads a token at a time, with a stack of what is open.
use Rattle.std.proofs.Common.{◌≡◌, Bool, true, false, ◌&&◌, not, ◌⊎◌, inl, inr, List, [], ◌∷◌, Option, Some, None, refl, sym, ap, ◌∙◌}
use Rattle.std.proofs.lemmas.Bool.{true≢false, and_parts}
use Rattle.swc_ecma_codegen_grammar.specs.Tokens.{Token}
use Rattle.swc_ecma_codegen_syntax.specs.declared.nonterminals.Nonterminal.{Nonterminal}
use Rattle.swc_ecma_codegen_uniqueness.specs.ParseTrees.{Variant, Seq, Paren, ParseTree, End, Read, Optional, Node, tokens_of}
use Rattle.swc_ecma_codegen_uniqueness.proofs.Classes.{Class, Line, Colon, Comparing, class}
use Rattle.swc_ecma_codegen_uniqueness.proofs.Controls.{InParen, Open, OfInfix, ForHead, ForPlain, is_within, Control, entered, outside, as_expression, stands, closes, variant_of}
use Rattle.swc_ecma_codegen_uniqueness.proofs.Moves.{begin, shift, start, wrap}
use Rattle.swc_ecma_codegen_uniqueness.proofs.Tables.{Action, Shift, Push, Wrap, Reduce, Turn, Begin, Enter, Leave, Splice, Take, Keep, EnterBelow, Merge, Reject, decide}
use Rattle.swc_ecma_codegen_uniqueness.proofs.TableLaws.{head_pushes, head_wraps, plain_begins, plain_leaves, turn_outside, low_wraps, low_leaves}

-- what is at hand: nothing, or a node
pub data Hand : Type 0 where
  Empty : Hand
  Full : (variant : Variant) → (inside : ParseTree) → Hand

abbrev pub held : Hand → ParseTree → ParseTree
held Empty rest = rest
held (Full s p) rest = Node s p rest

abbrev pub sign : Hand → Option Variant
sign Empty = None
sign (Full s p) = Some s

-- ---- what stands before a token was otherwise

abbrev pub joined : ParseTree → ParseTree → ParseTree
joined End rest = rest
joined (Read t p) rest = Read t (joined p rest)
joined (Optional t p) rest = Optional t (joined p rest)
joined (Node s p q) rest = Node s p (joined q rest)

-- Parameters, by what covers them: `a, b` of `(a, b) => c` are no sequence, and the parentheses of `(a) => b` are left open.
abbrev pub opened : Token → ParseTree → ParseTree → ParseTree
opened o (Read c End) rest = Read o (Read c rest)
opened o (Node Seq q (Read c End)) rest = Read o (joined q (Read c rest))
opened o (Node s q (Read c End)) rest = Optional o (Node s q (Optional c rest))
opened o (Read d (Node s q (Read c End))) rest = Optional o (Read d (Node s q (Optional c rest)))
opened o p rest = Node Paren (Read o p) rest

abbrev pub unwrapped : ParseTree → ParseTree → ParseTree
unwrapped (Read o p) rest = opened o p rest
unwrapped p rest = Node Paren p rest

abbrev pub parameters : Variant → ParseTree → ParseTree → ParseTree
parameters Paren p rest = unwrapped p rest
parameters s p rest = Node s p rest

abbrev pub turned_by : Class → Variant → ParseTree → Token → ParseTree → ParseTree
turned_by Line s p t rest = parameters s p (Read t rest)
turned_by c s p t rest = Node s p (Optional t rest)

-- what stands before a token, and this token, as the next one tells: `(a, b)` before `[no LineTerminator here]` and `=>`; else the token is left open
abbrev pub turned : Variant → ParseTree → Token → ParseTree → ParseTree
turned s p t rest = turned_by (class t) s p t rest

abbrev pub turned_hand : Hand → Token → ParseTree → ParseTree
turned_hand Empty t rest = Optional t rest
turned_hand (Full s p) t rest = turned s p t rest

pub joined_tokens : (p rest : ParseTree) (us : List Token) → tokens_of (joined p rest) us ≡ tokens_of p (tokens_of rest us)
unfolding tokens_of
joined_tokens End rest us = refl
joined_tokens (Read t p) rest us = ap (λ z. t ∷ z) (joined_tokens p rest us)
joined_tokens (Optional t p) rest us = ap (λ z. t ∷ z) (joined_tokens p rest us)
joined_tokens (Node s p q) rest us = ap (tokens_of p) (joined_tokens q rest us)

opened_tokens : (o : Token) (p rest : ParseTree) (us : List Token) → tokens_of (opened o p rest) us ≡ o ∷ tokens_of p (tokens_of rest us)
unfolding tokens_of
opened_tokens o (Read c End) rest us = refl
opened_tokens o (Node Seq q (Read c End)) rest us = ap (λ z. o ∷ z) (joined_tokens q (Read c rest) us)
opened_tokens o (Node s q (Read c End)) rest us = refl
opened_tokens o (Read d (Node s q (Read c End))) rest us = refl
opened_tokens o p rest us = refl

parameters_tokens : (s : Variant) (p rest : ParseTree) (us : List Token) → tokens_of (parameters s p rest) us ≡ tokens_of p (tokens_of rest us)
unfolding tokens_of
parameters_tokens Paren (Read o p) rest us = opened_tokens o p rest us
parameters_tokens Paren p rest us = refl
parameters_tokens s p rest us = refl

turned_by_tokens : (c : Class) (s : Variant) (p : ParseTree) (t : Token) (rest : ParseTree) (us : List Token) → tokens_of (turned_by c s p t rest) us ≡ tokens_of p (t ∷ tokens_of rest us)
unfolding tokens_of
turned_by_tokens Line s p t rest us = parameters_tokens s p (Read t rest) us
turned_by_tokens c s p t rest us = refl

-- what has no node of its own, before what comes behind it; before `:` a label hasn't
abbrev pub spliced : Hand → ParseTree → ParseTree
spliced Empty rest = rest
spliced (Full s p) rest = joined p rest

abbrev pub left_by : Class → Variant → ParseTree → ParseTree → ParseTree
left_by Colon s p rest = joined p rest
left_by c s p rest = Node s p rest

abbrev pub left_with : Variant → ParseTree → Token → ParseTree → ParseTree
left_with s p t rest = left_by (class t) s p (Read t rest)

abbrev pub left_hand : Hand → Token → ParseTree → ParseTree
left_hand Empty t rest = Read t rest
left_hand (Full s p) t rest = left_with s p t rest

left_by_tokens : (c : Class) (s : Variant) (p rest : ParseTree) (us : List Token) → tokens_of (left_by c s p rest) us ≡ tokens_of p (tokens_of rest us)
unfolding tokens_of
left_by_tokens Colon s p rest us = joined_tokens p rest us
left_by_tokens c s p rest us = refl

-- ---- states

-- a node that is begun: where it is, what it has so far, before what is to come, and what it has if the next token tells otherwise
pub record Frame : Type 0 where
  pub control : Control
  pub so_far : ParseTree → ParseTree
  pub other : ParseTree → ParseTree

pub data State : Type 0 where
  At : (stack : List Frame) → (hand : Hand) → State
  Fail : State

abbrev pub wrap_at : Hand → Token → Control
wrap_at Empty t = start t
wrap_at (Full s p) t = wrap s t

abbrev pub within : Control → Frame → Frame
within c f = record { control = c; so_far = f.so_far; other = f.other }

-- `reduced` is the state where the topmost frame ends
abbrev pub acted_once : Action → Token → Frame → List Frame → Hand → State → State
acted_once Shift t f s h reduced =
    At (record { control = shift f.control (sign h) t; so_far = λ rest. f.so_far (held h (Read t rest)); other = λ rest. f.so_far (turned_hand h t rest) } ∷ s) Empty
acted_once Push t f s h reduced = At (record { control = start t; so_far = λ rest. Read t rest; other = λ rest. Read t rest } ∷ f ∷ s) Empty
acted_once Wrap t f s h reduced = At (record { control = wrap_at h t; so_far = λ rest. held h (Read t rest); other = λ rest. turned_hand h t rest } ∷ f ∷ s) Empty
acted_once Reduce t f s h reduced = reduced
acted_once Turn t f s h reduced = At (record { control = shift f.control None t; so_far = λ rest. f.other (Read t rest); other = λ rest. f.other (Read t rest) } ∷ s) Empty
acted_once Begin t f s h reduced = At (record { control = begin f.control t; so_far = λ rest. Read t rest; other = λ rest. Read t rest } ∷ f ∷ s) Empty
acted_once Enter t f s h reduced = At (record { control = start t; so_far = λ rest. Read t rest; other = λ rest. Read t rest } ∷ within (entered f.control) f ∷ s) Empty
acted_once Leave t f s h reduced = At (record { control = wrap_at h t; so_far = λ rest. left_hand h t rest; other = λ rest. left_hand h t rest } ∷ within (outside f.control) f ∷ s) Empty
acted_once Splice t f s h reduced =
    At (record { control = shift f.control (sign h) t; so_far = λ rest. f.so_far (spliced h (Read t rest)); other = λ rest. f.so_far (spliced h (Read t rest)) } ∷ s) Empty
acted_once Take t f s h reduced = Fail
acted_once Keep t f s h reduced = Fail
acted_once EnterBelow t f s h reduced = Fail
acted_once Merge t f s h reduced = Fail
acted_once Reject t f s h reduced = Fail

-- an item is taken, and then its list goes on with the token; what was begun is of an expression, in the place below, or it is no node
abbrev pub acted : Action → Token → Frame → List Frame → Hand → State → State
acted Take t f s h reduced =
    acted_once (decide f.control None t) t (record { control = f.control; so_far = λ rest. f.so_far (spliced h rest); other = λ rest. f.so_far (spliced h rest) }) s Empty Fail
acted Keep t f s h reduced =
    acted_once (decide f.control None t) t (record { control = f.control; so_far = λ rest. f.so_far (held h rest); other = λ rest. f.so_far (held h rest) }) s Empty Fail
acted EnterBelow t f [] h reduced = Fail
acted EnterBelow t f (g ∷ s) h reduced = acted_once (decide (as_expression f.control) (sign h) t) t (within (as_expression f.control) f) (within (entered g.control) g ∷ s) h Fail
acted Merge t f [] h reduced = Fail
acted Merge t f (g ∷ s) h reduced =
    At (record { control = shift f.control None t; so_far = λ rest. g.so_far (f.so_far (Read t rest)); other = λ rest. g.so_far (f.so_far (Read t rest)) } ∷ s) Empty
acted a t f s h reduced = acted_once a t f s h reduced

abbrev pub step : Token → List Frame → Hand → State
step t [] h = Fail
step t (f ∷ s) h = acted (decide f.control (sign h) t) t f s h (step t s (Full (variant_of f.control) (f.so_far (held h End))))

abbrev pub next : Token → State → State
next t (At s h) = step t s h
next t Fail = Fail

abbrev pub run : List Token → State → State
run [] q = q
run (t ∷ ts) q = run ts (next t q)

-- ---- the head of a `for`

-- no `in` takes what stands first
abbrev pub spine_free : ParseTree → Bool
spine_free (Node s p (Read t m)) = not (is_within (class t)) && spine_free p
spine_free (Node s p (Optional t m)) = spine_free p
spine_free p = true

parameters_free : (s : Variant) (p : ParseTree) (t : Token) (rest : ParseTree) → spine_free (parameters s p (Read t rest)) ≡ true → spine_free p ≡ true
parameters_free Paren (Read o p) t rest h = refl
parameters_free Paren p t rest h = (and_parts _ _ h).1
parameters_free s p t rest h = (and_parts _ _ h).1

turned_free : (c : Class) (s : Variant) (p : ParseTree) (t : Token) (rest : ParseTree) → spine_free (turned_by c s p t rest) ≡ true → spine_free p ≡ true
turned_free Line s p t rest h = parameters_free s p t rest h
turned_free c s p t rest h = h

pub not_within : (b k : Bool) → b ≡ false → k ≡ true → (not b && k) ≡ true
not_within false true h i = refl
not_within true k h i = absurd (true≢false h)
not_within false false h i = absurd (true≢false (sym i))

opened_free : (o : Token) (p : ParseTree) (t : Token) (rest : ParseTree) → is_within (class t) ≡ false → spine_free (opened o p (Read t rest)) ≡ true
opened_free o (Read c End) t rest h = refl
opened_free o (Node Seq q (Read c End)) t rest h = refl
opened_free o (Node s q (Read c End)) t rest h = refl
opened_free o (Read d (Node s q (Read c End))) t rest h = refl
opened_free o p t rest h = not_within _ _ h refl

parameters_are_free : (s : Variant) (p : ParseTree) (t : Token) (rest : ParseTree) → is_within (class t) ≡ false → spine_free p ≡ true → spine_free (parameters s p (Read t rest)) ≡ true
parameters_are_free Paren (Read o p) t rest h i = opened_free o p t rest h
parameters_are_free Paren p t rest h i = not_within _ _ h i
parameters_are_free s p t rest h i = not_within _ _ h i

turned_are_free : (c : Class) (s : Variant) (p : ParseTree) (t : Token) (rest : ParseTree) → is_within (class t) ≡ false → spine_free p ≡ true → spine_free (turned_by c s p t rest) ≡ true
turned_are_free Line s p t rest h i = parameters_are_free s p t rest h i
turned_are_free c s p t rest h i = i

-- What stands somewhere; in the head of a `for`, what stands where `in` is an operator, and begins with none of it.
pub data HeadPlace : Control → Type 0 where
  head_place : HeadPlace ForHead

abbrev pub Stands : Control → Nonterminal → ParseTree → Type 0
Stands c n p = (stands c n ≡ true) ⊎ (HeadPlace c × (stands ForPlain n ≡ true) × (spine_free p ≡ true))

-- ---- what the machine reads as it is

-- a whole node, of a nonterminal; what is left of one that is begun
pub data Mode : Type 0 where
  Whole : (variant : Variant) → (n : Nonterminal) → Mode
  Rest : (at : Control) → (variant : Variant) → (n : Nonterminal) → Mode

-- what begins with a token of which something is said
abbrev pub Heads : (Token → Type 0) → ParseTree → Type 0
Heads P m = (us : List Token) → (u : Token) × (vs : List Token) × (tokens_of m us ≡ u ∷ vs) × P u

-- the same before a token
abbrev pub HeadsBefore : Token → (Token → Type 0) → ParseTree → Type 0
HeadsBefore t P m = (us : List Token) → (u : Token) × (vs : List Token) × (tokens_of m (t ∷ us) ≡ u ∷ vs) × P u

-- tokens of an expression are read in a place as in the one that they enter
abbrev pub Entering : Frame → List Token → Type 0
Entering f ts = (s : List Frame) → run ts (At (f ∷ s) Empty) ≡ run ts (At (within (entered f.control) f ∷ s) Empty)

abbrev pub Enters : Control → Token → Type 0
Enters c u = (decide c None u ≡ Enter) × (decide (entered c) None u ≡ Push)

-- what a list does at a token with which an item begins, or that ends it
abbrev pub goes_on : Action → Bool
goes_on Shift = true
goes_on Push = true
goes_on Begin = true
goes_on Enter = true
goes_on a = false

-- A tree that the machine reads as it is: at each of its places one thing alone is to be done.
-- `headed`: a token begins the node, wherever one of its nonterminal stands: `-` of `-a`.
-- `wrapped`: an operand and the token behind it begin it: `a` and `+` of `a + b`.
-- `shifted`: a token is taken: `b` of `a.b`.
-- `inner`: a part is read, and the token behind it is taken: `b` and `)` of `a(b)`.
-- `closed`: nothing is left, and the node ends before each token that ends it.
-- `last`: a part is left. Before each token that ends the node the part ends, and then the node: `b` of `a + b`.
-- `wrapped_turned`, `inner_turned`, `shifted_turned`: the next token tells that what was read is otherwise: `=>` of `(a, b) => c`, `]` of `[a,] = b`.
-- `headed_block`: a token begins a node of a list: `{` a block, `static` a member of a class.
-- `stated`: an expression and the token behind it begin a statement: `a` and `;`, `a` and `:`. The expression is read in the place that it enters.
-- `entering`: what is left is read as in the place that it enters: the value of an arrow function.
-- `merged_two`, `merged`: the second or the third token tells that what was begun is no node: `/` of `</a>`, `function` of `async function () {}`.
-- `splicing`, `taking`: a part has no node of its own: a parameter before `,`, an item before the next one or `}`.
-- `keeping`: a part is a node in a list, before the next one: a member of a class, an item behind `case a:`.
-- `heading`: an expression in the head of a `for` has no `in` along its left edge: `a` of `for (a in b)`.
-- `raised`: what is of one nonterminal is of another that derives it.
pub data Good : Mode → ParseTree → Type 0 where
  headed : {variant : Variant} {n : Nonterminal} {t : Token} {m : ParseTree} → ((c : Control) → stands c n ≡ true → decide c None t ≡ Push) →
      Good (Rest (start t) variant n) m → Good (Whole variant n) (Read t m)
  wrapped : {variant left : Variant} {n k : Nonterminal} {t : Token} {inside m : ParseTree} → Good (Whole left k) inside → closes t k ≡ true →
      ((c : Control) → stands c n ≡ true → (stands c k ≡ true) × (decide c (Some left) t ≡ Wrap)) →
      Good (Rest (wrap left t) variant n) m → Good (Whole variant n) (Node left inside (Read t m))
  shifted : {at : Control} {variant : Variant} {n : Nonterminal} {t : Token} {m : ParseTree} → decide at None t ≡ Shift →
      Good (Rest (shift at None t) variant n) m → Good (Rest at variant n) (Read t m)
  inner : {at : Control} {variant part : Variant} {n k : Nonterminal} {t : Token} {inside m : ParseTree} → stands at k ≡ true → Good (Whole part k) inside →
      closes t k ≡ true → decide at (Some part) t ≡ Shift → Good (Rest (shift at (Some part) t) variant n) m → Good (Rest at variant n) (Node part inside (Read t m))
  closed : {at : Control} {variant : Variant} {n : Nonterminal} → variant_of at ≡ variant → ((t : Token) → closes t n ≡ true → decide at None t ≡ Reduce) →
      Good (Rest at variant n) End
  last : {at : Control} {variant part : Variant} {n k : Nonterminal} {inside : ParseTree} → variant_of at ≡ variant → stands at k ≡ true → Good (Whole part k) inside →
      ((t : Token) → closes t n ≡ true → (closes t k ≡ true) × (decide at (Some part) t ≡ Reduce)) → Good (Rest at variant n) (Node part inside End)
  wrapped_turned : {variant left : Variant} {n k : Nonterminal} {inside m p : ParseTree} (t u : Token) → Good (Whole left k) inside → closes t k ≡ true →
      ((c : Control) → stands c n ≡ true → (stands c k ≡ true) × (decide c (Some left) t ≡ Wrap)) → decide (wrap left t) None u ≡ Turn →
      Good (Rest (shift (wrap left t) None u) variant n) m → p ≡ turned left inside t (Read u m) → Good (Whole variant n) p
  inner_turned : {at : Control} {variant part : Variant} {n k : Nonterminal} {inside m p : ParseTree} (t u : Token) → stands at k ≡ true → Good (Whole part k) inside →
      closes t k ≡ true → decide at (Some part) t ≡ Shift → decide (shift at (Some part) t) None u ≡ Turn →
      Good (Rest (shift (shift at (Some part) t) None u) variant n) m → p ≡ turned part inside t (Read u m) → Good (Rest at variant n) p
  shifted_turned : {at : Control} {variant : Variant} {n : Nonterminal} {t u : Token} {m : ParseTree} → decide at None t ≡ Shift → decide (shift at None t) None u ≡ Turn →
      Good (Rest (shift (shift at None t) None u) variant n) m → Good (Rest at variant n) (Optional t (Read u m))
  headed_block : {at : Control} {variant : Variant} {n : Nonterminal} {t : Token} {m : ParseTree} → ((c : Control) → stands c n ≡ true → (decide c None t ≡ Begin) × (begin c t ≡ at)) →
      Good (Rest at variant n) m → Good (Whole variant n) (Read t m)
  stated : {variant left : Variant} {n k : Nonterminal} {inside m p : ParseTree} (t : Token) → Good (Whole left k) inside → closes t k ≡ true →
      ((c : Control) → stands c n ≡ true → (stands (entered c) k ≡ true) × (decide (entered c) (Some left) t ≡ Leave) × (outside (entered c) ≡ c)) →
      ((f : Frame) (us : List Token) → stands f.control n ≡ true → Entering f (tokens_of inside (t ∷ us))) → HeadsBefore t (λ u. (c : Control) → stands c n ≡ true → goes_on (decide c None u) ≡ true) inside →
      Good (Rest (wrap left t) variant n) m → p ≡ left_with left inside t m → Good (Whole variant n) p
  entering : {at : Control} {variant : Variant} {n : Nonterminal} {m : ParseTree} → ((b o : ParseTree → ParseTree) (t : Token) (us : List Token) → Entering (record { control = at; so_far = b; other = o }) (tokens_of m (t ∷ us))) →
      Good (Rest (entered at) variant n) m → Good (Rest at variant n) m
  merged_two : {at begun : Control} {variant : Variant} {n : Nonterminal} {m : ParseTree} (t u : Token) → decide at None t ≡ Begin → begin at t ≡ begun → decide begun None u ≡ Merge → Good (Rest (shift begun None u) variant n) m →
      Good (Rest at variant n) (Read t (Read u m))
  merged : {at begun line : Control} {variant : Variant} {n : Nonterminal} {m : ParseTree} (t u v : Token) → decide at None t ≡ Begin → begin at t ≡ begun → decide begun None u ≡ Shift → shift begun None u ≡ line → decide line None v ≡ Merge →
      Good (Rest (shift line None v) variant n) m → Good (Rest at variant n) (Read t (Read u (Read v m)))
  splicing : {at : Control} {variant part : Variant} {n k : Nonterminal} {inside m p : ParseTree} (t : Token) → stands at k ≡ true → Good (Whole part k) inside →
      closes t k ≡ true → decide at (Some part) t ≡ Splice → Good (Rest (shift at (Some part) t) variant n) m → p ≡ joined inside (Read t m) → Good (Rest at variant n) p
  taking : {at : Control} {variant part : Variant} {n k : Nonterminal} {inside m p : ParseTree} → stands at k ≡ true → Good (Whole part k) inside →
      Heads (λ u. (closes u k ≡ true) × (decide at (Some part) u ≡ Take) × (goes_on (decide at None u) ≡ true)) m → Good (Rest at variant n) m → p ≡ joined inside m →
      Good (Rest at variant n) p
  keeping : {at : Control} {variant part : Variant} {n k : Nonterminal} {inside m : ParseTree} → stands at k ≡ true → Good (Whole part k) inside →
      Heads (λ u. (closes u k ≡ true) × (decide at (Some part) u ≡ Keep) × (goes_on (decide at None u) ≡ true)) m → Good (Rest at variant n) m →
      Good (Rest at variant n) (Node part inside m)
  heading : {variant part : Variant} {n k : Nonterminal} {t : Token} {inside m : ParseTree} → stands ForPlain k ≡ true → spine_free inside ≡ true → Good (Whole part k) inside → closes t k ≡ true → decide ForHead (Some part) t ≡ Shift →
      Good (Rest (shift ForHead (Some part) t) variant n) m → Good (Rest ForHead variant n) (Node part inside (Read t m))
  raised : {variant : Variant} {n k : Nonterminal} {p : ParseTree} → ((c : Control) → stands c n ≡ true → stands c k ≡ true) → ((t : Token) → closes t n ≡ true → closes t k ≡ true) →
      Good (Whole variant k) p → Good (Whole variant n) p

abbrev pub Claim : Mode → ParseTree → Type 0
Claim (Whole variant n) p = (f : Frame) (s : List Frame) (t : Token) (ts : List Token) → Stands f.control n p → closes t n ≡ true →
    run (tokens_of p (t ∷ ts)) (At (f ∷ s) Empty) ≡ run (t ∷ ts) (At (f ∷ s) (Full variant p))
Claim (Rest at variant n) m = (b o : ParseTree → ParseTree) (f : Frame) (s : List Frame) (t : Token) (ts : List Token) → closes t n ≡ true →
    run (tokens_of m (t ∷ ts)) (At (record { control = at; so_far = b; other = o } ∷ f ∷ s) Empty) ≡ run (t ∷ ts) (At (f ∷ s) (Full variant (b m)))

abbrev pub Went : Action → Token → Frame → List Frame → Hand → Type 0
Went a t f s h = step t (f ∷ s) h ≡ acted a t f s h (step t s (Full (variant_of f.control) (f.so_far (held h End))))

pub went : (a : Action) (t : Token) (f : Frame) (s : List Frame) (h : Hand) → decide f.control (sign h) t ≡ a → Went a t f s h
went a t f s h e = ap (λ b. acted b t f s h (step t s (Full (variant_of f.control) (f.so_far (held h End))))) e

named : (a b : Variant) (p : ParseTree) (t : Token) (ts : List Token) (f : Frame) (s : List Frame) → a ≡ b → run (t ∷ ts) (At (f ∷ s) (Full a p)) ≡ run (t ∷ ts) (At (f ∷ s) (Full b p))
named a b p t ts f s e = ap (λ x. run (t ∷ ts) (At (f ∷ s) (Full x p))) e

pub turned_tokens : (s : Variant) (p : ParseTree) (t u : Token) (m q : ParseTree) (us : List Token) → q ≡ turned s p t (Read u m) → tokens_of q us ≡ tokens_of p (t ∷ u ∷ tokens_of m us)
unfolding tokens_of
turned_tokens s p t u m q us e = ap (λ z. tokens_of z us) e ∙ turned_by_tokens (class t) s p t (Read u m) us

pub left_tokens : (s : Variant) (p : ParseTree) (t : Token) (m q : ParseTree) (us : List Token) → q ≡ left_with s p t m → tokens_of q us ≡ tokens_of p (t ∷ tokens_of m us)
unfolding tokens_of
left_tokens s p t m q us e = ap (λ z. tokens_of z us) e ∙ left_by_tokens (class t) s p (Read t m) us

joined_so : (p m q : ParseTree) (us : List Token) → q ≡ joined p m → tokens_of q us ≡ tokens_of p (tokens_of m us)
joined_so p m q us e = ap (λ z. tokens_of z us) e ∙ joined_tokens p m us

-- what a node asks of each place where it stands, in the head of a `for` too
push_at : (n : Nonterminal) (p : ParseTree) (t : Token) → ((c : Control) → stands c n ≡ true → decide c None t ≡ Push) → (c : Control) → Stands c n p → decide c None t ≡ Push
push_at n p t push c (inl h) = push c h
push_at n p t push c (inr (head_place, h, q)) = head_pushes (class t) (push ForPlain h)

wrap_there : (n k : Nonterminal) (operand : Variant) (inside p : ParseTree) (t : Token) → ((c : Control) → stands c n ≡ true → (stands c k ≡ true) × (decide c (Some operand) t ≡ Wrap)) →
    (spine_free p ≡ true → (is_within (class t) ≡ false) × (spine_free inside ≡ true)) → (c : Control) → Stands c n p → Stands c k inside × (decide c (Some operand) t ≡ Wrap)
wrap_there n k operand inside p t w free c (inl h) = (inl (w c h).0, (w c h).1)
wrap_there n k operand inside p t w free c (inr (head_place, h, q)) = let e = free q in (inr (head_place, (w ForPlain h).0, e.1), head_wraps (class t) (w ForPlain h).1 e.0)

not_so : (b k : Bool) → (not b && k) ≡ true → (b ≡ false) × (k ≡ true)
not_so false k h = (refl, h)
not_so true k h = absurd (true≢false (sym h))

block_there : (n : Nonterminal) (p : ParseTree) (at : Control) (t : Token) → ((c : Control) → stands c n ≡ true → (decide c None t ≡ Begin) × (begin c t ≡ at)) → (c : Control) → Stands c n p → stands c n ≡ true
block_there n p at t push c (inl h) = h
block_there n p at t push c (inr (head_place, h, q)) = absurd (plain_begins (class t) (push ForPlain h).0)

stated_there : (n k : Nonterminal) (operand : Variant) (p : ParseTree) (t : Token) → ((c : Control) → stands c n ≡ true → (stands (entered c) k ≡ true) × (decide (entered c) (Some operand) t ≡ Leave) × (outside (entered c) ≡ c)) →
    (c : Control) → Stands c n p → stands c n ≡ true
stated_there n k operand p t w c (inl h) = h
stated_there n k operand p t w c (inr (head_place, h, q)) = absurd (plain_leaves (class t) (w ForPlain h).1)

raised_there : (n k : Nonterminal) (p : ParseTree) → ((c : Control) → stands c n ≡ true → stands c k ≡ true) → (c : Control) → Stands c n p → Stands c k p
raised_there n k p st c (inl h) = inl (st c h)
raised_there n k p st c (inr (a, h, q)) = inr (a, st ForPlain h, q)

-- a token that begins an expression does so in the place that it enters
pub entering_there : (f : Frame) (s : List Frame) (ts : List Token) (u : Token) (vs : List Token) → ts ≡ u ∷ vs → Enters f.control u → run ts (At (f ∷ s) Empty) ≡ run ts (At (within (entered f.control) f ∷ s) Empty)
entering_there f s ts u vs e i =
    ap (λ us. run us (At (f ∷ s) Empty)) e
    ∙ ap (run vs) (went Enter u f s Empty i.0 ∙ sym (went Push u (within (entered f.control) f) s Empty i.1))
    ∙ ap (λ us. run us (At (within (entered f.control) f ∷ s) Empty)) (sym e)

-- a list goes on at a token as if it held nothing
once_there : (u : Token) (g : Frame) (s : List Frame) (a : Action) → decide g.control None u ≡ a → goes_on a ≡ true → acted_once (decide g.control None u) u g s Empty Fail ≡ step u (g ∷ s) Empty
once_there u g s Shift e h = ap (λ a. acted_once a u g s Empty Fail) e ∙ sym (went Shift u g s Empty e)
once_there u g s Push e h = ap (λ a. acted_once a u g s Empty Fail) e ∙ sym (went Push u g s Empty e)
once_there u g s Begin e h = ap (λ a. acted_once a u g s Empty Fail) e ∙ sym (went Begin u g s Empty e)
once_there u g s Enter e h = ap (λ a. acted_once a u g s Empty Fail) e ∙ sym (went Enter u g s Empty e)
once_there u g s a e h = absurd (true≢false (sym h))

-- what was begun in the place of an item goes on as an expression's
lowered : (v : Token) (top f : Frame) (s : List Frame) (a : Action) → decide top.control None v ≡ EnterBelow → decide (as_expression top.control) None v ≡ a → goes_on a ≡ true →
    step v (top ∷ f ∷ s) Empty ≡ step v (within (as_expression top.control) top ∷ within (entered f.control) f ∷ s) Empty
lowered v top f s a e h k = went EnterBelow v top (f ∷ s) Empty e ∙ once_there v (within (as_expression top.control) top) (within (entered f.control) f ∷ s) a h k

-- `import(`: the second token tells that the first begins an expression
pub second_enters : (f : Frame) (u v : Token) (ts : List Token) (k : Control) (a : Action) → decide f.control None u ≡ Begin → begin f.control u ≡ k → decide k None v ≡ EnterBelow → decide (entered f.control) None u ≡ Push →
    start u ≡ as_expression k → decide (as_expression k) None v ≡ a → goes_on a ≡ true → Entering f (u ∷ v ∷ ts)
second_enters f u v ts k a b q e p r h g = λ s.
    let as_begun : Control → Frame = λ z. record { control = z; so_far = λ rest. Read u rest; other = λ rest. Read u rest } in
    ap (run (v ∷ ts)) (went Begin u f s Empty b ∙ ap (λ z. At (as_begun z ∷ f ∷ s) Empty) q)
    ∙ ap (run ts) (lowered v (as_begun k) f s a e h g)
    ∙ ap (λ z. run (v ∷ ts) (At (as_begun z ∷ within (entered f.control) f ∷ s) Empty)) (sym r)
    ∙ ap (run (v ∷ ts)) (sym (went Push u (within (entered f.control) f) s Empty p))

-- `async =>`: the third token tells
pub third_enters : (f : Frame) (u v w : Token) (ts : List Token) (k l : Control) (a : Action) → decide f.control None u ≡ Begin → begin f.control u ≡ k → decide k None v ≡ Shift → shift k None v ≡ l → decide l None w ≡ EnterBelow →
    decide (entered f.control) None u ≡ Push → start u ≡ as_expression k → decide (as_expression k) None v ≡ Shift → shift (as_expression k) None v ≡ as_expression l → decide (as_expression l) None w ≡ a → goes_on a ≡ true → Entering f (u ∷ v ∷ w ∷ ts)
third_enters f u v w ts k l a b q x y e p r z i h g = λ s.
    let below : Frame = within (entered f.control) f in
    let as_begun : Control → Frame = λ c. record { control = c; so_far = λ rest. Read u rest; other = λ rest. Read u rest } in
    let as_gone : Control → Frame = λ c. record { control = c; so_far = λ rest. Read u (Read v rest); other = λ rest. Read u (Optional v rest) } in
    ap (run (v ∷ w ∷ ts)) (went Begin u f s Empty b ∙ ap (λ c. At (as_begun c ∷ f ∷ s) Empty) q)
    ∙ ap (run (w ∷ ts)) (went Shift v (as_begun k) (f ∷ s) Empty x ∙ ap (λ c. At (as_gone c ∷ f ∷ s) Empty) y)
    ∙ ap (run ts) (lowered w (as_gone l) f s a e h g)
    ∙ ap (λ c. run (w ∷ ts) (At (as_gone c ∷ below ∷ s) Empty)) (sym i)
    ∙ ap (run (w ∷ ts)) (sym (went Shift v (as_begun (as_expression k)) (below ∷ s) Empty z))
    ∙ ap (λ c. run (v ∷ w ∷ ts) (At (as_begun c ∷ below ∷ s) Empty)) (sym r)
    ∙ ap (run (v ∷ w ∷ ts)) (sym (went Push u below s Empty p))

pub reads : {mode : Mode} {m : ParseTree} → Good mode m → Claim mode m
unfolding tokens_of
reads (headed {n = n} {t = u} {m = m} push g) = λ f s t ts st cl.
    ap (run (tokens_of m (t ∷ ts))) (went Push u f s Empty (push_at n (Read u m) u push f.control st)) ∙ reads g (λ rest. Read u rest) (λ rest. Read u rest) f s t ts cl
reads (wrapped {left = left} {n = n} {k = k} {t = u} {inside = p} {m = m} i c w g) = λ f s t ts st cl.
    let x = wrap_there n k left p (Node left p (Read u m)) u w (not_so (is_within (class u)) (spine_free p)) f.control st in
    reads i f s u (tokens_of m (t ∷ ts)) x.0 c
    ∙ ap (run (tokens_of m (t ∷ ts))) (went Wrap u f s (Full left p) x.1)
    ∙ reads g (λ rest. Node left p (Read u rest)) (λ rest. turned left p u rest) f s t ts cl
reads (shifted {at = at} {t = u} {m = m} e g) = λ b o f s t ts cl.
    let top : Frame = record { control = at; so_far = b; other = o } in
    ap (run (tokens_of m (t ∷ ts))) (went Shift u top (f ∷ s) Empty e) ∙ reads g (λ rest. b (Read u rest)) (λ rest. b (Optional u rest)) f s t ts cl
reads (inner {at = at} {part = part} {t = u} {inside = p} {m = m} st i c e g) = λ b o f s t ts cl.
    let top : Frame = record { control = at; so_far = b; other = o } in
    reads i top (f ∷ s) u (tokens_of m (t ∷ ts)) (inl st) c
    ∙ ap (run (tokens_of m (t ∷ ts))) (went Shift u top (f ∷ s) (Full part p) e)
    ∙ reads g (λ rest. b (Node part p (Read u rest))) (λ rest. b (turned part p u rest)) f s t ts cl
reads (closed {at = at} {variant = variant} q e) = λ b o f s t ts cl.
    let top : Frame = record { control = at; so_far = b; other = o } in
    ap (run ts) (went Reduce t top (f ∷ s) Empty (e t cl)) ∙ named (variant_of at) variant (b End) t ts f s q
reads (last {at = at} {variant = variant} {part = part} {inside = p} q st i e) = λ b o f s t ts cl.
    let top : Frame = record { control = at; so_far = b; other = o } in
    reads i top (f ∷ s) t ts (inl st) (e t cl).0
    ∙ ap (run ts) (went Reduce t top (f ∷ s) (Full part p) (e t cl).1)
    ∙ named (variant_of at) variant (b (Node part p End)) t ts f s q
reads (wrapped_turned {variant = variant} {left = left} {n = n} {k = k} {inside = p} {m = m} {p = q} u v i c w e g same) = λ f s t ts st cl.
    let top : Frame = record { control = wrap left u; so_far = λ rest. Node left p (Read u rest); other = λ rest. turned left p u rest } in
    let x = wrap_there n k left p q u w (λ z. (turn_outside left (class u) (class v) e, turned_free (class u) left p u (Read v m) (ap spine_free (sym same) ∙ z))) f.control st in
    ap (λ us. run us (At (f ∷ s) Empty)) (turned_tokens left p u v m q (t ∷ ts) same)
    ∙ reads i f s u (v ∷ tokens_of m (t ∷ ts)) x.0 c
    ∙ ap (run (v ∷ tokens_of m (t ∷ ts))) (went Wrap u f s (Full left p) x.1)
    ∙ ap (run (tokens_of m (t ∷ ts))) (went Turn v top (f ∷ s) Empty e)
    ∙ reads g (λ rest. turned left p u (Read v rest)) (λ rest. turned left p u (Read v rest)) f s t ts cl
    ∙ ap (λ z. run (t ∷ ts) (At (f ∷ s) (Full variant z))) (sym same)
reads (inner_turned {at = at} {variant = variant} {part = part} {inside = p} {m = m} {p = q} u v st i c e k g same) = λ b o f s t ts cl.
    let top : Frame = record { control = at; so_far = b; other = o } in
    let next : Frame = record { control = shift at (Some part) u; so_far = λ rest. b (Node part p (Read u rest)); other = λ rest. b (turned part p u rest) } in
    ap (λ us. run us (At (top ∷ f ∷ s) Empty)) (turned_tokens part p u v m q (t ∷ ts) same)
    ∙ reads i top (f ∷ s) u (v ∷ tokens_of m (t ∷ ts)) (inl st) c
    ∙ ap (run (v ∷ tokens_of m (t ∷ ts))) (went Shift u top (f ∷ s) (Full part p) e)
    ∙ ap (run (tokens_of m (t ∷ ts))) (went Turn v next (f ∷ s) Empty k)
    ∙ reads g (λ rest. b (turned part p u (Read v rest))) (λ rest. b (turned part p u (Read v rest))) f s t ts cl
    ∙ ap (λ z. run (t ∷ ts) (At (f ∷ s) (Full variant (b z)))) (sym same)
reads (shifted_turned {at = at} {t = u} {u = v} {m = m} e k g) = λ b o f s t ts cl.
    let top : Frame = record { control = at; so_far = b; other = o } in
    let next : Frame = record { control = shift at None u; so_far = λ rest. b (Read u rest); other = λ rest. b (Optional u rest) } in
    ap (run (v ∷ tokens_of m (t ∷ ts))) (went Shift u top (f ∷ s) Empty e)
    ∙ ap (run (tokens_of m (t ∷ ts))) (went Turn v next (f ∷ s) Empty k)
    ∙ reads g (λ rest. b (Optional u (Read v rest))) (λ rest. b (Optional u (Read v rest))) f s t ts cl
reads (headed_block {at = at} {n = n} {t = u} {m = m} push g) = λ f s t ts st cl.
    let x = push f.control (block_there n (Read u m) at u push f.control st) in
    ap (run (tokens_of m (t ∷ ts))) (went Begin u f s Empty x.0 ∙ ap (λ z. At (record { control = z; so_far = λ rest. Read u rest; other = λ rest. Read u rest } ∷ f ∷ s) Empty) x.1)
    ∙ reads g (λ rest. Read u rest) (λ rest. Read u rest) f s t ts cl
reads (stated {variant = variant} {left = left} {n = n} {k = k} {inside = p} {m = m} {p = q} u i c w h b g same) = λ f s t ts x cl.
    let st = stated_there n k left q u w f.control x in
    let top : Frame = within (entered f.control) f in
    ap (λ us. run us (At (f ∷ s) Empty)) (left_tokens left p u m q (t ∷ ts) same)
    ∙ h f (tokens_of m (t ∷ ts)) st s
    ∙ reads i top s u (tokens_of m (t ∷ ts)) (inl (w f.control st).0) c
    ∙ ap (run (tokens_of m (t ∷ ts))) (went Leave u top s (Full left p) (w f.control st).1)
    ∙ ap (λ z. run (tokens_of m (t ∷ ts)) (At (record { control = wrap left u; so_far = λ rest. left_with left p u rest; other = λ rest. left_with left p u rest } ∷ within z f ∷ s) Empty)) (w f.control st).2
    ∙ reads g (λ rest. left_with left p u rest) (λ rest. left_with left p u rest) f s t ts cl
    ∙ ap (λ z. run (t ∷ ts) (At (f ∷ s) (Full variant z))) (sym same)
reads (entering h g) = λ b o f s t ts cl. h b o t ts (f ∷ s) ∙ reads g b o f s t ts cl
reads (merged_two {at = at} {begun = k} {m = m} x y e q a g) = λ b o f s t ts cl.
    let top : Frame = record { control = at; so_far = b; other = o } in
    let as_begun : Control → Frame = λ c. record { control = c; so_far = λ rest. Read x rest; other = λ rest. Read x rest } in
    ap (run (y ∷ tokens_of m (t ∷ ts))) (went Begin x top (f ∷ s) Empty e ∙ ap (λ c. At (as_begun c ∷ top ∷ f ∷ s) Empty) q)
    ∙ ap (run (tokens_of m (t ∷ ts))) (went Merge y (as_begun k) (top ∷ f ∷ s) Empty a)
    ∙ reads g (λ rest. b (Read x (Read y rest))) (λ rest. b (Read x (Read y rest))) f s t ts cl
reads (merged {at = at} {begun = k} {line = l} {m = m} x y z e q i j a g) = λ b o f s t ts cl.
    let top : Frame = record { control = at; so_far = b; other = o } in
    let as_begun : Control → Frame = λ c. record { control = c; so_far = λ rest. Read x rest; other = λ rest. Read x rest } in
    let as_gone : Control → Frame = λ c. record { control = c; so_far = λ rest. Read x (Read y rest); other = λ rest. Read x (Optional y rest) } in
    ap (run (y ∷ z ∷ tokens_of m (t ∷ ts))) (went Begin x top (f ∷ s) Empty e ∙ ap (λ c. At (as_begun c ∷ top ∷ f ∷ s) Empty) q)
    ∙ ap (run (z ∷ tokens_of m (t ∷ ts))) (went Shift y (as_begun k) (top ∷ f ∷ s) Empty i ∙ ap (λ c. At (as_gone c ∷ top ∷ f ∷ s) Empty) j)
    ∙ ap (run (tokens_of m (t ∷ ts))) (went Merge z (as_gone l) (top ∷ f ∷ s) Empty a)
    ∙ reads g (λ rest. b (Read x (Read y (Read z rest)))) (λ rest. b (Read x (Read y (Read z rest)))) f s t ts cl
reads (splicing {at = at} {variant = variant} {part = part} {inside = p} {m = m} {p = q} u st i c e g same) = λ b o f s t ts cl.
    let top : Frame = record { control = at; so_far = b; other = o } in
    ap (λ us. run us (At (top ∷ f ∷ s) Empty)) (joined_so p (Read u m) q (t ∷ ts) same)
    ∙ reads i top (f ∷ s) u (tokens_of m (t ∷ ts)) (inl st) c
    ∙ ap (run (tokens_of m (t ∷ ts))) (went Splice u top (f ∷ s) (Full part p) e)
    ∙ reads g (λ rest. b (joined p (Read u rest))) (λ rest. b (joined p (Read u rest))) f s t ts cl
    ∙ ap (λ z. run (t ∷ ts) (At (f ∷ s) (Full variant (b z)))) (sym same)
reads (taking {at = at} {variant = variant} {part = part} {inside = p} {m = m} {p = q} st i h g same) = λ b o f s t ts cl.
    let top : Frame = record { control = at; so_far = b; other = o } in
    let head = h (t ∷ ts) in
    ap (λ us. run us (At (top ∷ f ∷ s) Empty)) (joined_so p m q (t ∷ ts) same ∙ ap (tokens_of p) head.2)
    ∙ reads i top (f ∷ s) head.0 head.1 (inl st) head.3.0
    ∙ ap (run head.1) (went Take head.0 top (f ∷ s) (Full part p) head.3.1)
    ∙ ap (run head.1) (once_there head.0 (record { control = at; so_far = λ rest. b (joined p rest); other = λ rest. b (joined p rest) }) (f ∷ s) (decide at None head.0) refl head.3.2)
    ∙ ap (λ us. run us (At (record { control = at; so_far = λ rest. b (joined p rest); other = λ rest. b (joined p rest) } ∷ f ∷ s) Empty)) (sym head.2)
    ∙ reads g (λ rest. b (joined p rest)) (λ rest. b (joined p rest)) f s t ts cl
    ∙ ap (λ z. run (t ∷ ts) (At (f ∷ s) (Full variant (b z)))) (sym same)
reads (keeping {at = at} {part = part} {inside = p} {m = m} st i h g) = λ b o f s t ts cl.
    let top : Frame = record { control = at; so_far = b; other = o } in
    let head = h (t ∷ ts) in
    ap (λ us. run us (At (top ∷ f ∷ s) Empty)) (ap (tokens_of p) head.2)
    ∙ reads i top (f ∷ s) head.0 head.1 (inl st) head.3.0
    ∙ ap (run head.1) (went Keep head.0 top (f ∷ s) (Full part p) head.3.1)
    ∙ ap (run head.1) (once_there head.0 (record { control = at; so_far = λ rest. b (Node part p rest); other = λ rest. b (Node part p rest) }) (f ∷ s) (decide at None head.0) refl head.3.2)
    ∙ ap (λ us. run us (At (record { control = at; so_far = λ rest. b (Node part p rest); other = λ rest. b (Node part p rest) } ∷ f ∷ s) Empty)) (sym head.2)
    ∙ reads g (λ rest. b (Node part p rest)) (λ rest. b (Node part p rest)) f s t ts cl
reads (heading {part = part} {t = u} {inside = p} {m = m} st q i c e g) = λ b o f s t ts cl.
    let top : Frame = record { control = ForHead; so_far = b; other = o } in
    reads i top (f ∷ s) u (tokens_of m (t ∷ ts)) (inr (head_place, st, q)) c
    ∙ ap (run (tokens_of m (t ∷ ts))) (went Shift u top (f ∷ s) (Full part p) e)
    ∙ reads g (λ rest. b (Node part p (Read u rest))) (λ rest. b (turned part p u rest)) f s t ts cl
reads (raised {n = n} {k = k} {p = p} st c g) = λ f s t ts h cl. reads g f s t ts (raised_there n k p st f.control h) (c t cl)

-- ---- what ends before `in` begins with none of it

pub low_free : {s : Variant} {n : Nonterminal} {p : ParseTree} → Good (Whole s n) p → stands (Open (OfInfix Comparing)) n ≡ true → spine_free p ≡ true
low_free (headed push g) st = refl
low_free (wrapped {t = t} i c w g) st = let x = w (Open (OfInfix Comparing)) st in not_within _ _ (low_wraps (class t) x.1) (low_free i x.0)
low_free (wrapped_turned {left = left} {inside = inside} {m = m} t u i c w e g same) st =
    let x = w (Open (OfInfix Comparing)) st in ap spine_free same ∙ turned_are_free (class t) left inside t (Read u m) (low_wraps (class t) x.1) (low_free i x.0)
low_free (headed_block push g) st = refl
low_free (stated t i c w h b g same) st = absurd (low_leaves (class t) (w (Open (OfInfix Comparing)) st).1)
low_free (raised st c g) s = low_free g (st (Open (OfInfix Comparing)) s)

-- parameters, and `=>`
pub turned_low : {s : Variant} {n : Nonterminal} {p : ParseTree} (t : Token) (rest : ParseTree) → Good (Whole s n) p → stands (Open (OfInfix Comparing)) n ≡ true → is_within (class t) ≡ false → spine_free (turned s p t rest) ≡ true
turned_low {s = s} {p = p} t rest g st h = turned_are_free (class t) s p t rest h (low_free g st)

-- ---- what fails goes on to fail

abbrev pub is_fail : State → Bool
is_fail (At s h) = false
is_fail Fail = true

pub run_fails : (ts : List Token) → run ts Fail ≡ Fail
run_fails [] = refl
run_fails (t ∷ ts) = run_fails ts

-- Where one that is read as it is begins with a token, the next one isn't refused: behind `import` of an expression stands `(` or `.`.
pub never_next : (c : Control) (t u v : Token) (ts : List Token) {s : Variant} {n : Nonterminal} {p : ParseTree} → Good (Whole s n) p → stands c n ≡ true → closes t n ≡ true → decide c (Some s) t ≡ Leave → tokens_of p (t ∷ []) ≡ u ∷ v ∷ ts →
    decide c None u ≡ Push → decide (start u) None v ≡ Reject → ⊥
never_next c t u v ts {s = s} {p = p} g st cl l e a k =
    let f : Frame = record { control = c; so_far = λ rest. rest; other = λ rest. rest } in
    let top : Frame = record { control = start u; so_far = λ rest. Read u rest; other = λ rest. Read u rest } in
    true≢false (
    sym (ap is_fail (run_fails ts))
    ∙ ap (λ q. is_fail (run ts q)) (sym (ap (next v) (went Push u f [] Empty a) ∙ went Reject v top (f ∷ []) Empty k))
    ∙ ap (λ us. is_fail (run us (At (f ∷ []) Empty))) (sym e) ∙ ap is_fail (reads g f [] t [] (inl st) cl ∙ went Leave t f [] (Full s p) l)
    )

-- nor is the third one refused: behind `async` and what stays on its line no `/` stands
pub never_rejected : (c : Control) (t u v w : Token) (ts : List Token) {s : Variant} {n : Nonterminal} {p : ParseTree} → Good (Whole s n) p → stands c n ≡ true → closes t n ≡ true → decide c (Some s) t ≡ Leave → tokens_of p (t ∷ []) ≡ u ∷ v ∷ w ∷ ts →
    decide c None u ≡ Push → decide (start u) None v ≡ Shift → decide (shift (start u) None v) None w ≡ Reject → ⊥
never_rejected c t u v w ts {s = s} {p = p} g st cl l e a k j =
    let f : Frame = record { control = c; so_far = λ rest. rest; other = λ rest. rest } in
    let top : Frame = record { control = start u; so_far = λ rest. Read u rest; other = λ rest. Read u rest } in
    let on : Frame = record { control = shift (start u) None v; so_far = λ rest. Read u (Read v rest); other = λ rest. Read u (Optional v rest) } in
    true≢false (
    sym (ap is_fail (run_fails ts))
    ∙ ap (λ q. is_fail (run ts q)) (sym (ap (λ q. next w (next v q)) (went Push u f [] Empty a) ∙ ap (next w) (went Shift v top (f ∷ []) Empty k) ∙ went Reject w on (f ∷ []) Empty j))
    ∙ ap (λ us. is_fail (run us (At (f ∷ []) Empty))) (sym e) ∙ ap is_fail (reads g f [] t [] (inl st) cl ∙ went Leave t f [] (Full s p) l)
    )

-- ---- so its tokens tell it

abbrev pub first_of : ParseTree → ParseTree
first_of End = End
first_of (Read t rest) = End
first_of (Optional t rest) = End
first_of (Node s p rest) = Node s p End

abbrev pub found : State → ParseTree
found (At [] h) = End
found (At (f ∷ s) h) = first_of (f.so_far End)
found Fail = End

-- read before a token that the bottommost frame takes
abbrev pub Ends : Control → Token → Variant → Nonterminal → Type 0
Ends c t s n = (stands c n ≡ true) × (closes t n ≡ true) × (decide c (Some s) t ≡ Shift)

pub whole_found : (c : Control) (t : Token) (s : Variant) (n : Nonterminal) (p : ParseTree) → Ends c t s n → Good (Whole s n) p →
    found (run (tokens_of p (t ∷ [])) (At (record { control = c; so_far = λ rest. rest; other = λ rest. rest } ∷ []) Empty)) ≡ Node s p End
whole_found c t s n p e g =
    let f : Frame = record { control = c; so_far = λ rest. rest; other = λ rest. rest } in
    ap found (reads g f [] t [] (inl e.0) e.1 ∙ went Shift t f [] (Full s p) e.2)

pub one_tree : (c : Control) (t : Token) (s z : Variant) (n k : Nonterminal) (p q : ParseTree) → Ends c t s n → Ends c t z k → Good (Whole s n) p → Good (Whole z k) q →
    tokens_of p (t ∷ []) ≡ tokens_of q (t ∷ []) → Node s p End ≡ Node z q End
one_tree c t s z n k p q e d g h same =
    sym (whole_found c t s n p e g) ∙ ap (λ ts. found (run ts (At (record { control = c; so_far = λ rest. rest; other = λ rest. rest } ∷ []) Empty))) same ∙ whole_found c t z k q d h

-- ---- the same of what is left of a frame, read before a token that the one below takes

pub rest_found : (at : Control) (t : Token) (s : Variant) (n : Nonterminal) (m : ParseTree) → closes t n ≡ true → decide InParen (Some s) t ≡ Shift → Good (Rest at s n) m →
    found (run (tokens_of m (t ∷ [])) (At (record { control = at; so_far = λ rest. rest; other = λ rest. rest } ∷ record { control = InParen; so_far = λ rest. rest; other = λ rest. rest } ∷ []) Empty)) ≡ Node s m End
rest_found at t s n m e d g =
    let f : Frame = record { control = InParen; so_far = λ rest. rest; other = λ rest. rest } in
    ap found (reads g (λ rest. rest) (λ rest. rest) f [] t [] e ∙ went Shift t f [] (Full s m) d)

pub one_rest : (at : Control) (t : Token) (s : Variant) (n : Nonterminal) (p q : ParseTree) → closes t n ≡ true → decide InParen (Some s) t ≡ Shift → Good (Rest at s n) p → Good (Rest at s n) q → tokens_of p (t ∷ []) ≡ tokens_of q (t ∷ []) →
    Node s p End ≡ Node s q End
one_rest at t s n p q e d g h same =
    sym (rest_found at t s n p e d g)
    ∙ ap (λ ts. found (run ts (At (record { control = at; so_far = λ rest. rest; other = λ rest. rest } ∷ record { control = InParen; so_far = λ rest. rest; other = λ rest. rest } ∷ []) Empty))) same ∙ rest_found at t s n q e d h
