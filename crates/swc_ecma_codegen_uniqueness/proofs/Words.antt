-- The machine reads a word as the name of the same letters, where the tokens round it tell which of the two it is.
use Rattle.std.proofs.Common.{◌≡◌, ℕ, Bool, true, false, ◌&&◌, not, cond, inl, inr, List, [], ◌∷◌, ◌++◌, Option, Some, None, refl, sym, ap, ap₂, ◌∙◌, subst}
use Rattle.std.specs.Prelude.{bytes_eq, if◌then◌else◌}
use Rattle.std.proofs.lemmas.Bool.{true≢false, and_parts, or_cases, not-true}
use Rattle.std.proofs.lemmas.Slice.Eq.{bytes_eq-Decides}
use Rattle.swc_ecma_codegen_grammar.specs.declared.kinds.Kind.{Kind}
use Rattle.swc_ecma_codegen_grammar.specs.declared.kinds.Kind.TheVariants as kinds
use Rattle.swc_ecma_codegen_grammar.specs.Tokens.{Token, Value, Characters, name, word}
use Rattle.swc_ecma_codegen_syntax.specs.declared.nonterminals.Nonterminal.{Nonterminal}
use Rattle.swc_ecma_codegen_syntax.specs.NameForms.{is_one_of, is_reserved}
use Rattle.swc_ecma_codegen_uniqueness.specs.ParseTrees.{Variant, Seq, Paren, ParseTree, End, Read, Optional, Node, tokens_of, settled}
use Rattle.swc_ecma_codegen_uniqueness.specs.Words.{contextual_words, named_by, as_name, as_names, with_names}
use Rattle.swc_ecma_codegen_uniqueness.proofs.Classes.{Class, NameToken, Line, Colon, class, class_of, look, words, KeyToken}
use Rattle.swc_ecma_codegen_uniqueness.proofs.Controls.{Control, InParen, entered, outside, as_expression, variant_of, closes}
use Rattle.swc_ecma_codegen_uniqueness.proofs.Moves.{shifted_to, passed_to, shift, started, start, begun_at, begin, wrapped_to}
use Rattle.swc_ecma_codegen_uniqueness.proofs.Tables.{Action, Shift, Push, Wrap, Reduce, Turn, Begin, Enter, Leave, Splice, Take, Keep, EnterBelow, Merge, Reject, without, with_operand, decide}
use Rattle.swc_ecma_codegen_uniqueness.proofs.Machine.{Hand, Empty, Full, held, sign, joined, opened, parameters, turned_by, turned, turned_hand, spliced, left_by, left_hand, Frame, State, At, Fail, within, wrap_at, acted_once, acted, step, next, run, is_fail, first_of, found, Ends, whole_found, rest_found, Whole, Rest, Good}

-- ---- to the machine such a word is what the name is

abbrev is_name_token : Class → Bool
is_name_token NameToken = true
is_name_token l = false

name_token_is : (l : Class) → is_name_token l ≡ true → l ≡ NameToken
name_token_is NameToken h = refl
name_token_is l h = absurd (true≢false (sym h))

abbrev all_named : List (List ℕ) → Bool
all_named [] = true
all_named (key ∷ keys) = is_name_token (look words key) && all_named keys

named_among : (keys : List (List ℕ)) (text : List ℕ) → all_named keys ≡ true → is_one_of keys text ≡ true → look words text ≡ NameToken
unfolding is_one_of
named_among [] text a h = absurd (true≢false (sym h))
named_among (key ∷ keys) text a h =
    let p = and_parts (is_name_token (look words key)) (all_named keys) a in
    elim (or_cases (bytes_eq text key) (is_one_of keys text) h) [
      | inl e ↦ ap (look words) ((bytes_eq-Decides text key).0 e) ∙ name_token_is (look words key) p.0
      | inr i ↦ named_among keys text p.1 i
    ]

-- none of them is reserved
abbrev all_free : List (List ℕ) → Bool
all_free [] = true
all_free (key ∷ keys) = not (is_reserved key) && all_free keys

free_among : (keys : List (List ℕ)) (text : List ℕ) → all_free keys ≡ true → is_one_of keys text ≡ true → is_reserved text ≡ false
unfolding is_one_of
free_among [] text a h = absurd (true≢false (sym h))
free_among (key ∷ keys) text a h =
    let p = and_parts (not (is_reserved key)) (all_free keys) a in
    elim (or_cases (bytes_eq text key) (is_one_of keys text) h) [
      | inl e ↦ ap (λ t. is_reserved t) ((bytes_eq-Decides text key).0 e) ∙ not-true (is_reserved key) p.0
      | inr i ↦ free_among keys text p.1 i
    ]

contextual_are_free : all_free contextual_words ≡ true
unfolding is_reserved is_one_of
contextual_are_free = refl

contextual_free : (text : List ℕ) → is_one_of contextual_words text ≡ true → is_reserved text ≡ false
contextual_free text e = free_among contextual_words text contextual_are_free e

class_by : (b : Bool) (text : List ℕ) → is_one_of contextual_words text ≡ b → class (if b then name text else word text) ≡ look words text
unfolding name word
class_by true text e = ap (λ b. cond b KeyToken NameToken) (contextual_free text e) ∙ sym (named_among contextual_words text refl e)
class_by false text e = refl

class_of_named : (k : Kind) (v : Value) → class (named_by k v) ≡ class_of k v
unfolding named_by
class_of_named kinds.Word (Characters text) = class_by (is_one_of contextual_words text) text refl
class_of_named k v = refl

pub class_named : (t : Token) → class (as_name t) ≡ class t
class_named t = class_of_named t.kind t.value

-- ---- what is told otherwise is so of names

joined_named : (p rest : ParseTree) → with_names (joined p rest) ≡ joined (with_names p) (with_names rest)
unfolding with_names
joined_named End rest = refl
joined_named (Read t p) rest = ap (Read (as_name t)) (joined_named p rest)
joined_named (Optional t p) rest = ap (Optional (as_name t)) (joined_named p rest)
joined_named (Node s p q) rest = ap (Node s (with_names p)) (joined_named q rest)

opened_named : (o : Token) (p rest : ParseTree) → with_names (opened o p rest) ≡ opened (as_name o) (with_names p) (with_names rest)
unfolding with_names
opened_named o (Read c End) rest = refl
opened_named o (Node Seq q (Read c End)) rest = ap (Read (as_name o)) (joined_named q (Read c rest))
opened_named o (Node s q (Read c End)) rest = refl
opened_named o (Read d (Node s q (Read c End))) rest = refl
opened_named o p rest = refl

parameters_named : (s : Variant) (p rest : ParseTree) → with_names (parameters s p rest) ≡ parameters s (with_names p) (with_names rest)
unfolding with_names
parameters_named Paren (Read o p) rest = opened_named o p rest
parameters_named Paren p rest = refl
parameters_named s p rest = refl

turned_by_named : (c : Class) (s : Variant) (p : ParseTree) (t : Token) (rest : ParseTree) → with_names (turned_by c s p t rest) ≡ turned_by c s (with_names p) (as_name t) (with_names rest)
unfolding with_names
turned_by_named Line s p t rest = parameters_named s p (Read t rest)
turned_by_named c s p t rest = refl

turned_named : (s : Variant) (p : ParseTree) (t : Token) (rest : ParseTree) → with_names (turned s p t rest) ≡ turned s (with_names p) (as_name t) (with_names rest)
turned_named s p t rest = turned_by_named (class t) s p t rest ∙ ap (λ c. turned_by c s (with_names p) (as_name t) (with_names rest)) (sym (class_named t))

left_by_named : (c : Class) (s : Variant) (p rest : ParseTree) → with_names (left_by c s p rest) ≡ left_by c s (with_names p) (with_names rest)
unfolding with_names
left_by_named Colon s p rest = joined_named p rest
left_by_named c s p rest = refl

-- ---- what is at hand

abbrev named_hand : Hand → Hand
named_hand Empty = Empty
named_hand (Full s p) = Full s (with_names p)

sign_named : (h : Hand) → sign (named_hand h) ≡ sign h
sign_named Empty = refl
sign_named (Full s p) = refl

held_named : (h : Hand) (rest : ParseTree) → with_names (held h rest) ≡ held (named_hand h) (with_names rest)
unfolding with_names
held_named Empty rest = refl
held_named (Full s p) rest = refl

turned_hand_named : (h : Hand) (t : Token) (rest : ParseTree) → with_names (turned_hand h t rest) ≡ turned_hand (named_hand h) (as_name t) (with_names rest)
unfolding with_names
turned_hand_named Empty t rest = refl
turned_hand_named (Full s p) t rest = turned_named s p t rest

spliced_named : (h : Hand) (rest : ParseTree) → with_names (spliced h rest) ≡ spliced (named_hand h) (with_names rest)
spliced_named Empty rest = refl
spliced_named (Full s p) rest = joined_named p rest

left_hand_named : (h : Hand) (t : Token) (rest : ParseTree) → with_names (left_hand h t rest) ≡ left_hand (named_hand h) (as_name t) (with_names rest)
unfolding with_names
left_hand_named Empty t rest = refl
left_hand_named (Full s p) t rest = left_by_named (class t) s p (Read t rest) ∙ ap (λ c. left_by c s (with_names p) (Read (as_name t) (with_names rest))) (sym (class_named t))

-- ---- what the machine does

decided_named : (c : Control) (x : Option Variant) (t : Token) → decide c x (as_name t) ≡ decide c x t
decided_named c None t = ap (without c) (class_named t)
decided_named c (Some s) t = ap (with_operand c) (class_named t)

decide_named : (c d : Control) (h : Hand) (t : Token) → d ≡ c → decide d (sign (named_hand h)) (as_name t) ≡ decide c (sign h) t
decide_named c d h t e = ap (λ z. decide z (sign (named_hand h)) (as_name t)) e ∙ ap (λ x. decide c x (as_name t)) (sign_named h) ∙ decided_named c (sign h) t

shifted_named : (c : Control) (x : Option Variant) (t : Token) → shift c x (as_name t) ≡ shift c x t
shifted_named c None t = ap (shifted_to c) (class_named t)
shifted_named c (Some s) t = ap (passed_to c) (class_named t)

shift_named : (c d : Control) (h : Hand) (t : Token) → d ≡ c → shift d (sign (named_hand h)) (as_name t) ≡ shift c (sign h) t
shift_named c d h t e = ap (λ z. shift z (sign (named_hand h)) (as_name t)) e ∙ ap (λ x. shift c x (as_name t)) (sign_named h) ∙ shifted_named c (sign h) t

begin_named : (c d : Control) (t : Token) → d ≡ c → begin d (as_name t) ≡ begin c t
begin_named c d t e = ap (λ z. begin z (as_name t)) e ∙ ap (begun_at c) (class_named t)

wrap_named : (h : Hand) (t : Token) → wrap_at (named_hand h) (as_name t) ≡ wrap_at h t
wrap_named Empty t = ap started (class_named t)
wrap_named (Full s p) t = ap (wrapped_to s) (class_named t)

-- ---- states that a list and its names lead to

record Alike (f g : Frame) : Type 0 where
  control : g.control ≡ f.control
  so_far : (rest : ParseTree) → with_names (f.so_far rest) ≡ g.so_far (with_names rest)
  other : (rest : ParseTree) → with_names (f.other rest) ≡ g.other (with_names rest)

data AllAlike : List Frame → List Frame → Type 0 where
  none : AllAlike [] []
  more : {f g : Frame} {s r : List Frame} → Alike f g → AllAlike s r → AllAlike (f ∷ s) (g ∷ r)

data Reached : State → State → Type 0 where
  at : {s r : List Frame} (h : Hand) → AllAlike s r → Reached (At s h) (At r (named_hand h))
  failed : Reached Fail Fail

within_alike : (k : Control → Control) {f g : Frame} → Alike f g → Alike (within (k f.control) f) (within (k g.control) g)
within_alike k x = record { control = ap k x.control; so_far = x.so_far; other = x.other }

begun_alike : (t : Token) (c d : Control) → d ≡ c → Alike (record { control = c; so_far = λ rest. Read t rest; other = λ rest. Read t rest }) (record { control = d; so_far = λ rest. Read (as_name t) rest; other = λ rest. Read (as_name t) rest })
unfolding with_names
begun_alike t c d e = record { control = e; so_far = λ rest. refl; other = λ rest. refl }

once_alike : (a : Action) (t : Token) {f g : Frame} {s r : List Frame} → Alike f g → AllAlike s r → (h : Hand) {p q : State} → Reached p q → Reached (acted_once a t f s h p) (acted_once a (as_name t) g r (named_hand h) q)
unfolding with_names
once_alike Shift t {f = f} {g = g} x m h y = at Empty (more (record {
  control = shift_named f.control g.control h t x.control;
  so_far = λ rest. x.so_far (held h (Read t rest)) ∙ ap g.so_far (held_named h (Read t rest));
  other = λ rest. x.so_far (turned_hand h t rest) ∙ ap g.so_far (turned_hand_named h t rest);
}) m)
once_alike Push t x m h y = at Empty (more (begun_alike t (start t) (start (as_name t)) (ap started (class_named t))) (more x m))
once_alike Wrap t x m h y = at Empty (more (record { control = wrap_named h t; so_far = λ rest. held_named h (Read t rest); other = λ rest. turned_hand_named h t rest }) (more x m))
once_alike Reduce t x m h y = y
once_alike Turn t {f = f} {g = g} x m h y =
    at Empty (more (record { control = shift_named f.control g.control Empty t x.control; so_far = λ rest. x.other (Read t rest); other = λ rest. x.other (Read t rest) }) m)
once_alike Begin t {f = f} {g = g} x m h y = at Empty (more (begun_alike t (begin f.control t) (begin g.control (as_name t)) (begin_named f.control g.control t x.control)) (more x m))
once_alike Enter t x m h y = at Empty (more (begun_alike t (start t) (start (as_name t)) (ap started (class_named t))) (more (within_alike (λ c. entered c) x) m))
once_alike Leave t x m h y =
    at Empty (more (record { control = wrap_named h t; so_far = λ rest. left_hand_named h t rest; other = λ rest. left_hand_named h t rest }) (more (within_alike (λ c. outside c) x) m))
once_alike Splice t {f = f} {g = g} x m h y = at Empty (more (record {
  control = shift_named f.control g.control h t x.control;
  so_far = λ rest. x.so_far (spliced h (Read t rest)) ∙ ap g.so_far (spliced_named h (Read t rest));
  other = λ rest. x.so_far (spliced h (Read t rest)) ∙ ap g.so_far (spliced_named h (Read t rest));
}) m)
once_alike Take t x m h y = failed
once_alike Keep t x m h y = failed
once_alike EnterBelow t x m h y = failed
once_alike Merge t x m h y = failed
once_alike Reject t x m h y = failed

decided_alike : (t : Token) {f g : Frame} {s r : List Frame} → Alike f g → AllAlike s r → (h : Hand) →
    Reached (acted_once (decide f.control (sign h) t) t f s h Fail) (acted_once (decide g.control (sign (named_hand h)) (as_name t)) (as_name t) g r (named_hand h) Fail)
decided_alike t {f = f} {g = g} {s = s} {r = r} x m h =
    subst (λ a. Reached (acted_once (decide f.control (sign h) t) t f s h Fail) (acted_once a (as_name t) g r (named_hand h) Fail)) (sym (decide_named f.control g.control h t x.control))
    (once_alike (decide f.control (sign h) t) t x m h failed)

taken_alike : (k : Hand → ParseTree → ParseTree) → ((h : Hand) (rest : ParseTree) → with_names (k h rest) ≡ k (named_hand h) (with_names rest)) → (h : Hand) {f g : Frame} → Alike f g →
    Alike (record { control = f.control; so_far = λ rest. f.so_far (k h rest); other = λ rest. f.so_far (k h rest) }) (record { control = g.control; so_far = λ rest. g.so_far (k (named_hand h) rest); other = λ rest. g.so_far (k (named_hand h) rest) })
taken_alike k e h {f = f} {g = g} x = record {
  control = x.control;
  so_far = λ rest. x.so_far (k h rest) ∙ ap g.so_far (e h rest);
  other = λ rest. x.so_far (k h rest) ∙ ap g.so_far (e h rest);
}

acted_alike : (a : Action) (t : Token) {f g : Frame} {s r : List Frame} → Alike f g → AllAlike s r → (h : Hand) {p q : State} → Reached p q → Reached (acted a t f s h p) (acted a (as_name t) g r (named_hand h) q)
unfolding with_names
acted_alike Take t x m h y = decided_alike t (taken_alike (λ z rest. spliced z rest) (λ z rest. spliced_named z rest) h x) m Empty
acted_alike Keep t x m h y = decided_alike t (taken_alike (λ z rest. held z rest) (λ z rest. held_named z rest) h x) m Empty
acted_alike EnterBelow t x none h y = failed
acted_alike EnterBelow t x (more z m) h y = decided_alike t (within_alike (λ c. as_expression c) x) (more (within_alike (λ c. entered c) z) m) h
acted_alike Merge t x none h y = failed
acted_alike Merge t {f = f} {g = g} x (more {f = k} {g = l} z m) h y = at Empty (more (record {
  control = shift_named f.control g.control Empty t x.control;
  so_far = λ rest. z.so_far (f.so_far (Read t rest)) ∙ ap l.so_far (x.so_far (Read t rest));
  other = λ rest. z.so_far (f.so_far (Read t rest)) ∙ ap l.so_far (x.so_far (Read t rest));
}) m)
acted_alike a t x m h y = once_alike a t x m h y

step_alike : (t : Token) {s r : List Frame} → AllAlike s r → (h : Hand) → Reached (step t s h) (step (as_name t) r (named_hand h))
unfolding with_names
step_alike t none h = failed
step_alike t (more {f = f} {g = g} {s = s} {r = r} x m) h =
    let ended : ParseTree = f.so_far (held h End) in
    let e : Full (variant_of f.control) (with_names ended) ≡ Full (variant_of g.control) (g.so_far (held (named_hand h) End)) =
    ap₂ Full (ap variant_of (sym x.control)) (x.so_far (held h End) ∙ ap g.so_far (held_named h End)) in
    subst
    (λ a. Reached (acted (decide f.control (sign h) t) t f s h (step t s (Full (variant_of f.control) ended))) (acted a (as_name t) g r (named_hand h) (step (as_name t) r (Full (variant_of g.control) (g.so_far (held (named_hand h) End))))))
    (sym (decide_named f.control g.control h t x.control))
    (acted_alike (decide f.control (sign h) t) t x m h
    (subst (λ z. Reached (step t s (Full (variant_of f.control) ended)) (step (as_name t) r z)) e (step_alike t m (Full (variant_of f.control) ended))))

next_alike : (t : Token) {p q : State} → Reached p q → Reached (next t p) (next (as_name t) q)
next_alike t (at h m) = step_alike t m h
next_alike t failed = failed

run_alike : (ts : List Token) {p q : State} → Reached p q → Reached (run ts p) (run (as_names ts) q)
unfolding as_names
run_alike [] y = y
run_alike (t ∷ ts) y = run_alike ts (next_alike t y)

-- ---- so names tell what was read

first_named : (p : ParseTree) → with_names (first_of p) ≡ first_of (with_names p)
unfolding with_names
first_named End = refl
first_named (Read t p) = refl
first_named (Optional t p) = refl
first_named (Node s p q) = refl

found_alike : {p q : State} → Reached p q → with_names (found p) ≡ found q
unfolding with_names
found_alike (at h none) = refl
found_alike (at h (more {f = f} x m)) = first_named (f.so_far End) ∙ ap first_of (x.so_far End)
found_alike failed = refl

abbrev begun_at_all : Control → Frame
begun_at_all c = record { control = c; so_far = λ rest. rest; other = λ rest. rest }

same_frame : (c : Control) → Alike (begun_at_all c) (begun_at_all c)
same_frame c = record { control = refl; so_far = λ rest. refl; other = λ rest. refl }

fails_alike : {p q : State} → Reached p q → is_fail q ≡ is_fail p
fails_alike (at h m) = refl
fails_alike failed = refl

-- frames that hold nothing
abbrev pub begun_all : List Control → List Frame
begun_all [] = []
begun_all (c ∷ cs) = begun_at_all c ∷ begun_all cs

same_frames : (cs : List Control) → AllAlike (begun_all cs) (begun_all cs)
same_frames [] = none
same_frames (c ∷ cs) = more (same_frame c) (same_frames cs)

pub named_run : (cs : List Control) (ts : List Token) → is_fail (run (as_names ts) (At (begun_all cs) Empty)) ≡ is_fail (run ts (At (begun_all cs) Empty))
named_run cs ts = fails_alike (run_alike ts (at Empty (same_frames cs)))

abbrev inside_of : ParseTree → ParseTree
inside_of (Node s p q) = p
inside_of p = End

pub one_named : (c : Control) (t : Token) (s z : Variant) (n k : Nonterminal) (p q : ParseTree) → Ends c t s n → Ends c t z k → Good (Whole s n) p → Good (Whole z k) q → as_names (tokens_of p (t ∷ [])) ≡ as_names (tokens_of q (t ∷ [])) →
    with_names (Node s p End) ≡ with_names (Node z q End)
one_named c t s z n k p q e d g h same =
    let begin : Reached (At (begun_at_all c ∷ []) Empty) (At (begun_at_all c ∷ []) Empty) = at Empty (more (same_frame c) none) in
    ap with_names (sym (whole_found c t s n p e g)) ∙ found_alike (run_alike (tokens_of p (t ∷ [])) begin)
    ∙ ap (λ ts. found (run ts (At (begun_at_all c ∷ []) Empty))) same
    ∙ sym (found_alike (run_alike (tokens_of q (t ∷ [])) begin)) ∙ ap with_names (whole_found c t z k q d h)

pub rest_named : (at : Control) (t : Token) (s : Variant) (n : Nonterminal) (p q : ParseTree) → closes t n ≡ true → decide InParen (Some s) t ≡ Shift → Good (Rest at s n) p → Good (Rest at s n) q →
    as_names (tokens_of p (t ∷ [])) ≡ as_names (tokens_of q (t ∷ [])) → with_names p ≡ with_names q
unfolding with_names
rest_named c t s n p q e d g h same =
    let begin : Reached (At (begun_at_all c ∷ begun_at_all InParen ∷ []) Empty) (At (begun_at_all c ∷ begun_at_all InParen ∷ []) Empty) = at Empty (more (same_frame c) (more (same_frame InParen) none)) in
    ap inside_of (
    ap with_names (sym (rest_found c t s n p e d g)) ∙ found_alike (run_alike (tokens_of p (t ∷ [])) begin)
    ∙ ap (λ ts. found (run ts (At (begun_at_all c ∷ begun_at_all InParen ∷ []) Empty))) same
    ∙ sym (found_alike (run_alike (tokens_of q (t ∷ [])) begin)) ∙ ap with_names (rest_found c t s n q e d h)
    )

-- ---- what syntax leaves open, and lists

pub settled_named : (p : ParseTree) → with_names (settled p) ≡ settled (with_names p)
unfolding with_names settled
settled_named End = refl
settled_named (Read t p) = ap (Read (as_name t)) (settled_named p)
settled_named (Optional t p) = settled_named p
settled_named (Node s p q) = ap₂ (Node s) (settled_named p) (settled_named q)

pub names_on : (ts us : List Token) → as_names (ts ++ us) ≡ as_names ts ++ as_names us
unfolding as_names
names_on [] us = refl
names_on (t ∷ ts) us = ap (λ z. as_name t ∷ z) (names_on ts us)

-- lists that are the same as names, before other tokens
pub same_names : (ts us xs ys vs : List Token) → xs ≡ ts ++ vs → ys ≡ us ++ vs → as_names ts ≡ as_names us → as_names xs ≡ as_names ys
same_names ts us xs ys vs e d h = ap as_names e ∙ names_on ts vs ∙ ap (λ z. z ++ as_names vs) h ∙ sym (names_on us vs) ∙ ap as_names (sym d)
