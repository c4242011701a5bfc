-- The shapes of statements and functions, each read by the machine as it is.
use Rattle.std.proofs.Common.{◌≡◌, Bool, true, false, not, List, [], ◌∷◌, Some, None, cond, refl, sym, ap, ◌∙◌, subst}
use Rattle.std.specs.Prelude.{codes}
use Rattle.std.proofs.lemmas.Bool.{true≢false, or_left}
use Rattle.swc_ecma_codegen_grammar.specs.Tokens.{Token, word, punctuator, same_line, ending}
use Rattle.swc_ecma_codegen_syntax.specs.declared.nonterminals.Nonterminal.{Nonterminal}
use Rattle.swc_ecma_codegen_syntax.specs.declared.nonterminals.Nonterminal.TheVariants as nt
use Rattle.swc_ecma_codegen_syntax.specs.declared.parameters.Parameters.{Parameters}
use Rattle.swc_ecma_codegen_syntax.specs.Nonterminals.{takes, is_private, is_uncovered}
use Rattle.swc_ecma_codegen_syntax.specs.UnitProductions.{step, pattern_element_is_pattern_target}
use Rattle.swc_ecma_codegen_syntax.proofs.Chains.{takes_chain}
use Rattle.swc_ecma_codegen_syntax.proofs.Taken.{chain_takes}
use Rattle.swc_ecma_codegen_uniqueness.specs.ParseTrees.{Variant, ParseTree, End, Read, Node, Fn, Arrow, BlockStmt, EmptyStmt, ExprStmt, IfStmt, LabeledStmt, VarDecl, tokens_of, DoWhileStmt, TryStmt, SwitchStmt, Class as AClass, Foreign}
use Rattle.swc_ecma_codegen_uniqueness.specs.Parses.{is_empty_variant}
use Rattle.swc_ecma_codegen_uniqueness.proofs.Classes.{Class, Infix, Plus, OpenBrace, ElseWord, Semi, Colon, ImportWord, AsyncWord, Semicolon, class, CatchWord, FinallyWord, Over, Assigns, Later, First, Line, Slashed, Jsx, KeyToken, Strange}
use Rattle.swc_ecma_codegen_uniqueness.proofs.Controls.{outside, starts, is_item, is_behind, left, Where, InList, OfIf, OfElse, OfLabel, OfLoop, Control, Closed, ArrowBody, OfArrow, Statement, Entered, AfterFunction, AfterClass, AfterExport, AfterFor, ForHead, Parameter, RestParameter, AfterParameters, AfterWord, Valued, Jump, Headed, Test, Declarators, stands, entered, ImportItem, AsyncItem, AsyncItemLine, InTry, InCatch, InClause, OfDo, closed_by, AfterDo, AfterTry, BehindTry, AfterCatch, CatchParameter, BehindCatch, Case, InMethod, Open, is_behind_any, is_behind_or_empty, variant_of}
use Rattle.swc_ecma_codegen_uniqueness.proofs.Moves.{shift, passed_to, start, started, begin, begun_at, closing, shifted_to}
use Rattle.swc_ecma_codegen_uniqueness.proofs.Tables.{Reduce, Action, Shift, Begin, Enter, Leave, Splice, Wrap, without, with_operand, decide, Enter, Push, Reject, Take, Keep, wrapped_by}
use Rattle.swc_ecma_codegen_uniqueness.proofs.PlaceLaws.{is_keyword, keyword_pushes, is_barred, item_there, place_of, ItemPlace, item_place, enters, is_delayed, is_import_call, import_begins, import_called, is_line, begins_none, async_begins, async_line, async_enters, begins_operand, is_list, list_takes, no_item_wraps}
use Rattle.swc_ecma_codegen_uniqueness.proofs.TableLaws.{takes_on, ended_by}
use Rattle.swc_ecma_codegen_uniqueness.proofs.Machine.{Whole, Rest, Good, Frame, Heads, HeadsBefore, Entering, entering_there, second_enters, third_enters, goes_on, headed, headed_block, wrapped, wrapped_turned, stated, entering, shifted, inner, last, splicing, taking, raised, joined, turned_tokens, left_tokens, keeping, closed, inner_turned, shifted_turned, merged, merged_two, heading}
use Rattle.swc_ecma_codegen_uniqueness.proofs.Shapes.{Operand, takes_self, assignment_taken, left_taken, left_assigned, part_then, ended, tail_rest}

abbrev pub is_open_brace : Class → Bool
is_open_brace OpenBrace = true
is_open_brace c = false

-- ---- with which token an operand begins, and an item

abbrev is_begin : Action → Bool
is_begin Begin = true
is_begin a = false

begin_test : (l : Class) → is_begin (without (Entered OfElse) l) ≡ false
begin_test (Infix Plus) = refl
begin_test (Assigns Slashed) = refl
begin_test (First true opens) = refl
begin_test l = refl

no_begin : (l : Class) → without (Entered OfElse) l ≡ Begin → ⊥
no_begin l h = true≢false (sym (ap is_begin h) ∙ begin_test l)

pub operand_heads : {variant : Variant} {n : Nonterminal} {p : ParseTree} → Good (Whole variant n) p → stands (Entered OfElse) n ≡ true → Heads (λ u. starts (class u) ≡ true) p
unfolding tokens_of
operand_heads (headed {t = t} {m = m} push g) st = λ us. (t, tokens_of m us, refl, begins_operand t (push (Entered OfElse) st))
operand_heads (wrapped {t = t} {m = m} i c w g) st = λ us. operand_heads i (w (Entered OfElse) st).0 (t ∷ tokens_of m us)
operand_heads (wrapped_turned {left = left} {inside = inside} {m = m} {p = p} t u i c w e g same) st = λ us.
    let h = operand_heads i (w (Entered OfElse) st).0 (t ∷ u ∷ tokens_of m us) in
    (h.0, h.1, turned_tokens left inside t u m p us same ∙ h.2, h.3)
operand_heads (headed_block {t = t} push g) st = absurd (no_begin (class t) (push (Entered OfElse) st).0)
operand_heads (stated {left = left} {inside = inside} {m = m} {p = p} t i c w h b g same) st = λ us.
    let k = operand_heads i (w (Entered OfElse) st).0 (t ∷ tokens_of m us) in
    (k.0, k.1, left_tokens left inside t m p us same ∙ k.2, k.3)
operand_heads (raised st c g) s = operand_heads g (st (Entered OfElse) s)

-- an item of a list
abbrev pub GoesOn : Where → Token → Type 0
GoesOn place u = goes_on (without (Statement place) (class u)) ≡ true

-- the `;` of an empty statement
abbrev pub is_semicolon : Class → Bool
is_semicolon Semicolon = true
is_semicolon c = false

-- what a list goes on with, where `empty` says whether an empty statement comes
abbrev pub Follows : Where → Bool → Token → Type 0
Follows place empty u = GoesOn place u × (is_semicolon (class u) ≡ true → empty ≡ true)

-- with which token what stands in a list begins, where no operand does
pub listed_heads : (at : Control) → ((l : Class) → with_operand at l ≡ Wrap → ⊥) → {variant : Variant} {n : Nonterminal} {p : ParseTree} → Good (Whole variant n) p → stands at n ≡ true → Heads (λ u. goes_on (without at (class u)) ≡ true) p
unfolding tokens_of
listed_heads at never (headed {t = t} {m = m} push g) st = λ us. (t, tokens_of m us, refl, ap goes_on (push at st))
listed_heads at never (wrapped {t = t} i c w g) st = absurd (never (class t) (w at st).1)
listed_heads at never (wrapped_turned t u i c w e g same) st = absurd (never (class t) (w at st).1)
listed_heads at never (headed_block {t = t} {m = m} push g) st = λ us. (t, tokens_of m us, refl, ap goes_on (push at st).0)
listed_heads at never (stated {left = left} {inside = inside} {m = m} {p = p} t i c w h b g same) st = λ us.
    let k = b (tokens_of m us) in
    (k.0, k.1, left_tokens left inside t m p us same ∙ k.2, k.3 at st)
listed_heads at never (raised st c g) s = listed_heads at never g (st at s)

-- ---- what begins with `;` is an empty statement

semicolon_is : (l : Class) → is_semicolon l ≡ true → l ≡ Semicolon
semicolon_is Semicolon h = refl
semicolon_is l h = absurd (true≢false (sym h))

no_start : (l : Class) → starts l ≡ true → is_semicolon l ≡ true → ⊥
no_start l h e = true≢false (sym h ∙ ap starts (semicolon_is l e))

no_block : (place : Where) (l : Class) → without (Statement place) l ≡ Begin → is_semicolon l ≡ true → ⊥
no_block place l h e = true≢false (ap is_begin (sym h ∙ ap (without (Statement place)) (semicolon_is l e)))

-- nothing is left of it
abbrev takes_more : Action → Bool
takes_more Shift = true
takes_more Begin = true
takes_more Splice = true
takes_more Take = true
takes_more Keep = true
takes_more a = false

wrapped_test : (l : Class) → takes_more (wrapped_by l) ≡ false
wrapped_test Line = refl
wrapped_test (First true opens) = refl
wrapped_test l = refl

none_without : (at : Control) (w : Variant) (l : Class) (a : Action) → at ≡ Closed w → without at l ≡ a → takes_more a ≡ true → ⊥
none_without at w l a q e h = true≢false (sym h ∙ ap takes_more (sym e ∙ ap (λ c. without c l) q))

none_with : (at : Control) (w : Variant) (l : Class) (a : Action) → at ≡ Closed w → with_operand at l ≡ a → takes_more a ≡ true → ⊥
none_with at w l a q e h = true≢false (sym h ∙ ap takes_more (sym e ∙ ap (λ c. with_operand c l) q) ∙ wrapped_test l)

abbrev is_closed : Control → Bool
is_closed (Closed w) = true
is_closed c = false

rest_closed : {at : Control} {variant : Variant} {n : Nonterminal} {m : ParseTree} (w : Variant) → Good (Rest at variant n) m → at ≡ Closed w → w ≡ variant
rest_closed {at = at} w (shifted {t = t} e g) q = absurd (none_without at w (class t) Shift q e refl)
rest_closed {at = at} w (inner {t = t} st i c e g) q = absurd (none_with at w (class t) Shift q e refl)
rest_closed w (closed v e) q = sym (ap variant_of q) ∙ v
rest_closed w (last v st i e) q = sym (ap variant_of q) ∙ v
rest_closed {at = at} w (inner_turned t u st i c e k g same) q = absurd (none_with at w (class t) Shift q e refl)
rest_closed {at = at} w (shifted_turned {t = t} e k g) q = absurd (none_without at w (class t) Shift q e refl)
rest_closed w (entering h g) q = rest_closed w g (ap entered q)
rest_closed {at = at} w (merged_two t u e k a g) q = absurd (none_without at w (class t) Begin q e refl)
rest_closed {at = at} w (merged t u v e k i j a g) q = absurd (none_without at w (class t) Begin q e refl)
rest_closed {at = at} w (splicing t st i c e g same) q = absurd (none_with at w (class t) Splice q e refl)
rest_closed {at = at} w (taking st i h g same) q = let k = h [] in absurd (none_with at w (class k.0) Take q k.3.1 refl)
rest_closed {at = at} w (keeping st i h g) q = let k = h [] in absurd (none_with at w (class k.0) Keep q k.3.1 refl)
rest_closed w (heading st f i c e g) q = absurd (true≢false (sym (ap is_closed q)))

same_head : (x y : Token) (us vs : List Token) → x ∷ us ≡ y ∷ vs → x ≡ y
same_head x y us vs e = cc e

closed_empty : {variant : Variant} {n : Nonterminal} {m : ParseTree} (t : Token) → Good (Rest (start t) variant n) m → is_semicolon (class t) ≡ true → is_empty_variant variant ≡ true
unfolding is_empty_variant
closed_empty t g e = sym (ap is_empty_variant (rest_closed EmptyStmt g (ap started (semicolon_is (class t) e))))

-- with which token an item begins; with `;` an empty statement alone
pub item_heads : (place : Where) {variant : Variant} {n : Nonterminal} {p : ParseTree} → Good (Whole variant n) p → stands (Statement place) n ≡ true → Heads (λ u. GoesOn place u × (is_semicolon (class u) ≡ true → is_empty_variant variant ≡ true)) p
unfolding tokens_of
item_heads place (headed {t = t} {m = m} push g) st = λ us. (t, tokens_of m us, refl, (ap goes_on (push (Statement place) st), λ e. closed_empty t g e))
item_heads place (wrapped {t = t} i c w g) st = absurd (no_item_wraps place (class t) (w (Statement place) st).1)
item_heads place (wrapped_turned t u i c w e g same) st = absurd (no_item_wraps place (class t) (w (Statement place) st).1)
item_heads place (headed_block {t = t} {m = m} push g) st = λ us.
    let x = push (Statement place) st in (t, tokens_of m us, refl, (ap goes_on x.0, λ e. absurd (no_block place (class t) x.0 e)))
item_heads place (stated {left = left} {inside = inside} {m = m} {p = p} t i c w h b g same) st = λ us.
    let k = b (tokens_of m us) in
    let o = operand_heads i (w (Statement place) st).0 (t ∷ tokens_of m us) in
    (k.0, k.1, left_tokens left inside t m p us same ∙ k.2, (k.3 (Statement place) st, λ e. absurd (no_start (class k.0) (subst (λ z. starts (class z) ≡ true) (same_head o.0 k.0 o.1 k.1 (sym o.2 ∙ k.2)) o.3) e)))
item_heads place (raised st c g) s = item_heads place g (st (Statement place) s)

-- ---- a statement in another, and in a list

-- what may stand right behind an item: `else`, an empty statement, or another
pub data Follower : Type 0 where
  AnElse AnEmpty Another : Follower

abbrev pub follower_by : (before_else before_empty : Bool) → Follower
follower_by true before_empty = AnElse
follower_by false true = AnEmpty
follower_by false false = Another

abbrev pub follower : Parameters → Follower
follower c = follower_by c.before_else c.before_empty

abbrev pub is_else : Follower → Bool
is_else AnElse = true
is_else b = false

abbrev pub is_an_empty : Follower → Bool
is_an_empty AnEmpty = true
is_an_empty b = false

pub no_else : (b e : Bool) → b ≡ false → is_else (follower_by b e) ≡ false
no_else true e h = absurd (true≢false h)
no_else false true h = refl
no_else false false h = refl

pub no_empty : (b e : Bool) → not e ≡ true → is_an_empty (follower_by b e) ≡ false
no_empty true e h = refl
no_empty false true h = absurd (true≢false (sym h))
no_empty false false h = refl

-- the nonterminal of an item
abbrev pub item_of : Follower → Nonterminal
item_of AnElse = nt.Block
item_of AnEmpty = nt.StatementListItem
item_of Another = nt.Statement

pub item_stands : (b : Follower) (place : Where) → stands (Statement place) (item_of b) ≡ true
unfolding takes is_uncovered is_private
item_stands AnElse place = refl
item_stands AnEmpty place = refl
item_stands Another place = refl

is_an_item : (b : Follower) → is_item (item_of b) ≡ true
is_an_item AnElse = refl
is_an_item AnEmpty = refl
is_an_item Another = refl

keyword_begun : (t : Token) (variant : Variant) (b : Follower) (c : Control) (m : ParseTree) → is_keyword (class t) ≡ true → start t ≡ c → Good (Rest c variant (item_of b)) m → Good (Whole variant (item_of b)) (Read t m)
keyword_begun t variant b c m k e g = headed (keyword_pushes t (item_of b) k (is_an_item b)) (subst (λ z. Good (Rest z variant (item_of b)) m) (sym e) g)

any_behind : (b : Follower) (l : Class) → closed_by l (item_of b) ≡ true → is_behind_any l ≡ true
any_behind AnElse Semicolon h = refl
any_behind AnElse l h = h
any_behind AnEmpty Semicolon h = refl
any_behind AnEmpty ElseWord h = refl
any_behind AnEmpty l h = h
any_behind Another Semicolon h = refl
any_behind Another ElseWord h = refl
any_behind Another l h = h

-- what ends an item ends the one that it is the last part of
reduced : (b : Follower) (l : Class) → closed_by l (item_of b) ≡ true → cond (is_behind_any l) Reduce Reject ≡ Reduce
reduced b l h = ap (λ k. cond k Reduce Reject) (any_behind b l h)

if_reduced : (b : Follower) (l : Class) → is_else b ≡ false → closed_by l (item_of b) ≡ true → with_operand (Statement OfIf) l ≡ Reduce
if_reduced AnElse l e h = absurd (true≢false e)
if_reduced AnEmpty ElseWord e h = absurd (true≢false (sym h))
if_reduced AnEmpty l e h = reduced AnEmpty l h
if_reduced Another ElseWord e h = absurd (true≢false (sym h))
if_reduced Another l e h = reduced Another l h

stands_too : (c : Control) → ItemPlace c → stands c (item_of AnEmpty) ≡ true
stands_too c (item_place place) = item_stands AnEmpty place

empty_too : (l : Class) → is_behind l ≡ true → is_behind_or_empty l ≡ true
empty_too Semicolon h = refl
empty_too l h = h

pub if_alone : (b : Follower) {s v : Variant} {p q : ParseTree} → is_else b ≡ false → Operand nt.Expression s p → Good (Whole v (item_of b)) q →
    Good (Whole IfStmt (item_of b)) (Read (word (codes "if")) (Read (punctuator (codes "(")) (Node s p (Read (punctuator (codes ")")) (Node v q End)))))
unfolding word punctuator
if_alone b {v = v} {q = q} i o g =
    keyword_begun (word (codes "if")) IfStmt b (Headed IfStmt) _ refl refl
    (shifted refl (part_then (Test IfStmt) (Read (punctuator (codes ")")) (Node v q End)) (takes_self nt.Expression) o
    (takes_self nt.Expression, λ z. refl, last refl (item_stands b OfIf) g (λ t e. (e, if_reduced b (class t) i e)))))

pub if_else : (b : Follower) {s v w : Variant} {p q r : ParseTree} → Operand nt.Expression s p → Good (Whole v nt.Block) q → Good (Whole w (item_of b)) r →
    Good (Whole IfStmt (item_of b)) (Read (word (codes "if")) (Read (punctuator (codes "(")) (Node s p (Read (punctuator (codes ")")) (Node v q (Read (word (codes "else")) (Node w r End)))))))
unfolding word punctuator
if_else b {v = v} {w = w} {q = q} {r = r} o g h =
    keyword_begun (word (codes "if")) IfStmt b (Headed IfStmt) _ refl refl
    (shifted refl (part_then (Test IfStmt) (Read (punctuator (codes ")")) (Node v q (Read (word (codes "else")) (Node w r End)))) (takes_self nt.Expression) o
    (takes_self nt.Expression, λ z. refl, inner (item_stands AnElse OfIf) g refl refl (last refl (item_stands b OfElse) h (λ t e. (e, reduced b (class t) e))))))

-- the body of a loop
pub loop_body : (b : Follower) (variant : Variant) {v : Variant} {q : ParseTree} → Good (Whole v (item_of b)) q → Good (Rest (Statement (OfLoop variant)) variant (item_of b)) (Node v q End)
loop_body b variant g = last refl (item_stands b (OfLoop variant)) g (λ t e. (e, reduced b (class t) e))

-- `while (a) b`, `with (a) b`
pub looped : (t : Token) (variant : Variant) (b : Follower) {s v : Variant} {p q : ParseTree} → is_keyword (class t) ≡ true → start t ≡ Headed variant → passed_to (Test variant) (class (punctuator (codes ")"))) ≡ Statement (OfLoop variant) →
    Operand nt.Expression s p → Good (Whole v (item_of b)) q → Good (Whole variant (item_of b)) (Read t (Read (punctuator (codes "(")) (Node s p (Read (punctuator (codes ")")) (Node v q End)))))
unfolding punctuator
looped t variant b {v = v} {q = q} k e i o g =
    keyword_begun t variant b (Headed variant) _ k e
    (shifted refl (part_then (Test variant) (Read (punctuator (codes ")")) (Node v q End)) (takes_self nt.Expression) o
    (takes_self nt.Expression, λ z. refl, subst (λ z. Good (Rest z variant (item_of b)) (Node v q End)) (sym i) (loop_body b variant g))))

-- `for (`, `for await (`
pub for_begun : (b : Follower) (variant : Variant) {m : ParseTree} → Good (Rest ForHead variant (item_of b)) m → Good (Whole variant (item_of b)) (Read (word (codes "for")) (Read (punctuator (codes "(")) m))
unfolding word punctuator
for_begun b variant g = keyword_begun (word (codes "for")) variant b AfterFor _ refl refl (shifted refl g)

pub for_await_begun : (b : Follower) (variant : Variant) {m : ParseTree} → Good (Rest ForHead variant (item_of b)) m →
    Good (Whole variant (item_of b)) (Read (word (codes "for")) (Read (word (codes "await")) (Read (punctuator (codes "(")) m)))
unfolding word punctuator
for_await_begun b variant g = keyword_begun (word (codes "for")) variant b AfterFor _ refl refl (shifted refl (shifted refl g))

-- `return;`, `return a;`, `break a;`
pub word_alone : (t : Token) (variant : Variant) (b : Follower) → is_keyword (class t) ≡ true → start t ≡ AfterWord variant → Good (Whole variant (item_of b)) (Read t (Read ending End))
unfolding ending
word_alone t variant b k e = keyword_begun t variant b (AfterWord variant) _ k e (shifted refl (ended variant (item_of b)))

pub word_valued : (t : Token) (variant : Variant) (b : Follower) {s : Variant} {p : ParseTree} → is_keyword (class t) ≡ true → start t ≡ AfterWord variant → shift (AfterWord variant) None same_line ≡ Valued variant → Operand nt.Expression s p →
    Good (Whole variant (item_of b)) (Read t (Read same_line (Node s p (Read ending End))))
unfolding ending same_line
word_valued t variant b {s = s} {p = p} k e i o =
    keyword_begun t variant b (AfterWord variant) _ k e
    (shifted refl (subst (λ z. Good (Rest z variant (item_of b)) (Node s p (Read ending End))) (sym i)
    (part_then (Valued variant) (Read ending End) (takes_self nt.Expression) o (takes_self nt.Expression, λ z. refl, ended variant (item_of b)))))

pub word_labelled : (t name : Token) (variant : Variant) (b : Follower) → is_keyword (class t) ≡ true → start t ≡ AfterWord variant → shift (AfterWord variant) None same_line ≡ Jump variant → decide (Jump variant) None name ≡ Shift →
    Good (Whole variant (item_of b)) (Read t (Read same_line (Read name (Read ending End))))
unfolding ending same_line
word_labelled t name variant b k e i n =
    keyword_begun t variant b (AfterWord variant) _ k e
    (shifted refl (subst (λ z. Good (Rest z variant (item_of b)) (Read name (Read ending End))) (sym i) (shifted n (shifted refl (ended variant (item_of b))))))

pub empty_good : (b : Follower) → Good (Whole EmptyStmt (item_of b)) (Read (punctuator (codes ";")) End)
unfolding punctuator
empty_good b = keyword_begun (punctuator (codes ";")) EmptyStmt b (Closed EmptyStmt) End refl refl (ended EmptyStmt (item_of b))

-- what begins with an operand that is entered: `a;`, `a: b;`, `import(a);`
pub data MayEnter (bars : Class → Bool) : List Token → Type 0 where
  at_once : {u : Token} {ts : List Token} → starts (class u) ≡ true → bars (class u) ≡ false → is_delayed (class u) ≡ false → MayEnter bars (u ∷ ts)
  behind_import : {u v : Token} {ts : List Token} → class u ≡ ImportWord → is_import_call (class v) ≡ true → MayEnter bars (u ∷ v ∷ ts)
  behind_async : {u v w : Token} {ts : List Token} → class u ≡ AsyncWord → is_line (class v) ≡ true → begins_none (class w) ≡ false → MayEnter bars (u ∷ v ∷ w ∷ ts)

-- before a token
abbrev pub MayStand : Token → ParseTree → Type 0
MayStand t p = (us : List Token) → MayEnter is_barred (tokens_of p (t ∷ us))

entered_there : (f : Frame) → ItemPlace f.control → (ts : List Token) → MayEnter is_barred ts → Entering f ts
entered_there f i ts (at_once {u = u} {ts = vs} h b k) = λ s. entering_there f s (u ∷ vs) u vs refl (enters u h b k f.control i)
entered_there f i ts (behind_import {u = u} {v = v} {ts = vs} e k) =
    let x = import_begins f.control i in
    let y = import_called (class v) k in
    second_enters f u v vs ImportItem Shift (ap (without f.control) e ∙ x.0) (ap (begun_at f.control) e ∙ x.1) y.0 (ap (without (entered f.control)) e ∙ x.2) (ap started e) y.1 refl
entered_there f i ts (behind_async {u = u} {v = v} {w = w} {ts = vs} e h k) =
    let x = async_begins f.control i in
    let y = async_line (class v) h in
    let z = async_enters (class w) k in
    third_enters f u v w vs AsyncItem AsyncItemLine Enter (ap (without f.control) e ∙ x.0) (ap (begun_at f.control) e ∙ x.1) y.0 y.1 z.0 (ap (without (entered f.control)) e ∙ x.2) (ap started e) y.4 y.5 z.2 refl

entered_heads : (ts : List Token) → MayEnter is_barred ts → (u : Token) × (vs : List Token) × (ts ≡ u ∷ vs) × ((c : Control) → ItemPlace c → goes_on (decide c None u) ≡ true)
entered_heads ts (at_once {u = u} {ts = vs} h b k) = (u, vs, refl, λ c i. ap goes_on (enters u h b k c i).0)
entered_heads ts (behind_import {u = u} {v = v} {ts = vs} e k) = (u, v ∷ vs, refl, λ c i. ap goes_on (ap (without c) e ∙ (import_begins c i).0))
entered_heads ts (behind_async {u = u} {v = v} {w = w} {ts = vs} e h k) = (u, v ∷ w ∷ vs, refl, λ c i. ap goes_on (ap (without c) e ∙ (async_begins c i).0))

item_place_of : (b : Follower) (c : Control) → stands c (item_of b) ≡ true → ItemPlace c
item_place_of b c st = place_of c (item_there (item_of b) (is_an_item b) c st)

-- where the operand stands, and the token behind it ends its place
abbrev Left : Control → Nonterminal → Variant → Token → Type 0
Left c k s t = (stands (entered c) k ≡ true) × (decide (entered c) (Some s) t ≡ Leave) × (outside (entered c) ≡ c)

left_there : (k : Nonterminal) (s : Variant) (t : Token) → takes nt.Expression k ≡ true → ((place : Where) → decide (Entered place) (Some s) t ≡ Leave) → (c : Control) → ItemPlace c → Left c k s t
left_there k s t h e c (item_place place) = (or_left _ _ h, e place, refl)

stated_heads : (b : Follower) (t : Token) (p : ParseTree) → MayStand t p → HeadsBefore t (λ u. (c : Control) → stands c (item_of b) ≡ true → goes_on (decide c None u) ≡ true) p
stated_heads b t p h = λ us. let k = entered_heads _ (h us) in (k.0, k.1, k.2, λ c st. k.3 c (item_place_of b c st))

pub expression_stated : (b : Follower) {s : Variant} {p : ParseTree} → Operand nt.Expression s p → MayStand ending p → Good (Whole ExprStmt (item_of b)) (Node s p (Read ending End))
unfolding ending
expression_stated b {s = s} {p = p} o h =
    stated ending o.good (ended_by Semi o.of o.taken) (λ c st. left_there o.of s ending o.taken (λ place. refl) c (item_place_of b c st)) (λ f us st. entered_there f (item_place_of b f.control st) _ (h us)) (stated_heads b ending p h)
    (ended ExprStmt (item_of b)) refl

pub labelled : (b : Follower) (name : Token) {n : Nonterminal} {s v : Variant} {q : ParseTree} → takes nt.Expression n ≡ true → Good (Whole s n) (Read name End) → MayStand (punctuator (codes ":")) (Read name End) → Good (Whole v (item_of b)) q →
    Good (Whole LabeledStmt (item_of b)) (Read name (Read (punctuator (codes ":")) (Node v q End)))
unfolding punctuator
labelled b name {n = n} {s = s} t g h body =
    stated (punctuator (codes ":")) g (ended_by Colon n t) (λ c st. left_there n s (punctuator (codes ":")) t (λ place. refl) c (item_place_of b c st)) (λ f us st. entered_there f (item_place_of b f.control st) _ (h us))
    (stated_heads b (punctuator (codes ":")) (Read name End) h) (last refl (item_stands b OfLabel) body (λ t e. (e, reduced b (class t) e))) refl

-- ---- lists

goes_behind : (place : Where) (l : Class) → goes_on (without (Statement place) l) ≡ true → is_behind_or_empty l ≡ true
goes_behind (InList ends) ElseWord h = absurd (true≢false (sym h))
goes_behind place ElseWord h = absurd (true≢false (sym h))
goes_behind (InList ends) CatchWord h = absurd (true≢false (sym h))
goes_behind place CatchWord h = absurd (true≢false (sym h))
goes_behind (InList ends) FinallyWord h = absurd (true≢false (sym h))
goes_behind place FinallyWord h = absurd (true≢false (sym h))
goes_behind (InList ends) Semi h = absurd (true≢false (sym h))
goes_behind place Semi h = absurd (true≢false (sym h))
goes_behind (InList ends) KeyToken h = absurd (true≢false (sym h))
goes_behind place KeyToken h = absurd (true≢false (sym h))
goes_behind (InList ends) Strange h = absurd (true≢false (sym h))
goes_behind place Strange h = absurd (true≢false (sym h))
goes_behind (InList ends) Line h = absurd (true≢false (sym h))
goes_behind place Line h = absurd (true≢false (sym h))
goes_behind (InList ends) (Jsx part) h = absurd (true≢false (sym h))
goes_behind place (Jsx part) h = absurd (true≢false (sym h))
goes_behind place l h = refl

empty_only : (l : Class) → is_behind_or_empty l ≡ true → (is_semicolon l ≡ true → false ≡ true) → is_behind l ≡ true
empty_only Semicolon h k = absurd (true≢false (sym (k refl)))
empty_only l h k = h

ends_item : (place : Where) (empty : Bool) (l : Class) → goes_on (without (Statement place) l) ≡ true → (is_semicolon l ≡ true → empty ≡ true) → closed_by l (item_of (follower_by false empty)) ≡ true
ends_item place true l h k = goes_behind place l h
ends_item place false l h k = empty_only l (goes_behind place l h) k

list_ends : (place : Where) → is_list place ≡ true → (without (Statement place) (class (punctuator (codes "}"))) ≡ Shift) × (shifted_to (Statement place) (class (punctuator (codes "}"))) ≡ closing place)
unfolding punctuator
list_ends (InList ends) h = (refl, refl)
list_ends InTry h = (refl, refl)
list_ends InCatch h = (refl, refl)
list_ends InMethod h = (refl, refl)
list_ends place h = absurd (true≢false (sym h))

pub no_items : (place : Where) (variant : Variant) (n : Nonterminal) {m : ParseTree} → is_list place ≡ true → Good (Rest (closing place) variant n) m → Good (Rest (Statement place) variant n) (Read (punctuator (codes "}")) m)
no_items place variant n {m = m} h g = let e = list_ends place h in shifted e.0 (subst (λ z. Good (Rest z variant n) m) (sym e.1) g)

pub end_heads : (place : Where) (m : ParseTree) → is_list place ≡ true → Heads (Follows place false) (Read (punctuator (codes "}")) m)
unfolding tokens_of punctuator
end_heads place m h = λ us. (punctuator (codes "}"), tokens_of m us, refl, (ap goes_on (list_ends place h).0, λ e. absurd (true≢false (sym e))))

pub item_then : (place : Where) (variant : Variant) (n : Nonterminal) (empty : Bool) {v : Variant} {p m q : ParseTree} → is_list place ≡ true → Good (Whole v (item_of (follower_by false empty))) p → Heads (Follows place empty) m →
    Good (Rest (Statement place) variant n) m → q ≡ joined p m → Good (Rest (Statement place) variant n) q
item_then place variant n empty i g h r e =
    taking (item_stands (follower_by false empty) place) g (λ us. let k = h us in (k.0, k.1, k.2, (ends_item place empty (class k.0) k.3.0 k.3.1, list_takes place (class k.0) i, k.3.0))) r e

-- behind `case a:`
pub clause_item : (variant : Variant) (n : Nonterminal) (empty : Bool) {v : Variant} {p m : ParseTree} → Good (Whole v (item_of (follower_by false empty))) p → Heads (Follows InClause empty) m → Good (Rest (Statement InClause) variant n) m →
    Good (Rest (Statement InClause) variant n) (Node v p m)
clause_item variant n empty g h r =
    keeping (item_stands (follower_by false empty) InClause) g (λ us. let k = h us in (k.0, k.1, k.2, (ends_item InClause empty (class k.0) k.3.0 k.3.1, refl, k.3.0))) r

-- `{ .. }`
begun_there : (c : Control) → ItemPlace c → (decide c None (punctuator (codes "{")) ≡ Begin) × (begin c (punctuator (codes "{")) ≡ Statement (InList BlockStmt))
unfolding punctuator
begun_there c (item_place place) = (refl, refl)

block_begins : (b : Follower) (c : Control) → stands c (item_of b) ≡ true → (decide c None (punctuator (codes "{")) ≡ Begin) × (begin c (punctuator (codes "{")) ≡ Statement (InList BlockStmt))
block_begins b c st = begun_there c (item_place_of b c st)

pub block_good : (b : Follower) {m : ParseTree} → Good (Rest (Statement (InList BlockStmt)) BlockStmt (item_of b)) m → Good (Whole BlockStmt (item_of b)) (Read (punctuator (codes "{")) m)
block_good b g = headed_block (block_begins b) g

-- ---- declarations of variables

pub declarators_begun : (t : Token) (b : Follower) {m : ParseTree} → is_keyword (class t) ≡ true → start t ≡ Declarators → Good (Rest Declarators VarDecl (item_of b)) m → Good (Whole VarDecl (item_of b)) (Read t m)
declarators_begun t b {m = m} k e g = keyword_begun t VarDecl b Declarators m k e g

pub primary_assigned : takes nt.AssignmentExpression nt.PrimaryExpression ≡ true
primary_assigned = takes_on nt.AssignmentExpression nt.LeftHandSideExpression nt.PrimaryExpression left_assigned left_taken

pub primary_expression : takes nt.Expression nt.PrimaryExpression ≡ true
primary_expression = takes_on nt.Expression nt.AssignmentExpression nt.PrimaryExpression assignment_taken primary_assigned

pub target_element : (n : Nonterminal) → takes nt.PatternTarget n ≡ true → takes nt.PatternElement n ≡ true
target_element n h = chain_takes nt.PatternElement n (step pattern_element_is_pattern_target (takes_chain nt.PatternTarget n h))

-- ---- `do`, `try`, `switch`

pub do_good : (b : Follower) {v s : Variant} {q p m : ParseTree} → Good (Whole v nt.Statement) q → Operand nt.Expression s p → Good (Rest AfterDo DoWhileStmt (item_of b)) m →
    Good (Whole DoWhileStmt (item_of b)) (Read (word (codes "do")) (Node v q (Read (word (codes "while")) (Read (punctuator (codes "(")) (Node s p (Read (punctuator (codes ")")) m))))))
unfolding word punctuator
do_good b {m = m} g o h =
    keyword_begun (word (codes "do")) DoWhileStmt b (Statement OfDo) _ refl refl
    (inner (item_stands Another OfDo) g refl refl (shifted refl (part_then (Test DoWhileStmt) (Read (punctuator (codes ")")) m) (takes_self nt.Expression) o (takes_self nt.Expression, λ z. refl, h))))

no_semi : (b : Follower) (l : Class) → is_an_empty b ≡ false → closed_by l (item_of b) ≡ true → without AfterDo l ≡ Reduce
no_semi AnEmpty l e h = absurd (true≢false e)
no_semi AnElse Semi e h = absurd (true≢false (sym h))
no_semi AnElse l e h = ap (λ k. cond k Reduce Reject) h
no_semi Another Semi e h = absurd (true≢false (sym h))
no_semi Another ElseWord e h = absurd (true≢false (sym h))
no_semi Another l e h = ap (λ k. cond k Reduce Reject) h

-- but before an empty statement, whose `;` would be its own
pub do_ends : (b : Follower) → is_an_empty b ≡ false → Good (Rest AfterDo DoWhileStmt (item_of b)) End
do_ends b e = closed refl (λ t h. no_semi b (class t) e h)

pub do_ended : (b : Follower) → Good (Rest AfterDo DoWhileStmt (item_of b)) (Read ending End)
unfolding ending
do_ended b = shifted refl (ended DoWhileStmt (item_of b))

pub try_begun : (b : Follower) {m : ParseTree} → Good (Rest (Statement InTry) TryStmt (item_of b)) m → Good (Whole TryStmt (item_of b)) (Read (word (codes "try")) (Read (punctuator (codes "{")) m))
unfolding word punctuator
try_begun b {m = m} g = keyword_begun (word (codes "try")) TryStmt b AfterTry _ refl refl (shifted refl g)

no_finally : (b : Follower) (l : Class) → closed_by l (item_of b) ≡ true → without BehindCatch l ≡ Reduce
no_finally AnElse FinallyWord h = absurd (true≢false (sym h))
no_finally AnEmpty FinallyWord h = absurd (true≢false (sym h))
no_finally Another FinallyWord h = absurd (true≢false (sym h))
no_finally b l h = reduced b l h

pub try_ends : (b : Follower) → Good (Rest BehindCatch TryStmt (item_of b)) End
try_ends b = closed refl (λ t h. no_finally b (class t) h)

pub finally_then : (n : Nonterminal) {m : ParseTree} → Good (Rest (Statement (InList TryStmt)) TryStmt n) m →
    Good (Rest BehindTry TryStmt n) (Read (word (codes "finally")) (Read (punctuator (codes "{")) m)) × Good (Rest BehindCatch TryStmt n) (Read (word (codes "finally")) (Read (punctuator (codes "{")) m))
unfolding word punctuator
finally_then n g = (shifted refl (shifted refl g), shifted refl (shifted refl g))

pub catch_then : (n : Nonterminal) {m : ParseTree} → Good (Rest AfterCatch TryStmt n) m → Good (Rest BehindTry TryStmt n) (Read (word (codes "catch")) m)
unfolding word
catch_then n g = shifted refl g

pub catch_block : (n : Nonterminal) {m : ParseTree} → Good (Rest (Statement InCatch) TryStmt n) m → Good (Rest AfterCatch TryStmt n) (Read (punctuator (codes "{")) m)
unfolding punctuator
catch_block n g = shifted refl g

pub catch_parameter : (n : Nonterminal) {s : Variant} {p m : ParseTree} → Operand nt.LeftHandSideExpression s p → Good (Rest (Statement InCatch) TryStmt n) m →
    Good (Rest AfterCatch TryStmt n) (Read (punctuator (codes "(")) (Node s p (Read (punctuator (codes ")")) (Read (punctuator (codes "{")) m))))
unfolding punctuator
catch_parameter n {m = m} o g =
    shifted refl (part_then CatchParameter (Read (punctuator (codes ")")) (Read (punctuator (codes "{")) m)) (takes_self nt.LeftHandSideExpression) o
    (takes_on nt.Expression nt.AssignmentExpression nt.LeftHandSideExpression assignment_taken left_assigned, λ z. refl, shifted refl g))

pub switch_begun : (b : Follower) {s : Variant} {p m : ParseTree} → Operand nt.Expression s p → Good (Rest (Statement InClause) SwitchStmt (item_of b)) m →
    Good (Whole SwitchStmt (item_of b)) (Read (word (codes "switch")) (Read (punctuator (codes "(")) (Node s p (Read (punctuator (codes ")")) (Read (punctuator (codes "{")) m)))))
unfolding word punctuator
switch_begun b {m = m} o g =
    keyword_begun (word (codes "switch")) SwitchStmt b (Headed SwitchStmt) _ refl refl
    (shifted refl (part_then (Test SwitchStmt) (Read (punctuator (codes ")")) (Read (punctuator (codes "{")) m)) (takes_self nt.Expression) o (takes_self nt.Expression, λ z. refl, shifted refl g)))

pub switch_ends : (n : Nonterminal) → Good (Rest (Statement InClause) SwitchStmt n) (Read (punctuator (codes "}")) End) × Heads (Follows InClause false) (Read (punctuator (codes "}")) End)
unfolding punctuator tokens_of
switch_ends n = (shifted refl (ended SwitchStmt n), λ us. (_, us, refl, (refl, λ e. absurd (true≢false (sym e)))))

pub case_then : (n : Nonterminal) {s : Variant} {p m : ParseTree} → Operand nt.Expression s p → Good (Rest (Statement InClause) SwitchStmt n) m →
    Good (Rest (Statement InClause) SwitchStmt n) (Read (word (codes "case")) (Node s p (Read (punctuator (codes ":")) m))) × Heads (Follows InClause false) (Read (word (codes "case")) (Node s p (Read (punctuator (codes ":")) m)))
unfolding word punctuator tokens_of
case_then n {m = m} o g = (shifted refl (part_then Case (Read (punctuator (codes ":")) m) (takes_self nt.Expression) o (takes_self nt.Expression, λ z. refl, g)), λ us. (_, _, refl, (refl, λ e. absurd (true≢false (sym e)))))

pub default_then : (n : Nonterminal) {m : ParseTree} → Good (Rest (Statement InClause) SwitchStmt n) m →
    Good (Rest (Statement InClause) SwitchStmt n) (Read (word (codes "default")) (Read (punctuator (codes ":")) m)) × Heads (Follows InClause false) (Read (word (codes "default")) (Read (punctuator (codes ":")) m))
unfolding word punctuator tokens_of
default_then n g = (shifted refl (shifted refl g), λ us. (_, _, refl, (refl, λ e. absurd (true≢false (sym e)))))

-- ---- functions

-- where a function stands: of what its body is, and the node that it is in
pub record Within : Type 0 where
  pub place : Where
  pub variant : Variant
  pub of : Nonterminal

-- a parameter that no link holds, and the token behind it
pub parameter_then : (t : Token) (n : Within) (k : Nonterminal) {v : Variant} {p m q : ParseTree} → takes nt.AssignmentExpression k ≡ true → Good (Whole v k) p → takes (left (class t)) nt.AssignmentExpression ≡ true →
    ((s : Variant) → decide (Parameter n.place) (Some s) t ≡ Splice) → Good (Rest (passed_to (Parameter n.place) (class t)) n.variant n.of) m → q ≡ joined p (Read t m) → Good (Rest (Parameter n.place) n.variant n.of) q
parameter_then t n k {v = v} h g c e r same = splicing t (or_left _ _ h) g (ended_by (class t) k (takes_on (left (class t)) nt.AssignmentExpression k c h)) (e v) r same

pub rest_then : (n : Within) {v : Variant} {p m : ParseTree} → Operand nt.LeftHandSideExpression v p → Good (Rest (AfterParameters n.place) n.variant n.of) m →
    Good (Rest (Parameter n.place) n.variant n.of) (Read (punctuator (codes "...")) (Node v p (Read (punctuator (codes ")")) m)))
unfolding punctuator
rest_then n {m = m} o g =
    shifted refl (part_then (RestParameter n.place) (Read (punctuator (codes ")")) m) (takes_self nt.LeftHandSideExpression) o
    (takes_on nt.Expression nt.AssignmentExpression nt.LeftHandSideExpression assignment_taken left_assigned, λ z. refl, g))

pub no_parameters_then : (n : Within) {m : ParseTree} → Good (Rest (AfterParameters n.place) n.variant n.of) m → Good (Rest (Parameter n.place) n.variant n.of) (Read (punctuator (codes ")")) m)
unfolding punctuator
no_parameters_then n g = shifted refl g

pub parameters_end : (n : Within) {m : ParseTree} → Good (Rest (Statement n.place) n.variant n.of) m → Good (Rest (AfterParameters n.place) n.variant n.of) (Read (punctuator (codes "{")) m)
unfolding punctuator
parameters_end n g = shifted refl g

-- `async function a() {}`
pub async_item : (b : Follower) {m : ParseTree} → Good (Rest AfterFunction Fn (item_of b)) m → Good (Whole Fn (item_of b)) (Read (word (codes "async")) (Read same_line (Read (word (codes "function")) m)))
unfolding word same_line
async_item b g = headed_block (λ c st. let x = async_begins c (item_place_of b c st) in (x.0, x.1)) (shifted refl (shifted refl g))

pub import_item : {m : ParseTree} → Good (Rest ImportItem Foreign (item_of AnEmpty)) m → Good (Whole Foreign (item_of AnEmpty)) (Read (word (codes "import")) m)
unfolding word
import_item g = headed_block (λ c st. let x = import_begins c (item_place_of AnEmpty c st) in (x.0, x.1)) g

pub export_item : {v : Variant} {m : ParseTree} → Good (Rest AfterExport v (item_of AnEmpty)) m → Good (Whole v (item_of AnEmpty)) (Read (word (codes "export")) m)
unfolding word
export_item {v = v} {m = m} g = keyword_begun (word (codes "export")) v AnEmpty AfterExport m refl refl g

-- what may stand before an empty statement may stand before any
pub before_any : (empty : Bool) {v : Variant} {p : ParseTree} → Good (Whole v (item_of AnEmpty)) p → Good (Whole v (item_of (follower_by false empty))) p
before_any true g = g
before_any false g = raised (λ c st. stands_too c (item_place_of Another c st)) (λ t h. empty_too (class t) h) g

pub class_item : (b : Follower) {m : ParseTree} → Good (Rest AfterClass AClass (item_of b)) m → Good (Whole AClass (item_of b)) (Read (word (codes "class")) m)
unfolding word
class_item b {m = m} g = keyword_begun (word (codes "class")) AClass b AfterClass m refl refl g

pub function_item : (b : Follower) {m : ParseTree} → Good (Rest AfterFunction Fn (item_of b)) m → Good (Whole Fn (item_of b)) (Read (word (codes "function")) m)
unfolding word
function_item b {m = m} g = keyword_begun (word (codes "function")) Fn b AfterFunction m refl refl g

-- ---- arrow functions

value_enters : (l : Class) → is_open_brace l ≡ false → starts l ≡ true → (without ArrowBody l ≡ Enter) × (without (Open OfArrow) l ≡ Push)
value_enters OpenBrace h k = absurd (true≢false h)
value_enters (Infix Over) h k = absurd (true≢false (sym k))
value_enters (Assigns Slashed) h k = absurd (true≢false (sym k))
value_enters (First true opens) h k = absurd (true≢false (sym k))
value_enters (Later tagged opens) h k = absurd (true≢false (sym k))
value_enters Line h k = absurd (true≢false (sym k))
value_enters Semi h k = absurd (true≢false (sym k))
value_enters Semicolon h k = absurd (true≢false (sym k))
value_enters KeyToken h k = absurd (true≢false (sym k))
value_enters Strange h k = absurd (true≢false (sym k))
value_enters (Jsx part) h k = absurd (true≢false (sym k))
value_enters l h k = (refl, refl)

-- a value, and a block
pub arrow_value : {s : Variant} {p : ParseTree} → Operand nt.AssignmentExpression s p → Heads (λ u. (is_open_brace (class u) ≡ false) × (starts (class u) ≡ true)) p → Good (Rest ArrowBody Arrow nt.AssignmentExpression) (Node s p End)
unfolding tokens_of
arrow_value {s = s} {p = p} o h =
    entering (λ b q t us w. let k = h (t ∷ us) in entering_there (record { control = ArrowBody; so_far = b; other = q }) w (tokens_of p (t ∷ us)) k.0 k.1 k.2 (value_enters (class k.0) k.3.0 k.3.1)) (tail_rest OfArrow o)

pub arrow_block : {m : ParseTree} → Good (Rest (Statement (InList Arrow)) Arrow nt.AssignmentExpression) m → Good (Rest ArrowBody Arrow nt.AssignmentExpression) (Read (punctuator (codes "{")) m)
unfolding punctuator
arrow_block g = shifted refl g
