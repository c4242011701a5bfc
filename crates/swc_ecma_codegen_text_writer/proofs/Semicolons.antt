-- Calls of a writer that holds semicolons back, made of calls of the writer under it.
use Rattle.std.proofs.Common.{◌≡◌, inl, inr, ℕ, ◌+◌, ◌-◌, Bool, true, false, ◌||◌, List, ◌∷◌, refl, sym, ◌∙◌, ap, subst, cond, codes, Option, Some, None, is_none, Result, Ok, Err}
use Rattle.std.specs.Prelude.{OnOk, IfErr}
use Rattle.std.proofs.lemmas.Bool.{false≢true}
use Rattle.swc_ecma_codegen_common.specs.declared.errors.Refusal.{Refusal}
use Rattle.swc_ecma_codegen_common.specs.declared.errors.Refusal.TheVariants.{Writer, OutOfMemory, UnsupportedNode, BadShape, NameOutOfTarget, PositionTooLarge, Failed}
use Rattle.swc_ecma_codegen_common.specs.declared.positions.BytePos.{BytePos}
use Rattle.swc_ecma_codegen_common.specs.declared.positions.Span.{Span}
use Rattle.swc_ecma_codegen_text_writer.specs.Contents.{Rises, IsPrefix}
use Rattle.swc_ecma_codegen_text_writer.proofs.Sheets.{front_refl, front_trans, placed_on}
use Rattle.swc_ecma_codegen_text_writer.specs.Sheet.{Sheet, Item, Semi, Space, Keyword, Operator, Param, Property, Line, Lit, Comment, StrLit, Str, Symbol, Punct, Position, Commit, Deeper, Shallower, BeginLines, AllowBreak, EndLines, Semicolons, AtOnce, HoldsNone, HoldsOne, holds_semicolons, is_settled, allowed, passed_on, allowed_at, written, literal_written, ended, pointed, settled_by, settled, semicolon_by, dropped, is_ending, before_punct, effect, effects, Causes, fills_lines, LacksRoom, for_pair, for_text, behind_semicolon, to_hold, Stopped, Refuses, earlier, stopped, Writes}
use Rattle.swc_ecma_codegen_common.specs.declared.errors.Error.{Error}
use Rattle.swc_ecma_codegen_common.specs.Refusals.{in_short, reason_of}
use Rattle.swc_ecma_codegen_text_writer.specs.declared.semicolon.HeldSemi.{HeldSemi}
use Rattle.swc_ecma_codegen_text_writer.specs.PendingSemi.{semicolons_of, with_held, WritesAtOnce, IsSettled, Settles, break_after}
use Rattle.swc_ecma_codegen_text_writer.proofs.Commuting.{holding, written_commutes, literal_commutes, ended_commutes, pointed_commutes, allowed_commutes, passed_commutes, begun_by_commutes, closed_by_commutes}
use Rattle.swc_ecma_codegen_text_writer.proofs.Room.{leaves_on, lacks_on, written_held, allowed_bare}
use Rattle.swc_ecma_codegen_text_writer.proofs.Ways.{Way, way_trans, alike_way, written_way, literal_way, ended_way, passed_way, settled_way}

-- ---- writers that write semicolons at once

at_once : (q : Semicolons) → holds_semicolons q ≡ false → q ≡ AtOnce
at_once AtOnce h = refl
at_once HoldsNone h = absurd (false≢true (sym h))
at_once (HoldsOne span allowed) h = absurd (false≢true (sym h))

settled_at_once : (s : Sheet) → s.semicolons ≡ AtOnce → settled s ≡ s
unfolding settled_by
settled_at_once s h = ap (λ q. settled_by q s) h

-- a change that leaves semicolons alone
unmoved : (f : Sheet → Sheet) (s : Sheet) → ((q : Semicolons) → f (holding q s) ≡ holding q (f s)) → (f s).semicolons ≡ s.semicolons
unmoved f s h = ap (λ (z : Sheet). z.semicolons) (h s.semicolons)

-- ---- calls before which a held semicolon is written

-- what a call does once no semicolon is held
pub record Settling (x : Item) : Type 0 where
  pub act : Sheet → Sheet
  pub commutes : (q : Semicolons) (s : Sheet) → act (holding q s) ≡ holding q (act s)
  pub text : (s : Sheet) → IsPrefix s.text (act s).text
  pub pairs : (s : Sheet) → IsPrefix s.pairs (act s).pairs
  pub is : (s : Sheet) → effect x s ≡ act (settled s)

text_settling : (x : Item) (span : Option Span) (t : List ℕ) → ((s : Sheet) → effect x s ≡ written span t (settled s)) → Settling x
text_settling x span t h =
    record {
      act = written span t;
      commutes = λ q s. written_commutes q span t s;
      text = λ s. (written_way span t s).text;
      pairs = λ s. (written_way span t s).pairs;
      is = h;
    }

literal_settling : (x : Item) (span : Span) (t : List ℕ) → ((s : Sheet) → effect x s ≡ literal_written span t (settled s)) → Settling x
literal_settling x span t h =
    record {
      act = literal_written span t;
      commutes = λ q s. literal_commutes q span t s;
      text = λ s. (literal_way span t s).text;
      pairs = λ s. (literal_way span t s).pairs;
      is = h;
    }

pub space_settles : Settling Space
unfolding effect
space_settles = text_settling Space None (codes " ") (λ s. refl)

pub keyword_settles : (span : Option Span) (t : List ℕ) → Settling (Keyword span t)
unfolding effect
keyword_settles span t = text_settling (Keyword span t) span t (λ s. refl)

pub operator_settles : (span : Option Span) (t : List ℕ) → Settling (Operator span t)
unfolding effect
operator_settles span t = text_settling (Operator span t) span t (λ s. refl)

pub param_settles : (t : List ℕ) → Settling (Param t)
unfolding effect
param_settles t = text_settling (Param t) None t (λ s. refl)

pub property_settles : (t : List ℕ) → Settling (Property t)
unfolding effect
property_settles t = text_settling (Property t) None t (λ s. refl)

pub line_settles : Settling Line
unfolding effect
line_settles =
    record {
      act = ended;
      commutes = ended_commutes;
      text = λ s. (ended_way s).text;
      pairs = λ s. (ended_way s).pairs;
      is = λ s. refl;
    }

pub lit_settles : (span : Span) (t : List ℕ) → Settling (Lit span t)
unfolding effect
lit_settles span t = literal_settling (Lit span t) span t (λ s. refl)

pub comment_settles : (t : List ℕ) → Settling (Comment t)
unfolding effect
comment_settles t = text_settling (Comment t) None t (λ s. refl)

pub string_settles : (span : Span) (t : List ℕ) → Settling (StrLit span t)
unfolding effect
string_settles span t = literal_settling (StrLit span t) span t (λ s. refl)

pub str_settles : (t : List ℕ) → Settling (Str t)
unfolding effect
str_settles t = text_settling (Str t) None t (λ s. refl)

pub symbol_settles : (span : Span) (t : List ℕ) → Settling (Symbol span t)
unfolding effect
symbol_settles span t = text_settling (Symbol span t) (Some span) t (λ s. refl)

pub punct_settles : (span : Option Span) (t : List ℕ) → is_ending t ≡ false → Settling (Punct span t)
unfolding effect before_punct
punct_settles span t h =
    text_settling (Punct span t) span t (λ s. ap (λ b. written span t (cond b (record s { semicolons = dropped s.semicolons }) (settled s))) h)

pub commit_settles : Settling Commit
unfolding effect
commit_settles =
    record {
      act = λ s. s;
      commutes = λ q s. refl;
      text = λ s. front_refl s.text;
      pairs = λ s. front_refl s.pairs;
      is = λ s. refl;
    }

-- the depth stays while a semicolon is written
settled_indentation : (s : Sheet) → (settled s).indentation ≡ s.indentation
settled_indentation s = ap (λ (z : Sheet). z.indentation) (settled_way s).same

pub deeper_settles : Settling Deeper
unfolding effect
deeper_settles =
    record {
      act = λ s. record s { indentation = s.indentation + 1 };
      commutes = λ q s. refl;
      text = λ s. front_refl s.text;
      pairs = λ s. front_refl s.pairs;
      is = λ s. ap (λ n. record (settled s) { indentation = n + 1 }) (sym (settled_indentation s));
    }

pub shallower_settles : Settling Shallower
unfolding effect
shallower_settles =
    record {
      act = λ s. record s { indentation = s.indentation - 1 };
      commutes = λ q s. refl;
      text = λ s. front_refl s.text;
      pairs = λ s. front_refl s.pairs;
      is = λ s. ap (λ n. record (settled s) { indentation = n - 1 }) (sym (settled_indentation s));
    }

-- ---- what the writer under it keeps

kept_settling : (x : Item) → Settling x → (s : Sheet) → s.semicolons ≡ AtOnce → (effect x s).semicolons ≡ AtOnce
kept_settling x m s h =
    ap (λ (z : Sheet). z.semicolons) (m.is s ∙ ap m.act (settled_at_once s h)) ∙ unmoved m.act s (λ q. m.commutes q s) ∙ h

-- before an ending too nothing is done
punct_at_once : (span : Option Span) (t : List ℕ) (s : Sheet) → s.semicolons ≡ AtOnce → effect (Punct span t) s ≡ written span t s
unfolding effect before_punct dropped
punct_at_once span t s h =
    ap (written span t)
    (elim (is_ending t) as (λ b. cond b (record s { semicolons = dropped s.semicolons }) (settled s) ≡ s)
    [ true ↦ ap (λ q. record s { semicolons = q }) (ap dropped h ∙ sym h) | false ↦ settled_at_once s h ])

semi_at_once : (span : Option Span) (s : Sheet) → s.semicolons ≡ AtOnce → effect (Semi span) s ≡ written span (codes ";") s
unfolding effect semicolon_by
semi_at_once span s h = ap (λ q. semicolon_by q span s) h

break_at_once : (s : Sheet) → s.semicolons ≡ AtOnce → effect AllowBreak s ≡ allowed s
unfolding effect allowed_at
break_at_once s h = ap (λ q. allowed_at q s) h

written_keeps : (span : Option Span) (t : List ℕ) (s : Sheet) → (written span t s).semicolons ≡ s.semicolons
written_keeps span t s = unmoved (written span t) s (λ q. written_commutes q span t s)

effect_at_once : (x : Item) (s : Sheet) → s.semicolons ≡ AtOnce → (effect x s).semicolons ≡ AtOnce
unfolding effect
effect_at_once (Semi span) s h = ap (λ (z : Sheet). z.semicolons) (semi_at_once span s h) ∙ written_keeps span (codes ";") s ∙ h
effect_at_once Space s h = kept_settling _ space_settles s h
effect_at_once (Keyword span t) s h = kept_settling _ (keyword_settles span t) s h
effect_at_once (Operator span t) s h = kept_settling _ (operator_settles span t) s h
effect_at_once (Param t) s h = kept_settling _ (param_settles t) s h
effect_at_once (Property t) s h = kept_settling _ (property_settles t) s h
effect_at_once Line s h = kept_settling _ line_settles s h
effect_at_once (Lit span t) s h = kept_settling _ (lit_settles span t) s h
effect_at_once (Comment t) s h = kept_settling _ (comment_settles t) s h
effect_at_once (StrLit span t) s h = kept_settling _ (string_settles span t) s h
effect_at_once (Str t) s h = kept_settling _ (str_settles t) s h
effect_at_once (Symbol span t) s h = kept_settling _ (symbol_settles span t) s h
effect_at_once (Punct span t) s h = ap (λ (z : Sheet). z.semicolons) (punct_at_once span t s h) ∙ written_keeps span t s ∙ h
effect_at_once (Position pos) s h = unmoved (pointed pos) s (λ q. pointed_commutes q pos s) ∙ h
effect_at_once Commit s h = kept_settling _ commit_settles s h
effect_at_once Deeper s h = kept_settling _ deeper_settles s h
effect_at_once Shallower s h = kept_settling _ shallower_settles s h
effect_at_once (BeginLines max) s h = ap (λ (z : Sheet). z.semicolons) (begun_by_commutes s.lines s.semicolons max s) ∙ h
effect_at_once AllowBreak s h = ap (λ (z : Sheet). z.semicolons) (break_at_once s h) ∙ (unmoved allowed s (λ q. allowed_commutes q s) ∙ h)
effect_at_once EndLines s h = ap (λ (z : Sheet). z.semicolons) (closed_by_commutes s.lines s.semicolons s) ∙ h

-- a call of the writer under it leaves that one writing semicolons at once
pub kept : (x : Item) (a b : Sheet) (r : Result (Unit {0}) Refusal) → WritesAtOnce a → Writes x a b r → WritesAtOnce b
unfolding Writes
kept x a b (Ok u) h k = λ _. ap (λ (z : Sheet). holds_semicolons z.semicolons) k.1 ∙ ap holds_semicolons (effect_at_once x a (at_once _ (h k.0)))
kept x a b (Err e) h (earlier i j k) = subst WritesAtOnce (sym k) h
kept x a b (Err e) h (stopped i j k) = λ l. absurd (false≢true (sym l ∙ ap (λ (z : Sheet). z.refused) k.same))

-- ---- calls that don't change the depth

is_deeper : Item → Bool
is_deeper Deeper = true
is_deeper (Semi span) = false
is_deeper Commit = false
is_deeper AllowBreak = false
is_deeper _ = false

semi_isnt_deeper : (span : Option Span) → Semi span ≡ Deeper → ⊥
unfolding is_deeper
semi_isnt_deeper span e = false≢true (ap is_deeper e)

break_isnt_deeper : AllowBreak ≡ Deeper → ⊥
unfolding is_deeper
break_isnt_deeper e = false≢true (ap is_deeper e)

commit_isnt_deeper : Commit ≡ Deeper → ⊥
unfolding is_deeper
commit_isnt_deeper e = false≢true (ap is_deeper e)

-- ---- calls of the writer under it, as calls of the whole

causes_held : (x y : Item) (e : Refusal) (p q : Semicolons) (a b : Sheet) → (x ≡ Deeper → y ≡ Deeper) → Causes x e a b → Causes y e (holding p a) (holding q b)
unfolding Causes
causes_held x y Writer p q a b d h = h
causes_held x y OutOfMemory p q a b d h = h
causes_held x y UnsupportedNode p q a b d h = h
causes_held x y BadShape p q a b d h = h
causes_held x y NameOutOfTarget p q a b d h = h
causes_held x y PositionTooLarge p q a b d (inl h) = inl (d h.0, h.1)
causes_held x y PositionTooLarge p q a b d (inr h) = inr h
causes_held x y Failed p q a b d h = h

-- what memory was wanting for there
lacks_above : (goal to : Sheet) (p q : Semicolons) (a b : Sheet) → a.semicolons ≡ AtOnce → IsPrefix goal.pairs to.pairs → LacksRoom goal a b → LacksRoom to (holding p a) (holding q b)
lacks_above goal to p q a b o k (for_pair h) = for_pair (leaves_on goal to b k h)
lacks_above goal to p q a b o k (for_text h) = for_text h
lacks_above goal to p q a b o k (behind_semicolon h) = for_text (h ∙ ap (λ (z : Sheet). z.pairs) (settled_at_once a o))
lacks_above goal to p q a b o k (to_hold f g) = to_hold f g

-- a call of the whole does what another does on the writer under it, but for the semicolon
abbrev Lifts : Item → Item → Semicolons → Semicolons → Sheet → Type 0
Lifts x y p q a = WritesAtOnce a → a.refused ≡ false → effect y (holding p a) ≡ holding q (effect x a)

lifted_ok : (x y : Item) (p q : Semicolons) (a b : Sheet) (u : Unit {0}) → WritesAtOnce a → Lifts x y p q a → Writes x a b (Ok u) → Writes y (holding p a) (holding q b) (Ok u)
unfolding Writes
lifted_ok x y p q a b u h l k = (k.0, ap (holding q) k.1 ∙ sym (l h k.0))

lifted_err : (x y : Item) (p q : Semicolons) (a b : Sheet) (e : Refusal) → (x ≡ Deeper → y ≡ Deeper) → WritesAtOnce a → Lifts x y p q a → Refuses x e a b → Refuses y e (holding p a) (holding p b)
lifted_err x y p q a b e d h l (earlier i j k) = earlier i j (ap (holding p) k)
lifted_err x y p q a b e d h l (stopped i j k) =
    let Text : Sheet → Type 0 = λ z. IsPrefix b.text z.text in
    let Pairs : Sheet → Type 0 = λ z. IsPrefix b.pairs z.pairs in
    let goal = sym (l h i) in
    stopped i (causes_held x y e p p a b d j) (record {
      grows = k.grows;
      front = subst Text goal k.front;
      place = k.place;
      more_pairs = k.more_pairs;
      front_pairs = subst Pairs goal k.front_pairs;
      room = λ f. lacks_above (effect x a) (effect y (holding p a)) p p a b (at_once _ (h i)) (subst (λ (z : Sheet). IsPrefix (effect x a).pairs z.pairs) goal (front_refl (effect x a).pairs)) (k.room f);
      held = inl refl;
      same = ap (holding p) k.same;
    })

-- a call that leaves the semicolon as it is
lifted : (x : Item) (p : Semicolons) (a b : Sheet) (r : Result (Unit {0}) Refusal) → WritesAtOnce a → Lifts x x p p a → Writes x a b r → Writes x (holding p a) (holding p b) r
unfolding Writes
lifted x p a b (Ok u) h l k = lifted_ok x x p p a b u h l k
lifted x p a b (Err e) h l k = lifted_err x x p p a b e (λ d. d) h l k

-- ---- the held semicolon goes out

pub settles_none : (a : Sheet) → Settles (with_held None a) (with_held None a) (Ok tt)
unfolding Settles with_held settled_by
settles_none a = (refl, inr refl)

-- ---- a call, after the held semicolon went out

causes_on : (x : Item) (e : Refusal) (a b c : Sheet) → Way a b → Causes x e b c → Causes x e a c
unfolding Causes
causes_on x Writer a b c w h = let P : ℕ → Type 0 = λ n. Rises n c.faults in subst P (ap (λ (z : Sheet). z.faults) w.same) h
causes_on x OutOfMemory a b c w h = sym (λ i. (ap (λ (z : Sheet). z.takes_memory) w.same) i || w.fills i) ∙ h
causes_on x UnsupportedNode a b c w h = h
causes_on x BadShape a b c w h = h
causes_on x NameOutOfTarget a b c w h = h
causes_on x PositionTooLarge a b c w (inl h) = inl (h.0, sym (ap (λ (z : Sheet). z.indentation) w.same) ∙ h.1)
causes_on x PositionTooLarge a b c w (inr h) = inr (sym (ap (λ (z : Sheet). z.keeps_positions) w.same) ∙ h.0, h.1)
causes_on x Failed a b c w h = h

-- the semicolon goes out, and then the break that was kept with it
semi_then : (semi : HeldSemi) (a : Sheet) → a.semicolons ≡ AtOnce → settled (with_held (Some semi) a) ≡ passed_on semi.allows_break (holding HoldsNone (effect (Semi semi.span) a))
unfolding settled_by with_held
semi_then semi a h = ap (passed_on semi.allows_break) (written_commutes HoldsNone semi.span (codes ";") a ∙ ap (holding HoldsNone) (sym (semi_at_once semi.span a h)))

pub held_plain : (semi : HeldSemi) (a b : Sheet) (u : Unit {0}) → semi.allows_break ≡ false → WritesAtOnce a → Writes (Semi semi.span) a b (Ok u) → IsSettled (with_held (Some semi) a) (with_held None b)
unfolding IsSettled with_held Writes passed_on
held_plain semi a b u e h k =
    let c : Sheet = holding HoldsNone (effect (Semi semi.span) a) in
    (ap (holding HoldsNone) k.1 ∙ (sym (ap (λ z. passed_on z c) e) ∙ sym (unfold with_held in semi_then semi a (at_once _ (h k.0)))), k.0)

pub held_broken : (semi : HeldSemi) (a b c : Sheet) (u v : Unit {0}) → semi.allows_break ≡ true → WritesAtOnce a → Writes (Semi semi.span) a b (Ok u) → Writes AllowBreak b c (Ok v) → IsSettled (with_held (Some semi) a) (with_held None c)
unfolding IsSettled with_held Writes passed_on
held_broken semi a b c u v e h k m =
    let one : a.semicolons ≡ AtOnce = at_once _ (h k.0) in
    let d : Sheet = effect (Semi semi.span) a in
    let after : c ≡ allowed d = m.1 ∙ (ap (effect AllowBreak) k.1 ∙ break_at_once d (effect_at_once (Semi semi.span) a one)) in
    (ap (holding HoldsNone) after ∙ (sym (allowed_commutes HoldsNone d) ∙ (sym (ap (λ z. passed_on z (holding HoldsNone d)) e) ∙ sym (unfold with_held in semi_then semi a one))), k.0)

passed_true : (s : Sheet) → passed_on true (holding HoldsNone s) ≡ holding HoldsNone (allowed s)
unfolding passed_on
passed_true s = allowed_commutes HoldsNone s

-- what goes out of the semicolon is a beginning of what goes out of both
semi_front : (semi : HeldSemi) (a : Sheet) → a.semicolons ≡ AtOnce → Way (effect (Semi semi.span) a) (settled (with_held (Some semi) a))
semi_front semi a h =
    let d : Sheet = effect (Semi semi.span) a in
    subst (λ (z : Sheet). Way d z) (sym (semi_then semi a h)) (way_trans _ _ _ (alike_way d.at_line_start HoldsNone d.pending d) (passed_way semi.allows_break (holding HoldsNone d)))

pub held_err : (semi : HeldSemi) (a b : Sheet) (e : Refusal) → WritesAtOnce a → Writes (Semi semi.span) a b (Err e) → Refuses Commit e (with_held (Some semi) a) (with_held (Some semi) b)
unfolding Writes
held_err semi a b e h (earlier i j k) = earlier (unfold with_held in i) j (ap (with_held (Some semi)) k)
held_err semi a b e h (stopped i j k) =
    let way = semi_front semi a (at_once _ (h i)) in
    unfold with_held in
    stopped i (causes_held (Semi semi.span) Commit e _ _ a b (λ d. absurd (semi_isnt_deeper semi.span d)) j) (record {
      grows = k.grows;
      front = unfold effect in front_trans b.text _ _ k.front way.text;
      place = k.place;
      more_pairs = k.more_pairs;
      front_pairs = unfold effect in front_trans b.pairs _ _ k.front_pairs way.pairs;
      room = λ f. unfold effect in lacks_above _ _ _ _ a b (at_once _ (h i)) way.pairs (k.room f);
      held = inl refl;
      same = ap (holding (semicolons_of (Some semi))) k.same;
    })

-- the semicolon went out, and memory was wanting behind it, where its pairs are recorded
lacks_there : (semi : HeldSemi) (a b c : Sheet) → a.semicolons ≡ AtOnce → b ≡ effect (Semi semi.span) a → fills_lines b.lines ≡ fills_lines a.lines
    → (effect AllowBreak b).pairs ≡ (settled (with_held (Some semi) a)).pairs → c.pairs ≡ b.pairs → LacksRoom (settled (with_held (Some semi) a)) (with_held (Some semi) a) (with_held (Some semi) c)
unfolding with_held
lacks_there semi a b c o k f pairs h =
    let goal : Sheet = settled (holding (semicolons_of (Some semi)) a) in
    let Room : Type 0 = LacksRoom goal (holding (semicolons_of (Some semi)) a) (holding (semicolons_of (Some semi)) c) in
    let one : b.semicolons ≡ AtOnce = ap (λ (z : Sheet). z.semicolons) k ∙ effect_at_once (Semi semi.span) a o in
    let written_pairs : b ≡ written semi.span (codes ";") a = k ∙ semi_at_once semi.span a o in
    let held : fills_lines b.lines ≡ true → Room = λ m. for_text (h ∙ (ap (λ (z : Sheet). z.pairs) written_pairs ∙ written_held semi.span (codes ";") a (sym f ∙ m))) in
    let out : fills_lines b.lines ≡ false → Room = λ m. behind_semicolon (h ∙ (sym (ap (λ (z : Sheet). z.pairs) (break_at_once b one) ∙ allowed_bare b m) ∙ pairs)) in
    elim (fills_lines b.lines) as (λ z. fills_lines b.lines ≡ z → Room) [ true ↦ held | false ↦ out ] refl

-- the same of the call that allows a break
lacks_behind : (semi : HeldSemi) (a b c : Sheet) → a.semicolons ≡ AtOnce → b ≡ effect (Semi semi.span) a → fills_lines b.lines ≡ fills_lines a.lines
    → (effect AllowBreak b).pairs ≡ (settled (with_held (Some semi) a)).pairs → LacksRoom (effect AllowBreak b) b c → LacksRoom (settled (with_held (Some semi) a)) (with_held (Some semi) a) (with_held (Some semi) c)
unfolding with_held
lacks_behind semi a b c o k f pairs (for_pair h) = for_pair (h.0, h.1, sym pairs ∙ h.2)
lacks_behind semi a b c o k f pairs (for_text h) = lacks_there semi a b c o k f pairs h
lacks_behind semi a b c o k f pairs (behind_semicolon h) =
    let one : b.semicolons ≡ AtOnce = ap (λ (z : Sheet). z.semicolons) k ∙ effect_at_once (Semi semi.span) a o in
    lacks_there semi a b c o k f pairs (h ∙ ap (λ (z : Sheet). z.pairs) (settled_at_once b one))
lacks_behind semi a b c o k f pairs (to_hold m n) = to_hold (sym f ∙ m) n

-- the semicolon went out, and the break behind it was refused: it may still be held
pub broken_err : (semi : HeldSemi) (a b c : Sheet) (u : Unit {0}) (e : Refusal) → semi.allows_break ≡ true → WritesAtOnce a → Writes (Semi semi.span) a b (Ok u) → Writes AllowBreak b c (Err e) → Refuses Commit e (with_held (Some semi) a) (with_held (Some semi) c)
unfolding Writes with_held effect
broken_err semi a b c u e t h (r, k) (earlier i j m) =
    let way : Way a b = subst (λ (z : Sheet). Way a z) (sym (k ∙ semi_at_once semi.span a (at_once _ (h r)))) (written_way semi.span (codes ";") a) in
    absurd (false≢true (sym r ∙ (sym (ap (λ (z : Sheet). z.refused) way.same) ∙ i)))
broken_err semi a b c u e t h (r, k) (stopped i j m) =
    let one : a.semicolons ≡ AtOnce = at_once _ (h r) in
    let d : Sheet = effect (Semi semi.span) a in
    let way : Way a b = subst (λ (z : Sheet). Way a z) (sym (k ∙ semi_at_once semi.span a one)) (written_way semi.span (codes ";") a) in
    let goal : effect AllowBreak b ≡ allowed d = ap (effect AllowBreak) k ∙ break_at_once d (effect_at_once (Semi semi.span) a one) in
    let all : settled (with_held (Some semi) a) ≡ holding HoldsNone (allowed d) = semi_then semi a one ∙ (ap (λ z. passed_on z (holding HoldsNone d)) t ∙ passed_true d) in
    let text : (effect AllowBreak b).text ≡ (settled (with_held (Some semi) a)).text = ap (λ (z : Sheet). z.text) goal ∙ sym (ap (λ (z : Sheet). z.text) all) in
    let pairs : (effect AllowBreak b).pairs ≡ (settled (with_held (Some semi) a)).pairs = ap (λ (z : Sheet). z.pairs) goal ∙ sym (ap (λ (z : Sheet). z.pairs) all) in
    stopped r (causes_held AllowBreak Commit e _ _ a c (λ d. absurd (break_isnt_deeper d)) (causes_on AllowBreak e a b c way j)) (record {
      grows = front_trans a.text b.text c.text way.text m.grows;
      front = subst (λ z. IsPrefix c.text z) text m.front;
      place = placed_on way.text.0 m.grows.0 a.place b.place c.place way.place m.place;
      more_pairs = front_trans a.pairs b.pairs c.pairs way.pairs m.more_pairs;
      front_pairs = subst (λ z. IsPrefix c.pairs z) pairs m.front_pairs;
      room = λ f. unfold with_held in lacks_behind semi a b c one k way.fills pairs (m.room f);
      held = inl refl;
      same =
          ap (holding (semicolons_of (Some semi))) (m.same ∙ ap (λ (s : Sheet). record s { text = c.text; whole = c.whole; at_line_start = c.at_line_start; semicolons = c.semicolons; pairs = c.pairs; pending = c.pending; place = c.place; lines = c.lines; faults = c.faults; refused = true }) way.same);
    })

-- the same by the answer of the writer under it
pub broken_ok : (semi : HeldSemi) (a b c : Sheet) (u : Unit {0}) (r : Result (Unit {0}) Error) → semi.allows_break ≡ true → WritesAtOnce a → Writes (Semi semi.span) a b (Ok u) → Writes AllowBreak b c (in_short r) → OnOk r (IsSettled (with_held (Some semi) a) (with_held None c))
broken_ok semi a b c u (Ok v) t h k m = held_broken semi a b c u v t h k m
broken_ok semi a b c u (Err e) t h k m = tt

pub broken_not : (semi : HeldSemi) (a b c : Sheet) (u : Unit {0}) (r : Result (Unit {0}) Error) → semi.allows_break ≡ true → WritesAtOnce a → Writes (Semi semi.span) a b (Ok u) → Writes AllowBreak b c (in_short r) → IfErr (in_short r) (λ e. Refuses Commit e (with_held (Some semi) a) (with_held (Some semi) c))
broken_not semi a b c u (Ok v) t h k m = tt
broken_not semi a b c u (Err e) t h k m = broken_err semi a b c u (reason_of e) t h k m

pub settles_one : (s b : Sheet) → IsSettled s b → Settles s b (Ok tt)
unfolding Settles IsSettled
settles_one s b h = (h.0, inl h.1)

pub settles_err : (s b : Sheet) (e : Refusal) → Refuses Commit e s b → Settles s b (Err e)
unfolding Settles
settles_err s b e h = h

-- from the settled sheet a call does what it does from the first one
same_goal : (x : Item) → Settling x → (s : Sheet) → settled (settled s) ≡ settled s → effect x (settled s) ≡ effect x s
same_goal x m s h = m.is (settled s) ∙ ap m.act h ∙ sym (m.is s)

-- after it went out none is held
pub out_keeps : (span : Option Span) (allowed : Bool) (s : Sheet) → (passed_on allowed (written span (codes ";") (holding HoldsNone s))).semicolons ≡ HoldsNone
out_keeps span allowed s =
    let out = written span (codes ";") (holding HoldsNone s) in unmoved (passed_on allowed) out (λ q. passed_commutes allowed q out) ∙ written_keeps span (codes ";") (holding HoldsNone s)

settled_by_twice : (q : Semicolons) (s : Sheet) → q ≡ s.semicolons → settled (settled_by q s) ≡ settled_by q s
unfolding settled_by
settled_by_twice AtOnce s h = ap (λ q. settled_by q s) (sym h)
settled_by_twice HoldsNone s h = ap (λ q. settled_by q s) (sym h)
settled_by_twice (HoldsOne span allowed) s h =
    let out = passed_on allowed (written span (codes ";") (holding HoldsNone s)) in
    ap (λ q. settled_by q out) (out_keeps span allowed s)

settled_twice : (s : Sheet) → settled (settled s) ≡ settled s
settled_twice s = settled_by_twice s.semicolons s refl

-- and a held one is lost by that
settled_by_drops : (q : Semicolons) (s : Sheet) → q ≡ s.semicolons → (settled_by q s).semicolons ≡ dropped q
unfolding settled_by dropped
settled_by_drops AtOnce s h = sym h
settled_by_drops HoldsNone s h = sym h
settled_by_drops (HoldsOne span allowed) s h = out_keeps span allowed s

settled_drops : (s : Sheet) → (settled s).semicolons ≡ dropped s.semicolons
settled_drops s = settled_by_drops s.semicolons s refl

dropped_twice : (q : Semicolons) → dropped (dropped q) ≡ dropped q
unfolding dropped
dropped_twice AtOnce = refl
dropped_twice HoldsNone = refl
dropped_twice (HoldsOne span allowed) = refl

-- what memory was wanting for behind it
lacks_settled : (goal to a b c : Sheet) → b ≡ settled a → goal ≡ to → fills_lines b.lines ≡ fills_lines a.lines → LacksRoom goal b c → LacksRoom to a c
lacks_settled goal to a b c e g f (for_pair h) = for_pair (h.0, h.1, sym (ap (λ (z : Sheet). z.pairs) g) ∙ h.2)
lacks_settled goal to a b c e g f (for_text h) = behind_semicolon (h ∙ ap (λ (z : Sheet). z.pairs) e)
lacks_settled goal to a b c e g f (behind_semicolon h) = behind_semicolon (h ∙ (ap (λ (z : Sheet). (settled z).pairs) e ∙ ap (λ (z : Sheet). z.pairs) (settled_twice a)))
lacks_settled goal to a b c e g f (to_hold m n) = to_hold (sym f ∙ m) n

stopped_on : (x : Item) → Settling x → (e : Refusal) (a b c : Sheet) → b ≡ settled a → Stopped e (effect x b) b c → Stopped e (effect x a) a c
stopped_on x m f a b c e k =
    let way : Way a b = (let P : Sheet → Type 0 = λ z. Way a z in subst P (sym e) (settled_way a)) in
    let goal : effect x b ≡ effect x a = ap (effect x) e ∙ same_goal x m a (settled_twice a) in
    let Text : Sheet → Type 0 = λ z. IsPrefix c.text z.text in
    let Pairs : Sheet → Type 0 = λ z. IsPrefix c.pairs z.pairs in
    let Out : Sheet → Type 0 = λ z. IsPrefix z.text c.text in
    let out : b.semicolons ≡ dropped a.semicolons = ap (λ (z : Sheet). z.semicolons) e ∙ settled_drops a in
    let lost : c.semicolons ≡ dropped a.semicolons = elim k.held [ inl h ↦ h ∙ out | inr h ↦ h.0 ∙ ap dropped out ∙ dropped_twice a.semicolons ] in
    record {
      grows = front_trans a.text b.text c.text way.text k.grows;
      front = subst Text goal k.front;
      place = placed_on way.text.0 k.grows.0 a.place b.place c.place way.place k.place;
      more_pairs = front_trans a.pairs b.pairs c.pairs way.pairs k.more_pairs;
      front_pairs = subst Pairs goal k.front_pairs;
      room = λ q. lacks_settled (effect x b) (effect x a) a b c e goal way.fills (k.room q);
      held = inr (lost, subst Out e k.grows);
      same = k.same ∙ ap (λ (s : Sheet). record s { text = c.text; whole = c.whole; at_line_start = c.at_line_start; semicolons = c.semicolons; pairs = c.pairs; pending = c.pending; place = c.place; lines = c.lines; faults = c.faults; refused = true }) way.same;
    }

settled_refused : (s : Sheet) → (settled s).refused ≡ s.refused
settled_refused s = ap (λ (z : Sheet). z.refused) (settled_way s).same

joined : (x : Item) → Settling x → (a b c : Sheet) (u : Unit {0}) (r : Result (Unit {0}) Refusal) → Settles a b (Ok u) → Writes x b c r → Writes x a c r
unfolding Settles Writes
joined x m a b c u (Ok v) h k =
    (sym (settled_refused a) ∙ sym (ap (λ (z : Sheet). z.refused) h.0) ∙ k.0, k.1 ∙ ap (effect x) h.0 ∙ same_goal x m a (settled_twice a))
joined x m a b c u (Err e) (h, inl i) (earlier j k l) =
    absurd (false≢true (sym i ∙ sym (settled_refused a) ∙ sym (ap (λ (z : Sheet). z.refused) h) ∙ j))
joined x m a b c u (Err e) (h, inr i) (earlier j k l) = earlier (sym (ap (λ (z : Sheet). z.refused) i) ∙ j) k (l ∙ i)
joined x m a b c u (Err e) h (stopped i j k) =
    let way : Way a b = (let P : Sheet → Type 0 = λ z. Way a z in subst P (sym h.0) (settled_way a)) in
    stopped (sym (ap (λ (z : Sheet). z.refused) way.same) ∙ i) (causes_on x e a b c way j) (stopped_on x m e a b c h.0 k)

-- a call before which a held semicolon is written
settling_lifts : (x : Item) → Settling x → (a : Sheet) → Lifts x x HoldsNone HoldsNone a
unfolding settled_by
settling_lifts x m a h r =
    m.is (holding HoldsNone a) ∙ m.commutes HoldsNone a ∙ ap (holding HoldsNone) (sym (m.is a ∙ ap m.act (settled_at_once a (at_once _ (h r)))))

pub settled_then : (x : Item) → Settling x → (s a b : Sheet) (p : Option HeldSemi) (u : Unit {0}) (r : Result (Unit {0}) Refusal) → Settles s (with_held p a) (Ok u) → p ≡ None → WritesAtOnce a → Writes x a b r → Writes x s (with_held p b) r
unfolding with_held
settled_then x m s a b p u r h n w k =
    let P : Option HeldSemi → Type 0 = λ o. Settles s (with_held o a) (Ok u) → Writes x s (with_held o b) r in
    subst P (sym n) (λ g. joined x m s (holding HoldsNone a) (holding HoldsNone b) u r g (lifted x HoldsNone a b r w (settling_lifts x m a) k)) h

-- the held semicolon's writing was refused
commit_causes : (x : Item) (e : Refusal) (a b : Sheet) → Causes Commit e a b → Causes x e a b
unfolding Causes
commit_causes x Writer a b h = h
commit_causes x OutOfMemory a b h = h
commit_causes x UnsupportedNode a b h = h
commit_causes x BadShape a b h = h
commit_causes x NameOutOfTarget a b h = h
commit_causes x PositionTooLarge a b (inl h) = absurd (commit_isnt_deeper h.0)
commit_causes x PositionTooLarge a b (inr h) = inr h
commit_causes x Failed a b h = h

pub settled_not : (x : Item) → Settling x → (a b : Sheet) (e : Refusal) → Settles a b (Err e) → Writes x a b (Err e)
unfolding Settles Writes effect
settled_not x m a b e (earlier i j k) = earlier i j k
settled_not x m a b e (stopped i j k) =
    let Text : Sheet → Type 0 = λ z. IsPrefix b.text z.text in
    let Pairs : Sheet → Type 0 = λ z. IsPrefix b.pairs z.pairs in
    stopped i (commit_causes x e a b j) (record {
      grows = k.grows;
      place = k.place;
      front = subst Text (sym (m.is a)) (front_trans b.text (settled a).text (m.act (settled a)).text k.front (m.text (settled a)));
      more_pairs = k.more_pairs;
      front_pairs = subst Pairs (sym (m.is a)) (front_trans b.pairs (settled a).pairs (m.act (settled a)).pairs k.front_pairs (m.pairs (settled a)));
      room = λ q. lacks_on (settled a) (effect x a) a b (subst (λ (z : Sheet). IsPrefix (settled a).pairs z.pairs) (sym (m.is a)) (m.pairs (settled a))) (k.room q);
      held = k.held;
      same = k.same;
    })

-- the depth that the next call finds
pub settled_depth : (s a : Sheet) (p : Option HeldSemi) (u : Unit {0}) → Settles s (with_held p a) (Ok u) → a.indentation ≡ s.indentation
unfolding Settles with_held
settled_depth s a p u h = ap (λ (z : Sheet). z.indentation) h.0 ∙ settled_indentation s

-- ---- the other calls

held_or_none : (p : Option HeldSemi) (span : Option Span) (a : Sheet) → semicolon_by (semicolons_of p) span (holding (semicolons_of p) a) ≡ holding (HoldsOne span false) a
unfolding semicolon_by
held_or_none None span a = refl
held_or_none (Some held) span a = refl

semi_held_lifts : (p : Option HeldSemi) (span : Option Span) (a : Sheet) → Lifts Commit (Semi span) (semicolons_of p) (HoldsOne span false) a
unfolding effect
semi_held_lifts p span a h r = held_or_none p span a ∙ ap (holding (HoldsOne span false)) (sym (settled_at_once a (at_once _ (h r))))

-- a semicolon is held
pub semi_ok : (p : Option HeldSemi) (span : Option Span) (a b : Sheet) (u : Unit {0}) → WritesAtOnce a → Writes Commit a b (Ok u) → Writes (Semi span) (with_held p a) (with_held (Some (record { span = span; allows_break = false })) b) (Ok tt)
unfolding with_held
semi_ok p span a b u h k = lifted_ok Commit (Semi span) (semicolons_of p) (HoldsOne span false) a b u h (semi_held_lifts p span a) k

pub semi_err : (p : Option HeldSemi) (span : Option Span) (a b : Sheet) (e : Refusal) → WritesAtOnce a → Writes Commit a b (Err e) → Writes (Semi span) (with_held p a) (with_held p b) (Err e)
unfolding with_held Writes
semi_err p span a b e h k =
    lifted_err Commit (Semi span) (semicolons_of p) (HoldsOne span false) a b e (λ d. absurd (commit_isnt_deeper d)) h (semi_held_lifts p span a) k

dropped_none : (p : Option HeldSemi) → dropped (semicolons_of p) ≡ HoldsNone
unfolding dropped
dropped_none None = refl
dropped_none (Some span) = refl

ending_lifts : (p : Option HeldSemi) (span : Option Span) (t : List ℕ) (a : Sheet) → is_ending t ≡ true → Lifts (Punct span t) (Punct span t) (semicolons_of p) HoldsNone a
unfolding effect before_punct
ending_lifts p span t a i h r =
    let s = holding (semicolons_of p) a in
    ap (λ b. written span t (cond b (record s { semicolons = dropped s.semicolons }) (settled s))) i ∙
    ap (λ q. written span t (holding q a)) (dropped_none p) ∙
    written_commutes HoldsNone span t a ∙
    ap (holding HoldsNone) (sym (punct_at_once span t a (at_once _ (h r))))

-- before an ending the held semicolon is lost
pub ending_ok : (p : Option HeldSemi) (span : Option Span) (t : List ℕ) (a b : Sheet) (u : Unit {0}) → is_ending t ≡ true → WritesAtOnce a → Writes (Punct span t) a b (Ok u) → Writes (Punct span t) (with_held p a) (with_held None b) (Ok tt)
unfolding with_held
ending_ok p span t a b u i h k = lifted_ok (Punct span t) (Punct span t) (semicolons_of p) HoldsNone a b u h (ending_lifts p span t a i) k

pub ending_err : (p : Option HeldSemi) (span : Option Span) (t : List ℕ) (a b : Sheet) (e : Refusal) → is_ending t ≡ true → WritesAtOnce a → Writes (Punct span t) a b (Err e) → Writes (Punct span t) (with_held p a) (with_held p b) (Err e)
unfolding with_held Writes
ending_err p span t a b e i h k =
    lifted_err (Punct span t) (Punct span t) (semicolons_of p) HoldsNone a b e (λ d. d) h (ending_lifts p span t a i) k

-- a position passes a held semicolon by
pub position_passes : (p : Option HeldSemi) (pos : BytePos) (a b : Sheet) (r : Result (Unit {0}) Refusal) → WritesAtOnce a → Writes (Position pos) a b r → Writes (Position pos) (with_held p a) (with_held p b) r
unfolding with_held effect
position_passes p pos a b r h k = lifted (Position pos) (semicolons_of p) a b r h (λ _ _. pointed_commutes (semicolons_of p) pos a) k

-- lines begin and end below it
pub begin_passes : (p : Option HeldSemi) (max : ℕ) (a b : Sheet) (r : Result (Unit {0}) Refusal) → WritesAtOnce a → Writes (BeginLines max) a b r → Writes (BeginLines max) (with_held p a) (with_held p b) r
unfolding with_held effect
begin_passes p max a b r h k = lifted (BeginLines max) (semicolons_of p) a b r h (λ _ _. begun_by_commutes a.lines (semicolons_of p) max a) k

pub end_passes : (p : Option HeldSemi) (a b : Sheet) (r : Result (Unit {0}) Refusal) → WritesAtOnce a → Writes EndLines a b r → Writes EndLines (with_held p a) (with_held p b) r
unfolding with_held effect
end_passes p a b r h k = lifted EndLines (semicolons_of p) a b r h (λ _ _. closed_by_commutes a.lines (semicolons_of p) a) k

-- an allowed break too where no semicolon is held
none_lifts : (a : Sheet) → Lifts AllowBreak AllowBreak HoldsNone HoldsNone a
unfolding effect allowed_at
none_lifts a h r = allowed_commutes HoldsNone a ∙ ap (holding HoldsNone) (sym (unfold effect allowed_at in break_at_once a (at_once _ (h r))))

pub break_passes : (p : Option HeldSemi) (a b : Sheet) (r : Result (Unit {0}) Refusal) → p ≡ None → WritesAtOnce a → Writes AllowBreak a b r → Writes AllowBreak (with_held p a) (with_held p b) r
break_passes p a b r n h k =
    subst (λ (o : Option HeldSemi). Writes AllowBreak (with_held o a) (with_held o b) r) (sym n) (unfold with_held in lifted AllowBreak HoldsNone a b r h (none_lifts a) k)

-- else it is kept with the semicolon
kept_lifts : (semi : HeldSemi) (a : Sheet) → Lifts Commit AllowBreak (HoldsOne semi.span semi.allows_break) (HoldsOne semi.span true) a
unfolding effect allowed_at
kept_lifts semi a h r = ap (holding (HoldsOne semi.span true)) (sym (settled_at_once a (at_once _ (h r))))

pub break_kept : (p : Option HeldSemi) (semi : HeldSemi) (a b : Sheet) (u : Unit {0}) → p ≡ Some semi → WritesAtOnce a → Writes Commit a b (Ok u) → Writes AllowBreak (with_held p a) (with_held (Some (record { span = semi.span; allows_break = true })) b) (Ok tt)
break_kept p semi a b u n h k =
    subst (λ (o : Option HeldSemi). Writes AllowBreak (with_held o a) (with_held (Some (record { span = semi.span; allows_break = true })) b) (Ok tt)) (sym n)
    (unfold with_held in lifted_ok Commit AllowBreak (HoldsOne semi.span semi.allows_break) (HoldsOne semi.span true) a b u h (kept_lifts semi a) k)

pub break_err : (p : Option HeldSemi) (semi : HeldSemi) (a b : Sheet) (e : Refusal) → p ≡ Some semi → WritesAtOnce a → Writes Commit a b (Err e) → Writes AllowBreak (with_held p a) (with_held p b) (Err e)
break_err p semi a b e n h k =
    subst (λ (o : Option HeldSemi). Writes AllowBreak (with_held o a) (with_held o b) (Err e)) (sym n)
    (unfold with_held Writes in lifted_err Commit AllowBreak (HoldsOne semi.span semi.allows_break) (HoldsOne semi.span true) a b e (λ d. absurd (commit_isnt_deeper d)) h (kept_lifts semi a) k)

-- ---- a writer that holds semicolons, over one that writes them at once

at_once_allows : (s : Sheet) → allowed_at AtOnce (holding AtOnce s) ≡ holding AtOnce (allowed s)
unfolding allowed_at
at_once_allows s = allowed_commutes AtOnce s

-- the semicolon goes out, and then the break that was allowed behind it
pub settled_layers : (span : Option Span) (kept : Bool) (s : Sheet) → settled (holding (HoldsOne span kept) s) ≡ holding HoldsNone (effects (Semi span ∷ break_after kept) (holding AtOnce s))
unfolding settled_by passed_on break_after effects effect semicolon_by
settled_layers span false s = written_commutes HoldsNone span (codes ";") s ∙ ap (holding HoldsNone) (sym (written_commutes AtOnce span (codes ";") s))
settled_layers span true s =
    let w : Sheet = written span (codes ";") s in
    ap allowed (written_commutes HoldsNone span (codes ";") s)
    ∙ (allowed_commutes HoldsNone w
    ∙ sym (ap (holding HoldsNone)
    (ap (λ (z : Sheet). allowed_at z.semicolons z) (written_commutes AtOnce span (codes ";") s) ∙ at_once_allows w)))

-- an allowed break is kept with a semicolon that is held, and else passed on
pub kept_layers : (span : Option Span) (kept : Bool) (s : Sheet) → effect AllowBreak (holding (HoldsOne span kept) s) ≡ holding (HoldsOne span true) s
unfolding effect allowed_at
kept_layers span kept s = refl

pub passed_layers : (s : Sheet) → effect AllowBreak (holding HoldsNone s) ≡ holding HoldsNone (effect AllowBreak (holding AtOnce s))
unfolding effect allowed_at
passed_layers s = allowed_commutes HoldsNone s ∙ ap (holding HoldsNone) (sym (allowed_commutes AtOnce s))

-- it says that it holds semicolons
pub held_back : (p : Option HeldSemi) → true ≡ holds_semicolons (semicolons_of p)
held_back None = refl
held_back (Some span) = refl

-- it says whether one is held
pub none_held : (p : Option HeldSemi) → is_none p ≡ is_settled (semicolons_of p)
none_held None = refl
none_held (Some semi) = refl

-- a writer that writes them at once holds none
pub at_once_settled : (q : Semicolons) → holds_semicolons q ≡ false → is_settled q ≡ true
at_once_settled AtOnce h = refl
at_once_settled HoldsNone h = absurd (false≢true (sym h))
at_once_settled (HoldsOne span allowed) h = absurd (false≢true (sym h))

text_lifts : (p : Option HeldSemi) (t : List ℕ) (a : Sheet) → (a.refused ≡ false → is_settled (semicolons_of p) ≡ true) → Lifts (Str t) (Str t) (semicolons_of p) (semicolons_of p) a
text_lifts None t a k h r = settling_lifts (Str t) (str_settles t) a h r
text_lifts (Some semi) t a k h r = absurd (false≢true (k r))

-- a text goes out below it where none is held
pub text_passes : (p : Option HeldSemi) (t : List ℕ) (a b : Sheet) (r : Result (Unit {0}) Refusal) → (a.refused ≡ false → is_settled (semicolons_of p) ≡ true) → WritesAtOnce a → Writes (Str t) a b r → Writes (Str t) (with_held p a) (with_held p b) r
unfolding with_held
text_passes p t a b r k h w = lifted (Str t) (semicolons_of p) a b r h (text_lifts p t a k) w

-- what the calls need
pub ruleset calls = (kept, settled_then, settled_not, space_settles, keyword_settles, operator_settles, param_settles, property_settles, line_settles, lit_settles, comment_settles, string_settles, str_settles, symbol_settles, punct_settles, commit_settles, deeper_settles, shallower_settles, semi_ok, semi_err, ending_ok, ending_err, position_passes, begin_passes, end_passes, break_passes, break_kept, break_err)
