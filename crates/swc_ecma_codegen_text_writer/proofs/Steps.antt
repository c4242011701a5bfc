-- Sheets on the way to others.
use Rattle.std.proofs.Common.{◌≡◌, ◌⊎◌, inl, inr, ℕ, ◌+◌, ◌-◌, ◌^◌, ◌<◌, ◌≤◌, Bool, true, false, List, [], ◌∷◌, ◌++◌, length, refl, sym, ◌∙◌, ap, subst, append_assoc, arith, append-nil, codes, zero, suc, Option, Some, None, Result, Ok, Err, cond, ◌&&◌, ◌==◌, not, ◌||◌}
use Rattle.std.specs.List.{repeat}
use Rattle.std.proofs.lemmas.List.{append_cancel_left}
use Rattle.std.proofs.lemmas.Bool.{and_right, ne_eqb}
use Rattle.std.specs.declared.io.traits.Write as io
use Rattle.swc_ecma_codegen_common.specs.declared.errors.Refusal.{Refusal}
use Rattle.swc_ecma_codegen_common.specs.declared.errors.Refusal.TheVariants.{Writer, OutOfMemory, UnsupportedNode, BadShape, NameOutOfTarget, PositionTooLarge, Failed}
use Rattle.swc_ecma_codegen_common.specs.declared.positions.BytePos.{BytePos}
use Rattle.swc_ecma_codegen_common.specs.declared.positions.Span.{Span}
use Rattle.swc_ecma_codegen_text_writer.specs.Positions.{Records}
use Rattle.swc_ecma_codegen_text_writer.specs.KeptPositions.{RecordsIn}
use Rattle.swc_ecma_codegen_text_writer.specs.Contents.{or_empty, IsPrefix}
use Rattle.swc_ecma_codegen_text_writer.specs.Outlets.{bytes_so_far}
use Rattle.swc_ecma_codegen_text_writer.specs.declared.outlet.Outlet.{Outlet}
use Rattle.swc_ecma_codegen_text_writer.specs.Places.{Place, origin, after_text}
use Rattle.swc_ecma_codegen_text_writer.specs.Sheet.{Sheet, Pair, Flow, Flowing, Filling, Cutting, Segment, with_text, with_note, released, noted, appended_by, recorded_by, is_recorded, pair_at, with_pair, pointed, Item, Causes, LeavesOut, LacksRoom, for_pair, to_hold, earlier, stopped, Writes, Semicolons, AtOnce, appended, indented, start_recorded, end_recorded, pending_recorded, recorded, started, written, literal_written, ended, settled, settled_by, semicolon_by, dropped, is_ending, before_punct, effect, Deeper, fills_lines, may_take_memory}
use Rattle.swc_ecma_codegen_text_writer.specs.View.{HasReason, Halted, Reaches, Prefaces}
use Rattle.swc_ecma_codegen_text_writer.proofs.Sheets.{Alike, placed_on, alike_refl, alike_trans, start_alike, end_alike, pending_alike, appended_alike, indented_alike, front_refl, front_trans}
use Rattle.swc_ecma_codegen_text_writer.proofs.Room.{far_not_memory, leaves_on}
use Rattle.swc_ecma_codegen_text_writer.proofs.Stays.{Stays, stays_refl, indented_stays}

-- ---- copies

-- one more copy at the end
repeat_after : (n : ℕ) (xs : List ℕ) → repeat n xs ++ xs ≡ xs ++ repeat n xs
repeat_after zero xs = sym (append-nil xs)
repeat_after (suc n) xs = append_assoc xs (repeat n xs) xs ∙ ap (λ ys. xs ++ ys) (repeat_after n xs)

repeat_split : (m n : ℕ) (xs : List ℕ) → repeat (m + n) xs ≡ repeat m xs ++ repeat n xs
repeat_split zero n xs = let e : zero + n ≡ n = omega arith in ap (λ k. repeat k xs) e
repeat_split (suc m) n xs =
    let e : suc m + n ≡ suc (m + n) = omega arith in
    ap (λ k. repeat k xs) e ∙ ap (λ ys. xs ++ ys) (repeat_split m n xs) ∙ sym (append_assoc xs (repeat m xs) (repeat n xs))

repeat_one_more : (n : ℕ) (xs : List ℕ) → repeat (n + 1) xs ≡ repeat n xs ++ xs
repeat_one_more n xs = let e : n + 1 ≡ suc n = omega arith in ap (λ k. repeat k xs) e ∙ sym (repeat_after n xs)

-- ---- places

pub after_append : (t u : List ℕ) (p : Place) → after_text (t ++ u) p ≡ after_text u (after_text t p)
unfolding after_text
after_append [] u p = refl
after_append (c ∷ cs) u p = after_append cs u _

-- ---- indentation

released_twice : (t u : List ℕ) (s : Sheet) → released u (released t s) ≡ released (t ++ u) s
unfolding released
released_twice t u s = λ i. record s { text = append_assoc s.text t u i; place = sym (after_append t u s.place) i }

released_none : (s : Sheet) → s ≡ released [] s
unfolding released after_text
released_none s = ap (λ t. record s { text = t }) (sym (append-nil s.text))

text_twice : (t u : List ℕ) (g : Segment) → with_text u (with_text t g) ≡ with_text (t ++ u) g
text_twice t u g = ap (λ z. record { noted = g.noted; rest = z }) (append_assoc g.rest t u)

text_none : (g : Segment) → g ≡ with_text [] g
text_none g = ap (λ z. record { noted = g.noted; rest = z }) (sym (append-nil g.rest))

-- by what lines are made
lines_as : (s : Sheet) (l : Flow) → s.lines ≡ l → record s { lines = l } ≡ s
lines_as s l h = ap (λ z. record s { lines = z }) (sym h)

twice_by : (l : Flow) (t u : List ℕ) (s : Sheet) → l ≡ s.lines → appended u (appended_by l t s) ≡ appended_by l (t ++ u) s
unfolding appended appended_by released
twice_by Flowing t u s h = ap (λ l. appended_by l u (released t s)) (sym h) ∙ released_twice t u s
twice_by (Filling max first g) t u s h = ap (λ (z : Segment). record s { lines = Filling max first z }) (text_twice t u g)
twice_by (Cutting done begun) t u s h =
    ap (λ (z : Sheet). record z { lines = Cutting done (with_text u (with_text t begun)) }) (released_twice t u s)
    ∙ ap (λ (z : Segment). record (released (t ++ u) s) { lines = Cutting done z }) (text_twice t u begun)

pub appended_twice : (t u : List ℕ) (s : Sheet) → appended u (appended t s) ≡ appended (t ++ u) s
appended_twice t u s = unfold appended in twice_by s.lines t u s refl

none_by : (l : Flow) (s : Sheet) → l ≡ s.lines → s ≡ appended_by l [] s
unfolding appended_by
none_by Flowing s h = released_none s
none_by (Filling max first g) s h = sym (lines_as s _ (sym h)) ∙ ap (λ (z : Segment). record s { lines = Filling max first z }) (text_none g)
none_by (Cutting done begun) s h =
    sym (lines_as s _ (sym h))
    ∙ (ap (λ (z : Sheet). record z { lines = Cutting done begun }) (released_none s)
    ∙ ap (λ (z : Segment). record (released [] s) { lines = Cutting done z }) (text_none begun))

pub appended_none : (s : Sheet) → s ≡ appended [] s
unfolding appended
appended_none s = none_by s.lines s refl

-- where no lines are filled or cut
pub appended_flowing : (t : List ℕ) (s : Sheet) → s.lines ≡ Flowing → appended t s ≡ released t s
unfolding appended appended_by
appended_flowing t s h = ap (λ l. appended_by l t s) h

pub recorded_flowing : (pos : BytePos) (s : Sheet) → is_recorded pos s ≡ true → s.lines ≡ Flowing → recorded pos s ≡ noted pos s
unfolding recorded recorded_by
recorded_flowing pos s k h = ap (λ b. cond b (recorded_by s.lines pos s) s) k ∙ ap (λ l. recorded_by l pos s) h

-- where they are filled
pub appended_filling : (t : List ℕ) (s : Sheet) (max : ℕ) (first : Bool) (g : Segment) → s.lines ≡ Filling max first g → appended t s ≡ record s { lines = Filling max first (with_text t g) }
unfolding appended appended_by
appended_filling t s max first g h = ap (λ l. appended_by l t s) h

pub recorded_filling : (pos : BytePos) (s : Sheet) (max : ℕ) (first : Bool) (g : Segment) → is_recorded pos s ≡ true → s.lines ≡ Filling max first g → recorded pos s ≡ record s { lines = Filling max first (with_note pos g) }
unfolding recorded recorded_by
recorded_filling pos s max first g k h = ap (λ b. cond b (recorded_by s.lines pos s) s) k ∙ ap (λ l. recorded_by l pos s) h

pub indented_zero : (s : Sheet) → s ≡ indented 0 s
unfolding indented
indented_zero s = appended_none s

pub indented_more : (n : ℕ) (s : Sheet) → appended s.indent_text (indented n s) ≡ indented (n + 1) s
unfolding indented
indented_more n s = appended_twice (repeat n s.indent_text) s.indent_text s ∙ ap (λ t. appended t s) (sym (repeat_one_more n s.indent_text))

indented_on : (n m : ℕ) (s : Sheet) → n ≤ m → Alike (indented n s) (indented m s)
unfolding indented
indented_on n m s h =
    let e : m ≡ n + (m - n) = omega arith in
    let q : appended (repeat (m - n) s.indent_text) (indented n s) ≡ indented m s =
    appended_twice (repeat n s.indent_text) (repeat (m - n) s.indent_text) s ∙ ap (λ t. appended t s) (sym (repeat_split n (m - n) s.indent_text)) ∙ ap (λ k. appended (repeat k s.indent_text) s) (sym e) in
    subst (λ (z : Sheet). Alike (indented n s) z) q (appended_alike (repeat (m - n) s.indent_text) (indented n s))

-- ---- ways

same_memory : (a b : Sheet) → b.takes_memory ≡ a.takes_memory → fills_lines b.lines ≡ fills_lines a.lines → may_take_memory b ≡ may_take_memory a
same_memory a b h k = λ i. h i || k i

reason_alike : (e : Refusal) (a b c : Sheet) → Alike a b → Stays a b → HasReason e b c → HasReason e a c
unfolding HasReason
reason_alike Writer a b c h f k = let q : b.faults ≡ a.faults = ap (λ (x : Sheet). x.faults) h.same in rw (sym q) k
reason_alike OutOfMemory a b c h f k = sym (same_memory a b (ap (λ (x : Sheet). x.takes_memory) h.same) f.fills) ∙ k
reason_alike UnsupportedNode a b c h f k = k
reason_alike BadShape a b c h f k = k
reason_alike NameOutOfTarget a b c h f k = k
reason_alike PositionTooLarge a b c h f k = (sym (ap (λ (x : Sheet). x.keeps_positions) h.same) ∙ k.0, k.1)
reason_alike Failed a b c h f k = k

-- what was refused on a part of the way was on the way
pub halted_on : (e : Refusal) (goal next a b c : Sheet) → Alike a b → Stays a b → Alike next goal → Halted e next b c → Halted e goal a c
halted_on e goal next a b c h l k s =
    let same_level : b ≡ record a { text = b.text; at_line_start = b.at_line_start; semicolons = b.semicolons; pairs = b.pairs; pending = b.pending; place = b.place; lines = b.lines } =
    h.same ∙ ap (λ n. record a { text = b.text; at_line_start = b.at_line_start; indentation = n; semicolons = b.semicolons; pairs = b.pairs; pending = b.pending; place = b.place; lines = b.lines }) l.indentation in
    record {
      reason = reason_alike e a b c h l s.reason;
      grows = front_trans a.text b.text c.text h.grows s.grows;
      front = front_trans c.text next.text goal.text s.front k.grows;
      place = placed_on h.grows.0 s.grows.0 a.place b.place c.place h.place s.place;
      more_pairs = front_trans a.pairs b.pairs c.pairs h.more_pairs s.more_pairs;
      front_pairs = front_trans c.pairs next.pairs goal.pairs s.front_pairs k.more_pairs;
      room = λ q. elim (s.room q) [ inl m ↦ inl (sym l.fills ∙ m.0, m.1) | inr p ↦ inr (leaves_on next goal c k.more_pairs p) ];
      same = s.same ∙ ap (λ (x : Sheet). record x { text = c.text; whole = c.whole; at_line_start = c.at_line_start; semicolons = c.semicolons; pairs = c.pairs; pending = c.pending; place = c.place; lines = c.lines; faults = c.faults; refused = true }) same_level;
    }

-- where a way that came to its end has led
pub reached : (goal a b : Sheet) (u : Unit {0}) → Reaches goal a b (Ok u) → b ≡ goal
unfolding Reaches
reached goal a b u h = h

-- a way to the same sheet
pub reaches_to : (goal to a b : Sheet) (r : Result (Unit {0}) Refusal) → goal ≡ to → Reaches goal a b r → Reaches to a b r
reaches_to goal to a b r e h = subst (λ (z : Sheet). Reaches z a b r) e h

-- the first part of a way was refused
pub first_halted : (e : Refusal) (goal next a c : Sheet) → Alike next goal → Halted e next a c → Halted e goal a c
first_halted e goal next a c k s = halted_on e goal next a a c (alike_refl a) (stays_refl a) k s

-- the second part of a way, from where the first has led
pub reaches_on : (goal a b c : Sheet) (r : Result (Unit {0}) Refusal) → Alike a b → Stays a b → Reaches goal b c r → Reaches goal a c r
unfolding Reaches
reaches_on goal a b c (Ok u) h l k = k
reaches_on goal a b c (Err e) h l k = halted_on e goal goal a b c h l (alike_refl goal) k

-- two parts of a way
pub reaches_then : (goal a b c next : Sheet) (r : Result (Unit {0}) Refusal) → b ≡ next → Alike a next → Stays a next → (b ≡ next → Reaches goal b c r) → Reaches goal a c r
reaches_then goal a b c next r e h l k =
    reaches_on goal a b c r (subst (λ (z : Sheet). Alike a z) (sym e) h) (subst (λ (z : Sheet). Stays a z) (sym e) l) (k e)

-- one copy of the indentation failed
pub halted_within_indent : (e : Refusal) (n m : ℕ) (a c : Sheet) → n < m → Halted e (appended a.indent_text (indented n a)) (indented n a) c → Halted e (indented m a) a c
unfolding indented
halted_within_indent e n m a c h s =
    let f : Alike (appended a.indent_text (indented n a)) (indented m a) =
    subst (λ (z : Sheet). Alike z (indented m a)) (sym (indented_more n a)) (indented_on (n + 1) m a (omega (arith, h))) in
    halted_on e (indented m a) (appended a.indent_text (indented n a)) a (indented n a) c (indented_alike n a) (indented_stays n a) f s

-- the sheet at the start of a line's text
abbrev pub begun_sheet : Sheet → Sheet
begun_sheet s = record (indented s.indentation s) { at_line_start = false }

pub started_true : (s : Sheet) → s.at_line_start ≡ true → started s ≡ pending_recorded s.pending (record (indented s.indentation s) { at_line_start = false })
unfolding started
started_true s h = ap (λ b. cond b (pending_recorded s.pending (record (indented s.indentation s) { at_line_start = false })) s) h

pub started_false : (s : Sheet) → s.at_line_start ≡ false → started s ≡ s
unfolding started
started_false s h = ap (λ b. cond b (pending_recorded s.pending (record (indented s.indentation s) { at_line_start = false })) s) h

line_begun : (s : Sheet) → Alike s (record s { at_line_start = false })
line_begun s = record { grows = front_refl s.text; place = unfold after_text in refl; more_pairs = front_refl s.pairs; holds = refl; same = refl }

pub begun_sheet_alike : (s : Sheet) → Alike s (begun_sheet s)
begun_sheet_alike s = alike_trans _ _ _ (indented_alike s.indentation s) (line_begun (indented s.indentation s))

appended_by_pending : (l : Flow) (t : List ℕ) (s : Sheet) → (appended_by l t s).pending ≡ s.pending
unfolding appended_by released
appended_by_pending Flowing t s = refl
appended_by_pending (Filling max first held) t s = refl
appended_by_pending (Cutting done begun) t s = refl

pub begun_sheet_pending : (s : Sheet) → (begun_sheet s).pending ≡ s.pending
unfolding indented appended
begun_sheet_pending s = appended_by_pending s.lines (repeat s.indentation s.indent_text) s

pub begun_sheet_stays : (s : Sheet) → Stays s (begun_sheet s)
begun_sheet_stays s = let h = indented_stays s.indentation s in record { indentation = h.indentation; fills = h.fills }

-- from the indentation to the line's start
pub begun_on : (s : Sheet) → s.at_line_start ≡ true → Alike (indented s.indentation s) (started s)
begun_on s h =
    let there : Sheet = indented s.indentation s in
    let f : Alike there (begun_sheet s) = line_begun there in
    subst (λ (z : Sheet). Alike there z) (sym (started_true s h)) (alike_trans there (begun_sheet s) (pending_recorded s.pending (begun_sheet s)) f (pending_alike s.pending (begun_sheet s)))

-- nothing comes of an empty text
pub written_nil : (span : Option Span) (t : List ℕ) (s : Sheet) → length t ≡ 0 → s ≡ written span t s
unfolding written
written_nil span [] s h = refl
written_nil span (c ∷ cs) s h = absurd (omega (arith, h))

pub written_some : (span : Option Span) (t : List ℕ) (s : Sheet) → 0 < length t → end_recorded span (appended t (start_recorded span (started s))) ≡ written span t s
unfolding written
written_some span [] s h = absurd (omega (arith, h))
written_some span (c ∷ cs) s h = refl

-- in a line a text is written as it is
pub written_in_line : (t : List ℕ) (s : Sheet) → 0 < length t → s.at_line_start ≡ false → appended t s ≡ written None t s
unfolding start_recorded end_recorded
written_in_line t s h k = ap (appended t) (sym (started_false s k)) ∙ written_some None t s h

-- nothing comes of an empty text that is sent
pub appended_nil : (t : List ℕ) (s : Sheet) → length t ≡ 0 → s ≡ appended t s
appended_nil [] s h = appended_none s
appended_nil (c ∷ cs) s h = absurd (omega (arith, h))

-- the same of any text, an empty one too
pub written_begun : (t : List ℕ) (s : Sheet) → s.at_line_start ≡ false → appended t s ≡ written None t s
unfolding written
written_begun [] s k = sym (appended_none s)
written_begun (c ∷ cs) s k = written_in_line (c ∷ cs) s (omega arith) k

-- position 0 is never recorded
pub recorded_none : (pos : BytePos) (s : Sheet) → pos.0 ≡ 0 → recorded pos s ≡ s
unfolding recorded
recorded_none pos s h = ap (λ n. cond (s.keeps_positions && not (n == 0)) (recorded_by s.lines pos s) s) h ∙ ap (λ b. cond b (recorded_by s.lines pos s) s) (and_right s.keeps_positions false refl)

-- so nothing of a span that stands nowhere
pub written_nowhere : (span : Span) (t : List ℕ) (s : Sheet) → span.lo.0 ≡ 0 → span.hi.0 ≡ 0 → written (Some span) t s ≡ written None t s
unfolding written start_recorded end_recorded
written_nowhere span [] s h k = refl
written_nowhere span (c ∷ cs) s h k = recorded_none span.hi _ k ∙ ap (appended (c ∷ cs)) (recorded_none span.lo (started s) h)

-- from there to the end of a text
pub started_written : (span : Option Span) (t : List ℕ) (s : Sheet) → 0 < length t → Alike (started s) (written span t s)
started_written span t s h =
    subst (λ (z : Sheet). Alike (started s) z) (written_some span t s h)
    (alike_trans _ _ _ (start_alike span (started s)) (alike_trans _ _ _ (appended_alike t (start_recorded span (started s))) (end_alike span (appended t (start_recorded span (started s))))))

pub literal_nil : (span : Span) (t : List ℕ) (s : Sheet) → length t ≡ 0 → s ≡ literal_written span t s
unfolding literal_written
literal_nil span [] s h = refl
literal_nil span (c ∷ cs) s h = absurd (omega (arith, h))

pub literal_some : (span : Span) (t : List ℕ) (s : Sheet) → 0 < length t → recorded span.hi (written None t (recorded span.lo s)) ≡ literal_written span t s
unfolding literal_written
literal_some span [] s h = absurd (omega (arith, h))
literal_some span (c ∷ cs) s h = refl

-- no position is recorded where none are kept
pub recorded_bare : (pos : BytePos) (s : Sheet) → s.keeps_positions ≡ false → recorded pos s ≡ s
unfolding recorded
recorded_bare pos s h = ap (λ b. cond (b && not (pos.0 == 0)) (recorded_by s.lines pos s) s) h

-- so in a line a literal is written as it is
pub literal_in_line : (span : Span) (t : List ℕ) (s : Sheet) → 0 < length t → s.at_line_start ≡ false → s.keeps_positions ≡ false → appended t s ≡ literal_written span t s
literal_in_line span t s h k b =
    let bare : (appended t s).keeps_positions ≡ false = ap (λ (x : Sheet). x.keeps_positions) (appended_alike t s).same ∙ b in
    sym (recorded_bare span.hi (appended t s) bare)
    ∙ ap (recorded span.hi) (written_in_line t s h k ∙ ap (written None t) (sym (recorded_bare span.lo s b)))
    ∙ literal_some span t s h

-- the place after what was sent before and now
pub place_on : (before t after : List ℕ) → after ≡ before ++ t → after_text after origin ≡ after_text t (after_text before origin)
place_on before t after h = ap (λ z. after_text z origin) h ∙ after_append before t origin

-- the place after what an outlet has sent since
pub place_since : {W : Type 0} {g : io.Ghosts W} (old new : Outlet W g) → new.before ≡ old.before → (h : IsPrefix (bytes_so_far old) (bytes_so_far new)) → after_text new.log.bytes origin ≡ after_text h.0 (after_text old.log.bytes origin)
place_since {g = g} old new b h =
    let contents_before = or_empty (g.contents old.before.value) in
    let e : contents_before ++ new.log.bytes ≡ contents_before ++ (old.log.bytes ++ h.0) =
    sym (ap (λ z. or_empty (g.contents z.value) ++ new.log.bytes) b) ∙ h.1 ∙ append_assoc contents_before old.log.bytes h.0 in
    place_on old.log.bytes h.0 new.log.bytes (append_cancel_left contents_before new.log.bytes (old.log.bytes ++ h.0) e)

-- the same sheet, by what it has of an outlet
pub outlet_same : (s : Sheet) (x : List ℕ) (b : Bool) (p : Place) (n : ℕ) → x ≡ s.text → b ≡ s.whole → p ≡ s.place → n ≡ s.faults → record s { text = x; whole = b; place = p; faults = n } ≡ s
outlet_same s x b p n h k l m = λ i. record s { text = h i; whole = k i; place = l i; faults = m i }

-- the place where nothing went out
pub new_place : (bytes : List ℕ) → bytes ≡ [] → after_text bytes origin ≡ origin
unfolding after_text
new_place bytes h = ap (λ z. after_text z origin) h

pub sent_sheet : (t : List ℕ) (s : Sheet) (x : List ℕ) (b : Bool) (n : ℕ) (p : Place) (keeps memory : Bool) (pairs : List Pair) (pending : Option BytePos)
    → x ≡ s.text ++ t → b ≡ s.whole → n ≡ s.faults → p ≡ after_text t s.place → keeps ≡ s.keeps_positions → memory ≡ s.takes_memory → pairs ≡ s.pairs → pending ≡ s.pending
    → record s { text = x; whole = b; faults = n; place = p; keeps_positions = keeps; takes_memory = memory; pairs = pairs; pending = pending } ≡ released t s
unfolding released
sent_sheet t s x b n p keeps memory pairs pending h k m q e f g l =
    λ i. record s { text = h i; whole = k i; faults = m i; place = q i; keeps_positions = e i; takes_memory = f i; pairs = g i; pending = l i }

-- ---- recorded positions

records_ok : (pos : BytePos) (p : Place) (keeps : Bool) (old new : List Pair) (u : Unit {0}) → RecordsIn pos p keeps old new (Ok u) → new ≡ cond keeps (with_pair pos p old) old
unfolding RecordsIn Records
records_ok pos p true old new u h = h
records_ok pos p false old new u h = h

-- the sheet after a position that was recorded, by its parts
pub recorded_sheet : (pos : BytePos) (s : Sheet) (new : List Pair) (u : Unit {0}) (keeps memory : Bool) (pending : Option BytePos)
    → RecordsIn pos s.place s.keeps_positions s.pairs new (Ok u) → s.keeps_positions ≡ true → keeps ≡ s.keeps_positions → memory ≡ s.takes_memory → pending ≡ s.pending
    → record s { keeps_positions = keeps; takes_memory = memory; pairs = new; pending = pending } ≡ noted pos s
unfolding noted
recorded_sheet pos s new u keeps memory pending h t k m l =
    λ i. record s { keeps_positions = k i; takes_memory = m i; pairs = (records_ok pos s.place s.keeps_positions s.pairs new u h ∙ ap (λ b. cond b (with_pair pos s.place s.pairs) s.pairs) t) i; pending = l i }

-- a refused position leaves the pairs
pub refused_pairs : (pos : BytePos) (p : Place) (keeps : Bool) (old new : List Pair) (e : Refusal) → RecordsIn pos p keeps old new (Err e) → new ≡ old
unfolding RecordsIn Records
refused_pairs pos p true old new Writer h = absurd h
refused_pairs pos p true old new OutOfMemory h = h.0
refused_pairs pos p true old new UnsupportedNode h = absurd h
refused_pairs pos p true old new BadShape h = absurd h
refused_pairs pos p true old new NameOutOfTarget h = absurd h
refused_pairs pos p true old new PositionTooLarge h = h.1
refused_pairs pos p true old new Failed h = absurd h
refused_pairs pos p false old new e h = absurd h

-- and has its reason
pub refused_reason : (pos : BytePos) (keeps : Bool) (old new : List Pair) (e : Refusal) (s c : Sheet) → RecordsIn pos c.place keeps old new (Err e) → keeps ≡ s.keeps_positions → keeps ≡ s.takes_memory → HasReason e s c
unfolding RecordsIn Records HasReason
refused_reason pos true old new Writer s c h k m = absurd h
refused_reason pos true old new OutOfMemory s c h k m = ap (λ z. z || fills_lines s.lines) (sym m)
refused_reason pos true old new UnsupportedNode s c h k m = absurd h
refused_reason pos true old new BadShape s c h k m = absurd h
refused_reason pos true old new NameOutOfTarget s c h k m = absurd h
refused_reason pos true old new PositionTooLarge s c h k m = (sym k, h.0)
refused_reason pos true old new Failed s c h k m = absurd h
refused_reason pos false old new e s c h k m = absurd h

records_memory : (pos : BytePos) (p : Place) (keeps : Bool) (old new : List Pair) → RecordsIn pos p keeps old new (Err OutOfMemory) → with_pair pos p old ≡ new ++ (pair_at pos p ∷ [])
unfolding RecordsIn Records
records_memory pos p true old new h = h.1
records_memory pos p false old new h = absurd h

-- it had no room
pub refused_room : (pos : BytePos) (keeps : Bool) (e : Refusal) (s : Sheet) (new : List Pair) → RecordsIn pos s.place keeps s.pairs new (Err e) → e ≡ OutOfMemory → (noted pos s).pairs ≡ new ++ (pair_at pos s.place ∷ [])
unfolding noted
refused_room pos keeps e s new h q = records_memory pos s.place keeps s.pairs new (subst (λ (z : Refusal). RecordsIn pos s.place keeps s.pairs new (Err z)) q h)

-- something was refused, and the sheet is marked; what is held isn't told
pub refused_here : (e : Refusal) (goal s c : Sheet) (l : Flow) → c ≡ record s { lines = l; refused = true } → Alike s goal → HasReason e s c → (e ≡ OutOfMemory → ((fills_lines s.lines ≡ true) × (fills_lines l ≡ true)) ⊎ LeavesOut goal c) → Halted e goal s c
refused_here e goal s c l h k r m =
    let P : Sheet → Type 0 = λ z. z ≡ record s { text = z.text; whole = z.whole; at_line_start = z.at_line_start; semicolons = z.semicolons; pairs = z.pairs; pending = z.pending; place = z.place; lines = z.lines; faults = z.faults; refused = true } in
    let T : Sheet → Type 0 = λ z. IsPrefix z.text goal.text in
    let Q : Sheet → Type 0 = λ z. IsPrefix z.pairs goal.pairs in
    let V : Sheet → Type 0 = λ z. IsPrefix s.pairs z.pairs in
    record {
      reason = r;
      grows = ([], ap (λ (z : Sheet). z.text) h ∙ sym (append-nil s.text));
      front = subst T (sym h) k.grows;
      place = unfold after_text in ap (λ (z : Sheet). z.place) h;
      more_pairs = subst V (sym h) (front_refl s.pairs);
      front_pairs = subst Q (sym h) k.more_pairs;
      room = λ q. elim (m q) [ inl f ↦ inl (f.0, ap (λ (z : Sheet). fills_lines z.lines) h ∙ f.1) | inr p ↦ inr p ];
      same = subst P (sym h) refl;
    }

pub pending_dropped : (s : Sheet) → Alike s (record s { pending = None })
pending_dropped s = record { grows = front_refl s.text; place = unfold after_text in refl; more_pairs = front_refl s.pairs; holds = refl; same = refl }

-- the sheet after its pending position was taken, by its parts
pub taken_sheet : (s : Sheet) (keeps memory : Bool) (pairs : List Pair) (pending : Option BytePos) → keeps ≡ s.keeps_positions → memory ≡ s.takes_memory → pairs ≡ s.pairs → pending ≡ None → record s { keeps_positions = keeps; takes_memory = memory; pairs = pairs; pending = pending } ≡ record s { pending = None }
taken_sheet s keeps memory pairs pending e f g l = λ i. record s { keeps_positions = e i; takes_memory = f i; pairs = g i; pending = l i }

-- the sheet with a pending position, by its parts
pub pointed_sheet : (pos : BytePos) (s : Sheet) (keeps memory : Bool) (pairs : List Pair) (pending : Option BytePos) → (s.keeps_positions && s.at_line_start) ≡ true → keeps ≡ s.keeps_positions → memory ≡ s.takes_memory → pairs ≡ s.pairs → pending ≡ Some pos → record s { keeps_positions = keeps; takes_memory = memory; pairs = pairs; pending = pending } ≡ pointed pos s
unfolding pointed
pointed_sheet pos s keeps memory pairs pending b e f g l =
    (λ i. record s { keeps_positions = e i; takes_memory = f i; pairs = g i; pending = l i }) ∙ sym (ap (λ z. cond z (record s { pending = Some pos }) (recorded pos s)) b)

pub pointed_in_line : (pos : BytePos) (s : Sheet) → (s.keeps_positions && s.at_line_start) ≡ false → pointed pos s ≡ recorded pos s
unfolding pointed
pointed_in_line pos s b = ap (λ z. cond z (record s { pending = Some pos }) (recorded pos s)) b

-- ---- calls

-- an earlier refusal is answered
pub writes_failed : (x : Item) (a : Sheet) → a.refused ≡ true → Writes x a a (Err Failed)
unfolding Writes
writes_failed x a h = earlier h refl refl

pub writes_ok : (x : Item) (a b : Sheet) → a.refused ≡ false → b ≡ effect x a → Writes x a b (Ok tt)
unfolding Writes
writes_ok x a b h k = (h, k)

reason_causes : (x : Item) (e : Refusal) (a b : Sheet) → HasReason e a b → Causes x e a b
unfolding HasReason Causes
reason_causes x Writer a b h = h
reason_causes x OutOfMemory a b h = h
reason_causes x UnsupportedNode a b h = h
reason_causes x BadShape a b h = h
reason_causes x NameOutOfTarget a b h = h
reason_causes x PositionTooLarge a b h = inr h
reason_causes x Failed a b h = h

-- a writer that writes semicolons at once holds none
pub settled_at_once : (s : Sheet) → s.semicolons ≡ AtOnce → settled s ≡ s
unfolding settled_by
settled_at_once s h = ap (λ (x : Semicolons). settled_by x s) h

-- what calls do there
pub text_at_once : (span : Option Span) (t : List ℕ) (s : Sheet) → s.semicolons ≡ AtOnce → written span t (settled s) ≡ written span t s
text_at_once span t s h = ap (written span t) (settled_at_once s h)

pub literal_at_once : (span : Span) (t : List ℕ) (s : Sheet) → s.semicolons ≡ AtOnce → literal_written span t (settled s) ≡ literal_written span t s
literal_at_once span t s h = ap (literal_written span t) (settled_at_once s h)

pub line_at_once : (s : Sheet) → s.semicolons ≡ AtOnce → ended (settled s) ≡ ended s
line_at_once s h = ap ended (settled_at_once s h)

pub semicolon_at_once : (span : Option Span) (s : Sheet) → s.semicolons ≡ AtOnce → semicolon_by s.semicolons span s ≡ written span (codes ";") s
unfolding semicolon_by
semicolon_at_once span s h = ap (λ (x : Semicolons). semicolon_by x span s) h

none_dropped : (s : Sheet) → s.semicolons ≡ AtOnce → record s { semicolons = dropped s.semicolons } ≡ s
unfolding dropped
none_dropped s h = ap (λ (x : Semicolons). record s { semicolons = x }) (ap dropped h ∙ sym h)

punct_case : (b : Bool) (s : Sheet) → s.semicolons ≡ AtOnce → cond b (record s { semicolons = dropped s.semicolons }) (settled s) ≡ s
punct_case true s h = none_dropped s h
punct_case false s h = settled_at_once s h

pub punct_at_once : (span : Option Span) (t : List ℕ) (s : Sheet) → s.semicolons ≡ AtOnce → written span t (before_punct t s) ≡ written span t s
unfolding before_punct
punct_at_once span t s h = ap (written span t) (punct_case (is_ending t) s h)

room_lacked : (goal a b : Sheet) → ((fills_lines a.lines ≡ true) × (fills_lines b.lines ≡ true)) ⊎ LeavesOut goal b → LacksRoom goal a b
room_lacked goal a b (inl f) = to_hold f.0 f.1
room_lacked goal a b (inr p) = for_pair p

-- what was refused on the way to a call's sheet refuses the call
pub writes_halted : (x : Item) (e : Refusal) (a b : Sheet) → a.semicolons ≡ AtOnce → b.semicolons ≡ AtOnce → a.refused ≡ false → Halted e (effect x a) a b → Writes x a b (Err e)
unfolding Writes dropped
writes_halted x e a b o n h k =
    stopped h (reason_causes x e a b k.reason) (record {
      grows = k.grows;
      front = k.front;
      place = k.place;
      more_pairs = k.more_pairs;
      front_pairs = k.front_pairs;
      room = λ q. room_lacked (effect x a) a b (k.room q);
      held = inr (n ∙ sym (ap dropped o), subst (λ (z : Sheet). IsPrefix z.text b.text) (sym (settled_at_once a o)) k.grows);
      same = k.same;
    })

-- a call is a way to its sheet
pub writes_reached : (x : Item) (a b : Sheet) (r : Result (Unit {0}) Refusal) → a.semicolons ≡ AtOnce → b.semicolons ≡ AtOnce → a.refused ≡ false → Reaches (effect x a) a b r → Writes x a b r
unfolding Reaches Writes
writes_reached x a b (Ok u) o n h k = (h, k)
writes_reached x a b (Err e) o n h k = writes_halted x e a b o n h k

-- the same by the sheet that the call leads to
pub writes_way : (x : Item) (goal a b : Sheet) (r : Result (Unit {0}) Refusal) → goal ≡ effect x a → a.semicolons ≡ AtOnce → b.semicolons ≡ AtOnce → a.refused ≡ false → Reaches goal a b r → Writes x a b r
writes_way x goal a b r e o n h k = writes_reached x a b r o n h (subst (λ (z : Sheet). Reaches z a b r) e k)

pub ended_true : (s : Sheet) → s.at_line_start ≡ true → record s { pending = None } ≡ ended s
unfolding ended
ended_true s h = sym (ap (λ b. cond b (record s { pending = None }) (record (appended s.line_end s) { at_line_start = true })) h)

pub ended_false : (s : Sheet) → s.at_line_start ≡ false → record (appended s.line_end s) { at_line_start = true } ≡ ended s
unfolding ended
ended_false s h = sym (ap (λ b. cond b (record s { pending = None }) (record (appended s.line_end s) { at_line_start = true })) h)

at_line_alike : (s : Sheet) → Alike s (record s { at_line_start = true })
at_line_alike s = record { grows = front_refl s.text; place = unfold after_text in refl; more_pairs = front_refl s.pairs; holds = refl; same = refl }

-- the line's end failed
pub line_halted : (e : Refusal) (a c : Sheet) → a.at_line_start ≡ false → Halted e (appended a.line_end a) a c → Halted e (ended a) a c
line_halted e a c h s =
    let f : Alike (appended a.line_end a) (ended a) = subst (λ (z : Sheet). Alike (appended a.line_end a) z) (ended_false a h) (at_line_alike (appended a.line_end a)) in
    first_halted e (ended a) (appended a.line_end a) a c f s

-- the indentation can't grow
pub deeper_refused : (a c : Sheet) → a.semicolons ≡ AtOnce → a.refused ≡ false → a.indentation ≡ 2 ^ 32 - 1 → c ≡ record a { refused = true } → Writes Deeper a c (Err PositionTooLarge)
unfolding effect Writes Causes
deeper_refused a c o r h k =
    let e : c.text ≡ a.text = ap (λ (s : Sheet). s.text) k in
    let q : c.pairs ≡ a.pairs = ap (λ (s : Sheet). s.pairs) k in
    let z : settled a ≡ a = settled_at_once a o in
    let P : Sheet → Type 0 = λ (s : Sheet). s ≡ record a { text = s.text; whole = s.whole; at_line_start = s.at_line_start; semicolons = s.semicolons; pairs = s.pairs; pending = s.pending; place = s.place; lines = s.lines; faults = s.faults; refused = true } in
    stopped r (inl (refl, h)) (record {
      grows = ([], e ∙ sym (append-nil a.text));
      place = unfold after_text in ap (λ (s : Sheet). s.place) k;
      front = ([], ap (λ (s : Sheet). s.text) z ∙ sym e ∙ sym (append-nil c.text));
      more_pairs = ([], q ∙ sym (append-nil a.pairs));
      front_pairs = ([], ap (λ (s : Sheet). s.pairs) z ∙ sym q ∙ sym (append-nil c.pairs));
      room = λ far. far_not_memory far;
      held = inl (ap (λ (s : Sheet). s.semicolons) k);
      same = subst P (sym k) refl;
    })

pub none_pending : (s : Sheet) → s.pending ≡ None → record s { pending = None } ≡ pending_recorded s.pending s
unfolding pending_recorded
none_pending s h = ap (λ (z : Option BytePos). record s { pending = z }) (sym h) ∙ sym (ap (λ (z : Option BytePos). pending_recorded z s) h)

pub some_pending : (pos : BytePos) (s : Sheet) → s.pending ≡ Some pos → recorded pos (record s { pending = None }) ≡ pending_recorded s.pending s
unfolding pending_recorded
some_pending pos s h = sym (ap (λ (z : Option BytePos). pending_recorded z s) h)

pub not_zero : (n : ℕ) → (n ≡ 0 → ⊥) → not (n == 0) ≡ true
not_zero n h = ap not (ne_eqb n 0 h)

pub both_true : (a b : Bool) → a ≡ true → b ≡ true → (a && b) ≡ true
both_true a b h k = λ i. h i && k i

pub first_false : (a b : Bool) → a ≡ false → (a && b) ≡ false
first_false a b h = λ i. h i && b

pub second_false : (a b : Bool) → b ≡ false → (a && b) ≡ false
second_false true b h = h
second_false false b h = refl

pub prefaced : (t : List ℕ) (s c : Sheet) (r : Result (Unit {0}) Refusal) → s.refused ≡ false → Reaches (appended t s) s c r → Prefaces t s c r
unfolding Prefaces Reaches
prefaced t s c (Ok u) h k = (h, k)
prefaced t s c (Err e) h k = inr (h, k)
