-- A run with a greatest line length, and the same run without.
use Rattle.std.proofs.Common.{◌≡◌, ℕ, ◌+◌, ◌-◌, ◌≤◌, Bool, true, false, List, [], ◌∷◌, ◌++◌, refl, sym, ◌∙◌, ap, subst, append_assoc, append-nil, cond, codes, Option, Some, None, ◌&&◌}
use Rattle.std.specs.List.{repeat}
use Rattle.std.proofs.lemmas.Bool.{true≢false, and_parts}
use Rattle.swc_ecma_codegen_common.specs.declared.positions.BytePos.{BytePos}
use Rattle.swc_ecma_codegen_common.specs.declared.positions.Span.{Span}
use Rattle.swc_ecma_codegen_text_writer.specs.Places.{Place, after_text}
use Rattle.swc_ecma_codegen_text_writer.specs.Filling.{IsLineEnd, Part, segments_of, first_units, is_due, part_text, text_of, joined, filled, last_line}
use Rattle.swc_ecma_codegen_text_writer.proofs.Reaching.{after_both}
use Rattle.swc_ecma_codegen_text_writer.proofs.Ahead.{text_sound}
use Rattle.swc_ecma_codegen_text_writer.proofs.Fills.{filled_segments, filled_bounded, filled_needed, filled_fewest}
use Rattle.swc_ecma_codegen_text_writer.specs.Sheet.{with_pair, with_text, with_note, Item, Semi, Space, Keyword, Operator, Param, Property, Line, Lit, Comment, StrLit, Str, Symbol, Punct, Position, Commit, Deeper, Shallower, BeginLines, AllowBreak, EndLines, Pair, Sheet, Semicolons, AtOnce, HoldsNone, HoldsOne, Segment, no_segment, Flowing, Filling, Cutting, released, noted, notes_released, notes_text, text_in, appended_by, appended, indented, recorded_by, is_recorded, recorded, start_recorded, end_recorded, pending_recorded, started, written, literal_written, ended, pointed, ends_before, line_ended, segment_released, begun_by, allowed_by, allowed, closed_by, passed_on, settled_by, settled, semicolon_by, dropped, is_ending, before_punct, allowed_at, effect, effects}
use Rattle.swc_ecma_codegen_text_writer.specs.Runs.{texts_in, segments_released, is_inner, are_inner, within_lines, cut_from_here, FillsLines}
use Rattle.swc_ecma_codegen_text_writer.proofs.Added.{segment_adds}
use Rattle.swc_ecma_codegen_text_writer.proofs.Laid.{laid, is_none_done, laid-more, some_done, joined-more, some_first, laid-first, joined-first}

-- what differs where lines are filled
record Out : Type 0 where
  text : List ℕ
  place : Place
  pairs : List Pair
  first : Bool
  held : Segment

abbrev once : Sheet → Sheet
once s = record s { lines = Flowing }

abbrev cutting : List Segment → Segment → Sheet → Sheet
cutting d c s = record s { lines = Cutting d c }

abbrev twin : ℕ → Sheet → Out → Sheet
twin max s w = record s { text = w.text; place = w.place; pairs = w.pairs; lines = Filling max w.first w.held }

-- two sheets with the same text, place, pairs and line end
record Level (a b : Sheet) : Type 0 where
  text : a.text ≡ b.text
  place : a.place ≡ b.place
  pairs : a.pairs ≡ b.pairs
  line_end : a.line_end ≡ b.line_end

-- The segments `d` are out, and `c` is held.
record Twins (max : ℕ) (old s : Sheet) (d : List Segment) (c : Segment) (w : Out) : Type 0 where
  first : w.first ≡ is_none_done (texts_in d)
  held : w.held ≡ c
  plain : s.text ≡ old.text ++ (joined (texts_in d) ++ text_in c)
  text : w.text ≡ old.text ++ laid max old.line_end old.place (texts_in d)
  place : w.place ≡ after_text (laid max old.line_end old.place (texts_in d)) old.place
  line_end : s.line_end ≡ old.line_end
  level : Level (record s { text = w.text; place = w.place; pairs = w.pairs; lines = Flowing }) (segments_released max true d old)

-- where three runs of the same calls stand: without a greatest line length, the same with its cuts, and with it
record Three (max : ℕ) (old x y z : Sheet) : Type 0 where
  s : Sheet
  d : List Segment
  c : Segment
  w : Out
  is_once : x ≡ once s
  is_cut : y ≡ cutting d c s
  is_fill : z ≡ twin max s w
  twins : Twins max old s d c w

three_at : (max : ℕ) (old x y z : Sheet) (F : Sheet → Sheet) (h : Three max old x y z) → Three max old (F (once h.s)) (F (cutting h.d h.c h.s)) (F (twin max h.s h.w)) → Three max old (F x) (F y) (F z)
three_at max old x y z F h k =
    subst (λ (u : Sheet). Three max old u (F y) (F z)) (ap F (sym h.is_once))
    (subst (λ (u : Sheet). Three max old (F (once h.s)) u (F z)) (ap F (sym h.is_cut))
    (subst (λ (u : Sheet). Three max old (F (once h.s)) (F (cutting h.d h.c h.s)) u) (ap F (sym h.is_fill)) k))

here : {max : ℕ} {old : Sheet} (s : Sheet) (d : List Segment) (c : Segment) (w : Out) → Twins max old s d c w → Three max old (once s) (cutting d c s) (twin max s w)
here s d c w t = record { s = s; d = d; c = c; w = w; is_once = refl; is_cut = refl; is_fill = refl; twins = t }

same_twins : {max : ℕ} {old s : Sheet} {d : List Segment} {c : Segment} {w : Out} (u : Sheet) → u.text ≡ s.text → u.line_end ≡ s.line_end → Twins max old s d c w → Twins max old u d c w
same_twins u h k t = record { first = t.first; held = t.held; plain = h ∙ t.plain; text = t.text; place = t.place; line_end = k ∙ t.line_end; level = record { text = t.level.text; place = t.level.place; pairs = t.level.pairs; line_end = k ∙ t.level.line_end } }

-- ---- what has nothing to do with lines

three_start : {max : ℕ} {old x y z : Sheet} (b : Bool) → Three max old x y z → Three max old (record x { at_line_start = b }) (record y { at_line_start = b }) (record z { at_line_start = b })
three_start {max} {old} {x} {y} {z} b h = three_at max old x y z (λ s. record s { at_line_start = b }) h (here (record h.s { at_line_start = b }) h.d h.c h.w (same_twins _ refl refl h.twins))

three_pending : {max : ℕ} {old x y z : Sheet} (p : Option BytePos) → Three max old x y z → Three max old (record x { pending = p }) (record y { pending = p }) (record z { pending = p })
three_pending {max} {old} {x} {y} {z} p h = three_at max old x y z (λ s. record s { pending = p }) h (here (record h.s { pending = p }) h.d h.c h.w (same_twins _ refl refl h.twins))

three_level : {max : ℕ} {old x y z : Sheet} (n : ℕ) → Three max old x y z → Three max old (record x { indentation = n }) (record y { indentation = n }) (record z { indentation = n })
three_level {max} {old} {x} {y} {z} n h = three_at max old x y z (λ s. record s { indentation = n }) h (here (record h.s { indentation = n }) h.d h.c h.w (same_twins _ refl refl h.twins))

three_semicolons : {max : ℕ} {old x y z : Sheet} (q : Semicolons) → Three max old x y z → Three max old (record x { semicolons = q }) (record y { semicolons = q }) (record z { semicolons = q })
three_semicolons {max} {old} {x} {y} {z} q h = three_at max old x y z (λ s. record s { semicolons = q }) h (here (record h.s { semicolons = q }) h.d h.c h.w (same_twins _ refl refl h.twins))

-- ---- a text more

pub text-more : (g : Segment) (t : List ℕ) → text_in (with_text t g) ≡ text_in g ++ t
unfolding text_in
text-more g t = sym (append_assoc (notes_text g.noted) g.rest t)

notes-more : (xs : List (List ℕ × BytePos)) (t : List ℕ) (pos : BytePos) → notes_text (xs ++ ((t, pos) ∷ [])) ≡ notes_text xs ++ t
unfolding notes_text
notes-more [] t pos = append-nil t
notes-more (x ∷ xs) t pos = ap (λ z. x.0 ++ z) (notes-more xs t pos) ∙ sym (append_assoc x.0 (notes_text xs) t)

pub text-noted : (g : Segment) (pos : BytePos) → text_in (with_note pos g) ≡ text_in g
unfolding text_in
text-noted g pos = append-nil (notes_text (g.noted ++ ((g.rest, pos) ∷ []))) ∙ notes-more g.noted g.rest pos

pub text-none : text_in no_segment ≡ []
unfolding text_in notes_text
text-none = refl

more_text : Out → List ℕ → Out
more_text w t = record { text = w.text; place = w.place; pairs = w.pairs; first = w.first; held = with_text t w.held }

more_twins : {max : ℕ} {old s : Sheet} {d : List Segment} {c : Segment} {w : Out} (t : List ℕ) → Twins max old s d c w → Twins max old (released t s) d (with_text t c) (more_text w t)
unfolding released more_text
more_twins {old = old} {d = d} {c = c} {w = w} t h = record {
  first = h.first;
  held = ap (with_text t) h.held;
  plain = ap (λ z. z ++ t) h.plain ∙ (append_assoc old.text (joined (texts_in d) ++ text_in c) t ∙ ap (λ z. old.text ++ z) (append_assoc (joined (texts_in d)) (text_in c) t ∙ ap (λ z. joined (texts_in d) ++ z) (sym (text-more c t))));
  text = h.text;
  place = h.place;
  line_end = h.line_end;
  level = record { text = h.level.text; place = h.level.place; pairs = h.level.pairs; line_end = h.level.line_end };
}

three_appended : {max : ℕ} {old x y z : Sheet} (t : List ℕ) → Three max old x y z → Three max old (appended t x) (appended t y) (appended t z)
unfolding appended appended_by released more_text
three_appended {max} {old} {x} {y} {z} t h = three_at max old x y z (appended t) h (here (released t h.s) h.d (with_text t h.c) (more_text h.w t) (more_twins t h.twins))

-- ---- a position more

more_noted : Out → BytePos → Out
more_noted w pos = record { text = w.text; place = w.place; pairs = w.pairs; first = w.first; held = with_note pos w.held }

noted_twins : {max : ℕ} {old s : Sheet} {d : List Segment} {c : Segment} {w : Out} (pos : BytePos) → Twins max old s d c w → Twins max old (noted pos s) d (with_note pos c) (more_noted w pos)
unfolding noted more_noted
noted_twins {old = old} {d = d} {c = c} {w = w} pos h = record {
  first = h.first;
  held = ap (with_note pos) h.held;
  plain = h.plain ∙ ap (λ z. old.text ++ (joined (texts_in d) ++ z)) (sym (text-noted c pos));
  text = h.text;
  place = h.place;
  line_end = h.line_end;
  level = record { text = h.level.text; place = h.level.place; pairs = h.level.pairs; line_end = h.level.line_end };
}

three_recorded : {max : ℕ} {old x y z : Sheet} (pos : BytePos) → Three max old x y z → Three max old (recorded pos x) (recorded pos y) (recorded pos z)
unfolding recorded recorded_by noted more_noted
three_recorded {max} {old} {x} {y} {z} pos h =
    let s : Sheet = h.s in
    three_at max old x y z (recorded pos) h
    (elim (is_recorded pos s) as (λ b. Three max old (cond b (noted pos (once s)) (once s)) (cond b (recorded_by (Cutting h.d h.c) pos (cutting h.d h.c s)) (cutting h.d h.c s)) (cond b (recorded_by (Filling max h.w.first h.w.held) pos (twin max s h.w)) (twin max s h.w)))
    [ true ↦ here (noted pos s) h.d (with_note pos h.c) (more_noted h.w pos) (noted_twins pos h.twins) | false ↦ here s h.d h.c h.w h.twins ])

three_from : {max : ℕ} {old x y z : Sheet} (span : Option Span) → Three max old x y z → Three max old (start_recorded span x) (start_recorded span y) (start_recorded span z)
unfolding start_recorded
three_from None h = h
three_from (Some span) h = three_recorded span.lo h

three_to : {max : ℕ} {old x y z : Sheet} (span : Option Span) → Three max old x y z → Three max old (end_recorded span x) (end_recorded span y) (end_recorded span z)
unfolding end_recorded
three_to None h = h
three_to (Some span) h = three_recorded span.hi h

three_waiting : {max : ℕ} {old x y z : Sheet} (p : Option BytePos) → Three max old x y z → Three max old (pending_recorded p x) (pending_recorded p y) (pending_recorded p z)
unfolding pending_recorded
three_waiting None h = h
three_waiting (Some pos) h = three_recorded pos (three_pending None h)

-- ---- texts

three_started : {max : ℕ} {old x y z : Sheet} → Three max old x y z → Three max old (started x) (started y) (started z)
unfolding started indented
three_started {max} {old} {x} {y} {z} h =
    let s : Sheet = h.s in
    let begun : Sheet → Sheet = λ (u : Sheet). pending_recorded s.pending (record (appended (repeat s.indentation s.indent_text) u) { at_line_start = false }) in
    let k : Three max old (once s) (cutting h.d h.c s) (twin max s h.w) = here s h.d h.c h.w h.twins in
    three_at max old x y z started h
    (elim s.at_line_start as (λ b. Three max old (cond b (begun (once s)) (once s)) (cond b (begun (cutting h.d h.c s)) (cutting h.d h.c s)) (cond b (begun (twin max s h.w)) (twin max s h.w)))
    [ true ↦ three_waiting s.pending (three_start false (three_appended (repeat s.indentation s.indent_text) k)) | false ↦ k ])

three_written : {max : ℕ} {old x y z : Sheet} (span : Option Span) (t : List ℕ) → Three max old x y z → Three max old (written span t x) (written span t y) (written span t z)
unfolding written
three_written span [] h = h
three_written span (c ∷ cs) h = three_to span (three_appended (c ∷ cs) (three_from span (three_started h)))

three_literal : {max : ℕ} {old x y z : Sheet} (span : Span) (t : List ℕ) → Three max old x y z → Three max old (literal_written span t x) (literal_written span t y) (literal_written span t z)
unfolding literal_written
three_literal span [] h = h
three_literal span (c ∷ cs) h = three_recorded span.hi (three_written None (c ∷ cs) (three_recorded span.lo h))

three_ended : {max : ℕ} {old x y z : Sheet} → Three max old x y z → Three max old (ended x) (ended y) (ended z)
unfolding ended
three_ended {max} {old} {x} {y} {z} h =
    let s : Sheet = h.s in
    let k : Three max old (once s) (cutting h.d h.c s) (twin max s h.w) = here s h.d h.c h.w h.twins in
    let none : Sheet → Sheet = λ (u : Sheet). record u { pending = None } in
    let line : Sheet → Sheet = λ (u : Sheet). record (appended s.line_end u) { at_line_start = true } in
    three_at max old x y z ended h
    (elim s.at_line_start as (λ b. Three max old (cond b (none (once s)) (line (once s))) (cond b (none (cutting h.d h.c s)) (line (cutting h.d h.c s))) (cond b (none (twin max s h.w)) (line (twin max s h.w))))
    [ true ↦ three_pending None k | false ↦ three_start true (three_appended s.line_end k) ])

three_pointed : {max : ℕ} {old x y z : Sheet} (pos : BytePos) → Three max old x y z → Three max old (pointed pos x) (pointed pos y) (pointed pos z)
unfolding pointed
three_pointed {max} {old} {x} {y} {z} pos h =
    let s : Sheet = h.s in
    let k : Three max old (once s) (cutting h.d h.c s) (twin max s h.w) = here s h.d h.c h.w h.twins in
    let point : Sheet → Sheet = λ (u : Sheet). record u { pending = Some pos } in
    three_at max old x y z (pointed pos) h
    (elim (s.keeps_positions && s.at_line_start) as (λ b. Three max old (cond b (point (once s)) (recorded pos (once s))) (cond b (point (cutting h.d h.c s)) (recorded pos (cutting h.d h.c s))) (cond b (point (twin max s h.w)) (recorded pos (twin max s h.w))))
    [ true ↦ three_pending (Some pos) k | false ↦ three_recorded pos k ])

-- ---- an allowed break

-- only text, pairs and the place change
Only : Sheet → Sheet → Type 0
Only a b = b ≡ record a { text = b.text; place = b.place; pairs = b.pairs }

only_then : (a b c : Sheet) → Only a b → Only b c → Only a c
unfolding Only
only_then a b c h k = k ∙ ap (λ (s : Sheet). record s { text = c.text; place = c.place; pairs = c.pairs }) h

notes_only : (xs : List (List ℕ × BytePos)) (s : Sheet) → Only s (notes_released xs s)
unfolding Only notes_released noted released
notes_only [] s = refl
notes_only (x ∷ xs) s = only_then s (noted x.1 (released x.0 s)) (notes_released xs (noted x.1 (released x.0 s))) refl (notes_only xs (noted x.1 (released x.0 s)))

line_only : (b : Bool) (s : Sheet) → Only s (line_ended b s)
unfolding Only line_ended released
line_only true s = refl
line_only false s = refl

sent_only : (t : List ℕ) (s : Sheet) → Only s (released t s)
unfolding Only released
sent_only t s = refl

segment_only : (max : ℕ) (first : Bool) (g : Segment) (s : Sheet) → Only s (segment_released max first g s)
unfolding segment_released
segment_only max first g s =
    let a : Sheet = line_ended (ends_before max first g s) s in
    only_then s a _ (line_only (ends_before max first g s) s) (only_then a (notes_released g.noted a) _ (notes_only g.noted a) (sent_only g.rest (notes_released g.noted a)))

after_out : ℕ → Sheet → Out → Out
after_out max s w =
    let b : Sheet = segment_released max w.first w.held (twin max s w) in
    record { text = b.text; place = b.place; pairs = b.pairs; first = false; held = no_segment }

texts-more : (d : List Segment) (c : Segment) → texts_in (d ++ (c ∷ [])) ≡ texts_in d ++ (text_in c ∷ [])
unfolding texts_in
texts-more [] c = refl
texts-more (g ∷ gs) c = ap (λ z. text_in g ∷ z) (texts-more gs c)

both_false : (b : Bool) → cond b false false ≡ false
both_false true = refl
both_false false = refl

sent-more : (max : ℕ) (d : List Segment) (c : Segment) (f : Bool) (s : Sheet) → segments_released max f (d ++ (c ∷ [])) s ≡ segment_released max (cond (is_none_done (texts_in d)) f false) c (segments_released max f d s)
unfolding segments_released texts_in
sent-more max [] c f s = refl
sent-more max (g ∷ gs) c f s =
    sent-more max gs c false (segment_released max f g s)
    ∙ ap (λ b. segment_released max b c (segments_released max false gs (segment_released max f g s))) (both_false (is_none_done (texts_in gs)))

true_case : (b : Bool) → cond b true false ≡ b
true_case true = refl
true_case false = refl

level_trans : (a b c : Sheet) → Level a b → Level b c → Level a c
level_trans a b c h k = record { text = h.text ∙ k.text; place = h.place ∙ k.place; pairs = h.pairs ∙ k.pairs; line_end = h.line_end ∙ k.line_end }

level_same : (a b : Sheet) → a ≡ b → Level a b
level_same a b e = record { text = ap (λ (z : Sheet). z.text) e; place = ap (λ (z : Sheet). z.place) e; pairs = ap (λ (z : Sheet). z.pairs) e; line_end = ap (λ (z : Sheet). z.line_end) e }

level_sent : (t : List ℕ) (a b : Sheet) → Level a b → Level (released t a) (released t b)
unfolding released
level_sent t a b h = record { text = ap (λ z. z ++ t) h.text; place = ap (after_text t) h.place; pairs = h.pairs; line_end = h.line_end }

level_noted : (pos : BytePos) (a b : Sheet) → Level a b → Level (noted pos a) (noted pos b)
unfolding noted
level_noted pos a b h = record { text = h.text; place = h.place; pairs = ap (λ (p : Place). with_pair pos p a.pairs) h.place ∙ ap (with_pair pos b.place) h.pairs; line_end = h.line_end }

level_notes : (xs : List (List ℕ × BytePos)) (a b : Sheet) → Level a b → Level (notes_released xs a) (notes_released xs b)
unfolding notes_released
level_notes [] a b h = h
level_notes (x ∷ xs) a b h = level_notes xs (noted x.1 (released x.0 a)) (noted x.1 (released x.0 b)) (level_noted x.1 (released x.0 a) (released x.0 b) (level_sent x.0 a b h))

level_line : (c : Bool) (a b : Sheet) → Level a b → Level (line_ended c a) (line_ended c b)
unfolding line_ended released
level_line true a b h = record {
  text = ap (λ z. z ++ a.line_end) h.text ∙ ap (λ z. b.text ++ z) h.line_end;
  place = ap (after_text a.line_end) h.place ∙ ap (λ z. after_text z b.place) h.line_end;
  pairs = h.pairs;
  line_end = h.line_end;
}
level_line false a b h = h

level_ends : (max : ℕ) (f : Bool) (g : Segment) (a b : Sheet) → Level a b → ends_before max f g a ≡ ends_before max f g b
unfolding ends_before
level_ends max f g a b h = ap (λ (p : Place). cond f false (is_due max p.column (first_units (text_in g)))) h.place

level_segment : (max : ℕ) (f : Bool) (g : Segment) (a b : Sheet) → Level a b → Level (segment_released max f g a) (segment_released max f g b)
unfolding segment_released
level_segment max f g a b h =
    let x : Sheet = line_ended (ends_before max f g a) a in
    let y : Sheet = line_ended (ends_before max f g b) b in
    let k : Level x y = level_trans x (line_ended (ends_before max f g a) b) y (level_line (ends_before max f g a) a b h) (level_same _ y (ap (λ c. line_ended c b) (level_ends max f g a b h))) in
    level_sent g.rest (notes_released g.noted x) (notes_released g.noted y) (level_notes g.noted x y k)

allowed_level : {max : ℕ} {old s : Sheet} {d : List Segment} {c : Segment} {w : Out} → Twins max old s d c w → Level (record s { text = (after_out max s w).text; place = (after_out max s w).place; pairs = (after_out max s w).pairs; lines = Flowing }) (segments_released max true (d ++ (c ∷ [])) old)
unfolding after_out
allowed_level {max} {old} {s} {d} {c} {w} h =
    let z : Sheet = twin max s w in
    let b : Sheet = segment_released max w.first w.held z in
    let before : Sheet = record s { text = w.text; place = w.place; pairs = w.pairs; lines = Flowing } in
    let now : Sheet = segments_released max true d old in
    let a = segment_adds max w.first w.held z in
    let one : Level b (segment_released max w.first w.held now) = level_segment max w.first w.held z now (record { text = h.level.text; place = h.level.place; pairs = h.level.pairs; line_end = h.level.line_end }) in
    let same : segment_released max w.first w.held now ≡ segments_released max true (d ++ (c ∷ [])) old =
    ap (λ g. segment_released max w.first g now) h.held
    ∙ (ap (λ f. segment_released max f c now) (h.first ∙ sym (true_case (is_none_done (texts_in d)))) ∙ sym (sent-more max d c true old)) in
    let two : Level b (segments_released max true (d ++ (c ∷ [])) old) = level_trans b (segment_released max w.first w.held now) _ one (level_same _ _ same) in
    record { text = two.text; place = two.place; pairs = two.pairs; line_end = sym a.line_end ∙ two.line_end }

allowed_twins : {max : ℕ} {old s : Sheet} {d : List Segment} {c : Segment} {w : Out} → Twins max old s d c w → Twins max old s (d ++ (c ∷ [])) no_segment (after_out max s w)
unfolding after_out ends_before
allowed_twins {max} {old} {s} {d} {c} {w} h =
    let a = segment_adds max w.first w.held (twin max s w) in
    let e : List ℕ = old.line_end in
    let ds : List (List ℕ) = texts_in d in
    let t : List ℕ = text_in c in
    let l : List ℕ = laid max e old.place ds in
    let last : List ℕ = part_text e (cond (is_none_done ds) false (is_due max (after_text l old.place).column (first_units t))) t in
    let i : part_text s.line_end (cond w.first false (is_due max w.place.column (first_units (text_in w.held)))) (text_in w.held) ≡ last =
    ap (λ z. part_text z (cond w.first false (is_due max w.place.column (first_units (text_in w.held)))) (text_in w.held)) h.line_end
    ∙ (ap (λ (g : Segment). part_text e (cond w.first false (is_due max w.place.column (first_units (text_in g)))) (text_in g)) h.held
    ∙ (ap (λ z. part_text e (cond z false (is_due max w.place.column (first_units t))) t) h.first
    ∙ ap (λ (z : Place). part_text e (cond (is_none_done ds) false (is_due max z.column (first_units t))) t) h.place)) in
    let more : ds ++ (t ∷ []) ≡ texts_in (d ++ (c ∷ [])) = sym (texts-more d c) in
    let m : laid max e old.place (texts_in (d ++ (c ∷ []))) ≡ l ++ last = ap (laid max e old.place) (sym more) ∙ laid-more max e old.place ds t in
    record {
      first = some_done ds t ∙ ap is_none_done more;
      held = refl;
      plain = h.plain ∙ ap (λ z. old.text ++ z) (sym (joined-more ds t) ∙ (ap joined more ∙ (sym (append-nil (joined (texts_in (d ++ (c ∷ []))))) ∙ ap (λ z. joined (texts_in (d ++ (c ∷ []))) ++ z) (sym text-none))));
      text = a.text ∙ (ap (λ z. w.text ++ z) i ∙ (ap (λ z. z ++ last) h.text ∙ (append_assoc old.text l last ∙ ap (λ z. old.text ++ z) (sym m))));
      place = a.place ∙ (ap (λ z. after_text z w.place) i ∙ (ap (after_text last) h.place ∙ (sym (after_both l last old.place) ∙ ap (λ z. after_text z old.place) (sym m))));
      line_end = h.line_end;
      level = allowed_level h;
    }

three_allowed : {max : ℕ} {old x y z : Sheet} → Three max old x y z → Three max old (allowed x) (allowed y) (allowed z)
unfolding allowed allowed_by after_out Only
three_allowed {max} {old} {x} {y} {z} h =
    let s : Sheet = h.s in
    three_at max old x y z allowed h
    (record {
      s = s;
      d = h.d ++ (h.c ∷ []);
      c = no_segment;
      w = after_out max s h.w;
      is_once = refl;
      is_cut = refl;
      is_fill = ap (λ (u : Sheet). record u { lines = Filling max false no_segment }) (segment_only max h.w.first h.w.held (twin max s h.w));
      twins = allowed_twins h.twins;
    })

-- ---- semicolons

three_passed : {max : ℕ} {old x y z : Sheet} (b : Bool) → Three max old x y z → Three max old (passed_on b x) (passed_on b y) (passed_on b z)
unfolding passed_on
three_passed true h = three_allowed h
three_passed false h = h

three_settled_by : {max : ℕ} {old x y z : Sheet} (q : Semicolons) → Three max old x y z → Three max old (settled_by q x) (settled_by q y) (settled_by q z)
unfolding settled_by
three_settled_by AtOnce h = h
three_settled_by HoldsNone h = h
three_settled_by (HoldsOne span kept) h = three_passed kept (three_written span (codes ";") (three_semicolons HoldsNone h))

three_settled : {max : ℕ} {old x y z : Sheet} → Three max old x y z → Three max old (settled x) (settled y) (settled z)
three_settled {max} {old} {x} {y} {z} h = three_at max old x y z settled h (three_settled_by h.s.semicolons (here h.s h.d h.c h.w h.twins))

three_semi_by : {max : ℕ} {old x y z : Sheet} (q : Semicolons) (span : Option Span) → Three max old x y z → Three max old (semicolon_by q span x) (semicolon_by q span y) (semicolon_by q span z)
unfolding semicolon_by
three_semi_by AtOnce span h = three_written span (codes ";") h
three_semi_by HoldsNone span h = three_semicolons (HoldsOne span false) h
three_semi_by (HoldsOne held kept) span h = three_semicolons (HoldsOne span false) h

three_punct : {max : ℕ} {old x y z : Sheet} (t : List ℕ) → Three max old x y z → Three max old (before_punct t x) (before_punct t y) (before_punct t z)
unfolding before_punct
three_punct {max} {old} {x} {y} {z} t h =
    let s : Sheet = h.s in
    let k : Three max old (once s) (cutting h.d h.c s) (twin max s h.w) = here s h.d h.c h.w h.twins in
    let drop : Sheet → Sheet = λ (u : Sheet). record u { semicolons = dropped s.semicolons } in
    three_at max old x y z (before_punct t) h
    (elim (is_ending t) as (λ b. Three max old (cond b (drop (once s)) (settled (once s))) (cond b (drop (cutting h.d h.c s)) (settled (cutting h.d h.c s))) (cond b (drop (twin max s h.w)) (settled (twin max s h.w))))
    [ true ↦ three_semicolons (dropped s.semicolons) k | false ↦ three_settled k ])

three_break : {max : ℕ} {old x y z : Sheet} (q : Semicolons) → Three max old x y z → Three max old (allowed_at q x) (allowed_at q y) (allowed_at q z)
unfolding allowed_at
three_break AtOnce h = three_allowed h
three_break HoldsNone h = three_allowed h
three_break (HoldsOne span kept) h = three_semicolons (HoldsOne span true) h

-- ---- the calls

three_effect : {max : ℕ} {old x y z : Sheet} (i : Item) → is_inner i ≡ true → Three max old x y z → Three max old (effect i x) (effect i y) (effect i z)
unfolding effect
three_effect {max} {old} {x} {y} {z} (Semi span) e h = three_at max old x y z (effect (Semi span)) h (three_semi_by h.s.semicolons span (here h.s h.d h.c h.w h.twins))
three_effect Space e h = three_written None (codes " ") (three_settled h)
three_effect (Keyword span t) e h = three_written span t (three_settled h)
three_effect (Operator span t) e h = three_written span t (three_settled h)
three_effect (Param t) e h = three_written None t (three_settled h)
three_effect (Property t) e h = three_written None t (three_settled h)
three_effect Line e h = three_ended (three_settled h)
three_effect (Lit span t) e h = three_literal span t (three_settled h)
three_effect (Comment t) e h = three_written None t (three_settled h)
three_effect (StrLit span t) e h = three_literal span t (three_settled h)
three_effect (Str t) e h = three_written None t (three_settled h)
three_effect (Symbol span t) e h = three_written (Some span) t (three_settled h)
three_effect (Punct span t) e h = three_written span t (three_punct t h)
three_effect (Position pos) e h = three_pointed pos h
three_effect Commit e h = three_settled h
three_effect {max} {old} {x} {y} {z} Deeper e h = three_at max old x y z (effect Deeper) h (three_level (h.s.indentation + 1) (three_settled (here h.s h.d h.c h.w h.twins)))
three_effect {max} {old} {x} {y} {z} Shallower e h = three_at max old x y z (effect Shallower) h (three_level (h.s.indentation - 1) (three_settled (here h.s h.d h.c h.w h.twins)))
three_effect (BeginLines max) e h = absurd (true≢false (sym e))
three_effect {max} {old} {x} {y} {z} AllowBreak e h = three_at max old x y z (effect AllowBreak) h (three_break h.s.semicolons (here h.s h.d h.c h.w h.twins))
three_effect EndLines e h = absurd (true≢false (sym e))

three_effects : (max : ℕ) (old : Sheet) (xs : List Item) (x y z : Sheet) → are_inner xs ≡ true → Three max old x y z → Three max old (effects xs x) (effects xs y) (effects xs z)
unfolding effects are_inner
three_effects max old [] x y z e h = h
three_effects max old (i ∷ xs) x y z e h = let k = and_parts (is_inner i) (are_inner xs) e in three_effects max old xs (effect i x) (effect i y) (effect i z) k.1 (three_effect i k.0 h)

-- ---- the theorem

begin : ℕ → Sheet → Sheet
begin max s = record s { lines = Filling max true no_segment }

three_begin : (max : ℕ) (s : Sheet) → s.lines ≡ Flowing → Three max s s (cut_from_here s) (begin max s)
unfolding begin laid after_text joined texts_in text_in notes_text segments_released
three_begin max s l =
    let w : Out = record { text = s.text; place = s.place; pairs = s.pairs; first = true; held = no_segment } in
    record {
      s = s;
      d = [];
      c = no_segment;
      w = w;
      is_once = ap (λ k. record s { lines = k }) l;
      is_cut = refl;
      is_fill = refl;
      twins = record { first = refl; held = refl; plain = sym (append-nil s.text); text = sym (append-nil s.text); place = refl; line_end = refl; level = record { text = refl; place = refl; pairs = refl; line_end = refl } };
    }

effects_then : (xs : List Item) (s : Sheet) → effects (xs ++ (EndLines ∷ [])) s ≡ effect EndLines (effects xs s)
unfolding effects
effects_then [] s = refl
effects_then (x ∷ xs) s = effects_then xs _

run_within : (max : ℕ) (xs : List Item) (s : Sheet) → s.lines ≡ Flowing → effects (within_lines max xs) s ≡ effect EndLines (effects xs (begin max s))
unfolding within_lines effects effect begun_by begin
run_within max xs s h = ap (λ l. effects (xs ++ (EndLines ∷ [])) (begun_by l max s)) h ∙ effects_then xs (begin max s)

-- where lines end
closed : (max : ℕ) (s z : Sheet) (w : Out) → z ≡ twin max s w → effect EndLines z ≡ record s { text = (after_out max s w).text; place = (after_out max s w).place; pairs = (after_out max s w).pairs; lines = Flowing }
unfolding effect closed_by after_out Only
closed max s z w e = ap (effect EndLines) e ∙ ap (λ (u : Sheet). record u { lines = Flowing }) (segment_only max w.first w.held (twin max s w))

pub lines_filled : (max : ℕ) (xs : List Item) (s : Sheet) → are_inner xs ≡ true → s.lines ≡ Flowing → IsLineEnd s.line_end → FillsLines max xs s (effects xs s) (effects (within_lines max xs) s)
lines_filled max xs s h l e =
    let k : Three max s (effects xs s) (effects xs (cut_from_here s)) (effects xs (begin max s)) = three_effects max s xs s (cut_from_here s) (begin max s) h (three_begin max s l) in
    let new : Sheet = effects (within_lines max xs) s in
    let w : Out = after_out max k.s k.w in
    let n : new ≡ record k.s { text = w.text; place = w.place; pairs = w.pairs; lines = Flowing } = run_within max xs s l ∙ closed max k.s (effects xs (begin max s)) k.w k.is_fill in
    let t : Twins max s k.s (k.d ++ (k.c ∷ [])) no_segment w = allowed_twins k.twins in
    let ds : List (List ℕ) = texts_in k.d in
    let last : List ℕ = text_in k.c in
    let more : texts_in (k.d ++ (k.c ∷ [])) ≡ ds ++ (last ∷ []) = texts-more k.d k.c in
    let x = some_first ds last in
    let c : List ℕ = x.0 in
    let cs : List (List ℕ) = x.1 in
    let p : Place = after_text c s.place in
    let parts : List Part = filled max s.line_end p cs in
    let is_cs : segments_of parts ≡ cs = filled_segments max s.line_end cs p in
    let out : laid max s.line_end s.place (texts_in (k.d ++ (k.c ∷ []))) ≡ c ++ text_of s.line_end parts = ap (laid max s.line_end s.place) (more ∙ x.2) ∙ laid-first max s.line_end s.place c cs in
    let all : joined ds ++ last ≡ c ++ joined (segments_of parts) = sym (joined-more ds last) ∙ (ap joined x.2 ∙ (joined-first c cs ∙ ap (λ z. c ++ joined z) (sym is_cs))) in
    record {
      done = k.d;
      begun = k.c;
      cut = ap (λ (z : Sheet). z.lines) k.is_cut;
      first = c;
      parts = parts;
      segments = more ∙ (x.2 ∙ ap (λ z. c ∷ z) (sym is_cs));
      released = ap (λ (z : Sheet). z.text) n ∙ t.level.text;
      pairs = ap (λ (z : Sheet). z.pairs) n ∙ t.level.pairs;
      plain_text = ap (λ (z : Sheet). z.text) k.is_once ∙ (k.twins.plain ∙ ap (λ z. s.text ++ z) all);
      text = ap (λ (z : Sheet). z.text) n ∙ (t.text ∙ ap (λ z. s.text ++ z) out);
      place = ap (λ (z : Sheet). z.place) n ∙ (t.place ∙ ap (λ z. after_text z s.place) out);
      bounded = filled_bounded max s.line_end e cs p;
      needed = filled_needed max s.line_end cs p;
      fewest = λ d others o b.
          let v : last_line (text_of s.line_end parts) p ≤ last_line (text_of s.line_end others) p = subst (λ z. last_line (text_of s.line_end (filled max s.line_end p z)) p ≤ last_line (text_of s.line_end others) p) (o ∙ is_cs) (filled_fewest max s.line_end e p (text_sound c s.place d) others b) in
          subst (λ z. z ≤ last_line (c ++ text_of s.line_end others) s.place) (sym (ap (λ (q : Place). q.line) (after_both c (text_of s.line_end parts) s.place)))
          (subst (λ z. last_line (text_of s.line_end parts) p ≤ z) (sym (ap (λ (q : Place). q.line) (after_both c (text_of s.line_end others) s.place))) v);
      same =
          n ∙ (ap (λ (z : Sheet). record z { text = w.text; place = w.place; pairs = w.pairs }) (sym k.is_once)
          ∙ (λ i. record (effects xs s) { text = (sym n i).text; place = (sym n i).place; pairs = (sym n i).pairs }));
    }
