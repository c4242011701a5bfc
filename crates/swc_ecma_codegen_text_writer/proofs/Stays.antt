-- The depth, and whether lines are filled: what calls leave of these.
use Rattle.std.proofs.Common.{◌≡◌, ℕ, ◌+◌, ◌-◌, Bool, true, false, List, [], ◌∷◌, refl, sym, ◌∙◌, ap, cond, codes, Option, Some, None, ◌&&◌, ◌||◌}
use Rattle.std.specs.List.{repeat}
use Rattle.std.proofs.lemmas.Bool.{true≢false}
use Rattle.std.proofs.Math.Bool.{or-true}
use Rattle.swc_ecma_codegen_common.specs.declared.positions.BytePos.{BytePos}
use Rattle.swc_ecma_codegen_common.specs.declared.positions.Span.{Span}
use Rattle.swc_ecma_codegen_text_writer.specs.Runs.{is_inner}
use Rattle.swc_ecma_codegen_text_writer.specs.Sheet.{Sheet, Item, Semi, Space, Keyword, Operator, Param, Property, Line, Lit, Comment, StrLit, Str, Symbol, Punct, Position, Commit, Deeper, Shallower, BeginLines, AllowBreak, EndLines, Semicolons, AtOnce, HoldsNone, HoldsOne, Flow, Flowing, Filling, Cutting, fills_lines, Segment, released, noted, notes_released, line_ended, ends_before, segment_released, begun_by, allowed_by, allowed, closed_by, passed_on, allowed_at, appended_by, recorded_by, is_recorded, recorded, start_recorded, end_recorded, pending_recorded, appended, indented, started, written, literal_written, ended, pointed, settled_by, settled, semicolon_by, dropped, is_ending, before_punct, effect, begins_lines}
use Rattle.swc_ecma_codegen_text_writer.proofs.Sheets.{begun}

-- ---- the depth, and whether lines are filled

-- the second sheet has the depth of the first, and fills lines where that does
pub record Stays (a b : Sheet) : Type 0 where
  pub indentation : b.indentation ≡ a.indentation
  pub fills : fills_lines b.lines ≡ fills_lines a.lines

pub stays_refl : (a : Sheet) → Stays a a
stays_refl a = record { indentation = refl; fills = refl }

pub stays_trans : (a b c : Sheet) → Stays a b → Stays b c → Stays a c
stays_trans a b c h k = record { indentation = k.indentation ∙ h.indentation; fills = k.fills ∙ h.fills }

-- where both are the same
pub stays_same : (a b : Sheet) → b.indentation ≡ a.indentation → b.lines ≡ a.lines → Stays a b
stays_same a b h k = record { indentation = h; fills = ap fills_lines k }

pub noted_stays : (pos : BytePos) (s : Sheet) → Stays s (noted pos s)
unfolding noted
noted_stays pos s = stays_same s (noted pos s) refl refl

pub released_stays : (t : List ℕ) (s : Sheet) → Stays s (released t s)
unfolding released
released_stays t s = stays_same s (released t s) refl refl

-- other lines, that are filled where the last were
lines_stay : (l : Flow) (a b : Sheet) → Stays a b → fills_lines l ≡ fills_lines a.lines → Stays a (record b { lines = l })
lines_stay l a b h k = record { indentation = h.indentation; fills = k }

recorded_by_stays : (l : Flow) (pos : BytePos) (s : Sheet) → l ≡ s.lines → Stays s (recorded_by l pos s)
unfolding recorded_by
recorded_by_stays Flowing pos s h = noted_stays pos s
recorded_by_stays (Filling max first held) pos s h = lines_stay _ s s (stays_refl s) (ap fills_lines h)
recorded_by_stays (Cutting done begun) pos s h = lines_stay _ s (noted pos s) (noted_stays pos s) (ap fills_lines h)

pub recorded_stays : (pos : BytePos) (s : Sheet) → Stays s (recorded pos s)
unfolding recorded
recorded_stays pos s =
    elim (is_recorded pos s) as (λ b. Stays s (cond b (recorded_by s.lines pos s) s)) [ true ↦ recorded_by_stays s.lines pos s refl | false ↦ stays_refl s ]

pub start_stays : (span : Option Span) (s : Sheet) → Stays s (start_recorded span s)
unfolding start_recorded
start_stays None s = stays_refl s
start_stays (Some span) s = recorded_stays span.lo s

pub end_stays : (span : Option Span) (s : Sheet) → Stays s (end_recorded span s)
unfolding end_recorded
end_stays None s = stays_refl s
end_stays (Some span) s = recorded_stays span.hi s

other_pending_stays : (pos : Option BytePos) (s : Sheet) → Stays s (record s { pending = pos })
other_pending_stays pos s = stays_same s (record s { pending = pos }) refl refl

pub pending_stays : (pos : Option BytePos) (s : Sheet) → Stays s (pending_recorded pos s)
unfolding pending_recorded
pending_stays None s = stays_refl s
pending_stays (Some pos) s = stays_trans _ _ _ (other_pending_stays None s) (recorded_stays pos (record s { pending = None }))

appended_by_stays : (l : Flow) (t : List ℕ) (s : Sheet) → l ≡ s.lines → Stays s (appended_by l t s)
unfolding appended_by
appended_by_stays Flowing t s h = released_stays t s
appended_by_stays (Filling max first held) t s h = lines_stay _ s s (stays_refl s) (ap fills_lines h)
appended_by_stays (Cutting done begun) t s h = lines_stay _ s (released t s) (released_stays t s) (ap fills_lines h)

pub appended_stays : (t : List ℕ) (s : Sheet) → Stays s (appended t s)
unfolding appended
appended_stays t s = appended_by_stays s.lines t s refl

pub indented_stays : (n : ℕ) (s : Sheet) → Stays s (indented n s)
unfolding indented
indented_stays n s = appended_stays (repeat n s.indent_text) s

other_start_stays : (b : Bool) (s : Sheet) → Stays s (record s { at_line_start = b })
other_start_stays b s = stays_same s (record s { at_line_start = b }) refl refl

pub begun_stays : (s : Sheet) → Stays s (begun s)
unfolding begun
begun_stays s = stays_trans _ _ _ (indented_stays s.indentation s) (other_start_stays false (indented s.indentation s))

pub started_stays : (s : Sheet) → Stays s (started s)
unfolding started begun
started_stays s =
    elim s.at_line_start as (λ b. Stays s (cond b (pending_recorded s.pending (record (indented s.indentation s) { at_line_start = false })) s))
    [ true ↦ stays_trans _ _ _ (begun_stays s) (pending_stays s.pending (begun s)) | false ↦ stays_refl s ]

pub written_stays : (span : Option Span) (t : List ℕ) (s : Sheet) → Stays s (written span t s)
unfolding written
written_stays span [] s = stays_refl s
written_stays span (c ∷ cs) s =
    stays_trans _ _ _ (started_stays s)
    (stays_trans _ _ _ (start_stays span (started s))
    (stays_trans _ _ _ (appended_stays (c ∷ cs) (start_recorded span (started s))) (end_stays span (appended (c ∷ cs) (start_recorded span (started s))))))

pub literal_stays : (span : Span) (t : List ℕ) (s : Sheet) → Stays s (literal_written span t s)
unfolding literal_written
literal_stays span [] s = stays_refl s
literal_stays span (c ∷ cs) s =
    stays_trans _ _ _ (recorded_stays span.lo s)
    (stays_trans _ _ _ (written_stays None (c ∷ cs) (recorded span.lo s)) (recorded_stays span.hi (written None (c ∷ cs) (recorded span.lo s))))

pub ended_stays : (s : Sheet) → Stays s (ended s)
unfolding ended
ended_stays s =
    elim s.at_line_start as (λ b. Stays s (cond b (record s { pending = None }) (record (appended s.line_end s) { at_line_start = true })))
    [ true ↦ other_pending_stays None s | false ↦ stays_trans _ _ _ (appended_stays s.line_end s) (other_start_stays true (appended s.line_end s)) ]

pub pointed_stays : (pos : BytePos) (s : Sheet) → Stays s (pointed pos s)
unfolding pointed
pointed_stays pos s =
    elim (s.keeps_positions && s.at_line_start) as (λ b. Stays s (cond b (record s { pending = Some pos }) (recorded pos s)))
    [ true ↦ other_pending_stays (Some pos) s | false ↦ recorded_stays pos s ]

pub notes_stay : (xs : List (List ℕ × BytePos)) (s : Sheet) → Stays s (notes_released xs s)
unfolding notes_released
notes_stay [] s = stays_refl s
notes_stay (x ∷ xs) s = stays_trans _ _ _ (stays_trans _ _ _ (released_stays x.0 s) (noted_stays x.1 (released x.0 s))) (notes_stay xs (noted x.1 (released x.0 s)))

pub line_stays : (b : Bool) (s : Sheet) → Stays s (line_ended b s)
unfolding line_ended
line_stays true s = released_stays s.line_end s
line_stays false s = stays_refl s

pub segment_stays : (max : ℕ) (first : Bool) (g : Segment) (s : Sheet) → Stays s (segment_released max first g s)
unfolding segment_released
segment_stays max first g s =
    let a : Sheet = line_ended (ends_before max first g s) s in
    stays_trans _ _ _ (line_stays (ends_before max first g s) s) (stays_trans _ _ _ (notes_stay g.noted a) (released_stays g.rest (notes_released g.noted a)))

allowed_by_stays : (l : Flow) (s : Sheet) → l ≡ s.lines → Stays s (allowed_by l s)
unfolding allowed_by
allowed_by_stays Flowing s h = stays_refl s
allowed_by_stays (Filling max first held) s h = lines_stay _ s (segment_released max first held s) (segment_stays max first held s) (ap fills_lines h)
allowed_by_stays (Cutting done begun) s h = lines_stay _ s s (stays_refl s) (ap fills_lines h)

pub allowed_stays : (s : Sheet) → Stays s (allowed s)
unfolding allowed
allowed_stays s = allowed_by_stays s.lines s refl

pub passed_stays : (b : Bool) (s : Sheet) → Stays s (passed_on b s)
unfolding passed_on
passed_stays true s = allowed_stays s
passed_stays false s = stays_refl s

other_semicolon_stays : (x : Semicolons) (s : Sheet) → Stays s (record s { semicolons = x })
other_semicolon_stays x s = stays_same s (record s { semicolons = x }) refl refl

settled_by_stays : (x : Semicolons) (s : Sheet) → Stays s (settled_by x s)
unfolding settled_by
settled_by_stays AtOnce s = stays_refl s
settled_by_stays HoldsNone s = stays_refl s
settled_by_stays (HoldsOne span allowed) s =
    let a : Sheet = record s { semicolons = HoldsNone } in
    stays_trans _ _ _ (stays_trans _ _ _ (other_semicolon_stays HoldsNone s) (written_stays span (codes ";") a)) (passed_stays allowed (written span (codes ";") a))

pub settled_stays : (s : Sheet) → Stays s (settled s)
settled_stays s = settled_by_stays s.semicolons s

semicolon_stays : (x : Semicolons) (span : Option Span) (s : Sheet) → Stays s (semicolon_by x span s)
unfolding semicolon_by
semicolon_stays AtOnce span s = written_stays span (codes ";") s
semicolon_stays HoldsNone span s = other_semicolon_stays (HoldsOne span false) s
semicolon_stays (HoldsOne held allowed) span s = other_semicolon_stays (HoldsOne span false) s

pub before_punct_stays : (t : List ℕ) (s : Sheet) → Stays s (before_punct t s)
unfolding before_punct
before_punct_stays t s =
    elim (is_ending t) as (λ b. Stays s (cond b (record s { semicolons = dropped s.semicolons }) (settled s)))
    [ true ↦ other_semicolon_stays (dropped s.semicolons) s | false ↦ settled_stays s ]

break_stays : (x : Semicolons) (s : Sheet) → Stays s (allowed_at x s)
unfolding allowed_at
break_stays AtOnce s = allowed_stays s
break_stays HoldsNone s = allowed_stays s
break_stays (HoldsOne span kept) s = other_semicolon_stays (HoldsOne span true) s

begun_by_indentation : (l : Flow) (max : ℕ) (s : Sheet) → (begun_by l max s).indentation ≡ s.indentation
unfolding begun_by
begun_by_indentation Flowing max s = refl
begun_by_indentation (Filling old first held) max s = refl
begun_by_indentation (Cutting done begun) max s = refl

closed_by_indentation : (l : Flow) (s : Sheet) → (closed_by l s).indentation ≡ s.indentation
unfolding closed_by
closed_by_indentation Flowing s = refl
closed_by_indentation (Filling max first held) s = (segment_stays max first held s).indentation
closed_by_indentation (Cutting done begun) s = refl

pub written_indentation : (span : Option Span) (t : List ℕ) (s : Sheet) → (written span t s).indentation ≡ s.indentation
written_indentation span t s = (written_stays span t s).indentation

pub ended_indentation : (s : Sheet) → (ended s).indentation ≡ s.indentation
ended_indentation s = (ended_stays s).indentation

pub settled_indentation : (s : Sheet) → (settled s).indentation ≡ s.indentation
settled_indentation s = (settled_stays s).indentation

-- the depth after a call
abbrev pub depth : Item → ℕ → ℕ
depth Deeper n = n + 1
depth Shallower n = n - 1
depth (Semi span) n = n
depth Space n = n
depth (Keyword span t) n = n
depth (Operator span t) n = n
depth (Param t) n = n
depth (Property t) n = n
depth Line n = n
depth (Lit span t) n = n
depth (Comment t) n = n
depth (StrLit span t) n = n
depth (Str t) n = n
depth (Symbol span t) n = n
depth (Punct span t) n = n
depth (Position pos) n = n
depth Commit n = n
depth (BeginLines max) n = n
depth AllowBreak n = n
depth EndLines n = n

text_stays : (span : Option Span) (t : List ℕ) (s : Sheet) → Stays s (written span t (settled s))
text_stays span t s = stays_trans _ _ _ (settled_stays s) (written_stays span t (settled s))

literal_text_stays : (span : Span) (t : List ℕ) (s : Sheet) → Stays s (literal_written span t (settled s))
literal_text_stays span t s = stays_trans _ _ _ (settled_stays s) (literal_stays span t (settled s))

-- only `Deeper` and `Shallower` change the depth
pub effect_indentation : (x : Item) (s : Sheet) → (effect x s).indentation ≡ depth x s.indentation
unfolding effect
effect_indentation (Semi span) s = (semicolon_stays s.semicolons span s).indentation
effect_indentation Space s = (text_stays None (codes " ") s).indentation
effect_indentation (Keyword span t) s = (text_stays span t s).indentation
effect_indentation (Operator span t) s = (text_stays span t s).indentation
effect_indentation (Param t) s = (text_stays None t s).indentation
effect_indentation (Property t) s = (text_stays None t s).indentation
effect_indentation Line s = ended_indentation (settled s) ∙ settled_indentation s
effect_indentation (Lit span t) s = (literal_text_stays span t s).indentation
effect_indentation (Comment t) s = (text_stays None t s).indentation
effect_indentation (StrLit span t) s = (literal_text_stays span t s).indentation
effect_indentation (Str t) s = (text_stays None t s).indentation
effect_indentation (Symbol span t) s = (text_stays (Some span) t s).indentation
effect_indentation (Punct span t) s = written_indentation span t (before_punct t s) ∙ (before_punct_stays t s).indentation
effect_indentation (Position pos) s = (pointed_stays pos s).indentation
effect_indentation Commit s = settled_indentation s
effect_indentation Deeper s = refl
effect_indentation Shallower s = refl
effect_indentation (BeginLines max) s = begun_by_indentation s.lines max s
effect_indentation AllowBreak s = (break_stays s.semicolons s).indentation
effect_indentation EndLines s = closed_by_indentation s.lines s

other_level_fills : (n : ℕ) (s : Sheet) → fills_lines (record (settled s) { indentation = n }).lines ≡ fills_lines s.lines
other_level_fills n s = (settled_stays s).fills

-- only `BeginLines` and `EndLines` change whether lines are filled
pub effect_fills : (x : Item) (s : Sheet) → is_inner x ≡ true → fills_lines (effect x s).lines ≡ fills_lines s.lines
unfolding effect
effect_fills (Semi span) s e = (semicolon_stays s.semicolons span s).fills
effect_fills Space s e = (text_stays None (codes " ") s).fills
effect_fills (Keyword span t) s e = (text_stays span t s).fills
effect_fills (Operator span t) s e = (text_stays span t s).fills
effect_fills (Param t) s e = (text_stays None t s).fills
effect_fills (Property t) s e = (text_stays None t s).fills
effect_fills Line s e = (stays_trans _ _ _ (settled_stays s) (ended_stays (settled s))).fills
effect_fills (Lit span t) s e = (literal_text_stays span t s).fills
effect_fills (Comment t) s e = (text_stays None t s).fills
effect_fills (StrLit span t) s e = (literal_text_stays span t s).fills
effect_fills (Str t) s e = (text_stays None t s).fills
effect_fills (Symbol span t) s e = (text_stays (Some span) t s).fills
effect_fills (Punct span t) s e = (stays_trans _ _ _ (before_punct_stays t s) (written_stays span t (before_punct t s))).fills
effect_fills (Position pos) s e = (pointed_stays pos s).fills
effect_fills Commit s e = (settled_stays s).fills
effect_fills Deeper s e = other_level_fills (s.indentation + 1) s
effect_fills Shallower s e = other_level_fills (s.indentation - 1) s
effect_fills (BeginLines max) s e = absurd (true≢false (sym e))
effect_fills AllowBreak s e = (break_stays s.semicolons s).fills
effect_fills EndLines s e = absurd (true≢false (sym e))

closed_fills : (l : Flow) (s : Sheet) → l ≡ s.lines → fills_lines (closed_by l s).lines ≡ false
unfolding closed_by
closed_fills Flowing s h = ap fills_lines (sym h)
closed_fills (Filling max first held) s h = refl
closed_fills (Cutting done begun) s h = ap fills_lines (sym h)

filled_still : (x : Item) (s : Sheet) → is_inner x ≡ true → fills_lines (effect x s).lines ≡ true → (fills_lines s.lines || false) ≡ true
filled_still x s e h = ap (λ b. b || false) (sym (effect_fills x s e) ∙ h)

-- where lines are filled after a call, they were before it, or it begins them
pub effect_begins : (x : Item) (s : Sheet) → fills_lines (effect x s).lines ≡ true → (fills_lines s.lines || begins_lines x) ≡ true
unfolding effect
effect_begins (BeginLines max) s h = or-true (fills_lines s.lines)
effect_begins EndLines s h = absurd (true≢false (sym h ∙ closed_fills s.lines s refl))
effect_begins (Semi span) s h = filled_still (Semi span) s refl h
effect_begins Space s h = filled_still Space s refl h
effect_begins (Keyword span t) s h = filled_still (Keyword span t) s refl h
effect_begins (Operator span t) s h = filled_still (Operator span t) s refl h
effect_begins (Param t) s h = filled_still (Param t) s refl h
effect_begins (Property t) s h = filled_still (Property t) s refl h
effect_begins Line s h = filled_still Line s refl h
effect_begins (Lit span t) s h = filled_still (Lit span t) s refl h
effect_begins (Comment t) s h = filled_still (Comment t) s refl h
effect_begins (StrLit span t) s h = filled_still (StrLit span t) s refl h
effect_begins (Str t) s h = filled_still (Str t) s refl h
effect_begins (Symbol span t) s h = filled_still (Symbol span t) s refl h
effect_begins (Punct span t) s h = filled_still (Punct span t) s refl h
effect_begins (Position pos) s h = filled_still (Position pos) s refl h
effect_begins Commit s h = filled_still Commit s refl h
effect_begins Deeper s h = filled_still Deeper s refl h
effect_begins Shallower s h = filled_still Shallower s refl h
effect_begins AllowBreak s h = filled_still AllowBreak s refl h
