-- What calls do to a sheet, and what they leave alone.
use Rattle.std.proofs.Common.{◌≡◌, ℕ, ◌+◌, ◌-◌, Bool, true, false, List, [], ◌∷◌, ◌++◌, refl, sym, ◌∙◌, ap, append_assoc, append-nil, cond, codes, Option, Some, None, ◌&&◌, ◌||◌, ◌==◌}
use Rattle.std.specs.List.{repeat}
use Rattle.swc_ecma_codegen_common.specs.declared.positions.BytePos.{BytePos}
use Rattle.swc_ecma_codegen_common.specs.declared.positions.Span.{Span}
use Rattle.swc_ecma_codegen_text_writer.specs.Places.{Place, after_text}
use Rattle.swc_ecma_codegen_text_writer.proofs.Pairs.{after_both}
use Rattle.swc_ecma_codegen_text_writer.specs.Contents.{IsPrefix}
use Rattle.swc_ecma_codegen_text_writer.specs.Sheet.{Sheet, Item, Pair, Semi, Space, Keyword, Operator, Param, Property, Line, Lit, Comment, StrLit, Str, Symbol, Punct, Position, Commit, Deeper, Shallower, BeginLines, AllowBreak, EndLines, Semicolons, AtOnce, HoldsNone, HoldsOne, holds_semicolons, Flow, Flowing, Filling, Cutting, Segment, released, noted, notes_released, line_ended, ends_before, segment_released, begun_by, allowed_by, allowed, closed_by, passed_on, allowed_at, appended_by, recorded_by, is_recorded, has_pair, pair_at, with_pair, recorded, start_recorded, end_recorded, pending_recorded, appended, indented, started, written, literal_written, ended, pointed, settled_by, settled, semicolon_by, dropped, is_ending, before_punct, effect}

-- ---- fronts

abbrev pub front_refl : {A : Type 0} (t : List A) → IsPrefix t t
front_refl t = ([], sym (append-nil t))

abbrev pub front_append : {A : Type 0} (t u : List A) → IsPrefix t (t ++ u)
front_append t u = (u, refl)

abbrev pub front_trans : {A : Type 0} (t u v : List A) → IsPrefix t u → IsPrefix u v → IsPrefix t v
front_trans t u v h k = (h.0 ++ k.0, k.1 ∙ ap (λ x. x ++ k.0) h.1 ∙ append_assoc t h.0 k.0)

-- ---- from one sheet to another

-- the place behind two texts, by that behind the first one
pub placed_on : (t u : List ℕ) (p q r : Place) → q ≡ after_text t p → r ≡ after_text u q → r ≡ after_text (t ++ u) p
placed_on t u p q r h k = k ∙ ap (after_text u) h ∙ sym (after_both t u p)

-- From the first sheet to the second text was written and pairs were recorded.
pub record Alike (a b : Sheet) : Type 0 where
  pub grows : IsPrefix a.text b.text
  pub place : b.place ≡ after_text grows.0 a.place
  pub more_pairs : IsPrefix a.pairs b.pairs
  pub holds : holds_semicolons b.semicolons ≡ holds_semicolons a.semicolons
  pub same : b ≡ record a { text = b.text; at_line_start = b.at_line_start; indentation = b.indentation; semicolons = b.semicolons; pairs = b.pairs; pending = b.pending; place = b.place; lines = b.lines }

pub alike_refl : (a : Sheet) → Alike a a
alike_refl a = record { grows = front_refl a.text; place = unfold after_text in refl; more_pairs = front_refl a.pairs; holds = refl; same = refl }

pub alike_trans : (a b c : Sheet) → Alike a b → Alike b c → Alike a c
alike_trans a b c h k = record {
  grows = front_trans a.text b.text c.text h.grows k.grows;
  place = placed_on h.grows.0 k.grows.0 a.place b.place c.place h.place k.place;
  more_pairs = front_trans a.pairs b.pairs c.pairs h.more_pairs k.more_pairs;
  holds = k.holds ∙ h.holds;
  same = k.same ∙ ap (λ (x : Sheet). record x { text = c.text; at_line_start = c.at_line_start; indentation = c.indentation; semicolons = c.semicolons; pairs = c.pairs; pending = c.pending; place = c.place; lines = c.lines }) h.same;
}

-- another text, another start, another level and so on, of which only a longer text and more pairs matter
alike_at : (a b : Sheet) (h : IsPrefix a.text b.text) → b.place ≡ after_text h.0 a.place → IsPrefix a.pairs b.pairs → holds_semicolons b.semicolons ≡ holds_semicolons a.semicolons → b ≡ record a { text = b.text; at_line_start = b.at_line_start; indentation = b.indentation; semicolons = b.semicolons; pairs = b.pairs; pending = b.pending; place = b.place; lines = b.lines } → Alike a b
alike_at a b h p k s e = record { grows = h; place = p; more_pairs = k; holds = s; same = e }

with_pair_grows : (pos : BytePos) (p : Place) (pairs : List Pair) → IsPrefix pairs (with_pair pos p pairs)
unfolding with_pair
with_pair_grows pos p pairs =
    elim ((pos.0 == 0) || has_pair (pair_at pos p) pairs) as (λ b. IsPrefix pairs (cond b pairs (pairs ++ (pair_at pos p ∷ []))))
    [ true ↦ front_refl pairs | false ↦ front_append pairs (pair_at pos p ∷ []) ]

pub noted_alike : (pos : BytePos) (s : Sheet) → Alike s (noted pos s)
unfolding noted
noted_alike pos s = alike_at s (noted pos s) (front_refl s.text) (unfold after_text in refl) (with_pair_grows pos s.place s.pairs) refl refl

pub released_alike : (t : List ℕ) (s : Sheet) → Alike s (released t s)
unfolding released
released_alike t s = alike_at s (released t s) (front_append s.text t) refl (front_refl s.pairs) refl refl

-- other lines, of which nothing went out
pub other_lines : (l : Flow) (s : Sheet) → Alike s (record s { lines = l })
other_lines l s = alike_at s (record s { lines = l }) (front_refl s.text) (unfold after_text in refl) (front_refl s.pairs) refl refl

recorded_by_alike : (l : Flow) (pos : BytePos) (s : Sheet) → Alike s (recorded_by l pos s)
unfolding recorded_by
recorded_by_alike Flowing pos s = noted_alike pos s
recorded_by_alike (Filling max first held) pos s = other_lines _ s
recorded_by_alike (Cutting done begun) pos s = alike_trans _ _ _ (noted_alike pos s) (other_lines _ (noted pos s))

pub recorded_alike : (pos : BytePos) (s : Sheet) → Alike s (recorded pos s)
unfolding recorded
recorded_alike pos s =
    elim (is_recorded pos s) as (λ b. Alike s (cond b (recorded_by s.lines pos s) s)) [ true ↦ recorded_by_alike s.lines pos s | false ↦ alike_refl s ]

pub start_alike : (span : Option Span) (s : Sheet) → Alike s (start_recorded span s)
unfolding start_recorded
start_alike None s = alike_refl s
start_alike (Some span) s = recorded_alike span.lo s

pub end_alike : (span : Option Span) (s : Sheet) → Alike s (end_recorded span s)
unfolding end_recorded
end_alike None s = alike_refl s
end_alike (Some span) s = recorded_alike span.hi s

dropped_pending : (s : Sheet) → Alike s (record s { pending = None })
dropped_pending s = alike_at s (record s { pending = None }) (front_refl s.text) (unfold after_text in refl) (front_refl s.pairs) refl refl

pub pending_alike : (pos : Option BytePos) (s : Sheet) → Alike s (pending_recorded pos s)
unfolding pending_recorded
pending_alike None s = alike_refl s
pending_alike (Some pos) s = alike_trans _ _ _ (dropped_pending s) (recorded_alike pos (record s { pending = None }))

appended_by_alike : (l : Flow) (t : List ℕ) (s : Sheet) → Alike s (appended_by l t s)
unfolding appended_by
appended_by_alike Flowing t s = released_alike t s
appended_by_alike (Filling max first held) t s = other_lines _ s
appended_by_alike (Cutting done begun) t s = alike_trans _ _ _ (released_alike t s) (other_lines _ (released t s))

pub appended_alike : (t : List ℕ) (s : Sheet) → Alike s (appended t s)
unfolding appended
appended_alike t s = appended_by_alike s.lines t s

pub indented_alike : (n : ℕ) (s : Sheet) → Alike s (indented n s)
unfolding indented
indented_alike n s = appended_alike (repeat n s.indent_text) s

in_line : (s : Sheet) → Alike s (record s { at_line_start = false })
in_line s = alike_at s (record s { at_line_start = false }) (front_refl s.text) (unfold after_text in refl) (front_refl s.pairs) refl refl

-- the sheet at a line's start, with the indentation out
unfoldable pub begun : Sheet → Sheet
begun s = record (indented s.indentation s) { at_line_start = false }

begun_alike : (s : Sheet) → Alike s (begun s)
unfolding begun
begun_alike s = alike_trans _ _ _ (indented_alike s.indentation s) (in_line (indented s.indentation s))

pub started_alike : (s : Sheet) → Alike s (started s)
unfolding started begun
started_alike s =
    elim s.at_line_start as (λ b. Alike s (cond b (pending_recorded s.pending (record (indented s.indentation s) { at_line_start = false })) s))
    [ true ↦ alike_trans _ _ _ (begun_alike s) (pending_alike s.pending (begun s)) | false ↦ alike_refl s ]

pub written_alike : (span : Option Span) (t : List ℕ) (s : Sheet) → Alike s (written span t s)
unfolding written
written_alike span [] s = alike_refl s
written_alike span (c ∷ cs) s =
    alike_trans _ _ _ (started_alike s)
    (alike_trans _ _ _ (start_alike span (started s))
    (alike_trans _ _ _ (appended_alike (c ∷ cs) (start_recorded span (started s))) (end_alike span (appended (c ∷ cs) (start_recorded span (started s))))))

pub literal_alike : (span : Span) (t : List ℕ) (s : Sheet) → Alike s (literal_written span t s)
unfolding literal_written
literal_alike span [] s = alike_refl s
literal_alike span (c ∷ cs) s =
    alike_trans _ _ _ (recorded_alike span.lo s)
    (alike_trans _ _ _ (written_alike None (c ∷ cs) (recorded span.lo s)) (recorded_alike span.hi (written None (c ∷ cs) (recorded span.lo s))))

at_start : (s : Sheet) → Alike s (record s { at_line_start = true })
at_start s = alike_at s (record s { at_line_start = true }) (front_refl s.text) (unfold after_text in refl) (front_refl s.pairs) refl refl

pub ended_alike : (s : Sheet) → Alike s (ended s)
unfolding ended
ended_alike s =
    elim s.at_line_start as (λ b. Alike s (cond b (record s { pending = None }) (record (appended s.line_end s) { at_line_start = true })))
    [ true ↦ dropped_pending s | false ↦ alike_trans _ _ _ (appended_alike s.line_end s) (at_start (appended s.line_end s)) ]

other_pending : (pos : BytePos) (s : Sheet) → Alike s (record s { pending = Some pos })
other_pending pos s = alike_at s (record s { pending = Some pos }) (front_refl s.text) (unfold after_text in refl) (front_refl s.pairs) refl refl

pub pointed_alike : (pos : BytePos) (s : Sheet) → Alike s (pointed pos s)
unfolding pointed
pointed_alike pos s =
    elim (s.keeps_positions && s.at_line_start) as (λ b. Alike s (cond b (record s { pending = Some pos }) (recorded pos s)))
    [ true ↦ other_pending pos s | false ↦ recorded_alike pos s ]

-- a segment goes out
pub notes_alike : (xs : List (List ℕ × BytePos)) (s : Sheet) → Alike s (notes_released xs s)
unfolding notes_released
notes_alike [] s = alike_refl s
notes_alike (x ∷ xs) s = alike_trans _ _ _ (alike_trans _ _ _ (released_alike x.0 s) (noted_alike x.1 (released x.0 s))) (notes_alike xs (noted x.1 (released x.0 s)))

pub line_alike : (b : Bool) (s : Sheet) → Alike s (line_ended b s)
unfolding line_ended
line_alike true s = released_alike s.line_end s
line_alike false s = alike_refl s

pub segment_alike : (max : ℕ) (first : Bool) (g : Segment) (s : Sheet) → Alike s (segment_released max first g s)
unfolding segment_released
segment_alike max first g s =
    let a : Sheet = line_ended (ends_before max first g s) s in
    alike_trans _ _ _ (line_alike (ends_before max first g s) s) (alike_trans _ _ _ (notes_alike g.noted a) (released_alike g.rest (notes_released g.noted a)))

begun_by_alike : (l : Flow) (max : ℕ) (s : Sheet) → Alike s (begun_by l max s)
unfolding begun_by
begun_by_alike Flowing max s = other_lines _ s
begun_by_alike (Filling old first held) max s = other_lines _ s
begun_by_alike (Cutting done begun) max s = alike_refl s

pub allowed_by_alike : (l : Flow) (s : Sheet) → Alike s (allowed_by l s)
unfolding allowed_by
allowed_by_alike Flowing s = alike_refl s
allowed_by_alike (Filling max first held) s = alike_trans _ _ _ (segment_alike max first held s) (other_lines _ (segment_released max first held s))
allowed_by_alike (Cutting done begun) s = other_lines _ s

pub allowed_alike : (s : Sheet) → Alike s (allowed s)
unfolding allowed
allowed_alike s = allowed_by_alike s.lines s

closed_by_alike : (l : Flow) (s : Sheet) → Alike s (closed_by l s)
unfolding closed_by
closed_by_alike Flowing s = alike_refl s
closed_by_alike (Filling max first held) s = alike_trans _ _ _ (segment_alike max first held s) (other_lines _ (segment_released max first held s))
closed_by_alike (Cutting done begun) s = alike_refl s

pub passed_alike : (b : Bool) (s : Sheet) → Alike s (passed_on b s)
unfolding passed_on
passed_alike true s = allowed_alike s
passed_alike false s = alike_refl s

other_semicolon : (x : Semicolons) (s : Sheet) → holds_semicolons x ≡ holds_semicolons s.semicolons → Alike s (record s { semicolons = x })
other_semicolon x s h = alike_at s (record s { semicolons = x }) (front_refl s.text) (unfold after_text in refl) (front_refl s.pairs) h refl

settled_by_alike : (x : Semicolons) (s : Sheet) → x ≡ s.semicolons → Alike s (settled_by x s)
unfolding settled_by
settled_by_alike AtOnce s h = alike_refl s
settled_by_alike HoldsNone s h = alike_refl s
settled_by_alike (HoldsOne span allowed) s h =
    let w : Sheet = written span (codes ";") (record s { semicolons = HoldsNone }) in
    alike_trans _ _ _ (alike_trans _ _ _ (other_semicolon HoldsNone s (ap holds_semicolons h)) (written_alike span (codes ";") (record s { semicolons = HoldsNone }))) (passed_alike allowed w)

pub settled_alike : (s : Sheet) → Alike s (settled s)
settled_alike s = settled_by_alike s.semicolons s refl

semicolon_alike : (x : Semicolons) (span : Option Span) (s : Sheet) → x ≡ s.semicolons → Alike s (semicolon_by x span s)
unfolding semicolon_by
semicolon_alike AtOnce span s h = written_alike span (codes ";") s
semicolon_alike HoldsNone span s h = other_semicolon (HoldsOne span false) s (ap holds_semicolons h)
semicolon_alike (HoldsOne held allowed) span s h = other_semicolon (HoldsOne span false) s (ap holds_semicolons h)

dropped_holds : (x : Semicolons) → holds_semicolons (dropped x) ≡ holds_semicolons x
unfolding dropped
dropped_holds AtOnce = refl
dropped_holds HoldsNone = refl
dropped_holds (HoldsOne span allowed) = refl

pub before_punct_alike : (t : List ℕ) (s : Sheet) → Alike s (before_punct t s)
unfolding before_punct
before_punct_alike t s =
    elim (is_ending t) as (λ b. Alike s (cond b (record s { semicolons = dropped s.semicolons }) (settled s)))
    [ true ↦ other_semicolon (dropped s.semicolons) s (dropped_holds s.semicolons) | false ↦ settled_alike s ]

other_level : (n : ℕ) (s : Sheet) → Alike s (record s { indentation = n })
other_level n s = alike_at s (record s { indentation = n }) (front_refl s.text) (unfold after_text in refl) (front_refl s.pairs) refl refl

after_settled : (s t : Sheet) → Alike (settled s) t → Alike s t
after_settled s t h = alike_trans s (settled s) t (settled_alike s) h

break_alike : (x : Semicolons) (s : Sheet) → x ≡ s.semicolons → Alike s (allowed_at x s)
unfolding allowed_at
break_alike AtOnce s h = allowed_alike s
break_alike HoldsNone s h = allowed_alike s
break_alike (HoldsOne span kept) s h = other_semicolon (HoldsOne span true) s (ap holds_semicolons h)

pub effect_alike : (x : Item) (s : Sheet) → Alike s (effect x s)
unfolding effect
effect_alike (Semi span) s = semicolon_alike s.semicolons span s refl
effect_alike Space s = after_settled s _ (written_alike None (codes " ") (settled s))
effect_alike (Keyword span t) s = after_settled s _ (written_alike span t (settled s))
effect_alike (Operator span t) s = after_settled s _ (written_alike span t (settled s))
effect_alike (Param t) s = after_settled s _ (written_alike None t (settled s))
effect_alike (Property t) s = after_settled s _ (written_alike None t (settled s))
effect_alike Line s = after_settled s _ (ended_alike (settled s))
effect_alike (Lit span t) s = after_settled s _ (literal_alike span t (settled s))
effect_alike (Comment t) s = after_settled s _ (written_alike None t (settled s))
effect_alike (StrLit span t) s = after_settled s _ (literal_alike span t (settled s))
effect_alike (Str t) s = after_settled s _ (written_alike None t (settled s))
effect_alike (Symbol span t) s = after_settled s _ (written_alike (Some span) t (settled s))
effect_alike (Punct span t) s = alike_trans s _ _ (before_punct_alike t s) (written_alike span t (before_punct t s))
effect_alike (Position pos) s = pointed_alike pos s
effect_alike Commit s = settled_alike s
effect_alike Deeper s = after_settled s _ (other_level (s.indentation + 1) (settled s))
effect_alike Shallower s = after_settled s _ (other_level (s.indentation - 1) (settled s))
effect_alike (BeginLines max) s = begun_by_alike s.lines max s
effect_alike AllowBreak s = break_alike s.semicolons s refl
effect_alike EndLines s = closed_by_alike s.lines s

-- ---- what no call changes

-- the two sheets are those of one writer, with the same count of faults and the same mark of a refusal
pub record Same (a b : Sheet) : Type 0 where
  pub whole : a.whole ≡ b.whole
  pub line_end : a.line_end ≡ b.line_end
  pub indent_text : a.indent_text ≡ b.indent_text
  pub faults : a.faults ≡ b.faults
  pub refused : a.refused ≡ b.refused
  pub takes_memory : a.takes_memory ≡ b.takes_memory
  pub keeps_positions : a.keeps_positions ≡ b.keeps_positions
  pub keeps_invalid : a.keeps_invalid ≡ b.keeps_invalid
  pub holds : holds_semicolons a.semicolons ≡ holds_semicolons b.semicolons

pub alike_same : (a b : Sheet) → Alike a b → Same b a
alike_same a b h =
    record {
      whole = ap (λ (s : Sheet). s.whole) h.same;
      line_end = ap (λ (s : Sheet). s.line_end) h.same;
      indent_text = ap (λ (s : Sheet). s.indent_text) h.same;
      faults = ap (λ (s : Sheet). s.faults) h.same;
      refused = ap (λ (s : Sheet). s.refused) h.same;
      takes_memory = ap (λ (s : Sheet). s.takes_memory) h.same;
      keeps_positions = ap (λ (s : Sheet). s.keeps_positions) h.same;
      keeps_invalid = ap (λ (s : Sheet). s.keeps_invalid) h.same;
      holds = h.holds;
    }

pub started_same : (s : Sheet) → Same (started s) s
started_same s = alike_same s (started s) (started_alike s)

pub written_same : (span : Option Span) (t : List ℕ) (s : Sheet) → Same (written span t s) s
written_same span t s = alike_same s (written span t s) (written_alike span t s)

pub settled_same : (s : Sheet) → Same (settled s) s
settled_same s = alike_same s (settled s) (settled_alike s)

pub effect_same : (x : Item) (s : Sheet) → Same (effect x s) s
effect_same x s = alike_same s (effect x s) (effect_alike x s)

-- ---- a text grows

pub effect_grows : (x : Item) (s : Sheet) → IsPrefix s.text (effect x s).text
effect_grows x s = (effect_alike x s).grows

-- ---- the same, a field at a time

pub effect_whole : (x : Item) (s : Sheet) → (effect x s).whole ≡ s.whole
effect_whole x s = (effect_same x s).whole

pub effect_faults : (x : Item) (s : Sheet) → (effect x s).faults ≡ s.faults
effect_faults x s = (effect_same x s).faults

pub effect_refused : (x : Item) (s : Sheet) → (effect x s).refused ≡ s.refused
effect_refused x s = (effect_same x s).refused

pub effect_takes_memory : (x : Item) (s : Sheet) → (effect x s).takes_memory ≡ s.takes_memory
effect_takes_memory x s = (effect_same x s).takes_memory

pub effect_keeps_positions : (x : Item) (s : Sheet) → (effect x s).keeps_positions ≡ s.keeps_positions
effect_keeps_positions x s = (effect_same x s).keeps_positions
