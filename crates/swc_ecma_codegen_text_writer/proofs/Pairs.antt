-- Pairs that calls record are true.
use Rattle.std.proofs.Common.{◌≡◌, ℕ, ◌+◌, ◌-◌, Bool, true, false, List, [], ◌∷◌, ◌++◌, refl, sym, ◌∙◌, ap, append_assoc, append-nil, cond, codes, subst, Option, Some, None, ◌&&◌, ◌||◌, ◌==◌}
use Rattle.std.proofs.lemmas.Bool.{or_parts}
use Rattle.std.specs.List.{repeat}
use Rattle.swc_ecma_codegen_common.specs.declared.positions.BytePos.{BytePos}
use Rattle.swc_ecma_codegen_common.specs.declared.positions.Span.{Span}
use Rattle.swc_ecma_codegen_text_writer.specs.Places.{Place, after_text}
pub use Rattle.swc_ecma_codegen_text_writer.proofs.Reaching.{after_both}
use Rattle.swc_ecma_codegen_text_writer.specs.Recorded.{StandIn, AreNew, RecordsTruly}
use Rattle.swc_ecma_codegen_text_writer.specs.Sheet.{Sheet, Item, Pair, Semi, Space, Keyword, Operator, Param, Property, Line, Lit, Comment, StrLit, Str, Symbol, Punct, Position, Commit, Deeper, Shallower, BeginLines, AllowBreak, EndLines, Semicolons, AtOnce, HoldsNone, HoldsOne, Flow, Flowing, Filling, Cutting, Segment, has_pair, pair_at, with_pair, released, noted, recorded_by, is_recorded, recorded, start_recorded, end_recorded, pending_recorded, appended_by, appended, indented, started, written, literal_written, ended, pointed, notes_released, line_ended, ends_before, segment_released, begun_by, allowed_by, allowed, closed_by, passed_on, settled_by, settled, semicolon_by, dropped, is_ending, before_punct, allowed_at, effect, effects}

-- ---- two texts, one after the other

-- what stands in a text stands there with a text before it
stand_later : (p : Place) (t u : List ℕ) (xs : List Pair) → StandIn (after_text t p) u xs → StandIn p (t ++ u) xs
unfolding StandIn
stand_later p t u [] h = tt
stand_later p t u (x ∷ xs) h =
    let e : after_text h.0 (after_text t p) ≡ after_text (t ++ h.0) p = sym (after_both t h.0 p) in
    (t ++ h.0, h.1, ap (λ z. t ++ z) h.2 ∙ sym (append_assoc t h.0 h.1), h.3 ∙ ap (pair_at x.0) e, subst (λ (q : Place). StandIn q h.1 xs) e h.4)

-- what stands in a text, and then what stands in the text after it
stand_both : (p : Place) (t u : List ℕ) (xs ys : List Pair) → StandIn p t xs → StandIn (after_text t p) u ys → StandIn p (t ++ u) (xs ++ ys)
unfolding StandIn
stand_both p t u [] ys h k = stand_later p t u ys k
stand_both p t u (x ∷ xs) ys h k =
    let e : after_text t p ≡ after_text h.1 (after_text h.0 p) = ap (λ z. after_text z p) h.2 ∙ after_both h.0 h.1 p in
    (h.0, h.1 ++ u, ap (λ z. z ++ u) h.2 ∙ append_assoc h.0 h.1 u, h.3, stand_both (after_text h.0 p) h.1 u xs ys h.4 (subst (λ (q : Place). StandIn q u ys) e k))

new_both : (known xs ys : List Pair) → AreNew known xs → AreNew (known ++ xs) ys → AreNew known (xs ++ ys)
unfolding AreNew
new_both known [] ys h k = subst (λ (z : List Pair). AreNew z ys) (append-nil known) k
new_both known (x ∷ xs) ys h k =
    (h.0, new_both (known ++ (x ∷ [])) xs ys h.1 (subst (λ (z : List Pair). AreNew z ys) (sym (append_assoc known (x ∷ []) xs)) k))

-- ---- from one sheet to another

-- a change that leaves text, pairs and place
records_same : (a b : Sheet) → b.text ≡ a.text → b.pairs ≡ a.pairs → b.place ≡ a.place → RecordsTruly a b
unfolding StandIn AreNew after_text
records_same a b h k p = record {
  added = [];
  is_added = k ∙ sym (append-nil a.pairs);
  text = [];
  is_text = h ∙ sym (append-nil a.text);
  are_true = tt;
  are_new = tt;
  place = p;
}

pub records_refl : (a : Sheet) → RecordsTruly a a
records_refl a = records_same a a refl refl refl

pub records_trans : (a b c : Sheet) → RecordsTruly a b → RecordsTruly b c → RecordsTruly a c
records_trans a b c h k = record {
  added = h.added ++ k.added;
  is_added = k.is_added ∙ ap (λ z. z ++ k.added) h.is_added ∙ append_assoc a.pairs h.added k.added;
  text = h.text ++ k.text;
  is_text = k.is_text ∙ ap (λ z. z ++ k.text) h.is_text ∙ append_assoc a.text h.text k.text;
  are_true = stand_both a.place h.text k.text h.added k.added h.are_true (subst (λ (p : Place). StandIn p k.text k.added) h.place k.are_true);
  are_new = new_both a.pairs h.added k.added h.are_new (subst (λ (z : List Pair). AreNew z k.added) h.is_added k.are_new);
  place = k.place ∙ ap (after_text k.text) h.place ∙ sym (after_both h.text k.text a.place);
}

-- ---- positions

-- a new pair with the place that was reached
records_one : (pos : BytePos) (s : Sheet) → has_pair (pair_at pos s.place) s.pairs ≡ false → RecordsTruly s (record s { pairs = s.pairs ++ (pair_at pos s.place ∷ []) })
unfolding StandIn AreNew after_text
records_one pos s h = record {
  added = pair_at pos s.place ∷ [];
  is_added = refl;
  text = [];
  is_text = sym (append-nil s.text);
  are_true = ([], [], refl, refl, tt);
  are_new = (h, tt);
  place = refl;
}

pub noted_records : (pos : BytePos) (s : Sheet) → RecordsTruly s (noted pos s)
unfolding noted with_pair
noted_records pos s =
    let stands : Bool = (pos.0 == 0) || has_pair (pair_at pos s.place) s.pairs in
    let P : Bool → Type 0 = λ b. stands ≡ b → RecordsTruly s (record s { pairs = cond b s.pairs (s.pairs ++ (pair_at pos s.place ∷ [])) }) in
    (elim stands as P [ true ↦ λ h. records_refl s | false ↦ λ h. records_one pos s (or_parts (pos.0 == 0) _ h).1 ]) refl

other_lines : (l : Flow) (s : Sheet) → RecordsTruly s (record s { lines = l })
other_lines l s = records_same s (record s { lines = l }) refl refl refl

recorded_by_records : (l : Flow) (pos : BytePos) (s : Sheet) → RecordsTruly s (recorded_by l pos s)
unfolding recorded_by
recorded_by_records Flowing pos s = noted_records pos s
recorded_by_records (Filling max first g) pos s = other_lines _ s
recorded_by_records (Cutting done begun) pos s = records_trans s _ _ (noted_records pos s) (other_lines _ (noted pos s))

pub recorded_records : (pos : BytePos) (s : Sheet) → RecordsTruly s (recorded pos s)
unfolding recorded
recorded_records pos s =
    elim (is_recorded pos s) as (λ b. RecordsTruly s (cond b (recorded_by s.lines pos s) s))
    [ true ↦ recorded_by_records s.lines pos s | false ↦ records_refl s ]

pub start_records : (span : Option Span) (s : Sheet) → RecordsTruly s (start_recorded span s)
unfolding start_recorded
start_records None s = records_refl s
start_records (Some span) s = recorded_records span.lo s

pub end_records : (span : Option Span) (s : Sheet) → RecordsTruly s (end_recorded span s)
unfolding end_recorded
end_records None s = records_refl s
end_records (Some span) s = recorded_records span.hi s

other_pending : (pos : Option BytePos) (s : Sheet) → RecordsTruly s (record s { pending = pos })
other_pending pos s = records_same s (record s { pending = pos }) refl refl refl

pub pending_records : (pos : Option BytePos) (s : Sheet) → RecordsTruly s (pending_recorded pos s)
unfolding pending_recorded
pending_records None s = records_refl s
pending_records (Some pos) s = records_trans _ _ _ (other_pending None s) (recorded_records pos (record s { pending = None }))

pub pointed_records : (pos : BytePos) (s : Sheet) → RecordsTruly s (pointed pos s)
unfolding pointed
pointed_records pos s =
    elim (s.keeps_positions && s.at_line_start) as (λ b. RecordsTruly s (cond b (record s { pending = Some pos }) (recorded pos s)))
    [ true ↦ other_pending (Some pos) s | false ↦ recorded_records pos s ]

-- ---- texts

pub sent_records : (t : List ℕ) (s : Sheet) → RecordsTruly s (released t s)
unfolding released StandIn AreNew
sent_records t s = record { added = []; is_added = sym (append-nil s.pairs); text = t; is_text = refl; are_true = tt; are_new = tt; place = refl }

appended_by_records : (l : Flow) (t : List ℕ) (s : Sheet) → RecordsTruly s (appended_by l t s)
unfolding appended_by
appended_by_records Flowing t s = sent_records t s
appended_by_records (Filling max first g) t s = other_lines _ s
appended_by_records (Cutting done begun) t s = records_trans s _ _ (sent_records t s) (other_lines _ (released t s))

pub appended_records : (t : List ℕ) (s : Sheet) → RecordsTruly s (appended t s)
unfolding appended
appended_records t s = appended_by_records s.lines t s

-- ---- lines

pub notes_record : (xs : List (List ℕ × BytePos)) (s : Sheet) → RecordsTruly s (notes_released xs s)
unfolding notes_released
notes_record [] s = records_refl s
notes_record (x ∷ xs) s = records_trans s _ _ (records_trans s _ _ (sent_records x.0 s) (noted_records x.1 (released x.0 s))) (notes_record xs (noted x.1 (released x.0 s)))

line_records : (b : Bool) (s : Sheet) → RecordsTruly s (line_ended b s)
unfolding line_ended
line_records true s = sent_records s.line_end s
line_records false s = records_refl s

pub segment_records : (max : ℕ) (first : Bool) (g : Segment) (s : Sheet) → RecordsTruly s (segment_released max first g s)
unfolding segment_released
segment_records max first g s =
    let b : Sheet = line_ended (ends_before max first g s) s in
    records_trans s _ _ (line_records (ends_before max first g s) s) (records_trans b _ _ (notes_record g.noted b) (sent_records g.rest (notes_released g.noted b)))

begun_records_by : (l : Flow) (max : ℕ) (s : Sheet) → RecordsTruly s (begun_by l max s)
unfolding begun_by
begun_records_by Flowing max s = other_lines _ s
begun_records_by (Filling old first g) max s = other_lines _ s
begun_records_by (Cutting done begun) max s = records_refl s

allowed_by_records : (l : Flow) (s : Sheet) → RecordsTruly s (allowed_by l s)
unfolding allowed_by
allowed_by_records Flowing s = records_refl s
allowed_by_records (Filling max first g) s = records_trans s _ _ (segment_records max first g s) (other_lines _ (segment_released max first g s))
allowed_by_records (Cutting done begun) s = other_lines _ s

allowed_records : (s : Sheet) → RecordsTruly s (allowed s)
unfolding allowed
allowed_records s = allowed_by_records s.lines s

closed_records : (l : Flow) (s : Sheet) → RecordsTruly s (closed_by l s)
unfolding closed_by
closed_records Flowing s = records_refl s
closed_records (Filling max first g) s = records_trans s _ _ (segment_records max first g s) (other_lines _ (segment_released max first g s))
closed_records (Cutting done begun) s = records_refl s

passed_records : (b : Bool) (s : Sheet) → RecordsTruly s (passed_on b s)
unfolding passed_on
passed_records true s = allowed_records s
passed_records false s = records_refl s

pub indented_records : (n : ℕ) (s : Sheet) → RecordsTruly s (indented n s)
unfolding indented
indented_records n s = appended_records (repeat n s.indent_text) s

other_start : (b : Bool) (s : Sheet) → RecordsTruly s (record s { at_line_start = b })
other_start b s = records_same s (record s { at_line_start = b }) refl refl refl

-- the sheet at a line's start, with the indentation out
begun : Sheet → Sheet
begun s = record (indented s.indentation s) { at_line_start = false }

begun_records : (s : Sheet) → RecordsTruly s (begun s)
unfolding begun
begun_records s = records_trans _ _ _ (indented_records s.indentation s) (other_start false (indented s.indentation s))

pub started_records : (s : Sheet) → RecordsTruly s (started s)
unfolding started begun
started_records s =
    elim s.at_line_start as (λ b. RecordsTruly s (cond b (pending_recorded s.pending (record (indented s.indentation s) { at_line_start = false })) s))
    [ true ↦ records_trans _ _ _ (begun_records s) (pending_records s.pending (begun s)) | false ↦ records_refl s ]

pub written_records : (span : Option Span) (t : List ℕ) (s : Sheet) → RecordsTruly s (written span t s)
unfolding written
written_records span [] s = records_refl s
written_records span (c ∷ cs) s =
    records_trans _ _ _ (started_records s)
    (records_trans _ _ _ (start_records span (started s))
    (records_trans _ _ _ (appended_records (c ∷ cs) (start_recorded span (started s))) (end_records span (appended (c ∷ cs) (start_recorded span (started s))))))

pub literal_records : (span : Span) (t : List ℕ) (s : Sheet) → RecordsTruly s (literal_written span t s)
unfolding literal_written
literal_records span [] s = records_refl s
literal_records span (c ∷ cs) s =
    records_trans _ _ _ (recorded_records span.lo s)
    (records_trans _ _ _ (written_records None (c ∷ cs) (recorded span.lo s)) (recorded_records span.hi (written None (c ∷ cs) (recorded span.lo s))))

pub ended_records : (s : Sheet) → RecordsTruly s (ended s)
unfolding ended
ended_records s =
    elim s.at_line_start as (λ b. RecordsTruly s (cond b (record s { pending = None }) (record (appended s.line_end s) { at_line_start = true })))
    [ true ↦ other_pending None s | false ↦ records_trans _ _ _ (appended_records s.line_end s) (other_start true (appended s.line_end s)) ]

-- ---- semicolons

other_semicolon : (x : Semicolons) (s : Sheet) → RecordsTruly s (record s { semicolons = x })
other_semicolon x s = records_same s (record s { semicolons = x }) refl refl refl

settled_by_records : (x : Semicolons) (s : Sheet) → RecordsTruly s (settled_by x s)
unfolding settled_by
settled_by_records AtOnce s = records_refl s
settled_by_records HoldsNone s = records_refl s
settled_by_records (HoldsOne span kept) s = records_trans s _ _ (records_trans s _ _ (other_semicolon HoldsNone s) (written_records span (codes ";") (record s { semicolons = HoldsNone }))) (passed_records kept (written span (codes ";") (record s { semicolons = HoldsNone })))

pub settled_records : (s : Sheet) → RecordsTruly s (settled s)
settled_records s = settled_by_records s.semicolons s

pub semicolon_records : (x : Semicolons) (span : Option Span) (s : Sheet) → RecordsTruly s (semicolon_by x span s)
unfolding semicolon_by
semicolon_records AtOnce span s = written_records span (codes ";") s
semicolon_records HoldsNone span s = other_semicolon (HoldsOne span false) s
semicolon_records (HoldsOne held kept) span s = other_semicolon (HoldsOne span false) s

pub before_punct_records : (t : List ℕ) (s : Sheet) → RecordsTruly s (before_punct t s)
unfolding before_punct
before_punct_records t s =
    elim (is_ending t) as (λ b. RecordsTruly s (cond b (record s { semicolons = dropped s.semicolons }) (settled s)))
    [ true ↦ other_semicolon (dropped s.semicolons) s | false ↦ settled_records s ]

-- ---- calls

other_level : (n : ℕ) (s : Sheet) → RecordsTruly s (record s { indentation = n })
other_level n s = records_same s (record s { indentation = n }) refl refl refl

after_settled : (s t : Sheet) → RecordsTruly (settled s) t → RecordsTruly s t
after_settled s t h = records_trans s (settled s) t (settled_records s) h

break_records : (x : Semicolons) (s : Sheet) → RecordsTruly s (allowed_at x s)
unfolding allowed_at
break_records AtOnce s = allowed_records s
break_records HoldsNone s = allowed_records s
break_records (HoldsOne span kept) s = other_semicolon (HoldsOne span true) s

pub effect_records : (x : Item) (s : Sheet) → RecordsTruly s (effect x s)
unfolding effect
effect_records (Semi span) s = semicolon_records s.semicolons span s
effect_records Space s = after_settled s _ (written_records None (codes " ") (settled s))
effect_records (Keyword span t) s = after_settled s _ (written_records span t (settled s))
effect_records (Operator span t) s = after_settled s _ (written_records span t (settled s))
effect_records (Param t) s = after_settled s _ (written_records None t (settled s))
effect_records (Property t) s = after_settled s _ (written_records None t (settled s))
effect_records Line s = after_settled s _ (ended_records (settled s))
effect_records (Lit span t) s = after_settled s _ (literal_records span t (settled s))
effect_records (Comment t) s = after_settled s _ (written_records None t (settled s))
effect_records (StrLit span t) s = after_settled s _ (literal_records span t (settled s))
effect_records (Str t) s = after_settled s _ (written_records None t (settled s))
effect_records (Symbol span t) s = after_settled s _ (written_records (Some span) t (settled s))
effect_records (Punct span t) s = records_trans s _ _ (before_punct_records t s) (written_records span t (before_punct t s))
effect_records (Position pos) s = pointed_records pos s
effect_records Commit s = settled_records s
effect_records Deeper s = after_settled s _ (other_level (s.indentation + 1) (settled s))
effect_records Shallower s = after_settled s _ (other_level (s.indentation - 1) (settled s))
effect_records (BeginLines max) s = begun_records_by s.lines max s
effect_records AllowBreak s = break_records s.semicolons s
effect_records EndLines s = closed_records s.lines s

pub effects_record : (xs : List Item) (s : Sheet) → RecordsTruly s (effects xs s)
unfolding effects
effects_record [] s = records_refl s
effects_record (x ∷ xs) s = records_trans _ _ _ (effect_records x s) (effects_record xs (effect x s))
