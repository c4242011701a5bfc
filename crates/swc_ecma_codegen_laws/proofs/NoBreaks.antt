-- Where no lines are filled an allowed break does nothing but to be kept with a semicolon that is held back.
use Rattle.std.proofs.Common.{◌≡◌, ◌+◌, ◌-◌, ℕ, Bool, true, false, cond, ◌&&◌, List, [], ◌∷◌, Option, Some, None, codes, refl, sym, ap, ◌∙◌, inl, inr}
use Rattle.std.specs.List.{repeat}
use Rattle.std.proofs.lemmas.Bool.{and_parts, cases_Bool, true≢false}
use Rattle.swc_ecma_codegen_common.specs.declared.positions.BytePos.{BytePos}
use Rattle.swc_ecma_codegen_common.specs.declared.positions.Span.{Span}
use Rattle.swc_ecma_codegen_text_writer.specs.Runs.{is_inner, are_inner}
use Rattle.swc_ecma_codegen_text_writer.specs.Sheet.{Item, Semi, Space, Keyword, Operator, Param, Property, Line, Lit, Comment, StrLit, Str, Symbol, Punct, Position, Commit, Deeper, Shallower, BeginLines, AllowBreak, EndLines, Sheet, Semicolons, AtOnce, HoldsNone, HoldsOne, Flowing, effect, effects, released, appended_by, appended, indented, noted, recorded_by, is_recorded, recorded, start_recorded, end_recorded, pending_recorded, started, written, literal_written, ended, pointed, allowed_by, allowed, passed_on, settled_by, settled, semicolon_by, dropped, is_ending, before_punct, allowed_at}
use Rattle.swc_ecma_codegen_laws.specs.Lengths.{is_break_call, unbroken_calls}

-- ---- lines stay as they are

abbrev Flows : Sheet → Type 0
Flows s = s.lines ≡ Flowing

appended_flows : (t : List ℕ) (s : Sheet) → Flows s → Flows (appended t s)
unfolding appended appended_by released
appended_flows t s h = ap (λ l. (appended_by l t s).lines) h ∙ h

recorded_flows : (pos : BytePos) (s : Sheet) → Flows s → Flows (recorded pos s)
unfolding recorded recorded_by noted
recorded_flows pos s h = elim (is_recorded pos s) as (λ b. Flows (cond b (recorded_by s.lines pos s) s)) [ true ↦ ap (λ l. (recorded_by l pos s).lines) h ∙ h | false ↦ h ]

start_flows : (span : Option Span) (s : Sheet) → Flows s → Flows (start_recorded span s)
unfolding start_recorded
start_flows None s h = h
start_flows (Some span) s h = recorded_flows span.lo s h

end_flows : (span : Option Span) (s : Sheet) → Flows s → Flows (end_recorded span s)
unfolding end_recorded
end_flows None s h = h
end_flows (Some span) s h = recorded_flows span.hi s h

pending_flows : (pos : Option BytePos) (s : Sheet) → Flows s → Flows (pending_recorded pos s)
unfolding pending_recorded
pending_flows None s h = h
pending_flows (Some pos) s h = recorded_flows pos (record s { pending = None }) h

indented_flows : (n : ℕ) (s : Sheet) → Flows s → Flows (indented n s)
unfolding indented
indented_flows n s h = appended_flows (repeat n s.indent_text) s h

started_flows : (s : Sheet) → Flows s → Flows (started s)
unfolding started
started_flows s h = elim s.at_line_start as (λ b. Flows (cond b (pending_recorded s.pending (record (indented s.indentation s) { at_line_start = false })) s)) [
  | true ↦ pending_flows s.pending (record (indented s.indentation s) { at_line_start = false }) (indented_flows s.indentation s h)
  | false ↦ h
]

written_flows : (span : Option Span) (t : List ℕ) (s : Sheet) → Flows s → Flows (written span t s)
unfolding written
written_flows span [] s h = h
written_flows span (c ∷ cs) s h = end_flows span _ (appended_flows (c ∷ cs) _ (start_flows span (started s) (started_flows s h)))

literal_flows : (span : Span) (t : List ℕ) (s : Sheet) → Flows s → Flows (literal_written span t s)
unfolding literal_written
literal_flows span [] s h = h
literal_flows span (c ∷ cs) s h = recorded_flows span.hi _ (written_flows None (c ∷ cs) _ (recorded_flows span.lo s h))

ended_flows : (s : Sheet) → Flows s → Flows (ended s)
unfolding ended
ended_flows s h = elim s.at_line_start as (λ b. Flows (cond b (record s { pending = None }) (record (appended s.line_end s) { at_line_start = true }))) [ true ↦ h | false ↦ appended_flows s.line_end s h ]

pointed_flows : (pos : BytePos) (s : Sheet) → Flows s → Flows (pointed pos s)
unfolding pointed
pointed_flows pos s h = elim (s.keeps_positions && s.at_line_start) as (λ b. Flows (cond b (record s { pending = Some pos }) (recorded pos s))) [ true ↦ h | false ↦ recorded_flows pos s h ]

allowed_same : (s : Sheet) → Flows s → allowed s ≡ s
unfolding allowed allowed_by
allowed_same s h = ap (λ l. allowed_by l s) h

passed_same : (b : Bool) (s : Sheet) → Flows s → passed_on b s ≡ s
unfolding passed_on
passed_same true s h = allowed_same s h
passed_same false s h = refl

settled_by_flows : (k : Semicolons) (s : Sheet) → Flows s → Flows (settled_by k s)
unfolding settled_by
settled_by_flows AtOnce s h = h
settled_by_flows HoldsNone s h = h
settled_by_flows (HoldsOne span kept) s h =
    let z : Sheet = written span (codes ";") (record s { semicolons = HoldsNone }) in
    let f : Flows z = written_flows span (codes ";") (record s { semicolons = HoldsNone }) h in
    ap (λ (y : Sheet). y.lines) (passed_same kept z f) ∙ f

settled_flows : (s : Sheet) → Flows s → Flows (settled s)
settled_flows s h = settled_by_flows s.semicolons s h

semicolon_flows : (k : Semicolons) (span : Option Span) (s : Sheet) → Flows s → Flows (semicolon_by k span s)
unfolding semicolon_by
semicolon_flows AtOnce span s h = written_flows span (codes ";") s h
semicolon_flows HoldsNone span s h = h
semicolon_flows (HoldsOne held kept) span s h = h

before_flows : (t : List ℕ) (s : Sheet) → Flows s → Flows (before_punct t s)
unfolding before_punct
before_flows t s h = elim (is_ending t) as (λ b. Flows (cond b (record s { semicolons = dropped s.semicolons }) (settled s))) [ true ↦ h | false ↦ settled_flows s h ]

break_flows : (k : Semicolons) (s : Sheet) → Flows s → Flows (allowed_at k s)
unfolding allowed_at
break_flows AtOnce s h = ap (λ (y : Sheet). y.lines) (allowed_same s h) ∙ h
break_flows HoldsNone s h = ap (λ (y : Sheet). y.lines) (allowed_same s h) ∙ h
break_flows (HoldsOne span kept) s h = h

effect_flows : (x : Item) (s : Sheet) → is_inner x ≡ true → Flows s → Flows (effect x s)
unfolding effect
effect_flows (Semi span) s i h = semicolon_flows s.semicolons span s h
effect_flows Space s i h = written_flows None (codes " ") (settled s) (settled_flows s h)
effect_flows (Keyword span t) s i h = written_flows span t (settled s) (settled_flows s h)
effect_flows (Operator span t) s i h = written_flows span t (settled s) (settled_flows s h)
effect_flows (Param t) s i h = written_flows None t (settled s) (settled_flows s h)
effect_flows (Property t) s i h = written_flows None t (settled s) (settled_flows s h)
effect_flows Line s i h = ended_flows (settled s) (settled_flows s h)
effect_flows (Lit span t) s i h = literal_flows span t (settled s) (settled_flows s h)
effect_flows (Comment t) s i h = written_flows None t (settled s) (settled_flows s h)
effect_flows (StrLit span t) s i h = literal_flows span t (settled s) (settled_flows s h)
effect_flows (Str t) s i h = written_flows None t (settled s) (settled_flows s h)
effect_flows (Symbol span t) s i h = written_flows (Some span) t (settled s) (settled_flows s h)
effect_flows (Punct span t) s i h = written_flows span t (before_punct t s) (before_flows t s h)
effect_flows (Position pos) s i h = pointed_flows pos s h
effect_flows Commit s i h = settled_flows s h
effect_flows Deeper s i h = settled_flows s h
effect_flows Shallower s i h = settled_flows s h
effect_flows (BeginLines max) s i h = absurd (true≢false (sym i))
effect_flows AllowBreak s i h = break_flows s.semicolons s h
effect_flows EndLines s i h = absurd (true≢false (sym i))

-- ---- without the break that is kept

abbrev pub bare : Semicolons → Semicolons
bare AtOnce = AtOnce
bare HoldsNone = HoldsNone
bare (HoldsOne span kept) = HoldsOne span false

abbrev pub unkept : Sheet → Sheet
unkept s = record s { semicolons = bare s.semicolons }

bare_twice : (k : Semicolons) → bare (bare k) ≡ bare k
bare_twice AtOnce = refl
bare_twice HoldsNone = refl
bare_twice (HoldsOne span kept) = refl

bare_dropped : (k : Semicolons) → dropped (bare k) ≡ dropped k
unfolding dropped
bare_dropped AtOnce = refl
bare_dropped HoldsNone = refl
bare_dropped (HoldsOne span kept) = refl

settled_unkept_by : (k : Semicolons) (s : Sheet) → Flows s → settled_by (bare k) (record s { semicolons = bare k }) ≡ settled_by k (record s { semicolons = k })
unfolding settled_by
settled_unkept_by AtOnce s h = refl
settled_unkept_by HoldsNone s h = refl
settled_unkept_by (HoldsOne span kept) s h =
    let z : Sheet = written span (codes ";") (record s { semicolons = HoldsNone }) in
    let f : Flows z = written_flows span (codes ";") (record s { semicolons = HoldsNone }) h in
    passed_same false z f ∙ sym (passed_same kept z f)

settled_unkept : (s : Sheet) → Flows s → settled (unkept s) ≡ settled s
settled_unkept s h = settled_unkept_by s.semicolons s h

semicolon_unkept : (k : Semicolons) (span : Option Span) (s : Sheet) → semicolon_by (bare k) span (record s { semicolons = bare k }) ≡ semicolon_by k span (record s { semicolons = k })
unfolding semicolon_by
semicolon_unkept AtOnce span s = refl
semicolon_unkept HoldsNone span s = refl
semicolon_unkept (HoldsOne held kept) span s = refl

before_unkept : (t : List ℕ) (s : Sheet) → Flows s → before_punct t (unkept s) ≡ before_punct t s
unfolding before_punct
before_unkept t s h = elim (is_ending t) as (λ b. cond b (record s { semicolons = dropped (bare s.semicolons) }) (settled (unkept s)) ≡ cond b (record s { semicolons = dropped s.semicolons }) (settled s)) [
  | true ↦ ap (λ k. record s { semicolons = k }) (bare_dropped s.semicolons)
  | false ↦ settled_unkept s h
]

recorded_unkept : (pos : BytePos) (s : Sheet) → Flows s → unkept (recorded pos (unkept s)) ≡ unkept (recorded pos s)
unfolding recorded recorded_by noted
recorded_unkept pos s h = elim (is_recorded pos s) as (λ b. unkept (cond b (recorded_by s.lines pos (unkept s)) (unkept s)) ≡ unkept (cond b (recorded_by s.lines pos s) s)) [
  | true ↦ ap (λ l. unkept (recorded_by l pos (unkept s))) h ∙ ap (λ k. record (noted pos s) { semicolons = k }) (bare_twice s.semicolons) ∙ sym (ap (λ l. unkept (recorded_by l pos s)) h)
  | false ↦ ap (λ k. record s { semicolons = k }) (bare_twice s.semicolons)
]

pointed_unkept : (pos : BytePos) (s : Sheet) → Flows s → unkept (pointed pos (unkept s)) ≡ unkept (pointed pos s)
unfolding pointed
pointed_unkept pos s h = elim (s.keeps_positions && s.at_line_start) as (λ b. unkept (cond b (record (unkept s) { pending = Some pos }) (recorded pos (unkept s))) ≡ unkept (cond b (record s { pending = Some pos }) (recorded pos s))) [
  | true ↦ ap (λ k. record s { semicolons = k; pending = Some pos }) (bare_twice s.semicolons)
  | false ↦ recorded_unkept pos s h
]

break_unkept : (k : Semicolons) (s : Sheet) → Flows s → unkept (allowed_at k (record s { semicolons = k })) ≡ unkept (record s { semicolons = k })
unfolding allowed_at
break_unkept AtOnce s h = ap unkept (allowed_same (record s { semicolons = AtOnce }) h)
break_unkept HoldsNone s h = ap unkept (allowed_same (record s { semicolons = HoldsNone }) h)
break_unkept (HoldsOne span kept) s h = refl

-- a call does the same to both, but that the break is kept or not
effect_unkept : (x : Item) (s : Sheet) → is_inner x ≡ true → is_break_call x ≡ false → Flows s → unkept (effect x (unkept s)) ≡ unkept (effect x s)
unfolding effect is_break_call
effect_unkept (Semi span) s i n h = ap unkept (semicolon_unkept s.semicolons span s)
effect_unkept Space s i n h = ap (λ z. unkept (written None (codes " ") z)) (settled_unkept s h)
effect_unkept (Keyword span t) s i n h = ap (λ z. unkept (written span t z)) (settled_unkept s h)
effect_unkept (Operator span t) s i n h = ap (λ z. unkept (written span t z)) (settled_unkept s h)
effect_unkept (Param t) s i n h = ap (λ z. unkept (written None t z)) (settled_unkept s h)
effect_unkept (Property t) s i n h = ap (λ z. unkept (written None t z)) (settled_unkept s h)
effect_unkept Line s i n h = ap (λ z. unkept (ended z)) (settled_unkept s h)
effect_unkept (Lit span t) s i n h = ap (λ z. unkept (literal_written span t z)) (settled_unkept s h)
effect_unkept (Comment t) s i n h = ap (λ z. unkept (written None t z)) (settled_unkept s h)
effect_unkept (StrLit span t) s i n h = ap (λ z. unkept (literal_written span t z)) (settled_unkept s h)
effect_unkept (Str t) s i n h = ap (λ z. unkept (written None t z)) (settled_unkept s h)
effect_unkept (Symbol span t) s i n h = ap (λ z. unkept (written (Some span) t z)) (settled_unkept s h)
effect_unkept (Punct span t) s i n h = ap (λ z. unkept (written span t z)) (before_unkept t s h)
effect_unkept (Position pos) s i n h = pointed_unkept pos s h
effect_unkept Commit s i n h = ap unkept (settled_unkept s h)
effect_unkept Deeper s i n h = ap (λ (z : Sheet). unkept (record z { indentation = s.indentation + 1 })) (settled_unkept s h)
effect_unkept Shallower s i n h = ap (λ (z : Sheet). unkept (record z { indentation = s.indentation - 1 })) (settled_unkept s h)
effect_unkept (BeginLines max) s i n h = absurd (true≢false (sym i))
effect_unkept AllowBreak s i n h = absurd (true≢false n)
effect_unkept EndLines s i n h = absurd (true≢false (sym i))

effect_same : (x : Item) (s t : Sheet) → is_inner x ≡ true → is_break_call x ≡ false → Flows s → Flows t → unkept s ≡ unkept t → unkept (effect x s) ≡ unkept (effect x t)
effect_same x s t i n h k e = sym (effect_unkept x s i n h) ∙ ap (λ z. unkept (effect x z)) e ∙ effect_unkept x t i n k

break_same : (x : Item) (s : Sheet) → is_break_call x ≡ true → Flows s → unkept (effect x s) ≡ unkept s
unfolding is_break_call effect
break_same AllowBreak s b h = break_unkept s.semicolons s h
break_same x s b h = absurd (true≢false (sym b))

-- calls, and the same without breaks
effects_same : (cs : List Item) (s t : Sheet) → are_inner cs ≡ true → Flows s → Flows t → unkept s ≡ unkept t → unkept (effects cs s) ≡ unkept (effects (unbroken_calls cs) t)
unfolding effects unbroken_calls are_inner
effects_same [] s t i h k e = e
effects_same (x ∷ cs) s t i h k e =
    let p = and_parts (is_inner x) (are_inner cs) i in
    let both : Bool → Sheet = λ b. unkept (effects (cond b (unbroken_calls cs) (x ∷ unbroken_calls cs)) t) in
    elim (cases_Bool (is_break_call x)) [
      | inl q ↦ effects_same cs (effect x s) t p.1 (effect_flows x s p.0 h) k (break_same x s q h ∙ e) ∙ sym (ap both q)
      | inr q ↦ effects_same cs (effect x s) (effect x t) p.1 (effect_flows x s p.0 h) (effect_flows x t p.0 k) (effect_same x s t p.0 q h k e) ∙ sym (ap both q)
    ]

-- calls that are the same but for breaks make the same sheet, but for a break that is kept with a semicolon
pub same_sheet : (cs ds : List Item) (s : Sheet) → are_inner cs ≡ true → are_inner ds ≡ true → unbroken_calls cs ≡ unbroken_calls ds → s.lines ≡ Flowing → unkept (effects cs s) ≡ unkept (effects ds s)
same_sheet cs ds s i j e h = effects_same cs s s i h h refl ∙ ap (λ zs. unkept (effects zs s)) e ∙ sym (effects_same ds s s j h h refl)
