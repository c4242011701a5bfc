-- What calls do to a sheet is the same whatever semicolons it has: each commutes with `holding`.
use Rattle.std.proofs.Common.{◌≡◌, ℕ, Bool, true, false, ◌&&◌, List, [], ◌∷◌, refl, ◌∙◌, ap, cond, Option, Some, None}
use Rattle.std.specs.List.{repeat}
use Rattle.swc_ecma_codegen_common.specs.declared.positions.BytePos.{BytePos}
use Rattle.swc_ecma_codegen_common.specs.declared.positions.Span.{Span}
use Rattle.swc_ecma_codegen_text_writer.specs.Sheet.{Sheet, Semicolons, Flow, Flowing, Filling, Cutting, Segment, released, noted, notes_released, line_ended, ends_before, segment_released, begun_by, allowed_by, allowed, closed_by, passed_on, appended_by, recorded_by, is_recorded, appended, indented, recorded, start_recorded, end_recorded, pending_recorded, started, written, literal_written, ended, pointed}

-- ---- a sheet but for its semicolons

abbrev pub holding : Semicolons → Sheet → Sheet
holding q s = record s { semicolons = q }

released_commutes : (q : Semicolons) (t : List ℕ) (s : Sheet) → released t (holding q s) ≡ holding q (released t s)
unfolding released
released_commutes q t s = refl

recorded_by_commutes : (l : Flow) (q : Semicolons) (pos : BytePos) (s : Sheet) → recorded_by l pos (holding q s) ≡ holding q (recorded_by l pos s)
unfolding recorded_by noted
recorded_by_commutes Flowing q pos s = refl
recorded_by_commutes (Filling max first g) q pos s = refl
recorded_by_commutes (Cutting done begun) q pos s = refl

recorded_commutes : (q : Semicolons) (pos : BytePos) (s : Sheet) → recorded pos (holding q s) ≡ holding q (recorded pos s)
unfolding recorded
recorded_commutes q pos s =
    elim (is_recorded pos s) as (λ b. cond b (recorded_by s.lines pos (holding q s)) (holding q s) ≡ holding q (cond b (recorded_by s.lines pos s) s))
    [ true ↦ recorded_by_commutes s.lines q pos s | false ↦ refl ]

appended_by_commutes : (l : Flow) (q : Semicolons) (t : List ℕ) (s : Sheet) → appended_by l t (holding q s) ≡ holding q (appended_by l t s)
unfolding appended_by released
appended_by_commutes Flowing q t s = refl
appended_by_commutes (Filling max first g) q t s = refl
appended_by_commutes (Cutting done begun) q t s = refl

appended_commutes : (q : Semicolons) (t : List ℕ) (s : Sheet) → appended t (holding q s) ≡ holding q (appended t s)
unfolding appended
appended_commutes q t s = appended_by_commutes s.lines q t s

start_commutes : (q : Semicolons) (span : Option Span) (s : Sheet) → start_recorded span (holding q s) ≡ holding q (start_recorded span s)
unfolding start_recorded
start_commutes q None s = refl
start_commutes q (Some span) s = recorded_commutes q span.lo s

end_commutes : (q : Semicolons) (span : Option Span) (s : Sheet) → end_recorded span (holding q s) ≡ holding q (end_recorded span s)
unfolding end_recorded
end_commutes q None s = refl
end_commutes q (Some span) s = recorded_commutes q span.hi s

pending_commutes : (q : Semicolons) (p : Option BytePos) (s : Sheet) → pending_recorded p (holding q s) ≡ holding q (pending_recorded p s)
unfolding pending_recorded
pending_commutes q None s = refl
pending_commutes q (Some pos) s = recorded_commutes q pos (record s { pending = None })

-- the line's indentation is out
abbrev pub begun : Sheet → Sheet
begun s = record (indented s.indentation s) { at_line_start = false }

begun_commutes : (q : Semicolons) (s : Sheet) → begun (holding q s) ≡ holding q (begun s)
unfolding indented
begun_commutes q s = ap (λ (z : Sheet). record z { at_line_start = false }) (appended_commutes q (repeat s.indentation s.indent_text) s)

started_commutes : (q : Semicolons) (s : Sheet) → started (holding q s) ≡ holding q (started s)
unfolding started
started_commutes q s =
    elim s.at_line_start as (λ b. cond b (pending_recorded s.pending (begun (holding q s))) (holding q s) ≡ holding q (cond b (pending_recorded s.pending (begun s)) s))
    [ true ↦ ap (pending_recorded s.pending) (begun_commutes q s) ∙ pending_commutes q s.pending (begun s) | false ↦ refl ]

pub written_commutes : (q : Semicolons) (span : Option Span) (t : List ℕ) (s : Sheet) → written span t (holding q s) ≡ holding q (written span t s)
unfolding written
written_commutes q span [] s = refl
written_commutes q span (c ∷ cs) s =
    ap (λ z. end_recorded span (appended (c ∷ cs) (start_recorded span z))) (started_commutes q s) ∙
    ap (λ z. end_recorded span (appended (c ∷ cs) z)) (start_commutes q span (started s)) ∙
    ap (end_recorded span) (appended_commutes q (c ∷ cs) (start_recorded span (started s))) ∙
    end_commutes q span (appended (c ∷ cs) (start_recorded span (started s)))

pub literal_commutes : (q : Semicolons) (span : Span) (t : List ℕ) (s : Sheet) → literal_written span t (holding q s) ≡ holding q (literal_written span t s)
unfolding literal_written
literal_commutes q span [] s = refl
literal_commutes q span (c ∷ cs) s =
    ap (λ z. recorded span.hi (written None (c ∷ cs) z)) (recorded_commutes q span.lo s) ∙
    ap (recorded span.hi) (written_commutes q None (c ∷ cs) (recorded span.lo s)) ∙
    recorded_commutes q span.hi (written None (c ∷ cs) (recorded span.lo s))

pub ended_commutes : (q : Semicolons) (s : Sheet) → ended (holding q s) ≡ holding q (ended s)
unfolding ended
ended_commutes q s =
    elim s.at_line_start as (λ b. cond b (record s { pending = None; semicolons = q }) (record (appended s.line_end (holding q s)) { at_line_start = true }) ≡ holding q (cond b (record s { pending = None }) (record (appended s.line_end s) { at_line_start = true })))
    [ true ↦ refl | false ↦ ap (λ (z : Sheet). record z { at_line_start = true }) (appended_commutes q s.line_end s) ]

pub pointed_commutes : (q : Semicolons) (pos : BytePos) (s : Sheet) → pointed pos (holding q s) ≡ holding q (pointed pos s)
unfolding pointed
pointed_commutes q pos s =
    elim (s.keeps_positions && s.at_line_start) as (λ b. cond b (record s { pending = Some pos; semicolons = q }) (recorded pos (holding q s)) ≡ holding q (cond b (record s { pending = Some pos }) (recorded pos s)))
    [ true ↦ refl | false ↦ recorded_commutes q pos s ]

-- ---- an allowed break

notes_commutes : (xs : List (List ℕ × BytePos)) (q : Semicolons) (s : Sheet) → notes_released xs (holding q s) ≡ holding q (notes_released xs s)
unfolding notes_released noted released
notes_commutes [] q s = refl
notes_commutes (x ∷ xs) q s = notes_commutes xs q (noted x.1 (released x.0 s))

line_commutes : (b : Bool) (q : Semicolons) (s : Sheet) → line_ended b (holding q s) ≡ holding q (line_ended b s)
unfolding line_ended released
line_commutes true q s = refl
line_commutes false q s = refl

segment_commutes : (max : ℕ) (first : Bool) (g : Segment) (q : Semicolons) (s : Sheet) → segment_released max first g (holding q s) ≡ holding q (segment_released max first g s)
unfolding segment_released ends_before
segment_commutes max first g q s =
    ap (λ z. released g.rest (notes_released g.noted z)) (line_commutes (ends_before max first g s) q s)
    ∙ (ap (released g.rest) (notes_commutes g.noted q (line_ended (ends_before max first g s) s)) ∙ released_commutes q g.rest (notes_released g.noted (line_ended (ends_before max first g s) s)))

allowed_by_commutes : (l : Flow) (q : Semicolons) (s : Sheet) → allowed_by l (holding q s) ≡ holding q (allowed_by l s)
unfolding allowed_by
allowed_by_commutes Flowing q s = refl
allowed_by_commutes (Filling max first g) q s = ap (λ (z : Sheet). record z { lines = Filling max false (record { noted = []; rest = [] }) }) (segment_commutes max first g q s)
allowed_by_commutes (Cutting done begun) q s = refl

pub allowed_commutes : (q : Semicolons) (s : Sheet) → allowed (holding q s) ≡ holding q (allowed s)
unfolding allowed
allowed_commutes q s = allowed_by_commutes s.lines q s

pub passed_commutes : (b : Bool) (q : Semicolons) (s : Sheet) → passed_on b (holding q s) ≡ holding q (passed_on b s)
unfolding passed_on
passed_commutes true q s = allowed_commutes q s
passed_commutes false q s = refl

-- ---- lines begin and end

pub begun_by_commutes : (l : Flow) (q : Semicolons) (max : ℕ) (s : Sheet) → begun_by l max (holding q s) ≡ holding q (begun_by l max s)
unfolding begun_by
begun_by_commutes Flowing q max s = refl
begun_by_commutes (Filling old first g) q max s = refl
begun_by_commutes (Cutting done begun) q max s = refl

pub closed_by_commutes : (l : Flow) (q : Semicolons) (s : Sheet) → closed_by l (holding q s) ≡ holding q (closed_by l s)
unfolding closed_by
closed_by_commutes Flowing q s = refl
closed_by_commutes (Filling max first g) q s = ap (λ (z : Sheet). record z { lines = Flowing }) (segment_commutes max first g q s)
closed_by_commutes (Cutting done begun) q s = refl
