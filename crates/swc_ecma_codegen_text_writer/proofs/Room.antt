-- Where memory was wanting: what is recorded then.
use Rattle.std.proofs.Common.{◌≡◌, inl, inr, Bool, true, false, cond, List, [], ◌∷◌, ◌++◌, ℕ, refl, sym, ◌∙◌, ap, subst, append_assoc, codes, Option, Some, None}
use Rattle.std.specs.List.{repeat}
use Rattle.std.proofs.lemmas.Bool.{false≢true}
use Rattle.swc_ecma_codegen_common.specs.declared.errors.Refusal.TheVariants.{Writer, OutOfMemory, PositionTooLarge}
use Rattle.swc_ecma_codegen_common.specs.declared.positions.BytePos.{BytePos}
use Rattle.swc_ecma_codegen_common.specs.declared.positions.Span.{Span}
use Rattle.swc_ecma_codegen_text_writer.specs.Contents.{IsPrefix}
use Rattle.swc_ecma_codegen_text_writer.specs.Sheet.{Sheet, Pair, pair_at, Flow, Flowing, Filling, Cutting, fills_lines, AtOnce, settled, settled_by, appended_by, appended, indented, is_recorded, recorded_by, recorded, start_recorded, end_recorded, pending_recorded, started, written, allowed_by, allowed, LeavesOut, LacksRoom, for_pair, for_text, behind_semicolon, to_hold}
use Rattle.swc_ecma_codegen_text_writer.proofs.Stays.{appended_stays, start_stays, indented_stays, started_stays}

pub writer_not_memory : {P : Type 0} → Writer ≡ OutOfMemory → P
writer_not_memory h = absurd (cc)

pub far_not_memory : {P : Type 0} → PositionTooLarge ≡ OutOfMemory → P
far_not_memory h = absurd (cc)

-- the next pair on the way to a sheet is the next on a longer way
pub leaves_on : (goal to new : Sheet) → IsPrefix goal.pairs to.pairs → LeavesOut goal new → LeavesOut to new
leaves_on goal to new k p =
    (p.0, p.1 ++ k.0, k.1 ∙ (ap (λ (z : List Pair). z ++ k.0) p.2 ∙ append_assoc new.pairs (pair_at p.0 new.place ∷ p.1) k.0))

pub lacks_on : (goal to a b : Sheet) → IsPrefix goal.pairs to.pairs → LacksRoom goal a b → LacksRoom to a b
lacks_on goal to a b k (for_pair p) = for_pair (leaves_on goal to b k p)
lacks_on goal to a b k (for_text h) = for_text h
lacks_on goal to a b k (behind_semicolon h) = behind_semicolon h
lacks_on goal to a b k (to_hold f g) = to_hold f g

-- ---- while lines are filled, texts and positions are held

appended_by_held : (l : Flow) (t : List ℕ) (s : Sheet) → fills_lines l ≡ true → (appended_by l t s).pairs ≡ s.pairs
unfolding appended_by
appended_by_held Flowing t s h = absurd (false≢true h)
appended_by_held (Filling max first held) t s h = refl
appended_by_held (Cutting done begun) t s h = absurd (false≢true h)

appended_held : (t : List ℕ) (s : Sheet) → fills_lines s.lines ≡ true → (appended t s).pairs ≡ s.pairs
unfolding appended
appended_held t s h = appended_by_held s.lines t s h

recorded_by_held : (l : Flow) (pos : BytePos) (s : Sheet) → fills_lines l ≡ true → (recorded_by l pos s).pairs ≡ s.pairs
unfolding recorded_by
recorded_by_held Flowing pos s h = absurd (false≢true h)
recorded_by_held (Filling max first held) pos s h = refl
recorded_by_held (Cutting done begun) pos s h = absurd (false≢true h)

recorded_held : (pos : BytePos) (s : Sheet) → fills_lines s.lines ≡ true → (recorded pos s).pairs ≡ s.pairs
unfolding recorded
recorded_held pos s h =
    elim (is_recorded pos s) as (λ b. (cond b (recorded_by s.lines pos s) s).pairs ≡ s.pairs) [ true ↦ recorded_by_held s.lines pos s h | false ↦ refl ]

start_held : (span : Option Span) (s : Sheet) → fills_lines s.lines ≡ true → (start_recorded span s).pairs ≡ s.pairs
unfolding start_recorded
start_held None s h = refl
start_held (Some span) s h = recorded_held span.lo s h

end_held : (span : Option Span) (s : Sheet) → fills_lines s.lines ≡ true → (end_recorded span s).pairs ≡ s.pairs
unfolding end_recorded
end_held None s h = refl
end_held (Some span) s h = recorded_held span.hi s h

pending_held : (pos : Option BytePos) (s : Sheet) → fills_lines s.lines ≡ true → (pending_recorded pos s).pairs ≡ s.pairs
unfolding pending_recorded
pending_held None s h = refl
pending_held (Some pos) s h = recorded_held pos (record s { pending = None }) h

started_held : (s : Sheet) → fills_lines s.lines ≡ true → (started s).pairs ≡ s.pairs
unfolding started indented
started_held s h =
    let there : Sheet = record (indented s.indentation s) { at_line_start = false } in
    elim s.at_line_start as (λ b. (cond b (pending_recorded s.pending (record (indented s.indentation s) { at_line_start = false })) s).pairs ≡ s.pairs) [
      | true ↦ pending_held s.pending there ((indented_stays s.indentation s).fills ∙ h) ∙ appended_held (repeat s.indentation s.indent_text) s h
      | false ↦ refl
    ]

pub written_held : (span : Option Span) (t : List ℕ) (s : Sheet) → fills_lines s.lines ≡ true → (written span t s).pairs ≡ s.pairs
unfolding written
written_held span [] s h = refl
written_held span (c ∷ cs) s h =
    let a : Sheet = started s in
    let b : Sheet = start_recorded span a in
    let f : fills_lines a.lines ≡ true = (started_stays s).fills ∙ h in
    let g : fills_lines b.lines ≡ true = (start_stays span a).fills ∙ f in
    end_held span (appended (c ∷ cs) b) ((appended_stays (c ∷ cs) b).fills ∙ g) ∙ (appended_held (c ∷ cs) b g ∙ (start_held span a f ∙ started_held s h))

-- where they aren't, an allowed break records nothing
allowed_by_bare : (l : Flow) (s : Sheet) → fills_lines l ≡ false → (allowed_by l s).pairs ≡ s.pairs
unfolding allowed_by
allowed_by_bare Flowing s h = refl
allowed_by_bare (Filling max first held) s h = absurd (false≢true (sym h))
allowed_by_bare (Cutting done begun) s h = refl

pub allowed_bare : (s : Sheet) → fills_lines s.lines ≡ false → (allowed s).pairs ≡ s.pairs
unfolding allowed
allowed_bare s h = allowed_by_bare s.lines s h
