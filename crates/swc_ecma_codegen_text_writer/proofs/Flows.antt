-- What texts and positions leave of a sheet, and sheets that fill no lines, where a text goes out at once.
use Rattle.std.proofs.Common.{◌≡◌, ℕ, Bool, true, false, List, ◌++◌, refl, cond}
use Rattle.std.proofs.lemmas.Bool.{true≢false}
use Rattle.swc_ecma_codegen_common.specs.declared.positions.BytePos.{BytePos}
use Rattle.swc_ecma_codegen_text_writer.specs.Places.{Place, after_text}
use Rattle.swc_ecma_codegen_text_writer.specs.Sheet.{Sheet, Pair, Flow, Flowing, Filling, Cutting, fills_lines, with_pair, released, noted, appended_by, appended, is_recorded, recorded_by, recorded, allowed_by, allowed, passed_on}

-- ---- what they leave, whatever lines are made

-- what depends neither on pairs nor on lines
recorded_by_leaves : {A : Type 0} (f : Sheet → A) → ((s : Sheet) (x : List Pair) (l : Flow) → f (record s { pairs = x; lines = l }) ≡ f s) → (l : Flow) (pos : BytePos) (s : Sheet) → f (recorded_by l pos s) ≡ f s
unfolding recorded_by noted
recorded_by_leaves f k Flowing pos s = k s (with_pair pos s.place s.pairs) s.lines
recorded_by_leaves f k (Filling max first held) pos s = k s s.pairs _
recorded_by_leaves f k (Cutting done begun) pos s = k s (with_pair pos s.place s.pairs) _

pub recorded_leaves : {A : Type 0} (f : Sheet → A) → ((s : Sheet) (x : List Pair) (l : Flow) → f (record s { pairs = x; lines = l }) ≡ f s) → (pos : BytePos) (s : Sheet) → f (recorded pos s) ≡ f s
unfolding recorded
recorded_leaves f k pos s = elim (is_recorded pos s) as (λ b. f (cond b (recorded_by s.lines pos s) s) ≡ f s) [ true ↦ recorded_by_leaves f k s.lines pos s | false ↦ refl ]

-- what depends neither on text, place nor lines
appended_by_leaves : {A : Type 0} (f : Sheet → A) → ((s : Sheet) (t : List ℕ) (p : Place) (l : Flow) → f (record s { text = t; place = p; lines = l }) ≡ f s) → (l : Flow) (t : List ℕ) (s : Sheet) → f (appended_by l t s) ≡ f s
unfolding appended_by released
appended_by_leaves f k Flowing t s = k s (s.text ++ t) (after_text t s.place) s.lines
appended_by_leaves f k (Filling max first held) t s = k s s.text s.place _
appended_by_leaves f k (Cutting done begun) t s = k s (s.text ++ t) (after_text t s.place) _

pub appended_leaves : {A : Type 0} (f : Sheet → A) → ((s : Sheet) (t : List ℕ) (p : Place) (l : Flow) → f (record s { text = t; place = p; lines = l }) ≡ f s) → (t : List ℕ) (s : Sheet) → f (appended t s) ≡ f s
unfolding appended
appended_leaves f k t s = appended_by_leaves f k s.lines t s

-- ---- where no lines are filled

-- a text goes out, for all that doesn't depend on lines
appended_by_out : {A : Type 0} (f : Sheet → A) → ((s : Sheet) (l : Flow) → f (record s { lines = l }) ≡ f s) → (l : Flow) (t : List ℕ) (s : Sheet) → fills_lines l ≡ false → f (appended_by l t s) ≡ f (released t s)
unfolding appended_by
appended_by_out f k Flowing t s h = refl
appended_by_out f k (Filling max first held) t s h = absurd (true≢false h)
appended_by_out f k (Cutting done begun) t s h = k (released t s) _

pub appended_out : {A : Type 0} (f : Sheet → A) → ((s : Sheet) (l : Flow) → f (record s { lines = l }) ≡ f s) → (t : List ℕ) (s : Sheet) → fills_lines s.lines ≡ false → f (appended t s) ≡ f (released t s)
unfolding appended
appended_out f k t s h = appended_by_out f k s.lines t s h

pub appended_text : (t : List ℕ) (s : Sheet) → fills_lines s.lines ≡ false → (appended t s).text ≡ s.text ++ t
unfolding released
appended_text t s h = appended_out (λ z. z.text) (λ z l. refl) t s h

pub appended_place : (t : List ℕ) (s : Sheet) → fills_lines s.lines ≡ false → (appended t s).place ≡ after_text t s.place
unfolding released
appended_place t s h = appended_out (λ z. z.place) (λ z l. refl) t s h

pub appended_pairs : (t : List ℕ) (s : Sheet) → fills_lines s.lines ≡ false → (appended t s).pairs ≡ s.pairs
unfolding released
appended_pairs t s h = appended_out (λ z. z.pairs) (λ z l. refl) t s h

-- a position is recorded
recorded_by_out : {A : Type 0} (f : Sheet → A) → ((s : Sheet) (l : Flow) → f (record s { lines = l }) ≡ f s) → (l : Flow) (pos : BytePos) (s : Sheet) → fills_lines l ≡ false → f (recorded_by l pos s) ≡ f (noted pos s)
unfolding recorded_by
recorded_by_out f k Flowing pos s h = refl
recorded_by_out f k (Filling max first held) pos s h = absurd (true≢false h)
recorded_by_out f k (Cutting done begun) pos s h = k (noted pos s) _

pub recorded_out : {A : Type 0} (f : Sheet → A) → ((s : Sheet) (l : Flow) → f (record s { lines = l }) ≡ f s) → (pos : BytePos) (s : Sheet) → fills_lines s.lines ≡ false → f (recorded pos s) ≡ f (cond (is_recorded pos s) (noted pos s) s)
unfolding recorded
recorded_out f k pos s h =
    elim (is_recorded pos s) as (λ b. f (cond b (recorded_by s.lines pos s) s) ≡ f (cond b (noted pos s) s)) [ true ↦ recorded_by_out f k s.lines pos s h | false ↦ refl ]

-- an allowed break does nothing
allowed_by_out : {A : Type 0} (f : Sheet → A) → ((s : Sheet) (l : Flow) → f (record s { lines = l }) ≡ f s) → (l : Flow) (s : Sheet) → fills_lines l ≡ false → f (allowed_by l s) ≡ f s
unfolding allowed_by
allowed_by_out f k Flowing s h = refl
allowed_by_out f k (Filling max first held) s h = absurd (true≢false h)
allowed_by_out f k (Cutting done begun) s h = k s _

pub allowed_out : {A : Type 0} (f : Sheet → A) → ((s : Sheet) (l : Flow) → f (record s { lines = l }) ≡ f s) → (s : Sheet) → fills_lines s.lines ≡ false → f (allowed s) ≡ f s
unfolding allowed
allowed_out f k s h = allowed_by_out f k s.lines s h

pub passed_out : {A : Type 0} (f : Sheet → A) → ((s : Sheet) (l : Flow) → f (record s { lines = l }) ≡ f s) → (b : Bool) (s : Sheet) → fills_lines s.lines ≡ false → f (passed_on b s) ≡ f s
unfolding passed_on
passed_out f k true s h = allowed_out f k s h
passed_out f k false s h = refl
