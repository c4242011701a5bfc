-- Segments that go out.
use Rattle.std.proofs.Common.{◌≡◌, inl, inr, ℕ, ◌<◌, ◌^◌, min, Bool, true, false, List, [], ◌∷◌, refl, sym, ◌∙◌, ap, subst, arith, length, Option, Some, None, Result, Ok, Err, ◌||◌, IfSome}
use Rattle.std.proofs.lemmas.Bool.Decides.{nat_tests}
use Rattle.std.proofs.Math.Bool.{or-true}
use Rattle.swc_ecma_codegen_common.specs.declared.positions.BytePos.{BytePos}
use Rattle.swc_ecma_codegen_common.specs.declared.errors.Refusal.{Refusal}
use Rattle.swc_ecma_codegen_common.specs.declared.errors.Refusal.TheVariants.{Writer, OutOfMemory, UnsupportedNode, BadShape, NameOutOfTarget, PositionTooLarge, Failed}
use Rattle.swc_ecma_codegen_text_writer.specs.View.{HasReason, Reaches}
use Rattle.swc_ecma_codegen_text_writer.specs.declared.held.Note.{Note}
use Rattle.swc_ecma_codegen_text_writer.specs.declared.held.Held.{Held}
use Rattle.swc_ecma_codegen_text_writer.specs.Held.{notes_in, GoesOn}
use Rattle.swc_ecma_codegen_text_writer.specs.Notes.{segment_of}
use Rattle.swc_ecma_codegen_text_writer.proofs.Noting.{bare-released}
use Rattle.swc_ecma_codegen_text_writer.specs.Filling.{first_units, is_due}
use Rattle.swc_ecma_codegen_text_writer.specs.Sheet.{Sheet, Segment, no_segment, Flow, Flowing, Filling, fills_lines, released, noted, notes_released, text_in, ends_before, line_ended, segment_released, allowed_by, allowed, closed_by, allowed_at, AtOnce, AllowBreak, EndLines, effect, may_take_memory}

-- counts that stay at 2 ^ 32 tell whether a line end is due
pub due_counted : (max column units : ℕ) → max < 2 ^ 32 → is_due max (min column (2 ^ 32)) (min units (2 ^ 32)) ≡ is_due max column units
unfolding is_due
due_counted max column units h = grind (arith, nat_tests)

pub ends-first : (max : ℕ) (g : Segment) (s : Sheet) → ends_before max true g s ≡ false
unfolding ends_before
ends-first max g s = refl

pub ends-later : (max : ℕ) (g : Segment) (s : Sheet) → ends_before max false g s ≡ is_due max s.place.column (first_units (text_in g))
unfolding ends_before
ends-later max g s = refl

-- ---- a sheet but for what lines are made

abbrev flowing : Flow → Sheet → Sheet
flowing l s = record s { lines = l }

notes_flow : (xs : List (List ℕ × BytePos)) (l : Flow) (s : Sheet) → notes_released xs (flowing l s) ≡ flowing l (notes_released xs s)
unfolding notes_released noted released
notes_flow [] l s = refl
notes_flow (x ∷ xs) l s = notes_flow xs l (noted x.1 (released x.0 s))

line_flow : (b : Bool) (l : Flow) (s : Sheet) → line_ended b (flowing l s) ≡ flowing l (line_ended b s)
unfolding line_ended released
line_flow true l s = refl
line_flow false l s = refl

released_flow : (t : List ℕ) (l : Flow) (s : Sheet) → released t (flowing l s) ≡ flowing l (released t s)
unfolding released
released_flow t l s = refl

-- a segment goes out in the same way
pub segment_flow : (max : ℕ) (first : Bool) (g : Segment) (l : Flow) (s : Sheet) → segment_released max first g (flowing l s) ≡ flowing l (segment_released max first g s)
unfolding segment_released ends_before
segment_flow max first g l s =
    let b : Bool = ends_before max first g s in
    ap (λ z. released g.rest (notes_released g.noted z)) (line_flow b l s)
    ∙ (ap (released g.rest) (notes_flow g.noted l (line_ended b s)) ∙ released_flow g.rest l (notes_released g.noted (line_ended b s)))

-- ---- memory

filling_may : (s : Sheet) → fills_lines s.lines ≡ true → may_take_memory s ≡ true
filling_may s h = ap (λ z. s.takes_memory || z) h ∙ or-true s.takes_memory

-- where lines are filled, a call may ask for memory
pub may_hold : (e : Refusal) (s c : Sheet) → e ≡ OutOfMemory → fills_lines s.lines ≡ true → HasReason e s c
unfolding HasReason
may_hold e s c h k = subst (λ x. HasReason x s c) (sym h) (filling_may s k)

-- ---- what is held

pub none_some : (x : Option Held) (h : Held) → x ≡ None → x ≡ Some h → ⊥
none_some x h n s = let e : None ≡ Some h = sym n ∙ s in cc

-- no positions are held still
pub bare_more : (x : Option Held) (h : Held) (notes : List Note) → length (notes_in x) ≡ 0 → x ≡ Some h → notes ≡ h.segment.notes.items → length notes ≡ 0
bare_more x h notes b e n = ap length n ∙ (sym (ap (λ z. length (notes_in z)) e) ∙ b)

-- ---- from a sheet whose segment was taken

reason_lines : (e : Refusal) (l : Flow) (s c : Sheet) → fills_lines s.lines ≡ true → HasReason e (record s { lines = l }) c → HasReason e s c
unfolding HasReason
reason_lines Writer l s c f h = h
reason_lines OutOfMemory l s c f h = filling_may s f
reason_lines UnsupportedNode l s c f h = h
reason_lines BadShape l s c f h = h
reason_lines NameOutOfTarget l s c f h = h
reason_lines PositionTooLarge l s c f h = h
reason_lines Failed l s c f h = h

pub reaches_lines : (l : Flow) (goal s c : Sheet) (r : Result (Unit {0}) Refusal) → fills_lines s.lines ≡ true → Reaches goal (record s { lines = l }) c r → Reaches goal s c r
unfolding Reaches
reaches_lines l goal s c (Ok u) f h = h
reaches_lines l goal s c (Err e) f h = record {
  reason = reason_lines e l s c f h.reason;
  grows = h.grows;
  front = h.front;
  place = h.place;
  more_pairs = h.more_pairs;
  front_pairs = h.front_pairs;
  room = λ q. elim (h.room q) [ inl m ↦ inl (f, m.1) | inr p ↦ inr p ];
  same = h.same;
}

-- it goes out, and lines are filled on, or no more
pub allowed_sheet : (max : ℕ) (first : Bool) (g : Segment) (l : Flow) (s : Sheet) → s.semicolons ≡ AtOnce → s.lines ≡ Filling max first g → allowed_by (Filling max first g) (flowing l s) ≡ effect AllowBreak s
unfolding effect allowed_at allowed allowed_by
allowed_sheet max first g l s q h =
    ap (λ (z : Sheet). record z { lines = Filling max false no_segment }) (segment_flow max first g l s)
    ∙ sym (ap (λ x. allowed_at x s) q ∙ ap (λ x. allowed_by x s) h)

pub closed_sheet : (max : ℕ) (first : Bool) (g : Segment) (s : Sheet) → s.lines ≡ Filling max first g → segment_released max first g (flowing Flowing s) ≡ effect EndLines s
unfolding effect closed_by
closed_sheet max first g s h = segment_flow max first g Flowing s ∙ sym (ap (λ x. closed_by x s) h)

-- where lines aren't filled, both do nothing
pub allowed_not : (s : Sheet) → s.semicolons ≡ AtOnce → s.lines ≡ Flowing → s ≡ effect AllowBreak s
unfolding effect allowed_at allowed allowed_by
allowed_not s q h = sym (ap (λ x. allowed_at x s) q ∙ ap (λ x. allowed_by x s) h)

pub closed_not : (s : Sheet) → s.lines ≡ Flowing → s ≡ effect EndLines s
unfolding effect closed_by
closed_not s h = sym (ap (λ x. closed_by x s) h)

-- a segment goes out as it is
pub allowed_on : (max : ℕ) (first : Bool) (text : List ℕ) (ns : List Note) (x : Segment) (s : Sheet) → s.lines ≡ Filling max first (segment_of text ns) → length ns ≡ 0 → ends_before max first (segment_of text ns) s ≡ false → x ≡ no_segment → record (released text s) { lines = Filling max false x } ≡ allowed s
unfolding allowed allowed_by segment_released line_ended
allowed_on max first text ns x s h n e m =
    let g : Segment = segment_of text ns in
    let out : segment_released max first g s ≡ released text s = ap (λ b. released g.rest (notes_released g.noted (line_ended b s))) e ∙ sym (bare-released text ns s n) in
    ap (λ (y : Segment). record (released text s) { lines = Filling max false y }) m
    ∙ sym (ap (λ l. allowed_by l s) h ∙ ap (λ (z : Sheet). record z { lines = Filling max false no_segment }) out)

pub goes : (b : Bool) (x : Option Held) (h : Held) (s : Sheet) → x ≡ Some h → GoesOn b x s → GoesOn b (Some h) s
goes b x h s e g = subst (λ z. GoesOn b z s) e g

pub goes_back : (b : Bool) (x : Option Held) (h : Held) (s : Sheet) → x ≡ Some h → GoesOn b (Some h) s → GoesOn b x s
goes_back b x h s e g = subst (λ z. GoesOn b z s) (sym e) g

pub goes_nowhere : (b : Bool) (x : Option Held) (s : Sheet) → x ≡ None → GoesOn b x s → ⊥
unfolding GoesOn
goes_nowhere b x s e g = subst (λ z. GoesOn b z s) e g

pub some_goes : (r : Option Bool) (x : Option Held) (h : Held) (s : Sheet) → x ≡ Some h → IfSome r (λ b. GoesOn b (Some h) s) → IfSome r (λ b. GoesOn b x s)
some_goes None x h s e g = g
some_goes (Some b) x h s e g = goes_back b x h s e g

pub allowed_effect : (s : Sheet) → s.semicolons ≡ AtOnce → allowed s ≡ effect AllowBreak s
unfolding effect allowed_at
allowed_effect s q = sym (ap (λ x. allowed_at x s) q)
