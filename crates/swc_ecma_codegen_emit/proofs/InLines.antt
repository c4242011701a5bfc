-- A part whose steps stand in lines of a greatest length: what holds of it without them holds of it so.
use Rattle.std.proofs.Common.{◌≡◌, ℕ, Bool, true, false, if◌then◌else◌, List, refl, sym, ap, ◌∙◌, subst, inl, inr, Some, None, Result, Ok, Err, OnOk}
use Rattle.std.proofs.lemmas.Bool.{cases_Bool, false_from_ne_true, true_from_ne_false}
use Rattle.swc_ecma_codegen_common.specs.declared.errors.Refusal.{Refusal}
use Rattle.swc_ecma_codegen_common.specs.declared.errors.Refusal.TheVariants as refusals
use Rattle.swc_ecma_codegen_grammar.specs.Comments.{AreClosed, remarks_of, texts_of}
use Rattle.swc_ecma_codegen_grammar.specs.Phrases.{Phrase, is_possible, names_in}
use Rattle.swc_ecma_codegen_text_writer.specs.Runs.{FillsLines}
use Rattle.swc_ecma_codegen_text_writer.specs.Sheet.{Sheet, Semicolons, AtOnce, HoldsNone, HoldsOne, Flowing, settled_by, settled, fills_lines}
use Rattle.swc_ecma_codegen_text_writer.proofs.Semicolons.{out_keeps}
use Rattle.swc_ecma_codegen_tokens.specs.declared.refusals.Unprintable.{Unprintable}
use Rattle.swc_ecma_codegen_tokens.specs.declared.refusals.Unprintable.TheVariants.{UnsupportedNode, BadShape, NameOutOfTarget}
use Rattle.swc_ecma_codegen_tokens.specs.Ascii.{other_texts, may_keep_other, AddsAscii, WantsAscii}
use Rattle.swc_ecma_codegen_tokens.specs.Calls.{calls_of}
use Rattle.swc_ecma_codegen_tokens.specs.Named.{RecordsNames, PlacesNames}
use Rattle.swc_ecma_codegen_tokens.specs.Run.{Env, after_step, Part, State, Step, Steps, Follows, HasCause, is_bounded, nothing, run, step, steps_of, spoken, taken_in, unprintable_in}
use Rattle.swc_ecma_codegen_tokens.specs.Scripts.{value_strings, AddsSafe}
use Rattle.swc_ecma_codegen_tokens.specs.Targets.{is_out}
use Rattle.swc_ecma_codegen_tokens.specs.Words.{begin_lines, end_lines, in_lines}
use Rattle.swc_ecma_codegen_tokens.specs.Written.{IsLineEnd, IsNew, IsAtMargin, AddsReading, taken_remarks, holds_one}
use Rattle.swc_ecma_codegen_tokens.proofs.Emission.Emitting.{follows_same}
use Rattle.swc_ecma_codegen_tokens.proofs.Filling.Filled.{filled, steps_filled, printed_filled, FillsPart}
use Rattle.swc_ecma_codegen_tokens.proofs.Filling.FilledRecords.{filled_names}
use Rattle.swc_ecma_codegen_tokens.proofs.Filling.FilledTexts.{lined_steps, lined_not_out, lined_ascii, lined_safe, lined_tells, lined_remarks, lined_others}
use Rattle.swc_ecma_codegen_tokens.proofs.Emission.Fronts.{are_inner_steps, follows_cause}
use Rattle.swc_ecma_codegen_tokens.proofs.Emission.PartSteps.{steps_alone}
use Rattle.swc_ecma_codegen_tokens.proofs.Reading.Phrased.{goes_on, PrintsAt}
use Rattle.swc_ecma_codegen_tokens.proofs.Filling.Shapes.{Shape, unbroken_at}

-- what holds at the end of an emission
pub on_end : {A B : Type 0} (r : Result (Unit {0}) Refusal) → (A → B) → OnOk r A → OnOk r B
on_end (Ok u) f h = f h
on_end (Err e) f h = tt

-- The steps of a part stand in lines of a greatest length, and are otherwise those of a part within. No semicolon is held back at their
-- end, unless the settings leave the last one out.
pub record InLines (i : Shape) (env : Env) (p : Part) (f : Phrase) : Type 0 where
  pub max : ℕ
  pub inner : Part
  pub same : p nothing env ≡ in_lines max inner nothing env
  pub prints : PrintsAt i env inner f
  pub bounded : is_bounded env ≡ true
  pub ends : is_possible f ≡ true → is_out env.config f ≡ false → env.config.omit_last_semi ≡ false → (s : State) → holds_one (run (steps_of (inner nothing env)) s).sheet.semicolons ≡ false

module _ {i : Shape} (p : Part) (f : Phrase) (env : Env) (h : InLines i env p f) (w : is_possible f ≡ true) where
  pub lines_steps : is_out env.config f ≡ false → steps_of (p nothing env) ≡ filled h.max (steps_of (h.inner nothing env))
  lines_steps o = ap steps_of h.same ∙ lined_steps h.max h.inner f env h.prints w o

  lines_inner : is_out env.config f ≡ false → are_inner_steps (steps_of (h.inner nothing env)) ≡ true
  lines_inner o = let b = h.prints.where_possible w o env.maps in ap are_inner_steps (steps_alone b.writes) ∙ b.writes.inner

  -- whether it comes to a name that can't be written
  pub lines_printable : is_out env.config f ≡ false → unprintable_in (p nothing env) ≡ None
  unfolding in_lines begin_lines end_lines step unprintable_in nothing after_step
  lines_printable o = ap unprintable_in h.same ∙ goes_on (h.prints.where_possible w o env.maps).writes (end_lines nothing)

  pub lines_out : is_out env.config f ≡ true → unprintable_in (p nothing env) ≡ Some NameOutOfTarget
  unfolding in_lines begin_lines end_lines step unprintable_in after_step
  lines_out o = ap unprintable_in h.same ∙ h.prints.where_out w o env.maps (end_lines nothing)

  pub lines_not_out : unprintable_in (p nothing env) ≡ None → is_out env.config f ≡ false
  lines_not_out end = lined_not_out h.max h.inner f env h.prints w (ap unprintable_in (sym h.same) ∙ end)

  lines_remarks : is_out env.config f ≡ false → taken_remarks p env ≡ taken_remarks h.inner env
  lines_remarks o = ap (λ z. remarks_of (taken_in (steps_of z) env.maps)) h.same ∙ lined_remarks h.max h.inner f env h.prints w o

  pub lines_tell : is_out env.config f ≡ false → spoken (steps_of (p nothing env)) ≡ texts_of (taken_in (steps_of (p nothing env)) env.maps)
  lines_tell o =
      let P : Steps → Type 0 = λ z. spoken (steps_of z) ≡ texts_of (taken_in (steps_of z) env.maps) in
      subst P (sym h.same) (lined_tells h.max h.inner f env h.prints w o)

  pub lines_keep : is_out env.config f ≡ false → may_keep_other f ≡ false → other_texts (steps_of (p nothing env)) ≡ spoken (steps_of (p nothing env))
  lines_keep o none =
      let P : Steps → Type 0 = λ z. other_texts (steps_of z) ≡ spoken (steps_of z) in
      subst P (sym h.same) (lined_others h.max h.inner f env h.prints w o none)

module _ {i : Shape} (p : Part) (f : Phrase) (a b : State) (h : InLines i a.env p f) (w : is_possible f ≡ true) where
  -- it goes by the steps in lines
  goes_so : (r : Result (Unit {0}) Refusal) → Follows (p nothing) a b r → Follows (in_lines h.max h.inner nothing) a b r
  goes_so r k = follows_same (in_lines h.max h.inner nothing) (p nothing) a b r (sym h.same) k

  pub lines_ascii : (r : Result (Unit {0}) Refusal) → WantsAscii a → Follows (p nothing) a b r → OnOk r (AddsAscii (other_texts (steps_of (p nothing a.env))) a.sheet.text b.sheet.text)
  lines_ascii r s k =
      let P : Steps → Type 0 = λ z. AddsAscii (other_texts (steps_of z)) a.sheet.text b.sheet.text in
      on_end r (subst P (sym h.same)) (lined_ascii h.max h.inner f a b r h.prints w s (goes_so r k))

  pub lines_safe : (r : Result (Unit {0}) Refusal) → a.env.config.inline_script ≡ true → fills_lines a.sheet.lines ≡ false → Follows (p nothing) a b r → OnOk r (AddsSafe (value_strings (steps_of (p nothing a.env))) a.sheet.text b.sheet.text)
  lines_safe r e n k =
      let P : Steps → Type 0 = λ z. AddsSafe (value_strings (steps_of z)) a.sheet.text b.sheet.text in
      on_end r (subst P (sym h.same)) (lined_safe h.max h.inner f a b r h.prints w e n (goes_so r k))

  pub lines_names : (r : Result (Unit {0}) Refusal) → a.sheet.keeps_positions ≡ true → a.sheet.lines ≡ Flowing → IsLineEnd a.sheet.line_end → Follows (p nothing) a b r → OnOk r (RecordsNames a.env.config (names_in f) a.sheet b.sheet)
  unfolding Follows
  lines_names (Ok u) keeps flows e k =
      let o = lines_not_out p f a.env h w k.0 in
      let P : State → Type 0 = λ z. RecordsNames a.env.config (names_in f) a.sheet z.sheet in
      subst P (sym (k.1 ∙ ap (λ z. run z a) (lines_steps p f a.env h w o))) (filled_names h.max h.inner f a e flows h.prints w o keeps)
  lines_names (Err x) keeps flows e k = tt

  -- its lines are filled
  pub lines_fill : (r : Result (Unit {0}) Refusal) → a.sheet.lines ≡ Flowing → IsLineEnd a.sheet.line_end → Follows (p nothing) a b r → OnOk r (FillsLines h.max (calls_of (steps_of (h.inner nothing a.env)) a.last) a.sheet (run (steps_of (h.inner nothing a.env)) a).sheet b.sheet)
  unfolding Follows
  lines_fill (Ok u) flows e k =
      let o = lines_not_out p f a.env h w k.0 in
      let steps : List Step = steps_of (h.inner nothing a.env) in
      let P : State → Type 0 = λ z. FillsLines h.max (calls_of steps a.last) a.sheet (run steps a).sheet z.sheet in
      subst P (sym (k.1 ∙ ap (λ z. run z a) (lines_steps p f a.env h w o))) (steps_filled h.max steps a (lines_inner p f a.env h w o) e flows)
  lines_fill (Err x) flows e k = tt

module _ (anywhere : Bool) (p : Part) (f : Phrase) (a b : State) (h : InLines (unbroken_at anywhere) a.env p f) (w : is_possible f ≡ true) (n : IsNew a) (flows : a.sheet.lines ≡ Flowing) (margin : anywhere ≡ false → IsAtMargin a) (closed : AreClosed a.env.maps) where
  lines_part : (r : Result (Unit {0}) Refusal) → Follows (p nothing) a b r → OnOk r (FillsPart h.max h.inner f a b.sheet)
  lines_part r k = printed_filled h.max anywhere h.inner f a b r n flows margin closed h.prints w (goes_so p f a b h w r k)

  pub lines_read : (r : Result (Unit {0}) Refusal) → Follows (p nothing) a b r → OnOk r (AddsReading a.env.config f (taken_remarks p a.env) a.sheet b.sheet)
  unfolding Follows
  lines_read (Ok u) k =
      let o = lines_not_out p f a.env h w k.0 in
      subst (λ z. AddsReading a.env.config f z a.sheet b.sheet) (sym (lines_remarks p f a.env h w o)) (lines_part (Ok u) k).reads
  lines_read (Err x) k = tt

  pub lines_place : (r : Result (Unit {0}) Refusal) → a.sheet.keeps_positions ≡ true → Follows (p nothing) a b r → OnOk r (PlacesNames a.env.config f (taken_remarks p a.env) a.sheet b.sheet)
  unfolding Follows
  lines_place (Ok u) keeps k =
      let o = lines_not_out p f a.env h w k.0 in
      subst (λ z. PlacesNames a.env.config f z a.sheet b.sheet) (sym (lines_remarks p f a.env h w o)) ((lines_part (Ok u) k).places keeps)
  lines_place (Err x) keeps k = tt

-- ---- the last semicolon

-- none is held back once it was written
settled_by_none : (q : Semicolons) (s : Sheet) → q ≡ s.semicolons → holds_one (settled_by q s).semicolons ≡ false
unfolding settled_by holds_one
settled_by_none AtOnce s e = ap holds_one (sym e)
settled_by_none HoldsNone s e = ap holds_one (sym e)
settled_by_none (HoldsOne span allows) s e = ap holds_one (out_keeps span allows s)

pub settled_none : (s : Sheet) → holds_one (settled s).semicolons ≡ false
settled_none s = settled_by_none s.semicolons s refl

-- and then nothing comes of it
settled_by_same : (q : Semicolons) (s : Sheet) → holds_one q ≡ false → settled_by q s ≡ s
unfolding settled_by holds_one
settled_by_same AtOnce s e = refl
settled_by_same HoldsNone s e = refl
settled_by_same (HoldsOne span allows) s e = let z : true ≡ false = e in absurd (cc)

pub settled_same : (s : Sheet) → holds_one s.semicolons ≡ false → settled s ≡ s
settled_same s e = settled_by_same s.semicolons s e

-- none is held back where none is without lines
pub lines_settle : {i : Shape} (p : Part) (f : Phrase) (a : State) (h : InLines i a.env p f) → is_possible f ≡ true → a.sheet.lines ≡ Flowing → IsLineEnd a.sheet.line_end → unprintable_in (p nothing a.env) ≡ None → a.env.config.omit_last_semi ≡ false → settled (run (steps_of (p nothing a.env)) a).sheet ≡ (run (steps_of (p nothing a.env)) a).sheet
unfolding Follows
lines_settle p f a h w flows e end wanted =
    let o = lines_not_out p f a.env h w end in
    let b : State = run (steps_of (p nothing a.env)) a in
    let same = (lines_fill p f a b h w (Ok tt) flows e (end, refl)).same in
    settled_same b.sheet (ap (λ (z : Sheet). holds_one z.semicolons) same ∙ h.ends w o wanted a)

-- ---- what ends where a name is out of the target

-- a part is printed exactly where all names of its phrase can be written
pub record Ends (env : Env) (p : Part) (f : Phrase) : Type 0 where
  pub printable : is_out env.config f ≡ false → unprintable_in (p nothing env) ≡ None
  pub out : is_out env.config f ≡ true → unprintable_in (p nothing env) ≡ Some NameOutOfTarget

pub ends_so : (p : Part) (f : Phrase) (env : Env) → Ends env p f → unprintable_in (p nothing env) ≡ (if is_out env.config f then Some NameOutOfTarget else None)
ends_so p f env h = elim (cases_Bool (is_out env.config f)) [
  | inl o ↦ h.out o ∙ ap (λ b. if b then Some NameOutOfTarget else None) (sym o)
  | inr o ↦ h.printable o ∙ ap (λ b. if b then Some NameOutOfTarget else None) (sym o)
]

pub ends_in_target : (p : Part) (f : Phrase) (env : Env) → Ends env p f → unprintable_in (p nothing env) ≡ None → is_out env.config f ≡ false
ends_in_target p f env h k = false_from_ne_true (is_out env.config f) (λ o. let z = sym k ∙ h.out o in absurd (cc))

only_out : (p : Part) (f : Phrase) (env : Env) (r : Unprintable) → Ends env p f → unprintable_in (p nothing env) ≡ Some r → r ≡ NameOutOfTarget
only_out p f env r h k = elim (cases_Bool (is_out env.config f)) [
  | inl o ↦ let z = sym k ∙ h.out o in cc
  | inr o ↦ let z = sym k ∙ h.printable o in absurd (cc)
]

pub goes_in_target : (p : Part) (f : Phrase) (a b : State) → Ends a.env p f → Follows (p nothing) a b (Ok tt) → is_out a.env.config f ≡ false
unfolding Follows
goes_in_target p f a b h k = ends_in_target p f a.env h k.0

pub goes_out_of_target : (p : Part) (f : Phrase) (a b : State) → Ends a.env p f → Follows (p nothing) a b (Err refusals.NameOutOfTarget) → is_out a.env.config f ≡ true
unfolding HasCause
goes_out_of_target p f a b h k =
    let c = (follows_cause (p nothing) a b (Err refusals.NameOutOfTarget) k).refusal in
    true_from_ne_false (is_out a.env.config f) (λ o. let z = sym c ∙ h.printable o in absurd (cc))

pub goes_shaped : (p : Part) (f : Phrase) (a b : State) → Ends a.env p f → Follows (p nothing) a b (Err refusals.BadShape) → ⊥
unfolding HasCause
goes_shaped p f a b h k = let z = only_out p f a.env BadShape h (follows_cause (p nothing) a b (Err refusals.BadShape) k).refusal in cc

pub goes_supported : (p : Part) (f : Phrase) (a b : State) → Ends a.env p f → Follows (p nothing) a b (Err refusals.UnsupportedNode) → ⊥
unfolding HasCause
goes_supported p f a b h k = let z = only_out p f a.env UnsupportedNode h (follows_cause (p nothing) a b (Err refusals.UnsupportedNode) k).refusal in cc
