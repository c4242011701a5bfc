-- An emission with a greatest line length reads as the same without.
use Rattle.std.proofs.Common.{◌≡◌, ℕ, Bool, true, false, cond, List, [], ◌∷◌, ◌++◌, None, Result, Ok, Err, OnOk, refl, sym, ap, ◌∙◌, subst, append_assoc}
use Rattle.std.specs.Str.{chars}
use Rattle.std.proofs.lemmas.Bool.{and_parts, and_from, false_from_ne_true}
use Rattle.swc_ecma_codegen_common.specs.declared.errors.Refusal.{Refusal}
use Rattle.swc_ecma_codegen_grammar.specs.Comments.{AreClosed}
use Rattle.swc_ecma_codegen_grammar.specs.GapRules.{PreviousToken, Separated, fuses}
use Rattle.swc_ecma_codegen_grammar.specs.Phrases.{Phrase, is_possible}
use Rattle.swc_ecma_codegen_text_writer.specs.Filling.{text_of}
use Rattle.swc_ecma_codegen_text_writer.specs.Runs.{is_inner, are_inner, within_lines, cut_from_here, FillsLines}
use Rattle.swc_ecma_codegen_text_writer.specs.Sheet.{Sheet, Item, Space, BeginLines, EndLines, Flowing, effect, effects}
use Rattle.swc_ecma_codegen_text_writer.proofs.Twins.{lines_filled}
use Rattle.swc_ecma_codegen_tokens.specs.Calls.{calls_by, last_by, calls_of}
use Rattle.swc_ecma_codegen_tokens.specs.Run.{Part, State, Step, Guard, Token, Plain, Ends, Remake, Take, CommentText, Env, put, run, step, steps_of, unprintable_in, nothing, Follows, after_step, after_plain}
use Rattle.swc_ecma_codegen_tokens.specs.Named.{AllStand, PlacesNames}
use Rattle.swc_ecma_codegen_tokens.specs.Settings.{settings_of}
use Rattle.swc_ecma_codegen_tokens.specs.Targets.{is_out}
use Rattle.swc_ecma_codegen_tokens.specs.Words.{begin_lines, end_lines, in_lines}
use Rattle.swc_ecma_codegen_tokens.specs.Written.{Spot, IsLineEnd, IsNew, IsAtMargin, AddsReading, taken_remarks}
use Rattle.swc_ecma_codegen_tokens.proofs.Filling.CutReads.{cut_reads}
use Rattle.swc_ecma_codegen_tokens.proofs.Emission.Fronts.{is_inner_step, are_inner_steps}
use Rattle.swc_ecma_codegen_tokens.proofs.Emission.PartSteps.{steps_alone, steps_of_more}
use Rattle.swc_ecma_codegen_tokens.proofs.Reading.Phrased.{PrintsOn, PrintsAt, enters_new, new_at_rest, taken_closed}
use Rattle.swc_ecma_codegen_tokens.proofs.Filling.CutStanding.{AllHere, each_holds}
use Rattle.swc_ecma_codegen_tokens.proofs.Filling.FilledNames.{filled_name}
use Rattle.swc_ecma_codegen_tokens.proofs.Reading.Standing.{reached_first}
use Rattle.swc_ecma_codegen_tokens.proofs.Reading.Printed.{remarks_by}
use Rattle.swc_ecma_codegen_tokens.proofs.Filling.Shapes.{Shape, unbroken_at}

-- ---- the calls of steps

-- the last token after steps
unfoldable last_of : List Step → PreviousToken → PreviousToken
last_of [] last = last
last_of (x ∷ xs) last = last_of xs (last_by x last)

effects_append : (xs ys : List Item) (s : Sheet) → effects (xs ++ ys) s ≡ effects ys (effects xs s)
unfolding effects
effects_append [] ys s = refl
effects_append (x ∷ xs) ys s = effects_append xs ys (effect x s)

put_last : (x : Step) (s : State) → (put x s).last ≡ last_by x s.last
unfolding put last_by
put_last (Guard t) s = elim (fuses s.last (chars t)) as (λ b. (cond b (record s { sheet = effect Space s.sheet; last = Separated }) s).last ≡ cond b Separated s.last) [ true ↦ refl | false ↦ refl ]
put_last (Token kind x) s = refl
put_last (Plain x) s = refl
put_last (Ends tokens x) s = refl
put_last (Remake due) s = refl
put_last (Take side at) s = refl
put_last (CommentText t) s = refl

put_calls : (x : Step) (s : State) → (put x s).sheet ≡ effects (calls_by x s.last) s.sheet
unfolding put calls_by effects
put_calls (Guard t) s = elim (fuses s.last (chars t)) as (λ b. (cond b (record s { sheet = effect Space s.sheet; last = Separated }) s).sheet ≡ effects (cond b (Space ∷ []) []) s.sheet) [ true ↦ refl | false ↦ refl ]
put_calls (Token kind x) s = refl
put_calls (Plain x) s = refl
put_calls (Ends tokens x) s = refl
put_calls (Remake due) s = refl
put_calls (Take side at) s = refl
put_calls (CommentText t) s = refl

-- what steps make of a sheet their calls do
pub run_calls : (xs : List Step) (s : State) → (run xs s).sheet ≡ effects (calls_of xs s.last) s.sheet
unfolding run calls_of effects
run_calls [] s = refl
run_calls (x ∷ xs) s =
    run_calls xs (put x s)
    ∙ ap (λ k. effects (calls_of xs k) (put x s).sheet) (put_last x s)
    ∙ ap (effects (calls_of xs (last_by x s.last))) (put_calls x s)
    ∙ sym (effects_append (calls_by x s.last) (calls_of xs (last_by x s.last)) s.sheet)

calls_append : (xs ys : List Step) (k : PreviousToken) → calls_of (xs ++ ys) k ≡ calls_of xs k ++ calls_of ys (last_of xs k)
unfolding calls_of last_of
calls_append [] ys k = refl
calls_append (x ∷ xs) ys k = ap (λ z. calls_by x k ++ z) (calls_append xs ys (last_by x k)) ∙ sym (append_assoc (calls_by x k) (calls_of xs (last_by x k)) (calls_of ys (last_of xs (last_by x k))))

inner_both : (xs ys : List Item) → are_inner xs ≡ true → are_inner ys ≡ true → are_inner (xs ++ ys) ≡ true
unfolding are_inner
inner_both [] ys h k = k
inner_both (x ∷ xs) ys h k = let p = and_parts (is_inner x) (are_inner xs) h in and_from (is_inner x) (are_inner (xs ++ ys)) p.0 (inner_both xs ys p.1 k)

inner_one : (x : Item) → is_inner x ≡ true → are_inner (x ∷ []) ≡ true
unfolding are_inner
inner_one x h = and_from (is_inner x) true h refl

step_inner : (x : Step) (k : PreviousToken) → is_inner_step x ≡ true → are_inner (calls_by x k) ≡ true
unfolding calls_by are_inner
step_inner (Guard t) k h = elim (fuses k (chars t)) as (λ b. are_inner (cond b (Space ∷ []) []) ≡ true) [ true ↦ refl | false ↦ refl ]
step_inner (Token kind x) k h = inner_one x h
step_inner (Plain x) k h = inner_one x h
step_inner (Ends tokens x) k h = inner_one x h
step_inner (Remake due) k h = refl
step_inner (Take side at) k h = refl
step_inner (CommentText t) k h = refl

pub calls_inner : (xs : List Step) (k : PreviousToken) → are_inner_steps xs ≡ true → are_inner (calls_of xs k) ≡ true
unfolding calls_of are_inner
calls_inner [] k h = refl
calls_inner (x ∷ xs) k h = let p = and_parts (is_inner_step x) (are_inner_steps xs) h in inner_both (calls_by x k) (calls_of xs (last_by x k)) (step_inner x k p.0) (calls_inner xs (last_by x k) p.1)

-- ---- lines that are filled

-- the same steps, between the begin and the end of lines
abbrev pub filled : ℕ → List Step → List Step
filled max xs = Plain (BeginLines max) ∷ (xs ++ (Plain EndLines ∷ []))

filled_calls : (max : ℕ) (xs : List Step) (k : PreviousToken) → calls_of (filled max xs) k ≡ within_lines max (calls_of xs k)
unfolding calls_of calls_by last_by after_plain within_lines
filled_calls max xs k = ap (λ z. BeginLines max ∷ z) (calls_append xs (Plain EndLines ∷ []) k)

-- What these steps make of a sheet, with a greatest line length and without.
pub steps_filled : (max : ℕ) (xs : List Step) (a : State) → are_inner_steps xs ≡ true → IsLineEnd a.sheet.line_end → a.sheet.lines ≡ Flowing →
    FillsLines max (calls_of xs a.last) a.sheet (run xs a).sheet (run (filled max xs) a).sheet
steps_filled max xs a i e o =
    let calls : List Item = calls_of xs a.last in
    let filled_sheet : effects (within_lines max calls) a.sheet ≡ (run (filled max xs) a).sheet = ap (λ z. effects z a.sheet) (sym (filled_calls max xs a.last)) ∙ sym (run_calls (filled max xs) a) in
    subst (λ z. FillsLines max calls a.sheet z (run (filled max xs) a).sheet) (sym (run_calls xs a))
    (subst (λ z. FillsLines max calls a.sheet (effects calls a.sheet) z) filled_sheet (lines_filled max calls a.sheet (calls_inner xs a.last i) o e))

pub steps_fill : (max : ℕ) (xs : List Step) (a : State) → are_inner_steps xs ≡ true → IsNew a → a.sheet.lines ≡ Flowing →
    FillsLines max (calls_of xs a.last) a.sheet (run xs a).sheet (run (filled max xs) a).sheet
steps_fill max xs a i n o = steps_filled max xs a i n.line_end o

-- the same state, whose sheet is cut from here
abbrev cut_state : State → State
cut_state a = record a { sheet = cut_from_here a.sheet }

cut_new : (a : State) → IsNew a → IsNew (cut_state a)
cut_new a n = record { nothing_written = n.nothing_written; nothing_held = n.nothing_held; indent_text = n.indent_text; line_end = n.line_end; flowing = refl; leaves_out = n.leaves_out }

-- with a greatest line length the steps of a part read as without
pub filled_reads : (max : ℕ) (anywhere : Bool) (p : Part) (f : Phrase) (a : State) → IsNew a → a.sheet.lines ≡ Flowing → (anywhere ≡ false → IsAtMargin a) → AreClosed a.env.maps → PrintsAt (unbroken_at anywhere) a.env p f → is_possible f ≡ true → is_out a.env.config f ≡ false →
    AddsReading a.env.config f (taken_remarks p a.env) a.sheet (run (filled max (steps_of (p nothing a.env))) a).sheet
unfolding nothing
filled_reads max anywhere p f a n flows m closed prints w o =
    let h = prints.where_possible w o a.env.maps in
    let steps : List Step = h.writes.steps in
    let same : steps_of (p nothing a.env) ≡ steps = steps_alone h.writes in
    let c : State = cut_state a in
    let l = h.writes.lays c (new_at_rest c (cut_new a n)) (taken_closed steps a.env.maps closed) in
    let fills = steps_fill max steps a h.writes.inner n flows in
    let reads = cut_reads anywhere a.env.config f h.tokens c (run steps c) h.generated (cut_new a n) m l fills.done fills.begun refl (ap (λ (z : Sheet). z.lines) (run_calls steps c) ∙ fills.cut) fills.first fills.parts fills.segments in
    let P : List Step → Type 0 = λ z. AddsReading a.env.config f (remarks_by z a.env) a.sheet (run (filled max z) a).sheet in
    subst P (sym same) (record {
      added = fills.first ++ text_of a.sheet.line_end fills.parts;
      is_added = fills.text;
      reading = reads.reading;
    })

-- where positions are kept, each name stands there as its own token, with its position where it begins
pub filled_places : (max : ℕ) (anywhere : Bool) (p : Part) (f : Phrase) (a : State) → IsNew a → a.sheet.lines ≡ Flowing → (anywhere ≡ false → IsAtMargin a) → AreClosed a.env.maps → PrintsAt (unbroken_at anywhere) a.env p f → is_possible f ≡ true → is_out a.env.config f ≡ false → a.sheet.keeps_positions ≡ true →
    PlacesNames a.env.config f (taken_remarks p a.env) a.sheet (run (filled max (steps_of (p nothing a.env))) a).sheet
unfolding nothing
filled_places max anywhere p f a n flows m closed prints w o k =
    let h = prints.where_possible w o a.env.maps in
    let steps : List Step = h.writes.steps in
    let same : steps_of (p nothing a.env) ≡ steps = steps_alone h.writes in
    let c : State = cut_state a in
    let new = cut_new a n in
    let l = h.writes.lays c (new_at_rest c new) (taken_closed steps a.env.maps closed) in
    let fills = steps_fill max steps a h.writes.inner n flows in
    let cut = ap (λ (z : Sheet). z.lines) (run_calls steps c) ∙ fills.cut in
    let r = reached_first (unbroken_at anywhere) c new (new_at_rest c new) (enters_new anywhere c new m) in
    let there : AllHere a.env.config c.sheet (run steps c).sheet [] f h.tokens =
    subst (λ z. AllHere a.env.config c.sheet (run z c).sheet [] f h.tokens) same (h.placed.stands c c [] r k (taken_closed (steps_of (p nothing a.env)) a.env.maps closed)) in
    let reads = cut_reads anywhere a.env.config f h.tokens c (run steps c) h.generated new m l fills.done fills.begun refl cut fills.first fills.parts fills.segments in
    let P : List Step → Type 0 = λ z. PlacesNames a.env.config f (remarks_by z a.env) a.sheet (run (filled max z) a).sheet in
    let stand : AllStand a.env.config a.sheet (run (filled max steps) a).sheet [] f h.tokens =
    each_holds (λ us t x s. filled_name max a.env.config a.sheet (run steps c).sheet (run (filled max steps) a).sheet fills.done fills.begun us t x n.line_end cut fills.released fills.pairs s) (settings_of a.env.config) [] f h.tokens there in
    subst P (sym same) (record {
      reads = record {
        added = fills.first ++ text_of a.sheet.line_end fills.parts;
        is_added = fills.text;
        reading = reads.reading;
      };
      stand = subst (λ z. AllStand a.env.config a.sheet (run (filled max steps) a).sheet [] f z) (sym reads.tokens) stand;
    })

-- the steps of a part in lines
pub lined_steps : {v w : Spot} {i : Shape} (max : ℕ) (p : Part) (f : Phrase) (env : Env) → PrintsOn v w i env p f → is_possible f ≡ true → is_out env.config f ≡ false → steps_of (in_lines max p nothing env) ≡ filled max (steps_of (p nothing env))
unfolding in_lines begin_lines end_lines step steps_of nothing after_step
lined_steps max p f env prints w o =
    let h = (prints.where_possible w o env.maps).writes in
    ap (λ z. Plain (BeginLines max) ∷ steps_of z) (h.is_steps (end_lines nothing))
    ∙ ap (λ z. Plain (BeginLines max) ∷ z) (steps_of_more h.steps _)
    ∙ ap (λ z. filled max z) (sym (steps_alone h))

-- where they come to no name that can't be written
pub lined_not_out : {v w : Spot} {i : Shape} (max : ℕ) (p : Part) (f : Phrase) (env : Env) → PrintsOn v w i env p f → is_possible f ≡ true → unprintable_in (in_lines max p nothing env) ≡ None → is_out env.config f ≡ false
unfolding in_lines begin_lines end_lines step after_step unprintable_in
lined_not_out max p f env prints w end = false_from_ne_true (is_out env.config f) (λ o. let z = sym end ∙ prints.where_out w o env.maps (end_lines nothing) in absurd (cc))

-- What comes of a part with a greatest line length: it reads as without, each name stands there with its position, and its lines are filled.
pub record FillsPart (max : ℕ) (p : Part) (f : Phrase) (a : State) (new : Sheet) : Type 0 where
  pub reads : AddsReading a.env.config f (taken_remarks p a.env) a.sheet new
  pub places : a.sheet.keeps_positions ≡ true → PlacesNames a.env.config f (taken_remarks p a.env) a.sheet new
  pub fills : FillsLines max (calls_of (steps_of (p nothing a.env)) a.last) a.sheet (run (steps_of (p nothing a.env)) a).sheet new

pub printed_filled : (max : ℕ) (anywhere : Bool) (p : Part) (f : Phrase) (a b : State) (r : Result (Unit {0}) Refusal) → IsNew a → a.sheet.lines ≡ Flowing → (anywhere ≡ false → IsAtMargin a) → AreClosed a.env.maps → PrintsAt (unbroken_at anywhere) a.env p f → is_possible f ≡ true →
    Follows (in_lines max p nothing) a b r → OnOk r (FillsPart max p f a b.sheet)
unfolding Follows nothing
printed_filled max anywhere p f a b (Ok u) n flows m closed prints w k =
    let o = lined_not_out max p f a.env prints w k.0 in
    let h = prints.where_possible w o a.env.maps in
    let steps : List Step = steps_of (p nothing a.env) in
    let same : run (filled max steps) a ≡ b = ap (λ z. run z a) (sym (lined_steps max p f a.env prints w o)) ∙ sym k.1 in
    let P : State → Type 0 = λ z. FillsPart max p f a z.sheet in
    subst P same (record {
      reads = filled_reads max anywhere p f a n flows m closed prints w o;
      places = λ v. filled_places max anywhere p f a n flows m closed prints w o v;
      fills = steps_fill max steps a (ap are_inner_steps (steps_alone h.writes) ∙ h.writes.inner) n flows;
    })
printed_filled max anywhere p f a b (Err e) n flows m closed prints w k = tt
