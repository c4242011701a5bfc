-- What is out after a refusal, and why.
use Rattle.std.proofs.Common.{◌≡◌, ℕ, Bool, true, false, ◌||◌, cond, List, [], ◌∷◌, ◌++◌, Result, Ok, Err, OnErr, IfErr, IsOk, Some, refl, sym, ◌∙◌, ap, subst, arith, inl, inr, ◌&&◌}
use Rattle.std.specs.Str.{chars}
use Rattle.swc_ecma_codegen_common.specs.declared.errors.Refusal.{Refusal}
use Rattle.swc_ecma_codegen_common.specs.declared.errors.Refusal.TheVariants.{Writer, OutOfMemory, UnsupportedNode, BadShape, NameOutOfTarget, PositionTooLarge, Failed}
use Rattle.swc_ecma_codegen_grammar.specs.GapRules.{fuses, Separated}
use Rattle.std.proofs.lemmas.Bool.{or_cases, and_parts}
use Rattle.swc_ecma_codegen_text_writer.specs.Runs.{is_inner}
use Rattle.swc_ecma_codegen_text_writer.specs.Contents.{IsPrefix, Rises}
use Rattle.swc_ecma_codegen_text_writer.specs.Sheet.{Item, Space, Comment, Deeper, Sheet, effect, Causes, Refuses, earlier, stopped, begins_lines, fills_lines, may_take_memory}
use Rattle.swc_ecma_codegen_text_writer.proofs.Sheets.{front_refl, front_trans, effect_grows, effect_refused, effect_faults, effect_takes_memory, effect_keeps_positions, effect_whole}
use Rattle.swc_ecma_codegen_text_writer.proofs.Stays.{effect_begins, effect_fills}
use Rattle.swc_ecma_codegen_tokens.specs.declared.refusals.Unprintable.{Unprintable}
use Rattle.swc_ecma_codegen_tokens.specs.declared.refusals.Unprintable.TheVariants as unprintable
use Rattle.swc_ecma_codegen_tokens.specs.Run as run
use Rattle.swc_ecma_codegen_tokens.specs.Run.{State, Step, Guard, Token, Plain, Ends, Remake, Take, CommentText, put, run, IsRefused, Steps, steps_of, unprintable_in, refusal_of, Stops, Halts, reached, Plan, Follows, makes_text, deepens, HasCause, IsUnhindered}

-- ---- what steps do to a sheet

-- a fact of the sheet before, which no call changes, holds of the sheet after a step
put_sheet : {A : Type 0} (f : Sheet → A) → ((x : Item) (s : Sheet) → f (effect x s) ≡ f s) → (x : Step) (a : State) → f (put x a).sheet ≡ f a.sheet
unfolding put
put_sheet f k (Guard t) a = elim (fuses a.last (chars t)) as (λ b. f (cond b (record a { sheet = effect Space a.sheet; last = Separated }) a).sheet ≡ f a.sheet) [ true ↦ k Space a.sheet | false ↦ refl ]
put_sheet f k (Token kind x) a = k x a.sheet
put_sheet f k (Plain x) a = k x a.sheet
put_sheet f k (Ends tokens x) a = k x a.sheet
put_sheet f k (Remake due) a = refl
put_sheet f k (Take side at) a = refl
put_sheet f k (CommentText t) a = k (Comment t) a.sheet

pub run_sheet : {A : Type 0} (f : Sheet → A) → ((x : Item) (s : Sheet) → f (effect x s) ≡ f s) → (xs : List Step) (a : State) → f (run xs a).sheet ≡ f a.sheet
unfolding run
run_sheet f k [] a = refl
run_sheet f k (x ∷ xs) a = run_sheet f k xs (put x a) ∙ put_sheet f k x a

pub run_whole : (xs : List Step) (a : State) → (run xs a).sheet.whole ≡ a.sheet.whole
run_whole xs a = run_sheet (λ s. s.whole) effect_whole xs a

both_assoc : (a b c : Bool) → (a && (b && c)) ≡ ((a && b) && c)
both_assoc true b c = refl
both_assoc false b c = refl

put_grows : (x : Step) (a : State) → IsPrefix a.sheet.text (put x a).sheet.text
unfolding put
put_grows (Guard t) a = elim (fuses a.last (chars t)) as (λ b. IsPrefix a.sheet.text (cond b (record a { sheet = effect Space a.sheet; last = Separated }) a).sheet.text) [ true ↦ effect_grows Space a.sheet | false ↦ front_refl a.sheet.text ]
put_grows (Token kind x) a = effect_grows x a.sheet
put_grows (Plain x) a = effect_grows x a.sheet
put_grows (Ends tokens x) a = effect_grows x a.sheet
put_grows (Remake due) a = front_refl a.sheet.text
put_grows (Take side at) a = front_refl a.sheet.text
put_grows (CommentText t) a = effect_grows (Comment t) a.sheet

run_grows : (xs : List Step) (a : State) → IsPrefix a.sheet.text (run xs a).sheet.text
unfolding run
run_grows [] a = front_refl a.sheet.text
run_grows (x ∷ xs) a = front_trans _ _ _ (put_grows x a) (run_grows xs (put x a))

pub run_append : (xs ys : List Step) (a : State) → run (xs ++ ys) a ≡ run ys (run xs a)
unfolding run
run_append [] ys a = refl
run_append (x ∷ xs) ys a = run_append xs ys (put x a)

-- ---- steps at which lines neither begin nor end

abbrev pub is_inner_step : Step → Bool
is_inner_step (Token kind x) = is_inner x
is_inner_step (Plain x) = is_inner x
is_inner_step (Ends tokens x) = is_inner x
is_inner_step x = true

abbrev pub are_inner_steps : List Step → Bool
are_inner_steps [] = true
are_inner_steps (x ∷ xs) = is_inner_step x && are_inner_steps xs

pub inner_append : (xs ys : List Step) → are_inner_steps (xs ++ ys) ≡ (are_inner_steps xs && are_inner_steps ys)
inner_append [] ys = refl
inner_append (x ∷ xs) ys = ap (λ z. is_inner_step x && z) (inner_append xs ys) ∙ both_assoc (is_inner_step x) (are_inner_steps xs) (are_inner_steps ys)

pub put_fills : (x : Step) (a : State) → is_inner_step x ≡ true → fills_lines (put x a).sheet.lines ≡ fills_lines a.sheet.lines
unfolding put
put_fills (Guard t) a h =
    elim (fuses a.last (chars t)) as (λ b. fills_lines (cond b (record a { sheet = effect Space a.sheet; last = Separated }) a).sheet.lines ≡ fills_lines a.sheet.lines) [ true ↦ effect_fills Space a.sheet refl | false ↦ refl ]
put_fills (Token kind x) a h = effect_fills x a.sheet h
put_fills (Plain x) a h = effect_fills x a.sheet h
put_fills (Ends tokens x) a h = effect_fills x a.sheet h
put_fills (Remake due) a h = refl
put_fills (Take side at) a h = refl
put_fills (CommentText t) a h = effect_fills (Comment t) a.sheet refl

-- lines are filled after them where they were before
pub run_fills : (xs : List Step) (a : State) → are_inner_steps xs ≡ true → fills_lines (run xs a).sheet.lines ≡ fills_lines a.sheet.lines
unfolding run
run_fills [] a h = refl
run_fills (x ∷ xs) a h = let p = and_parts (is_inner_step x) (are_inner_steps xs) h in run_fills xs (put x a) p.1 ∙ put_fills x a p.0

-- ---- a refused step

refuses_front : {x : Item} {e : Refusal} (old new : Sheet) → Refuses x e old new → IsPrefix new.text (effect x old).text
refuses_front {x = x} old new (earlier h k eq) = let P : Sheet → Type 0 = λ s. IsPrefix s.text (effect x old).text in subst P (sym eq) (effect_grows x old)
refuses_front old new (stopped h k s) = s.front

refused_front : (x : Step) (e : Refusal) (a : State) (new : Sheet) → IsRefused x e a new → IsPrefix new.text (put x a).sheet.text
unfolding IsRefused put
refused_front (Guard t) e a new h = let P : Bool → Type 0 = λ b. IsPrefix new.text (cond b (record a { sheet = effect Space a.sheet; last = Separated }) a).sheet.text in subst P (sym h.0) (refuses_front a.sheet new h.1)
refused_front (Token kind x) e a new h = refuses_front a.sheet new h
refused_front (Plain x) e a new h = refuses_front a.sheet new h
refused_front (Ends tokens x) e a new h = refuses_front a.sheet new h
refused_front (Take side at) e a new h = absurd h
refused_front (CommentText t) e a new h = refuses_front a.sheet new h
refused_front (Remake due) e a new h = let P : Sheet → Type 0 = λ s. IsPrefix s.text a.sheet.text in subst P (sym h.2) (front_refl a.sheet.text)

stops_front : (xs : List Step) (e : Refusal) (a b : State) → Stops xs e a b → IsPrefix b.sheet.text (run xs a).sheet.text
unfolding run
stops_front xs e a b h =
    let there : State = run h.front a in
    let P : State → Type 0 = λ s. IsPrefix b.sheet.text s.sheet.text in
    subst P (sym (ap (λ zs. run zs a) h.split ∙ run_append h.front (h.step ∷ h.rest) a))
    (front_trans _ _ _ (refused_front h.step e there b.sheet h.refuses) (run_grows h.rest (put h.step there)))

-- what is out is a beginning of the text of the steps
pub follows_front : (p : Plan) (a b : State) (r : Result (Unit {0}) Refusal) → Follows p a b r → IsPrefix b.sheet.text (run (steps_of (p a.env)) a).sheet.text
unfolding Follows
follows_front p a b (Ok u) h = let P : State → Type 0 = λ s. IsPrefix b.sheet.text s.sheet.text in subst P h.1 (front_refl b.sheet.text)
follows_front p a b (Err e) (run.earlier h k eq) = let P : State → Type 0 = λ s. IsPrefix s.sheet.text (run (steps_of (p a.env)) a).sheet.text in subst P (sym eq) (run_grows (steps_of (p a.env)) a)
follows_front p a b (Err e) (run.stopped h) = stops_front (steps_of (p a.env)) e a b h
follows_front p a b (Err e) (reached r h k q eq) = let P : State → Type 0 = λ s. IsPrefix s.sheet.text (run (steps_of (p a.env)) a).sheet.text in subst P (sym eq) (front_refl (run (steps_of (p a.env)) a).sheet.text)

-- a refusal leaves its mark
halts_marked : (xs : Steps) (e : Refusal) (a b : State) → Halts xs e a b → b.failed ≡ true
halts_marked xs e a b (run.earlier h k eq) = ap (λ (s : State). s.failed) eq ∙ h
halts_marked xs e a b (run.stopped h) = ap (λ (s : State). s.failed) h.marked
halts_marked xs e a b (reached r h k q eq) = ap (λ (s : State). s.failed) eq

pub follows_marked : (p : Plan) (a b : State) (r : Result (Unit {0}) Refusal) → Follows p a b r → OnErr r (b.failed ≡ true)
unfolding Follows
follows_marked p a b (Ok u) h = tt
follows_marked p a b (Err e) h = halts_marked (p a.env) e a b h

-- ---- causes

or_left : (x y : Bool) → x ≡ true → (x || y) ≡ true
or_left true y h = refl
or_left false y h = absurd (cc)

or_right : (x y : Bool) → y ≡ true → (x || y) ≡ true
or_right true y h = refl
or_right false y h = h

-- a text that is made among the steps
remakes-append : (front : List Step) (due : Bool) (rest : List Step) → due ≡ true → makes_text (front ++ (Remake due ∷ rest)) ≡ true
unfolding makes_text
remakes-append [] due rest h = or_left due (makes_text rest) h
remakes-append (Remake b ∷ xs) due rest h = or_right b (makes_text (xs ++ (Remake due ∷ rest))) (remakes-append xs due rest h)
remakes-append (Guard t ∷ xs) due rest h = remakes-append xs due rest h
remakes-append (Token kind x ∷ xs) due rest h = or_right (begins_lines x) (makes_text (xs ++ (Remake due ∷ rest))) (remakes-append xs due rest h)
remakes-append (Plain x ∷ xs) due rest h = or_right (begins_lines x) (makes_text (xs ++ (Remake due ∷ rest))) (remakes-append xs due rest h)
remakes-append (Ends tokens x ∷ xs) due rest h = or_right (begins_lines x) (makes_text (xs ++ (Remake due ∷ rest))) (remakes-append xs due rest h)
remakes-append (Take side at ∷ xs) due rest h = remakes-append xs due rest h
remakes-append (CommentText t ∷ xs) due rest h = remakes-append xs due rest h

-- what some steps ask for, all ask for
asks-append : (front more : List Step) → makes_text front ≡ true → makes_text (front ++ more) ≡ true
unfolding makes_text
asks-append [] more h = absurd (cc)
asks-append (Remake due ∷ xs) more h = elim (or_cases due (makes_text xs) h) [ inl e ↦ or_left due (makes_text (xs ++ more)) e | inr e ↦ or_right due (makes_text (xs ++ more)) (asks-append xs more e) ]
asks-append (Guard t ∷ xs) more h = asks-append xs more h
asks-append (Token kind x ∷ xs) more h = elim (or_cases (begins_lines x) (makes_text xs) h) [ inl e ↦ or_left (begins_lines x) (makes_text (xs ++ more)) e | inr e ↦ or_right (begins_lines x) (makes_text (xs ++ more)) (asks-append xs more e) ]
asks-append (Plain x ∷ xs) more h = elim (or_cases (begins_lines x) (makes_text xs) h) [ inl e ↦ or_left (begins_lines x) (makes_text (xs ++ more)) e | inr e ↦ or_right (begins_lines x) (makes_text (xs ++ more)) (asks-append xs more e) ]
asks-append (Ends tokens x ∷ xs) more h = elim (or_cases (begins_lines x) (makes_text xs) h) [ inl e ↦ or_left (begins_lines x) (makes_text (xs ++ more)) e | inr e ↦ or_right (begins_lines x) (makes_text (xs ++ more)) (asks-append xs more e) ]
asks-append (Take side at ∷ xs) more h = asks-append xs more h
asks-append (CommentText t ∷ xs) more h = asks-append xs more h

-- where lines are filled behind a call, they were before, or it begins them
filled_by : (x : Item) (s : Sheet) (rest : Bool) → (fills_lines (effect x s).lines || rest) ≡ true → (fills_lines s.lines || (begins_lines x || rest)) ≡ true
filled_by x s rest h =
    elim (or_cases (fills_lines (effect x s).lines) rest h) [
      | inl e ↦ elim (or_cases (fills_lines s.lines) (begins_lines x) (effect_begins x s e))
          [ inl k ↦ or_left (fills_lines s.lines) _ k | inr k ↦ or_right (fills_lines s.lines) _ (or_left (begins_lines x) rest k) ]
      | inr e ↦ or_right (fills_lines s.lines) _ (or_right (begins_lines x) rest e)
    ]

guarded : (b : Bool) (t : List ℕ) (a : State) (rest : Bool) → (fills_lines (cond b (record a { sheet = effect Space a.sheet; last = Separated }) a).sheet.lines || rest) ≡ true → (fills_lines a.sheet.lines || rest) ≡ true
guarded true t a rest h = filled_by Space a.sheet rest h
guarded false t a rest h = h

put_filled : (x : Step) (xs : List Step) (a : State) → (fills_lines (put x a).sheet.lines || makes_text xs) ≡ true → (fills_lines a.sheet.lines || makes_text (x ∷ xs)) ≡ true
unfolding put makes_text
put_filled (Guard t) xs a h = guarded (fuses a.last (chars t)) t a (makes_text xs) h
put_filled (Token kind x) xs a h = filled_by x a.sheet (makes_text xs) h
put_filled (Plain x) xs a h = filled_by x a.sheet (makes_text xs) h
put_filled (Ends tokens x) xs a h = filled_by x a.sheet (makes_text xs) h
put_filled (Remake due) xs a h = elim (or_cases (fills_lines a.sheet.lines) (makes_text xs) h) [ inl e ↦ or_left _ _ e | inr e ↦ or_right (fills_lines a.sheet.lines) _ (or_right due (makes_text xs) e) ]
put_filled (Take side at) xs a h = h
put_filled (CommentText t) xs a h = filled_by (Comment t) a.sheet (makes_text xs) h

run_filled : (xs : List Step) (a : State) → fills_lines (run xs a).sheet.lines ≡ true → (fills_lines a.sheet.lines || makes_text xs) ≡ true
unfolding run
run_filled [] a h = or_left (fills_lines a.sheet.lines) (makes_text []) h
run_filled (x ∷ xs) a h = put_filled x xs a (run_filled xs (put x a) h)

-- a call that is refused after some steps
call_cause : (xs : Steps) (front : List Step) (step : Step) (rest : List Step) (x : Item) (e : Refusal) (a b : State) → steps_of xs ≡ front ++ (step ∷ rest) → (x ≡ Deeper → deepens step) → Refuses x e (run front a).sheet b.sheet → HasCause xs e a b
unfolding HasCause Causes
call_cause xs front step rest x Writer a b split deep (earlier h k eq) = absurd (cc)
call_cause xs front step rest x OutOfMemory a b split deep (earlier h k eq) = absurd (cc)
call_cause xs front step rest x UnsupportedNode a b split deep (earlier h k eq) = absurd (cc)
call_cause xs front step rest x BadShape a b split deep (earlier h k eq) = absurd (cc)
call_cause xs front step rest x NameOutOfTarget a b split deep (earlier h k eq) = absurd (cc)
call_cause xs front step rest x PositionTooLarge a b split deep (earlier h k eq) = absurd (cc)
call_cause xs front step rest x Failed a b split deep (earlier h k eq) = or_right a.failed a.sheet.refused (sym (run_sheet (λ s. s.refused) effect_refused front a) ∙ h)
call_cause xs front step rest x Writer a b split deep (stopped h k s) = let P : ℕ → Type 0 = λ n. Rises n b.sheet.faults in subst P (run_sheet (λ z. z.faults) effect_faults front a) k
call_cause xs front step rest x OutOfMemory a b split deep (stopped h k s) =
    let taken : (run front a).sheet.takes_memory ≡ a.sheet.takes_memory = run_sheet (λ z. z.takes_memory) effect_takes_memory front a in
    let P : Bool → Type 0 = λ z. (may_take_memory a.sheet || z) ≡ true in
    elim (or_cases (run front a).sheet.takes_memory (fills_lines (run front a).sheet.lines) k) [
      | inl e ↦ or_left (may_take_memory a.sheet) _ (or_left a.sheet.takes_memory (fills_lines a.sheet.lines) (sym taken ∙ e))
      | inr e ↦ elim (or_cases (fills_lines a.sheet.lines) (makes_text front) (run_filled front a e)) [
        | inl m ↦ or_left (may_take_memory a.sheet) _ (or_right a.sheet.takes_memory (fills_lines a.sheet.lines) m)
        | inr m ↦ subst P (ap makes_text (sym split)) (or_right (may_take_memory a.sheet) _ (asks-append front (step ∷ rest) m))
      ]
    ]
call_cause xs front step rest x UnsupportedNode a b split deep (stopped h k s) = absurd k
call_cause xs front step rest x BadShape a b split deep (stopped h k s) = absurd k
call_cause xs front step rest x NameOutOfTarget a b split deep (stopped h k s) = absurd k
call_cause xs front step rest x PositionTooLarge a b split deep (stopped h (inl k) s) = inl (record { front = front; step = step; rest = rest; split = split; is_deeper = deep k.0; at_limit = k.1 })
call_cause xs front step rest x PositionTooLarge a b split deep (stopped h (inr k) s) = inr (sym (run_sheet (λ z. z.keeps_positions) effect_keeps_positions front a) ∙ k.0, k.1)
call_cause xs front step rest x Failed a b split deep (stopped h k s) = absurd k

space_no_deeper : {P : Type 0} → ◌≡◌ {A = Item} Space Deeper → P
space_no_deeper h = absurd (cc)

comment_no_deeper : {P : Type 0} (t : List ℕ) → ◌≡◌ {A = Item} (Comment t) Deeper → P
comment_no_deeper t h = absurd (cc)

refused_cause : (xs : Steps) (front : List Step) (x : Step) (rest : List Step) (e : Refusal) (a b : State) → steps_of xs ≡ front ++ (x ∷ rest) → IsRefused x e (run front a) b.sheet → HasCause xs e a b
unfolding IsRefused deepens HasCause
refused_cause xs front (Guard t) rest e a b split h = call_cause xs front (Guard t) rest Space e a b split space_no_deeper h.1
refused_cause xs front (Token kind x) rest e a b split h = call_cause xs front (Token kind x) rest x e a b split (λ d. d) h
refused_cause xs front (Plain x) rest e a b split h = call_cause xs front (Plain x) rest x e a b split (λ d. d) h
refused_cause xs front (Ends tokens x) rest e a b split h = call_cause xs front (Ends tokens x) rest x e a b split (λ d. d) h
refused_cause xs front (Take side at) rest e a b split h = absurd h
refused_cause xs front (CommentText t) rest e a b split h = call_cause xs front (CommentText t) rest (Comment t) e a b split (comment_no_deeper t) h
refused_cause xs front (Remake due) rest e a b split h =
    let P : Refusal → Type 0 = λ z. HasCause xs z a b in
    subst P (sym h.0) (or_right (may_take_memory a.sheet) (makes_text (steps_of xs)) (ap makes_text split ∙ remakes-append front due rest h.1))

reached_cause : (xs : Steps) (r : Unprintable) (a b : State) → unprintable_in xs ≡ Some r → b ≡ record (run (steps_of xs) a) { failed = true } → HasCause xs (refusal_of r) a b
unfolding HasCause refusal_of
reached_cause xs unprintable.UnsupportedNode a b h k = record { refusal = h; made = k }
reached_cause xs unprintable.BadShape a b h k = record { refusal = h; made = k }
reached_cause xs unprintable.NameOutOfTarget a b h k = record { refusal = h; made = k }

halts_cause : (xs : Steps) (e : Refusal) (a b : State) → Halts xs e a b → HasCause xs e a b
unfolding HasCause
halts_cause xs e a b (run.earlier h k eq) = let P : Refusal → Type 0 = λ z. HasCause xs z a b in subst P (sym k) (or_left a.failed a.sheet.refused h)
halts_cause xs e a b (run.stopped h) = refused_cause xs h.front h.step h.rest e a b h.split h.refuses
halts_cause xs e a b (reached r h k q eq) = let P : Refusal → Type 0 = λ z. HasCause xs z a b in subst P (sym q) (reached_cause xs r a b k eq)

-- an emission is refused only for the cause that its error names
pub follows_cause : (p : Plan) (a b : State) (r : Result (Unit {0}) Refusal) → Follows p a b r → IfErr r (λ e. HasCause (p a.env) e a b)
unfolding Follows
follows_cause p a b (Ok u) h = tt
follows_cause p a b (Err e) h = halts_cause (p a.env) e a b h

-- ---- success

true_is_not_false : (b : Bool) → b ≡ true → b ≡ false → ⊥
true_is_not_false b h k = let z : true ≡ false = sym h ∙ k in absurd (cc)

unhindered_cause : (xs : Steps) (e : Refusal) (a b : State) → IsUnhindered xs a b → HasCause xs e a b → ⊥
unfolding HasCause
unhindered_cause xs Writer a b u h = omega (arith, h, u.no_fault, u.can_count)
unhindered_cause xs OutOfMemory a b u h = true_is_not_false _ h u.no_memory
unhindered_cause xs UnsupportedNode a b u h = let z = sym h.refusal ∙ u.printable in absurd (cc)
unhindered_cause xs BadShape a b u h = let z = sym h.refusal ∙ u.printable in absurd (cc)
unhindered_cause xs NameOutOfTarget a b u h = let z = sym h.refusal ∙ u.printable in absurd (cc)
unhindered_cause xs PositionTooLarge a b u (inl h) = u.within h
unhindered_cause xs PositionTooLarge a b u (inr h) = u.near h
unhindered_cause xs Failed a b u h = true_is_not_false _ h u.fresh

-- where nothing stands in its way, an emission is made
pub follows_succeeds : (p : Plan) (a b : State) (r : Result (Unit {0}) Refusal) → Follows p a b r → IsUnhindered (p a.env) a b → IsOk r
follows_succeeds p a b (Ok u) h k = refl
follows_succeeds p a b (Err e) h k = absurd (unhindered_cause (p a.env) e a b k (follows_cause p a b (Err e) h))

-- an emitter that was refused before answers so, and does nothing
pub follows_failed : (p : Plan) (a : State) → a.failed ≡ true → Follows p a a (Err Failed)
unfolding Follows
follows_failed p a h = run.earlier h refl refl
