-- Where there are no comments, at all or at a position, what takes them does nothing, also where an earlier call was refused.
use Rattle.std.proofs.Common.{◌≡◌, ℕ, Bool, true, false, cond, ◌==◌, ◌-◌, List, [], ◌∷◌, Option, Some, None, Result, Ok, Err, refl, sym, ap, ◌∙◌, subst}
use Rattle.std.specs.Prelude.{is_some}
use Rattle.std.proofs.lemmas.Bool.{true≢false}
use Rattle.swc_ecma_codegen_common.specs.declared.errors.Refusal.{Refusal}
use Rattle.swc_ecma_codegen_common.specs.declared.positions.BytePos.{BytePos}
use Rattle.swc_ecma_codegen_common.specs.declared.positions.Span.{Span}
use Rattle.swc_ecma_codegen_grammar.specs.CommentMaps.{Maps, listed, without_leading, without_trailing}
use Rattle.swc_ecma_codegen_grammar.specs.ListFormats.{no_intervening_comments}
use Rattle.swc_ecma_codegen_grammar.specs.declared.comments.Comment.{Comment}
use Rattle.swc_ecma_codegen_grammar.specs.Comments.{Side, Leading, Trailing, comments_at, taken_out, no_maps, maps_in}
use Rattle.swc_ecma_codegen_tokens.specs.Lists.{child_comments}
use Rattle.swc_ecma_codegen_tokens.specs.Run.{Env, Part, Plan, State, Step, Take, Steps, next, Halts, earlier, stopped, reached, Follows, DoesTaking, with_source, after_step, at_maps, maps_after, put, run, step, steps_of, unprintable_in}
use Rattle.swc_ecma_codegen_tokens.specs.Words.{comments, take_comments, leading_comments, trailing_comments, comments_before_end}
use Rattle.swc_ecma_codegen_tokens.proofs.Commenting.CommentSteps.{none_taken}
use Rattle.swc_ecma_codegen_tokens.proofs.Emission.Emitting.{follows_same, follows_step, put_env}
use Rattle.swc_ecma_codegen_grammar.proofs.CommentMarks.{without_none}

-- Where there are no comments, a part does nothing.
abbrev pub IsSilent : Part → Type 0
IsSilent part = (rest : Plan) (a c : State) (r : Result (Unit {0}) Refusal) → a.env.maps ≡ no_maps → Follows rest a c r → Follows (part rest) a c r

-- ---- a step that leaves everything as it is

halted : (x : Step) {xs : Steps} {e : Refusal} {a b : State} (ys : Steps) → a.failed ≡ true → Halts xs e a b → Halts (next x ys) e a b
halted x ys f (earlier h k eq) = earlier h k eq
halted x ys f (stopped h) = absurd (true≢false (sym f ∙ h.fresh))
halted x ys f (reached r h k eq m) = absurd (true≢false (sym f ∙ h))

pub idle : (failed : Bool) (x : Step) (rest : Plan) (a c : State) (r : Result (Unit {0}) Refusal) → a.failed ≡ failed → put x a ≡ a → Follows rest a c r → Follows (step x rest) a c r
unfolding Follows step run steps_of unprintable_in
idle false x rest a c r f same h = follows_step x rest a c r f (let P : State → Type 0 = λ s. Follows rest s c r in subst P (sym same) h)
idle true x rest a c (Ok u) f same h =
    let P : State → Type 0 = λ s. (unprintable_in (rest s.env) ≡ None) × (c ≡ run (steps_of (rest s.env)) s) in
    let Q : Env → Type 0 = λ v. (unprintable_in (rest v) ≡ None) × (c ≡ run (steps_of (rest v)) (put x a)) in
    subst Q (put_env x a) (subst P (sym same) h)
idle true x rest a c (Err e) f same h = halted x (rest (at_maps (after_step x a.env.maps) a.env)) f h

-- ---- what takes comments

-- whether comments stand at a position
unfoldable has_at : Side → ℕ → Maps → Bool
has_at Leading at maps = is_some (maps.leading at)
has_at Trailing at maps = is_some (maps.trailing at)

listed_none : (o : Option (List Comment)) → is_some o ≡ false → listed o ≡ []
unfolding listed
listed_none None none = refl
listed_none (Some cs) none = absurd (true≢false none)

at_none : (side : Side) (at : ℕ) (maps : Maps) → has_at side at maps ≡ false → comments_at side at maps ≡ []
unfolding comments_at has_at
at_none Leading at maps none = listed_none (maps.leading at) none
at_none Trailing at maps none = listed_none (maps.trailing at) none

-- taking them out changes nothing where there are none
out_none : (side : Side) (at : ℕ) (maps : Maps) → has_at side at maps ≡ false → taken_out side at maps ≡ maps
unfolding taken_out without_leading without_trailing has_at
out_none Leading at maps none = ap (λ entries. record maps { leading = entries }) (sym (without_none at maps.leading none))
out_none Trailing at maps none = ap (λ entries. record maps { trailing = entries }) (sym (without_none at maps.trailing none))

taken_idly : (side : Side) (at : ℕ) (a : State) → has_at side at a.env.maps ≡ false → put (Take side at) a ≡ a
unfolding put
taken_idly side at a none = ap (λ maps. record a { env = at_maps maps a.env }) (out_none side at a.env.maps none)

none_written : (side : Side) (prefix_space : Bool) (at : ℕ) (rest : Plan) (env : Env) → has_at side at env.maps ≡ false → take_comments side prefix_space at rest env ≡ step (Take side at) rest env
unfolding take_comments comments
none_written side prefix_space at rest env none = ap (λ (cs : List Comment). step (Take side at) (comments prefix_space cs rest) env) (at_none side at env.maps none)

silent_at : (side : Side) (prefix_space : Bool) (at : ℕ) (rest : Plan) (a c : State) (r : Result (Unit {0}) Refusal) → has_at side at a.env.maps ≡ false → Follows rest a c r → Follows (take_comments side prefix_space at rest) a c r
silent_at side prefix_space at rest a c r none h =
    follows_same (take_comments side prefix_space at rest) (step (Take side at) rest) a c r (none_written side prefix_space at rest a.env none)
    (idle a.failed (Take side at) rest a c r refl (taken_idly side at a none) h)

-- ---- none stand at one position

pub leading_at : (pos : BytePos) (rest : Plan) (a c : State) (r : Result (Unit {0}) Refusal) → is_some (a.env.maps.leading pos.0) ≡ false → Follows rest a c r → Follows (leading_comments pos rest) a c r
unfolding leading_comments has_at
leading_at pos rest a c r none h = elim (pos.0 == 0) as (λ z. Follows (cond z rest (take_comments Leading false pos.0 rest)) a c r) [ true ↦ h | false ↦ silent_at Leading false pos.0 rest a c r none h ]

pub trailing_at : (prefix_space : Bool) (pos : BytePos) (rest : Plan) (a c : State) (r : Result (Unit {0}) Refusal) → is_some (a.env.maps.trailing pos.0) ≡ false → Follows rest a c r → Follows (trailing_comments prefix_space pos rest) a c r
unfolding trailing_comments has_at
trailing_at prefix_space pos rest a c r none h = elim (pos.0 == 0) as (λ z. Follows (cond z rest (take_comments Trailing prefix_space pos.0 rest)) a c r) [ true ↦ h | false ↦ silent_at Trailing prefix_space pos.0 rest a c r none h ]

pub before_end_at : (pos : BytePos) (rest : Plan) (a c : State) (r : Result (Unit {0}) Refusal) → is_some (a.env.maps.leading (pos.0 - 1)) ≡ false → Follows rest a c r → Follows (comments_before_end pos rest) a c r
unfolding comments_before_end has_at
before_end_at pos rest a c r none h = elim (pos.0 == 0) as (λ z. Follows (cond z rest (take_comments Leading false (pos.0 - 1) rest)) a c r) [ true ↦ h | false ↦ silent_at Leading false (pos.0 - 1) rest a c r none h ]

-- ---- there are none at all

pub silent_leading : (pos : BytePos) → IsSilent (leading_comments pos)
silent_leading pos rest a c r none h = leading_at pos rest a c r (ap (λ maps. is_some (maps.leading pos.0)) none) h

pub silent_trailing : (prefix_space : Bool) (pos : BytePos) → IsSilent (trailing_comments prefix_space pos)
silent_trailing prefix_space pos rest a c r none h = trailing_at prefix_space pos rest a c r (ap (λ maps. is_some (maps.trailing pos.0)) none) h

pub silent_before_end : (pos : BytePos) → IsSilent (comments_before_end pos)
silent_before_end pos rest a c r none h = before_end_at pos rest a c r (ap (λ maps. is_some (maps.leading (pos.0 - 1))) none) h

pub silent_child : (format : ℕ) (line : Bool) (place : Span) → IsSilent (child_comments format line place)
unfolding child_comments
silent_child format line place rest a c r none h = elim (no_intervening_comments format) as (λ z. Follows (cond z rest (cond line rest (trailing_comments false place.hi rest))) a c r) [
  | true ↦ h
  | false ↦ elim line as (λ z. Follows (cond z rest (trailing_comments false place.hi rest)) a c r) [ true ↦ h | false ↦ silent_trailing false place.hi rest a c r none h ]
]

-- ---- a call that finds none

pub leading_unasked : {C : Type 0} (m : C → Maps) (notes : Option C) (pos : BytePos) (a : State) → is_some ((maps_in m notes).leading pos.0) ≡ false → DoesTaking (leading_comments pos) (maps_in m notes) (maps_in m notes) a a (Ok tt)
unfolding with_source
leading_unasked m notes pos a h = λ lines rest c r f. leading_at pos rest (with_source lines (maps_in m notes) a) c r h f

pub trailing_unasked : {C : Type 0} (m : C → Maps) (notes : Option C) (prefix_space : Bool) (pos : BytePos) (a : State) → is_some ((maps_in m notes).trailing pos.0) ≡ false → DoesTaking (trailing_comments prefix_space pos) (maps_in m notes) (maps_in m notes) a a (Ok tt)
unfolding with_source
trailing_unasked m notes prefix_space pos a h = λ lines rest c r f. trailing_at prefix_space pos rest (with_source lines (maps_in m notes) a) c r h f

pub end_unasked : {C : Type 0} (m : C → Maps) (notes : Option C) (pos : BytePos) (a : State) → is_some ((maps_in m notes).leading (pos.0 - 1)) ≡ false → DoesTaking (comments_before_end pos) (maps_in m notes) (maps_in m notes) a a (Ok tt)
unfolding with_source
end_unasked m notes pos a h = λ lines rest c r f. before_end_at pos rest (with_source lines (maps_in m notes) a) c r h f

-- ---- there are none afterwards

step_none : (x : Step) → after_step x no_maps ≡ no_maps
unfolding after_step
step_none (Take side at) = none_taken side at
step_none x = refl

pub none_after : (xs : List Step) → maps_after xs no_maps ≡ no_maps
unfolding maps_after
none_after [] = refl
none_after (x ∷ xs) = ap (maps_after xs) (step_none x) ∙ none_after xs
