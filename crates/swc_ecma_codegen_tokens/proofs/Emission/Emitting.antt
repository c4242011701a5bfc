-- Steps that are made, and steps that are refused.
use Rattle.std.proofs.Common.{◌≡◌, Bool, true, false, cond, [], ◌∷◌, Result, Ok, Err, None, refl, sym, ◌∙◌, ap, subst}
use Rattle.std.specs.Str.{chars}
use Rattle.swc_ecma_codegen_common.specs.declared.errors.Refusal.{Refusal}
use Rattle.swc_ecma_codegen_common.specs.declared.errors.Refusal.TheVariants.{Failed}
use Rattle.swc_ecma_codegen_grammar.specs.GapRules.{fuses, Separated}
use Rattle.swc_ecma_codegen_text_writer.specs.Sheet.{Sheet, Space, effect}
use Rattle.swc_ecma_codegen_grammar.specs.SourceLines.{Lines}
use Rattle.swc_ecma_codegen_grammar.specs.CommentMaps.{Maps}
use Rattle.swc_ecma_codegen_tokens.specs.declared.refusals.Unprintable.{Unprintable}
use Rattle.swc_ecma_codegen_tokens.specs.Run.{Env, Plan, Part, State, Step, Guard, Token, Plain, Ends, Remake, Steps, next, IsRefused, Halts, earlier, stopped, reached, Follows, Emits, Does, at_maps, after_step, at_source, with_source, DoesTaking, Take, CommentText, run, steps_of, refusal_of, unprintable_in, put, step, refuse, nothing, when_minified}

-- an earlier refusal is not forgotten
pub put_failed : (x : Step) (s : State) → (put x s).failed ≡ s.failed
unfolding put
put_failed (Guard t) s = elim (fuses s.last (chars t)) as (λ b. (cond b (record s { sheet = effect Space s.sheet; last = Separated }) s).failed ≡ s.failed) [ true ↦ refl | false ↦ refl ]
put_failed (Token kind x) s = refl
put_failed (Plain x) s = refl
put_failed (Ends tokens x) s = refl
put_failed x s = refl

-- only the comments that are still to be taken may change
pub put_env : (x : Step) (s : State) → (put x s).env ≡ at_maps (after_step x s.env.maps) s.env
unfolding put after_step
put_env (Guard t) s = elim (fuses s.last (chars t)) as (λ b. (cond b (record s { sheet = effect Space s.sheet; last = Separated }) s).env ≡ at_maps s.env.maps s.env) [ true ↦ refl | false ↦ refl ]
put_env (Token kind x) s = refl
put_env (Plain x) s = refl
put_env (Ends tokens x) s = refl
put_env x s = refl

halts_later : (x : Step) {xs : Steps} {e : Refusal} {a b : State} → a.failed ≡ false → Halts xs e (put x a) b → Halts (next x xs) e a b
unfolding run steps_of unprintable_in
halts_later x {a = a} f (earlier h k eq) = absurd (let z : true ≡ false = sym h ∙ put_failed x a ∙ f in cc)
halts_later x f (stopped h) = stopped (record { front = x ∷ h.front; step = h.step; rest = h.rest; split = ap (λ zs. x ∷ zs) h.split; fresh = f; marked = h.marked; refuses = h.refuses })
halts_later x f (reached r h k eq m) = reached r f k eq m

-- a step that is made, and then the rest
pub follows_step : (x : Step) (rest : Plan) (a c : State) (r : Result (Unit {0}) Refusal) → a.failed ≡ false → Follows rest (put x a) c r → Follows (step x rest) a c r
unfolding Follows step run steps_of unprintable_in
follows_step x rest a c (Ok u) f h = let P : Env → Type 0 = λ v. (unprintable_in (rest v) ≡ None) × (c ≡ run (steps_of (rest v)) (put x a)) in subst P (put_env x a) h
follows_step x rest a c (Err e) f h = let P : Env → Type 0 = λ v. Halts (rest v) e (put x a) c in halts_later x f (subst P (put_env x a) h)

-- that a text is made anew changes nothing of where an emission stands
halts_remade : (due : Bool) {xs : Steps} {e : Refusal} {a b : State} → Halts xs e a b → Halts (next (Remake due) xs) e a b
unfolding run steps_of unprintable_in put
halts_remade due (earlier h k eq) = earlier h k eq
halts_remade due (stopped h) = stopped (record { front = Remake due ∷ h.front; step = h.step; rest = h.rest; split = ap (λ zs. Remake due ∷ zs) h.split; fresh = h.fresh; marked = h.marked; refuses = h.refuses })
halts_remade due (reached r h k eq m) = reached r h k eq m

pub follows_remade : (due : Bool) (rest : Plan) (a c : State) (r : Result (Unit {0}) Refusal) → Follows rest a c r → Follows (step (Remake due) rest) a c r
unfolding Follows step run steps_of unprintable_in put after_step
follows_remade due rest a c (Ok u) h = h
follows_remade due rest a c (Err e) h = halts_remade due h

-- a step that is made
pub emits_step : (x : Step) (a b : State) → a.failed ≡ false → b ≡ put x a → (rest : Plan) (c : State) (r : Result (Unit {0}) Refusal) → Follows rest b c r → Follows (step x rest) a c r
emits_step x a b f eq rest c r h = follows_step x rest a c r f (let P : State → Type 0 = λ s. Follows rest s c r in subst P eq h)

-- a plan of an emitter that was refused before
pub emits_failed : (p : Plan) (a : State) → a.failed ≡ true → Follows p a a (Err Failed)
unfolding Follows
emits_failed p a h = earlier h refl refl

-- a step that is refused
pub emits_refused : (x : Step) (e : Refusal) (a b : State) → a.failed ≡ false → b ≡ record a { sheet = b.sheet; failed = true } → IsRefused x e a b.sheet → (rest : Plan) → Follows (step x rest) a b (Err e)
unfolding Follows step run steps_of
emits_refused x e a b f eq h rest = stopped (record { front = []; step = x; rest = steps_of (rest (at_maps (after_step x a.env.maps) a.env)); split = refl; fresh = f; marked = eq; refuses = h })

-- a node that can't be printed
pub emits_refusal : (r : Unprintable) (e : Refusal) (a b : State) → a.failed ≡ false → e ≡ refusal_of r → b ≡ record a { failed = true } → (rest : Plan) → Follows (refuse r rest) a b (Err e)
unfolding Follows refuse unprintable_in steps_of run
emits_refusal r e a b h eq k rest = reached r h refl eq k

-- nothing is left
pub emits_nothing : (a : State) → Follows nothing a a (Ok tt)
unfolding Follows nothing run steps_of unprintable_in
emits_nothing a = (refl, refl)

-- what a plan follows depends only on its steps
pub follows_same : (p q : Plan) (a c : State) (r : Result (Unit {0}) Refusal) → p a.env ≡ q a.env → Follows q a c r → Follows p a c r
unfolding Follows
follows_same p q a c (Ok u) e h = let P : Steps → Type 0 = λ xs. (unprintable_in xs ≡ None) × (c ≡ run (steps_of xs) a) in subst P (sym e) h
follows_same p q a c (Err x) e h = let P : Steps → Type 0 = λ xs. Halts xs x a c in subst P (sym e) h

pub minified_same : (part other : Part) (rest : Plan) (env : Env) → env.config.minify ≡ true → when_minified part other rest env ≡ part rest env
unfolding when_minified
minified_same part other rest env h = ap (λ m. cond m (part rest env) (other rest env)) h

pub pretty_same : (part other : Part) (rest : Plan) (env : Env) → env.config.minify ≡ false → when_minified part other rest env ≡ other rest env
unfolding when_minified
pretty_same part other rest env h = ap (λ m. cond m (part rest env) (other rest env)) h

-- ---- wherever lines end

-- what a step makes of where an emission stands
pub put_source : (x : Step) (lines : Lines) (maps : Maps) (s : State) → with_source lines (after_step x maps) (put x s) ≡ put x (with_source lines maps s)
unfolding put with_source after_step
put_source (Guard t) lines maps s = elim (fuses s.last (chars t)) as (λ b. with_source lines maps (cond b (record s { sheet = effect Space s.sheet; last = Separated }) s) ≡ cond b (record (with_source lines maps s) { sheet = effect Space s.sheet; last = Separated }) (with_source lines maps s)) [ true ↦ refl | false ↦ refl ]
put_source (Token kind x) lines maps s = refl
put_source (Plain x) lines maps s = refl
put_source (Ends tokens x) lines maps s = refl
put_source (Remake due) lines maps s = refl
put_source (Take side at) lines maps s = refl
put_source (CommentText t) lines maps s = refl

-- a step that takes no comments
abbrev pub is_taking : Step → Bool
is_taking (Take side at) = true
is_taking x = false

untaken : (x : Step) (maps : Maps) → is_taking x ≡ false → after_step x maps ≡ maps
unfolding after_step
untaken (Guard t) maps h = refl
untaken (Token kind x) maps h = refl
untaken (Plain x) maps h = refl
untaken (Ends tokens x) maps h = refl
untaken (Remake due) maps h = refl
untaken (Take side at) maps h = absurd (cc)
untaken (CommentText t) maps h = refl

pub put_lines : (x : Step) (lines : Lines) (maps : Maps) (s : State) → is_taking x ≡ false → with_source lines maps (put x s) ≡ put x (with_source lines maps s)
put_lines x lines maps s h = ap (λ z. with_source lines z (put x s)) (sym (untaken x maps h)) ∙ put_source x lines maps s

pub refused_lines : (x : Step) (e : Refusal) (a : State) (new : Sheet) (lines : Lines) (maps : Maps) → IsRefused x e a new → IsRefused x e (with_source lines maps a) new
unfolding IsRefused with_source
refused_lines (Guard t) e a new lines maps h = h
refused_lines (Token kind x) e a new lines maps h = h
refused_lines (Plain x) e a new lines maps h = h
refused_lines (Ends tokens x) e a new lines maps h = h
refused_lines (Remake due) e a new lines maps h = h
refused_lines (Take side at) e a new lines maps h = h
refused_lines (CommentText t) e a new lines maps h = h

-- a part is done by what another is done by
pub does_by : (p q : Part) (a b : State) (r : Result (Unit {0}) Refusal) → ((lines : Lines) (maps : Maps) (s : Result (Unit {0}) Refusal) → Emits p (with_source lines maps a) (with_source lines maps b) s → Emits q (with_source lines maps a) (with_source lines maps b) s) → Does p a b r → Does q a b r
does_by p q a b (Ok u) f h = λ lines maps. f lines maps (Ok u) (h lines maps)
does_by p q a b (Err e) f h = λ lines maps. f lines maps (Err e) (h lines maps)

-- what is done wherever lines end is done where they end so
pub does_here : (lines : Lines) (maps : Maps) (p : Part) (a b : State) (r : Result (Unit {0}) Refusal) → Does p a b r → Emits p (at_source lines maps a) (at_source lines maps b) r
unfolding with_source
does_here lines maps p a b (Ok u) h = h lines maps
does_here lines maps p a b (Err e) h = h lines maps

-- what takes comments does so where these are there
pub takes_here : (lines : Lines) (before left : Maps) (p : Part) (a b : State) (r : Result (Unit {0}) Refusal) → DoesTaking p before left a b r → Emits p (at_source lines before a) (at_source lines left b) r
unfolding with_source
takes_here lines before left p a b (Ok u) h = h lines
takes_here lines before left p a b (Err e) h = h lines

pub does_step : (x : Step) (a b : State) → is_taking x ≡ false → a.failed ≡ false → b ≡ put x a → Does (step x) a b (Ok tt)
unfolding with_source
does_step x a b n f eq = λ lines maps. emits_step x (with_source lines maps a) (with_source lines maps b) f (ap (with_source lines maps) eq ∙ put_lines x lines maps a n)

-- an emitter that was refused before
pub does_failed : (p : Plan) (a : State) → a.failed ≡ true → (lines : Lines) (maps : Maps) → Follows p (with_source lines maps a) (with_source lines maps a) (Err Failed)
unfolding with_source
does_failed p a h lines maps = emits_failed p (with_source lines maps a) h

-- a node that can't be printed
pub does_refusal : (r : Unprintable) (e : Refusal) (a b : State) → a.failed ≡ false → e ≡ refusal_of r → b ≡ record a { failed = true } → Does (refuse r) a b (Err e)
unfolding with_source
does_refusal r e a b h eq k = λ lines maps. emits_refusal r e (with_source lines maps a) (with_source lines maps b) h eq (ap (with_source lines maps) k)
