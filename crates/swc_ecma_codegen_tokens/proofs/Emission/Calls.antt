-- Calls of a writer, as steps of an emission.
use Rattle.std.proofs.Common.{inl, inr, ◌≡◌, ◌+◌, ◌-◌, ◌<◌, arith, true, false, cond, List, ℕ, Result, Ok, Err, OnOk, OnErr, refl, sym, ◌∙◌, ap, subst, Bool}
use Rattle.std.specs.Str.{chars}
use Rattle.std.proofs.lemmas.Bool.{cases_Bool}
use Rattle.swc_ecma_codegen_common.specs.declared.errors.Refusal.{Refusal}
use Rattle.swc_ecma_codegen_settings.specs.declared.config.Config.{Config}
use Rattle.swc_ecma_codegen_grammar.specs.declared.kinds.Kind.{Kind}
use Rattle.swc_ecma_codegen_grammar.specs.SourceLines.{no_lines}
use Rattle.swc_ecma_codegen_grammar.specs.Comments.{no_maps}
use Rattle.swc_ecma_codegen_grammar.specs.GapRules as rules
use Rattle.swc_ecma_codegen_grammar.specs.GapRules.{fuses}
use Rattle.swc_ecma_codegen_text_writer.specs.Sheet.{Item, Semi, Space, Keyword, Operator, Param, Property, Line, Lit, Comment, StrLit, Str, Symbol, Punct, Position, Commit, Deeper, Shallower, Sheet, effect, Writes, Refuses, earlier, stopped, BeginLines, AllowBreak, EndLines}
use Rattle.swc_ecma_codegen_text_writer.proofs.Sheets.{effect_same}
use Rattle.swc_ecma_codegen_text_writer.proofs.Stays.{depth, effect_indentation}
use Rattle.swc_ecma_codegen_tokens.specs.declared.LowerEmitter.{LowerEmitter}
use Rattle.swc_ecma_codegen_tokens.specs.declared.previous.PreviousToken.{PreviousToken}
use Rattle.swc_ecma_codegen_tokens.specs.declared.previous.PreviousToken.TheVariants as last
use Rattle.swc_ecma_codegen_tokens.specs.PreviousToken.{last_at}
use Rattle.swc_ecma_codegen_tokens.specs.View.{state_of}
use Rattle.swc_ecma_codegen_tokens.specs.Words.{allow_break, allows_break, break_behind, break_where}
use Rattle.swc_ecma_codegen_tokens.specs.Run.{unlined, is_bounded, step, Part, when_minified, no_part, State, Step, Guard, Token, Plain, Ends, CommentText, IsRefused, Does, with_source, put, text_of, after_token, after_tokens, after_plain}
use Rattle.swc_ecma_codegen_tokens.proofs.Emission.Emitting.{is_taking, emits_step, emits_refused, does_step, put_lines, refused_lines, follows_same, minified_same, pretty_same}

-- ---- what no call changes

pub effect_keeps : (x : Item) (s : Sheet) → (effect x s).keeps_invalid ≡ s.keeps_invalid
effect_keeps x s = (effect_same x s).keeps_invalid

refuses_keeps : {x : Item} {e : Refusal} (old new : Sheet) → Refuses x e old new → new.keeps_invalid ≡ old.keeps_invalid
refuses_keeps old new (earlier h k eq) = ap (λ (s : Sheet). s.keeps_invalid) eq
refuses_keeps old new (stopped h k s) = ap (λ (z : Sheet). z.keeps_invalid) s.same

-- a call that changes the indentation
unfoldable pub is_level : Item → Bool
is_level Deeper = false
is_level Shallower = false
is_level x = true

depth_level : (x : Item) (n : ℕ) → is_level x ≡ true → depth x n ≡ n
unfolding is_level
depth_level Deeper n h = absurd (cc)
depth_level Shallower n h = absurd (cc)
depth_level (Semi span) n h = refl
depth_level Space n h = refl
depth_level (Keyword span t) n h = refl
depth_level (Operator span t) n h = refl
depth_level (Param t) n h = refl
depth_level (Property t) n h = refl
depth_level Line n h = refl
depth_level (Lit span t) n h = refl
depth_level (Comment t) n h = refl
depth_level (StrLit span t) n h = refl
depth_level (Str t) n h = refl
depth_level (Symbol span t) n h = refl
depth_level (Punct span t) n h = refl
depth_level (Position pos) n h = refl
depth_level Commit n h = refl
depth_level (BeginLines max) n h = refl
depth_level AllowBreak n h = refl
depth_level EndLines n h = refl

effect_level : (x : Item) (s : Sheet) → is_level x ≡ true → (effect x s).indentation ≡ s.indentation
effect_level x s h = effect_indentation x s ∙ depth_level x s.indentation h

-- a call that answers `Ok` leaves the indentation as it is
pub level : (x : Item) (old new : Sheet) (answer r : Result (Unit {0}) Refusal) → Writes x old new answer → r ≡ answer → is_level x ≡ true → OnOk r (new.indentation ≡ old.indentation)
unfolding Writes
level x old new (Ok u) r h eq l = let P : Result (Unit {0}) Refusal → Type 0 = λ z. OnOk z (new.indentation ≡ old.indentation) in subst P (sym eq) (ap (λ (s : Sheet). s.indentation) h.1 ∙ effect_level x old l)
level x old new (Err e) r h eq l = let P : Result (Unit {0}) Refusal → Type 0 = λ z. OnOk z (new.indentation ≡ old.indentation) in subst P (sym eq) tt

-- one that changes it by a level
pub deeper_level : (old new : Sheet) (answer r : Result (Unit {0}) Refusal) → Writes Deeper old new answer → r ≡ answer → OnOk r (new.indentation ≡ old.indentation + 1)
unfolding Writes
deeper_level old new (Ok u) r h eq = let P : Result (Unit {0}) Refusal → Type 0 = λ z. OnOk z (new.indentation ≡ old.indentation + 1) in subst P (sym eq) (ap (λ (s : Sheet). s.indentation) h.1 ∙ effect_indentation Deeper old)
deeper_level old new (Err e) r h eq = let P : Result (Unit {0}) Refusal → Type 0 = λ z. OnOk z (new.indentation ≡ old.indentation + 1) in subst P (sym eq) tt

pub shallower_level : (old new : Sheet) (answer r : Result (Unit {0}) Refusal) → 0 < old.indentation → Writes Shallower old new answer → r ≡ answer → OnOk r (new.indentation + 1 ≡ old.indentation)
unfolding Writes
shallower_level old new (Ok u) r some h eq =
    let P : Result (Unit {0}) Refusal → Type 0 = λ z. OnOk z (new.indentation + 1 ≡ old.indentation) in
    let less : new.indentation ≡ old.indentation - 1 = ap (λ (s : Sheet). s.indentation) h.1 ∙ effect_indentation Shallower old in
    subst P (sym eq) (omega (arith, some, less))
shallower_level old new (Err e) r some h eq = let P : Result (Unit {0}) Refusal → Type 0 = λ z. OnOk z (new.indentation + 1 ≡ old.indentation) in subst P (sym eq) tt

-- ---- calls as steps

on_ok : {A B : Type 0} (r : Result (Unit {0}) Refusal) → (A → B) → OnOk r A → OnOk r B
on_ok (Ok u) f h = f h
on_ok (Err e) f h = tt

on_err : {A B : Type 0} (r : Result (Unit {0}) Refusal) → (A → B) → OnErr r A → OnErr r B
on_err (Ok u) f h = tt
on_err (Err e) f h = f h

-- the last token was noted ahead of the call
pub noted_ok : (r : Result (Unit {0}) Refusal) (f n e : LowerEmitter) (l : PreviousToken) → n.token.value ≡ l → n.failed ≡ e.failed
    → OnOk r ((f.token.value ≡ n.token.value) × (f.failed ≡ n.failed)) → OnOk r ((f.token.value ≡ l) × (f.failed ≡ e.failed))
noted_ok r f n e l t q = on_ok r (λ h. (h.0 ∙ t, h.1 ∙ q))

pub noted_err : (r : Result (Unit {0}) Refusal) (f e : LowerEmitter) (before : PreviousToken) → before ≡ e.token.value
    → OnErr r ((f.token.value ≡ before) × (f.failed ≡ true)) → OnErr r ((f.token.value ≡ e.token.value) × (f.failed ≡ true))
noted_err r f e before t = on_err r (λ h. (h.0 ∙ t, h.1))

-- a step by one call, and what is noted of it
step_called : (x : Step) (item : Item) (config : Config) (e f : LowerEmitter) (old new : Sheet) (r : Result (Unit {0}) Refusal)
    → put x (state_of config old e) ≡ record (state_of config old e) { sheet = effect item old; last = (put x (state_of config old e)).last }
    → ((err : Refusal) (z : Sheet) → Refuses item err old z → IsRefused x err (state_of config old e) z)
    → is_taking x ≡ false → e.failed ≡ false → Writes item old new r
    → OnOk r ((last_at f.token.value ≡ (put x (state_of config old e)).last) × (f.failed ≡ e.failed))
    → OnErr r ((last_at f.token.value ≡ last_at e.token.value) × (f.failed ≡ true))
    → Does (step x) (state_of config old e) (state_of config new f) r
unfolding Writes with_source
step_called x item config e f old new (Ok u) made refused none fresh w ok err = λ lines maps.
    let there : State = state_of config old e in
    let q : state_of config new f ≡ put x there =
    (λ i. record { env = record { config = unlined config; max_line = config.max_line; keeps_invalid = (ap (λ (s : Sheet). s.keeps_invalid) w.1 ∙ effect_keeps item old) i; lines = no_lines; maps = no_maps }; sheet = w.1 i; last = ok.0 i; failed = ok.1 i })
    ∙ sym made in
    emits_step x (with_source lines maps there) (with_source lines maps (state_of config new f)) fresh (ap (with_source lines maps) q ∙ put_lines x lines maps there none)
step_called x item config e f old new (Err er) made refused none fresh w ok err = λ lines maps.
    let there : State = state_of config old e in
    let q : state_of config new f ≡ record there { sheet = new; failed = true } =
    (λ i. record { env = record { config = unlined config; max_line = config.max_line; keeps_invalid = refuses_keeps old new w i; lines = no_lines; maps = no_maps }; sheet = new; last = err.0 i; failed = err.1 i }) in
    emits_refused x er (with_source lines maps there) (with_source lines maps (state_of config new f)) fresh (ap (with_source lines maps) q) (refused_lines x er there new lines maps (refused er new w))

-- a token, by one call
pub called : (kind : Kind) (item : Item) (config : Config) (e f : LowerEmitter) (old new : Sheet) (l : PreviousToken) (answer r : Result (Unit {0}) Refusal)
    → e.failed ≡ false → Writes item old new answer
    → OnOk r ((f.token.value ≡ l) × (f.failed ≡ e.failed)) → OnErr r ((f.token.value ≡ e.token.value) × (f.failed ≡ true)) → r ≡ answer
    → last_at l ≡ after_token kind (text_of item) (last_at e.token.value)
    → Does (step (Token kind item)) (state_of config old e) (state_of config new f) r
unfolding put IsRefused
called kind item config e f old new l answer r fresh w ok err eq last =
    step_called (Token kind item) item config e f old new r refl (λ err z h. h) refl fresh (subst (λ z. Writes item old new z) (sym eq) w)
    (on_ok r (λ h. (ap last_at h.0 ∙ last, h.1)) ok) (on_err r (λ h. (ap last_at h.0, h.1)) err)

-- a call with which tokens end
pub called_ends : (tokens : List (Kind × List ℕ)) (item : Item) (config : Config) (e f : LowerEmitter) (old new : Sheet) (l : PreviousToken) (answer r : Result (Unit {0}) Refusal)
    → e.failed ≡ false → Writes item old new answer
    → OnOk r ((f.token.value ≡ l) × (f.failed ≡ e.failed)) → OnErr r ((f.token.value ≡ e.token.value) × (f.failed ≡ true)) → r ≡ answer
    → last_at l ≡ after_tokens tokens (last_at e.token.value)
    → Does (step (Ends tokens item)) (state_of config old e) (state_of config new f) r
unfolding put IsRefused
called_ends tokens item config e f old new l answer r fresh w ok err eq last =
    step_called (Ends tokens item) item config e f old new r refl (λ err z h. h) refl fresh (subst (λ z. Writes item old new z) (sym eq) w)
    (on_ok r (λ h. (ap last_at h.0 ∙ last, h.1)) ok) (on_err r (λ h. (ap last_at h.0, h.1)) err)

-- a call that writes no token, after which another is the last one
pub called_plain : (item : Item) (config : Config) (e f : LowerEmitter) (old new : Sheet) (l : PreviousToken) (answer r : Result (Unit {0}) Refusal)
    → e.failed ≡ false → Writes item old new answer
    → OnOk r ((f.token.value ≡ l) × (f.failed ≡ e.failed)) → OnErr r ((f.token.value ≡ e.token.value) × (f.failed ≡ true)) → r ≡ answer
    → last_at l ≡ after_plain item (last_at e.token.value)
    → Does (step (Plain item)) (state_of config old e) (state_of config new f) r
unfolding put IsRefused
called_plain item config e f old new l answer r fresh w ok err eq last =
    step_called (Plain item) item config e f old new r refl (λ err z h. h) refl fresh (subst (λ z. Writes item old new z) (sym eq) w)
    (on_ok r (λ h. (ap last_at h.0 ∙ last, h.1)) ok) (on_err r (λ h. (ap last_at h.0, h.1)) err)

-- the text of a comment, by one call
pub called_text : (t : List ℕ) (config : Config) (e f : LowerEmitter) (old new : Sheet) (answer r : Result (Unit {0}) Refusal)
    → e.failed ≡ false → Writes (Comment t) old new answer
    → OnOk r ((f.token.value ≡ last.Separated) × (f.failed ≡ e.failed)) → OnErr r ((f.token.value ≡ e.token.value) × (f.failed ≡ true)) → r ≡ answer
    → Does (step (CommentText t)) (state_of config old e) (state_of config new f) r
unfolding put IsRefused last_at
called_text t config e f old new answer r fresh w ok err eq =
    step_called (CommentText t) (Comment t) config e f old new r refl (λ err z h. h) refl fresh (subst (λ z. Writes (Comment t) old new z) (sym eq) w)
    (on_ok r (λ h. (ap last_at h.0, h.1)) ok) (on_err r (λ h. (ap last_at h.0, h.1)) err)

-- one that leaves the last token
pub called_kept : (item : Item) (config : Config) (e f : LowerEmitter) (old new : Sheet) (answer r : Result (Unit {0}) Refusal)
    → e.failed ≡ false → Writes item old new answer
    → f.token.value ≡ e.token.value → OnOk r (f.failed ≡ e.failed) → OnErr r (f.failed ≡ true) → r ≡ answer
    → last_at e.token.value ≡ after_plain item (last_at e.token.value)
    → Does (step (Plain item)) (state_of config old e) (state_of config new f) r
called_kept item config e f old new answer r fresh w token ok err eq last =
    called_plain item config e f old new e.token.value answer r fresh w (on_ok r (λ h. (token, h)) ok) (on_err r (λ h. (token, h)) err) eq last

-- one with which tokens end, but none that is another than the last one
pub called_ends_kept : (tokens : List (Kind × List ℕ)) (item : Item) (config : Config) (e f : LowerEmitter) (old new : Sheet) (answer r : Result (Unit {0}) Refusal)
    → e.failed ≡ false → Writes item old new answer
    → f.token.value ≡ e.token.value → OnOk r (f.failed ≡ e.failed) → OnErr r (f.failed ≡ true) → r ≡ answer
    → last_at e.token.value ≡ after_tokens tokens (last_at e.token.value)
    → Does (step (Ends tokens item)) (state_of config old e) (state_of config new f) r
called_ends_kept tokens item config e f old new answer r fresh w token ok err eq last =
    called_ends tokens item config e f old new e.token.value answer r fresh w (on_ok r (λ h. (token, h)) ok) (on_err r (λ h. (token, h)) err) eq last

guarded_put : (t : List ℕ) (s : State) → fuses s.last (chars t) ≡ true → put (Guard t) s ≡ record s { sheet = effect Space s.sheet; last = rules.Separated }
unfolding put
guarded_put t s h = ap (λ b. cond b (record s { sheet = effect Space s.sheet; last = rules.Separated }) s) h

passed_put : (t : List ℕ) (s : State) → fuses s.last (chars t) ≡ false → put (Guard t) s ≡ s
unfolding put
passed_put t s h = ap (λ b. cond b (record s { sheet = effect Space s.sheet; last = rules.Separated }) s) h

-- the last token and a text don't fuse, and nothing is done
pub passed : (t : List ℕ) (a : State) → a.failed ≡ false → fuses a.last (chars t) ≡ false → Does (step (Guard t)) a a (Ok tt)
passed t a fresh h = does_step (Guard t) a a refl fresh (sym (passed_put t a h))

-- they fuse, and a blank is written
pub guarded : (t : List ℕ) (config : Config) (e f : LowerEmitter) (old new : Sheet) (answer r : Result (Unit {0}) Refusal)
    → e.failed ≡ false → Writes Space old new answer
    → OnOk r ((f.token.value ≡ last.Separated) × (f.failed ≡ e.failed)) → OnErr r ((f.token.value ≡ e.token.value) × (f.failed ≡ true)) → r ≡ answer
    → fuses (last_at e.token.value) (chars t) ≡ true
    → Does (step (Guard t)) (state_of config old e) (state_of config new f) r
unfolding IsRefused last_at
guarded t config e f old new answer r fresh w ok err eq h =
    let there : State = state_of config old e in
    let q : put (Guard t) there ≡ record there { sheet = effect Space old; last = rules.Separated } = guarded_put t there h in
    let P : State → Type 0 = λ s. s ≡ record there { sheet = effect Space old; last = s.last } in
    step_called (Guard t) Space config e f old new r (subst P (sym q) refl) (λ err z k. (h, k)) refl fresh (subst (λ z. Writes Space old new z) (sym eq) w)
    (on_ok r (λ k. (ap last_at k.0 ∙ ap (λ (s : State). s.last) (sym q), k.1)) ok) (on_err r (λ k. (ap last_at k.0, k.1)) err)

-- ---- what is done unless minified

pub skipped : (part : Part) (a : State) → a.env.config.minify ≡ true → Does (when_minified no_part part) a a (Ok tt)
unfolding no_part with_source
skipped part a h lines maps rest c r k = follows_same (when_minified no_part part rest) rest (with_source lines maps a) c r (minified_same no_part part rest (with_source lines maps a).env h) k

pub not_skipped : (part : Part) (a b : State) (r : Result (Unit {0}) Refusal) → a.env.config.minify ≡ false → Does part a b r → Does (when_minified no_part part) a b r
unfolding with_source
not_skipped part a b (Ok u) h k = λ lines maps rest c r f. follows_same (when_minified no_part part rest) (part rest) (with_source lines maps a) c r (pretty_same no_part part rest (with_source lines maps a).env h) (k lines maps rest c r f)
not_skipped part a b (Err e) h k = λ lines maps rest. follows_same (when_minified no_part part rest) (part rest) (with_source lines maps a) (with_source lines maps b) (Err e) (pretty_same no_part part rest (with_source lines maps a).env h) (k lines maps rest)

-- ---- what is done where lines are bounded

pub passes_break : (a : State) → is_bounded a.env ≡ false → Does allow_break a a (Ok tt)
unfolding with_source allow_break break_where
passes_break a h lines maps rest c r k = follows_same (allow_break rest) rest (with_source lines maps a) c r (ap (λ b. cond b (step (Plain AllowBreak) rest) rest (with_source lines maps a).env) h) k

pub allows_one : (a b : State) (r : Result (Unit {0}) Refusal) → is_bounded a.env ≡ true → Does (step (Plain AllowBreak)) a b r → Does allow_break a b r
unfolding with_source allow_break break_where
allows_one a b (Ok u) h k = λ lines maps rest c r f. follows_same (allow_break rest) (step (Plain AllowBreak) rest) (with_source lines maps a) c r (ap (λ b. cond b (step (Plain AllowBreak) rest) rest (with_source lines maps a).env) h) (k lines maps rest c r f)
allows_one a b (Err e) h k = λ lines maps rest. follows_same (allow_break rest) (step (Plain AllowBreak) rest) (with_source lines maps a) (with_source lines maps b) (Err e) (ap (λ b. cond b (step (Plain AllowBreak) rest) rest (with_source lines maps a).env) h) (k lines maps rest)

pub no_break : (t : List ℕ) (a : State) → allows_break t ≡ false → Does (break_behind t) a a (Ok tt)
unfolding with_source
no_break t a h lines maps rest c r k = follows_same (break_behind t rest) rest (with_source lines maps a) c r (ap (λ b. cond b (allow_break rest) rest (with_source lines maps a).env) h) k

pub has_break : (t : List ℕ) (a b : State) (r : Result (Unit {0}) Refusal) → allows_break t ≡ true → Does allow_break a b r → Does (break_behind t) a b r
unfolding with_source
has_break t a b (Ok u) h k = λ lines maps rest c r f. follows_same (break_behind t rest) (allow_break rest) (with_source lines maps a) c r (ap (λ z. cond z (allow_break rest) rest (with_source lines maps a).env) h) (k lines maps rest c r f)
has_break t a b (Err e) h k = λ lines maps rest. follows_same (break_behind t rest) (allow_break rest) (with_source lines maps a) (with_source lines maps b) (Err e) (ap (λ z. cond z (allow_break rest) rest (with_source lines maps a).env) h) (k lines maps rest)

-- behind a punctuator where lines aren't bounded
pub unbounded_behind : (t : List ℕ) (a : State) → is_bounded a.env ≡ false → Does (break_behind t) a a (Ok tt)
unbounded_behind t a h = elim (cases_Bool (allows_break t)) [
  | inl y ↦ has_break t a a (Ok tt) y (passes_break a h)
  | inr n ↦ no_break t a n
]
