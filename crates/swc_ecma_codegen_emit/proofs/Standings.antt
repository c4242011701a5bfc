-- What is made of a plan, and what is refused.
use Rattle.std.proofs.Common.{◌≡◌, ℕ, ◌+◌, ◌-◌, ◌≤◌, true, false, Option, Some, None, Result, Ok, Err, OnOk, refl, sym, ap, subst, ◌∙◌, arith}
use Rattle.std.specs.Prelude.{is_some}
use Rattle.swc_ecma_codegen_common.specs.declared.errors.Error.{Error}
use Rattle.swc_ecma_codegen_common.specs.declared.errors.Refusal.{Refusal}
use Rattle.swc_ecma_codegen_common.specs.Refusals.{in_short}
use Rattle.swc_ecma_codegen_grammar.specs.SourceLines.{Lines}
use Rattle.swc_ecma_codegen_grammar.specs.CommentMaps.{Maps}
use Rattle.swc_ecma_codegen_tokens.specs.Run.{Env, Plan, Part, State, Follows, Emits, Does, DoesTaking, at_source, nothing}
use Rattle.swc_ecma_codegen_tokens.specs.Lists.{by_lines}
use Rattle.swc_ecma_codegen_tokens.proofs.Emission.Emitting.{does_here, takes_here, emits_nothing, follows_same}
use Rattle.swc_ecma_codegen_tokens.proofs.Emission.Made.{run_env}
use Rattle.swc_ecma_codegen_tokens.proofs.Emission.Short.{on_ok_in_short}
use Rattle.swc_ecma_codegen_emit.specs.Standing.{Standing, outcome, refusal_after, Leads, LeadsAfter, Makes, MakesDeeper, MakesShallower, Stays, HasLevels, KeepsSettings}

-- ---- what a call of the lower emitter does is made

not_refused_after : (c : Standing) (s : State) (e : Refusal) (x y : ℕ) → c ≡ record { state = s; refusal = Some e } → c.refusal ≡ None → x ≡ y
not_refused_after c s e x y same none = absurd (let z : Some e ≡ None = sym (ap (λ (d : Standing). d.refusal) same) ∙ none in cc)

-- from one level to another
made : (before after : ℕ) (part : Part) (a b : State) (r : Result (Unit {0}) Refusal) (rest : Plan) (c : Standing) → Emits part a b r → OnOk r (b.sheet.indentation ≡ after → a.sheet.indentation ≡ before) →
    Leads after rest (record { state = b; refusal = refusal_after None r }) c → Leads before (part rest) (record { state = a; refusal = None }) c
unfolding Leads LeadsAfter outcome refusal_after
made before after part a b (Ok u) rest c h level k = (h rest c.state (outcome c.refusal) k.0, λ none. level (k.1 none))
made before after part a b (Err e) rest c h level k =
    (subst (λ (z : Standing). Follows (part rest) a z.state (outcome z.refusal)) (sym k) (h rest), λ none. not_refused_after c b e a.sheet.indentation before k none)

made_first : (before after : ℕ) (part : Part) (a b : State) (r : Result (Unit {0}) Refusal) (old new : Option Refusal) (rest : Plan) (c : Standing) → Emits part a b r → OnOk r (b.sheet.indentation ≡ after → a.sheet.indentation ≡ before) →
    is_some old ≡ false → new ≡ refusal_after old r → Leads after rest (record { state = b; refusal = new }) c → Leads before (part rest) (record { state = a; refusal = old }) c
made_first before after part a b r (Some e) new rest c h level fresh eq k = absurd (let z : true ≡ false = fresh in cc)
made_first before after part a b r None new rest c h level fresh eq k =
    let P : Option Refusal → Type 0 = λ x. Leads after rest (record { state = b; refusal = x }) c in
    made before after part a b r rest c h level (subst P eq k)

on_ok_map : {P Q : Type 0} (r : Result (Unit {0}) Refusal) → (P → Q) → OnOk r P → OnOk r Q
on_ok_map (Ok u) f h = f h
on_ok_map (Err e) f h = tt

-- the indentation stays
pub makes_emitted : (part : Part) (a b : State) (r : Result (Unit {0}) Refusal) (old new : Option Refusal) → Emits part a b r → OnOk r (b.sheet.indentation ≡ a.sheet.indentation) → is_some old ≡ false → new ≡ refusal_after old r → Makes part (record { state = a; refusal = old }) (record { state = b; refusal = new })
makes_emitted part a b r old new h same fresh eq = λ level rest c k. made_first level level part a b r old new rest c h (on_ok_map r (λ same at. sym same ∙ at) same) fresh eq k

-- so is what one does wherever lines end
pub makes_here : (lines : Lines) (maps : Maps) (part : Part) (a b : State) (r : Result (Unit {0}) Refusal) (old new : Option Refusal) → Does part a b r → OnOk r (b.sheet.indentation ≡ a.sheet.indentation) → is_some old ≡ false → new ≡ refusal_after old r → Makes part (record { state = at_source lines maps a; refusal = old }) (record { state = at_source lines maps b; refusal = new })
makes_here lines maps part a b r old new h same fresh eq = makes_emitted part (at_source lines maps a) (at_source lines maps b) r old new (does_here lines maps part a b r h) same fresh eq

-- what takes comments leaves the others
pub takes_made : (lines : Lines) (before left : Maps) (part : Part) (a b : State) (r : Result (Unit {0}) Refusal) (old new : Option Refusal) → DoesTaking part before left a b r → OnOk r (b.sheet.indentation ≡ a.sheet.indentation) → is_some old ≡ false → new ≡ refusal_after old r → Makes part (record { state = at_source lines before a; refusal = old }) (record { state = at_source lines left b; refusal = new })
takes_made lines before left part a b r old new h same fresh eq = makes_emitted part (at_source lines before a) (at_source lines left b) r old new (takes_here lines before left part a b r h) same fresh eq

-- it is so many levels deeper
pub deeper_here : (n : ℕ) (lines : Lines) (maps : Maps) (part : Part) (a b : State) (r : Result (Unit {0}) Refusal) (old new : Option Refusal) → Does part a b r → OnOk r (b.sheet.indentation ≡ a.sheet.indentation + n) → is_some old ≡ false → new ≡ refusal_after old r → MakesDeeper n part (record { state = at_source lines maps a; refusal = old }) (record { state = at_source lines maps b; refusal = new })
deeper_here n lines maps part a b r old new h deep fresh eq = λ level rest c k.
    made_first level (level + n) part (at_source lines maps a) (at_source lines maps b) r old new rest c (does_here lines maps part a b r h) (on_ok_map r (λ is at. omega arith) deep) fresh eq k

-- so many levels less deep
pub shallower_here : (n : ℕ) (lines : Lines) (maps : Maps) (part : Part) (a b : State) (r : Result (Unit {0}) Refusal) (old new : Option Refusal) → Does part a b r → OnOk r (b.sheet.indentation + n ≡ a.sheet.indentation) → is_some old ≡ false → new ≡ refusal_after old r → MakesShallower n part (record { state = at_source lines maps a; refusal = old }) (record { state = at_source lines maps b; refusal = new })
shallower_here n lines maps part a b r old new h less fresh eq = λ level rest c k.
    made_first (level + n) level part (at_source lines maps a) (at_source lines maps b) r old new rest c (does_here lines maps part a b r h) (on_ok_map r (λ is at. omega arith) less) fresh eq k

-- behind it there are as many levels
pub levels_made : (n before after : ℕ) (r : Result (Unit {0}) Refusal) (old new : Option Refusal) → OnOk r (after ≡ before + n) → is_some old ≡ false → new ≡ refusal_after old r → new ≡ None → n ≤ after
unfolding refusal_after
levels_made n before after r (Some e) new deep fresh eq none = absurd (let z : true ≡ false = fresh in cc)
levels_made n before after (Ok u) None new deep fresh eq none = omega arith
levels_made n before after (Err e) None new deep fresh eq none = absurd (let z : Some e ≡ None = sym eq ∙ none in cc)

pub on_ok : (P : Type 0) (r : Result (Unit {0}) Refusal) → P → OnOk r P
on_ok P (Ok u) h = h
on_ok P (Err e) h = tt

-- ---- nothing is done after a refusal

refused_leads : (before after : ℕ) (p q : Plan) (a c : Standing) (old : Option Refusal) → is_some old ≡ true → LeadsAfter old after q a c → LeadsAfter old before p a c
unfolding LeadsAfter
refused_leads before after p q a c None h k = absurd (let z : false ≡ true = h in cc)
refused_leads before after p q a c (Some e) h k = k

pub refused_makes : (part : Part) (a : Standing) → is_some a.refusal ≡ true → Makes part a a
unfolding Leads
refused_makes part a h = λ level rest c k. refused_leads level level (part rest) rest a c a.refusal h k

pub refused_deeper : (n : ℕ) (part : Part) (a : Standing) → is_some a.refusal ≡ true → MakesDeeper n part a a
unfolding Leads
refused_deeper n part a h = λ level rest c k. refused_leads level (level + n) (part rest) rest a c a.refusal h k

pub refused_shallower : (n : ℕ) (part : Part) (a : Standing) → is_some a.refusal ≡ true → MakesShallower n part a a
unfolding Leads
refused_shallower n part a h = λ level rest c k. refused_leads (level + n) level (part rest) rest a c a.refusal h k

-- ---- steps, and levels, that are the same

leads_same_after : (old : Option Refusal) (level : ℕ) (p q : Plan) (a c : Standing) → p a.state.env ≡ q a.state.env → LeadsAfter old level q a c → LeadsAfter old level p a c
unfolding LeadsAfter
leads_same_after None level p q a c e h = (follows_same p q a.state c.state (outcome c.refusal) e h.0, h.1)
leads_same_after (Some r) level p q a c e h = h

-- where a plan leads depends only on its steps
leads_same : (level : ℕ) (p q : Plan) (a c : Standing) → p a.state.env ≡ q a.state.env → Leads level q a c → Leads level p a c
unfolding Leads
leads_same level p q a c e h = leads_same_after a.refusal level p q a c e h

-- a part is made where another with the same steps is
pub makes_same : (p q : Part) (a b : Standing) → ((rest : Plan) → p rest a.state.env ≡ q rest a.state.env) → Makes q a b → Makes p a b
makes_same p q a b same h = λ level rest c k. leads_same level (p rest) (q rest) a c (same rest) (h level rest c k)

-- what asks where lines end does what the answer says
pub asked : (ask : Lines → Part) (a b : Standing) → Makes (ask a.state.env.lines) a b → Makes (by_lines ask) a b
unfolding by_lines
asked ask a b h = makes_same (by_lines ask) (ask a.state.env.lines) a b (λ rest. refl) h

pub asked_deeper : (n : ℕ) (ask : Lines → Part) (a b : Standing) → MakesDeeper n (ask a.state.env.lines) a b → MakesDeeper n (by_lines ask) a b
unfolding by_lines
asked_deeper n ask a b h = λ level rest c k. leads_same level (by_lines ask rest) (ask a.state.env.lines rest) a c refl (h level rest c k)

pub asked_shallower : (n : ℕ) (ask : Lines → Part) (a b : Standing) → MakesShallower n (ask a.state.env.lines) a b → MakesShallower n (by_lines ask) a b
unfolding by_lines
asked_shallower n ask a b h = λ level rest c k. leads_same (level + n) (by_lines ask rest) (ask a.state.env.lines rest) a c refl (h level rest c k)

leads_at_after : (old : Option Refusal) (x y : ℕ) (p : Plan) (a c : Standing) → (old ≡ None → x ≡ y) → LeadsAfter old x p a c → LeadsAfter old y p a c
unfolding LeadsAfter
leads_at_after None x y p a c e h = (h.0, λ none. h.1 none ∙ e refl)
leads_at_after (Some r) x y p a c e h = h

-- a level that is the same
pub leads_at : (x y : ℕ) (p : Plan) (a c : Standing) → (a.refusal ≡ None → x ≡ y) → Leads x p a c → Leads y p a c
unfolding Leads
leads_at x y p a c e h = leads_at_after a.refusal x y p a c e h

-- no level deeper
pub not_deeper : (n : ℕ) (part : Part) (a b : Standing) → n ≡ 0 → MakesDeeper n part a b → Makes part a b
not_deeper n part a b e h = λ level rest c k. h level rest c (leads_at level (level + n) rest b c (λ none. omega arith) k)

-- and none less deep
pub not_shallower : (n : ℕ) (part : Part) (a b : Standing) → n ≡ 0 → MakesShallower n part a b → Makes part a b
not_shallower n part a b e h = λ level rest c k. leads_at (level + n) level (part rest) a c (λ none. omega arith) (h level rest c k)

-- ---- a part that nothing comes after

ended : (s : State) (old : Option Refusal) → LeadsAfter old s.sheet.indentation nothing (record { state = s; refusal = old }) (record { state = s; refusal = old })
unfolding LeadsAfter outcome
ended s None = (emits_nothing s, λ none. refl)
ended s (Some e) = refl

pub leads_ended : (b : Standing) → Leads b.state.sheet.indentation nothing b b
unfolding Leads
leads_ended b = ended b.state b.refusal

-- so where a part leads
pub makes_ended : (part : Part) (a b : Standing) → Makes part a b → Leads b.state.sheet.indentation (part nothing) a b
makes_ended part a b h = h b.state.sheet.indentation nothing b (leads_ended b)

leads_followed : (old : Option Refusal) (level : ℕ) (p : Plan) (a b : Standing) → old ≡ None → LeadsAfter old level p a b → Follows p a.state b.state (outcome b.refusal)
unfolding LeadsAfter
leads_followed None level p a b e h = h.0
leads_followed (Some r) level p a b e h = absurd (let z = e in cc)

made_followed : (part : Part) (a b : Standing) → a.refusal ≡ None → Makes part a b → Follows (part nothing) a.state b.state (outcome b.refusal)
unfolding Leads
made_followed part a b fresh h = leads_followed a.refusal b.state.sheet.indentation (part nothing) a b fresh (makes_ended part a b h)

-- its answer, with the writer's own error
pub makes_at_length : (part : Part) (a b : Standing) (c : State) (r : Result (Unit {0}) Error) → a.refusal ≡ None → Makes part a b → in_short r ≡ outcome b.refusal → c ≡ b.state → Follows (part nothing) a.state c (in_short r)
makes_at_length part a b c r fresh h e k =
    let P : State → Type 0 = λ s. Follows (part nothing) a.state s (in_short r) in
    subst P (sym k) (subst (λ z. Follows (part nothing) a.state b.state z) (sym e) (made_followed part a b fresh h))

-- ---- the indentation

level_after : (old : Option Refusal) (level : ℕ) (p : Plan) (a b : Standing) → a.refusal ≡ old → LeadsAfter old level p a b → b.refusal ≡ None → (a.refusal ≡ None) × (a.state.sheet.indentation ≡ level)
unfolding LeadsAfter
level_after None level p a b is h none = (is, h.1 none)
level_after (Some e) level p a b is h none = absurd (let z : Some e ≡ None = sym is ∙ sym (ap (λ (s : Standing). s.refusal) h) ∙ none in cc)

leads_level : (level : ℕ) (p : Plan) (a b : Standing) → Leads level p a b → b.refusal ≡ None → (a.refusal ≡ None) × (a.state.sheet.indentation ≡ level)
unfolding Leads
leads_level level p a b h none = level_after a.refusal level p a b refl h none

-- what is made leaves it what it was
pub stays : (part : Part) (a b : Standing) → Makes part a b → Stays a b
stays part a b h = λ none.
    let was = leads_level b.state.sheet.indentation (part nothing) a b (makes_ended part a b h) none in
    (was.0, sym was.1)

-- and as many levels
pub keeps_levels : (n : ℕ) (part : Part) (a b : Standing) → Makes part a b → HasLevels n a → HasLevels n b
keeps_levels n part a b h levels = λ none.
    let same = stays part a b h none in
    subst (λ z. n ≤ z) (sym same.1) (levels same.0)

outcome_none : (b : Option Refusal) → OnOk (outcome b) (b ≡ None)
unfolding outcome
outcome_none None = refl
outcome_none (Some x) = tt

not_refused : (b : Option Refusal) (r : Result (Unit {0}) Error) → in_short r ≡ outcome b → OnOk r (b ≡ None)
not_refused b r e = on_ok_in_short (b ≡ None) r (subst (λ (z : Result (Unit {0}) Refusal). OnOk z (b ≡ None)) (sym e) (outcome_none b))

pub stays_at_length : (a b : Standing) (c : State) (r : Result (Unit {0}) Error) → Stays a b → in_short r ≡ outcome b.refusal → c ≡ b.state → OnOk r (c.sheet.indentation ≡ a.state.sheet.indentation)
stays_at_length a b c (Ok u) h e k = ap (λ (s : State). s.sheet.indentation) k ∙ (h (not_refused b.refusal (Ok u) e)).1
stays_at_length a b c (Err x) h e k = tt

-- ---- settings

settings_after : (old now : Option Refusal) (level : ℕ) (p : Plan) (a b : Standing) → b.refusal ≡ now → now ≡ None → LeadsAfter old level p a b → b.state.env.config ≡ a.state.env.config
unfolding LeadsAfter Follows outcome
settings_after None now level p a b is none h =
    let followed : Follows p a.state b.state (outcome None) = subst (λ z. Follows p a.state b.state (outcome z)) (is ∙ none) h.0 in
    ap (λ (s : State). s.env.config) followed.1 ∙ ap (λ (e : Env). e.config) (run_env _ a.state)
settings_after (Some r) now level p a b is none h = ap (λ (s : Standing). s.state.env.config) h

-- what is made leaves the settings
leads_settings : (level : ℕ) (p : Plan) (a b : Standing) → Leads level p a b → KeepsSettings a b
unfolding Leads
leads_settings level p a b h none = settings_after a.refusal b.refusal level p a b refl none h

pub same_settings : (part : Part) (a b : Standing) → Makes part a b → KeepsSettings a b
same_settings part a b h = leads_settings b.state.sheet.indentation (part nothing) a b (makes_ended part a b h)

-- ---- what goes deeper

deepest : (n : ℕ) (b : Standing) → HasLevels n b → Leads ((b.state.sheet.indentation - n) + n) nothing b b
deepest n b levels = leads_at b.state.sheet.indentation ((b.state.sheet.indentation - n) + n) nothing b b (λ none. let deep = levels none in omega arith) (leads_ended b)

pub deeper_settings : (n : ℕ) (part : Part) (a b : Standing) → HasLevels n b → MakesDeeper n part a b → KeepsSettings a b
deeper_settings n part a b levels h =
    let level = b.state.sheet.indentation - n in
    leads_settings level (part nothing) a b (h level nothing b (deepest n b levels))
