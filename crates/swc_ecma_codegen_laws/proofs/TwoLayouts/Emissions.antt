-- Two emissions of a part, by two layouts or over two source texts, where there are no comments: the tokens that each writes.
use Rattle.std.proofs.Common.{◌≡◌, ℕ, Bool, true, false, if◌then◌else◌, List, [], ◌∷◌, ◌++◌, Option, Some, None, refl, sym, ap, ◌∙◌, subst, append_assoc, append-nil, inl, inr}
use Rattle.std.proofs.lemmas.Bool.{cases_Bool, true≢false}
use Rattle.swc_ecma_codegen_common.specs.declared.positions.Span.{Span}
use Rattle.swc_ecma_codegen_grammar.specs.Comments.{no_maps}
use Rattle.swc_ecma_codegen_grammar.specs.SourceLines.{Lines}
use Rattle.swc_ecma_codegen_settings.specs.declared.config.Config.{Config}
use Rattle.swc_ecma_codegen_text_writer.specs.Sheet.{Item}
use Rattle.swc_ecma_codegen_grammar.specs.declared.kinds.Kind.{Kind}
use Rattle.swc_ecma_codegen_tokens.specs.declared.refusals.Unprintable.{Unprintable}
use Rattle.swc_ecma_codegen_tokens.specs.Run.{Env, Part, Plan, Step, Steps, Guard, Token, Plain, done, next, nothing, refused, at_maps, after_step, refuse, step, steps_of, text_of, unbounded, unprintable_in, when_minified, with_max_line}
use Rattle.swc_ecma_codegen_tokens.proofs.Reading.Printed.{chain, chain_append}
use Rattle.swc_ecma_codegen_laws.specs.Layouts.{Tokens, tokens_by, tokens_in, IsOneLiteral, Differ}
use Rattle.swc_ecma_codegen_laws.proofs.BreakSteps.{on, steps_on}
use Rattle.swc_ecma_codegen_laws.proofs.TwoLayouts.Differing.{differ_append, differ_literal, differ_same}

-- ---- what one emission writes

-- A part is these steps, before what comes next or up to a node that can't be printed, and they write these tokens.
pub record Writes (env : Env) (part : Part) (ts : Tokens) (stop : Option Unprintable) : Type 0 where
  pub steps : List Step
  pub is_steps : (rest : Plan) → part rest env ≡ chain steps (on stop rest env)
  pub tokens : tokens_in steps ≡ ts

tokens_append : (xs ys : List Step) → tokens_in (xs ++ ys) ≡ tokens_in xs ++ tokens_in ys
unfolding tokens_in
tokens_append [] ys = refl
tokens_append (x ∷ xs) ys = ap (λ z. tokens_by x ++ z) (tokens_append xs ys) ∙ sym (append_assoc (tokens_by x) (tokens_in xs) (tokens_in ys))

pub writes_then : {env : Env} (p q : Part) {us vs : Tokens} {stop : Option Unprintable} → Writes env p us None → Writes env q vs stop → Writes env (λ rest. p (q rest)) (us ++ vs) stop
writes_then {env} p q {us} {vs} {stop} h k = record {
  steps = h.steps ++ k.steps;
  is_steps = λ rest. h.is_steps (q rest) ∙ ap (chain h.steps) (k.is_steps rest) ∙ sym (chain_append h.steps k.steps (on stop rest env));
  tokens = tokens_append h.steps k.steps ∙ ap (λ z. z ++ tokens_in k.steps) h.tokens ∙ ap (λ z. us ++ z) k.tokens;
}

-- one that comes to a node that can't be printed, whatever comes next
pub writes_stop : {env : Env} (p q : Part) {us : Tokens} {r : Unprintable} → Writes env p us (Some r) → Writes env (λ rest. p (q rest)) us (Some r)
writes_stop p q h = record { steps = h.steps; is_steps = λ rest. h.is_steps (q rest); tokens = h.tokens }

-- a part that is as another is
pub writes_as : {env : Env} (p q : Part) {ts : Tokens} {stop : Option Unprintable} → ((rest : Plan) → p rest env ≡ q rest env) → Writes env q ts stop → Writes env p ts stop
writes_as p q e h = record { steps = h.steps; is_steps = λ rest. e rest ∙ h.is_steps rest; tokens = h.tokens }

-- the same tokens, known by other words
writes_these : {env : Env} (p : Part) {ts us : Tokens} {stop : Option Unprintable} → ts ≡ us → Writes env p ts stop → Writes env p us stop
writes_these p e h = record { steps = h.steps; is_steps = h.is_steps; tokens = h.tokens ∙ e }

-- one of two parts
pub writes_either : {env : Env} (b : Bool) (p q : Part) (g : Bool → Tokens) (c d : Bool) {stop : Option Unprintable} → Writes env p (g c) stop → Writes env q (g d) stop → Writes env (λ rest now. if b then p rest now else q rest now) (g (if b then c else d)) stop
writes_either true p q g c d h k = h
writes_either false p q g c d h k = k

-- and its tokens
pub writes_chosen : {env : Env} (b : Bool) (p q : Part) {us vs : Tokens} {stop : Option Unprintable} → Writes env p us stop → Writes env q vs stop → Writes env (λ rest now. if b then p rest now else q rest now) (if b then us else vs) stop
writes_chosen true p q h k = h
writes_chosen false p q h k = k

pub writes_if : {env : Env} (b : Bool) (p q : Part) (g : Bool → Tokens) (c d : Bool) {stop : Option Unprintable} → Writes env p (g c) stop → Writes env q (g d) stop → Writes env (λ rest. if b then p rest else q rest) (g (if b then c else d)) stop
writes_if true p q g c d h k = h
writes_if false p q g c d h k = k

-- ---- all of an emission

pub whole_steps : (xs : List Step) (stop : Option Unprintable) (env : Env) → steps_of (chain xs (on stop nothing env)) ≡ xs
unfolding steps_of nothing
whole_steps xs None env = steps_on xs done ∙ append-nil xs
whole_steps xs (Some r) env = steps_on xs (refused r) ∙ append-nil xs

last_of : (xs : List Step) (more : Steps) → unprintable_in (chain xs more) ≡ unprintable_in more
unfolding unprintable_in chain
last_of [] more = refl
last_of (x ∷ xs) more = last_of xs more

pub ends_with : (xs : List Step) (stop : Option Unprintable) (env : Env) → unprintable_in (chain xs (on stop nothing env)) ≡ stop
unfolding unprintable_in nothing
ends_with xs None env = last_of xs done
ends_with xs (Some r) env = last_of xs (refused r)

-- ---- parts that write the same tokens, whatever an emission goes by

abbrev pub bare : Env → Env
bare env = at_maps no_maps env

pub record Always (part : Part) (ts : Tokens) : Type 0 where
  pub at : (env : Env) → Writes (bare env) part ts None

pub always_none : Always (λ rest. rest) []
unfolding chain tokens_in
always_none = record { at = λ env. record { steps = []; is_steps = λ rest. refl; tokens = refl } }

pub always_then : {p q : Part} {us vs : Tokens} → Always p us → Always q vs → Always (λ rest. p (q rest)) (us ++ vs)
always_then {p} {q} h k = record { at = λ env. writes_then p q (h.at env) (k.at env) }

-- where nothing is written behind it
pub always_more : {p q : Part} {ts : Tokens} → Always p ts → Always q [] → Always (λ rest. p (q rest)) ts
always_more {p} {q} {ts} h k = record { at = λ env. writes_these (λ rest. p (q rest)) (append-nil ts) (writes_then p q (h.at env) (k.at env)) }

pub writes_more : (env : Env) (p q : Part) (us : Tokens) (stop : Option Unprintable) → Writes (bare env) p us stop → Always q [] → Writes (bare env) (λ rest. p (q rest)) us stop
writes_more env p q us None h k = writes_these (λ rest. p (q rest)) (append-nil us) (writes_then p q h (k.at env))
writes_more env p q us (Some r) h k = writes_stop p q h

pub always_if : (b : Bool) {p q : Part} {ts : Tokens} → Always p ts → Always q ts → Always (λ rest. if b then p rest else q rest) ts
always_if true h k = h
always_if false h k = k

-- one or the other, and its tokens
pub always_either : (b : Bool) {p q : Part} {us vs : Tokens} → Always p us → Always q vs → Always (λ rest. if b then p rest else q rest) (if b then us else vs)
always_either true h k = h
always_either false h k = k

pub always_step : (x : Step) {ts : Tokens} → after_step x no_maps ≡ no_maps → tokens_in (x ∷ []) ≡ ts → Always (step x) ts
unfolding chain step
always_step x e q = record { at = λ env. record { steps = x ∷ []; is_steps = λ rest. ap (λ m. next x (rest (at_maps m env))) e; tokens = q } }

pub always_plain : (x : Item) → Always (step (Plain x)) []
unfolding after_step tokens_in tokens_by
always_plain x = always_step (Plain x) refl refl

pub always_guard : (t : List ℕ) → Always (step (Guard t)) []
unfolding after_step tokens_in tokens_by
always_guard t = always_step (Guard t) refl refl

pub always_token : (kind : Kind) (x : Item) → Always (step (Token kind x)) ((kind, text_of x) ∷ [])
unfolding after_step tokens_in tokens_by
always_token kind x = always_step (Token kind x) refl refl

-- a token, with the blank that is due before it
pub always_guarded : (t : List ℕ) (kind : Kind) (x : Item) → Always (λ rest. step (Guard t) (step (Token kind x) rest)) ((kind, text_of x) ∷ [])
always_guarded t kind x = always_then (always_guard t) (always_token kind x)

pub always_minified : {p q : Part} {ts : Tokens} → Always p ts → Always q ts → Always (when_minified p q) ts
unfolding when_minified
always_minified {p} {q} {ts} h k = record { at = λ env. writes_as (when_minified p q) (λ rest now. if env.config.minify then p rest now else q rest now) (λ rest. refl) (writes_either env.config.minify p q (λ b. ts) true true (h.at env) (k.at env)) }

-- ---- two emissions

-- What each of the two goes by: the settings but for whether they minify, what the writer keeps, and what the map of each source text answers. `commas` says that these
-- may answer differently to snippets, `layout` that only the first may be minified.
pub record TwoLayouts : Type 0 where
  pub config : Config
  pub keeps_invalid : Bool
  pub first_minify : Bool
  pub second_minify : Bool
  pub first_lines : Lines
  pub second_lines : Lines
  pub commas : Bool
  pub layout : Bool
  pub ordered : second_minify ≡ true → first_minify ≡ true
  pub one_layout : layout ≡ false → first_minify ≡ second_minify
  pub one_source : commas ≡ false → (span : Span) → first_lines.snippet span ≡ second_lines.snippet span

abbrev pub first_config : TwoLayouts → Config
first_config two = record two.config { minify = two.first_minify }

abbrev pub second_config : TwoLayouts → Config
second_config two = record two.config { minify = two.second_minify }

abbrev pub first_env : TwoLayouts → Option ℕ → Env
first_env two max = record { config = first_config two; max_line = max; keeps_invalid = two.keeps_invalid; lines = two.first_lines; maps = no_maps }

abbrev pub second_env : TwoLayouts → Option ℕ → Env
second_env two max = record { config = second_config two; max_line = max; keeps_invalid = two.keeps_invalid; lines = two.second_lines; maps = no_maps }

abbrev pub Fits : TwoLayouts → Tokens → Tokens → Type 0
Fits two us vs = Differ (record { commas = two.commas; layout = two.layout; first = first_config two; second = second_config two }) us vs

-- The first writes the one part, the second the other, and their tokens differ as they may; or both come to the same node that can't be printed.
pub record Both (two : TwoLayouts) (x y : Option ℕ) (p q : Part) : Type 0 where
  pub us : Tokens
  pub vs : Tokens
  pub stop : Option Unprintable
  pub first : Writes (first_env two x) p us stop
  pub second : Writes (second_env two y) q vs stop
  pub fit : stop ≡ None → Fits two us vs

no_stop : {A : Type 0} (r : Unprintable) → ◌≡◌ {A = Option Unprintable} (Some r) None → A
no_stop r h = absurd (cc)

both_by : {two : TwoLayouts} {x y : Option ℕ} (p q r s : Part) (us vs : Tokens) (stop : Option Unprintable) → Writes (first_env two x) p us stop → Writes (second_env two y) q vs stop → (stop ≡ None → Fits two us vs) → Both two x y r s → Both two x y (λ rest. p (r rest)) (λ rest. q (s rest))
both_by p q r s us vs (Some e) h k fit m = record { us = us; vs = vs; stop = Some e; first = writes_stop p r h; second = writes_stop q s k; fit = λ z. no_stop e z }
both_by p q r s us vs None h k fit m = record { us = us ++ m.us; vs = vs ++ m.vs; stop = m.stop; first = writes_then p r h m.first; second = writes_then q s k m.second; fit = λ z. differ_append us vs m.us m.vs (fit refl) (m.fit z) }

pub both_then : {two : TwoLayouts} {x y : Option ℕ} {p q r s : Part} → Both two x y p q → Both two x y r s → Both two x y (λ rest. p (r rest)) (λ rest. q (s rest))
both_then {p = p} {q = q} {r = r} {s = s} h m = both_by p q r s h.us h.vs h.stop h.first h.second h.fit m

-- parts that are as others are
pub both_as : {two : TwoLayouts} {x y : Option ℕ} (p q r s : Part) → ((rest : Plan) → p rest (first_env two x) ≡ r rest (first_env two x)) → ((rest : Plan) → q rest (second_env two y) ≡ s rest (second_env two y)) → Both two x y r s → Both two x y p q
both_as p q r s d e h = record { us = h.us; vs = h.vs; stop = h.stop; first = writes_as p r d h.first; second = writes_as q s e h.second; fit = h.fit }

pub both_either : {two : TwoLayouts} {x y : Option ℕ} (b : Bool) (p q r s : Part) → Both two x y p q → Both two x y r s → Both two x y (λ rest now. if b then p rest now else r rest now) (λ rest now. if b then q rest now else s rest now)
both_either true p q r s h k = h
both_either false p q r s h k = k

-- the same tokens
pub both_always : {two : TwoLayouts} {x y : Option ℕ} {p q : Part} {ts : Tokens} → Always p ts → Always q ts → Both two x y p q
both_always {two} {x} {y} {ts = ts} h k = record { us = ts; vs = ts; stop = None; first = h.at (first_env two x); second = k.at (second_env two y); fit = λ z. differ_same ts }

pub both_refuse : {two : TwoLayouts} {x y : Option ℕ} (r : Unprintable) → Both two x y (refuse r) (refuse r)
unfolding chain refuse tokens_in
both_refuse r = record { us = []; vs = []; stop = Some r; first = record { steps = []; is_steps = λ rest. refl; tokens = refl }; second = record { steps = []; is_steps = λ rest. refl; tokens = refl }; fit = λ z. no_stop r z }

-- one of two by whether each is minified: the second is only where the first is too
by_layouts : {two : TwoLayouts} {x y : Option ℕ} (p q r s : Part) (a b : Bool) → (b ≡ true → a ≡ true) → (two.layout ≡ false → a ≡ b) → Both two x y p r → (two.layout ≡ true → Both two x y p s) → Both two x y q s → Both two x y (λ rest now. if a then p rest now else q rest now) (λ rest now. if b then r rest now else s rest now)
by_layouts p q r s true true o e h m k = h
by_layouts {two} p q r s true false o e h m k = m (elim (cases_Bool two.layout) [ inl l ↦ l | inr l ↦ absurd (true≢false (e l)) ])
by_layouts p q r s false true o e h m k = absurd (true≢false (sym (o refl)))
by_layouts p q r s false false o e h m k = k

pub both_minified : {two : TwoLayouts} {x y : Option ℕ} (p q r s : Part) → Both two x y p r → (two.layout ≡ true → Both two x y p s) → Both two x y q s → Both two x y (when_minified p q) (when_minified r s)
unfolding when_minified
both_minified {two} p q r s h m k =
    both_as (when_minified p q) (when_minified r s) (λ rest now. if two.first_minify then p rest now else q rest now) (λ rest now. if two.second_minify then r rest now else s rest now) (λ rest. refl) (λ rest. refl)
    (by_layouts p q r s two.first_minify two.second_minify two.ordered two.one_layout h m k)

-- ---- a part that both write

pub record IsAlike (two : TwoLayouts) (bounded : Bool) (part : Part) : Type 0 where
  pub at : (x y : Option ℕ) → Both two x y part part

pub alike_always : {two : TwoLayouts} (bounded : Bool) {part : Part} {ts : Tokens} → Always part ts → IsAlike two bounded part
alike_always bounded h = record { at = λ x y. both_always h h }

pub alike_then : {two : TwoLayouts} (bounded : Bool) {p q : Part} → IsAlike two bounded p → IsAlike two bounded q → IsAlike two bounded (λ rest. p (q rest))
alike_then bounded h k = record { at = λ x y. both_then (h.at x y) (k.at x y) }

pub alike_either : {two : TwoLayouts} (bounded b : Bool) {p q : Part} → IsAlike two bounded p → IsAlike two bounded q → IsAlike two bounded (λ rest. if b then p rest else q rest)
alike_either bounded true h k = h
alike_either bounded false h k = k

pub alike_refuse : {two : TwoLayouts} (bounded : Bool) (r : Unprintable) → IsAlike two bounded (refuse r)
alike_refuse bounded r = record { at = λ x y. both_refuse r }

-- one literal, as the settings of each spell it
literal_fits : (two : TwoLayouts) (spelled : Config → Tokens) → ((s t : Config) → IsOneLiteral s t (spelled s) (spelled t)) → Fits two (spelled (first_config two)) (spelled (second_config two))
literal_fits two spelled one = elim (cases_Bool two.layout) [
  | inl e ↦ differ_literal (spelled (first_config two)) (spelled (second_config two)) e (one (first_config two) (second_config two))
  | inr e ↦ subst (λ m. Fits two (spelled (first_config two)) (spelled (record two.config { minify = m }))) (two.one_layout e) (differ_same (spelled (first_config two)))
]

pub alike_literal : {two : TwoLayouts} (bounded : Bool) (part : Part) (spelled : Config → Tokens) → ((s t : Config) → IsOneLiteral s t (spelled s) (spelled t)) → ((env : Env) → Writes (bare env) part (spelled env.config) None) → IsAlike two bounded part
alike_literal {two} bounded part spelled one h = record { at = λ x y. record { us = spelled (first_config two); vs = spelled (second_config two); stop = None; first = h (first_env two x); second = h (second_env two y); fit = λ z. literal_fits two spelled one } }

-- ---- at another greatest length of lines

pub writes_within : (part : Part) (env : Env) (max : Option ℕ) {ts : Tokens} (stop : Option Unprintable) → Writes (record env { max_line = max }) part ts stop → Writes env (with_max_line max part) ts stop
unfolding with_max_line
writes_within part env max None h = record { steps = h.steps; is_steps = λ rest. h.is_steps (λ inner. rest (record inner { max_line = env.max_line })); tokens = h.tokens }
writes_within part env max (Some r) h = record { steps = h.steps; is_steps = λ rest. h.is_steps (λ inner. rest (record inner { max_line = env.max_line })); tokens = h.tokens }

pub both_within : {two : TwoLayouts} (x y : Option ℕ) (p q : Part) → Both two None None p q → Both two x y (unbounded p) (unbounded q)
both_within {two} x y p q h = record { us = h.us; vs = h.vs; stop = h.stop; first = writes_within p (first_env two x) None h.stop h.first; second = writes_within q (second_env two y) None h.stop h.second; fit = h.fit }

pub alike_within : {two : TwoLayouts} (bounded : Bool) (part : Part) → IsAlike two false part → IsAlike two bounded (unbounded part)
alike_within bounded part h = record { at = λ x y. both_within x y part part (h.at None None) }
