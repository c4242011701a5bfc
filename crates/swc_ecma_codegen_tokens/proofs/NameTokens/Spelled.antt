-- Names, by the text that they are written with.
use Rattle.std.proofs.Common.{◌≡◌, true, false, cond, List, ℕ, Bool, Result, Ok, Err, refl, sym, ap, ◌∙◌, subst, inl, inr}
use Rattle.std.specs.Str.{chars}
use Rattle.std.proofs.lemmas.Bool.{cases_Bool, false_from_ne_true}
use Rattle.swc_ecma_codegen_common.specs.declared.errors.Refusal.{Refusal}
use Rattle.swc_ecma_codegen_common.specs.declared.errors.Refusal.TheVariants.{OutOfMemory}
use Rattle.swc_ecma_codegen_common.specs.declared.errors.Refusal.TheVariants as refusals
use Rattle.swc_ecma_codegen_common.specs.declared.positions.Span.{Span}
use Rattle.swc_ecma_codegen_grammar.specs.ValidNames.{turned}
use Rattle.swc_ecma_codegen_literals.specs.AsciiNames.{is_out_of_target, ascii_name}
use Rattle.swc_ecma_codegen_literals.specs.ValidNames.{has_byte}
use Rattle.swc_ecma_codegen_tokens.specs.declared.refusals.Unprintable.TheVariants.{NameOutOfTarget}
use Rattle.swc_ecma_codegen_tokens.specs.Run.{Env, Plan, State, Remake, step, refuse, refusal_of, has_backslash, Follows, Emits, Does, with_source, IsRefused}
use Rattle.swc_ecma_codegen_tokens.specs.Targets.{wants_escapes, in_ascii, is_out_name}
use Rattle.swc_ecma_codegen_tokens.specs.Words.{symbol, spelled_symbol, valid_symbol, name_text}
use Rattle.swc_ecma_codegen_tokens.proofs.Emission.Emitting.{emits_refused, emits_refusal, follows_remade, follows_same}
use Rattle.swc_ecma_codegen_tokens.proofs.NameTokens.Targets.{kept_is_in, kept_text, escaped_text, out_by_settings}

-- ---- a text by the settings

pub spelled_same : (span : Span) (t : List ℕ) (rest : Plan) (env : Env) → is_out_name env.config t ≡ false → spelled_symbol span t rest env ≡ step (Remake (wants_escapes env.config t)) (symbol span (in_ascii env.config t) rest) env
unfolding spelled_symbol
spelled_same span t rest env o = ap (λ b. cond b (refuse NameOutOfTarget rest env) (step (Remake (wants_escapes env.config t)) (symbol span (in_ascii env.config t) rest) env)) o

pub out_same : (span : Span) (t : List ℕ) (rest : Plan) (env : Env) → is_out_name env.config t ≡ true → spelled_symbol span t rest env ≡ refuse NameOutOfTarget rest env
unfolding spelled_symbol
out_same span t rest env o = ap (λ b. cond b (refuse NameOutOfTarget rest env) (step (Remake (wants_escapes env.config t)) (symbol span (in_ascii env.config t) rest) env)) o

-- the text that the settings ask for is written
spelled_follows : (span : Span) (t u : List ℕ) (rest : Plan) (a c : State) (r : Result (Unit {0}) Refusal) → is_out_name a.env.config t ≡ false → u ≡ in_ascii a.env.config t → Follows (symbol span u rest) a c r → Follows (spelled_symbol span t rest) a c r
spelled_follows span t u rest a c r o e h =
    let P : List ℕ → Type 0 = λ z. Follows (symbol span z rest) a c r in
    follows_same (spelled_symbol span t rest) (step (Remake (wants_escapes a.env.config t)) (symbol span (in_ascii a.env.config t) rest)) a c r (spelled_same span t rest a.env o)
    (follows_remade (wants_escapes a.env.config t) (symbol span (in_ascii a.env.config t) rest) a c r (subst P e h))

spelled : (span : Span) (t u : List ℕ) (a b : State) (r : Result (Unit {0}) Refusal) → is_out_name a.env.config t ≡ false → u ≡ in_ascii a.env.config t → Does (symbol span u) a b r → Does (spelled_symbol span t) a b r
unfolding with_source
spelled span t u a b (Ok x) o e h = λ lines maps rest c r f. spelled_follows span t u rest (with_source lines maps a) c r o e (h lines maps rest c r f)
spelled span t u a b (Err x) o e h = λ lines maps rest. spelled_follows span t u rest (with_source lines maps a) (with_source lines maps b) (Err x) o e (h lines maps rest)

-- as it is
pub spelled_as_it_is : (span : Span) (t : List ℕ) (a b : State) (r : Result (Unit {0}) Refusal) → wants_escapes a.env.config t ≡ false → Does (symbol span t) a b r → Does (spelled_symbol span t) a b r
spelled_as_it_is span t a b r k h = spelled span t t a b r (kept_is_in a.env.config t k) (sym (kept_text a.env.config t k)) h

-- in ASCII
pub spelled_in_ascii : (span : Span) (t u : List ℕ) (a b : State) (r : Result (Unit {0}) Refusal) → wants_escapes a.env.config t ≡ true → (is_out_of_target false a.env.config.target (chars t) ≡ true → ⊥) → u ≡ ascii_name false a.env.config.target (chars t) → Does (symbol span u) a b r → Does (spelled_symbol span t) a b r
spelled_in_ascii span t u a b r k o e h = spelled span t u a b r (out_by_settings a.env.config t k ∙ false_from_ne_true _ o) (e ∙ sym (escaped_text a.env.config t k)) h

pub marked_with : (a b : State) → b ≡ record a { failed = true } → b ≡ record a { sheet = b.sheet; failed = true }
marked_with a b eq = let P : State → Type 0 = λ s. s ≡ record a { sheet = s.sheet; failed = true } in subst P (sym eq) refl

-- or it can't be, or memory is wanting
not_spelled_here : (span : Span) (t : List ℕ) (e : Refusal) (a b : State) → a.failed ≡ false → wants_escapes a.env.config t ≡ true → (is_out_of_target false a.env.config.target (chars t) ≡ true → e ≡ refusals.NameOutOfTarget) → (is_out_of_target false a.env.config.target (chars t) ≡ false → e ≡ OutOfMemory) → b ≡ record a { failed = true } → Emits (spelled_symbol span t) a b (Err e)
unfolding IsRefused refusal_of
not_spelled_here span t e a b fresh k out refused marked rest =
    let same = out_by_settings a.env.config t k in
    elim (cases_Bool (is_out_of_target false a.env.config.target (chars t))) [
      | inl o ↦ follows_same (spelled_symbol span t rest) (refuse NameOutOfTarget rest) a b (Err e) (out_same span t rest a.env (same ∙ o)) (emits_refusal NameOutOfTarget e a b fresh (out o) marked rest)
      | inr o ↦ follows_same (spelled_symbol span t rest) (step (Remake (wants_escapes a.env.config t)) (symbol span (in_ascii a.env.config t) rest)) a b (Err e) (spelled_same span t rest a.env (same ∙ o))
          (emits_refused (Remake (wants_escapes a.env.config t)) e a b fresh (marked_with a b marked) (refused o, k, ap (λ (s : State). s.sheet) marked) (symbol span (in_ascii a.env.config t) rest))
    ]

pub not_spelled : (span : Span) (t : List ℕ) (e : Refusal) (a b : State) → a.failed ≡ false → wants_escapes a.env.config t ≡ true → (is_out_of_target false a.env.config.target (chars t) ≡ true → e ≡ refusals.NameOutOfTarget) → (is_out_of_target false a.env.config.target (chars t) ≡ false → e ≡ OutOfMemory) → b ≡ record a { failed = true } → Does (spelled_symbol span t) a b (Err e)
unfolding with_source
not_spelled span t e a b fresh k out refused marked = λ lines maps. not_spelled_here span t e (with_source lines maps a) (with_source lines maps b) fresh k out refused (ap (with_source lines maps) marked)

-- ---- as the writer takes names

-- a name whose text is made anew
pub remade : (span : Span) (name text : List ℕ) (a b : State) (r : Result (Unit {0}) Refusal) → text ≡ turned name → Does (spelled_symbol span text) a b r → Does (valid_symbol span name) a b r
unfolding valid_symbol with_source
remade span name text a b (Ok u) eq h = λ lines maps rest c r f. follows_remade (has_backslash name) (spelled_symbol span (turned name) rest) (with_source lines maps a) c r (let P : List ℕ → Type 0 = λ t. Follows (spelled_symbol span t rest) (with_source lines maps a) c r in subst P eq (h lines maps rest c r f))
remade span name text a b (Err e) eq h = λ lines maps rest. follows_remade (has_backslash name) (spelled_symbol span (turned name) rest) (with_source lines maps a) (with_source lines maps b) (Err e) (let P : List ℕ → Type 0 = λ t. Follows (spelled_symbol span t rest) (with_source lines maps a) (with_source lines maps b) (Err e) in subst P eq (h lines maps rest))

-- memory is refused only for a name with a backslash
backslash : (b : Bool) → (b ≡ false → ⊥) → b ≡ true
backslash true h = refl
backslash false h = absurd (h refl)

pub not_remade : (span : Span) (name : List ℕ) (e : Refusal) (a b : State) → a.failed ≡ false → e ≡ OutOfMemory → (has_byte 92 name ≡ false → ⊥) → b ≡ record a { failed = true } → Does (valid_symbol span name) a b (Err e)
unfolding valid_symbol IsRefused with_source
not_remade span name e a b fresh eq h marked = λ lines maps rest. emits_refused (Remake (has_backslash name)) e (with_source lines maps a) (with_source lines maps b) fresh (ap (with_source lines maps) (marked_with a b marked)) (eq, backslash (has_byte 92 name) h, ap (λ (s : State). s.sheet) marked) (spelled_symbol span (turned name) rest)

pub lent_same : (span : Span) (name : List ℕ) (rest : Plan) (env : Env) → env.keeps_invalid ≡ true → name_text span name rest env ≡ spelled_symbol span name rest env
unfolding name_text
lent_same span name rest env h = ap (λ b. cond b (spelled_symbol span name rest env) (valid_symbol span name rest env)) h

pub valid_same : (span : Span) (name : List ℕ) (rest : Plan) (env : Env) → env.keeps_invalid ≡ false → name_text span name rest env ≡ valid_symbol span name rest env
unfolding name_text
valid_same span name rest env h = ap (λ b. cond b (spelled_symbol span name rest env) (valid_symbol span name rest env)) h

-- a name as it is, and one whose text is made anew
pub kept_name : (span : Span) (name : List ℕ) (a b : State) (r : Result (Unit {0}) Refusal) → a.env.keeps_invalid ≡ true → Does (spelled_symbol span name) a b r → Does (name_text span name) a b r
unfolding with_source
kept_name span name a b (Ok u) h k = λ lines maps rest c r f. follows_same (name_text span name rest) (spelled_symbol span name rest) (with_source lines maps a) c r (lent_same span name rest (with_source lines maps a).env h) (k lines maps rest c r f)
kept_name span name a b (Err e) h k = λ lines maps rest. follows_same (name_text span name rest) (spelled_symbol span name rest) (with_source lines maps a) (with_source lines maps b) (Err e) (lent_same span name rest (with_source lines maps a).env h) (k lines maps rest)

pub made_name : (span : Span) (name : List ℕ) (a b : State) (r : Result (Unit {0}) Refusal) → a.env.keeps_invalid ≡ false → Does (valid_symbol span name) a b r → Does (name_text span name) a b r
unfolding with_source
made_name span name a b (Ok u) h k = λ lines maps rest c r f. follows_same (name_text span name rest) (valid_symbol span name rest) (with_source lines maps a) c r (valid_same span name rest (with_source lines maps a).env h) (k lines maps rest c r f)
made_name span name a b (Err e) h k = λ lines maps rest. follows_same (name_text span name rest) (valid_symbol span name rest) (with_source lines maps a) (with_source lines maps b) (Err e) (valid_same span name rest (with_source lines maps a).env h) (k lines maps rest)
