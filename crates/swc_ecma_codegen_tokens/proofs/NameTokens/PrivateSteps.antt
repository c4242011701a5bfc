-- Private names, by the text that they are written with.
use Rattle.std.proofs.Common.{◌≡◌, Bool, true, false, cond, List, ℕ, Result, Ok, Err, refl, sym, ap, ◌∙◌, subst, inl, inr}
use Rattle.std.specs.Str.{chars}
use Rattle.std.proofs.lemmas.Bool.{cases_Bool, false_from_ne_true, true_from_ne_false}
use Rattle.swc_ecma_codegen_common.specs.declared.errors.Refusal.{Refusal}
use Rattle.swc_ecma_codegen_common.specs.declared.errors.Refusal.TheVariants.{OutOfMemory}
use Rattle.swc_ecma_codegen_common.specs.declared.errors.Refusal.TheVariants as refusals
use Rattle.swc_ecma_codegen_common.specs.declared.positions.Span.{Span}
use Rattle.swc_ecma_codegen_grammar.specs.ValidNames.{turned}
use Rattle.swc_ecma_codegen_literals.specs.AsciiNames.{is_out_of_target, ascii_name}
use Rattle.swc_ecma_codegen_literals.specs.ValidNames.{has_byte}
use Rattle.swc_ecma_codegen_tokens.specs.declared.refusals.Unprintable.TheVariants.{NameOutOfTarget}
use Rattle.swc_ecma_codegen_tokens.specs.PrivateNames.{private_symbol, spelled_private, valid_private, private_text}
use Rattle.swc_ecma_codegen_tokens.specs.Run.{Env, Plan, Part, State, Remake, step, refuse, refusal_of, has_backslash, Emits, Does, with_source}
use Rattle.swc_ecma_codegen_tokens.specs.Targets.{wants_escapes, in_ascii, is_out_name}
use Rattle.swc_ecma_codegen_tokens.proofs.LiteralTokens.RewrittenLiterals.{does_same, emits_same, not_here, spelled_anew, not_anew}
use Rattle.swc_ecma_codegen_tokens.proofs.Emission.Emitting.{emits_refusal, follows_remade, does_by}
use Rattle.swc_ecma_codegen_tokens.proofs.NameTokens.Targets.{kept_is_in, kept_text, escaped_text, out_by_settings}

-- ---- a text by the settings

pub private_same : (span : Span) (t : List ℕ) (rest : Plan) (env : Env) → is_out_name env.config t ≡ false → spelled_private span t rest env ≡ step (Remake (wants_escapes env.config t)) (private_symbol span (in_ascii env.config t) rest) env
unfolding spelled_private
private_same span t rest env o = ap (λ b. cond b (refuse NameOutOfTarget rest env) (step (Remake (wants_escapes env.config t)) (private_symbol span (in_ascii env.config t) rest) env)) o

pub private_out : (span : Span) (t : List ℕ) (rest : Plan) (env : Env) → is_out_name env.config t ≡ true → spelled_private span t rest env ≡ refuse NameOutOfTarget rest env
unfolding spelled_private
private_out span t rest env o = ap (λ b. cond b (refuse NameOutOfTarget rest env) (step (Remake (wants_escapes env.config t)) (private_symbol span (in_ascii env.config t) rest) env)) o

remade_emits : (due : Bool) (q : Part) (a b : State) (r : Result (Unit {0}) Refusal) → Emits q a b r → Emits (λ rest. step (Remake due) (q rest)) a b r
remade_emits due q a b (Ok u) h = λ rest c r f. follows_remade due (q rest) a c r (h rest c r f)
remade_emits due q a b (Err e) h = λ rest. follows_remade due (q rest) a b (Err e) (h rest)

spelled_here : (span : Span) (t u : List ℕ) (a b : State) (r : Result (Unit {0}) Refusal) → is_out_name a.env.config t ≡ false → u ≡ in_ascii a.env.config t → Emits (private_symbol span u) a b r → Emits (spelled_private span t) a b r
spelled_here span t u a b r o e h =
    let due : Bool = wants_escapes a.env.config t in
    let P : List ℕ → Type 0 = λ z. Emits (private_symbol span z) a b r in
    emits_same (spelled_private span t) (λ rest. step (Remake due) (private_symbol span (in_ascii a.env.config t) rest)) a b r (λ rest. private_same span t rest a.env o)
    (remade_emits due (private_symbol span (in_ascii a.env.config t)) a b r (subst P e h))

-- the text that the settings ask for is written
spelled : (span : Span) (t u : List ℕ) (a b : State) (r : Result (Unit {0}) Refusal) → is_out_name a.env.config t ≡ false → u ≡ in_ascii a.env.config t → Does (private_symbol span u) a b r → Does (spelled_private span t) a b r
unfolding with_source
spelled span t u a b r o e h = does_by (private_symbol span u) (spelled_private span t) a b r (λ lines maps s k. spelled_here span t u (with_source lines maps a) (with_source lines maps b) s o e k) h

-- as it is
pub private_as_it_is : (span : Span) (t : List ℕ) (a b : State) (r : Result (Unit {0}) Refusal) → wants_escapes a.env.config t ≡ false → Does (private_symbol span t) a b r → Does (spelled_private span t) a b r
private_as_it_is span t a b r k h = spelled span t t a b r (kept_is_in a.env.config t k) (sym (kept_text a.env.config t k)) h

-- in ASCII
pub private_in_ascii : (span : Span) (t u : List ℕ) (a b : State) (r : Result (Unit {0}) Refusal) → wants_escapes a.env.config t ≡ true → (is_out_of_target false a.env.config.target (chars t) ≡ true → ⊥) → u ≡ ascii_name false a.env.config.target (chars t) → Does (private_symbol span u) a b r → Does (spelled_private span t) a b r
private_in_ascii span t u a b r k o e h = spelled span t u a b r (out_by_settings a.env.config t k ∙ false_from_ne_true _ o) (e ∙ sym (escaped_text a.env.config t k)) h

-- or it can't be, or memory is wanting
not_spelled_here : (span : Span) (t : List ℕ) (e : Refusal) (a b : State) → a.failed ≡ false → wants_escapes a.env.config t ≡ true → (is_out_of_target false a.env.config.target (chars t) ≡ true → e ≡ refusals.NameOutOfTarget) → (is_out_of_target false a.env.config.target (chars t) ≡ false → e ≡ OutOfMemory) → b ≡ record a { failed = true } → Emits (spelled_private span t) a b (Err e)
unfolding refusal_of
not_spelled_here span t e a b fresh k out refused marked =
    let same = out_by_settings a.env.config t k in
    elim (cases_Bool (is_out_of_target false a.env.config.target (chars t))) [
      | inl o ↦ emits_same (spelled_private span t) (refuse NameOutOfTarget) a b (Err e) (λ rest. private_out span t rest a.env (same ∙ o)) (emits_refusal NameOutOfTarget e a b fresh (out o) marked)
      | inr o ↦ not_here (spelled_private span t) (wants_escapes a.env.config t) (private_symbol span (in_ascii a.env.config t)) e a b fresh (λ rest. private_same span t rest a.env (same ∙ o)) (refused o) k marked
    ]

pub private_not_spelled : (span : Span) (t : List ℕ) (e : Refusal) (a b : State) → a.failed ≡ false → wants_escapes a.env.config t ≡ true → (is_out_of_target false a.env.config.target (chars t) ≡ true → e ≡ refusals.NameOutOfTarget) → (is_out_of_target false a.env.config.target (chars t) ≡ false → e ≡ OutOfMemory) → b ≡ record a { failed = true } → Does (spelled_private span t) a b (Err e)
unfolding with_source
private_not_spelled span t e a b fresh k out refused marked = λ lines maps. not_spelled_here span t e (with_source lines maps a) (with_source lines maps b) fresh k out refused (ap (with_source lines maps) marked)

-- ---- as the writer takes names

-- a name whose text is made anew
pub private_remade : (span : Span) (name text : List ℕ) (a b : State) (r : Result (Unit {0}) Refusal) → a.failed ≡ false → text ≡ turned name → Does (spelled_private span text) a b r → Does (valid_private span name) a b r
unfolding valid_private
private_remade span name text a b r fresh eq h = spelled_anew (valid_private span name) (has_backslash name) (spelled_private span) text (turned name) a b r fresh (λ lines maps rest. refl) eq h

-- memory is refused only for a name with a backslash
pub private_not_remade : (span : Span) (name : List ℕ) (e : Refusal) (a b : State) → a.failed ≡ false → e ≡ OutOfMemory → (has_byte 92 name ≡ false → ⊥) → b ≡ record a { failed = true } → Does (valid_private span name) a b (Err e)
unfolding valid_private
private_not_remade span name e a b fresh eq h marked = not_anew (valid_private span name) (has_backslash name) (spelled_private span (turned name)) e a b fresh (λ lines maps rest. refl) eq (true_from_ne_false (has_byte 92 name) h) marked

pub lent_same : (span : Span) (name : List ℕ) (rest : Plan) (env : Env) → env.keeps_invalid ≡ true → private_text span name rest env ≡ spelled_private span name rest env
unfolding private_text
lent_same span name rest env h = ap (λ b. cond b (spelled_private span name rest env) (valid_private span name rest env)) h

pub valid_same : (span : Span) (name : List ℕ) (rest : Plan) (env : Env) → env.keeps_invalid ≡ false → private_text span name rest env ≡ valid_private span name rest env
unfolding private_text
valid_same span name rest env h = ap (λ b. cond b (spelled_private span name rest env) (valid_private span name rest env)) h

-- a name as it is, and one whose text is made anew
pub kept_private : (span : Span) (name : List ℕ) (a b : State) (r : Result (Unit {0}) Refusal) → a.env.keeps_invalid ≡ true → Does (spelled_private span name) a b r → Does (private_text span name) a b r
kept_private span name a b r h k = does_same (private_text span name) (spelled_private span name) a b r (λ lines maps rest. lent_same span name rest (record a.env { lines = lines; maps = maps }) h) k

pub made_private : (span : Span) (name : List ℕ) (a b : State) (r : Result (Unit {0}) Refusal) → a.env.keeps_invalid ≡ false → Does (valid_private span name) a b r → Does (private_text span name) a b r
made_private span name a b r h k = does_same (private_text span name) (valid_private span name) a b r (λ lines maps rest. valid_same span name rest (record a.env { lines = lines; maps = maps }) h) k
