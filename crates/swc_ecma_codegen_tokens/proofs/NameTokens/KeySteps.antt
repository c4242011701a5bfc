-- Keys, by the text that they are written with.
use Rattle.std.proofs.Common.{◌≡◌, true, false, cond, List, ℕ, Bool, Result, Err, refl, ap, subst}
use Rattle.std.specs.List.{list_any}
use Rattle.std.specs.Str.{chars}
use Rattle.std.proofs.lemmas.Bool.{true_from_ne_false}
use Rattle.swc_ecma_codegen_common.specs.declared.errors.Refusal.{Refusal}
use Rattle.swc_ecma_codegen_common.specs.declared.errors.Refusal.TheVariants.{OutOfMemory}
use Rattle.swc_ecma_codegen_common.specs.declared.positions.Span.{Span}
use Rattle.swc_ecma_codegen_grammar.specs.ValidNames.{turned}
use Rattle.swc_ecma_codegen_literals.specs.AsciiNames.{ascii_name, wants_quotes}
use Rattle.swc_ecma_codegen_literals.specs.ValidNames.{has_byte}
use Rattle.swc_ecma_codegen_tokens.specs.Keys.{ascii_key, bare_key, plain_key, spelled_key, valid_key, key_text}
use Rattle.swc_ecma_codegen_grammar.specs.CommentMaps.{Maps}
use Rattle.swc_ecma_codegen_tokens.specs.Run.{Env, Plan, State, Remake, step, has_backslash, Does, DoesTaking}
use Rattle.swc_ecma_codegen_tokens.specs.Targets.{wants_escapes}
use Rattle.swc_ecma_codegen_tokens.specs.Words.{symbol}
use Rattle.swc_ecma_codegen_tokens.proofs.LiteralTokens.RewrittenLiterals.{does_same, spelled_anew, not_anew, taking_same, taking_anew, does_takes}

-- ---- a text by the settings

pub escaped_same : (span : Span) (t : List ℕ) (rest : Plan) (env : Env) → wants_escapes env.config t ≡ true → spelled_key span t rest env ≡ step (Remake true) (ascii_key (list_any (wants_quotes env.config.target) (chars t)) span (ascii_name true env.config.target (chars t)) rest) env
unfolding spelled_key
escaped_same span t rest env e = ap (λ b. cond b (step (Remake true) (ascii_key (list_any (wants_quotes env.config.target) (chars t)) span (ascii_name true env.config.target (chars t)) rest) env) (plain_key span t rest env)) e

pub plain_same : (span : Span) (t : List ℕ) (rest : Plan) (env : Env) → wants_escapes env.config t ≡ false → spelled_key span t rest env ≡ plain_key span t rest env
unfolding spelled_key
plain_same span t rest env k = ap (λ b. cond b (step (Remake true) (ascii_key (list_any (wants_quotes env.config.target) (chars t)) span (ascii_name true env.config.target (chars t)) rest) env) (plain_key span t rest env)) k

pub symbol_same : (span : Span) (t : List ℕ) (rest : Plan) (env : Env) → env.config.ascii_only ≡ true → plain_key span t rest env ≡ symbol span t rest env
unfolding plain_key
symbol_same span t rest env e = ap (λ b. cond b (symbol span t rest env) (bare_key span t rest env)) e

pub bare_same : (span : Span) (t : List ℕ) (rest : Plan) (env : Env) → env.config.ascii_only ≡ false → plain_key span t rest env ≡ bare_key span t rest env
unfolding plain_key
bare_same span t rest env e = ap (λ b. cond b (symbol span t rest env) (bare_key span t rest env)) e

-- in ASCII
pub key_in_ascii : (quoted : Bool) (span : Span) (t u : List ℕ) (a b : State) (r : Result (Unit {0}) Refusal) → a.failed ≡ false → wants_escapes a.env.config t ≡ true → quoted ≡ list_any (wants_quotes a.env.config.target) (chars t) → u ≡ ascii_name true a.env.config.target (chars t) → Does (ascii_key quoted span u) a b r → Does (spelled_key span t) a b r
key_in_ascii quoted span t u a b r fresh w q e h =
    let asks : Bool = list_any (wants_quotes a.env.config.target) (chars t) in
    let P : Bool → Type 0 = λ z. Does (ascii_key z span u) a b r in
    spelled_anew (spelled_key span t) true (ascii_key asks span) u (ascii_name true a.env.config.target (chars t)) a b r fresh (λ lines maps rest. escaped_same span t rest (record a.env { lines = lines; maps = maps }) w) e (subst P q h)

-- or memory is wanting
pub key_not_made : (span : Span) (t : List ℕ) (e : Refusal) (a b : State) → a.failed ≡ false → wants_escapes a.env.config t ≡ true → e ≡ OutOfMemory → b ≡ record a { failed = true } → Does (spelled_key span t) a b (Err e)
key_not_made span t e a b fresh w o marked =
    not_anew (spelled_key span t) true (ascii_key (list_any (wants_quotes a.env.config.target) (chars t)) span (ascii_name true a.env.config.target (chars t))) e a b fresh (λ lines maps rest. escaped_same span t rest (record a.env { lines = lines; maps = maps }) w) o refl marked

pub key_symbol : (span : Span) (t : List ℕ) (a b : State) (r : Result (Unit {0}) Refusal) → a.env.config.ascii_only ≡ true → Does (symbol span t) a b r → Does (plain_key span t) a b r
key_symbol span t a b r e h = does_same (plain_key span t) (symbol span t) a b r (λ lines maps rest. symbol_same span t rest (record a.env { lines = lines; maps = maps }) e) h

-- ---- as the writer takes names

-- memory is refused only for a name with a backslash
pub key_not_remade : (span : Span) (name : List ℕ) (e : Refusal) (a b : State) → a.failed ≡ false → e ≡ OutOfMemory → (has_byte 92 name ≡ false → ⊥) → b ≡ record a { failed = true } → Does (valid_key span name) a b (Err e)
unfolding valid_key
key_not_remade span name e a b fresh eq h marked = not_anew (valid_key span name) (has_backslash name) (spelled_key span (turned name)) e a b fresh (λ lines maps rest. refl) eq (true_from_ne_false (has_byte 92 name) h) marked

lent_same : (span : Span) (name : List ℕ) (rest : Plan) (env : Env) → env.keeps_invalid ≡ true → key_text span name rest env ≡ spelled_key span name rest env
unfolding key_text
lent_same span name rest env h = ap (λ b. cond b (spelled_key span name rest env) (valid_key span name rest env)) h

pub valid_same : (span : Span) (name : List ℕ) (rest : Plan) (env : Env) → env.keeps_invalid ≡ false → key_text span name rest env ≡ valid_key span name rest env
unfolding key_text
valid_same span name rest env h = ap (λ b. cond b (spelled_key span name rest env) (valid_key span name rest env)) h

-- ---- with comments

pub taking_kept : (span : Span) (t : List ℕ) (before left : Maps) (a b : State) (r : Result (Unit {0}) Refusal) → wants_escapes a.env.config t ≡ false → DoesTaking (plain_key span t) before left a b r → DoesTaking (spelled_key span t) before left a b r
taking_kept span t before left a b r k h = taking_same (spelled_key span t) (plain_key span t) before left a b r (λ lines maps rest. plain_same span t rest (record a.env { lines = lines; maps = maps }) k) h

pub taking_bare : (span : Span) (t : List ℕ) (before left : Maps) (a b : State) (r : Result (Unit {0}) Refusal) → a.env.config.ascii_only ≡ false → DoesTaking (bare_key span t) before left a b r → DoesTaking (plain_key span t) before left a b r
taking_bare span t before left a b r e h = taking_same (plain_key span t) (bare_key span t) before left a b r (λ lines maps rest. bare_same span t rest (record a.env { lines = lines; maps = maps }) e) h

pub taking_remade : (span : Span) (name text : List ℕ) (before left : Maps) (a b : State) (r : Result (Unit {0}) Refusal) → a.failed ≡ false → text ≡ turned name → DoesTaking (spelled_key span text) before left a b r → DoesTaking (valid_key span name) before left a b r
unfolding valid_key
taking_remade span name text before left a b r fresh eq h = taking_anew (valid_key span name) (has_backslash name) (spelled_key span) text (turned name) before left a b r fresh (λ lines maps rest. refl) eq h

pub taking_lent : (span : Span) (name : List ℕ) (before left : Maps) (a b : State) (r : Result (Unit {0}) Refusal) → a.env.keeps_invalid ≡ true → DoesTaking (spelled_key span name) before left a b r → DoesTaking (key_text span name) before left a b r
taking_lent span name before left a b r h k = taking_same (key_text span name) (spelled_key span name) before left a b r (λ lines maps rest. lent_same span name rest (record a.env { lines = lines; maps = maps }) h) k

pub taking_made : (span : Span) (name : List ℕ) (before left : Maps) (a b : State) (r : Result (Unit {0}) Refusal) → a.env.keeps_invalid ≡ false → DoesTaking (valid_key span name) before left a b r → DoesTaking (key_text span name) before left a b r
taking_made span name before left a b r h k = taking_same (key_text span name) (valid_key span name) before left a b r (λ lines maps rest. valid_same span name rest (record a.env { lines = lines; maps = maps }) h) k

pub taking_not_remade : (span : Span) (name : List ℕ) (e : Refusal) (maps : Maps) (a b : State) → a.failed ≡ false → e ≡ OutOfMemory → (has_byte 92 name ≡ false → ⊥) → b ≡ record a { failed = true } → DoesTaking (valid_key span name) maps maps a b (Err e)
taking_not_remade span name e maps a b fresh eq h marked = does_takes (valid_key span name) maps a b (Err e) (key_not_remade span name e a b fresh eq h marked)
