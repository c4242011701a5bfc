-- The trailing comma of a list.
use Rattle.std.proofs.Common.{◌≡◌, ◌==◌, Bool, true, false, cond, ℕ, Result, Ok, Err, refl, ap, subst, ◌∙◌}
use Rattle.swc_ecma_codegen_common.specs.declared.errors.Refusal.{Refusal}
use Rattle.swc_ecma_codegen_common.specs.declared.errors.Refusal.TheVariants.{OutOfMemory}
use Rattle.swc_ecma_codegen_common.specs.declared.positions.Span.{Span}
use Rattle.swc_ecma_codegen_grammar.specs.SourceLines.{Lines}
use Rattle.swc_ecma_codegen_grammar.specs.CommentMaps.{Maps}
use Rattle.swc_ecma_codegen_grammar.specs.ListFormats.{forces_trailing_comma, allows_trailing_comma}
use Rattle.swc_ecma_codegen_tokens.specs.Run.{Env, Plan, Part, State, Remake, Emits, Does, at_source, step}
use Rattle.swc_ecma_codegen_tokens.specs.Lists.{by_lines, comma_if, source_has_comma, source_comma, wanted_comma, may_have_comma, trailing_comma}
use Rattle.swc_ecma_codegen_tokens.proofs.Emission.Emitting.{does_here}
use Rattle.swc_ecma_codegen_tokens.proofs.LiteralTokens.RewrittenLiterals.{anew, emits_same, not_here}

pub source_same : (parent : Span) (rest : Plan) (env : Env) → (parent.lo.0 == 0) ≡ false → source_comma parent rest env ≡ step (Remake true) (comma_if (source_has_comma (env.lines.snippet parent)) rest) env
unfolding source_comma by_lines step
source_same parent rest env h = ap (λ b. cond b rest (step (Remake true) (by_lines (λ lines. comma_if (source_has_comma (lines.snippet parent))) rest)) env) h

-- the source text was read
pub comma_read : (lines : Lines) (maps : Maps) (parent : Span) (wanted : Bool) (a b : State) (r : Result (Unit {0}) Refusal) → (parent.lo.0 == 0) ≡ false → a.failed ≡ false → wanted ≡ source_has_comma (lines.snippet parent) → Does (comma_if wanted) a b r → Emits (source_comma parent) (at_source lines maps a) (at_source lines maps b) r
comma_read lines maps parent wanted a b r some fresh eq h =
    let there : State = at_source lines maps a in
    let after : State = at_source lines maps b in
    let said : Part = comma_if (source_has_comma (lines.snippet parent)) in
    let P : Bool → Type 0 = λ w. Emits (comma_if w) there after r in
    emits_same (source_comma parent) (λ rest. step (Remake true) (said rest)) there after r (λ rest. source_same parent rest there.env some)
    (anew true said there after r fresh (subst P eq (does_here lines maps (comma_if wanted) a b r h)))

-- or memory for it is wanting
pub comma_unread : (lines : Lines) (maps : Maps) (parent : Span) (e : Refusal) (a b : State) → (parent.lo.0 == 0) ≡ false → a.failed ≡ false → e ≡ OutOfMemory → b ≡ record a { failed = true } → Emits (source_comma parent) (at_source lines maps a) (at_source lines maps b) (Err e)
comma_unread lines maps parent e a b some fresh eq marked =
    let there : State = at_source lines maps a in
    not_here (source_comma parent) true (comma_if (source_has_comma (lines.snippet parent))) e there (at_source lines maps b) fresh (λ rest. source_same parent rest there.env some) eq refl (ap (at_source lines maps) marked)

-- ---- by the format

pub forced_same : (format : ℕ) (parent : Span) (rest : Plan) (env : Env) → forces_trailing_comma format ≡ true → wanted_comma format parent rest env ≡ comma_if true rest env
unfolding wanted_comma
forced_same format parent rest env h = ap (λ b. cond b (comma_if true rest) (cond (allows_trailing_comma format) (source_comma parent rest) rest) env) h

pub comma_forced : (lines : Lines) (maps : Maps) (format : ℕ) (parent : Span) (a b : State) (r : Result (Unit {0}) Refusal) → forces_trailing_comma format ≡ true → Does (comma_if true) a b r → Emits (wanted_comma format parent) (at_source lines maps a) (at_source lines maps b) r
comma_forced lines maps format parent a b r h k = emits_same (wanted_comma format parent) (comma_if true) (at_source lines maps a) (at_source lines maps b) r (λ rest. forced_same format parent rest (at_source lines maps a).env h) (does_here lines maps (comma_if true) a b r k)

pub written_same : (format : ℕ) (parent : Span) (rest : Plan) (env : Env) → may_have_comma format env.config ≡ true → trailing_comma format parent rest env ≡ wanted_comma format parent rest env
unfolding trailing_comma
written_same format parent rest env h = ap (λ b. cond b (wanted_comma format parent rest env) (rest env)) h

pub left_out_same : (format : ℕ) (parent : Span) (rest : Plan) (env : Env) → may_have_comma format env.config ≡ false → trailing_comma format parent rest env ≡ rest env
unfolding trailing_comma
left_out_same format parent rest env h = ap (λ b. cond b (wanted_comma format parent rest env) (rest env)) h

pub comma_written : (format : ℕ) (parent : Span) (a b : State) (r : Result (Unit {0}) Refusal) → may_have_comma format a.env.config ≡ true → Emits (wanted_comma format parent) a b r → Emits (trailing_comma format parent) a b r
comma_written format parent a b r h k = emits_same (trailing_comma format parent) (wanted_comma format parent) a b r (λ rest. written_same format parent rest a.env h) k

pub comma_left_out : (format : ℕ) (parent : Span) (a : State) → may_have_comma format a.env.config ≡ false → Emits (trailing_comma format parent) a a (Ok tt)
comma_left_out format parent a h = emits_same (trailing_comma format parent) (λ rest. rest) a a (Ok tt) (λ rest. left_out_same format parent rest a.env h) (λ rest c r f. f)

pub allowed_same : (format : ℕ) (parent : Span) (rest : Plan) (env : Env) → forces_trailing_comma format ≡ false → allows_trailing_comma format ≡ true → wanted_comma format parent rest env ≡ source_comma parent rest env
unfolding wanted_comma
allowed_same format parent rest env h k =
    ap (λ b. cond b (comma_if true rest) (cond (allows_trailing_comma format) (source_comma parent rest) rest) env) h
    ∙ ap (λ b. cond b (source_comma parent rest) rest env) k

pub comma_allowed : (format : ℕ) (parent : Span) (a b : State) (r : Result (Unit {0}) Refusal) → forces_trailing_comma format ≡ false → allows_trailing_comma format ≡ true → Emits (source_comma parent) a b r → Emits (wanted_comma format parent) a b r
comma_allowed format parent a b r h k e = emits_same (wanted_comma format parent) (source_comma parent) a b r (λ rest. allowed_same format parent rest a.env h k) e
