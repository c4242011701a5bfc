-- Parts of a plan that take no memory, and make no level.
use Rattle.std.proofs.Common.{◌≡◌, ℕ, Bool, true, false, not, cond, ◌&&◌, ◌||◌, List, [], ◌∷◌, ◌++◌, codes, ◌^◌, ◌<◌, arith, refl, sym, ap, ◌∙◌, subst, inl, inr, is_some, Option, None, Some}
use Rattle.std.proofs.lemmas.Bool.{cases_Bool, false_from_ne_true, or_from, true≢false}
use Rattle.std.specs.Str.{chars}
use Rattle.swc_ecma_codegen_common.specs.declared.positions.Span.{Span}
use Rattle.swc_ecma_codegen_spans.specs.Spans.{dummy_span}
use Rattle.swc_ecma_codegen_grammar.specs.declared.kinds.Kind.TheVariants.{Word, Name, Punctuator, Ending}
use Rattle.swc_ecma_codegen_grammar.specs.CommentMaps.{Maps}
use Rattle.swc_ecma_codegen_grammar.specs.Tokens as lexical
use Rattle.swc_ecma_codegen_grammar.specs.ValidNames.{turned}
use Rattle.swc_ecma_codegen_text_writer.specs.Sheet.{AllowBreak, Semi, Keyword, Operator, Symbol, Punct}
use Rattle.swc_ecma_codegen_literals.specs.AsciiNames.{is_ascii_text, is_out_of_target}
use Rattle.swc_ecma_codegen_tokens.specs.Run.{Env, Plan, Part, State, Step, Guard, Token, Plain as Call, Remake, is_bounded, with_max_line, done, at_maps, maps_after, step, steps_of, steps_in, nothing, unprintable_in, makes_text, has_backslash, IsUnhindered}
use Rattle.swc_ecma_codegen_tokens.specs.Targets.{wants_escapes, in_ascii, is_out_name}
use Rattle.swc_ecma_codegen_tokens.specs.Words.{allow_break, allows_break, break_where, bare_punct, bare_semi, keyword, operator, word_operator, punct, semi, symbol, spelled_symbol, valid_symbol, name_text, question, name}
use Rattle.swc_ecma_codegen_tokens.specs.Ready.{IsReady}
use Rattle.swc_ecma_codegen_tokens.specs.Written.{Spot}
use Rattle.swc_ecma_codegen_tokens.proofs.Emission.Levels.{levels, rise, levels_append, stays_within}
use Rattle.swc_ecma_codegen_tokens.proofs.Filling.Shapes.{Shape}
use Rattle.swc_ecma_codegen_tokens.proofs.NameTokens.Spelled.{spelled_same}
use Rattle.swc_ecma_codegen_tokens.proofs.Emission.PartSteps.{steps_of_chain}
use Rattle.swc_ecma_codegen_emit.specs.declared.nodes.Context.TheVariants.{Plain}
use Rattle.swc_ecma_codegen_emit.specs.Places.{Place, Whole, alone, by_itself, with_lines}
use Rattle.swc_ecma_codegen_laws.specs.Basic.{TakesNoMemory}
use Rattle.swc_ecma_codegen_tokens.proofs.Reading.Printed.{chain, chain_append, env_after, maps_append, remakes_append, MakesWithinOn, writes_position, writes_commit}
use Rattle.swc_ecma_codegen_tokens.proofs.Commenting.CommentPrints.{writes_leading}

-- A part is these steps, whatever comes after it; no text of theirs is made anew, and none of them makes the indentation deeper.
pub record QuietFrom (env : Env) (part : Part) : Type 0 where
  pub steps : List Step
  pub is_steps : (rest : Plan) → part rest env ≡ chain steps (rest (env_after steps env))
  pub quiet : makes_text steps ≡ false
  pub flat : levels steps ≡ 0

-- It is so whatever comments are still to be taken.
pub record Quiet (env : Env) (part : Part) : Type 0 where
  pub from : (maps : Maps) → QuietFrom (at_maps maps env) part

-- one part after the other, where the second begins with the comments that the first leaves
quiet_from : (env : Env) (p q : Part) (h : QuietFrom env p) → QuietFrom (env_after h.steps env) q → QuietFrom env (λ rest. p (q rest))
quiet_from env p q h k = record {
  steps = h.steps ++ k.steps;
  is_steps = λ rest.
      h.is_steps (q rest) ∙ ap (λ z. chain h.steps z) (k.is_steps rest) ∙ sym (chain_append h.steps k.steps (rest (env_after k.steps (env_after h.steps env))))
      ∙ ap (λ z. chain (h.steps ++ k.steps) (rest (at_maps z env))) (sym (maps_append h.steps k.steps env.maps));
  quiet = remakes_append h.steps k.steps ∙ or_from (makes_text h.steps) (makes_text k.steps) h.quiet k.quiet;
  flat = let x = h.flat in let y = k.flat in omega (arith, x, y, levels_append h.steps k.steps);
}

pub then : {env : Env} {p q : Part} → Quiet env p → Quiet env q → Quiet env (λ rest. p (q rest))
then {env} {p} {q} h k = record { from = λ maps. let x = h.from maps in quiet_from (at_maps maps env) p q x (k.from (maps_after x.steps maps)) }

-- a part that is written as another is
pub quiet_same : (env : Env) (p q : Part) → ((maps : Maps) (rest : Plan) → p rest (at_maps maps env) ≡ q rest (at_maps maps env)) → Quiet env q → Quiet env p
quiet_same env p q e h = record { from = λ maps. let x = h.from maps in record { steps = x.steps; is_steps = λ rest. e maps rest ∙ x.is_steps rest; quiet = x.quiet; flat = x.flat } }

-- one that is known to be so by how it is written
pub quiet_made : {v w : Spot} {i : Shape} {env : Env} {p : Part} {ts : List lexical.Token} → MakesWithinOn v w i 0 env p ts false → Quiet env p
quiet_made h = record {
  from = λ maps.
      let x = h.from maps in
      let deep = x.deep in
      record { steps = x.steps; is_steps = x.is_steps; quiet = false_from_ne_true _ (λ e. true≢false (sym (x.remakes e))); flat = omega (arith, deep) };
}

-- one of two parts
pub quiet_if : (env : Env) (b : Bool) (p q : Part) → Quiet env p → Quiet env q → Quiet env (λ rest. cond b (p rest) (q rest))
quiet_if env true p q h k = h
quiet_if env false p q h k = k

pub quiet_nothing : (env : Env) → Quiet env (λ rest. rest)
unfolding chain makes_text maps_after levels
quiet_nothing env = record { from = λ maps. record { steps = []; is_steps = λ rest. refl; quiet = refl; flat = refl } }

-- one step
quiet_step : (env : Env) (x : Step) → makes_text (x ∷ []) ≡ false → levels (x ∷ []) ≡ 0 → Quiet env (step x)
unfolding step chain maps_after
quiet_step env x e k = record { from = λ maps. record { steps = x ∷ []; is_steps = λ rest. refl; quiet = e; flat = k } }

-- ---- tokens

pub quiet_keyword : (env : Env) (span : Option Span) (t : List ℕ) → Quiet env (keyword span t)
unfolding keyword makes_text levels rise
quiet_keyword env span t = then (quiet_step env (Guard t) refl refl) (quiet_step env (Token Word (Keyword span t)) refl refl)

pub quiet_operator : (env : Env) (t : List ℕ) → Quiet env (operator t)
unfolding operator makes_text levels rise
quiet_operator env t = then (quiet_step env (Guard t) refl refl) (quiet_step env (Token Punctuator (Operator None t)) refl refl)

pub quiet_word_operator : (env : Env) (t : List ℕ) → Quiet env (word_operator t)
unfolding word_operator makes_text levels rise
quiet_word_operator env t = then (quiet_step env (Guard t) refl refl) (quiet_step env (Token Word (Operator None t)) refl refl)

-- where a line may be ended
quiet_break : (env : Env) → Quiet env (step (Call AllowBreak))
unfolding makes_text levels rise
quiet_break env = quiet_step env (Call AllowBreak) refl refl

pub quiet_allow_break : (env : Env) → Quiet env allow_break
unfolding allow_break break_where
quiet_allow_break env = quiet_same env allow_break (λ rest. cond (is_bounded env) (step (Call AllowBreak) rest) rest) (λ maps rest. refl) (quiet_if env (is_bounded env) (step (Call AllowBreak)) (λ rest. rest) (quiet_break env) (quiet_nothing env))

quiet_bare_punct : (env : Env) (t : List ℕ) → Quiet env (bare_punct t)
unfolding bare_punct makes_text levels rise
quiet_bare_punct env t = then (quiet_step env (Guard t) refl refl) (quiet_step env (Token Punctuator (Punct None t)) refl refl)

pub quiet_punct : (env : Env) (t : List ℕ) → Quiet env (punct t)
unfolding punct
quiet_punct env t = then (quiet_bare_punct env t) (quiet_if env (allows_break t) allow_break (λ rest. rest) (quiet_allow_break env) (quiet_nothing env))

quiet_bare_semi : (env : Env) → Quiet env bare_semi
unfolding bare_semi makes_text levels rise
quiet_bare_semi env = then (quiet_step env (Guard (codes ";")) refl refl) (quiet_step env (Token Ending (Semi None)) refl refl)

pub quiet_semi : (env : Env) → Quiet env semi
unfolding semi
quiet_semi env = then (quiet_bare_semi env) (quiet_allow_break env)

-- ---- names, where the settings don't ask for ASCII

quiet_remake : (env : Env) (due : Bool) → due ≡ false → Quiet env (step (Remake due))
unfolding makes_text levels rise
quiet_remake env due e = quiet_step env (Remake due) (ap (λ b. b || false) e) refl

quiet_symbol : (env : Env) (span : Span) (t : List ℕ) → Quiet env (symbol span t)
unfolding symbol makes_text levels rise
quiet_symbol env span t = then (quiet_step env (Guard t) refl refl) (then (quiet_made (writes_position env span.lo)) (quiet_step env (Token Name (Symbol dummy_span t)) refl refl))

none_out : (env : Env) (t : List ℕ) → env.config.ascii_only ≡ false → is_out_name env.config t ≡ false
unfolding is_out_name
none_out env t e = ap (λ b. b && is_out_of_target false env.config.target (chars t)) e

none_escaped : (env : Env) (t : List ℕ) → env.config.ascii_only ≡ false → wants_escapes env.config t ≡ false
unfolding wants_escapes
none_escaped env t e = ap (λ b. b && not (is_ascii_text t)) e

quiet_spelled : (env : Env) (span : Span) (t : List ℕ) → env.config.ascii_only ≡ false → Quiet env (spelled_symbol span t)
quiet_spelled env span t e =
    quiet_same env (spelled_symbol span t) (λ rest. step (Remake (wants_escapes env.config t)) (symbol span (in_ascii env.config t) rest)) (λ maps rest. spelled_same span t rest (at_maps maps env) (none_out env t e))
    (then (quiet_remake env (wants_escapes env.config t) (none_escaped env t e)) (quiet_symbol env span (in_ascii env.config t)))

quiet_valid : (env : Env) (span : Span) (t : List ℕ) → env.config.ascii_only ≡ false → has_backslash t ≡ false → Quiet env (valid_symbol span t)
unfolding valid_symbol
quiet_valid env span t e h = then (quiet_remake env (has_backslash t) h) (quiet_spelled env span (turned t) e)

text_by : (b : Bool) (span : Span) (t : List ℕ) (rest : Plan) (env : Env) → env.keeps_invalid ≡ b → name_text span t rest env ≡ cond b (spelled_symbol span t rest env) (valid_symbol span t rest env)
unfolding name_text
text_by b span t rest env e = ap (λ k. cond k (spelled_symbol span t rest env) (valid_symbol span t rest env)) e

-- whether the writer leaves out U+0000 after a backslash or not
quiet_name_text : (env : Env) (span : Span) (t : List ℕ) → env.config.ascii_only ≡ false → has_backslash t ≡ false → Quiet env (name_text span t)
quiet_name_text env span t e h = elim (cases_Bool env.keeps_invalid) [
  | inl k ↦ quiet_same env (name_text span t) (spelled_symbol span t) (λ maps rest. text_by true span t rest (at_maps maps env) k) (quiet_spelled env span t e)
  | inr k ↦ quiet_same env (name_text span t) (valid_symbol span t) (λ maps rest. text_by false span t rest (at_maps maps env) k) (quiet_valid env span t e h)
]

quiet_question : (env : Env) (optional : Bool) → Quiet env (question optional)
unfolding question
quiet_question env optional = quiet_if env optional (punct (codes "?")) (λ rest. rest) (quiet_punct env (codes "?")) (quiet_nothing env)

pub quiet_name : (env : Env) (span : Span) (t : List ℕ) (optional : Bool) → env.config.ascii_only ≡ false → has_backslash t ≡ false → Quiet env (name span t optional)
unfolding name
quiet_name env span t optional e h = then (quiet_made (writes_leading env span.lo)) (then (quiet_made (writes_commit env)) (then (quiet_name_text env span t e h) (quiet_question env optional)))

-- ---- whole plans

none_unprintable : (xs : List Step) → unprintable_in (chain xs done) ≡ None
unfolding unprintable_in chain
none_unprintable [] = refl
none_unprintable (x ∷ xs) = none_unprintable xs

quiet_steps : (p : Part) (s : State) → Quiet s.env p → makes_text (steps_of (steps_in p s)) ≡ false
unfolding nothing
quiet_steps p s h = let x = h.from s.env.maps in ap (λ z. makes_text (steps_of z)) (x.is_steps nothing) ∙ ap makes_text (steps_of_chain x.steps) ∙ x.quiet

quiet_ends : (p : Part) (s : State) → Quiet s.env p → unprintable_in (steps_in p s) ≡ None
unfolding nothing
quiet_ends p s h = let x = h.from s.env.maps in ap unprintable_in (x.is_steps nothing) ∙ none_unprintable x.steps

quiet_flat : (p : Part) (s : State) → Quiet s.env p → levels (steps_of (steps_in p s)) ≡ 0
unfolding nothing
quiet_flat p s h = let x = h.from s.env.maps in ap (λ z. levels (steps_of z)) (x.is_steps nothing) ∙ ap levels (steps_of_chain x.steps) ∙ x.flat

quiet_unhindered : (p : Part) (a b : State) → Quiet a.env p → IsReady a → a.sheet.indentation < 2 ^ 32 → b.sheet.faults ≡ a.sheet.faults → IsUnhindered (steps_in p a) a b
quiet_unhindered p a b h s room e =
    let flat = quiet_flat p a h in
    record {
      fresh = or_from _ _ s.none_failed s.none_refused;
      no_fault = e;
      can_count = s.can_count;
      no_memory = or_from _ _ s.no_memory (quiet_steps p a h);
      within = stays_within (steps_of (steps_in p a)) a (omega (arith, flat, room));
      near = λ far. true≢false (sym far.0 ∙ s.no_positions);
      printable = quiet_ends p a h;
    }

-- what a node goes by that stands by itself
abbrev pub inside : Env → Env
inside env = record env { max_line = None }

place_alone : (minify : Bool) (max : Option ℕ) → (is_some max && minify) ≡ false → cond minify (with_lines max) (Whole Plain) ≡ Whole Plain
place_alone true None h = refl
place_alone true (Some max) h = absurd (true≢false h)
place_alone false max h = refl

-- where lines aren't bounded, nothing is asked of it
pub quiet_itself : (env : Env) (items : Place → Part) → is_bounded env ≡ false → Quiet (inside env) (items (Whole Plain)) → Quiet env (by_itself items)
unfolding by_itself with_max_line
quiet_itself env items h k =
    let here : Quiet (inside env) (items (alone env)) = subst (λ z. Quiet (inside env) (items z)) (sym (place_alone env.config.minify env.max_line h)) k in
    record {
      from = λ maps.
          let x = here.from maps in
          record { steps = x.steps; is_steps = λ rest. x.is_steps (λ inner. rest (record inner { max_line = env.max_line })); quiet = x.quiet; flat = x.flat };
    }

pub takes_none : (p : Part) → ((env : Env) → env.config.ascii_only ≡ false → is_bounded env ≡ false → Quiet env p) → TakesNoMemory p
takes_none p law = record {
  memory = λ s e k. quiet_steps p s (law s.env e k);
  printable = λ s e k. quiet_ends p s (law s.env e k);
  made = λ a b e s room same. quiet_unhindered p a b (law a.env e s.unbounded) s room same;
}

pub itself_takes_none : (items : Place → Part) → ((env : Env) → env.config.ascii_only ≡ false → Quiet env (items (Whole Plain))) → TakesNoMemory (by_itself items)
itself_takes_none items law = takes_none (by_itself items) (λ env e k. quiet_itself env items k (law (inside env) e))
