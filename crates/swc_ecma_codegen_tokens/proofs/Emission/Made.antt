-- When an emission of a tree is made, and what is left after it.
use Rattle.std.proofs.Common.{◌≡◌, ◌+◌, ◌^◌, ◌<◌, ◌≤◌, true, false, cond, inl, inr, List, [], ◌∷◌, ◌++◌, length, length-append, Result, Ok, Err, None, Option, Some, OnOk, IsOk, refl, sym, ap, ◌∙◌, subst, arith}
use Rattle.std.proofs.lemmas.Bool.{or_from, or_parts, true≢false}
use Rattle.swc_ecma_codegen_common.specs.declared.errors.Error.{Error}
use Rattle.swc_ecma_codegen_common.specs.declared.errors.Refusal.{Refusal}
use Rattle.swc_ecma_codegen_common.specs.Refusals.{in_short}
use Rattle.swc_ecma_codegen_tokens.specs.declared.refusals.Unprintable.{Unprintable}
use Rattle.swc_ecma_codegen_text_writer.specs.Sheet.{fills_lines}
use Rattle.swc_ecma_codegen_text_writer.proofs.Sheets.{effect_refused, effect_faults, effect_takes_memory, effect_keeps_positions}
use Rattle.swc_ecma_codegen_grammar.specs.Tokens.{Token as LexicalToken, ending}
use Rattle.swc_ecma_codegen_grammar.specs.Settings.{Settings, is_up_to_es5}
use Rattle.swc_ecma_codegen_grammar.specs.Phrases.{Phrase, Never, Nothing, One, NameOf, KeyOf, PrivateOf, TagNameOf, Then, CommaBefore, OptionalParentheses, Chosen, EmptyArguments, LoopEnding, AttributesWord, in_parentheses, close_parenthesis, Generates, chosen, is_possible}
use Rattle.swc_ecma_codegen_tokens.specs.Targets.{is_out}
use Rattle.swc_ecma_codegen_tokens.specs.Run.{Env, is_bounded, at_maps, maps_after, put, Plan, Part, Step, State, run, steps_of, unprintable_in, nothing, Follows, PassesLimit, IsUnhindered, earlier, stopped, reached}
use Rattle.swc_ecma_codegen_tokens.specs.Settings.{settings_of}
use Rattle.swc_ecma_codegen_tokens.specs.Ready.{token_count, IsPlainTree, IsReady}
use Rattle.swc_ecma_codegen_tokens.specs.Written.{Spot}
use Rattle.swc_ecma_codegen_tokens.proofs.Emission.Emitting.{put_failed, put_env}
use Rattle.swc_ecma_codegen_tokens.proofs.Emission.Fronts.{run_sheet, follows_succeeds}
use Rattle.swc_ecma_codegen_tokens.proofs.Emission.Levels.{levels, stays_within}
use Rattle.swc_ecma_codegen_tokens.proofs.Emission.PartSteps.{steps_of_chain}
use Rattle.swc_ecma_codegen_tokens.proofs.Reading.Phrased.{goes_on, printed_remakes, PrintsOn}
use Rattle.swc_ecma_codegen_tokens.proofs.NameTokens.Targets.{plain_not_out}
use Rattle.swc_ecma_codegen_tokens.proofs.Filling.Shapes.{Shape}

argument_count : (s : Settings) → length (chosen s EmptyArguments) ≤ 2
unfolding chosen
argument_count s = elim s.minify as (λ b. length (cond b [] (in_parentheses [])) ≤ 2) [ true ↦ omega arith | false ↦ omega arith ]

ending_count : (s : Settings) → length (chosen s LoopEnding) ≤ 1
unfolding chosen
ending_count s = elim (is_up_to_es5 s.target) as (λ b. length (cond b (ending ∷ []) []) ≤ 1) [ true ↦ omega arith | false ↦ omega arith ]

-- each list of a phrase has no more tokens
counted : (s : Settings) (f : Phrase) (ts : List LexicalToken) → Generates s f ts → length ts ≤ token_count f
unfolding Generates token_count chosen
counted s Never ts g = absurd g
counted s Nothing ts g = let e = ap length g in omega (arith, e)
counted s (One x) ts g = let e = ap length g in omega (arith, e)
counted s (NameOf at bytes) ts g = let e = ap length g in omega (arith, e)
counted s (KeyOf at bytes) ts g = let e = ap length g in omega (arith, e)
counted s (PrivateOf bytes) ts g = let e = ap length g in omega (arith, e)
counted s (TagNameOf at bytes) ts g = let e = ap length g in omega (arith, e)
counted s (Then a b) ts g =
    let h = counted s a g.0 g.2 in
    let k = counted s b g.1 g.3 in
    let e = ap length g.4 in
    omega (arith, h, k, e, length-append g.0 g.1)
counted s (CommaBefore close) ts (inl g) = let e = ap length g in omega (arith, e)
counted s (CommaBefore close) ts (inr g) = let e = ap length g in omega (arith, e)
counted s (OptionalParentheses round a) ts (inl g) = let h = counted s a ts g in omega (arith, h)
counted s (OptionalParentheses round a) ts (inr g) =
    let h = counted s a g.0 g.1 in
    let e = ap length g.2 in
    omega (arith, h, e, length-append g.0 (close_parenthesis ∷ []))
counted s (Chosen EmptyArguments) ts g = let h = argument_count s in let e = ap length g in omega (arith, h, e)
counted s (Chosen LoopEnding) ts g = let h = ending_count s in let e = ap length g in omega (arith, h, e)
counted s (Chosen AttributesWord) ts g = let e = ap length g in omega (arith, e)

-- each node of a well-formed tree can be printed, whose names can
pub printable : {v w : Spot} {i : Shape} (p : Part) (f : Phrase) (env : Env) → PrintsOn v w i env p f → is_possible f ≡ true → is_out env.config f ≡ false → unprintable_in (p nothing env) ≡ None
unfolding nothing unprintable_in
printable p f env prints w o = goes_on (prints.where_possible w o env.maps).writes nothing

-- and with room for as many levels as tokens it comes to no limit
pub within : {v w : Spot} {i : Shape} (p : Part) (f : Phrase) (a : State) → PrintsOn v w i a.env p f → is_possible f ≡ true → is_out a.env.config f ≡ false → a.sheet.indentation + token_count f < 2 ^ 32 → PassesLimit (steps_of (p nothing a.env)) a → ⊥
unfolding nothing
within p f a prints w o room =
    let h = prints.where_possible w o a.env.maps in
    let same : steps_of (p nothing a.env) ≡ h.writes.steps = ap steps_of (h.writes.is_steps nothing) ∙ steps_of_chain h.writes.steps in
    let deep = h.writes.deep in
    let count = counted (settings_of a.env.config) f h.tokens h.generated in
    let few = ap levels same in
    stays_within (steps_of (p nothing a.env)) a (omega (arith, deep, count, few, room))

-- nothing stands in the way of a plain tree
plain_unhindered : {v w : Spot} {i : Shape} (p : Part) (f : Phrase) (a b : State) → PrintsOn v w i a.env p f → IsPlainTree a.env.config f a.sheet.indentation → IsReady a → b.sheet.faults ≡ a.sheet.faults → IsUnhindered (p nothing a.env) a b
plain_unhindered p f a b prints t s e = record {
  fresh = or_from _ _ s.none_failed s.none_refused;
  no_fault = e;
  can_count = s.can_count;
  no_memory = or_from _ _ s.no_memory (printed_remakes p f a.env prints t.well_formed t.no_text_made);
  within = within p f a prints t.well_formed (plain_not_out a.env.config f t.no_text_made) t.has_room;
  near = λ far. true≢false (sym far.0 ∙ s.no_positions);
  printable = printable p f a.env prints t.well_formed (plain_not_out a.env.config f t.no_text_made);
}

pub plain_made : {v w : Spot} {i : Shape} (p : Part) (f : Phrase) (a b : State) (r : Result (Unit {0}) Refusal) → PrintsOn v w i a.env p f → IsPlainTree a.env.config f a.sheet.indentation → IsReady a → b.sheet.faults ≡ a.sheet.faults → Follows (p nothing) a b r → IsOk r
plain_made p f a b r prints t s e h = follows_succeeds (p nothing) a b r h (plain_unhindered p f a b prints t s e)

-- ---- what is left after it

run_failed : (xs : List Step) (a : State) → (run xs a).failed ≡ a.failed
unfolding run
run_failed [] a = refl
run_failed (x ∷ xs) a = run_failed xs _ ∙ put_failed x a

-- only the comments that are still to be taken may be others
pub run_env : (xs : List Step) (a : State) → (run xs a).env ≡ at_maps (maps_after xs a.env.maps) a.env
unfolding run maps_after
run_env [] a = refl
run_env (x ∷ xs) a = run_env xs (put x a) ∙ ap (λ (z : Env). at_maps (maps_after xs z.maps) z) (put_env x a)

run_ready : (xs : List Step) (a : State) → fills_lines (run xs a).sheet.lines ≡ false → IsReady a → IsReady (run xs a)
run_ready xs a n s =
    let faults = run_sheet (λ z. z.faults) effect_faults xs a in
    let can_count = s.can_count in
    record {
      none_failed = run_failed xs a ∙ s.none_failed;
      none_refused = run_sheet (λ z. z.refused) effect_refused xs a ∙ s.none_refused;
      no_memory = or_from _ _ (run_sheet (λ z. z.takes_memory) effect_takes_memory xs a ∙ (or_parts a.sheet.takes_memory (fills_lines a.sheet.lines) s.no_memory).0) n;
      no_positions = run_sheet (λ z. z.keeps_positions) effect_keeps_positions xs a ∙ s.no_positions;
      unbounded = ap (λ (z : Env). is_bounded z) (run_env xs a) ∙ s.unbounded;
      leaves_out = ap (λ (z : Env). z.keeps_invalid) (run_env xs a) ∙ s.leaves_out;
      can_count = omega (arith, faults, can_count);
    }

-- an emission that was made leaves it ready for the next, where no lines are filled then
pub ready_after : (p : Plan) (a b : State) (r : Result (Unit {0}) Error) → Follows p a b (in_short r) → OnOk r (fills_lines b.sheet.lines ≡ false → IsReady a → IsReady b)
unfolding Follows
ready_after p a b (Ok u) h = λ n s. subst IsReady (sym h.1) (run_ready (steps_of (p a.env)) a (sym (ap (λ (z : State). fills_lines z.sheet.lines) h.1) ∙ n) s)
ready_after p a b (Err e) h = tt

-- ---- nothing

no_split : (front : List Step) (x : Step) (rest : List Step) → ◌≡◌ {A = List Step} [] (front ++ (x ∷ rest)) → ⊥
no_split [] x rest h = absurd (cc)
no_split (y ∷ front) x rest h = absurd (cc)

no_refusal : (r : Unprintable) → ◌≡◌ {A = Option Unprintable} None (Some r) → ⊥
no_refusal r h = absurd (cc)

-- where nothing is to be done, nothing changes
pub nothing_changes : (a b : State) (r : Result (Unit {0}) Refusal) → Follows nothing a b r → b ≡ a
unfolding Follows nothing run steps_of unprintable_in
nothing_changes a b (Ok u) h = h.1
nothing_changes a b (Err e) (earlier h k m) = m
nothing_changes a b (Err e) (stopped h) = absurd (no_split h.front h.step h.rest h.split)
nothing_changes a b (Err e) (reached r h k q m) = absurd (no_refusal r k)

-- and it is refused only for an earlier refusal
pub nothing_made : (a b : State) (r : Result (Unit {0}) Error) → Follows nothing a b (in_short r) → a.failed ≡ false → IsOk r
unfolding Follows nothing steps_of unprintable_in
nothing_made a b (Ok u) h f = refl
nothing_made a b (Err e) (earlier h k m) f = absurd (true≢false (sym h ∙ f))
nothing_made a b (Err e) (stopped h) f = absurd (no_split h.front h.step h.rest h.split)
nothing_made a b (Err e) (reached r h k q m) f = absurd (no_refusal r k)
