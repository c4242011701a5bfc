-- Where an emission stands, with another greatest length of lines.
use Rattle.std.proofs.Common.{◌≡◌, ℕ, cond, true, false, List, [], ◌∷◌, Option, Result, Ok, Err, None, refl, sym, ap, ◌∙◌, subst}
use Rattle.std.specs.Str.{chars}
use Rattle.swc_ecma_codegen_common.specs.declared.errors.Refusal.{Refusal}
use Rattle.swc_ecma_codegen_grammar.specs.GapRules.{fuses, Separated}
use Rattle.swc_ecma_codegen_text_writer.specs.Sheet.{Sheet, Space, effect}
use Rattle.swc_ecma_codegen_tokens.specs.Run.{Env, Plan, State, Step, Guard, Token, Plain, Ends, Remake, Take, CommentText, Steps, IsRefused, Halts, earlier, stopped, reached, Follows, put, run, steps_of, unprintable_in}
use Rattle.swc_ecma_codegen_tokens.proofs.Filling.Lengths.{at_length}
use Rattle.swc_ecma_codegen_tokens.proofs.Emission.Made.{run_env}

abbrev pub lengthened : Option ℕ → State → State
lengthened max s = record s { env = at_length max s.env }

put_length : (max : Option ℕ) (x : Step) (s : State) → put x (lengthened max s) ≡ lengthened max (put x s)
unfolding put
put_length max (Guard t) s = elim (fuses s.last (chars t)) as (λ b. cond b (record (lengthened max s) { sheet = effect Space s.sheet; last = Separated }) (lengthened max s) ≡ lengthened max (cond b (record s { sheet = effect Space s.sheet; last = Separated }) s)) [ true ↦ refl | false ↦ refl ]
put_length max (Token kind x) s = refl
put_length max (Plain x) s = refl
put_length max (Ends tokens x) s = refl
put_length max (Remake due) s = refl
put_length max (Take side at) s = refl
put_length max (CommentText t) s = refl

pub run_length : (max : Option ℕ) (xs : List Step) (s : State) → run xs (lengthened max s) ≡ lengthened max (run xs s)
unfolding run
run_length max [] s = refl
run_length max (x ∷ xs) s = ap (run xs) (put_length max x s) ∙ run_length max xs (put x s)

refused_length : (max : Option ℕ) (x : Step) (e : Refusal) (a : State) (new : Sheet) → IsRefused x e (lengthened max a) new → IsRefused x e a new
unfolding IsRefused
refused_length max (Guard t) e a new h = h
refused_length max (Token kind x) e a new h = h
refused_length max (Plain x) e a new h = h
refused_length max (Ends tokens x) e a new h = h
refused_length max (Remake due) e a new h = h
refused_length max (Take side at) e a new h = h
refused_length max (CommentText t) e a new h = h

-- the length that it has
as_it_is : (max : Option ℕ) (s : State) → max ≡ s.env.max_line → lengthened max s ≡ s
as_it_is max s e = ap (λ z. lengthened z s) e

run_keeps : (xs : List Step) (a : State) → (run xs a).env.max_line ≡ a.env.max_line
run_keeps xs a = ap (λ (z : Env). z.max_line) (run_env xs a)

-- a state at another length is where another is
back : (max : Option ℕ) (c d : State) → lengthened max c ≡ lengthened max d → c.env.max_line ≡ d.env.max_line → c ≡ d
back max c d h e = ap (lengthened c.env.max_line) h ∙ as_it_is c.env.max_line d e

-- a plan leaves it
halts_keeps : (xs : Steps) (e : Refusal) (a b : State) → Halts xs e a b → b.env.max_line ≡ a.env.max_line
halts_keeps xs e a b (earlier f q k) = ap (λ (s : State). s.env.max_line) k
halts_keeps xs e a b (stopped s) = ap (λ (z : State). z.env.max_line) s.marked ∙ run_keeps s.front a
halts_keeps xs e a b (reached r f u q k) = ap (λ (z : State). z.env.max_line) k ∙ run_keeps (steps_of xs) a

pub follows_keeps : (p : Plan) (a b : State) (r : Result (Unit {0}) Refusal) → Follows p a b r → b.env.max_line ≡ a.env.max_line
unfolding Follows
follows_keeps p a b (Ok u) h = ap (λ (z : State). z.env.max_line) h.1 ∙ run_keeps (steps_of (p a.env)) a
follows_keeps p a b (Err e) h = halts_keeps (p a.env) e a b h

halts_length : (xs : Steps) (max : Option ℕ) (e : Refusal) (a c : State) → c.env.max_line ≡ a.env.max_line → Halts xs e (lengthened max a) (lengthened max c) → Halts xs e a c
halts_length xs max e a c k (earlier f q h) = earlier f q (back max c a h k)
halts_length xs max e a c k (stopped s) =
    let same = run_length max s.front a in
    let there : State = record (run s.front a) { sheet = c.sheet; failed = true } in
    let marked : lengthened max c ≡ lengthened max there = s.marked ∙ ap (λ (z : State). record z { sheet = c.sheet; failed = true }) same in
    let refuses : IsRefused s.step e (lengthened max (run s.front a)) c.sheet = subst (λ z. IsRefused s.step e z c.sheet) same s.refuses in
    stopped (record { front = s.front; step = s.step; rest = s.rest; split = s.split; fresh = s.fresh; marked = back max c there marked (k ∙ sym (run_keeps s.front a)); refuses = refused_length max s.step e (run s.front a) c.sheet refuses })
halts_length xs max e a c k (reached r f u q h) =
    let there : State = record (run (steps_of xs) a) { failed = true } in
    let marked : lengthened max c ≡ lengthened max there = h ∙ ap (λ (z : State). record z { failed = true }) (run_length max (steps_of xs) a) in
    reached r f u q (back max c there marked (k ∙ sym (run_keeps (steps_of xs) a)))

-- What a plan leads to at another length, one with the same steps leads to.
pub follows_length : (p q : Plan) (max : Option ℕ) (a c : State) (r : Result (Unit {0}) Refusal) → q a.env ≡ p (at_length max a.env) → c.env.max_line ≡ a.env.max_line → Follows p (lengthened max a) (lengthened max c) r → Follows q a c r
unfolding Follows
follows_length p q max a c (Ok u) e k h =
    let P : Steps → Type 0 = λ xs. (unprintable_in xs ≡ None) × (c ≡ run (steps_of xs) a) in
    let steps : List Step = steps_of (p (at_length max a.env)) in
    subst P (sym e) (h.0, back max c (run steps a) (h.1 ∙ run_length max steps a) (k ∙ sym (run_keeps steps a)))
follows_length p q max a c (Err x) e k h = let P : Steps → Type 0 = λ xs. Halts xs x a c in subst P (sym e) (halts_length (p (at_length max a.env)) max x a c k h)
