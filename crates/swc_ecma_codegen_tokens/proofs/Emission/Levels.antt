-- How deep steps may go.
use Rattle.std.proofs.Common.{◌≡◌, ℕ, ◌+◌, ◌^◌, ◌<◌, ◌≤◌, cond, true, false, List, [], ◌∷◌, ◌++◌, refl, ap, ◌∙◌, arith}
use Rattle.std.specs.Str.{chars}
use Rattle.swc_ecma_codegen_grammar.specs.GapRules.{fuses, Separated}
use Rattle.swc_ecma_codegen_text_writer.specs.Sheet.{Item, Semi, Space, Keyword, Operator, Param, Property, Line, Lit, Comment, StrLit, Str, Symbol, Punct, Position, Commit, Deeper, Shallower, Sheet, effect, BeginLines, AllowBreak, EndLines}
use Rattle.swc_ecma_codegen_text_writer.proofs.Stays.{depth, effect_indentation}
use Rattle.swc_ecma_codegen_tokens.specs.Run.{State, Step, Guard, Token, Plain, Ends, Remake, Take, CommentText, put, run, deepens, PassesLimit}

-- how much deeper the indentation is after a call
unfoldable pub rise : Item → ℕ
rise Deeper = 1
rise Shallower = 0
rise (Semi span) = 0
rise Space = 0
rise (Keyword span t) = 0
rise (Operator span t) = 0
rise (Param t) = 0
rise (Property t) = 0
rise Line = 0
rise (Lit span t) = 0
rise (Comment t) = 0
rise (StrLit span t) = 0
rise (Str t) = 0
rise (Symbol span t) = 0
rise (Punct span t) = 0
rise (Position pos) = 0
rise Commit = 0
rise (BeginLines max) = 0
rise AllowBreak = 0
rise EndLines = 0

-- how often steps make it deeper
unfoldable pub levels : List Step → ℕ
levels [] = 0
levels (Guard t ∷ xs) = levels xs
levels (Token kind x ∷ xs) = rise x + levels xs
levels (Plain x ∷ xs) = rise x + levels xs
levels (Ends tokens x ∷ xs) = rise x + levels xs
levels (Remake due ∷ xs) = levels xs
levels (Take side at ∷ xs) = levels xs
levels (CommentText t ∷ xs) = levels xs

depth_rise : (x : Item) (n : ℕ) → depth x n ≤ n + rise x
unfolding rise
depth_rise Deeper n = omega arith
depth_rise Shallower n = omega arith
depth_rise (Semi span) n = omega arith
depth_rise Space n = omega arith
depth_rise (Keyword span t) n = omega arith
depth_rise (Operator span t) n = omega arith
depth_rise (Param t) n = omega arith
depth_rise (Property t) n = omega arith
depth_rise Line n = omega arith
depth_rise (Lit span t) n = omega arith
depth_rise (Comment t) n = omega arith
depth_rise (StrLit span t) n = omega arith
depth_rise (Str t) n = omega arith
depth_rise (Symbol span t) n = omega arith
depth_rise (Punct span t) n = omega arith
depth_rise (Position pos) n = omega arith
depth_rise Commit n = omega arith
depth_rise (BeginLines max) n = omega arith
depth_rise AllowBreak n = omega arith
depth_rise EndLines n = omega arith

effect_rise : (x : Item) (s : Sheet) → (effect x s).indentation ≤ s.indentation + rise x
effect_rise x s = let k = depth_rise x s.indentation in omega (arith, k, effect_indentation x s)

guard_same : (t : List ℕ) (a : State) → (put (Guard t) a).sheet.indentation ≡ a.sheet.indentation
unfolding put
guard_same t a = elim (fuses a.last (chars t)) as (λ b. (cond b (record a { sheet = effect Space a.sheet; last = Separated }) a).sheet.indentation ≡ a.sheet.indentation) [ true ↦ effect_indentation Space a.sheet | false ↦ refl ]

pub levels_append : (xs ys : List Step) → levels (xs ++ ys) ≡ levels xs + levels ys
unfolding levels
levels_append [] ys = omega arith
levels_append (Guard t ∷ xs) ys = levels_append xs ys
levels_append (Token kind x ∷ xs) ys = let h = levels_append xs ys in omega (arith, h)
levels_append (Plain x ∷ xs) ys = let h = levels_append xs ys in omega (arith, h)
levels_append (Ends tokens x ∷ xs) ys = let h = levels_append xs ys in omega (arith, h)
levels_append (Remake due ∷ xs) ys = levels_append xs ys
levels_append (Take side at ∷ xs) ys = levels_append xs ys
levels_append (CommentText t ∷ xs) ys = levels_append xs ys

-- the steps take the indentation no deeper than that
run_rise : (xs : List Step) (a : State) → (run xs a).sheet.indentation ≤ a.sheet.indentation + levels xs
unfolding run levels put rise
run_rise [] a = omega arith
run_rise (Guard t ∷ xs) a = let h = run_rise xs (put (Guard t) a) in let k = guard_same t a in omega (arith, h, k)
run_rise (Token kind x ∷ xs) a = let h = run_rise xs (put (Token kind x) a) in let k = effect_rise x a.sheet in omega (arith, h, k)
run_rise (Plain x ∷ xs) a = let h = run_rise xs (put (Plain x) a) in let k = effect_rise x a.sheet in omega (arith, h, k)
run_rise (Ends tokens x ∷ xs) a = let h = run_rise xs (put (Ends tokens x) a) in let k = effect_rise x a.sheet in omega (arith, h, k)
run_rise (Remake due ∷ xs) a = run_rise xs a
run_rise (Take side at ∷ xs) a = run_rise xs (put (Take side at) a)
run_rise (CommentText t ∷ xs) a = let h = run_rise xs (put (CommentText t) a) in let k = effect_rise (Comment t) a.sheet in omega (arith, h, k)

deeper_rises : (x : Step) (rest : List Step) → deepens x → 0 < levels (x ∷ rest)
unfolding deepens levels rise
deeper_rises (Guard t) rest d = absurd d
deeper_rises (Token kind x) rest d = let e = ap rise d in omega (arith, e)
deeper_rises (Plain x) rest d = let e = ap rise d in omega (arith, e)
deeper_rises (Ends tokens x) rest d = let e = ap rise d in omega (arith, e)
deeper_rises (Remake due) rest d = absurd d
deeper_rises (Take side at) rest d = absurd d
deeper_rises (CommentText t) rest d = absurd d

-- few levels stay in the limit
pub stays_within : (xs : List Step) (a : State) → a.sheet.indentation + levels xs < 2 ^ 32 → PassesLimit xs a → ⊥
stays_within xs a few h =
    let reached = run_rise h.front a in
    let more = deeper_rises h.step h.rest h.is_deeper in
    let all : levels xs ≡ levels h.front + levels (h.step ∷ h.rest) = ap levels h.split ∙ levels_append h.front (h.step ∷ h.rest) in
    omega (arith, reached, more, all, h.at_limit, few)
