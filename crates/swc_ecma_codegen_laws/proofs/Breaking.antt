-- Where lines may be ended in what is written of a root.
use Rattle.std.proofs.Common.{◌≡◌, ◌⊎◌, ℕ, Bool, true, false, cond, ◌&&◌, is_some, List, [], Option, Some, None, refl, sym, ap, ◌∙◌, subst, append-nil, inl, inr}
use Rattle.std.proofs.lemmas.Bool.{cases_Bool}
use Rattle.swc_ecma_codegen_tree.specs.declared.programs.Program.TheVariants as programs
use Rattle.swc_ecma_codegen_text_writer.specs.Sheet.{BeginLines, EndLines}
use Rattle.swc_ecma_codegen_tokens.specs.declared.refusals.Unprintable.{Unprintable}
use Rattle.swc_ecma_codegen_tokens.specs.Run.{Env, Part, Plan, State, Step, Plain as Call, is_bounded, nothing, after_step, step, steps_in, steps_of, unbounded, with_max_line}
use Rattle.swc_ecma_codegen_tokens.specs.Words.{begin_lines, end_lines, in_lines, bounded}
use Rattle.swc_ecma_codegen_tokens.proofs.Reading.Printed.{chain, env_after}
use Rattle.swc_ecma_codegen_emit.specs.declared.nodes.Context.TheVariants.{ByItself, Plain}
use Rattle.swc_ecma_codegen_emit.specs.Lined.{unfilled}
use Rattle.swc_ecma_codegen_emit.specs.Places.{Place, Whole, alone, by_itself, placed, with_lines, context_of}
use Rattle.swc_ecma_codegen_emit.specs.Programs.{whole_module, script, program}
use Rattle.swc_ecma_codegen_emit.specs.Roots.{Root, OfExpr, OfStmt, OfItem, OfModule, OfScript, OfProgram, OfLink, is_program, root_at, root_items}
use Rattle.swc_ecma_codegen_laws.specs.Breaks.{EndsBehindMarks, no_more, other, holds_break, is_mark, is_break}
use Rattle.swc_ecma_codegen_laws.proofs.AnyExprLifted.{expr_holds}
use Rattle.swc_ecma_codegen_laws.proofs.BreakSteps.{Breaks, on, ends_append, holds_append, steps_on}
use Rattle.swc_ecma_codegen_laws.proofs.BreakWords.{break_words}
use Rattle.swc_ecma_codegen_laws.proofs.ModulesLifted.{module_item_holds}
use Rattle.swc_ecma_codegen_laws.proofs.NodesLifted.{in_trees, tree_holds}
use Rattle.swc_ecma_codegen_laws.proofs.RootWords.{program_parts, program_holds, plain_program, lined_program}
use Rattle.swc_ecma_codegen_laws.proofs.StmtsLifted.{stmt_holds}

-- ---- what is written where lines may be ended, before what comes next

ends_on : (xs : List Step) (stop : Option Unprintable) (rest : Plan) (env : Env) → EndsBehindMarks xs → ((e : Env) → EndsBehindMarks (steps_of (rest e))) → EndsBehindMarks (steps_of (chain xs (on stop rest env)))
unfolding steps_of
ends_on xs None rest env h k = subst EndsBehindMarks (sym (steps_on xs (rest env))) (ends_append xs (steps_of (rest env)) h (k env))
ends_on xs (Some r) rest env h k = subst EndsBehindMarks (sym (steps_on xs (on (Some r) rest env) ∙ append-nil xs)) h

part_ends : (part : Part) → Breaks true part → (rest : Plan) (env : Env) → is_bounded env ≡ true → ((e : Env) → EndsBehindMarks (steps_of (rest e))) → EndsBehindMarks (steps_of (part rest env))
part_ends part h rest env e k =
    let x = h.at env e in
    subst EndsBehindMarks (sym (ap steps_of (x.is_steps rest))) (ends_on x.steps x.stop rest (env_after x.steps env) x.fit k)

-- and where none may
holds_on : (xs : List Step) (stop : Option Unprintable) (rest : Plan) (env : Env) → holds_break xs ≡ false → ((e : Env) → holds_break (steps_of (rest e)) ≡ false) → holds_break (steps_of (chain xs (on stop rest env))) ≡ false
unfolding steps_of
holds_on xs None rest env h k = ap holds_break (steps_on xs (rest env)) ∙ holds_append xs (steps_of (rest env)) h (k env)
holds_on xs (Some r) rest env h k = ap holds_break (steps_on xs (on (Some r) rest env) ∙ append-nil xs) ∙ h

part_holds : (part : Part) → Breaks false part → (rest : Plan) (env : Env) → is_bounded env ≡ false → ((e : Env) → holds_break (steps_of (rest e)) ≡ false) → holds_break (steps_of (part rest env)) ≡ false
part_holds part h rest env e k =
    let x = h.at env e in
    ap (λ z. holds_break (steps_of z)) (x.is_steps rest) ∙ holds_on x.steps x.stop rest (env_after x.steps env) x.fit k

-- ---- roots

-- The steps that `fills` speaks of: where lines are bounded, and none begins.
pub unfilled_ends : (root : Root) (s : State) (max : ℕ) → is_program root ≡ true → s.env.config.minify ≡ true → EndsBehindMarks (steps_of (steps_in (unfilled max (root_at root)) s))
unfolding with_max_line nothing steps_of
unfilled_ends root s max h m =
    let env : Env = record s.env { max_line = Some max } in
    subst (λ z. EndsBehindMarks (steps_of (with_max_line (Some max) z nothing s.env))) (sym (plain_program root h))
    (part_ends (program_parts root) (program_holds break_words true root h) (λ inner. nothing (record inner { max_line = s.env.max_line })) env m (λ e. no_more))

-- The steps of an emission whose lines are filled.
lines_end : (part : Part) → Breaks true part → (env : Env) (max : ℕ) → env.config.minify ≡ true → EndsBehindMarks (steps_of (unbounded (bounded max part) nothing env))
unfolding with_max_line bounded in_lines begin_lines end_lines step after_step steps_of nothing is_mark is_break
lines_end part h env max m =
    let within : Env = record env { max_line = Some max } in
    other (Call (BeginLines max)) _ refl refl
    (part_ends part h (λ inner. step (Call EndLines) (λ last. nothing (record last { max_line = env.max_line })) (record inner { max_line = None })) within m (λ e. other (Call EndLines) [] refl refl no_more))

at_lines : (env : Env) (max : ℕ) → env.config.minify ≡ true → env.max_line ≡ Some max → alone env ≡ Whole (ByItself max)
at_lines env max m l = ap (λ b. cond b (with_lines env.max_line) (Whole Plain)) m ∙ ap with_lines l

pub emission_ends : (root : Root) (s : State) (max : ℕ) → is_program root ≡ true → s.env.config.minify ≡ true → s.env.max_line ≡ Some max → EndsBehindMarks (steps_of (steps_in (root_items root) s))
unfolding by_itself
emission_ends root s max h m l =
    subst (λ z. EndsBehindMarks (steps_of (unbounded (root_at root z) nothing s.env))) (sym (at_lines s.env max m l))
    (subst (λ z. EndsBehindMarks (steps_of (unbounded z nothing s.env))) (sym (lined_program root max h)) (lines_end (program_parts root) (program_holds break_words true root h) s.env max m))

-- ---- all other emissions

place_unbounded : (minify : Bool) (max : Option ℕ) → (is_some max && minify) ≡ false → cond minify (with_lines max) (Whole Plain) ≡ Whole Plain
place_unbounded true None h = refl
place_unbounded true (Some max) h = absurd (cc)
place_unbounded false max h = refl

other_breaks : (root : Root) (place : Place) → (is_program root ≡ false) ⊎ (place ≡ Whole Plain) → Breaks false (root_at root place)
unfolding whole_module script program
other_breaks (OfExpr n) place h = expr_holds (in_trees break_words) false n (context_of place)
other_breaks (OfStmt n) place h = stmt_holds (in_trees break_words) false n
other_breaks (OfItem n) place h = module_item_holds (in_trees break_words) false n
other_breaks (OfLink n role) place h = tree_holds break_words n false (placed role place)
other_breaks (OfModule n) place (inl h) = absurd (cc)
other_breaks (OfScript n) place (inl h) = absurd (cc)
other_breaks (OfProgram (programs.Module n)) place (inl h) = absurd (cc)
other_breaks (OfProgram (programs.Script n)) place (inl h) = absurd (cc)
other_breaks (OfModule n) place (inr h) = subst (λ z. Breaks false (root_at (OfModule n) z)) (sym h) (program_holds break_words false (OfModule n) refl)
other_breaks (OfScript n) place (inr h) = subst (λ z. Breaks false (root_at (OfScript n) z)) (sym h) (program_holds break_words false (OfScript n) refl)
other_breaks (OfProgram (programs.Module n)) place (inr h) = subst (λ z. Breaks false (root_at (OfProgram (programs.Module n)) z)) (sym h) (program_holds break_words false (OfProgram (programs.Module n)) refl)
other_breaks (OfProgram (programs.Script n)) place (inr h) = subst (λ z. Breaks false (root_at (OfProgram (programs.Script n)) z)) (sym h) (program_holds break_words false (OfProgram (programs.Script n)) refl)

which : (root : Root) (env : Env) → (is_program root && is_bounded env) ≡ false → (is_program root ≡ false) ⊎ (alone env ≡ Whole Plain)
which root env h = elim (cases_Bool (is_program root)) [
  | inl e ↦ inr (place_unbounded env.config.minify env.max_line (sym (ap (λ b. b && is_bounded env) e) ∙ h))
  | inr e ↦ inl e
]

pub other_holds : (root : Root) (s : State) → (is_program root && is_bounded s.env) ≡ false → holds_break (steps_of (steps_in (root_items root) s)) ≡ false
unfolding by_itself with_max_line nothing steps_of holds_break
other_holds root s h = part_holds (root_at root (alone s.env)) (other_breaks root (alone s.env) (which root s.env h)) (λ inner. nothing (record inner { max_line = s.env.max_line })) (record s.env { max_line = None }) refl (λ e. refl)
