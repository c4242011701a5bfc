-- The text that lines are filled of is the text for no greatest length.
use Rattle.std.proofs.Common.{◌≡◌, ℕ, Bool, true, false, cond, List, ◌++◌, Option, Some, None, refl, sym, ap, ◌∙◌, append-nil}
use Rattle.swc_ecma_codegen_text_writer.specs.Sheet.{Sheet, Flowing}
use Rattle.swc_ecma_codegen_tokens.specs.declared.refusals.Unprintable.{Unprintable}
use Rattle.swc_ecma_codegen_tokens.specs.Calls.{calls_of}
use Rattle.swc_ecma_codegen_tokens.specs.Run.{Env, Plan, State, Step, done, nothing, printed, run, steps_in, steps_of, unbounded, with_max_line}
use Rattle.swc_ecma_codegen_tokens.proofs.Filling.Filled.{run_calls, calls_inner}
use Rattle.swc_ecma_codegen_tokens.proofs.Reading.Printed.{chain, env_after}
use Rattle.swc_ecma_codegen_emit.specs.declared.nodes.Context.TheVariants.{Plain}
use Rattle.swc_ecma_codegen_emit.specs.Lined.{unfilled}
use Rattle.swc_ecma_codegen_emit.specs.Places.{Whole, by_itself, with_lines}
use Rattle.swc_ecma_codegen_emit.specs.Roots.{Root, is_program, root_at, root_items}
use Rattle.swc_ecma_codegen_laws.specs.Lengths.{unlined}
use Rattle.swc_ecma_codegen_laws.proofs.BreakSteps.{on, steps_on}
use Rattle.swc_ecma_codegen_laws.proofs.RootWords.{program_parts, program_holds, plain_program}
use Rattle.swc_ecma_codegen_laws.proofs.AnyLength.{at, WritesBoth, same_words}
use Rattle.swc_ecma_codegen_laws.proofs.NoBreaks.{unkept, same_sheet}

ended_steps : (xs : List Step) (stop : Option Unprintable) (rest : Plan) (env : Env) → ((e : Env) → rest e ≡ done) → steps_of (chain xs (on stop rest env)) ≡ xs
unfolding steps_of
ended_steps xs None rest env h = steps_on xs (rest env) ∙ ap (λ z. xs ++ steps_of z) (h env) ∙ append-nil xs
ended_steps xs (Some r) rest env h = steps_on xs (on (Some r) rest env) ∙ append-nil xs

-- the steps at a greatest length, and without one
first_steps : (root : Root) (s : State) (max : ℕ) → is_program root ≡ true → (x : WritesBoth s.env (Some max) None (program_parts root)) → steps_of (steps_in (unfilled max (root_at root)) s) ≡ x.xs
unfolding with_max_line nothing
first_steps root s max h x =
    ap (λ z. steps_of (with_max_line (Some max) z nothing s.env)) (plain_program root h)
    ∙ ap steps_of (x.first (λ inner. nothing (record inner { max_line = s.env.max_line })))
    ∙ ended_steps x.xs x.stop (λ inner. nothing (record inner { max_line = s.env.max_line })) (env_after x.xs (at (Some max) s.env)) (λ e. refl)

alone_unlined : (minify : Bool) → cond minify (with_lines None) (Whole Plain) ≡ Whole Plain
alone_unlined true = refl
alone_unlined false = refl

second_steps : (root : Root) (s : State) (max : ℕ) → is_program root ≡ true → (x : WritesBoth s.env (Some max) None (program_parts root)) → steps_of (steps_in (root_items root) (unlined s)) ≡ x.ys
unfolding by_itself with_max_line nothing
second_steps root s max h x =
    ap (λ z. steps_of (unbounded (root_at root z) nothing (at None s.env))) (alone_unlined s.env.config.minify)
    ∙ ap (λ z. steps_of (unbounded z nothing (at None s.env))) (plain_program root h)
    ∙ ap steps_of (x.second (λ inner. nothing (record inner { max_line = None })))
    ∙ ended_steps x.ys x.stop (λ inner. nothing (record inner { max_line = None })) (env_after x.ys (at None s.env)) (λ e. refl)

sheets_same : (root : Root) (s : State) (max : ℕ) → is_program root ≡ true → s.sheet.lines ≡ Flowing → unkept (printed (unfilled max (root_at root)) s).sheet ≡ unkept (printed (root_items root) (unlined s)).sheet
sheets_same root s max h flows =
    let x = (program_holds same_words true root h).at_both s.env (Some max) None in
    ap (λ zs. unkept (run zs s).sheet) (first_steps root s max h x)
    ∙ ap unkept (run_calls x.xs s)
    ∙ same_sheet (calls_of x.xs s.last) (calls_of x.ys s.last) s.sheet (calls_inner x.xs s.last x.same.first_inner) (calls_inner x.ys s.last x.same.second_inner) (x.same.calls s.last) flows
    ∙ sym (ap unkept (run_calls x.ys (unlined s)))
    ∙ sym (ap (λ zs. unkept (run zs (unlined s)).sheet) (second_steps root s max h x))

pub text_unlined : (root : Root) (s : State) (max : ℕ) → is_program root ≡ true → s.sheet.lines ≡ Flowing → (printed (unfilled max (root_at root)) s).sheet.text ≡ (printed (root_items root) (unlined s)).sheet.text
text_unlined root s max h flows = ap (λ (z : Sheet). z.text) (sheets_same root s max h flows)

pub pairs_unlined : (root : Root) (s : State) (max : ℕ) → is_program root ≡ true → s.sheet.lines ≡ Flowing → (printed (unfilled max (root_at root)) s).sheet.pairs ≡ (printed (root_items root) (unlined s)).sheet.pairs
pairs_unlined root s max h flows = ap (λ (z : Sheet). z.pairs) (sheets_same root s max h flows)
