-- What two layouts, and two source texts, may differ in: of whole trees.
use Rattle.std.proofs.Common.{◌≡◌, ℕ, Bool, true, false, if◌then◌else◌, List, Option, Some, None, refl, sym, ap, ◌∙◌, subst, inl, inr}
use Rattle.std.proofs.lemmas.Bool.{cases_Bool, true≢false}
use Rattle.swc_ecma_codegen_common.specs.declared.positions.Span.{Span}
use Rattle.swc_ecma_codegen_grammar.specs.CommentMaps.{Maps}
use Rattle.swc_ecma_codegen_grammar.specs.Comments.{maps_in, no_maps}
use Rattle.swc_ecma_codegen_grammar.specs.SourceLines.{Lines}
use Rattle.swc_ecma_codegen_tree.specs.declared.links.AnyNode.{AnyNode}
use Rattle.swc_ecma_codegen_tokens.specs.declared.refusals.Unprintable.{Unprintable}
use Rattle.swc_ecma_codegen_tokens.specs.Run.{Env, Part, Plan, Step, nothing, steps_of, unbounded, unprintable_in, with_max_line}
use Rattle.swc_ecma_codegen_tokens.specs.Words.{begin_lines, bounded, by_maps, end_lines, in_lines}
use Rattle.swc_ecma_codegen_tokens.proofs.Reading.Printed.{chain}
use Rattle.swc_ecma_codegen_emit.specs.Answers.{any_answers}
use Rattle.swc_ecma_codegen_emit.specs.Commented.{any_breaks}
use Rattle.swc_ecma_codegen_emit.specs.Exprs.{blank, yield_argument, yield_argument_in}
use Rattle.swc_ecma_codegen_emit.specs.Places.{Whole, by_itself, placed, with_lines}
use Rattle.swc_ecma_codegen_emit.specs.Roots.{Root, OfExpr, OfStmt, OfItem, OfModule, OfScript, OfProgram, OfLink, is_program, root_at, root_items}
use Rattle.swc_ecma_codegen_emit.specs.Stmts.{argument, argument_in, spaced}
use Rattle.swc_ecma_codegen_emit.specs.Tree.{any_items}
use Rattle.swc_ecma_codegen_emit.specs.declared.nodes.Context.TheVariants.{Plain}
use Rattle.swc_ecma_codegen_emit.proofs.Unbroken.{unbroken}
use Rattle.swc_ecma_codegen_laws.specs.Layouts.{DifferByLayout, DifferInCommas, IsWhole, Tokens, laid_out, over, stop_of, tokens_in, tokens_of}
use Rattle.swc_ecma_codegen_laws.proofs.AnyExprLifted.{expr_holds}
use Rattle.swc_ecma_codegen_laws.proofs.BreakSteps.{on}
use Rattle.swc_ecma_codegen_laws.proofs.TwoLayouts.Differing.{differ_equal}
use Rattle.swc_ecma_codegen_laws.proofs.TwoLayouts.AllWords.{layout_words}
use Rattle.swc_ecma_codegen_laws.proofs.TwoLayouts.Words.{always_begin_lines, always_end_lines}
use Rattle.swc_ecma_codegen_laws.proofs.LengthOfRoots.{expr_lined, placed_node_lined}
use Rattle.swc_ecma_codegen_laws.proofs.ModulesLifted.{module_item_holds}
use Rattle.swc_ecma_codegen_laws.proofs.NodesLifted.{in_trees, tree_holds}
use Rattle.swc_ecma_codegen_laws.proofs.RootWords.{lined_program, plain_program, program_holds, program_parts}
use Rattle.swc_ecma_codegen_laws.proofs.StmtsLifted.{stmt_holds}
use Rattle.swc_ecma_codegen_laws.proofs.TwoLayouts.Emissions.{TwoLayouts, Both, Fits, IsAlike, Writes, bare, both_within, ends_with, first_env, second_env, whole_steps, writes_more, writes_then, writes_within}

-- ---- roots

-- one that isn't a module or script stands the same at any greatest length of lines
other_lined : (root : Root) (max : Option ℕ) → is_program root ≡ false → root_at root (with_lines max) ≡ root_at root (Whole Plain)
other_lined root None h = refl
other_lined (OfExpr n) (Some max) h = λ i. λ rest. expr_lined any_answers any_items n max rest i
other_lined (OfStmt n) (Some max) h = refl
other_lined (OfItem n) (Some max) h = refl
other_lined (OfLink n role) (Some max) h = placed_node_lined n role max
other_lined (OfModule n) (Some max) h = absurd (true≢false h)
other_lined (OfScript n) (Some max) h = absurd (true≢false h)
other_lined (OfProgram n) (Some max) h = absurd (true≢false h)

other_alike : (two : TwoLayouts) (root : Root) → is_program root ≡ false → IsAlike two false (root_at root (Whole Plain))
other_alike two (OfExpr n) h = expr_holds (in_trees (layout_words two)) false n Plain
other_alike two (OfStmt n) h = stmt_holds (in_trees (layout_words two)) false n
other_alike two (OfItem n) h = module_item_holds (in_trees (layout_words two)) false n
other_alike two (OfLink n role) h = tree_holds (layout_words two) n false (placed role (Whole Plain))
other_alike two (OfModule n) h = absurd (true≢false h)
other_alike two (OfScript n) h = absurd (true≢false h)
other_alike two (OfProgram n) h = absurd (true≢false h)

-- a module or script: its lines begin and end
in_place : (root : Root) (env : Env) (max : Option ℕ) → is_program root ≡ true → (ts : Tokens) (stop : Option Unprintable) → Writes (bare (record env { max_line = max })) (program_parts root) ts stop → Writes (bare (record env { max_line = None })) (root_at root (with_lines max)) ts stop
unfolding bounded in_lines
in_place root env None e ts stop h = subst (λ (z : Part). Writes (bare (record env { max_line = None })) z ts stop) (sym (plain_program root e)) h
in_place root env (Some max) e ts stop h =
    let here : Env = record env { max_line = None } in
    subst (λ (z : Part). Writes (bare here) z ts stop) (sym (lined_program root max e))
    (writes_then (begin_lines max) (λ rest. with_max_line (Some max) (program_parts root) (end_lines rest)) ((always_begin_lines max).at here)
    (writes_more here (with_max_line (Some max) (program_parts root)) end_lines ts stop (writes_within (program_parts root) (bare here) (Some max) stop h) always_end_lines))

root_both : (two : TwoLayouts) (root : Root) (x y : Option ℕ) → Both two None None (root_at root (with_lines x)) (root_at root (with_lines y))
root_both two root x y = elim (cases_Bool (is_program root)) [
  | inl e ↦
      (let h : Both two x y (program_parts root) (program_parts root) = (program_holds (layout_words two) false root e).at x y in
      record { us = h.us; vs = h.vs; stop = h.stop; first = in_place root (first_env two None) x e h.us h.stop h.first; second = in_place root (second_env two None) y e h.vs h.stop h.second; fit = h.fit })
  | inr e ↦ subst (λ (z : Part). Both two None None z (root_at root (with_lines y))) (sym (other_lined root x e)) (subst (λ (z : Part). Both two None None (root_at root (Whole Plain)) z) (sym (other_lined root y e)) ((other_alike two root e).at None None))
]

-- ---- the end

-- the lines that a root is told of
abbrev told : Env → Option ℕ
told env = if env.config.minify then env.max_line else None

told_place : (minify : Bool) (max : Option ℕ) → (if minify then with_lines max else Whole Plain) ≡ with_lines (if minify then max else None)
told_place true max = refl
told_place false max = refl

written_at : (root : Root) (env : Env) (steps : List Step) (stop : Option Unprintable) → ((rest : Plan) → unbounded (root_at root (with_lines (told env))) rest env ≡ chain steps (on stop rest env)) → root_items root nothing env ≡ chain steps (on stop nothing env)
unfolding by_itself
written_at root env steps stop h = ap (λ place. unbounded (root_at root place) nothing env) (told_place env.config.minify env.max_line) ∙ h nothing

tokens_at : (root : Root) (env : Env) (ts : Tokens) (stop : Option Unprintable) → Writes env (unbounded (root_at root (with_lines (told env)))) ts stop → tokens_of root env ≡ ts
tokens_at root env ts stop h = ap (λ z. tokens_in (steps_of z)) (written_at root env h.steps stop h.is_steps) ∙ ap tokens_in (whole_steps h.steps stop env) ∙ h.tokens

stop_at : (root : Root) (env : Env) (ts : Tokens) (stop : Option Unprintable) → Writes env (unbounded (root_at root (with_lines (told env)))) ts stop → stop_of root env ≡ stop
stop_at root env ts stop h = ap unprintable_in (written_at root env h.steps stop h.is_steps) ∙ ends_with h.steps stop env

two_written : (two : TwoLayouts) (root : Root) (max : Option ℕ) → Both two max max (unbounded (root_at root (with_lines (told (first_env two max))))) (unbounded (root_at root (with_lines (told (second_env two max)))))
two_written two root max = both_within max max (root_at root (with_lines (told (first_env two max)))) (root_at root (with_lines (told (second_env two max)))) (root_both two root (told (first_env two max)) (told (second_env two max)))

two_fit : (two : TwoLayouts) (root : Root) (max : Option ℕ) → IsWhole root (first_env two max) → Fits two (tokens_of root (first_env two max)) (tokens_of root (second_env two max))
two_fit two root max w =
    let a : Env = first_env two max in
    let b : Env = second_env two max in
    let h = two_written two root max in
    subst (λ z. Fits two z (tokens_of root b)) (sym (tokens_at root a h.us h.stop h.first))
    (subst (λ z. Fits two h.us z) (sym (tokens_at root b h.vs h.stop h.second)) (h.fit (sym (stop_at root a h.us h.stop h.first) ∙ w)))

two_stop : (two : TwoLayouts) (root : Root) (max : Option ℕ) → stop_of root (first_env two max) ≡ stop_of root (second_env two max)
two_stop two root max = let h = two_written two root max in stop_at root (first_env two max) h.us h.stop h.first ∙ sym (stop_at root (second_env two max) h.vs h.stop h.second)

-- ---- the laws

bare_env : (env : Env) → env.maps ≡ no_maps → bare env ≡ env
bare_env env h = ap (λ m. record env { maps = m }) (sym h)

two_layouts : Env → TwoLayouts
two_layouts env = record {
  config = env.config;
  keeps_invalid = env.keeps_invalid;
  first_minify = true;
  second_minify = false;
  first_lines = env.lines;
  second_lines = env.lines;
  commas = false;
  layout = true;
  ordered = λ e. refl;
  one_layout = λ e. absurd (true≢false e);
  one_source = λ e span. refl;
}

pub layouts_differ : (root : Root) (env : Env) → env.maps ≡ no_maps → IsWhole root (laid_out true env) → DifferByLayout (laid_out true env).config (laid_out false env).config (tokens_of root (laid_out true env)) (tokens_of root (laid_out false env))
unfolding two_layouts
layouts_differ root env h =
    let P : Env → Type 0 = λ z. IsWhole root (laid_out true z) → DifferByLayout (laid_out true z).config (laid_out false z).config (tokens_of root (laid_out true z)) (tokens_of root (laid_out false z)) in
    subst P (bare_env env h) (λ w. two_fit (two_layouts env) root env.max_line w)

pub layouts_stop : (root : Root) (env : Env) → env.maps ≡ no_maps → stop_of root (laid_out true env) ≡ stop_of root (laid_out false env)
unfolding two_layouts
layouts_stop root env h = subst (λ (z : Env). stop_of root (laid_out true z) ≡ stop_of root (laid_out false z)) (bare_env env h) (two_stop (two_layouts env) root env.max_line)

two_sources : (env : Env) (lines : Lines) (commas : Bool) → (commas ≡ false → (span : Span) → env.lines.snippet span ≡ lines.snippet span) → TwoLayouts
two_sources env lines commas same = record {
  config = env.config;
  keeps_invalid = env.keeps_invalid;
  first_minify = env.config.minify;
  second_minify = env.config.minify;
  first_lines = env.lines;
  second_lines = lines;
  commas = commas;
  layout = false;
  ordered = λ e. e;
  one_layout = λ e. refl;
  one_source = same;
}

pub sources_differ : (root : Root) (env : Env) (lines : Lines) → env.maps ≡ no_maps → IsWhole root env → DifferInCommas env.config (tokens_of root env) (tokens_of root (over lines env))
unfolding two_sources
sources_differ root env lines h =
    let P : Env → Type 0 = λ z. IsWhole root z → DifferInCommas z.config (tokens_of root z) (tokens_of root (over lines z)) in
    subst P (bare_env env h) (λ w. two_fit (two_sources env lines true (λ e. absurd (true≢false e))) root env.max_line w)

pub sources_stop : (root : Root) (env : Env) (lines : Lines) → env.maps ≡ no_maps → stop_of root env ≡ stop_of root (over lines env)
unfolding two_sources
sources_stop root env lines h = subst (λ (z : Env). stop_of root z ≡ stop_of root (over lines z)) (bare_env env h) (two_stop (two_sources env lines true (λ e. absurd (true≢false e))) root env.max_line)

pub snippets_tell : (root : Root) (env : Env) (lines : Lines) → env.maps ≡ no_maps → ((span : Span) → env.lines.snippet span ≡ lines.snippet span) → IsWhole root env → tokens_of root env ≡ tokens_of root (over lines env)
unfolding two_sources
snippets_tell root env lines h same =
    let P : Env → Type 0 = λ z. IsWhole root z → tokens_of root z ≡ tokens_of root (over lines z) in
    subst P (bare_env env h) (λ w. differ_equal env.config env.config _ _ (two_fit (two_sources env lines false (λ e. same)) root env.max_line w))

-- ---- what stands behind `return`, `throw` and `yield`

never_breaks : (node : AnyNode) (maps : Maps) → maps ≡ no_maps → any_breaks node maps ≡ false
unfolding maps_in
never_breaks node maps e = ap (any_breaks node) e ∙ sym (unbroken {C = Maps} (λ m. m) None node refl)

pub returned_bare : (node : AnyNode) (rest : Plan) (env : Env) → env.maps ≡ no_maps → argument any_answers any_items node rest env ≡ spaced any_answers any_items node rest env
unfolding argument argument_in by_maps any_answers
returned_bare node rest env e = ap (λ b. argument_in any_answers any_items node b rest env) (never_breaks node env.maps e)

pub yielded_bare : (node : AnyNode) (delegate : Bool) (rest : Plan) (env : Env) → env.maps ≡ no_maps → yield_argument any_answers any_items delegate node rest env ≡ blank (if delegate then false else (any_answers node).starts) (any_items node (Whole Plain) rest) env
unfolding yield_argument yield_argument_in by_maps any_answers
yielded_bare node delegate rest env e = ap (λ b. yield_argument_in any_answers any_items delegate node b rest env) (never_breaks node env.maps e)
