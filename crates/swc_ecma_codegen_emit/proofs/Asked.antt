-- What is done where a setting says so.
use Rattle.std.proofs.Common.{◌≡◌, ℕ, List, Bool, true, false, ◌&&◌, ◌||◌, not, cond, codes, None, ap, sym, refl, subst}
use Rattle.std.proofs.lemmas.Bool.{true≢false}
use Rattle.swc_ecma_codegen_tokens.specs.Run.{Env, Plan, Part, when_minified, no_part}
use Rattle.swc_ecma_codegen_tokens.specs.Words.{by_maps, commit_pending_semi, keyword, punct, semi, trailing_comments}
use Rattle.swc_ecma_codegen_tokens.proofs.Emission.Emitting.{minified_same, pretty_same}
use Rattle.swc_ecma_codegen_grammar.specs.FunctionPhrases.{is_typed_arrow}
use Rattle.swc_ecma_codegen_emit.specs.FunctionExprs.{parenthesis, is_only, is_plain, has_comment_behind, arrow_children, arrow_within, arrow_parameters}
use Rattle.swc_ecma_codegen_grammar.specs.CommentMaps.{Maps}
use Rattle.swc_ecma_codegen_tokens.specs.Lists.{ListChild}
use Rattle.swc_ecma_codegen_tree.specs.declared.exprs.ArrowExpr.{ArrowExpr}
use Rattle.swc_ecma_codegen_emit.specs.Answers.{Answers}
use Rattle.swc_ecma_codegen_emit.specs.Blocks.{block_list, block_lines}
use Rattle.swc_ecma_codegen_emit.specs.Commented.{has_comment_inside}
use Rattle.swc_ecma_codegen_emit.specs.Exprs.{yield_argument, yield_argument_in}
use Rattle.swc_ecma_codegen_emit.specs.Props.{object_list, object_by_maps}
use Rattle.swc_ecma_codegen_emit.specs.Stmts.{argument, argument_in}
use Rattle.swc_ecma_codegen_emit.specs.Places.{Place}
use Rattle.swc_ecma_codegen_grammar.specs.Settings.{is_up_to_es5}
use Rattle.swc_ecma_codegen_tokens.specs.Choices.{empty_arguments, loop_ending, attributes_word}
use Rattle.swc_ecma_codegen_tokens.proofs.Reading.Choices.{ended_same, not_ended_same, assert_same, with_same}
use Rattle.swc_ecma_codegen_common.specs.declared.positions.Span.{Span}
use Rattle.swc_ecma_codegen_emit.specs.Calls.{parentheses}
use Rattle.swc_ecma_codegen_emit.specs.AnyExpr.{expr_closed}
use Rattle.swc_ecma_codegen_emit.specs.Programs.{last_semi}
use Rattle.swc_ecma_codegen_emit.specs.Standing.{Standing, Makes}
use Rattle.swc_ecma_codegen_emit.proofs.Standings.{makes_same}

pub kept_same : (rest : Plan) (env : Env) → env.config.omit_last_semi ≡ true → last_semi rest env ≡ rest env
unfolding last_semi
kept_same rest env h = ap (λ b. cond b (rest env) (commit_pending_semi rest env)) h

pub committed_same : (rest : Plan) (env : Env) → env.config.omit_last_semi ≡ false → last_semi rest env ≡ commit_pending_semi rest env
unfolding last_semi
committed_same rest env h = ap (λ b. cond b (rest env) (commit_pending_semi rest env)) h

-- the last semicolon is left out
pub kept_back : (a : Standing) → a.state.env.config.omit_last_semi ≡ true → Makes last_semi a a
kept_back a h = makes_same last_semi (λ rest. rest) a a (λ rest. kept_same rest a.state.env h) (λ level rest c k. k)

-- it is written
pub committed : (a b : Standing) → a.state.env.config.omit_last_semi ≡ false → Makes commit_pending_semi a b → Makes last_semi a b
committed a b h k = makes_same last_semi commit_pending_semi a b (λ rest. committed_same rest a.state.env h) k

-- ---- by whether the settings are to minify

pub minified_part : (part other : Part) (a b : Standing) → a.state.env.config.minify ≡ true → Makes part a b → Makes (when_minified part other) a b
minified_part part other a b h k = makes_same (when_minified part other) part a b (λ rest. minified_same part other rest a.state.env h) k

pub pretty_part : (part other : Part) (a b : Standing) → a.state.env.config.minify ≡ false → Makes other a b → Makes (when_minified part other) a b
pretty_part part other a b h k = makes_same (when_minified part other) other a b (λ rest. pretty_same part other rest a.state.env h) k

-- a parenthesis beside a name alone isn't written there
pub bare : (a : Standing) (plain : Bool) (t : List ℕ) → plain ≡ true → a.state.env.config.minify ≡ true → Makes (parenthesis plain t) a a
unfolding parenthesis no_part
bare a true t p h = minified_part no_part (punct t) a a h (λ level rest c k. k)
bare a false t p h = absurd (true≢false (sym p))

-- beside anything else it is
pub parenthesized : (a b : Standing) (plain : Bool) (t : List ℕ) → (plain && a.state.env.config.minify) ≡ false → Makes (punct t) a b → Makes (parenthesis plain t) a b
unfolding parenthesis
parenthesized a b true t h k = pretty_part no_part (punct t) a b h k
parenthesized a b false t h k = k

-- `()` after `new A` is left out
pub arguments_left_out : (a : Standing) → a.state.env.config.minify ≡ true → Makes empty_arguments a a
unfolding empty_arguments no_part parentheses
arguments_left_out a h = minified_part no_part parentheses a a h (λ level rest c k. k)

-- it is written
pub arguments_written : (a b : Standing) → a.state.env.config.minify ≡ false → Makes parentheses a b → Makes empty_arguments a b
unfolding empty_arguments no_part parentheses
arguments_written a b h k = pretty_part no_part parentheses a b h k

-- the semicolon after a loop is written for a version before 2015
pub loop_ended : (a b : Standing) → is_up_to_es5 a.state.env.config.target ≡ true → Makes semi a b → Makes loop_ending a b
loop_ended a b h k = makes_same loop_ending semi a b (λ rest. ended_same rest a.state.env h) k

-- for a later one it isn't
pub loop_not_ended : (a : Standing) → is_up_to_es5 a.state.env.config.target ≡ false → Makes loop_ending a a
loop_not_ended a h = makes_same loop_ending (λ rest. rest) a a (λ rest. not_ended_same rest a.state.env h) (λ level rest c k. k)

-- the word before import attributes, by the settings
pub attributes_by_assert : (a b : Standing) → a.state.env.config.emit_assert_for_import_attributes ≡ true → Makes (keyword None (codes "assert")) a b → Makes attributes_word a b
attributes_by_assert a b h k = makes_same attributes_word (keyword None (codes "assert")) a b (λ rest. assert_same rest a.state.env h) k

pub attributes_by_with : (a b : Standing) → a.state.env.config.emit_assert_for_import_attributes ≡ false → Makes (keyword None (codes "with")) a b → Makes attributes_word a b
attributes_by_with a b h k = makes_same attributes_word (keyword None (codes "with")) a b (λ rest. with_same rest a.state.env h) k

-- comments after an expression may be left where they are
pub closed_left : (left : Bool) (span : Span) (a : Standing) → left ≡ true → Makes (expr_closed left span) a a
unfolding expr_closed
closed_left true span a h = λ level rest c k. k
closed_left false span a h = absurd (true≢false (sym h))

-- after an expression they are, unless they are left where they are
pub closed_commented : (left : Bool) (span : Span) (a b : Standing) → left ≡ false → Makes (trailing_comments true span.hi) a b → Makes (expr_closed left span) a b
unfolding expr_closed
closed_commented true span a b h k = absurd (true≢false h)
closed_commented false span a b h k = k

-- ---- by the comments that are still to be taken

pub asked_maps : (ask : Maps → Part) (a b : Standing) → Makes (ask a.state.env.maps) a b → Makes (by_maps ask) a b
unfolding by_maps
asked_maps ask a b h = makes_same (by_maps ask) (ask a.state.env.maps) a b (λ rest. refl) h

-- what a bool says, where it is what they say
by_answer : (ask : Bool → Part) (says : Maps → Bool) (b : Bool) (x y : Standing) → b ≡ says x.state.env.maps → Makes (ask b) x y → Makes (by_maps (λ maps. ask (says maps))) x y
by_answer ask says b x y e h = asked_maps (λ maps. ask (says maps)) x y (subst (λ (z : Bool). Makes (ask z) x y) e h)

pub block_asked : (some more : Bool) (span : Span) (cs : List ListChild) (a b : Standing) → more ≡ (some || has_comment_inside span a.state.env.maps) → Makes (block_list more span cs) a b → Makes (block_lines some span cs) a b
unfolding block_lines
block_asked some more span cs a b e h = by_answer (λ z. block_list z span cs) (λ maps. some || has_comment_inside span maps) more a b e h

pub object_asked : (some more : Bool) (span : Span) (cs : List ListChild) (a b : Standing) → more ≡ (some || has_comment_inside span a.state.env.maps) → Makes (object_list more span cs) a b → Makes (object_by_maps some span cs) a b
unfolding object_by_maps
object_asked some more span cs a b e h = by_answer (λ z. object_list z span cs) (λ maps. some || has_comment_inside span maps) more a b e h

pub argument_asked : {X : Type 0} (asks : X → Answers) (items : X → Place → Part) (x : X) (breaks : Bool) (a b : Standing) → breaks ≡ (asks x).breaks a.state.env.maps → Makes (argument_in asks items x breaks) a b → Makes (argument asks items x) a b
unfolding argument
argument_asked asks items x breaks a b e h = by_answer (argument_in asks items x) (asks x).breaks breaks a b e h

pub yield_asked : {X : Type 0} (asks : X → Answers) (items : X → Place → Part) (delegate : Bool) (x : X) (breaks : Bool) (a b : Standing) → breaks ≡ (asks x).breaks a.state.env.maps → Makes (yield_argument_in asks items delegate x breaks) a b → Makes (yield_argument asks items delegate x) a b
unfolding yield_argument
yield_asked asks items delegate x breaks a b e h = by_answer (yield_argument_in asks items delegate x) (asks x).breaks breaks a b e h

pub arrow_asked : {X : Type 0} (asks : X → Answers) (items : X → Place → Part) (n : ArrowExpr X) (plain : Bool) (a b : Standing) → plain ≡ (not (is_typed_arrow n) && (is_only is_plain asks n.params.items && not (has_comment_behind asks n.params.items a.state.env.maps))) → Makes (arrow_within plain n.span (arrow_children asks items n)) a b → Makes (arrow_parameters asks items n) a b
unfolding arrow_parameters
arrow_asked asks items n plain a b e h = by_answer (λ z. arrow_within z n.span (arrow_children asks items n)) (λ maps. not (is_typed_arrow n) && (is_only is_plain asks n.params.items && not (has_comment_behind asks n.params.items maps))) plain a b e h
