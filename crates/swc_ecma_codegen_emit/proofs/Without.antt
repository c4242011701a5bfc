-- Where there are no comments, what takes them isn't called.
use Rattle.std.proofs.Common.{◌≡◌, ℕ, Bool, true, false, cond, ◌==◌, List, [], ◌∷◌, Option, Some, None, Result, refl, ap, ◌∙◌, subst}
use Rattle.std.specs.Prelude.{is_some}
use Rattle.swc_ecma_codegen_common.specs.declared.errors.Refusal.{Refusal}
use Rattle.swc_ecma_codegen_common.specs.declared.positions.BytePos.{BytePos}
use Rattle.swc_ecma_codegen_common.specs.declared.positions.Span.{Span}
use Rattle.swc_ecma_codegen_grammar.specs.CommentMaps.{Maps}
use Rattle.swc_ecma_codegen_grammar.specs.Comments.{maps_in, no_maps}
use Rattle.swc_ecma_codegen_spans.specs.Spans.{expr_span}
use Rattle.swc_ecma_codegen_tree.specs.Links.{PatBox}
use Rattle.swc_ecma_codegen_tree.specs.declared.exprs.Expr.{Expr}
use Rattle.swc_ecma_codegen_tokens.specs.Lists.{child_comments}
use Rattle.swc_ecma_codegen_tokens.specs.Run.{Env, Plan, Part, State, Follows, maps_after, nothing, steps_of}
use Rattle.swc_ecma_codegen_tokens.specs.Words.{leading_comments, trailing_comments, comments_before_end}
use Rattle.swc_ecma_codegen_tokens.proofs.Emission.Made.{run_env}
use Rattle.swc_ecma_codegen_tokens.proofs.Commenting.NoComments.{IsSilent, leading_at, trailing_at, silent_trailing, silent_before_end, silent_child, none_after as none_left}
use Rattle.swc_ecma_codegen_emit.specs.declared.nodes.Context.{Context}
use Rattle.swc_ecma_codegen_emit.specs.Places.{Place}
use Rattle.swc_ecma_codegen_emit.specs.Answers.{Answers, place_of}
use Rattle.swc_ecma_codegen_emit.specs.AnyExpr.{leaves_comments, expr_parts, expr_closed, expr}
use Rattle.swc_ecma_codegen_emit.specs.Commented.{has_comment_after, has_comment_inside}
use Rattle.swc_ecma_codegen_emit.specs.FunctionExprs.{has_comment_behind}
use Rattle.swc_ecma_codegen_emit.specs.Standing.{Standing, outcome, Leads, LeadsAfter, Makes}
use Rattle.swc_ecma_codegen_emit.proofs.Standings.{makes_ended}

-- there are none
pub none_there : {C : Type 0} (maps : C → Maps) (comments : Option C) → is_some comments ≡ false → maps_in maps comments ≡ no_maps
unfolding maps_in
none_there maps None h = refl
none_there maps (Some c) h = absurd (let z : true ≡ false = h in cc)

-- nor is there one after the only parameter
pub none_behind : {C X : Type 0} (maps : C → Maps) (comments : Option C) (asks : X → Answers) (params : List (PatBox X)) → is_some comments ≡ false → false ≡ has_comment_behind asks params (maps_in maps comments)
unfolding maps_in has_comment_after has_comment_behind
none_behind maps None asks [] h = refl
none_behind maps None asks (n ∷ []) h = refl
none_behind maps None asks (n ∷ x ∷ xs) h = refl
none_behind maps (Some c) asks params h = absurd (let z : true ≡ false = h in cc)

-- nor before the last character of a span
pub none_inside : {C : Type 0} (maps : C → Maps) (comments : Option C) (span : Span) → is_some comments ≡ false → false ≡ has_comment_inside span (maps_in maps comments)
unfolding maps_in has_comment_inside
none_inside maps None span h = elim (span.lo.0 == 0) as (λ a. false ≡ cond a false (cond (span.hi.0 == 0) false false)) [
  | true ↦ refl
  | false ↦ elim (span.hi.0 == 0) as (λ b. false ≡ cond b false false) [ true ↦ refl | false ↦ refl ]
]
none_inside maps (Some c) span h = absurd (let z : true ≡ false = h in cc)

-- ---- a part that does nothing then

-- what follows behind a part that does nothing in a state follows behind nothing
abbrev IsIdle : Part → State → Type 0
IsIdle part a = (rest : Plan) (c : State) (r : Result (Unit {0}) Refusal) → Follows rest a c r → Follows (part rest) a c r

leads_idly : (old : Option Refusal) (level : ℕ) (part : Part) (rest : Plan) (a c : Standing) → (old ≡ None → IsIdle part a.state) → LeadsAfter old level rest a c → LeadsAfter old level (part rest) a c
unfolding LeadsAfter
leads_idly None level part rest a c idle h = (idle refl rest c.state (outcome c.refusal) h.0, h.1)
leads_idly (Some e) level part rest a c idle h = h

makes_idly : (part : Part) (a : Standing) → IsIdle part a.state → Makes part a a
unfolding Leads
makes_idly part a idle = λ level rest c k. leads_idly a.refusal level part rest a c (λ n. idle) k

leads_on : (old : Option Refusal) (level : ℕ) (part : Part) (rest : Plan) (a c : Standing) → IsSilent part → (old ≡ None → a.state.env.maps ≡ no_maps) → LeadsAfter old level rest a c → LeadsAfter old level (part rest) a c
leads_on old level part rest a c s m h = leads_idly old level part rest a c (λ n rest c r f. s rest a.state c r (m n) f) h

makes_silently : (part : Part) (a : Standing) → IsSilent part → a.state.env.maps ≡ no_maps → Makes part a a
makes_silently part a s m = makes_idly part a (λ rest c r f. s rest a.state c r m f)

-- none stand at one position
pub no_leading : (pos : BytePos) (a : Standing) → is_some (a.state.env.maps.leading pos.0) ≡ false → Makes (leading_comments pos) a a
no_leading pos a none = makes_idly (leading_comments pos) a (λ rest c r f. leading_at pos rest a.state c r none f)

pub no_trailing : (prefix_space : Bool) (pos : BytePos) (a : Standing) → is_some (a.state.env.maps.trailing pos.0) ≡ false → Makes (trailing_comments prefix_space pos) a a
no_trailing prefix_space pos a none = makes_idly (trailing_comments prefix_space pos) a (λ rest c r f. trailing_at prefix_space pos rest a.state c r none f)

-- none stand anywhere
pub trailing_nowhere : (prefix_space : Bool) (pos : BytePos) (a : Standing) → a.state.env.maps ≡ no_maps → Makes (trailing_comments prefix_space pos) a a
trailing_nowhere prefix_space pos a m = makes_silently (trailing_comments prefix_space pos) a (silent_trailing prefix_space pos) m

pub none_before_end : (pos : BytePos) (a : Standing) → a.state.env.maps ≡ no_maps → Makes (comments_before_end pos) a a
none_before_end pos a m = makes_silently (comments_before_end pos) a (silent_before_end pos) m

pub none_behind_child : (format : ℕ) (line : Bool) (place : Span) (a : Standing) → a.state.env.maps ≡ no_maps → Makes (child_comments format line place) a a
none_behind_child format line place a m = makes_silently (child_comments format line place) a (silent_child format line place) m

-- ---- behind a part that was made there are none either

left_none : (old now : Option Refusal) (level : ℕ) (p : Plan) (a b : Standing) → now ≡ None → b.refusal ≡ now → a.state.env.maps ≡ no_maps → LeadsAfter old level p a b → b.state.env.maps ≡ no_maps
unfolding LeadsAfter Follows outcome
left_none None now level p a b none is m h =
    let followed : Follows p a.state b.state (outcome None) = subst (λ z. Follows p a.state b.state (outcome z)) (is ∙ none) h.0 in
    let steps = steps_of (p a.state.env) in
    ap (λ (s : State). s.env.maps) followed.1 ∙ ap (λ (e : Env). e.maps) (run_env steps a.state) ∙ ap (maps_after steps) m ∙ none_left steps
left_none (Some r) now level p a b none is m h = ap (λ (s : Standing). s.state.env.maps) h ∙ m

still_none : (part : Part) (a b : Standing) → a.state.env.maps ≡ no_maps → Makes part a b → b.refusal ≡ None → b.state.env.maps ≡ no_maps
unfolding Leads
still_none part a b m h none = left_none a.refusal b.refusal b.state.sheet.indentation (part nothing) a b none refl m (makes_ended part a b h)

then_silently : (part next : Part) (a b : Standing) → IsSilent next → a.state.env.maps ≡ no_maps → Makes part a b → Makes (λ rest. part (next rest)) a b
unfolding Leads
then_silently part next a b s m h = λ level rest c k. h level (next rest) c (leads_on b.refusal level next rest b c s (still_none part a b m h) k)

silent_closed : (left : Bool) (span : Span) → IsSilent (expr_closed left span)
unfolding expr_closed
silent_closed true span rest a c r m h = h
silent_closed false span rest a c r m h = silent_trailing true span.hi rest a c r m h

-- none stand after an expression
pub expr_bare : {X : Type 0} (asks : X → Answers) (items : X → Place → Part) (n : Expr X) (context : Context) (a b : Standing) → a.state.env.maps ≡ no_maps → Makes (expr_parts asks items n context) a b → Makes (expr asks items n context) a b
unfolding expr
expr_bare asks items n context a b m h =
    then_silently (expr_parts asks items n context) (expr_closed (leaves_comments n context) (expr_span (place_of asks) n)) a b (silent_closed (leaves_comments n context) (expr_span (place_of asks) n)) m h
