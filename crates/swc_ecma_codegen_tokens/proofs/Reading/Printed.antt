-- What each word writes, whatever comes after it.
use Rattle.std.proofs.Common.{◌≡◌, ℕ, ◌+◌, ◌-◌, ◌≤◌, Bool, true, false, cond, not, ◌&&◌, ◌||◌, List, [], ◌∷◌, ◌++◌, length, length-append, append_assoc, arith, ◌==◌, codes, refl, sym, ap, ◌∙◌, subst, inl, inr, Option, Some, None}
use Rattle.std.proofs.lemmas.Bool.{and_from, and_parts, cases_Bool, eqb-true, false_from_ne_true, or_cases, or_left, or_right, true≢false}
use Rattle.swc_ecma_codegen_common.specs.declared.positions.BytePos.{BytePos}
use Rattle.swc_ecma_codegen_common.specs.declared.positions.Span.{Span}
use Rattle.swc_ecma_codegen_spans.specs.Spans.{dummy_span}
use Rattle.swc_ecma_codegen_grammar.specs.declared.kinds.Kind.{Kind}
use Rattle.swc_ecma_codegen_grammar.specs.declared.kinds.Kind.TheVariants.{Word, Name, Punctuator, Ending, Close}
use Rattle.swc_ecma_codegen_grammar.specs.Tokens as lexical
use Rattle.swc_ecma_codegen_grammar.specs.Tokens.{token_of}
use Rattle.swc_ecma_codegen_grammar.specs.Texts.{is_same}
use Rattle.swc_ecma_codegen_text_writer.specs.Sheet.{AllowBreak, Semi, Space, Keyword, Operator, Line, Symbol, Punct, Position, Commit, Deeper, Shallower, effect, is_ending, before_punct, begins_lines}
use Rattle.swc_ecma_codegen_grammar.specs.ValidNames.{turned}
use Rattle.swc_ecma_codegen_tokens.specs.Run.{Env, is_bounded, Plan, Part, State, Step, Guard, Token, Plain, Ends, Remake, Take, CommentText, Steps, next, at_maps, after_step, maps_after, taken_by, taken_in, spoken, put, run, step, spelling, text_of, after_token, after_plain, when_minified, no_part, has_backslash, makes_text}
use Rattle.swc_ecma_codegen_tokens.specs.Words.{allow_break, allows_break, bare_punct, bare_semi, break_where, keyword, operator, word_operator, punct, placed_punct, semi, space, formatting_space, line_end, formatting_line, commit_pending_semi, position, position_before, symbol, spelled_symbol, valid_symbol, name_text}
use Rattle.swc_ecma_codegen_tokens.specs.Lists.{deeper, shallower}
use Rattle.swc_ecma_codegen_tokens.specs.Tags.{close}
use Rattle.swc_ecma_codegen_literals.specs.AsciiNames.{is_ascii_text}
use Rattle.swc_ecma_codegen_tokens.specs.Ascii.{is_tag_kind, is_kept_call, is_kept, is_other, is_kept_piece, is_other_piece, keeps_other, are_ascii}
use Rattle.swc_ecma_codegen_tokens.specs.Scripts.{is_string_call}
use Rattle.swc_ecma_codegen_tokens.specs.Targets.{wants_escapes, in_ascii, is_out_name, written_name}
use Rattle.swc_ecma_codegen_tokens.specs.Written.{AtRest, RestsAt, Spot, Anything}
use Rattle.swc_ecma_codegen_tokens.proofs.Emission.Emitting.{minified_same, pretty_same}
use Rattle.swc_ecma_codegen_tokens.proofs.Emission.Fronts.{run_append, is_inner_step, are_inner_steps, inner_append}
use Rattle.swc_ecma_codegen_tokens.proofs.Emission.StepAscii.{HandsOverAscii, has_string, hands_ascii, hands_at, hands_from, hands_by_settings, hands_then}
use Rattle.swc_ecma_codegen_tokens.proofs.Emission.Levels.{levels, rise, levels_append}
use Rattle.swc_ecma_codegen_tokens.proofs.NameTokens.Spelled.{valid_same, spelled_same}
use Rattle.swc_ecma_codegen_tokens.proofs.Filling.Shapes.{Shape, whole, ended, open_, loose, joining, joined, join, is_within}
use Rattle.swc_ecma_codegen_grammar.specs.CommentMaps.{Maps}
use Rattle.swc_ecma_codegen_grammar.specs.Trivia.{Remark}
use Rattle.swc_ecma_codegen_grammar.specs.declared.comments.Comment.{Comment}
use Rattle.swc_ecma_codegen_grammar.specs.Comments.{no_maps, comment_bytes, remark_of, remarks_of, texts_of, is_closed, all_closed}
use Rattle.swc_ecma_codegen_tokens.proofs.Reading.Laid.{LaysWith, LaysAt, lays_wider, lays_then, lays_nothing, LaysTo}
use Rattle.swc_ecma_codegen_tokens.proofs.Gaps.Written.{lays_blank, lays_line, lays_commit, lays_level, lays_position}
use Rattle.swc_ecma_codegen_tokens.proofs.Filling.Breaks.{lays_punct_break, lays_semi_break}
use Rattle.swc_ecma_codegen_tokens.proofs.Reading.TokenLays.{lays_joint_token, lays_joint_punct, lays_token_joint, lays_token, lays_punct, lays_semi, lays_placed, Spelled, own_put, punct_put, semi_put, spelled_close}

-- some steps, and then more
unfoldable pub chain : List Step → Steps → Steps
chain [] rest = rest
chain (x ∷ xs) rest = next x (chain xs rest)

pub chain_append : (xs ys : List Step) (rest : Steps) → chain (xs ++ ys) rest ≡ chain xs (chain ys rest)
unfolding chain
chain_append [] ys rest = refl
chain_append (x ∷ xs) ys rest = ap (λ z. next x z) (chain_append xs ys rest)

-- what comes after steps goes by the comments that they leave
abbrev pub env_after : List Step → Env → Env
env_after xs env = at_maps (maps_after xs env.maps) env

-- what the comments that steps take read as
abbrev pub remarks_by : List Step → Env → List Remark
remarks_by xs env = remarks_of (taken_in xs env.maps)

-- A part is these steps, whatever comes after it, and they write these tokens with the comments between that they take; where `made` is
-- false, none of their texts is made anew, in memory. Lines neither begin nor end with them. They make no more levels than `room`, and hand over ASCII where the settings ask
-- for that, save the texts of those comments.
pub record MakesOn (before behind : Spot) (shape : Shape) (room : ℕ) (env : Env) (part : Part) (ts : List lexical.Token) (made : Bool) : Type 0 where
  pub steps : List Step
  pub is_steps : (rest : Plan) → part rest env ≡ chain steps (rest (env_after steps env))
  pub lays : (s : State) → RestsAt before s → all_closed (remarks_by steps env) ≡ true → LaysTo behind shape ts (remarks_by steps env) s (run steps s)
  pub remakes : makes_text steps ≡ true → made ≡ true
  pub inner : are_inner_steps steps ≡ true
  pub deep : levels steps ≤ room
  pub hands : HandsOverAscii env steps ts
  pub comment_texts : spoken steps ≡ texts_of (taken_in steps env.maps)

-- where any token may come, before it and behind it
abbrev pub MakesFrom : Shape → ℕ → Env → Part → List lexical.Token → Bool → Type 0
MakesFrom shape room env part ts made = MakesOn Anything Anything shape room env part ts made

-- It does so whatever comments are still to be taken.
pub record MakesWithinOn (before behind : Spot) (shape : Shape) (room : ℕ) (env : Env) (part : Part) (ts : List lexical.Token) (made : Bool) : Type 0 where
  pub from : (maps : Maps) → MakesOn before behind shape room (at_maps maps env) part ts made

abbrev pub MakesWithin : Shape → ℕ → Env → Part → List lexical.Token → Bool → Type 0
MakesWithin shape room env part ts made = MakesWithinOn Anything Anything shape room env part ts made

-- They make no more levels than tokens.
abbrev pub MakesAt : Shape → Env → Part → List lexical.Token → Bool → Type 0
MakesAt shape env part ts made = MakesWithin shape (length ts) env part ts made

-- it begins and ends with a token
abbrev pub Makes : Env → Part → List lexical.Token → Bool → Type 0
Makes env part ts made = MakesAt whole env part ts made

abbrev pub Writes : Env → Part → List lexical.Token → Type 0
Writes env part ts = Makes env part ts false

-- Blanks, or nothing at all; and where lines may end.
abbrev pub Fills : Env → Part → Type 0
Fills env part = MakesAt open_ env part [] false

abbrev pub EndsLines : Env → Part → Type 0
EndsLines env part = MakesAt loose env part [] false

or_assoc : (a b c : Bool) → (a || (b || c)) ≡ ((a || b) || c)
or_assoc true b c = refl
or_assoc false b c = refl

pub or_false : (b : Bool) → (b || false) ≡ b
or_false true = refl
or_false false = refl

pub remakes_append : (xs ys : List Step) → makes_text (xs ++ ys) ≡ (makes_text xs || makes_text ys)
unfolding makes_text
remakes_append [] ys = refl
remakes_append (Guard t ∷ xs) ys = remakes_append xs ys
remakes_append (Token kind x ∷ xs) ys = ap (λ z. begins_lines x || z) (remakes_append xs ys) ∙ or_assoc (begins_lines x) (makes_text xs) (makes_text ys)
remakes_append (Plain x ∷ xs) ys = ap (λ z. begins_lines x || z) (remakes_append xs ys) ∙ or_assoc (begins_lines x) (makes_text xs) (makes_text ys)
remakes_append (Ends tokens x ∷ xs) ys = ap (λ z. begins_lines x || z) (remakes_append xs ys) ∙ or_assoc (begins_lines x) (makes_text xs) (makes_text ys)
remakes_append (Take side at ∷ xs) ys = remakes_append xs ys
remakes_append (CommentText t ∷ xs) ys = remakes_append xs ys
remakes_append (Remake due ∷ xs) ys = ap (λ z. due || z) (remakes_append xs ys) ∙ or_assoc due (makes_text xs) (makes_text ys)

or_either : (x y a b : Bool) → (x || y) ≡ true → (x ≡ true → a ≡ true) → (y ≡ true → b ≡ true) → (a || b) ≡ true
or_either x y a b h f g = elim (or_cases x y h) [ inl e ↦ or_left a b (f e) | inr e ↦ or_right a b (g e) ]

pub no_text : {b : Bool} → false ≡ true → b ≡ true
no_text h = absurd (true≢false (sym h))

-- ---- steps one after the other, and the comments that they take

and_assoc : (a b c : Bool) → (a && (b && c)) ≡ ((a && b) && c)
and_assoc true b c = refl
and_assoc false b c = refl

pub maps_append : (xs ys : List Step) (maps : Maps) → maps_after (xs ++ ys) maps ≡ maps_after ys (maps_after xs maps)
unfolding maps_after
maps_append [] ys maps = refl
maps_append (x ∷ xs) ys maps = maps_append xs ys (after_step x maps)

pub taken_append : (xs ys : List Step) (maps : Maps) → taken_in (xs ++ ys) maps ≡ taken_in xs maps ++ taken_in ys (maps_after xs maps)
unfolding taken_in maps_after
taken_append [] ys maps = refl
taken_append (x ∷ xs) ys maps = ap (λ z. taken_by x maps ++ z) (taken_append xs ys (after_step x maps)) ∙ sym (append_assoc (taken_by x maps) (taken_in xs (after_step x maps)) (taken_in ys (maps_after xs (after_step x maps))))

pub remarks_append : (cs ds : List Comment) → remarks_of (cs ++ ds) ≡ remarks_of cs ++ remarks_of ds
unfolding remarks_of
remarks_append [] ds = refl
remarks_append (c ∷ cs) ds = ap (λ z. remark_of c ∷ z) (remarks_append cs ds)

texts_append : (cs ds : List Comment) → texts_of (cs ++ ds) ≡ texts_of cs ++ texts_of ds
unfolding texts_of
texts_append [] ds = refl
texts_append (c ∷ cs) ds = ap (λ z. comment_bytes c ∷ z) (texts_append cs ds)

pub closed_append : (xs ys : List Remark) → all_closed (xs ++ ys) ≡ (all_closed xs && all_closed ys)
unfolding all_closed
closed_append [] ys = refl
closed_append (x ∷ xs) ys = ap (λ z. is_closed x && z) (closed_append xs ys) ∙ and_assoc (is_closed x) (all_closed xs) (all_closed ys)

pub spoken_append : (xs ys : List Step) → spoken (xs ++ ys) ≡ spoken xs ++ spoken ys
unfolding spoken
spoken_append [] ys = refl
spoken_append (Guard t ∷ xs) ys = spoken_append xs ys
spoken_append (Token kind x ∷ xs) ys = spoken_append xs ys
spoken_append (Plain x ∷ xs) ys = spoken_append xs ys
spoken_append (Ends tokens x ∷ xs) ys = spoken_append xs ys
spoken_append (Remake due ∷ xs) ys = spoken_append xs ys
spoken_append (Take side at ∷ xs) ys = spoken_append xs ys
spoken_append (CommentText t ∷ xs) ys = ap (λ z. t ∷ z) (spoken_append xs ys)

-- what steps and then more take reads as
pub remarks_both : (xs ys : List Step) (env : Env) → remarks_by (xs ++ ys) env ≡ remarks_by xs env ++ remarks_by ys (env_after xs env)
remarks_both xs ys env = ap remarks_of (taken_append xs ys env.maps) ∙ remarks_append (taken_in xs env.maps) (taken_in ys (maps_after xs env.maps))

-- one part after the other, where the second begins with the comments that the first leaves
pub from_then : {i j : Shape} {u v w : Spot} (env : Env) (p q : Part) (ts us : List lexical.Token) {m n : ℕ} {a b : Bool} (h : MakesOn u v i m env p ts a) → MakesOn v w j n (env_after h.steps env) q us b → MakesOn u w (join i j) (m + n) env (λ rest. p (q rest)) (ts ++ us) (a || b)
from_then {i} {j} {u} {v} {w} env p q ts us {m} {n} {a} {b} h k = record {
  steps = h.steps ++ k.steps;
  is_steps = λ rest.
      h.is_steps (q rest) ∙ ap (λ z. chain h.steps z) (k.is_steps rest) ∙ sym (chain_append h.steps k.steps (rest (env_after k.steps (env_after h.steps env))))
      ∙ ap (λ z. chain (h.steps ++ k.steps) (rest (at_maps z env))) (sym (maps_append h.steps k.steps env.maps));
  lays = λ s r c.
      let both = remarks_both h.steps k.steps env in
      let closed = and_parts (all_closed (remarks_by h.steps env)) (all_closed (remarks_by k.steps (env_after h.steps env))) (sym (closed_append (remarks_by h.steps env) (remarks_by k.steps (env_after h.steps env))) ∙ ap all_closed (sym both) ∙ c) in
      let x = h.lays s r closed.0 in
      let P : State → Type 0 = λ z. LaysTo w (join i j) (ts ++ us) (remarks_by h.steps env ++ remarks_by k.steps (env_after h.steps env)) s z in
      let Q : List Remark → Type 0 = λ z. LaysTo w (join i j) (ts ++ us) z s (run (h.steps ++ k.steps) s) in
      subst Q (sym both) (subst P (sym (run_append h.steps k.steps s)) (lays_then ts us s (run h.steps s) (run k.steps (run h.steps s)) x (k.lays (run h.steps s) x.rest closed.1)));
  remakes = λ e. or_either (makes_text h.steps) (makes_text k.steps) a b (sym (remakes_append h.steps k.steps) ∙ e) h.remakes k.remakes;
  inner = inner_append h.steps k.steps ∙ and_from (are_inner_steps h.steps) (are_inner_steps k.steps) h.inner k.inner;
  deep = let x = h.deep in let y = k.deep in omega (arith, x, y, levels_append h.steps k.steps);
  hands = hands_then h.hands (hands_from (maps_after h.steps env.maps) k.hands);
  comment_texts = spoken_append h.steps k.steps ∙ ap (λ z. z ++ spoken k.steps) h.comment_texts ∙ ap (λ z. texts_of (taken_in h.steps env.maps) ++ z) k.comment_texts ∙ sym (ap texts_of (taken_append h.steps k.steps env.maps) ∙ texts_append (taken_in h.steps env.maps) (taken_in k.steps (maps_after h.steps env.maps)));
}

-- one part after the other
pub within_then : {i j : Shape} (env : Env) (p q : Part) (ts us : List lexical.Token) {m n : ℕ} {a b : Bool} → MakesWithin i m env p ts a → MakesWithin j n env q us b → MakesWithin (join i j) (m + n) env (λ rest. p (q rest)) (ts ++ us) (a || b)
within_then env p q ts us h k = record { from = λ maps. let x = h.from maps in from_then (at_maps maps env) p q ts us x (k.from (maps_after x.steps maps)) }

-- with more room, with less known of lines, with memory that may be taken
pub from_room : {i : Shape} {env : Env} {p : Part} {ts : List lexical.Token} {a : Bool} {v w : Spot} (m n : ℕ) → m ≤ n → MakesOn v w i m env p ts a → MakesOn v w i n env p ts a
from_room m n le h = record { steps = h.steps; is_steps = h.is_steps; lays = h.lays; remakes = h.remakes; inner = h.inner; deep = let x = h.deep in omega (arith, x, le); hands = h.hands; comment_texts = h.comment_texts }

pub from_wider : {i : Shape} (j : Shape) {env : Env} {p : Part} {ts : List lexical.Token} {a : Bool} {room : ℕ} {v w : Spot} → is_within i j ≡ true → MakesOn v w i room env p ts a → MakesOn v w j room env p ts a
from_wider j e h = record { steps = h.steps; is_steps = h.is_steps; lays = λ s r c. lays_wider j e (h.lays s r c); remakes = h.remakes; inner = h.inner; deep = h.deep; hands = h.hands; comment_texts = h.comment_texts }

pub from_where : {i : Shape} {env : Env} {p : Part} {ts : List lexical.Token} {a b : Bool} {room : ℕ} {v w : Spot} → (a ≡ true → b ≡ true) → MakesOn v w i room env p ts a → MakesOn v w i room env p ts b
from_where k h = record { steps = h.steps; is_steps = h.is_steps; lays = h.lays; remakes = λ e. k (h.remakes e); inner = h.inner; deep = h.deep; hands = h.hands; comment_texts = h.comment_texts }

-- a part that is written as another is
pub from_same : {u v : Spot} {i : Shape} (env : Env) (p q : Part) (ts : List lexical.Token) {a : Bool} {room : ℕ} → ((rest : Plan) → p rest env ≡ q rest env) → MakesOn u v i room env q ts a → MakesOn u v i room env p ts a
from_same env p q ts e h = record { steps = h.steps; is_steps = λ rest. e rest ∙ h.is_steps rest; lays = h.lays; remakes = h.remakes; inner = h.inner; deep = h.deep; hands = h.hands; comment_texts = h.comment_texts }

-- one after the other, with as much room as tokens
pub from_both : {i j : Shape} {u v w : Spot} (env : Env) (p q : Part) (ts us : List lexical.Token) {a b : Bool} (h : MakesOn u v i (length ts) env p ts a) → MakesOn v w j (length us) (env_after h.steps env) q us b → MakesOn u w (join i j) (length (ts ++ us)) env (λ rest. p (q rest)) (ts ++ us) (a || b)
from_both env p q ts us h k = from_room (length ts + length us) (length (ts ++ us)) (omega (arith, length-append ts us)) (from_then env p q ts us h k)

pub with_room : {i : Shape} {env : Env} {p : Part} {ts : List lexical.Token} {a : Bool} (m n : ℕ) → m ≤ n → MakesWithin i m env p ts a → MakesWithin i n env p ts a
with_room m n le h = record { from = λ maps. from_room m n le (h.from maps) }

pub writes_then : {i j : Shape} (env : Env) (p q : Part) (ts us : List lexical.Token) {a b : Bool} → MakesAt i env p ts a → MakesAt j env q us b → MakesAt (join i j) env (λ rest. p (q rest)) (ts ++ us) (a || b)
writes_then env p q ts us h k = with_room (length ts + length us) (length (ts ++ us)) (omega (arith, length-append ts us)) (within_then env p q ts us h k)

-- what leads less far
pub makes_wider : {i : Shape} (j : Shape) {env : Env} {p : Part} {ts : List lexical.Token} {a : Bool} {room : ℕ} → is_within i j ≡ true → MakesWithin i room env p ts a → MakesWithin j room env p ts a
makes_wider j e h = record { from = λ maps. from_wider j e (h.from maps) }

-- none of its texts is made anew, so none is where some may be
pub writes_whatever : {i : Shape} {env : Env} {p : Part} {ts : List lexical.Token} (b : Bool) → MakesAt i env p ts false → MakesAt i env p ts b
writes_whatever b h = record { from = λ maps. from_where no_text (h.from maps) }

-- a text may be made anew, whether it is or not
pub makes_some : {i : Shape} {env : Env} {p : Part} {ts : List lexical.Token} {made : Bool} → MakesAt i env p ts made → MakesAt i env p ts true
makes_some h = record { from = λ maps. from_where (λ e. refl) (h.from maps) }

-- a part that is written as another is
pub writes_same : {u v : Spot} {i : Shape} (env : Env) (p q : Part) (ts : List lexical.Token) {a : Bool} {room : ℕ} → ((maps : Maps) (rest : Plan) → p rest (at_maps maps env) ≡ q rest (at_maps maps env)) → MakesWithinOn u v i room env q ts a → MakesWithinOn u v i room env p ts a
writes_same env p q ts e h = record { from = λ maps. from_same (at_maps maps env) p q ts (e maps) (h.from maps) }

-- ---- steps that take no comments

-- none is taken, and none is written; and lines neither begin nor end
abbrev pub is_silent : Step → Bool
is_silent (Take side at) = false
is_silent (CommentText t) = false
is_silent x = is_inner_step x

unfoldable pub takes_none : List Step → Bool
takes_none [] = true
takes_none (x ∷ xs) = is_silent x && takes_none xs

silent_step : (x : Step) (maps : Maps) → is_silent x ≡ true → (after_step x maps ≡ maps) × (taken_by x maps ≡ []) × (spoken (x ∷ []) ≡ [])
unfolding after_step taken_by spoken
silent_step (Guard t) maps h = (refl, refl, refl)
silent_step (Token kind x) maps h = (refl, refl, refl)
silent_step (Plain x) maps h = (refl, refl, refl)
silent_step (Ends tokens x) maps h = (refl, refl, refl)
silent_step (Remake due) maps h = (refl, refl, refl)
silent_step (Take side at) maps h = absurd (true≢false (sym h))
silent_step (CommentText t) maps h = absurd (true≢false (sym h))

pub silent_taken : (xs : List Step) (maps : Maps) → takes_none xs ≡ true → taken_in xs maps ≡ []
unfolding takes_none taken_in
silent_taken [] maps h = refl
silent_taken (x ∷ xs) maps h = let p = and_parts (is_silent x) (takes_none xs) h in ap (λ z. z ++ taken_in xs (after_step x maps)) (silent_step x maps p.0).1 ∙ silent_taken xs (after_step x maps) p.1

pub silent_spoken : (xs : List Step) → takes_none xs ≡ true → spoken xs ≡ []
unfolding takes_none
silent_spoken [] h = unfold spoken in refl
silent_spoken (x ∷ xs) h = let p = and_parts (is_silent x) (takes_none xs) h in spoken_append (x ∷ []) xs ∙ ap (λ z. z ++ spoken xs) (silent_step x no_maps p.0).2 ∙ silent_spoken xs p.1

pub silent_after : (xs : List Step) (maps : Maps) → takes_none xs ≡ true → maps_after xs maps ≡ maps
unfolding takes_none maps_after
silent_after [] maps h = refl
silent_after (x ∷ xs) maps h = let p = and_parts (is_silent x) (takes_none xs) h in ap (maps_after xs) (silent_step x maps p.0).0 ∙ silent_after xs maps p.1

silent_one : (x : Step) → is_silent x ≡ true → is_inner_step x ≡ true
silent_one (Guard t) h = refl
silent_one (Token kind x) h = h
silent_one (Plain x) h = h
silent_one (Ends tokens x) h = h
silent_one (Remake due) h = refl
silent_one (Take side at) h = refl
silent_one (CommentText t) h = refl

pub silent_inner : (xs : List Step) → takes_none xs ≡ true → are_inner_steps xs ≡ true
unfolding takes_none
silent_inner [] h = refl
silent_inner (x ∷ xs) h = let p = and_parts (is_silent x) (takes_none xs) h in and_from (is_inner_step x) (are_inner_steps xs) (silent_one x p.0) (silent_inner xs p.1)

pub takes_append : (xs ys : List Step) → takes_none (xs ++ ys) ≡ (takes_none xs && takes_none ys)
unfolding takes_none
takes_append [] ys = refl
takes_append (x ∷ xs) ys = ap (λ z. is_silent x && z) (takes_append xs ys) ∙ and_assoc (is_silent x) (takes_none xs) (takes_none ys)

-- where these comments are still to be taken
pub from_silently : {i : Shape} {room : ℕ} {made : Bool} (env : Env) (p : Part) (steps : List Step) (ts : List lexical.Token) → takes_none steps ≡ true → ((rest : Plan) → p rest env ≡ chain steps (rest env)) → ((s : State) → AtRest s → LaysAt i ts s (run steps s)) → (makes_text steps ≡ true → made ≡ true) → levels steps ≤ room → HandsOverAscii env steps ts → MakesFrom i room env p ts made
from_silently {i} env p steps ts none is lays remakes deep hands =
    let taken : taken_in steps env.maps ≡ [] = silent_taken steps env.maps none in
    record {
      steps = steps;
      is_steps = λ rest. is rest ∙ ap (λ z. chain steps (rest (at_maps z env))) (sym (silent_after steps env.maps none));
      lays = λ s r c. let P : List Comment → Type 0 = λ z. LaysWith i ts (remarks_of z) s (run steps s) in subst P (sym taken) (unfold remarks_of in lays s r);
      remakes = remakes;
      inner = silent_inner steps none;
      deep = deep;
      hands = hands;
      comment_texts = silent_spoken steps none ∙ sym (ap texts_of taken ∙ (unfold texts_of in refl));
    }

pub makes_silently : {i : Shape} {room : ℕ} {made : Bool} (env : Env) (p : Part) (steps : List Step) (ts : List lexical.Token) → takes_none steps ≡ true → ((maps : Maps) (rest : Plan) → p rest (at_maps maps env) ≡ chain steps (rest (at_maps (maps_after steps maps) env))) → ((s : State) → AtRest s → LaysAt i ts s (run steps s)) → (makes_text steps ≡ true → made ≡ true) → levels steps ≤ room → HandsOverAscii env steps ts → MakesWithin i room env p ts made
makes_silently {i} env p steps ts none is lays remakes deep hands = record {
  from = λ maps.
      let taken : taken_in steps maps ≡ [] = silent_taken steps maps none in
      record {
        steps = steps;
        is_steps = is maps;
        lays = λ s r c. let P : List Comment → Type 0 = λ z. LaysWith i ts (remarks_of z) s (run steps s) in subst P (sym taken) (unfold remarks_of in lays s r);
        remakes = remakes;
        inner = silent_inner steps none;
        deep = deep;
        hands = hands_at maps hands;
        comment_texts = silent_spoken steps none ∙ sym (ap texts_of taken ∙ (unfold texts_of in refl));
      };
}

pub writes_nothing : (env : Env) → Fills env (λ rest. rest)
unfolding chain run makes_text levels are_ascii has_string is_string_call takes_none maps_after
writes_nothing env = makes_silently env (λ rest. rest) [] [] refl (λ maps rest. refl) (λ s r. lays_nothing s r) no_text (omega arith) (hands_ascii env [] [] refl no_text)

-- one step
pub writes_step : {i : Shape} (env : Env) (x : Step) (ts : List lexical.Token) → takes_none (x ∷ []) ≡ true → ((s : State) → AtRest s → LaysAt i ts s (put x s)) → levels (x ∷ []) ≤ length ts → HandsOverAscii env (x ∷ []) ts → MakesAt i env (step x) ts (makes_text (x ∷ []))
unfolding step chain run maps_after
writes_step env x ts n h k a = makes_silently env (step x) (x ∷ []) ts n (λ maps rest. refl) h (λ e. e) k a

-- steps that take no comments, between two spots
pub makes_on : {v w : Spot} {i : Shape} {room : ℕ} {made : Bool} (env : Env) (p : Part) (steps : List Step) (ts : List lexical.Token) → takes_none steps ≡ true → ((maps : Maps) (rest : Plan) → p rest (at_maps maps env) ≡ chain steps (rest (at_maps (maps_after steps maps) env))) → ((s : State) → RestsAt v s → LaysTo w i ts [] s (run steps s)) → (makes_text steps ≡ true → made ≡ true) → levels steps ≤ room → HandsOverAscii env steps ts → MakesWithinOn v w i room env p ts made
makes_on {v} {w} {i} env p steps ts none is lays remakes deep hands = record {
  from = λ maps.
      let taken : taken_in steps maps ≡ [] = silent_taken steps maps none in
      record {
        steps = steps;
        is_steps = is maps;
        lays = λ s r c. let P : List Comment → Type 0 = λ z. LaysTo w i ts (remarks_of z) s (run steps s) in subst P (sym taken) (unfold remarks_of in lays s r);
        remakes = remakes;
        inner = silent_inner steps none;
        deep = deep;
        hands = hands_at maps hands;
        comment_texts = silent_spoken steps none ∙ sym (ap texts_of taken ∙ (unfold texts_of in refl));
      };
}

-- a text is made anew, where that is due
pub writes_remake : (env : Env) (due : Bool) → MakesAt open_ env (step (Remake due)) [] due
unfolding put makes_text levels are_ascii has_string is_string_call takes_none
writes_remake env due = subst (λ z. MakesAt open_ env (step (Remake due)) [] z) (or_false due) (writes_step env (Remake due) [] refl (λ s r. lays_nothing s r) (omega arith) (hands_ascii env _ [] refl no_text))

-- two steps
pub writes_two : {i : Shape} (env : Env) (x y : Step) (ts : List lexical.Token) → takes_none (x ∷ y ∷ []) ≡ true → ((s : State) → AtRest s → LaysAt i ts s (put y (put x s))) → levels (x ∷ y ∷ []) ≤ length ts → HandsOverAscii env (x ∷ y ∷ []) ts → MakesAt i env (λ rest. step x (step y rest)) ts (makes_text (x ∷ y ∷ []))
unfolding step chain run maps_after
writes_two env x y ts n h k a = makes_silently env (λ rest. step x (step y rest)) (x ∷ y ∷ []) ts n (λ maps rest. refl) h (λ e. e) k a

-- one of two parts
pub writes_if : {i : Shape} (env : Env) (b : Bool) (p q : Part) (ts : List lexical.Token) → MakesAt i env p ts false → MakesAt i env q ts false → MakesAt i env (λ rest. cond b (p rest) (q rest)) ts false
writes_if env true p q ts h k = h
writes_if env false p q ts h k = k

pub writes_minified : {i : Shape} (env : Env) (p q : Part) (ts : List lexical.Token) → MakesAt i env p ts false → MakesAt i env q ts false → MakesAt i env (when_minified p q) ts false
writes_minified env p q ts h k = elim (cases_Bool env.config.minify) [
  | inl small ↦ writes_same env (when_minified p q) p ts (λ maps rest. minified_same p q rest (at_maps maps env) small) h
  | inr wide ↦ writes_same env (when_minified p q) q ts (λ maps rest. pretty_same p q rest (at_maps maps env) wide) k
]

-- ---- tokens

-- a text behind a guard, in ASCII
guarded_ascii : (t : List ℕ) → is_ascii_text t ≡ true → (is_ascii_text t && true) ≡ true
guarded_ascii t a = and_from (is_ascii_text t) true a refl

pub writes_keyword : (env : Env) (span : Option Span) (t : List ℕ) → Spelled Word t → is_ascii_text t ≡ true → Writes env (keyword span t) (token_of Word (spelling Word t) ∷ [])
unfolding keyword put effect text_of after_token own_put makes_text levels rise are_ascii has_string is_string_call takes_none maps_after after_step
writes_keyword env span t p a = writes_two env (Guard t) (Token Word (Keyword span t)) _ refl (λ s r. lays_token Word span t s p r) (omega arith) (hands_ascii env _ _ (guarded_ascii t a) no_text)

pub writes_operator : (env : Env) (t : List ℕ) → Spelled Punctuator t → is_ascii_text t ≡ true → Writes env (operator t) (token_of Punctuator (spelling Punctuator t) ∷ [])
unfolding operator put effect text_of after_token own_put makes_text levels rise are_ascii has_string is_string_call takes_none maps_after after_step
writes_operator env t p a = writes_two env (Guard t) (Token Punctuator (Operator None t)) _ refl (λ s r. lays_token Punctuator None t s p r) (omega arith) (hands_ascii env _ _ (guarded_ascii t a) no_text)

pub writes_word_operator : (env : Env) (t : List ℕ) → Spelled Word t → is_ascii_text t ≡ true → Writes env (word_operator t) (token_of Word (spelling Word t) ∷ [])
unfolding word_operator put effect text_of after_token own_put makes_text levels rise are_ascii has_string is_string_call takes_none maps_after after_step
writes_word_operator env t p a = writes_two env (Guard t) (Token Word (Operator None t)) _ refl (λ s r. lays_token Word None t s p r) (omega arith) (hands_ascii env _ _ (guarded_ascii t a) no_text)

pub writes_bare_punct : (env : Env) (t : List ℕ) → Spelled Punctuator t → is_ascii_text t ≡ true → Writes env (bare_punct t) (token_of Punctuator (spelling Punctuator t) ∷ [])
unfolding bare_punct put effect text_of after_token punct_put makes_text levels rise are_ascii has_string is_string_call takes_none maps_after after_step
writes_bare_punct env t p a = writes_two env (Guard t) (Token Punctuator (Punct None t)) _ refl (λ s r. lays_punct None t s p r) (omega arith) (hands_ascii env _ _ (guarded_ascii t a) no_text)

pub writes_placed_punct : (env : Env) (span : Span) (t : List ℕ) → Spelled Punctuator t → is_ascii_text t ≡ true → Writes env (placed_punct span t) (token_of Punctuator (spelling Punctuator t) ∷ [])
unfolding placed_punct put effect text_of after_token punct_put makes_text levels rise are_ascii has_string is_string_call takes_none maps_after after_step
writes_placed_punct env span t p a = writes_two env (Guard t) (Token Punctuator (Punct (Some span) t)) _ refl (λ s r. lays_punct (Some span) t s p r) (omega arith) (hands_ascii env _ _ (guarded_ascii t a) no_text)

pub writes_bare_semi : (env : Env) → Writes env bare_semi (token_of Ending (spelling Ending (codes ";")) ∷ [])
unfolding bare_semi put effect text_of after_token semi_put makes_text levels rise are_ascii has_string is_string_call takes_none maps_after after_step
writes_bare_semi env = writes_two env (Guard (codes ";")) (Token Ending (Semi None)) _ refl (λ s r. lays_semi None s r) (omega arith) (hands_ascii env _ _ refl no_text)

pub writes_close : (env : Env) → Writes env close (token_of Close (spelling Close (codes ">")) ∷ [])
unfolding close put effect text_of after_token own_put before_punct is_ending makes_text levels rise are_ascii has_string is_string_call takes_none maps_after after_step
writes_close env = writes_two env (Guard (codes ">")) (Token Close (Punct None (codes ">"))) _ refl (λ s r. lays_token Close None (codes ">") s spelled_close r) (omega arith) (hands_ascii env _ _ refl no_text)

-- ---- tokens behind `[no LineTerminator here]`, and before it

pub writes_joined_operator : (env : Env) (t : List ℕ) → Spelled Punctuator t → is_ascii_text t ≡ true → MakesAt joined env (operator t) (lexical.same_line ∷ token_of Punctuator (spelling Punctuator t) ∷ []) false
unfolding operator put effect text_of after_token own_put makes_text levels rise are_ascii has_string is_string_call takes_none maps_after after_step
writes_joined_operator env t p a = writes_two env (Guard t) (Token Punctuator (Operator None t)) _ refl (λ s r. lays_joint_token Punctuator None t s p r) (omega arith) (hands_ascii env _ _ (guarded_ascii t a) no_text)

-- a punctuator behind which no line may be ended is that alone
pub unbroken_punct : (t : List ℕ) → allows_break t ≡ false → (rest : Plan) (env : Env) → punct t rest env ≡ bare_punct t rest env
unfolding punct
unbroken_punct t h rest env = ap (λ b. bare_punct t (cond b (allow_break rest) rest) env) h

joined_bare_within : (env : Env) (t : List ℕ) → is_ending t ≡ false → Spelled Punctuator t → is_ascii_text t ≡ true → MakesWithin joined 0 env (bare_punct t) (lexical.same_line ∷ token_of Punctuator (spelling Punctuator t) ∷ []) false
unfolding bare_punct step chain run put effect text_of after_token punct_put makes_text levels rise are_ascii has_string is_string_call takes_none maps_after after_step
joined_bare_within env t e p a = makes_silently env (bare_punct t) (Guard t ∷ Token Punctuator (Punct None t) ∷ []) _ refl (λ maps rest. refl) (λ s r. lays_joint_punct None t s e p r) no_text (omega arith) (hands_ascii env _ _ (guarded_ascii t a) no_text)

pub joined_punct_within : (env : Env) (t : List ℕ) → allows_break t ≡ false → is_ending t ≡ false → Spelled Punctuator t → is_ascii_text t ≡ true → MakesWithin joined 0 env (punct t) (lexical.same_line ∷ token_of Punctuator (spelling Punctuator t) ∷ []) false
joined_punct_within env t q e p a = writes_same env (punct t) (bare_punct t) _ (λ maps rest. unbroken_punct t q rest (at_maps maps env)) (joined_bare_within env t e p a)

pub writes_joined_punct : (env : Env) (t : List ℕ) → allows_break t ≡ false → is_ending t ≡ false → Spelled Punctuator t → is_ascii_text t ≡ true → MakesAt joined env (punct t) (lexical.same_line ∷ token_of Punctuator (spelling Punctuator t) ∷ []) false
writes_joined_punct env t q e p a = with_room 0 2 (omega arith) (joined_punct_within env t q e p a)

pub writes_keyword_joint : (env : Env) (span : Option Span) (t : List ℕ) → Spelled Word t → is_ascii_text t ≡ true → MakesAt (join whole joining) env (keyword span t) (token_of Word (spelling Word t) ∷ lexical.same_line ∷ []) false
unfolding keyword put effect text_of after_token own_put makes_text levels rise are_ascii has_string is_string_call takes_none maps_after after_step
writes_keyword_joint env span t p a = writes_two env (Guard t) (Token Word (Keyword span t)) _ refl (λ s r. lays_token_joint Word span t s p r) (omega arith) (hands_ascii env _ _ (guarded_ascii t a) no_text)

-- ---- what stands between

pub writes_space : (env : Env) → Fills env space
unfolding space put text_of after_plain makes_text levels rise are_ascii has_string is_string_call takes_none maps_after after_step
writes_space env = writes_step env (Plain Space) [] refl (λ s r. lays_blank s r) (omega arith) (hands_ascii env _ [] refl no_text)

pub writes_formatting_space : (env : Env) → Fills env formatting_space
unfolding formatting_space no_part
writes_formatting_space env = writes_minified env no_part space [] (writes_nothing env) (writes_space env)

pub writes_line : (env : Env) → EndsLines env line_end
unfolding line_end put text_of after_plain makes_text levels rise are_ascii has_string is_string_call takes_none maps_after after_step
writes_line env = writes_step env (Plain Line) [] refl (λ s r. lays_line s r) (omega arith) (hands_ascii env _ [] refl no_text)

pub writes_formatting_line : (env : Env) → EndsLines env formatting_line
unfolding formatting_line no_part
writes_formatting_line env = writes_minified env no_part line_end [] (makes_wider loose refl (writes_nothing env)) (writes_line env)

pub writes_commit : (env : Env) → Fills env commit_pending_semi
unfolding commit_pending_semi put effect text_of after_plain makes_text levels rise are_ascii has_string is_string_call takes_none maps_after after_step
writes_commit env = writes_step env (Plain Commit) [] refl (λ s r. lays_commit s r) (omega arith) (hands_ascii env _ [] refl no_text)

recorded : (env : Env) (pos : BytePos) → Fills env (step (Plain (Position pos)))
unfolding put effect text_of after_plain makes_text levels rise are_ascii has_string is_string_call takes_none maps_after after_step
recorded env pos = writes_step env (Plain (Position pos)) [] refl (λ s r. lays_position pos s r) (omega arith) (hands_ascii env _ [] refl no_text)

pub writes_position : (env : Env) (pos : BytePos) → Fills env (position pos)
unfolding position
writes_position env pos = writes_if env (pos.0 == 0) (λ rest. rest) (step (Plain (Position pos))) [] (writes_nothing env) (recorded env pos)

pub writes_position_before : (env : Env) (pos : BytePos) → Fills env (position_before pos)
unfolding position_before
writes_position_before env pos = writes_if env (pos.0 == 0) (λ rest. rest) _ [] (writes_nothing env) (recorded env _)

-- ---- indentation

pub writes_shallower : (env : Env) → Fills env shallower
unfolding shallower put effect text_of after_plain makes_text levels rise are_ascii has_string is_string_call takes_none maps_after after_step
writes_shallower env = writes_step env (Plain Shallower) [] refl (λ s r. lays_level (s.sheet.indentation - 1) s r) (omega arith) (hands_ascii env _ [] refl no_text)

pub deeper_within : (env : Env) → MakesWithin open_ 1 env deeper [] false
unfolding deeper step chain run put effect text_of after_plain makes_text levels rise are_ascii has_string is_string_call takes_none maps_after after_step
deeper_within env = makes_silently env deeper (Plain Deeper ∷ []) [] refl (λ maps rest. refl) (λ s r. lays_level (s.sheet.indentation + 1) s r) no_text (omega arith) (hands_ascii env _ [] refl no_text)

pub bare_punct_within : (env : Env) (t : List ℕ) → Spelled Punctuator t → is_ascii_text t ≡ true → MakesWithin whole 0 env (bare_punct t) (token_of Punctuator (spelling Punctuator t) ∷ []) false
unfolding bare_punct step chain run put effect text_of after_token punct_put makes_text levels rise are_ascii has_string is_string_call takes_none maps_after after_step
bare_punct_within env t p a = makes_silently env (bare_punct t) (Guard t ∷ Token Punctuator (Punct None t) ∷ []) _ refl (λ maps rest. refl) (λ s r. lays_punct None t s p r) no_text (omega arith) (hands_ascii env _ _ (guarded_ascii t a) no_text)

-- ---- names

-- a name that doesn't stand in a tag isn't written as it is
own_text : (kind : Kind) (t : List ℕ) → is_tag_kind kind ≡ false → (((is_tag_kind kind || false) && not (is_ascii_text t)) || false) ≡ false
own_text kind t j = ap (λ b. ((b || false) && not (is_ascii_text t)) || false) j

name_token : (env : Env) (kind : Kind) (t : List ℕ) → is_tag_kind kind ≡ false → Spelled kind t → (env.config.ascii_only ≡ true → is_ascii_text t ≡ true) → Writes env (λ rest. step (Guard t) (step (Token kind (Symbol dummy_span t)) rest)) (token_of kind (spelling kind t) ∷ [])
unfolding put effect text_of after_token own_put makes_text levels rise are_ascii has_string is_string_call takes_none maps_after after_step keeps_other is_other is_kept is_kept_call
name_token env kind t j p a = writes_two env (Guard t) (Token kind (Symbol dummy_span t)) _ refl (λ s r. lays_token kind (Some dummy_span) t s p r) (omega arith) (hands_by_settings env _ _ (λ e. guarded_ascii t (a e)) (own_text kind t j) no_text)

-- with a position, which stands after the blank that is due
placed_token : (env : Env) (kind : Kind) (pos : BytePos) (t : List ℕ) → is_tag_kind kind ≡ false → Spelled kind t → (env.config.ascii_only ≡ true → is_ascii_text t ≡ true) → Writes env (λ rest. step (Guard t) (step (Plain (Position pos)) (step (Token kind (Symbol dummy_span t)) rest))) (token_of kind (spelling kind t) ∷ [])
unfolding step chain run put effect text_of after_token after_plain own_put makes_text levels rise are_ascii has_string is_string_call takes_none maps_after after_step keeps_other is_other is_kept is_kept_call is_other_piece is_kept_piece
placed_token env kind pos t j p a = makes_silently env _ (Guard t ∷ Plain (Position pos) ∷ Token kind (Symbol dummy_span t) ∷ []) _ refl (λ maps rest. refl) (λ s r. lays_placed pos kind (Some dummy_span) t s p r) no_text (omega arith) (hands_by_settings env _ _ (λ e. guarded_ascii t (a e)) (own_text kind t j) no_text)

symbol_at : (env : Env) (kind : Kind) (pos : BytePos) (b : Bool) (t : List ℕ) → is_tag_kind kind ≡ false → Spelled kind t → (env.config.ascii_only ≡ true → is_ascii_text t ≡ true) → Writes env (λ rest. step (Guard t) (cond b (step (Token kind (Symbol dummy_span t)) rest) (step (Plain (Position pos)) (step (Token kind (Symbol dummy_span t)) rest)))) (token_of kind (spelling kind t) ∷ [])
symbol_at env kind pos true t j p a = name_token env kind t j p a
symbol_at env kind pos false t j p a = placed_token env kind pos t j p a

-- a token by the call of a name, with its position
pub writes_placed : (env : Env) (kind : Kind) (span : Span) (t : List ℕ) → is_tag_kind kind ≡ false → Spelled kind t → (env.config.ascii_only ≡ true → is_ascii_text t ≡ true) → Writes env (λ rest. step (Guard t) (position span.lo (step (Token kind (Symbol dummy_span t)) rest))) (token_of kind (spelling kind t) ∷ [])
unfolding position
writes_placed env kind span t j p a = symbol_at env kind span.lo (span.lo.0 == 0) t j p a

pub writes_symbol : (env : Env) (span : Span) (t : List ℕ) → Spelled Name t → (env.config.ascii_only ≡ true → is_ascii_text t ≡ true) → Writes env (symbol span t) (token_of Name (spelling Name t) ∷ [])
unfolding symbol is_tag_kind
writes_symbol env span t p a = writes_placed env Name span t refl p a

writes_spelled_symbol : (env : Env) (span : Span) (t : List ℕ) → is_out_name env.config t ≡ false → Spelled Name (in_ascii env.config t) → (env.config.ascii_only ≡ true → is_ascii_text (in_ascii env.config t) ≡ true) → Makes env (spelled_symbol span t) (token_of Name (spelling Name (in_ascii env.config t)) ∷ []) (wants_escapes env.config t)
writes_spelled_symbol env span t o p a =
    let u : List ℕ = in_ascii env.config t in
    let due : Bool = wants_escapes env.config t in
    writes_same env (spelled_symbol span t) (λ rest. step (Remake due) (symbol span u rest)) _ (λ maps rest. spelled_same span t rest (at_maps maps env) o)
    (subst (λ z. Makes env (λ rest. step (Remake due) (symbol span u rest)) (token_of Name (spelling Name u) ∷ []) z) (or_false due)
    (writes_then env (step (Remake due)) (symbol span u) [] _ (writes_remake env due) (writes_symbol env span u p a)))

pub writes_name_text : (env : Env) (span : Span) (bytes : List ℕ) → env.keeps_invalid ≡ false → is_out_name env.config (turned bytes) ≡ false → Spelled Name (written_name env.config bytes) → (env.config.ascii_only ≡ true → is_ascii_text (written_name env.config bytes) ≡ true) → Makes env (name_text span bytes) (token_of Name (spelling Name (written_name env.config bytes)) ∷ []) (has_backslash bytes || wants_escapes env.config (turned bytes))
unfolding valid_symbol written_name
writes_name_text env span bytes e o p a =
    writes_same env (name_text span bytes) (valid_symbol span bytes) _ (λ maps rest. valid_same span bytes rest (at_maps maps env) e)
    (writes_then env (step (Remake (has_backslash bytes))) (spelled_symbol span (turned bytes)) [] _ (writes_remake env (has_backslash bytes)) (writes_spelled_symbol env span (turned bytes) o p a))

-- ---- with the place behind it where a line may be ended

brace_allows : (c : ℕ) → (c == 125) ≡ true → allows_break (c ∷ []) ≡ false
brace_allows c h = subst (λ z. allows_break (z ∷ []) ≡ false) (sym (eqb-true c 125 h)) refl

-- `}` isn't among them
pub no_brace : (t : List ℕ) → allows_break t ≡ true → is_same (spelling Punctuator t) (codes "}") ≡ false
unfolding is_same spelling
no_brace [] h = absurd (true≢false (sym h))
no_brace (c ∷ []) h = false_from_ne_true ((c == 125) && true) (λ e. true≢false (sym h ∙ brace_allows c (and_parts (c == 125) true e).0))
no_brace (c ∷ d ∷ ds) h = absurd (true≢false (sym h))

broken_within : (env : Env) (allowed : Bool) (t : List ℕ) → is_same (spelling Punctuator t) (codes "}") ≡ false → Spelled Punctuator t → is_ascii_text t ≡ true → MakesWithin ended 0 env (λ rest. bare_punct t (break_where allowed rest)) (token_of Punctuator (spelling Punctuator t) ∷ []) false
unfolding bare_punct break_where step chain run put effect text_of after_token after_plain punct_put makes_text levels rise are_ascii has_string is_string_call takes_none maps_after after_step
broken_within env true t e p a =
    makes_silently env _ (Guard t ∷ Token Punctuator (Punct None t) ∷ Plain AllowBreak ∷ []) _ refl (λ maps rest. refl) (λ s r. lays_punct_break None t s e p r) no_text (omega arith) (hands_ascii env _ _ (guarded_ascii t a) no_text)
broken_within env false t e p a = makes_wider ended refl (bare_punct_within env t p a)

-- what a punctuator leaves: a line may be ended behind `,` and not behind `.`
abbrev pub punct_shape : List ℕ → Shape
punct_shape t = cond (allows_break t) ended whole

behind_within : (env : Env) (b : Bool) (t : List ℕ) → (b ≡ true → is_same (spelling Punctuator t) (codes "}") ≡ false) → Spelled Punctuator t → is_ascii_text t ≡ true → MakesWithin (cond b ended whole) 0 env (λ rest. bare_punct t (cond b (allow_break rest) rest)) (token_of Punctuator (spelling Punctuator t) ∷ []) false
unfolding bare_punct allow_break step
behind_within env true t n p a = writes_same env _ (λ rest. bare_punct t (break_where (is_bounded env) rest)) _ (λ maps rest. refl) (broken_within env (is_bounded env) t (n refl) p a)
behind_within env false t n p a = bare_punct_within env t p a

pub punct_within : (env : Env) (t : List ℕ) → Spelled Punctuator t → is_ascii_text t ≡ true → MakesWithin (punct_shape t) 0 env (punct t) (token_of Punctuator (spelling Punctuator t) ∷ []) false
unfolding punct
punct_within env t p a = behind_within env (allows_break t) t (no_brace t) p a

behind_ended : (b : Bool) → is_within (cond b ended whole) ended ≡ true
behind_ended true = refl
behind_ended false = refl

-- whatever punctuator it is, a line may end behind it
pub opened_within : (env : Env) (t : List ℕ) → Spelled Punctuator t → is_ascii_text t ≡ true → MakesWithin ended 0 env (punct t) (token_of Punctuator (spelling Punctuator t) ∷ []) false
opened_within env t p a = makes_wider ended (behind_ended (allows_break t)) (punct_within env t p a)

pub writes_punct : (env : Env) (t : List ℕ) → Spelled Punctuator t → is_ascii_text t ≡ true → MakesAt (punct_shape t) env (punct t) (token_of Punctuator (spelling Punctuator t) ∷ []) false
writes_punct env t p a = with_room 0 1 (omega arith) (punct_within env t p a)

pub writes_opened_punct : (env : Env) (t : List ℕ) → Spelled Punctuator t → is_ascii_text t ≡ true → MakesAt ended env (punct t) (token_of Punctuator (spelling Punctuator t) ∷ []) false
writes_opened_punct env t p a = with_room 0 1 (omega arith) (opened_within env t p a)

broken_semi : (env : Env) (allowed : Bool) → MakesAt ended env (λ rest. bare_semi (break_where allowed rest)) (token_of Ending (spelling Ending (codes ";")) ∷ []) false
unfolding bare_semi break_where step chain run put effect text_of after_token after_plain semi_put makes_text levels rise are_ascii has_string is_string_call takes_none maps_after after_step
broken_semi env true =
    makes_silently env _ (Guard (codes ";") ∷ Token Ending (Semi None) ∷ Plain AllowBreak ∷ []) _ refl (λ maps rest. refl) (λ s r. lays_semi_break None s r) no_text (omega arith) (hands_ascii env _ _ refl no_text)
broken_semi env false = makes_wider ended refl (writes_bare_semi env)

pub writes_semi : (env : Env) → MakesAt ended env semi (token_of Ending (spelling Ending (codes ";")) ∷ []) false
unfolding semi bare_semi allow_break step
writes_semi env = writes_same env semi (λ rest. bare_semi (break_where (is_bounded env) rest)) _ (λ maps rest. refl) (broken_semi env (is_bounded env))
