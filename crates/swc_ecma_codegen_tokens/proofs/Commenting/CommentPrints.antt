-- What the words of comments write, whatever comes after them.
use Rattle.std.proofs.Common.{◌≡◌, ℕ, ◌-◌, Bool, true, false, cond, List, [], ◌∷◌, ◌++◌, append-nil, arith, ◌==◌, codes, refl, sym, ap, ◌∙◌, subst, inl, inr}
use Rattle.std.proofs.lemmas.Bool.{and_from, and_parts, cases_Bool, or_from, true≢false}
use Rattle.swc_ecma_codegen_common.specs.declared.positions.BytePos.{BytePos}
use Rattle.swc_ecma_codegen_common.specs.declared.positions.Span.{Span}
use Rattle.swc_ecma_codegen_grammar.specs.Tokens as lexical
use Rattle.swc_ecma_codegen_text_writer.specs.Sheet.{Space, Line, Position, Commit, effect}
use Rattle.swc_ecma_codegen_tokens.specs.Run.{Env, Plan, Part, State, Step, Guard, Plain, Take, CommentText, next, at_maps, after_step, maps_after, taken_by, taken_in, spoken, put, run, step, text_of, after_plain, when_minified, no_part, makes_text}
use Rattle.swc_ecma_codegen_tokens.specs.Words.{space, formatting_space, line_end, commit_pending_semi, position, comment_blank, before_closing, comment_by, comment, comments, take_comments, leading_comments, trailing_comments, comments_before_end}
use Rattle.swc_ecma_codegen_tokens.specs.Ascii.{are_ascii}
use Rattle.swc_ecma_codegen_tokens.specs.Scripts.{is_string_call}
use Rattle.swc_ecma_codegen_tokens.specs.Written.{RestsAt, Spot, Anything, InName}
use Rattle.swc_ecma_codegen_tokens.proofs.Emission.Emitting.{minified_same, pretty_same}
use Rattle.swc_ecma_codegen_tokens.proofs.Emission.Fronts.{run_append, are_inner_steps, inner_append}
use Rattle.swc_ecma_codegen_tokens.proofs.Emission.StepAscii.{has_string, has_append, ascii_append, hands_ascii}
use Rattle.swc_ecma_codegen_tokens.proofs.Emission.Levels.{levels, rise, levels_append}
use Rattle.swc_ecma_codegen_tokens.proofs.Filling.Shapes.{Shape, open_}
use Rattle.swc_ecma_codegen_grammar.specs.CommentMaps.{Maps}
use Rattle.swc_ecma_codegen_grammar.specs.Chars.{is_one_line}
use Rattle.swc_ecma_codegen_grammar.specs.Trivia as trivia
use Rattle.swc_ecma_codegen_grammar.specs.Trivia.{Remark, is_open}
use Rattle.std.specs.Str.{chars, IsUtf8}
use Rattle.std.specs.Prelude.{nat_lt, string_bytes}
use Rattle.std.proofs.lemmas.Str.{IsUtf8-string_bytes}
use Rattle.swc_ecma_codegen_grammar.specs.declared.comments.CommentKind.{CommentKind}
use Rattle.swc_ecma_codegen_grammar.specs.declared.comments.CommentKind.TheVariants as kinds
use Rattle.swc_ecma_codegen_text_writer.specs.Sheet as calls
use Rattle.swc_ecma_codegen_tokens.proofs.LiteralTokens.ValueStrings.{anew_after, anew_append}
use Rattle.swc_ecma_codegen_tokens.proofs.Commenting.CommentLays.{lays_line_comment, lays_line_noted, lays_block_comment, lays_block_noted, lays_comment_blank}
use Rattle.swc_ecma_codegen_grammar.specs.declared.comments.Comment.{Comment}
use Rattle.swc_ecma_codegen_grammar.specs.Comments.{Side, Leading, Trailing, comments_at, taken_out, remark_by, remarks_of, texts_of, is_closed, all_closed}
use Rattle.swc_ecma_codegen_tokens.proofs.Gaps.Spots.{is_narrower, rests_narrower, lays_narrower}
use Rattle.swc_ecma_codegen_tokens.proofs.Reading.Laid.{lays_then, lays_nothing, lays_taken, named_taken, rest_taken, LaysTo}
use Rattle.swc_ecma_codegen_tokens.proofs.Gaps.Written.{lays_named_commit, lays_named_position, lays_blank}
use Rattle.swc_ecma_codegen_tokens.proofs.Reading.Printed.{chain, chain_append, MakesOn, MakesWithinOn, Fills, remakes_append, no_text, maps_append, closed_append, spoken_append, from_same, takes_none, writes_nothing, makes_on, writes_if, taken_append}

-- A part is these steps, whatever comes after it: they write comments, which read so and have these texts, and no token, and take none out of the maps.
pub record SaysOn (before behind : Spot) (env : Env) (part : Part) (rs : List Remark) (texts : List (List ℕ)) : Type 0 where
  pub steps : List Step
  pub is_steps : (rest : Plan) → part rest env ≡ chain steps (rest env)
  pub lays : (s : State) → RestsAt before s → all_closed rs ≡ true → LaysTo behind open_ [] rs s (run steps s)
  pub remakes : makes_text steps ≡ false
  pub inner : are_inner_steps steps ≡ true
  pub deep : levels steps ≡ 0
  pub ascii : are_ascii steps ≡ true
  pub strings : has_string steps ≡ false
  pub comment_texts : spoken steps ≡ texts
  pub kept : (maps : Maps) → maps_after steps maps ≡ maps
  pub taken : (maps : Maps) → taken_in steps maps ≡ []
  pub anew : (b : Bool) → anew_after b steps ≡ b

-- where any token may come, before them and behind them
abbrev pub Says : Env → Part → List Remark → List (List ℕ) → Type 0
Says env part rs texts = SaysOn Anything Anything env part rs texts

says_then : {u v w : Spot} (env : Env) (p q : Part) {rs qs : List Remark} {ts us : List (List ℕ)} → SaysOn u v env p rs ts → SaysOn v w env q qs us → SaysOn u w env (λ rest. p (q rest)) (rs ++ qs) (ts ++ us)
says_then {w = w} env p q {rs} {qs} {ts} {us} h k = record {
  steps = h.steps ++ k.steps;
  is_steps = λ rest. h.is_steps (q rest) ∙ ap (λ z. chain h.steps z) (k.is_steps rest) ∙ sym (chain_append h.steps k.steps (rest env));
  lays = λ s r c.
      let closed = and_parts (all_closed rs) (all_closed qs) (sym (closed_append rs qs) ∙ c) in
      let x = h.lays s r closed.0 in
      let P : State → Type 0 = λ z. LaysTo w open_ [] (rs ++ qs) s z in
      subst P (sym (run_append h.steps k.steps s)) (lays_then [] [] s (run h.steps s) (run k.steps (run h.steps s)) x (k.lays (run h.steps s) x.rest closed.1));
  remakes = remakes_append h.steps k.steps ∙ or_from (makes_text h.steps) (makes_text k.steps) h.remakes k.remakes;
  inner = inner_append h.steps k.steps ∙ and_from (are_inner_steps h.steps) (are_inner_steps k.steps) h.inner k.inner;
  deep = let x = h.deep in let y = k.deep in omega (arith, x, y, levels_append h.steps k.steps);
  ascii = ascii_append h.steps k.steps ∙ and_from (are_ascii h.steps) (are_ascii k.steps) h.ascii k.ascii;
  strings = has_append h.steps k.steps ∙ or_from (has_string h.steps) (has_string k.steps) h.strings k.strings;
  comment_texts = spoken_append h.steps k.steps ∙ ap (λ z. z ++ spoken k.steps) h.comment_texts ∙ ap (λ z. ts ++ z) k.comment_texts;
  kept = λ maps. maps_append h.steps k.steps maps ∙ ap (maps_after k.steps) (h.kept maps) ∙ k.kept maps;
  taken = λ maps. taken_append h.steps k.steps maps ∙ ap (λ z. z ++ taken_in k.steps (maps_after h.steps maps)) (h.taken maps) ∙ k.taken (maps_after h.steps maps);
  anew = λ b. anew_append b h.steps k.steps ∙ k.anew (anew_after b h.steps) ∙ h.anew b;
}

says_same : {u v : Spot} (env : Env) (p q : Part) {rs : List Remark} {ts : List (List ℕ)} → ((rest : Plan) → p rest env ≡ q rest env) → SaysOn u v env q rs ts → SaysOn u v env p rs ts
says_same env p q e h = record { steps = h.steps; is_steps = λ rest. e rest ∙ h.is_steps rest; lays = h.lays; remakes = h.remakes; inner = h.inner; deep = h.deep; ascii = h.ascii; strings = h.strings; comment_texts = h.comment_texts; kept = h.kept; taken = h.taken; anew = h.anew }

-- steps that take nothing
says_steps : {u v : Spot} (env : Env) (p : Part) (steps : List Step) (rs : List Remark) (ts : List (List ℕ)) → ((rest : Plan) → p rest env ≡ chain steps (rest env)) → ((s : State) → RestsAt u s → all_closed rs ≡ true → LaysTo v open_ [] rs s (run steps s)) → makes_text steps ≡ false → levels steps ≡ 0 → are_ascii steps ≡ true → has_string steps ≡ false → spoken steps ≡ ts → are_inner_steps steps ≡ true → ((maps : Maps) → maps_after steps maps ≡ maps) → ((maps : Maps) → taken_in steps maps ≡ []) → ((b : Bool) → anew_after b steps ≡ b) → SaysOn u v env p rs ts
says_steps env p steps rs ts i l m d a h t z k n w = record { steps = steps; is_steps = i; lays = l; remakes = m; inner = z; deep = d; ascii = a; strings = h; comment_texts = t; kept = k; taken = n; anew = w }

says_nothing : {v : Spot} (env : Env) → SaysOn v v env (λ rest. rest) [] []
unfolding chain run makes_text levels are_ascii has_string spoken maps_after taken_in anew_after
says_nothing env = says_steps env (λ rest. rest) [] [] [] (λ rest. refl) (λ s r c. lays_nothing s r) refl refl refl refl refl refl (λ maps. refl) (λ maps. refl) (λ b. refl)

says_if : {u v : Spot} (env : Env) (b : Bool) (p q : Part) {rs : List Remark} {ts : List (List ℕ)} → SaysOn u v env p rs ts → SaysOn u v env q rs ts → SaysOn u v env (λ rest. cond b (p rest) (q rest)) rs ts
says_if env true p q h k = h
says_if env false p q h k = k

says_minified : (env : Env) (p q : Part) {rs : List Remark} {ts : List (List ℕ)} → Says env p rs ts → Says env q rs ts → Says env (when_minified p q) rs ts
says_minified env p q h k = elim (cases_Bool env.config.minify) [
  | inl small ↦ says_same env (when_minified p q) p (λ rest. minified_same p q rest env small) h
  | inr wide ↦ says_same env (when_minified p q) q (λ rest. pretty_same p q rest env wide) k
]

-- a position
named_noted : (env : Env) (pos : BytePos) → SaysOn InName InName env (step (Plain (Position pos))) [] []
unfolding step chain run put effect text_of after_plain makes_text levels rise are_ascii has_string is_string_call spoken maps_after after_step taken_in taken_by anew_after
named_noted env pos = says_steps env (step (Plain (Position pos))) (Plain (Position pos) ∷ []) [] [] (λ rest. refl) (λ s r c. lays_named_position pos s r) refl refl refl refl refl refl (λ maps. refl) (λ maps. refl) (λ b. refl)

says_position : (env : Env) (pos : BytePos) → SaysOn InName InName env (position pos) [] []
unfolding position
says_position env pos = says_if env (pos.0 == 0) (λ rest. rest) (step (Plain (Position pos))) (says_nothing env) (named_noted env pos)

says_space : (env : Env) → Says env space [] []
unfolding space step chain run put effect text_of after_plain makes_text levels rise are_ascii has_string is_string_call spoken maps_after after_step taken_in taken_by anew_after
says_space env = says_steps env space (Plain Space ∷ []) [] [] (λ rest. refl) (λ s r c. lays_blank s r) refl refl refl refl refl refl (λ maps. refl) (λ maps. refl) (λ b. refl)

says_formatting_space : (env : Env) → Says env formatting_space [] []
unfolding formatting_space no_part
says_formatting_space env = says_minified env no_part space (says_nothing env) (says_space env)

says_blank : (env : Env) → Says env (step (Plain (calls.Comment (codes " ")))) [] []
unfolding step chain run text_of makes_text levels rise are_ascii has_string is_string_call spoken maps_after after_step taken_in taken_by anew_after
says_blank env = says_steps env (step (Plain (calls.Comment (codes " ")))) (Plain (calls.Comment (codes " ")) ∷ []) [] [] (λ rest. refl) (λ s r c. lays_comment_blank s r) refl refl refl refl refl refl (λ maps. refl) (λ maps. refl) (λ b. refl)

says_prefix : (env : Env) (b : Bool) → Says env (comment_blank b) [] []
unfolding comment_blank no_part
says_prefix env b = says_if env b (when_minified no_part (step (Plain (calls.Comment (codes " "))))) (λ rest. rest) (says_minified env no_part _ (says_nothing env) (says_blank env)) (says_nothing env)

-- `// a` and the end of its line, and with the position of that end
line_said : (env : Env) (pos : BytePos) (b : Bool) (t : List ℕ) → IsUtf8 t → SaysOn InName Anything env (λ rest. step (Guard (codes "//")) (step (Plain (calls.Comment (codes "//"))) (step (CommentText t) (cond b (line_end rest) (step (Plain (Position pos)) (line_end rest)))))) (trivia.Line (chars t) ∷ []) (t ∷ [])
unfolding line_end step chain run text_of makes_text levels rise are_ascii has_string is_string_call spoken maps_after after_step taken_in taken_by anew_after all_closed is_closed
line_said env pos true t u = says_steps env _ (Guard (codes "//") ∷ Plain (calls.Comment (codes "//")) ∷ CommentText t ∷ Plain Line ∷ []) _ _ (λ rest. refl) (λ s r c. lays_line_comment t s u (and_parts (is_one_line (chars t)) true c).0 r) refl refl refl refl refl refl (λ maps. refl) (λ maps. refl) (λ b. refl)
line_said env pos false t u = says_steps env _ (Guard (codes "//") ∷ Plain (calls.Comment (codes "//")) ∷ CommentText t ∷ Plain (Position pos) ∷ Plain Line ∷ []) _ _ (λ rest. refl) (λ s r c. lays_line_noted pos t s u (and_parts (is_one_line (chars t)) true c).0 r) refl refl refl refl refl refl (λ maps. refl) (λ maps. refl) (λ b. refl)

-- `/* a */`, and with a position before what closes it
block_said : (env : Env) (pos : BytePos) (b : Bool) (t : List ℕ) → IsUtf8 t → SaysOn InName Anything env (λ rest. step (Guard (codes "/*")) (step (Plain (calls.Comment (codes "/*"))) (step (CommentText t) (cond b (step (Plain (Position pos)) (step (Plain (calls.Comment (codes "*/"))) rest)) (step (Plain (calls.Comment (codes "*/"))) rest))))) (trivia.Block (chars t) ∷ []) (t ∷ [])
unfolding step chain run text_of makes_text levels rise are_ascii has_string is_string_call spoken maps_after after_step taken_in taken_by anew_after all_closed is_closed
block_said env pos true t u = says_steps env _ (Guard (codes "/*") ∷ Plain (calls.Comment (codes "/*")) ∷ CommentText t ∷ Plain (Position pos) ∷ Plain (calls.Comment (codes "*/")) ∷ []) _ _ (λ rest. refl) (λ s r c. lays_block_noted pos t s u (and_parts (is_open (chars t)) true c).0 r) refl refl refl refl refl refl (λ maps. refl) (λ maps. refl) (λ b. refl)
block_said env pos false t u = says_steps env _ (Guard (codes "/*") ∷ Plain (calls.Comment (codes "/*")) ∷ CommentText t ∷ Plain (calls.Comment (codes "*/")) ∷ []) _ _ (λ rest. refl) (λ s r c. lays_block_comment t s u (and_parts (is_open (chars t)) true c).0 r) refl refl refl refl refl refl (λ maps. refl) (λ maps. refl) (λ b. refl)

says_comment_by : (env : Env) (kind : CommentKind) (span : Span) (t : List ℕ) → IsUtf8 t → SaysOn InName Anything env (comment_by kind span t) (remark_by kind (chars t) ∷ []) (t ∷ [])
unfolding comment_by remark_by before_closing position
says_comment_by env kinds.Line span t u = says_then env (position span.lo) _ (says_position env span.lo) (line_said env span.hi (span.hi.0 == 0) t u)
says_comment_by env kinds.Block span t u =
    let pos : BytePos = record { 0 = span.hi.0 - 2 } in
    says_then env (position span.lo) _ (says_position env span.lo)
    (says_then env (λ rest. step (Guard (codes "/*")) (step (Plain (calls.Comment (codes "/*"))) (step (CommentText t) (before_closing span.hi (step (Plain (calls.Comment (codes "*/"))) rest))))) formatting_space (block_said env pos (nat_lt 2 span.hi.0) t u) (says_formatting_space env))

-- where more may come before, and less behind
says_spots : {v w : Spot} (u x : Spot) (env : Env) (p : Part) {rs : List Remark} {ts : List (List ℕ)} → is_narrower u v ≡ true → is_narrower w x ≡ true → SaysOn v w env p rs ts → SaysOn u x env p rs ts
says_spots {v} {w} u x env p e k h = record {
  steps = h.steps;
  is_steps = h.is_steps;
  lays = λ s r c. lays_narrower w x s (run h.steps s) k (h.lays s (rests_narrower u v s e r) c);
  remakes = h.remakes;
  inner = h.inner;
  deep = h.deep;
  ascii = h.ascii;
  strings = h.strings;
  comment_texts = h.comment_texts;
  kept = h.kept;
  taken = h.taken;
  anew = h.anew;
}

pub says_comments : (env : Env) (prefix_space : Bool) (cs : List Comment) → Says env (comments prefix_space cs) (remarks_of cs) (texts_of cs)
unfolding comments comment remarks_of texts_of
says_comments env b [] = says_nothing env
says_comments env b (c ∷ cs) =
    let one = says_spots Anything Anything env (comment_by c.kind c.span (string_bytes c.text)) refl refl (says_comment_by env c.kind c.span (string_bytes c.text) (IsUtf8-string_bytes c.text)) in
    says_then env (λ rest. comment_blank b (comment_by c.kind c.span (string_bytes c.text) rest)) (comments b cs) (says_then env (comment_blank b) (comment_by c.kind c.span (string_bytes c.text)) (says_prefix env b) one) (says_comments env b cs)

-- behind a name in a tag
named_comments : (env : Env) (cs : List Comment) → SaysOn InName InName env (comments false cs) (remarks_of cs) (texts_of cs)
unfolding comments comment comment_blank remarks_of texts_of
named_comments env [] = says_nothing env
named_comments env (c ∷ cs) =
    says_spots InName InName env (comments false (c ∷ cs)) refl refl
    (says_then env (comment_by c.kind c.span (string_bytes c.text)) (comments false cs) (says_comment_by env c.kind c.span (string_bytes c.text) (IsUtf8-string_bytes c.text)) (says_comments env false cs))

-- what is said of comments that were taken out of the maps is made of their taking
from_said : {u v : Spot} (side : Side) (at : ℕ) (env : Env) (p : Part) → ((s : State) → RestsAt u s → RestsAt u (put (Take side at) s)) → SaysOn u v (at_maps (taken_out side at env.maps) env) p (remarks_of (comments_at side at env.maps)) (texts_of (comments_at side at env.maps)) → MakesOn u v open_ 0 env (λ rest v. step (Take side at) (p rest) v) [] false
unfolding step chain run put makes_text levels are_ascii has_string spoken maps_after after_step taken_in taken_by anew_after
from_said {v = w} side at env p g h =
    let cs : List Comment = comments_at side at env.maps in
    let there : Maps = taken_out side at env.maps in
    let taken : cs ++ taken_in h.steps there ≡ cs = ap (λ z. cs ++ z) (h.taken there) ∙ append-nil cs in
    record {
      steps = Take side at ∷ h.steps;
      is_steps = λ rest. ap (λ z. next (Take side at) z) (h.is_steps rest ∙ ap (λ z. chain h.steps (rest (at_maps z env))) (sym (h.kept there)));
      lays = λ s r c.
          let t : State = put (Take side at) s in
          let P : List Comment → Type 0 = λ z. LaysTo w open_ [] (remarks_of z) s (run h.steps t) in
          subst P (sym taken) (lays_taken side at s (run h.steps t) (h.lays t (g s r) (ap (λ z. all_closed (remarks_of z)) (sym taken) ∙ c)));
      remakes = λ e. absurd (true≢false (sym e ∙ h.remakes));
      inner = h.inner;
      deep = let x = h.deep in omega (arith, x);
      hands = hands_ascii env _ [] h.ascii (λ e. absurd (true≢false (sym e ∙ h.strings)));
      comment_texts = h.comment_texts ∙ ap texts_of (sym taken);
    }

writes_taken : (env : Env) (side : Side) (b : Bool) (at : ℕ) → Fills env (take_comments side b at)
unfolding take_comments
writes_taken env side b at = record { from = λ maps. from_same (at_maps maps env) (take_comments side b at) (λ rest v. step (Take side at) (comments b (comments_at side at maps) rest) v) [] (λ rest. refl) (from_said side at (at_maps maps env) (comments b (comments_at side at maps)) (rest_taken side at) (says_comments (at_maps (taken_out side at maps) env) b (comments_at side at maps))) }

-- behind a name in a tag
named_comments_taken : (env : Env) (at : ℕ) → MakesWithinOn InName InName open_ 0 env (take_comments Leading false at) [] false
unfolding take_comments
named_comments_taken env at = record { from = λ maps. from_same (at_maps maps env) (take_comments Leading false at) (λ rest v. step (Take Leading at) (comments false (comments_at Leading at maps) rest) v) [] (λ rest. refl) (from_said Leading at (at_maps maps env) (comments false (comments_at Leading at maps)) (named_taken Leading at) (named_comments (at_maps (taken_out Leading at maps) env) (comments_at Leading at maps))) }

pub writes_on_if : {u v : Spot} {i : Shape} {room : ℕ} {ts : List lexical.Token} (env : Env) (b : Bool) (p q : Part) → MakesWithinOn u v i room env p ts false → MakesWithinOn u v i room env q ts false → MakesWithinOn u v i room env (λ rest. cond b (p rest) (q rest)) ts false
writes_on_if env true p q h k = h
writes_on_if env false p q h k = k

pub nothing_on : {v : Spot} (env : Env) → MakesWithinOn v v open_ 0 env (λ rest. rest) [] false
unfolding chain run makes_text levels are_ascii has_string takes_none maps_after
nothing_on env = makes_on env (λ rest. rest) [] [] refl (λ maps rest. refl) (λ s r. lays_nothing s r) no_text (omega arith) (hands_ascii env [] [] refl no_text)

pub writes_named_leading : (env : Env) (pos : BytePos) → MakesWithinOn InName InName open_ 0 env (leading_comments pos) [] false
unfolding leading_comments
writes_named_leading env pos = writes_on_if env (pos.0 == 0) (λ rest. rest) (take_comments Leading false pos.0) (nothing_on env) (named_comments_taken env pos.0)

-- a semicolon that is held back is written there too
pub writes_named_commit : (env : Env) → MakesWithinOn InName InName open_ 0 env commit_pending_semi [] false
unfolding commit_pending_semi step chain run put effect text_of after_plain makes_text levels rise are_ascii has_string is_string_call takes_none maps_after after_step
writes_named_commit env = makes_on env commit_pending_semi (Plain Commit ∷ []) [] refl (λ maps rest. refl) (λ s r. lays_named_commit s r) no_text (omega arith) (hands_ascii env _ [] refl no_text)

pub writes_leading : (env : Env) (pos : BytePos) → Fills env (leading_comments pos)
unfolding leading_comments
writes_leading env pos = writes_if env (pos.0 == 0) (λ rest. rest) (take_comments Leading false pos.0) [] (writes_nothing env) (writes_taken env Leading false pos.0)

pub writes_trailing : (env : Env) (b : Bool) (pos : BytePos) → Fills env (trailing_comments b pos)
unfolding trailing_comments
writes_trailing env b pos = writes_if env (pos.0 == 0) (λ rest. rest) (take_comments Trailing b pos.0) [] (writes_nothing env) (writes_taken env Trailing b pos.0)

pub writes_before_end : (env : Env) (pos : BytePos) → Fills env (comments_before_end pos)
unfolding comments_before_end
writes_before_end env pos = writes_if env (pos.0 == 0) (λ rest. rest) (take_comments Leading false (pos.0 - 1)) [] (writes_nothing env) (writes_taken env Leading false (pos.0 - 1))
