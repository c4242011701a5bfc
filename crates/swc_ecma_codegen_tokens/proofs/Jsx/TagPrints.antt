-- What is printed of JSX, between spots.
use Rattle.std.proofs.Common.{◌≡◌, ℕ, Bool, true, false, cond, not, ◌&&◌, ◌||◌, ◌==◌, List, [], ◌∷◌, codes, arith, refl, sym, ap, ◌∙◌, subst, inl, inr, Some, None}
use Rattle.std.specs.Str.{chars, is_utf8, IsUtf8}
use Rattle.std.proofs.lemmas.Bool.{and_from, and_parts, cases_Bool, false_from_ne_true, not_from_false, or_cases, or_left, true≢false}
use Rattle.swc_ecma_codegen_grammar.proofs.Tables.{eq_of_same}
use Rattle.std.proofs.lemmas.Str.{chars-nil, IsUtf8-from_is_utf8}
use Rattle.swc_ecma_codegen_common.specs.declared.positions.BytePos.{BytePos}
use Rattle.swc_ecma_codegen_common.specs.declared.positions.Span.{Span}
use Rattle.swc_ecma_codegen_spans.specs.Spans.{dummy_span}
use Rattle.swc_ecma_codegen_grammar.specs.declared.kinds.Kind.TheVariants.{Punctuator, Close, JsxName, JsxText, JsxOpen}
use Rattle.swc_ecma_codegen_grammar.specs.Tokens as lexical
use Rattle.swc_ecma_codegen_grammar.specs.Tokens.{has_shape, token_of, value_of}
use Rattle.swc_ecma_codegen_grammar.specs.Jsx.{is_jsx_name, is_jsx_text, is_jsx_open}
use Rattle.swc_ecma_codegen_grammar.specs.Texts.{begins, is_same, is_among, is_empty}
use Rattle.swc_ecma_codegen_grammar.specs.Punctuators.{is_punctuator, punctuators}
use Rattle.swc_ecma_codegen_grammar.specs.Reads.{is_hashbang_kind}
use Rattle.swc_ecma_codegen_grammar.specs.GapRules.{ends_text}
use Rattle.swc_ecma_codegen_grammar.specs.Phrases.{Phrase, Never, Nothing, One, TagNameOf, PlacedName, Tag, where_, mark, ◌>◌, Generates, is_possible, names_in}
use Rattle.swc_ecma_codegen_grammar.specs.PlainPhrases.{plain_phrase}
use Rattle.swc_ecma_codegen_grammar.specs.SpelledNames.{is_well_formed_tag_name}
use Rattle.swc_ecma_codegen_text_writer.specs.Sheet.{Space, StrLit, Symbol, Punct, Position, Commit, effect, before_punct, is_ending}
use Rattle.swc_ecma_codegen_literals.specs.AsciiNames.{is_ascii_text}
use Rattle.swc_ecma_codegen_tokens.specs.Run.{Env, Part, Step, Guard, Token, Plain, step, put, run, spelling, text_of, after_token, after_plain, after_step, maps_after, makes_text, at_maps, steps_of, nothing, no_part}
use Rattle.swc_ecma_codegen_tokens.specs.Words.{allows_break, bare_punct, punct, space, formatting_space, commit_pending_semi, position}
use Rattle.swc_ecma_codegen_tokens.specs.Tags.{closing, close, tag_name_token, tag_symbol, tag_name, text_token, jsx_text, open_token, child_open}
use Rattle.swc_ecma_codegen_tokens.specs.Ascii.{is_tag_kind, is_kept, is_kept_piece, is_other, is_other_piece, is_other_value, keeps_other, keeps_tokens, are_ascii, are_ascii_or_kept}
use Rattle.swc_ecma_codegen_tokens.specs.Scripts.{is_str, is_string_call}
use Rattle.swc_ecma_codegen_tokens.specs.Written.{IsMark, Spot, Anything, Between, InText, InName}
use Rattle.swc_ecma_codegen_tokens.proofs.Emission.StepAscii.{HandsOverAscii, has_string, holds_string, hands_ascii}
use Rattle.swc_ecma_codegen_tokens.specs.Named.{EachName}
use Rattle.swc_ecma_codegen_tokens.specs.Targets.{written_as, written_by}
use Rattle.swc_ecma_codegen_tokens.proofs.LiteralTokens.NumeralTexts.{ascii_by_chars}
use Rattle.swc_ecma_codegen_tokens.proofs.Emission.Positions.{Named, name_named, name_steps, name_call}
use Rattle.swc_ecma_codegen_tokens.proofs.Jsx.TagStanding.{tag_stands}
use Rattle.swc_ecma_codegen_tokens.proofs.Emission.Levels.{levels, rise}
use Rattle.swc_ecma_codegen_tokens.proofs.Filling.Shapes.{Shape, whole, open_, is_within}
use Rattle.swc_ecma_codegen_tokens.proofs.Gaps.Spots.{is_narrower, rests_narrower, lays_narrower}
use Rattle.swc_ecma_codegen_tokens.proofs.Reading.Laid.{lays_nothing}
use Rattle.swc_ecma_codegen_tokens.proofs.Reading.TokenLays.{own_put, punct_put}
use Rattle.swc_ecma_codegen_tokens.proofs.Jsx.TagLays.{IsToken, lays_tag_name, lays_tag_placed, lays_named_blank, lays_named_mark, lays_tag_end, lays_jsx_text, lays_child_open, lays_brace_end}
use Rattle.swc_ecma_codegen_tokens.proofs.Reading.Printed.{unbroken_punct, MakesWithinOn, chain, no_text, takes_none, makes_on, from_both, from_wider, or_false, writes_same}
use Rattle.swc_ecma_codegen_tokens.proofs.Commenting.CommentPrints.{nothing_on, writes_on_if, writes_named_commit, writes_named_leading}
use Rattle.swc_ecma_codegen_tokens.proofs.Emission.Emitting.{minified_same, pretty_same}
use Rattle.swc_ecma_codegen_tokens.proofs.Emission.PartSteps.{NamedBy, PlacedOn, no_names, no_strings, placed_none, placed_narrower, placed_wider}
use Rattle.swc_ecma_codegen_tokens.proofs.Reading.Phrased.{PrintsOn, after_on, one_on, mark_spelled}
use Rattle.swc_ecma_codegen_tokens.specs.Targets.{is_out}
use Rattle.swc_ecma_codegen_tokens.specs.Escapes.{may_make_text}
use Rattle.swc_ecma_codegen_tokens.proofs.Filling.CutStanding.{StandsHere}

-- ---- with more that may come before, or less behind

pub prints_spots : {v w : Spot} {i : Shape} {env : Env} {p : Part} {f : Phrase} (u x : Spot) → is_narrower u v ≡ true → is_narrower w x ≡ true → PrintsOn v w i env p f → PrintsOn u x i env p f
prints_spots {v} {w} u x e k h = record {
  where_possible = λ a o maps.
      let b = h.where_possible a o maps in
      let m = b.writes in
      record {
        tokens = b.tokens;
        generated = b.generated;
        plain = b.plain;
        writes = record { steps = m.steps; is_steps = m.is_steps; lays = λ s r c. lays_narrower w x s (run m.steps s) k (m.lays s (rests_narrower u v s e r) c); remakes = m.remakes; inner = m.inner; deep = m.deep; hands = m.hands; comment_texts = m.comment_texts };
        named = b.named;
        placed = placed_narrower u e b.placed;
        safe = b.safe;
      };
  where_out = h.where_out;
}

within_narrower : {u : Spot} {i : Shape} {room : ℕ} {env : Env} {p : Part} {ts : List lexical.Token} {made : Bool} (v w : Spot) → is_narrower v w ≡ true → MakesWithinOn u v i room env p ts made → MakesWithinOn u w i room env p ts made
within_narrower v w e h = record {
  from = λ maps. let m = h.from maps in record { steps = m.steps; is_steps = m.is_steps; lays = λ s r c. lays_narrower v w s (run m.steps s) e (m.lays s r c); remakes = m.remakes; inner = m.inner; deep = m.deep; hands = m.hands; comment_texts = m.comment_texts };
}

-- what is never, and a phrase on a condition
pub prints_never_on : {v w : Spot} {i : Shape} {env : Env} {p : Part} → PrintsOn v w i env p Never
unfolding is_possible
prints_never_on = record { where_possible = λ w. absurd (true≢false (sym w)); where_out = λ w. absurd (true≢false (sym w)) }

pub prints_where_on : {v w : Spot} {i : Shape} {env : Env} {p : Part} {f : Phrase} (b : Bool) → (b ≡ true → PrintsOn v w i env p f) → PrintsOn v w i env p (where_ b f)
unfolding where_
prints_where_on true h = h refl
prints_where_on false h = prints_never_on

-- ---- names

pub is_tag_name : (t : List ℕ) → is_utf8 t ≡ true → is_jsx_name (chars t) ≡ true → IsToken JsxName t
unfolding spelling has_shape is_hashbang_kind is_jsx_name
is_tag_name t u h = record { utf8 = IsUtf8-from_is_utf8 t u; same = refl; shape = h; no_hashbang = λ e. true≢false (sym e); some = λ e. true≢false (sym h ∙ ap (λ z. is_jsx_name (chars z)) e ∙ ap is_jsx_name chars-nil) }

guarded : (t : List ℕ) → is_ascii_text t ≡ true → (is_ascii_text t && true) ≡ true
guarded t a = and_from (is_ascii_text t) true a refl

-- what stands in a tag or between tags is handed over as it is
or_kept : (a : Bool) → ((a || true) && true) ≡ true
or_kept true = refl
or_kept false = refl

kept_token : (t : List ℕ) → IsUtf8 t → (not (is_ascii_text t) || false) ≡ true → (not (is_ascii_text (chars t)) || false) ≡ true
kept_token t u n = or_left (not (is_ascii_text (chars t))) false (not_from_false (is_ascii_text (chars t)) (false_from_ne_true (is_ascii_text (chars t)) (λ a. true≢false (sym n ∙ ap (λ z. not z || false) (ascii_by_chars t u a)))))

pub hands_kept : (env : Env) (t : List ℕ) (steps : List Step) (ts : List lexical.Token) → IsUtf8 t → are_ascii_or_kept steps ≡ ((is_ascii_text t || true) && true) → keeps_other steps ≡ (not (is_ascii_text t) || false) → keeps_tokens ts ≡ (not (is_ascii_text (chars t)) || false) → has_string steps ≡ false → HandsOverAscii env steps ts
hands_kept env t steps ts u a k o n = record {
  ascii = λ e. a ∙ or_kept (is_ascii_text t);
  keeps = λ e. o ∙ kept_token t u (sym k ∙ e);
  strings = λ e. absurd (true≢false (sym e ∙ n));
}

tag_call_at : (env : Env) (pos : BytePos) (b : Bool) (t : List ℕ) → IsToken JsxName t → MakesWithinOn InName InName whole 1 env (λ rest. step (Guard t) (cond b (step (Token JsxName (Symbol dummy_span t)) rest) (step (Plain (Position pos)) (step (Token JsxName (Symbol dummy_span t)) rest)))) (token_of JsxName (spelling JsxName t) ∷ []) false
unfolding step chain run put effect text_of after_token after_plain own_put makes_text levels rise are_ascii_or_kept has_string is_string_call takes_none maps_after after_step keeps_other is_other is_other_piece is_kept_piece is_kept is_tag_kind keeps_tokens is_other_value token_of value_of spelling
tag_call_at env pos true t p = makes_on env _ (Guard t ∷ Token JsxName (Symbol dummy_span t) ∷ []) _ refl (λ maps rest. refl) (λ s r. lays_tag_name (Some dummy_span) t s p r) no_text (omega arith) (hands_kept env t _ _ p.utf8 refl refl refl refl)
tag_call_at env pos false t p = makes_on env _ (Guard t ∷ Plain (Position pos) ∷ Token JsxName (Symbol dummy_span t) ∷ []) _ refl (λ maps rest. refl) (λ s r. lays_tag_placed pos (Some dummy_span) t s p r) no_text (omega arith) (hands_kept env t _ _ p.utf8 refl refl refl refl)

writes_tag_symbol : (env : Env) (span : Span) (t : List ℕ) → IsToken JsxName t → MakesWithinOn InName InName whole 1 env (tag_symbol span t) (token_of JsxName (spelling JsxName t) ∷ []) false
unfolding tag_symbol position
writes_tag_symbol env span t p = tag_call_at env span.lo (span.lo.0 == 0) t p

-- a semicolon that is held back is written, and then the name
settled_tag : Span → List ℕ → Part
settled_tag span t rest = commit_pending_semi (tag_symbol span t rest)

tag_at : BytePos → List ℕ → PlacedName
tag_at at bytes = record { at = at; bytes = bytes; sort = Tag }

tag_steps : (env : Env) (span : Span) (t : List ℕ) → steps_of (settled_tag span t nothing env) ≡ Plain Commit ∷ Guard t ∷ name_call JsxName (span.lo.0 == 0) span.lo t
unfolding settled_tag commit_pending_semi tag_symbol position step steps_of nothing after_step name_call
tag_steps env span t =
    let x : Step = Token JsxName (Symbol dummy_span t) in
    ap (λ z. Plain Commit ∷ Guard t ∷ z)
    (elim (span.lo.0 == 0) as (λ b. steps_of ((cond b (step x nothing) (step (Plain (Position span.lo)) (step x nothing))) env) ≡ name_call JsxName b span.lo t) [ true ↦ refl | false ↦ refl ])

tag_named : (env : Env) (span : Span) (t : List ℕ) → (t ≡ [] → ⊥) → NamedBy env (settled_tag span t) (tag_at span.lo t ∷ [])
unfolding NamedBy name_steps run put written_as written_by tag_at
tag_named env span t some s k flows =
    let P : List Step → Type 0 = λ z. Named env.config (tag_at span.lo t ∷ []) s.sheet (run z s).sheet in
    subst P (sym (tag_steps env span t)) (name_named env.config false false JsxName (span.lo.0 == 0) (tag_at span.lo t) s refl some k flows)

tag_placed : (env : Env) (span : Span) (t : List ℕ) → IsToken JsxName t → PlacedOn InName whole env (settled_tag span t) (TagNameOf span.lo t) (token_of JsxName (spelling JsxName t) ∷ [])
unfolding EachName name_steps run put written_as written_by tag_at token_of value_of spelling lexical.tag_name
tag_placed env span t p = record {
  stands = λ a s us r k c.
      let there = tag_stands env.config (span.lo.0 == 0) (tag_at span.lo t) us a s refl p k r in
      (refl, subst (λ (z : List Step). StandsHere env.config a.sheet (run z s).sheet us (tag_name_token t) (tag_at span.lo t)) (sym (tag_steps env span t)) there);
}

prints_settled_tag : (env : Env) (span : Span) (t : List ℕ) → PrintsOn InName InName whole env (settled_tag span t) (TagNameOf span.lo t)
unfolding plain_phrase Generates is_possible is_out may_make_text names_in is_well_formed_tag_name holds_string is_str token_of value_of spelling lexical.tag_name settled_tag tag_at
prints_settled_tag env span t = record {
  where_possible = λ w o maps.
      let u = and_parts (is_utf8 t) (is_jsx_name (chars t)) w in
      let p : IsToken JsxName t = is_tag_name t u.0 u.1 in
      let v : Env = at_maps maps env in
      let x = (writes_named_commit env).from maps in
      let m = from_both v commit_pending_semi (tag_symbol span t) [] (tag_name_token t ∷ []) x ((writes_tag_symbol env span t p).from (maps_after x.steps maps)) in
      record { tokens = tag_name_token t ∷ []; generated = refl; plain = λ e. refl; writes = m; named = tag_named v span t p.some; placed = tag_placed v span t p; safe = no_strings m refl };
  where_out = λ w o. absurd (true≢false (sym o));
}

-- a name in a tag with its comments: what stands behind it begins with no dash
pub prints_tag_name : (env : Env) (span : Span) (t : List ℕ) → PrintsOn InName InName whole env (tag_name span t) (TagNameOf span.lo t)
unfolding tag_name settled_tag
prints_tag_name env span t = after_on (writes_named_leading env span.lo) (prints_settled_tag env span t)

-- ---- behind names

pub writes_named_space : (env : Env) → MakesWithinOn InName Anything open_ 0 env space [] false
unfolding space step chain run put text_of after_plain makes_text levels rise are_ascii has_string is_string_call takes_none maps_after after_step
writes_named_space env = makes_on env space (Plain Space ∷ []) [] refl (λ maps rest. refl) (λ s r. lays_named_blank s r) no_text (omega arith) (hands_ascii env _ [] refl no_text)

formatting_on : (env : Env) → MakesWithinOn InName InName open_ 0 env formatting_space [] false
unfolding formatting_space no_part
formatting_on env = elim (cases_Bool env.config.minify) [
  | inl small ↦ writes_same env formatting_space (λ rest. rest) [] (λ maps rest. minified_same (λ rest. rest) space rest (at_maps maps env) small) (nothing_on env)
  | inr wide ↦ writes_same env formatting_space space [] (λ maps rest. pretty_same (λ rest. rest) space rest (at_maps maps env) wide) (within_narrower Anything InName refl (writes_named_space env))
]

-- a blank before an attribute, which is there always or only where the settings aren't to minify
pub writes_named_gap : (env : Env) (needed : Bool) → MakesWithinOn InName InName open_ 0 env (λ rest. cond needed (space rest) (formatting_space rest)) [] false
writes_named_gap env needed = writes_on_if env needed space formatting_space (within_narrower Anything InName refl (writes_named_space env)) (formatting_on env)

writes_named_mark : (env : Env) (t : List ℕ) → is_ending t ≡ false → begins (codes "-") t ≡ false → IsMark t → MakesWithinOn InName Anything whole 1 env (bare_punct t) (token_of Punctuator (spelling Punctuator t) ∷ []) false
unfolding bare_punct step chain run put effect text_of after_token punct_put makes_text levels rise are_ascii has_string is_string_call takes_none maps_after after_step
writes_named_mark env t e d w = makes_on env (bare_punct t) (Guard t ∷ Token Punctuator (Punct None t) ∷ []) _ refl (λ maps rest. refl) (λ s r. lays_named_mark t s e d (mark_spelled t w) r) no_text (omega arith) (hands_ascii env _ _ (guarded t w.ascii) no_text)

-- `{` behind a name
pub prints_named_bare : (env : Env) (t : List ℕ) → is_ending t ≡ false → begins (codes "-") t ≡ false → IsMark t → PrintsOn InName Anything whole env (bare_punct t) (mark t)
unfolding token_of value_of spelling lexical.punctuator is_str
prints_named_bare env t e d w = one_on env (bare_punct t) _ (writes_named_mark env t e d w) refl

-- `/`, `.`, `:`, `=`, `<` behind a name
pub prints_named_mark : (env : Env) (t : List ℕ) → allows_break t ≡ false → is_ending t ≡ false → begins (codes "-") t ≡ false → IsMark t → PrintsOn InName Anything whole env (punct t) (mark t)
unfolding token_of value_of spelling lexical.punctuator is_str
prints_named_mark env t q e d w = one_on env (punct t) _ (writes_same env (punct t) (bare_punct t) _ (λ maps rest. unbroken_punct t q rest (at_maps maps env)) (writes_named_mark env t e d w)) refl

writes_tag_end : (env : Env) → MakesWithinOn InName Between whole 1 env close (token_of Close (spelling Close (codes ">")) ∷ []) false
unfolding close step chain run put effect text_of after_token own_put before_punct is_ending makes_text levels rise are_ascii has_string is_string_call takes_none maps_after after_step
writes_tag_end env = makes_on env close (Guard (codes ">") ∷ Token Close (Punct None (codes ">")) ∷ []) _ refl (λ maps rest. refl) (λ s r. lays_tag_end s r) no_text (omega arith) (hands_ascii env _ _ refl no_text)

pub prints_tag_end : (env : Env) → PrintsOn InName Between whole env close (One closing)
unfolding token_of value_of spelling lexical.tag_close is_str chars lib.Utf8.encode
prints_tag_end env = one_on env close _ (writes_tag_end env) refl

-- ---- children

pub is_text_token : (t : List ℕ) → is_utf8 t ≡ true → is_jsx_text (chars t) ≡ true → IsToken JsxText t
unfolding spelling has_shape is_hashbang_kind is_jsx_text is_empty
is_text_token t u h = record { utf8 = IsUtf8-from_is_utf8 t u; same = refl; shape = h; no_hashbang = λ e. true≢false (sym e); some = λ e. true≢false (sym h ∙ ap (λ z. is_jsx_text (chars z)) e ∙ ap is_jsx_text chars-nil) }

writes_jsx_text : (env : Env) (span : Span) (t : List ℕ) → IsToken JsxText t → MakesWithinOn Between InText whole 1 env (jsx_text span t) (token_of JsxText (spelling JsxText t) ∷ []) false
unfolding jsx_text step chain run text_of makes_text levels rise are_ascii_or_kept has_string is_string_call is_str takes_none maps_after after_step keeps_other is_other is_kept is_tag_kind keeps_tokens is_other_value token_of value_of spelling
writes_jsx_text env span t p = makes_on env (jsx_text span t) (Token JsxText (StrLit span t) ∷ []) _ refl (λ maps rest. refl) (λ s r. lays_jsx_text span t s p r) no_text (omega arith) (hands_kept env t _ _ p.utf8 refl refl refl refl)

-- behind it a child begins, or a closing tag
pub prints_jsx_text : (env : Env) (span : Span) (t : List ℕ) → IsToken JsxText t → PrintsOn Between InText whole env (jsx_text span t) (One (text_token t))
unfolding token_of value_of spelling lexical.jsx_text is_str
prints_jsx_text env span t p = one_on env (jsx_text span t) _ (writes_jsx_text env span t p) refl

less_opens : IsToken JsxOpen (codes "<")
unfolding spelling has_shape is_hashbang_kind is_jsx_open is_among is_same chars is_utf8 lib.Utf8.encode
less_opens = record { utf8 = IsUtf8-from_is_utf8 (codes "<") refl; same = refl; shape = refl; no_hashbang = λ e. true≢false (sym e); some = λ e. cc }

brace_opens : IsToken JsxOpen (codes "{")
unfolding spelling has_shape is_hashbang_kind is_jsx_open is_among is_same chars is_utf8 lib.Utf8.encode
brace_opens = record { utf8 = IsUtf8-from_is_utf8 (codes "{") refl; same = refl; shape = refl; no_hashbang = λ e. true≢false (sym e); some = λ e. cc }

writes_child_open : (env : Env) (t : List ℕ) → IsToken JsxOpen t → ends_text (spelling JsxOpen t) ≡ true → is_ending t ≡ false → is_ascii_text t ≡ true → MakesWithinOn InText Anything whole 1 env (child_open t) (token_of JsxOpen (spelling JsxOpen t) ∷ []) false
unfolding child_open step chain run text_of makes_text levels rise are_ascii has_string is_string_call takes_none maps_after after_step
writes_child_open env t p o e a = makes_on env (child_open t) (Token JsxOpen (Punct None t) ∷ []) _ refl (λ maps rest. refl) (λ s r. lays_child_open t s p o e r) no_text (omega arith) (hands_ascii env _ _ (guarded t a) no_text)

prints_child_open : (env : Env) (t : List ℕ) → IsToken JsxOpen t → ends_text (spelling JsxOpen t) ≡ true → is_ending t ≡ false → is_ascii_text t ≡ true → PrintsOn InText Anything whole env (child_open t) (One (open_token (chars t)))
unfolding token_of value_of spelling lexical.child_open is_str
prints_child_open env t p o e a = one_on env (child_open t) _ (writes_child_open env t p o e a) refl

pub prints_less_open : (env : Env) → PrintsOn InText Anything whole env (child_open (codes "<")) (One (open_token (codes "<")))
unfolding spelling ends_text is_ending chars lib.Utf8.encode
prints_less_open env = prints_child_open env (codes "<") less_opens refl refl refl

pub prints_brace_open : (env : Env) → PrintsOn InText Anything whole env (child_open (codes "{")) (One (open_token (codes "{")))
unfolding spelling ends_text is_ending chars lib.Utf8.encode
prints_brace_open env = prints_child_open env (codes "{") brace_opens refl refl refl

-- either of the two
pub prints_opens : (env : Env) (t : List ℕ) → is_jsx_open t ≡ true → PrintsOn InText Anything whole env (child_open t) (One (open_token t))
unfolding is_jsx_open is_among
prints_opens env t h = elim (or_cases (is_same t (codes "{")) (is_same t (codes "<") || false) h) [
  | inl e ↦ subst (λ z. PrintsOn InText Anything whole env (child_open z) (One (open_token z))) (sym (eq_of_same t (codes "{") e)) (prints_brace_open env)
  | inr e ↦ subst (λ z. PrintsOn InText Anything whole env (child_open z) (One (open_token z))) (sym (eq_of_same t (codes "<") (sym (or_false (is_same t (codes "<"))) ∙ e))) (prints_less_open env)
]

brace_is_mark : IsMark (codes "}")
unfolding is_punctuator is_among is_same punctuators chars is_utf8 lib.Utf8.encode
brace_is_mark = record { utf8 = refl; ascii = refl; shape = refl }

writes_brace_end : (env : Env) → MakesWithinOn Anything Between whole 1 env (punct (codes "}")) (token_of Punctuator (spelling Punctuator (codes "}")) ∷ []) false
unfolding punct bare_punct step chain run put effect text_of after_token punct_put makes_text levels rise are_ascii has_string is_string_call takes_none maps_after after_step
writes_brace_end env = makes_on env (punct (codes "}")) (Guard (codes "}") ∷ Token Punctuator (Punct None (codes "}")) ∷ []) _ refl (λ maps rest. refl) (λ s r. lays_brace_end s (mark_spelled (codes "}") brace_is_mark) r) no_text (omega arith) (hands_ascii env _ _ refl no_text)

-- the `}` of a container, behind which a child may stand
pub prints_brace_end : (env : Env) → PrintsOn Anything Between whole env (punct (codes "}")) (mark (codes "}"))
unfolding token_of value_of spelling lexical.punctuator is_str
prints_brace_end env = one_on env (punct (codes "}")) _ (writes_brace_end env) refl

-- ---- an element

pub less_is_mark : IsMark (codes "<")
unfolding is_punctuator is_among is_same punctuators chars is_utf8 lib.Utf8.encode
less_is_mark = record { utf8 = refl; ascii = refl; shape = refl }

pub slash_is_mark : IsMark (codes "/")
unfolding is_punctuator is_among is_same punctuators chars is_utf8 lib.Utf8.encode
slash_is_mark = record { utf8 = refl; ascii = refl; shape = refl }

-- ---- lists

-- nothing, and a shape that leads no farther
pub prints_none : {v : Spot} {env : Env} → PrintsOn v v open_ env (λ rest. rest) Nothing
unfolding plain_phrase Generates is_out may_make_text names_in chain run makes_text levels are_ascii has_string is_string_call takes_none maps_after
prints_none {v} {env} =
    let m : MakesWithinOn v v open_ 0 env (λ rest. rest) [] false = makes_on env (λ rest. rest) [] [] refl (λ maps rest. refl) (λ s r. lays_nothing s r) no_text (omega arith) (hands_ascii env [] [] refl no_text) in
    record { where_possible = λ k o maps. record { tokens = []; generated = refl; plain = λ e. refl; writes = m.from maps; named = no_names (at_maps maps env) (λ rest. rest); placed = placed_none (at_maps maps env) (λ rest. rest) Nothing [] refl refl; safe = no_strings (m.from maps) (unfold holds_string in refl) }; where_out = λ k o. absurd (true≢false (sym o)) }

pub wider_on : {v w : Spot} {i : Shape} (j : Shape) {env : Env} {p : Part} {f : Phrase} → is_within i j ≡ true → PrintsOn v w i env p f → PrintsOn v w j env p f
wider_on j e h = record {
  where_possible = λ k o maps. let a = h.where_possible k o maps in record { tokens = a.tokens; generated = a.generated; plain = a.plain; writes = from_wider j e a.writes; named = a.named; placed = placed_wider j e a.placed; safe = a.safe };
  where_out = h.where_out;
}
