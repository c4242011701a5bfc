-- What each word writes is one of the token lists of a phrase.
use Rattle.std.proofs.Common.{◌≡◌, ◌≢◌, ℕ, Bool, true, false, cond, List, [], ◌∷◌, ◌++◌, length, ◌&&◌, ◌||◌, ◌==◌, codes, refl, sym, ap, ◌∙◌, subst, append_assoc, append-nil, inl, inr, Option, Some, None, Result, Ok, Err, OnOk, IfErr}
use Rattle.std.specs.List.{repeat}
use Rattle.std.specs.Str.{chars, is_utf8}
use Rattle.std.proofs.lemmas.Bool.{and_from, and_parts, or_from, or_parts, false_from_ne_true, true≢false}
use Rattle.swc_ecma_codegen_common.specs.declared.errors.Error.{Error}
use Rattle.swc_ecma_codegen_common.specs.declared.errors.Error.TheVariants as errors
use Rattle.swc_ecma_codegen_common.specs.declared.errors.Refusal.{Refusal}
use Rattle.swc_ecma_codegen_common.specs.Refusals.{in_short}
use Rattle.swc_ecma_codegen_common.specs.declared.positions.Span.{Span}
use Rattle.swc_ecma_codegen_grammar.specs.declared.kinds.Kind.TheVariants.{Word, Name, Punctuator}
use Rattle.swc_ecma_codegen_grammar.specs.Tokens as lexical
use Rattle.swc_ecma_codegen_grammar.specs.Tokens.{token_of, value_of}
use Rattle.swc_ecma_codegen_grammar.specs.Names.{is_word, is_name, name_value}
use Rattle.swc_ecma_codegen_grammar.specs.Punctuators.{is_punctuator, punctuators}
use Rattle.swc_ecma_codegen_grammar.specs.Texts.{is_same, is_among}
use Rattle.swc_ecma_codegen_grammar.specs.Reads.{Reads}
use Rattle.swc_ecma_codegen_grammar.specs.CommentMaps.{Maps, without, without_leading, without_trailing}
use Rattle.swc_ecma_codegen_grammar.specs.Trivia.{Remark}
use Rattle.swc_ecma_codegen_grammar.specs.declared.comments.Comment.{Comment}
use Rattle.swc_ecma_codegen_grammar.specs.CommentMaps.{listed}
use Rattle.swc_ecma_codegen_grammar.specs.Comments.{Side, Leading, Trailing, AreClosed, comments_at, taken_out, remarks_of, texts_of, all_closed, all_tame}
use Rattle.swc_ecma_codegen_grammar.specs.GapRules.{Start, allows}
use Rattle.swc_ecma_codegen_grammar.specs.Parts as parts
use Rattle.swc_ecma_codegen_grammar.specs.Parts.{OfLine, OnLine, KeepsLines, walk, is_broken, Gap, NoneFuse, Reduced, IsEnding, begins_break, tokens_of, remarks_in}
use Rattle.swc_ecma_codegen_grammar.specs.Endings.{IsReduced}
use Rattle.swc_ecma_codegen_grammar.proofs.Dropped.{keeps_reduced, none_fuse_reduced, tokens_reduced, without_last_gap}
use Rattle.swc_ecma_codegen_common.specs.declared.positions.BytePos.{BytePos}
use Rattle.swc_ecma_codegen_spans.specs.Spans.{dummy_span}
use Rattle.swc_ecma_codegen_text_writer.specs.Recorded.{RecordsTruly}
use Rattle.swc_ecma_codegen_text_writer.specs.Sheet.{Sheet, Symbol, Position, Commit, is_ending, may_take_memory, fills_lines}
use Rattle.swc_ecma_codegen_grammar.specs.Phrases.{Phrase, Never, Nothing, One, NameOf, Then, PlacedName, Generates, is_possible, names_in, where_, ◌>◌, mark}
use Rattle.swc_ecma_codegen_grammar.specs.Phrases as phrases
use Rattle.swc_ecma_codegen_grammar.specs.PlainPhrases.{plain_phrase}
use Rattle.swc_ecma_codegen_grammar.specs.SpelledNames as names
use Rattle.swc_ecma_codegen_grammar.specs.SpelledNames.{is_well_formed_name}
use Rattle.swc_ecma_codegen_grammar.specs.ValidNames.{turned}
use Rattle.swc_ecma_codegen_grammar.proofs.Reading.{reads}
use Rattle.swc_ecma_codegen_settings.specs.declared.config.Config.{Config}
use Rattle.swc_ecma_codegen_literals.specs.AsciiNames.{is_ascii_text}
use Rattle.swc_ecma_codegen_literals.proofs.NameTexts.{ascii_chars}
use Rattle.swc_ecma_codegen_literals.proofs.SpelledTexts.{ascii_from_all}
use Rattle.swc_ecma_codegen_tokens.specs.declared.refusals.Unprintable.TheVariants.{NameOutOfTarget}
use Rattle.swc_ecma_codegen_tokens.specs.Run.{Env, Plan, Part, State, Step, Guard, Token, Plain, Remake, Ends, Take, CommentText, at_maps, after_step, maps_after, taken_by, taken_in, spoken, Steps, step, steps_of, unprintable_in, refuse, run, nothing, spelling, Follows, HasCause, has_backslash, makes_text}
use Rattle.swc_ecma_codegen_tokens.specs.Settings.{settings_of}
use Rattle.swc_ecma_codegen_tokens.specs.Plain.{IsPlain}
use Rattle.swc_ecma_codegen_tokens.proofs.Reading.StillPlain.{still_plain}
use Rattle.swc_ecma_codegen_tokens.specs.Tags.{closing, close}
use Rattle.swc_ecma_codegen_tokens.specs.Targets.{written_as, written_by, wants_escapes, is_out_name, written_name, is_out}
use Rattle.swc_ecma_codegen_tokens.specs.Words.{allows_break, bare_punct, bare_semi, keyword, operator, word_operator, punct, placed_punct, semi, commit_pending_semi, position, by_maps, symbol, valid_symbol, name_text, question, name}
use Rattle.swc_ecma_codegen_tokens.specs.Written.{keeps_break, AtRest, Spot, Anything, is_free, holds_one, IsNew, IsAtMargin, ReadsAs, AddsText, AddsReading, taken_remarks, without_joints, IsWord, IsMark}
use Rattle.swc_ecma_codegen_tokens.specs.Escapes.{may_make_text}
use Rattle.swc_ecma_codegen_tokens.specs.Named.{RecordsNames, EachName, PlacesNames}
use Rattle.swc_ecma_codegen_tokens.specs.Scripts.{is_str, strings_after, AreSafe}
use Rattle.swc_ecma_codegen_tokens.proofs.Emission.Fronts.{follows_cause}
use Rattle.swc_ecma_codegen_tokens.proofs.Emission.StepAscii.{holds_string}
use Rattle.swc_ecma_codegen_tokens.proofs.Emission.PendingSemi.{front, front_of}
use Rattle.swc_ecma_codegen_tokens.proofs.Gaps.Indented.{blanks}
use Rattle.swc_ecma_codegen_tokens.proofs.NameTokens.Spelled.{valid_same, spelled_same, out_same}
use Rattle.swc_ecma_codegen_tokens.proofs.Emission.Positions.{Named, named_records, name_named, name_steps, name_call, run_records}
use Rattle.swc_ecma_codegen_tokens.proofs.Reading.Standing.{reached_first, name_stands}
use Rattle.swc_ecma_codegen_tokens.proofs.NameTokens.Targets.{Names, names_in_ascii, plain_not_out}
use Rattle.swc_ecma_codegen_tokens.proofs.Filling.Shapes.{Shape, whole, ended, open_, loose, unbroken_at, joining, joined, at_joint, join, is_within, met_unbroken, broken_from, walk_append}
use Rattle.swc_ecma_codegen_tokens.proofs.Reading.Appended.{tokens_append}
use Rattle.swc_ecma_codegen_tokens.proofs.Filling.Jointless.{reads_without}
use Rattle.swc_ecma_codegen_tokens.proofs.Filling.Cuts.{past_break, ending_past}
use Rattle.swc_ecma_codegen_tokens.proofs.Reading.Laid.{LaysWith, Enters, held, held_of}
use Rattle.swc_ecma_codegen_tokens.proofs.Reading.TokenLays.{Spelled, spelled_word, spelled_name, spelled_mark}
use Rattle.swc_ecma_codegen_tokens.proofs.Reading.Printed.{MakesFrom, MakesAt, from_wider, from_same, from_both, env_after, remarks_by, remarks_append, closed_append, writes_joined_operator, writes_joined_punct, writes_keyword_joint, chain, or_false, writes_whatever, writes_then, writes_nothing, writes_keyword, writes_operator, writes_word_operator, punct_shape, unbroken_punct, writes_bare_punct, writes_bare_semi, writes_opened_punct, writes_punct, writes_placed_punct, writes_semi, writes_commit, writes_name_text, MakesOn, MakesWithinOn, from_where, writes_close}
use Rattle.swc_ecma_codegen_tokens.proofs.Commenting.CommentPrints.{writes_leading}
use Rattle.swc_ecma_codegen_tokens.proofs.Emission.PartSteps.{steps_of_chain, steps_alone, NamedBy, no_names, names_then, PlacedOn, PlacedBy, placed_none, placed_then, placed_after, placed_before, placed_wider, placed_same, placed_regrouped, IsSafe, no_strings, safe_then}
pub use Rattle.swc_ecma_codegen_tokens.proofs.Emission.PartSteps.{steps_of_more}
use Rattle.swc_ecma_codegen_tokens.proofs.Filling.CutStanding.{AllHere, StandsHere, each_holds}

and_assoc : (a b c : Bool) → ((a && b) && c) ≡ (a && (b && c))
and_assoc true b c = refl
and_assoc false b c = refl

or_assoc : (a b c : Bool) → ((a || b) || c) ≡ (a || (b || c))
or_assoc true b c = refl
or_assoc false b c = refl

-- A part writes a token list of a phrase, whatever comes after it, and makes no name anew but those of the phrase.
pub record PrintedOn (before behind : Spot) (shape : Shape) (env : Env) (part : Part) (phrase : Phrase) : Type 0 where
  pub tokens : List lexical.Token
  pub generated : Generates (settings_of env.config) phrase tokens
  -- where there are neither comments nor a source text, it is the plain one
  pub plain : IsPlain env → Generates (settings_of env.config) (plain_phrase env.config.minify phrase) tokens
  pub writes : MakesOn before behind shape (length tokens) env part tokens (may_make_text env.config phrase)
  pub named : NamedBy env part (names_in phrase)
  pub placed : PlacedOn before shape env part phrase tokens
  pub safe : IsSafe env part

abbrev pub Printed : Shape → Env → Part → Phrase → Type 0
Printed shape env part phrase = PrintedOn Anything Anything shape env part phrase

-- It does so where the phrase is possible and all its names can be written; else it ends where one can't be, whatever
-- comes after it; and whatever comments are still to be taken. Which list it writes may hang on these.
pub record PrintsOn (before behind : Spot) (shape : Shape) (env : Env) (part : Part) (phrase : Phrase) : Type 0 where
  pub where_possible : is_possible phrase ≡ true → is_out env.config phrase ≡ false → (maps : Maps) → PrintedOn before behind shape (at_maps maps env) part phrase
  pub where_out : is_possible phrase ≡ true → is_out env.config phrase ≡ true → (maps : Maps) (rest : Plan) → unprintable_in (part rest (at_maps maps env)) ≡ Some NameOutOfTarget

-- where any token may come, before it and behind it
abbrev pub PrintsAt : Shape → Env → Part → Phrase → Type 0
PrintsAt shape env part phrase = PrintsOn Anything Anything shape env part phrase

-- what begins and ends with a token
abbrev pub Prints : Env → Part → Phrase → Type 0
Prints env part phrase = PrintsAt whole env part phrase

-- what leads less far
pub prints_wider : {i : Shape} (j : Shape) {env : Env} {p : Part} {f : Phrase} → is_within i j ≡ true → PrintsAt i env p f → PrintsAt j env p f
prints_wider j e h = record {
  where_possible = λ w o maps. let a = h.where_possible w o maps in record { tokens = a.tokens; generated = a.generated; plain = a.plain; writes = from_wider j e a.writes; named = a.named; placed = placed_wider j e a.placed; safe = a.safe };
  where_out = h.where_out;
}

-- where lines may end anywhere
pub loosened : {env : Env} {p : Part} {f : Phrase} → Prints env p f → PrintsAt loose env p f
loosened h = prints_wider loose refl h

-- a part that writes tokens goes on to what comes after it
more_unprintable : (xs : List Step) (rest : Steps) → unprintable_in (chain xs rest) ≡ unprintable_in rest
unfolding unprintable_in chain
more_unprintable [] rest = refl
more_unprintable (x ∷ xs) rest = more_unprintable xs rest

pub goes_on : {i : Shape} {room : ℕ} {env : Env} {p : Part} {ts : List lexical.Token} {b : Bool} {v w : Spot} (h : MakesOn v w i room env p ts b) (rest : Plan) → unprintable_in (p rest env) ≡ unprintable_in (rest (env_after h.steps env))
goes_on {env = env} h rest = ap unprintable_in (h.is_steps rest) ∙ more_unprintable h.steps (rest (env_after h.steps env))

-- one of two is out: the first, or else the second
out_of_two : {P : Type 0} (a b : Bool) → (a || b) ≡ true → (a ≡ true → P) → (a ≡ false → b ≡ true → P) → P
out_of_two true b h f g = f refl
out_of_two false b h f g = g refl h

-- one part after the other, where the second may stand behind the first
pub then_on : {u v w : Spot} {i j : Shape} {env : Env} {p q : Part} {f g : Phrase} → PrintsOn u v i env p f → PrintsOn v w j env q g → PrintsOn u w (join i j) env (λ rest. p (q rest)) (Then f g)
unfolding plain_phrase Generates is_possible is_out may_make_text names_in
then_on {env = env} {p = p} {q = q} {f = f} {g = g} h k = record {
  where_possible = λ w o maps.
      let both = and_parts (is_possible f) (is_possible g) w in
      let none = or_parts (is_out env.config f) (is_out env.config g) o in
      let a = h.where_possible both.0 none.0 maps in
      let b = k.where_possible both.1 none.1 (maps_after a.writes.steps maps) in
      record {
        tokens = a.tokens ++ b.tokens;
        generated = (a.tokens, b.tokens, a.generated, b.generated, refl);
        plain = λ e. (a.tokens, b.tokens, a.plain e, b.plain (still_plain a.writes.steps maps env e), refl);
        writes = from_both (at_maps maps env) p q a.tokens b.tokens a.writes b.writes;
        named = names_then q (names_in f) (names_in g) a.writes a.named b.named;
        placed = placed_then q f g b.tokens a.writes a.placed b.placed;
        safe = safe_then q a.writes a.safe b.safe;
      };
  where_out = λ w o maps rest.
      let both = and_parts (is_possible f) (is_possible g) w in
      out_of_two (is_out env.config f) (is_out env.config g) o (λ e. h.where_out both.0 e maps (q rest)) (λ n e. let a = (h.where_possible both.0 n maps).writes in goes_on a (q rest) ∙ k.where_out both.1 e (maps_after a.steps maps) rest);
}

pub then : {i j : Shape} {env : Env} {p q : Part} {f g : Phrase} → PrintsAt i env p f → PrintsAt j env q g → PrintsAt (join i j) env (λ rest. p (q rest)) (Then f g)
then h k = then_on h k

-- a part before or after one that writes no token
pub after_on : {u v w : Spot} {i j : Shape} {env : Env} {q p : Part} {f : Phrase} → MakesWithinOn u v i 0 env q [] false → PrintsOn v w j env p f → PrintsOn u w (join i j) env (λ rest. q (p rest)) f
unfolding holds_string
after_on {env = env} {q = q} {p = p} {f = f} k h = record {
  where_possible = λ w o maps.
      let x = k.from maps in
      let a = h.where_possible w o (maps_after x.steps maps) in
      record {
        tokens = a.tokens;
        generated = a.generated;
        plain = λ e. a.plain (still_plain x.steps maps env e);
        writes = from_both (at_maps maps env) q p [] a.tokens x a.writes;
        named = names_then p [] (names_in f) x (no_names (at_maps maps env) q) a.named;
        placed = placed_after p f a.tokens x a.placed;
        safe = safe_then p x (no_strings x refl) a.safe;
      };
  where_out = λ w o maps rest. let x = k.from maps in goes_on x (p rest) ∙ h.where_out w o (maps_after x.steps maps) rest;
}

pub after : {i j : Shape} {env : Env} {q p : Part} {f : Phrase} → MakesAt i env q [] false → PrintsAt j env p f → PrintsAt (join i j) env (λ rest. q (p rest)) f
after k h = after_on k h

pub before : {i j : Shape} {env : Env} {p q : Part} {f : Phrase} → PrintsAt i env p f → MakesAt j env q [] false → PrintsAt (join i j) env (λ rest. p (q rest)) f
unfolding holds_string
before {i} {j} {env} {p} {q} {f} h k = record {
  where_possible = λ w o maps.
      let a = h.where_possible w o maps in
      let x = k.from (maps_after a.writes.steps maps) in
      let made : Bool = may_make_text env.config f in
      let v : Env = at_maps maps env in
      record {
        tokens = a.tokens;
        generated = a.generated;
        plain = a.plain;
        writes = subst (λ z. MakesFrom (join i j) (length a.tokens) v (λ rest. p (q rest)) a.tokens z) (or_false made) (subst (λ z. MakesFrom (join i j) (length z) v (λ rest. p (q rest)) z (made || false)) (append-nil a.tokens) (from_both v p q a.tokens [] a.writes x));
        named = subst (λ z. NamedBy v (λ rest. p (q rest)) z) (append-nil (names_in f)) (names_then q (names_in f) [] a.writes a.named (no_names (env_after a.writes.steps v) q));
        placed = placed_before j q f a.writes a.placed;
        safe = safe_then q a.writes a.safe (no_strings x refl);
      };
  where_out = λ w o maps rest. h.where_out w o maps (q rest);
}

pub prints_nothing : {env : Env} → PrintsAt open_ env (λ rest. rest) Nothing
unfolding plain_phrase Generates is_out may_make_text names_in holds_string
prints_nothing {env} = record { where_possible = λ w o maps. record { tokens = []; generated = refl; plain = λ e. refl; writes = (writes_nothing env).from maps; named = no_names (at_maps maps env) (λ rest. rest); placed = placed_none (at_maps maps env) (λ rest. rest) Nothing [] refl refl; safe = no_strings ((writes_nothing env).from maps) refl }; where_out = λ w o. absurd (true≢false (sym o)) }

-- what is Never has no list
pub prints_never : {i : Shape} {env : Env} {p : Part} → PrintsAt i env p Never
unfolding is_possible
prints_never = record { where_possible = λ w. absurd (true≢false (sym w)); where_out = λ w. absurd (true≢false (sym w)) }

-- a phrase on a condition
pub prints_where : {i : Shape} {env : Env} {p : Part} {f : Phrase} (b : Bool) → (b ≡ true → PrintsAt i env p f) → PrintsAt i env p (where_ b f)
unfolding where_
prints_where true h = h refl
prints_where false h = prints_never

-- a part that is written as another is
pub printed_same : {i : Shape} {f : Phrase} (env : Env) (p q : Part) → ((rest : Plan) → p rest env ≡ q rest env) → Printed i env q f → Printed i env p f
unfolding NamedBy IsSafe
printed_same {f = f} env p q e a = record {
  tokens = a.tokens;
  generated = a.generated;
  plain = a.plain;
  writes = from_same env p q a.tokens e a.writes;
  named = λ s k n. let P : Steps → Type 0 = λ z. Named env.config (names_in f) s.sheet (run (steps_of z) s).sheet in subst P (sym (e nothing)) (a.named s k n);
  placed = placed_same env p q e a.placed;
  safe = λ i anew. subst (λ z. AreSafe (strings_after anew (steps_of z))) (sym (e nothing)) (a.safe i anew);
}

-- what asks for the comments that are still to be taken, as parentheses round a commented argument do
pub prints_by_maps : {i : Shape} {env : Env} {f : Phrase} (ask : Maps → Part) → ((maps : Maps) → PrintsAt i env (ask maps) f) → PrintsAt i env (by_maps ask) f
unfolding by_maps
prints_by_maps {env = env} ask h = record {
  where_possible = λ w o maps. printed_same (at_maps maps env) (by_maps ask) (ask maps) (λ rest. refl) ((h maps).where_possible w o maps);
  where_out = λ w o maps rest. (h maps).where_out w o maps rest;
}

pub prints_same : {i : Shape} {env : Env} {f : Phrase} (p q : Part) → ((maps : Maps) (rest : Plan) → p rest (at_maps maps env) ≡ q rest (at_maps maps env)) → PrintsAt i env q f → PrintsAt i env p f
prints_same {env = env} {f = f} p q e h = record {
  where_possible = λ w o maps. printed_same (at_maps maps env) p q (e maps) (h.where_possible w o maps);
  where_out = λ w o maps rest. ap unprintable_in (e maps rest) ∙ h.where_out w o maps rest;
}

-- a token, whose text may be made anew where it is a literal
pub prints_made : {i : Shape} (env : Env) (p : Part) (x : lexical.Token) → MakesAt i env p (x ∷ []) (may_make_text env.config (One x)) → ((maps : Maps) → IsSafe (at_maps maps env) p) → PrintsAt i env p (One x)
unfolding plain_phrase Generates is_out names_in
prints_made env p x h safe = record { where_possible = λ w o maps. record { tokens = x ∷ []; generated = refl; plain = λ e. refl; writes = h.from maps; named = no_names (at_maps maps env) p; placed = placed_none (at_maps maps env) p (One x) (x ∷ []) refl refl; safe = safe maps }; where_out = λ w o. absurd (true≢false (sym o)) }

-- one that is no string
pub no_string : {i : Shape} {env : Env} {p : Part} {x : lexical.Token} {b : Bool} → MakesAt i env p (x ∷ []) b → is_str x.kind ≡ false → (maps : Maps) → IsSafe (at_maps maps env) p
unfolding holds_string
no_string {x = x} h none maps = no_strings (h.from maps) (or_from (is_str x.kind) false none refl)

pub prints_one : {i : Shape} (env : Env) (p : Part) (x : lexical.Token) → MakesAt i env p (x ∷ []) false → is_str x.kind ≡ false → PrintsAt i env p (One x)
unfolding Generates may_make_text names_in
prints_one env p x h none = prints_made env p x (writes_whatever (may_make_text env.config (One x)) h) (no_string h none)

-- the same between two spots
pub one_on : {v w : Spot} {i : Shape} (env : Env) (p : Part) (x : lexical.Token) → MakesWithinOn v w i 1 env p (x ∷ []) false → is_str x.kind ≡ false → PrintsOn v w i env p (One x)
unfolding plain_phrase Generates may_make_text names_in is_out holds_string
one_on env p x h none = record { where_possible = λ k o maps. record { tokens = x ∷ []; generated = refl; plain = λ e. refl; writes = from_where (λ e. absurd (true≢false (sym e))) (h.from maps); named = no_names (at_maps maps env) p; placed = placed_none (at_maps maps env) p (One x) (x ∷ []) refl refl; safe = no_strings (h.from maps) (or_from (is_str x.kind) false none refl) }; where_out = λ k o. absurd (true≢false (sym o)) }

-- ---- words and punctuators, which are ASCII

ascii_same : (t : List ℕ) → is_ascii_text t ≡ true → chars t ≡ t
ascii_same t a = (ascii_chars t (ascii_from_all t a)).0

pub word_spelled : (t : List ℕ) → IsWord t → Spelled Word t
word_spelled t w = spelled_word t w.utf8 (ap is_word (ascii_same t w.ascii) ∙ w.shape)

pub mark_spelled : (t : List ℕ) → IsMark t → Spelled Punctuator t
mark_spelled t w = spelled_mark t w.utf8 (ascii_same t w.ascii) w.shape

pub prints_word : {i : Shape} (env : Env) (p : Part) (t : List ℕ) → IsWord t → MakesAt i env p (token_of Word (spelling Word t) ∷ []) false → PrintsAt i env p (phrases.word t)
unfolding token_of value_of spelling lexical.word is_str
prints_word {i} env p t w h = subst (λ z. PrintsAt i env p (phrases.word z)) (ascii_same t w.ascii) (prints_one env p _ h refl)

pub prints_mark : {i : Shape} (env : Env) (p : Part) (t : List ℕ) → MakesAt i env p (token_of Punctuator (spelling Punctuator t) ∷ []) false → PrintsAt i env p (mark t)
unfolding token_of value_of spelling lexical.punctuator is_str
prints_mark env p t h = prints_one env p _ h refl

pub prints_keyword : (env : Env) (span : Option Span) (t : List ℕ) → IsWord t → Prints env (keyword span t) (phrases.word t)
prints_keyword env span t w = prints_word env (keyword span t) t w (writes_keyword env span t (word_spelled t w) w.ascii)

pub prints_word_operator : (env : Env) (t : List ℕ) → IsWord t → Prints env (word_operator t) (phrases.word t)
prints_word_operator env t w = prints_word env (word_operator t) t w (writes_word_operator env t (word_spelled t w) w.ascii)

pub prints_operator : (env : Env) (t : List ℕ) → IsMark t → Prints env (operator t) (mark t)
prints_operator env t w = prints_mark env (operator t) t (writes_operator env t (mark_spelled t w) w.ascii)

pub prints_bare_punct : (env : Env) (t : List ℕ) → IsMark t → Prints env (bare_punct t) (mark t)
prints_bare_punct env t w = prints_mark env (bare_punct t) t (writes_bare_punct env t (mark_spelled t w) w.ascii)

-- whatever punctuator it is, and one behind which no line may be ended
pub prints_opened : (env : Env) (t : List ℕ) → IsMark t → PrintsAt ended env (punct t) (mark t)
prints_opened env t w = prints_mark env (punct t) t (writes_opened_punct env t (mark_spelled t w) w.ascii)

pub prints_unbroken : (env : Env) (t : List ℕ) → allows_break t ≡ false → IsMark t → Prints env (punct t) (mark t)
prints_unbroken env t h w = prints_same (punct t) (bare_punct t) (λ maps rest. unbroken_punct t h rest (at_maps maps env)) (prints_bare_punct env t w)

pub prints_punct : (env : Env) (t : List ℕ) → IsMark t → PrintsAt (punct_shape t) env (punct t) (mark t)
prints_punct env t w = prints_mark env (punct t) t (writes_punct env t (mark_spelled t w) w.ascii)

pub prints_placed_punct : (env : Env) (span : Span) (t : List ℕ) → IsMark t → Prints env (placed_punct span t) (mark t)
prints_placed_punct env span t w = prints_mark env (placed_punct span t) t (writes_placed_punct env span t (mark_spelled t w) w.ascii)

question_is_mark : IsMark (codes "?")
unfolding is_punctuator is_among is_same punctuators chars is_utf8 lib.Utf8.encode
question_is_mark = record { utf8 = refl; ascii = refl; shape = refl }

pub prints_semi : (env : Env) → PrintsAt ended env semi phrases.ending
unfolding token_of value_of spelling lexical.ending is_str
prints_semi env = prints_one env semi _ (writes_semi env) refl

pub prints_bare_semi : (env : Env) → Prints env bare_semi phrases.ending
unfolding token_of value_of spelling lexical.ending is_str
prints_bare_semi env = prints_one env bare_semi _ (writes_bare_semi env) refl

pub prints_close : (env : Env) → Prints env close (One closing)
unfolding token_of value_of spelling lexical.tag_close is_str chars lib.Utf8.encode
prints_close env = prints_one env close _ (writes_close env) refl

-- ---- tokens behind `[no LineTerminator here]`, and before it

-- the phrase of two tokens
prints_pair : {i : Shape} (env : Env) (p : Part) (x y : lexical.Token) → MakesAt i env p (x ∷ y ∷ []) false → is_str x.kind ≡ false → is_str y.kind ≡ false → PrintsAt i env p (One x > One y)
unfolding plain_phrase Generates is_out is_possible names_in holds_string
prints_pair env p x y h a b = record {
  where_possible = λ w o maps. record {
    tokens = x ∷ y ∷ [];
    generated = (x ∷ [], y ∷ [], refl, refl, refl);
    plain = λ e. (x ∷ [], y ∷ [], refl, refl, refl);
    writes = (writes_whatever (may_make_text env.config (One x > One y)) h).from maps;
    named = no_names (at_maps maps env) p;
    placed = placed_none (at_maps maps env) p (One x > One y) (x ∷ y ∷ []) refl (x ∷ [], y ∷ [], refl, refl, refl);
    safe = no_strings (h.from maps) (or_from (is_str x.kind) _ a (or_from (is_str y.kind) false b refl));
  };
  where_out = λ w o. absurd (true≢false (sym o));
}

-- `++` of `a++`
pub prints_joined_operator : (env : Env) (t : List ℕ) → IsMark t → PrintsAt joined env (operator t) (phrases.same_line > mark t)
unfolding token_of value_of spelling lexical.punctuator lexical.same_line is_str
prints_joined_operator env t w = prints_pair env (operator t) _ _ (writes_joined_operator env t (mark_spelled t w) w.ascii) refl refl

-- `=>`
pub joined_mark : {i : Shape} (env : Env) (p : Part) (t : List ℕ) → MakesAt i env p (lexical.same_line ∷ token_of Punctuator (spelling Punctuator t) ∷ []) false → PrintsAt i env p (phrases.same_line > mark t)
unfolding token_of value_of spelling lexical.punctuator lexical.same_line is_str
joined_mark env p t h = prints_pair env p _ _ h refl refl

pub prints_joined_punct : (env : Env) (t : List ℕ) → allows_break t ≡ false → is_ending t ≡ false → IsMark t → PrintsAt joined env (punct t) (phrases.same_line > mark t)
prints_joined_punct env t q e w = joined_mark env (punct t) t (writes_joined_punct env t q e (mark_spelled t w) w.ascii)

joint_word : (env : Env) (p : Part) (t : List ℕ) → IsWord t → MakesAt (join whole joining) env p (token_of Word (spelling Word t) ∷ lexical.same_line ∷ []) false → PrintsAt (join whole joining) env p (phrases.word t > phrases.same_line)
unfolding token_of value_of spelling lexical.word lexical.same_line is_str
joint_word env p t w h = subst (λ z. PrintsAt (join whole joining) env p (phrases.word z > phrases.same_line)) (ascii_same t w.ascii) (prints_pair env p _ _ h refl refl)

-- the lists of three phrases, however they are taken together
pub prints_regrouped : {i : Shape} {env : Env} {p : Part} {f g h : Phrase} → PrintsAt i env p ((f > g) > h) → PrintsAt i env p (f > g > h)
unfolding plain_phrase Generates is_possible is_out may_make_text names_in
prints_regrouped {i} {env} {p} {f} {g} {h} x = record {
  where_possible = λ w o maps.
      let v : Env = at_maps maps env in
      let a = x.where_possible (and_assoc (is_possible f) (is_possible g) (is_possible h) ∙ w) (or_assoc (is_out env.config f) (is_out env.config g) (is_out env.config h) ∙ o) maps in
      let k = a.generated in
      record {
        tokens = a.tokens;
        generated = (k.2.0, k.2.1 ++ k.1, k.2.2, (k.2.1, k.1, k.2.3, k.3, refl), k.4 ∙ ap (λ z. z ++ k.1) k.2.4 ∙ append_assoc k.2.0 k.2.1 k.1);
        plain = λ e. let q = a.plain e in (q.2.0, q.2.1 ++ q.1, q.2.2, (q.2.1, q.1, q.2.3, q.3, refl), q.4 ∙ ap (λ z. z ++ q.1) q.2.4 ∙ append_assoc q.2.0 q.2.1 q.1);
        writes = subst (λ z. MakesFrom i (length a.tokens) v p a.tokens z) (or_assoc (may_make_text env.config f) (may_make_text env.config g) (may_make_text env.config h)) a.writes;
        named = subst (λ z. NamedBy v p z) (append_assoc (names_in f) (names_in g) (names_in h)) a.named;
        placed = placed_regrouped f g h a.placed;
        safe = a.safe;
      };
  where_out = λ w o maps rest. x.where_out (and_assoc (is_possible f) (is_possible g) (is_possible h) ∙ w) (or_assoc (is_out env.config f) (is_out env.config g) (is_out env.config h) ∙ o) maps rest;
}

-- a word and what belongs to it: `return a`
pub joined_then : {j : Shape} (env : Env) (span : Option Span) (t : List ℕ) → IsWord t → {p : Part} {f : Phrase} → PrintsAt j env p f → PrintsAt (at_joint j) env (λ rest. keyword span t (p rest)) (phrases.word t > phrases.same_line > f)
joined_then env span t w h = prints_regrouped (then (joint_word env (keyword span t) t w (writes_keyword_joint env span t (word_spelled t w) w.ascii)) h)

-- ---- names

pub name_written : (config : Config) (bytes : List ℕ) → is_well_formed_name bytes ≡ true → is_out_name config (turned bytes) ≡ false → Names config (turned bytes) (written_name config bytes)
unfolding is_well_formed_name names.spelled_name written_name
name_written config bytes w o = let p = and_parts (is_utf8 (turned bytes)) (is_name (chars (turned bytes))) w in names_in_ascii config (turned bytes) p.0 p.1 o

-- a semicolon that is held back is written, and then the text of a name
settled_name : Span → List ℕ → Part
settled_name span bytes rest = commit_pending_semi (name_text span bytes rest)

symbol_steps : (env : Env) (span : Span) (bytes : List ℕ) → env.keeps_invalid ≡ false → is_out_name env.config (turned bytes) ≡ false → steps_of (settled_name span bytes nothing env) ≡ name_steps (has_backslash bytes) (wants_escapes env.config (turned bytes)) Name (span.lo.0 == 0) span.lo (written_name env.config bytes)
unfolding settled_name name_steps name_call written_name commit_pending_semi valid_symbol symbol position step steps_of nothing after_step
symbol_steps env span bytes e o =
    let t : List ℕ = written_name env.config bytes in
    let x : Step = Token Name (Symbol dummy_span t) in
    ap (λ z. Plain Commit ∷ steps_of z) (valid_same span bytes nothing env e)
    ∙ ap (λ z. Plain Commit ∷ Remake (has_backslash bytes) ∷ steps_of z) (spelled_same span (turned bytes) nothing env o)
    ∙ ap (λ z. Plain Commit ∷ Remake (has_backslash bytes) ∷ Remake (wants_escapes env.config (turned bytes)) ∷ Guard t ∷ z)
    (elim (span.lo.0 == 0) as (λ b. steps_of ((cond b (step x nothing) (step (Plain (Position span.lo)) (step x nothing))) env) ≡ name_call Name b span.lo t) [ true ↦ refl | false ↦ refl ])

abbrev pub named_at : BytePos → List ℕ → PlacedName
named_at at bytes = record { at = at; bytes = bytes; sort = phrases.Plain }

names_here : (env : Env) (span : Span) (bytes : List ℕ) → env.keeps_invalid ≡ false → is_out_name env.config (turned bytes) ≡ false → (written_name env.config bytes ≡ [] → ⊥) → NamedBy env (settled_name span bytes) (named_at span.lo bytes ∷ [])
unfolding NamedBy written_as written_by
names_here env span bytes e o some s k flows =
    let P : List Step → Type 0 = λ z. Named env.config (named_at span.lo bytes ∷ []) s.sheet (run z s).sheet in
    subst P (sym (symbol_steps env span bytes e o)) (name_named env.config (has_backslash bytes) (wants_escapes env.config (turned bytes)) Name (span.lo.0 == 0) (named_at span.lo bytes) s refl some k flows)

-- and stands there as its own token
name_here : {i : Shape} (env : Env) (span : Span) (bytes : List ℕ) → env.keeps_invalid ≡ false → is_out_name env.config (turned bytes) ≡ false → Spelled Name (written_name env.config bytes) → token_of Name (spelling Name (written_name env.config bytes)) ≡ lexical.name (name_value (names.spelled_name bytes)) → PlacedBy i env (settled_name span bytes) (NameOf span.lo bytes) (token_of Name (spelling Name (written_name env.config bytes)) ∷ [])
unfolding EachName written_as written_by
name_here env span bytes e o spelled token = record {
  stands = λ a s us r k c.
      let x : PlacedName = named_at span.lo bytes in
      let first : Bool = has_backslash bytes in
      let second : Bool = wants_escapes env.config (turned bytes) in
      let there = name_stands env.config first second Name (span.lo.0 == 0) x us a s refl spelled k r in
      let t = token_of Name (spelling Name (written_name env.config bytes)) in
      (ap (λ z. z ∷ []) token, subst (λ (z : lexical.Token). StandsHere env.config a.sheet (run (steps_of (settled_name span bytes nothing env)) s).sheet us z x) token (subst (λ (z : List Step). StandsHere env.config a.sheet (run z s).sheet us t x) (sym (symbol_steps env span bytes e o)) there));
}

-- a name that can't be written ends it
name_out : (env : Env) (span : Span) (bytes : List ℕ) (rest : Plan) → env.keeps_invalid ≡ false → is_out_name env.config (turned bytes) ≡ true → unprintable_in (settled_name span bytes rest env) ≡ Some NameOutOfTarget
unfolding settled_name commit_pending_semi valid_symbol step refuse unprintable_in after_step
name_out env span bytes rest e o = ap unprintable_in (valid_same span bytes rest env e) ∙ ap unprintable_in (out_same span (turned bytes) rest env o)

prints_settled_name : (env : Env) (span : Span) (bytes : List ℕ) → env.keeps_invalid ≡ false → Prints env (settled_name span bytes) (NameOf span.lo bytes)
unfolding settled_name token_of value_of spelling lexical.name names.spelled_name plain_phrase Generates is_possible is_out may_make_text names_in is_str
prints_settled_name env span bytes e = record {
  where_possible = λ w o maps.
      let h = name_written env.config bytes w o in
      let spelled = spelled_name (written_name env.config bytes) h.utf8 h.shape in
      let m = writes_then env commit_pending_semi (name_text span bytes) [] _ (writes_commit env) (writes_name_text env span bytes e o spelled h.ascii) in
      record {
        tokens = _;
        generated = ap (λ z. lexical.name z ∷ []) h.value;
        plain = λ e. ap (λ z. lexical.name z ∷ []) h.value;
        writes = m.from maps;
        named = names_here (at_maps maps env) span bytes e o spelled.some;
        placed = name_here (at_maps maps env) span bytes e o spelled (ap lexical.name h.value);
        safe = no_string m refl maps;
      };
  where_out = λ w o maps rest. name_out (at_maps maps env) span bytes rest e o;
}

prints_question : (env : Env) (optional : Bool) → PrintsAt open_ env (question optional) (cond optional (mark (codes "?")) Nothing)
unfolding question
prints_question env true = prints_wider open_ refl (prints_punct env (codes "?") question_is_mark)
prints_question env false = prints_nothing

-- a name, and `?` after an optional one
pub prints_ident : (env : Env) (span : Span) (bytes : List ℕ) (optional : Bool) → env.keeps_invalid ≡ false → Prints env (name span bytes optional) (NameOf span.lo bytes > cond optional (mark (codes "?")) Nothing)
unfolding name settled_name
prints_ident env span bytes optional e = after (writes_leading env span.lo) (then (prints_settled_name env span bytes e) (prints_question env optional))

pub prints_name : (env : Env) (span : Span) (bytes : List ℕ) → env.keeps_invalid ≡ false → Prints env (name span bytes false) (NameOf span.lo bytes)
unfolding name question settled_name
prints_name env span bytes e = after (writes_leading env span.lo) (prints_settled_name env span bytes e)

-- ---- what an emission adds reads

pub new_at_rest : (a : State) → IsNew a → AtRest a
unfolding is_free allows
new_at_rest a n = record {
  indent_text = n.indent_text;
  line_end = n.line_end;
  flowing = n.flowing;
  free = λ o e. ap is_free n.nothing_written;
  allowed = λ t. ap (λ k. allows k t) n.nothing_written;
}

-- what is still held back at the end is left out
end_of : Bool → Sheet → List parts.Part
end_of b s = cond b (Gap (blanks (front s)) ∷ []) []

end_reduced : (b c : Bool) (s : Sheet) → Reduced (held_of b c s ++ []) (end_of b s)
unfolding Reduced IsEnding begins_break end_of
end_reduced true c s = inl ([], refl, inr (inl (refl, ending_past c [] tt, refl, past_break c [] [] refl)))
end_reduced false c s = refl

without_end : (b : Bool) (s : Sheet) (xs : List parts.Part) → NoneFuse Start (xs ++ end_of b s) → NoneFuse Start xs
unfolding end_of
without_end true s xs h = without_last_gap Start xs (blanks (front s)) h
without_end false s xs h = subst (λ z. NoneFuse Start z) (append-nil xs) h

no_end_tokens : (b : Bool) (s : Sheet) → tokens_of (end_of b s) ≡ []
unfolding end_of tokens_of
no_end_tokens true s = refl
no_end_tokens false s = refl

-- where no line ends within the whole none does within its front
pub kept_front : (xs ys : List parts.Part) (w : OfLine) → is_broken (walk w (xs ++ ys)) ≡ false → is_broken (walk w xs) ≡ false
kept_front xs ys w h = still_whole ys (walk w xs) (ap is_broken (sym (walk_append xs ys w)) ∙ h)
  where
    still_whole : (ys : List parts.Part) (v : OfLine) → is_broken (walk v ys) ≡ false → is_broken v ≡ false
    still_whole ys v h = false_from_ne_true (is_broken v) (λ b. true≢false (sym (broken_from ys v b) ∙ h))

-- no indentation is due
no_front : (b : Bool) (s : Sheet) → (b ≡ true → s.indentation ≡ 0) → front_of b s ≡ []
no_front true s m = ap (λ n. repeat n s.indent_text) (m refl)
no_front false s m = refl

pub enters_new : (anywhere : Bool) (a : State) → IsNew a → (anywhere ≡ false → IsAtMargin a) → Enters (unbroken_at anywhere) a
enters_new true a n m = inl refl
enters_new false a n m = inr (refl, record { nothing_written = n.nothing_written; nothing_held = n.nothing_held; at_margin = no_front a.sheet.at_line_start a.sheet (m refl) })

-- What was laid since an emission began: no two parts of it fuse, no line ends where none may, and it is what was asked for without some
-- semicolons that aren't needed.
pub record StandsAlone (ts : List lexical.Token) (rs : List Remark) (laid : List parts.Part) : Type 0 where
  pub apart : NoneFuse Start laid
  pub lines : all_tame rs ≡ true → KeepsLines laid
  pub reduced : IsReduced ts (tokens_of laid)

pub laid_alone : {rs : List Remark} (anywhere : Bool) (ts : List lexical.Token) (a b : State) → IsNew a → (anywhere ≡ false → IsAtMargin a) → (l : LaysWith (unbroken_at anywhere) ts rs a b) → StandsAlone ts rs l.laid
laid_alone {rs} anywhere ts a b n m l =
    let last : Bool = holds_one b.sheet.semicolons in
    let end : List parts.Part = end_of last b.sheet in
    let none : held a.sheet ≡ [] = ap (λ z. held_of z (keeps_break a.sheet.semicolons) a.sheet) n.nothing_held in
    let reduced : Reduced l.out (l.laid ++ end) =
    subst (λ z. Reduced z (l.laid ++ end)) (append-nil l.out) (subst (λ z. Reduced (z ++ (l.out ++ [])) (l.laid ++ end)) none (l.reduces [] end (end_reduced last (keeps_break b.sheet.semicolons) b.sheet))) in
    let apart : NoneFuse Start l.out = subst (λ z. NoneFuse z l.out) n.nothing_written (subst (λ z. NoneFuse a.last z) (append-nil l.out) (l.apart (enters_new anywhere a n m) [] (unfold NoneFuse in l.rest.allowed []))) in
    let same : tokens_of (l.laid ++ end) ≡ tokens_of l.laid = tokens_append l.laid end ∙ ap (λ z. tokens_of l.laid ++ z) (no_end_tokens last b.sheet) ∙ append-nil (tokens_of l.laid) in
    record {
      apart = without_end last b.sheet l.laid (none_fuse_reduced l.out (l.laid ++ end) apart reduced);
      lines = λ t. kept_front l.laid end OnLine (keeps_reduced l.out (l.laid ++ end) OnLine reduced (met_unbroken _ (l.fits t).line));
      reduced = subst (λ z. IsReduced z (tokens_of l.laid)) l.tokens (subst (λ z. IsReduced (tokens_of l.out) z) same (tokens_reduced l.out (l.laid ++ end) apart reduced));
    }

pub laid_reads : {rs : List Remark} (anywhere : Bool) (config : Config) (f : Phrase) (ts : List lexical.Token) (a b : State) → Generates (settings_of config) f ts → IsNew a → (anywhere ≡ false → IsAtMargin a) → LaysWith (unbroken_at anywhere) ts rs a b → AddsReading config f rs a.sheet b.sheet
laid_reads {rs} anywhere config f ts a b g n m l =
    let alone = laid_alone anywhere ts a b n m l in
    record {
      added = l.bytes;
      is_added = l.text;
      reading = record {
        utf8 = l.utf8;
        tokens = ts;
        is_list = g;
        written = tokens_of l.laid;
        reduced = alone.reduced;
        whole = λ e. ap tokens_of (l.whole e) ∙ l.tokens;
        reads = subst (λ z. Reads (chars l.bytes) (without_joints (tokens_of l.laid)) z) l.remarks (subst (λ z. Reads z (without_joints (tokens_of l.laid)) (remarks_in l.laid)) (sym l.spells) (reads_without l.laid alone.apart));
        keeps_lines = λ t. subst (λ z. Reads (chars l.bytes) (tokens_of l.laid) z) l.remarks (subst (λ z. Reads z (tokens_of l.laid) (remarks_in l.laid)) (sym l.spells) (reads l.laid alone.apart (alone.lines t)));
      };
    }

-- ---- the comments of the maps

closed_where : (b : Bool) (x : Option (List Comment)) → all_closed (remarks_of (listed x)) ≡ true → all_closed (remarks_of (listed (cond b None x))) ≡ true
unfolding listed remarks_of all_closed
closed_where true x h = refl
closed_where false x h = h

taken_out_closed : (side : Side) (at : ℕ) (maps : Maps) → AreClosed maps → AreClosed (taken_out side at maps)
unfolding taken_out without_leading without_trailing without
taken_out_closed Leading at maps h = record { leading = λ pos. closed_where (at == pos) (maps.leading pos) (h.leading pos); trailing = h.trailing }
taken_out_closed Trailing at maps h = record { leading = h.leading; trailing = λ pos. closed_where (at == pos) (maps.trailing pos) (h.trailing pos) }

step_closed : (x : Step) (maps : Maps) → AreClosed maps → AreClosed (after_step x maps)
unfolding after_step
step_closed (Guard t) maps h = h
step_closed (Token kind x) maps h = h
step_closed (Plain x) maps h = h
step_closed (Ends tokens x) maps h = h
step_closed (Remake due) maps h = h
step_closed (Take side at) maps h = taken_out_closed side at maps h
step_closed (CommentText t) maps h = h

at_closed : (side : Side) (at : ℕ) (maps : Maps) → AreClosed maps → all_closed (remarks_of (comments_at side at maps)) ≡ true
unfolding comments_at
at_closed Leading at maps h = h.leading at
at_closed Trailing at maps h = h.trailing at

by_closed : (x : Step) (maps : Maps) → AreClosed maps → all_closed (remarks_of (taken_by x maps)) ≡ true
unfolding taken_by remarks_of all_closed
by_closed (Guard t) maps h = refl
by_closed (Token kind x) maps h = refl
by_closed (Plain x) maps h = refl
by_closed (Ends tokens x) maps h = refl
by_closed (Remake due) maps h = refl
by_closed (Take side at) maps h = at_closed side at maps h
by_closed (CommentText t) maps h = refl

-- what is taken out of maps whose comments can be read back can be
pub taken_closed : (xs : List Step) (maps : Maps) → AreClosed maps → all_closed (remarks_of (taken_in xs maps)) ≡ true
unfolding taken_in
taken_closed [] maps h = unfold remarks_of all_closed in refl
taken_closed (x ∷ xs) maps h =
    ap all_closed (remarks_append (taken_by x maps) (taken_in xs (after_step x maps))) ∙ closed_append (remarks_of (taken_by x maps)) (remarks_of (taken_in xs (after_step x maps)))
    ∙ and_from (all_closed (remarks_of (taken_by x maps))) (all_closed (remarks_of (taken_in xs (after_step x maps)))) (by_closed x maps h) (taken_closed xs (after_step x maps) (step_closed x maps h))

-- the steps of a part, made from a state where an emission begins
pub steps_read : (anywhere : Bool) (p : Part) (f : Phrase) (a : State) → IsNew a → (anywhere ≡ false → IsAtMargin a) → AreClosed a.env.maps → PrintsAt (unbroken_at anywhere) a.env p f → is_possible f ≡ true → is_out a.env.config f ≡ false → AddsReading a.env.config f (taken_remarks p a.env) a.sheet (run (steps_of (p nothing a.env)) a).sheet
unfolding nothing
steps_read anywhere p f a n m closed prints w o =
    let h = prints.where_possible w o a.env.maps in
    let same : steps_of (p nothing a.env) ≡ h.writes.steps = ap steps_of (h.writes.is_steps nothing) ∙ steps_of_chain h.writes.steps in
    let P : List Step → Type 0 = λ z. AddsReading a.env.config f (remarks_by z a.env) a.sheet (run z a).sheet in
    subst P (sym same) (laid_reads anywhere a.env.config f h.tokens a (run h.writes.steps a) h.generated n m (h.writes.lays a (new_at_rest a n) (taken_closed h.writes.steps a.env.maps closed)))

-- steps that come to their end come to no name that can't be written
pub made_not_out : {v w : Spot} {i : Shape} (p : Part) (f : Phrase) (env : Env) → PrintsOn v w i env p f → is_possible f ≡ true → unprintable_in (p nothing env) ≡ None → is_out env.config f ≡ false
made_not_out p f env prints w end = false_from_ne_true (is_out env.config f) (λ o. let z = sym end ∙ prints.where_out w o env.maps nothing in absurd (cc))

-- where there are neither comments nor a source text, they read as the plain list
pub steps_read_plain : (anywhere : Bool) (p : Part) (f : Phrase) (a : State) → IsNew a → (anywhere ≡ false → IsAtMargin a) → AreClosed a.env.maps → PrintsAt (unbroken_at anywhere) a.env p f → is_possible f ≡ true → is_out a.env.config f ≡ false → IsPlain a.env → AddsReading a.env.config (plain_phrase a.env.config.minify f) (taken_remarks p a.env) a.sheet (run (steps_of (p nothing a.env)) a).sheet
unfolding nothing
steps_read_plain anywhere p f a n m closed prints w o plain =
    let h = prints.where_possible w o a.env.maps in
    let same : steps_of (p nothing a.env) ≡ h.writes.steps = ap steps_of (h.writes.is_steps nothing) ∙ steps_of_chain h.writes.steps in
    let P : List Step → Type 0 = λ z. AddsReading a.env.config (plain_phrase a.env.config.minify f) (remarks_by z a.env) a.sheet (run z a).sheet in
    subst P (sym same) (laid_reads anywhere a.env.config (plain_phrase a.env.config.minify f) h.tokens a (run h.writes.steps a) (h.plain plain) n m (h.writes.lays a (new_at_rest a n) (taken_closed h.writes.steps a.env.maps closed)))

-- of an empty text the whole reads
pub whole_reads : (config : Config) (holds : Bool) (f : Phrase) (rs : List Remark) (text : List ℕ) → AddsText config holds f rs [] text → ReadsAs config holds f rs text
whole_reads config holds f rs text h = subst (λ z. ReadsAs config holds f rs z) (sym h.is_added) h.reading

pub printed_reads : (anywhere : Bool) (p : Part) (f : Phrase) (a b : State) (r : Result (Unit {0}) Refusal) → IsNew a → (anywhere ≡ false → IsAtMargin a) → AreClosed a.env.maps → PrintsAt (unbroken_at anywhere) a.env p f → is_possible f ≡ true → Follows (p nothing) a b r → OnOk r (AddsReading a.env.config f (taken_remarks p a.env) a.sheet b.sheet)
unfolding Follows
printed_reads anywhere p f a b (Ok u) n m c prints w k = let P : State → Type 0 = λ z. AddsReading a.env.config f (taken_remarks p a.env) a.sheet z.sheet in subst P (sym k.1) (steps_read anywhere p f a n m c prints w (made_not_out p f a.env prints w k.0))
printed_reads anywhere p f a b (Err e) n m c prints w k = tt

pub printed_reads_plain : (anywhere : Bool) (p : Part) (f : Phrase) (a b : State) (r : Result (Unit {0}) Refusal) → IsNew a → (anywhere ≡ false → IsAtMargin a) → AreClosed a.env.maps → PrintsAt (unbroken_at anywhere) a.env p f → is_possible f ≡ true → IsPlain a.env → Follows (p nothing) a b r → OnOk r (AddsReading a.env.config (plain_phrase a.env.config.minify f) (taken_remarks p a.env) a.sheet b.sheet)
unfolding Follows
printed_reads_plain anywhere p f a b (Ok u) n m c prints w plain k = let P : State → Type 0 = λ z. AddsReading a.env.config (plain_phrase a.env.config.minify f) (taken_remarks p a.env) a.sheet z.sheet in subst P (sym k.1) (steps_read_plain anywhere p f a n m c prints w (made_not_out p f a.env prints w k.0) plain)
printed_reads_plain anywhere p f a b (Err e) n m c prints w plain k = tt

-- no text is made anew where nothing of the phrase may be
pub printed_remakes : {v w : Spot} {i : Shape} (p : Part) (f : Phrase) (env : Env) → PrintsOn v w i env p f → is_possible f ≡ true → may_make_text env.config f ≡ false → makes_text (steps_of (p nothing env)) ≡ false
unfolding nothing
printed_remakes p f env prints w none =
    let h = prints.where_possible w (plain_not_out env.config f none) env.maps in
    ap (λ z. makes_text (steps_of z)) (h.writes.is_steps nothing) ∙ ap makes_text (steps_of_chain h.writes.steps)
    ∙ false_from_ne_true (makes_text h.writes.steps) (λ e. true≢false (sym (h.writes.remakes e) ∙ none))

-- the comments that are taken are written, each once and in order of taking
pub printed_tells : {v w : Spot} {i : Shape} (p : Part) (f : Phrase) (env : Env) → PrintsOn v w i env p f → is_possible f ≡ true → is_out env.config f ≡ false → spoken (steps_of (p nothing env)) ≡ texts_of (taken_in (steps_of (p nothing env)) env.maps)
unfolding nothing
printed_tells p f env prints w none =
    let h = prints.where_possible w none env.maps in
    subst (λ xs. spoken xs ≡ texts_of (taken_in xs env.maps)) (sym (ap steps_of (h.writes.is_steps nothing) ∙ steps_of_chain h.writes.steps)) h.writes.comment_texts

-- an emission without calls that take memory, and without such a name, isn't refused for want of memory
pub never_out_of_memory : (p : Part) (a b : State) (r : Result (Unit {0}) Error) → makes_text (steps_of (p nothing a.env)) ≡ false → may_take_memory a.sheet ≡ false → Follows (p nothing) a b (in_short r) → r ≢ Err errors.OutOfMemory
unfolding HasCause
never_out_of_memory p a b r plain t h e =
    let P : Result (Unit {0}) Refusal → Type 0 = λ z. IfErr z (λ x. HasCause (p nothing a.env) x a b) in
    let k : (may_take_memory a.sheet || makes_text (steps_of (p nothing a.env))) ≡ true = subst P (ap in_short e) (follows_cause (p nothing) a b (in_short r) h) in
    true≢false (sym k ∙ or_from _ _ t plain)

-- ---- what an emission records

-- where positions are kept, each name has its own where it begins
pub printed_names : {v w : Spot} {i : Shape} (p : Part) (f : Phrase) (a b : State) (r : Result (Unit {0}) Refusal) → PrintsOn v w i a.env p f → is_possible f ≡ true → a.sheet.keeps_positions ≡ true → fills_lines a.sheet.lines ≡ false → Follows (p nothing) a b r → OnOk r (RecordsNames a.env.config (names_in f) a.sheet b.sheet)
unfolding Follows NamedBy
printed_names p f a b (Ok u) prints w k n h =
    let P : State → Type 0 = λ z. RecordsNames a.env.config (names_in f) a.sheet z.sheet in
    subst P (sym h.1) (named_records a.env.config (names_in f) a.sheet _ ((prints.where_possible w (made_not_out p f a.env prints w h.0) a.env.maps).named a k n))
printed_names p f a b (Err e) prints w k n h = tt

-- what is recorded is true
pub follows_records : (p : Plan) (a b : State) (r : Result (Unit {0}) Refusal) → Follows p a b r → OnOk r (RecordsTruly a.sheet b.sheet)
unfolding Follows
follows_records p a b (Ok u) h = let P : State → Type 0 = λ z. RecordsTruly a.sheet z.sheet in subst P (sym h.1) (run_records (steps_of (p a.env)) a)
follows_records p a b (Err e) h = tt

-- ---- where names stand

pub steps_placed : (anywhere : Bool) (p : Part) (f : Phrase) (a : State) → IsNew a → (anywhere ≡ false → IsAtMargin a) → AreClosed a.env.maps → PrintsAt (unbroken_at anywhere) a.env p f → is_possible f ≡ true → is_out a.env.config f ≡ false → a.sheet.keeps_positions ≡ true → PlacesNames a.env.config f (taken_remarks p a.env) a.sheet (run (steps_of (p nothing a.env)) a).sheet
unfolding laid_reads
steps_placed anywhere p f a n m closed prints w o k =
    let h = prints.where_possible w o a.env.maps in
    let same : steps_of (p nothing a.env) ≡ h.writes.steps = steps_alone h.writes in
    let r = reached_first (unbroken_at anywhere) a n (new_at_rest a n) (enters_new anywhere a n m) in
    let there : AllHere a.env.config a.sheet (run h.writes.steps a).sheet [] f h.tokens =
    subst (λ z. AllHere a.env.config a.sheet (run z a).sheet [] f h.tokens) same (h.placed.stands a a [] r k (taken_closed (steps_of (p nothing a.env)) a.env.maps closed)) in
    let P : List Step → Type 0 = λ z. PlacesNames a.env.config f (remarks_by z a.env) a.sheet (run z a).sheet in
    subst P (sym same)
    (record {
      reads = laid_reads anywhere a.env.config f h.tokens a (run h.writes.steps a) h.generated n m (h.writes.lays a (new_at_rest a n) (taken_closed h.writes.steps a.env.maps closed));
      stand = each_holds (λ us t x s. s.stands) (settings_of a.env.config) [] f h.tokens there;
    })

-- what a new emitter prints reads, and each name of the list that it reads as stands there as its own token, with its position where it begins
pub printed_places : (anywhere : Bool) (p : Part) (f : Phrase) (a b : State) (r : Result (Unit {0}) Refusal) → IsNew a → (anywhere ≡ false → IsAtMargin a) → AreClosed a.env.maps → PrintsAt (unbroken_at anywhere) a.env p f → is_possible f ≡ true → a.sheet.keeps_positions ≡ true → Follows (p nothing) a b r → OnOk r (PlacesNames a.env.config f (taken_remarks p a.env) a.sheet b.sheet)
unfolding Follows
printed_places anywhere p f a b (Ok u) n m c prints w k h = let P : State → Type 0 = λ z. PlacesNames a.env.config f (taken_remarks p a.env) a.sheet z.sheet in subst P (sym h.1) (steps_placed anywhere p f a n m c prints w (made_not_out p f a.env prints w h.0) k)
printed_places anywhere p f a b (Err e) n m c prints w k h = tt
