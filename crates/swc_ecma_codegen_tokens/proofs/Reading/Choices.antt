-- Parts that write what syntax leaves open: one of the lists that their phrase has.
use Rattle.std.proofs.Common.{◌≡◌, ℕ, Some, None, Bool, true, false, cond, ◌||◌, List, [], ◌∷◌, ◌++◌, ◌&&◌, append-nil, codes, refl, sym, ap, ◌∙◌, subst, inl, inr}
use Rattle.std.proofs.lemmas.Bool.{cases_Bool, true≢false}
use Rattle.swc_ecma_codegen_grammar.specs.CommentMaps.{Maps}
use Rattle.swc_ecma_codegen_grammar.specs.Comments.{no_maps}
use Rattle.swc_ecma_codegen_grammar.specs.PlainPhrases.{plain_phrase}
use Rattle.swc_ecma_codegen_grammar.specs.Phrases.{Phrase, Nothing, Closing, CommaBefore, OptionalParentheses, Round, Argument, Parameter, Chosen, EmptyArguments, LoopEnding, AttributesWord, Generates, chosen, closing_mark, in_parentheses, comma, open_parenthesis, is_possible, names_in, ◌>◌, mark, ending}
use Rattle.swc_ecma_codegen_grammar.specs.Phrases as phrases
use Rattle.swc_ecma_codegen_grammar.specs.Chars.{is_start, is_part, is_letter, is_digit}
use Rattle.swc_ecma_codegen_grammar.specs.Names.{is_word, all_part}
use Rattle.swc_ecma_codegen_grammar.specs.Punctuators.{is_punctuator, punctuators}
use Rattle.swc_ecma_codegen_grammar.specs.Settings.{is_up_to_es5}
use Rattle.swc_ecma_codegen_grammar.specs.Texts.{is_same, is_among}
use Rattle.swc_ecma_codegen_grammar.specs.Tokens.{Token}
use Rattle.swc_ecma_codegen_grammar.specs.Tokens as lexical
use Rattle.swc_ecma_codegen_settings.specs.declared.config.Config.{Config}
use Rattle.std.specs.Str.{chars, is_utf8}
use Rattle.swc_ecma_codegen_tokens.specs.Choices.{optional_parentheses, empty_arguments, loop_ending, attributes_word}
use Rattle.swc_ecma_codegen_tokens.specs.Escapes.{is_spelled_anew, may_make_text}
use Rattle.swc_ecma_codegen_tokens.specs.declared.refusals.Unprintable.TheVariants.{NameOutOfTarget}
use Rattle.swc_ecma_codegen_tokens.specs.Run.{Env, Plan, Part, at_maps, no_part, unprintable_in}
use Rattle.swc_ecma_codegen_tokens.specs.Settings.{settings_of}
use Rattle.swc_ecma_codegen_tokens.specs.Plain.{IsPlain}
use Rattle.swc_ecma_codegen_tokens.specs.Targets.{is_out}
use Rattle.swc_ecma_codegen_tokens.specs.Words.{by_maps, keyword, punct, semi}
use Rattle.swc_ecma_codegen_tokens.specs.Written.{IsMark, IsWord}
use Rattle.swc_ecma_codegen_tokens.proofs.Emission.Emitting.{minified_same, pretty_same}
use Rattle.swc_ecma_codegen_text_writer.specs.Sheet.{Sheet}
use Rattle.swc_ecma_codegen_tokens.specs.Named.{EachName}
use Rattle.swc_ecma_codegen_tokens.proofs.Reading.Printed.{from_where}
use Rattle.swc_ecma_codegen_tokens.proofs.Emission.PartSteps.{NamedBy, PlacedBy}
use Rattle.swc_ecma_codegen_tokens.proofs.Reading.Phrased.{Printed, Prints, then, printed_same, prints_nothing, prints_keyword, prints_punct, prints_semi, prints_same, PrintsAt, prints_wider}
use Rattle.swc_ecma_codegen_tokens.proofs.Filling.Shapes.{ended_if_any, Shape, open_}
use Rattle.swc_ecma_codegen_tokens.proofs.Filling.CutStanding.{AllHere}

-- ---- a phrase whose lists another has too

-- Each list of a phrase is one of another's, under these settings; what is asked of the two is the same, and the other may take
-- memory where this one may.
pub record IsAmong (config : Config) (f g : Phrase) : Type 0 where
  pub generates : (ts : List Token) → Generates (settings_of config) f ts → Generates (settings_of config) g ts
  pub possible : is_possible f ≡ is_possible g
  pub out : is_out config f ≡ is_out config g
  pub makes : may_make_text config f ≡ true → may_make_text config g ≡ true
  pub names : names_in f ≡ names_in g
  pub stands : (a b : Sheet) (us ts : List Token) → AllHere config a b us f ts → AllHere config a b us g ts

pub placed_among : {k : Shape} {env : Env} {p : Part} {f g : Phrase} {ts : List Token} → IsAmong env.config f g → PlacedBy k env p f ts → PlacedBy k env p g ts
placed_among i x = record { stands = λ a s us r k c. i.stands a.sheet _ us _ (x.stands a s us r k c) }

-- The same of the lists that are written where there are neither comments nor a source text.
abbrev pub IsPlainAmong : Env → Phrase → Phrase → Type 0
IsPlainAmong env f g = (maps : Maps) → IsPlain (at_maps maps env) → (ts : List Token) → Generates (settings_of env.config) (plain_phrase env.config.minify f) ts → Generates (settings_of env.config) (plain_phrase env.config.minify g) ts

pub prints_among : {k : Shape} {env : Env} {p : Part} {f g : Phrase} → IsAmong env.config f g → IsPlainAmong env f g → PrintsAt k env p f → PrintsAt k env p g
prints_among {env = env} {p = p} i plain h = record {
  where_possible = λ w o maps.
      let a = h.where_possible (i.possible ∙ w) (i.out ∙ o) maps in
      record {
        tokens = a.tokens;
        generated = i.generates a.tokens a.generated;
        plain = λ e. plain maps e a.tokens (a.plain e);
        writes = from_where i.makes a.writes;
        named = subst (λ ns. NamedBy (at_maps maps env) p ns) i.names a.named;
        placed = placed_among i a.placed;
        safe = a.safe;
      };
  where_out = λ w o maps rest. h.where_out (i.possible ∙ w) (i.out ∙ o) maps rest;
}

-- One of two by the comments that are still to be taken: where there are none, the second.
pub prints_by_test : {k : Shape} {env : Env} {f g : Phrase} (ask : Bool → Part) (test : Maps → Bool) → test no_maps ≡ false → IsAmong env.config f g → PrintsAt k env (ask true) f → PrintsAt k env (ask false) g → PrintsAt k env (by_maps (λ maps. ask (test maps))) g
unfolding by_maps
prints_by_test {k} {env} {f} {g} ask test none i h l = record {
  where_possible = λ w o maps.
      let v : Env = at_maps maps env in
      let P : Bool → Type 0 = λ b. (IsPlain v → b ≡ false) → Printed k v (ask b) g in
      let there : P true = λ never.
      let a = h.where_possible (i.possible ∙ w) (i.out ∙ o) maps in
      record {
        tokens = a.tokens;
        generated = i.generates a.tokens a.generated;
        plain = λ e. absurd (true≢false (never e));
        writes = from_where i.makes a.writes;
        named = subst (λ ns. NamedBy v (ask true) ns) i.names a.named;
        placed = placed_among i a.placed;
        safe = a.safe;
      } in
      let here : P false = λ never. l.where_possible w o maps in
      let at : (b : Bool) → P b = λ b. elim b as P [ true ↦ there | false ↦ here ] in
      printed_same v (by_maps (λ z. ask (test z))) (ask (test maps)) (λ rest. refl) (at (test maps) (λ e. ap test e.no_comments ∙ none));
  where_out = λ w o maps rest.
      let Q : Bool → Type 0 = λ b. unprintable_in (ask b rest (at_maps maps env)) ≡ Some NameOutOfTarget in
      elim (test maps) as Q [ true ↦ h.where_out (i.possible ∙ w) (i.out ∙ o) maps rest | false ↦ l.where_out w o maps rest ];
}

-- ---- a comma before a closing mark, or none

pub no_comma_among : (config : Config) (close : Closing) → IsAmong config (mark (closing_mark close)) (CommaBefore close)
unfolding Generates EachName is_possible is_out may_make_text names_in
no_comma_among config close = record { generates = λ ts g. inl g; possible = refl; out = refl; makes = λ e. refl; names = refl; stands = λ a b us ts g. inl g }

pub comma_among : (config : Config) (close : Closing) → IsAmong config (mark (codes ",") > mark (closing_mark close)) (CommaBefore close)
unfolding Generates EachName is_possible is_out may_make_text names_in is_spelled_anew lexical.punctuator
comma_among config close = record {
  generates = λ ts g. inr (g.4 ∙ ap (λ z. z ++ g.1) g.2 ∙ ap (λ z. comma ∷ z) g.3);
  possible = refl;
  out = refl;
  makes = λ e. refl;
  names = refl;
  stands = λ a b us ts g. inr (g.4 ∙ ap (λ z. z ++ g.1) g.2 ∙ ap (λ z. comma ∷ z) g.3);
}

-- a part that writes a closing mark alone writes it with an optional comma before it
pub prints_no_comma : {k : Shape} {env : Env} {p : Part} (close : Closing) → PrintsAt k env p (mark (closing_mark close)) → PrintsAt k env p (CommaBefore close)
unfolding plain_phrase
prints_no_comma {env = env} close h = prints_among (no_comma_among env.config close) (λ maps e ts g. g) h

-- ---- parentheses or none

or_false : (b : Bool) → (b || false) ≡ b
or_false true = refl
or_false false = refl

possible_within : (b : Bool) → (true && (b && true)) ≡ b
possible_within true = refl
possible_within false = refl

pub bare_among : (config : Config) (round : Round) (f : Phrase) → IsAmong config f (OptionalParentheses round f)
unfolding Generates EachName is_possible is_out may_make_text names_in
bare_among config round f = record { generates = λ ts g. inl g; possible = refl; out = refl; makes = λ e. e; names = refl; stands = λ a b us ts g. inl g }

pub parentheses_among : (config : Config) (round : Round) (f : Phrase) → IsAmong config (mark (codes "(") > f > mark (codes ")")) (OptionalParentheses round f)
unfolding Generates EachName is_possible is_out may_make_text names_in is_spelled_anew lexical.punctuator
parentheses_among config round f = record {
  generates = λ ts g. inr (g.3.0, g.3.2, g.4 ∙ ap (λ z. z ++ g.1) g.2 ∙ ap (λ z. open_parenthesis ∷ z) (g.3.4 ∙ ap (λ z. g.3.0 ++ z) g.3.3));
  possible = possible_within (is_possible f);
  out = or_false (is_out config f);
  makes = λ e. sym (or_false (may_make_text config f)) ∙ e;
  names = append-nil (names_in f);
  stands = λ a b us ts g. inr (g.3.0, subst (λ z. AllHere config a b (us ++ z) f g.3.0) g.2 g.3.2, g.4 ∙ ap (λ z. z ++ g.1) g.2 ∙ ap (λ z. open_parenthesis ∷ z) (g.3.4 ∙ ap (λ z. g.3.0 ++ z) g.3.3));
}

-- an argument that is written bare, and one that is written in parentheses by what comments ask
pub prints_bare : {k : Shape} {env : Env} {p : Part} {f : Phrase} → PrintsAt k env p f → PrintsAt k env p (OptionalParentheses Argument f)
unfolding plain_phrase
prints_bare {env = env} {f = f} h = prints_among (bare_among env.config Argument f) (λ maps e ts g. g) h

-- a parameter that is written bare where the settings are to minify, and in parentheses where they aren't
small_plain : (s : Bool) (f : Phrase) → s ≡ true → plain_phrase s f ≡ plain_phrase s (OptionalParentheses Parameter f)
unfolding plain_phrase
small_plain s f m = subst (λ b. plain_phrase b f ≡ plain_phrase b (OptionalParentheses Parameter f)) (sym m) refl

wide_plain : (s : Bool) (f : Phrase) → s ≡ false → plain_phrase s (mark (codes "(") > f > mark (codes ")")) ≡ plain_phrase s (OptionalParentheses Parameter f)
unfolding plain_phrase
wide_plain s f m = subst (λ b. plain_phrase b (mark (codes "(") > f > mark (codes ")")) ≡ plain_phrase b (OptionalParentheses Parameter f)) (sym m) refl

pub prints_small_parameter : {k : Shape} {env : Env} {p : Part} {f : Phrase} → env.config.minify ≡ true → PrintsAt k env p f → PrintsAt k env p (OptionalParentheses Parameter f)
prints_small_parameter {env = env} {f = f} small h = prints_among (bare_among env.config Parameter f) (λ maps e ts g. subst (λ q. Generates (settings_of env.config) q ts) (small_plain env.config.minify f small) g) h

pub prints_wide_parameter : {k : Shape} {env : Env} {p : Part} {f : Phrase} → env.config.minify ≡ false → PrintsAt k env p (mark (codes "(") > f > mark (codes ")")) → PrintsAt k env p (OptionalParentheses Parameter f)
prints_wide_parameter {env = env} {f = f} wide h = prints_among (parentheses_among env.config Parameter f) (λ maps e ts g. subst (λ q. Generates (settings_of env.config) q ts) (wide_plain env.config.minify f wide) g) h

open_is_mark : IsMark (codes "(")
unfolding is_punctuator is_among is_same punctuators chars is_utf8 lib.Utf8.encode
open_is_mark = record { utf8 = refl; ascii = refl; shape = refl }

close_is_mark : IsMark (codes ")")
unfolding is_punctuator is_among is_same punctuators chars is_utf8 lib.Utf8.encode
close_is_mark = record { utf8 = refl; ascii = refl; shape = refl }

-- a part in parentheses
pub prints_parenthesized : {env : Env} {p : Part} {f : Phrase} → Prints env p f → Prints env (optional_parentheses true p) (mark (codes "(") > f > mark (codes ")"))
unfolding optional_parentheses
prints_parenthesized {env} h = then (prints_punct env (codes "(") open_is_mark) (then h (prints_punct env (codes ")") close_is_mark))

-- ---- what the settings choose

chosen_small : (config : Config) → config.minify ≡ true → chosen (settings_of config) EmptyArguments ≡ []
unfolding chosen
chosen_small config m = ap (λ b. cond b [] (in_parentheses [])) m

chosen_wide : (config : Config) → config.minify ≡ false → chosen (settings_of config) EmptyArguments ≡ in_parentheses []
unfolding chosen
chosen_wide config m = ap (λ b. cond b [] (in_parentheses [])) m

none_among : (config : Config) → config.minify ≡ true → IsAmong config Nothing (Chosen EmptyArguments)
unfolding Generates EachName is_possible is_out may_make_text names_in
none_among config m = record { generates = λ ts g. g ∙ sym (chosen_small config m); possible = refl; out = refl; makes = λ e. e; names = refl; stands = λ a b us ts g. g ∙ sym (chosen_small config m) }

empty_among : (config : Config) → config.minify ≡ false → IsAmong config (mark (codes "(") > mark (codes ")")) (Chosen EmptyArguments)
unfolding Generates EachName is_possible is_out may_make_text names_in is_spelled_anew lexical.punctuator
empty_among config m = record { generates = λ ts g. g.4 ∙ ap (λ z. z ++ g.1) g.2 ∙ ap (λ z. open_parenthesis ∷ z) g.3 ∙ sym (chosen_wide config m); possible = refl; out = refl; makes = λ e. e; names = refl; stands = λ a b us ts g. g.4 ∙ ap (λ z. z ++ g.1) g.2 ∙ ap (λ z. open_parenthesis ∷ z) g.3 ∙ sym (chosen_wide config m) }

-- by the settings: minified nothing is written, else `()`
pub prints_chosen : {i : Shape} {env : Env} {p : Part} → (env.config.minify ≡ true → PrintsAt i env p Nothing) → (env.config.minify ≡ false → PrintsAt i env p (mark (codes "(") > mark (codes ")"))) → PrintsAt i env p (Chosen EmptyArguments)
unfolding plain_phrase
prints_chosen {env = env} h k = elim (cases_Bool env.config.minify) [
  | inl m ↦ prints_among (none_among env.config m) (λ maps e. (none_among env.config m).generates) (h m)
  | inr m ↦ prints_among (empty_among env.config m) (λ maps e. (empty_among env.config m).generates) (k m)
]

pub prints_empty_arguments : {env : Env} → PrintsAt open_ env empty_arguments (Chosen EmptyArguments)
unfolding empty_arguments no_part
prints_empty_arguments {env} =
    let other : Part = λ rest. punct (codes "(") (punct (codes ")") rest) in
    prints_chosen
    (λ m. prints_same empty_arguments (λ rest. rest) (λ maps rest. minified_same no_part other rest (at_maps maps env) m) prints_nothing)
    (λ m. prints_same empty_arguments other (λ maps rest. pretty_same no_part other rest (at_maps maps env) m) (prints_wider open_ refl (then (prints_punct env (codes "(") open_is_mark) (prints_punct env (codes ")") close_is_mark))))

-- the semicolon after `do a; while (b)`, by the version
ending_chosen : (config : Config) → is_up_to_es5 config.target ≡ true → chosen (settings_of config) LoopEnding ≡ lexical.ending ∷ []
unfolding chosen
ending_chosen config e = ap (λ b. cond b (lexical.ending ∷ []) []) e

no_ending_chosen : (config : Config) → is_up_to_es5 config.target ≡ false → chosen (settings_of config) LoopEnding ≡ []
unfolding chosen
no_ending_chosen config e = ap (λ b. cond b (lexical.ending ∷ []) []) e

ending_among : (config : Config) → is_up_to_es5 config.target ≡ true → IsAmong config ending (Chosen LoopEnding)
unfolding Generates EachName is_possible is_out may_make_text names_in is_spelled_anew lexical.ending
ending_among config e = record { generates = λ ts g. g ∙ sym (ending_chosen config e); possible = refl; out = refl; makes = λ m. m; names = refl; stands = λ a b us ts g. g ∙ sym (ending_chosen config e) }

no_ending_among : (config : Config) → is_up_to_es5 config.target ≡ false → IsAmong config Nothing (Chosen LoopEnding)
unfolding Generates EachName is_possible is_out may_make_text names_in
no_ending_among config e = record { generates = λ ts g. g ∙ sym (no_ending_chosen config e); possible = refl; out = refl; makes = λ m. m; names = refl; stands = λ a b us ts g. g ∙ sym (no_ending_chosen config e) }

pub ended_same : (rest : Plan) (env : Env) → is_up_to_es5 env.config.target ≡ true → loop_ending rest env ≡ semi rest env
unfolding loop_ending
ended_same rest env e = ap (λ b. cond b (semi rest env) (rest env)) e

pub not_ended_same : (rest : Plan) (env : Env) → is_up_to_es5 env.config.target ≡ false → loop_ending rest env ≡ rest env
unfolding loop_ending
not_ended_same rest env e = ap (λ b. cond b (semi rest env) (rest env)) e

pub prints_loop_ending : {env : Env} → PrintsAt ended_if_any env loop_ending (Chosen LoopEnding)
unfolding plain_phrase
prints_loop_ending {env} = elim (cases_Bool (is_up_to_es5 env.config.target)) [
  | inl e ↦ prints_among (ending_among env.config e) (λ maps p. (ending_among env.config e).generates) (prints_same loop_ending semi (λ maps rest. ended_same rest (at_maps maps env) e) (prints_wider ended_if_any refl (prints_semi env)))
  | inr e ↦ prints_among (no_ending_among env.config e) (λ maps p. (no_ending_among env.config e).generates) (prints_same loop_ending (λ rest. rest) (λ maps rest. not_ended_same rest (at_maps maps env) e) (prints_wider ended_if_any refl prints_nothing))
]

-- the word before import attributes, by the settings
assert_is_word : IsWord (codes "assert")
unfolding is_word is_start is_part is_letter is_digit all_part chars is_utf8 lib.Utf8.encode
assert_is_word = record { utf8 = refl; ascii = refl; shape = refl }

with_is_word : IsWord (codes "with")
unfolding is_word is_start is_part is_letter is_digit all_part chars is_utf8 lib.Utf8.encode
with_is_word = record { utf8 = refl; ascii = refl; shape = refl }

assert_chosen : (config : Config) → config.emit_assert_for_import_attributes ≡ true → chosen (settings_of config) AttributesWord ≡ lexical.word (codes "assert") ∷ []
unfolding chosen
assert_chosen config e = ap (λ b. lexical.word (cond b (codes "assert") (codes "with")) ∷ []) e

with_chosen : (config : Config) → config.emit_assert_for_import_attributes ≡ false → chosen (settings_of config) AttributesWord ≡ lexical.word (codes "with") ∷ []
unfolding chosen
with_chosen config e = ap (λ b. lexical.word (cond b (codes "assert") (codes "with")) ∷ []) e

word_among : (config : Config) (t : List ℕ) → chosen (settings_of config) AttributesWord ≡ lexical.word t ∷ [] → IsAmong config (phrases.word t) (Chosen AttributesWord)
unfolding Generates EachName is_possible is_out may_make_text names_in is_spelled_anew lexical.word
word_among config t e = record { generates = λ ts g. g ∙ sym e; possible = refl; out = refl; makes = λ m. m; names = refl; stands = λ a b us ts g. g ∙ sym e }

pub assert_same : (rest : Plan) (env : Env) → env.config.emit_assert_for_import_attributes ≡ true → attributes_word rest env ≡ keyword None (codes "assert") rest env
unfolding attributes_word
assert_same rest env e = ap (λ b. cond b (keyword None (codes "assert") rest env) (keyword None (codes "with") rest env)) e

pub with_same : (rest : Plan) (env : Env) → env.config.emit_assert_for_import_attributes ≡ false → attributes_word rest env ≡ keyword None (codes "with") rest env
unfolding attributes_word
with_same rest env e = ap (λ b. cond b (keyword None (codes "assert") rest env) (keyword None (codes "with") rest env)) e

pub prints_attributes_word : {env : Env} → Prints env attributes_word (Chosen AttributesWord)
unfolding plain_phrase
prints_attributes_word {env} = elim (cases_Bool env.config.emit_assert_for_import_attributes) [
  | inl e ↦ prints_among (word_among env.config (codes "assert") (assert_chosen env.config e)) (λ maps p. (word_among env.config (codes "assert") (assert_chosen env.config e)).generates) (prints_same attributes_word (keyword None (codes "assert")) (λ maps rest. assert_same rest (at_maps maps env) e) (prints_keyword env None (codes "assert") assert_is_word))
  | inr e ↦ prints_among (word_among env.config (codes "with") (with_chosen env.config e)) (λ maps p. (word_among env.config (codes "with") (with_chosen env.config e)).generates) (prints_same attributes_word (keyword None (codes "with")) (λ maps rest. with_same rest (at_maps maps env) e) (prints_keyword env None (codes "with") with_is_word))
]
