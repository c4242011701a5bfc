-- Phrases that no tree has, and what is said where a phrase is possible.
use Rattle.std.proofs.Common.{◌≡◌, ◌∙◌, sym, refl, ap, ℕ, Bool, true, false, ◌&&◌, ◌||◌, List, ◌++◌, append-nil, subst}
use Rattle.std.proofs.lemmas.Bool.{true≢false}
use Rattle.swc_ecma_codegen_grammar.specs.Tokens as lexical
use Rattle.swc_ecma_codegen_settings.specs.declared.config.Config.{Config}
use Rattle.swc_ecma_codegen_grammar.specs.Phrases.{Phrase, Never, Nothing, ◌>◌, mark, Generates, is_possible, names_in}
use Rattle.swc_ecma_codegen_grammar.specs.PlainPhrases.{plain_phrase}
use Rattle.swc_ecma_codegen_grammar.specs.FunctionPhrases.{is_never}
use Rattle.swc_ecma_codegen_tokens.specs.Escapes.{is_spelled_anew, may_make_text}
use Rattle.swc_ecma_codegen_tokens.specs.Named.{EachName}
use Rattle.swc_ecma_codegen_tokens.proofs.Filling.CutStanding.{AllHere}
use Rattle.swc_ecma_codegen_tokens.specs.Run.{Env, Part}
use Rattle.swc_ecma_codegen_tokens.specs.Targets.{is_out}
use Rattle.swc_ecma_codegen_tokens.proofs.Reading.Choices.{IsAmong, prints_among}
use Rattle.swc_ecma_codegen_tokens.proofs.Reading.Phrased.{PrintsAt}
use Rattle.swc_ecma_codegen_tokens.proofs.Filling.Shapes.{Shape}

-- whatever is written, no tree is written so
pub prints_impossible : {i : Shape} {env : Env} {p : Part} {f : Phrase} → is_possible f ≡ false → PrintsAt i env p f
prints_impossible none = record {
  where_possible = λ w o. absurd (true≢false (sym w ∙ none));
  where_out = λ w o. absurd (true≢false (sym w ∙ none));
}

-- only of a phrase that is possible is anything said
pub if_possible : {i : Shape} {env : Env} {p : Part} {f : Phrase} → (is_possible f ≡ true → PrintsAt i env p f) → PrintsAt i env p f
if_possible h = record { where_possible = λ w o. (h w).where_possible w o; where_out = λ w o rest. (h w).where_out w o rest }

pub never_impossible : (f : Phrase) → is_never f ≡ true → is_possible f ≡ false
unfolding is_never is_possible
never_impossible Never h = refl
never_impossible f h = absurd (true≢false (sym h))

or_false : (b : Bool) → (b || false) ≡ b
or_false true = refl
or_false false = refl

and_true : (b : Bool) → (b && true) ≡ b
and_true true = refl
and_true false = refl

-- a mark and a phrase that end a list are that mark and that phrase
last_among : (config : Config) (t : List ℕ) (f : Phrase) → IsAmong config (mark t > f > Nothing) (mark t > f)
unfolding Generates EachName is_possible is_out may_make_text names_in is_spelled_anew lexical.punctuator
last_among config t f = record {
  generates = λ ts g. (g.0, g.1, g.2, subst (λ z. Generates _ f z) (sym (g.3.4 ∙ ap (λ z. g.3.0 ++ z) g.3.3 ∙ append-nil g.3.0)) g.3.2, g.4);
  possible = and_true (is_possible f);
  out = or_false (is_out config f);
  makes = λ e. sym (or_false (may_make_text config f)) ∙ e;
  names = append-nil (names_in f);
  stands = λ a b us ts g. (g.0, g.1, g.2, subst (λ z. AllHere config a b (us ++ g.0) f z) (sym (g.3.4 ∙ ap (λ z. g.3.0 ++ z) g.3.3 ∙ append-nil g.3.0)) g.3.2, g.4);
}

pub prints_last : {i : Shape} {env : Env} {p : Part} (t : List ℕ) {f : Phrase} → PrintsAt i env p (mark t > f > Nothing) → PrintsAt i env p (mark t > f)
unfolding plain_phrase
prints_last {env = env} t {f} h = prints_among (last_among env.config t f) (λ maps e. (last_among env.config t (plain_phrase env.config.minify f)).generates) h
