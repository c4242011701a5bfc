-- What a call adds to the tokens so far, told by where a lower emitter stands before it and after it.
use Rattle.std.specs.Prelude.{◌≡◌, ◌==◌, ◌&&◌, ◌||◌, ℕ, Bool, true, false, not, if◌then◌else◌, List, [], ◌∷◌, ◌++◌, codes, Result, OnOk}
use Rattle.std.specs.Str.{chars}
use Rattle.swc_ecma_codegen_common.specs.declared.errors.Refusal.{Refusal}
use Rattle.swc_ecma_codegen_common.specs.declared.positions.Span.{Span}
use Rattle.swc_ecma_codegen_settings.specs.declared.config.Config.{Config}
use Rattle.swc_ecma_codegen_grammar.specs.declared.kinds.Kind.TheVariants.{BigInt, Number}
use Rattle.swc_ecma_codegen_grammar.specs.CommentMaps.{Maps}
use Rattle.swc_ecma_codegen_grammar.specs.Comments.{AreClosed}
use Rattle.swc_ecma_codegen_grammar.specs.Phrases.{Phrase, Generates, is_possible}
use Rattle.swc_ecma_codegen_grammar.specs.ListFormats.{comma_delimited, bar_delimited, ampersand_delimited, allows_trailing_comma, forces_trailing_comma}
use Rattle.swc_ecma_codegen_grammar.specs.SourceLines.{Lines, no_lines}
use Rattle.swc_ecma_codegen_grammar.specs.SpelledNames.{is_well_formed_name}
use Rattle.swc_ecma_codegen_grammar.specs.Tokens.{Token, token_of, punctuator}
use Rattle.swc_ecma_codegen_grammar.specs.Trivia.{Remark}
use Rattle.swc_ecma_codegen_text_writer.specs.Sheet.{Sheet}
use Rattle.swc_ecma_codegen_tokens.specs.declared.LowerEmitter.{LowerEmitter}
use Rattle.swc_ecma_codegen_tokens.specs.Lists.{may_have_comma, source_has_comma}
use Rattle.swc_ecma_codegen_tokens.specs.Run.{Part}
use Rattle.swc_ecma_codegen_tokens.specs.Settings.{settings_of}
use Rattle.swc_ecma_codegen_tokens.specs.View.{env_of, state_of}
use Rattle.swc_ecma_codegen_tokens.specs.Words.{name}
use Rattle.swc_ecma_codegen_tokens.specs.Written.{Spot, Anything, ReadsSoFar, ReadsSoFarAt, name_tokens, taken_remarks}

-- A call that is answered `Ok` adds these tokens: what reads as the tokens so far reads as those and these, whatever goes on after them.
-- They stand where this may come next, and leave what that lets come next.
abbrev pub AddsOn : Spot → Spot → List Token → Config → Sheet → LowerEmitter → Sheet → LowerEmitter → Result (Unit {0}) Refusal → Type 0
AddsOn before behind ts config a e b f result =
    (old : List ℕ) (tokens : List Token) (remarks : List Remark) → ReadsSoFarAt before old tokens remarks (state_of config a e)
    → OnOk result (ReadsSoFarAt behind old (tokens ++ ts) remarks (state_of config b f))

-- where any token may come, before them and behind them
abbrev pub Adds : List Token → Config → Sheet → LowerEmitter → Sheet → LowerEmitter → Result (Unit {0}) Refusal → Type 0
Adds ts config a e b f result = AddsOn Anything Anything ts config a e b f result

-- One of the token lists that a phrase has.
abbrev pub AddsList : Phrase → Config → Sheet → LowerEmitter → Sheet → LowerEmitter → Result (Unit {0}) Refusal → Type 0
AddsList phrase config a e b f result =
    (old : List ℕ) (tokens : List Token) (remarks : List Remark) → is_possible phrase ≡ true → ReadsSoFar old tokens remarks (state_of config a e)
    → OnOk result ((ts : List Token) × Generates (settings_of config) phrase ts × ReadsSoFar old (tokens ++ ts) remarks (state_of config b f))

-- The same by a part that takes comments out of these maps, which stand behind those so far.
abbrev pub AddsTakingOn : Spot → Spot → Phrase → Part → Maps → Config → Sheet → LowerEmitter → Sheet → LowerEmitter → Result (Unit {0}) Refusal → Type 0
AddsTakingOn before behind phrase part maps config a e b f result =
    (old : List ℕ) (tokens : List Token) (remarks : List Remark) → AreClosed maps → is_possible phrase ≡ true → ReadsSoFarAt before old tokens remarks (state_of config a e)
    → OnOk result ((ts : List Token) × Generates (settings_of config) phrase ts × ReadsSoFarAt behind old (tokens ++ ts) (remarks ++ taken_remarks part (env_of no_lines maps config a)) (state_of config b f))

abbrev pub AddsTaking : Phrase → Part → Maps → Config → Sheet → LowerEmitter → Sheet → LowerEmitter → Result (Unit {0}) Refusal → Type 0
AddsTaking phrase part maps config a e b f result = AddsTakingOn Anything Anything phrase part maps config a e b f result

-- A call adds a well-formed name, behind the comments before it, which it takes out of these maps.
abbrev pub AddsName : Span → List ℕ → Bool → Maps → Config → Sheet → LowerEmitter → Sheet → LowerEmitter → Result (Unit {0}) Refusal → Type 0
AddsName span sym optional maps config a e b f result =
    (old : List ℕ) (tokens : List Token) (remarks : List Remark) → AreClosed maps → is_well_formed_name sym ≡ true → a.keeps_invalid ≡ false → ReadsSoFar old tokens remarks (state_of config a e)
    → OnOk result (ReadsSoFar old (tokens ++ name_tokens sym optional) (remarks ++ taken_remarks (name span sym optional) (env_of no_lines maps config a)) (state_of config b f))

-- the tokens of a number that may have a sign: `-5` is two
unfoldable pub tokens_of_number : List ℕ → List Token
tokens_of_number [] = []
tokens_of_number (c ∷ cs) = if c == 45 then punctuator (codes "-") ∷ token_of Number (chars cs) ∷ [] else token_of Number (chars (c ∷ cs)) ∷ []

-- the tokens of a big integer by its digits, which may have a sign: its suffix is still to come
unfoldable pub tokens_of_digits : List ℕ → List Token
tokens_of_digits [] = []
tokens_of_digits (c ∷ cs) =
    if c == 45 then punctuator (codes "-") ∷ token_of BigInt (chars cs ++ codes "n") ∷ []
    else token_of BigInt (chars (c ∷ cs) ++ codes "n") ∷ []

-- a sign where there is one
unfoldable pub sign_tokens : Bool → List Token
sign_tokens negative = if negative then punctuator (codes "-") ∷ [] else []

-- the token between two children of a list: in `a, b` a comma, in `A | B` a bar, between statements none
unfoldable pub tokens_between : ℕ → List Token
tokens_between format =
    if comma_delimited format then punctuator (codes ",") ∷ []
    else (if bar_delimited format then punctuator (codes "|") ∷ []
    else (if ampersand_delimited format then punctuator (codes "&") ∷ [] else []))

-- a comma where there is one
unfoldable pub comma_tokens : Bool → List Token
comma_tokens there = if there then punctuator (codes ",") ∷ [] else []

-- The source text of a list that stands somewhere has a trailing comma.
abbrev pub stands_with_comma : Lines → Span → Bool
stands_with_comma lines parent = not (parent.lo.0 == 0) && source_has_comma (lines.snippet parent)

-- A trailing comma is wanted: `[a, , ]` has one for its hole, `[a, ] = b` has one where its source text has it.
abbrev pub wants_comma : Lines → ℕ → Span → Bool
wants_comma lines format parent = forces_trailing_comma format || (allows_trailing_comma format && stands_with_comma lines parent)

-- A list ends with one.
abbrev pub ends_with_comma : Lines → Config → ℕ → Span → Bool
ends_with_comma lines config format parent = may_have_comma format config && wants_comma lines format parent
