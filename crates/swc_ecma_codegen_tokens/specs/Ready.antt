-- When the emission of a tree comes to its end, in what a caller sees: the tree, and the sheet before and after.
use Rattle.swc_ecma_codegen_text_writer.specs.Sheet.{may_take_memory}
use Rattle.std.specs.Prelude.{◌≡◌, ℕ, ◌+◌, ◌-◌, ◌^◌, ◌<◌, true, false}
use Rattle.swc_ecma_codegen_grammar.specs.Phrases.{Phrase, Never, Nothing, One, NameOf, KeyOf, PrivateOf, TagNameOf, Then, CommaBefore, OptionalParentheses, Chosen, EmptyArguments, LoopEnding, AttributesWord, is_possible}
use Rattle.swc_ecma_codegen_settings.specs.declared.config.Config.{Config}
use Rattle.swc_ecma_codegen_tokens.specs.Escapes.{may_make_text}
use Rattle.swc_ecma_codegen_tokens.specs.Run.{State, is_bounded}

-- how many tokens the lists of a phrase have at most
unfoldable pub token_count : Phrase → ℕ
token_count Never = 0
token_count Nothing = 0
token_count (One x) = 1
token_count (NameOf at bytes) = 1
token_count (KeyOf at bytes) = 1
token_count (PrivateOf bytes) = 1
token_count (TagNameOf at bytes) = 1
token_count (Then a b) = token_count a + token_count b
token_count (CommaBefore close) = 2
token_count (OptionalParentheses round a) = token_count a + 2
token_count (Chosen EmptyArguments) = 2
token_count (Chosen LoopEnding) = 1
token_count (Chosen AttributesWord) = 1

-- A tree can be printed under some settings, at a level of indentation, without memory of its own: it is well-formed, no
-- text of it is made anew, and the level and its tokens together stay in the limit, since no tree has more levels than tokens.
pub record IsPlainTree (config : Config) (phrase : Phrase) (level : ℕ) : Type 0 where
  pub well_formed : is_possible phrase ≡ true
  pub no_text_made : may_make_text config phrase ≡ false
  pub has_room : level + token_count phrase < 2 ^ 32

-- An emission can go on: nothing was refused, no call of the writer takes memory, it keeps no positions, lines aren't bounded, U+0000 after a
-- backslash is left out of names, and the count of faults isn't at its last value.
pub record IsReady (s : State) : Type 0 where
  pub none_failed : s.failed ≡ false
  pub none_refused : s.sheet.refused ≡ false
  pub no_memory : may_take_memory s.sheet ≡ false
  pub no_positions : s.sheet.keeps_positions ≡ false
  pub unbounded : is_bounded s.env ≡ false
  pub leaves_out : s.env.keeps_invalid ≡ false
  pub can_count : s.sheet.faults < 2 ^ 64 - 1
