-- What two emissions of one tree write.
use Rattle.std.specs.Prelude.{◌≡◌, List}
use Rattle.swc_ecma_codegen_grammar.specs.Layouts.{Alongside}
use Rattle.swc_ecma_codegen_grammar.specs.Phrases.{Phrase}
use Rattle.swc_ecma_codegen_grammar.specs.Trivia.{Remark}
use Rattle.swc_ecma_codegen_tokens.specs.Settings.{settings_of}
use Rattle.swc_ecma_codegen_tokens.specs.Written.{AddsReading}
use Rattle.swc_ecma_codegen_text_writer.specs.Sheet.{Sheet}
use Rattle.swc_ecma_codegen_settings.specs.declared.config.Config.{Config}

-- What the text of b is longer by than that of a reads as a list of this phrase, and what that of d is longer by than that of c as another: of the
-- same tokens with the same values, but for what the phrase leaves open.
pub record AddTokensAlike (config : Config) (phrase : Phrase) (first second : List Remark) (a b c d : Sheet) : Type 0 where
  pub one : AddsReading config phrase first a b
  pub other : AddsReading config phrase second c d
  pub alike : Alongside (settings_of config) (settings_of config) phrase one.reading.tokens other.reading.tokens

-- The two read as one list, with these comments between the tokens of both.
pub record AddOneList (config : Config) (phrase : Phrase) (remarks : List Remark) (a b c d : Sheet) : Type 0 where
  pub one : AddsReading config phrase remarks a b
  pub other : AddsReading config phrase remarks c d
  pub same : one.reading.tokens ≡ other.reading.tokens
