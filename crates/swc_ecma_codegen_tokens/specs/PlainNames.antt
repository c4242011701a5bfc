-- Names that go the shortest way.
use Rattle.std.specs.Prelude.{◌≡◌, ℕ, true, false, List}
use Rattle.std.specs.Str.{chars}
use Rattle.swc_ecma_codegen_grammar.specs.GapRules.{fuses}
use Rattle.swc_ecma_codegen_literals.specs.ValidNames.{has_byte}
use Rattle.swc_ecma_codegen_text_writer.specs.Reach.{is_in_line}
use Rattle.swc_ecma_codegen_text_writer.specs.Sheet.{Sheet}
use Rattle.swc_ecma_codegen_tokens.specs.PreviousToken.{last_at}
use Rattle.swc_ecma_codegen_tokens.specs.Targets.{wants_escapes}
use Rattle.swc_ecma_codegen_tokens.specs.declared.LowerEmitter.{LowerEmitter}
use Rattle.swc_ecma_codegen_settings.specs.declared.config.Config.{Config}

-- A name is written as it stands in the tree, by one call: `foo`, and not `\u0061`.
pub record IsPlain (config : Config) (sheet : Sheet) (emitter : LowerEmitter) (name : List ℕ) : Type 0 where
  -- no earlier call was refused
  pub unfailed : emitter.failed ≡ false
  -- no blank is due before it
  pub passes : fuses (last_at emitter.token.value) (chars name) ≡ false
  -- it stays in its line
  pub in_line : is_in_line name ≡ true
  -- it has no backslash
  pub unescaped : has_byte 92 name ≡ false
  -- none of it is escaped for a text in ASCII
  pub as_it_is : wants_escapes config name ≡ false
  -- the writer takes names without U+0000 behind a backslash
  pub valid : sheet.keeps_invalid ≡ false
