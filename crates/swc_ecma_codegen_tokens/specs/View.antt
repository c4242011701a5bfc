-- Where a lower emitter stands.
use Rattle.swc_ecma_codegen_settings.specs.declared.config.Config.{Config}
use Rattle.swc_ecma_codegen_grammar.specs.SourceLines.{Lines, no_lines}
use Rattle.swc_ecma_codegen_grammar.specs.CommentMaps.{Maps}
use Rattle.swc_ecma_codegen_grammar.specs.Comments.{no_maps}
use Rattle.swc_ecma_codegen_text_writer.specs.Sheet.{Sheet}
use Rattle.swc_ecma_codegen_tokens.specs.declared.LowerEmitter.{LowerEmitter}
use Rattle.swc_ecma_codegen_tokens.specs.PreviousToken.{last_at}
use Rattle.swc_ecma_codegen_tokens.specs.Run.{Env, State, unlined}

-- what an emission over a sheet goes by
abbrev pub env_of : Lines → Maps → Config → Sheet → Env
env_of lines maps config sheet = record { config = unlined config; max_line = config.max_line; keeps_invalid = sheet.keeps_invalid; lines = lines; maps = maps }

-- where a lower emitter stands, over a sheet and under some settings; it knows of no source text and no comments
abbrev pub state_of : Config → Sheet → LowerEmitter → State
state_of config sheet e = record { env = env_of no_lines no_maps config sheet; sheet = sheet; last = last_at e.token.value; failed = e.failed }
