-- Where there are neither comments nor a source text.
use Rattle.std.specs.Prelude.{◌≡◌, None}
use Rattle.swc_ecma_codegen_common.specs.declared.positions.Span.{Span}
use Rattle.swc_ecma_codegen_grammar.specs.Comments.{no_maps}
use Rattle.swc_ecma_codegen_tokens.specs.Run.{Env}

-- No comment is still to be taken, and no span has a source text.
pub record IsPlain (env : Env) : Type 0 where
  pub no_comments : env.maps ≡ no_maps
  pub no_source : (span : Span) → env.lines.snippet span ≡ None
