-- What a map of a source text answers.
use Rattle.std.specs.Prelude.{ℕ, Bool, false, List, Option, None}
use Rattle.swc_ecma_codegen_common.specs.declared.positions.BytePos.{BytePos}
use Rattle.swc_ecma_codegen_common.specs.declared.positions.Span.{Span}

pub record Lines : Type 0 where
  -- two positions stand on one line
  pub same_line : BytePos → BytePos → Bool
  -- the source text of a span, where it is known
  pub snippet : Span → Option (List ℕ)

-- No source text is known: no two positions stand on one line, and no span has a text.
abbrev pub no_lines : Lines
no_lines = record { same_line = λ left right. false; snippet = λ span. None }
