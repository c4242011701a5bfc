use Rattle.std.proofs.Common.{sym, ◌∙◌, ap, ◌++◌}
use Rattle.std.specs.Char.{encode_utf8}
use Rattle.std.proofs.lemmas.Str.{chars_past_char}
use Rattle.swc_ecma_codegen_emit.proofs.commented.split_first.Goals as goal

pub returns-clause-some : goal.returns-clause-some
returns-clause-some c = chars_past_char _ _ _ c.utf8.text (sym c.chars-chars.ensures.rest ∙ (c.in_ok-c.ensures.steps.0 ∙ ap (λ x. encode_utf8 c.in_ok-c.c ++ x) (sym c.as_str.ensures)))
