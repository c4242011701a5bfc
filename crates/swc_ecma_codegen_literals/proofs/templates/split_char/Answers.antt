use Rattle.std.proofs.Common.{sym, ◌∙◌, ap, ◌∷◌, List, ℕ}
use Rattle.std.specs.Str.{chars}
use Rattle.std.proofs.lemmas.Str.{chars_past_char}
use Rattle.swc_ecma_codegen_literals.proofs.templates.split_char.Goals as goal

pub returns-clause-chars : goal.returns-clause-chars
returns-clause-chars c =
    chars_past_char _ _ c.in_ok-c.c c.utf8.text (sym c.chars-chars.ensures.rest ∙ c.in_ok-c.ensures.steps.0) ∙ ap (λ (x : List ℕ). c.in_ok-c.c ∷ chars x) (sym c.as_str.ensures)
