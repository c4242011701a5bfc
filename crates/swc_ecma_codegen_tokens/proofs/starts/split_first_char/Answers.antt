use Rattle.std.proofs.Common.{◌≡◌, ◌++◌, encode_utf8, sym, ap, ◌∙◌}
use Rattle.std.proofs.lemmas.List.{nil_from_length}
use Rattle.std.proofs.lemmas.Str.{chars_past_char, chars-nil}
use Rattle.std.specs.Str.{chars}
use Rattle.swc_ecma_codegen_tokens.proofs.starts.split_first_char.Goals as goal

pub returns-in-Some : goal.returns-in-Some
returns-in-Some c =
    let first = c.in-Some.first in
    let rest = c.as_str.result.now in
    let parts : c.args.text.now ≡ encode_utf8 first ++ rest =
    sym c.chars-chars.ensures.rest ∙ (c.in-Some.ensures.steps.0 ∙ ap (λ t. encode_utf8 first ++ t) (sym c.as_str.ensures)) in
    chars_past_char c.args.text.now rest first c.utf8.text parts

pub returns-in-None : goal.returns-in-None
returns-in-None c = ap chars (sym c.chars-chars.ensures.rest ∙ nil_from_length _ c.in-None.ensures.steps.0.0) ∙ chars-nil
