use Rattle.std.proofs.Common.{◌≡◌, sym, ◌∙◌, ap, ◌++◌, List, ℕ, length}
use Rattle.std.specs.Char.{encode_utf8}
use Rattle.std.specs.Str.Iter.{chars_rest}
use Rattle.std.specs.String.{string_bytes}
use Rattle.swc_ecma_codegen_literals.proofs.SpelledTexts.{escape_first, rest_first, no_escape}
use Rattle.swc_ecma_codegen_literals.proofs.strings.push_first_escape.Goals as goal

pub returns-in_ok-push_escape-in-Some-clause-literal :
    goal.returns-in_ok-push_escape-in-Some-clause-literal
returns-in_ok-push_escape-in-Some-clause-literal c =
    let e : c.args.text.now ≡ encode_utf8 c.in-Some.c ++ chars_rest c.next.new.self = sym c.chars-chars.ensures.rest ∙ c.in-Some.ensures.steps.0 in
    c.in_ok-push_escape-in-Some.ensures ∙ ap (λ (x : List ℕ). string_bytes c.args.literal.now ++ x) (escape_first _ _ _ _ _ c.utf8.text e c.as_str.ensures)

pub returns-in_ok-push_escape-in-Some-clause-rest :
    goal.returns-in_ok-push_escape-in-Some-clause-rest
returns-in_ok-push_escape-in-Some-clause-rest c =
    let e : c.args.text.now ≡ encode_utf8 c.in-Some.c ++ chars_rest c.next.new.self = sym c.chars-chars.ensures.rest ∙ c.in-Some.ensures.steps.0 in
    rest_first _ _ _ _ c.utf8.text e c.as_str-in-Some.ensures

pub returns-in-None-clause-literal : goal.returns-in-None-clause-literal
returns-in-None-clause-literal c = no_escape _ _ _ (ap length (sym c.chars-chars.ensures.rest) ∙ c.in-None.ensures.steps.0.0)
