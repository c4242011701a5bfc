use Rattle.std.proofs.Common.{List, ap, length, sym, ℕ, ◌++◌, ◌∙◌, ◌≡◌}
use Rattle.std.specs.Char.{encode_utf8}
use Rattle.std.specs.Str.Iter.{chars_rest}
use Rattle.std.specs.String.{string_bytes}
use Rattle.swc_ecma_codegen_literals.proofs.NameRuns.{first_name, no_name}
use Rattle.swc_ecma_codegen_literals.proofs.SpelledTexts.{rest_first}
use Rattle.swc_ecma_codegen_literals.proofs.idents.push_first.Goals as goal

pub returns-in_ok-push_character-in-Some-clause-name :
    goal.returns-in_ok-push_character-in-Some-clause-name
returns-in_ok-push_character-in-Some-clause-name c =
    let e : c.args.text.now ≡ encode_utf8 c.in-Some.c ++ chars_rest c.next.new.self = sym c.chars-chars.ensures.rest ∙ c.in-Some.ensures.steps.0 in
    c.in_ok-push_character-in-Some.ensures ∙ ap (λ (x : List ℕ). string_bytes c.args.name.now ++ x) (first_name _ _ _ _ _ c.utf8.text e)

pub returns-in_ok-push_character-in-Some-clause-rest :
    goal.returns-in_ok-push_character-in-Some-clause-rest
returns-in_ok-push_character-in-Some-clause-rest c =
    let e : c.args.text.now ≡ encode_utf8 c.in-Some.c ++ chars_rest c.next.new.self = sym c.chars-chars.ensures.rest ∙ c.in-Some.ensures.steps.0 in
    rest_first _ _ _ _ c.utf8.text e c.as_str.ensures

pub returns-in-None-clause-name : goal.returns-in-None-clause-name
returns-in-None-clause-name c = no_name _ _ _ _ (ap length (sym c.chars-chars.ensures.rest) ∙ c.in-None.ensures.steps.0.0)
