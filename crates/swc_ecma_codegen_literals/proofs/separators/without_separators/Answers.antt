use Rattle.std.proofs.Common.{List, ap, subst, sym, ℕ, ◌∙◌, ◌≡◌}
use Rattle.std.specs.Str.{IsAscii, chars}
use Rattle.swc_ecma_codegen_literals.specs.Separators.{without_underscores}
use Rattle.swc_ecma_codegen_literals.proofs.SeparatedTexts.{ascii_without, chars_without, collected_bytes, none_without, worth_by_characters}
use Rattle.swc_ecma_codegen_literals.proofs.separators.without_separators.Goals as goal

pub returns-in_ok-without_underscores-clause-exactly :
    goal.returns-in_ok-without_underscores-clause-exactly
returns-in_ok-without_underscores-clause-exactly c = c.in_ok-without_underscores.ensures ∙ collected_bytes c.args.spelling.now c.utf8.spelling

pub returns-in_ok-without_underscores-clause-characters :
    goal.returns-in_ok-without_underscores-clause-characters
returns-in_ok-without_underscores-clause-characters c = ap chars (returns-in_ok-without_underscores-clause-exactly c) ∙ chars_without c.args.spelling.now c.utf8.spelling

pub returns-in_ok-without_underscores-clause-worth :
    goal.returns-in_ok-without_underscores-clause-worth
returns-in_ok-without_underscores-clause-worth c = worth_by_characters c.args.spelling.now _ c.utf8.spelling (returns-in_ok-without_underscores-clause-exactly c)

pub returns-in_ok-without_underscores-clause-ascii :
    goal.returns-in_ok-without_underscores-clause-ascii
returns-in_ok-without_underscores-clause-ascii c = λ ascii. subst (λ (x : List ℕ). IsAscii x) (sym (returns-in_ok-without_underscores-clause-exactly c)) (ascii_without c.args.spelling.now ascii)

pub returns-else-holds_underscore-clause-exactly :
    goal.returns-else-holds_underscore-clause-exactly
returns-else-holds_underscore-clause-exactly c = sym (none_without c.args.spelling.now (sym c.holds_underscore.ensures ∙ c.if-holds_underscore.false))

pub returns-else-holds_underscore-clause-characters :
    goal.returns-else-holds_underscore-clause-characters
returns-else-holds_underscore-clause-characters c =
    let same : without_underscores c.args.spelling.now ≡ c.args.spelling.now = none_without c.args.spelling.now (sym c.holds_underscore.ensures ∙ c.if-holds_underscore.false) in
    ap chars (sym same) ∙ chars_without c.args.spelling.now c.utf8.spelling
