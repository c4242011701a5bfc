use Rattle.std.proofs.Common.{List, ap, subst, sym, ℕ, ◌++◌, ◌∙◌, ◌≡◌}
use Rattle.std.specs.Str.{IsAscii}
use Rattle.std.specs.String.{string_bytes}
use Rattle.swc_ecma_codegen_literals.specs.BigIntegers.{big_text}
use Rattle.swc_ecma_codegen_literals.specs.Separators.{without_underscores}
use Rattle.swc_ecma_codegen_literals.proofs.BigTokens.{big_ascii, three_written}
use Rattle.swc_ecma_codegen_literals.proofs.big_integers.big_integer_text.Goals as goal

pub returns-clause-exactly : goal.returns-clause-exactly
unfolding big_text
returns-clause-exactly c =
    let sign = c.in_ok-push_str.ensures.bytes ∙ ap (λ (x : List ℕ). string_bytes c.new-text.result ++ x) c.sign_of.ensures in
    let prefix = c.in_ok-push_str-2.ensures.bytes ∙ ap (λ (x : List ℕ). string_bytes c.push_str.new.self ++ x) c.prefix.ensures in
    let text : c.as_str-2.result.now ≡ without_underscores (string_bytes c.args.number.now.digits) = c.as_str-2.ensures.value ∙ (c.in_ok-digits.ensures.exactly ∙ ap without_underscores c.as_str.ensures.value) in
    let digits = c.in_ok-push_str-3.ensures.bytes ∙ ap (λ (x : List ℕ). string_bytes c.push_str-2.new.self ++ x) text in
    three_written _ _ _ _ _ _ _ c.new-text.ensures.bytes sign prefix digits

pub returns-clause-ascii : goal.returns-clause-ascii
returns-clause-ascii c = λ ascii. subst (λ (x : List ℕ). IsAscii x) (sym (returns-clause-exactly c)) (big_ascii c.args.number.now ascii)
