use Rattle.std.proofs.Common.{◌≡◌, sym, ◌∙◌, ap, subst, refl}
use Rattle.std.proofs.lemmas.Str.{scalars-chars}
use Rattle.std.specs.Str.{chars, encode_utf8_all}
use Rattle.std.specs.String.{string_bytes}
use Rattle.swc_ecma_codegen_literals.specs.InlineScripts.{inline_text, marked}
use Rattle.swc_ecma_codegen_literals.specs.StringTexts.{quoted_text}
use Rattle.swc_ecma_codegen_literals.proofs.InlineQuoted.{inline_exactly, inline_value, inline_token, inline_safe, inline_ascii}
use Rattle.swc_ecma_codegen_literals.proofs.scripts.quoted_for_inline_script.Goals as goal

pub returns-in_ok-marked-in-Some-clause-exactly : goal.returns-in_ok-marked-in-Some-clause-exactly
returns-in_ok-marked-in-Some-clause-exactly c = inline_exactly _ _ _ _ _ (scalars-chars c.args.text.now c.utf8.text) c.in_ok-literal.ensures.exactly (c.in_ok-marked-in-Some.ensures ∙ ap (marked 0) c.as_str.ensures.value)

pub returns-in_ok-marked-in-Some-clause-value : goal.returns-in_ok-marked-in-Some-clause-value
returns-in_ok-marked-in-Some-clause-value c = inline_value _ _ _ _ (scalars-chars c.args.text.now c.utf8.text) (returns-in_ok-marked-in-Some-clause-exactly c)

pub returns-in_ok-marked-in-Some-clause-token : goal.returns-in_ok-marked-in-Some-clause-token
returns-in_ok-marked-in-Some-clause-token c = inline_token _ _ _ _ (scalars-chars c.args.text.now c.utf8.text) (returns-in_ok-marked-in-Some-clause-exactly c)

pub returns-in_ok-marked-in-Some-clause-safe : goal.returns-in_ok-marked-in-Some-clause-safe
returns-in_ok-marked-in-Some-clause-safe c = inline_safe _ _ _ _ (scalars-chars c.args.text.now c.utf8.text) (returns-in_ok-marked-in-Some-clause-exactly c)

pub returns-in_ok-marked-in-Some-clause-ascii : goal.returns-in_ok-marked-in-Some-clause-ascii
returns-in_ok-marked-in-Some-clause-ascii c = λ only.
    inline_ascii c.args.target (chars c.args.text.now) _ (scalars-chars c.args.text.now c.utf8.text) (subst (λ a. string_bytes c.in_ok-marked-in-Some.field-0 ≡ encode_utf8_all (inline_text (quoted_text a c.args.target (chars c.args.text.now)))) only (returns-in_ok-marked-in-Some-clause-exactly c))

pub returns-in-None-clause-exactly : goal.returns-in-None-clause-exactly
returns-in-None-clause-exactly c = inline_exactly _ _ _ _ _ (scalars-chars c.args.text.now c.utf8.text) c.in_ok-literal.ensures.exactly (sym (ap (marked 0) (sym c.as_bytes.ensures.value) ∙ (c.in-None.ensures.none refl ∙ c.as_bytes.ensures.value)))

pub returns-in-None-clause-value : goal.returns-in-None-clause-value
returns-in-None-clause-value c = inline_value _ _ _ _ (scalars-chars c.args.text.now c.utf8.text) (returns-in-None-clause-exactly c)

pub returns-in-None-clause-token : goal.returns-in-None-clause-token
returns-in-None-clause-token c = inline_token _ _ _ _ (scalars-chars c.args.text.now c.utf8.text) (returns-in-None-clause-exactly c)

pub returns-in-None-clause-safe : goal.returns-in-None-clause-safe
returns-in-None-clause-safe c = inline_safe _ _ _ _ (scalars-chars c.args.text.now c.utf8.text) (returns-in-None-clause-exactly c)

pub returns-in-None-clause-ascii : goal.returns-in-None-clause-ascii
returns-in-None-clause-ascii c = λ only.
    inline_ascii c.args.target (chars c.args.text.now) _ (scalars-chars c.args.text.now c.utf8.text) (subst (λ a. string_bytes c.in_ok-literal.literal ≡ encode_utf8_all (inline_text (quoted_text a c.args.target (chars c.args.text.now)))) only (returns-in-None-clause-exactly c))
