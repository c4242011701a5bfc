use Rattle.std.proofs.Common.{◌≡◌, ◌∙◌, ap, ◌++◌, List, ℕ, subst}
use Rattle.std.proofs.lemmas.Str.{scalars-chars}
use Rattle.std.specs.Str.{chars, encode_utf8_all}
use Rattle.std.specs.String.{string_bytes}
use Rattle.swc_ecma_codegen_literals.specs.TemplateTexts.{template_text}
use Rattle.swc_ecma_codegen_grammar.specs.TemplateValues.{cooked_value}
use Rattle.swc_ecma_codegen_literals.proofs.TemplateChars.{text_chars, text_ascii}
use Rattle.swc_ecma_codegen_literals.proofs.TemplateCooks.{text_value}
use Rattle.swc_ecma_codegen_literals.proofs.TemplateParts.{value_inside}
use Rattle.swc_ecma_codegen_literals.proofs.templates.template_from_raw.Goals as goal

pub returns-clause-exactly : goal.returns-clause-exactly
unfolding template_text
returns-clause-exactly c =
    c.in_ok-push_spelled.ensures ∙ ap (λ (x : List ℕ). x ++ encode_utf8_all (template_text c.args.ascii_only (chars c.args.raw.now))) c.in_ok-text.ensures.bytes

pub returns-clause-cooked : goal.returns-clause-cooked
returns-clause-cooked c = λ units e.
    let s = scalars-chars c.args.raw.now c.utf8.raw in
    ap (λ (x : List ℕ). cooked_value x) (text_chars _ _ _ s (returns-clause-exactly c)) ∙ text_value c.args.ascii_only (chars c.args.raw.now) units s e

pub returns-clause-part : goal.returns-clause-part
returns-clause-part c = λ units e. value_inside _ units (returns-clause-cooked c units e)

pub returns-clause-ascii : goal.returns-clause-ascii
returns-clause-ascii c = λ only.
    let s = scalars-chars c.args.raw.now c.utf8.raw in
    text_ascii (chars c.args.raw.now) _ s (subst (λ a. string_bytes c.push_spelled.new.text ≡ encode_utf8_all (template_text a (chars c.args.raw.now))) only (returns-clause-exactly c))
