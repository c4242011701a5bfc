use Rattle.std.proofs.Common.{sym, ◌∙◌}
use Rattle.std.proofs.lemmas.Str.{scalars-chars}
use Rattle.std.specs.Str.{chars}
use Rattle.swc_ecma_codegen_literals.proofs.PlainTexts.{plain_literal}
use Rattle.swc_ecma_codegen_literals.proofs.QuotedTexts.{literal_value, literal_is_string, literal_ascii}
use Rattle.swc_ecma_codegen_literals.proofs.strings.quoted_utf16.Goals as goal

pub returns-then-is_plain-clause-exactly : goal.returns-then-is_plain-clause-exactly
returns-then-is_plain-clause-exactly c =
    plain_literal c.args.ascii_only c.args.target c.args.text.now _ c.utf8.text (sym c.is_plain.ensures ∙ c.if-is_plain.true) c.in_ok-plain_literal.ensures

pub returns-then-is_plain-clause-value : goal.returns-then-is_plain-clause-value
returns-then-is_plain-clause-value c = literal_value _ _ _ _ (scalars-chars c.args.text.now c.utf8.text) (returns-then-is_plain-clause-exactly c)

pub returns-then-is_plain-clause-token : goal.returns-then-is_plain-clause-token
returns-then-is_plain-clause-token c = literal_is_string _ _ _ _ (scalars-chars c.args.text.now c.utf8.text) (returns-then-is_plain-clause-exactly c)

pub returns-then-is_plain-clause-ascii : goal.returns-then-is_plain-clause-ascii
returns-then-is_plain-clause-ascii c = λ only. literal_ascii c.args.ascii_only c.args.target (chars c.args.text.now) _ only (scalars-chars c.args.text.now c.utf8.text) (returns-then-is_plain-clause-exactly c)

pub returns-clause-value : goal.returns-clause-value
returns-clause-value c = literal_value c.args.ascii_only c.args.target _ _ (scalars-chars c.args.text.now c.utf8.text) c.in_ok-spelled_literal.ensures

pub returns-clause-token : goal.returns-clause-token
returns-clause-token c = literal_is_string c.args.ascii_only c.args.target _ _ (scalars-chars c.args.text.now c.utf8.text) c.in_ok-spelled_literal.ensures

pub returns-clause-ascii : goal.returns-clause-ascii
returns-clause-ascii c = λ only. literal_ascii c.args.ascii_only c.args.target (chars c.args.text.now) _ only (scalars-chars c.args.text.now c.utf8.text) c.in_ok-spelled_literal.ensures
