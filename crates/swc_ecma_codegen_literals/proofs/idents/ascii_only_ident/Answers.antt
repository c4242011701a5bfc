use Rattle.std.proofs.Common.{sym, ◌∙◌}
use Rattle.std.proofs.lemmas.Bool.{false≢true}
use Rattle.swc_ecma_codegen_literals.proofs.NameTexts.{ascii_answer, quoted_answer, escaped_answer, in_target}
use Rattle.swc_ecma_codegen_literals.proofs.idents.ascii_only_ident.Goals as goal

pub returns-in_err-from_str-clause-out_of_target : goal.returns-in_err-from_str-clause-out_of_target
returns-in_err-from_str-clause-out_of_target c = λ out. absurd (false≢true (sym (in_target _ _ _ c.if-is_ascii.ensures.cases) ∙ out))

pub returns-then-is_ascii-clause-out_of_target : goal.returns-then-is_ascii-clause-out_of_target
returns-then-is_ascii-clause-out_of_target c = λ out. absurd (false≢true (sym (in_target _ _ _ c.if-is_ascii.ensures.cases) ∙ out))

pub returns-then-is_ascii-clause-exactly : goal.returns-then-is_ascii-clause-exactly
returns-then-is_ascii-clause-exactly c = (ascii_answer c.args.may_be_quoted c.args.target c.args.text.now _ c.if-is_ascii.ensures.cases c.in_ok-from_str.ensures.ok).exactly

pub returns-then-is_ascii-clause-key : goal.returns-then-is_ascii-clause-key
returns-then-is_ascii-clause-key c = (ascii_answer c.args.may_be_quoted c.args.target c.args.text.now _ c.if-is_ascii.ensures.cases c.in_ok-from_str.ensures.ok).key_value

pub returns-then-is_ascii-clause-token : goal.returns-then-is_ascii-clause-token
returns-then-is_ascii-clause-token c = (ascii_answer c.args.may_be_quoted c.args.target c.args.text.now _ c.if-is_ascii.ensures.cases c.in_ok-from_str.ensures.ok).token

pub returns-then-is_better_quoted-clause-exactly : goal.returns-then-is_better_quoted-clause-exactly
returns-then-is_better_quoted-clause-exactly c = (quoted_answer c.args.may_be_quoted c.args.target c.args.text.now _ c.utf8.text c.if-is_ascii.ensures.cases (sym c.is_better_quoted.ensures ∙ c.if-is_better_quoted.true) c.in_ok-quoted_key.ensures).exactly

pub returns-then-is_better_quoted-clause-name : goal.returns-then-is_better_quoted-clause-name
returns-then-is_better_quoted-clause-name c = (quoted_answer c.args.may_be_quoted c.args.target c.args.text.now _ c.utf8.text c.if-is_ascii.ensures.cases (sym c.is_better_quoted.ensures ∙ c.if-is_better_quoted.true) c.in_ok-quoted_key.ensures).name

pub returns-then-is_better_quoted-clause-value : goal.returns-then-is_better_quoted-clause-value
returns-then-is_better_quoted-clause-value c = (quoted_answer c.args.may_be_quoted c.args.target c.args.text.now _ c.utf8.text c.if-is_ascii.ensures.cases (sym c.is_better_quoted.ensures ∙ c.if-is_better_quoted.true) c.in_ok-quoted_key.ensures).value

pub returns-then-is_better_quoted-clause-key : goal.returns-then-is_better_quoted-clause-key
returns-then-is_better_quoted-clause-key c = (quoted_answer c.args.may_be_quoted c.args.target c.args.text.now _ c.utf8.text c.if-is_ascii.ensures.cases (sym c.is_better_quoted.ensures ∙ c.if-is_better_quoted.true) c.in_ok-quoted_key.ensures).key_value

pub returns-then-is_better_quoted-clause-token : goal.returns-then-is_better_quoted-clause-token
returns-then-is_better_quoted-clause-token c = (quoted_answer c.args.may_be_quoted c.args.target c.args.text.now _ c.utf8.text c.if-is_ascii.ensures.cases (sym c.is_better_quoted.ensures ∙ c.if-is_better_quoted.true) c.in_ok-quoted_key.ensures).token

pub returns-then-is_better_quoted-clause-ascii : goal.returns-then-is_better_quoted-clause-ascii
returns-then-is_better_quoted-clause-ascii c = (quoted_answer c.args.may_be_quoted c.args.target c.args.text.now _ c.utf8.text c.if-is_ascii.ensures.cases (sym c.is_better_quoted.ensures ∙ c.if-is_better_quoted.true) c.in_ok-quoted_key.ensures).ascii

pub returns-clause-exactly : goal.returns-clause-exactly
returns-clause-exactly c = (escaped_answer c.args.may_be_quoted c.args.target c.args.text.now _ c.utf8.text c.if-is_ascii.ensures.cases (sym c.is_better_quoted.ensures ∙ c.if-is_better_quoted.false) (sym c.is_out_of_target.ensures ∙ c.if-is_out_of_target.false) c.in_ok-escaped_name.ensures).exactly

pub returns-clause-name : goal.returns-clause-name
returns-clause-name c = (escaped_answer c.args.may_be_quoted c.args.target c.args.text.now _ c.utf8.text c.if-is_ascii.ensures.cases (sym c.is_better_quoted.ensures ∙ c.if-is_better_quoted.false) (sym c.is_out_of_target.ensures ∙ c.if-is_out_of_target.false) c.in_ok-escaped_name.ensures).name

pub returns-clause-value : goal.returns-clause-value
returns-clause-value c = (escaped_answer c.args.may_be_quoted c.args.target c.args.text.now _ c.utf8.text c.if-is_ascii.ensures.cases (sym c.is_better_quoted.ensures ∙ c.if-is_better_quoted.false) (sym c.is_out_of_target.ensures ∙ c.if-is_out_of_target.false) c.in_ok-escaped_name.ensures).value

pub returns-clause-key : goal.returns-clause-key
returns-clause-key c = (escaped_answer c.args.may_be_quoted c.args.target c.args.text.now _ c.utf8.text c.if-is_ascii.ensures.cases (sym c.is_better_quoted.ensures ∙ c.if-is_better_quoted.false) (sym c.is_out_of_target.ensures ∙ c.if-is_out_of_target.false) c.in_ok-escaped_name.ensures).key_value

pub returns-clause-token : goal.returns-clause-token
returns-clause-token c = (escaped_answer c.args.may_be_quoted c.args.target c.args.text.now _ c.utf8.text c.if-is_ascii.ensures.cases (sym c.is_better_quoted.ensures ∙ c.if-is_better_quoted.false) (sym c.is_out_of_target.ensures ∙ c.if-is_out_of_target.false) c.in_ok-escaped_name.ensures).token

pub returns-clause-ascii : goal.returns-clause-ascii
returns-clause-ascii c = (escaped_answer c.args.may_be_quoted c.args.target c.args.text.now _ c.utf8.text c.if-is_ascii.ensures.cases (sym c.is_better_quoted.ensures ∙ c.if-is_better_quoted.false) (sym c.is_out_of_target.ensures ∙ c.if-is_out_of_target.false) c.in_ok-escaped_name.ensures).ascii
