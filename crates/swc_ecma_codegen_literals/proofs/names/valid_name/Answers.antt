use Rattle.std.proofs.Common.{sym}
use Rattle.swc_ecma_codegen_literals.proofs.Nulls.{searched_none, searched_changes, turned_no_backslash}
use Rattle.swc_ecma_codegen_literals.proofs.names.valid_name.Goals as goal

pub returns-in_err-without_nulls-in-Some-clause-lent :
    goal.returns-in_err-without_nulls-in-Some-clause-lent
returns-in_err-without_nulls-in-Some-clause-lent c = λ same. absurd (searched_changes _ _ c.in-Some.field-0 c.as_bytes.ensures.value c.in-Some.ensures same)

pub returns-in_err-without_nulls-in-Some-clause-no_backslash :
    goal.returns-in_err-without_nulls-in-Some-clause-no_backslash
returns-in_err-without_nulls-in-Some-clause-no_backslash c = λ none. absurd (searched_changes _ _ c.in-Some.field-0 c.as_bytes.ensures.value c.in-Some.ensures (turned_no_backslash _ none))

pub returns-in_ok-without_nulls-in-Some-clause-lent :
    goal.returns-in_ok-without_nulls-in-Some-clause-lent
returns-in_ok-without_nulls-in-Some-clause-lent c = λ same. searched_changes _ _ c.in-Some.field-0 c.as_bytes.ensures.value c.in-Some.ensures same

pub returns-in_ok-without_nulls-in-Some-clause-no_backslash :
    goal.returns-in_ok-without_nulls-in-Some-clause-no_backslash
returns-in_ok-without_nulls-in-Some-clause-no_backslash c = λ none. searched_changes _ _ c.in-Some.field-0 c.as_bytes.ensures.value c.in-Some.ensures (turned_no_backslash _ none)

pub returns-in-None-clause-value : goal.returns-in-None-clause-value
returns-in-None-clause-value c = sym (searched_none _ _ c.as_bytes.ensures.value c.in-None.ensures)
