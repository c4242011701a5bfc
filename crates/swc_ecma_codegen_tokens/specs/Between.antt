-- A punctuator between two blanks as one text, and where it may have been stopped.
use Rattle.std.specs.Prelude.{ℕ, Bool, List, ◌++◌, codes, length, nat_le, None, if◌then◌else◌}
use Rattle.swc_ecma_codegen_literals.specs.Punctuators.{spelling}
use Rattle.swc_ecma_codegen_literals.specs.declared.punctuators.Punctuator.{Punctuator}
use Rattle.swc_ecma_codegen_text_writer.specs.Sheet.{Sheet, written}
use Rattle.swc_ecma_codegen_tokens.specs.declared.previous.PreviousToken.{PreviousToken}
use Rattle.swc_ecma_codegen_tokens.specs.declared.previous.PreviousToken.TheVariants as last

-- ` = `
abbrev pub in_blanks : List ℕ → List ℕ
in_blanks t = codes " " ++ (t ++ codes " ")

-- no more is out than stands on another sheet
abbrev pub is_within : Sheet → Sheet → Bool
is_within new goal = nat_le (length new.text) (length goal.text)

-- The last token where such a text was stopped: the one before it up to its first blank, none up to the punctuator, and then that.
unfoldable pub last_between : Punctuator → PreviousToken → Sheet → Sheet → PreviousToken
last_between mark before old new =
    if is_within new (written None (codes " ") old) then before
    else if is_within new (written None (spelling mark) (written None (codes " ") old)) then last.Separated
    else last.Mark mark
