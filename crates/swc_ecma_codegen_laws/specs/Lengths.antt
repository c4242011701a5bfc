-- Calls without the places where a line may be ended.
use Rattle.std.specs.Prelude.{Bool, true, false, if◌then◌else◌, List, [], ◌∷◌, None}
use Rattle.swc_ecma_codegen_text_writer.specs.Sheet.{Item, AllowBreak}
use Rattle.swc_ecma_codegen_tokens.specs.Run.{State}

unfoldable pub is_break_call : Item → Bool
is_break_call AllowBreak = true
is_break_call x = false

unfoldable pub unbroken_calls : List Item → List Item
unbroken_calls [] = []
unbroken_calls (x ∷ xs) = if is_break_call x then unbroken_calls xs else x ∷ unbroken_calls xs

-- where an emission stands, with no greatest length of lines
abbrev pub unlined : State → State
unlined s = record s { env = record s.env { max_line = None } }
