-- The calls of steps.
use Rattle.std.specs.Prelude.{if◌then◌else◌, List, [], ◌∷◌, ◌++◌}
use Rattle.std.specs.Str.{chars}
use Rattle.swc_ecma_codegen_grammar.specs.GapRules.{PreviousToken, Separated, fuses}
use Rattle.swc_ecma_codegen_text_writer.specs.Sheet.{Item, Space, Comment}
use Rattle.swc_ecma_codegen_tokens.specs.Run.{Step, Guard, Token, Plain, Ends, Remake, Take, CommentText, text_of, after_token, after_tokens, after_plain}

-- the calls of a step, behind a last token, and the last token after it
unfoldable pub calls_by : Step → PreviousToken → List Item
calls_by (Guard t) last = if fuses last (chars t) then Space ∷ [] else []
calls_by (Token kind x) last = x ∷ []
calls_by (Plain x) last = x ∷ []
calls_by (Ends tokens x) last = x ∷ []
calls_by (Remake due) last = []
calls_by (Take side at) last = []
calls_by (CommentText t) last = Comment t ∷ []

unfoldable pub last_by : Step → PreviousToken → PreviousToken
last_by (Guard t) last = if fuses last (chars t) then Separated else last
last_by (Token kind x) last = after_token kind (text_of x) last
last_by (Plain x) last = after_plain x last
last_by (Ends tokens x) last = after_tokens tokens last
last_by (Remake due) last = last
last_by (Take side at) last = last
last_by (CommentText t) last = Separated

-- the calls of some, in order
unfoldable pub calls_of : List Step → PreviousToken → List Item
calls_of [] last = []
calls_of (x ∷ xs) last = calls_by x last ++ calls_of xs (last_by x last)
