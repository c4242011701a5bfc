-- The marks and words of patterns, objects, functions, statements and declarations.
use Rattle.std.proofs.Common.{codes, refl}
use Rattle.std.specs.Str.{chars, is_utf8}
use Rattle.swc_ecma_codegen_grammar.specs.Chars.{is_start, is_part, is_letter, is_digit}
use Rattle.swc_ecma_codegen_grammar.specs.Names.{is_word, all_part}
use Rattle.swc_ecma_codegen_grammar.specs.Punctuators.{is_punctuator, punctuators}
use Rattle.swc_ecma_codegen_grammar.specs.Texts.{is_same, is_among}
use Rattle.swc_ecma_codegen_tokens.specs.Written.{IsWord, IsMark}

pub left_parenthesis : IsMark (codes "(")
unfolding is_punctuator is_among is_same punctuators chars is_utf8 lib.Utf8.encode
left_parenthesis = record { utf8 = refl; ascii = refl; shape = refl }

pub right_parenthesis : IsMark (codes ")")
unfolding is_punctuator is_among is_same punctuators chars is_utf8 lib.Utf8.encode
right_parenthesis = record { utf8 = refl; ascii = refl; shape = refl }

pub left_brace : IsMark (codes "{")
unfolding is_punctuator is_among is_same punctuators chars is_utf8 lib.Utf8.encode
left_brace = record { utf8 = refl; ascii = refl; shape = refl }

pub right_brace : IsMark (codes "}")
unfolding is_punctuator is_among is_same punctuators chars is_utf8 lib.Utf8.encode
right_brace = record { utf8 = refl; ascii = refl; shape = refl }

pub left_bracket : IsMark (codes "[")
unfolding is_punctuator is_among is_same punctuators chars is_utf8 lib.Utf8.encode
left_bracket = record { utf8 = refl; ascii = refl; shape = refl }

pub right_bracket : IsMark (codes "]")
unfolding is_punctuator is_among is_same punctuators chars is_utf8 lib.Utf8.encode
right_bracket = record { utf8 = refl; ascii = refl; shape = refl }

pub star : IsMark (codes "*")
unfolding is_punctuator is_among is_same punctuators chars is_utf8 lib.Utf8.encode
star = record { utf8 = refl; ascii = refl; shape = refl }

pub at : IsMark (codes "@")
unfolding is_punctuator is_among is_same punctuators chars is_utf8 lib.Utf8.encode
at = record { utf8 = refl; ascii = refl; shape = refl }

pub arrow : IsMark (codes "=>")
unfolding is_punctuator is_among is_same punctuators chars is_utf8 lib.Utf8.encode
arrow = record { utf8 = refl; ascii = refl; shape = refl }

pub equal : IsMark (codes "=")
unfolding is_punctuator is_among is_same punctuators chars is_utf8 lib.Utf8.encode
equal = record { utf8 = refl; ascii = refl; shape = refl }

pub colon : IsMark (codes ":")
unfolding is_punctuator is_among is_same punctuators chars is_utf8 lib.Utf8.encode
colon = record { utf8 = refl; ascii = refl; shape = refl }

pub ellipsis : IsMark (codes "...")
unfolding is_punctuator is_among is_same punctuators chars is_utf8 lib.Utf8.encode
ellipsis = record { utf8 = refl; ascii = refl; shape = refl }

pub async_word : IsWord (codes "async")
unfolding is_word is_start is_part is_letter is_digit all_part chars is_utf8 lib.Utf8.encode
async_word = record { utf8 = refl; ascii = refl; shape = refl }

pub function_word : IsWord (codes "function")
unfolding is_word is_start is_part is_letter is_digit all_part chars is_utf8 lib.Utf8.encode
function_word = record { utf8 = refl; ascii = refl; shape = refl }

pub get_word : IsWord (codes "get")
unfolding is_word is_start is_part is_letter is_digit all_part chars is_utf8 lib.Utf8.encode
get_word = record { utf8 = refl; ascii = refl; shape = refl }

pub set_word : IsWord (codes "set")
unfolding is_word is_start is_part is_letter is_digit all_part chars is_utf8 lib.Utf8.encode
set_word = record { utf8 = refl; ascii = refl; shape = refl }

pub semicolon : IsMark (codes ";")
unfolding is_punctuator is_among is_same punctuators chars is_utf8 lib.Utf8.encode
semicolon = record { utf8 = refl; ascii = refl; shape = refl }

pub await_word : IsWord (codes "await")
unfolding is_word is_start is_part is_letter is_digit all_part chars is_utf8 lib.Utf8.encode
await_word = record { utf8 = refl; ascii = refl; shape = refl }

pub break_word : IsWord (codes "break")
unfolding is_word is_start is_part is_letter is_digit all_part chars is_utf8 lib.Utf8.encode
break_word = record { utf8 = refl; ascii = refl; shape = refl }

pub case_word : IsWord (codes "case")
unfolding is_word is_start is_part is_letter is_digit all_part chars is_utf8 lib.Utf8.encode
case_word = record { utf8 = refl; ascii = refl; shape = refl }

pub catch_word : IsWord (codes "catch")
unfolding is_word is_start is_part is_letter is_digit all_part chars is_utf8 lib.Utf8.encode
catch_word = record { utf8 = refl; ascii = refl; shape = refl }

pub const_word : IsWord (codes "const")
unfolding is_word is_start is_part is_letter is_digit all_part chars is_utf8 lib.Utf8.encode
const_word = record { utf8 = refl; ascii = refl; shape = refl }

pub continue_word : IsWord (codes "continue")
unfolding is_word is_start is_part is_letter is_digit all_part chars is_utf8 lib.Utf8.encode
continue_word = record { utf8 = refl; ascii = refl; shape = refl }

pub debugger_word : IsWord (codes "debugger")
unfolding is_word is_start is_part is_letter is_digit all_part chars is_utf8 lib.Utf8.encode
debugger_word = record { utf8 = refl; ascii = refl; shape = refl }

pub default_word : IsWord (codes "default")
unfolding is_word is_start is_part is_letter is_digit all_part chars is_utf8 lib.Utf8.encode
default_word = record { utf8 = refl; ascii = refl; shape = refl }

pub do_word : IsWord (codes "do")
unfolding is_word is_start is_part is_letter is_digit all_part chars is_utf8 lib.Utf8.encode
do_word = record { utf8 = refl; ascii = refl; shape = refl }

pub else_word : IsWord (codes "else")
unfolding is_word is_start is_part is_letter is_digit all_part chars is_utf8 lib.Utf8.encode
else_word = record { utf8 = refl; ascii = refl; shape = refl }

pub finally_word : IsWord (codes "finally")
unfolding is_word is_start is_part is_letter is_digit all_part chars is_utf8 lib.Utf8.encode
finally_word = record { utf8 = refl; ascii = refl; shape = refl }

pub for_word : IsWord (codes "for")
unfolding is_word is_start is_part is_letter is_digit all_part chars is_utf8 lib.Utf8.encode
for_word = record { utf8 = refl; ascii = refl; shape = refl }

pub if_word : IsWord (codes "if")
unfolding is_word is_start is_part is_letter is_digit all_part chars is_utf8 lib.Utf8.encode
if_word = record { utf8 = refl; ascii = refl; shape = refl }

pub in_word : IsWord (codes "in")
unfolding is_word is_start is_part is_letter is_digit all_part chars is_utf8 lib.Utf8.encode
in_word = record { utf8 = refl; ascii = refl; shape = refl }

pub let_word : IsWord (codes "let")
unfolding is_word is_start is_part is_letter is_digit all_part chars is_utf8 lib.Utf8.encode
let_word = record { utf8 = refl; ascii = refl; shape = refl }

pub of_word : IsWord (codes "of")
unfolding is_word is_start is_part is_letter is_digit all_part chars is_utf8 lib.Utf8.encode
of_word = record { utf8 = refl; ascii = refl; shape = refl }

pub return_word : IsWord (codes "return")
unfolding is_word is_start is_part is_letter is_digit all_part chars is_utf8 lib.Utf8.encode
return_word = record { utf8 = refl; ascii = refl; shape = refl }

pub switch_word : IsWord (codes "switch")
unfolding is_word is_start is_part is_letter is_digit all_part chars is_utf8 lib.Utf8.encode
switch_word = record { utf8 = refl; ascii = refl; shape = refl }

pub throw_word : IsWord (codes "throw")
unfolding is_word is_start is_part is_letter is_digit all_part chars is_utf8 lib.Utf8.encode
throw_word = record { utf8 = refl; ascii = refl; shape = refl }

pub try_word : IsWord (codes "try")
unfolding is_word is_start is_part is_letter is_digit all_part chars is_utf8 lib.Utf8.encode
try_word = record { utf8 = refl; ascii = refl; shape = refl }

pub using_word : IsWord (codes "using")
unfolding is_word is_start is_part is_letter is_digit all_part chars is_utf8 lib.Utf8.encode
using_word = record { utf8 = refl; ascii = refl; shape = refl }

pub var_word : IsWord (codes "var")
unfolding is_word is_start is_part is_letter is_digit all_part chars is_utf8 lib.Utf8.encode
var_word = record { utf8 = refl; ascii = refl; shape = refl }

pub while_word : IsWord (codes "while")
unfolding is_word is_start is_part is_letter is_digit all_part chars is_utf8 lib.Utf8.encode
while_word = record { utf8 = refl; ascii = refl; shape = refl }

pub with_word : IsWord (codes "with")
unfolding is_word is_start is_part is_letter is_digit all_part chars is_utf8 lib.Utf8.encode
with_word = record { utf8 = refl; ascii = refl; shape = refl }

pub class_word : IsWord (codes "class")
unfolding is_word is_start is_part is_letter is_digit all_part chars is_utf8 lib.Utf8.encode
class_word = record { utf8 = refl; ascii = refl; shape = refl }

pub extends_word : IsWord (codes "extends")
unfolding is_word is_start is_part is_letter is_digit all_part chars is_utf8 lib.Utf8.encode
extends_word = record { utf8 = refl; ascii = refl; shape = refl }

pub constructor_word : IsWord (codes "constructor")
unfolding is_word is_start is_part is_letter is_digit all_part chars is_utf8 lib.Utf8.encode
constructor_word = record { utf8 = refl; ascii = refl; shape = refl }

pub static_word : IsWord (codes "static")
unfolding is_word is_start is_part is_letter is_digit all_part chars is_utf8 lib.Utf8.encode
static_word = record { utf8 = refl; ascii = refl; shape = refl }

pub accessor_word : IsWord (codes "accessor")
unfolding is_word is_start is_part is_letter is_digit all_part chars is_utf8 lib.Utf8.encode
accessor_word = record { utf8 = refl; ascii = refl; shape = refl }

pub import_word : IsWord (codes "import")
unfolding is_word is_start is_part is_letter is_digit all_part chars is_utf8 lib.Utf8.encode
import_word = record { utf8 = refl; ascii = refl; shape = refl }

pub export_word : IsWord (codes "export")
unfolding is_word is_start is_part is_letter is_digit all_part chars is_utf8 lib.Utf8.encode
export_word = record { utf8 = refl; ascii = refl; shape = refl }

pub from_word : IsWord (codes "from")
unfolding is_word is_start is_part is_letter is_digit all_part chars is_utf8 lib.Utf8.encode
from_word = record { utf8 = refl; ascii = refl; shape = refl }

pub as_word : IsWord (codes "as")
unfolding is_word is_start is_part is_letter is_digit all_part chars is_utf8 lib.Utf8.encode
as_word = record { utf8 = refl; ascii = refl; shape = refl }

pub source_word : IsWord (codes "source")
unfolding is_word is_start is_part is_letter is_digit all_part chars is_utf8 lib.Utf8.encode
source_word = record { utf8 = refl; ascii = refl; shape = refl }

pub defer_word : IsWord (codes "defer")
unfolding is_word is_start is_part is_letter is_digit all_part chars is_utf8 lib.Utf8.encode
defer_word = record { utf8 = refl; ascii = refl; shape = refl }

pub comma : IsMark (codes ",")
unfolding is_punctuator is_among is_same punctuators chars is_utf8 lib.Utf8.encode
comma = record { utf8 = refl; ascii = refl; shape = refl }
