-- The marks and words of types.
use Rattle.std.proofs.Common.{codes, refl}
use Rattle.std.specs.Str.{chars, is_utf8}
use Rattle.swc_ecma_codegen_grammar.specs.Chars.{is_start, is_part, is_letter, is_digit}
use Rattle.swc_ecma_codegen_grammar.specs.Names.{is_word, all_part}
use Rattle.swc_ecma_codegen_grammar.specs.Punctuators.{is_punctuator, punctuators}
use Rattle.swc_ecma_codegen_grammar.specs.Texts.{is_same, is_among}
use Rattle.swc_ecma_codegen_tokens.specs.Written.{IsWord, IsMark}

pub less : IsMark (codes "<")
unfolding is_punctuator is_among is_same punctuators chars is_utf8 lib.Utf8.encode
less = record { utf8 = refl; ascii = refl; shape = refl }

pub bar : IsMark (codes "|")
unfolding is_punctuator is_among is_same punctuators chars is_utf8 lib.Utf8.encode
bar = record { utf8 = refl; ascii = refl; shape = refl }

pub ampersand : IsMark (codes "&")
unfolding is_punctuator is_among is_same punctuators chars is_utf8 lib.Utf8.encode
ampersand = record { utf8 = refl; ascii = refl; shape = refl }

pub question : IsMark (codes "?")
unfolding is_punctuator is_among is_same punctuators chars is_utf8 lib.Utf8.encode
question = record { utf8 = refl; ascii = refl; shape = refl }

pub dot : IsMark (codes ".")
unfolding is_punctuator is_among is_same punctuators chars is_utf8 lib.Utf8.encode
dot = record { utf8 = refl; ascii = refl; shape = refl }

pub plus : IsMark (codes "+")
unfolding is_punctuator is_among is_same punctuators chars is_utf8 lib.Utf8.encode
plus = record { utf8 = refl; ascii = refl; shape = refl }

pub minus : IsMark (codes "-")
unfolding is_punctuator is_among is_same punctuators chars is_utf8 lib.Utf8.encode
minus = record { utf8 = refl; ascii = refl; shape = refl }

pub any_word : IsWord (codes "any")
unfolding is_word is_start is_part is_letter is_digit all_part chars is_utf8 lib.Utf8.encode
any_word = record { utf8 = refl; ascii = refl; shape = refl }

pub unknown_word : IsWord (codes "unknown")
unfolding is_word is_start is_part is_letter is_digit all_part chars is_utf8 lib.Utf8.encode
unknown_word = record { utf8 = refl; ascii = refl; shape = refl }

pub number_word : IsWord (codes "number")
unfolding is_word is_start is_part is_letter is_digit all_part chars is_utf8 lib.Utf8.encode
number_word = record { utf8 = refl; ascii = refl; shape = refl }

pub object_word : IsWord (codes "object")
unfolding is_word is_start is_part is_letter is_digit all_part chars is_utf8 lib.Utf8.encode
object_word = record { utf8 = refl; ascii = refl; shape = refl }

pub boolean_word : IsWord (codes "boolean")
unfolding is_word is_start is_part is_letter is_digit all_part chars is_utf8 lib.Utf8.encode
boolean_word = record { utf8 = refl; ascii = refl; shape = refl }

pub bigint_word : IsWord (codes "bigint")
unfolding is_word is_start is_part is_letter is_digit all_part chars is_utf8 lib.Utf8.encode
bigint_word = record { utf8 = refl; ascii = refl; shape = refl }

pub string_word : IsWord (codes "string")
unfolding is_word is_start is_part is_letter is_digit all_part chars is_utf8 lib.Utf8.encode
string_word = record { utf8 = refl; ascii = refl; shape = refl }

pub symbol_word : IsWord (codes "symbol")
unfolding is_word is_start is_part is_letter is_digit all_part chars is_utf8 lib.Utf8.encode
symbol_word = record { utf8 = refl; ascii = refl; shape = refl }

pub void_word : IsWord (codes "void")
unfolding is_word is_start is_part is_letter is_digit all_part chars is_utf8 lib.Utf8.encode
void_word = record { utf8 = refl; ascii = refl; shape = refl }

pub undefined_word : IsWord (codes "undefined")
unfolding is_word is_start is_part is_letter is_digit all_part chars is_utf8 lib.Utf8.encode
undefined_word = record { utf8 = refl; ascii = refl; shape = refl }

pub null_word : IsWord (codes "null")
unfolding is_word is_start is_part is_letter is_digit all_part chars is_utf8 lib.Utf8.encode
null_word = record { utf8 = refl; ascii = refl; shape = refl }

pub never_word : IsWord (codes "never")
unfolding is_word is_start is_part is_letter is_digit all_part chars is_utf8 lib.Utf8.encode
never_word = record { utf8 = refl; ascii = refl; shape = refl }

pub intrinsic_word : IsWord (codes "intrinsic")
unfolding is_word is_start is_part is_letter is_digit all_part chars is_utf8 lib.Utf8.encode
intrinsic_word = record { utf8 = refl; ascii = refl; shape = refl }

pub this_word : IsWord (codes "this")
unfolding is_word is_start is_part is_letter is_digit all_part chars is_utf8 lib.Utf8.encode
this_word = record { utf8 = refl; ascii = refl; shape = refl }

pub keyof_word : IsWord (codes "keyof")
unfolding is_word is_start is_part is_letter is_digit all_part chars is_utf8 lib.Utf8.encode
keyof_word = record { utf8 = refl; ascii = refl; shape = refl }

pub unique_word : IsWord (codes "unique")
unfolding is_word is_start is_part is_letter is_digit all_part chars is_utf8 lib.Utf8.encode
unique_word = record { utf8 = refl; ascii = refl; shape = refl }

pub readonly_word : IsWord (codes "readonly")
unfolding is_word is_start is_part is_letter is_digit all_part chars is_utf8 lib.Utf8.encode
readonly_word = record { utf8 = refl; ascii = refl; shape = refl }

pub typeof_word : IsWord (codes "typeof")
unfolding is_word is_start is_part is_letter is_digit all_part chars is_utf8 lib.Utf8.encode
typeof_word = record { utf8 = refl; ascii = refl; shape = refl }

pub infer_word : IsWord (codes "infer")
unfolding is_word is_start is_part is_letter is_digit all_part chars is_utf8 lib.Utf8.encode
infer_word = record { utf8 = refl; ascii = refl; shape = refl }

pub predicate_word : IsWord (codes "is")
unfolding is_word is_start is_part is_letter is_digit all_part chars is_utf8 lib.Utf8.encode
predicate_word = record { utf8 = refl; ascii = refl; shape = refl }

pub asserts_word : IsWord (codes "asserts")
unfolding is_word is_start is_part is_letter is_digit all_part chars is_utf8 lib.Utf8.encode
asserts_word = record { utf8 = refl; ascii = refl; shape = refl }

pub abstract_word : IsWord (codes "abstract")
unfolding is_word is_start is_part is_letter is_digit all_part chars is_utf8 lib.Utf8.encode
abstract_word = record { utf8 = refl; ascii = refl; shape = refl }

pub out_word : IsWord (codes "out")
unfolding is_word is_start is_part is_letter is_digit all_part chars is_utf8 lib.Utf8.encode
out_word = record { utf8 = refl; ascii = refl; shape = refl }

pub new_word : IsWord (codes "new")
unfolding is_word is_start is_part is_letter is_digit all_part chars is_utf8 lib.Utf8.encode
new_word = record { utf8 = refl; ascii = refl; shape = refl }
