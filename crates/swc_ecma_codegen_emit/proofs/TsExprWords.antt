-- The words and marks of expressions and classes of TypeScript.
use Rattle.std.proofs.Common.{codes, refl}
use Rattle.std.specs.Str.{chars, is_utf8}
use Rattle.swc_ecma_codegen_grammar.specs.Chars.{is_start, is_part, is_letter, is_digit}
use Rattle.swc_ecma_codegen_grammar.specs.Names.{is_word, all_part}
use Rattle.swc_ecma_codegen_grammar.specs.Punctuators.{is_punctuator, punctuators}
use Rattle.swc_ecma_codegen_grammar.specs.Texts.{is_same, is_among}
use Rattle.swc_ecma_codegen_tokens.specs.Written.{IsWord, IsMark}

pub bang : IsMark (codes "!")
unfolding is_punctuator is_among is_same punctuators chars is_utf8 lib.Utf8.encode
bang = record { utf8 = refl; ascii = refl; shape = refl }

pub satisfies_word : IsWord (codes "satisfies")
unfolding is_word is_start is_part is_letter is_digit all_part chars is_utf8 lib.Utf8.encode
satisfies_word = record { utf8 = refl; ascii = refl; shape = refl }

pub implements_word : IsWord (codes "implements")
unfolding is_word is_start is_part is_letter is_digit all_part chars is_utf8 lib.Utf8.encode
implements_word = record { utf8 = refl; ascii = refl; shape = refl }

pub override_word : IsWord (codes "override")
unfolding is_word is_start is_part is_letter is_digit all_part chars is_utf8 lib.Utf8.encode
override_word = record { utf8 = refl; ascii = refl; shape = refl }

pub public_word : IsWord (codes "public")
unfolding is_word is_start is_part is_letter is_digit all_part chars is_utf8 lib.Utf8.encode
public_word = record { utf8 = refl; ascii = refl; shape = refl }

pub protected_word : IsWord (codes "protected")
unfolding is_word is_start is_part is_letter is_digit all_part chars is_utf8 lib.Utf8.encode
protected_word = record { utf8 = refl; ascii = refl; shape = refl }

pub private_word : IsWord (codes "private")
unfolding is_word is_start is_part is_letter is_digit all_part chars is_utf8 lib.Utf8.encode
private_word = record { utf8 = refl; ascii = refl; shape = refl }
