-- The words of members and declarations of TypeScript.
use Rattle.std.proofs.Common.{codes, refl}
use Rattle.std.specs.Str.{chars, is_utf8}
use Rattle.swc_ecma_codegen_grammar.specs.Chars.{is_start, is_part, is_letter, is_digit}
use Rattle.swc_ecma_codegen_grammar.specs.Names.{is_word, all_part}
use Rattle.swc_ecma_codegen_tokens.specs.Written.{IsWord}

pub declare_word : IsWord (codes "declare")
unfolding is_word is_start is_part is_letter is_digit all_part chars is_utf8 lib.Utf8.encode
declare_word = record { utf8 = refl; ascii = refl; shape = refl }

pub interface_word : IsWord (codes "interface")
unfolding is_word is_start is_part is_letter is_digit all_part chars is_utf8 lib.Utf8.encode
interface_word = record { utf8 = refl; ascii = refl; shape = refl }

pub type_word : IsWord (codes "type")
unfolding is_word is_start is_part is_letter is_digit all_part chars is_utf8 lib.Utf8.encode
type_word = record { utf8 = refl; ascii = refl; shape = refl }

pub enum_word : IsWord (codes "enum")
unfolding is_word is_start is_part is_letter is_digit all_part chars is_utf8 lib.Utf8.encode
enum_word = record { utf8 = refl; ascii = refl; shape = refl }

pub namespace_word : IsWord (codes "namespace")
unfolding is_word is_start is_part is_letter is_digit all_part chars is_utf8 lib.Utf8.encode
namespace_word = record { utf8 = refl; ascii = refl; shape = refl }

pub module_word : IsWord (codes "module")
unfolding is_word is_start is_part is_letter is_digit all_part chars is_utf8 lib.Utf8.encode
module_word = record { utf8 = refl; ascii = refl; shape = refl }

pub global_word : IsWord (codes "global")
unfolding is_word is_start is_part is_letter is_digit all_part chars is_utf8 lib.Utf8.encode
global_word = record { utf8 = refl; ascii = refl; shape = refl }

pub require_word : IsWord (codes "require")
unfolding is_word is_start is_part is_letter is_digit all_part chars is_utf8 lib.Utf8.encode
require_word = record { utf8 = refl; ascii = refl; shape = refl }
