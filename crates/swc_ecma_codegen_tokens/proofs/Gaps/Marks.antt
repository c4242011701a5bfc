-- Punctuators, which are ASCII.
use Rattle.std.proofs.Common.{◌≡◌, true, rules as all}
use Rattle.std.specs.Str.{chars, is_utf8}
use Rattle.swc_ecma_codegen_grammar.specs.Texts.{is_same, is_among}
use Rattle.swc_ecma_codegen_grammar.specs.Punctuators.{is_punctuator, punctuators}
use Rattle.swc_ecma_codegen_literals.specs.AsciiNames.{is_ascii_text}
use Rattle.swc_ecma_codegen_literals.specs.Punctuators.{spelling}
use Rattle.swc_ecma_codegen_literals.specs.declared.punctuators.Punctuator.{Punctuator}
use Rattle.swc_ecma_codegen_tokens.specs.Written.{IsMark}

pub mark_chars : (p : Punctuator) → chars (spelling p) ≡ spelling p
unfolding chars
mark_chars p = search all

mark_utf8 : (p : Punctuator) → is_utf8 (spelling p) ≡ true
unfolding is_utf8 chars lib.Utf8.encode
mark_utf8 p = search all

mark_shape : (p : Punctuator) → is_punctuator (spelling p) ≡ true
unfolding is_punctuator is_among is_same punctuators
mark_shape p = search all

mark_ascii : (p : Punctuator) → is_ascii_text (spelling p) ≡ true
mark_ascii p = search all

pub is_mark : (p : Punctuator) → IsMark (spelling p)
is_mark p = record { utf8 = mark_utf8 p; ascii = mark_ascii p; shape = mark_shape p }
