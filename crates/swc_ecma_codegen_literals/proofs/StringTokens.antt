-- A string literal without octal escapes is a string token, and means the same.
use Rattle.std.proofs.Common.{List, Some, false, true, ℕ, ◌≡◌}
use Rattle.swc_ecma_codegen_grammar.specs.Strings.{is_string}
use Rattle.swc_ecma_codegen_grammar.specs.StringValues.{string_value}
use Rattle.swc_ecma_codegen_grammar.proofs.StrictStrings.{strict_means_the_same, valued_is_string}

pub strict_is_string : (text units : List ℕ) → string_value false text ≡ Some units → is_string text ≡ true
strict_is_string text units h = valued_is_string text units h

pub strict_same : (text units : List ℕ) → string_value false text ≡ Some units → string_value true text ≡ Some units
strict_same text units h = strict_means_the_same text units h
