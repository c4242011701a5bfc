-- Names as keys of properties: a string stands there for a name where that has shorter escapes. ECMA-262, section 13.2.5.
use Rattle.std.specs.Prelude.{ℕ, Bool, not, List, Some, ◌&&◌, ◌||◌, nat_lt, nat_le, if◌then◌else◌}
use Rattle.std.specs.List.{list_all, list_any}
use Rattle.swc_ecma_codegen_common.specs.declared.versions.EsVersion.{EsVersion}
use Rattle.swc_ecma_codegen_grammar.specs.declared.kinds.Kind.TheVariants.{Str}
use Rattle.swc_ecma_codegen_grammar.specs.CodeUnits.{all_utf16}
use Rattle.swc_ecma_codegen_grammar.specs.Names.{name_value}
use Rattle.swc_ecma_codegen_grammar.specs.Settings.{Settings, is_up_to_es5}
use Rattle.swc_ecma_codegen_grammar.specs.SpelledNames.{spelled_name}
use Rattle.swc_ecma_codegen_grammar.specs.Tokens.{Token, Units}
use Rattle.swc_ecma_codegen_grammar.specs.Tokens as tokens

-- a character whose escape only strings have: `\xe9`, or `\uD835\uDCAB` up to ECMAScript 5
unfoldable pub wants_quotes : EsVersion → ℕ → Bool
wants_quotes v c = (nat_le 127 c && nat_lt c 256) || (nat_le 65536 c && is_up_to_es5 v)

-- In ASCII a name is put in quotes that isn't ASCII itself and holds such a character, not spelled by an escape.
unfoldable pub is_quoted : Settings → List ℕ → Bool
is_quoted s text = s.ascii_only && (not (list_all (λ c. nat_lt c 128) text) && list_any (wants_quotes s.target) text)

-- the token of a key: `é`, or the string `"\xe9"` in ASCII
unfoldable pub key_token : Settings → List ℕ → Token
key_token s bytes =
    if is_quoted s (spelled_name bytes) then record { kind = Str; value = Units (Some (all_utf16 (name_value (spelled_name bytes)))) }
    else tokens.name (name_value (spelled_name bytes))
