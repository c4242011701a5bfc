-- How a name is spelled in ASCII.
use Rattle.std.specs.Prelude.{ℕ, ◌/◌, ◌%◌, Bool, false, not, List, [], ◌∷◌, ◌++◌, ◌&&◌, ◌||◌, nat_lt, nat_le, if◌then◌else◌, codes}
use Rattle.std.specs.Fmt.{digit_glyph}
use Rattle.std.specs.List.{list_all, list_any}
use Rattle.swc_ecma_codegen_common.specs.declared.versions.EsVersion.{EsVersion}
use Rattle.swc_ecma_codegen_literals.specs.StringTexts.{up_to_es5, code_escape}

-- `\u00e9`
unfoldable pub lower_unit_escape : ℕ → List ℕ
lower_unit_escape c = codes "\\u00" ++ (digit_glyph false (c / 16) ∷ digit_glyph false (c % 16) ∷ [])

-- a character that no escape stands for
abbrev pub is_plain : ℕ → Bool
is_plain c = nat_lt c 127

-- One character of a name. `key` says that the name may be put in quotes; elsewhere no `\x` may stand.
unfoldable pub name_escape : Bool → EsVersion → ℕ → List ℕ
name_escape key v c =
    if is_plain c then c ∷ []
    else if nat_lt c 256 && not key then lower_unit_escape c
    else code_escape v c

unfoldable pub name_escapes : Bool → EsVersion → List ℕ → List ℕ
name_escapes key v [] = []
name_escapes key v (c ∷ cs) = name_escape key v c ++ name_escapes key v cs

-- a character of a key whose escape only strings have: `\xe9`, or `\uD835\uDCAB` up to ES5
unfoldable pub wants_quotes : EsVersion → ℕ → Bool
wants_quotes v c = (nat_le 127 c && nat_lt c 256) || (nat_le 65536 c && up_to_es5 v)

-- all in ASCII
abbrev pub is_ascii_text : List ℕ → Bool
is_ascii_text text = list_all (λ c. nat_lt c 128) text

-- a key that is put in `"`
unfoldable pub is_quoted_key : Bool → EsVersion → List ℕ → Bool
is_quoted_key key v text = key && (not (is_ascii_text text) && list_any (wants_quotes v) text)

-- no escape of a name stands for a character above U+FFFF up to ES5
unfoldable pub is_out_of_target : Bool → EsVersion → List ℕ → Bool
is_out_of_target key v text = not key && (up_to_es5 v && list_any (nat_le 65536) text)

unfoldable pub ascii_name : Bool → EsVersion → List ℕ → List ℕ
ascii_name key v text =
    if is_ascii_text text then text
    else if is_quoted_key key v text then (34 ∷ (name_escapes key v text ++ 34 ∷ []))
    else name_escapes key v text
