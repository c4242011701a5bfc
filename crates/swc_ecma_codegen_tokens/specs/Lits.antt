-- What is written of each literal. ECMA-262, section 12.9; `emit_lit` of swc and the functions below it.
use Rattle.std.specs.Prelude.{ℕ, ◌-◌, ◌==◌, Bool, true, false, not, ◌&&◌, ◌||◌, if◌then◌else◌, nat_lt, List, [], ◌∷◌, codes, length, Option, Some, None, is_none, string_bytes, bytes_eq}
use Rattle.std.specs.Str.{chars, encode_utf8_all}
use Rattle.std.specs.declared.string.String.{String}
use Rattle.swc_ecma_codegen_common.specs.declared.decimals.Decimal.{Decimal}
use Rattle.swc_ecma_codegen_common.specs.declared.positions.BytePos.{BytePos}
use Rattle.swc_ecma_codegen_common.specs.declared.positions.Span.{Span}
use Rattle.swc_ecma_codegen_common.specs.declared.versions.EsVersion.{EsVersion}
use Rattle.swc_ecma_codegen_common.specs.declared.versions.EsVersion.TheVariants.{Es2021, Es2022, EsNext}
use Rattle.swc_ecma_codegen_tree.specs.declared.lits.Lit.{Lit}
use Rattle.swc_ecma_codegen_tree.specs.declared.lits.Lit.TheVariants as lits
use Rattle.swc_ecma_codegen_tree.specs.declared.lits.Str.{Str}
use Rattle.swc_ecma_codegen_tree.specs.declared.lits.Bool as tree_bool
use Rattle.swc_ecma_codegen_tree.specs.declared.lits.Null.{Null}
use Rattle.swc_ecma_codegen_tree.specs.declared.lits.Number.{Number}
use Rattle.swc_ecma_codegen_tree.specs.declared.lits.NumberValue.{NumberValue}
use Rattle.swc_ecma_codegen_tree.specs.declared.lits.NumberValue.TheVariants.{Finite, Infinity, NegInfinity, NaN}
use Rattle.swc_ecma_codegen_tree.specs.declared.lits.BigInt.{BigInt}
use Rattle.swc_ecma_codegen_tree.specs.declared.lits.Regex.{Regex}
use Rattle.swc_ecma_codegen_spans.specs.Spans.{dummy_span}
use Rattle.swc_ecma_codegen_grammar.specs.Numbers.{is_either, takes_dot}
use Rattle.swc_ecma_codegen_settings.specs.declared.config.Config.{Config}
use Rattle.swc_ecma_codegen_literals.specs.AsciiNames.{is_ascii_text}
use Rattle.swc_ecma_codegen_literals.specs.BigIntegers.{big_text}
use Rattle.swc_ecma_codegen_literals.specs.InlineScripts.{inline_text}
use Rattle.swc_ecma_codegen_literals.specs.NumberTexts.{plain_text, minified_text}
use Rattle.swc_ecma_codegen_literals.specs.Separators.{without_underscores}
use Rattle.swc_ecma_codegen_literals.specs.StringTexts.{quoted_text, up_to_es5}
use Rattle.swc_ecma_codegen_literals.specs.ValidNames.{has_byte}
use Rattle.swc_ecma_codegen_tokens.specs.Run.{Part, step, Remake}
use Rattle.swc_ecma_codegen_tokens.specs.Words.{keyword, end_of, leading_comments, commit_pending_semi}
use Rattle.swc_ecma_codegen_tokens.specs.Literals.{size_of, begun, settled_begun, string, number, dotted_number, sign, number_name, big_digits, big_integer, regex}

-- A string, a number or a big integer that is a `Lit` begins as that before it begins as itself.
unfoldable pub begun_in : Bool → Span → List ℕ → Part
begun_in in_lit span t rest = if in_lit then begun span t rest else rest

-- a raw is there, and passes
unfoldable pub raw_is : {Z : Type 0} → (List ℕ → Bool) → Option (String Z) → Bool
raw_is test None = false
raw_is test (Some raw) = test (string_bytes raw)

unfoldable pub raw_text : {Z : Type 0} → Option (String Z) → List ℕ
raw_text None = []
raw_text (Some raw) = string_bytes raw

-- ---- strings

-- A directive with a backslash is printed as it was spelled: `'use\x20strict'`.
unfoldable pub is_directive : Str → Bool
is_directive n = bytes_eq (string_bytes n.value) (codes "use strict") && raw_is (has_byte 92) n.raw

-- a raw that the settings take as it is: `'a'`, where nothing is minified
unfoldable pub takes_raw : Config → Str → Bool
takes_raw config n = not config.minify && raw_is (λ raw. not config.ascii_only || is_ascii_text raw) n.raw

unfoldable pub prints_raw : Config → Str → Bool
prints_raw config n = is_directive n || takes_raw config n

-- a string by its value: `"a"`
unfoldable pub value_text : Config → List ℕ → List ℕ
value_text config value =
    let quoted : List ℕ = quoted_text config.ascii_only config.target (chars value) in
    encode_utf8_all (if config.inline_script then inline_text quoted else quoted)

unfoldable pub string_text : Config → Str → List ℕ
string_text config n = if prints_raw config n then raw_text n.raw else value_text config (string_bytes n.value)

-- the end of a directive
unfoldable pub directive_end : Str → Part
directive_end n rest = if is_directive n then end_of n.span rest else rest

-- a string by this text
unfoldable pub string_by : Bool → Str → List ℕ → Part
string_by in_lit n t rest = begun_in in_lit n.span t (settled_begun n.span t (string t (directive_end n rest)))

unfoldable pub string_at : Bool → Str → Part
string_at in_lit n rest env = step (Remake (not (prints_raw env.config n))) (string_by in_lit n (string_text env.config n) rest) env

-- `"a"`
abbrev pub str_lit : Str → Part
str_lit n = string_at false n

-- ---- `true`, `false` and `null`

unfoldable pub bool_text : Bool → List ℕ
bool_text value = if value then codes "true" else codes "false"

unfoldable pub bool_lit : tree_bool.Bool → Part
bool_lit n rest = keyword None (bool_text n.value) rest

-- as a node of its own
unfoldable pub bool_node : tree_bool.Bool → Part
bool_node n rest = leading_comments n.span.lo (keyword (Some n.span) (bool_text n.value) rest)

unfoldable pub null_lit : Null → Part
null_lit n rest = keyword None (codes "null") rest

-- ---- raws of numbers and big integers

-- a version before that of `_` between digits
unfoldable pub below_es2021 : EsVersion → Bool
below_es2021 Es2021 = false
below_es2021 Es2022 = false
below_es2021 EsNext = false
below_es2021 v = true

-- a raw from which `_` goes
unfoldable pub may_join : EsVersion → List ℕ → Bool
may_join v raw = below_es2021 v && nat_lt 2 (length raw)

-- a raw as an older version has it: `1_000` is `1000`
unfoldable pub joined : EsVersion → List ℕ → List ℕ
joined v raw = if may_join v raw then without_underscores raw else raw

-- it is another text than the raw
unfoldable pub makes_joined : EsVersion → List ℕ → Bool
makes_joined v raw = may_join v raw && has_byte 95 raw

-- ---- numbers

-- `0b11`, `0o17`
unfoldable pub is_new_radix : List ℕ → Bool
is_new_radix (a ∷ b ∷ c ∷ cs) = (a == 48) && (is_either 98 66 b || is_either 111 79 b)
is_new_radix raw = false

-- a raw that a version has: `0b11` is `3` for one that hasn't it
unfoldable pub suits : EsVersion → List ℕ → Bool
suits v raw = not (up_to_es5 v && is_new_radix raw)

unfoldable pub prints_number_raw : Config → Number → Bool
prints_number_raw config n = not config.minify && raw_is (suits config.target) n.raw

unfoldable pub is_finite : NumberValue → Bool
is_finite (Finite d) = true
is_finite v = false

unfoldable pub decimal_text : Bool → Decimal → List ℕ
decimal_text minify d = if minify then minified_text d else plain_text d

-- a number by its value; of one that is infinite the raw stays
unfoldable pub by_value : Bool → NumberValue → List ℕ → List ℕ
by_value minify (Finite d) raw = decimal_text minify d
by_value minify NaN raw = codes "NaN"
by_value minify v raw = raw

-- a number that isn't a name
unfoldable pub number_text : Config → Number → List ℕ
number_text config n = if prints_number_raw config n then joined config.target (raw_text n.raw) else by_value config.minify n.value (raw_text n.raw)

unfoldable pub makes_number : Config → Number → Bool
makes_number config n = if prints_number_raw config n then makes_joined config.target (raw_text n.raw) else is_finite n.value

-- a number without a raw that no literal spells
unfoldable pub is_named : Number → Bool
is_named n = is_none n.raw && not (is_finite n.value)

-- how `Infinity` begins
unfoldable pub infinity_text : Bool → List ℕ
infinity_text negative = if negative then codes "-" else codes "Infinity"

-- `Infinity`, `-Infinity`
unfoldable pub infinity : Bool → Bool → Span → Part
infinity in_lit negative span rest =
    begun_in in_lit span (infinity_text negative)
    (commit_pending_semi (leading_comments span.lo (sign negative span (number_name span (codes "Infinity") rest))))

-- `NaN`
unfoldable pub not_a_number : Bool → Span → Part
not_a_number in_lit span rest = begun_in in_lit span (codes "NaN") (settled_begun span (codes "NaN") (number_name dummy_span (codes "NaN") rest))

unfoldable pub named_number : Bool → Span → NumberValue → Part
named_number in_lit span Infinity rest = infinity in_lit false span rest
named_number in_lit span NegInfinity rest = infinity in_lit true span rest
named_number in_lit span v rest = not_a_number in_lit span rest

-- a number by this text
unfoldable pub number_by : Bool → Span → List ℕ → Part
number_by in_lit span t rest = begun_in in_lit span t (settled_begun span t (number t rest))

unfoldable pub spelled_number : Bool → Number → Part
spelled_number in_lit n rest env = step (Remake (makes_number env.config n)) (number_by in_lit n.span (number_text env.config n) rest) env

unfoldable pub number_at : Bool → Number → Part
number_at in_lit n rest = if is_named n then named_number in_lit n.span n.value rest else spelled_number in_lit n rest

-- `1`
abbrev pub number_lit : Number → Part
number_lit n = number_at false n

-- ---- a number before the dot of a property, which begins at a position

-- the comments between a number's own dot and the one of its property
unfoldable pub between_dots : BytePos → Part
between_dots pos rest = if nat_lt pos.0 2 then rest else leading_comments (record { 0 = pos.0 - 2 }) rest

-- a text has a dot of its own where the next one would be read into it: `1..a`, but `1.5.a`
unfoldable pub before_property : List ℕ → BytePos → Part
before_property t pos rest = if takes_dot (chars (size_of t)) then dotted_number t (between_dots pos rest) else number t rest

unfoldable pub object_by : Span → BytePos → List ℕ → Part
object_by span pos t rest = settled_begun span t (before_property t pos rest)

unfoldable pub spelled_object : Number → BytePos → Part
spelled_object n pos rest env = step (Remake (makes_number env.config n)) (object_by n.span pos (number_text env.config n) rest) env

-- `1.` of `1..a`
unfoldable pub number_object : Number → BytePos → Part
number_object n pos rest = if is_named n then named_number false n.span n.value rest else spelled_object n pos rest

-- ---- big integers

unfoldable pub prints_big_raw : Config → BigInt → Bool
prints_big_raw config n = not config.minify && not (is_none n.raw)

-- a big integer, up to its `n` where that is a call of its own
unfoldable pub big_int_text : Config → BigInt → List ℕ
big_int_text config n = if prints_big_raw config n then joined config.target (raw_text n.raw) else big_text n

unfoldable pub makes_big_int : Config → BigInt → Bool
makes_big_int config n = if prints_big_raw config n then makes_joined config.target (raw_text n.raw) else true

-- a big integer by this text, which is the whole or what stands before the `n`
unfoldable pub big_int_parts : Bool → Span → List ℕ → Part
big_int_parts whole span t rest = if whole then big_integer span t rest else big_digits span t rest

unfoldable pub big_int_by : Bool → Bool → Span → List ℕ → Part
big_int_by in_lit whole span t rest = begun_in in_lit span t (leading_comments span.lo (big_int_parts whole span t rest))

unfoldable pub big_int_at : Bool → BigInt → Part
big_int_at in_lit n rest env = step (Remake (makes_big_int env.config n)) (big_int_by in_lit (prints_big_raw env.config n) n.span (big_int_text env.config n) rest) env

-- `1n`
abbrev pub big_int_lit : BigInt → Part
big_int_lit n = big_int_at false n

-- ---- regular expressions

-- `/a/g`
unfoldable pub regex_lit : Regex → Part
regex_lit n rest = regex (string_bytes n.exp) (string_bytes n.flags) rest

-- ---- a literal; of JSX text nothing is written as one

unfoldable pub lit : Lit → Part
lit (lits.Str n) rest = string_at true n rest
lit (lits.Bool n) rest = begun n.span (bool_text n.value) (bool_lit n rest)
lit (lits.Null n) rest = begun n.span (codes "null") (null_lit n rest)
lit (lits.Num n) rest = number_at true n.value rest
lit (lits.BigInt n) rest = big_int_at true n.value rest
lit (lits.Regex n) rest = begun n.span (codes "/") (regex_lit n rest)
lit (lits.JSXText n) rest = rest
