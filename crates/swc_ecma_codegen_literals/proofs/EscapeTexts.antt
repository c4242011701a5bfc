-- The escapes of characters are ASCII.
use Rattle.std.proofs.Common.{◌≡◌, ℕ, ◌+◌, ◌-◌, ◌/◌, ◌%◌, ◌^◌, ◌<◌, ◌≤◌, Bool, true, false, ◌&&◌, ◌||◌, ◌==◌, List, [], ◌∷◌, ◌++◌, nat_lt, nat_le, refl, ◌∙◌, arith, inl, inr, if◌then◌else◌, codes}
use Rattle.std.specs.Fmt.{digit_glyph, digits}
use Rattle.std.specs.List.{list_all}
use Rattle.std.specs.Str.Parse.{AllDigits, IsNumeral, digits_value}
use Rattle.std.proofs.lemmas.Bool.{cases_lt, lt-ltb, le-ltb, and_from, ltb-true, ltb-false, le-leb, or_left, or_right}
use Rattle.std.proofs.lemmas.List.Folds.{list_all-append}
use Rattle.std.proofs.lemmas.Fmt.{digits_is_IsNumeral}
use Rattle.swc_ecma_codegen_common.specs.declared.versions.EsVersion.{EsVersion}
use Rattle.swc_ecma_codegen_grammar.specs.Numbers.{is_hex}
use Rattle.swc_ecma_codegen_grammar.specs.Chars.{begins_digit, is_digit}
use Rattle.swc_ecma_codegen_grammar.specs.CodeUnits.{escape_length}
use Rattle.swc_ecma_codegen_literals.specs.StringTexts.{up_to_es5, below_es5, escape_text, null_escape, backslash_escape, code_escape, hex_escape, unit_escape, pair_escape, braced_escape}
use Rattle.swc_ecma_codegen_literals.proofs.Numerals.{hex_from_value}
use Rattle.swc_ecma_codegen_literals.proofs.Fronts.{hex_ascii}

abbrev pub is_ascii_char : ℕ → Bool
is_ascii_char c = nat_lt c 128

pub glyph_hex : (upper : Bool) (d : ℕ) → d < 16 → is_hex (digit_glyph upper d) ≡ true
unfolding is_hex is_digit
glyph_hex upper d l = elim (cases_lt d 10) [
  | inl s ↦ rw (lt-ltb d 10 s) (or_left (nat_le 48 (48 + d) && nat_le (48 + d) 57) _ (between (48 + d) 48 57 (omega arith) (omega arith)))
  | inr b ↦ rw (le-ltb d 10 b) (case upper b)
]
  where
    between : (c a b : ℕ) → a ≤ c → c ≤ b → (nat_le a c && nat_le c b) ≡ true
    between c a b l h = and_from (nat_le a c) (nat_le c b) (le-leb a c l) (le-leb c b h)

    case : (upper : Bool) → 10 ≤ d → is_hex (if upper then 55 + d else 87 + d) ≡ true
    case true b = or_right (nat_le 48 (55 + d) && nat_le (55 + d) 57) _ (or_left (nat_le 65 (55 + d) && nat_le (55 + d) 70) _ (between (55 + d) 65 70 (omega arith) (omega arith)))
    case false b = or_right (nat_le 48 (87 + d) && nat_le (87 + d) 57) _ (or_right (nat_le 65 (87 + d) && nat_le (87 + d) 70) _ (between (87 + d) 97 102 (omega arith) (omega arith)))

glyph_ascii : (upper : Bool) (d : ℕ) → d < 16 → is_ascii_char (digit_glyph upper d) ≡ true
glyph_ascii upper d l = lt-ltb (digit_glyph upper d) 128 (hex_ascii (digit_glyph upper d) (glyph_hex upper d l))

pub hex_escape_ascii : (c : ℕ) → c < 256 → list_all is_ascii_char (hex_escape c) ≡ true
unfolding hex_escape
hex_escape_ascii c l = rw (glyph_ascii false (c / 16) (omega arith), glyph_ascii false (c % 16) (omega arith)) refl

pub unit_escape_ascii : (c : ℕ) → c < 65536 → list_all is_ascii_char (unit_escape c) ≡ true
unfolding unit_escape
unit_escape_ascii c l = rw (glyph_ascii true (c / 4096) (omega arith), glyph_ascii true (c / 256 % 16) (omega arith), glyph_ascii true (c / 16 % 16) (omega arith), glyph_ascii true (c % 16) (omega arith)) refl

both_ascii : (xs ys : List ℕ) → list_all is_ascii_char xs ≡ true → list_all is_ascii_char ys ≡ true → list_all is_ascii_char (xs ++ ys) ≡ true
both_ascii xs ys h g = list_all-append is_ascii_char xs ys ∙ and_from (list_all is_ascii_char xs) (list_all is_ascii_char ys) h g

pair_escape_ascii : (c : ℕ) → 65536 ≤ c → c < 1114112 → list_all is_ascii_char (pair_escape c) ≡ true
unfolding pair_escape
pair_escape_ascii c l h = both_ascii (unit_escape (55296 + (c - 65536) / 1024)) (unit_escape (56320 + (c - 65536) % 1024)) (unit_escape_ascii (55296 + (c - 65536) / 1024) (omega arith)) (unit_escape_ascii (56320 + (c - 65536) % 1024) (omega arith))

all_digits_ascii : (ds : List ℕ) → AllDigits 16 ds → list_all is_ascii_char ds ≡ true
all_digits_ascii [] h = refl
all_digits_ascii (d ∷ ds) h = and_from (is_ascii_char d) (list_all is_ascii_char ds) (lt-ltb d 128 (hex_ascii d (hex_from_value d h.0))) (all_digits_ascii ds h.1)

pub braced_escape_ascii : (c : ℕ) → c < 1114112 → list_all is_ascii_char (braced_escape c) ≡ true
unfolding braced_escape
braced_escape_ascii c l =
    let big : c < 16 ^ 64 = omega (arith, l) in
    let h : IsNumeral 16 (digits 16 true c) × (digits_value 16 (digits 16 true c) ≡ c) = digits_is_IsNumeral 16 true (omega arith) (omega arith) c big in
    both_ascii (codes "\\u{") (digits 16 true c ++ codes "}") refl (both_ascii (digits 16 true c) (codes "}") (all_digits_ascii (digits 16 true c) h.0.1) refl)

-- P of a choice by a test
pub chosen : {X : Type 0} (P : X → Type 0) (b : Bool) (x y : X) → (b ≡ true → P x) → (b ≡ false → P y) → P (if b then x else y)
chosen P true x y h g = h refl
chosen P false x y h g = g refl

pub code_escape_ascii : (v : EsVersion) (c : ℕ) → c < 1114112 → list_all is_ascii_char (code_escape v c) ≡ true
unfolding code_escape
code_escape_ascii v c l =
    let P : List ℕ → Type 0 = λ t. list_all is_ascii_char t ≡ true in
    chosen P (nat_lt c 256) _ _ (λ b. hex_escape_ascii c (ltb-true c 256 b)) (λ b.
    chosen P (nat_lt c 65536) _ _ (λ b. unit_escape_ascii c (ltb-true c 65536 b)) (λ b.
    chosen P (up_to_es5 v) _ _ (λ _. pair_escape_ascii c (ltb-false c 65536 b) l) (λ _. braced_escape_ascii c l)))

pub escape_text_ascii : (v : EsVersion) (c : ℕ) (next : List ℕ) → c < 1114112 → list_all is_ascii_char (escape_text v c next) ≡ true
unfolding escape_text null_escape backslash_escape
escape_text_ascii v c next l =
    let P : List ℕ → Type 0 = λ t. list_all is_ascii_char t ≡ true in
    chosen P (c == 0) _ _ (λ _. chosen P (below_es5 v || begins_digit next) (codes "\\x00") (codes "\\0") (λ _. refl) (λ _. refl)) (λ _.
    chosen P (c == 8) _ _ (λ _. refl) (λ _.
    chosen P (c == 10) _ _ (λ _. refl) (λ _.
    chosen P (c == 11) _ _ (λ _. refl) (λ _.
    chosen P (c == 12) _ _ (λ _. refl) (λ _.
    chosen P (c == 13) _ _ (λ _. refl) (λ _.
    chosen P (c == 92) _ _ (λ _. chosen P (nat_lt 0 (escape_length next)) (codes "\\") (codes "\\\\") (λ _. refl) (λ _. refl)) (λ _.
    chosen P (c == 34) _ _ (λ _. refl) (λ _.
    chosen P (c == 39) _ _ (λ _. refl) (λ _. code_escape_ascii v c l)))))))))
