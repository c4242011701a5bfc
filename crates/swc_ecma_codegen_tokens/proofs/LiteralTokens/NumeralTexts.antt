-- Numerals are ASCII.
use Rattle.std.proofs.Common.{◌≡◌, ℕ, ◌<◌, Bool, true, false, not, cond, ◌&&◌, ◌||◌, ◌==◌, List, [], ◌∷◌, nat_lt, nat_le, refl, sym, ◌∙◌, subst, inl, inr, arith}
use Rattle.std.specs.Str.{IsUtf8, chars}
use Rattle.std.proofs.lemmas.Bool.{and_from, and_parts, or_cases, eqb-true, leb-true, lt-ltb, false≢true}
use Rattle.std.proofs.lemmas.Str.{encodes-chars, encodes-IsAscii}
use Rattle.swc_ecma_codegen_grammar.specs.Chars.{is_digit}
use Rattle.swc_ecma_codegen_grammar.specs.Numbers.{is_octal, is_hex, is_binary, is_either, power, exponent, fraction, integer, radix, legacy, after_zero, is_numeric}
use Rattle.swc_ecma_codegen_grammar.specs.Texts.{is_empty}
use Rattle.swc_ecma_codegen_literals.specs.AsciiNames.{is_ascii_text}
use Rattle.swc_ecma_codegen_literals.proofs.SpelledTexts.{ascii_from_all}

-- ---- characters

by_cond : {P : Type 0} (b x y : Bool) → cond b x y ≡ true → (b ≡ true → x ≡ true → P) → (b ≡ false → y ≡ true → P) → P
by_cond true x y h f g = f refl h
by_cond false x y h f g = g refl h

between : (c low high : ℕ) → high < 128 → (nat_le low c && nat_le c high) ≡ true → nat_lt c 128 ≡ true
between c low high l h = let p = leb-true c high (and_parts (nat_le low c) (nat_le c high) h).1 in lt-ltb c 128 (omega (arith, p, l))

same_low : (c d : ℕ) → d < 128 → (c == d) ≡ true → nat_lt c 128 ≡ true
same_low c d l h = let e = eqb-true c d h in lt-ltb c 128 (omega (arith, e, l))

either_low : (a b c : ℕ) → a < 128 → b < 128 → is_either a b c ≡ true → nat_lt c 128 ≡ true
unfolding is_either
either_low a b c k l h = elim (or_cases (c == a) (c == b) h) [ inl e ↦ same_low c a k e | inr e ↦ same_low c b l e ]

digit_low : (c : ℕ) → is_digit c ≡ true → nat_lt c 128 ≡ true
unfolding is_digit
digit_low c h = between c 48 57 (omega arith) h

octal_low : (c : ℕ) → is_octal c ≡ true → nat_lt c 128 ≡ true
unfolding is_octal
octal_low c h = between c 48 55 (omega arith) h

binary_low : (c : ℕ) → is_binary c ≡ true → nat_lt c 128 ≡ true
unfolding is_binary
binary_low c h = elim (or_cases (c == 48) (c == 49) h) [ inl e ↦ same_low c 48 (omega arith) e | inr e ↦ same_low c 49 (omega arith) e ]

hex_low : (c : ℕ) → is_hex c ≡ true → nat_lt c 128 ≡ true
unfolding is_hex
hex_low c h = elim (or_cases (is_digit c) ((nat_le 65 c && nat_le c 70) || (nat_le 97 c && nat_le c 102)) h) [
  | inl d ↦ digit_low c d
  | inr d ↦ elim (or_cases (nat_le 65 c && nat_le c 70) (nat_le 97 c && nat_le c 102) d) [ inl e ↦ between c 65 70 (omega arith) e | inr e ↦ between c 97 102 (omega arith) e ]
]

more : (c : ℕ) (cs : List ℕ) → nat_lt c 128 ≡ true → is_ascii_text cs ≡ true → is_ascii_text (c ∷ cs) ≡ true
more c cs h k = and_from (nat_lt c 128) (is_ascii_text cs) h k

-- ---- texts

empty_ascii : (t : List ℕ) → is_empty t ≡ true → is_ascii_text t ≡ true
unfolding is_empty
empty_ascii [] h = refl
empty_ascii (c ∷ cs) h = absurd (false≢true h)

power_ascii : (due : Bool) (t : List ℕ) → power due t ≡ true → is_ascii_text t ≡ true
unfolding power
power_ascii due [] h = refl
power_ascii due (c ∷ cs) h =
    by_cond (is_digit c) (power false cs) ((c == 95) && (not due && power true cs)) h
    (λ d k. more c cs (digit_low c d) (power_ascii false cs k))
    (λ _ k. let p = and_parts (c == 95) (not due && power true cs) k in more c cs (same_low c 95 (omega arith) p.0) (power_ascii true cs (and_parts (not due) (power true cs) p.1).1))

exponent_ascii : (t : List ℕ) → exponent t ≡ true → is_ascii_text t ≡ true
unfolding exponent
exponent_ascii [] h = refl
exponent_ascii (c ∷ cs) h =
    by_cond (is_either 43 45 c) (power true cs) (is_digit c && power false cs) h
    (λ e k. more c cs (either_low 43 45 c (omega arith) (omega arith) e) (power_ascii true cs k))
    (λ _ k. let p = and_parts (is_digit c) (power false cs) k in more c cs (digit_low c p.0) (power_ascii false cs p.1))

-- where `e` begins an exponent
powered : (c : ℕ) (cs : List ℕ) → is_either 101 69 c ≡ true → exponent cs ≡ true → is_ascii_text (c ∷ cs) ≡ true
powered c cs e k = more c cs (either_low 101 69 c (omega arith) (omega arith) e) (exponent_ascii cs k)

fraction_ascii : (joins due : Bool) (t : List ℕ) → fraction joins due t ≡ true → is_ascii_text t ≡ true
unfolding fraction
fraction_ascii joins due [] h = refl
fraction_ascii joins due (c ∷ cs) h =
    let joined : Bool = (c == 95) && (joins && fraction false true cs) in
    by_cond (is_digit c) (fraction true false cs) (cond (is_either 101 69 c) (not due && exponent cs) joined) h
    (λ d k. more c cs (digit_low c d) (fraction_ascii true false cs k))
    (λ _ k. by_cond (is_either 101 69 c) (not due && exponent cs) joined k
    (λ e m. powered c cs e (and_parts (not due) (exponent cs) m).1)
    (λ _ m. let p = and_parts (c == 95) (joins && fraction false true cs) m in more c cs (same_low c 95 (omega arith) p.0) (fraction_ascii false true cs (and_parts joins (fraction false true cs) p.1).1)))

-- the suffix of a big integer
suffix_ascii : (c : ℕ) (cs : List ℕ) → ((c == 110) && is_empty cs) ≡ true → is_ascii_text (c ∷ cs) ≡ true
suffix_ascii c cs h = let p = and_parts (c == 110) (is_empty cs) h in more c cs (same_low c 110 (omega arith) p.0) (empty_ascii cs p.1)

due_suffix_ascii : (due : Bool) (c : ℕ) (cs : List ℕ) → ((c == 110) && (not due && is_empty cs)) ≡ true → is_ascii_text (c ∷ cs) ≡ true
due_suffix_ascii due c cs h = let p = and_parts (c == 110) (not due && is_empty cs) h in suffix_ascii c cs (and_from (c == 110) (is_empty cs) p.0 (and_parts (not due) (is_empty cs) p.1).1)

integer_ascii : (due : Bool) (t : List ℕ) → integer due t ≡ true → is_ascii_text t ≡ true
unfolding integer
integer_ascii due [] h = refl
integer_ascii due (c ∷ cs) h =
    let suffix : Bool = (c == 110) && (not due && is_empty cs) in
    let power : Bool = cond (is_either 101 69 c) (not due && exponent cs) suffix in
    let dot : Bool = cond (c == 46) (not due && fraction false false cs) power in
    by_cond (is_digit c) (integer false cs) (cond (c == 95) (not due && integer true cs) dot) h
    (λ d k. more c cs (digit_low c d) (integer_ascii false cs k))
    (λ _ k. by_cond (c == 95) (not due && integer true cs) dot k
    (λ e m. more c cs (same_low c 95 (omega arith) e) (integer_ascii true cs (and_parts (not due) (integer true cs) m).1))
    (λ _ m. by_cond (c == 46) (not due && fraction false false cs) power m
    (λ e n. more c cs (same_low c 46 (omega arith) e) (fraction_ascii false false cs (and_parts (not due) (fraction false false cs) n).1))
    (λ _ n. by_cond (is_either 101 69 c) (not due && exponent cs) suffix n (λ e o. powered c cs e (and_parts (not due) (exponent cs) o).1) (λ _ o. due_suffix_ascii due c cs o))))

radix_ascii : (among : ℕ → Bool) (due : Bool) (t : List ℕ) → ((c : ℕ) → among c ≡ true → nat_lt c 128 ≡ true) → radix among due t ≡ true → is_ascii_text t ≡ true
unfolding radix
radix_ascii among due [] low h = refl
radix_ascii among due (c ∷ cs) low h =
    let suffix : Bool = (c == 110) && (not due && is_empty cs) in
    by_cond (among c) (radix among false cs) (cond (c == 95) (not due && radix among true cs) suffix) h
    (λ d k. more c cs (low c d) (radix_ascii among false cs low k))
    (λ _ k. by_cond (c == 95) (not due && radix among true cs) suffix k
    (λ e m. more c cs (same_low c 95 (omega arith) e) (radix_ascii among true cs low (and_parts (not due) (radix among true cs) m).1))
    (λ _ m. due_suffix_ascii due c cs m))

legacy_ascii : (octal : Bool) (t : List ℕ) → legacy octal t ≡ true → is_ascii_text t ≡ true
unfolding legacy
legacy_ascii octal [] h = refl
legacy_ascii octal (c ∷ cs) h =
    let power : Bool = is_either 101 69 c && (not octal && exponent cs) in
    by_cond (is_digit c) (legacy (octal && is_octal c) cs) (cond (c == 46) (not octal && fraction false false cs) power) h
    (λ d k. more c cs (digit_low c d) (legacy_ascii (octal && is_octal c) cs k))
    (λ _ k. by_cond (c == 46) (not octal && fraction false false cs) power k
    (λ e m. more c cs (same_low c 46 (omega arith) e) (fraction_ascii false false cs (and_parts (not octal) (fraction false false cs) m).1))
    (λ _ m. let p = and_parts (is_either 101 69 c) (not octal && exponent cs) m in powered c cs p.0 (and_parts (not octal) (exponent cs) p.1).1))

-- after `0x`, `0o` and `0b`
prefixed_ascii : (c : ℕ) (cs : List ℕ) → cond (is_either 120 88 c) (radix is_hex true cs) (cond (is_either 111 79 c) (radix is_octal true cs) (cond (is_either 98 66 c) (radix is_binary true cs) ((c == 110) && is_empty cs))) ≡ true → is_ascii_text (c ∷ cs) ≡ true
prefixed_ascii c cs h =
    let suffix : Bool = (c == 110) && is_empty cs in
    let binary : Bool = cond (is_either 98 66 c) (radix is_binary true cs) suffix in
    by_cond (is_either 120 88 c) (radix is_hex true cs) (cond (is_either 111 79 c) (radix is_octal true cs) binary) h
    (λ e k. more c cs (either_low 120 88 c (omega arith) (omega arith) e) (radix_ascii is_hex true cs hex_low k))
    (λ _ k. by_cond (is_either 111 79 c) (radix is_octal true cs) binary k
    (λ e m. more c cs (either_low 111 79 c (omega arith) (omega arith) e) (radix_ascii is_octal true cs octal_low m))
    (λ _ m. by_cond (is_either 98 66 c) (radix is_binary true cs) suffix m
    (λ e n. more c cs (either_low 98 66 c (omega arith) (omega arith) e) (radix_ascii is_binary true cs binary_low n))
    (λ _ n. suffix_ascii c cs n)))

after_zero_ascii : (t : List ℕ) → after_zero t ≡ true → is_ascii_text t ≡ true
unfolding after_zero
after_zero_ascii [] h = refl
after_zero_ascii (c ∷ cs) h =
    let rest : Bool = cond (is_either 120 88 c) (radix is_hex true cs) (cond (is_either 111 79 c) (radix is_octal true cs) (cond (is_either 98 66 c) (radix is_binary true cs) ((c == 110) && is_empty cs))) in
    let power : Bool = cond (is_either 101 69 c) (exponent cs) rest in
    by_cond (is_digit c) (legacy (is_octal c) cs) (cond (c == 46) (fraction false false cs) power) h
    (λ d k. more c cs (digit_low c d) (legacy_ascii (is_octal c) cs k))
    (λ _ k. by_cond (c == 46) (fraction false false cs) power k
    (λ e m. more c cs (same_low c 46 (omega arith) e) (fraction_ascii false false cs m))
    (λ _ m. by_cond (is_either 101 69 c) (exponent cs) rest m (λ e n. powered c cs e n) (λ _ n. prefixed_ascii c cs n)))

pub numeric_ascii : (t : List ℕ) → is_numeric t ≡ true → is_ascii_text t ≡ true
unfolding is_numeric
numeric_ascii [] h = refl
numeric_ascii (c ∷ cs) h =
    by_cond (c == 48) (after_zero cs) (cond (is_digit c) (integer false cs) ((c == 46) && fraction false true cs)) h
    (λ e k. more c cs (same_low c 48 (omega arith) e) (after_zero_ascii cs k))
    (λ _ k. by_cond (is_digit c) (integer false cs) ((c == 46) && fraction false true cs) k
    (λ d m. more c cs (digit_low c d) (integer_ascii false cs m))
    (λ _ m. let p = and_parts (c == 46) (fraction false true cs) m in more c cs (same_low c 46 (omega arith) p.0) (fraction_ascii false true cs p.1)))

-- a text whose characters are ASCII is so by its bytes
pub ascii_by_chars : (t : List ℕ) → IsUtf8 t → is_ascii_text (chars t) ≡ true → is_ascii_text t ≡ true
ascii_by_chars t u a = let e : t ≡ chars t = sym (encodes-chars t u) ∙ encodes-IsAscii (chars t) (ascii_from_all (chars t) a) in subst (λ z. is_ascii_text z ≡ true) (sym e) a
