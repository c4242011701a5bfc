-- What a text begins with: by its characters and by its bytes.
use Rattle.std.proofs.Common.{◌≡◌, ℕ, ◌+◌, ◌<◌, ◌≤◌, Bool, true, false, ◌&&◌, ◌||◌, ◌==◌, List, [], ◌∷◌, ◌++◌, length, slice_index, nat_lt, nat_le, refl, sym, ap, ◌∙◌, arith, inl, inr, if◌then◌else◌, length-append}
use Rattle.std.specs.Str.{chars, IsUtf8}
use Rattle.std.specs.Char.{encode_utf8}
use Rattle.std.proofs.lemmas.List.{nil_from_length}
use Rattle.std.proofs.lemmas.Bool.{cases_lt, false_from_ne_true, and_parts, leb-true, eqb-true, or_cases, and_right}
use Rattle.std.proofs.lemmas.Str.{char_from_byte, encode_ascii, chars_from_encodes, len_utf8_bounds, length-encode}
use lib.Utf8.{encodes}
use Rattle.swc_ecma_codegen_grammar.specs.Chars.{is_digit, begins_digit}
use Rattle.swc_ecma_codegen_grammar.specs.Numbers.{is_hex, is_either}
use Rattle.swc_ecma_codegen_grammar.specs.CodeUnits.{begins_like, is_high_digit, short_escape, long_escape, escape_length}

-- tests that ASCII characters alone pass
abbrev AllAscii : List (ℕ → Bool) → Type 0
AllAscii [] = Unit {0}
AllAscii (p ∷ ps) = ((c : ℕ) → p c ≡ true → c < 128) × AllAscii ps

front_fails : (p : ℕ → Bool) (ps : List (ℕ → Bool)) (bs : List ℕ) → 0 < length bs → p (slice_index bs 0) ≡ false → begins_like (p ∷ ps) bs ≡ false
unfolding begins_like
front_fails p ps [] l h = absurd (omega (arith, l))
front_fails p ps (b ∷ bs) l h = ap (λ x. x && begins_like ps bs) h

like_encodes : (ps : List (ℕ → Bool)) (cs : List ℕ) → AllAscii ps → begins_like ps cs ≡ begins_like ps (encodes cs)
unfolding begins_like
like_encodes [] cs a = refl
like_encodes (p ∷ ps) [] a = refl
like_encodes (p ∷ ps) (c ∷ cs) a = elim (cases_lt c 128) [
  | inl l ↦ rw (encode_ascii c l) (ap (λ x. p c && x) (like_encodes ps cs a.1))
  | inr g ↦ sides g
]
  where
    sides : 128 ≤ c → begins_like (p ∷ ps) (c ∷ cs) ≡ begins_like (p ∷ ps) (encode_utf8 c ++ encodes cs)
    sides g =
        let bs = encode_utf8 c ++ encodes cs in
        let some : 0 < length bs = rw length-append (let m = (len_utf8_bounds c).0 in rw length-encode (omega (arith, m))) in
        let high : p (slice_index bs 0) ≡ false = false_from_ne_true (p (slice_index bs 0)) (λ t. let l = a.0 (slice_index bs 0) t in let e = char_from_byte bs (encodes cs) c refl l some in omega (arith, e, l, g)) in
        let low : p c ≡ false = false_from_ne_true (p c) (λ t. let l = a.0 c t in omega (arith, l, g)) in
        front_fails p ps (c ∷ cs) (omega arith) low ∙ sym (front_fails p ps bs some high)

-- a text begins alike by its characters and by its bytes
pub like_bytes : (ps : List (ℕ → Bool)) (bs : List ℕ) → AllAscii ps → IsUtf8 bs → begins_like ps (chars bs) ≡ begins_like ps bs
like_bytes ps bs a u =
    let is_chars : chars bs ≡ u.0 = sym (chars_from_encodes u.0 bs u u.1.1) in
    rw is_chars (like_encodes ps u.0 a ∙ ap (λ x. begins_like ps x) u.1.1)

digit_ascii : (c : ℕ) → is_digit c ≡ true → c < 128
unfolding is_digit
digit_ascii c h = let l : c ≤ 57 = leb-true c 57 (and_parts (nat_le 48 c) (nat_le c 57) h).1 in omega (arith, l)

pub hex_ascii : (c : ℕ) → is_hex c ≡ true → c < 128
unfolding is_hex
hex_ascii c h =
    elim (or_cases (is_digit c) ((nat_le 65 c && nat_le c 70) || (nat_le 97 c && nat_le c 102)) h) [
      | inl d ↦ digit_ascii c d
      | inr d ↦ elim (or_cases (nat_le 65 c && nat_le c 70) (nat_le 97 c && nat_le c 102) d) [
        | inl u ↦ let l : c ≤ 70 = leb-true c 70 (and_parts (nat_le 65 c) (nat_le c 70) u).1 in omega (arith, l)
        | inr u ↦ let l : c ≤ 102 = leb-true c 102 (and_parts (nat_le 97 c) (nat_le c 102) u).1 in omega (arith, l)
      ]
    ]

same_ascii : (c a : ℕ) → a < 128 → (c == a) ≡ true → c < 128
same_ascii c a l h = rw (eqb-true c a h) l

letter_d_ascii : (c : ℕ) → is_either 68 100 c ≡ true → c < 128
unfolding is_either
letter_d_ascii c h = elim (or_cases (c == 68) (c == 100) h) [ inl e ↦ same_ascii c 68 (omega arith) e | inr e ↦ same_ascii c 100 (omega arith) e ]

high_ascii : (c : ℕ) → is_high_digit c ≡ true → c < 128
unfolding is_high_digit
high_ascii c h = hex_ascii c (and_parts (is_hex c) (nat_le 56 c) h).0

short_ascii : AllAscii short_escape
unfolding short_escape
short_ascii = (λ c h. same_ascii c 117 (omega arith) h, (letter_d_ascii, (high_ascii, (hex_ascii, (hex_ascii, tt)))))

long_ascii : AllAscii long_escape
unfolding long_escape
long_ascii = (λ c h. same_ascii c 117 (omega arith) h, (λ c h. same_ascii c 123 (omega arith) h, (letter_d_ascii, (high_ascii, (hex_ascii, (hex_ascii, (λ c h. same_ascii c 125 (omega arith) h, tt)))))))

pub escape_length_bytes : (bs : List ℕ) → IsUtf8 bs → escape_length (chars bs) ≡ escape_length bs
unfolding escape_length
escape_length_bytes bs u = rw (like_bytes short_escape bs short_ascii u, like_bytes long_escape bs long_ascii u) refl

-- the same, place by place
abbrev pub surrogate_at : ℕ → ℕ → ℕ → ℕ → Bool
surrogate_at a b c d = is_either 68 100 a && (is_high_digit b && (is_hex c && is_hex d))

and_true : (b : Bool) → (b && true) ≡ b
and_true true = refl
and_true false = refl

pub short_places : (t : List ℕ) → 5 ≤ length t → begins_like short_escape t ≡ ((slice_index t 0 == 117) && surrogate_at (slice_index t 1) (slice_index t 2) (slice_index t 3) (slice_index t 4))
unfolding begins_like short_escape
short_places [] l = absurd (omega (arith, l))
short_places (a ∷ []) l = absurd (omega (arith, l))
short_places (a ∷ b ∷ []) l = absurd (omega (arith, l))
short_places (a ∷ b ∷ c ∷ []) l = absurd (omega (arith, l))
short_places (a ∷ b ∷ c ∷ d ∷ []) l = absurd (omega (arith, l))
short_places (a ∷ b ∷ c ∷ d ∷ e ∷ t) l = rw (and_true (is_hex e)) refl

pub too_short : (ps : List (ℕ → Bool)) (t : List ℕ) → length t < length ps → begins_like ps t ≡ false
unfolding begins_like
too_short [] t l = absurd (omega (arith, l))
too_short (p ∷ ps) [] l = refl
too_short (p ∷ ps) (c ∷ cs) l = and_right (p c) (begins_like ps cs) (too_short ps cs (omega (arith, l)))

pub short_none : (t : List ℕ) → length t < 5 → begins_like short_escape t ≡ false
unfolding short_escape
short_none t l = too_short short_escape t l

pub long_places : (t : List ℕ) → 7 ≤ length t → begins_like long_escape t ≡ ((slice_index t 0 == 117) && ((slice_index t 1 == 123) && (surrogate_at (slice_index t 2) (slice_index t 3) (slice_index t 4) (slice_index t 5) && (slice_index t 6 == 125))))
unfolding begins_like long_escape
long_places [] l = absurd (omega (arith, l))
long_places (a ∷ []) l = absurd (omega (arith, l))
long_places (a ∷ b ∷ []) l = absurd (omega (arith, l))
long_places (a ∷ b ∷ c ∷ []) l = absurd (omega (arith, l))
long_places (a ∷ b ∷ c ∷ d ∷ []) l = absurd (omega (arith, l))
long_places (a ∷ b ∷ c ∷ d ∷ e ∷ []) l = absurd (omega (arith, l))
long_places (a ∷ b ∷ c ∷ d ∷ e ∷ f ∷ []) l = absurd (omega (arith, l))
long_places (a ∷ b ∷ c ∷ d ∷ e ∷ f ∷ g ∷ t) l = ap (λ x. (a == 117) && ((b == 123) && x)) (grouped (is_either 68 100 c) (is_high_digit d) (is_hex e) (is_hex f) (g == 125))
  where
    grouped : (c d e f g : Bool) → (c && (d && (e && (f && (g && true))))) ≡ ((c && (d && (e && f))) && g)
    grouped true true true true true = refl
    grouped true true true true false = refl
    grouped true true true false g = refl
    grouped true true false f g = refl
    grouped true false e f g = refl
    grouped false d e f g = refl

pub long_none : (t : List ℕ) → length t < 7 → begins_like long_escape t ≡ false
unfolding long_escape
long_none t l = too_short long_escape t l

-- a written surrogate escape in either form
pub either_escape : (t : List ℕ) → nat_lt 0 (escape_length t) ≡ (begins_like short_escape t || begins_like long_escape t)
unfolding escape_length
either_escape t = forms (begins_like short_escape t) (begins_like long_escape t)
  where
    forms : (a b : Bool) → nat_lt 0 (if a then 5 else if b then 7 else 0) ≡ (a || b)
    forms true b = refl
    forms false true = refl
    forms false false = refl

begins_like_digit : (cs : List ℕ) → begins_digit cs ≡ begins_like (is_digit ∷ []) cs
unfolding begins_digit begins_like
begins_like_digit [] = refl
begins_like_digit (c ∷ cs) = sym (and_true (is_digit c))

begins_at : (t : List ℕ) → 0 < length t → begins_digit t ≡ is_digit (slice_index t 0)
unfolding begins_digit
begins_at [] l = absurd (omega (arith, l))
begins_at (c ∷ cs) l = refl

nothing : begins_digit (chars []) ≡ false
unfolding chars begins_digit
nothing = refl

pub digit_first : (bs : List ℕ) → IsUtf8 bs → begins_digit (chars bs) ≡ begins_digit bs
digit_first bs u = begins_like_digit (chars bs) ∙ (like_bytes (is_digit ∷ []) bs (digit_ascii, tt) u ∙ sym (begins_like_digit bs))

-- by the first byte of a text that was looked at as bytes
pub digit_place : (t bs : List ℕ) (b : ℕ) → t ≡ bs → IsUtf8 bs → 0 < length t → b ≡ slice_index t 0 → is_digit b ≡ begins_digit (chars bs)
digit_place t bs b e u l f = sym (digit_first bs u ∙ (ap begins_digit (sym e) ∙ (begins_at t l ∙ ap is_digit (sym f))))

pub no_digit : (t bs : List ℕ) → t ≡ bs → length t ≡ 0 → begins_digit (chars bs) ≡ false
no_digit t bs e l = ap (λ x. begins_digit (chars x)) (sym e ∙ nil_from_length t l) ∙ nothing

pub surrogate_place : (t bs : List ℕ) → t ≡ bs → IsUtf8 bs → nat_lt 0 (escape_length (chars bs)) ≡ (begins_like short_escape t || begins_like long_escape t)
surrogate_place t bs e u = ap (λ n. nat_lt 0 n) (escape_length_bytes bs u) ∙ (either_escape bs ∙ ap (λ x. begins_like short_escape x || begins_like long_escape x) (sym e))
