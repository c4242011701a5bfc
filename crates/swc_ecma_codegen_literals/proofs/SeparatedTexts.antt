-- A text without `_`, by its bytes and by its characters.
use Rattle.std.proofs.Common.{Bool, List, [], ap, append-nil, arith, false, if◌then◌else◌, inl, inr, not, refl, subst, suc, sym, true, zero, ℕ, nat_le, ◌++◌, ◌<◌, ◌==◌, ◌∙◌, ◌∷◌, ◌≡◌, ◌≤◌}
use Rattle.std.specs.Char.{encode_utf8}
use Rattle.std.specs.List.{list_all}
use Rattle.std.specs.Str.{IsAscii, IsUtf8, chars}
use Rattle.std.proofs.lemmas.Bool.{and_from, and_parts, cases_Bool, cases_lt, false≢true, leb-true, ne_eqb}
use Rattle.std.proofs.lemmas.List.Elements.{filter-append}
use Rattle.std.proofs.lemmas.Str.{chars-encodes, encode_ascii, encodes-append, encodes-chars, scalars-chars}
use lib.Utf8.{encodes, scalar, scalars}
use Rattle.swc_ecma_codegen_literals.specs.Separators.{IsWorthAsMuch, without_underscores}
use Rattle.swc_ecma_codegen_literals.specs.ValidNames.{has_byte}
use Rattle.swc_ecma_codegen_literals.proofs.InlineTexts.{wide_char}
use Rattle.swc_ecma_codegen_literals.proofs.SeparatedNumbers.{dropped, kept}
use Rattle.swc_ecma_codegen_literals.proofs.SeparatedValues.{big_digits_same, big_same, big_without, number_same, number_without, radix_same}

-- ---- bytes and characters

wide_stays : (c : ℕ) (cs : List ℕ) → 128 ≤ c → without_underscores (c ∷ cs) ≡ c ∷ without_underscores cs
wide_stays c cs w = kept c cs (ne_eqb c 95 (λ e. omega (arith, e, w)))

wide_bytes : (bs : List ℕ) → list_all (nat_le 128) bs ≡ true → without_underscores bs ≡ bs
wide_bytes [] h = refl
wide_bytes (b ∷ bs) h =
    let p = and_parts (nat_le 128 b) (list_all (nat_le 128) bs) h in
    wide_stays b bs (leb-true 128 b p.0) ∙ ap (λ x. b ∷ x) (wide_bytes bs p.1)

one_bytes : (c : ℕ) → without_underscores (encode_utf8 c) ≡ encodes (without_underscores (c ∷ []))
one_bytes c = elim (cases_lt c 128) [
  | inl l ↦ ap without_underscores (encode_ascii c l) ∙ (elim (cases_Bool (c == 95)) [
    | inl y ↦ dropped c [] y ∙ sym (ap encodes (dropped c [] y))
    | inr n ↦ kept c [] n ∙ (sym (append-nil (encode_utf8 c) ∙ encode_ascii c l) ∙ sym (ap encodes (kept c [] n)))
  ])
  | inr w ↦ wide_bytes (encode_utf8 c) (wide_char c w) ∙ (sym (append-nil (encode_utf8 c)) ∙ sym (ap encodes (wide_stays c [] w)))
]

bytes_without : (cs : List ℕ) → without_underscores (encodes cs) ≡ encodes (without_underscores cs)
bytes_without [] = refl
bytes_without (c ∷ cs) =
    filter-append (λ x. not (x == 95)) (encode_utf8 c) (encodes cs)
    ∙ (ap (λ x. x ++ without_underscores (encodes cs)) (one_bytes c)
    ∙ (ap (λ x. encodes (without_underscores (c ∷ [])) ++ x) (bytes_without cs)
    ∙ (sym (encodes-append (without_underscores (c ∷ [])) (without_underscores cs))
    ∙ ap encodes (sym (filter-append (λ x. not (x == 95)) (c ∷ []) cs)))))

scalars_without : (cs : List ℕ) → scalars cs ≡ true → scalars (without_underscores cs) ≡ true
scalars_without [] h = refl
scalars_without (c ∷ cs) h =
    let p = and_parts (scalar c) (scalars cs) h in
    elim (cases_Bool (c == 95)) [
      | inl y ↦ ap scalars (dropped c cs y) ∙ scalars_without cs p.1
      | inr n ↦ ap scalars (kept c cs n) ∙ and_from (scalar c) _ p.0 (scalars_without cs p.1)
    ]

pub chars_without : (bs : List ℕ) → IsUtf8 bs → chars (without_underscores bs) ≡ without_underscores (chars bs)
chars_without bs u =
    ap (λ x. chars (without_underscores x)) (sym (encodes-chars bs u))
    ∙ (ap chars (bytes_without (chars bs)) ∙ chars-encodes (without_underscores (chars bs)) (scalars_without (chars bs) (scalars-chars bs u)))

-- what is collected of the characters
pub collected_bytes : (bs : List ℕ) → IsUtf8 bs → encodes (without_underscores (chars bs)) ≡ without_underscores bs
collected_bytes bs u = sym (bytes_without (chars bs)) ∙ ap without_underscores (encodes-chars bs u)

-- ---- ASCII, and texts without `_`

pub ascii_without : (bs : List ℕ) → IsAscii bs → IsAscii (without_underscores bs)
ascii_without [] h = h
ascii_without (b ∷ bs) h = elim (cases_Bool (b == 95)) [
  | inl y ↦ subst (λ (x : List ℕ). IsAscii x) (sym (dropped b bs y)) (ascii_without bs (λ i. h (suc i)))
  | inr n ↦ subst (λ (x : List ℕ). IsAscii x) (sym (kept b bs n)) (first (h 0) (ascii_without bs (λ i. h (suc i))))
]
  where
    first : b < 128 → IsAscii (without_underscores bs) → IsAscii (b ∷ without_underscores bs)
    first l r zero = l
    first l r (suc i) = r i

pub none_without : (bs : List ℕ) → has_byte 95 bs ≡ false → without_underscores bs ≡ bs
unfolding has_byte
none_without [] h = refl
none_without (b ∷ bs) h = choice (b == 95) refl h (none_without bs)
  where
    choice : (t : Bool) → (b == 95) ≡ t → (if t then true else has_byte 95 bs) ≡ false → (has_byte 95 bs ≡ false → without_underscores bs ≡ bs) → without_underscores (b ∷ bs) ≡ b ∷ bs
    choice true e h r = absurd (false≢true (sym h))
    choice false e h r = kept b bs e ∙ ap (λ x. b ∷ x) (r h)

-- ---- what it is worth

pub worth_as_much : (text : List ℕ) → IsWorthAsMuch text (without_underscores text)
worth_as_much text = record {
  number = number_without text;
  value = number_same text;
  big_integer = big_without text;
  radix = λ h. radix_same text (big_same text h);
  digits = λ h. big_digits_same text (big_same text h);
}

pub worth_by_characters : (text result : List ℕ) → IsUtf8 text → result ≡ without_underscores text → IsWorthAsMuch (chars text) (chars result)
worth_by_characters text result u e = subst (λ (x : List ℕ). IsWorthAsMuch (chars text) x) (sym (ap chars e ∙ chars_without text u)) (worth_as_much (chars text))
