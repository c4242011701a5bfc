-- The place after bytes of UTF-8 is that after their characters.
use Rattle.std.proofs.Common.{◌≡◌, Bool, ◌||◌, ◌&&◌, not, ◌⊎◌, inl, inr, ◌++◌, length-append, ℕ, ◌+◌, ◌/◌, ◌<◌, ◌≤◌, true, false, List, [], ◌∷◌, length, refl, sym, ◌∙◌, ap, arith, cond, ◌==◌, nat_lt, nat_le}
use Rattle.std.proofs.lemmas.Bool.{cond_both, cond-true, cond-false, cases_lt, lt-ltb, le-ltb, le-leb, ne_eqb, or_parts, true≢false, false_from_ne_true, leb-true}
use Rattle.std.proofs.lemmas.Str.{chars-encodes}
use Rattle.std.proofs.Math.Utf8.{encode, encodes, next}
use Rattle.std.specs.Char.Escape.{encode_utf16}
use Rattle.std.specs.List.{list_any}
use Rattle.std.specs.Str.{IsUtf8, chars}
use Rattle.swc_ecma_codegen_text_writer.specs.Places.{Place, origin, units_of, next_line, after_lf, after_byte, after_text}
use Rattle.swc_ecma_codegen_text_writer.specs.Characters.{after_character, after_characters, is_line_end, code_units, begins_with_lf, line_ends}
use Rattle.swc_ecma_codegen_text_writer.proofs.Pairs.{after_both}

-- ---- so many units on, in the same line

along : ℕ → Place → Place
along n p = record { line = p.line; column = p.column + n; after_cr = false }

along_none : (n : ℕ) (p : Place) → along 0 (along n p) ≡ along n p
unfolding along
along_none n p = let e : (p.column + n) + 0 ≡ p.column + n = omega arith in λ i. record { line = p.line; column = e i; after_cr = false }

-- what a byte or a character of so many units does
step : ℕ → ℕ → Place → Place
step n b p = cond (b == 10) (after_lf p) (cond (b == 13) (next_line true p) (record { line = p.line; column = p.column + n; after_cr = false }))

other : (b k : ℕ) → k < b → (b == k) ≡ false
other b k h = ne_eqb b k (λ e. omega (arith, h, e))

step_other : (n b : ℕ) (p : Place) → (b == 10) ≡ false → (b == 13) ≡ false → step n b p ≡ along n p
unfolding step along
step_other n b p h k = cond-false (b == 10) _ _ h ∙ cond-false (b == 13) _ _ k

step_wide : (n b : ℕ) (p : Place) → 128 ≤ b → step n b p ≡ along n p
step_wide n b p h = step_other n b p (other b 10 (omega (arith, h))) (other b 13 (omega (arith, h)))

byte_step : (n b : ℕ) (p : Place) → units_of b ≡ n → after_byte b p ≡ step n b p
unfolding after_byte step
byte_step n b p e = ap (λ k. cond (b == 10) (after_lf p) (cond (b == 13) (next_line true p) (record { line = p.line; column = p.column + k; after_cr = false }))) e

character_step : (n c : ℕ) (p : Place) → length (encode_utf16 c) ≡ n → after_character c p ≡ step n c p
unfolding after_character step
character_step n c p e = ap (λ k. cond (c == 10) (after_lf p) (cond (c == 13) (next_line true p) (record { line = p.line; column = p.column + k; after_cr = false }))) e

-- ---- units

above : (b k : ℕ) → k < b → nat_le b k ≡ false
above b k h = false_from_ne_true (nat_le b k) (λ e. let q = leb-true b k e in omega (arith, h, q))

units_low : (b : ℕ) → b < 128 → units_of b ≡ 1
unfolding units_of
units_low b h = cond-true (nat_le b 127) _ _ (le-leb b 127 (omega (arith, h)))

units_on : (b : ℕ) → 128 ≤ b → b < 192 → units_of b ≡ 0
unfolding units_of
units_on b l h = cond-false (nat_le b 127) _ _ (above b 127 (omega (arith, l))) ∙ cond-true (nat_le b 191) _ _ (le-leb b 191 (omega (arith, h)))

units_one : (b : ℕ) → 192 ≤ b → b < 240 → units_of b ≡ 1
unfolding units_of
units_one b l h =
    cond-false (nat_le b 127) _ _ (above b 127 (omega (arith, l)))
    ∙ cond-false (nat_le b 191) _ _ (above b 191 (omega (arith, l)))
    ∙ cond-true (nat_le b 239) _ _ (le-leb b 239 (omega (arith, h)))

units_two : (b : ℕ) → 240 ≤ b → units_of b ≡ 2
unfolding units_of
units_two b l =
    cond-false (nat_le b 127) _ _ (above b 127 (omega (arith, l)))
    ∙ cond-false (nat_le b 191) _ _ (above b 191 (omega (arith, l)))
    ∙ cond-false (nat_le b 239) _ _ (above b 239 (omega (arith, l)))

one_unit : (c : ℕ) → c < 65536 → length (encode_utf16 c) ≡ 1
one_unit c h = ap length (cond-true (nat_lt c 65536) _ _ (lt-ltb c 65536 h))

two_units : (c : ℕ) → 65536 ≤ c → length (encode_utf16 c) ≡ 2
two_units c h = ap length (cond-false (nat_lt c 65536) _ _ (le-ltb c 65536 h))

-- ---- bytes

-- a byte that goes on
goes_on : (b n : ℕ) (p : Place) → 128 ≤ b → b < 192 → after_byte b (along n p) ≡ along n p
goes_on b n p l h = byte_step 0 b (along n p) (units_on b l h) ∙ step_wide 0 b (along n p) l ∙ along_none n p

leads_one : (b : ℕ) (p : Place) → 192 ≤ b → b < 240 → after_byte b p ≡ along 1 p
leads_one b p l h = byte_step 1 b p (units_one b l h) ∙ step_wide 1 b p (omega (arith, l))

leads_two : (b : ℕ) (p : Place) → 240 ≤ b → after_byte b p ≡ along 2 p
leads_two b p l = byte_step 2 b p (units_two b l) ∙ step_wide 2 b p (omega (arith, l))

next_on : (x n : ℕ) (p : Place) → after_byte (next x) (along n p) ≡ along n p
next_on x n p = goes_on (next x) n p (omega arith) (omega arith)

-- ---- a character

one_byte : (c : ℕ) (p : Place) → c < 128 → after_text (encode c) p ≡ after_character c p
unfolding encode after_text
one_byte c p h =
    ap (λ t. after_text t p) (cond-true (nat_lt c 128) _ _ (lt-ltb c 128 h))
    ∙ byte_step 1 c p (units_low c h)
    ∙ sym (character_step 1 c p (one_unit c (omega (arith, h))))

two_bytes : (c : ℕ) (p : Place) → 128 ≤ c → c < 2048 → after_text (encode c) p ≡ after_character c p
unfolding encode after_text
two_bytes c p l h =
    ap (λ t. after_text t p) (cond-false (nat_lt c 128) _ _ (le-ltb c 128 l) ∙ cond-true (nat_lt c 2048) _ _ (lt-ltb c 2048 h))
    ∙ ap (after_byte (next c)) (leads_one (192 + c / 64) p (omega arith) (omega (arith, h)))
    ∙ next_on c 1 p
    ∙ sym (character_step 1 c p (one_unit c (omega (arith, h))) ∙ step_wide 1 c p l)

three_bytes : (c : ℕ) (p : Place) → 2048 ≤ c → c < 65536 → after_text (encode c) p ≡ after_character c p
unfolding encode after_text
three_bytes c p l h =
    ap (λ t. after_text t p) (cond-false (nat_lt c 128) _ _ (le-ltb c 128 (omega (arith, l))) ∙ cond-false (nat_lt c 2048) _ _ (le-ltb c 2048 l) ∙ cond-true (nat_lt c 65536) _ _ (lt-ltb c 65536 h))
    ∙ ap (λ q. after_byte (next c) (after_byte (next (c / 64)) q)) (leads_one (224 + c / 4096) p (omega arith) (omega (arith, h)))
    ∙ ap (after_byte (next c)) (next_on (c / 64) 1 p)
    ∙ next_on c 1 p
    ∙ sym (character_step 1 c p (one_unit c h) ∙ step_wide 1 c p (omega (arith, l)))

four_bytes : (c : ℕ) (p : Place) → 65536 ≤ c → after_text (encode c) p ≡ after_character c p
unfolding encode after_text
four_bytes c p l =
    ap (λ t. after_text t p) (cond-false (nat_lt c 128) _ _ (le-ltb c 128 (omega (arith, l))) ∙ cond-false (nat_lt c 2048) _ _ (le-ltb c 2048 (omega (arith, l))) ∙ cond-false (nat_lt c 65536) _ _ (le-ltb c 65536 l))
    ∙ ap (λ q. after_byte (next c) (after_byte (next (c / 64)) (after_byte (next (c / 4096)) q))) (leads_two (240 + c / 262144) p (omega arith))
    ∙ ap (λ q. after_byte (next c) (after_byte (next (c / 64)) q)) (next_on (c / 4096) 2 p)
    ∙ ap (after_byte (next c)) (next_on (c / 64) 2 p)
    ∙ next_on c 2 p
    ∙ sym (character_step 2 c p (two_units c l) ∙ step_wide 2 c p (omega (arith, l)))

after_one : (c : ℕ) (p : Place) → after_text (encode c) p ≡ after_character c p
after_one c p = elim (cases_lt c 128) [
  | inl h ↦ one_byte c p h
  | inr l ↦ elim (cases_lt c 2048) [
    | inl h ↦ two_bytes c p l h
    | inr k ↦ elim (cases_lt c 65536) [ inl h ↦ three_bytes c p k h | inr m ↦ four_bytes c p m ]
  ]
]

-- ---- texts

after_all : (cs : List ℕ) (p : Place) → after_text (encodes cs) p ≡ after_characters cs p
unfolding after_text after_characters
after_all [] p = refl
after_all (c ∷ cs) p = after_both (encode c) (encodes cs) p ∙ ap (after_text (encodes cs)) (after_one c p) ∙ after_all cs (after_character c p)

pub place_of_characters : (text : List ℕ) (p : Place) → IsUtf8 text → after_text text p ≡ after_characters (chars text) p
place_of_characters text p u =
    ap (λ t. after_text t p) (sym u.1.1) ∙ after_all u.0 p ∙ ap (λ cs. after_characters cs p) (sym (chars-encodes u.0 u.1.0) ∙ ap chars u.1.1)

-- ---- columns

-- where no line ends, each character's units come to the column
in_line : (cs : List ℕ) (p : Place) → list_any is_line_end cs ≡ false → ((after_characters cs p).line ≡ p.line) × ((after_characters cs p).column ≡ p.column + length (code_units cs))
unfolding after_characters code_units along
in_line [] p h = (refl, omega arith)
in_line (c ∷ cs) p h =
    let parts = or_parts (is_line_end c) (list_any is_line_end cs) h in
    let none = or_parts (c == 10) (c == 13) parts.0 in
    let n : ℕ = length (encode_utf16 c) in
    let e : after_character c p ≡ along n p = character_step n c p refl ∙ step_other n c p none.0 none.1 in
    let rest = in_line cs (along n p) parts.1 in
    let sum = length-append (encode_utf16 c) (code_units cs) in
    let more : (p.column + n) + length (code_units cs) ≡ p.column + length (encode_utf16 c ++ code_units cs) = omega (arith, sum) in
    (ap (λ q. (after_characters cs q).line) e ∙ rest.0, ap (λ q. (after_characters cs q).column) e ∙ rest.1 ∙ more)

pub line_of_text : (text : List ℕ) (p : Place) → IsUtf8 text → list_any is_line_end (chars text) ≡ false → (after_text text p).line ≡ p.line
line_of_text text p u h = ap (λ (q : Place). q.line) (place_of_characters text p u) ∙ (in_line (chars text) p h).0

pub column_of_text : (text : List ℕ) (p : Place) → IsUtf8 text → list_any is_line_end (chars text) ≡ false → (after_text text p).column ≡ p.column + length (code_units (chars text))
column_of_text text p u h = ap (λ (q : Place). q.column) (place_of_characters text p u) ∙ (in_line (chars text) p h).1

-- after CR a line begins
unfoldable pub Begins : Place → Type 0
Begins p = p.after_cr ≡ true → p.column ≡ 0

not_after_cr : (p : Place) → p.after_cr ≡ false → Begins p
unfolding Begins
not_after_cr p h k = absurd (true≢false (sym k ∙ h))

lf_begins : (p : Place) → Begins (after_lf p)
unfolding after_lf Begins
lf_begins p = cond_both p.after_cr (record p { after_cr = false }) (next_line false p) Begins (λ h. not_after_cr (record p { after_cr = false }) refl) (λ h k. refl)

pub byte_begins : (b : ℕ) (p : Place) → Begins (after_byte b p)
unfolding after_byte Begins
byte_begins b p =
    let there : Place = record { line = p.line; column = p.column + units_of b; after_cr = false } in
    cond_both (b == 10) (after_lf p) (cond (b == 13) (next_line true p) there) Begins (λ h. lf_begins p)
    (λ h. cond_both (b == 13) (next_line true p) there Begins (λ k l. refl) (λ k. not_after_cr there refl))

pub text_begins : (text : List ℕ) (p : Place) → Begins p → Begins (after_text text p)
unfolding after_text
text_begins [] p h = h
text_begins (b ∷ bs) p h = text_begins bs (after_byte b p) (byte_begins b p)

lf_column : (p : Place) → Begins p → (after_lf p).column ≡ 0
unfolding after_lf Begins
lf_column p h = cond_both p.after_cr (record p { after_cr = false }) (next_line false p) (λ q. q.column ≡ 0) h (λ k. refl)

pub end_column : (end : ℕ) (p : Place) → (end ≡ 10) ⊎ (end ≡ 13) → Begins p → (after_byte end p).column ≡ 0
unfolding after_byte
end_column end p (inl e) h = ap (λ b. (after_byte b p).column) e ∙ lf_column p h
end_column end p (inr e) h = ap (λ b. (after_byte b p).column) e

-- after a line's end the column counts from there
pub column_of_last_line : (before last : List ℕ) (end : ℕ) → (end ≡ 10) ⊎ (end ≡ 13) → IsUtf8 last → list_any is_line_end (chars last) ≡ false → (after_text (before ++ (end ∷ last)) origin).column ≡ length (code_units (chars last))
unfolding after_text Begins
column_of_last_line before last end e u h =
    let q : Place = after_text before origin in
    let begun : Begins q = text_begins before origin (not_after_cr origin refl) in
    let zero_there : (after_byte end q).column ≡ 0 = end_column end q e begun in
    let here : (after_text last (after_byte end q)).column ≡ (after_byte end q).column + length (code_units (chars last)) = column_of_text last (after_byte end q) u h in
    ap (λ (p : Place). p.column) (after_both before (end ∷ last) origin) ∙ here ∙ omega (arith, zero_there)

-- ---- lines

one_if : Bool → ℕ
one_if b = cond b 1 0

-- what comes first in a text: LF or CR or neither, after a CR or not; and whether LF comes next
line_turn : (lf cr after next : Bool) (n : ℕ) (bytes : List ℕ) (p : Place) →
    (let q : Place = cond lf (cond after (record { line = p.line; column = p.column; after_cr = false }) (next_line false p)) (cond cr (next_line true p) (record { line = p.line; column = p.column + n; after_cr = false })) in
    ((after_text bytes q).line + one_if (q.after_cr && next) ≡ q.line + line_ends bytes) → (after_text bytes q).line + one_if (after && lf) ≡ p.line + (one_if (lf || (cr && not next)) + line_ends bytes))
unfolding one_if
line_turn true cr true next n bytes p h = let k : (after_text bytes (record { line = p.line; column = p.column; after_cr = false })).line + 0 ≡ p.line + line_ends bytes = h in omega (arith, k)
line_turn true cr false next n bytes p h = let k : (after_text bytes (next_line false p)).line + 0 ≡ (p.line + 1) + line_ends bytes = h in omega (arith, k)
line_turn false true true true n bytes p h = let k : (after_text bytes (next_line true p)).line + 1 ≡ (p.line + 1) + line_ends bytes = h in omega (arith, k)
line_turn false true true false n bytes p h = let k : (after_text bytes (next_line true p)).line + 0 ≡ (p.line + 1) + line_ends bytes = h in omega (arith, k)
line_turn false true false true n bytes p h = let k : (after_text bytes (next_line true p)).line + 1 ≡ (p.line + 1) + line_ends bytes = h in omega (arith, k)
line_turn false true false false n bytes p h = let k : (after_text bytes (next_line true p)).line + 0 ≡ (p.line + 1) + line_ends bytes = h in omega (arith, k)
line_turn false false true next n bytes p h = let k : (after_text bytes (record { line = p.line; column = p.column + n; after_cr = false })).line + 0 ≡ p.line + line_ends bytes = h in omega (arith, k)
line_turn false false false next n bytes p h = let k : (after_text bytes (record { line = p.line; column = p.column + n; after_cr = false })).line + 0 ≡ p.line + line_ends bytes = h in omega (arith, k)

none_next : (after : Bool) (n : ℕ) → n + one_if (after && false) ≡ n + 0
unfolding one_if
none_next true n = refl
none_next false n = refl

lines_on : (text : List ℕ) (p : Place) → (after_text text p).line + one_if (p.after_cr && begins_with_lf text) ≡ p.line + line_ends text
unfolding after_text after_byte after_lf line_ends one_if
lines_on [] p = none_next p.after_cr p.line
lines_on (b ∷ bs) p = line_turn (b == 10) (b == 13) p.after_cr (begins_with_lf bs) (units_of b) bs p (lines_on bs (after_byte b p))

pub lines_of_text : (text : List ℕ) → (after_text text origin).line ≡ line_ends text
unfolding one_if
lines_of_text text = let h : (after_text text origin).line + 0 ≡ 0 + line_ends text = lines_on text origin in omega (arith, h)
