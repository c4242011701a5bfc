-- The pieces of a raw text as they are spelled.
use Rattle.std.proofs.Common.{◌≡◌, ℕ, zero, suc, ◌+◌, ◌<◌, ◌≤◌, Bool, true, false, not, ◌&&◌, ◌||◌, ◌==◌, List, [], ◌∷◌, ◌++◌, length, drop, nat_lt, nat_le, refl, sym, ap, ◌∙◌, subst, arith, inl, inr, if◌then◌else◌, codes, append_assoc, ◌⊎◌, length-append}
use Rattle.std.specs.Char.{digit_value, encode_utf8}
use Rattle.std.specs.List.{list_all}
use Rattle.std.specs.Str.{chars, IsUtf8, encode_utf8_all}
use Rattle.std.proofs.lemmas.Bool.{cases_lt, lt-ltb, le-ltb, ltb-false, leb-true, and_parts, or_cases, or_parts, or_from, ne_eqb, eqb-true, not-true, false≢true, false_from_ne_true}
use Rattle.std.proofs.lemmas.Str.{encodes-append, encodes-chars, chars-append, encodes-IsAscii, len_utf8_bounds, length-encode}
use Rattle.std.proofs.lemmas.List.{nil_from_length}
use lib.Utf8.{encodes}
use Rattle.swc_ecma_codegen_grammar.specs.Chars.{is_digit, begins_digit}
use Rattle.swc_ecma_codegen_grammar.specs.Numbers.{is_hex}
use Rattle.swc_ecma_codegen_literals.specs.StringTexts.{is_unseen, hex_escape, unit_escape, braced_escape}
use Rattle.swc_ecma_codegen_literals.specs.declared.templates.Piece.{Piece}
use Rattle.swc_ecma_codegen_literals.specs.declared.templates.Piece.TheVariants.{Bare, Backslashed, Hex, Gone}
use Rattle.swc_ecma_codegen_literals.specs.TemplateTexts.{hex_more, hex_digits_piece, hex_piece, first_piece, piece_more, pieces_after, pieces, bare_text, piece_text, dollar_after, spelled_pieces, stands_bare, spelled_bytes}
use Rattle.swc_ecma_codegen_literals.proofs.EscapeTexts.{chosen, hex_escape_ascii, unit_escape_ascii, braced_escape_ascii}
use Rattle.swc_ecma_codegen_literals.proofs.Numerals as numerals
use Rattle.swc_ecma_codegen_literals.proofs.StringReads.{digit_low, digit_upper, digit_lower}
use Rattle.swc_ecma_codegen_literals.proofs.StringUnits.{HexRange, Number, Upper, Lower, hex_range}
use Rattle.swc_ecma_codegen_literals.proofs.SpelledTexts.{ascii_from_all}

pub pieces_drop : (k : ℕ) (cs : List ℕ) → pieces_after k cs ≡ pieces_after 0 (drop k cs)
unfolding pieces_after
pieces_drop zero cs = refl
pieces_drop (suc k) [] = refl
pieces_drop (suc k) (c ∷ cs) = pieces_drop k cs

pub unseen_cases : (c : ℕ) → is_unseen c ≡ true → (c ≡ 8232) ⊎ ((c ≡ 8233) ⊎ (c ≡ 65279))
unfolding is_unseen
unseen_cases c h =
    elim (or_cases (c == 8232) ((c == 8233) || (c == 65279)) h) [
      | inl x ↦ inl (eqb-true c 8232 x)
      | inr x ↦ inr (elim (or_cases (c == 8233) (c == 65279) x) [ inl y ↦ inl (eqb-true c 8233 y) | inr y ↦ inr (eqb-true c 65279 y) ])
    ]

-- a character that is a piece and is spelled as itself
pub record Plain (d a : Bool) (c : ℕ) : Type 0 where
  pub first : (cs : List ℕ) → first_piece c cs ≡ Bare c
  pub more : (cs : List ℕ) → piece_more c cs ≡ 0
  pub text : (next : List ℕ) → bare_text d a c next ≡ c ∷ []
  pub no_dollar : (c == 36) ≡ false

pub plain_spelled : {d a : Bool} {c : ℕ} → Plain d a c → (cs : List ℕ) → spelled_pieces d a (pieces (c ∷ cs)) ≡ c ∷ spelled_pieces false a (pieces cs)
unfolding spelled_pieces pieces_after piece_text dollar_after
plain_spelled {d = d} {a = a} {c = c} p cs =
    ap (λ x. spelled_pieces d a (x ∷ pieces_after (piece_more c cs) cs)) (p.first cs) ∙
    (ap (λ k. spelled_pieces d a (Bare c ∷ pieces_after k cs)) (p.more cs) ∙
    (ap (λ b. bare_text d a c (spelled_pieces b a (pieces_after 0 cs)) ++ spelled_pieces b a (pieces_after 0 cs)) p.no_dollar ∙
    ap (λ t. t ++ spelled_pieces false a (pieces_after 0 cs)) (p.text (spelled_pieces false a (pieces_after 0 cs)))))

-- what a plain character isn't
record Apart (c : ℕ) : Type 0 where
  n0 : (c == 0) ≡ false
  n8 : (c == 8) ≡ false
  n11 : (c == 11) ≡ false
  n12 : (c == 12) ≡ false
  n13 : (c == 13) ≡ false
  n36 : (c == 36) ≡ false
  n92 : (c == 92) ≡ false
  seen : is_unseen c ≡ false

plain_from : (d a : Bool) (c : ℕ) → Apart c → ((c == 123) && d) ≡ false → (if nat_lt c 127 then c ∷ [] else if nat_lt c 256 then hex_escape c else if a then braced_escape c else (c ∷ [])) ≡ c ∷ [] → Plain d a c
unfolding first_piece piece_more bare_text
plain_from d a c h b w = record {
  first = λ cs. rw (h.n92, h.n13) refl;
  more = λ cs. rw (h.n92) refl;
  text = λ next. rw (h.n0, h.n8, h.n11, h.n12, b, h.seen) w;
  no_dollar = h.n36;
}

apart : (a : Bool) (c k : ℕ) → stands_bare a c ≡ true → stands_bare a k ≡ false → (c == k) ≡ false
apart a c k h g = ne_eqb c k (λ e. false≢true (sym g ∙ (ap (stands_bare a) (sym e) ∙ h)))

not_either : (a : Bool) → not (a || true) ≡ false
not_either true = refl
not_either false = refl

stands_apart : (a : Bool) (c : ℕ) → stands_bare a c ≡ true → Apart c
unfolding stands_bare is_unseen
stands_apart a c h = record {
  n0 = apart a c 0 h refl;
  n8 = apart a c 8 h refl;
  n11 = apart a c 11 h refl;
  n12 = apart a c 12 h refl;
  n13 = apart a c 13 h refl;
  n36 = apart a c 36 h refl;
  n92 = apart a c 92 h refl;
  seen = or_from (c == 8232) ((c == 8233) || (c == 65279)) (apart a c 8232 h (not_either a)) (or_from (c == 8233) (c == 65279) (apart a c 8233 h (not_either a)) (apart a c 65279 h (not_either a)));
}

stands_text : (a : Bool) (c : ℕ) → stands_bare a c ≡ true → (if nat_lt c 127 then c ∷ [] else if nat_lt c 256 then hex_escape c else if a then braced_escape c else (c ∷ [])) ≡ c ∷ []
unfolding stands_bare
stands_text a c h = elim (cases_lt c 127) [
  | inl l ↦ rw (lt-ltb c 127 l) refl
  | inr g ↦ elim (cases_lt c 256) [
    | inl b ↦ absurd (false≢true (rw (le-ltb c 32 (omega arith), le-ltb c 127 g, lt-ltb c 256 b) at h))
    | inr b ↦ rw (le-ltb c 127 g, le-ltb c 256 b, (or_parts a (is_unseen c) (not-true (a || is_unseen c) (rw (le-ltb c 32 (omega arith), le-ltb c 127 g, le-ltb c 256 b) at h))).0) refl
  ]
]

pub stands_plain : (d a : Bool) (c : ℕ) → stands_bare a c ≡ true → Plain d a c
unfolding stands_bare
stands_plain d a c h = plain_from d a c (stands_apart a c h) (ap (λ b. b && d) (apart a c 123 h refl)) (stands_text a c h)

and_false : (b : Bool) → (b && false) ≡ false
and_false true = refl
and_false false = refl

-- a character of an escape: a letter, a digit or a brace
pub inner_plain : (a : Bool) (c : ℕ) → 48 ≤ c → c < 127 → (c ≡ 92 → ⊥) → Plain false a c
unfolding is_unseen
inner_plain a c l g n =
    let h : Apart c = record {
      n0 = ne_eqb c 0 (λ e. omega (arith, e, l));
      n8 = ne_eqb c 8 (λ e. omega (arith, e, l));
      n11 = ne_eqb c 11 (λ e. omega (arith, e, l));
      n12 = ne_eqb c 12 (λ e. omega (arith, e, l));
      n13 = ne_eqb c 13 (λ e. omega (arith, e, l));
      n36 = ne_eqb c 36 (λ e. omega (arith, e, l));
      n92 = ne_eqb c 92 n;
      seen = or_from (c == 8232) ((c == 8233) || (c == 65279)) (ne_eqb c 8232 (λ e. omega (arith, e, g))) (or_from (c == 8233) (c == 65279) (ne_eqb c 8233 (λ e. omega (arith, e, g))) (ne_eqb c 65279 (λ e. omega (arith, e, g))));
    } in
    plain_from false a c h (and_false (c == 123)) (rw (lt-ltb c 127 g) refl)

-- a run of characters that stand for themselves
plain_run : (a : Bool) (cs rest : List ℕ) → list_all (stands_bare a) cs ≡ true → spelled_pieces false a (pieces (cs ++ rest)) ≡ cs ++ spelled_pieces false a (pieces rest)
plain_run a [] rest h = refl
plain_run a (c ∷ cs) rest h =
    let p = and_parts (stands_bare a c) (list_all (stands_bare a) cs) h in
    plain_spelled (stands_plain false a c p.0) (cs ++ rest) ∙ ap (λ x. c ∷ x) (plain_run a cs rest p.1)

first_run : (d a : Bool) (c : ℕ) (cs rest : List ℕ) → list_all (stands_bare a) (c ∷ cs) ≡ true → spelled_pieces d a (pieces ((c ∷ cs) ++ rest)) ≡ (c ∷ cs) ++ spelled_pieces false a (pieces rest)
first_run d a c cs rest h =
    let p = and_parts (stands_bare a c) (list_all (stands_bare a) cs) h in
    plain_spelled (stands_plain d a c p.0) (cs ++ rest) ∙ ap (λ x. c ∷ x) (plain_run a cs rest p.1)

pub and_true : (b : Bool) → (b && true) ≡ b
and_true true = refl
and_true false = refl

empty_run : (d a : Bool) (run after : List ℕ) → run ≡ [] → spelled_bytes d a (run ++ after) ≡ run ++ spelled_bytes (d && (length run == 0)) a after
empty_run d a run after e = subst (λ r. spelled_bytes d a (r ++ after) ≡ r ++ spelled_bytes (d && (length r == 0)) a after) (sym e) (ap (λ b. spelled_bytes b a after) (sym (and_true d)))

some_bytes : (c : ℕ) (cs run : List ℕ) → encodes (c ∷ cs) ≡ run → (length run == 0) ≡ false
some_bytes c cs run e =
    let m = (len_utf8_bounds c).0 in
    let l : 0 < length (encode_utf8 c) = rw length-encode (omega (arith, m)) in
    ne_eqb (length run) 0 (λ z. let k : length (encode_utf8 c) + length (encodes cs) ≡ 0 = sym (length-append (encode_utf8 c) (encodes cs)) ∙ (ap length e ∙ z) in omega (arith, k, l))

pub run_turn : (d a : Bool) (text run after : List ℕ) → text ≡ run ++ after → IsUtf8 run → list_all (stands_bare a) (chars run) ≡ true → spelled_bytes d a text ≡ run ++ spelled_bytes (d && (length run == 0)) a after
run_turn d a text run after e u h = ap (λ t. spelled_bytes d a t) e ∙ by_chars (chars run) refl
  where
    by_chars : (cs : List ℕ) → chars run ≡ cs → spelled_bytes d a (run ++ after) ≡ run ++ spelled_bytes (d && (length run == 0)) a after
    by_chars [] f = empty_run d a run after (sym (encodes-chars run u) ∙ ap encodes f)
    by_chars (c ∷ cs) f =
        let is_run : encodes (c ∷ cs) ≡ run = sym (ap encodes f) ∙ encodes-chars run u in
        let g : list_all (stands_bare a) (c ∷ cs) ≡ true = ap (λ x. list_all (stands_bare a) x) (sym f) ∙ h in
        ap (λ x. encodes (spelled_pieces d a (pieces x))) (chars-append run after u ∙ ap (λ x. x ++ chars after) f) ∙
        (ap encodes (first_run d a c cs (chars after) g) ∙
        (encodes-append (c ∷ cs) (spelled_pieces false a (pieces (chars after))) ∙
        (ap (λ x. x ++ encodes (spelled_pieces false a (pieces (chars after)))) is_run ∙
        ap (λ b. run ++ spelled_bytes b a after) (sym (ap (λ b. d && b) (some_bytes c cs run is_run) ∙ and_false d)))))

-- a turn of the loop: a run and a piece
pub loop_turn : (old mid new run tail rest whole all : List ℕ) → mid ≡ old ++ run → new ++ tail ≡ mid ++ rest → whole ≡ run ++ rest → old ++ whole ≡ all → new ++ tail ≡ all
loop_turn old mid new run tail rest whole all m n w i = n ∙ (ap (λ x. x ++ rest) m ∙ (append_assoc old run rest ∙ (ap (λ x. old ++ x) (sym w) ∙ i)))

pub piece_turn : (d a b : Bool) (p : Piece) (raw next old new : List ℕ) → pieces (chars raw) ≡ p ∷ pieces (chars next) → b ≡ dollar_after d p → new ≡ old ++ encodes (piece_text d a p (spelled_pieces (dollar_after d p) a (pieces (chars next)))) → new ++ spelled_bytes b a next ≡ old ++ spelled_bytes d a raw
unfolding spelled_pieces
piece_turn d a b p raw next old new e f n =
    let after = spelled_pieces (dollar_after d p) a (pieces (chars next)) in
    let text = piece_text d a p after in
    ap (λ x. new ++ spelled_bytes x a next) f ∙
    (ap (λ x. x ++ encodes after) n ∙
    (append_assoc old (encodes text) (encodes after) ∙
    (ap (λ x. old ++ x) (sym (encodes-append text after)) ∙
    ap (λ x. old ++ encodes (spelled_pieces d a x)) (sym e))))

-- what is written begins with a digit
unseen_digit : (c : ℕ) → is_unseen c ≡ true → is_digit c ≡ false
unfolding is_digit
unseen_digit c h = elim (unseen_cases c h) [ inl e ↦ rw e refl | inr x ↦ elim x [ inl e ↦ rw e refl | inr e ↦ rw e refl ] ]

high_digit : (c : ℕ) → 127 ≤ c → is_digit c ≡ false
unfolding is_digit
high_digit c g = false_from_ne_true (nat_le 48 c && nat_le c 57) (λ d. let l : c ≤ 57 = leb-true c 57 (and_parts (nat_le 48 c) (nat_le c 57) d).1 in omega (arith, g, l))

bare_digit : (d a : Bool) (c : ℕ) (next t : List ℕ) → begins_digit (bare_text d a c next ++ t) ≡ is_digit c
unfolding bare_text begins_digit is_digit hex_escape unit_escape braced_escape
bare_digit d a c next t =
    let P : List ℕ → Type 0 = λ x. begins_digit (x ++ t) ≡ is_digit c in
    let at : (k : ℕ) (x : List ℕ) → begins_digit (x ++ t) ≡ is_digit k → (c == k) ≡ true → P x = λ k x r e. r ∙ ap is_digit (sym (eqb-true c k e)) in
    chosen P (c == 0) _ _ (λ e. chosen P (begins_digit next) (codes "\\x00") (codes "\\0") (λ _. at 0 (codes "\\x00") refl e) (λ _. at 0 (codes "\\0") refl e)) (λ _.
    chosen P (c == 8) _ _ (at 8 (codes "\\b") refl) (λ _.
    chosen P (c == 11) _ _ (at 11 (codes "\\v") refl) (λ _.
    chosen P (c == 12) _ _ (at 12 (codes "\\f") refl) (λ _.
    chosen P ((c == 123) && d) _ _ (λ e. at 123 (codes "\\{") refl (and_parts (c == 123) d e).0) (λ _.
    chosen P (is_unseen c) _ _ (λ e. sym (unseen_digit c e)) (λ _.
    chosen P (nat_lt c 127) _ _ (λ _. refl) (λ l.
    chosen P (nat_lt c 256) _ _ (λ _. sym (high_digit c (ltb-false c 127 l))) (λ _.
    chosen P a _ _ (λ _. sym (high_digit c (ltb-false c 127 l))) (λ _. refl)))))))))

pub digit_bare : (c : ℕ) (ps : List Piece) (d a : Bool) → begins_digit (spelled_pieces d a (Bare c ∷ ps)) ≡ is_digit c
unfolding spelled_pieces piece_text
digit_bare c ps d a = bare_digit d a c (spelled_pieces (dollar_after d (Bare c)) a ps) (spelled_pieces (dollar_after d (Bare c)) a ps)

pub digit_kept : (c : ℕ) (ps : List Piece) (d a : Bool) → begins_digit (spelled_pieces d a (Backslashed c ∷ ps)) ≡ false
unfolding spelled_pieces piece_text begins_digit is_digit
digit_kept c ps d a = refl

pub digit_hex : (v : ℕ) (ps : List Piece) (d a : Bool) → begins_digit (spelled_pieces d a (Hex v ∷ ps)) ≡ false
unfolding spelled_pieces piece_text begins_digit is_digit hex_escape
digit_hex v ps d a = refl

pub digit_gone : (ps : List Piece) (d a : Bool) → begins_digit (spelled_pieces d a (Gone ∷ ps)) ≡ begins_digit (spelled_pieces d a ps)
unfolding spelled_pieces piece_text dollar_after
digit_gone ps d a = refl

pub digit_none : (d a : Bool) → begins_digit (spelled_pieces d a (pieces [])) ≡ false
unfolding spelled_pieces pieces_after begins_digit
digit_none d a = refl

-- a turn of the loop that looks for the first character
pub digit_turn : (p : Piece) (rest next : List ℕ) → pieces (chars rest) ≡ p ∷ pieces (chars next) → (d a : Bool) → begins_digit (spelled_pieces d a (pieces (chars rest))) ≡ begins_digit (spelled_pieces d a (p ∷ pieces (chars next)))
digit_turn p rest next e d a = ap (λ x. begins_digit (spelled_pieces d a x)) e

pub no_chars : (text : List ℕ) → IsUtf8 text → chars text ≡ [] → length text ≡ 0
no_chars text u e = ap length (sym (encodes-chars text u) ∙ ap encodes e)

-- the value of a hexadecimal digit
pub hex_from_value : (c : ℕ) → digit_value c < 16 → is_hex c ≡ true
hex_from_value c h = numerals.hex_from_value c h

pub hex_value_small : (c : ℕ) → is_hex c ≡ true → digit_value c < 16
hex_value_small c h = by_range (hex_range c h)
  where
    by_range : HexRange c → digit_value c < 16
    by_range (Number l g) = let e = digit_low c l g in omega arith
    by_range (Upper l g) = let e = digit_upper c l (omega arith) in omega arith
    by_range (Lower l g) = let e = digit_lower c l (omega arith) in omega arith

pub not_hex : (c : ℕ) → (digit_value c < 16 → ⊥) → is_hex c ≡ false
not_hex c h = false_from_ne_true (is_hex c) (λ t. h (hex_value_small c t))

-- escapes are ASCII, so that their bytes are their characters
pub hex_bytes : (c : ℕ) → c < 256 → encode_utf8_all (hex_escape c) ≡ hex_escape c
hex_bytes c l = encodes-IsAscii (hex_escape c) (ascii_from_all (hex_escape c) (hex_escape_ascii c l))

pub unit_bytes : (c : ℕ) → c < 65536 → encode_utf8_all (unit_escape c) ≡ unit_escape c
unit_bytes c l = encodes-IsAscii (unit_escape c) (ascii_from_all (unit_escape c) (unit_escape_ascii c l))

pub braced_bytes : (c : ℕ) → c < 1114112 → encode_utf8_all (braced_escape c) ≡ braced_escape c
braced_bytes c l = encodes-IsAscii (braced_escape c) (ascii_from_all (braced_escape c) (braced_escape_ascii c l))

pub unseen_small : (c : ℕ) → is_unseen c ≡ true → c < 65536
unseen_small c h = elim (unseen_cases c h) [ inl e ↦ omega (arith, e) | inr x ↦ elim x [ inl e ↦ omega (arith, e) | inr e ↦ omega (arith, e) ] ]

pub nothing_left : (d a : Bool) (rest : List ℕ) → length rest ≡ 0 → spelled_bytes d a rest ≡ []
unfolding spelled_pieces pieces_after chars
nothing_left d a rest l = rw (nil_from_length rest l) refl

-- two digits after `\x`
pub hex_front : (a b : ℕ) (cs raw : List ℕ) (p : Piece) → raw ≡ a ∷ b ∷ cs → p ≡ hex_digits_piece a b → p ≡ hex_piece raw
unfolding hex_piece
hex_front a b cs raw p e f = f ∙ sym (ap hex_piece e)

taken : (p : Piece) → ((x : ℕ) → p ≡ Backslashed x → ⊥) → hex_more p ≡ 2
unfolding hex_more
taken (Bare c) n = refl
taken (Backslashed c) n = absurd (n c refl)
taken (Hex v) n = refl
taken Gone n = refl

pub hex_rest : (a b : ℕ) (cs raw : List ℕ) (p : Piece) → raw ≡ a ∷ b ∷ cs → p ≡ hex_digits_piece a b → ((x : ℕ) → p ≡ Backslashed x → ⊥) → pieces_after (hex_more (hex_piece raw)) raw ≡ pieces cs
unfolding hex_piece pieces_after
hex_rest a b cs raw p e f n =
    ap (λ x. pieces_after (hex_more (hex_piece x)) x) e ∙ (ap (λ x. pieces_after (hex_more x) (a ∷ b ∷ cs)) (sym f) ∙ ap (λ k. pieces_after k (a ∷ b ∷ cs)) (taken p n))

pub digit_other : (p : Piece) (ps : List Piece) (d a : Bool) → ((x : ℕ) → p ≡ Bare x → ⊥) → (p ≡ Gone → ⊥) → begins_digit (spelled_pieces d a (p ∷ ps)) ≡ false
digit_other (Bare c) ps d a n m = absurd (n c refl)
digit_other (Backslashed c) ps d a n m = digit_kept c ps d a
digit_other (Hex v) ps d a n m = digit_hex v ps d a
digit_other Gone ps d a n m = absurd (m refl)
