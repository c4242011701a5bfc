-- The characters of the text that is printed for a template.
use Rattle.std.proofs.Common.{◌≡◌, ℕ, zero, suc, ◌+◌, ◌*◌, ◌<◌, ◌≤◌, Bool, true, false, ◌&&◌, ◌||◌, ◌==◌, List, [], ◌∷◌, nat_lt, nat_le, refl, sym, ap, ◌∙◌, subst, arith, inl, inr, codes}
use Rattle.std.specs.Char.{digit_value}
use Rattle.std.specs.List.{list_all}
use Rattle.std.specs.Str.{chars, IsAscii}
use Rattle.std.proofs.lemmas.Bool.{cases_lt, lt-ltb, ltb-true, leb-true, and_from, and_parts, and_right, ne_eqb, false≢true, false_from_ne_true}
use Rattle.std.proofs.lemmas.Str.{chars-encodes, encodes-IsAscii}
use Rattle.std.proofs.lemmas.List.Folds.{list_all-append}
use lib.Utf8.{encodes, scalars, scalar, low_scalar}
use Rattle.swc_ecma_codegen_grammar.specs.Chars.{begins_digit}
use Rattle.swc_ecma_codegen_grammar.specs.Numbers.{is_hex}
use Rattle.swc_ecma_codegen_grammar.specs.Texts.{begins}
use Rattle.swc_ecma_codegen_literals.specs.StringTexts.{is_unseen, hex_escape, unit_escape, braced_escape}
use Rattle.swc_ecma_codegen_literals.specs.declared.templates.Piece.{Piece}
use Rattle.swc_ecma_codegen_literals.specs.declared.templates.Piece.TheVariants.{Bare, Backslashed, Hex, Gone}
use Rattle.swc_ecma_codegen_literals.specs.TemplateTexts.{stays_hex, hex_value_piece, hex_digits_piece, hex_piece, is_kept, escape_piece, first_piece, piece_more, pieces_after, pieces, bare_text, piece_text, dollar_after, spelled_pieces, template_text}
use Rattle.swc_ecma_codegen_literals.proofs.EscapeTexts.{chosen, is_ascii_char, hex_escape_ascii, unit_escape_ascii, braced_escape_ascii}
use Rattle.swc_ecma_codegen_literals.proofs.QuotedTexts.{scalars_append, ascii_scalars}
use Rattle.swc_ecma_codegen_literals.proofs.SpelledTexts.{scalar_bound, ascii_from_all}
use Rattle.swc_ecma_codegen_literals.proofs.StringUnits.{scalars_rest}
use Rattle.swc_ecma_codegen_literals.proofs.TemplatePieces.{unseen_small, hex_value_small}

-- the characters of pieces
abbrev pub Fine : Piece → Type 0
Fine (Bare c) = scalar c ≡ true
Fine (Backslashed c) = c < 128
Fine (Hex v) = v < 256
Fine Gone = Unit {0}

kept_high : (c : ℕ) (cs : List ℕ) → 128 ≤ c → is_kept c cs ≡ false
unfolding is_kept
kept_high c cs g =
    let n : (k : ℕ) → k < 128 → (c == k) ≡ false = λ k l. ne_eqb c k (λ e. omega (arith, e, g, l)) in
    rw (n 92 (omega arith), n 114 (omega arith), n 118 (omega arith), n 98 (omega arith), n 102 (omega arith), n 117 (omega arith), n 10 (omega arith), n 96 (omega arith), n 36 (omega arith), and_right (nat_le 49 c) (nat_le c 55) (above c 55 (omega (arith, g)))) refl
  where
    above : (a b : ℕ) → b < a → nat_le a b ≡ false
    above a b l = false_from_ne_true (nat_le a b) (λ t. let m : a ≤ b = leb-true a b t in omega (arith, m, l))

kept_small : (c : ℕ) (cs : List ℕ) → is_kept c cs ≡ true → c < 128
kept_small c cs h = elim (cases_lt c 128) [ inl l ↦ l | inr g ↦ absurd (false≢true (sym (kept_high c cs g) ∙ h)) ]

value_fine : (v : ℕ) → v < 256 → Fine (hex_value_piece v)
unfolding hex_value_piece
value_fine v l =
    chosen Fine (stays_hex v) _ _ (λ _. omega arith) (λ _.
    chosen Fine ((v == 0) || (nat_le 32 v && nat_le v 126)) _ _ (λ _. low_scalar v (omega arith)) (λ _. l))

digits_fine : (a b : ℕ) → Fine (hex_digits_piece a b)
unfolding hex_digits_piece
digits_fine a b =
    chosen Fine (is_hex a && is_hex b) _ _ (λ e. let p = and_parts (is_hex a) (is_hex b) e in let m = hex_value_small a p.0 in let n = hex_value_small b p.1 in value_fine (digit_value a * 16 + digit_value b) (omega (arith, m, n))) (λ _. omega arith)

hex_fine : (cs : List ℕ) → Fine (hex_piece cs)
unfolding hex_piece
hex_fine [] = omega arith
hex_fine (a ∷ []) = omega arith
hex_fine (a ∷ b ∷ cs) = digits_fine a b

escape_fine : (cs : List ℕ) → scalars cs ≡ true → Fine (escape_piece cs)
unfolding escape_piece
escape_fine [] s = refl
escape_fine (c ∷ cs) s =
    chosen Fine (c == 110) _ _ (λ _. refl) (λ _.
    chosen Fine (c == 116) _ _ (λ _. refl) (λ _.
    chosen Fine (c == 48) _ _ (λ _. refl) (λ _.
    chosen Fine (c == 120) _ _ (λ _. hex_fine cs) (λ _.
    chosen Fine ((c == 8232) || (c == 8233)) _ _ (λ _. tt) (λ _.
    chosen Fine (c == 13) _ _ (λ _. omega arith) (λ _.
    chosen Fine (is_kept c cs) _ _ (kept_small c cs) (λ _. (and_parts (scalar c) (scalars cs) s).0)))))))

pub first_fine : (c : ℕ) (cs : List ℕ) → scalars (c ∷ cs) ≡ true → Fine (first_piece c cs)
unfolding first_piece
first_fine c cs s =
    let p = and_parts (scalar c) (scalars cs) s in
    chosen Fine (c == 92) _ _ (λ _. escape_fine cs p.1) (λ _.
    chosen Fine (c == 13) _ _ (λ _. chosen Fine (begins (10 ∷ []) cs) _ _ (λ _. tt) (λ _. refl)) (λ _. p.0))

abbrev pub AllFine : List Piece → Type 0
AllFine [] = Unit {0}
AllFine (p ∷ ps) = Fine p × AllFine ps

pub all_fine : (skip : ℕ) (cs : List ℕ) → scalars cs ≡ true → AllFine (pieces_after skip cs)
unfolding pieces_after
all_fine skip [] s = tt
all_fine (suc skip) (c ∷ cs) s = all_fine skip cs (scalars_rest c cs s)
all_fine zero (c ∷ cs) s = (first_fine c cs s, all_fine (piece_more c cs) cs (scalars_rest c cs s))

-- all in ASCII
one_ascii : (c : ℕ) → c < 128 → list_all is_ascii_char (c ∷ []) ≡ true
one_ascii c l = and_from (is_ascii_char c) true (lt-ltb c 128 l) refl

bare_ascii : (d : Bool) (c : ℕ) (next : List ℕ) → c < 1114112 → list_all is_ascii_char (bare_text d true c next) ≡ true
unfolding bare_text
bare_ascii d c next l =
    let P : List ℕ → Type 0 = λ t. list_all is_ascii_char t ≡ true in
    chosen P (c == 0) _ _ (λ _. chosen P (begins_digit next) (codes "\\x00") (codes "\\0") (λ _. refl) (λ _. refl)) (λ _.
    chosen P (c == 8) _ _ (λ _. refl) (λ _.
    chosen P (c == 11) _ _ (λ _. refl) (λ _.
    chosen P (c == 12) _ _ (λ _. refl) (λ _.
    chosen P ((c == 123) && d) _ _ (λ _. refl) (λ _.
    chosen P (is_unseen c) _ _ (λ e. unit_escape_ascii c (unseen_small c e)) (λ _.
    chosen P (nat_lt c 127) _ _ (λ e. let m = ltb-true c 127 e in one_ascii c (omega (arith, m))) (λ _.
    chosen P (nat_lt c 256) _ _ (λ e. hex_escape_ascii c (ltb-true c 256 e)) (λ _. braced_escape_ascii c l))))))))

piece_ascii : (d : Bool) (p : Piece) (next : List ℕ) → Fine p → list_all is_ascii_char (piece_text d true p next) ≡ true
unfolding piece_text
piece_ascii d (Bare c) next f = bare_ascii d c next (scalar_bound c f)
piece_ascii d (Backslashed c) next f = and_from (is_ascii_char 92) (list_all is_ascii_char (c ∷ [])) refl (one_ascii c f)
piece_ascii d (Hex v) next f = hex_escape_ascii v f
piece_ascii d Gone next f = refl

pieces_ascii : (d : Bool) (ps : List Piece) → AllFine ps → list_all is_ascii_char (spelled_pieces d true ps) ≡ true
unfolding spelled_pieces
pieces_ascii d [] f = refl
pieces_ascii d (p ∷ ps) f =
    let next = spelled_pieces (dollar_after d p) true ps in
    list_all-append is_ascii_char (piece_text d true p next) next ∙
    and_from (list_all is_ascii_char (piece_text d true p next)) (list_all is_ascii_char next) (piece_ascii d p next f.0) (pieces_ascii (dollar_after d p) ps f.1)

-- a spelled text is made of characters
bare_scalars : (d a : Bool) (c : ℕ) (next : List ℕ) → scalar c ≡ true → scalars (bare_text d a c next) ≡ true
unfolding bare_text
bare_scalars d a c next s =
    let P : List ℕ → Type 0 = λ t. scalars t ≡ true in
    let one : scalars (c ∷ []) ≡ true = and_from (scalar c) true s refl in
    chosen P (c == 0) _ _ (λ _. chosen P (begins_digit next) (codes "\\x00") (codes "\\0") (λ _. refl) (λ _. refl)) (λ _.
    chosen P (c == 8) _ _ (λ _. refl) (λ _.
    chosen P (c == 11) _ _ (λ _. refl) (λ _.
    chosen P (c == 12) _ _ (λ _. refl) (λ _.
    chosen P ((c == 123) && d) _ _ (λ _. refl) (λ _.
    chosen P (is_unseen c) _ _ (λ e. ascii_scalars (unit_escape c) (unit_escape_ascii c (unseen_small c e))) (λ _.
    chosen P (nat_lt c 127) _ _ (λ _. one) (λ _.
    chosen P (nat_lt c 256) _ _ (λ e. ascii_scalars (hex_escape c) (hex_escape_ascii c (ltb-true c 256 e))) (λ _.
    chosen P a _ _ (λ _. ascii_scalars (braced_escape c) (braced_escape_ascii c (scalar_bound c s))) (λ _. one)))))))))

piece_scalars : (d a : Bool) (p : Piece) (next : List ℕ) → Fine p → scalars (piece_text d a p next) ≡ true
unfolding piece_text
piece_scalars d a (Bare c) next f = bare_scalars d a c next f
piece_scalars d a (Backslashed c) next f = and_from (scalar 92) (scalars (c ∷ [])) refl (and_from (scalar c) true (low_scalar c (omega arith)) refl)
piece_scalars d a (Hex v) next f = ascii_scalars (hex_escape v) (hex_escape_ascii v f)
piece_scalars d a Gone next f = refl

pieces_scalars : (d a : Bool) (ps : List Piece) → AllFine ps → scalars (spelled_pieces d a ps) ≡ true
unfolding spelled_pieces
pieces_scalars d a [] f = refl
pieces_scalars d a (p ∷ ps) f =
    let next = spelled_pieces (dollar_after d p) a ps in
    scalars_append (piece_text d a p next) next (piece_scalars d a p next f.0) (pieces_scalars (dollar_after d p) a ps f.1)

pub text_scalars : (a : Bool) (raw : List ℕ) → scalars raw ≡ true → scalars (template_text a raw) ≡ true
unfolding template_text
text_scalars a raw s = pieces_scalars false a (pieces raw) (all_fine 0 raw s)

pub text_chars : (a : Bool) (raw bytes : List ℕ) → scalars raw ≡ true → bytes ≡ encodes (template_text a raw) → chars bytes ≡ template_text a raw
unfolding template_text
text_chars a raw bytes s e = ap chars e ∙ chars-encodes (template_text a raw) (pieces_scalars false a (pieces raw) (all_fine 0 raw s))

pub text_ascii : (raw bytes : List ℕ) → scalars raw ≡ true → bytes ≡ encodes (template_text true raw) → IsAscii bytes
unfolding template_text
text_ascii raw bytes s e =
    let i = ascii_from_all (template_text true raw) (pieces_ascii false (pieces raw) (all_fine 0 raw s)) in
    subst (λ x. IsAscii x) (sym (e ∙ encodes-IsAscii (template_text true raw) i)) i
