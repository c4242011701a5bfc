-- Indentation: blanks and tabs.
use Rattle.std.proofs.Common.{◌≡◌, ℕ, zero, suc, true, not, List, [], ◌∷◌, ◌++◌, ◌||◌, ◌==◌, ◌<◌, refl, sym, ap, subst, arith, inl, inr}
use Rattle.std.specs.List.{repeat}
use Rattle.std.specs.Str.{chars, IsAscii, IsUtf8}
use Rattle.std.proofs.lemmas.Bool.{and_from, and_parts, eqb-true, or_cases}
use Rattle.std.proofs.lemmas.Str.{chars-IsAscii, IsUtf8-from_ascii}
use Rattle.std.proofs.lemmas.Str.Ascii.{IsAscii-cons, IsAscii-nil}
use Rattle.swc_ecma_codegen_grammar.specs.Chars.{is_blank, is_line_end, is_one_line}
use Rattle.swc_ecma_codegen_grammar.specs.Trivia.{is_piece, piece_text, pieces_text, all_pieces, remarks_of}
use Rattle.swc_ecma_codegen_tokens.specs.Written.{all_indent, is_indent}
unfoldable pub use Rattle.swc_ecma_codegen_tokens.specs.Written.{blanks}

pub indent_append : (u v : List ℕ) → all_indent u ≡ true → all_indent v ≡ true → all_indent (u ++ v) ≡ true
unfolding all_indent
indent_append [] v h k = k
indent_append (c ∷ cs) v h k = let p = and_parts (is_indent c) (all_indent cs) h in and_from (is_indent c) (all_indent (cs ++ v)) p.0 (indent_append cs v p.1 k)

pub indent_repeat : (n : ℕ) (u : List ℕ) → all_indent u ≡ true → all_indent (repeat n u) ≡ true
unfolding all_indent
indent_repeat zero u h = refl
indent_repeat (suc n) u h = indent_append u (repeat n u) h (indent_repeat n u h)

small : (c : ℕ) → is_indent c ≡ true → c < 128
unfolding is_indent
small c h =
    elim (or_cases (c == 32) (c == 9) h) [
      | inl e ↦ let q = eqb-true c 32 e in omega (arith, q)
      | inr e ↦ let q = eqb-true c 9 e in omega (arith, q)
    ]

pub indent_ascii : (u : List ℕ) → all_indent u ≡ true → IsAscii u
unfolding all_indent
indent_ascii [] h = IsAscii-nil
indent_ascii (c ∷ cs) h = let p = and_parts (is_indent c) (all_indent cs) h in IsAscii-cons c cs (small c p.0) (indent_ascii cs p.1)

pub indent_utf8 : (u : List ℕ) → all_indent u ≡ true → IsUtf8 u
indent_utf8 u h = IsUtf8-from_ascii u (indent_ascii u h)

pub indent_chars : (u : List ℕ) → all_indent u ≡ true → chars u ≡ u
indent_chars u h = chars-IsAscii u (indent_ascii u h)

pub blanks_text : (u : List ℕ) → pieces_text (blanks u) ≡ u
unfolding blanks pieces_text piece_text
blanks_text [] = refl
blanks_text (c ∷ cs) = ap (λ z. c ∷ z) (blanks_text cs)

pub indent_blank : (c : ℕ) → is_indent c ≡ true → is_blank c ≡ true
unfolding is_indent is_blank
indent_blank c h =
    elim (or_cases (c == 32) (c == 9) h) [
      | inl e ↦ subst (λ z. ((z == 32) || ((z == 9) || ((z == 10) || (z == 13)))) ≡ true) (sym (eqb-true c 32 e)) refl
      | inr e ↦ subst (λ z. ((z == 32) || ((z == 9) || ((z == 10) || (z == 13)))) ≡ true) (sym (eqb-true c 9 e)) refl
    ]

pub blanks_pieces : (u : List ℕ) → all_indent u ≡ true → all_pieces (blanks u) ≡ true
unfolding blanks all_indent all_pieces is_piece
blanks_pieces [] h = refl
blanks_pieces (c ∷ cs) h =
    let p = and_parts (is_indent c) (all_indent cs) h in
    and_from (is_blank c) (all_pieces (blanks cs)) (indent_blank c p.0) (blanks_pieces cs p.1)

pub blanks_remarks : (u : List ℕ) → remarks_of (blanks u) ≡ []
unfolding blanks remarks_of
blanks_remarks [] = refl
blanks_remarks (c ∷ cs) = blanks_remarks cs

-- indentation holds no line terminator
indent_in_line : (c : ℕ) → is_indent c ≡ true → not (is_line_end c) ≡ true
unfolding is_indent is_line_end
indent_in_line c h =
    elim (or_cases (c == 32) (c == 9) h) [
      | inl e ↦ subst (λ z. not ((z == 10) || ((z == 13) || ((z == 8232) || (z == 8233)))) ≡ true) (sym (eqb-true c 32 e)) refl
      | inr e ↦ subst (λ z. not ((z == 10) || ((z == 13) || ((z == 8232) || (z == 8233)))) ≡ true) (sym (eqb-true c 9 e)) refl
    ]

pub indent_one_line : (u : List ℕ) → all_indent u ≡ true → is_one_line (pieces_text (blanks u)) ≡ true
unfolding all_indent is_one_line blanks pieces_text piece_text
indent_one_line [] h = refl
indent_one_line (c ∷ cs) h = let p = and_parts (is_indent c) (all_indent cs) h in and_from (not (is_line_end c)) (is_one_line (pieces_text (blanks cs))) (indent_in_line c p.0) (indent_one_line cs p.1)
