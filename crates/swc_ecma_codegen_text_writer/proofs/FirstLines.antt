-- The first line of a text, and the place after it.
use Rattle.std.proofs.Common.{◌≡◌, inl, inr, ℕ, ◌+◌, ◌≤◌, Bool, true, false, List, [], ◌∷◌, ◌++◌, refl, sym, ◌∙◌, ap, cond, arith, zero-add, add_assoc, ◌||◌, ◌==◌}
use Rattle.std.proofs.lemmas.Bool.{or_parts, true≢false, cond-true, cond-false}
use Rattle.swc_ecma_codegen_text_writer.specs.Places.{Place, after_text, after_byte, after_lf, next_line, units_of}
use Rattle.swc_ecma_codegen_text_writer.specs.Characters.{is_line_end}
use Rattle.swc_ecma_codegen_text_writer.specs.Reach.{further}
use Rattle.swc_ecma_codegen_text_writer.specs.Filling.{IsLineEnd, first_units}

-- a line ends in a text
unfoldable pub has_end : List ℕ → Bool
has_end [] = false
has_end (c ∷ cs) = is_line_end c || has_end cs

pub byte_further : (c : ℕ) (p : Place) → is_line_end c ≡ false → after_byte c p ≡ further (units_of c) p
unfolding after_byte
byte_further c p h =
    let k = or_parts (c == 10) (c == 13) h in
    cond-false (c == 10) (after_lf p) (cond (c == 13) (next_line true p) (further (units_of c) p)) k.0
    ∙ cond-false (c == 13) (next_line true p) (further (units_of c) p) k.1

pub first-further : (c : ℕ) (cs : List ℕ) → is_line_end c ≡ false → first_units (c ∷ cs) ≡ units_of c + first_units cs
unfolding first_units
first-further c cs h = cond-false (is_line_end c) 0 (units_of c + first_units cs) h

pub first-end : (c : ℕ) (cs : List ℕ) → is_line_end c ≡ true → first_units (c ∷ cs) ≡ 0
unfolding first_units
first-end c cs h = cond-true (is_line_end c) 0 (units_of c + first_units cs) h

pub first-empty : first_units [] ≡ 0
unfolding first_units
first-empty = refl

-- what begins with a line end
pub first-line_end : (e t : List ℕ) → IsLineEnd e → first_units (e ++ t) ≡ 0
unfolding first_units
first-line_end e t (inl h) = ap (λ z. first_units (z ++ t)) h
first-line_end e t (inr h) = ap (λ z. first_units (z ++ t)) h

-- behind a line end nothing counts
pub first-ended : (s t : List ℕ) → has_end s ≡ true → first_units (s ++ t) ≡ first_units s
unfolding first_units has_end
first-ended [] t h = absurd (true≢false (sym h))
first-ended (c ∷ cs) t h =
    (elim (is_line_end c) as (λ b. (b || has_end cs) ≡ true → cond b 0 (units_of c + first_units (cs ++ t)) ≡ cond b 0 (units_of c + first_units cs))
    [ true ↦ λ k. refl | false ↦ λ k. ap (λ z. units_of c + z) (first-ended cs t k) ]) h

-- within a line both count
pub first-append : (s t : List ℕ) → has_end s ≡ false → first_units (s ++ t) ≡ first_units s + first_units t
unfolding first_units has_end
first-append [] t h = sym (zero-add (first_units t))
first-append (c ∷ cs) t h =
    (elim (is_line_end c) as (λ b. (b || has_end cs) ≡ false → cond b 0 (units_of c + first_units (cs ++ t)) ≡ cond b 0 (units_of c + first_units cs) + first_units t)
    [ true ↦ λ k. absurd (true≢false k) | false ↦ λ k. ap (λ z. units_of c + z) (first-append cs t k) ∙ sym (add_assoc (units_of c) (first_units cs) (first_units t)) ]) h

pub first-le : (s t : List ℕ) → first_units s ≤ first_units (s ++ t)
first-le s t =
    (elim (has_end s) as (λ b. has_end s ≡ b → first_units s ≤ first_units (s ++ t))
    [ true ↦ λ h. let e = first-ended s t h in omega arith | false ↦ λ h. let e = first-append s t h in omega arith ]) refl

-- a text in a line leads so many units further
pub column-append : (s : List ℕ) (p : Place) → has_end s ≡ false → (after_text s p).column ≡ p.column + first_units s
unfolding after_text first_units has_end
column-append [] p h = omega arith
column-append (c ∷ cs) p h =
    let k = or_parts (is_line_end c) (has_end cs) h in
    let f : first_units (c ∷ cs) ≡ units_of c + first_units cs = first-further c cs k.0 in
    ap (λ q. (after_text cs q).column) (byte_further c p k.0)
    ∙ (column-append cs (further (units_of c) p) k.1 ∙ (add_assoc p.column (units_of c) (first_units cs) ∙ ap (λ z. p.column + z) (sym f)))
