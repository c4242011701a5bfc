-- The place after some bytes.
use Rattle.std.proofs.Common.{◌≡◌, ℕ, ◌+◌, List, [], ◌∷◌, ◌++◌, true, false, cond, eqb, nat_le, refl, sym, ap, ◌∙◌, arith, length, ◌<◌, ◌≤◌, take, drop, length-drop, get_or, suc}
use Rattle.std.proofs.lemmas.Bool.{ne_eqb, and_parts, true≢false}
use Rattle.std.proofs.lemmas.List.{take_more, nil_from_length}
use Rattle.std.proofs.Math.Seq.{drop-cons}
use Rattle.swc_ecma_codegen_text_writer.specs.Places.{Place, units_of, after_lf, after_byte, after_text, next_line}
use Rattle.swc_ecma_codegen_text_writer.specs.Characters.{is_line_end}
use Rattle.swc_ecma_codegen_text_writer.specs.Reach.{further, is_one_column, is_in_line}
use Rattle.swc_ecma_codegen_text_writer.specs.Filling.{first_units}
use Rattle.swc_ecma_codegen_text_writer.proofs.FirstLines.{first-further, first-end, first-empty}

-- LF after CR
pub after_second : (byte : ℕ) (p : Place) → byte ≡ 10 → p.after_cr ≡ true → after_byte byte p ≡ further 0 p
unfolding after_byte after_lf
after_second byte p h k =
    let e : p.column + 0 ≡ p.column = omega arith in
    ap (λ b. after_byte b p) h ∙ ap (λ c. cond c (record p { after_cr = false }) (next_line false p)) k ∙ ap (λ n. record { line = p.line; column = n; after_cr = false }) (sym e)

-- LF after another byte
pub after_lone : (byte : ℕ) (p : Place) → byte ≡ 10 → p.after_cr ≡ false → after_byte byte p ≡ next_line false p
unfolding after_byte after_lf
after_lone byte p h k = ap (λ b. after_byte b p) h ∙ ap (λ c. cond c (record p { after_cr = false }) (next_line false p)) k

-- CR
pub after_return : (byte : ℕ) (p : Place) → byte ≡ 13 → after_byte byte p ≡ next_line true p
unfolding after_byte
after_return byte p h = ap (λ b. after_byte b p) h

-- a byte that ends no line
pub after_other : (byte : ℕ) (p : Place) → (byte ≡ 10 → ⊥) → (byte ≡ 13 → ⊥) → after_byte byte p ≡ further (units_of byte) p
unfolding after_byte
after_other byte p h k =
    ap (λ b. cond b (after_lf p) (cond (eqb byte 13) (next_line true p) (further (units_of byte) p))) (ne_eqb byte 10 h) ∙ ap (λ b. cond b (next_line true p) (further (units_of byte) p)) (ne_eqb byte 13 k)

pub one_unit : (byte : ℕ) → nat_le byte 127 ≡ true → units_of byte ≡ 1
unfolding units_of
one_unit byte h = ap (λ b. cond b 1 (cond (nat_le byte 191) 0 (cond (nat_le byte 239) 1 2))) h

-- a byte more
after_text-more : (xs : List ℕ) (byte : ℕ) (p : Place) → after_text (xs ++ byte ∷ []) p ≡ after_byte byte (after_text xs p)
unfolding after_text
after_text-more [] byte p = refl
after_text-more (x ∷ xs) byte p = after_text-more xs byte (after_byte x p)

pub after_text_take : (xs : List ℕ) (i d : ℕ) (p : Place) → i < length xs → after_text (take (i + 1) xs) p ≡ after_byte (get_or xs i d) (after_text (take i xs) p)
after_text_take xs i d p h = ap (λ ys. after_text ys p) (take_more xs i d h) ∙ after_text-more (take i xs) (get_or xs i d) p

pub after_text_nil : (p : Place) → after_text [] p ≡ p
unfolding after_text
after_text_nil p = refl

-- a character that takes one column
one_column : (byte : ℕ) (p : Place) → is_one_column byte ≡ true → after_byte byte p ≡ further 1 p
unfolding is_one_column
one_column byte p h =
    let b = and_parts (nat_le 14 byte) (nat_le byte 127) h in
    after_other byte p (λ e. absurd (true≢false (sym b.0 ∙ ap (nat_le 14) e))) (λ e. absurd (true≢false (sym b.0 ∙ ap (nat_le 14) e))) ∙ ap (λ n. further n p) (one_unit byte b.1)

further_twice : (m n : ℕ) (p : Place) → further n (further m p) ≡ further (m + n) p
further_twice m n p = let e : p.column + m + n ≡ p.column + (m + n) = omega arith in ap (λ k. record { line = p.line; column = k; after_cr = false }) e

after_first : (x : ℕ) (xs : List ℕ) (p : Place) → after_text (x ∷ xs) p ≡ after_text xs (after_byte x p)
unfolding after_text
after_first x xs p = refl

-- a text of these, of one at least
pub in_line : (text : List ℕ) (p : Place) → (text ≡ [] → ⊥) → is_in_line text ≡ true → after_text text p ≡ further (length text) p
in_line [] p some h = absurd (some refl)
in_line (x ∷ []) p some h = after_first x [] p ∙ after_text_nil (after_byte x p) ∙ one_column x p (and_parts (is_one_column x) true h).0
in_line (x ∷ y ∷ ys) p some h =
    let b = and_parts (is_one_column x) (is_in_line (y ∷ ys)) h in
    let more : 1 + length (y ∷ ys) ≡ length (x ∷ y ∷ ys) = omega arith in
    after_first x (y ∷ ys) p ∙ ap (λ z. after_text (y ∷ ys) z) (one_column x p b.0) ∙ in_line (y ∷ ys) (further 1 p) (λ e. let n = ap length e in absurd (omega (arith, n))) b.1 ∙ further_twice 1 (length (y ∷ ys)) p ∙ ap (λ n. further n p) more

-- two texts, one after the other
pub after_both : (t u : List ℕ) (p : Place) → after_text (t ++ u) p ≡ after_text u (after_text t p)
unfolding after_text
after_both [] u p = refl
after_both (c ∷ cs) u p = after_both cs u _

-- ---- the first line of a text

-- from a byte on
pub first_drop : (xs : List ℕ) (i d : ℕ) → i < length xs → is_line_end (get_or xs i d) ≡ false → first_units (drop i xs) ≡ units_of (get_or xs i d) + first_units (drop (i + 1) xs)
first_drop xs i d h k =
    let e : suc i ≡ i + 1 = omega arith in
    ap first_units (drop-cons xs i d h) ∙ (first-further (get_or xs i d) (drop (suc i) xs) k ∙ ap (λ n. units_of (get_or xs i d) + first_units (drop n xs)) e)

pub first_stop : (xs : List ℕ) (i d : ℕ) → i < length xs → is_line_end (get_or xs i d) ≡ true → first_units (drop i xs) ≡ 0
first_stop xs i d h k = ap first_units (drop-cons xs i d h) ∙ (first-end (get_or xs i d) _ k)

pub first_all : (xs : List ℕ) (i : ℕ) → length xs ≤ i → first_units (drop i xs) ≡ 0
first_all xs i h =
    let n : length (drop i xs) ≡ 0 = simp length-drop (omega arith) in
    ap first_units (nil_from_length (drop i xs) n) ∙ first-empty
