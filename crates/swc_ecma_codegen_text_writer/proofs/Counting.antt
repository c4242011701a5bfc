-- The column after a text.
use Rattle.std.proofs.Common.{◌≡◌, ◌⊎◌, inl, inr, ℕ, ◌+◌, ◌<◌, ◌≤◌, ◌^◌, min, true, false, List, [], ◌∷◌, length, refl, sym, ◌∙◌, ap, ◌==◌, ◌||◌, arith, nat_le, take, get_or, subst, drop}
use Rattle.std.proofs.lemmas.Bool.{or_cases, and_parts, eqb-true, true≢false, ne_eqb}
use Rattle.swc_ecma_codegen_text_writer.specs.Places.{Place, units_of, after_byte, after_text}
use Rattle.swc_ecma_codegen_text_writer.specs.Characters.{is_line_end}
use Rattle.swc_ecma_codegen_text_writer.specs.Columns.{Stands}
use Rattle.swc_ecma_codegen_text_writer.specs.Filling.{first_units}
use Rattle.swc_ecma_codegen_text_writer.specs.Reach.{is_one_column, is_in_line}
use Rattle.swc_ecma_codegen_text_writer.proofs.Characters.{Begins, byte_begins, text_begins, end_column}
use Rattle.swc_ecma_codegen_text_writer.proofs.FirstLines.{byte_further, first-further, first-empty}
use Rattle.swc_ecma_codegen_text_writer.proofs.Reaching.{in_line, one_unit, after_text_take, after_text_nil, first_drop, first_all}

-- ---- a text that stays in its line

pub column_in_line : (text : List ℕ) (p : Place) → is_in_line text ≡ true → (after_text text p).column ≡ p.column + length text
unfolding after_text
column_in_line [] p h = omega arith
column_in_line (x ∷ xs) p h = ap (λ (q : Place). q.column) (in_line (x ∷ xs) p (λ e. let n = ap length e in absurd (omega (arith, n))) h)

pub not_end : (byte : ℕ) → is_one_column byte ≡ true → is_line_end byte ≡ false
unfolding is_one_column
not_end byte h =
    let b = and_parts (nat_le 14 byte) (nat_le byte 127) h in
    let ten : (byte == 10) ≡ false = ne_eqb byte 10 (λ e. absurd (true≢false (sym b.0 ∙ ap (nat_le 14) e))) in
    let cr : (byte == 13) ≡ false = ne_eqb byte 13 (λ e. absurd (true≢false (sym b.0 ∙ ap (nat_le 14) e))) in
    ap (λ z. z || (byte == 13)) ten ∙ cr

pub unit : (byte : ℕ) → is_one_column byte ≡ true → units_of byte ≡ 1
unfolding is_one_column
unit byte h = one_unit byte (and_parts (nat_le 14 byte) (nat_le byte 127) h).1

pub first_in_line : (text : List ℕ) → is_in_line text ≡ true → first_units text ≡ length text
first_in_line [] h = first-empty
first_in_line (x ∷ xs) h =
    let b = and_parts (is_one_column x) (is_in_line xs) h in
    let k = not_end x b.0 in
    let u = unit x b.0 in
    let r = first_in_line xs b.1 in
    first-further x xs k ∙ omega (arith, u, r)

pub stands_in_line : (units more : ℕ) (text : List ℕ) (p : Place) → is_in_line text ≡ true → min more (2 ^ 32) ≡ min (units + length text) (2 ^ 32) → Stands units p → Stands more (after_text text p)
unfolding Begins
stands_in_line units more text p h k s =
    let c = column_in_line text p h in
    let m = s.0 in
    (omega (arith, c, m, k), text_begins text p s.1)

-- ---- a byte more

either : {byte : ℕ} → ((byte == 10) ≡ true) ⊎ ((byte == 13) ≡ true) → (byte ≡ 10) ⊎ (byte ≡ 13)
either {byte = byte} (inl h) = inl (eqb-true byte 10 h)
either {byte = byte} (inr h) = inr (eqb-true byte 13 h)

pub column_end : (byte : ℕ) (p : Place) → is_line_end byte ≡ true → (p.after_cr ≡ true → p.column ≡ 0) → (after_byte byte p).column ≡ 0
unfolding Begins
column_end byte p h b = end_column byte p (either (or_cases (byte == 10) (byte == 13) h)) b

-- ---- bytes, one after the other

begins_by : (q : Place) (byte : ℕ) (p : Place) → q ≡ after_byte byte p → q.after_cr ≡ true → q.column ≡ 0
unfolding Begins
begins_by q byte p e = subst (λ z. z.after_cr ≡ true → z.column ≡ 0) (sym e) (byte_begins byte p)

pub stands_next : (before after byte units : ℕ) (text : List ℕ) (i : ℕ) (p : Place) → i < length text → byte ≡ get_or text i 0 → is_line_end byte ≡ false → units ≡ units_of byte → min after (2 ^ 32) ≡ min (before + units) (2 ^ 32) → Stands before (after_text (take i text) p) → Stands after (after_text (take (i + 1) text) p)
stands_next before after byte units text i p h b k u a s =
    let q : Place = after_text (take i text) p in
    let e : after_text (take (i + 1) text) p ≡ after_byte byte q = after_text_take text i 0 p h ∙ ap (λ x. after_byte x q) (sym b) in
    let c : (after_byte byte q).column ≡ q.column + units_of byte = ap (λ (z : Place). z.column) (byte_further byte q k) in
    let d : (after_text (take (i + 1) text) p).column ≡ (after_byte byte q).column = ap (λ (z : Place). z.column) e in
    let m = s.0 in
    (omega (arith, c, d, m, a, u), begins_by _ byte q e)

pub stands_end : (before byte : ℕ) (text : List ℕ) (i : ℕ) (p : Place) → i < length text → byte ≡ get_or text i 0 → is_line_end byte ≡ true → Stands before (after_text (take i text) p) → Stands 0 (after_text (take (i + 1) text) p)
stands_end before byte text i p h b k s =
    let q : Place = after_text (take i text) p in
    let e : after_text (take (i + 1) text) p ≡ after_byte byte q = after_text_take text i 0 p h ∙ ap (λ x. after_byte x q) (sym b) in
    let d : (after_text (take (i + 1) text) p).column ≡ 0 = ap (λ (z : Place). z.column) e ∙ column_end byte q k s.1 in
    (omega (arith, d), λ r. d)

pub stands_first : (units : ℕ) (text : List ℕ) (p : Place) → Stands units p → Stands units (after_text (take 0 text) p)
stands_first units text p s = subst (Stands units) (sym (after_text_nil p)) s

pub later : (byte : ℕ) → 14 ≤ byte → is_line_end byte ≡ false
later byte h =
    let ten : (byte == 10) ≡ false = ne_eqb byte 10 (λ e. omega (arith, h, e)) in
    let cr : (byte == 13) ≡ false = ne_eqb byte 13 (λ e. omega (arith, h, e)) in
    ap (λ z. z || (byte == 13)) ten ∙ cr

-- no line ends in a text
pub column_next : (least low byte count more units : ℕ) (text : List ℕ) (i : ℕ) (p : Place) → i < length text → byte ≡ get_or text i 0 → low ≡ min least byte → units ≡ units_of byte → more ≡ count + units → 14 ≤ low → (14 ≤ least → (after_text (take i text) p).column ≡ p.column + count) → (after_text (take (i + 1) text) p).column ≡ p.column + more
column_next least low byte count more units text i p h b l u m k f =
    let q : Place = after_text (take i text) p in
    let j : 14 ≤ least = omega (arith, l, k) in
    let n : 14 ≤ byte = omega (arith, l, k) in
    let e : after_text (take (i + 1) text) p ≡ after_byte byte q = after_text_take text i 0 p h ∙ ap (λ x. after_byte x q) (sym b) in
    let c : (after_byte byte q).column ≡ q.column + units_of byte = ap (λ (z : Place). z.column) (byte_further byte q (later byte n)) in
    let d : (after_text (take (i + 1) text) p).column ≡ (after_byte byte q).column = ap (λ (z : Place). z.column) e in
    let g = f j in
    omega (arith, c, d, g, u, m)

-- a text of one byte
pub one_byte : (text : List ℕ) → length text ≡ 1 → text ≡ get_or text 0 0 ∷ []
one_byte (x ∷ []) h = refl
one_byte [] h = absurd (omega (arith, h))
one_byte (x ∷ y ∷ ys) h = absurd (omega (arith, h))

-- a text of one byte
after_one : (byte : ℕ) (p : Place) → after_text (byte ∷ []) p ≡ after_byte byte p
unfolding after_text
after_one byte p = refl

pub stands_byte : (before after byte : ℕ) (text : List ℕ) (p : Place) → text ≡ byte ∷ [] → is_line_end byte ≡ false → min after (2 ^ 32) ≡ min (before + units_of byte) (2 ^ 32) → Stands before p → Stands after (after_text text p)
stands_byte before after byte text p h k a s =
    let e : after_text text p ≡ after_byte byte p = ap (λ t. after_text t p) h ∙ after_one byte p in
    let c : (after_byte byte p).column ≡ p.column + units_of byte = ap (λ (z : Place). z.column) (byte_further byte p k) in
    let d : (after_text text p).column ≡ (after_byte byte p).column = ap (λ (z : Place). z.column) e in
    let m = s.0 in
    (omega (arith, c, d, m, a), begins_by _ byte p e)

pub stands_byte_end : (before byte : ℕ) (text : List ℕ) (p : Place) → text ≡ byte ∷ [] → is_line_end byte ≡ true → Stands before p → Stands 0 (after_text text p)
stands_byte_end before byte text p h k s =
    let e : after_text text p ≡ after_byte byte p = ap (λ t. after_text t p) h ∙ after_one byte p in
    let d : (after_text text p).column ≡ 0 = ap (λ (z : Place). z.column) e ∙ column_end byte p k s.1 in
    (omega (arith, d), λ r. d)

-- a text in which no line ends
pub stands_on : (before after units : ℕ) (text : List ℕ) (p : Place) → (after_text text p).column ≡ p.column + units → min after (2 ^ 32) ≡ min (before + units) (2 ^ 32) → Stands before p → Stands after (after_text text p)
unfolding Begins
stands_on before after units text p c a s =
    let m = s.0 in
    (omega (arith, c, m, a), text_begins text p s.1)

pub column_none : (p : Place) → (after_text [] p).column ≡ p.column + 0
column_none p = let e : (after_text [] p).column ≡ p.column = ap (λ (z : Place). z.column) (after_text_nil p) in omega (arith, e)

pub units_next : (least low byte count more units : ℕ) (text : List ℕ) (i : ℕ) → i < length text → byte ≡ get_or text i 0 → low ≡ min least byte → units ≡ units_of byte → more ≡ count + units → 14 ≤ low → (14 ≤ least → count + first_units (drop i text) ≡ first_units text) → more + first_units (drop (i + 1) text) ≡ first_units text
units_next least low byte count more units text i h b l u m k f =
    let j : 14 ≤ least = omega (arith, l, k) in
    let n : 14 ≤ get_or text i 0 = omega (arith, l, k, b) in
    let e = first_drop text i 0 h (later (get_or text i 0) n) in
    let v : units ≡ units_of (get_or text i 0) = u ∙ ap units_of b in
    let g = f j in
    omega (arith, e, v, g, m)

pub units_all : (count : ℕ) (text : List ℕ) (i : ℕ) → length text ≤ i → count + first_units (drop i text) ≡ first_units text → first_units text ≡ count
units_all count text i h e = let z = first_all text i h in omega (arith, e, z)
