-- Whether bytes stay in their line, many at once.
use Rattle.std.proofs.Common.{◌≡◌, ℕ, ◌+◌, ◌-◌, ◌*◌, ◌≤◌, Bool, true, false, List, [], ◌∷◌, ◌&&◌, length, take, drop, refl, sym, ◌∙◌, ap, arith, nat_le, nat_eq, ltb, map, not, replicate, cond, ◌%◌, ◌^◌, zero, suc, w8, zero-add}
use Rattle.std.proofs.lemmas.Bool.{ltb-true, ltb-false, le-leb, lt-leb, ne_eqb}
use Rattle.std.proofs.lemmas.List.Folds.{list_all-append}
use Rattle.std.proofs.lemmas.List.{take-append-drop, take_all, length-drop}
use Rattle.std.proofs.Math.Seq.{take-add}
use Rattle.std.specs.List.{list_all}
use Rattle.std.proofs.lemmas.Simd.{bitmask_splat}
use lib.Lanes.{mask_l, zip2, top}
use Rattle.swc_ecma_codegen_text_writer.specs.Reach.{is_one_column, is_in_line}

-- ---- bytes that two parts have between them

more : (b t r s : Bool) → (t && r) ≡ s → ((b && t) && (b && r)) ≡ (b && s)
more true t r s h = h
more false t r s h = refl

first_kept : (n : ℕ) (xs : List ℕ) → (is_in_line (take n xs) && is_in_line xs) ≡ is_in_line xs
first_kept zero xs = refl
first_kept (suc n) [] = refl
first_kept (suc n) (x ∷ xs) = more (is_one_column x) (is_in_line (take n xs)) (is_in_line xs) (is_in_line xs) (first_kept n xs)

first_more : (b t r s : Bool) → (t && r) ≡ s → ((b && t) && r) ≡ (b && s)
first_more true t r s h = h
first_more false t r s h = refl

pub covered : (at last : ℕ) (text : List ℕ) → last ≤ at → (is_in_line (take at text) && is_in_line (drop last text)) ≡ is_in_line text
covered at zero text h = first_kept at text
covered zero (suc last) text h = absurd (omega (arith, h))
covered (suc at) (suc last) [] h = refl
covered (suc at) (suc last) (x ∷ xs) h = first_more (is_one_column x) (is_in_line (take at xs)) (is_in_line (drop last xs)) (is_in_line xs) (covered at last xs (omega (arith, h)))

-- ---- a run of bytes that is passed

pub run_more : (at count : ℕ) (text : List ℕ) → is_in_line (take at text) ≡ true → is_in_line (take count (drop at text)) ≡ true → is_in_line (take (at + count) text) ≡ true
run_more at count text a b =
    ap is_in_line (take-add at count text) ∙ list_all-append is_one_column (take at text) (take count (drop at text)) ∙ ap (λ z. z && is_in_line (take count (drop at text))) a ∙ b

no_right : (b : Bool) → (b && false) ≡ false
no_right true = refl
no_right false = refl

pub run_stops : (at count : ℕ) (text : List ℕ) → is_in_line (take count (drop at text)) ≡ false → is_in_line text ≡ false
run_stops at count text h =
    let rest : is_in_line (drop at text) ≡ false = ap is_in_line (sym (take-append-drop count (drop at text))) ∙ list_all-append is_one_column (take count (drop at text)) (drop count (drop at text)) ∙ ap (λ z. z && is_in_line (drop count (drop at text))) h in
    ap is_in_line (sym (take-append-drop at text)) ∙ list_all-append is_one_column (take at text) (drop at text) ∙ ap (λ z. is_in_line (take at text) && z) rest ∙ no_right (is_in_line (take at text))

-- ---- lanes

twice_none : (m : ℕ) → nat_eq (2 * m) 0 ≡ nat_eq m 0
twice_none zero = refl
twice_none (suc m) = ne_eqb (2 * suc m) 0 (λ e. omega (arith, e)) ∙ sym (ne_eqb (suc m) 0 (λ e. omega (arith, e)))

mask_next : (b : Bool) (m : ℕ) (s : Bool) → nat_eq m 0 ≡ s → nat_eq (cond b 1 0 + 2 * m) 0 ≡ (not b && s)
mask_next true m s h = ne_eqb (1 + 2 * m) 0 (λ e. omega (arith, e))
mask_next false m s h = ap (λ n. nat_eq n 0) (zero-add (2 * m)) ∙ twice_none m ∙ h

pub mask_none : (p : ℕ → Bool) (xs : List ℕ) → nat_eq (mask_l (map p xs)) 0 ≡ list_all (λ x. not (p x)) xs
mask_none p [] = refl
mask_none p (x ∷ xs) = mask_next (p x) (mask_l (map p xs)) (list_all (λ y. not (p y)) xs) (mask_none p xs)

not_before : (byte : ℕ) (b : Bool) → ltb byte 14 ≡ b → not b ≡ nat_le 14 byte
not_before byte true h = sym (lt-leb 14 byte (ltb-true byte 14 h))
not_before byte false h = sym (le-leb 14 byte (ltb-false byte 14 h))

not_after : (byte : ℕ) (b : Bool) → ltb 127 byte ≡ b → not b ≡ nat_le byte 127
not_after byte true h = sym (lt-leb byte 127 (ltb-true 127 byte h))
not_after byte false h = sym (le-leb byte 127 (ltb-false 127 byte h))

one_more : (a b c d : Bool) → ((a && b) && (c && d)) ≡ ((a && c) && (b && d))
one_more true true c d = refl
one_more true false true d = refl
one_more true false false d = refl
one_more false b c d = refl

pub lanes_in_line : (xs : List ℕ) → (list_all (λ x. not (ltb x 14)) xs && list_all (λ x. not (ltb 127 x)) xs) ≡ is_in_line xs
unfolding is_one_column
lanes_in_line [] = refl
lanes_in_line (x ∷ xs) =
    one_more (not (ltb x 14)) (list_all (λ y. not (ltb y 14)) xs) (not (ltb 127 x)) (list_all (λ y. not (ltb 127 y)) xs)
    ∙ ap (λ z. (z && not (ltb 127 x)) && (list_all (λ y. not (ltb y 14)) xs && list_all (λ y. not (ltb 127 y)) xs)) (not_before x (ltb x 14) refl)
    ∙ ap (λ z. (nat_le 14 x && z) && (list_all (λ y. not (ltb y 14)) xs && list_all (λ y. not (ltb 127 y)) xs)) (not_after x (ltb 127 x) refl)
    ∙ ap (λ z. is_one_column x && z) (lanes_in_line xs)

flipped : (n y : ℕ) (xs : List ℕ) → length xs ≡ n → zip2 {C = ℕ} (λ a b. cond (ltb a b) 255 0) (replicate n y) xs ≡ zip2 {C = ℕ} (λ a b. cond (ltb b a) 255 0) xs (replicate n y)
flipped zero y [] h = refl
flipped zero y (x ∷ xs) h = absurd (omega (arith, h))
flipped (suc n) y [] h = absurd (omega (arith, h))
flipped (suc n) y (x ∷ xs) h = ap (λ zs. cond (ltb y x) 255 0 ∷ zs) (flipped n y xs (omega (arith, h)))

-- lanes above a byte
pub late_mask : (xs : List ℕ) (n y : ℕ) → length xs ≡ n → n ≤ 64 → mask_l (map (top 7) (zip2 {C = ℕ} (λ a b. cond (ltb a b) 255 0) (replicate n y) xs)) % 2 ^ 64 ≡ mask_l (map (λ x. ltb y x) xs)
late_mask xs n y h k = ap (λ zs. mask_l (map (top 7) zs) % 2 ^ 64) (flipped n y xs h) ∙ bitmask_splat w8 (λ a b. ltb b a) xs n y h k

pub two_masks : (early late : ℕ) (xs : List ℕ) → early ≡ mask_l (map (λ x. ltb x 14) xs) → late ≡ mask_l (map (λ x. ltb 127 x) xs) → (nat_eq early 0 && nat_eq late 0) ≡ is_in_line xs
two_masks early late xs e l =
    ap (λ m. nat_eq m 0 && nat_eq late 0) e
    ∙ ap (λ m. nat_eq (mask_l (map (λ x. ltb x 14) xs)) 0 && nat_eq m 0) l
    ∙ ap (λ z. z && nat_eq (mask_l (map (λ x. ltb 127 x) xs)) 0) (mask_none (λ x. ltb x 14) xs)
    ∙ ap (λ z. list_all (λ x. not (ltb x 14)) xs && z) (mask_none (λ x. ltb 127 x) xs)
    ∙ lanes_in_line xs

last_run : (count : ℕ) (text : List ℕ) → count ≤ length text → take count (drop (length text - count) text) ≡ drop (length text - count) text
last_run count text h = take_all count (drop (length text - count) text) (omega (arith, length-drop (length text - count) text))

pub covered_by_ends : (count : ℕ) (text : List ℕ) (first last : Bool) → first ≡ is_in_line (take count (drop 0 text)) → last ≡ is_in_line (take count (drop (length text - count) text)) → (count ≤ length text) × (length text ≤ 2 * count) → (first && last) ≡ is_in_line text
covered_by_ends count text first last f l h =
    ap (λ z. z && last) f
    ∙ ap (λ z. is_in_line (take count text) && z) (l ∙ ap is_in_line (last_run count text h.0))
    ∙ covered count (length text - count) text (omega (arith, h.1))

pub covered_by_last : (at count : ℕ) (text : List ℕ) (last : Bool) → count ≤ length text → length text - count ≤ at → is_in_line (take at text) ≡ true → last ≡ is_in_line (take count (drop (length text - count) text)) → last ≡ is_in_line text
covered_by_last at count text last h k p l =
    l ∙ ap is_in_line (last_run count text h)
    ∙ sym (ap (λ z. z && is_in_line (drop (length text - count) text)) p)
    ∙ covered at (length text - count) text k
