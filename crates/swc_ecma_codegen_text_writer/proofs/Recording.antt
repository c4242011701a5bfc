-- Pairs that stand in a list, and those that don't.
use Rattle.std.proofs.Common.{◌≡◌, ℕ, ◌+◌, ◌-◌, ◌<◌, ◌≤◌, ◌^◌, zero, suc, List, [], ◌∷◌, ◌++◌, Bool, true, false, cond, eqb, ◌||◌, refl, sym, ap, ◌∙◌, arith, length, take, drop, get_or, min, Ok, Err}
use Rattle.std.proofs.lemmas.Bool.{ne_eqb}
use Rattle.std.proofs.lemmas.Bool.Decides.{nat_tests}
use Rattle.std.proofs.lemmas.List.{take_more, take-append-drop, length-take, length-drop, take_all, get_or-take, get_or-drop, drop-drop}
use Rattle.std.specs.List.{AllWithin}
use Rattle.swc_ecma_codegen_common.specs.declared.positions.BytePos.{BytePos}
use Rattle.swc_ecma_codegen_text_writer.specs.Places.{Place}
use Rattle.swc_ecma_codegen_text_writer.specs.Reach.{Shows, IsBefore}
use Rattle.swc_ecma_codegen_text_writer.specs.declared.positions.Reached.{Reached}
use Rattle.swc_ecma_codegen_text_writer.specs.Positions.{Records}
use Rattle.swc_ecma_codegen_common.specs.declared.errors.Refusal.TheVariants.{OutOfMemory, PositionTooLarge}
use Rattle.swc_ecma_codegen_text_writer.specs.Sheet.{Pair, IsFar, is_same_pair, has_pair, pair_at, with_pair}

has_pair-append : (x : Pair) (ys zs : List Pair) → has_pair x (ys ++ zs) ≡ (has_pair x ys || has_pair x zs)
unfolding has_pair
has_pair-append x [] zs = refl
has_pair-append x (y ∷ ys) zs =
    elim (is_same_pair x y) as (λ b. (b || has_pair x (ys ++ zs)) ≡ ((b || has_pair x ys) || has_pair x zs))
    [ true ↦ refl | false ↦ has_pair-append x ys zs ]

none_of_one : (x y : Pair) → is_same_pair x y ≡ false → has_pair x (y ∷ []) ≡ false
unfolding has_pair
none_of_one x y h = ap (λ b. b || false) h

-- a pair more that isn't it
pub none_more : (x : Pair) (xs : List Pair) (i : ℕ) (d : Pair) → i < length xs → has_pair x (take i xs) ≡ false → is_same_pair x (get_or xs i d) ≡ false → has_pair x (take (i + 1) xs) ≡ false
none_more x xs i d h k m =
    ap (has_pair x) (take_more xs i d h) ∙ has_pair-append x (take i xs) (get_or xs i d ∷ []) ∙ ap (λ b. b || has_pair x (get_or xs i d ∷ [])) k ∙ none_of_one x (get_or xs i d) m

or_true : (a b : Bool) → b ≡ true → (a || b) ≡ true
or_true true b h = refl
or_true false b h = h

-- it is found
pub has_here : (x : Pair) (xs : List Pair) (i : ℕ) (d : Pair) → i < length xs → is_same_pair x (get_or xs i d) ≡ true → has_pair x xs ≡ true
unfolding has_pair
has_here x [] i d h k = absurd (omega (arith, h))
has_here x (y ∷ ys) zero d h k = ap (λ b. b || has_pair x ys) k
has_here x (y ∷ ys) (suc i) d h k = or_true (is_same_pair x y) (has_pair x ys) (has_here x ys i d (omega (arith, h)) k)

pub has_none : (x : Pair) → has_pair x [] ≡ false
unfolding has_pair
has_none x = refl

-- it is none of some
none_of : (x : Pair) (ys : List Pair) → ((k : ℕ) → k < length ys → is_same_pair x (get_or ys k x) ≡ false) → has_pair x ys ≡ false
unfolding has_pair
none_of x [] f = refl
none_of x (y ∷ ys) f =
    ap (λ b. b || has_pair x ys) (f 0 (omega arith)) ∙ none_of x ys (λ k h. f (suc k) (omega (arith, h)))

-- pairs of different places
differs : (x y : Pair) → (x.1.line ≡ y.1.line → x.1.col ≡ y.1.col → ⊥) → is_same_pair x y ≡ false
unfolding is_same_pair
differs x y f = grind (arith, nat_tests)

differs_before : (x y : Pair) (l k : ℕ) → x.1.line ≡ l → x.1.col ≡ k → (y.1.line ≡ l → y.1.col < k) → is_same_pair x y ≡ false
differs_before x y l k h m f = differs x y (λ e d. absurd (omega arith))

-- a list without its middle, whose pairs stand before a place
before_none : (x : Pair) (xs : List Pair) (n m : ℕ) (w : Reached) → n ≤ m → m ≤ length xs → AllWithin (λ y. IsBefore y.1 w) xs n m → x.1.line ≡ w.line → x.1.col ≡ w.column → has_pair x (take (m - n) (drop n xs)) ≡ false
before_none x xs n m w h k f e d =
    none_of x (take (m - n) (drop n xs)) (λ i b.
    let len : length (take (m - n) (drop n xs)) ≡ min (m - n) (length (drop n xs)) = length-take (m - n) (drop n xs) in
    let below : i < m - n = omega (arith, b, len) in
    let here : get_or (take (m - n) (drop n xs)) i x ≡ get_or xs (n + i) x = get_or-take (m - n) (drop n xs) i x below ∙ get_or-drop n xs i x in
    let before = f (n + i) x (omega arith) (omega (arith, below)) in
    ap (is_same_pair x) here ∙ differs_before x (get_or xs (n + i) x) w.line w.column e d before.1.1)

pub parts : (x : Pair) (xs : List Pair) (n m : ℕ) (w : Reached) → n ≤ m → m ≤ length xs → AllWithin (λ y. IsBefore y.1 w) xs n m → x.1.line ≡ w.line → x.1.col ≡ w.column → has_pair x xs ≡ (has_pair x (take n xs) || has_pair x (drop m xs))
parts x xs n m w h k f e d =
    let split : has_pair x (take n xs ++ drop n xs) ≡ (has_pair x (take n xs) || has_pair x (drop n xs)) = has_pair-append x (take n xs) (drop n xs) in
    let rest : has_pair x (take (m - n) (drop n xs) ++ drop (m - n) (drop n xs)) ≡ (has_pair x (take (m - n) (drop n xs)) || has_pair x (drop (m - n) (drop n xs))) = has_pair-append x (take (m - n) (drop n xs)) (drop (m - n) (drop n xs)) in
    let s : n + (m - n) ≡ m = omega arith in
    let dropped : drop (m - n) (drop n xs) ≡ drop m xs = drop-drop (m - n) n xs ∙ ap (λ i. drop i xs) s in
    let tail : has_pair x (drop n xs) ≡ has_pair x (drop m xs) =
    sym (ap (has_pair x) (take-append-drop (m - n) (drop n xs))) ∙ rest ∙ ap (λ b. b || has_pair x (drop (m - n) (drop n xs))) (before_none x xs n m w h k f e d) ∙ ap (has_pair x) dropped in
    sym (ap (has_pair x) (take-append-drop n xs)) ∙ split ∙ ap (λ b. has_pair x (take n xs) || b) tail

-- ---- the pairs after a call

pub pair_reached : (pos : BytePos) (r : Reached) (p : Place) → Shows r p → r.line < 2 ^ 32 → r.column < 2 ^ 32 → ◌≡◌ {A = Pair} (pos, record { line = r.line; col = r.column }) (pair_at pos p)
pair_reached pos r p h k m =
    let e : r.line ≡ p.line = omega arith in
    let d : r.column ≡ p.column = omega arith in
    ap (λ n. (pos, record { line = n; col = r.column })) e ∙ ap (λ n. (pos, record { line = p.line; col = n })) d

pub with_none : (pos : BytePos) (p : Place) (xs : List Pair) → pos.0 ≡ 0 → xs ≡ with_pair pos p xs
unfolding with_pair
with_none pos p xs h =
    sym (ap (λ n. cond (eqb n 0 || has_pair (pair_at pos p) xs) xs (xs ++ (pair_at pos p ∷ []))) h)

pub with_old : (pos : BytePos) (p : Place) (xs : List Pair) → has_pair (pair_at pos p) xs ≡ true → xs ≡ with_pair pos p xs
unfolding with_pair
with_old pos p xs h =
    sym (ap (λ b. cond b xs (xs ++ (pair_at pos p ∷ []))) (or_true (eqb pos.0 0) (has_pair (pair_at pos p) xs) h))

pub with_new : (pos : BytePos) (p : Place) (xs : List Pair) → (pos.0 ≡ 0 → ⊥) → has_pair (pair_at pos p) xs ≡ false → xs ++ (pair_at pos p ∷ []) ≡ with_pair pos p xs
unfolding with_pair
with_new pos p xs h k =
    sym (ap (λ b. cond (b || has_pair (pair_at pos p) xs) xs (xs ++ (pair_at pos p ∷ []))) (ne_eqb pos.0 0 h) ∙ ap (λ b. cond b xs (xs ++ (pair_at pos p ∷ []))) k)

-- ---- what the look-ups say

pub stands_first : (x : Pair) (xs : List Pair) (n m : ℕ) (w : Reached) → n ≤ m → m ≤ length xs → AllWithin (λ y. IsBefore y.1 w) xs n m → x.1.line ≡ w.line → x.1.col ≡ w.column → (a : Bool) → a ≡ has_pair x (take n xs) → a ≡ true → a ≡ has_pair x xs
stands_first x xs n m w h k f e d a s t =
    t ∙ sym (parts x xs n m w h k f e d ∙ ap (λ b. b || has_pair x (drop m xs)) (sym s ∙ t))

pub stands_last : (x : Pair) (xs : List Pair) (n m : ℕ) (w : Reached) → n ≤ m → m ≤ length xs → AllWithin (λ y. IsBefore y.1 w) xs n m → x.1.line ≡ w.line → x.1.col ≡ w.column → (a b : Bool) → a ≡ has_pair x (take n xs) → a ≡ false → b ≡ has_pair x (drop m xs) → b ≡ has_pair x xs
stands_last x xs n m w h k f e d a b s t u =
    u ∙ sym (parts x xs n m w h k f e d ∙ ap (λ c. c || has_pair x (drop m xs)) (sym s ∙ t))

-- ---- what a call records

pub records_none : (pos : BytePos) (p : Place) (xs : List Pair) → pos.0 ≡ 0 → Records pos p xs xs (Ok tt)
unfolding Records
records_none pos p xs h = with_none pos p xs h

pub records_far : (pos : BytePos) (p : Place) (xs : List Pair) → IsFar p → Records pos p xs xs (Err PositionTooLarge)
unfolding Records
records_far pos p xs h = (h, refl)

pub records_old : (pos : BytePos) (p : Place) (xs : List Pair) (b : Bool) (r : Reached) → Shows r p → r.line < 2 ^ 32 → r.column < 2 ^ 32 → b ≡ has_pair (pos, record { line = r.line; col = r.column }) xs → b ≡ true → Records pos p xs xs (Ok tt)
unfolding Records
records_old pos p xs b r s h k e t =
    with_old pos p xs (ap (λ x. has_pair x xs) (sym (pair_reached pos r p s h k)) ∙ sym e ∙ t)

pub records_new : (pos : BytePos) (p : Place) (xs ys : List Pair) (b : Bool) (r : Reached) → Shows r p → r.line < 2 ^ 32 → r.column < 2 ^ 32 → (pos.0 ≡ 0 → ⊥) → b ≡ has_pair (pos, record { line = r.line; col = r.column }) xs → b ≡ false → ys ≡ xs ++ ((pos, record { line = r.line; col = r.column }) ∷ []) → Records pos p xs ys (Ok tt)
unfolding Records
records_new pos p xs ys b r s h k n e t m =
    let same = pair_reached pos r p s h k in
    m ∙ ap (λ x. xs ++ (x ∷ [])) same ∙ with_new pos p xs n (ap (λ x. has_pair x xs) (sym same) ∙ sym e ∙ t)

pub records_refused : (pos : BytePos) (p : Place) (xs ys : List Pair) (b : Bool) (r : Reached) → Shows r p → r.line < 2 ^ 32 → r.column < 2 ^ 32 → (pos.0 ≡ 0 → ⊥) → b ≡ has_pair (pos, record { line = r.line; col = r.column }) xs → b ≡ false → ys ≡ xs → Records pos p xs ys (Err OutOfMemory)
unfolding Records
records_refused pos p xs ys b r s h k n e t m =
    let same = pair_reached pos r p s h k in
    (m, sym (with_new pos p xs n (ap (λ x. has_pair x xs) (sym same) ∙ sym e ∙ t)) ∙ ap (λ zs. zs ++ (pair_at pos p ∷ [])) (sym m))

-- a slice that goes to the end
pub last_part : (xs ys : List Pair) (n : ℕ) → ys ≡ xs → take (length ys - n) (drop n ys) ≡ drop n xs
last_part xs ys n h =
    take_all (length ys - n) (drop n ys) (omega (arith, length-drop n ys)) ∙ ap (λ zs. drop n zs) h
