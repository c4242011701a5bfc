-- A position in a segment is recorded where it stands.
use Rattle.std.proofs.Common.{◌≡◌, inl, inr, ℕ, Bool, true, false, ◌||◌, ◌==◌, List, [], ◌∷◌, ◌++◌, refl, sym, ◌∙◌, ap, subst, cond, arith}
use Rattle.std.proofs.lemmas.Bool.{true≢false, or_cases}
use Rattle.std.proofs.lemmas.Bool.Decides.{nat_tests}
use Rattle.std.proofs.Math.Bool.{or-true}
use Rattle.swc_ecma_codegen_common.specs.declared.positions.BytePos.{BytePos}
use Rattle.swc_ecma_codegen_text_writer.specs.Places.{Place, after_text}
use Rattle.swc_ecma_codegen_text_writer.proofs.Reaching.{after_both}
use Rattle.swc_ecma_codegen_text_writer.specs.Sheet.{Sheet, Pair, Segment, is_same_pair, has_pair, pair_at, with_pair, released, noted, notes_released, notes_text, ends_before, line_ended, segment_released}
use Rattle.swc_ecma_codegen_text_writer.specs.Runs.{segments_released}
use Rattle.swc_ecma_codegen_text_writer.specs.Recorded.{RecordsTruly}
use Rattle.swc_ecma_codegen_text_writer.proofs.Added.{notes_adds}
use Rattle.swc_ecma_codegen_text_writer.proofs.Pairs.{segment_records, notes_record, sent_records}

either : (a b : Bool) → a ≡ true → (a || b) ≡ true
either a b h = ap (λ z. z || b) h

other : (a b : Bool) → b ≡ true → (a || b) ≡ true
other a b h = ap (λ z. a || z) h ∙ or-true a

has_more : (x : Pair) (ys zs : List Pair) → has_pair x ys ≡ true → has_pair x (ys ++ zs) ≡ true
unfolding has_pair
has_more x [] zs h = absurd (true≢false (sym h))
has_more x (y ∷ ys) zs h =
    elim (or_cases (is_same_pair x y) (has_pair x ys) h)
    [ inl e ↦ either (is_same_pair x y) (has_pair x (ys ++ zs)) e | inr e ↦ other (is_same_pair x y) (has_pair x (ys ++ zs)) (has_more x ys zs e) ]

same_pair : (x : Pair) → is_same_pair x x ≡ true
unfolding is_same_pair
same_pair x = grind (arith, nat_tests)

has_last : (x : Pair) (xs : List Pair) → has_pair x (xs ++ (x ∷ [])) ≡ true
unfolding has_pair
has_last x [] = either (is_same_pair x x) false (same_pair x)
has_last x (y ∷ ys) = other (is_same_pair x y) (has_pair x (ys ++ (x ∷ []))) (has_last x ys)

with_pair_has : (pos : BytePos) (p : Place) (xs : List Pair) → (pos.0 == 0) ≡ false → has_pair (pair_at pos p) (with_pair pos p xs) ≡ true
unfolding with_pair
with_pair_has pos p xs n =
    let stands : Bool = (pos.0 == 0) || has_pair (pair_at pos p) xs in
    let P : Bool → Type 0 = λ b. stands ≡ b → has_pair (pair_at pos p) (cond b xs (xs ++ (pair_at pos p ∷ []))) ≡ true in
    (elim stands as P [
      | true ↦ λ h. elim (or_cases (pos.0 == 0) (has_pair (pair_at pos p) xs) h) [ inl e ↦ absurd (true≢false (sym e ∙ n)) | inr e ↦ e ]
      | false ↦ λ h. has_last (pair_at pos p) xs
    ]) refl

noted_has : (pos : BytePos) (s : Sheet) → (pos.0 == 0) ≡ false → has_pair (pair_at pos s.place) (noted pos s).pairs ≡ true
unfolding noted
noted_has pos s n = with_pair_has pos s.place s.pairs n

-- pairs only come
still_has : (x : Pair) (a b : Sheet) → RecordsTruly a b → has_pair x a.pairs ≡ true → has_pair x b.pairs ≡ true
still_has x a b r h = ap (has_pair x) r.is_added ∙ has_more x a.pairs r.added h

pub kept_pairs : (max : ℕ) (first : Bool) (gs : List Segment) (s : Sheet) (x : Pair) → has_pair x s.pairs ≡ true → has_pair x (segments_released max first gs s).pairs ≡ true
unfolding segments_released
kept_pairs max first [] s x h = h
kept_pairs max first (g ∷ gs) s x h = kept_pairs max false gs (segment_released max first g s) x (still_has x s (segment_released max first g s) (segment_records max first g s) h)

notes_then : (xs ys : List (List ℕ × BytePos)) (s : Sheet) → notes_released (xs ++ ys) s ≡ notes_released ys (notes_released xs s)
unfolding notes_released
notes_then [] ys s = refl
notes_then (x ∷ xs) ys s = notes_then xs ys (noted x.1 (released x.0 s))

one_note : (t : List ℕ) (pos : BytePos) (more : List (List ℕ × BytePos)) (s : Sheet) → notes_released ((t, pos) ∷ more) s ≡ notes_released more (noted pos (released t s))
unfolding notes_released
one_note t pos more s = refl

sent_place : (t : List ℕ) (s : Sheet) → (released t s).place ≡ after_text t s.place
unfolding released
sent_place t s = refl

note_has : (some more : List (List ℕ × BytePos)) (t : List ℕ) (pos : BytePos) (s : Sheet) → (pos.0 == 0) ≡ false → has_pair (pair_at pos (after_text (notes_text some ++ t) s.place)) (notes_released (some ++ ((t, pos) ∷ more)) s).pairs ≡ true
note_has some more t pos s n =
    let a : Sheet = notes_released some s in
    let b : Sheet = released t a in
    let c : Sheet = noted pos b in
    let place : b.place ≡ after_text (notes_text some ++ t) s.place = sent_place t a ∙ (ap (after_text t) (notes_adds some s).place ∙ sym (after_both (notes_text some) t s.place)) in
    let here : has_pair (pair_at pos b.place) c.pairs ≡ true = noted_has pos b n in
    let later : has_pair (pair_at pos b.place) (notes_released more c).pairs ≡ true = still_has (pair_at pos b.place) c (notes_released more c) (notes_record more c) here in
    subst (λ (p : Place). has_pair (pair_at pos p) (notes_released (some ++ ((t, pos) ∷ more)) s).pairs ≡ true) place
    (ap (λ (z : Sheet). has_pair (pair_at pos b.place) z.pairs) (notes_then some ((t, pos) ∷ more) s ∙ one_note t pos more a) ∙ later)

-- a position of a segment
pub position_has : (max : ℕ) (first : Bool) (some more : List (List ℕ × BytePos)) (t rest : List ℕ) (pos : BytePos) (s : Sheet) → (pos.0 == 0) ≡ false →
    let g : Segment = record { noted = some ++ ((t, pos) ∷ more); rest = rest } in
    has_pair (pair_at pos (after_text (notes_text some ++ t) (line_ended (ends_before max first g s) s).place)) (segment_released max first g s).pairs ≡ true
unfolding segment_released
position_has max first some more t rest pos s n =
    let g : Segment = record { noted = some ++ ((t, pos) ∷ more); rest = rest } in
    let a : Sheet = line_ended (ends_before max first g s) s in
    let b : Sheet = notes_released g.noted a in
    still_has (pair_at pos (after_text (notes_text some ++ t) a.place)) b (released rest b) (sent_records rest b) (note_has some more t pos a n)
