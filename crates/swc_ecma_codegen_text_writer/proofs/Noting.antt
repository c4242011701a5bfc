-- A segment as one text with offsets.
use Rattle.std.proofs.Common.{◌≡◌, ℕ, suc, append_assoc, ◌+◌, ◌-◌, ◌<◌, ◌≤◌, Bool, true, false, ◌&&◌, nat_le, List, [], ◌∷◌, ◌++◌, refl, sym, ◌∙◌, ap, subst, cond, arith, length, drop, take, get_or, length-drop, length-append, drop-cons}
use Rattle.std.proofs.lemmas.Bool.{and_parts, leb-true, le-leb, true≢false}
use Rattle.std.proofs.lemmas.List.{take-append-le, drop-append-le, take-append-drop, length-take-le, nil_from_length, take_all}
use Rattle.std.proofs.lemmas.List.Folds.{drop_split}
use Rattle.std.proofs.lemmas.List.Elements.{All-from_all_within, AllWithin-from_all, AllWithin-push}
use Rattle.std.specs.List.{slice_range}
use Rattle.std.specs.Str.{IsUtf8, IsCharBoundary}
use Rattle.std.proofs.lemmas.Str.{IsUtf8-append, IsUtf8-drop, IsCharBoundary-end, IsCharBoundary-at_seam}
use Rattle.swc_ecma_codegen_text_writer.specs.Sheet.{Sheet, with_text, with_note, notes_text, text_in, released, noted, notes_released}
use Rattle.swc_ecma_codegen_text_writer.specs.Notes.{noted_of, last_of, are_in_order, segment_of, AreBoundaries}
use Rattle.swc_ecma_codegen_text_writer.proofs.Sheets.{Alike, alike_trans, notes_alike, released_alike}
use Rattle.swc_ecma_codegen_text_writer.specs.declared.held.Note.{Note}

both_true : (a b : Bool) → a ≡ true → b ≡ true → (a && b) ≡ true
both_true true b h k = k
both_true false b h k = absurd (true≢false (sym h))

-- ---- offsets in order

pub order-first : (from : ℕ) (n : Note) (ns : List Note) (len : ℕ) → are_in_order from (n ∷ ns) len ≡ true → (from ≤ n.offset) × (are_in_order n.offset ns len ≡ true)
unfolding are_in_order
order-first from n ns len h = let k = and_parts (nat_le from n.offset) (are_in_order n.offset ns len) h in (leb-true from n.offset k.0, k.1)

pub order-last : (ns : List Note) (from len : ℕ) → are_in_order from ns len ≡ true → (from ≤ last_of from ns) × (last_of from ns ≤ len)
unfolding are_in_order last_of
order-last [] from len h = (omega arith, leb-true from len h)
order-last (n ∷ ns) from len h =
    let k = order-first from n ns len h in
    let m = order-last ns n.offset len k.1 in
    let a = k.0 in let b = m.0 in (omega arith, m.1)

pub order-longer : (ns : List Note) (from len more : ℕ) → are_in_order from ns len ≡ true → len ≤ more → are_in_order from ns more ≡ true
unfolding are_in_order
order-longer [] from len more h l = let k = leb-true from len h in le-leb from more (omega arith)
order-longer (n ∷ ns) from len more h l =
    let k = order-first from n ns len h in
    both_true (nat_le from n.offset) (are_in_order n.offset ns more) (le-leb from n.offset k.0) (order-longer ns n.offset len more k.1 l)

pub order-more : (ns : List Note) (from : ℕ) (n : Note) (len : ℕ) → n.offset ≡ len → are_in_order from ns len ≡ true → are_in_order from (ns ++ n ∷ []) len ≡ true
unfolding are_in_order
order-more [] from n len e h = let k = leb-true from len h in both_true (nat_le from n.offset) (nat_le n.offset len) (le-leb from n.offset (omega arith)) (le-leb n.offset len (omega arith))
order-more (m ∷ ns) from n len e h =
    let k = order-first from m ns len h in
    both_true (nat_le from m.offset) (are_in_order m.offset (ns ++ n ∷ []) len) (le-leb from m.offset k.0) (order-more ns m.offset n len e k.1)

-- ---- a text more

noted-longer : (text t : List ℕ) (ns : List Note) (from : ℕ) → are_in_order from ns (length text) ≡ true → noted_of (text ++ t) from ns ≡ noted_of text from ns
unfolding noted_of
noted-longer text t [] from h = refl
noted-longer text t (n ∷ ns) from h =
    let k = order-first from n ns (length text) h in
    let m = order-last ns n.offset (length text) k.1 in
    let a = k.0 in let b = m.0 in let c = m.1 in
    let d : drop from (text ++ t) ≡ drop from text ++ t = drop-append-le from text t (omega arith) in
    let short : n.offset - from ≤ length (drop from text) = simp length-drop (omega arith) in
    let s : slice_range (text ++ t) from n.offset ≡ slice_range text from n.offset = ap (take (n.offset - from)) d ∙ take-append-le (n.offset - from) (drop from text) t short in
    ap (λ z. (z, n.pos) ∷ noted_of (text ++ t) n.offset ns) s ∙ ap (λ z. (slice_range text from n.offset, n.pos) ∷ z) (noted-longer text t ns n.offset k.1)

pub segment-longer : (text t : List ℕ) (ns : List Note) → are_in_order 0 ns (length text) ≡ true → segment_of (text ++ t) ns ≡ with_text t (segment_of text ns)
unfolding segment_of
segment-longer text t ns h =
    let k = (order-last ns 0 (length text) h).1 in
    ap (λ z. record { noted = z; rest = drop (last_of 0 ns) (text ++ t) }) (noted-longer text t ns 0 h)
    ∙ ap (λ z. record { noted = noted_of text 0 ns; rest = z }) (drop-append-le (last_of 0 ns) text t k)

-- ---- a position more

noted-more : (text : List ℕ) (ns : List Note) (from : ℕ) (n : Note) → noted_of text from (ns ++ n ∷ []) ≡ noted_of text from ns ++ ((slice_range text (last_of from ns) n.offset, n.pos) ∷ [])
unfolding noted_of last_of
noted-more text [] from n = refl
noted-more text (m ∷ ns) from n = ap (λ z. (slice_range text from m.offset, m.pos) ∷ z) (noted-more text ns m.offset n)

last-more : (ns : List Note) (from : ℕ) (n : Note) → last_of from (ns ++ n ∷ []) ≡ n.offset
unfolding last_of
last-more [] from n = refl
last-more (m ∷ ns) from n = last-more ns m.offset n

drop_whole : (text : List ℕ) (n : ℕ) → n ≡ length text → drop n text ≡ []
drop_whole text n e = let k : length (drop n text) ≡ 0 = simp length-drop (omega arith) in nil_from_length (drop n text) k

slice_to_end : (text : List ℕ) (from to : ℕ) → to ≡ length text → slice_range text from to ≡ drop from text
slice_to_end text from to e = let k : length (drop from text) ≤ to - from = simp length-drop (omega arith) in take_all (to - from) (drop from text) k

pub segment-noted : (text : List ℕ) (ns : List Note) (n : Note) → n.offset ≡ length text → segment_of text (ns ++ n ∷ []) ≡ with_note n.pos (segment_of text ns)
unfolding segment_of
segment-noted text ns n e =
    ap (λ z. record { noted = z; rest = drop (last_of 0 (ns ++ n ∷ [])) text }) (noted-more text ns 0 n)
    ∙ (ap (λ z. record { noted = noted_of text 0 ns ++ ((z, n.pos) ∷ []); rest = drop (last_of 0 (ns ++ n ∷ [])) text }) (slice_to_end text (last_of 0 ns) n.offset e)
    ∙ ap (λ z. record { noted = noted_of text 0 ns ++ ((drop (last_of 0 ns) text, n.pos) ∷ []); rest = z }) (drop_whole text (last_of 0 (ns ++ n ∷ [])) (last-more ns 0 n ∙ e)))

-- ---- what goes out

-- what is left from an offset on
pub record Left (text : List ℕ) (from : ℕ) (ns all : List Note) (now old : Sheet) : Type 0 where
  pub sheet : notes_released (noted_of text from ns) now ≡ notes_released (noted_of text 0 all) old
  pub last : last_of from ns ≡ last_of 0 all
  pub order : are_in_order from ns (length text) ≡ true

pub left-step : (text : List ℕ) (from : ℕ) (all : List Note) (i : ℕ) (d : Note) (now next old : Sheet) → i < length all → Left text from (drop i all) all now old → next ≡ noted (get_or all i d).pos (released (slice_range text from (get_or all i d).offset) now) → Left text (get_or all i d).offset (drop (i + 1) all) all next old
unfolding noted_of notes_released last_of
left-step text from all i d now next old l h e =
    let n : Note = get_or all i d in
    let one : suc i ≡ i + 1 = omega arith in
    let c : drop i all ≡ n ∷ drop (i + 1) all = drop-cons all i d l ∙ ap (λ z. n ∷ drop z all) one in
    let o = order-first from n (drop (i + 1) all) (length text) (subst (λ z. are_in_order from z (length text) ≡ true) c h.order) in
    record {
      sheet = ap (notes_released (noted_of text n.offset (drop (i + 1) all))) e ∙ (sym (ap (λ z. notes_released (noted_of text from z) now) c) ∙ h.sheet);
      last = sym (ap (last_of from) c) ∙ h.last;
      order = o.1;
    }

pub left-within : (text : List ℕ) (from : ℕ) (all : List Note) (i : ℕ) (d : Note) (now old : Sheet) → i < length all → Left text from (drop i all) all now old → (from ≤ (get_or all i d).offset) × ((get_or all i d).offset ≤ length text)
left-within text from all i d now old l h =
    let n : Note = get_or all i d in
    let o = order-first from n (drop (suc i) all) (length text) (subst (λ z. are_in_order from z (length text) ≡ true) (drop-cons all i d l) h.order) in
    let m = order-last (drop (suc i) all) n.offset (length text) o.1 in
    let a = m.0 in let b = m.1 in (o.0, omega arith)

pub left-first : (text : List ℕ) (all : List Note) (s : Sheet) → are_in_order 0 all (length text) ≡ true → Left text 0 all all s s
left-first text all s h = record { sheet = refl; last = refl; order = h }

pub left-last : (text : List ℕ) (from : ℕ) (all : List Note) (i : ℕ) (now old : Sheet) → length all ≤ i → Left text from (drop i all) all now old → (now ≡ notes_released (noted_of text 0 all) old) × (from ≡ last_of 0 all) × (from ≤ length text)
unfolding noted_of notes_released last_of are_in_order
left-last text from all i now old l h =
    let k : length (drop i all) ≡ 0 = simp length-drop (omega arith) in
    let e : drop i all ≡ [] = nil_from_length (drop i all) k in
    (sym (ap (λ z. notes_released (noted_of text from z) now) e) ∙ h.sheet, sym (ap (last_of from) e) ∙ h.last, leb-true from (length text) (subst (λ z. are_in_order from z (length text) ≡ true) e h.order))

-- the text behind the last offset goes out
pub left-released : (text : List ℕ) (from to : ℕ) (all : List Note) (i : ℕ) (part : List ℕ) (now next old : Sheet) → length all ≤ i → Left text from (drop i all) all now old → to ≡ length text → part ≡ slice_range text from to → next ≡ released part now → next ≡ released (segment_of text all).rest (notes_released (segment_of text all).noted old)
unfolding segment_of
left-released text from to all i part now next old l h e p n =
    let k = left-last text from all i now old l h in
    n ∙ (ap (λ z. released z now) (p ∙ (slice_to_end text from to e ∙ ap (λ z. drop z text) k.1)) ∙ ap (released (drop (last_of 0 all) text)) k.0)

-- what a text and a list are where they may have grown
pub order-grown : (b : Bool) (new old t : List ℕ) (ns : List Note) → new ≡ cond b (old ++ t) old → are_in_order 0 ns (length old) ≡ true → are_in_order 0 ns (length new) ≡ true
order-grown true new old t ns e h = let k = ap length e in let l = length-append old t in order-longer ns 0 (length old) (length new) h (omega arith)
order-grown false new old t ns e h = subst (λ z. are_in_order 0 ns (length z) ≡ true) (sym e) h

pub order-pushed : (b : Bool) (new old : List Note) (n : Note) (len : ℕ) → new ≡ cond b (old ++ n ∷ []) old → n.offset ≡ len → are_in_order 0 old len ≡ true → are_in_order 0 new len ≡ true
order-pushed true new old n len e o h = subst (λ z. are_in_order 0 z len ≡ true) (sym e) (order-more old 0 n len o h)
order-pushed false new old n len e o h = subst (λ z. are_in_order 0 z len ≡ true) (sym e) h

-- what goes out from there on is on the way to all
pub left_alike : (text : List ℕ) (from : ℕ) (ns all : List Note) (now old : Sheet) → Left text from ns all now old → Alike now (released (segment_of text all).rest (notes_released (segment_of text all).noted old))
unfolding segment_of
left_alike text from ns all now old h =
    let a : Sheet = notes_released (noted_of text 0 all) old in
    alike_trans now a _ (subst (λ (z : Sheet). Alike now z) h.sheet (notes_alike (noted_of text from ns) now)) (released_alike (drop (last_of 0 all) text) a)

-- ---- offsets between characters

-- a place between two characters stays one where a text follows
boundary-longer : (text t : List ℕ) (i : ℕ) → IsUtf8 text → IsUtf8 t → IsCharBoundary text i → IsCharBoundary (text ++ t) i
boundary-longer text t i u v b =
    let front : List ℕ = take i text in
    let rest : List ℕ = drop i text in
    let n : length front ≡ i = length-take-le i text b.0 in
    let e : text ++ t ≡ front ++ (rest ++ t) = ap (λ z. z ++ t) (sym (take-append-drop i text)) ∙ append_assoc front rest t in
    subst (IsCharBoundary (text ++ t)) n (IsCharBoundary-at_seam (text ++ t) front (rest ++ t) e (IsUtf8-append rest t (IsUtf8-drop text i u b) v))

pub boundaries-longer : (text t : List ℕ) (ns : List Note) → IsUtf8 text → IsUtf8 t → AreBoundaries text ns → AreBoundaries (text ++ t) ns
boundaries-longer text t ns u v h = λ k d l. boundary-longer text t (get_or ns k d).offset u v (h k d l)

pub boundaries-more : (text : List ℕ) (ns : List Note) (n : Note) → n.offset ≡ length text → AreBoundaries text ns → AreBoundaries text (ns ++ n ∷ [])
boundaries-more text ns n e h =
    let P : Note → Type 0 = λ m. IsCharBoundary text m.offset in
    All-from_all_within P (ns ++ n ∷ []) (AllWithin-push P ns n (AllWithin-from_all P ns h) (subst (IsCharBoundary text) (sym e) (IsCharBoundary-end text)))

-- ---- the text of a segment

text_from : (text : List ℕ) (ns : List Note) (from : ℕ) → are_in_order from ns (length text) ≡ true → notes_text (noted_of text from ns) ++ drop (last_of from ns) text ≡ drop from text
unfolding noted_of last_of notes_text
text_from text [] from h = refl
text_from text (n ∷ ns) from h =
    let k = order-first from n ns (length text) h in
    append_assoc (slice_range text from n.offset) (notes_text (noted_of text n.offset ns)) (drop (last_of n.offset ns) text)
    ∙ (ap (λ z. slice_range text from n.offset ++ z) (text_from text ns n.offset k.1) ∙ sym (drop_split text from n.offset k.0))

pub text-of_segment : (text : List ℕ) (ns : List Note) → are_in_order 0 ns (length text) ≡ true → text_in (segment_of text ns) ≡ text
unfolding segment_of text_in
text-of_segment text ns h = text_from text ns 0 h

-- what a text and a list are where they may have grown
pub boundaries-grown : (b : Bool) (new old t : List ℕ) (ns : List Note) → new ≡ cond b (old ++ t) old → IsUtf8 old → IsUtf8 t → AreBoundaries old ns → AreBoundaries new ns
boundaries-grown true new old t ns e u v h = subst (λ z. AreBoundaries z ns) (sym e) (boundaries-longer old t ns u v h)
boundaries-grown false new old t ns e u v h = subst (λ z. AreBoundaries z ns) (sym e) h

pub boundaries-pushed : (b : Bool) (new old : List Note) (n : Note) (text : List ℕ) → new ≡ cond b (old ++ n ∷ []) old → n.offset ≡ length text → AreBoundaries text old → AreBoundaries text new
boundaries-pushed true new old n text e o h = subst (AreBoundaries text) (sym e) (boundaries-more text old n o h)
boundaries-pushed false new old n text e o h = subst (AreBoundaries text) (sym e) h

-- a text without positions
pub bare-released : (text : List ℕ) (ns : List Note) (s : Sheet) → length ns ≡ 0 → released text s ≡ released (segment_of text ns).rest (notes_released (segment_of text ns).noted s)
unfolding segment_of noted_of last_of notes_released
bare-released text [] s h = refl
bare-released text (n ∷ ns) s h = absurd (omega (arith, h))
