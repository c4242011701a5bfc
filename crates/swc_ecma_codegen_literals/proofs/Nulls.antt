-- A text up to a backslash with U+0000 after it, and what follows.
use Rattle.std.proofs.Common.{◌≡◌, ℕ, zero, suc, ◌+◌, ◌-◌, ◌<◌, ◌≤◌, Bool, true, false, List, [], ◌∷◌, ◌++◌, ◌&&◌, ◌==◌, length, take, drop, slice_index, refl, sym, ap, ◌∙◌, subst, arith, if◌then◌else◌, cond, nat_eq, ◌||◌, length-append, length-drop, append_assoc}
use Rattle.std.specs.List.{list_any}
use Rattle.std.proofs.lemmas.Bool.{false≢true, eqb-true, eq-eqb, and_parts, and_from, false_from_ne_true}
use Rattle.std.proofs.lemmas.List.{length-take-le}
use Rattle.std.proofs.lemmas.Str.{IsCharBoundary-after_ascii}
use Rattle.std.specs.Str.{IsUtf8, IsCharBoundary}
use Rattle.memchr.specs.Find.{OccursAt, Nowhere, NoneBefore}
use Rattle.swc_ecma_codegen_grammar.specs.ValidNames.{turned_after, turned}
use Rattle.swc_ecma_codegen_literals.specs.ValidNames.{has_byte}

-- a search for a byte
pub contained : (b : ℕ) (xs : List ℕ) → list_any (λ x. nat_eq x b) xs ≡ has_byte b xs
unfolding has_byte
contained b [] = refl
contained b (x ∷ xs) = elim (x == b) as (λ z. (z || list_any (λ y. nat_eq y b) xs) ≡ cond z true (has_byte b xs)) [ true ↦ refl | false ↦ contained b xs ]

abbrev pub needle : List ℕ
needle = 92 ∷ 0 ∷ []

abbrev is_pair : ℕ → ℕ → Bool
is_pair c d = (c == 92) && (d == 0)

-- a backslash with U+0000 after it stands at place k
unfoldable pair_at : ℕ → List ℕ → Bool
pair_at k [] = false
pair_at zero (c ∷ []) = false
pair_at zero (c ∷ d ∷ cs) = is_pair c d
pair_at (suc k) (c ∷ cs) = pair_at k cs

unfoldable opens_null : List ℕ → Bool
opens_null [] = false
opens_null (c ∷ cs) = c == 0

occurs_later : (c : ℕ) (cs : List ℕ) (k : ℕ) → OccursAt (c ∷ cs) needle (suc k) → OccursAt cs needle k
occurs_later c cs k h = record {
  fits = omega (arith, h.fits);
  reads = λ j l. let e : suc k + j ≡ suc (k + j) = omega arith in subst (λ n. slice_index (c ∷ cs) n ≡ slice_index needle j) e (h.reads j l);
}

occurs_sooner : (c : ℕ) (cs : List ℕ) (k : ℕ) → OccursAt cs needle k → OccursAt (c ∷ cs) needle (suc k)
occurs_sooner c cs k h = record {
  fits = omega (arith, h.fits);
  reads = λ j l. let e : suc (k + j) ≡ suc k + j = omega arith in subst (λ n. slice_index (c ∷ cs) n ≡ slice_index needle j) e (h.reads j l);
}

pair_from : (k : ℕ) (s : List ℕ) → OccursAt s needle k → pair_at k s ≡ true
unfolding pair_at
pair_from k [] h = absurd (omega (arith, h.fits))
pair_from zero (c ∷ []) h = absurd (omega (arith, h.fits))
pair_from zero (c ∷ d ∷ cs) h = and_from (c == 92) (d == 0) (eq-eqb c 92 (h.reads 0 (omega arith))) (eq-eqb d 0 (h.reads 1 (omega arith)))
pair_from (suc k) (c ∷ cs) h = pair_from k cs (occurs_later c cs k h)

two_places : (c d : ℕ) (cs : List ℕ) → c ≡ 92 → d ≡ 0 → (j : ℕ) → j < 2 → slice_index (c ∷ d ∷ cs) j ≡ slice_index needle j
two_places c d cs e f zero l = e
two_places c d cs e f (suc zero) l = f
two_places c d cs e f (suc (suc j)) l = absurd (omega (arith, l))

occurs_from : (k : ℕ) (s : List ℕ) → pair_at k s ≡ true → OccursAt s needle k
unfolding pair_at
occurs_from k [] h = absurd (false≢true h)
occurs_from zero (c ∷ []) h = absurd (false≢true h)
occurs_from zero (c ∷ d ∷ cs) h = record {
  fits = omega arith;
  reads = λ j l. let e : j ≡ 0 + j = omega arith in subst (λ n. slice_index (c ∷ d ∷ cs) n ≡ slice_index needle j) e (two_places c d cs (eqb-true c 92 (and_parts (c == 92) (d == 0) h).0) (eqb-true d 0 (and_parts (c == 92) (d == 0) h).1) j l);
}
occurs_from (suc k) (c ∷ cs) h = occurs_sooner c cs k (occurs_from k cs h)

-- no pair so far and the next character is none: it stays
kept : (f : Bool) (c : ℕ) (cs : List ℕ) → (f ≡ true → opens_null (c ∷ cs) ≡ false) → turned_after f (c ∷ cs) ≡ c ∷ turned_after (c == 92) cs
unfolding opens_null turned_after
kept true c cs h = rw (h refl) refl
kept false c cs h = refl

no_null_next : (c : ℕ) (cs : List ℕ) → pair_at 0 (c ∷ cs) ≡ false → (c == 92) ≡ true → opens_null cs ≡ false
unfolding pair_at opens_null
no_null_next c [] n e = refl
no_null_next c (d ∷ ds) n e = sym (ap (λ b. b && (d == 0)) e) ∙ n

none_turned : (f : Bool) (s : List ℕ) → (f ≡ true → opens_null s ≡ false) → ((j : ℕ) → pair_at j s ≡ false) → turned_after f s ≡ s
unfolding pair_at turned_after
none_turned f [] o h = refl
none_turned f (c ∷ cs) o h = kept f c cs o ∙ ap (λ r. c ∷ r) (none_turned (c == 92) cs (no_null_next c cs (h 0)) (λ j. h (suc j)))

dropped : (c d : ℕ) (cs : List ℕ) → is_pair c d ≡ true → turned_after (c == 92) (d ∷ cs) ≡ turned_after false cs
unfolding turned_after
dropped c d cs p =
    let e : (c == 92) ≡ true = (and_parts (c == 92) (d == 0) p).0 in
    let f : (d == 0) ≡ true = (and_parts (c == 92) (d == 0) p).1 in
    rw (e, f) refl

first_turned : (f : Bool) (k : ℕ) (s : List ℕ) → (f ≡ true → opens_null s ≡ false) → ((j : ℕ) → j < k → pair_at j s ≡ false) → pair_at k s ≡ true → turned_after f s ≡ take (suc k) s ++ turned_after false (drop (suc (suc k)) s)
unfolding pair_at
first_turned f k [] o h p = absurd (false≢true p)
first_turned f zero (c ∷ []) o h p = absurd (false≢true p)
first_turned f zero (c ∷ d ∷ cs) o h p = kept f c (d ∷ cs) o ∙ ap (λ r. c ∷ r) (dropped c d cs p)
first_turned f (suc k) (c ∷ cs) o h p = kept f c cs o ∙ ap (λ r. c ∷ r) (first_turned (c == 92) k cs (no_null_next c cs (h 0 (omega arith))) (λ j l. h (suc j) (omega (arith, l))) p)

-- a text without a pair stays
pub turned_none : (s : List ℕ) → Nowhere (OccursAt s needle) 0 (length s + 1) → turned s ≡ s
turned_none s h = none_turned false s (λ e. absurd (false≢true e)) (λ j. false_from_ne_true (pair_at j s) (λ e. let o : OccursAt s needle j = occurs_from j s e in h j (omega arith) (omega (arith, o.fits)) o))

-- a text up to its first pair, without its U+0000
pub turned_at : (s : List ℕ) (k : ℕ) → NoneBefore (OccursAt s needle) 0 (length s + 1) k → OccursAt s needle k → turned s ≡ take (k + 1) s ++ turned (drop (k + 2) s)
turned_at s k h o =
    let e : k + 1 ≡ suc k = omega arith in
    let f : k + 2 ≡ suc (suc k) = omega arith in
    rw (e, f) (first_turned false k s (λ e. absurd (false≢true e)) (λ j l. false_from_ne_true (pair_at j s) (λ p. h.before j (omega arith) l (occurs_from j s p))) (pair_from k s o))

shorter_than : (f : Bool) (s : List ℕ) → length (turned_after f s) ≤ length s
unfolding turned_after
shorter_than f [] = omega arith
shorter_than f (c ∷ cs) = shorter_cond (f && (c == 0)) c cs (shorter_than false cs) (shorter_than (c == 92) cs)
  where
    shorter_cond : (b : Bool) (c : ℕ) (cs : List ℕ) → length (turned_after false cs) ≤ length cs → length (turned_after (c == 92) cs) ≤ length cs → length (if b then turned_after false cs else (c ∷ turned_after (c == 92) cs)) ≤ suc (length cs)
    shorter_cond true c cs h g = omega (arith, h)
    shorter_cond false c cs h g = omega (arith, g)

-- a text with a pair doesn't stay
pub turned_changes : (s : List ℕ) (k : ℕ) → NoneBefore (OccursAt s needle) 0 (length s + 1) k → OccursAt s needle k → turned s ≡ s → ⊥
turned_changes s k h o e =
    let parts : length (turned s) ≡ length (take (k + 1) s) + length (turned (drop (k + 2) s)) = ap length (turned_at s k h o) ∙ length-append (take (k + 1) s) (turned (drop (k + 2) s)) in
    let fits : k + 2 ≤ length s = o.fits in
    let front : length (take (k + 1) s) ≡ k + 1 = length-take-le (k + 1) s (omega arith) in
    let back : length (turned (drop (k + 2) s)) ≤ length (drop (k + 2) s) = shorter_than false (drop (k + 2) s) in
    let rest : length (drop (k + 2) s) ≡ length s - (k + 2) = length-drop (k + 2) s in
    let same : length (turned s) ≡ length s = ap length e in
    omega arith

-- neither does one without a backslash
pub turned_no_backslash : (s : List ℕ) → has_byte 92 s ≡ false → turned s ≡ s
unfolding turned_after has_byte
turned_no_backslash [] h = refl
turned_no_backslash (c ∷ cs) h = ap (λ r. c ∷ r) (plain (c == 92) cs (λ g. turned_no_backslash cs g) h)
  where
    plain : (b : Bool) (cs : List ℕ) → (has_byte 92 cs ≡ false → turned cs ≡ cs) → (if b then true else has_byte 92 cs) ≡ false → turned_after b cs ≡ cs
    plain true cs g h = absurd (false≢true (sym h))
    plain false cs g h = g h

-- it may be cut after a pair
pub cut_after : (s : List ℕ) (k : ℕ) → IsUtf8 s → OccursAt s needle k → IsCharBoundary s (k + 2)
cut_after s k u o =
    let null : slice_index s (k + 1) ≡ 0 = o.reads 1 (omega arith) in
    let fits : k + 2 ≤ length s = o.fits in
    let e : k + 1 + 1 ≡ k + 2 = omega arith in
    subst (λ n. IsCharBoundary s n) e (IsCharBoundary-after_ascii s (k + 1) u (omega arith) (omega arith))

abbrev pub FoundAt : List ℕ → ℕ → Type 0
FoundAt t k = NoneBefore (OccursAt t needle) 0 (length t + 1) k × OccursAt t needle k

-- the same of a text that was searched as bytes
pub searched_none : (t s : List ℕ) → t ≡ s → Nowhere (OccursAt t needle) 0 (length t + 1) → turned s ≡ s
searched_none t s e h = subst (λ x. turned x ≡ x) e (turned_none t h)

pub searched_at : (t s : List ℕ) (k : ℕ) → t ≡ s → FoundAt t k → turned s ≡ take (k + 1) s ++ turned (drop (k + 2) s)
searched_at t s k e h = subst (λ x. turned x ≡ take (k + 1) x ++ turned (drop (k + 2) x)) e (turned_at t k h.0 h.1)

pub searched_changes : (t s : List ℕ) (k : ℕ) → t ≡ s → FoundAt t k → turned s ≡ s → ⊥
searched_changes t s k e h = subst (λ x. turned x ≡ x → ⊥) e (turned_changes t k h.0 h.1)

pub searched_cut : (t s : List ℕ) (k : ℕ) → t ≡ s → IsUtf8 s → FoundAt t k → IsCharBoundary s (k + 2)
searched_cut t s k e u h = cut_after s k u (subst (λ x. OccursAt x needle k) e h.1)

-- one turn of the loop: what was written, and what is left
pub turned_step : (done front rest now s all : List ℕ) → done ++ turned s ≡ all → turned s ≡ front ++ turned rest → now ≡ done ++ front → now ++ turned rest ≡ all
turned_step done front rest now s all i t n = rw (n, append_assoc, ← t) i
