-- Characters at the start of a text that pass a test.
use Rattle.std.proofs.Common.{◌≡◌, ℕ, ◌+◌, ◌-◌, Bool, true, ◌&&◌, List, [], ◌∷◌, ◌++◌, length, take, drop, refl, sym, ap, ◌∙◌, subst, arith, append-nil, append_assoc, length-append}
use Rattle.std.specs.Char.{encode_utf8}
use Rattle.std.specs.List.{list_all}
use Rattle.std.specs.Str.{chars, IsUtf8, IsCharBoundary}
use Rattle.std.proofs.lemmas.Bool.{and_parts, and_from}
use Rattle.std.proofs.lemmas.List.{take_at, drop_at, nil_from_length}
use Rattle.std.proofs.lemmas.List.Folds.{list_all-append}
use Rattle.std.proofs.lemmas.Str.{IsCharBoundary-at_seam, chars-encodes, cons_from_encodes, encodes-append}
use lib.Utf8.{encodes, scalars, scalar}

pub record Run (test : ℕ → Bool) (text rest : List ℕ) : Type 0 where
  pub run : List ℕ
  pub are_chars : scalars run ≡ true
  pub each : list_all test run ≡ true
  pub is_text : text ≡ encodes run ++ rest

pub run_length : {test : ℕ → Bool} {text rest : List ℕ} (r : Run test text rest) → length text - length rest ≡ length (encodes r.run)
run_length {text = text} {rest = rest} r = let e : length text ≡ length (encodes r.run) + length rest = ap length r.is_text ∙ length-append (encodes r.run) rest in omega (arith, e)

-- the text may be cut after a run
pub run_cut : {test : ℕ → Bool} {text rest : List ℕ} → Run test text rest → IsUtf8 rest → IsCharBoundary text (length text - length rest)
run_cut {text = text} {rest = rest} r u = subst (λ n. IsCharBoundary text n) (sym (run_length r)) (IsCharBoundary-at_seam text (encodes r.run) rest r.is_text u)

pub run_front : {test : ℕ → Bool} {text rest : List ℕ} (r : Run test text rest) → take (length text - length rest) text ≡ encodes r.run
run_front {text = text} {rest = rest} r = ap (λ n. take n text) (run_length r) ∙ (ap (λ t. take (length (encodes r.run)) t) r.is_text ∙ take_at (encodes r.run) rest (length (encodes r.run)) refl)

pub run_each : (test : ℕ → Bool) (text rest front : List ℕ) (r : Run test text rest) → front ≡ take (length text - length rest) text → list_all test (chars front) ≡ true
run_each test text rest front r e = ap (λ t. list_all test (chars t)) (e ∙ run_front r) ∙ (ap (λ t. list_all test t) (chars-encodes r.run r.are_chars) ∙ r.each)

-- the first character of a text is one
pub first_scalar : (text rest : List ℕ) (c : ℕ) → IsUtf8 text → text ≡ encode_utf8 c ++ rest → scalar c ≡ true
first_scalar text rest c u e =
    let p = cons_from_encodes u.0 rest c (u.1.1 ∙ e) in
    (and_parts (scalar c) (scalars p.0) (ap scalars (sym p.1) ∙ u.1.0)).0

pub run_more : (test : ℕ → Bool) (text rest after : List ℕ) (c : ℕ) → Run test text rest → IsUtf8 rest → rest ≡ encode_utf8 c ++ after → test c ≡ true → Run test text after
run_more test text rest after c r u e t =
    let s = first_scalar rest after c u e in
    record {
      run = r.run ++ c ∷ [];
      are_chars = scalars_append r.run (c ∷ []) r.are_chars (and_from (scalar c) true s refl);
      each = list_all-append test r.run (c ∷ []) ∙ and_from (list_all test r.run) (test c && true) r.each (and_from (test c) true t refl);
      is_text = r.is_text ∙ (ap (λ x. encodes r.run ++ x) e ∙ rw (encodes-append r.run (c ∷ []), append-nil, append_assoc) refl);
    }
  where
    scalars_append : (xs ys : List ℕ) → scalars xs ≡ true → scalars ys ≡ true → scalars (xs ++ ys) ≡ true
    scalars_append [] ys h g = g
    scalars_append (x ∷ xs) ys h g = let p = and_parts (scalar x) (scalars xs) h in and_from (scalar x) (scalars (xs ++ ys)) p.0 (scalars_append xs ys p.1 g)

-- a text that is one run
pub run_all : (test : ℕ → Bool) (text rest : List ℕ) → Run test text rest → length rest ≡ 0 → list_all test (chars text) ≡ true
run_all test text rest r l =
    let e : text ≡ encodes r.run = r.is_text ∙ (ap (λ x. encodes r.run ++ x) (nil_from_length rest l) ∙ append-nil (encodes r.run)) in
    ap (λ t. list_all test (chars t)) e ∙ (ap (λ t. list_all test t) (chars-encodes r.run r.are_chars) ∙ r.each)
