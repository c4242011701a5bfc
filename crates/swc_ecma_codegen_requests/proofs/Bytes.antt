-- No LF stands among bytes in which none is found.
use Rattle.std.proofs.Common.{◌≡◌, ◌≢◌, ◌<◌, ◌≤◌, ℕ, Bool, true, false, List, All, Option, None, Some, take, length, length-take-le, sym, ◌∙◌, subst, eq-eqb, get_or-take, zero-le}
use Rattle.std.proofs.lemmas.Bool.{true≢false}
use Rattle.std.proofs.lemmas.List.Elements.{All-from_get_or}
use Rattle.std.specs.Option.{is_some}
use Rattle.memchr.specs.Find.{is_byte, IsFirstByte, Nowhere, Passes}

-- none among the first ones
pub none_before : (xs : List ℕ) (n : ℕ) → n ≤ length xs → Nowhere (Passes (is_byte 10) xs) 0 n → All (λ x. x ≢ 10) (take n xs)
none_before xs n within free =
    All-from_get_or (λ x. x ≢ 10) (take n xs) 0 (λ i inside e.
    let short : i < n = subst (λ k. i < k) (length-take-le n xs within) inside in
    free i zero-le short (eq-eqb _ _ (sym (get_or-take n xs i 0 short) ∙ e)))

none_at_all : (xs : List ℕ) → Nowhere (Passes (is_byte 10) xs) 0 (length xs) → All (λ x. x ≢ 10) xs
none_at_all xs free = All-from_get_or (λ x. x ≢ 10) xs 0 (λ i inside e. free i zero-le inside (eq-eqb _ _ e))

-- none at all, where a search finds none
pub none_found : (xs : List ℕ) (found : Option ℕ) → is_some found ≡ false → IsFirstByte (is_byte 10) xs found → All (λ x. x ≢ 10) xs
none_found xs None e first = none_at_all xs first
none_found xs (Some k) e first = absurd (true≢false e)
