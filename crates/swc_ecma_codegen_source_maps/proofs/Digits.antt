-- What the digits of a number say.
use Rattle.std.proofs.Common.{◌≡◌, ◌∙◌, ℕ, ◌+◌, ◌-◌, ◌*◌, ◌/◌, ◌%◌, ◌<◌, false, eqb, ltb, cond, List, [], ◌∷◌, ◌++◌, Some, sym, ap, subst, arith, append_assoc, append-nil, lt-ltb, ne_eqb}
use Rattle.std.specs.Option.{option_and_then}
use Rattle.std.specs.Result.{is_ok, OnOk}
use Rattle.std.specs.Prelude.{Result, Ok, Err}
use Rattle.std.proofs.lemmas.Bool.Decides.{nat_tests}
use Rattle.std.proofs.lemmas.Option.{none-some}
use Rattle.swc_ecma_codegen_source_maps.specs.Mappings.{digit_value, lowest_bits, numbers, with_digit}
use Rattle.swc_ecma_codegen_source_maps.specs.Pieces.{Grows, SaysNumber}

-- a digit is neither `,` nor `;`
pub digit_unmarked : (c d : ℕ) → digit_value c ≡ Some d → (eqb c 44 ≡ false) × (eqb c 59 ≡ false)
unfolding digit_value
digit_unmarked c d h = (ne_eqb c 44 (λ e. none-some d (ap digit_value (sym e) ∙ h)), ne_eqb c 59 (λ e. none-some d (ap digit_value (sym e) ∙ h)))

-- the digit that ends a number
last_digit : (c d : ℕ) → digit_value c ≡ Some d → d < 32 → SaysNumber d (c ∷ [])
last_digit c d h l =
    let u : (eqb c 44 ≡ false) × (eqb c 59 ≡ false) = digit_unmarked c d h in (
      (u.0, u.1, tt),
      (λ more ns e. ap (λ o. option_and_then (λ v. option_and_then (with_digit v) (numbers more)) o) h
          ∙ (ap (λ o. option_and_then (with_digit d) o) e
          ∙ ap (λ b. cond b (Some (d ∷ ns)) (lowest_bits (d - 32) ns)) (lt-ltb d 32 l))),
    )

goes_on : (m : ℕ) → ltb (m + 32) 32 ≡ false
goes_on m = grind (arith, nat_tests)

joined : (r : ℕ) → ((r % 32 + 32) - 32) + 32 * (r / 32) ≡ r
joined r = omega arith

-- one before it
more_digit : (c r : ℕ) (piece : List ℕ) → digit_value c ≡ Some (r % 32 + 32) → SaysNumber (r / 32) piece → SaysNumber r (c ∷ piece)
more_digit c r piece h s =
    let u : (eqb c 44 ≡ false) × (eqb c 59 ≡ false) = digit_unmarked c (r % 32 + 32) h in (
      (u.0, u.1, s.0),
      (λ more ns e. ap (λ o. option_and_then (λ v. option_and_then (with_digit v) (numbers (piece ++ more))) o) h
          ∙ (ap (λ o. option_and_then (with_digit (r % 32 + 32)) o) (s.1 more ns e)
          ∙ (ap (λ b. cond b (Some ((r % 32 + 32) ∷ (r / 32 ∷ ns))) (lowest_bits ((r % 32 + 32) - 32) (r / 32 ∷ ns))) (goes_on (r % 32))
          ∙ ap (λ n. Some (n ∷ ns)) (joined r)))),
    )

-- Digits of a number are out, and those of the rest end it.
abbrev pub NumberSoFar : ℕ → ℕ → List ℕ → List ℕ → Type 0
NumberSoFar n rest old text = (digits : List ℕ) × (text ≡ old ++ digits) × ((piece : List ℕ) → SaysNumber rest piece → SaysNumber n (digits ++ piece))

pub no_digits : (n : ℕ) (old : List ℕ) → NumberSoFar n n old old
no_digits n old = ([], sym (append-nil old), λ piece s. s)

grown : (old text new digits : List ℕ) (c : ℕ) → text ≡ old ++ digits → new ≡ text ++ (c ∷ []) → new ≡ old ++ (digits ++ (c ∷ []))
grown old text new digits c e f = f ∙ (ap (λ t. t ++ (c ∷ [])) e ∙ append_assoc old digits (c ∷ []))

pub one_digit_more : (n r c : ℕ) (old text new : List ℕ) → NumberSoFar n r old text → digit_value c ≡ Some (r % 32 + 32) → new ≡ text ++ (c ∷ []) → NumberSoFar n (r / 32) old new
one_digit_more n r c old text new s h e = (
  s.0 ++ (c ∷ []),
  grown old text new s.0 c s.1 e,
  λ piece p. subst (SaysNumber n) (sym (append_assoc s.0 (c ∷ []) piece)) (s.2 (c ∷ piece) (more_digit c r piece h p)),
)

pub whole_number : (n r c : ℕ) (old text new : List ℕ) → NumberSoFar n r old text → digit_value c ≡ Some r → r < 32 → new ≡ text ++ (c ∷ []) → Grows (SaysNumber n) old new
whole_number n r c old text new s h l e = (s.0 ++ (c ∷ []), grown old text new s.0 c s.1 e, s.2 (c ∷ []) (last_digit c r h l))

-- a push that answers at once
pub on_push : {T E : Type 0} (r : Result T E) (P : Type 0) (x y z : List ℕ) → x ≡ cond (is_ok r) y z → (x ≡ y → P) → OnOk r P
on_push (Ok u) P x y z e f = f e
on_push (Err d) P x y z e f = tt
