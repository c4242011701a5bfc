-- Two numbers are the same just where they have the same form.
use Rattle.std.proofs.Common.{Bool, false, true, ℕ, zero, suc, ◌+◌, ◌*◌, ◌/◌, ◌%◌, ◌^◌, ◌==◌, ◌<◌, ◌≡◌, ◌∙◌, if◌then◌else◌, refl, sym, ap, subst, arith}
use Rattle.std.proofs.Math.Nat.{add-suc, add-zero, add_comm, eq_of_mul-eq-mul_right, mod-add-div', mul-div_cancel, mul-mod_left, mul-one, mul_assoc, mul_right_comm, pow-suc}
use Rattle.std.proofs.lemmas.Bool.{eqb-true}
use Rattle.std.proofs.lemmas.Nat.{pow-add}
use Rattle.swc_ecma_codegen_grammar.specs.NumberValues.{DecimalFraction, MathValue, SameValue, exact_value, lowest}

-- 250 with two places is 25 with one
lowest_shorter : (digits places : ℕ) → lowest (digits * 10) (suc places) ≡ lowest digits places
unfolding lowest
lowest_shorter digits places = rw (mul-mod_left digits 10, mul-div_cancel digits {n = 10} (omega arith)) refl

lowest_times : (digits places more : ℕ) → lowest (digits * 10 ^ more) (places + more) ≡ lowest digits places
lowest_times digits places zero = rw (mul-one, add-zero) refl
lowest_times digits places (suc more) =
    rw (pow-suc 10 more, ← mul_assoc digits (10 ^ more) 10, add-suc) (lowest_shorter (digits * 10 ^ more) (places + more) ∙ lowest_times digits places more)

-- one place less, of digits that end with a zero
tenth : (digits places : ℕ) (f : DecimalFraction) → digits % 10 ≡ 0 → f.digits * 10 ^ places ≡ digits / 10 * 10 ^ f.places → f.digits * 10 ^ suc places ≡ digits * 10 ^ f.places
tenth digits places f e h =
    let whole : digits / 10 * 10 ≡ digits = omega (arith, e, mod-add-div' digits 10) in
    rw (pow-suc 10 places, ← mul_assoc f.digits (10 ^ places) 10, h, mul_right_comm (digits / 10) (10 ^ f.places) 10, whole) refl

-- the form is worth as much as what it was made of: digits / 10^places
lowest_value : (digits places : ℕ) → (lowest digits places).digits * 10 ^ places ≡ digits * 10 ^ (lowest digits places).places
unfolding lowest
lowest_value digits zero = refl
lowest_value digits (suc places) = choice (digits % 10 == 0) refl (lowest_value (digits / 10) places)
  where
    choice : (b : Bool) → (digits % 10 == 0) ≡ b → (lowest (digits / 10) places).digits * 10 ^ places ≡ digits / 10 * 10 ^ (lowest (digits / 10) places).places → let f : DecimalFraction = if b then lowest (digits / 10) places else record { digits = digits; places = suc places } in f.digits * 10 ^ suc places ≡ digits * 10 ^ f.places
    choice true e h = tenth digits places (lowest (digits / 10) places) (eqb-true (digits % 10) 0 e) h
    choice false e h = refl

power_some : (n : ℕ) → 0 < 10 ^ n
power_some zero = omega arith
power_some (suc n) = rw (pow-suc 10 n) (omega (arith, power_some n))

-- two numbers over one power, crosswise
crossed : (digits p q a b over : ℕ) → 0 < over → digits * p ≡ a * over → digits * q ≡ b * over → a * q ≡ b * p
crossed digits p q a b over some left right =
    eq_of_mul-eq-mul_right over some (a * q) (b * p)
    (mul_right_comm a q over ∙ (ap (λ x. x * q) (sym left) ∙ (mul_right_comm digits p q ∙ (ap (λ x. x * p) right ∙ mul_right_comm b over p))))

powers : (whole tens more : ℕ) → whole * 10 ^ (tens + more) ≡ whole * 10 ^ tens * 10 ^ more
powers whole tens more = rw (pow-add 10 tens more, mul_assoc whole (10 ^ tens) (10 ^ more)) refl

-- 2.5 and 25e-1 have one form.
pub same_form : (a b : MathValue) → SameValue a b → exact_value a ≡ exact_value b
unfolding SameValue exact_value
same_form a b h =
    let crosswise : a.whole * 10 ^ a.tens * 10 ^ b.tenths ≡ b.whole * 10 ^ b.tens * 10 ^ a.tenths =
    sym (powers a.whole a.tens b.tenths) ∙ (h ∙ powers b.whole b.tens a.tenths)
    in
    sym (lowest_times (a.whole * 10 ^ a.tens) a.tenths b.tenths)
    ∙ (rw (crosswise, add_comm a.tenths b.tenths) refl ∙ lowest_times (b.whole * 10 ^ b.tens) b.tenths a.tenths)

-- What has one form is one number.
pub same_by_form : (a b : MathValue) → exact_value a ≡ exact_value b → SameValue a b
unfolding SameValue exact_value
same_by_form a b h =
    let f = lowest (a.whole * 10 ^ a.tens) a.tenths in
    let right : f.digits * 10 ^ b.tenths ≡ b.whole * 10 ^ b.tens * 10 ^ f.places =
    subst (λ (g : DecimalFraction). g.digits * 10 ^ b.tenths ≡ b.whole * 10 ^ b.tens * 10 ^ g.places) (sym h) (lowest_value (b.whole * 10 ^ b.tens) b.tenths)
    in
    powers a.whole a.tens b.tenths
    ∙ (crossed f.digits (10 ^ a.tenths) (10 ^ b.tenths) (a.whole * 10 ^ a.tens) (b.whole * 10 ^ b.tens) (10 ^ f.places) (power_some f.places) (lowest_value (a.whole * 10 ^ a.tens) a.tenths) right
    ∙ sym (powers b.whole b.tens a.tenths))
