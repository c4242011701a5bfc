-- No later character makes a number smaller: `25` is at least 2.
use Rattle.std.proofs.Common.{Bool, List, [], arith, false, if◌then◌else◌, true, ℕ, ◌*◌, ◌+◌, ◌<◌, ◌==◌, ◌∷◌, ◌≤◌}
use Rattle.std.proofs.Math.Nat.{le-mul_of_pos_right}
use Rattle.std.specs.Char.{digit_value}
use Rattle.swc_ecma_codegen_grammar.specs.Chars.{is_digit}
use Rattle.swc_ecma_codegen_grammar.specs.NumberValues.{MathValue, decimal_value, digits_after, exponent_value, fraction_value, over_ten, times_ten}
use Rattle.swc_ecma_codegen_grammar.specs.Numbers.{is_either, is_hex}

if_least : (b : Bool) (n x y : ℕ) → n ≤ x → n ≤ y → n ≤ (if b then x else y)
if_least true n x y h k = h
if_least false n x y h k = k

pub digits_grow : (radix n : ℕ) (cs : List ℕ) → 0 < radix → n ≤ digits_after radix n cs
unfolding digits_after
digits_grow radix n [] h = omega arith
digits_grow radix n (c ∷ cs) h =
    let m : n ≤ n * radix = le-mul_of_pos_right n h in
    let more : n * radix + digit_value c ≤ digits_after radix (n * radix + digit_value c) cs = digits_grow radix (n * radix + digit_value c) cs h in
    if_least (is_hex c) n (digits_after radix (n * radix + digit_value c) cs) (digits_after radix n cs) (omega arith) (digits_grow radix n cs h)

-- a number is at least `n`, and has at least so many places
pub record AtLeast (n places : ℕ) (v : MathValue) : Type 0 where
  pub whole : n ≤ v.whole
  pub tenths : places ≤ v.tenths

if_at_least : (b : Bool) (n places : ℕ) (u v : MathValue) → AtLeast n places u → AtLeast n places v → AtLeast n places (if b then u else v)
if_at_least true n places u v h k = h
if_at_least false n places u v h k = k

less : (n m places more : ℕ) (v : MathValue) → n ≤ m → places ≤ more → AtLeast m more v → AtLeast n places v
less n m places more v h k a = record { whole = omega (arith, a.whole); tenths = omega (arith, a.tenths) }

exponent_grows : (n places : ℕ) (cs : List ℕ) → AtLeast n places (exponent_value n places cs)
unfolding exponent_value over_ten
exponent_grows n places [] = record { whole = omega arith; tenths = omega arith }
exponent_grows n places (c ∷ cs) =
    if_at_least (c == 45) n places _ _
    (record { whole = omega arith; tenths = omega arith })
    (record { whole = omega arith; tenths = omega arith })

fraction_grows : (n places : ℕ) (cs : List ℕ) → AtLeast n places (fraction_value n places cs)
unfolding fraction_value over_ten
fraction_grows n places [] = record { whole = omega arith; tenths = omega arith }
fraction_grows n places (c ∷ cs) =
    if_at_least (is_digit c) n places _ _
    (less n (n * 10 + digit_value c) places (places + 1) _ (omega arith) (omega arith) (fraction_grows (n * 10 + digit_value c) (places + 1) cs))
    (if_at_least (is_either 101 69 c) n places _ _ (exponent_grows n places cs) (fraction_grows n places cs))

decimal_grows : (n : ℕ) (cs : List ℕ) → AtLeast n 0 (decimal_value n cs)
unfolding decimal_value times_ten
decimal_grows n [] = record { whole = omega arith; tenths = omega arith }
decimal_grows n (c ∷ cs) =
    if_at_least (is_digit c) n 0 _ _
    (less n (n * 10 + digit_value c) 0 0 _ (omega arith) (omega arith) (decimal_grows (n * 10 + digit_value c) cs))
    (if_at_least (c == 46) n 0 _ _ (fraction_grows n 0 cs)
    (if_at_least (is_either 101 69 c) n 0 _ _ (exponent_grows n 0 cs) (decimal_grows n cs)))

pub fraction_whole : (n places : ℕ) (cs : List ℕ) → n ≤ (fraction_value n places cs).whole
fraction_whole n places cs = (fraction_grows n places cs).whole

pub fraction_tenths : (n places : ℕ) (cs : List ℕ) → places ≤ (fraction_value n places cs).tenths
fraction_tenths n places cs = (fraction_grows n places cs).tenths

pub decimal_whole : (n : ℕ) (cs : List ℕ) → n ≤ (decimal_value n cs).whole
decimal_whole n cs = (decimal_grows n cs).whole
