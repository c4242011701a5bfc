-- A dot belongs to a decimal integer, and to no other number.
use Rattle.std.proofs.Common.{◌≡◌, ℕ, Bool, true, false, not, cond, List, [], ◌∷◌, ◌++◌, ◌&&◌, ◌==◌, nat_lt, nat_le, refl, sym, ◌∙◌, ap, arith, inl, inr}
use Rattle.std.proofs.lemmas.Bool.{and_parts, and_from, cases_Bool, eqb-true, leb-true, lt-ltb}
use Rattle.swc_ecma_codegen_grammar.specs.Chars.{is_digit}
use Rattle.swc_ecma_codegen_grammar.specs.Texts.{is_empty}
use Rattle.swc_ecma_codegen_grammar.specs.Numbers as numbers
use Rattle.swc_ecma_codegen_grammar.specs.Numbers.{is_octal, is_hex, is_binary, is_either, power, exponent, fraction, integer, radix, legacy, is_numeric, takes_dot}
use Rattle.swc_ecma_codegen_literals.specs.AsciiNames.{is_ascii_text}
use Rattle.swc_ecma_codegen_literals.specs.Integers.{digits, decimal, after_zero, is_integer}

dot : List ℕ
dot = 46 ∷ []

-- ---- what has a dot, an exponent or a radix takes no dot at its end

and_no : (a b : Bool) → (a && (b && false)) ≡ false
and_no true true = refl
and_no true false = refl
and_no false b = refl

and_none : (a : Bool) → (a && false) ≡ false
and_none true = refl
and_none false = refl

and_all : (a : Bool) → (a && true) ≡ a
and_all true = refl
and_all false = refl

if_and : (a b : Bool) → cond a b false ≡ (a && b)
if_and true b = refl
if_and false b = refl

-- a choice whose ways are all closed
closed : (b : Bool) {x y : Bool} → x ≡ false → y ≡ false → cond b x y ≡ false
closed true h k = h
closed false h k = k

power_closed : (due : Bool) (cs : List ℕ) → power due (cs ++ dot) ≡ false
unfolding power is_digit dot
power_closed due [] = refl
power_closed due (c ∷ cs) = closed (is_digit c) (power_closed false cs) (ap (λ x. (c == 95) && (not due && x)) (power_closed true cs) ∙ and_no (c == 95) (not due))

exponent_closed : (cs : List ℕ) → exponent (cs ++ dot) ≡ false
unfolding exponent is_either is_digit dot
exponent_closed [] = refl
exponent_closed (c ∷ cs) = closed (is_either 43 45 c) (power_closed true cs) (ap (λ x. is_digit c && x) (power_closed false cs) ∙ and_none (is_digit c))

fraction_closed : (joins due : Bool) (cs : List ℕ) → fraction joins due (cs ++ dot) ≡ false
unfolding fraction is_either is_digit dot
fraction_closed joins due [] = refl
fraction_closed joins due (c ∷ cs) =
    closed (is_digit c) (fraction_closed true false cs)
    (closed (is_either 101 69 c) (ap (λ x. not due && x) (exponent_closed cs) ∙ and_none (not due)) (ap (λ x. (c == 95) && (joins && x)) (fraction_closed false true cs) ∙ and_no (c == 95) joins))

not_empty : (cs : List ℕ) → is_empty (cs ++ dot) ≡ false
unfolding is_empty dot
not_empty [] = refl
not_empty (c ∷ cs) = refl

radix_closed : (among : ℕ → Bool) (due : Bool) (cs : List ℕ) → among 46 ≡ false → radix among due (cs ++ dot) ≡ false
unfolding radix dot
radix_closed among due [] h = ap (λ b. cond b (radix among false []) false) h
radix_closed among due (c ∷ cs) h =
    closed (among c) (radix_closed among false cs h)
    (closed (c == 95) (ap (λ x. not due && x) (radix_closed among true cs h) ∙ and_none (not due)) (ap (λ x. (c == 110) && (not due && x)) (not_empty cs) ∙ and_no (c == 110) (not due)))

-- ---- digits

integer_is : (due : Bool) (cs : List ℕ) → integer due (cs ++ dot) ≡ digits due cs
unfolding integer digits fraction is_either is_digit dot
integer_is due [] = and_all (not due)
integer_is due (c ∷ cs) =
    λ i. cond (is_digit c) (integer_is false cs i)
    ((ap (λ x. cond (c == 95) x (cond (c == 46) (not due && fraction false false (cs ++ dot)) (cond (is_either 101 69 c) (not due && exponent (cs ++ dot)) ((c == 110) && (not due && is_empty (cs ++ dot)))))) (ap (λ y. not due && y) (integer_is true cs))
    ∙ ap (λ x. cond (c == 95) (not due && digits true cs) x)
    (closed (c == 46) (ap (λ x. not due && x) (fraction_closed false false cs) ∙ and_none (not due))
    (closed (is_either 101 69 c) (ap (λ x. not due && x) (exponent_closed cs) ∙ and_none (not due)) (ap (λ x. (c == 110) && (not due && x)) (not_empty cs) ∙ and_no (c == 110) (not due))))
    ∙ if_and (c == 95) (not due && digits true cs)) i)

decimal_is : (octal : Bool) (cs : List ℕ) → legacy octal (cs ++ dot) ≡ decimal octal cs
unfolding legacy decimal fraction is_either is_digit dot
decimal_is octal [] = and_all (not octal)
decimal_is octal (c ∷ cs) =
    (λ i. cond (is_digit c) (decimal_is (octal && is_octal c) cs i)
    (closed (c == 46) (ap (λ x. not octal && x) (fraction_closed false false cs) ∙ and_none (not octal)) (ap (λ x. is_either 101 69 c && (not octal && x)) (exponent_closed cs) ∙ and_no (is_either 101 69 c) (not octal)) i))
    ∙ if_and (is_digit c) (decimal (octal && is_octal c) cs)

zero_is : (cs : List ℕ) → numbers.after_zero (cs ++ dot) ≡ after_zero cs
unfolding numbers.after_zero after_zero fraction is_either is_digit is_hex is_octal is_binary dot
zero_is [] = refl
zero_is (c ∷ cs) =
    (λ i. cond (is_digit c) (decimal_is (is_octal c) cs i)
    (closed (c == 46) (fraction_closed false false cs)
    (closed (is_either 101 69 c) (exponent_closed cs)
    (closed (is_either 120 88 c) (radix_closed is_hex true cs refl)
    (closed (is_either 111 79 c) (radix_closed is_octal true cs refl)
    (closed (is_either 98 66 c) (radix_closed is_binary true cs refl) (ap (λ x. (c == 110) && x) (not_empty cs) ∙ and_none (c == 110)))))) i))
    ∙ if_and (is_digit c) (decimal (is_octal c) cs)

-- a dot belongs to a decimal integer
pub integer_takes_dot : (t : List ℕ) → takes_dot t ≡ is_integer t
unfolding takes_dot is_numeric is_integer fraction is_digit dot
integer_takes_dot [] = refl
integer_takes_dot (c ∷ cs) =
    λ i. cond (c == 48) (zero_is cs i)
    ((ap (λ x. cond (is_digit c) x ((c == 46) && fraction false true (cs ++ dot))) (integer_is false cs)
    ∙ ap (λ x. cond (is_digit c) (digits false cs) x) (ap (λ x. (c == 46) && x) (fraction_closed false true cs) ∙ and_none (c == 46))
    ∙ if_and (is_digit c) (digits false cs)) i)

-- ---- which are ASCII

digit_ascii : (c : ℕ) → is_digit c ≡ true → nat_lt c 128 ≡ true
unfolding is_digit
digit_ascii c h = let l = leb-true c 57 (and_parts (nat_le 48 c) (nat_le c 57) h).1 in lt-ltb c 128 (omega (arith, l))

digits_ascii : (due : Bool) (cs : List ℕ) → digits due cs ≡ true → is_ascii_text cs ≡ true
unfolding digits
digits_ascii due [] h = refl
digits_ascii due (c ∷ cs) h = elim (cases_Bool (is_digit c)) [
  | inl d ↦ and_from (nat_lt c 128) (is_ascii_text cs) (digit_ascii c d) (digits_ascii false cs (sym (ap (λ b. cond b (digits false cs) ((c == 95) && (not due && digits true cs))) d) ∙ h))
  | inr d ↦ let p = and_parts (c == 95) (not due && digits true cs) (sym (ap (λ b. cond b (digits false cs) ((c == 95) && (not due && digits true cs))) d) ∙ h) in and_from (nat_lt c 128) (is_ascii_text cs) (let e = eqb-true c 95 p.0 in lt-ltb c 128 (omega (arith, e))) (digits_ascii true cs (and_parts (not due) (digits true cs) p.1).1)
]

decimal_ascii : (octal : Bool) (cs : List ℕ) → decimal octal cs ≡ true → is_ascii_text cs ≡ true
unfolding decimal
decimal_ascii octal [] h = refl
decimal_ascii octal (c ∷ cs) h = let p = and_parts (is_digit c) (decimal (octal && is_octal c) cs) h in and_from (nat_lt c 128) (is_ascii_text cs) (digit_ascii c p.0) (decimal_ascii (octal && is_octal c) cs p.1)

zero_ascii : (cs : List ℕ) → after_zero cs ≡ true → is_ascii_text cs ≡ true
unfolding after_zero
zero_ascii [] h = refl
zero_ascii (c ∷ cs) h = let p = and_parts (is_digit c) (decimal (is_octal c) cs) h in and_from (nat_lt c 128) (is_ascii_text cs) (digit_ascii c p.0) (decimal_ascii (is_octal c) cs p.1)

pub integer_ascii : (t : List ℕ) → is_integer t ≡ true → is_ascii_text t ≡ true
unfolding is_integer
integer_ascii [] h = refl
integer_ascii (c ∷ cs) h = elim (cases_Bool (c == 48)) [
  | inl z ↦ and_from (nat_lt c 128) (is_ascii_text cs) (let e = eqb-true c 48 z in lt-ltb c 128 (omega (arith, e))) (zero_ascii cs (sym (ap (λ b. cond b (after_zero cs) (is_digit c && digits false cs)) z) ∙ h))
  | inr z ↦ let p = and_parts (is_digit c) (digits false cs) (sym (ap (λ b. cond b (after_zero cs) (is_digit c && digits false cs)) z) ∙ h) in and_from (nat_lt c 128) (is_ascii_text cs) (digit_ascii c p.0) (digits_ascii false cs p.1)
]
