-- The last token after a number or a big integer.
use Rattle.std.proofs.Common.{◌≡◌, ℕ, Bool, true, false, cond, not, ◌==◌, ◌&&◌, List, [], ◌∷◌, ◌++◌, codes, nat_lt, ◌-◌, refl, sym, ap, ◌∙◌}
use Rattle.std.specs.Str.{chars, chars_after, IsUtf8}
use Rattle.std.proofs.lemmas.Bool.{eqb-true, true≢false}
use Rattle.std.proofs.lemmas.Str.{chars-nil, chars-append, IsUtf8-past_char}
use Rattle.swc_ecma_codegen_grammar.specs.declared.kinds.Kind.TheVariants.{Punctuator, Number, BigInt}
use Rattle.swc_ecma_codegen_grammar.specs.Chars.{is_digit}
use Rattle.swc_ecma_codegen_grammar.specs.Numbers.{is_octal, takes_dot}
use Rattle.swc_ecma_codegen_grammar.specs.GapRules.{PreviousToken, WordEnd, IntegerEnd, last_after}
use Rattle.swc_ecma_codegen_literals.specs.Integers.{digits, decimal, after_zero, is_integer}
use Rattle.swc_ecma_codegen_literals.proofs.Integers.{integer_takes_dot}
use Rattle.swc_ecma_codegen_tokens.specs.Run.{after_token, after_tokens, spelling}
use Rattle.swc_ecma_codegen_tokens.specs.Literals.{signed, size_of}

-- a dot would belong to it, or to nothing
unfoldable pub number_end : List ℕ → PreviousToken
number_end t = cond (takes_dot (chars t)) IntegerEnd WordEnd

pub after_number : (t : List ℕ) (k : PreviousToken) → after_tokens (signed Number t) k ≡ number_end (size_of t)
unfolding signed size_of after_tokens after_token last_after spelling number_end
after_number [] k = refl
after_number (c ∷ cs) k =
    elim (c == 45) as (λ b. after_tokens (cond b ((Punctuator, codes "-") ∷ (Number, cs) ∷ []) ((Number, c ∷ cs) ∷ [])) k ≡ number_end (cond b cs (c ∷ cs))) [ true ↦ refl | false ↦ refl ]

pub after_big : (t : List ℕ) (k : PreviousToken) → after_tokens (signed BigInt t) k ≡ number_end (size_of t)
unfolding signed size_of after_tokens after_token last_after spelling number_end
after_big [] k = refl
after_big (c ∷ cs) k =
    elim (c == 45) as (λ b. after_tokens (cond b ((Punctuator, codes "-") ∷ (BigInt, cs) ∷ []) ((BigInt, c ∷ cs) ∷ [])) k ≡ number_end (cond b cs (c ∷ cs))) [ true ↦ refl | false ↦ refl ]

-- ---- what ends with a dot or with `n` is no integer

-- a character that is none of an integer
pub record IsStrange (d : ℕ) : Type 0 where
  pub no_digit : is_digit d ≡ false
  pub no_joint : (d == 95) ≡ false
  pub no_zero : (d == 48) ≡ false

pub dot_is_strange : IsStrange 46
unfolding is_digit
dot_is_strange = record { no_digit = refl; no_joint = refl; no_zero = refl }

pub suffix_is_strange : IsStrange 110
unfolding is_digit
suffix_is_strange = record { no_digit = refl; no_joint = refl; no_zero = refl }

closed : (b : Bool) {x y : Bool} → x ≡ false → y ≡ false → cond b x y ≡ false
closed true h k = h
closed false h k = k

and_none : (a : Bool) → (a && false) ≡ false
and_none true = refl
and_none false = refl

digits_end : (d : ℕ) → IsStrange d → (due : Bool) (cs : List ℕ) → digits due (cs ++ d ∷ []) ≡ false
unfolding digits
digits_end d h due [] = (λ i. cond (h.no_digit i) (digits false []) (h.no_joint i && (not due && digits true [])))
digits_end d h due (c ∷ cs) =
    closed (is_digit c) (digits_end d h false cs) (ap (λ x. (c == 95) && (not due && x)) (digits_end d h true cs) ∙ ap (λ x. (c == 95) && x) (and_none (not due)) ∙ and_none (c == 95))

decimal_end : (d : ℕ) → IsStrange d → (octal : Bool) (cs : List ℕ) → decimal octal (cs ++ d ∷ []) ≡ false
unfolding decimal
decimal_end d h octal [] = ap (λ b. b && decimal (octal && is_octal d) []) h.no_digit
decimal_end d h octal (c ∷ cs) = ap (λ x. is_digit c && x) (decimal_end d h (octal && is_octal c) cs) ∙ and_none (is_digit c)

zero_end : (d : ℕ) → IsStrange d → (cs : List ℕ) → after_zero (cs ++ d ∷ []) ≡ false
unfolding after_zero
zero_end d h [] = ap (λ b. b && decimal (is_octal d) []) h.no_digit
zero_end d h (c ∷ cs) = ap (λ x. is_digit c && x) (decimal_end d h (is_octal c) cs) ∙ and_none (is_digit c)

integer_end : (d : ℕ) → IsStrange d → (cs : List ℕ) → is_integer (cs ++ d ∷ []) ≡ false
unfolding is_integer
integer_end d h [] = (λ i. cond (h.no_zero i) (after_zero []) (h.no_digit i && digits false []))
integer_end d h (c ∷ cs) = closed (c == 48) (zero_end d h cs) (ap (λ x. is_digit c && x) (digits_end d h false cs) ∙ and_none (is_digit c))

-- a text that ends so
pub strange_end : (d : ℕ) → IsStrange d → (t : List ℕ) → IsUtf8 t → chars (d ∷ []) ≡ d ∷ [] → number_end (t ++ d ∷ []) ≡ WordEnd
unfolding number_end
strange_end d h t u e =
    ap (λ b. cond b IntegerEnd WordEnd) (integer_takes_dot (chars (t ++ d ∷ [])) ∙ ap is_integer (chars-append t (d ∷ []) u ∙ ap (λ z. chars t ++ z) e) ∙ integer_end d h (chars t))

-- the sign stands first
pub size_append : (c : ℕ) (cs u : List ℕ) → size_of ((c ∷ cs) ++ u) ≡ size_of (c ∷ cs) ++ u
unfolding size_of
size_append c cs u = elim (c == 45) as (λ b. cond b (cs ++ u) (c ∷ (cs ++ u)) ≡ cond b cs (c ∷ cs) ++ u) [ true ↦ refl | false ↦ refl ]

-- ---- the last token after `n`, and after a number's own dot

minus_rest : (c : ℕ) (cs : List ℕ) → (c == 45) ≡ true → IsUtf8 (c ∷ cs) → IsUtf8 cs
unfolding lib.Utf8.encode
minus_rest c cs e u = IsUtf8-past_char (c ∷ cs) cs 45 u (ap (λ z. z ∷ cs) (eqb-true c 45 e))

-- a text without its sign is UTF-8
pub size_utf8 : (t : List ℕ) → IsUtf8 t → IsUtf8 (size_of t)
unfolding size_of
size_utf8 [] u = u
size_utf8 (c ∷ cs) u =
    let P : Bool → Type 0 = λ b. (c == 45) ≡ b → IsUtf8 (cond b cs (c ∷ cs)) in
    (elim (c == 45) as P [ true ↦ λ e. minus_rest c cs e u | false ↦ λ e. u ]) refl

letter_chars : (d : ℕ) → nat_lt d 128 ≡ true → chars (d ∷ []) ≡ d ∷ []
unfolding chars
letter_chars d h = ap (λ b. chars_after (cond b 0 (cond (nat_lt d 224) 1 (cond (nat_lt d 240) 2 3))) (cond b d (cond (nat_lt d 224) (d - 192) (cond (nat_lt d 240) (d - 224) (d - 240)))) []) h

pub big_end : (t : List ℕ) → IsUtf8 t → number_end (size_of (t ++ codes "n")) ≡ WordEnd
unfolding size_of
big_end [] u = strange_end 110 suffix_is_strange [] u (letter_chars 110 refl)
big_end (c ∷ cs) u = ap number_end (size_append c cs (codes "n")) ∙ strange_end 110 suffix_is_strange (size_of (c ∷ cs)) (size_utf8 (c ∷ cs) u) (letter_chars 110 refl)

no_number : takes_dot (chars []) ≡ false
unfolding is_integer
no_number = integer_takes_dot (chars []) ∙ ap is_integer chars-nil

pub dot_end : (t : List ℕ) → IsUtf8 t → takes_dot (chars (size_of t)) ≡ true → number_end (size_of (t ++ codes ".")) ≡ WordEnd
unfolding size_of
dot_end [] u h = absurd (true≢false (sym h ∙ no_number))
dot_end (c ∷ cs) u h = ap number_end (size_append c cs (codes ".")) ∙ strange_end 46 dot_is_strange (size_of (c ∷ cs)) (size_utf8 (c ∷ cs) u) (letter_chars 46 refl)
