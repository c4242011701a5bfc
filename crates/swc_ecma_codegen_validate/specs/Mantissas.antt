-- The parts of a decimal literal, and its digits beside those of a number. ECMA-262, section 12.9.3.
use Rattle.std.specs.Prelude.{ℕ, suc, ◌+◌, Bool, true, false, not, List, [], ◌∷◌, ◌==◌, Option, None, Some, if◌then◌else◌}
use Rattle.swc_ecma_codegen_grammar.specs.Chars.{is_digit}
use Rattle.swc_ecma_codegen_grammar.specs.Numbers.{is_either}

-- the digits before an exponent, without dot and `_`: `125` of `12.5e3`
unfoldable pub mantissa : List ℕ → List ℕ
mantissa [] = []
mantissa (c ∷ cs) = if is_digit c then (c ∷ mantissa cs) else (if is_either 101 69 c then [] else mantissa cs)

-- what stands after its dot: `5e3`
unfoldable pub after_dot : List ℕ → List ℕ
after_dot [] = []
after_dot (c ∷ cs) = if is_digit c then after_dot cs else (if c == 46 then cs else (if is_either 101 69 c then [] else after_dot cs))

-- what stands after its `e`: `3`
unfoldable pub after_mark : List ℕ → List ℕ
after_mark [] = []
after_mark (c ∷ cs) = if is_digit c then after_mark cs else (if is_either 101 69 c then cs else after_mark cs)

-- digits from the first that isn't zero on: `50` of `0050`
unfoldable pub stripped : List ℕ → List ℕ
stripped [] = []
stripped (c ∷ cs) = if c == 48 then stripped cs else (c ∷ cs)

-- one more, where there is a number
unfoldable pub one_more : Option ℕ → Option ℕ
one_more None = None
one_more (Some n) = Some (suc n)

-- how many zeros follow `digits`, where nothing else does: 2 for `12` in `1200`
unfoldable pub zeros_after : List ℕ → List ℕ → Option ℕ
zeros_after [] [] = Some 0
zeros_after [] (c ∷ cs) = if c == 48 then one_more (zeros_after [] cs) else None
zeros_after (d ∷ ds) [] = None
zeros_after (d ∷ ds) (c ∷ cs) = if c == d then zeros_after ds cs else None

-- digits times ten to two powers are the same: 12 in `1200`, with a power that is larger by 2
unfoldable pub balanced : Option ℕ → ℕ → ℕ → Bool
balanced None a b = false
balanced (Some zeros) a b = zeros + a == b

-- no zero comes last
unfoldable pub ends_in_some : List ℕ → Bool
ends_in_some [] = true
ends_in_some (d ∷ []) = not (d == 48)
ends_in_some (d ∷ e ∷ ds) = ends_in_some (e ∷ ds)
