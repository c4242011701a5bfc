-- A number whose digits are all that is printed of it: `12`, and not `120`, `1.2` or `-12`. Where the shortest text is printed, of up to
-- two digits no other text is shorter.
use Rattle.std.proofs.Common.{◌≡◌, ◌≤◌, ◌∙◌, sym, ap, ℕ, Bool, true, false, cond, List, [], length, pos, ◌++◌, codes, Option, Some, None, arith}
use Rattle.std.proofs.lemmas.List.{append-nil}
use Rattle.std.proofs.lemmas.Bool.{le-ltb}
use Rattle.std.specs.Option.{option_map}
use Rattle.std.specs.Fmt.{digits}
use Rattle.swc_ecma_codegen_common.specs.declared.decimals.Decimal.{Decimal}
use Rattle.swc_ecma_codegen_grammar.specs.DecimalValues.{decimal_digits}
use Rattle.swc_ecma_codegen_literals.specs.NumberTexts.{minified_text, minified_size, short_size, short_whole, shorter_size, hexadecimal_size, whole_size, plain_text, plain_size, sign_text}
use Rattle.swc_ecma_codegen_tokens.specs.Lits.{decimal_text}

pub own_digits : (minify : Bool) (number : Decimal) → minify ≡ false → number.negative ≡ false → number.exponent ≡ pos 0 → decimal_digits number ≡ decimal_text minify number
unfolding decimal_text plain_text plain_size sign_text
own_digits minify number m n e =
    sym (ap (λ z. decimal_text z number) m
    ∙ ap (λ z. sign_text z ++ plain_size (decimal_digits number) number.exponent) n
    ∙ ap (λ z. plain_size (decimal_digits number) z) e
    ∙ append-nil (decimal_digits number))

-- the hexadecimal text has its `0x` alone as long
hexadecimal_longer : (ds : List ℕ) (size : Option ℕ) → length ds ≤ 2 → shorter_size (option_map (λ n. codes "0x" ++ digits 16 false n) size) (ds ++ []) ≡ ds
unfolding shorter_size
hexadecimal_longer ds None h = append-nil ds
hexadecimal_longer ds (Some n) h =
    let text : List ℕ = codes "0x" ++ digits 16 false n in
    let same : length (ds ++ []) ≡ length ds = ap length (append-nil ds) in
    let longer : length (ds ++ []) ≤ length text = omega (arith, h, same) in
    ap (λ b. cond b text (ds ++ [])) (le-ltb (length text) (length (ds ++ [])) longer) ∙ append-nil ds

pub few_digits : (minify : Bool) (number : Decimal) → minify ≡ true → number.negative ≡ false → number.exponent ≡ pos 0 → length (decimal_digits number) ≤ 2 → decimal_digits number ≡ decimal_text minify number
unfolding decimal_text minified_text minified_size short_size short_whole shorter_size hexadecimal_size plain_size sign_text
few_digits minify number m n e h =
    let ds = decimal_digits number in
    sym (ap (λ z. decimal_text z number) m
    ∙ ap (λ z. sign_text z ++ minified_size z ds number.exponent) n
    ∙ ap (λ z. minified_size false ds z) e
    ∙ hexadecimal_longer ds (whole_size ds (pos 0)) h)
