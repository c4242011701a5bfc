-- What the table of the guard must hold.
use Rattle.std.proofs.Common.{◌≡◌, ℕ, ◌<◌, ◌/◌, ◌%◌, ◌+◌, ◌*◌, cond, zero, suc, Bool, false, List, [], ◌∷◌, ◌++◌, refl, sym, ◌∙◌, ap, get_or, map, length, arith, ◌==◌, rules as all}
use Rattle.std.proofs.lemmas.List.{get_or-map}
use Rattle.std.proofs.lemmas.Nat.Bits.{bit_at_lowest, bit_at-suc}
use Rattle.std.specs.Int.{bit_at}
use Rattle.swc_ecma_codegen_grammar.specs.GapRules as rules
use Rattle.swc_ecma_codegen_grammar.specs.GapRules.{fuses}
use Rattle.swc_ecma_codegen_grammar.specs.Punctuators.{punctuators}
use Rattle.swc_ecma_codegen_literals.specs.Punctuators.{place, spelling}
use Rattle.swc_ecma_codegen_tokens.specs.Starts.{order, start_class}
use Rattle.swc_ecma_codegen_tokens.specs.declared.starts.StartClass.{StartClass}
use Rattle.swc_ecma_codegen_tokens.specs.Classes.{place_of}
use Rattle.swc_ecma_codegen_tokens.specs.PreviousToken.{class_of, last_at}
use Rattle.swc_ecma_codegen_literals.specs.declared.punctuators.Punctuator.{Punctuator}
use Rattle.swc_ecma_codegen_tokens.specs.declared.previous.PreviousToken.{PreviousToken}
use Rattle.swc_ecma_codegen_tokens.specs.declared.previous.PreviousToken.TheVariants as last
use Rattle.swc_ecma_codegen_tokens.proofs.Gaps.Starting.{sample, samples, same_beginning}

-- a token of each class
unfoldable pub tokens : List rules.PreviousToken
tokens = map rules.Mark punctuators ++ (rules.LessBang ∷ rules.WordEnd ∷ rules.IntegerEnd ∷ rules.Whole ∷ rules.Whole ∷ [])

-- a row for each token, a column for each text
unfoldable pub entries : List (List Bool)
entries = map (λ l. map (λ t. fuses l t) samples) tokens

at_place : (p : Punctuator) → get_or tokens (place p) rules.Whole ≡ rules.Mark (spelling p)
unfolding tokens punctuators place
at_place p = search all

-- the token of a class stands for all of them
pub same_token : (l : PreviousToken) (t : List ℕ) → fuses (get_or tokens (place_of (class_of l)) rules.Whole) t ≡ fuses (last_at l) t
unfolding tokens punctuators place_of class_of last_at fuses
same_token last.Start [] = refl
same_token last.Start (c ∷ n) = refl
same_token last.Separated [] = refl
same_token last.Separated (c ∷ n) = refl
same_token last.WordEnd t = refl
same_token last.IntegerEnd t = refl
same_token (last.Mark p) t = ap (λ x. fuses x t) (at_place p)
same_token last.LessBang t = refl
same_token last.Closing t = refl
same_token last.Whole t = refl
same_token last.TextEnd [] = refl
same_token last.TextEnd (c ∷ n) = refl
same_token last.TagNameEnd [] = refl
same_token last.TagNameEnd (c ∷ n) = refl
same_token last.LineEnd [] = refl
same_token last.LineEnd (c ∷ n) = refl

-- the bits of a row, from the lowest on
unfoldable pub bits : ℕ → ℕ → List Bool
bits zero row = []
bits (suc n) row = (row % 2 == 1) ∷ bits n (row / 2)

-- the number whose bits these are
unfoldable pub number : List Bool → ℕ
number [] = 0
number (b ∷ bs) = cond b 1 0 + 2 * number bs

bit_in : (n row j : ℕ) → j < n → get_or (bits n row) j false ≡ (bit_at row j == 1)
unfolding bits
bit_in zero row j h = absurd (omega arith)
bit_in (suc n) row zero h = ap (λ b. b == 1) (sym (bit_at_lowest row))
bit_in (suc n) row (suc j) h = bit_in n (row / 2) j (omega arith) ∙ ap (λ b. b == 1) (sym (bit_at-suc row j))

rows : length tokens ≡ 63
unfolding tokens punctuators
rows = refl

columns : length samples ≡ 30
unfolding samples
columns = refl

starts : (s : StartClass) → order s < 30
unfolding order
starts s = search all

-- a row of a table whose bits are these
pub entry : (table : List ℕ) (i : ℕ) (l : PreviousToken) → map (bits 30) table ≡ entries → length table ≡ 63 → i < 63 → i ≡ place_of (class_of l) → (text : List ℕ) → (bit_at (get_or table i 0) (order (start_class text)) == 1) ≡ fuses (last_at l) text
unfolding entries sample
entry table i l same long within row text =
    let token : rules.PreviousToken = get_or tokens i rules.Whole in
    let j : ℕ = order (start_class text) in
    sym (bit_in 30 (get_or table i 0) j (starts (start_class text)))
    ∙ ap (λ x. get_or x j false) (sym (get_or-map (bits 30) table i 0 [] (omega (arith, long))))
    ∙ ap (λ x. get_or (get_or x i []) j false) same
    ∙ ap (λ x. get_or x j false) (get_or-map (λ l. map (λ t. fuses l t) samples) tokens i rules.Whole [] (omega (arith, rows)))
    ∙ get_or-map (λ t. fuses token t) samples j [] false (omega (arith, columns, starts (start_class text)))
    ∙ sym (same_beginning token text)
    ∙ ap (λ k. fuses (get_or tokens k rules.Whole) text) row
    ∙ same_token l text
