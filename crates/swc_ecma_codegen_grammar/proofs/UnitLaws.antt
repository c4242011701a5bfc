-- Written surrogate escapes, and the units of a text that has them.
use Rattle.std.proofs.Common.{Bool, append_assoc, ◌-◌, length, ◌≤◌, List, [], ℕ, zero, suc, true, false, refl, drop, take, if◌then◌else◌, arith, ap, sym, ◌∙◌, ◌∷◌, ◌++◌, ◌≡◌, ◌==◌, ◌&&◌}
use Rattle.std.proofs.lemmas.Bool.{false≢true}
use Rattle.std.proofs.lemmas.List.{drop-drop}
use Rattle.std.proofs.lemmas.Grind.{common_steps}
use Rattle.swc_ecma_codegen_grammar.specs.Texts.{begins}
use Rattle.swc_ecma_codegen_grammar.specs.CodeUnits.{begins_like, four_digits, short_escape, long_escape, escape_length, escape_unit, units_after, utf16}
use Rattle.swc_ecma_codegen_grammar.specs.Numbers.{is_either}
use Rattle.swc_ecma_codegen_grammar.specs.WrittenUnits.{IsSurrogate, IsWrittenUnit}
use Rattle.swc_ecma_codegen_grammar.proofs.TurnLaws.{utf16_one}

-- four digits and then more
four_then : (ps : List (ℕ → Bool)) (t : List ℕ) → begins_like (four_digits ps) t ≡ (begins_like (four_digits []) t && begins_like ps (drop 4 t))
unfolding begins_like
four_then ps [] = refl
four_then ps (a ∷ []) = grind (arith, common_steps)
four_then ps (a ∷ b ∷ []) = grind (arith, common_steps)
four_then ps (a ∷ b ∷ c ∷ []) = grind (arith, common_steps)
four_then ps (a ∷ b ∷ c ∷ d ∷ t) = grind (arith, common_steps)

closed_like : (t : List ℕ) → begins_like ((λ c. c == 125) ∷ []) t ≡ begins (125 ∷ []) t
unfolding begins_like begins
closed_like [] = refl
closed_like (c ∷ cs) = grind (arith, common_steps)

pub closed_length : (t : List ℕ) → begins (125 ∷ []) t ≡ true → 1 ≤ length t
unfolding begins
closed_length [] h = absurd (false≢true h)
closed_length (c ∷ cs) h = omega arith

long_length : (t : List ℕ) → escape_length (117 ∷ 123 ∷ t) ≡ (if begins_like (four_digits []) t && begins (125 ∷ []) (drop 4 t) then 7 else 0)
unfolding begins_like short_escape long_escape escape_length is_either
long_length t = ap (λ x. if x then 7 else 0) (four_then ((λ c. c == 125) ∷ []) t ∙ ap (λ x. begins_like (four_digits []) t && x) (closed_like (drop 4 t)))

-- no escape without its digits
pub long_undigit : (t : List ℕ) → begins_like (four_digits []) t ≡ false → escape_length (117 ∷ 123 ∷ t) ≡ 0
long_undigit t h = long_length t ∙ rw h refl

-- nor without its brace
pub long_unclosed : (t rest : List ℕ) → rest ≡ drop 4 t → begins (125 ∷ []) rest ≡ false → escape_length (117 ∷ 123 ∷ t) ≡ 0
long_unclosed t rest e h = let g = rw e at h in long_length t ∙ rw g (grind (arith, common_steps))

pub long_unit : (t rest : List ℕ) (unit : ℕ) → IsSurrogate t unit rest → begins (125 ∷ []) rest ≡ true → IsWrittenUnit (117 ∷ 123 ∷ t) unit (drop 1 rest)
unfolding begins_like short_escape escape_unit is_either
long_unit t rest unit s h =
    let g = rw s.3 at h in
    let seven : escape_length (117 ∷ 123 ∷ t) ≡ 7 = long_length t ∙ rw (s.0, g) refl in
    (omega arith, s.1, s.2, rw (seven, s.3) (drop-drop 1 4 t))

units_skip : (skip : ℕ) (text : List ℕ) → units_after skip text ≡ units_after 0 (drop skip text)
unfolding units_after
units_skip zero text = refl
units_skip (suc skip) [] = refl
units_skip (suc skip) (c ∷ cs) = units_skip skip cs

-- a written escape stands for its unit
pub units_escape : (text rest : List ℕ) (unit : ℕ) → IsWrittenUnit text unit rest → units_after 0 (92 ∷ text) ≡ utf16 unit ++ units_after 0 rest
unfolding units_after
units_escape text rest unit h =
    let one = utf16_one unit h.2 in
    let skip = units_skip (escape_length text) text in
    grind (arith, common_steps)

pub units_step : (old more text tail rest : List ℕ) (unit : ℕ) → 92 ∷ tail ≡ text → IsWrittenUnit tail unit rest → more ≡ old ++ utf16 unit → old ++ units_after 0 text ≡ more ++ units_after 0 rest
units_step old more text tail rest unit e h m =
    rw (← e, units_escape tail rest unit h, m) (sym (append_assoc old (utf16 unit) (units_after 0 rest)))

pub rest_whole : (t : List ℕ) → take (length t - 1) (drop 1 t) ≡ drop 1 t
rest_whole [] = refl
rest_whole (c ∷ cs) = grind (arith, common_steps)
