-- A string literal without octal escapes means the same where these are allowed.
use Rattle.std.proofs.Common.{Bool, List, Option, None, Some, [], ap, false, not, refl, true, zero, suc, ℕ, ◌+◌, ◌-◌, ◌*◌, ◌&&◌, ◌==◌, ◌||◌, ◌∙◌, ◌∷◌, ◌≡◌, nat_le, nat_lt, if◌then◌else◌}
use Rattle.std.specs.Char.{digit_value}
use Rattle.std.specs.Option.{is_some}
use Rattle.swc_ecma_codegen_grammar.specs.declared.units.Place.{Place}
use Rattle.swc_ecma_codegen_grammar.specs.declared.units.Place.TheVariants.{Between, Escaped, Due, Unicode, Braced, Octal, Continued}
use Rattle.swc_ecma_codegen_grammar.specs.Chars.{begins_digit, is_digit, is_quote}
use Rattle.swc_ecma_codegen_grammar.specs.CodeUnits.{utf16}
use Rattle.swc_ecma_codegen_grammar.specs.Numbers.{is_either, is_hex, is_octal}
use Rattle.swc_ecma_codegen_grammar.specs.Strings.{is_string}
use Rattle.swc_ecma_codegen_grammar.specs.StringValues.{before, begins_octal, string_rest, string_value}
use Rattle.swc_ecma_codegen_grammar.specs.Texts.{begins, is_empty}
use Rattle.swc_ecma_codegen_grammar.proofs.StringShapes.{Rest, escaped, never, rest_of}

-- where a rest has a value, the other has the same
abbrev Same : Rest → Rest → Type 0
Same k l = (place : Place) → is_some (k place) ≡ true → l place ≡ k place

after_units : (us : List ℕ) (k l : Rest) → Same k l → is_some (before us (k Between)) ≡ true → before us (l Between) ≡ before us (k Between)
after_units us k l e h = ap (before us) (e Between (rest_of us (k Between) h))

escaped_same : (x u null octal more digit return feed line : Bool) (c : ℕ) (k l : Rest) → Same k l → is_some (escaped false x u null octal more digit return feed line c k) ≡ true → escaped true x u null octal more digit return feed line c l ≡ escaped false x u null octal more digit return feed line c k
escaped_same true u null octal more digit return feed line c k l e h = e (Due 2 0) h
escaped_same false true null octal more digit return feed line c k l e h = e Unicode h
escaped_same false false true octal more digit return feed line c k l e h = after_units (0 ∷ []) k l e h
escaped_same false false false true more digit return feed line c k l e h = never h
escaped_same false false false false more true return feed line c k l e h = never h
escaped_same false false false false more false true feed line c k l e h = e (if feed then Continued else Between) h
escaped_same false false false false more false false feed true c k l e h = e Between h
escaped_same false false false false more false false feed false c k l e h = after_units _ k l e h

digit_same : (b : Bool) (p : Place) (k l : Rest) → Same k l → is_some (if b then k p else None) ≡ true → (if b then l p else None) ≡ (if b then k p else None)
digit_same true p k l e h = e p h
digit_same false p k l e h = refl

last_same : (b : Bool) (us : List ℕ) (k l : Rest) → Same k l → is_some (if b then before us (k Between) else None) ≡ true → (if b then before us (l Between) else None) ≡ (if b then before us (k Between) else None)
last_same true us k l e h = after_units us k l e h
last_same false us k l e h = refl

two_same : (a b : Bool) (p q : Place) (k l : Rest) → Same k l → is_some (if a then k p else if b then k q else None) ≡ true → (if a then l p else if b then l q else None) ≡ (if a then k p else if b then k q else None)
two_same true b p q k l e h = e p h
two_same false b p q k l e h = digit_same b q k l e h

end_same : (a b : Bool) (p : Place) (us : List ℕ) (k l : Rest) → Same k l → is_some (if a then k p else if b then before us (k Between) else None) ≡ true → (if a then l p else if b then before us (l Between) else None) ≡ (if a then k p else if b then before us (k Between) else None)
end_same true b p us k l e h = e p h
end_same false b p us k l e h = last_same b us k l e h

octal_same : (b : Bool) (p : Place) (us : List ℕ) (k l : Rest) → Same k l → is_some (if b then k p else before us (k Between)) ≡ true → (if b then l p else before us (l Between)) ≡ (if b then k p else before us (k Between))
octal_same true p us k l e h = e p h
octal_same false p us k l e h = after_units us k l e h

between_same : (quote slash line : Bool) (us : List ℕ) (end : Option (List ℕ)) (k l : Rest) → Same k l → is_some (if quote then end else if slash then k Escaped else if line then None else before us (k Between)) ≡ true →
    (if quote then end else if slash then l Escaped else if line then None else before us (l Between)) ≡ (if quote then end else if slash then k Escaped else if line then None else before us (k Between))
between_same true slash line us end k l e h = refl
between_same false true line us end k l e h = e Escaped h
between_same false false true us end k l e h = refl
between_same false false false us end k l e h = after_units us k l e h

rest_same : (q : ℕ) (t : List ℕ) → Same (λ p. string_rest q false p t) (λ p. string_rest q true p t)
unfolding string_rest
rest_same q [] place h = never h
rest_same q (c ∷ cs) Between h = between_same (c == q) (c == 92) (is_either 10 13 c) (utf16 c) (if is_empty cs then Some [] else None) (λ p. string_rest q false p cs) (λ p. string_rest q true p cs) (rest_same q cs) h
rest_same q (c ∷ cs) Escaped h =
    escaped_same (c == 120) (c == 117) ((c == 48) && not (begins_digit cs)) (is_octal c) (begins_octal cs) (is_digit c) (c == 13) (begins (10 ∷ []) cs) ((c == 10) || ((c == 8232) || (c == 8233))) c (λ p. string_rest q false p cs) (λ p. string_rest q true p cs) (rest_same q cs) h
rest_same q (c ∷ cs) (Due zero v) h = never h
rest_same q (c ∷ cs) (Due (suc zero) v) h = last_same (is_hex c) ((v * 16 + digit_value c) ∷ []) (λ p. string_rest q false p cs) (λ p. string_rest q true p cs) (rest_same q cs) h
rest_same q (c ∷ cs) (Due (suc (suc n)) v) h = digit_same (is_hex c) (Due (suc n) (v * 16 + digit_value c)) (λ p. string_rest q false p cs) (λ p. string_rest q true p cs) (rest_same q cs) h
rest_same q (c ∷ cs) Unicode h = two_same (c == 123) (is_hex c) (Braced false 0) (Due 3 (digit_value c)) (λ p. string_rest q false p cs) (λ p. string_rest q true p cs) (rest_same q cs) h
rest_same q (c ∷ cs) (Braced some v) h = end_same (is_hex c) ((c == 125) && (some && nat_le v 1114111)) (Braced true (v * 16 + digit_value c)) (utf16 v) (λ p. string_rest q false p cs) (λ p. string_rest q true p cs) (rest_same q cs) h
rest_same q (c ∷ cs) (Octal more v) h = octal_same (nat_lt 0 more && begins_octal cs) (Octal (more - 1) (v * 8 + (c - 48))) ((v * 8 + (c - 48)) ∷ []) (λ p. string_rest q false p cs) (λ p. string_rest q true p cs) (rest_same q cs) h
rest_same q (c ∷ cs) Continued h = rest_same q cs Between h

pub strict_means_the_same : (text units : List ℕ) → string_value false text ≡ Some units → string_value true text ≡ Some units
unfolding string_value
strict_means_the_same [] units e = e
strict_means_the_same (q ∷ t) units e = by_quote (is_quote q) e
  where
    by_quote : (b : Bool) → (if b then string_rest q false Between t else None) ≡ Some units → (if b then string_rest q true Between t else None) ≡ Some units
    by_quote true e = rest_same q t Between (ap is_some e) ∙ e
    by_quote false e = e

-- a text that has a value is a string literal
pub valued_is_string : (text units : List ℕ) → string_value false text ≡ Some units → is_string text ≡ true
unfolding is_string
valued_is_string text units e = ap is_some (strict_means_the_same text units e)
