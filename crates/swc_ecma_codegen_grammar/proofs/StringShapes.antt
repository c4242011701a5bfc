-- What may go on after a string: nothing.
use Rattle.std.proofs.Common.{Bool, List, Option, None, Some, [], false, not, refl, sym, true, zero, suc, ℕ, ◌+◌, ◌-◌, ◌*◌, ◌&&◌, ◌++◌, ◌==◌, ◌||◌, ◌∷◌, ◌≡◌, nat_le, nat_lt, if◌then◌else◌}
use Rattle.std.proofs.lemmas.Bool.{true≢false}
use Rattle.std.specs.Char.{digit_value}
use Rattle.std.specs.Option.{is_some}
use Rattle.swc_ecma_codegen_grammar.specs.declared.units.Place.{Place}
use Rattle.swc_ecma_codegen_grammar.specs.declared.units.Place.TheVariants.{Between, Escaped, Due, Unicode, Braced, Octal, Continued}
use Rattle.swc_ecma_codegen_grammar.specs.Chars.{begins_digit, is_digit, is_quote}
use Rattle.swc_ecma_codegen_grammar.specs.CodeUnits.{utf16}
use Rattle.swc_ecma_codegen_grammar.specs.Numbers.{is_either, is_hex, is_octal}
use Rattle.swc_ecma_codegen_grammar.specs.Strings.{is_string}
use Rattle.swc_ecma_codegen_grammar.specs.StringValues.{before, begins_octal, single_escape, string_rest, string_value}
use Rattle.swc_ecma_codegen_grammar.specs.Texts.{begins, is_empty}

abbrev pub Rest : Type 0
Rest = Place → Option (List ℕ)

-- both of two rests have a value, from one place
abbrev Both : Rest → Rest → Type 0
Both k l = (place : Place) × (is_some (k place) ≡ true) × (is_some (l place) ≡ true)

pub never : {A : Type 0} → false ≡ true → A
never h = absurd (true≢false (sym h))

pub rest_of : (units : List ℕ) (o : Option (List ℕ)) → is_some (before units o) ≡ true → is_some o ≡ true
unfolding before
rest_of units None h = h
rest_of units (Some rest) h = refl

-- what the character after a backslash does, by tests on it and on the next one
abbrev pub escaped : Bool → Bool → Bool → Bool → Bool → Bool → Bool → Bool → Bool → Bool → ℕ → Rest → Option (List ℕ)
escaped s x u null octal more digit return feed line c k =
    if x then k (Due 2 0)
    else if u then k Unicode
    else if null then before (0 ∷ []) (k Between)
    else if octal then (if not s then None
    else if more then k (Octal (if nat_le c 51 then 1 else 0) (c - 48))
    else before ((c - 48) ∷ []) (k Between))
    else if digit then (if s then before (c ∷ []) (k Between) else None)
    else if return then k (if feed then Continued else Between)
    else if line then k Between
    else before (utf16 (single_escape c)) (k Between)

escaped_both : (s x u null octal more digit return feed line : Bool) (c : ℕ) (k l : Rest) → is_some (escaped s x u null octal more digit return feed line c k) ≡ true → is_some (escaped s x u null octal more digit return feed line c l) ≡ true → Both k l
escaped_both s true u null octal more digit return feed line c k l g h = (Due 2 0, g, h)
escaped_both s false true null octal more digit return feed line c k l g h = (Unicode, g, h)
escaped_both s false false true octal more digit return feed line c k l g h = (Between, rest_of _ _ g, rest_of _ _ h)
escaped_both true false false false true true digit return feed line c k l g h = (Octal (if nat_le c 51 then 1 else 0) (c - 48), g, h)
escaped_both true false false false true false digit return feed line c k l g h = (Between, rest_of _ _ g, rest_of _ _ h)
escaped_both false false false false true more digit return feed line c k l g h = never g
escaped_both true false false false false more true return feed line c k l g h = (Between, rest_of _ _ g, rest_of _ _ h)
escaped_both false false false false false more true return feed line c k l g h = never g
escaped_both s false false false false more false true feed line c k l g h = ((if feed then Continued else Between), g, h)
escaped_both s false false false false more false false feed true c k l g h = (Between, g, h)
escaped_both s false false false false more false false feed false c k l g h = (Between, rest_of _ _ g, rest_of _ _ h)

-- the other places inside an escape
digit_both : (b : Bool) (p : Place) (k l : Rest) → is_some (if b then k p else None) ≡ true → is_some (if b then l p else None) ≡ true → Both k l
digit_both true p k l g h = (p, g, h)
digit_both false p k l g h = never g

last_both : (b : Bool) (us : List ℕ) (k l : Rest) → is_some (if b then before us (k Between) else None) ≡ true → is_some (if b then before us (l Between) else None) ≡ true → Both k l
last_both true us k l g h = (Between, rest_of us _ g, rest_of us _ h)
last_both false us k l g h = never g

two_both : (a b : Bool) (p q : Place) (k l : Rest) → is_some (if a then k p else if b then k q else None) ≡ true → is_some (if a then l p else if b then l q else None) ≡ true → Both k l
two_both true b p q k l g h = (p, g, h)
two_both false b p q k l g h = digit_both b q k l g h

end_both : (a b : Bool) (p : Place) (us : List ℕ) (k l : Rest) → is_some (if a then k p else if b then before us (k Between) else None) ≡ true → is_some (if a then l p else if b then before us (l Between) else None) ≡ true → Both k l
end_both true b p us k l g h = (p, g, h)
end_both false b p us k l g h = last_both b us k l g h

octal_both : (b : Bool) (p : Place) (us : List ℕ) (k l : Rest) → is_some (if b then k p else before us (k Between)) ≡ true → is_some (if b then l p else before us (l Between)) ≡ true → Both k l
octal_both true p us k l g h = (p, g, h)
octal_both false p us k l g h = (Between, rest_of us _ g, rest_of us _ h)

between_both : (quote slash line : Bool) (us : List ℕ) (k l : Rest) → is_some (if quote then None else if slash then k Escaped else if line then None else before us (k Between)) ≡ true → is_some (if quote then None else if slash then l Escaped else if line then None else before us (l Between)) ≡ true → Both k l
between_both true slash line us k l g h = never g
between_both false true line us k l g h = (Escaped, g, h)
between_both false false true us k l g h = never g
between_both false false false us k l g h = (Between, rest_of us _ g, rest_of us _ h)

-- Two texts that go on alike for two characters are read alike for one.
one_both : (q : ℕ) (s : Bool) (place : Place) (c d : ℕ) (t u : List ℕ) → is_some (string_rest q s place (c ∷ d ∷ t)) ≡ true → is_some (string_rest q s place (c ∷ d ∷ u)) ≡ true → Both (λ p. string_rest q s p (d ∷ t)) (λ p. string_rest q s p (d ∷ u))
unfolding string_rest is_empty begins begins_digit begins_octal
one_both q s Between c d t u g h = between_both (c == q) (c == 92) (is_either 10 13 c) (utf16 c) (λ p. string_rest q s p (d ∷ t)) (λ p. string_rest q s p (d ∷ u)) g h
one_both q s Escaped c d t u g h =
    escaped_both s (c == 120) (c == 117) ((c == 48) && not (is_digit d)) (is_octal c) (is_octal d) (is_digit c) (c == 13) ((10 == d) && true) ((c == 10) || ((c == 8232) || (c == 8233))) c (λ p. string_rest q s p (d ∷ t)) (λ p. string_rest q s p (d ∷ u)) g h
one_both q s (Due zero v) c d t u g h = never g
one_both q s (Due (suc zero) v) c d t u g h = last_both (is_hex c) ((v * 16 + digit_value c) ∷ []) (λ p. string_rest q s p (d ∷ t)) (λ p. string_rest q s p (d ∷ u)) g h
one_both q s (Due (suc (suc n)) v) c d t u g h = digit_both (is_hex c) (Due (suc n) (v * 16 + digit_value c)) (λ p. string_rest q s p (d ∷ t)) (λ p. string_rest q s p (d ∷ u)) g h
one_both q s Unicode c d t u g h = two_both (c == 123) (is_hex c) (Braced false 0) (Due 3 (digit_value c)) (λ p. string_rest q s p (d ∷ t)) (λ p. string_rest q s p (d ∷ u)) g h
one_both q s (Braced some v) c d t u g h = end_both (is_hex c) ((c == 125) && (some && nat_le v 1114111)) (Braced true (v * 16 + digit_value c)) (utf16 v) (λ p. string_rest q s p (d ∷ t)) (λ p. string_rest q s p (d ∷ u)) g h
one_both q s (Octal more v) c d t u g h = octal_both (nat_lt 0 more && is_octal d) (Octal (more - 1) (v * 8 + (c - 48))) ((v * 8 + (c - 48)) ∷ []) (λ p. string_rest q s p (d ∷ t)) (λ p. string_rest q s p (d ∷ u)) g h
one_both q s Continued c d t u g h = (Between, g, h)

abbrev none : Rest
none place = None

-- The last character of a string is its quote.
lone : (q : ℕ) (s : Bool) (place : Place) (c d : ℕ) (t : List ℕ) → is_some (string_rest q s place (c ∷ [])) ≡ true → is_some (string_rest q s place (c ∷ d ∷ t)) ≡ true → ⊥
unfolding string_rest is_empty begins begins_digit begins_octal
lone q s Between c d t g h = by_tests (c == q) (c == 92) (is_either 10 13 c) g h
  where
    by_tests : (quote slash line : Bool) → is_some (if quote then Some [] else if slash then None else if line then None else before (utf16 c) None) ≡ true → is_some (if quote then None else if slash then string_rest q s Escaped (d ∷ t) else if line then None else before (utf16 c) (string_rest q s Between (d ∷ t))) ≡ true → ⊥
    by_tests true slash line g h = never h
    by_tests false true line g h = never g
    by_tests false false true g h = never g
    by_tests false false false g h = never (rest_of (utf16 c) None g)
lone q s Escaped c d t g h =
    never (escaped_both s (c == 120) (c == 117) ((c == 48) && true) (is_octal c) false (is_digit c) (c == 13) false ((c == 10) || ((c == 8232) || (c == 8233))) c none none g g).1
lone q s (Due zero v) c d t g h = never g
lone q s (Due (suc zero) v) c d t g h = never (last_both (is_hex c) ((v * 16 + digit_value c) ∷ []) none none g g).1
lone q s (Due (suc (suc n)) v) c d t g h = never (digit_both (is_hex c) (Due (suc n) (v * 16 + digit_value c)) none none g g).1
lone q s Unicode c d t g h = never (two_both (c == 123) (is_hex c) (Braced false 0) (Due 3 (digit_value c)) none none g g).1
lone q s (Braced some v) c d t g h = never (end_both (is_hex c) ((c == 125) && (some && nat_le v 1114111)) (Braced true (v * 16 + digit_value c)) (utf16 v) none none g g).1
lone q s (Octal more v) c d t g h = never (octal_both (nat_lt 0 more && false) (Octal (more - 1) (v * 8 + (c - 48))) ((v * 8 + (c - 48)) ∷ []) none none g g).1
lone q s Continued c d t g h = never g

rest_once : (q : ℕ) (s : Bool) (place : Place) (t : List ℕ) (c : ℕ) (m : List ℕ) → is_some (string_rest q s place t) ≡ true → is_some (string_rest q s place (t ++ c ∷ m)) ≡ true → ⊥
unfolding string_rest
rest_once q s place [] c m g h = never g
rest_once q s place (d ∷ []) c m g h = lone q s place d c m g h
rest_once q s place (d ∷ e ∷ t) c m g h =
    let r = one_both q s place d e t (t ++ c ∷ m) g h in
    rest_once q s r.0 (e ∷ t) c m r.1 r.2

pub string_once : (t : List ℕ) (c : ℕ) (m : List ℕ) → is_string t ≡ true → is_string (t ++ c ∷ m) ≡ true → ⊥
unfolding is_string string_value
string_once [] c m g h = never g
string_once (q ∷ t) c m g h = by_quote (is_quote q) g h
  where
    by_quote : (b : Bool) → is_some (if b then string_rest q true Between t else None) ≡ true → is_some (if b then string_rest q true Between (t ++ c ∷ m) else None) ≡ true → ⊥
    by_quote true g h = rest_once q true Between t c m g h
    by_quote false g h = never g

pub string_head : (c : ℕ) (n : List ℕ) → is_string (c ∷ n) ≡ true → is_quote c ≡ true
unfolding is_string string_value
string_head c n h = by_quote (is_quote c) h
  where
    by_quote : (b : Bool) → is_some (if b then string_rest c true Between n else None) ≡ true → b ≡ true
    by_quote true h = refl
    by_quote false h = never h

pub some_string : is_string [] ≡ true → ⊥
unfolding is_string string_value
some_string h = never h
