-- What turns rest on.
use Rattle.std.proofs.Common.{Bool, List, [], true, false, refl, nat_le, ℕ, ◌*◌, ◌+◌, ◌∷◌, ◌≡◌, ◌<◌, arith, Option, length, get_or, take, drop, ◌≤◌, ◌-◌, None, Some, is_none, is_some}
use Rattle.std.proofs.lemmas.Grind.{common_steps}
use Rattle.std.specs.Char.{digit_value}
use Rattle.swc_ecma_codegen_grammar.specs.Chars.{begins_digit}
use Rattle.swc_ecma_codegen_grammar.specs.CodeUnits.{utf16}
use Rattle.swc_ecma_codegen_grammar.specs.declared.units.Place.{Place}
use Rattle.swc_ecma_codegen_grammar.specs.declared.units.Place.TheVariants.{Due, Braced, Octal}
use Rattle.swc_ecma_codegen_grammar.specs.StringValues.{before, begins_octal, string_rest}
use Rattle.swc_ecma_codegen_grammar.specs.TemplateValues.{cooked_rest}
use Rattle.swc_ecma_codegen_grammar.specs.Texts.{begins, is_empty}
use Rattle.swc_ecma_codegen_grammar.specs.Turns.{IsReached, ahead}

pub utf16_one : (c : ℕ) → c < 65536 → utf16 c ≡ c ∷ []
unfolding utf16
utf16_one c h = grind (arith, common_steps)

-- no string goes on from a code point escape that is too large
pub string_too_large : (q : ℕ) (sloppy some : Bool) (v : ℕ) (t : List ℕ) → 1114111 < v → string_rest q sloppy (Braced some v) t ≡ None
unfolding string_rest
string_too_large q sloppy some v [] h = refl
string_too_large q sloppy some v (c ∷ t) h =
    let more : 1114111 < v * 16 + digit_value c = omega arith in
    let over : nat_le v 1114111 ≡ false = grind (arith, common_steps) in
    let rest = string_too_large q sloppy true (v * 16 + digit_value c) t more in
    grind (arith, common_steps)

pub cooked_too_large : (some : Bool) (v : ℕ) (t : List ℕ) → 1114111 < v → cooked_rest (Braced some v) t ≡ None
unfolding cooked_rest
cooked_too_large some v [] h = refl
cooked_too_large some v (c ∷ t) h =
    let more : 1114111 < v * 16 + digit_value c = omega arith in
    let over : nat_le v 1114111 ≡ false = grind (arith, common_steps) in
    let rest = cooked_too_large true (v * 16 + digit_value c) t more in
    grind (arith, common_steps)

pub is_some_before : (units : List ℕ) (o : Option (List ℕ)) → is_some (before units o) ≡ is_some o
unfolding before
is_some_before units None = refl
is_some_before units (Some rest) = refl

-- a text is its first character and the rest
pub text_parts : (text : List ℕ) (c : ℕ) → 1 ≤ length text → c ≡ get_or text 0 c → c ∷ take (length text - 1) (drop 1 text) ≡ text
text_parts [] c h e = absurd (omega arith)
text_parts (d ∷ t) c h e = grind (arith, common_steps)

-- ---- what comes next is the begin of the rest

pub ahead_first : (text : List ℕ) (c : ℕ) → 1 ≤ length text → c ≡ get_or text 0 c → text ≡ ahead (Some c) (drop 1 text)
unfolding ahead
ahead_first [] c h e = absurd (omega arith)
ahead_first (d ∷ t) c h e = grind (arith, common_steps)

pub empty_ahead : (next : Option ℕ) (tail : List ℕ) → is_empty (ahead next tail) ≡ is_none next
unfolding ahead is_empty
empty_ahead None tail = refl
empty_ahead (Some c) tail = refl

pub digit_ahead : (next : Option ℕ) (tail : List ℕ) → begins_digit (ahead next tail) ≡ begins_digit (ahead next [])
unfolding ahead begins_digit
digit_ahead None tail = refl
digit_ahead (Some c) tail = refl

pub octal_ahead : (next : Option ℕ) (tail : List ℕ) → begins_octal (ahead next tail) ≡ begins_octal (ahead next [])
unfolding ahead begins_octal
octal_ahead None tail = refl
octal_ahead (Some c) tail = refl

pub feed_ahead : (next : Option ℕ) (tail : List ℕ) → begins (10 ∷ []) (ahead next tail) ≡ begins (10 ∷ []) (ahead next [])
unfolding ahead begins
feed_ahead None tail = refl
feed_ahead (Some c) tail = refl

-- a place before a text is one before its first character
pub reached_first : (place : Place) (c : ℕ) (rest : List ℕ) → IsReached place (c ∷ rest) → IsReached place (c ∷ [])
unfolding IsReached begins_octal
reached_first (Octal more value) c rest h = h
reached_first (Due digits value) c rest h = h
reached_first (Braced some value) c rest h = h
reached_first place c rest h = tt
