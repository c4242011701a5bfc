-- A quoted text is one string literal with the units of the text.
use Rattle.std.proofs.Common.{◌≡◌, ℕ, zero, suc, ◌+◌, ◌-◌, ◌<◌, ◌≤◌, Bool, true, false, ◌&&◌, ◌==◌, List, [], ◌∷◌, ◌++◌, length, nat_lt, refl, sym, ap, ◌∙◌, subst, arith, inl, inr, Some, append_assoc, ◌⊎◌, count_by}
use Rattle.std.specs.List.{list_all}
use Rattle.std.specs.Str.{IsAscii, chars}
use Rattle.std.proofs.lemmas.Bool.{cases_lt, cases_Bool, lt-ltb, le-ltb, ltb-true, and_from, and_parts, eq-eqb, eqb-true, false≢true}
use Rattle.std.proofs.lemmas.Str.{chars-encodes, encodes-IsAscii}
use Rattle.std.proofs.lemmas.List.Folds.{list_all-append}
use lib.Utf8.{scalars, scalar, encodes, low_scalar}
use Rattle.swc_ecma_codegen_common.specs.declared.versions.EsVersion.{EsVersion}
use Rattle.swc_ecma_codegen_grammar.specs.Chars.{is_quote}
use Rattle.swc_ecma_codegen_grammar.specs.Strings.{is_string}
use Rattle.swc_ecma_codegen_grammar.proofs.StrictStrings.{valued_is_string}
use Rattle.swc_ecma_codegen_grammar.specs.Texts.{is_empty}
use Rattle.swc_ecma_codegen_grammar.specs.CodeUnits.{utf16, escape_length, escape_unit, units_after, units}
use Rattle.swc_ecma_codegen_grammar.specs.declared.units.Place.TheVariants.{Between}
use Rattle.swc_ecma_codegen_grammar.specs.StringValues.{before, string_rest, string_value}
use Rattle.swc_ecma_codegen_literals.specs.StringTexts.{stands, escape_text, backslash_escape, spelled, spelled_all, quote_of, quoted_text}
use Rattle.swc_ecma_codegen_literals.proofs.EscapeTexts.{chosen, is_ascii_char, escape_text_ascii}
use Rattle.swc_ecma_codegen_literals.proofs.SpelledTexts.{scalar_bound, ascii_from_all}
use Rattle.swc_ecma_codegen_literals.proofs.StringReads.{IsQuote, quote_small, not_quote, Read}
use Rattle.swc_ecma_codegen_literals.proofs.StringUnits.{spelled_reads, spelled_digit, Skips, skips, scalars_rest}

-- the backslash of a written surrogate escape stays alone
pub lone : (q : ℕ) (a : Bool) (v : EsVersion) (cs : List ℕ) → IsQuote q → nat_lt 0 (escape_length cs) ≡ true → spelled q a v 92 cs ≡ 92 ∷ []
unfolding spelled stands escape_text backslash_escape
lone q a v cs h e = rw (not_quote q 92 h (omega arith), e) refl

-- where no written surrogate escape begins
abbrev pub Lone : ℕ → List ℕ → Bool
Lone c cs = (c == 92) && nat_lt 0 (escape_length cs)

pub not_lone : (c : ℕ) (cs : List ℕ) → Lone c cs ≡ false → (c == 92) ≡ true → nat_lt 0 (escape_length cs) ≡ false
not_lone c cs n e = sym (ap (λ b. b && nat_lt 0 (escape_length cs)) e) ∙ n

plain_turn : (q : ℕ) (a : Bool) (v : EsVersion) (c : ℕ) (cs : List ℕ) → IsQuote q → c < 1114112 → Lone c cs ≡ false →
    Read q Between (spelled_all q a v cs ++ q ∷ []) ≡ Some (units_after 0 cs) → Read q Between (spelled_all q a v (c ∷ cs) ++ q ∷ []) ≡ Some (units_after 0 (c ∷ cs))
unfolding spelled_all units_after before
plain_turn q a v c cs h l n i =
    let t = spelled_all q a v cs ++ q ∷ [] in
    ap (λ x. Read q Between x) (append_assoc (spelled q a v c cs) (spelled_all q a v cs) (q ∷ [])) ∙
    (spelled_reads q a v c cs t h l (spelled_digit q a v cs h) (not_lone c cs n) ∙
    (ap (λ o. before (utf16 c) o) i ∙ rw n refl))

lone_turn : (q : ℕ) (a : Bool) (v : EsVersion) (c : ℕ) (cs : List ℕ) → IsQuote q → Lone c cs ≡ true → (k : Skips q a v cs) →
    Read q Between (spelled_all q a v k.rest ++ q ∷ []) ≡ Some (units_after 0 k.rest) → Read q Between (spelled_all q a v (c ∷ cs) ++ q ∷ []) ≡ Some (units_after 0 (c ∷ cs))
unfolding spelled_all units_after before
lone_turn q a v c cs h y k i =
    let p = and_parts (c == 92) (nat_lt 0 (escape_length cs)) y in
    let e : spelled q a v c cs ≡ 92 ∷ [] = ap (λ x. spelled q a v x cs) (eqb-true c 92 p.0) ∙ lone q a v cs h p.1 in
    ap (λ x. Read q Between ((x ++ spelled_all q a v cs) ++ q ∷ [])) e ∙
    (k.reads (q ∷ []) ∙
    (ap (λ o. before (escape_unit cs ∷ []) o) i ∙
    rw y (ap (λ u. Some (escape_unit cs ∷ u)) (sym k.has_units))))

no_more : (q : ℕ) → Read q Between (q ∷ []) ≡ Some []
unfolding string_rest is_empty
no_more q = rw (eq-eqb q q refl) refl

nothing_spelled : (q : ℕ) (a : Bool) (v : EsVersion) → Read q Between (spelled_all q a v [] ++ q ∷ []) ≡ Some (units_after 0 [])
unfolding spelled_all units_after
nothing_spelled q a v = no_more q

pub first_bound : (c : ℕ) (cs : List ℕ) → scalars (c ∷ cs) ≡ true → c < 1114112
first_bound c cs s = scalar_bound c (and_parts (scalar c) (scalars cs) s).0

shorter_le : (n : ℕ) (cs rest : List ℕ) → length rest < length cs → suc (length cs) ≤ suc n → length rest ≤ n
shorter_le n cs rest s l = omega (arith, s, l)

tail_le : (n : ℕ) (cs : List ℕ) → suc (length cs) ≤ suc n → length cs ≤ n
tail_le n cs l = omega (arith, l)

string_units : (n : ℕ) (q : ℕ) (a : Bool) (v : EsVersion) (cs : List ℕ) → length cs ≤ n → IsQuote q → scalars cs ≡ true → Read q Between (spelled_all q a v cs ++ q ∷ []) ≡ Some (units_after 0 cs)
string_units zero q a v [] l h s = nothing_spelled q a v
string_units zero q a v (c ∷ cs) l h s = absurd (omega (arith, l))
string_units (suc n) q a v [] l h s = nothing_spelled q a v
string_units (suc n) q a v (c ∷ cs) l h s = elim (cases_Bool (Lone c cs)) [
  | inl y ↦
      let k = skips q a v cs h (and_parts (c == 92) (nat_lt 0 (escape_length cs)) y).1 in
      lone_turn q a v c cs h y k (string_units n q a v k.rest (shorter_le n cs k.rest k.shorter l) h (k.chars (scalars_rest c cs s)))
  | inr x ↦ plain_turn q a v c cs h (first_bound c cs s) x (string_units n q a v cs (tail_le n cs l) h (scalars_rest c cs s))
]

pub quote_is : (text : List ℕ) → IsQuote (quote_of text)
unfolding quote_of IsQuote
quote_is text = chosen (λ q. (q ≡ 34) ⊎ (q ≡ 39)) (nat_lt (count_by (λ c. c == 39) text) (count_by (λ c. c == 34) text)) 39 34 (λ _. inr refl) (λ _. inl refl)

pub quote_shape : (q : ℕ) → IsQuote q → is_quote q ≡ true
unfolding is_quote IsQuote
quote_shape q h = elim h [ inl e ↦ rw e refl | inr e ↦ rw e refl ]

pub quoted_value : (a : Bool) (v : EsVersion) (text : List ℕ) → scalars text ≡ true → string_value false (quoted_text a v text) ≡ Some (units text)
unfolding string_value quoted_text
quoted_value a v text s = rw (quote_shape (quote_of text) (quote_is text)) (string_units (length text) (quote_of text) a v text (omega arith) (quote_is text) s)

pub quoted_is_string : (a : Bool) (v : EsVersion) (text : List ℕ) → scalars text ≡ true → is_string (quoted_text a v text) ≡ true
quoted_is_string a v text s = valued_is_string (quoted_text a v text) (units text) (quoted_value a v text s)

-- all in ASCII
ascii_stands : (q : ℕ) (v : EsVersion) (c : ℕ) → stands q true v c ≡ true → c < 127
unfolding stands
ascii_stands q v c h = elim (cases_lt c 127) [ inl l ↦ l | inr g ↦ absurd (beyond g) ]
  where
    beyond : 127 ≤ c → ⊥
    beyond g = elim (cases_lt c 256) [
      | inl a ↦ false≢true (rw (le-ltb c 127 g, lt-ltb c 256 a) at h)
      | inr a ↦ elim (cases_lt c 65536) [
        | inl b ↦ false≢true (rw (le-ltb c 127 g, le-ltb c 256 a, lt-ltb c 65536 b) at h)
        | inr b ↦ false≢true (rw (le-ltb c 127 g, le-ltb c 256 a, le-ltb c 65536 b) at h)
      ]
    ]

spelled_ascii : (q : ℕ) (v : EsVersion) (c : ℕ) (next : List ℕ) → c < 1114112 → list_all is_ascii_char (spelled q true v c next) ≡ true
unfolding spelled
spelled_ascii q v c next l = elim (cases_Bool (stands q true v c)) [
  | inl y ↦ rw y (let m = ascii_stands q v c y in and_from (is_ascii_char c) true (lt-ltb c 128 (omega arith)) refl)
  | inr n ↦ rw n (escape_text_ascii v c next l)
]

all_ascii : (q : ℕ) (v : EsVersion) (cs : List ℕ) → scalars cs ≡ true → list_all is_ascii_char (spelled_all q true v cs) ≡ true
unfolding spelled_all
all_ascii q v [] s = refl
all_ascii q v (c ∷ cs) s =
    list_all-append is_ascii_char (spelled q true v c cs) (spelled_all q true v cs) ∙
    and_from (list_all is_ascii_char (spelled q true v c cs)) (list_all is_ascii_char (spelled_all q true v cs)) (spelled_ascii q v c cs (first_bound c cs s)) (all_ascii q v cs (scalars_rest c cs s))

quote_ascii : (q : ℕ) → IsQuote q → is_ascii_char q ≡ true
quote_ascii q h = let l = quote_small q h in lt-ltb q 128 (omega arith)

pub quoted_ascii : (v : EsVersion) (text : List ℕ) → scalars text ≡ true → list_all is_ascii_char (quoted_text true v text) ≡ true
unfolding quoted_text
quoted_ascii v text s =
    let q = quote_of text in
    let h = quote_ascii (quote_of text) (quote_is text) in
    and_from (is_ascii_char (quote_of text)) (list_all is_ascii_char (spelled_all (quote_of text) true v text ++ quote_of text ∷ [])) h
    (list_all-append is_ascii_char (spelled_all (quote_of text) true v text) (quote_of text ∷ []) ∙
    and_from (list_all is_ascii_char (spelled_all (quote_of text) true v text)) (is_ascii_char (quote_of text) && true) (all_ascii (quote_of text) v text s) (and_from (is_ascii_char (quote_of text)) true h refl))

-- a quoted text is made of characters
pub scalars_append : (xs ys : List ℕ) → scalars xs ≡ true → scalars ys ≡ true → scalars (xs ++ ys) ≡ true
scalars_append [] ys h g = g
scalars_append (x ∷ xs) ys h g = let p = and_parts (scalar x) (scalars xs) h in and_from (scalar x) (scalars (xs ++ ys)) p.0 (scalars_append xs ys p.1 g)

pub ascii_scalars : (t : List ℕ) → list_all is_ascii_char t ≡ true → scalars t ≡ true
ascii_scalars [] h = refl
ascii_scalars (c ∷ cs) h =
    let p = and_parts (is_ascii_char c) (list_all is_ascii_char cs) h in
    let l : c < 128 = ltb-true c 128 p.0 in
    and_from (scalar c) (scalars cs) (low_scalar c (omega arith)) (ascii_scalars cs p.1)

spelled_scalars : (q : ℕ) (a : Bool) (v : EsVersion) (cs : List ℕ) → scalars cs ≡ true → scalars (spelled_all q a v cs) ≡ true
unfolding spelled_all spelled
spelled_scalars q a v [] s = refl
spelled_scalars q a v (c ∷ cs) s =
    let p = and_parts (scalar c) (scalars cs) s in
    scalars_append (spelled q a v c cs) (spelled_all q a v cs)
    (chosen (λ t. scalars t ≡ true) (stands q a v c) (c ∷ []) (escape_text v c cs) (λ _. and_from (scalar c) true p.0 refl) (λ _. ascii_scalars (escape_text v c cs) (escape_text_ascii v c cs (scalar_bound c p.0))))
    (spelled_scalars q a v cs p.1)

pub quoted_scalars : (a : Bool) (v : EsVersion) (text : List ℕ) → scalars text ≡ true → scalars (quoted_text a v text) ≡ true
unfolding quoted_text
quoted_scalars a v text s =
    let q = quote_of text in
    let l = quote_small (quote_of text) (quote_is text) in
    let h : scalar (quote_of text) ≡ true = low_scalar (quote_of text) (omega arith) in
    and_from (scalar (quote_of text)) (scalars (spelled_all (quote_of text) a v text ++ quote_of text ∷ [])) h
    (scalars_append (spelled_all (quote_of text) a v text) (quote_of text ∷ []) (spelled_scalars (quote_of text) a v text s) (and_from (scalar (quote_of text)) true h refl))

-- the characters of a literal that was written as bytes
pub literal_chars : (a : Bool) (v : EsVersion) (text bytes : List ℕ) → scalars text ≡ true → bytes ≡ encodes (quoted_text a v text) → chars bytes ≡ quoted_text a v text
literal_chars a v text bytes s e = ap chars e ∙ chars-encodes (quoted_text a v text) (quoted_scalars a v text s)

pub literal_ascii : (a : Bool) (v : EsVersion) (text bytes : List ℕ) → a ≡ true → scalars text ≡ true → bytes ≡ encodes (quoted_text a v text) → IsAscii bytes
literal_ascii a v text bytes only s e =
    let i = ascii_from_all (quoted_text a v text) (subst (λ x. list_all is_ascii_char (quoted_text x v text) ≡ true) (sym only) (quoted_ascii v text s)) in
    subst (λ x. IsAscii x) (sym (e ∙ encodes-IsAscii (quoted_text a v text) i)) i

pub literal_value : (a : Bool) (v : EsVersion) (text bytes : List ℕ) → scalars text ≡ true → bytes ≡ encodes (quoted_text a v text) → string_value false (chars bytes) ≡ Some (units text)
literal_value a v text bytes s e = ap (λ x. string_value false x) (literal_chars a v text bytes s e) ∙ quoted_value a v text s

pub literal_is_string : (a : Bool) (v : EsVersion) (text bytes : List ℕ) → scalars text ≡ true → bytes ≡ encodes (quoted_text a v text) → is_string (chars bytes) ≡ true
literal_is_string a v text bytes s e = ap is_string (literal_chars a v text bytes s e) ∙ quoted_is_string a v text s
