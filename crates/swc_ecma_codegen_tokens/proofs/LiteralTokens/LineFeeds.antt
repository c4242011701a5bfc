-- A template's text with CR LF and CR as LF.
use Rattle.std.proofs.Common.{◌≡◌, ℕ, zero, suc, ◌+◌, ◌*◌, Bool, true, false, cond, ◌==◌, List, [], ◌∷◌, ◌++◌, append_assoc, append-nil, nat_lt, refl, sym, ap, ◌∙◌, arith, inl, inr}
use Rattle.std.specs.Char.{digit_value, encode_utf8}
use Rattle.std.specs.List.{list_all}
use Rattle.std.specs.Str.{chars, IsUtf8}
use Rattle.std.proofs.lemmas.Bool.{and_from, and_parts, cases_Bool, eqb-true, ne_eqb, true≢false}
use Rattle.std.proofs.lemmas.Str.{encode_ascii, encodes-chars}
use lib.Utf8.{encodes, scalar, scalars}
use Rattle.swc_ecma_codegen_grammar.specs.Chars.{is_digit, begins_digit}
use Rattle.swc_ecma_codegen_grammar.specs.CodeUnits.{utf16}
use Rattle.swc_ecma_codegen_grammar.specs.Numbers.{is_hex}
use Rattle.swc_ecma_codegen_grammar.specs.StringValues.{before}
use Rattle.swc_ecma_codegen_grammar.specs.TemplateValues.{cooked_rest}
use Rattle.swc_ecma_codegen_grammar.specs.Texts.{begins}
use Rattle.swc_ecma_codegen_grammar.specs.declared.units.Place.{Place}
use Rattle.swc_ecma_codegen_grammar.specs.declared.units.Place.TheVariants.{Between, Escaped, Due, Unicode, Braced, Octal, Continued}
use Rattle.swc_ecma_codegen_literals.specs.AsciiNames.{is_ascii_text}
use Rattle.swc_ecma_codegen_literals.specs.ValidNames.{has_byte}
use Rattle.swc_ecma_codegen_tokens.specs.Templates.{with_line_feeds}

-- ---- one character after another

pub kept : (c : ℕ) (cs : List ℕ) → (c == 13) ≡ false → with_line_feeds (c ∷ cs) ≡ c ∷ with_line_feeds cs
unfolding with_line_feeds
kept c cs h = ap (λ b. cond b (cond (begins (10 ∷ []) cs) (with_line_feeds cs) (10 ∷ with_line_feeds cs)) (c ∷ with_line_feeds cs)) h

pub dropped : (c : ℕ) (cs : List ℕ) → (c == 13) ≡ true → begins (10 ∷ []) cs ≡ true → with_line_feeds (c ∷ cs) ≡ with_line_feeds cs
unfolding with_line_feeds
dropped c cs h e =
    ap (λ b. cond b (cond (begins (10 ∷ []) cs) (with_line_feeds cs) (10 ∷ with_line_feeds cs)) (c ∷ with_line_feeds cs)) h
    ∙ ap (λ b. cond b (with_line_feeds cs) (10 ∷ with_line_feeds cs)) e

pub turned : (c : ℕ) (cs : List ℕ) → (c == 13) ≡ true → begins (10 ∷ []) cs ≡ false → with_line_feeds (c ∷ cs) ≡ 10 ∷ with_line_feeds cs
unfolding with_line_feeds
turned c cs h e =
    ap (λ b. cond b (cond (begins (10 ∷ []) cs) (with_line_feeds cs) (10 ∷ with_line_feeds cs)) (c ∷ with_line_feeds cs)) h
    ∙ ap (λ b. cond b (with_line_feeds cs) (10 ∷ with_line_feeds cs)) e

-- ---- a text so far, and what is left of it

pub fed_more : (old new e total rest more : List ℕ) → old ++ encodes (with_line_feeds rest) ≡ total → new ≡ old ++ e → encodes (with_line_feeds rest) ≡ e ++ encodes (with_line_feeds more) → new ++ encodes (with_line_feeds more) ≡ total
fed_more old new e total rest more h k f = ap (λ z. z ++ encodes (with_line_feeds more)) k ∙ append_assoc old e (encodes (with_line_feeds more)) ∙ ap (λ z. old ++ z) (sym f) ∙ h

pub fed_kept : (rest more : List ℕ) (c : ℕ) → rest ≡ c ∷ more → (c ≡ 13 → ⊥) → encodes (with_line_feeds rest) ≡ encode_utf8 c ++ encodes (with_line_feeds more)
fed_kept rest more c e n = ap (λ z. encodes (with_line_feeds z)) e ∙ ap encodes (kept c more (ne_eqb c 13 n))

pub fed_turned : (rest more : List ℕ) (c : ℕ) → rest ≡ c ∷ more → c ≡ 13 → begins (10 ∷ []) more ≡ false → encodes (with_line_feeds rest) ≡ encode_utf8 10 ++ encodes (with_line_feeds more)
fed_turned rest more c e h b = ap (λ z. encodes (with_line_feeds z)) e ∙ ap encodes (turned c more (ap (λ z. z == 13) h) b)

pub fed_dropped : (old total rest more : List ℕ) (c : ℕ) → rest ≡ c ∷ more → c ≡ 13 → begins (10 ∷ []) more ≡ true → old ++ encodes (with_line_feeds rest) ≡ total → old ++ encodes (with_line_feeds more) ≡ total
fed_dropped old total rest more c e h b k = ap (λ z. old ++ encodes z) (sym (ap with_line_feeds e ∙ dropped c more (ap (λ z. z == 13) h) b)) ∙ k

pub fed_whole : (text total rest : List ℕ) → rest ≡ [] → text ++ encodes (with_line_feeds rest) ≡ total → text ≡ total
unfolding with_line_feeds
fed_whole text total rest e k = sym (append-nil text) ∙ ap (λ z. text ++ encodes (with_line_feeds z)) (sym e) ∙ k

-- ---- what the text stands for

-- a text that LF begins
feed_first : (cs : List ℕ) → begins (10 ∷ []) cs ≡ true → (ds : List ℕ) × (cs ≡ 10 ∷ ds)
unfolding begins
feed_first [] h = absurd (true≢false (sym h))
feed_first (c ∷ cs) h = (cs, ap (λ z. z ∷ cs) (sym (eqb-true 10 c (and_parts (10 == c) true h).0)))

-- CR and whatever follows is LF and a rest
feed_turned : (cs : List ℕ) → (ds : List ℕ) × (with_line_feeds (13 ∷ cs) ≡ 10 ∷ ds)
feed_turned cs = elim (cases_Bool (begins (10 ∷ []) cs)) [
  | inl y ↦ let f = feed_first cs y in (with_line_feeds f.0, dropped 13 cs refl y ∙ ap with_line_feeds f.1 ∙ kept 10 f.0 refl)
  | inr n ↦ (with_line_feeds cs, turned 13 cs refl n)
]

-- ---- how it begins

by_return : (c : ℕ) (P : Type 0) → ((c == 13) ≡ false → P) → (c ≡ 13 → P) → P
by_return c P other same = elim (cases_Bool (c == 13)) [ inl y ↦ same (eqb-true c 13 y) | inr n ↦ other n ]

brace_same : (cs : List ℕ) → begins (123 ∷ []) (with_line_feeds cs) ≡ begins (123 ∷ []) cs
unfolding begins with_line_feeds
brace_same [] = refl
brace_same (d ∷ ds) = by_return d _
    (λ e. ap (begins (123 ∷ [])) (kept d ds e))
    (λ e. ap (λ z. begins (123 ∷ []) (with_line_feeds (z ∷ ds))) e ∙ ap (begins (123 ∷ [])) (feed_turned ds).1 ∙ sym (ap (λ z. begins (123 ∷ []) (z ∷ ds)) e))

digit_same : (cs : List ℕ) → begins_digit (with_line_feeds cs) ≡ begins_digit cs
unfolding begins_digit with_line_feeds is_digit
digit_same [] = refl
digit_same (d ∷ ds) = by_return d _
    (λ e. ap begins_digit (kept d ds e))
    (λ e. ap (λ z. begins_digit (with_line_feeds (z ∷ ds))) e ∙ ap begins_digit (feed_turned ds).1 ∙ sym (ap (λ z. begins_digit (z ∷ ds)) e))

feed_is : (d : ℕ) (ds : List ℕ) → begins (10 ∷ []) (d ∷ ds) ≡ true → d ≡ 10
unfolding begins
feed_is d ds y = sym (eqb-true 10 d (and_parts (10 == d) true y).0)

-- ---- what it stands for

is_inner : Place → Bool
is_inner Continued = false
is_inner place = true

-- two rests of a text that stand for the same from each place
record Same (xs ys : List ℕ) : Type 0 where
  values : (place : Place) → is_inner place ≡ true → cooked_rest place xs ≡ cooked_rest place ys
  brace : begins (123 ∷ []) xs ≡ begins (123 ∷ []) ys
  digit : begins_digit xs ≡ begins_digit ys

-- a character that is no CR before each of them
other_same : (place : Place) (c : ℕ) (xs ys : List ℕ) → is_inner place ≡ true → (c == 13) ≡ false → Same xs ys → cooked_rest place (c ∷ xs) ≡ cooked_rest place (c ∷ ys)
unfolding cooked_rest is_inner
other_same Between c xs ys i n s = rw (n, s.brace, s.values Escaped refl, s.values Between refl) refl
other_same Escaped c xs ys i n s = rw (n, s.digit, s.values (Due 2 0) refl, s.values Unicode refl, s.values Between refl) refl
other_same (Due zero v) c xs ys i n s = refl
other_same (Due (suc zero) v) c xs ys i n s = rw (s.values Between refl) refl
other_same (Due (suc (suc k)) v) c xs ys i n s = rw (s.values (Due (suc k) (v * 16 + digit_value c)) refl) refl
other_same Unicode c xs ys i n s = rw (s.values (Braced false 0) refl, s.values (Due 3 (digit_value c)) refl) refl
other_same (Braced b v) c xs ys i n s = rw (s.values (Braced true (v * 16 + digit_value c)) refl, s.values Between refl) refl
other_same (Octal m v) c xs ys i n s = refl
other_same Continued c xs ys i n s = absurd (true≢false (sym i))

-- a line's end, as CR or as LF
ended_same : (place : Place) (cs : List ℕ) → is_inner place ≡ true → begins (10 ∷ []) cs ≡ false → Same (with_line_feeds cs) cs → cooked_rest place (10 ∷ with_line_feeds cs) ≡ cooked_rest place (13 ∷ cs)
unfolding cooked_rest is_inner utf16 is_hex is_digit
ended_same Between cs i n s = ap (before (10 ∷ [])) (s.values Between refl) ∙ sym (ap (λ b. cond b (cooked_rest Between cs) (before (10 ∷ []) (cooked_rest Between cs))) n)
ended_same Escaped cs i n s = s.values Between refl ∙ sym (ap (λ b. cooked_rest (cond b Continued Between) cs) n)
ended_same (Due zero v) cs i n s = refl
ended_same (Due (suc zero) v) cs i n s = refl
ended_same (Due (suc (suc k)) v) cs i n s = refl
ended_same Unicode cs i n s = refl
ended_same (Braced b v) cs i n s = refl
ended_same (Octal m v) cs i n s = refl
ended_same Continued cs i n s = absurd (true≢false (sym i))

-- CR LF, as LF
both_same : (place : Place) (ds : List ℕ) → is_inner place ≡ true → Same (with_line_feeds ds) ds → cooked_rest place (10 ∷ with_line_feeds ds) ≡ cooked_rest place (13 ∷ 10 ∷ ds)
unfolding cooked_rest is_inner utf16 is_hex is_digit begins
both_same Between ds i s = ap (before (10 ∷ [])) (s.values Between refl)
both_same Escaped ds i s = s.values Between refl
both_same (Due zero v) ds i s = refl
both_same (Due (suc zero) v) ds i s = refl
both_same (Due (suc (suc k)) v) ds i s = refl
both_same Unicode ds i s = refl
both_same (Braced b v) ds i s = refl
both_same (Octal m v) ds i s = refl
both_same Continued ds i s = absurd (true≢false (sym i))

same_by : (cs : List ℕ) → ((place : Place) → is_inner place ≡ true → cooked_rest place (with_line_feeds cs) ≡ cooked_rest place cs) → Same (with_line_feeds cs) cs
same_by cs h = record { values = h; brace = brace_same cs; digit = digit_same cs }

-- so is a text of one or two characters fewer
feeds_cook : (cs : List ℕ) → (place : Place) → is_inner place ≡ true → cooked_rest place (with_line_feeds cs) ≡ cooked_rest place cs
unfolding with_line_feeds
feeds_cook [] place i = refl
feeds_cook (c ∷ []) place i = by_return c _
    (λ n. ap (cooked_rest place) (kept c [] n) ∙ other_same place c (with_line_feeds []) [] i n (same_by [] (feeds_cook [])))
    (λ e. ap (λ z. cooked_rest place (with_line_feeds (z ∷ []))) e ∙ ap (cooked_rest place) (turned 13 [] refl (unfold begins in refl)) ∙ ended_same place [] i (unfold begins in refl) (same_by [] (feeds_cook [])) ∙ sym (ap (λ z. cooked_rest place (z ∷ [])) e))
feeds_cook (c ∷ d ∷ ds) place i =
    let rest = same_by (d ∷ ds) (feeds_cook (d ∷ ds)) in
    by_return c _
    (λ n. ap (cooked_rest place) (kept c (d ∷ ds) n) ∙ other_same place c (with_line_feeds (d ∷ ds)) (d ∷ ds) i n rest)
    (λ e. elim (cases_Bool (begins (10 ∷ []) (d ∷ ds))) [
      | inl y ↦
          let f = feed_first (d ∷ ds) y in
          ap (λ z. cooked_rest place (with_line_feeds (z ∷ d ∷ ds))) e ∙ ap (cooked_rest place) (dropped 13 (d ∷ ds) refl y)
          ∙ ap (λ z. cooked_rest place (with_line_feeds (z ∷ ds))) (feed_is d ds y) ∙ ap (cooked_rest place) (kept 10 ds refl)
          ∙ both_same place ds i (same_by ds (feeds_cook ds)) ∙ sym (ap (λ z. cooked_rest place (13 ∷ z ∷ ds)) (feed_is d ds y)) ∙ sym (ap (λ z. cooked_rest place (z ∷ d ∷ ds)) e)
      | inr n ↦ ap (λ z. cooked_rest place (with_line_feeds (z ∷ d ∷ ds))) e ∙ ap (cooked_rest place) (turned 13 (d ∷ ds) refl n) ∙ ended_same place (d ∷ ds) i n rest ∙ sym (ap (λ z. cooked_rest place (z ∷ d ∷ ds)) e)
    ])

pub feeds_value : (cs : List ℕ) → cooked_rest Between (with_line_feeds cs) ≡ cooked_rest Between cs
feeds_value cs = feeds_cook cs Between (unfold is_inner in refl)

-- ---- its characters

all_feeds : (p : ℕ → Bool) → p 10 ≡ true → (cs : List ℕ) → list_all p cs ≡ true → list_all p (with_line_feeds cs) ≡ true
unfolding with_line_feeds
all_feeds p f [] h = refl
all_feeds p f (c ∷ cs) h =
    let both = and_parts (p c) (list_all p cs) h in
    let more = all_feeds p f cs both.1 in
    elim (c == 13) as (λ b. list_all p (cond b (cond (begins (10 ∷ []) cs) (with_line_feeds cs) (10 ∷ with_line_feeds cs)) (c ∷ with_line_feeds cs)) ≡ true) [
      | true ↦ elim (begins (10 ∷ []) cs) as (λ b. list_all p (cond b (with_line_feeds cs) (10 ∷ with_line_feeds cs)) ≡ true) [ true ↦ more | false ↦ and_from (p 10) (list_all p (with_line_feeds cs)) f more ]
      | false ↦ and_from (p c) (list_all p (with_line_feeds cs)) both.0 more
    ]

pub feeds_ascii : (cs : List ℕ) → is_ascii_text cs ≡ true → is_ascii_text (with_line_feeds cs) ≡ true
feeds_ascii cs h = all_feeds (λ c. nat_lt c 128) refl cs h

pub feeds_scalars : (cs : List ℕ) → scalars cs ≡ true → scalars (with_line_feeds cs) ≡ true
unfolding with_line_feeds
feeds_scalars [] h = refl
feeds_scalars (c ∷ cs) h =
    let both = and_parts (scalar c) (scalars cs) h in
    let more = feeds_scalars cs both.1 in
    elim (c == 13) as (λ b. scalars (cond b (cond (begins (10 ∷ []) cs) (with_line_feeds cs) (10 ∷ with_line_feeds cs)) (c ∷ with_line_feeds cs)) ≡ true) [
      | true ↦ elim (begins (10 ∷ []) cs) as (λ b. scalars (cond b (with_line_feeds cs) (10 ∷ with_line_feeds cs)) ≡ true) [ true ↦ more | false ↦ and_from (scalar 10) (scalars (with_line_feeds cs)) refl more ]
      | false ↦ and_from (scalar c) (scalars (with_line_feeds cs)) both.0 more
    ]

-- ---- a text without CR

neither_of : (b c : Bool) → cond b true c ≡ false → (b ≡ false) × (c ≡ false)
neither_of true c h = absurd (true≢false h)
neither_of false c h = (refl, h)

feeds_none : (cs : List ℕ) → has_byte 13 cs ≡ false → with_line_feeds cs ≡ cs
unfolding with_line_feeds has_byte
feeds_none [] h = refl
feeds_none (c ∷ cs) h =
    let neither = neither_of (c == 13) (has_byte 13 cs) h in
    kept c cs neither.0 ∙ ap (λ z. c ∷ z) (feeds_none cs neither.1)

byte_append : (xs ys : List ℕ) → has_byte 13 (xs ++ ys) ≡ false → (has_byte 13 xs ≡ false) × (has_byte 13 ys ≡ false)
unfolding has_byte
byte_append [] ys h = (refl, h)
byte_append (x ∷ xs) ys h =
    let neither = neither_of (x == 13) (has_byte 13 (xs ++ ys)) h in
    let more = byte_append xs ys neither.1 in
    (ap (λ b. cond b true (has_byte 13 xs)) neither.0 ∙ more.0, more.1)

-- CR is one byte
no_return : (cs : List ℕ) → has_byte 13 (encodes cs) ≡ false → has_byte 13 cs ≡ false
unfolding has_byte
no_return [] h = refl
no_return (c ∷ cs) h =
    let parts = byte_append (encode_utf8 c) (encodes cs) h in
    elim (cases_Bool (c == 13)) [
      | inl y ↦ absurd (true≢false (sym (ap (has_byte 13) (ap encode_utf8 (eqb-true c 13 y) ∙ encode_ascii 13 (omega arith))) ∙ parts.0))
      | inr n ↦ ap (λ b. cond b true (has_byte 13 cs)) n ∙ no_return cs parts.1
    ]

-- it stays as it is
pub without_returns : (bs : List ℕ) → IsUtf8 bs → has_byte 13 bs ≡ false → encodes (with_line_feeds (chars bs)) ≡ bs
without_returns bs u h = ap encodes (feeds_none (chars bs) (no_return (chars bs) (ap (has_byte 13) (encodes-chars bs u) ∙ h))) ∙ encodes-chars bs u
