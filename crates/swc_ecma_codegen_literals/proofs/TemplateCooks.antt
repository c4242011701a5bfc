-- The text that is printed for a template has the cooked value of the raw one.
use Rattle.std.proofs.Common.{◌≡◌, ℕ, zero, suc, ◌+◌, ◌*◌, ◌<◌, ◌≤◌, Bool, true, false, ◌&&◌, ◌||◌, ◌==◌, List, [], ◌∷◌, ◌++◌, length, drop, nat_lt, nat_le, refl, sym, ap, ◌∙◌, subst, arith, inl, inr, if◌then◌else◌, codes, Option, Some, None, length-drop}
use Rattle.std.specs.Char.{digit_value}
use Rattle.std.proofs.lemmas.Bool.{cases_Bool, and_parts, ne_eqb, eq-eqb, eqb-true, false≢true}
use lib.Utf8.{scalars}
use Rattle.swc_ecma_codegen_grammar.specs.Chars.{is_digit, begins_digit}
use Rattle.swc_ecma_codegen_grammar.specs.Numbers.{is_hex}
use Rattle.swc_ecma_codegen_grammar.specs.Texts.{begins}
use Rattle.swc_ecma_codegen_grammar.specs.CodeUnits.{utf16}
use Rattle.swc_ecma_codegen_literals.specs.StringTexts.{is_unseen, hex_escape, unit_escape, braced_escape}
use Rattle.swc_ecma_codegen_grammar.specs.declared.units.Place.{Place}
use Rattle.swc_ecma_codegen_grammar.specs.declared.units.Place.TheVariants.{Between, Escaped, Due, Unicode, Braced, Octal, Continued}
use Rattle.swc_ecma_codegen_grammar.specs.StringValues.{before, single_escape}
use Rattle.swc_ecma_codegen_grammar.specs.TemplateValues.{cooked_rest, cooked_value}
use Rattle.swc_ecma_codegen_literals.specs.declared.templates.Piece.{Piece}
use Rattle.swc_ecma_codegen_literals.specs.declared.templates.Piece.TheVariants.{Bare, Backslashed, Hex, Gone}
use Rattle.swc_ecma_codegen_literals.specs.TemplateTexts.{first_piece, piece_more, pieces_after, pieces, bare_text, piece_text, dollar_after, spelled_pieces, template_text}
use Rattle.swc_ecma_codegen_literals.proofs.EscapeTexts.{chosen}
use Rattle.swc_ecma_codegen_literals.proofs.SpelledTexts.{scalar_bound}
use Rattle.swc_ecma_codegen_literals.proofs.StringUnits.{HexRange, Number, Upper, Lower, hex_range, scalars_rest}
use Rattle.swc_ecma_codegen_literals.proofs.TemplatePieces.{pieces_drop, plain_spelled, inner_plain, and_true}
use Rattle.swc_ecma_codegen_literals.proofs.TemplateReads.{has, rest_has, when, backslash, hex_cooks, bare_text_cooks, piece_cooks, Escape, Meant, raw_reads}
use Rattle.swc_ecma_codegen_literals.proofs.TemplateChars.{Fine, first_fine}

-- no `{` is written right after a bare `$`
no_brace_same : (c : ℕ) → (c == 123) ≡ false → (123 == c) ≡ false
no_brace_same c n = ne_eqb 123 c (λ e. false≢true (sym n ∙ eq-eqb c 123 (sym e)))

bare_brace : (a : Bool) (c : ℕ) (next t : List ℕ) → begins (123 ∷ []) (bare_text true a c next ++ t) ≡ false
unfolding bare_text begins hex_escape unit_escape braced_escape
bare_brace a c next t =
    let P : List ℕ → Type 0 = λ x. begins (123 ∷ []) (x ++ t) ≡ false in
    let itself : ((c == 123) && true) ≡ false → P (c ∷ []) = λ e. ap (λ b. b && true) (no_brace_same c (sym (and_true (c == 123)) ∙ e)) in
    chosen P (c == 0) _ _ (λ _. chosen P (begins_digit next) (codes "\\x00") (codes "\\0") (λ _. refl) (λ _. refl)) (λ _.
    chosen P (c == 8) _ _ (λ _. refl) (λ _.
    chosen P (c == 11) _ _ (λ _. refl) (λ _.
    chosen P (c == 12) _ _ (λ _. refl) (λ _.
    chosen P ((c == 123) && true) _ _ (λ _. refl) (λ e.
    chosen P (is_unseen c) _ _ (λ _. refl) (λ _.
    chosen P (nat_lt c 127) _ _ (λ _. itself e) (λ _.
    chosen P (nat_lt c 256) _ _ (λ _. refl) (λ _.
    chosen P a _ _ (λ _. refl) (λ _. itself e)))))))))

brace_after : (a : Bool) (ps : List Piece) → begins (123 ∷ []) (spelled_pieces true a ps) ≡ false
unfolding spelled_pieces piece_text dollar_after begins hex_escape
brace_after a [] = refl
brace_after a (Bare c ∷ ps) = bare_brace a c (spelled_pieces (c == 36) a ps) (spelled_pieces (c == 36) a ps)
brace_after a (Backslashed c ∷ ps) = refl
brace_after a (Hex v ∷ ps) = refl
brace_after a (Gone ∷ ps) = brace_after a ps

dollar_brace : (b a : Bool) (ps : List Piece) → (b && begins (123 ∷ []) (spelled_pieces b a ps)) ≡ false
dollar_brace true a ps = brace_after a ps
dollar_brace false a ps = refl

-- a piece as it is spelled stands for what it stands for
text_cooks : (d a : Bool) (p : Piece) (ps : List Piece) → Meant p → Fine p → cooked_rest Between (spelled_pieces d a (p ∷ ps)) ≡ piece_cooks p (spelled_pieces (dollar_after d p) a ps)
unfolding spelled_pieces piece_text dollar_after
text_cooks d a (Bare c) ps m f =
    let next = spelled_pieces (c == 36) a ps in
    bare_text_cooks d a c next next (scalar_bound c f) refl m.no_quote m.no_backslash m.no_return (dollar_brace (c == 36) a ps)
text_cooks d a (Backslashed c) ps m f = backslash (c ∷ spelled_pieces false a ps)
text_cooks d a (Hex v) ps m f = hex_cooks v (spelled_pieces false a ps) f
text_cooks d a Gone ps m f = refl

-- the places where a text may be read from its first piece on: between pieces, or in `\u`, where no `$` came before
abbrev Fits : Place → Bool → Type 0
Fits Between d = Unit {0}
Fits Escaped d = ⊥
Fits (Due n v) d = d ≡ false
Fits Unicode d = d ≡ false
Fits (Braced s v) d = d ≡ false
Fits (Octal m v) d = ⊥
Fits Continued d = ⊥

-- two texts that are read alike where the second has a value
abbrev Alike : Bool → List ℕ → List ℕ → Type 0
Alike d next rest = (place : Place) → Fits place d → has (cooked_rest place rest) ≡ true → cooked_rest place next ≡ cooked_rest place rest

-- a choice by the same test
both : (b : Bool) (x y z w : Option (List ℕ)) → has (if b then z else w) ≡ true → (b ≡ true → has z ≡ true → x ≡ z) → (b ≡ false → has w ≡ true → y ≡ w) → (if b then x else y) ≡ (if b then z else w)
both true x y z w h f g = f refl h
both false x y z w h f g = g refl h

-- an escape that is copied
abbrev escaped_as : ℕ → List ℕ → Option (List ℕ)
escaped_as c t =
    if c == 120 then cooked_rest (Due 2 0) t
    else if c == 117 then cooked_rest Unicode t
    else if is_digit c then None
    else if (c == 10) || ((c == 8232) || (c == 8233)) then cooked_rest Between t
    else before (utf16 (single_escape c)) (cooked_rest Between t)

escaped_is : (c : ℕ) (t : List ℕ) → Escape c → cooked_rest Escaped (c ∷ t) ≡ escaped_as c t
unfolding cooked_rest
escaped_is c t x = rw (x.no_zero, x.no_return) refl

escaped_alike : (c : ℕ) (next rest : List ℕ) → has (escaped_as c rest) ≡ true → Alike false next rest → escaped_as c next ≡ escaped_as c rest
escaped_alike c next rest h i =
    both (c == 120) _ _ _ _ h (λ _ k. i (Due 2 0) refl k) (λ _ h1.
    both (c == 117) _ _ _ _ h1 (λ _ k. i Unicode refl k) (λ _ h2.
    both (is_digit c) None _ None _ h2 (λ _ k. refl) (λ _ h3.
    both ((c == 10) || ((c == 8232) || (c == 8233))) _ _ _ _ h3 (λ _ k. i Between tt k) (λ _ k.
    ap (λ o. before (utf16 (single_escape c)) o) (i Between tt (rest_has (utf16 (single_escape c)) (cooked_rest Between rest) k))))))

kept_alike : (c : ℕ) (next rest : List ℕ) → Escape c → has (cooked_rest Escaped (c ∷ rest)) ≡ true → Alike false next rest → cooked_rest Escaped (c ∷ next) ≡ cooked_rest Escaped (c ∷ rest)
kept_alike c next rest x h i = escaped_is c next x ∙ (escaped_alike c next rest (ap has (sym (escaped_is c rest x)) ∙ h) i ∙ sym (escaped_is c rest x))

piece_alike : (d : Bool) (p : Piece) (next rest : List ℕ) → Meant p → has (piece_cooks p rest) ≡ true → Alike (dollar_after d p) next rest → piece_cooks p next ≡ piece_cooks p rest
unfolding dollar_after
piece_alike d (Bare c) next rest m h i = ap (λ o. before (utf16 c) o) (i Between tt (rest_has (utf16 c) (cooked_rest Between rest) h))
piece_alike d (Backslashed c) next rest m h i = kept_alike c next rest m h i
piece_alike d (Hex v) next rest m h i = ap (λ o. before (v ∷ []) o) (i Between tt (rest_has (v ∷ []) (cooked_rest Between rest) h))
piece_alike d Gone next rest m h i = i Between tt h

between_turn : (d a : Bool) (c : ℕ) (cs : List ℕ) → scalars (c ∷ cs) ≡ true → has (cooked_rest Between (c ∷ cs)) ≡ true →
    Alike (dollar_after d (first_piece c cs)) (spelled_pieces (dollar_after d (first_piece c cs)) a (pieces (drop (piece_more c cs) cs))) (drop (piece_more c cs) cs) →
    cooked_rest Between (spelled_pieces d a (pieces (c ∷ cs))) ≡ cooked_rest Between (c ∷ cs)
unfolding pieces_after
between_turn d a c cs s h i =
    let r = raw_reads c cs h in
    let p = first_piece c cs in
    let rest = drop (piece_more c cs) cs in
    let next = spelled_pieces (dollar_after d p) a (pieces_after 0 rest) in
    ap (λ x. cooked_rest Between (spelled_pieces d a (first_piece c cs ∷ x))) (pieces_drop (piece_more c cs) cs) ∙
    (text_cooks d a p (pieces_after 0 rest) r.meant (first_fine c cs s) ∙
    (piece_alike d p next rest r.meant (ap has (sym r.is_read) ∙ h) i ∙ sym r.is_read))

-- the characters of `\u` and what follows it: digits, letters and braces
pub record Inside (c : ℕ) : Type 0 where
  pub low : 48 ≤ c
  pub high : c < 127
  pub no_backslash : c ≡ 92 → ⊥
  pub no_quote : c ≡ 96 → ⊥

hex_inside : (c : ℕ) → is_hex c ≡ true → Inside c
hex_inside c h = by_range (hex_range c h)
  where
    by_range : HexRange c → Inside c
    by_range (Number l g) = record { low = omega arith; high = omega arith; no_backslash = λ e. omega arith; no_quote = λ e. omega arith }
    by_range (Upper l g) = record { low = omega arith; high = omega arith; no_backslash = λ e. omega arith; no_quote = λ e. omega arith }
    by_range (Lower l g) = record { low = omega arith; high = omega arith; no_backslash = λ e. omega arith; no_quote = λ e. omega arith }

opening_inside : Inside 123
opening_inside = record { low = omega arith; high = omega arith; no_backslash = λ e. omega (arith, e); no_quote = λ e. omega (arith, e) }

closing_inside : Inside 125
closing_inside = record { low = omega arith; high = omega arith; no_backslash = λ e. omega (arith, e); no_quote = λ e. omega (arith, e) }

abbrev pub is_inner : Place → Bool
is_inner Between = false
is_inner Escaped = false
is_inner (Due n v) = true
is_inner Unicode = true
is_inner (Braced s v) = true
is_inner (Octal m v) = false
is_inner Continued = false

pub inner_char : (place : Place) (c : ℕ) (cs : List ℕ) → is_inner place ≡ true → has (cooked_rest place (c ∷ cs)) ≡ true → Inside c
unfolding cooked_rest
inner_char Between c cs p h = absurd (false≢true p)
inner_char Escaped c cs p h = absurd (false≢true p)
inner_char (Due zero v) c cs p h = absurd (false≢true h)
inner_char (Due (suc zero) v) c cs p h = hex_inside c (when (is_hex c) (before ((v * 16 + digit_value c) ∷ []) (cooked_rest Between cs)) h).0
inner_char (Due (suc (suc n)) v) c cs p h = hex_inside c (when (is_hex c) (cooked_rest (Due (suc n) (v * 16 + digit_value c)) cs) h).0
inner_char Unicode c cs p h = elim (cases_Bool (c == 123)) [
  | inl y ↦ subst Inside (sym (eqb-true c 123 y)) opening_inside
  | inr n ↦ hex_inside c (when (is_hex c) (cooked_rest (Due 3 (digit_value c)) cs) (rw n at h)).0
]
inner_char (Braced s v) c cs p h = elim (cases_Bool (is_hex c)) [
  | inl y ↦ hex_inside c y
  | inr n ↦ subst Inside (sym (eqb-true c 125 (and_parts (c == 125) (s && nat_le v 1114111) (when ((c == 125) && (s && nat_le v 1114111)) (before (utf16 v) (cooked_rest Between cs)) (rw n at h)).0).0)) closing_inside
]
inner_char (Octal m v) c cs p h = absurd (false≢true p)
inner_char Continued c cs p h = absurd (false≢true p)

inner_alike : (place : Place) (c : ℕ) (next rest : List ℕ) → is_inner place ≡ true → has (cooked_rest place (c ∷ rest)) ≡ true → Alike false next rest → cooked_rest place (c ∷ next) ≡ cooked_rest place (c ∷ rest)
unfolding cooked_rest
inner_alike Between c next rest p h i = absurd (false≢true p)
inner_alike Escaped c next rest p h i = absurd (false≢true p)
inner_alike (Due zero v) c next rest p h i = refl
inner_alike (Due (suc zero) v) c next rest p h i =
    both (is_hex c) _ None _ None h (λ _ k. ap (λ o. before ((v * 16 + digit_value c) ∷ []) o) (i Between tt (rest_has ((v * 16 + digit_value c) ∷ []) (cooked_rest Between rest) k))) (λ _ k. refl)
inner_alike (Due (suc (suc n)) v) c next rest p h i =
    both (is_hex c) _ None _ None h (λ _ k. i (Due (suc n) (v * 16 + digit_value c)) refl k) (λ _ k. refl)
inner_alike Unicode c next rest p h i =
    both (c == 123) _ _ _ _ h (λ _ k. i (Braced false 0) refl k) (λ _ h1.
    both (is_hex c) _ None _ None h1 (λ _ k. i (Due 3 (digit_value c)) refl k) (λ _ k. refl))
inner_alike (Braced s v) c next rest p h i =
    both (is_hex c) _ _ _ _ h (λ _ k. i (Braced true (v * 16 + digit_value c)) refl k) (λ _ h1.
    both ((c == 125) && (s && nat_le v 1114111)) _ None _ None h1 (λ _ k. ap (λ o. before (utf16 v) o) (i Between tt (rest_has (utf16 v) (cooked_rest Between rest) k))) (λ _ k. refl))
inner_alike (Octal m v) c next rest p h i = absurd (false≢true p)
inner_alike Continued c next rest p h i = absurd (false≢true p)

inner_turn : (place : Place) (d a : Bool) (c : ℕ) (cs : List ℕ) → is_inner place ≡ true → d ≡ false → has (cooked_rest place (c ∷ cs)) ≡ true → Alike false (spelled_pieces false a (pieces cs)) cs →
    cooked_rest place (spelled_pieces d a (pieces (c ∷ cs))) ≡ cooked_rest place (c ∷ cs)
inner_turn place d a c cs p e h i =
    let x = inner_char place c cs p h in
    ap (λ b. cooked_rest place (spelled_pieces b a (pieces (c ∷ cs)))) e ∙
    (ap (λ t. cooked_rest place t) (plain_spelled (inner_plain a c x.low x.high x.no_backslash) cs) ∙
    inner_alike place c (spelled_pieces false a (pieces cs)) cs p h i)

none_alike : (place : Place) (d a : Bool) → cooked_rest place (spelled_pieces d a (pieces [])) ≡ cooked_rest place []
unfolding spelled_pieces pieces_after
none_alike place d a = refl

scalars_drop : (k : ℕ) (cs : List ℕ) → scalars cs ≡ true → scalars (drop k cs) ≡ true
scalars_drop zero cs s = s
scalars_drop (suc k) [] s = refl
scalars_drop (suc k) (c ∷ cs) s = scalars_drop k cs (scalars_rest c cs s)

drop_le : (n k c : ℕ) (cs : List ℕ) → length (c ∷ cs) ≤ suc n → length (drop k cs) ≤ n
drop_le n k c cs l = let e = length-drop k cs in omega (arith, l, e)

tail_le : (n c : ℕ) (cs : List ℕ) → length (c ∷ cs) ≤ suc n → length cs ≤ n
tail_le n c cs l = omega (arith, l)

alike : (n : ℕ) (place : Place) (d a : Bool) (raw : List ℕ) → length raw ≤ n → scalars raw ≡ true → Fits place d → has (cooked_rest place raw) ≡ true →
    cooked_rest place (spelled_pieces d a (pieces raw)) ≡ cooked_rest place raw
alike n place d a [] l s f h = none_alike place d a
alike zero place d a (c ∷ cs) l s f h = absurd (omega (arith, l))
alike (suc n) Between d a (c ∷ cs) l s f h =
    between_turn d a c cs s h (λ place g k. alike n place (dollar_after d (first_piece c cs)) a (drop (piece_more c cs) cs) (drop_le n (piece_more c cs) c cs l) (scalars_drop (piece_more c cs) cs (scalars_rest c cs s)) g k)
alike (suc n) Escaped d a (c ∷ cs) l s f h = absurd f
alike (suc n) (Due m v) d a (c ∷ cs) l s f h = inner_turn (Due m v) d a c cs refl f h (λ place g k. alike n place false a cs (tail_le n c cs l) (scalars_rest c cs s) g k)
alike (suc n) Unicode d a (c ∷ cs) l s f h = inner_turn Unicode d a c cs refl f h (λ place g k. alike n place false a cs (tail_le n c cs l) (scalars_rest c cs s) g k)
alike (suc n) (Braced b v) d a (c ∷ cs) l s f h = inner_turn (Braced b v) d a c cs refl f h (λ place g k. alike n place false a cs (tail_le n c cs l) (scalars_rest c cs s) g k)
alike (suc n) (Octal m v) d a (c ∷ cs) l s f h = absurd f
alike (suc n) Continued d a (c ∷ cs) l s f h = absurd f

pub text_value : (a : Bool) (raw units : List ℕ) → scalars raw ≡ true → cooked_value raw ≡ Some units → cooked_value (template_text a raw) ≡ Some units
unfolding template_text
text_value a raw units s e = alike (length raw) Between false a raw (omega arith) s tt (ap has e) ∙ e
