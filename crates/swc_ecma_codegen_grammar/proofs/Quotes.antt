-- Texts in quotes, as JSX has them: a string where the quote isn't in the text.
use Rattle.std.proofs.Common.{◌≡◌, ℕ, ◌+◌, ◌/◌, ◌%◌, ◌≤◌, ◌<◌, ◌==◌, Bool, true, false, cond, not, ◌&&◌, ◌||◌, List, [], ◌∷◌, ◌++◌, refl, sym, ap, ◌∙◌, inl, inr, arith, nat_lt}
use Rattle.std.specs.List.{list_any}
use Rattle.std.specs.Str.{chars, IsUtf8}
use Rattle.std.proofs.Math.Utf8.{encode, encodes}
use Rattle.std.proofs.lemmas.Bool.{cases_Bool, true≢false, eq-eqb}
use Rattle.std.proofs.lemmas.Bool.Decides.{nat_tests}
use Rattle.std.proofs.lemmas.Str.Ascii.{IsAscii-cons, IsAscii-nil}
use Rattle.std.proofs.lemmas.Str.{encodes-chars, encode_ascii, chars-append, chars-IsAscii, IsUtf8-from_ascii}
use Rattle.swc_ecma_codegen_grammar.specs.Chars.{is_quote}
use Rattle.swc_ecma_codegen_grammar.specs.Jsx.{ends_jsx_string, is_jsx_string}
use Rattle.swc_ecma_codegen_grammar.specs.JsxPhrases.{holds, jsx_quoted}
use Rattle.swc_ecma_codegen_grammar.specs.Texts.{is_empty}

-- a quote stands among the bytes of a text where it is one of its characters
differs : (q b : ℕ) → q < 128 → 128 ≤ b → (b == q) ≡ false
differs q b h k = grind (arith, nat_tests)

high : (k x : ℕ) → 128 ≤ k → 128 ≤ k + x
high k x h = omega arith

-- bytes from 128 on hold none
skips : (q b : ℕ) (rest : List ℕ) → q < 128 → 128 ≤ b → holds q (b ∷ rest) ≡ holds q rest
unfolding holds
skips q b rest h k = ap (λ z. z || list_any (λ c. c == q) rest) (differs q b h k)

many : (q : ℕ) (x y z : Bool) (u v n b2 b3 b4 c : ℕ) (rest : List ℕ) → x ≡ false → q < 128 → 128 ≤ b2 → 128 ≤ b3 → 128 ≤ b4 → 128 ≤ u → 128 ≤ v → 128 ≤ n → holds q (cond x (c ∷ []) (cond y (b2 ∷ n ∷ []) (cond z (b3 ∷ v ∷ n ∷ []) (b4 ∷ u ∷ v ∷ n ∷ []))) ++ rest) ≡ holds q rest
many q true y z u v n b2 b3 b4 c rest p h h2 h3 h4 hu hv hn = absurd (true≢false p)
many q false true z u v n b2 b3 b4 c rest p h h2 h3 h4 hu hv hn = skips q b2 _ h h2 ∙ skips q n rest h hn
many q false false true u v n b2 b3 b4 c rest p h h2 h3 h4 hu hv hn = skips q b3 _ h h3 ∙ skips q v _ h hv ∙ skips q n rest h hn
many q false false false u v n b2 b3 b4 c rest p h h2 h3 h4 hu hv hn = skips q b4 _ h h4 ∙ skips q u _ h hu ∙ skips q v _ h hv ∙ skips q n rest h hn

encoded : (q c : ℕ) (rest : List ℕ) → q < 128 → nat_lt c 128 ≡ false → holds q (encode c ++ rest) ≡ holds q rest
unfolding encode
encoded q c rest h p = many q _ _ _ (128 + (c / 4096) % 64) (128 + (c / 64) % 64) (128 + c % 64) (192 + c / 64) (224 + c / 4096) (240 + c / 262144) c rest p h (high 192 _ (omega arith)) (high 224 _ (omega arith)) (high 240 _ (omega arith)) (high 128 _ (omega arith)) (high 128 _ (omega arith)) (high 128 _ (omega arith))

held_encodes : (q : ℕ) (cs : List ℕ) → q < 128 → holds q (encodes cs) ≡ holds q cs
unfolding holds
held_encodes q [] h = refl
held_encodes q (c ∷ cs) h = elim (cases_Bool (nat_lt c 128)) [
  | inl low ↦
      let k : c < 128 = grind (arith, nat_tests) in
      ap (λ e. holds q (e ++ encodes cs)) (encode_ascii c k) ∙ ap (λ z. (c == q) || z) (held_encodes q cs h)
  | inr wide ↦
      let k : 128 ≤ c = grind (arith, nat_tests) in
      encoded q c (encodes cs) h wide ∙ held_encodes q cs h ∙ sym (ap (λ z. z || holds q cs) (differs q c h k))
]

pub held_by_characters : (q : ℕ) (bytes : List ℕ) → q < 128 → IsUtf8 bytes → holds q bytes ≡ holds q (chars bytes)
held_by_characters q bytes h u = ap (holds q) (sym (encodes-chars bytes u)) ∙ held_encodes q (chars bytes) h

never_empty : (cs : List ℕ) (q : ℕ) → is_empty (cs ++ q ∷ []) ≡ false
unfolding is_empty
never_empty [] q = refl
never_empty (c ∷ cs) q = refl

goes_on : (b e r h : Bool) → e ≡ false → r ≡ not h → cond b e r ≡ not (b || h)
goes_on true e r h p k = p
goes_on false e r h p k = k

-- a string ends at its quote where none stands before that
ends_at : (q : ℕ) (cs : List ℕ) → ends_jsx_string q (cs ++ q ∷ []) ≡ not (holds q cs)
unfolding ends_jsx_string holds is_empty
ends_at q [] = ap (λ b. cond b true false) (eq-eqb q q refl)
ends_at q (c ∷ cs) = goes_on (c == q) _ _ (holds q cs) (never_empty cs q) (ends_at q cs)

pub quote_utf8 : (q : ℕ) → q < 128 → IsUtf8 (q ∷ [])
quote_utf8 q h = IsUtf8-from_ascii (q ∷ []) (IsAscii-cons q [] h IsAscii-nil)

quoted_characters : (q : ℕ) (bytes : List ℕ) → q < 128 → IsUtf8 bytes → chars (q ∷ (bytes ++ q ∷ [])) ≡ q ∷ (chars bytes ++ q ∷ [])
quoted_characters q bytes h u =
    let one : chars (q ∷ []) ≡ q ∷ [] = chars-IsAscii (q ∷ []) (IsAscii-cons q [] h IsAscii-nil) in
    chars-append (q ∷ []) (bytes ++ q ∷ []) (quote_utf8 q h) ∙ ap (λ z. z ++ chars (bytes ++ q ∷ [])) one ∙ ap (λ z. q ∷ z) (chars-append bytes (q ∷ []) u ∙ ap (λ z. chars bytes ++ z) one)

quoted_is : (q : ℕ) (bytes : List ℕ) → is_quote q ≡ true → q < 128 → IsUtf8 bytes → is_jsx_string (chars (q ∷ (bytes ++ q ∷ []))) ≡ not (holds q bytes)
unfolding is_jsx_string
quoted_is q bytes k h u =
    ap is_jsx_string (quoted_characters q bytes h u) ∙ ap (λ b. b && ends_jsx_string q (chars bytes ++ q ∷ [])) k ∙ ends_at q (chars bytes) ∙ ap not (sym (held_by_characters q bytes h u))

by_quote : (b : Bool) (xs ys : List ℕ) (k : Bool) → is_jsx_string (chars xs) ≡ not k → is_jsx_string (chars ys) ≡ not b → is_jsx_string (chars (cond b xs ys)) ≡ not (b && k)
by_quote true xs ys k x y = x
by_quote false xs ys k x y = y

-- a value in quotes is a string where it lacks one of the two
pub quoted_string : (value : List ℕ) → IsUtf8 value → is_jsx_string (chars (jsx_quoted value)) ≡ not (holds 34 value && holds 39 value)
unfolding jsx_quoted is_quote
quoted_string value u = by_quote (holds 34 value) _ _ (holds 39 value) (quoted_is 39 value refl (omega arith) u) (quoted_is 34 value refl (omega arith) u)
