-- A text each character of which stands for itself between `"`: its literal is the text between `"`.
use Rattle.std.proofs.Common.{◌≡◌, ℕ, Bool, true, false, not, ◌&&◌, ◌||◌, ◌==◌, List, [], ◌∷◌, ◌++◌, refl, sym, ap, ◌∙◌, arith, append-nil, count_by, nat_lt, nat_le}
use Rattle.std.specs.List.{list_all}
use Rattle.std.specs.Str.{chars, IsUtf8}
use Rattle.std.proofs.lemmas.Bool.{and_parts, and_from, ne_eqb, lt-ltb, le-ltb, ltb-true, false≢true}
use Rattle.std.proofs.lemmas.Str.{chars-IsAscii, encodes-append, encodes-chars}
use lib.Utf8.{encodes}
use Rattle.swc_ecma_codegen_common.specs.declared.versions.EsVersion.{EsVersion}
use Rattle.swc_ecma_codegen_literals.specs.StringTexts.{stands, is_plain_ascii, spelled_all, quote_of, quoted_text}
use Rattle.swc_ecma_codegen_literals.proofs.EscapeTexts.{is_ascii_char}
use Rattle.swc_ecma_codegen_literals.proofs.SpelledTexts.{spelled_run, ascii_from_all}

quote_never_stands : (a : Bool) (v : EsVersion) → stands 34 a v 34 ≡ false
unfolding stands
quote_never_stands a v = refl

no_quote : (a : Bool) (v : EsVersion) (c : ℕ) → stands 34 a v c ≡ true → (c == 34) ≡ false
no_quote a v c h = ne_eqb c 34 (λ e. false≢true (sym (quote_never_stands a v) ∙ (ap (λ x. stands 34 a v x) (sym e) ∙ h)))

no_quotes : (a : Bool) (v : EsVersion) (cs : List ℕ) → list_all (stands 34 a v) cs ≡ true → count_by (λ c. c == 34) cs ≡ 0
no_quotes a v [] h = refl
no_quotes a v (c ∷ cs) h = let p = and_parts (stands 34 a v c) (list_all (stands 34 a v) cs) h in rw (no_quote a v c p.0) (no_quotes a v cs p.1)

plain_quote : (a : Bool) (v : EsVersion) (cs : List ℕ) → list_all (stands 34 a v) cs ≡ true → quote_of cs ≡ 34
unfolding quote_of
plain_quote a v cs h = rw (no_quotes a v cs h, le-ltb (count_by (λ c. c == 39) cs) 0 (omega arith)) refl

plain_spelled : (a : Bool) (v : EsVersion) (cs : List ℕ) → list_all (stands 34 a v) cs ≡ true → spelled_all 34 a v cs ≡ cs
unfolding spelled_all
plain_spelled a v cs h = ap (λ x. spelled_all 34 a v x) (sym (append-nil cs)) ∙ (spelled_run 34 a v cs [] h ∙ append-nil cs)

plain_text : (a : Bool) (v : EsVersion) (cs : List ℕ) → list_all (stands 34 a v) cs ≡ true → quoted_text a v cs ≡ 34 ∷ (cs ++ 34 ∷ [])
unfolding quoted_text
plain_text a v cs h = rw (plain_quote a v cs h, plain_spelled a v cs h) refl

-- printable ASCII stands for itself in each style
plain_parts : (c : ℕ) → is_plain_ascii c ≡ true → (nat_le 32 c ≡ true) × (nat_lt c 127 ≡ true) × (not ((c == 34) || (c == 92)) ≡ true)
unfolding is_plain_ascii
plain_parts c h =
    let p = and_parts (nat_le 32 c) (nat_lt c 127 && not ((c == 34) || (c == 92))) h in
    let s = and_parts (nat_lt c 127) (not ((c == 34) || (c == 92))) p.1 in
    (p.0, s.0, s.1)

plain_small : (c : ℕ) → is_plain_ascii c ≡ true → is_ascii_char c ≡ true
plain_small c h = let l = ltb-true c 127 (plain_parts c h).1 in lt-ltb c 128 (omega arith)

plain_stands : (a : Bool) (v : EsVersion) (c : ℕ) → is_plain_ascii c ≡ true → stands 34 a v c ≡ true
unfolding stands
plain_stands a v c h = let p = plain_parts c h in rw (p.1, p.0, p.2) refl

all_weaker : (p q : ℕ → Bool) → ((c : ℕ) → p c ≡ true → q c ≡ true) → (cs : List ℕ) → list_all p cs ≡ true → list_all q cs ≡ true
all_weaker p q w [] h = refl
all_weaker p q w (c ∷ cs) h = let s = and_parts (p c) (list_all p cs) h in and_from (q c) (list_all q cs) (w c s.0) (all_weaker p q w cs s.1)

pub plain_ascii : (a : Bool) (v : EsVersion) (text : List ℕ) → list_all is_plain_ascii text ≡ true → list_all (stands 34 a v) (chars text) ≡ true
plain_ascii a v text h =
    let ascii = ascii_from_all text (all_weaker is_plain_ascii is_ascii_char plain_small text h) in
    ap (λ t. list_all (stands 34 a v) t) (chars-IsAscii text ascii) ∙ all_weaker is_plain_ascii (stands 34 a v) (plain_stands a v) text h

-- the literal as bytes
pub plain_literal : (a : Bool) (v : EsVersion) (text literal : List ℕ) → IsUtf8 text → list_all (stands 34 a v) (chars text) ≡ true → literal ≡ 34 ∷ (text ++ 34 ∷ []) → literal ≡ encodes (quoted_text a v (chars text))
unfolding lib.Utf8.encode
plain_literal a v text literal u h e =
    let bytes : encodes (chars text ++ 34 ∷ []) ≡ text ++ 34 ∷ [] = encodes-append (chars text) (34 ∷ []) ∙ ap (λ x. x ++ 34 ∷ []) (encodes-chars text u) in
    e ∙ sym (ap encodes (plain_text a v (chars text) h) ∙ ap (λ x. 34 ∷ x) bytes)
