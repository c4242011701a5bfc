-- A spelled text, run by run.
use Rattle.std.proofs.Common.{◌≡◌, ℕ, zero, suc, ◌+◌, ◌-◌, ◌<◌, Bool, true, false, List, [], ◌∷◌, ◌++◌, length, drop, refl, sym, ap, ◌∙◌, arith, append-nil, append_assoc, inl, inr, slice_index}
use Rattle.std.specs.Char.{encode_utf8}
use Rattle.std.specs.List.{list_all}
use Rattle.std.specs.Str.{chars, IsUtf8, IsAscii}
use Rattle.std.proofs.lemmas.Bool.{and_parts, ltb-true}
use Rattle.std.proofs.lemmas.Str.{encodes-append, encodes-chars, chars-append, encodes-IsAscii, scalars-chars, chars_past_char}
use Rattle.std.proofs.lemmas.List.{nil_from_length}
use lib.Utf8.{encodes, scalars, scalar, scalar_cases}
use Rattle.swc_ecma_codegen_common.specs.declared.versions.EsVersion.{EsVersion}
use Rattle.swc_ecma_codegen_literals.specs.StringTexts.{stands, escape_text, spelled, spelled_all, first_escape, quoted_text, quote_of}
use Rattle.swc_ecma_codegen_literals.proofs.EscapeTexts.{is_ascii_char, escape_text_ascii}

pub spelled_run : (q : ℕ) (a : Bool) (v : EsVersion) (run rest : List ℕ) → list_all (stands q a v) run ≡ true → spelled_all q a v (run ++ rest) ≡ run ++ spelled_all q a v rest
unfolding spelled_all spelled
spelled_run q a v [] rest h = refl
spelled_run q a v (c ∷ cs) rest h = let p = and_parts (stands q a v c) (list_all (stands q a v) cs) h in rw p.0 (ap (λ x. c ∷ x) (spelled_run q a v cs rest p.1))

pub scalar_bound : (c : ℕ) → scalar c ≡ true → c < 1114112
scalar_bound c s = elim (scalar_cases c s) [ inl l ↦ omega (arith, l) | inr g ↦ g.1 ]

pub ascii_from_all : (t : List ℕ) → list_all is_ascii_char t ≡ true → IsAscii t
ascii_from_all [] h i = omega arith
ascii_from_all (c ∷ cs) h i = ascii_at c cs (and_parts (is_ascii_char c) (list_all is_ascii_char cs) h) (λ j. ascii_from_all cs (and_parts (is_ascii_char c) (list_all is_ascii_char cs) h).1 j) i
  where
    ascii_at : (c : ℕ) (cs : List ℕ) → (is_ascii_char c ≡ true) × (list_all is_ascii_char cs ≡ true) → ((j : ℕ) → slice_index cs j < 128) → (i : ℕ) → slice_index (c ∷ cs) i < 128
    ascii_at c cs p r zero = ltb-true c 128 p.0
    ascii_at c cs p r (suc i) = r i

-- the first character has an escape
spelled_first : (q : ℕ) (a : Bool) (v : EsVersion) (cs : List ℕ) → scalars cs ≡ true → ((c : ℕ) (rest : List ℕ) → cs ≡ c ∷ rest → stands q a v c ≡ false) → encodes (spelled_all q a v cs) ≡ first_escape v cs ++ encodes (spelled_all q a v (drop 1 cs))
unfolding spelled_all spelled first_escape
spelled_first q a v [] u h = refl
spelled_first q a v (c ∷ cs) u h =
    let s = and_parts (scalar c) (scalars cs) u in
    let e = escape_text v c cs in
    let ascii : IsAscii e = ascii_from_all e (escape_text_ascii v c cs (scalar_bound c s.0)) in
    rw (h c cs refl) (encodes-append e (spelled_all q a v cs) ∙ ap (λ x. x ++ encodes (spelled_all q a v cs)) (encodes-IsAscii e ascii))

-- one turn of the loop: a run and an escape
pub spelled_turn : (q : ℕ) (a : Bool) (v : EsVersion) (rest run after next : List ℕ) → rest ≡ run ++ after → IsUtf8 run → IsUtf8 after → list_all (stands q a v) (chars run) ≡ true →
    ((c : ℕ) (cs : List ℕ) → chars after ≡ c ∷ cs → stands q a v c ≡ false) → chars next ≡ drop 1 (chars after) →
    encodes (spelled_all q a v (chars rest)) ≡ run ++ (first_escape v (chars after) ++ encodes (spelled_all q a v (chars next)))
spelled_turn q a v rest run after next e u w h s n =
    ap (λ x. encodes (spelled_all q a v (chars x))) e ∙
    (ap (λ x. encodes (spelled_all q a v x)) (chars-append run after u) ∙
    (ap encodes (spelled_run q a v (chars run) (chars after) h) ∙
    (encodes-append (chars run) (spelled_all q a v (chars after)) ∙
    (ap (λ x. x ++ encodes (spelled_all q a v (chars after))) (encodes-chars run u) ∙
    (ap (λ x. run ++ x) (spelled_first q a v (chars after) (scalars-chars after w) s) ∙
    ap (λ x. run ++ (first_escape v (chars after) ++ encodes (spelled_all q a v x))) (sym n))))))

pub loop_turn : (now mid old run first tail whole all : List ℕ) → mid ≡ old ++ run → now ≡ mid ++ first → whole ≡ run ++ (first ++ tail) → old ++ whole ≡ all → now ++ tail ≡ all
loop_turn now mid old run first tail whole all m n w i = rw (n, m, append_assoc, append_assoc, ← w) i

-- the first character of a text that was read as characters
pub escape_first : (v : EsVersion) (text rest next : List ℕ) (c : ℕ) → IsUtf8 text → text ≡ encode_utf8 c ++ rest → next ≡ rest → escape_text v c (chars next) ≡ first_escape v (chars text)
unfolding first_escape
escape_first v text rest next c u e n = rw (chars_past_char text rest c u e, n) refl

pub rest_first : (text rest next : List ℕ) (c : ℕ) → IsUtf8 text → text ≡ encode_utf8 c ++ rest → next ≡ rest → chars next ≡ drop 1 (chars text)
rest_first text rest next c u e n = rw (chars_past_char text rest c u e, n) refl

pub no_escape : (v : EsVersion) (old text : List ℕ) → length text ≡ 0 → old ≡ old ++ first_escape v (chars text)
unfolding first_escape chars
no_escape v old text l = rw (nil_from_length text l) (sym (append-nil old))

pub nothing_left : (q : ℕ) (a : Bool) (v : EsVersion) (rest : List ℕ) → length rest ≡ 0 → encodes (spelled_all q a v (chars rest)) ≡ []
unfolding spelled_all chars
nothing_left q a v rest l = rw (nil_from_length rest l) refl

-- the quotes round a spelled text
pub quoted : (a : Bool) (v : EsVersion) (text : List ℕ) (q : ℕ) (first second third : List ℕ) → q ≡ quote_of text → first ≡ [] ++ encode_utf8 q → second ≡ first ++ encodes (spelled_all q a v text) → third ≡ second ++ encode_utf8 q → third ≡ encodes (quoted_text a v text)
unfolding quoted_text
quoted a v text q first second third e f s t =
    let whole : third ≡ encode_utf8 q ++ (encodes (spelled_all q a v text) ++ encode_utf8 q) = t ∙ rw (s, f, append_assoc) refl in
    let parts : encodes (spelled_all q a v text ++ q ∷ []) ≡ encodes (spelled_all q a v text) ++ encode_utf8 q = encodes-append (spelled_all q a v text) (q ∷ []) ∙ ap (λ x. encodes (spelled_all q a v text) ++ x) (append-nil (encode_utf8 q)) in
    whole ∙ (ap (λ x. encode_utf8 q ++ x) (sym parts) ∙ ap (λ x. encodes (x ∷ (spelled_all x a v text ++ x ∷ []))) e)
