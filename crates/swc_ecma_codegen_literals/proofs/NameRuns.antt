-- A name in ASCII, run by run.
use Rattle.std.proofs.Common.{Bool, List, [], ap, append-nil, append_assoc, arith, drop, length, refl, sym, take, true, ℕ, ◌++◌, ◌<◌, ◌∙◌, ◌∷◌, ◌≡◌}
use Rattle.std.proofs.lemmas.Bool.{and_from, and_parts, lt-ltb, ltb-true}
use Rattle.std.proofs.lemmas.List.{nil_from_length, take-append-drop}
use Rattle.std.proofs.lemmas.Str.{chars-append, chars_past_char, encodes-IsAscii, encodes-chars}
use Rattle.std.specs.Char.{encode_utf8}
use Rattle.std.specs.List.{list_all}
use Rattle.std.specs.Str.{IsUtf8, chars}
use Rattle.swc_ecma_codegen_common.specs.declared.versions.EsVersion.{EsVersion}
use Rattle.swc_ecma_codegen_literals.specs.AsciiNames.{is_plain, name_escape, name_escapes}
use Rattle.swc_ecma_codegen_literals.proofs.EscapeTexts.{is_ascii_char}
use Rattle.swc_ecma_codegen_literals.proofs.SpelledTexts.{ascii_from_all}

escapes_append : (key : Bool) (v : EsVersion) (xs ys : List ℕ) → name_escapes key v (xs ++ ys) ≡ name_escapes key v xs ++ name_escapes key v ys
unfolding name_escapes
escapes_append key v [] ys = refl
escapes_append key v (x ∷ xs) ys = ap (λ t. name_escape key v x ++ t) (escapes_append key v xs ys) ∙ sym (append_assoc (name_escape key v x) (name_escapes key v xs) (name_escapes key v ys))

-- characters that stand for themselves
plain_escapes : (key : Bool) (v : EsVersion) (cs : List ℕ) → list_all is_plain cs ≡ true → name_escapes key v cs ≡ cs
unfolding name_escapes name_escape
plain_escapes key v [] h = refl
plain_escapes key v (c ∷ cs) h = let p = and_parts (is_plain c) (list_all is_plain cs) h in rw p.0 (ap (λ x. c ∷ x) (plain_escapes key v cs p.1))

plain_ascii : (cs : List ℕ) → list_all is_plain cs ≡ true → list_all is_ascii_char cs ≡ true
plain_ascii [] h = refl
plain_ascii (c ∷ cs) h =
    let p = and_parts (is_plain c) (list_all is_plain cs) h in
    let l : c < 127 = ltb-true c 127 p.0 in
    and_from (is_ascii_char c) (list_all is_ascii_char cs) (lt-ltb c 128 (omega (arith, l))) (plain_ascii cs p.1)

plain_chars : (run : List ℕ) → IsUtf8 run → list_all is_plain (chars run) ≡ true → chars run ≡ run
plain_chars run u h = sym (encodes-IsAscii (chars run) (ascii_from_all (chars run) (plain_ascii (chars run) h))) ∙ encodes-chars run u

-- one turn of the loop: a run and one more character
pub escapes_turn : (key : Bool) (v : EsVersion) (rest run after next : List ℕ) → rest ≡ run ++ after → IsUtf8 run → list_all is_plain (chars run) ≡ true → chars next ≡ drop 1 (chars after) →
    name_escapes key v (chars rest) ≡ run ++ (name_escapes key v (take 1 (chars after)) ++ name_escapes key v (chars next))
escapes_turn key v rest run after next e u h n =
    ap (λ x. name_escapes key v (chars x)) e ∙
    (ap (name_escapes key v) (chars-append run after u) ∙
    (escapes_append key v (chars run) (chars after) ∙
    (ap (λ x. x ++ name_escapes key v (chars after)) (plain_escapes key v (chars run) h ∙ plain_chars run u h) ∙
    (ap (λ x. run ++ name_escapes key v x) (sym (take-append-drop 1 (chars after))) ∙
    (ap (λ x. run ++ x) (escapes_append key v (take 1 (chars after)) (drop 1 (chars after))) ∙
    ap (λ x. run ++ (name_escapes key v (take 1 (chars after)) ++ name_escapes key v x)) (sym n))))))

-- the first character of a text that was read as characters
pub first_name : (key : Bool) (v : EsVersion) (text rest : List ℕ) (c : ℕ) → IsUtf8 text → text ≡ encode_utf8 c ++ rest → name_escape key v c ≡ name_escapes key v (take 1 (chars text))
unfolding name_escapes
first_name key v text rest c u e = rw (chars_past_char text rest c u e) (sym (append-nil (name_escape key v c)))

pub no_escapes : (key : Bool) (v : EsVersion) (text : List ℕ) → length text ≡ 0 → name_escapes key v (chars text) ≡ []
unfolding name_escapes chars
no_escapes key v text l = rw (nil_from_length text l) refl

pub no_name : (key : Bool) (v : EsVersion) (old text : List ℕ) → length text ≡ 0 → old ≡ old ++ name_escapes key v (take 1 (chars text))
unfolding name_escapes chars
no_name key v old text l = rw (nil_from_length text l) (sym (append-nil old))
