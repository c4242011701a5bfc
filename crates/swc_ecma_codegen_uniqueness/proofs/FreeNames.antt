-- A name that is no reserved word by its bytes is none by its characters.
use Rattle.std.proofs.Common.{◌≡◌, ℕ, Bool, true, false, ◌&&◌, ◌||◌, ◌==◌, not, cond, List, [], ◌∷◌, refl, sym, ap, ap₂, ◌∙◌}
use Rattle.std.specs.Prelude.{bytes_eq}
use Rattle.std.specs.Str.{chars, IsUtf8}
use Rattle.std.proofs.Math.Utf8.{encode, encodes}
use Rattle.std.proofs.lemmas.Bool.{and_parts, not-true}
use Rattle.std.proofs.lemmas.Bool.Decides.{same_from_decides}
use Rattle.std.proofs.lemmas.Slice.Eq.{bytes_eq-Decides}
use Rattle.std.proofs.lemmas.Str.{encodes-chars}
use Rattle.swc_ecma_codegen_grammar.specs.Names.{name_characters, name_value}
use Rattle.swc_ecma_codegen_grammar.specs.SpelledNames.{spelled_name}
use Rattle.swc_ecma_codegen_grammar.specs.ValidNames.{turned_after}
use Rattle.swc_ecma_codegen_grammar.specs.declared.names.Place.TheVariants.{Between, Escaped}
use Rattle.swc_ecma_codegen_syntax.specs.declared.parameters.Parameters.{Parameters}
use Rattle.swc_ecma_codegen_syntax.specs.NameForms.{is_one_of, statement_words, declaration_words, expression_words, is_reserved, is_free, has_no_escape}
use Rattle.swc_ecma_codegen_syntax.proofs.NameSigns.{characters_have_none}

-- ---- the characters of a name without escapes

value_of_none : (cs : List ℕ) → has_no_escape cs ≡ true → name_characters Between cs ≡ cs
unfolding has_no_escape name_characters
value_of_none [] h = refl
value_of_none (c ∷ cs) h =
    let p = and_parts (not (c == 92)) (has_no_escape cs) h in
    ap (λ b. cond b (name_characters Escaped cs) (c ∷ name_characters Between cs)) (not-true (c == 92) p.0) ∙ ap (λ ds. c ∷ ds) (value_of_none cs p.1)

turned_of_none : (bytes : List ℕ) → has_no_escape bytes ≡ true → turned_after false bytes ≡ bytes
unfolding has_no_escape turned_after
turned_of_none [] h = refl
turned_of_none (c ∷ cs) h =
    let p = and_parts (not (c == 92)) (has_no_escape cs) h in
    ap (λ b. c ∷ turned_after b cs) (not-true (c == 92) p.0) ∙ ap (λ ds. c ∷ ds) (turned_of_none cs p.1)

name_characters_are : (bytes : List ℕ) → IsUtf8 bytes → has_no_escape bytes ≡ true → name_value (spelled_name bytes) ≡ chars bytes
unfolding name_value spelled_name
name_characters_are bytes u h =
    ap (λ t. name_characters Between (chars t)) (turned_of_none bytes h)
    ∙ value_of_none (chars bytes) (characters_have_none (chars bytes) (ap has_no_escape (encodes-chars bytes u) ∙ h))

-- ---- words of ASCII

spelled_same : (bytes text : List ℕ) → IsUtf8 bytes → has_no_escape bytes ≡ true → encodes text ≡ text → chars text ≡ text → bytes_eq (name_value (spelled_name bytes)) text ≡ bytes_eq bytes text
spelled_same bytes text u h e k =
    let n = name_characters_are bytes u h in
    let here = bytes_eq-Decides bytes text in
    let there = bytes_eq-Decides (name_value (spelled_name bytes)) text in
    same_from_decides {P = bytes ≡ text} (bytes_eq (name_value (spelled_name bytes)) text) (bytes_eq bytes text)
    ((λ q. sym (encodes-chars bytes u) ∙ ap encodes (sym n ∙ there.0 q) ∙ e), (λ q. there.1 (n ∙ ap chars q ∙ k))) here

-- each is spelled by its own characters
abbrev all_spelled : List (List ℕ) → Bool
all_spelled [] = true
all_spelled (w ∷ ws) = bytes_eq (encodes w) w && (bytes_eq (chars w) w && all_spelled ws)

same_among : (bytes : List ℕ) (ws : List (List ℕ)) → IsUtf8 bytes → has_no_escape bytes ≡ true → all_spelled ws ≡ true → is_one_of ws (name_value (spelled_name bytes)) ≡ is_one_of ws bytes
unfolding is_one_of
same_among bytes [] u h a = refl
same_among bytes (w ∷ ws) u h a =
    let p = and_parts (bytes_eq (encodes w) w) (bytes_eq (chars w) w && all_spelled ws) a in
    let q = and_parts (bytes_eq (chars w) w) (all_spelled ws) p.1 in
    ap₂ (λ x y. x || y) (spelled_same bytes w u h ((bytes_eq-Decides (encodes w) w).0 p.0) ((bytes_eq-Decides (chars w) w).0 q.0)) (same_among bytes ws u h q.1)

statements_spelled : all_spelled statement_words ≡ true
unfolding encode chars
statements_spelled = refl

declarations_spelled : all_spelled declaration_words ≡ true
unfolding encode chars
declarations_spelled = refl

expressions_spelled : all_spelled expression_words ≡ true
unfolding encode chars
expressions_spelled = refl

same_reserved : (bytes : List ℕ) → IsUtf8 bytes → has_no_escape bytes ≡ true → is_reserved (name_value (spelled_name bytes)) ≡ is_reserved bytes
unfolding is_reserved
same_reserved bytes u h =
    ap₂ (λ x y. x || y) (same_among bytes statement_words u h statements_spelled)
    (ap₂ (λ x y. x || y) (same_among bytes declaration_words u h declarations_spelled) (same_among bytes expression_words u h expressions_spelled))

pub free_name : (c : Parameters) (bytes : List ℕ) → IsUtf8 bytes → is_free c bytes ≡ true → has_no_escape bytes ≡ true → is_reserved (name_value (spelled_name bytes)) ≡ false
unfolding is_free
free_name c bytes u f h = same_reserved bytes u h ∙ not-true (is_reserved bytes) (and_parts (not (is_reserved bytes)) _ f).0
