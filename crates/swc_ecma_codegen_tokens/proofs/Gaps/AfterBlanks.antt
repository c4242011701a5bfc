-- What may stand behind blanks, and first of all.
use Rattle.std.proofs.Common.{◌≡◌, ℕ, true, false, List, [], ◌∷◌, ◌++◌, codes, refl, sym, subst}
use Rattle.std.proofs.lemmas.Bool.{and_parts, true≢false}
use Rattle.swc_ecma_codegen_grammar.specs.declared.kinds.Kind.{Kind}
use Rattle.swc_ecma_codegen_grammar.specs.declared.kinds.Kind.TheVariants.{Word}
use Rattle.swc_ecma_codegen_grammar.specs.Trivia.{piece_text, pieces_text, all_pieces}
use Rattle.swc_ecma_codegen_grammar.specs.GapRules.{PreviousToken, Start, Separated, fuses, allows, mark_after, last_after, last_after_gap, holds_child}
use Rattle.swc_ecma_codegen_grammar.specs.Parts as parts
use Rattle.swc_ecma_codegen_grammar.specs.Parts.{Gap, Own, Joint, Break, NoneFuse}
use Rattle.swc_ecma_codegen_grammar.proofs.Reading.{blank_fuses}
use Rattle.swc_ecma_codegen_tokens.specs.Written.{is_indent, all_indent, is_free}
use Rattle.swc_ecma_codegen_tokens.proofs.Gaps.Indented.{blanks, indent_blank, blanks_pieces}

pub apart_alone : (t : List ℕ) → fuses Separated t ≡ false
unfolding fuses
apart_alone [] = refl
apart_alone (c ∷ n) = refl

pub start_alone : (t : List ℕ) → fuses Start t ≡ false
unfolding fuses
start_alone [] = refl
start_alone (c ∷ n) = refl

pub same_after : (x : Kind) (t : List ℕ) → last_after Separated x t ≡ last_after Start x t
unfolding last_after mark_after
same_after Word t = refl
same_after x t = refl

-- what may stand after a blank may stand first of all
first_of_all : (xs : List parts.Part) → NoneFuse Separated xs → NoneFuse Start xs
unfolding NoneFuse allows last_after_gap holds_child
first_of_all [] h = refl
first_of_all (Gap [] ∷ xs) h = (h.0, start_alone (pieces_text []), refl, first_of_all xs h.3)
first_of_all (Gap (p ∷ ps) ∷ xs) h = (h.0, start_alone (pieces_text (p ∷ ps)), refl, h.3)
first_of_all (Joint ∷ xs) h = first_of_all xs h
first_of_all (Break ∷ xs) h = (refl, first_of_all xs h.1, h.2)
first_of_all (Own x t ∷ xs) h = (h.0, start_alone t, record { child = λ e. absurd (true≢false (sym (h.2.child e))); first = λ e. refl }, refl, subst (λ k. NoneFuse k xs) (same_after x t) h.4)

pub free_apart : (k : PreviousToken) → is_free k ≡ true → (xs : List parts.Part) → NoneFuse Separated xs → NoneFuse k xs
unfolding is_free
free_apart Start e xs h = first_of_all xs h
free_apart Separated e xs h = h
free_apart k e xs h = absurd (true≢false (sym e))

pub nothing_fuses : (k : PreviousToken) → fuses k [] ≡ false
unfolding fuses
nothing_fuses k = refl

-- indentation before what may stand first, and nothing before what stands in a line
pub after_indent : (k : PreviousToken) (u : List ℕ) (xs : List parts.Part) → all_indent u ≡ true → is_free k ≡ true → ((t : List ℕ) → allows k t ≡ true) → NoneFuse Separated xs → NoneFuse k (Gap (blanks u) ∷ xs)
unfolding NoneFuse blanks last_after_gap pieces_text piece_text all_indent all_pieces
after_indent k [] xs h e a n = (refl, nothing_fuses k, a [], free_apart k e xs n)
after_indent k (c ∷ cs) xs h e a n =
    let p = and_parts (is_indent c) (all_indent cs) h in
    (blanks_pieces (c ∷ cs) h, blank_fuses k c (pieces_text (blanks cs)) (indent_blank c p.0), a (c ∷ pieces_text (blanks cs)), n)

pub in_a_line : (k : PreviousToken) (xs : List parts.Part) → ((t : List ℕ) → allows k t ≡ true) → NoneFuse k xs → NoneFuse k (Gap (blanks []) ∷ xs)
unfolding NoneFuse blanks last_after_gap pieces_text all_pieces
in_a_line k xs a n = (refl, nothing_fuses k, a [], n)

pub blank_apart : (k : PreviousToken) (u : List ℕ) (xs : List parts.Part) → all_indent (u ++ codes " ") ≡ true → ((t : List ℕ) → allows k t ≡ true) → NoneFuse Separated xs → NoneFuse k (Gap (blanks (u ++ codes " ")) ∷ xs)
unfolding NoneFuse blanks last_after_gap pieces_text piece_text all_indent
blank_apart k [] xs h a n =
    let p = and_parts (is_indent 32) (all_indent []) h in
    (blanks_pieces (codes " ") h, blank_fuses k 32 [] (indent_blank 32 p.0), a (codes " "), n)
blank_apart k (c ∷ cs) xs h a n =
    let p = and_parts (is_indent c) (all_indent (cs ++ codes " ")) h in
    (blanks_pieces (c ∷ (cs ++ codes " ")) h, blank_fuses k c (pieces_text (blanks (cs ++ codes " "))) (indent_blank c p.0), a (c ∷ pieces_text (blanks (cs ++ codes " "))), n)
