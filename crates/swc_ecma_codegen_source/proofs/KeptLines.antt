-- Lists that keep their lines have line ends where their source text has some.
use Rattle.std.proofs.Common.{◌≡◌, ◌∙◌, ℕ, ◌-◌, ◌<◌, ◌≤◌, Bool, true, false, ◌&&◌, ◌||◌, not, cond, eqb, List, length, Some, None, ap, refl, arith}
use Rattle.std.proofs.lemmas.Bool.{and_from, and_parts, le-leb, not-true}
use Rattle.std.proofs.lemmas.Bool.Decides.{nat_tests}
use Rattle.swc_ecma_codegen_common.specs.declared.positions.BytePos.{BytePos}
use Rattle.swc_ecma_codegen_common.specs.declared.positions.Span.{Span}
use Rattle.swc_ecma_codegen_grammar.specs.ListFormats.{apart, leading_line, separating_line, closing_line, line_before_child, line_after_last, multi_line, no_trailing_new_line, preserves_lines}
use Rattle.swc_ecma_codegen_source.specs.SourceTexts.{lines_of, place_of, share_line, IsIn, is_broken, keeps_lines}

placed : (text : List ℕ) (first : ℕ) (pos : BytePos) → IsIn text first pos → place_of text first pos ≡ Some (pos.0 - first)
unfolding place_of
placed text first pos h =
    let within : pos.0 - first ≤ length text = omega (arith, h.0, h.1) in
    ap (λ b. cond b (Some (pos.0 - first)) None) (and_from _ _ (le-leb first pos.0 h.0) (le-leb (pos.0 - first) (length text) within))

not_none : (n : ℕ) → 0 < n → not (eqb n 0) ≡ true
not_none n h = grind (arith, nat_tests)

not_not : (b : Bool) → not (not b) ≡ b
not_not true = refl
not_not false = refl

-- two positions in the text are apart where a line end stands between them
apart_in : (text : List ℕ) (first : ℕ) (left right : BytePos) → IsIn text first left → IsIn text first right → apart (lines_of text first) left right ≡ is_broken text first left right
unfolding lines_of share_line is_broken
apart_in text first left right h k =
    ap (λ b. b && not (eqb right.0 0) && not (share_line text (place_of text first left) (place_of text first right))) (not_none left.0 h.2)
    ∙ (ap (λ b. true && b && not (share_line text (place_of text first left) (place_of text first right))) (not_none right.0 k.2)
    ∙ (ap (λ place. not (share_line text place (place_of text first right))) (placed text first left h)
    ∙ (ap (λ place. not (share_line text (Some (left.0 - first)) place)) (placed text first right k)
    ∙ not_not (is_broken text first left right))))

before_by : (format : ℕ) (b : Bool) → keeps_lines format ≡ true → line_before_child format b ≡ b
before_by format b h =
    let p = and_parts (preserves_lines format) (not (multi_line format)) h in
    ap (λ z. z || (preserves_lines format && b)) (not-true (multi_line format) p.1) ∙ ap (λ z. z && b) p.0

after_by : (format : ℕ) (b : Bool) → keeps_lines format ≡ true → line_after_last format b ≡ b
after_by format b h =
    let p = and_parts (preserves_lines format) (not (multi_line format)) h in
    ap (λ z. cond z (not (no_trailing_new_line format)) (preserves_lines format && b)) (not-true (multi_line format) p.1) ∙ ap (λ z. z && b) p.0

pub leading_kept : (text : List ℕ) (first format : ℕ) (parent child : Span) → keeps_lines format ≡ true → IsIn text first parent.lo → IsIn text first child.lo → leading_line (lines_of text first) format parent child ≡ is_broken text first parent.lo child.lo
leading_kept text first format parent child keeps h k = before_by format _ keeps ∙ apart_in text first parent.lo child.lo h k

pub separating_kept : (text : List ℕ) (first format : ℕ) (previous next : Span) → keeps_lines format ≡ true → IsIn text first previous.hi → IsIn text first next.lo → separating_line (lines_of text first) format previous next ≡ is_broken text first previous.hi next.lo
separating_kept text first format previous next keeps h k = before_by format _ keeps ∙ apart_in text first previous.hi next.lo h k

pub closing_kept : (text : List ℕ) (first format : ℕ) (parent last : Span) → keeps_lines format ≡ true → IsIn text first last.hi → IsIn text first parent.hi → closing_line (lines_of text first) format parent last ≡ is_broken text first last.hi parent.hi
closing_kept text first format parent last keeps h k = after_by format _ keeps ∙ apart_in text first last.hi parent.hi h k
