-- The lines of a list depend on where its children stand only as far as they ask for that.
use Rattle.std.proofs.Common.{◌≡◌, ◌∙◌, ℕ, true, false, ◌&&◌, ◌||◌, not, cond, List, [], ◌∷◌, refl, sym, ap, inl, inr}
use Rattle.std.proofs.lemmas.Bool.{cases_Bool}
use Rattle.swc_ecma_codegen_common.specs.declared.positions.Span.{Span}
use Rattle.swc_ecma_codegen_spans.specs.Spans.{dummy_span}
use Rattle.swc_ecma_codegen_grammar.specs.ListFormats.{multi_line, preserves_lines, no_trailing_new_line, apart, leading_line, separating_line, closing_line}
use Rattle.swc_ecma_codegen_grammar.specs.SourceLines.{Lines}
use Rattle.swc_ecma_codegen_tokens.specs.Run.{Plan}
use Rattle.swc_ecma_codegen_tokens.specs.Lists.{ListChild, by_lines, trailing_comma, closing, next_child_after, next_child, more_children, last_place, list_closing, list_after}
use Rattle.swc_ecma_codegen_emit.specs.Lists.{as_asked}

-- what is asked for again
pub asked_again : (format : ℕ) (place : Span) → as_asked format (as_asked format place) ≡ as_asked format place
unfolding as_asked
asked_again format place = elim (preserves_lines format) as (λ b. cond b (cond b place dummy_span) dummy_span ≡ cond b place dummy_span) [ true ↦ refl | false ↦ refl ]

-- the place itself, where the lines of the source text are kept
kept : (format : ℕ) (place : Span) → preserves_lines format ≡ true → as_asked format place ≡ place
unfolding as_asked
kept format place e = ap (λ b. cond b place dummy_span) e

same_place : (format : ℕ) (a b : Span) → preserves_lines format ≡ true → as_asked format a ≡ as_asked format b → a ≡ b
same_place format a b e h = sym (kept format a e) ∙ h ∙ kept format b e

-- ---- where a line ends

first_apart : (lines : Lines) (format : ℕ) (parent a b : Span) → preserves_lines format ≡ false → leading_line lines format parent a ≡ leading_line lines format parent b
first_apart lines format parent a b e =
    ap (λ z. multi_line format || (z && apart lines parent.lo a.lo)) e ∙ sym (ap (λ z. multi_line format || (z && apart lines parent.lo b.lo)) e)

both_apart : (lines : Lines) (format : ℕ) (s t a b : Span) → preserves_lines format ≡ false → separating_line lines format s a ≡ separating_line lines format t b
both_apart lines format s t a b e =
    ap (λ z. multi_line format || (z && apart lines s.hi a.lo)) e ∙ sym (ap (λ z. multi_line format || (z && apart lines t.hi b.lo)) e)

last_apart : (lines : Lines) (format : ℕ) (parent s t : Span) → preserves_lines format ≡ false → closing_line lines format parent s ≡ closing_line lines format parent t
last_apart lines format parent s t e =
    ap (λ z. cond (multi_line format) (not (no_trailing_new_line format)) (z && apart lines s.hi parent.hi)) e ∙ sym (ap (λ z. cond (multi_line format) (not (no_trailing_new_line format)) (z && apart lines t.hi parent.hi)) e)

-- before the first child
pub leads_asked : (lines : Lines) (format : ℕ) (parent a b : Span) → as_asked format a ≡ as_asked format b → leading_line lines format parent a ≡ leading_line lines format parent b
leads_asked lines format parent a b h = elim (cases_Bool (preserves_lines format)) [
  | inl e ↦ ap (leading_line lines format parent) (same_place format a b e h)
  | inr e ↦ first_apart lines format parent a b e
]

-- between two
pub parts_asked : (lines : Lines) (format : ℕ) (previous a b : Span) → as_asked format a ≡ as_asked format b → separating_line lines format previous a ≡ separating_line lines format previous b
parts_asked lines format previous a b h = elim (cases_Bool (preserves_lines format)) [
  | inl e ↦ ap (separating_line lines format previous) (same_place format a b e h)
  | inr e ↦ both_apart lines format previous previous a b e
]

-- ---- what comes after a child

closed_same : (format : ℕ) (parent s t : Span) (rest : Plan) → preserves_lines format ≡ false → list_closing format parent s rest ≡ list_closing format parent t rest
unfolding list_closing
closed_same format parent s t rest e = λ i. trailing_comma format parent (by_lines (λ lines. closing format (last_apart lines format parent s t e i)) rest)

next_same : (format : ℕ) (s t : Span) (x : ListChild) (rest : Plan) → preserves_lines format ≡ false → next_child format s x rest ≡ next_child format t x rest
next_same format s t x rest e = λ i. by_lines (λ lines. next_child_after format (both_apart lines format s t x.place x.place e i) x) rest

behind_same : (format : ℕ) (parent s t : Span) (xs : List ListChild) (rest : Plan) → preserves_lines format ≡ false → list_after format parent s xs rest ≡ list_after format parent t xs rest
unfolding more_children last_place
behind_same format parent s t [] rest e = closed_same format parent s t rest e
behind_same format parent s t (x ∷ xs) rest e = next_same format s t x (list_after format parent x.place xs rest) e

-- after a child, whose place is told as far as the lines ask
pub after_asked : (format : ℕ) (parent s t : Span) (xs : List ListChild) (rest : Plan) → as_asked format s ≡ as_asked format t → list_after format parent s xs rest ≡ list_after format parent t xs rest
after_asked format parent s t xs rest h = elim (cases_Bool (preserves_lines format)) [
  | inl e ↦ ap (λ place. list_after format parent place xs rest) (same_place format s t e h)
  | inr e ↦ behind_same format parent s t xs rest e
]
