use Rattle.std.proofs.Common.{sym, ◌∙◌, ap, ◌∷◌, List, ℕ}
use Rattle.std.specs.Str.{chars}
use Rattle.swc_ecma_codegen_grammar.specs.Chars.{is_digit, begins_digit}
use Rattle.swc_ecma_codegen_literals.specs.declared.templates.Piece.{Piece}
use Rattle.swc_ecma_codegen_literals.specs.TemplateTexts.{pieces, spelled_pieces}
use Rattle.swc_ecma_codegen_literals.proofs.TemplatePieces.{digit_turn, digit_bare, digit_gone, digit_none, digit_other}
use Rattle.swc_ecma_codegen_literals.proofs.templates.writes_digit.Goals as goal

pub returns-in-Bare : goal.returns-in-Bare
unfolding is_digit
returns-in-Bare c = λ d a.
    let e = c.in-Some.ensures.pieces ∙ ap (λ (p : Piece). p ∷ pieces (chars c.in-Some.next.now)) c.in-Bare.is in
    c.is_ascii_digit.ensures.value ∙ (sym (digit_turn _ _ _ e d a ∙ digit_bare _ _ d a) ∙ c.loop-piece.invariant.1 d a)

pub loop-piece-preserved : goal.loop-piece-preserved
loop-piece-preserved c = (
  c.in-Some.ensures.text,
  λ d a.
      let e = c.in-Some.ensures.pieces ∙ ap (λ (p : Piece). p ∷ pieces (chars c.in-Some.next.now)) c.in-Gone.is in
      sym (digit_turn _ _ _ e d a ∙ digit_gone _ d a) ∙ c.loop-piece.invariant.1 d a,
)

pub returns-in_default-piece : goal.returns-in_default-piece
returns-in_default-piece c = λ d a. sym (digit_turn _ _ _ c.in-Some.ensures.pieces d a ∙ digit_other _ _ d a c.in_default-piece.not-Bare c.in_default-piece.not-Gone) ∙ c.loop-piece.invariant.1 d a

pub returns : goal.returns
returns c = λ d a. sym (ap (λ (x : List ℕ). begins_digit (spelled_pieces d a (pieces x))) c.in_default.ensures.none ∙ digit_none d a) ∙ c.loop-piece.invariant.1 d a
