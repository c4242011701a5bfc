use Rattle.std.proofs.Common.{◌≡◌, ◌∙◌, ◌%◌, ap, arith, false, subst}
use Rattle.std.specs.Prelude.{get_or}
use Rattle.swc_ecma_codegen_grammar.specs.CommentMaps.{is_marked, place}
use Rattle.swc_ecma_codegen_grammar.proofs.CommentMarks.{kept_set, kept_taken}
use Rattle.swc_ecma_codegen_grammar.proofs.comments.mark.Goals as goal
use Rattle.swc_ecma_codegen_grammar.proofs.comments.mark.Goals.{then-len-place+in_ok-resize, else-len-place}

pub returns-clause-kept : goal.returns-clause-kept
unfolding is_marked place
returns-clause-kept c q unmarked =
    let before = kept_set c.if-len-place.marks.items (c.args.pos.0 % 16384) (q % 16384) unmarked in
    elim c.if-len-place.branch [
      | then-len-place+in_ok-resize w ↦ kept_taken c.args.marks.now.items _ 16384 (q % 16384) (omega arith)
          (subst (λ z. get_or z (q % 16384) false ≡ false) (ap (λ v. v.items) w.marks-is ∙ w.in_ok-resize.ensures.items) before)
      | else-len-place w ↦ subst (λ v. get_or v.items (q % 16384) false ≡ false) w.marks-is before
    ]
