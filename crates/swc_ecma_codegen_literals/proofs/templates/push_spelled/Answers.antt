use Rattle.std.proofs.Common.{◌≡◌, sym, ◌∙◌, ap, ◌++◌, ◌==◌, ◌&&◌, List, ℕ, Bool, length, append-nil}
use Rattle.std.proofs.lemmas.Bool.{eqb-true}
use Rattle.std.specs.String.{string_bytes}
use Rattle.swc_ecma_codegen_literals.specs.TemplateTexts.{spelled_bytes}
use Rattle.swc_ecma_codegen_literals.proofs.TemplatePieces.{loop_turn, run_turn, nothing_left}
use Rattle.swc_ecma_codegen_literals.proofs.templates.push_spelled.Goals as goal
use Rattle.swc_ecma_codegen_literals.proofs.templates.push_spelled.Goals.{then-dollar, else-dollar}

pub loop-rest-preserved : goal.loop-rest-preserved
loop-rest-preserved c =
    let d : c.if-dollar.push_first_piece ≡ (c.loop-rest.dollar && (length c.split_run.result.0.now == 0)) = elim c.if-dollar.branch [
      | then-dollar w ↦ w.push_first_piece-is ∙ (w.is_empty-then-dollar.ensures ∙ sym (ap (λ (b : Bool). b && (length c.split_run.result.0.now == 0)) w.if-dollar.true))
      | else-dollar w ↦ w.push_first_piece-is ∙ (w.if-dollar.false ∙ sym (ap (λ (b : Bool). b && (length c.split_run.result.0.now == 0)) w.if-dollar.false))
    ] in
    let t = run_turn c.loop-rest.dollar c.args.ascii_only c.loop-rest.rest.now c.split_run.result.0.now c.split_run.result.1.now c.split_run.ensures.parts c.split_run.ensures.texts.0 c.split_run.ensures.run in
    let before = spelled_bytes c.loop-rest.dollar c.args.ascii_only c.loop-rest.rest.now in
    let after = spelled_bytes (c.loop-rest.dollar && (length c.split_run.result.0.now == 0)) c.args.ascii_only c.split_run.result.1.now in
    let tail = spelled_bytes c.in_ok-rest.field-0-1 c.args.ascii_only c.in_ok-rest.field-0-0.now in
    (c.in_ok-rest.ensures.text, loop_turn _ _ _ c.split_run.result.0.now tail after before _ c.in_ok-push_str.ensures.bytes (c.in_ok-rest.ensures.spelled ∙ ap (λ (b : Bool). string_bytes c.push_str.new.self ++ spelled_bytes b c.args.ascii_only c.split_run.result.1.now) d) t c.loop-rest.invariant.1)

pub returns : goal.returns
returns c =
    let none : length c.loop-rest.rest.now ≡ 0 = eqb-true _ _ (sym c.is_empty.ensures ∙ c.loop-rest-test.false) in
    sym (append-nil (string_bytes c.loop-rest.text)) ∙ (ap (λ (x : List ℕ). string_bytes c.loop-rest.text ++ x) (sym (nothing_left c.loop-rest.dollar c.args.ascii_only c.loop-rest.rest.now none)) ∙ c.loop-rest.invariant.1)
