use Rattle.std.proofs.Common.{◌∙◌, ◌+◌, ap}
use Rattle.std.proofs.lemmas.List.{take_rest}
use Rattle.swc_ecma_codegen_syntax.specs.Parameters.{in_list}
use Rattle.swc_ecma_codegen_syntax.specs.Forms.{judge}
use Rattle.swc_ecma_codegen_syntax.specs.ModuleForms.{item_form, begins_empty_item}
use Rattle.swc_ecma_codegen_syntax.proofs.StmtsJudged.{items_next}
use Rattle.swc_ecma_codegen_syntax.proofs.programs.items.Goals as goal

pub loop-index-preserved : goal.loop-index-preserved
loop-index-preserved g c =
    c.loop-index.invariant
    ∙ items_next g.N.Answers.answers c.args.parameters c.loop-index.verdict c.judge-verdict.result c.args.items.now c.loop-index.index c.index-items-index.result c.loop-index-test.true c.index-items-index.is
    (c.judge-verdict.ensures ∙ ap (λ p. judge g.N.Answers.answers c.loop-index.verdict (item_form p c.index-items-index.result))
    (c.in_list.ensures ∙ ap (λ b. in_list b c.args.parameters) (c.begins_empty_item-before_empty.ensures ∙ ap begins_empty_item (take_rest c.args.items.now (c.loop-index.index + 1)))))
