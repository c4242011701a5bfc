use Rattle.swc_ecma_codegen_grammar.specs.TemplatePhrases as phrases
use Rattle.swc_ecma_codegen_tokens.specs.Templates.{tpl_element}
use Rattle.swc_ecma_codegen_tokens.proofs.Reading.NodesSoFar.{cooked_element, tagged_element}
use Rattle.swc_ecma_codegen_tokens.proofs.LiteralTokens.TemplatePrints.{tpl_element_prints}
use Rattle.swc_ecma_codegen_tokens.proofs.Reading.TokensSoFar.{adds_list, tpl_jointless}
use Rattle.swc_ecma_codegen_tokens.proofs.LowerEmitter.tpl_element.Goals as goal

pub returns-then-part-clause-reads : goal.returns-then-part-clause-reads
returns-then-part-clause-reads g c =
    adds_list (phrases.tpl_element c.args.first c.args.part c.args.n.now) (tpl_element c.args.first c.args.part c.args.n.now) _ _ c.part_by.result (tpl_element_prints _ c.args.first c.args.part c.args.n.now) (tpl_jointless c.args.first c.args.part c.args.n.now)
    (tagged_element c.args.first c.args.part c.args.n.now _ _ _ c.part_by.result c.if-part.true c.deref.ensures c.part_by.ensures.items)

pub returns-else-part-clause-reads : goal.returns-else-part-clause-reads
returns-else-part-clause-reads g c =
    adds_list (phrases.tpl_element c.args.first c.args.part c.args.n.now) (tpl_element c.args.first c.args.part c.args.n.now) _ _ c.cooked_part.result (tpl_element_prints _ c.args.first c.args.part c.args.n.now) (tpl_jointless c.args.first c.args.part c.args.n.now)
    (cooked_element c.args.first c.args.part c.args.n.now _ _ c.cooked_part.result c.if-part.false c.cooked_part.ensures.items)
