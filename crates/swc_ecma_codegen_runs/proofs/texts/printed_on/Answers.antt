use Rattle.std.proofs.Common.{ap, ◌∙◌}
use Rattle.swc_ecma_codegen_grammar.specs.Comments.{maps_in}
use Rattle.swc_ecma_codegen_tokens.specs.Run.{State, printed}
use Rattle.swc_ecma_codegen_runs.proofs.texts.printed_on.Goals as goal

-- what is printed goes from the state of a new emitter without comments
pub returns-in-Ok-clause-sheet : goal.returns-in-Ok-clause-sheet
unfolding maps_in
returns-in-Ok-clause-sheet g c = c.in-Ok.ensures.sheet ∙ ap (λ (s : State). (printed (g.P.Node.part c.args.tree.now) s).sheet) c.new-emitter.ensures.state
