use Rattle.std.proofs.Common.{[], false, sym, subst}
use Rattle.std.proofs.lemmas.Result.{IfOk-weaker}
use Rattle.swc_ecma_codegen_grammar.specs.Comments.{maps_in}
use Rattle.swc_ecma_codegen_settings.specs.Defaults.{default_config}
use Rattle.swc_ecma_codegen_tokens.specs.Written.{ReadsAs}
use Rattle.swc_ecma_codegen_emit.specs.Roots.{root_phrase}
use Rattle.swc_ecma_codegen_emit.proofs.TreeMade.{code_reads}
use Rattle.swc_ecma_codegen_emit.proofs.code.to_code.Goals as goal

pub returns-clause-reads : goal.returns-clause-reads
unfolding maps_in
returns-clause-reads g c = λ root same well.
    IfOk-weaker c.to_code_with_comments.result _ _ (λ text e. subst (λ z. ReadsAs default_config false (root_phrase root) [] z) (sym e) (code_reads root (g.N.Node.part c.args.node.now) same well)) c.to_code_with_comments.ensures.text
