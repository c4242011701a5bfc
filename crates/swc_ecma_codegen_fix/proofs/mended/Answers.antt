use Rattle.std.proofs.Common.{◌≡◌, Bool, true, false, Result, Ok, Err, inr, sym, subst, ap, ◌∙◌}
use Rattle.std.proofs.lemmas.Result.{IfOk-weaker}
use Rattle.swc_ecma_codegen_json.specs.declared.trees.Tree.{Tree}
use Rattle.swc_ecma_codegen_tree.specs.declared.links.AnyNode.{AnyNode}
use Rattle.swc_ecma_codegen_tree.specs.declared.programs.Program.{Program}
use Rattle.swc_ecma_codegen_syntax.specs.Derives.{program_verdict}
use Rattle.swc_ecma_codegen_syntax.specs.Verdicts.{holds}
use Rattle.swc_ecma_codegen_parentheses.specs.Roots.{IfLeft, SameProgramTree}
use Rattle.swc_ecma_codegen_fix.specs.Mended.{IsMended}
use Rattle.swc_ecma_codegen_fix.proofs.mended.Goals as goal

-- what lacks parentheses still is given back only where any is asked for, and where something else was wrong
left_over : {E : Type 0} (any : Bool) (p r : Program AnyNode) (e : E) → SameProgramTree p r → any ≡ true → holds false (program_verdict p) ≡ false → ((program_verdict p).covered ≡ true → (program_verdict p).parenthesized ≡ true → ◌≡◌ {A = Result (Program AnyNode) E} (Err e) (Ok p)) → IsMended any p r
left_over any p r e same asked wrong untouched =
    record {
      same = inr same;
      untouched = λ covered none. let given_back = untouched covered none in absurd (cc);
      derivation = λ fine. absurd (cc);
      parenthesized = λ unasked. absurd (cc);
      curable = λ unasked covered. absurd (cc);
    }

pub returns-in-Err-Left-clause-mended : goal.returns-in-Err-Left-clause-mended
unfolding IfLeft
returns-in-Err-Left-clause-mended c =
    let any = c.args.any in
    let p = c.args.tree.0 in
    let given : c.into_program.result ≡ p = c.into_program.ensures in
    let same : SameProgramTree c.into_program.result c.in-Err-Left.program =
    subst (λ e. IfLeft e (SameProgramTree c.into_program.result)) c.in-Err-Left.field-0-is c.in-Err-Left.ensures.left in
    let by : holds false (program_verdict c.into_program.result) ≡ holds false c.verdict-before.result =
    ap (λ q. holds false (program_verdict q)) given ∙ sym (ap (holds false) c.verdict-before.ensures) in
    IfOk-weaker c.left.result _ _ (λ r found. subst (λ (t : Tree AnyNode). IsMended any p t.0) (sym found.2) (subst (λ q. IsMended any q c.in-Err-Left.program) given (left_over any c.into_program.result c.in-Err-Left.program _ same found.0 (by ∙ found.1) c.in-Err-Left.ensures.untouched))) c.left.ensures
