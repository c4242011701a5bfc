use Rattle.std.proofs.Common.{refl}
use Rattle.std.proofs.lemmas.Result.{IfOk-weaker}
use Rattle.swc_ecma_codegen_tree.specs.declared.stmts.Stmt.TheVariants.{Expr}
use Rattle.swc_ecma_codegen_emit.specs.Roots.{OfStmt}
use Rattle.swc_ecma_codegen_examples.proofs.Negations.{changed_to_minus, well_formed_negation, short_negation, negation_reads}
use Rattle.swc_ecma_codegen_examples.proofs.changed_operator_text.Goals as goal

-- the tree is that of `-a;`, and its text reads so
pub returns-clause-reads : goal.returns-clause-reads
returns-clause-reads c = λ name.
    let old = c.in_ok-statement.statement in
    let n = record old { expr = c.set_operator.new.link } in
    let made = changed_to_minus c.args.name.now _ old n c.in_ok-statement.ensures c.set_operator.ensures in
    IfOk-weaker c.to_code.result _ _ (λ text reading. negation_reads c.args.name.now n _ made reading) (c.to_code.ensures.reads (OfStmt (Expr n)) refl (well_formed_negation c.args.name.now n made name))

pub returns-clause-made : goal.returns-clause-made
returns-clause-made c = λ name.
    let old = c.in_ok-statement.statement in
    let n = record old { expr = c.set_operator.new.link } in
    let made = changed_to_minus c.args.name.now _ old n c.in_ok-statement.ensures c.set_operator.ensures in
    c.to_code.ensures.made (OfStmt (Expr n)) refl (well_formed_negation c.args.name.now n made name) (short_negation c.args.name.now n made)
