use Rattle.std.proofs.Common.{refl}
use Rattle.std.proofs.lemmas.Result.{on_ok_weaker}
use Rattle.swc_ecma_codegen_parentheses.specs.SameStmts.{block, with_stmt, return_stmt, labeled, if_stmt, switch_stmt, throw_stmt, try_stmt, while_stmt, do_while, for_stmt, for_in, for_of, decl, expr}
use Rattle.swc_ecma_codegen_parentheses.proofs.stmts.StmtMend.mend.Goals as goal

pub returns-in-Block : goal.returns-in-Block
returns-in-Block g c = on_ok_weaker c.mend.result (λ same. block c.in-Block.node c.mend.new.self c.in-Block.is refl same) c.mend.ensures

pub returns-in-With : goal.returns-in-With
returns-in-With g c = on_ok_weaker c.mend-in-With.result (λ same. with_stmt c.in-With.node c.mend-in-With.new.self c.in-With.is refl same) c.mend-in-With.ensures

pub returns-in-Return : goal.returns-in-Return
returns-in-Return g c = on_ok_weaker c.mend-in-Return.result (λ same. return_stmt c.in-Return.node c.mend-in-Return.new.self c.in-Return.is refl same) c.mend-in-Return.ensures

pub returns-in-Labeled : goal.returns-in-Labeled
returns-in-Labeled g c = on_ok_weaker c.mend-in-Labeled.result (λ same. labeled c.in-Labeled.node c.mend-in-Labeled.new.self c.in-Labeled.is refl same) c.mend-in-Labeled.ensures

pub returns-in-If : goal.returns-in-If
returns-in-If g c = on_ok_weaker c.mend-in-If.result (λ same. if_stmt c.in-If.node c.mend-in-If.new.self c.in-If.is refl same) c.mend-in-If.ensures

pub returns-in-Switch : goal.returns-in-Switch
returns-in-Switch g c = on_ok_weaker c.mend-in-Switch.result (λ same. switch_stmt c.in-Switch.node c.mend-in-Switch.new.self c.in-Switch.is refl same) c.mend-in-Switch.ensures

pub returns-in-Throw : goal.returns-in-Throw
returns-in-Throw g c = on_ok_weaker c.mend-in-Throw.result (λ same. throw_stmt c.in-Throw.node c.mend-in-Throw.new.self c.in-Throw.is refl same) c.mend-in-Throw.ensures

pub returns-in-Try : goal.returns-in-Try
returns-in-Try g c = on_ok_weaker c.mend-in-Try.result (λ same. try_stmt c.in-Try.node c.mend-in-Try.new.self c.in-Try.is refl same) c.mend-in-Try.ensures

pub returns-in-While : goal.returns-in-While
returns-in-While g c = on_ok_weaker c.mend-in-While.result (λ same. while_stmt c.in-While.node c.mend-in-While.new.self c.in-While.is refl same) c.mend-in-While.ensures

pub returns-in-DoWhile : goal.returns-in-DoWhile
returns-in-DoWhile g c = on_ok_weaker c.mend-in-DoWhile.result (λ same. do_while c.in-DoWhile.node c.mend-in-DoWhile.new.self c.in-DoWhile.is refl same) c.mend-in-DoWhile.ensures

pub returns-in-For : goal.returns-in-For
returns-in-For g c = on_ok_weaker c.mend-in-For.result (λ same. for_stmt c.in-For.node c.mend-in-For.new.self c.in-For.is refl same) c.mend-in-For.ensures

pub returns-in-ForIn : goal.returns-in-ForIn
returns-in-ForIn g c = on_ok_weaker c.mend-in-ForIn.result (λ same. for_in c.in-ForIn.node c.mend-in-ForIn.new.self c.in-ForIn.is refl same) c.mend-in-ForIn.ensures

pub returns-in-ForOf : goal.returns-in-ForOf
returns-in-ForOf g c = on_ok_weaker c.mend-in-ForOf.result (λ same. for_of c.in-ForOf.node c.mend-in-ForOf.new.self c.in-ForOf.is refl same) c.mend-in-ForOf.ensures

pub returns-in-Decl : goal.returns-in-Decl
returns-in-Decl g c = on_ok_weaker c.mend-in-Decl.result (λ same. decl c.in-Decl.node c.mend-in-Decl.new.self c.in-Decl.is refl same) c.mend-in-Decl.ensures

pub returns-in-Expr : goal.returns-in-Expr
returns-in-Expr g c = on_ok_weaker c.mend-in-Expr.result (λ same. expr c.in-Expr.node c.mend-in-Expr.new.self c.in-Expr.is refl same) c.mend-in-Expr.ensures
