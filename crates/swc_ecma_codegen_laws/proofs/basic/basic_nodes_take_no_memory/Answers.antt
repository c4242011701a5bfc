use Rattle.swc_ecma_codegen_laws.proofs.BasicTrees.{this_takes_none, ident_takes_none, ident_name_takes_none, unary_takes_none, update_takes_none, bin_takes_none, computed_takes_none, member_takes_none, cond_takes_none, seq_takes_none, paren_takes_none, empty_takes_none, expr_stmt_takes_none}
use Rattle.swc_ecma_codegen_laws.proofs.basic.basic_nodes_take_no_memory.Goals as goal

pub returns-clause-this : goal.returns-clause-this
returns-clause-this c = this_takes_none

pub returns-clause-ident : goal.returns-clause-ident
returns-clause-ident c = ident_takes_none

pub returns-clause-ident_name : goal.returns-clause-ident_name
returns-clause-ident_name c = ident_name_takes_none

pub returns-clause-unary : goal.returns-clause-unary
returns-clause-unary c = unary_takes_none

pub returns-clause-update : goal.returns-clause-update
returns-clause-update c = update_takes_none

pub returns-clause-bin : goal.returns-clause-bin
returns-clause-bin c = bin_takes_none

pub returns-clause-computed : goal.returns-clause-computed
returns-clause-computed c = computed_takes_none

pub returns-clause-member : goal.returns-clause-member
returns-clause-member c = member_takes_none

pub returns-clause-cond : goal.returns-clause-cond
returns-clause-cond c = cond_takes_none

pub returns-clause-seq : goal.returns-clause-seq
returns-clause-seq c = seq_takes_none

pub returns-clause-paren : goal.returns-clause-paren
returns-clause-paren c = paren_takes_none

pub returns-clause-empty : goal.returns-clause-empty
returns-clause-empty c = empty_takes_none

pub returns-clause-expr_stmt : goal.returns-clause-expr_stmt
returns-clause-expr_stmt c = expr_stmt_takes_none
