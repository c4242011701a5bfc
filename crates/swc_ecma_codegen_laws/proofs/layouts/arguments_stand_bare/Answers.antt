use Rattle.swc_ecma_codegen_laws.proofs.TwoLayouts.Leading.{leading_decide}
use Rattle.swc_ecma_codegen_laws.proofs.TwoLayouts.Trees.{returned_bare, yielded_bare}
use Rattle.swc_ecma_codegen_laws.proofs.layouts.arguments_stand_bare.Goals as goal

pub returns-clause-returned : goal.returns-clause-returned
returns-clause-returned c = returned_bare

pub returns-clause-yielded : goal.returns-clause-yielded
returns-clause-yielded c = yielded_bare

pub returns-clause-comments : goal.returns-clause-comments
returns-clause-comments c = leading_decide
