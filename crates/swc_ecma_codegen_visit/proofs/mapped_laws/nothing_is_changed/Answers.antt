use Rattle.swc_ecma_codegen_visit.proofs.MapLaws.{expr_kept, item_kept, node_kept, program_kept, stmt_kept}
use Rattle.swc_ecma_codegen_visit.proofs.mapped_laws.nothing_is_changed.Goals as goal

pub returns : goal.returns
returns c = record {
  node = λ n. node_kept n;
  expr = λ n. expr_kept n;
  stmt = λ n. stmt_kept n;
  item = λ n. item_kept n;
  program = λ n. program_kept n;
}
