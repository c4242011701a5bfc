use Rattle.swc_ecma_codegen_visit.proofs.MapLaws.{each_ident_at}
use Rattle.swc_ecma_codegen_visit.proofs.mapped_laws.each_name_is_changed.Goals as goal

pub returns : goal.returns
returns c = λ g n. each_ident_at g n
