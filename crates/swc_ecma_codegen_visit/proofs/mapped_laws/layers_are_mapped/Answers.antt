use Rattle.swc_ecma_codegen_visit.proofs.Layers.{layer_same}
use Rattle.swc_ecma_codegen_visit.proofs.mapped_laws.layers_are_mapped.Goals as goal

pub returns : goal.returns
returns c = λ f n. layer_same f n
