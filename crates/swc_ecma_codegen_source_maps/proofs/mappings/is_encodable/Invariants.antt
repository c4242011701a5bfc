use Rattle.std.proofs.Common.{◌≡◌, drop}
use Rattle.swc_ecma_codegen_source_maps.specs.Encodable.{is_encodable, is_encodable_from}
use Rattle.swc_ecma_codegen_source_maps.proofs.mappings.is_encodable.Given as goal

abbrev pub invariant-loop-mapping : goal.invariant-loop-mapping
invariant-loop-mapping l = is_encodable l.mappings ≡ is_encodable_from l.line (drop l.mapping-index l.mappings)
