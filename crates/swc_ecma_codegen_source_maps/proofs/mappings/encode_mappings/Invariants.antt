use Rattle.std.proofs.Common.{◌≡◌, ℕ, List, ◌++◌, Some, true, drop}
use Rattle.std.specs.String.{string_bytes}
use Rattle.swc_ecma_codegen_source_maps.specs.Encodable.{is_encodable_from}
use Rattle.swc_ecma_codegen_source_maps.specs.Mappings.{decoded}
use Rattle.swc_ecma_codegen_source_maps.specs.Pieces.{AreSmall, GoesOn}
use Rattle.swc_ecma_codegen_source_maps.proofs.mappings.encode_mappings.Given as goal

abbrev pub invariant-loop-mapping : goal.invariant-loop-mapping
invariant-loop-mapping l = record {
  ahead : is_encodable_from l.reached.line (drop l.mapping-index l.mappings) ≡ true;
  small : AreSmall l.reached;
  goes_on : (text : List ℕ) → GoesOn l.reached (drop l.mapping-index l.mappings) text → decoded (string_bytes l.text ++ text) ≡ Some l.mappings;
}
