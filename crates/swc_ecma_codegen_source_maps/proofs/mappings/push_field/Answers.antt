use Rattle.std.proofs.Common.{subst}
use Rattle.std.specs.Result.{OnOk}
use Rattle.std.specs.String.{string_bytes}
use Rattle.swc_ecma_codegen_source_maps.specs.Pieces.{Grows, SaysNumber}
use Rattle.swc_ecma_codegen_source_maps.proofs.mappings.push_field.Goals as goal

pub returns : goal.returns
returns c = subst (λ n. OnOk c.push_number.result (Grows (SaysNumber n) (string_bytes c.args.text.now) (string_bytes c.push_number.new.text))) c.distance.ensures c.push_number.ensures
