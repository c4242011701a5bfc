use Rattle.std.proofs.Common.{[], ◌∷◌, drop, Some, sym, subst}
use Rattle.std.specs.Option.{IfSome}
use Rattle.std.specs.String.{string_bytes}
use Rattle.std.proofs.lemmas.Result.{on_ok_weaker}
use Rattle.swc_ecma_codegen_source_maps.specs.Encodable.{original_fields}
use Rattle.swc_ecma_codegen_source_maps.specs.Pieces.{fields_before, Grows, IsOriginalSmall, SaysFields}
use Rattle.swc_ecma_codegen_source_maps.proofs.Fields.{field_then, no_fields}
use Rattle.swc_ecma_codegen_source_maps.proofs.mappings.push_segment.Goals as goal

pub push_original-requires-clause-fields : goal.push_original-requires-clause-fields
push_original-requires-clause-fields c = subst (λ o. IfSome o IsOriginalSmall) c.in-Some.is c.requires.fields.1

pub returns-in-Some : goal.returns-in-Some
returns-in-Some c =
    let r = c.args.reached in
    let column = c.args.mapping.now.generated.col in
    let start = string_bytes c.args.text.now in
    let first = string_bytes c.push_field.new.text in
    let end = string_bytes c.push_original.new.text in
    on_ok_weaker c.push_original.result (λ rest. subst (λ o. Grows (SaysFields (fields_before r) (column ∷ original_fields o)) start end) (sym c.in-Some.is)
    (field_then r.column column (drop 1 (fields_before r)) (original_fields (Some c.in-Some.original)) start first end c.requires.small.0 c.requires.fields.0 c.in_ok-push_field.ensures rest)) c.push_original.ensures

pub returns-in-None : goal.returns-in-None
returns-in-None c =
    let r = c.args.reached in
    let column = c.args.mapping.now.generated.col in
    let start = string_bytes c.args.text.now in
    let end = string_bytes c.push_field.new.text in
    subst (λ o. Grows (SaysFields (fields_before r) (column ∷ original_fields o)) start end) (sym c.in-None.is)
    (field_then r.column column (drop 1 (fields_before r)) [] start end end c.requires.small.0 c.requires.fields.0 c.in_ok-push_field.ensures (no_fields (drop 1 (fields_before r)) end))
