use Rattle.std.proofs.Common.{[], ◌∷◌}
use Rattle.std.specs.String.{string_bytes}
use Rattle.std.proofs.lemmas.Result.{on_ok_weaker}
use Rattle.swc_ecma_codegen_source_maps.specs.Encodable.{name_fields}
use Rattle.swc_ecma_codegen_source_maps.proofs.Fields.{field_then}
use Rattle.swc_ecma_codegen_source_maps.proofs.mappings.push_original.Goals as goal

pub returns : goal.returns
returns c =
    let r = c.args.reached in
    let o = c.args.original in
    let start = string_bytes c.args.text.now in
    let first = string_bytes c.push_field.new.text in
    let second = string_bytes c.push_field-2.new.text in
    let third = string_bytes c.push_field-3.new.text in
    let end = string_bytes c.push_name.new.text in
    on_ok_weaker c.push_name.result (λ last.
    field_then r.source o.source (r.line_there ∷ r.column_there ∷ r.name ∷ []) (o.place.line ∷ o.place.col ∷ name_fields o.name) start first end c.requires.small.1 c.requires.fields.0 c.in_ok-push_field.ensures
    (field_then r.line_there o.place.line (r.column_there ∷ r.name ∷ []) (o.place.col ∷ name_fields o.name) first second end c.requires.small.2 c.requires.fields.1 c.in_ok-push_field-2.ensures
    (field_then r.column_there o.place.col (r.name ∷ []) (name_fields o.name) second third end c.requires.small.3 c.requires.fields.2 c.in_ok-push_field-3.ensures last))) c.push_name.ensures
