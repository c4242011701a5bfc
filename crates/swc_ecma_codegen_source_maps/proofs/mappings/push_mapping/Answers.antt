use Rattle.std.specs.String.{string_bytes}
use Rattle.swc_ecma_codegen_source_maps.proofs.Fields.{small_mapping}
use Rattle.swc_ecma_codegen_source_maps.proofs.Goes.{mapping_says}
use Rattle.swc_ecma_codegen_source_maps.proofs.mappings.push_mapping.Goals as goal

pub push_segment-requires-clause-fields : goal.push_segment-requires-clause-fields
push_segment-requires-clause-fields c = small_mapping c.args.mapping.now c.requires.fields

pub returns-clause-says : goal.returns-clause-says
returns-clause-says c =
    mapping_says c.args.reached c.in_ok-on_line.on_line c.after.result c.args.mapping.now (string_bytes c.args.text.now) (string_bytes c.push_lines.new.text) (string_bytes c.push_comma.new.text) (string_bytes c.push_segment.new.text)
    c.in_ok-on_line.ensures.leads c.in_ok-on_line.ensures.line c.in_ok-push_comma.ensures c.in_ok-push_segment.ensures c.after.ensures.line c.after.ensures.begun c.after.ensures.fields
