use Rattle.std.proofs.Common.{◌≡◌, true, sym, subst}
use Rattle.std.specs.String.{string_bytes}
use Rattle.swc_ecma_codegen_source_maps.specs.Encodable.{is_encodable_from}
use Rattle.swc_ecma_codegen_source_maps.proofs.Encoding.{ahead, ahead_there}
use Rattle.swc_ecma_codegen_source_maps.proofs.Goes.{begins, goes_further, says_all}
use Rattle.swc_ecma_codegen_source_maps.proofs.mappings.encode_mappings.Goals as goal

pub loop-mapping-init : goal.loop-mapping-init
loop-mapping-init c = record {
  ahead = subst (λ n. is_encodable_from n c.args.mappings.now ≡ true) (sym c.start-reached.ensures.line) c.requires;
  small = c.start-reached.ensures.small;
  goes_on = begins c.start-reached.result c.args.mappings.now (string_bytes c.new-text.result) c.new-text.ensures.bytes c.start-reached.ensures.line c.start-reached.ensures.begun c.start-reached.ensures.fields;
}

pub push_mapping-requires-clause-order : goal.push_mapping-requires-clause-order
push_mapping-requires-clause-order c = (ahead c.loop-mapping.reached.line c.args.mappings.now c.loop-mapping.mapping-index _ c.loop-mapping-test.true c.loop-mapping.invariant.ahead).0

pub push_mapping-requires-clause-fields : goal.push_mapping-requires-clause-fields
push_mapping-requires-clause-fields c = (ahead c.loop-mapping.reached.line c.args.mappings.now c.loop-mapping.mapping-index _ c.loop-mapping-test.true c.loop-mapping.invariant.ahead).1

pub loop-mapping-preserved : goal.loop-mapping-preserved
loop-mapping-preserved c =
    let mappings = c.args.mappings.now in
    let i = c.loop-mapping.mapping-index in
    let r = c.loop-mapping.reached in
    let next = c.in_ok-reached.reached in
    record {
      ahead = ahead_there r.line next.line mappings i _ c.loop-mapping-test.true c.loop-mapping.invariant.ahead c.in_ok-reached.ensures.line;
      small = c.in_ok-reached.ensures.small;
      goes_on = goes_further r next mappings i _ (string_bytes c.loop-mapping.text) (string_bytes c.push_mapping.new.text) c.loop-mapping-test.true c.in_ok-reached.ensures.line c.in_ok-reached.ensures.says c.loop-mapping.invariant.goes_on;
    }

pub returns : goal.returns
returns c = says_all c.loop-mapping.reached c.args.mappings.now c.loop-mapping.mapping-index (string_bytes c.loop-mapping.text) c.loop-mapping-test.false c.loop-mapping.invariant.goes_on
