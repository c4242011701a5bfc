use Rattle.std.proofs.Common.{◌∙◌, ◌≤◌, ◌++◌, ap, arith}
use Rattle.std.specs.String.{string_bytes}
use Rattle.std.proofs.lemmas.Bool.Decides.{nat_tests}
use Rattle.swc_ecma_codegen_source_maps.proofs.Goes.{one_line_more}
use Rattle.swc_ecma_codegen_source_maps.proofs.mappings.push_lines.Goals as goal

pub loop-next-preserved : goal.loop-next-preserved
loop-next-preserved c =
    let within : c.on_next_line-next.result.line ≤ c.args.line = grind (arith, nat_tests, c.loop-next-test.true, c.on_next_line-next.ensures.line) in
    record {
      within = within;
      small = c.on_next_line-next.ensures.small c.loop-next.invariant.small;
      leads = one_line_more c.args.reached c.loop-next.next c.on_next_line-next.result (string_bytes c.args.text.now) (string_bytes c.loop-next.text) (string_bytes c.push.new.self) c.loop-next.invariant.leads
          (c.in_ok-push.ensures.bytes ∙ ap (λ t. string_bytes c.loop-next.text ++ t) (c.push.ensures.ascii (omega arith)))
          c.on_next_line-next.ensures.line c.on_next_line-next.ensures.begun c.on_next_line-next.ensures.fields;
    }
