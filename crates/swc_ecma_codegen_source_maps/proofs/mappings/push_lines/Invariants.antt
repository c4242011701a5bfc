use Rattle.std.proofs.Common.{◌-◌, ◌≤◌}
use Rattle.std.specs.String.{string_bytes}
use Rattle.swc_ecma_codegen_source_maps.specs.Pieces.{AreSmall, Grows, Leads}
use Rattle.swc_ecma_codegen_source_maps.proofs.mappings.push_lines.Given as goal

abbrev pub invariant-loop-next : goal.invariant-loop-next
invariant-loop-next l = record {
  within : l.next.line ≤ l.line;
  small : AreSmall l.next;
  leads : Grows (Leads l.initial.next l.next) (string_bytes l.initial.text) (string_bytes l.text);
}

abbrev pub decreases-loop-next : goal.decreases-loop-next
decreases-loop-next l = l.line - l.next.line
