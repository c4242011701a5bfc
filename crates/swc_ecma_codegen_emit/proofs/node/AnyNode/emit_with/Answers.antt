use Rattle.swc_ecma_codegen_tokens.proofs.Emission.Made.{ready_after}
use Rattle.swc_ecma_codegen_tokens.proofs.Reading.Phrased.{never_out_of_memory}
use Rattle.swc_ecma_codegen_tokens.specs.Run.{nothing}
use Rattle.swc_ecma_codegen_emit.specs.Places.{by_itself}
use Rattle.swc_ecma_codegen_emit.proofs.ItemsTaken.{root_leaves}
use Rattle.swc_ecma_codegen_emit.proofs.TreeReads.{as_root, root_reads, root_told, steps_taken, steps_recorded, root_fills, root_names, root_places, root_ascii, root_safe}
use Rattle.swc_ecma_codegen_emit.proofs.TreeMade.{root_made}
use Rattle.swc_ecma_codegen_emit.proofs.node.AnyNode.emit_with.Goals as goal

pub returns : goal.returns
returns g c =
    let part = by_itself (g.T.EmitAt.items c.args.self.now) in
    let followed = c.emit.ensures.items in
    record {
      items = followed;
      reads = λ root same. root_reads root _ _ _ (as_root root part _ _ _ same followed);
      recorded = steps_recorded _ _ _ _ followed;
      taken = steps_taken part _ _ _ followed;
      told = λ root same. root_told root _ _ _ (as_root root part _ _ _ same followed);
      left = λ root same. root_leaves root _ _ _ (as_root root part _ _ _ same followed);
      names = λ root same. root_names root _ _ _ (as_root root part _ _ _ same followed);
      places = λ root same. root_places root _ _ _ (as_root root part _ _ _ same followed);
      ascii = λ root same. root_ascii root _ _ _ (as_root root part _ _ _ same followed);
      inline = λ root same. root_safe root _ _ _ (as_root root part _ _ _ same followed);
      fills = λ root same. root_fills root _ _ _ (as_root root part _ _ _ same followed);
      front = c.emit.ensures.front;
      cause = c.emit.ensures.cause;
      no_memory = λ none free. never_out_of_memory part _ _ _ none free followed;
      succeeds = c.emit.ensures.succeeds;
      made = λ root same. root_made root _ _ _ (as_root root part _ _ _ same followed);
      ready = ready_after (part nothing) _ _ _ followed;
      marked = c.emit.ensures.marked;
      failed = c.emit.ensures.failed;
      level = c.emit.ensures.level;
    }
