use Rattle.std.proofs.Common.{[], ap, subst, sym}
use Rattle.swc_ecma_codegen_grammar.specs.Comments.{AreClosed, maps_in, no_maps}
use Rattle.swc_ecma_codegen_grammar.specs.SourceLines.{no_lines}
use Rattle.swc_ecma_codegen_tokens.proofs.Commenting.NoneTaken.{no_maps_bare, no_maps_closed, same_remarks}
use Rattle.swc_ecma_codegen_tokens.specs.Run.{State, start, unlined}
use Rattle.swc_ecma_codegen_tokens.specs.Written.{AddsReading, taken_remarks}
use Rattle.swc_ecma_codegen_text_writer.specs.Recorded.{RecordsTruly}
use Rattle.swc_ecma_codegen_emit.specs.Roots.{root_items, root_phrase, MayBegin}
use Rattle.swc_ecma_codegen_examples.proofs.printed_on.Goals as goal

-- a new emitter stands at the start, over the sheet that was handed in, under these settings and without comments, of which it takes none
pub returns-clause-reads : goal.returns-clause-reads
unfolding maps_in
returns-clause-reads g c = λ root same well fresh.
    let part = root_items root in
    let old = g.W.WriteJs.sheet c.args.wr in
    let end = g.W.WriteJs.sheet c.emit_with.new.e.wr in
    let begun = c.new-emitter.ensures.state in
    let closed = subst AreClosed (sym (ap (λ (s : State). s.env.maps) begun)) no_maps_closed in
    let reads = c.in_ok-emit_with.ensures.reads root same well (subst (MayBegin root) (sym begun) fresh) closed in
    let over : AddsReading (unlined c.args.config) (root_phrase root) (taken_remarks part (start no_lines no_maps c.args.config old).env) old end =
    subst (λ (s : State). AddsReading s.env.config (root_phrase root) (taken_remarks part s.env) s.sheet end) begun reads in
    subst (λ remarks. AddsReading (unlined c.args.config) (root_phrase root) remarks old end) (same_remarks [] part (start no_lines no_maps c.args.config old).env no_maps_bare) over

pub returns-clause-recorded : goal.returns-clause-recorded
returns-clause-recorded g c =
    subst (λ s. RecordsTruly s (g.W.WriteJs.sheet c.emit_with.new.e.wr)) (ap (λ (s : State). s.sheet) c.new-emitter.ensures.state) c.in_ok-emit_with.ensures.recorded
