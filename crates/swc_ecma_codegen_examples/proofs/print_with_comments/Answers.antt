use Rattle.std.proofs.Common.{◌≡◌, [], ◌∷◌, ◌∙◌, ap, false, inl, refl, subst, sym}
use Rattle.std.proofs.lemmas.Result.{err_from_is_err_and}
use Rattle.swc_ecma_codegen_settings.specs.Defaults.{default_config}
use Rattle.swc_ecma_codegen_settings.specs.declared.config.Config.{Config}
use Rattle.swc_ecma_codegen_grammar.specs.CommentMaps.{Maps}
use Rattle.swc_ecma_codegen_grammar.specs.Comments.{AreClosed, maps_in}
use Rattle.swc_ecma_codegen_grammar.specs.SourceLines.{no_lines}
use Rattle.swc_ecma_codegen_text_writer.specs.Sheet.{Sheet}
use Rattle.swc_ecma_codegen_text_writer.specs.Contents.{or_empty}
use Rattle.swc_ecma_codegen_text_writer.specs.View.{sheet_of, new_sheet}
use Rattle.swc_ecma_codegen_tokens.specs.Run.{State, maps_after, start, steps_in, steps_of}
use Rattle.swc_ecma_codegen_tokens.specs.Written.{AddsReading, ReadsAs, taken_remarks}
use Rattle.swc_ecma_codegen_emit.specs.Roots.{root_items, root_phrase, MayBegin}
use Rattle.swc_ecma_codegen_emit.specs.Texts.{blank_sheet, GivesCause}
use Rattle.swc_ecma_codegen_emit.proofs.TreeReads.{new_begins}
use Rattle.swc_ecma_codegen_examples.specs.Causes.{commented_start}
use Rattle.swc_ecma_codegen_examples.proofs.print_with_comments.Goals as goal

-- a new emitter with these settings, over this sheet, stands where an emission with comments begins
begins : (maps : Maps) (s : State) (config : Config) (sheet : Sheet) → s ≡ start no_lines maps config sheet → config ≡ default_config → sheet ≡ blank_sheet → s ≡ commented_start maps
begins maps s config sheet h e f = h ∙ ap (λ k. start no_lines maps k sheet) e ∙ ap (start no_lines maps default_config) f

-- the vector has what was added to the blank sheet
pub returns-clause-reads : goal.returns-clause-reads
unfolding maps_in
returns-clause-reads g c = λ root same well closed.
    let maps = g.C.Comments.maps c.args.comments in
    let remarks = taken_remarks (root_items root) (commented_start maps).env in
    let end = sheet_of c.emit_with.new.e.wr in
    let begun = begins maps _ _ _ c.new-emitter.ensures.state c.default.ensures (c.new-writer.ensures.sheet refl ∙ ap (λ t. new_sheet t (10 ∷ [])) c.new.ensures.items) in
    let fresh = subst (MayBegin root) (sym begun) (new_begins root no_lines maps default_config [] (10 ∷ []) (inl refl)) in
    let added : AddsReading default_config (root_phrase root) remarks blank_sheet end =
    subst (λ (s : State). AddsReading s.env.config (root_phrase root) (taken_remarks (root_items root) s.env) s.sheet end) begun
    (c.in_ok-emit_with.ensures.reads root same well fresh (subst (λ (s : State). AreClosed s.env.maps) (sym begun) closed)) in
    let all : c.into_inner.result.items ≡ end.text = ap or_empty (c.into_inner.ensures.text refl) in
    let reading = subst (λ t. ReadsAs default_config false (root_phrase root) remarks t) (sym (all ∙ added.is_added)) added.reading in
    subst (λ p. ReadsAs default_config false (root_phrase root) (taken_remarks p (commented_start maps).env) c.into_inner.result.items) (sym same) reading

-- those that are left in the emitter are given back
pub returns-clause-left : goal.returns-clause-left
unfolding maps_in
returns-clause-left g c =
    let part = g.P.Node.part c.args.node.now in
    let maps = g.C.Comments.maps c.args.comments in
    let begun = begins maps _ _ _ c.new-emitter.ensures.state c.default.ensures (c.new-writer.ensures.sheet refl ∙ ap (λ t. new_sheet t (10 ∷ [])) c.new.ensures.items) in
    subst (λ (s : State). maps_in g.C.Comments.maps c.emit_with.new.e.comments ≡ maps_after (steps_of (steps_in part s)) s.env.maps) begun c.in_ok-emit_with.ensures.taken

pub returns-in_err-emit_with-clause-cause : goal.returns-in_err-emit_with-clause-cause
unfolding maps_in
returns-in_err-emit_with-clause-cause g c =
    let part = g.P.Node.part c.args.node.now in
    let maps = g.C.Comments.maps c.args.comments in
    let begun = begins maps _ _ _ c.new-emitter.ensures.state c.default.ensures (c.new-writer.ensures.sheet refl ∙ ap (λ t. new_sheet t (10 ∷ [])) c.new.ensures.items) in
    let p = err_from_is_err_and c.from_residual.result c.from_residual.ensures.1 in
    rw (p.1, p.2) (subst (λ s. GivesCause part s c.in_err-emit_with.field-0.0) begun (_, c.in_err-emit_with.ensures.items))
