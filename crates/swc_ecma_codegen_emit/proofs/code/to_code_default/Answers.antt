use Rattle.std.proofs.Common.{refl, false, ◌≡◌, [], ◌∷◌, ◌∙◌, ap, rules, string_bytes, subst, sym}
use Rattle.std.proofs.lemmas.Str.{IsUtf8-from_is_utf8, is_utf8-from_IsUtf8, IsUtf8-nil}
use Rattle.std.specs.Str.{is_utf8}
use Rattle.swc_ecma_codegen_settings.specs.Defaults.{default_config}
use Rattle.swc_ecma_codegen_text_writer.specs.Contents.{or_empty}
use Rattle.swc_ecma_codegen_text_writer.specs.Sheet.{Sheet}
use Rattle.swc_ecma_codegen_text_writer.specs.View.{sheet_of, new_sheet}
use Rattle.swc_ecma_codegen_grammar.specs.Comments.{maps_in}
use Rattle.swc_ecma_codegen_tokens.specs.Run.{steps_of, steps_in, printed, start}
use Rattle.swc_ecma_codegen_tokens.proofs.Emission.Fronts.{run_whole}
use Rattle.swc_ecma_codegen_emit.specs.Texts.{blank_sheet, GivesCause, IsOfWriter, IsPrinted}
use Rattle.swc_ecma_codegen_tokens.specs.Written.{ReadsAs, taken_remarks}
use Rattle.swc_ecma_codegen_emit.specs.Roots.{root_phrase}
use Rattle.swc_ecma_codegen_emit.proofs.TreeMade.{code_reads_over, code_cause}
use Rattle.swc_ecma_codegen_emit.proofs.code.to_code_default.Goals as goal

-- The sheet at the end is what the steps make of a blank one, so its bytes are UTF-8, as no bytes are.
pub unwrap-requires : goal.unwrap-requires
unwrap-requires g c =
    let part = g.N.Node.part c.args.node.now in
    let blank = ap (λ t. new_sheet t (10 ∷ [])) c.new.ensures.items in
    let end : sheet_of c.in-Ok.writer ≡ (printed part (start (g.S.SourceMapper.lines c.args.cm.now) (maps_in g.C.Comments.maps c.args.comments) default_config blank_sheet)).sheet =
    c.in-Ok.ensures.sheet ∙ ap (λ s. (printed part (start (g.S.SourceMapper.lines c.args.cm.now) (maps_in g.C.Comments.maps c.args.comments) default_config s)).sheet) (c.new-writer.ensures.sheet refl ∙ blank) in
    let all : c.into_inner.result.items ≡ (sheet_of c.in-Ok.writer).text = ap or_empty (c.into_inner.ensures.text refl) in
    c.from_utf8.ensures.succeeds
    (IsUtf8-from_is_utf8 _
    (ap is_utf8 all ∙ sym c.into_inner.ensures.whole ∙ ap (λ (s : Sheet). s.whole) end ∙ run_whole (steps_of (steps_in part (start (g.S.SourceMapper.lines c.args.cm.now) (maps_in g.C.Comments.maps c.args.comments) default_config blank_sheet))) (start (g.S.SourceMapper.lines c.args.cm.now) (maps_in g.C.Comments.maps c.args.comments) default_config blank_sheet) ∙ is_utf8-from_IsUtf8 [] IsUtf8-nil))

-- the string has these bytes
pub returns-in-Ok-clause-text : goal.returns-in-Ok-clause-text
returns-in-Ok-clause-text g c =
    let part = g.N.Node.part c.args.node.now in
    let blank = ap (λ t. new_sheet t (10 ∷ [])) c.new.ensures.items in
    let end : sheet_of c.in-Ok.writer ≡ (printed part (start (g.S.SourceMapper.lines c.args.cm.now) (maps_in g.C.Comments.maps c.args.comments) default_config blank_sheet)).sheet =
    c.in-Ok.ensures.sheet ∙ ap (λ s. (printed part (start (g.S.SourceMapper.lines c.args.cm.now) (maps_in g.C.Comments.maps c.args.comments) default_config s)).sheet) (c.new-writer.ensures.sheet refl ∙ blank) in
    let all : c.into_inner.result.items ≡ (sheet_of c.in-Ok.writer).text = ap or_empty (c.into_inner.ensures.text refl) in
    let same : string_bytes c.unwrap.result ≡ c.into_inner.result.items = search rules in
    same ∙ all ∙ ap (λ (s : Sheet). s.text) end

pub returns-in-Ok-clause-reads : goal.returns-in-Ok-clause-reads
returns-in-Ok-clause-reads g c = λ root same well closed.
    let lines = g.S.SourceMapper.lines c.args.cm.now in
    let maps = maps_in g.C.Comments.maps c.args.comments in
    let part = g.N.Node.part c.args.node.now in
    subst (λ z. ReadsAs default_config false (root_phrase root) (taken_remarks part (start lines maps default_config blank_sheet).env) z) (sym (returns-in-Ok-clause-text g c)) (code_reads_over lines maps root part same well closed)

-- the writer began with a blank sheet, and its own errors were answered before
pub returns-in-Err-clause-made : goal.returns-in-Err-clause-made
returns-in-Err-clause-made g c = λ root same well room.
    let part = g.N.Node.part c.args.node.now in
    let blank = ap (λ t. new_sheet t (10 ∷ [])) c.new.ensures.items in
    let given : GivesCause part (start (g.S.SourceMapper.lines c.args.cm.now) (maps_in g.C.Comments.maps c.args.comments) default_config blank_sheet) c.in-Err.error = subst (λ s. GivesCause part (start (g.S.SourceMapper.lines c.args.cm.now) (maps_in g.C.Comments.maps c.args.comments) default_config s) c.in-Err.error) (c.new-writer.ensures.sheet refl ∙ blank) c.in-Err.ensures.cause in
    let other : IsOfWriter c.in-Err.error → ⊥ = search rules in
    code_cause (g.S.SourceMapper.lines c.args.cm.now) (maps_in g.C.Comments.maps c.args.comments) root part same well c.in-Err.error room given other

pub returns-in-Ok-clause-printed : goal.returns-in-Ok-clause-printed
returns-in-Ok-clause-printed g c =
    let blank = ap (λ t. new_sheet t (10 ∷ [])) c.new.ensures.items in
    subst (λ s. IsPrinted (g.N.Node.part c.args.node.now) (start (g.S.SourceMapper.lines c.args.cm.now) (maps_in g.C.Comments.maps c.args.comments) default_config s)) (c.new-writer.ensures.sheet refl ∙ blank) c.in-Ok.ensures.printed
