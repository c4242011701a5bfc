use Rattle.std.proofs.Common.{◌≡◌, true, [], ◌∙◌, ap, refl, rules, string_bytes, subst, sym}
use Rattle.std.proofs.lemmas.Str.{IsUtf8-from_is_utf8}
use Rattle.std.specs.Str.{is_utf8}
use Rattle.swc_ecma_codegen_text_writer.specs.Places.{origin}
use Rattle.swc_ecma_codegen_text_writer.specs.Recorded.{StandIn, AreNew}
use Rattle.swc_ecma_codegen_text_writer.specs.Sheet.{Sheet}
use Rattle.swc_ecma_codegen_text_writer.specs.Contents.{or_empty}
use Rattle.swc_ecma_codegen_text_writer.specs.View.{sheet_of}
use Rattle.swc_ecma_codegen_grammar.specs.Comments.{maps_in}
use Rattle.swc_ecma_codegen_grammar.specs.Phrases.{names_in}
use Rattle.swc_ecma_codegen_tokens.specs.Named.{NamesStand}
use Rattle.swc_ecma_codegen_tokens.specs.Run.{Follows, unlined}
use Rattle.swc_ecma_codegen_tokens.specs.Written.{ReadsAs, taken_remarks}
use Rattle.swc_ecma_codegen_emit.specs.Roots.{root_phrase}
use Rattle.swc_ecma_codegen_emit.specs.Texts.{sheet_with, start_with}
use Rattle.swc_ecma_codegen_emit.proofs.LastSemi.{code_reads_on, names_with, new_with, records_with, stand_with, whole_on}
use Rattle.swc_ecma_codegen_emit.proofs.code.to_code_with_positions.Goals as goal

-- the text of the sheet is UTF-8, as no bytes are
pub unwrap-requires : goal.unwrap-requires
unwrap-requires g c =
    let all : c.into_parts-text.result.0.items ≡ (sheet_of c.in-Ok.writer).text = ap or_empty (c.into_parts-text.ensures.text refl) in
    let whole = whole_on true (g.S.SourceMapper.lines c.args.cm.now) (maps_in g.C.Comments.maps c.args.comments) c.args.cfg (g.N.Node.part c.args.node.now) in
    c.from_utf8.ensures.succeeds (IsUtf8-from_is_utf8 _ (ap is_utf8 all ∙ sym c.into_parts-text.ensures.whole ∙ ap (λ (s : Sheet). s.whole) c.in-Ok.ensures.sheet ∙ whole))

pub returns-in-Ok-clause-text : goal.returns-in-Ok-clause-text
returns-in-Ok-clause-text g c =
    let all : c.into_parts-text.result.0.items ≡ (sheet_of c.in-Ok.writer).text = ap or_empty (c.into_parts-text.ensures.text refl) in
    let same : string_bytes c.unwrap.result ≡ c.into_parts-text.result.0.items = search rules in
    same ∙ all ∙ ap (λ (s : Sheet). s.text) c.in-Ok.ensures.sheet

pub returns-in-Ok-clause-positions : goal.returns-in-Ok-clause-positions
returns-in-Ok-clause-positions g c = c.into_parts-text.ensures.pairs ∙ ap (λ (s : Sheet). s.pairs) c.in-Ok.ensures.sheet

pub returns-in-Ok-clause-reads : goal.returns-in-Ok-clause-reads
returns-in-Ok-clause-reads g c = λ root same well closed.
    let lines = g.S.SourceMapper.lines c.args.cm.now in
    let maps = maps_in g.C.Comments.maps c.args.comments in
    let part = g.N.Node.part c.args.node.now in
    let config = c.args.cfg in
    subst (λ z. ReadsAs (unlined config) config.minify (root_phrase root) (taken_remarks part (start_with lines maps config).env) z) (sym (returns-in-Ok-clause-text g c)) (code_reads_on true lines maps config root part same well closed c.in-Ok.ensures.printable)

pub returns-in-Ok-clause-recorded : goal.returns-in-Ok-clause-recorded
returns-in-Ok-clause-recorded g c =
    let lines = g.S.SourceMapper.lines c.args.cm.now in
    let maps = maps_in g.C.Comments.maps c.args.comments in
    let part = g.N.Node.part c.args.node.now in
    let config = c.args.cfg in
    let sheet = sheet_with lines maps config part in
    let stand = stand_with config.minify sheet (records_with lines maps config part c.in-Ok.ensures.printable) in
    subst (λ t. StandIn origin t c.into_parts-text.result.1.items) (sym (returns-in-Ok-clause-text g c)) (subst (λ t. StandIn origin sheet.text t) (sym (returns-in-Ok-clause-positions g c)) stand)

pub returns-in-Ok-clause-once : goal.returns-in-Ok-clause-once
returns-in-Ok-clause-once g c =
    let lines = g.S.SourceMapper.lines c.args.cm.now in
    let maps = maps_in g.C.Comments.maps c.args.comments in
    let part = g.N.Node.part c.args.node.now in
    let config = c.args.cfg in
    subst (AreNew []) (sym (returns-in-Ok-clause-positions g c)) (new_with config.minify (sheet_with lines maps config part) (records_with lines maps config part c.in-Ok.ensures.printable))

pub returns-in-Ok-clause-names : goal.returns-in-Ok-clause-names
returns-in-Ok-clause-names g c = λ root same well.
    let lines = g.S.SourceMapper.lines c.args.cm.now in
    let maps = maps_in g.C.Comments.maps c.args.comments in
    let part = g.N.Node.part c.args.node.now in
    let config = c.args.cfg in
    let sheet = sheet_with lines maps config part in
    let names = names_in (root_phrase root) in
    subst (λ t. NamesStand (unlined config) origin t c.into_parts-text.result.1.items names) (sym (returns-in-Ok-clause-text g c)) (subst (λ t. NamesStand (unlined config) origin sheet.text t names) (sym (returns-in-Ok-clause-positions g c)) (names_with lines maps config root part same well c.in-Ok.ensures.printable))

pub returns-in-Ok-clause-printed : goal.returns-in-Ok-clause-printed
unfolding Follows
returns-in-Ok-clause-printed g c = (c.in-Ok.ensures.printable, refl)
