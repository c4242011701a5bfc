use Rattle.std.proofs.Common.{◌∙◌, ap, inr}
use Rattle.std.proofs.lemmas.Str.{IsUtf8-from_is_utf8}
use Rattle.swc_ecma_codegen_text_writer.specs.Sheet.{Sheet}
use Rattle.swc_ecma_codegen_grammar.specs.Comments.{maps_in}
use Rattle.swc_ecma_codegen_requests.proofs.Texts.{printed_whole}
use Rattle.swc_ecma_codegen_requests.proofs.emissions.page_of.Goals as goal

-- the page has what the writer has
pub returns-in-Ok-clause-made : goal.returns-in-Ok-clause-made
returns-in-Ok-clause-made g c =
    let lines = g.S.SourceMapper.lines c.args.source.now in
    let maps = maps_in g.C.Comments.maps c.args.comments in
    let part = g.P.Node.part c.args.tree.now in
    let end = c.in-Ok.ensures.sheet in
    record {
      whole = c.in-Ok.ensures.printed;
      utf8 = IsUtf8-from_is_utf8 _ (c.of_writer.ensures.whole ∙ ap (λ (s : Sheet). s.whole) end ∙ printed_whole c.args.layout lines maps c.args.config part);
      text_is = c.of_writer.ensures.text ∙ ap (λ (s : Sheet). s.text) end;
      pairs_are = c.of_writer.ensures.positions ∙ ap (λ (s : Sheet). s.pairs) end;
      left_are = ap (maps_in g.C.Comments.maps) c.of_writer.ensures.comments ∙ c.in-Ok.ensures.left;
    }

pub returns-in-Err-clause-cause : goal.returns-in-Err-clause-cause
returns-in-Err-clause-cause g c = inr c.in-Err.ensures.cause
