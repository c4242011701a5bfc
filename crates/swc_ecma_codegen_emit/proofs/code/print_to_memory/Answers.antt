use Rattle.std.proofs.Common.{◌≡◌, ◌∷◌, [], None, IfOk, IfErr, refl, ap, ◌∙◌, subst}
use Rattle.swc_ecma_codegen_text_writer.specs.Sheet.{Sheet, holds_semicolons}
use Rattle.swc_ecma_codegen_text_writer.specs.View.{sheet_of, new_sheet}
use Rattle.swc_ecma_codegen_grammar.specs.Comments.{maps_in}
use Rattle.swc_ecma_codegen_tokens.specs.Run.{steps_in, unprintable_in}
use Rattle.swc_ecma_codegen_emit.specs.Texts.{sheet_on, start_on, unheld, GivesCauseOrLast}
use Rattle.swc_ecma_codegen_emit.proofs.code.print_to_memory.Goals as goal

-- the writer begins with a blank sheet
pub print_with_settings-requires : goal.print_with_settings-requires
print_with_settings-requires g c = ap (λ (s : Sheet). holds_semicolons s.semicolons) (c.new-blank.ensures.sheet refl ∙ ap (λ t. new_sheet t (10 ∷ [])) c.new.ensures.items)

pub returns-clause-sheet : goal.returns-clause-sheet
returns-clause-sheet g c =
    let lines = g.S.SourceMapper.lines c.args.cm.now in
    let maps = maps_in g.C.Comments.maps c.args.comments in
    let part = g.N.Node.part c.args.node.now in
    subst (λ s. IfOk c.print_with_settings.result (λ w. unheld (sheet_of w) ≡ unheld (sheet_on s lines maps c.args.cfg part))) (c.new-blank.ensures.sheet refl ∙ ap (λ t. new_sheet t (10 ∷ [])) c.new.ensures.items) c.print_with_settings.ensures.sheet

pub returns-clause-printable : goal.returns-clause-printable
returns-clause-printable g c =
    let lines = g.S.SourceMapper.lines c.args.cm.now in
    let maps = maps_in g.C.Comments.maps c.args.comments in
    let part = g.N.Node.part c.args.node.now in
    subst (λ s. IfOk c.print_with_settings.result (λ w. unprintable_in (steps_in part (start_on s lines maps c.args.cfg)) ≡ None)) (c.new-blank.ensures.sheet refl ∙ ap (λ t. new_sheet t (10 ∷ [])) c.new.ensures.items) c.print_with_settings.ensures.printable

pub returns-clause-cause : goal.returns-clause-cause
returns-clause-cause g c =
    let lines = g.S.SourceMapper.lines c.args.cm.now in
    let maps = maps_in g.C.Comments.maps c.args.comments in
    let part = g.N.Node.part c.args.node.now in
    subst (λ s. IfErr c.print_with_settings.result (GivesCauseOrLast c.args.cfg part (start_on s lines maps c.args.cfg))) (c.new-blank.ensures.sheet refl ∙ ap (λ t. new_sheet t (10 ∷ [])) c.new.ensures.items) c.print_with_settings.ensures.cause
