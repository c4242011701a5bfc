use Rattle.std.proofs.Common.{sym, subst, ap, ◌∙◌, length, ◌<◌}
use Rattle.std.specs.Option.{option_copied}
use Rattle.swc_ecma_codegen_grammar.proofs.Skips.{piece_shorter}
use Rattle.swc_ecma_codegen_grammar.proofs.gaps.+skip.Goals as goal

pub skip-requires : goal.skip-requires
skip-requires t c =
    let shorter : length c.in-Some.rest.now < length c.args.text.now = piece_shorter c.args.text.now c.in-Some.rest.now (sym c.after_piece.ensures ∙ ap option_copied c.in-Some.is) in
    (subst (λ z. length c.in-Some.rest.now < z) c.decreases shorter, tt)
