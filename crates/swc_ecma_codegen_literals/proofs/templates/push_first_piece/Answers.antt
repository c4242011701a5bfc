use Rattle.std.proofs.Common.{◌≡◌, arith, length}
use Rattle.swc_ecma_codegen_literals.proofs.TemplatePieces.{piece_turn, no_chars}
use Rattle.swc_ecma_codegen_literals.proofs.templates.push_first_piece.Goals as goal

pub returns-in_ok-push_piece-in-Some-clause-spelled :
    goal.returns-in_ok-push_piece-in-Some-clause-spelled
returns-in_ok-push_piece-in-Some-clause-spelled c = piece_turn _ _ _ _ _ _ _ _ c.in-Some.ensures.pieces c.is_dollar.ensures c.in_ok-push_piece-in-Some.ensures

pub returns-in-None-clause-shorter : goal.returns-in-None-clause-shorter
returns-in-None-clause-shorter c = let e : length c.args.raw.now ≡ 0 = no_chars _ c.utf8.raw c.in-None.ensures.none in (omega arith, λ l. omega (arith, e, l))
