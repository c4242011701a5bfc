use Rattle.std.proofs.Common.{◌∙◌, ap, option_map}
use Rattle.std.proofs.Math.Path.{fun_ext}
use Rattle.swc_ecma_codegen_grammar.specs.CommentMaps.{without, lists_in}
use Rattle.swc_ecma_codegen_grammar.proofs.Lists.{is_eq_number, mapped_without}
use Rattle.swc_ecma_codegen_grammar.proofs.comments.take.Goals as goal

pub returns-clause-removed : goal.returns-clause-removed
unfolding without lists_in
returns-clause-removed c = fun_ext (λ q.
    ap (option_map (λ list. list.items)) (c.remove.ensures.updates.0 (record { 0 = q }))
    ∙ mapped_without (λ list. list.items) _ _ _ (is_eq_number c.args.pos.0 q))
