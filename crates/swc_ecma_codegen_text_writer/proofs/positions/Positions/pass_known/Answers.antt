use Rattle.std.proofs.Common.{◌≡◌, [], true, rules, sym, subst, ◌∙◌}
use Rattle.swc_ecma_codegen_text_writer.specs.Reach.{Shows, is_in_line}
use Rattle.swc_ecma_codegen_text_writer.proofs.Reaching.{in_line}
use Rattle.swc_ecma_codegen_text_writer.proofs.positions.Positions.pass_known.Goals as goal

-- a text that stays in its line
pub returns-then-stays_in_line-clause-place : goal.returns-then-stays_in_line-clause-place
returns-then-stays_in_line-clause-place g c p h =
    let text = c.args.text.now in
    let some : text ≡ [] → ⊥ = search rules in
    let plain : is_in_line text ≡ true = sym c.requires ∙ c.if-stays_in_line.true in
    c.move_to.ensures.place _ (subst (Shows c.after_units-reached.result) (sym (in_line text p some plain)) (c.after_units-reached.ensures.shows p h))
