use Rattle.std.proofs.Common.{refl, ◌++◌, codes, sym, ◌∙◌}
use Rattle.swc_ecma_codegen_grammar.specs.declared.kinds.Kind.TheVariants.{BigInt}
use Rattle.swc_ecma_codegen_text_writer.specs.Sheet.{Lit}
use Rattle.swc_ecma_codegen_tokens.specs.PreviousToken.{last_at}
use Rattle.swc_ecma_codegen_tokens.specs.Literals.{signed}
use Rattle.swc_ecma_codegen_tokens.proofs.LiteralTokens.NumberEnds.{after_big, big_end}
use Rattle.swc_ecma_codegen_tokens.proofs.Emission.Calls.{called_ends, level, is_level}
use Rattle.swc_ecma_codegen_tokens.proofs.LowerEmitter.put_suffix.Goals as goal

pub returns-clause-items : goal.returns-clause-items
unfolding last_at
returns-clause-items g c = called_ends (signed BigInt (c.args.text.now ++ codes "n")) (Lit c.args.span (codes "n")) _ c.args.self.now c.settle.new.self _ _ _ _ _ c.requires c.write_lit-answer.ensures c.settle.ensures.ok c.settle.ensures.err c.settle.ensures.same (sym (after_big (c.args.text.now ++ codes "n") (last_at c.args.self.now.token.value) ∙ big_end c.args.text.now c.utf8.text))

pub returns-clause-level : goal.returns-clause-level
unfolding is_level
returns-clause-level g c = level _ _ _ _ _ c.write_lit-answer.ensures c.settle.ensures.same refl
