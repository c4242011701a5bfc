use Rattle.std.proofs.Common.{refl, ◌++◌, codes, None, sym, ◌∙◌}
use Rattle.swc_ecma_codegen_grammar.specs.declared.kinds.Kind.TheVariants.{Number}
use Rattle.swc_ecma_codegen_text_writer.specs.Sheet.{Punct}
use Rattle.swc_ecma_codegen_tokens.specs.PreviousToken.{last_at}
use Rattle.swc_ecma_codegen_tokens.specs.Literals.{signed}
use Rattle.swc_ecma_codegen_tokens.proofs.LiteralTokens.NumberEnds.{after_number, dot_end}
use Rattle.swc_ecma_codegen_tokens.proofs.Emission.Calls.{called_ends, level, is_level}
use Rattle.swc_ecma_codegen_tokens.proofs.LowerEmitter.put_dot.Goals as goal

pub returns-clause-items : goal.returns-clause-items
unfolding last_at
returns-clause-items g c = called_ends (signed Number (c.args.text.now ++ codes ".")) (Punct None (codes ".")) _ c.args.self.now c.settle.new.self _ _ _ _ _ c.requires.fresh c.write_punct-answer.ensures c.settle.ensures.ok c.settle.ensures.err c.settle.ensures.same (sym (after_number (c.args.text.now ++ codes ".") (last_at c.args.self.now.token.value) ∙ dot_end c.args.text.now c.utf8.text c.requires.integer))

pub returns-clause-level : goal.returns-clause-level
unfolding is_level
returns-clause-level g c = level _ _ _ _ _ c.write_punct-answer.ensures c.settle.ensures.same refl
