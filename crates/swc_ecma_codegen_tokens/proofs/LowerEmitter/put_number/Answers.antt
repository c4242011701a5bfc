use Rattle.std.proofs.Common.{refl, sym, ap, ◌∙◌}
use Rattle.swc_ecma_codegen_grammar.specs.declared.kinds.Kind.TheVariants.{Number}
use Rattle.swc_ecma_codegen_spans.specs.Spans.{dummy_span}
use Rattle.swc_ecma_codegen_text_writer.specs.Sheet.{StrLit}
use Rattle.swc_ecma_codegen_tokens.specs.PreviousToken.{last_at}
use Rattle.swc_ecma_codegen_tokens.specs.Literals.{signed}
use Rattle.swc_ecma_codegen_tokens.proofs.LiteralTokens.NumberEnds.{number_end, after_number}
use Rattle.swc_ecma_codegen_tokens.proofs.Emission.Calls.{called_ends, level, is_level}
use Rattle.swc_ecma_codegen_tokens.proofs.LowerEmitter.put_number.Goals as goal

pub returns-clause-items : goal.returns-clause-items
unfolding number_end
returns-clause-items g c = called_ends (signed Number c.args.text.now) (StrLit dummy_span c.args.text.now) _ c.args.self.now c.settle.new.self _ _ _ _ _ c.requires c.write_str_lit-answer.ensures c.settle.ensures.ok c.settle.ensures.err c.settle.ensures.same (c.number_end-last.ensures ∙ ap number_end c.size_of.ensures ∙ sym (after_number c.args.text.now (last_at c.args.self.now.token.value)))

pub returns-clause-level : goal.returns-clause-level
unfolding is_level
returns-clause-level g c = level _ _ _ _ _ c.write_str_lit-answer.ensures c.settle.ensures.same refl
