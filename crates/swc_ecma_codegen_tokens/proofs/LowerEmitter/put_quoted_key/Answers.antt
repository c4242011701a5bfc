use Rattle.std.proofs.Common.{refl}
use Rattle.swc_ecma_codegen_grammar.specs.declared.kinds.Kind.TheVariants.{Str}
use Rattle.swc_ecma_codegen_grammar.specs.GapRules.{last_after}
use Rattle.swc_ecma_codegen_spans.specs.Spans.{dummy_span}
use Rattle.swc_ecma_codegen_text_writer.specs.Sheet.{Symbol}
use Rattle.swc_ecma_codegen_tokens.specs.PreviousToken.{last_at}
use Rattle.swc_ecma_codegen_tokens.specs.Run.{after_token, text_of}
use Rattle.swc_ecma_codegen_tokens.proofs.Emission.Calls.{called, level, is_level}
use Rattle.swc_ecma_codegen_tokens.proofs.LowerEmitter.put_quoted_key.Goals as goal

pub returns-clause-items : goal.returns-clause-items
unfolding last_at after_token last_after text_of
returns-clause-items g c = called Str (Symbol dummy_span c.args.text.now) _ c.args.self.now c.settle.new.self _ _ _ _ _ c.requires c.write_symbol-answer.ensures c.settle.ensures.ok c.settle.ensures.err c.settle.ensures.same refl

pub returns-clause-level : goal.returns-clause-level
unfolding is_level
returns-clause-level g c = level _ _ _ _ _ c.write_symbol-answer.ensures c.settle.ensures.same refl
