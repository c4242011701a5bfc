use Rattle.std.proofs.Common.{refl}
use Rattle.swc_ecma_codegen_grammar.specs.declared.kinds.Kind.TheVariants.{Word}
use Rattle.swc_ecma_codegen_grammar.specs.GapRules.{last_after}
use Rattle.swc_ecma_codegen_text_writer.specs.Sheet.{Keyword}
use Rattle.swc_ecma_codegen_tokens.specs.PreviousToken.{last_at}
use Rattle.swc_ecma_codegen_tokens.specs.Run.{after_token, text_of}
use Rattle.swc_ecma_codegen_tokens.proofs.Emission.Calls.{called, level, is_level, noted_ok, noted_err}
use Rattle.swc_ecma_codegen_tokens.proofs.LowerEmitter.call_keyword.Goals as goal

pub returns-clause-items : goal.returns-clause-items
unfolding last_at after_token last_after text_of
returns-clause-items g c = called Word (Keyword c.args.span c.args.text.now) _ c.args.self.now c.settles_noted.new.self _ _ _ _ _ c.requires c.write_keyword-answer.ensures (noted_ok _ c.settles_noted.new.self c.note-before.new.self c.args.self.now _ c.note-before.ensures.token c.note-before.ensures.failed c.settles_noted.ensures.ok) (noted_err _ c.settles_noted.new.self c.args.self.now _ c.note-before.ensures.before c.settles_noted.ensures.err) c.settles_noted.ensures.same refl

pub returns-clause-level : goal.returns-clause-level
unfolding is_level
returns-clause-level g c = level _ _ _ _ _ c.write_keyword-answer.ensures c.settles_noted.ensures.same refl
