use Rattle.std.proofs.Common.{refl, ◌∷◌, []}
use Rattle.swc_ecma_codegen_grammar.specs.declared.kinds.Kind.TheVariants.{Regex}
use Rattle.swc_ecma_codegen_grammar.specs.GapRules.{last_after}
use Rattle.swc_ecma_codegen_text_writer.specs.Sheet.{Str}
use Rattle.swc_ecma_codegen_tokens.specs.PreviousToken.{last_at}
use Rattle.swc_ecma_codegen_tokens.specs.Run.{after_token, after_tokens}
use Rattle.swc_ecma_codegen_tokens.specs.Literals.{regex_text}
use Rattle.swc_ecma_codegen_tokens.proofs.Emission.Calls.{called_ends, level, is_level}
use Rattle.swc_ecma_codegen_tokens.proofs.LowerEmitter.put_flags.Goals as goal

pub returns-clause-items : goal.returns-clause-items
unfolding last_at after_tokens after_token last_after
returns-clause-items g c = called_ends ((Regex, regex_text c.args.exp.now c.args.flags.now) ∷ []) (Str c.args.flags.now) _ c.args.self.now c.settle.new.self _ _ _ _ _ c.requires c.write_str-answer.ensures c.settle.ensures.ok c.settle.ensures.err c.settle.ensures.same refl

pub returns-clause-level : goal.returns-clause-level
unfolding is_level
returns-clause-level g c = level _ _ _ _ _ c.write_str-answer.ensures c.settle.ensures.same refl
