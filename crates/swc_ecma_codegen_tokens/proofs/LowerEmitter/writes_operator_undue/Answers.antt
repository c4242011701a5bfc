use Rattle.std.specs.Str.{chars}
use Rattle.swc_ecma_codegen_grammar.specs.declared.kinds.Kind.TheVariants.{Punctuator}
use Rattle.swc_ecma_codegen_literals.specs.Punctuators.{spelling}
use Rattle.swc_ecma_codegen_text_writer.specs.Sheet.{Operator}
use Rattle.std.proofs.Common.{None}
use Rattle.swc_ecma_codegen_tokens.specs.Run.{Guard, Token, step}
use Rattle.swc_ecma_codegen_tokens.specs.Words.{operator}
use Rattle.swc_ecma_codegen_tokens.specs.View.{state_of}
use Rattle.swc_ecma_codegen_tokens.proofs.Emission.Calls.{passed}
use Rattle.swc_ecma_codegen_tokens.proofs.NameTokens.Alone.{both}
use Rattle.swc_ecma_codegen_tokens.proofs.LowerEmitter.writes_operator_undue.Goals as goal

pub returns-clause-items : goal.returns-clause-items
unfolding operator
returns-clause-items g c =
    let t = spelling c.args.mark in
    both (step (Guard t)) (step (Token Punctuator (Operator None t))) _ _ _ _ (passed t (state_of c.args.cfg.now (g.W.WriteJs.sheet c.args.wr.now) c.args.self.now) c.requires.unfailed (c.requires.passes (chars t)))
    c.puts_operator.ensures.items
