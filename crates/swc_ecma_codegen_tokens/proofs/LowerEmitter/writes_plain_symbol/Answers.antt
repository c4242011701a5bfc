use Rattle.swc_ecma_codegen_grammar.specs.declared.kinds.Kind.TheVariants.{Name}
use Rattle.swc_ecma_codegen_spans.specs.Spans.{dummy_span}
use Rattle.swc_ecma_codegen_text_writer.specs.Sheet.{Symbol}
use Rattle.swc_ecma_codegen_tokens.specs.Run.{Guard, Token, step}
use Rattle.swc_ecma_codegen_tokens.specs.Words as words
use Rattle.swc_ecma_codegen_tokens.specs.Words.{start_of}
use Rattle.swc_ecma_codegen_tokens.specs.View.{state_of}
use Rattle.swc_ecma_codegen_tokens.proofs.Emission.Calls.{passed}
use Rattle.swc_ecma_codegen_tokens.proofs.NameTokens.Alone.{both}
use Rattle.swc_ecma_codegen_tokens.proofs.LowerEmitter.writes_plain_symbol.Goals as goal

pub returns-in-Err-clause-items : goal.returns-in-Err-clause-items
unfolding words.symbol
returns-in-Err-clause-items g c = λ lines maps rest. passed c.args.sym.now (state_of c.args.cfg.now (g.W.WriteJs.sheet c.args.wr.now) c.args.self.now) c.requires.unfailed c.requires.passes lines maps _ _ _ (c.in-Err.ensures.items lines maps (step (Token Name (Symbol dummy_span c.args.sym.now)) rest))

pub returns-clause-items : goal.returns-clause-items
unfolding words.symbol
returns-clause-items g c =
    let name = step (Token Name (Symbol dummy_span c.args.sym.now)) in
    both (step (Guard c.args.sym.now)) (λ rest. start_of c.args.span (name rest)) _ _ _ _ (passed c.args.sym.now (state_of c.args.cfg.now (g.W.WriteJs.sheet c.args.wr.now) c.args.self.now) c.requires.unfailed c.requires.passes)
    (both (start_of c.args.span) name _ _ _ _ c.in-Ok.ensures.items c.puts_known_symbol.ensures.items)
