use Rattle.std.proofs.Common.{Result, Ok, Err}
use Rattle.swc_ecma_codegen_common.specs.declared.errors.Refusal.{Refusal}
use Rattle.swc_ecma_codegen_grammar.specs.declared.kinds.Kind.TheVariants.{Name}
use Rattle.swc_ecma_codegen_spans.specs.Spans.{dummy_span}
use Rattle.swc_ecma_codegen_text_writer.specs.Sheet.{Symbol}
use Rattle.swc_ecma_codegen_tokens.specs.Run.{Part, State, Does, Guard, Token, step}
use Rattle.swc_ecma_codegen_tokens.specs.Words as words
use Rattle.swc_ecma_codegen_tokens.specs.Words.{start_of}
use Rattle.swc_ecma_codegen_tokens.specs.View.{state_of}
use Rattle.swc_ecma_codegen_tokens.proofs.Emission.Calls.{passed}
use Rattle.swc_ecma_codegen_tokens.proofs.LowerEmitter.symbol_here.Goals as goal

-- two parts in order
both : (p q : Part) (a m b : State) (r : Result (Unit {0}) Refusal) → Does p a m (Ok tt) → Does q m b r → Does (λ rest. p (q rest)) a b r
both p q a m b (Ok u) h k = λ lines maps rest c r f. h lines maps (q rest) c r (k lines maps rest c r f)
both p q a m b (Err e) h k = λ lines maps rest. h lines maps (q rest) _ (Err e) (k lines maps rest)

pub returns-in-Err-clause-items : goal.returns-in-Err-clause-items
unfolding words.symbol
returns-in-Err-clause-items g c = λ lines maps rest. passed c.args.text.now (state_of c.args.cfg.now (g.W.WriteJs.sheet c.args.wr.now) c.args.self.now) c.requires.unfailed c.requires.passes lines maps _ _ _ (c.in-Err.ensures.items lines maps (step (Token Name (Symbol dummy_span c.args.text.now)) rest))

pub returns-clause-items : goal.returns-clause-items
unfolding words.symbol
returns-clause-items g c =
    let name = step (Token Name (Symbol dummy_span c.args.text.now)) in
    both (step (Guard c.args.text.now)) (λ rest. start_of c.args.span (name rest)) _ _ _ _ (passed c.args.text.now (state_of c.args.cfg.now (g.W.WriteJs.sheet c.args.wr.now) c.args.self.now) c.requires.unfailed c.requires.passes)
    (both (start_of c.args.span) name _ _ _ _ c.in-Ok.ensures.items c.put_symbol.ensures.items)
