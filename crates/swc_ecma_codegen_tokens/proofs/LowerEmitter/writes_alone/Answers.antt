use Rattle.std.proofs.Common.{Bool, Result, sym, subst}
use Rattle.swc_ecma_codegen_common.specs.declared.errors.Refusal.{Refusal}
use Rattle.swc_ecma_codegen_grammar.specs.Comments.{maps_in}
use Rattle.swc_ecma_codegen_grammar.specs.declared.kinds.Kind.TheVariants.{Name}
use Rattle.swc_ecma_codegen_literals.proofs.Nulls.{turned_no_backslash}
use Rattle.swc_ecma_codegen_spans.specs.Spans.{dummy_span}
use Rattle.swc_ecma_codegen_text_writer.specs.Sheet.{Symbol, answered}
use Rattle.swc_ecma_codegen_tokens.specs.Run.{Part, State, Does, DoesTaking, Guard, Token, step}
use Rattle.swc_ecma_codegen_tokens.specs.Targets.{wants_escapes}
use Rattle.swc_ecma_codegen_tokens.specs.Words as words
use Rattle.swc_ecma_codegen_tokens.specs.Words.{start_of, name, symbol, name_text}
use Rattle.swc_ecma_codegen_tokens.specs.View.{state_of}
use Rattle.swc_ecma_codegen_tokens.proofs.Emission.Calls.{passed}
use Rattle.swc_ecma_codegen_tokens.proofs.NameTokens.Alone.{alone, both, unplaced}
use Rattle.swc_ecma_codegen_tokens.proofs.NameTokens.Spelled.{made_name, remade, spelled_as_it_is}
use Rattle.swc_ecma_codegen_tokens.proofs.Reading.Answered.{name_adds}
use Rattle.swc_ecma_codegen_tokens.proofs.LowerEmitter.writes_alone.Goals as goal

pub returns-clause-items : goal.returns-clause-items
unfolding words.symbol wants_escapes
returns-clause-items g c =
    let a : State = state_of c.args.cfg.now (g.W.WriteJs.sheet c.args.wr.now) c.args.self.now in
    let b : State = state_of c.args.cfg.now (g.W.WriteJs.sheet c.sends_symbol.new.wr) c.sends_symbol.new.self in
    let r : Result (Unit {0}) Refusal = answered c.sends_symbol.result c.sends_symbol.new.self.reason in
    let token : Part = step (Token Name (Symbol dummy_span c.args.sym.now)) in
    let text : Does (symbol c.args.span c.args.sym.now) a b r =
    both (step (Guard c.args.sym.now)) (λ rest. start_of c.args.span (token rest)) _ _ _ _ (passed c.args.sym.now a c.requires.plain.unfailed c.requires.plain.passes)
    (unplaced c.args.span token _ _ _ c.requires.unplaced c.sends_symbol.ensures.items) in
    let whole : Does (name_text c.args.span c.args.sym.now) a b r =
    made_name _ _ _ _ _ c.requires.plain.valid (remade _ _ _ _ _ _ (sym (turned_no_backslash c.args.sym.now c.requires.plain.unescaped))
    (spelled_as_it_is _ _ a _ _ c.requires.plain.as_it_is text)) in
    let P : Bool → Type 0 = λ o. DoesTaking (name c.args.span c.args.sym.now o) (maps_in g.C.Comments.maps c.args.comments.now) (maps_in g.C.Comments.maps c.args.comments.now) a b r in
    subst P (sym c.requires.single) (alone g.C.Comments.maps c.args.comments.now c.args.span c.args.sym.now a b r c.requires.uncommented c.requires.settled whole)

pub sends_symbol-requires-clause-unfailed : goal.sends_symbol-requires-clause-unfailed
sends_symbol-requires-clause-unfailed g c = c.requires.plain.unfailed

pub sends_symbol-requires-clause-in_line : goal.sends_symbol-requires-clause-in_line
sends_symbol-requires-clause-in_line g c = c.requires.plain.in_line

pub returns-clause-reads : goal.returns-clause-reads
returns-clause-reads g c = name_adds c.args.span c.args.sym.now c.args.optional c.args.cfg.now _ _ (g.W.WriteJs.sheet c.args.wr.now) c.args.self.now (g.W.WriteJs.sheet c.sends_symbol.new.wr) c.sends_symbol.new.self _ (returns-clause-items g c)
