use Rattle.std.proofs.Common.{sym}
use Rattle.swc_ecma_codegen_literals.proofs.Nulls.{turned_no_backslash}
use Rattle.swc_ecma_codegen_tokens.specs.Targets.{wants_escapes}
use Rattle.swc_ecma_codegen_tokens.specs.View.{state_of}
use Rattle.swc_ecma_codegen_tokens.proofs.NameTokens.Spelled.{made_name, remade, spelled_as_it_is}
use Rattle.swc_ecma_codegen_tokens.proofs.LowerEmitter.writes_plain_text.Goals as goal

pub returns-clause-items : goal.returns-clause-items
unfolding wants_escapes
returns-clause-items g c =
    made_name _ _ _ _ _ c.requires.plain.valid (remade _ _ _ _ _ _ (sym (turned_no_backslash c.args.sym.now c.requires.plain.unescaped))
    (spelled_as_it_is _ _ (state_of c.args.cfg.now (g.W.WriteJs.sheet c.args.wr.now) c.args.self.now) _ _ c.requires.plain.as_it_is c.writes_plain_symbol.ensures.items))

pub writes_plain_symbol-requires-clause-unfailed : goal.writes_plain_symbol-requires-clause-unfailed
writes_plain_symbol-requires-clause-unfailed g c = c.requires.plain.unfailed

pub writes_plain_symbol-requires-clause-passes : goal.writes_plain_symbol-requires-clause-passes
writes_plain_symbol-requires-clause-passes g c = c.requires.plain.passes

pub writes_plain_symbol-requires-clause-in_line : goal.writes_plain_symbol-requires-clause-in_line
writes_plain_symbol-requires-clause-in_line g c = c.requires.plain.in_line
