use Rattle.std.proofs.Common.{List, ℕ, refl, subst, None}
use Rattle.swc_ecma_codegen_text_writer.specs.Sheet.{Punct}
use Rattle.swc_ecma_codegen_tokens.specs.Run.{Does, Plain, step, after_plain}
use Rattle.swc_ecma_codegen_tokens.specs.View.{state_of}
use Rattle.swc_ecma_codegen_tokens.proofs.Emission.Calls.{called_kept, level, is_level}
use Rattle.swc_ecma_codegen_tokens.proofs.Emission.Emitting.{does_failed}
use Rattle.swc_ecma_codegen_tokens.proofs.LowerEmitter.put_begin.Goals as goal

pub returns-then-self-clause-items : goal.returns-then-self-clause-items
returns-then-self-clause-items g c = λ lines maps rest. does_failed _ _ c.if-self.true lines maps

pub returns-clause-items : goal.returns-clause-items
unfolding after_plain
returns-clause-items g c =
    let P : List ℕ → Type 0 = λ t. Does (step (Plain (Punct None t))) (state_of c.args.cfg.now (g.W.WriteJs.sheet c.args.wr.now) c.args.self.now) (state_of c.args.cfg.now (g.W.WriteJs.sheet c.write_punct-answer.new.self) c.keep.new.self) c.keep.result in
    subst P c.part_begin.ensures (called_kept (Punct None c.part_begin.result.now) _ c.args.self.now c.keep.new.self _ _ _ _ c.if-self.false c.write_punct-answer.ensures c.keep.ensures.token c.keep.ensures.ok c.keep.ensures.err c.keep.ensures.same refl)

pub returns-clause-level : goal.returns-clause-level
unfolding is_level
returns-clause-level g c = level _ _ _ _ _ c.write_punct-answer.ensures c.keep.ensures.same refl
