use Rattle.std.proofs.Common.{List, ℕ, sym, ◌∙◌, ap, subst}
use Rattle.std.specs.Str.{chars}
use Rattle.swc_ecma_codegen_tokens.specs.Run.{Does, Guard, step}
use Rattle.swc_ecma_codegen_tokens.specs.Starts.{start_class}
use Rattle.swc_ecma_codegen_tokens.specs.View.{state_of}
use Rattle.swc_ecma_codegen_tokens.proofs.Gaps.Marks.{mark_chars}
use Rattle.swc_ecma_codegen_tokens.proofs.LowerEmitter.guard_mark.Goals as goal

pub guard-requires : goal.guard-requires
guard-requires g c = ap (λ t. start_class (chars t)) c.as_str.ensures ∙ ap start_class (mark_chars c.args.mark) ∙ sym c.of_mark.ensures

pub returns-clause-items : goal.returns-clause-items
returns-clause-items g c =
    let P : List ℕ → Type 0 = λ t. Does (step (Guard t)) (state_of c.args.cfg.now (g.W.WriteJs.sheet c.args.wr.now) c.args.self.now) (state_of c.args.cfg.now (g.W.WriteJs.sheet c.guard.new.wr) c.guard.new.self) c.guard.result in
    subst P c.as_str.ensures c.guard.ensures.items
