use Rattle.std.proofs.Common.{true, refl, ap, ◌∙◌}
use Rattle.std.proofs.lemmas.Bool.{ne_eqb}
use Rattle.swc_ecma_codegen_common.specs.Refusals.{reason_of}
use Rattle.swc_ecma_codegen_tokens.specs.View.{state_of}
use Rattle.swc_ecma_codegen_tokens.proofs.Emission.Emitting.{emits_failed}
use Rattle.swc_ecma_codegen_tokens.proofs.Listing.ListCommas.{comma_read, comma_unread}
use Rattle.swc_ecma_codegen_tokens.specs.Adds.{stands_with_comma}
use Rattle.swc_ecma_codegen_tokens.proofs.Listing.ListsSoFar.{adds_by, no_tokens, nowhere_none, somewhere_same}
use Rattle.swc_ecma_codegen_tokens.proofs.LowerEmitter.source_comma.Goals as goal

pub returns-then-self-clause-items : goal.returns-then-self-clause-items
returns-then-self-clause-items g c = λ maps rest. emits_failed _ _ c.if-self.true

pub returns-in-Ok-clause-items : goal.returns-in-Ok-clause-items
returns-in-Ok-clause-items g c = λ maps. comma_read (g.S.SourceMapper.lines c.args.cm.now) maps c.args.parent c.in-Ok.wanted (state_of c.args.cfg.now (g.W.WriteJs.sheet c.args.wr.now) c.args.self.now) (state_of c.args.cfg.now (g.W.WriteJs.sheet c.comma_if.new.wr) c.comma_if.new.self) _ (ne_eqb c.args.parent.lo.0 0 c.if-parent-eq0.false) c.if-self.false c.in-Ok.ensures.exactly c.comma_if.ensures.items

pub returns-in-Err-clause-items : goal.returns-in-Err-clause-items
returns-in-Err-clause-items g c = λ maps. comma_unread (g.S.SourceMapper.lines c.args.cm.now) maps c.args.parent _ (state_of c.args.cfg.now (g.W.WriteJs.sheet c.args.wr.now) c.args.self.now) (record (state_of c.args.cfg.now (g.W.WriteJs.sheet c.args.wr.now) c.args.self.now) { failed = true }) (ne_eqb c.args.parent.lo.0 0 c.if-parent-eq0.false) c.if-self.false (c.refusal.ensures ∙ ap reason_of c.in-Err.ensures.refused) refl

pub returns-then-parent-eq0-clause-reads : goal.returns-then-parent-eq0-clause-reads
returns-then-parent-eq0-clause-reads g c = λ old tokens rs h. no_tokens old _ tokens rs _ (nowhere_none (g.S.SourceMapper.lines c.args.cm.now) c.args.parent c.if-parent-eq0.true) h

pub returns-in-Ok-clause-reads : goal.returns-in-Ok-clause-reads
returns-in-Ok-clause-reads g c = adds_by c.in-Ok.wanted (stands_with_comma (g.S.SourceMapper.lines c.args.cm.now) c.args.parent) _ _ c.comma_if.result (somewhere_same (g.S.SourceMapper.lines c.args.cm.now) c.args.parent c.in-Ok.wanted (ne_eqb c.args.parent.lo.0 0 c.if-parent-eq0.false) c.in-Ok.ensures.exactly) c.comma_if.ensures.reads
