use Rattle.std.proofs.Common.{rules, sym, ◌∙◌}
use Rattle.swc_ecma_codegen_tokens.proofs.Listing.ListCommas.{comma_written}
use Rattle.swc_ecma_codegen_tokens.specs.Adds.{ends_with_comma, wants_comma}
use Rattle.swc_ecma_codegen_tokens.proofs.Listing.ListsSoFar.{adds_by, may_end, no_tokens, none_ends}
use Rattle.swc_ecma_codegen_tokens.proofs.LowerEmitter.trailing_comma.Goals as goal

pub returns-clause-items : goal.returns-clause-items
returns-clause-items g c = λ maps. comma_written c.args.format.0 c.args.parent _ _ _ (search rules) (c.wanted_comma.ensures.items maps)

pub returns-then-not-may_have_comma-clause-reads : goal.returns-then-not-may_have_comma-clause-reads
returns-then-not-may_have_comma-clause-reads g c =
    λ old tokens rs h. no_tokens old _ tokens rs _ (none_ends (g.S.SourceMapper.lines c.args.cm.now) c.args.cfg.now c.args.format.0 c.args.parent (sym c.may_have_comma.ensures ∙ c.if-not-may_have_comma.true)) h

pub returns-clause-reads : goal.returns-clause-reads
returns-clause-reads g c =
    let lines = g.S.SourceMapper.lines c.args.cm.now in
    adds_by (wants_comma lines c.args.format.0 c.args.parent) (ends_with_comma lines c.args.cfg.now c.args.format.0 c.args.parent) _ _ c.wanted_comma.result (may_end lines c.args.cfg.now c.args.format.0 c.args.parent (sym c.may_have_comma.ensures ∙ c.if-not-may_have_comma.false)) c.wanted_comma.ensures.reads
