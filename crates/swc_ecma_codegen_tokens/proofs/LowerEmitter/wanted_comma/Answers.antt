use Rattle.std.proofs.Common.{true, false, ◌≡◌, sym, ◌∙◌}
use Rattle.swc_ecma_codegen_grammar.specs.ListFormats.{forces_trailing_comma, allows_trailing_comma}
use Rattle.swc_ecma_codegen_tokens.specs.View.{state_of}
use Rattle.swc_ecma_codegen_tokens.proofs.Listing.ListCommas.{comma_forced, comma_allowed}
use Rattle.swc_ecma_codegen_tokens.specs.Adds.{stands_with_comma, wants_comma}
use Rattle.swc_ecma_codegen_tokens.proofs.Listing.ListsSoFar.{adds_by, allowed_wants, forced_wants, no_tokens, none_wanted}
use Rattle.swc_ecma_codegen_tokens.proofs.LowerEmitter.wanted_comma.Goals as goal

pub returns-then-contains-clause-items : goal.returns-then-contains-clause-items
returns-then-contains-clause-items g c =
    let forced : forces_trailing_comma c.args.format.0 ≡ true = sym (c.contains.ensures tt) ∙ c.if-contains.true in
    λ maps. comma_forced (g.S.SourceMapper.lines c.args.cm.now) maps c.args.format.0 c.args.parent (state_of c.args.cfg.now (g.W.WriteJs.sheet c.args.wr.now) c.args.self.now) (state_of c.args.cfg.now (g.W.WriteJs.sheet c.comma_if.new.wr) c.comma_if.new.self) _ forced c.comma_if.ensures.items

pub returns-then-contains-2-clause-items : goal.returns-then-contains-2-clause-items
returns-then-contains-2-clause-items g c =
    let forced : forces_trailing_comma c.args.format.0 ≡ false = sym (c.contains.ensures tt) ∙ c.if-contains.false in
    let allowed : allows_trailing_comma c.args.format.0 ≡ true = sym (c.contains-2.ensures tt) ∙ c.if-contains-2.true in
    λ maps. comma_allowed c.args.format.0 c.args.parent _ _ _ forced allowed (c.source_comma.ensures.items maps)

pub returns-then-contains-clause-reads : goal.returns-then-contains-clause-reads
returns-then-contains-clause-reads g c =
    let forced : forces_trailing_comma c.args.format.0 ≡ true = sym (c.contains.ensures tt) ∙ c.if-contains.true in
    let lines = g.S.SourceMapper.lines c.args.cm.now in
    adds_by true (wants_comma lines c.args.format.0 c.args.parent) _ _ c.comma_if.result (forced_wants lines c.args.format.0 c.args.parent forced) c.comma_if.ensures.reads

pub returns-then-contains-2-clause-reads : goal.returns-then-contains-2-clause-reads
returns-then-contains-2-clause-reads g c =
    let forced : forces_trailing_comma c.args.format.0 ≡ false = sym (c.contains.ensures tt) ∙ c.if-contains.false in
    let allowed : allows_trailing_comma c.args.format.0 ≡ true = sym (c.contains-2.ensures tt) ∙ c.if-contains-2.true in
    let lines = g.S.SourceMapper.lines c.args.cm.now in
    adds_by (stands_with_comma lines c.args.parent) (wants_comma lines c.args.format.0 c.args.parent) _ _ c.source_comma.result (allowed_wants lines c.args.format.0 c.args.parent forced allowed) c.source_comma.ensures.reads

pub returns-clause-reads : goal.returns-clause-reads
returns-clause-reads g c =
    let forced : forces_trailing_comma c.args.format.0 ≡ false = sym (c.contains.ensures tt) ∙ c.if-contains.false in
    let allowed : allows_trailing_comma c.args.format.0 ≡ false = sym (c.contains-2.ensures tt) ∙ c.if-contains-2.false in
    λ old tokens rs h. no_tokens old _ tokens rs _ (none_wanted (g.S.SourceMapper.lines c.args.cm.now) c.args.format.0 c.args.parent forced allowed) h
