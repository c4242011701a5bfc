use Rattle.std.proofs.Common.{false, sym, true, ◌≡◌, ◌∙◌}
use Rattle.swc_ecma_codegen_grammar.specs.Comments.{no_maps}
use Rattle.swc_ecma_codegen_grammar.specs.ListFormats.{ampersand_delimited, bar_delimited, comma_delimited}
use Rattle.swc_ecma_codegen_grammar.specs.SourceLines.{no_lines}
use Rattle.swc_ecma_codegen_tokens.specs.Adds.{tokens_between}
use Rattle.swc_ecma_codegen_tokens.specs.Run.{with_source}
use Rattle.swc_ecma_codegen_tokens.proofs.Listing.ListsSoFar.{ampersand_between, bar_between, comma_between, no_tokens, none_between, other_tokens}
use Rattle.swc_ecma_codegen_tokens.proofs.Reading.SoFar.{formatting_space_so_far}
use Rattle.swc_ecma_codegen_tokens.proofs.LowerEmitter.delimiter.Goals as goal

pub returns-in_ok-punct-clause-reads : goal.returns-in_ok-punct-clause-reads
returns-in_ok-punct-clause-reads g c =
    let comma : comma_delimited c.args.format.0 ≡ true = sym (c.contains.ensures tt) ∙ c.if-contains.true in
    λ old tokens rs h. other_tokens old _ (tokens_between c.args.format.0) tokens rs _ (comma_between c.args.format.0 comma) (c.in_ok-punct.ensures.reads old tokens rs h)

pub returns-in_ok-punct-2-clause-reads : goal.returns-in_ok-punct-2-clause-reads
unfolding with_source
returns-in_ok-punct-2-clause-reads g c =
    let comma : comma_delimited c.args.format.0 ≡ false = sym (c.contains.ensures tt) ∙ c.if-contains.false in
    let bar : bar_delimited c.args.format.0 ≡ true = sym (c.contains-else-contains.ensures tt) ∙ c.if-contains-2.true in
    λ old tokens rs h. other_tokens old _ (tokens_between c.args.format.0) tokens rs _ (bar_between c.args.format.0 comma bar)
    (c.in_ok-punct-2.ensures.reads old tokens rs (formatting_space_so_far old tokens rs _ _ (c.in_ok-formatting_space.ensures.items no_lines no_maps) h))

pub returns-in_ok-punct-3-clause-reads : goal.returns-in_ok-punct-3-clause-reads
unfolding with_source
returns-in_ok-punct-3-clause-reads g c =
    let comma : comma_delimited c.args.format.0 ≡ false = sym (c.contains.ensures tt) ∙ c.if-contains.false in
    let bar : bar_delimited c.args.format.0 ≡ false = sym (c.contains-else-contains.ensures tt) ∙ c.if-contains-2.false in
    let ampersand : ampersand_delimited c.args.format.0 ≡ true = sym (c.contains-else-contains-2.ensures tt) ∙ c.if-contains-3.true in
    λ old tokens rs h. other_tokens old _ (tokens_between c.args.format.0) tokens rs _ (ampersand_between c.args.format.0 comma bar ampersand)
    (c.in_ok-punct-3.ensures.reads old tokens rs (formatting_space_so_far old tokens rs _ _ (c.in_ok-formatting_space-2.ensures.items no_lines no_maps) h))

pub returns-else-contains-3-clause-reads : goal.returns-else-contains-3-clause-reads
returns-else-contains-3-clause-reads g c =
    let comma : comma_delimited c.args.format.0 ≡ false = sym (c.contains.ensures tt) ∙ c.if-contains.false in
    let bar : bar_delimited c.args.format.0 ≡ false = sym (c.contains-else-contains.ensures tt) ∙ c.if-contains-2.false in
    let ampersand : ampersand_delimited c.args.format.0 ≡ false = sym (c.contains-else-contains-2.ensures tt) ∙ c.if-contains-3.false in
    λ old tokens rs h. no_tokens old (tokens_between c.args.format.0) tokens rs _ (none_between c.args.format.0 comma bar ampersand) h
