use Rattle.std.proofs.Common.{◌∙◌}
use Rattle.swc_ecma_codegen_tokens.proofs.Emission.Made.{nothing_changes, nothing_made}
use Rattle.swc_ecma_codegen_emit.specs.Places.{by_itself}
use Rattle.swc_ecma_codegen_examples.proofs.Options.{some_written, none_written, follows_part}
use Rattle.swc_ecma_codegen_examples.proofs.links.emitted_option_reads.Goals as goal

pub returns-clause-items : goal.returns-clause-items
returns-clause-items g c = λ some there. follows_part _ (by_itself (g.T.EmitAt.items some)) _ _ _ (some_written _ _ some there) c.emit_with.ensures.items

pub returns-clause-reads : goal.returns-clause-reads
returns-clause-reads g c = λ some root there same. c.emit_with.ensures.reads root (some_written _ _ some there ∙ same)

pub returns-clause-none : goal.returns-clause-none
returns-clause-none g c = λ missing. nothing_changes _ _ _ (follows_part _ (λ rest. rest) _ _ _ (none_written _ _ missing) c.emit_with.ensures.items)

pub returns-clause-none_made : goal.returns-clause-none_made
returns-clause-none_made g c = λ missing fresh. nothing_made _ _ _ (follows_part _ (λ rest. rest) _ _ _ (none_written _ _ missing) c.emit_with.ensures.items) fresh
