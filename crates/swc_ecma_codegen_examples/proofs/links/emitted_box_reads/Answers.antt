use Rattle.swc_ecma_codegen_examples.proofs.links.emitted_box_reads.Goals as goal

pub returns-clause-items : goal.returns-clause-items
returns-clause-items g c = c.emit_with.ensures.items

pub returns-clause-reads : goal.returns-clause-reads
returns-clause-reads g c = c.emit_with.ensures.reads
