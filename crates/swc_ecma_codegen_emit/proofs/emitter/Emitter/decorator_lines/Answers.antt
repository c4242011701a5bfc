use Rattle.swc_ecma_codegen_emit.proofs.emitter.Emitter.decorator_lines.Goals as goal

pub returns : goal.returns
returns g c = record { items = c.in_order.ensures.items }
