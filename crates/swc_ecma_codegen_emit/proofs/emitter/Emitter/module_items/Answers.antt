use Rattle.swc_ecma_codegen_emit.proofs.emitter.Emitter.module_items.Goals as goal

pub returns : goal.returns
returns g c = record { items = c.in_order.ensures.items }
