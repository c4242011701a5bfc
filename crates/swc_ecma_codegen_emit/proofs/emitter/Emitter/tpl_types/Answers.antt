use Rattle.swc_ecma_codegen_emit.proofs.emitter.Emitter.tpl_types.Goals as goal

pub returns : goal.returns
returns g c = record { items = c.tpl_parts.ensures.items }
