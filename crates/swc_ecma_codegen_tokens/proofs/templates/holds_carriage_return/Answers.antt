use Rattle.std.proofs.Common.{◌∙◌, ap}
use Rattle.swc_ecma_codegen_literals.specs.ValidNames.{has_byte}
use Rattle.swc_ecma_codegen_literals.proofs.Nulls.{contained}
use Rattle.swc_ecma_codegen_tokens.proofs.templates.holds_carriage_return.Goals as goal

pub returns : goal.returns
returns c = c.contains.ensures.value ∙ contained 13 c.as_bytes.result.now ∙ ap (has_byte 13) c.as_bytes.ensures.value
