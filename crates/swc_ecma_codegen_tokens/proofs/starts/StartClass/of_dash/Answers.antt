use Rattle.std.proofs.Common.{◌∙◌, sym, true, false}
use Rattle.swc_ecma_codegen_tokens.proofs.Gaps.Starting.{dash_class}
use Rattle.swc_ecma_codegen_tokens.proofs.starts.StartClass.of_dash.Goals as goal

pub returns-then-begins_dash : goal.returns-then-begins_dash
returns-then-begins_dash c = sym (dash_class _ true (sym c.begins_dash.ensures ∙ c.if-begins_dash.true))

pub returns-else-begins_dash : goal.returns-else-begins_dash
returns-else-begins_dash c = sym (dash_class _ false (sym c.begins_dash.ensures ∙ c.if-begins_dash.false))
