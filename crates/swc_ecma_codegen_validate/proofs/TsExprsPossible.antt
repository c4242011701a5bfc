-- When expressions of TypeScript that end with a token of their own are well-formed.
use Rattle.std.proofs.Common.{◌≡◌}
use Rattle.swc_ecma_codegen_tree.specs.declared.ts_exprs.TsConstAssertion.{TsConstAssertion}
use Rattle.swc_ecma_codegen_tree.specs.declared.ts_exprs.TsNonNullExpr.{TsNonNullExpr}
use Rattle.swc_ecma_codegen_grammar.specs.PatPhrases.{value_at}
use Rattle.swc_ecma_codegen_grammar.specs.Phrases.{Phrase, is_possible}
use Rattle.swc_ecma_codegen_grammar.specs.TsExprPhrases.{ts_const_assertion, ts_non_null_expr}
use Rattle.swc_ecma_codegen_grammar.specs.declared.roles.Role.{Role}
use Rattle.swc_ecma_codegen_validate.proofs.Lists.{and_true}

pub const_assertion_possible : {X : Type 0} (f : X → Role → Phrase) (n : TsConstAssertion X) → is_possible (ts_const_assertion f n) ≡ is_possible (value_at f n.expr)
unfolding is_possible ts_const_assertion
const_assertion_possible f n = and_true _

pub non_null_possible : {X : Type 0} (f : X → Role → Phrase) (n : TsNonNullExpr X) → is_possible (ts_non_null_expr f n) ≡ is_possible (value_at f n.expr)
unfolding is_possible ts_non_null_expr
non_null_possible f n = and_true _
