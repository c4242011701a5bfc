-- Expressions of TypeScript: one production a node. `f` says what is read of what a link holds, in its role. TypeScript handbook, sections
-- "Everyday Types" and "Generics".
use Rattle.std.specs.Prelude.{codes}
use Rattle.swc_ecma_codegen_tree.specs.declared.ts_exprs.TsAsExpr.{TsAsExpr}
use Rattle.swc_ecma_codegen_tree.specs.declared.ts_exprs.TsConstAssertion.{TsConstAssertion}
use Rattle.swc_ecma_codegen_tree.specs.declared.ts_exprs.TsInstantiation.{TsInstantiation}
use Rattle.swc_ecma_codegen_tree.specs.declared.ts_exprs.TsNonNullExpr.{TsNonNullExpr}
use Rattle.swc_ecma_codegen_tree.specs.declared.ts_exprs.TsSatisfiesExpr.{TsSatisfiesExpr}
use Rattle.swc_ecma_codegen_tree.specs.declared.ts_exprs.TsTypeAssertion.{TsTypeAssertion}
use Rattle.swc_ecma_codegen_grammar.specs.Phrases.{Phrase, One, ◌>◌, word, mark}
use Rattle.swc_ecma_codegen_grammar.specs.Tokens as tokens
use Rattle.swc_ecma_codegen_grammar.specs.PatPhrases.{value_at}
use Rattle.swc_ecma_codegen_grammar.specs.TypePhrases.{type_at, args_at}
use Rattle.swc_ecma_codegen_grammar.specs.declared.roles.Role.{Role}

-- `a as B`
unfoldable pub ts_as_expr : {X : Type 0} → (X → Role → Phrase) → TsAsExpr X → Phrase
ts_as_expr f n = value_at f n.expr > word (codes "as") > type_at f n.type_ann

-- `a as const`
unfoldable pub ts_const_assertion : {X : Type 0} → (X → Role → Phrase) → TsConstAssertion X → Phrase
ts_const_assertion f n = value_at f n.expr > word (codes "as") > word (codes "const")

-- `a satisfies B`
unfoldable pub ts_satisfies_expr : {X : Type 0} → (X → Role → Phrase) → TsSatisfiesExpr X → Phrase
ts_satisfies_expr f n = value_at f n.expr > word (codes "satisfies") > type_at f n.type_ann

-- `a!`
unfoldable pub ts_non_null_expr : {X : Type 0} → (X → Role → Phrase) → TsNonNullExpr X → Phrase
ts_non_null_expr f n = value_at f n.expr > mark (codes "!")

-- `<B>a`: the mark behind the type is a token whatever follows
unfoldable pub ts_type_assertion : {X : Type 0} → (X → Role → Phrase) → TsTypeAssertion X → Phrase
ts_type_assertion f n = mark (codes "<") > type_at f n.type_ann > One tokens.tag_close > value_at f n.expr

-- `a<B>`
unfoldable pub ts_instantiation : {X : Type 0} → (X → Role → Phrase) → TsInstantiation X → Phrase
ts_instantiation f n = value_at f n.expr > args_at f n.type_args
