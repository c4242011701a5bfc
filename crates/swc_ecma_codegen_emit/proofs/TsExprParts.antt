-- What is written of expressions of TypeScript is what they read as.
use Rattle.std.proofs.Common.{refl, codes, None}
use Rattle.swc_ecma_codegen_tree.specs.declared.ts_exprs.TsAsExpr.{TsAsExpr}
use Rattle.swc_ecma_codegen_tree.specs.declared.ts_exprs.TsConstAssertion.{TsConstAssertion}
use Rattle.swc_ecma_codegen_tree.specs.declared.ts_exprs.TsInstantiation.{TsInstantiation}
use Rattle.swc_ecma_codegen_tree.specs.declared.ts_exprs.TsNonNullExpr.{TsNonNullExpr}
use Rattle.swc_ecma_codegen_tree.specs.declared.ts_exprs.TsSatisfiesExpr.{TsSatisfiesExpr}
use Rattle.swc_ecma_codegen_tree.specs.declared.ts_exprs.TsTypeAssertion.{TsTypeAssertion}
use Rattle.swc_ecma_codegen_grammar.specs.TsExprPhrases as lists
use Rattle.swc_ecma_codegen_grammar.specs.declared.roles.Role.TheVariants.{TypeArguments}
use Rattle.swc_ecma_codegen_tokens.specs.Written.{Anything}
use Rattle.swc_ecma_codegen_tokens.proofs.Reading.Phrased.{Prints, then, after, prints_keyword, prints_punct, prints_close}
use Rattle.swc_ecma_codegen_tokens.proofs.Reading.Printed.{writes_space}
use Rattle.swc_ecma_codegen_tokens.proofs.Commenting.CommentPrints.{writes_leading}
use Rattle.swc_ecma_codegen_tokens.proofs.Jsx.TagPrints.{prints_spots}
use Rattle.swc_ecma_codegen_emit.specs.declared.nodes.Context.TheVariants.{Plain}
use Rattle.swc_ecma_codegen_emit.specs.Places.{Whole}
use Rattle.swc_ecma_codegen_emit.specs.TsExprs as words
use Rattle.swc_ecma_codegen_emit.proofs.AnnotationParts.{word_space_prints}
use Rattle.swc_ecma_codegen_emit.proofs.Linked.{Linked, expr_at}
use Rattle.swc_ecma_codegen_emit.proofs.MarkWords as marks
use Rattle.swc_ecma_codegen_emit.proofs.TsExprWords as expr_words
use Rattle.swc_ecma_codegen_emit.proofs.TypeParts.{type_at}
use Rattle.swc_ecma_codegen_emit.proofs.TypeWords as type_words

pub as_prints : {X : Type 0} (l : Linked X) (n : TsAsExpr X) → Prints l.env (words.ts_as_expr l.items n) (lists.ts_as_expr l.reads n)
unfolding words.ts_as_expr lists.ts_as_expr
as_prints l n =
    after (writes_leading l.env n.span.lo)
    (then (expr_at l n.expr Plain) (after (writes_space l.env) (then (word_space_prints l.env (codes "as") marks.as_word) (type_at l n.type_ann))))

pub const_assertion_prints : {X : Type 0} (l : Linked X) (n : TsConstAssertion X) → Prints l.env (words.ts_const_assertion l.items n) (lists.ts_const_assertion l.reads n)
unfolding words.ts_const_assertion lists.ts_const_assertion
const_assertion_prints l n =
    after (writes_leading l.env n.span.lo)
    (then (expr_at l n.expr Plain)
    (after (writes_space l.env)
    (then (word_space_prints l.env (codes "as") marks.as_word) (prints_keyword l.env None (codes "const") marks.const_word))))

pub satisfies_prints : {X : Type 0} (l : Linked X) (n : TsSatisfiesExpr X) → Prints l.env (words.ts_satisfies_expr l.items n) (lists.ts_satisfies_expr l.reads n)
unfolding words.ts_satisfies_expr lists.ts_satisfies_expr
satisfies_prints l n =
    after (writes_leading l.env n.span.lo)
    (then (expr_at l n.expr Plain)
    (after (writes_space l.env) (then (word_space_prints l.env (codes "satisfies") expr_words.satisfies_word) (type_at l n.type_ann))))

pub non_null_prints : {X : Type 0} (l : Linked X) (n : TsNonNullExpr X) → Prints l.env (words.ts_non_null_expr l.items n) (lists.ts_non_null_expr l.reads n)
unfolding words.ts_non_null_expr lists.ts_non_null_expr
non_null_prints l n = after (writes_leading l.env n.span.lo) (then (expr_at l n.expr Plain) (prints_punct l.env (codes "!") expr_words.bang))

pub type_assertion_prints : {X : Type 0} (l : Linked X) (n : TsTypeAssertion X) → Prints l.env (words.ts_type_assertion l.items n) (lists.ts_type_assertion l.reads n)
unfolding words.ts_type_assertion lists.ts_type_assertion
type_assertion_prints l n =
    after (writes_leading l.env n.span.lo)
    (then (prints_punct l.env (codes "<") type_words.less)
    (then (type_at l n.type_ann) (then (prints_close l.env) (expr_at l n.expr Plain))))

pub instantiation_prints : {X : Type 0} (l : Linked X) (n : TsInstantiation X) → Prints l.env (words.ts_instantiation l.items n) (lists.ts_instantiation l.reads n)
unfolding words.ts_instantiation lists.ts_instantiation
instantiation_prints l n =
    after (writes_leading l.env n.span.lo)
    (then (expr_at l n.expr Plain) (prints_spots Anything Anything refl refl (l.law n.type_args.node.value (Whole Plain) TypeArguments)))
