-- What is written of a class in an expression.
use Rattle.swc_ecma_codegen_tree.specs.declared.exprs.ClassExpr.{ClassExpr}
use Rattle.swc_ecma_codegen_tokens.specs.Run.{Part}
use Rattle.swc_ecma_codegen_tokens.specs.Words.{start_of, leading_comments}
use Rattle.swc_ecma_codegen_emit.specs.declared.nodes.Context.TheVariants.{Plain}
use Rattle.swc_ecma_codegen_emit.specs.declared.nodes.Piece.TheVariants.{ClassHead, ClassWord}
use Rattle.swc_ecma_codegen_emit.specs.Places.{Place, Whole, Only}
use Rattle.swc_ecma_codegen_emit.specs.Answers.{Answers}
use Rattle.swc_ecma_codegen_emit.specs.FunctionExprs.{optional_name}

-- `@a abstract class B extends C { d; }`
unfoldable pub class_expr : {X : Type 0} → (X → Answers) → (X → Place → Part) → ClassExpr X → Part
class_expr asks items n rest =
    let class = n.class.node.value in
    leading_comments (asks class).place.lo
    (start_of (asks class).place (items class (Only ClassHead) (items class (Only ClassWord) (optional_name n.ident (items class (Whole Plain) rest)))))
