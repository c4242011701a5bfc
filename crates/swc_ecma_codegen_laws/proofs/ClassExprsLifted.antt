-- ClassExprs: a law of the words holds of the plan.
use Rattle.std.proofs.Common.{Bool}
use Rattle.swc_ecma_codegen_tree.specs.declared.exprs.ClassExpr.{ClassExpr}
use Rattle.swc_ecma_codegen_tokens.specs.Run.{Part}
use Rattle.swc_ecma_codegen_emit.specs.declared.nodes.Context.TheVariants.{Plain}
use Rattle.swc_ecma_codegen_emit.specs.declared.nodes.Piece.TheVariants.{ClassHead, ClassWord}
use Rattle.swc_ecma_codegen_emit.specs.Places.{Whole, Only}
use Rattle.swc_ecma_codegen_laws.proofs.OfWords.{Known, asks_in, items_in}
use Rattle.swc_ecma_codegen_emit.specs.ClassExprs.{class_expr}
use Rattle.swc_ecma_codegen_laws.proofs.FunctionExprsLifted.{optional_name_holds}

pub class_expr_holds : {X : Type 0} {holds : Bool → Part → Type 0} (known : Known holds X) (bounded : Bool) (n : ClassExpr X) → holds bounded (class_expr (asks_in known) (items_in known) n)
unfolding class_expr
class_expr_holds known bounded n = known.words.and_then bounded (known.words.leading_comments bounded ((asks_in known) n.class.node.value).place.lo) (known.words.and_then bounded (known.words.position bounded ((asks_in known) n.class.node.value).place.lo) (known.words.and_then bounded (known.law bounded n.class.node.value (Only ClassHead)) (known.words.and_then bounded (known.law bounded n.class.node.value (Only ClassWord)) (known.words.and_then bounded (optional_name_holds known.words bounded n.ident) (known.law bounded n.class.node.value (Whole Plain))))))
