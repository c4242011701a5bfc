-- Templates: a law of the words holds of the plan.
use Rattle.std.specs.Prelude.{Bool, false}
use Rattle.swc_ecma_codegen_tree.specs.Links.{ExprBox}
use Rattle.swc_ecma_codegen_tree.specs.declared.exprs.Tpl.{Tpl}
use Rattle.swc_ecma_codegen_tree.specs.declared.exprs.TaggedTpl.{TaggedTpl}
use Rattle.swc_ecma_codegen_grammar.specs.TemplatePhrases.{is_counted}
use Rattle.swc_ecma_codegen_tokens.specs.Run.{Part}
use Rattle.swc_ecma_codegen_tokens.specs.declared.refusals.Unprintable.TheVariants as unprintable
use Rattle.swc_ecma_codegen_emit.specs.declared.nodes.Context.TheVariants.{Plain, Callee, Tagged}
use Rattle.swc_ecma_codegen_emit.specs.Places.{Whole}
use Rattle.swc_ecma_codegen_laws.proofs.OfWords.{Known, items_in, either, tpl_parts_hold}
use Rattle.swc_ecma_codegen_emit.specs.Templates.{tpl_placed, bad_shape, tpl, tagged_tpl}
use Rattle.swc_ecma_codegen_laws.proofs.AnnotationsLifted.{type_args_holds}

pub tpl_placed_holds : {X : Type 0} {holds : Bool → Part → Type 0} (known : Known holds X) (bounded : Bool) (tagged : Bool) (n : Tpl X) → holds bounded (tpl_placed (items_in known) tagged n)
unfolding tpl_placed
tpl_placed_holds {X = X} known bounded tagged n = known.words.and_then bounded (known.words.leading_comments bounded n.span.lo) (known.words.and_then bounded (known.words.position bounded n.span.lo) (known.words.and_then bounded (tpl_parts_hold known.words bounded (λ (x : ExprBox X). known.node x.node.value) (λ x. known.law false x.node.value (Whole Plain)) tagged n.exprs.items n.quasis.items) (known.words.position bounded n.span.hi)))

pub tpl_holds : {X : Type 0} {holds : Bool → Part → Type 0} (known : Known holds X) (bounded : Bool) (tagged : Bool) (n : Tpl X) → holds bounded (tpl (items_in known) tagged n)
unfolding tpl bad_shape
tpl_holds known bounded tagged n = either known.words bounded (is_counted n.exprs.items n.quasis.items) (tpl_placed_holds known bounded tagged n) (known.words.refuse bounded unprintable.BadShape)

pub tagged_tpl_holds : {X : Type 0} {holds : Bool → Part → Type 0} (known : Known holds X) (bounded : Bool) (n : TaggedTpl X) → holds bounded (tagged_tpl (items_in known) n)
unfolding tagged_tpl
tagged_tpl_holds known bounded n = known.words.and_then bounded (known.words.leading_comments bounded n.span.lo) (known.words.and_then bounded (known.words.position bounded n.span.lo) (known.words.and_then bounded (known.law bounded n.tag.node.value (Whole Callee)) (known.words.and_then bounded (type_args_holds known bounded Plain n.type_params) (known.words.and_then bounded (known.law bounded n.tpl.node.value (Whole Tagged)) (known.words.position bounded n.span.hi)))))
