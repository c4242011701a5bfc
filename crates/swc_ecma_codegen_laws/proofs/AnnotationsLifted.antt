-- Annotations: a law of the words holds of the plan.
use Rattle.std.specs.Prelude.{ℕ, Bool, List, Option, Some, None, codes}
use Rattle.swc_ecma_codegen_tree.specs.Links.{TsTypeAnnBox, TsTypeParamDeclBox, TsTypeParamInstantiationBox}
use Rattle.swc_ecma_codegen_tokens.specs.Run.{Part}
use Rattle.swc_ecma_codegen_emit.specs.declared.nodes.Context.{Context}
use Rattle.swc_ecma_codegen_emit.specs.declared.nodes.Context.TheVariants.{Plain}
use Rattle.swc_ecma_codegen_emit.specs.Places.{Whole}
use Rattle.swc_ecma_codegen_laws.proofs.OfWords.{OfWords, Known, items_in, either}
use Rattle.swc_ecma_codegen_emit.specs.Annotations.{annotation, spaced_annotation, bang, field_annotation, type_args, type_params, word_before}

pub annotation_holds : {X : Type 0} {holds : Bool → Part → Type 0} (known : Known holds X) (bounded : Bool) (x1 : Option (TsTypeAnnBox X)) → holds bounded (annotation (items_in known) x1)
unfolding annotation
annotation_holds known bounded None = known.words.none bounded
annotation_holds known bounded (Some n) = known.words.and_then bounded (known.words.punct bounded (codes ":")) (known.words.and_then bounded (known.words.formatting_space bounded) (known.law bounded n.node.value (Whole Plain)))

pub spaced_annotation_holds : {X : Type 0} {holds : Bool → Part → Type 0} (known : Known holds X) (bounded : Bool) (x1 : Option (TsTypeAnnBox X)) → holds bounded (spaced_annotation (items_in known) x1)
unfolding spaced_annotation
spaced_annotation_holds known bounded None = known.words.none bounded
spaced_annotation_holds known bounded (Some n) = known.words.and_then bounded (known.words.punct bounded (codes ":")) (known.words.and_then bounded (known.words.space bounded) (known.law bounded n.node.value (Whole Plain)))

pub bang_holds : {holds : Bool → Part → Type 0} (words : OfWords holds) (bounded : Bool) (definite : Bool) → holds bounded (bang definite)
unfolding bang
bang_holds words bounded definite = either words bounded definite (words.punct bounded (codes "!")) (words.none bounded)

pub field_annotation_holds : {X : Type 0} {holds : Bool → Part → Type 0} (known : Known holds X) (bounded : Bool) (definite : Bool) (x2 : Option (TsTypeAnnBox X)) → holds bounded (field_annotation (items_in known) definite x2)
unfolding field_annotation
field_annotation_holds known bounded definite None = known.words.none bounded
field_annotation_holds known bounded definite (Some n) = known.words.and_then bounded (bang_holds known.words bounded definite) (known.words.and_then bounded (known.words.punct bounded (codes ":")) (known.words.and_then bounded (known.words.space bounded) (known.law bounded n.node.value (Whole Plain))))

pub type_args_holds : {X : Type 0} {holds : Bool → Part → Type 0} (known : Known holds X) (bounded : Bool) (context : Context) (x2 : Option (TsTypeParamInstantiationBox X)) → holds bounded (type_args (items_in known) context x2)
unfolding type_args
type_args_holds known bounded context None = known.words.none bounded
type_args_holds known bounded context (Some n) = known.law bounded n.node.value (Whole context)

pub type_params_holds : {X : Type 0} {holds : Bool → Part → Type 0} (known : Known holds X) (bounded : Bool) (x1 : Option (TsTypeParamDeclBox X)) → holds bounded (type_params (items_in known) x1)
unfolding type_params
type_params_holds known bounded None = known.words.none bounded
type_params_holds known bounded (Some n) = known.law bounded n.node.value (Whole Plain)

pub word_before_holds : {holds : Bool → Part → Type 0} (words : OfWords holds) (bounded : Bool) (wanted : Bool) (t : List ℕ) → holds bounded (word_before wanted t)
unfolding word_before
word_before_holds words bounded wanted t = either words bounded wanted (words.and_then bounded (words.keyword bounded None t) (words.space bounded)) (words.none bounded)
