-- What is written of what types add to other nodes is what it reads as.
use Rattle.std.proofs.Common.{Bool, true, false, not, List, ℕ, codes, refl, Option, Some, None, ◌≡◌}
use Rattle.swc_ecma_codegen_tree.specs.Links.{TsTypeAnnBox, TsTypeParamDeclBox, TsTypeParamInstantiationBox}
use Rattle.swc_ecma_codegen_grammar.specs.AnnotationPhrases as lists
use Rattle.swc_ecma_codegen_grammar.specs.FunctionPhrases.{word_if}
use Rattle.swc_ecma_codegen_grammar.specs.Phrases.{mark, word}
use Rattle.swc_ecma_codegen_grammar.specs.TypePhrases as types
use Rattle.swc_ecma_codegen_grammar.specs.declared.roles.Role.TheVariants.{Annotation, TypeArguments, TypeParameters}
use Rattle.swc_ecma_codegen_tokens.specs.Run.{Env}
use Rattle.swc_ecma_codegen_tokens.specs.Words as parts
use Rattle.swc_ecma_codegen_tokens.specs.Words.{keyword, punct_between, space, allows_break}
use Rattle.swc_ecma_codegen_tokens.specs.Written.{IsWord, IsMark, Anything, InName}
use Rattle.swc_ecma_codegen_tokens.proofs.Reading.Phrased.{then, after, before, prints_nothing, prints_where, prints_keyword, prints_punct, Prints, PrintsOn, PrintsAt, prints_wider, prints_unbroken}
use Rattle.swc_ecma_codegen_tokens.proofs.Reading.Printed.{EndsLines, makes_wider, writes_nothing, writes_space, writes_formatting_space}
use Rattle.swc_ecma_codegen_tokens.proofs.Filling.Shapes.{open_, loose}
use Rattle.swc_ecma_codegen_tokens.proofs.Jsx.TagPrints.{prints_spots, prints_none, wider_on}
use Rattle.swc_ecma_codegen_emit.specs.declared.nodes.Context.{Context}
use Rattle.swc_ecma_codegen_emit.specs.declared.nodes.Context.TheVariants.{Plain}
use Rattle.swc_ecma_codegen_emit.specs.Places.{Whole}
use Rattle.swc_ecma_codegen_emit.specs.Annotations as words
use Rattle.swc_ecma_codegen_emit.proofs.Linked.{Linked}
use Rattle.swc_ecma_codegen_emit.proofs.MarkWords as marks
use Rattle.swc_ecma_codegen_emit.proofs.TsExprWords as expr_words
use Rattle.swc_ecma_codegen_emit.proofs.TypeWords as type_words

pub annotation_prints : {X : Type 0} (l : Linked X) (n : Option (TsTypeAnnBox X)) → PrintsAt open_ l.env (words.annotation l.items n) (lists.annotation l.reads n)
unfolding words.annotation lists.annotation
annotation_prints l None = prints_nothing
annotation_prints l (Some n) = prints_wider open_ refl (then (before (prints_punct l.env (codes ":") marks.colon) (writes_formatting_space l.env)) (l.law n.node.value (Whole Plain) Annotation))

pub spaced_annotation_prints : {X : Type 0} (l : Linked X) (n : Option (TsTypeAnnBox X)) → PrintsAt open_ l.env (words.spaced_annotation l.items n) (lists.annotation l.reads n)
unfolding words.spaced_annotation lists.annotation
spaced_annotation_prints l None = prints_nothing
spaced_annotation_prints l (Some n) = prints_wider open_ refl (then (before (prints_punct l.env (codes ":") marks.colon) (writes_space l.env)) (l.law n.node.value (Whole Plain) Annotation))

pub question_prints : (env : Env) (optional : Bool) → PrintsAt open_ env (parts.question optional) (lists.question optional)
unfolding parts.question lists.question
question_prints env true = prints_wider open_ refl (prints_punct env (codes "?") type_words.question)
question_prints env false = prints_nothing

bang_prints : (env : Env) (definite : Bool) → PrintsAt open_ env (words.bang definite) (lists.bang definite)
unfolding words.bang lists.bang
bang_prints env true = prints_wider open_ refl (prints_punct env (codes "!") expr_words.bang)
bang_prints env false = prints_nothing

pub field_annotation_prints : {X : Type 0} (l : Linked X) (definite : Bool) (n : Option (TsTypeAnnBox X)) → PrintsAt open_ l.env (words.field_annotation l.items definite n) (lists.field_annotation l.reads definite n)
unfolding words.field_annotation lists.field_annotation
field_annotation_prints l definite None = prints_where (not definite) (λ h. prints_nothing)
field_annotation_prints l definite (Some n) =
    prints_wider open_ refl
    (then (bang_prints l.env definite) (then (before (prints_punct l.env (codes ":") marks.colon) (writes_space l.env)) (l.law n.node.value (Whole Plain) Annotation)))

pub type_args_print : {X : Type 0} (l : Linked X) (context : Context) (n : Option (TsTypeParamInstantiationBox X)) → PrintsAt open_ l.env (words.type_args l.items context n) (lists.type_args l.reads n)
unfolding words.type_args lists.type_args
type_args_print l context None = prints_nothing
type_args_print l context (Some n) = prints_wider open_ refl (prints_spots Anything Anything refl refl (l.law n.node.value (Whole context) TypeArguments))

-- behind the name of a tag
pub tag_types_print : {X : Type 0} (l : Linked X) (n : Option (TsTypeParamInstantiationBox X)) → PrintsOn InName InName open_ l.env (words.type_args l.items Plain n) (lists.type_args l.reads n)
unfolding words.type_args lists.type_args
tag_types_print l None = prints_none
tag_types_print l (Some n) = wider_on open_ refl (prints_spots InName InName refl refl (l.law n.node.value (Whole Plain) TypeArguments))

pub type_params_print : {X : Type 0} (l : Linked X) (n : Option (TsTypeParamDeclBox X)) → PrintsAt open_ l.env (words.type_params l.items n) (lists.type_params l.reads n)
unfolding words.type_params lists.type_params
type_params_print l None = prints_nothing
type_params_print l (Some n) = prints_wider open_ refl (l.law n.node.value (Whole Plain) TypeParameters)

pub ann_at : {X : Type 0} (l : Linked X) (n : TsTypeAnnBox X) → Prints l.env (l.items n.node.value (Whole Plain)) (types.ann_at l.reads n)
ann_at l n = l.law n.node.value (Whole Plain) Annotation

-- a word and a blank, where it is so
pub word_before_prints : (env : Env) (wanted : Bool) (t : List ℕ) → IsWord t → PrintsAt open_ env (words.word_before wanted t) (word_if wanted (word t))
unfolding words.word_before word_if
word_before_prints env true t w = prints_wider open_ refl (before (prints_keyword env None t w) (writes_space env))
word_before_prints env false t w = prints_nothing

pub word_space_prints : (env : Env) (t : List ℕ) → IsWord t → Prints env (λ rest. keyword None t (space rest)) (word t)
word_space_prints env t w = before (prints_keyword env None t w) (writes_space env)

pub between_prints : (env : Env) (t : List ℕ) → allows_break t ≡ false → IsMark t → Prints env (punct_between t) (mark t)
unfolding punct_between
between_prints env t u w = after (writes_space env) (before (prints_unbroken env t u w) (writes_space env))

pub no_line : (env : Env) → EndsLines env (λ rest. rest)
no_line env = makes_wider loose refl (writes_nothing env)
