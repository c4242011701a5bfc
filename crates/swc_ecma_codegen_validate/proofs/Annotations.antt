-- When what types add to other nodes is possible: where each type is that is there.
use Rattle.std.proofs.Common.{◌≡◌, ◌∙◌, refl, ap, Bool, true, false, not, ◌&&◌, Option, Some, None}
use Rattle.swc_ecma_codegen_tree.specs.Links.{TsTypeAnnBox, TsTypeParamDeclBox, TsTypeParamInstantiationBox}
use Rattle.swc_ecma_codegen_tree.specs.declared.idents.BindingIdent.{BindingIdent}
use Rattle.swc_ecma_codegen_grammar.specs.AnnotationPhrases.{question, annotation, bang, field_annotation, type_args, type_params}
use Rattle.swc_ecma_codegen_grammar.specs.ElementPhrases.{element}
use Rattle.swc_ecma_codegen_grammar.specs.NamePhrases.{ident, binding_ident}
use Rattle.swc_ecma_codegen_grammar.specs.Phrases.{Phrase, where_, is_possible}
use Rattle.swc_ecma_codegen_grammar.specs.TypePhrases.{ann_at, args_at, params_at}
use Rattle.swc_ecma_codegen_grammar.specs.declared.roles.Role.{Role}

pub question_possible : (optional : Bool) → is_possible (question optional) ≡ true
unfolding is_possible question
question_possible true = refl
question_possible false = refl

pub annotation_possible : {X : Type 0} (f : X → Role → Phrase) (o : Option (TsTypeAnnBox X)) → is_possible (annotation f o) ≡ is_possible (element (ann_at f) o)
unfolding is_possible annotation element
annotation_possible f None = refl
annotation_possible f (Some n) = refl

pub typed_possible : {X : Type 0} (f : X → Role → Phrase) (optional : Bool) (o : Option (TsTypeAnnBox X)) → (is_possible (question optional) && is_possible (annotation f o)) ≡ is_possible (element (ann_at f) o)
typed_possible f optional o = ap (λ b. b && is_possible (annotation f o)) (question_possible optional) ∙ annotation_possible f o

-- the type of a field
pub field_none_possible : {X : Type 0} (f : X → Role → Phrase) (definite : Bool) → is_possible (field_annotation f definite None) ≡ not definite
unfolding is_possible field_annotation where_
field_none_possible f true = refl
field_none_possible f false = refl

pub field_some_possible : {X : Type 0} (f : X → Role → Phrase) (definite : Bool) (n : TsTypeAnnBox X) → is_possible (field_annotation f definite (Some n)) ≡ is_possible (ann_at f n)
unfolding is_possible field_annotation bang
field_some_possible f true n = refl
field_some_possible f false n = refl

pub args_possible : {X : Type 0} (f : X → Role → Phrase) (o : Option (TsTypeParamInstantiationBox X)) → is_possible (type_args f o) ≡ is_possible (element (args_at f) o)
unfolding is_possible type_args element
args_possible f None = refl
args_possible f (Some n) = refl

pub params_possible : {X : Type 0} (f : X → Role → Phrase) (o : Option (TsTypeParamDeclBox X)) → is_possible (type_params f o) ≡ is_possible (element (params_at f) o)
unfolding is_possible type_params element
params_possible f None = refl
params_possible f (Some n) = refl

pub binding_possible : {X : Type 0} (f : X → Role → Phrase) (n : BindingIdent X) → is_possible (binding_ident f n) ≡ (is_possible (ident n.id) && is_possible (element (ann_at f) n.type_ann))
unfolding is_possible binding_ident
binding_possible f n = ap (λ b. is_possible (ident n.id) && b) (annotation_possible f n.type_ann)
