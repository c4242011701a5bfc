-- When the phrase of a pattern is possible.
use Rattle.std.proofs.Common.{◌≡◌, ◌∙◌, refl, ap, sym, Bool, true, false, not, ◌&&◌, ◌||◌, cond, is_some, is_none, List, [], ◌∷◌, codes, Option, Some, None}
use Rattle.std.proofs.lemmas.Bool.{true≢false}
use Rattle.swc_ecma_codegen_tree.specs.Links.{TsTypeAnnBox}
use Rattle.swc_ecma_codegen_tree.specs.declared.idents.BindingIdent.{BindingIdent}
use Rattle.swc_ecma_codegen_tree.specs.declared.pats.ArrayPat.{ArrayPat}
use Rattle.swc_ecma_codegen_tree.specs.declared.pats.ObjectPat.{ObjectPat}
use Rattle.swc_ecma_codegen_tree.specs.declared.pats.RestPat.{RestPat}
use Rattle.swc_ecma_codegen_grammar.specs.declared.roles.Role.{Role}
use Rattle.swc_ecma_codegen_grammar.specs.ElementPhrases.{element, last_is_hole, elements_end, closing_of}
use Rattle.swc_ecma_codegen_grammar.specs.NamePhrases.{ident, binding_ident}
use Rattle.swc_ecma_codegen_grammar.specs.AnnotationPhrases.{question, annotation}
use Rattle.swc_ecma_codegen_grammar.specs.TypePhrases.{ann_at}
use Rattle.swc_ecma_codegen_grammar.specs.PatPhrases.{pat_at, array_pat, rest_pat, object_pat_prop, object_pat, plain_name}
use Rattle.swc_ecma_codegen_grammar.specs.Phrases.{Phrase, Never, Closing, RightBracket, RightBrace, is_possible}
use Rattle.swc_ecma_codegen_validate.specs.Possible.{all_possible}
use Rattle.swc_ecma_codegen_validate.proofs.Annotations.{annotation_possible, typed_possible}
use Rattle.swc_ecma_codegen_validate.proofs.Lists.{listed_possible, and_true}

pub closing_possible : {A : Type 0} (close : Closing) (xs : List A) → is_possible (closing_of close xs) ≡ true
unfolding is_possible closing_of
closing_possible close [] = refl
closing_possible close (x ∷ xs) = refl

-- behind a hole, or behind an element
end_possible : {A : Type 0} (hole : Bool) (xs : List A) → is_possible (elements_end hole xs) ≡ true
unfolding is_possible elements_end
end_possible true xs = refl
end_possible false xs = closing_possible RightBracket xs

pub array_pat_possible : {X : Type 0} (f : X → Role → Phrase) (n : ArrayPat X) → is_possible (array_pat f n) ≡ (all_possible (element (pat_at f)) n.elems.items && is_possible (element (ann_at f) n.type_ann))
unfolding is_possible array_pat
array_pat_possible f n =
    ap (λ b. b && (is_possible (elements_end (last_is_hole n.elems.items) n.elems.items) && (is_possible (question n.optional) && is_possible (annotation f n.type_ann)))) (listed_possible (codes ",") (element (pat_at f)) n.elems.items)
    ∙ ap (λ b. all_possible (element (pat_at f)) n.elems.items && (b && (is_possible (question n.optional) && is_possible (annotation f n.type_ann)))) (end_possible (last_is_hole n.elems.items) n.elems.items)
    ∙ ap (λ b. all_possible (element (pat_at f)) n.elems.items && b) (typed_possible f n.optional n.type_ann)

pub rest_pat_possible : {X : Type 0} (f : X → Role → Phrase) (n : RestPat X) → is_possible (rest_pat f n) ≡ (is_possible (pat_at f n.arg) && is_possible (element (ann_at f) n.type_ann))
unfolding is_possible rest_pat
rest_pat_possible f n = ap (λ b. is_possible (pat_at f n.arg) && b) (annotation_possible f n.type_ann)

pub object_pat_possible : {X : Type 0} (f : X → Role → Phrase) (n : ObjectPat X) → is_possible (object_pat f n) ≡ (all_possible (object_pat_prop f) n.props.items && is_possible (element (ann_at f) n.type_ann))
unfolding is_possible object_pat
object_pat_possible f n =
    ap (λ b. b && (is_possible (closing_of RightBrace n.props.items) && (is_possible (question n.optional) && is_possible (annotation f n.type_ann)))) (listed_possible (codes ",") (object_pat_prop f) n.props.items)
    ∙ ap (λ b. all_possible (object_pat_prop f) n.props.items && (b && (is_possible (question n.optional) && is_possible (annotation f n.type_ann)))) (closing_possible RightBrace n.props.items)
    ∙ ap (λ b. all_possible (object_pat_prop f) n.props.items && b) (typed_possible f n.optional n.type_ann)

alone : {A : Type 0} (optional : Bool) (type_ann : Option A) (p : Phrase) (b : Bool) → (is_none type_ann ≡ true → is_possible p ≡ b) → is_possible (cond (optional || is_some type_ann) Never p) ≡ (not optional && (is_none type_ann && b))
unfolding is_possible
alone true type_ann p b h = refl
alone false (Some t) p b h = refl
alone false None p b h = h refl

untyped : {X : Type 0} (f : X → Role → Phrase) (o : Option (TsTypeAnnBox X)) (b : Bool) → is_none o ≡ true → (b && is_possible (annotation f o)) ≡ b
unfolding is_possible annotation
untyped f None b h = and_true b
untyped f (Some t) b h = absurd (true≢false (sym h))

pub plain_name_possible : {X : Type 0} (f : X → Role → Phrase) (n : BindingIdent X) → is_possible (plain_name f n) ≡ (not n.id.optional && (is_none n.type_ann && is_possible (ident n.id)))
unfolding is_possible plain_name binding_ident
plain_name_possible f n = alone n.id.optional n.type_ann _ _ (untyped f n.type_ann (is_possible (ident n.id)))
