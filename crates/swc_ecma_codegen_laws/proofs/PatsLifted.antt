-- Pats: a law of the words holds of the plan.
use Rattle.std.proofs.Common.{◌≡◌, refl}
use Rattle.swc_ecma_codegen_laws.proofs.Children.{children_hold}
use Rattle.std.specs.Prelude.{Bool, true, false, map, codes, Option, Some, None}
use Rattle.swc_ecma_codegen_tree.specs.Links.{ExprBox}
use Rattle.swc_ecma_codegen_tree.specs.declared.idents.BindingIdent.{BindingIdent}
use Rattle.swc_ecma_codegen_tree.specs.declared.pats.Pat.{Pat}
use Rattle.swc_ecma_codegen_tree.specs.declared.pats.Pat.TheVariants as pats
use Rattle.swc_ecma_codegen_tree.specs.declared.pats.ArrayPat.{ArrayPat}
use Rattle.swc_ecma_codegen_tree.specs.declared.pats.ObjectPat.{ObjectPat}
use Rattle.swc_ecma_codegen_tree.specs.declared.pats.RestPat.{RestPat}
use Rattle.swc_ecma_codegen_tree.specs.declared.pats.AssignPat.{AssignPat}
use Rattle.swc_ecma_codegen_tree.specs.declared.pats.ObjectPatProp.{ObjectPatProp}
use Rattle.swc_ecma_codegen_tree.specs.declared.pats.ObjectPatProp.TheVariants as pat_props
use Rattle.swc_ecma_codegen_tree.specs.declared.pats.KeyValuePatProp.{KeyValuePatProp}
use Rattle.swc_ecma_codegen_tree.specs.declared.pats.AssignPatProp.{AssignPatProp}
use Rattle.swc_ecma_codegen_tree.specs.declared.pats.AssignTargetPat.{AssignTargetPat}
use Rattle.swc_ecma_codegen_tree.specs.declared.pats.AssignTargetPat.TheVariants as target_pats
use Rattle.swc_ecma_codegen_spans.specs.Spans.{option_span, pat_span, prop_name_span, object_pat_prop_span}
use Rattle.swc_ecma_codegen_grammar.specs.ElementPhrases.{last_is_hole}
use Rattle.swc_ecma_codegen_tokens.specs.Run.{Part}
use Rattle.swc_ecma_codegen_tokens.specs.Words.{punct}
use Rattle.swc_ecma_codegen_grammar.specs.Phrases.{RightBrace, RightBracket, closing_mark}
use Rattle.swc_ecma_codegen_emit.specs.declared.nodes.Context.TheVariants.{Plain}
use Rattle.swc_ecma_codegen_emit.specs.Places.{Whole}
use Rattle.swc_ecma_codegen_emit.specs.Answers.{place_of}
use Rattle.swc_ecma_codegen_emit.specs.Lists.{child_of, if_some_at, unsupported}
use Rattle.swc_ecma_codegen_laws.proofs.OfWords.{Known, asks_in, items_in, either, may_skip}
use Rattle.swc_ecma_codegen_tokens.specs.declared.refusals.Unprintable.TheVariants as unprintable
use Rattle.swc_ecma_codegen_emit.specs.Pats.{pat_place, pat_items, initializer, array_pat_format, array_pat_elements, array_pat, rest_pat, assign_pat, key_value_pat_prop, assign_pat_prop, object_pat_prop, object_pat_format, object_pat_props, object_pat, pat_parts, pat, definite_ident, definite_pat, declared_pat, assign_target_pat}
use Rattle.swc_ecma_codegen_laws.proofs.AnnotationsLifted.{annotation_holds, spaced_annotation_holds}
use Rattle.swc_ecma_codegen_laws.proofs.ExprsLifted.{ident_holds, opened_holds, spaced_punct_holds}
use Rattle.swc_ecma_codegen_laws.proofs.ListsLifted.{if_some_at_holds}
use Rattle.swc_ecma_codegen_laws.proofs.NamesLifted.{binding_ident_holds, prop_name_holds}

pub initializer_holds : {X : Type 0} {holds : Bool → Part → Type 0} (known : Known holds X) (bounded : Bool) (x1 : Option (ExprBox X)) → holds bounded (initializer (items_in known) x1)
unfolding initializer
initializer_holds known bounded None = known.words.none bounded
initializer_holds known bounded (Some n) = known.words.and_then bounded (spaced_punct_holds known.words bounded (codes "=")) (known.law bounded n.node.value (Whole Plain))

array_pat_skips : (hole : Bool) → may_skip (array_pat_format hole) RightBracket ≡ true
array_pat_skips true = refl
array_pat_skips false = refl

pub array_pat_elements_holds : {X : Type 0} {holds : Bool → Part → Type 0} (known : Known holds X) (bounded : Bool) (n : ArrayPat X) → holds bounded (λ rest. array_pat_elements (asks_in known) (items_in known) n (punct (codes "]") rest))
unfolding closing_mark
array_pat_elements_holds known bounded n = known.words.closed_list bounded (array_pat_format (last_is_hole n.elems.items)) n.span (map (child_of (option_span (pat_place (asks_in known))) (if_some_at (pat_items (items_in known)))) n.elems.items) RightBracket (array_pat_skips (last_is_hole n.elems.items)) (children_hold _ _ (option_span (pat_place (asks_in known))) (if_some_at (pat_items (items_in known))) (λ x. (if_some_at_holds known.words bounded (pat_items (items_in known)) (λ x place. (known.law bounded x.node.value place)) x (Whole Plain))) n.elems.items)

pub array_pat_holds : {X : Type 0} {holds : Bool → Part → Type 0} (known : Known holds X) (bounded : Bool) (n : ArrayPat X) → holds bounded (array_pat (asks_in known) (items_in known) n)
unfolding array_pat
array_pat_holds known bounded n = known.words.and_then bounded (opened_holds known.words bounded n.span) (known.words.and_then bounded (known.words.punct bounded (codes "[")) (known.words.and_then bounded (array_pat_elements_holds known bounded n) (known.words.and_then bounded (known.words.question bounded n.optional) (known.words.and_then bounded (spaced_annotation_holds known bounded n.type_ann) (known.words.position bounded n.span.hi)))))

pub rest_pat_holds : {X : Type 0} {holds : Bool → Part → Type 0} (known : Known holds X) (bounded : Bool) (n : RestPat X) → holds bounded (rest_pat (items_in known) n)
unfolding rest_pat
rest_pat_holds known bounded n = known.words.and_then bounded (known.words.leading_comments bounded n.span.lo) (known.words.and_then bounded (known.words.ellipsis bounded n.dot3_token) (known.words.and_then bounded (known.law bounded n.arg.node.value (Whole Plain)) (annotation_holds known bounded n.type_ann)))

pub assign_pat_holds : {X : Type 0} {holds : Bool → Part → Type 0} (known : Known holds X) (bounded : Bool) (n : AssignPat X) → holds bounded (assign_pat (items_in known) n)
unfolding assign_pat
assign_pat_holds known bounded n = known.words.and_then bounded (opened_holds known.words bounded n.span) (known.words.and_then bounded (known.law bounded n.left.node.value (Whole Plain)) (known.words.and_then bounded (spaced_punct_holds known.words bounded (codes "=")) (known.words.and_then bounded (known.law bounded n.right.node.value (Whole Plain)) (known.words.position bounded n.span.hi))))

pub key_value_pat_prop_holds : {X : Type 0} {holds : Bool → Part → Type 0} (known : Known holds X) (bounded : Bool) (n : KeyValuePatProp X) → holds bounded (key_value_pat_prop (asks_in known) (items_in known) n)
unfolding key_value_pat_prop
key_value_pat_prop_holds known bounded n = known.words.and_then bounded (opened_holds known.words bounded (prop_name_span n.key)) (known.words.and_then bounded (prop_name_holds known bounded n.key) (known.words.and_then bounded (known.words.punct bounded (codes ":")) (known.words.and_then bounded (known.words.formatting_space bounded) (known.words.and_then bounded (known.law bounded n.value.node.value (Whole Plain)) (known.words.position bounded ((asks_in known) n.value.node.value).place.hi)))))

pub assign_pat_prop_holds : {X : Type 0} {holds : Bool → Part → Type 0} (known : Known holds X) (bounded : Bool) (n : AssignPatProp X) → holds bounded (assign_pat_prop (items_in known) n)
unfolding assign_pat_prop
assign_pat_prop_holds known bounded n = known.words.and_then bounded (opened_holds known.words bounded n.span) (known.words.and_then bounded (binding_ident_holds known bounded n.key) (known.words.and_then bounded (initializer_holds known bounded n.value) (known.words.position bounded n.span.hi)))

pub object_pat_prop_holds : {X : Type 0} {holds : Bool → Part → Type 0} (known : Known holds X) (bounded : Bool) (x2 : ObjectPatProp X) → holds bounded (object_pat_prop (asks_in known) (items_in known) x2)
unfolding object_pat_prop
object_pat_prop_holds known bounded (pat_props.KeyValue n) = key_value_pat_prop_holds known bounded n
object_pat_prop_holds known bounded (pat_props.Assign n) = assign_pat_prop_holds known bounded n
object_pat_prop_holds known bounded (pat_props.Rest n) = rest_pat_holds known bounded n

pub object_pat_props_holds : {X : Type 0} {holds : Bool → Part → Type 0} (known : Known holds X) (bounded : Bool) (n : ObjectPat X) → holds bounded (λ rest. object_pat_props (asks_in known) (items_in known) n (punct (codes "}") rest))
unfolding closing_mark
object_pat_props_holds known bounded n = known.words.closed_list bounded object_pat_format n.span (map (child_of (object_pat_prop_span (place_of (asks_in known))) (λ p place. object_pat_prop (asks_in known) (items_in known) p)) n.props.items) RightBrace refl (children_hold _ _ (object_pat_prop_span (place_of (asks_in known))) (λ p place. object_pat_prop (asks_in known) (items_in known) p) (λ p. (object_pat_prop_holds known bounded p)) n.props.items)

pub object_pat_holds : {X : Type 0} {holds : Bool → Part → Type 0} (known : Known holds X) (bounded : Bool) (n : ObjectPat X) → holds bounded (object_pat (asks_in known) (items_in known) n)
unfolding object_pat
object_pat_holds known bounded n = known.words.and_then bounded (opened_holds known.words bounded n.span) (known.words.and_then bounded (known.words.punct bounded (codes "{")) (known.words.and_then bounded (object_pat_props_holds known bounded n) (known.words.and_then bounded (known.words.question bounded n.optional) (known.words.and_then bounded (spaced_annotation_holds known bounded n.type_ann) (known.words.position bounded n.span.hi)))))

pub pat_parts_holds : {X : Type 0} {holds : Bool → Part → Type 0} (known : Known holds X) (bounded : Bool) (x2 : Pat X) → holds bounded (pat_parts (asks_in known) (items_in known) x2)
unfolding pat_parts unsupported
pat_parts_holds known bounded (pats.Ident n) = binding_ident_holds known bounded n
pat_parts_holds known bounded (pats.Array n) = array_pat_holds known bounded n
pat_parts_holds known bounded (pats.Rest n) = rest_pat_holds known bounded n
pat_parts_holds known bounded (pats.Object n) = object_pat_holds known bounded n
pat_parts_holds known bounded (pats.Assign n) = assign_pat_holds known bounded n
pat_parts_holds known bounded (pats.Invalid n) = known.words.refuse bounded unprintable.UnsupportedNode
pat_parts_holds known bounded (pats.Expr n) = known.law bounded n.node.value (Whole Plain)

pub pat_holds : {X : Type 0} {holds : Bool → Part → Type 0} (known : Known holds X) (bounded : Bool) (n : Pat X) → holds bounded (pat (asks_in known) (items_in known) n)
unfolding pat
pat_holds known bounded n = known.words.and_then bounded (pat_parts_holds known bounded n) (known.words.trailing_comments bounded true (pat_span (place_of (asks_in known)) n).hi)

pub definite_ident_holds : {X : Type 0} {holds : Bool → Part → Type 0} (known : Known holds X) (bounded : Bool) (n : BindingIdent X) → holds bounded (definite_ident (items_in known) n)
unfolding definite_ident
definite_ident_holds known bounded n = known.words.and_then bounded (ident_holds known.words bounded n.id) (known.words.and_then bounded (known.words.punct bounded (codes "!")) (known.words.and_then bounded (annotation_holds known bounded n.type_ann) (known.words.trailing_comments bounded true n.id.span.hi)))

pub definite_pat_holds : {X : Type 0} {holds : Bool → Part → Type 0} (known : Known holds X) (bounded : Bool) (n : Pat X) → holds bounded (definite_pat (asks_in known) (items_in known) n)
unfolding definite_pat
definite_pat_holds known bounded (pats.Ident n) = definite_ident_holds known bounded n
definite_pat_holds known bounded n = pat_holds known bounded n

pub declared_pat_holds : {X : Type 0} {holds : Bool → Part → Type 0} (known : Known holds X) (bounded : Bool) (definite : Bool) (n : Pat X) → holds bounded (declared_pat (asks_in known) (items_in known) definite n)
unfolding declared_pat
declared_pat_holds known bounded definite n = either known.words bounded definite (definite_pat_holds known bounded n) (pat_holds known bounded n)

pub assign_target_pat_holds : {X : Type 0} {holds : Bool → Part → Type 0} (known : Known holds X) (bounded : Bool) (x2 : AssignTargetPat X) → holds bounded (assign_target_pat (asks_in known) (items_in known) x2)
unfolding assign_target_pat unsupported
assign_target_pat_holds known bounded (target_pats.Array n) = array_pat_holds known bounded n
assign_target_pat_holds known bounded (target_pats.Object n) = object_pat_holds known bounded n
assign_target_pat_holds known bounded (target_pats.Invalid n) = known.words.refuse bounded unprintable.UnsupportedNode
