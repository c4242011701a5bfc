-- What is written of patterns is what it reads as.
use Rattle.std.proofs.Common.{◌≡◌, refl, Bool, true, false, cond, ◌||◌, is_some, List, [], ◌∷◌, map, codes, Option, Some, None}
use Rattle.swc_ecma_codegen_common.specs.declared.positions.Span.{Span}
use Rattle.swc_ecma_codegen_tree.specs.Links.{ExprBox, PatBox, TsTypeAnnBox}
use Rattle.swc_ecma_codegen_tree.specs.declared.pats.Pat.{Pat}
use Rattle.swc_ecma_codegen_tree.specs.declared.pats.Pat.TheVariants as variants
use Rattle.swc_ecma_codegen_tree.specs.declared.pats.ArrayPat.{ArrayPat}
use Rattle.swc_ecma_codegen_tree.specs.declared.pats.ObjectPat.{ObjectPat}
use Rattle.swc_ecma_codegen_tree.specs.declared.pats.RestPat.{RestPat}
use Rattle.swc_ecma_codegen_tree.specs.declared.pats.AssignPat.{AssignPat}
use Rattle.swc_ecma_codegen_tree.specs.declared.pats.ObjectPatProp.{ObjectPatProp}
use Rattle.swc_ecma_codegen_tree.specs.declared.pats.ObjectPatProp.TheVariants as pat_props
use Rattle.swc_ecma_codegen_tree.specs.declared.pats.KeyValuePatProp.{KeyValuePatProp}
use Rattle.swc_ecma_codegen_tree.specs.declared.pats.AssignPatProp.{AssignPatProp}
use Rattle.swc_ecma_codegen_tree.specs.declared.pats.AssignTargetPat.{AssignTargetPat}
use Rattle.swc_ecma_codegen_tree.specs.declared.pats.AssignTargetPat.TheVariants as target_pats
use Rattle.swc_ecma_codegen_spans.specs.Spans.{prop_name_span, option_span, pat_span, object_pat_prop_span}
use Rattle.swc_ecma_codegen_grammar.specs.Phrases.{Phrase, CommaBefore, RightBracket, RightBrace, closing_mark, ◌>◌, mark}
use Rattle.swc_ecma_codegen_grammar.specs.Phrases as phrases
use Rattle.swc_ecma_codegen_grammar.specs.ElementPhrases.{element, last_is_hole, elements_end, closing_of}
use Rattle.swc_ecma_codegen_grammar.specs.AnnotationPhrases as annotations
use Rattle.swc_ecma_codegen_grammar.specs.DeclPhrases as decl_lists
use Rattle.swc_ecma_codegen_grammar.specs.PatPhrases as lists
use Rattle.swc_ecma_codegen_tokens.specs.Run.{Env, Part}
use Rattle.swc_ecma_codegen_tokens.specs.Lists.{list, list_closing}
use Rattle.swc_ecma_codegen_tokens.specs.Words.{punct, position, question}
use Rattle.swc_ecma_codegen_tokens.proofs.Listing.ListLaws.{children_of, writes_no_list, prints_some, prints_forced_closing, prints_optional_closing}
use Rattle.swc_ecma_codegen_tokens.proofs.Reading.Phrased.{Prints, then, after, before, prints_nothing, prints_never, prints_punct, prints_placed_punct, prints_regrouped, PrintsAt, prints_wider, loosened}
use Rattle.swc_ecma_codegen_tokens.proofs.Reading.Printed.{writes_formatting_space, writes_position}
use Rattle.swc_ecma_codegen_tokens.proofs.Commenting.CommentPrints.{writes_leading, writes_trailing}
use Rattle.swc_ecma_codegen_emit.specs.declared.nodes.Context.TheVariants.{Plain}
use Rattle.swc_ecma_codegen_emit.specs.Places.{Whole}
use Rattle.swc_ecma_codegen_emit.specs.Annotations.{spaced_annotation}
use Rattle.swc_ecma_codegen_emit.specs.Answers.{place_of}
use Rattle.swc_ecma_codegen_emit.specs.Lists.{if_some_at}
use Rattle.swc_ecma_codegen_emit.specs.Pats as words
use Rattle.swc_ecma_codegen_emit.specs.Pats.{pat_place, pat_items, array_pat_format, object_pat_format}
use Rattle.swc_ecma_codegen_emit.proofs.ExprParts.{ident_prints, spaced_prints, writes_opened}
use Rattle.swc_ecma_codegen_emit.proofs.AnnotationParts.{annotation_prints, spaced_annotation_prints, question_prints}
use Rattle.swc_ecma_codegen_emit.proofs.Linked.{Linked, expr_at, pat_at}
use Rattle.swc_ecma_codegen_emit.proofs.MarkWords as marks
use Rattle.swc_ecma_codegen_emit.proofs.NameParts.{binding_ident_prints, prop_name_prints}
use Rattle.swc_ecma_codegen_emit.proofs.TsExprWords as expr_words
use Rattle.swc_ecma_codegen_tokens.proofs.Filling.Shapes.{open_, loose, closed}

pub initializer_prints : {X : Type 0} (l : Linked X) (n : Option (ExprBox X)) → PrintsAt open_ l.env (words.initializer l.items n) (lists.initializer l.reads n)
unfolding words.initializer lists.initializer
initializer_prints l None = prints_nothing
initializer_prints l (Some n) = prints_wider open_ refl (then (spaced_prints l.env (codes "=") refl marks.equal) (expr_at l n Plain))

-- ---- arrays

element_prints : {X : Type 0} (l : Linked X) (n : Option (PatBox X)) → PrintsAt open_ l.env (if_some_at (pat_items l.items) n (Whole Plain)) (element (lists.pat_at l.reads) n)
unfolding if_some_at element
element_prints l None = prints_nothing
element_prints l (Some n) = prints_wider open_ refl (pat_at l n)

-- a comma after a hole that is last, or an optional one, to the bracket
end_prints : {A : Type 0} (env : Env) (hole : Bool) (parent last : Span) (close : Part) → Prints env close (mark (codes "]")) → (x : A) (xs : List A) → PrintsAt closed env (λ rest. list_closing (array_pat_format hole) parent last (close rest)) (elements_end hole (x ∷ xs))
unfolding elements_end closing_of closing_mark
end_prints env true parent last close h x xs = prints_wider closed refl (then (prints_forced_closing env (array_pat_format true) parent last refl refl refl) h)
end_prints env false parent last close h x xs = prints_optional_closing env (array_pat_format false) parent last RightBracket close refl refl h

is_list : (hole : Bool) → Rattle.swc_ecma_codegen_grammar.specs.ListFormats.comma_delimited (array_pat_format hole) ≡ true
is_list true = refl
is_list false = refl

is_flat : (hole : Bool) → Rattle.swc_ecma_codegen_grammar.specs.ListFormats.indented (array_pat_format hole) ≡ false
is_flat true = refl
is_flat false = refl

abbrev elements_list : {X : Type 0} → Linked X → Span → List (Option (PatBox X)) → Part
elements_list l parent xs = list (array_pat_format (last_is_hole xs)) parent (children_of (option_span (pat_place l.asks)) (λ o. if_some_at (pat_items l.items) o (Whole Plain)) xs)

elements_prints : {X : Type 0} (l : Linked X) (parent : Span) (close : Part) → Prints l.env close (mark (codes "]")) → (xs : List (Option (PatBox X))) → PrintsAt closed l.env (λ rest. elements_list l parent xs (close rest)) (phrases.listed (codes ",") (map (element (lists.pat_at l.reads)) xs) > elements_end (last_is_hole xs) xs)
unfolding phrases.listed elements_end closing_of closing_mark last_is_hole
elements_prints l parent close h [] = after (writes_no_list l.env (array_pat_format false) parent) (then prints_nothing h)
elements_prints l parent close h (x ∷ xs) =
    let hole : Bool = last_is_hole (x ∷ xs) in
    prints_some l.env (array_pat_format hole) parent (option_span (pat_place l.asks)) (λ o. if_some_at (pat_items l.items) o (Whole Plain)) (element (lists.pat_at l.reads)) (elements_end hole (x ∷ xs)) close
    (λ n. prints_wider loose refl (element_prints l n)) (is_list hole) (is_flat hole) (λ last. end_prints l.env hole parent last close h x xs) x xs

-- one part more behind a list and its end: `Then` is right-associated
closed_then : {env : Env} {p q : Part} {a b f : Phrase} → PrintsAt closed env p (a > b) → PrintsAt open_ env q f → PrintsAt closed env (λ rest. p (q rest)) (a > b > f)
closed_then h k = prints_regrouped (then h k)

-- `?` and a type, to the end
typed_prints : {X : Type 0} (l : Linked X) (optional : Bool) (type_ann : Option (TsTypeAnnBox X)) (span : Span) → PrintsAt open_ l.env (λ rest. question optional (spaced_annotation l.items type_ann (position span.hi rest))) (annotations.question optional > annotations.annotation l.reads type_ann)
typed_prints l optional type_ann span = then (question_prints l.env optional) (before (spaced_annotation_prints l type_ann) (writes_position l.env span.hi))

pub array_pat_prints : {X : Type 0} (l : Linked X) (n : ArrayPat X) → Prints l.env (words.array_pat l.asks l.items n) (lists.array_pat l.reads n)
unfolding words.array_pat lists.array_pat
array_pat_prints l n =
    after (writes_opened l.env n.span)
    (then (prints_punct l.env (codes "[") marks.left_bracket)
    (closed_then (elements_prints l n.span (punct (codes "]")) (prints_punct l.env (codes "]") marks.right_bracket) n.elems.items) (typed_prints l n.optional n.type_ann n.span)))

-- ---- rest and default

pub rest_pat_prints : {X : Type 0} (l : Linked X) (n : RestPat X) → Prints l.env (words.rest_pat l.items n) (lists.rest_pat l.reads n)
unfolding words.rest_pat lists.rest_pat
rest_pat_prints l n = after (writes_leading l.env n.span.lo) (then (prints_placed_punct l.env n.dot3_token (codes "...") marks.ellipsis) (then (pat_at l n.arg) (annotation_prints l n.type_ann)))

pub assign_pat_prints : {X : Type 0} (l : Linked X) (n : AssignPat X) → Prints l.env (words.assign_pat l.items n) (lists.assign_pat l.reads n)
unfolding words.assign_pat lists.assign_pat
assign_pat_prints l n =
    after (writes_opened l.env n.span)
    (then (pat_at l n.left)
    (then (spaced_prints l.env (codes "=") refl marks.equal) (before (expr_at l n.right Plain) (writes_position l.env n.span.hi))))

-- ---- objects

key_value_prints : {X : Type 0} (l : Linked X) (n : KeyValuePatProp X) → Prints l.env (words.key_value_pat_prop l.asks l.items n) (lists.key_value_pat_prop l.reads n)
unfolding words.key_value_pat_prop lists.key_value_pat_prop
key_value_prints l n =
    after (writes_opened l.env (prop_name_span n.key))
    (then (prop_name_prints l n.key)
    (then (before (prints_punct l.env (codes ":") marks.colon) (writes_formatting_space l.env))
    (before (pat_at l n.value) (writes_position l.env (l.asks n.value.node.value).place.hi))))

assign_prop_prints : {X : Type 0} (l : Linked X) (n : AssignPatProp X) → Prints l.env (words.assign_pat_prop l.items n) (lists.assign_pat_prop l.reads n)
unfolding words.assign_pat_prop lists.assign_pat_prop
assign_prop_prints l n =
    after (writes_opened l.env n.span)
    (then (binding_ident_prints l n.key) (before (initializer_prints l n.value) (writes_position l.env n.span.hi)))

prop_prints : {X : Type 0} (l : Linked X) (n : ObjectPatProp X) → Prints l.env (words.object_pat_prop l.asks l.items n) (lists.object_pat_prop l.reads n)
unfolding words.object_pat_prop lists.object_pat_prop
prop_prints l (pat_props.KeyValue n) = key_value_prints l n
prop_prints l (pat_props.Assign n) = assign_prop_prints l n
prop_prints l (pat_props.Rest n) = rest_pat_prints l n

abbrev props_list : {X : Type 0} → Linked X → Span → List (ObjectPatProp X) → Part
props_list l parent xs = list object_pat_format parent (children_of (object_pat_prop_span (place_of l.asks)) (words.object_pat_prop l.asks l.items) xs)

props_prints : {X : Type 0} (l : Linked X) (parent : Span) (close : Part) → Prints l.env close (mark (codes "}")) → (xs : List (ObjectPatProp X)) → PrintsAt closed l.env (λ rest. props_list l parent xs (close rest)) (phrases.listed (codes ",") (map (lists.object_pat_prop l.reads) xs) > closing_of RightBrace xs)
unfolding phrases.listed closing_of closing_mark
props_prints l parent close h [] = after (writes_no_list l.env object_pat_format parent) (then prints_nothing h)
props_prints l parent close h (x ∷ xs) =
    prints_some l.env object_pat_format parent (object_pat_prop_span (place_of l.asks)) (words.object_pat_prop l.asks l.items) (lists.object_pat_prop l.reads) (CommaBefore RightBrace) close
    (λ n. loosened (prop_prints l n)) refl refl (λ last. prints_optional_closing l.env object_pat_format parent last RightBrace close refl refl h) x xs

pub object_pat_prints : {X : Type 0} (l : Linked X) (n : ObjectPat X) → Prints l.env (words.object_pat l.asks l.items n) (lists.object_pat l.reads n)
unfolding words.object_pat lists.object_pat
object_pat_prints l n =
    after (writes_opened l.env n.span)
    (then (prints_punct l.env (codes "{") marks.left_brace)
    (closed_then (props_prints l n.span (punct (codes "}")) (prints_punct l.env (codes "}") marks.right_brace) n.props.items) (typed_prints l n.optional n.type_ann n.span)))

-- ---- patterns

parts_print : {X : Type 0} (l : Linked X) (n : Pat X) → Prints l.env (words.pat_parts l.asks l.items n) (lists.pat l.reads n)
unfolding words.pat_parts lists.pat
parts_print l (variants.Ident n) = binding_ident_prints l n
parts_print l (variants.Array n) = array_pat_prints l n
parts_print l (variants.Rest n) = rest_pat_prints l n
parts_print l (variants.Object n) = object_pat_prints l n
parts_print l (variants.Assign n) = assign_pat_prints l n
parts_print l (variants.Invalid n) = prints_never
parts_print l (variants.Expr n) = expr_at l n Plain

pub pat_prints : {X : Type 0} (l : Linked X) (n : Pat X) → Prints l.env (words.pat l.asks l.items n) (lists.pat l.reads n)
unfolding words.pat
pat_prints l n = before (parts_print l n) (writes_trailing l.env true (pat_span (place_of l.asks) n).hi)

-- what is declared: a name may be said to have a value
definite_prints : {X : Type 0} (l : Linked X) (n : Pat X) → Prints l.env (words.definite_pat l.asks l.items n) (decl_lists.definite_pat l.reads n)
unfolding words.definite_pat words.definite_ident decl_lists.definite_pat
definite_prints l (variants.Ident n) = then (ident_prints l n.id) (then (prints_punct l.env (codes "!") expr_words.bang) (before (annotation_prints l n.type_ann) (writes_trailing l.env true n.id.span.hi)))
definite_prints l n = prints_never

pub declared_prints : {X : Type 0} (l : Linked X) (definite : Bool) (n : Pat X) → Prints l.env (words.declared_pat l.asks l.items definite n) (decl_lists.declared_pat l.reads definite n)
unfolding words.declared_pat decl_lists.declared_pat
declared_prints l true n = definite_prints l n
declared_prints l false n = pat_prints l n

-- the same as the only parameter that is a name alone: in that role other patterns have no list of tokens
plain_case : {env : Env} {p : Part} {f : Phrase} (typed : Bool) → Prints env p f → Prints env p (cond typed phrases.Never f)
plain_case true h = prints_never
plain_case false h = h

pub plain_prints : {X : Type 0} (l : Linked X) (n : Pat X) → Prints l.env (words.pat l.asks l.items n) (lists.plain_parameter l.reads n)
unfolding words.pat words.pat_parts lists.plain_parameter lists.plain_name
plain_prints l (variants.Ident n) = before (plain_case (n.id.optional || is_some n.type_ann) (binding_ident_prints l n)) (writes_trailing l.env true (pat_span (place_of l.asks) (variants.Ident n)).hi)
plain_prints l n = prints_never

pub assign_target_pat_prints : {X : Type 0} (l : Linked X) (n : AssignTargetPat X) → Prints l.env (words.assign_target_pat l.asks l.items n) (lists.assign_target_pat l.reads n)
unfolding words.assign_target_pat lists.assign_target_pat
assign_target_pat_prints l (target_pats.Array n) = array_pat_prints l n
assign_target_pat_prints l (target_pats.Object n) = object_pat_prints l n
assign_target_pat_prints l (target_pats.Invalid n) = prints_never
