-- What is written of patterns.
use Rattle.std.specs.Prelude.{ℕ, Bool, true, if◌then◌else◌, map, codes, Option, Some, None}
use Rattle.swc_ecma_codegen_common.specs.declared.positions.Span.{Span}
use Rattle.swc_ecma_codegen_tree.specs.Links.{ExprBox, PatBox}
use Rattle.swc_ecma_codegen_tree.specs.declared.idents.BindingIdent.{BindingIdent}
use Rattle.swc_ecma_codegen_tree.specs.declared.pats.Pat.{Pat}
use Rattle.swc_ecma_codegen_tree.specs.declared.pats.Pat.TheVariants as pats
use Rattle.swc_ecma_codegen_tree.specs.declared.pats.ArrayPat.{ArrayPat}
use Rattle.swc_ecma_codegen_tree.specs.declared.pats.ObjectPat.{ObjectPat}
use Rattle.swc_ecma_codegen_tree.specs.declared.pats.RestPat.{RestPat}
use Rattle.swc_ecma_codegen_tree.specs.declared.pats.AssignPat.{AssignPat}
use Rattle.swc_ecma_codegen_tree.specs.declared.pats.ObjectPatProp.{ObjectPatProp}
use Rattle.swc_ecma_codegen_tree.specs.declared.pats.ObjectPatProp.TheVariants as pat_props
use Rattle.swc_ecma_codegen_tree.specs.declared.pats.KeyValuePatProp.{KeyValuePatProp}
use Rattle.swc_ecma_codegen_tree.specs.declared.pats.AssignPatProp.{AssignPatProp}
use Rattle.swc_ecma_codegen_tree.specs.declared.pats.AssignTargetPat.{AssignTargetPat}
use Rattle.swc_ecma_codegen_tree.specs.declared.pats.AssignTargetPat.TheVariants as target_pats
use Rattle.swc_ecma_codegen_spans.specs.Spans.{option_span, pat_span, prop_name_span, object_pat_prop_span}
use Rattle.swc_ecma_codegen_grammar.specs.ElementPhrases.{last_is_hole}
use Rattle.swc_ecma_codegen_tokens.specs.Run.{Part}
use Rattle.swc_ecma_codegen_tokens.specs.Lists.{list}
use Rattle.swc_ecma_codegen_tokens.specs.Words.{punct, placed_punct, question, formatting_space, end_of, leading_comments, trailing_comments}
use Rattle.swc_ecma_codegen_emit.specs.declared.nodes.Context.TheVariants.{Plain}
use Rattle.swc_ecma_codegen_emit.specs.Places.{Place, Whole}
use Rattle.swc_ecma_codegen_emit.specs.Annotations.{annotation, spaced_annotation}
use Rattle.swc_ecma_codegen_emit.specs.Answers.{Answers, place_of}
use Rattle.swc_ecma_codegen_emit.specs.Exprs.{opened, ident, spaced_punct}
use Rattle.swc_ecma_codegen_emit.specs.Lists.{child_of, if_some_at, unsupported}
use Rattle.swc_ecma_codegen_emit.specs.Names.{binding_ident, prop_name}

-- a pattern that a link holds: where it stands, and what is written of it
abbrev pub pat_place : {X : Type 0} → (X → Answers) → PatBox X → Span
pat_place asks n = (asks n.node.value).place

abbrev pub pat_items : {X : Type 0} → (X → Place → Part) → PatBox X → Place → Part
pat_items items n place = items n.node.value place

-- `= b` of `a = b`
unfoldable pub initializer : {X : Type 0} → (X → Place → Part) → Option (ExprBox X) → Part
initializer items None rest = rest
initializer items (Some n) rest = spaced_punct (codes "=") (items n.node.value (Whole Plain) rest)

-- `ArrayBindingPatternElements`, with `ForceTrailingComma` where a hole is last
abbrev pub array_pat_format : Bool → ℕ
array_pat_format hole = if hole then 16688 else 304

-- the elements: `a, , b`
abbrev pub array_pat_elements : {X : Type 0} → (X → Answers) → (X → Place → Part) → ArrayPat X → Part
array_pat_elements asks items n = list (array_pat_format (last_is_hole n.elems.items)) n.span (map (child_of (option_span (pat_place asks)) (if_some_at (pat_items items))) n.elems.items)

-- `[a, , b]?: A`
unfoldable pub array_pat : {X : Type 0} → (X → Answers) → (X → Place → Part) → ArrayPat X → Part
array_pat asks items n rest =
    opened n.span
    (punct (codes "[")
    (array_pat_elements asks items n
    (punct (codes "]") (question n.optional (spaced_annotation items n.type_ann (end_of n.span rest))))))

-- `...a: A`
unfoldable pub rest_pat : {X : Type 0} → (X → Place → Part) → RestPat X → Part
rest_pat items n rest = leading_comments n.span.lo (placed_punct n.dot3_token (codes "...") (items n.arg.node.value (Whole Plain) (annotation items n.type_ann rest)))

-- `a = b`
unfoldable pub assign_pat : {X : Type 0} → (X → Place → Part) → AssignPat X → Part
assign_pat items n rest = opened n.span (items n.left.node.value (Whole Plain) (spaced_punct (codes "=") (items n.right.node.value (Whole Plain) (end_of n.span rest))))

-- `a: b`, from where its name begins to where its pattern ends
unfoldable pub key_value_pat_prop : {X : Type 0} → (X → Answers) → (X → Place → Part) → KeyValuePatProp X → Part
key_value_pat_prop asks items n rest =
    opened (prop_name_span n.key)
    (prop_name items n.key (punct (codes ":") (formatting_space (items n.value.node.value (Whole Plain) (end_of (asks n.value.node.value).place rest)))))

-- `a`, `a = b`
unfoldable pub assign_pat_prop : {X : Type 0} → (X → Place → Part) → AssignPatProp X → Part
assign_pat_prop items n rest = opened n.span (binding_ident items n.key (initializer items n.value (end_of n.span rest)))

unfoldable pub object_pat_prop : {X : Type 0} → (X → Answers) → (X → Place → Part) → ObjectPatProp X → Part
object_pat_prop asks items (pat_props.KeyValue n) rest = key_value_pat_prop asks items n rest
object_pat_prop asks items (pat_props.Assign n) rest = assign_pat_prop items n rest
object_pat_prop asks items (pat_props.Rest n) rest = rest_pat items n rest

-- `ObjectBindingPatternElements` and `CanSkipTrailingComma`
abbrev pub object_pat_format : ℕ
object_pat_format = 41392

-- the properties: `a, b: c`
abbrev pub object_pat_props : {X : Type 0} → (X → Answers) → (X → Place → Part) → ObjectPat X → Part
object_pat_props asks items n = list object_pat_format n.span (map (child_of (object_pat_prop_span (place_of asks)) (λ p place. object_pat_prop asks items p)) n.props.items)

-- `{ a, b: c }?: A`
unfoldable pub object_pat : {X : Type 0} → (X → Answers) → (X → Place → Part) → ObjectPat X → Part
object_pat asks items n rest =
    opened n.span
    (punct (codes "{")
    (object_pat_props asks items n
    (punct (codes "}") (question n.optional (spaced_annotation items n.type_ann (end_of n.span rest))))))

-- a pattern by its variant
unfoldable pub pat_parts : {X : Type 0} → (X → Answers) → (X → Place → Part) → Pat X → Part
pat_parts asks items (pats.Ident n) rest = binding_ident items n rest
pat_parts asks items (pats.Array n) rest = array_pat asks items n rest
pat_parts asks items (pats.Rest n) rest = rest_pat items n rest
pat_parts asks items (pats.Object n) rest = object_pat asks items n rest
pat_parts asks items (pats.Assign n) rest = assign_pat items n rest
pat_parts asks items (pats.Invalid n) rest = unsupported rest
pat_parts asks items (pats.Expr n) rest = items n.node.value (Whole Plain) rest

-- the comments after it
unfoldable pub pat : {X : Type 0} → (X → Answers) → (X → Place → Part) → Pat X → Part
pat asks items n rest = pat_parts asks items n (trailing_comments true (pat_span (place_of asks) n).hi rest)

-- `!` between a name and its type: `a!: A`
unfoldable pub definite_ident : {X : Type 0} → (X → Place → Part) → BindingIdent X → Part
definite_ident items n rest = ident n.id (punct (codes "!") (annotation items n.type_ann (trailing_comments true n.id.span.hi rest)))

-- any other pattern stands without that mark
unfoldable pub definite_pat : {X : Type 0} → (X → Answers) → (X → Place → Part) → Pat X → Part
definite_pat asks items (pats.Ident n) rest = definite_ident items n rest
definite_pat asks items n rest = pat asks items n rest

-- what is declared, which may be said to have a value
unfoldable pub declared_pat : {X : Type 0} → (X → Answers) → (X → Place → Part) → Bool → Pat X → Part
declared_pat asks items definite n rest = if definite then definite_pat asks items n rest else pat asks items n rest

unfoldable pub assign_target_pat : {X : Type 0} → (X → Answers) → (X → Place → Part) → AssignTargetPat X → Part
assign_target_pat asks items (target_pats.Array n) rest = array_pat asks items n rest
assign_target_pat asks items (target_pats.Object n) rest = object_pat asks items n rest
assign_target_pat asks items (target_pats.Invalid n) rest = unsupported rest
