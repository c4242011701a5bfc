-- Patterns: one production a node. `f` says what is read of what a link holds, in its role.
use Rattle.std.specs.Prelude.{◌||◌, is_some, if◌then◌else◌, map, codes, Option, Some, None}
use Rattle.swc_ecma_codegen_tree.specs.Links.{ExprBox, PatBox, PropNameBox}
use Rattle.swc_ecma_codegen_tree.specs.declared.pats.Pat.{Pat}
use Rattle.swc_ecma_codegen_tree.specs.declared.pats.Pat.TheVariants as pats
use Rattle.swc_ecma_codegen_tree.specs.declared.pats.ArrayPat.{ArrayPat}
use Rattle.swc_ecma_codegen_tree.specs.declared.pats.ObjectPat.{ObjectPat}
use Rattle.swc_ecma_codegen_tree.specs.declared.pats.RestPat.{RestPat}
use Rattle.swc_ecma_codegen_tree.specs.declared.pats.AssignPat.{AssignPat}
use Rattle.swc_ecma_codegen_tree.specs.declared.pats.ObjectPatProp.{ObjectPatProp}
use Rattle.swc_ecma_codegen_tree.specs.declared.pats.ObjectPatProp.TheVariants as pat_props
use Rattle.swc_ecma_codegen_tree.specs.declared.pats.KeyValuePatProp.{KeyValuePatProp}
use Rattle.swc_ecma_codegen_tree.specs.declared.pats.AssignPatProp.{AssignPatProp}
use Rattle.swc_ecma_codegen_tree.specs.declared.pats.AssignTargetPat.{AssignTargetPat}
use Rattle.swc_ecma_codegen_tree.specs.declared.pats.AssignTargetPat.TheVariants as target_pats
use Rattle.swc_ecma_codegen_tree.specs.declared.idents.BindingIdent.{BindingIdent}
use Rattle.swc_ecma_codegen_grammar.specs.Phrases.{Phrase, Never, Nothing, RightBrace, ◌>◌, mark, listed}
use Rattle.swc_ecma_codegen_grammar.specs.ElementPhrases.{element, last_is_hole, closing_of, elements_end}
use Rattle.swc_ecma_codegen_grammar.specs.KeyPhrases.{prop_name}
use Rattle.swc_ecma_codegen_grammar.specs.AnnotationPhrases.{question, annotation}
use Rattle.swc_ecma_codegen_grammar.specs.NamePhrases.{binding_ident}
use Rattle.swc_ecma_codegen_grammar.specs.declared.roles.Role.{Role}
use Rattle.swc_ecma_codegen_grammar.specs.declared.roles.Role.TheVariants.{Expression, Pattern, PropertyName}

-- an expression, a pattern and a name of a property that a link holds
abbrev pub value_at : {X : Type 0} → (X → Role → Phrase) → ExprBox X → Phrase
value_at f n = f n.node.value Expression

abbrev pub pat_at : {X : Type 0} → (X → Role → Phrase) → PatBox X → Phrase
pat_at f n = f n.node.value Pattern

abbrev pub prop_name_at : {X : Type 0} → (X → Role → Phrase) → PropNameBox X → Phrase
prop_name_at f n = f n.node.value PropertyName

-- `= b` of `a = b`
unfoldable pub initializer : {X : Type 0} → (X → Role → Phrase) → Option (ExprBox X) → Phrase
initializer f None = Nothing
initializer f (Some n) = mark (codes "=") > value_at f n

-- ECMA-262, section 14.3.3: `[a, , b]`, which may have a trailing comma, and has one where its last element is a hole; `[a]?: A`
unfoldable pub array_pat : {X : Type 0} → (X → Role → Phrase) → ArrayPat X → Phrase
array_pat f n =
    mark (codes "[") > listed (codes ",") (map (element (pat_at f)) n.elems.items) > elements_end (last_is_hole n.elems.items) n.elems.items
    > question n.optional > annotation f n.type_ann

-- `...a`, `...a: A`
unfoldable pub rest_pat : {X : Type 0} → (X → Role → Phrase) → RestPat X → Phrase
rest_pat f n = mark (codes "...") > pat_at f n.arg > annotation f n.type_ann

-- `a = b`
unfoldable pub assign_pat : {X : Type 0} → (X → Role → Phrase) → AssignPat X → Phrase
assign_pat f n = pat_at f n.left > mark (codes "=") > value_at f n.right

-- `a: b`
unfoldable pub key_value_pat_prop : {X : Type 0} → (X → Role → Phrase) → KeyValuePatProp X → Phrase
key_value_pat_prop f n = prop_name f n.key > mark (codes ":") > pat_at f n.value

-- `a`, `a = b`
unfoldable pub assign_pat_prop : {X : Type 0} → (X → Role → Phrase) → AssignPatProp X → Phrase
assign_pat_prop f n = binding_ident f n.key > initializer f n.value

unfoldable pub object_pat_prop : {X : Type 0} → (X → Role → Phrase) → ObjectPatProp X → Phrase
object_pat_prop f (pat_props.KeyValue n) = key_value_pat_prop f n
object_pat_prop f (pat_props.Assign n) = assign_pat_prop f n
object_pat_prop f (pat_props.Rest n) = rest_pat f n

-- `{ a, b: c }`, which may have a trailing comma; `{ a }?: A`
unfoldable pub object_pat : {X : Type 0} → (X → Role → Phrase) → ObjectPat X → Phrase
object_pat f n =
    mark (codes "{") > listed (codes ",") (map (object_pat_prop f) n.props.items) > closing_of RightBrace n.props.items
    > question n.optional > annotation f n.type_ann

-- as `a.b` of `[a.b] = c`, an expression may stand for a pattern
unfoldable pub pat : {X : Type 0} → (X → Role → Phrase) → Pat X → Phrase
pat f (pats.Ident n) = binding_ident f n
pat f (pats.Array n) = array_pat f n
pat f (pats.Rest n) = rest_pat f n
pat f (pats.Object n) = object_pat f n
pat f (pats.Assign n) = assign_pat f n
pat f (pats.Invalid n) = Never
pat f (pats.Expr n) = value_at f n

-- a name alone, without `?` and without a type
unfoldable pub plain_name : {X : Type 0} → (X → Role → Phrase) → BindingIdent X → Phrase
plain_name f n = if n.id.optional || is_some n.type_ann then Never else binding_ident f n

unfoldable pub plain_parameter : {X : Type 0} → (X → Role → Phrase) → Pat X → Phrase
plain_parameter f (pats.Ident n) = plain_name f n
plain_parameter f n = Never

-- section 13.15.5
unfoldable pub assign_target_pat : {X : Type 0} → (X → Role → Phrase) → AssignTargetPat X → Phrase
assign_target_pat f (target_pats.Array n) = array_pat f n
assign_target_pat f (target_pats.Object n) = object_pat f n
assign_target_pat f (target_pats.Invalid n) = Never
