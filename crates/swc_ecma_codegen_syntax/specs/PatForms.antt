-- Patterns: one production a node, with nonterminals. ECMA-262, sections 13.15.5 and 14.3.3.
use Rattle.std.specs.Prelude.{Bool, true, false, not, codes, string_bytes, List, [], ◌∷◌, Option, Some, None, if◌then◌else◌}
use Rattle.swc_ecma_codegen_tree.specs.Links.{ExprBox, PatBox}
use Rattle.swc_ecma_codegen_tree.specs.declared.pats.Pat.{Pat}
use Rattle.swc_ecma_codegen_tree.specs.declared.pats.Pat.TheVariants as pats
use Rattle.swc_ecma_codegen_tree.specs.declared.pats.ArrayPat.{ArrayPat}
use Rattle.swc_ecma_codegen_tree.specs.declared.pats.ObjectPat.{ObjectPat}
use Rattle.swc_ecma_codegen_tree.specs.declared.pats.RestPat.{RestPat}
use Rattle.swc_ecma_codegen_tree.specs.declared.pats.AssignPat.{AssignPat}
use Rattle.swc_ecma_codegen_tree.specs.declared.pats.ObjectPatProp.{ObjectPatProp}
use Rattle.swc_ecma_codegen_tree.specs.declared.pats.ObjectPatProp.TheVariants as pat_props
use Rattle.swc_ecma_codegen_tree.specs.declared.pats.KeyValuePatProp.{KeyValuePatProp}
use Rattle.swc_ecma_codegen_tree.specs.declared.pats.AssignPatProp.{AssignPatProp}
use Rattle.swc_ecma_codegen_tree.specs.declared.idents.BindingIdent.{BindingIdent}
use Rattle.swc_ecma_codegen_grammar.specs.Phrases.{Closing, RightBracket, RightBrace, Never, Nothing, closing_mark, mark}
use Rattle.swc_ecma_codegen_grammar.specs.AnnotationPhrases.{question}
use Rattle.swc_ecma_codegen_grammar.specs.ElementPhrases.{last_is_hole}
use Rattle.swc_ecma_codegen_grammar.specs.declared.roles.Role.TheVariants.{Pattern}
use Rattle.swc_ecma_codegen_syntax.specs.declared.nonterminals.Nonterminal.{Nonterminal}
use Rattle.swc_ecma_codegen_syntax.specs.declared.nonterminals.Nonterminal.TheVariants as nt
use Rattle.swc_ecma_codegen_syntax.specs.declared.parameters.Parameters.{Parameters}
use Rattle.swc_ecma_codegen_syntax.specs.Parameters.{with_in}
use Rattle.swc_ecma_codegen_syntax.specs.Forms.{Form, Fixed, Part, Simple, Provided, Closed, ByRule, ByScope, ◌⇢◌}
use Rattle.swc_ecma_codegen_syntax.specs.NameForms.{name_form, is_assignable}
use Rattle.swc_ecma_codegen_syntax.specs.MemberForms.{expr_part, annotation_form}
use Rattle.swc_ecma_codegen_syntax.specs.ObjectForms.{prop_name_form}

abbrev pub pat_part : {X : Type 0} → Nonterminal → Parameters → PatBox X → Form X
pat_part place c n = Part place c Pattern n.node.value

unfoldable pub binding_form : {X : Type 0} → Parameters → BindingIdent X → Form X
binding_form c n = Provided ByRule (is_assignable c.is_strict (string_bytes n.id.sym)) (name_form c n.id ⇢ annotation_form c n.type_ann)

-- Initializer: `= AssignmentExpression`
unfoldable pub initializer_form : {X : Type 0} → Parameters → Option (ExprBox X) → Form X
initializer_form c None = Fixed Nothing
initializer_form c (Some n) = Fixed (mark (codes "=")) ⇢ expr_part nt.AssignmentExpression (with_in c) n

-- `?` and a type behind a pattern are of TypeScript
unfoldable pub question_form : {X : Type 0} → Bool → Form X
question_form optional = Provided ByScope (not optional) (Fixed (question optional))

-- an element or a hole; the last, which may be a rest where no comma stands behind it
abbrev pub last_place : Bool → Nonterminal
last_place comma = if comma then nt.PatternElement else nt.LastElement

unfoldable pub pat_element_form : {X : Type 0} → Nonterminal → Parameters → Option (PatBox X) → Form X
pat_element_form place c None = Fixed Nothing
pat_element_form place c (Some n) = pat_part place c n

unfoldable pub pat_elements_after : {X : Type 0} → Bool → Parameters → List (Option (PatBox X)) → Form X
pat_elements_after comma c [] = Fixed Nothing
pat_elements_after comma c (x ∷ []) = Fixed (mark (codes ",")) ⇢ pat_element_form (last_place comma) c x ⇢ Fixed Nothing
pat_elements_after comma c (x ∷ y ∷ xs) = Fixed (mark (codes ",")) ⇢ pat_element_form nt.PatternElement c x ⇢ pat_elements_after comma c (y ∷ xs)

unfoldable pub pat_elements_form : {X : Type 0} → Bool → Parameters → List (Option (PatBox X)) → Form X
pat_elements_form comma c [] = Fixed Nothing
pat_elements_form comma c (x ∷ []) = pat_element_form (last_place comma) c x ⇢ Fixed Nothing
pat_elements_form comma c (x ∷ y ∷ xs) = pat_element_form nt.PatternElement c x ⇢ pat_elements_after comma c (y ∷ xs)

-- behind what is in a pattern: a comma may stand there, or none
unfoldable pub closing_form : {X A : Type 0} → Bool → Closing → List A → Form X
closing_form comma close [] = Fixed (mark (closing_mark close))
closing_form comma close (x ∷ xs) = Closed comma close

unfoldable pub elements_end_form : {X A : Type 0} → Bool → Bool → List A → Form X
elements_end_form comma true xs = Fixed (mark (codes ",")) ⇢ Fixed (mark (codes "]"))
elements_end_form comma false xs = closing_form comma RightBracket xs

-- ArrayAssignmentPattern, ArrayBindingPattern
unfoldable pub array_pat_form : {X : Type 0} → Bool → Parameters → ArrayPat X → Form X
array_pat_form comma c n =
    Fixed (mark (codes "[")) ⇢ pat_elements_form comma c n.elems.items ⇢ elements_end_form comma (last_is_hole n.elems.items) n.elems.items
    ⇢ question_form n.optional ⇢ annotation_form c n.type_ann

-- `... DestructuringAssignmentTarget`, `... BindingIdentifier`, `... BindingPattern`
unfoldable pub rest_form : {X : Type 0} → Nonterminal → Parameters → RestPat X → Form X
rest_form place c n = Fixed (mark (codes "...")) ⇢ pat_part place c n.arg ⇢ annotation_form c n.type_ann

-- a target and an Initializer
unfoldable pub assign_pat_form : {X : Type 0} → Parameters → AssignPat X → Form X
assign_pat_form c n = pat_part nt.PatternTarget c n.left ⇢ Fixed (mark (codes "=")) ⇢ expr_part nt.AssignmentExpression (with_in c) n.right

-- PropertyName : AssignmentElement
unfoldable pub key_value_pat_form : {X : Type 0} → Parameters → KeyValuePatProp X → Form X
key_value_pat_form c n = prop_name_form c n.key ⇢ Fixed (mark (codes ":")) ⇢ pat_part nt.PatternElement c n.value

-- IdentifierReference Initializer
unfoldable pub assign_pat_prop_form : {X : Type 0} → Parameters → AssignPatProp X → Form X
assign_pat_prop_form c n = binding_form c n.key ⇢ initializer_form c n.value

-- A rest stands last in an object, and is no pattern: a name, or in an assignment another target.
unfoldable pub pat_prop_form : {X : Type 0} → Bool → Parameters → ObjectPatProp X → Form X
pat_prop_form last c (pat_props.KeyValue n) = key_value_pat_form c n
pat_prop_form last c (pat_props.Assign n) = assign_pat_prop_form c n
pat_prop_form last c (pat_props.Rest n) = Provided ByRule last (rest_form nt.PatternName c n)

unfoldable pub pat_props_after : {X : Type 0} → Bool → Parameters → List (ObjectPatProp X) → Form X
pat_props_after comma c [] = Fixed Nothing
pat_props_after comma c (x ∷ []) = Fixed (mark (codes ",")) ⇢ pat_prop_form (not comma) c x ⇢ Fixed Nothing
pat_props_after comma c (x ∷ y ∷ xs) = Fixed (mark (codes ",")) ⇢ pat_prop_form false c x ⇢ pat_props_after comma c (y ∷ xs)

unfoldable pub pat_props_form : {X : Type 0} → Bool → Parameters → List (ObjectPatProp X) → Form X
pat_props_form comma c [] = Fixed Nothing
pat_props_form comma c (x ∷ []) = pat_prop_form (not comma) c x ⇢ Fixed Nothing
pat_props_form comma c (x ∷ y ∷ xs) = pat_prop_form false c x ⇢ pat_props_after comma c (y ∷ xs)

-- ObjectAssignmentPattern, ObjectBindingPattern
unfoldable pub object_pat_form : {X : Type 0} → Bool → Parameters → ObjectPat X → Form X
object_pat_form comma c n =
    Fixed (mark (codes "{")) ⇢ pat_props_form comma c n.props.items ⇢ closing_form comma RightBrace n.props.items ⇢ question_form n.optional
    ⇢ annotation_form c n.type_ann

-- An expression that is assigned to is no name, since a name is a pattern itself, and none stands in a binding.
unfoldable pub pat_form : {X : Type 0} → Bool → Parameters → Pat X → Form X
pat_form comma c (pats.Ident n) = binding_form c n
pat_form comma c (pats.Array n) = array_pat_form comma c n
pat_form comma c (pats.Rest n) = rest_form nt.PatternTarget c n
pat_form comma c (pats.Object n) = object_pat_form comma c n
pat_form comma c (pats.Assign n) = assign_pat_form c n
pat_form comma c (pats.Invalid n) = Provided ByRule false (Fixed Never)
pat_form comma c (pats.Expr n) = Provided ByRule (not c.is_binding) (Simple false nt.LeftHandSideExpression (with_in c) n.node.value)

-- the nonterminal of each
unfoldable pub pat_nonterminal : {X : Type 0} → Pat X → Nonterminal
pat_nonterminal (pats.Ident n) = nt.PatternName
pat_nonterminal (pats.Array n) = nt.PatternTarget
pat_nonterminal (pats.Rest n) = nt.RestElement
pat_nonterminal (pats.Object n) = nt.PatternTarget
pat_nonterminal (pats.Assign n) = nt.PatternElement
pat_nonterminal (pats.Invalid n) = nt.PatternName
pat_nonterminal (pats.Expr n) = nt.PatternName
