-- The check is exact: the summary of a tree decides which lists are derived with it.
use Rattle.std.proofs.Common.{◌≡◌, ◌⊎◌, inl, inr, Bool, true, false, ◌&&◌, ◌||◌, not, List, [], ◌∷◌, ◌++◌, Option, Some, None, refl, sym, subst, ◌∙◌, ap, ap₂}
use Rattle.std.proofs.lemmas.Bool.{true≢false, and_parts, and_from, or_cases}
use Rattle.swc_ecma_codegen_tree.specs.declared.links.AnyNode.{AnyNode, AnyNode-F, map-AnyNode, roll-AnyNode, out-AnyNode, ind-AnyNode}
use Rattle.swc_ecma_codegen_tree.specs.declared.links.AnyNode.TheOpen as nodes
use Rattle.swc_ecma_codegen_tree.specs.declared.links.AnyNode.TheViews.{out-roll-AnyNode}
use Rattle.swc_ecma_codegen_tree.specs.declared.exprs.Expr.{Expr}
use Rattle.swc_ecma_codegen_tree.specs.declared.exprs.Expr.TheVariants as exprs
use Rattle.swc_ecma_codegen_tree.specs.Links.{PatBox}
use Rattle.swc_ecma_codegen_tree.specs.declared.pats.Pat.{Pat}
use Rattle.swc_ecma_codegen_tree.specs.declared.pats.Pat.TheVariants as pats
use Rattle.swc_ecma_codegen_tree.specs.declared.pats.ArrayPat.{ArrayPat}
use Rattle.swc_ecma_codegen_tree.specs.declared.pats.ObjectPat.{ObjectPat}
use Rattle.swc_ecma_codegen_tree.specs.declared.pats.ObjectPatProp.{ObjectPatProp}
use Rattle.swc_ecma_codegen_tree.specs.declared.pats.ObjectPatProp.TheVariants as pat_props
use Rattle.swc_ecma_codegen_tree.specs.declared.pats.AssignTarget.{AssignTarget}
use Rattle.swc_ecma_codegen_tree.specs.declared.pats.AssignTarget.TheVariants as targets
use Rattle.swc_ecma_codegen_tree.specs.declared.pats.AssignTargetPat.{AssignTargetPat}
use Rattle.swc_ecma_codegen_tree.specs.declared.pats.AssignTargetPat.TheVariants as target_pats
use Rattle.swc_ecma_codegen_tree.specs.declared.parts.ExprPart.{ExprPart}
use Rattle.swc_ecma_codegen_tree.specs.declared.parts.ExprPart.TheVariants as expr_parts
use Rattle.swc_ecma_codegen_grammar.specs.ElementPhrases.{last_is_hole}
use Rattle.swc_ecma_codegen_grammar.specs.Phrases.{Phrase, Closing, RightBrace, Then, CommaBefore, OptionalParentheses, Argument, Parameter, open_parenthesis, close_parenthesis, in_parentheses, Generates}
use Rattle.swc_ecma_codegen_grammar.specs.PlainPhrases.{plain_phrase}
use Rattle.swc_ecma_codegen_grammar.specs.FunctionPhrases.{is_never}
use Rattle.swc_ecma_codegen_grammar.specs.Settings.{Settings}
use Rattle.swc_ecma_codegen_grammar.specs.Tokens.{Token}
use Rattle.swc_ecma_codegen_grammar.specs.TreePhrases.{phrase}
use Rattle.swc_ecma_codegen_grammar.specs.declared.roles.Role.{Role}
use Rattle.swc_ecma_codegen_grammar.specs.declared.roles.Role.TheVariants.{Expression, Callee, Statement, ChainMember, TaggedTemplate, Pattern, PlainParameter, AssignmentTarget, FieldValue}
use Rattle.swc_ecma_codegen_grammar.proofs.TreeLaws.{phrase_of, phrase_at}
use Rattle.swc_ecma_codegen_syntax.specs.declared.nonterminals.Nonterminal.{Nonterminal}
use Rattle.swc_ecma_codegen_syntax.specs.declared.nonterminals.Nonterminal.TheVariants as nt
use Rattle.swc_ecma_codegen_syntax.specs.declared.parameters.Parameters.{Parameters}
use Rattle.swc_ecma_codegen_syntax.specs.declared.verdicts.Facts.{Facts}
use Rattle.swc_ecma_codegen_syntax.specs.Summary.{Summary, begins_in, empty_in, shape_in}
use Rattle.swc_ecma_codegen_syntax.specs.Shapes.{fits}
use Rattle.swc_ecma_codegen_syntax.specs.Nonterminals.{takes, is_member, is_new, is_call, is_callee, is_chained, is_left_hand_side, is_update, is_unary, is_exponentiation, is_multiplicative, is_additive, is_shift, is_relational, is_in_left, is_equality, is_bitwise_and, is_bitwise_xor, is_bitwise_or, is_logical_and, is_logical_or, is_coalesce_head, is_short_circuit, is_conditional, is_assignment, is_expression, is_assignment_target, is_pattern_target, is_pattern_element, is_last_element, is_coalesce, is_private, is_optional, is_primary, is_template, is_property_name, is_chain_link, is_assignment_pattern, is_pattern_name, is_rest, is_statement, is_hoistable_declaration, is_declaration, is_block, is_statement_list_item, is_variable_declarations, is_labelled_item, is_module_declaration, is_exported_head, is_function_head, is_generator_head, is_async_function_head, is_async_generator_head, is_function_tail, is_getter_tail, is_setter_tail, is_method_head, is_decorator_list, is_class_head, is_class_tail, is_class_element, is_constructor_name, is_any_function_head, is_head_without_yield, is_head_without_await, is_any_property_name, is_uncovered, is_jsx_element, is_jsx_object}
use Rattle.swc_ecma_codegen_syntax.specs.Verdicts.{Grammar, holds_in, is_mended}
use Rattle.swc_ecma_codegen_syntax.specs.Parameters.{of_script, with_in, of_targets, before}
use Rattle.swc_ecma_codegen_syntax.specs.StmtForms.{is_empty_node}
use Rattle.swc_ecma_codegen_syntax.specs.declared.lookahead.Beginning.{Beginning}
use Rattle.swc_ecma_codegen_syntax.specs.declared.lookahead.Lookahead.{Lookahead}
use Rattle.swc_ecma_codegen_syntax.specs.Lookahead.{excludes}
use Rattle.swc_ecma_codegen_syntax.specs.Forms.{Form, Fixed, Part, Simple, Shaped, cure_of, Restricted, ByPlace, role_in, Both, Provided, Closed, Bare, Followed, map_form, forget, keeps, is_met, stands, is_target, Lone, only_phrase}
use Rattle.swc_ecma_codegen_syntax.specs.MemberForms.{prop_form, member_form, type_args_form, tagged_form}
use Rattle.swc_ecma_codegen_syntax.specs.PatForms.{pat_element_form, pat_elements_after, pat_elements_form, closing_form, elements_end_form, array_pat_form, pat_prop_form, pat_props_after, pat_props_form, object_pat_form, pat_form}
use Rattle.swc_ecma_codegen_syntax.specs.TargetForms.{target_pat_form, target_form}
use Rattle.swc_ecma_codegen_syntax.specs.ExprForms.{call_or_member, expr_form, expr_nonterminal}
use Rattle.swc_ecma_codegen_syntax.specs.NodeForms.{node_form, node_nonterminal, part_form, is_simple_expr, is_simple_node, is_simple, is_name_node, is_called, is_called_node, simple_in, expr_facts, part_facts, stmt_facts, stmt_part_facts, jsx_part_facts, node_facts, summary_of, facts}
use Rattle.swc_ecma_codegen_syntax.specs.Derives.{Derives, fixed, part, simple, shaped, restricted, both, provided, closed, comma_closed, bare, followed, bare_phrase, lone, lone_in_parentheses}
use Rattle.swc_ecma_codegen_syntax.proofs.BeginningLaws.{begins_as_summed}
use Rattle.swc_ecma_codegen_syntax.proofs.Judged.{keeps_mapped}
use Rattle.swc_ecma_codegen_syntax.proofs.SummaryForms.{sort_at, holds_at}
use Rattle.swc_ecma_codegen_syntax.proofs.TreeFacts.{node_mapped, facts_of, facts_at, empty_at, simple_of, shape_known}
use Rattle.swc_ecma_codegen_syntax.proofs.NodeForgets.{node_forgets}
use Rattle.swc_ecma_codegen_syntax.specs.ClassForms.{field_expr_form}

-- ---- of the two productions of a member, the summary takes the one that its object has

or_same : (b : Bool) → (b || false) ≡ true → b ≡ true
or_same true h = refl
or_same false h = h

call_no_member : (t : Nonterminal) → is_call t ≡ true → takes nt.MemberExpression t ≡ false
unfolding is_call takes is_member
call_no_member nt.CallExpression h = refl
call_no_member t h = absurd (true≢false (sym h))

member_primary : (place : Nonterminal) → takes place nt.MemberExpression ≡ true → takes place nt.PrimaryExpression ≡ true
unfolding takes is_member is_new is_call is_callee is_chained is_left_hand_side is_update is_unary is_exponentiation is_multiplicative is_additive is_shift is_relational is_in_left is_equality is_bitwise_and is_bitwise_xor is_bitwise_or is_logical_and is_logical_or is_coalesce_head is_short_circuit is_conditional is_assignment is_expression is_assignment_target is_pattern_target is_pattern_element is_last_element is_coalesce is_private is_optional is_primary is_template is_property_name is_chain_link is_assignment_pattern is_pattern_name is_rest is_statement is_hoistable_declaration is_declaration is_block is_statement_list_item is_variable_declarations is_labelled_item is_module_declaration is_exported_head is_function_head is_generator_head is_async_function_head is_async_generator_head is_function_tail is_getter_tail is_setter_tail is_method_head is_decorator_list is_class_head is_class_tail is_class_element is_constructor_name is_any_function_head is_head_without_yield is_head_without_await is_any_property_name is_jsx_element is_jsx_object is_uncovered
member_primary nt.PrimaryExpression h = refl
member_primary place h = h

or_right : (a b : Bool) → b ≡ true → (a || b) ≡ true
or_right true b h = refl
or_right false b h = h

or_left : (a b : Bool) → a ≡ true → (a || b) ≡ true
or_left true b h = refl
or_left false b h = absurd (true≢false (sym h))

-- a place that takes a member, or is mended for one, takes what stands in parentheses
place_primary : (place : Nonterminal) → (takes place nt.MemberExpression ≡ true) ⊎ (is_mended place nt.MemberExpression ≡ true) → takes place nt.PrimaryExpression ≡ true
unfolding is_mended
place_primary place (inl h) = member_primary place h
place_primary place (inr h) = (and_parts (takes place nt.PrimaryExpression) (takes nt.Expression nt.MemberExpression) h).0

call_mended : (place : Nonterminal) → takes place nt.PrimaryExpression ≡ true → is_mended place nt.CallExpression ≡ true
unfolding is_mended takes is_expression is_assignment is_conditional is_short_circuit is_logical_or is_logical_and is_bitwise_or is_bitwise_xor is_bitwise_and is_equality is_relational is_shift is_additive is_multiplicative is_exponentiation is_unary is_update is_left_hand_side
call_mended place h = and_from (takes place nt.PrimaryExpression) true h refl

abbrev Chosen2 : Bool → Nonterminal → Bool → Nonterminal → Type 0
Chosen2 places place called t = (stands places place (call_or_member called) ≡ true) × (stands places (call_or_member called) t ≡ true)

chosen_call : (places : Bool) (place t : Nonterminal) (b : Bool) → is_call t ≡ b → stands places place nt.MemberExpression ≡ true → stands places nt.MemberExpression t ≡ true → Chosen2 places place b t
unfolding stands takes is_call
chosen_call places place t false e s k = (s, k)
chosen_call true place t true e s k = absurd (true≢false (sym (or_same (takes nt.MemberExpression t) k) ∙ call_no_member t e))
chosen_call false place t true e s k = (
  or_right (takes place nt.CallExpression) (is_mended place nt.CallExpression) (call_mended place (place_primary place (or_cases (takes place nt.MemberExpression) (is_mended place nt.MemberExpression) s))),
  or_left (takes nt.CallExpression t) (is_mended nt.CallExpression t) e,
)

is_call_of : (places : Bool) (t : Nonterminal) → stands places nt.CallExpression t ≡ true → is_call t ≡ true
unfolding stands is_mended takes is_call
is_call_of true t k = or_same (is_call t) k
is_call_of false t k = or_same (is_call t) k

switched : (places : Bool) (place : Nonterminal) (called : Bool) (t : Nonterminal) → stands places place (call_or_member called) ≡ true → stands places (call_or_member called) t ≡ true → Chosen2 places place (is_call t) t
switched places place false t s k = chosen_call places place t (is_call t) refl s k
switched places place true t s k = subst (λ b. Chosen2 places place b t) (sym (is_call_of places t k)) (s, k)

abbrev Stood : {X : Type 0} → Grammar → (X → Role → Parameters → Summary) → Nonterminal → Nonterminal → Form X → Type 0
Stood grammar f place t a = (stands grammar.places place t ≡ true) × (keeps grammar f a ≡ true)

expr_chosen : {X : Type 0} (grammar : Grammar) (f : X → Role → Parameters → Summary) (place : Nonterminal) (stays called : Bool) (c : Parameters) (n : Expr X) →
    Stood grammar f place (expr_nonterminal stays called c n) (expr_form stays called c n) →
    Stood grammar f place (expr_nonterminal stays (is_called f c n) c n) (expr_form stays (is_called f c n) c n)
unfolding expr_nonterminal expr_form is_called member_form tagged_form keeps
expr_chosen grammar f place stays called c (exprs.Member n) (s, k) =
    let known : Facts = (f n.obj.node.value Callee (with_in c)).facts in
    let (h, l) = and_parts (stands grammar.places (call_or_member called) known.nonterminal && holds_in grammar known.verdict) (keeps grammar f (prop_form c n.prop)) k in
    let (i, j) = and_parts (stands grammar.places (call_or_member called) known.nonterminal) (holds_in grammar known.verdict) h in
    let (u, v) = switched grammar.places place called known.nonterminal s i in
    (u, and_from _ _ (and_from _ _ v j) l)
expr_chosen grammar f place stays called c (exprs.TaggedTpl n) (s, k) =
    let known : Facts = (f n.tag.node.value Callee (with_in c)).facts in
    let (h, l) = and_parts (stands grammar.places (call_or_member called) known.nonterminal && holds_in grammar known.verdict) (keeps grammar f (type_args_form c n.type_params) && keeps grammar f (Part nt.TemplateLiteral (with_in c) TaggedTemplate n.tpl.node.value)) k in
    let (i, j) = and_parts (stands grammar.places (call_or_member called) known.nonterminal) (holds_in grammar known.verdict) h in
    let (u, v) = switched grammar.places place called known.nonterminal s i in
    (u, and_from _ _ (and_from _ _ v j) l)
expr_chosen grammar f place stays called c n w = w

-- ---- of the two productions of a pattern, the summary takes the one without a comma

last_stands : (places : Bool) (t : Nonterminal) → stands places nt.PatternElement t ≡ true → stands places nt.LastElement t ≡ true
unfolding stands is_mended takes is_last_element is_pattern_element is_pattern_target
last_stands places nt.LastElement h = refl
last_stands places nt.RestElement h = refl
last_stands places t h = h

element_chosen : {X : Type 0} (grammar : Grammar) (f : X → Role → Parameters → Summary) (c : Parameters) (o : Option (PatBox X)) →
    keeps grammar f (pat_element_form nt.PatternElement c o) ≡ true → keeps grammar f (pat_element_form nt.LastElement c o) ≡ true
unfolding keeps pat_element_form
element_chosen grammar f c None k = k
element_chosen grammar f c (Some n) k =
    let known : Facts = (f n.node.value Pattern c).facts in
    let (h, l) = and_parts (stands grammar.places nt.PatternElement known.nonterminal) (holds_in grammar known.verdict) k in
    and_from _ _ (last_stands grammar.places known.nonterminal h) l

elements_after_chosen : {X : Type 0} (grammar : Grammar) (f : X → Role → Parameters → Summary) (c : Parameters) (xs : List (Option (PatBox X))) →
    keeps grammar f (pat_elements_after true c xs) ≡ true → keeps grammar f (pat_elements_after false c xs) ≡ true
unfolding keeps pat_elements_after
elements_after_chosen grammar f c [] k = k
elements_after_chosen grammar f c (x ∷ []) k =
    let (h, l) = and_parts (keeps grammar f (pat_element_form nt.PatternElement c x)) true k in
    and_from _ _ (element_chosen grammar f c x h) l
elements_after_chosen grammar f c (x ∷ y ∷ xs) k =
    let (h, l) = and_parts (keeps grammar f (pat_element_form nt.PatternElement c x)) (keeps grammar f (pat_elements_after true c (y ∷ xs))) k in
    and_from _ _ h (elements_after_chosen grammar f c (y ∷ xs) l)

elements_chosen : {X : Type 0} (grammar : Grammar) (f : X → Role → Parameters → Summary) (c : Parameters) (xs : List (Option (PatBox X))) →
    keeps grammar f (pat_elements_form true c xs) ≡ true → keeps grammar f (pat_elements_form false c xs) ≡ true
unfolding keeps pat_elements_form
elements_chosen grammar f c [] k = k
elements_chosen grammar f c (x ∷ []) k =
    let (h, l) = and_parts (keeps grammar f (pat_element_form nt.PatternElement c x)) true k in
    and_from _ _ (element_chosen grammar f c x h) l
elements_chosen grammar f c (x ∷ y ∷ xs) k =
    let (h, l) = and_parts (keeps grammar f (pat_element_form nt.PatternElement c x)) (keeps grammar f (pat_elements_after true c (y ∷ xs))) k in
    and_from _ _ h (elements_after_chosen grammar f c (y ∷ xs) l)

prop_chosen : {X : Type 0} (grammar : Grammar) (f : X → Role → Parameters → Summary) (c : Parameters) (n : ObjectPatProp X) →
    keeps grammar f (pat_prop_form false c n) ≡ true → keeps grammar f (pat_prop_form true c n) ≡ true
unfolding keeps is_met pat_prop_form
prop_chosen grammar f c (pat_props.KeyValue n) k = k
prop_chosen grammar f c (pat_props.Assign n) k = k
prop_chosen grammar f c (pat_props.Rest n) k = absurd (true≢false (sym k))

props_after_chosen : {X : Type 0} (grammar : Grammar) (f : X → Role → Parameters → Summary) (c : Parameters) (xs : List (ObjectPatProp X)) →
    keeps grammar f (pat_props_after true c xs) ≡ true → keeps grammar f (pat_props_after false c xs) ≡ true
unfolding keeps pat_props_after
props_after_chosen grammar f c [] k = k
props_after_chosen grammar f c (x ∷ []) k =
    let (h, l) = and_parts (keeps grammar f (pat_prop_form false c x)) true k in
    and_from _ _ (prop_chosen grammar f c x h) l
props_after_chosen grammar f c (x ∷ y ∷ xs) k =
    let (h, l) = and_parts (keeps grammar f (pat_prop_form false c x)) (keeps grammar f (pat_props_after true c (y ∷ xs))) k in
    and_from _ _ h (props_after_chosen grammar f c (y ∷ xs) l)

props_chosen : {X : Type 0} (grammar : Grammar) (f : X → Role → Parameters → Summary) (c : Parameters) (xs : List (ObjectPatProp X)) →
    keeps grammar f (pat_props_form true c xs) ≡ true → keeps grammar f (pat_props_form false c xs) ≡ true
unfolding keeps pat_props_form
props_chosen grammar f c [] k = k
props_chosen grammar f c (x ∷ []) k =
    let (h, l) = and_parts (keeps grammar f (pat_prop_form false c x)) true k in
    and_from _ _ (prop_chosen grammar f c x h) l
props_chosen grammar f c (x ∷ y ∷ xs) k =
    let (h, l) = and_parts (keeps grammar f (pat_prop_form false c x)) (keeps grammar f (pat_props_after true c (y ∷ xs))) k in
    and_from _ _ h (props_after_chosen grammar f c (y ∷ xs) l)

closing_keeps : {X A : Type 0} (grammar : Grammar) (f : X → Role → Parameters → Summary) (comma : Bool) (close : Closing) (xs : List A) → keeps grammar f (closing_form comma close xs) ≡ true
unfolding keeps closing_form
closing_keeps grammar f comma close [] = refl
closing_keeps grammar f comma close (x ∷ xs) = refl

end_keeps : {X A : Type 0} (grammar : Grammar) (f : X → Role → Parameters → Summary) (comma hole : Bool) (xs : List A) → keeps grammar f (elements_end_form comma hole xs) ≡ true
unfolding keeps elements_end_form
end_keeps grammar f comma true xs = refl
end_keeps grammar f comma false xs = closing_keeps grammar f comma _ xs

array_chosen : {X : Type 0} (grammar : Grammar) (f : X → Role → Parameters → Summary) (c : Parameters) (n : ArrayPat X) → keeps grammar f (array_pat_form true c n) ≡ true → keeps grammar f (array_pat_form false c n) ≡ true
unfolding keeps array_pat_form
array_chosen grammar f c n k =
    let (h, l) = and_parts (keeps grammar f (pat_elements_form true c n.elems.items)) _ k in
    let (i, j) = and_parts (keeps grammar f (elements_end_form true (last_is_hole n.elems.items) n.elems.items)) _ l in
    and_from _ _ (elements_chosen grammar f c n.elems.items h) (and_from _ _ (end_keeps grammar f false (last_is_hole n.elems.items) n.elems.items) j)

object_chosen : {X : Type 0} (grammar : Grammar) (f : X → Role → Parameters → Summary) (c : Parameters) (n : ObjectPat X) → keeps grammar f (object_pat_form true c n) ≡ true → keeps grammar f (object_pat_form false c n) ≡ true
unfolding keeps object_pat_form
object_chosen grammar f c n k =
    let (h, l) = and_parts (keeps grammar f (pat_props_form true c n.props.items)) _ k in
    let (i, j) = and_parts (keeps grammar f (closing_form true RightBrace n.props.items)) _ l in
    and_from _ _ (props_chosen grammar f c n.props.items h) (and_from _ _ (closing_keeps grammar f false RightBrace n.props.items) j)

pat_chosen : {X : Type 0} (grammar : Grammar) (f : X → Role → Parameters → Summary) (c : Parameters) (n : Pat X) → keeps grammar f (pat_form true c n) ≡ true → keeps grammar f (pat_form false c n) ≡ true
unfolding pat_form
pat_chosen grammar f c (pats.Array n) k = array_chosen grammar f c n k
pat_chosen grammar f c (pats.Object n) k = object_chosen grammar f c n k
pat_chosen grammar f c n k = k

target_pat_chosen : {X : Type 0} (grammar : Grammar) (f : X → Role → Parameters → Summary) (c : Parameters) (n : AssignTargetPat X) → keeps grammar f (target_pat_form true c n) ≡ true → keeps grammar f (target_pat_form false c n) ≡ true
unfolding target_pat_form
target_pat_chosen grammar f c (target_pats.Array n) k = array_chosen grammar f c n k
target_pat_chosen grammar f c (target_pats.Object n) k = object_chosen grammar f c n k
target_pat_chosen grammar f c (target_pats.Invalid n) k = k

target_chosen : {X : Type 0} (grammar : Grammar) (f : X → Role → Parameters → Summary) (c : Parameters) (n : AssignTarget X) → keeps grammar f (target_form true c n) ≡ true → keeps grammar f (target_form false c n) ≡ true
unfolding target_form
target_chosen grammar f c (targets.Simple n) k = k
target_chosen grammar f c (targets.Pat n) k = target_pat_chosen grammar f (of_targets c) n k

part_chosen : {X : Type 0} (grammar : Grammar) (f : X → Role → Parameters → Summary) (called : Bool) (c : Parameters) (n : ExprPart X) (role : Role) →
    keeps grammar f (part_form called c n role) ≡ true → keeps grammar f (part_form false c n role) ≡ true
unfolding part_form
part_chosen grammar f false c n role k = k
part_chosen grammar f true c (expr_parts.Pat n) Pattern k = pat_chosen grammar f c n k
part_chosen grammar f true c (expr_parts.AssignTarget n) AssignmentTarget k = target_chosen grammar f c n k
part_chosen grammar f true c n role k = k

field_chosen : {X : Type 0} (grammar : Grammar) (f : X → Role → Parameters → Summary) (place : Nonterminal) (called : Bool) (c : Parameters) (n : Expr X) →
    Stood grammar f place (expr_nonterminal false called c n) (field_expr_form (expr_form false called c n) n) →
    Stood grammar f place (expr_nonterminal false (is_called f c n) c n) (field_expr_form (expr_form false (is_called f c n) c n) n)
unfolding expr_nonterminal expr_form field_expr_form is_called
field_chosen grammar f place called c (exprs.Seq n) w = w
field_chosen grammar f place called c n w = expr_chosen grammar f place false called c n w

chosen : {X : Type 0} (grammar : Grammar) (f : X → Role → Parameters → Summary) (place : Nonterminal) (called : Bool) (c : Parameters) (n : AnyNode-F X) (role : Role) →
    Stood grammar f place (node_nonterminal called c n role) (node_form called c n role) →
    Stood grammar f place (node_nonterminal (is_called_node f c n) c n role) (node_form (is_called_node f c n) c n role)
unfolding node_nonterminal node_form is_called_node
chosen grammar f place called c (nodes.Expr n) Expression w = expr_chosen grammar f place false called c n w
chosen grammar f place called c (nodes.Expr n) Callee w = expr_chosen grammar f place true called c n w
chosen grammar f place called c (nodes.Expr n) FieldValue w = field_chosen grammar f place called c n w
chosen grammar f place called c (nodes.MemberExpr n) (ChainMember optional) w = w
chosen grammar f place called c (nodes.ExprPart n) role (s, k) = (s, part_chosen grammar f called c n role k)
chosen grammar f place called c (nodes.Stmt n) Statement w = w
chosen grammar f place called c (nodes.StmtPart n) role w = w
chosen grammar f place called c (nodes.JSXPart n) role w = w
chosen grammar f place called c n role w = w

-- ---- AssignmentTargetType

simple_facts : {X : Type 0} (f : X → Role → Parameters → Summary) (n : AnyNode-F X) (c : Parameters) → (node_facts f n Expression c).is_simple ≡ is_simple_node (simple_in f c) c.is_strict n
unfolding node_facts expr_facts part_facts stmt_facts stmt_part_facts jsx_part_facts is_simple_node
simple_facts f (nodes.Expr n) c = refl
simple_facts f n c = refl

name_facts : {X : Type 0} (f : X → Role → Parameters → Summary) (n : AnyNode-F X) (c : Parameters) → (node_facts f n Expression c).is_name ≡ is_name_node n
unfolding node_facts expr_facts part_facts stmt_facts stmt_part_facts jsx_part_facts is_name_node
name_facts f (nodes.Expr n) c = refl
name_facts f n c = refl

simple_same : {X : Type 0} (d e : X → Bool) → ((x : X) → d x ≡ e x) → (strict : Bool) (n : AnyNode-F X) → is_simple_node d strict n ≡ is_simple_node e strict n
unfolding is_simple_node is_simple_expr
simple_same d e same strict (nodes.Expr (exprs.Paren n)) = same n.expr.node.value
simple_same d e same strict (nodes.Expr n) = refl
simple_same d e same strict n = refl

abbrev SimpleLaw : AnyNode → Type 0
SimpleLaw n = (c : Parameters) → (facts n Expression c).is_simple ≡ is_simple n c.is_strict

simple_facts_at : (n : AnyNode) → SimpleLaw n
simple_facts_at = ind-AnyNode SimpleLaw (λ x y q. subst (λ z. SimpleLaw (roll-AnyNode z)) q (λ c.
    ap (λ z. z.is_simple) (facts_of (λ z. z.0) y Expression c) ∙ simple_facts (λ z. summary_of z.0) y c
    ∙ simple_same (simple_in (λ z. summary_of z.0) c) (λ z. is_simple z.0 c.is_strict) (λ z. z.1 (with_in c)) c.is_strict y ∙ sym (simple_of (λ z. z.0) y c.is_strict)))

name_facts_at : (n : AnyNode) (c : Parameters) → (facts n Expression c).is_name ≡ is_name_node (out-AnyNode n)
name_facts_at n c = ap (λ z. z.is_name) (facts_at n Expression c) ∙ name_facts summary_of (out-AnyNode n) c

target_facts_at : (named : Bool) (n : AnyNode) (c : Parameters) → is_target named (facts n Expression c) ≡ (is_simple n c.is_strict && (named || not (is_name_node (out-AnyNode n))))
target_facts_at named n c = ap₂ (λ a b. a && (named || not b)) (simple_facts_at n c) (name_facts_at n c)

-- ---- what is derived keeps its structure, and is read as it is today

abbrev PassesAndGenerates : Grammar → Settings → Form AnyNode → List Token → Type 0
PassesAndGenerates grammar s a ts = (keeps grammar summary_of a ≡ true) × Generates s (forget phrase a) ts

part_kept : (grammar : Grammar) (s : Settings) (place : Nonterminal) (c : Parameters) (role : Role) (n : AnyNode) (ts : List Token) (called : Bool) →
    stands grammar.places place (node_nonterminal called c (out-AnyNode n) role) ≡ true → PassesAndGenerates grammar s (node_form called c (out-AnyNode n) role) ts → PassesAndGenerates grammar s (Part place c role n) ts
unfolding keeps forget
part_kept grammar s place c role n ts called st (k, x) =
    let (u, v) = chosen grammar summary_of place called c (out-AnyNode n) role (st, k) in
    let t : stands grammar.places place (facts n role c).nonterminal ≡ true = ap (stands grammar.places place) (sort_at n role c) ∙ u in
    let h : holds_in grammar (facts n role c).verdict ≡ true = holds_at grammar n role c ∙ v in
    (and_from _ _ t h, subst (λ p. Generates s p ts) (node_forgets grammar summary_of phrase called c (out-AnyNode n) role k ∙ sym (phrase_at n role)) x)

avoided : (grammar : Grammar) (lookahead : Lookahead) {a b : Beginning} → a ≡ b → is_met grammar ByPlace (not (excludes lookahead a)) ≡ true → is_met grammar ByPlace (not (excludes lookahead b)) ≡ true
avoided grammar lookahead e h = ap (λ z. is_met grammar ByPlace (not (excludes lookahead z))) (sym e) ∙ h

lone_generates : (s : Settings) (b : Bool) (p : Phrase) (ts : List Token) → b ≡ false → Generates s p ts → Generates s (only_phrase b p) ts
unfolding Generates
lone_generates s true p ts h x = absurd (true≢false h)
lone_generates s false p ts h x = inl x

parenthesized_generates : (s : Settings) (b : Bool) (p : Phrase) (ts : List Token) → Generates s p ts → Generates s (only_phrase b p) (in_parentheses ts)
unfolding Generates
parenthesized_generates s true p ts x = (_, _, refl, (ts, _, x, refl, refl), refl)
parenthesized_generates s false p ts x = inr (ts, x, refl)

pub derived_kept : (grammar : Grammar) (s : Settings) (a : Form AnyNode) (ts : List Token) → Derives grammar s a ts → PassesAndGenerates grammar s a ts
unfolding keeps forget Generates
derived_kept grammar s a ts (fixed x) = (refl, x)
derived_kept grammar s a ts (part {place = place} {c = c} {role = role} {n = n} called st d) =
    part_kept grammar s place c role n ts called st (derived_kept grammar s (node_form called c (out-AnyNode n) role) ts d)
derived_kept grammar s a ts (simple {named = named} {place = place} {c = c} {n = n} h d) =
    let (k, x) = derived_kept grammar s (Part place c Expression n) ts d in
    (and_from (is_target named (facts n Expression c)) _ (target_facts_at named n c ∙ h) k, x)
derived_kept grammar s a ts (shaped {shape = shape} {place = place} {c = c} {role = role} {n = n} h d) =
    let (k, x) = derived_kept grammar s (Part place c role n) ts d in
    (and_from (is_met grammar (cure_of shape) (fits shape (shape_in summary_of n))) _ (ap (λ z. is_met grammar (cure_of shape) (fits shape z)) (shape_known n) ∙ h) k, x)
derived_kept grammar s a ts (restricted {lookahead = lookahead} {place = place} {c = c} {as_pattern = as_pattern} {n = n} h d) =
    let role : Role = role_in as_pattern in
    let (k, x) = derived_kept grammar s (Part place c role n) ts d in
    let (_, l) = and_parts (stands grammar.places place (facts n role c).nonterminal) (holds_in grammar (facts n role c).verdict) k in
    (and_from (is_met grammar ByPlace (not (excludes lookahead (begins_in summary_of n role)))) _ (avoided grammar lookahead (begins_as_summed grammar s n as_pattern c l ts x) h) k, x)
derived_kept grammar s a ts (lone {place = place} {c = c} {n = n} plain d) =
    let (k, x) = derived_kept grammar s (Part place c Pattern n) ts d in
    (k, lone_generates s (is_never (phrase n PlainParameter)) (phrase n Pattern) ts plain x)
derived_kept grammar s a ts (lone_in_parentheses {place = place} {c = c} {n = n} {ts = us} d) =
    let (k, x) = derived_kept grammar s (Part place c Pattern n) us d in
    (k, parenthesized_generates s (is_never (phrase n PlainParameter)) (phrase n Pattern) us x)
derived_kept grammar s a ts (both {a = b} {b = e} {ts = us} {us = vs} d g) =
    let (k, x) = derived_kept grammar s b us d in
    let (l, y) = derived_kept grammar s e vs g in
    (and_from (keeps grammar summary_of b) (keeps grammar summary_of e) k l, (us, vs, x, y, refl))
derived_kept grammar s a ts (provided {cure = cure} {condition = condition} {a = b} h d) =
    let (k, x) = derived_kept grammar s b ts d in
    (and_from (is_met grammar cure condition) (keeps grammar summary_of b) h k, x)
derived_kept grammar s a ts closed = (refl, inl refl)
derived_kept grammar s a ts comma_closed = (refl, inr refl)
derived_kept grammar s a ts (followed {place = place} {c = c} {n = n} {next = next} d) =
    let (k, x) = derived_kept grammar s (Part place (before (is_empty_node (out-AnyNode next)) c) Statement n) ts d in
    (subst (λ b. (stands grammar.places place (facts n Statement (before b c)).nonterminal && holds_in grammar (facts n Statement (before b c)).verdict) ≡ true) (sym (empty_at next Statement of_script)) k, x)
derived_kept grammar s a ts (bare {a = b} d) =
    let (k, x) = derived_kept grammar s b ts d in
    (k, inl x)

-- ---- what keeps its structure derives each of its lists that settles what syntax leaves open, with parentheses round the only parameter of an arrow function or without

-- the tokens of a pair and of what stands in it
enclosed : (us vs ws zs ts : List Token) → us ≡ open_parenthesis ∷ [] → zs ≡ close_parenthesis ∷ [] → vs ≡ ws ++ zs → ts ≡ us ++ vs → ts ≡ in_parentheses ws
enclosed us vs ws zs ts x z q r = r ∙ ap₂ (λ l m. l ++ m) x (q ∙ ap (λ l. ws ++ l) z)

plain_generates : (s : Settings) (m : Bool) (p : Phrase) (ts : List Token) → Generates s (plain_phrase m p) ts → Generates s p ts
unfolding Generates plain_phrase
plain_generates s m (Then a b) ts (us, vs, x, y, q) = (us, vs, plain_generates s m a us x, plain_generates s m b vs y, q)
plain_generates s m (CommaBefore close) ts x = inl x
plain_generates s m (OptionalParentheses Argument a) ts x = inl (plain_generates s m a ts x)
plain_generates s true (OptionalParentheses Parameter a) ts x = inl (plain_generates s true a ts x)
plain_generates s false (OptionalParentheses Parameter a) ts (us, vs, x, (ws, zs, y, z, q), r) = inr (ws, plain_generates s false a ws y, enclosed us vs ws zs ts x z q r)
plain_generates s m p ts x = x

abbrev DerivesLaw : Grammar → Bool → Settings → AnyNode → Type 0
DerivesLaw grammar m s n = (role : Role) (c : Parameters) → holds_in grammar (facts n role c).verdict ≡ true → (ts : List Token) → Generates s (plain_phrase m (phrase n role)) ts →
    Derives grammar s (node_form (is_called_node summary_of c (out-AnyNode n)) c (out-AnyNode n) role) ts

part_built : (grammar : Grammar) (m : Bool) (s : Settings) (place : Nonterminal) (c : Parameters) (role : Role) (n : AnyNode) → DerivesLaw grammar m s n →
    (stands grammar.places place (facts n role c).nonterminal && holds_in grammar (facts n role c).verdict) ≡ true → (ts : List Token) → Generates s (plain_phrase m (phrase n role)) ts → Derives grammar s (Part place c role n) ts
part_built grammar m s place c role n law k ts x =
    let (t, h) = and_parts (stands grammar.places place (facts n role c).nonterminal) (holds_in grammar (facts n role c).verdict) k in
    part (is_called_node summary_of c (out-AnyNode n)) (ap (stands grammar.places place) (sym (sort_at n role c)) ∙ t) (law role c h ts x)

lone_built : (grammar : Grammar) (m : Bool) (s : Settings) (place : Nonterminal) (c : Parameters) (n : AnyNode) → DerivesLaw grammar m s n →
    (stands grammar.places place (facts n Pattern c).nonterminal && holds_in grammar (facts n Pattern c).verdict) ≡ true → (ts : List Token) (b : Bool) → is_never (phrase n PlainParameter) ≡ b →
    Generates s (plain_phrase m (only_phrase b (phrase n Pattern))) ts → Derives grammar s (Lone place c n) ts
unfolding plain_phrase Generates
lone_built grammar m s place c n law k ts true e (us, vs, x, (ws, zs, y, z, q), r) =
    subst (λ l. Derives grammar s (Lone place c n) l) (sym (enclosed us vs ws zs ts x z q r)) (lone_in_parentheses (part_built grammar m s place c Pattern n law k ws y))
lone_built grammar true s place c n law k ts false e x = lone e (part_built grammar true s place c Pattern n law k ts x)
lone_built grammar false s place c n law k ts false e (us, vs, x, (ws, zs, y, z, q), r) =
    subst (λ l. Derives grammar s (Lone place c n) l) (sym (enclosed us vs ws zs ts x z q r)) (lone_in_parentheses (part_built grammar false s place c Pattern n law k ws y))

built : {X : Type 0} (grammar : Grammar) (m : Bool) (s : Settings) (g : X → AnyNode) → ((x : X) → DerivesLaw grammar m s (g x)) → (a : Form X) → keeps grammar (λ x. summary_of (g x)) a ≡ true → (ts : List Token) →
    Generates s (plain_phrase m (forget (λ x. phrase (g x)) a)) ts → Derives grammar s (map_form g a) ts
unfolding keeps forget map_form plain_phrase Generates
built grammar m s g law (Fixed p) k ts x = fixed (plain_generates s m p ts x)
built grammar m s g law (Part place c role n) k ts x = part_built grammar m s place c role (g n) (law n) k ts x
built grammar m s g law (Simple named place c n) k ts x =
    let (h, l) = and_parts (is_target named (facts (g n) Expression c)) (stands grammar.places place (facts (g n) Expression c).nonterminal && holds_in grammar (facts (g n) Expression c).verdict) k in
    simple (sym (target_facts_at named (g n) c) ∙ h) (part_built grammar m s place c Expression (g n) (law n) l ts x)
built grammar m s g law (Shaped shape place c role n) k ts x =
    let (h, l) = and_parts (is_met grammar (cure_of shape) (fits shape (shape_in summary_of (g n)))) (stands grammar.places place (facts (g n) role c).nonterminal && holds_in grammar (facts (g n) role c).verdict) k in
    shaped (ap (λ z. is_met grammar (cure_of shape) (fits shape z)) (sym (shape_known (g n))) ∙ h) (part_built grammar m s place c role (g n) (law n) l ts x)
built grammar m s g law (Restricted lookahead place c as_pattern n) k ts x =
    let role : Role = role_in as_pattern in
    let known : Facts = facts (g n) role c in
    let (h, l) = and_parts (is_met grammar ByPlace (not (excludes lookahead (begins_in summary_of (g n) role)))) (stands grammar.places place known.nonterminal && holds_in grammar known.verdict) k in
    let (_, v) = and_parts (stands grammar.places place known.nonterminal) (holds_in grammar known.verdict) l in
    restricted (avoided grammar lookahead (sym (begins_as_summed grammar s (g n) as_pattern c v ts (plain_generates s m (phrase (g n) role) ts x))) h) (part_built grammar m s place c role (g n) (law n) l ts x)
built grammar m s g law (Lone place c n) k ts x = lone_built grammar m s place c (g n) (law n) k ts (is_never (phrase (g n) PlainParameter)) refl x
built grammar m s g law (Both a b) k ts (us, vs, x, y, q) =
    let (h, l) = and_parts (keeps grammar (λ z. summary_of (g z)) a) (keeps grammar (λ z. summary_of (g z)) b) k in
    subst (λ z. Derives grammar s (Both (map_form g a) (map_form g b)) z) (sym q) (both (built grammar m s g law a h us x) (built grammar m s g law b l vs y))
built grammar m s g law (Provided cure condition a) k ts x =
    let (h, l) = and_parts (is_met grammar cure condition) (keeps grammar (λ z. summary_of (g z)) a) k in
    provided h (built grammar m s g law a l ts x)
built grammar m s g law (Closed comma close) k ts x = subst (λ z. Derives grammar s (Closed comma close) z) (sym x) closed
built grammar m s g law (Bare a) k ts x = bare (built grammar m s g law a k ts x)
built grammar m s g law (Followed place c n next) k ts x =
    let b : Bool = empty_in summary_of (g next) in
    followed (subst (λ e. Derives grammar s (Part place (before e c) Statement (g n)) ts) (empty_at (g next) Statement of_script) (part_built grammar m s place (before b c) Statement (g n) (law n) k ts x))

-- a node, by what its links hold
layer_derives : {X : Type 0} (grammar : Grammar) (m : Bool) (s : Settings) (g : X → AnyNode) → ((x : X) → DerivesLaw grammar m s (g x)) → (y : AnyNode-F X) → DerivesLaw grammar m s (roll-AnyNode (map-AnyNode X AnyNode g y))
layer_derives {X} grammar m s g law y role c h ts x =
    let inner : AnyNode-F AnyNode = map-AnyNode X AnyNode g y in
    let b : Bool = is_called_node summary_of c (out-AnyNode (roll-AnyNode inner)) in
    let o : out-AnyNode (roll-AnyNode inner) ≡ inner = out-roll-AnyNode inner in
    let e : node_form b c (out-AnyNode (roll-AnyNode inner)) role ≡ map_form g (node_form b c y role) = ap (λ z. node_form b c z role) o ∙ node_mapped g b c y role in
    let k : keeps grammar (λ z. summary_of (g z)) (node_form b c y role) ≡ true =
    sym (keeps_mapped grammar g summary_of (node_form b c y role)) ∙ sym (ap (keeps grammar summary_of) e) ∙ sym (holds_at grammar (roll-AnyNode inner) role c) ∙ h in
    let p : phrase (roll-AnyNode inner) role ≡ forget (λ z. phrase (g z)) (node_form b c y role) =
    phrase_of g y role ∙ sym (node_forgets grammar (λ z. summary_of (g z)) (λ z. phrase (g z)) b c y role k) in
    subst (λ a. Derives grammar s a ts) (sym e) (built grammar m s g law (node_form b c y role) k ts (subst (λ q. Generates s (plain_phrase m q) ts) p x))

derives_at : (grammar : Grammar) (m : Bool) (s : Settings) (n : AnyNode) → DerivesLaw grammar m s n
derives_at grammar m s = ind-AnyNode (DerivesLaw grammar m s) (λ x y q. subst (λ z. DerivesLaw grammar m s (roll-AnyNode z)) q (layer_derives grammar m s (λ z. z.0) (λ z. z.1) y))

-- a list without any of that is one of these
bare_is_plain : (p : Phrase) → bare_phrase p ≡ plain_phrase true p
unfolding bare_phrase plain_phrase
bare_is_plain (Then a b) = ap₂ Then (bare_is_plain a) (bare_is_plain b)
bare_is_plain (OptionalParentheses Argument a) = bare_is_plain a
bare_is_plain (OptionalParentheses Parameter a) = bare_is_plain a
bare_is_plain p = refl

from_bare : (s : Settings) (p : Phrase) (ts : List Token) → Generates s (bare_phrase p) ts → Generates s (plain_phrase true p) ts
from_bare s p ts x = subst (λ q. Generates s q ts) (bare_is_plain p) x

pub kept_derives : (grammar : Grammar) (s : Settings) (place : Nonterminal) (c : Parameters) (role : Role) (n : AnyNode) →
    (stands grammar.places place (facts n role c).nonterminal && holds_in grammar (facts n role c).verdict) ≡ true → (ts : List Token) → Generates s (bare_phrase (phrase n role)) ts → Derives grammar s (Part place c role n) ts
kept_derives grammar s place c role n k ts x = part_built grammar true s place c role n (derives_at grammar true s n) k ts (from_bare s (phrase n role) ts x)

-- ---- of a form that no link holds

map_same : {X : Type 0} (a : Form X) → map_form (λ x. x) a ≡ a
unfolding map_form
map_same (Fixed p) = refl
map_same (Part place c role n) = refl
map_same (Simple named place c n) = refl
map_same (Both a b) = ap₂ Both (map_same a) (map_same b)
map_same (Provided cure condition a) = ap (Provided cure condition) (map_same a)
map_same (Closed comma close) = refl
map_same (Bare a) = ap Bare (map_same a)
map_same (Followed place c n next) = refl
map_same (Lone place c n) = refl
map_same (Shaped shape place c role n) = refl
map_same (Restricted lookahead place c as_pattern n) = refl

pub form_derives_plain : (grammar : Grammar) (m : Bool) (s : Settings) (a : Form AnyNode) → keeps grammar summary_of a ≡ true → (ts : List Token) → Generates s (plain_phrase m (forget phrase a)) ts → Derives grammar s a ts
form_derives_plain grammar m s a k ts x = subst (λ z. Derives grammar s z ts) (map_same a) (built grammar m s (λ z. z) (derives_at grammar m s) a k ts x)

pub form_derives : (grammar : Grammar) (s : Settings) (a : Form AnyNode) → keeps grammar summary_of a ≡ true → (ts : List Token) → Generates s (bare_phrase (forget phrase a)) ts → Derives grammar s a ts
form_derives grammar s a k ts x = form_derives_plain grammar true s a k ts (from_bare s (forget phrase a) ts x)
