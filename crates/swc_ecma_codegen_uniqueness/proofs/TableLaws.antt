-- What is asked of the tables, by evaluation: at an operand and a token one thing alone is to be done.
use Rattle.std.proofs.Common.{◌≡◌, Bool, true, false, ◌&&◌, ◌||◌, not, ◌⊎◌, inl, inr, Some, None, cond, refl, sym, ap, ◌∙◌, subst}
use Rattle.std.proofs.lemmas.Bool.{true≢false, and_parts, and_from, or_cases, or_parts, or_left, or_right}
use Rattle.swc_ecma_codegen_grammar.specs.Tokens.{Token}
use Rattle.swc_ecma_codegen_syntax.specs.declared.nonterminals.Nonterminal.{Nonterminal}
use Rattle.swc_ecma_codegen_syntax.specs.declared.nonterminals.Nonterminal.TheVariants as nt
use Rattle.swc_ecma_codegen_syntax.specs.Nonterminals.{is_member, is_new, is_call, is_callee, is_chained, is_left_hand_side, is_update, is_unary, is_exponentiation, is_multiplicative, is_additive, is_shift, is_relational, is_in_left, is_equality, is_bitwise_and, is_bitwise_xor, is_bitwise_or, is_logical_and, is_logical_or, is_coalesce_head, is_short_circuit, is_conditional, is_assignment, is_expression, is_assignment_target, is_pattern_target, is_pattern_element, is_last_element, is_coalesce, is_private, is_optional, is_primary, is_template, is_property_name, is_chain_link, is_assignment_pattern, is_pattern_name, is_rest, is_statement, is_hoistable_declaration, is_block, is_variable_declarations, is_declaration, is_statement_list_item, is_labelled_item, is_module_declaration, is_exported_head, is_function_head, is_generator_head, is_async_function_head, is_async_generator_head, is_function_tail, is_getter_tail, is_setter_tail, is_method_head, is_decorator_list, is_class_head, is_class_tail, is_class_element, is_constructor_name, is_any_function_head, is_head_without_yield, is_head_without_await, is_any_property_name, is_jsx_element, is_jsx_object, is_uncovered, takes}
use Rattle.swc_ecma_codegen_syntax.specs.UnitProductions.{UnitProduction, Chain, here, step, member_expression_is_primary_expression}
use Rattle.swc_ecma_codegen_syntax.proofs.Chains.{takes_chain}
use Rattle.swc_ecma_codegen_syntax.proofs.Taken.{chain_takes}
use Rattle.swc_ecma_codegen_uniqueness.specs.ParseTrees.{Variant}
use Rattle.swc_ecma_codegen_uniqueness.proofs.Classes.{Power, Over, Plus, Within, Coalescing, Class, Infix, Assigns, Ask, Comma, Dot, ChainDot, OpenParen, OpenBracket, Line, First, class, Comparing, Later, Slashed, Jsx}
use Rattle.swc_ecma_codegen_uniqueness.proofs.Controls.{made, left_of, left, closes, Tail, OfInfix, whole, last, Control, Open, Arguments, Elements, NextElement, AfterNew, AfterYield, YieldLine, Listed, InParen, Index, Middle, InKey, InValue, Substitution, waits, stands, starts, is_item, is_listed, Heritage, Members, InMemberKey, FieldPlace, DefaultValue, AttributeElement, AttributeBraces, Children, ChildBraces, ForHead, ForPlain, ForVars, ForValue, ForTest, ForUpdate, ForIn, ForOf, is_within, AsyncOperand, closed_by, at_item, Statement, Entered, Parameter, RestParameter, Valued, Test, Declarators, Initializer, CatchParameter, Case, InAccessorKey, AccessorParameter}
use Rattle.swc_ecma_codegen_uniqueness.proofs.Moves.{wrapped_to}
use Rattle.swc_ecma_codegen_uniqueness.proofs.Tables.{decide, Action, Push, Wrap, Reduce, Shift, Turn, Begin, Enter, Leave, Splice, Take, EnterBelow, Merge, Reject, begun_by, without, with_operand, Keep, wrapped_by}

-- ---- chains of unit productions

chain_on : {a b c : Nonterminal} → Chain a b → Chain b c → Chain a c
chain_on here d = d
chain_on (step u d) e = step u (chain_on d e)

pub takes_on : (a b c : Nonterminal) → takes a b ≡ true → takes b c ≡ true → takes a c ≡ true
takes_on a b c h k = chain_takes a c (chain_on (takes_chain a b h) (takes_chain b c k))

-- ---- tests

abbrev pub if_so : Bool → Bool → Bool
if_so a b = not a || b

pub told : (a b : Bool) → if_so a b ≡ true → a ≡ true → b ≡ true
told true b h k = h
told false b h k = absurd (true≢false (sym k))

abbrev pub is_wrap : Action → Bool
is_wrap Wrap = true
is_wrap action = false

wrap_is : (a : Action) → is_wrap a ≡ true → a ≡ Wrap
wrap_is Wrap h = refl
wrap_is Shift h = absurd (true≢false (sym h))
wrap_is Push h = absurd (true≢false (sym h))
wrap_is Reduce h = absurd (true≢false (sym h))
wrap_is Turn h = absurd (true≢false (sym h))
wrap_is Begin h = absurd (true≢false (sym h))
wrap_is Enter h = absurd (true≢false (sym h))
wrap_is Leave h = absurd (true≢false (sym h))
wrap_is Splice h = absurd (true≢false (sym h))
wrap_is Take h = absurd (true≢false (sym h))
wrap_is Keep h = absurd (true≢false (sym h))
wrap_is EnterBelow h = absurd (true≢false (sym h))
wrap_is Merge h = absurd (true≢false (sym h))
wrap_is Reject h = absurd (true≢false (sym h))

abbrev pub is_push : Action → Bool
is_push Push = true
is_push action = false

pub push_is : (a : Action) → is_push a ≡ true → a ≡ Push
push_is Push h = refl
push_is Shift h = absurd (true≢false (sym h))
push_is Wrap h = absurd (true≢false (sym h))
push_is Reduce h = absurd (true≢false (sym h))
push_is Turn h = absurd (true≢false (sym h))
push_is Begin h = absurd (true≢false (sym h))
push_is Enter h = absurd (true≢false (sym h))
push_is Leave h = absurd (true≢false (sym h))
push_is Splice h = absurd (true≢false (sym h))
push_is Take h = absurd (true≢false (sym h))
push_is Keep h = absurd (true≢false (sym h))
push_is EnterBelow h = absurd (true≢false (sym h))
push_is Merge h = absurd (true≢false (sym h))
push_is Reject h = absurd (true≢false (sym h))

-- names of places, of which no node is; and patterns, of which none is here
abbrev pub is_place : Nonterminal → Bool
is_place nt.InLeft = true
is_place nt.CallOrMember = true
is_place nt.ChainBase = true
is_place nt.CoalesceExpressionHead = true
is_place nt.AssignmentTarget = true
is_place nt.AssignmentPattern = true
is_place nt.Statement = true
is_place nt.StatementListItem = true
is_place nt.Block = true
is_place nt.ClassElement = true
is_place nt.JSXElement = true
is_place nt.Uncovered = true
is_place n = false

-- ---- what covers a pattern: the expression that is read in its place

abbrev pub cover : Nonterminal → Nonterminal
cover nt.AssignmentTarget = nt.LeftHandSideExpression
cover nt.AssignmentPattern = nt.LeftHandSideExpression
cover nt.PatternName = nt.LeftHandSideExpression
cover nt.PatternTarget = nt.LeftHandSideExpression
cover nt.PatternElement = nt.AssignmentExpression
cover nt.RestElement = nt.AssignmentExpression
cover nt.LastElement = nt.AssignmentExpression
cover n = n

cover_unit : {a b : Nonterminal} → UnitProduction a b → takes (cover a) (cover b) ≡ true
unfolding is_member is_new is_call is_callee is_chained is_left_hand_side is_update is_unary is_exponentiation is_multiplicative is_additive is_shift is_relational is_in_left is_equality is_bitwise_and is_bitwise_xor is_bitwise_or is_logical_and is_logical_or is_coalesce_head is_short_circuit is_conditional is_assignment is_expression is_assignment_target is_pattern_target is_pattern_element is_last_element is_coalesce is_private is_optional is_primary is_template is_property_name is_chain_link is_assignment_pattern is_pattern_name is_rest is_statement is_hoistable_declaration is_block is_variable_declarations is_declaration is_statement_list_item is_labelled_item is_module_declaration is_exported_head is_function_head is_generator_head is_async_function_head is_async_generator_head is_function_tail is_getter_tail is_setter_tail is_method_head is_decorator_list is_class_head is_class_tail is_class_element is_constructor_name is_any_function_head is_head_without_yield is_head_without_await is_any_property_name is_jsx_element is_jsx_object is_uncovered takes
cover_unit member_expression_is_primary_expression = refl
cover_unit u = refl

cover_chain : {a b : Nonterminal} → Chain a b → takes (cover a) (cover b) ≡ true
cover_chain {a = a} here = chain_takes (cover a) (cover a) here
cover_chain {a = a} (step {b = b} {c = c} u d) = takes_on (cover a) (cover b) (cover c) (cover_unit u) (cover_chain d)

pub cover_taken : (place n : Nonterminal) → takes place n ≡ true → takes (cover place) (cover n) ≡ true
cover_taken place n h = cover_chain (takes_chain place n h)

-- ---- what ends an operand

ends_none : (l : Class) → (takes (left l) nt.Statement || (takes (left l) nt.Block || takes (left l) nt.StatementListItem)) ≡ false
unfolding is_member is_new is_call is_callee is_chained is_left_hand_side is_update is_unary is_exponentiation is_multiplicative is_additive is_shift is_relational is_in_left is_equality is_bitwise_and is_bitwise_xor is_bitwise_or is_logical_and is_logical_or is_coalesce_head is_short_circuit is_conditional is_assignment is_expression is_assignment_target is_pattern_target is_pattern_element is_last_element is_coalesce is_private is_optional is_primary is_template is_property_name is_chain_link is_assignment_pattern is_pattern_name is_rest is_statement is_hoistable_declaration is_block is_variable_declarations is_declaration is_statement_list_item is_labelled_item is_module_declaration is_exported_head is_function_head is_generator_head is_async_function_head is_async_generator_head is_function_tail is_getter_tail is_setter_tail is_method_head is_decorator_list is_class_head is_class_tail is_class_element is_constructor_name is_any_function_head is_head_without_yield is_head_without_await is_any_property_name is_jsx_element is_jsx_object is_uncovered takes
ends_none (Infix Power) = refl
ends_none l = refl

pub ended_by : (l : Class) (n : Nonterminal) → takes (left l) n ≡ true → closed_by l n ≡ true
ended_by l nt.Statement h = absurd (true≢false (sym h ∙ (or_parts _ _ (ends_none l)).0))
ended_by l nt.Block h = absurd (true≢false (sym h ∙ (or_parts _ _ (or_parts _ _ (ends_none l)).1).0))
ended_by l nt.StatementListItem h = absurd (true≢false (sym h ∙ (or_parts _ _ (or_parts _ _ (ends_none l)).1).1))
ended_by l nt.ClassElement h = refl
ended_by l nt.JSXElement h = refl
ended_by l n h = h

pub ending : (l : Class) (n : Nonterminal) → is_listed n ≡ false → closed_by l n ≡ true → takes (left l) n ≡ true
ending l nt.Statement i h = absurd (true≢false i)
ending l nt.Block i h = absurd (true≢false i)
ending l nt.StatementListItem i h = absurd (true≢false i)
ending l nt.ClassElement i h = absurd (true≢false i)
ending l nt.JSXElement i h = absurd (true≢false i)
ending l n i h = h

tail_listed : (t : Tail) → is_listed (whole t) ≡ false
tail_listed (OfInfix Power) = refl
tail_listed t = refl

-- ---- where a node ends with a part, what ends the node ends the part

tail_test : (t : Tail) (c : Class) → if_so (takes (left c) (whole t)) (takes (left c) (last t)) ≡ true
unfolding is_member is_new is_call is_callee is_chained is_left_hand_side is_update is_unary is_exponentiation is_multiplicative is_additive is_shift is_relational is_in_left is_equality is_bitwise_and is_bitwise_xor is_bitwise_or is_logical_and is_logical_or is_coalesce_head is_short_circuit is_conditional is_assignment is_expression is_assignment_target is_pattern_target is_pattern_element is_last_element is_coalesce is_private is_optional is_primary is_template is_property_name is_chain_link is_assignment_pattern is_pattern_name is_rest is_statement is_hoistable_declaration is_block is_variable_declarations is_declaration is_statement_list_item is_labelled_item is_module_declaration is_exported_head is_function_head is_generator_head is_async_function_head is_async_generator_head is_function_tail is_getter_tail is_setter_tail is_method_head is_decorator_list is_class_head is_class_tail is_class_element is_constructor_name is_any_function_head is_head_without_yield is_head_without_await is_any_property_name is_jsx_element is_jsx_object is_uncovered takes
tail_test (OfInfix Power) (Infix Power) = refl
tail_test t (Infix Power) = refl
tail_test t c = refl

pub tail_closes : (t : Tail) (u : Token) (k : Nonterminal) → takes (last t) k ≡ true → closes u (whole t) ≡ true → closes u k ≡ true
tail_closes t u k h e = ended_by (class u) k (takes_on (left (class u)) (last t) k (told _ _ (tail_test t (class u)) (ending (class u) (whole t) (tail_listed t) e)) h)

-- ---- where a node stands, its first token begins it

abbrev is_waiting : Control → Bool
is_waiting (Open t) = true
is_waiting Members = false
is_waiting Children = false
is_waiting c = not (takes nt.Uncovered (waits c))

start_test : (c : Control) (l : Class) → if_so (starts l && is_waiting c) (is_push (without c l)) ≡ true
unfolding is_member is_new is_call is_callee is_chained is_left_hand_side is_update is_unary is_exponentiation is_multiplicative is_additive is_shift is_relational is_in_left is_equality is_bitwise_and is_bitwise_xor is_bitwise_or is_logical_and is_logical_or is_coalesce_head is_short_circuit is_conditional is_assignment is_expression is_assignment_target is_pattern_target is_pattern_element is_last_element is_coalesce is_private is_optional is_primary is_template is_property_name is_chain_link is_assignment_pattern is_pattern_name is_rest is_statement is_hoistable_declaration is_block is_variable_declarations is_declaration is_statement_list_item is_labelled_item is_module_declaration is_exported_head is_function_head is_generator_head is_async_function_head is_async_generator_head is_function_tail is_getter_tail is_setter_tail is_method_head is_decorator_list is_class_head is_class_tail is_class_element is_constructor_name is_any_function_head is_head_without_yield is_head_without_await is_any_property_name is_jsx_element is_jsx_object is_uncovered takes
start_test (Open t) (Infix Plus) = refl
start_test c (Infix Plus) = refl
start_test (Open t) (First true opens) = refl
start_test c (First true opens) = refl
start_test c l = refl

nothing_stands : (n : Nonterminal) (b : Bool) → (takes nt.Uncovered n || ((is_private n && takes nt.Uncovered nt.RelationalExpression) || (is_item n && b))) ≡ true → is_place n ≡ true
unfolding is_member is_new is_call is_callee is_chained is_left_hand_side is_update is_unary is_exponentiation is_multiplicative is_additive is_shift is_relational is_in_left is_equality is_bitwise_and is_bitwise_xor is_bitwise_or is_logical_and is_logical_or is_coalesce_head is_short_circuit is_conditional is_assignment is_expression is_assignment_target is_pattern_target is_pattern_element is_last_element is_coalesce is_private is_optional is_primary is_template is_property_name is_chain_link is_assignment_pattern is_pattern_name is_rest is_statement is_hoistable_declaration is_block is_variable_declarations is_declaration is_statement_list_item is_labelled_item is_module_declaration is_exported_head is_function_head is_generator_head is_async_function_head is_async_generator_head is_function_tail is_getter_tail is_setter_tail is_method_head is_decorator_list is_class_head is_class_tail is_class_element is_constructor_name is_any_function_head is_head_without_yield is_head_without_await is_any_property_name is_jsx_element is_jsx_object is_uncovered takes
nothing_stands nt.Uncovered b s = refl
nothing_stands nt.Statement b s = refl
nothing_stands nt.Block b s = refl
nothing_stands nt.StatementListItem b s = refl
nothing_stands n b s = absurd (true≢false (sym s))

-- a member of a class
element_stands : (n : Nonterminal) → (takes nt.ClassElement n || ((is_private n && takes nt.ClassElement nt.RelationalExpression) || (is_item n && false))) ≡ true → is_place n ≡ true
unfolding is_member is_new is_call is_callee is_chained is_left_hand_side is_update is_unary is_exponentiation is_multiplicative is_additive is_shift is_relational is_in_left is_equality is_bitwise_and is_bitwise_xor is_bitwise_or is_logical_and is_logical_or is_coalesce_head is_short_circuit is_conditional is_assignment is_expression is_assignment_target is_pattern_target is_pattern_element is_last_element is_coalesce is_private is_optional is_primary is_template is_property_name is_chain_link is_assignment_pattern is_pattern_name is_rest is_statement is_hoistable_declaration is_block is_variable_declarations is_declaration is_statement_list_item is_labelled_item is_module_declaration is_exported_head is_function_head is_generator_head is_async_function_head is_async_generator_head is_function_tail is_getter_tail is_setter_tail is_method_head is_decorator_list is_class_head is_class_tail is_class_element is_constructor_name is_any_function_head is_head_without_yield is_head_without_await is_any_property_name is_jsx_element is_jsx_object is_uncovered takes
element_stands nt.ClassElement s = refl
element_stands nt.Statement s = refl
element_stands nt.Block s = refl
element_stands nt.StatementListItem s = refl
element_stands n s = absurd (true≢false (sym s))

-- an element between tags
child_stands : (n : Nonterminal) → (takes nt.JSXElement n || ((is_private n && takes nt.JSXElement nt.RelationalExpression) || (is_item n && false))) ≡ true → is_place n ≡ true
unfolding is_member is_new is_call is_callee is_chained is_left_hand_side is_update is_unary is_exponentiation is_multiplicative is_additive is_shift is_relational is_in_left is_equality is_bitwise_and is_bitwise_xor is_bitwise_or is_logical_and is_logical_or is_coalesce_head is_short_circuit is_conditional is_assignment is_expression is_assignment_target is_pattern_target is_pattern_element is_last_element is_coalesce is_private is_optional is_primary is_template is_property_name is_chain_link is_assignment_pattern is_pattern_name is_rest is_statement is_hoistable_declaration is_block is_variable_declarations is_declaration is_statement_list_item is_labelled_item is_module_declaration is_exported_head is_function_head is_generator_head is_async_function_head is_async_generator_head is_function_tail is_getter_tail is_setter_tail is_method_head is_decorator_list is_class_head is_class_tail is_class_element is_constructor_name is_any_function_head is_head_without_yield is_head_without_await is_any_property_name is_jsx_element is_jsx_object is_uncovered takes
child_stands nt.JSXElement s = refl
child_stands nt.Statement s = refl
child_stands nt.Block s = refl
child_stands nt.StatementListItem s = refl
child_stands n s = absurd (true≢false (sym s))

stands_waiting : (c : Control) (n : Nonterminal) → is_place n ≡ false → stands c n ≡ true → is_waiting c ≡ true
unfolding is_member is_new is_call is_callee is_chained is_left_hand_side is_update is_unary is_exponentiation is_multiplicative is_additive is_shift is_relational is_in_left is_equality is_bitwise_and is_bitwise_xor is_bitwise_or is_logical_and is_logical_or is_coalesce_head is_short_circuit is_conditional is_assignment is_expression is_assignment_target is_pattern_target is_pattern_element is_last_element is_coalesce is_private is_optional is_primary is_template is_property_name is_chain_link is_assignment_pattern is_pattern_name is_rest is_statement is_hoistable_declaration is_block is_variable_declarations is_declaration is_statement_list_item is_labelled_item is_module_declaration is_exported_head is_function_head is_generator_head is_async_function_head is_async_generator_head is_function_tail is_getter_tail is_setter_tail is_method_head is_decorator_list is_class_head is_class_tail is_class_element is_constructor_name is_any_function_head is_head_without_yield is_head_without_await is_any_property_name is_jsx_element is_jsx_object is_uncovered takes
stands_waiting (Open t) n h s = refl
stands_waiting InParen n h s = refl
stands_waiting (Index variant) n h s = refl
stands_waiting (Arguments variant) n h s = refl
stands_waiting Elements n h s = refl
stands_waiting NextElement n h s = refl
stands_waiting Middle n h s = refl
stands_waiting InKey n h s = refl
stands_waiting InValue n h s = refl
stands_waiting (Substitution variant) n h s = refl
stands_waiting AfterNew n h s = refl
stands_waiting YieldLine n h s = refl
stands_waiting Listed n h s = refl
stands_waiting AsyncOperand n h s = refl
stands_waiting (Entered place) n h s = refl
stands_waiting (Parameter place) n h s = refl
stands_waiting (RestParameter place) n h s = refl
stands_waiting (Valued variant) n h s = refl
stands_waiting (Test variant) n h s = refl
stands_waiting Declarators n h s = refl
stands_waiting Initializer n h s = refl
stands_waiting CatchParameter n h s = refl
stands_waiting Case n h s = refl
stands_waiting InAccessorKey n h s = refl
stands_waiting AccessorParameter n h s = refl
stands_waiting Heritage n h s = refl
stands_waiting InMemberKey n h s = refl
stands_waiting (FieldPlace variant) n h s = refl
stands_waiting DefaultValue n h s = refl
stands_waiting ForPlain n h s = refl
stands_waiting ForVars n h s = refl
stands_waiting ForValue n h s = refl
stands_waiting ForTest n h s = refl
stands_waiting ForUpdate n h s = refl
stands_waiting ForIn n h s = refl
stands_waiting ForOf n h s = refl
stands_waiting AttributeElement n h s = refl
stands_waiting AttributeBraces n h s = refl
stands_waiting ChildBraces n h s = refl
stands_waiting Children n h s = absurd (true≢false (sym (child_stands n s) ∙ h))
stands_waiting Members n h s = absurd (true≢false (sym (element_stands n s) ∙ h))
stands_waiting (Statement place) n h s = absurd (true≢false (sym (nothing_stands n true s) ∙ h))
stands_waiting c n h s = absurd (true≢false (sym (nothing_stands n false s) ∙ h))

pub pushes : (t : Token) (n : Nonterminal) → starts (class t) ≡ true → is_place n ≡ false → (c : Control) → stands c n ≡ true → decide c None t ≡ Push
pushes t n h p c s = push_is _ (told _ _ (start_test c (class t)) (and_from _ _ h (stands_waiting c n p s)))

-- ---- where a node stands that begins with an operand, the operand stands too, and the token behind it takes it

pub taken_there : (w n : Nonterminal) (b k : Bool) → is_private n ≡ false → is_item n ≡ false → (takes w n || ((is_private n && b) || (is_item n && k))) ≡ true → takes w n ≡ true
taken_there w n b k p i s = elim (or_cases (takes w n) ((is_private n && b) || (is_item n && k)) s) [
  | inl h ↦ h
  | inr h ↦ elim (or_cases (is_private n && b) (is_item n && k) h) [ inl q ↦ absurd (true≢false (sym (and_parts _ _ q).0 ∙ p)) | inr q ↦ absurd (true≢false (sym (and_parts _ _ q).0 ∙ i)) ]
]

abbrev pub is_infix : Class → Bool
is_infix (Infix level) = true
is_infix (Assigns sign) = true
is_infix Ask = true
is_infix Comma = true
is_infix Line = true
is_infix c = false

-- the nonterminal of the node
abbrev pub made_by : Class → Nonterminal
made_by (Infix level) = made level
made_by (Assigns sign) = nt.AssignmentExpression
made_by Ask = nt.ConditionalExpression
made_by Comma = nt.Expression
made_by Line = nt.UpdateExpression
made_by c = nt.Expression

wrap_test : (c : Control) (l : Class) → if_so (is_infix l && takes (waits c) (made_by l)) (is_wrap (with_operand c l)) ≡ true
unfolding is_member is_new is_call is_callee is_chained is_left_hand_side is_update is_unary is_exponentiation is_multiplicative is_additive is_shift is_relational is_in_left is_equality is_bitwise_and is_bitwise_xor is_bitwise_or is_logical_and is_logical_or is_coalesce_head is_short_circuit is_conditional is_assignment is_expression is_assignment_target is_pattern_target is_pattern_element is_last_element is_coalesce is_private is_optional is_primary is_template is_property_name is_chain_link is_assignment_pattern is_pattern_name is_rest is_statement is_hoistable_declaration is_block is_variable_declarations is_declaration is_statement_list_item is_labelled_item is_module_declaration is_exported_head is_function_head is_generator_head is_async_function_head is_async_generator_head is_function_tail is_getter_tail is_setter_tail is_method_head is_decorator_list is_class_head is_class_tail is_class_element is_constructor_name is_any_function_head is_head_without_yield is_head_without_await is_any_property_name is_jsx_element is_jsx_object is_uncovered takes
wrap_test (Open (OfInfix Power)) (Infix Power) = refl
wrap_test c (Infix Power) = refl
wrap_test c l = refl

made_item : (l : Class) → is_item (made_by l) ≡ false
made_item (Infix Power) = refl
made_item l = refl

made_private : (l : Class) → is_private (made_by l) ≡ false
unfolding is_private
made_private (Infix Power) = refl
made_private l = refl

in_left : (k : Nonterminal) → takes nt.InLeft k ≡ true → is_place k ≡ false → (is_private k ≡ true) ⊎ (takes nt.RelationalExpression k ≡ true)
unfolding is_member is_new is_call is_callee is_chained is_left_hand_side is_update is_unary is_exponentiation is_multiplicative is_additive is_shift is_relational is_in_left is_equality is_bitwise_and is_bitwise_xor is_bitwise_or is_logical_and is_logical_or is_coalesce_head is_short_circuit is_conditional is_assignment is_expression is_assignment_target is_pattern_target is_pattern_element is_last_element is_coalesce is_private is_optional is_primary is_template is_property_name is_chain_link is_assignment_pattern is_pattern_name is_rest is_statement is_hoistable_declaration is_block is_variable_declarations is_declaration is_statement_list_item is_labelled_item is_module_declaration is_exported_head is_function_head is_generator_head is_async_function_head is_async_generator_head is_function_tail is_getter_tail is_setter_tail is_method_head is_decorator_list is_class_head is_class_tail is_class_element is_constructor_name is_any_function_head is_head_without_yield is_head_without_await is_any_property_name is_jsx_element is_jsx_object is_uncovered takes
in_left nt.InLeft h p = absurd (true≢false p)
in_left nt.PrivateIdentifier h p = inl refl
in_left k h p = inr h

in_head : (k : Nonterminal) → takes nt.CoalesceExpressionHead k ≡ true → is_place k ≡ false → (takes nt.CoalesceExpression k ≡ true) ⊎ (takes nt.BitwiseOrExpression k ≡ true)
unfolding is_member is_new is_call is_callee is_chained is_left_hand_side is_update is_unary is_exponentiation is_multiplicative is_additive is_shift is_relational is_in_left is_equality is_bitwise_and is_bitwise_xor is_bitwise_or is_logical_and is_logical_or is_coalesce_head is_short_circuit is_conditional is_assignment is_expression is_assignment_target is_pattern_target is_pattern_element is_last_element is_coalesce is_private is_optional is_primary is_template is_property_name is_chain_link is_assignment_pattern is_pattern_name is_rest is_statement is_hoistable_declaration is_block is_variable_declarations is_declaration is_statement_list_item is_labelled_item is_module_declaration is_exported_head is_function_head is_generator_head is_async_function_head is_async_generator_head is_function_tail is_getter_tail is_setter_tail is_method_head is_decorator_list is_class_head is_class_tail is_class_element is_constructor_name is_any_function_head is_head_without_yield is_head_without_await is_any_property_name is_jsx_element is_jsx_object is_uncovered takes
in_head nt.CoalesceExpressionHead h p = absurd (true≢false p)
in_head nt.CoalesceExpression h p = inl refl
in_head k h p = inr h

head_test : (c : Control) → if_so (takes (waits c) nt.CoalesceExpression) (takes (waits c) nt.BitwiseOrExpression) ≡ true
unfolding is_member is_new is_call is_callee is_chained is_left_hand_side is_update is_unary is_exponentiation is_multiplicative is_additive is_shift is_relational is_in_left is_equality is_bitwise_and is_bitwise_xor is_bitwise_or is_logical_and is_logical_or is_coalesce_head is_short_circuit is_conditional is_assignment is_expression is_assignment_target is_pattern_target is_pattern_element is_last_element is_coalesce is_private is_optional is_primary is_template is_property_name is_chain_link is_assignment_pattern is_pattern_name is_rest is_statement is_hoistable_declaration is_block is_variable_declarations is_declaration is_statement_list_item is_labelled_item is_module_declaration is_exported_head is_function_head is_generator_head is_async_function_head is_async_generator_head is_function_tail is_getter_tail is_setter_tail is_method_head is_decorator_list is_class_head is_class_tail is_class_element is_constructor_name is_any_function_head is_head_without_yield is_head_without_await is_any_property_name is_jsx_element is_jsx_object is_uncovered takes
head_test (Open (OfInfix Power)) = refl
head_test c = refl

operand_stands : (c : Control) (l : Class) (k : Nonterminal) → is_infix l ≡ true → takes (waits c) (made_by l) ≡ true → takes (left l) k ≡ true → is_place k ≡ false → stands c k ≡ true
unfolding is_member is_new is_call is_callee is_chained is_left_hand_side is_update is_unary is_exponentiation is_multiplicative is_additive is_shift is_relational is_in_left is_equality is_bitwise_and is_bitwise_xor is_bitwise_or is_logical_and is_logical_or is_coalesce_head is_short_circuit is_conditional is_assignment is_expression is_assignment_target is_pattern_target is_pattern_element is_last_element is_coalesce is_private is_optional is_primary is_template is_property_name is_chain_link is_assignment_pattern is_pattern_name is_rest is_statement is_hoistable_declaration is_block is_variable_declarations is_declaration is_statement_list_item is_labelled_item is_module_declaration is_exported_head is_function_head is_generator_head is_async_function_head is_async_generator_head is_function_tail is_getter_tail is_setter_tail is_method_head is_decorator_list is_class_head is_class_tail is_class_element is_constructor_name is_any_function_head is_head_without_yield is_head_without_await is_any_property_name is_jsx_element is_jsx_object is_uncovered takes
operand_stands c (Infix Within) k i h e p =
    elim (in_left k e p) [ inl q ↦ or_right (takes (waits c) k) _ (or_left _ _ (and_from _ _ q h)) | inr q ↦ or_left (takes (waits c) k) _ (takes_on (waits c) nt.RelationalExpression k h q) ]
operand_stands c (Infix Coalescing) k i h e p =
    or_left (takes (waits c) k) _ (elim (in_head k e p) [
      | inl q ↦ takes_on (waits c) nt.CoalesceExpression k h q
      | inr q ↦ takes_on (waits c) nt.BitwiseOrExpression k (told _ _ (head_test c) h) q
    ])
operand_stands c (Infix level) k i h e p = or_left (takes (waits c) k) _ (takes_on (waits c) (made level) k h (takes_on (made level) (left_of level) k refl e))
operand_stands c (Assigns sign) k i h e p = or_left (takes (waits c) k) _ (takes_on (waits c) nt.AssignmentExpression k h (takes_on nt.AssignmentExpression nt.LeftHandSideExpression k refl e))
operand_stands c Ask k i h e p = or_left (takes (waits c) k) _ (takes_on (waits c) nt.ConditionalExpression k h (takes_on nt.ConditionalExpression nt.ShortCircuitExpression k refl e))
operand_stands c Comma k i h e p = or_left (takes (waits c) k) _ (takes_on (waits c) nt.Expression k h (takes_on nt.Expression nt.AssignmentExpression k refl e))
operand_stands c Line k i h e p = or_left (takes (waits c) k) _ (takes_on (waits c) nt.UpdateExpression k h (takes_on nt.UpdateExpression nt.LeftHandSideExpression k refl e))
operand_stands c l k i h e p = absurd (true≢false (sym i))

-- what is asked of a node that begins with an operand
abbrev pub Wraps : Token → Nonterminal → Nonterminal → Variant → Type 0
Wraps t n k variant = (c : Control) → stands c n ≡ true → (stands c k ≡ true) × (decide c (Some variant) t ≡ Wrap)

pub infix_wraps : (t : Token) (k : Nonterminal) (variant : Variant) → is_infix (class t) ≡ true → takes (left (class t)) k ≡ true → is_place k ≡ false → Wraps t (made_by (class t)) k variant
infix_wraps t k variant i e p c s =
    let h = taken_there (waits c) (made_by (class t)) _ _ (made_private (class t)) (made_item (class t)) s in
    (operand_stands c (class t) k i h e p, wrap_is _ (told _ _ (wrap_test c (class t)) (and_from _ _ i h)))

-- the same of the parameters of an arrow function
pub arrow_wraps : (t : Token) (k : Nonterminal) (variant : Variant) → class t ≡ Line → takes (left (class t)) k ≡ true → is_place k ≡ false → Wraps t nt.AssignmentExpression k variant
unfolding is_member is_new is_call is_callee is_chained is_left_hand_side is_update is_unary is_exponentiation is_multiplicative is_additive is_shift is_relational is_in_left is_equality is_bitwise_and is_bitwise_xor is_bitwise_or is_logical_and is_logical_or is_coalesce_head is_short_circuit is_conditional is_assignment is_expression is_assignment_target is_pattern_target is_pattern_element is_last_element is_coalesce is_private is_optional is_primary is_template is_property_name is_chain_link is_assignment_pattern is_pattern_name is_rest is_statement is_hoistable_declaration is_block is_variable_declarations is_declaration is_statement_list_item is_labelled_item is_module_declaration is_exported_head is_function_head is_generator_head is_async_function_head is_async_generator_head is_function_tail is_getter_tail is_setter_tail is_method_head is_decorator_list is_class_head is_class_tail is_class_element is_constructor_name is_any_function_head is_head_without_yield is_head_without_await is_any_property_name is_jsx_element is_jsx_object is_uncovered takes
arrow_wraps t k variant e h p c s =
    let w = taken_there (waits c) nt.AssignmentExpression (takes (waits c) nt.RelationalExpression) (at_item c) refl refl s in
    let u : stands c nt.UpdateExpression ≡ true = or_left (takes (waits c) nt.UpdateExpression) false (takes_on (waits c) nt.AssignmentExpression nt.UpdateExpression w refl) in
    infix_wraps t k variant (ap is_infix e) h p c (subst (λ l. stands c (made_by l) ≡ true) (sym e) u)

-- ---- the same of links: members, calls, tags and optional chains

link_test : (c : Control) → if_so (is_waiting c) (is_wrap (with_operand c Dot) && (is_wrap (with_operand c ChainDot) && is_wrap (with_operand c OpenBracket))) ≡ true
unfolding is_member is_new is_call is_callee is_chained is_left_hand_side is_update is_unary is_exponentiation is_multiplicative is_additive is_shift is_relational is_in_left is_equality is_bitwise_and is_bitwise_xor is_bitwise_or is_logical_and is_logical_or is_coalesce_head is_short_circuit is_conditional is_assignment is_expression is_assignment_target is_pattern_target is_pattern_element is_last_element is_coalesce is_private is_optional is_primary is_template is_property_name is_chain_link is_assignment_pattern is_pattern_name is_rest is_statement is_hoistable_declaration is_block is_variable_declarations is_declaration is_statement_list_item is_labelled_item is_module_declaration is_exported_head is_function_head is_generator_head is_async_function_head is_async_generator_head is_function_tail is_getter_tail is_setter_tail is_method_head is_decorator_list is_class_head is_class_tail is_class_element is_constructor_name is_any_function_head is_head_without_yield is_head_without_await is_any_property_name is_jsx_element is_jsx_object is_uncovered takes
link_test (Open (OfInfix Power)) = refl
link_test c = refl

tag_test : (c : Control) (opens : Bool) → if_so (is_waiting c) (is_wrap (with_operand c (First true opens))) ≡ true
unfolding is_member is_new is_call is_callee is_chained is_left_hand_side is_update is_unary is_exponentiation is_multiplicative is_additive is_shift is_relational is_in_left is_equality is_bitwise_and is_bitwise_xor is_bitwise_or is_logical_and is_logical_or is_coalesce_head is_short_circuit is_conditional is_assignment is_expression is_assignment_target is_pattern_target is_pattern_element is_last_element is_coalesce is_private is_optional is_primary is_template is_property_name is_chain_link is_assignment_pattern is_pattern_name is_rest is_statement is_hoistable_declaration is_block is_variable_declarations is_declaration is_statement_list_item is_labelled_item is_module_declaration is_exported_head is_function_head is_generator_head is_async_function_head is_async_generator_head is_function_tail is_getter_tail is_setter_tail is_method_head is_decorator_list is_class_head is_class_tail is_class_element is_constructor_name is_any_function_head is_head_without_yield is_head_without_await is_any_property_name is_jsx_element is_jsx_object is_uncovered takes
tag_test (Open (OfInfix Power)) opens = refl
tag_test c opens = refl

call_test : (c : Control) → if_so (takes (waits c) nt.CallExpression) (is_wrap (with_operand c OpenParen) && takes (waits c) nt.MemberExpression) ≡ true
unfolding is_member is_new is_call is_callee is_chained is_left_hand_side is_update is_unary is_exponentiation is_multiplicative is_additive is_shift is_relational is_in_left is_equality is_bitwise_and is_bitwise_xor is_bitwise_or is_logical_and is_logical_or is_coalesce_head is_short_circuit is_conditional is_assignment is_expression is_assignment_target is_pattern_target is_pattern_element is_last_element is_coalesce is_private is_optional is_primary is_template is_property_name is_chain_link is_assignment_pattern is_pattern_name is_rest is_statement is_hoistable_declaration is_block is_variable_declarations is_declaration is_statement_list_item is_labelled_item is_module_declaration is_exported_head is_function_head is_generator_head is_async_function_head is_async_generator_head is_function_tail is_getter_tail is_setter_tail is_method_head is_decorator_list is_class_head is_class_tail is_class_element is_constructor_name is_any_function_head is_head_without_yield is_head_without_await is_any_property_name is_jsx_element is_jsx_object is_uncovered takes
call_test (Open (OfInfix Power)) = refl
call_test c = refl

chain_test : (c : Control) → if_so (takes (waits c) nt.OptionalExpression) (takes (waits c) nt.CallExpression) ≡ true
unfolding is_member is_new is_call is_callee is_chained is_left_hand_side is_update is_unary is_exponentiation is_multiplicative is_additive is_shift is_relational is_in_left is_equality is_bitwise_and is_bitwise_xor is_bitwise_or is_logical_and is_logical_or is_coalesce_head is_short_circuit is_conditional is_assignment is_expression is_assignment_target is_pattern_target is_pattern_element is_last_element is_coalesce is_private is_optional is_primary is_template is_property_name is_chain_link is_assignment_pattern is_pattern_name is_rest is_statement is_hoistable_declaration is_block is_variable_declarations is_declaration is_statement_list_item is_labelled_item is_module_declaration is_exported_head is_function_head is_generator_head is_async_function_head is_async_generator_head is_function_tail is_getter_tail is_setter_tail is_method_head is_decorator_list is_class_head is_class_tail is_class_element is_constructor_name is_any_function_head is_head_without_yield is_head_without_await is_any_property_name is_jsx_element is_jsx_object is_uncovered takes
chain_test (Open (OfInfix Power)) = refl
chain_test c = refl

-- a place of callees takes a CallExpression or a MemberExpression; that of a chain, an OptionalExpression too
called_or_member : (k : Nonterminal) → takes nt.CallOrMember k ≡ true → is_place k ≡ false → (takes nt.CallExpression k ≡ true) ⊎ (takes nt.MemberExpression k ≡ true)
unfolding is_member is_new is_call is_callee is_chained is_left_hand_side is_update is_unary is_exponentiation is_multiplicative is_additive is_shift is_relational is_in_left is_equality is_bitwise_and is_bitwise_xor is_bitwise_or is_logical_and is_logical_or is_coalesce_head is_short_circuit is_conditional is_assignment is_expression is_assignment_target is_pattern_target is_pattern_element is_last_element is_coalesce is_private is_optional is_primary is_template is_property_name is_chain_link is_assignment_pattern is_pattern_name is_rest is_statement is_hoistable_declaration is_block is_variable_declarations is_declaration is_statement_list_item is_labelled_item is_module_declaration is_exported_head is_function_head is_generator_head is_async_function_head is_async_generator_head is_function_tail is_getter_tail is_setter_tail is_method_head is_decorator_list is_class_head is_class_tail is_class_element is_constructor_name is_any_function_head is_head_without_yield is_head_without_await is_any_property_name is_jsx_element is_jsx_object is_uncovered takes
called_or_member nt.CallOrMember h p = absurd (true≢false p)
called_or_member nt.CallExpression h p = inl refl
called_or_member k h p = inr h

optional_or_called : (k : Nonterminal) → takes nt.ChainBase k ≡ true → is_place k ≡ false → (takes nt.OptionalExpression k ≡ true) ⊎ (takes nt.CallOrMember k ≡ true)
unfolding is_member is_new is_call is_callee is_chained is_left_hand_side is_update is_unary is_exponentiation is_multiplicative is_additive is_shift is_relational is_in_left is_equality is_bitwise_and is_bitwise_xor is_bitwise_or is_logical_and is_logical_or is_coalesce_head is_short_circuit is_conditional is_assignment is_expression is_assignment_target is_pattern_target is_pattern_element is_last_element is_coalesce is_private is_optional is_primary is_template is_property_name is_chain_link is_assignment_pattern is_pattern_name is_rest is_statement is_hoistable_declaration is_block is_variable_declarations is_declaration is_statement_list_item is_labelled_item is_module_declaration is_exported_head is_function_head is_generator_head is_async_function_head is_async_generator_head is_function_tail is_getter_tail is_setter_tail is_method_head is_decorator_list is_class_head is_class_tail is_class_element is_constructor_name is_any_function_head is_head_without_yield is_head_without_await is_any_property_name is_jsx_element is_jsx_object is_uncovered takes
optional_or_called nt.ChainBase h p = absurd (true≢false p)
optional_or_called nt.CallOrMember h p = absurd (true≢false p)
optional_or_called nt.OptionalExpression h p = inl refl
optional_or_called k h p = inr h

-- The nonterminals of links, each with its place of an operand.
pub data Linked : Nonterminal → Nonterminal → Type 0 where
  a_member : Linked nt.MemberExpression nt.MemberExpression
  of_call : Linked nt.CallExpression nt.CallExpression
  a_call : Linked nt.CallExpression nt.CallOrMember
  a_target : Linked nt.LeftHandSideExpression nt.CallOrMember
  a_chain : Linked nt.OptionalExpression nt.ChainBase
  of_chain : Linked nt.OptionalExpression nt.OptionalExpression

under_call : (c : Control) (k : Nonterminal) → takes (waits c) nt.CallExpression ≡ true → takes nt.CallOrMember k ≡ true → is_place k ≡ false → takes (waits c) k ≡ true
under_call c k h e p = elim (called_or_member k e p) [
  | inl q ↦ takes_on (waits c) nt.CallExpression k h q
  | inr q ↦ takes_on (waits c) nt.MemberExpression k (and_parts _ _ (told _ _ (call_test c) h)).1 q
]

linked_taken : {n place : Nonterminal} → Linked n place → (c : Control) (k : Nonterminal) → takes place k ≡ true → is_place k ≡ false → takes (waits c) n ≡ true → takes (waits c) k ≡ true
unfolding is_member is_new is_call is_callee is_chained is_left_hand_side is_update is_unary is_exponentiation is_multiplicative is_additive is_shift is_relational is_in_left is_equality is_bitwise_and is_bitwise_xor is_bitwise_or is_logical_and is_logical_or is_coalesce_head is_short_circuit is_conditional is_assignment is_expression is_assignment_target is_pattern_target is_pattern_element is_last_element is_coalesce is_private is_optional is_primary is_template is_property_name is_chain_link is_assignment_pattern is_pattern_name is_rest is_statement is_hoistable_declaration is_block is_variable_declarations is_declaration is_statement_list_item is_labelled_item is_module_declaration is_exported_head is_function_head is_generator_head is_async_function_head is_async_generator_head is_function_tail is_getter_tail is_setter_tail is_method_head is_decorator_list is_class_head is_class_tail is_class_element is_constructor_name is_any_function_head is_head_without_yield is_head_without_await is_any_property_name is_jsx_element is_jsx_object is_uncovered takes
linked_taken a_member c k e p h = takes_on (waits c) nt.MemberExpression k h e
linked_taken of_call c k e p h = takes_on (waits c) nt.CallExpression k h e
linked_taken a_call c k e p h = under_call c k h e p
linked_taken a_target c k e p h = takes_on (waits c) nt.LeftHandSideExpression k h (elim (called_or_member k e p) [
  | inl q ↦ takes_on nt.LeftHandSideExpression nt.CallExpression k refl q
  | inr q ↦ takes_on nt.LeftHandSideExpression nt.MemberExpression k refl q
])
linked_taken a_chain c k e p h = elim (optional_or_called k e p) [
  | inl q ↦ takes_on (waits c) nt.OptionalExpression k h q
  | inr q ↦ under_call c k (told _ _ (chain_test c) h) q p
]
linked_taken of_chain c k e p h = takes_on (waits c) nt.OptionalExpression k h e

pub linked_closes : {n place : Nonterminal} → Linked n place → (k : Nonterminal) → takes place k ≡ true → is_place k ≡ false → takes nt.ChainBase k ≡ true
unfolding is_member is_new is_call is_callee is_chained is_left_hand_side is_update is_unary is_exponentiation is_multiplicative is_additive is_shift is_relational is_in_left is_equality is_bitwise_and is_bitwise_xor is_bitwise_or is_logical_and is_logical_or is_coalesce_head is_short_circuit is_conditional is_assignment is_expression is_assignment_target is_pattern_target is_pattern_element is_last_element is_coalesce is_private is_optional is_primary is_template is_property_name is_chain_link is_assignment_pattern is_pattern_name is_rest is_statement is_hoistable_declaration is_block is_variable_declarations is_declaration is_statement_list_item is_labelled_item is_module_declaration is_exported_head is_function_head is_generator_head is_async_function_head is_async_generator_head is_function_tail is_getter_tail is_setter_tail is_method_head is_decorator_list is_class_head is_class_tail is_class_element is_constructor_name is_any_function_head is_head_without_yield is_head_without_await is_any_property_name is_jsx_element is_jsx_object is_uncovered takes
linked_closes a_member k e p = takes_on nt.ChainBase nt.MemberExpression k refl e
linked_closes of_call k e p = takes_on nt.ChainBase nt.CallExpression k refl e
linked_closes a_call k e p = elim (called_or_member k e p) [ inl q ↦ takes_on nt.ChainBase nt.CallExpression k refl q | inr q ↦ takes_on nt.ChainBase nt.MemberExpression k refl q ]
linked_closes a_target k e p = elim (called_or_member k e p) [ inl q ↦ takes_on nt.ChainBase nt.CallExpression k refl q | inr q ↦ takes_on nt.ChainBase nt.MemberExpression k refl q ]
linked_closes a_chain k e p = e
linked_closes of_chain k e p = takes_on nt.ChainBase nt.OptionalExpression k refl e

linked_private : {n place : Nonterminal} → Linked n place → is_private n ≡ false
unfolding is_private
linked_private a_member = refl
linked_private of_call = refl
linked_private a_call = refl
linked_private a_target = refl
linked_private a_chain = refl
linked_private of_chain = refl

linked_item : {n place : Nonterminal} → Linked n place → is_item n ≡ false
linked_item a_member = refl
linked_item of_call = refl
linked_item a_call = refl
linked_item a_target = refl
linked_item a_chain = refl
linked_item of_chain = refl

linked_own : {n place : Nonterminal} → Linked n place → is_place n ≡ false
linked_own a_member = refl
linked_own of_call = refl
linked_own a_call = refl
linked_own a_target = refl
linked_own a_chain = refl
linked_own of_chain = refl

linked_there : {n place : Nonterminal} → Linked n place → (c : Control) (k : Nonterminal) → takes place k ≡ true → is_place k ≡ false → stands c n ≡ true → (takes (waits c) n ≡ true) × (stands c k ≡ true)
linked_there {n = n} a c k e p s =
    let h = taken_there (waits c) n _ _ (linked_private a) (linked_item a) s in
    (h, or_left (takes (waits c) k) _ (linked_taken a c k e p h))

-- the tokens behind the operand of a link
abbrev pub links : Class → Bool
links Dot = true
links ChainDot = true
links OpenBracket = true
links (First true opens) = true
links c = false

link_wrapped : (c : Control) (l : Class) → is_waiting c ≡ true → links l ≡ true → with_operand c l ≡ Wrap
link_wrapped c Dot w h = wrap_is _ (and_parts _ _ (told _ _ (link_test c) w)).0
link_wrapped c ChainDot w h = wrap_is _ (and_parts _ _ (and_parts _ _ (told _ _ (link_test c) w)).1).0
link_wrapped c OpenBracket w h = wrap_is _ (and_parts _ _ (and_parts _ _ (told _ _ (link_test c) w)).1).1
link_wrapped c (First true opens) w h = wrap_is _ (told _ _ (tag_test c opens) w)
link_wrapped c l w h = absurd (true≢false (sym h))

pub link_wraps : (t : Token) {n place : Nonterminal} (k : Nonterminal) (variant : Variant) → Linked n place → links (class t) ≡ true → takes place k ≡ true → is_place k ≡ false → Wraps t n k variant
link_wraps t {n = n} k variant a h e p c s = ((linked_there a c k e p s).1, link_wrapped c (class t) (stands_waiting c n (linked_own a) s) h)

-- `(` behind what is called
abbrev is_opening : Class → Bool
is_opening OpenParen = true
is_opening c = false

pub data Calling : Nonterminal → Nonterminal → Type 0 where
  calls : Calling nt.CallExpression nt.CallOrMember
  calls_chain : Calling nt.OptionalExpression nt.ChainBase
  calls_on : Calling nt.OptionalExpression nt.OptionalExpression

pub calling_linked : {n place : Nonterminal} → Calling n place → Linked n place
calling_linked calls = a_call
calling_linked calls_chain = a_chain
calling_linked calls_on = of_chain

calling_call : {n place : Nonterminal} → Calling n place → (c : Control) → takes (waits c) n ≡ true → takes (waits c) nt.CallExpression ≡ true
calling_call calls c h = h
calling_call calls_chain c h = told _ _ (chain_test c) h
calling_call calls_on c h = told _ _ (chain_test c) h

pub call_wraps : (t : Token) {n place : Nonterminal} (k : Nonterminal) (variant : Variant) → Calling n place → class t ≡ OpenParen → takes place k ≡ true → is_place k ≡ false → Wraps t n k variant
call_wraps t k variant a q e p c s =
    let h = linked_there (calling_linked a) c k e p s in
    (h.1, ap (with_operand c) q ∙ wrap_is _ (and_parts _ _ (told _ _ (call_test c) (calling_call a c h.0))).0)

-- ---- where a node ends with a part: the ends of the machine's frames

ends_reduce : (n : Nonterminal) (l : Class) → takes (left l) n ≡ true → cond (takes (left l) n) Reduce (wrapped_by l) ≡ Reduce
ends_reduce n l h = ap (λ b. cond b Reduce (wrapped_by l)) h

-- what is asked of a node that ends with a part
abbrev pub Ended : Control → Nonterminal → Nonterminal → Variant → Type 0
Ended c n k variant = (t : Token) → closes t n ≡ true → (closes t k ≡ true) × (decide c (Some variant) t ≡ Reduce)

pub tail_ends : (t : Tail) (k : Nonterminal) (variant : Variant) → takes (last t) k ≡ true → Ended (Open t) (whole t) k variant
tail_ends t k variant h u e = (tail_closes t u k h e, ends_reduce (whole t) (class u) (ending (class u) (whole t) (tail_listed t) e))

new_reduced : (l : Class) → takes (left l) nt.NewExpression ≡ true → with_operand AfterNew l ≡ Reduce
unfolding is_member is_new is_call is_callee is_chained is_left_hand_side is_update is_unary is_exponentiation is_multiplicative is_additive is_shift is_relational is_in_left is_equality is_bitwise_and is_bitwise_xor is_bitwise_or is_logical_and is_logical_or is_coalesce_head is_short_circuit is_conditional is_assignment is_expression is_assignment_target is_pattern_target is_pattern_element is_last_element is_coalesce is_private is_optional is_primary is_template is_property_name is_chain_link is_assignment_pattern is_pattern_name is_rest is_statement is_hoistable_declaration is_block is_variable_declarations is_declaration is_statement_list_item is_labelled_item is_module_declaration is_exported_head is_function_head is_generator_head is_async_function_head is_async_generator_head is_function_tail is_getter_tail is_setter_tail is_method_head is_decorator_list is_class_head is_class_tail is_class_element is_constructor_name is_any_function_head is_head_without_yield is_head_without_await is_any_property_name is_jsx_element is_jsx_object is_uncovered takes
new_reduced OpenParen h = absurd (true≢false (sym h))
new_reduced l h = ends_reduce nt.NewExpression l h

pub new_ends : (k : Nonterminal) (variant : Variant) → takes nt.NewExpression k ≡ true → Ended AfterNew nt.NewExpression k variant
new_ends k variant h u e = (ended_by (class u) k (takes_on (left (class u)) nt.NewExpression k e h), new_reduced (class u) e)

pub yield_ends : (k : Nonterminal) (variant : Variant) → takes nt.AssignmentExpression k ≡ true → Ended YieldLine nt.AssignmentExpression k variant
yield_ends k variant h u e = (ended_by (class u) k (takes_on (left (class u)) nt.AssignmentExpression k e h), ends_reduce nt.AssignmentExpression (class u) e)

listed_reduced : (l : Class) → takes (left l) nt.Expression ≡ true → with_operand Listed l ≡ Reduce
unfolding is_member is_new is_call is_callee is_chained is_left_hand_side is_update is_unary is_exponentiation is_multiplicative is_additive is_shift is_relational is_in_left is_equality is_bitwise_and is_bitwise_xor is_bitwise_or is_logical_and is_logical_or is_coalesce_head is_short_circuit is_conditional is_assignment is_expression is_assignment_target is_pattern_target is_pattern_element is_last_element is_coalesce is_private is_optional is_primary is_template is_property_name is_chain_link is_assignment_pattern is_pattern_name is_rest is_statement is_hoistable_declaration is_block is_variable_declarations is_declaration is_statement_list_item is_labelled_item is_module_declaration is_exported_head is_function_head is_generator_head is_async_function_head is_async_generator_head is_function_tail is_getter_tail is_setter_tail is_method_head is_decorator_list is_class_head is_class_tail is_class_element is_constructor_name is_any_function_head is_head_without_yield is_head_without_await is_any_property_name is_jsx_element is_jsx_object is_uncovered takes
listed_reduced Comma h = absurd (true≢false (sym h))
listed_reduced l h = ends_reduce nt.Expression l h

listed_test : (l : Class) → if_so (takes (left l) nt.Expression) (takes (left l) nt.AssignmentExpression) ≡ true
unfolding is_member is_new is_call is_callee is_chained is_left_hand_side is_update is_unary is_exponentiation is_multiplicative is_additive is_shift is_relational is_in_left is_equality is_bitwise_and is_bitwise_xor is_bitwise_or is_logical_and is_logical_or is_coalesce_head is_short_circuit is_conditional is_assignment is_expression is_assignment_target is_pattern_target is_pattern_element is_last_element is_coalesce is_private is_optional is_primary is_template is_property_name is_chain_link is_assignment_pattern is_pattern_name is_rest is_statement is_hoistable_declaration is_block is_variable_declarations is_declaration is_statement_list_item is_labelled_item is_module_declaration is_exported_head is_function_head is_generator_head is_async_function_head is_async_generator_head is_function_tail is_getter_tail is_setter_tail is_method_head is_decorator_list is_class_head is_class_tail is_class_element is_constructor_name is_any_function_head is_head_without_yield is_head_without_await is_any_property_name is_jsx_element is_jsx_object is_uncovered takes
listed_test (Infix Power) = refl
listed_test l = refl

pub listed_ends : (k : Nonterminal) (variant : Variant) → takes nt.AssignmentExpression k ≡ true → Ended Listed nt.Expression k variant
listed_ends k variant h u e = (ended_by (class u) k (takes_on (left (class u)) nt.AssignmentExpression k (told _ _ (listed_test (class u)) e) h), listed_reduced (class u) e)

alone_reduced : (l : Class) → takes (left l) nt.AssignmentExpression ≡ true → without AfterYield l ≡ Reduce
unfolding is_member is_new is_call is_callee is_chained is_left_hand_side is_update is_unary is_exponentiation is_multiplicative is_additive is_shift is_relational is_in_left is_equality is_bitwise_and is_bitwise_xor is_bitwise_or is_logical_and is_logical_or is_coalesce_head is_short_circuit is_conditional is_assignment is_expression is_assignment_target is_pattern_target is_pattern_element is_last_element is_coalesce is_private is_optional is_primary is_template is_property_name is_chain_link is_assignment_pattern is_pattern_name is_rest is_statement is_hoistable_declaration is_block is_variable_declarations is_declaration is_statement_list_item is_labelled_item is_module_declaration is_exported_head is_function_head is_generator_head is_async_function_head is_async_generator_head is_function_tail is_getter_tail is_setter_tail is_method_head is_decorator_list is_class_head is_class_tail is_class_element is_constructor_name is_any_function_head is_head_without_yield is_head_without_await is_any_property_name is_jsx_element is_jsx_object is_uncovered takes
alone_reduced Line h = absurd (true≢false (sym h))
alone_reduced l h = ap (λ b. cond b Reduce Reject) h

pub yield_alone : (t : Token) → closes t nt.AssignmentExpression ≡ true → decide AfterYield None t ≡ Reduce
yield_alone t h = alone_reduced (class t) h

-- what stands before a link is no optional chain, unless the link is one of it
pub member_plain : (k : Nonterminal) → takes nt.MemberExpression k ≡ true → is_optional k ≡ false
unfolding is_member is_new is_call is_callee is_chained is_left_hand_side is_update is_unary is_exponentiation is_multiplicative is_additive is_shift is_relational is_in_left is_equality is_bitwise_and is_bitwise_xor is_bitwise_or is_logical_and is_logical_or is_coalesce_head is_short_circuit is_conditional is_assignment is_expression is_assignment_target is_pattern_target is_pattern_element is_last_element is_coalesce is_private is_optional is_primary is_template is_property_name is_chain_link is_assignment_pattern is_pattern_name is_rest is_statement is_hoistable_declaration is_block is_variable_declarations is_declaration is_statement_list_item is_labelled_item is_module_declaration is_exported_head is_function_head is_generator_head is_async_function_head is_async_generator_head is_function_tail is_getter_tail is_setter_tail is_method_head is_decorator_list is_class_head is_class_tail is_class_element is_constructor_name is_any_function_head is_head_without_yield is_head_without_await is_any_property_name is_jsx_element is_jsx_object is_uncovered takes
member_plain nt.OptionalExpression h = sym h
member_plain k h = refl

pub call_plain : (k : Nonterminal) → takes nt.CallExpression k ≡ true → is_optional k ≡ false
unfolding is_member is_new is_call is_callee is_chained is_left_hand_side is_update is_unary is_exponentiation is_multiplicative is_additive is_shift is_relational is_in_left is_equality is_bitwise_and is_bitwise_xor is_bitwise_or is_logical_and is_logical_or is_coalesce_head is_short_circuit is_conditional is_assignment is_expression is_assignment_target is_pattern_target is_pattern_element is_last_element is_coalesce is_private is_optional is_primary is_template is_property_name is_chain_link is_assignment_pattern is_pattern_name is_rest is_statement is_hoistable_declaration is_block is_variable_declarations is_declaration is_statement_list_item is_labelled_item is_module_declaration is_exported_head is_function_head is_generator_head is_async_function_head is_async_generator_head is_function_tail is_getter_tail is_setter_tail is_method_head is_decorator_list is_class_head is_class_tail is_class_element is_constructor_name is_any_function_head is_head_without_yield is_head_without_await is_any_property_name is_jsx_element is_jsx_object is_uncovered takes
call_plain nt.OptionalExpression h = sym h
call_plain k h = refl

pub callee_plain : (k : Nonterminal) → takes nt.CallOrMember k ≡ true → is_place k ≡ false → is_optional k ≡ false
callee_plain k h p = elim (called_or_member k h p) [ inl q ↦ call_plain k q | inr q ↦ member_plain k q ]

-- what is no sequence
abbrev pub is_sequence : Nonterminal → Bool
is_sequence nt.Expression = true
is_sequence n = false

pub assignment_single : (k : Nonterminal) → takes nt.AssignmentExpression k ≡ true → is_sequence k ≡ false
unfolding is_member is_new is_call is_callee is_chained is_left_hand_side is_update is_unary is_exponentiation is_multiplicative is_additive is_shift is_relational is_in_left is_equality is_bitwise_and is_bitwise_xor is_bitwise_or is_logical_and is_logical_or is_coalesce_head is_short_circuit is_conditional is_assignment is_expression is_assignment_target is_pattern_target is_pattern_element is_last_element is_coalesce is_private is_optional is_primary is_template is_property_name is_chain_link is_assignment_pattern is_pattern_name is_rest is_statement is_hoistable_declaration is_block is_variable_declarations is_declaration is_statement_list_item is_labelled_item is_module_declaration is_exported_head is_function_head is_generator_head is_async_function_head is_async_generator_head is_function_tail is_getter_tail is_setter_tail is_method_head is_decorator_list is_class_head is_class_tail is_class_element is_constructor_name is_any_function_head is_head_without_yield is_head_without_await is_any_property_name is_jsx_element is_jsx_object is_uncovered takes
assignment_single nt.Expression h = sym h
assignment_single k h = refl

-- ---- the head of a `for`, where `in` takes no operand

head_push_test : (l : Class) → if_so (is_push (without ForPlain l)) (is_push (without ForHead l)) ≡ true
head_push_test (Infix Plus) = refl
head_push_test (Assigns Slashed) = refl
head_push_test (First true opens) = refl
head_push_test l = refl

pub head_pushes : (l : Class) → without ForPlain l ≡ Push → without ForHead l ≡ Push
head_pushes l h = push_is _ (told _ _ (head_push_test l) (ap is_push h))

head_wrap_test : (l : Class) → if_so (is_wrap (with_operand ForPlain l) && not (is_within l)) (is_wrap (with_operand ForHead l)) ≡ true
head_wrap_test (Infix Within) = refl
head_wrap_test (First true opens) = refl
head_wrap_test l = refl

pub head_wraps : (l : Class) → with_operand ForPlain l ≡ Wrap → is_within l ≡ false → with_operand ForHead l ≡ Wrap
head_wraps l h k = wrap_is _ (told _ _ (head_wrap_test l) (and_from _ _ (ap is_wrap h) (ap not k)))

abbrev is_other : Action → Bool
is_other Begin = true
is_other Leave = true
is_other a = false

plain_test : (l : Class) → (is_other (without ForPlain l) || is_other (with_operand ForPlain l)) ≡ false
plain_test (Infix Plus) = refl
plain_test (Assigns Slashed) = refl
plain_test (First true opens) = refl
plain_test l = refl

pub plain_begins : (l : Class) → without ForPlain l ≡ Begin → ⊥
plain_begins l h = true≢false (sym (ap is_other h) ∙ (or_parts _ _ (plain_test l)).0)

pub plain_leaves : (l : Class) → with_operand ForPlain l ≡ Leave → ⊥
plain_leaves l h = true≢false (sym (ap is_other h) ∙ (or_parts _ _ (plain_test l)).1)

abbrev is_turn : Action → Bool
is_turn Turn = true
is_turn a = false

never_turns : (m : Class) → is_turn (begun_by Push m) ≡ false
never_turns (Infix Over) = refl
never_turns (Assigns Slashed) = refl
never_turns (First true opens) = refl
never_turns (Later tagged opens) = refl
never_turns Line = refl
never_turns (Jsx part) = refl
never_turns m = refl

-- the token behind an operand that the next one turns
pub turn_outside : (operand : Variant) (l m : Class) → without (wrapped_to operand l) m ≡ Turn → is_within l ≡ false
turn_outside operand (Infix Within) m h = absurd (true≢false (sym (ap is_turn h) ∙ never_turns m))
turn_outside operand l m h = refl

-- where no `in` takes an operand, though an operand stands: behind `<`
pub low_wraps : (l : Class) → with_operand (Open (OfInfix Comparing)) l ≡ Wrap → is_within l ≡ false
unfolding is_member is_new is_call is_callee is_chained is_left_hand_side is_update is_unary is_exponentiation is_multiplicative is_additive is_shift is_relational is_in_left is_equality is_bitwise_and is_bitwise_xor is_bitwise_or is_logical_and is_logical_or is_coalesce_head is_short_circuit is_conditional is_assignment is_expression is_assignment_target is_pattern_target is_pattern_element is_last_element is_coalesce is_private is_optional is_primary is_template is_property_name is_chain_link is_assignment_pattern is_pattern_name is_rest is_statement is_hoistable_declaration is_block is_variable_declarations is_declaration is_statement_list_item is_labelled_item is_module_declaration is_exported_head is_function_head is_generator_head is_async_function_head is_async_generator_head is_function_tail is_getter_tail is_setter_tail is_method_head is_decorator_list is_class_head is_class_tail is_class_element is_constructor_name is_any_function_head is_head_without_yield is_head_without_await is_any_property_name is_jsx_element is_jsx_object is_uncovered takes
low_wraps (Infix Within) h = absurd (true≢false (sym (ap is_wrap h)))
low_wraps l h = refl

low_test : (l : Class) → is_other (with_operand (Open (OfInfix Comparing)) l) ≡ false
unfolding is_member is_new is_call is_callee is_chained is_left_hand_side is_update is_unary is_exponentiation is_multiplicative is_additive is_shift is_relational is_in_left is_equality is_bitwise_and is_bitwise_xor is_bitwise_or is_logical_and is_logical_or is_coalesce_head is_short_circuit is_conditional is_assignment is_expression is_assignment_target is_pattern_target is_pattern_element is_last_element is_coalesce is_private is_optional is_primary is_template is_property_name is_chain_link is_assignment_pattern is_pattern_name is_rest is_statement is_hoistable_declaration is_block is_variable_declarations is_declaration is_statement_list_item is_labelled_item is_module_declaration is_exported_head is_function_head is_generator_head is_async_function_head is_async_generator_head is_function_tail is_getter_tail is_setter_tail is_method_head is_decorator_list is_class_head is_class_tail is_class_element is_constructor_name is_any_function_head is_head_without_yield is_head_without_await is_any_property_name is_jsx_element is_jsx_object is_uncovered takes
low_test (Infix Power) = refl
low_test (First true opens) = refl
low_test l = refl

pub low_leaves : (l : Class) → with_operand (Open (OfInfix Comparing)) l ≡ Leave → ⊥
low_leaves l h = true≢false (sym (ap is_other h) ∙ low_test l)
