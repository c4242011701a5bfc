-- What a nonterminal derives by unit productions it takes.
use Rattle.std.proofs.Common.{◌≡◌, true, refl, sym}
use Rattle.std.proofs.lemmas.Bool.{true≢false}
use Rattle.swc_ecma_codegen_syntax.specs.declared.nonterminals.Nonterminal.{Nonterminal}
use Rattle.swc_ecma_codegen_syntax.specs.declared.nonterminals.Nonterminal.TheVariants as nt
use Rattle.swc_ecma_codegen_syntax.specs.Nonterminals.{takes, is_additive, is_assignment, is_assignment_pattern, is_assignment_target, is_bitwise_and, is_bitwise_or, is_bitwise_xor, is_call, is_callee, is_chain_link, is_chained, is_coalesce, is_coalesce_head, is_conditional, is_equality, is_exponentiation, is_expression, is_in_left, is_last_element, is_left_hand_side, is_logical_and, is_logical_or, is_member, is_multiplicative, is_new, is_optional, is_pattern_element, is_pattern_name, is_pattern_target, is_primary, is_private, is_property_name, is_relational, is_rest, is_shift, is_short_circuit, is_template, is_unary, is_statement, is_hoistable_declaration, is_declaration, is_block, is_statement_list_item, is_variable_declarations, is_labelled_item, is_module_declaration, is_exported_head, is_function_head, is_generator_head, is_async_function_head, is_async_generator_head, is_function_tail, is_getter_tail, is_setter_tail, is_method_head, is_decorator_list, is_class_head, is_class_tail, is_class_element, is_constructor_name, is_any_function_head, is_head_without_yield, is_head_without_await, is_any_property_name, is_jsx_element, is_jsx_object, is_uncovered, is_update}
use Rattle.swc_ecma_codegen_syntax.specs.UnitProductions.{UnitProduction, Chain, here, step, member_expression_is_primary_expression, new_expression_is_member_expression, call_or_member_is_member_expression, call_or_member_is_call_expression, chain_base_is_member_expression, chain_base_is_optional_expression, chain_base_is_call_expression, left_hand_side_expression_is_new_expression, left_hand_side_expression_is_call_expression, left_hand_side_expression_is_optional_expression, update_expression_is_left_hand_side_expression, unary_expression_is_update_expression, exponentiation_expression_is_unary_expression, multiplicative_expression_is_exponentiation_expression, additive_expression_is_multiplicative_expression, shift_expression_is_additive_expression, relational_expression_is_shift_expression, in_left_is_relational_expression, in_left_is_private_identifier, equality_expression_is_relational_expression, bitwise_and_expression_is_equality_expression, bitwise_xor_expression_is_bitwise_and_expression, bitwise_or_expression_is_bitwise_xor_expression, logical_and_expression_is_bitwise_or_expression, logical_or_expression_is_logical_and_expression, coalesce_expression_head_is_bitwise_or_expression, coalesce_expression_head_is_coalesce_expression, short_circuit_expression_is_logical_or_expression, short_circuit_expression_is_coalesce_expression, conditional_expression_is_short_circuit_expression, assignment_expression_is_conditional_expression, expression_is_assignment_expression, assignment_target_is_left_hand_side_expression, assignment_target_is_assignment_pattern, pattern_target_is_pattern_name, pattern_element_is_pattern_target, last_element_is_pattern_element, last_element_is_rest_element, declaration_is_hoistable_declaration, statement_list_item_is_statement, statement_list_item_is_declaration, labelled_item_is_statement, labelled_item_is_hoistable_declaration, any_function_head_is_function_head, any_function_head_is_generator_head, any_function_head_is_async_function_head, any_function_head_is_async_generator_head, head_without_yield_is_function_head, head_without_yield_is_async_function_head, head_without_await_is_function_head, head_without_await_is_generator_head, any_property_name_is_property_name, any_property_name_is_constructor_name}

up_member_expression_is_primary_expression : (c : Nonterminal) → is_primary c ≡ true → is_member c ≡ true
unfolding is_primary is_member
up_member_expression_is_primary_expression nt.PrimaryExpression h = refl
up_member_expression_is_primary_expression c h = absurd (true≢false (sym h))

up_new_expression_is_member_expression : (c : Nonterminal) → is_member c ≡ true → is_new c ≡ true
unfolding is_new
up_new_expression_is_member_expression nt.NewExpression h = refl
up_new_expression_is_member_expression c h = h

up_call_or_member_is_member_expression : (c : Nonterminal) → is_member c ≡ true → is_callee c ≡ true
unfolding is_callee
up_call_or_member_is_member_expression nt.CallOrMember h = refl
up_call_or_member_is_member_expression nt.CallExpression h = refl
up_call_or_member_is_member_expression c h = h

up_call_or_member_is_call_expression : (c : Nonterminal) → is_call c ≡ true → is_callee c ≡ true
unfolding is_call is_callee
up_call_or_member_is_call_expression nt.CallExpression h = refl
up_call_or_member_is_call_expression c h = absurd (true≢false (sym h))

up_chain_base_is_member_expression : (c : Nonterminal) → is_member c ≡ true → is_chained c ≡ true
unfolding is_chained
up_chain_base_is_member_expression nt.ChainBase h = refl
up_chain_base_is_member_expression nt.OptionalExpression h = refl
up_chain_base_is_member_expression nt.CallExpression h = refl
up_chain_base_is_member_expression c h = h

up_chain_base_is_optional_expression : (c : Nonterminal) → is_optional c ≡ true → is_chained c ≡ true
unfolding is_optional is_chained
up_chain_base_is_optional_expression nt.OptionalExpression h = refl
up_chain_base_is_optional_expression c h = absurd (true≢false (sym h))

up_chain_base_is_call_expression : (c : Nonterminal) → is_call c ≡ true → is_chained c ≡ true
unfolding is_call is_chained
up_chain_base_is_call_expression nt.CallExpression h = refl
up_chain_base_is_call_expression c h = absurd (true≢false (sym h))

up_left_hand_side_expression_is_new_expression : (c : Nonterminal) → is_new c ≡ true → is_left_hand_side c ≡ true
unfolding is_left_hand_side
up_left_hand_side_expression_is_new_expression nt.LeftHandSideExpression h = refl
up_left_hand_side_expression_is_new_expression nt.CallExpression h = refl
up_left_hand_side_expression_is_new_expression nt.OptionalExpression h = refl
up_left_hand_side_expression_is_new_expression c h = h

up_left_hand_side_expression_is_call_expression : (c : Nonterminal) → is_call c ≡ true → is_left_hand_side c ≡ true
unfolding is_call is_left_hand_side
up_left_hand_side_expression_is_call_expression nt.CallExpression h = refl
up_left_hand_side_expression_is_call_expression c h = absurd (true≢false (sym h))

up_left_hand_side_expression_is_optional_expression : (c : Nonterminal) → is_optional c ≡ true → is_left_hand_side c ≡ true
unfolding is_optional is_left_hand_side
up_left_hand_side_expression_is_optional_expression nt.OptionalExpression h = refl
up_left_hand_side_expression_is_optional_expression c h = absurd (true≢false (sym h))

up_update_expression_is_left_hand_side_expression : (c : Nonterminal) → is_left_hand_side c ≡ true → is_update c ≡ true
unfolding is_update
up_update_expression_is_left_hand_side_expression nt.UpdateExpression h = refl
up_update_expression_is_left_hand_side_expression c h = h

up_unary_expression_is_update_expression : (c : Nonterminal) → is_update c ≡ true → is_unary c ≡ true
unfolding is_unary
up_unary_expression_is_update_expression nt.UnaryExpression h = refl
up_unary_expression_is_update_expression c h = h

up_exponentiation_expression_is_unary_expression : (c : Nonterminal) → is_unary c ≡ true → is_exponentiation c ≡ true
unfolding is_exponentiation
up_exponentiation_expression_is_unary_expression nt.ExponentiationExpression h = refl
up_exponentiation_expression_is_unary_expression c h = h

up_multiplicative_expression_is_exponentiation_expression : (c : Nonterminal) → is_exponentiation c ≡ true → is_multiplicative c ≡ true
unfolding is_multiplicative
up_multiplicative_expression_is_exponentiation_expression nt.MultiplicativeExpression h = refl
up_multiplicative_expression_is_exponentiation_expression c h = h

up_additive_expression_is_multiplicative_expression : (c : Nonterminal) → is_multiplicative c ≡ true → is_additive c ≡ true
unfolding is_additive
up_additive_expression_is_multiplicative_expression nt.AdditiveExpression h = refl
up_additive_expression_is_multiplicative_expression c h = h

up_shift_expression_is_additive_expression : (c : Nonterminal) → is_additive c ≡ true → is_shift c ≡ true
unfolding is_shift
up_shift_expression_is_additive_expression nt.ShiftExpression h = refl
up_shift_expression_is_additive_expression c h = h

up_relational_expression_is_shift_expression : (c : Nonterminal) → is_shift c ≡ true → is_relational c ≡ true
unfolding is_relational
up_relational_expression_is_shift_expression nt.RelationalExpression h = refl
up_relational_expression_is_shift_expression c h = h

up_in_left_is_relational_expression : (c : Nonterminal) → is_relational c ≡ true → is_in_left c ≡ true
unfolding is_in_left
up_in_left_is_relational_expression nt.InLeft h = refl
up_in_left_is_relational_expression nt.PrivateIdentifier h = refl
up_in_left_is_relational_expression c h = h

up_in_left_is_private_identifier : (c : Nonterminal) → is_private c ≡ true → is_in_left c ≡ true
unfolding is_private is_in_left
up_in_left_is_private_identifier nt.PrivateIdentifier h = refl
up_in_left_is_private_identifier c h = absurd (true≢false (sym h))

up_equality_expression_is_relational_expression : (c : Nonterminal) → is_relational c ≡ true → is_equality c ≡ true
unfolding is_equality
up_equality_expression_is_relational_expression nt.EqualityExpression h = refl
up_equality_expression_is_relational_expression c h = h

up_bitwise_and_expression_is_equality_expression : (c : Nonterminal) → is_equality c ≡ true → is_bitwise_and c ≡ true
unfolding is_bitwise_and
up_bitwise_and_expression_is_equality_expression nt.BitwiseAndExpression h = refl
up_bitwise_and_expression_is_equality_expression c h = h

up_bitwise_xor_expression_is_bitwise_and_expression : (c : Nonterminal) → is_bitwise_and c ≡ true → is_bitwise_xor c ≡ true
unfolding is_bitwise_xor
up_bitwise_xor_expression_is_bitwise_and_expression nt.BitwiseXorExpression h = refl
up_bitwise_xor_expression_is_bitwise_and_expression c h = h

up_bitwise_or_expression_is_bitwise_xor_expression : (c : Nonterminal) → is_bitwise_xor c ≡ true → is_bitwise_or c ≡ true
unfolding is_bitwise_or
up_bitwise_or_expression_is_bitwise_xor_expression nt.BitwiseOrExpression h = refl
up_bitwise_or_expression_is_bitwise_xor_expression c h = h

up_logical_and_expression_is_bitwise_or_expression : (c : Nonterminal) → is_bitwise_or c ≡ true → is_logical_and c ≡ true
unfolding is_logical_and
up_logical_and_expression_is_bitwise_or_expression nt.LogicalAndExpression h = refl
up_logical_and_expression_is_bitwise_or_expression c h = h

up_logical_or_expression_is_logical_and_expression : (c : Nonterminal) → is_logical_and c ≡ true → is_logical_or c ≡ true
unfolding is_logical_or
up_logical_or_expression_is_logical_and_expression nt.LogicalOrExpression h = refl
up_logical_or_expression_is_logical_and_expression c h = h

up_coalesce_expression_head_is_bitwise_or_expression : (c : Nonterminal) → is_bitwise_or c ≡ true → is_coalesce_head c ≡ true
unfolding is_coalesce_head
up_coalesce_expression_head_is_bitwise_or_expression nt.CoalesceExpressionHead h = refl
up_coalesce_expression_head_is_bitwise_or_expression nt.CoalesceExpression h = refl
up_coalesce_expression_head_is_bitwise_or_expression c h = h

up_coalesce_expression_head_is_coalesce_expression : (c : Nonterminal) → is_coalesce c ≡ true → is_coalesce_head c ≡ true
unfolding is_coalesce is_coalesce_head
up_coalesce_expression_head_is_coalesce_expression nt.CoalesceExpression h = refl
up_coalesce_expression_head_is_coalesce_expression c h = absurd (true≢false (sym h))

up_short_circuit_expression_is_logical_or_expression : (c : Nonterminal) → is_logical_or c ≡ true → is_short_circuit c ≡ true
unfolding is_short_circuit
up_short_circuit_expression_is_logical_or_expression nt.ShortCircuitExpression h = refl
up_short_circuit_expression_is_logical_or_expression nt.CoalesceExpression h = refl
up_short_circuit_expression_is_logical_or_expression c h = h

up_short_circuit_expression_is_coalesce_expression : (c : Nonterminal) → is_coalesce c ≡ true → is_short_circuit c ≡ true
unfolding is_coalesce is_short_circuit
up_short_circuit_expression_is_coalesce_expression nt.CoalesceExpression h = refl
up_short_circuit_expression_is_coalesce_expression c h = absurd (true≢false (sym h))

up_conditional_expression_is_short_circuit_expression : (c : Nonterminal) → is_short_circuit c ≡ true → is_conditional c ≡ true
unfolding is_conditional
up_conditional_expression_is_short_circuit_expression nt.ConditionalExpression h = refl
up_conditional_expression_is_short_circuit_expression c h = h

up_assignment_expression_is_conditional_expression : (c : Nonterminal) → is_conditional c ≡ true → is_assignment c ≡ true
unfolding is_assignment
up_assignment_expression_is_conditional_expression nt.AssignmentExpression h = refl
up_assignment_expression_is_conditional_expression c h = h

up_expression_is_assignment_expression : (c : Nonterminal) → is_assignment c ≡ true → is_expression c ≡ true
unfolding is_expression
up_expression_is_assignment_expression nt.Expression h = refl
up_expression_is_assignment_expression c h = h

up_assignment_target_is_left_hand_side_expression : (c : Nonterminal) → is_left_hand_side c ≡ true → is_assignment_target c ≡ true
unfolding is_assignment_target
up_assignment_target_is_left_hand_side_expression nt.AssignmentTarget h = refl
up_assignment_target_is_left_hand_side_expression nt.AssignmentPattern h = refl
up_assignment_target_is_left_hand_side_expression c h = h

up_assignment_target_is_assignment_pattern : (c : Nonterminal) → is_assignment_pattern c ≡ true → is_assignment_target c ≡ true
unfolding is_assignment_pattern is_assignment_target
up_assignment_target_is_assignment_pattern nt.AssignmentPattern h = refl
up_assignment_target_is_assignment_pattern c h = absurd (true≢false (sym h))

up_pattern_target_is_pattern_name : (c : Nonterminal) → is_pattern_name c ≡ true → is_pattern_target c ≡ true
unfolding is_pattern_name is_pattern_target
up_pattern_target_is_pattern_name nt.PatternName h = refl
up_pattern_target_is_pattern_name c h = absurd (true≢false (sym h))

up_pattern_element_is_pattern_target : (c : Nonterminal) → is_pattern_target c ≡ true → is_pattern_element c ≡ true
unfolding is_pattern_element
up_pattern_element_is_pattern_target nt.PatternElement h = refl
up_pattern_element_is_pattern_target c h = h

up_last_element_is_pattern_element : (c : Nonterminal) → is_pattern_element c ≡ true → is_last_element c ≡ true
unfolding is_last_element
up_last_element_is_pattern_element nt.LastElement h = refl
up_last_element_is_pattern_element nt.RestElement h = refl
up_last_element_is_pattern_element c h = h

up_last_element_is_rest_element : (c : Nonterminal) → is_rest c ≡ true → is_last_element c ≡ true
unfolding is_rest is_last_element
up_last_element_is_rest_element nt.RestElement h = refl
up_last_element_is_rest_element c h = absurd (true≢false (sym h))

up_declaration_is_hoistable_declaration : (c : Nonterminal) → is_hoistable_declaration c ≡ true → is_declaration c ≡ true
unfolding is_declaration
up_declaration_is_hoistable_declaration nt.Declaration h = refl
up_declaration_is_hoistable_declaration c h = h

up_statement_list_item_is_statement : (c : Nonterminal) → is_statement c ≡ true → is_statement_list_item c ≡ true
unfolding is_statement is_statement_list_item
up_statement_list_item_is_statement nt.Statement h = refl
up_statement_list_item_is_statement c h = absurd (true≢false (sym h))

up_statement_list_item_is_declaration : (c : Nonterminal) → is_declaration c ≡ true → is_statement_list_item c ≡ true
unfolding is_statement_list_item
up_statement_list_item_is_declaration nt.StatementListItem h = refl
up_statement_list_item_is_declaration nt.Statement h = refl
up_statement_list_item_is_declaration c h = h

up_labelled_item_is_statement : (c : Nonterminal) → is_statement c ≡ true → is_labelled_item c ≡ true
unfolding is_statement is_labelled_item
up_labelled_item_is_statement nt.Statement h = refl
up_labelled_item_is_statement c h = absurd (true≢false (sym h))

up_labelled_item_is_hoistable_declaration : (c : Nonterminal) → is_hoistable_declaration c ≡ true → is_labelled_item c ≡ true
unfolding is_labelled_item
up_labelled_item_is_hoistable_declaration nt.LabelledItem h = refl
up_labelled_item_is_hoistable_declaration nt.Statement h = refl
up_labelled_item_is_hoistable_declaration c h = h

up_any_function_head_is_function_head : (c : Nonterminal) → is_function_head c ≡ true → is_any_function_head c ≡ true
unfolding is_function_head is_any_function_head
up_any_function_head_is_function_head nt.FunctionHead h = refl
up_any_function_head_is_function_head c h = absurd (true≢false (sym h))

up_any_function_head_is_generator_head : (c : Nonterminal) → is_generator_head c ≡ true → is_any_function_head c ≡ true
unfolding is_generator_head is_any_function_head
up_any_function_head_is_generator_head nt.GeneratorHead h = refl
up_any_function_head_is_generator_head c h = absurd (true≢false (sym h))

up_any_function_head_is_async_function_head : (c : Nonterminal) → is_async_function_head c ≡ true → is_any_function_head c ≡ true
unfolding is_async_function_head is_any_function_head
up_any_function_head_is_async_function_head nt.AsyncFunctionHead h = refl
up_any_function_head_is_async_function_head c h = absurd (true≢false (sym h))

up_any_function_head_is_async_generator_head : (c : Nonterminal) → is_async_generator_head c ≡ true → is_any_function_head c ≡ true
unfolding is_async_generator_head is_any_function_head
up_any_function_head_is_async_generator_head nt.AsyncGeneratorHead h = refl
up_any_function_head_is_async_generator_head c h = absurd (true≢false (sym h))

up_head_without_yield_is_function_head : (c : Nonterminal) → is_function_head c ≡ true → is_head_without_yield c ≡ true
unfolding is_function_head is_head_without_yield
up_head_without_yield_is_function_head nt.FunctionHead h = refl
up_head_without_yield_is_function_head c h = absurd (true≢false (sym h))

up_head_without_yield_is_async_function_head : (c : Nonterminal) → is_async_function_head c ≡ true → is_head_without_yield c ≡ true
unfolding is_async_function_head is_head_without_yield
up_head_without_yield_is_async_function_head nt.AsyncFunctionHead h = refl
up_head_without_yield_is_async_function_head c h = absurd (true≢false (sym h))

up_head_without_await_is_function_head : (c : Nonterminal) → is_function_head c ≡ true → is_head_without_await c ≡ true
unfolding is_function_head is_head_without_await
up_head_without_await_is_function_head nt.FunctionHead h = refl
up_head_without_await_is_function_head c h = absurd (true≢false (sym h))

up_head_without_await_is_generator_head : (c : Nonterminal) → is_generator_head c ≡ true → is_head_without_await c ≡ true
unfolding is_generator_head is_head_without_await
up_head_without_await_is_generator_head nt.GeneratorHead h = refl
up_head_without_await_is_generator_head c h = absurd (true≢false (sym h))

up_any_property_name_is_property_name : (c : Nonterminal) → is_property_name c ≡ true → is_any_property_name c ≡ true
unfolding is_property_name is_any_property_name
up_any_property_name_is_property_name nt.PropertyName h = refl
up_any_property_name_is_property_name c h = absurd (true≢false (sym h))

up_any_property_name_is_constructor_name : (c : Nonterminal) → is_constructor_name c ≡ true → is_any_property_name c ≡ true
unfolding is_constructor_name is_any_property_name
up_any_property_name_is_constructor_name nt.ConstructorName h = refl
up_any_property_name_is_constructor_name c h = absurd (true≢false (sym h))

up : (a b c : Nonterminal) → UnitProduction a b → takes b c ≡ true → takes a c ≡ true
unfolding takes
up a b c member_expression_is_primary_expression h = up_member_expression_is_primary_expression c h
up a b c new_expression_is_member_expression h = up_new_expression_is_member_expression c h
up a b c call_or_member_is_member_expression h = up_call_or_member_is_member_expression c h
up a b c call_or_member_is_call_expression h = up_call_or_member_is_call_expression c h
up a b c chain_base_is_member_expression h = up_chain_base_is_member_expression c h
up a b c chain_base_is_optional_expression h = up_chain_base_is_optional_expression c h
up a b c chain_base_is_call_expression h = up_chain_base_is_call_expression c h
up a b c left_hand_side_expression_is_new_expression h = up_left_hand_side_expression_is_new_expression c h
up a b c left_hand_side_expression_is_call_expression h = up_left_hand_side_expression_is_call_expression c h
up a b c left_hand_side_expression_is_optional_expression h = up_left_hand_side_expression_is_optional_expression c h
up a b c update_expression_is_left_hand_side_expression h = up_update_expression_is_left_hand_side_expression c h
up a b c unary_expression_is_update_expression h = up_unary_expression_is_update_expression c h
up a b c exponentiation_expression_is_unary_expression h = up_exponentiation_expression_is_unary_expression c h
up a b c multiplicative_expression_is_exponentiation_expression h = up_multiplicative_expression_is_exponentiation_expression c h
up a b c additive_expression_is_multiplicative_expression h = up_additive_expression_is_multiplicative_expression c h
up a b c shift_expression_is_additive_expression h = up_shift_expression_is_additive_expression c h
up a b c relational_expression_is_shift_expression h = up_relational_expression_is_shift_expression c h
up a b c in_left_is_relational_expression h = up_in_left_is_relational_expression c h
up a b c in_left_is_private_identifier h = up_in_left_is_private_identifier c h
up a b c equality_expression_is_relational_expression h = up_equality_expression_is_relational_expression c h
up a b c bitwise_and_expression_is_equality_expression h = up_bitwise_and_expression_is_equality_expression c h
up a b c bitwise_xor_expression_is_bitwise_and_expression h = up_bitwise_xor_expression_is_bitwise_and_expression c h
up a b c bitwise_or_expression_is_bitwise_xor_expression h = up_bitwise_or_expression_is_bitwise_xor_expression c h
up a b c logical_and_expression_is_bitwise_or_expression h = up_logical_and_expression_is_bitwise_or_expression c h
up a b c logical_or_expression_is_logical_and_expression h = up_logical_or_expression_is_logical_and_expression c h
up a b c coalesce_expression_head_is_bitwise_or_expression h = up_coalesce_expression_head_is_bitwise_or_expression c h
up a b c coalesce_expression_head_is_coalesce_expression h = up_coalesce_expression_head_is_coalesce_expression c h
up a b c short_circuit_expression_is_logical_or_expression h = up_short_circuit_expression_is_logical_or_expression c h
up a b c short_circuit_expression_is_coalesce_expression h = up_short_circuit_expression_is_coalesce_expression c h
up a b c conditional_expression_is_short_circuit_expression h = up_conditional_expression_is_short_circuit_expression c h
up a b c assignment_expression_is_conditional_expression h = up_assignment_expression_is_conditional_expression c h
up a b c expression_is_assignment_expression h = up_expression_is_assignment_expression c h
up a b c assignment_target_is_left_hand_side_expression h = up_assignment_target_is_left_hand_side_expression c h
up a b c assignment_target_is_assignment_pattern h = up_assignment_target_is_assignment_pattern c h
up a b c pattern_target_is_pattern_name h = up_pattern_target_is_pattern_name c h
up a b c pattern_element_is_pattern_target h = up_pattern_element_is_pattern_target c h
up a b c last_element_is_pattern_element h = up_last_element_is_pattern_element c h
up a b c last_element_is_rest_element h = up_last_element_is_rest_element c h
up a b c declaration_is_hoistable_declaration h = up_declaration_is_hoistable_declaration c h
up a b c statement_list_item_is_statement h = up_statement_list_item_is_statement c h
up a b c statement_list_item_is_declaration h = up_statement_list_item_is_declaration c h
up a b c labelled_item_is_statement h = up_labelled_item_is_statement c h
up a b c labelled_item_is_hoistable_declaration h = up_labelled_item_is_hoistable_declaration c h
up a b c any_function_head_is_function_head h = up_any_function_head_is_function_head c h
up a b c any_function_head_is_generator_head h = up_any_function_head_is_generator_head c h
up a b c any_function_head_is_async_function_head h = up_any_function_head_is_async_function_head c h
up a b c any_function_head_is_async_generator_head h = up_any_function_head_is_async_generator_head c h
up a b c head_without_yield_is_function_head h = up_head_without_yield_is_function_head c h
up a b c head_without_yield_is_async_function_head h = up_head_without_yield_is_async_function_head c h
up a b c head_without_await_is_function_head h = up_head_without_await_is_function_head c h
up a b c head_without_await_is_generator_head h = up_head_without_await_is_generator_head c h
up a b c any_property_name_is_property_name h = up_any_property_name_is_property_name c h
up a b c any_property_name_is_constructor_name h = up_any_property_name_is_constructor_name c h

takes_self : (a : Nonterminal) → takes a a ≡ true
unfolding takes is_additive is_assignment is_assignment_pattern is_assignment_target is_bitwise_and is_bitwise_or is_bitwise_xor is_call is_callee is_chain_link is_chained is_coalesce is_coalesce_head is_conditional is_equality is_exponentiation is_expression is_in_left is_last_element is_left_hand_side is_logical_and is_logical_or is_member is_multiplicative is_new is_optional is_pattern_element is_pattern_name is_pattern_target is_primary is_private is_property_name is_relational is_rest is_shift is_short_circuit is_template is_unary is_statement is_hoistable_declaration is_declaration is_block is_statement_list_item is_variable_declarations is_labelled_item is_module_declaration is_exported_head is_function_head is_generator_head is_async_function_head is_async_generator_head is_function_tail is_getter_tail is_setter_tail is_method_head is_decorator_list is_class_head is_class_tail is_class_element is_constructor_name is_any_function_head is_head_without_yield is_head_without_await is_any_property_name is_jsx_element is_jsx_object is_uncovered is_update
takes_self nt.Expression = refl
takes_self a = refl

pub chain_takes : (a c : Nonterminal) → Chain a c → takes a c ≡ true
chain_takes a c here = takes_self a
chain_takes a c (step {b = b} p d) = up a b c p (chain_takes b c d)
